-- What may be discarded has nothing to do with how much is judged.
use Rattle.std.proofs.Common.{◌≡◌, ℕ, suc, List, [], ◌∷◌, map, Option, None, Some, refl, sym, ap, subst, ◌∙◌}
use Rattle.std.specs.Prelude.{slice_get}
use Rattle.std.specs.Option.{option_map}
use Rattle.std.proofs.lemmas.Option.{none-some, same_Some, slice_get-map}
use Rattle.case_forms.specs.declared.calls.Host.{Host}
use Rattle.case_forms.specs.declared.calls.Host.TheVariants.{One, Zero}
use Rattle.case_forms.specs.declared.trace.Header.{Header}
use Rattle.case_forms.specs.declared.version.Judged.{Judged}
use Rattle.window_rules.specs.ControlLaws.{IsLimited}
use Rattle.window_rules.specs.declared.control.Profile.{Profile}
use Rattle.spec_network.specs.Hosts.{Step, World}
use Rattle.spec_network.specs.HostSteps as network
use Rattle.spec_network.specs.Tables.{pick}
use Rattle.spec_tcp.specs.Forgetting.{forget, forget_endpoint}
use Rattle.spec_tcp.specs.Machine.{tcp, tcp_shape}
use Rattle.spec_tcp.specs.Signals.{profile_of}
use Rattle.spec_tcp.specs.declared.endpoint.Endpoint.{Endpoint}
use Rattle.spec_tcp.specs.declared.endpoint.EndpointId.{EndpointId}
use Rattle.spec_tcp_laws.specs.Consequences.{find}
use Rattle.spec_tcp_laws.specs.Judging.{IsJudged, endpoint_by, header_by, world_by}
use Rattle.spec_tcp_laws.proofs.JudgedWorlds.{after_kept}
use Rattle.endpoint_state.specs.Worlds.{Progress, after}
use Rattle.spec_step.specs.Judging.{less_judged}

forgets_by : (p : Profile) (es : List Endpoint) → map forget_endpoint (map (endpoint_by p) es) ≡ map (endpoint_by p) (map forget_endpoint es)
forgets_by p [] = refl
forgets_by p (e ∷ es) = let rest = forgets_by p es in cc

forget_by : (p : Profile) (w : World tcp_shape) → forget (world_by p w) ≡ world_by p (forget w)
forget_by p w = rw (forgets_by p w.hosts.zero.body.endpoints, forgets_by p w.hosts.one.body.endpoints) refl

-- an endpoint of which something was discarded is there as the endpoint that it was
found : (es : List Endpoint) (i : ℕ) (f : Endpoint) → slice_get (map forget_endpoint es) i ≡ Some f
    → (e : Endpoint) × (slice_get es i ≡ Some e) × (forget_endpoint e ≡ f)
found es i f at = by (slice_get es i) refl (sym (slice_get-map forget_endpoint es i) ∙ at)
  where
    by : (o : Option Endpoint) → slice_get es i ≡ o → option_map forget_endpoint o ≡ Some f
        → (e : Endpoint) × (slice_get es i ≡ Some e) × (forget_endpoint e ≡ f)
    by None is at = absurd (none-some f at)
    by (Some e) is at = (e, is, same_Some (forget_endpoint e) f at)

found_in : (w : World tcp_shape) (me : EndpointId) (f : Endpoint) → find (forget w).hosts me ≡ Some f
    → (e : Endpoint) × (find w.hosts me ≡ Some e) × (forget_endpoint e ≡ f)
found_in w me f at = by me.host at
  where
    by : (host : Host) → slice_get (pick (forget w).hosts host).body.endpoints me.number ≡ Some f
        → (e : Endpoint) × (slice_get (pick w.hosts host).body.endpoints me.number ≡ Some e) × (forget_endpoint e ≡ f)
    by Zero at = found w.hosts.zero.body.endpoints me.number f at
    by One at = found w.hosts.one.body.endpoints me.number f at

pub judged_forgets : (h : Header) (w : World tcp_shape) → IsJudged h w → IsJudged h (forget w)
judged_forgets h w is = record {
  profiles = λ me f at. let x = found_in w me f at in ap (λ (e : Endpoint). e.control.profile) (sym x.2) ∙ is.profiles me x.0 x.1;
  values = λ me f at. let x = found_in w me f at in subst (λ (e : Endpoint). IsLimited e.control) x.2 (is.values me x.0 x.1);
}

pub after_same : (j : Judged) (p : Progress) (moment : ℕ) (step : Step tcp_shape) → after (less_judged j p) moment step ≡ less_judged j (after p moment step)
after_same j p moment step =
    ap (λ (w : World tcp_shape). record { header = header_by j p.header; world = w; steps = suc p.steps })
    (ap forget (after_kept j p.header moment p.world step) ∙ forget_by (profile_of (header_by j p.header)) (network.after (tcp p.header) moment p.world step))
