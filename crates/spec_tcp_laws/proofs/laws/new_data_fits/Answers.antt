use Rattle.std.proofs.Common.{◌≡◌, ◌<◌, ◌≤◌, ◌+◌, ◌-◌, ℕ, Bool, true, false, List, [], ◌∷◌, length, take, drop, Option, None, Some, refl, sym, subst, arith}
use Rattle.std.specs.Prelude.{nat_lt, ◌&&◌, slice_get}
use Rattle.std.specs.Option.{option_map, option_map_or}
use Rattle.std.proofs.lemmas.List.{length-take}
use Rattle.std.proofs.lemmas.Option.{none-some, same_Some}
use Rattle.verdict.specs.declared.rule.Rule.TheVariants as rules
use Rattle.verdict.specs.Rules.{first_broken}
use Rattle.window_rules.specs.Windows.{offered_edge}
use Rattle.window_rules.specs.Control.{control_edge}
use Rattle.spec_network.specs.Tables.{pick}
use Rattle.spec_tcp.specs.declared.endpoint.Endpoint.{Endpoint}
use Rattle.spec_tcp.specs.declared.endpoint.Emission.{Emission}
use Rattle.spec_tcp.specs.Endpoints.{snd_max}
use Rattle.spec_tcp.specs.HostTcp.{place_of}
use Rattle.case_forms.specs.declared.steps.SegmentPlan.{SegmentPlan}
use Rattle.spec_tcp.specs.Makes.Payload.{has_new_bytes}
use Rattle.spec_tcp.specs.Makes.{making_rules, emission_of}
use Rattle.spec_tcp.specs.Machine.{made_at}
use Rattle.spec_tcp_laws.specs.Bounds.{InBothWindows}
use Rattle.spec_tcp_laws.proofs.Rules.{and_false, at_most_from, less_to}
use Rattle.spec_tcp_laws.proofs.Later.{name}
use Rattle.spec_tcp_laws.proofs.Makes.{MayMake, making_facts}
use Rattle.spec_tcp_laws.proofs.laws.new_data_fits.Goals as goal

both : (b c : Bool) → b ≡ true → c ≡ true → (b && c) ≡ true
both true true p q = refl
both true false p q = absurd cc
both false c p q = absurd cc

-- of the segment that an endpoint makes
fits : (e : Endpoint) (m : SegmentPlan) → MayMake e m → (n : ℕ) → n ≤ m.len → 0 < n → snd_max e < m.pos + n → InBothWindows e (m.pos + n)
fits e m t n le some above =
    let new : has_new_bytes e m ≡ true =
    both (nat_lt 0 m.len) (nat_lt (snd_max e) (m.pos + m.len)) (less_to 0 m.len (omega arith))
    (less_to (snd_max e) (m.pos + m.len) (omega arith)) in
    let offered = at_most_from (offered_edge e.stream.snd_una e.window.snd_wnd e.probe_due) (m.pos + m.len) (and_false (has_new_bytes e m) _ t.offered new) in
    let congestion = at_most_from (control_edge e.stream.snd_una e.control) (m.pos + m.len) (and_false (has_new_bytes e m) _ t.congestion new) in
    record { offered = omega arith; congestion = omega arith }

pub returns : goal.returns
returns c h moment w host m may = go (place_of (pick w.hosts host).body m.lport m.rport) may
  where
    es : List Endpoint
    es = (pick w.hosts host).body.endpoints

    made : (i : ℕ) (e : Endpoint) (x : Emission) → MayMake e m → Some (emission_of (name host i) e m moment) ≡ Some x
        → 0 < length x.payload → snd_max e < x.pos + length x.payload → InBothWindows e (x.pos + length x.payload)
    made i e x t is =
        subst (λ (y : Emission). 0 < length y.payload → snd_max e < y.pos + length y.payload
        → InBothWindows e (y.pos + length y.payload)) (same_Some (emission_of (name host i) e m moment) x is)
        (fits e m t (length (take m.len (drop (m.pos - 1) e.stream.accepted))) (omega (arith, length-take m.len (drop (m.pos - 1) e.stream.accepted))))

    by : (i : ℕ) (o : Option Endpoint) → first_broken (option_map_or (λ e. making_rules h.version e m) o ((rules.NoEndpoint, true) ∷ [])) ≡ None
        → (e : Endpoint) × (o ≡ Some e)
        × ((x : Emission) → option_map (λ y. emission_of (name host i) y m moment) o ≡ Some x → 0 < length x.payload
        → snd_max e < x.pos + length x.payload → InBothWindows e (x.pos + length x.payload))
    by i None may = absurd (none-some _ (sym may))
    by i (Some e) may = (e, refl, λ x is. made i e x (making_facts h.version e m may) is)

    go : (o : Option ℕ)
        → first_broken (option_map_or (λ e. making_rules h.version e m) (option_map_or (λ i. slice_get es i) o None)
        ((rules.NoEndpoint, true) ∷ [])) ≡ None
        → (e : Endpoint) × (option_map_or (λ i. slice_get es i) o None ≡ Some e)
        × ((x : Emission) → option_map_or (made_at host moment (pick w.hosts host).body m) o None ≡ Some x
        → 0 < length x.payload → snd_max e < x.pos + length x.payload → InBothWindows e (x.pos + length x.payload))
    go None may = absurd (none-some _ (sym may))
    go (Some i) may = by i (slice_get es i) may
