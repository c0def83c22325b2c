-- Where any timer's line is permitted, the timer is at an endpoint that was asked, with the least values.
use Rattle.std.proofs.Common.{◌≡◌, ℕ, zero, suc, true, false, List, [], ◌∷◌, map, Option, None, Some, refl, ap, sym, ◌∙◌, subst, nat_lt, arith}
use Rattle.std.specs.Prelude.{slice_get, ◌||◌}
use Rattle.std.specs.Option.{option_map_or}
use Rattle.std.proofs.lemmas.Bool.Decides.{nat_tests}
use Rattle.std.proofs.lemmas.Option.{none-some, same_Some}
use Rattle.case_forms.specs.TakenLines.{timer_of}
use Rattle.case_forms.specs.declared.calls.Ports.{Ports}
use Rattle.case_forms.specs.declared.taken_line.Expired.{Expired}
use Rattle.case_forms.specs.declared.taken_line.Expired.TheVariants.{Giveup, Msl2, Persist, Pto, Rto}
use Rattle.case_forms.specs.declared.calls.Host.{Host}
use Rattle.case_forms.specs.declared.trace.Header.{Header}
use Rattle.verdict.specs.Rules.{first_broken}
use Rattle.verdict.specs.declared.rule.Rule.TheVariants as rules
use Rattle.verdict.proofs.RuleLemmas.{none_all, all_none}
use Rattle.spec_network.specs.Tables.{pick}
use Rattle.spec_network.specs.Hosts.{At, Expires}
use Rattle.spec_network.specs.HostRules.{Permitted}
use Rattle.spec_tcp.specs.HostTcp.{HostTcp, endpoint_of}
use Rattle.spec_tcp.specs.Forgetting.{forget_body, forget_endpoint}
use Rattle.spec_tcp.specs.Machine.{Expiring, tcp}
use Rattle.spec_tcp.specs.Timeouts.{expiry_rules, greatest_values}
use Rattle.spec_tcp.specs.declared.endpoint.Endpoint.{Endpoint}
use Rattle.stack_core.specs.Recordings.{Recorded, world_left}
use Rattle.stack_core.specs.declared.tick.Tick.{Tick}
use Rattle.stack_core.specs.Cores.{Core, Fits, event_begun, world}
use Rattle.stack_core.specs.TimerEvents.{IsNotDueAt, IsRefused, NoneDueAt, expiry_step, is_kept}
use Rattle.stack_core.proofs.MakingLemmas.{of_ports}

-- the same timer, with the least values
abbrev least : Expired → Expired
least (Rto growth) = Rto (record { cwnd = 0; ssthresh = 0 })
least x = x

never : (x : ℕ) → nat_lt x 0 ≡ false
never x = grind (arith, nat_tests)

no_more : (x y : ℕ) → (nat_lt x 0 || nat_lt y 0) ≡ false
no_more x y = rw (never x, never y) refl

timer_may : (h : Header) (moment : ℕ) (e : Endpoint) (x : Expired) → first_broken (expiry_rules h moment e x) ≡ None
    → first_broken (expiry_rules h moment e (least x)) ≡ None
timer_may h moment e (Rto growth) may =
    let t = none_all (expiry_rules h moment e (Rto growth)) may in
    all_none (expiry_rules h moment e (least (Rto growth)))
    (t.0, (no_more ((greatest_values e moment).0) ((greatest_values e moment).1), (t.1.1.0, (t.1.1.1.0, tt))))
timer_may h moment e Persist may = may
timer_may h moment e Msl2 may = may
timer_may h moment e Giveup may = may
timer_may h moment e Pto may = may

pub kept_there : (es : List Endpoint) (i : ℕ) (e : Endpoint) → slice_get es i ≡ Some e → slice_get (map forget_endpoint es) i ≡ Some (forget_endpoint e)
kept_there [] i e is = absurd (none-some e is)
kept_there (x ∷ es) zero e is = ap (λ (y : Endpoint). Some (forget_endpoint y)) (same_Some x e is)
kept_there (x ∷ es) (suc i) e is = kept_there es i e is

-- the rules at the endpoint of ports
at_ports : (r : Recorded) (moment : ℕ) (x : Expiring) (o : Option Endpoint) → endpoint_of (pick (world_left r).hosts r.me).body x.lport x.rport ≡ o
    → Permitted (tcp r.header) moment (world_left r) (At r.me (Expires 0 x))
    → first_broken (option_map_or (λ e. expiry_rules r.header moment e x.expired) o ((rules.NoEndpoint, true) ∷ []))
    ≡ None
at_ports r moment x o is may =
    subst (λ (o : Option Endpoint).
    first_broken (option_map_or (λ e. expiry_rules r.header moment e x.expired) o ((rules.NoEndpoint, true) ∷ []))
    ≡ None) is may

by_kind : (r : Recorded) (moment : ℕ) (ports : Ports) → IsRefused r moment ports → (x : Expired) → is_kept (timer_of x) ≡ true
    → IsNotDueAt r moment ports (least x)
by_kind r moment ports is (Rto growth) kept = is.rto
by_kind r moment ports is Persist kept = is.persist
by_kind r moment ports is Msl2 kept = is.msl2
by_kind r moment ports is Giveup kept = absurd cc
by_kind r moment ports is Pto kept = absurd cc

back_at : (r : Recorded) (moment : ℕ) (x : Expiring) (e : Endpoint) → endpoint_of (pick (world_left r).hosts r.me).body x.lport x.rport ≡ Some e
    → first_broken (expiry_rules r.header moment e x.expired) ≡ None → Permitted (tcp r.header) moment (world_left r) (At r.me (Expires 0 x))
back_at r moment x e is may =
    subst (λ (o : Option Endpoint).
    first_broken (option_map_or (λ e. expiry_rules r.header moment e x.expired) o ((rules.NoEndpoint, true) ∷ []))
    ≡ None) (sym is) may

pub none_due : (r : Recorded) (moment : ℕ) (b : HostTcp) → b ≡ forget_body (pick (world_left r).hosts r.me).body
    → ((i : ℕ) (e : Endpoint) → slice_get b.endpoints i ≡ Some e → IsRefused r moment (record { lport = e.lport; rport = e.rport })) → NoneDueAt r moment
none_due r moment b is refused x kept may = by (endpoint_of (pick (world_left r).hosts r.me).body x.lport x.rport) refl
  where
    by : (o : Option Endpoint) → endpoint_of (pick (world_left r).hosts r.me).body x.lport x.rport ≡ o → ⊥
    by None at = absurd (let none = at_ports r moment x None at may in cc)
    by (Some e) at =
        let place = of_ports (pick (world_left r).hosts r.me).body x.lport x.rport e at in
        let there : slice_get b.endpoints place.0 ≡ Some (forget_endpoint e) =
        ap (λ (c : HostTcp). slice_get c.endpoints place.0) is
        ∙ kept_there (pick (world_left r).hosts r.me).body.endpoints place.0 e place.1 in
        let refuses : IsRefused r moment (record { lport = x.lport; rport = x.rport }) =
        subst (λ (p : ℕ). IsRefused r moment (record { lport = x.lport; rport = p })) place.3
        (subst (λ (p : ℕ). IsRefused r moment (record { lport = p; rport = e.rport })) place.2 (refused place.0 (forget_endpoint e) there)) in
        by_kind r moment (record { lport = x.lport; rport = x.rport }) refuses x.expired
        kept (back_at r moment (record x { expired = least x.expired }) e at
        (timer_may r.header moment e x.expired (at_ports r moment x (Some e) at may)))

-- the line of a timer that may expire fits
pub expiry_fits : (c d : Core) (tick : Tick) (n : ℕ) (me : Host) (ports : Ports) (e : Expired) → d ≡ event_begun c tick → me ≡ d.recorded.me
    → ((m : ℕ) → Permitted (tcp c.recorded.header) tick.moment (world c) (expiry_step c.recorded.me m ports e)) → Fits d (expiry_step me n ports e)
expiry_fits c d tick n me ports e is me_is may =
    subst (λ (h : Host). Fits d (expiry_step h n ports e)) (sym me_is)
    (subst (λ (x : Core). Fits x (expiry_step x.recorded.me n ports e)) (sym is) (may n, refl))
