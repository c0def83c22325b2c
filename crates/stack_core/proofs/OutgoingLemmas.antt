-- A segment that was made waits to go out, and goes out.
use Rattle.std.proofs.Common.{◌≡◌, ◌≤◌, ℕ, zero, suc, Bool, true, List, [], ◌∷◌, ◌++◌, length, take, drop, Option, None}
use Rattle.std.proofs.Common.{Some, refl, ap, sym, ◌∙◌, subst, nat_eq, arith}
use Rattle.std.specs.Prelude.{cond, slice_get, ◌-◌}
use Rattle.std.specs.Map.{lookup}
use Rattle.std.specs.Option.{option_map, option_map_or}
use Rattle.std.proofs.lemmas.Bool.Decides.{nat_tests}
use Rattle.indexmap.specs.IndexMap.{insert_entry}
use Rattle.case_forms.specs.declared.calls.Host.{Host}
use Rattle.case_forms.specs.declared.calls.Host.TheVariants.{Zero, One}
use Rattle.case_forms.specs.declared.steps.SegmentPlan.{SegmentPlan}
use Rattle.case_forms.specs.declared.trace.Header.{Header}
use Rattle.case_forms.specs.declared.trace.Wire.{Wire}
use Rattle.verdict.specs.Rules.{first_broken}
use Rattle.verdict.specs.declared.rule.Rule.TheVariants as rules
use Rattle.spec_network.specs.Tables.{Made, on, pick, unsent}
use Rattle.spec_network.specs.Hosts.{World, At, Makes, Sends, Step}
use Rattle.spec_network.specs.HostRules.{Permitted, just}
use Rattle.spec_network.specs.HostSteps.{after}
use Rattle.spec_network.proofs.Entries.{lookup_insert}
use Rattle.spec_tcp.specs.HostTcp.{HostTcp, place_of}
use Rattle.spec_tcp.specs.declared.endpoint.Emission.{Emission}
use Rattle.spec_tcp.specs.declared.endpoint.Endpoint.{Endpoint}
use Rattle.spec_tcp.specs.Machine.{act_makes, act_rules, made_at, tcp, tcp_shape}
use Rattle.spec_tcp.specs.Machine as acts
use Rattle.spec_tcp.specs.Makes.{emission_of, making_rules}
use Rattle.spec_tcp.specs.Wire.{matches_sent, out_rules, sent}
use Rattle.spec_merge.specs.Books.{Flying}
use Rattle.endpoint_state.proofs.Wired.{payload_sent}
use Rattle.stack_core.specs.Cores.{Core, Fits, line_to_come, with_step, world}
use Rattle.stack_core.specs.Outgoing.{GoesOut, MayGo, WaitsToGo, greatest_payload}
use Rattle.stack_core.proofs.Cores.{leads}

same_key : (n : ℕ) → nat_eq n n ≡ true
same_key n = grind (arith, nat_tests)

-- 1. made

few_taken : (n : ℕ) (xs : List ℕ) → length (take n xs) ≤ n
few_taken zero [] = omega arith
few_taken zero (x ∷ xs) = omega arith
few_taken (suc n) [] = omega arith
few_taken (suc n) (x ∷ xs) = let few = few_taken n xs in omega arith

-- a segment that may be made is one, of at most so many bytes
makes_one : (me : Host) (b : HostTcp) (m : SegmentPlan) (h : Header) (moment : ℕ)
    → first_broken (act_rules h me moment b (acts.Makes m)) ≡ None
    → (e : Emission) × (act_makes me moment b (acts.Makes m) ≡ Some e) × (length e.payload ≤ m.len)
makes_one me b m h moment may = by (place_of b m.lport m.rport) may
  where
    at : (i : ℕ) (o : Option Endpoint) → first_broken (option_map_or (λ e. making_rules h.version e m) o ((rules.NoEndpoint, true) ∷ [])) ≡ None
        → (e : Emission) × (option_map (λ e. emission_of (record { host = me; number = i }) e m moment) o ≡ Some e) × (length e.payload ≤ m.len)
    at i None may = absurd cc
    at i (Some e) may = (emission_of (record { host = me; number = i }) e m moment, refl, few_taken m.len (drop (m.pos - 1) e.stream.accepted))

    by : (o : Option ℕ)
        → first_broken (option_map_or (λ e. making_rules h.version e m) (option_map_or (λ i. slice_get b.endpoints i) o None)
        ((rules.NoEndpoint, true) ∷ [])) ≡ None
        → (e : Emission) × (option_map_or (made_at me moment b m) o None ≡ Some e) × (length e.payload ≤ m.len)
    by None may = absurd cc
    by (Some i) may = at i (slice_get b.endpoints i) may

stands : (n : ℕ) (e : Emission) (made : List (ℕ × Made Emission)) (o : Option Emission) → o ≡ Some e
    → lookup (nat_eq n) (on o made (λ x. insert_entry nat_eq made n (unsent x))) ≡ Some (unsent e)
stands n e made o is = rw is (lookup_insert n n (unsent e) made ∙ ap (λ (b : Bool). cond b (Some (unsent e)) (lookup (nat_eq n) made)) (same_key n))

made_there : (h : Header) (me : Host) (moment : ℕ) (w : World tcp_shape) (m : SegmentPlan) → Permitted (tcp h) moment w (At me (Makes m))
    → (e : Emission) × (lookup (nat_eq (suc w.count)) (pick (after (tcp h) moment w (At me (Makes m))).hosts me).made
    ≡ Some (unsent e)) × (length e.payload ≤ m.len)
made_there h Zero moment w m may = let e = makes_one Zero w.hosts.zero.body m h moment may in
    (e.0, stands (suc w.count) e.0 w.hosts.zero.made (act_makes Zero moment w.hosts.zero.body (acts.Makes m)) e.1, e.2)
made_there h One moment w m may = let e = makes_one One w.hosts.one.body m h moment may in
    (e.0, stands (suc w.count) e.0 w.hosts.one.made (act_makes One moment w.hosts.one.body (acts.Makes m)) e.1, e.2)

-- the making leaves the segment there, under the last number given
pub made_waits : (c d : Core) (m : SegmentPlan)
    → Permitted (tcp c.recorded.header) 0 (world c) (At c.recorded.me (Makes m)) → m.len ≤ greatest_payload
    → d ≡ with_step c (At c.recorded.me (Makes m)) → WaitsToGo d (world d).count
made_waits c d m may short is = subst (λ (x : Core). WaitsToGo x (world x).count) (sym is)
    (let e = made_there c.recorded.header c.recorded.me c.last.moment (world c) m may in
    let few = e.2 in
    record {
      emission = e.0;
      found =
          subst (λ (w : World tcp_shape). lookup (nat_eq w.count) (pick w.hosts c.recorded.me).made ≡ Some (unsent e.0))
          (sym (leads c (with_step c (At c.recorded.me (Makes m))) (At c.recorded.me (Makes m)) refl)) e.1;
      short = omega arith;
    })

-- 2. sent

-- a copy of a segment that shows a made one has its payload
pub shown_payload : (h : Header) (wire copy : Wire) (e : Emission) → ((k : Header) → matches_sent k wire e ≡ true) → copy ≡ wire
    → copy.seg.payload ≡ e.payload
shown_payload h wire copy e shown is = ap (λ (w : Wire). w.seg.payload) is ∙ payload_sent h wire e (shown h)

goes : (h : Header) (o : Option (Made Emission)) (wire : Wire) (e : Emission) → o ≡ Some (unsent e)
    → matches_sent h wire e ≡ true
    → first_broken (on o (just rules.NotMade true) (λ m. out_rules h wire m.emission ++ just rules.NotMade m.sent))
    ≡ None
goes h o wire e is shown = rw (is, shown) refl

pub go_fits : (c : Core) (number : ℕ) (wire : Wire) (f : Flying tcp_shape) (me : Host) (line : ℕ)
    → MayGo c number wire f → me ≡ c.recorded.me → Fits c (At me (Sends line number wire))
go_fits c number wire f me line s is =
    subst (λ (h : Host). Fits c (At h (Sends line number wire))) (sym is) (
      goes c.recorded.header (lookup (nat_eq number) (pick (world c).hosts c.recorded.me).made) wire s.emission s.found
          s.shown,
      refl,
    )

wire_has : (moment line number : ℕ) (wire : Wire) (e : Emission) (out : List (ℕ × Emission))
    (o : Option (Made Emission)) → o ≡ Some (unsent e)
    → lookup (nat_eq line) (on o out (λ m. insert_entry nat_eq out line (sent moment wire m.emission)))
    ≡ Some (sent moment wire e)
wire_has moment line number wire e out o is =
    rw is (lookup_insert line line (sent moment wire e) out
    ∙ ap (λ (b : Bool). cond b (Some (sent moment wire e)) (lookup (nat_eq line) out)) (same_key line))

on_wire : (hd : Header) (me : Host) (moment line number : ℕ) (w : World tcp_shape) (wire : Wire) (e : Emission)
    → lookup (nat_eq number) (pick w.hosts me).made ≡ Some (unsent e)
    → lookup (nat_eq line) (pick (after (tcp hd) moment w (At me (Sends line number wire))).hosts me).wire ≡ Some (sent moment wire e)
on_wire hd Zero moment line number w wire e is = wire_has moment line number wire e w.hosts.zero.wire (lookup (nat_eq number) w.hosts.zero.made) is
on_wire hd One moment line number w wire e is = wire_has moment line number wire e w.hosts.one.wire (lookup (nat_eq number) w.hosts.one.made) is

pub goes_out : (c d : Core) (number : ℕ) (wire : Wire) (f : Flying tcp_shape) (me : Host) (line : ℕ)
    → MayGo c number wire f → me ≡ c.recorded.me → line ≡ line_to_come c
    → d ≡ with_step c (At me (Sends line number wire)) → GoesOut c number f d
goes_out c d number wire f me line s me_is line_is is =
    let step : Step tcp_shape = At c.recorded.me (Sends (line_to_come c) number wire) in
    let row : d ≡ with_step c step =
    is ∙ ap (λ (h : Host). with_step c (At h (Sends line number wire))) me_is
    ∙ ap (λ (n : ℕ). with_step c (At c.recorded.me (Sends n number wire))) line_is in
    record {
      wire = wire;
      row = row;
      key = ap (λ (x : Flying tcp_shape). x.key) s.flying;
      line = ap (λ (x : Flying tcp_shape). x.line) s.flying;
      stands = subst (λ (x : Flying tcp_shape). lookup (nat_eq x.line) (pick (world d).hosts c.recorded.me).wire ≡ Some x.emission) (sym s.flying)
          (subst (λ (w : World tcp_shape).
          lookup (nat_eq (line_to_come c)) (pick w.hosts c.recorded.me).wire
          ≡ Some (sent c.last.moment wire s.emission)) (sym (leads c d step row))
          (on_wire c.recorded.header c.recorded.me c.last.moment (line_to_come c) number (world c) wire s.emission s.found));
    }
