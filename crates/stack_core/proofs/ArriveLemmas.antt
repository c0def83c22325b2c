-- A segment that is brought comes in, and waits.
use Rattle.std.proofs.Common.{◌≡◌, ◌<◌, ◌+◌, ◌*◌, ℕ, Bool, true, false, List, [], ◌∷◌, Option, None, Some, refl, ap}
use Rattle.std.proofs.Common.{sym, ◌∙◌, subst, inl, inr, nat_eq, nat_lt, arith}
use Rattle.std.specs.Prelude.{◌⊎◌, ◌==◌, ◌||◌, cond, not, Err, IfNone, Ok, OnErr, Result}
use Rattle.std.specs.Option.{option_map_or}
use Rattle.std.specs.Map.{lookup}
use Rattle.std.proofs.lemmas.Bool.Decides.{nat_tests}
use Rattle.indexmap.specs.IndexMap.{insert_entry}
use Rattle.case_forms.specs.Traces.{first_event_line}
use Rattle.case_forms.specs.declared.calls.Host.{Host}
use Rattle.case_forms.specs.declared.calls.Host.TheVariants.{Zero, One}
use Rattle.case_forms.specs.declared.calls.Ports.{Ports}
use Rattle.case_forms.specs.declared.steps.TakeChoice.{TakeChoice}
use Rattle.case_forms.specs.declared.timer.Recovery.{Recovery}
use Rattle.case_forms.specs.declared.timer.RecoveryChange.{RecoveryChange}
use Rattle.case_forms.specs.declared.timer.RecoveryChange.TheVariants.{Begins}
use Rattle.case_forms.specs.declared.trace.Header.{Header}
use Rattle.case_forms.specs.declared.trace.Wire.{Wire}
use Rattle.case_forms.specs.declared.version.Version.{Version}
use Rattle.case_forms.specs.Versions.{says_sender}
use Rattle.verdict.specs.Rules.{first_broken}
use Rattle.verdict.proofs.RuleLemmas.{none_all, all_none}
use Rattle.verdict.specs.declared.rule.Rule.TheVariants as rules
use Rattle.spec_network.specs.Tables.{on, other, pick, waiting}
use Rattle.spec_network.specs.Hosts.{World, Answers, At, Does, Drops, Gets, Takes}
use Rattle.spec_network.specs.HostRules.{Permitted, just}
use Rattle.spec_network.specs.HostSteps.{after, start}
use Rattle.spec_network.proofs.Entries.{lookup_insert}
use Rattle.spec_tcp.specs.declared.endpoint.Emission.{Emission}
use Rattle.spec_tcp.specs.declared.endpoint.Endpoint.{Endpoint}
use Rattle.spec_tcp.specs.Endpoints.{snd_max}
use Rattle.spec_tcp.specs.HostTcp.{endpoint_of}
use Rattle.spec_tcp.specs.Machine.{tcp, tcp_shape}
use Rattle.spec_tcp.specs.Recovery.{recovery_rules}
use Rattle.window_rules.specs.Control as control
use Rattle.spec_tcp.specs.Wire.{in_rules}
use Rattle.spec_merge.specs.Books.{Bring, Flying, bring}
use Rattle.spec_merge.proofs.Growing.{end_more}
use Rattle.spec_merge.proofs.Lines.{next_more}
use Rattle.stack_core.specs.declared.tick.Tick.{Tick}
use Rattle.stack_core.specs.ArrivalEvents.{Brought, Came, Dropped, Taken, Ticked, Took, IsArrived, IsArrivedShort}
use Rattle.stack_core.specs.ArrivalEvents.{IsCameIn, IsChoice, IsHeld, IsRecovered, IsRecoveryAt, IsSettled}
use Rattle.stack_core.specs.ArrivalEvents.{IsSettledShort, MayDrop, MayRecover, MayTake, beginning, came, ports_of}
use Rattle.stack_core.specs.Cores.{Core, Fits, MayDo, line_to_come, event_begun, with_item, with_step, world}
use Rattle.stack_core.specs.Entries.{entry_at, steps_in}
use Rattle.stack_core.proofs.Cores.{leads}
use Rattle.stack_core.proofs.Growing.{steps_more}
use Rattle.stack_core.proofs.Same.{bytes_same}

same_key : (n : ℕ) → nat_eq n n ≡ true
same_key n = grind (arith, nat_tests)

-- 1. brought

brings_world : (c d : Core) (f : Flying tcp_shape) → d ≡ with_item c (Bring f) → world d ≡ bring (tcp c.recorded.header) (other c.recorded.me) f (world c)
brings_world c d f is = subst (λ (e : Core). world e ≡ bring (tcp c.recorded.header) (other c.recorded.me) f (world c)) (sym is)
    (end_more (tcp c.recorded.header) c.recorded.me (start (tcp c.recorded.header)) c.recorded.entries (entry_at c.recorded.me c.last (Bring f) ∷ []))

brought_line : (c d : Core) (f : Flying tcp_shape) → d ≡ with_item c (Bring f) → line_to_come d ≡ line_to_come c
brought_line c d f is =
    ap line_to_come is ∙ next_more c.recorded.header (first_event_line c.recorded.header) c.recorded.entries
    (entry_at c.recorded.me c.last (Bring f) ∷ [])

-- no step is done
pub brought_steps : (c d : Core) (f : Flying tcp_shape) → d ≡ with_item c (Bring f) → steps_in d.recorded.entries ≡ steps_in c.recorded.entries
brought_steps c d f is = ap (λ (e : Core). steps_in e.recorded.entries) is ∙ steps_more c.recorded.entries (entry_at c.recorded.me c.last (Bring f))

pub room_kept : (c d : Core) (f : Flying tcp_shape) → d ≡ with_item c (Bring f)
    → steps_in c.recorded.entries < 4 * c.events → steps_in d.recorded.entries < 4 * d.events
room_kept c d f is room =
    let steps = brought_steps c d f is in
    let events : d.events ≡ c.events = ap (λ (e : Core). e.events) is in
    omega arith

-- what was brought stands on the other host's wire
brought_there : (h : Header) (me : Host) (f : Flying tcp_shape) (w : World tcp_shape)
    → lookup (nat_eq f.line) (pick (bring (tcp h) (other me) f w).hosts (other me)).wire ≡ Some f.emission
brought_there h Zero f w =
    lookup_insert f.line f.line f.emission w.hosts.one.wire
    ∙ ap (λ (b : Bool). cond b (Some f.emission) (lookup (nat_eq f.line) w.hosts.one.wire)) (same_key f.line)
brought_there h One f w =
    lookup_insert f.line f.line f.emission w.hosts.zero.wire
    ∙ ap (λ (b : Bool). cond b (Some f.emission) (lookup (nat_eq f.line) w.hosts.zero.wire)) (same_key f.line)

there : (c d : Core) (f : Flying tcp_shape) → d ≡ with_item c (Bring f)
    → lookup (nat_eq f.line) (pick (world d).hosts (other c.recorded.me)).wire ≡ Some f.emission
there c d f is =
    subst (λ (w : World tcp_shape). lookup (nat_eq f.line) (pick w.hosts (other c.recorded.me)).wire ≡ Some f.emission)
    (sym (brings_world c d f is)) (brought_there c.recorded.header c.recorded.me f (world c))

-- 2. it comes in

copies : (h : Header) (moment : ℕ) (wire : Wire) (e : Emission) (o : Option Emission) → o ≡ Some e
    → wire.bytes ≡ e.bytes → nat_lt (e.moment + h.msl) moment ≡ false
    → first_broken (on o (just rules.NoEmission true) (λ e. in_rules h moment wire e)) ≡ None
copies h moment wire e o is same early = rw (is, same, bytes_same e.bytes, early) refl

pub came_fits : (c d : Core) (f : Flying tcp_shape) (n : ℕ) (wire : Wire) (me : Host) → d ≡ with_item c (Bring f)
    → wire.bytes ≡ f.emission.bytes → nat_lt (f.emission.moment + c.recorded.header.msl) c.last.moment ≡ false
    → me ≡ d.recorded.me → Fits d (At me (Gets n f.line wire))
came_fits c d f n wire me is same early me_is =
    subst (λ (h : Host). Fits d (At h (Gets n f.line wire))) (sym me_is)
    (subst (λ (x : Core). Fits x (At x.recorded.me (Gets n f.line wire))) (sym is) (
      copies c.recorded.header c.last.moment wire f.emission
          (lookup (nat_eq f.line) (pick (world (with_item c (Bring f))).hosts (other c.recorded.me)).wire)
          (there c (with_item c (Bring f)) f refl) same early,
      refl,
    ))

in_inbox : (line : ℕ) (e : Emission) (inbox : List (ℕ × Option Emission)) (o : Option Emission) → o ≡ Some e
    → waiting line (on o inbox (λ e. insert_entry nat_eq inbox line (Some e))) ≡ Some e
in_inbox line e inbox o is =
    rw is (ap (λ (x : Option (Option Emission)). on x None (λ e. e))
    (lookup_insert line line (Some e) inbox
    ∙ ap (λ (b : Bool). cond b (Some (Some e)) (lookup (nat_eq line) inbox)) (same_key line)))

gets_waits : (h : Header) (me : Host) (moment line copied : ℕ) (wire : Wire) (e : Emission) (w : World tcp_shape)
    → lookup (nat_eq copied) (pick w.hosts (other me)).wire ≡ Some e
    → waiting line (pick (after (tcp h) moment w (At me (Gets line copied wire))).hosts me).inbox ≡ Some e
gets_waits h Zero moment line copied wire e w is = in_inbox line e w.hosts.zero.inbox (lookup (nat_eq copied) w.hosts.one.wire) is
gets_waits h One moment line copied wire e w is = in_inbox line e w.hosts.one.inbox (lookup (nat_eq copied) w.hosts.zero.wire) is

drops : (o : Option Emission) (e : Emission) → o ≡ Some e → first_broken (on o (just rules.Inbox true) (λ e. [])) ≡ None
drops o e is = rw is refl

module _ (c d e : Core) (f : Flying tcp_shape) (wire : Wire) (me : Host) (line : ℕ) (is : d ≡ with_item c (Bring f))
    (me_is : me ≡ d.recorded.me) (line_is : line ≡ line_to_come d)
    (stepped : e ≡ with_step d (At me (Gets line f.line wire))) where
  row : e ≡ with_step (with_item c (Bring f)) (At c.recorded.me (Gets (line_to_come c) f.line wire))
  row = stepped ∙ ap (λ (n : ℕ). with_step d (At me (Gets n f.line wire))) (line_is ∙ brought_line c d f is)
      ∙ ap (λ (h : Host). with_step d (At h (Gets (line_to_come c) f.line wire))) (me_is ∙ ap (λ (x : Core). x.recorded.me) is)
      ∙ ap (λ (x : Core). with_step x (At c.recorded.me (Gets (line_to_come c) f.line wire))) is

  pub came_in : wire.bytes ≡ f.emission.bytes → IsCameIn c f e
  came_in same = (wire, same, row)

  pub came_waits : MayDrop e (line_to_come c)
  came_waits = subst (λ (x : Core). MayDrop x (line_to_come c)) (sym row)
      (drops (waiting (line_to_come c)
      (pick (world (with_step (with_item c (Bring f))
      (At c.recorded.me (Gets (line_to_come c) f.line wire)))).hosts c.recorded.me).inbox) f.emission
      (subst (λ (w : World tcp_shape). waiting (line_to_come c) (pick w.hosts c.recorded.me).inbox ≡ Some f.emission)
      (sym (leads (with_item c (Bring f))
      (with_step (with_item c (Bring f)) (At c.recorded.me (Gets (line_to_come c) f.line wire)))
      (At c.recorded.me (Gets (line_to_come c) f.line wire)) refl))
      (gets_waits c.recorded.header c.recorded.me c.last.moment (line_to_come c) f.line wire f.emission
      (world (with_item c (Bring f))) (there c (with_item c (Bring f)) f refl))))

  -- for the endpoint of its ports
  pub came_held : IsHeld e (line_to_come c) (ports_of f.emission)
  came_held = subst (λ (x : Core). IsHeld x (line_to_come c) (ports_of f.emission)) (sym row) (
    f.emission,
    subst (λ (w : World tcp_shape). waiting (line_to_come c) (pick w.hosts c.recorded.me).inbox ≡ Some f.emission)
        (sym (leads (with_item c (Bring f))
        (with_step (with_item c (Bring f)) (At c.recorded.me (Gets (line_to_come c) f.line wire)))
        (At c.recorded.me (Gets (line_to_come c) f.line wire)) refl))
        (gets_waits c.recorded.header c.recorded.me c.last.moment (line_to_come c) f.line wire f.emission
        (world (with_item c (Bring f))) (there c (with_item c (Bring f)) f refl)),
    refl,
  )

-- 3. the event

pub arrived : (c o d e : Core) (tick : Tick) (f : Flying tcp_shape) (line : ℕ) (ports : Ports) → o ≡ event_begun c tick
    → IsCameIn o f d → line ≡ line_to_come o → ports ≡ ports_of f.emission → IsSettled d line ports e
    → IsArrived c tick f e
arrived c o d e tick f line ports is came_d line_is ports_is settled =
    let d_is : d ≡ came c tick f came_d.0 =
    came_d.2 ∙ ap (λ (x : Core). with_step (with_item x (Bring f))
    (At x.recorded.me (Gets (line_to_come x) f.line came_d.0))) is in
    record {
      wire = came_d.0;
      bytes = came_d.1;
      settled = subst (λ (p : Ports). IsSettled (came c tick f came_d.0) (line_to_come c) p e) ports_is
          (subst (λ (n : ℕ). IsSettled (came c tick f came_d.0) n ports e) (line_is ∙ ap line_to_come is)
          (subst (λ (x : Core). IsSettled x line ports e) d_is settled));
    }

pub came_short : (c o d : Core) (tick : Tick) (f : Flying tcp_shape) → o ≡ event_begun c tick
    → (d ≡ o) ⊎ (d ≡ with_item o (Bring f)) → IsArrivedShort c tick f d
came_short c o d tick f is (inl row) = Ticked (row ∙ is)
came_short c o d tick f is (inr row) = Brought (row ∙ ap (λ (x : Core). with_item x (Bring f)) is)

pub settled_short : (c o d e : Core) (tick : Tick) (f : Flying tcp_shape) (line : ℕ) (ports : Ports) → o ≡ event_begun c tick
    → IsCameIn o f d → line ≡ line_to_come o → ports ≡ ports_of f.emission → IsSettledShort d line ports e
    → IsArrivedShort c tick f e
settled_short c o d e tick f line ports is came_d line_is ports_is short = by
    (subst (λ (p : Ports). IsSettledShort (came c tick f came_d.0) (line_to_come c) p e) ports_is
    (subst (λ (n : ℕ). IsSettledShort (came c tick f came_d.0) n ports e) (line_is ∙ ap line_to_come is)
    (subst (λ (x : Core). IsSettledShort x line ports e) d_is short)))
  where
    d_is : d ≡ came c tick f came_d.0
    d_is = came_d.2 ∙ ap (λ (x : Core). with_step (with_item x (Bring f)) (At x.recorded.me (Gets (line_to_come x) f.line came_d.0))) is

    by : IsSettledShort (came c tick f came_d.0) (line_to_come c) (ports_of f.emission) e → IsArrivedShort c tick f e
    by (inl row) = Came came_d.0 came_d.1 row
    by (inr (choice, keep, may, due, row)) = Took came_d.0 came_d.1 choice keep may due row

-- what holds anyway holds of an error
pub any_error : {A E : Type 0} {P : Type 0} (result : Result A E) → P → OnErr result P
any_error (Ok value) holds = tt
any_error (Err error) holds = holds

pub none_left : {A : Type 0} {P : Type 0} (result : Option A) → P → IfNone result P
none_left None holds = holds
none_left (Some value) holds = tt

-- 4. what waits is settled

pub settled_taken : (c d e : Core) (n : ℕ) (ports : Ports) (choice : TakeChoice) (me : Host)
    → (choice.keep ≡ true) × MayTake c n
    × Permitted (tcp c.recorded.header) c.last.moment (world c) (At c.recorded.me (Takes n choice)) → me ≡ c.recorded.me
    → d ≡ with_step c (At me (Takes n choice)) → IsRecovered d ports e → IsSettled c n ports e
settled_taken c d e n ports choice me may is row recovered =
    Taken choice may.0 may.1 (subst (λ (x : Core). IsRecovered x ports e)
    (row ∙ ap (λ (h : Host). with_step c (At h (Takes n choice))) is) recovered)

pub settled_dropped : (c d : Core) (n : ℕ) (ports : Ports) (me : Host) → me ≡ c.recorded.me → (MayTake c n → ⊥)
    → (Permitted (tcp c.recorded.header) c.last.moment (world c) (At me (Answers n)) → ⊥)
    → d ≡ with_step c (At me (Drops n)) → IsSettled c n ports d
settled_dropped c d n ports me is not_taken no_reset row =
    Dropped not_taken (subst (λ (h : Host). Permitted (tcp c.recorded.header) c.last.moment (world c) (At h (Answers n))
    → ⊥) is no_reset) (row ∙ ap (λ (h : Host). with_step c (At h (Drops n))) is)

-- how fast recovery may begin shows that it may
pub may_recover : (c : Core) (ports : Ports) (x : Recovery) → IsRecoveryAt c ports x → MayRecover c ports
may_recover c ports x (left, right, begins, may) = (
  x.cwnd,
  x.ssthresh,
  subst (λ (y : Recovery). MayDo c (At c.recorded.me (Does y))) (ap (λ (n : ℕ). record x { lport = n; rport = ports.rport; change = Begins }) left)
      (subst (λ (y : Recovery). MayDo c (At c.recorded.me (Does y))) (ap (λ (n : ℕ). record x { rport = n; change = Begins }) right)
      (subst (λ (y : Recovery). MayDo c (At c.recorded.me (Does y))) (ap (λ (k : RecoveryChange). record x { change = k }) begins) may)),
)

-- where it may begin with some values, it may begin with none
none_above : (x : ℕ) → nat_lt x 0 ≡ false
none_above x = grind (arith, nat_tests)

least_values : (a b c d : Bool) (x y : ℕ) → (a || b || c || d) ≡ false → (a || b || nat_lt x 0 || nat_lt y 0) ≡ false
least_values true b c d x y is = absurd cc
least_values false true c d x y is = absurd cc
least_values false false c d x y is = rw (none_above x, none_above y) refl

recovers_least : (v : Version) (cwnd ssthresh moment : ℕ) (o : Option Endpoint)
    → first_broken (option_map_or (λ e. recovery_rules v e Begins cwnd ssthresh moment) o ((rules.NoEndpoint, true) ∷ [])) ≡ None
    → first_broken (option_map_or (λ e. recovery_rules v e Begins 0 0 moment) o ((rules.NoEndpoint, true) ∷ [])) ≡ None
recovers_least v cwnd ssthresh moment None may = absurd cc
recovers_least v cwnd ssthresh moment (Some e) may =
    let t = none_all (recovery_rules v e Begins cwnd ssthresh moment) may in
    all_none (recovery_rules v e Begins 0 0 moment)
    (t.0, (t.1.0, (least_values (not (says_sender v || control.may_recover e.control)) (e.stream.snd_una == snd_max e) _ _ _ _ t.1.1.0, t.1.1.1)))

pub may_recover_least : (c : Core) (ports : Ports) → MayRecover c ports → MayDo c (At c.recorded.me (Does (beginning ports 0 0)))
may_recover_least c ports (cwnd, ssthresh, may) =
    recovers_least c.recorded.header.version cwnd ssthresh c.last.moment (endpoint_of (pick (world c).hosts c.recorded.me).body ports.lport ports.rport) may

-- what was taken stands, where memory ran out at the recovery that was to begin behind
pub taken_short : (c d e : Core) (n : ℕ) (ports : Ports) (choice : TakeChoice) (me : Host) → IsChoice c n choice
    → me ≡ c.recorded.me → d ≡ with_step c (At me (Takes n choice)) → e ≡ d → MayRecover d ports
    → IsSettledShort c n ports e
taken_short c d e n ports choice me may is row same due =
    let d_is : d ≡ with_step c (At c.recorded.me (Takes n choice)) = row ∙ ap (λ (h : Host). with_step c (At h (Takes n choice))) is in
    inr (choice, may.0, may.1, subst (λ (x : Core). MayRecover x ports) d_is due, same ∙ d_is)
