-- What holds of the world holds after each permitted step of small numbers, with one step more.
use Rattle.std.proofs.Common.{◌≡◌, ℕ, suc, ◌≤◌, ◌<◌, Bool, true, false, List, [], ◌∷◌, Option, None, Some, refl, nat_eq, arith}
use Rattle.std.specs.Prelude.{if◌then◌else◌}
use Rattle.std.specs.List.{All}
use Rattle.std.specs.Map.{lookup}
use Rattle.std.specs.Option.{IfSome}
use Rattle.std.proofs.lemmas.List.{length-map}
use Rattle.std.proofs.lemmas.List.Elements.{All-cons, All-head, All-nil, All-tail, All-weaker}
use Rattle.std.proofs.lemmas.Map.Entries.{All-lookup}
use Rattle.indexmap.specs.IndexMap.{insert_entry}
use Rattle.case_forms.specs.declared.trace.Header.{Header}
use Rattle.case_forms.specs.declared.trace.Wire.{Wire}
use Rattle.case_forms.specs.declared.calls.Host.{Host}
use Rattle.case_forms.specs.declared.calls.Host.TheVariants.{Zero, One}
use Rattle.case_forms.specs.declared.calls.Answer.{Answer}
use Rattle.case_forms.specs.declared.calls.Call.{Call}
use Rattle.verdict.specs.Rules.{first_broken}
use Rattle.verdict.specs.declared.rule.Rule.TheVariants as rules
use Rattle.verdict.proofs.RuleLemmas.{none_both}
use Rattle.spec_network.specs.Tables.{Both, Made, gone_out, on, pick, settled, unsent, waiting}
use Rattle.spec_network.specs.Hosts.{HostState, World, Turn, Idle, Called, Answered, HostStep, Does, Expires, Makes, Sends}
use Rattle.spec_network.specs.Hosts.{Gets, Hears, Takes, Drops, Answers, Step, Begin, Finish, Effect, At, turn_of}
use Rattle.spec_network.specs.HostRules.{Permitted, aim_of, call_rules, host_step_rules, effect_rules, fresh_rules, just}
use Rattle.spec_network.specs.HostSteps.{act_made, after, call_after, host_step_after, effect_after, empty_host, makes, start}
use Rattle.spec_tcp.specs.declared.endpoint.Emission.{Emission}
use Rattle.spec_tcp.specs.HostTcp.{HostTcp}
use Rattle.spec_tcp.specs.Heard.{heard}
use Rattle.spec_tcp.specs.Reset.{reset_of}
use Rattle.spec_tcp.specs.Wire.{sent}
use Rattle.case_forms.specs.declared.steps.TakeChoice.{TakeChoice}
use Rattle.case_forms.specs.declared.steps.SegmentPlan.{SegmentPlan}
use Rattle.spec_tcp.specs.Machine.{tcp, tcp_shape, Act, act_after, act_makes, act_rules, aim, gives}
use Rattle.spec_tcp.specs.Machine as acts
use Rattle.spec_tcp.specs.Forgetting.{forget, forget_body, forget_endpoint, forget_host}
use Rattle.spec_tcp.specs.Bounds.{IsKept, IsKeptBody, IsSmallEmission, most_steps}
use Rattle.endpoint_state.specs.Keeping.{IsSmallAct, IsSmallAnswer}
use Rattle.endpoint_state.proofs.Bodies.{body_keeps, kept_body_later, starts_kept}
use Rattle.endpoint_state.proofs.Forgets.{IsBounded, all_kept_forgotten, bounded}
use Rattle.endpoint_state.proofs.Rooms.{have_room}
use Rattle.endpoint_state.proofs.Segments.{heard_small, resets_small, sent_small}
use Rattle.endpoint_state.specs.Kept.{AreSmall, IsKeptHost, IsKeptWorld, IsReady, IsSmallArrival}
use Rattle.endpoint_state.specs.SmallSteps.{IsSmallHostStep, IsSmallStep}
use Rattle.endpoint_state.specs.Worlds.{hosts_brought}
use Rattle.endpoint_state.proofs.Still.{waiting_small}

-- 1. tables

all_insert : {X : Type 0} (P : X → Type 0) (es : List (ℕ × X)) (k : ℕ) (v : X) → P v → All (λ x. P x.1) es → All (λ x. P x.1) (insert_entry nat_eq es k v)
all_insert {X} P [] k v new all = All-cons (λ (x : ℕ × X). P x.1) (k, v) [] new all
all_insert {X} P (e ∷ es) k v new all = by (nat_eq k e.0) refl (all_insert P es k v new (All-tail (λ x. P x.1) e es all))
  where
    by : (b : Bool) → nat_eq k e.0 ≡ b → All (λ x. P x.1) (insert_entry nat_eq es k v) → All (λ x. P x.1) (insert_entry nat_eq (e ∷ es) k v)
    by true own rest = rw own (All-cons (λ (x : ℕ × X). P x.1) (e.0, v) es new (All-tail (λ (x : ℕ × X). P x.1) e es all))
    by false other rest = rw other (All-cons (λ (x : ℕ × X). P x.1) e (insert_entry nat_eq es k v) (All-head (λ (x : ℕ × X). P x.1) e es all) rest)

-- the made segments, once what an act made has joined them
made_small : (made : List (ℕ × Made Emission)) (fresh : ℕ) (o : Option Emission) → IfSome o IsSmallEmission → All (λ x. IsSmallEmission x.1.emission) made
    → All (λ x. IsSmallEmission x.1.emission) (on o made (λ e. insert_entry nat_eq made fresh (unsent e)))
made_small made fresh None small all = all
made_small made fresh (Some e) small all = all_insert (λ (m : Made Emission). IsSmallEmission m.emission) made fresh (unsent e) small all

settled_small : (line : ℕ) (inbox : List (ℕ × Option Emission)) → All (λ x. IsSmallArrival x.1) inbox → All (λ x. IsSmallArrival x.1) (settled line inbox)
settled_small line inbox all = all_insert IsSmallArrival inbox line None tt all

-- 2. one host

forgotten_body : (steps : ℕ) (b : HostTcp) → IsKeptBody steps b → IsKeptBody steps (forget_body b)
forgotten_body steps b k =
    let same = length-map b.endpoints forget_endpoint in
    let endpoints = k.endpoints in
    record {
      kept = all_kept_forgotten steps b.endpoints
          (All-weaker (IsKept steps) (IsBounded steps) (bounded steps) b.endpoints k.kept);
      endpoints = omega arith;
      listeners = k.listeners;
    }

-- one step more, in which nothing happens to what the calls see
idle_body : (steps : ℕ) (b : HostTcp) → IsKeptBody steps b → IsKeptBody (suc steps) (forget_body b)
idle_body steps b k = forgotten_body (suc steps) b (kept_body_later steps b k)

small_tables : (b : HostTcp) (h : HostState tcp_shape) → AreSmall h → AreSmall (record h { body = b })
small_tables b h small = record { made = small.made; wire = small.wire; inbox = small.inbox }

idle_host : (steps : ℕ) (h : HostState tcp_shape) → IsKeptHost steps h → IsKeptHost (suc steps) (forget_host h)
idle_host steps h k = record { body = idle_body steps h.body k.body; tables = small_tables (forget_body h.body) h k.tables }

module _ (hd : Header) (me : Host) (moment steps : ℕ) (h : HostState tcp_shape) (k : IsKeptHost steps h) where
  act_kept : (act : Act) → IsSmallAct act → first_broken (act_rules hd me moment h.body act) ≡ None
      → IsKeptBody (suc steps) (forget_body (act_after hd me moment h.body act))
  act_kept act small permitted = body_keeps hd me moment steps h.body act small permitted k.body

  -- the tables stay
  body_kept : (act : Act) → IsSmallAct act → first_broken (act_rules hd me moment h.body act) ≡ None
      → IsKeptHost (suc steps) (forget_host (record h { body = act_after hd me moment h.body act }))
  body_kept act small permitted =
      record {
        body = act_kept act small permitted;
        tables = record { made = k.tables.made; wire = k.tables.wire; inbox = k.tables.inbox };
      }

  makes_kept : (fresh : ℕ) (making : SegmentPlan) → IsSmallHostStep me moment h (Makes making)
      → first_broken (act_rules hd me moment h.body (acts.Makes making)) ≡ None
      → IsKeptHost (suc steps) (forget_host (host_step_after (tcp hd) me moment fresh [] h (Makes making)))
  makes_kept fresh making small permitted = record {
    body = act_kept (acts.Makes making) tt permitted;
    tables =
        record {
          made = made_small h.made fresh (act_makes me moment h.body (acts.Makes making)) small k.tables.made;
          wire = k.tables.wire;
          inbox = k.tables.inbox;
        };
  }

  sends_kept : (line number : ℕ) (wire : Wire) (o : Option (Made Emission)) → IfSome o (λ m. IsSmallEmission m.emission)
      → IsKeptHost (suc steps) (forget_host
      (record h {
        made = on o h.made (λ m. insert_entry nat_eq h.made number (gone_out m));
        wire = on o h.wire (λ m. insert_entry nat_eq h.wire line (sent moment wire m.emission));
      }))
  sends_kept line number wire None small = idle_host steps h k
  sends_kept line number wire (Some m) small = record {
    body = idle_body steps h.body k.body;
    tables = record {
      made = all_insert (λ (x : Made Emission). IsSmallEmission x.emission) h.made number (gone_out m) small k.tables.made;
      wire = all_insert IsSmallEmission h.wire line (sent moment wire m.emission) (sent_small moment wire m.emission small) k.tables.wire;
      inbox = k.tables.inbox;
    };
  }

  gets_kept : (line : ℕ) (o : Option Emission) → IfSome o IsSmallEmission
      → IsKeptHost (suc steps) (forget_host
      (record h { inbox = on o h.inbox (λ e. insert_entry nat_eq h.inbox line (Some e)) }))
  gets_kept line None small = idle_host steps h k
  gets_kept line (Some m) small = record {
    body = idle_body steps h.body k.body;
    tables = record { made = k.tables.made; wire = k.tables.wire; inbox = all_insert IsSmallArrival h.inbox line (Some m) small k.tables.inbox };
  }

  drops_kept : (line : ℕ) (o : Option Emission) → IsKeptHost (suc steps) (forget_host (record h { inbox = on o h.inbox (λ e. settled line h.inbox) }))
  drops_kept line None = idle_host steps h k
  drops_kept line (Some m) = record {
    body = idle_body steps h.body k.body;
    tables = record { made = k.tables.made; wire = k.tables.wire; inbox = settled_small line h.inbox k.tables.inbox };
  }

  takes_kept : (line : ℕ) (how : TakeChoice) (o : Option Emission) → waiting line h.inbox ≡ o
      → first_broken (on o (just rules.Inbox true) (λ m. act_rules hd me moment h.body (acts.Takes how m))) ≡ None
      → IsKeptHost (suc steps) (forget_host
      (record h {
        body = on o h.body (λ m. act_after hd me moment h.body (acts.Takes how m));
        inbox = on o h.inbox (λ m. settled line h.inbox);
      }))
  takes_kept line how None waits permitted = idle_host steps h k
  takes_kept line how (Some m) waits permitted = record {
    body = act_kept (acts.Takes how m) (waiting_small h line m k.tables waits) permitted;
    tables = record { made = k.tables.made; wire = k.tables.wire; inbox = settled_small line h.inbox k.tables.inbox };
  }

  answers_kept : (fresh line : ℕ) (o : Option Emission)
      → first_broken (on o (just rules.Inbox true) (λ m. act_rules hd me moment h.body (acts.Resets m))) ≡ None
      → IsKeptHost (suc steps) (forget_host
      (record h {
        body = on o h.body (λ m. act_after hd me moment h.body (acts.Resets m));
        made = on o h.made (λ m. act_made (tcp hd) me moment fresh h (acts.Resets m));
        inbox = on o h.inbox (λ m. settled line h.inbox);
      }))
  answers_kept fresh line None permitted = idle_host steps h k
  answers_kept fresh line (Some m) permitted = record {
    body = act_kept (acts.Resets m) tt permitted;
    tables =
        record {
          made = made_small h.made fresh (Some (reset_of m)) (resets_small m) k.tables.made;
          wire = k.tables.wire;
          inbox = settled_small line h.inbox k.tables.inbox;
        };
  }

  host_step_kept : (fresh : ℕ) (far : List (ℕ × Emission)) (d : HostStep tcp_shape) → All (λ x. IsSmallEmission x.1) far
      → IsSmallHostStep me moment h d → first_broken (host_step_rules (tcp hd) me moment far h d) ≡ None
      → IsKeptHost (suc steps) (forget_host (host_step_after (tcp hd) me moment fresh far h d))
  host_step_kept fresh far (Does x) others small permitted = body_kept (acts.Recovers x) tt permitted
  host_step_kept fresh far (Expires line x) others small permitted = body_kept (acts.Expires x) tt permitted
  host_step_kept fresh far (Makes making) others small permitted = makes_kept fresh making small permitted
  host_step_kept fresh far (Sends line number wire) others small permitted =
      sends_kept line number wire (lookup (nat_eq number) h.made)
      (All-lookup (λ (m : Made Emission). IsSmallEmission m.emission) (nat_eq number) h.made k.tables.made)
  host_step_kept fresh far (Gets line copied wire) others small permitted =
      gets_kept line (lookup (nat_eq copied) far) (All-lookup IsSmallEmission (nat_eq copied) far others)
  host_step_kept fresh far (Hears line wire) others small permitted = gets_kept line (Some (heard moment wire)) (heard_small moment wire)
  host_step_kept fresh far (Takes line how) others small permitted = takes_kept line how (waiting line h.inbox) refl permitted
  host_step_kept fresh far (Drops line) others small permitted = drops_kept line (waiting line h.inbox)
  host_step_kept fresh far (Answers line) others small permitted = answers_kept fresh line (waiting line h.inbox) permitted

-- 3. the world

pub kept_start : (h : Header) → IsKeptWorld 0 (start (tcp h))
kept_start h =
    let tables : AreSmall (empty_host (tcp h)) =
    record {
      made = All-nil (λ (x : ℕ × Made Emission). IsSmallEmission x.1.emission);
      wire = All-nil (λ (x : ℕ × Emission). IsSmallEmission x.1);
      inbox = All-nil (λ (x : ℕ × Option Emission). IsSmallArrival x.1);
    } in
    let host : IsKeptHost 0 (empty_host (tcp h)) = record { body = starts_kept; tables = tables } in
    record { zero = host; one = host; count = omega arith }

count_later : (steps count : ℕ) (b : Bool) → count ≤ steps → (if b then suc count else count) ≤ suc steps
count_later steps count true few = omega arith
count_later steps count false few = omega arith

module _ (h : Header) (moment steps : ℕ) (w : World tcp_shape) (k : IsKeptWorld steps w) where
  abbrev Kept : World tcp_shape → Type 0
  Kept world = IsKeptWorld (suc steps) (forget world)

  -- no host changes
  turn_kept : (threads : List (ℕ × Turn tcp_shape)) → Kept (record w { threads = threads })
  turn_kept threads =
      record {
        zero = idle_host steps w.hosts.zero k.zero;
        one = idle_host steps w.hosts.one k.one;
        count = count_later steps w.count false k.count;
      }

  host_step_at : (host : Host) (d : HostStep tcp_shape) → IsSmallHostStep host moment (pick w.hosts host) d
      → Permitted (tcp h) moment w (At host d) → Kept (after (tcp h) moment w (At host d))
  host_step_at Zero d small permitted = record {
    zero = host_step_kept h Zero moment steps w.hosts.zero k.zero (suc w.count) w.hosts.one.wire d k.one.tables.wire small permitted;
    one = idle_host steps w.hosts.one k.one;
    count = count_later steps w.count (makes (tcp h) d) k.count;
  }
  host_step_at One d small permitted = record {
    zero = idle_host steps w.hosts.zero k.zero;
    one = host_step_kept h One moment steps w.hosts.one k.one (suc w.count) w.hosts.zero.wire d k.zero.tables.wire small permitted;
    count = count_later steps w.count (makes (tcp h) d) k.count;
  }

  call_at : (call : Call) (answer : Answer) (threads : List (ℕ × Turn tcp_shape)) (o : Option Host)
      → IsSmallAnswer answer → first_broken (call_rules (tcp h) moment w.hosts call answer o) ≡ None
      → Kept (record { hosts = call_after (tcp h) moment w.hosts (acts.Calls call answer) o; threads = threads; count = w.count })
  call_at call answer threads None small permitted = turn_kept threads
  call_at call answer threads (Some Zero) small permitted = record {
    zero = body_kept h Zero moment steps w.hosts.zero k.zero (acts.Calls call answer) small
        (none_both (fresh_rules (tcp h) w.hosts (gives call answer))
        (act_rules h Zero moment w.hosts.zero.body (acts.Calls call answer)) permitted).1;
    one = idle_host steps w.hosts.one k.one;
    count = count_later steps w.count false k.count;
  }
  call_at call answer threads (Some One) small permitted = record {
    zero = idle_host steps w.hosts.zero k.zero;
    one = body_kept h One moment steps w.hosts.one k.one (acts.Calls call answer) small
        (none_both (fresh_rules (tcp h) w.hosts (gives call answer))
        (act_rules h One moment w.hosts.one.body (acts.Calls call answer)) permitted).1;
    count = count_later steps w.count false k.count;
  }

  effect_at : (t : ℕ) (answer : Answer) (u : Turn tcp_shape) → IsSmallAnswer answer
      → first_broken (effect_rules (tcp h) moment w.hosts u answer) ≡ None
      → Kept (effect_after (tcp h) moment w t answer u)
  effect_at t answer Idle small permitted = turn_kept w.threads
  effect_at t answer (Called call) small permitted =
      call_at call answer (insert_entry nat_eq w.threads t (Answered answer))
      (aim_of (tcp h) w.hosts (aim call)) small permitted
  effect_at t answer (Answered given) small permitted = turn_kept w.threads

pub kept_after : (h : Header) (moment steps : ℕ) (w : World tcp_shape) (step : Step tcp_shape) → IsSmallStep moment w step
    → Permitted (tcp h) moment w step → IsKeptWorld steps w
    → IsKeptWorld (suc steps) (forget (after (tcp h) moment w step))
kept_after h moment steps w (Begin line t call) small permitted k = turn_kept h moment steps w k (insert_entry nat_eq w.threads t (Called call))
kept_after h moment steps w (Finish line t answer) small permitted k = turn_kept h moment steps w k (insert_entry nat_eq w.threads t Idle)
kept_after h moment steps w (Effect t answer) small permitted k = effect_at h moment steps w k t answer (turn_of t w.threads) small permitted
kept_after h moment steps w (At host d) small permitted k = host_step_at h moment steps w k host d small permitted

pub ready : (steps : ℕ) (h : HostState tcp_shape) → steps < most_steps → IsKeptHost steps h → IsReady h
ready steps h few k =
    let endpoints = k.body.endpoints in
    let listeners = k.body.listeners in
    record { room = have_room steps h.body.endpoints few k.body.kept; endpoints = omega arith; listeners = omega arith; tables = k.tables }

-- 4. a segment that is brought is small, and stands on a wire

wire_kept : (steps : ℕ) (h : HostState tcp_shape) (line : ℕ) (m : Emission) → IsSmallEmission m → IsKeptHost steps h
    → IsKeptHost steps (record h { wire = insert_entry nat_eq h.wire line m })
wire_kept steps h line m small k =
    record {
      body = k.body;
      tables =
          record {
            made = k.tables.made;
            wire = all_insert IsSmallEmission h.wire line m small k.tables.wire;
            inbox = k.tables.inbox;
          };
    }

pub brought_kept : (steps : ℕ) (hosts new : Both (HostState tcp_shape)) (threads : List (ℕ × Turn tcp_shape))
    (count : ℕ) (host : Host) (line : ℕ) (m : Emission) → IsSmallEmission m → new ≡ hosts_brought hosts host line m
    → IsKeptWorld steps (record { hosts = hosts; threads = threads; count = count })
    → IsKeptWorld steps (record { hosts = new; threads = threads; count = count })
brought_kept steps hosts new threads count Zero line m small is k =
    rw is (record { zero = wire_kept steps hosts.zero line m small k.zero; one = k.one; count = k.count })
brought_kept steps hosts new threads count One line m small is k =
    rw is (record { zero = k.zero; one = wire_kept steps hosts.one line m small k.one; count = k.count })
