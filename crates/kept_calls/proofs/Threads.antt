-- Duties know the open call of each thread that may have to wait.
use Rattle.std.proofs.Common.{◌≡◌, ℕ, suc, Bool, true, false, Option, Some, None, refl, ap, sym, subst, ◌∙◌, nat_eq, arith}
use Rattle.std.specs.Prelude.{if◌then◌else◌}
use Rattle.std.proofs.lemmas.Bool.Decides.{nat_tests}
use Rattle.std.proofs.lemmas.Option.{none-some, same_Some}
use Rattle.indexmap.specs.IndexMap.{insert_entry}
use Rattle.case_forms.specs.Versions.{says_sender}
use Rattle.case_forms.specs.declared.calls.Answer.{Answer}
use Rattle.case_forms.specs.declared.calls.Call.{Call}
use Rattle.case_forms.specs.declared.calls.Call.TheVariants as calls
use Rattle.case_forms.specs.declared.calls.Host.{Host}
use Rattle.case_forms.specs.declared.steps.Witness.{Witness}
use Rattle.case_forms.specs.declared.trace.Header.{Header}
use Rattle.case_forms.specs.declared.trace.Trace.{Trace}
use Rattle.interval_order.specs.Placed.{Placed}
use Rattle.spec_network.proofs.Entries.{turn_insert}
use Rattle.spec_network.specs.HostSteps.{Lawful, after, effect_after}
use Rattle.spec_network.specs.Hosts.{At, Begin, Effect, Finish, Stamped, Step, World}
use Rattle.spec_network.specs.Hosts.{Answered, Called, Idle, Turn, turn_of}
use Rattle.spec_network.specs.Tables.{on, pick, waiting}
use Rattle.spec_tcp.specs.Machine.{tcp, tcp_shape}
use Rattle.spec_tcp.specs.HostTcp.{socket_target}
use Rattle.spec_tcp.specs.declared.endpoint.SocketTarget.{SocketTarget}
use Rattle.spec_tcp.specs.declared.endpoint.SocketTarget.TheVariants.{ListenerAt, EndpointAt}
use Rattle.spec_cases.specs.Cases.{Dutiful, Known, first_known, known_after}
use Rattle.spec_duties.specs.Answering.{Waits, answer_seen, answering, beginning, call_noted, listener_seen, ready_at, renewed, seen_again, socket_given}
use Rattle.spec_duties.specs.Answering.{socket_noted, threads_after, touched_seen, waitable, waits_after, with_ready}
use Rattle.spec_duties.specs.Observations.{observe, observe_effect}
use Rattle.spec_duties.specs.declared.answering.Awaited.{Awaited}
use Rattle.spec_duties.specs.declared.answering.Awaited.TheVariants as awaits
use Rattle.spec_duties.specs.declared.answering.CallChange.{CallChange}
use Rattle.spec_duties.specs.declared.answering.CallChange.TheVariants as call_change
use Rattle.spec_duties.specs.declared.answering.OpenCall.TheVariants as open_call
use Rattle.spec_duties.specs.declared.answering.Ready.{Ready}
use Rattle.spec_duties.specs.declared.answering.SocketChange.{SocketChange}
use Rattle.spec_duties.specs.declared.answering.SocketChange.TheVariants as socket_change
use Rattle.spec_duties.specs.declared.answering.Waiting.{Waiting}
use Rattle.spec_duties.specs.declared.observations.TouchedEndpoint.{TouchedEndpoint}
use Rattle.checker.specs.Seen.{moves, stamped}
use Rattle.kept_duties.specs.Happens.{act_at, known_before}
use Rattle.kept_duties.proofs.Observations.{waiting_elsewhere, waiting_here}
use Rattle.kept_duties.proofs.Runs.{onward}
use Rattle.kept_calls.specs.Awaiting.{IsAt, waits_on}
use Rattle.kept_calls.proofs.Acts.{acts, is_at, moments_rise, nothing_done}
use Rattle.kept_calls.proofs.Naming.{host_quiet}
use Rattle.kept_calls.proofs.Tracked.{IsBefore, is_before_next, waits_next}

-- ---- what is kept of threads changes with calls alone

ready_threads : (a : Waits) (host : Host) (target : SocketTarget) (r : Option Ready) → (with_ready a host target r).threads ≡ a.threads
ready_threads a host (EndpointAt i) r = refl
ready_threads a host (ListenerAt l) r = refl

again_threads : (w : World tcp_shape) (moment : ℕ) (host : Host) (target : SocketTarget) (a : Waits) → (seen_again w moment host target a).threads ≡ a.threads
again_threads w moment host target a = by (ready_at a host target)
  where
    by : (o : Option Ready)
        → (on o a (λ r. with_ready a host target (Some (renewed (waitable (pick w.hosts host).body target) moment r)))).threads ≡ a.threads
    by None = refl
    by (Some r) = ready_threads a host target _

pub threads_are : (w : World tcp_shape) (moment : ℕ) (o : Option TouchedEndpoint) (c : CallChange) (k : SocketChange) (a : Waits)
    → (waits_after w moment o c k a).threads ≡ threads_after moment c a
threads_are w moment o c k a =
    noted k (answer_seen w moment c (touched_seen w moment o (call_noted moment c a))) ∙ answered c (touched_seen w moment o (call_noted moment c a))
    ∙ touched o (call_noted moment c a)
  where
    listener : (host : Host) (l : Option ℕ) (a : Waits) → (listener_seen w moment host l a).threads ≡ a.threads
    listener host None a = refl
    listener host (Some l) a = again_threads w moment host (ListenerAt l) a

    touched : (o : Option TouchedEndpoint) (a : Waits) → (touched_seen w moment o a).threads ≡ a.threads
    touched None a = refl
    touched (Some t) a =
        listener t.host t.before.listener (seen_again w moment t.host (EndpointAt t.place) a) ∙ again_threads w moment t.host (EndpointAt t.place) a

    answered : (c : CallChange) (a : Waits) → (answer_seen w moment c a).threads ≡ a.threads
    answered (call_change.Answers thread (Some x)) a = again_threads w moment x.host x.target a
    answered (call_change.Answers thread None) a = refl
    answered call_change.Nothing a = refl
    answered (call_change.Begins thread socket kind) a = refl
    answered (call_change.Ends thread) a = refl

    given : (host : Host) (o : Option SocketTarget) (a : Waits) → (socket_given w moment host o a).threads ≡ a.threads
    given host None a = refl
    given host (Some t) a = ready_threads a host t _

    noted : (k : SocketChange) (a : Waits) → (socket_noted w moment k a).threads ≡ a.threads
    noted socket_change.Nothing a = refl
    noted (socket_change.Gives host n) a = given host (socket_target (pick w.hosts host).body n) a
    noted (socket_change.Shuts host target) a = again_threads w moment host target a
    noted (socket_change.Closes host target) a = ready_threads a host target None

-- ---- the turn of a thread after a step

abbrev pub SameTurn : Turn tcp_shape → Turn tcp_shape → Type 0
SameTurn u v = u ≡ v

-- what a call waits for
abbrev pub awaited_by : Call → Awaited
awaited_by (calls.Recv n most) = awaits.Bytes
awaited_by (calls.Await n) = awaits.Connection
awaited_by call = awaits.Child

module _ (h : Header) (six : says_sender h.version ≡ true) (moment : ℕ) (w : World tcp_shape) where
  abbrev change : Step tcp_shape → CallChange
  change step = (observe h moment w step).call_change

  -- another thread's step leaves it, or it is the thread's
  pub data TurnAfter (q : ℕ) (step : Step tcp_shape) : Type 0 where
    stays : turn_of q (after (tcp h) moment w step).threads ≡ turn_of q w.threads
        → ((a : Waits) → waiting q (threads_after moment (change step) a) ≡ waiting q a.threads) → TurnAfter q step
    begins : (line : ℕ) (call : Call) → step ≡ Begin line q call → TurnAfter q step
    answers : (answer : Answer) → step ≡ Effect q answer → TurnAfter q step
    ends : (line : ℕ) (answer : Answer) → step ≡ Finish line q answer → TurnAfter q step

  turn_other : (q u : ℕ) (turn : Turn tcp_shape) → nat_eq q u ≡ false → turn_of q (insert_entry nat_eq w.threads u turn) ≡ turn_of q w.threads
  turn_other q u turn other = turn_insert (tcp h) q u turn w.threads ∙ ap (λ (b : Bool). if b then turn else turn_of q w.threads) other

  pub turn_here : (q : ℕ) (turn : Turn tcp_shape) → turn_of q (insert_entry nat_eq w.threads q turn) ≡ turn
  turn_here q turn =
      let self : nat_eq q q ≡ true = grind (arith, nat_tests) in
      turn_insert (tcp h) q q turn w.threads ∙ ap (λ (b : Bool). if b then turn else turn_of q w.threads) self

  answers_other : (q u : ℕ) → nat_eq q u ≡ false → (x : Option Waiting) (a : Waits)
      → waiting q (threads_after moment (call_change.Answers u x) a) ≡ waiting q a.threads
  answers_other q u other None a = waiting_elsewhere q u None a.threads other
  answers_other q u other (Some x) a = waiting_elsewhere q u _ a.threads other

  answering_other : (q u : ℕ) → nat_eq q u ≡ false → (v : Bool) (answer : Answer) (call : Call) (a : Waits)
      → waiting q (threads_after moment (if v then answering h w u answer call else call_change.Nothing) a) ≡ waiting q a.threads
  answering_other q u other true answer (calls.Recv n most) a = answers_other q u other _ a
  answering_other q u other true answer (calls.Await n) a = answers_other q u other _ a
  answering_other q u other true answer (calls.Accept n) a = answers_other q u other _ a
  answering_other q u other v answer call a = by v call
    where
      by : (v : Bool) (call : Call)
          → waiting q (threads_after moment (if v then answering h w u answer call else call_change.Nothing) a) ≡ waiting q a.threads
      by false call = refl
      by true (calls.Recv n most) = answers_other q u other _ a
      by true (calls.Await n) = answers_other q u other _ a
      by true (calls.Accept n) = answers_other q u other _ a
      by true call = refl

  beginning_other : (q u : ℕ) → nat_eq q u ≡ false → (v : Bool) (call : Call) (a : Waits)
      → waiting q (threads_after moment (if v then beginning u call else call_change.Nothing) a) ≡ waiting q a.threads
  beginning_other q u other false call a = refl
  beginning_other q u other true (calls.Recv n most) a = waiting_elsewhere q u _ a.threads other
  beginning_other q u other true (calls.Await n) a = waiting_elsewhere q u _ a.threads other
  beginning_other q u other true (calls.Accept n) a = waiting_elsewhere q u _ a.threads other
  beginning_other q u other true call a = refl

  ending_other : (q u : ℕ) → nat_eq q u ≡ false → (v : Bool) (a : Waits)
      → waiting q (threads_after moment (if v then call_change.Ends u else call_change.Nothing) a) ≡ waiting q a.threads
  ending_other q u other false a = refl
  ending_other q u other true a = waiting_elsewhere q u None a.threads other

  effect_other : (q u : ℕ) (answer : Answer) → nat_eq q u ≡ false → TurnAfter q (Effect u answer)
  effect_other q u answer other = stays (turned (turn_of u w.threads)) (waits (turn_of u w.threads))
    where
      turned : (turn : Turn tcp_shape) → turn_of q (effect_after (tcp h) moment w u answer turn).threads ≡ turn_of q w.threads
      turned Idle = refl
      turned (Called call) = turn_other q u (Answered answer) other
      turned (Answered told) = refl

      waits : (turn : Turn tcp_shape) (a : Waits)
          → waiting q (threads_after moment (observe_effect h w u answer turn).call_change a) ≡ waiting q a.threads
      waits Idle a = refl
      waits (Called call) a = answering_other q u other (says_sender h.version) answer call a
      waits (Answered told) a = refl

  same_thread : (q u : ℕ) → nat_eq q u ≡ true → u ≡ q
  same_thread q u same = grind (arith, nat_tests, same)

  pub turn_after : (q : ℕ) (step : Step tcp_shape) → TurnAfter q step
  turn_after q (Begin line u call) = by (nat_eq q u) refl
    where
      by : (b : Bool) → nat_eq q u ≡ b → TurnAfter q (Begin line u call)
      by true same = begins line call (ap (λ (n : ℕ). Begin line n call) (same_thread q u same))
      by false other = stays (turn_other q u (Called call) other) (beginning_other q u other (says_sender h.version) call)
  turn_after q (Finish line u answer) = by (nat_eq q u) refl
    where
      by : (b : Bool) → nat_eq q u ≡ b → TurnAfter q (Finish line u answer)
      by true same = ends line answer (ap (λ (n : ℕ). Finish line n answer) (same_thread q u same))
      by false other = stays (turn_other q u Idle other) (ending_other q u other (says_sender h.version))
  turn_after q (Effect u answer) = by (nat_eq q u) refl
    where
      by : (b : Bool) → nat_eq q u ≡ b → TurnAfter q (Effect u answer)
      by true same = answers answer (ap (λ (n : ℕ). Effect n answer) (same_thread q u same))
      by false other = effect_other q u answer other
  turn_after q (At host d) =
      stays refl (λ a. ap (λ (c : CallChange). waiting q (threads_after moment c a)) (host_quiet h moment w host d).call_change)

-- ---- all places

pub record OpenCalls (w : Witness) (place : ℕ) (k : Known) : Type 0 where
  pub each : (thread : ℕ) (call : Call) (socket : ℕ) → turn_of thread k.model.threads ≡ Called call → waits_on call ≡ Some socket
      → (since : ℕ) × (waiting thread k.duties.waits.threads ≡ Some (open_call.Waits since socket (awaited_by call))) × IsBefore w place since

module _ (t : Trace) (w : Witness) (slack : ℕ) (given : t.header.slack ≡ Some slack) (six : says_sender t.header.version ≡ true)
    (placed : Placed t.header t.lines (moves w.steps)) where
  module _ (k : Known) (x : Stamped tcp_shape) where
    abbrev next : Known
    next = known_after t.header x.moment k x.step

    -- what is kept of a thread then
    pub thread_next : (q : ℕ) → waiting q next.duties.waits.threads
        ≡ waiting q (threads_after x.moment (observe t.header x.moment k.model x.step).call_change k.duties.waits)
    thread_next q =
        ap (λ (a : Waits). waiting q a.threads) (waits_next t.header slack given six k x)
        ∙ ap (waiting q) (threads_are next.model x.moment _ _ _ k.duties.waits)

  open_next : (place : ℕ) (k : Known) (x : Stamped tcp_shape) → IsAt w place x.moment → OpenCalls w place k
      → OpenCalls w (suc place) (known_after t.header x.moment k x.step)
  open_next place k x at old = record { each = each }
    where
      each : (thread : ℕ) (call : Call) (socket : ℕ) → turn_of thread (known_after t.header x.moment k x.step).model.threads ≡ Called call
          → waits_on call ≡ Some socket
          → (since : ℕ)
          × (waiting thread (known_after t.header x.moment k x.step).duties.waits.threads ≡ Some (open_call.Waits since socket (awaited_by call)))
          × IsBefore w (suc place) since
      each q call socket turn waits = by (turn_after t.header six x.moment k.model q x.step)
        where
          Found : Type 0
          Found = (since : ℕ) × (waiting q (known_after t.header x.moment k x.step).duties.waits.threads
              ≡ Some (open_call.Waits since socket (awaited_by call)))
              × IsBefore w (suc place) since

          begun : (call : Call) (v : Bool) → v ≡ true → waits_on call ≡ Some socket
              → waiting q (threads_after x.moment (if v then beginning q call else call_change.Nothing) k.duties.waits)
              ≡ Some (open_call.Waits x.moment socket (awaited_by call))
          begun call false six waits = absurd cc
          begun (calls.Recv n most) true six waits =
              waiting_here q _ k.duties.waits.threads ∙ ap (λ (m : ℕ). Some (open_call.Waits x.moment m awaits.Bytes)) (same_Some n socket waits)
          begun (calls.Await n) true six waits =
              waiting_here q _ k.duties.waits.threads ∙ ap (λ (m : ℕ). Some (open_call.Waits x.moment m awaits.Connection)) (same_Some n socket waits)
          begun (calls.Accept n) true six waits =
              waiting_here q _ k.duties.waits.threads ∙ ap (λ (m : ℕ). Some (open_call.Waits x.moment m awaits.Child)) (same_Some n socket waits)
          begun call true six waits = absurd (none-some socket waits)

          -- an effect leaves no call without one
          no_effect : (answer : Answer) (u : Turn tcp_shape) → turn_of q k.model.threads ≡ u
              → turn_of q (effect_after (tcp t.header) x.moment k.model q answer u).threads ≡ Called call → ⊥
          no_effect answer Idle is now = absurd (let e : SameTurn Idle (Called call) = sym is ∙ now in cc)
          no_effect answer (Called c) is now =
              absurd (let e : SameTurn (Answered answer) (Called call) = sym (turn_here t.header six x.moment k.model q (Answered answer)) ∙ now in cc)
          no_effect answer (Answered told) is now = absurd (let e : SameTurn (Answered told) (Called call) = sym is ∙ now in cc)

          by : TurnAfter t.header six x.moment k.model q x.step → Found
          by (stays same keeps) =
              let o = old.each q call socket (sym same ∙ turn) waits in
              (o.0, thread_next k x q ∙ keeps k.duties.waits ∙ o.1, is_before_next w place o.0 o.2)
          by (begins line c is) =
              let one : c ≡ call =
              let e : SameTurn (Called c) (Called call) =
              sym (turn_here t.header six x.moment k.model q (Called c))
              ∙ sym (ap (λ (s : Step tcp_shape). turn_of q (after (tcp t.header) x.moment k.model s).threads) is) ∙ turn in cc in (
                x.moment,
                thread_next k x q
                    ∙ ap (λ (s : Step tcp_shape). waiting q (threads_after x.moment (observe t.header x.moment k.model s).call_change k.duties.waits)) is
                    ∙ ap (λ (y : Call). waiting q (threads_after x.moment (if says_sender t.header.version then beginning q y else call_change.Nothing)
                    k.duties.waits)) one
                    ∙ begun call (says_sender t.header.version) six waits,
                λ later m le there. moments_rise t w placed place later x.moment m (omega arith) at there,
              )
          by (answers answer is) =
              absurd (no_effect answer (turn_of q k.model.threads) refl
              (sym (ap (λ (s : Step tcp_shape). turn_of q (after (tcp t.header) x.moment k.model s).threads) is) ∙ turn))
          by (ends line answer is) =
              absurd (let e : SameTurn Idle (Called call) =
              sym (turn_here t.header six x.moment k.model q Idle)
              ∙ sym (ap (λ (s : Step tcp_shape). turn_of q (after (tcp t.header) x.moment k.model s).threads) is) ∙ turn in cc)

  module _ (lawful : Lawful (tcp t.header) (first_known t.header).model (stamped t.header t.lines w.steps))
      (dutiful : Dutiful t.header (first_known t.header) (stamped t.header t.lines w.steps)) where
    pub open_calls : (place : ℕ) → OpenCalls w place (known_before t w place)
    open_calls place =
        onward (λ j. OpenCalls w j (known_before t w j)) 0 place (omega arith)
        (record { each = λ thread call socket turn waits. absurd (let e : SameTurn Idle (Called call) = turn in cc) })
        (λ j low high here. step j here)
      where
        step : (j : ℕ) → OpenCalls w j (known_before t w j) → OpenCalls w (suc j) (known_before t w (suc j))
        step j here = by (act_at t w j) refl
          where
            by : (o : Option (Stamped tcp_shape)) → act_at t w j ≡ o → OpenCalls w (suc j) (known_before t w (suc j))
            by None is =
                subst (OpenCalls w (suc j)) (sym (nothing_done t w j is))
                (record { each = λ thread call socket turn waits. let o = here.each thread call socket turn waits in (o.0, o.1, is_before_next w j o.0 o.2) })
            by (Some x) is =
                let a = acts t w lawful dutiful j x is in
                subst (OpenCalls w (suc j)) (sym a.next) (open_next j (known_before t w j) x (is_at t w j x is) here)
