-- A program that waits for an answer that is there gets it in time, or the witness ends in time.
use Rattle.std.proofs.Common.{◌≡◌, ℕ, ◌<◌, ◌≤◌, ◌⊎◌, inl, inr, Bool, true, false, List, [], ◌∷◌, length, Option, Some, None, refl, ap, sym, subst}
use Rattle.std.proofs.Common.{◌∙◌, arith}
use Rattle.std.specs.Prelude.{if◌then◌else◌, ◌&&◌, not, max, unwrap_or}
use Rattle.std.specs.Option.{option_map, option_map_or, option_or}
use Rattle.std.proofs.lemmas.Bool.Decides.{nat_tests}
use Rattle.std.proofs.lemmas.Option.{none-some, same_Some}
use Rattle.case_forms.specs.Versions.{says_sender}
use Rattle.case_forms.specs.declared.calls.Answer.{Answer}
use Rattle.case_forms.specs.declared.calls.Answer.TheVariants as answers
use Rattle.case_forms.specs.declared.calls.Call.{Call}
use Rattle.case_forms.specs.declared.calls.Call.TheVariants as calls
use Rattle.case_forms.specs.declared.calls.Host.{Host}
use Rattle.case_forms.specs.declared.calls.Host.TheVariants.{Zero, One}
use Rattle.case_forms.specs.declared.steps.Witness.{Witness}
use Rattle.case_forms.specs.declared.trace.Header.{Header}
use Rattle.case_forms.specs.declared.trace.Trace.{Trace}
use Rattle.case_forms.specs.declared.version.Version.{Version}
use Rattle.case_forms.specs.declared.version.Version.TheVariants.{Six}
use Rattle.verdict.proofs.RuleLemmas.{none_all}
use Rattle.interval_order.specs.Placed.{Placed}
use Rattle.spec_network.specs.HostRules.{Permitted, aim_of, begin_rules, effect_rules, is_answered, is_idle}
use Rattle.spec_network.specs.HostSteps.{after, effect_after}
use Rattle.spec_network.specs.Hosts.{Effect, Stamped, Step, ThatSocket, World}
use Rattle.spec_network.specs.Hosts.{Answered, Called, Idle, Turn, turn_of}
use Rattle.spec_network.specs.Tables.{on, pick, waiting}
use Rattle.spec_tcp.specs.Calls.{call_allows, is_bad_socket, target_allows}
use Rattle.spec_tcp.specs.Calls.Accept.{ended_allows, listener_allows, open_allows}
use Rattle.spec_tcp.specs.HostTcp.{HostTcp, has_ended, queue_of, socket_target}
use Rattle.spec_tcp.specs.HostTcp.{given as given'}
use Rattle.spec_tcp.specs.Machine.{aim, tcp, tcp_shape}
use Rattle.spec_tcp.specs.declared.endpoint.SocketTarget.{SocketTarget}
use Rattle.spec_tcp.specs.declared.endpoint.SocketTarget.TheVariants.{ListenerAt, EndpointAt}
use Rattle.spec_tcp_laws.proofs.Rules.{true_false}
use Rattle.spec_cases.specs.Cases.{Known, known_after}
use Rattle.spec_duties.specs.Answering.{Waits as WaitTable, answering, call_for, is_again}
use Rattle.spec_duties.specs.Answering.{may_wait, owed_by_thread, ready_after, ready_for, ready_since, threads_after}
use Rattle.spec_duties.specs.Answering.{unanswered_since, waiting_on}
use Rattle.spec_duties.specs.Observations.{observe}
use Rattle.spec_duties.specs.declared.answering.Awaited.{Awaited}
use Rattle.spec_duties.specs.declared.answering.Awaited.TheVariants as awaits
use Rattle.spec_duties.specs.declared.answering.CallChange.{CallChange}
use Rattle.spec_duties.specs.declared.answering.CallChange.TheVariants as call_change
use Rattle.spec_duties.specs.declared.answering.OpenCall.{OpenCall}
use Rattle.spec_duties.specs.declared.answering.OpenCall.TheVariants as open_call
use Rattle.spec_duties.specs.declared.answering.Ready.{Ready}
use Rattle.spec_duties.specs.declared.answering.SocketChange.TheVariants as socket_change
use Rattle.spec_duties.specs.declared.answering.Waiting.{Waiting}
use Rattle.spec_duties.specs.declared.observations.Observation.{Observation}
use Rattle.checker.specs.Seen.{moves}
use Rattle.kept_duties.proofs.Observations.{waiting_here}
use Rattle.kept_calls.specs.Awaiting.{HasAnswer, IsAt, IsLive, IsReady, waits_on}
use Rattle.kept_calls.proofs.Naming.{given_new, live_given}
use Rattle.kept_calls.proofs.Renewing.{Held, after_keeps}
use Rattle.kept_calls.proofs.Sockets.{shows_effect, waits_at}
use Rattle.kept_calls.proofs.Threads.{SameTurn, TurnAfter, answers, awaited_by, begins, ends, stays, thread_next, turn_after, turn_here}
use Rattle.kept_calls.proofs.Tracked.{Tracks, kept, tracks, waits_next}
use Rattle.kept_calls.proofs.Tracked as tracked

-- ---- what `again` depends on

listener_again : (v : Version) → says_sender v ≡ true → (ended : Bool) (queue : List ℕ) (call : Call) (socket : ℕ) → waits_on call ≡ Some socket
    → listener_allows v ended queue call answers.Again
    ≡ (if ended then false else open_allows v queue call answers.Again)
listener_again v six ended queue call socket waits =
    ap (λ (b : Bool). if b && ended then ended_allows call answers.Again else open_allows v queue call answers.Again) six
    ∙ by ended call waits
  where
    by : (ended : Bool) (call : Call) → waits_on call ≡ Some socket
        → (if ended then ended_allows call answers.Again else open_allows v queue call answers.Again)
        ≡ (if ended then false else open_allows v queue call answers.Again)
    by false call waits = refl
    by true (calls.Recv n most) waits = refl
    by true (calls.Await n) waits = refl
    by true (calls.Accept n) waits = refl
    by true call waits = absurd (none-some socket waits)

again_alike : (v : Version) → says_sender v ≡ true → (b : HostTcp) (target : SocketTarget) (call : Call) (socket : ℕ) → waits_on call ≡ Some socket
    → target_allows v b call answers.Again target ≡ may_wait b target (awaited_by call)
again_alike v six b (EndpointAt i) (calls.Recv n most) socket waits = refl
again_alike v six b (EndpointAt i) (calls.Await n) socket waits = refl
again_alike v six b (EndpointAt i) (calls.Accept n) socket waits = refl
again_alike v six b (ListenerAt l) call socket waits = by call waits
  where
    opened : (queue : List ℕ) (call : Call) → waits_on call ≡ Some socket
        → open_allows v queue call answers.Again ≡ open_allows Six queue (call_for (awaited_by call)) answers.Again
    opened [] (calls.Recv n most) waits = refl
    opened [] (calls.Await n) waits = refl
    opened [] (calls.Accept n) waits = refl
    opened (child ∷ queue) (calls.Recv n most) waits = refl
    opened (child ∷ queue) (calls.Await n) waits = refl
    opened (child ∷ queue) (calls.Accept n) waits = refl
    opened queue call waits = absurd (none-some socket waits)

    like : (call : Call) → waits_on call ≡ Some socket
        → (if has_ended b l then false else open_allows Six (queue_of b l) (call_for (awaited_by call)) answers.Again)
        ≡ may_wait b (ListenerAt l) (awaited_by call)
    like (calls.Recv n most) waits = refl
    like (calls.Await n) waits = refl
    like (calls.Accept n) waits = refl
    like call waits = absurd (none-some socket waits)

    by : (call : Call) → waits_on call ≡ Some socket
        → listener_allows v (has_ended b l) (queue_of b l) call answers.Again ≡ may_wait b (ListenerAt l) (awaited_by call)
    by call waits =
        listener_again v six (has_ended b l) (queue_of b l) call socket waits
        ∙ ap (λ (x : Bool). if has_ended b l then false else x) (opened (queue_of b l) call waits)
        ∙ like call waits
again_alike v six b (EndpointAt i) call socket waits = absurd (none-some socket waits)

aim_is : (call : Call) (socket : ℕ) → waits_on call ≡ Some socket → aim call ≡ ThatSocket socket
aim_is (calls.Recv n most) socket waits = ap (λ (m : ℕ). ThatSocket m) (same_Some n socket waits)
aim_is (calls.Await n) socket waits = ap (λ (m : ℕ). ThatSocket m) (same_Some n socket waits)
aim_is (calls.Accept n) socket waits = ap (λ (m : ℕ). ThatSocket m) (same_Some n socket waits)
aim_is call socket waits = absurd (none-some socket waits)

-- a call that can't be answered `again` doesn't have to wait
pub not_again : (v : Version) → says_sender v ≡ true → (b : HostTcp) (target : SocketTarget) (call : Call) (socket : ℕ) → waits_on call ≡ Some socket
    → socket_target b socket ≡ Some target → call_allows v b call answers.Again ≡ false → may_wait b target (awaited_by call) ≡ false
not_again v six b target call socket waits names none = sym (again_alike v six b target call socket waits) ∙ sym (at call waits) ∙ none
  where
    on_socket : (call : Call) (n : ℕ) → n ≡ socket
        → option_map_or (target_allows v b call answers.Again) (socket_target b n) (is_bad_socket answers.Again)
        ≡ target_allows v b call answers.Again target
    on_socket call n same =
        ap (λ (o : Option SocketTarget). option_map_or (target_allows v b call answers.Again) o (is_bad_socket answers.Again))
        (ap (socket_target b) same ∙ names)

    at : (call : Call) → waits_on call ≡ Some socket → call_allows v b call answers.Again ≡ target_allows v b call answers.Again target
    at (calls.Recv n most) waits = on_socket (calls.Recv n most) n (same_Some n socket waits)
    at (calls.Await n) waits = on_socket (calls.Await n) n (same_Some n socket waits)
    at (calls.Accept n) waits = on_socket (calls.Accept n) n (same_Some n socket waits)
    at call waits = absurd (none-some socket waits)

not_is_again : (answer : Answer) → (answer ≡ answers.Again → ⊥) → is_again answer ≡ false
not_is_again answers.Again other = absurd (other refl)
not_is_again answer other = refl

-- what an answer to such a call shows
answers_shown : (h : Header) (w : World tcp_shape) (thread : ℕ) (host : Host) (target : SocketTarget) (answer : Answer) (call : Call) (socket : ℕ)
    → waits_on call ≡ Some socket → is_again answer ≡ false → aim_of (tcp h) w.hosts (ThatSocket socket) ≡ Some host
    → socket_target (pick w.hosts host).body socket ≡ Some target
    → answering h w thread answer call
    ≡ call_change.Answers thread (Some (record { host = host; target = target; awaited = awaited_by call }))
answers_shown h w thread host target answer call socket waits other aims names = by call waits
  where
    on_socket : (awaited : Awaited) (n : ℕ) → n ≡ socket
        → call_change.Answers thread (if is_again answer then None else waiting_on h w awaited n)
        ≡ call_change.Answers thread (Some (record { host = host; target = target; awaited = awaited }))
    on_socket awaited n same =
        ap (λ (b : Bool). call_change.Answers thread (if b then None else waiting_on h w awaited n)) other
        ∙ ap (λ (m : ℕ). call_change.Answers thread (waiting_on h w awaited m)) same
        ∙ ap (λ (o : Option Waiting). call_change.Answers thread o) (waits_at h w thread host awaited socket target aims names)

    by : (call : Call) → waits_on call ≡ Some socket
        → answering h w thread answer call ≡ call_change.Answers thread (Some (record { host = host; target = target; awaited = awaited_by call }))
    by (calls.Recv n most) waits = on_socket awaits.Bytes n (same_Some n socket waits)
    by (calls.Await n) waits = on_socket awaits.Connection n (same_Some n socket waits)
    by (calls.Accept n) waits = on_socket awaits.Child n (same_Some n socket waits)
    by call waits = absurd (none-some socket waits)

pub max_low : (a b by : ℕ) → a ≤ by → b ≤ by → max a b ≤ by
max_low a b by p q = grind (arith, nat_tests, p, q)

-- ---- a program waits

module _ (t : Trace) (w : Witness) (slack : ℕ) (given : t.header.slack ≡ Some slack) (six : says_sender t.header.version ≡ true)
    (placed : Placed t.header t.lines (moves w.steps)) (thread socket by : ℕ) where
  abbrev h : Header
  h = t.header

  -- what the socket number names
  pub record Named (k : Known) (host : Host) (target : SocketTarget) : Type 0 where
    pub returned : aim_of (tcp h) k.model.hosts (ThatSocket socket) ≡ Some host
    pub names : socket_target (pick k.model.hosts host).body socket ≡ Some target

  -- since a moment up to this one
  abbrev InTime : Option ℕ → Type 0
  InTime o = (since : ℕ) × (o ≡ Some since) × (since ≤ by)

  -- the answer is owed since a moment up to this one
  pub data Owes (k : Known) (host : Host) (target : SocketTarget) : Type 0 where
    waits_yet : (call : Call) → waits_on call ≡ Some socket → SameTurn (turn_of thread k.model.threads) (Called call)
        → Held host target (awaited_by call) k.duties.waits InTime → (begun : ℕ)
        → waiting thread k.duties.waits.threads ≡ Some (open_call.Waits begun socket (awaited_by call)) → begun ≤ by → Owes k host target
    answered : (answer : Answer) → SameTurn (turn_of thread k.model.threads) (Answered answer) → (since : ℕ)
        → waiting thread k.duties.waits.threads ≡ Some (open_call.Answered since host target) → since ≤ by → Owes k host target

  module _ (place : ℕ) (k : Known) (x : Stamped tcp_shape) (at : IsAt w place x.moment) (may : Permitted (tcp h) x.moment k.model x.step)
      (old : Tracks t w place k) where
    abbrev next : Known
    next = known_after h x.moment k x.step

    -- a live socket number goes on naming the same
    live_stays : (host : Host) (target : SocketTarget) → Named k host target → (live : IsLive h next.model socket)
        → (live.host ≡ host) × (live.target ≡ target)
    live_stays host target named live = go ((kept t w slack given six placed place k x at may old live.host).sockets socket live.target live.names)
      where
        was_given : given' (pick k.model.hosts host).body socket ≡ true
        was_given = live_given (pick k.model.hosts host).body socket target named.names

        both : (a b : Host) → given' (pick k.model.hosts a).body socket ≡ true → given' (pick k.model.hosts b).body socket ≡ true → a ≡ b
        both Zero Zero p q = refl
        both One One p q = refl
        both Zero One p q = absurd (old.steady.apart socket p q)
        both One Zero p q = absurd (old.steady.apart socket q p)

        go : (socket_target (pick k.model.hosts live.host).body socket ≡ Some live.target)
            ⊎ (((observe h x.moment k.model x.step).socket_change ≡ socket_change.Gives live.host socket)
            × ((l : ℕ) → live.target ≡ ListenerAt l
            → (length (pick k.model.hosts live.host).body.listeners ≤ l) × (l < length (pick next.model.hosts live.host).body.listeners)))
            → (live.host ≡ host) × (live.target ≡ target)
        go (inr new) = absurd (true_false was_given (given_new h x.moment k.model six x.step may live.host socket new.0 host))
        go (inl was) =
            let one : live.host ≡ host = both live.host host (live_given (pick k.model.hosts live.host).body socket live.target was) was_given in (
              one,
              same_Some live.target target
                  (sym was ∙ ap (λ (g : Host). socket_target (pick k.model.hosts g).body socket) one ∙ named.names),
            )

    -- so it does after the step
    pub named_next : (host : Host) (target : SocketTarget) → Named k host target → IsLive h next.model socket → Named next host target
    named_next host target named live =
        let same = live_stays host target named live in
        record {
          returned = live.returned ∙ ap (λ (g : Host). Some g) same.0;
          names =
              sym (ap (λ (g : Host). socket_target (pick next.model.hosts g).body socket) same.0) ∙ live.names
              ∙ ap (λ (y : SocketTarget). Some y) same.1;
        }

    abbrev after_step : Step tcp_shape → World tcp_shape
    after_step step = after (tcp h) x.moment k.model step

    -- the call can't be answered `again` after the step, nor before
    still_ready : (host : Host) (target : SocketTarget) → Named k host target → (call : Call) → waits_on call ≡ Some socket
        → SameTurn (turn_of thread next.model.threads) (Called call) → IsReady h next.model thread socket
        → may_wait (pick next.model.hosts host).body target (awaited_by call) ≡ false
    still_ready host target named call waits turn ready =
        let r = ready.called in
        let one : r.call ≡ call = let e : SameTurn (Called r.call) (Called call) = sym r.begun ∙ turn in cc in
        let same = live_stays host target named r.live in
        subst (λ (g : Host). may_wait (pick next.model.hosts g).body target (awaited_by call) ≡ false) same.0
        (subst (λ (y : SocketTarget). may_wait (pick next.model.hosts r.live.host).body y (awaited_by call) ≡ false) same.1
        (subst (λ (c : Call). may_wait (pick next.model.hosts r.live.host).body r.live.target (awaited_by c) ≡ false) one
        (not_again h.version six (pick next.model.hosts r.live.host).body r.live.target r.call socket r.waits r.live.names ready.ready)))

    -- what is kept of the socket, while no call on it has to wait
    held_next : (host : Host) (target : SocketTarget) (awaited : Awaited) → Named k host target → Named next host target
        → may_wait (pick next.model.hosts host).body target awaited ≡ false → Held host target awaited k.duties.waits InTime
        → Held host target awaited next.duties.waits InTime
    held_next host target awaited named now none held =
        subst (λ (a : WaitTable). Held host target awaited a InTime) (sym (waits_next h slack given six k x))
        (after_keeps next.model x.moment host target awaited InTime renews s.touched s.call_change s.socket_change
        (tracked.stays t w slack given six placed place k x at may old host socket target awaited named.names now.names) k.duties.waits held)
      where
        s : Observation
        s = observe h x.moment k.model x.step

        renews : (o : Option ℕ) → InTime o → InTime (ready_after (may_wait (pick next.model.hosts host).body target awaited) x.moment o)
        renews o q = (
          q.0,
          ap (λ (b : Bool). ready_after b x.moment o) none ∙ ap (λ (o : Option ℕ). option_or o (Some x.moment)) q.1,
          q.2,
        )

    -- the call gets another answer than `again`: it is owed since then, unless it was before
    pub gets_answer : (host : Host) (target : SocketTarget) → Named k host target → (call : Call) → waits_on call ≡ Some socket
        → SameTurn (turn_of thread k.model.threads) (Called call) → (answer : Answer) → (answer ≡ answers.Again → ⊥) → x.step ≡ Effect thread answer
        → (begun : ℕ) → waiting thread k.duties.waits.threads ≡ Some (open_call.Waits begun socket (awaited_by call))
        → Held host target (awaited_by call) k.duties.waits (λ o. unwrap_or (option_map (max begun) o) x.moment ≤ by)
        → IsLive h next.model socket → Owes next host target
    gets_answer host target named call waits turn answer other is begun entry held live =
        answered answer turned (unwrap_or (option_map (max begun) (ready_since held.ready (awaited_by call))) x.moment)
        (thread_next t w slack given six placed k x thread ∙ changed ∙ waiting_here thread _ k.duties.waits.threads ∙ told) held.holds
      where
        aims : aim_of (tcp h) k.model.hosts (aim call) ≡ Some host
        aims = ap (aim_of (tcp h) k.model.hosts) (aim_is call socket waits) ∙ named.returned

        turned : SameTurn (turn_of thread next.model.threads) (Answered answer)
        turned =
            ap (λ (s : Step tcp_shape). turn_of thread (after_step s).threads) is
            ∙ ap (λ (u : Turn tcp_shape). turn_of thread (effect_after (tcp h) x.moment k.model thread answer u).threads) turn
            ∙ turn_here h six x.moment k.model thread (Answered answer)

        item : Waiting
        item = record { host = host; target = target; awaited = awaited_by call }

        changed : waiting thread (threads_after x.moment (observe h x.moment k.model x.step).call_change k.duties.waits)
            ≡ waiting thread (threads_after x.moment (call_change.Answers thread (Some item)) k.duties.waits)
        changed =
            ap (λ (s : Step tcp_shape). waiting thread (threads_after x.moment (observe h x.moment k.model s).call_change k.duties.waits)) is
            ∙ ap (λ (s : Observation). waiting thread (threads_after x.moment s.call_change k.duties.waits))
            (shows_effect h x.moment k.model six thread answer call host turn aims)
            ∙ ap (λ (c : CallChange). waiting thread (threads_after x.moment c k.duties.waits))
            (answers_shown h k.model thread host target answer call socket waits (not_is_again answer other) named.returned named.names)

        told : Some (open_call.Answered (unwrap_or (owed_by_thread k.duties.waits thread (unanswered_since (ready_for k.duties.waits item))) x.moment)
            host target)
            ≡ Some (open_call.Answered (unwrap_or (option_map (max begun) (ready_since held.ready (awaited_by call))) x.moment) host target)
        told =
            ap (λ (o : Option OpenCall). Some (open_call.Answered (unwrap_or (on o None (unanswered_since (ready_for k.duties.waits item))) x.moment)
            host target))
            entry
            ∙ ap (λ (o : Option Ready). Some (open_call.Answered (unwrap_or (option_map (max begun) (on o None (λ r. ready_since r (awaited_by call))))
            x.moment)
            host target)) held.is

    -- the owed answer stays owed, while the program waits for it
    pub owes_next : (host : Host) (target : SocketTarget) → Named k host target
        → IsReady h next.model thread socket ⊎ HasAnswer h next.model thread socket → Owes k host target → Owes next host target
    owes_next host target named now (waits_yet call waits turn held begun entry low) = go (turn_after h six x.moment k.model thread x.step) now
      where
        go : TurnAfter h six x.moment k.model thread x.step → IsReady h next.model thread socket ⊎ HasAnswer h next.model thread socket
            → Owes next host target
        go (stays same keeps) (inl ready) =
            let turn' : SameTurn (turn_of thread next.model.threads) (Called call) = same ∙ turn in
            waits_yet call waits turn'
            (held_next host target (awaited_by call) named (named_next host target named ready.called.live)
            (still_ready host target named call waits turn' ready) held) begun
            (thread_next t w slack given six placed k x thread ∙ keeps k.duties.waits ∙ entry) low
        go (stays same keeps) (inr has) =
            absurd (let e : SameTurn (Answered has.answer) (Called call) = sym has.given ∙ same ∙ turn in cc)
        go (begins line c is) now' =
            absurd (let busy =
            (none_all (begin_rules (turn_of thread k.model.threads))
            (subst (λ (s : Step tcp_shape). Permitted (tcp h) x.moment k.model s) is may)).0 in
            true_false refl (sym (ap (λ (u : Turn tcp_shape). not (is_idle u)) turn) ∙ busy))
        go (answers answer is) (inl ready) =
            absurd (let e : SameTurn (Called ready.called.call) (Answered answer) =
            sym ready.called.begun ∙ ap (λ (s : Step tcp_shape). turn_of thread (after_step s).threads) is
            ∙ ap (λ (u : Turn tcp_shape). turn_of thread (effect_after (tcp h) x.moment k.model thread answer u).threads) turn
            ∙ turn_here h six x.moment k.model thread (Answered answer) in cc)
        go (answers answer is) (inr has) =
            let one : has.answer ≡ answer =
            let e : SameTurn (Answered has.answer) (Answered answer) =
            sym has.given ∙ ap (λ (s : Step tcp_shape). turn_of thread (after_step s).threads) is
            ∙ ap (λ (u : Turn tcp_shape). turn_of thread (effect_after (tcp h) x.moment k.model thread answer u).threads) turn
            ∙ turn_here h six x.moment k.model thread (Answered answer) in cc in
            gets_answer host target named call waits turn answer (λ again. has.other (one ∙ again)) is begun entry
            (record {
              ready = held.ready;
              is = held.is;
              holds =
                  let q = held.holds in
                  let least = q.2 in
                  subst (λ (o : Option ℕ). unwrap_or (option_map (max begun) o) x.moment ≤ by) (sym q.1) (max_low begun q.0 by low least);
            }) has.live
        go (ends line answer is) (inl ready) =
            absurd (let e : SameTurn (Called ready.called.call) Idle =
            sym ready.called.begun ∙ ap (λ (s : Step tcp_shape). turn_of thread (after_step s).threads) is ∙ turn_here h six x.moment k.model thread Idle in cc)
        go (ends line answer is) (inr has) =
            absurd (let e : SameTurn (Answered has.answer) Idle =
            sym has.given ∙ ap (λ (s : Step tcp_shape). turn_of thread (after_step s).threads) is ∙ turn_here h six x.moment k.model thread Idle in cc)
    owes_next host target named now (answered told turn since entry low) = go (turn_after h six x.moment k.model thread x.step) now
      where
        go : TurnAfter h six x.moment k.model thread x.step → IsReady h next.model thread socket ⊎ HasAnswer h next.model thread socket
            → Owes next host target
        go (stays same keeps) now' =
            answered told (same ∙ turn) since (thread_next t w slack given six placed k x thread ∙ keeps k.duties.waits ∙ entry) low
        go (begins line c is) now' =
            absurd (let busy =
            (none_all (begin_rules (turn_of thread k.model.threads))
            (subst (λ (s : Step tcp_shape). Permitted (tcp h) x.moment k.model s) is may)).0 in
            true_false refl (sym (ap (λ (u : Turn tcp_shape). not (is_idle u)) turn) ∙ busy))
        go (answers answer is) now' =
            absurd (let twice =
            (none_all (effect_rules (tcp h) x.moment k.model.hosts (turn_of thread k.model.threads) answer)
            (subst (λ (s : Step tcp_shape). Permitted (tcp h) x.moment k.model s) is may)).1.0 in
            true_false refl (sym (ap (λ (u : Turn tcp_shape). is_answered u) turn) ∙ twice))
        go (ends line answer is) (inl ready) =
            absurd (let e : SameTurn (Called ready.called.call) Idle =
            sym ready.called.begun ∙ ap (λ (s : Step tcp_shape). turn_of thread (after_step s).threads) is ∙ turn_here h six x.moment k.model thread Idle in cc)
        go (ends line answer is) (inr has) =
            absurd (let e : SameTurn (Answered has.answer) Idle =
            sym has.given ∙ ap (λ (s : Step tcp_shape). turn_of thread (after_step s).threads) is ∙ turn_here h six x.moment k.model thread Idle in cc)
