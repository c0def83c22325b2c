-- Calls that wait, in terms of the trace and the witness.
use Rattle.std.proofs.Common.{◌≡◌, ℕ, suc, ◌+◌, ◌<◌, ◌≤◌, ◌⊎◌, inl, inr, Bool, true, false, List, [], ◌∷◌, length, Option, Some, None, refl, ap, sym, subst}
use Rattle.std.proofs.Common.{◌∙◌, nat_eq, arith}
use Rattle.std.specs.Prelude.{if◌then◌else◌, max, unwrap_or}
use Rattle.std.specs.List.{AllByRecursion}
use Rattle.std.specs.Option.{option_map, option_map_or}
use Rattle.case_forms.specs.TakenLines.{event_taken, taken_of}
use Rattle.case_forms.specs.Versions.{says_sender}
use Rattle.case_forms.specs.declared.calls.Host.{Host}
use Rattle.case_forms.specs.declared.named_line.Extras.TheVariants.{Bare}
use Rattle.case_forms.specs.declared.steps.Label.TheVariants as labels
use Rattle.case_forms.specs.declared.steps.Step.{Step as WitnessStep}
use Rattle.case_forms.specs.declared.steps.Witness.{Witness}
use Rattle.case_forms.specs.declared.taken_line.TakenLine.{TakenLine}
use Rattle.case_forms.specs.declared.trace.Event.{Event as LineEvent}
use Rattle.case_forms.specs.declared.trace.Header.{Header}
use Rattle.case_forms.specs.declared.trace.Line.{Line}
use Rattle.case_forms.specs.declared.trace.Trace.{Trace}
use Rattle.verdict.specs.Rules.{first_broken}
use Rattle.verdict.proofs.RuleLemmas.{none_all}
use Rattle.interval_order.specs.Orders.{last_moment}
use Rattle.interval_order.specs.Placed.{Placed}
use Rattle.spec_network.specs.HostRules as host_rules
use Rattle.spec_network.specs.HostRules.{Permitted, answer_differs}
use Rattle.spec_network.specs.HostSteps.{Lawful}
use Rattle.spec_network.specs.Hosts.{Effect, Finish, Stamped, World}
use Rattle.spec_network.specs.Hosts.{Turn, turn_of}
use Rattle.spec_network.specs.Tables.{on, pick, waiting}
use Rattle.spec_tcp.specs.Machine.{tcp, tcp_shape}
use Rattle.spec_tcp.specs.Steps.{step_of}
use Rattle.spec_tcp.specs.declared.endpoint.SocketTarget.{SocketTarget}
use Rattle.spec_tcp_laws.proofs.Rules.{neither, true_false}
use Rattle.spec_cases.specs.Cases.{Dutiful, Known, first_known, known_after, known_after_all, late_at_end, shown, untrue_at}
use Rattle.spec_duties.specs.Answering.{answer_due, answered_since, any_call, is_answer_late, is_unanswered_late, owed_at_end, owed_by_thread}
use Rattle.spec_duties.specs.Answering.{ready_for, ready_since, unanswered_since}
use Rattle.spec_duties.specs.End.{end_rules}
use Rattle.spec_duties.specs.Observations.{observe}
use Rattle.spec_duties.specs.Watching.{duty_rules, untrue_rules}
use Rattle.spec_duties.specs.declared.answering.Awaited.TheVariants as awaits
use Rattle.spec_duties.specs.declared.answering.CallChange.TheVariants as call_change
use Rattle.spec_duties.specs.declared.answering.OpenCall.{OpenCall}
use Rattle.spec_duties.specs.declared.answering.OpenCall.TheVariants as open_call
use Rattle.spec_duties.specs.declared.answering.Ready.{Ready}
use Rattle.spec_duties.specs.declared.answering.Waiting.{Waiting}
use Rattle.spec_duties.specs.declared.observations.Observation.{Observation}
use Rattle.checker.specs.Seen.{act_of, moves, stamped}
use Rattle.kept_duties.specs.Happens.{act_at, known_before, world_before}
use Rattle.kept_duties.specs.Segments.{EndsBy}
use Rattle.kept_duties.proofs.Excused.{Sees, sees}
use Rattle.kept_duties.proofs.Inbox.{not_late}
use Rattle.kept_duties.proofs.Runs.{onward, world_is}
use Rattle.kept_duties.proofs.Segments.{end_fine}
use Rattle.kept_calls.specs.Awaiting.{CallsAreAnswered, EndsAt, GetsAnswer, HasAnswer, IsAt, IsCalled, IsLive, IsReady, Waits, longest_wait}
use Rattle.kept_calls.proofs.Acts.{Acts, acts, is_at, nothing_done}
use Rattle.kept_calls.proofs.Answering.{Named, Owes, answered, gets_answer, max_low, named_next, not_again, owes_next, waits_yet}
use Rattle.kept_calls.proofs.Sockets.{waits_at}
use Rattle.kept_calls.proofs.Threads.{OpenCalls, awaited_by, open_calls}
use Rattle.kept_calls.proofs.Tracked.{Tracks, tracks}

-- the act of an `E` line
end_act : (t : Trace) (w : Witness) (place moment thread : ℕ) (e : EndsAt t w place moment thread)
    → act_at t w place ≡ Some (record { moment = moment; step = Finish e.shown.number thread e.answer })
end_act t w place moment thread e =
    ap (λ (o : Option WitnessStep). option_map_or (act_of t.header t.lines) o None) e.step.here
    ∙ ap (λ (o : Option Line). acted (option_map_or (taken_of Bare) o None)) e.is
    ∙ ap (λ (event : LineEvent). acted (event_taken e.shown.number e.shown.thread event Bare)) e.ends
    ∙ ap (λ (u : ℕ). Some (record { moment = moment; step = Finish e.shown.number u e.answer })) e.of
  where
    acted : Option TakenLine → Option (Stamped tcp_shape)
    acted o = option_map (λ step. record { moment = moment; step = step }) (option_map step_of (option_map (λ found. labels.L found) o))

-- an open call isn't late if none is
call_fine : (late : OpenCall → Bool) (q : ℕ) (es : List (ℕ × Option OpenCall)) → any_call late es ≡ false
    → option_map_or late (waiting q es) false ≡ false
call_fine late q [] none = refl
call_fine late q (e ∷ es) none =
    let both = neither (option_map_or late e.1 false) (any_call late es) none in
    by (nat_eq q e.0) refl both.0 (call_fine late q es both.1)
  where
    by : (b : Bool) → nat_eq q e.0 ≡ b → option_map_or late e.1 false ≡ false → option_map_or late (waiting q es) false ≡ false
        → option_map_or late (waiting q (e ∷ es)) false ≡ false
    by true same this rest = rw same this
    by false differs this rest = rw differs rest

module _ (t : Trace) (w : Witness) (slack : ℕ) (given : t.header.slack ≡ Some slack)
    (lawful : Lawful (tcp t.header) (first_known t.header).model (stamped t.header t.lines w.steps))
    (dutiful : Dutiful t.header (first_known t.header) (stamped t.header t.lines w.steps)) (six : says_sender t.header.version ≡ true)
    (placed : Placed t.header t.lines (moves w.steps)) where
  abbrev h : Header
  h = t.header

  abbrev known : ℕ → Known
  known = known_before t w

  module _ (from since to thread socket : ℕ) (at : IsAt w from since) (waits : Waits t w from since to thread socket) where
    -- the socket number names this, and the answer is owed since that moment or an earlier one
    abbrev Path : Host → SocketTarget → ℕ → Type 0
    Path host target place =
        Named t w slack given six placed thread socket since (known place) host target
        × Owes t w slack given six placed thread socket since (known place) host target

    abbrev Now : ℕ → Type 0
    Now place = IsReady h (known place).model thread socket ⊎ HasAnswer h (known place).model thread socket

    now_at : (place : ℕ) → from < place → place ≤ to → Now place
    now_at place low high =
        subst (λ (v : World tcp_shape). IsReady h v thread socket ⊎ HasAnswer h v thread socket) (sym (world_is t w place)) (waits.stays place low high)

    live_of : (place : ℕ) → Now place → IsLive h (known place).model socket
    live_of place (inl ready) = ready.called.live
    live_of place (inr has) = has.live

    path_next : (host : Host) (target : SocketTarget) (place : ℕ) → Now (suc place) → Path host target place → Path host target (suc place)
    path_next host target place now here = go (act_at t w place) refl
      where
        go : (o : Option (Stamped tcp_shape)) → act_at t w place ≡ o → Path host target (suc place)
        go None is =
            subst (λ (k : Known). Named t w slack given six placed thread socket since k host target
            × Owes t w slack given six placed thread socket since k host target) (sym (nothing_done t w place is)) here
        go (Some x) is =
            let a = acts t w lawful dutiful place x is in
            let now' = subst (λ (k : Known). IsReady h k.model thread socket ⊎ HasAnswer h k.model thread socket) a.next now in
            let old = tracks t w slack given six placed lawful dutiful place in
            subst (λ (k : Known). Named t w slack given six placed thread socket since k host target
            × Owes t w slack given six placed thread socket since k host target) (sym a.next) (
              named_next t w slack given six placed thread socket since place (known place) x (is_at t w place x is) a.permitted old host target here.0
                  (live' (known_after h x.moment (known place) x.step) now'),
              owes_next t w slack given six placed thread socket since place (known place) x (is_at t w place x is) a.permitted
                  old host target here.0 now' here.1,
            )
          where
            live' : (k : Known) → IsReady h k.model thread socket ⊎ HasAnswer h k.model thread socket → IsLive h k.model socket
            live' k (inl ready) = ready.called.live
            live' k (inr has) = has.live

    path_to : (host : Host) (target : SocketTarget) (start : ℕ) → from ≤ start → start ≤ to → Path host target start → Path host target to
    path_to host target start low high here =
        onward (Path host target) start to high here
        (λ j a b here. path_next host target j (now_at (suc j) (omega (arith, low, a)) (omega (arith, b))) here)

    -- what is kept of the call's socket, and of the call, as it begins
    start_tracks : Tracks t w from (known from)
    start_tracks = tracks t w slack given six placed lawful dutiful from

    pub starts : (host : Host) × (target : SocketTarget) × Path host target to
    starts = go waits.begins
      where
        opened : OpenCalls w from (known from)
        opened = open_calls t w slack given six placed lawful dutiful from

        go : IsReady h (world_before t w from) thread socket ⊎ GetsAnswer t w from since thread socket
            → (host : Host) × (target : SocketTarget) × Path host target to
        go (inl ready') =
            let ready = subst (λ (v : World tcp_shape). IsReady h v thread socket) (sym (world_is t w from)) ready' in
            let r = ready.called in
            let held = start_tracks.sockets r.live.host socket r.live.target (awaited_by r.call) r.live.names in
            let none =
            not_again h.version six (pick (known from).model.hosts r.live.host).body r.live.target r.call socket r.waits r.live.names ready.ready in
            let s = held.holds.0 none in
            let o = opened.each thread r.call socket r.begun r.waits in (
              r.live.host,
              r.live.target,
              path_to r.live.host r.live.target from (omega arith) (let less = waits.behind in omega arith) (
                record { returned = r.live.returned; names = r.live.names },
                waits_yet r.call r.waits r.begun
                    (record { ready = held.ready; is = held.is; holds = (s.0, s.1, held.holds.1 s.0 s.1 from since (omega arith) at) })
                    o.0 o.1 (o.2 from since (omega arith) at),
              ),
            )
        go (inr gets) =
            let r = subst (λ (v : World tcp_shape). IsCalled h v thread socket) (sym (world_is t w from)) gets.called in
            let held = start_tracks.sockets r.live.host socket r.live.target (awaited_by r.call) r.live.names in
            let o = opened.each thread r.call socket r.begun r.waits in
            let x : Stamped tcp_shape = record { moment = since; step = Effect thread gets.answer } in
            let is : act_at t w from ≡ Some x = ap (λ (o : Option WitnessStep). option_map_or (act_of t.header t.lines) o None) gets.step.here in
            let a = acts t w lawful dutiful from x is in
            let named : Named t w slack given six placed thread socket since (known from) r.live.host r.live.target =
            record { returned = r.live.returned; names = r.live.names } in
            let less = waits.behind in
            let now = now_at (suc from) (omega arith) (omega (arith, less)) in
            let live = subst (λ (k : Known). IsLive h k.model socket) a.next (live_of (suc from) now) in (
              r.live.host,
              r.live.target,
              path_to r.live.host r.live.target (suc from) (omega arith) (omega (arith, less))
                  (subst (λ (k : Known). Named t w slack given six placed thread socket since k r.live.host r.live.target
                  × Owes t w slack given six placed thread socket since k r.live.host r.live.target) (sym a.next) (
                    named_next t w slack given six placed thread socket since from (known from) x (is_at t w from x is) a.permitted start_tracks r.live.host
                        r.live.target named live,
                    gets_answer t w slack given six placed thread socket since from (known from) x (is_at t w from x is) a.permitted start_tracks r.live.host
                        r.live.target named r.call r.waits r.begun gets.answer gets.other refl o.0 o.1
                        (record {
                          ready = held.ready;
                          is = held.is;
                          holds =
                              low o.0 (o.2 from since (omega arith) at) (ready_since held.ready (awaited_by r.call))
                              (λ m it. held.holds.1 m it from since (omega arith) at);
                        }) live,
                  )),
            )
          where
            low : (begun : ℕ) → begun ≤ since → (o : Option ℕ) → ((m : ℕ) → o ≡ Some m → m ≤ since)
                → unwrap_or (option_map (max begun) o) since ≤ since
            low begun le None each = omega arith
            low begun le (Some m) each = max_low begun m since le (each m refl)

  -- ---- the line of the answer

  ends_in_time : (from since to moment thread socket : ℕ) → IsAt w from since → Waits t w from since to thread socket → EndsAt t w to moment thread
      → moment ≤ since + longest_wait + slack
  ends_in_time from since to moment thread socket at waits e = go (starts from since to thread socket at waits)
    where
      x : Stamped tcp_shape
      x = record { moment = moment; step = Finish e.shown.number thread e.answer }

      a : Acts t w to x
      a = acts t w lawful dutiful to x (end_act t w to moment thread e)

      k : Known
      k = known to

      -- what is compared
      fine : is_answer_late slack moment k.duties.waits (call_change.Ends thread) ≡ false
      fine = sym (ap (λ (b : Bool). is_answer_late slack moment k.duties.waits (if b then call_change.Ends thread else call_change.Nothing)) six)
          ∙ (subst All seen.is all).1.1.1.1.0
        where
          s : Observation
          s = observe h moment k.model x.step

          seen : Sees h s (shown h moment k x.step)
          seen = sees h k.flights s

          All : Observation → Type 0
          All o = AllByRecursion (λ r. r.1 ≡ false) (duty_rules h slack moment k.duties (untrue_at h x.moment k x.step) o)

          all : All (shown h moment k x.step)
          all =
              none_all (duty_rules h slack moment k.duties (untrue_at h x.moment k x.step) (shown h moment k x.step))
              (sym (ap (λ o. first_broken (on o (untrue_rules (untrue_at h x.moment k x.step))
              (λ slack. duty_rules h slack moment k.duties (untrue_at h x.moment k x.step) (shown h moment k x.step)))) given) ∙ a.unbroken)

      go : (host : Host) × (target : SocketTarget) × Path from since to thread socket at waits host target to → moment ≤ since + longest_wait + slack
      go (host, target, (named, waits_yet call kind begun held since' entry low)) =
          absurd (let differs =
          (none_all (host_rules.end_rules (tcp h).differs (turn_of thread k.model.threads) e.answer) a.permitted).1.0 in
          true_false refl (sym (ap (λ (u : Turn tcp_shape). answer_differs (tcp h).differs u e.answer) begun) ∙ differs))
      go (host, target, (named, answered told turn since' entry low)) =
          let held = (tracks t w slack given six placed lawful dutiful to).sockets host socket target awaits.Bytes named.names in
          let due : answer_due (owed_by_thread k.duties.waits thread (answered_since k.duties.waits)) ≡ Some (since' + 500000) =
          ap (λ (o : Option OpenCall). answer_due (on o None (answered_since k.duties.waits))) entry
          ∙ ap (λ (o : Option Ready). answer_due (option_map (λ r. since') o)) held.is in
          let le = not_late slack (since' + 500000) moment (answer_due (owed_by_thread k.duties.waits thread (answered_since k.duties.waits))) due fine in
          omega (arith, le, low)

  -- ---- the end

  left_in_time : late_at_end h (last_moment (moves w.steps)) (known_after_all h (first_known h) (stamped h t.lines w.steps)) ≡ None
      → (from since thread socket : ℕ) → IsAt w from since → Waits t w from since (length w.steps) thread socket
      → EndsBy w (since + longest_wait + slack)
  left_in_time late from since thread socket at waits = go (starts from since (length w.steps) thread socket at waits)
    where
      k : Known
      k = known (length w.steps)

      last : ℕ
      last = last_moment (moves w.steps)

      fine : option_map_or (is_unanswered_late h slack last k.model k.duties.waits) (waiting thread k.duties.waits.threads) false ≡ false
      fine =
          call_fine (is_unanswered_late h slack last k.model k.duties.waits) thread k.duties.waits.threads
          (none_all (end_rules h slack last k.duties k.model) (end_fine t w slack given late)).1.1.1.1.1.1.1.1.0

      in_time : (call : OpenCall) (m : ℕ) → waiting thread k.duties.waits.threads ≡ Some call
          → owed_at_end h k.model k.duties.waits call ≡ Some m → m ≤ since → last ≤ since + longest_wait + slack
      in_time call m entry owed low =
          let none : is_unanswered_late h slack last k.model k.duties.waits call ≡ false =
          sym (ap (λ (o : Option OpenCall). option_map_or (is_unanswered_late h slack last k.model k.duties.waits) o false) entry) ∙ fine in
          let le = not_late slack (m + 500000) last (answer_due (owed_at_end h k.model k.duties.waits call)) (ap answer_due owed) none in
          omega (arith, le, low)

      go : (host : Host) × (target : SocketTarget) × Path from since (length w.steps) thread socket at waits host target (length w.steps)
          → last ≤ since + longest_wait + slack
      go (host, target, (named, waits_yet call kind begun held since' entry low)) =
          let q = held.holds in
          in_time (open_call.Waits since' socket (awaited_by call)) (max since' q.0) entry
          (ap (λ (o : Option Waiting). on o None (λ x. unanswered_since (ready_for k.duties.waits x) (open_call.Waits since' socket (awaited_by call))))
          (waits_at h k.model thread host (awaited_by call) socket target named.returned named.names)
          ∙ ap (λ (o : Option Ready). option_map (max since') (on o None (λ r. ready_since r (awaited_by call)))) held.is
          ∙ ap (λ (o : Option ℕ). option_map (max since') o) q.1)
          (max_low since' q.0 since low q.2)
      go (host, target, (named, answered told turn since' entry low)) =
          let held = (tracks t w slack given six placed lawful dutiful (length w.steps)).sockets host socket target awaits.Bytes named.names in
          in_time (open_call.Answered since' host target) since' entry (ap (λ (o : Option Ready). option_map (λ r. since') o) held.is) low

  pub calls_answered : late_at_end h (last_moment (moves w.steps)) (known_after_all h (first_known h) (stamped h t.lines w.steps)) ≡ None
      → CallsAreAnswered t w slack
  calls_answered late = record { ended = ends_in_time; left = left_in_time late }
