-- An endpoint takes one SYN: as a child of a listener, or in SYN-SENT, which it leaves then.
use Rattle.std.proofs.Common.{◌≡◌, ℕ, suc, ◌<◌, Bool, true, false, List, [], ◌∷◌, ◌++◌, length, Option, Some, None, refl, ap, sym, subst, ◌∙◌, arith, nat_eq}
use Rattle.std.specs.Prelude.{◌&&◌, if◌then◌else◌, not, slice_get}
use Rattle.std.specs.Map.{lookup}
use Rattle.std.specs.Option.{option_map, option_map_or}
use Rattle.std.proofs.lemmas.Option.{none-some, same_Some, slice_get_past}
use Rattle.seqno.specs.declared.word.Word.{Word}
use Rattle.segment.specs.Reading.{permits_sack}
use Rattle.case_forms.specs.States.{is_syn_sent}
use Rattle.case_forms.specs.Versions.{is_half, says_sender}
use Rattle.case_forms.specs.declared.calls.Answer.{Answer}
use Rattle.case_forms.specs.declared.calls.Answer.TheVariants as answers
use Rattle.case_forms.specs.declared.calls.Call.{Call}
use Rattle.case_forms.specs.declared.calls.Call.TheVariants as calls
use Rattle.case_forms.specs.declared.calls.Host.{Host}
use Rattle.case_forms.specs.declared.calls.Host.TheVariants.{Zero, One}
use Rattle.case_forms.specs.declared.calls.State.TheVariants as states
use Rattle.case_forms.specs.declared.steps.TakeChoice.{TakeChoice}
use Rattle.case_forms.specs.declared.trace.Header.{Header}
use Rattle.case_forms.specs.declared.version.Version.{Version}
use Rattle.spec_network.specs.HostSteps.{Lawful, after, host_step_after, start}
use Rattle.spec_network.specs.Hosts.{Answered as Ended, At, Called, Drops, Effect, HostState, Idle, Sends}
use Rattle.spec_network.specs.Hosts.{Stamped, Step, Takes, Turn, World, turn_of}
use Rattle.spec_network.specs.Tables.{Both, on, other, pick, waiting, with_host}
use Rattle.spec_tcp.specs.Arrives.{AtEndpoint, AtListener, Nobody, Taker, after_taking, endpoint_taken, taker}
use Rattle.spec_tcp.specs.Arrives.OtherStates.{taken}
use Rattle.spec_tcp.specs.Arrives.OtherStates.Reset.{was_reset}
use Rattle.spec_tcp.specs.Arrives.Listen.{child}
use Rattle.spec_tcp.specs.Arrives.SynSent.{on_syn}
use Rattle.spec_tcp.specs.Heard.{as_read, read_at}
use Rattle.spec_tcp.specs.HostTcp.{HostTcp, socket_target}
use Rattle.spec_tcp.specs.Machine.{act_after, aim, tcp, tcp_shape}
use Rattle.spec_tcp.specs.Signals.{profile_of}
use Rattle.spec_tcp.specs.declared.endpoint.Emission.{Emission}
use Rattle.spec_tcp.specs.declared.endpoint.Endpoint.{Endpoint}
use Rattle.spec_tcp.specs.declared.endpoint.EndpointId.{EndpointId}
use Rattle.spec_tcp.specs.declared.endpoint.SocketTarget.{SocketTarget}
use Rattle.spec_tcp.specs.declared.endpoint.SocketTarget.TheVariants.{EndpointAt, ListenerAt}
use Rattle.spec_tcp_laws.specs.Consequences.{find}
use Rattle.spec_tcp_laws.proofs.Rules.{on_cases}
use Rattle.spec_tcp_laws.proofs.Sound.{modify_here}
use Rattle.spec_tcp_laws.proofs.Takes.{taker_there}
use Rattle.spec_network.specs.HostRules.{aim_of}
use Rattle.spec_duties.specs.Observations.{observe, observe_accept, observe_call, observe_close, observe_effect, observe_other, observe_taking}
use Rattle.spec_duties.specs.Observations.{is_done, processing_of, syn_dropped, syn_taken, takes_syn, unseen}
use Rattle.spec_duties.specs.Views.{unborn, view_of}
use Rattle.spec_tcp.specs.HostTcp.{has_ended}
use Rattle.spec_duties.specs.declared.events.Event.{Event}
use Rattle.spec_duties.specs.declared.observations.Observation.{Observation}
use Rattle.spec_duties.specs.declared.observations.Queueing.TheVariants as queueing
use Rattle.spec_duties.specs.declared.observations.SynChange.{SynChange}
use Rattle.spec_duties.specs.declared.observations.SynChange.TheVariants as syn_change
use Rattle.spec_duties.specs.declared.observations.TouchedEndpoint.{TouchedEndpoint}
use Rattle.spec_duties.specs.declared.views.View.{View}
use Rattle.kept_flights.specs.Places.{Happens, world_before}
use Rattle.kept_flights.specs.Reported.{HasSyn}
use Rattle.kept_flights.proofs.Positions.{Answered, becomes, world_next}
use Rattle.kept_flights.proofs.Runs.{touched}

-- ---- only `T` steps take a SYN

abbrev NoTake : SynChange → Type 0
NoTake c = (permits alone : Bool) → c ≡ syn_change.Takes permits alone → ⊥

nothing : NoTake syn_change.Nothing
nothing permits alone is = cc

either_no : (b : Bool) (c d : SynChange) → NoTake c → NoTake d → NoTake (if b then c else d)
either_no true c d one two = one
either_no false c d one two = two

target_no : (o : Option SocketTarget) (f : SocketTarget → Observation) → ((target : SocketTarget) → NoTake (f target).syn_change)
    → NoTake (on o unseen f).syn_change
target_no None f each = nothing
target_no (Some target) f each = each target

accept_no : (host : Host) (b : HostTcp) (answer : Answer) (target : SocketTarget) → NoTake (observe_accept host b answer target).syn_change
accept_no host b (answers.Given n) (ListenerAt l) = nothing
accept_no host b answer target = nothing

close_no : (host : Host) (b : HostTcp) (aborts : Bool) (answer : Answer) (target : SocketTarget) → NoTake (observe_close host b aborts answer target).syn_change
close_no host b aborts answer (EndpointAt i) = nothing
close_no host b aborts answer (ListenerAt l) = by (is_done answer && not (has_ended b l))
  where
    by : (c : Bool) → NoTake (if c then record unseen { queueing = queueing.Closes host l } else unseen).syn_change
    by true = nothing
    by false = nothing

other_no : (host : Host) (b : HostTcp) (target : SocketTarget) → NoTake (observe_other host b target).syn_change
other_no host b (ListenerAt l) = nothing
other_no host b (EndpointAt i) = nothing

call_no : (host : Host) (b : HostTcp) (call : Call) (answer : Answer) → NoTake (observe_call host b call answer).syn_change
call_no host b (calls.Connect x lport rport) (answers.Given n) = nothing
call_no host b (calls.Connect x lport rport) answer = nothing
call_no host b (calls.Accept n) answer = target_no (socket_target b n) (observe_accept host b answer) (accept_no host b answer)
call_no host b (calls.Send n bytes) answer = target_no (socket_target b n) (observe_other host b) (other_no host b)
call_no host b (calls.Shut n) answer = target_no (socket_target b n) (observe_close host b false answer) (close_no host b false answer)
call_no host b (calls.Close n) answer = target_no (socket_target b n) (observe_close host b false answer) (close_no host b false answer)
call_no host b (calls.Abort n) answer =
    target_no (socket_target b n) (observe_close host b (is_done answer) answer) (close_no host b (is_done answer) answer)
call_no host b call answer = nothing

effect_no : (h : Header) (w : World tcp_shape) (thread : ℕ) (answer : Answer) (u : Turn tcp_shape) → NoTake (observe_effect h w thread answer u).syn_change
effect_no h w thread answer Idle = nothing
effect_no h w thread answer (Called call) =
    on_cases (λ (s : Observation). NoTake s.syn_change) (aim_of (tcp h) w.hosts (aim call)) unseen
    (λ host. observe_call host (pick w.hosts host).body call answer) nothing (λ host aims. call_no host (pick w.hosts host).body call answer)
effect_no h w thread answer (Ended given) = nothing

dropped_no : (v : Version) (m : Emission) (t : Taker) → NoTake (syn_dropped v m t)
dropped_no v m Nobody = nothing
dropped_no v m (AtListener l) = nothing
dropped_no v m (AtEndpoint i e) = either_no _ syn_change.ComesAgain syn_change.Nothing (λ permits alone is. cc) nothing

-- what such a step does at an endpoint
pub record TakesSyn (h : Header) (moment : ℕ) (w : World tcp_shape) (step : Step tcp_shape) (me : EndpointId) : Type 0 where
  pub before : (e : Endpoint) → find w.hosts me ≡ Some e → is_syn_sent e.state ≡ true
  pub now : Endpoint
  pub there : find (after (tcp h) moment w step).hosts me ≡ Some now
  pub answered : Answered now.state
  pub irs : Word
  pub known : now.irs ≡ Some irs

pub pick_here : {X : Type 0} (both : Both X) (host : Host) (x : X) → pick (with_host both host x) host ≡ x
pick_here both Zero x = refl
pick_here both One x = refl

last_there : (es : List Endpoint) (e : Endpoint) → slice_get (es ++ e ∷ []) (length es) ≡ Some e
last_there [] e = refl
last_there (x ∷ es) e = last_there es e

module _ (h : Header) (moment : ℕ) (w : World tcp_shape) (host : Host) (line : ℕ) (how : TakeChoice) where
  abbrev b : HostTcp
  b = (pick w.hosts host).body

  -- the endpoint of a place, once the segment is processed
  found : (m : Emission) (t : Taker) (i : ℕ) → waiting line (pick w.hosts host).inbox ≡ Some m → taker b m ≡ t
      → find (after (tcp h) moment w (At host (Takes line how))).hosts (record { host = host; number = i })
      ≡ slice_get (after_taking h b how m moment t).endpoints i
  found m t i waits is =
      ap (λ (k : HostState tcp_shape). slice_get k.body.endpoints i)
      (pick_here w.hosts host (host_step_after (tcp h) host moment (suc w.count) (pick w.hosts (other host)).wire (pick w.hosts host) (Takes line how)))
      ∙ ap (λ (o : Option Emission). slice_get (on o b (λ e. act_after h host moment b ((tcp h).takes how e))).endpoints i) waits
      ∙ ap (λ (t : Taker). slice_get (after_taking h b how m moment t).endpoints i) is

  by_listener : (m : Emission) (l : ℕ) → waiting line (pick w.hosts host).inbox ≡ Some m → taker b m ≡ AtListener l
      → TakesSyn h moment w (At host (Takes line how)) (record { host = host; number = length b.endpoints })
  by_listener m l waits is = record {
    before = λ e there. absurd (none-some e (sym (slice_get_past b.endpoints (length b.endpoints) (omega arith)) ∙ there));
    now = child (profile_of h) l how m moment;
    there = found m (AtListener l) (length b.endpoints) waits is ∙ last_there b.endpoints (child (profile_of h) l how m moment);
    answered = refl;
    irs = m.seq;
    known = refl;
  }

  read_reset : (e : Endpoint) (m : Emission) → m.flags.rst ≡ false → (as_read h.version e m).flags.rst ≡ false
  read_reset e m plain = by (is_half h.version)
    where
      by : (c : Bool) → (if c then read_at e m else m).flags.rst ≡ false
      by true = plain
      by false = plain

  leaves : (e : Endpoint) (r : Emission) → r.flags.rst ≡ false → is_syn_sent e.state ≡ true → Answered (endpoint_taken h e how r moment).state
  leaves e r plain sent = by r.flags.rst (is_syn_sent e.state) plain sent
    where
      state : (ack : Bool) → Answered (if ack then states.Established else states.SynReceived)
      state true = refl
      state false = refl

      by : (rst waits : Bool) → rst ≡ false → waits ≡ true
          → Answered (if rst then was_reset e how moment else if waits then on_syn h e how r moment else taken h e how r moment).state
      by true waits p s = absurd cc
      by false false p s = absurd cc
      by false true p s = state r.flags.ack

  learns : (e : Endpoint) (r : Emission) → r.flags.rst ≡ false → is_syn_sent e.state ≡ true → (endpoint_taken h e how r moment).irs ≡ Some r.seq
  learns e r plain sent = by r.flags.rst (is_syn_sent e.state) plain sent
    where
      by : (rst waits : Bool) → rst ≡ false → waits ≡ true
          → (if rst then was_reset e how moment else if waits then on_syn h e how r moment else taken h e how r moment).irs ≡ Some r.seq
      by true waits p s = absurd cc
      by false false p s = absurd cc
      by false true p s = refl

  by_endpoint : (m : Emission) (i : ℕ) (e : Endpoint) → waiting line (pick w.hosts host).inbox ≡ Some m → taker b m ≡ AtEndpoint i e
      → m.flags.rst ≡ false → is_syn_sent e.state ≡ true → TakesSyn h moment w (At host (Takes line how)) (record { host = host; number = i })
  by_endpoint m i e waits is plain sent =
      let there = taker_there b m i e is in
      let r = as_read h.version e m in
      record {
        before = λ f other. subst (λ (x : Endpoint). is_syn_sent x.state ≡ true) (same_Some e f (sym there ∙ other)) sent;
        now = endpoint_taken h e how r moment;
        there = found m (AtEndpoint i e) i waits is ∙ modify_here (λ x. endpoint_taken h x how r moment) b.endpoints i e there;
        answered = leaves e r (read_reset e m plain) sent;
        irs = r.seq;
        known = learns e r (read_reset e m plain) sent;
      }

  -- by what it shows at an endpoint
  module _ (me : EndpointId) (event : Event) (before : View) (permits alone : Bool) where
    here_is : (n : ℕ) (e : Event) (v : View) → Some (record { host = host; place = n; event = e; before = v }) ≡ Some (touched me event before)
        → record { host = host; number = n } ≡ me
    here_is n e v same =
        ap (λ (t : TouchedEndpoint). record { host = t.host; number = t.place })
        (same_Some (record { host = host; place = n; event = e; before = v }) (touched me event before) same)

    at_taker : (m : Emission) (t : Taker) → waiting line (pick w.hosts host).inbox ≡ Some m → taker b m ≡ t
        → Happens (observe_taking h host b line how m t) me event before
        → syn_taken h.version m t ≡ syn_change.Takes permits alone → TakesSyn h moment w (At host (Takes line how)) me
    at_taker m Nobody waits is here syn = absurd (nothing permits alone syn)
    at_taker m (AtListener l) waits is here syn =
        subst (λ (n : EndpointId). TakesSyn h moment w (At host (Takes line how)) n)
        (here_is (length b.endpoints) (processing_of m) unborn here) (by_listener m l waits is)
    at_taker m (AtEndpoint i e) waits is here syn =
        let there : slice_get b.endpoints i ≡ Some e = taker_there b m i e is in
        let flags = both (takes_syn h.version m) (is_syn_sent e.state) (not m.flags.ack) syn in
        subst (λ (n : EndpointId). TakesSyn h moment w (At host (Takes line how)) n)
        (here_is i (processing_of m) (view_of e)
        (sym (ap (option_map (λ f. record { host = host; place = i; event = processing_of m; before = view_of f })) there) ∙ here))
        (by_endpoint m i e waits is (third (says_sender h.version) m.flags.syn m.flags.rst flags.0) flags.1)
      where
        third : (a b c : Bool) → (a && b && not c) ≡ true → c ≡ false
        third true true false is = refl
        third true true true is = absurd cc
        third true false c is = absurd cc
        third false b c is = absurd cc

        both : (a c d : Bool) → (if a && c then syn_change.Takes (permits_sack m.bytes) d else syn_change.Nothing) ≡ syn_change.Takes permits alone
            → (a ≡ true) × (c ≡ true)
        both true true d same = (refl, refl)
        both true false d same = absurd (nothing permits alone same)
        both false c d same = absurd (nothing permits alone same)

    at_step : Happens (observe h moment w (At host (Takes line how))) me event before
        → (observe h moment w (At host (Takes line how))).syn_change ≡ syn_change.Takes permits alone → TakesSyn h moment w (At host (Takes line how)) me
    at_step = by (waiting line (pick w.hosts host).inbox) refl
      where
        shown : Option Emission → Observation
        shown o = on o unseen (λ m. observe_taking h host b line how m (taker b m))

        by : (o : Option Emission) → waiting line (pick w.hosts host).inbox ≡ o → Happens (shown o) me event before
            → (shown o).syn_change ≡ syn_change.Takes permits alone → TakesSyn h moment w (At host (Takes line how)) me
        by None waits here syn = absurd (nothing permits alone syn)
        by (Some m) waits here syn = at_taker m (taker b m) waits refl here syn

-- a step that takes a SYN
pub takes_syn_there : (h : Header) (moment : ℕ) (w : World tcp_shape) (step : Step tcp_shape) (me : EndpointId) (event : Event) (before : View)
    (permits alone : Bool) → Happens (observe h moment w step) me event before → (observe h moment w step).syn_change ≡ syn_change.Takes permits alone
    → TakesSyn h moment w step me
takes_syn_there h moment w (At host (Takes line how)) me event before permits alone here syn =
    at_step h moment w host line how me event before permits alone here syn
takes_syn_there h moment w (At host (Sends line number wire)) me event before permits alone here syn =
    absurd (on_cases (λ (s : Observation). NoTake s.syn_change) (lookup (nat_eq number) (pick w.hosts host).made) unseen _ nothing
    (λ m is. either_no _ (syn_change.Sends (permits_sack wire.bytes)) syn_change.Nothing (λ permits alone is. cc) nothing) permits alone syn)
takes_syn_there h moment w (At host (Drops line)) me event before permits alone here syn =
    absurd (on_cases (λ (s : Observation). NoTake s.syn_change) (waiting line (pick w.hosts host).inbox) unseen _ nothing
    (λ m is. dropped_no h.version m (taker (pick w.hosts host).body m)) permits alone syn)
takes_syn_there h moment w (Effect thread answer) me event before permits alone here syn =
    absurd (effect_no h w thread answer (turn_of thread w.threads) permits alone syn)
takes_syn_there h moment w step me event before permits alone here syn = absurd (nothing permits alone syn)

-- so it takes one once
module _ (h : Header) (xs : List (Stamped tcp_shape)) (me : EndpointId) where
  pub shown_at : (place : ℕ) (permits alone : Bool) → HasSyn h xs place me (syn_change.Takes permits alone)
      → (x : Stamped tcp_shape) × (slice_get xs place ≡ Some x) × TakesSyn h x.moment (world_before h xs place) x.step me
  shown_at place permits alone syn = by (slice_get xs place) refl syn.2 syn.3
    where
      by : (o : Option (Stamped tcp_shape)) → slice_get xs place ≡ o
          → Happens (option_map_or (λ y. observe h y.moment (world_before h xs place) y.step) o unseen) me syn.0 syn.1
          → (option_map_or (λ y. observe h y.moment (world_before h xs place) y.step) o unseen).syn_change ≡ syn_change.Takes permits alone
          → (x : Stamped tcp_shape) × (slice_get xs place ≡ Some x) × TakesSyn h x.moment (world_before h xs place) x.step me
      by None is here change = absurd (nothing permits alone change)
      by (Some x) is here change =
          (x, is, takes_syn_there h x.moment (world_before h xs place) x.step me syn.0 syn.1 permits alone here change)

  pub taken_once : Lawful (tcp h) (start (tcp h)) xs → (from to : ℕ) → from < to → (permits alone other_permits other_alone : Bool)
      → HasSyn h xs from me (syn_change.Takes permits alone) → HasSyn h xs to me (syn_change.Takes other_permits other_alone) → ⊥
  taken_once lawful from to less permits alone other_permits other_alone first second =
      let x = shown_at from permits alone first in
      let y = shown_at to other_permits other_alone second in
      let goes : world_before h xs (suc from) ≡ after (tcp h) x.0.moment (world_before h xs from) x.0.step =
      world_next h (start (tcp h)) xs from
      ∙ ap (λ (o : Option (Stamped tcp_shape)). option_map_or (λ z. after (tcp h) z.moment (world_before h xs from) z.step) o (world_before h xs from)) x.1 in
      let b = becomes h xs lawful me (suc from) to (omega (arith, less)) x.2.now (ap (λ (v : World tcp_shape). find v.hosts me) goes ∙ x.2.there) in
      let bad : true ≡ false = sym (y.2.before b.now b.there) ∙ b.answered x.2.answered in
      cc
