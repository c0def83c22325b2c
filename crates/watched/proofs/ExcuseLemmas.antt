-- What duties see of a step, where timestamps excuse that a segment is dropped.
use Rattle.std.proofs.Common.{◌≡◌, ℕ, Bool, true, false, Option, None, Some, refl, ap, sym, ◌∙◌}
use Rattle.std.specs.Prelude.{◌&&◌, if◌then◌else◌, is_some, nat_eq, not}
use Rattle.std.specs.Map.{lookup}
use Rattle.std.specs.Option.{option_map}
use Rattle.case_forms.specs.Versions.{says_sender}
use Rattle.case_forms.specs.declared.calls.Answer.{Answer}
use Rattle.case_forms.specs.declared.calls.Answer.TheVariants as answers
use Rattle.case_forms.specs.declared.calls.Call.{Call}
use Rattle.case_forms.specs.declared.calls.Call.TheVariants as calls
use Rattle.case_forms.specs.declared.calls.Host.{Host}
use Rattle.case_forms.specs.declared.taken_line.TakenLine.{TakenLine}
use Rattle.case_forms.specs.declared.taken_line.TakenLine.TheVariants as taken
use Rattle.case_forms.specs.declared.trace.Header.{Header}
use Rattle.spec_network.specs.HostRules.{aim_of}
use Rattle.spec_network.specs.Hosts as network
use Rattle.spec_network.specs.Hosts.{Answered, Called, HostState, HostStep, Idle, Step, Turn, World, turn_of}
use Rattle.spec_network.specs.Tables.{Made, on, pick, waiting}
use Rattle.spec_tcp.specs.Arrives.{taker}
use Rattle.spec_tcp.specs.HostTcp.{HostTcp, has_ended, socket_target}
use Rattle.spec_tcp.specs.Machine.{aim, tcp, tcp_shape}
use Rattle.spec_tcp.specs.Steps.{line_step}
use Rattle.spec_tcp.specs.declared.endpoint.Emission.{Emission}
use Rattle.spec_tcp.specs.declared.endpoint.SocketTarget.{SocketTarget}
use Rattle.spec_tcp.specs.declared.endpoint.SocketTarget.TheVariants.{EndpointAt, ListenerAt}
use Rattle.spec_step.specs.Acts.{step_hidden}
use Rattle.spec_step.specs.declared.hidden.Hidden.{Hidden}
use Rattle.spec_duties.specs.Observations.{at_sender, is_done, observe, observe_accept, observe_call, observe_close, observe_effect, observe_host_step}
use Rattle.spec_duties.specs.Observations.{observe_opened, observe_other, observe_taking, syn_sent, unseen, view_in}
use Rattle.spec_duties.specs.Arrivals.{acked_sent, stamps_read}
use Rattle.spec_duties.specs.declared.observations.BuiltChange.TheVariants as built_change
use Rattle.spec_duties.specs.declared.observations.Dropping.{Dropping}
use Rattle.spec_duties.specs.declared.observations.Observation.{Observation}
use Rattle.spec_duties.specs.declared.observations.Queueing.TheVariants as queueing
use Rattle.spec_duties.specs.declared.observations.TouchedEndpoint.{TouchedEndpoint}
use Rattle.spec_flights.specs.Clocks.{excused_at, excused_by, is_outdated, is_unstamped, touched_excused}
use Rattle.spec_flights.specs.Flights.{Flights, excused, flight_at}
use Rattle.spec_flights.specs.declared.clocks.Clocks.{Clocks}
use Rattle.spec_cases.specs.Cases.{Known, shown}
use Rattle.watched.specs.Levels.{EndsBelow, observed_with, touched_with}

-- ---- what is excused

-- what holds of an observation, with and without an excuse
pub by_excuses : (h : Header) (fs : Flights) (s : Observation) (Q : Observation → Type 0) → Q s
    → ((outdated unstamped : Bool) → Q (excused_by outdated unstamped s)) → Q (excused h fs s)
by_excuses h fs s Q plain each = by (says_sender h.version) s.touched
  where
    at : (c : Clocks) (b : Bool) → Q (if b then excused_by (is_outdated c s) (is_unstamped c s) s else s)
    at c true = each (is_outdated c s) (is_unstamped c s)
    at c false = plain

    by : (strict : Bool) (o : Option TouchedEndpoint)
        → Q (if strict then on o s (λ t. excused_at (flight_at fs t.host t.place).clocks s) else s)
    by false o = plain
    by true None = plain
    by true (Some t) = at (flight_at fs t.host t.place).clocks (is_some s.dropping)

-- nothing is in versions 1 to 5
pub unexcused : (h : Header) (fs : Flights) (s : Observation) → says_sender h.version ≡ false → excused h fs s ≡ s
unexcused h fs s old =
    ap (λ (strict : Bool). if strict then on s.touched s (λ t. excused_at (flight_at fs t.host t.place).clocks s) else s) old

-- nor where nothing is dropped
pub undropped : (h : Header) (fs : Flights) (s : Observation) → s.dropping ≡ None → excused h fs s ≡ s
undropped h fs s none = by (says_sender h.version) s.touched
  where
    by : (strict : Bool) (o : Option TouchedEndpoint)
        → (if strict then on o s (λ t. excused_at (flight_at fs t.host t.place).clocks s) else s) ≡ s
    by false o = refl
    by true None = refl
    by true (Some t) =
        let c = (flight_at fs t.host t.place).clocks in
        ap (λ (o : Option Dropping). if is_some o then excused_by (is_outdated c s) (is_unstamped c s) s else s) none

-- the endpoint is the same
pub view_excused : (h : Header) (fs : Flights) (s : Observation) (w : World tcp_shape) → view_in w (excused h fs s).touched ≡ view_in w s.touched
view_excused h fs s w = by_excuses h fs s (λ x. view_in w x.touched ≡ view_in w s.touched) refl (λ outdated unstamped. by outdated unstamped s.touched)
  where
    by : (outdated unstamped : Bool) (o : Option TouchedEndpoint) → view_in w (option_map (touched_excused outdated unstamped) o) ≡ view_in w o
    by outdated unstamped None = refl
    by outdated unstamped (Some t) = refl

-- ---- at another level of congestion control

pub excused_with : (h : Header) (fs : Flights) (edge : ℕ) (s : Observation) → excused h fs (observed_with edge s) ≡ observed_with edge (excused h fs s)
excused_with h fs edge s = by (says_sender h.version) s.touched
  where
    swapped : (outdated unstamped : Bool) (o : Option TouchedEndpoint)
        → option_map (touched_excused outdated unstamped) (option_map (touched_with edge) o)
        ≡ option_map (touched_with edge) (option_map (touched_excused outdated unstamped) o)
    swapped outdated unstamped None = refl
    swapped outdated unstamped (Some t) = refl

    at : (c : Clocks) (b : Bool)
        → (if b then excused_by (is_outdated c s) (is_unstamped c s) (observed_with edge s) else observed_with edge s)
        ≡ observed_with edge (if b then excused_by (is_outdated c s) (is_unstamped c s) s else s)
    at c true =
        ap (λ (o : Option TouchedEndpoint). record (excused_by (is_outdated c s) (is_unstamped c s) s) { touched = o })
        (swapped (is_outdated c s) (is_unstamped c s) s.touched)
    at c false = refl

    by : (strict : Bool) (o : Option TouchedEndpoint)
        → (if strict then on (option_map (touched_with edge) o) (observed_with edge s)
        (λ t. excused_at (flight_at fs t.host t.place).clocks (observed_with edge s)) else observed_with edge s)
        ≡ observed_with edge (if strict then on o s (λ t. excused_at (flight_at fs t.host t.place).clocks s) else s)
    by false o = refl
    by true None = refl
    by true (Some t) = at (flight_at fs t.host t.place).clocks (is_some s.dropping)

pub ends_excused : (h : Header) (fs : Flights) (edge : ℕ) (s : Observation) → EndsBelow edge s.touched → EndsBelow edge (excused h fs s).touched
ends_excused h fs edge s low = by_excuses h fs s (λ x. EndsBelow edge x.touched) low (λ outdated unstamped. by outdated unstamped s.touched low)
  where
    by : (outdated unstamped : Bool) (o : Option TouchedEndpoint) → EndsBelow edge o
        → EndsBelow edge (option_map (touched_excused outdated unstamped) o)
    by outdated unstamped None low = tt
    by outdated unstamped (Some t) low = low

-- ---- only a step that drops a segment shows that one is dropped

abbrev pub IsNoDrop : Step tcp_shape → Type 0
IsNoDrop (network.At host (network.Drops line)) = ⊥
IsNoDrop step = Unit {0}

host_keeps : (h : Header) (moment : ℕ) (w : World tcp_shape) (fresh : ℕ) (host : Host) (s : HostState tcp_shape) (d : HostStep tcp_shape)
    → IsNoDrop (network.At host d) → (observe_host_step h moment w fresh host s d).dropping ≡ None
host_keeps h moment w fresh host s (network.Does x) is = refl
host_keeps h moment w fresh host s (network.Expires line x) is = refl
host_keeps h moment w fresh host s (network.Makes m) is = refl
host_keeps h moment w fresh host s (network.Sends line number wire) is = by (lookup (nat_eq number) s.made)
  where
    by : (o : Option (Made Emission))
        → (on o unseen (λ m. record unseen {
          touched = at_sender host s.body wire m.emission;
          built_change = built_change.Sends number;
          syn_change = syn_sent h.version m.emission wire.bytes;
          stamps = stamps_read h.version wire.bytes;
          acked = acked_sent h.version wire m.emission;
        })).dropping
        ≡ None
    by None = refl
    by (Some m) = refl
host_keeps h moment w fresh host s (network.Gets line copied wire) is = refl
host_keeps h moment w fresh host s (network.Hears line wire) is = refl
host_keeps h moment w fresh host s (network.Takes line how) is = by (waiting line s.inbox)
  where
    by : (o : Option Emission) → (on o unseen (λ m. observe_taking h host s.body line how m (taker s.body m))).dropping ≡ None
    by None = refl
    by (Some m) = refl
host_keeps h moment w fresh host s (network.Drops line) is = absurd is
host_keeps h moment w fresh host s (network.Answers line) is = refl

target_keeps : (o : Option SocketTarget) (f : SocketTarget → Observation) → ((t : SocketTarget) → (f t).dropping ≡ None)
    → (on o unseen f).dropping ≡ None
target_keeps None f each = refl
target_keeps (Some t) f each = each t

accept_keeps : (host : Host) (b : HostTcp) (answer : Answer) (t : SocketTarget) → (observe_accept host b answer t).dropping ≡ None
accept_keeps host b (answers.Given n) (ListenerAt l) = refl
accept_keeps host b answer t = refl

close_keeps : (host : Host) (b : HostTcp) (aborts : Bool) (answer : Answer) (t : SocketTarget)
    → (observe_close host b aborts answer t).dropping ≡ None
close_keeps host b aborts answer (EndpointAt i) = refl
close_keeps host b aborts answer (ListenerAt l) = by (is_done answer && not (has_ended b l))
  where
    by : (done : Bool) → (if done then record unseen { queueing = queueing.Closes host l } else unseen).dropping ≡ None
    by true = refl
    by false = refl

other_keeps : (host : Host) (b : HostTcp) (t : SocketTarget) → (observe_other host b t).dropping ≡ None
other_keeps host b (ListenerAt l) = refl
other_keeps host b (EndpointAt i) = refl

opened_keeps : (host : Host) (b : HostTcp) (answer : Answer) → (observe_opened host b answer).dropping ≡ None
opened_keeps host b (answers.Given n) = refl
opened_keeps host b answer = refl

call_keeps : (host : Host) (b : HostTcp) (call : Call) (answer : Answer) → (observe_call host b call answer).dropping ≡ None
call_keeps host b (calls.Connect x lport rport) answer = opened_keeps host b answer
call_keeps host b (calls.Accept n) answer = target_keeps (socket_target b n) (observe_accept host b answer) (accept_keeps host b answer)
call_keeps host b (calls.Send n bytes) answer = target_keeps (socket_target b n) (observe_other host b) (other_keeps host b)
call_keeps host b (calls.Shut n) answer = target_keeps (socket_target b n) (observe_close host b false answer) (close_keeps host b false answer)
call_keeps host b (calls.Close n) answer = target_keeps (socket_target b n) (observe_close host b false answer) (close_keeps host b false answer)
call_keeps host b (calls.Abort n) answer =
    target_keeps (socket_target b n) (observe_close host b (is_done answer) answer) (close_keeps host b (is_done answer) answer)
call_keeps host b call answer = refl

effect_keeps : (h : Header) (w : World tcp_shape) (thread : ℕ) (answer : Answer) (u : Turn tcp_shape)
    → (observe_effect h w thread answer u).dropping ≡ None
effect_keeps h w thread answer Idle = refl
effect_keeps h w thread answer (Called call) = by (aim_of (tcp h) w.hosts (aim call))
  where
    by : (o : Option Host) → (on o unseen (λ host. observe_call host (pick w.hosts host).body call answer)).dropping ≡ None
    by None = refl
    by (Some host) = call_keeps host (pick w.hosts host).body call answer
effect_keeps h w thread answer (Answered given) = refl

nothing_dropped : (h : Header) (moment : ℕ) (w : World tcp_shape) (step : Step tcp_shape) → IsNoDrop step
    → (observe h moment w step).dropping ≡ None
nothing_dropped h moment w (network.Begin line t call) is = refl
nothing_dropped h moment w (network.Finish line t answer) is = refl
nothing_dropped h moment w (network.Effect t answer) is = effect_keeps h w t answer (turn_of t w.threads)
nothing_dropped h moment w (network.At host d) is = host_keeps h moment w _ host (pick w.hosts host) d is

-- so duties see what such a step shows
pub shown_plainly : (h : Header) (moment : ℕ) (k : Known) (step : Step tcp_shape) → IsNoDrop step
    → shown h moment k step ≡ observe h moment k.model step
shown_plainly h moment k step is = undropped h k.flights (observe h moment k.model step) (nothing_dropped h moment k.model step is)

pub line_shown : (h : Header) (moment : ℕ) (k : Known) (line : TakenLine)
    → shown h moment k (line_step line) ≡ observe h moment k.model (line_step line)
line_shown h moment k line = shown_plainly h moment k (line_step line) (by line)
  where
    by : (line : TakenLine) → IsNoDrop (line_step line)
    by (taken.CallBegin line thread call) = tt
    by (taken.CallEnd line thread answer) = tt
    by (taken.Sent line host made wire) = tt
    by (taken.Came line host copied wire) = tt
    by (taken.Heard line host wire) = tt
    by (taken.Expired line host ports expired) = tt

pub line_sees : (h : Header) (moment : ℕ) (k : Known) (line like : TakenLine) (s : Observation) → s ≡ observe h moment k.model (line_step like)
    → line ≡ like → s ≡ shown h moment k (line_step line)
line_sees h moment k line like s sees is =
    sees ∙ ap (λ (l : TakenLine). observe h moment k.model (line_step l)) (sym is) ∙ sym (line_shown h moment k line)

pub hidden_sees : (h : Header) (moment : ℕ) (k : Known) (step like : Hidden) (s : Observation) → s ≡ observe h moment k.model (step_hidden like)
    → step ≡ like → IsNoDrop (step_hidden like) → s ≡ shown h moment k (step_hidden step)
hidden_sees h moment k step like s sees is keeps =
    sees ∙ sym (shown_plainly h moment k (step_hidden like) keeps) ∙ ap (λ (x : Hidden). shown h moment k (step_hidden x)) (sym is)

pub same_sees : (h : Header) (moment : ℕ) (k : Known) (step like : Hidden) (s : Observation) → s ≡ observe h moment k.model (step_hidden step)
    → step ≡ like → IsNoDrop (step_hidden like) → s ≡ shown h moment k (step_hidden step)
same_sees h moment k step like s sees is keeps =
    hidden_sees h moment k step like s (sees ∙ ap (λ (x : Hidden). observe h moment k.model (step_hidden x)) is) is keeps
