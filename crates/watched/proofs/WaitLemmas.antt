-- Calls that wait, in two worlds with the same sockets.
use Rattle.std.proofs.Common.{◌≡◌, ℕ, Bool, false, List, [], ◌∷◌, Option, None, Some, refl, ap, ◌∙◌}
use Rattle.std.specs.Prelude.{if◌then◌else◌, ◌||◌}
use Rattle.std.specs.Option.{option_map, option_map_or}
use Rattle.case_forms.specs.Versions.{says_sender}
use Rattle.case_forms.specs.declared.version.Version.TheVariants.{Six}
use Rattle.case_forms.specs.declared.calls.Answer.{Answer}
use Rattle.case_forms.specs.declared.calls.Answer.TheVariants as answers
use Rattle.case_forms.specs.declared.calls.Call.{Call}
use Rattle.case_forms.specs.declared.calls.Call.TheVariants as calls
use Rattle.case_forms.specs.declared.calls.Host.{Host}
use Rattle.case_forms.specs.declared.calls.Host.TheVariants.{Zero, One}
use Rattle.case_forms.specs.declared.trace.Header.{Header}
use Rattle.case_forms.specs.declared.version.Version.{Version}
use Rattle.spec_network.specs.HostRules.{aim_of}
use Rattle.spec_network.specs.Hosts.{Aim, ThatSocket, World}
use Rattle.spec_network.specs.Tables.{on, pick}
use Rattle.window_rules.specs.declared.control.Profile.{Profile}
use Rattle.spec_tcp.specs.Forgetting.{forget}
use Rattle.spec_tcp.specs.HostTcp.{socket_target}
use Rattle.spec_tcp.specs.Machine.{aim, gives, tcp, tcp_shape}
use Rattle.spec_tcp.specs.declared.endpoint.SocketTarget.{SocketTarget}
use Rattle.spec_tcp.specs.declared.endpoint.SocketTarget.TheVariants.{EndpointAt, ListenerAt}
use Rattle.spec_tcp_laws.specs.Judging.{world_by}
use Rattle.spec_tcp_laws.proofs.ForgetCalls.{target-forget}
use Rattle.spec_tcp_laws.proofs.JudgedBodies.{target_allows_by}
use Rattle.spec_duties.specs.Answering.{Waits, answer_due, answer_seen}
use Rattle.spec_duties.specs.declared.answering.Awaited.{Awaited}
use Rattle.spec_duties.specs.declared.answering.CallChange.{CallChange}
use Rattle.spec_duties.specs.declared.answering.OpenCall.{OpenCall}
use Rattle.spec_duties.specs.declared.answering.SocketChange.{SocketChange}
use Rattle.spec_duties.specs.declared.answering.Waitable.{Waitable}
use Rattle.spec_duties.specs.declared.answering.Waiting.{Waiting}
use Rattle.spec_duties.specs.Answering.{answering, any_call, call_for, closing, is_again, is_unanswered_late}
use Rattle.spec_duties.specs.Answering.{judged_call, judged_socket, listener_seen, may_wait}
use Rattle.spec_duties.specs.Answering.{not_ready, owed_at_end, ready_for, renewed, renewed_at, seen_again}
use Rattle.spec_duties.specs.Answering.{socket_changing, socket_given, socket_noted, touched_seen}
use Rattle.spec_duties.specs.Answering.{unanswered_since, waitable, waiting_on, waits_after, with_ready}
use Rattle.spec_duties.specs.Deadlines.{is_late}
use Rattle.spec_duties.specs.Observations.{observe_open, observe_pending}
use Rattle.spec_duties.specs.declared.answering.Awaited.TheVariants as awaits
use Rattle.spec_duties.specs.declared.answering.CallChange.TheVariants as call_change
use Rattle.spec_duties.specs.declared.answering.OpenCall.TheVariants as open_call
use Rattle.spec_duties.specs.declared.answering.SocketChange.TheVariants as socket_change
use Rattle.spec_duties.specs.declared.observations.Observation.{Observation}
use Rattle.spec_duties.specs.declared.observations.TouchedEndpoint.{TouchedEndpoint}
use Rattle.watched.specs.Levels.{touched_with}

-- the same socket numbers are live and name the same, and the same calls may wait
pub record SameSockets (v w : World tcp_shape) : Type 0 where
  pub sockets : (host : Host) (n : ℕ) → socket_target (pick v.hosts host).body n ≡ socket_target (pick w.hosts host).body n
  pub may : (host : Host) (target : SocketTarget) (awaited : Awaited)
      → may_wait (pick v.hosts host).body target awaited ≡ may_wait (pick w.hosts host).body target awaited

pub same_forget : (w : World tcp_shape) → SameSockets (forget w) w
same_forget w = record { sockets = sockets; may = may }
  where
    sockets : (host : Host) (n : ℕ) → socket_target (pick (forget w).hosts host).body n ≡ socket_target (pick w.hosts host).body n
    sockets Zero n = refl
    sockets One n = refl

    may : (host : Host) (target : SocketTarget) (awaited : Awaited)
        → may_wait (pick (forget w).hosts host).body target awaited ≡ may_wait (pick w.hosts host).body target awaited
    may Zero target awaited = target-forget Six w.hosts.zero.body (call_for awaited) answers.Again target
    may One target awaited = target-forget Six w.hosts.one.body (call_for awaited) answers.Again target

pub same_by : (p : Profile) (w : World tcp_shape) → SameSockets (world_by p w) w
same_by p w = record { sockets = sockets; may = may }
  where
    sockets : (host : Host) (n : ℕ) → socket_target (pick (world_by p w).hosts host).body n ≡ socket_target (pick w.hosts host).body n
    sockets Zero n = refl
    sockets One n = refl

    may : (host : Host) (target : SocketTarget) (awaited : Awaited)
        → may_wait (pick (world_by p w).hosts host).body target awaited ≡ may_wait (pick w.hosts host).body target awaited
    may Zero target awaited = target_allows_by Six p w.hosts.zero.body (call_for awaited) answers.Again target
    may One target awaited = target_allows_by Six p w.hosts.one.body (call_for awaited) answers.Again target

pub same_self : (w : World tcp_shape) → SameSockets w w
same_self w = record { sockets = λ host n. refl; may = λ host target awaited. refl }

-- ---- what is kept

module _ (v w : World tcp_shape) (same : SameSockets v w) where
  abbrev three : Bool → Bool → Bool → Waitable
  three bytes connection child = record { bytes = bytes; connection = connection; child = child }

  waitable_same : (host : Host) (target : SocketTarget) → waitable (pick v.hosts host).body target ≡ waitable (pick w.hosts host).body target
  waitable_same host target =
      let a = (pick v.hosts host).body in
      let b = (pick w.hosts host).body in
      ap (λ (x : Bool). three x (may_wait a target awaits.Connection) (may_wait a target awaits.Child)) (same.may host target awaits.Bytes)
      ∙ ap (λ (x : Bool). three (may_wait b target awaits.Bytes) x (may_wait a target awaits.Child)) (same.may host target awaits.Connection)
      ∙ ap (λ (x : Bool). three (may_wait b target awaits.Bytes) (may_wait b target awaits.Connection) x) (same.may host target awaits.Child)

  again_same : (moment : ℕ) (host : Host) (target : SocketTarget) (a : Waits) → seen_again v moment host target a ≡ seen_again w moment host target a
  again_same moment host target a = ap (λ (m : Waitable). renewed_at m moment host target a) (waitable_same host target)

  listener_same : (moment : ℕ) (host : Host) (o : Option ℕ) (a : Waits) → listener_seen v moment host o a ≡ listener_seen w moment host o a
  listener_same moment host None a = refl
  listener_same moment host (Some l) a = again_same moment host (ListenerAt l) a

  touched_same : (moment : ℕ) (o : Option TouchedEndpoint) (a : Waits) → touched_seen v moment o a ≡ touched_seen w moment o a
  touched_same moment None a = refl
  touched_same moment (Some t) a =
      ap (λ (x : Waits). listener_seen v moment t.host t.before.listener x) (again_same moment t.host (EndpointAt t.place) a)
      ∙ listener_same moment t.host t.before.listener (seen_again w moment t.host (EndpointAt t.place) a)

  answer_same : (moment : ℕ) (c : CallChange) (a : Waits) → answer_seen v moment c a ≡ answer_seen w moment c a
  answer_same moment (call_change.Answers thread (Some x)) a = again_same moment x.host x.target a
  answer_same moment (call_change.Answers thread None) a = refl
  answer_same moment call_change.Nothing a = refl
  answer_same moment (call_change.Begins thread socket awaited) a = refl
  answer_same moment (call_change.Ends thread) a = refl

  given_same : (moment : ℕ) (host : Host) (o : Option SocketTarget) (a : Waits) → socket_given v moment host o a ≡ socket_given w moment host o a
  given_same moment host None a = refl
  given_same moment host (Some t) a =
      ap (λ (m : Waitable). with_ready a host t (Some (renewed m moment not_ready))) (waitable_same host t)

  socket_same : (moment : ℕ) (c : SocketChange) (a : Waits) → socket_noted v moment c a ≡ socket_noted w moment c a
  socket_same moment socket_change.Nothing a = refl
  socket_same moment (socket_change.Gives host n) a =
      ap (λ (o : Option SocketTarget). socket_given v moment host o a) (same.sockets host n) ∙ given_same moment host _ a
  socket_same moment (socket_change.Shuts host target) a = again_same moment host target a
  socket_same moment (socket_change.Closes host target) a = refl

  pub waits_same : (moment : ℕ) (o : Option TouchedEndpoint) (c : CallChange) (k : SocketChange) (a : Waits)
      → waits_after v moment o c k a ≡ waits_after w moment o c k a
  waits_same moment o c k a =
      ap (λ (x : Waits). socket_noted v moment k (answer_seen v moment c x)) (touched_same moment o _)
      ∙ ap (λ (x : Waits). socket_noted v moment k x) (answer_same moment c _)
      ∙ socket_same moment k _

-- the congestion edge of what is touched doesn't matter
pub waits_alike : (w : World tcp_shape) (moment edge : ℕ) (o : Option TouchedEndpoint) (c : CallChange) (k : SocketChange) (a : Waits)
    → waits_after w moment (option_map (touched_with edge) o) c k a ≡ waits_after w moment o c k a
waits_alike w moment edge None c k a = refl
waits_alike w moment edge (Some t) c k a = refl

-- ---- what a step shows, and what is late at the end

module _ (v w : World tcp_shape) (same : SameSockets v w) (g h : Header) (aims : (a : Aim) → aim_of (tcp g) v.hosts a ≡ aim_of (tcp h) w.hosts a) where
  waiting_same : (awaited : Awaited) (n : ℕ) → waiting_on g v awaited n ≡ waiting_on h w awaited n
  waiting_same awaited n =
      ap (λ (o : Option Host). on o None (λ host. option_map (with host) (socket_target (pick v.hosts host).body n))) (aims (ThatSocket n))
      ∙ by (aim_of (tcp h) w.hosts (ThatSocket n))
    where
      with : Host → SocketTarget → Waiting
      with host target = record { host = host; target = target; awaited = awaited }

      by : (o : Option Host)
          → on o None (λ host. option_map (with host) (socket_target (pick v.hosts host).body n))
          ≡ on o None (λ host. option_map (with host) (socket_target (pick w.hosts host).body n))
      by None = refl
      by (Some host) = ap (λ (t : Option SocketTarget). option_map (with host) t) (same.sockets host n)

  answering_same : (thread : ℕ) (answer : Answer) (call : Call) → answering g v thread answer call ≡ answering h w thread answer call
  answering_same thread answer call = by call
    where
      with : Option Waiting → CallChange
      with x = call_change.Answers thread (if is_again answer then None else x)

      by : (call : Call) → answering g v thread answer call ≡ answering h w thread answer call
      by (calls.Recv n most) = ap with (waiting_same awaits.Bytes n)
      by (calls.Await n) = ap with (waiting_same awaits.Connection n)
      by (calls.Accept n) = ap with (waiting_same awaits.Child n)
      by (calls.Listen x port backlog) = refl
      by (calls.Connect x lport rport) = refl
      by (calls.Send n bytes) = refl
      by (calls.Shut n) = refl
      by (calls.Close n) = refl
      by (calls.Abort n) = refl
      by (calls.Status n) = refl

  closing_same : (host : Host) (answer : Answer) (call : Call)
      → closing host (pick v.hosts host).body answer call ≡ closing host (pick w.hosts host).body answer call
  closing_same host answers.Done (calls.Shut n) =
      ap (λ (o : Option SocketTarget). option_map_or (socket_change.Shuts host) o socket_change.Nothing) (same.sockets host n)
  closing_same host answers.Done (calls.Close n) =
      ap (λ (o : Option SocketTarget). option_map_or (socket_change.Closes host) o socket_change.Nothing) (same.sockets host n)
  closing_same host answers.Done (calls.Abort n) =
      ap (λ (o : Option SocketTarget). option_map_or (socket_change.Closes host) o socket_change.Nothing) (same.sockets host n)
  closing_same host _ _ = refl

  changing_same : (answer : Answer) (call : Call) → socket_changing g v answer call ≡ socket_changing h w answer call
  changing_same answer call =
      ap (λ (o : Option Host). on o socket_change.Nothing (λ host. on (gives call answer) (closing host (pick v.hosts host).body answer call)
      (socket_change.Gives host))) (aims (aim call))
      ∙ by (aim_of (tcp h) w.hosts (aim call))
    where
      each : (host : Host) (o : Option ℕ)
          → on o (closing host (pick v.hosts host).body answer call) (socket_change.Gives host)
          ≡ on o (closing host (pick w.hosts host).body answer call) (socket_change.Gives host)
      each host None = closing_same host answer call
      each host (Some n) = refl

      by : (o : Option Host)
          → on o socket_change.Nothing (λ host. on (gives call answer) (closing host (pick v.hosts host).body answer call) (socket_change.Gives host))
          ≡ on o socket_change.Nothing (λ host. on (gives call answer) (closing host (pick w.hosts host).body answer call) (socket_change.Gives host))
      by None = refl
      by (Some host) = each host (gives call answer)

  -- what is judged of them, beside this
  pub opened_same : (s : Observation) (thread : ℕ) (answer : Answer) (call : Call) → g.version ≡ h.version
      → (let x : Observation =
      record s { call_change = judged_call g (answering g v thread answer call); socket_change = judged_socket g (socket_changing g v answer call) } in x)
      ≡ record s { call_change = judged_call h (answering h w thread answer call); socket_change = judged_socket h (socket_changing h w answer call) }
  opened_same s thread answer call version =
      ap (λ (c : CallChange). with g.version c (socket_changing g v answer call)) (answering_same thread answer call)
      ∙ ap (λ (k : SocketChange). with g.version (answering h w thread answer call) k) (changing_same answer call)
      ∙ ap (λ (x : Version). with x (answering h w thread answer call) (socket_changing h w answer call)) version
    where
      with : Version → CallChange → SocketChange → Observation
      with x c k =
          record s {
            call_change = if says_sender x then c else call_change.Nothing;
            socket_change = if says_sender x then k else socket_change.Nothing;
          }

  pub opening_same : (thread : ℕ) (answer : Answer) (call : Call) → g.version ≡ h.version
      → observe_pending g v answer call ≡ observe_pending h w answer call
      → observe_open g v thread answer call ≡ observe_open h w thread answer call
  opening_same thread answer call version pending =
      ap (λ (s : Observation). with s) pending ∙ opened_same (observe_pending h w answer call) thread answer call version
    where
      with : Observation → Observation
      with s =
          record s {
            call_change = judged_call g (answering g v thread answer call);
            socket_change = judged_socket g (socket_changing g v answer call);
          }

  owed_same : (a : Waits) (call : OpenCall) → owed_at_end g v a call ≡ owed_at_end h w a call
  owed_same a (open_call.Waits since socket awaited) =
      ap (λ (o : Option Waiting). on o None (λ x. unanswered_since (ready_for a x) (open_call.Waits since socket awaited))) (waiting_same awaited socket)
  owed_same a (open_call.Answered since host target) = refl

  pub any_same : (slack moment : ℕ) (a : Waits) (xs : List (ℕ × Option OpenCall))
      → any_call (is_unanswered_late g slack moment v a) xs ≡ any_call (is_unanswered_late h slack moment w a) xs
  any_same slack moment a [] = refl
  any_same slack moment a (x ∷ xs) =
      ap (λ (b : Bool). b || any_call (is_unanswered_late g slack moment v a) xs) (each x.1)
      ∙ ap (λ (b : Bool). option_map_or (is_unanswered_late h slack moment w a) x.1 false || b) (any_same slack moment a xs)
    where
      each : (o : Option OpenCall)
          → option_map_or (is_unanswered_late g slack moment v a) o false ≡ option_map_or (is_unanswered_late h slack moment w a) o false
      each None = refl
      each (Some call) = ap (λ (since : Option ℕ). is_late slack moment (answer_due since)) (owed_same a call)
