-- Runs: what holds at their end, and what their steps say by themselves.
use Rattle.std.proofs.Common.{◌≡◌, ℕ, ◌⊎◌, Bool, true, false, List, [], ◌∷◌, ◌++◌, take, Option, Some, None, refl, ap, sym, subst, ◌∙◌, inl, inr, append_assoc}
use Rattle.std.specs.Prelude.{if◌then◌else◌, ◌==◌, ◌||◌, slice_get}
use Rattle.std.specs.Option.{option_map_or}
use Rattle.std.proofs.Math.Bool.{or-false}
use Rattle.std.proofs.lemmas.List.{append-nil}
use Rattle.std.proofs.lemmas.Option.{none-some, same_Some}
use Rattle.case_forms.specs.declared.trace.Header.{Header}
use Rattle.case_forms.specs.declared.calls.Host.{Host}
use Rattle.case_forms.specs.declared.calls.Host.TheVariants.{Zero, One}
use Rattle.case_forms.specs.declared.calls.Call.{Call}
use Rattle.case_forms.specs.declared.calls.Call.TheVariants as calls
use Rattle.case_forms.specs.declared.calls.Answer.{Answer}
use Rattle.case_forms.specs.declared.calls.Answer.TheVariants as answers
use Rattle.verdict.specs.Rules.{first_broken}
use Rattle.streams.specs.Received.{received}
use Rattle.spec_network.specs.Tables.{pick}
use Rattle.spec_network.specs.Hosts.{Turn, Idle, Called, Answered, World, Step, Begin, Finish, Effect, At, Stamped, turn_of}
use Rattle.spec_network.specs.HostRules.{aim_of, effect_rules, Permitted}
use Rattle.spec_network.specs.HostSteps.{after, after_all, start, Lawful}
use Rattle.case_forms.specs.Versions.{is_half}
use Rattle.spec_tcp.specs.declared.endpoint.EndpointId.{EndpointId}
use Rattle.spec_tcp.specs.declared.endpoint.Stream.{Stream}
use Rattle.spec_tcp.specs.declared.endpoint.Endpoint.{Endpoint}
use Rattle.spec_tcp.specs.declared.endpoint.SocketTarget.TheVariants.{EndpointAt}
use Rattle.spec_tcp.specs.Calls.Receive.{recv_allows}
use Rattle.spec_tcp.specs.Calls.Accept.{ended_allows, open_allows}
use Rattle.spec_tcp.specs.Calls.{is_bad_socket, call_allows}
use Rattle.spec_tcp.specs.Machine.{tcp, tcp_shape, aim}
use Rattle.spec_tcp_laws.specs.Runs.{owner, is_socket_of, call_told, call_told_end, call_accepted, call_ended, of_turn}
use Rattle.spec_tcp_laws.specs.Runs.{of_effect, told_from, told_end_from, accepted_from, ended_from}
use Rattle.spec_tcp_laws.specs.Consequences.{find}
use Rattle.spec_tcp_laws.proofs.Rules.{map_or_true, number_same, number_other, is_not}
use Rattle.spec_tcp_laws.proofs.Later.{Hosts, name, AllLater, Good}
use Rattle.spec_tcp_laws.specs.Carried.{Carries}
use Rattle.spec_tcp_laws.proofs.Grows.{Added, nothing, Bare, Ended, ended_told, ended_stays, Coming, AllOwn, AllGrown, grew, all_later, own_after}
use Rattle.spec_tcp_laws.proofs.Calls.{name_told, call_adds, Apart, owner_of, socket_here, named}
use Rattle.spec_tcp_laws.proofs.Steps.{step_adds, grown_step, kept_step, effect_allowed}
use Rattle.spec_tcp_laws.proofs.Sound.{Sound, owner_given}
use Rattle.spec_tcp_laws.proofs.SoundSteps.{sound_step}

-- 1. what holds of every world of a run

-- in every case
pub record Steady (a : Hosts) : Type 0 where
  pub own : AllOwn a
  pub sound : (x : Host) → Sound (pick a x).body
  pub apart : Apart a

-- and in a whole case
pub record Fine (h : Header) (a : Hosts) : Type 0 where
  pub whole : is_half h.version ≡ false
  pub good : Good a
  pub steady : Steady a

-- what a step makes of all endpoints
pub grown : (h : Header) (s : ℕ) (w : World tcp_shape) (step : Step tcp_shape) → Steady w.hosts
    → Permitted (tcp h) s w step
    → AllGrown (Carries h w step) (step_adds h w step) w.hosts (after (tcp h) s w step).hosts
grown h s w step g may = grown_step h s w step g.own g.apart may

pub later_step : (h : Header) (s : ℕ) (w : World tcp_shape) (step : Step tcp_shape) → Steady w.hosts
    → Permitted (tcp h) s w step → AllLater w.hosts (after (tcp h) s w step).hosts
later_step h s w step g may = all_later (Carries h w step) (step_adds h w step) w.hosts (after (tcp h) s w step).hosts (grown h s w step g may)

pub steady_step : (h : Header) (s : ℕ) (w : World tcp_shape) (step : Step tcp_shape) → Steady w.hosts
    → Permitted (tcp h) s w step → Steady (after (tcp h) s w step).hosts
steady_step h s w step g may =
    let x = sound_step h s w step g.sound g.apart may in
    record {
      own = own_after (Carries h w step) (step_adds h w step) w.hosts (after (tcp h) s w step).hosts
          (grown h s w step g may);
      sound = x.sound;
      apart = x.apart;
    }

pub fine_step : (h : Header) (s : ℕ) (w : World tcp_shape) (step : Step tcp_shape) → Fine h w.hosts
    → Permitted (tcp h) s w step → Fine h (after (tcp h) s w step).hosts
fine_step h s w step g may =
    record {
      whole = g.whole;
      good =
          (kept_step h g.whole s w step g.good (later_step h s w step g.steady may) may).good;
      steady = steady_step h s w step g.steady may;
    }

-- at the start no endpoint is there
pub nowhere : (h : Header) (x : Host) (i : ℕ) (e : Endpoint) → slice_get (pick (start (tcp h)).hosts x).body.endpoints i ≡ Some e → ⊥
nowhere h Zero i e at = none-some e at
nowhere h One i e at = none-some e at

pub steady_start : (h : Header) → Steady (start (tcp h)).hosts
steady_start h = record { own = λ x i e at. absurd (nowhere h x i e at); sound = sound; apart = λ n z o. absurd cc }
  where
    sound : (x : Host) → Sound (pick (start (tcp h)).hosts x).body
    sound Zero =
        record {
          named = λ n i e. absurd (none-some i e);
          alone = λ m n i e f. absurd (none-some i e);
          queued = λ l k i e. absurd (none-some i e);
          once = λ l j k i e f. absurd (none-some i e);
        }
    sound One =
        record {
          named = λ n i e. absurd (none-some i e);
          alone = λ m n i e f. absurd (none-some i e);
          queued = λ l k i e. absurd (none-some i e);
          once = λ l j k i e f. absurd (none-some i e);
        }

pub fine_start : (h : Header) → is_half h.version ≡ false → Fine h (start (tcp h)).hosts
fine_start h whole = record { whole = whole; good = good; steady = steady_start h }
  where
    good : Good (start (tcp h)).hosts
    good Zero =
        record {
          endpoints = λ i e x. absurd (none-some e x);
          tables = record {
            made = λ n x e. absurd (none-some x e);
            wire = λ n x e. absurd (none-some x e);
            inbox = λ n m e. absurd (none-some m e);
          };
        }
    good One =
        record {
          endpoints = λ i e x. absurd (none-some e x);
          tables = record {
            made = λ n x e. absurd (none-some x e);
            wire = λ n x e. absurd (none-some x e);
            inbox = λ n m e. absurd (none-some m e);
          };
        }

pub steady_run : (h : Header) (w : World tcp_shape) (steps : List (Stamped tcp_shape)) → Steady w.hosts
    → Lawful (tcp h) w steps → Steady (after_all (tcp h) w steps).hosts
steady_run h w [] g may = g
steady_run h w (x ∷ xs) g may = steady_run h (after (tcp h) x.moment w x.step) xs (steady_step h x.moment w x.step g may.0) may.1

pub fine_run : (h : Header) (w : World tcp_shape) (steps : List (Stamped tcp_shape)) → Fine h w.hosts
    → Lawful (tcp h) w steps → Fine h (after_all (tcp h) w steps).hosts
fine_run h w [] g may = g
fine_run h w (x ∷ xs) g may = fine_run h (after (tcp h) x.moment w x.step) xs (fine_step h x.moment w x.step g may.0) may.1

-- socket numbers name what they named
pub stays_run : (h : Header) (w : World tcp_shape) (steps : List (Stamped tcp_shape)) → Steady w.hosts
    → Lawful (tcp h) w steps → (x : Host) (n i : ℕ) → owner (pick w.hosts x).body n ≡ Some i
    → owner (pick (after_all (tcp h) w steps).hosts x).body n ≡ Some i
stays_run h w [] g may x n i e = e
stays_run h w (y ∷ ys) g may x n i e =
    stays_run h (after (tcp h) y.moment w y.step) ys (steady_step h y.moment w y.step g may.0) may.1 x n i
    ((sound_step h y.moment w y.step g.sound g.apart may.0).stays x n i e)

-- 2. what the steps add to endpoints is what their streams have

record Matches (x : Added) (s : Stream) : Type 0 where
  pub told : x.told ≡ received s.receive
  pub accepted : x.accepted ≡ s.accepted
  pub ended : x.ended ≡ s.ended

record Logged (a : Hosts) (log : EndpointId → Added) : Type 0 where
  pub there : (me : EndpointId) (e : Endpoint) → find a me ≡ Some e → Matches (log me) e.stream
  pub missing : (me : EndpointId) → find a me ≡ None → log me ≡ nothing

abbrev join : Added → Added → Added
join x y = record { told = x.told ++ y.told; accepted = x.accepted ++ y.accepted; ended = x.ended || y.ended }

logged_step : (comes : Coming) (a b : Hosts) (log adds : EndpointId → Added) → Logged a log → AllGrown comes adds a b
    → ((me : EndpointId) → find a me ≡ None → adds me ≡ nothing) → Logged b (λ me. join (log me) (adds me))
logged_step comes a b log adds g k bare = record { there = λ me f at. there me f at (find a me) refl; missing = λ me at. missing me at (find a me) refl }
  where
    empty : (me : EndpointId) → find a me ≡ None → join (log me) (adds me) ≡ nothing
    empty me is = ap (λ (x : Added). join x (adds me)) (g.missing me is) ∙ ap (λ (x : Added). join nothing x) (bare me is)

    from : (me : EndpointId) (f : Endpoint) → find a me ≡ None → ((e : Endpoint) × (find a me ≡ Some e)) ⊎ Bare f → Matches nothing f.stream
    from me f is (inl e) = absurd (none-some e.0 (sym is ∙ e.1))
    from me f is (inr new) = record { told = sym new.untouched.told; accepted = sym new.untouched.accepted; ended = sym new.untouched.ended }

    there : (me : EndpointId) (f : Endpoint) → find b me ≡ Some f → (o : Option Endpoint) → find a me ≡ o → Matches (join (log me) (adds me)) f.stream
    there me f at None is = subst (λ (x : Added). Matches x f.stream) (sym (empty me is)) (from me f is ((k.all me.host).back me.number f at))
    there me f at (Some e) is =
        let old = g.there me e is in
        let new = (grew comes adds a b me e f k is at).adds in
        record {
          told = ap (λ (l : List ℕ). l ++ (adds me).told) old.told ∙ new.told;
          accepted = ap (λ (l : List ℕ). l ++ (adds me).accepted) old.accepted ∙ new.accepted;
          ended = ap (λ c. c || (adds me).ended) old.ended ∙ new.ended;
        }

    missing : (me : EndpointId) → find b me ≡ None → (o : Option Endpoint) → find a me ≡ o → join (log me) (adds me) ≡ nothing
    missing me at None is = empty me is
    missing me at (Some e) is = let now = (k.all me.host).onward me.number e is in absurd (none-some now.0 (sym at ∙ now.1))

-- an owner of a number is there
pub socket_owner : (a : Hosts) (n : ℕ) (me : EndpointId) → is_socket_of a n me ≡ true → owner (pick a me.host).body n ≡ Some me.number
socket_owner a n me e =
    let x = map_or_true (owner (pick a me.host).body n) (λ i. i == me.number) e in
    x.1 ∙ ap (λ k. Some k) (number_same x.0 me.number x.2)

no_socket : (a : Hosts) (me : EndpointId) → Steady a → find a me ≡ None → (n : ℕ) → is_socket_of a n me ≡ false
no_socket a me g is n = is_not (is_socket_of a n me) (λ e. let x = (g.sound me.host).named n me.number (socket_owner a n me e) in none-some x.0 (sym is ∙ x.1))

call_adds_none : (a : Hosts) (call : Call) (answer : Answer) (me : EndpointId) → ((n : ℕ) → is_socket_of a n me ≡ false) → call_adds a call answer me ≡ nothing
call_adds_none a (calls.Send n bytes) (answers.Given count) me none =
    ap (λ (c : Bool). record { told = []; accepted = if c then take count bytes else []; ended = false }) (none n)
call_adds_none a (calls.Recv n most) (answers.Bytes bytes) me none =
    ap (λ (c : Bool). record { told = if c then bytes else []; accepted = []; ended = false }) (none n)
call_adds_none a (calls.Shut n) answers.Done me none = ap (λ (c : Bool). record { told = []; accepted = []; ended = c }) (none n)
call_adds_none a (calls.Close n) answers.Done me none = ap (λ (c : Bool). record { told = []; accepted = []; ended = c }) (none n)
call_adds_none a call answer me none = refl

step_adds_none : (h : Header) (w : World tcp_shape) (step : Step tcp_shape) (me : EndpointId) → Steady w.hosts
    → find w.hosts me ≡ None → step_adds h w step me ≡ nothing
step_adds_none h w (Begin line t call) me g is = refl
step_adds_none h w (Finish line t answer) me g is = refl
step_adds_none h w (At host d) me g is = refl
step_adds_none h w (Effect t answer) me g is = go (turn_of t w.threads)
  where
    go : (u : Turn tcp_shape)
        → record {
          told = of_turn u [] (λ call. name_told w.hosts call answer me);
          accepted = of_turn u [] (λ call. call_accepted w.hosts call answer me);
          ended = of_turn u false (λ call. call_ended w.hosts call answer me);
        } ≡ nothing
    go Idle = refl
    go (Called call) = call_adds_none w.hosts call answer me (no_socket w.hosts me g is)
    go (Answered x) = refl

-- the bytes that steps told the reads of an endpoint
abbrev name_told_from : Header → EndpointId → World tcp_shape → List (Stamped tcp_shape) → List ℕ
name_told_from h me w [] = []
name_told_from h me w (x ∷ xs) =
    of_effect h w x.step [] (λ call answer. name_told w.hosts call answer me)
    ++ name_told_from h me (after (tcp h) x.moment w x.step) xs

abbrev log_from : Header → World tcp_shape → List (Stamped tcp_shape) → EndpointId → Added
log_from h w steps me = record { told = name_told_from h me w steps; accepted = accepted_from h me w steps; ended = ended_from h me w steps }

or-assoc : (a b c : Bool) → ((a || b) || c) ≡ (a || (b || c))
or-assoc true b c = refl
or-assoc false b c = refl

join-nothing : (x : Added) → x ≡ join x nothing
join-nothing x =
    let told : x.told ≡ x.told ++ [] = sym (append-nil x.told) in
    let accepted : x.accepted ≡ x.accepted ++ [] = sym (append-nil x.accepted) in
    let ended : x.ended ≡ (x.ended || false) = sym (or-false x.ended) in
    λ i. record { told = told i; accepted = accepted i; ended = ended i }

join-join : (x y z : Added) → join (join x y) z ≡ join x (join y z)
join-join x y z =
    let told : (x.told ++ y.told) ++ z.told ≡ x.told ++ (y.told ++ z.told) = append_assoc x.told y.told z.told in
    let accepted : (x.accepted ++ y.accepted) ++ z.accepted ≡ x.accepted ++ (y.accepted ++ z.accepted) = append_assoc x.accepted y.accepted z.accepted in
    let ended : ((x.ended || y.ended) || z.ended) ≡ (x.ended || (y.ended || z.ended)) = or-assoc x.ended y.ended z.ended in
    λ i. record { told = told i; accepted = accepted i; ended = ended i }

logged_same : (a : Hosts) (x y : EndpointId → Added) → ((me : EndpointId) → x me ≡ y me) → Logged a x → Logged a y
logged_same a x y e g = record {
  there = λ me f at. subst (λ (z : Added). Matches z f.stream) (e me) (g.there me f at);
  missing = λ me at. sym (e me) ∙ g.missing me at;
}

logged_run : (h : Header) (w : World tcp_shape) (steps : List (Stamped tcp_shape)) (log : EndpointId → Added)
    → Steady w.hosts → Logged w.hosts log → Lawful (tcp h) w steps
    → Logged (after_all (tcp h) w steps).hosts (λ me. join (log me) (log_from h w steps me))
logged_run h w [] log g l may = logged_same w.hosts log (λ me. join (log me) nothing) (λ me. join-nothing (log me)) l
logged_run h w (x ∷ xs) log g l may =
    let v = after (tcp h) x.moment w x.step in
    let one =
    logged_step (Carries h w x.step) w.hosts v.hosts log (step_adds h w x.step) l
    (grown h x.moment w x.step g may.0) (λ me is. step_adds_none h w x.step me g is) in
    logged_same (after_all (tcp h) v xs).hosts
    (λ me. join (join (log me) (step_adds h w x.step me)) (log_from h v xs me))
    (λ me. join (log me) (join (step_adds h w x.step me) (log_from h v xs me)))
    (λ me. join-join (log me) (step_adds h w x.step me) (log_from h v xs me))
    (logged_run h v xs (λ me. join (log me) (step_adds h w x.step me)) (steady_step h x.moment w x.step g may.0) one may.1)

logged_start : (h : Header) → Logged (start (tcp h)).hosts (λ me. nothing)
logged_start h = record { there = λ me e at. absurd (nowhere h me.host me.number e at); missing = λ me at. refl }

-- over a whole run
pub matches_run : (h : Header) (steps : List (Stamped tcp_shape)) → Lawful (tcp h) (start (tcp h)) steps
    → (me : EndpointId) (e : Endpoint) → find (after_all (tcp h) (start (tcp h)) steps).hosts me ≡ Some e
    → (name_told_from h me (start (tcp h)) steps ≡ received e.stream.receive)
    × (accepted_from h me (start (tcp h)) steps ≡ e.stream.accepted)
    × (ended_from h me (start (tcp h)) steps ≡ e.stream.ended)
matches_run h steps may me e at =
    let x = (logged_run h (start (tcp h)) steps (λ me. nothing) (steady_start h) (logged_start h) may).there me e at in
    (x.told, x.accepted, x.ended)

-- 3. a socket number's reads are those of its endpoint

-- the call was a `recv` at the host that gave the number of an endpoint
pub reads_at : (h : Header) (s : ℕ) (a : Hosts) (n most : ℕ) (answer : Answer) (o : Option Host)
    → is_bad_socket answer ≡ false → ended_allows (calls.Recv n most) answer ≡ false
    → ((queue : List ℕ) → open_allows h.version queue (calls.Recv n most) answer ≡ false)
    → option_map_or (λ host. call_allows h.version (pick a host).body (calls.Recv n most) answer) o (is_bad_socket answer) ≡ true
    → (x : Host) × (i : ℕ) × (owner (pick a x).body n ≡ Some i) × (e : Endpoint) × (find a (name x i) ≡ Some e) × (recv_allows h.version e most answer ≡ true)
reads_at h s a n most answer None good over refused may = absurd cc
reads_at h s a n most answer (Some x) good over refused may =
    let y = named h.version (pick a x).body n (calls.Recv n most) answer may good over refused in
    (x, y.0, (owner_of (pick a x).body n (EndpointAt y.0) y.1).0, y.2, y.3, y.4)

-- a number of two endpoints
one_owner : (z : Hosts) → Steady z → (x y : Host) (n i j : ℕ) → owner (pick z x).body n ≡ Some i → owner (pick z y).body n ≡ Some j → name x i ≡ name y j
one_owner z g Zero Zero n i j e f = ap (name Zero) (same_Some i j (sym e ∙ f))
one_owner z g One One n i j e f = ap (name One) (same_Some i j (sym e ∙ f))
one_owner z g Zero One n i j e f = absurd (g.apart n (owner_given z.zero.body n i e) (owner_given z.one.body n j f))
one_owner z g One Zero n i j e f = absurd (g.apart n (owner_given z.zero.body n j f) (owner_given z.one.body n i e))

told_call : (h : Header) (s : ℕ) (a z : Hosts) (socket : ℕ) (me : EndpointId) → Steady z
    → ((x : Host) (n i : ℕ) → owner (pick a x).body n ≡ Some i → owner (pick z x).body n ≡ Some i)
    → owner (pick z me.host).body socket ≡ Some me.number
    → (call : Call) (answer : Answer) (o : Option Host)
    → option_map_or (λ host. call_allows h.version (pick a host).body call answer) o (is_bad_socket answer) ≡ true
    → call_told call answer socket ≡ name_told a call answer me
told_call h s a z socket me g stays own (calls.Recv n most) (answers.Bytes bytes) o may =
    let x = reads_at h s a n most (answers.Bytes bytes) o refl refl (λ queue. refused queue) may in
    ap (λ (c : Bool). if c then bytes else []) (by x.0 x.1 x.2 (n == socket) refl)
  where
    refused : (queue : List ℕ) → open_allows h.version queue (calls.Recv n most) (answers.Bytes bytes) ≡ false
    refused [] = refl
    refused (c ∷ queue) = refl

    by : (x : Host) (i : ℕ) → owner (pick a x).body n ≡ Some i → (c : Bool) → (n == socket) ≡ c → c ≡ is_socket_of a n me
    by x i e true is =
        let late = subst (λ k. owner (pick z x).body k ≡ Some i) (number_same n socket is) (stays x n i e) in
        let one = one_owner z g x me.host socket i me.number late own in
        sym (subst (λ (k : EndpointId). is_socket_of a n k ≡ true) one (socket_here a x n i e))
    by x i e false is = sym (is_not (is_socket_of a n me) (λ y.
        number_other n socket is ((g.sound me.host).alone n socket me.number (stays me.host n me.number (socket_owner a n me y)) own)))
told_call h s a z socket me g stays own call answer o may = refl

told_step : (h : Header) (s : ℕ) (w : World tcp_shape) (z : Hosts) (socket : ℕ) (me : EndpointId) → Steady z
    → ((x : Host) (n i : ℕ) → owner (pick w.hosts x).body n ≡ Some i → owner (pick z x).body n ≡ Some i)
    → owner (pick z me.host).body socket ≡ Some me.number
    → (step : Step tcp_shape) → Permitted (tcp h) s w step
    → of_effect h w step [] (λ call answer. call_told call answer socket)
    ≡ of_effect h w step [] (λ call answer. name_told w.hosts call answer me)
told_step h s w z socket me g stays own (Begin line t call) may = refl
told_step h s w z socket me g stays own (Finish line t answer) may = refl
told_step h s w z socket me g stays own (At host d) may = refl
told_step h s w z socket me g stays own (Effect t answer) may = go (turn_of t w.threads) may
  where
    go : (u : Turn tcp_shape) → first_broken (effect_rules (tcp h) s w.hosts u answer) ≡ None
        → of_turn u [] (λ call. call_told call answer socket) ≡ of_turn u [] (λ call. name_told w.hosts call answer me)
    go Idle may = refl
    go (Called call) may =
        told_call h s w.hosts z socket me g stays own call answer (aim_of (tcp h) w.hosts (aim call))
        (effect_allowed h s w.hosts call answer (aim_of (tcp h) w.hosts (aim call)) may).1
    go (Answered x) may = refl

pub told_run : (h : Header) (w : World tcp_shape) (steps : List (Stamped tcp_shape)) (socket : ℕ) (me : EndpointId)
    → Steady w.hosts → Lawful (tcp h) w steps
    → owner (pick (after_all (tcp h) w steps).hosts me.host).body socket ≡ Some me.number
    → told_from h socket w steps ≡ name_told_from h me w steps
told_run h w [] socket me g may own = refl
told_run h w (x ∷ xs) socket me g may own =
    let v = after (tcp h) x.moment w x.step in
    let rest = told_run h v xs socket me (steady_step h x.moment w x.step g may.0) may.1 own in
    let here =
    told_step h x.moment w (after_all (tcp h) v xs).hosts socket me (steady_run h w (x ∷ xs) g may)
    (stays_run h w (x ∷ xs) g may) own x.step may.0 in
    ap (λ (l : List ℕ). l ++ told_from h socket v xs) here
    ∙ ap (λ (l : List ℕ). of_effect h w x.step [] (λ call answer. name_told w.hosts call answer me) ++ l) rest

-- 4. the end

-- the socket number names an endpoint, and a FIN was taken there right behind what reads were told
abbrev pub EndedAt : Hosts → ℕ → Type 0
EndedAt a socket = (me : EndpointId) × (owner (pick a me.host).body socket ≡ Some me.number) × (e : Endpoint) × (find a me ≡ Some e) × Ended e.stream

ended_later : (comes : Coming) (adds : EndpointId → Added) (a b : Hosts) (socket : ℕ) → AllGrown comes adds a b
    → ((x : Host) (n i : ℕ) → owner (pick a x).body n ≡ Some i → owner (pick b x).body n ≡ Some i) → EndedAt a socket
    → EndedAt b socket
ended_later comes adds a b socket m stays x =
    let y = (m.all x.0.host).onward x.0.number x.2 x.3 in
    (x.0, stays x.0.host socket x.0.number x.1, y.0, y.1, ended_stays (comes x.0) (adds x.0) x.2 y.0 y.2 x.4)

ended_on : (h : Header) (w : World tcp_shape) (steps : List (Stamped tcp_shape)) (socket : ℕ) → Steady w.hosts
    → Lawful (tcp h) w steps → EndedAt w.hosts socket → EndedAt (after_all (tcp h) w steps).hosts socket
ended_on h w [] socket g may x = x
ended_on h w (y ∷ ys) socket g may x =
    let v = after (tcp h) y.moment w y.step in
    ended_on h v ys socket (steady_step h y.moment w y.step g may.0) may.1
    (ended_later (Carries h w y.step) (step_adds h w y.step) w.hosts v.hosts socket (grown h y.moment w y.step g may.0)
    (sound_step h y.moment w y.step g.sound g.apart may.0).stays x)

ended_call : (h : Header) (s : ℕ) (a : Hosts) (socket : ℕ) → AllOwn a
    → (call : Call) (answer : Answer) (o : Option Host)
    → option_map_or (λ host. call_allows h.version (pick a host).body call answer) o (is_bad_socket answer) ≡ true
    → call_told_end call answer socket ≡ true → EndedAt a socket
ended_call h s a socket g (calls.Recv n most) answers.Eof o may e =
    let x = reads_at h s a n most answers.Eof o refl refl (λ queue. refused queue) may in
    (name x.0 x.1, subst (λ k. owner (pick a x.0).body k ≡ Some x.1) (number_same n socket e) x.2, x.3, x.4, ended_told x.3 (g x.0 x.1 x.3 x.4) x.5)
  where
    refused : (queue : List ℕ) → open_allows h.version queue (calls.Recv n most) answers.Eof ≡ false
    refused [] = refl
    refused (c ∷ queue) = refl
ended_call h s a socket g call answer o may e = absurd cc

ended_step : (h : Header) (s : ℕ) (w : World tcp_shape) (socket : ℕ) → AllOwn w.hosts → (step : Step tcp_shape)
    → Permitted (tcp h) s w step → of_effect h w step false (λ call answer. call_told_end call answer socket) ≡ true
    → EndedAt w.hosts socket
ended_step h s w socket g (Begin line t call) may e = absurd cc
ended_step h s w socket g (Finish line t answer) may e = absurd cc
ended_step h s w socket g (At host d) may e = absurd cc
ended_step h s w socket g (Effect t answer) may e = go (turn_of t w.threads) may e
  where
    go : (u : Turn tcp_shape) → first_broken (effect_rules (tcp h) s w.hosts u answer) ≡ None
        → of_turn u false (λ call. call_told_end call answer socket) ≡ true → EndedAt w.hosts socket
    go Idle may e = absurd cc
    go (Called call) may e =
        ended_call h s w.hosts socket g call answer (aim_of (tcp h) w.hosts (aim call))
        (effect_allowed h s w.hosts call answer (aim_of (tcp h) w.hosts (aim call)) may).1 e
    go (Answered x) may e = absurd cc

-- at whatever step a read was told the end, it is so at the end of the run
pub ended_run : (h : Header) (w : World tcp_shape) (steps : List (Stamped tcp_shape)) (socket : ℕ) → Steady w.hosts
    → Lawful (tcp h) w steps → told_end_from h socket w steps ≡ true → EndedAt (after_all (tcp h) w steps).hosts socket
ended_run h w [] socket g may e = absurd cc
ended_run h w (x ∷ xs) socket g may e =
    go (of_effect h w x.step false (λ call answer. call_told_end call answer socket)) refl e
    (ended_run h (after (tcp h) x.moment w x.step) xs socket (steady_step h x.moment w x.step g may.0) may.1)
  where
    go : (c : Bool) → of_effect h w x.step false (λ call answer. call_told_end call answer socket) ≡ c
        → (c || told_end_from h socket (after (tcp h) x.moment w x.step) xs) ≡ true
        → (told_end_from h socket (after (tcp h) x.moment w x.step) xs ≡ true
        → EndedAt (after_all (tcp h) w (x ∷ xs)).hosts socket) → EndedAt (after_all (tcp h) w (x ∷ xs)).hosts socket
    go true is e rest = ended_on h w (x ∷ xs) socket g may (ended_step h x.moment w socket g.own x.step may.0 is)
    go false is e rest = rest e
