-- Socket numbers over a run: what sends on an endpoint's number accepted, and whether there is a number.
use Rattle.std.proofs.Common.{◌≡◌, ℕ, ◌⊎◌, Bool, true, false, List, [], ◌∷◌, ◌++◌, take, Option, Some, None, refl, ap, sym, subst, ◌∙◌, inl, inr}
use Rattle.std.specs.Prelude.{if◌then◌else◌, ◌==◌, ◌||◌}
use Rattle.std.specs.List.{flat_map, list_any}
use Rattle.std.specs.Option.{option_map_or}
use Rattle.std.proofs.lemmas.Option.{same_Some}
use Rattle.std.proofs.lemmas.List.Concat.{flat_map-append}
use Rattle.std.proofs.lemmas.List.{append-nil}
use Rattle.case_forms.specs.declared.version.Version.{Version}
use Rattle.case_forms.specs.declared.trace.Header.{Header}
use Rattle.case_forms.specs.declared.calls.Host.{Host}
use Rattle.case_forms.specs.declared.calls.Host.TheVariants.{Zero, One}
use Rattle.case_forms.specs.declared.calls.Call.{Call}
use Rattle.case_forms.specs.declared.calls.Call.TheVariants as calls
use Rattle.case_forms.specs.declared.calls.Answer.{Answer}
use Rattle.case_forms.specs.declared.calls.Answer.TheVariants as answers
use Rattle.verdict.specs.Rules.{first_broken}
use Rattle.spec_network.specs.Tables.{pick}
use Rattle.spec_network.specs.Hosts.{Turn, Idle, Called, Answered, World, Step, Begin, Finish, Effect, At, Stamped, turn_of}
use Rattle.spec_network.specs.HostRules.{aim_of, effect_rules, Permitted}
use Rattle.spec_network.specs.HostSteps.{after, after_all, Lawful}
use Rattle.spec_tcp.specs.declared.endpoint.EndpointId.{EndpointId}
use Rattle.spec_tcp.specs.declared.endpoint.Endpoint.{Endpoint}
use Rattle.spec_tcp.specs.declared.endpoint.SocketTarget.TheVariants.{EndpointAt}
use Rattle.spec_tcp.specs.Calls.Accept.{open_allows}
use Rattle.spec_tcp.specs.Calls.{is_bad_socket, call_allows}
use Rattle.spec_tcp.specs.Machine.{tcp, tcp_shape, aim}
use Rattle.spec_tcp_laws.specs.Runs.{owner, is_socket_of, call_told, call_accepted, call_ended, of_turn, of_effect, told_from, accepted_from, ended_from}
use Rattle.spec_tcp_laws.specs.Consequences.{find, HasStream}
use Rattle.spec_tcp_laws.proofs.Rules.{number_same, number_other, number_self, is_not}
use Rattle.spec_tcp_laws.proofs.Later.{Hosts, name}
use Rattle.spec_tcp_laws.proofs.Calls.{owner_of, socket_here, named}
use Rattle.spec_tcp_laws.proofs.Steps.{effect_allowed}
use Rattle.spec_tcp_laws.proofs.Sound.{owner_given}
use Rattle.spec_tcp_laws.proofs.Runs.{Steady, steady_step, later_step, stays_run, socket_owner}
use Rattle.checker.specs.Headline.{bytes_accepted, is_ended}
use Rattle.checker.proofs.HeadlineLemmas.{one_done, run_done, any_append}

-- 1. socket numbers name what they named

abbrev pub Stay : Hosts → Hosts → Type 0
Stay a z = (x : Host) (n i : ℕ) → owner (pick a x).body n ≡ Some i → owner (pick z x).body n ≡ Some i

-- a number of two endpoints
pub one_owner : (z : Hosts) → Steady z → (x y : Host) (n i j : ℕ) → owner (pick z x).body n ≡ Some i → owner (pick z y).body n ≡ Some j → name x i ≡ name y j
one_owner z g Zero Zero n i j e f = ap (name Zero) (same_Some i j (sym e ∙ f))
one_owner z g One One n i j e f = ap (name One) (same_Some i j (sym e ∙ f))
one_owner z g Zero One n i j e f = absurd (g.apart n (owner_given z.zero.body n i e) (owner_given z.one.body n j f))
one_owner z g One Zero n i j e f = absurd (g.apart n (owner_given z.zero.body n j f) (owner_given z.one.body n i e))

-- the endpoint that a number names, live or not
abbrev pub Owned : Hosts → ℕ → Type 0
Owned a n = (x : Host) × (i : ℕ) × (owner (pick a x).body n ≡ Some i)

owned_later : (a z : Hosts) → Stay a z → (n : ℕ) → Owned a n → Owned z n
owned_later a z stay n o = (o.0, o.1, stay o.0 n o.1 o.2)

abbrev Allowed : Version → Hosts → Call → Answer → Option Host → Type 0
Allowed v a call answer o = option_map_or (λ host. call_allows v (pick a host).body call answer) o (is_bad_socket answer) ≡ true

sends_at : (v : Version) (a : Hosts) (n : ℕ) (bytes : List ℕ) (count : ℕ) (o : Option Host)
    → Allowed v a (calls.Send n bytes) (answers.Given count) o → Owned a n
sends_at v a n bytes count None may = absurd cc
sends_at v a n bytes count (Some x) may =
    let y = named v (pick a x).body n (calls.Send n bytes) (answers.Given count) may refl refl (λ queue. refused queue) in
    (x, y.0, (owner_of (pick a x).body n (EndpointAt y.0) y.1).0)
  where
    refused : (queue : List ℕ) → open_allows v queue (calls.Send n bytes) (answers.Given count) ≡ false
    refused [] = refl
    refused (c ∷ queue) = refl

reads_at : (v : Version) (a : Hosts) (n most : ℕ) (bytes : List ℕ) (o : Option Host) → Allowed v a (calls.Recv n most) (answers.Bytes bytes) o → Owned a n
reads_at v a n most bytes None may = absurd cc
reads_at v a n most bytes (Some x) may =
    let y = named v (pick a x).body n (calls.Recv n most) (answers.Bytes bytes) may refl refl (λ queue. refused queue) in
    (x, y.0, (owner_of (pick a x).body n (EndpointAt y.0) y.1).0)
  where
    refused : (queue : List ℕ) → open_allows v queue (calls.Recv n most) (answers.Bytes bytes) ≡ false
    refused [] = refl
    refused (c ∷ queue) = refl

-- a number that names an endpoint is that endpoint's number, or another
pub number_named : (a z : Hosts) → Steady z → Stay a z → (socket : ℕ) (me : EndpointId)
    → owner (pick z me.host).body socket ≡ Some me.number → (n : ℕ) → Owned a n → (c : Bool) → (n == socket) ≡ c
    → is_socket_of a n me ≡ c
number_named a z g stay socket me own n o true is =
    let late = subst (λ k. owner (pick z o.0).body k ≡ Some o.1) (number_same n socket is) (stay o.0 n o.1 o.2) in
    subst (λ (k : EndpointId). is_socket_of a n k ≡ true) (one_owner z g o.0 me.host socket o.1 me.number late own) (socket_here a o.0 n o.1 o.2)
number_named a z g stay socket me own n o false is = is_not (is_socket_of a n me) (λ y.
    number_other n socket is ((g.sound me.host).alone n socket me.number (stay me.host n me.number (socket_owner a n me y)) own))

-- 2. what sends on an endpoint's number accepted

accepted_call : (v : Version) (a z : Hosts) (socket : ℕ) (me : EndpointId) → Steady z → Stay a z → owner (pick z me.host).body socket ≡ Some me.number
    → (call : Call) (answer : Answer) (o : Option Host) → Allowed v a call answer o → call_accepted a call answer me ≡ bytes_accepted socket call answer ++ []
accepted_call v a z socket me g stay own (calls.Send n bytes) (answers.Given count) o may =
    ap (λ (c : Bool). if c then take count bytes else []) (number_named a z g stay socket me own n (sends_at v a n bytes count o may) (n == socket) refl)
    ∙ sym (append-nil (if n == socket then take count bytes else []))
accepted_call v a z socket me g stay own call answer o may = refl

accepted_step : (h : Header) (s : ℕ) (w : World tcp_shape) (z : Hosts) (socket : ℕ) (me : EndpointId) → Steady z
    → Stay w.hosts z → owner (pick z me.host).body socket ≡ Some me.number
    → (step : Step tcp_shape) → Permitted (tcp h) s w step
    → of_effect h w step [] (λ call answer. call_accepted w.hosts call answer me)
    ≡ flat_map (λ d. bytes_accepted socket d.call d.answer) (of_effect h w step [] one_done)
accepted_step h s w z socket me g stay own (Begin line t call) may = refl
accepted_step h s w z socket me g stay own (Finish line t answer) may = refl
accepted_step h s w z socket me g stay own (At host d) may = refl
accepted_step h s w z socket me g stay own (Effect t answer) may = go (turn_of t w.threads) may
  where
    go : (u : Turn tcp_shape) → first_broken (effect_rules (tcp h) s w.hosts u answer) ≡ None
        → of_turn u [] (λ call. call_accepted w.hosts call answer me)
        ≡ flat_map (λ d. bytes_accepted socket d.call d.answer) (of_turn u [] (λ call. one_done call answer))
    go Idle may = refl
    go (Called call) may =
        accepted_call h.version w.hosts z socket me g stay own call answer (aim_of (tcp h) w.hosts (aim call))
        (effect_allowed h s w.hosts call answer (aim_of (tcp h) w.hosts (aim call)) may).1
    go (Answered x) may = refl

pub accepted_run : (h : Header) (w : World tcp_shape) (steps : List (Stamped tcp_shape)) (z : Hosts) (socket : ℕ)
    (me : EndpointId) → Steady w.hosts → Lawful (tcp h) w steps → Steady z → Stay (after_all (tcp h) w steps).hosts z
    → owner (pick z me.host).body socket ≡ Some me.number
    → accepted_from h me w steps ≡ flat_map (λ d. bytes_accepted socket d.call d.answer) (run_done h w steps)
accepted_run h w [] z socket me f may g stay own = refl
accepted_run h w (x ∷ xs) z socket me f may g stay own =
    let v = after (tcp h) x.moment w x.step in
    let here = accepted_step h x.moment w z socket me g (λ y n i e. stay y n i (stays_run h w (x ∷ xs) f may y n i e)) own x.step may.0 in
    let rest = accepted_run h v xs z socket me (steady_step h x.moment w x.step f may.0) may.1 g stay own in
    ap (λ (l : List ℕ). l ++ accepted_from h me v xs) here
    ∙ ap (λ (l : List ℕ). flat_map (λ d. bytes_accepted socket d.call d.answer) (of_effect h w x.step [] one_done) ++ l) rest
    ∙ sym (flat_map-append (λ d. bytes_accepted socket d.call d.answer) (of_effect h w x.step [] one_done) (run_done h v xs))

-- 3. where something was accepted or told there is a number

sender_call : (a : Hosts) (me : EndpointId) (call : Call) (answer : Answer)
    → (call_accepted a call answer me ≡ []) ⊎ ((n : ℕ) × (owner (pick a me.host).body n ≡ Some me.number))
sender_call a me (calls.Send n bytes) (answers.Given count) = go (is_socket_of a n me) refl
  where
    go : (c : Bool) → is_socket_of a n me ≡ c → ((if c then take count bytes else []) ≡ []) ⊎ ((n : ℕ) × (owner (pick a me.host).body n ≡ Some me.number))
    go true is = inr (n, socket_owner a n me is)
    go false is = inl refl
sender_call a me call answer = inl refl

sender_step : (h : Header) (w : World tcp_shape) (me : EndpointId) (step : Step tcp_shape)
    → (of_effect h w step [] (λ call answer. call_accepted w.hosts call answer me) ≡ [])
    ⊎ ((n : ℕ) × (owner (pick w.hosts me.host).body n ≡ Some me.number))
sender_step h w me (Begin line t call) = inl refl
sender_step h w me (Finish line t answer) = inl refl
sender_step h w me (At host d) = inl refl
sender_step h w me (Effect t answer) = go (turn_of t w.threads)
  where
    go : (u : Turn tcp_shape)
        → (of_turn u [] (λ call. call_accepted w.hosts call answer me) ≡ [])
        ⊎ ((n : ℕ) × (owner (pick w.hosts me.host).body n ≡ Some me.number))
    go Idle = inl refl
    go (Called call) = sender_call w.hosts me call answer
    go (Answered x) = inl refl

pub sender_run : (h : Header) (w : World tcp_shape) (steps : List (Stamped tcp_shape)) (me : EndpointId) → Steady w.hosts → Lawful (tcp h) w steps
    → (accepted_from h me w steps ≡ []) ⊎ ((n : ℕ) × (owner (pick (after_all (tcp h) w steps).hosts me.host).body n ≡ Some me.number))
sender_run h w [] me f may = inl refl
sender_run h w (x ∷ xs) me f may =
    go (sender_step h w me x.step)
    (sender_run h (after (tcp h) x.moment w x.step) xs me (steady_step h x.moment w x.step f may.0) may.1)
  where
    go : (of_effect h w x.step [] (λ call answer. call_accepted w.hosts call answer me) ≡ [])
        ⊎ ((n : ℕ) × (owner (pick w.hosts me.host).body n ≡ Some me.number))
        → (accepted_from h me (after (tcp h) x.moment w x.step) xs ≡ [])
        ⊎ ((n : ℕ) × (owner (pick (after_all (tcp h) w (x ∷ xs)).hosts me.host).body n ≡ Some me.number))
        → (accepted_from h me w (x ∷ xs) ≡ []) ⊎ ((n : ℕ) × (owner (pick (after_all (tcp h) w (x ∷ xs)).hosts me.host).body n ≡ Some me.number))
    go (inr y) rest = inr (y.0, stays_run h w (x ∷ xs) f may me.host y.0 me.number y.1)
    go (inl e) (inr y) = inr y
    go (inl e) (inl r) = inl (ap (λ (l : List ℕ). l ++ accepted_from h me (after (tcp h) x.moment w x.step) xs) e ∙ r)

reader_call : (v : Version) (a : Hosts) (socket : ℕ) (call : Call) (answer : Answer) (o : Option Host) → Allowed v a call answer o
    → (call_told call answer socket ≡ []) ⊎ Owned a socket
reader_call v a socket (calls.Recv n most) (answers.Bytes bytes) o may = go (n == socket) refl
  where
    go : (c : Bool) → (n == socket) ≡ c → ((if c then bytes else []) ≡ []) ⊎ Owned a socket
    go true is = inr (subst (λ k. Owned a k) (number_same n socket is) (reads_at v a n most bytes o may))
    go false is = inl refl
reader_call v a socket call answer o may = inl refl

reader_step : (h : Header) (s : ℕ) (w : World tcp_shape) (socket : ℕ) (step : Step tcp_shape)
    → Permitted (tcp h) s w step
    → (of_effect h w step [] (λ call answer. call_told call answer socket) ≡ []) ⊎ Owned w.hosts socket
reader_step h s w socket (Begin line t call) may = inl refl
reader_step h s w socket (Finish line t answer) may = inl refl
reader_step h s w socket (At host d) may = inl refl
reader_step h s w socket (Effect t answer) may = go (turn_of t w.threads) may
  where
    go : (u : Turn tcp_shape) → first_broken (effect_rules (tcp h) s w.hosts u answer) ≡ None
        → (of_turn u [] (λ call. call_told call answer socket) ≡ []) ⊎ Owned w.hosts socket
    go Idle may = inl refl
    go (Called call) may =
        reader_call h.version w.hosts socket call answer (aim_of (tcp h) w.hosts (aim call))
        (effect_allowed h s w.hosts call answer (aim_of (tcp h) w.hosts (aim call)) may).1
    go (Answered x) may = inl refl

pub reader_run : (h : Header) (w : World tcp_shape) (steps : List (Stamped tcp_shape)) (socket : ℕ) → Steady w.hosts → Lawful (tcp h) w steps
    → (told_from h socket w steps ≡ []) ⊎ Owned (after_all (tcp h) w steps).hosts socket
reader_run h w [] socket f may = inl refl
reader_run h w (x ∷ xs) socket f may =
    go (reader_step h x.moment w socket x.step may.0)
    (reader_run h (after (tcp h) x.moment w x.step) xs socket (steady_step h x.moment w x.step f may.0) may.1)
  where
    go : (of_effect h w x.step [] (λ call answer. call_told call answer socket) ≡ []) ⊎ Owned w.hosts socket
        → (told_from h socket (after (tcp h) x.moment w x.step) xs ≡ []) ⊎ Owned (after_all (tcp h) w (x ∷ xs)).hosts socket
        → (told_from h socket w (x ∷ xs) ≡ []) ⊎ Owned (after_all (tcp h) w (x ∷ xs)).hosts socket
    go (inr y) rest = inr (owned_later w.hosts (after_all (tcp h) w (x ∷ xs)).hosts (stays_run h w (x ∷ xs) f may) socket y)
    go (inl e) (inr y) = inr y
    go (inl e) (inl r) = inl (ap (λ (l : List ℕ). l ++ told_from h socket (after (tcp h) x.moment w x.step) xs) e ∙ r)

-- 4. what ended an endpoint's sending

ended_call : (a z : Hosts) (socket : ℕ) (me : EndpointId) → Steady z → Stay a z
    → owner (pick z me.host).body socket ≡ Some me.number → (call : Call) (answer : Answer)
    → call_ended a call answer me ≡ true → (is_ended socket call answer || false) ≡ true
ended_call a z socket me g stay own (calls.Shut n) answers.Done e =
    ap (λ (b : Bool). b || false) (number_self n socket
    ((g.sound me.host).alone n socket me.number (stay me.host n me.number (socket_owner a n me e)) own))
ended_call a z socket me g stay own (calls.Close n) answers.Done e =
    ap (λ (b : Bool). b || false) (number_self n socket
    ((g.sound me.host).alone n socket me.number (stay me.host n me.number (socket_owner a n me e)) own))
ended_call a z socket me g stay own call answer e = absurd cc

ended_step : (h : Header) (w : World tcp_shape) (z : Hosts) (socket : ℕ) (me : EndpointId) → Steady z → Stay w.hosts z
    → owner (pick z me.host).body socket ≡ Some me.number
    → (step : Step tcp_shape) → of_effect h w step false (λ call answer. call_ended w.hosts call answer me) ≡ true
    → list_any (λ d. is_ended socket d.call d.answer) (of_effect h w step [] one_done) ≡ true
ended_step h w z socket me g stay own (Begin line t call) e = absurd cc
ended_step h w z socket me g stay own (Finish line t answer) e = absurd cc
ended_step h w z socket me g stay own (At host d) e = absurd cc
ended_step h w z socket me g stay own (Effect t answer) e = go (turn_of t w.threads) e
  where
    go : (u : Turn tcp_shape) → of_turn u false (λ call. call_ended w.hosts call answer me) ≡ true
        → list_any (λ d. is_ended socket d.call d.answer) (of_turn u [] (λ call. one_done call answer)) ≡ true
    go Idle e = absurd cc
    go (Called call) e = ended_call w.hosts z socket me g stay own call answer e
    go (Answered x) e = absurd cc

or_left : (b c : Bool) → b ≡ true → (b || c) ≡ true
or_left b c e = ap (λ (x : Bool). x || c) e

or_right : (b c : Bool) → c ≡ true → (b || c) ≡ true
or_right true c e = refl
or_right false c e = e

pub ended_run : (h : Header) (w : World tcp_shape) (steps : List (Stamped tcp_shape)) (z : Hosts) (socket : ℕ)
    (me : EndpointId) → Steady w.hosts → Lawful (tcp h) w steps → Steady z → Stay (after_all (tcp h) w steps).hosts z
    → owner (pick z me.host).body socket ≡ Some me.number → ended_from h me w steps ≡ true
    → list_any (λ d. is_ended socket d.call d.answer) (run_done h w steps) ≡ true
ended_run h w [] z socket me f may g stay own e = absurd cc
ended_run h w (x ∷ xs) z socket me f may g stay own e =
    sym (any_append (λ d. is_ended socket d.call d.answer) (of_effect h w x.step [] one_done) (run_done h (after (tcp h) x.moment w x.step) xs))
    ∙ go (of_effect h w x.step false (λ call answer. call_ended w.hosts call answer me)) refl e
    (λ more. ended_run h (after (tcp h) x.moment w x.step) xs z socket me
    (steady_step h x.moment w x.step f may.0) may.1 g stay own more)
  where
    go : (b : Bool) → of_effect h w x.step false (λ call answer. call_ended w.hosts call answer me) ≡ b
        → (b || ended_from h me (after (tcp h) x.moment w x.step) xs) ≡ true
        → (ended_from h me (after (tcp h) x.moment w x.step) xs ≡ true
        → list_any (λ d. is_ended socket d.call d.answer) (run_done h (after (tcp h) x.moment w x.step) xs) ≡ true)
        → (list_any (λ d. is_ended socket d.call d.answer) (of_effect h w x.step [] one_done)
        || list_any (λ d. is_ended socket d.call d.answer) (run_done h (after (tcp h) x.moment w x.step) xs)) ≡ true
    go true is e more = or_left _ _ (ended_step h w z socket me g (λ y n i e. stay y n i (stays_run h w (x ∷ xs) f may y n i e)) own x.step is)
    go false is e more = or_right _ _ (more e)

ender_call : (a : Hosts) (me : EndpointId) (call : Call) (answer : Answer) → call_ended a call answer me ≡ true
    → (n : ℕ) × (owner (pick a me.host).body n ≡ Some me.number)
ender_call a me (calls.Shut n) answers.Done e = (n, socket_owner a n me e)
ender_call a me (calls.Close n) answers.Done e = (n, socket_owner a n me e)
ender_call a me call answer e = absurd cc

pub ender_run : (h : Header) (w : World tcp_shape) (steps : List (Stamped tcp_shape)) (me : EndpointId) → Steady w.hosts
    → Lawful (tcp h) w steps → ended_from h me w steps ≡ true
    → (n : ℕ) × (owner (pick (after_all (tcp h) w steps).hosts me.host).body n ≡ Some me.number)
ender_run h w [] me f may e = absurd cc
ender_run h w (x ∷ xs) me f may e =
    go (of_effect h w x.step false (λ call answer. call_ended w.hosts call answer me)) refl e
    (λ more. ender_run h (after (tcp h) x.moment w x.step) xs me (steady_step h x.moment w x.step f may.0) may.1 more)
  where
    by_turn : (answer : Answer) (u : Turn tcp_shape)
        → of_turn u false (λ call. call_ended w.hosts call answer me) ≡ true
        → (n : ℕ) × (owner (pick w.hosts me.host).body n ≡ Some me.number)
    by_turn answer Idle e = absurd cc
    by_turn answer (Called call) e = ender_call w.hosts me call answer e
    by_turn answer (Answered y) e = absurd cc

    by_step : (step : Step tcp_shape)
        → of_effect h w step false (λ call answer. call_ended w.hosts call answer me) ≡ true
        → (n : ℕ) × (owner (pick w.hosts me.host).body n ≡ Some me.number)
    by_step (Begin line t call) e = absurd cc
    by_step (Finish line t answer) e = absurd cc
    by_step (At host d) e = absurd cc
    by_step (Effect t answer) e = by_turn answer (turn_of t w.threads) e

    go : (b : Bool) → of_effect h w x.step false (λ call answer. call_ended w.hosts call answer me) ≡ b
        → (b || ended_from h me (after (tcp h) x.moment w x.step) xs) ≡ true
        → (ended_from h me (after (tcp h) x.moment w x.step) xs ≡ true
        → (n : ℕ) × (owner (pick (after_all (tcp h) w (x ∷ xs)).hosts me.host).body n ≡ Some me.number))
        → (n : ℕ) × (owner (pick (after_all (tcp h) w (x ∷ xs)).hosts me.host).body n ≡ Some me.number)
    go true is e more = let y = by_step x.step is in (y.0, stays_run h w (x ∷ xs) f may me.host y.0 me.number y.1)
    go false is e more = more e

-- 5. endpoints over a run

-- each endpoint stays, with the peer that it has
abbrev pub AllMet : Hosts → Hosts → Type 0
AllMet a b = (me : EndpointId) (e : Endpoint) → find a me ≡ Some e → HasStream b me (λ s. (q : EndpointId) → e.stream.peer ≡ Some q → s.peer ≡ Some q)

pub met_run : (h : Header) (w : World tcp_shape) (steps : List (Stamped tcp_shape)) → Steady w.hosts
    → Lawful (tcp h) w steps → AllMet w.hosts (after_all (tcp h) w steps).hosts
met_run h w [] g may me e at = (e, at, λ q is. is)
met_run h w (x ∷ xs) g may me e at =
    let one = later_step h x.moment w x.step g may.0 me e at in
    let rest = met_run h (after (tcp h) x.moment w x.step) xs (steady_step h x.moment w x.step g may.0) may.1 me one.0 one.1 in
    (rest.0, rest.1, λ q is. rest.2 q (one.2.peer q is))
