-- The answer that a call has is one that it may have.
use Rattle.std.proofs.Common.{◌≡◌, ◌≤◌, ◌+◌, ◌*◌, ℕ, zero, suc, ◌⊎◌, Bool, true, false, List, [], ◌∷◌, ◌++◌, length}
use Rattle.std.proofs.Common.{map, take, Option, Some, None, refl, ap, sym, subst, ◌∙◌, inl, inr, nat_eq, nat_lt}
use Rattle.std.proofs.Common.{nat_le, arith}
use Rattle.std.specs.Prelude.{if◌then◌else◌, is_some, not, slice_get, ◌&&◌, ◌==◌}
use Rattle.std.specs.Map.{lookup}
use Rattle.std.specs.Option.{IfSome, IsSomeAnd, option_map_or}
use Rattle.std.specs.Prelude.{Err, IfOk, Ok, Result}
use Rattle.std.proofs.lemmas.Bool.Decides.{nat_tests}
use Rattle.std.proofs.lemmas.Option.{none-some, same_Some}
use Rattle.case_forms.specs.declared.version.Version.{Version}
use Rattle.case_forms.specs.declared.calls.Host.{Host}
use Rattle.case_forms.specs.declared.calls.Host.TheVariants.{Zero, One}
use Rattle.case_forms.specs.declared.calls.Answer.{Answer}
use Rattle.case_forms.specs.declared.calls.Call.{Call}
use Rattle.case_forms.specs.declared.calls.Call.TheVariants as calls
use Rattle.case_forms.specs.declared.trace.Header.{Header}
use Rattle.streams.specs.Received.{starts}
use Rattle.verdict.specs.declared.rule.Rule.{Rule}
use Rattle.verdict.specs.declared.rule.Rule.TheVariants as rules
use Rattle.verdict.specs.Rules.{first_broken}
use Rattle.spec_network.specs.Tables.{lane, other, pick}
use Rattle.spec_network.specs.Hosts.{ThatSocket, Idle, Called, Answered, World, Turn, Effect, Finish, turn_of}
use Rattle.spec_network.specs.HostRules.{Permitted, aim_of, call_rules, effect_rules, fresh_rules}
use Rattle.spec_network.specs.HostSteps.{after, effect_after, start}
use Rattle.spec_network.proofs.Entries.{turn_insert}
use Rattle.spec_network.proofs.Turns.{effect_passes}
use Rattle.spec_tcp.specs.declared.endpoint.Endpoint.{Endpoint}
use Rattle.spec_tcp.specs.declared.endpoint.Socket.{Socket}
use Rattle.spec_tcp.specs.declared.endpoint.SocketTarget.{SocketTarget}
use Rattle.spec_tcp.specs.declared.endpoint.SocketTarget.TheVariants.{EndpointAt}
use Rattle.spec_tcp.specs.HostTcp.{HostTcp, given, if_live, socket_target}
use Rattle.spec_tcp.specs.Calls.{call_allows, is_bad_socket, socket_allows, target_allows}
use Rattle.spec_tcp.specs.Forgetting.{forget, forget_body, forget_endpoint}
use Rattle.spec_tcp.specs.Machine.{aim, gives, tcp, tcp_shape}
use Rattle.spec_tcp_laws.specs.ForgettingLaws.{ForgettingIsFree}
use Rattle.spec_tcp_laws.specs.Runs.{endpoint_place, owner}
use Rattle.spec_tcp_laws.proofs.Calls.{Apart}
use Rattle.spec_tcp_laws.proofs.Sound.{Sound}
use Rattle.spec_tcp_laws.proofs.SoundSteps.{sound_step}
use Rattle.endpoint_state.specs.Turns.{pending_call}
use Rattle.spec_merge.specs.Books.{Bring, Do, Entry, HostRun, Item, FitsItem, end, next, next_item}
use Rattle.stack_core.specs.Answers.{IsNamed}
use Rattle.case_forms.specs.Traces.{first_event_line}
use Rattle.spec_merge.proofs.Lines.{next_more}
use Rattle.stack_core.specs.declared.tick.Tick.{Tick}
use Rattle.stack_core.specs.CallEvents.{answered}
use Rattle.stack_core.specs.Cores.{Core, Fits, GivesNext, IsOwn, line_to_come, next_socket, event_begun, own_body, with_step, world}
use Rattle.stack_core.specs.Entries.{entry_at}
use Rattle.stack_core.specs.Recordings.{Recorded, world_left}
use Rattle.stack_core.proofs.Cores.{leads}
use Rattle.stack_core.proofs.Same.{answer_same}
use Rattle.stack_core.proofs.Owned.{meant, not_given}

-- 1. bytes that wait

starts_taken : (n : ℕ) (xs : List ℕ) → starts (take n xs) xs ≡ true
starts_taken zero [] = refl
starts_taken zero (x ∷ xs) = refl
starts_taken (suc n) [] = refl
starts_taken (suc n) (x ∷ xs) = let same : (x == x) ≡ true = grind (arith, nat_tests) in rw (same, starts_taken n xs) refl

some_taken : (n : ℕ) (xs : List ℕ) → 1 ≤ n → nat_lt 0 (length xs) ≡ true → nat_le 1 (length (take n xs)) ≡ true
some_taken zero xs some there = absurd (omega arith)
some_taken (suc n) [] some there = absurd cc
some_taken (suc n) (x ∷ xs) some there = grind (arith, nat_tests)

few_taken : (n : ℕ) (xs : List ℕ) → length (take n xs) ≤ n
few_taken zero [] = omega arith
few_taken zero (x ∷ xs) = omega arith
few_taken (suc n) [] = omega arith
few_taken (suc n) (x ∷ xs) = let few = few_taken n xs in omega arith

is_le : (a b : ℕ) → a ≤ b → nat_le a b ≡ true
is_le a b p = grind (arith, nat_tests)

pub read_allowed : (most : ℕ) (bytes waits : List ℕ) → bytes ≡ take most waits → 1 ≤ most
    → nat_lt 0 (length waits) ≡ true
    → (nat_le 1 (length bytes) && nat_le (length bytes) most && starts bytes waits) ≡ true
read_allowed most bytes waits is some there =
    rw (
      is,
      some_taken most waits some there,
      is_le (length (take most waits)) most (few_taken most waits),
      starts_taken most waits,
    ) refl

-- 2. live numbers have their endpoints

pub record AreSound (w : World tcp_shape) : Type 0 where
  pub sound : (x : Host) → Sound (pick w.hosts x).body
  pub apart : Apart w.hosts

nothing_sound : (h : Header) → AreSound (start (tcp h))
nothing_sound h = record { sound = λ x. sound x; apart = λ n zero one. absurd cc }
  where
    sound : (x : Host) → Sound (pick (start (tcp h)).hosts x).body
    sound Zero =
        record {
          named = λ n i e. absurd (none-some i e);
          alone = λ m n i e f. absurd (none-some i e);
          queued = λ l k i e. absurd (none-some i e);
          once = λ l j k i e f. absurd (none-some i e);
        }
    sound One =
        record {
          named = λ n i e. absurd (none-some i e);
          alone = λ m n i e f. absurd (none-some i e);
          queued = λ l k i e. absurd (none-some i e);
          once = λ l j k i e f. absurd (none-some i e);
        }

item_sound : (h : Header) (me : Host) (moment : ℕ) (w : World tcp_shape) (item : Item tcp_shape) → AreSound w
    → FitsItem (tcp h) me moment w item → AreSound (next_item (tcp h) me moment w item)
item_sound h me moment w (Do step) are fits = let stepped = sound_step h moment w step are.sound are.apart fits.0 in
    record { sound = stepped.sound; apart = stepped.apart }
item_sound h Zero moment w (Bring f) are fits = record { sound = by; apart = are.apart }
  where
    by : (x : Host) → Sound (pick (next_item (tcp h) Zero moment w (Bring f)).hosts x).body
    by Zero = are.sound Zero
    by One = are.sound One
item_sound h One moment w (Bring f) are fits = record { sound = by; apart = are.apart }
  where
    by : (x : Host) → Sound (pick (next_item (tcp h) One moment w (Bring f)).hosts x).body
    by Zero = are.sound Zero
    by One = are.sound One

run_sound : (h : Header) (me : Host) (w : World tcp_shape) (xs : List (Entry tcp_shape)) → AreSound w → HostRun (tcp h) me w xs → AreSound (end (tcp h) me w xs)
run_sound h me w [] are runs = are
run_sound h me w (x ∷ xs) are runs = run_sound h me (next (tcp h) me w x) xs (item_sound h me x.key.moment w x.item are runs.0) runs.2

live_owner : (b : HostTcp) (n i : ℕ) → socket_target b n ≡ Some (EndpointAt i) → owner b n ≡ Some i
live_owner b n i is = by (lookup (nat_eq n) b.sockets) is
  where
    live : (alive : Bool) (s : Socket) → (if alive then Some s.target else None) ≡ Some (EndpointAt i)
        → option_map_or (λ x. endpoint_place x.target) (Some s) None ≡ Some i
    live true s is = ap (λ o. option_map_or endpoint_place o None) is
    live false s is = absurd cc

    by : (o : Option Socket) → option_map_or if_live o None ≡ Some (EndpointAt i) → option_map_or (λ x. endpoint_place x.target) o None ≡ Some i
    by None is = absurd cc
    by (Some s) is = live s.live s is

pub no_gap : (o : Option Endpoint) → IsSomeAnd o (λ e. Unit {0}) → o ≡ None → ⊥
no_gap None there none = there
no_gap (Some e) there none = cc

forgotten_there : (es : List Endpoint) (i : ℕ) (e : Endpoint) → slice_get es i ≡ Some e → IsSomeAnd (slice_get (map forget_endpoint es) i) (λ e. Unit {0})
forgotten_there [] i e is = absurd (none-some e is)
forgotten_there (x ∷ es) zero e is = tt
forgotten_there (x ∷ es) (suc i) e is = forgotten_there es i e is

-- in a host's run, as far as it is kept
pub named_left : (h : Header) (me : Host) (xs : List (Entry tcp_shape)) → HostRun (tcp h) me (start (tcp h)) xs
    → IsNamed (forget_body (pick (end (tcp h) me (start (tcp h)) xs).hosts me).body)
named_left h me xs runs n i is =
    let b : HostTcp = (pick (end (tcp h) me (start (tcp h)) xs).hosts me).body in
    let there = ((run_sound h me (start (tcp h)) xs (nothing_sound h) runs).sound me).named n i (live_owner b n i is) in
    forgotten_there b.endpoints i there.0 there.1

-- 3. the effect is permitted

not_live : (b : HostTcp) (n : ℕ) → given b n ≡ false → socket_target b n ≡ None
not_live b n is = by (lookup (nat_eq n) b.sockets) is
  where
    by : (o : Option Socket) → is_some o ≡ false → option_map_or if_live o None ≡ None
    by None is = refl
    by (Some s) is = absurd cc

module _ (h : Header) (me : Host) (moment : ℕ) (v : World tcp_shape) (own : IsOwn me v) (call : Call) (answer : Answer) where
  abbrev b : HostTcp
  b = (pick v.hosts me).body

  abbrev Fresh : Host → Type 0
  Fresh x = (n : ℕ) → gives call answer ≡ Some n → given (pick v.hosts x).body n ≡ false

  fresh_passes : (g : Option ℕ) → ((n : ℕ) → g ≡ Some n → given v.hosts.zero.body n ≡ false)
      → ((n : ℕ) → g ≡ Some n → given v.hosts.one.body n ≡ false) → (may : Bool) → may ≡ true
      → first_broken (fresh_rules (tcp h) v.hosts g ++ (rules.CallAnswer, not may) ∷ []) ≡ None
  fresh_passes None first second may is = rw is refl
  fresh_passes (Some n) first second may is = rw (first n refl, second n refl, is) refl

  nobody : (n : ℕ) → aim_of (tcp h) v.hosts (ThatSocket n) ≡ None → socket_target b n ≡ None
  nobody n is = not_live b n (by me)
    where
      first : (x y : Bool) → (if x then Some Zero else if y then Some One else None) ≡ None → x ≡ false
      first true y is = absurd cc
      first false y is = refl

      second : (x y : Bool) → (if x then Some Zero else if y then Some One else None) ≡ None → y ≡ false
      second true y is = absurd cc
      second false true is = absurd cc
      second false false is = refl

      by : (x : Host) → given (pick v.hosts x).body n ≡ false
      by Zero = first (given v.hosts.zero.body n) (given v.hosts.one.body n) is
      by One = second (given v.hosts.zero.body n) (given v.hosts.one.body n) is

  at_socket : (n : ℕ) (c : Call) → aim_of (tcp h) v.hosts (ThatSocket n) ≡ None → socket_allows h.version b n c answer ≡ true → is_bad_socket answer ≡ true
  at_socket n c is may =
      subst (λ (o : Option SocketTarget). option_map_or (target_allows h.version b c answer) o (is_bad_socket answer) ≡ true) (nobody n is) may

  stray : (c : Call) → aim_of (tcp h) v.hosts (aim c) ≡ None → call_allows h.version b c answer ≡ true → is_bad_socket answer ≡ true
  stray (calls.Listen host port backlog) is may = absurd (none-some host (sym is))
  stray (calls.Connect host lport rport) is may = absurd (none-some host (sym is))
  stray (calls.Await n) is may = at_socket n (calls.Await n) is may
  stray (calls.Accept n) is may = at_socket n (calls.Accept n) is may
  stray (calls.Send n bytes) is may = at_socket n (calls.Send n bytes) is may
  stray (calls.Recv n most) is may = at_socket n (calls.Recv n most) is may
  stray (calls.Shut n) is may = at_socket n (calls.Shut n) is may
  stray (calls.Close n) is may = at_socket n (calls.Close n) is may
  stray (calls.Abort n) is may = at_socket n (calls.Abort n) is may
  stray (calls.Status n) is may = at_socket n (calls.Status n) is may

  effect_may : (t : ℕ) → turn_of t v.threads ≡ Called call → call_allows h.version b call answer ≡ true
      → ((n : ℕ) → gives call answer ≡ Some n → n ≡ next_socket me b) → Permitted (tcp h) moment v (Effect t answer)
  effect_may t is may next =
      subst (λ (u : Turn tcp_shape). first_broken (effect_rules (tcp h) moment v.hosts u answer) ≡ None) (sym is)
      (by (aim_of (tcp h) v.hosts (aim call)) refl (meant h me moment v own (aim call) (own.aims t call is)))
    where
      here : Fresh me
      here n gives_n = let is_next : n ≡ next_socket me b = next n gives_n in not_given (given b n) (λ there. let low = own.below n there in omega arith)

      there : Fresh (other me)
      there n gives_n = own.none n

      at_zero : (x : Host) → Fresh x → Fresh (other x) → Fresh Zero
      at_zero Zero p q = p
      at_zero One p q = q

      at_one : (x : Host) → Fresh x → Fresh (other x) → Fresh One
      at_one Zero p q = q
      at_one One p q = p

      by : (o : Option Host) → aim_of (tcp h) v.hosts (aim call) ≡ o → (o ≡ None) ⊎ (o ≡ Some me)
          → first_broken (call_rules (tcp h) moment v.hosts call answer o) ≡ None
      by None at to = fresh_passes (gives call answer) (at_zero me here there) (at_one me here there) (is_bad_socket answer) (stray call at may)
      by (Some host) at (inl none) = absurd cc
      by (Some host) at (inr same) =
          fresh_passes (gives call answer) (at_zero me here there) (at_one me here there)
          (call_allows h.version (pick v.hosts host).body call answer)
          (subst (λ (x : Host). call_allows h.version (pick v.hosts x).body call answer ≡ true) (sym (same_Some host me same)) may)

-- 4. in what is kept, and in the whole world

own_kept : (me : Host) (w : World tcp_shape) → IsOwn me w → IsOwn me (forget w)
own_kept Zero w own = record { own = own.own; below = own.below; none = own.none; aims = own.aims; within = own.within }
own_kept One w own = record { own = own.own; below = own.below; none = own.none; aims = own.aims; within = own.within }

pub kept_body : (me : Host) (w : World tcp_shape) → (pick (forget w).hosts me).body ≡ forget_body (pick w.hosts me).body
kept_body Zero w = refl
kept_body One w = refl

pub may_have : ForgettingIsFree → (h : Header) (me : Host) (w : World tcp_shape) → IsOwn me w
    → (t : ℕ) (call : Call) (answer : Answer) → turn_of t w.threads ≡ Called call
    → call_allows h.version (forget_body (pick w.hosts me).body) call answer ≡ true
    → ((n : ℕ) → gives call answer ≡ Some n → n ≡ next_socket me (forget_body (pick w.hosts me).body)) → (moment : ℕ)
    → Permitted (tcp h) moment w (Effect t answer)
may_have free h me w own t call answer is may next moment =
    subst (λ (rs : List (Rule × Bool)). first_broken rs ≡ None) (free.rules h moment w (Effect t answer))
    (effect_may h me moment (forget w) (own_kept me w own) call answer t is
    (subst (λ (b : HostTcp). call_allows h.version b call answer ≡ true) (sym (kept_body me w)) may)
    (subst (λ (b : HostTcp). (n : ℕ) → gives call answer ≡ Some n → n ≡ next_socket me b) (sym (kept_body me w)) next))

-- 5. of a turn

-- the turn of a call that is pending
pub turn_pending : (u : Turn tcp_shape) (call : Call) → pending_call u ≡ Some call → u ≡ Called call
turn_pending Idle call is = absurd (none-some call is)
turn_pending (Called c) call is = ap (λ (x : Call). let u : Turn tcp_shape = Called x in u) (same_Some c call is)
turn_pending (Answered a) call is = absurd (none-some call is)

pub gives_next : (me : Host) (b : HostTcp) (u : Turn tcp_shape) (call : Call) (answer : Answer) → u ≡ Called call
    → ((n : ℕ) → gives call answer ≡ Some n → n ≡ next_socket me b) → GivesNext me b u answer
gives_next me b u call answer is next = subst (λ (u : Turn tcp_shape). GivesNext me b u answer) (sym is) next

-- 6. the answer that is chosen

pub answers_permitted : {E : Type 0} → ForgettingIsFree → (r : Recorded) → IsOwn r.me (world_left r)
    → (t : ℕ) (call : Call) (me : Host) (v : Version) (b : HostTcp) (next : ℕ)
    → pending_call (turn_of t (world_left r).threads) ≡ Some call → me ≡ r.me → v ≡ r.header.version
    → b ≡ forget_body (pick (world_left r).hosts r.me).body → next ≡ next_socket me b → (res : Result (Option Answer) E)
    → IfOk res (λ o. IfSome o (λ a. call_allows v b call a ≡ true))
    → IfOk res (λ o. IfSome o (λ a. (n : ℕ) → gives call a ≡ Some n → n ≡ next))
    → IfOk res (λ o. IfSome o (λ a. (moment : ℕ) → Permitted (tcp r.header) moment (world_left r) (Effect t a)))
answers_permitted free r own t call me v b next pending is version body number (Err error) may next_given = tt
answers_permitted free r own t call me v b next pending is version body number (Ok None) may next_given = tt
answers_permitted free r own t call me v b next pending is version body number (Ok (Some a)) may next_given =
    may_have free r.header r.me (world_left r) own t call a (turn_pending (turn_of t (world_left r).threads) call pending)
    (subst (λ (x : HostTcp). call_allows r.header.version x call a ≡ true) body (subst (λ (x : Version). call_allows x b call a ≡ true) version may))
    (λ n e. next_given n e ∙ number ∙ ap (λ (x : Host). next_socket x b) is ∙ ap (λ (x : HostTcp). next_socket r.me x) body)

-- 7. the steps of an event that ends a call

lane_on : (n k : ℕ) → lane (n + 2 * k) ≡ lane n
lane_on n zero = ap lane (let same : n + 2 * zero ≡ n = omega arith in same)
lane_on n (suc k) = ap lane (let same : n + 2 * suc k ≡ suc (suc (n + 2 * k)) = omega arith in same) ∙ twice (lane (n + 2 * k)) ∙ lane_on n k
  where
    twice : (h : Host) → other (other h) ≡ h
    twice Zero = refl
    twice One = refl

lane_next : (me : Host) (b : HostTcp) → lane (next_socket me b) ≡ me
lane_next Zero b = lane_on 2 (length b.sockets)
lane_next One b = lane_on 3 (length b.sockets)

lanes : (me : Host) (b : HostTcp) (u : Turn tcp_shape) (a : Answer) → GivesNext me b u a → (call : Call)
    → u ≡ Called call → (n : ℕ) → gives call a ≡ Some n → lane n ≡ me
lanes me b u a next call is n e = ap lane (subst (λ (u : Turn tcp_shape). GivesNext me b u a) is next n e) ∙ lane_next me b

pub effect_fits : (c d : Core) (tick : Tick) (t : ℕ) (a b : Answer) → d ≡ event_begun c tick → b ≡ a
    → ((moment : ℕ) → Permitted (tcp c.recorded.header) moment (world c) (Effect t a))
    → GivesNext c.recorded.me (own_body c) (turn_of t (world c).threads) a → lane t ≡ c.recorded.me → Fits d (Effect t b)
effect_fits c d tick t a b is same may next lane_is =
    subst (λ (x : Core). Fits x (Effect t b)) (sym is)
    (subst (λ (x : Answer). Fits (event_begun c tick) (Effect t x)) (sym same)
    (may tick.moment, (lane_is, lanes c.recorded.me (own_body c) (turn_of t (world c).threads) a next)))

turn_after : (h : Header) (moment : ℕ) (w : World tcp_shape) (t : ℕ) (a : Answer)
    → Permitted (tcp h) moment w (Effect t a) → turn_of t (after (tcp h) moment w (Effect t a)).threads ≡ Answered a
turn_after h moment w t a may =
    let o = effect_passes (tcp h) moment w.hosts (turn_of t w.threads) a may in
    ap (λ (u : Turn tcp_shape). turn_of t (effect_after (tcp h) moment w t a u).threads) o.1
    ∙ turn_insert (tcp h) t t (Answered a) w.threads
    ∙ ap (λ (b : Bool). if b then Answered a else turn_of t w.threads) (key_same t)
  where
    key_same : (n : ℕ) → nat_eq n n ≡ true
    key_same n = grind (arith, nat_tests)

ends : (h : Header) (me : Host) (moment : ℕ) (w : World tcp_shape) (n t : ℕ) (a : Answer)
    → turn_of t w.threads ≡ Answered a → lane t ≡ me → FitsItem (tcp h) me moment w (Do (Finish n t a))
ends h me moment w n t a is lane_is = (rw (is, answer_same a) refl, lane_is)

pub finish_fits : (c d e : Core) (tick : Tick) (n t : ℕ) (a b x : Answer) → d ≡ event_begun c tick → b ≡ a → x ≡ a
    → ((moment : ℕ) → Permitted (tcp c.recorded.header) moment (world c) (Effect t a)) → lane t ≡ c.recorded.me
    → e ≡ with_step d (Effect t b) → Fits e (Finish n t x)
finish_fits c d e tick n t a b x is same last may lane_is made =
    let there : e ≡ with_step (event_begun c tick) (Effect t a) =
    made ∙ ap (λ (k : Core). with_step k (Effect t b)) is
    ∙ ap (λ (y : Answer). with_step (event_begun c tick) (Effect t y)) same in
    subst (λ (k : Core). Fits k (Finish n t x)) (sym there)
    (subst (λ (y : Answer). Fits (with_step (event_begun c tick) (Effect t a)) (Finish n t y)) (sym last)
    (ends c.recorded.header c.recorded.me tick.moment (world (with_step (event_begun c tick) (Effect t a))) n t a
    (ap (λ (w : World tcp_shape). turn_of t w.threads)
    (leads (event_begun c tick) (with_step (event_begun c tick) (Effect t a)) (Effect t a) refl)
    ∙ turn_after c.recorded.header tick.moment (world c) t a (may tick.moment)) lane_is))

-- an effect takes no line
pub same_line : (c d e : Core) (tick : Tick) (t : ℕ) (a : Answer) → d ≡ event_begun c tick → e ≡ with_step d (Effect t a) → line_to_come e ≡ line_to_come c
same_line c d e tick t a is made =
    ap line_to_come (made ∙ ap (λ (x : Core). with_step x (Effect t a)) is)
    ∙ next_more c.recorded.header (first_event_line c.recorded.header) c.recorded.entries
    (entry_at c.recorded.me tick (Do (Effect t a)) ∷ [])

pub ended_call : (c d e f : Core) (tick : Tick) (n t : ℕ) (a b x : Answer) → d ≡ event_begun c tick
    → e ≡ with_step d (Effect t b) → f ≡ with_step e (Finish n t x) → b ≡ a → x ≡ a → n ≡ line_to_come e
    → f ≡ answered c tick t a
ended_call c d e f tick n t a b x is made last same ending number =
    last ∙ ap (λ (y : Answer). with_step e (Finish n t y)) ending ∙ ap (λ (m : ℕ). with_step e (Finish m t a)) (number ∙ same_line c d e tick t b is made)
    ∙ ap (λ (k : Core). with_step k (Finish (line_to_come c) t a)) (made ∙ ap (λ (k : Core). with_step k (Effect t b)) is)
    ∙ ap (λ (y : Answer). with_step (with_step (event_begun c tick) (Effect t y)) (Finish (line_to_come c) t a)) same
