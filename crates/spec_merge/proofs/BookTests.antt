-- Tests of entries that are written out: where a test passes, which is computed, what a book asks for holds.
use Rattle.std.proofs.Common.{◌≡◌, ℕ, Bool, true, false, cond, not, ◌&&◌, List, [], ◌∷◌, Option, Some, None, is_some, nat_eq, refl, ap, sym, ◌∙◌}
use Rattle.std.specs.List.{list_all}
use Rattle.std.specs.Map.{lookup}
use Rattle.std.proofs.lemmas.Bool.{and_parts, eq-eqb, eqb-true, not-true}
use Rattle.std.proofs.lemmas.Option.{none-some, same_Some}
use Rattle.case_forms.specs.declared.trace.Header.{Header}
use Rattle.case_forms.specs.declared.calls.Host.{Host}
use Rattle.case_forms.specs.declared.calls.Host.TheVariants.{Zero, One}
use Rattle.case_forms.specs.declared.calls.Call.{Call}
use Rattle.case_forms.specs.declared.calls.Answer.{Answer}
use Rattle.verdict.specs.Rules.{first_broken}
use Rattle.spec_network.specs.Tables.{host_is, lane, on, pick}
use Rattle.spec_network.specs.Hosts.{Aim, ThatHost, ThatSocket, Turn, Idle, Called, Answered, World, Step, Begin, Finish, Effect, At, turn_of}
use Rattle.spec_network.specs.HostRules.{step_rules}
use Rattle.spec_merge.specs.Books.{Aims, FitsItem, HostRun, Item, Do, Bring, Key, OwnStep, item_line, next}
use Rattle.spec_merge.specs.Keys.{EachEntry, KeysRise, before}
use Rattle.spec_tcp.specs.declared.endpoint.Socket.{Socket}
use Rattle.spec_tcp.specs.Machine.{aim, gives, tcp, tcp_shape}
use Rattle.spec_merge.specs.Recordings.{TcpEntry}

same_host : (a b : Host) → host_is a b ≡ true → a ≡ b
same_host Zero Zero e = refl
same_host Zero One e = absurd (cc)
same_host One Zero e = absurd (cc)
same_host One One e = refl

-- the number is of this host's lane
abbrev pub is_own_number : Host → ℕ → Bool
is_own_number me n = host_is (lane n) me

-- all socket numbers that were given are
abbrev pub are_own_sockets : Host → List (ℕ × Socket) → Bool
are_own_sockets me sockets = list_all (λ s. is_own_number me s.0) sockets

own_sockets : (me : Host) (sockets : List (ℕ × Socket)) → are_own_sockets me sockets ≡ true → (n : ℕ) → is_some (lookup (nat_eq n) sockets) ≡ true → lane n ≡ me
own_sockets me [] e n is_given = absurd (cc)
own_sockets me (s ∷ sockets) e n is_given = go (nat_eq n s.0) refl is_given (own_sockets me sockets (and_parts _ _ e).1 n)
  where
    go : (b : Bool) → nat_eq n s.0 ≡ b → is_some (cond b (Some s.1) (lookup (nat_eq n) sockets)) ≡ true
        → (is_some (lookup (nat_eq n) sockets) ≡ true → lane n ≡ me) → lane n ≡ me
    go true is found rest = ap lane (eqb-true n s.0 is) ∙ same_host (lane s.0) me (and_parts _ _ e).0
    go false is found rest = rest found

-- a call means this host
abbrev pub aims_here : Host → Aim → Bool
aims_here me (ThatHost host) = host_is host me
aims_here me (ThatSocket n) = is_own_number me n

aimed : (me : Host) (a : Aim) → aims_here me a ≡ true → Aims me a
aimed me (ThatHost host) e = same_host host me e
aimed me (ThatSocket n) e = same_host (lane n) me e

-- a socket number that the open call is given is of this host's lane
abbrev pub gives_own : Host → Turn tcp_shape → Answer → Bool
gives_own me Idle answer = true
gives_own me (Called call) answer = on (gives call answer) true (is_own_number me)
gives_own me (Answered given) answer = true

given_own : (me : Host) (turn : Turn tcp_shape) (answer : Answer) → gives_own me turn answer ≡ true → (call : Call)
    → turn ≡ Called call → (n : ℕ) → gives call answer ≡ Some n → lane n ≡ me
given_own me turn answer e call is n gave =
    let here = ap (λ (t : Turn tcp_shape). gives_own me t answer) (sym is) ∙ e in
    same_host (lane n) me (ap (λ (o : Option ℕ). on o true (is_own_number me)) (sym gave) ∙ here)

-- the step is this host's own
abbrev pub is_own : Header → Host → World tcp_shape → Step tcp_shape → Bool
is_own h me w (Begin line t call) = is_own_number me t && aims_here me (aim call)
is_own h me w (Finish line t answer) = is_own_number me t
is_own h me w (Effect t answer) = is_own_number me t && gives_own me (turn_of t w.threads) answer
is_own h me w (At host host_step) = host_is host me

own : (h : Header) (me : Host) (w : World tcp_shape) (step : Step tcp_shape) → is_own h me w step ≡ true → OwnStep (tcp h) me w step
own h me w (Begin line t call) e = let p = and_parts _ _ e in (same_host (lane t) me p.0, aimed me (aim call) p.1)
own h me w (Finish line t answer) e = same_host (lane t) me e
own h me w (Effect t answer) e = let p = and_parts _ _ e in (same_host (lane t) me p.0, given_own me (turn_of t w.threads) answer p.1)
own h me w (At host host_step) e = same_host host me e

-- it is permitted, too
abbrev pub fits : Header → Host → ℕ → World tcp_shape → Item tcp_shape → Bool
fits h me moment w (Do step) = not (is_some (first_broken (step_rules (tcp h) moment w step))) && is_own h me w step
fits h me moment w (Bring f) = true

none_there : {A : Type 0} (o : Option A) → not (is_some o) ≡ true → o ≡ None
none_there None e = refl
none_there (Some x) e = absurd (cc)

fitting : (h : Header) (me : Host) (moment : ℕ) (w : World tcp_shape) (item : Item tcp_shape)
    → fits h me moment w item ≡ true → FitsItem (tcp h) me moment w item
fitting h me moment w (Do step) e = let p = and_parts _ _ e in (none_there (first_broken (step_rules (tcp h) moment w step)) p.0, own h me w step p.1)
fitting h me moment w (Bring f) e = tt

-- the entries are a run of this host alone
abbrev pub is_run : Header → Host → World tcp_shape → List TcpEntry → Bool
is_run h me w [] = true
is_run h me w (x ∷ xs) =
    fits h me x.key.moment w x.item
    && (are_own_sockets me (pick (next (tcp h) me w x).hosts me).body.sockets && is_run h me (next (tcp h) me w x) xs)

pub host_run : (h : Header) (me : Host) (w : World tcp_shape) (xs : List TcpEntry) → is_run h me w xs ≡ true → HostRun (tcp h) me w xs
host_run h me w [] e = tt
host_run h me w (x ∷ xs) e =
    let p = and_parts _ _ e in
    let q = and_parts _ _ p.1 in
    (fitting h me x.key.moment w x.item p.0, own_sockets me (pick (next (tcp h) me w x).hosts me).body.sockets q.0, host_run h me (next (tcp h) me w x) xs q.1)

-- no key of these comes before that one
abbrev pub none_below : Key → List TcpEntry → Bool
none_below key ys = list_all (λ y. not (before y.key key)) ys

none_before : (h : Header) (key : Key) (ys : List TcpEntry) → none_below key ys ≡ true → EachEntry (tcp h) (λ y. before y.key key ≡ false) ys
none_before h key [] e = tt
none_before h key (y ∷ ys) e = let p = and_parts _ _ e in (not-true (before y.key key) p.0, none_before h key ys p.1)

-- the keys are this host's and don't fall
abbrev pub is_rising : Host → List TcpEntry → Bool
is_rising me [] = true
is_rising me (x ∷ xs) = host_is x.key.host me && (none_below x.key xs && is_rising me xs)

pub keys_rise : (h : Header) (me : Host) (xs : List TcpEntry) → is_rising me xs ≡ true → KeysRise (tcp h) me xs
keys_rise h me [] e = tt
keys_rise h me (x ∷ xs) e =
    let p = and_parts _ _ e in
    let q = and_parts _ _ p.1 in
    (same_host x.key.host me p.0, none_before h x.key xs q.0, keys_rise h me xs q.1)

-- no key of those that join comes before one that is there
abbrev pub is_above : (old new : List TcpEntry) → Bool
is_above old new = list_all (λ x. none_below x.key new) old

pub above : (h : Header) (old new : List TcpEntry) → is_above old new ≡ true
    → EachEntry (tcp h) (λ x. EachEntry (tcp h) (λ y. before y.key x.key ≡ false) new) old
above h [] new e = tt
above h (x ∷ old) new e = let p = and_parts _ _ e in (none_before h x.key new p.0, above h old new p.1)

abbrev pub same_key : Key → Key → Bool
same_key a b = nat_eq a.moment b.moment && (nat_eq a.counter b.counter && host_is a.host b.host)

key_same : (a b : Key) → same_key a b ≡ true → a ≡ b
key_same a b e =
    let p = and_parts _ _ e in
    let q = and_parts _ _ p.1 in
    let moments : a.moment ≡ b.moment = eqb-true a.moment b.moment p.0 in
    let counters : a.counter ≡ b.counter = eqb-true a.counter b.counter q.0 in
    let hosts : a.host ≡ b.host = same_host a.host b.host q.1 in
    λ i. record { moment = moments i; counter = counters i; host = hosts i }

-- an entry with line n has this key
abbrev pub has_key : Option ℕ → ℕ → Key → Key → Bool
has_key None n key wanted = true
has_key (Some line) n key wanted = cond (nat_eq line n) (same_key key wanted) true

-- each entry of these with line n has
abbrev pub is_line_of : Header → ℕ → Key → List TcpEntry → Bool
is_line_of h n wanted ys = list_all (λ y. has_key (item_line (tcp h) y.item) n y.key wanted) ys

keyed : (line : Option ℕ) (n : ℕ) (key wanted : Key) → has_key line n key wanted ≡ true → line ≡ Some n → key ≡ wanted
keyed None n key wanted e is = absurd (none-some n is)
keyed (Some line) n key wanted e is =
    let same = ap (λ (b : Bool). cond b (same_key key wanted) true) (sym (eq-eqb line n (same_Some line n is))) ∙ e in
    key_same key wanted same

pub line_of : (h : Header) (n : ℕ) (wanted : Key) (ys : List TcpEntry) → is_line_of h n wanted ys ≡ true
    → EachEntry (tcp h) (λ y. item_line (tcp h) y.item ≡ Some n → y.key ≡ wanted) ys
line_of h n wanted [] e = tt
line_of h n wanted (y ∷ ys) e = let p = and_parts _ _ e in (keyed (item_line (tcp h) y.item) n y.key wanted p.0, line_of h n wanted ys p.1)
