-- What a core gave and what its threads wait for stays its own with each step.
use Rattle.std.proofs.Common.{◌≡◌, ◌≤◌, ◌<◌, ◌+◌, ◌*◌, ℕ, suc, ◌⊎◌, Bool, true, false, List, length, Option, Some, None}
use Rattle.std.proofs.Common.{refl, ap, sym, subst, ◌∙◌, inl, inr, nat_eq, arith}
use Rattle.std.specs.Prelude.{if◌then◌else◌, is_some}
use Rattle.std.specs.Map.{lookup}
use Rattle.std.proofs.lemmas.Option.{same_Some}
use Rattle.indexmap.specs.IndexMap.{insert_entry}
use Rattle.case_forms.specs.declared.calls.Host.{Host}
use Rattle.case_forms.specs.declared.calls.Host.TheVariants.{Zero, One}
use Rattle.case_forms.specs.declared.calls.Answer.{Answer}
use Rattle.case_forms.specs.declared.calls.Call.{Call}
use Rattle.case_forms.specs.declared.trace.Header.{Header}
use Rattle.spec_network.specs.Tables.{lane, other, pick, with_host}
use Rattle.spec_network.specs.Hosts.{Aim, ThatHost, ThatSocket, HostState, Turn, Idle, Called, Answered, World, Step, Begin, Finish, Effect, At, turn_of}
use Rattle.spec_network.specs.HostRules.{aim_of}
use Rattle.spec_network.specs.HostSteps.{after, call_after, host_step_after, effect_after}
use Rattle.spec_network.proofs.Entries.{turn_insert}
use Rattle.spec_tcp.specs.Signals.{profile_of}
use Rattle.spec_tcp.specs.HostTcp.{HostTcp, given}
use Rattle.spec_tcp.specs.Calls.{after_call}
use Rattle.spec_tcp.specs.Machine.{aim, gives, tcp, tcp_shape}
use Rattle.spec_tcp.specs.Machine as acts
use Rattle.spec_tcp_laws.proofs.Sound.{dead_given, given_insert}
use Rattle.spec_merge.specs.Books.{Aims, Do, FitsItem, Flying, bring}
use Rattle.stack_core.specs.Cores.{GivesNext, IsCallWithin, IsOrderly, IsOwn, first_socket, next_socket}
use Rattle.stack_core.proofs.Sockets.{Sockets, SocketsAfter, call_sockets, dead_length, host_step_sockets, new_length}

-- 1. threads

abbrev OwnCalls : Host → List (ℕ × Turn tcp_shape) → Type 0
OwnCalls me threads = (t : ℕ) (call : Call) → turn_of t threads ≡ Called call → Aims me (aim call) × IsCallWithin call

-- one turn changes, and is none of a call or of one of its own
turn_own : (h : Header) (me : Host) (threads : List (ℕ × Turn tcp_shape)) (n : ℕ) (u : Turn tcp_shape)
    → OwnCalls me threads → ((call : Call) → u ≡ Called call → Aims me (aim call) × IsCallWithin call)
    → OwnCalls me (insert_entry nat_eq threads n u)
turn_own h me threads n u own new t call is = by (nat_eq t n) (sym (turn_insert (tcp h) t n u threads) ∙ is)
  where
    by : (b : Bool) → (if b then u else turn_of t threads) ≡ Called call → Aims me (aim call) × IsCallWithin call
    by true is = new call is
    by false is = own t call is

called_same : (a b : Call) → (let u : Turn tcp_shape = Called a in u) ≡ Called b → a ≡ b
called_same a b is = ap (λ (u : Turn tcp_shape). by u) is
  where
    by : Turn tcp_shape → Call
    by Idle = a
    by (Called call) = call
    by (Answered answer) = a

-- 2. sockets

-- what is asked of the sockets of the host itself
pub record OwnNumbers (me : Host) (b : HostTcp) : Type 0 where
  pub own : (n : ℕ) → given b n ≡ true → lane n ≡ me
  pub below : (n : ℕ) → given b n ≡ true → n < next_socket me b

same_numbers : (me : Host) (b c : HostTcp) → c.sockets ≡ b.sockets → OwnNumbers me b → OwnNumbers me c
same_numbers me b c same own = record {
  own = λ n is. own.own n (ap (λ (es : Sockets). is_some (lookup (nat_eq n) es)) (sym same) ∙ is);
  below =
      λ n is. subst (λ (es : Sockets). n < first_socket me + 2 * length es) (sym same)
      (own.below n (ap (λ (es : Sockets). is_some (lookup (nat_eq n) es)) (sym same) ∙ is));
}

pub not_given : (b : Bool) → (b ≡ true → ⊥) → b ≡ false
not_given true never = absurd (never refl)
not_given false never = refl

pub call_numbers : (me : Host) (b c : HostTcp) (o : Option ℕ) → SocketsAfter b.sockets c.sockets o
    → ((n : ℕ) → o ≡ Some n → n ≡ next_socket me b) → ((n : ℕ) → o ≡ Some n → lane n ≡ me) → OwnNumbers me b
    → OwnNumbers me c × (length c.sockets ≤ suc (length b.sockets))
call_numbers me b c o (inl same) next lanes own = (same_numbers me b c same own, let count = ap (λ (es : Sockets). length es) same in omega arith)
call_numbers me b c o (inr (inl (n, gone))) next lanes own =
    let count : length c.sockets ≡ length b.sockets = ap (λ (es : Sockets). length es) gone ∙ dead_length b.sockets n in (
      record {
        own = λ m is. own.own m (dead_given b n m (ap (λ (es : Sockets). is_some (lookup (nat_eq m) es)) (sym gone) ∙ is));
        below = λ m is. let low = own.below m (dead_given b n m (ap (λ (es : Sockets). is_some (lookup (nat_eq m) es)) (sym gone) ∙ is)) in omega arith;
      },
      omega arith,
    )
call_numbers me b c o (inr (inr (n, s, gives_n, new))) next lanes own =
    let is_next : n ≡ next_socket me b = next n gives_n in
    let fresh : given b n ≡ false = not_given (given b n) (λ is. let low = own.below n is in omega arith) in
    let count : length c.sockets ≡ suc (length b.sockets) = ap (λ (es : Sockets). length es) new ∙ new_length b.sockets n s fresh in
    let either : (m : ℕ) → given c m ≡ true → (given b m ≡ true) ⊎ (Some n ≡ Some m) =
    λ m is. given_insert b.sockets n s m (ap (λ (es : Sockets). is_some (lookup (nat_eq m) es)) (sym new) ∙ is) in
    (record { own = λ m is. lane_of m (either m is); below = λ m is. below_of m count is_next (either m is) }, omega arith)
  where
    lane_of : (m : ℕ) → (given b m ≡ true) ⊎ (Some n ≡ Some m) → lane m ≡ me
    lane_of m (inl old) = own.own m old
    lane_of m (inr one) = lanes m (gives_n ∙ one)

    below_of : (m : ℕ) → length c.sockets ≡ suc (length b.sockets) → n ≡ next_socket me b → (given b m ≡ true) ⊎ (Some n ≡ Some m) → m < next_socket me c
    below_of m count is_next (inl old) = let low = own.below m old in omega arith
    below_of m count is_next (inr one) = let same : n ≡ m = same_Some n m one in omega arith

-- 3. steps

-- it is this host's own after a step, and at most one number more is given
pub record OwnStepped (me : Host) (w v : World tcp_shape) : Type 0 where
  pub own : IsOwn me v
  pub count : length (pick v.hosts me).body.sockets ≤ suc (length (pick w.hosts me).body.sockets)

module _ (h : Header) (me : Host) (moment : ℕ) (w : World tcp_shape) (own : IsOwn me w) where
  calls_own : OwnCalls me w.threads
  calls_own t call is = (own.aims t call is, own.within t call is)

  numbers_own : OwnNumbers me (pick w.hosts me).body
  numbers_own = record { own = own.own; below = own.below }

  -- the hosts stay
  turns : (threads : List (ℕ × Turn tcp_shape)) → OwnCalls me threads → OwnStepped me w (record w { threads = threads })
  turns threads calls = record {
    own = record { own = own.own; below = own.below; none = own.none; aims = λ t call is. (calls t call is).0; within = λ t call is. (calls t call is).1 };
    count = omega arith;
  }

  -- this host changes
  changed : (me2 : Host) (s : HostState tcp_shape) (threads : List (ℕ × Turn tcp_shape)) (count : ℕ) → me2 ≡ me
      → OwnNumbers me s.body → length s.body.sockets ≤ suc (length (pick w.hosts me).body.sockets) → OwnCalls me threads
      → OwnStepped me w (record { hosts = with_host w.hosts me2 s; threads = threads; count = count })
  changed me2 s threads count is numbers few calls =
      subst (λ (x : Host). OwnStepped me w (record { hosts = with_host w.hosts x s; threads = threads; count = count }))
      (sym is) (by me own.none numbers few calls)
    where
      by : (x : Host) → ((n : ℕ) → given (pick w.hosts (other x)).body n ≡ false) → OwnNumbers x s.body
          → length s.body.sockets ≤ suc (length (pick w.hosts x).body.sockets) → OwnCalls x threads
          → OwnStepped x w (record { hosts = with_host w.hosts x s; threads = threads; count = count })
      by Zero none numbers few calls =
          record {
            own = record {
              own = numbers.own;
              below = numbers.below;
              none = none;
              aims = λ t call is. (calls t call is).0;
              within = λ t call is. (calls t call is).1;
            };
            count = few;
          }
      by One none numbers few calls =
          record {
            own = record {
              own = numbers.own;
              below = numbers.below;
              none = none;
              aims = λ t call is. (calls t call is).0;
              within = λ t call is. (calls t call is).1;
            };
            count = few;
          }

  -- a call means this host, or a socket number that nobody gave
  pub meant : (a : Aim) → Aims me a → (aim_of (tcp h) w.hosts a ≡ None) ⊎ (aim_of (tcp h) w.hosts a ≡ Some me)
  meant (ThatHost host) is = inr (ap (λ (x : Host). Some x) is)
  meant (ThatSocket n) is = by me own.none
    where
      first : (b c : Bool) → c ≡ false
          → ((if b then Some Zero else if c then Some One else None) ≡ None)
          ⊎ ((if b then Some Zero else if c then Some One else None) ≡ Some Zero)
      first true c is = inr refl
      first false true is = absurd cc
      first false false is = inl refl

      second : (b c : Bool) → b ≡ false
          → ((if b then Some Zero else if c then Some One else None) ≡ None)
          ⊎ ((if b then Some Zero else if c then Some One else None) ≡ Some One)
      second true c is = absurd cc
      second false true is = inr refl
      second false false is = inl refl

      by : (x : Host) → ((m : ℕ) → given (pick w.hosts (other x)).body m ≡ false)
          → (aim_of (tcp h) w.hosts (ThatSocket n) ≡ None) ⊎ (aim_of (tcp h) w.hosts (ThatSocket n) ≡ Some x)
      by Zero none = first (given w.hosts.zero.body n) (given w.hosts.one.body n) (none n)
      by One none = second (given w.hosts.zero.body n) (given w.hosts.one.body n) (none n)

  effect_own : (t : ℕ) (answer : Answer) (u : Turn tcp_shape) → turn_of t w.threads ≡ u
      → ((call : Call) → u ≡ Called call → (n : ℕ) → gives call answer ≡ Some n → lane n ≡ me)
      → GivesNext me (pick w.hosts me).body u answer
      → OwnStepped me w (effect_after (tcp h) moment w t answer u)
  effect_own t answer Idle is lanes next = turns w.threads calls_own
  effect_own t answer (Answered a) is lanes next = turns w.threads calls_own
  effect_own t answer (Called call) is lanes next = by (aim_of (tcp h) w.hosts (aim call)) (meant (aim call) (own.aims t call is))
    where
      threads : List (ℕ × Turn tcp_shape)
      threads = insert_entry nat_eq w.threads t (Answered answer)

      calls : OwnCalls me threads
      calls = turn_own h me w.threads t (Answered answer) calls_own (λ c none. absurd cc)

      by : (o : Option Host) → (o ≡ None) ⊎ (o ≡ Some me)
          → OwnStepped me w (record {
            hosts = call_after (tcp h) moment w.hosts (acts.Calls call answer) o;
            threads = threads;
            count = w.count;
          })
      by None at = turns threads calls
      by (Some host) (inl none) = absurd cc
      by (Some host) (inr at) =
          let same : host ≡ me = same_Some host me at in
          let body : HostTcp = after_call (profile_of h) (pick w.hosts host).body call answer in
          let numbers =
          call_numbers me (pick w.hosts me).body body (gives call answer)
          (subst (λ (x : Host). SocketsAfter (pick w.hosts x).body.sockets body.sockets (gives call answer)) same
          (call_sockets (profile_of h) (pick w.hosts host).body call answer)) next
          (lanes call refl) numbers_own in
          changed host (record (pick w.hosts host) { body = body }) threads w.count same numbers.0 numbers.1 calls

  pub own_step : (step : Step tcp_shape) → FitsItem (tcp h) me moment w (Do step) → IsOrderly me w step → OwnStepped me w (after (tcp h) moment w step)
  own_step (Begin line t call) fits within =
      turns (insert_entry nat_eq w.threads t (Called call))
      (turn_own h me w.threads t (Called call) calls_own
      (λ c is. let same = called_same call c is in
      (subst (λ (x : Call). Aims me (aim x)) same fits.1.1, subst (λ (x : Call). IsCallWithin x) same within)))
  own_step (Finish line t answer) fits orderly = turns (insert_entry nat_eq w.threads t Idle) (turn_own h me w.threads t Idle calls_own (λ c none. absurd cc))
  own_step (Effect t answer) fits next = effect_own t answer (turn_of t w.threads) refl fits.1.1 next
  own_step (At host d) fits orderly =
      let s : HostState tcp_shape = host_step_after (tcp h) host moment (suc w.count) (pick w.hosts (other host)).wire (pick w.hosts host) d in
      let same : s.body.sockets ≡ (pick w.hosts me).body.sockets =
      host_step_sockets h host moment (suc w.count) (pick w.hosts (other host)).wire (pick w.hosts host) d
      ∙ ap (λ (x : Host). (pick w.hosts x).body.sockets) fits.1 in
      changed host s w.threads _ fits.1 (same_numbers me (pick w.hosts me).body s.body same numbers_own)
      (let count = ap (λ (es : Sockets). length es) same in omega arith) calls_own

-- what is brought changes none of it
pub own_brought : (h : Header) (me : Host) (f : Flying tcp_shape) (w : World tcp_shape) → IsOwn me w → IsOwn me (bring (tcp h) (other me) f w)
own_brought h Zero f w own = record { own = own.own; below = own.below; none = own.none; aims = own.aims; within = own.within }
own_brought h One f w own = record { own = own.own; below = own.below; none = own.none; aims = own.aims; within = own.within }
