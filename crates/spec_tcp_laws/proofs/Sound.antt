-- Sockets and queues: each endpoint has at most one socket number, and who stands in a queue has none.
use Rattle.std.proofs.Common.{◌≡◌, ℕ, zero, suc, ◌⊎◌, Bool, true, false, cond, List, [], ◌∷◌, ◌++◌, length, map, Option}
use Rattle.std.proofs.Common.{Some, None, refl, ap, sym, subst, ◌∙◌, inl, inr, arith, nat_eq}
use Rattle.std.specs.Prelude.{if◌then◌else◌, ◌||◌, slice_get, is_some}
use Rattle.std.specs.Option.{option_map_or}
use Rattle.std.specs.Map.{lookup}
use Rattle.std.proofs.lemmas.Option.{none-some, same_Some}
use Rattle.indexmap.specs.IndexMap.{insert_entry}
use Rattle.case_forms.specs.declared.calls.State.{State}
use Rattle.streams.specs.Lists.{modify}
use Rattle.streams.proofs.Places.{modify_later, push_later, all_push}
use Rattle.spec_network.proofs.Entries.{lookup_insert}
use Rattle.spec_tcp.specs.declared.endpoint.Endpoint.{Endpoint}
use Rattle.spec_tcp.specs.declared.endpoint.Listener.{Listener}
use Rattle.spec_tcp.specs.declared.endpoint.Socket.{Socket}
use Rattle.spec_tcp.specs.declared.endpoint.SocketTarget.TheVariants.{ListenerAt, EndpointAt}
use Rattle.spec_tcp.specs.HostTcp.{HostTcp, given, queue_of, place_of, at_ports, with_endpoint, dead, with_socket}
use Rattle.case_forms.specs.States.{is_syn_sent, is_syn_received}
use Rattle.spec_tcp.specs.Calls.Accept.{accepted_from}
use Rattle.spec_tcp_laws.specs.Runs.{endpoint_place, owner}
use Rattle.spec_tcp_laws.proofs.Rules.{map_or_cases, number_same, true_false}

-- the state is before the own SYN is acknowledged
abbrev pub is_early : State → Bool
is_early state = is_syn_sent state || is_syn_received state

pub record Sound (b : HostTcp) : Type 0 where
  -- a socket number names an endpoint that is there, and is no listener's any more
  pub named : (n i : ℕ) → owner b n ≡ Some i → (e : Endpoint) × (slice_get b.endpoints i ≡ Some e) × (e.listener ≡ None)
  -- it alone names it
  pub alone : (m n i : ℕ) → owner b m ≡ Some i → owner b n ≡ Some i → m ≡ n
  -- who stands in a queue is there, is that listener's, and its SYN was acknowledged
  pub queued : (l k i : ℕ) → slice_get (queue_of b l) k ≡ Some i
      → (e : Endpoint) × (slice_get b.endpoints i ≡ Some e) × (e.listener ≡ Some l) × (is_early e.state ≡ false)
  -- it stands there once
  pub once : (l j k i : ℕ) → slice_get (queue_of b l) j ≡ Some i → slice_get (queue_of b l) k ≡ Some i → j ≡ k

-- what a host has after an act: it is sound, each socket number names what it named, and no other number was given than this
pub record Keeps (b c : HostTcp) (new : Option ℕ) : Type 0 where
  pub sound : Sound c
  pub stays : (n i : ℕ) → owner b n ≡ Some i → owner c n ≡ Some i
  pub given : (n : ℕ) → given c n ≡ true → (given b n ≡ true) ⊎ (new ≡ Some n)

-- 1. endpoints that stay

-- an endpoint stays its listener's, and its state doesn't go back
pub record Stays (e f : Endpoint) : Type 0 where
  pub listener : f.listener ≡ e.listener
  pub late : is_early e.state ≡ false → is_early f.state ≡ false

pub stays_not : (e : Endpoint) → Stays e e
stays_not e = record { listener = refl; late = λ h. h }

pub stays_either : (b : Bool) (e x y : Endpoint) → Stays e x → Stays e y → Stays e (if b then x else y)
stays_either true e x y p q = p
stays_either false e x y p q = q

abbrev pub AllStay : List Endpoint → List Endpoint → Type 0
AllStay es fs = (i : ℕ) (e : Endpoint) → slice_get es i ≡ Some e → (f : Endpoint) × (slice_get fs i ≡ Some f) × Stays e f

pub stay_modify : (f : Endpoint → Endpoint) (es : List Endpoint) (i : ℕ)
    → ((e : Endpoint) → slice_get es i ≡ Some e → Stays e (f e)) → AllStay es (modify es i f)
stay_modify f es i new = modify_later Stays stays_not f es i new

pub stay_push : (es : List Endpoint) (e : Endpoint) → AllStay es (es ++ e ∷ [])
stay_push es e = push_later Stays stays_not es (e ∷ [])

pub stay_map : (f : Endpoint → Endpoint) (es : List Endpoint) → ((e : Endpoint) → Stays e (f e)) → AllStay es (map f es)
stay_map f [] h i e x = absurd (none-some e x)
stay_map f (a ∷ es) h zero e x = (f a, refl, subst (λ (z : Endpoint). Stays z (f a)) (same_Some a e x) (h a))
stay_map f (a ∷ es) h (suc i) e x = stay_map f es h i e x

-- the endpoints stay, and nothing else changes but what no socket number and no queue shows
pub keeps_stay : (b c : HostTcp) → Sound b → AllStay b.endpoints c.endpoints → ((n : ℕ) → owner c n ≡ owner b n)
    → ((l : ℕ) → queue_of c l ≡ queue_of b l) → Sound c
keeps_stay b c g stay owners queues = record {
  named = λ n i e.
      let x = g.named n i (sym (owners n) ∙ e) in
      let y = stay i x.0 x.1 in
      (y.0, y.1, y.2.listener ∙ x.2);
  alone = λ m n i e f. g.alone m n i (sym (owners m) ∙ e) (sym (owners n) ∙ f);
  queued = λ l k i e.
      let x = g.queued l k i (subst (λ q. slice_get q k ≡ Some i) (queues l) e) in
      let y = stay i x.0 x.1 in
      (y.0, y.1, y.2.listener ∙ x.2, y.2.late x.3);
  once = λ l j k i e f. g.once l j k i (subst (λ q. slice_get q j ≡ Some i) (queues l) e) (subst (λ q. slice_get q k ≡ Some i) (queues l) f);
}

pub keeps_endpoints : (b : HostTcp) (fs : List Endpoint) → Sound b → AllStay b.endpoints fs → Keeps b (record b { endpoints = fs }) None
keeps_endpoints b fs g stay =
    record {
      sound = keeps_stay b (record b { endpoints = fs }) g stay (λ n. refl) (λ l. refl);
      stays = λ n i e. e;
      given = λ n e. inl e;
    }

pub keeps_not : (b : HostTcp) → Sound b → Keeps b b None
keeps_not b g = record { sound = g; stays = λ n i e. e; given = λ n e. inl e }

pub keeps_at_ports : (b : HostTcp) (lport rport : ℕ) (f : Endpoint → Endpoint) → Sound b
    → ((e : Endpoint) → Stays e (f e)) → Keeps b (at_ports b lport rport f) None
keeps_at_ports b lport rport f g stay =
    map_or_cases (λ (c : HostTcp). Keeps b c None) (place_of b lport rport) b (λ i. with_endpoint b i f)
    (λ e. keeps_not b g)
    (λ i e. keeps_endpoints b (modify b.endpoints i f) g (stay_modify f b.endpoints i (λ x at. stay x)))

-- 2. socket numbers

-- what a number names after one was given
pub owner_insert : (b : HostTcp) (n : ℕ) (s : Socket) (m : ℕ)
    → option_map_or (λ x. endpoint_place x.target) (lookup (nat_eq m) (insert_entry nat_eq b.sockets n s)) None
    ≡ (if nat_eq m n then endpoint_place s.target else owner b m)
owner_insert b n s m = ap (λ (o : Option Socket). option_map_or (λ x. endpoint_place x.target) o None) (lookup_insert m n s b.sockets) ∙ go (nat_eq m n)
  where
    go : (c : Bool)
        → option_map_or (λ x. endpoint_place x.target) (cond c (Some s) (lookup (nat_eq m) b.sockets)) None
        ≡ (if c then endpoint_place s.target else owner b m)
    go true = refl
    go false = refl

pub given_insert : (sockets : List (ℕ × Socket)) (n : ℕ) (s : Socket) (m : ℕ)
    → is_some (lookup (nat_eq m) (insert_entry nat_eq sockets n s)) ≡ true
    → (is_some (lookup (nat_eq m) sockets) ≡ true) ⊎ (Some n ≡ Some m)
given_insert sockets n s m e = go (nat_eq m n) refl (sym (ap is_some (lookup_insert m n s sockets)) ∙ e)
  where
    go : (c : Bool) → nat_eq m n ≡ c → is_some (cond c (Some s) (lookup (nat_eq m) sockets)) ≡ true
        → (is_some (lookup (nat_eq m) sockets) ≡ true) ⊎ (Some n ≡ Some m)
    go true is e = inr (ap (λ k. Some k) (sym (number_same m n is)))
    go false is e = inl e

pub owner_given : (b : HostTcp) (n i : ℕ) → owner b n ≡ Some i → given b n ≡ true
owner_given b n i e = go (lookup (nat_eq n) b.sockets) e
  where
    go : (o : Option Socket) → option_map_or (λ s. endpoint_place s.target) o None ≡ Some i → is_some o ≡ true
    go None e = absurd (none-some i e)
    go (Some s) e = refl

-- a number that was not given names nothing
pub not_owner : (b : HostTcp) (n i : ℕ) → given b n ≡ false → owner b n ≡ Some i → ⊥
not_owner b n i h e = true_false (owner_given b n i e) h

-- a number that was given names what it named
stays_given : (b : HostTcp) (n : ℕ) (s : Socket) (m i : ℕ) → given b n ≡ false → owner b m ≡ Some i
    → (if nat_eq m n then endpoint_place s.target else owner b m) ≡ Some i
stays_given b n s m i new e = go (nat_eq m n) refl
  where
    go : (c : Bool) → nat_eq m n ≡ c → (if c then endpoint_place s.target else owner b m) ≡ Some i
    go true is = absurd (not_owner b n i new (subst (λ k. owner b k ≡ Some i) (number_same m n is) e))
    go false is = e

-- closing a number leaves what it names
pub dead_owner : (b : HostTcp) (n m : ℕ) → option_map_or (λ x. endpoint_place x.target) (lookup (nat_eq m) (dead b.sockets n)) None ≡ owner b m
dead_owner b n m = go (lookup (nat_eq n) b.sockets) refl
  where
    by : (s : Socket) (c : Bool) → lookup (nat_eq n) b.sockets ≡ Some s → nat_eq m n ≡ c → (if c then endpoint_place s.target else owner b m) ≡ owner b m
    by s true at is =
        sym (ap (λ (o : Option Socket). option_map_or (λ x. endpoint_place x.target) o None)
        (subst (λ k. lookup (nat_eq k) b.sockets ≡ Some s) (sym (number_same m n is)) at))
    by s false at is = refl

    go : (o : Option Socket) → lookup (nat_eq n) b.sockets ≡ o
        → option_map_or (λ x. endpoint_place x.target)
        (lookup (nat_eq m) (option_map_or
        (λ s. insert_entry nat_eq b.sockets n (record s { live = false })) o b.sockets)) None ≡ owner b m
    go None at = refl
    go (Some s) at = owner_insert b n (record s { live = false }) m ∙ by s (nat_eq m n) at refl

pub dead_given : (b : HostTcp) (n m : ℕ) → is_some (lookup (nat_eq m) (dead b.sockets n)) ≡ true → given b m ≡ true
dead_given b n m = go (lookup (nat_eq n) b.sockets) refl
  where
    by : (s : Socket) → lookup (nat_eq n) b.sockets ≡ Some s → (given b m ≡ true) ⊎ (Some n ≡ Some m) → given b m ≡ true
    by s at (inl old) = old
    by s at (inr one) = subst (λ k. given b k ≡ true) (same_Some n m one) (ap is_some at)

    go : (o : Option Socket) → lookup (nat_eq n) b.sockets ≡ o
        → is_some (lookup (nat_eq m) (option_map_or
        (λ s. insert_entry nat_eq b.sockets n (record s { live = false })) o b.sockets)) ≡ true → given b m ≡ true
    go None at e = e
    go (Some s) at e = by s at (given_insert b.sockets n (record s { live = false }) m e)

-- a number is given to a listener
pub keeps_listener : (b : HostTcp) (n l : ℕ) → Sound b → given b n ≡ false → Keeps b (with_socket b n (ListenerAt l)) (Some n)
keeps_listener b n l g new = record {
  sound =
      keeps_stay b (with_socket b n (ListenerAt l)) g (λ i e at. (e, at, stays_not e))
      (λ m. owner_insert b n (record { target = ListenerAt l; live = true }) m ∙ by m (nat_eq m n) refl) (λ k. refl);
  stays = λ m i e. owner_insert b n (record { target = ListenerAt l; live = true }) m
      ∙ stays_given b n (record { target = ListenerAt l; live = true }) m i new e;
  given = λ m e. given_insert b.sockets n (record { target = ListenerAt l; live = true }) m e;
}
  where
    none : (o : Option ℕ) → ((i : ℕ) → o ≡ Some i → ⊥) → None ≡ o
    none None = λ h. refl
    none (Some i) = λ h. absurd (h i refl)

    by : (m : ℕ) (c : Bool) → nat_eq m n ≡ c → (if c then None else owner b m) ≡ owner b m
    by m true is = none (owner b m) (λ i e. not_owner b n i new (subst (λ k. owner b k ≡ Some i) (number_same m n is) e))
    by m false is = refl

-- a number is given to an endpoint that has none
pub keeps_socket : (b : HostTcp) (n j : ℕ) (x : Endpoint) → Sound b → given b n ≡ false
    → slice_get b.endpoints j ≡ Some x → x.listener ≡ None → ((m : ℕ) → owner b m ≡ Some j → ⊥)
    → Keeps b (with_socket b n (EndpointAt j)) (Some n)
keeps_socket b n j x g new at free bare = record {
  sound = record {
    named = λ m i e. named m i (nat_eq m n) refl (sym (owner_insert b n s m) ∙ e);
    alone = λ m k i e f. alone m k i (nat_eq m n) (nat_eq k n) refl refl (sym (owner_insert b n s m) ∙ e) (sym (owner_insert b n s k) ∙ f);
    queued = g.queued;
    once = g.once;
  };
  stays = λ m i e. owner_insert b n s m ∙ stays_given b n s m i new e;
  given = λ m e. given_insert b.sockets n s m e;
}
  where
    s : Socket
    s = record { target = EndpointAt j; live = true }

    named : (m i : ℕ) (c : Bool) → nat_eq m n ≡ c → (if c then Some j else owner b m) ≡ Some i
        → (e : Endpoint) × (slice_get b.endpoints i ≡ Some e) × (e.listener ≡ None)
    named m i true is e = (x, subst (λ k. slice_get b.endpoints k ≡ Some x) (same_Some j i e) at, free)
    named m i false is e = g.named m i e

    alone : (m k i : ℕ) (c d : Bool) → nat_eq m n ≡ c → nat_eq k n ≡ d → (if c then Some j else owner b m) ≡ Some i
        → (if d then Some j else owner b k) ≡ Some i → m ≡ k
    alone m k i true true p q e f = number_same m n p ∙ sym (number_same k n q)
    alone m k i true false p q e f = absurd (bare k (f ∙ ap (λ y. Some y) (sym (same_Some j i e))))
    alone m k i false true p q e f = absurd (bare m (e ∙ ap (λ y. Some y) (sym (same_Some j i f))))
    alone m k i false false p q e f = g.alone m k i e f

-- 3. queues

-- the queue at a place
abbrev queue_at : List Listener → ℕ → List ℕ
queue_at ls l = option_map_or (λ (x : Listener). x.queue) (slice_get ls l) []

pub queue_push : (ls : List Listener) (x : Listener) (l : ℕ) → x.queue ≡ [] → queue_at (ls ++ x ∷ []) l ≡ queue_at ls l
queue_push [] x zero e = e
queue_push [] x (suc l) e = refl
queue_push (y ∷ ls) x zero e = refl
queue_push (y ∷ ls) x (suc l) e = queue_push ls x l e

pub queue_modify : (f : Listener → Listener) → ((x : Listener) → (f x).queue ≡ x.queue) → (ls : List Listener) (l k : ℕ)
    → queue_at (modify ls l f) k ≡ queue_at ls k
queue_modify f same [] l k = refl
queue_modify f same (x ∷ ls) zero zero = same x
queue_modify f same (x ∷ ls) zero (suc k) = refl
queue_modify f same (x ∷ ls) (suc l) zero = refl
queue_modify f same (x ∷ ls) (suc l) (suc k) = queue_modify f same ls l k

-- who stands in a queue after one joined
push_cases : (xs : List ℕ) (y j c : ℕ) → slice_get (xs ++ y ∷ []) j ≡ Some c → (slice_get xs j ≡ Some c) ⊎ ((j ≡ length xs) × (c ≡ y))
push_cases xs y = all_push (λ j c. (slice_get xs j ≡ Some c) ⊎ ((j ≡ length xs) × (c ≡ y))) xs y (λ j c e. inl e) (inr (refl, refl))

queue_joined : (ls : List Listener) (l i k j c : ℕ)
    → slice_get (queue_at (modify ls l (λ x. record x { queue = x.queue ++ i ∷ [] })) k) j ≡ Some c
    → (slice_get (queue_at ls k) j ≡ Some c) ⊎ ((k ≡ l) × (j ≡ length (queue_at ls k)) × (c ≡ i))
queue_joined [] l i k j c e = inl e
queue_joined (x ∷ ls) zero i zero j c e = go (push_cases x.queue i j c e)
  where
    go : (slice_get x.queue j ≡ Some c) ⊎ ((j ≡ length x.queue) × (c ≡ i)) → (slice_get x.queue j ≡ Some c) ⊎ ((zero ≡ zero) × (j ≡ length x.queue) × (c ≡ i))
    go (inl e) = inl e
    go (inr e) = inr (refl, e.0, e.1)
queue_joined (x ∷ ls) zero i (suc k) j c e = inl e
queue_joined (x ∷ ls) (suc l) i zero j c e = inl e
queue_joined (x ∷ ls) (suc l) i (suc k) j c e = go (queue_joined ls l i k j c e)
  where
    go : (slice_get (queue_at ls k) j ≡ Some c) ⊎ ((k ≡ l) × (j ≡ length (queue_at ls k)) × (c ≡ i))
        → (slice_get (queue_at ls k) j ≡ Some c) ⊎ ((suc k ≡ suc l) × (j ≡ length (queue_at ls k)) × (c ≡ i))
    go (inl e) = inl e
    go (inr e) = inr (ap (λ n. suc n) e.0, e.1, e.2)

-- a child joins its listener's queue
pub sound_joined : (b : HostTcp) (i l : ℕ) (x : Endpoint) → Sound b → slice_get b.endpoints i ≡ Some x
    → x.listener ≡ Some l → is_early x.state ≡ false → ((k : ℕ) → slice_get (queue_of b l) k ≡ Some i → ⊥)
    → Sound (record b { listeners = modify b.listeners l (λ x. record x { queue = x.queue ++ i ∷ [] }) })
sound_joined b i l x g at his late new = record {
  named = g.named;
  alone = g.alone;
  queued = λ m k j e. queued m k j (queue_joined b.listeners l i m k j e);
  once = λ m j k c e f. once m j k c (queue_joined b.listeners l i m j c e) (queue_joined b.listeners l i m k c f);
}
  where
    queued : (m k j : ℕ)
        → (slice_get (queue_at b.listeners m) k ≡ Some j) ⊎ ((m ≡ l) × (k ≡ length (queue_at b.listeners m)) × (j ≡ i))
        → (e : Endpoint) × (slice_get b.endpoints j ≡ Some e) × (e.listener ≡ Some m) × (is_early e.state ≡ false)
    queued m k j (inl e) = g.queued m k j e
    queued m k j (inr e) = (x, subst (λ y. slice_get b.endpoints y ≡ Some x) (sym e.2) at, his ∙ ap (λ y. Some y) (sym e.0), late)

    not_there : (m k c : ℕ) → slice_get (queue_at b.listeners m) k ≡ Some c → m ≡ l → c ≡ i → ⊥
    not_there m k c e p q = new k (subst (λ y. slice_get (queue_at b.listeners y) k ≡ Some i) p (e ∙ ap (λ y. Some y) q))

    once : (m j k c : ℕ) → (slice_get (queue_at b.listeners m) j ≡ Some c) ⊎ ((m ≡ l) × (j ≡ length (queue_at b.listeners m)) × (c ≡ i))
        → (slice_get (queue_at b.listeners m) k ≡ Some c) ⊎ ((m ≡ l) × (k ≡ length (queue_at b.listeners m)) × (c ≡ i)) → j ≡ k
    once m j k c (inl e) (inl f) = g.once m j k c e f
    once m j k c (inl e) (inr f) = absurd (not_there m j c e f.0 f.2)
    once m j k c (inr e) (inl f) = absurd (not_there m k c f e.0 e.2)
    once m j k c (inr e) (inr f) = e.1 ∙ sym f.1

-- who stands in a queue after the front left
queue_popped : (ls : List Listener) (l child : ℕ) (rest : List ℕ) → queue_at ls l ≡ child ∷ rest → (k j c : ℕ)
    → slice_get (queue_at (modify ls l (λ x. record x { queue = rest })) k) j ≡ Some c
    → ((k ≡ l → ⊥) × (slice_get (queue_at ls k) j ≡ Some c)) ⊎ ((k ≡ l) × (slice_get (queue_at ls k) (suc j) ≡ Some c))
queue_popped [] l child rest q k j c e = absurd cc
queue_popped (x ∷ ls) zero child rest q zero j c e = inr (refl, subst (λ (y : List ℕ). slice_get y (suc j) ≡ Some c) (sym q) e)
queue_popped (x ∷ ls) zero child rest q (suc k) j c e = inl ((λ p. omega arith), e)
queue_popped (x ∷ ls) (suc l) child rest q zero j c e = inl ((λ p. omega arith), e)
queue_popped (x ∷ ls) (suc l) child rest q (suc k) j c e = go (queue_popped ls l child rest q k j c e)
  where
    go : ((k ≡ l → ⊥) × (slice_get (queue_at ls k) j ≡ Some c))
        ⊎ ((k ≡ l) × (slice_get (queue_at ls k) (suc j) ≡ Some c))
        → ((suc k ≡ suc l → ⊥) × (slice_get (queue_at ls k) j ≡ Some c))
        ⊎ ((suc k ≡ suc l) × (slice_get (queue_at ls k) (suc j) ≡ Some c))
    go (inl e) = inl ((λ p. e.0 (omega arith)), e.1)
    go (inr e) = inr (ap (λ n. suc n) e.0, e.1)

modify_other : {X : Type 0} (f : X → X) (xs : List X) (i j : ℕ) → (j ≡ i → ⊥) → slice_get (modify xs i f) j ≡ slice_get xs j
modify_other f [] i j n = refl
modify_other f (a ∷ xs) zero zero n = absurd (n refl)
modify_other f (a ∷ xs) zero (suc j) n = refl
modify_other f (a ∷ xs) (suc i) zero n = refl
modify_other f (a ∷ xs) (suc i) (suc j) n = modify_other f xs i j (λ e. n (ap (λ k. suc k) e))

pub modify_here : {X : Type 0} (f : X → X) (xs : List X) (i : ℕ) (x : X) → slice_get xs i ≡ Some x → slice_get (modify xs i f) i ≡ Some (f x)
modify_here f [] i x e = absurd (none-some x e)
modify_here {X} f (a ∷ xs) zero x e = ap (λ (y : X). Some (f y)) (same_Some a x e)
modify_here f (a ∷ xs) (suc i) x e = modify_here f xs i x e

-- the front of a queue is accepted
pub keeps_accepted : (b : HostTcp) (l n child : ℕ) (rest : List ℕ) → Sound b → given b n ≡ false
    → queue_of b l ≡ child ∷ rest → Keeps b (accepted_from b l n (child ∷ rest)) (Some n)
keeps_accepted b l n child rest g new q = record { sound = last.sound; stays = last.stays; given = last.given }
  where
    his : (e : Endpoint) × (slice_get b.endpoints child ≡ Some e) × (e.listener ≡ Some l) × (is_early e.state ≡ false)
    his = g.queued l 0 child (subst (λ (y : List ℕ). slice_get y 0 ≡ Some child) (sym q) refl)

    -- the child left its queue and is no listener's any more
    free : HostTcp
    free = record b {
      endpoints = modify b.endpoints child (λ e. record e { listener = None });
      listeners = modify b.listeners l (λ x. record x { queue = rest });
    }

    popped : (m k i : ℕ) → slice_get (queue_of free m) k ≡ Some i
        → ((m ≡ l → ⊥) × (slice_get (queue_of b m) k ≡ Some i))
        ⊎ ((m ≡ l) × (slice_get (queue_of b m) (suc k) ≡ Some i))
    popped m k i e = queue_popped b.listeners l child rest q m k i e

    -- who stands in a queue of another listener, or behind, is another
    apart : (m k i : ℕ) → ((m ≡ l → ⊥) × (slice_get (queue_of b m) k ≡ Some i)) ⊎ ((m ≡ l) × (slice_get (queue_of b m) (suc k) ≡ Some i)) → i ≡ child → ⊥
    apart m k i (inl e) = λ p.
        let x = g.queued m k i e.1 in
        let one : x.0 ≡ his.0 = same_Some x.0 his.0 (sym x.1 ∙ subst (λ y. slice_get b.endpoints y ≡ Some his.0) (sym p) his.1) in
        e.0 (same_Some m l (sym x.2 ∙ (ap (λ (y : Endpoint). y.listener) one ∙ his.2)))
    apart m k i (inr e) = λ p.
        let front : slice_get (queue_of b m) 0 ≡ Some i =
        subst (λ y. slice_get (queue_of b y) 0 ≡ Some i) (sym e.0)
        (subst (λ (y : List ℕ). slice_get y 0 ≡ Some i) (sym q) (ap (λ y. Some y) (sym p))) in
        let place = g.once m (suc k) 0 i e.1 front in
        omega arith

    queued : (m k i : ℕ)
        → ((m ≡ l → ⊥) × (slice_get (queue_of b m) k ≡ Some i))
        ⊎ ((m ≡ l) × (slice_get (queue_of b m) (suc k) ≡ Some i))
        → (e : Endpoint) × (slice_get b.endpoints i ≡ Some e) × (e.listener ≡ Some m) × (is_early e.state ≡ false)
    queued m k i (inl e) = g.queued m k i e.1
    queued m k i (inr e) = g.queued m (suc k) i e.1

    once : (m j k i : ℕ) → ((m ≡ l → ⊥) × (slice_get (queue_of b m) j ≡ Some i)) ⊎ ((m ≡ l) × (slice_get (queue_of b m) (suc j) ≡ Some i))
        → ((m ≡ l → ⊥) × (slice_get (queue_of b m) k ≡ Some i)) ⊎ ((m ≡ l) × (slice_get (queue_of b m) (suc k) ≡ Some i)) → j ≡ k
    once m j k i (inl e) (inl f) = g.once m j k i e.1 f.1
    once m j k i (inl e) (inr f) = absurd (e.0 f.0)
    once m j k i (inr e) (inl f) = absurd (f.0 e.0)
    once m j k i (inr e) (inr f) = let same = g.once m (suc j) (suc k) i e.1 f.1 in omega arith

    bare : (m : ℕ) → owner b m ≡ Some child → ⊥
    bare m e =
        let x = g.named m child e in
        let one : x.0 ≡ his.0 = same_Some x.0 his.0 (sym x.1 ∙ his.1) in
        none-some l (sym x.2 ∙ (ap (λ (y : Endpoint). y.listener) one ∙ his.2))

    sound : Sound free
    sound = record {
      named = λ m i e.
          let x = g.named m i e in
          let y =
          modify_later (λ (x y : Endpoint). x.listener ≡ None → y.listener ≡ None) (λ x h. h)
          (λ e. record e { listener = None }) b.endpoints child (λ x at h. refl) i x.0 x.1 in
          (y.0, y.1, y.2 x.2);
      alone = g.alone;
      queued = λ m k i e.
          let h = popped m k i e in
          let x = queued m k i h in
          (x.0, modify_other (λ (e : Endpoint). record e { listener = None }) b.endpoints child i (apart m k i h) ∙ x.1, x.2, x.3);
      once = λ m j k i e f. once m j k i (popped m j i e) (popped m k i f);
    }

    there : (y : Endpoint) × (slice_get free.endpoints child ≡ Some y) × (y.listener ≡ None)
    there = (record his.0 { listener = None }, modify_here (λ (e : Endpoint). record e { listener = None }) b.endpoints child his.0 his.1, refl)

    last : Keeps free (with_socket free n (EndpointAt child)) (Some n)
    last = keeps_socket free n child there.0 sound new there.1 there.2 bare
