-- What is kept of a live socket after a step: since when no call on it has to wait.
use Rattle.std.proofs.Common.{◌≡◌, ℕ, ◌⊎◌, inl, inr, Bool, true, false, cond, List, Option, Some, None, refl, ap, sym, subst, ◌∙◌, nat_eq, arith}
use Rattle.std.specs.Map.{lookup}
use Rattle.std.proofs.lemmas.Bool.Decides.{nat_tests}
use Rattle.indexmap.specs.IndexMap.{insert_entry}
use Rattle.case_forms.specs.declared.calls.Host.{Host}
use Rattle.case_forms.specs.declared.calls.Host.TheVariants.{Zero, One}
use Rattle.spec_network.proofs.Entries.{lookup_insert}
use Rattle.spec_network.specs.Hosts.{World}
use Rattle.spec_network.specs.Tables.{on, pick, waiting}
use Rattle.spec_tcp.specs.HostTcp.{HostTcp, socket_target}
use Rattle.spec_tcp.specs.Machine.{tcp_shape}
use Rattle.spec_tcp.specs.declared.endpoint.SocketTarget.{SocketTarget}
use Rattle.spec_tcp.specs.declared.endpoint.SocketTarget.TheVariants.{ListenerAt, EndpointAt}
use Rattle.spec_duties.specs.Answering.{Waits, answer_seen, call_noted, listener_seen, may_wait, not_ready, ready_after, ready_at, ready_since}
use Rattle.spec_duties.specs.Answering.{renewed, seen_again, socket_given, socket_noted, touched_seen, waitable, waits_after, with_ready}
use Rattle.spec_duties.specs.declared.answering.Awaited.{Awaited}
use Rattle.spec_duties.specs.declared.answering.Awaited.TheVariants as awaits
use Rattle.spec_duties.specs.declared.answering.CallChange.{CallChange}
use Rattle.spec_duties.specs.declared.answering.CallChange.TheVariants as call_change
use Rattle.spec_duties.specs.declared.answering.Ready.{Ready}
use Rattle.spec_duties.specs.declared.answering.SocketChange.{SocketChange}
use Rattle.spec_duties.specs.declared.answering.SocketChange.TheVariants as socket_change
use Rattle.spec_duties.specs.declared.observations.Observation.{Observation}
use Rattle.spec_duties.specs.declared.observations.TouchedEndpoint.{TouchedEndpoint}
use Rattle.kept_calls.proofs.Sockets.{Sees, at_answer, at_close, at_endpoint, at_listener, at_shut}

-- ---- tables

waiting_insert : (q n : ℕ) → (q ≡ n) ⊎ ((v : Option Ready) (es : List (ℕ × Option Ready)) → waiting q (insert_entry nat_eq es n v) ≡ waiting q es)
waiting_insert q n = by (nat_eq q n) refl
  where
    by : (c : Bool) → nat_eq q n ≡ c → (q ≡ n) ⊎ ((v : Option Ready) (es : List (ℕ × Option Ready)) → waiting q (insert_entry nat_eq es n v) ≡ waiting q es)
    by true same = inl (grind (arith, nat_tests, same))
    by false other = inr (λ v es. ap (λ (o : Option (Option Ready)). on o None (λ e. e)) (lookup_insert q n v es
        ∙ ap (λ (c : Bool). cond c (Some v) (lookup (nat_eq q) es)) other))

pub waiting_new : {E : Type 0} (n : ℕ) (v : Option E) (es : List (ℕ × Option E)) → waiting n (insert_entry nat_eq es n v) ≡ v
waiting_new {E} n v es =
    let self : nat_eq n n ≡ true = grind (arith, nat_tests) in
    ap (λ (o : Option (Option E)). on o None (λ e. e)) (lookup_insert n n v es ∙ ap (λ (c : Bool). cond c (Some v) (lookup (nat_eq n) es)) self)

ready_here : (a : Waits) (host : Host) (target : SocketTarget) (r : Option Ready) → ready_at (with_ready a host target r) host target ≡ r
ready_here a Zero (EndpointAt i) r = waiting_new i r a.endpoints.zero
ready_here a One (EndpointAt i) r = waiting_new i r a.endpoints.one
ready_here a Zero (ListenerAt l) r = waiting_new l r a.listeners.zero
ready_here a One (ListenerAt l) r = waiting_new l r a.listeners.one

-- one is written: this one, or it stays
abbrev Written : (g host : Host) (t target : SocketTarget) → Type 0
Written g host t target =
    ((g ≡ host) × (t ≡ target))
    ⊎ ((a : Waits) (r : Option Ready) → ready_at (with_ready a g t r) host target ≡ ready_at a host target)

written : (g host : Host) (t target : SocketTarget) → Written g host t target
written Zero One (EndpointAt i) (EndpointAt j) = inr (λ a r. refl)
written Zero One (EndpointAt i) (ListenerAt j) = inr (λ a r. refl)
written Zero One (ListenerAt i) (EndpointAt j) = inr (λ a r. refl)
written Zero One (ListenerAt i) (ListenerAt j) = inr (λ a r. refl)
written One Zero (EndpointAt i) (EndpointAt j) = inr (λ a r. refl)
written One Zero (EndpointAt i) (ListenerAt j) = inr (λ a r. refl)
written One Zero (ListenerAt i) (EndpointAt j) = inr (λ a r. refl)
written One Zero (ListenerAt i) (ListenerAt j) = inr (λ a r. refl)
written Zero Zero (EndpointAt i) (ListenerAt j) = inr (λ a r. refl)
written Zero Zero (ListenerAt i) (EndpointAt j) = inr (λ a r. refl)
written One One (EndpointAt i) (ListenerAt j) = inr (λ a r. refl)
written One One (ListenerAt i) (EndpointAt j) = inr (λ a r. refl)
written Zero Zero (EndpointAt i) (EndpointAt j) = by (waiting_insert j i)
  where
    by : (j ≡ i) ⊎ ((v : Option Ready) (es : List (ℕ × Option Ready)) → waiting j (insert_entry nat_eq es i v) ≡ waiting j es)
        → Written Zero Zero (EndpointAt i) (EndpointAt j)
    by (inl same) = inl (refl, ap (λ (n : ℕ). EndpointAt n) (sym same))
    by (inr stays) = inr (λ a r. stays r a.endpoints.zero)
written One One (EndpointAt i) (EndpointAt j) = by (waiting_insert j i)
  where
    by : (j ≡ i) ⊎ ((v : Option Ready) (es : List (ℕ × Option Ready)) → waiting j (insert_entry nat_eq es i v) ≡ waiting j es)
        → Written One One (EndpointAt i) (EndpointAt j)
    by (inl same) = inl (refl, ap (λ (n : ℕ). EndpointAt n) (sym same))
    by (inr stays) = inr (λ a r. stays r a.endpoints.one)
written Zero Zero (ListenerAt i) (ListenerAt j) = by (waiting_insert j i)
  where
    by : (j ≡ i) ⊎ ((v : Option Ready) (es : List (ℕ × Option Ready)) → waiting j (insert_entry nat_eq es i v) ≡ waiting j es)
        → Written Zero Zero (ListenerAt i) (ListenerAt j)
    by (inl same) = inl (refl, ap (λ (n : ℕ). ListenerAt n) (sym same))
    by (inr stays) = inr (λ a r. stays r a.listeners.zero)
written One One (ListenerAt i) (ListenerAt j) = by (waiting_insert j i)
  where
    by : (j ≡ i) ⊎ ((v : Option Ready) (es : List (ℕ × Option Ready)) → waiting j (insert_entry nat_eq es i v) ≡ waiting j es)
        → Written One One (ListenerAt i) (ListenerAt j)
    by (inl same) = inl (refl, ap (λ (n : ℕ). ListenerAt n) (sym same))
    by (inr stays) = inr (λ a r. stays r a.listeners.one)

renewed_since : (c : HostTcp) (target : SocketTarget) (moment : ℕ) (r : Ready) (awaited : Awaited)
    → ready_since (renewed (waitable c target) moment r) awaited ≡ ready_after (may_wait c target awaited) moment (ready_since r awaited)
renewed_since c target moment r awaits.Bytes = refl
renewed_since c target moment r awaits.Connection = refl
renewed_since c target moment r awaits.Child = refl

not_since : (awaited : Awaited) → ready_since not_ready awaited ≡ None
not_since awaits.Bytes = refl
not_since awaits.Connection = refl
not_since awaits.Child = refl

-- ---- the entry of a target

-- what is kept of the target, and what holds of the moment that it has
pub record Held (host : Host) (target : SocketTarget) (awaited : Awaited) (a : Waits) (Q : Option ℕ → Type 0) : Type 0 where
  pub ready : Ready
  pub is : ready_at a host target ≡ Some ready
  pub holds : Q (ready_since ready awaited)

-- after a step to this world at this moment

module _ (w : World tcp_shape) (moment : ℕ) (host : Host) (target : SocketTarget) (awaited : Awaited) where
  abbrev pub may : Bool
  may = may_wait (pick w.hosts host).body target awaited

  abbrev pub Entry : Waits → (Q : Option ℕ → Type 0) → Type 0
  Entry a Q = Held host target awaited a Q

  -- once duties look at it
  abbrev pub Renews : (Q R : Option ℕ → Type 0) → Type 0
  Renews Q R = (o : Option ℕ) → Q o → R (ready_after may moment o)

  noted_entry : (a : Waits) (call : CallChange) → ready_at (call_noted moment call a) host target ≡ ready_at a host target
  noted_entry a call = by target
    where
      by : (t : SocketTarget) → ready_at (call_noted moment call a) host t ≡ ready_at a host t
      by (EndpointAt i) = refl
      by (ListenerAt l) = refl

  again_here : (Q R : Option ℕ → Type 0) → Renews Q R → (a : Waits) → Entry a Q → Entry (seen_again w moment host target a) R
  again_here Q R renews a e = record {
    ready = r;
    is =
        ap (λ (o : Option Ready). ready_at (on o a (λ r. with_ready a host target
        (Some (renewed (waitable (pick w.hosts host).body target) moment r)))) host target)
        e.is
        ∙ ready_here a host target (Some r);
    holds = subst R (sym (renewed_since (pick w.hosts host).body target moment e.ready awaited)) (renews (ready_since e.ready awaited) e.holds);
  }
    where
      r : Ready
      r = renewed (waitable (pick w.hosts host).body target) moment e.ready

  again_at : (Q R : Option ℕ → Type 0) → Renews Q R → (g : Host) (t : SocketTarget) → g ≡ host → t ≡ target → (a : Waits) → Entry a Q
      → Entry (seen_again w moment g t a) R
  again_at Q R renews g t of same a e =
      subst (λ (x : Host). Entry (seen_again w moment x t a) R) (sym of)
      (subst (λ (y : SocketTarget). Entry (seen_again w moment host y a) R) (sym same) (again_here Q R renews a e))

  again_keeps : (Q : Option ℕ → Type 0) → Renews Q Q → (g : Host) (t : SocketTarget) (a : Waits) → Entry a Q → Entry (seen_again w moment g t a) Q
  again_keeps Q renews g t a e = by (written g host t target)
    where
      other : (o : Option Ready) → ((r : Option Ready) → ready_at (with_ready a g t r) host target ≡ ready_at a host target)
          → Entry (on o a (λ r. with_ready a g t (Some (renewed (waitable (pick w.hosts g).body t) moment r)))) Q
      other None stays = e
      other (Some r) stays = record { ready = e.ready; is = stays _ ∙ e.is; holds = e.holds }

      by : Written g host t target → Entry (seen_again w moment g t a) Q
      by (inl same) = again_at Q Q renews g t same.0 same.1 a e
      by (inr stays) = other (ready_at a g t) (stays a)

  listener_keeps : (Q : Option ℕ → Type 0) → Renews Q Q → (g : Host) (o : Option ℕ) (a : Waits) → Entry a Q → Entry (listener_seen w moment g o a) Q
  listener_keeps Q renews g None a e = e
  listener_keeps Q renews g (Some l) a e = again_keeps Q renews g (ListenerAt l) a e

  touched_keeps : (Q : Option ℕ → Type 0) → Renews Q Q → (o : Option TouchedEndpoint) (a : Waits) → Entry a Q → Entry (touched_seen w moment o a) Q
  touched_keeps Q renews None a e = e
  touched_keeps Q renews (Some t) a e =
      listener_keeps Q renews t.host t.before.listener (seen_again w moment t.host (EndpointAt t.place) a)
      (again_keeps Q renews t.host (EndpointAt t.place) a e)

  answer_keeps : (Q : Option ℕ → Type 0) → Renews Q Q → (c : CallChange) (a : Waits) → Entry a Q → Entry (answer_seen w moment c a) Q
  answer_keeps Q renews (call_change.Answers thread (Some x)) a e = again_keeps Q renews x.host x.target a e
  answer_keeps Q renews (call_change.Answers thread None) a e = e
  answer_keeps Q renews call_change.Nothing a e = e
  answer_keeps Q renews (call_change.Begins thread socket kind) a e = e
  answer_keeps Q renews (call_change.Ends thread) a e = e

  -- the target isn't closed, and no number is returned for it
  pub record Stays (k : SocketChange) : Type 0 where
    pub lives : k ≡ socket_change.Closes host target → ⊥
    pub given : (n : ℕ) → k ≡ socket_change.Gives host n → socket_target (pick w.hosts host).body n ≡ Some target → ⊥

  socket_keeps : (Q : Option ℕ → Type 0) → Renews Q Q → (k : SocketChange) → Stays k → (a : Waits) → Entry a Q → Entry (socket_noted w moment k a) Q
  socket_keeps Q renews socket_change.Nothing stays a e = e
  socket_keeps Q renews (socket_change.Shuts g t) stays a e = again_keeps Q renews g t a e
  socket_keeps Q renews (socket_change.Closes g t) stays a e = by (written g host t target)
    where
      by : Written g host t target → Entry (with_ready a g t None) Q
      by (inl same) = absurd (stays.lives (λ i. socket_change.Closes (same.0 i) (same.1 i)))
      by (inr other) = record { ready = e.ready; is = other a None ∙ e.is; holds = e.holds }
  socket_keeps Q renews (socket_change.Gives g n) stays a e = by (socket_target (pick w.hosts g).body n) refl
    where
      by : (o : Option SocketTarget) → socket_target (pick w.hosts g).body n ≡ o → Entry (socket_given w moment g o a) Q
      by None is = e
      by (Some t) is = at (written g host t target)
        where
          at : Written g host t target → Entry (socket_given w moment g (Some t) a) Q
          at (inl same) =
              absurd (stays.given n (λ i. socket_change.Gives (same.0 i) n)
              (subst (λ (x : Host). socket_target (pick w.hosts x).body n ≡ Some target) same.0 (is ∙ ap (λ (y : SocketTarget). Some y) same.1)))
          at (inr other) = record { ready = e.ready; is = other a _ ∙ e.is; holds = e.holds }

  -- a step that doesn't end it
  pub after_keeps : (Q : Option ℕ → Type 0) → Renews Q Q → (o : Option TouchedEndpoint) (c : CallChange) (k : SocketChange) → Stays k → (a : Waits)
      → Entry a Q → Entry (waits_after w moment o c k a) Q
  after_keeps Q renews o c k stays a e =
      socket_keeps Q renews k stays (answer_seen w moment c (touched_seen w moment o (call_noted moment c a)))
      (answer_keeps Q renews c (touched_seen w moment o (call_noted moment c a))
      (touched_keeps Q renews o (call_noted moment c a) (record { ready = e.ready; is = noted_entry a c ∙ e.is; holds = e.holds })))

  -- one by which duties look at it
  pub after_sees : (Q R : Option ℕ → Type 0) → Renews Q Q → Renews R R → Renews Q R → (s : Observation) → Sees s host target → Stays s.socket_change
      → (a : Waits) → Entry a Q → Entry (waits_after w moment s.touched s.call_change s.socket_change a) R
  after_sees Q R old new renews s sees stays a e = by sees
    where
      start : Entry (call_noted moment s.call_change a) Q
      start = record { ready = e.ready; is = noted_entry a s.call_change ∙ e.is; holds = e.holds }

      end : (x : Waits) → Entry x R → Entry (socket_noted w moment s.socket_change (answer_seen w moment s.call_change x)) R
      end x now = socket_keeps R new s.socket_change stays (answer_seen w moment s.call_change x) (answer_keeps R new s.call_change x now)

      by : Sees s host target → Entry (waits_after w moment s.touched s.call_change s.socket_change a) R
      by (at_endpoint t touches of same) =
          end (touched_seen w moment s.touched (call_noted moment s.call_change a))
          (subst (λ (o : Option TouchedEndpoint). Entry (touched_seen w moment o (call_noted moment s.call_change a)) R) (sym touches)
          (listener_keeps R new t.host t.before.listener _
          (again_at Q R renews t.host (EndpointAt t.place) of (sym same) (call_noted moment s.call_change a) start)))
      by (at_listener t l touches of his same) =
          end (touched_seen w moment s.touched (call_noted moment s.call_change a))
          (subst (λ (o : Option TouchedEndpoint). Entry (touched_seen w moment o (call_noted moment s.call_change a)) R) (sym touches)
          (subst (λ (o : Option ℕ). Entry (listener_seen w moment t.host o
          (seen_again w moment t.host (EndpointAt t.place) (call_noted moment s.call_change a))) R)
          (sym his)
          (again_at Q R renews t.host (ListenerAt l) of (sym same) _
          (again_keeps Q old t.host (EndpointAt t.place) (call_noted moment s.call_change a) start))))
      by (at_answer thread x answers of same) =
          socket_keeps R new s.socket_change stays _
          (subst (λ (c : CallChange). Entry (answer_seen w moment c (touched_seen w moment s.touched (call_noted moment s.call_change a))) R) (sym answers)
          (again_at Q R renews x.host x.target of same _ (touched_keeps Q old s.touched (call_noted moment s.call_change a) start)))
      by (at_shut shuts) =
          subst (λ (k : SocketChange). Entry (socket_noted w moment k (answer_seen w moment s.call_change (touched_seen w moment s.touched
          (call_noted moment s.call_change a)))) R) (sym shuts)
          (again_here Q R renews _ (answer_keeps Q old s.call_change _ (touched_keeps Q old s.touched (call_noted moment s.call_change a) start)))
      by (at_close closes) = absurd (stays.lives closes)

  -- one that returns a number for it
  pub after_given : (R : Option ℕ → Type 0) → R (ready_after may moment None) → (o : Option TouchedEndpoint) (c : CallChange) (n : ℕ)
      → socket_target (pick w.hosts host).body n ≡ Some target → (a : Waits) → Entry (waits_after w moment o c (socket_change.Gives host n) a) R
  after_given R new o c n names a = record {
    ready = r;
    is = ap (λ (o : Option SocketTarget). ready_at (socket_given w moment host o x) host target) names ∙ ready_here x host target (Some r);
    holds =
        subst R (sym (renewed_since (pick w.hosts host).body target moment not_ready awaited
        ∙ ap (λ (o : Option ℕ). ready_after may moment o) (not_since awaited))) new;
  }
    where
      r : Ready
      r = renewed (waitable (pick w.hosts host).body target) moment not_ready

      x : Waits
      x = answer_seen w moment c (touched_seen w moment o (call_noted moment c a))
