-- How the links between the lines of a thread are kept.
use Rattle.std.proofs.Common.{◌≡◌, ℕ, ◌<◌, ◌≤◌, ◌+◌, ◌⊎◌, inl, inr, Bool, true, false, Option, Some, None, refl, sym, ap, ◌∙◌, subst, arith}
use Rattle.std.specs.Prelude.{nat_eq}
use Rattle.std.proofs.lemmas.Bool.Decides.{nat_tests}
use Rattle.interval_order.specs.declared.pending_lines.Waiting.{Waiting}
use Rattle.interval_order.specs.Waits.{Leads, AreLinked}

same_or : (p k : ℕ) → (p ≡ k) ⊎ (p ≡ k → ⊥)
same_or p k = by_test (nat_eq p k) refl
  where
    by_test : (b : Bool) → nat_eq p k ≡ b → (p ≡ k) ⊎ (p ≡ k → ⊥)
    by_test true is = inl (grind (arith, nat_tests, is))
    by_test false is = inr (λ same. grind (arith, nat_tests, is, same))

module _ (k : ℕ) (old new : ℕ → Option Waiting) (others : (q : ℕ) → (q ≡ k → ⊥) → new q ≡ old q) where
  -- what waits under the number k, by another name of that number
  there : (m : ℕ) (w : Waiting) → new m ≡ Some w → m ≡ k → new k ≡ Some w
  there m w at is = subst (λ (q : ℕ). new q ≡ Some w) is at

  absent : new k ≡ None → (m : ℕ) (w : Waiting) → new m ≡ Some w → m ≡ k → ⊥
  absent gone m w at is = let here : new k ≡ Some w = there m w at is in cc

  theirs : (v : Waiting) → new k ≡ Some v → (m : ℕ) (w : Waiting) → new m ≡ Some w → m ≡ k → w ≡ v
  theirs v here m w at is = let also : new k ≡ Some w = there m w at is in cc

  -- what waits did where only the line k went
  waited : new k ≡ None → (m : ℕ) (w : Waiting) → new m ≡ Some w → old m ≡ Some w
  waited gone m w at = sym (others m (absent gone m w at)) ∙ at

  -- a link leads on where the line k no longer waits, before which none of its thread did
  leads_without : new k ≡ None → (v : Waiting) → old k ≡ Some v
      → ((m : ℕ) (w : Waiting) → old m ≡ Some w → w.line.thread ≡ v.line.thread → m < k → ⊥)
      → (thread n : ℕ) (link : Option ℕ) → Leads old thread n link → Leads new thread n link
  leads_without gone v here first thread n link h = record {
    below = h.below;
    own = λ p w is at. h.own p w is (waited gone p w at);
    last = λ m w at same low.
        let found : (p : ℕ) × (u : Waiting) × (link ≡ Some p) × (m ≤ p) × (old p ≡ Some u) = h.last m w (waited gone m w at) same low in
        (found.0, found.1, found.2, found.3, others found.0 (λ is. unlinked m w at same found is) ∙ found.4);
  }
    where
      unlinked : (m : ℕ) (w : Waiting) → new m ≡ Some w → w.line.thread ≡ thread
          → (found : (p : ℕ) × (u : Waiting) × (link ≡ Some p) × (m ≤ p) × (old p ≡ Some u)) → found.0 ≡ k → ⊥
      unlinked m w at same found is =
          let stood : old k ≡ Some found.1 = subst (λ (q : ℕ). old q ≡ Some found.1) is found.4 in
          let equal : found.1 ≡ v = cc in
          let mine : found.1.line.thread ≡ thread = h.own found.0 found.1 found.2 found.4 in
          let away : m ≡ k → ⊥ = absent gone m w at in
          first m w (waited gone m w at) (same ∙ sym mine ∙ ap (λ (u : Waiting). u.line.thread) equal) (omega arith)

  pub linked_without : new k ≡ None → (v : Waiting) → old k ≡ Some v
      → ((m : ℕ) (w : Waiting) → old m ≡ Some w → w.line.thread ≡ v.line.thread → m < k → ⊥)
      → (next : ℕ) (latest : ℕ → Option ℕ) → AreLinked next old latest → AreLinked next new latest
  linked_without gone v here first next latest h = record {
    previous = λ n w at. leads_without gone v here first w.line.thread n w.previous (h.previous n w (waited gone n w at));
    all = λ thread. leads_without gone v here first thread next (latest thread) (h.all thread);
  }

  -- a link from below k leads on where a line k waits too
  leads_with : (thread n : ℕ) (link : Option ℕ) → n ≤ k → Leads old thread n link → Leads new thread n link
  leads_with thread n link low h = record {
    below = h.below;
    own = λ p w is at. h.own p w is (was p w (let under : p < n = h.below p is in omega arith) at);
    last = λ m w at same under.
        let found : (p : ℕ) × (u : Waiting) × (link ≡ Some p) × (m ≤ p) × (old p ≡ Some u) = h.last m w (was m w (omega arith) at) same under in
        let near : found.0 < n = h.below found.0 found.2 in
        (found.0, found.1, found.2, found.3, others found.0 (λ is. omega arith) ∙ found.4);
  }
    where
      was : (p : ℕ) (w : Waiting) → p < k → new p ≡ Some w → old p ≡ Some w
      was p w under at = sym (others p (λ is. omega arith)) ∙ at

  -- a link to a thread's lines below k leads to those below k + 1 where the line k is of another thread
  leads_past : (v : Waiting) → new k ≡ Some v → (thread : ℕ) (link : Option ℕ) → (thread ≡ v.line.thread → ⊥)
      → Leads old thread k link → Leads new thread (k + 1) link
  leads_past v here thread link apart h = record {
    below = λ p is. let under : p < k = h.below p is in omega arith;
    own = more.own;
    last = λ m w at same low. more.last m w at same
        (let away : m ≡ k → ⊥ = (λ is.
        apart (sym same ∙ ap (λ (u : Waiting). u.line.thread) (theirs v here m w at is))) in omega arith);
  }
    where
      more : Leads new thread k link
      more = leads_with thread k link (omega arith) h

  -- the line k leads to those of its thread below k + 1
  leads_here : (v : Waiting) → new k ≡ Some v → Leads new v.line.thread (k + 1) (Some k)
  leads_here v here = record {
    below = λ p is. let same : k ≡ p = cc in omega arith;
    own = λ p w is at. ap (λ (u : Waiting). u.line.thread) (theirs v here p w at (let same : p ≡ k = cc in same));
    last = λ m w at same low. (k, v, refl, omega arith, here);
  }

  pub linked_with : (v : Waiting) → new k ≡ Some v
      → ((n : ℕ) (w : Waiting) → old n ≡ Some w → n < k)
      → (latest latest_now : ℕ → Option ℕ) → v.previous ≡ latest v.line.thread → latest_now v.line.thread ≡ Some k
      → ((thread : ℕ) → (thread ≡ v.line.thread → ⊥) → latest_now thread ≡ latest thread)
      → AreLinked k old latest → AreLinked (k + 1) new latest_now
  linked_with v here below latest latest_now before after kept h = record {
    previous = λ n w at. by_place n w at (same_or n k);
    all = λ thread. by_thread thread (same_or thread v.line.thread);
  }
    where
      by_place : (n : ℕ) (w : Waiting) → new n ≡ Some w → (n ≡ k) ⊎ (n ≡ k → ⊥) → Leads new w.line.thread n w.previous
      by_place n w at (inl is) =
          let equal : v ≡ w = sym (theirs v here n w at is) in
          let mine : Leads new v.line.thread k v.previous =
          leads_with v.line.thread k v.previous (omega arith)
          (subst (Leads old v.line.thread k) (sym before) (h.all v.line.thread)) in
          let placed : Leads new v.line.thread n v.previous = subst (λ (q : ℕ). Leads new v.line.thread q v.previous) (sym is) mine in
          subst (λ (u : Waiting). Leads new u.line.thread n u.previous) equal placed
      by_place n w at (inr away) =
          let was : old n ≡ Some w = sym (others n away) ∙ at in
          let under : n < k = below n w was in
          leads_with w.line.thread n w.previous (omega arith) (h.previous n w was)

      by_thread : (thread : ℕ) → (thread ≡ v.line.thread) ⊎ (thread ≡ v.line.thread → ⊥) → Leads new thread (k + 1) (latest_now thread)
      by_thread thread (inl is) =
          let mine : Leads new v.line.thread (k + 1) (latest_now v.line.thread) = subst (Leads new v.line.thread (k + 1)) (sym after) (leads_here v here) in
          subst (λ (t : ℕ). Leads new t (k + 1) (latest_now t)) (sym is) mine
      by_thread thread (inr apart) =
          subst (Leads new thread (k + 1)) (sym (kept thread apart)) (leads_past v here thread (latest thread) apart (h.all thread))
