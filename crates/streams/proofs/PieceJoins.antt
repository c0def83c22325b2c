-- One piece in place of several.
use Rattle.std.proofs.Common.{◌≡◌, ℕ, ◌+◌, ◌-◌, ◌<◌, ◌≤◌, Bool, true, false, ◌&&◌, nat_le, nat_lt, List, [], ◌∷◌, ◌++◌, length, take, drop, refl, sym, ap, ◌∙◌}
use Rattle.std.proofs.Common.{subst, arith, append_assoc}
use Rattle.std.proofs.lemmas.Bool.Decides.{nat_tests}
use Rattle.std.proofs.lemmas.Option.{none-some}
use Rattle.std.proofs.Math.Seq.{take-append-add}
use Rattle.std.specs.Prelude.{None}
use Rattle.std.specs.Ordering.{nat_cmp}
use Rattle.std.specs.declared.cmp.Ordering.{Ordering}
use Rattle.std.specs.declared.cmp.Ordering.TheVariants.{Less, Equal, Greater}
use Rattle.std.specs.Map.{lookup, set_value}
use Rattle.std.specs.BTreeMap.{is_at}
use Rattle.streams.specs.declared.outstanding.Outstanding.{Outstanding}
use Rattle.streams.specs.declared.piece.Piece.{Piece}
use Rattle.streams.specs.RangeEntries.{without}
use Rattle.streams.specs.Pieces.{Adjoin, IsCut, alike, joined, shown}
use Rattle.streams.proofs.RangeEdits.{cmp_greater}
use Rattle.streams.proofs.PieceLemmas.{drop_all, length_alike}

pub set_absent : (es : List (ℕ × Piece)) (k : ℕ) (w : Piece) → lookup (is_at (nat_cmp k)) es ≡ None → es ≡ set_value (is_at (nat_cmp k)) es w
set_absent [] k w is = refl
set_absent (e ∷ es) k w is = by (is_at (nat_cmp k) e.0) refl (set_absent es k w)
  where
    by : (b : Bool) → is_at (nat_cmp k) e.0 ≡ b → (lookup (is_at (nat_cmp k)) es ≡ None → es ≡ set_value (is_at (nat_cmp k)) es w)
        → e ∷ es ≡ set_value (is_at (nat_cmp k)) (e ∷ es) w
    by true here rest = absurd (none-some e.1 (sym (rw here at is)))
    by false other rest = rw other (ap (λ (xs : List (ℕ × Piece)). e ∷ xs) (rest (rw other at is)))

without_beyond : (es : List (ℕ × Piece)) (from end low high : ℕ) → Adjoin from end es → high ≤ from → without low high es ≡ es
without_beyond [] from end low high h over = refl
without_beyond (e ∷ es) from end low high h over =
    let size : from < e.0 = h.1 in
    let stays : (nat_le low e.0 && nat_lt e.0 high) ≡ false = grind (arith, nat_tests, size, over) in
    rw stays (ap (λ (xs : List (ℕ × Piece)). e ∷ xs) (without_beyond es e.0 end low high h.2 (omega (arith, size, over))))

joined_kept : (e : ℕ × Piece) (es : List (ℕ × Piece)) (from upto : ℕ) (s : Outstanding) → e.0 ≤ from → from < upto
    → joined from upto s (e ∷ es) ≡ e ∷ joined from upto s es
joined_kept e es from upto s under some =
    let stays : (nat_le (from + 1) e.0 && nat_lt e.0 upto) ≡ false = grind (arith, nat_tests, under) in
    let more : nat_cmp upto e.0 ≡ Greater = cmp_greater upto e.0 (omega (arith, under, some)) in
    rw (stays, more) refl

joined_gone : (e : ℕ × Piece) (es : List (ℕ × Piece)) (from upto : ℕ) (s : Outstanding) → from < e.0 → e.0 < upto
    → joined from upto s (e ∷ es) ≡ joined from upto s es
joined_gone e es from upto s over under =
    let gone : (nat_le (from + 1) e.0 && nat_lt e.0 upto) ≡ true = grind (arith, nat_tests, over, under) in
    rw gone refl

joined_at : (e : ℕ × Piece) (es : List (ℕ × Piece)) (from end upto : ℕ) (s : Outstanding) → upto ≡ e.0 → Adjoin e.0 end es
    → joined from upto s (e ∷ es) ≡ (e.0, record { start = from; state = s }) ∷ es
joined_at e es from end upto s at h =
    let stays : (nat_le (from + 1) e.0 && nat_lt e.0 upto) ≡ false = grind (arith, nat_tests, at) in
    let rest : without (from + 1) upto es ≡ es = without_beyond es e.0 end (from + 1) upto h (omega (arith, at)) in
    let here : is_at (nat_cmp upto) e.0 ≡ true = grind (arith, nat_tests, at) in
    rw (stays, rest, here) refl

-- what is there once the first of them begins at `from` or after it
record Ends (first end from upto : ℕ) (s : Outstanding) (es new : List (ℕ × Piece)) : Type 0 where
  pub view : shown new ≡ alike s (upto - from) ++ drop (upto - first) (shown es)
  pub adjoin : Adjoin from end new

ends : (es : List (ℕ × Piece)) (first end from upto : ℕ) (s : Outstanding) → Adjoin first end es → from ≤ first → first < upto → upto ≤ end → IsCut upto es
    → Ends first end from upto s es (joined from upto s es)
ends [] first end from upto s h low high fits apart = absurd (let none : first ≡ end = h in omega (arith, none, high, fits))
ends (e ∷ es) first end from upto s h low high fits apart =
    by (nat_cmp upto e.0) refl (λ under. ends es e.0 end from upto s h.2 (omega (arith, low, size)) under fits apart.1)
  where
    start : e.1.start ≡ first
    start = h.0

    size : first < e.0
    size = h.1

    by : (o : Ordering) → nat_cmp upto e.0 ≡ o → (e.0 < upto → Ends e.0 end from upto s es (joined from upto s es))
        → Ends first end from upto s (e ∷ es) (joined from upto s (e ∷ es))
    by Greater is rest =
        let under : e.0 < upto = grind (arith, nat_tests, is) in
        let later = rest under in
        let count : (upto - first) - (e.0 - e.1.start) ≡ upto - e.0 = omega (arith, start, size, under) in
        subst (Ends first end from upto s (e ∷ es)) (sym (joined_gone e es from upto s (omega (arith, low, size)) under)) (record {
          view = later.view ∙ ap (λ (xs : List Outstanding). alike s (upto - from) ++ xs)
              (ap (λ (n : ℕ). drop n (shown es)) (sym count)
              ∙ drop_all (upto - first) (e.0 - e.1.start) (alike e.1.state (e.0 - e.1.start)) (shown es) (length_alike e.1.state (e.0 - e.1.start))
              (omega (arith, start, size, under)));
          adjoin = later.adjoin;
        })
    by Equal is rest =
        let at : upto ≡ e.0 = grind (arith, nat_tests, is) in
        let none : 0 ≡ (upto - first) - (e.0 - e.1.start) = omega (arith, start, size, at) in
        subst (Ends first end from upto s (e ∷ es)) (sym (joined_at e es from end upto s at h.2)) (record {
          view = (λ i. alike s (sym at i - from) ++ shown es) ∙ ap (λ (xs : List Outstanding). alike s (upto - from) ++ xs)
              (ap (λ (n : ℕ). drop n (shown es)) none
              ∙ drop_all (upto - first) (e.0 - e.1.start) (alike e.1.state (e.0 - e.1.start)) (shown es) (length_alike e.1.state (e.0 - e.1.start))
              (omega (arith, start, size, at)));
          adjoin = (refl, omega (arith, low, size), h.2);
        })
    by Less is rest = absurd (
        let over : upto < e.0 = grind (arith, nat_tests, is) in
        let around : (nat_lt e.1.start upto && nat_lt upto e.0) ≡ true = grind (arith, nat_tests, start, high, over) in
        let none : (nat_lt e.1.start upto && nat_lt upto e.0) ≡ false = apart.0 in
        cc)

-- what is there in the end
pub record Joins (first end from upto : ℕ) (s : Outstanding) (es new : List (ℕ × Piece)) : Type 0 where
  pub view : shown new ≡ take (from - first) (shown es) ++ (alike s (upto - from) ++ drop (upto - first) (shown es))
  pub adjoin : Adjoin first end new

pub take_all : {X : Type 0} (k n : ℕ) (xs ys : List X) → length xs ≡ n → n ≤ k → xs ++ take (k - n) ys ≡ take k (xs ++ ys)
take_all {X} k n xs ys long under =
    let all : length xs + (k - n) ≡ k = omega (arith, long, under) in
    sym (take-append-add xs ys (k - n)) ∙ ap (λ (m : ℕ). take {A = X} m (xs ++ ys)) all

pub joins : (es : List (ℕ × Piece)) (first end from upto : ℕ) (s : Outstanding) → Adjoin first end es → first ≤ from → from < upto → upto ≤ end
    → IsCut from es → IsCut upto es → Joins first end from upto s es (joined from upto s es)
joins [] first end from upto s h low some fits begun apart = absurd (let none : first ≡ end = h in omega (arith, none, low, some, fits))
joins (e ∷ es) first end from upto s h low some fits begun apart =
    by (nat_le e.0 from) refl (λ under. joins es e.0 end from upto s h.2 under some fits begun.1 apart.1)
    (λ here high. ends (e ∷ es) first end from upto s h here high fits apart)
  where
    start : e.1.start ≡ first
    start = h.0

    size : first < e.0
    size = h.1

    long : length (alike e.1.state (e.0 - e.1.start)) ≡ e.0 - e.1.start
    long = length_alike e.1.state (e.0 - e.1.start)

    by : (b : Bool) → nat_le e.0 from ≡ b → (e.0 ≤ from → Joins e.0 end from upto s es (joined from upto s es))
        → (from ≤ first → first < upto → Ends first end from upto s (e ∷ es) (joined from upto s (e ∷ es)))
        → Joins first end from upto s (e ∷ es) (joined from upto s (e ∷ es))
    by true is rest here =
        let under : e.0 ≤ from = grind (arith, nat_tests, is) in
        let later = rest under in
        let front : (from - first) - (e.0 - e.1.start) ≡ from - e.0 = omega (arith, start, size, under) in
        let back : (upto - first) - (e.0 - e.1.start) ≡ upto - e.0 = omega (arith, start, size, under, some) in
        let taken : alike e.1.state (e.0 - e.1.start) ++ take (from - e.0) (shown es) ≡ take (from - first) (shown (e ∷ es)) =
        ap (λ (n : ℕ). alike e.1.state (e.0 - e.1.start) ++ take n (shown es)) (sym front)
        ∙ take_all (from - first) (e.0 - e.1.start) (alike e.1.state (e.0 - e.1.start)) (shown es) long (omega (arith, start, size, under)) in
        let left : drop (upto - e.0) (shown es) ≡ drop (upto - first) (shown (e ∷ es)) =
        ap (λ (n : ℕ). drop n (shown es)) (sym back)
        ∙ drop_all (upto - first) (e.0 - e.1.start) (alike e.1.state (e.0 - e.1.start)) (shown es) long (omega (arith, start, size, under, some)) in
        subst (Joins first end from upto s (e ∷ es)) (sym (joined_kept e es from upto s under some)) (record {
          view = ap (λ (xs : List Outstanding). alike e.1.state (e.0 - e.1.start) ++ xs) later.view
              ∙ (sym (append_assoc (alike e.1.state (e.0 - e.1.start)) (take (from - e.0) (shown es)) (alike s (upto - from) ++ drop (upto - e.0) (shown es)))
              ∙ (λ i. taken i ++ (alike s (upto - from) ++ left i)));
          adjoin = (h.0, h.1, later.adjoin);
        })
    by false is rest here =
        let over : from < e.0 = grind (arith, nat_tests, is) in
        let none : (nat_lt e.1.start from && nat_lt from e.0) ≡ false = begun.0 in
        let same : from ≡ first = grind (arith, nat_tests, start, none, over, low) in
        let tail = here (omega (arith, same)) (omega (arith, same, some)) in
        let nothing : from - first ≡ 0 = omega (arith, same) in
        record {
          view = tail.view ∙ ap (λ (n : ℕ). take n (shown (e ∷ es)) ++ (alike s (upto - from) ++ drop (upto - first) (shown (e ∷ es)))) (sym nothing);
          adjoin = subst (λ (n : ℕ). Adjoin n end (joined from upto s (e ∷ es))) same tail.adjoin;
        }
