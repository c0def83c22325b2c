-- A segment that is built: what the pieces show afterwards.
use Rattle.std.proofs.Common.{◌≡◌, ℕ, ◌+◌, ◌-◌, ◌<◌, ◌≤◌, max, min, Bool, true, false, ◌&&◌, nat_le, nat_lt, List, [], ◌∷◌, ◌++◌, length, take, drop, refl, sym}
use Rattle.std.proofs.Common.{ap, ◌∙◌, subst, arith, append_assoc}
use Rattle.std.proofs.lemmas.Bool.Decides.{nat_tests}
use Rattle.std.proofs.lemmas.List.{drop-append-le, take-append-drop, take-append-le}
use Rattle.std.specs.Ordering.{nat_cmp}
use Rattle.std.specs.declared.cmp.Ordering.TheVariants.{Greater}
use Rattle.std.specs.BTreeMap.{insert_entry}
use Rattle.streams.specs.declared.outstanding.Outstanding.{Outstanding}
use Rattle.streams.specs.declared.piece.Piece.{Piece}
use Rattle.streams.specs.Pieces.{Adjoin, IsCut, alike, built_again, built_first, cut, grown, joined_if, rebuilt, shown}
use Rattle.streams.proofs.RangeEdits.{cmp_greater}
use Rattle.streams.proofs.PieceLemmas.{Keeps, cut_here, cut_keeps, cut_later, cut_whole, length_shown}
use Rattle.streams.proofs.PieceJoins.{joins}

-- a cut elsewhere makes no piece around a position
cut_stays : (es : List (ℕ × Piece)) (from upto p q : ℕ) → Adjoin from upto es → IsCut q es → IsCut q (cut p es)
cut_stays [] from upto p q h apart = tt
cut_stays (e ∷ es) from upto p q h apart = by (nat_lt p e.0) refl (nat_lt e.1.start p) refl (cut_stays es e.0 upto p q h.2 apart.1)
  where
    none : (nat_lt e.1.start q && nat_lt q e.0) ≡ false
    none = apart.0

    by : (b : Bool) → nat_lt p e.0 ≡ b → (c : Bool) → nat_lt e.1.start p ≡ c → IsCut q (cut p es) → IsCut q (cut p (e ∷ es))
    by false is c begun rest = subst (IsCut q) (sym (cut_later e es upto p (grind (arith, nat_tests, is)) h.2)) (none, rest)
    by true is true begun rest =
        let over : p < e.0 = grind (arith, nat_tests, is) in
        let low : e.1.start < p = grind (arith, nat_tests, begun) in
        subst (IsCut q) (sym (cut_here e es p over low)) (grind (arith, nat_tests, none, over, low), (grind (arith, nat_tests, none, over, low), apart.1))
    by true is false late rest = subst (IsCut q) (sym (cut_whole e es p (grind (arith, nat_tests, is)) (grind (arith, nat_tests, late)))) apart

-- one more piece behind the others
record Grows (from end upto : ℕ) (s : Outstanding) (es new : List (ℕ × Piece)) : Type 0 where
  pub view : shown new ≡ shown es ++ alike s (upto - end)
  pub adjoin : Adjoin from (max end upto) new
  pub apart : (q : ℕ) → q ≤ end → IsCut q es → IsCut q new

append_none : {X : Type 0} (xs : List X) → xs ++ [] ≡ xs
append_none [] = refl
append_none {X} (x ∷ xs) = ap (λ (ys : List X). x ∷ ys) (append_none xs)

insert_behind : (e : ℕ × Piece) (es : List (ℕ × Piece)) (upto : ℕ) (w : Piece) → e.0 < upto
    → insert_entry nat_cmp (e ∷ es) upto w ≡ e ∷ insert_entry nat_cmp es upto w
insert_behind e es upto w under = let more : nat_cmp upto e.0 ≡ Greater = cmp_greater upto e.0 under in rw more refl

inserted : (es : List (ℕ × Piece)) (from end upto : ℕ) (s : Outstanding) → Adjoin from end es → end < upto
    → Grows from end upto s es (insert_entry nat_cmp es upto (record { start = end; state = s }))
inserted [] from end upto s h over = let none : from ≡ end = h in record {
  view = append_none (alike s (upto - end));
  adjoin = (omega (arith, none), omega (arith, none, over), omega (arith, over));
  apart = λ q low before. (grind (arith, nat_tests, low), tt);
}
inserted (e ∷ es) from end upto s h over =
    let rest = inserted es e.0 end upto s h.2 over in
    let long = length_shown es e.0 end h.2 in
    let under : e.0 < upto = omega (arith, long, over) in
    subst (Grows from end upto s (e ∷ es)) (sym (insert_behind e es upto (record { start = end; state = s }) under)) (record {
      view = ap (λ (xs : List Outstanding). alike e.1.state (e.0 - e.1.start) ++ xs) rest.view
          ∙ sym (append_assoc (alike e.1.state (e.0 - e.1.start)) (shown es) (alike s (upto - end)));
      adjoin = (h.0, h.1, rest.adjoin);
      apart = λ q low before. (before.0, rest.apart q low before.1);
    })

grows : (es : List (ℕ × Piece)) (from end upto : ℕ) (s : Outstanding) → Adjoin from end es → Grows from end upto s es (grown end upto s es)
grows es from end upto s h = by (nat_lt end upto) refl
  where
    by : (b : Bool) → nat_lt end upto ≡ b → Grows from end upto s es (grown end upto s es)
    by true is = rw is (inserted es from end upto s h (grind (arith, nat_tests, is)))
    by false is =
        let under : upto ≤ end = grind (arith, nat_tests, is) in
        let none : 0 ≡ upto - end = omega (arith, under) in
        let same : end ≡ max end upto = omega (arith, under) in
        rw is (record {
          view = sym (append_none (shown es)) ∙ ap (λ (n : ℕ). shown es ++ alike s n) none;
          adjoin = subst (λ (n : ℕ). Adjoin from n es) same h;
          apart = λ q low before. before;
        })

-- the old positions of the segment, in front of the new ones
pub record IsRebuilt (from end position upto number moment : ℕ) (es new : List (ℕ × Piece)) : Type 0 where
  pub view : shown new ≡ rebuilt from end position upto number moment (shown es)
  pub adjoin : Adjoin from (max end upto) new

replaced : (k j : ℕ) (all mid more : List Outstanding) → k ≤ length all → j ≤ length all
    → take k (all ++ more) ++ (mid ++ drop j (all ++ more)) ≡ (take k all ++ (mid ++ drop j all)) ++ more
replaced k j all mid more low high =
    (λ i. take-append-le k all more low i ++ (mid ++ drop-append-le j all more high i))
    ∙ (ap (λ (xs : List Outstanding). take k all ++ xs) (sym (append_assoc mid (drop j all) more))
    ∙ sym (append_assoc (take k all) (mid ++ drop j all) more))

pub is_rebuilt : (es first second third : List (ℕ × Piece)) (from end position upto number moment : ℕ) → Adjoin from end es
    → from ≤ position → position ≤ end → position ≤ upto
    → first ≡ cut position es → second ≡ cut (min upto end) first → third ≡ grown end upto (built_first number moment) second
    → IsRebuilt from end position upto number moment es (joined_if position (min upto end) (built_again number moment (nat_le upto end)) third)
is_rebuilt es first second third from end position upto number moment h low fits some one two three =
    by (nat_lt position (min upto end)) refl
  where
    cut_once : Keeps from end position es first
    cut_once = subst (Keeps from end position es) (sym one) (cut_keeps es from end position h)

    cut_twice : Keeps from end (min upto end) first second
    cut_twice = subst (Keeps from end (min upto end) first) (sym two) (cut_keeps first from end (min upto end) cut_once.adjoin)

    apart : IsCut position second
    apart = subst (IsCut position) (sym two) (cut_stays first from end (min upto end) position cut_once.adjoin cut_once.apart)

    more : Grows from end upto (built_first number moment) second third
    more = subst (Grows from end upto (built_first number moment) second) (sym three) (grows second from end upto (built_first number moment) cut_twice.adjoin)

    all : shown third ≡ shown es ++ alike (built_first number moment) (upto - end)
    all = more.view ∙ ap (λ (xs : List Outstanding). xs ++ alike (built_first number moment) (upto - end)) (cut_twice.view ∙ cut_once.view)

    long : from + length (shown es) ≡ end
    long = length_shown es from end h

    by : (b : Bool) → nat_lt position (min upto end) ≡ b
        → IsRebuilt from end position upto number moment es (joined_if position (min upto end) (built_again number moment (nat_le upto end)) third)
    by true is =
        let old : position < min upto end = grind (arith, nat_tests, is) in
        let new = joins third from (max end upto) position (min upto end) (built_again number moment (nat_le upto end)) more.adjoin low old (omega arith)
        (more.apart position fits apart) (more.apart (min upto end) (omega arith) cut_twice.apart) in
        rw is (record {
          view = new.view
              ∙ ((λ i. take (position - from) (all i)
              ++ (alike (built_again number moment (nat_le upto end)) (min upto end - position) ++ drop (min upto end - from) (all i)))
              ∙ replaced (position - from) (min upto end - from) (shown es) (alike (built_again number moment (nat_le upto end)) (min upto end - position))
              (alike (built_first number moment) (upto - end)) (omega (arith, long, fits)) (omega (arith, long)));
          adjoin = new.adjoin;
        })
    by false is =
        let same : min upto end ≡ position = grind (arith, nat_tests, is, fits, some) in
        let none : min upto end - position ≡ 0 = omega (arith, same) in
        rw is (record {
          view = all ∙ ap (λ (xs : List Outstanding). xs ++ alike (built_first number moment) (upto - end))
              (sym (take-append-drop (position - from) (shown es))
              ∙ (λ i. take (position - from) (shown es)
              ++ (alike (built_again number moment (nat_le upto end)) (sym none i) ++ drop (sym same i - from) (shown es))));
          adjoin = more.adjoin;
        })

-- where memory ran out after one cut or two
pub kept_once : (es first new : List (ℕ × Piece)) (from end p : ℕ) → Adjoin from end es → first ≡ cut p es → new ≡ first
    → (shown new ≡ shown es) × Adjoin from end new
kept_once es first new from end p h one is =
    let keeps = subst (Keeps from end p es) (sym (is ∙ one)) (cut_keeps es from end p h) in
    (keeps.view, keeps.adjoin)

pub kept_twice : (es first second new : List (ℕ × Piece)) (from end p q : ℕ) → Adjoin from end es → first ≡ cut p es → second ≡ cut q first → new ≡ second
    → (shown new ≡ shown es) × Adjoin from end new
kept_twice es first second new from end p q h one two is =
    let once = kept_once es first first from end p h one refl in
    let twice = kept_once first second new from end q once.1 two is in
    (twice.0 ∙ once.0, twice.1)
