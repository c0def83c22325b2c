-- Pieces of what is outstanding: what is found among them, and cutting one in two.
use Rattle.std.proofs.Common.{◌≡◌, ℕ, zero, suc, ◌+◌, ◌-◌, ◌<◌, ◌≤◌, Bool, true, false, nat_le, nat_lt, List, [], ◌∷◌, ◌++◌, length, drop, max, refl, sym, ap}
use Rattle.std.proofs.Common.{◌∙◌, subst, arith, append_assoc, length-append, min}
use Rattle.std.proofs.lemmas.Bool.Decides.{nat_tests}
use Rattle.std.proofs.lemmas.Option.{none-some, same_Some}
use Rattle.std.proofs.lemmas.List.{drop-map, length-map, length-replicate}
use Rattle.std.proofs.Math.Seq.{drop-append-add, drop-append_seam}
use Rattle.std.specs.Prelude.{Option, None, Some, find, map, replicate}
use Rattle.std.specs.List.{slice_get}
use Rattle.std.specs.Ordering.{nat_cmp}
use Rattle.std.specs.declared.cmp.Ordering.TheVariants.{Less, Greater}
use Rattle.std.specs.declared.ops.Bound.TheVariants.{Excluded, Unbounded}
use Rattle.std.specs.Map.{set_value}
use Rattle.std.specs.BTreeMap.{insert_entry, is_at}
use Rattle.std.specs.BTreeMap.Range.{entries_between, range_contains}
use Rattle.streams.specs.declared.outstanding.Outstanding.{Outstanding}
use Rattle.streams.specs.declared.piece.Piece.{Piece}
use Rattle.streams.specs.Pieces.{Adjoin, IsCut, alike, cut, begun, cut_in, inner, known, known_from, lower, past, piece_after, shown, upper}
use Rattle.streams.proofs.Covers.{covered-gone}
use Rattle.streams.proofs.RangeLemmas.{after_test, first_filtered}
use Rattle.streams.proofs.RangeEdits.{cmp_greater, cmp_less, cmp_same}

pub piece_after_is : (es r : List (ℕ × Piece)) (p : ℕ) → r ≡ entries_between nat_cmp (Excluded p) Unbounded es → slice_get r 0 ≡ piece_after p es
piece_after_is es r p is =
    ap (λ (xs : List (ℕ × Piece)). slice_get xs 0) is
    ∙ (first_filtered (λ e. range_contains nat_cmp (Excluded p) Unbounded e.0) es ∙ (λ i. find (λ e. after_test p e.0 i) es))

-- where the first piece is that ends after a position
pub after_in : (es : List (ℕ × Piece)) (from upto p : ℕ) (d : ℕ × Piece) → Adjoin from upto es → piece_after p es ≡ Some d
    → (from ≤ d.1.start) × (d.1.start < d.0) × (p < d.0)
after_in [] from upto p d h is = absurd (none-some d is)
after_in (e ∷ es) from upto p d h is = by (nat_lt p e.0) refl (λ later. after_in es e.0 upto p d h.2 later)
  where
    start : e.1.start ≡ from
    start = h.0

    size : from < e.0
    size = h.1

    by : (b : Bool) → nat_lt p e.0 ≡ b → (piece_after p es ≡ Some d → (e.0 ≤ d.1.start) × (d.1.start < d.0) × (p < d.0))
        → (from ≤ d.1.start) × (d.1.start < d.0) × (p < d.0)
    by true under rest =
        subst (λ (x : ℕ × Piece). (from ≤ x.1.start) × (x.1.start < x.0) × (p < x.0)) (same_Some e d (rw under at is))
        (omega (arith, start), omega (arith, start, size), grind (arith, nat_tests, under))
    by false over rest =
        let later = rest (rw over at is) in
        let low : e.0 ≤ d.1.start = later.0 in
        (omega (arith, low, size), later.1, later.2)

-- what cutting makes of the first piece
pub cut_later : (e : ℕ × Piece) (es : List (ℕ × Piece)) (upto p : ℕ) → e.0 ≤ p → Adjoin e.0 upto es → cut p (e ∷ es) ≡ e ∷ cut p es
cut_later e es upto p under h =
    let passed : nat_lt p e.0 ≡ false = grind (arith, nat_tests, under) in
    rw passed (by (piece_after p es) refl)
  where
    by : (o : Option (ℕ × Piece)) → piece_after p es ≡ o → cut_in p (e ∷ es) o ≡ e ∷ cut_in p es o
    by None is = refl
    by (Some d) is = inside (nat_lt d.1.start p) refl
      where
        inside : (b : Bool) → nat_lt d.1.start p ≡ b → cut_in p (e ∷ es) (Some d) ≡ e ∷ cut_in p es (Some d)
        inside false late = rw late refl
        inside true begun =
            let found = after_in es e.0 upto p d h is in
            let low : e.0 ≤ d.1.start = found.0 in
            let size : d.1.start < d.0 = found.1 in
            let more : nat_cmp p e.0 ≡ Greater = cmp_greater p e.0 (grind (arith, nat_tests, low, begun)) in
            let past : nat_cmp d.0 e.0 ≡ Greater = cmp_greater d.0 e.0 (omega (arith, low, size)) in
            rw (begun, more, past) refl

pub cut_here : (e : ℕ × Piece) (es : List (ℕ × Piece)) (p : ℕ) → p < e.0 → e.1.start < p → cut p (e ∷ es) ≡ (p, lower e.1) ∷ (e.0, upper p e.1) ∷ es
cut_here e es p over begun =
    let after : nat_lt p e.0 ≡ true = grind (arith, nat_tests, over) in
    let here : nat_lt e.1.start p ≡ true = grind (arith, nat_tests, begun) in
    let less : nat_cmp p e.0 ≡ Less = cmp_less p e.0 over in
    let past : nat_cmp e.0 p ≡ Greater = cmp_greater e.0 p over in
    rw (after, here, less, past, cmp_same e.0) refl

pub cut_whole : (e : ℕ × Piece) (es : List (ℕ × Piece)) (p : ℕ) → p < e.0 → p ≤ e.1.start → cut p (e ∷ es) ≡ e ∷ es
cut_whole e es p over late =
    let after : nat_lt p e.0 ≡ true = grind (arith, nat_tests, over) in
    let behind : nat_lt e.1.start p ≡ false = grind (arith, nat_tests, late) in
    rw (after, behind) refl

pub cut_is : (es : List (ℕ × Piece)) (p : ℕ) (d : ℕ × Piece) → piece_after p es ≡ Some d → d.1.start < p
    → set_value (is_at (nat_cmp d.0)) (insert_entry nat_cmp es p (lower d.1)) (upper p d.1) ≡ cut p es
cut_is es p d is begun =
    let here : nat_lt d.1.start p ≡ true = grind (arith, nat_tests, begun) in
    rw is (rw here refl)

-- positions that are alike, in two parts
pub alike_parts : (x : Outstanding) (a b n : ℕ) → 0 < b → n ≡ a + b → alike (inner x) a ++ alike x b ≡ alike x n
alike_parts x zero b n some is = let same : b ≡ n = omega arith in ap (alike x) same
alike_parts x (suc a) zero n some is = absurd (omega arith)
alike_parts x (suc a) (suc b) zero some is = absurd (omega arith)
alike_parts x (suc zero) (suc b) (suc zero) some is = absurd (omega arith)
alike_parts x (suc zero) (suc b) (suc (suc n)) some is = let same : suc b ≡ suc n = omega arith in ap (λ (m : ℕ). inner x ∷ alike x m) same
alike_parts x (suc (suc a)) (suc b) (suc zero) some is = absurd (omega arith)
alike_parts x (suc (suc a)) (suc b) (suc (suc n)) some is =
    ap (λ (xs : List Outstanding). inner x ∷ xs) (alike_parts x (suc a) (suc b) (suc n) some (omega arith))

-- no piece is around a position at or before which they begin
pub cut_beyond : (es : List (ℕ × Piece)) (from upto p : ℕ) → p ≤ from → Adjoin from upto es → IsCut p es
cut_beyond [] from upto p low h = tt
cut_beyond (e ∷ es) from upto p low h =
    let start : e.1.start ≡ from = h.0 in
    let size : from < e.0 = h.1 in
    (grind (arith, nat_tests, start, low), cut_beyond es e.0 upto p (omega (arith, low, size)) h.2)

-- what a cut leaves
pub record Keeps (from upto p : ℕ) (es new : List (ℕ × Piece)) : Type 0 where
  pub view : shown new ≡ shown es
  pub adjoin : Adjoin from upto new
  pub apart : IsCut p new

pub cut_keeps : (es : List (ℕ × Piece)) (from upto p : ℕ) → Adjoin from upto es → Keeps from upto p es (cut p es)
cut_keeps [] from upto p h = record { view = refl; adjoin = h; apart = tt }
cut_keeps (e ∷ es) from upto p h = by (nat_lt p e.0) refl (nat_lt e.1.start p) refl (cut_keeps es e.0 upto p h.2)
  where
    start : e.1.start ≡ from
    start = h.0

    size : from < e.0
    size = h.1

    by : (b : Bool) → nat_lt p e.0 ≡ b → (c : Bool) → nat_lt e.1.start p ≡ c → Keeps e.0 upto p es (cut p es) → Keeps from upto p (e ∷ es) (cut p (e ∷ es))
    by false is c begun rest =
        let under : e.0 ≤ p = grind (arith, nat_tests, is) in
        subst (Keeps from upto p (e ∷ es)) (sym (cut_later e es upto p under h.2)) (record {
          view = ap (λ (xs : List Outstanding). alike e.1.state (e.0 - e.1.start) ++ xs) rest.view;
          adjoin = (h.0, h.1, rest.adjoin);
          apart = (grind (arith, nat_tests, under), rest.apart);
        })
    by true is true begun rest =
        let over : p < e.0 = grind (arith, nat_tests, is) in
        let low : e.1.start < p = grind (arith, nat_tests, begun) in
        subst (Keeps from upto p (e ∷ es)) (sym (cut_here e es p over low)) (record {
          view =
              sym (append_assoc (alike (inner e.1.state) (p - e.1.start)) (alike e.1.state (e.0 - p)) (shown es))
              ∙ ap (λ (xs : List Outstanding). xs ++ shown es)
              (alike_parts e.1.state (p - e.1.start) (e.0 - p) (e.0 - e.1.start) (omega (arith, over)) (omega (arith, over, low)));
          adjoin = (h.0, omega (arith, start, low), (refl, over, h.2));
          apart = (grind (arith, nat_tests), (grind (arith, nat_tests), cut_beyond es e.0 upto p (omega (arith, over)) h.2));
        })
    by true is false late rest =
        let over : p < e.0 = grind (arith, nat_tests, is) in
        let behind : p ≤ e.1.start = grind (arith, nat_tests, late) in
        subst (Keeps from upto p (e ∷ es)) (sym (cut_whole e es p over behind)) (record {
          view = refl;
          adjoin = h;
          apart = (grind (arith, nat_tests, behind), cut_beyond es e.0 upto p (omega (arith, over)) h.2);
        })

-- ---- pieces below a position go

pub past_none : (es : List (ℕ × Piece)) (p : ℕ) (e : ℕ × Piece) → slice_get es 0 ≡ Some e → p < e.0 → past p es ≡ es
past_none [] p e is over = absurd (none-some e is)
past_none (d ∷ es) p e is over =
    let same : d ≡ e = same_Some d e is in
    let stays : nat_le d.0 p ≡ false = subst (λ (x : ℕ × Piece). nat_le x.0 p ≡ false) (sym same) (grind (arith, nat_tests, over)) in
    rw stays refl

pub past_step : (es rest : List (ℕ × Piece)) (p : ℕ) (e : ℕ × Piece) → es ≡ e ∷ rest → e.0 ≤ p → past p rest ≡ past p es
past_step es rest p e is under =
    let gone : nat_le e.0 p ≡ true = grind (arith, nat_tests, under) in
    rw is (rw gone refl)

pub length_alike : (x : Outstanding) (n : ℕ) → length (alike x n) ≡ n
length_alike x zero = refl
length_alike x (suc zero) = refl
length_alike x (suc (suc n)) = ap suc (length_alike x (suc n))

pub length_shown : (es : List (ℕ × Piece)) (from upto : ℕ) → Adjoin from upto es → from + length (shown es) ≡ upto
length_shown [] from upto h = let same : from ≡ upto = h in omega arith
length_shown (e ∷ es) from upto h =
    let start : e.1.start ≡ from = h.0 in
    let size : from < e.0 = h.1 in
    let first = length_alike e.1.state (e.0 - e.1.start) in
    let rest = length_shown es e.0 upto h.2 in
    let both : length (shown (e ∷ es)) ≡ length (alike e.1.state (e.0 - e.1.start)) + length (shown es) =
    length-append (alike e.1.state (e.0 - e.1.start)) (shown es) in
    omega (arith, start, size, first, rest, both)

-- what is left of those that end after it
pub record Loses (from upto p : ℕ) (es new : List (ℕ × Piece)) : Type 0 where
  pub view : shown new ≡ drop (p - from) (shown es)
  pub adjoin : Adjoin p upto new

past_first : (e : ℕ × Piece) (es : List (ℕ × Piece)) (p : ℕ) → e.0 ≤ p → begun p (past p (e ∷ es)) ≡ begun p (past p es)
past_first e es p under = let gone : nat_le e.0 p ≡ true = grind (arith, nat_tests, under) in rw gone refl

past_here : (e : ℕ × Piece) (es : List (ℕ × Piece)) (p : ℕ) → p < e.0 → begun p (past p (e ∷ es)) ≡ (e.0, upper (max e.1.start p) e.1) ∷ es
past_here e es p over =
    let stays : nat_le e.0 p ≡ false = grind (arith, nat_tests, over) in
    let after : nat_lt p e.0 ≡ true = grind (arith, nat_tests, over) in
    rw (stays, after, cmp_same e.0) refl

pub drop_all : {X : Type 0} (k n : ℕ) (xs ys : List X) → length xs ≡ n → n ≤ k → drop (k - n) ys ≡ drop k (xs ++ ys)
drop_all {X} k n xs ys long under =
    let all : length xs + (k - n) ≡ k = omega (arith, long, under) in
    sym (drop-append-add xs ys (k - n)) ∙ ap (λ (m : ℕ). drop {A = X} m (xs ++ ys)) all

drop_part : (x : Outstanding) (k n : ℕ) (ys : List Outstanding) → k < n → alike x (n - k) ++ ys ≡ drop k (alike x n ++ ys)
drop_part x k n ys under =
    sym (drop-append_seam (alike (inner x) k) (alike x (n - k) ++ ys))
    ∙ (ap (λ (m : ℕ). drop m (alike (inner x) k ++ (alike x (n - k) ++ ys))) (length_alike (inner x) k)
    ∙ (ap (drop k) (sym (append_assoc (alike (inner x) k) (alike x (n - k)) ys))
    ∙ ap (λ (zs : List Outstanding). drop k (zs ++ ys)) (alike_parts x k (n - k) n (omega (arith, under)) (omega (arith, under)))))

pub past_loses : (es : List (ℕ × Piece)) (from upto p : ℕ) → Adjoin from upto es → from ≤ p → p ≤ upto → Loses from upto p es (begun p (past p es))
past_loses [] from upto p h low high =
    let same : from ≡ upto = h in
    let here : p ≡ upto = omega arith in
    let none : p - from ≡ 0 = omega arith in
    record { view = rw none refl; adjoin = here }
past_loses (e ∷ es) from upto p h low high = by (nat_le e.0 p) refl (λ under. past_loses es e.0 upto p h.2 under high)
  where
    start : e.1.start ≡ from
    start = h.0

    size : from < e.0
    size = h.1

    by : (b : Bool) → nat_le e.0 p ≡ b → (e.0 ≤ p → Loses e.0 upto p es (begun p (past p es))) → Loses from upto p (e ∷ es) (begun p (past p (e ∷ es)))
    by true is rest =
        let under : e.0 ≤ p = grind (arith, nat_tests, is) in
        let later = rest under in
        let parts : (p - from) - (e.0 - e.1.start) ≡ p - e.0 = omega (arith, start, size, under) in
        subst (Loses from upto p (e ∷ es)) (sym (past_first e es p under)) (record {
          view = later.view ∙ (ap (λ (n : ℕ). drop n (shown es)) (sym parts)
              ∙ drop_all (p - from) (e.0 - e.1.start) (alike e.1.state (e.0 - e.1.start)) (shown es) (length_alike e.1.state (e.0 - e.1.start))
              (omega (arith, start, size, under)));
          adjoin = later.adjoin;
        })
    by false is rest =
        let over : p < e.0 = grind (arith, nat_tests, is) in
        let at : max e.1.start p ≡ p = omega (arith, start, low) in
        let left : e.0 - max e.1.start p ≡ (e.0 - e.1.start) - (p - from) = omega (arith, start, low, over) in
        subst (Loses from upto p (e ∷ es)) (sym (past_here e es p over)) (record {
          view = ap (λ (n : ℕ). alike e.1.state n ++ shown es) left
              ∙ drop_part e.1.state (p - from) (e.0 - e.1.start) (shown es) (omega (arith, start, low, over));
          adjoin = (at, over, h.2);
        })

-- ---- what is known of each position

pub length_known : (es : List (ℕ × Piece)) (snd_una upto : ℕ) → Adjoin snd_una upto es → length (known snd_una es) ≡ upto
length_known es snd_una upto h =
    let all = length-append (replicate {A = Option Outstanding} snd_una None) (map (λ x. Some x) (shown es)) in
    let gone = length-replicate {A = Option Outstanding} snd_una None in
    let rest = length-map (shown es) (λ (x : Outstanding). Some x) in
    let both = length_shown es snd_una upto h in
    omega (arith, all, gone, rest, both)

pub known_past : (es new : List (ℕ × Piece)) (snd_una upto n p : ℕ) → Adjoin snd_una upto es → snd_una ≤ p → p ≡ min n upto
    → shown new ≡ drop (p - snd_una) (shown es) → known p new ≡ known_from n (known snd_una es)
known_past es new snd_una upto n p h low is left =
    let rest = length-map (shown es) (λ (x : Outstanding). Some x) in
    let both = length_shown es snd_una upto h in
    let count : p - snd_una ≡ min (n - snd_una) (length (map (λ (x : Outstanding). Some x) (shown es))) = omega (arith, rest, both, low, is) in
    let to : p ≡ snd_una + (p - snd_una) = omega (arith, low) in
    let kept : map (λ (x : Outstanding). Some x) (shown new) ≡ drop (p - snd_una) (map (λ (x : Outstanding). Some x) (shown es)) =
    ap (map (λ (x : Outstanding). Some x)) left ∙ sym (drop-map (λ (x : Outstanding). Some x) (p - snd_una) (shown es)) in
    (λ i. replicate {A = Option Outstanding} (to i) None ++ kept i)
    ∙ covered-gone None snd_una n (p - snd_una) (map (λ (x : Outstanding). Some x) (shown es)) count

pub known_same : (es : List (ℕ × Piece)) (snd_una n : ℕ) → n ≤ snd_una → known snd_una es ≡ known_from n (known snd_una es)
known_same es snd_una n low =
    let count : 0 ≡ min (n - snd_una) (length (map (λ (x : Outstanding). Some x) (shown es))) = omega (arith, low) in
    let to : snd_una ≡ snd_una + 0 = omega arith in
    ap (λ (m : ℕ). replicate {A = Option Outstanding} m None ++ map (λ (x : Outstanding). Some x) (shown es)) to
    ∙ covered-gone None snd_una n 0 (map (λ (x : Outstanding). Some x) (shown es)) count
