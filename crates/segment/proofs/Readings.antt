-- What is found from left to right is the segment or the first fault of bytes.
use Rattle.std.proofs.Common.{◌≡◌, ◌≢◌, ◌≤◌, ◌<◌, ℕ, zero, suc, ◌+◌, ◌-◌, List, [], ◌∷◌, ◌++◌, length, take, drop}
use Rattle.std.proofs.Common.{Option, Some, None, Result, Ok, Err, refl, sym, ◌∙◌, ap, subst, arith, inl, inr}
use Rattle.std.specs.Prelude.{◌==◌, ◌&&◌, ◌||◌, nat_lt, nat_le, IfOk, IfErr, Bool, false}
use Rattle.std.specs.List.{list_any}
use Rattle.std.specs.Option.{option_map, option_map_or}
use Rattle.std.proofs.lemmas.Bool.{eqb-true, eqb-false, leb-true, le-leb, ltb-true, ltb-false, and_parts, and_from, or_parts, or_cases, cond_both, both_ways}
use Rattle.std.proofs.lemmas.List.{take-append-drop, length-take, length-drop}
use Rattle.segment.specs.declared.fault.SegFault.{SegFault}
use Rattle.segment.specs.declared.fault.SegFault.TheVariants.{Short, Offset, OptionLength, TooLong, OutOfMemory}
use Rattle.segment.specs.declared.fields.Segment.{Segment}
use Rattle.segment.specs.Options.{Item, padding, option, IsEnd, IsNext, IsCut, HasNoItems}
use Rattle.segment.specs.Layout.{IsSegment, IsFault, HasHeader, max_len, header_len, options_of}
use Rattle.segment.specs.Reading.{in_front, is_sack_permission, option_items, items_within, items_of, with_items, segment_of, Gives, ReadsByLayout}
use Rattle.segment.proofs.Cuts.{HasNoItems-before, IsCut-unique, no_items}
use Rattle.segment.proofs.Unique.{IsSegment-unique, IsFault-no_segment}

-- items are those of the bytes; where there are none, no items are
abbrev IsCutting : List ℕ → Option (List Item) → Type 0
IsCutting bytes None = HasNoItems bytes
IsCutting bytes (Some items) = IsCut items bytes

in_front-cuts : (item : Item) (rest bytes : List ℕ) (items : Option (List Item)) → IsNext item rest bytes
    → IsCutting rest items → IsCutting bytes (in_front item items)
in_front-cuts item rest bytes None next none = HasNoItems-before item rest bytes next none
in_front-cuts item rest bytes (Some items) next cut = (rest, next, cut)

option_items-cuts : (n kind : ℕ) (rest : List ℕ) → kind ≢ 0 → kind ≢ 1
    → ((after : List ℕ) → length after < n → IsCutting after (items_within n after)) → length rest < n
    → IsCutting (kind ∷ rest) (option_items (items_within n) kind rest)
option_items-cuts n kind [] no_end no_padding cuts lt = no_items (kind ∷ []) (omega arith) no_end no_padding (λ long least within. omega arith)
option_items-cuts n kind (len ∷ rest) no_end no_padding cuts lt = cond_both (nat_le 2 len && nat_le len (length rest + 2)) _ _ (IsCutting (kind ∷ len ∷ rest))
    (λ fits. let parts = and_parts _ _ fits in
    let least : 2 ≤ len = leb-true _ _ parts.0 in
    let most : len ≤ length rest + 2 = leb-true _ _ parts.1 in
    let content_len : length (take (len - 2) rest) ≡ len - 2 = omega (arith, length-take (len - 2) rest) in
    let same_len : length (take (len - 2) rest) + 2 ≡ len = omega arith in
    let parts_are : kind ∷ len ∷ rest
    ≡ kind ∷ (length (take (len - 2) rest) + 2) ∷ (take (len - 2) rest ++ drop (len - 2) rest) =
    rw (same_len, take-append-drop) refl in
    in_front-cuts (option kind (take (len - 2) rest)) (drop (len - 2) rest) (kind ∷ len ∷ rest) (items_within n (drop (len - 2) rest))
    (record { fits = (no_end, no_padding); parts = parts_are })
    (cuts (drop (len - 2) rest) (omega (arith, length-drop (len - 2) rest))))
    (λ unfit. no_items (kind ∷ len ∷ rest) (omega arith) no_end no_padding
    (λ long least within. both_ways _ unfit (and_from _ _ (le-leb 2 len (omega arith)) (le-leb len (length rest + 2) (omega arith)))))

items_within-cuts : (n : ℕ) (bytes : List ℕ) → length bytes < n → IsCutting bytes (items_within n bytes)
items_within-cuts zero bytes lt = absurd (omega arith)
items_within-cuts (suc n) [] lt = tt
items_within-cuts (suc n) (kind ∷ rest) lt = cond_both (kind == 0) _ _ (IsCutting (kind ∷ rest))
    (λ end. eqb-true kind 0 end)
    (λ no_end. cond_both (kind == 1) _ _ (IsCutting (kind ∷ rest))
    (λ one. let is : kind ≡ 1 = eqb-true kind 1 one in
    in_front-cuts padding rest (kind ∷ rest) (items_within n rest)
    (record { fits = tt; parts = ap (λ (k : ℕ). k ∷ rest) is }) (items_within-cuts n rest (omega arith)))
    (λ not_one. option_items-cuts n kind rest (eqb-false kind 0 no_end) (eqb-false kind 1 not_one)
    (λ after shorter. items_within-cuts n after shorter) (omega arith)))

-- what is found first of a list is first of its items
pub items_end : (bytes : List ℕ) → IsEnd bytes → items_of bytes ≡ Some []
items_end [] end = refl
items_end (kind ∷ rest) end = rw (end) refl

pub items_none : (bytes : List ℕ) → HasNoItems bytes → items_of bytes ≡ None
items_none bytes none = by (items_of bytes) (items_within-cuts (suc (length bytes)) bytes (omega arith))
  where
    by : (o : Option (List Item)) → IsCutting bytes o → o ≡ None
    by None cut = refl
    by (Some items) cut = absurd (none items cut)

pub items_next : (item : Item) (rest bytes : List ℕ) → IsNext item rest bytes → items_of bytes ≡ in_front item (items_of rest)
items_next item rest bytes next = by (items_of rest) (items_within-cuts (suc (length rest)) rest (omega arith))
  where
    same : (items : List Item) (o : Option (List Item)) → IsCut (item ∷ items) bytes → IsCutting bytes o → o ≡ Some (item ∷ items)
    same items None cut none = absurd (none (item ∷ items) cut)
    same items (Some others) cut is = ap Some (IsCut-unique others (item ∷ items) bytes is cut)

    by : (o : Option (List Item)) → IsCutting rest o → items_of bytes ≡ in_front item o
    by None none = items_none bytes (HasNoItems-before item rest bytes next none)
    by (Some items) cut = same items (items_of bytes) (rest, next, cut) (items_within-cuts (suc (length bytes)) bytes (omega arith))

-- whether an option permits selective acknowledgments, by what is found first
permitted_front : (item : Item) (items : Option (List Item))
    → option_map (list_any is_sack_permission) (in_front item items)
    ≡ option_map (λ later. is_sack_permission item || later) (option_map (list_any is_sack_permission) items)
permitted_front item None = refl
permitted_front item (Some items) = refl

pub permitted_next : (item : Item) (rest bytes : List ℕ) (later : Option Bool) → IsNext item rest bytes
    → later ≡ option_map (list_any is_sack_permission) (items_of rest)
    → option_map (list_any is_sack_permission) (items_of bytes) ≡ option_map (λ more. is_sack_permission item || more) later
permitted_next item rest bytes later next is =
    ap (option_map (list_any is_sack_permission)) (items_next item rest bytes next) ∙ permitted_front item (items_of rest)
    ∙ ap (option_map (λ more. is_sack_permission item || more)) (sym is)

pub permitted_end : (bytes : List ℕ) → IsEnd bytes → option_map (list_any is_sack_permission) (items_of bytes) ≡ Some false
permitted_end bytes end = ap (option_map (list_any is_sack_permission)) (items_end bytes end)

pub permitted_none : (bytes : List ℕ) → HasNoItems bytes → option_map (list_any is_sack_permission) (items_of bytes) ≡ None
permitted_none bytes none = ap (option_map (list_any is_sack_permission)) (items_none bytes none)

pub permitted_is : (items : Option (List Item)) (permits : Bool) → Some permits ≡ option_map (list_any is_sack_permission) items
    → permits ≡ option_map_or (list_any is_sack_permission) items false
permitted_is None permits is = absurd cc
permitted_is (Some items) permits is = cc

-- a segment is the bytes' own, and a fault their first
abbrev IsOfBytes : List ℕ → Result Segment SegFault → Type 0
IsOfBytes bytes (Ok s) = IsSegment bytes s
IsOfBytes bytes (Err e) = IsFault bytes e × (e ≢ OutOfMemory)

with_items-of_bytes : (bytes : List ℕ) (items : Option (List Item)) → HasHeader bytes
    → IsCutting (options_of bytes) items → IsOfBytes bytes (with_items bytes items)
with_items-of_bytes bytes None header none = ((header, none), λ e. cc)
with_items-of_bytes bytes (Some items) header cut = cond_both (nat_lt max_len (length bytes)) _ _ (IsOfBytes bytes)
    (λ long. ((header, (items, cut), ltb-true _ _ long), λ e. cc))
    (λ short. record { header = header; items = items; cut = cut; len = ltb-false _ _ short; fields = refl })

segment_of-of_bytes : (bytes : List ℕ) → IsOfBytes bytes (segment_of bytes)
unfolding segment_of
segment_of-of_bytes bytes = cond_both (nat_lt (length bytes) 20) _ _ (IsOfBytes bytes)
    (λ short. (ltb-true _ _ short, λ e. cc))
    (λ whole. cond_both (nat_lt (header_len bytes) 20 || nat_lt (length bytes) (header_len bytes)) _ _ (IsOfBytes bytes)
    (λ off. ((ltb-false _ _ whole, elim (or_cases _ _ off) [ inl low ↦ inl (ltb-true _ _ low) | inr past ↦ inr (ltb-true _ _ past) ]), λ e. cc))
    (λ on. let parts = or_parts _ _ on in
    with_items-of_bytes bytes (items_within (suc (length (options_of bytes))) (options_of bytes))
    (record { whole = ltb-false _ _ whole; least = ltb-false _ _ parts.0; within = ltb-false _ _ parts.1 })
    (items_within-cuts (suc (length (options_of bytes))) (options_of bytes) (omega arith))))

-- a header rules out the faults of a header
not_short : (bytes : List ℕ) → HasHeader bytes → IsFault bytes Short → ⊥
not_short bytes header fault = let whole = header.whole in omega arith

not_offset : (bytes : List ℕ) → HasHeader bytes → IsFault bytes Offset → ⊥
not_offset bytes header fault = elim fault.1 [ inl low ↦ let least = header.least in omega arith | inr past ↦ let within = header.within in omega arith ]

-- bytes have one first fault
IsFault-unique : (bytes : List ℕ) (e f : SegFault) → IsFault bytes e → IsFault bytes f → e ≢ OutOfMemory → f ≢ OutOfMemory → e ≡ f
IsFault-unique bytes Short Short p q en fn = refl
IsFault-unique bytes Short Offset p q en fn = absurd (let whole = q.0 in omega arith)
IsFault-unique bytes Short OptionLength p q en fn = absurd (not_short bytes q.0 p)
IsFault-unique bytes Short TooLong p q en fn = absurd (not_short bytes q.0 p)
IsFault-unique bytes Short OutOfMemory p q en fn = absurd (fn refl)
IsFault-unique bytes Offset Short p q en fn = absurd (let whole = p.0 in omega arith)
IsFault-unique bytes Offset Offset p q en fn = refl
IsFault-unique bytes Offset OptionLength p q en fn = absurd (not_offset bytes q.0 p)
IsFault-unique bytes Offset TooLong p q en fn = absurd (not_offset bytes q.0 p)
IsFault-unique bytes Offset OutOfMemory p q en fn = absurd (fn refl)
IsFault-unique bytes OptionLength Short p q en fn = absurd (not_short bytes p.0 q)
IsFault-unique bytes OptionLength Offset p q en fn = absurd (not_offset bytes p.0 q)
IsFault-unique bytes OptionLength OptionLength p q en fn = refl
IsFault-unique bytes OptionLength TooLong p q en fn = absurd (p.1 q.1.0 q.1.1)
IsFault-unique bytes OptionLength OutOfMemory p q en fn = absurd (fn refl)
IsFault-unique bytes TooLong Short p q en fn = absurd (not_short bytes p.0 q)
IsFault-unique bytes TooLong Offset p q en fn = absurd (not_offset bytes p.0 q)
IsFault-unique bytes TooLong OptionLength p q en fn = absurd (q.1 p.1.0 p.1.1)
IsFault-unique bytes TooLong TooLong p q en fn = refl
IsFault-unique bytes TooLong OutOfMemory p q en fn = absurd (fn refl)
IsFault-unique bytes OutOfMemory f p q en fn = absurd (en refl)

-- what is of the bytes is one, unless memory ran out
IsOfBytes-unique : (bytes : List ℕ) (r q : Result Segment SegFault) → IsOfBytes bytes r → IsOfBytes bytes q → r ≡ q
IsOfBytes-unique bytes (Ok s) (Ok t) p q = ap Ok (IsSegment-unique bytes s t p q)
IsOfBytes-unique bytes (Ok s) (Err e) p q = absurd (q.1 (IsFault-no_segment bytes e s q.0 p))
IsOfBytes-unique bytes (Err e) (Ok s) p q = absurd (p.1 (IsFault-no_segment bytes e s p.0 q))
IsOfBytes-unique bytes (Err e) (Err f) p q = ap Err (IsFault-unique bytes e f p.0 q.0 p.1 q.1)

pub gives : (bytes : List ℕ) (r : Result Segment SegFault) → IfOk r (λ s. IsSegment bytes s) → IfErr r (λ e. IsFault bytes e) → Gives r (segment_of bytes)
gives bytes (Ok s) found fault = IsOfBytes-unique bytes (segment_of bytes) (Ok s) (segment_of-of_bytes bytes) found
gives bytes (Err OutOfMemory) found fault = tt
gives bytes (Err Short) found fault = IsOfBytes-unique bytes (segment_of bytes) (Err Short) (segment_of-of_bytes bytes) (fault, λ e. cc)
gives bytes (Err Offset) found fault = IsOfBytes-unique bytes (segment_of bytes) (Err Offset) (segment_of-of_bytes bytes) (fault, λ e. cc)
gives bytes (Err OptionLength) found fault = IsOfBytes-unique bytes (segment_of bytes) (Err OptionLength) (segment_of-of_bytes bytes) (fault, λ e. cc)
gives bytes (Err TooLong) found fault = IsOfBytes-unique bytes (segment_of bytes) (Err TooLong) (segment_of-of_bytes bytes) (fault, λ e. cc)

pub reads_by_layout : ReadsByLayout
reads_by_layout = record {
  segments =
      λ bytes s. (
        λ is. subst (IsOfBytes bytes) is (segment_of-of_bytes bytes),
        λ segment. IsOfBytes-unique bytes (segment_of bytes) (Ok s) (segment_of-of_bytes bytes) segment,
      );
  faults =
      λ bytes e. (
        λ is. subst (IsOfBytes bytes) is (segment_of-of_bytes bytes),
        λ fault. IsOfBytes-unique bytes (segment_of bytes) (Err e) (segment_of-of_bytes bytes) fault,
      );
}
