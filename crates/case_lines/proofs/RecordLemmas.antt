-- What records, lengths and bytes stand for, one record more or less.
use Rattle.std.proofs.Common.{◌≡◌, ◌≤◌, ◌+◌, ◌-◌, ℕ, List, [], ◌∷◌, ◌++◌, length, take, drop, Result, Ok, Option, Some, refl, sym, ap, ◌∙◌, arith}
use Rattle.std.proofs.Common.{Bool, true, false, if◌then◌else◌, sum, length-append, length-drop, drop-cons, add-one, get_or, ◌<◌, suc, subst}
use Rattle.std.proofs.lemmas.List.{take_all, take-append-le, drop-append-le, drop-drop, drop_all}
use Rattle.std.proofs.lemmas.List.Sums.{sum_by-take-drop, sum_by-append}
use Rattle.segment.specs.declared.fault.SegFault.{SegFault}
use Rattle.segment.specs.declared.fields.Segment.{Segment}
use Rattle.segment.specs.Layout.{IsSegment}
use Rattle.segment.specs.Reading.{segment_of}
use Rattle.segment.proofs.Readings.{reads_by_layout}
use Rattle.case_forms.specs.Wires.{Seen}
use Rattle.case_forms.specs.declared.trace.Line.{Line}
use Rattle.case_lines.specs.Lines.{Takes, Follows}
use Rattle.case_lines.specs.declared.record.KeptEvent.{KeptEvent}
use Rattle.case_lines.specs.declared.record.Record.{Record}
use Rattle.case_lines.specs.Records.{read_segment, seen_of, line_of, lines_of, lens_count, lines_left, AreWhole, IsCounted}
use Rattle.case_lines.specs.Records.{has_bytes, len_count, lens_of, first_len}

-- a wire is its bytes with the segment that they encode
pub seen_of_is : (wire : Seen) → IsSegment wire.bytes wire.seg → seen_of wire.bytes ≡ wire
unfolding seen_of
seen_of_is wire h =
    let e : segment_of wire.bytes ≡ Ok wire.seg = (reads_by_layout.segments wire.bytes wire.seg).1 h in
    let f : Result Segment SegFault → Seen = λ r. record { bytes = wire.bytes; seg = read_segment wire.bytes r } in
    ap f e

-- as many bytes as there are, are all of them
take_whole : (n : ℕ) (xs : List ℕ) → n ≡ length xs → take n xs ≡ xs
take_whole n xs e = take_all n xs (omega arith)

-- the first numbers and the others have the sum of all
sum_parts : (k : ℕ) (xs : List ℕ) → sum (take k xs) + sum (drop k xs) ≡ sum xs
sum_parts k xs = sum_by-take-drop (λ (x : ℕ). x) xs k

-- the lengths of one more record follow those of the others
lens_count-push : (rs : List Record) (r : Record) → lens_count (rs ++ r ∷ []) ≡ lens_count rs + len_count r.event
unfolding lens_count
lens_count-push [] r = omega arith
lens_count-push (s ∷ rs) r = omega (arith, lens_count-push rs r)

-- the lengths kept for an event with these bytes
pub record AreLens (event : KeptEvent) (ls more : List ℕ) : Type 0 where
  pub count : len_count event ≡ length ls
  pub len : sum ls ≡ length more

len_of_is : (b : Bool) (more : List ℕ) → (b ≡ false → more ≡ [])
    → ((if b then 1 else 0) ≡ length (if b then length more ∷ [] else []))
    × (sum (if b then length more ∷ [] else []) ≡ length more)
len_of_is true more none = (refl, omega arith)
len_of_is false more none = (refl, rw (none refl) refl)

pub lens_of_are : (event : KeptEvent) (more : List ℕ) → (has_bytes event ≡ false → more ≡ [])
    → AreLens event (lens_of event (length more)) more
lens_of_are event more none =
    let both = len_of_is (has_bytes event) more none in
    record { count = both.0; len = both.1 }

-- the lengths of the first of some lines, and those of the others
record IsParted (r : Record) (rs : List Record) (lens bytes : List ℕ) : Type 0 where
  first : len_count r.event ≤ length lens
  len : first_len r.event lens ≤ length bytes
  rest_lens : lens_count rs ≡ length (drop (len_count r.event) lens)
  rest_bytes : sum (drop (len_count r.event) lens) ≡ length (drop (first_len r.event lens) bytes)

parted : (r : Record) (rs : List Record) (lens bytes : List ℕ) → lens_count (r ∷ rs) ≡ length lens → sum lens ≡ length bytes
    → IsParted r rs lens bytes
unfolding lens_count
parted r rs lens bytes l b =
    let k = len_count r.event in
    let parts = sum_parts k lens in
    record {
      first = omega arith;
      len = omega arith;
      rest_lens = omega (arith, length-drop k lens);
      rest_bytes = omega (arith, length-drop (first_len r.event lens) bytes);
    }

-- one more record with its lengths and bytes is one more line
lines_of-push : (n : ℕ) (rs : List Record) (lens bytes : List ℕ) (r : Record) (ls more : List ℕ)
    → lens_count rs ≡ length lens → sum lens ≡ length bytes → AreLens r.event ls more
    → lines_of n (rs ++ r ∷ []) (lens ++ ls) (bytes ++ more) ≡ lines_of n rs lens bytes ++ line_of (n + length rs) r more ∷ []
unfolding lines_of lens_count
lines_of-push n [] [] [] r ls more l b h =
    let e : first_len r.event ls ≡ length more = ap sum (take_whole (len_count r.event) ls h.count) ∙ h.len in
    rw (take_whole (first_len r.event ls) more e) (ap (λ (m : ℕ). line_of m r more ∷ []) (omega arith))
lines_of-push n [] [] (x ∷ bytes) r ls more l b h = absurd (omega arith)
lines_of-push n [] (x ∷ lens) bytes r ls more l b h = absurd (omega arith)
lines_of-push n (s ∷ rs) lens bytes r ls more l b h =
    let p = parted s rs lens bytes l b in
    let e : n + 1 + length rs ≡ n + length (s ∷ rs) = omega arith in
    rw (
      take-append-le (len_count s.event) lens ls p.first,
      drop-append-le (len_count s.event) lens ls p.first,
      take-append-le (first_len s.event lens) bytes more p.len,
      drop-append-le (first_len s.event lens) bytes more p.len,
      lines_of-push (n + 1) rs (drop (len_count s.event) lens) (drop (first_len s.event lens) bytes) r ls more p.rest_lens p.rest_bytes h,
      e,
    ) refl

-- an empty chunk
pub counted_none : IsCounted 0 [] [] [] 0 0 0
unfolding lens_count
counted_none = record {
  taken_within = omega arith;
  measured_within = omega arith;
  read_within = omega arith;
  others = record { all_lens = refl; all_bytes = refl; numbers = omega arith };
}

pub left_none : lines_left 0 [] [] [] 0 0 0 ≡ []
unfolding lines_left lines_of
left_none = refl

-- there are as many lines as records
lines_length : (n : ℕ) (rs : List Record) (lens bytes : List ℕ) → length (lines_of n rs lens bytes) ≡ length rs
unfolding lines_of
lines_length n [] lens bytes = refl
lines_length n (r ∷ rs) lens bytes =
    omega (arith, lines_length (n + 1) rs (drop (len_count r.event) lens) (drop (first_len r.event lens) bytes))

-- the number behind all of them comes next
next_follows : (n : ℕ) (rs : List Record) (lens bytes : List ℕ) (next : ℕ) → n + length rs ≡ next
    → Follows (lines_of n rs lens bytes) next
unfolding lines_of line_of
next_follows n [] lens bytes next e = tt
next_follows n (r ∷ rs) lens bytes next e =
    omega (arith, lines_length (n + 1) rs (drop (len_count r.event) lens) (drop (first_len r.event lens) bytes))

-- if a number comes next, the number of the first line is as many less as there are lines
record IsNumbered (n : ℕ) (rs : List Record) (lens bytes : List ℕ) (next : ℕ) : Type 0 where
  within : length rs ≤ next
  same : lines_of (next - length rs) rs lens bytes ≡ lines_of n rs lens bytes

numbered : (n : ℕ) (rs : List Record) (lens bytes : List ℕ) (next : ℕ) → Follows (lines_of n rs lens bytes) next
    → IsNumbered n rs lens bytes next
unfolding lines_of line_of
numbered n [] lens bytes next h = record { within = omega arith; same = refl }
numbered n (r ∷ rs) lens bytes next h =
    let count = lines_length (n + 1) rs (drop (len_count r.event) lens) (drop (first_len r.event lens) bytes) in
    let e : next - length (r ∷ rs) ≡ n = omega arith in
    record { within = omega arith; same = ap (λ (m : ℕ). lines_of m (r ∷ rs) lens bytes) e }

-- if a number comes next, a line of that number goes behind the others
record IsPushed (n : ℕ) (rs : List Record) (lens bytes : List ℕ) (next : ℕ) (r : Record) (ls more : List ℕ) : Type 0 where
  whole : AreWhole (next - length rs) (rs ++ r ∷ []) (lens ++ ls) (bytes ++ more)
  lines : lines_of (next - length rs) (rs ++ r ∷ []) (lens ++ ls) (bytes ++ more)
      ≡ lines_of n rs lens bytes ++ line_of next r more ∷ []

sum-append : (xs ys : List ℕ) → sum (xs ++ ys) ≡ sum xs + sum ys
sum-append xs ys = sum_by-append (λ (x : ℕ). x) xs ys

pushed : (n : ℕ) (rs : List Record) (lens bytes : List ℕ) (next : ℕ) (r : Record) (ls more : List ℕ)
    → AreWhole n rs lens bytes → Follows (lines_of n rs lens bytes) next → next ≤ 10000000 → AreLens r.event ls more
    → IsPushed n rs lens bytes next r ls more
pushed n rs lens bytes next r ls more w f most h =
    let i = numbered n rs lens bytes next f in
    let within = i.within in
    let e : next - length rs + length rs ≡ next = omega arith in
    let l = w.all_lens in
    let b = w.all_bytes in
    let hc = h.count in
    let hl = h.len in
    record {
      whole = record {
        all_lens = omega (arith, lens_count-push rs r, length-append lens ls);
        all_bytes = omega (arith, sum-append lens ls, length-append bytes more);
        numbers = omega (arith, length-append rs (r ∷ []));
      };
      lines = lines_of-push (next - length rs) rs lens bytes r ls more l b h ∙ rw (i.same, e) refl;
    }

-- the same in a chunk
pub record IsLonger (n : ℕ) (rs : List Record) (lens bytes : List ℕ) (t m d : ℕ) (next : ℕ) (r : Record)
    (ls more : List ℕ) : Type 0 where
  pub within : length rs - t ≤ next
  pub counted : IsCounted (next - (length rs - t)) (rs ++ r ∷ []) (lens ++ ls) (bytes ++ more) t m d
  pub lines : lines_left (next - (length rs - t)) (rs ++ r ∷ []) (lens ++ ls) (bytes ++ more) t m d
      ≡ lines_left n rs lens bytes t m d ++ line_of next r more ∷ []

pub longer : (n : ℕ) (rs : List Record) (lens bytes : List ℕ) (t m d : ℕ) (next : ℕ) (r : Record) (ls more : List ℕ)
    → IsCounted n rs lens bytes t m d → Follows (lines_left n rs lens bytes t m d) next → next ≤ 10000000
    → AreLens r.event ls more → IsLonger n rs lens bytes t m d next r ls more
unfolding lines_left
longer n rs lens bytes t m d next r ls more c f most h =
    let p = pushed n (drop t rs) (drop m lens) (drop d bytes) next r ls more c.others f most h in
    let i = numbered n (drop t rs) (drop m lens) (drop d bytes) next f in
    let iw = i.within in
    let ct = c.taken_within in
    let cm = c.measured_within in
    let cd = c.read_within in
    let e : length rs - t ≡ length (drop t rs) = omega (arith, length-drop t rs) in
    record {
      within = omega (arith, length-drop t rs);
      counted = record {
        taken_within = omega (arith, length-append rs (r ∷ []));
        measured_within = omega (arith, length-append lens ls);
        read_within = omega (arith, length-append bytes more);
        others = rw (e, drop-append-le t rs (r ∷ []) ct, drop-append-le m lens ls cm, drop-append-le d bytes more cd) p.whole;
      };
      lines = rw (e, drop-append-le t rs (r ∷ []) ct, drop-append-le m lens ls cm, drop-append-le d bytes more cd) p.lines;
    }

-- a chunk has room for a line with the number behind all of its own
pub room_follows : (n : ℕ) (rs : List Record) (lens bytes : List ℕ) (t m d : ℕ) (next : ℕ) → t ≤ length rs
    → n + (length rs - t) ≡ next → Follows (lines_left n rs lens bytes t m d) next
unfolding lines_left
room_follows n rs lens bytes t m d next within e =
    next_follows n (drop t rs) (drop m lens) (drop d bytes) next (omega (arith, length-drop t rs))

-- nothing is left if all records are taken, and only then
pub left_all : (n : ℕ) (rs : List Record) (lens bytes : List ℕ) (t m d : ℕ) → t ≡ length rs
    → lines_left n rs lens bytes t m d ≡ []
unfolding lines_left lines_of
left_all n rs lens bytes t m d e = rw (drop_all t rs (omega arith)) refl

-- the first record that is left, and the others
first_of : (rs : List Record) (t : ℕ) (r : Record) → t < length rs → r ≡ get_or rs t r → drop t rs ≡ r ∷ drop (t + 1) rs
first_of rs t r below is = rw add-one (drop-cons rs t r below ∙ ap (λ (x : Record). x ∷ drop (suc t) rs) (sym is))

pub taken_all : (n : ℕ) (rs : List Record) (lens bytes : List ℕ) (t m d : ℕ) → IsCounted n rs lens bytes t m d
    → lines_left n rs lens bytes t m d ≡ [] → t ≡ length rs
unfolding lines_left
taken_all n rs lens bytes t m d h e =
    let within = h.taken_within in
    let count = lines_length n (drop t rs) (drop m lens) (drop d bytes) in
    let none : length (lines_of n (drop t rs) (drop m lens) (drop d bytes)) ≡ 0 = ap length e in
    omega (arith, length-drop t rs)

-- the first line that is left, which has the first of the lengths and bytes that are left
pub record IsFirst (n : ℕ) (rs : List Record) (lens bytes : List ℕ) (t m d : ℕ) (r : Record) : Type 0 where
  pub number : n ≤ 10000000
  pub measured : m + len_count r.event ≤ length lens
  pub read : d + first_len r.event (drop m lens) ≤ length bytes
  pub counted : IsCounted (n + 1) rs lens bytes (t + 1) (m + len_count r.event) (d + first_len r.event (drop m lens))
  pub lines : lines_left n rs lens bytes t m d ≡ line_of n r (take (first_len r.event (drop m lens)) (drop d bytes))
      ∷ lines_left (n + 1) rs lens bytes (t + 1) (m + len_count r.event) (d + first_len r.event (drop m lens))

pub first_left : (n : ℕ) (rs : List Record) (lens bytes : List ℕ) (t m d : ℕ) (r : Record) → IsCounted n rs lens bytes t m d
    → t < length rs → r ≡ get_or rs t r → IsFirst n rs lens bytes t m d r
unfolding lines_left lines_of
first_left n rs lens bytes t m d r h below is =
    let e = first_of rs t r below is in
    let k = len_count r.event in
    let l = first_len r.event (drop m lens) in
    let w : AreWhole n (r ∷ drop (t + 1) rs) (drop m lens) (drop d bytes) =
    subst (λ (xs : List Record). AreWhole n xs (drop m lens) (drop d bytes)) e h.others in
    let p = parted r (drop (t + 1) rs) (drop m lens) (drop d bytes) w.all_lens w.all_bytes in
    let pf = p.first in
    let pl = p.len in
    let wn = w.numbers in
    let hm = h.measured_within in
    let hd = h.read_within in
    let measured : m + k ≤ length lens = omega (arith, length-drop m lens) in
    let read : d + l ≤ length bytes = omega (arith, length-drop d bytes) in
    record {
      number = omega arith;
      measured = measured;
      read = read;
      counted = record {
        taken_within = omega arith;
        measured_within = measured;
        read_within = read;
        others = record {
          all_lens = p.rest_lens ∙ ap (λ (xs : List ℕ). length xs) (drop-drop k m lens);
          all_bytes = ap sum (sym (drop-drop k m lens)) ∙ p.rest_bytes ∙ ap (λ (xs : List ℕ). length xs) (drop-drop l d bytes);
          numbers = omega arith;
        };
      };
      lines = rw e (ap (λ (rest : List Line). line_of n r (take l (drop d bytes)) ∷ rest)
          (rw (drop-drop k m lens, drop-drop l d bytes) refl));
    }

-- the item is the first line, and the others are left
pub takes_first : (old rest new : List Line) (line : Line) (item : Option Line) → old ≡ line ∷ rest → item ≡ Some line → new ≡ rest
    → Takes old new item
takes_first old rest new line item o i n =
    let P : List Line → Type 0 = λ xs. Takes xs new item in
    subst P (sym o) (i, n)
