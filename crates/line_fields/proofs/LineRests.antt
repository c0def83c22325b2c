-- A line's text and fields are read exactly where the bytes are a line within the limits.
use Rattle.std.proofs.Common.{◌≡◌, ℕ, List, [], ◌∷◌, Bool, true, false, cond, length, Result, Ok, Err, refl, sym, ap, subst, ◌∙◌, arith}
use Rattle.std.specs.Prelude.{nat_lt, not, map, ◌==◌}
use Rattle.std.specs.List.{AllByRecursion, slice_split}
use Rattle.std.specs.Str.{bytes_eq}
use Rattle.std.proofs.lemmas.Bool.{ltb-false, le-ltb}
use Rattle.std.proofs.lemmas.List.Splits.{length-slice_split}
use Rattle.std.proofs.lemmas.Slice.Eq.{bytes_eq-Decides}
use Rattle.bstr.specs.Text.{without_terminator}
use Rattle.line_fields.specs.declared.fault.TextFault.{TextFault}
use Rattle.line_fields.specs.declared.fault.FaultKind.TheVariants.{LineTooLong, Cut, TooManyLines}
use Rattle.line_fields.specs.Word.{Word, Rest, words_of, rest_of}
use Rattle.line_fields.specs.Reading.{◌>>=◌}
use Rattle.line_fields.specs.Lines.{NoReturn, IsRaw, IsLine, is_ended, whole_line, line_text, line_rest, exact_text, expect_line}
use Rattle.line_fields.specs.Reader.{texts}
use Rattle.line_fields.specs.Spelling.{IsClean, joined}
use Rattle.line_fields.proofs.Readers.{bind_ok, ok_is}
use Rattle.line_fields.proofs.Joined.{texts-words_of, join-split, split-join}
use Rattle.line_fields.proofs.Clean.{joined_no_return, joined_no_feed}
use Rattle.line_fields.proofs.Endings.{ending_taken, ending_again}

guard_text : (a b c : Bool) (x y z : TextFault) (r s : List ℕ)
    → cond a (Err x) (cond b (Err y) (cond c (Err z) (Ok r))) ≡ Ok s → (a ≡ false) × (b ≡ false) × (c ≡ false) × (r ≡ s)
guard_text true b c x y z r s e = absurd cc
guard_text false true c x y z r s e = absurd cc
guard_text false false true x y z r s e = absurd cc
guard_text false false false x y z r s e = (refl, refl, refl, cc)

not_not : (b : Bool) → not b ≡ false → b ≡ true
not_not true e = refl
not_not false e = absurd cc

-- the text of a line
pub text_takes : (number : ℕ) (raw text : List ℕ) → line_text number raw ≡ Ok text → IsLine number text raw
unfolding line_text
text_takes number raw text e =
    let own : List ℕ = without_terminator raw in
    let g = guard_text (nat_lt 140000 (length (without_terminator raw))) (not (is_ended raw)) (nat_lt 10000000 number)
    (record { kind = LineTooLong; span = whole_line number (without_terminator raw) })
    (record { kind = Cut; span = whole_line number (without_terminator raw) })
    (record { kind = TooManyLines; span = whole_line number (without_terminator raw) })
    (without_terminator raw) text e in
    subst (λ (t : List ℕ). IsLine number t raw) g.3 (record { ends = ending_taken raw (not_not _ g.1); short = ltb-false _ _ g.0; count = ltb-false _ _ g.2 })

pub text_again : (number : ℕ) (raw text : List ℕ) → NoReturn text → IsLine number text raw → line_text number raw ≡ Ok text
unfolding line_text
text_again number raw text never line =
    let end = ending_again raw text never line.ends in
    let same = end.0 in
    let ended = end.1 in
    let a = le-ltb 140000 (length text) line.short in
    let b = le-ltb 10000000 number line.count in
    rw (same, ended, a, b) refl

-- the fields of a line
record IsRest (number : ℕ) (raw : List ℕ) (r : Rest) : Type 0 where
  text : List ℕ
  line : IsLine number text raw
  is : r ≡ rest_of number text

abbrev rests : ℕ → List ℕ → Result Rest TextFault
rests number text = Ok (rest_of number text)

rest_takes : (number : ℕ) (raw : List ℕ) (r : Rest) → line_rest number raw ≡ Ok r → IsRest number raw r
unfolding line_rest
rest_takes number raw r e =
    let b = bind_ok (line_text number raw) (rests number) r e in
    record { text = b.0; line = text_takes number raw b.0 b.1; is = sym (ok_is (rest_of number b.0) r b.2) }

joined_is : (number : ℕ) (text : List ℕ) → joined (texts (rest_of number text)) ≡ text
joined_is number text = ap joined (texts-words_of number text) ∙ join-split text

-- what is read of a line are the fields that it joins
pub record IsFieldsOf (number : ℕ) (raw : List ℕ) (r : Rest) : Type 0 where
  pub line : IsLine number (joined (texts r)) raw
  pub stop : r.stop ≡ length (joined (texts r))

pub fields_taken : (number : ℕ) (raw : List ℕ) (r : Rest) → line_rest number raw ≡ Ok r → IsFieldsOf number raw r
fields_taken number raw r e =
    let p = rest_takes number raw r e in
    subst (λ (q : Rest). IsFieldsOf number raw q) (sym p.is) (record {
      line = subst (λ (t : List ℕ). IsLine number t raw) (sym (joined_is number p.text)) p.line;
      stop = ap length (sym (joined_is number p.text));
    })

-- a line has one field at least
pub some_word : (number : ℕ) (raw : List ℕ) (r : Rest) → line_rest number raw ≡ Ok r → r.words ≡ [] → ⊥
some_word number raw r e none =
    let p = rest_takes number raw r e in
    let words : words_of number p.text ≡ [] = ap (λ (q : Rest). q.words) (sym p.is) ∙ none in
    let parts : slice_split (λ b. b == 32) p.text ≡ [] = sym (texts-words_of number p.text) ∙ ap (λ (ws : List Word). map (λ w. w.text) ws) words in
    let count = length-slice_split (λ b. b == 32) p.text in
    let zero = ap length parts in
    omega (arith, count, zero)

-- clean fields that are joined to a line are read again
pub fields_again : (number : ℕ) (raw w : List ℕ) (ws : List (List ℕ)) → AllByRecursion IsClean (w ∷ ws) → IsLine number (joined (w ∷ ws)) raw
    → (line_rest number raw ≡ Ok (rest_of number (joined (w ∷ ws)))) × (texts (rest_of number (joined (w ∷ ws))) ≡ w ∷ ws)
unfolding line_rest
fields_again number raw w ws clean line =
    let read = text_again number raw (joined (w ∷ ws)) (joined_no_return (w ∷ ws) clean) line in
    (ap (λ (x : Result (List ℕ) TextFault). x >>= rests number) read, texts-words_of number (joined (w ∷ ws)) ∙ split-join w ws clean)

-- the same of fields of which there is one at least
pub fields_read : (number : ℕ) (raw : List ℕ) (ts : List (List ℕ)) (w : List ℕ) (ws : List (List ℕ)) → ts ≡ w ∷ ws
    → AllByRecursion IsClean ts → IsLine number (joined ts) raw
    → (line_rest number raw ≡ Ok (rest_of number (joined ts))) × (texts (rest_of number (joined ts)) ≡ ts)
fields_read number raw [] w ws some clean line = absurd cc
fields_read number raw (t ∷ ts) w ws some clean line = fields_again number raw t ts clean line

-- clean fields that are joined to a line hold no LF before its end
pub is_raw : (number : ℕ) (ws : List (List ℕ)) (raw : List ℕ) → AllByRecursion IsClean ws → IsLine number (joined ws) raw → IsRaw raw
is_raw number ws raw clean line = (joined ws, joined_no_feed ws clean, line.ends)

-- ---- a line that has to stand as it is

guard_exact : (b : Bool) (e : TextFault) (u v : Unit {0}) → cond b (Ok u) (Err e) ≡ Ok v → b ≡ true
guard_exact true e u v h = refl
guard_exact false e u v h = absurd cc

pub exact_takes : (number : ℕ) (wanted raw : List ℕ) (u : Unit {0}) → expect_line number wanted raw ≡ Ok u → IsLine number wanted raw
unfolding expect_line
exact_takes number wanted raw u e =
    let b = bind_ok (line_text number raw) (λ text. exact_text number wanted text) u e in
    let same = (bytes_eq-Decides b.0 wanted).0 (guard_exact (bytes_eq b.0 wanted) _ tt u b.2) in
    subst (λ (t : List ℕ). IsLine number t raw) same (text_takes number raw b.0 b.1)

pub exact_again : (number : ℕ) (wanted raw : List ℕ) → NoReturn wanted → IsLine number wanted raw → expect_line number wanted raw ≡ Ok tt
unfolding expect_line
exact_again number wanted raw never line =
    let read = text_again number raw wanted never line in
    let same : bytes_eq wanted wanted ≡ true = (bytes_eq-Decides wanted wanted).1 refl in
    rw (read, same) refl
