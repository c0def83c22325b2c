-- The header's lines are read exactly where their bytes spell them.
use Rattle.std.proofs.Common.{◌≤◌, ◌<◌, ◌^◌, ◌+◌, ℕ, zero, suc, arith}
use Rattle.std.proofs.Common.{◌≡◌, ◌⊎◌, inl, inr, List, [], ◌∷◌, ◌++◌, Bool, true, false, cond, Result, Ok, Err}
use Rattle.std.proofs.Common.{Option, None, Some, refl, sym, ap, subst, ◌∙◌, append_assoc, length, get_or}
use Rattle.std.specs.Prelude.{codes, map, not, ◌==◌, IfSome, if◌then◌else◌}
use Rattle.std.specs.Fmt.{decimal}
use Rattle.std.specs.Int.{IsInRange}
use Rattle.std.specs.Str.{bytes_eq}
use Rattle.std.specs.List.{AllByRecursion, concat}
use Rattle.std.specs.Str.Parse.{digits_value}
use Rattle.std.proofs.lemmas.Bool.{eqb-true, false_from_ne_true}
use Rattle.std.proofs.lemmas.Bool.Decides.{nat_tests}
use Rattle.std.proofs.lemmas.Fmt.{decimal_nonempty, digits_decimal}
use Rattle.std.proofs.lemmas.Str.Parse.{IsNumeralModel, numerals_by_value, tells_by_index}
use Rattle.std.proofs.lemmas.Slice.Eq.{bytes_eq-Decides}
use Rattle.bstr.specs.Text.{lines_of, without_terminator}
use Rattle.case_forms.specs.declared.trace.Header.{Header}
use Rattle.case_forms.specs.declared.version.Version.{Version}
use Rattle.case_forms.specs.declared.version.Version.TheVariants.{One, Two, Three, Four, FourHalf, Five, FiveHalf, Six, SixHalf}
use Rattle.case_forms.specs.declared.version.Initial.{Initial}
use Rattle.case_forms.specs.declared.version.Initial.TheVariants.{Rfc5681, Rfc6928}
use Rattle.case_forms.specs.declared.version.Judged.{Judged}
use Rattle.case_forms.specs.declared.version.Judged.TheVariants.{Full, Recovery, NoControl}
use Rattle.case_forms.specs.declared.version.Growth.{Growth}
use Rattle.case_forms.specs.declared.version.Growth.TheVariants.{OneSegment, TwoSegments, Any}
use Rattle.case_forms.specs.declared.version.Sender.{Sender}
use Rattle.case_forms.specs.declared.version.Sender.TheVariants.{Reno, Cubic}
use Rattle.case_forms.specs.Versions.{says_congestion, says_sender, says_slack, named_as}
use Rattle.line_fields.specs.Choice.{kind_value, kind_field}
use Rattle.line_fields.specs.Congestion.{judged_name, all_judged, may_judge, judged_of, judged_value, judged_field}
use Rattle.line_fields.specs.Hosts.{hosted}
use Rattle.line_fields.specs.Sender.{sender_name, all_senders, growth_name, all_growths}
use Rattle.line_fields.specs.Slack.{begins_digit, slack_value, slack_field}
use Rattle.line_fields.specs.declared.fault.FaultKind.TheVariants as kinds
use Rattle.line_fields.specs.declared.fault.TextFault.{TextFault}
use Rattle.line_fields.specs.Word.{Word, Rest, rest_of}
use Rattle.line_fields.specs.Reading.{◌>>=◌, fault_at, missing, next_field, number_value, number_field}
use Rattle.line_fields.specs.Lines.{IsRaw, IsLine, is_ended, whole_line, line_text, line_rest, next_raw}
use Rattle.line_fields.specs.Reader.{texts, IsReader}
use Rattle.line_fields.specs.Spelling.{IsClean, joined}
use Rattle.line_fields.proofs.Readers.{IsValue, IsNumber, bind_ok, ok_is, first_takes, first_again, is_number_value, reads_field, no_words}
use Rattle.line_fields.proofs.Choices.{AreNamed, is_kind_value}
use Rattle.line_fields.proofs.Joined.{IsClean-decimal}
use Rattle.line_fields.proofs.Clean.{clean_by, joined_no_return}
use Rattle.line_fields.proofs.Endings.{ending_again}
use Rattle.line_fields.proofs.Texts.{lines_of-raw}
use Rattle.line_fields.proofs.LineRests.{fields_taken, fields_again, is_raw, text_takes, text_again}
use Rattle.trace_reader.specs.declared.late_lines.LateLines.{LateLines}
use Rattle.case_lines.specs.FirstLine.{first_words, version_named}
use Rattle.trace_reader.specs.Headers.{initial_number, initial_words, half_words, hosts_words, congestion_words}
use Rattle.trace_reader.specs.Headers.{slack_text, slack_words, sender_words, growth_words, judged_words, late_words, header_words}
use Rattle.trace_reader.specs.Headers.{IsHeader, AreLines}
use Rattle.trace_reader.specs.Headers.{header_fault, some_left, named_rest, alone, value_line, next_value}
use Rattle.trace_reader.specs.Headers.{version_in, first_version, first_line, initial_of, initial_value, initial_field, initial_line}
use Rattle.trace_reader.specs.Headers.{half_line, hosts_line, congestion_line, slack_line, last_line}
use Rattle.trace_reader.specs.Headers.{sender_line, growth_line, both_lines, control_lines}
use Rattle.trace_reader.specs.Headers.{late, late_of, judged_lines, late_lines, header_with, header_of}

abbrev pub Raws : Type 0
Raws = List (List ℕ)

-- what a line is read as, up to its name
abbrev Named : Type 0
Named = Rest × TextFault

-- ---- a name, and what is behind it

some_taken : (fault : TextFault) (ws : List Word) (r : Rest) (x : Named) → some_left fault ws r ≡ Ok x → x ≡ (r, fault)
some_taken fault [] r x e = absurd cc
some_taken fault (w ∷ ws) r x e = sym (ok_is (r, fault) x e)

some_given : (fault : TextFault) (ws : List Word) (r : Rest) (t : List ℕ) → map (λ w. w.text) ws ≡ t ∷ [] → some_left fault ws r ≡ Ok (r, fault)
some_given fault [] r t e = absurd cc
some_given fault (w ∷ ws) r t e = refl

guard_name : (b : Bool) (fault : TextFault) (read : Result Named TextFault) (x : Named) → cond b read (Err fault) ≡ Ok x → (b ≡ true) × (read ≡ Ok x)
guard_name true fault read x e = (refl, e)
guard_name false fault read x e = absurd cc

abbrev behind_name : ℕ → List ℕ → Rest → Word × Rest → Result Named TextFault
behind_name number name r w = cond (bytes_eq w.0.text name) (some_left (header_fault number r) w.1.words w.1) (Err (header_fault number r))

named_takes : (number : ℕ) (name raw : List ℕ) (x : Named) → named_rest number name raw ≡ Ok x → IsLine number (joined (name ∷ texts x.0)) raw
unfolding named_rest
named_takes number name raw x e =
    let a = bind_ok (line_rest number raw) (λ r. next_field r >>= behind_name number name r) x e in
    let b = bind_ok (next_field a.0) (behind_name number name a.0) x a.2 in
    let r = fields_taken number raw a.0 a.1 in
    let front = first_takes (missing a.0) a.0.line a.0.stop a.0.words b.0 b.1 in
    let g = guard_name (bytes_eq b.0.0.text name) (header_fault number a.0) (some_left (header_fault number a.0) b.0.1.words b.0.1) x b.2 in
    let word = (bytes_eq-Decides b.0.0.text name).0 g.0 in
    let left = some_taken (header_fault number a.0) b.0.1.words b.0.1 x g.1 in
    let same : texts a.0 ≡ name ∷ texts x.0 = front ∙ ap (λ (t : List ℕ). t ∷ texts b.0.1) word ∙ ap (λ (y : Named). name ∷ texts y.0) (sym left) in
    subst (λ (ws : List (List ℕ)). IsLine number (joined ws) raw) same r.line

-- the one field behind the name is left
record IsNamed (number : ℕ) (name raw t : List ℕ) : Type 0 where
  rest : Rest
  fault : TextFault
  read : named_rest number name raw ≡ Ok (rest, fault)
  one : texts rest ≡ t ∷ []

named_again : (number : ℕ) (name raw t : List ℕ) → IsClean name → IsClean t → IsLine number (joined (name ∷ t ∷ [])) raw → IsNamed number name raw t
unfolding named_rest
named_again number name raw t clean field line =
    let whole = rest_of number (joined (name ∷ t ∷ [])) in
    let rest = fields_again number raw name (t ∷ []) (clean, (field, tt)) line in
    let x = first_again (missing whole) whole.line whole.stop whole.words name (t ∷ []) rest.1 in
    let word : bytes_eq x.0.0.text name ≡ true = (bytes_eq-Decides x.0.0.text name).1 x.2 in
    let some = some_given (header_fault number whole) x.0.1.words x.0.1 t x.3 in
    let read = ap (λ (r : Result Rest TextFault). r >>= λ q. next_field q >>= behind_name number name q) rest.0 in
    record { rest = x.0.1; fault = header_fault number whole; read = read ∙ rw (x.1, word, some) refl; one = x.3 }

-- ---- a value behind a name

alone_takes : {A : Type 0} (fault : TextFault) (a b : A) (ws : List Word) → alone fault a ws ≡ Ok b → (a ≡ b) × (map (λ w. w.text) ws ≡ [])
alone_takes fault a b [] e = (ok_is a b e, refl)
alone_takes fault a b (w ∷ ws) e = absurd cc

-- the value of one field
module _ {A : Type 0} (number : ℕ) (name : List ℕ) (read : Rest → Result (A × Rest) TextFault) (V : A → List ℕ → Type 0)
    (law : IsReader read (λ a ws. (t : List ℕ) × V a t × (ws ≡ t ∷ []))) where
  record IsValued (a : A) (raw : List ℕ) : Type 0 where
    text : List ℕ
    value : V a text
    line : IsLine number (joined (name ∷ text ∷ [])) raw

  value_takes : (raw : List ℕ) (a : A) → value_line number name read raw ≡ Ok a → IsValued a raw
  unfolding value_line
  value_takes raw a e =
      let x = bind_ok (named_rest number name raw) (λ l. read l.0 >>= λ y. alone l.1 y.0 y.1.words) a e in
      let y = bind_ok (read x.0.0) (λ y. alone x.0.1 y.0 y.1.words) a x.2 in
      let line = named_takes number name raw x.0 x.1 in
      let own = law.takes x.0.0 y.0 y.1 in
      let last = alone_takes x.0.1 y.0.0 a y.0.1.words y.2 in
      let one : texts x.0.0 ≡ own.1.0 ∷ [] = own.2 ∙ ap (λ (us : Raws). own.0 ++ us) last.1 ∙ ap (λ (us : Raws). us ++ []) own.1.2 in
      record {
        text = own.1.0;
        value = subst (λ (b : A). V b own.1.0) last.0 own.1.1;
        line = subst (λ (ws : Raws). IsLine number (joined (name ∷ ws)) raw) one line;
      }

  value_again : (raw t : List ℕ) (a : A) → IsClean name → IsClean t → IsLine number (joined (name ∷ t ∷ [])) raw → V a t
      → value_line number name read raw ≡ Ok a
  unfolding value_line
  value_again raw t a clean field line value =
      let named = named_again number name raw t clean field line in
      let first = named.read in
      let own = law.again named.rest a (t ∷ []) [] tt (t, value, refl) named.one in
      let second = own.1 in
      rw (first, second) (ap (alone named.fault a) (no_words own.0.words own.2))

raw_takes : (number : ℕ) (raws : Raws) (x : List ℕ × Raws) → next_raw number raws ≡ Ok x → raws ≡ x.0 ∷ x.1
raw_takes number [] x e = absurd cc
raw_takes number (raw ∷ raws) x e = subst (λ (y : List ℕ × Raws). raw ∷ raws ≡ y.0 ∷ y.1) (ok_is (raw, raws) x e) refl

-- the same of the next line
module _ {A : Type 0} (number : ℕ) (name : List ℕ) (read : Rest → Result (A × Rest) TextFault) (V : A → List ℕ → Type 0)
    (law : IsReader read (λ a ws. (t : List ℕ) × V a t × (ws ≡ t ∷ []))) where
  record IsNext (raws : Raws) (x : A × Raws) : Type 0 where
    raw : List ℕ
    first : raws ≡ raw ∷ x.1
    valued : IsValued number name read V law x.0 raw

  next_takes : (raws : Raws) (x : A × Raws) → next_value number name read raws ≡ Ok x → IsNext raws x
  unfolding next_value
  next_takes raws x e =
      let a = bind_ok (next_raw number raws) (λ y. value_line number name read y.0 >>= λ n. Ok (n, y.1)) x e in
      let b = bind_ok (value_line number name read a.0.0) (λ n. Ok (n, a.0.1)) x a.2 in
      subst (λ (y : A × Raws). IsNext raws y) (ok_is (b.0, a.0.1) x b.2)
      (record {
        raw = a.0.0;
        first = raw_takes number raws a.0 a.1;
        valued = value_takes number name read V law a.0.0 b.0 b.1;
      })

  next_again : (raw t : List ℕ) (raws : Raws) (a : A) → IsClean name → IsClean t
      → IsLine number (joined (name ∷ t ∷ [])) raw → V a t → next_value number name read (raw ∷ raws) ≡ Ok (a, raws)
  unfolding next_value
  next_again raw t raws a clean field line value =
      ap (λ (x : Result A TextFault). x >>= λ b. Ok (b, raws)) (value_again number name read V law raw t a clean field line value)

-- ---- numbers

reads_one : (least most : ℕ) → most < 2 ^ 64 → IsReader (number_field least most) (λ n ws. (t : List ℕ) × IsNumber least most n t × (ws ≡ t ∷ []))
unfolding number_field
reads_one least most fits = reads_field (number_value least most) (IsNumber least most) (is_number_value least most fits)

record IsNumbered (number : ℕ) (name : List ℕ) (least most : ℕ) (raws : Raws) (x : ℕ × Raws) : Type 0 where
  raw : List ℕ
  first : raws ≡ raw ∷ x.1
  line : IsLine number (joined (name ∷ decimal x.0 ∷ [])) raw
  low : least ≤ x.0
  high : x.0 ≤ most

number_takes : (number : ℕ) (name : List ℕ) (least most : ℕ) → most < 2 ^ 64 → (raws : Raws) (x : ℕ × Raws)
    → next_value number name (number_field least most) raws ≡ Ok x → IsNumbered number name least most raws x
number_takes number name least most fits raws x e =
    let n = next_takes number name (number_field least most) (IsNumber least most) (reads_one least most fits) raws x e in
    let v = n.valued in
    record {
      raw = n.raw;
      first = n.first;
      line = subst (λ (t : List ℕ). IsLine number (joined (name ∷ t ∷ [])) n.raw) v.value.0 v.line;
      low = v.value.1;
      high = v.value.2;
    }

number_again : (number : ℕ) (name : List ℕ) (least most : ℕ) → most < 2 ^ 64 → IsClean name
    → (raw : List ℕ) (raws : Raws) (n : ℕ) → IsLine number (joined (name ∷ decimal n ∷ [])) raw → least ≤ n → n ≤ most
    → next_value number name (number_field least most) (raw ∷ raws) ≡ Ok (n, raws)
number_again number name least most fits clean raw raws n line low high =
    next_again number name (number_field least most) (IsNumber least most) (reads_one least most fits) raw
    (decimal n) raws n clean (IsClean-decimal n (omega arith)) line (refl, low, high)

-- ---- the RFC of the first congestion window

-- the text names the RFC
abbrev IsInitial : Initial → List ℕ → Type 0
IsInitial i text = text ≡ decimal (initial_number i)

guard_initial : (a b : Bool) (fault : TextFault) (i : Initial)
    → cond a (Ok Rfc5681) (cond b (Ok Rfc6928) (Err fault)) ≡ Ok i
    → ((a ≡ true) × (i ≡ Rfc5681)) ⊎ ((b ≡ true) × (i ≡ Rfc6928))
guard_initial true b fault i e = inl (refl, sym (ok_is Rfc5681 i e))
guard_initial false true fault i e = inr (refl, sym (ok_is Rfc6928 i e))
guard_initial false false fault i e = absurd cc

initial_taken : (w : Word) (n : ℕ) (i : Initial) → initial_of w n ≡ Ok i → n ≡ initial_number i
initial_taken w n i e = elim (guard_initial (n == 5681) (n == 6928) (fault_at kinds.Number w) i e) [
  | inl a ↦ eqb-true n 5681 a.0 ∙ ap initial_number (sym a.1)
  | inr b ↦ eqb-true n 6928 b.0 ∙ ap initial_number (sym b.1)
]

initial_given : (w : Word) (i : Initial) → initial_of w (initial_number i) ≡ Ok i
initial_given w Rfc5681 = refl
initial_given w Rfc6928 = refl

initial_within : (i : Initial) → (5681 ≤ initial_number i) × (initial_number i ≤ 6928)
initial_within Rfc5681 = (omega arith, omega arith)
initial_within Rfc6928 = (omega arith, omega arith)

is_initial : IsValue initial_value IsInitial
is_initial = record {
  takes = λ w i e.
      let b = bind_ok (number_value 5681 6928 w) (initial_of w) i e in
      let v = (is_number_value 5681 6928 (omega arith)).takes w b.0 b.1 in
      v.0 ∙ ap decimal (initial_taken w b.0 i b.2);
  again = λ w i v.
      let within = initial_within i in
      ap (λ (x : Result ℕ TextFault). x >>= initial_of w)
      ((is_number_value 5681 6928 (omega arith)).again w (initial_number i) (v, within.0, within.1))
      ∙ initial_given w i;
}

reads_initial : IsReader initial_field (λ i ws. (t : List ℕ) × IsInitial i t × (ws ≡ t ∷ []))
unfolding initial_field
reads_initial = reads_field initial_value IsInitial is_initial

initial_clean : (i : Initial) → IsClean (decimal (initial_number i))
initial_clean i = let within = initial_within i in IsClean-decimal (initial_number i) (let h = within.1 in omega (arith, h))

-- what was read of the line that names the RFC
record IsNamedInitial (raws : Raws) (x : Initial × Raws) : Type 0 where
  raw : List ℕ
  first : raws ≡ raw ∷ x.1
  line : IsLine 7 (joined (initial_words x.0)) raw

initial_takes : (raws : Raws) (x : Initial × Raws) → initial_line raws ≡ Ok x → IsNamedInitial raws x
initial_takes raws x e =
    let n = next_takes 7 (codes "initial") initial_field IsInitial reads_initial raws x e in
    let v = n.valued in
    record {
      raw = n.raw;
      first = n.first;
      line = subst (λ (t : List ℕ). IsLine 7 (joined (codes "initial" ∷ t ∷ [])) n.raw) v.value v.line;
    }

initial_again : (i : Initial) (raw : List ℕ) (rest : Raws) → IsLine 7 (joined (initial_words i)) raw → initial_line (raw ∷ rest) ≡ Ok (i, rest)
initial_again i raw rest line =
    next_again 7 (codes "initial") initial_field IsInitial reads_initial raw (decimal (initial_number i)) rest i
    (clean_by (codes "initial") refl) (initial_clean i) line refl

-- ---- how much of congestion control is judged

-- the text is the word for it, and a header of this version may have it
abbrev IsJudged : Version → Judged → List ℕ → Type 0
IsJudged v j text = (text ≡ judged_name j) × (may_judge v j ≡ true)

judged_known : AreNamed judged_name all_judged
judged_known Full = refl
judged_known Recovery = refl
judged_known NoControl = refl

guard_judged : (may : Bool) (j k : Judged) (fault : TextFault) → cond may (Ok j) (Err fault) ≡ Ok k → (may ≡ true) × (j ≡ k)
guard_judged true j k fault e = (refl, ok_is j k e)
guard_judged false j k fault e = absurd cc

is_judged : (v : Version) → IsValue (judged_value v) (IsJudged v)
is_judged v = record {
  takes = λ w j e.
      let b = bind_ok (kind_value judged_name all_judged w) (judged_of v w) j e in
      let own = (is_kind_value judged_name all_judged judged_known).takes w b.0 b.1 in
      let g = guard_judged (may_judge v b.0) b.0 j (fault_at kinds.Field w) b.2 in
      subst (λ (k : Judged). IsJudged v k w.text) g.1 (own, g.0);
  again = λ w j x.
      let may = x.1 in
      ap (λ (r : Result Judged TextFault). r >>= judged_of v w) ((is_kind_value judged_name all_judged judged_known).again w j x.0) ∙ rw may refl;
}

reads_judged : (v : Version) → IsReader (judged_field v) (λ j ws. (t : List ℕ) × IsJudged v j t × (ws ≡ t ∷ []))
unfolding judged_field
reads_judged v = reads_field (judged_value v) (IsJudged v) (is_judged v)

judged_clean : (j : Judged) → IsClean (judged_name j)
judged_clean Full = clean_by (codes "full") refl
judged_clean Recovery = clean_by (codes "recovery") refl
judged_clean NoControl = clean_by (codes "none") refl

-- what was read of the line that says it
record IsNamedJudged (v : Version) (raws : Raws) (x : Judged × Raws) : Type 0 where
  raw : List ℕ
  first : raws ≡ raw ∷ x.1
  line : IsLine 9 (joined (congestion_words x.0)) raw
  may : may_judge v x.0 ≡ true

congestion_takes : (v : Version) (raws : Raws) (x : Judged × Raws) → congestion_line v raws ≡ Ok x → IsNamedJudged v raws x
congestion_takes v raws x e =
    let n = next_takes 9 (codes "congestion") (judged_field v) (IsJudged v) (reads_judged v) raws x e in
    let own = n.valued in
    record {
      raw = n.raw;
      first = n.first;
      line = subst (λ (t : List ℕ). IsLine 9 (joined (codes "congestion" ∷ t ∷ [])) n.raw) own.value.0 own.line;
      may = own.value.1;
    }

congestion_again : (v : Version) (j : Judged) (raw : List ℕ) (rest : Raws) → may_judge v j ≡ true → IsLine 9 (joined (congestion_words j)) raw
    → congestion_line v (raw ∷ rest) ≡ Ok (j, rest)
congestion_again v j raw rest may line =
    next_again 9 (codes "congestion") (judged_field v) (IsJudged v) (reads_judged v) raw (judged_name j) rest j
    (clean_by (codes "congestion") refl) (judged_clean j) line (refl, may)

-- ---- how late a host may be

-- the text says so, and keeps to the limit
abbrev IsSlack : Option ℕ → List ℕ → Type 0
IsSlack slack text = (text ≡ slack_text slack) × IfSome slack (λ n. n ≤ 1000000000000000000)

digits : IsNumeralModel (λ ds. (i : ℕ) → i < length ds → IsInRange 48 57 (get_or ds i 0)) (digits_value 10)
digits = numerals_by_value (λ ds. (i : ℕ) → i < length ds → IsInRange 48 57 (get_or ds i 0)) tells_by_index

digit_first : (text : List ℕ) → 0 < length text → IsInRange 48 57 (get_or text 0 0) → begins_digit text ≡ true
digit_first [] some range = absurd (omega arith)
digit_first (b ∷ bs) some range = grind (arith, nat_tests)

decimal_begins : (n : ℕ) → n < 2 ^ 64 → begins_digit (decimal n) ≡ true
decimal_begins n lt = let some = decimal_nonempty n lt in digit_first (decimal n) some (digits_decimal digits n lt 0 some)

digit_not_any : (text : List ℕ) → begins_digit text ≡ true → bytes_eq text (codes "any") ≡ false
digit_not_any text is = false_from_ne_true (bytes_eq text (codes "any")) (λ h.
    let same : text ≡ codes "any" = (bytes_eq-Decides text (codes "any")).0 h in
    let clash : false ≡ true = sym (ap begins_digit same) ∙ is in
    absurd cc)

slack_taken : (w : Word) (slack : Option ℕ) → slack_value w ≡ Ok slack → IsSlack slack w.text
slack_taken w slack e = go (bytes_eq w.text (codes "any")) refl (begins_digit w.text) e
  where
    go : (a : Bool) → bytes_eq w.text (codes "any") ≡ a → (b : Bool)
        → cond a (Ok None) (cond b (number_value 0 1000000000000000000 w >>= λ n. Ok (Some n)) (Err (fault_at kinds.Field w))) ≡ Ok slack
        → IsSlack slack w.text
    go true is b e = subst (λ (o : Option ℕ). IsSlack o w.text) (ok_is None slack e) ((bytes_eq-Decides w.text (codes "any")).0 is, tt)
    go false is true e =
        let x = bind_ok (number_value 0 1000000000000000000 w) (λ n. Ok (Some n)) slack e in
        let v = (is_number_value 0 1000000000000000000 (omega arith)).takes w x.0 x.1 in
        subst (λ (o : Option ℕ). IsSlack o w.text) (ok_is (Some x.0) slack x.2) (v.0, v.2)
    go false is false e = absurd cc

slack_given : (w : Word) (slack : Option ℕ) → IsSlack slack w.text → slack_value w ≡ Ok slack
slack_given w None v = let any : bytes_eq w.text (codes "any") ≡ true = (bytes_eq-Decides w.text (codes "any")).1 v.0 in rw any refl
slack_given w (Some n) v =
    let most = v.1 in
    let digit : begins_digit w.text ≡ true = ap begins_digit v.0 ∙ decimal_begins n (omega arith) in
    let other = digit_not_any w.text digit in
    let number = (is_number_value 0 1000000000000000000 (omega arith)).again w n (v.0, omega arith, v.1) in
    rw (other, digit, number) refl

reads_slack : IsReader slack_field (λ slack ws. (t : List ℕ) × IsSlack slack t × (ws ≡ t ∷ []))
unfolding slack_field
reads_slack = reads_field slack_value IsSlack (record { takes = slack_taken; again = slack_given })

slack_clean : (slack : Option ℕ) → IfSome slack (λ n. n ≤ 1000000000000000000) → IsClean (slack_text slack)
slack_clean None most = clean_by (codes "any") refl
slack_clean (Some n) most = IsClean-decimal n (omega arith)

-- what was read of the line that says so
record IsNamedSlack (raws : Raws) (x : Option ℕ × Raws) : Type 0 where
  raw : List ℕ
  first : raws ≡ raw ∷ x.1
  line : IsLine 10 (joined (slack_words x.0)) raw
  most : IfSome x.0 (λ n. n ≤ 1000000000000000000)

slack_takes : (raws : Raws) (x : Option ℕ × Raws) → slack_line raws ≡ Ok x → IsNamedSlack raws x
slack_takes raws x e =
    let n = next_takes 10 (codes "slack") slack_field IsSlack reads_slack raws x e in
    let v = n.valued in
    record {
      raw = n.raw;
      first = n.first;
      line = subst (λ (t : List ℕ). IsLine 10 (joined (codes "slack" ∷ t ∷ [])) n.raw) v.value.0 v.line;
      most = v.value.1;
    }

slack_again : (slack : Option ℕ) (raw : List ℕ) (rest : Raws) → IfSome slack (λ n. n ≤ 1000000000000000000) → IsLine 10 (joined (slack_words slack)) raw
    → slack_line (raw ∷ rest) ≡ Ok (slack, rest)
slack_again slack raw rest most line =
    next_again 10 (codes "slack") slack_field IsSlack reads_slack raw (slack_text slack) rest slack
    (clean_by (codes "slack") refl) (slack_clean slack most) line (refl, most)

-- what was read of it, if the version has that line
record IsLast (says : Bool) (raws : Raws) (x : Option ℕ × Raws) : Type 0 where
  heads : Raws
  front : raws ≡ heads ++ x.1
  lines : AreLines 10 (if says then slack_words x.0 ∷ [] else []) heads
  most : IfSome x.0 (λ n. n ≤ 1000000000000000000)
  none : says ≡ false → x.0 ≡ None

last_takes : (says : Bool) (raws : Raws) (x : Option ℕ × Raws) → cond says (slack_line raws) (Ok (None, raws)) ≡ Ok x → IsLast says raws x
last_takes true raws x e =
    let n = slack_takes raws x e in record { heads = n.raw ∷ []; front = n.first; lines = (n.line, tt); most = n.most; none = λ is. absurd cc }
last_takes false raws x e =
    subst (λ (y : Option ℕ × Raws). IsLast false raws y) (ok_is (None, raws) x e)
    (record { heads = []; front = refl; lines = tt; most = tt; none = λ is. refl })

-- ---- the sender's congestion control

sender_known : AreNamed sender_name all_senders
sender_known Reno = refl
sender_known Cubic = refl

growth_known : AreNamed growth_name all_growths
growth_known OneSegment = refl
growth_known TwoSegments = refl
growth_known Any = refl

sender_clean : (s : Sender) → IsClean (sender_name s)
sender_clean Reno = clean_by (codes "reno") refl
sender_clean Cubic = clean_by (codes "cubic") refl

growth_clean : (g : Growth) → IsClean (growth_name g)
growth_clean OneSegment = clean_by (codes "1") refl
growth_clean TwoSegments = clean_by (codes "2") refl
growth_clean Any = clean_by (codes "any") refl

-- a line of a name and one of some words
module _ {K : Type 0} (number : ℕ) (name : List ℕ) (word : K → List ℕ) (kinds : List K) (known : AreNamed word kinds) where
  reads_word : IsReader (kind_field word kinds) (λ k ws. (t : List ℕ) × (t ≡ word k) × (ws ≡ t ∷ []))
  reads_word = reads_field (kind_value word kinds) (λ k t. t ≡ word k) (is_kind_value word kinds known)

  record IsWorded (raws : Raws) (x : K × Raws) : Type 0 where
    raw : List ℕ
    first : raws ≡ raw ∷ x.1
    line : IsLine number (joined (name ∷ word x.0 ∷ [])) raw

  word_takes : (raws : Raws) (x : K × Raws) → next_value number name (kind_field word kinds) raws ≡ Ok x → IsWorded raws x
  word_takes raws x e =
      let n = next_takes number name (kind_field word kinds) (λ k t. t ≡ word k) reads_word raws x e in
      let v = n.valued in
      record {
        raw = n.raw;
        first = n.first;
        line = subst (λ (t : List ℕ). IsLine number (joined (name ∷ t ∷ [])) n.raw) v.value v.line;
      }

  word_again : (k : K) (raw : List ℕ) (rest : Raws) → IsClean name → IsClean (word k) → IsLine number (joined (name ∷ word k ∷ [])) raw
      → next_value number name (kind_field word kinds) (raw ∷ rest) ≡ Ok (k, rest)
  word_again k raw rest clean field line =
      next_again number name (kind_field word kinds) (λ k t. t ≡ word k) reads_word raw (word k) rest k clean field line refl

-- the fields of both lines, if the version has them
abbrev control_of : Bool → Sender → Growth → List (List (List ℕ))
control_of says s g = if says then sender_words s ∷ growth_words g ∷ [] else []

-- what was read of them
record IsControl (says : Bool) (raws : Raws) (x : (Sender × Growth) × Raws) : Type 0 where
  heads : Raws
  front : raws ≡ heads ++ x.1
  lines : AreLines 11 (control_of says x.0.0 x.0.1) heads
  no_sender : says ≡ false → x.0.0 ≡ Reno
  no_growth : says ≡ false → x.0.1 ≡ OneSegment

control_takes : (says : Bool) (raws : Raws) (x : (Sender × Growth) × Raws)
    → cond says (both_lines raws) (Ok ((Reno, OneSegment), raws)) ≡ Ok x → IsControl says raws x
unfolding both_lines
control_takes true raws x e =
    let a = bind_ok (sender_line raws) (λ s. growth_line s.1 >>= λ g. Ok ((s.0, g.0), g.1)) x e in
    let b = bind_ok (growth_line a.0.1) (λ g. Ok ((a.0.0, g.0), g.1)) x a.2 in
    let s = word_takes 11 (codes "sender") sender_name all_senders sender_known raws a.0 a.1 in
    let g = word_takes 12 (codes "growth") growth_name all_growths growth_known a.0.1 b.0 b.1 in
    subst (λ (y : (Sender × Growth) × Raws). IsControl true raws y) (ok_is ((a.0.0, b.0.0), b.0.1) x b.2) (record {
      heads = s.raw ∷ g.raw ∷ [];
      front = s.first ∙ ap (λ (us : Raws). s.raw ∷ us) g.first;
      lines = (s.line, (g.line, tt));
      no_sender = λ is. absurd cc;
      no_growth = λ is. absurd cc;
    })
control_takes false raws x e =
    subst (λ (y : (Sender × Growth) × Raws). IsControl false raws y) (ok_is ((Reno, OneSegment), raws) x e)
    (record { heads = []; front = refl; lines = tt; no_sender = λ is. refl; no_growth = λ is. refl })

-- a version with these lines has the line before them, too
pub slack_too : (v : Version) → says_slack v ≡ false → says_sender v ≡ false
slack_too One is = refl
slack_too Two is = refl
slack_too Three is = refl
slack_too Four is = refl
slack_too FourHalf is = refl
slack_too Five is = refl
slack_too FiveHalf is = refl
slack_too Six is = absurd cc
slack_too SixHalf is = absurd cc

-- the fields of the lines that only versions 5 and 6 have
abbrev last_of : Bool → Bool → Option ℕ → Sender → Growth → List (List (List ℕ))
last_of slack sender o s g = if slack then slack_words o ∷ control_of sender s g else []

-- these lines are the line that says how late a host may be, and those behind it
last_lines : (slack sender : Bool) (o : Option ℕ) (s : Sender) (g : Growth) (heads more : Raws) → (slack ≡ false → sender ≡ false)
    → AreLines 10 (if slack then slack_words o ∷ [] else []) heads → AreLines 11 (control_of sender s g) more
    → AreLines 10 (last_of slack sender o s g) (heads ++ more)
last_lines true sender o s g [] more too h k = absurd h
last_lines true sender o s g (raw ∷ []) more too h k = (h.0, k)
last_lines true sender o s g (raw ∷ next ∷ heads) more too h k = absurd h.1
last_lines false true o s g heads more too h k = let clash = too refl in absurd cc
last_lines false false o s g [] [] too h k = tt
last_lines false false o s g [] (raw ∷ more) too h k = absurd k
last_lines false false o s g (raw ∷ heads) more too h k = absurd h

-- ---- the lines that version 1 doesn't have

-- one host or two
one_or_two : (n : ℕ) → 1 ≤ n → n ≤ 2 → (n ≡ 1) ⊎ (n ≡ 2)
one_or_two zero low high = absurd (omega arith)
one_or_two (suc zero) low high = inl refl
one_or_two (suc (suc n)) low high = inr (omega arith)

-- a version of so many hosts has these lines, and its texts name this version
record IsHosted (v : Version) (n : ℕ) (w : Version) : Type 0 where
  named : named_as w ≡ named_as v
  later : w ≡ One → ⊥
  says : says_congestion w ≡ true
  slack : says_slack w ≡ says_slack v
  sender : says_sender w ≡ says_sender v
  words : (i : Initial) (j : Judged) (o : Option ℕ) (s : Sender) (g : Growth) → late_words (late w i j o s g) ≡ judged_words n (late v i j o s g)

-- both judge the same
judges_as : (v w : Version) (j : Judged) → says_sender w ≡ says_sender v → may_judge w j ≡ may_judge v j
judges_as v w Full same = ap not same
judges_as v w Recovery same = refl
judges_as v w NoControl same = refl

by_hosts : (v : Version) → IsHosted v 1 (hosted v 1) → IsHosted v 2 (hosted v 2) → (n : ℕ) → 1 ≤ n → n ≤ 2 → IsHosted v n (hosted v n)
by_hosts v first second n low high = elim (one_or_two n low high) [
  | inl one ↦ subst (λ (m : ℕ). IsHosted v m (hosted v m)) (sym one) first
  | inr two ↦ subst (λ (m : ℕ). IsHosted v m (hosted v m)) (sym two) second
]

is_hosted : (v : Version) (n : ℕ) → says_congestion v ≡ true → 1 ≤ n → n ≤ 2 → IsHosted v n (hosted v n)
is_hosted One n says low high = absurd cc
is_hosted Two n says low high = absurd cc
is_hosted Three n says low high = absurd cc
is_hosted Four n says low high =
    by_hosts Four (record { named = refl; later = λ e. cc; says = refl; slack = refl; sender = refl; words = λ i j o s g. refl })
    (record { named = refl; later = λ e. cc; says = refl; slack = refl; sender = refl; words = λ i j o s g. refl }) n low high
is_hosted FourHalf n says low high =
    by_hosts FourHalf (record { named = refl; later = λ e. cc; says = refl; slack = refl; sender = refl; words = λ i j o s g. refl })
    (record { named = refl; later = λ e. cc; says = refl; slack = refl; sender = refl; words = λ i j o s g. refl }) n low high
is_hosted Five n says low high =
    by_hosts Five (record { named = refl; later = λ e. cc; says = refl; slack = refl; sender = refl; words = λ i j o s g. refl })
    (record { named = refl; later = λ e. cc; says = refl; slack = refl; sender = refl; words = λ i j o s g. refl }) n low high
is_hosted FiveHalf n says low high =
    by_hosts FiveHalf (record { named = refl; later = λ e. cc; says = refl; slack = refl; sender = refl; words = λ i j o s g. refl })
    (record { named = refl; later = λ e. cc; says = refl; slack = refl; sender = refl; words = λ i j o s g. refl }) n low high
is_hosted Six n says low high =
    by_hosts Six (record { named = refl; later = λ e. cc; says = refl; slack = refl; sender = refl; words = λ i j o s g. refl })
    (record { named = refl; later = λ e. cc; says = refl; slack = refl; sender = refl; words = λ i j o s g. refl }) n low high
is_hosted SixHalf n says low high =
    by_hosts SixHalf (record { named = refl; later = λ e. cc; says = refl; slack = refl; sender = refl; words = λ i j o s g. refl })
    (record { named = refl; later = λ e. cc; says = refl; slack = refl; sender = refl; words = λ i j o s g. refl }) n low high

-- what was read of each of these lines, and the lines behind it
abbrev pub Told : Type 0
Told = LateLines × Raws

abbrev pub with_host : Initial → ℕ × Raws → Result Told TextFault
with_host i h = Ok (late Three i Full None Reno OneSegment, h.1)

abbrev pub with_half : Initial × Raws → Result Told TextFault
with_half i = half_line i.1 >>= with_host i.0

abbrev pub with_growth : Sender → Growth × Raws → Result ((Sender × Growth) × Raws) TextFault
with_growth s g = Ok ((s, g.0), g.1)

abbrev pub with_sender : Sender × Raws → Result ((Sender × Growth) × Raws) TextFault
with_sender s = growth_line s.1 >>= with_growth s.0

-- in versions 4 to 6
module _ (v : Version) where
  abbrev pub with_control : Initial → ℕ → Judged → Option ℕ → (Sender × Growth) × Raws → Result Told TextFault
  with_control i n j o k = Ok (late (hosted v n) i j o k.0.0 k.0.1, k.1)

  abbrev pub with_last : Initial → ℕ → Judged → Option ℕ × Raws → Result Told TextFault
  with_last i n j o = control_lines v o.1 >>= with_control i n j o.0

  abbrev pub with_congestion : Initial → ℕ → Judged × Raws → Result Told TextFault
  with_congestion i n c = last_line v c.1 >>= with_last i n c.0

  abbrev pub with_hosts : Initial → ℕ × Raws → Result Told TextFault
  with_hosts i h = congestion_line v h.1 >>= with_congestion i h.0

  abbrev pub with_judged : Initial × Raws → Result Told TextFault
  with_judged i = hosts_line i.1 >>= with_hosts i.0

-- what was read of them
record IsLate (v : Version) (raws : Raws) (x : LateLines × Raws) : Type 0 where
  heads : Raws
  front : raws ≡ heads ++ x.1
  named : named_as x.0.version ≡ named_as v
  initial : x.0.version ≡ One → x.0.initial ≡ Rfc5681
  congestion : says_congestion x.0.version ≡ false → x.0.congestion ≡ Full
  judged : may_judge x.0.version x.0.congestion ≡ true
  slack : IfSome x.0.slack (λ n. n ≤ 1000000000000000000)
  no_slack : says_slack x.0.version ≡ false → x.0.slack ≡ None
  no_sender : says_sender x.0.version ≡ false → x.0.sender ≡ Reno
  no_growth : says_sender x.0.version ≡ false → x.0.growth ≡ OneSegment
  lines : AreLines 7 (late_words x.0) heads

half_takes : (raws : Raws) (x : LateLines × Raws) → late_lines Three raws ≡ Ok x → IsLate Three raws x
half_takes raws x e =
    let a = bind_ok (initial_line raws) with_half x e in
    let b = bind_ok (half_line a.0.1) (with_host a.0.0) x a.2 in
    let n = initial_takes raws a.0 a.1 in
    let h = number_takes 8 (codes "half") 0 0 (omega arith) a.0.1 b.0 b.1 in
    let most = h.high in
    let zero : b.0.0 ≡ 0 = omega (arith, most) in
    let half : IsLine 8 (joined half_words) h.raw = subst (λ (k : ℕ). IsLine 8 (joined (codes "half" ∷ decimal k ∷ [])) h.raw) zero h.line in
    subst (λ (y : LateLines × Raws). IsLate Three raws y) (ok_is (late Three a.0.0 Full None Reno OneSegment, b.0.1) x b.2) (record {
      heads = n.raw ∷ h.raw ∷ [];
      front = n.first ∙ ap (λ (us : Raws). n.raw ∷ us) h.first;
      named = refl;
      initial = λ one. absurd cc;
      congestion = λ says. refl;
      judged = refl;
      slack = tt;
      no_slack = λ says. refl;
      no_sender = λ says. refl;
      no_growth = λ says. refl;
      lines = (n.line, (half, tt));
    })

judged_takes : (v : Version) (raws : Raws) (x : LateLines × Raws) → says_congestion v ≡ true → judged_lines v raws ≡ Ok x → IsLate v raws x
judged_takes v raws x says e =
    let a = bind_ok (initial_line raws) (with_judged v) x e in
    let b = bind_ok (hosts_line a.0.1) (with_hosts v a.0.0) x a.2 in
    let c = bind_ok (congestion_line v b.0.1) (with_congestion v a.0.0 b.0.0) x b.2 in
    let d = bind_ok (last_line v c.0.1) (with_last v a.0.0 b.0.0 c.0.0) x c.2 in
    let f = bind_ok (control_lines v d.0.1) (with_control v a.0.0 b.0.0 c.0.0 d.0.0) x d.2 in
    let n = initial_takes raws a.0 a.1 in
    let h = number_takes 8 (codes "hosts") 1 2 (omega arith) a.0.1 b.0 b.1 in
    let k = congestion_takes v b.0.1 c.0 c.1 in
    let l = last_takes (says_slack v) c.0.1 d.0 d.1 in
    let m = control_takes (says_sender v) d.0.1 f.0 f.1 in
    let is = is_hosted v b.0.0 says h.low h.high in
    let made = late (hosted v b.0.0) a.0.0 c.0.0 d.0.0 f.0.0.0 f.0.0.1 in
    let last : c.0.1 ≡ (l.heads ++ m.heads) ++ f.0.1 =
    l.front ∙ ap (λ (us : Raws). l.heads ++ us) m.front ∙ sym (append_assoc l.heads m.heads f.0.1) in
    subst (λ (y : LateLines × Raws). IsLate v raws y) (ok_is (made, f.0.1) x f.2) (record {
      heads = n.raw ∷ h.raw ∷ k.raw ∷ (l.heads ++ m.heads);
      front = n.first ∙ ap (λ (us : Raws). n.raw ∷ us) (h.first ∙ ap (λ (us : Raws). h.raw ∷ us) (k.first ∙ ap (λ (us : Raws). k.raw ∷ us) last));
      named = is.named;
      initial = λ one. absurd (is.later one);
      congestion = λ none. let clash : true ≡ false = sym is.says ∙ none in absurd cc;
      judged = judges_as v (hosted v b.0.0) c.0.0 is.sender ∙ k.may;
      slack = l.most;
      no_slack = λ none. l.none (sym is.slack ∙ none);
      no_sender = λ none. m.no_sender (sym is.sender ∙ none);
      no_growth = λ none. m.no_growth (sym is.sender ∙ none);
      lines = subst (λ (ws : List (List (List ℕ))). AreLines 7 ws (n.raw ∷ h.raw ∷ k.raw ∷ (l.heads ++ m.heads)))
          (sym (is.words a.0.0 c.0.0 d.0.0 f.0.0.0 f.0.0.1))
          (n.line, (h.line, (k.line, last_lines (says_slack v) (says_sender v) d.0.0 f.0.0.0 f.0.0.1 l.heads m.heads (slack_too v) l.lines m.lines)));
    })

late_takes : (v : Version) (raws : Raws) (x : LateLines × Raws) → late_lines v raws ≡ Ok x → IsLate v raws x
late_takes One raws x e =
    subst (λ (y : LateLines × Raws). IsLate One raws y) (ok_is (late One Rfc5681 Full None Reno OneSegment, raws) x e) (record {
      heads = [];
      front = refl;
      named = refl;
      initial = λ one. refl;
      congestion = λ says. refl;
      judged = refl;
      slack = tt;
      no_slack = λ says. refl;
      no_sender = λ says. refl;
      no_growth = λ says. refl;
      lines = tt;
    })
late_takes Two raws x e =
    let a = bind_ok (initial_line raws) (λ i. Ok (late Two i.0 Full None Reno OneSegment, i.1)) x e in
    let n = initial_takes raws a.0 a.1 in
    subst (λ (y : LateLines × Raws). IsLate Two raws y) (ok_is (late Two a.0.0 Full None Reno OneSegment, a.0.1) x a.2) (record {
      heads = n.raw ∷ [];
      front = n.first;
      named = refl;
      initial = λ one. absurd cc;
      congestion = λ says. refl;
      judged = refl;
      slack = tt;
      no_slack = λ says. refl;
      no_sender = λ says. refl;
      no_growth = λ says. refl;
      lines = (n.line, tt);
    })
late_takes Three raws x e = half_takes raws x e
late_takes Four raws x e = judged_takes Four raws x refl e
late_takes FourHalf raws x e = judged_takes FourHalf raws x refl e
late_takes Five raws x e = judged_takes Five raws x refl e
late_takes FiveHalf raws x e = judged_takes FiveHalf raws x refl e
late_takes Six raws x e = judged_takes Six raws x refl e
late_takes SixHalf raws x e = judged_takes SixHalf raws x refl e

-- ---- the first line

record IsFirst (raws : Raws) (x : Version × Raws) : Type 0 where
  raw : List ℕ
  first : raws ≡ raw ∷ x.1
  line : IsLine 1 (joined (first_words x.0)) raw

first_clean : (v : Version) → AllByRecursion IsClean (first_words v)
first_clean One = (clean_by (codes "trace") refl, (clean_by (codes "1") refl, tt))
first_clean Two = (clean_by (codes "trace") refl, (clean_by (codes "2") refl, tt))
first_clean Three = (clean_by (codes "trace") refl, (clean_by (codes "3") refl, tt))
first_clean Four = (clean_by (codes "trace") refl, (clean_by (codes "4") refl, tt))
first_clean FourHalf = (clean_by (codes "trace") refl, (clean_by (codes "4") refl, tt))
first_clean Five = (clean_by (codes "trace") refl, (clean_by (codes "5") refl, tt))
first_clean FiveHalf = (clean_by (codes "trace") refl, (clean_by (codes "5") refl, tt))
first_clean Six = (clean_by (codes "trace") refl, (clean_by (codes "6") refl, tt))
first_clean SixHalf = (clean_by (codes "trace") refl, (clean_by (codes "6") refl, tt))

-- the same fields name both of version 4, as both of version 5 and of version 6
pub words_named : (v : Version) → first_words (named_as v) ≡ first_words v
words_named One = refl
words_named Two = refl
words_named Three = refl
words_named Four = refl
words_named FourHalf = refl
words_named Five = refl
words_named FiveHalf = refl
words_named Six = refl
words_named SixHalf = refl

-- the text is that of the first line
abbrev pub is_first : List ℕ → Version → Bool
is_first text v = bytes_eq text (joined (first_words v))

version_by : (text : List ℕ) (fault : TextFault) (v : Version) (a b c d f g : Bool)
    → is_first text One ≡ a → is_first text Two ≡ b → is_first text Three ≡ c → is_first text Four ≡ d → is_first text Five ≡ f
    → is_first text Six ≡ g
    → cond a (Ok One) (cond b (Ok Two) (cond c (Ok Three) (cond d (Ok Four) (cond f (Ok Five) (cond g (Ok Six) (Err fault)))))) ≡ Ok v
    → is_first text v ≡ true
version_by text fault v true b c d f g one two three four five six e = ap (is_first text) (sym (ok_is One v e)) ∙ one
version_by text fault v false true c d f g one two three four five six e = ap (is_first text) (sym (ok_is Two v e)) ∙ two
version_by text fault v false false true d f g one two three four five six e = ap (is_first text) (sym (ok_is Three v e)) ∙ three
version_by text fault v false false false true f g one two three four five six e = ap (is_first text) (sym (ok_is Four v e)) ∙ four
version_by text fault v false false false false true g one two three four five six e = ap (is_first text) (sym (ok_is Five v e)) ∙ five
version_by text fault v false false false false false true one two three four five six e = ap (is_first text) (sym (ok_is Six v e)) ∙ six
version_by text fault v false false false false false false one two three four five six e = absurd cc

pub version_taken : (text : List ℕ) (v : Version) → version_in text ≡ Ok v → text ≡ joined (first_words v)
version_taken text v e =
    let found =
    version_by text (record { kind = kinds.Header; span = whole_line 1 text }) v
    (is_first text One) (is_first text Two) (is_first text Three) (is_first text Four) (is_first text Five) (is_first text Six)
    refl refl refl refl refl refl e in
    (bytes_eq-Decides text (joined (first_words v))).0 found

pub version_given : (v : Version) → version_in (joined (first_words v)) ≡ Ok (named_as v)
version_given One = refl
version_given Two = refl
version_given Three = refl
version_given Four = refl
version_given FourHalf = refl
version_given Five = refl
version_given FiveHalf = refl
version_given Six = refl
version_given SixHalf = refl

pub version_takes : (raw : List ℕ) (v : Version) → first_version raw ≡ Ok v → IsLine 1 (joined (first_words v)) raw
unfolding first_version
version_takes raw v e =
    let b = bind_ok (line_text 1 raw) version_in v e in
    subst (λ (t : List ℕ). IsLine 1 t raw) (version_taken b.0 v b.2) (text_takes 1 raw b.0 b.1)

pub version_again : (v : Version) (raw : List ℕ) → IsLine 1 (joined (first_words v)) raw → first_version raw ≡ Ok (named_as v)
unfolding first_version
version_again v raw line =
    ap (λ (x : Result (List ℕ) TextFault). x >>= version_in)
    (text_again 1 raw (joined (first_words v)) (joined_no_return (first_words v) (first_clean v)) line)
    ∙ version_given v

-- it is known from the first line alone
named_text : (v : Version) (raw : List ℕ) (raws : Raws)
    → without_terminator raw ≡ joined (first_words v) → is_ended raw ≡ true → version_named (raw ∷ raws) ≡ named_as v
named_text One raw raws text ended = rw (text, ended) refl
named_text Two raw raws text ended = rw (text, ended) refl
named_text Three raw raws text ended = rw (text, ended) refl
named_text Four raw raws text ended = rw (text, ended) refl
named_text FourHalf raw raws text ended = rw (text, ended) refl
named_text Five raw raws text ended = rw (text, ended) refl
named_text FiveHalf raw raws text ended = rw (text, ended) refl
named_text Six raw raws text ended = rw (text, ended) refl
named_text SixHalf raw raws text ended = rw (text, ended) refl

named_by : (v : Version) (raw : List ℕ) (raws : Raws) → IsLine 1 (joined (first_words v)) raw → version_named (raw ∷ raws) ≡ named_as v
named_by v raw raws line =
    let own = ending_again raw (joined (first_words v)) (joined_no_return (first_words v) (first_clean v)) line.ends in
    named_text v raw raws own.0 own.1

first_taken : (raws : Raws) (x : Version × Raws) → first_line raws ≡ Ok x → IsFirst raws x
unfolding first_line
first_taken raws x e =
    let a = bind_ok (next_raw 1 raws) (λ y. first_version y.0 >>= λ v. Ok (v, y.1)) x e in
    let b = bind_ok (first_version a.0.0) (λ v. Ok (v, a.0.1)) x a.2 in
    subst (λ (y : Version × Raws). IsFirst raws y) (ok_is (b.0, a.0.1) x b.2)
    (record { raw = a.0.0; first = raw_takes 1 raws a.0 a.1; line = version_takes a.0.0 b.0 b.1 })

first_given : (v : Version) (raw : List ℕ) (rest : Raws) → IsLine 1 (joined (first_words v)) raw → first_line (raw ∷ rest) ≡ Ok (named_as v, rest)
unfolding first_line
first_given v raw rest line = ap (λ (x : Result Version TextFault). x >>= λ u. Ok (u, rest)) (version_again v raw line)

-- ---- the header

abbrev pub Numbered : Type 0
Numbered = ℕ × Raws

abbrev pub Headed : Type 0
Headed = Header × Raws

abbrev pub skew_line : Raws → Result Numbered TextFault
skew_line raws = next_value 2 (codes "skew") (number_field 0 1000000000) raws

abbrev pub msl_line : Raws → Result Numbered TextFault
msl_line raws = next_value 3 (codes "msl") (number_field 1 3600000000) raws

abbrev pub grain_line : Raws → Result Numbered TextFault
grain_line raws = next_value 4 (codes "grain") (number_field 0 60000000) raws

abbrev pub minrto_line : Raws → Result Numbered TextFault
minrto_line raws = next_value 5 (codes "minrto") (number_field 0 60000000) raws

abbrev pub extra_line : Raws → Result Numbered TextFault
extra_line raws = next_value 6 (codes "extra") (number_field 0 65535) raws

abbrev pub with_late : ℕ → ℕ → ℕ → ℕ → ℕ → LateLines × Raws → Result Headed TextFault
with_late s m g i x l = Ok (header_with s m g i x l.0, l.1)

abbrev pub with_extra : Version → ℕ → ℕ → ℕ → ℕ → Numbered → Result Headed TextFault
with_extra v s m g i x = late_lines v x.1 >>= with_late s m g i x.0

abbrev pub with_minrto : Version → ℕ → ℕ → ℕ → Numbered → Result Headed TextFault
with_minrto v s m g i = extra_line i.1 >>= with_extra v s m g i.0

abbrev pub with_grain : Version → ℕ → ℕ → Numbered → Result Headed TextFault
with_grain v s m g = minrto_line g.1 >>= with_minrto v s m g.0

abbrev pub with_msl : Version → ℕ → Numbered → Result Headed TextFault
with_msl v s m = grain_line m.1 >>= with_grain v s m.0

abbrev pub with_skew : Version → Numbered → Result Headed TextFault
with_skew v s = msl_line s.1 >>= with_msl v s.0

abbrev pub with_first : Version × Raws → Result Headed TextFault
with_first f = skew_line f.1 >>= with_skew f.0

-- the header that was read, and the bytes of its lines
pub record IsHeaded (raws : List (List ℕ)) (x : Header × List (List ℕ)) : Type 0 where
  pub heads : List (List ℕ)
  pub front : raws ≡ heads ++ x.1
  pub limits : IsHeader x.0
  pub lines : AreLines 1 (header_words x.0) heads

pub header_takes : (raws : List (List ℕ)) (x : Header × List (List ℕ)) → header_of raws ≡ Ok x → IsHeaded raws x
unfolding header_of
header_takes raws x e =
    let a = bind_ok (first_line raws) with_first x e in
    let v = a.0.0 in
    let b = bind_ok (skew_line a.0.1) (with_skew v) x a.2 in
    let c = bind_ok (msl_line b.0.1) (with_msl v b.0.0) x b.2 in
    let d = bind_ok (grain_line c.0.1) (with_grain v b.0.0 c.0.0) x c.2 in
    let f = bind_ok (minrto_line d.0.1) (with_minrto v b.0.0 c.0.0 d.0.0) x d.2 in
    let g = bind_ok (extra_line f.0.1) (with_extra v b.0.0 c.0.0 d.0.0 f.0.0) x f.2 in
    let k = bind_ok (late_lines v g.0.1) (with_late b.0.0 c.0.0 d.0.0 f.0.0 g.0.0) x g.2 in
    let h = first_taken raws a.0 a.1 in
    let s = number_takes 2 (codes "skew") 0 1000000000 (omega arith) a.0.1 b.0 b.1 in
    let m = number_takes 3 (codes "msl") 1 3600000000 (omega arith) b.0.1 c.0 c.1 in
    let n = number_takes 4 (codes "grain") 0 60000000 (omega arith) c.0.1 d.0 d.1 in
    let i = number_takes 5 (codes "minrto") 0 60000000 (omega arith) d.0.1 f.0 f.1 in
    let t = number_takes 6 (codes "extra") 0 65535 (omega arith) f.0.1 g.0 g.1 in
    let l = late_takes v g.0.1 k.0 k.1 in
    let made : Header = header_with b.0.0 c.0.0 d.0.0 f.0.0 g.0.0 k.0.0 in
    let words : first_words v ≡ first_words k.0.0.version = sym (words_named v) ∙ ap first_words (sym l.named) ∙ words_named k.0.0.version in
    subst (λ (y : Headed). IsHeaded raws y) (ok_is (made, k.0.1) x k.2) (record {
      heads = h.raw ∷ s.raw ∷ m.raw ∷ n.raw ∷ i.raw ∷ t.raw ∷ l.heads;
      front =
          h.first ∙ ap (λ (us : Raws). h.raw ∷ us)
          (s.first ∙ ap (λ (us : Raws). s.raw ∷ us)
          (m.first ∙ ap (λ (us : Raws). m.raw ∷ us)
          (n.first ∙ ap (λ (us : Raws). n.raw ∷ us)
          (i.first ∙ ap (λ (us : Raws). i.raw ∷ us) (t.first ∙ ap (λ (us : Raws). t.raw ∷ us) l.front)))));
      limits = record {
        skew = s.high;
        msl_least = m.low;
        msl = m.high;
        grain = n.high;
        minrto = i.high;
        extra = t.high;
        initial = l.initial;
        congestion = l.congestion;
        judged = l.judged;
        slack = l.slack;
        no_slack = l.no_slack;
        no_sender = l.no_sender;
        no_growth = l.no_growth;
      };
      lines = (subst (λ (ws : List (List ℕ)). IsLine 1 (joined ws) h.raw) words h.line, (s.line, (m.line, (n.line, (i.line, (t.line, l.lines))))));
    })

-- the first of some lines
record HasLine (number : ℕ) (ws : List (List ℕ)) (lines : List (List (List ℕ))) (raws : Raws) : Type 0 where
  raw : List ℕ
  rest : Raws
  first : raws ≡ raw ∷ rest
  line : IsLine number (joined ws) raw
  others : AreLines (number + 1) lines rest

has_line : (number : ℕ) (ws : List (List ℕ)) (lines : List (List (List ℕ))) (raws : Raws) → AreLines number (ws ∷ lines) raws → HasLine number ws lines raws
has_line number ws lines [] h = absurd h
has_line number ws lines (raw ∷ raws) h = record { raw = raw; rest = raws; first = refl; line = h.0; others = h.1 }

no_line : (number : ℕ) (raws : Raws) → AreLines number [] raws → raws ≡ []
no_line number [] h = refl
no_line number (raw ∷ raws) h = absurd h

control_again : (says : Bool) (s : Sender) (g : Growth) (heads rest : Raws) → (says ≡ false → s ≡ Reno) → (says ≡ false → g ≡ OneSegment)
    → AreLines 11 (control_of says s g) heads
    → cond says (both_lines (heads ++ rest)) (Ok ((Reno, OneSegment), heads ++ rest)) ≡ Ok ((s, g), rest)
unfolding both_lines
control_again true s g heads rest no_sender no_growth lines =
    let a = has_line 11 (sender_words s) (growth_words g ∷ []) heads lines in
    let b = has_line 12 (growth_words g) [] a.rest a.others in
    let all : heads ≡ a.raw ∷ b.raw ∷ [] = a.first ∙ ap (λ (us : Raws). a.raw ∷ us) (b.first ∙ ap (λ (us : Raws). b.raw ∷ us) (no_line 13 b.rest b.others)) in
    let sender =
    word_again 11 (codes "sender") sender_name all_senders sender_known s a.raw (b.raw ∷ rest)
    (clean_by (codes "sender") refl) (sender_clean s) a.line in
    let growth =
    word_again 12 (codes "growth") growth_name all_growths growth_known g b.raw rest
    (clean_by (codes "growth") refl) (growth_clean g) b.line in
    ap (λ (us : Raws). sender_line (us ++ rest) >>= with_sender) all ∙ rw (sender, growth) refl
control_again false s g heads rest no_sender no_growth lines =
    ap (λ (us : Raws). Ok ((Reno, OneSegment), us ++ rest)) (no_line 11 heads lines)
    ∙ ap (λ (k : Sender). Ok ((k, OneSegment), rest)) (sym (no_sender refl))
    ∙ ap (λ (k : Growth). Ok ((s, k), rest)) (sym (no_growth refl))

-- the line that says how late a host may be is read, and these lines are left
record IsLastRead (slack sender : Bool) (o : Option ℕ) (s : Sender) (g : Growth) (heads rest : Raws) : Type 0 where
  left : Raws
  read : cond slack (slack_line (heads ++ rest)) (Ok (None, heads ++ rest)) ≡ Ok (o, left ++ rest)
  lines : AreLines 11 (control_of sender s g) left

last_again : (slack sender : Bool) (o : Option ℕ) (s : Sender) (g : Growth) (heads rest : Raws) → IfSome o (λ n. n ≤ 1000000000000000000)
    → (slack ≡ false → o ≡ None) → (slack ≡ false → sender ≡ false) → AreLines 10 (last_of slack sender o s g) heads
    → IsLastRead slack sender o s g heads rest
last_again true sender o s g heads rest most none too lines =
    let a = has_line 10 (slack_words o) (control_of sender s g) heads lines in
    record {
      left = a.rest;
      read = ap (λ (us : Raws). slack_line (us ++ rest)) a.first ∙ slack_again o a.raw (a.rest ++ rest) most a.line;
      lines = a.others;
    }
last_again false true o s g heads rest most none too lines = let clash = too refl in absurd cc
last_again false false o s g heads rest most none too lines =
    record {
      left = [];
      read = ap (λ (us : Raws). Ok (None, us ++ rest)) (no_line 10 heads lines) ∙ ap (λ (k : Option ℕ). Ok (k, rest)) (sym (none refl));
      lines = tt;
    }

-- the limits of what these lines say
record HasLimits (l : LateLines) : Type 0 where
  initial : l.version ≡ One → l.initial ≡ Rfc5681
  congestion : says_congestion l.version ≡ false → l.congestion ≡ Full
  judged : may_judge l.version l.congestion ≡ true
  slack : IfSome l.slack (λ n. n ≤ 1000000000000000000)
  no_slack : says_slack l.version ≡ false → l.slack ≡ None
  no_sender : says_sender l.version ≡ false → l.sender ≡ Reno
  no_growth : says_sender l.version ≡ false → l.growth ≡ OneSegment

judged_again : (v : Version) (n : ℕ) (i : Initial) (j : Judged) (o : Option ℕ) (s : Sender) (g : Growth) (heads rest : Raws) → 1 ≤ n → n ≤ 2
    → may_judge v j ≡ true → IfSome o (λ n. n ≤ 1000000000000000000) → (says_slack v ≡ false → o ≡ None)
    → (says_sender v ≡ false → s ≡ Reno) → (says_sender v ≡ false → g ≡ OneSegment) → AreLines 7 (judged_words n (late v i j o s g)) heads
    → judged_lines v (heads ++ rest) ≡ Ok (late (hosted v n) i j o s g, rest)
judged_again v n i j o s g heads rest low high may most none no_sender no_growth lines =
    let others = last_of (says_slack v) (says_sender v) o s g in
    let a = has_line 7 (initial_words i) (hosts_words n ∷ congestion_words j ∷ others) heads lines in
    let b = has_line 8 (hosts_words n) (congestion_words j ∷ others) a.rest a.others in
    let c = has_line 9 (congestion_words j) others b.rest b.others in
    let all : heads ≡ a.raw ∷ b.raw ∷ c.raw ∷ c.rest =
    a.first ∙ ap (λ (us : Raws). a.raw ∷ us) (b.first ∙ ap (λ (us : Raws). b.raw ∷ us) c.first) in
    let first = initial_again i a.raw (b.raw ∷ c.raw ∷ (c.rest ++ rest)) a.line in
    let hosts = number_again 8 (codes "hosts") 1 2 (omega arith) (clean_by (codes "hosts") refl) b.raw (c.raw ∷ (c.rest ++ rest)) n b.line low high in
    let congestion = congestion_again v j c.raw (c.rest ++ rest) may c.line in
    let last = last_again (says_slack v) (says_sender v) o s g c.rest rest most none (slack_too v) c.others in
    let slack = last.read in
    let control = control_again (says_sender v) s g last.left rest no_sender no_growth last.lines in
    ap (λ (us : Raws). judged_lines v (us ++ rest)) all ∙ rw (first, hosts, congestion, slack, control) refl

abbrev told : Told → Result Told TextFault
told x = Ok x

-- a version without these lines has these values
plain_again : (v : Version) (i : Initial) (j : Judged) (o : Option ℕ) (s : Sender) (g : Growth) (rest : Raws)
    → j ≡ Full → o ≡ None → s ≡ Reno → g ≡ OneSegment
    → told (late v i Full None Reno OneSegment, rest) ≡ Ok (late v i j o s g, rest)
plain_again v i j o s g rest full none reno one = rw (full, none, reno, one) refl

late_again : (v : Version) (i : Initial) (j : Judged) (o : Option ℕ) (s : Sender) (g : Growth) (heads rest : Raws) → HasLimits (late v i j o s g)
    → AreLines 7 (late_words (late v i j o s g)) heads → late_lines (named_as v) (heads ++ rest) ≡ Ok (late v i j o s g, rest)
late_again One i j o s g heads rest limits lines =
    ap (λ (us : Raws). late_lines One (us ++ rest)) (no_line 7 heads lines)
    ∙ ap (λ (k : Initial). Ok (late One k Full None Reno OneSegment, rest)) (sym (limits.initial refl))
    ∙ plain_again One i j o s g rest (limits.congestion refl) (limits.no_slack refl) (limits.no_sender refl) (limits.no_growth refl)
late_again Two i j o s g heads rest limits lines =
    let a = has_line 7 (initial_words i) [] heads lines in
    let all : heads ≡ a.raw ∷ [] = a.first ∙ ap (λ (us : Raws). a.raw ∷ us) (no_line 8 a.rest a.others) in
    ap (λ (us : Raws). late_lines Two (us ++ rest)) all
    ∙ ap (λ (m : Result (Initial × Raws) TextFault). m >>= λ x. Ok (late Two x.0 Full None Reno OneSegment, x.1)) (initial_again i a.raw rest a.line)
    ∙ plain_again Two i j o s g rest (limits.congestion refl) (limits.no_slack refl) (limits.no_sender refl) (limits.no_growth refl)
late_again Three i j o s g heads rest limits lines =
    let a = has_line 7 (initial_words i) (half_words ∷ []) heads lines in
    let b = has_line 8 half_words [] a.rest a.others in
    let all : heads ≡ a.raw ∷ b.raw ∷ [] = a.first ∙ ap (λ (us : Raws). a.raw ∷ us) (b.first ∙ ap (λ (us : Raws). b.raw ∷ us) (no_line 9 b.rest b.others)) in
    let first = initial_again i a.raw (b.raw ∷ rest) a.line in
    let half = number_again 8 (codes "half") 0 0 (omega arith) (clean_by (codes "half") refl) b.raw rest 0 b.line (omega arith) (omega arith) in
    let read : late_lines Three (a.raw ∷ b.raw ∷ rest) ≡ Ok (late Three i Full None Reno OneSegment, rest) = rw (first, half) refl in
    ap (λ (us : Raws). late_lines Three (us ++ rest)) all ∙ read
    ∙ plain_again Three i j o s g rest (limits.congestion refl) (limits.no_slack refl) (limits.no_sender refl) (limits.no_growth refl)
late_again Four i j o s g heads rest limits lines =
    judged_again Four 2 i j o s g heads rest (omega arith) (omega arith) limits.judged limits.slack limits.no_slack limits.no_sender limits.no_growth lines
late_again FourHalf i j o s g heads rest limits lines =
    judged_again Four 1 i j o s g heads rest (omega arith) (omega arith) (judges_as FourHalf Four j refl ∙ limits.judged)
    limits.slack limits.no_slack limits.no_sender limits.no_growth lines
late_again Five i j o s g heads rest limits lines =
    judged_again Five 2 i j o s g heads rest (omega arith) (omega arith) limits.judged limits.slack limits.no_slack limits.no_sender limits.no_growth lines
late_again FiveHalf i j o s g heads rest limits lines =
    judged_again Five 1 i j o s g heads rest (omega arith) (omega arith) (judges_as FiveHalf Five j refl ∙ limits.judged)
    limits.slack limits.no_slack limits.no_sender limits.no_growth lines
late_again Six i j o s g heads rest limits lines =
    judged_again Six 2 i j o s g heads rest (omega arith) (omega arith) limits.judged limits.slack limits.no_slack limits.no_sender limits.no_growth lines
late_again SixHalf i j o s g heads rest limits lines =
    judged_again Six 1 i j o s g heads rest (omega arith) (omega arith) (judges_as SixHalf Six j refl ∙ limits.judged)
    limits.slack limits.no_slack limits.no_sender limits.no_growth lines

-- the fields of the header's lines from one line on
abbrev from_extra : Header → List (List (List ℕ))
from_extra h = (codes "extra" ∷ decimal h.extra ∷ []) ∷ late_words (late_of h)

abbrev from_minrto : Header → List (List (List ℕ))
from_minrto h = (codes "minrto" ∷ decimal h.minrto ∷ []) ∷ from_extra h

abbrev from_grain : Header → List (List (List ℕ))
from_grain h = (codes "grain" ∷ decimal h.grain ∷ []) ∷ from_minrto h

abbrev from_msl : Header → List (List (List ℕ))
from_msl h = (codes "msl" ∷ decimal h.msl ∷ []) ∷ from_grain h

abbrev from_skew : Header → List (List (List ℕ))
from_skew h = (codes "skew" ∷ decimal h.skew ∷ []) ∷ from_msl h

pub header_again : (h : Header) (heads rest : List (List ℕ)) → IsHeader h → AreLines 1 (header_words h) heads → header_of (heads ++ rest) ≡ Ok (h, rest)
unfolding header_of
header_again h heads rest limits lines =
    let a = has_line 1 (first_words h.version) (from_skew h) heads lines in
    let b = has_line 2 (codes "skew" ∷ decimal h.skew ∷ []) (from_msl h) a.rest a.others in
    let c = has_line 3 (codes "msl" ∷ decimal h.msl ∷ []) (from_grain h) b.rest b.others in
    let d = has_line 4 (codes "grain" ∷ decimal h.grain ∷ []) (from_minrto h) c.rest c.others in
    let f = has_line 5 (codes "minrto" ∷ decimal h.minrto ∷ []) (from_extra h) d.rest d.others in
    let g = has_line 6 (codes "extra" ∷ decimal h.extra ∷ []) (late_words (late_of h)) f.rest f.others in
    let last = g.rest in
    let all : heads ≡ a.raw ∷ b.raw ∷ c.raw ∷ d.raw ∷ f.raw ∷ g.raw ∷ last =
    a.first ∙ ap (λ (us : Raws). a.raw ∷ us)
    (b.first ∙ ap (λ (us : Raws). b.raw ∷ us)
    (c.first ∙ ap (λ (us : Raws). c.raw ∷ us)
    (d.first ∙ ap (λ (us : Raws). d.raw ∷ us) (f.first ∙ ap (λ (us : Raws). f.raw ∷ us) g.first)))) in
    let first = first_given h.version a.raw (b.raw ∷ c.raw ∷ d.raw ∷ f.raw ∷ g.raw ∷ (last ++ rest)) a.line in
    let skew =
    number_again 2 (codes "skew") 0 1000000000 (omega arith) (clean_by (codes "skew") refl) b.raw
    (c.raw ∷ d.raw ∷ f.raw ∷ g.raw ∷ (last ++ rest)) h.skew b.line (omega arith) limits.skew in
    let msl =
    number_again 3 (codes "msl") 1 3600000000 (omega arith) (clean_by (codes "msl") refl) c.raw
    (d.raw ∷ f.raw ∷ g.raw ∷ (last ++ rest)) h.msl c.line limits.msl_least limits.msl in
    let grain =
    number_again 4 (codes "grain") 0 60000000 (omega arith) (clean_by (codes "grain") refl) d.raw
    (f.raw ∷ g.raw ∷ (last ++ rest)) h.grain d.line (omega arith) limits.grain in
    let minrto =
    number_again 5 (codes "minrto") 0 60000000 (omega arith) (clean_by (codes "minrto") refl) f.raw
    (g.raw ∷ (last ++ rest)) h.minrto f.line (omega arith) limits.minrto in
    let extra =
    number_again 6 (codes "extra") 0 65535 (omega arith) (clean_by (codes "extra") refl) g.raw
    (last ++ rest) h.extra g.line (omega arith) limits.extra in
    let own : HasLimits (late_of h) =
    record {
      initial = limits.initial;
      congestion = limits.congestion;
      judged = limits.judged;
      slack = limits.slack;
      no_slack = limits.no_slack;
      no_sender = limits.no_sender;
      no_growth = limits.no_growth;
    } in
    let late_read = late_again h.version h.initial h.congestion h.slack h.sender h.growth last rest own g.others in
    ap (λ (us : Raws). first_line (us ++ rest) >>= with_first) all ∙ rw (first, skew, msl, grain, minrto, extra, late_read) refl

control_clean : (says : Bool) (s : Sender) (g : Growth) → AllByRecursion (AllByRecursion IsClean) (control_of says s g)
control_clean true s g =
    ((clean_by (codes "sender") refl, (sender_clean s, tt)), ((clean_by (codes "growth") refl, (growth_clean g, tt)), tt))
control_clean false s g = tt

last_clean : (slack sender : Bool) (o : Option ℕ) (s : Sender) (g : Growth) → IfSome o (λ n. n ≤ 1000000000000000000)
    → AllByRecursion (AllByRecursion IsClean) (last_of slack sender o s g)
last_clean true sender o s g most = ((clean_by (codes "slack") refl, (slack_clean o most, tt)), control_clean sender s g)
last_clean false sender o s g most = tt

judged_words_clean : (n : ℕ) (l : LateLines) → n ≤ 2 → IfSome l.slack (λ n. n ≤ 1000000000000000000)
    → AllByRecursion (AllByRecursion IsClean) (judged_words n l)
judged_words_clean n l few most = (
  (clean_by (codes "initial") refl, (initial_clean l.initial, tt)),
  (
    (clean_by (codes "hosts") refl, (IsClean-decimal n (omega arith), tt)),
    (
      (clean_by (codes "congestion") refl, (judged_clean l.congestion, tt)),
      last_clean (says_slack l.version) (says_sender l.version) l.slack l.sender l.growth most,
    ),
  ),
)

words_clean : (v : Version) (i : Initial) (j : Judged) (o : Option ℕ) (s : Sender) (g : Growth) → IfSome o (λ n. n ≤ 1000000000000000000)
    → AllByRecursion (AllByRecursion IsClean) (late_words (late v i j o s g))
words_clean One i j o s g most = tt
words_clean Two i j o s g most = ((clean_by (codes "initial") refl, (initial_clean i, tt)), tt)
words_clean Three i j o s g most =
    ((clean_by (codes "initial") refl, (initial_clean i, tt)), ((clean_by (codes "half") refl, (IsClean-decimal 0 (omega arith), tt)), tt))
words_clean Four i j o s g most = judged_words_clean 2 (late Four i j o s g) (omega arith) most
words_clean FourHalf i j o s g most = judged_words_clean 1 (late FourHalf i j o s g) (omega arith) most
words_clean Five i j o s g most = judged_words_clean 2 (late Five i j o s g) (omega arith) most
words_clean FiveHalf i j o s g most = judged_words_clean 1 (late FiveHalf i j o s g) (omega arith) most
words_clean Six i j o s g most = judged_words_clean 2 (late Six i j o s g) (omega arith) most
words_clean SixHalf i j o s g most = judged_words_clean 1 (late SixHalf i j o s g) (omega arith) most

-- no field of a header holds a space, a CR or a LF
pub header_clean : (h : Header) → IsHeader h → AllByRecursion (AllByRecursion IsClean) (header_words h)
header_clean h limits =
    let skew = limits.skew in let msl = limits.msl in let grain = limits.grain in let minrto = limits.minrto in let extra = limits.extra in (
      first_clean h.version,
      (
        (clean_by (codes "skew") refl, (IsClean-decimal h.skew (omega arith), tt)),
        (
          (clean_by (codes "msl") refl, (IsClean-decimal h.msl (omega arith), tt)),
          (
            (clean_by (codes "grain") refl, (IsClean-decimal h.grain (omega arith), tt)),
            (
              (clean_by (codes "minrto") refl, (IsClean-decimal h.minrto (omega arith), tt)),
              (
                (clean_by (codes "extra") refl, (IsClean-decimal h.extra (omega arith), tt)),
                words_clean h.version h.initial h.congestion h.slack h.sender h.growth limits.slack,
              ),
            ),
          ),
        ),
      ),
    )

lines_raw : (number : ℕ) (lines : List (List (List ℕ))) (raws : Raws) → AllByRecursion (AllByRecursion IsClean) lines
    → AreLines number lines raws → AllByRecursion IsRaw raws
lines_raw number [] [] clean h = tt
lines_raw number [] (raw ∷ raws) clean h = absurd h
lines_raw number (ws ∷ lines) [] clean h = absurd h
lines_raw number (ws ∷ lines) (raw ∷ raws) clean h = (is_raw number ws raw clean.0 h.0, lines_raw (number + 1) lines raws clean.1 h.1)

-- what spells a header are lines
pub header_raw : (h : Header) (heads : List (List ℕ)) → IsHeader h → AreLines 1 (header_words h) heads → AllByRecursion IsRaw heads
header_raw h heads limits lines = lines_raw 1 (header_words h) heads (header_clean h limits) lines

-- a text that begins with a header names its version; of versions 4 to 6, that of two hosts
pub header_named : (h : Header) (heads : List (List ℕ)) (rest : List ℕ) → AreLines 1 (header_words h) heads
    → version_named (lines_of (concat heads ++ rest)) ≡ named_as h.version
header_named h heads rest lines =
    let a = has_line 1 (first_words h.version) (from_skew h) heads lines in
    let behind = concat a.rest ++ rest in
    let cut : lines_of (concat heads ++ rest) ≡ a.raw ∷ lines_of behind =
    ap (λ (us : Raws). lines_of (concat us ++ rest)) a.first ∙ ap lines_of (append_assoc a.raw (concat a.rest) rest)
    ∙ lines_of-raw a.raw behind (is_raw 1 (first_words h.version) a.raw (first_clean h.version) a.line) in
    ap version_named cut ∙ named_by h.version a.raw (lines_of behind) a.line
