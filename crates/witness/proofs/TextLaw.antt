-- A text is read exactly where it stands for a witness.
use Rattle.std.proofs.Common.{◌≡◌, ℕ, List, [], ◌∷◌, ◌++◌, Bool, true, false, Result, Ok, Err, refl, sym, ap, subst, ◌∙◌, get_or}
use Rattle.std.specs.Prelude.{codes, IfOk, IsTrue, ◌↔◌}
use Rattle.std.specs.Str.{bytes_eq}
use Rattle.std.proofs.lemmas.Bool.{and_parts, false_from_ne_true}
use Rattle.std.proofs.lemmas.Slice.Eq.{bytes_eq-Decides}
use Rattle.std.specs.List.{concat, AllByRecursion}
use Rattle.bstr.specs.Text.{lines_of, without_terminator}
use Rattle.bstr.proofs.lemmas.RestLemmas.{concat-lines_of}
use Rattle.case_forms.specs.declared.steps.Step.{Step}
use Rattle.case_forms.specs.declared.steps.Witness.{Witness}
use Rattle.case_forms.specs.declared.version.Version.{Version}
use Rattle.case_forms.specs.declared.version.Version.TheVariants as versions
use Rattle.case_forms.specs.Versions.{named_as}
use Rattle.line_fields.specs.declared.fault.TextFault.{TextFault}
use Rattle.line_fields.specs.Reading.{◌>>=◌, Gives}
use Rattle.line_fields.specs.Lines.{NoReturn, Ends, IsRaw, IsLine, is_ended, expect_line, next_raw}
use Rattle.line_fields.specs.Spelling.{IsClean, joined}
use Rattle.line_fields.specs.Folding.{read_lines}
use Rattle.line_fields.proofs.Readers.{bind_ok, ok_is}
use Rattle.line_fields.proofs.LineRests.{is_raw, exact_takes, exact_again}
use Rattle.line_fields.proofs.Clean.{clean_by, joined_no_return}
use Rattle.line_fields.proofs.Endings.{ending_again, ending_taken}
use Rattle.line_fields.proofs.Texts.{lines_of-concat}
use Rattle.line_fields.proofs.Loop.{spelled_takes, spelled_again, spelled_raws}
use Rattle.witness.specs.FirstLine.{first_text, begins_witness}
use Rattle.witness.specs.Steps.{IsStepText, step_of}
use Rattle.witness.specs.WitnessText.{number_after, IsWitnessText, seen_alone, witness_in, witness_for, version_named, witness_of}
use Rattle.witness.proofs.StepLaw.{reads_step, is_step_raw}
use Rattle.witness.proofs.AloneLaw.{text_alone}

-- ---- what is read is spelled so

next_takes : (number : ℕ) (raws : List (List ℕ)) (x : List ℕ × List (List ℕ)) → next_raw number raws ≡ Ok x → raws ≡ x.0 ∷ x.1
next_takes number [] x e = absurd cc
next_takes number (raw ∷ raws) x e = subst (λ (y : List ℕ × List (List ℕ)). raw ∷ raws ≡ y.0 ∷ y.1) (ok_is (raw, raws) x e) refl

abbrev witness_by : Version → List Step → Result Witness TextFault
witness_by v steps = Ok (record { version = v; steps = steps })

abbrev behind_first : Version → List ℕ × List (List ℕ) → Result Witness TextFault
behind_first v first = expect_line 1 (first_text v) first.0 >>= λ begun. read_lines (step_of v) number_after 2 first.1 >>= witness_by v

pub text_takes : (v : Version) (w : Witness) (text : List ℕ) → witness_for v text ≡ Ok w → (w.version ≡ v) × IsWitnessText w text
unfolding witness_for
text_takes v w text e =
    let a = bind_ok (next_raw 1 (lines_of text)) (behind_first v) w e in
    let b = bind_ok (expect_line 1 (first_text v) a.0.0) (λ begun. read_lines (step_of v) number_after 2 a.0.1 >>= witness_by v) w a.2 in
    let c = bind_ok (read_lines (step_of v) number_after 2 a.0.1) (witness_by v) w b.2 in
    subst (λ (u : Witness). (u.version ≡ v) × IsWitnessText u text) (ok_is (record { version = v; steps = c.0 }) w c.2) (
      refl,
      record {
        first = a.0.0;
        raws = a.0.1;
        begins = exact_takes 1 (first_text v) a.0.0 b.0 b.1;
        steps = spelled_takes (step_of v) number_after (IsStepText v) (reads_step v) 2 a.0.1 c.0 c.1;
        parts = sym (concat-lines_of text) ∙ ap concat (next_takes 1 (lines_of text) a.0 a.1);
      },
    )

pub is_found : (v : Version) (text : List ℕ) (r : Result Witness TextFault) → Gives (λ w. w) r (witness_for v text)
    → IfOk r (λ w. (w.version ≡ v) × IsWitnessText w text)
is_found v text (Ok w) given = text_takes v w text given
is_found v text (Err e) given = tt

-- the same of a witness of some version
pub is_some : (v : Version) (text : List ℕ) (r : Result Witness TextFault) → Gives (λ w. w) r (witness_for v text) → IfOk r (λ w. IsWitnessText w text)
is_some v text (Ok w) given = (text_takes v w text given).1
is_some v text (Err e) given = tt

-- ---- what is spelled so is read

abbrev first_words : Version → List (List ℕ)
first_words versions.One = codes "witness" ∷ codes "1" ∷ []
first_words versions.Two = codes "witness" ∷ codes "2" ∷ []
first_words versions.Three = codes "witness" ∷ codes "3" ∷ []
first_words versions.Four = codes "witness" ∷ codes "4" ∷ []
first_words versions.FourHalf = codes "witness" ∷ codes "4" ∷ []
first_words versions.Five = codes "witness" ∷ codes "5" ∷ []
first_words versions.FiveHalf = codes "witness" ∷ codes "5" ∷ []
first_words versions.Six = codes "witness" ∷ codes "6" ∷ []
first_words versions.SixHalf = codes "witness" ∷ codes "6" ∷ []

words_joined : (v : Version) → joined (first_words v) ≡ first_text v
words_joined versions.One = refl
words_joined versions.Two = refl
words_joined versions.Three = refl
words_joined versions.Four = refl
words_joined versions.FourHalf = refl
words_joined versions.Five = refl
words_joined versions.FiveHalf = refl
words_joined versions.Six = refl
words_joined versions.SixHalf = refl

words_clean : (v : Version) → AllByRecursion IsClean (first_words v)
words_clean versions.One = (clean_by (codes "witness") refl, (clean_by (codes "1") refl, tt))
words_clean versions.Two = (clean_by (codes "witness") refl, (clean_by (codes "2") refl, tt))
words_clean versions.Three = (clean_by (codes "witness") refl, (clean_by (codes "3") refl, tt))
words_clean versions.Four = (clean_by (codes "witness") refl, (clean_by (codes "4") refl, tt))
words_clean versions.FourHalf = (clean_by (codes "witness") refl, (clean_by (codes "4") refl, tt))
words_clean versions.Five = (clean_by (codes "witness") refl, (clean_by (codes "5") refl, tt))
words_clean versions.FiveHalf = (clean_by (codes "witness") refl, (clean_by (codes "5") refl, tt))
words_clean versions.Six = (clean_by (codes "witness") refl, (clean_by (codes "6") refl, tt))
words_clean versions.SixHalf = (clean_by (codes "witness") refl, (clean_by (codes "6") refl, tt))

pub first_ends : (v : Version) → NoReturn (first_text v)
first_ends v = subst NoReturn (words_joined v) (joined_no_return (first_words v) (words_clean v))

-- what spells a witness are lines
pub text_raws : (w : Witness) (text : List ℕ) (t : IsWitnessText w text) → AllByRecursion IsRaw (t.first ∷ t.raws)
text_raws w text t =
    let one : IsRaw t.first =
    is_raw 1 (first_words w.version) t.first (words_clean w.version)
    (subst (λ (line : List ℕ). IsLine 1 line t.first) (sym (words_joined w.version)) t.begins) in
    (one, spelled_raws number_after (IsStepText w.version) (is_step_raw w.version) 2 w.steps t.raws t.steps)

text_lines : (w : Witness) (text : List ℕ) (t : IsWitnessText w text) → lines_of text ≡ t.first ∷ t.raws
text_lines w text t = ap lines_of t.parts ∙ lines_of-concat (t.first ∷ t.raws) (text_raws w text t)

pub text_again : (w : Witness) (text : List ℕ) → IsWitnessText w text → witness_for w.version text ≡ Ok w
unfolding witness_for
text_again w text t =
    let begun = exact_again 1 (first_text w.version) t.first (first_ends w.version) t.begins in
    let steps = spelled_again (step_of w.version) number_after (IsStepText w.version) (reads_step w.version) 2 w.steps t.raws t.steps in
    ap (witness_in w.version) (text_lines w text t) ∙ rw (begun, steps) refl

-- the version that a first line names
named_text : (v : Version) (raw : List ℕ) (raws : List (List ℕ))
    → without_terminator raw ≡ first_text v → is_ended raw ≡ true → version_named (raw ∷ raws) ≡ named_as v
named_text versions.One raw raws text ended = rw (text, ended) refl
named_text versions.Two raw raws text ended = rw (text, ended) refl
named_text versions.Three raw raws text ended = rw (text, ended) refl
named_text versions.Four raw raws text ended = rw (text, ended) refl
named_text versions.FourHalf raw raws text ended = rw (text, ended) refl
named_text versions.Five raw raws text ended = rw (text, ended) refl
named_text versions.FiveHalf raw raws text ended = rw (text, ended) refl
named_text versions.Six raw raws text ended = rw (text, ended) refl
named_text versions.SixHalf raw raws text ended = rw (text, ended) refl

named_by : (v : Version) (raw : List ℕ) (raws : List (List ℕ)) → IsLine 1 (first_text v) raw → version_named (raw ∷ raws) ≡ named_as v
named_by v raw raws line =
    let own = ending_again raw (first_text v) (first_ends v) line.ends in
    named_text v raw raws own.0 own.1

-- it is read whichever version it is of; one of a half case of version 4 to 6 as one of two hosts
pub some_again : (w : Witness) (text : List ℕ) → IsWitnessText w text → witness_of text ≡ Ok (seen_alone w)
some_again w text t =
    let version = ap version_named (text_lines w text t) ∙ named_by w.version t.first t.raws t.begins in
    ap (λ (v : Version). witness_for v text) version ∙ text_again (seen_alone w) text (text_alone w text t)

-- ---- the first line alone

pub begins_exactly : (v : Version) (raw text : List ℕ) (begins : Bool) → is_ended raw ≡ true
    → text ≡ without_terminator raw → begins ≡ bytes_eq text (first_text v) → IsTrue begins ↔ Ends raw (first_text v)
begins_exactly v raw text begins ended without same = (there, back)
  where
    there : IsTrue begins → Ends raw (first_text v)
    there is = subst (λ (line : List ℕ). Ends raw line) (sym without ∙ (bytes_eq-Decides text (first_text v)).0 (sym same ∙ is)) (ending_taken raw ended)

    back : Ends raw (first_text v) → IsTrue begins
    back ends = same ∙ (bytes_eq-Decides text (first_text v)).1 (without ∙ (ending_again raw (first_text v) (first_ends v) ends).0)

begins_w : (v : Version) (end : List ℕ) → get_or (first_text v ++ end) 0 0 ≡ 119
begins_w versions.One end = refl
begins_w versions.Two end = refl
begins_w versions.Three end = refl
begins_w versions.Four end = refl
begins_w versions.FourHalf end = refl
begins_w versions.Five end = refl
begins_w versions.FiveHalf end = refl
begins_w versions.Six end = refl
begins_w versions.SixHalf end = refl

-- a line with another first byte isn't that line
pub other_begins : (v : Version) (raw : List ℕ) → (get_or raw 0 0 ≡ 119 → ⊥) → begins_witness v raw ≡ false
other_begins v raw other = false_from_ne_true (begins_witness v raw) (λ is.
    let parts = and_parts _ _ is in
    let text : without_terminator raw ≡ first_text v = (bytes_eq-Decides (without_terminator raw) (first_text v)).0 parts.1 in
    let ends = ending_taken raw parts.0 in
    let split : raw ≡ first_text v ++ ends.0 = ends.2 ∙ ap (λ (t : List ℕ). t ++ ends.0) text in
    other (ap (λ (t : List ℕ). get_or t 0 0) split ∙ begins_w v ends.0))
