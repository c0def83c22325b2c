-- What is held of a case stands for the case.
use Rattle.std.proofs.Common.{◌≡◌, ◌≢◌, ◌<◌, ◌∙◌, sym, ap, subst, refl, inr, Bool, true, false, ℕ, List, [], ◌∷◌, ◌++◌, length, Option, None, Some}
use Rattle.std.proofs.Common.{Result, Ok, Err, get_or, nat_lt, arith, append-nil, append_assoc, replicate, zero, suc, Bor}
use Rattle.std.specs.Prelude.{if◌then◌else◌, not, ◌-◌}
use Rattle.std.specs.List.{AllByRecursion, concat}
use Rattle.std.proofs.Math.Logic.{∥∥₁_map}
use Rattle.std.proofs.lemmas.List.{get_or-replicate, length-replicate}
use Rattle.std.proofs.lemmas.List.Elements.{All-replicate}
use Rattle.std.proofs.lemmas.Bool.{lt-ltb}
use Rattle.std.proofs.lemmas.Option.{same_Some}
use Rattle.bstr.specs.Text.{lines_of, without_terminator}
use Rattle.bstr.proofs.lemmas.LineLemmas.{lines-nil}
use Rattle.counted.specs.Counting.{inner_of, left_of, unread_of}
use Rattle.counted.specs.declared.ends.Counted.{Counted}
use Rattle.std.specs.Io.KnownBytes.{prepend_known}
use Rattle.std.specs.Io.Chain.{chain_remaining}
use Rattle.std.specs.declared.io.traits.Chain.{Chain}
use Rattle.answer_stream.specs.declared.long.Filler.{Filler}
use Rattle.counted.specs.LineParts.{GivesLine}
use Rattle.line_fields.specs.declared.fault.FaultKind.{FaultKind}
use Rattle.line_fields.specs.declared.fault.FaultKind.TheVariants.{LineTooLong, Cut, TooManyLines}
use Rattle.line_fields.specs.declared.fault.TextFault.{TextFault}
use Rattle.line_fields.specs.Lines.{IsRaw, is_ended, line_text, whole_line}
use Rattle.line_fields.proofs.RowLemmas.{row_taken}
use Rattle.line_fields.proofs.Texts.{lines_of-raw}
use Rattle.verdict.specs.declared.report.Verdict.{Verdict}
use Rattle.checker.specs.declared.case.CaseFault.{CaseFault}
use Rattle.checker.specs.declared.case.CaseFault.TheVariants as faults
use Rattle.checker.specs.Cases.{GivesCase, case_result}
use Rattle.checker.specs.OneText.{GivesText}
use Rattle.parallel_check.proofs.Slots.{gives_answer}
use Rattle.case_stream.specs.Long.{GoesOn, IsTooLong}
use Rattle.answer_stream.specs.Left.{IsCaseAt, IsHeld, IsHeldAt}
use Rattle.answer_stream.specs.Told.{IsAnswerAt}
use Rattle.answer_stream.proofs.SameAnswer.{same_result}

-- ---- a line that is nothing but length

abbrev bad : TextFault → Result (List ℕ) TextFault
bad e = Err e

abbrev kind_of : Result (List ℕ) TextFault → FaultKind
kind_of (Ok text) = Cut
kind_of (Err e) = e.kind

abbrev stop_of : Result (List ℕ) TextFault → ℕ
stop_of (Ok text) = 0
stop_of (Err e) = e.span.stop

-- how long a line is that is too long
past : (size : ℕ) (raw : List ℕ) → IsTooLong size raw → nat_lt 140000 size ≡ true
unfolding line_text
past size raw long = by (without_terminator raw) (nat_lt 140000 (length (without_terminator raw))) refl (is_ended raw) (long 1)
  where
    by : (text : List ℕ) (b : Bool) → nat_lt 140000 (length text) ≡ b → (ended : Bool)
        → (if b then Err (record { kind = LineTooLong; span = whole_line 1 text })
        else if not ended then Err (record { kind = Cut; span = whole_line 1 text })
        else if nat_lt 10000000 1 then Err (record { kind = TooManyLines; span = whole_line 1 text }) else Ok text)
        ≡ bad (record { kind = LineTooLong; span = record { line = 1; start = 0; stop = size } })
        → nat_lt 140000 size ≡ true
    by text true is ended same = let len : length text ≡ size = ap stop_of same in ap (nat_lt 140000) (sym len) ∙ is
    by text false is false same = absurd (let kinds : Cut ≡ LineTooLong = ap kind_of same in cc)
    by text false is true same = absurd cc

abbrev filler : ℕ → List ℕ
filler size = replicate {A = ℕ} size 120

filler_open : (size : ℕ) → 0 < size → is_ended (filler size) ≡ false
filler_open size some =
    let len : length (filler size) ≡ size = length-replicate size 120 in
    let one : nat_lt 0 (length (filler size)) ≡ true = lt-ltb 0 (length (filler size)) (omega (arith, len, some)) in
    let last : get_or (filler size) (length (filler size) - 1) 0 ≡ 120 =
    get_or-replicate size (length (filler size) - 1) 120 0 (omega (arith, len, some)) in
    rw (one, last) refl

filler_long : (size : ℕ) → 0 < size → nat_lt 140000 size ≡ true → IsTooLong size (filler size)
unfolding line_text
filler_long size some long number =
    let len : length (filler size) ≡ size = length-replicate size 120 in
    let ended : is_ended (filler size) ≡ false = filler_open size some in
    let text : without_terminator (filler size) ≡ filler size = rw ended refl in
    rw (text, len, long) refl

filler_line : (size : ℕ) → 0 < size → lines_of (filler size) ≡ filler size ∷ []
filler_line size some =
    let len : length (filler size) ≡ size = length-replicate size 120 in
    let gives : GivesLine 0 (Some (filler size)) (Some []) (Some 0) (filler size) = (
      [],
      record { count = refl; past = λ h. absurd (omega (h, arith)); begins = λ h. absurd (omega (h, arith)) },
      (
        sym (append-nil (filler size)),
        inr (All-replicate (λ b. b ≢ 10) size 120 (λ e. omega arith), omega (arith, len, some), refl),
      ),
    ) in
    row_taken 0 (Some (filler size)) (Some []) (filler size) gives ∙ ap (λ (raws : List (List ℕ)). filler size ∷ raws) lines-nil

lines_before : (lines : List (List ℕ)) (more : List ℕ) → AllByRecursion IsRaw lines → lines_of (concat lines ++ more) ≡ lines ++ lines_of more
lines_before [] more are = refl
lines_before (raw ∷ lines) more are =
    ap lines_of (append_assoc raw (concat lines) more)
    ∙ lines_of-raw raw (concat lines ++ more) are.0
    ∙ ap (λ (raws : List (List ℕ)). raw ∷ raws) (lines_before lines more are.1)

-- ---- the answers

-- such a line instead of that one doesn't change the answer
filler_same : (size : ℕ) (held text : List ℕ) → GoesOn size held text → case_result text ≡ case_result (held ++ filler size)
filler_same size held text goes =
    let long = past size goes.raw goes.long in
    let some : 0 < size = positive size long in
    let lines : lines_of (held ++ filler size) ≡ goes.whole.0 ++ filler size ∷ [] =
    ap (λ (xs : List ℕ). lines_of (xs ++ filler size)) goes.whole.2
    ∙ lines_before goes.whole.0 (filler size) goes.whole.1
    ∙ ap (λ (raws : List (List ℕ)). goes.whole.0 ++ raws) (filler_line size some) in
    same_result size goes.raw (filler size) goes.long (filler_long size some long) text (held ++ filler size) goes.whole.0 goes.rest [] goes.are lines
  where
    positive : (n : ℕ) → nat_lt 140000 n ≡ true → 0 < n
    positive zero h = absurd cc
    positive (suc n) h = omega arith

pub long_gives : (size : ℕ) (held text : List ℕ) (source : Option (List ℕ)) (answer : Result Verdict CaseFault) → GoesOn size held text
    → source ≡ Some (held ++ filler size) → answer ≢ Err faults.Read → GivesText answer source → GivesCase answer (case_result text)
long_gives size held text source answer goes is unread gives =
    subst (GivesCase answer) (sym (filler_same size held text goes)) (by answer unread (subst (GivesText answer) is gives))
  where
    by : (r : Result Verdict CaseFault) → r ≢ Err faults.Read → GivesText r (Some (held ++ filler size)) → GivesCase r (case_result (held ++ filler size))
    by (Ok v) unread gives = gives
    by (Err (faults.Trace f)) unread gives = gives
    by (Err (faults.Witness f)) unread gives = gives
    by (Err faults.Read) unread gives = absurd (unread refl)
    by (Err faults.OutOfMemory) unread gives = tt

-- the bytes of a text, and then those of such a line
abbrev pub with_filler : Chain (Bor (List ℕ)) Filler → Option (List ℕ)
with_filler c = chain_remaining (λ (s : Bor (List ℕ)). Some s.now) (λ (f : Filler). Some (filler f.left)) c

-- they are the source's, of which nothing was read
pub source_is : (s : Counted (Chain (Bor (List ℕ)) Filler)) (inner : Chain (Bor (List ℕ)) Filler) (all : List ℕ) → inner_of s ≡ inner
    → unread_of s ≡ [] → with_filler inner ≡ Some all → left_of with_filler s ≡ Some all
source_is s inner all is unread bytes = (λ i. prepend_known (unread i) (with_filler (is i))) ∙ ap (prepend_known []) bytes

pub all_gives : (held text : List ℕ) (long : Option ℕ) (answer : Result Verdict CaseFault) → long ≡ None → IsHeld long held text
    → GivesCase answer (case_result held) → GivesCase answer (case_result text)
all_gives held text long answer none is gives =
    let same : held ≡ text = subst (λ (l : Option ℕ). IsHeld l held text) none is in
    subst (λ (xs : List ℕ). GivesCase answer (case_result xs)) same gives

-- ---- what is held of the case with a number

pub all_held : (input : Option (List ℕ)) (n : ℕ) (text : List ℕ) → ∥ IsCaseAt input n text ∥₁ → ∥ IsHeldAt input n None text ∥₁
all_held input n text at = ∥∥₁_map at (λ a. (text, refl, a))

pub long_held : (input : Option (List ℕ)) (n size : ℕ) (held text : List ℕ) → GoesOn size held text → ∥ IsCaseAt input n text ∥₁
    → ∥ IsHeldAt input n (Some size) held ∥₁
long_held input n size held text goes at = ∥∥₁_map at (λ a. (text, goes, a))

pub held_answer : (input : Option (List ℕ)) (n : ℕ) (long : Option ℕ) (held : List ℕ) (answer : Result Verdict CaseFault)
    → ((text : List ℕ) → IsHeld long held text → GivesCase answer (case_result text)) → ∥ IsHeldAt input n long held ∥₁
    → ∥ IsAnswerAt input n answer ∥₁
held_answer input n long held answer gives at = ∥∥₁_map at (λ a. (a.0, a.2, gives_answer a.0 answer (gives a.0 a.1)))

pub held_number : (input : Option (List ℕ)) (number x : ℕ) (long : Option ℕ) (held : List ℕ) → Some number ≡ Some x
    → ∥ IsHeldAt input number long held ∥₁ → ∥ IsHeldAt input x long held ∥₁
held_number input number x long held is at = subst (λ (n : ℕ). ∥ IsHeldAt input n long held ∥₁) (same_Some number x is) at
