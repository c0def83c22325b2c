-- Answers that are printed one after another.
use Rattle.std.proofs.Common.{◌≡◌, ◌≤◌, ◌+◌, ◌⊎◌, ◌∙◌, sym, ap, ap₂, subst, refl, inl, inr, ℕ, List, [], ◌∷◌, ◌++◌, length, take}
use Rattle.std.proofs.Common.{Option, None, Some, Result, Err, max, arith, append-nil, append_assoc, length-append}
use Rattle.std.specs.Io.KnownBytes.{Appends, append_known}
use Rattle.std.proofs.KnownBytes.{Appends-trans}
use Rattle.std.proofs.Math.Nat.{max-zero}
use Rattle.std.proofs.Math.Logic.{∥∥₁_elim, ∥∥₁_map, ∥∥₁_prop}
use Rattle.std.proofs.lemmas.List.{take_more}
use Rattle.std.proofs.lemmas.Grind.{common_steps}
use Rattle.verdict.specs.declared.report.Verdict.{Verdict}
use Rattle.checker.specs.declared.case.CaseFault.{CaseFault}
use Rattle.checker.specs.declared.case.CaseFault.TheVariants.{OutOfMemory}
use Rattle.parallel_check.specs.Answers.{IsAnswer}
use Rattle.answers.specs.Output.{line_of, status_of}
use Rattle.case_stream.specs.Cases.{cases_of}
use Rattle.answer_stream.specs.Left.{HasNone, IsCaseAt}
use Rattle.answer_stream.specs.Outcomes.{AreAll, TellsAll, TellsSome}
use Rattle.answer_stream.specs.Told.{AreFirst, Continues, Gathers, IsAnswerAt, TellsAnswer, TellsFirst, lines_of_all}
use Rattle.answer_stream.proofs.Answered.{each_pushed, greatest_pushed, lines_pushed, none_answered}

none_appended : (old new : Option (List ℕ)) → old ≡ new → Appends old new []
none_appended None new is = tt
none_appended (Some xs) None is = absurd cc
none_appended (Some xs) (Some ys) is = ap (λ (o : Option (List ℕ)). known o) (sym is) ∙ sym (append-nil xs)
  where
    known : Option (List ℕ) → List ℕ
    known None = []
    known (Some bytes) = bytes

no_first : (input : Option (List ℕ)) → AreFirst input []
no_first None = tt
no_first (Some input) = refl

pub nothing_told : (input old new : Option (List ℕ)) → old ≡ new → TellsFirst input 0 0 old new
nothing_told input old new is = record {
  cases = [];
  first = no_first input;
  many = refl;
  told = record { answers = []; each = none_answered; greatest = refl; written = none_appended old new is };
}

first_more : (input : Option (List ℕ)) (cases : List (List ℕ)) (text : List ℕ) (n : ℕ) → length cases ≡ n → AreFirst input cases → IsCaseAt input n text
    → AreFirst input (cases ++ text ∷ [])
first_more None cases text n many first at = tt
first_more (Some input) cases text n many first at =
    let long : length (cases ++ text ∷ []) ≡ n + 1 = let both = length-append cases (text ∷ []) in omega (arith, both, many) in
    let front : cases ≡ take n (cases_of input) = first ∙ ap (λ (k : ℕ). take k (cases_of input)) many in
    ap₂ (λ (xs : List (List ℕ)) (x : List ℕ). xs ++ x ∷ []) front at.1
    ∙ sym (take_more (cases_of input) n [] at.0)
    ∙ ap (λ (k : ℕ). take k (cases_of input)) (sym long)

still_answer : (text : List ℕ) (answer told : Result Verdict CaseFault) → IsAnswer text answer → (told ≡ answer) ⊎ (told ≡ Err OutOfMemory) → IsAnswer text told
still_answer text answer told is (inl same) = subst (IsAnswer text) (sym same) is
still_answer text answer told is (inr none) = λ had. absurd (had none)

pub told_more : (input : Option (List ℕ)) (n status more : ℕ) (answer : Result Verdict CaseFault) (old mid new : Option (List ℕ))
    → TellsAnswer answer more mid new → IsAnswerAt input n answer → TellsFirst input n status old mid
    → TellsFirst input (n + 1) (max status more) old new
told_more input n status more answer old mid new last at t =
    let told : Result Verdict CaseFault = last.0 in
    let lines = Appends-trans old mid new (lines_of_all t.told.answers) (line_of told) t.told.written last.3 in
    record {
      cases = t.cases ++ at.0 ∷ [];
      first = first_more input t.cases at.0 n t.many t.first at.1;
      many = let both = length-append t.cases (at.0 ∷ []) in let many = t.many in omega (arith, both, many);
      told = record {
        answers = t.told.answers ++ told ∷ [];
        each = each_pushed t.cases t.told.answers at.0 told t.told.each (still_answer at.0 answer told at.2 last.1);
        greatest = ap₂ max t.told.greatest last.2 ∙ sym (greatest_pushed t.told.answers told);
        written = subst (λ (xs : List ℕ). Appends old new xs) (sym (lines_pushed t.told.answers told)) lines;
      };
    }

all_of : (input : Option (List ℕ)) (cases : List (List ℕ)) (n : ℕ) → length cases ≡ n → AreFirst input cases → HasNone input n → AreAll input cases
all_of None cases n many first none = tt
all_of (Some input) cases n many first none =
    let long : length (cases_of input) ≤ length cases = omega (arith, many, none) in
    let whole : take (length cases) (cases_of input) ≡ cases_of input = grind (arith, common_steps) in
    first ∙ whole

pub all_told : (input : Option (List ℕ)) (n status : ℕ) (old new : Option (List ℕ)) → HasNone input n
    → TellsFirst input n status old new → TellsAll input status old new
all_told input n status old new none t = record { cases = t.cases; all = all_of input t.cases n t.many t.first none; told = t.told }

-- ---- as far as there is such a list

pub one_told : (input : Option (List ℕ)) (n status more : ℕ) (answer : Result Verdict CaseFault) (old mid new : Option (List ℕ))
    → TellsAnswer answer more mid new → ∥ IsAnswerAt input n answer ∥₁ → ∥ TellsFirst input n status old mid ∥₁
    → ∥ TellsFirst input (n + 1) (max status more) old new ∥₁
one_told input n status more answer old mid new last at told =
    ∥∥₁_elim at ∥∥₁_prop (λ a. ∥∥₁_map told (λ t. told_more input n status more answer old mid new last a t))

pub some_told : (input : Option (List ℕ)) (n status : ℕ) (old new : Option (List ℕ)) → ∥ TellsFirst input n status old new ∥₁ → ∥ TellsSome input old new ∥₁
some_told input n status old new told = ∥∥₁_map told (λ t. (n, status, t))

pub whole_told : (input : Option (List ℕ)) (n status : ℕ) (old new : Option (List ℕ)) → ∥ HasNone input n ∥₁ → ∥ TellsFirst input n status old new ∥₁
    → ∥ TellsAll input status old new ∥₁
whole_told input n status old new none told = ∥∥₁_elim none ∥∥₁_prop (λ no. ∥∥₁_map told (λ t. all_told input n status old new no t))

-- ---- lines that are gathered before they are written

pub none_continue : (input : Option (List ℕ)) (first greatest : ℕ) (lines : List ℕ) → greatest ≡ 0 → lines ≡ []
    → ∥ Continues input first first greatest lines ∥₁
none_continue input first greatest lines none empty =
    ∣ (λ status old mid new told appended. ∥∥₁_map told (λ t. record {
      cases = t.cases;
      first = t.first;
      many = t.many;
      told = record {
        answers = t.told.answers;
        each = t.told.each;
        greatest = ap (max status) none ∙ max-zero status ∙ t.told.greatest;
        written =
            subst (λ (xs : List ℕ). Appends old new xs) (append-nil (lines_of_all t.told.answers))
            (Appends-trans old mid new (lines_of_all t.told.answers) [] t.told.written (subst (λ (xs : List ℕ). Appends mid new xs) empty appended));
      };
    })) ∣₁

-- lines that were written at once were written one part after the other
by_parts : (mid new : Option (List ℕ)) (lines line : List ℕ) → Appends mid new (lines ++ line)
    → Appends mid (append_known mid lines) lines × Appends (append_known mid lines) new line
by_parts None new lines line appended = (tt, tt)
by_parts (Some xs) None lines line appended = absurd appended
by_parts (Some xs) (Some ys) lines line appended = (refl, appended ∙ sym (append_assoc xs lines line))

pub one_continues : (input : Option (List ℕ)) (first n greatest grown : ℕ) (lines more : List ℕ) (answer : Result Verdict CaseFault)
    → ∥ Continues input first n greatest lines ∥₁ → ∥ IsAnswerAt input n answer ∥₁ → Gathers answer lines greatest more grown
    → ∥ Continues input first (n + 1) grown more ∥₁
one_continues input first n greatest grown lines more answer continues at gathers =
    ∥∥₁_map continues (λ k. λ status old mid new told appended.
    let line : List ℕ = line_of gathers.0 in
    let parts = by_parts mid new lines line (subst (λ (xs : List ℕ). Appends mid new xs) gathers.3 appended) in
    let half : Option (List ℕ) = append_known mid lines in
    let apart : max (max status greatest) (status_of gathers.0) ≡ max status (max greatest (status_of gathers.0)) = omega arith in
    let sum : max (max status greatest) (status_of gathers.0) ≡ max status grown = apart ∙ ap (max status) (sym gathers.2) in
    subst (λ (s : ℕ). ∥ TellsFirst input (n + 1) s old new ∥₁) sum
    (one_told input n (max status greatest) (status_of gathers.0) answer old half new (gathers.0, gathers.1, refl, parts.1) at
    (k status old mid half told parts.0)))

pub batch_told : (input : Option (List ℕ)) (first next status greatest : ℕ) (lines : List ℕ) (old mid new : Option (List ℕ))
    → ∥ Continues input first next greatest lines ∥₁ → Appends mid new lines → ∥ TellsFirst input first status old mid ∥₁
    → ∥ TellsFirst input next (max status greatest) old new ∥₁
batch_told input first next status greatest lines old mid new continues appended told =
    ∥∥₁_elim continues ∥∥₁_prop (λ k. k status old mid new told appended)
