-- What was written as cases is cut into them again.
use Rattle.std.proofs.Common.{◌≡◌, ◌≢◌, ℕ, List, [], ◌∷◌, ◌++◌, sym, ap, ◌∙◌, refl, inl, map, codes, append-nil, append_assoc, arith}
use Rattle.std.specs.List.{AllByRecursion, concat}
use Rattle.std.proofs.lemmas.List.Elements.{All-cons, All-nil}
use Rattle.line_fields.specs.Lines.{IsRaw}
use Rattle.line_fields.proofs.Texts.{lines_of-concat}
use Rattle.case_stream.specs.Cases.{cases_from, rest_case}
use Rattle.case_stream.specs.CutBack.{AreCaseLines, CasesAreCutBack, lines_written}

end_raw : IsRaw (codes "end\n")
end_raw = (
  codes "end",
  All-cons (λ b. b ≢ 10) 101 (110 ∷ 100 ∷ []) (λ e. omega arith)
      (All-cons (λ b. b ≢ 10) 110 (100 ∷ []) (λ e. omega arith)
      (All-cons (λ b. b ≢ 10) 100 [] (λ e. omega arith) (All-nil (λ b. b ≢ 10)))),
  (10 ∷ [], inl refl, refl),
)

raw_lines : (lines : List (List ℕ)) → AreCaseLines lines → AllByRecursion IsRaw lines
raw_lines [] are = tt
raw_lines (raw ∷ lines) are = (are.0.0, raw_lines lines are.1)

both_raw : (xs ys : List (List ℕ)) → AllByRecursion IsRaw xs → AllByRecursion IsRaw ys → AllByRecursion IsRaw (xs ++ ys)
both_raw [] ys front back = back
both_raw (x ∷ xs) ys front back = (front.0, both_raw xs ys front.1 back)

written_raw : (cases : List (List (List ℕ))) (rest : List (List ℕ)) → AllByRecursion AreCaseLines cases
    → AreCaseLines rest → AllByRecursion IsRaw (lines_written cases rest)
written_raw [] rest are last = raw_lines rest last
written_raw (lines ∷ cases) rest are last =
    both_raw lines (codes "end\n" ∷ lines_written cases rest) (raw_lines lines are.0)
    (end_raw, written_raw cases rest are.1 last)

cut_lines : (before : List ℕ) (lines more : List (List ℕ)) → AreCaseLines lines
    → cases_from before (lines ++ codes "end\n" ∷ more) ≡ (before ++ concat lines) ∷ cases_from [] more
cut_lines before [] more are = ap (λ (xs : List ℕ). xs ∷ cases_from [] more) (sym (append-nil before))
cut_lines before (raw ∷ lines) more are =
    rw are.0.1 (cut_lines (before ++ raw) lines more are.1 ∙ ap (λ (xs : List ℕ). xs ∷ cases_from [] more) (append_assoc before raw (concat lines)))

cut_last : (before : List ℕ) (lines : List (List ℕ)) → AreCaseLines lines → cases_from before lines ≡ rest_case (before ++ concat lines)
cut_last before [] are = ap rest_case (sym (append-nil before))
cut_last before (raw ∷ lines) are = rw are.0.1 (cut_last (before ++ raw) lines are.1 ∙ ap rest_case (append_assoc before raw (concat lines)))

cut_all : (cases : List (List (List ℕ))) (rest : List (List ℕ)) → AllByRecursion AreCaseLines cases → AreCaseLines rest
    → cases_from [] (lines_written cases rest) ≡ map concat cases ++ rest_case (concat rest)
cut_all [] rest are last = cut_last [] rest last
cut_all (lines ∷ cases) rest are last =
    cut_lines [] lines (lines_written cases rest) are.0 ∙ ap (λ (xs : List (List ℕ)). concat lines ∷ xs) (cut_all cases rest are.1 last)

pub cut_back : CasesAreCutBack
cut_back cases rest are last = ap (cases_from []) (lines_of-concat (lines_written cases rest) (written_raw cases rest are last)) ∙ cut_all cases rest are last
