-- Bytes and answers are the same as themselves.
use Rattle.std.proofs.Common.{◌≡◌, ℕ, true, List, [], ◌∷◌, refl, arith}
use Rattle.std.specs.Prelude.{◌==◌}
use Rattle.std.proofs.lemmas.Bool.Decides.{nat_tests}
use Rattle.case_forms.specs.declared.calls.Answer.{Answer}
use Rattle.case_forms.specs.declared.calls.Answer.TheVariants as answers
use Rattle.spec_tcp.specs.Same.{same_answer, same_bytes, state_place}

pub number_same : (n : ℕ) → (n == n) ≡ true
number_same n = grind (arith, nat_tests)

pub bytes_same : (xs : List ℕ) → same_bytes xs xs ≡ true
bytes_same [] = refl
bytes_same (x ∷ xs) = rw (number_same x, bytes_same xs) refl

pub answer_same : (a : Answer) → same_answer a a ≡ true
answer_same answers.Done = refl
answer_same (answers.Given m) = number_same m
answer_same (answers.Bytes xs) = bytes_same xs
answer_same answers.Again = refl
answer_same answers.Eof = refl
answer_same answers.Closed = refl
answer_same answers.NotConn = refl
answer_same answers.Refused = refl
answer_same answers.Reset = refl
answer_same answers.Timeout = refl
answer_same answers.InUse = refl
answer_same answers.BadSocket = refl
answer_same (answers.State s) = number_same (state_place s)
