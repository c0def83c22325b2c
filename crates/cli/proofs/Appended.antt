-- What is appended in steps is appended at once.
use Rattle.std.proofs.Common.{◌≡◌, ℕ, List, ◌++◌, ap, ◌∙◌}
use Rattle.std.proofs.lemmas.List.{append_assoc}

-- two steps
pub two : (start middle end first second : List ℕ) → middle ≡ start ++ first → end ≡ middle ++ second → end ≡ start ++ (first ++ second)
two start middle end first second e f = f ∙ ap (λ xs. xs ++ second) e ∙ append_assoc start first second

-- four steps
pub four : (start p q r end a b c d : List ℕ) → p ≡ start ++ a → q ≡ p ++ b → r ≡ q ++ c → end ≡ r ++ d → end ≡ start ++ (a ++ b ++ c ++ d)
four start p q r end a b c d e f g h = two start r end (a ++ b ++ c) d (two start q r (a ++ b) c (two start p q a b e f) g) h
