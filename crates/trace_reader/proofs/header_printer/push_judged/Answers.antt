use Rattle.std.proofs.Common.{◌≡◌, ◌++◌, ℕ, List, ap, ◌∙◌, append_assoc}
use Rattle.trace_reader.proofs.header_printer.push_judged.Goals as goal

-- four texts, written one after the other
four_written : (o a b c d x y z w : List ℕ) → a ≡ o ++ x → b ≡ a ++ y → c ≡ b ++ z → d ≡ c ++ w → d ≡ o ++ (x ++ (y ++ (z ++ w)))
four_written o a b c d x y z w first second third fourth =
    fourth ∙ ap (λ (t : List ℕ). t ++ w) (third ∙ ap (λ (t : List ℕ). t ++ z) (second ∙ ap (λ (t : List ℕ). t ++ y) first))
    ∙ append_assoc ((o ++ x) ++ y) z w ∙ append_assoc (o ++ x) y (z ++ w) ∙ append_assoc o x (y ++ (z ++ w))

pub returns : goal.returns
returns c =
    four_written _ _ _ _ _ _ _ _ _ (rw c.initial_number.ensures at c.in_ok-push_number_line.ensures) c.in_ok-push_number_line-2.ensures
    (rw c.judged_name.ensures at c.in_ok-push_word_line.ensures) c.in_ok-push_last.ensures
