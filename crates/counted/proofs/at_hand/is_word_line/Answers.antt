use Rattle.std.proofs.Common.{rules, ◌≡◌, ◌∙◌, sym, true, false}
use Rattle.counted.proofs.AtHand.{by_rest, other_front}
use Rattle.counted.proofs.at_hand.is_word_line.Goals as goal

pub returns-else-eq-2 : goal.returns-else-eq-2
returns-else-eq-2 c =
    by_rest _ _ _ _ _ c.split_at.ensures.front c.split_at.ensures.back (search rules) (search rules) (search rules)

pub returns-else-eq : goal.returns-else-eq
returns-else-eq c = (
  λ said. let both : true ≡ false = sym said ∙ c.if-eq.false in absurd cc,
  λ line. absurd (other_front _ _ _ c.split_at.ensures.front (c.if-eq.ensures) line),
)
