use Rattle.std.proofs.Common.{rules, ◌∙◌, sym}
use Rattle.case_lines.proofs.RecordLemmas.{left_all, taken_all}
use Rattle.case_lines.proofs.chunk.Chunk.is_empty.Goals as goal

pub returns : goal.returns
returns c = (
  λ empty. sym c.self.view_is ∙ left_all _ _ _ _ _ _ _ (search rules),
  λ none. let all = taken_all _ _ _ _ _ _ _ c.self.invariant (c.self.view_is ∙ none) in search rules,
)
