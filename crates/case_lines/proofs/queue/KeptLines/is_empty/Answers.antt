use Rattle.std.proofs.Common.{rules, ◌∙◌, sym}
use Rattle.case_lines.proofs.ChunkLemmas.{all_empty, empty_all}
use Rattle.case_lines.proofs.queue.KeptLines.is_empty.Goals as goal
use Rattle.case_lines.proofs.queue.KeptLines.is_empty.Goals.{then-is_empty, else-is_empty}

pub returns-then-has_none : goal.returns-then-has_none
returns-then-has_none c = elim c.if-is_empty.branch [
  | then-is_empty w ↦ (
    λ last. sym c.self.view_is ∙ empty_all _ _ _ (c.is_empty.ensures.0 (search rules))
        (w.has_none.ensures.0 (search rules)) (c.is_empty-then-has_none.ensures.0 last),
    λ none. c.is_empty-then-has_none.ensures.1 (all_empty _ _ _ c.self.invariant (c.self.view_is ∙ none)).last,
  )
  | else-is_empty w ↦ absurd (search rules)
]

pub returns-else-has_none : goal.returns-else-has_none
returns-else-has_none c = elim c.if-is_empty.branch [
  | then-is_empty w ↦ (
    λ all. absurd (search rules),
    λ none.
        let middle = (all_empty _ _ _ c.self.invariant (c.self.view_is ∙ none)).middle in
        rw w.value-is (w.has_none.ensures.1 middle),
  )
  | else-is_empty w ↦ (
    λ all. absurd (search rules),
    λ none.
        let first = (all_empty _ _ _ c.self.invariant (c.self.view_is ∙ none)).first in
        rw w.value-is (c.is_empty.ensures.1 first),
  )
]
