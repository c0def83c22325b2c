use Rattle.std.proofs.Common.{rules, ◌∙◌, sym}
use Rattle.case_lines.proofs.RecordLemmas.{left_all}
use Rattle.case_lines.proofs.chunk.Chunk.free.Goals as goal

pub returns-then-self-len : goal.returns-then-self-len
returns-then-self-len c = c.drop.view_is ∙ c.new.ensures ∙ sym (left_all _ _ _ _ _ _ _ (search rules)) ∙ c.self.view_is
