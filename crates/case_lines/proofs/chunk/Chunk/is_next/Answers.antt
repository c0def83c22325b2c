use Rattle.std.proofs.Common.{rules, ◌≡◌, ◌+◌, ◌-◌, length, List, subst}
use Rattle.case_forms.specs.declared.trace.Line.{Line}
use Rattle.case_lines.specs.Lines.{Follows}
use Rattle.case_lines.proofs.RecordLemmas.{room_follows}
use Rattle.case_lines.proofs.chunk.Chunk.is_next.Goals as goal

pub returns : goal.returns
returns c = λ yes.
    let e : c.self.inside.number + (length c.self.inside.records.items - c.self.inside.taken) ≡ c.args.number = search rules in
    subst (λ (lines : List Line). Follows lines c.args.number) c.self.view_is
    (room_follows _ _ _ _ _ _ _ _ c.self.invariant.taken_within e)
