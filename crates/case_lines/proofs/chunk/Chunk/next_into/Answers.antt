use Rattle.std.proofs.Common.{rules, ◌≡◌, ◌+◌, ◌-◌, arith, ◌∙◌, sym, refl}
use Rattle.case_lines.proofs.RecordLemmas.{left_all, first_left, takes_first}
use Rattle.case_lines.proofs.chunk.Chunk.next_into.Goals as goal

pub returns-then-self-len-clause-ok : goal.returns-then-self-len-clause-ok
returns-then-self-len-clause-ok c =
    let none = sym c.self.view_is ∙ left_all _ _ _ _ _ _ _ (search rules) in
    search rules

pub len_at-requires : goal.len_at-requires
len_at-requires c =
    let first = first_left _ _ _ _ _ _ _ _ c.self.invariant (search rules) c.index.ensures in
    rw c.as_slice.ensures.value first.measured

pub invariant_of-self : goal.invariant_of-self
invariant_of-self c =
    let first = first_left _ _ _ _ _ _ _ _ c.self.invariant (search rules) c.index.ensures in
    rw (c.len_count.ensures, c.len_at.ensures, c.as_slice.ensures.value) first.counted

pub returns-clause-ok : goal.returns-clause-ok
returns-clause-ok c =
    let first = first_left _ _ _ _ _ _ _ _ c.self.invariant (search rules) c.index.ensures in
    let part : c.self.inside.read + c.len_at.result - c.self.inside.read ≡ c.len_at.result = omega arith in
    takes_first _ _ _ _ _ (sym c.self.view_is ∙ first.lines)
    (c.in_ok-line_into.ensures.ok ∙ rw (part, c.deref.ensures.value, c.len_at.ensures, c.as_slice.ensures.value) refl)
    (c.free.ensures ∙ rw (c.len_count.ensures, c.len_at.ensures, c.as_slice.ensures.value) refl)
