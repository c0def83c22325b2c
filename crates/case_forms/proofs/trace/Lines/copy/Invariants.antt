use Rattle.std.proofs.Common.{◌≡◌, take}
use Rattle.case_forms.proofs.trace.Lines.copy.Given as goal

-- the lines so far were copied
abbrev pub invariant-loop-line : goal.invariant-loop-line
invariant-loop-line l = l.copied ≡ take l.line-index l.line-items
