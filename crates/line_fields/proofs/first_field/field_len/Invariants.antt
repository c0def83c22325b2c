use Rattle.std.proofs.Common.{◌≡◌, ℕ, ◌<◌, get_or}
use Rattle.line_fields.proofs.first_field.field_len.Given as goal

-- no space so far
abbrev pub invariant-loop-len : goal.invariant-loop-len
invariant-loop-len l = (k : ℕ) → k < l.len → get_or l.text k 0 ≡ 32 → ⊥
