-- Digits whose bytes are kept.
use Rattle.std.proofs.Common.{◌≡◌, ◌-◌, ℕ, true, false, List, ◌++◌, length, take, drop, Ok, sym, ◌∙◌, arith, ap, subst, length-append}
use Rattle.std.proofs.lemmas.List.{take_all, drop-append-le, drop_all}
use Rattle.hex.specs.Hex.{decode_of}
use Rattle.segment.specs.declared.fields.Segment.{Segment}
use Rattle.segment.specs.Layout.{IsSegment}
use Rattle.case_lines.specs.declared.record.KeptEvent.{KeptEvent}
use Rattle.case_lines.specs.Records.{has_bytes}
use Rattle.case_lines.specs.Spelled.{is_seen, IsSpelled}

-- what follows the first bytes of a list
tail_is : (bytes more whole : List ℕ) (from : ℕ) → whole ≡ bytes ++ more → from ≡ length bytes → take (length whole - from) (drop from whole) ≡ more
tail_is bytes more whole from e n =
    let none : drop from bytes ++ more ≡ more = ap (λ (xs : List ℕ). xs ++ more) (drop_all from bytes (omega arith)) in
    let rest : drop from (bytes ++ more) ≡ more = drop-append-le from bytes more (omega arith) ∙ none in
    let len = ap length e ∙ length-append bytes more in
    rw (e, rest) (take_all (length (bytes ++ more) - from) more (omega (arith, length-append bytes more)))

-- the bytes that follow are those that the digits spell, and may be those of the event
pub tail_spelled : (event : KeptEvent) (digits bytes more whole : List ℕ) (from : ℕ) → has_bytes event ≡ true → decode_of digits ≡ Ok more
    → whole ≡ bytes ++ more → from ≡ length bytes
    → (is_seen event ≡ true → (s : Segment) × IsSegment (take (length whole - from) (drop from whole)) s) → IsSpelled event digits more
tail_spelled event digits bytes more whole from some decodes e n seg = record {
  none = λ none. absurd (differ (sym some ∙ none));
  spelled = λ h. decodes;
  segment = λ seen. let s = seg seen in (s.0, subst (λ (xs : List ℕ). IsSegment xs s.0) (tail_is bytes more whole from e n) s.1);
}
  where
    differ : true ≡ false → ⊥
    differ e = cc
