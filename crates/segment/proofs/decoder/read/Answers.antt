use Rattle.std.proofs.Common.{refl, arith}
use Rattle.segment.proofs.decoder.read.Goals as goal

pub returns-clause-found : goal.returns-clause-found
returns-clause-found c = record {
  header = record { whole = omega arith; least = omega arith; within = omega arith };
  items = c.in_ok-told.ensures.found.0;
  cut = rw (c.split_at-2.ensures.back, c.split_at.ensures.front, c.from-header_len.ensures) at c.in_ok-told.ensures.found.1;
  len = omega arith;
  fields =
      rw (
        c.u16_at.ensures,
        c.u16_at-2.ensures,
        c.u32_at.ensures,
        c.u32_at-2.ensures,
        c.u16_at-3.ensures,
        c.in_ok-told.ensures.found.2,
        c.in_ok-told.ensures.found.3,
        c.in_ok-from_slice.ensures,
        c.in_ok-from_slice-2.ensures,
        c.split_at-2.ensures.back,
        c.split_at.ensures.front,
        c.split_at.ensures.back,
        c.from-header_len.ensures,
      ) refl;
}
