use Rattle.std.proofs.Common.{refl, arith, leb-true}
use Rattle.segment.specs.Layout.{fields_of}
use Rattle.segment.proofs.decoder.is_segment.Goals as goal

pub returns-in-Ok-clause-found : goal.returns-in-Ok-clause-found
returns-in-Ok-clause-found c = λ fits.
    let items = c.in-Ok.ensures.found.0 in (
      fields_of c.args.bytes.now items,
      record {
        header = record { whole = omega arith; least = omega arith; within = omega arith };
        items = items;
        cut = rw (c.split_at-2.ensures.back, c.split_at.ensures.front, c.from-header_len.ensures) at c.in-Ok.ensures.found.1;
        len = leb-true _ _ fits;
        fields = refl;
      },
    )
