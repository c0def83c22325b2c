use Rattle.std.proofs.Common.{◌≡◌, ◌+◌, drop, length, take}
use Rattle.streams.specs.Cells.{cells_of, put_all}
use Rattle.streams.specs.Views.{marked_bytes}
use Rattle.streams.proofs.byte_places.write_bytes.Given as goal

abbrev pub invariant-loop-i : goal.invariant-loop-i
invariant-loop-i l = record {
  told : put_all (marked_bytes l.marks (drop l.ready l.values)) (l.at + l.i) (cells_of (drop l.i l.bytes))
      ≡ put_all (marked_bytes l.initial.marks (drop l.ready l.initial.values)) l.at (cells_of l.bytes);
  front : take l.ready l.values ≡ take l.ready l.initial.values;
  values : length l.values ≡ length l.initial.values;
  marks : length l.marks ≡ length l.initial.marks;
}
