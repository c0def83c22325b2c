use Rattle.std.proofs.Common.{◌+◌, ℕ, drop, length, replicate, arith}
use Rattle.std.proofs.lemmas.List.{length-replicate}
use Rattle.streams.proofs.Shown.{behind_long}
use Rattle.streams.proofs.Overs.{drop_over, length_over, piece_put, take_over}
use Rattle.streams.proofs.byte_places.write_piece.Goals as goal

pub returns-clause-cells : goal.returns-clause-cells
returns-clause-cells c =
    let vs = c.args.values.now in
    let ms = c.args.marks.now in
    rw (c.overwrite.ensures, c.overfill.ensures, drop_over c.args.ready c.args.at vs c.args.bytes.now (let same = c.requires.same in omega arith))
    (piece_put c.args.at ms (drop c.args.ready vs) c.args.bytes.now (behind_long c.args.ready vs ms c.requires.same) c.requires.place c.requires.none)

pub returns-clause-ready : goal.returns-clause-ready
returns-clause-ready c =
    rw c.overwrite.ensures (take_over c.args.ready c.args.at c.args.values.now c.args.bytes.now (let same = c.requires.same in omega arith))

pub returns-clause-values : goal.returns-clause-values
returns-clause-values c =
    rw c.overwrite.ensures (length_over (c.args.ready + c.args.at) c.args.values.now c.args.bytes.now
    (let same = c.requires.same in let place = c.requires.place in omega arith))

pub returns-clause-marks : goal.returns-clause-marks
returns-clause-marks c =
    let long = length-replicate {A = ℕ} (length c.args.bytes.now) 1 in
    rw c.overfill.ensures (length_over c.args.at c.args.marks.now (replicate (length c.args.bytes.now) 1) (let place = c.requires.place in omega arith))
