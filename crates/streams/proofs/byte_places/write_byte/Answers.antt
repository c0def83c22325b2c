use Rattle.std.proofs.Common.{◌≡◌, ◌≢◌, drop, get_or, sym}
use Rattle.std.proofs.lemmas.List.{drop-set-add}
use Rattle.streams.proofs.Marked.{put_marked, put_taken}
use Rattle.streams.proofs.Shown.{behind_long}
use Rattle.streams.proofs.byte_places.write_byte.Goals as goal

pub returns-then-as_slice-at-eq1-clause-cells : goal.returns-then-as_slice-at-eq1-clause-cells
returns-then-as_slice-at-eq1-clause-cells c =
    let taken : get_or c.args.marks.now c.args.at 0 ≡ 1 = rw c.as_slice.ensures at c.if-as_slice-at-eq1.true in
    sym (put_taken c.args.marks.now (drop c.args.ready c.args.values.now) c.args.at 0 _
    (behind_long c.args.ready c.args.values.now c.args.marks.now c.requires.same) c.requires.place taken)

pub returns-clause-cells : goal.returns-clause-cells
returns-clause-cells c =
    let open_ : get_or c.args.marks.now c.args.at 0 ≢ 1 = rw c.as_slice.ensures at c.if-as_slice-at-eq1.false in
    rw (c.set.ensures, c.set-2.ensures, drop-set-add c.args.ready c.args.values.now c.args.at c.args.byte)
    (sym (put_marked c.args.marks.now (drop c.args.ready c.args.values.now) c.args.at c.args.byte 0
    (behind_long c.args.ready c.args.values.now c.args.marks.now c.requires.same) c.requires.place open_))
