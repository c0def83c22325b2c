use Rattle.std.proofs.Common.{◌∙◌, ◌≡◌, ◌+◌, ◌-◌, ◌++◌, drop, length, replicate, refl, arith}
use Rattle.std.proofs.lemmas.List.{drop-append-le}
use Rattle.streams.proofs.Marked.{marked_grow}
use Rattle.streams.proofs.Shown.{behind_long}
use Rattle.streams.proofs.byte_places.place.Goals as goal

pub returns-clause-cells : goal.returns-clause-cells
returns-clause-cells c =
    let vs = c.args.values.now in
    let ms = c.args.marks.now in
    let count : c.saturating_sub.result ≡ c.args.at + length c.args.bytes.now - length ms = omega arith in
    let behind : drop c.args.ready (vs ++ replicate c.saturating_sub.result 0) ≡ drop c.args.ready vs ++ replicate c.saturating_sub.result 0 =
    drop-append-le c.args.ready vs (replicate c.saturating_sub.result 0) (let same = c.requires.same in omega arith) in
    let grown = marked_grow c.saturating_sub.result ms (drop c.args.ready vs) (behind_long c.args.ready vs ms c.requires.same) in
    c.write.ensures.cells ∙ rw (c.in_ok-grow_both.ensures.first, c.in_ok-grow_both.ensures.second, behind, grown, count) refl
