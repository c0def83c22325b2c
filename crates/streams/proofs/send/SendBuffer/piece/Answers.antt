use Rattle.std.proofs.Common.{◌≡◌, ◌-◌, ◌++◌, List, ℕ, drop, min, replicate, take, arith, ap, ◌∙◌}
use Rattle.streams.specs.Sent.{piece}
use Rattle.streams.proofs.Covers.{piece_parts}
use Rattle.streams.proofs.send.SendBuffer.piece.Goals as goal

pub returns : goal.returns
returns c =
    let gone = c.self.inside.gone in
    let start = c.args.position - 1 in
    let zeros = c.min-zeros.result in
    let ones : zeros ≡ min (gone - start) c.args.count = omega arith in
    let there : c.saturating_sub-2.result ≡ start - gone = omega arith in
    let filled : c.in_ok-piece.piece.items ≡ replicate zeros 0 = c.in_ok-piece.ensures.items_if_clones_equal (λ y same. same) in
    c.in_ok-extend_from_slice.ensures.items
    ∙ (rw (c.part.ensures, c.as_slice.ensures, there)
    (ap (λ (front : List ℕ). front ++ take (c.args.count - zeros) (drop (start - gone) c.self.inside.bytes)) filled)
    ∙ (piece_parts 0 gone start c.args.count c.self.inside.bytes zeros ones
    ∙ ap (λ (all : List ℕ). piece all c.args.position c.args.count) c.self.view_is))
