use Rattle.std.proofs.Common.{◌≤◌, ◌∙◌, ap, sym, subst, length, arith, List, ℕ}
use Rattle.std.specs.Prelude.{Option}
use Rattle.streams.specs.declared.outstanding.Outstanding.{Outstanding}
use Rattle.streams.specs.Pieces.{Adjoin, acknowledged, made}
use Rattle.streams.proofs.PieceLemmas.{length_known}
use Rattle.streams.proofs.FlightLemmas.{acknowledged_is, known_made}
use Rattle.streams.proofs.flight.Flight.make.Goals as goal

pub make-requires : goal.make-requires
make-requires c =
    let long = length_known c.self.inside.pieces.entries c.self.inside.snd_una c.self.inside.end c.self.invariant in
    let same = ap (λ (xs : List (Option Outstanding)). length xs) c.self.view_is in
    let to = c.requires.to in
    omega (arith, long, same, to)

-- the segment begins at or after the first outstanding position
low : (c : goal.After-self-1) → c.self.inside.snd_una ≤ c.args.position
low c =
    let first = acknowledged_is c.self.inside.pieces.entries c.self.inside.snd_una in
    let same = ap (λ (xs : List (Option Outstanding)). acknowledged xs) c.self.view_is in
    let from = c.requires.from in
    omega (arith, first, same, from)

fits : (c : goal.After-self-1) → c.args.position ≤ c.self.inside.end
fits c =
    let long = length_known c.self.inside.pieces.entries c.self.inside.snd_una c.self.inside.end c.self.invariant in
    let same = ap (λ (xs : List (Option Outstanding)). length xs) c.self.view_is in
    let to = c.requires.to in
    omega (arith, long, same, to)

pub invariant_of-self-2 : goal.invariant_of-self-2
invariant_of-self-2 c =
    subst (λ (n : ℕ). Adjoin c.self.inside.snd_una n c.make.new.pieces.entries) (sym c.max-self-inside.ensures)
    (c.in_ok-make.ensures.made c.self.inside.snd_una c.self.invariant (low c) c.requires.order).1

pub returns-clause-ok : goal.returns-clause-ok
returns-clause-ok c =
    known_made c.self.inside.pieces.entries c.make.new.pieces.entries c.self.inside.snd_una c.self.inside.end c.args.position c.args.upto
    c.args.number c.args.moment c.self.invariant (low c) (fits c) c.requires.order
    (c.in_ok-make.ensures.made c.self.inside.snd_una c.self.invariant (low c) c.requires.order).0
    ∙ ap (λ (xs : List (Option Outstanding)). made c.args.position c.args.upto c.args.number c.args.moment xs) c.self.view_is
