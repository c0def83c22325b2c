use Rattle.std.proofs.Common.{ap, sym, subst, length, arith, List}
use Rattle.std.specs.Prelude.{Option}
use Rattle.streams.specs.Flying.{AreAlike}
use Rattle.streams.specs.declared.outstanding.Outstanding.{Outstanding}
use Rattle.streams.proofs.FlyingLemmas.{from_first, known_at, none_known}
use Rattle.streams.proofs.PieceLemmas.{length_known}
use Rattle.streams.proofs.RangeEdits.{after_bound}
use Rattle.streams.proofs.flight.Flight.alike_from.Goals as goal

pub returns-in-Some-clause-some : goal.returns-in-Some-clause-some
returns-in-Some-clause-some c =
    let low = from_first c.self.inside.pieces.entries c.self.inside.snd_una c.args.position c.args.self.now c.self.view_is c.requires in (
      after_bound c.self.inside.pieces.entries c.args.position (c.in-Some.end, c.in-Some.piece) (sym c.in-Some.ensures),
      subst (λ (xs : List (Option Outstanding)). AreAlike xs c.args.position c.in-Some.end c.in-Some.piece.state) c.self.view_is
          (known_at c.self.inside.pieces.entries c.self.inside.snd_una c.self.inside.end c.args.position (c.in-Some.end, c.in-Some.piece)
          c.self.invariant low (sym c.in-Some.ensures)),
    )

pub returns-in-None-clause-none : goal.returns-in-None-clause-none
returns-in-None-clause-none c none =
    let low = from_first c.self.inside.pieces.entries c.self.inside.snd_una c.args.position c.args.self.now c.self.view_is c.requires in
    let past = none_known c.self.inside.pieces.entries c.self.inside.snd_una c.self.inside.end c.args.position c.self.invariant low (sym c.in-None.ensures) in
    let long = length_known c.self.inside.pieces.entries c.self.inside.snd_una c.self.inside.end c.self.invariant in
    let same = ap (λ (xs : List (Option Outstanding)). length xs) c.self.view_is in
    omega (arith, past, long, same)
