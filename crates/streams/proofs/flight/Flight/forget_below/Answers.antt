use Rattle.std.proofs.Common.{◌≤◌, ◌∙◌, ap, subst, sym, arith, List}
use Rattle.std.specs.Prelude.{Option}
use Rattle.streams.specs.declared.outstanding.Outstanding.{Outstanding}
use Rattle.streams.specs.Pieces.{begun, known_from}
use Rattle.streams.proofs.PieceLemmas.{Loses, known_past, known_same, length_shown, past_loses}
use Rattle.streams.proofs.flight.Flight.forget_below.Goals as goal

pub returns-then-snd_una-self : goal.returns-then-snd_una-self
returns-then-snd_una-self c =
    sym c.self.view_is
    ∙ (known_same c.self.inside.pieces.entries c.self.inside.snd_una c.args.snd_una c.if-snd_una-self.true
    ∙ ap (λ (xs : List (Option Outstanding)). known_from c.args.snd_una xs) c.self.view_is)

later : (c : goal.After-self-1) → c.self.inside.snd_una ≤ c.min-snd_una.result
later c =
    let long = length_shown c.self.inside.pieces.entries c.self.inside.snd_una c.self.inside.end c.self.invariant in
    let over = c.if-snd_una-self.false in
    let is = c.min-snd_una.ensures in
    omega (arith, long, over, is)

loses : (c : goal.After-self-1) → Loses c.self.inside.snd_una c.self.inside.end c.min-snd_una.result c.self.inside.pieces.entries c.begin_at.new.pieces.entries
loses c =
    let is = c.min-snd_una.ensures in
    subst (Loses c.self.inside.snd_una c.self.inside.end c.min-snd_una.result c.self.inside.pieces.entries)
    (sym (c.begin_at.ensures ∙ ap (begun c.min-snd_una.result) c.drop_through.ensures))
    (past_loses c.self.inside.pieces.entries c.self.inside.snd_una c.self.inside.end c.min-snd_una.result c.self.invariant (later c) (omega (arith, is)))

pub invariant_of-self : goal.invariant_of-self
invariant_of-self c = (loses c).adjoin

pub returns : goal.returns
returns c =
    known_past c.self.inside.pieces.entries c.begin_at.new.pieces.entries c.self.inside.snd_una c.self.inside.end c.args.snd_una c.min-snd_una.result
    c.self.invariant (later c) c.min-snd_una.ensures (loses c).view
    ∙ ap (λ (xs : List (Option Outstanding)). known_from c.args.snd_una xs) c.self.view_is
