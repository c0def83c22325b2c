use Rattle.std.proofs.Common.{◌≡◌, ℕ, Bool, true, false, not, ◌&&◌, refl, sym, ap, ◌∙◌}
use Rattle.std.specs.FinSet.{FinSet}
use Rattle.std.specs.Ordering.{nat_cmp}
use Rattle.streams.specs.Ranges.{covers, meets}
use Rattle.flights.specs.contracts.flight.Flight.{the_view}
use Rattle.flights.proofs.FreeLemmas.{keeps}
use Rattle.flights.proofs.flight.Flight.is_last_untold.Goals as goal

abbrev is_last : FinSet nat_cmp → (from upto end : ℕ) → Bool
is_last told from upto end = not (meets told from upto) && covers told upto end

none_told : (told : FinSet nat_cmp) (from upto end : ℕ) → meets told from upto ≡ false → covers told upto end ≡ is_last told from upto end
none_told told from upto end is = rw is refl

one_told : (told : FinSet nat_cmp) (from upto end : ℕ) → meets told from upto ≡ true → false ≡ is_last told from upto end
one_told told from upto end is = rw is refl

pub returns-then-not-meets : goal.returns-then-not-meets
returns-then-not-meets c =
    let kept = keeps _ c.args.self.now c.self-inside.inside.0.1.1.0 c.self-inside.inside.0.1.1.1.0.told
    (ap the_view c.self-inside.view_is ∙ c.self.view_is) refl refl in
    c.covers.ensures
    ∙ none_told c.self-inside.inside.0.1.1.1.0.told c.args.old.from c.args.old.upto c.args.v.now.snd_max
    (sym c.meets.ensures ∙ c.if-not-meets.true)
    ∙ ap (λ (s : FinSet nat_cmp). is_last s c.args.old.from c.args.old.upto c.args.v.now.snd_max) (sym kept.told_is)

pub returns-else-not-meets : goal.returns-else-not-meets
returns-else-not-meets c =
    let kept = keeps _ c.args.self.now c.self-inside.inside.0.1.1.0 c.self-inside.inside.0.1.1.1.0.told
    (ap the_view c.self-inside.view_is ∙ c.self.view_is) refl refl in
    ap not c.if-not-meets.false
    ∙ one_told c.self-inside.inside.0.1.1.1.0.told c.args.old.from c.args.old.upto c.args.v.now.snd_max
    (sym c.meets.ensures ∙ c.if-not-meets.false)
    ∙ ap (λ (s : FinSet nat_cmp). is_last s c.args.old.from c.args.old.upto c.args.v.now.snd_max) (sym kept.told_is)
