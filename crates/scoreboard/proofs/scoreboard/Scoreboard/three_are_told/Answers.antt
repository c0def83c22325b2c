use Rattle.std.proofs.Common.{◌≡◌, ℕ, suc, Bool, false, refl, sym, ap, ◌∙◌, add-one}
use Rattle.std.specs.Prelude.{None, Some, is_some}
use Rattle.std.specs.FinSet.{FinSet, from_list, items}
use Rattle.std.specs.Option.{option_map_or}
use Rattle.std.specs.Ordering.{nat_cmp}
use Rattle.streams.specs.Ranges.{first_held}
use Rattle.spec_flights.specs.Scoreboard.{Scoreboard}
use Rattle.flight_parts.proofs.SetLemmas.{read_back}
use Rattle.scoreboard.proofs.scoreboard.Scoreboard.three_are_told.Goals as goal

abbrev has_three : FinSet nat_cmp → Bool
has_three s =
    option_map_or (λ one. option_map_or (λ two. is_some (first_held s (suc two))) (first_held s (suc one)) false)
    (first_held s 0) false

none_held : (s : FinSet nat_cmp) → None ≡ first_held s 0 → false ≡ has_three s
none_held s first = rw (← first) refl

one_held : (s : FinSet nat_cmp) (one : ℕ) → Some one ≡ first_held s 0 → None ≡ first_held s (suc one) → false ≡ has_three s
one_held s one first second = rw (← first, ← second) refl

two_held : (s : FinSet nat_cmp) (one two : ℕ) → Some one ≡ first_held s 0 → Some two ≡ first_held s (suc one)
    → is_some (first_held s (suc two)) ≡ has_three s
two_held s one two first second = rw (← first, ← second) refl

-- the set of a scoreboard's view is the one that it keeps
of_view : (s : FinSet nat_cmp) (b view : Scoreboard) → b ≡ view → b.ends ≡ items s → has_three s ≡ has_three (from_list view.ends)
of_view s b view is ends =
    ap has_three (sym (read_back s) ∙ ap from_list (sym ends)) ∙ ap (λ (b : Scoreboard). has_three (from_list b.ends)) is

pub returns-in_default : goal.returns-in_default
returns-in_default c =
    none_held c.self.inside.ends c.in_default.ensures.first
    ∙ of_view c.self.inside.ends _ c.args.self.now c.self.view_is refl

pub returns-in_default-next_held : goal.returns-in_default-next_held
returns-in_default-next_held c =
    one_held c.self.inside.ends c.in-Some.one c.in-Some.ensures.first
    (c.in_default-next_held.ensures.first ∙ ap (first_held c.self.inside.ends) (add-one c.in-Some.one))
    ∙ of_view c.self.inside.ends _ c.args.self.now c.self.view_is refl

pub returns : goal.returns
returns c =
    c.is_some.ensures
    ∙ ap is_some (c.next_held-3.ensures.first ∙ ap (first_held c.self.inside.ends) (add-one c.in-Some-next_held.two))
    ∙ two_held c.self.inside.ends c.in-Some.one c.in-Some-next_held.two c.in-Some.ensures.first
    (c.in-Some-next_held.ensures.first ∙ ap (first_held c.self.inside.ends) (add-one c.in-Some.one))
    ∙ of_view c.self.inside.ends _ c.args.self.now c.self.view_is refl
