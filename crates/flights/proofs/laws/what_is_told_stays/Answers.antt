use Rattle.std.proofs.Common.{◌≡◌, ℕ, Bool, true, false, not, ◌&&◌, ◌||◌, List, [], ◌∷◌, refl, sym, ap, ◌∙◌}
use Rattle.std.specs.Prelude.{None, Some, ◌+◌, if◌then◌else◌, nat_eq, nat_lt, slice_get}
use Rattle.std.specs.FinSet.{contains, from_list}
use Rattle.std.specs.List.{list_all, list_any}
use Rattle.std.specs.Option.{option_flatten, option_map_or}
use Rattle.std.specs.Ordering.{nat_cmp}
use Rattle.std.proofs.lemmas.Option.{none-some}
use Rattle.verdict.specs.declared.rule.Rule.TheVariants as rules
use Rattle.streams.specs.Ranges.{covers, meets, positions}
use Rattle.case_forms.specs.declared.steps.SegmentPlan.{SegmentPlan}
use Rattle.spec_tcp.specs.Makes.Payload.{making_length}
use Rattle.spec_duties.specs.declared.views.View.{View}
use Rattle.spec_flights.specs.Flights.{Flight, are_free, free_below, is_free, is_probe, is_rescue, may_go_again, sends_nothing_new}
use Rattle.spec_flights.specs.Late.{has_below, resent_below}
use Rattle.spec_flights.specs.Probing.{is_due}
use Rattle.spec_flights.specs.Recovering.{is_repairing}
use Rattle.spec_flights.specs.Sides.{are_selective}
use Rattle.spec_flights.specs.Marks.{goes_again, old_part}
use Rattle.spec_flights.specs.declared.stretch.Stretch.{Stretch}
use Rattle.flights.proofs.laws.what_is_told_stays.Goals as goal

none_marked : (b : Bool) → (b && false || false) ≡ false
none_marked true = refl
none_marked false = refl

-- a position that may be sent again wasn't reported
untold : (below : ℕ) (f : Flight) (p : ℕ) → f.recovery.is_fast ≡ true → is_free below f p ≡ true → contains {R = nat_cmp} (from_list f.board.told) p ≡ false
untold below f p fast free = by (contains {R = nat_cmp} (from_list f.board.told) p) refl
  where
    by : (told : Bool) → contains {R = nat_cmp} (from_list f.board.told) p ≡ told → told ≡ false
    by false is = refl
    by true is =
        let no : is_free below f p ≡ false =
        ap
        (λ b. contains {R = nat_cmp} (from_list f.marks) p && not (f.recovery.is_fast && b)
        || option_map_or (λ x. nat_lt x.number below) (if b then None else option_flatten (slice_get f.board.known p)) false)
        is
        ∙ ap (λ c. contains {R = nat_cmp} (from_list f.marks) p && not (c && true) || false) fast
        ∙ none_marked (contains {R = nat_cmp} (from_list f.marks) p) in
        sym free ∙ no

all_untold : (below : ℕ) (f : Flight) → f.recovery.is_fast ≡ true → (ps : List ℕ) → list_all (is_free below f) ps ≡ true
    → list_any (contains {R = nat_cmp} (from_list f.board.told)) ps ≡ false
all_untold below f fast [] all = refl
all_untold below f fast (p ∷ ps) all = by (is_free below f p) refl all (all_untold below f fast ps)
  where
    by : (free : Bool) → is_free below f p ≡ free → (free && list_all (is_free below f) ps) ≡ true
        → (list_all (is_free below f) ps ≡ true → list_any (contains {R = nat_cmp} (from_list f.board.told)) ps ≡ false)
        → (contains {R = nat_cmp} (from_list f.board.told) p || list_any (contains {R = nat_cmp} (from_list f.board.told)) ps) ≡ false
    by false is all rest = let no : false ≡ true = all in absurd cc
    by true is all rest =
        ap (λ b. b || list_any (contains {R = nat_cmp} (from_list f.board.told)) ps) (untold below f p fast is) ∙ rest all

free_untold : (below : ℕ) (f : Flight) (old : Stretch) → f.recovery.is_fast ≡ true → are_free below f old ≡ true
    → meets (from_list f.board.told) old.from old.upto ≡ false
unfolding meets
free_untold below f old fast all = all_untold below f fast (positions old.from old.upto) all

fifth : (a b c d e f g : Bool) → (a && b && c && d && e && f && g) ≡ true → e ≡ true
fifth false b c d e f g is = let no : false ≡ true = is in absurd cc
fifth true false c d e f g is = let no : false ≡ true = is in absurd cc
fifth true true false d e f g is = let no : false ≡ true = is in absurd cc
fifth true true true false e f g is = let no : false ≡ true = is in absurd cc
fifth true true true true false f g is = let no : false ≡ true = is in absurd cc
fifth true true true true true f g is = refl

not_true : (a : Bool) → not a ≡ true → a ≡ false
not_true true is = let no : false ≡ true = is in absurd cc
not_true false is = refl

rescue_untold : (clock : ℕ) (v : View) (f : Flight) (old : Stretch) → is_rescue clock v f old ≡ true
    → meets (from_list f.board.told) old.from old.upto ≡ false
rescue_untold clock v f old is =
    not_true (meets (from_list f.board.told) old.from old.upto)
    (fifth (are_selective f.sides) (is_repairing v f.recovery) (not f.rescued) (sends_nothing_new v)
    (not (meets (from_list f.board.told) old.from old.upto)) (covers (from_list f.board.told) old.upto v.snd_max)
    (not (has_below (resent_below true clock f.board) v f.board)) is)

probe_untold : (due end told : Bool) → (due && end && not told) ≡ true → told ≡ false
probe_untold false end told is = let no : false ≡ true = is in absurd cc
probe_untold true false told is = let no : false ≡ true = is in absurd cc
probe_untold true true told is = not_true told is

may_untold : (clock : ℕ) (v : View) (m : SegmentPlan) (f : Flight) → f.recovery.is_fast ≡ true → may_go_again clock v m f ≡ true
    → meets (from_list f.board.told) (old_part v m).from (old_part v m).upto ≡ false
may_untold clock v m f fast is = by (are_free (free_below clock v f) f old) (is_probe v m f) refl refl is
  where
    old : Stretch
    old = old_part v m

    by : (free probe : Bool) → are_free (free_below clock v f) f old ≡ free → is_probe v m f ≡ probe
        → (free || probe || is_rescue clock v f old) ≡ true → meets (from_list f.board.told) old.from old.upto ≡ false
    by true probe free sent is = free_untold (free_below clock v f) f old fast free
    by false true free sent is =
        probe_untold (is_due f.probing.probe) (nat_eq (m.pos + making_length m) v.snd_max) (meets (from_list f.board.told) old.from old.upto) sent
    by false false free sent is = rescue_untold clock v f old is

may_of : (again may : Bool) → again ≡ true → (if again && not may then Some rules.OldData else None) ≡ None → may ≡ true
may_of false may is none = let no : false ≡ true = is in absurd cc
may_of true true is none = refl
may_of true false is none = absurd (none-some rules.OldData (sym none))

pub returns : goal.returns
returns c clock m v f fast again none =
    may_untold clock v m f fast (may_of (goes_again v m) (may_go_again clock v m f) again none)
