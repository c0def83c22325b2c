-- The laws of the boundary, by cases on the signal.
use Rattle.std.proofs.Common.{◌≡◌, ℕ, suc, ◌+◌, ◌-◌, ◌^◌, ◌<◌, ◌≤◌, ◌↔◌, Bool, true, false, if◌then◌else◌, refl, sym, subst, arith, rules, min}
use Rattle.std.specs.Prelude.{⊤}
use Rattle.std.proofs.lemmas.Bool.Decides.{nat_tests}
use Rattle.window_rules.specs.declared.congestion.Congestion.{Congestion}
use Rattle.window_rules.specs.declared.control.Profile.{Profile}
use Rattle.window_rules.specs.declared.control.Profile.TheVariants.{Rfc5681, Rfc6928, Unbounded, NoControl}
use Rattle.window_rules.specs.declared.control.Signal.{Signal}
use Rattle.window_rules.specs.declared.control.Signal.TheVariants.{Syn, SynAcked, NewAck, Duplicate, Other, Timeout, Recovery}
use Rattle.window_rules.specs.declared.control.At.{At}
use Rattle.window_rules.specs.declared.control.Control.{Control}
use Rattle.window_rules.specs.Windows.{greatest_window, offered_edge, congestion_edge, initial_window, initial_window_6928}
use Rattle.window_rules.specs.Growth.{counted_after, fills_window, is_avoiding, on_duplicate}
use Rattle.window_rules.specs.Losses.{halved, on_timeout}
use Rattle.window_rules.specs.Allowed.{MayFly, MayBegin, MayBegin6928, MayInflate, MayHalve, MayHold}
use Rattle.window_rules.specs.Laws.{IsGreatest}
use Rattle.window_rules.specs.Control.{bounds_windows, began, first_window, slow_start_of, greatest_bounded, greatest, after, control_edge}
use Rattle.window_rules.specs.Counts.{HasCounts, IsCounted, IsAcked}
use Rattle.window_rules.specs.ControlLaws.{MayFirst, MayChooseBounded, MayChoose, MayLowerBounded, MayLower, IsLimited, is_loss}
use Rattle.window_rules.proofs.GrowthLemmas.{growth_greatest}

-- 1. the greatest values

up_to : (n : ℕ) → n ≤ greatest_window → IsGreatest (λ v. v ≤ n) n
up_to n small v = ((λ p. p.0), (λ h. (h, omega arith)))

up_to_capped : (n : ℕ) → IsGreatest (λ v. v ≤ n) (min n greatest_window)
up_to_capped n = search rules

-- all values up to the greatest
all_up_to : IsGreatest (λ v. ⊤) greatest_window
all_up_to v = ((λ x. x.1), (λ h. (tt, h)))

first_greatest : (p : Profile) (smss : ℕ) (syn_lost : Bool) → IsGreatest (MayFirst p smss syn_lost) (first_window p smss syn_lost)
first_greatest (Rfc5681 slow) smss syn_lost = begin_greatest smss syn_lost
  where
    begin_greatest : (smss : ℕ) (syn_lost : Bool) → IsGreatest (MayBegin smss syn_lost) (initial_window smss syn_lost)
    begin_greatest = search rules
first_greatest (Rfc6928 slow) smss syn_lost = ten_greatest smss
  where
    ten_greatest : (smss : ℕ) → IsGreatest (MayBegin6928 smss) (initial_window_6928 smss)
    ten_greatest = search rules
first_greatest Unbounded smss syn_lost = all_up_to
first_greatest NoControl smss syn_lost = all_up_to

inflate_greatest : (c : Congestion) → IsGreatest (MayInflate c) (on_duplicate c)
inflate_greatest = search rules

hold_greatest : (c : Congestion) (flight : ℕ) (syn_pending again : Bool)
    → IsGreatest (MayHold c flight syn_pending again) ((on_timeout c flight syn_pending again).1)
hold_greatest = search rules

halve_greatest : (c : Congestion) (flight : ℕ) → IsGreatest (MayHalve c flight) (halved c flight)
halve_greatest = search rules

window_bounded : (c : Control) (s : Signal) (at : At) → IsLimited c → IsGreatest (MayChooseBounded c s) ((greatest_bounded c s at).0)
window_bounded c (Syn smss) at fits = up_to c.values.cwnd fits.cwnd
window_bounded c (SynAcked smss syn_lost) at fits = first_greatest c.profile smss syn_lost
window_bounded c (NewAck acked) at fits = growth_greatest (slow_start_of c.profile) c.values acked
window_bounded c Duplicate at fits = inflate_greatest c.values
window_bounded c Other at fits = up_to c.values.cwnd fits.cwnd
window_bounded c (Timeout flight syn_pending again) at fits = up_to_capped c.values.smss
window_bounded c (Recovery flight ssthresh) at fits = up_to_capped _

threshold_bounded : (c : Control) (s : Signal) (at : At) → IsLimited c → IsGreatest (MayLowerBounded c s) ((greatest_bounded c s at).1)
threshold_bounded c (Syn smss) at fits = up_to c.values.ssthresh fits.ssthresh
threshold_bounded c (SynAcked smss syn_lost) at fits = up_to c.values.ssthresh fits.ssthresh
threshold_bounded c (NewAck acked) at fits = up_to c.values.ssthresh fits.ssthresh
threshold_bounded c Duplicate at fits = up_to c.values.ssthresh fits.ssthresh
threshold_bounded c Other at fits = up_to c.values.ssthresh fits.ssthresh
threshold_bounded c (Timeout flight syn_pending again) at fits = hold_greatest c.values flight syn_pending again
threshold_bounded c (Recovery flight ssthresh) at fits = halve_greatest c.values flight

-- what is allowed where windows are bounded is allowed by a profile that bounds them; all is by one that doesn't
only_if : (bounds : Bool) (Allowed : ℕ → Type 0) (n : ℕ) → (bounds ≡ true → IsGreatest Allowed n)
    → IsGreatest (λ v. bounds ≡ true → Allowed v) (if bounds then n else greatest_window)
only_if true Allowed n here v = ((λ x. (here refl v).0 (x.0 refl, x.1)), (λ h. let x = (here refl v).1 h in ((λ is. x.0), x.1)))
only_if false Allowed n here v = ((λ x. x.1), (λ h. ((λ is. absurd cc), h)))

pair_first : (bounds : Bool) (a : ℕ × ℕ) → (if bounds then a else (greatest_window, greatest_window)).0 ≡ (if bounds then a.0 else greatest_window)
pair_first true a = refl
pair_first false a = refl

pair_second : (bounds : Bool) (a : ℕ × ℕ) → (if bounds then a else (greatest_window, greatest_window)).1 ≡ (if bounds then a.1 else greatest_window)
pair_second true a = refl
pair_second false a = refl

pub window_greatest : (c : Control) (s : Signal) (at : At) → IsLimited c → IsGreatest (MayChoose c s) ((greatest c s at).0)
window_greatest c s at fits =
    subst (λ n. IsGreatest (MayChoose c s) n) (sym (pair_first (bounds_windows c.profile) (greatest_bounded c s at)))
    (only_if (bounds_windows c.profile) (MayChooseBounded c s) ((greatest_bounded c s at).0) (λ is. window_bounded c s at fits))

pub threshold_greatest : (c : Control) (s : Signal) (at : At) → IsLimited c → IsGreatest (MayLower c s) ((greatest c s at).1)
threshold_greatest c s at fits =
    subst (λ n. IsGreatest (MayLower c s) n) (sym (pair_second (bounds_windows c.profile) (greatest_bounded c s at)))
    (only_if (bounds_windows c.profile) (MayLowerBounded c s) ((greatest_bounded c s at).1) (λ is. threshold_bounded c s at fits))

flies : (una : ℕ) (c : Congestion) (flight : ℕ) → MayFly c flight ↔ (una + flight ≤ congestion_edge una c)
flies = search rules

pub edge_exact : (una : ℕ) (c : Control) (flight : ℕ) → bounds_windows c.profile ≡ true → MayFly c.values flight ↔ (una + flight ≤ control_edge una c)
edge_exact una c flight bounds = rw bounds (flies una c.values flight)

pub edge_beyond : (una : ℕ) (c : Control) (wnd : ℕ) (probe : Bool) → bounds_windows c.profile ≡ false → wnd < 2 ^ 32
    → offered_edge una wnd probe ≤ control_edge una c
edge_beyond una c wnd probe none few = rw none (grind (arith, nat_tests))

-- 2. the values then

pub chosen_cwnd : (c : Control) (s : Signal) (at : At) (cwnd ssthresh : ℕ) → (after c s at cwnd ssthresh).values.cwnd ≡ cwnd
chosen_cwnd c (Syn smss) at cwnd ssthresh = refl
chosen_cwnd c (SynAcked smss syn_lost) at cwnd ssthresh = refl
chosen_cwnd c (NewAck acked) at cwnd ssthresh = refl
chosen_cwnd c Duplicate at cwnd ssthresh = refl
chosen_cwnd c Other at cwnd ssthresh = refl
chosen_cwnd c (Timeout flight syn_pending again) at cwnd ssthresh = refl
chosen_cwnd c (Recovery flight threshold) at cwnd ssthresh = refl

pub lowered_ssthresh : (c : Control) (s : Signal) (at : At) (cwnd ssthresh : ℕ) → is_loss s ≡ true → (after c s at cwnd ssthresh).values.ssthresh ≡ ssthresh
lowered_ssthresh c (Timeout flight syn_pending again) at cwnd ssthresh loss = refl
lowered_ssthresh c (Recovery flight threshold) at cwnd ssthresh loss = refl
lowered_ssthresh c (Syn smss) at cwnd ssthresh loss = absurd cc
lowered_ssthresh c (SynAcked smss syn_lost) at cwnd ssthresh loss = absurd cc
lowered_ssthresh c (NewAck acked) at cwnd ssthresh loss = absurd cc
lowered_ssthresh c Duplicate at cwnd ssthresh loss = absurd cc
lowered_ssthresh c Other at cwnd ssthresh loss = absurd cc

pub same_ssthresh : (c : Control) (s : Signal) (at : At) (cwnd ssthresh : ℕ) → is_loss s ≡ false
    → (after c s at cwnd ssthresh).values.ssthresh ≡ c.values.ssthresh
same_ssthresh c (Timeout flight syn_pending again) at cwnd ssthresh loss = absurd cc
same_ssthresh c (Recovery flight threshold) at cwnd ssthresh loss = absurd cc
same_ssthresh c (Syn smss) at cwnd ssthresh loss = refl
same_ssthresh c (SynAcked smss syn_lost) at cwnd ssthresh loss = refl
same_ssthresh c (NewAck acked) at cwnd ssthresh loss = refl
same_ssthresh c Duplicate at cwnd ssthresh loss = refl
same_ssthresh c Other at cwnd ssthresh loss = refl

pub same_profile : (c : Control) (s : Signal) (at : At) (cwnd ssthresh : ℕ) → (after c s at cwnd ssthresh).profile ≡ c.profile
same_profile c (Syn smss) at cwnd ssthresh = refl
same_profile c (SynAcked smss syn_lost) at cwnd ssthresh = refl
same_profile c (NewAck acked) at cwnd ssthresh = refl
same_profile c Duplicate at cwnd ssthresh = refl
same_profile c Other at cwnd ssthresh = refl
same_profile c (Timeout flight syn_pending again) at cwnd ssthresh = refl
same_profile c (Recovery flight threshold) at cwnd ssthresh = refl

-- with the old threshold as the choice it stays, whatever the signal
pub kept_ssthresh : (c : Control) (s : Signal) (at : At) (cwnd : ℕ) → (after c s at cwnd c.values.ssthresh).values.ssthresh ≡ c.values.ssthresh
kept_ssthresh c (Syn smss) at cwnd = refl
kept_ssthresh c (SynAcked smss syn_lost) at cwnd = refl
kept_ssthresh c (NewAck acked) at cwnd = refl
kept_ssthresh c Duplicate at cwnd = refl
kept_ssthresh c Other at cwnd = refl
kept_ssthresh c (Timeout flight syn_pending again) at cwnd = refl
kept_ssthresh c (Recovery flight threshold) at cwnd = refl

-- 3. counts

-- the bytes counted grow by what is acknowledged at most
counted_grows : (c : Congestion) (n : ℕ) → counted_after c n ≤ c.counted + n
counted_grows c n = by (is_avoiding c) (fills_window c n)
  where
    by : (avoiding fills : Bool) → (if avoiding then (if fills then c.counted + n - c.cwnd else c.counted + n) else c.counted) ≤ c.counted + n
    by true true = omega arith
    by true false = omega arith
    by false fills = omega arith

pub counts_stay : (c : Control) (s : Signal) (at : At) (cwnd ssthresh steps una una_then : ℕ) → IsCounted steps una c → IsAcked una una_then s
    → IsCounted (suc steps) una_then (after c s at cwnd ssthresh)
counts_stay c (Syn smss) at cwnd ssthresh steps una una_then k up = let a = k.counted in let b = k.dup in record { counted = omega arith; dup = omega arith }
counts_stay c (SynAcked smss syn_lost) at cwnd ssthresh steps una una_then k up = let a = k.counted in record { counted = omega arith; dup = omega arith }
counts_stay c (NewAck acked) at cwnd ssthresh steps una una_then k up =
    let a = k.counted in
    let grown = counted_grows c.values acked in
    record { counted = omega arith; dup = omega arith }
counts_stay c Duplicate at cwnd ssthresh steps una una_then k up = let a = k.counted in let b = k.dup in record { counted = omega arith; dup = omega arith }
counts_stay c Other at cwnd ssthresh steps una una_then k up = let a = k.counted in let b = k.dup in record { counted = omega arith; dup = omega arith }
counts_stay c (Timeout flight syn_pending again) at cwnd ssthresh steps una una_then k up = record { counted = omega arith; dup = omega arith }
counts_stay c (Recovery flight threshold) at cwnd ssthresh steps una una_then k up =
    let a = k.counted in let b = k.dup in record { counted = omega arith; dup = omega arith }

pub counts_later : (c : Control) (steps una : ℕ) → IsCounted steps una c → IsCounted (suc steps) una c
counts_later c steps una k = let b = k.dup in record { counted = k.counted; dup = omega arith }

pub counts_began : (p : Profile) (steps : ℕ) → IsCounted steps 0 (began p)
counts_began p steps = record { counted = omega arith; dup = omega arith }

-- of an endpoint that begins with the peer's SYN
pub counts_met : (p : Profile) (smss : ℕ) (at : At) (cwnd ssthresh steps : ℕ) → IsCounted steps 0 (after (began p) (Syn smss) at cwnd ssthresh)
counts_met p smss at cwnd ssthresh steps = record { counted = omega arith; dup = omega arith }

pub counts_room : (c : Control) (steps una : ℕ) → steps + 1 < 2 ^ 32 → una < 2 ^ 63 → IsCounted steps una c → HasCounts c
counts_room c steps una few low k = let a = k.counted in let b = k.dup in record { counted = omega arith; dup = omega arith }
