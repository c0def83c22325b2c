-- If less of congestion control is judged, more is allowed, and nothing else differs.
use Rattle.std.specs.Prelude.{◌≡◌, ℕ, ◌≤◌, ◌⊎◌, true}
use Rattle.window_rules.specs.declared.control.Profile.{Profile}
use Rattle.window_rules.specs.declared.control.Profile.TheVariants.{Rfc5681, Rfc6928, Unbounded, NoControl}
use Rattle.window_rules.specs.declared.control.Signal.{Signal}
use Rattle.window_rules.specs.declared.control.At.{At}
use Rattle.window_rules.specs.declared.control.Control.{Control}
use Rattle.window_rules.specs.declared.growth.SlowStart.TheVariants.{Permitted}
use Rattle.window_rules.specs.Windows.{greatest_window}
use Rattle.window_rules.specs.Control.{bounds_windows, counts_duplicates, greatest, after, control_edge, may_recover}

-- the same with another profile
abbrev pub with_profile : Profile → Control → Control
with_profile p c = record c { profile = p }

-- the same profile, but slow start may add SMSS for each new acknowledgment
abbrev pub permitting : Profile → Profile
permitting (Rfc5681 slow) = Rfc5681 Permitted
permitting (Rfc6928 slow) = Rfc6928 Permitted
permitting Unbounded = Unbounded
permitting NoControl = NoControl

-- a profile judges at most what another does: it bounds windows only if it is the other, perhaps with more in slow
-- start, and needs duplicates only if the other does
pub record JudgesAtMost (p q : Profile) : Type 0 where
  pub windows : bounds_windows p ≡ true → (p ≡ q) ⊎ (p ≡ permitting q)
  pub duplicates : counts_duplicates p ≡ true → counts_duplicates q ≡ true

-- if less is judged, all is allowed that was, and the values after a signal are the same
pub record AllowsMore (c : Control) (p : Profile) : Type 0 where
  pub window : (s : Signal) (at : At) (cwnd : ℕ) → cwnd ≤ greatest_window → cwnd ≤ (greatest c s at).0
      → cwnd ≤ (greatest (with_profile p c) s at).0
  pub threshold : (s : Signal) (at : At) (ssthresh : ℕ) → ssthresh ≤ greatest_window → ssthresh ≤ (greatest c s at).1
      → ssthresh ≤ (greatest (with_profile p c) s at).1
  pub edge : (una : ℕ) → control_edge una c ≤ control_edge una (with_profile p c)
  pub recovery : may_recover c ≡ true → may_recover (with_profile p c) ≡ true

abbrev pub LessJudgedIsMoreAllowed : Type 0
LessJudgedIsMoreAllowed = (c : Control) (p : Profile) → JudgesAtMost p c.profile → AllowsMore c p

-- no value after a signal depends on the profile
abbrev pub NoProfileIsRead : Type 0
NoProfileIsRead = (c : Control) (p : Profile) (s : Signal) (at : At) (cwnd ssthresh : ℕ)
    → after (with_profile p c) s at cwnd ssthresh ≡ with_profile p (after c s at cwnd ssthresh)
