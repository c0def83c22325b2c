-- What holds at the boundary of congestion control for every profile: the crates above use these laws and know no
-- profile.
use Rattle.std.specs.Prelude.{◌≡◌, ℕ, ◌+◌, ◌*◌, ◌^◌, ◌≤◌, ◌<◌, ◌↔◌, Bool, true, false, suc, ⊤}
use Rattle.window_rules.specs.declared.control.Profile.{Profile}
use Rattle.window_rules.specs.declared.control.Profile.TheVariants.{Rfc5681, Rfc6928, Unbounded, NoControl}
use Rattle.window_rules.specs.declared.control.Signal.{Signal}
use Rattle.window_rules.specs.declared.control.Signal.TheVariants.{Syn, SynAcked, NewAck}
use Rattle.window_rules.specs.declared.control.Signal.TheVariants.{Duplicate, Other, Timeout, Recovery}
use Rattle.window_rules.specs.declared.control.At.{At}
use Rattle.window_rules.specs.declared.control.Control.{Control}
use Rattle.window_rules.specs.Windows.{greatest_window, offered_edge}
use Rattle.window_rules.specs.Allowed.{MayFly, MayBegin, MayBegin6928, MayGrow, MayInflate, MayHalve, MayHold}
use Rattle.window_rules.specs.Laws.{IsGreatest}
use Rattle.window_rules.specs.Control.{bounds_windows, slow_start_of, greatest, after, control_edge}
use Rattle.window_rules.specs.Counts.{IsCounted, IsAcked}

-- the first window
abbrev pub MayFirst : Profile → (smss : ℕ) (syn_lost : Bool) → ℕ → Type 0
MayFirst (Rfc5681 slow) smss syn_lost cwnd = MayBegin smss syn_lost cwnd
MayFirst (Rfc6928 slow) smss syn_lost cwnd = MayBegin6928 smss cwnd
MayFirst Unbounded smss syn_lost cwnd = ⊤
MayFirst NoControl smss syn_lost cwnd = ⊤

-- the windows that a signal allows if they are bounded (RFC 5681, 3.1 and 3.2)
abbrev pub MayChooseBounded : Control → Signal → ℕ → Type 0
MayChooseBounded c (Syn smss) cwnd = cwnd ≤ c.values.cwnd
MayChooseBounded c (SynAcked smss syn_lost) cwnd = MayFirst c.profile smss syn_lost cwnd
MayChooseBounded c (NewAck acked) cwnd = MayGrow (slow_start_of c.profile) c.values acked cwnd
MayChooseBounded c Duplicate cwnd = MayInflate c.values cwnd
MayChooseBounded c Other cwnd = cwnd ≤ c.values.cwnd
MayChooseBounded c (Timeout flight syn_pending again) cwnd = cwnd ≤ c.values.smss
MayChooseBounded c (Recovery flight ssthresh) cwnd = cwnd ≤ ssthresh + c.values.dup * c.values.smss

-- the windows that a signal allows: all if none is bounded
abbrev pub MayChoose : Control → Signal → ℕ → Type 0
MayChoose c s cwnd = bounds_windows c.profile ≡ true → MayChooseBounded c s cwnd

-- the thresholds if they are bounded
abbrev pub MayLowerBounded : Control → Signal → ℕ → Type 0
MayLowerBounded c (Timeout flight syn_pending again) ssthresh = MayHold c.values flight syn_pending again ssthresh
MayLowerBounded c (Recovery flight threshold) ssthresh = MayHalve c.values flight ssthresh
MayLowerBounded c signal ssthresh = ssthresh ≤ c.values.ssthresh

-- the thresholds that a signal allows: all if none is bounded
abbrev pub MayLower : Control → Signal → ℕ → Type 0
MayLower c s ssthresh = bounds_windows c.profile ≡ true → MayLowerBounded c s ssthresh

-- a timeout or the beginning of fast recovery
abbrev pub is_loss : Signal → Bool
is_loss (Timeout flight syn_pending again) = true
is_loss (Recovery flight ssthresh) = true
is_loss signal = false

-- both values are at most the greatest
pub record IsLimited (c : Control) : Type 0 where
  pub cwnd : c.values.cwnd ≤ greatest_window
  pub ssthresh : c.values.ssthresh ≤ greatest_window

-- a value up to 4294967295 is allowed if and only if it is at most the greatest; new data may end exactly where the
-- window allows, and anywhere in the offered window if none is bounded
pub record ControlIsGreatest : Type 0 where
  pub window : (c : Control) (s : Signal) (at : At) → IsLimited c → IsGreatest (MayChoose c s) ((greatest c s at).0)
  pub threshold : (c : Control) (s : Signal) (at : At) → IsLimited c → IsGreatest (MayLower c s) ((greatest c s at).1)
  pub edge : (una : ℕ) (c : Control) (flight : ℕ) → bounds_windows c.profile ≡ true →
      MayFly c.values flight ↔ (una + flight ≤ control_edge una c)
  pub beyond : (una : ℕ) (c : Control) (wnd : ℕ) (probe : Bool) → bounds_windows c.profile ≡ false → wnd < 2 ^ 32 →
      offered_edge una wnd probe ≤ control_edge una c

-- after a signal the window is the one chosen; so is the threshold after a loss, and else it stays; and no signal
-- changes the profile
pub record ControlTakesChoice : Type 0 where
  pub cwnd : (c : Control) (s : Signal) (at : At) (cwnd ssthresh : ℕ) → (after c s at cwnd ssthresh).values.cwnd ≡ cwnd
  pub lowered : (c : Control) (s : Signal) (at : At) (cwnd ssthresh : ℕ) → is_loss s ≡ true
      → (after c s at cwnd ssthresh).values.ssthresh ≡ ssthresh
  pub stays : (c : Control) (s : Signal) (at : At) (cwnd ssthresh : ℕ) → is_loss s ≡ false
      → (after c s at cwnd ssthresh).values.ssthresh ≡ c.values.ssthresh
  pub profile : (c : Control) (s : Signal) (at : At) (cwnd ssthresh : ℕ)
      → (after c s at cwnd ssthresh).profile ≡ c.profile

-- what is counted stays small
abbrev pub ControlCounts : Type 0
ControlCounts =
    (c : Control) (s : Signal) (at : At) (cwnd ssthresh steps una una_then : ℕ) → IsCounted steps una c
    → IsAcked una una_then s → IsCounted (suc steps) una_then (after c s at cwnd ssthresh)
