-- Where less is judged, more is allowed: by cases on whether the lesser profile bounds windows.
use Rattle.std.proofs.Common.{◌≡◌, ℕ, ◌+◌, ◌^◌, ◌≤◌, Bool, true, false, not, ◌&&◌, ◌||◌, if◌then◌else◌, nat_le, refl, sym, subst, arith, inl, inr}
use Rattle.std.proofs.lemmas.Bool.{cases_Bool}
use Rattle.window_rules.specs.declared.control.Profile.{Profile}
use Rattle.window_rules.specs.declared.control.Profile.TheVariants.{Rfc5681, Rfc6928, Unbounded, NoControl}
use Rattle.window_rules.specs.declared.control.Signal.{Signal}
use Rattle.window_rules.specs.declared.control.Signal.TheVariants.{Syn, SynAcked, NewAck, Duplicate, Other, Timeout, Recovery}
use Rattle.window_rules.specs.declared.control.At.{At}
use Rattle.window_rules.specs.declared.control.Control.{Control}
use Rattle.window_rules.specs.declared.growth.SlowStart.TheVariants.{Permitted}
use Rattle.window_rules.specs.Windows.{greatest_window, congestion_edge}
use Rattle.window_rules.specs.Control.{bounds_windows, counts_duplicates, first_window, slow_start_of}
use Rattle.window_rules.specs.Control.{greatest, greatest_bounded, after, control_edge, may_recover}
use Rattle.window_rules.specs.Judging.{with_profile, permitting, JudgesAtMost, AllowsMore}
use Rattle.window_rules.proofs.GrowthLemmas.{growth_permits}

-- the same profile
same_allows : (c : Control) → AllowsMore c c.profile
same_allows c = record {
  window = λ s at cwnd fits le. le;
  threshold = λ s at ssthresh fits le. le;
  edge = λ una. omega arith;
  recovery = λ is. is;
}

-- the same with more in slow start
same_bounds : (q : Profile) → bounds_windows (permitting q) ≡ bounds_windows q
same_bounds (Rfc5681 slow) = refl
same_bounds (Rfc6928 slow) = refl
same_bounds Unbounded = refl
same_bounds NoControl = refl

same_duplicates : (q : Profile) → counts_duplicates (permitting q) ≡ counts_duplicates q
same_duplicates (Rfc5681 slow) = refl
same_duplicates (Rfc6928 slow) = refl
same_duplicates Unbounded = refl
same_duplicates NoControl = refl

same_first : (q : Profile) (smss : ℕ) (syn_lost : Bool) → first_window (permitting q) smss syn_lost ≡ first_window q smss syn_lost
same_first (Rfc5681 slow) smss syn_lost = refl
same_first (Rfc6928 slow) smss syn_lost = refl
same_first Unbounded smss syn_lost = refl
same_first NoControl smss syn_lost = refl

permits : (q : Profile) → slow_start_of (permitting q) ≡ Permitted
permits (Rfc5681 slow) = refl
permits (Rfc6928 slow) = refl
permits Unbounded = refl
permits NoControl = refl

bounded_more : (c : Control) (s : Signal) (at : At)
    → (greatest_bounded c s at).0 ≤ (greatest_bounded (with_profile (permitting c.profile) c) s at).0
bounded_more c (SynAcked smss syn_lost) at = rw (same_first c.profile smss syn_lost) (omega arith)
bounded_more c (NewAck acked) at = rw (permits c.profile) (growth_permits (slow_start_of c.profile) c.values acked)
bounded_more c (Syn smss) at = omega arith
bounded_more c Duplicate at = omega arith
bounded_more c Other at = omega arith
bounded_more c (Timeout flight syn_pending again) at = omega arith
bounded_more c (Recovery flight threshold) at = omega arith

greatest_more : (c : Control) (s : Signal) (at : At) → (greatest c s at).0 ≤ (greatest (with_profile (permitting c.profile) c) s at).0
greatest_more c s at = rw (same_bounds c.profile) (by (bounds_windows c.profile))
  where
    by : (bounds : Bool) → (if bounds then greatest_bounded c s at else (greatest_window, greatest_window)).0
        ≤ (if bounds then greatest_bounded (with_profile (permitting c.profile) c) s at else (greatest_window, greatest_window)).0
    by true = bounded_more c s at
    by false = omega arith

same_threshold : (c : Control) (s : Signal) (at : At) → (greatest_bounded (with_profile (permitting c.profile) c) s at).1 ≡ (greatest_bounded c s at).1
same_threshold c (Syn smss) at = refl
same_threshold c (SynAcked smss syn_lost) at = refl
same_threshold c (NewAck acked) at = refl
same_threshold c Duplicate at = refl
same_threshold c Other at = refl
same_threshold c (Timeout flight syn_pending again) at = refl
same_threshold c (Recovery flight threshold) at = refl

threshold_more : (c : Control) (s : Signal) (at : At) → (greatest c s at).1 ≤ (greatest (with_profile (permitting c.profile) c) s at).1
threshold_more c s at = rw (same_bounds c.profile) (by (bounds_windows c.profile))
  where
    by : (bounds : Bool) → (if bounds then greatest_bounded c s at else (greatest_window, greatest_window)).1
        ≤ (if bounds then greatest_bounded (with_profile (permitting c.profile) c) s at else (greatest_window, greatest_window)).1
    by true = rw (same_threshold c s at) (omega arith)
    by false = omega arith

permitting_allows : (c : Control) → AllowsMore c (permitting c.profile)
permitting_allows c = record {
  window = λ s at cwnd fits le. let more = greatest_more c s at in omega arith;
  threshold = λ s at ssthresh fits le. let more = threshold_more c s at in omega arith;
  edge = λ una. rw (same_bounds c.profile) (omega arith);
  recovery = λ is. rw (same_duplicates c.profile) is;
}

unbounded : (c : Control) (p : Profile) (s : Signal) (at : At) → bounds_windows p ≡ false
    → greatest (with_profile p c) s at ≡ (greatest_window, greatest_window)
unbounded c p s at none = rw none refl

further : (una : ℕ) (c : Control) (p : Profile) → bounds_windows p ≡ false → control_edge una c ≤ control_edge una (with_profile p c)
further una c p none = rw none (by (bounds_windows c.profile))
  where
    by : (bounds : Bool) → (if bounds then congestion_edge una c.values else congestion_edge una c.values + 2 ^ 40) ≤ congestion_edge una c.values + 2 ^ 40
    by true = omega arith
    by false = omega arith

recovers : (p q third : Bool) → (p ≡ true → q ≡ true) → (not q || third) ≡ true → (not p || third) ≡ true
recovers true true third less may = may
recovers true false third less may = (let x = less refl in absurd cc)
recovers false q third less may = refl

pub allows_more : (c : Control) (p : Profile) → JudgesAtMost p c.profile → AllowsMore c p
allows_more c p less = elim (cases_Bool (bounds_windows p)) [
  | inl bounded ↦ elim (less.windows bounded) [
    | inl same ↦ subst (AllowsMore c) (sym same) (same_allows c)
    | inr more ↦ subst (AllowsMore c) (sym more) (permitting_allows c)
  ]
  | inr none ↦ record {
    window = λ s at cwnd fits le. rw (unbounded c p s at none) fits;
    threshold = λ s at ssthresh fits le. rw (unbounded c p s at none) fits;
    edge = λ una. further una c p none;
    recovery = recovery;
  }
]
  where
    recovery : may_recover c ≡ true → may_recover (with_profile p c) ≡ true
    recovery = recovers (counts_duplicates p) (counts_duplicates c.profile) (nat_le 3 c.values.dup && not c.values.fast) less.duplicates

pub not_read : (c : Control) (p : Profile) (s : Signal) (at : At) (cwnd ssthresh : ℕ)
    → after (with_profile p c) s at cwnd ssthresh ≡ with_profile p (after c s at cwnd ssthresh)
not_read c p (Syn smss) at cwnd ssthresh = refl
not_read c p (SynAcked smss syn_lost) at cwnd ssthresh = refl
not_read c p (NewAck acked) at cwnd ssthresh = refl
not_read c p Duplicate at cwnd ssthresh = refl
not_read c p Other at cwnd ssthresh = refl
not_read c p (Timeout flight syn_pending again) at cwnd ssthresh = refl
not_read c p (Recovery flight threshold) at cwnd ssthresh = refl
