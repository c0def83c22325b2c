-- How long a retransmission timer may run, and what it means that it runs on.
use Rattle.std.proofs.Common.{◌≡◌, ℕ, zero, suc, ◌+◌, ◌*◌, ◌^◌, ◌<◌, ◌≤◌, Bool, true, false, Option, Some, None, refl, ap, sym, ◌∙◌, arith, min}
use Rattle.std.proofs.Math.Nat.{zero-mul}
use Rattle.std.proofs.Math.Pow.{pow_mono}
use Rattle.std.proofs.lemmas.Bool.Decides.{nat_tests}
use Rattle.std.proofs.lemmas.Nat.{mul-le}
use Rattle.std.specs.Prelude.{◌==◌, ◌&&◌, ◌||◌, if◌then◌else◌, is_some, nat_le, nat_lt, not}
use Rattle.std.specs.Option.{option_map_or}
use Rattle.case_forms.specs.Versions.{says_sender}
use Rattle.case_forms.specs.States.{is_closed}
use Rattle.case_forms.specs.declared.trace.Header.{Header}
use Rattle.timer_rules.specs.Timeouts.{longest_rto}
use Rattle.spec_tcp.specs.Makes.Payload.{making_length}
use Rattle.spec_tcp_laws.proofs.Rules.{both_true, not_true, number_same, number_self, true_false}
use Rattle.spec_duties.specs.Expire.{has_expiry_due, longest_run}
use Rattle.spec_duties.specs.Strict.{doubled_error, is_fin_alone, longest_coarse_run, rebuilds_oldest}
use Rattle.spec_duties.specs.declared.events.Event.{Event}
use Rattle.spec_duties.specs.declared.events.Event.TheVariants.{Builds}
use Rattle.spec_duties.specs.declared.views.View.{View}
use Rattle.kept_duties.specs.Expiries.{BuildsOldest, clock_error, run_time, runs_on, runs_since}
use Rattle.kept_duties.proofs.Excused.{AsSeen, as_event}

-- the window is open, or closed, as it was
abbrev pub as_open : (first now : ℕ) → Bool
as_open first now = if nat_lt 0 first then nat_lt 0 now else now == 0

pub not_opened : (first before after : ℕ) → as_open first before ≡ true → as_open first after ≡ true → (before == 0 && nat_lt 0 after) ≡ false
not_opened first before after = by (nat_lt 0 first)
  where
    none : (b : Bool) → (b && false) ≡ false
    none true = refl
    none false = refl

    by : (b : Bool) → (if b then nat_lt 0 before else before == 0) ≡ true → (if b then nat_lt 0 after else after == 0) ≡ true
        → (before == 0 && nat_lt 0 after) ≡ false
    by true open' now =
        let some : (before == 0) ≡ false = grind (arith, nat_tests, open') in
        ap (λ (b : Bool). b && nat_lt 0 after) some
    by false shut now =
        let no-more : nat_lt 0 after ≡ false = grind (arith, nat_tests, now) in
        ap (λ (b : Bool). before == 0 && b) no-more ∙ none (before == 0)

as_open_self : (first : ℕ) → as_open first first ≡ true
as_open_self first = by (nat_lt 0 first) refl
  where
    by : (b : Bool) → nat_lt 0 first ≡ b → (if b then nat_lt 0 first else first == 0) ≡ true
    by true is = is
    by false is = grind (arith, nat_tests, is)

-- what it means that the timer runs on
pub record RunsOn (h : Header) (since : ℕ) (first now : View) : Type 0 where
  pub open' : is_closed now.state ≡ false
  pub due : has_expiry_due now ≡ true
  pub armed : now.timers.rto_armed ≡ Some since
  pub time : run_time h now ≡ run_time h first
  pub window : as_open first.snd_wnd now.snd_wnd ≡ true

armed_is : (o : Option ℕ) (since : ℕ) → option_map_or (λ m. m == since) o false ≡ true → o ≡ Some since
armed_is None since is = absurd cc
armed_is (Some m) since is = ap (λ (n : ℕ). Some n) (number_same m since is)

pub runs_parts : (h : Header) (since : ℕ) (first now : View) → runs_on h since first now ≡ true → RunsOn h since first now
runs_parts h since first now is =
    let a = both_true (runs_since since now && run_time h now == run_time h first) (as_open first.snd_wnd now.snd_wnd) is in
    let b = both_true (runs_since since now) (run_time h now == run_time h first) a.0 in
    let c = both_true (not (is_closed now.state) && has_expiry_due now) (option_map_or (λ m. m == since) now.timers.rto_armed false) b.0 in
    let d = both_true (not (is_closed now.state)) (has_expiry_due now) c.0 in
    record {
      open' = not_true (is_closed now.state) d.0;
      due = d.1;
      armed = armed_is now.timers.rto_armed since c.1;
      time = number_same (run_time h now) (run_time h first) b.1;
      window = a.1;
    }

pub runs_self : (h : Header) (since : ℕ) (first : View) → runs_since since first ≡ true → runs_on h since first first ≡ true
runs_self h since first is =
    let same : (run_time h first == run_time h first) ≡ true = grind (arith, nat_tests) in
    (λ i. is i && same i && as_open_self first.snd_wnd i)

-- ---- how long it may run

-- in versions 1 to 5
pub plain_run : (h : Header) (v : View) → says_sender h.version ≡ false → has_expiry_due v ≡ true → longest_run v ≡ run_time h v
plain_run h v plain due = by (is_some v.timers.srtt)
  where
    below : v.timers.rto < longest_rto
    below =
        let both = both_true (nat_lt v.timers.rto longest_rto) (nat_lt 0 v.snd_wnd || v.snd_una == 0) due in
        grind (arith, nat_tests, both.0)

    by : (b : Bool) → (if b then v.timers.rto else 3 * v.timers.rto)
        ≡ (if b then min (v.timers.rto + clock_error h * 2 ^ v.backoffs) longest_rto else 3 * v.timers.rto)
    by true =
        let none : clock_error h ≡ 0 = ap (λ (b : Bool). if b then 5 * h.grain else 0) plain in
        let zero' : clock_error h * 2 ^ v.backoffs ≡ 0 = ap (λ (n : ℕ). n * 2 ^ v.backoffs) none ∙ zero-mul (2 ^ v.backoffs) in
        omega (arith, zero', below)
    by false = refl

-- from 26 doublings on, an error reaches the limit
cut_error : (rto grain n : ℕ) → min (rto + 5 * grain * 2 ^ min n 26) longest_rto ≡ min (rto + 5 * grain * 2 ^ n) longest_rto
cut_error rto zero n =
    ap (λ (e : ℕ). min (rto + e) longest_rto) (zero-mul (2 ^ min n 26)) ∙ ap (λ (e : ℕ). min (rto + e) longest_rto) (sym (zero-mul (2 ^ n)))
cut_error rto (suc grain) n = by (nat_le n 26) refl
  where
    great : (m : ℕ) → 26 ≤ m → longest_rto ≤ 5 * suc grain * 2 ^ m
    great m high =
        let power : 2 ^ 26 ≤ 2 ^ m = pow_mono high in
        let times : 1 * 2 ^ 26 ≤ 5 * suc grain * 2 ^ m = mul-le 1 (2 ^ 26) (5 * suc grain) (2 ^ m) (omega arith) power in
        omega (arith, times)

    by : (b : Bool) → nat_le n 26 ≡ b
        → min (rto + 5 * suc grain * 2 ^ min n 26) longest_rto ≡ min (rto + 5 * suc grain * 2 ^ n) longest_rto
    by true low =
        let le : n ≤ 26 = grind (arith, nat_tests, low) in
        let same : min n 26 ≡ n = omega (arith, le) in
        ap (λ (m : ℕ). min (rto + 5 * suc grain * 2 ^ m) longest_rto) same
    by false high =
        let ge : 26 ≤ n = grind (arith, nat_tests, high) in
        let cut = great (min n 26) (omega (arith, ge)) in
        let full = great n ge in
        omega (arith, cut, full)

-- in version 6
pub strict_run : (h : Header) (v : View) → says_sender h.version ≡ true → longest_coarse_run h.grain v ≡ run_time h v
strict_run h v six = by (is_some v.timers.srtt)
  where
    by : (b : Bool) → (if b then min (v.timers.rto + doubled_error h.grain v.backoffs) longest_rto else 3 * v.timers.rto)
        ≡ (if b then min (v.timers.rto + clock_error h * 2 ^ v.backoffs) longest_rto else 3 * v.timers.rto)
    by true =
        cut_error v.timers.rto h.grain v.backoffs
        ∙ ap (λ (b : Bool). min (v.timers.rto + (if b then 5 * h.grain else 0) * 2 ^ v.backoffs) longest_rto) (sym six)
    by false = refl

-- ---- what restarts it

-- what duties test is what the law says
pub builds_oldest : (event as_seen : Event) → AsSeen event as_seen → (before : View) → rebuilds_oldest as_seen before ≡ true → BuildsOldest event before
builds_oldest event as_seen like before is =
    by event (sym (as_event (λ (e : Event). rebuilds_oldest as_seen before ≡ rebuilds_oldest e before) (λ asks now unlimited q. q) event as_seen like refl)
    ∙ is)
  where
    by : (event : Event) → rebuilds_oldest event before ≡ true → BuildsOldest event before
    by (Builds m) is =
        let a = both_true (nat_lt before.snd_una before.snd_max && nat_le m.pos before.snd_una && nat_lt before.snd_una (m.pos + making_length m))
        (not (is_fin_alone m before)) is in
        let b = both_true (nat_lt before.snd_una before.snd_max && nat_le m.pos before.snd_una) (nat_lt before.snd_una (m.pos + making_length m)) a.0 in
        let c = both_true (nat_lt before.snd_una before.snd_max) (nat_le m.pos before.snd_una) b.0 in
        let some : before.snd_una < before.snd_max = grind (arith, nat_tests, c.0) in
        let low : m.pos ≤ before.snd_una = grind (arith, nat_tests, c.1) in
        let high : before.snd_una < m.pos + making_length m = grind (arith, nat_tests, b.1) in (
          some,
          low,
          high,
          λ alone.
              let old : nat_lt m.pos before.snd_max ≡ true = grind (arith, nat_tests, some, low) in
              let empty : (m.len == 0) ≡ true = number_self m.len 0 alone.1 in
              true_false (λ i. alone.0 i && empty i && old i) (not_true (is_fin_alone m before) a.1),
        )
    by event is = absurd cc
