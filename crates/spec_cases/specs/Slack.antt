-- The slack: the greater it is, the more is accepted; with `any` everything is, but for what a segment shows that isn't
-- true.
use Rattle.std.specs.Prelude.{◌≡◌, ◌≤◌, ℕ, suc, Bool, false, if◌then◌else◌, List, [], ◌∷◌, Option, None, Some}
use Rattle.std.specs.List.{AllByRecursion}
use Rattle.case_forms.specs.declared.calls.Host.{Host}
use Rattle.case_forms.specs.declared.trace.Header.{Header}
use Rattle.verdict.specs.Rules.{first_broken}
use Rattle.spec_network.specs.Hosts.{Stamped, World}
use Rattle.spec_network.specs.Tables.{pick}
use Rattle.spec_tcp.specs.Machine.{tcp_shape}
use Rattle.spec_duties.specs.Credits.{is_credit_from}
use Rattle.spec_duties.specs.Watching.{Duties, untrue_rules}
use Rattle.spec_flights.specs.Flights.{Flights, judges}
use Rattle.spec_cases.specs.Cases.{Known, Dutiful, judged_rules, late_at_end, noted_by}
use Rattle.spec_duties.specs.declared.observations.Observation.{Observation}
use Rattle.spec_duties.specs.declared.observations.Untruth.{Untruth}

-- the same header with another slack
abbrev pub with_slack : Option ℕ → Header → Header
with_slack slack h = record h { slack = slack }

-- a slack is at most another; none, which is `any`, is the greatest
abbrev pub AtMost : Option ℕ → Option ℕ → Type 0
AtMost less None = Unit {0}
AtMost None (Some more) = ⊥
AtMost (Some less) (Some more) = less ≤ more

-- how many credits an endpoint earned from a moment on and has left
abbrev pub credits_left : (place moment : ℕ) → List ℕ → ℕ
credits_left place moment [] = 0
credits_left place moment (c ∷ credits) =
    if is_credit_from place moment c then suc (credits_left place moment credits)
    else credits_left place moment credits

-- the credits of a host are in order
abbrev pub AreInOrder : List ℕ → Type 0
AreInOrder [] = Unit {0}
AreInOrder (c ∷ credits) = AllByRecursion (λ x. c ≤ x) credits × AreInOrder credits

-- the same is kept but for credits: of each endpoint at least as many are left, from each moment on
pub record HasMoreCredits (few many : Duties) : Type 0 where
  pub same : many ≡ record few { credits = many.credits }
  pub left : (host : Host) (place moment : ℕ)
      → credits_left place moment (pick few.credits host) ≤ credits_left place moment (pick many.credits host)
  pub order : (host : Host) → AreInOrder (pick many.credits host)

-- with a greater slack, no step is refused that wasn't before, and nothing is late at the end that wasn't before
pub record LessLateIsMoreAccepted (less more : Option ℕ) : Type 0 where
  pub steps : (h : Header) (moment : ℕ) (few many : Duties) (untrue : Option Untruth) (s : Observation)
      → HasMoreCredits few many → first_broken (judged_rules (with_slack less h) moment few untrue s) ≡ None
      → first_broken (judged_rules (with_slack more h) moment many untrue s) ≡ None
  pub end : (h : Header) (moment : ℕ) (w : World tcp_shape) (fs : Flights) (few many : Duties) → HasMoreCredits few many
      → late_at_end (with_slack less h) moment (record { model = w; flights = fs; duties = few }) ≡ None
      → late_at_end (with_slack more h) moment (record { model = w; flights = fs; duties = many }) ≡ None

-- what is kept after a step that isn't refused depends on the slack in credits alone: with a greater slack, a segment
-- takes one that is as old or older, so at least as many are left
abbrev pub SlackIsHardlyNoted : Type 0
SlackIsHardlyNoted =
    (h : Header) (less more moment : ℕ) (w : World tcp_shape) (untrue : Option Untruth) (s : Observation)
    (few many : Duties) → less ≤ more → HasMoreCredits few many
    → first_broken (judged_rules (with_slack (Some less) h) moment few untrue s) ≡ None
    → HasMoreCredits (noted_by (with_slack (Some less) h) moment w s few)
    (noted_by (with_slack (Some more) h) moment w s many)

-- without a slack no duty is judged but that what a segment shows is true, and nothing but the model where data in
-- flight isn't judged, either
pub record NothingIsJudged : Type 0 where
  pub rules : (h : Header) (moment : ℕ) (d : Duties) (untrue : Option Untruth) (s : Observation) → h.slack ≡ None
      → judged_rules h moment d untrue s ≡ untrue_rules untrue
  pub runs : (h : Header) (k : Known) (xs : List (Stamped tcp_shape)) → h.slack ≡ None → judges h ≡ false
      → Dutiful h k xs
  pub end : (h : Header) (moment : ℕ) (k : Known) → h.slack ≡ None → late_at_end h moment k ≡ None
