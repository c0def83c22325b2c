-- Runs of a case with a greater slack: no more is refused, and the same is kept but for credits, of which no less are left.
use Rattle.std.proofs.Common.{◌≡◌, ℕ, ◌≤◌, List, [], ◌∷◌, Option, None, Some, refl, ap, sym, subst, ◌∙◌, arith}
use Rattle.case_forms.specs.declared.calls.Host.{Host}
use Rattle.case_forms.specs.declared.calls.Host.TheVariants.{Zero, One}
use Rattle.case_forms.specs.declared.trace.Header.{Header}
use Rattle.verdict.specs.Rules.{first_broken}
use Rattle.spec_network.specs.HostSteps.{Lawful, after}
use Rattle.spec_network.specs.Hosts.{HostStep, Stamped, Step, World, Does, Expires, Makes, Sends, Gets, Hears, Takes, Drops, Answers, Begin, Finish, Effect, At}
use Rattle.spec_network.specs.Tables.{pick}
use Rattle.spec_tcp.specs.Machine.{tcp, tcp_shape}
use Rattle.duties.proofs.SlackLemmas.{late_any, less_late, nothing_judged, slack_is_hardly_noted, truly_shown}
use Rattle.spec_cases.specs.Cases.{Dutiful, Known, first_known, flown, judged_rules, known_after, known_after_all, late_at_end, noted_by, refused_at}
use Rattle.spec_cases.specs.Cases.{refused_by, shown, shows_untrue, untrue_at, untrue_by, watch_rules}
use Rattle.spec_flights.specs.Flights.{Flights, excused, refusal}
use Rattle.spec_duties.specs.Observations.{observe}
use Rattle.spec_cases.specs.Slack.{AreInOrder, AtMost, HasMoreCredits, credits_left, with_slack}
use Rattle.spec_duties.specs.Watching.{Duties, untrue_rules}
use Rattle.spec_duties.specs.declared.observations.Observation.{Observation}
use Rattle.spec_duties.specs.declared.observations.Untruth.{Untruth}
use Rattle.watched.proofs.SlackLemmas.{after_same, rules_same, observed_same}

-- the model's run is the same
pub lawful_with : (slack : Option ℕ) (h : Header) (w : World tcp_shape) (xs : List (Stamped tcp_shape)) → Lawful (tcp h) w xs
    → Lawful (tcp (with_slack slack h)) w xs
lawful_with slack h w [] may = tt
lawful_with slack h w (x ∷ xs) may = (
  ap first_broken (rules_same slack h x.moment w x.step) ∙ may.0,
  subst (λ (v : World tcp_shape). Lawful (tcp (with_slack slack h)) v xs) (sym (after_same slack h x.moment w x.step))
      (lawful_with slack h (after (tcp h) x.moment w x.step) xs may.1),
)

-- a run with one slack and with another
module _ (x y : Option ℕ) (h : Header) where
  abbrev one : Header
  one = with_slack x h

  abbrev two : Header
  two = with_slack y h

  -- what is known in the one run and in the other: the same world, and the same of data in flight
  record IsSame (few many : Known) : Type 0 where
    model : many.model ≡ few.model
    flights : many.flights ≡ few.flights

  seen : (moment : ℕ) (few many : Known) (step : Step tcp_shape) → IsSame few many → observe two moment many.model step ≡ observe one moment few.model step
  seen moment few many step same =
      ap (λ (w : World tcp_shape). observe two moment w step) same.model
      ∙ observed_same y h moment few.model step ∙ sym (observed_same x h moment few.model step)

  seen_by_duties : (moment : ℕ) (few many : Known) (step : Step tcp_shape) → IsSame few many → shown two moment many step ≡ shown one moment few step
  seen_by_duties moment few many step same =
      ap (λ (fs : Flights). excused two fs (observe two moment many.model step)) same.flights
      ∙ ap (λ (s : Observation). excused two few.flights s) (seen moment few many step same)

  world : (moment : ℕ) (few many : Known) (step : Step tcp_shape) → IsSame few many
      → after (tcp two) moment many.model step ≡ after (tcp one) moment few.model step
  world moment few many step same =
      ap (λ (w : World tcp_shape). after (tcp two) moment w step) same.model
      ∙ after_same y h moment few.model step ∙ sym (after_same x h moment few.model step)

  refused : (moment : ℕ) (few many : Known) (step : Step tcp_shape) → IsSame few many → refused_by two moment many step ≡ refused_by one moment few step
  refused moment few many (Begin line t call) same = refl
  refused moment few many (Finish line t answer) same = refl
  refused moment few many (Effect t answer) same = refl
  refused moment few many (At host d) same = at d
    where
      by : (d : HostStep tcp_shape)
          → refusal two moment many.flights (observe two moment many.model (At host d))
          ≡ refusal one moment few.flights (observe one moment few.model (At host d))
      by d =
          ap (λ (fs : Flights). refusal two moment fs (observe two moment many.model (At host d))) same.flights
          ∙ ap (λ (s : Observation). refusal two moment few.flights s) (seen moment few many (At host d) same)

      at : (d : HostStep tcp_shape) → refused_at two moment many host d ≡ refused_at one moment few host d
      at (Makes m) = by (Makes m)
      at (Does x) = by (Does x)
      at (Expires line x) = by (Expires line x)
      at (Sends line number wire) = refl
      at (Gets line copied wire) = refl
      at (Hears line wire) = refl
      at (Takes line how) = refl
      at (Drops line) = refl
      at (Answers line) = refl

  untrue_too : (moment : ℕ) (few many : Known) (step : Step tcp_shape) → IsSame few many
      → untrue_at two moment many step ≡ untrue_at one moment few step
  untrue_too moment few many (Begin line t call) same = refl
  untrue_too moment few many (Finish line t answer) same = refl
  untrue_too moment few many (Effect t answer) same = refl
  untrue_too moment few many (At host d) same = at d
    where
      at : (d : HostStep tcp_shape) → untrue_by two moment many host d ≡ untrue_by one moment few host d
      at (Sends line number wire) =
          ap (shows_untrue two many.flights host (pick many.model.hosts host) number wire) (seen moment few many (At host (Sends line number wire)) same)
          ∙ ap (λ (w : World tcp_shape). shows_untrue one many.flights host (pick w.hosts host) number wire
          (observe one moment few.model (At host (Sends line number wire)))) same.model
          ∙ ap (λ (fs : Flights). shows_untrue one fs host (pick few.model.hosts host) number wire
          (observe one moment few.model (At host (Sends line number wire)))) same.flights
      at (Does x) = refl
      at (Makes m) = refl
      at (Expires line x) = refl
      at (Gets line copied wire) = refl
      at (Hears line wire) = refl
      at (Takes line how) = refl
      at (Drops line) = refl
      at (Answers line) = refl

  same_after : (moment : ℕ) (few many : Known) (step : Step tcp_shape) → IsSame few many
      → IsSame (known_after one moment few step) (known_after two moment many step)
  same_after moment few many step same = record {
    model = world moment few many step same;
    flights =
        ap (λ (fs : Flights). flown two moment (after (tcp two) moment many.model step) (observe two moment many.model step) fs) same.flights
        ∙ ap (λ (w : World tcp_shape). flown two moment w (observe two moment many.model step) few.flights) (world moment few many step same)
        ∙ ap (λ (s : Observation). flown two moment (after (tcp one) moment few.model step) s few.flights) (seen moment few many step same);
  }

-- without a slack, no duty is judged
dutiful_none : (x : Option ℕ) (h : Header) (few many : Known) (xs : List (Stamped tcp_shape)) → IsSame x None h few many
    → Dutiful (with_slack x h) few xs → Dutiful (with_slack None h) many xs
dutiful_none x h few many [] same kept = tt
dutiful_none x h few many (s ∷ xs) same kept = (
  record {
    duties =
        ap first_broken
        (nothing_judged (with_slack None h) s.moment many.duties (untrue_at (with_slack None h) s.moment many s.step)
        (shown (with_slack None h) s.moment many s.step) refl)
        ∙ ap (λ (o : Option Untruth). first_broken (untrue_rules o))
        (untrue_too x None h s.moment few many s.step same
        ∙ truly_shown (with_slack x h) s.moment few.duties (untrue_at (with_slack x h) s.moment few s.step)
        (shown (with_slack x h) s.moment few s.step) kept.0.duties);
    flights = refused x None h s.moment few many s.step same ∙ kept.0.flights;
  },
  dutiful_none x h (known_after (with_slack x h) s.moment few s.step) (known_after (with_slack None h) s.moment many s.step) xs
      (same_after x None h s.moment few many s.step same) kept.1,
)

-- two slacks, the second not smaller
module _ (less more : ℕ) (le : less ≤ more) (h : Header) where
  abbrev a : Header
  a = with_slack (Some less) h

  abbrev b : Header
  b = with_slack (Some more) h

  -- what is known in the one run and in the other: the same duties, too, but for credits
  record IsAlike (few many : Known) : Type 0 where
    same : IsSame (Some less) (Some more) h few many
    duties : HasMoreCredits few.duties many.duties

  watch_passes : (moment : ℕ) (few many : Known) (step : Step tcp_shape) → IsAlike few many → first_broken (watch_rules a moment few step) ≡ None
      → first_broken (watch_rules b moment many step) ≡ None
  watch_passes moment few many step alike e =
      ap (λ (s : Observation). first_broken (judged_rules b moment many.duties (untrue_at b moment many step) s))
      (seen_by_duties (Some less) (Some more) h moment few many step alike.same)
      ∙ ap (λ (o : Option Untruth). first_broken (judged_rules b moment many.duties o (shown a moment few step)))
      (untrue_too (Some less) (Some more) h moment few many step alike.same)
      ∙ (less_late (Some less) (Some more) le).steps h moment few.duties many.duties (untrue_at a moment few step) (shown a moment few step) alike.duties e

  known_alike : (moment : ℕ) (few many : Known) (step : Step tcp_shape) → IsAlike few many → first_broken (watch_rules a moment few step) ≡ None
      → IsAlike (known_after a moment few step) (known_after b moment many step)
  known_alike moment few many step alike e = record {
    same = same_after (Some less) (Some more) h moment few many step alike.same;
    duties =
        subst (λ (d : Duties). HasMoreCredits (noted_by a moment (after (tcp a) moment few.model step) (shown a moment few step) few.duties) d)
        (sym noted)
        (slack_is_hardly_noted h less more moment (after (tcp a) moment few.model step) (untrue_at a moment few step) (shown a moment few step) few.duties
        many.duties le
        alike.duties e);
  }
    where
      noted : noted_by b moment (after (tcp b) moment many.model step) (shown b moment many step) many.duties
          ≡ noted_by b moment (after (tcp a) moment few.model step) (shown a moment few step) many.duties
      noted =
          ap (λ (w : World tcp_shape). noted_by b moment w (shown b moment many step) many.duties)
          (world (Some less) (Some more) h moment few many step alike.same)
          ∙ ap (λ (s : Observation). noted_by b moment (after (tcp a) moment few.model step) s many.duties)
          (seen_by_duties (Some less) (Some more) h moment few many step alike.same)

  dutiful_more : (few many : Known) (xs : List (Stamped tcp_shape)) → IsAlike few many → Dutiful a few xs → Dutiful b many xs
  dutiful_more few many [] alike kept = tt
  dutiful_more few many (x ∷ xs) alike kept = (
    record {
      duties = watch_passes x.moment few many x.step alike kept.0.duties;
      flights = refused (Some less) (Some more) h x.moment few many x.step alike.same ∙ kept.0.flights;
    },
    dutiful_more (known_after a x.moment few x.step) (known_after b x.moment many x.step) xs
        (known_alike x.moment few many x.step alike kept.0.duties) kept.1,
  )

  known_more : (few many : Known) (xs : List (Stamped tcp_shape)) → IsAlike few many → Dutiful a few xs
      → IsAlike (known_after_all a few xs) (known_after_all b many xs)
  known_more few many [] alike kept = alike
  known_more few many (x ∷ xs) alike kept =
      known_more (known_after a x.moment few x.step) (known_after b x.moment many x.step) xs (known_alike x.moment few many x.step alike kept.0.duties)
      kept.1

  -- both begin alike
  alike_first : IsAlike (first_known h) (first_known h)
  alike_first = record {
    same = record { model = refl; flights = refl };
    duties = record { same = refl; left = λ host place moment. none host place moment; order = order };
  }
    where
      none : (host : Host) (place moment : ℕ)
          → credits_left place moment (pick (first_known h).duties.credits host) ≤ credits_left place moment (pick (first_known h).duties.credits host)
      none host place moment = omega arith

      order : (host : Host) → AreInOrder (pick (first_known h).duties.credits host)
      order Zero = tt
      order One = tt

  end_more : (moment : ℕ) (few many : Known) → IsAlike few many → late_at_end a moment few ≡ None → late_at_end b moment many ≡ None
  end_more moment few many alike none =
      ap (λ (w : World tcp_shape). late_at_end b moment (record { model = w; flights = many.flights; duties = many.duties })) alike.same.model
      ∙ (less_late (Some less) (Some more) le).end h moment few.model many.flights few.duties many.duties alike.duties none

-- the case with a greater slack, or without one
pub dutiful_with : (less more : Option ℕ) (h : Header) (xs : List (Stamped tcp_shape)) → AtMost less more
    → Dutiful (with_slack less h) (first_known h) xs → Dutiful (with_slack more h) (first_known h) xs
dutiful_with less None h xs at kept =
    dutiful_none less h (first_known h) (first_known h) xs
    (let same : IsSame less None h (first_known h) (first_known h) = record { model = refl; flights = refl } in same)
    kept
dutiful_with None (Some more) h xs at kept = absurd at
dutiful_with (Some less) (Some more) h xs at kept =
    dutiful_more less more at h (first_known h) (first_known h) xs (alike_first less more at h) kept

pub end_with : (less more : Option ℕ) (h : Header) (xs : List (Stamped tcp_shape)) (moment : ℕ) → AtMost less more
    → Dutiful (with_slack less h) (first_known h) xs
    → late_at_end (with_slack less h) moment (known_after_all (with_slack less h) (first_known h) xs) ≡ None
    → late_at_end (with_slack more h) moment (known_after_all (with_slack more h) (first_known h) xs) ≡ None
end_with less None h xs moment at kept none = late_any (with_slack None h) moment (known_after_all (with_slack None h) (first_known h) xs) refl
end_with None (Some more) h xs moment at kept none = absurd at
end_with (Some less) (Some more) h xs moment at kept none =
    end_more less more at h moment (known_after_all (with_slack (Some less) h) (first_known h) xs)
    (known_after_all (with_slack (Some more) h) (first_known h) xs)
    (known_more less more at h (first_known h) (first_known h) xs (alike_first less more at h) kept) none
