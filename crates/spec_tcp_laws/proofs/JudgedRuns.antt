-- Runs where less of congestion control is judged.
use Rattle.std.proofs.Common.{◌≡◌, ℕ, suc, ◌≤◌, List, [], ◌∷◌, Option, None, Some, refl, sym, ap, subst, ◌∙◌}
use Rattle.std.specs.Option.{option_map_or}
use Rattle.std.proofs.lemmas.Option.{none-some}
use Rattle.case_forms.specs.Traces.{line_at}
use Rattle.case_forms.specs.declared.steps.Step as witness
use Rattle.case_forms.specs.declared.trace.Header.{Header}
use Rattle.case_forms.specs.declared.trace.Line as lines
use Rattle.case_forms.specs.declared.version.Judged.{Judged}
use Rattle.verdict.specs.Rules.{first_broken}
use Rattle.verdict.specs.declared.rule.Rule.{Rule}
use Rattle.spec_network.specs.HostRules.{Permitted, step_rules}
use Rattle.spec_network.specs.HostSteps.{Lawful, after, after_all, start}
use Rattle.spec_network.specs.Hosts.{Stamped, Step, World}
use Rattle.spec_tcp.specs.Machine.{tcp, tcp_shape}
use Rattle.spec_tcp.specs.Steps.{broken_from, label_step, rule_broken, world_after}
use Rattle.spec_tcp_laws.specs.Judging.{IsJudged, extent, header_by, world_judged}
use Rattle.spec_tcp_laws.proofs.JudgedWorlds.{after_kept, step_passes}
use Rattle.spec_tcp_laws.proofs.Limited.{limited_start, limited_step}
use Rattle.spec_tcp_laws.proofs.Profiles.{named_start, named_step}

pub judged_start : (h : Header) → IsJudged h (start (tcp h))
judged_start h = record { profiles = named_start h; values = limited_start h }

pub judged_step : (h : Header) (moment : ℕ) (w : World tcp_shape) (step : Step tcp_shape) → IsJudged h w → Permitted (tcp h) moment w step
    → IsJudged h (after (tcp h) moment w step)
judged_step h moment w step is may = record { profiles = named_step h moment w step is.profiles may; values = limited_step h moment w step is.values may }

pub lawful_by : (j : Judged) (h : Header) (w : World tcp_shape) (steps : List (Stamped tcp_shape)) → extent j ≤ extent h.congestion → IsJudged h w
    → Lawful (tcp h) w steps
    → Lawful (tcp (header_by j h)) (world_judged j h w) steps
lawful_by j h w [] le is may = tt
lawful_by j h w (x ∷ xs) le is may = (
  step_passes j h x.moment w x.step le is may.0,
  subst (λ (v : World tcp_shape). Lawful (tcp (header_by j h)) v xs) (sym (after_kept j h x.moment w x.step))
      (lawful_by j h (after (tcp h) x.moment w x.step) xs le (judged_step h x.moment w x.step is may.0) may.1),
)

pub ends_by : (j : Judged) (h : Header) (w : World tcp_shape) (steps : List (Stamped tcp_shape))
    → after_all (tcp (header_by j h)) (world_judged j h w) steps ≡ world_judged j h (after_all (tcp h) w steps)
ends_by j h w [] = refl
ends_by j h w (x ∷ xs) =
    ap (λ (v : World tcp_shape). after_all (tcp (header_by j h)) v xs) (after_kept j h x.moment w x.step) ∙ ends_by j h (after (tcp h) x.moment w x.step) xs

-- steps of a witness
rule_by : (j : Judged) (h : Header) (all : List lines.Line) (w : World tcp_shape) (s : witness.Step) → extent j ≤ extent h.congestion → IsJudged h w
    → rule_broken h all w s ≡ None
    → rule_broken (header_by j h) all (world_judged j h w) s ≡ None
rule_by j h all w s le is may = by (label_step (line_at h all) s.label) may
  where
    by : (o : Option (Step tcp_shape)) → option_map_or (λ step. first_broken (step_rules (tcp h) s.moment w step)) o None ≡ None
        → option_map_or (λ step. first_broken (step_rules (tcp (header_by j h)) s.moment (world_judged j h w) step)) o None ≡ None
    by None may = refl
    by (Some step) may = step_passes j h s.moment w step le is may

world_by_step : (j : Judged) (h : Header) (all : List lines.Line) (w : World tcp_shape) (s : witness.Step)
    → world_after (header_by j h) all (world_judged j h w) s ≡ world_judged j h (world_after h all w s)
world_by_step j h all w s = by (label_step (line_at h all) s.label)
  where
    by : (o : Option (Step tcp_shape)) → option_map_or (λ step. after (tcp (header_by j h)) s.moment (world_judged j h w) step) o (world_judged j h w)
        ≡ world_judged j h (option_map_or (λ step. after (tcp h) s.moment w step) o w)
    by None = refl
    by (Some step) = after_kept j h s.moment w step

judged_after : (h : Header) (all : List lines.Line) (w : World tcp_shape) (s : witness.Step) → IsJudged h w → rule_broken h all w s ≡ None
    → IsJudged h (world_after h all w s)
judged_after h all w s is may = by (label_step (line_at h all) s.label) may
  where
    by : (o : Option (Step tcp_shape)) → option_map_or (λ step. first_broken (step_rules (tcp h) s.moment w step)) o None ≡ None
        → IsJudged h (option_map_or (λ step. after (tcp h) s.moment w step) o w)
    by None may = is
    by (Some step) may = judged_step h s.moment w step is may

-- a rule that is broken here is the first
unbroken : (place : ℕ) (o : Option Rule) (rest : Option (ℕ × Rule)) → option_map_or (λ rule. Some (place, rule)) o rest ≡ None → (o ≡ None) × (rest ≡ None)
unbroken place None rest is = (refl, is)
unbroken place (Some rule) rest is = absurd (none-some (place, rule) (sym is))

pub unbroken_by : (j : Judged) (h : Header) (all : List lines.Line) (w : World tcp_shape) (place : ℕ) (steps : List witness.Step)
    → extent j ≤ extent h.congestion → IsJudged h w
    → broken_from h all w place steps ≡ None → broken_from (header_by j h) all (world_judged j h w) place steps ≡ None
unbroken_by j h all w place [] le is may = refl
unbroken_by j h all w place (s ∷ steps) le is may =
    let parts = unbroken place (rule_broken h all w s) (broken_from h all (world_after h all w s) (suc place) steps) may in
    let rest = unbroken_by j h all (world_after h all w s) (suc place) steps le (judged_after h all w s is parts.0) parts.1 in
    rw (rule_by j h all w s le is parts.0) (
    subst (λ (v : World tcp_shape). broken_from (header_by j h) all v (suc place) steps ≡ None) (sym (world_by_step j h all w s)) rest
    )
