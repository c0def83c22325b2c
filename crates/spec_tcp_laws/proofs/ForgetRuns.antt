-- Runs that forget after each step.
use Rattle.std.proofs.Common.{◌≡◌, ℕ, suc, List, [], ◌∷◌, Option, None, Some, refl, sym, ap, subst, ◌∙◌}
use Rattle.std.specs.Option.{option_map_or}
use Rattle.case_forms.specs.declared.trace.Header.{Header}
use Rattle.case_forms.specs.declared.trace.Line as lines
use Rattle.case_forms.specs.declared.steps.Step as witness
use Rattle.case_forms.specs.Traces.{line_at}
use Rattle.verdict.specs.declared.rule.Rule.{Rule}
use Rattle.verdict.specs.Rules.{first_broken}
use Rattle.spec_network.specs.Hosts.{World, Step, Stamped}
use Rattle.spec_network.specs.HostRules.{step_rules}
use Rattle.spec_network.specs.HostSteps.{after, after_all, Lawful}
use Rattle.spec_tcp.specs.Machine.{tcp, tcp_shape}
use Rattle.spec_tcp.specs.Steps.{label_step, rule_broken, world_after, broken_from}
use Rattle.spec_tcp.specs.Forgetting.{forget}
use Rattle.spec_tcp_laws.specs.ForgettingLaws.{kept_run, KeptLawful, kept_broken_from}
use Rattle.spec_tcp_laws.proofs.ForgetWorlds.{step_rules-forget, after-forgets, makes_permitted, world-forget}

pub kept_lawful : (h : Header) (w : World tcp_shape) (steps : List (Stamped tcp_shape)) → Lawful (tcp h) w steps → KeptLawful h (forget w) steps
kept_lawful h w [] ok = tt
kept_lawful h w (x ∷ xs) ok =
    rw (step_rules-forget h x.moment w x.step, after-forgets h x.moment w x.step (makes_permitted h x.moment w x.step ok.0))
    (ok.0, kept_lawful h (after (tcp h) x.moment w x.step) xs ok.1)

pub lawful_kept : (h : Header) (w : World tcp_shape) (steps : List (Stamped tcp_shape)) → KeptLawful h (forget w) steps → Lawful (tcp h) w steps
lawful_kept h w [] ok = tt
lawful_kept h w (x ∷ xs) ok =
    let here : first_broken (step_rules (tcp h) x.moment w x.step) ≡ None = sym (ap first_broken (step_rules-forget h x.moment w x.step)) ∙ ok.0 in
    let same = after-forgets h x.moment w x.step (makes_permitted h x.moment w x.step here) in
    (here, lawful_kept h (after (tcp h) x.moment w x.step) xs (subst (λ (v : World tcp_shape). KeptLawful h v xs) same ok.1))

pub kept_end : (h : Header) (w : World tcp_shape) (steps : List (Stamped tcp_shape)) → Lawful (tcp h) w steps
    → kept_run h (forget w) steps ≡ forget (after_all (tcp h) w steps)
kept_end h w [] ok = refl
kept_end h w (x ∷ xs) ok =
    rw (after-forgets h x.moment w x.step (makes_permitted h x.moment w x.step ok.0)) (kept_end h (after (tcp h) x.moment w x.step) xs ok.1)

rule-forget : (h : Header) (all : List lines.Line) (w : World tcp_shape) (s : witness.Step) → rule_broken h all (forget w) s ≡ rule_broken h all w s
rule-forget h all w s = by (label_step (line_at h all) s.label)
  where
    by : (o : Option (Step tcp_shape))
        → option_map_or (λ step. first_broken (step_rules (tcp h) s.moment (forget w) step)) o None
        ≡ option_map_or (λ step. first_broken (step_rules (tcp h) s.moment w step)) o None
    by None = refl
    by (Some step) = ap first_broken (step_rules-forget h s.moment w step)

world-forgets : (h : Header) (all : List lines.Line) (w : World tcp_shape) (s : witness.Step)
    → rule_broken h all w s ≡ None → forget (world_after h all (forget w) s) ≡ forget (world_after h all w s)
world-forgets h all w s = by (label_step (line_at h all) s.label)
  where
    by : (o : Option (Step tcp_shape)) → option_map_or (λ step. first_broken (step_rules (tcp h) s.moment w step)) o None ≡ None
        → forget (option_map_or (λ step. after (tcp h) s.moment (forget w) step) o (forget w))
        ≡ forget (option_map_or (λ step. after (tcp h) s.moment w step) o w)
    by None ok = world-forget w
    by (Some step) ok = after-forgets h s.moment w step (makes_permitted h s.moment w step ok)

pub kept_breaks : (h : Header) (all : List lines.Line) (w : World tcp_shape) (place : ℕ) (steps : List witness.Step)
    → kept_broken_from h all (forget w) place steps ≡ broken_from h all w place steps
kept_breaks h all w place [] = refl
kept_breaks h all w place (s ∷ steps) =
    rw (rule-forget h all w s) (by (rule_broken h all w s) refl
    (kept_breaks h all (world_after h all w s) (suc place) steps))
  where
    by : (o : Option Rule) → rule_broken h all w s ≡ o
        → kept_broken_from h all (forget (world_after h all w s)) (suc place) steps ≡ broken_from h all (world_after h all w s) (suc place) steps
        → option_map_or (λ rule. Some (place, rule)) o (kept_broken_from h all (forget (world_after h all (forget w) s)) (suc place) steps)
        ≡ option_map_or (λ rule. Some (place, rule)) o (broken_from h all (world_after h all w s) (suc place) steps)
    by (Some rule) is more = refl
    by None is more = rw (world-forgets h all w s is) more
