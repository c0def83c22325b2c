-- In a run the calls of each thread take turns.
use Rattle.std.proofs.Common.{◌≡◌, ℕ, false, List, [], ◌∷◌, None, refl, ap, sym, subst, ◌∙◌}
use Rattle.std.specs.Prelude.{if◌then◌else◌, nat_eq}
use Rattle.std.proofs.lemmas.Option.{none-some}
use Rattle.verdict.specs.declared.rule.Rule.TheVariants as rules
use Rattle.verdict.specs.Rules.{first_broken}
use Rattle.verdict.proofs.RuleLemmas.{none_all}
use Rattle.spec_network.specs.Tables.{Both}
use Rattle.spec_network.specs.Hosts.{HostState, Answered, At, Begin, Called, Effect, Finish, Idle, Kernel, Stamped, Step, Turn, World, turn_of}
use Rattle.spec_network.specs.HostRules.{Permitted, aim_of, begin_rules, call_rules, effect_rules, end_rules, just}
use Rattle.spec_network.specs.HostSteps.{Lawful, after, effect_after}
use Rattle.spec_network.specs.Turns.{TakesTurn, Turns}
use Rattle.spec_network.proofs.Entries.{turn_insert}

-- what it takes that an effect is permitted: the call is open, and its own rules pass
pub effect_passes : (k : Kernel) (s : ℕ) (hosts : Both (HostState k.shape)) (u : Turn k.shape) (answer : k.shape.Answer)
    → first_broken (effect_rules k s hosts u answer) ≡ None
    → (call : k.shape.Call) × (u ≡ Called call) × (first_broken (call_rules k s hosts call answer (aim_of k hosts (k.aim call))) ≡ None)
effect_passes k s hosts Idle answer p = absurd (none-some rules.NoCall (sym p))
effect_passes k s hosts (Called call) answer p = (call, refl, p)
effect_passes k s hosts (Answered given) answer p = absurd (none-some rules.DoneTwice (sym p))

-- turns go on from a turn that is the same
turns_as : (k : Kernel) (t : ℕ) (xs : List (Stamped k.shape)) (u v : Turn k.shape) → u ≡ v → Turns k t u xs → Turns k t v xs
turns_as k t xs u v e = subst (λ (u : Turn k.shape). Turns k t u xs) e

-- a call begins in no other
begins : (k : Kernel) (u : Turn k.shape) → first_broken (begin_rules u) ≡ None → u ≡ Idle
begins k Idle p = refl
begins k (Called c) p = absurd (none-some rules.ThreadBusy (sym p))
begins k (Answered a) p = absurd (none-some rules.ThreadBusy (sym p))

-- it ends with the answer of its effect
ends : (k : Kernel) (u : Turn k.shape) (a : k.shape.Answer) → first_broken (end_rules k.differs u a) ≡ None
    → (b : k.shape.Answer) × (u ≡ Answered b) × (k.differs b a ≡ false)
ends k Idle a p = absurd (none-some rules.NoCall (sym p))
ends k (Called c) a p = absurd (none-some rules.AnswerDiffers (sym p))
ends k (Answered b) a p = (b, refl, (none_all (just rules.AnswerDiffers (k.differs b a)) p).0)

-- an effect leaves its thread answered, and the others as they were
turn_effect : (k : Kernel) (t : ℕ) (w : World k.shape) (s n : ℕ) (a : k.shape.Answer) → Permitted k s w (Effect n a)
    → turn_of t (after k s w (Effect n a)).threads ≡ (if nat_eq t n then Answered a else turn_of t w.threads)
turn_effect k t w s n a p = let o = effect_passes k s w.hosts (turn_of n w.threads) a p in
    ap (λ (u : Turn k.shape). turn_of t (effect_after k s w n a u).threads) o.1 ∙ turn_insert k t n (Answered a) w.threads

-- in a run the calls of each thread take turns
pub turns : (k : Kernel) (t : ℕ) (w : World k.shape) (xs : List (Stamped k.shape)) → Lawful k w xs → Turns k t (turn_of t w.threads) xs
turns k t w [] may = tt
turns k t w (x ∷ xs) may = go x.moment x.step may.0 (turns k t (after k x.moment w x.step) xs may.1)
  where
    go : (s : ℕ) (step : Step k.shape) → Permitted k s w step → Turns k t (turn_of t (after k s w step).threads) xs
        → TakesTurn k t (turn_of t w.threads) step (λ u. Turns k t u xs)
    go s (Begin line n c) p rest = (
      λ is. begins k (turn_of t w.threads) (subst (λ (v : ℕ). first_broken (begin_rules (turn_of v w.threads)) ≡ None) (sym is) p),
      turns_as k t xs _ _ (turn_insert k t n (Called c) w.threads) rest,
    )
    go s (Finish line n a) p rest = (
      λ is. ends k (turn_of t w.threads) a (subst (λ (v : ℕ). first_broken (end_rules k.differs (turn_of v w.threads) a) ≡ None) (sym is) p),
      turns_as k t xs _ _ (turn_insert k t n Idle w.threads) rest,
    )
    go s (Effect n a) p rest = (
      λ is. let o = effect_passes k s w.hosts (turn_of n w.threads) a p in (o.0, ap (λ (v : ℕ). turn_of v w.threads) is ∙ o.1),
      turns_as k t xs _ _ (turn_effect k t w s n a p) rest,
    )
    go s (At side d) p rest = rest
