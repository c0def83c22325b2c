-- The steps of a witness that explains a trace, by their places: what is known after each, and that none is refused.
use Rattle.std.proofs.Common.{◌≡◌, ℕ, zero, suc, ◌<◌, ◌≤◌, List, [], ◌∷◌, Option, Some, None, refl, ap, sym, subst, ◌∙◌}
use Rattle.std.specs.Prelude.{slice_get, take}
use Rattle.std.specs.List.{cons_option}
use Rattle.std.specs.Option.{option_map, option_map_or}
use Rattle.std.proofs.lemmas.Option.{none-some, same_Some, slice_get-map}
use Rattle.case_forms.specs.declared.steps.Step.{Step}
use Rattle.case_forms.specs.declared.steps.Witness.{Witness}
use Rattle.case_forms.specs.Traces.{line_at}
use Rattle.case_forms.specs.declared.trace.Header.{Header}
use Rattle.case_forms.specs.declared.trace.Line.{Line}
use Rattle.case_forms.specs.declared.trace.Trace.{Trace}
use Rattle.verdict.specs.Rules.{first_broken}
use Rattle.interval_order.specs.Placed.{Placed}
use Rattle.spec_network.specs.HostRules.{Permitted}
use Rattle.spec_network.specs.HostSteps.{Lawful}
use Rattle.spec_network.specs.Hosts.{Stamped}
use Rattle.spec_network.specs.Hosts as network
use Rattle.spec_tcp.specs.Machine.{tcp, tcp_shape}
use Rattle.spec_tcp.specs.Steps.{label_step}
use Rattle.spec_cases.specs.Cases.{Dutiful, Known, first_known, known_after, known_after_all, watch_rules}
use Rattle.checker.specs.Seen.{act_of, move_of, moves, stamped}
use Rattle.kept_duties.specs.Happens.{act_at, known_before}
use Rattle.kept_calls.specs.Awaiting.{IsAt}

module _ (h : Header) (lines : List Line) where
  abbrev next_known : Known → Option (Stamped tcp_shape) → Known
  next_known k act = option_map_or (λ x. known_after h x.moment k x.step) act k

  cons_known : (k : Known) (act : Option (Stamped tcp_shape)) (rest : List (Stamped tcp_shape))
      → known_after_all h k (cons_option act rest) ≡ known_after_all h (next_known k act) rest
  cons_known k None rest = refl
  cons_known k (Some x) rest = refl

  abbrev act_in : List Step → ℕ → Option (Stamped tcp_shape)
  act_in steps place = option_map_or (act_of h lines) (slice_get steps place) None

  abbrev known_from : Known → List Step → ℕ → Known
  known_from k steps place = known_after_all h k (stamped h lines (take place steps))

  known_next : (k : Known) (steps : List Step) (place : ℕ)
      → known_from k steps (suc place) ≡ next_known (known_from k steps place) (act_in steps place)
  known_next k [] zero = refl
  known_next k [] (suc place) = refl
  known_next k (s ∷ steps) zero = cons_known k (act_of h lines s) []
  known_next k (s ∷ steps) (suc place) =
      cons_known k (act_of h lines s) (stamped h lines (take (suc place) steps))
      ∙ known_next (next_known k (act_of h lines s)) steps place
      ∙ ap (λ (m : Known). next_known m (act_in steps place)) (sym (cons_known k (act_of h lines s) (stamped h lines (take place steps))))

  abbrev Keeps : Known → List (Stamped tcp_shape) → Type 0
  Keeps k xs = Lawful (tcp h) k.model xs × Dutiful h k xs

  abbrev Unbroken : Known → Stamped tcp_shape → Type 0
  Unbroken k x = Permitted (tcp h) x.moment k.model x.step × (first_broken (watch_rules h x.moment k x.step) ≡ None)

  keeps_rest : (k : Known) (act : Option (Stamped tcp_shape)) (rest : List (Stamped tcp_shape)) → Keeps k (cons_option act rest)
      → Keeps (next_known k act) rest
  keeps_rest k None rest may = may
  keeps_rest k (Some x) rest may = (may.0.1, may.1.1)

  keeps_first : (k : Known) (act : Option (Stamped tcp_shape)) (rest : List (Stamped tcp_shape)) → Keeps k (cons_option act rest)
      → (x : Stamped tcp_shape) → act ≡ Some x → Unbroken k x
  keeps_first k None rest may x is = absurd (none-some x is)
  keeps_first k (Some y) rest may x is = subst (Unbroken k) (same_Some y x is) (may.0.0, may.1.0.duties)

  keeps_at : (k : Known) (steps : List Step) → Keeps k (stamped h lines steps) → (place : ℕ) (x : Stamped tcp_shape)
      → act_in steps place ≡ Some x → Unbroken (known_from k steps place) x
  keeps_at k [] may place x is = absurd (none-some x is)
  keeps_at k (s ∷ steps) may zero x is = keeps_first k (act_of h lines s) (stamped h lines steps) may x is
  keeps_at k (s ∷ steps) may (suc place) x is =
      subst (λ (m : Known). Unbroken m x) (sym (cons_known k (act_of h lines s) (stamped h lines (take place steps))))
      (keeps_at (next_known k (act_of h lines s)) steps (keeps_rest k (act_of h lines s) (stamped h lines steps) may) place x is)

-- a step that does something in the model
pub record Acts (t : Trace) (w : Witness) (place : ℕ) (x : Stamped tcp_shape) : Type 0 where
  pub next : known_before t w (suc place) ≡ known_after t.header x.moment (known_before t w place) x.step
  pub permitted : Permitted (tcp t.header) x.moment (known_before t w place).model x.step
  pub unbroken : first_broken (watch_rules t.header x.moment (known_before t w place) x.step) ≡ None

module _ (t : Trace) (w : Witness) where
  pub acts : Lawful (tcp t.header) (first_known t.header).model (stamped t.header t.lines w.steps)
      → Dutiful t.header (first_known t.header) (stamped t.header t.lines w.steps)
      → (place : ℕ) (x : Stamped tcp_shape) → act_at t w place ≡ Some x → Acts t w place x
  acts lawful dutiful place x is =
      let may = keeps_at t.header t.lines (first_known t.header) w.steps (lawful, dutiful) place x is in
      record {
        next =
            known_next t.header t.lines (first_known t.header) w.steps place ∙ ap (next_known t.header t.lines (known_before t w place)) is;
        permitted = may.0;
        unbroken = may.1;
      }

  -- one that does nothing in it
  pub nothing_done : (place : ℕ) → act_at t w place ≡ None → known_before t w (suc place) ≡ known_before t w place
  nothing_done place is =
      known_next t.header t.lines (first_known t.header) w.steps place ∙ ap (next_known t.header t.lines (known_before t w place)) is

  -- the step of an act, and the act of a step
  pub is_at : (place : ℕ) (x : Stamped tcp_shape) → act_at t w place ≡ Some x → IsAt w place x.moment
  is_at place x is = by (slice_get w.steps place) refl is
    where
      at : (s : Step) (o : Option (network.Step tcp_shape)) → slice_get w.steps place ≡ Some s
          → option_map (λ step. record { moment = s.moment; step = step }) o ≡ Some x → IsAt w place x.moment
      at s None there one = absurd (none-some x one)
      at s (Some step) there one =
          subst (λ (y : Stamped tcp_shape). IsAt w place y.moment) (same_Some (record { moment = s.moment; step = step }) x one)
          (record { label = s.label; step = record { span = s.span; here = there } })

      by : (o : Option Step) → slice_get w.steps place ≡ o → option_map_or (act_of t.header t.lines) o None ≡ Some x → IsAt w place x.moment
      by None there one = absurd (none-some x one)
      by (Some s) there one = at s (label_step (line_at t.header t.lines) s.label) there one

  -- moments don't fall
  pub moments_rise : Placed t.header t.lines (moves w.steps) → (i j a b : ℕ) → i < j → IsAt w i a → IsAt w j b → a ≤ b
  moments_rise placed i j a b less p q =
      placed.rising i j _ _ (slice_get-map move_of w.steps i ∙ ap (option_map move_of) p.step.here)
      (slice_get-map move_of w.steps j ∙ ap (option_map move_of) q.step.here) less

  -- a step has one moment
  pub one_moment : (i a b : ℕ) → IsAt w i a → IsAt w i b → a ≡ b
  one_moment i a b p q = ap (λ (s : Step). s.moment) (same_Some _ _ (sym p.step.here ∙ q.step.here))
