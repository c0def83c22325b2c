-- What a turn of the loop has come to.
use Rattle.std.proofs.Common.{◌≡◌, ◌≤◌, ◌<◌, ◌+◌, ℕ, List, [], ◌∷◌, ◌++◌, Option, Some, None, Result, IfSome, sym, ap, subst, arith}
use Rattle.std.specs.Prelude.{All, not, ◌==◌, Ok, Err, OnOk, IfOk, IfErr}
use Rattle.std.proofs.lemmas.List.Elements.{All-filter}
use Rattle.case_forms.specs.declared.trace.Header.{Header}
use Rattle.case_forms.specs.declared.trace.Line.{Line}
use Rattle.case_forms.specs.declared.steps.Step.{Step}
use Rattle.line_fields.specs.declared.fault.TextFault.{TextFault}
use Rattle.line_fields.specs.Left.{Yields}
use Rattle.interval_order.specs.Orders.{Move, Order, Take, order_after, held_after}
use Rattle.interval_order.specs.Later.{with_lines}
use Rattle.spec_cases.specs.Cases.{Watched as Progress}
use Rattle.checker.specs.declared.case.CaseFault.{CaseFault}
use Rattle.checker.specs.declared.case.CaseFault.TheVariants as faults
use Rattle.checker.specs.declared.ahead.Ahead.{Ahead}
use Rattle.endpoint_state.specs.declared.fault.StepFault.{StepFault}
use Rattle.endpoint_state.specs.declared.fault.StepFault.TheVariants.{Broken, OutOfMemory}
use Rattle.spec_step.specs.Faults.{IfBroken}
use Rattle.checker.specs.Seen.{move_of}
use Rattle.checker.specs.Kept.{held_act, kept_progress}
use Rattle.checker.specs.Ahead.{left_ahead, line_ahead, IsAhead, IsInStep, Passes, TraceFails}
use Rattle.checker.specs.Streaming.{SoFar, CaseFails, IsDone, IsRefused}
use Rattle.checker.specs.Turns.{AfterStep}
use Rattle.checker.proofs.KeptLemmas.{next_steps}
use Rattle.checker.proofs.StreamTurns.{left_later, turn_goes, turn_refuses, turn_passes}

-- ---- faults

-- a fault of the trace comes first
pub trace_first : (e : CaseFault) (lines : Option (Result (List Line) TextFault))
    (steps : Option (Result (List Step) TextFault)) → TraceFails e lines → CaseFails e lines steps
trace_first (faults.Trace f) lines steps fails = fails
trace_first (faults.Witness f) lines steps fails = absurd fails
trace_first faults.Read lines steps fails = tt
trace_first faults.OutOfMemory lines steps fails = tt

-- ---- a turn that is done or refused

pub turn_is : {A : Type 0} (known : A → Option (List ℕ)) (header : Header) (t : Option (Result (List Line) TextFault))
    (s : Option (Result (List Step) TextFault)) (offered : List Line) (earlier : List Step)
    (a c d : Ahead A) (ahead next : Option (Result (List Step) TextFault)) (o n m : Order) (p q : Progress)
    (more : List Line) (step : Step) (r : Result (Result (Unit {0}) StepFault) CaseFault)
    → SoFar header t (left_ahead known a) s ahead o p offered earlier → Yields ahead next (Some step)
    → Passes (left_ahead known a) (left_ahead known c) more → n ≡ with_lines o more → IsAhead c → IfSome (line_ahead c) (λ line. step.moment < line.moment)
    → IfOk r (λ r. OnOk r (IsDone n m p q step × (d ≡ c)))
    → IfOk r (λ r. IfErr r (λ fault. IfBroken fault (IsRefused n p step (left_ahead known c) (left_ahead known d))))
    → IfOk r (AfterStep header t (left_ahead known d) s next m q offered earlier step)
turn_is known header t s offered earlier a c d ahead next o n m p q more step (Ok (Ok u)) f took passed is h late done refused = (
  more,
  subst (λ (e : Ahead _). SoFar header t (left_ahead known e) s next m q (offered ++ more) (earlier ++ step ∷ [])) (sym done.1)
      (turn_goes header t s (left_ahead known a)
      (left_ahead known c) ahead next o n p offered more earlier step f passed is
      (left_later known c step.moment h late) m q took done.0),
)
turn_is known header t s offered earlier a c d ahead next o n m p q more step (Ok (Err (Broken rule))) f took passed is h late done refused =
    let through =
    turn_passes header t s (left_ahead known a)
    (left_ahead known c) ahead next o n p offered more earlier step f passed is
    (left_later known c step.moment h late) (left_ahead known d) rule refused in (
      through.0,
      through.1,
      turn_refuses header t s (left_ahead known a)
          (left_ahead known c) ahead next o n p offered more earlier step f passed is
          (left_later known c step.moment h late) (left_ahead known d) rule refused,
    )
turn_is known header t s offered earlier a c d ahead next o n m p q more step (Ok (Err OutOfMemory)) f took passed is h late done refused = tt
turn_is known header t s offered earlier a c d ahead next o n m p q more step (Err e) f took passed is h late done refused = tt

-- ---- what is kept where a step is done

step_kept : (o n : Order) (mv : Move) (ahead : Option Line) → IsInStep o ahead → n ≡ order_after o mv → IsInStep n ahead
step_kept o n mv None step is = tt
step_kept o n mv (Some line) step is = subst (λ (q : Order). IsInStep q (Some line)) (sym is) (step.0, by_take mv.take)
  where
    by_take : (t : Option Take) → All (λ (e : ℕ × Line). e.1.moment ≤ line.moment) (held_after o.held t)
    by_take None = step.1
    by_take (Some t) = All-filter (λ e. not (t.number == e.0)) (λ (e : ℕ × Line). e.1.moment ≤ line.moment) o.held step.1

pub more_in_step : {A : Type 0} (c d : Ahead A) (n m : Order) (p q : Progress) (step : Step)
    (r : Result (Result (Unit {0}) StepFault) CaseFault) → IsInStep n (line_ahead c)
    → IfOk r (λ r. OnOk r (IsDone n m p q step × (d ≡ c))) → IfOk r (λ r. OnOk r (IsInStep m (line_ahead d)))
more_in_step c d n m p q step (Ok (Ok u)) before done =
    subst (λ (e : Ahead _). IsInStep m (line_ahead e)) (sym done.1)
    (step_kept n m (move_of step) (line_ahead c) before done.0.moved)
more_in_step c d n m p q step (Ok (Err fault)) before done = tt
more_in_step c d n m p q step (Err e) before done = tt

pub more_steps : {A : Type 0} (c d : Ahead A) (n m : Order) (p q : Progress) (step : Step)
    (r : Result (Result (Unit {0}) StepFault) CaseFault)
    → IfOk r (λ r. OnOk r (IsDone n m p q step × (d ≡ c))) → IfOk r (λ r. OnOk r (q.steps ≤ p.steps + 1))
more_steps c d n m p q step (Ok (Ok u)) done =
    let same : q.steps ≡ (kept_progress n p step).steps = ap (λ (x : Progress). x.steps) done.0.acted in
    let next : (kept_progress n p step).steps ≤ p.steps + 1 = next_steps p (held_act n step) in
    omega (arith, same, next)
more_steps c d n m p q step (Ok (Err fault)) done = tt
more_steps c d n m p q step (Err e) done = tt
