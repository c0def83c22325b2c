-- What the contract of an event says is what the event makes of a core in a core world.
use Rattle.std.specs.declared.alloc.AllocError.{AllocError}
use Rattle.std.proofs.Common.{◌≡◌, ℕ, Bool, Option, None, Some, Result, Ok, Err}
use Rattle.std.specs.Prelude.{IfNone, IfOk, OnErr, OnOk}
use Rattle.std.specs.Option.{IfSome}
use Rattle.case_forms.specs.declared.calls.Call.{Call}
use Rattle.spec_tcp.specs.Machine.{tcp_shape}
use Rattle.spec_merge.specs.Books.{Flying}
use Rattle.stack_core.specs.declared.answered.Answered.{Answered}
use Rattle.stack_core.specs.declared.tick.Tick.{Tick}
use Rattle.stack_core.specs.ArrivalEvents.{IsArrival, IsArrivedShort}
use Rattle.stack_core.specs.CallEvents.{IsAttempted, IsAttemptShort, NoAnswer, begun}
use Rattle.stack_core.specs.CoreWorlds.{Leaves}
use Rattle.stack_core.specs.CoreWorlds.CoreCall.{Begin, Attempt, Arrive, Pump, Timers}
use Rattle.stack_core.specs.Cores.{Core, event_begun}
use Rattle.stack_core.specs.PumpEvents.{IsPumped, IsPumpedShort, NothingToPump}
use Rattle.stack_core.specs.TimerEvents.{IsTimed}

module _ (c d : Core) (tick : Tick) where
  pub begin_leaves : (thread : ℕ) (call : Call) (r : Result (Unit {0}) AllocError) → OnOk r (d ≡ begun c tick thread call) → OnErr r (d ≡ event_begun c tick)
      → Leaves c tick (Begin thread call r) d
  begin_leaves thread call (Ok done) ok err = ok
  begin_leaves thread call (Err memory) ok err = err

  pub attempt_leaves : (thread : ℕ) (r : Result (Option Answered) AllocError) → IfOk r (λ o. IfSome o (λ a. IsAttempted c tick thread a d))
      → IfOk r (λ o. IfNone o ((d ≡ c) × NoAnswer c thread)) → OnErr r (IsAttemptShort c tick thread d) → Leaves c tick (Attempt thread r) d
  attempt_leaves thread (Ok (Some a)) some none err = some
  attempt_leaves thread (Ok None) some none err = none
  attempt_leaves thread (Err memory) some none err = err

  pub arrive_leaves : (f : Flying tcp_shape) (r : Result Bool AllocError) → IfOk r (λ let_in. IsArrival c tick f let_in d) → OnErr r (IsArrivedShort c tick f d)
      → Leaves c tick (Arrive f r) d
  arrive_leaves f (Ok let_in) ok err = ok
  arrive_leaves f (Err memory) ok err = err

  pub pump_leaves : (r : Result (Option (Flying tcp_shape)) AllocError) → IfOk r (λ o. IfSome o (λ f. IsPumped c tick f d))
      → IfOk r (λ o. IfNone o ((d ≡ c) × NothingToPump c)) → OnErr r (IsPumpedShort c tick d) → Leaves c tick (Pump r) d
  pump_leaves (Ok (Some f)) some none err = some
  pump_leaves (Ok None) some none err = none
  pump_leaves (Err memory) some none err = err

  pub timers_leaves : (r : Result Bool AllocError) → IfOk r (λ found. IsTimed c tick found d) → OnErr r (d ≡ event_begun c tick) → Leaves c tick (Timers r) d
  timers_leaves (Ok found) ok err = ok
  timers_leaves (Err memory) ok err = err
