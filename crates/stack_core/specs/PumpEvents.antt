-- What the sending of a segment adds.
use Rattle.std.specs.Prelude.{◌≡◌, ◌⊎◌, ℕ}
use Rattle.case_forms.specs.declared.steps.SegmentPlan.{SegmentPlan}
use Rattle.spec_network.specs.Hosts.{At, Makes}
use Rattle.spec_tcp.specs.Machine.{tcp_shape}
use Rattle.spec_merge.specs.Books.{Flying}
use Rattle.stack_core.specs.declared.tick.Tick.{Tick}
use Rattle.stack_core.specs.Cores.{Core, event_begun, with_step, world}
use Rattle.stack_core.specs.Makings.{NothingToMake}
use Rattle.stack_core.specs.Outgoing.{GoesOut}
use Rattle.stack_core.specs.Resets.{IsResetToGo, NoResetWaits}

-- a segment was made
abbrev pub made : Core → Tick → SegmentPlan → Core
made c tick plan = with_step (event_begun c tick) (At c.recorded.me (Makes plan))

-- an event sent a segment: a reset that waited, or, if none did, one that it made, with the number of the last one made
pub data IsPumped (c : Core) (tick : Tick) (f : Flying tcp_shape) (d : Core) : Type 0 where
  Answered : (number : ℕ) (waited : IsResetToGo c.recorded number) (out : GoesOut (event_begun c tick) number f d)
      → IsPumped c tick f d
  Made : (free : NoResetWaits c.recorded) (plan : SegmentPlan)
      (out : GoesOut (made c tick plan) (world (made c tick plan)).count f d) → IsPumped c tick f d

-- what may be left if memory ran out: the tick has passed, and, if no reset waits, perhaps a segment was made
abbrev pub IsPumpedShort : Core → Tick → Core → Type 0
IsPumpedShort c tick d =
    (d ≡ event_begun c tick) ⊎ (NoResetWaits c.recorded × ((plan : SegmentPlan) × (d ≡ made c tick plan)))

-- no reset waits, and no segment without RST that takes new positions may be made
abbrev pub NothingToPump : Core → Type 0
NothingToPump c = NoResetWaits c.recorded × NothingToMake c.recorded.header c.recorded.me (world c)
