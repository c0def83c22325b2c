-- The calls of one thread take turns: each begins, has one effect and ends.
use Rattle.std.specs.Prelude.{◌≡◌, ℕ, ◌==◌, false, if◌then◌else◌, List, [], ◌∷◌}
use Rattle.spec_network.specs.Hosts.{Kernel, Turn, Idle, Called, Answered, Step, Begin, Finish, Effect, At, Stamped}

-- in thread t, which is at this turn, a step begins no second call, is the first effect of an open call, or ends a call
-- with its effect's answer; `rest` applies to the turn after it
abbrev pub TakesTurn : (k : Kernel) → ℕ → Turn k.shape → Step k.shape → (Turn k.shape → Type 0) → Type 0
TakesTurn k t turn (Begin line u c) rest = (t ≡ u → turn ≡ Idle) × rest (if t == u then Called c else turn)
TakesTurn k t turn (Finish line u a) rest =
    (t ≡ u → (b : k.shape.Answer) × (turn ≡ Answered b) × (k.differs b a ≡ false))
    × rest (if t == u then Idle else turn)
TakesTurn k t turn (Effect u a) rest =
    (t ≡ u → (c : k.shape.Call) × (turn ≡ Called c)) × rest (if t == u then Answered a else turn)
TakesTurn k t turn (At host d) rest = rest turn

-- in thread t calls begin, have one effect and end, in turns, from this turn on
abbrev pub Turns : (k : Kernel) → ℕ → Turn k.shape → List (Stamped k.shape) → Type 0
Turns k t turn [] = Unit {0}
Turns k t turn (x ∷ xs) = TakesTurn k t turn x.step (λ u. Turns k t u xs)
