-- What a step does at an endpoint.
use Rattle.std.specs.Prelude.{ℕ, ◌+◌, nat_le, nat_lt, Bool, true, false, ◌&&◌}
use Rattle.spec_duties.specs.Views.{View}
pub use Rattle.spec_duties.specs.declared.events.Sending.{Sending}
pub use Rattle.spec_duties.specs.declared.events.Event.{Event}
pub use Rattle.spec_duties.specs.declared.events.Event.TheVariants.{Opens, Calls, Processes, Drops, Builds, Sends}
pub use Rattle.spec_duties.specs.declared.events.Event.TheVariants.{Expires, Recovers}

-- a segment holds a position
abbrev pub holds : Sending → ℕ → Bool
holds s position = nat_le s.pos position && nat_lt position (s.pos + s.length)

-- a segment is sent
abbrev pub is_sending : Event → Bool
is_sending (Sends s) = true
is_sending event = false

-- a new acknowledgment (RFC 9293, 3.10.7.4, fifth): the oldest unacknowledged position rises
abbrev pub acknowledges_more : (before after : View) → Bool
acknowledges_more before after = nat_lt before.snd_una after.snd_una
