-- Credits: in version 6, what does nothing but acknowledge is sent for a segment that came at most half a second before
-- it was built (RFC 5681, 4.2; RFC 9293, 3.10.7.4). Each such segment gives a credit, and each acknowledgment takes
-- one.
use Rattle.std.specs.Prelude.{ℕ, ◌+◌, ◌-◌, ◌*◌, ◌^◌, ◌==◌, nat_le, nat_lt, Bool, false, not, ◌&&◌, ◌||◌}
use Rattle.std.specs.Prelude.{if◌then◌else◌, List, [], ◌∷◌, Option, Some}
use Rattle.std.specs.List.{list_any}
use Rattle.std.specs.Option.{option_map_or}
use Rattle.spec_duties.specs.Acknowledge.{longest_delay}
use Rattle.spec_duties.specs.Events.{Event, Builds}
use Rattle.spec_duties.specs.Probe.{is_closed_with_work}
use Rattle.spec_duties.specs.Views.{View}

-- a credit that an endpoint earned at a moment: the place of the endpoint, and below it the moment, in 64 bits
abbrev pub credit_of : (place moment : ℕ) → ℕ
credit_of place moment = place * 2 ^ 64 + moment

-- the credits of a host's endpoints are kept in order: those of one endpoint follow each other, the oldest first
abbrev pub earned : (credit : ℕ) → List ℕ → List ℕ
earned credit [] = credit ∷ []
earned credit (c ∷ credits) = if nat_lt c credit then c ∷ earned credit credits else credit ∷ c ∷ credits

-- the endpoint at a place earned it at this moment or later
abbrev pub is_credit_from : (place moment credit : ℕ) → Bool
is_credit_from place moment credit =
    nat_le (credit_of place moment) credit && nat_lt credit (credit_of (place + 1) 0)

abbrev pub has_credit : (place moment : ℕ) → List ℕ → Bool
has_credit place moment credits = list_any (is_credit_from place moment) credits

-- the oldest such is taken
abbrev pub spent : (place moment : ℕ) → List ℕ → List ℕ
spent place moment [] = []
spent place moment (c ∷ credits) =
    if is_credit_from place moment c then credits else c ∷ spent place moment credits

-- the oldest credit that serves for a segment which was built at a moment
abbrev pub earliest_credit : (slack built : ℕ) → ℕ
earliest_credit slack built = built - (longest_delay + slack)

-- ---- which segments need one

-- a segment is built that is empty, has ACK alone, and announces no more window than before
abbrev pub is_bare_ack : Event → (before after : View) → Bool
is_bare_ack (Builds m) before after =
    m.flags.ack && not m.flags.syn && not m.flags.fin && not m.flags.rst && m.len == 0
    && after.rcv_adv == before.rcv_adv
is_bare_ack event before after = false

-- it is at the position before the oldest unacknowledged one
abbrev pub is_below_oldest : Event → View → Bool
is_below_oldest (Builds m) before = m.pos + 1 == before.snd_una
is_below_oldest event before = false

-- so it keeps a connection alive, or probes a closed window (RFC 9293, 3.8.4 and 3.8.6.1)
abbrev pub is_keep_alive : Event → (before after : View) → Bool
is_keep_alive event before after = is_bare_ack event before after && is_below_oldest event before

-- another was sent less than half a second before
abbrev pub is_kept_alive : (moment : ℕ) → (kept_alive : Option ℕ) → Bool
is_kept_alive moment kept_alive = option_map_or (λ m. nat_lt moment (m + longest_delay)) kept_alive false

-- it is free while the window is closed with work, or if no other was sent lately
abbrev pub is_free : Event → View → (moment : ℕ) → (kept_alive : Option ℕ) → Bool
is_free event before moment kept_alive =
    is_below_oldest event before && (is_closed_with_work before || not (is_kept_alive moment kept_alive))

abbrev pub needs_credit : Event → (before after : View) → (moment : ℕ) → (kept_alive : Option ℕ) → Bool
needs_credit event before after moment kept_alive =
    is_bare_ack event before after && not (is_free event before moment kept_alive)

-- when the last keep-alive was sent; `keeps_alive`: one is sent now
abbrev pub kept_alive_after : (keeps_alive : Bool) → (moment : ℕ) → (kept_alive : Option ℕ) → Option ℕ
kept_alive_after keeps_alive moment kept_alive = if keeps_alive then Some moment else kept_alive
