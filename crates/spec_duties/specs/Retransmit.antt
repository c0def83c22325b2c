-- Duty retransmit: after an expiry, the oldest unacknowledged position is sent again (RFC 6298, 5.4); after one of the
-- persist timer, anything is sent (RFC 9293, 3.8.6.1).
use Rattle.std.specs.Prelude.{ℕ, ◌==◌, Bool, true, false, ◌||◌, if◌then◌else◌, Option, None, Some}
use Rattle.std.specs.Option.{option_or}
use Rattle.case_forms.specs.declared.timer.Timer.TheVariants.{Rto, Persist}
use Rattle.spec_duties.specs.Views.{View}
use Rattle.spec_duties.specs.Events.{Event, Sends, Expires, holds, is_sending, acknowledges_more}

abbrev pub is_timeout : Event → Bool
is_timeout (Expires Rto) = true
is_timeout event = false

abbrev pub is_probe_timeout : Event → Bool
is_probe_timeout (Expires Persist) = true
is_probe_timeout event = false

-- the segment that is owed is sent; into a closed window any segment will do
abbrev pub sends_oldest : Event → View → Bool
sends_oldest (Sends s) v = holds s v.snd_una || v.snd_wnd == 0
sends_oldest event v = false

-- since when it is owed; if it is owed already, the earlier moment stays
abbrev pub retransmit_after : Event → (before after : View) → (moment : ℕ) → (since : Option ℕ) → Option ℕ
retransmit_after event before after moment since =
    if is_timeout event then option_or since (Some moment)
    else if sends_oldest event before || acknowledges_more before after then None
    else since

-- the same for an expiry of the persist timer
abbrev pub probe_after : Event → (before after : View) → (moment : ℕ) → (since : Option ℕ) → Option ℕ
probe_after event before after moment since =
    if is_probe_timeout event then option_or since (Some moment)
    else if is_sending event || acknowledges_more before after then None
    else since
