-- Duty start: for what waits to be sent, a segment is built within a second, if nothing is outstanding and no window
-- holds it back (RFC 9293, 3.8.6.2.1, 3.10.2 and 3.10.4).
use Rattle.std.specs.Prelude.{ℕ, ◌+◌, ◌==◌, nat_lt, Bool, not, ◌&&◌, ◌||◌, if◌then◌else◌, Option, None, Some}
use Rattle.std.specs.Option.{option_or}
use Rattle.case_forms.specs.States.{is_closed}
use Rattle.spec_duties.specs.Deadlines.{due_within}
use Rattle.spec_duties.specs.Views.{View, is_up}

-- the longest time that a sender may hold data back, in microseconds (RFC 9293, 3.8.6.2.1: the override timeout)
abbrev pub longest_wait : ℕ
longest_wait = 1000000

-- the position after all that there is to send: bytes, and a FIN once sending is ended
abbrev pub work_end : View → ℕ
work_end v = if v.ended then v.end + 1 else v.end

-- the offered window holds nothing back: it is open, or only a SYN or a FIN is left
abbrev pub is_free_to_send : View → Bool
is_free_to_send v = nat_lt 0 v.snd_wnd || v.snd_max == 0 || v.snd_max == v.end

-- something waits, and nothing is outstanding
abbrev pub is_idle_with_work : View → Bool
is_idle_with_work v =
    not (is_closed v.state) && v.snd_una == v.snd_max && nat_lt v.snd_max (work_end v)
    && (is_up v || v.snd_max == 0) && is_free_to_send v

abbrev pub start_after : (after : View) → (moment : ℕ) → (since : Option ℕ) → Option ℕ
start_after after moment since = if is_idle_with_work after then option_or since (Some moment) else None

abbrev pub start_due : (since : Option ℕ) → Option ℕ
start_due since = due_within longest_wait since
