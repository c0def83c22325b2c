-- The comparison after the last step: which duties are late then.
use Rattle.std.specs.Prelude.{ℕ, suc, Bool, false, not, ◌&&◌, ◌||◌, if◌then◌else◌, List, [], ◌∷◌, Option, None, Some}
use Rattle.std.specs.Prelude.{is_some}
use Rattle.std.specs.Prelude.{unwrap_or, ◌++◌}
use Rattle.std.specs.Option.{option_map, option_map_or}
use Rattle.case_forms.specs.declared.calls.Host.{Host}
use Rattle.case_forms.specs.declared.calls.Host.TheVariants.{Zero, One}
use Rattle.case_forms.specs.declared.trace.Header.{Header}
use Rattle.verdict.specs.Rules.{first_broken}
use Rattle.verdict.specs.declared.rule.Rule.{Rule}
use Rattle.verdict.specs.declared.rule.Rule.TheVariants as rules
use Rattle.spec_network.specs.Hosts.{World}
use Rattle.spec_network.specs.Tables.{pick}
use Rattle.spec_tcp.specs.declared.endpoint.Endpoint.{Endpoint}
use Rattle.spec_tcp.specs.Machine.{tcp_shape}
use Rattle.spec_duties.specs.Views.{view_of}
use Rattle.spec_duties.specs.Acknowledge.{acknowledge_due}
use Rattle.spec_duties.specs.Answering.{any_call, is_unanswered_late}
use Rattle.spec_duties.specs.Deadlines.{is_late}
use Rattle.spec_duties.specs.Owed.{Lates, none_late, late_rules}
use Rattle.spec_duties.specs.Strict.{Unsent, with_brought}
use Rattle.spec_duties.specs.Watching.{Duties, judged_lates}

-- the line of the first segment that came and still waits too long
abbrev pub first_waiting : (slack moment : ℕ) → List (ℕ × Option ℕ) → Option ℕ
first_waiting slack moment [] = None
first_waiting slack moment (e ∷ entries) =
    if is_late slack moment e.1 then Some e.0 else first_waiting slack moment entries

-- a segment that was built and not sent: it is late itself, or the acknowledgment that it brings
abbrev pub is_send_late : (slack moment : ℕ) → Unsent → Bool
is_send_late slack moment u = not u.spared && is_late slack moment (Some u.since)

abbrev pub is_brought_late : (slack moment : ℕ) → Unsent → Bool
is_brought_late slack moment u = is_late slack moment (acknowledge_due u.acknowledge)

-- one of those that were not sent is late in such a way
abbrev pub any_unsent : (Unsent → Bool) → List (ℕ × Option Unsent) → Bool
any_unsent late [] = false
any_unsent late (e ∷ entries) = option_map_or late e.1 false || any_unsent late entries

-- what is late in one or the other
abbrev pub either : Lates → Lates → Lates
either a b = record {
  acknowledge = a.acknowledge || b.acknowledge;
  expire = a.expire || b.expire;
  retransmit = a.retransmit || b.retransmit;
  probe = a.probe || b.probe;
  start = a.start || b.start;
  reset = a.reset || b.reset;
}

-- what the endpoint at a place owes and is late with
abbrev pub lates_at : Header → (slack moment : ℕ) → Duties → Host → (place : ℕ) → Endpoint → Lates
lates_at h slack moment d host place e = judged_lates h slack moment d None host place (view_of e)

-- what is late so far, and at the endpoints from this place on
abbrev pub lates_from : Header → (slack moment : ℕ) → Duties → Host → (place : ℕ) → Lates → List Endpoint → Lates
lates_from h slack moment d host place so_far [] = so_far
lates_from h slack moment d host place so_far (e ∷ endpoints) =
    lates_from h slack moment d host (suc place) (either so_far (lates_at h slack moment d host place e)) endpoints

abbrev pub lates_of_host : Header → (slack moment : ℕ) → Duties → World tcp_shape → Host → Lates → Lates
lates_of_host h slack moment d w host so_far =
    lates_from h slack moment d host 0 so_far (pick w.hosts host).body.endpoints

-- all endpoints of both hosts
abbrev pub lates_of_all : Header → (slack moment : ℕ) → Duties → World tcp_shape → Lates
lates_of_all h slack moment d w =
    lates_of_host h slack moment d w One (lates_of_host h slack moment d w Zero (none_late false))

-- the rules that are broken at the end, by a case whose last step was at this moment
abbrev pub end_rules : Header → (slack moment : ℕ) → Duties → World tcp_shape → List (Rule × Bool)
end_rules h slack moment d w =
    (rules.ProcessLate, is_some (first_waiting slack moment d.inbox))
    ∷ (rules.SendLate, any_unsent (is_send_late slack moment) d.unsent)
    ∷ late_rules (with_brought (any_unsent (is_brought_late slack moment) d.unsent) (lates_of_all h slack moment d w))
    ++ (rules.AnswerLate, any_call (is_unanswered_late h slack moment w d.waits) d.waits.threads) ∷ []

-- the line of a rule that is broken at the end: that of a segment that waits, else 0
abbrev pub line_of : Option ℕ → Rule → ℕ
line_of waits rules.ProcessLate = unwrap_or waits 0
line_of waits rule = 0

-- the least of these rules, with its line
abbrev pub late_at_end : Header → (slack moment : ℕ) → Duties → World tcp_shape → Option (ℕ × Rule)
late_at_end h slack moment d w =
    option_map (λ rule. (line_of (first_waiting slack moment d.inbox) rule, rule))
    (first_broken (end_rules h slack moment d w))
