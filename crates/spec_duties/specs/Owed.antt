-- All that an endpoint owes, which of it is late, and how a step changes it.
use Rattle.std.specs.Prelude.{ℕ, Bool, false, ◌||◌, if◌then◌else◌, List, [], ◌∷◌, Option, None}
use Rattle.case_forms.specs.States.{is_closed}
use Rattle.verdict.specs.declared.rule.Rule.{Rule}
use Rattle.verdict.specs.declared.rule.Rule.TheVariants as rules
use Rattle.spec_duties.specs.Views.{View}
use Rattle.spec_duties.specs.Events.{Event}
use Rattle.spec_duties.specs.Deadlines.{is_late}
use Rattle.spec_duties.specs.Acknowledge.{acknowledge_after, acknowledge_due, acknowledged_after}
use Rattle.spec_duties.specs.Expire.{expiry_due, opened_after}
use Rattle.spec_duties.specs.Retransmit.{retransmit_after, probe_after}
use Rattle.spec_duties.specs.Probe.{probing_after, probing_due}
use Rattle.spec_duties.specs.Start.{start_after, start_due}
use Rattle.spec_duties.specs.Reset.{reset_since, reset_after}
use Rattle.spec_duties.specs.Resent.{again_after}
use Rattle.spec_duties.specs.Excess.{answers_after}
pub use Rattle.spec_duties.specs.declared.owed.Lates.{Lates}
pub use Rattle.spec_duties.specs.declared.owed.Owed.{Owed}

-- before any step touches it
abbrev pub nothing : Owed
nothing = record {
  acknowledge = None;
  opened = 0;
  retransmit = None;
  probe = None;
  probing = None;
  start = None;
  reset = None;
  again = 0;
  answers = 0;
  acknowledged = None;
}

-- those of an endpoint that isn't CLOSED
abbrev pub lates_of_open : (slack moment : ℕ) → View → Owed → (reset : Bool) → Lates
lates_of_open slack moment v o reset = record {
  acknowledge = is_late slack moment (acknowledge_due o.acknowledge);
  expire = is_late slack moment (expiry_due v o.opened);
  retransmit = is_late slack moment o.retransmit || is_late slack moment o.probe;
  probe = is_late slack moment (probing_due v o.probing);
  start = is_late slack moment (start_due o.start);
  reset = reset;
}

abbrev pub none_late : (reset : Bool) → Lates
none_late reset = record {
  acknowledge = false;
  expire = false;
  retransmit = false;
  probe = false;
  start = false;
  reset = reset;
}

-- a CLOSED endpoint owes no more than a reset; `listener_closed`: when the listener that created it was closed
abbrev pub lates_of : (slack moment : ℕ) → View → (listener_closed : Option ℕ) → Owed → Lates
lates_of slack moment v listener_closed o =
    if is_closed v.state then none_late (is_late slack moment (reset_since v listener_closed o.reset))
    else lates_of_open slack moment v o (is_late slack moment (reset_since v listener_closed o.reset))

-- the rules that they break
abbrev pub late_rules : Lates → List (Rule × Bool)
late_rules l =
    (rules.AckLate, l.acknowledge) ∷ (rules.ExpiryLate, l.expire) ∷ (rules.ResendLate, l.retransmit)
    ∷ (rules.ProbeLate, l.probe) ∷ (rules.StartLate, l.start) ∷ (rules.ResetLate, l.reset) ∷ []

-- what is owed after a step at an endpoint
abbrev pub owed_open : Event → (before after : View) → (moment : ℕ) → (listener_closed : Option ℕ) → (counts : Bool)
    → Owed → Owed
owed_open event before after moment listener_closed counts o = record {
  acknowledge = acknowledge_after event before.state moment o.acknowledged o.acknowledge;
  opened = opened_after before after moment o.opened;
  retransmit = retransmit_after event before after moment o.retransmit;
  probe = probe_after event before after moment o.probe;
  probing = probing_after event before after moment o.probing;
  start = start_after after moment o.start;
  reset = reset_after event before after moment listener_closed o.reset;
  again = again_after event before after o.again;
  answers = answers_after event before counts o.answers;
  acknowledged = acknowledged_after event moment o.acknowledged;
}

-- all duties but a reset end in CLOSED
abbrev pub once_closed : Owed → Owed
once_closed o =
    record o { acknowledge = None; retransmit = None; probe = None; probing = None; start = None }

abbrev pub owed_after : Event → (before after : View) → (moment : ℕ) → (listener_closed : Option ℕ) → (counts : Bool)
    → Owed → Owed
owed_after event before after moment listener_closed counts o =
    if is_closed after.state then once_closed (owed_open event before after moment listener_closed counts o)
    else owed_open event before after moment listener_closed counts o
