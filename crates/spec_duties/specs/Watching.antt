-- The rules of duties at a step, and what is kept after it.
use Rattle.std.specs.Prelude.{ℕ, ◌-◌, nat_eq, nat_le, nat_lt, Bool, true, false, not, ◌&&◌, ◌||◌, if◌then◌else◌, List}
use Rattle.std.specs.Prelude.{[]}
use Rattle.std.specs.Prelude.{◌∷◌, ◌++◌, Option, None, Some, unwrap_or}
use Rattle.std.specs.Map.{lookup}
use Rattle.std.specs.Option.{option_map, option_map_or}
use Rattle.indexmap.specs.IndexMap.{insert_entry}
use Rattle.case_forms.specs.States.{is_closed}
use Rattle.case_forms.specs.Versions.{says_sender}
use Rattle.case_forms.specs.declared.calls.Host.{Host}
use Rattle.case_forms.specs.declared.trace.Header.{Header}
use Rattle.verdict.specs.declared.rule.Rule.{Rule}
use Rattle.verdict.specs.declared.rule.Rule.TheVariants as rules
use Rattle.spec_network.specs.Tables.{Both, on, pick, with_host, waiting, settled}
use Rattle.spec_duties.specs.Views.{View}
use Rattle.spec_duties.specs.Events as events
use Rattle.spec_duties.specs.Events.{Event}
use Rattle.spec_duties.specs.Deadlines.{is_late}
use Rattle.spec_duties.specs.Resent.{is_resent, is_resent_beyond}
use Rattle.spec_duties.specs.Excess.{one_more, is_excess, is_mere_ack}
use Rattle.spec_duties.specs.Credits.{credit_of, earliest_credit, earned, has_credit, is_keep_alive, needs_credit}
use Rattle.spec_duties.specs.Credits.{spent}
use Rattle.spec_duties.specs.Acknowledge.{acknowledge_due}
use Rattle.spec_duties.specs.Owed.{Lates, Owed, nothing, lates_of, late_rules, owed_after}
use Rattle.spec_duties.specs.Sampling.{Sampling, is_sample_due}
use Rattle.spec_duties.specs.Strict.{StrictOwed, Unsent, brought_by, is_spared, nothing_strict, strict_after}
use Rattle.spec_duties.specs.Strict.{strict_lates, taken_over, with_brought}
use Rattle.spec_duties.specs.Dropped.{Droppable, Dropping}
use Rattle.spec_duties.specs.Answering.{CallChange, Waits, is_answer_late, none_wait}
use Rattle.spec_duties.specs.Observations.{InboxChange, BuiltChange, Queueing, Observation, TouchedEndpoint}
use Rattle.spec_duties.specs.declared.observations.InboxChange.TheVariants as inbox_change
use Rattle.spec_duties.specs.declared.observations.BuiltChange.TheVariants as built_change
use Rattle.spec_duties.specs.declared.observations.Queueing.TheVariants as queueing
use Rattle.spec_duties.specs.declared.observations.Droppable.TheVariants as droppable
pub use Rattle.spec_duties.specs.declared.observations.Untruth.{Untruth}
use Rattle.spec_duties.specs.declared.observations.Untruth.TheVariants as untruth
pub use Rattle.spec_duties.specs.declared.tables.Listening.{Listening}
pub use Rattle.spec_duties.specs.declared.tables.Built.{Built}

-- what each endpoint owes, by its place; each listener, by its place; since when each segment in an inbox waits, by its
-- line; and the segments that were built, by their numbers. What left an inbox or was sent leaves None in its place.
-- For the stricter duties of version 6, the same of endpoints and of segments that were built, the credits of each
-- host's endpoints, and the calls that wait
pub record Duties : Type 0 where
  pub owed : Both (List (ℕ × Owed))
  pub listening : Both (List (ℕ × Listening))
  pub inbox : List (ℕ × Option ℕ)
  pub built : List (ℕ × Option Built)
  pub strict : Both (List (ℕ × StrictOwed))
  pub unsent : List (ℕ × Option Unsent)
  pub credits : Both (List ℕ)
  pub waits : Waits

abbrev pub start : Duties
start = record {
  owed = record { zero = []; one = [] };
  listening = record { zero = []; one = [] };
  inbox = [];
  built = [];
  strict = record { zero = []; one = [] };
  unsent = [];
  credits = record { zero = []; one = [] };
  waits = none_wait;
}

-- what an endpoint owes
abbrev pub owed_by : Duties → Host → (place : ℕ) → Owed
owed_by d host place = unwrap_or (lookup (nat_eq place) (pick d.owed host)) nothing

-- what it owes by the stricter duties
abbrev pub strict_by : Duties → Host → (place : ℕ) → StrictOwed
strict_by d host place = unwrap_or (lookup (nat_eq place) (pick d.strict host)) nothing_strict

-- a listener: without children, and open, unless something else is known
abbrev pub new_listening : Listening
new_listening = record { children = 0; closed = None }

abbrev pub listening_at : List (ℕ × Listening) → (place : ℕ) → Listening
listening_at table place = unwrap_or (lookup (nat_eq place) table) new_listening

-- when the listener was closed that created an endpoint, if it was
abbrev pub listener_closed : Duties → Host → View → Option ℕ
listener_closed d host v = option_map_or (λ l. (listening_at (pick d.listening host) l).closed) v.listener None

-- what could be processed need not be
abbrev pub is_droppable : Duties → Host → Droppable → Bool
is_droppable d host droppable.No = false
is_droppable d host droppable.Yes = true
is_droppable d host (droppable.IfFull l backlog) = nat_le backlog (listening_at (pick d.listening host) l).children
is_droppable d host (droppable.IfStale i behind) = nat_lt (strict_by d host i).widest behind

-- a segment is dropped that has to be processed or answered (RFC 9293, 3.10.7)
abbrev pub is_needed : Duties → Dropping → Bool
is_needed d x = (x.takeable && not (is_droppable d x.host x.droppable)) || x.answerable

abbrev pub drops_needed : Duties → Option Dropping → Bool
drops_needed d dropping = option_map_or (is_needed d) dropping false

-- duty process: what arrived leaves the inbox at once (RFC 9293, 3.10.7)
abbrev pub leaves_late : (slack moment : ℕ) → Duties → InboxChange → Bool
leaves_late slack moment d (inbox_change.Leaves line) = is_late slack moment (waiting line d.inbox)
leaves_late slack moment d it = false

-- duty send: what was built is sent at once (RFC 9293, 3.10.2 and 3.10.7)
abbrev pub built_by : Duties → BuiltChange → Option Built
built_by d (built_change.Sends number) = waiting number d.built
built_by d it = None

abbrev pub sent_late : (slack moment : ℕ) → Option Built → Bool
sent_late slack moment built = is_late slack moment (option_map (λ b. b.since) built)

-- the segment that is sent is a mere acknowledgment
abbrev pub counts_now : Option Built → Bool
counts_now built = option_map_or (λ b. b.counts) built false

-- the segment that was built in version 6 and is sent
abbrev pub sent_by : Duties → BuiltChange → Option Unsent
sent_by d (built_change.Sends number) = waiting number d.unsent
sent_by d it = None

-- in version 6: it needs a credit, and its endpoint has none that is young enough
abbrev pub lacks_credit : (slack : ℕ) → Duties → Host → (place : ℕ) → Unsent → Bool
lacks_credit slack d host place u =
    u.costs && not (has_credit place (earliest_credit slack u.since) (pick d.credits host))

abbrev pub sends_in_excess : Header → (slack : ℕ) → Duties → Option Unsent → TouchedEndpoint → Bool
sends_in_excess h slack d sent t =
    says_sender h.version && option_map_or (lacks_credit slack d t.host t.place) sent false

-- the rule that the line of a segment breaks by what it shows
abbrev pub rule_of : Untruth → Rule
rule_of untruth.Blocks = rules.SackUntrue
rule_of untruth.Echo = rules.Echo
rule_of untruth.Clock = rules.ClockFalls

-- that rule alone, if there is one
abbrev pub untrue_rules : Option Untruth → List (Rule × Bool)
untrue_rules None = []
untrue_rules (Some untruth) = (rule_of untruth, true) ∷ []

-- the limits on repetition, what may be shown, and the measurement that is due; `lacks`: an acknowledgment is sent
-- without a credit; `untrue`: what its line shows that may not be
abbrev pub limit_rules : Header → TouchedEndpoint → (counts lacks : Bool) → (untrue : Option Untruth) → (due : Bool)
    → Owed → List (Rule × Bool)
limit_rules h t counts lacks untrue due o =
    (rules.Resent, not (says_sender h.version) && is_resent h.congestion t.event t.before o.again)
    ∷ (rules.ResentBeyond, not (says_sender h.version) && is_resent_beyond h.congestion t.event t.before)
    ∷ (rules.AckExcess, is_excess counts o.answers || lacks) ∷ (untrue_rules untrue ++ (rules.SampleDue, due) ∷ [])

-- which duties of an endpoint are late: in version 6, by the stricter ones
abbrev pub judged_lates : Header → (slack moment : ℕ) → Duties → (brought : Option ℕ) → Host → (place : ℕ) → View
    → Lates
judged_lates h slack moment d brought host place v =
    if says_sender h.version
    then with_brought (is_late slack moment (acknowledge_due brought))
    (strict_lates h.grain slack moment v (listener_closed d host v) (owed_by d host place) (strict_by d host place))
    else lates_of slack moment v (listener_closed d host v) (owed_by d host place)

-- the rules of an endpoint that a step touches
abbrev pub touched_rules : Header → (slack moment : ℕ) → Duties → (counts : Bool) → (untrue : Option Untruth)
    → (sent : Option Unsent) → Sampling → TouchedEndpoint → List (Rule × Bool)
touched_rules h slack moment d counts untrue sent s t =
    late_rules (judged_lates h slack moment d (brought_by sent) t.host t.place t.before)
    ++ limit_rules h t counts (sends_in_excess h slack d sent t) untrue
    (is_sample_due s (strict_by d t.host t.place).timed) (owed_by d t.host t.place)

-- the rules of a step at no endpoint; of a call that waits, nothing is owed but its answer
abbrev pub answer_rules : (slack moment : ℕ) → Duties → (untrue : Option Untruth) → CallChange → List (Rule × Bool)
answer_rules slack moment d untrue change =
    untrue_rules untrue ++ (rules.AnswerLate, is_answer_late slack moment d.waits change) ∷ []

-- all rules of duties at a step; one that begins, answers or ends a call that waits touches no endpoint. `untrue`: what
-- the line of a segment shows that may not be
abbrev pub duty_rules : Header → (slack moment : ℕ) → Duties → (untrue : Option Untruth) → Observation
    → List (Rule × Bool)
duty_rules h slack moment d untrue s =
    (rules.Dropped, drops_needed d s.dropping) ∷ (rules.Discarded, s.discards)
    ∷ (rules.ProcessLate, leaves_late slack moment d s.inbox_change)
    ∷ (rules.SendLate, sent_late slack moment (built_by d s.built_change))
    ∷ on s.touched (answer_rules slack moment d untrue s.call_change)
    (touched_rules h slack moment d (counts_now (built_by d s.built_change)) untrue (sent_by d s.built_change)
    s.sampling)

-- what is owed after a step at an endpoint, which is then seen like this
abbrev pub owed_table_after : (after : View) → (moment : ℕ) → (counts : Bool) → Duties → TouchedEndpoint
    → Both (List (ℕ × Owed))
owed_table_after after moment counts d t =
    with_host d.owed t.host
    (insert_entry nat_eq (pick d.owed t.host) t.place
    (owed_after t.event t.before after moment (listener_closed d t.host t.before) counts (owed_by d t.host t.place)))

-- the listener for which an endpoint counts: until it is accepted or CLOSED
abbrev pub counts_for : View → Option ℕ
counts_for v = if is_closed v.state then None else v.listener

-- a listener has one child more, or one less
abbrev pub joined : List (ℕ × Listening) → (place : ℕ) → List (ℕ × Listening)
joined table l =
    insert_entry nat_eq table l (record (listening_at table l) { children = one_more (listening_at table l).children })

abbrev pub left : List (ℕ × Listening) → (place : ℕ) → List (ℕ × Listening)
left table l =
    insert_entry nat_eq table l (record (listening_at table l) { children = (listening_at table l).children - 1 })

abbrev pub closed_at : (moment : ℕ) → List (ℕ × Listening) → (place : ℕ) → List (ℕ × Listening)
closed_at moment table l = insert_entry nat_eq table l (record (listening_at table l) { closed = Some moment })

-- an endpoint begins to count for a listener, or ends
abbrev pub moved : (before after : Option ℕ) → List (ℕ × Listening) → List (ℕ × Listening)
moved None None table = table
moved None (Some l) table = joined table l
moved (Some l) None table = left table l
moved (Some l) (Some m) table = table

abbrev pub moved_by : (after : View) → Both (List (ℕ × Listening)) → TouchedEndpoint → Both (List (ℕ × Listening))
moved_by after both t =
    with_host both t.host (moved (counts_for t.before) (counts_for after) (pick both t.host))

abbrev pub queued : (moment : ℕ) → Queueing → Both (List (ℕ × Listening)) → Both (List (ℕ × Listening))
queued moment queueing.Nothing both = both
queued moment (queueing.Accepts host l) both = with_host both host (left (pick both host) l)
queued moment (queueing.Closes host l) both = with_host both host (closed_at moment (pick both host) l)

abbrev pub listening_after : (after : View) → (moment : ℕ) → Observation → Both (List (ℕ × Listening))
    → Both (List (ℕ × Listening))
listening_after after moment s both = queued moment s.queueing (on s.touched both (moved_by after both))

-- the inbox after a step
abbrev pub inbox_after : (moment : ℕ) → InboxChange → List (ℕ × Option ℕ) → List (ℕ × Option ℕ)
inbox_after moment inbox_change.Nothing inbox = inbox
inbox_after moment (inbox_change.Enters line) inbox = insert_entry nat_eq inbox line (Some moment)
inbox_after moment (inbox_change.Leaves line) inbox = settled line inbox

-- whether a segment that is built now is a mere acknowledgment
abbrev pub builds_mere_ack : (after : View) → TouchedEndpoint → Bool
builds_mere_ack after t = by t.event
  where
    by : Event → Bool
    by (events.Builds m) = is_mere_ack m t.before after
    by event = false

-- the built segments after a step
abbrev pub built_after : (after : View) → (moment : ℕ) → Option TouchedEndpoint → BuiltChange → List (ℕ × Option Built)
    → List (ℕ × Option Built)
built_after after moment touched built_change.Nothing built = built
built_after after moment touched (built_change.Builds number) built =
    insert_entry nat_eq built number
    (Some (record { since = moment; counts = option_map_or (builds_mere_ack after) touched false }))
built_after after moment touched (built_change.Sends number) built = settled number built

-- what is owed by the stricter duties after a step at an endpoint
abbrev pub strict_table_after : (after : View) → (moment : ℕ) → Duties → (sent : Option Unsent) → Sampling
    → TouchedEndpoint → Both (List (ℕ × StrictOwed))
strict_table_after after moment d sent s t =
    with_host d.strict t.host
    (insert_entry nat_eq (pick d.strict t.host) t.place
    (strict_after s t.event t.before after moment (owed_by d t.host t.place).acknowledged sent
    (strict_by d t.host t.place)))

-- a segment that is built now takes over the acknowledgment that its endpoint owes
abbrev pub built_unsent : (after : View) → (moment : ℕ) → Duties → Option TouchedEndpoint → Unsent
built_unsent after moment d touched = record {
  since = moment;
  acknowledge = on touched None (λ t. taken_over t.event (strict_by d t.host t.place).acknowledge);
  spared = option_map_or (λ t. is_spared t.event t.before) touched false;
  costs =
      option_map_or (λ t. needs_credit t.event t.before after moment (strict_by d t.host t.place).kept_alive)
      touched false;
  keeps_alive = option_map_or (λ t. is_keep_alive t.event t.before after) touched false;
}

abbrev pub unsent_after : (after : View) → (moment : ℕ) → Duties → Option TouchedEndpoint → BuiltChange
    → List (ℕ × Option Unsent)
unsent_after after moment d touched built_change.Nothing = d.unsent
unsent_after after moment d touched (built_change.Builds number) =
    insert_entry nat_eq d.unsent number (Some (built_unsent after moment d touched))
unsent_after after moment d touched (built_change.Sends number) = settled number d.unsent

-- the credits of a host after a step at the endpoint at a place
abbrev pub credits_spent : (slack place : ℕ) → Option Unsent → List ℕ → List ℕ
credits_spent slack place None credits = credits
credits_spent slack place (Some u) credits =
    if u.costs then spent place (earliest_credit slack u.since) credits else credits

abbrev pub credits_earned : (earns : Bool) → (moment place : ℕ) → List ℕ → List ℕ
credits_earned earns moment place credits = if earns then earned (credit_of place moment) credits else credits

abbrev pub credits_after : (slack moment : ℕ) → Duties → (sent : Option Unsent) → (earns : Bool) → TouchedEndpoint
    → Both (List ℕ)
credits_after slack moment d sent earns t =
    with_host d.credits t.host
    (credits_earned earns moment t.place (credits_spent slack t.place sent (pick d.credits t.host)))

-- what is kept after a step, if its endpoint is then seen like this; `strict`: for the stricter duties, too. Calls that
-- wait are left as they are
abbrev pub duties_after : (strict : Bool) → (slack : ℕ) → (after : View) → (moment : ℕ) → Observation → Duties → Duties
duties_after strict slack after moment s d = record {
  owed = on s.touched d.owed (owed_table_after after moment (counts_now (built_by d s.built_change)) d);
  listening = listening_after after moment s d.listening;
  inbox = inbox_after moment s.inbox_change d.inbox;
  built = built_after after moment s.touched s.built_change d.built;
  strict =
      if strict then on s.touched d.strict (strict_table_after after moment d (sent_by d s.built_change) s.sampling)
      else d.strict;
  unsent = if strict then unsent_after after moment d s.touched s.built_change else d.unsent;
  credits =
      if strict then on s.touched d.credits (credits_after slack moment d (sent_by d s.built_change) s.earns)
      else d.credits;
  waits = d.waits;
}
