-- What duties see of a step, where timestamps excuse that a segment is dropped: whether it asks for an acknowledgment may
-- be another, and whether it may be dropped. All else is as the step shows it.
use Rattle.std.proofs.Common.{◌≡◌, ℕ, ◌⊎◌, inl, inr, Bool, true, false, List, Option, Some, None, refl, ap, subst, ◌∙◌}
use Rattle.std.specs.Prelude.{◌&&◌, ◌||◌, if◌then◌else◌, is_some, nat_eq, not}
use Rattle.std.specs.List.{AllByRecursion}
use Rattle.std.specs.Option.{option_map}
use Rattle.indexmap.specs.IndexMap.{insert_entry}
use Rattle.case_forms.specs.States.{is_closed}
use Rattle.case_forms.specs.Versions.{says_sender}
use Rattle.case_forms.specs.declared.trace.Header.{Header}
use Rattle.spec_network.specs.Hosts.{World}
use Rattle.spec_network.specs.Tables.{Both, on}
use Rattle.spec_tcp.specs.Machine.{tcp_shape}
use Rattle.spec_tcp_laws.proofs.Rules.{true_false}
use Rattle.spec_duties.specs.Observations.{view_in}
use Rattle.spec_duties.specs.Owed.{once_closed, owed_after, owed_open}
use Rattle.spec_duties.specs.Watching.{Duties, answer_rules, built_after, builds_mere_ack, moved_by, queued, touched_rules}
use Rattle.spec_duties.specs.declared.answering.CallChange.{CallChange}
use Rattle.spec_duties.specs.declared.events.Event.{Event}
use Rattle.spec_duties.specs.declared.events.Event.TheVariants.{Builds, Calls, Drops, Expires, Opens, Processes, Recovers, Sends}
use Rattle.spec_duties.specs.declared.observations.BuiltChange.{BuiltChange}
use Rattle.spec_duties.specs.declared.observations.BuiltChange.TheVariants as built_change
use Rattle.spec_duties.specs.declared.observations.Dropping.{Dropping}
use Rattle.spec_duties.specs.declared.observations.Observation.{Observation}
use Rattle.spec_duties.specs.declared.observations.Queueing.{Queueing}
use Rattle.spec_duties.specs.declared.observations.Sampling.{Sampling}
use Rattle.spec_duties.specs.declared.observations.TouchedEndpoint.{TouchedEndpoint}
use Rattle.spec_duties.specs.declared.observations.Untruth.{Untruth}
use Rattle.spec_duties.specs.declared.owed.Owed.{Owed}
use Rattle.spec_duties.specs.declared.strict.Unsent.{Unsent}
use Rattle.spec_duties.specs.declared.tables.Built.{Built}
use Rattle.spec_duties.specs.declared.tables.Listening.{Listening}
use Rattle.spec_duties.specs.declared.views.View.{View}
use Rattle.spec_flights.specs.Clocks.{dropping_excused, event_excused, excused_at, excused_by, is_outdated, is_unstamped}
use Rattle.spec_flights.specs.Flights.{Flights, excused, flight_at}
use Rattle.spec_flights.specs.declared.clocks.Clocks.{Clocks}

-- ---- events

-- the same event, but for whether what is dropped asks for an acknowledgment
abbrev pub AsSeen : Event → Event → Type 0
AsSeen (Drops asks unlimited) event = (now : Bool) × (event ≡ Drops now unlimited)
AsSeen other event = event ≡ other

-- what doesn't read that holds of both
pub as_event : (Q : Event → Type 0) → ((asks now unlimited : Bool) → Q (Drops asks unlimited) → Q (Drops now unlimited)) → (event seen : Event)
    → AsSeen event seen → Q seen → Q event
as_event Q each (Drops asks unlimited) seen like q = each like.0 asks unlimited (subst Q like.1 q)
as_event Q each Opens seen like q = subst Q like q
as_event Q each (Calls aborts) seen like q = subst Q like q
as_event Q each (Processes length rst) seen like q = subst Q like q
as_event Q each (Builds m) seen like q = subst Q like q
as_event Q each (Sends s) seen like q = subst Q like q
as_event Q each (Expires timer) seen like q = subst Q like q
as_event Q each (Recovers change) seen like q = subst Q like q

as_excused : (outdated unstamped : Bool) (event : Event) → AsSeen event (event_excused outdated unstamped event)
as_excused outdated unstamped (Drops asks unlimited) = ((asks || outdated) && not unstamped, refl)
as_excused outdated unstamped Opens = refl
as_excused outdated unstamped (Calls aborts) = refl
as_excused outdated unstamped (Processes length rst) = refl
as_excused outdated unstamped (Builds m) = refl
as_excused outdated unstamped (Sends s) = refl
as_excused outdated unstamped (Expires timer) = refl
as_excused outdated unstamped (Recovers change) = refl

as_itself : (event : Event) → AsSeen event event
as_itself (Drops asks unlimited) = (asks, refl)
as_itself Opens = refl
as_itself (Calls aborts) = refl
as_itself (Processes length rst) = refl
as_itself (Builds m) = refl
as_itself (Sends s) = refl
as_itself (Expires timer) = refl
as_itself (Recovers change) = refl

-- ---- a step

abbrev pub touch_judged : (Event → Event) → TouchedEndpoint → TouchedEndpoint
touch_judged judge t = record t { event = judge t.event }

abbrev pub judged_by : (Event → Event) → Option TouchedEndpoint → Option TouchedEndpoint
judged_by judge o = option_map (touch_judged judge) o

-- what duties see of what a step shows
pub record Sees (h : Header) (s e : Observation) : Type 0 where
  pub judge : Event → Event
  pub alike : (event : Event) → AsSeen event (judge event)
  pub plain : says_sender h.version ≡ false → (event : Event) → judge event ≡ event
  pub is : e ≡ record s { touched = judged_by judge s.touched; dropping = e.dropping; earns = e.earns }

pub sees : (h : Header) (fs : Flights) (s : Observation) → Sees h s (excused h fs s)
sees h fs s = by (says_sender h.version) refl s.touched
  where
    same : (o : Option TouchedEndpoint) → o ≡ judged_by (λ event. event) o
    same None = refl
    same (Some t) = refl

    plainly : Sees h s s
    plainly = record {
      judge = λ event. event;
      alike = as_itself;
      plain = λ old event. refl;
      is = ap (λ (o : Option TouchedEndpoint). record s { touched = o }) (same s.touched);
    }

    at : says_sender h.version ≡ true → (c : Clocks) (b : Bool)
        → Sees h s (if b then excused_by (is_outdated c s) (is_unstamped c s) s else s)
    at six c true = record {
      judge = event_excused (is_outdated c s) (is_unstamped c s);
      alike = as_excused (is_outdated c s) (is_unstamped c s);
      plain = λ old event. absurd (true_false six old);
      is = refl;
    }
    at six c false = plainly

    by : (strict : Bool) → says_sender h.version ≡ strict → (o : Option TouchedEndpoint)
        → Sees h s (if strict then on o s (λ t. excused_at (flight_at fs t.host t.place).clocks s) else s)
    by false is o = plainly
    by true is None = plainly
    by true is (Some t) = at is (flight_at fs t.host t.place).clocks (is_some s.dropping)

-- timestamps excuse that the segment is dropped
pub record AreMistimed (h : Header) (fs : Flights) (s : Observation) : Type 0 where
  pub six : says_sender h.version ≡ true
  pub at : TouchedEndpoint
  pub touches : s.touched ≡ Some at
  pub fail : (is_outdated (flight_at fs at.host at.place).clocks s || is_unstamped (flight_at fs at.host at.place).clocks s) ≡ true

-- else it may be dropped as the step shows it
pub dropping_is : (h : Header) (fs : Flights) (s : Observation) → ((excused h fs s).dropping ≡ s.dropping) ⊎ AreMistimed h fs s
dropping_is h fs s = by (says_sender h.version) refl s.touched refl
  where
    Is : Observation → Type 0
    Is e = (e.dropping ≡ s.dropping) ⊎ AreMistimed h fs s

    none : (o : Option Dropping) → option_map (dropping_excused false) o ≡ o
    none None = refl
    none (Some d) = refl

    at : says_sender h.version ≡ true → (t : TouchedEndpoint) → s.touched ≡ Some t → (b : Bool)
        → Is (if b then excused_by (is_outdated (flight_at fs t.host t.place).clocks s) (is_unstamped (flight_at fs t.host t.place).clocks s) s else s)
    at six t touches true =
        test (is_outdated (flight_at fs t.host t.place).clocks s || is_unstamped (flight_at fs t.host t.place).clocks s) refl
      where
        test : (b : Bool) → (is_outdated (flight_at fs t.host t.place).clocks s || is_unstamped (flight_at fs t.host t.place).clocks s) ≡ b
            → (option_map (dropping_excused (is_outdated (flight_at fs t.host t.place).clocks s || is_unstamped (flight_at fs t.host t.place).clocks s))
            s.dropping ≡ s.dropping) ⊎ AreMistimed h fs s
        test true fails = inr (record { six = six; at = t; touches = touches; fail = fails })
        test false fine = inl (ap (λ (b : Bool). option_map (dropping_excused b) s.dropping) fine ∙ none s.dropping)
    at six t touches false = inl refl

    by : (strict : Bool) → says_sender h.version ≡ strict → (o : Option TouchedEndpoint) → s.touched ≡ o
        → Is (if strict then on o s (λ t. excused_at (flight_at fs t.host t.place).clocks s) else s)
    by false is o touches = inl refl
    by true is None touches = inl refl
    by true is (Some t) touches = at is t touches (is_some s.dropping)

-- ---- what that changes

module _ (judge : Event → Event) (alike : (event : Event) → AsSeen event (judge event)) where
  mere : (after : View) (t : TouchedEndpoint) → builds_mere_ack after (record t { event = judge t.event }) ≡ builds_mere_ack after t
  mere after t =
      as_event (λ (e : Event). builds_mere_ack after (record t { event = judge t.event }) ≡ builds_mere_ack after (record t { event = e }))
      (λ asks now unlimited q. q) t.event (judge t.event) (alike t.event) refl

  -- nothing of what is built
  pub built_seen : (w : World tcp_shape) (moment : ℕ) (o : Option TouchedEndpoint) (change : BuiltChange) (built : List (ℕ × Option Built))
      → built_after (view_in w (judged_by judge o)) moment (judged_by judge o) change built ≡ built_after (view_in w o) moment o change built
  built_seen w moment o built_change.Nothing built = refl
  built_seen w moment None (built_change.Builds number) built = refl
  built_seen w moment (Some t) (built_change.Builds number) built =
      ap (λ (b : Bool). insert_entry nat_eq built number (Some (record { since = moment; counts = b }))) (mere (view_in w (Some t)) t)
  built_seen w moment o (built_change.Sends number) built = refl

  -- nor of what listeners have
  pub listening_seen : (w : World tcp_shape) (moment : ℕ) (o : Option TouchedEndpoint) (q : Queueing) (both : Both (List (ℕ × Listening)))
      → queued moment q (on (judged_by judge o) both (moved_by (view_in w (judged_by judge o)) both))
      ≡ queued moment q (on o both (moved_by (view_in w o) both))
  listening_seen w moment None q both = refl
  listening_seen w moment (Some t) q both = refl

  -- nor of the rules of the endpoint
  pub rules_seen : (h : Header) (slack moment : ℕ) (d : Duties) (counts : Bool) (untrue : Option Untruth) (sent : Option Unsent) (s : Sampling)
      (change : CallChange) (o : Option TouchedEndpoint)
      → AllByRecursion (λ r. r.1 ≡ false) (on (judged_by judge o) (answer_rules slack moment d untrue change)
      (touched_rules h slack moment d counts untrue sent s))
      → AllByRecursion (λ r. r.1 ≡ false) (on o (answer_rules slack moment d untrue change) (touched_rules h slack moment d counts untrue sent s))
  rules_seen h slack moment d counts untrue sent s change None all = all
  rules_seen h slack moment d counts untrue sent s change (Some t) all =
      as_event (λ (e : Event). AllByRecursion (λ r. r.1 ≡ false) (touched_rules h slack moment d counts untrue sent s (record t { event = e })))
      (λ asks now unlimited q. q) t.event (judge t.event) (alike t.event) all

-- what an endpoint owes but for the acknowledgment
abbrev pub but_acknowledge : Owed → Owed
but_acknowledge o = record o { acknowledge = None }

-- that is all that is changed of what it owes
pub owed_seen : (event seen : Event) → AsSeen event seen → (before after : View) (moment : ℕ) (listener : Option ℕ) (counts : Bool) (o : Owed)
    → but_acknowledge (owed_after seen before after moment listener counts o)
    ≡ but_acknowledge (owed_after event before after moment listener counts o)
owed_seen event seen like before after moment listener counts o =
    as_event (λ (e : Event). but_acknowledge (owed_after seen before after moment listener counts o)
    ≡ but_acknowledge (owed_after e before after moment listener counts o))
    (λ asks now unlimited q. q ∙ dropped asks now unlimited (is_closed after.state)) event seen like refl
  where
    dropped : (asks now unlimited closed : Bool)
        → but_acknowledge (if closed then once_closed (owed_open (Drops asks unlimited) before after moment listener counts o)
        else owed_open (Drops asks unlimited) before after moment listener counts o)
        ≡ but_acknowledge (if closed then once_closed (owed_open (Drops now unlimited) before after moment listener counts o)
        else owed_open (Drops now unlimited) before after moment listener counts o)
    dropped asks now unlimited true = refl
    dropped asks now unlimited false = refl
