use Rattle.std.proofs.Common.{◌≡◌, Bool, true, refl, sym, ◌∙◌}
use Rattle.std.specs.Prelude.{if◌then◌else◌, Option, Some}
use Rattle.spec_network.specs.Tables.{on}
use Rattle.case_forms.specs.Versions.{says_sender}
use Rattle.spec_duties.specs.declared.observations.Observation.{Observation}
use Rattle.spec_duties.specs.declared.observations.TouchedEndpoint.{TouchedEndpoint}
use Rattle.spec_flights.specs.Clocks.{excused_at}
use Rattle.spec_flights.specs.Flights.{flight_at}
use Rattle.flights.proofs.flights.Flights.excused.Goals as goal

-- a step at an endpoint, in a version that excuses
at_endpoint : (excuses : Bool) (o : Option TouchedEndpoint) (t : TouchedEndpoint) (s : Observation) (excused_by : TouchedEndpoint → Observation)
    → excuses ≡ true → o ≡ Some t → (if excuses then on o s excused_by else s) ≡ excused_by t
at_endpoint excuses o t s excused_by is some = rw (is, some) refl

pub returns-in-Some : goal.returns-in-Some
returns-in-Some c =
    c.excused_by.ensures
    ∙ sym
    (at_endpoint (says_sender c.args.header.now.version) c.args.seen.now.touched c.in-Some.touched c.args.seen.now
    (λ t. excused_at (flight_at c.args.self.now t.host t.place).clocks c.args.seen.now)
    (sym c.says_sender.ensures ∙ c.if-not-says_sender.false) c.in-Some.is)
