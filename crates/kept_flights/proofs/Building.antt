-- A segment that is built begins at or above the oldest unacknowledged position, and what it holds was sent then.
use Rattle.std.proofs.Common.{◌≡◌, ℕ, zero, suc, ◌+◌, ◌-◌, ◌<◌, ◌≤◌, Bool, true, false, List, [], ◌∷◌, length, replicate, Option, Some, None, refl}
use Rattle.std.proofs.Common.{ap, sym, subst, ◌∙◌, arith}
use Rattle.std.specs.Prelude.{◌==◌, ◌&&◌, ◌||◌, if◌then◌else◌, nat_lt, not, slice_get}
use Rattle.std.specs.Option.{option_map_or}
use Rattle.std.proofs.lemmas.Bool.Decides.{nat_tests}
use Rattle.std.proofs.lemmas.List.{length-append, length-replicate}
use Rattle.case_forms.specs.Versions.{says_sender}
use Rattle.case_forms.specs.declared.steps.SegmentPlan.{SegmentPlan}
use Rattle.case_forms.specs.declared.trace.Header.{Header}
use Rattle.case_forms.specs.declared.version.Version.{Version}
use Rattle.verdict.specs.declared.rule.Rule.TheVariants as rules
use Rattle.verdict.specs.Rules.{first_broken}
use Rattle.verdict.proofs.RuleLemmas.{none_all}
use Rattle.streams.specs.Transmissions.{made, mark, once}
use Rattle.streams.specs.declared.transmission.Transmission.{Transmission}
use Rattle.spec_network.specs.Hosts.{At, HostState, Makes, Stamped, World}
use Rattle.spec_network.specs.HostSteps.{Lawful, after, host_step_after, start}
use Rattle.spec_network.specs.Tables.{other, pick}
use Rattle.spec_tcp.specs.Calls.Close.{shut_down}
use Rattle.spec_tcp.specs.Endpoints.{snd_max}
use Rattle.spec_tcp.specs.HostTcp.{HostTcp, endpoint_of, with_endpoint}
use Rattle.spec_tcp.specs.Machine.{tcp, tcp_shape}
use Rattle.spec_tcp.specs.Makes.{after_making, endpoint_made, making_rules}
use Rattle.spec_tcp.specs.Makes.Payload.{is_bad_empty_place, is_bad_place, making_length, old_end}
use Rattle.spec_tcp.specs.declared.endpoint.Endpoint.{Endpoint}
use Rattle.spec_tcp.specs.declared.endpoint.EndpointId.{EndpointId}
use Rattle.spec_tcp_laws.specs.Consequences.{find}
use Rattle.spec_tcp_laws.proofs.Rules.{neither}
use Rattle.spec_tcp_laws.proofs.Sound.{modify_here}
use Rattle.spec_duties.specs.Observations.{observe, unseen}
use Rattle.spec_duties.specs.Views.{unborn, view_of}
use Rattle.spec_duties.specs.declared.events.Event.TheVariants.{Builds}
use Rattle.spec_duties.specs.declared.observations.Observation.{Observation}
use Rattle.spec_duties.specs.declared.views.View.{View}
use Rattle.kept_flights.specs.Places.{Happens, seen_before, world_before}
use Rattle.kept_flights.specs.Reported.{IsBuilt}
use Rattle.kept_flights.proofs.Positions.{permitted_at, world_next}
use Rattle.kept_flights.proofs.Shows.{AtPorts, ports_are}
use Rattle.kept_flights.proofs.Syns.{pick_here}

-- ---- one endpoint

not_below : (v : Version) (e : Endpoint) (m : SegmentPlan) → says_sender v ≡ true → 0 < making_length m → is_bad_place v e m ≡ false
    → e.stream.snd_una ≤ m.pos
not_below v e m six some good = reset m.flags.rst good
  where
    una : ℕ
    una = e.stream.snd_una

    above : nat_lt m.pos e.stream.snd_una ≡ false → e.stream.snd_una ≤ m.pos
    above is = grind (arith, nat_tests, is)

    held : (c : Bool) → (making_length m == 0) ≡ c
        → (if c then is_bad_empty_place e m
        else nat_lt m.pos e.stream.snd_una || nat_lt (snd_max e) m.pos
        || nat_lt m.pos (snd_max e) && not (says_sender v) && nat_lt e.recover (old_end e m)) ≡ false → e.stream.snd_una ≤ m.pos
    held true none good = absurd (let empty : making_length m ≡ 0 = grind (arith, nat_tests, none) in omega (arith, some, empty))
    held false is good =
        above (neither (nat_lt m.pos e.stream.snd_una) (nat_lt (snd_max e) m.pos)
        (neither (nat_lt m.pos e.stream.snd_una || nat_lt (snd_max e) m.pos)
        (nat_lt m.pos (snd_max e) && not (says_sender v) && nat_lt e.recover (old_end e m)) good).0).0

    no_answer : (syn ack : Bool) → (syn && ack && not (says_sender v)) ≡ false
    no_answer true true = ap not six
    no_answer true false = refl
    no_answer false ack = refl

    reset : (rst : Bool)
        → (if rst then nat_lt m.pos e.stream.snd_una || nat_lt (snd_max e) m.pos
        else if m.flags.syn && m.flags.ack && not (says_sender v) then false
        else if making_length m == 0 then is_bad_empty_place e m
        else nat_lt m.pos e.stream.snd_una || nat_lt (snd_max e) m.pos
        || nat_lt m.pos (snd_max e) && not (says_sender v) && nat_lt e.recover (old_end e m)) ≡ false → e.stream.snd_una ≤ m.pos
    reset true good = above (neither (nat_lt m.pos e.stream.snd_una) (nat_lt (snd_max e) m.pos) good).0
    reset false good =
        held (making_length m == 0) refl
        (sym (ap (λ (b : Bool). if b then false
        else if making_length m == 0 then is_bad_empty_place e m
        else nat_lt m.pos e.stream.snd_una || nat_lt (snd_max e) m.pos
        || nat_lt m.pos (snd_max e) && not (says_sender v) && nat_lt e.recover (old_end e m)) (no_answer m.flags.syn m.flags.ack)) ∙ good)

mark_long : (position count : ℕ) (all : List Transmission) → length (mark position count all) ≡ length all
mark_long position count [] = refl
mark_long (suc position) count (x ∷ all) = ap (λ n. suc n) (mark_long position count all)
mark_long zero zero (x ∷ all) = refl
mark_long zero (suc count) (x ∷ all) = ap (λ n. suc n) (mark_long zero count all)

made_long : (all : List Transmission) (position count moment : ℕ) → position + count ≤ length (made all position count moment)
made_long all position count moment =
    let both = length-append (mark position count all) (replicate (position + count - length all) (once moment)) in
    let first = mark_long position count all in
    let second = length-replicate (position + count - length all) (once moment) in
    omega (arith, both, first, second)

making_sends : (e : Endpoint) (m : SegmentPlan) (moment : ℕ) → m.pos + making_length m ≤ snd_max (after_making e m moment)
making_sends e m moment = by m.flags.rst
  where
    by : (b : Bool)
        → m.pos + making_length m ≤ snd_max (if b then record (shut_down (endpoint_made e m moment)) { reset_due = false } else endpoint_made e m moment)
    by true = made_long e.transmissions m.pos (making_length m) moment
    by false = made_long e.transmissions m.pos (making_length m) moment

-- ---- in a run

pub record Building (h : Header) (xs : List (Stamped tcp_shape)) (place : ℕ) (me : EndpointId) (m : SegmentPlan) (before : View) : Type 0 where
  pub is : before ≡ seen_before h xs place me
  pub low : (seen_before h xs place me).snd_una ≤ m.pos
  pub sent : m.pos + making_length m ≤ (seen_before h xs (suc place) me).snd_max

module _ (h : Header) (xs : List (Stamped tcp_shape)) (lawful : Lawful (tcp h) (start (tcp h)) xs) (six : says_sender h.version ≡ true)
    (place : ℕ) (me : EndpointId) (m : SegmentPlan) (b : IsBuilt h xs place me m) where
  abbrev w : World tcp_shape
  w = world_before h xs place

  abbrev body : HostTcp
  body = (pick w.hosts me.host).body

  abbrev x : Stamped tcp_shape
  x = record { moment = b.step.0; step = At me.host (Makes m) }

  at : AtPorts me.host body (Builds m) m.lport m.rport me (Builds m) b.before
  at =
      ports_are me.host body (Builds m) m.lport m.rport me (Builds m) b.before
      (subst (λ (s : Observation). Happens s me (Builds m) b.before)
      (ap (λ (o : Option (Stamped tcp_shape)). option_map_or (λ y. observe h y.moment w y.step) o unseen) b.step.1) b.happens)

  good : is_bad_place h.version at.endpoint m ≡ false
  good =
      let found : endpoint_of body m.lport m.rport ≡ Some at.endpoint =
      ap (λ (o : Option ℕ). option_map_or (λ i. slice_get body.endpoints i) o None) at.place ∙ at.there in
      let may : first_broken (making_rules h.version at.endpoint m) ≡ None =
      sym (ap (λ (o : Option Endpoint). first_broken (option_map_or (λ e. making_rules h.version e m) o ((rules.NoEndpoint, true) ∷ []))) found)
      ∙ permitted_at h (start (tcp h)) xs lawful place x b.step.1 in
      (none_all (making_rules h.version at.endpoint m) may).1.1.1.1.1.0

  now : find (world_before h xs (suc place)).hosts me ≡ Some (after_making at.endpoint m b.step.0)
  now =
      let goes : world_before h xs (suc place) ≡ after (tcp h) b.step.0 w (At me.host (Makes m)) =
      world_next h (start (tcp h)) xs place
      ∙ ap (λ (o : Option (Stamped tcp_shape)). option_map_or (λ y. after (tcp h) y.moment w y.step) o w) b.step.1 in
      ap (λ (v : World tcp_shape). find v.hosts me) goes
      ∙ ap (λ (k : HostState tcp_shape). slice_get k.body.endpoints me.number)
      (pick_here w.hosts me.host (host_step_after (tcp h) me.host b.step.0 (suc w.count) (pick w.hosts (other me.host)).wire (pick w.hosts me.host) (Makes m)))
      ∙ ap (λ (o : Option ℕ). slice_get (option_map_or (λ i. with_endpoint body i (λ e. after_making e m b.step.0)) o body).endpoints me.number) at.place
      ∙ modify_here (λ e. after_making e m b.step.0) body.endpoints me.number at.endpoint at.there

  pub building : 0 < making_length m → Building h xs place me m b.before
  building some = record {
    is = at.seen ∙ sym (ap (λ (o : Option Endpoint). option_map_or view_of o unborn) at.there);
    low =
        subst (λ (o : Option Endpoint). (option_map_or view_of o unborn).snd_una ≤ m.pos) (sym at.there) (not_below h.version at.endpoint m six some good);
    sent =
        subst (λ (o : Option Endpoint). m.pos + making_length m ≤ (option_map_or view_of o unborn).snd_max) (sym now)
        (making_sends at.endpoint m b.step.0);
  }
