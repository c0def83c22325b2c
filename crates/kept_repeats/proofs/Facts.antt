-- Computed runs in which both SYNs permit SACK, and an endpoint builds a byte again without a reason: data in flight refuses them.
use Rattle.std.proofs.Common.{◌≡◌, ℕ, ◌<◌, Bool, true, false, List, [], ◌∷◌, ◌++◌, Option, None, Some, refl, sym, ap, subst, ◌∙◌, arith}
use Rattle.std.specs.Prelude.{not}
use Rattle.std.specs.Option.{option_map_or}
use Rattle.case_forms.specs.declared.calls.Answer.TheVariants as answers
use Rattle.case_forms.specs.declared.calls.Call.TheVariants as calls
use Rattle.case_forms.specs.declared.calls.Host.TheVariants.{Zero}
use Rattle.case_forms.specs.declared.timer.RecoveryChange.TheVariants.{Begins}
use Rattle.streams.proofs.RangeLemmas.{counted_all}
use Rattle.spec_network.specs.HostSteps.{start}
use Rattle.spec_network.specs.Hosts.{Begin, Effect, Finish, Hears, Makes, Sends, Stamped, Takes}
use Rattle.spec_tcp.specs.Machine.{tcp, tcp_shape}
use Rattle.spec_tcp.specs.declared.endpoint.EndpointId.{EndpointId}
use Rattle.spec_tcp.proofs.Telling.{ack, syn}
use Rattle.spec_duties.specs.declared.events.Event.{Event}
use Rattle.spec_duties.specs.declared.events.Event.TheVariants.{Recovers, Sends as Sent}
use Rattle.spec_duties.specs.declared.observations.TouchedEndpoint.{TouchedEndpoint}
use Rattle.spec_duties.specs.declared.views.View.{View}
use Rattle.spec_cases.specs.Cases.{Dutiful, first_known}
use Rattle.kept_flights.specs.Places.{Happens, observed}
use Rattle.kept_flights.specs.Reported.{BothPermit, Holds, IsBuilt, IsReported, StaysOut}
use Rattle.kept_flights.proofs.Facts.{chooses, does, lawful, plan, segment, six}
use Rattle.kept_repeats.specs.Rescues.{IsRepeat, IsRescue}
use Rattle.kept_repeats.proofs.Repeating.{rescues}
use Rattle.kept_repeats.proofs.Voided.{voided}

-- two bytes wait, of which the first is sent
abbrev begun : List (Stamped tcp_shape)
begun =
    record { moment = 20; step = Begin 13 2 (calls.Connect Zero 4000 80) }
    ∷ record { moment = 20; step = Effect 2 (answers.Given 6) }
    ∷ record { moment = 21; step = Finish 14 2 (answers.Given 6) }
    ∷ does 30 (Makes (plan 0 0 syn (Some 1000)))
    ∷ does 30 (Sends 15 1 (segment 4000 80 1000 0 2 (4 ∷ 2 ∷ 1 ∷ 1 ∷ []) []))
    ∷ does 60 (Hears 16 (segment 80 4000 5000 1001 18 (4 ∷ 2 ∷ 1 ∷ 1 ∷ []) []))
    ∷ does 60 (Takes 16 chooses)
    ∷ record { moment = 100; step = Begin 17 2 (calls.Send 6 (104 ∷ 101 ∷ [])) }
    ∷ record { moment = 100; step = Effect 2 (answers.Given 2) }
    ∷ record { moment = 101; step = Finish 18 2 (answers.Given 2) }
    ∷ does 110 (Makes (plan 1 1 ack None))
    ∷ does 110 (Sends 19 2 (segment 4000 80 1001 5001 16 [] (104 ∷ [])))
    ∷ []

abbrev sender : EndpointId
sender = record { host = Zero; number = 0 }

-- ---- the second byte is sent and reported, and then it is built again

abbrev reported : List (Stamped tcp_shape)
reported =
    begun
    ++ (does 110 (Makes (plan 2 1 ack None))
    ∷ does 110 (Sends 20 3 (segment 4000 80 1002 5001 16 [] (101 ∷ [])))
    ∷ does 140 (Hears 21 (segment 80 4000 5001 1001 16 (1 ∷ 1 ∷ 5 ∷ 10 ∷ 0 ∷ 0 ∷ 3 ∷ 234 ∷ 0 ∷ 0 ∷ 3 ∷ 235 ∷ []) []))
    ∷ does 140 (Takes 21 chooses)
    ∷ does 144 (Makes (plan 2 1 ack None))
    ∷ [])

both_permit : BothPermit six reported 15 sender
both_permit = record {
  sent = 4;
  sent_before = omega arith;
  sends = (_, _, refl, refl);
  taken = 6;
  taken_before = omega arith;
  alone = false;
  takes = (_, _, refl, refl);
}

second_is_reported : IsReported six reported 15 sender 2
second_is_reported = record { line = 21; choice = chooses; step = (140, refl); event = _; before = _; happens = refl; reports = refl }

second_stays_out : StaysOut six reported 15 16 sender 2
second_stays_out = record { unbuilt = λ place m before low high here holds. omega (arith, low, high); unacknowledged = omega arith }

second_is_built : IsBuilt six reported 16 sender (plan 2 1 ack None)
second_is_built = record { step = (144, refl); before = _; happens = refl; no_fin_alone = refl }

pub report_is_kept : Dutiful six (first_known six) reported → ⊥
report_is_kept may =
    let v =
    voided six reported refl refl (lawful six (start (tcp six)) reported refl) may 15 16 2 sender (plan 2 1 ack None) (omega arith) both_permit
    second_is_reported second_stays_out (λ zeroth. absurd (omega (arith, zeroth))) second_is_built (omega arith, omega arith) in
    let low = v.after in
    let high = v.before in
    omega (arith, low, high)

-- ---- the first byte is built twice

abbrev repeated : List (Stamped tcp_shape)
repeated = begun ++ (does 120 (Makes (plan 1 1 ack None)) ∷ [])

-- between the two, its line alone is there
abbrev is_line : Event → Bool
is_line (Sent sending) = true
is_line event = false

line_alone : (place : ℕ) (event : Event) (before : View) → 10 < place → place < 12 → Happens (observed six repeated place) sender event before
    → is_line event ≡ true
line_alone place event before low high here =
    let is : place ≡ 11 = omega (arith, low, high) in
    let there : Happens (observed six repeated 11) sender event before =
    subst (λ (n : ℕ). Happens (observed six repeated n) sender event before) is here in
    sym (ap (λ (o : Option TouchedEndpoint). option_map_or (λ t. is_line t.event) o true) there)

first_is_built : IsBuilt six repeated 10 sender (plan 1 1 ack None)
first_is_built = record { step = (110, refl); before = _; happens = refl; no_fin_alone = refl }

built_again : IsBuilt six repeated 12 sender (plan 1 1 ack None)
built_again = record { step = (120, refl); before = _; happens = refl; no_fin_alone = refl }

it_is_held : Holds (plan 1 1 ack None) 1
it_is_held = (omega arith, omega arith)

it_is_repeated : IsRepeat six repeated sender (plan 1 1 ack None) 10 12
it_is_repeated = record {
  order = omega arith;
  position = 1;
  built = (plan 1 1 ack None, first_is_built, it_is_held);
  built_again = built_again;
  held = it_is_held;
  no_timeout = λ place low high did. let bad = line_alone place _ did.0 low high did.1 in cc;
  no_persist_timeout = λ place low high did. let bad = line_alone place _ did.0 low high did.1 in cc;
  no_opening = λ place low high o. let bad = line_alone place _ o.before low high o.happens in cc;
  no_recovery = λ place low high b. let bad = line_alone place _ b.begins.0 low high b.begins.1 in cc;
  no_part = λ place low high part. let bad = line_alone place _ part.1.before low high part.1.happens in cc;
  no_lone_syn = λ zeroth place low high syn. omega (arith, zeroth);
  no_second_syn = λ zeroth place low high syn. omega (arith, zeroth);
  no_loss = λ lost.
      let low = lost.later.later in
      let mid = lost.later.last.before in
      let high = lost.later.before in
      omega (arith, low, mid, high);
  no_probe = λ probe. let bad = line_alone probe.expired _ probe.expires.0 probe.after probe.before probe.expires.1 in cc;
}

-- no fast recovery begins, so it is no rescue
abbrev is_beginning : Event → Bool
is_beginning (Recovers Begins) = true
is_beginning event = false

abbrev begins : Option TouchedEndpoint → Bool
begins o = option_map_or (λ t. is_beginning t.event) o false

no_rescue : IsRescue six repeated sender (plan 1 1 ack None) 12 → ⊥
no_rescue r =
    let low = r.recovery.begun_before in
    let none : not (begins (observed six repeated r.recovery.begun).touched) ≡ true =
    counted_all (λ place. not (begins (observed six repeated place).touched)) 0 12 refl r.recovery.begun (omega arith) (omega (arith, low)) in
    let bad : false ≡ true = sym (ap (λ (o : Option TouchedEndpoint). not (begins o)) r.recovery.begins) ∙ none in
    cc

pub repeat_is_refused : Dutiful six (first_known six) repeated → ⊥
repeat_is_refused may =
    no_rescue (rescues six repeated refl refl (lawful six (start (tcp six)) repeated refl) may 10 12 sender (plan 1 1 ack None) it_is_repeated)
