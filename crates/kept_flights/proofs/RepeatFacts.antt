-- A computed run, in which an endpoint whose SYN doesn't permit SACK builds a byte twice without a reason: data in flight refuses it.
use Rattle.std.proofs.Common.{◌≡◌, ℕ, ◌<◌, Bool, true, false, List, [], ◌∷◌, Option, None, Some, refl, sym, ap, subst, ◌∙◌, arith}
use Rattle.std.specs.Prelude.{not}
use Rattle.std.specs.Option.{option_map_or}
use Rattle.case_forms.specs.declared.calls.Answer.TheVariants as answers
use Rattle.case_forms.specs.declared.calls.Call.TheVariants as calls
use Rattle.case_forms.specs.declared.calls.Host.TheVariants.{Zero}
use Rattle.spec_network.specs.HostSteps.{Lawful, start}
use Rattle.spec_network.specs.Hosts.{Begin, Effect, Finish, Hears, Makes, Sends, Stamped, Takes}
use Rattle.spec_tcp.specs.Machine.{tcp, tcp_shape}
use Rattle.spec_tcp.specs.declared.endpoint.EndpointId.{EndpointId}
use Rattle.spec_tcp.proofs.Telling.{ack, syn}
use Rattle.streams.proofs.RangeLemmas.{counted_all}
use Rattle.spec_duties.specs.declared.events.Event.{Event}
use Rattle.spec_duties.specs.declared.events.Event.TheVariants.{Sends as Sent}
use Rattle.spec_duties.specs.declared.observations.SynChange.{SynChange}
use Rattle.spec_duties.specs.declared.observations.SynChange.TheVariants as syn_change
use Rattle.spec_duties.specs.declared.observations.TouchedEndpoint.{TouchedEndpoint}
use Rattle.spec_duties.specs.declared.views.View.{View}
use Rattle.spec_cases.specs.Cases.{Dutiful, first_known}
use Rattle.kept_flights.specs.Places.{Happens, observed}
use Rattle.kept_flights.specs.Reasons.{NoReason}
use Rattle.kept_flights.specs.Reported.{BothPermit, Holds, IsBuilt}
use Rattle.kept_flights.proofs.Facts.{chooses, does, lawful, plan, segment, six}
use Rattle.kept_flights.proofs.Repeats.{repeats}

-- of one byte
abbrev run : List (Stamped tcp_shape)
run =
    record { moment = 20; step = Begin 13 2 (calls.Connect Zero 4000 80) }
    ∷ record { moment = 20; step = Effect 2 (answers.Given 6) }
    ∷ record { moment = 21; step = Finish 14 2 (answers.Given 6) }
    ∷ does 30 (Makes (plan 0 0 syn (Some 1000)))
    ∷ does 30 (Sends 15 1 (segment 4000 80 1000 0 2 [] []))
    ∷ does 60 (Hears 16 (segment 80 4000 5000 1001 18 (4 ∷ 2 ∷ 1 ∷ 1 ∷ []) []))
    ∷ does 60 (Takes 16 chooses)
    ∷ record { moment = 100; step = Begin 17 2 (calls.Send 6 (104 ∷ [])) }
    ∷ record { moment = 100; step = Effect 2 (answers.Given 1) }
    ∷ record { moment = 101; step = Finish 18 2 (answers.Given 1) }
    ∷ does 110 (Makes (plan 1 1 ack None))
    ∷ does 110 (Sends 19 2 (segment 4000 80 1001 5001 16 [] (104 ∷ [])))
    ∷ does 120 (Makes (plan 1 1 ack None))
    ∷ []

it_is_a_run : Lawful (tcp six) (start (tcp six)) run
it_is_a_run = lawful six (start (tcp six)) run refl

abbrev sender : EndpointId
sender = record { host = Zero; number = 0 }

-- no SYN of the endpoint permits SACK
abbrev permits : SynChange → Bool
permits (syn_change.Sends true) = true
permits change = false

not_both : BothPermit six run 12 sender → ⊥
not_both b =
    let low = b.sent_before in
    let none : not (permits (observed six run b.sent).syn_change) ≡ true =
    counted_all (λ place. not (permits (observed six run place).syn_change)) 0 12 refl b.sent (omega arith) (omega (arith, low)) in
    let bad : false ≡ true = sym (ap (λ (c : SynChange). not (permits c)) b.sends.3) ∙ none in
    cc

-- between the two, its line alone is there
abbrev is_line : Event → Bool
is_line (Sent sending) = true
is_line event = false

line_alone : (place : ℕ) (event : Event) (before : View) → 10 < place → place < 12 → Happens (observed six run place) sender event before
    → is_line event ≡ true
line_alone place event before low high here =
    let is : place ≡ 11 = omega (arith, low, high) in
    let there : Happens (observed six run 11) sender event before = subst (λ (n : ℕ). Happens (observed six run n) sender event before) is here in
    sym (ap (λ (o : Option TouchedEndpoint). option_map_or (λ t. is_line t.event) o true) there)

no_reason : NoReason six run 10 12 sender 1
no_reason = record {
  no_timeout = λ place low high did. let bad = line_alone place _ did.0 low high did.1 in cc;
  no_persist_timeout = λ place low high did. let bad = line_alone place _ did.0 low high did.1 in cc;
  no_opening = λ place low high o. let bad = line_alone place _ o.before low high o.happens in cc;
  no_recovery = λ place low high b. let bad = line_alone place _ b.begins.0 low high b.begins.1 in cc;
  no_part = λ place low high part. let bad = line_alone place _ part.before low high part.happens in cc;
  no_lone_syn = λ zeroth place low high syn. omega (arith, zeroth);
  no_second_syn = λ zeroth place low high syn. omega (arith, zeroth);
}

first_is_built : IsBuilt six run 10 sender (plan 1 1 ack None)
first_is_built = record { step = (110, refl); before = _; happens = refl; no_fin_alone = refl }

second_is_built : IsBuilt six run 12 sender (plan 1 1 ack None)
second_is_built = record { step = (120, refl); before = _; happens = refl; no_fin_alone = refl }

it_is_held : Holds (plan 1 1 ack None) 1
it_is_held = (omega arith, omega arith)

pub data_in_flight_refuses_it : Dutiful six (first_known six) run → ⊥
data_in_flight_refuses_it may =
    repeats six run refl refl it_is_a_run may 10 12 1 sender (plan 1 1 ack None) (plan 1 1 ack None) (omega arith) not_both first_is_built it_is_held
    second_is_built it_is_held no_reason
