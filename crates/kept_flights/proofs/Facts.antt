-- A computed run, in which an endpoint builds again what a block reported, in fast recovery: data in flight refuses it.
use Rattle.std.proofs.Common.{◌≡◌, ℕ, false, List, [], ◌∷◌, ◌++◌, Option, None, Some, refl, sym, ap, subst, arith}
use Rattle.std.specs.Option.{option_map_or}
use Rattle.std.proofs.lemmas.Option.{none-some}
use Rattle.case_forms.specs.declared.calls.Answer.TheVariants as answers
use Rattle.case_forms.specs.declared.calls.Call.TheVariants as calls
use Rattle.case_forms.specs.declared.calls.Host.TheVariants.{Zero}
use Rattle.case_forms.specs.declared.steps.Flags.{Flags}
use Rattle.case_forms.specs.declared.steps.SegmentPlan.{SegmentPlan}
use Rattle.case_forms.specs.declared.steps.TakeChoice.{TakeChoice}
use Rattle.case_forms.specs.declared.timer.RecoveryChange.TheVariants.{Begins}
use Rattle.case_forms.specs.declared.trace.Header.{Header}
use Rattle.case_forms.specs.declared.trace.Wire.{Wire}
use Rattle.case_forms.specs.declared.version.Judged.TheVariants.{Recovery}
use Rattle.case_forms.specs.declared.version.Version.TheVariants.{SixHalf}
use Rattle.verdict.specs.Rules.{first_broken}
use Rattle.verdict.specs.declared.rule.Rule.{Rule}
use Rattle.byteorder.specs.Endian.{big_bytes}
use Rattle.segment.specs.Encoding.{offset_byte}
use Rattle.spec_network.specs.HostRules.{step_rules}
use Rattle.spec_network.specs.HostSteps.{Lawful, after, start}
use Rattle.spec_network.specs.Hosts.{At, Begin, Does, Effect, Finish, Hears, HostStep, Makes, Sends, Stamped, Takes, World}
use Rattle.spec_tcp.specs.Machine.{tcp, tcp_shape}
use Rattle.spec_tcp.specs.declared.endpoint.EndpointId.{EndpointId}
use Rattle.spec_tcp.proofs.Telling.{ack, header, syn}
use Rattle.spec_duties.specs.declared.events.Event.TheVariants.{Builds, Recovers}
use Rattle.spec_duties.specs.declared.observations.TouchedEndpoint.{TouchedEndpoint}
use Rattle.spec_duties.specs.declared.views.View.{View}
use Rattle.spec_cases.specs.Cases.{Dutiful, first_known}
use Rattle.flights.specs.Promises.{WhatIsToldStays}
use Rattle.kept_flights.specs.Places.{Happens, observed}
use Rattle.kept_flights.specs.Reported.{BothPermit, IsBuilt, HasBegunRecovery, Holds, IsReported, StaysOut}
use Rattle.kept_flights.proofs.Stays.{stays}

-- the first rule that steps break, one by one
abbrev pub broken : Header → World tcp_shape → List (Stamped tcp_shape) → Option Rule
broken h w [] = None
broken h w (x ∷ xs) =
    option_map_or (λ rule. Some rule) (first_broken (step_rules (tcp h) x.moment w x.step)) (broken h (after (tcp h) x.moment w x.step) xs)

-- if there is none, they are a run
pub lawful : (h : Header) (w : World tcp_shape) (xs : List (Stamped tcp_shape)) → broken h w xs ≡ None → Lawful (tcp h) w xs
lawful h w [] e = tt
lawful h w (x ∷ xs) e = go (first_broken (step_rules (tcp h) x.moment w x.step)) refl e (lawful h (after (tcp h) x.moment w x.step) xs)
  where
    go : (o : Option Rule) → first_broken (step_rules (tcp h) x.moment w x.step) ≡ o
        → option_map_or (λ rule. Some rule) o (broken h (after (tcp h) x.moment w x.step) xs) ≡ None
        → (broken h (after (tcp h) x.moment w x.step) xs ≡ None → Lawful (tcp h) (after (tcp h) x.moment w x.step) xs) → Lawful (tcp h) w (x ∷ xs)
    go None is e rest = (is, rest e)
    go (Some rule) is e rest = absurd (none-some rule (sym e))

-- host 0 alone is recorded
abbrev pub six : Header
six = record (header 60000000 0) { version = SixHalf; congestion = Recovery }

-- a segment with these options, and its bytes
abbrev pub segment : (src dst seq number flags : ℕ) → (options payload : List ℕ) → Wire
segment src dst seq number flags options payload = record {
  bytes =
      big_bytes 2 src ++ big_bytes 2 dst ++ big_bytes 4 seq ++ big_bytes 4 number ++ (offset_byte options ∷ flags ∷ []) ++ big_bytes 2 65535
      ++ (0 ∷ 0 ∷ 0 ∷ 0 ∷ []) ++ options ++ payload;
  seg = record {
    src = src;
    dst = dst;
    seq = record { 0 = seq };
    ack = record { 0 = number };
    flags = flags;
    window = 65535;
    mss = None;
    scale = None;
    options = options;
    payload = payload;
  };
}

abbrev pub plan : (pos len : ℕ) → Flags → Option ℕ → SegmentPlan
plan pos len flags iss = record {
  lport = 4000;
  rport = 80;
  pos = pos;
  len = len;
  flags = flags;
  window = 65535;
  iss = option_map_or (λ n. Some (record { 0 = n })) iss None;
  shift = None;
}

abbrev pub chooses : TakeChoice
chooses = record { cwnd = 10000; keep = false; sample = false }

abbrev pub does : (moment : ℕ) → HostStep tcp_shape → Stamped tcp_shape
does moment d = record { moment = moment; step = At Zero d }

-- both SYNs permit SACK; of two bytes, the second is reported, and then it is built again
abbrev run : List (Stamped tcp_shape)
run =
    record { moment = 20; step = Begin 13 2 (calls.Connect Zero 4000 80) }
    ∷ record { moment = 20; step = Effect 2 (answers.Given 6) }
    ∷ record { moment = 21; step = Finish 14 2 (answers.Given 6) }
    ∷ does 30 (Makes (plan 0 0 syn (Some 1000)))
    ∷ does 30 (Sends 15 1 (segment 4000 80 1000 0 2 (4 ∷ 2 ∷ 1 ∷ 1 ∷ []) []))
    ∷ does 60 (Hears 16 (segment 80 4000 5000 1001 18 (4 ∷ 2 ∷ 1 ∷ 1 ∷ []) []))
    ∷ does 60 (Takes 16 chooses)
    ∷ record { moment = 100; step = Begin 17 2 (calls.Send 6 (104 ∷ 101 ∷ [])) }
    ∷ record { moment = 100; step = Effect 2 (answers.Given 2) }
    ∷ record { moment = 101; step = Finish 18 2 (answers.Given 2) }
    ∷ does 110 (Makes (plan 1 1 ack None))
    ∷ does 110 (Sends 19 2 (segment 4000 80 1001 5001 16 [] (104 ∷ [])))
    ∷ does 110 (Makes (plan 2 1 ack None))
    ∷ does 110 (Sends 20 3 (segment 4000 80 1002 5001 16 [] (101 ∷ [])))
    ∷ does 140 (Hears 21 (segment 80 4000 5001 1001 16 [] []))
    ∷ does 140 (Takes 21 chooses)
    ∷ does 141 (Hears 22 (segment 80 4000 5001 1001 16 [] []))
    ∷ does 141 (Takes 22 chooses)
    ∷ does 142 (Hears 23 (segment 80 4000 5001 1001 16 (1 ∷ 1 ∷ 5 ∷ 10 ∷ 0 ∷ 0 ∷ 3 ∷ 234 ∷ 0 ∷ 0 ∷ 3 ∷ 235 ∷ []) []))
    ∷ does 142 (Takes 23 chooses)
    ∷ does 143 (Does (record { change = Begins; lport = 4000; rport = 80; cwnd = 10000; ssthresh = 10000 }))
    ∷ does 144 (Makes (plan 2 1 ack None))
    ∷ []

it_is_a_run : Lawful (tcp six) (start (tcp six)) run
it_is_a_run = lawful six (start (tcp six)) run refl

-- all that the law asks for, but that data in flight refuses no step
abbrev sender : EndpointId
sender = record { host = Zero; number = 0 }

both_permit : BothPermit six run 19 sender
both_permit = record {
  sent = 4;
  sent_before = omega arith;
  sends = (_, _, refl, refl);
  taken = 6;
  taken_before = omega arith;
  alone = false;
  takes = (_, _, refl, refl);
}

second_is_reported : IsReported six run 19 sender 2
second_is_reported = record { line = 23; choice = chooses; step = (142, refl); event = _; before = _; happens = refl; reports = refl }

second_stays_out : StaysOut six run 19 21 sender 2
second_stays_out = record { unbuilt = λ place m before low high. only place m before (omega (arith, low, high)); unacknowledged = omega arith }
  where
    only : (place : ℕ) (m : SegmentPlan) (before : View) → place ≡ 20 → Happens (observed six run place) sender (Builds m) before → Holds m 2 → ⊥
    only place m before is here holds =
        let there : Happens (observed six run 20) sender (Builds m) before =
        subst (λ (n : ℕ). Happens (observed six run n) sender (Builds m) before) is here in
        let same : Recovers Begins ≡ Builds m = ap (λ (o : Option TouchedEndpoint). option_map_or (λ t. t.event) o (Recovers Begins)) there in
        absurd cc

recovery_has_begun : HasBegunRecovery six run 21 sender
recovery_has_begun = record {
  begun = 20;
  begun_before = omega arith;
  before = _;
  begins = refl;
  no_timeout = λ later view low high here. omega (arith, low, high);
}

second_is_built : IsBuilt six run 21 sender (plan 2 1 ack None)
second_is_built = record { step = (144, refl); before = _; happens = refl; no_fin_alone = refl }

second_is_held : Holds (plan 2 1 ack None) 2
second_is_held = (omega arith, omega arith)

-- so it does
pub data_in_flight_refuses_it : WhatIsToldStays → Dutiful six (first_known six) run → ⊥
data_in_flight_refuses_it law may =
    stays law six run refl refl it_is_a_run may 19 21 2 sender (plan 2 1 ack None) (omega arith) both_permit second_is_reported second_stays_out
    recovery_has_begun second_is_built second_is_held
