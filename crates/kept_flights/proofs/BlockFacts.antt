-- Computed runs: one in which an endpoint sends a block of what it doesn't have, which is refused; and one of two hosts,
-- in which a block reports what the peer has.
use Rattle.std.proofs.Common.{◌≡◌, ℕ, ◌<◌, inl, inr, true, false, List, [], ◌∷◌, Option, None, Some, refl, sym, subst, nat_eq, arith}
use Rattle.std.proofs.lemmas.Bool.Decides.{nat_tests}
use Rattle.std.proofs.lemmas.Option.{same_Some}
use Rattle.seqno.specs.Near.{near_position}
use Rattle.seqno.specs.declared.word.Word.{Word}
use Rattle.case_forms.specs.declared.calls.Answer.TheVariants as answers
use Rattle.case_forms.specs.declared.calls.Call.TheVariants as calls
use Rattle.case_forms.specs.declared.calls.Host.TheVariants.{One, Zero}
use Rattle.case_forms.specs.declared.steps.Flags.{Flags}
use Rattle.case_forms.specs.declared.steps.SegmentPlan.{SegmentPlan}
use Rattle.case_forms.specs.declared.steps.TakeChoice.{TakeChoice}
use Rattle.case_forms.specs.declared.trace.Header.{Header}
use Rattle.case_forms.specs.declared.trace.Wire.{Wire}
use Rattle.case_forms.specs.declared.version.Judged.TheVariants.{Recovery}
use Rattle.case_forms.specs.declared.version.Version.TheVariants.{Six}
use Rattle.streams.proofs.RangeLemmas.{counted_all}
use Rattle.spec_network.specs.HostSteps.{Lawful, start}
use Rattle.spec_network.specs.Hosts.{At, Begin, Effect, Finish, Gets, Hears, HostStep, Makes, Sends, Stamped, Takes}
use Rattle.spec_tcp.specs.Machine.{tcp, tcp_shape}
use Rattle.spec_tcp.specs.declared.endpoint.EndpointId.{EndpointId}
use Rattle.spec_tcp.proofs.Telling.{ack, header, syn}
use Rattle.spec_duties.specs.declared.observations.Arrival.{Arrival}
use Rattle.spec_cases.specs.Cases.{Dutiful, first_known}
use Rattle.kept_flights.specs.Holding.{Has, IsSent, WasKept}
use Rattle.kept_flights.specs.Peers.{IsYoung, PeerHas}
use Rattle.kept_flights.specs.Places.{observed, seen_before}
use Rattle.kept_flights.specs.Reported.{IsReported}
use Rattle.kept_flights.proofs.Facts.{chooses, does, lawful, plan, segment, six}
use Rattle.kept_flights.proofs.Reporting.{may_report}

-- ---- a block of what isn't there

-- after both SYNs, which permit blocks, an endpoint reports position 2, which it never got
abbrev untrue : Wire
untrue = segment 4000 80 1001 5001 16 (1 ∷ 1 ∷ 5 ∷ 10 ∷ 0 ∷ 0 ∷ 19 ∷ 138 ∷ 0 ∷ 0 ∷ 19 ∷ 139 ∷ []) []

abbrev boasting : List (Stamped tcp_shape)
boasting =
    record { moment = 20; step = Begin 13 2 (calls.Connect Zero 4000 80) }
    ∷ record { moment = 20; step = Effect 2 (answers.Given 6) }
    ∷ record { moment = 21; step = Finish 14 2 (answers.Given 6) }
    ∷ does 30 (Makes (plan 0 0 syn (Some 1000)))
    ∷ does 30 (Sends 15 1 (segment 4000 80 1000 0 2 (4 ∷ 2 ∷ 1 ∷ 1 ∷ []) []))
    ∷ does 60 (Hears 16 (segment 80 4000 5000 1001 18 (4 ∷ 2 ∷ 1 ∷ 1 ∷ []) []))
    ∷ does 60 (Takes 16 chooses)
    ∷ does 60 (Makes (plan 1 0 ack None))
    ∷ does 61 (Sends 17 2 untrue)
    ∷ []

it_is_a_run : Lawful (tcp six) (start (tcp six)) boasting
it_is_a_run = lawful six (start (tcp six)) boasting refl

abbrev boaster : EndpointId
boaster = record { host = Zero; number = 0 }

block_is_sent : IsSent six boasting 8 boaster untrue
block_is_sent = record { line = 17; number = 2; step = (61, refl); event = _; before = _; happens = refl }

-- no step kept anything
nothing_kept : (place : ℕ) → place < 8 → (observed six boasting place).kept.upto ≡ 0
nothing_kept place less =
    let is : nat_eq (observed six boasting place).kept.upto 0 ≡ true =
    counted_all (λ n. nat_eq (observed six boasting n).kept.upto 0) 0 8 refl place (omega arith) (omega (arith, less)) in
    grind (arith, nat_tests, is)

-- so the law refuses it
pub untrue_is_refused : Dutiful six (first_known six) boasting → ⊥
untrue_is_refused may =
    let told =
    may_report six boasting refl it_is_a_run may 8 0 boaster untrue (record { left = record { 0 = 5002 }; right = record { 0 = 5003 } })
    (omega arith) refl block_is_sent in
    let t = told.is_true in
    let irs : told.irs ≡ record { 0 = 5000 } = sym (same_Some (record { 0 = 5000 }) told.irs told.known) in
    let left : 2 ≡ t.left =
    same_Some 2 t.left (subst (λ (i : Word). near_position (seen_before six boasting 8 boaster).rcv_nxt i (record { 0 = 5002 }) ≡ Some t.left) irs t.begins) in
    let right : 3 ≡ t.right =
    same_Some 3 t.right (subst (λ (i : Word). near_position (seen_before six boasting 8 boaster).rcv_nxt i (record { 0 = 5003 }) ≡ Some t.right) irs t.ends) in
    none (t.each 2 (omega (arith, left)) (omega (arith, right)))
  where
    none : Has six boasting 8 boaster 2 → ⊥
    none (inl below) = omega (arith, below)
    none (inr k) =
        let upto = k.upto in
        let bare = nothing_kept k.kept k.earlier in
        omega (arith, upto, bare)

-- ---- two hosts

abbrev two : Header
two = record (header 60000000 0) { version = Six; congestion = Recovery }

abbrev there : (moment : ℕ) → HostStep tcp_shape → Stamped tcp_shape
there moment d = record { moment = moment; step = At One d }

-- what host 1 builds
abbrev reply : (pos len : ℕ) → Flags → Option ℕ → SegmentPlan
reply pos len flags iss = record (plan pos len flags iss) { lport = 80; rport = 4000 }

abbrev keeps : TakeChoice
keeps = record chooses { keep = true }

-- a listener's child has no congestion window yet
abbrev waits : TakeChoice
waits = record { cwnd = 0; keep = false; sample = false }

abbrev first_syn : Wire
first_syn = segment 4000 80 1000 0 2 (4 ∷ 2 ∷ 1 ∷ 1 ∷ []) []

abbrev second_syn : Wire
second_syn = segment 80 4000 5000 1001 18 (4 ∷ 2 ∷ 1 ∷ 1 ∷ []) []

abbrev last_byte : Wire
last_byte = segment 4000 80 1002 5001 16 [] (101 ∷ [])

abbrev report : Wire
report = segment 80 4000 5001 1001 16 (1 ∷ 1 ∷ 5 ∷ 10 ∷ 0 ∷ 0 ∷ 3 ∷ 234 ∷ 0 ∷ 0 ∷ 3 ∷ 235 ∷ []) []

-- of two bytes, the second arrives first: host 1 reports it, and host 0 reads that
abbrev reporting : List (Stamped tcp_shape)
reporting =
    record { moment = 10; step = Begin 13 1 (calls.Listen One 80 1) }
    ∷ record { moment = 10; step = Effect 1 (answers.Given 7) }
    ∷ record { moment = 11; step = Finish 14 1 (answers.Given 7) }
    ∷ record { moment = 20; step = Begin 15 2 (calls.Connect Zero 4000 80) }
    ∷ record { moment = 20; step = Effect 2 (answers.Given 6) }
    ∷ record { moment = 21; step = Finish 16 2 (answers.Given 6) }
    ∷ does 30 (Makes (plan 0 0 syn (Some 1000)))
    ∷ does 30 (Sends 17 1 first_syn)
    ∷ there 40 (Gets 18 17 first_syn)
    ∷ there 40 (Takes 18 waits)
    ∷ there 41 (Makes (reply 0 0 (record syn { ack = true }) (Some 5000)))
    ∷ there 41 (Sends 19 2 second_syn)
    ∷ does 60 (Gets 20 19 second_syn)
    ∷ does 60 (Takes 20 chooses)
    ∷ does 61 (Makes (plan 1 0 ack None))
    ∷ does 61 (Sends 21 3 (segment 4000 80 1001 5001 16 [] []))
    ∷ there 70 (Gets 22 21 (segment 4000 80 1001 5001 16 [] []))
    ∷ there 70 (Takes 22 chooses)
    ∷ record { moment = 100; step = Begin 23 2 (calls.Send 6 (104 ∷ 101 ∷ [])) }
    ∷ record { moment = 100; step = Effect 2 (answers.Given 2) }
    ∷ record { moment = 101; step = Finish 24 2 (answers.Given 2) }
    ∷ does 110 (Makes (plan 1 1 ack None))
    ∷ does 110 (Sends 25 4 (segment 4000 80 1001 5001 16 [] (104 ∷ [])))
    ∷ does 110 (Makes (plan 2 1 ack None))
    ∷ does 110 (Sends 26 5 last_byte)
    ∷ there 120 (Gets 27 26 last_byte)
    ∷ there 120 (Takes 27 keeps)
    ∷ there 121 (Makes (reply 1 0 ack None))
    ∷ there 121 (Sends 28 6 report)
    ∷ does 140 (Gets 29 28 report)
    ∷ does 140 (Takes 29 chooses)
    ∷ []

they_are_a_run : Lawful (tcp two) (start (tcp two)) reporting
they_are_a_run = lawful two (start (tcp two)) reporting refl

abbrev reporter : EndpointId
reporter = record { host = One; number = 0 }

report_is_sent : IsSent two reporting 28 reporter report
report_is_sent = record { line = 28; number = 6; step = (121, refl); event = _; before = _; happens = refl }

abbrev second_is_reported : IsReported two reporting 30 boaster 2
second_is_reported = record { line = 29; choice = chooses; step = (140, refl); event = _; before = _; happens = refl; reports = refl }

abbrev arrival : Arrival
arrival = record { pos = 1; ack = 1; length = 0 }

it_arrives : (observed two reporting 30).arrival ≡ Some arrival
it_arrives = refl

it_is_young : IsYoung second_is_reported.before.snd_max arrival
it_is_young = let top : second_is_reported.before.snd_max ≡ 3 = refl in omega (arith, top)

-- host 1 kept it, though it isn't next in order
second_was_kept : WasKept two reporting 30 reporter 2
second_was_kept = record {
  kept = 26;
  earlier = omega arith;
  line = 27;
  choice = keeps;
  step = (120, refl);
  event = _;
  before = _;
  happens = refl;
  from = omega arith;
  upto = omega arith;
}

first_is_next : (seen_before two reporting 30 reporter).rcv_nxt ≡ 1
first_is_next = refl

-- so the premises of both laws can be met, and what they say is true there
pub peer_has_it : PeerHas two reporting 30 boaster 2
peer_has_it = (reporter, refl, inr second_was_kept)
