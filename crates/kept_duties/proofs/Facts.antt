-- What the definitions say of a few steps.
use Rattle.std.proofs.Common.{◌≡◌, ◌≤◌, ℕ, inl, inr, true, false, [], ◌∷◌, None, Some, refl, arith}
use Rattle.std.specs.Prelude.{◌==◌}
use Rattle.case_forms.specs.declared.timer.RecoveryChange.TheVariants as change
use Rattle.case_forms.specs.declared.calls.Host.TheVariants.{Zero, One}
use Rattle.case_forms.specs.declared.named_line.Extras.TheVariants as extras
use Rattle.case_forms.specs.declared.named_line.NamedLine.{NamedLine}
use Rattle.case_forms.specs.declared.steps.Label.{Label}
use Rattle.case_forms.specs.declared.steps.Label.TheVariants as labels
use Rattle.case_forms.specs.declared.steps.SegmentPlan.{SegmentPlan}
use Rattle.case_forms.specs.declared.steps.Step.{Step}
use Rattle.case_forms.specs.declared.steps.TakeChoice.{TakeChoice}
use Rattle.case_forms.specs.declared.steps.Witness.{Witness}
use Rattle.case_forms.specs.declared.timer.Timer.TheVariants.{Persist}
use Rattle.case_forms.specs.declared.trace.Event.TheVariants as events
use Rattle.case_forms.specs.declared.trace.Header.{Header}
use Rattle.case_forms.specs.declared.trace.Trace.{Trace}
use Rattle.case_forms.specs.declared.trace.Wire.{Wire}
use Rattle.case_forms.specs.declared.version.Initial.TheVariants.{Rfc5681}
use Rattle.case_forms.specs.declared.version.Judged.TheVariants.{Full}
use Rattle.case_forms.specs.declared.version.Version.TheVariants.{Five, Six}
use Rattle.case_forms.specs.declared.version.Growth.TheVariants.{OneSegment}
use Rattle.case_forms.specs.declared.version.Sender.TheVariants.{Reno}
use Rattle.spec_duties.specs.Views.{unborn}
use Rattle.spec_duties.specs.declared.events.Event.TheVariants as happening
use Rattle.spec_duties.specs.declared.observations.TouchedEndpoint.{TouchedEndpoint}
use Rattle.spec_duties.specs.declared.views.View.{View}
use Rattle.checker.specs.Again.{nowhere}
use Rattle.kept_duties.specs.Counts.{builds_mere, count_before, event_for, sent_by}
use Rattle.kept_duties.specs.Expiries.{BuildsOldest, run_time, runs_on, runs_since}
use Rattle.kept_duties.specs.Made.{IsSentBy}
use Rattle.kept_duties.specs.Places.{ArrivesAt, BuildsAt, IsProcessed, SendsAt, built_before}
use Rattle.kept_duties.specs.Probes.{probe_time, probes_after}
use Rattle.kept_duties.specs.Repeats.{again_end, begins}
use Rattle.kept_duties.specs.Resets.{SendsReset, awaits_reset}
use Rattle.kept_duties.specs.Segments.{EndsBy, IsBuiltBefore, LeavesBy}
use Rattle.kept_duties.specs.Soon.{Answers, IsIdle, SendsOldest, SendsProbe}

-- an empty acknowledgment, and three bytes
abbrev ack : SegmentPlan
ack = record {
  lport = 80;
  rport = 4000;
  pos = 4;
  len = 0;
  flags = record { ack = true; rst = false; syn = false; fin = false };
  window = 9000;
  iss = None;
  shift = None;
}

abbrev bytes : SegmentPlan
bytes = record ack { pos = 2; len = 3 }

abbrev step_at : ℕ → Label NamedLine → Step
step_at moment label = record { moment = moment; label = label; span = nowhere }

abbrev choice : TakeChoice
choice = record { cwnd = 0; keep = true; sample = false }

-- a segment arrives at host 1 and is processed; two are built, and the first of them is sent
abbrev facts_witness : Witness
facts_witness = record {
  version = Five;
  steps =
      step_at 12 (labels.L (record { number = 11; extras = extras.One 9 }))
      ∷ step_at 13 (labels.T One 11 choice)
      ∷ step_at 14 (labels.M One ack)
      ∷ step_at 15 (labels.M One bytes)
      ∷ step_at 40 (labels.L (record { number = 12; extras = extras.One 1 }))
      ∷ [];
}

abbrev facts_header : Header
facts_header = record {
  version = Five;
  skew = 0;
  msl = 120000000;
  grain = 1000;
  minrto = 1000000;
  extra = 0;
  initial = Rfc5681;
  congestion = Full;
  slack = Some 30;
  sender = Reno;
  growth = OneSegment;
}

module _ (wire : Wire) where
  abbrev facts_trace : Trace
  facts_trace = record {
    header = facts_header;
    lines =
        record { number = 11; moment = 12; thread = 1; event = events.Came One wire; span = nowhere }
        ∷ record { number = 12; moment = 40; thread = 1; event = events.Sent One wire; span = nowhere }
        ∷ [];
  }

  arrives_here : ArrivesAt facts_trace facts_witness 0 12 One 11
  arrives_here = record {
    extras = extras.One 9;
    shown = record { number = 11; moment = 12; thread = 1; event = events.Came One wire; span = nowhere };
    wire = wire;
    step = record { span = nowhere; here = refl };
    is = refl;
    arrives = refl;
  }

  sent_here : SendsAt facts_trace facts_witness 4 40 One 1
  sent_here = record {
    line = 12;
    shown = record { number = 12; moment = 40; thread = 1; event = events.Sent One wire; span = nowhere };
    wire = wire;
    step = record { span = nowhere; here = refl };
    is = refl;
    sends = refl;
  }

  -- the first of the two is sent within 30 of 14
  in_time_here : IsSentBy facts_trace facts_witness 2 44 One 1
  in_time_here = record { later = 4; moment = 40; behind = omega arith; sends = sent_here; soon = omega arith }

  number_here : sent_by facts_trace (labels.L (record { number = 12; extras = extras.One 1 })) ≡ Some 1
  number_here = refl

  no_number_there : sent_by facts_trace (labels.L (record { number = 11; extras = extras.One 9 })) ≡ None
  no_number_there = refl

processed_here : LeavesBy facts_witness 0 42 One 11
processed_here = record {
  later = 1;
  moment = 13;
  after = omega arith;
  leaves = IsProcessed choice (record { span = nowhere; here = refl });
  soon = omega arith;
}

ends_here : EndsBy facts_witness 40
ends_here = omega arith

ends_later : EndsBy facts_witness 39 → ⊥
ends_later e = omega (arith, e)

built_here : IsBuiltBefore facts_witness 30 4 40 One 1
built_here = record {
  earlier = 2;
  since = 14;
  before = omega arith;
  builds = record { label = labels.M One ack; step = record { span = nowhere; here = refl }; builds = refl; count = refl };
  soon = omega arith;
}

second_is_built : BuildsAt facts_witness 3 15 One 2
second_is_built = record { label = labels.M One bytes; step = record { span = nowhere; here = refl }; builds = refl; count = refl }

two_are_built : built_before facts_witness 4 ≡ 2
two_are_built = refl

-- what counts, and for whom
abbrev sent_four : View
sent_four = record unborn { snd_una = 1; snd_max = 4; snd_wnd = 9000 }

mere_here : builds_mere (happening.Builds ack) sent_four sent_four ≡ true
mere_here = refl

not_with_bytes : builds_mere (happening.Builds bytes) sent_four sent_four ≡ false
not_with_bytes = refl

not_with_a_window : builds_mere (happening.Builds ack) sent_four (record sent_four { rcv_adv = 1 }) ≡ false
not_with_a_window = refl

-- of bytes at 2 to 4, position 4 wasn't built before
ends_at_four : again_end sent_four bytes ≡ 4
ends_at_four = refl

recovery_begins : begins (happening.Recovers change.Begins) sent_four sent_four ≡ true
recovery_begins = refl

building_does_not : begins (happening.Builds bytes) sent_four sent_four ≡ false
building_does_not = refl

one_in_three : count_before (λ place. place == 1) 3 ≡ 1
one_in_three = refl

abbrev touches_zero : TouchedEndpoint
touches_zero = record { host = Zero; place = 0; event = happening.Recovers change.Begins; before = unborn }

for_its_endpoint : event_for (record { host = Zero; number = 0 }) (Some touches_zero) ≡ Some (happening.Recovers change.Begins)
for_its_endpoint = refl

for_no_other_place : event_for (record { host = Zero; number = 1 }) (Some touches_zero) ≡ None
for_no_other_place = refl

for_no_other_host : event_for (record { host = One; number = 0 }) (Some touches_zero) ≡ None
for_no_other_host = refl

-- what ends a duty
ack_answers : Answers (happening.Sends (record { flags = ack.flags; pos = 4; length = 0; before_text = false })) sent_four sent_four
ack_answers = refl

first_position_again : SendsOldest (happening.Sends (record { flags = ack.flags; pos = 1; length = 1; before_text = false })) sent_four sent_four
first_position_again = inl (omega arith, omega arith)

later_position_is_not : SendsOldest (happening.Sends (record { flags = ack.flags; pos = 2; length = 1; before_text = false })) sent_four sent_four → ⊥
later_position_is_not (inl held) = omega (arith, held.0)
later_position_is_not (inr (inl shut)) = cc shut
later_position_is_not (inr (inr more)) = omega (arith, more)

acknowledged_instead : SendsOldest (happening.Recovers change.Begins) sent_four (record sent_four { snd_una = 2 })
acknowledged_instead = omega arith

reset_is_sent : SendsReset (happening.Sends (record { flags = record ack.flags { rst = true }; pos = 4; length = 0; before_text = false })) sent_four sent_four
reset_is_sent = refl

-- an endpoint with three bytes to send and nothing outstanding
abbrev idle : View
idle = record unborn { snd_una = 1; snd_max = 1; snd_wnd = 9000; end = 4; rcv_nxt = 1 }

waits_with_bytes : IsIdle idle
waits_with_bytes = record {
  open_yet = refl;
  acknowledged = refl;
  waits = inl (omega arith);
  may_begin = inr (omega arith, omega arith);
  window = inl (omega arith);
}

nothing_outstanding : IsIdle (record idle { snd_max = 2 }) → ⊥
nothing_outstanding i = omega (arith, i.acknowledged)

-- a child of listener 3 that has to be reset
abbrev child_of_three : View
child_of_three = record unborn { resets = true; listener = Some 3 }

child_awaits_reset : awaits_reset 3 child_of_three ≡ true
child_awaits_reset = refl

not_of_another_listener : awaits_reset 4 child_of_three ≡ false
not_of_another_listener = refl

-- a timer that runs since 5
abbrev armed_at_five : View
armed_at_five = record sent_four { timers = record sent_four.timers { rto_armed = Some 5 } }

runs_since_five : runs_since 5 armed_at_five ≡ true
runs_since_five = refl

not_since_six : runs_since 6 armed_at_five ≡ false
not_since_six = refl

not_into_a_closed_window : runs_since 5 (record armed_at_five { snd_wnd = 0 }) ≡ false
not_into_a_closed_window = refl

-- the same after a sample
abbrev sampled : View
sampled = record armed_at_five { timers = record armed_at_five.timers { srtt = Some 100 } }

runs_on_as_it_did : runs_on facts_header 5 armed_at_five armed_at_five ≡ true
runs_on_as_it_did = refl

not_with_another_time : runs_on facts_header 5 armed_at_five sampled ≡ false
not_with_another_time = refl

-- in version 6, with a clock that ticks every 1000 microseconds
abbrev six_header : Header
six_header = record facts_header { version = Six }

three_timeouts_before_a_sample : run_time six_header armed_at_five ≡ 3000000
three_timeouts_before_a_sample = refl

the_timeout_in_version_five : run_time facts_header sampled ≡ 1000000
the_timeout_in_version_five = refl

five_ticks_more : run_time six_header sampled ≡ 1005000
five_ticks_more = refl

twenty_when_doubled_twice : run_time six_header (record sampled { backoffs = 2 }) ≡ 1020000
twenty_when_doubled_twice = refl

at_most_a_minute : run_time six_header (record sampled { backoffs = 14 }) ≡ 60000000
at_most_a_minute = refl

-- four bytes from 1 on are outstanding, and three from there on are built again
oldest_again : BuildsOldest (happening.Builds (record ack { pos = 1; len = 3 })) (record sent_four { snd_una = 1; snd_max = 5 })
oldest_again = (omega arith, omega arith, omega arith, λ alone. absurd (let e : false ≡ true = alone.0 in cc e))

not_those_after_it : BuildsOldest (happening.Builds bytes) (record sent_four { snd_una = 1; snd_max = 5 }) → ⊥
not_those_after_it is = let low : 2 ≤ 1 = is.1 in omega (arith, low)

-- a FIN at 5 without bytes is outstanding, and is repeated
abbrev fin_at_five : SegmentPlan
fin_at_five = record ack { pos = 5; flags = record { ack = true; rst = false; syn = false; fin = true } }

not_a_fin_alone : BuildsOldest (happening.Builds fin_at_five) (record sent_four { snd_una = 5; snd_max = 6 }) → ⊥
not_a_fin_alone is = is.3 (refl, refl)

-- a window that is closed with six bytes left
abbrev shut : View
shut = record sent_four { snd_wnd = 0; end = 10; rcv_nxt = 1 }

shut_at_seventy : probes_after (happening.Recovers change.Begins) sent_four shut 70 None ≡ Some (record { since = 70; count = 0 })
shut_at_seventy = refl

probed_at_ninety : probes_after (happening.Expires Persist) shut shut 90 (Some (record { since = 70; count = 0 })) ≡ Some (record { since = 90; count = 1 })
probed_at_ninety = refl

opened_again : probes_after (happening.Recovers change.Begins) shut sent_four 95 (Some (record { since = 90; count = 1 })) ≡ None
opened_again = refl

after_two_probes : probe_time facts_header shut 2 ≡ 4000000
after_two_probes = refl

-- four times five ticks more in version 6
after_two_in_version_six : probe_time six_header shut 2 ≡ 4020000
after_two_in_version_six = refl

-- an empty segment just below the oldest position probes it, and one after all that was sent doesn't
keep_alive_probes : SendsProbe (happening.Sends (record { flags = ack.flags; pos = 0; length = 0; before_text = false })) shut shut
keep_alive_probes = inr (inl (refl, refl))

empty_at_the_end_does_not : SendsProbe (happening.Sends (record { flags = ack.flags; pos = 4; length = 0; before_text = false })) shut shut → ⊥
empty_at_the_end_does_not (inl held) = omega (arith, held.0)
empty_at_the_end_does_not (inr (inl below)) = omega (arith, below.1)
empty_at_the_end_does_not (inr (inr (inl more))) = omega (arith, more)
empty_at_the_end_does_not (inr (inr (inr opens))) = omega (arith, opens.1)

opened_instead : SendsProbe (happening.Recovers change.Begins) shut sent_four
opened_instead = inr (refl, omega arith)
