-- Computed examples of timestamps, and of what shows that a recovery wasn't needed.
use Rattle.std.proofs.Common.{◌≡◌, ℕ, true, false, None, Some, refl}
use Rattle.seqno.specs.declared.word.Word.{Word}
use Rattle.segment.specs.declared.options.TimestampPair.{TimestampPair}
use Rattle.case_forms.specs.declared.steps.SegmentPlan.{SegmentPlan}
use Rattle.spec_duties.specs.declared.events.Event.TheVariants.{Drops}
use Rattle.spec_duties.specs.declared.observations.Arrival.{Arrival}
use Rattle.spec_flights.specs.Clocks.{event_excused, is_older, newest_by}
use Rattle.spec_flights.specs.Undoing.{again_built, again_sent, echoes_older}
use Rattle.spec_flights.specs.declared.undoing.Again.{Again}

-- ---- timestamps

abbrev word : (n : ℕ) → Word
word n = record { 0 = n }

-- a clock is older if it is behind by less than half the numbers, or by half of them, even where it goes round
one_behind : is_older (word 4) (word 5) ≡ true
one_behind = refl

not_behind_itself : is_older (word 5) (word 5) ≡ false
not_behind_itself = refl

half_behind : is_older (word 5) (word 2147483653) ≡ true
half_behind = refl

more_than_half_behind : is_older (word 5) (word 2147483654) ≡ false
more_than_half_behind = refl

behind_by_a_turn : is_older (word 4294967295) (word 0) ≡ true
behind_by_a_turn = refl

abbrev arrival : (pos : ℕ) → Arrival
arrival pos = record { pos = pos; ack = 1; length = 0 }

abbrev stamped : (value echo : ℕ) → TimestampPair
stamped value echo = record { value = word value; echo = word echo }

-- up to position 10 everything was acknowledged: after the clock 7, a later one counts from a segment that begins there,
-- and not from one beyond it; an older one never does
later_counts : newest_by 10 (arrival 10) (stamped 8 1) (Some (word 7)) ≡ Some (word 8)
later_counts = refl

not_beyond : newest_by 10 (arrival 11) (stamped 8 1) (Some (word 7)) ≡ Some (word 7)
not_beyond = refl

older_stays_out : newest_by 10 (arrival 10) (stamped 6 1) (Some (word 7)) ≡ Some (word 7)
older_stays_out = refl

-- dropping what is too old asks for an acknowledgment, and dropping what lacks timestamps doesn't
outdated_asks : event_excused true false (Drops false true) ≡ Drops true true
outdated_asks = refl

unstamped_asks_not : event_excused false true (Drops true true) ≡ Drops false true
unstamped_asks_not = refl

other_stays : event_excused false false (Drops true false) ≡ Drops true false
other_stays = refl

-- ---- recoveries that weren't needed

-- the second segment was sent again with the clock 7
abbrev again : Again
again = record { number = 2; pos = 1; clock = Some (word 7) }

abbrev plan : SegmentPlan
plan = record {
  lport = 4000;
  rport = 80;
  pos = 5;
  len = 1;
  flags = record { syn = false; ack = true; fin = false; rst = false };
  window = 65535;
  iss = None;
  shift = None;
}

earlier_answers : echoes_older (Some (stamped 1 6)) again ≡ true
earlier_answers = refl

itself_answers : echoes_older (Some (stamped 1 7)) again ≡ false
itself_answers = refl

unknown_answers : echoes_older (Some (stamped 1 6)) (record again { clock = None }) ≡ false
unknown_answers = refl

-- only its own line shows its clock
its_line : again_sent 2 (Some (stamped 9 1)) again ≡ record again { clock = Some (word 9) }
its_line = refl

another_line : again_sent 3 (Some (stamped 9 1)) again ≡ again
another_line = refl

-- what is sent again later leaves it as it is
the_first_stays : again_built 3 plan false (Some again) ≡ Some again
the_first_stays = refl
