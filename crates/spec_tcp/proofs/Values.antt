-- Values that are computed: which numbers read as which positions, and with what fast recovery begins.
use Rattle.std.proofs.Common.{◌≡◌, refl, ℕ, true, false, None, Some}
use Rattle.std.specs.Prelude.{replicate}
use Rattle.case_forms.specs.declared.calls.State.TheVariants as states
use Rattle.seqno.specs.declared.word.Word.{Word}
use Rattle.seqno.specs.Numbers.{number_of}
use Rattle.seqno.specs.Near.{near_position}
use Rattle.streams.specs.Transmissions.{once}
use Rattle.window_rules.specs.declared.control.Profile.TheVariants as profiles
use Rattle.window_rules.specs.declared.growth.SlowStart.TheVariants.{Recommended}
use Rattle.spec_tcp.specs.Endpoints.{Endpoint, new_endpoint}
use Rattle.spec_tcp.specs.Arrives.OtherStates.Sequence.{reads_as}
use Rattle.spec_tcp.specs.Recovery.{greatest_at_recovery}

abbrev pub word : ℕ → Word
word n = record { 0 = n }

-- half the number space below is still read, and not below position 0
pub half_below_is_read : near_position 2147483648 (word 0) (word 0) ≡ Some 0
half_below_is_read = refl

pub nothing_is_below_zero : near_position 0 (word 4294967294) (word 4294967293) ≡ None
nothing_is_below_zero = refl

pub numbers_wrap : near_position 3000000000 (word 4294967294) (word 3) ≡ Some 4294967301
numbers_wrap = refl

-- a copy that is more than half the number space old doesn't read as what it was
pub old_copy_is_read : reads_as 2147483648 (Some (word 7)) (number_of (word 7) 0) 0 ≡ true
old_copy_is_read = refl

pub older_copy_is_not_read : reads_as 2147483649 (Some (word 7)) (number_of (word 7) 0) 0 ≡ false
older_copy_is_not_read = refl

pub copy_far_ahead_is_not_read : reads_as 0 (Some (word 7)) (number_of (word 7) 2147483648) 2147483648 ≡ false
copy_far_ahead_is_not_read = refl

-- after three duplicate acknowledgments, with segments of 10 bytes and 50 in flight: half of the flight, and three
-- segments above it (RFC 5681, 3.2, steps 2 and 3)
abbrev doubting : Endpoint
doubting =
    let e : Endpoint = new_endpoint 4000 80 None states.Established (profiles.Rfc5681 Recommended) in
    record e {
      stream = record e.stream { snd_una = 1 };
      transmissions = replicate 51 (once 0);
      control = record e.control { values = record e.control.values { cwnd = 50; smss = 10; dup = 3 } };
    }

pub the_greatest_pair : greatest_at_recovery doubting 7 ≡ (55, 25)
the_greatest_pair = refl
