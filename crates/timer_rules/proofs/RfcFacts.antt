-- Values of RFC 6298, said of the definitions, so that a slip in one of them does not check.
use Rattle.std.proofs.Common.{◌≡◌, ℕ, refl, Option, None, Some}
use Rattle.case_forms.specs.declared.version.Growth.TheVariants.{OneSegment}
use Rattle.case_forms.specs.declared.version.Sender.TheVariants.{Reno}
use Rattle.case_forms.specs.declared.trace.Header.{Header}
use Rattle.case_forms.specs.declared.version.Version.TheVariants.{One}
use Rattle.case_forms.specs.declared.version.Initial.TheVariants.{Rfc5681}
use Rattle.case_forms.specs.declared.version.Judged.TheVariants.{Full}
use Rattle.case_forms.specs.declared.timer.Timer.TheVariants.{Rto, Persist, Msl2}
use Rattle.timer_rules.specs.declared.fault.TimerFault.TheVariants.{Off, Early}
use Rattle.timer_rules.specs.declared.timers.Timers.{Timers}
use Rattle.timer_rules.specs.Timers.{start, sampled, backed_off, raised_for_lost_syn, armed, refusal, expired}

-- a clock tick of a millisecond, a lifetime of two minutes, and this minimum of the timeout
abbrev header : ℕ → Header
header minrto =
    record {
      version = One;
      skew = 0;
      msl = 120000000;
      grain = 1000;
      minrto = minrto;
      extra = 0;
      initial = Rfc5681;
      congestion = Full;
      slack = None;
      sender = Reno;
      growth = OneSegment;
    }

-- what samples leave of the timers
abbrev estimate : Option ℕ → ℕ → ℕ → Timers
estimate srtt rttvar rto = record start { srtt = srtt; rttvar = rttvar; rto = rto }

-- samples (RFC 6298, 2.1 to 2.5)
pub second_at_start : start.rto ≡ 1000000
second_at_start = refl

pub first_sample : sampled start 31 (header 0) ≡ estimate (Some 31) 15 1031
first_sample = refl

pub second_sample : sampled (sampled start 31 (header 0)) 100000 (header 0) ≡ estimate (Some 12527) 25003 112539
second_sample = refl

pub shorter_sample : sampled (estimate (Some 80000) 4000 1000000) 40000 (header 0) ≡ estimate (Some 75000) 13000 127000
shorter_sample = refl

pub least_timeout : (sampled start 31 (header 1000000)).rto ≡ 1000000
least_timeout = refl

pub longest_timeout : (sampled start 20000001 (header 0)).rto ≡ 60000000
longest_timeout = refl

-- back-off (RFC 6298, 5.5 and 5.7)
pub doubled_once : (backed_off start).rto ≡ 2000000
doubled_once = refl

pub doubled_to_a_minute : (backed_off (estimate None 0 32000000)).rto ≡ 60000000
doubled_to_a_minute = refl

pub three_seconds : (raised_for_lost_syn start).rto ≡ 3000000
three_seconds = refl

pub longer_stays : (raised_for_lost_syn (estimate None 0 4000000)).rto ≡ 4000000
longer_stays = refl

-- the earliest expiries
pub off : refusal start Rto 5000000 (header 0) ≡ Some Off
off = refl

pub early : refusal (armed start Rto 30) Rto 999029 (header 0) ≡ Some Early
early = refl

pub in_time : refusal (armed start Rto 30) Rto 999030 (header 0) ≡ None
in_time = refl

pub early_probe : refusal (armed start Persist 61) Persist 999060 (header 0) ≡ Some Early
early_probe = refl

pub probe_in_time : refusal (armed start Persist 61) Persist 999061 (header 0) ≡ None
probe_in_time = refl

pub early_end : refusal (armed start Msl2 100) Msl2 239999099 (header 0) ≡ Some Early
early_end = refl

pub end_in_time : refusal (armed start Msl2 100) Msl2 239999100 (header 0) ≡ None
end_in_time = refl

pub never_before_it_was_armed : refusal (record (armed start Rto 30) { rto = 500 }) Rto 29 (header 0) ≡ Some Early
never_before_it_was_armed = refl

-- what expiries do
pub timeout_runs_anew : expired (armed start Rto 30) Rto 999030 ≡ record (armed start Rto 999030) { rto = 2000000 }
timeout_runs_anew = refl

pub probe_runs_anew : expired (armed start Persist 61) Persist 999061 ≡ armed start Persist 999061
probe_runs_anew = refl

pub wait_is_over : expired (armed start Msl2 100) Msl2 240000100 ≡ start
wait_is_over = refl
