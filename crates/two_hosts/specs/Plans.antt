-- What both hosts of a recording begin with.
use Rattle.std.specs.Prelude.{◌≡◌, if◌then◌else◌, None}
use Rattle.case_forms.specs.Versions.{says_sender}
use Rattle.case_forms.specs.declared.version.Growth.TheVariants.{OneSegment}
use Rattle.case_forms.specs.declared.version.Sender.TheVariants.{Reno}
use Rattle.case_forms.specs.declared.calls.Host.TheVariants as hosts
use Rattle.case_forms.specs.declared.trace.Header.{Header}
use Rattle.case_forms.specs.declared.version.Initial.{Initial}
use Rattle.case_forms.specs.declared.version.Initial.TheVariants.{Rfc5681, Rfc6928}
use Rattle.case_forms.specs.declared.version.Judged.{Judged}
use Rattle.case_forms.specs.declared.version.Judged.TheVariants.{Full, NoControl}
use Rattle.case_forms.specs.declared.version.Version.{Version}
use Rattle.case_forms.specs.declared.version.Version.TheVariants.{One, Two, Three, Four, FourHalf, Five, FiveHalf, Six}
use Rattle.case_forms.specs.declared.version.Version.TheVariants.{SixHalf}
use Rattle.recorder.specs.Views.{BookView}

-- which RFC gives the first congestion window: version 1 always has that of RFC 5681
abbrev pub initial_of : Version → Initial
initial_of One = Rfc5681
initial_of Two = Rfc6928
initial_of Three = Rfc6928
initial_of Four = Rfc6928
initial_of FourHalf = Rfc6928
initial_of Five = Rfc6928
initial_of FiveHalf = Rfc6928
initial_of Six = Rfc6928
initial_of SixHalf = Rfc6928

-- all of congestion control is judged, where a text can say so
abbrev pub congestion_of : Version → Judged
congestion_of version = if says_sender version then NoControl else Full

-- times in microseconds: no skew, a segment lives at most an hour, timers may be a millisecond early, and RTO is at
-- least 200 milliseconds
abbrev pub header_of : Version → Header
header_of version =
    record {
      version = version;
      skew = 0;
      msl = 3600000000;
      grain = 1000;
      minrto = 200000;
      extra = 1;
      initial = initial_of version;
      congestion = congestion_of version;
      slack = None;
      sender = Reno;
      growth = OneSegment;
    }

-- the books of host 0 and of host 1, under one header
pub record AreBooks (zero one : BookView) (header : Header) : Type 0 where
  pub zero_is : zero.core.recorded.me ≡ hosts.Zero
  pub one_is : one.core.recorded.me ≡ hosts.One
  pub zero_header : zero.core.recorded.header ≡ header
  pub one_header : one.core.recorded.header ≡ header
