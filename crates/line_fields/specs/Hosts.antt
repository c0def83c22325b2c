-- Hosts as numbers.
use Rattle.std.specs.Prelude.{◌≤◌, ℕ, ◌==◌, if◌then◌else◌, Result, Ok}
use Rattle.case_forms.specs.declared.calls.Host.{Host}
use Rattle.case_forms.specs.declared.calls.Host.TheVariants.{Zero, One}
use Rattle.case_forms.specs.declared.version.Version.{Version}
use Rattle.case_forms.specs.declared.version.Version.TheVariants.{Four, FourHalf, Five, FiveHalf, Six, SixHalf}
use Rattle.case_forms.specs.Versions.{is_half, says_sender, says_slack}
use Rattle.line_fields.specs.declared.fault.TextFault.{TextFault}
use Rattle.line_fields.specs.Word.{Rest}
use Rattle.line_fields.specs.Reading.{◌>>=◌, number_field}

-- the number of a host
abbrev pub host_number : Host → ℕ
host_number Zero = 0
host_number One = 1

-- the host of a number
abbrev pub host_of : ℕ → Host
host_of n = if n == 0 then Zero else One

-- the greatest number of a host in texts of this version: those of a half case have only host 0
abbrev pub greatest_host : Version → ℕ
greatest_host v = if is_half v then 0 else 1

-- the texts of this version may name this host
abbrev pub IsHost : Version → Host → Type 0
IsHost v host = host_number host ≤ greatest_host v

-- the next field, which is such a host
unfoldable pub host_field : Version → Rest → Result (Host × Rest) TextFault
host_field v r = do
  n ← number_field 0 (greatest_host v) r
  Ok (host_of n.0, n.1)

-- the version of one recorded host, or of two, that says no more and no less than this one: 4, 5 or 6
abbrev pub half_of : Version → Version
half_of v = if says_sender v then SixHalf else if says_slack v then FiveHalf else FourHalf

abbrev pub whole_of : Version → Version
whole_of v = if says_sender v then Six else if says_slack v then Five else Four

-- version 4, 5 or 6 with this many hosts
abbrev pub hosted : Version → ℕ → Version
hosted v count = if count == 1 then half_of v else whole_of v
