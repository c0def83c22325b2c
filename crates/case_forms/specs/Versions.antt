-- What differs between the versions of the texts.
use Rattle.std.specs.Prelude.{ℕ, Bool, true, false}
use Rattle.case_forms.specs.declared.version.Version.{Version}
use Rattle.case_forms.specs.declared.version.Version.TheVariants.{One, Two, Three, Four, FourHalf, Five, FiveHalf, Six}
use Rattle.case_forms.specs.declared.version.Version.TheVariants.{SixHalf}

-- the number of the first event line of a trace, after the lines of its header
abbrev pub first_line_of : Version → ℕ
first_line_of One = 7
first_line_of Two = 8
first_line_of Three = 9
first_line_of Four = 10
first_line_of FourHalf = 10
first_line_of Five = 11
first_line_of FiveHalf = 11
first_line_of Six = 13
first_line_of SixHalf = 13

-- windows may be scaled
abbrev pub scales : Version → Bool
scales One = false
scales Two = true
scales Three = true
scales Four = true
scales FourHalf = true
scales Five = true
scales FiveHalf = true
scales Six = true
scales SixHalf = true

-- a half case: only host 0 is recorded
abbrev pub is_half : Version → Bool
is_half One = false
is_half Two = false
is_half Three = true
is_half Four = false
is_half FourHalf = true
is_half Five = false
is_half FiveHalf = true
is_half Six = false
is_half SixHalf = true

-- the header states how much of congestion control is judged
abbrev pub says_congestion : Version → Bool
says_congestion One = false
says_congestion Two = false
says_congestion Three = false
says_congestion Four = true
says_congestion FourHalf = true
says_congestion Five = true
says_congestion FiveHalf = true
says_congestion Six = true
says_congestion SixHalf = true

-- the header states how late a host may be
abbrev pub says_slack : Version → Bool
says_slack One = false
says_slack Two = false
says_slack Three = false
says_slack Four = false
says_slack FourHalf = false
says_slack Five = true
says_slack FiveHalf = true
says_slack Six = true
says_slack SixHalf = true

-- the header names the sender's congestion control, and duties are the stronger ones of version 6
abbrev pub says_sender : Version → Bool
says_sender One = false
says_sender Two = false
says_sender Three = false
says_sender Four = false
says_sender FourHalf = false
says_sender Five = false
says_sender FiveHalf = false
says_sender Six = true
says_sender SixHalf = true

-- the version in the first line of a text: both of version 4 have the same, as have both of version 5 and of version 6
abbrev pub named_as : Version → Version
named_as One = One
named_as Two = Two
named_as Three = Three
named_as Four = Four
named_as FourHalf = Four
named_as Five = Five
named_as FiveHalf = Five
named_as Six = Six
named_as SixHalf = Six
