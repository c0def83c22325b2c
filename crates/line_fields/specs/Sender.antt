-- The sender's congestion control, by name.
use Rattle.std.specs.Prelude.{ℕ, List, [], ◌∷◌, codes}
use Rattle.case_forms.specs.declared.version.Growth.{Growth}
use Rattle.case_forms.specs.declared.version.Growth.TheVariants.{OneSegment, TwoSegments, Any}
use Rattle.case_forms.specs.declared.version.Sender.{Sender}
use Rattle.case_forms.specs.declared.version.Sender.TheVariants.{Reno, Cubic}

-- the word for the sender's congestion control
abbrev pub sender_name : Sender → List ℕ
sender_name Reno = codes "reno"
sender_name Cubic = codes "cubic"

-- all of these words
abbrev pub all_senders : List Sender
all_senders = Reno ∷ Cubic ∷ []

-- the word for what a sender may add in slow start
abbrev pub growth_name : Growth → List ℕ
growth_name OneSegment = codes "1"
growth_name TwoSegments = codes "2"
growth_name Any = codes "any"

-- all of these words
abbrev pub all_growths : List Growth
all_growths = OneSegment ∷ TwoSegments ∷ Any ∷ []
