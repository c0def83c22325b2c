-- The first line of a witness.
use Rattle.std.specs.Prelude.{ℕ, List, codes}
use Rattle.case_forms.specs.declared.version.Version.{Version}
use Rattle.case_forms.specs.declared.version.Version.TheVariants.{One, Two, Three, Four, FourHalf, Five, FiveHalf}
use Rattle.case_forms.specs.declared.version.Version.TheVariants.{Six, SixHalf}

-- the text of the first line in each version
abbrev pub first_text : Version → List ℕ
first_text One = codes "witness 1"
first_text Two = codes "witness 2"
first_text Three = codes "witness 3"
first_text Four = codes "witness 4"
first_text FourHalf = codes "witness 4"
first_text Five = codes "witness 5"
first_text FiveHalf = codes "witness 5"
first_text Six = codes "witness 6"
first_text SixHalf = codes "witness 6"
