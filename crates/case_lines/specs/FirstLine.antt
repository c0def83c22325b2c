-- The first line of a trace, which names the version.
use Rattle.std.specs.Prelude.{ℕ, Bool, ◌&&◌, if◌then◌else◌, List, [], ◌∷◌, codes}
use Rattle.std.specs.Str.{bytes_eq}
use Rattle.bstr.specs.Text.{without_terminator}
use Rattle.case_forms.specs.declared.version.Version.{Version}
use Rattle.case_forms.specs.declared.version.Version.TheVariants.{One, Two, Three, Four, FourHalf, Five, FiveHalf}
use Rattle.case_forms.specs.declared.version.Version.TheVariants.{Six, SixHalf}
use Rattle.line_fields.specs.Lines.{is_ended}
use Rattle.line_fields.specs.Spelling.{joined}

-- how the first line names the version
abbrev pub version_text : Version → List ℕ
version_text One = codes "1"
version_text Two = codes "2"
version_text Three = codes "3"
version_text Four = codes "4"
version_text FourHalf = codes "4"
version_text Five = codes "5"
version_text FiveHalf = codes "5"
version_text Six = codes "6"
version_text SixHalf = codes "6"

-- the fields of the first line
abbrev pub first_words : Version → List (List ℕ)
first_words v = codes "trace" ∷ version_text v ∷ []

-- the bytes of a line, with its end, are the first line of a trace of this version
abbrev pub begins_trace : Version → List ℕ → Bool
begins_trace v raw = is_ended raw && bytes_eq (without_terminator raw) (joined (first_words v))

-- the version in the first of these lines, 1 if it names none
abbrev pub version_named : List (List ℕ) → Version
version_named [] = One
version_named (raw ∷ raws) =
    if begins_trace Two raw then Two
    else if begins_trace Three raw then Three
    else if begins_trace Four raw then Four
    else if begins_trace Five raw then Five
    else if begins_trace Six raw then Six
    else One
