-- How a run ends, by what is requested.
use Rattle.std.specs.Prelude.{ℕ, List, Option, IfSome, codes}
use Rattle.checker.specs.Cases.{case_result}
use Rattle.cli.specs.HexText.{segment_in}
use Rattle.answer_stream.specs.Endings.{EndsMany}
use Rattle.answers.specs.Output.{line_of, status_of}
use Rattle.cli.specs.Output.{Ends}
use Rattle.cli.specs.Recorded.{EndsRecord}
use Rattle.cli.specs.SegmentText.{segment_line, segment_status}
use Rattle.cli.specs.declared.request.Request.{Request}
use Rattle.cli.specs.declared.request.Request.TheVariants.{Help, Files, Command, Unknown}
use Rattle.cli.specs.declared.request.Command.TheVariants.{Check, Many, Record, Segment}

-- a run that does this, on this input, ends with this status and has written this; help is some text, and no contract
-- knows what a file contains (`run_files` says how a run on two texts ends)
abbrev pub EndsFor : Request → Option (List ℕ) → ℕ → Option (List ℕ) → Option (List ℕ) → Type 0
EndsFor (Help topic) input status old new = (text : List ℕ) × Ends 0 text status old new
EndsFor (Files trace witness) input status old new = Unit {0}
EndsFor (Command Check) input status old new =
    IfSome input (λ text. Ends (status_of (case_result text)) (line_of (case_result text)) status old new)
EndsFor (Command (Many workers)) input status old new = IfSome input (λ text. EndsMany text status old new)
EndsFor (Command (Record plan)) input status old new = EndsRecord plan status old new
EndsFor (Command (Segment text)) input status old new =
    Ends (segment_status (segment_in text.now)) (segment_line (segment_in text.now)) status old new
EndsFor Unknown input status old new = Ends 3 (codes "bad usage\n") status old new
