-- What the words of a command line request.
use Rattle.std.specs.Prelude.{◌≡◌, Bool, true, false, ℕ, List}
use Rattle.case_forms.specs.Versions.{is_half, says_sender}
use Rattle.clap.specs.Words.{Text}
use Rattle.help.specs.AskedHelp.{asks_help}
use Rattle.help.specs.declared.topics.Program.TheVariants.{Tcpwit}
use Rattle.two_hosts.specs.declared.plan.Plan.{Plan}
use Rattle.cli.specs.CommandLine.{AsksCheck, AsksSegment}
use Rattle.cli.specs.FileWords.{AsksFiles}
use Rattle.cli.specs.ManyWords.{AsksMany}
use Rattle.cli.specs.RecordWords.{AsksRecord}
use Rattle.cli.specs.declared.request.Request.{Request}
use Rattle.cli.specs.declared.request.Request.TheVariants.{Help, Files, Command, Unknown}
use Rattle.cli.specs.declared.request.Command.TheVariants.{Check, Many, Record, Segment}

-- words that are no command of the program
pub record AskNone (words : List Text) : Type 0 where
  pub check : ¬ AsksCheck words
  pub files : (trace witness : Text) → ¬ AsksFiles words trace witness
  pub many : (n : ℕ) → ¬ AsksMany words n
  pub recording : (plan : Plan) → ¬ AsksRecord words plan
  pub segment : (text : Text) → ¬ AsksSegment words text

-- this is what the words request; no words that ask for help request anything else (`request_of`)
abbrev pub IsRequested : Request → List Text → Type 0
IsRequested (Help topic) words = asks_help Tcpwit words ≡ true
IsRequested (Files trace witness) words = AsksFiles words trace.now witness.now
IsRequested (Command Check) words = AsksCheck words
IsRequested (Command (Many workers)) words = AsksMany words workers
IsRequested (Command (Record plan)) words = AsksRecord words plan
IsRequested (Command (Segment text)) words = AsksSegment words text.now
IsRequested Unknown words = AskNone words

-- whether it is help or the version
abbrev pub asks_for_help : Request → Bool
asks_for_help (Help topic) = true
asks_for_help _ = false

-- whether it is a command that opens no file
abbrev pub is_command : Request → Bool
is_command (Command command) = true
is_command _ = false

-- whether it reads the input
abbrev pub reads_input : Request → Bool
reads_input (Command Check) = true
reads_input (Command (Many workers)) = true
reads_input _ = false

-- whether it answers many cases
abbrev pub answers_many : Request → Bool
answers_many (Command (Many workers)) = true
answers_many _ = false

-- whether it is a recording
abbrev pub records : Request → Bool
records (Command (Record plan)) = true
records _ = false

-- whether it opens files or starts threads that it can't do without, which may be refused
abbrev pub may_be_refused : Request → Bool
may_be_refused (Help topic) = false
may_be_refused (Files trace witness) = true
may_be_refused (Command command) = records (Command command)
may_be_refused Unknown = false

-- if it is a recording, then of both hosts, and in a version that judges neither data in flight nor probes
abbrev pub IsWhole : Request → Type 0
IsWhole (Command (Record plan)) = (is_half plan.version ≡ false) × (says_sender plan.version ≡ false)
IsWhole _ = Unit {0}
