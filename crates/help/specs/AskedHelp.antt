-- The words that ask a program for its help or for its version.
use Rattle.std.specs.Prelude.{Bool, false, ◌||◌, ◌&&◌, ℕ, List, [], ◌∷◌, codes}
use Rattle.std.specs.Str.{bytes_eq}
use Rattle.help.specs.declared.topics.Program.{Program}
use Rattle.help.specs.declared.topics.Program.TheVariants.{Tcpwit, TcpwitLab}

-- an option for help
abbrev pub is_help_option : List ℕ → Bool
is_help_option word = bytes_eq word (codes "--help") || bytes_eq word (codes "-h")

-- an option for the version
abbrev pub is_version_option : List ℕ → Bool
is_version_option word = bytes_eq word (codes "--version") || bytes_eq word (codes "-V")

-- a subcommand of the program
abbrev pub is_subcommand : Program → List ℕ → Bool
is_subcommand Tcpwit word =
    bytes_eq word (codes "check") || bytes_eq word (codes "many") || bytes_eq word (codes "segment")
    || bytes_eq word (codes "record")
is_subcommand TcpwitLab word =
    bytes_eq word (codes "find") || bytes_eq word (codes "explain") || bytes_eq word (codes "show")
    || bytes_eq word (codes "draw") || bytes_eq word (codes "judge") || bytes_eq word (codes "remark")

-- whether these words ask the program for its help or its version: one of the options or `help` alone, an option for
-- help after a subcommand, or a subcommand after `help`
abbrev pub asks_help : Program → List (List ℕ) → Bool
asks_help program (word ∷ []) = bytes_eq word (codes "help") || is_help_option word || is_version_option word
asks_help program (first ∷ second ∷ []) =
    (is_subcommand program first && is_help_option second)
    || (bytes_eq first (codes "help") && is_subcommand program second)
asks_help program words = false
