-- The words of a command don't ask for help.
use Rattle.std.proofs.Common.{◌≡◌, ℕ, Bool, true, false, List, [], ◌∷◌, ◌++◌, codes, refl, ap, ◌∙◌, inl, inr}
use Rattle.std.specs.Prelude.{◌==◌, ◌&&◌, ◌||◌}
use Rattle.std.specs.Str.{bytes_eq}
use Rattle.clap.specs.Words.{Text}
use Rattle.help.specs.AskedHelp.{asks_help, is_help_option}
use Rattle.help.specs.declared.topics.Program.TheVariants.{Tcpwit}
use Rattle.two_hosts.specs.declared.plan.Plan.{Plan}
use Rattle.cli.specs.CommandLine.{AsksCheck, AsksSegment, is_dashed}
use Rattle.cli.specs.ManyWords.{AsksMany}
use Rattle.cli.specs.RecordWords.{AreOption, AsksRecord, TellEach, equals, numbers_of}
use Rattle.cli.specs.declared.record_words.Setting.{Setting}
use Rattle.cli.specs.declared.record_words.Setting.TheVariants.{Rounds, Lose, Format}

abbrev pub asks : List Text → Bool
asks words = asks_help Tcpwit words

pub check_words : (words : List Text) → AsksCheck words → asks words ≡ false
check_words words e = ap asks e

-- an option for help begins with a dash
neither : (b c d : Bool) → b ≡ false → ((b && c) || (b && d)) ≡ false
neither true c d e = cc
neither false c d e = refl

no_option : (text : Text) → is_dashed text ≡ false → is_help_option text ≡ false
no_option [] e = refl
no_option (first ∷ rest) e = neither (first == 45) (bytes_eq rest (codes "-help")) (bytes_eq rest (codes "h")) e

pub segment_words : (words : List Text) (text : Text) → AsksSegment words text → asks words ≡ false
segment_words words text (e, plain) = ap asks e ∙ ap (λ (b : Bool). b || false) (no_option text plain)

pub many_words : (words : List Text) (n : ℕ) → AsksMany words n → asks words ≡ false
many_words words n (text, inl form, s) = ap asks form
many_words words n (text, inr form, s) = ap asks form

-- two options of a recording are at least two words
abbrev recorded : List Text → Bool
recorded words = asks (codes "record" ∷ words)

behind_one : (word : Text) (next behind rest : List Text) (two : Setting) (text : Text) → AreOption two text next → rest ≡ next ++ behind
    → recorded (word ∷ rest) ≡ false
behind_one word next behind rest two text (inl form) e =
    ap (λ (ws : List Text). recorded (word ∷ ws)) (e ∙ ap (λ (ws : List Text). ws ++ behind) form)
behind_one word next behind rest two text (inr form) e =
    ap (λ (ws : List Text). recorded (word ∷ ws)) (e ∙ ap (λ (ws : List Text). ws ++ behind) form)

pair_words : (one two : Setting) (text other : Text) (first next rest behind words : List Text) → AreOption one text first → AreOption two other next
    → words ≡ first ++ rest → rest ≡ next ++ behind → recorded words ≡ false
pair_words one two text other first next rest behind words (inl form) more e f = ap recorded (e ∙ ap (λ (ws : List Text). ws ++ rest) form)
pair_words one two text other first next rest behind words (inr form) more e f =
    ap recorded (e ∙ ap (λ (ws : List Text). ws ++ rest) form) ∙ behind_one (equals one ++ text) next behind rest two other more f

option_words : (options : List (Setting × ℕ)) (rounds lose : ℕ) (words : List Text) → TellEach options words → numbers_of Rounds options ≡ rounds ∷ []
    → numbers_of Lose options ≡ lose ∷ [] → asks (codes "record" ∷ words) ≡ false
option_words [] rounds lose words told is_rounds is_lose = cc
option_words ((Rounds, n) ∷ []) rounds lose words told is_rounds is_lose = cc
option_words ((Lose, n) ∷ []) rounds lose words told is_rounds is_lose = cc
option_words ((Format, n) ∷ []) rounds lose words told is_rounds is_lose = cc
option_words (one ∷ two ∷ options) rounds lose words (first, rest, e, (text, form, s), (next, behind, f, (other, more, t), told)) is_rounds is_lose =
    pair_words one.0 two.0 text other first next rest behind words form more e f

pub record_words : (words : List Text) (plan : Plan) → AsksRecord words plan → asks words ≡ false
record_words words plan asked = ap asks asked.words_are ∙ option_words asked.options plan.rounds plan.lose asked.behind asked.told asked.rounds asked.lose
