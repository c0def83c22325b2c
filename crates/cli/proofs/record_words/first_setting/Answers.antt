use Rattle.std.proofs.Common.{List}
use Rattle.clap.specs.Words.{Text}
use Rattle.cli.specs.declared.record_words.Setting.{Setting}
use Rattle.cli.specs.declared.record_words.Setting.TheVariants.{Rounds, Lose, Format}
use Rattle.cli.specs.FileWords.{BeginsWith}
use Rattle.cli.specs.RecordWords.{dashed}
use Rattle.cli.proofs.OptionWords.{texts}
use Rattle.cli.proofs.record_words.first_setting.Goals as goal

pub returns-in_err-value : goal.returns-in_err-value
returns-in_err-value c = rw c.from_residual.ensures none
  where
    none : (s : Setting) (value : Text) (behind : List Text) → ¬ BeginsWith (dashed s) value behind (texts c.args.words.now)
    none Rounds = c.in_default.ensures
    none Lose = c.in_default-take_option.ensures
    none Format = c.in_err-value.ensures
