use Rattle.std.proofs.Common.{◌≡◌, ℕ, List}
use Rattle.cli.specs.RecordReading.{settings_of}
use Rattle.cli.specs.RecordWords.{TellEach}
use Rattle.cli.specs.declared.record_words.Setting.{Setting}
use Rattle.cli.specs.declared.record_words.Settings.{Settings}
use Rattle.cli.proofs.OptionWords.{texts}
use Rattle.cli.proofs.RecordOptions.{asked_plan, matched}
use Rattle.cli.proofs.record_words.plan_in.Goals as goal

pub returns-in-Some : goal.returns-in-Some
returns-in-Some c =
    let words = texts c.args.options.now in
    let (options, each, is) =
    matched ((options : List (Setting × ℕ)) → ¬ TellEach options words)
    (λ (settings : Settings). (options : List (Setting × ℕ)) × TellEach options words × (settings ≡ settings_of options))
    c.in_ok-settings.field-0 c.in-Some.settings c.in_ok-settings.ensures c.in-Some.is in
    asked_plan words options c.in-Some.settings c.plan.result each is c.plan.ensures
