use Rattle.std.proofs.Common.{◌∙◌, ap}
use Rattle.std.specs.Option.{option_map}
use Rattle.segment.specs.Layout.{options_of}
use Rattle.segment.specs.Reading.{items_of, last_timestamps}
use Rattle.segment.proofs.Clocks.{timestamps_are, no_timestamps_are}
use Rattle.segment.proofs.options.timestamps.Goals as goal

pub returns-in-Some : goal.returns-in-Some
returns-in-Some c =
    timestamps_are (items_of (options_of c.args.bytes.now)) c.timestamps_among.result c.in-Some.carried
    (c.timestamps_among.ensures ∙ ap (λ options. option_map last_timestamps (items_of options)) c.options_in.ensures) c.in-Some.is

pub returns-in-None : goal.returns-in-None
returns-in-None c =
    no_timestamps_are (items_of (options_of c.args.bytes.now)) c.timestamps_among.result
    (c.timestamps_among.ensures ∙ ap (λ options. option_map last_timestamps (items_of options)) c.options_in.ensures) c.in-None.is
