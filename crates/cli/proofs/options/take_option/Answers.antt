use Rattle.std.proofs.Common.{[], sym, ◌∙◌}
use Rattle.cli.proofs.OptionWords.{apart, not_other}
use Rattle.cli.proofs.options.take_option.Goals as goal

pub returns : goal.returns
returns c =
    apart c.args.words.now c.args.option.now (record { ref_ptr = (0, 0); now = [] }) (record { ref_ptr = (0, 0); now = [] })
    c.in-len1-up.len_at_least c.in-len1-up-rest.len_at_least (not_other _ _ c.if-ne.ensures) (sym c.is_dashed.ensures ∙ c.if-is_dashed.false)
