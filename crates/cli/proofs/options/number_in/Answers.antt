use Rattle.std.proofs.Common.{◌∙◌, sym}
use Rattle.std.specs.Str.Parse.{ParsesUnsigned, ExplainsUnsignedError, HasUnsignedDigitsIfOk}
use Rattle.clap.specs.Words.{found_of}
use Rattle.cli.proofs.Numbers.{read_number, refused_number}
use Rattle.cli.proofs.options.number_in.Goals as goal

pub returns-in-Ok : goal.returns-in-Ok
returns-in-Ok c =
    read_number _ (λ bs r. ParsesUnsigned 64 10 bs r × ExplainsUnsignedError 10 bs r × HasUnsignedDigitsIfOk bs r) c.args.least c.args.most c.args.text.now
    (found_of c.in-Ok.matches) _ (λ u x gives. gives.0) (sym c.is_dashed.ensures ∙ c.if-is_dashed.false) c.in-Ok.ensures.exact
    c.in-Ok.ensures.ok c.get_one.ensures.value

pub returns : goal.returns
returns c n is =
    refused_number c.args.least c.args.most c.args.text.now c.in-Err.error n c.ranges.most.fits c.in-Err.ensures.exact
    (λ memory. c.in_default.not-OutOfMemory (c.kind.ensures ∙ memory)) is
