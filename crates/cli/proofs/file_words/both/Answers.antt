use Rattle.std.proofs.Common.{[], map}
use Rattle.cli.proofs.FileWords.{not_second}
use Rattle.cli.proofs.file_words.both.Goals as goal

pub returns-in_err-one : goal.returns-in_err-one
returns-in_err-one c = rw c.from_residual.ensures (λ one two asks. c.in_err-one.ensures one asks.0 asks.1)

pub returns-in_err-two : goal.returns-in_err-two
returns-in_err-two c = rw c.from_residual-in_err-two.ensures
    (not_second c.args.first.now c.in_ok-one.one.now c.args.second.now
    (map (λ word. word.now) c.in_ok-one.rest.now) _ c.in_ok-one.ensures (λ two. c.in_err-two.ensures two []))
