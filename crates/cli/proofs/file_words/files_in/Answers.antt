use Rattle.cli.proofs.file_words.files_in.Goals as goal

pub returns-in_err-trace : goal.returns-in_err-trace
returns-in_err-trace c = rw c.from_residual.ensures (λ trace witness asks. c.in_err-trace.ensures trace witness asks.0)
