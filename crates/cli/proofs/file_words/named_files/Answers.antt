use Rattle.cli.proofs.FileWords.{names_neither}
use Rattle.cli.proofs.file_words.named_files.Goals as goal

pub returns-in_err-witness : goal.returns-in_err-witness
returns-in_err-witness c = rw c.from_residual.ensures (names_neither _ c.in_default.ensures c.in_err-witness.ensures)
