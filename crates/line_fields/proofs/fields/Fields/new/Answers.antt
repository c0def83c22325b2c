use Rattle.line_fields.proofs.Slices.{are_slices}
use Rattle.line_fields.proofs.fields.Fields.new.Goals as goal

pub returns-clause-slices : goal.returns-clause-slices
returns-clause-slices c = are_slices c.args.line c.args.text.now
