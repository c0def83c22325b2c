use Rattle.std.proofs.Common.{subst}
use Rattle.line_fields.specs.Reading.{Gives}
use Rattle.witness.proofs.TextLaw.{is_some, some_again}
use Rattle.witness.proofs.LimitsLaw.{is_limited}
use Rattle.witness.proofs.from_bytes.read_witness.Goals as goal

pub returns-clause-found : goal.returns-clause-found
returns-clause-found c = is_some c.version_named.result c.args.text.now c.read.result c.read.ensures

pub returns-clause-only : goal.returns-clause-only
returns-clause-only c =
    λ w spelled. subst (λ f. Gives (λ w. w) c.read.result f) (some_again w c.args.text.now spelled)
    (rw c.version_named.ensures at c.read.ensures)

pub returns-clause-limits : goal.returns-clause-limits
returns-clause-limits c = is_limited c.version_named.result c.args.text.now c.read.result c.read.ensures
