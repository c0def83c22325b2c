use Rattle.std.proofs.Common.{◌∙◌, sym, ap, subst}
use Rattle.case_forms.specs.declared.version.Version.{Version}
use Rattle.line_fields.specs.Reading.{Gives}
use Rattle.witness.specs.WitnessText.{witness_for}
use Rattle.witness.proofs.TextLaw.{is_found, text_again}
use Rattle.witness.proofs.LimitsLaw.{is_limited}
use Rattle.witness.proofs.from_bytes.read_witness_for.Goals as goal

pub returns-clause-found : goal.returns-clause-found
returns-clause-found c = is_found c.args.version c.args.text.now c.read.result c.read.ensures

pub returns-clause-only : goal.returns-clause-only
returns-clause-only c = λ w of spelled.
    let again = ap (λ (v : Version). witness_for v c.args.text.now) (sym of) ∙ text_again w c.args.text.now spelled in
    subst (λ f. Gives (λ w. w) c.read.result f) again c.read.ensures

pub returns-clause-limits : goal.returns-clause-limits
returns-clause-limits c = is_limited c.args.version c.args.text.now c.read.result c.read.ensures
