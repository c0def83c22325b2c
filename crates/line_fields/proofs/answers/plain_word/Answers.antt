use Rattle.std.proofs.Common.{refl, sym, subst, arith}
use Rattle.std.specs.Prelude.{codes}
use Rattle.case_forms.specs.declared.calls.Answer.TheVariants.{Closed, BadSocket}
use Rattle.line_fields.specs.FirstField.{fields_of}
use Rattle.line_fields.specs.Answers.{IsSpelledAnswer}
use Rattle.line_fields.proofs.LastFields.{is_word}
use Rattle.line_fields.proofs.answers.plain_word.Goals as goal

pub returns-in-closed : goal.returns-in-closed
returns-in-closed c =
    let same = is_word c.args.text.now (codes "closed") (omega arith)
    (omega arith, (omega arith, (omega arith, (omega arith, (omega arith, (omega arith, tt)))))) in
    subst (λ text. IsSpelledAnswer Closed (fields_of text)) (sym same) (tt, (refl, tt))

pub returns-in-badsocket : goal.returns-in-badsocket
returns-in-badsocket c =
    let same = is_word c.args.text.now (codes "badsocket") (omega arith)
    (omega arith, (omega arith, (omega arith, (omega arith, (omega arith, (omega arith, (omega arith, (omega arith, (omega arith, tt))))))))) in
    subst (λ text. IsSpelledAnswer BadSocket (fields_of text)) (sym same) (tt, (refl, tt))
