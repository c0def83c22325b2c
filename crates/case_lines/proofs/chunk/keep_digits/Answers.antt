use Rattle.std.proofs.Common.{rules, ◌≡◌, ◌∙◌, ap, Ok, length, ◌++◌, ◌-◌, arith, length-append}
use Rattle.case_lines.proofs.SpelledLemmas.{tail_spelled}
use Rattle.case_lines.proofs.chunk.keep_digits.Goals as goal

pub returns-clause-kept : goal.returns-clause-kept
returns-clause-kept c = λ e.
    let s = c.hex_onto.ensures.spelled (c.in_ok-hex_onto.was ∙ ap Ok c.if-not-branch.false) in
    let all : c.hex_onto.new.bytes.items ≡ c.args.bytes.now.items ++ s.0 = search rules in
    let whole : c.deref.result.now ≡ c.args.bytes.now.items ++ s.0 = c.deref.ensures.value ∙ all in
    let from : c.len-from.result ≡ length c.args.bytes.now.items = search rules in
    let len : c.len.result - c.len-from.result ≡ length s.0 = omega (arith, ap length all, length-append c.args.bytes.now.items s.0, from) in (
      s.0,
      tail_spelled c.args.event c.args.digits.now c.args.bytes.now.items s.0 c.deref.result.now c.len-from.result c.requires s.1 whole from
          (λ seen. c.may_be_of.ensures c.if-not-may_be_of.false seen),
      rw (c.push_reserved.ensures.items, len) (search rules),
      all,
    )
