use Rattle.std.proofs.Common.{rules, ◌≡◌, ◌∙◌, List, length, sym, subst}
use Rattle.case_forms.specs.declared.trace.Line.{Line}
use Rattle.case_lines.specs.Lines.{Follows}
use Rattle.case_lines.proofs.RecordLemmas.{longer, lens_of_are}
use Rattle.case_lines.proofs.chunk.Chunk.push.Goals as goal

pub overflow_sub-self : goal.overflow_sub-self
overflow_sub-self c =
    let follows = subst (λ (lines : List Line). Follows lines c.args.line.now.number) (sym c.self.view_is) c.requires.follows in
    let lens = lens_of_are c.record_of-record.result.event _ c.record_of-record.ensures.none in
    let more = longer _ _ _ _ _ _ _ _ c.record_of-record.result _ _ c.self.invariant follows c.requires.plain.number lens in
    let within = more.within in
    search rules

pub invariant_of-self-2 : goal.invariant_of-self-2
invariant_of-self-2 c =
    let follows = subst (λ (lines : List Line). Follows lines c.args.line.now.number) (sym c.self.view_is) c.requires.follows in
    let lens = lens_of_are c.record_of-record.result.event _ c.record_of-record.ensures.none in
    let more = longer _ _ _ _ _ _ _ _ c.record_of-record.result _ _ c.self.invariant follows c.requires.plain.number lens in
    let len : c.len.result ≡ length c.self.inside.records.items = search rules in
    rw (
      len,
      c.push_reserved.ensures.items,
      c.reserve.ensures.items,
      c.in_ok-keep_bytes.ensures.lens,
      c.in_ok-keep_bytes.ensures.bytes,
      c.bytes_of-bytes.ensures,
    )
    more.counted

pub returns-clause-ok : goal.returns-clause-ok
returns-clause-ok c =
    let follows = subst (λ (lines : List Line). Follows lines c.args.line.now.number) (sym c.self.view_is) c.requires.follows in
    let lens = lens_of_are c.record_of-record.result.event _ c.record_of-record.ensures.none in
    let more = longer _ _ _ _ _ _ _ _ c.record_of-record.result _ _ c.self.invariant follows c.requires.plain.number lens in
    let len : c.len.result ≡ length c.self.inside.records.items = search rules in
    rw (
      len,
      c.push_reserved.ensures.items,
      c.reserve.ensures.items,
      c.in_ok-keep_bytes.ensures.lens,
      c.in_ok-keep_bytes.ensures.bytes,
      c.bytes_of-bytes.ensures,
    )
    (more.lines ∙ search rules)
