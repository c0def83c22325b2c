use Rattle.std.proofs.Common.{rules, ◌≡◌, ◌≢◌, ◌+◌, ◌++◌, length}
use Rattle.bstr.specs.Text.{without_terminator}
use Rattle.case_stream.proofs.AtHand.{all_read, lines_more, no_row_left, none_more, word_ended}
use Rattle.case_stream.proofs.CaseSoFar.{case_ended, last_ended, no_row_at, nothing_left, one_line_more, row_at, unended_last}
use Rattle.case_stream.proofs.LongCase.{lines_whole, none_whole, takes_long, takes_long_last, whole_line_more}
use Rattle.case_stream.proofs.next_case.Goals as goal

pub returns-in-ToWord-clause-case : goal.returns-in-ToWord-clause-case
returns-in-ToWord-clause-case g c e =
    let lines = c.in_ok-is_more_at_hand.ensures in
    word_ended _ _ _ _ _ _ _ c.loop.invariant.so_far lines.appends (search rules) lines.taken _ c.in-ToWord.is

pub loop-preserved-in-Lines : goal.loop-preserved-in-Lines
loop-preserved-in-Lines g c =
    let lines = c.in_ok-is_more_at_hand.ensures in
    record {
      so_far = lines_more _ _ _ _ _ _ _ c.loop.invariant.so_far lines.appends (search rules) lines.taken c.in-Lines.is;
      whole = lines_whole _ _ _ _ _ _ c.loop.invariant.whole lines.appends lines.taken c.in-Lines.is;
      counts = search rules;
    }

pub returns-in-AtEnd-clause-nothing : goal.returns-in-AtEnd-clause-nothing
returns-in-AtEnd-clause-nothing g c e =
    let lines = c.in_ok-is_more_at_hand.ensures in
    nothing_left _ _ _ _
    (all_read _ _ _ _ _ _ _ c.loop.invariant.so_far lines.appends (search rules) lines.taken c.in-AtEnd.is)
    (no_row_left _ _ _ _ _ _ _ c.loop.invariant.so_far lines.appends (search rules) lines.taken c.in-AtEnd.is) (search rules)

pub returns-in-AtEnd-2-clause-last : goal.returns-in-AtEnd-2-clause-last
returns-in-AtEnd-2-clause-last g c e =
    let lines = c.in_ok-is_more_at_hand.ensures in
    last_ended _ _ _ _
    (all_read _ _ _ _ _ _ _ c.loop.invariant.so_far lines.appends (search rules) lines.taken c.in-AtEnd-2.is)
    (no_row_left _ _ _ _ _ _ _ c.loop.invariant.so_far lines.appends (search rules) lines.taken c.in-AtEnd-2.is) (search rules)

pub returns-in-None-clause-nothing : goal.returns-in-None-clause-nothing
returns-in-None-clause-nothing g c e =
    let lines = c.in_ok-is_more_at_hand.ensures in
    nothing_left _ _ _ _
    (none_more _ _ _ _ _ _ _ c.loop.invariant.so_far lines.appends (search rules) lines.taken c.in-Nothing.is)
    (no_row_at _ _ _ _ _ c.in_ok-read_line.ensures.line c.in-None.is) (search rules)

pub returns-in-None-2-clause-last : goal.returns-in-None-2-clause-last
returns-in-None-2-clause-last g c e =
    let lines = c.in_ok-is_more_at_hand.ensures in
    last_ended _ _ _ _
    (none_more _ _ _ _ _ _ _ c.loop.invariant.so_far lines.appends (search rules) lines.taken c.in-Nothing.is)
    (no_row_at _ _ _ _ _ c.in_ok-read_line.ensures.line c.in-None-2.is) (search rules)

pub returns-then-ends_case-clause-case : goal.returns-then-ends_case-clause-case
returns-then-ends_case-clause-case g c e =
    let lines = c.in_ok-is_more_at_hand.ensures in
    case_ended _ _ _ _ _
    (none_more _ _ _ _ _ _ _ c.loop.invariant.so_far lines.appends (search rules) lines.taken c.in-Nothing.is)
    (row_at _ _ _ _ _ _ c.in_ok-read_line.ensures.line c.in-Some-eq0.is (search rules)) (search rules)

pub loop-preserved : goal.loop-preserved
loop-preserved g c =
    let lines = c.in_ok-is_more_at_hand.ensures in
    record {
      so_far =
          let grown : c.extend_from_slice.new.self.items ≡ c.append_lines.new.buf.items ++ c.read_line.new.line.items = search rules in
          rw grown
          (one_line_more _ _ _ _ _
          (none_more _ _ _ _ _ _ _ c.loop.invariant.so_far lines.appends (search rules) lines.taken c.in-Nothing.is)
          (row_at _ _ _ _ _ _ c.in_ok-read_line.ensures.line c.in-Some-eq0.is (search rules)) (search rules));
      whole =
          let grown : c.extend_from_slice.new.self.items ≡ c.append_lines.new.buf.items ++ c.read_line.new.line.items = search rules in
          rw grown
          (whole_line_more _ _ _ _ _ _ _
          (none_whole _ _ _ _ _ _ c.loop.invariant.whole lines.appends lines.taken c.in-Nothing.is)
          c.in_ok-read_line.ensures.line c.in-Some-eq0.is (search rules) (search rules));
      counts = search rules;
    }

pub returns-in-true-clause-long : goal.returns-in-true-clause-long
returns-in-true-clause-long g c size e =
    let lines = c.in_ok-is_more_at_hand.ensures in
    let fits : size ≡ c.in-Some.before + length (without_terminator c.read_line.new.line.items) = search rules in
    let some : c.in-Some.before ≢ 0 = search rules in
    takes_long _ _ _ _ _
    (none_whole _ _ _ _ _ _ c.loop.invariant.whole lines.appends lines.taken c.in-Nothing.is) c.in-Some.is some fits _ _ _ _
    (none_more _ _ _ _ _ _ _ c.loop.invariant.so_far lines.appends (search rules) lines.taken c.in-Nothing.is)
    c.in_ok-read_line.ensures.line (search rules)

pub returns-in-false-clause-long_last : goal.returns-in-false-clause-long_last
returns-in-false-clause-long_last g c size e =
    let lines = c.in_ok-is_more_at_hand.ensures in
    let fits : size ≡ c.in-Some.before + length (without_terminator c.read_line.new.line.items) = search rules in
    let some : c.in-Some.before ≢ 0 = search rules in
    takes_long_last _ _ _ _ _
    (none_whole _ _ _ _ _ _ c.loop.invariant.whole lines.appends lines.taken c.in-Nothing.is) c.in-Some.is some fits _ _ _
    (none_more _ _ _ _ _ _ _ c.loop.invariant.so_far lines.appends (search rules) lines.taken c.in-Nothing.is)
    c.in_ok-read_line.ensures.line (search rules)

pub returns-then-not-has_end-clause-last : goal.returns-then-not-has_end-clause-last
returns-then-not-has_end-clause-last g c e =
    let lines = c.in_ok-is_more_at_hand.ensures in
    let grown : c.extend_from_slice.new.self.items ≡ c.append_lines.new.buf.items ++ c.read_line.new.line.items = search rules in
    rw grown
    (unended_last _ _ _ _ _ _ _ _
    (none_more _ _ _ _ _ _ _ c.loop.invariant.so_far lines.appends (search rules) lines.taken c.in-Nothing.is)
    c.in_ok-read_line.ensures.line c.in-Some-eq0.is (search rules) (search rules) (search rules))
