use Rattle.std.proofs.Common.{rules, ◌≡◌, ◌∷◌, List, length, map, refl, ap, arith}
use Rattle.case_forms.specs.Traces.{first_event_line}
use Rattle.spec_merge.specs.Recordings.{TcpEntry}
use Rattle.stack_core.specs.Keys.{key_shown}
use Rattle.recorder.specs.Naming.{wire_of}
use Rattle.recorder.proofs.Strangers.{named_more, stranger_here, stranger_hidden, stranger_taken}
use Rattle.recorder.proofs.arrival_names.find_stranger.Goals as goal

pub returns-then-not-is_known-clause-some : goal.returns-then-not-is_known-clause-some
returns-then-not-is_known-clause-some c =
    c.loop-entry.invariant.first c.loop-entry.line
    (stranger_here (first_event_line c.args.other.now.header) (map key_shown c.args.keys.now)
    (wire_of c.args.other.now) c.loop-entry.line c.loop-entry.left.now c.in-Some.entry.now c.in-Some.behind.now
    c.in-Some.ensures.some (λ named. absurd (let known = c.if-not-is_known.ensures.1 named in cc)))

pub loop-entry-preserved-then-takes_line : goal.loop-entry-preserved-then-takes_line
loop-entry-preserved-then-takes_line c =
    let known = c.if-not-is_known.ensures.0 refl in
    let longer : length c.loop-entry.left.now ≡ length (c.in-Some.entry.now ∷ c.in-Some.behind.now) =
    ap (λ (es : List TcpEntry). length es) c.in-Some.ensures.some in
    let small = c.loop-entry.invariant.small in record {
      small = omega (arith, longer, small);
      named =
          λ rest. c.loop-entry.invariant.named
          (named_more (first_event_line c.args.other.now.header) (map key_shown c.args.keys.now)
          (wire_of c.args.other.now) c.loop-entry.left.now c.in-Some.entry.now c.in-Some.behind.now
          c.in-Some.ensures.some known rest);
      first =
          λ n s. c.loop-entry.invariant.first n
          (stranger_taken (first_event_line c.args.other.now.header) (map key_shown c.args.keys.now)
          (wire_of c.args.other.now) c.loop-entry.line n c.loop-entry.left.now c.in-Some.entry.now
          c.in-Some.behind.now c.in-Some.ensures.some known (search rules) s);
    }

pub loop-entry-preserved : goal.loop-entry-preserved
loop-entry-preserved c =
    let known = c.if-not-is_known.ensures.0 refl in
    let longer : length c.loop-entry.left.now ≡ length (c.in-Some.entry.now ∷ c.in-Some.behind.now) =
    ap (λ (es : List TcpEntry). length es) c.in-Some.ensures.some in
    let small = c.loop-entry.invariant.small in record {
      small = omega (arith, longer, small);
      named =
          λ rest. c.loop-entry.invariant.named
          (named_more (first_event_line c.args.other.now.header) (map key_shown c.args.keys.now)
          (wire_of c.args.other.now) c.loop-entry.left.now c.in-Some.entry.now c.in-Some.behind.now
          c.in-Some.ensures.some known rest);
      first =
          λ n s. c.loop-entry.invariant.first n
          (stranger_hidden (first_event_line c.args.other.now.header) (map key_shown c.args.keys.now)
          (wire_of c.args.other.now) c.loop-entry.line n c.loop-entry.left.now c.in-Some.entry.now
          c.in-Some.behind.now c.in-Some.ensures.some known (search rules) s);
    }
