use Rattle.std.proofs.Common.{rules, ◌≡◌, max}
use Rattle.std.specs.Io.KnownBytes.{Appends}
use Rattle.counted.specs.Counting.{left_of}
use Rattle.answer_stream.proofs.Telling.{batch_told}
use Rattle.answer_stream.proofs.printer.Printer.print.Goals as goal

pub invariant_of-self-clause-told : goal.invariant_of-self-clause-told
invariant_of-self-clause-told g c going =
    let batch = c.args.batch.now in
    let same : batch.first ≡ c.args.self.now.next = search rules in
    let greatest : c.max-self.result ≡ max c.args.self.now.greatest batch.gathered.greatest = search rules in
    let old = c.args.self.now.at.now in
    let appended : Appends (left_of g.W.Write.contents old) (left_of g.W.Write.contents c.write_lines.new.w) batch.gathered.lines.items = search rules in
    rw greatest (batch_told _ _ _ _ _ _ _ _ _ batch.told appended (rw same (c.args.self.now.told going)))
