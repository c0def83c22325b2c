use Rattle.counted.specs.Counting.{left_of, failures_of}
use Rattle.answer_stream.proofs.work.answer_all.Given as goal

abbrev pub ghosts-answer_named : goal.ghosts-answer_named
ghosts-answer_named g a = record {
  input = left_of g.B.Read.remaining a.r.at.now;
  contents = left_of g.W.Write.contents a.w.at.now;
  reads = failures_of a.r.at.now;
  writes = failures_of a.w.at.now;
  reader = a.r.at.ghost_name;
  writer = a.w.at.ghost_name;
}
