use Rattle.std.proofs.lemmas.Result.{on_ok_weaker}
use Rattle.witness.specs.StepsLeft.{number_of, version_of}
use Rattle.checker.proofs.StepLemmas.{room_left}
use Rattle.checker.proofs.steps.StepReaderStepSource.next_step.Goals as goal

pub returns-clause-place : goal.returns-clause-place
returns-clause-place g c =
    on_ok_weaker c.next_into.result
    (room_left (version_of c.args.self.now) (number_of c.args.self.now) (number_of c.next_into.new.self) c.next_into.new.item)
    c.next_into.ensures.place
