use Rattle.stack_core.proofs.WaitLemmas.{named_waits}
use Rattle.stack_core.proofs.answers.choose.Goals as goal

pub returns-in-Await-clause-none : goal.returns-in-Await-clause-none
returns-in-Await-clause-none c =
    named_waits c.on_socket.result c.args.version c.args.ring c.args.body.now c.in-Await.number c.args.call.now c.in-Await.is c.on_socket.ensures.none
