use Rattle.stack_core.proofs.CoreWorldLemmas.{world_books, world_hosts}
use Rattle.stack_core.proofs.laws.core_worlds_are_books.Goals as goal

pub returns : goal.returns
returns c = record { books = world_books; hosts = world_hosts }
