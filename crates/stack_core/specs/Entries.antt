-- The entries of a recording, as code has them, in the words of two hosts' books.
use Rattle.std.specs.Prelude.{ℕ, suc, List, [], ◌∷◌}
use Rattle.case_forms.specs.declared.calls.Host.{Host}
use Rattle.spec_merge.specs.Books as books
use Rattle.spec_merge.specs.Recordings.{TcpEntry}
use Rattle.spec_tcp.specs.Machine.{tcp_shape}
use Rattle.spec_tcp.specs.Steps.{step_of}
use Rattle.stack_core.specs.declared.tick.Tick.{Tick}
use Rattle.stack_core.specs.declared.item.Item.{Item}
use Rattle.stack_core.specs.declared.item.Item.TheVariants.{Does, Brings}
use Rattle.stack_core.specs.Keys.{key_of}

abbrev pub item_shown : Item → books.Item tcp_shape
item_shown (Does label) = books.Do (step_of label)
item_shown (Brings flying) = books.Bring flying

-- an item that joins at a tick
abbrev pub entry_at : Host → Tick → books.Item tcp_shape → TcpEntry
entry_at me tick item = record { key = key_of me tick; item = item }

-- the steps among some entries, counted: one more for a step, none for a segment that is brought
abbrev pub item_steps : books.Item tcp_shape → ℕ → ℕ
item_steps (books.Do step) n = suc n
item_steps (books.Bring flying) n = n

abbrev pub steps_in : List TcpEntry → ℕ
steps_in [] = 0
steps_in (x ∷ xs) = item_steps x.item (steps_in xs)
