-- Keys, as code has them.
use Rattle.case_forms.specs.declared.calls.Host.{Host}
use Rattle.spec_merge.specs.Books as books
use Rattle.stack_core.specs.declared.tick.Key.{Key}
use Rattle.stack_core.specs.declared.tick.Tick.{Tick}

abbrev pub key_of : Host → Tick → books.Key
key_of me tick = record { moment = tick.moment; counter = tick.counter; host = me }

abbrev pub key_shown : Key → books.Key
key_shown key = record { moment = key.moment; counter = key.counter; host = key.host }
