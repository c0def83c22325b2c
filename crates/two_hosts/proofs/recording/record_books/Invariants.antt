use Rattle.case_forms.specs.declared.calls.Host.TheVariants.{Zero, One}
use Rattle.two_hosts.proofs.recording.record_books.Given as goal

abbrev pub ghosts-record_with-L-Ledger : goal.ghosts-record_with-L-Ledger
ghosts-record_with-L-Ledger g a = record { name = a.first.name; parts = a.first.parts }

abbrev pub ghosts-record_with-M-Ledger : goal.ghosts-record_with-M-Ledger
ghosts-record_with-M-Ledger g a = record { name = a.second.name; parts = a.second.parts }

abbrev pub ghosts-record_with-L-Site : goal.ghosts-record_with-L-Site
ghosts-record_with-L-Site g a = record { host = Zero; header = a.header }

abbrev pub ghosts-record_with-M-Site : goal.ghosts-record_with-M-Site
ghosts-record_with-M-Site g a = record { host = One; header = a.header }
