use Rattle.statem.proofs.asked.Given as goal

abbrev pub ghosts-done-A-Ledger : goal.ghosts-done-A-Ledger
ghosts-done-A-Ledger g a = record { name = a.reads.name; parts = a.reads.parts }

abbrev pub ghosts-done-B-Ledger : goal.ghosts-done-B-Ledger
ghosts-done-B-Ledger g a = record { name = a.writes.name; parts = a.writes.parts }
