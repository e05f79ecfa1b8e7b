use Rattle.st_door_tests.proofs.tests.pool_streams.run_once.Given as goal

abbrev pub ghosts-over-A-Ledger : goal.ghosts-over-A-Ledger
ghosts-over-A-Ledger g a = record { name = a.a.name; parts = a.a.parts }

abbrev pub ghosts-over-B-Ledger : goal.ghosts-over-B-Ledger
ghosts-over-B-Ledger g a = record { name = a.b.name; parts = a.b.parts }
