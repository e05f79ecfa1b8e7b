use Rattle.st_door.proofs.in_memory.run_in_memory.Given as goal

-- the ledger is the one that the blank opens
abbrev pub ghosts-run_counted : goal.ghosts-run_counted
ghosts-run_counted a = record { name = a.blank.name; parts = a.blank.parts }
