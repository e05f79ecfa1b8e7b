use Rattle.st_parts_tests.proofs.tests.claim_lock.count_up.Given as goal

-- the holder claims the new count
abbrev pub ghosts-give : goal.ghosts-give
ghosts-give g a = record { claim = record { reached = a.value } }
