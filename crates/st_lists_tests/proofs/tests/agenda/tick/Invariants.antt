use Rattle.st_lists_tests.proofs.tests.agenda.tick.Given as goal

abbrev pub ghosts-tick_in : goal.ghosts-tick_in
ghosts-tick_in g a = record { name = a.blank.name; parts = a.blank.parts }
