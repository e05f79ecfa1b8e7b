use Rattle.st_core.proofs.engine.Core.tick_to.Given as goal

abbrev pub ghosts-tick_in : goal.ghosts-tick_in
ghosts-tick_in g a = record { name = a.blank.name; parts = a.blank.parts }
