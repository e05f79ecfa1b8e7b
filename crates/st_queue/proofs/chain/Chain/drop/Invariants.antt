use Rattle.st_queue.proofs.chain.Chain.drop.Given as goal

abbrev pub ghosts-free_all : goal.ghosts-free_all
ghosts-free_all g a = record { name = a.blank.name; parts = a.blank.parts }
