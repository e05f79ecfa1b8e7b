use Rattle.st_lists_tests.proofs.tests.timeouts.many_expire_in_order.Given as goal

abbrev pub ghosts-many : goal.ghosts-many
ghosts-many g a = record { name = a.blank.name; parts = a.blank.parts }
