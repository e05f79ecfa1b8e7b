use Rattle.st_lists_tests.proofs.tests.queue.a_thousand_events_come_in.Given as goal

abbrev pub ghosts-a_thousand : goal.ghosts-a_thousand
ghosts-a_thousand g a = record { name = a.blank.name; parts = a.blank.parts }
