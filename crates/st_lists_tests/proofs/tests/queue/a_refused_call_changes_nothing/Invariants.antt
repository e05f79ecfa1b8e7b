use Rattle.st_lists_tests.proofs.tests.queue.a_refused_call_changes_nothing.Given as goal

abbrev pub ghosts-answer_all : goal.ghosts-answer_all
ghosts-answer_all g a = record { name = a.blank.name; parts = a.blank.parts }
