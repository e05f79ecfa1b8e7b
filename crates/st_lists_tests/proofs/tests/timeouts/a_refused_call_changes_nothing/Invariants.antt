use Rattle.st_lists_tests.proofs.tests.timeouts.a_refused_call_changes_nothing.Given as goal

abbrev pub ghosts-row_answers : goal.ghosts-row_answers
ghosts-row_answers g a = record { name = a.blank.name; parts = a.blank.parts }
