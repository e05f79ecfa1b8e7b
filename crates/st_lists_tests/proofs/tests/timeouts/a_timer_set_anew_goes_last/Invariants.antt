use Rattle.st_lists_tests.proofs.tests.timeouts.a_timer_set_anew_goes_last.Given as goal

abbrev pub ghosts-row_answers : goal.ghosts-row_answers
ghosts-row_answers g a = record { name = a.blank.name; parts = a.blank.parts }
