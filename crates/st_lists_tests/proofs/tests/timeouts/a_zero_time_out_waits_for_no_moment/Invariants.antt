use Rattle.st_lists_tests.proofs.tests.timeouts.a_zero_time_out_waits_for_no_moment.Given as goal

abbrev pub ghosts-row_answers : goal.ghosts-row_answers
ghosts-row_answers g a = record { name = a.blank.name; parts = a.blank.parts }
