use Rattle.st_lists_tests.proofs.tests.timeouts.two_time_outs_for_one_moment_come_by_number.Given as goal

abbrev pub ghosts-row_answers : goal.ghosts-row_answers
ghosts-row_answers g a = record { name = a.blank.name; parts = a.blank.parts }
