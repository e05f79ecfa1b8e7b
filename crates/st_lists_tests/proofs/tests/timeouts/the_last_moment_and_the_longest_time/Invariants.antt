use Rattle.st_lists_tests.proofs.tests.timeouts.the_last_moment_and_the_longest_time.Given as goal

abbrev pub ghosts-row_answers : goal.ghosts-row_answers
ghosts-row_answers g a = record { name = a.blank.name; parts = a.blank.parts }
