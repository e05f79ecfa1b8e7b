use Rattle.st_lists_tests.proofs.tests.timeouts.another_content_leaves_all_else.Given as goal

abbrev pub ghosts-row_answers : goal.ghosts-row_answers
ghosts-row_answers g a = record { name = a.blank.name; parts = a.blank.parts }
