-- How many lines inputs have, and what a length prints, computed on examples.
use Rattle.std.proofs.Common.{◌≡◌, Some, None, [], ◌∷◌, refl}
use Rattle.std.specs.Prelude.{codes, length}
use Rattle.std.specs.Fmt.{digits}
use Rattle.st_doors.specs.Lines.{lines}
use Rattle.st_doors.specs.Printing.{length_text}

-- only an empty last piece is no line
no_bytes_are_no_line : length (lines []) ≡ 0
no_bytes_are_no_line = refl

a_line_feed_is_a_line : length (lines (10 ∷ [])) ≡ 1
a_line_feed_is_a_line = refl

a_line_feed_ends_a_line : length (lines (codes "names\n")) ≡ 1
a_line_feed_ends_a_line = refl

a_last_line_needs_no_line_feed : length (lines (codes "names")) ≡ 1
a_last_line_needs_no_line_feed = refl

a_carriage_return_is_a_line : length (lines (13 ∷ [])) ≡ 1
a_carriage_return_is_a_line = refl

a_carriage_return_is_a_last_line : length (lines (codes "names\n\r")) ≡ 2
a_carriage_return_is_a_last_line = refl

an_empty_line_is_a_line : length (lines (codes "names\n\n")) ≡ 2
an_empty_line_is_a_line = refl

-- a length that was not said is a hyphen
a_length_that_was_not_said_is_a_hyphen : length_text (codes "a") None ≡ codes "a length -\n"
a_length_that_was_not_said_is_a_hyphen = refl

a_length_is_a_number : length_text (codes "a") (Some 16) ≡ codes "a length 16\n"
unfolding digits
a_length_is_a_number = refl
