-- What a line says.
use Rattle.std.specs.Prelude.{ℕ, Bool, false, ◌&&◌, ◌==◌, ◌-◌, nat_lt, List, [], ◌∷◌, length, if◌then◌else◌, bytes_eq, codes}
use Rattle.st_door.specs.declared.line.Line.{Line}
use Rattle.st_door.specs.declared.line.Line.TheVariants.{Blank, Malformed, New, Button, Show, At, Stop, Remove, Length, Relay, Names}
use Rattle.st_doors.specs.Lines.{words}
use Rattle.st_door.specs.WordForms.{digit_zero, is_name, is_digits, digits_of, is_number, number_of}

-- how many bytes a line may have
abbrev pub line_limit : ℕ
line_limit = 256

-- how many digits a code may have
abbrev pub code_limit : ℕ
code_limit = 16

-- how many digits a reason may have
abbrev pub reason_limit : ℕ
reason_limit = 10

-- the greatest reason
abbrev pub greatest_reason : ℕ
greatest_reason = 4294967295

-- how many digits a moment may have
abbrev pub moment_limit : ℕ
moment_limit = 20

-- the greatest moment that has a form
abbrev pub greatest_moment : ℕ
greatest_moment = 18446744073709551615

-- the byte that begins a comment
abbrev pub number_sign : ℕ
number_sign = 35

-- `new`, after which a name and a code stand
abbrev pub new_of : List (List ℕ) → Line
new_of (name ∷ code ∷ []) =
    if is_name name && is_digits code_limit code then New name (digits_of code) else Malformed
new_of _ = Malformed

-- `button`, after which a name and one digit stand
abbrev pub button_of : List (List ℕ) → Line
button_of (name ∷ (c ∷ []) ∷ []) =
    if is_name name && is_digits 1 (c ∷ []) then Button name (c - digit_zero) else Malformed
button_of _ = Malformed

-- `show`, after which a name stands
abbrev pub show_of : List (List ℕ) → Line
show_of (name ∷ []) = if is_name name then Show name else Malformed
show_of _ = Malformed

-- `at`, after which a moment stands
abbrev pub at_of : List (List ℕ) → Line
at_of (moment ∷ []) = if is_number moment_limit greatest_moment moment then At (number_of moment) else Malformed
at_of _ = Malformed

-- `stop`, after which a name and a reason stand
abbrev pub stop_of : List (List ℕ) → Line
stop_of (name ∷ reason ∷ []) =
    if is_name name && is_number reason_limit greatest_reason reason then Stop name (number_of reason) else Malformed
stop_of _ = Malformed

-- `remove`, after which a name stands
abbrev pub remove_of : List (List ℕ) → Line
remove_of (name ∷ []) = if is_name name then Remove name else Malformed
remove_of _ = Malformed

-- `length`, after which a name stands
abbrev pub length_of : List (List ℕ) → Line
length_of (name ∷ []) = if is_name name then Length name else Malformed
length_of _ = Malformed

-- `relay`, after which two names and one digit stand
abbrev pub relay_of : List (List ℕ) → Line
relay_of (name ∷ target ∷ (c ∷ []) ∷ []) =
    if is_name name && is_name target && is_digits 1 (c ∷ []) then Relay name target (c - digit_zero) else Malformed
relay_of _ = Malformed

-- `names`, after which nothing stands
abbrev pub names_of : List (List ℕ) → Line
names_of [] = Names
names_of _ = Malformed

-- a word that begins a comment
abbrev pub is_comment : List ℕ → Bool
is_comment [] = false
is_comment (c ∷ cs) = c == number_sign

-- what a line says by its first word and those after it
abbrev pub command_of : List ℕ → List (List ℕ) → Line
command_of verb args =
    if is_comment verb then Blank
    else (if bytes_eq verb (codes "new") then new_of args
    else (if bytes_eq verb (codes "button") then button_of args
    else (if bytes_eq verb (codes "show") then show_of args
    else (if bytes_eq verb (codes "at") then at_of args
    else (if bytes_eq verb (codes "stop") then stop_of args
    else (if bytes_eq verb (codes "remove") then remove_of args
    else (if bytes_eq verb (codes "length") then length_of args
    else (if bytes_eq verb (codes "relay") then relay_of args
    else (if bytes_eq verb (codes "names") then names_of args
    else Malformed)))))))))

-- what the words of a line say
abbrev pub line_of_words : List (List ℕ) → Line
line_of_words [] = Blank
line_of_words (verb ∷ args) = command_of verb args

-- what the bytes of a line say; a line that is too long says nothing
abbrev pub line_of : List ℕ → Line
line_of bytes = if nat_lt line_limit (length bytes) then Malformed else line_of_words (words bytes)
