-- How the lines that are done and those that are left make up a script.
use Rattle.std.proofs.Common.{◌≡◌, ℕ, ◌<◌, ◌+◌, Bool, ◌||◌, List, ◌∷◌, ◌++◌, length, get_or, drop, map, Bor, refl, append_assoc, add-one, drop-cons}
use Rattle.std.proofs.Math.Bool.{or_assoc}
use Rattle.st_door.specs.declared.effect.Effect.{Effect}
use Rattle.st_door.specs.Grammar.{line_of}
use Rattle.st_doors.specs.Lines.{without_return}
use Rattle.st_doors.specs.Doors.{NamedDoor}
use Rattle.st_door.specs.Script.{ScriptState, step_of, printed_of, is_fault, output_from, faulty_from, script_after}
use Rattle.st_doors.specs.Traces.{trace_of_door, traces_of}

-- the lines that are left, from a place on
abbrev pub lines_left : List (Bor (List ℕ)) → ℕ → List (List ℕ)
lines_left pieces place = map without_return (map (λ piece. piece.now) (drop place pieces))

-- the line at a place is the first one that is left
pub lines_left-cons : (pieces : List (Bor (List ℕ))) (place : ℕ) (d : Bor (List ℕ)) → place < length pieces
    → lines_left pieces place ≡ without_return (get_or pieces place d).now ∷ lines_left pieces (place + 1)
lines_left-cons pieces place d in_range = rw (drop-cons pieces place d, add-one) refl

-- what the line at a place brings about, and the script after it
module _ (script : ScriptState) (pieces : List (Bor (List ℕ))) (place : ℕ) (d : Bor (List ℕ)) (in_range : place < length pieces) (next : ScriptState)
    (is_next : next ≡ (step_of script (line_of (without_return (get_or pieces place d).now))).1) where
  abbrev brought : Effect
  brought = (step_of script (line_of (without_return (get_or pieces place d).now))).0

  -- the output grows by what the line prints
  pub output_step : (written all : List ℕ) → written ++ output_from (place + 1) script (lines_left pieces place) ≡ all
      → (written ++ printed_of (place + 1) brought) ++ output_from (place + 1 + 1) next (lines_left pieces (place + 1)) ≡ all
  output_step written all whole = rw (is_next, append_assoc) (rw (lines_left-cons pieces place d in_range) at whole)

  -- the line was looked at for a fault
  pub faulty_step : (before now all : Bool) → now ≡ is_fault brought → (before || faulty_from script (lines_left pieces place)) ≡ all
      → ((before || now) || faulty_from next (lines_left pieces (place + 1))) ≡ all
  faulty_step before now all is_now whole = rw (is_now, is_next, or_assoc) (rw (lines_left-cons pieces place d in_range) at whole)

  -- the line is done
  pub after_step : (all : ScriptState) → script_after script (lines_left pieces place) ≡ all → script_after next (lines_left pieces (place + 1)) ≡ all
  after_step all whole = rw is_next (rw (lines_left-cons pieces place d in_range) at whole)

-- the doors from a place on
pub doors_left-cons : (doors : List NamedDoor) (place : ℕ) (d : NamedDoor) → place < length doors
    → drop place doors ≡ get_or doors place d ∷ drop (place + 1) doors
doors_left-cons doors place d in_range = rw (drop-cons doors place d, add-one) refl

-- the traces grow by one door's
pub traces_step : (written text : List ℕ) (door : NamedDoor) (here more : List NamedDoor) (all : List ℕ)
    → here ≡ door ∷ more
    → text ≡ trace_of_door door
    → written ++ traces_of here ≡ all
    → (written ++ text) ++ traces_of more ≡ all
traces_step written text door here more all is_here is_text whole =
    rw (is_text, append_assoc) (rw is_here at whole)
