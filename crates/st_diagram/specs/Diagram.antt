-- The diagram of a module: a line for each state and event that is not ignored.
use Rattle.std.specs.Prelude.{ℕ, Option, Some, None, List, [], ◌∷◌, ◌++◌, codes, flat_map}
use Rattle.st_events.specs.declared.kind.Kind.{Kind}
use Rattle.st_events.specs.declared.outcome.Outcome.{Outcome}
use Rattle.st_diagram.specs.declared.arrow.Arrow.{Arrow}
use Rattle.st_diagram.specs.declared.notation.Notation.{Notation}
use Rattle.st_diagram.specs.declared.notation.Notation.TheVariants.{Mermaid, Dot}
use Rattle.st_diagram.specs.Arrows.{arrow_of}
use Rattle.st_diagram.specs.Lines.{arrow_line}

-- the first words of a diagram
abbrev pub head_of : Notation → List ℕ
head_of Mermaid = codes "stateDiagram-v2\n"
head_of Dot = codes "digraph {\n"

-- the last words
abbrev pub tail_of : Notation → List ℕ
tail_of Mermaid = []
tail_of Dot = codes "}\n"

-- the line of the state in which a machine begins, by its name
abbrev pub first_line : Notation → List ℕ → List ℕ
first_line Mermaid name = codes "    [*] --> " ++ (name ++ codes "\n")
first_line Dot name = codes "    start -> \"" ++ (name ++ codes "\";\n")

-- the first words, and the line of the first state, if there is one
abbrev pub begin_of : {S : Type 0} → Notation → (S → List ℕ) → List S → List ℕ
begin_of notation states [] = head_of notation
begin_of notation states (state ∷ others) = head_of notation ++ first_line notation (states state)

module _ {S C : Type 0} (notation : Notation) (states : S → List ℕ) (contents : C → List ℕ) where
  -- the line of an event's arrow, if there is one
  abbrev pub told_of : S → Kind × C → Option (Arrow S) → List ℕ
  told_of state event (Some arrow) = arrow_line notation states contents state event arrow
  told_of state event None = []

  module _ {D : Type 0} (handle : Kind → C → S → D → Outcome S D C) (held : D) where
    -- the line of an event in a state: what the module answers to it there, with these data
    abbrev pub row_of : S → Kind × C → List ℕ
    row_of state event = told_of state event (arrow_of state (handle event.0 event.1 state held))

    -- the lines of events in a state
    abbrev pub rows_of : List (Kind × C) → S → List ℕ
    rows_of events state = flat_map (λ event. row_of state event) events

    -- the whole text
    abbrev pub diagram_of : List S → List (Kind × C) → List ℕ
    diagram_of all events = begin_of notation states all ++ (flat_map (λ state. rows_of events state) all ++ tail_of notation)

module _ {S D C : Type 0} (states : S → List ℕ) (contents : C → List ℕ) (handle : Kind → C → S → D → Outcome S D C) (held : D) where
  -- a Mermaid state diagram, by the names of states and contents, and by what the module answers with these data
  abbrev pub mermaid_of : List S → List (Kind × C) → List ℕ
  mermaid_of all events = diagram_of Mermaid states contents handle held all events

  -- the same in DOT
  abbrev pub dot_of : List S → List (Kind × C) → List ℕ
  dot_of all events = diagram_of Dot states contents handle held all events
