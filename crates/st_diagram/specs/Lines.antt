-- The lines of a diagram.
use Rattle.std.specs.Prelude.{ℕ, Option, Some, None, List, ◌++◌, codes, decimal}
use Rattle.st_events.specs.declared.kind.Kind.{Kind}
use Rattle.st_events.specs.declared.kind.Kind.TheVariants as kind
use Rattle.st_events.specs.declared.timer.Timer.{Timer}
use Rattle.st_events.specs.declared.timer.Timer.TheVariants as timer
use Rattle.st_diagram.specs.declared.arrow.Arrow.{Arrow}
use Rattle.st_diagram.specs.declared.notation.Notation.{Notation}
use Rattle.st_diagram.specs.declared.notation.Notation.TheVariants.{Mermaid, Dot}

-- which time-out an event is
abbrev pub timer_text : Timer → List ℕ
timer_text timer.Event = codes "timeout"
timer_text timer.State = codes "state_timeout"
timer_text (timer.Named name) = codes "timeout " ++ decimal name

-- what kind of event it is
abbrev pub kind_text : Kind → List ℕ
kind_text (kind.Call tag) = codes "call"
kind_text kind.Cast = codes "cast"
kind_text kind.Info = codes "info"
kind_text (kind.Timeout timer) = timer_text timer
kind_text kind.Internal = codes "internal"

-- an event: its kind and its content, which have names
abbrev pub event_text : {C : Type 0} → (C → List ℕ) → Kind × C → List ℕ
event_text contents event = kind_text event.0 ++ (codes " " ++ contents event.1)

-- what stands for the end
abbrev pub end_text : Notation → List ℕ
end_text Mermaid = codes "[*]"
end_text Dot = codes "end"

-- where an arrow leads: to a state, or to the end
abbrev pub target_text : {S : Type 0} → Notation → (S → List ℕ) → Option S → List ℕ
target_text notation states (Some state) = states state
target_text notation states None = end_text notation

-- the line between two nodes, with the event and the marks
abbrev pub line_of : Notation → List ℕ → List ℕ → List ℕ → List ℕ → List ℕ
line_of Mermaid before after event marks =
    codes "    " ++ (before ++ (codes " --> " ++ (after ++ (codes ": " ++ (event ++ (marks ++ codes "\n"))))))
line_of Dot before after event marks =
    codes "    \"" ++ (before ++ (codes "\" -> \"" ++ (after ++ (codes "\" [label=\"" ++ (event ++ (marks ++ codes "\"];\n"))))))

module _ {S C : Type 0} (notation : Notation) (states : S → List ℕ) (contents : C → List ℕ) where
  -- the line of an arrow: from which state it leads where, by which event, and with which marks
  abbrev pub arrow_line : S → Kind × C → Arrow S → List ℕ
  arrow_line state event arrow =
      line_of notation (states state) (target_text notation states arrow.target) (event_text contents event) arrow.marks
