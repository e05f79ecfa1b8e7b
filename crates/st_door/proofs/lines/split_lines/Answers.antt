use Rattle.std.proofs.Common.{rules, ◌≡◌, map, ℕ, true, false, List, [], ◌∷◌, ◌++◌, Bor, ap, sym, ◌∙◌, append-nil}
use Rattle.st_doors.specs.Lines.{whole_pieces, is_empty}
use Rattle.st_door.proofs.PieceLemmas.{last_kept, last_dropped}
use Rattle.st_door.proofs.lines.split_lines.Goals as goal

pub returns-in-Some : goal.returns-in-Some
returns-in-Some c =
    let now : Bor (List ℕ) → List ℕ = λ x. x.now in
    let split : c.in_ok-pieces.pieces.items ≡ c.pop.new.self.items ++ c.in-Some.last ∷ [] = c.in-Some.ensures.items in
    let empty : is_empty c.in-Some.last.now ≡ true = search rules in
    sym (append-nil (map now c.pop.new.self.items)) ∙ (sym (last_dropped now _ _ empty) ∙ ap whole_pieces (ap (map now) (sym split) ∙ c.in_ok-pieces.ensures))

pub returns-in_ok-push-in-Some-2 : goal.returns-in_ok-push-in-Some-2
returns-in_ok-push-in-Some-2 c =
    let now : Bor (List ℕ) → List ℕ = λ x. x.now in
    let split : c.in_ok-pieces.pieces.items ≡ c.pop.new.self.items ++ c.in-Some-2.last ∷ [] = c.in-Some-2.ensures.items in
    let pushed : c.push.new.self.items ≡ c.pop.new.self.items ++ c.in-Some-2.last ∷ [] = search rules in
    let full : is_empty c.in-Some-2.last.now ≡ false = search rules in
    ap (map now) pushed ∙ (sym (last_kept now _ _ full) ∙ ap whole_pieces (ap (map now) (sym split) ∙ c.in_ok-pieces.ensures))
