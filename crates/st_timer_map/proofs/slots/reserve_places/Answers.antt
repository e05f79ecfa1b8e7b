use Rattle.std.proofs.Common.{nat_eq, sym, ap, ◌∙◌}
use Rattle.std.proofs.lemmas.Result.{err_from_is_err_and}
use Rattle.std.specs.HashMap.{get}
use Rattle.std.specs.Prelude.{Result, Ok, Err, OnErr}
use Rattle.st_timer_map.proofs.IndexLemmas.{tied_with_names}
use Rattle.st_timer_map.proofs.slots.reserve_places.Goals as goal

-- what holds whatever comes back
on_err : {T E : Type 0} (r : Result T E) (P : Type 0) → P → OnErr r P
on_err (Ok x) P holds = tt
on_err (Err e) P holds = holds

-- there was no memory for the map, or for its box
pub returns-in_err-named-clause-room : goal.returns-in_err-named-clause-room
returns-in_err-named-clause-room g c = rw (err_from_is_err_and c.from_residual.result c.from_residual.ensures.1).1 tt

pub returns-in_err-named-clause-kept : goal.returns-in_err-named-clause-kept
returns-in_err-named-clause-kept g c = on_err c.from_residual.result _ (λ room had. had)

pub returns-in_err-new-clause-room : goal.returns-in_err-new-clause-room
returns-in_err-new-clause-room g c = rw (err_from_is_err_and c.from_residual-in_err-new.result c.from_residual-in_err-new.ensures.1).1 tt

pub returns-in_err-new-clause-kept : goal.returns-in_err-new-clause-kept
returns-in_err-new-clause-kept g c = on_err c.from_residual-in_err-new.result _ (λ room had. had)

-- the map is there, and tells the places of the names
pub returns-then-not-has_names-clause-tied : goal.returns-then-not-has_names-clause-tied
returns-then-not-has_names-clause-tied g c =
    tied_with_names c.args.index.now c.learn.new.self c.in_ok-new.field-0 c.args.slots.now c.learn.ensures
    (λ name. ap (λ map. get nat_eq map name) c.in_ok-new.ensures.ok ∙ c.in_ok-named.ensures.places name) c.requires.tied

pub returns-then-not-has_names-clause-room : goal.returns-then-not-has_names-clause-room
returns-then-not-has_names-clause-room g c = rw (c.learn.ensures, c.in_ok-new.ensures.ok) c.in_ok-named.ensures.room

-- there was room enough, or a map was there
pub returns-clause-tied : goal.returns-clause-tied
returns-clause-tied g c = λ timer known. c.reserve.ensures.places timer ∙ c.requires.tied timer (sym (c.reserve.ensures.knows timer) ∙ known)

pub returns-clause-kept : goal.returns-clause-kept
returns-clause-kept g c = on_err c.reserve.result _ c.reserve.ensures.kept
