use Rattle.st_diagram.proofs.arrow.arrow_after.Goals as goal

-- what is handed on holds where it came from
pub drop-outcome-requires : goal.drop-outcome-requires
drop-outcome-requires g c κs = λ within. within

-- the arrow is the one that is drawn
pub returns : goal.returns
returns g c = c.drawn.ensures

pub drawn-requires : goal.drawn-requires
drawn-requires g c = (c.requires.outcome_fits, c.requires.actions_fit)
