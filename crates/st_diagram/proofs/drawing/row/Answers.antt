use Rattle.st_diagram.proofs.drawing.row.Goals as goal

-- what a module answers fits in memory
pub arrow_after-requires : goal.arrow_after-requires
arrow_after-requires g c =
    (g.met.M.Module.lawful.outcome_fits, (g.met.M.Module.lawful.outcome_fits, (g.met.M.Module.lawful.actions_fit, g.met.M.Module.lawful.replies_fit)))
