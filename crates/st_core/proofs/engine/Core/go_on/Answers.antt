use Rattle.st_core.proofs.engine.Core.go_on.Goals as goal

-- where nothing is asked for, the list of actions is empty
pub returns-then-is_empty : goal.returns-then-is_empty
returns-then-is_empty g c called comes =
    c.finish.ensures c.args.gathered.now c.requires.empty called (rw (c.is_empty.ensures.empty.0 c.if-is_empty.true) at comes)
