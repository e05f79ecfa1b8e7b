use Rattle.std.proofs.Common.{sym, ◌∙◌}
use Rattle.st_registry.proofs.starts.keep.Goals as goal

-- the machine is kept at its vacancy, under its own id
pub returns-in-Ok-clause-keeps : goal.returns-in-Ok-clause-keeps
returns-in-Ok-clause-keeps g c = record {
  machine = c.in-Ok.machine;
  under = c.id-id.ensures;
  issued = c.in-Ok.ensures.token;
  identified = c.in-Ok.ensures.id ∙ (c.requires.core ∙ sym c.id-id.ensures);
  kept = c.insert.ensures;
}
