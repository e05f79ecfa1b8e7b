-- What is seen of the table that was taken out is seen of the one behind the handle.
use Rattle.std.proofs.Common.{Some, ap, ◌∙◌}
use Rattle.zumelivon.proofs.CallLemmas.{seen}
use Rattle.zumelivon.proofs.zumelivon_look.Goals as goal

pub returns-clause-looks : goal.returns-clause-looks
returns-clause-looks c = seen _ _ c.deref.result.now (ap Some c.deref.ensures ∙ c.in-Some.ensures.taken) c.look-answer.ensures.looks
