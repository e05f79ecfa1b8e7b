-- What was done to the table that was taken out was done to the one behind the handle.
use Rattle.std.proofs.Common.{Some, sym, ap, ◌∙◌}
use Rattle.zumelivon.proofs.CallLemmas.{told}
use Rattle.zumelivon.proofs.zumelivon_post_signal.Goals as goal

pub returns-clause-does : goal.returns-clause-does
returns-clause-does c =
    told _ _ _ c.deref_mut.result.now c.post-answer.new.all (ap Some c.deref_mut.ensures.value ∙ c.in-Some.ensures.taken) (sym c.put.ensures.put) c.post-answer.ensures.does
