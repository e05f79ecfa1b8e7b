-- What was done to the table that was taken out was done to the one behind the handle, and so is what is said of it.
use Rattle.std.proofs.Common.{Some, sym, ap, ◌∙◌}
use Rattle.zumelivon.proofs.CallLemmas.{seen, told}
use Rattle.zumelivon.proofs.zumelivon_start_described.Goals as goal

pub returns-clause-does : goal.returns-clause-does
returns-clause-does c =
    told _ _ _ c.deref_mut.result.now c.start-answer.new.all (ap Some c.deref_mut.ensures.value ∙ c.in-Some.ensures.taken) (sym c.put.ensures.put) c.start-answer.ensures.does

pub returns-clause-why : goal.returns-clause-why
returns-clause-why c = seen _ _ c.deref_mut.result.now (ap Some c.deref_mut.ensures.value ∙ c.in-Some.ensures.taken) c.start-answer.ensures.why
