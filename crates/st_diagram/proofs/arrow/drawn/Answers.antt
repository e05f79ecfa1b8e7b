use Rattle.st_diagram.proofs.ArrowLemmas.{drawn_as}
use Rattle.st_diagram.proofs.arrow.drawn.Goals as goal

pub returns-in-NextState : goal.returns-in-NextState
returns-in-NextState g c = drawn_as c.leads.result c.args.state c.args.outcome.now _ c.in-NextState.is c.leads.ensures

pub returns-in-KeepState : goal.returns-in-KeepState
returns-in-KeepState g c = drawn_as c.leads-in-KeepState.result c.args.state c.args.outcome.now _ c.in-KeepState.is c.leads-in-KeepState.ensures

pub returns-in-KeepStateAndData : goal.returns-in-KeepStateAndData
returns-in-KeepStateAndData g c = drawn_as c.asked.result c.args.state c.args.outcome.now _ c.in-KeepStateAndData.is c.asked.ensures

pub returns-in-RepeatState : goal.returns-in-RepeatState
returns-in-RepeatState g c = drawn_as c.leads-in-RepeatState.result c.args.state c.args.outcome.now _ c.in-RepeatState.is c.leads-in-RepeatState.ensures

pub returns-in-RepeatStateAndData : goal.returns-in-RepeatStateAndData
returns-in-RepeatStateAndData g c =
    drawn_as c.leads-in-RepeatStateAndData.result c.args.state c.args.outcome.now _ c.in-RepeatStateAndData.is c.leads-in-RepeatStateAndData.ensures

pub returns-in-Stop : goal.returns-in-Stop
returns-in-Stop g c = drawn_as c.ended.result c.args.state c.args.outcome.now _ c.in-Stop.is c.ended.ensures

pub returns-in-StopAndReply : goal.returns-in-StopAndReply
returns-in-StopAndReply g c = drawn_as c.ended-in-StopAndReply.result c.args.state c.args.outcome.now _ c.in-StopAndReply.is c.ended-in-StopAndReply.ensures

-- the actions fit in memory
pub leads-requires : goal.leads-requires
leads-requires g c = c.requires.actions_fit

pub leads-requires-in-KeepState : goal.leads-requires-in-KeepState
leads-requires-in-KeepState g c = c.requires.actions_fit

pub asked-requires : goal.asked-requires
asked-requires g c = c.requires.actions_fit

pub leads-requires-in-RepeatState : goal.leads-requires-in-RepeatState
leads-requires-in-RepeatState g c = c.requires.actions_fit

pub leads-requires-in-RepeatStateAndData : goal.leads-requires-in-RepeatStateAndData
leads-requires-in-RepeatStateAndData g c = c.requires.actions_fit
