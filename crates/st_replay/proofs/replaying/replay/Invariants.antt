use Rattle.std.proofs.Common.{◌≡◌, ◌+◌, take, drop}
use Rattle.st_answers.specs.contracts.answer.AnswerPartialEq.TheImpl.{ghosts}
use Rattle.st_core.specs.Callbacks.{callbacks_of}
use Rattle.st_replay.specs.Replay.{after, agreeing}
use Rattle.st_replay.proofs.replaying.replay.Given as goal

-- of the entries so far all agree, and the machine stands behind them
abbrev pub invariant-loop-agreed : goal.invariant-loop-agreed
invariant-loop-agreed g l =
    let callbacks = callbacks_of g.M.Module g.M.State.PartialEq.eq in
    let same = (ghosts g.row.M-State g.row.M-Content g.M.State.PartialEq g.M.State.PartialEq-dict g.M.Content.PartialEq g.M.Content.PartialEq-dict).eq in
    record {
      agreed : agreeing callbacks same l.fn.core l.entries ≡ l.agreed + agreeing callbacks same l.core (drop l.agreed l.entries);
      left : l.core ≡ after callbacks l.fn.core (take l.agreed l.entries);
    }
