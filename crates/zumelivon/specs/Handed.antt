-- What a turn is handed, as plain values.
use Rattle.zumelivon.specs.Reading.{Handed}
use Rattle.zumelivon.specs.declared.answers.Answers.{Answers}

abbrev pub handed_in : Answers → Handed
handed_in it = record {
  handled = it.handled.now;
  actions = it.actions.now;
  entered = it.entered.now;
  enter_actions = it.enter_actions.now;
  bytes = it.bytes.now;
  word = it.word;
}
