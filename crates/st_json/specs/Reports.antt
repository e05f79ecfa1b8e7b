-- The JSON of what turns did.
use Rattle.std.specs.Prelude.{ℕ, List, codes}
use Rattle.serde_json.specs.Data.{Data, string, object, Members, member, no_members}
use Rattle.st_events.specs.declared.decision.Decision.{Decision}
use Rattle.st_events.specs.declared.timer.Timer.{Timer}
use Rattle.st_answers.specs.declared.call.Call.{Call}
use Rattle.st_answers.specs.declared.call.Call.TheVariants.{Handle, Enter, Terminate}
use Rattle.st_answers.specs.declared.done.Done.{Done}
use Rattle.st_answers.specs.declared.done.Done.TheVariants.{Started, Finished, PutOff, Ended}
use Rattle.st_answers.specs.declared.report.Report.{Report}
use Rattle.st_answers.specs.declared.turned.Turned.{Turned}
use Rattle.st_answers.specs.declared.turned.Turned.TheVariants.{Reported, Idle}
use Rattle.st_json.specs.Forms.{number_data, named_data, pair_data, list_data, option_data}
use Rattle.st_json.specs.Events.{tag_data, timer_data, decision_data, kind_data}

-- how a turn ended
abbrev pub done_data : Done → Data
done_data Started = string (codes "Started")
done_data Finished = string (codes "Finished")
done_data PutOff = string (codes "PutOff")
done_data (Ended reason word) = named_data (codes "Ended") (pair_data (number_data reason) (number_data word))

-- a timer, and what was asked of it
abbrev pub setting_data : Timer × Decision → Data
setting_data setting = pair_data (timer_data setting.0) (decision_data setting.1)

module _ {S : Type 0} where
  -- the last members of a report: its lists but the callbacks
  abbrev pub last_members : Report S → Members
  last_members report =
      member (codes "inserted") (list_data number_data report.inserted)
      (member (codes "replied") (list_data tag_data report.replied)
      (member (codes "sent") (list_data number_data report.sent)
      (member (codes "set") (list_data setting_data report.set) no_members)))

  module _ (names : S → List ℕ) where
    -- a callback that was made
    abbrev pub call_data : Call S → Data
    call_data (Handle number kind state) =
        named_data (codes "Handle")
        (object (member (codes "kind") (kind_data kind)
        (member (codes "number") (number_data number)
        (member (codes "state") (string (names state)) no_members))))
    call_data (Enter old state) =
        named_data (codes "Enter")
        (object (member (codes "old") (string (names old)) (member (codes "state") (string (names state)) no_members)))
    call_data (Terminate reason state word) =
        named_data (codes "Terminate")
        (object (member (codes "reason") (number_data reason)
        (member (codes "state") (string (names state))
        (member (codes "word") (number_data word) no_members))))

    -- what a turn did
    abbrev pub report_data : Report S → Data
    report_data report =
        object (member (codes "after") (string (names report.after))
        (member (codes "before") (string (names report.before))
        (member (codes "calls") (list_data call_data report.calls)
        (member (codes "done") (done_data report.done)
        (member (codes "event") (option_data number_data report.event) (last_members report))))))

    -- what a turn answers
    abbrev pub turned_data : Turned S → Data
    turned_data (Reported report) = named_data (codes "Reported") (report_data report)
    turned_data Idle = string (codes "Idle")
