use Rattle.std.proofs.Common.{◌≡◌, ◌+◌, ◌^◌, false, None, [], length, refl, ap, sym, ◌∙◌, arith}
use Rattle.std.specs.List.{range_with_len}
use Rattle.std.proofs.lemmas.Bool.{leb-true}
use Rattle.st_actions.proofs.OnceLemmas.{settings_once}
use Rattle.st_actions.specs.Plan.{inserts_of, settings_of, sends_of}
use Rattle.st_actions.specs.Taking.{all_settings_of}
use Rattle.st_agenda.specs.declared.schedule.Schedule.{Schedule}
use Rattle.st_agenda.specs.Agenda.{Agenda, running_on}
use Rattle.st_agenda.specs.Timing.{numbers_taken}
use Rattle.st_outbox.specs.declared.outbox.Outbox.{Outbox}
use Rattle.st_outbox.proofs.OutboxLemmas.{numbers_sent}
use Rattle.st_core.specs.Start.{first_state, with_begun}
use Rattle.st_core.specs.Transition.{decisions_of, inserted_by, sent_by}
use Rattle.st_core.proofs.LawfulLemmas.{none_runs}
use Rattle.st_core.proofs.StartLemmas.{started_refused, started_is}
use Rattle.st_core.proofs.StateLemmas.{begun_keeps, lawful_same}
use Rattle.st_core.proofs.TransitionLemmas.{enough_for_all, both_true, machine_is, told_is}
use Rattle.st_core.proofs.engine.Core.run_with.Goals as goal

-- numbers or memory are wanting
pub returns-in-Err : goal.returns-in-Err
returns-in-Err g c =
    record {
      start = λ called same_calls same_actions.
          let machine = first_state c.args.opening.id c.args.state c.args.data c.args.opening.now c.args.opening.first in
          let next : c.new-agenda.result.schedule.next_number ≡ c.args.opening.first = ap (λ (a : Agenda _). a.schedule.next_number) c.new-agenda.ensures in
          let idle : running_on false c.new-agenda.result.schedule ≡ [] = ap (λ (a : Agenda _). running_on false a.schedule) c.new-agenda.ensures in
          let why = rw (next, idle, c.new-outgoing.ensures) at c.in-Err.ensures.prepared in
          started_refused _ c.args.opening.module machine called c.in-Err.refusal (rw (same_actions, none_runs called.changed c.args.opening.first) why)
          (rw c.new.ensures refl);
    }

pub insert-requires : goal.insert-requires
insert-requires g c =
    let actions = c.args.actions.now in
    let next : c.new-agenda.result.schedule.next_number ≡ c.args.opening.first = ap (λ (a : Agenda _). a.schedule.next_number) c.new-agenda.ensures in
    let idle : running_on false c.new-agenda.result.schedule ≡ [] = ap (λ (a : Agenda _). running_on false a.schedule) c.new-agenda.ensures in
    let enough = enough_for_all c.args.opening.first (length (inserts_of actions)) (numbers_taken [] (settings_of actions)) (rw (next, idle) at c.in-Ok.ensures.prepared.numbers) in
    let first = ap (λ (s : Schedule _). s.next_number) (c.prepare.ensures.same.schedule ∙ ap (λ (a : Agenda _). a.schedule) c.new-agenda.ensures) in
    let few = ap length c.prepare.ensures.same.inserts in (
      g.met.M.Module.lawful.actions_fit,
      (
        omega (arith, few, c.in-Ok.ensures.prepared.counted.inserts),
        (omega (arith, few, c.in-Ok.ensures.prepared.counted.inserts, c.in-Ok.ensures.prepared.staged), omega (arith, few, c.in-Ok.ensures.prepared.counted.inserts, first, enough)),
      ),
    )

pub set_all-requires : goal.set_all-requires
set_all-requires g c =
    let actions = c.args.actions.now in
    let next : c.new-agenda.result.schedule.next_number ≡ c.args.opening.first = ap (λ (a : Agenda _). a.schedule.next_number) c.new-agenda.ensures in
    let idle : running_on false c.new-agenda.result.schedule ≡ [] = ap (λ (a : Agenda _). running_on false a.schedule) c.new-agenda.ensures in
    let enough = enough_for_all c.args.opening.first (length (inserts_of actions)) (numbers_taken [] (settings_of actions)) (rw (next, idle) at c.in-Ok.ensures.prepared.numbers) in
    let settings : all_settings_of c.insert.new.actions ≡ settings_of actions = c.insert.ensures.same_settings ∙ c.in-Ok.ensures.prepared.last in
    let begun = c.prepare.ensures.same.schedule ∙ ap (λ (a : Agenda _). a.schedule) c.new-agenda.ensures in
    let running : c.insert.new.self.schedule.running ≡ [] = ap (λ (a : Agenda _). a.schedule.running) c.insert.ensures.inserted ∙ ap (λ (s : Schedule _). s.running) begun in
    let kept = ap (λ (a : Agenda _). a.reserved) c.insert.ensures.inserted in
    let more = ap (λ (a : Agenda _). a.schedule.next_number) c.insert.ensures.inserted in
    let first = ap (λ (s : Schedule _). s.next_number) begun in
    let count = ap length c.prepare.ensures.same.inserts in
    let settled = ap length c.in-Ok.ensures.prepared.last in
    rw (settings, running) (
      g.met.M.Module.lawful.actions_fit,
      (
        omega (arith, settled, c.in-Ok.ensures.prepared.counted.settings),
        (
          c.requires.moment,
          (
            settings_once actions,
            (omega (arith, settled, c.in-Ok.ensures.prepared.counted.settings, kept, c.in-Ok.ensures.prepared.reserved), omega (arith, more, first, count, enough)),
          ),
        ),
      ),
    )

-- what is sent has its places and its numbers
pub send_each-requires : goal.send_each-requires
send_each-requires g c =
    let actions = c.args.actions.now in
    let next = ap (λ (o : Outbox _). o.next_number) (c.prepare.ensures.same.outbox ∙ c.new-outgoing.ensures) in
    let enough = leb-true (1 + length (sends_of actions)) (2 ^ 63) (rw c.new-outgoing.ensures at c.in-Ok.ensures.prepared.message_numbers) in
    let sends = ap length (c.set_all.ensures.same_sends ∙ (c.insert.ensures.same_sends ∙ c.prepare.ensures.same.sends)) in
    let counted = ap length c.prepare.ensures.same.sends in (
      g.met.M.Module.lawful.actions_fit,
      (
        omega (arith, sends, counted, c.in-Ok.ensures.prepared.counted.sends),
        (omega (arith, counted, c.in-Ok.ensures.prepared.counted.sends, c.in-Ok.ensures.prepared.places), omega (arith, counted, c.in-Ok.ensures.prepared.counted.sends, next, enough)),
      ),
    )

-- the machine runs
pub returns : goal.returns
returns g c =
    record {
      start = λ called same_calls same_actions.
          let machine = first_state c.args.opening.id c.args.state c.args.data c.args.opening.now c.args.opening.first in
          let next : c.new-agenda.result.schedule.next_number ≡ c.args.opening.first = ap (λ (a : Agenda _). a.schedule.next_number) c.new-agenda.ensures in
          let idle : running_on false c.new-agenda.result.schedule ≡ [] = ap (λ (a : Agenda _). running_on false a.schedule) c.new-agenda.ensures in
          let settings : all_settings_of c.insert.new.actions ≡ settings_of c.args.actions.now = c.insert.ensures.same_settings ∙ c.in-Ok.ensures.prepared.last in
          let numbers = rw (next, idle) at c.in-Ok.ensures.prepared.numbers in
          let messages = rw c.new-outgoing.ensures at c.in-Ok.ensures.prepared.message_numbers in
          let sends : sends_of c.set_all.new.actions ≡ sends_of c.args.actions.now = c.set_all.ensures.same_sends ∙ (c.insert.ensures.same_sends ∙ c.prepare.ensures.same.sends) in
          let told : c.prepare.new.gathered.sent ≡ sent_by machine called.actions =
          rw same_actions (c.in-Ok.ensures.prepared.sent ∙ (ap (λ (o : Outbox _). range_with_len o.next_number (length (sends_of c.args.actions.now))) c.new-outgoing.ensures
          ∙ sym (numbers_sent c.args.opening.id 1 (sends_of c.args.actions.now)))) in
          let inserted : c.prepare.new.gathered.inserted ≡ inserted_by machine called.actions = rw (same_actions, ← next) c.in-Ok.ensures.prepared.inserted in
          let set : c.prepare.new.gathered.set ≡ decisions_of (settings_of called.actions) = rw same_actions c.in-Ok.ensures.prepared.set in
          let scheduled : c.set_all.new.self.schedule ≡ (with_begun machine called.actions).schedule =
          rw (c.set_all.ensures.set, c.insert.ensures.inserted, settings, c.prepare.ensures.same.inserts, c.prepare.ensures.same.schedule, c.new-agenda.ensures, same_actions) refl in
          let sent : c.send_each.new.outgoing.outbox ≡ (with_begun machine called.actions).outbox = rw (c.send_each.ensures, sends, c.prepare.ensures.same.outbox, c.new-outgoing.ensures, same_actions) refl in
          started_is _ c.args.opening.module machine called (rw (same_actions, none_runs called.changed c.args.opening.first) (both_true numbers messages))
          (machine_is refl refl refl scheduled c.new-2.ensures sent refl refl)
          (c.into_report-report.ensures ∙ told_is None c.args.state refl (c.prepare.ensures.same.calls ∙ sym same_calls) refl c.in-Ok.ensures.prepared.replied inserted set told);
    }

-- it can come about
pub invariant_of-core : goal.invariant_of-core
invariant_of-core g c =
    let actions = c.args.actions.now in
    let next : c.new-agenda.result.schedule.next_number ≡ c.args.opening.first = ap (λ (a : Agenda _). a.schedule.next_number) c.new-agenda.ensures in
    let idle : running_on false c.new-agenda.result.schedule ≡ [] = ap (λ (a : Agenda _). running_on false a.schedule) c.new-agenda.ensures in
    let enough = enough_for_all c.args.opening.first (length (inserts_of actions)) (numbers_taken [] (settings_of actions)) (rw (next, idle) at c.in-Ok.ensures.prepared.numbers) in
    let settings : all_settings_of c.insert.new.actions ≡ settings_of actions = c.insert.ensures.same_settings ∙ c.in-Ok.ensures.prepared.last in
    let sends : sends_of c.set_all.new.actions ≡ sends_of actions = c.set_all.ensures.same_sends ∙ (c.insert.ensures.same_sends ∙ c.prepare.ensures.same.sends) in
    let places = leb-true (1 + length (sends_of actions)) (2 ^ 63) (rw c.new-outgoing.ensures at c.in-Ok.ensures.prepared.message_numbers) in
    let machine = first_state c.args.opening.id c.args.state c.args.data c.args.opening.now c.args.opening.first in
    let scheduled : c.set_all.new.self.schedule ≡ (with_begun machine actions).schedule =
    rw (c.set_all.ensures.set, c.insert.ensures.inserted, settings, c.prepare.ensures.same.inserts, c.prepare.ensures.same.schedule, c.new-agenda.ensures) refl in
    let sent : c.send_each.new.outgoing.outbox ≡ (with_begun machine actions).outbox = rw (c.send_each.ensures, sends, c.prepare.ensures.same.outbox, c.new-outgoing.ensures) refl in
    lawful_same c.args.opening.id None scheduled c.new-2.ensures sent refl
    (begun_keeps c.args.opening.id c.args.opening.now c.args.opening.first (inserts_of actions) (settings_of actions) (sends_of actions) c.requires.moment (settings_once actions) enough places)
