use Rattle.std.proofs.Common.{◌≡◌, ◌+◌, ◌^◌, true, Some, length, max, refl, ap, sym, ◌∙◌, arith}
use Rattle.std.specs.Option.{option_map}
use Rattle.std.proofs.lemmas.Bool.{leb-true}
use Rattle.st_actions.proofs.OnceLemmas.{settings_once}
use Rattle.st_actions.specs.Plan.{replies_of, inserts_of, postpone_of, settings_of, sends_of}
use Rattle.st_actions.specs.Taking.{all_settings_of}
use Rattle.st_requests.specs.Requests.{taken_by, with_answers}
use Rattle.st_events.specs.declared.event.Event.{Event}
use Rattle.st_agenda.specs.declared.schedule.Schedule.{Schedule}
use Rattle.st_agenda.specs.Agenda.{Agenda, next_in, settled_in, inserted_in, all_set_in, running_on}
use Rattle.st_agenda.specs.Timing.{numbers_taken}
use Rattle.st_agenda.proofs.LawfulTurn.{still_running}
use Rattle.st_outbox.specs.declared.outbox.Outbox.{Outbox}
use Rattle.st_outbox.specs.Outbox.{with_sent}
use Rattle.st_outbox.proofs.OutboxLemmas.{numbers_sent}
use Rattle.st_core.specs.Transition.{with_moment, has_numbers, done_by, inserted_by, decisions_of, sent_by}
use Rattle.st_core.proofs.StateLemmas.{lawful_same, settled_keeps}
use Rattle.st_core.proofs.TransitionLemmas.{went_on_is, went_on_refused, told_is, machine_is, settled_is, enough_for_all, both_true}
use Rattle.st_core.proofs.engine.Core.carry_out.Goals as goal

-- the answer and what is left are the definition's
pub returns : goal.returns
returns g c called comes =
    let machine = c.args.self.now.machine in
    let actions = c.args.actions.now in
    let old = c.self.inside in
    let enough : has_numbers (with_moment machine c.args.course.now) called ≡ true =
    rw (comes.actions, comes.changed, ← c.self.view_is) (both_true c.in-Ok.ensures.prepared.numbers c.in-Ok.ensures.prepared.message_numbers) in
    let latest : c.max-self-inside.result ≡ max machine.latest c.args.course.now = rw (c.max-self-inside.ensures, ← c.self.view_is) refl in
    let same : c.prepare.new.agenda.schedule ≡ machine.schedule = rw (c.prepare.ensures.same.schedule, ← c.self.view_is) refl in
    let postponed : c.unwrap_or-postpone.result ≡ postpone_of called.actions = rw (c.unwrap_or-postpone.ensures, comes.actions) c.in-Ok.ensures.prepared.postpone in
    let to_reply : replies_of c.prepare.new.actions ≡ replies_of called.actions = rw comes.actions c.prepare.ensures.same.replies in
    let to_insert : inserts_of c.answer_each.new.actions ≡ inserts_of called.actions = rw comes.actions (c.answer_each.ensures.same_inserts ∙ c.prepare.ensures.same.inserts) in
    let to_set : all_settings_of c.insert.new.actions ≡ settings_of called.actions =
    rw comes.actions (c.insert.ensures.same_settings ∙ (c.answer_each.ensures.same_settings ∙ c.in-Ok.ensures.prepared.last)) in
    let replied : c.answer_each.new.taken.items ≡ taken_by machine.requests (replies_of called.actions) =
    rw (c.answer_each.ensures.taken, c.in-Ok.ensures.prepared.replied, to_reply, ← c.self.view_is) refl in
    let settled : c.set_all.new.self.schedule ≡ settled_in c.max-self-inside.result c.prepare.new.agenda.schedule c.args.course.number c.unwrap_or-postpone.result c.args.course.changed
    (inserts_of c.answer_each.new.actions) (all_settings_of c.insert.new.actions) =
    c.set_all.ensures.set
    ∙ ap (λ (s : Schedule _). all_set_in c.max-self-inside.result s (all_settings_of c.insert.new.actions))
    (ap (λ (a : Agenda _). a.schedule) c.insert.ensures.inserted ∙ ap (λ (s : Schedule _). inserted_in s (inserts_of c.answer_each.new.actions)) c.settle.ensures.schedule) in
    let to_send : sends_of c.set_all.new.actions ≡ sends_of called.actions =
    rw comes.actions (c.set_all.ensures.same_sends ∙ (c.insert.ensures.same_sends ∙ (c.answer_each.ensures.same_sends ∙ c.prepare.ensures.same.sends))) in
    let sent : c.send_each.new.outgoing.outbox ≡ with_sent machine.id machine.outbox (sends_of called.actions) =
    rw (c.send_each.ensures, to_send, c.prepare.ensures.same.outbox, ← c.self.view_is) refl in
    let told : c.prepare.new.gathered.sent ≡ sent_by machine called.actions =
    rw (comes.actions, ← c.self.view_is) (c.in-Ok.ensures.prepared.sent ∙ sym (numbers_sent old.id old.outgoing.outbox.next_number (sends_of actions))) in
    let inserted : c.prepare.new.gathered.inserted ≡ inserted_by machine called.actions = rw (comes.actions, ← c.self.view_is) c.in-Ok.ensures.prepared.inserted in
    let set : c.prepare.new.gathered.set ≡ decisions_of (settings_of called.actions) = rw comes.actions c.in-Ok.ensures.prepared.set in (
      rw (← c.self.view_is) refl,
      went_on_is machine (with_moment machine c.args.course.now) _ c.args.course.number called enough
          (told_is (Some c.args.course.number) machine.state (c.done_by.ensures ∙ ap done_by postponed) (c.prepare.ensures.same.calls ∙ sym comes.calls) (sym comes.state) replied inserted set told)
          (machine_is (rw (← c.self.view_is) refl) (sym comes.state)
          (rw (c.replace.ensures, comes.data, ← c.self.view_is) refl)
          (settled ∙ settled_is c.args.course.number latest same postponed (sym comes.changed) to_insert to_set)
          (rw (c.answer_each.ensures.answered, to_reply, ← c.self.view_is) refl)
          sent latest (rw (← c.self.view_is) refl)),
    )

-- numbers or memory are wanting
pub returns-in-Err : goal.returns-in-Err
returns-in-Err g c called comes =
    let machine = c.args.self.now.machine in (
      rw (← c.self.view_is) refl,
      went_on_refused machine (with_moment machine c.args.course.now) _ c.args.course.number called c.in-Err.refusal
          (rw (c.prepare.ensures.same.schedule, c.prepare.ensures.same.outbox, ← c.self.view_is) refl) (rw (comes.actions, comes.changed, ← c.self.view_is) c.in-Err.ensures.prepared),
    )

pub answer_each-requires : goal.answer_each-requires
answer_each-requires g c =
    let none = ap length c.in-Ok.ensures.prepared.replied in
    let same = ap length c.prepare.ensures.same.replies in (
      g.met.M.Module.lawful.actions_fit,
      (omega (arith, same, c.in-Ok.ensures.prepared.counted.replies), omega (arith, none, same, c.in-Ok.ensures.prepared.counted.replies, c.in-Ok.ensures.prepared.replies)),
    )

pub settle-requires : goal.settle-requires
settle-requires g c =
    let same : c.prepare.new.agenda.schedule ≡ c.args.self.now.machine.schedule = rw (c.prepare.ensures.same.schedule, ← c.self.view_is) refl in
    record {
      number_is = ap (λ (s : Schedule _). option_map (λ (event : Event _). event.number) (next_in s)) same ∙ c.requires.number_is;
      staged = omega (arith, c.in-Ok.ensures.prepared.staged);
    }

pub insert-requires : goal.insert-requires
insert-requires g c =
    let old = c.self.inside in
    let actions = c.args.actions.now in
    let next = ap (λ (s : Schedule _). s.next_number) c.prepare.ensures.same.schedule in
    let inserts = c.answer_each.ensures.same_inserts ∙ c.prepare.ensures.same.inserts in
    let count = ap length c.answer_each.ensures.same_inserts in
    let few = ap length c.prepare.ensures.same.inserts in
    let enough = enough_for_all old.agenda.schedule.next_number (length (inserts_of actions)) (numbers_taken (running_on c.args.course.changed old.agenda.schedule) (settings_of actions)) c.in-Ok.ensures.prepared.numbers in (
      g.met.M.Module.lawful.actions_fit,
      (
        omega (arith, count, c.in-Ok.ensures.prepared.counted.inserts),
        (omega (arith, few, c.in-Ok.ensures.prepared.counted.inserts, c.in-Ok.ensures.prepared.staged, c.settle.ensures.staged), omega (arith, few, c.in-Ok.ensures.prepared.counted.inserts, next, c.settle.ensures.next_number, enough)),
      ),
    )

pub set_all-requires : goal.set_all-requires
set_all-requires g c =
    let old = c.self.inside in
    let actions = c.args.actions.now in
    let next = ap (λ (s : Schedule _). s.next_number) c.prepare.ensures.same.schedule in
    let enough = enough_for_all old.agenda.schedule.next_number (length (inserts_of actions)) (numbers_taken (running_on c.args.course.changed old.agenda.schedule) (settings_of actions)) c.in-Ok.ensures.prepared.numbers in
    let settings : all_settings_of c.insert.new.actions ≡ settings_of actions = c.insert.ensures.same_settings ∙ (c.answer_each.ensures.same_settings ∙ c.in-Ok.ensures.prepared.last) in
    let kept = ap (λ (a : Agenda _). a.reserved) c.insert.ensures.inserted in
    let more = ap (λ (a : Agenda _). a.schedule.next_number) c.insert.ensures.inserted in
    let count = ap length (c.answer_each.ensures.same_inserts ∙ c.prepare.ensures.same.inserts) in
    let running : c.insert.new.self.schedule.running ≡ running_on c.args.course.changed old.agenda.schedule =
    ap (λ (a : Agenda _). a.schedule.running) c.insert.ensures.inserted
    ∙ (ap (λ (s : Schedule _). s.running) c.settle.ensures.schedule
    ∙ (still_running c.prepare.new.agenda.schedule c.args.course.number c.unwrap_or-postpone.result c.args.course.changed
    ∙ ap (λ (s : Schedule _). running_on c.args.course.changed s) c.prepare.ensures.same.schedule)) in
    let settled = ap length c.in-Ok.ensures.prepared.last in
    rw (settings, running) (
      g.met.M.Module.lawful.actions_fit,
      (
        omega (arith, settled, c.in-Ok.ensures.prepared.counted.settings),
        (
          omega (arith, c.max-self-inside.ensures, c.self.invariant.moment, c.requires.moment),
          (
            settings_once actions,
            (
              omega (arith, settled, c.in-Ok.ensures.prepared.counted.settings, kept, c.settle.ensures.reserved, c.in-Ok.ensures.prepared.reserved),
              omega (arith, more, count, next, c.settle.ensures.next_number, enough),
            ),
          ),
        ),
      ),
    )

-- what is sent has its places and its numbers
pub send_each-requires : goal.send_each-requires
send_each-requires g c =
    let old = c.self.inside in
    let actions = c.args.actions.now in
    let next = ap (λ (o : Outbox _). o.next_number) c.prepare.ensures.same.outbox in
    let enough = leb-true (old.outgoing.outbox.next_number + length (sends_of actions)) (2 ^ 63) c.in-Ok.ensures.prepared.message_numbers in
    let sends = ap length (c.set_all.ensures.same_sends ∙ (c.insert.ensures.same_sends ∙ (c.answer_each.ensures.same_sends ∙ c.prepare.ensures.same.sends))) in
    let counted = ap length c.prepare.ensures.same.sends in (
      g.met.M.Module.lawful.actions_fit,
      (
        omega (arith, sends, counted, c.in-Ok.ensures.prepared.counted.sends),
        (omega (arith, counted, c.in-Ok.ensures.prepared.counted.sends, c.in-Ok.ensures.prepared.places), omega (arith, counted, c.in-Ok.ensures.prepared.counted.sends, next, enough)),
      ),
    )

-- what is left can come about
pub invariant_of-self-2 : goal.invariant_of-self-2
invariant_of-self-2 g c =
    let old = c.self.inside in
    let actions = c.args.actions.now in
    let next : option_map (λ (event : Event _). event.number) (next_in old.agenda.schedule) ≡ Some c.args.course.number = rw (← c.self.view_is) at c.requires.number_is in
    let enough = enough_for_all old.agenda.schedule.next_number (length (inserts_of actions)) (numbers_taken (running_on c.args.course.changed old.agenda.schedule) (settings_of actions)) c.in-Ok.ensures.prepared.numbers in
    let settings : all_settings_of c.insert.new.actions ≡ settings_of actions = c.insert.ensures.same_settings ∙ (c.answer_each.ensures.same_settings ∙ c.in-Ok.ensures.prepared.last) in
    let inserts : inserts_of c.answer_each.new.actions ≡ inserts_of actions = c.answer_each.ensures.same_inserts ∙ c.prepare.ensures.same.inserts in
    let places = leb-true (old.outgoing.outbox.next_number + length (sends_of actions)) (2 ^ 63) c.in-Ok.ensures.prepared.message_numbers in
    let sends : sends_of c.set_all.new.actions ≡ sends_of actions = c.set_all.ensures.same_sends ∙ (c.insert.ensures.same_sends ∙ (c.answer_each.ensures.same_sends ∙ c.prepare.ensures.same.sends)) in
    let settled : c.set_all.new.self.schedule ≡ settled_in c.max-self-inside.result c.prepare.new.agenda.schedule c.args.course.number c.unwrap_or-postpone.result c.args.course.changed
    (inserts_of c.answer_each.new.actions) (all_settings_of c.insert.new.actions) =
    c.set_all.ensures.set
    ∙ ap (λ (s : Schedule _). all_set_in c.max-self-inside.result s (all_settings_of c.insert.new.actions))
    (ap (λ (a : Agenda _). a.schedule) c.insert.ensures.inserted ∙ ap (λ (s : Schedule _). inserted_in s (inserts_of c.answer_each.new.actions)) c.settle.ensures.schedule) in
    let scheduled = settled ∙ settled_is c.args.course.number c.max-self-inside.ensures c.prepare.ensures.same.schedule refl refl inserts settings in
    let answered : c.answer_each.new.requests ≡ with_answers old.requests (replies_of actions) = rw (c.answer_each.ensures.answered, c.prepare.ensures.same.replies) refl in
    let sent : c.send_each.new.outgoing.outbox ≡ with_sent old.id old.outgoing.outbox (sends_of actions) = rw (c.send_each.ensures, sends, c.prepare.ensures.same.outbox) refl in
    lawful_same old.id old.ended scheduled answered sent c.max-self-inside.ensures
    (settled_keeps old.id old.agenda.schedule old.requests old.outgoing.outbox old.latest c.args.course.now old.ended c.args.course.number c.unwrap_or-postpone.result c.args.course.changed (inserts_of actions) (settings_of actions) (replies_of actions)
    (sends_of actions) c.requires.moment next (settings_once actions) enough places c.self.invariant)
