use Rattle.std.proofs.Common.{◌≡◌, ◌+◌, ◌++◌, Some, length, nat_lt, refl, sym, ap, ◌∙◌, arith, length-append}
use Rattle.std.specs.Prelude.{option_copied}
use Rattle.std.specs.List.{slice_get}
use Rattle.std.specs.Option.{option_to_list}
use Rattle.st_agenda.specs.Agenda.{item_of, items_in}
use Rattle.st_agenda.specs.Waiting.{places_of}
use Rattle.st_agenda.proofs.PendingLemmas.{on_some_before}
use Rattle.st_agenda.proofs.CopyingLemmas.{at_within, at_most_one, unread, read_more, read_all}
use Rattle.std.proofs.lemmas.Result.{err_from_is_err_and}
use Rattle.st_agenda.proofs.copying.copy_items.Goals as goal

pub loop-slot-preserved : goal.loop-slot-preserved
loop-slot-preserved g c =
    let listed = c.args.timeouts.now.listed in
    let queue = c.loop-slot.queue in
    let old = c.loop-slot.items.items in
    let so_far = c.loop-slot.invariant in
    let one = c.in-Some.slot.now in
    let at : slice_get queue.items queue.cursor ≡ Some one = sym c.peek.ensures.event ∙ ap option_copied c.in-Some.is in
    let less = at_within queue.items queue.cursor one at in
    let skipped = on_some_before _ c.skip-passed.ensures.skipped c.skip-passed.ensures.end less in
    let copy : c.in_ok-copy.copy ≡ item_of listed (nat_lt queue.cursor c.args.received) one =
    c.in_ok-copy.ensures ∙ ap (λ place. item_of listed (nat_lt place c.args.received) one) c.before-in-Some.ensures.cursor in
    let more : c.push_any.new.items.items ≡ old ++ option_to_list (item_of listed (nat_lt queue.cursor c.args.received) one) =
    c.push_any.ensures.pushed ∙ ap (λ o. old ++ option_to_list o) copy in
    rw skipped (record {
      items = ap (λ items. items ++ unread listed c.args.received (queue.cursor + 1) queue.items) more
          ∙ read_more listed c.args.received queue.cursor queue.items one old at so_far.items;
      listed = omega (arith, ap length c.push_any.ensures.pushed, length-append old (option_to_list c.in_ok-copy.copy), at_most_one c.in_ok-copy.copy, so_far.listed);
      room = omega (arith, c.push_any.ensures.capacity, so_far.room);
      slots = so_far.slots;
      staged = so_far.staged;
      within = omega (arith, less);
    })

pub returns-clause-items : goal.returns-clause-items
returns-clause-items g c =
    let listed = c.args.timeouts.now.listed in
    let queue = c.loop-slot.queue in
    let so_far = c.loop-slot.invariant in
    let end : queue.cursor ≡ length queue.items = c.peek.ensures.end.0 (rw c.in_default.is refl) in
    c.from.ensures ∙ (read_all listed c.args.received queue.cursor queue.items c.loop-slot.items.items (omega (arith, end)) so_far.items
    ∙ ap (λ slots. items_in listed (places_of c.args.received slots)) so_far.slots)

pub returns-in_err-items-clause-items : goal.returns-in_err-items-clause-items
returns-in_err-items-clause-items g c = rw (err_from_is_err_and c.from_residual.result c.from_residual.ensures.1).1 tt

pub returns-in_err-items-clause-slots : goal.returns-in_err-items-clause-slots
returns-in_err-items-clause-slots g c = refl

pub returns-in_err-items-clause-staged : goal.returns-in_err-items-clause-staged
returns-in_err-items-clause-staged g c = refl

pub returns-in_err-copy-clause-items : goal.returns-in_err-copy-clause-items
returns-in_err-copy-clause-items g c = rw (err_from_is_err_and c.from_residual-in_err-copy.result c.from_residual-in_err-copy.ensures.1).1 tt

pub returns-in_err-copy-clause-slots : goal.returns-in_err-copy-clause-slots
returns-in_err-copy-clause-slots g c = c.loop-slot.invariant.slots

pub returns-in_err-copy-clause-staged : goal.returns-in_err-copy-clause-staged
returns-in_err-copy-clause-staged g c = c.loop-slot.invariant.staged

pub push_any-requires : goal.push_any-requires
push_any-requires g c =
    let queue = c.loop-slot.queue in
    let at : slice_get queue.items queue.cursor ≡ Some c.in-Some.slot.now = sym c.peek.ensures.event ∙ ap option_copied c.in-Some.is in
    let less = at_within queue.items queue.cursor c.in-Some.slot.now at in
    record { reserved = omega (arith, less, c.loop-slot.invariant.listed, c.loop-slot.invariant.room) }

pub loop-slot-smaller : goal.loop-slot-smaller
loop-slot-smaller g c =
    let queue = c.loop-slot.queue in
    let at : slice_get queue.items queue.cursor ≡ Some c.in-Some.slot.now = sym c.peek.ensures.event ∙ ap option_copied c.in-Some.is in
    let less = at_within queue.items queue.cursor c.in-Some.slot.now at in
    rw (on_some_before _ c.skip-passed.ensures.skipped c.skip-passed.ensures.end less) (omega (arith, less))

pub returns-clause-slots : goal.returns-clause-slots
returns-clause-slots g c = c.loop-slot.invariant.slots

pub returns-clause-staged : goal.returns-clause-staged
returns-clause-staged g c = c.loop-slot.invariant.staged
