use Rattle.std.proofs.Common.{◌≡◌, ◌++◌, ◌∷◌, [], Some, length, take, refl, sym, ap, ◌∙◌, arith, append_assoc, length-append}
use Rattle.std.specs.Prelude.{option_copied}
use Rattle.std.specs.List.{slice_get}
use Rattle.st_agenda.specs.Waiting.{slot_numbers}
use Rattle.st_agenda.proofs.PendingLemmas.{on_some_before}
use Rattle.st_agenda.proofs.CopyingLemmas.{at_within, one_number_more}
use Rattle.st_agenda.proofs.copying.pass.Goals as goal

pub unreachable-requires : goal.unreachable-requires
unreachable-requires g c =
    let end = c.peek.ensures.end.0 (rw c.in_default.is refl) in
    let passed = c.loop-place.invariant.passed in
    omega (arith, c.loop-place-test.true, c.requires.within, rw passed at end)

pub loop-place-preserved : goal.loop-place-preserved
loop-place-preserved g c =
    let slots = c.args.queue.now.items in
    let place = c.loop-place._place in
    let so_far = c.loop-place.invariant in
    let one = c.in-Some.slot.now in
    let found = sym c.peek.ensures.event ∙ ap option_copied c.in-Some.is in
    let at : slice_get slots place ≡ Some one = rw so_far.passed at found in
    let less = at_within slots place one at in
    let here = rw so_far.passed at c.skip-passed.ensures in
    let skipped = on_some_before _ here.skipped here.end less in
    record {
      passed = skipped;
      numbers = c.push_reserved.ensures.items ∙ (ap (λ numbers. numbers ++ c.number_of.result ∷ []) so_far.numbers
          ∙ (append_assoc c.args.numbers.now.items (slot_numbers (take place slots)) (c.number_of.result ∷ [])
          ∙ ap (λ numbers. c.args.numbers.now.items ++ numbers) (ap (λ n. slot_numbers (take place slots) ++ n ∷ []) c.number_of.ensures ∙ sym (one_number_more slots place one at))));
      room = omega (arith, ap length c.push_reserved.ensures.items, length-append c.loop-place.numbers.items (c.number_of.result ∷ []), c.push_reserved.ensures.capacity, so_far.room);
    }
