use Rattle.std.proofs.Common.{◌≤◌, ◌++◌, ◌∷◌, [], length, take, sym, ap, ◌∙◌, arith}
use Rattle.std.proofs.lemmas.List.{take_more, take_all}
use Rattle.st_cell.proofs.copying.copied_entries.Goals as goal

-- one entry more
pub loop-entry-preserved : goal.loop-entry-preserved
loop-entry-preserved g c =
    let entries = c.args.entries.now in
    let index = c.loop-entry.entry-index in
    let so_far = c.loop-entry.invariant in
    let more = take_more entries index c.entry-item.result c.loop-entry-test.true in
    record {
      items = c.push_reserved.ensures.items ∙ (ap (λ l. l ++ c.in_ok-copy.copy ∷ []) so_far.items
          ∙ (ap (λ e. take index entries ++ e ∷ []) (c.in_ok-copy.ensures ∙ c.entry-item.is) ∙ sym more));
      listed = omega (arith, c.push_reserved.ensures.len, so_far.listed);
      room = omega (arith, c.push_reserved.ensures.capacity, so_far.room);
    }

-- all of them
pub returns : goal.returns
returns g c =
    let entries = c.args.entries.now in
    let past : length entries ≤ c.loop-entry.entry-index = omega arith in
    c.from.ensures ∙ (c.loop-entry.invariant.items ∙ take_all c.loop-entry.entry-index entries past)
