use Rattle.std.proofs.Common.{◌≤◌, ◌++◌, ◌∷◌, [], length, take, sym, ap, ◌∙◌, arith}
use Rattle.std.specs.Prelude.{option_copied}
use Rattle.std.proofs.lemmas.List.{take_all}
use Rattle.st_timeouts.specs.Timeouts.{all_of}
use Rattle.st_timeouts.specs.Entries.{listed_of}
use Rattle.st_timeouts.proofs.CopyLemmas.{not_missed, one_more, as_long}
use Rattle.st_timeouts.proofs.timeouts.copy_all.Goals as goal

pub unreachable-requires : goal.unreachable-requires
unreachable-requires g c =
    not_missed c.args.entries.now.rows c.loop-row.row-index _ c.args.rows.now c.requires.one_each c.requires.rows c.loop-row-test.true (ap option_copied (sym c.in_default.is) ∙ c.get.ensures)

pub loop-row-preserved : goal.loop-row-preserved
loop-row-preserved g c =
    let rows = c.args.entries.now.rows in
    let place = c.loop-row.row-index in
    let so_far = c.loop-row.invariant in
    let more = one_more rows place _ c.args.rows.now c.in-Some.entry.now c.requires.one_each c.requires.rows c.loop-row-test.true (ap option_copied (sym c.in-Some.is) ∙ c.get.ensures) in
    record {
      items = c.push_reserved.ensures.items ∙ (ap (λ l. l ++ c.in_ok-copy.copy ∷ []) so_far.items
          ∙ (ap (λ r. take place (all_of (listed_of rows)) ++ r ∷ []) c.in_ok-copy.ensures ∙ sym more));
      listed = omega (arith, c.push_reserved.ensures.len, so_far.listed);
      room = omega (arith, c.push_reserved.ensures.capacity, so_far.room);
    }

pub returns : goal.returns
returns g c =
    let rows = c.args.entries.now.rows in
    let past : length (all_of (listed_of rows)) ≤ c.loop-row.row-index = omega (arith, c.loop-row-test.false, ap length c.requires.rows, as_long rows) in
    c.from.ensures ∙ (c.loop-row.invariant.items ∙ take_all c.loop-row.row-index (all_of (listed_of rows)) past)
