use Rattle.std.proofs.Common.{rules, ◌≡◌, ◌<◌, ◌≤◌, ◌^◌, ap, length, arith}
use Rattle.st_doors.specs.Doors.{all_expired_of}
use Rattle.st_doors.specs.Notes.{due_count}
use Rattle.st_doors.proofs.DoorLemmas.{when_none, when_some}
use Rattle.st_doors.proofs.NotesLemmas.{none-after}
use Rattle.st_doors.proofs.QueueLemmas.{count-all}
use Rattle.st_doors.proofs.due_doors.tick_due.Goals as goal

-- each door counts less than 2^64, and there are less than 2^64 that are due
pub overflow_add-expired : goal.overflow_add-expired
overflow_add-expired c =
    let all : due_count c.args.moment c.args.due.now.machines ≤ length c.args.due.now.machines = count-all c.args.moment c.args.due.now.machines in
    let few : length c.args.due.now.machines < 2 ^ 64 = c.is_in_order.ensures.few in
    let small : c.from-expired.result < 2 ^ 64 = search rules in
    let fewer : due_count c.args.moment c.tick_first.new.due.machines < due_count c.args.moment c.loop-count.due.machines =
    when_some _ c.in_ok-count.field-0 c.in-Some.count c.in-Some.is c.in_ok-count.ensures.fewer in
    omega (arith, all, few, small, fewer, c.loop-count.invariant.bounded)

-- of those that are left nothing is due
pub returns-clause-expired : goal.returns-clause-expired
returns-clause-expired c =
    let none = when_none _ c.in_ok-count.field-0 c.in_default.is c.in_ok-count.ensures.none in
    let nothing : all_expired_of c.args.moment c.tick_first.new.doors ≡ 0 =
    none-after c.args.late c.args.moment c.tick_first.new.due.machines c.tick_first.new.doors c.requires.order none.1 c.tick_first.ensures.watched.0 in
    let same : all_expired_of c.args.moment c.tick_first.new.doors ≡ all_expired_of c.args.moment c.loop-count.doors = ap (all_expired_of c.args.moment) none.0 in
    omega (arith, nothing, same, c.loop-count.invariant.counted)
