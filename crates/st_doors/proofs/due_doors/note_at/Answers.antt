use Rattle.std.proofs.Common.{rules, ◌≡◌, ◌≤◌, ◌<◌, ◌^◌, ◌∙◌, ap, sym, max, arith, false}
use Rattle.st_due.specs.Machines.{Noted}
use Rattle.st_doors.proofs.NotesLemmas.{awake-anew, awake-still, noted-anew}
use Rattle.st_doors.proofs.QueueLemmas.{by_serial-noted, count-noted}
use Rattle.st_doors.proofs.due_doors.note_at.Goals as goal

pub returns-then-is_ready-clause-watched : goal.returns-then-is_ready-clause-watched
returns-then-is_ready-clause-watched c = λ late traced d watched in_time untraced.
    let most : c.max.result ≡ max c.quiet_until_at.result c.args.least = search rules in
    let bounded : c.max.result ≤ 2 ^ 63 = rw most (grind (arith, c.quiet_until_at.ensures.bounded, c.requires.bounded)) in
    let awake = ap (λ (noted : Noted). noted.machines) c.note-then-is_ready.ensures in (
      noted-anew c.args.due.now.machines c.note.new.self.machines c.args.doors.now c.serials_rise.ensures c.args.place c.requires.place c.id_at-id.result c.id_at-id.ensures late traced c.args.least c.quiet_until_at.result c.max.result d
          (ap (λ (noted : Noted). noted.machines) c.note.ensures) most bounded watched.0 in_time untraced (c.quiet_until_at.ensures.quiet d),
      awake-anew c.args.awake.now.machines c.note-then-is_ready.new.self.machines c.args.doors.now c.serials_rise.ensures c.args.place c.requires.place c.id_at-id.result c.id_at-id.ensures
          awake watched.1,
      rw awake (by_serial-noted c.id_at-id.result c.args.awake.now.machines watched.2),
    )

pub returns-else-is_ready-clause-watched : goal.returns-else-is_ready-clause-watched
returns-else-is_ready-clause-watched c = λ late traced d watched in_time untraced.
    let most : c.max.result ≡ max c.quiet_until_at.result c.args.least = search rules in
    let bounded : c.max.result ≤ 2 ^ 63 = rw most (grind (arith, c.quiet_until_at.ensures.bounded, c.requires.bounded)) in
    let rests : c.is_ready_at-is_ready.result ≡ false = search rules in (
      noted-anew c.args.due.now.machines c.note.new.self.machines c.args.doors.now c.serials_rise.ensures c.args.place c.requires.place c.id_at-id.result c.id_at-id.ensures late traced c.args.least c.quiet_until_at.result c.max.result d
          (ap (λ (noted : Noted). noted.machines) c.note.ensures) most bounded watched.0 in_time untraced (c.quiet_until_at.ensures.quiet d),
      awake-still c.args.awake.now.machines c.args.doors.now c.args.place (λ e. sym (c.is_ready_at-is_ready.ensures e) ∙ rests) watched.1,
      watched.2,
    )

pub returns-then-is_ready-clause-no_more : goal.returns-then-is_ready-clause-no_more
returns-then-is_ready-clause-no_more c = λ moment earlier.
    let most : c.max.result ≡ max c.quiet_until_at.result c.args.least = search rules in
    let later : moment < c.max.result = rw most (grind (arith, earlier)) in
    rw (ap (λ (noted : Noted). noted.machines) c.note.ensures) (count-noted moment c.max.result c.id_at-id.result c.args.due.now.machines later)

pub returns-else-is_ready-clause-no_more : goal.returns-else-is_ready-clause-no_more
returns-else-is_ready-clause-no_more c = λ moment earlier.
    let most : c.max.result ≡ max c.quiet_until_at.result c.args.least = search rules in
    let later : moment < c.max.result = rw most (grind (arith, earlier)) in
    rw (ap (λ (noted : Noted). noted.machines) c.note.ensures) (count-noted moment c.max.result c.id_at-id.result c.args.due.now.machines later)
