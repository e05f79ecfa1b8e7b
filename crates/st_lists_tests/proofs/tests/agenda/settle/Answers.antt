use Rattle.std.proofs.Common.{ap, length, arith, rules}
use Rattle.st_actions.specs.Taking.{all_settings_of}
use Rattle.st_agenda.specs.Agenda.{Agenda}
use Rattle.st_agenda.specs.declared.schedule.Schedule.{Schedule}
use Rattle.st_lists_tests.proofs.SettingLemmas.{few_numbers}
use Rattle.st_lists_tests.proofs.tests.agenda.settle.Goals as goal

-- the moment is low; of no timer two things are asked; there is memory, and there are numbers
pub set_all-requires : goal.set_all-requires
set_all-requires g c =
    let few = few_numbers c.insert.new.self.schedule.running (all_settings_of c.insert.new.actions) in
    let settings = ap length c.insert.ensures.same_settings in
    let next = ap (λ (a : Agenda _). a.schedule.next_number) c.insert.ensures.inserted in
    let reserved = ap (λ (a : Agenda _). a.reserved) c.insert.ensures.inserted in
    let before = ap (λ (s : Schedule _). s.next_number) c.reserve_for.ensures.unchanged in (
      search rules,
      (
        omega (arith, settings, c.counted-inserts.ensures.settings),
        (
          search rules,
          (
            rw c.insert.ensures.same_settings c.counted-inserts.ensures.once,
            (
              omega (arith, settings, reserved, c.settle.ensures.reserved, c.reserve_for.ensures.reserved, c.counted-inserts.ensures.settings),
              omega (
                arith,
                few,
                settings,
                next,
                c.settle.ensures.next_number,
                before,
                c.numbers_are_low.ensures,
                c.counted-inserts.ensures.inserts,
                c.counted-inserts.ensures.settings,
                c.counted-inserts.ensures.few_inserts,
                c.counted-inserts.ensures.few_settings,
              ),
            ),
          ),
        ),
      ),
    )
