-- Machines in the order in which they are due: when one is due that stands there, and how many are by a moment.
use Rattle.std.proofs.Common.{◌≡◌, ℕ, ◌+◌, ◌<◌, ◌≤◌, ◌≢◌, nat_le, true, false, if◌then◌else◌, List, [], ◌∷◌, Option, Some, None, is_some, length, refl, ap, sym, ◌∙◌, arith, inl, inr}
use Rattle.std.proofs.lemmas.Bool.{cases_Bool, cases_lt, false_from_ne_true}
use Rattle.st_events.specs.declared.machine_id.MachineId.{MachineId}
use Rattle.st_due.specs.declared.due_machine.DueMachine.{DueMachine}
use Rattle.st_due.specs.Machines.{BeforeAll, InOrder, before, due_by, left_by, moment_of, put, same_machine, without}
use Rattle.st_due.proofs.OrderLemmas.{before_asym, before_moment, moment_put_other, moment_put_same, same_machine_self, same_machines}
use Rattle.st_doors.specs.Notes.{AreAfter, AreBySerial, due_count, noted_at}

-- ---- a machine noted anew, or forgotten
pub apart : (one other : MachineId) → one ≢ other → same_machine one other ≡ false
apart one other differ = false_from_ne_true (same_machine one other) (λ same. differ (same_machines one other same))

moment-without_same : (machine : MachineId) (machines : List DueMachine) → moment_of machine (without machine machines) ≡ None
moment-without_same machine [] = refl
moment-without_same machine (one ∷ others) = elim (cases_Bool (same_machine machine one.machine)) [
  | inl same ↦ rw same (moment-without_same machine others)
  | inr other ↦ rw (other, other) (moment-without_same machine others)
]

pub moment-without_other : (other machine : MachineId) (machines : List DueMachine) → same_machine other machine ≡ false → moment_of other (without machine machines) ≡ moment_of other machines
moment-without_other other machine [] differ = refl
moment-without_other other machine (one ∷ others) differ =
    let rest = moment-without_other other machine others differ in
    elim (cases_Bool (same_machine machine one.machine)) [
      | inl same ↦
          let is : machine ≡ one.machine = same_machines machine one.machine same in
          let apart_too : same_machine other one.machine ≡ false = rw (← is) differ in
          rw (same, apart_too) rest
      | inr apart_from ↦ rw apart_from (ap (λ (found : Option ℕ). if same_machine other one.machine then Some one.moment else found) rest)
    ]

pub moment-noted_same : (machine : MachineId) (moment : ℕ) (machines : List DueMachine) → moment_of machine (noted_at machine moment machines) ≡ Some moment
moment-noted_same machine moment machines =
    moment_put_same machine (record { moment = moment; machine = machine }) (without machine machines) (same_machine_self machine) (moment-without_same machine machines)

pub moment-noted_other : (other machine : MachineId) (moment : ℕ) (machines : List DueMachine) → same_machine other machine ≡ false
    → moment_of other (noted_at machine moment machines) ≡ moment_of other machines
moment-noted_other other machine moment machines differ =
    moment_put_other other (record { moment = moment; machine = machine }) (without machine machines) differ ∙ moment-without_other other machine machines differ

-- noted again as it was, it stands as the first did
pub moment-noted_first : (other : MachineId) (first : DueMachine) (others : List DueMachine)
    → moment_of other (noted_at first.machine first.moment others) ≡ moment_of other (first ∷ others)
moment-noted_first other first others = elim (cases_Bool (same_machine other first.machine)) [
  | inl same ↦
      let is : other ≡ first.machine = same_machines other first.machine same in
      ap (λ (machine : MachineId). moment_of machine (noted_at first.machine first.moment others)) is
      ∙ (moment-noted_same first.machine first.moment others ∙ rw same refl)
  | inr differ ↦ moment-noted_other other first.machine first.moment others differ ∙ rw differ refl
]

-- ---- each at its serial
by_serial-put : (one : DueMachine) (machines : List DueMachine) → one.moment ≡ one.machine.serial → AreBySerial machines → AreBySerial (put one machines)
by_serial-put one [] same are = (same, tt)
by_serial-put one (first ∷ machines) same are = elim (cases_Bool (before one first)) [
  | inl earlier ↦ rw earlier (same, are)
  | inr later ↦ rw later (are.0, by_serial-put one machines same are.1)
]

pub by_serial-without : (machine : MachineId) (machines : List DueMachine) → AreBySerial machines → AreBySerial (without machine machines)
by_serial-without machine [] are = tt
by_serial-without machine (one ∷ others) are = elim (cases_Bool (same_machine machine one.machine)) [
  | inl same ↦ rw same (by_serial-without machine others are.1)
  | inr other ↦ rw other (are.0, by_serial-without machine others are.1)
]

pub by_serial-noted : (machine : MachineId) (machines : List DueMachine) → AreBySerial machines → AreBySerial (noted_at machine machine.serial machines)
by_serial-noted machine machines are = by_serial-put (record { moment = machine.serial; machine = machine }) (without machine machines) refl (by_serial-without machine machines are)

-- ---- how many are due
count-put : (moment : ℕ) (one : DueMachine) (machines : List DueMachine) → due_count moment (put one machines) ≡ (if nat_le one.moment moment then 1 else 0) + due_count moment machines
count-put moment one [] = refl
count-put moment one (first ∷ machines) = elim (cases_Bool (before one first)) [
  | inl earlier ↦ rw earlier refl
  | inr later ↦ rw (later, count-put moment one machines) (omega arith)
]

count-without : (moment : ℕ) (machine : MachineId) (machines : List DueMachine) → due_count moment (without machine machines) ≤ due_count moment machines
count-without moment machine [] = omega arith
count-without moment machine (one ∷ others) =
    let rest : due_count moment (without machine others) ≤ due_count moment others = count-without moment machine others in
    elim (cases_Bool (same_machine machine one.machine)) [
      | inl same ↦ rw same (omega (arith, rest))
      | inr other ↦ rw other (omega (arith, rest))
    ]

-- one that is due later than the moment counts no more
pub count-noted : (moment until : ℕ) (machine : MachineId) (machines : List DueMachine) → moment < until → due_count moment (noted_at machine until machines) ≤ due_count moment machines
count-noted moment until machine machines later =
    let no_more : nat_le until moment ≡ false = grind (arith, later) in
    let put_is : due_count moment (noted_at machine until machines) ≡ (if nat_le until moment then 1 else 0) + due_count moment (without machine machines) =
    count-put moment (record { moment = until; machine = machine }) (without machine machines) in
    let is : due_count moment (noted_at machine until machines) ≡ 0 + due_count moment (without machine machines) = put_is ∙ rw no_more refl in
    let less : due_count moment (without machine machines) ≤ due_count moment machines = count-without moment machine machines in
    omega (arith, is, less)

pub count-all : (moment : ℕ) (machines : List DueMachine) → due_count moment machines ≤ length machines
count-all moment [] = omega arith
count-all moment (one ∷ others) =
    let rest : due_count moment others ≤ length others = count-all moment others in
    elim (cases_Bool (nat_le one.moment moment)) [ inl due ↦ rw due (omega (arith, rest)) | inr later ↦ rw later (omega (arith, rest)) ]

-- ---- the first, where it is due by a moment
pub due-first : (moment : ℕ) (machines : List DueMachine) (first : DueMachine) → due_by moment machines ≡ Some first
    → (machines ≡ first ∷ left_by moment machines) × (first.moment ≤ moment)
due-first moment [] first is = cc
due-first moment (one ∷ others) first is = elim (cases_Bool (nat_le one.moment moment)) [
  | inl due ↦
      let found = rw due at is in
      let same : one ≡ first = cc in
      let early : one.moment ≤ moment = grind (arith, due) in
      (rw due (ap (λ (head : DueMachine). head ∷ others) same), rw (← same) early)
  | inr later ↦ let never = rw later at is in cc
]

pub count-first : (moment : ℕ) (first : DueMachine) (others : List DueMachine) → first.moment ≤ moment → due_count moment (first ∷ others) ≡ 1 + due_count moment others
count-first moment first others due =
    let early : nat_le first.moment moment ≡ true = grind (arith, due) in
    rw early refl

-- one that comes before another is due no later
before-order : (one other : DueMachine) → before one other ≡ true → one.moment ≤ other.moment
before-order one other first = elim (cases_lt other.moment one.moment) [
  | inl less ↦
      let yes : before other one ≡ true = before_moment other one less in
      let no : before other one ≡ false = before_asym one other first in
      cc
  | inr order ↦ order
]

-- nor is any that stands behind it
from-first : (one : DueMachine) (others : List DueMachine) (machine : MachineId) (until : ℕ) → BeforeAll one others → moment_of machine others ≡ Some until → one.moment ≤ until
from-first one [] machine until all is = cc
from-first one (other ∷ others) machine until all is = elim (cases_Bool (same_machine machine other.machine)) [
  | inl same ↦
      let found = rw same at is in
      let here : other.moment ≡ until = cc in
      let order : one.moment ≤ other.moment = before-order one other all.0 in
      omega (arith, order, here)
  | inr apart_from ↦ from-first one others machine until all.1 (rw apart_from at is)
]

-- where the first is not due, none is
pub due-none : (moment : ℕ) (machines : List DueMachine) → InOrder machines → due_by moment machines ≡ None → (left_by moment machines ≡ machines) × AreAfter moment machines
due-none moment [] order is = (refl, λ machine until found. cc)
due-none moment (one ∷ others) order is = elim (cases_Bool (nat_le one.moment moment)) [
  | inl due ↦ let never = rw due at is in cc
  | inr later ↦
      let early : moment < one.moment = grind (arith, later) in (
        rw later refl,
        λ machine until found. elim (cases_Bool (same_machine machine one.machine)) [
          | inl same ↦
              let here = rw same at found in
              let is_until : one.moment ≡ until = cc in
              omega (arith, early, is_until)
          | inr apart_from ↦
              let order_too : one.moment ≤ until = from-first one others machine until order.0 (rw apart_from at found) in
              omega (arith, early, order_too)
        ],
      )
]

-- ---- by serials
-- one that stands there is at its serial
serial-at : (machine : MachineId) (until : ℕ) (machines : List DueMachine) → AreBySerial machines → moment_of machine machines ≡ Some until → until ≡ machine.serial
serial-at machine until [] are is = cc
serial-at machine until (one ∷ others) are is = elim (cases_Bool (same_machine machine one.machine)) [
  | inl same ↦
      let found = rw same at is in
      let here : one.moment ≡ until = cc in
      let one_is : machine ≡ one.machine = same_machines machine one.machine same in
      sym here ∙ (are.0 ∙ ap (λ (id : MachineId). id.serial) (sym one_is))
  | inr apart_from ↦ serial-at machine until others are.1 (rw apart_from at is)
]

-- so the first has the least serial
pub serial-first : (one : DueMachine) (others : List DueMachine) (machine : MachineId) → InOrder (one ∷ others) → AreBySerial (one ∷ others)
    → is_some (moment_of machine (one ∷ others)) ≡ true → one.machine.serial ≤ machine.serial
serial-first one others machine order are there = elim (cases_Bool (same_machine machine one.machine)) [
  | inl same ↦ let is : machine ≡ one.machine = same_machines machine one.machine same in rw is (omega arith)
  | inr apart_from ↦ by (moment_of machine others) refl (rw apart_from at there)
]
  where
    by : (found : Option ℕ) → moment_of machine others ≡ found → is_some found ≡ true → one.machine.serial ≤ machine.serial
    by None is some = cc
    by (Some until) is some =
        let order_too : one.moment ≤ until = from-first one others machine until order.0 is in
        let here : until ≡ machine.serial = serial-at machine until others are.1 is in
        let first : one.moment ≡ one.machine.serial = are.0 in
        omega (arith, order_too, here, first)
