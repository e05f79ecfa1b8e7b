-- What is noted of doors, and that it stays so.
use Rattle.std.proofs.Common.{◌≡◌, ℕ, zero, suc, ◌+◌, ◌^◌, ◌<◌, ◌≤◌, ◌≢◌, ◌⊎◌, max, Bool, true, false, List, [], ◌∷◌, ◌++◌, length, get_or, set, map, Option, Some, None, is_some, refl, ap, sym, ◌∙◌, arith, inl, inr, get_or-set_other, get_or-set_same, length-append}
use Rattle.std.specs.List.{find, list_any}
use Rattle.std.proofs.lemmas.Bool.{cases_Bool, cases_lt, cases_order}
use Rattle.std.proofs.lemmas.List.{length-set, get_or_append_left}
use Rattle.std.proofs.lemmas.List.Sums.{sum_by-cons}
use Rattle.std.proofs.Math.Seq.{get_or-append_seam}
use Rattle.st_answers.specs.declared.command.Command.{Command}
use Rattle.st_answers.specs.declared.command.Command.TheVariants as command
use Rattle.st_events.specs.declared.machine_id.MachineId.{MachineId}
use Rattle.st_due.specs.declared.due_machine.DueMachine.{DueMachine}
use Rattle.st_due.specs.Machines.{InOrder, moment_of, same_machine, without}
use Rattle.st_due.proofs.OrderLemmas.{same_machines}
use Rattle.st_scheduled.proofs.TokensCompared.{same_id_self}
use Rattle.st_journal.specs.declared.source.Source.{Source}
use Rattle.st_journal.specs.declared.source.Source.TheVariants as source
use Rattle.st_doors.specs.declared.door_content.DoorContent.{DoorContent}
use Rattle.st_doors.specs.Doors.{DoorAnswer, History, IsFirst, KeptDoor, NamedDoor, SameLabels, all_expired_of, door_named, door_of, door_told_by, expired_of, has_name, history_told, is_ready_door, kept_of, kept_told_by, names_of, slots_of, ticked_doors, told_door, told_of, without_door}
use Rattle.st_doors.specs.Late.{IsInTime, IsQuietAt, IsQuietUntil, caught_kept, caught_up}
use Rattle.st_doors.specs.Notes.{AreAfter, AreAwake, AreAwakeBut, AreBySerial, AreNoted, AreNotedBut, AreWatched, AreWatchedBut, IsAwake, IsNoted, first_of, noted_at, others_of}
use Rattle.st_doors.specs.Numbers.{DoSerialsRise}
use Rattle.st_doors.specs.Settling.{has_id}
use Rattle.st_doors.proofs.DoorLemmas.{IsFirst-within}
use Rattle.st_doors.proofs.IdleLemmas.{IsFirst-after, has-id, labels-more, list_any-none, no_door}
use Rattle.st_doors.proofs.LateDoorsLemmas.{caught-twice, caught_at, count-caught, id-caught, in_time-caught, labels-caught, ready-caught, tick-caught, told-caught, told_at}
use Rattle.st_doors.proofs.QueueLemmas.{apart, by_serial-noted, by_serial-without, moment-noted_first, moment-noted_other, moment-noted_same, moment-without_other, serial-first}
use Rattle.st_doors.proofs.TwiceLemmas.{in_time-ticked}

-- ---- serials that rise
rise-from : (from k : ℕ) (doors : List NamedDoor) (d : NamedDoor) → DoSerialsRise from doors → k < length doors → from ≤ (get_or doors k d).machine.id.serial
rise-from from k [] d rise less = absurd (omega arith)
rise-from from zero (door ∷ doors) d rise less = rise.0
rise-from from (suc k) (door ∷ doors) d rise less =
    let rest : suc door.machine.id.serial ≤ (get_or doors k d).machine.id.serial = rise-from (suc door.machine.id.serial) k doors d rise.1 (omega arith) in
    let here : from ≤ door.machine.id.serial = rise.0 in
    omega (arith, rest, here)

-- a door before another has the lower serial
rise-order : (from j k : ℕ) (doors : List NamedDoor) (d : NamedDoor) → DoSerialsRise from doors → j < k → k < length doors
    → (get_or doors j d).machine.id.serial < (get_or doors k d).machine.id.serial
rise-order from j k [] d rise order less = absurd (omega arith)
rise-order from j zero (door ∷ doors) d rise order less = absurd (omega arith)
rise-order from zero (suc k) (door ∷ doors) d rise order less =
    let rest : suc door.machine.id.serial ≤ (get_or doors k d).machine.id.serial = rise-from (suc door.machine.id.serial) k doors d rise.1 (omega arith) in
    omega (arith, rest)
rise-order from (suc j) (suc k) (door ∷ doors) d rise order less = rise-order (suc door.machine.id.serial) j k doors d rise.1 (omega arith) (omega arith)

-- so no two doors have one id
pub ids-apart : (from j k : ℕ) (doors : List NamedDoor) (d : NamedDoor) → DoSerialsRise from doors → j < length doors → k < length doors → (j ≡ k → ⊥)
    → (get_or doors j d).machine.id ≢ (get_or doors k d).machine.id
ids-apart from j k doors d rise one other differ = λ same.
    let serials : (get_or doors j d).machine.id.serial ≡ (get_or doors k d).machine.id.serial = ap (λ (id : MachineId). id.serial) same in
    elim (cases_order j k) [
      | inl here ↦ differ here
      | inr (inl before) ↦
          let less : (get_or doors j d).machine.id.serial < (get_or doors k d).machine.id.serial = rise-order from j k doors d rise before other in
          omega (arith, less, serials)
      | inr (inr after) ↦
          let less : (get_or doors k d).machine.id.serial < (get_or doors j d).machine.id.serial = rise-order from k j doors d rise after one in
          omega (arith, less, serials)
    ]

-- what stands at a place does so whatever is said for others
get_or-any : (k : ℕ) (doors : List NamedDoor) (d e : NamedDoor) → k < length doors → get_or doors k d ≡ get_or doors k e
get_or-any k [] d e less = absurd (omega arith)
get_or-any zero (door ∷ doors) d e less = refl
get_or-any (suc k) (door ∷ doors) d e less = get_or-any k doors d e (omega arith)

pub cases_place : (k place : ℕ) → (k ≡ place) ⊎ (k ≡ place → ⊥)
cases_place k place = elim (cases_order k place) [
  | inl here ↦ inl here
  | inr (inl before) ↦ inr (λ same. omega (arith, before, same))
  | inr (inr after) ↦ inr (λ same. omega (arith, after, same))
]

-- ---- one door
noted-as : (late : ℕ) (traced : Bool) (old new : List DueMachine) (door : NamedDoor) → moment_of door.machine.id new ≡ moment_of door.machine.id old
    → IsNoted late traced old door → IsNoted late traced new door
noted-as late traced old new door same it = record {
  until = it.until;
  noted = same ∙ it.noted;
  bounded = it.bounded;
  in_time = it.in_time;
  untraced = it.untraced;
}

awake-as : (old new : List DueMachine) (door : NamedDoor) → moment_of door.machine.id new ≡ moment_of door.machine.id old → IsAwake old door → IsAwake new door
awake-as old new door same it = λ ready. ap (λ (found : Option ℕ). is_some found) same ∙ it ready

-- what is quiet until one moment, and from the late one on until another, is so until the later of both
quiet-most : (late least until most : ℕ) (door : KeptDoor) → most ≡ max until least → IsQuietUntil until door → IsInTime late least door → IsInTime late most door
quiet-most late least until most door is quiet it = record {
  caught = it.caught;
  quiet = λ moment from less. elim (cases_lt moment until) [
    | inl early ↦ quiet moment early
    | inr after ↦ it.quiet moment from (grind (arith, is, less, after))
  ];
}

-- ---- a door is noted anew
module _ (due new : List DueMachine) (doors : List NamedDoor) (rise : DoSerialsRise 0 doors) (place : ℕ) (less : place < length doors) (machine : MachineId)
    (id_is : (d : NamedDoor) → machine ≡ (get_or doors place d).machine.id) where
  -- the others are not
  other-machine : (k : ℕ) (d : NamedDoor) → k < length doors → (k ≡ place → ⊥) → same_machine (get_or doors k d).machine.id machine ≡ false
  other-machine k d within differ =
      apart (get_or doors k d).machine.id machine
      (λ same. ids-apart 0 k place doors d rise within less differ (same ∙ id_is d))

  pub noted-anew : (late : ℕ) (traced : Bool) (least until most : ℕ) (d : NamedDoor) → new ≡ noted_at machine most due → most ≡ max until least → most ≤ 2 ^ 63
      → AreNotedBut place late traced due doors → IsInTime late least (kept_of (get_or doors place d)) → (traced ≡ false → (get_or doors place d).history ≡ None)
      → IsQuietUntil until (kept_of (get_or doors place d)) → AreNoted late traced new doors
  noted-anew late traced least until most d new_is most_is bounded others it untraced quiet = λ k e within. elim (cases_place k place) [
    | inl here ↦
        let door_is : get_or doors place d ≡ get_or doors k e = rw here (get_or-any place doors d e less) in
        let id : machine ≡ (get_or doors place d).machine.id = id_is d in
        let noted : IsNoted late traced new (get_or doors place d) = record {
          until = most;
          noted = rw (new_is, ← id) (moment-noted_same machine most due);
          bounded = bounded;
          in_time = quiet-most late least until most (kept_of (get_or doors place d)) most_is quiet it;
          untraced = untraced;
        } in
        rw (← door_is) noted
    | inr differ ↦
        noted-as late traced due new (get_or doors k e)
        (rw new_is (moment-noted_other (get_or doors k e).machine.id machine most due (other-machine k e within differ))) (others k e within differ)
  ]

  -- and it is awake
  pub awake-anew : new ≡ noted_at machine machine.serial due → AreAwakeBut place due doors → AreAwake new doors
  awake-anew new_is others = λ k e within. elim (cases_place k place) [
    | inl here ↦ λ ready.
        let id : machine ≡ (get_or doors k e).machine.id = rw here (id_is e) in
        rw (new_is, ← id) (ap (λ (found : Option ℕ). is_some found) (moment-noted_same machine machine.serial due))
    | inr differ ↦
        awake-as due new (get_or doors k e)
        (rw new_is (moment-noted_other (get_or doors k e).machine.id machine machine.serial due (other-machine k e within differ))) (others k e within differ)
  ]

-- or it is not ready
pub awake-still : (awake : List DueMachine) (doors : List NamedDoor) (place : ℕ) → ((d : NamedDoor) → is_ready_door (get_or doors place d) ≡ false)
    → AreAwakeBut place awake doors → AreAwake awake doors
awake-still awake doors place rests others = λ k d within. elim (cases_place k place) [
  | inl here ↦ λ ready. let never : is_ready_door (get_or doors k d) ≡ false = rw here (rests d) in cc
  | inr differ ↦ others k d within differ
]

-- no command makes a history be kept
untold : (source : Source) (command : Command DoorContent) (said : DoorAnswer) (history : Option History) → history ≡ None → history_told source command said history ≡ None
untold source command said None is = refl
untold source command said (Some history) is = cc

-- ---- a tick is made up for at a door, and it is told a command
module _ (late : ℕ) (traced : Bool) (due awake : List DueMachine) (place : ℕ) (one : List NamedDoor) where
  length-caught_at : length (caught_at late place one) ≡ length one
  length-caught_at = length-set one place (caught_up late (get_or one place no_door))

  caught-other : (k : ℕ) (d : NamedDoor) → (k ≡ place → ⊥) → get_or (caught_at late place one) k d ≡ get_or one k d
  caught-other k d differ = get_or-set_other one place k (caught_up late (get_or one place no_door)) d differ

  caught-same : (d : NamedDoor) → place < length one → get_or (caught_at late place one) place d ≡ caught_up late (get_or one place no_door)
  caught-same d less = get_or-set_same one place (caught_up late (get_or one place no_door)) d less

  noted-caught : AreNoted late traced due one → AreNoted late traced due (caught_at late place one)
  noted-caught are = λ k d within.
      let there : k < length one = rw length-caught_at at within in
      elim (cases_place k place) [
        | inl here ↦
            let less : place < length one = rw here at there in
            let it : IsNoted late traced due (get_or one place no_door) = are place no_door less in
            let caught : IsNoted late traced due (caught_up late (get_or one place no_door)) = record {
              until = it.until;
              noted = ap (λ (id : MachineId). moment_of id due) (id-caught late (get_or one place no_door)) ∙ it.noted;
              bounded = it.bounded;
              in_time = in_time-caught late it.until (kept_of (get_or one place no_door)) it.bounded it.in_time;
              untraced = it.untraced;
            } in
            rw (here, caught-same d less) caught
        | inr differ ↦ rw (caught-other k d differ) (are k d there)
      ]

  awake-caught : AreAwake awake one → AreAwake awake (caught_at late place one)
  awake-caught are = λ k d within.
      let there : k < length one = rw length-caught_at at within in
      elim (cases_place k place) [
        | inl here ↦
            let less : place < length one = rw here at there in
            let door : NamedDoor = get_or one place no_door in
            let caught : IsAwake awake (caught_up late door) = λ ready.
            ap (λ (id : MachineId). is_some (moment_of id awake)) (id-caught late door) ∙ are place no_door less (sym (ready-caught late door) ∙ ready) in
            rw (here, caught-same d less) caught
        | inr differ ↦ rw (caught-other k d differ) (are k d there)
      ]

  pub watched-caught : AreWatched late traced due awake one → AreWatched late traced due awake (caught_at late place one)
  watched-caught are = (noted-caught are.0, awake-caught are.1, are.2)

  pub in_time-noted : (d : NamedDoor) → place < length one → AreWatched late traced due awake one → (until : ℕ) × IsInTime late until (kept_of (get_or one place d))
  in_time-noted d less are = let it : IsNoted late traced due (get_or one place d) = are.0 place d less in (it.until, it.in_time)

  module _ (two three : List NamedDoor) (source : Source) (command : Command DoorContent) (caught : two ≡ caught_at late place one) (told : three ≡ told_at source command place two) where
    told-is : three ≡ told_at source command place (caught_at late place one)
    told-is = told ∙ ap (λ (all : List NamedDoor). told_at source command place all) caught

    length-told : length three ≡ length one
    length-told =
        ap (λ (all : List NamedDoor). length all) told-is
        ∙ (length-set (caught_at late place one) place (door_told_by source command (get_or (caught_at late place one) place no_door)) ∙ length-caught_at)

    told-other : (k : ℕ) (d : NamedDoor) → (k ≡ place → ⊥) → get_or three k d ≡ get_or one k d
    told-other k d differ =
        let here : get_or (told_at source command place (caught_at late place one)) k d ≡ get_or (caught_at late place one) k d =
        get_or-set_other (caught_at late place one) place k (door_told_by source command (get_or (caught_at late place one) place no_door)) d differ in
        ap (λ (all : List NamedDoor). get_or all k d) told-is ∙ (here ∙ caught-other k d differ)

    -- the others are watched still
    watched-told : AreWatched late traced due awake one → AreWatchedBut place late traced due awake three
    watched-told are = (
      λ k d within differ. rw (told-other k d differ) (are.0 k d (rw length-told at within)),
      λ k d within differ. rw (told-other k d differ) (are.1 k d (rw length-told at within)),
      are.2,
    )

    told-same : (d : NamedDoor) → place < length one → get_or three place d ≡ door_told_by source command (caught_up late (get_or one place no_door))
    told-same d less =
        let within : place < length (caught_at late place one) = rw length-caught_at less in
        let here : get_or (told_at source command place (caught_at late place one)) place d ≡ door_told_by source command (get_or (caught_at late place one) place no_door) =
        get_or-set_same (caught_at late place one) place (door_told_by source command (get_or (caught_at late place one) place no_door)) d within in
        ap (λ (all : List NamedDoor). get_or all place d) told-is ∙ (here ∙ ap (λ (door : NamedDoor). door_told_by source command door) (caught-same no_door less))

    -- the door at the place has seen the late moment
    told-seen_late : (d : NamedDoor) → place < length one → IsInTime late 0 (kept_of (get_or three place d))
    told-seen_late d less =
        let door : KeptDoor = kept_of (get_or one place no_door) in
        let it : IsInTime late 0 (kept_told_by source command (caught_kept late door)) = record {
          caught = inl (told-caught late (caught_kept late door) source command (caught-twice late late door (omega arith)));
          quiet = λ moment from never. absurd (omega (arith, never));
        } in
        rw (told-same d less) it

    told-untraced : (d : NamedDoor) → place < length one → AreWatched late traced due awake one → traced ≡ false → (get_or three place d).history ≡ None
    told-untraced d less are runs = rw (told-same d less) (untold source command _ (get_or one place no_door).history ((are.0 place no_door less).untraced runs))

    -- so all are once that one is noted anew
    pub watched-anew : {P : Type 0} → (AreWatchedBut place late traced due awake three → IsInTime late 0 (kept_of (get_or three place no_door)) → (traced ≡ false → (get_or three place no_door).history ≡ None) → P)
        → place < length one → AreWatched late traced due awake one → P
    watched-anew anew less are = anew (watched-told are) (told-seen_late no_door less) (told-untraced no_door less are)

-- ---- a door more
module _ (late : ℕ) (old traced : Bool) (due awake : List DueMachine) (doors after : List NamedDoor) (door : NamedDoor) (pushed : after ≡ doors ++ door ∷ []) where
  before-last : (k : ℕ) (d : NamedDoor) → k < length after → (k ≡ length doors → ⊥) → (k < length doors) × (get_or after k d ≡ get_or doors k d)
  before-last k d within differ =
      let all : k < length (doors ++ door ∷ []) = rw pushed at within in
      let count : length (doors ++ door ∷ []) ≡ length doors + 1 = length-append doors (door ∷ []) in
      elim (cases_lt k (length doors)) [
        | inl less ↦ (less, rw (pushed, get_or_append_left) refl)
        | inr behind ↦ absurd (differ (omega (arith, all, count, behind)))
      ]

  noted-pushed : (traced ≡ false → old ≡ false) → AreNoted late old due doors → AreNotedBut (length doors) late traced due after
  noted-pushed less are = λ k d within differ.
      let there = before-last k d within differ in
      let it : IsNoted late old due (get_or doors k d) = are k d there.0 in
      let now : IsNoted late traced due (get_or doors k d) = record {
        until = it.until;
        noted = it.noted;
        bounded = it.bounded;
        in_time = it.in_time;
        untraced = λ runs. it.untraced (less runs);
      } in
      rw there.1 now

  pub watched-pushed : (traced ≡ false → old ≡ false) → AreWatched late old due awake doors → AreWatchedBut (length doors) late traced due awake after
  watched-pushed less are = (
    noted-pushed less are.0,
    λ k d within differ. let there = before-last k d within differ in rw there.1 (are.1 k d there.0),
    are.2,
  )

  pub last-pushed : (d : NamedDoor) → get_or after (length doors) d ≡ door
  last-pushed d = rw (pushed, get_or-append_seam) refl

-- ---- a door less
-- one that is left stood before the one that is gone, or behind it
abbrev IsLeft : List ℕ → List NamedDoor → ℕ → ℕ → NamedDoor → Type 0
IsLeft name doors place k d = (j : ℕ) × (j < length doors) × (j ≡ place → ⊥) × (get_or (without_door name doors) k d ≡ get_or doors j d)

left-next : (name : List ℕ) (door : NamedDoor) (doors : List NamedDoor) (place k : ℕ) (d : NamedDoor) → has_name name door ≡ false → IsLeft name doors place k d
    → IsLeft name (door ∷ doors) (suc place) (suc k) d
left-next name door doors place k d other left =
    let there : left.0 < length doors = left.1 in
    (suc left.0, omega (arith, there), λ same. left.2 (omega (arith, same)), rw other left.3)

left-at : (name : List ℕ) (doors : List NamedDoor) (place k : ℕ) (d : NamedDoor) → IsFirst (has_name name) doors place → k < length (without_door name doors) → IsLeft name doors place k d
left-at name [] place k d first within = absurd first
left-at name (door ∷ doors) zero k d first within =
    let less : k < length doors = rw first at within in
    (suc k, omega (arith, less), λ same. omega (arith, same), rw first refl)
left-at name (door ∷ doors) (suc place) zero d first within = (zero, omega arith, λ same. omega (arith, same), rw first.0 refl)
left-at name (door ∷ doors) (suc place) (suc k) d first within =
    let less : suc k < suc (length (without_door name doors)) = rw first.0 at within in
    left-next name door doors place k d first.0 (left-at name doors place k d first.1 (omega (arith, less)))

module _ (doors : List NamedDoor) (rise : DoSerialsRise 0 doors) (name : List ℕ) (place : ℕ) (first : IsFirst (has_name name) doors place) (less : place < length doors) (machine : MachineId)
    (id_is : (d : NamedDoor) → machine ≡ (get_or doors place d).machine.id) where
  noted-left : (late : ℕ) (traced : Bool) (due new : List DueMachine) → new ≡ without machine due → AreNoted late traced due doors → AreNoted late traced new (without_door name doors)
  noted-left late traced due new new_is are = λ k d within.
      let there = left-at name doors place k d first within in
      let it : IsNoted late traced due (get_or doors there.0 d) = are there.0 d there.1 in
      let now : IsNoted late traced new (get_or doors there.0 d) =
      noted-as late traced due new (get_or doors there.0 d)
      (rw new_is (moment-without_other (get_or doors there.0 d).machine.id machine due (other-machine due new doors rise place less machine id_is there.0 d there.1 there.2))) it in
      rw there.3 now

  awake-left : (awake new : List DueMachine) → new ≡ without machine awake → AreAwake awake doors → AreAwake new (without_door name doors)
  awake-left awake new new_is are = λ k d within.
      let there = left-at name doors place k d first within in
      let now : IsAwake new (get_or doors there.0 d) =
      awake-as awake new (get_or doors there.0 d)
      (rw new_is (moment-without_other (get_or doors there.0 d).machine.id machine awake (other-machine awake new doors rise place less machine id_is there.0 d there.1 there.2))) (are there.0 d there.1) in
      rw there.3 now

  pub watched-left : (late : ℕ) (traced : Bool) (due awake due_left awake_left : List DueMachine) → due_left ≡ without machine due → awake_left ≡ without machine awake
      → AreWatched late traced due awake doors → AreWatched late traced due_left awake_left (without_door name doors)
  watched-left late traced due awake due_left awake_left due_is awake_is are = (
    noted-left late traced due due_left due_is are.0,
    awake-left awake awake_left awake_is are.1,
    rw awake_is (by_serial-without machine awake are.2),
  )

pub without-none : (name : List ℕ) (doors : List NamedDoor) → door_of name doors ≡ None → without_door name doors ≡ doors
without-none name [] none = refl
without-none name (door ∷ doors) none = elim (cases_Bool (has_name name door)) [
  | inl same ↦ let some = rw same at none in cc
  | inr other ↦ rw other (ap (λ t. door ∷ t) (without-none name doors (rw other at none)))
]

-- ---- ticks
-- doors of which nothing is due at a moment
seen-quiet : (moment : ℕ) (doors : List NamedDoor) → ((k : ℕ) → k < length doors → IsQuietAt moment (kept_of (get_or doors k no_door)))
    → map (caught_up moment) doors ≡ ticked_doors moment doors
seen-quiet moment [] quiet = refl
seen-quiet moment (door ∷ doors) quiet =
    ap (λ (kept : KeptDoor). door_named door.name kept ∷ map (caught_up moment) doors) (sym (quiet zero (omega arith)).told)
    ∙ ap (λ t. told_door (command.Tick moment) door ∷ t) (seen-quiet moment doors (λ k less. quiet (suc k) (omega arith)))

counted-quiet : (moment : ℕ) (doors : List NamedDoor) → ((k : ℕ) → k < length doors → IsQuietAt moment (kept_of (get_or doors k no_door))) → all_expired_of moment doors ≡ 0
counted-quiet moment [] quiet = refl
counted-quiet moment (door ∷ doors) quiet =
    let here : expired_of moment door ≡ 0 = (quiet zero (omega arith)).none in
    let rest : all_expired_of moment doors ≡ 0 = counted-quiet moment doors (λ k less. quiet (suc k) (omega arith)) in
    let all : all_expired_of moment (door ∷ doors) ≡ expired_of moment door + all_expired_of moment doors = sum_by-cons (expired_of moment) door doors in
    omega (arith, here, rest, all)

-- a tick makes up for an earlier one
pub ticked-caught : (late moment : ℕ) (doors : List NamedDoor) → late ≤ moment → moment < 2 ^ 63 → ticked_doors moment (map (caught_up late) doors) ≡ ticked_doors moment doors
ticked-caught late moment [] order below = refl
ticked-caught late moment (door ∷ doors) order below =
    ap (λ (kept : KeptDoor). door_named door.name kept ∷ ticked_doors moment (map (caught_up late) doors)) (tick-caught late moment (kept_of door) order below)
    ∙ ap (λ t. told_door (command.Tick moment) door ∷ t) (ticked-caught late moment doors order below)

pub counted-caught : (late moment : ℕ) (doors : List NamedDoor) → late ≤ moment → moment < 2 ^ 63 → all_expired_of moment (map (caught_up late) doors) ≡ all_expired_of moment doors
counted-caught late moment [] order below = refl
counted-caught late moment (door ∷ doors) order below =
    let here : expired_of moment (caught_up late door) ≡ expired_of moment door = count-caught late moment (kept_of door) order below in
    let rest : all_expired_of moment (map (caught_up late) doors) ≡ all_expired_of moment doors = counted-caught late moment doors order below in
    let new : all_expired_of moment (caught_up late door ∷ map (caught_up late) doors) ≡ expired_of moment (caught_up late door) + all_expired_of moment (map (caught_up late) doors) =
    sum_by-cons (expired_of moment) (caught_up late door) (map (caught_up late) doors) in
    let old : all_expired_of moment (door ∷ doors) ≡ expired_of moment door + all_expired_of moment doors = sum_by-cons (expired_of moment) door doors in
    new ∙ rw (here, rest) (sym old)

module _ (late moment : ℕ) (due : List DueMachine) (doors : List NamedDoor) (order : late ≤ moment) (after : AreAfter moment due) (are : AreNoted late false due doors) where
  quiet-after : (k : ℕ) → k < length doors → IsQuietAt moment (kept_of (get_or doors k no_door))
  quiet-after k less =
      let it : IsNoted late false due (get_or doors k no_door) = are k no_door less in
      it.in_time.quiet moment order (after (get_or doors k no_door).machine.id it.until it.noted)

  -- where nothing is due by a moment, the doors are seen as they are after a tick at it
  pub seen-after : map (caught_up moment) doors ≡ ticked_doors moment doors
  seen-after = seen-quiet moment doors quiet-after

  -- none of their time-outs expires at it
  pub none-after : all_expired_of moment doors ≡ 0
  none-after = counted-quiet moment doors quiet-after

-- ---- the first door that is ready
-- where no door is awake none is ready
pub none-ready : (awake : List DueMachine) (doors : List NamedDoor) → AreAwake awake doors → first_of awake ≡ None → list_any is_ready_door doors ≡ false
none-ready [] doors are none = list_any-none is_ready_door doors no_door (λ k less. elim (cases_Bool (is_ready_door (get_or doors k no_door))) [
  | inl ready ↦ let never = are k no_door less ready in cc
  | inr rests ↦ rests
])
none-ready (one ∷ others) doors are none = cc

-- of those that are awake the first stands before each other that is ready
first-before : (one : DueMachine) (others : List DueMachine) (doors : List NamedDoor) (place : ℕ) → AreAwake (one ∷ others) doors → InOrder (one ∷ others) → AreBySerial (one ∷ others)
    → DoSerialsRise 0 doors → IsFirst (has_id one.machine) doors place → (k : ℕ) → k < place → is_ready_door (get_or doors k no_door) ≡ false
first-before one others doors place are order by_serial rise found k before =
    let less : place < length doors = IsFirst-within (has_id one.machine) doors place found in
    elim (cases_Bool (is_ready_door (get_or doors k no_door))) [
      | inl too ↦
          let id : MachineId = (get_or doors k no_door).machine.id in
          let least : one.machine.serial ≤ id.serial = serial-first one others id order by_serial (are k no_door (omega (arith, before, less)) too) in
          let is : one.machine.serial ≡ (get_or doors place no_door).machine.id.serial = ap (λ (id : MachineId). id.serial) (has-id one.machine doors place no_door found) in
          let lower : id.serial < (get_or doors place no_door).machine.id.serial = rise-order 0 k place doors no_door rise before less in
          absurd (omega (arith, least, is, lower))
      | inr rests ↦ rests
    ]

pub first-ready : (awake : List DueMachine) (doors : List NamedDoor) (machine : MachineId) (place : ℕ) → AreAwake awake doors → first_of awake ≡ Some machine → InOrder awake → AreBySerial awake
    → DoSerialsRise 0 doors → IsFirst (has_id machine) doors place → ((d : NamedDoor) → is_ready_door (get_or doors place d) ≡ true) → IsFirst is_ready_door doors place
first-ready [] doors machine place are first order by_serial rise found ready = cc
first-ready (one ∷ others) doors machine place are first order by_serial rise found ready =
    let same : one.machine ≡ machine = cc in
    IsFirst-after is_ready_door doors place no_door (IsFirst-within (has_id machine) doors place found)
    (first-before one others doors place are order by_serial rise (rw same found)) (ready no_door)

-- it is put back
pub awake-back : (awake new : List DueMachine) (doors : List NamedDoor) (machine : MachineId) → AreAwake awake doors → first_of awake ≡ Some machine
    → new ≡ noted_at machine machine.serial (others_of awake) → AreAwake new doors
awake-back [] new doors machine are first new_is = cc
awake-back (one ∷ others) new doors machine are first new_is = λ k d less ready.
    let id : MachineId = (get_or doors k d).machine.id in
    elim (cases_Bool (same_machine id machine)) [
      | inl same ↦
          let is : id ≡ machine = same_machines id machine same in
          rw (new_is, is) (ap (λ (found : Option ℕ). is_some found) (moment-noted_same machine machine.serial others))
      | inr differ ↦
          let one_is : one.machine ≡ machine = cc in
          let other : same_machine id one.machine ≡ false = rw one_is differ in
          let there : moment_of id others ≡ moment_of id (one ∷ others) = rw other refl in
          awake-as (one ∷ others) new (get_or doors k d) (rw new_is (moment-noted_other id machine machine.serial others differ) ∙ there) (are k d less) ready
    ]

pub by_serial-back : (awake new : List DueMachine) (machine : MachineId) → new ≡ noted_at machine machine.serial (others_of awake) → AreBySerial awake → AreBySerial new
by_serial-back [] new machine new_is are = rw new_is (by_serial-noted machine [] tt)
by_serial-back (one ∷ others) new machine new_is are = rw new_is (by_serial-noted machine others are.1)

-- a late tick makes no door ready
pub any-caught : (late : ℕ) (doors : List NamedDoor) → list_any is_ready_door (map (caught_up late) doors) ≡ list_any is_ready_door doors
any-caught late [] = refl
any-caught late (door ∷ doors) = rw (ready-caught late door, any-caught late doors) refl

-- ---- the door that is due first is ticked
-- the door of an id
pub missing-at : (id : MachineId) (doors : List NamedDoor) → find (has_id id) doors ≡ None → (k : ℕ) (d : NamedDoor) → k < length doors → (get_or doors k d).machine.id ≡ id → ⊥
missing-at id [] none k d less same = omega arith
missing-at id (door ∷ doors) none zero d less same = let some = rw (same, same_id_self id) at none in cc
missing-at id (door ∷ doors) none (suc k) d less same = elim (cases_Bool (has_id id door)) [
  | inl here ↦ let some = rw here at none in cc
  | inr other ↦ missing-at id doors (rw other at none) k d (omega arith) same
]

module _ (late : ℕ) (traced : Bool) (due awake others : List DueMachine) (first : DueMachine) (doors : List NamedDoor) (due_is : due ≡ first ∷ others) (are : AreWatched late traced due awake doors) where
  -- the first machine is taken out: it stood there alone
  others-noted : (k : ℕ) (d : NamedDoor) → k < length doors → same_machine (get_or doors k d).machine.id first.machine ≡ false → IsNoted late traced others (get_or doors k d)
  others-noted k d less differ =
      let id : MachineId = (get_or doors k d).machine.id in
      let same : moment_of id others ≡ moment_of id due =
      sym (ap (λ (machines : List DueMachine). moment_of id machines) due_is ∙ rw differ refl) in
      noted-as late traced due others (get_or doors k d) same (are.0 k d less)

  -- it is no door
  pub watched-gone : find (has_id first.machine) doors ≡ None → AreWatched late traced others awake doors
  watched-gone none = (
    λ k d less. others-noted k d less (apart (get_or doors k d).machine.id first.machine (missing-at first.machine doors none k d less)),
    are.1,
    are.2,
  )

  -- it is put back
  pub watched-back : (new : List DueMachine) → new ≡ noted_at first.machine first.moment others → AreWatched late traced new awake doors
  watched-back new new_is = (
    λ k d less.
        let id : MachineId = (get_or doors k d).machine.id in
        let same : moment_of id new ≡ moment_of id due =
        ap (λ (machines : List DueMachine). moment_of id machines) new_is
        ∙ (moment-noted_first id first others ∙ sym (ap (λ (machines : List DueMachine). moment_of id machines) due_is)) in
        noted-as late traced due new (get_or doors k d) same (are.0 k d less),
    are.1,
    are.2,
  )

  -- it is a door, which was told something: the others are watched still
  pub watched-others : (place : ℕ) (door : NamedDoor) (after : List NamedDoor) → DoSerialsRise 0 doors → IsFirst (has_id first.machine) doors place → after ≡ set doors place door
      → AreWatchedBut place late traced others awake after
  watched-others place door after rise found told =
      let less : place < length doors = IsFirst-within (has_id first.machine) doors place found in
      let count : length after ≡ length doors = ap (λ (all : List NamedDoor). length all) told ∙ length-set doors place door in
      let same : (k : ℕ) (d : NamedDoor) → (k ≡ place → ⊥) → get_or after k d ≡ get_or doors k d =
      λ k d differ. ap (λ (all : List NamedDoor). get_or all k d) told ∙ get_or-set_other doors place k door d differ in (
        λ k d within differ.
            let there : k < length doors = rw count at within in
            rw (same k d differ) (others-noted k d there (apart (get_or doors k d).machine.id first.machine
            (λ is. ids-apart 0 k place doors d rise there less differ (is ∙ has-id first.machine doors place d found)))),
        λ k d within differ. rw (same k d differ) (are.1 k d (rw count at within)),
        are.2,
      )

module _ (late moment place : ℕ) (doors after : List NamedDoor) (less : place < length doors) (told : after ≡ set doors place (told_door (command.Tick moment) (get_or doors place no_door)))
    (none : (get_or doors place no_door).history ≡ None) where
  ticked-there : get_or after place no_door ≡ told_door (command.Tick moment) (get_or doors place no_door)
  ticked-there =
      ap (λ (all : List NamedDoor). get_or all place no_door) told ∙ get_or-set_same doors place (told_door (command.Tick moment) (get_or doors place no_door)) no_door less

  -- it is in time beyond the moment
  pub ticked-in_time : late ≤ moment → moment < 2 ^ 63 → IsInTime late (moment + 1) (kept_of (get_or after place no_door))
  ticked-in_time order below = rw ticked-there (in_time-ticked moment below late (kept_of (get_or doors place no_door)) order none)

  pub ticked-untraced : (get_or after place no_door).history ≡ None
  ticked-untraced =
      let door : NamedDoor = get_or doors place no_door in
      rw ticked-there (untold source.Caller (command.Tick moment) (told_of (command.Tick moment) door).0 door.history none)

-- no door is traced
pub watched-untraced : (late : ℕ) (traced : Bool) (due awake : List DueMachine) (doors : List NamedDoor) → traced ≡ false → AreWatched late traced due awake doors → AreWatched late false due awake doors
watched-untraced late traced due awake doors none are = rw (← none) are

-- labels are seen whatever was made up for
pub labels-through : (first second : ℕ) (one two : List NamedDoor) → SameLabels one two → SameLabels (map (caught_up first) one) (map (caught_up second) two)
labels-through first second one two same =
    labels-more (map (caught_up first) one) (map (caught_up second) one) (map (caught_up second) two) (labels-caught first second one)
    (record { names = names two ∙ (same.names ∙ sym (names one)); slots = slots two ∙ (same.slots ∙ sym (slots one)) })
  where
    names : (doors : List NamedDoor) → names_of (map (caught_up second) doors) ≡ names_of doors
    names [] = refl
    names (door ∷ doors) = ap (λ t. door.name ∷ t) (names doors)

    slots : (doors : List NamedDoor) → slots_of (map (caught_up second) doors) ≡ slots_of doors
    slots [] = refl
    slots (door ∷ doors) = rw (id-caught second door, slots doors) refl
