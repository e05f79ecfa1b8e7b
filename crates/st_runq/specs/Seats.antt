-- What new workers have of the run queues.
use Rattle.std.specs.Prelude.{◌≡◌, ◌+◌, ◌<◌, ◌++◌, ℕ, List, [], All, map, take, drop, Some, slice_get}
use Rattle.st_runq.specs.declared.inlet.Inlet.{Inlet}
use Rattle.st_runq.specs.declared.seats.Seats.{Seats}
use Rattle.st_runq.specs.declared.thief.Thief.{Thief}
use Rattle.st_runq.specs.Ends.{LaneId, lane_of, put_of, taken_of, robbed_of, stolen_of, fetched_of, inlet_of, source_of}

-- the local run queues of the workers, in order
abbrev pub lanes_of : List Seats → List LaneId
lanes_of all = map (λ seats. lane_of seats.lane) all

-- those of the others, in order: after the own number, and then from 0 on
abbrev pub others_of : ℕ → List LaneId → List LaneId
others_of own lanes = drop (own + 1) lanes ++ take own lanes

-- these are thieves of these run queues, and have taken nothing
abbrev pub AreThieves : List LaneId → List Thief → Type 0
AreThieves lanes thieves = (map robbed_of thieves ≡ lanes) × All (λ thief. stolen_of thief ≡ []) thieves

-- the worker has put and taken nothing, and takes from this shared run queue
pub record IsReady (inlet : Inlet) (seats : Seats) : Type 0 where
  pub put : put_of seats.lane ≡ []
  pub taken : taken_of seats.lane ≡ []
  pub source : source_of seats.shared ≡ inlet_of inlet
  pub fetched : fetched_of seats.shared ≡ []

-- each of the first so many workers has thieves of the others' run queues
abbrev pub EachRobsOthers : ℕ → List Seats → Type 0
EachRobsOthers count all =
    (own : ℕ) (seats : Seats) → own < count → slice_get all own ≡ Some seats
    → AreThieves (others_of own (lanes_of all)) seats.thieves.items
