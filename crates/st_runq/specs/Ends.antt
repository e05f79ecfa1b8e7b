-- What a contract sees of an end of a run queue: of which queue it is, what it has put and what it has taken.
use Rattle.std.specs.Prelude.{List}
use Rattle.std.specs.Arc.{arc_value}
use Rattle.std.specs.declared.alloc.Global.{Global}
use Rattle.atomic_blocks.specs.Lent.{RowsId}
use Rattle.crossbeam_deque.specs.Handles.{view, worker_deque, worker_view, stealer_deque}
use Rattle.crossbeam_deque.specs.Injected.{injector_view}
use Rattle.crossbeam_deque.specs.declared.injector.Injector.{Injector}
use Rattle.st_events.specs.declared.token.Token.{Token}
use Rattle.st_runq.specs.declared.inlet.Inlet.{Inlet}
use Rattle.st_runq.specs.declared.lane.Lane.{Lane}
use Rattle.st_runq.specs.declared.seen.Seen.{Seen}
use Rattle.st_runq.specs.declared.shared.Shared.{Shared}
use Rattle.st_runq.specs.declared.steps.TakenOnce.{TakenOnce}
use Rattle.st_runq.specs.declared.thief.Thief.{Thief}
use Rattle.st_runq.specs.RunQueue.{Entry}

-- which local run queue it is
abbrev pub LaneId : Type 0
LaneId = RowsId × Global

-- the run queue of a lane
abbrev pub lane_of : Lane → LaneId
lane_of lane = worker_deque lane.deque

-- the tokens that were put, in order
abbrev pub put_of : Lane → List Token
put_of lane = (worker_view lane.deque).put

-- the tokens that the owner has taken, in order, with their places
abbrev pub taken_of : Lane → List Entry
taken_of lane = (worker_view lane.deque).taken

-- the run queue that a thief takes from
abbrev pub robbed_of : Thief → LaneId
robbed_of thief = stealer_deque thief.stealer

-- the tokens that it has taken, in order, with their places
abbrev pub stolen_of : Thief → List Entry
stolen_of thief = (view thief.pass).taken

-- which shared run queue it is
abbrev pub SharedId : Type 0
SharedId = Injector Token Global Seen TakenOnce

-- the run queue of an inlet
abbrev pub inlet_of : Inlet → SharedId
inlet_of inlet = arc_value inlet.queue

-- the tokens that were put, in order
abbrev pub given_of : Inlet → List Token
given_of inlet = (injector_view inlet.pass).put

-- the run queue that a taker takes from
abbrev pub source_of : Shared → SharedId
source_of shared = arc_value shared.queue

-- the tokens that it has taken, in order, with their places
abbrev pub fetched_of : Shared → List Entry
fetched_of shared = (injector_view shared.pass).taken
