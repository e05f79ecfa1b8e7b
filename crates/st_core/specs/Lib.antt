-- What one machine is, and what each of its calls answers and leaves.
pub mod MachineState
pub mod Choice
pub mod Callbacks
pub mod Stop
pub mod Transition
pub mod Post
pub mod Tick
pub mod Replies
pub mod Start
pub mod Run
pub mod Gathering
pub mod Prepared
pub mod UntilIdle
pub mod Lawful
pub mod Messages
pub mod Accounting
