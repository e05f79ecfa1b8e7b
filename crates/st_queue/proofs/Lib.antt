pub mod Chained
pub mod Crosses
pub mod NodeSteps
pub mod QueueLemmas
pub mod Seen
pub mod Shared
pub mod Walking
