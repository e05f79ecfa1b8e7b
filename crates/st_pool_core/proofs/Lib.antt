-- Lemmas on tokens, run queues and hands, on machines and on what they are told, on pools, and on messages.
pub mod QueueLemmas
pub mod QueueCounts
pub mod IdLemmas
pub mod MachineLookups
pub mod MachineLemmas
pub mod PlacedTokens
pub mod RefusedLemmas
pub mod WentLemmas
pub mod CommandLemmas
pub mod PoolLemmas
pub mod WorkerSteps
pub mod BalanceLemmas
pub mod PlayLemmas
pub mod OpeningLemmas
pub mod TransitLemmas
pub mod CarryingLemmas
pub mod CarriedLemmas
pub mod DeliveryLemmas
pub mod MessageLemmas
pub mod HandLemmas
mod WorkedMessages
