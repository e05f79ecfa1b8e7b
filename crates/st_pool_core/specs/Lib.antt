-- What a pool is, what each step of it answers and leaves, and what is so after any list of steps.
pub mod Queues
pub mod Transit
pub mod PoolState
pub mod Machines
pub mod Step
pub mod Play
pub mod Deliveries
pub mod Opening
pub mod Balance
