-- How what is done with a machine is put together, and why it is refused.
pub mod ServingLemmas
pub mod RefusalLemmas
