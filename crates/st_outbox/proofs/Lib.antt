-- Lemmas on what is sent and what is taken out; and the definitions computed on an example.
pub mod OutboxLemmas
pub mod WorkedOutbox
