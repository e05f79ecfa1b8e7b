-- Lemmas on runs with the answers of a host, and on the event that comes next.
pub mod HostedLemmas
pub mod NextLemmas
