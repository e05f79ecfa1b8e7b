-- Lemmas on what one list of actions asks for, and of no timer twice, on two that are joined, on names looked for among
-- those noted, and on what is counted of a list and taken out of it.
pub mod PlanLemmas
pub mod JoinLemmas
pub mod NotedLemmas
pub mod TakingLemmas
pub mod KeptLemmas
pub mod OnceLemmas
pub mod CountLemmas
