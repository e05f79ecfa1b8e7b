-- Lemmas on the requests that are kept, on what each call keeps of them, and on the loop over replies; and the
-- definitions computed on examples.
pub mod LawfulRequests
pub mod LoopLemmas
pub mod RequestLemmas
pub mod WorkedRequests
