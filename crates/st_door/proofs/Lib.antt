-- Lemmas on words and lines, and on what a line makes of a script.
pub mod PieceLemmas
pub mod WordLemmas
pub mod ScriptStateLemmas
pub mod ScriptLemmas
pub mod ForgettingLemmas
