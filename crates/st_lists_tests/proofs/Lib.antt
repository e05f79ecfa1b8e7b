-- Lemmas on what the tests ask for.
pub mod SettingLemmas
