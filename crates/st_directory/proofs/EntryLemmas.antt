-- The entries of a map from names to ids, and the names that they show.
use Rattle.std.proofs.Common.{◌≡◌, ℕ, Bool, false, Some, None, List, [], ◌∷◌, ◌++◌, All, slice_get, refl, sym, ap, inl, inr, zero, suc, bytes_eq, string_bytes}
use Rattle.std.specs.Prelude.{String}
use Rattle.std.specs.String.{string_eq}
use Rattle.std.specs.List.{remove}
use Rattle.std.specs.Map.{lookup, remove_entry, values_of}
use Rattle.std.proofs.lemmas.Bool.{cases_Bool}
use Rattle.std.proofs.lemmas.List.Elements.{All-head, All-tail}
use Rattle.st_events.specs.declared.machine_id.MachineId.{MachineId}
use Rattle.indexmap.specs.IndexMap.{insert_entry}
use Rattle.st_directory.specs.DirectoryState.{Named, same_id, id_in, without_name, without_names_of}
use Rattle.st_directory.specs.Entries.{named_of_entry, names_of_entries}
use Rattle.st_directory.specs.InOrder.{NamesAnother, IdsNamedOnce}
use Rattle.st_directory.proofs.IdLemmas.{ids_same, same_id_self, others_differ}

-- names that are all of others are the names without those of an id
apart_stay : (id : MachineId) (names : List Named) → All (NamesAnother id) names → without_names_of id names ≡ names
apart_stay id [] apart = refl
apart_stay id (first ∷ later) apart =
    let differs : same_id id first.1 ≡ false = others_differ id first.1 (λ same. All-head (NamesAnother id) first later apart (sym same)) in
    rw differs (ap (λ (rest : List Named). first ∷ rest) (apart_stay id later (All-tail (NamesAnother id) first later apart)))

module _ {A : Type 0} where
  -- whether the key of an entry is this name
  abbrev pub is_name : List ℕ → String A → Bool
  is_name name key = bytes_eq name (string_bytes key)

  -- the id of a name is that of its key
  pub id_of_entries : (name : List ℕ) (es : List (String A × MachineId)) → lookup (is_name name) es ≡ id_in name (names_of_entries es)
  id_of_entries name [] = refl
  id_of_entries name (e ∷ es) = elim (cases_Bool (is_name name e.0)) [
    | inl passes ↦ rw passes refl
    | inr fails ↦ rw fails (id_of_entries name es)
  ]

  -- an entry of a new name goes last
  pub entries-new : (es : List (String A × MachineId)) (key : String A) (id : MachineId) → id_in (string_bytes key) (names_of_entries es) ≡ None
      → insert_entry string_eq es key id ≡ es ++ (key, id) ∷ []
  entries-new [] key id none = refl
  entries-new (e ∷ es) key id none = elim (cases_Bool (string_eq key e.0)) [
    | inl passes ↦ let some = rw passes at none in cc
    | inr fails ↦ let rest = rw fails at none in rw fails (ap (λ (later : List (String A × MachineId)). e ∷ later) (entries-new es key id rest))
  ]

  -- the names without one
  pub entries_lose_a_name : (name : List ℕ) (es : List (String A × MachineId))
      → names_of_entries (remove_entry (is_name name) es) ≡ without_name name (names_of_entries es)
  entries_lose_a_name name [] = refl
  entries_lose_a_name name (e ∷ es) = elim (cases_Bool (is_name name e.0)) [
    | inl passes ↦ rw passes refl
    | inr fails ↦ rw fails (ap (λ (later : List (List ℕ × MachineId)). named_of_entry e ∷ later) (entries_lose_a_name name es))
  ]

  -- where no entry names an id, the names are those without its own
  pub none_of_id : (id : MachineId) (es : List (String A × MachineId)) → ((at : ℕ) (other : MachineId) → slice_get (values_of es) at ≡ Some other → same_id id other ≡ false)
      → names_of_entries es ≡ without_names_of id (names_of_entries es)
  none_of_id id [] others = refl
  none_of_id id (e ∷ es) others =
      rw (others zero e.1 refl) (ap (λ (later : List (List ℕ × MachineId)). named_of_entry e ∷ later) (none_of_id id es (λ at other there. others (suc at) other there)))

  -- an id that all others differ from is at no place
  not_among : (id : MachineId) (es : List (String A × MachineId)) (place : ℕ) → All (NamesAnother id) (names_of_entries es) → slice_get (values_of es) place ≡ Some id → ⊥
  not_among id [] place apart there = cc
  not_among id (e ∷ es) zero apart there =
      let is : e.1 ≡ id = cc in
      All-head (NamesAnother id) (named_of_entry e) (names_of_entries es) apart is
  not_among id (e ∷ es) (suc place) apart there = not_among id es place (All-tail (NamesAnother id) (named_of_entry e) (names_of_entries es) apart) there

  -- where an id is named once, its name is gone once the entry at its place is
  pub names_lose_an_id : (id : MachineId) (es : List (String A × MachineId)) (place : ℕ) → slice_get (values_of es) place ≡ Some id → IdsNamedOnce (names_of_entries es)
      → names_of_entries (remove es place) ≡ without_names_of id (names_of_entries es)
  names_lose_an_id id [] place there once = cc
  names_lose_an_id id (e ∷ es) zero there once =
      let is : e.1 ≡ id = cc in
      rw (is, same_id_self id) (sym (apart_stay id (names_of_entries es) (rw is at once.0)))
  names_lose_an_id id (e ∷ es) (suc place) there once = elim (cases_Bool (same_id id e.1)) [
    | inl same ↦ absurd (not_among id es place (rw (← ids_same id e.1 same) at once.0) there)
    | inr other ↦ rw other (ap (λ (later : List (List ℕ × MachineId)). named_of_entry e ∷ later) (names_lose_an_id id es place there once.1))
  ]
