-- The forms of which JSON is made here: numbers, names, variants, pairs, lists, and what may be or may be refused.
use Rattle.std.specs.Prelude.{ℕ, Option, Some, None, Result, Ok, Err, List, codes, map}
use Rattle.serde_json.specs.Data.{Data, null, number, unsigned, array, object, item, no_items, member, no_members}
use Rattle.serde_json.specs.View.{items_of}

-- a number
abbrev pub number_data : ℕ → Data
number_data n = number (unsigned n)

-- a variant that has something: an object of one member, whose key is the variant's name
abbrev pub named_data : List ℕ → Data → Data
named_data name value = object (member name value no_members)

-- two values
abbrev pub pair_data : Data → Data → Data
pair_data first second = array (item first (item second no_items))

module _ {T : Type 0} (data_of : T → Data) where
  -- the elements of a list, in order
  abbrev pub list_data : List T → Data
  list_data elements = array (items_of (map data_of elements))

  -- what may be there
  abbrev pub option_data : Option T → Data
  option_data None = null
  option_data (Some value) = data_of value

  -- what may be refused
  abbrev pub result_data : {E : Type 0} → (E → Data) → Result T E → Data
  result_data error_of (Ok value) = named_data (codes "Ok") (data_of value)
  result_data error_of (Err error) = named_data (codes "Err") (error_of error)
