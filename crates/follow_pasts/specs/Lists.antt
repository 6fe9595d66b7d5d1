-- Lists of things that have keys, by key.
use Rattle.std.specs.Prelude.{◌≡◌, ℕ, suc, ◌%◌, ◌==◌, if◌then◌else◌, List, ◌++◌, ◌∷◌, ◌<◌, length, All}
use Rattle.std.specs.List.{flat_map, HoldsAt}
use Rattle.std.specs.Prelude.{Vec}
use Rattle.std.specs.Global.{Global}

-- how many lists there are
abbrev pub list_count : ℕ
list_count = 1022

-- the place of the list of a thing that has the keys from one to another: the first one, unless it has one key only
abbrev pub list_place : ℕ → ℕ → ℕ
list_place low high = if low == high then suc (low % 1021) else 0

-- the things of all lists, one list after another
abbrev pub things_of : {A : Type 0} → List (Vec A Global) → List A
things_of lists = flat_map (λ list. list.items) lists

-- each thing is in its list
pub record AreListed {A : Type 0} (place_of : A → ℕ) (lists : List (Vec A Global)) : Type 0 where
  pub count : length lists ≡ list_count
  pub own : (place : ℕ) → place < length lists → HoldsAt (λ list. All (λ one. place_of one ≡ place) list.items) lists place

-- one thing more, somewhere among the others
pub record IsPut {A : Type 0} (one : A) (old new : List A) : Type 0 where
  pub front : List A
  pub back : List A
  pub before : old ≡ front ++ back
  pub after : new ≡ front ++ one ∷ back
