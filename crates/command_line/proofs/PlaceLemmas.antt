-- The place of a text among words, and of an option among those of a table.
use Rattle.command_line.proofs.Common.{◌≡◌, ◌∙◌, subst, ◌<◌, ◌≤◌, ◌-◌, ◌+◌, ℕ, Bool, true, false, cond, not, ◌||◌, refl, sym, ap, ap₂, arith, length}
use Rattle.command_line.proofs.Common.{List, [], ◌∷◌, Option, Some, None, map, nat_lt, lt-ltb, ltb-false, suc, list_any, position, position_or_len}
use Rattle.command_line.proofs.Common.{Bor, bytes_eq, texts, list_any-map, StandsFor, is_named, Flag, choice_of, flag_of, is_among, place_named}
use Rattle.command_line.proofs.Common.{ValueOption}
use Rattle.std.proofs.Common.{option_map}
use Rattle.std.specs.Prelude.{unwrap_or}
use Rattle.std.proofs.lemmas.List.Sums.{prefix_len-le-length}
use Rattle.clap.specs.Walk.{Text}
use Rattle.command_line.specs.declared.table.Values.{Values}
use Rattle.command_line.specs.declared.table.Values.TheVariants.{Among}

-- the place in a list that is mapped
place_or_len : {X Y : Type 0} (p : Y → Bool) (f : X → Y) (xs : List X) → position_or_len (λ x. p (f x)) xs ≡ position_or_len p (map f xs)
place_or_len p f [] = refl
place_or_len p f (x ∷ xs) = ap (λ n. cond (not (p (f x))) (1 + n) 0) (place_or_len p f xs)

map_length : {X Y : Type 0} (f : X → Y) (xs : List X) → length xs ≡ length (map f xs)
map_length f [] = refl
map_length f (x ∷ xs) = ap suc (map_length f xs)

-- the place behind references
pub place_behind : (text : Text) (words : List (Bor Text))
    → position (λ w. bytes_eq w.now text) words ≡ position (λ w. bytes_eq w text) (texts words)
place_behind text words =
    let place = place_or_len (λ (w : Text). bytes_eq w text) (λ (w : Bor Text). w.now) words in
    let many = map_length (λ (w : Bor Text). w.now) words in
    rw (place, many) refl

-- the place of the first option of a name, or their number
pub place_of_flag : (name : Text) (options : List ValueOption)
    → unwrap_or (position (λ o. bytes_eq o.name.now name) options) (length options) ≡ place_named name (map flag_of options)
place_of_flag name options =
    place_or_length _ options ∙ place_or_len (λ (f : Flag). bytes_eq f.name name) flag_of options
  where
    here : (place many : ℕ) → place ≤ many → (b : Bool) → nat_lt place many ≡ b
        → unwrap_or (cond b (Some place) None) many ≡ place
    here place many within true is = refl
    here place many within false is = let behind = ltb-false place many is in omega (arith, within, behind)

    place_or_length : (p : ValueOption → Bool) (os : List ValueOption) → unwrap_or (position p os) (length os) ≡ position_or_len p os
    place_or_length p os = here (position_or_len p os) (length os) (prefix_len-le-length _ os) _ refl

-- where an element passes, the first that does is before the end
place_before_end : {X : Type 0} (p : X → Bool) (xs : List X) → list_any p xs ≡ true → position_or_len p xs < length xs
place_before_end p [] any = cc
place_before_end p (x ∷ xs) any = go (p x) any (place_before_end p xs)
  where
    go : (b : Bool) → (b || list_any p xs) ≡ true → (list_any p xs ≡ true → position_or_len p xs < length xs)
        → cond (not b) (1 + position_or_len p xs) 0 < length (x ∷ xs)
    go true has later = omega arith
    go false has later = let rest = later has in omega (arith, rest)

-- a text that is one of some words has a place among them
pub record HasPlace (text : Text) (words : List Text) : Type 0 where
  pub place : ℕ
  pub is : position (λ w. bytes_eq w text) words ≡ Some place
  pub inside : place ≤ length words - 1

pub place_among : (text : Text) (words : List Text) → is_among text words ≡ true → HasPlace text words
place_among text words any =
    let before = place_before_end (λ (w : Text). bytes_eq w text) words any in
    let test : nat_lt (position_or_len (λ (w : Text). bytes_eq w text) words) (length words) ≡ true = lt-ltb _ _ before in
    record {
      place = position_or_len (λ (w : Text). bytes_eq w text) words;
      is = rw test refl;
      inside = omega (arith, before);
    }

-- ---- the words of an option, as the code has them

module _ (values : Values) (words : Bor (List (Bor Text))) (is : values ≡ Among words) (text : Text) (n : ℕ) where
  -- the number of a text that stands for one is its place
  pub stands_at : StandsFor (choice_of values) text n → position (λ w. bytes_eq w.now text) words.now ≡ Some n
  stands_at stands = place_behind text words.now ∙ subst (λ (v : Values). StandsFor (choice_of v) text n) is stands

  -- and the other way round
  pub at_stands : position (λ w. bytes_eq w.now text) words.now ≡ Some n → StandsFor (choice_of values) text n
  at_stands at = subst (λ (v : Values). StandsFor (choice_of v) text n) (sym is) (sym (place_behind text words.now) ∙ at)

-- and a value is one of them where one is the same text
pub named_is : (values : Values) (words : Bor (List (Bor Text))) → values ≡ Among words → (value : Option (Bor Text)) (text : Bor Text)
    → value ≡ Some text
    → list_any (λ w. bytes_eq w.now text.now) words.now ≡ is_named (choice_of values) (option_map (λ t. t.now) value)
named_is values words is value text given =
    list_any-map (λ (w : Text). bytes_eq w text.now) (λ (w : Bor Text). w.now) words.now
    ∙ sym (ap₂ (λ (v : Values) (o : Option (Bor Text)). is_named (choice_of v) (option_map (λ t. t.now) o)) is given)
