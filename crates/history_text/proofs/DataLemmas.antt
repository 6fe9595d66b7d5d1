-- What a JSON value is, from what was found in it.
use Rattle.events.specs.declared.event.Reply.TheVariants as replies
use Rattle.history_text.proofs.Common.{◌≡◌, ℕ, zero, suc, ◌<◌, ◌≤◌, List, [], ◌∷◌, length, Option, Some, None, option_and_then, map, codes, get_or}
use Rattle.history_text.proofs.Common.{is_some, IfNone, refl, sym, ap, ◌∙◌, arith, length-map, unsigned, negative, float, Data, null, boolean, number}
use Rattle.history_text.proofs.Common.{string, array, object, Items, Members, view, items_of, items_view, Value, Call, Get, Insert, Remove, Scan}
use Rattle.history_text.proofs.Common.{Replace, Reply, number_data, list_data, pair_data, call_data, reply_data, object_of_two}
use Rattle.serde_json.specs.Find.{as_number, as_array, as_object, as_u64}

-- a value whose members were found is an object with these
pub object_found : (d : Data) (ms : Members) → Some ms ≡ as_object d → d ≡ object ms
object_found null ms h = cc
object_found (boolean b) ms h = cc
object_found (number n) ms h = cc
object_found (string s) ms h = cc
object_found (array ds) ms h = cc
object_found (object ns) ms h = cc

-- equal objects of two members have the same first name
pub first_names : (k l m n : List ℕ) (a b d e : Data) → object_of_two k a l b ≡ object_of_two m d n e → k ≡ m
first_names k l m n a b d e h = cc

-- ---- lists

-- items are those of one list
items_of_injective : (xs ys : List Data) → items_of xs ≡ items_of ys → xs ≡ ys
items_of_injective [] [] h = refl
items_of_injective [] (y ∷ ys) h = cc
items_of_injective (x ∷ xs) [] h = cc
items_of_injective (x ∷ xs) (y ∷ ys) h =
    let rest : xs ≡ ys = items_of_injective xs ys cc in
    let first : x ≡ y = cc in
    cc

-- equal lists have equal items
pub list_data_injective : (xs ys : List Data) → list_data xs ≡ list_data ys → xs ≡ ys
list_data_injective xs ys h = items_of_injective xs ys cc

-- a value whose items were found is an array of these
array_found : (d : Data) (ds : Items) → Some ds ≡ as_array d → d ≡ array ds
array_found null ds h = cc
array_found (boolean b) ds h = cc
array_found (number n) ds h = cc
array_found (string s) ds h = cc
array_found (array es) ds h = cc
array_found (object ms) ds h = cc

-- a value whose items were found, as a list, is an array of these
pub list_found : (d : Data) (vs : List Value) → Some (items_view vs) ≡ as_array d → d ≡ list_data (map view vs)
list_found d vs h = array_found d (items_view vs) h

-- equal lists are equally long
pub length_as : (vs : List Value) (ds : List Data) → list_data (map view vs) ≡ list_data ds → length vs ≡ length ds
length_as vs ds h = sym (length-map vs view) ∙ ap length (list_data_injective (map view vs) ds h)

-- a value that spells a pair has two items
pub length_of_pair : (vs : List Value) (pair : ℕ × ℕ) → list_data (map view vs) ≡ pair_data pair → length vs ≡ 2
length_of_pair vs pair h = length_as vs (number_data pair.0 ∷ number_data pair.1 ∷ []) h

-- a value that spells a call has two items, three or four
pub length_of_call : (vs : List Value) (call : Call) → list_data (map view vs) ≡ call_data call → (2 ≤ length vs) × (length vs ≤ 4)
length_of_call vs (Get key) h = let n = length_as vs (string (codes "get") ∷ number_data key ∷ []) h in (omega arith, omega arith)
length_of_call vs (Insert key value) h = let n =
    length_as vs (string (codes "insert") ∷ number_data key ∷ number_data value ∷ []) h in (omega arith, omega arith)
length_of_call vs (Remove key) h = let n = length_as vs (string (codes "remove") ∷ number_data key ∷ []) h in (omega arith, omega arith)
length_of_call vs (Scan low high) h = let n = length_as vs (string (codes "scan") ∷ number_data low ∷ number_data high ∷ []) h in (omega arith, omega arith)
length_of_call vs (Replace key old new) h =
    let n = length_as vs (string (codes "replace") ∷ number_data key ∷ number_data old ∷ number_data new ∷ []) h in (omega arith, omega arith)

-- ---- numbers

-- a value whose number was found is that number
pub number_found : (d : Data) (n : ℕ) → Some n ≡ option_and_then as_u64 (as_number d) → d ≡ number_data n
number_found null n h = cc
number_found (boolean b) n h = cc
number_found (number (unsigned m)) n h = cc
number_found (number (negative z)) n h = cc
number_found (number (float x)) n h = cc
number_found (string s) n h = cc
number_found (array ds) n h = cc
number_found (object ms) n h = cc

-- a list of three values, each read at its place
pub three_items : (vs : List Value) (x y z : Value) → length vs ≡ 3 → x ≡ get_or vs 0 x → y ≡ get_or vs 1 y → z ≡ get_or vs 2 z
    → vs ≡ x ∷ y ∷ z ∷ []
three_items [] x y z len first second third = cc
three_items (a ∷ []) x y z len first second third = cc
three_items (a ∷ b ∷ []) x y z len first second third = cc
three_items (a ∷ b ∷ e ∷ []) x y z len first second third = cc
three_items (a ∷ b ∷ e ∷ f ∷ vs) x y z len first second third = absurd (omega arith)

-- a list of four values, each read at its place
pub four_items : (vs : List Value) (x y z u : Value) → length vs ≡ 4 → x ≡ get_or vs 0 x → y ≡ get_or vs 1 y → z ≡ get_or vs 2 z
    → u ≡ get_or vs 3 u
    → vs ≡ x ∷ y ∷ z ∷ u ∷ []
four_items [] x y z u len first second third fourth = cc
four_items (a ∷ []) x y z u len first second third fourth = cc
four_items (a ∷ b ∷ []) x y z u len first second third fourth = cc
four_items (a ∷ b ∷ e ∷ []) x y z u len first second third fourth = cc
four_items (a ∷ b ∷ e ∷ f ∷ []) x y z u len first second third fourth = cc
four_items (a ∷ b ∷ e ∷ f ∷ g ∷ vs) x y z u len first second third fourth = absurd (omega arith)

-- ---- lists of values that are spelled one by one

module _ {A B C : Type 0} (f : A → C) (g : B → C) where
  -- if two lists have equal images, each element has the image of one of the other
  pub mapped_at : (xs : List A) (ys : List B) (i : ℕ) (d : A) → map f xs ≡ map g ys → i < length xs → (y : B) × (f (get_or xs i d) ≡ g y)
  mapped_at [] ys i d h within = absurd (omega arith)
  mapped_at (x ∷ xs) [] i d h within = cc
  mapped_at (x ∷ xs) (y ∷ ys) zero d h within = (y, (cc))
  mapped_at (x ∷ xs) (y ∷ ys) (suc i) d h within = mapped_at xs ys i d (cc) (omega arith)

-- an array that spells no pairs spells no reply
pub no_reply : (vs : List Value) → ((pairs : List (ℕ × ℕ)) → map view vs ≡ map pair_data pairs → ⊥) → (reply : Reply)
    → list_data (map view vs) ≡ reply_data reply → ⊥
no_reply vs none replies.None h = cc
no_reply vs none (replies.Some value) h = cc
no_reply vs none (replies.Pairs pairs) h = none pairs (list_data_injective (map view vs) (map pair_data pairs) h)
no_reply vs none replies.Refused h = cc
no_reply vs none replies.Done h = cc
no_reply vs none replies.Found h = cc
no_reply vs none replies.Other h = cc

-- what is said of no value holds where no value was mapped
pub IfNone-mapped : {A B : Type 0} {P Q : Type 0} (o : Option A) (r : Option B) → is_some r ≡ is_some o → (P → Q) → IfNone o P → IfNone r Q
IfNone-mapped None None h f p = f p
IfNone-mapped None (Some y) h f p = tt
IfNone-mapped (Some x) None h f p = cc
IfNone-mapped (Some x) (Some y) h f p = tt
