-- What values and a word spell items.
use Rattle.plan_text.proofs.Common.{◌≡◌, ℕ, ◌+◌, ◌≤◌, ◌<◌, true, List, [], ◌∷◌, ◌++◌, length, map, take, get_or, codes, refl, sym, ap, ◌∙◌, arith}
use Rattle.plan_text.proofs.Common.{IsTrue, list_all, and_parts, leb-true, map_more, map_push, list_all-append, Data, string, view, Value}
use Rattle.plan_text.proofs.Common.{number_data, list_data, Point, Item, Turns, End, Until, is_item, turn_limit, point_name, item_data}

-- ---- the items of a schedule, one after the other

-- the values so far and one more spell the items so far and one more
pub spelled_more : (vs : List Value) (i : ℕ) (v : Value) (xs ys : List Item) (x : Item) → i < length vs → v ≡ get_or vs i v
    → view v ≡ item_data x → ys ≡ xs ++ x ∷ [] → map view (take i vs) ≡ map item_data xs → map view (take (i + 1) vs) ≡ map item_data ys
spelled_more vs i v xs ys x within here is pushed so_far =
    map_more view vs i v within
    ∙ (ap (λ ds. ds ++ view (get_or vs i v) ∷ []) so_far
    ∙ (ap (λ d. map item_data xs ++ d ∷ []) (ap view (sym here) ∙ is)
    ∙ (sym (map_push item_data xs x) ∙ ap (map item_data) (sym pushed))))

-- items that may be in a schedule, and one more
pub standing_more : (xs ys : List Item) (x : Item) → ys ≡ xs ++ x ∷ [] → list_all is_item xs ≡ true → is_item x ≡ true
    → list_all is_item ys ≡ true
standing_more xs ys x pushed all one = ap (list_all is_item) pushed ∙ (list_all-append is_item xs (x ∷ []) ∙ rw (all, one) refl)

-- ---- an item of three values

abbrev three : ℕ → List ℕ → Data → Data
three process word last = list_data (number_data process ∷ string word ∷ last ∷ [])

-- the item has equal values, under other names
pub same_three : (process : ℕ) (w u : List ℕ) (d e : Data) → u ≡ w → e ≡ d → three process w d ≡ three process u e
same_three process w u d e word last = rw (word, last) refl

-- the words differ
words_differ : codes "turns" ≡ codes "until" → ⊥
words_differ h = let letter : 116 ≡ 117 = ap (λ (name : List ℕ). get_or name 0 0) h in omega (arith, letter)

-- the word of an item of three values is one of two
pub word_of_three : (process : ℕ) (word : List ℕ) (last : Data) (i : Item) → (word ≡ codes "turns" → ⊥) → (word ≡ codes "until" → ⊥)
    → item_data i ≡ three process word last → ⊥
word_of_three process word last (Turns p n) not_turns not_until h = let same : word ≡ codes "turns" = cc in not_turns same
word_of_three process word last (End p) not_turns not_until h = cc
word_of_three process word last (Until p x) not_turns not_until h = let same : word ≡ codes "until" = cc in not_until same

-- after `turns` comes a number of turns
pub no_turns : (process : ℕ) (word : List ℕ) (last : Data) (i : Item) → word ≡ codes "turns"
    → ((n : ℕ) → last ≡ number_data n → 1 ≤ n → n ≤ turn_limit → ⊥) → item_data i ≡ three process word last → IsTrue (is_item i) → ⊥
no_turns process word last (Turns p n) is none h standing =
    let number : last ≡ number_data n = cc in
    let limits = and_parts _ _ standing in
    none n number (leb-true _ _ limits.0) (leb-true _ _ limits.1)
no_turns process word last (End p) is none h standing = cc
no_turns process word last (Until p x) is none h standing =
    let same : word ≡ codes "until" = cc in
    words_differ (sym is ∙ same)

-- after `until` comes the name of a point
pub no_point : (process : ℕ) (word : List ℕ) (last : Data) (i : Item) → word ≡ codes "until"
    → ((x : Point) → last ≡ string (point_name x) → ⊥) → item_data i ≡ three process word last → ⊥
no_point process word last (Turns p n) is none h =
    let same : word ≡ codes "turns" = cc in
    words_differ (sym same ∙ is)
no_point process word last (End p) is none h = cc
no_point process word last (Until p x) is none h = let name : last ≡ string (point_name x) = cc in none x name
