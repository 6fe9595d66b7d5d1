-- How many values are in an array that spells an item, or numbers of rows.
use Rattle.plan_text.proofs.Common.{◌≡◌, ℕ, ◌+◌, ◌≤◌, true, subst, List, [], ◌∷◌, length, map, codes, sym, ◌∙◌, arith, All, IsTrue, list_all}
use Rattle.plan_text.proofs.Common.{list_all-map, AllPass-from_list_all, list_all-from_AllPass, Data, string, Members, member, object, view, Value}
use Rattle.plan_text.proofs.Common.{Call, Insert, Contents, is_tree_call, AreFew, scripts_data, inserts, number_data, list_data, pair_data}
use Rattle.plan_text.proofs.Common.{list_data_injective, length_as, pairs_injective, Shape, Item, Turns, End, Until, point_name, item_data, rows_data}
use Rattle.std.proofs.Common.{sum}
use Rattle.events.specs.Limits.{call_limit}
use Rattle.plan_text.proofs.PlanTextLemmas.{scripts_data_injective}

-- a value that spells an item has two items or three
pub length_of_item : (vs : List Value) (i : Item) → list_data (map view vs) ≡ item_data i → (2 ≤ length vs) × (length vs ≤ 3)
length_of_item vs (Turns process turns) h =
    let n = length_as vs (number_data process ∷ string (codes "turns") ∷ number_data turns ∷ []) h in (omega arith, omega arith)
length_of_item vs (End process) h = let n = length_as vs (number_data process ∷ string (codes "end") ∷ []) h in (omega arith, omega arith)
length_of_item vs (Until process point) h =
    let n = length_as vs (number_data process ∷ string (codes "until") ∷ string (point_name point) ∷ []) h in (omega arith, omega arith)

-- a value that spells numbers of rows has four items
pub length_of_rows : (vs : List Value) (s : Shape) → list_data (map view vs) ≡ rows_data s → length vs ≡ 4
length_of_rows vs s h = length_as vs (number_data s.rows4 ∷ number_data s.rows16 ∷ number_data s.rows48 ∷ number_data s.rows256 ∷ []) h

-- what comes after the first two members of an object
pub after_two : (k l : List ℕ) (d e f g : Data) (ms rest others : Members) → object ms ≡ object (member k f (member l g others))
    → ms ≡ member k d (member l e rest) → rest ≡ others
after_two k l d e f g ms rest others h two = cc

-- scripts that are too many together with the pairs are too many under another name
pub too_many_beside : (pairs : ℕ) (scripts found : List (List Call)) → scripts_data scripts ≡ scripts_data found
    → (AreFew found → pairs + sum (map (λ script. length script) found) ≤ call_limit → ⊥) → AreFew scripts
    → pairs + sum (map (λ script. length script) scripts) ≤ call_limit → ⊥
too_many_beside pairs scripts found same none few room =
    let is = scripts_data_injective scripts found same in
    none (subst AreFew is few) (subst (λ (s : List (List Call)). pairs + sum (map (λ script. length script) s) ≤ call_limit) is room)

-- a tree can insert each pair where it can do each call that inserts one
pub calls_insertable : (pairs : Contents) → list_all (λ pair. is_tree_call (Insert pair.0 pair.1)) pairs ≡ true
    → All (λ call. IsTrue (is_tree_call call)) (inserts pairs)
calls_insertable pairs h =
    AllPass-from_list_all is_tree_call (inserts pairs) (list_all-map is_tree_call (λ pair. Insert pair.0 pair.1) pairs ∙ h)

-- a tree can insert each of some pairs if it can do each call that inserts one
pub pairs_insertable : (pairs : Contents) → All (λ call. IsTrue (is_tree_call call)) (inserts pairs)
    → list_all (λ pair. is_tree_call (Insert pair.0 pair.1)) pairs ≡ true
pairs_insertable pairs h =
    sym (list_all-map is_tree_call (λ pair. Insert pair.0 pair.1) pairs) ∙ list_all-from_AllPass is_tree_call (inserts pairs) h

-- a value spells one list of pairs only
pub same_pairs : (d : Data) (found pairs : Contents) → d ≡ list_data (map pair_data found)
    → d ≡ list_data (map pair_data pairs) → pairs ≡ found
same_pairs d found pairs h k = pairs_injective pairs found (list_data_injective (map pair_data pairs) (map pair_data found) (sym k ∙ h))
