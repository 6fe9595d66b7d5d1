-- What FIND gives where a call runs alone.
use Rattle.art_schedules.proofs.Common.{ℕ, ◌-◌, ◌%◌, List, length, Bool, true, false, Option, Kind, Four, Sixteen, FortyEight, Full}
use Rattle.art_rows.specs.Rows.{Row, Has, Lacks}
use Rattle.art_schedules.proofs.Common.{keys_at, more_keys_at, index_at, count_at, child_at, keys4_of, count_of, place_of, entries_of, child_of}
use Rattle.art_schedules.proofs.Common.{◌>>=◌, give, load, Setting, is_insert, find_child, find_among, find_indexed, find_in, find}
use Rattle.art_schedules.proofs.Common.{byte_at, entry_slot, Comes, found_in, keys_in_row, found_of_slot}
use Rattle.std.specs.Prelude.{slice_index, if◌then◌else◌, ◌==◌, Some, None, option_map}
use Rattle.art_rows.specs.declared.access.Point.TheVariants as point
use Rattle.art_schedules.proofs.alone.AloneLemmas.{give-comes, bind-comes, load-comes, load_at-comes}

find_child-comes : (c : Setting) (slot : ℕ) (words : List ℕ)
    → Comes (find_child c slot) words (Has slot (child_of c.shape (slice_index words slot))) words
unfolding find_child
find_child-comes c slot words =
    bind-comes {f = λ w. give (Has slot (child_of c.shape w))} (load_at-comes point.Child slot words) (give-comes _ words)

find_among-comes : (c : Setting) (n : Row) (keys : List ℕ) (place : Option ℕ) (words : List ℕ)
    → Comes (find_among c n keys place) words (found_of_slot c.shape words keys (length keys) (option_map (child_at n.kind n.base) place))
    words
unfolding find_among
find_among-comes c n keys None words = give-comes (Lacks keys (length keys)) words
find_among-comes c n keys (Some i) words = find_child-comes c (child_at n.kind n.base i) words

abbrev counted : Setting → List ℕ → ℕ → ℕ
counted c words base = if is_insert c.call then count_of 48 (slice_index words (count_at FortyEight base)) else 0

find_indexed-comes : (c : Setting) (n : Row) (entries : List ℕ) (e : ℕ) (words : List ℕ)
    → Comes (find_indexed c n entries e) words (found_of_slot c.shape words entries (counted c words n.base) (entry_slot n.base e)) words
unfolding find_indexed
find_indexed-comes c n entries e words = go (e == 0) (is_insert c.call)
  where
    go : (absent asked : Bool)
        → Comes (if absent then (if asked then (load (count_at FortyEight n.base) >>= λ count. give (Lacks entries (count_of 48 count)))
        else give (Lacks entries 0))
        else find_child c (child_at FortyEight n.base (e - 1))) words
        (found_of_slot c.shape words entries (if asked then count_of 48 (slice_index words (count_at FortyEight n.base)) else 0)
        (if absent then None else Some (child_at FortyEight n.base (e - 1)))) words
    go false asked = find_child-comes c (child_at FortyEight n.base (e - 1)) words
    go true true = bind-comes {f = λ count. give (Lacks entries (count_of 48 count))} (load-comes (count_at FortyEight n.base) words)
        (give-comes _ words)
    go true false = give-comes (Lacks entries 0) words

find_in-comes : (kind : Kind) (c : Setting) (base level : ℕ) (path : List ℕ) (kept x : ℕ) (words : List ℕ)
    → Comes (find_in kind c (record { base = base; kind = kind; level = level; path = path; kept = kept }) x) words
    (found_in c words base kind x) words
unfolding find_in
find_in-comes Four c base level path kept x words =
    let n : Row = record { base = base; kind = Four; level = level; path = path; kept = kept } in
    bind-comes {f = λ keys. find_among c n (keys4_of keys) (place_of x (keys4_of keys))} (load-comes (keys_at base) words)
    (find_among-comes c n (keys_in_row words base Four x) (place_of x (keys_in_row words base Four x)) words)
find_in-comes Sixteen c base level path kept x words =
    let n : Row = record { base = base; kind = Sixteen; level = level; path = path; kept = kept } in
    bind-comes (load-comes (count_at Sixteen base) words)
    (bind-comes (load-comes (keys_at base) words) (bind-comes (load-comes (more_keys_at base) words)
    (find_among-comes c n (keys_in_row words base Sixteen x) (place_of x (keys_in_row words base Sixteen x)) words)))
find_in-comes FortyEight c base level path kept x words =
    let n : Row = record { base = base; kind = FortyEight; level = level; path = path; kept = kept } in
    bind-comes {f = λ w. find_indexed c n (entries_of w) (slice_index (entries_of w) (x % 8))} (load-comes (index_at base x) words)
    (find_indexed-comes c n (entries_of (slice_index words (index_at base x)))
    (slice_index (entries_of (slice_index words (index_at base x))) (x % 8)) words)
find_in-comes Full c base level path kept x words =
    bind-comes {f = λ w. give (Has (child_at Full base x) (child_of c.shape w))} (load-comes (child_at Full base x) words)
    (give-comes _ words)

-- What is found of the call's byte in a row, and the words stay.
pub find-comes : (c : Setting) (n : Row) (words : List ℕ)
    → Comes (find c n) words (found_in c words n.base n.kind (byte_at c n.level)) words
unfolding find
find-comes c n words = find_in-comes n.kind c n.base n.level n.path n.kept (byte_at c n.level) words
