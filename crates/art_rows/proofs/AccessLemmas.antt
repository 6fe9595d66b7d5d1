-- Every access of every procedure is in the table.
use Rattle.art_rows.proofs.Common.{◌≡◌, ℕ, ◌+◌, ◌-◌, ◌*◌, ◌/◌, ◌%◌, ◌<◌, ◌≤◌, List, [], ◌∷◌, ◌++◌, length, refl, subst, sym, arith, Bool, true, false}
use Rattle.art_rows.proofs.Common.{min, ◌==◌, ◌&&◌, nat_lt, nat_le, Option, Some, None, filter, if◌then◌else◌, length-append, false≢true, ltb-true}
use Rattle.art_rows.proofs.Common.{Call, Get, Insert, Remove, Scan, Replace, Reply, Variant, Shape, Kind, Four, Sixteen, FortyEight, Full, Child}
use Rattle.art_rows.proofs.Common.{Empty, Leaf, capacity, rows_of, table_words, root_base, claims_of, info_at, keys_at, more_keys_at, index_at}
use Rattle.art_rows.proofs.Common.{count_at, child_at, is_locked, is_obsolete, locked_word, keys4_of, keys16_of, count_of, place_of, new_place}
use Rattle.art_rows.proofs.Common.{entries_of, Answers, Part, from_start, ◌>>=◌, ◌>>◌, give, start_again, load, exchange, numbers, numbers_down}
use Rattle.art_rows.proofs.Common.{Setting, Row, Place, is_insert, locks, key_of, leaves_out_check, takes_unchecked, releases_early, lock_point}
use Rattle.art_rows.proofs.Common.{lock_again, lock, unlock, unlock_obsolete, unlock_all, wait, check, check_of, take_row, Found, Has, Lacks}
use Rattle.art_rows.proofs.Common.{load_child, find_child, find_among, find_indexed, find_in, find, byte_at, is_full, claim, row_of, path_differs_at}
use Rattle.art_rows.proofs.Common.{root_row, Walked, with_leaf, has_row, with_row, can_lie, bytes_of, enter, walk_child, walk_slot, walk_place}
use Rattle.art_rows.proofs.Common.{walk_keys, walk_entry, walk_index, walk_in, walk_bytes, At, walk_from, scan, pair_limit, procedure, act, word_of}
use Rattle.art_rows.proofs.Common.{StaysInTable, AnswersFewPairs, overwriting, keys_differ_at, Under, pair, pair_in, copy_child, make_room, put_in}
use Rattle.art_rows.proofs.Common.{put, store_index, spread_entry, spread_index, fill, grow, insert_in, insert_beside, next_kind}
use Rattle.std.specs.Prelude.{slice_index}
use Rattle.art_rows.specs.declared.table.Child.TheVariants.{Row as ChildRow}
use Rattle.art_rows.proofs.ByteLemmas.{key_byte-small, keys4-few, place-within, entries-most, keys16-few}
use Rattle.art_rows.proofs.WriterLemmas.{new_place-most}
use Rattle.art_rows.proofs.TableLemmas.{Inside, IsSmall, Stays, Within, Any, give-within, again-within, answer-within, bind-within, then-within}
use Rattle.art_rows.proofs.TableLemmas.{if-within, load-within, load_at-within, exchange-within, add-within, store-within, store_at-within}
use Rattle.art_rows.proofs.TableLemmas.{first_at-within, recursive-within, repeat-within, Each, each-within, over-within, numbers-each}
use Rattle.art_rows.proofs.TableLemmas.{numbers_down-each, IsIn, IsGood, child_of-good, base_of-fits}
use Rattle.art_rows.proofs.TurnLemmas.{answers-asks, answers-same}
use Rattle.events.specs.declared.event.Reply.TheVariants as reply
use Rattle.art_rows.specs.Coupled as coupled
use Rattle.art_rows.specs.Optimistic as optimistic

pub in-base : {s : Shape} {base : ℕ} {kind : Kind} → IsIn s base kind → Inside s base
in-base {kind = Four} h = omega (arith, h.begins, h.fits)
in-base {kind = Sixteen} h = omega (arith, h.begins, h.fits)
in-base {kind = FortyEight} h = omega (arith, h.begins, h.fits)
in-base {kind = Full} h = omega (arith, h.begins, h.fits)

pub in-info : {s : Shape} {base : ℕ} {kind : Kind} → IsIn s base kind → Inside s (info_at base)
in-info {kind = Four} h = omega (arith, h.begins, h.fits)
in-info {kind = Sixteen} h = omega (arith, h.begins, h.fits)
in-info {kind = FortyEight} h = omega (arith, h.begins, h.fits)
in-info {kind = Full} h = omega (arith, h.begins, h.fits)

pub in-child : {s : Shape} {base : ℕ} {kind : Kind} → IsIn s base kind → (i : ℕ) → i < capacity kind → Inside s (child_at kind base i)
in-child {kind = Four} h i l = omega (arith, h.begins, h.fits, l)
in-child {kind = Sixteen} h i l = omega (arith, h.begins, h.fits, l)
in-child {kind = FortyEight} h i l = omega (arith, h.begins, h.fits, l)
in-child {kind = Full} h i l = omega (arith, h.begins, h.fits, l)

abbrev pub IsRow : Shape → Row → Type 0
IsRow s n = IsIn s n.base n.kind

pub lock-within : (s : Shape) (base : ℕ) → Inside s base → Within s Any (lock s base)
unfolding lock lock_again
lock-within s base h = first_at-within (lock_point s base) (repeat-within s Any
    (λ self. load base >>= λ v. if is_locked v then self else (exchange base v (locked_word v) >>= λ was. if was ==
    v then give v else self))
    (λ self k. bind-within (load-within s base h) λ v _. if-within (is_locked v) (λ _. k)
    (λ _. bind-within (exchange-within s base v (locked_word v) h) λ was _. if-within (was == v) (λ _. give-within s Any v tt) (λ _. k))))

pub wait-within : (s : Shape) (base : ℕ) → Inside s base → Within s Any (wait base)
unfolding wait
wait-within s base h = repeat-within s Any
    (λ self. load base >>= λ v. if is_locked v then self else (if is_obsolete v then start_again else give v))
    (λ self k. bind-within (load-within s base h) λ v _. if-within (is_locked v) (λ _. k)
    (λ _. if-within (is_obsolete v) (λ _. again-within s Any) (λ _. give-within s Any v tt)))

pub unlock-within : (s : Shape) (n : Row) → IsRow s n → Within s Any (unlock n)
unfolding unlock
unlock-within s n h = store_at-within s _ n.base _ (in-base h)

pub unlock_obsolete-within : (s : Shape) (n : Row) → IsRow s n → Within s Any (unlock_obsolete n)
unfolding unlock_obsolete
unlock_obsolete-within s n h = store_at-within s _ n.base _ (in-base h)

pub unlock_all-within : (s : Shape) (rows : List Row) → Each (IsRow s) rows → Within s Any (unlock_all rows)
unfolding unlock_all
unlock_all-within s rows h = each-within s (IsRow s) unlock (unlock-within s) rows h

pub check-within : (s : Shape) (n : Row) → IsRow s n → Within s Any (check n)
unfolding check
check-within s n h = bind-within (load_at-within s _ n.base (in-base h)) λ v _. if-within (v == n.kept) (λ _. give-within s Any tt tt)
    (λ _. again-within s Any)

pub check_of-within : (c : Setting) (n : Row) → IsRow c.shape n → Within c.shape Any (check_of c n)
unfolding check_of
check_of-within c n h = if-within (leaves_out_check c.variant c.call) (λ _. give-within c.shape Any tt tt) (λ _. check-within c.shape n h)

pub take_row-within : (c : Setting) (held : List Row) (n : Row) → Each (IsRow c.shape) held → IsRow c.shape n
    → Within c.shape (IsRow c.shape) (take_row c held n)
unfolding take_row
take_row-within c held n hs h = if-within (takes_unchecked c.variant)
    (λ _. bind-within (lock-within c.shape n.base (in-base h)) λ v _. give-within c.shape (IsRow c.shape) (record n { kept = v }) h)
    (λ _. bind-within (first_at-within (lock_point c.shape n.base) (exchange-within c.shape n.base n.kept (locked_word n.kept)
    (in-base h))) λ was _.
    if-within (was == n.kept) (λ _. give-within c.shape (IsRow c.shape) n h)
    (λ _. then-within (unlock_all-within c.shape held hs) (again-within c.shape (IsRow c.shape))))

pub load_child-within : (c : Setting) (slot : ℕ) → Inside c.shape slot → Within c.shape (IsGood c.shape) (load_child c slot)
unfolding load_child
load_child-within c slot h = bind-within (load-within c.shape slot h) λ w _. give-within c.shape (IsGood c.shape) _
    (child_of-good c.shape w)

-- what FIND says of a row of a kind
abbrev pub IsGoodLacks : Kind → List ℕ → ℕ → Type 0
IsGoodLacks Four keys count = (count ≡ length keys) × (length keys ≤ 4)
IsGoodLacks Sixteen keys count = (count ≡ length keys) × (length keys ≤ 16)
IsGoodLacks FortyEight keys count = count ≤ 48
IsGoodLacks Full keys count = Unit {0}

abbrev pub IsGoodFound : Shape → Kind → Found → Type 0
IsGoodFound s kind (Has slot child) = (Inside s slot) × IsGood s child
IsGoodFound s kind (Lacks keys count) = IsGoodLacks kind keys count

pub find_child-within : (c : Setting) (kind : Kind) (slot : ℕ) → Inside c.shape slot
    → Within c.shape (IsGoodFound c.shape kind) (find_child c slot)
unfolding find_child
find_child-within c kind slot h =
    bind-within (load_at-within c.shape _ slot h) λ w _. give-within c.shape (IsGoodFound c.shape kind) _ (h, child_of-good c.shape w)

count-most : (m w : ℕ) → count_of m w ≤ m
count-most m w = grind arith

find_among-within : (c : Setting) (n : Row) (keys : List ℕ) (o : Option ℕ) → IsRow c.shape n → IsGoodLacks n.kind keys (length keys)
    → ((i : ℕ) → o ≡ Some i → i < capacity n.kind)
    → Within c.shape (IsGoodFound c.shape n.kind) (find_among c n keys o)
unfolding find_among
find_among-within c n keys None h g l = give-within c.shape (IsGoodFound c.shape n.kind) _ g
find_among-within c n keys (Some i) h g l = find_child-within c n.kind _ (in-child h i (l i refl))

row : ℕ → Kind → ℕ → List ℕ → ℕ → Row
row base kind level path kept = record { base = base; kind = kind; level = level; path = path; kept = kept }

find_in-within : (c : Setting) (base : ℕ) (kind : Kind) (level : ℕ) (path : List ℕ) (kept x : ℕ) → x < 256 → IsIn c.shape base kind
    → Within c.shape (IsGoodFound c.shape kind) (find_in kind c (row base kind level path kept) x)
unfolding find_in find_indexed row
find_in-within c base Four level path kept x lx h =
    bind-within (load-within c.shape (keys_at base) (omega (arith, h.begins, h.fits))) λ w _.
    find_among-within c (row base Four level path kept) (keys4_of w) (place_of x (keys4_of w)) h (refl, keys4-few w)
    (λ i e. omega (arith, (place-within x (keys4_of w) i e).0, keys4-few w))
find_in-within c base Sixteen level path kept x lx h =
    bind-within (load-within c.shape (count_at Sixteen base) (omega (arith, h.begins, h.fits))) λ count _.
    bind-within (load-within c.shape (keys_at base) (omega (arith, h.begins, h.fits))) λ a _.
    bind-within (load-within c.shape (more_keys_at base) (omega (arith, h.begins, h.fits))) λ b _.
    find_among-within c (row base Sixteen level path kept) (keys16_of count a b) (place_of x (keys16_of count a b)) h
    (refl, keys16-few count a b)
    (λ i e. omega (arith, (place-within x (keys16_of count a b) i e).0, keys16-few count a b))
find_in-within c base FortyEight level path kept x lx h =
    bind-within (load-within c.shape (index_at base x) (omega (arith, h.begins, h.fits, lx))) λ w _. indexed w
  where
    indexed : (w : ℕ)
        → Within c.shape (IsGoodFound c.shape FortyEight)
        (find_indexed c (row base FortyEight level path kept) (entries_of w) (slice_index (entries_of w) (x % 8)))
    indexed w = if-within (slice_index (entries_of w) (x % 8) == 0)
        (λ _. if-within (is_insert c.call)
        (λ _. bind-within (load-within c.shape (count_at FortyEight base) (omega (arith, h.begins, h.fits))) λ count _. give-within c.shape
        (IsGoodFound c.shape FortyEight) _ (count-most 48 count))
        (λ _. give-within c.shape (IsGoodFound c.shape FortyEight) _ (omega arith)))
        (λ e. find_child-within c FortyEight _
        (in-child h (slice_index (entries_of w) (x % 8) - 1) (less (slice_index (entries_of w) (x % 8)) (entries-most w (x % 8)) e)))
      where
        less : (n : ℕ) → n ≤ 48 → (n == 0) ≡ false → n - 1 < 48
        less n l e = grind arith
find_in-within c base Full level path kept x lx h =
    bind-within (load-within c.shape (child_at Full base x) (omega (arith, h.begins, h.fits, lx))) λ w _. give-within c.shape
    (IsGoodFound c.shape Full) _
    (omega (arith, h.begins, h.fits, lx), child_of-good c.shape w)

pub find-within : (c : Setting) (n : Row) → IsRow c.shape n → Within c.shape (IsGoodFound c.shape n.kind) (find c n)
unfolding find row
find-within c n h = find_in-within c n.base n.kind n.level n.path n.kept (byte_at c n.level) (key_byte-small (key_of c.call) n.level) h

pub claim-within : (c : Setting) (held : List Row) (kind : Kind) → 5 ≤ table_words c.shape → Each (IsRow c.shape) held
    → Within c.shape (λ base. IsIn c.shape base kind) (claim c held kind)
unfolding claim
claim-within c held kind few hs = bind-within (add-within c.shape (claims_of kind) (small kind)) λ number _. if-within
    (nat_lt number (rows_of c.shape kind))
    (λ e. give-within c.shape (λ base. IsIn c.shape base kind) _
    (base_of-fits c.shape kind number (ltb-true number (rows_of c.shape kind) e)))
    (λ _. then-within (unlock_all-within c.shape held hs) (answer-within c.shape (λ base. IsIn c.shape base kind) _ (omega arith)))
  where
    small : (kind : Kind) → Inside c.shape (claims_of kind)
    small Four = omega (arith, few)
    small Sixteen = omega (arith, few)
    small FortyEight = omega (arith, few)
    small Full = omega (arith, few)

-- Updates

pub pair-within : (c : Setting) (held : List Row) (d : ℕ) (a b : Under) → 5 ≤ table_words c.shape → Each (IsRow c.shape) held
    → Within c.shape Any (pair c held d a b)
unfolding pair
pair-within c held d a b few hs = bind-within (claim-within c held Four few hs) λ base h.
    then-within (store-within c.shape (info_at base) _ (omega (arith, h.begins, h.fits)))
    (then-within (store-within c.shape (keys_at base) _ (omega (arith, h.begins, h.fits)))
    (then-within (store-within c.shape (child_at Four base 0) _ (omega (arith, h.begins, h.fits)))
    (then-within (store-within c.shape (child_at Four base 1) _ (omega (arith, h.begins, h.fits)))
    (give-within c.shape Any _ tt))))

pub pair_in-within : (c : Setting) (held : List Row) (slot d : ℕ) (a : Under) → 5 ≤ table_words c.shape → Each (IsRow c.shape) held
    → Inside c.shape slot
    → Within c.shape Any (pair_in c held slot d a)
unfolding pair_in
pair_in-within c held slot d a few hs h = bind-within (pair-within c held d a _ few hs) λ w _. store-within c.shape slot _ h

copy_child-within : (c : Setting) (from to : ℕ) → Inside c.shape from → Inside c.shape to → Within c.shape Any (copy_child c from to)
unfolding copy_child
copy_child-within c from to f t = bind-within (load_child-within c from f) λ child _. store-within c.shape to _ t

make_room-within : (c : Setting) (n : Row) (i count : ℕ) → IsRow c.shape n → i ≤ count → count < capacity n.kind
    → Within c.shape Any (make_room c n i count)
unfolding make_room
make_room-within c n i count h le lt = each-within c.shape (λ j. j < i + (count - i)) _
    (λ j l. copy_child-within c _ _ (in-child h j (omega (arith, l, le, lt))) (in-child h (j + 1) (omega (arith, l, le, lt))))
    (numbers_down i (count - i))
    (numbers_down-each i (count - i))

pub not_full : (a b : ℕ) → (a == b) ≡ false → a ≤ b → a < b
not_full a b e l = grind arith

put_in-within : (c : Setting) (base : ℕ) (kind : Kind) (level : ℕ) (path : List ℕ) (kept x : ℕ) (keys : List ℕ) (count : ℕ) → x < 256
    → IsIn c.shape base kind
    → IsGoodLacks kind keys count → (count == capacity kind) ≡ false
    → Within c.shape Any (put_in kind c (row base kind level path kept) x keys count)
unfolding put_in row
put_in-within c base Four level path kept x keys count lx h g f =
    let p : new_place x keys ≤ length keys = new_place-most x keys in
    let q : count < 4 = not_full count 4 f (omega (arith, g.0, g.1)) in
    let l : new_place x keys ≤ count = omega (arith, g.0) in
    then-within (make_room-within c (row base Four level path kept) (new_place x keys) count h l q)
    (then-within (store-within c.shape _ _ (in-child h (new_place x keys) (omega arith)))
    (store-within c.shape (keys_at base) _ (omega (arith, h.begins, h.fits))))
put_in-within c base Sixteen level path kept x keys count lx h g f =
    let p : new_place x keys ≤ length keys = new_place-most x keys in
    let q : count < 16 = not_full count 16 f (omega (arith, g.0, g.1)) in
    let l : new_place x keys ≤ count = omega (arith, g.0) in
    then-within (make_room-within c (row base Sixteen level path kept) (new_place x keys) count h l q)
    (then-within (store-within c.shape _ _ (in-child h (new_place x keys) (omega arith)))
    (then-within (store-within c.shape (keys_at base) _ (omega (arith, h.begins, h.fits)))
    (then-within (store-within c.shape (more_keys_at base) _ (omega (arith, h.begins, h.fits)))
    (store-within c.shape (count_at Sixteen base) _ (omega (arith, h.begins, h.fits))))))
put_in-within c base FortyEight level path kept x keys count lx h g f =
    let q : count < 48 = not_full count 48 f g in
    then-within (store-within c.shape _ _ (in-child h count q))
    (then-within (store-within c.shape (index_at base x) _ (omega (arith, h.begins, h.fits, lx)))
    (store-within c.shape (count_at FortyEight base) _ (omega (arith, h.begins, h.fits))))
put_in-within c base Full level path kept x keys count lx h g f = give-within c.shape Any tt tt

pub put-within : (c : Setting) (n : Row) (keys : List ℕ) (count : ℕ) → IsRow c.shape n → IsGoodLacks n.kind keys count
    → is_full n count ≡ false
    → Within c.shape Any (put c n keys count)
unfolding put row
put-within c n keys count h g f = put_in-within c n.base n.kind n.level n.path n.kept (byte_at c n.level) keys count
    (key_byte-small (key_of c.call) n.level) h g f

index-in : {s : Shape} {base : ℕ} → IsIn s base FortyEight → (j : ℕ) → j < 32 → Inside s (index_at base (8 * j))
index-in h j l = omega (arith, h.begins, h.fits, l)

spread_entry-within : (c : Setting) (n : Row) (base j : ℕ) (es : List ℕ) (i : ℕ) → IsIn c.shape n.base FortyEight
    → IsIn c.shape base Full → j < 32
    → ((k : ℕ) → slice_index es k ≤ 48) → i < 8 → Within c.shape Any (spread_entry c n base j es i)
unfolding spread_entry
spread_entry-within c n base j es i h hb lj les li = if-within (slice_index es i == 0) (λ _. give-within c.shape Any tt tt)
    (λ e. copy_child-within c _ _ (in-child h (slice_index es i - 1) (less (slice_index es i) (les i) e))
    (in-child hb (8 * j + i) (omega arith)))
  where
    less : (n : ℕ) → n ≤ 48 → (n == 0) ≡ false → n - 1 < 48
    less n l e = grind arith

spread_index-within : (c : Setting) (n : Row) (base j : ℕ) → IsIn c.shape n.base FortyEight → IsIn c.shape base Full → j < 32
    → Within c.shape Any (spread_index c n base j)
unfolding spread_index
spread_index-within c n base j h hb lj = bind-within (load-within c.shape (index_at n.base (8 * j)) (index-in h j lj)) λ w _.
    each-within c.shape (λ i. i < 8) (spread_entry c n base j (entries_of w))
    (λ i li. spread_entry-within c n base j (entries_of w) i h hb lj (entries-most w) li) (numbers 0 8) (numbers-each 0 8)

store_index-within : (c : Setting) (base : ℕ) (keys : List ℕ) (j : ℕ) → IsIn c.shape base FortyEight → j < 32
    → Within c.shape Any (store_index base keys j)
unfolding store_index
store_index-within c base keys j h l = store-within c.shape (index_at base (8 * j)) _ (index-in h j l)

fill-within : (c : Setting) (old : ℕ) (kind : Kind) (level : ℕ) (path : List ℕ) (kept base x : ℕ) (keys : List ℕ) (count : ℕ) → x < 256
    → IsIn c.shape old kind
    → IsIn c.shape base (next_kind kind) → IsGoodLacks kind keys count
    → Within c.shape Any (fill kind c (row old kind level path kept) base x keys count)
unfolding fill row
fill-within c old Four level path kept base x keys count lx h hb g =
    let p : new_place x keys ≤ length keys = new_place-most x keys in
    let m : count ≤ 4 = omega (arith, g.0, g.1) in
    let m' : new_place x keys ≤ 4 = omega (arith, g.1) in
    then-within
    (each-within c.shape (λ i. i < 0 + count) _
    (λ i li. copy_child-within c _ _ (in-child h i (omega arith))
    (in-child hb _ (shifted i (new_place x keys) (omega arith)))) (numbers 0 count)
    (numbers-each 0 count))
    (then-within (store-within c.shape _ _ (in-child hb (new_place x keys) (omega arith)))
    (then-within (store-within c.shape (keys_at base) _ (omega (arith, hb.begins, hb.fits)))
    (then-within (store-within c.shape (more_keys_at base) _ (omega (arith, hb.begins, hb.fits)))
    (store-within c.shape (count_at Sixteen base) _ (omega (arith, hb.begins, hb.fits))))))
  where
    shifted : (i q : ℕ) → i < 4 → (if nat_lt i q then i else i + 1) < 16
    shifted i q l = go (nat_lt i q)
      where
        go : (b : Bool) → (if b then i else i + 1) < 16
        go true = omega arith
        go false = omega arith
fill-within c old Sixteen level path kept base x keys count lx h hb g =
    let m : count ≤ 16 = omega (arith, g.0, g.1) in
    then-within
    (each-within c.shape (λ i. i < 0 + count) _ (λ i li. copy_child-within c _ _ (in-child h i (omega arith)) (in-child hb i (omega arith)))
    (numbers 0 count) (numbers-each 0 count))
    (then-within (store-within c.shape _ _ (in-child hb 16 (omega arith)))
    (then-within
    (each-within c.shape (λ j. j < 32) (store_index base (keys ++ x ∷ []))
    (λ j lj. store_index-within c base (keys ++ x ∷ []) j hb lj) (numbers 0 32)
    (numbers-each 0 32))
    (store-within c.shape (count_at FortyEight base) _ (omega (arith, hb.begins, hb.fits)))))
fill-within c old FortyEight level path kept base x keys count lx h hb g =
    then-within
    (each-within c.shape (λ j. j < 32) (spread_index c (row old FortyEight level path kept) base)
    (λ j lj. spread_index-within c (row old FortyEight level path kept) base j h hb lj) (numbers 0 32) (numbers-each 0 32))
    (store-within c.shape _ _ (in-child hb x lx))
fill-within c old Full level path kept base x keys count lx h hb g = give-within c.shape Any tt tt

pub grow-within : (c : Setting) (above : List Row) (slot : ℕ) (n : Row) (keys : List ℕ) (count : ℕ) → 5 ≤ table_words c.shape
    → Each (IsRow c.shape) above
    → Inside c.shape slot → IsRow c.shape n → IsGoodLacks n.kind keys count
    → Within c.shape Any (grow c above slot n keys count)
unfolding grow row
grow-within c above slot n keys count few hs hl h g = bind-within (claim-within c (n ∷ above) (next_kind n.kind) few (h, hs)) λ base hb.
    then-within (store-within c.shape (info_at base) _ (in-info hb))
    (then-within (fill-within c n.base n.kind n.level n.path n.kept base (byte_at c n.level) keys count
    (key_byte-small (key_of c.call) n.level) h hb g)
    (then-within (store-within c.shape slot _ hl)
    (then-within (unlock_obsolete-within c.shape n h) (unlock_all-within c.shape above hs))))

pub insert_in-within : (c : Setting) (held : List Row) (slot : ℕ) (child : Child) → 5 ≤ table_words c.shape → Each (IsRow c.shape) held
    → Inside c.shape slot
    → Within c.shape IsSmall (insert_in c held slot child)
unfolding insert_in
insert_in-within c held slot Empty few hs h = then-within (store-within c.shape slot _ h) (give-within c.shape IsSmall _ (omega arith))
insert_in-within c held slot (Leaf key value) few hs h = if-within (key == key_of c.call)
    (λ _. then-within (store-within c.shape slot _ h) (give-within c.shape IsSmall _ (omega arith)))
    (λ _. then-within (pair_in-within c held slot _ _ few hs h) (give-within c.shape IsSmall _ (omega arith)))
insert_in-within c held slot (ChildRow base kind) few hs h = give-within c.shape IsSmall _ (omega arith)

pub insert_beside-within : (c : Setting) (held : List Row) (slot : ℕ) (m : Row) (d : ℕ) → 5 ≤ table_words c.shape
    → Each (IsRow c.shape) held
    → Inside c.shape slot → Within c.shape IsSmall (insert_beside c held slot m d)
unfolding insert_beside
insert_beside-within c held slot m d few hs h =
    then-within (pair_in-within c held slot d _ few hs h) (give-within c.shape IsSmall _ (omega arith))

-- Lock coupling

overwrite-within : (s : Shape) (slot : ℕ) (word : Option ℕ) → Inside s slot → Within s Any (coupled.overwrite slot word)
overwrite-within s slot None h = give-within s Any tt tt
overwrite-within s slot (Some word) h = store-within s slot word h

lock_row : (c : Setting) (base : ℕ) (kind : Kind) → IsIn c.shape base kind → Within c.shape Any (lock c.shape base)
lock_row c base kind h = lock-within c.shape base (in-base h)

info-within : (c : Setting) (base : ℕ) (kind : Kind) (v : ℕ) → IsIn c.shape base kind
    → Within c.shape (IsRow c.shape) (load (info_at base) >>= λ info. give (row_of base kind info v))
info-within c base kind v h =
    bind-within (load-within c.shape (info_at base) (in-info h)) λ info _. give-within c.shape (IsRow c.shape) (row_of base kind info v) h

step_down-within : (c : Setting) (n : Row) (base : ℕ) (kind : Kind) → IsRow c.shape n → IsIn c.shape base kind
    → Within c.shape (IsRow c.shape) (coupled.step_down c n base kind)
unfolding coupled.step_down
step_down-within c n base kind hn h = if-within (releases_early c.variant)
    (λ _. then-within (unlock-within c.shape n hn) (bind-within (lock_row c base kind h) λ v _. info-within c base kind v h))
    (λ _. bind-within (lock_row c base kind h) λ v _. then-within (unlock-within c.shape n hn) (info-within c base kind v h))

seek_at-within : (c : Setting) (go : Row → Part Reply) → ((m : Row) → IsRow c.shape m → Within c.shape IsSmall (go m))
    → (n : Row) (found : Found)
    → IsRow c.shape n → IsGoodFound c.shape n.kind found
    → Within c.shape IsSmall (coupled.seek_at c go n found)
unfolding coupled.seek_at
seek_at-within c go k n (Lacks keys count) h g = then-within (unlock-within c.shape n h) (give-within c.shape IsSmall _ (omega arith))
seek_at-within c go k n (Has slot Empty) h g = then-within (unlock-within c.shape n h) (give-within c.shape IsSmall _ (omega arith))
seek_at-within c go k n (Has slot (Leaf key value)) h g = if-within (key == key_of c.call)
    (λ _. then-within (overwrite-within c.shape slot (overwriting c.call value) g.0)
    (then-within (unlock-within c.shape n h) (give-within c.shape IsSmall _ (omega arith))))
    (λ _. then-within (unlock-within c.shape n h) (give-within c.shape IsSmall _ (omega arith)))
seek_at-within c go k n (Has slot (ChildRow base kind)) h g =
    bind-within (step_down-within c n base kind h g.1) λ m hm. below m (path_differs_at c m) hm
  where
    below : (m : Row) (o : Option ℕ) → IsRow c.shape m → Within c.shape IsSmall (coupled.seek_below c go m o)
    below m None hm = k m hm
    below m (Some d) hm = then-within (unlock-within c.shape m hm) (give-within c.shape IsSmall _ (omega arith))

root_in : (c : Setting) → 1 ≤ c.shape.rows256 → IsIn c.shape (root_base c.shape) Full
root_in c r = base_of-fits c.shape Full 0 r

few_in : (c : Setting) → 1 ≤ c.shape.rows256 → 5 ≤ table_words c.shape
few_in c r = omega (arith, r)

seek-within : (c : Setting) → 1 ≤ c.shape.rows256 → Within c.shape IsSmall (coupled.seek c)
unfolding coupled.seek coupled.seek_from
seek-within c r = bind-within (lock_row c (root_base c.shape) Full (root_in c r)) λ v _.
    recursive-within c.shape IsSmall (IsRow c.shape) (λ go n. find c n >>= λ found. coupled.seek_at c go n found)
    (λ go k n h. bind-within (find-within c n h) λ found g. seek_at-within c go k n found h g) (root_row c v) (root_in c r)

pub record IsPlace (s : Shape) (p : Place) : Type 0 where
  pub row : IsRow s p.row
  pub above : Each (IsRow s) p.above
  pub slot : Inside s p.slot

insert_at-within : (c : Setting) (go : Place → Part Reply) → 5 ≤ table_words c.shape
    → ((p : Place) → IsPlace c.shape p → Within c.shape IsSmall (go p))
    → (p : Place) (found : Found) → IsPlace c.shape p → IsGoodFound c.shape p.row.kind found
    → Within c.shape IsSmall (coupled.insert_at c go p found)
unfolding coupled.insert_at
insert_at-within c go few k p (Lacks keys count) h g = if-within (is_full p.row count)
    (λ _. then-within (grow-within c p.above p.slot p.row keys count few h.above h.slot h.row g)
    (give-within c.shape IsSmall _ (omega arith)))
    (λ f. then-within (unlock_all-within c.shape p.above h.above)
    (then-within (put-within c p.row keys count h.row g f)
    (then-within (unlock-within c.shape p.row h.row) (give-within c.shape IsSmall _ (omega arith)))))
insert_at-within c go few k p (Has slot Empty) h g = then-within (unlock_all-within c.shape p.above h.above)
    (bind-within (insert_in-within c (p.row ∷ []) slot Empty few (h.row, tt) g.0) λ r hr. then-within (unlock-within c.shape p.row h.row)
    (give-within c.shape IsSmall r hr))
insert_at-within c go few k p (Has slot (Leaf key value)) h g = then-within (unlock_all-within c.shape p.above h.above)
    (bind-within (insert_in-within c (p.row ∷ []) slot (Leaf key value) few (h.row, tt) g.0) λ r hr. then-within
    (unlock-within c.shape p.row h.row)
    (give-within c.shape IsSmall r hr))
insert_at-within c go few k p (Has slot (ChildRow base kind)) h g = then-within (unlock_all-within c.shape p.above h.above)
    (bind-within (lock_row c base kind g.1) λ v _. bind-within (load-within c.shape (info_at base) (in-info g.1)) λ info _. below
    (row_of base kind info v)
    (path_differs_at c (row_of base kind info v)) g.1)
  where
    below : (m : Row) (o : Option ℕ) → IsRow c.shape m → Within c.shape IsSmall (coupled.insert_below c go p.row slot m o)
    below m None hm = k _ (record { row = hm; above = (h.row, tt); slot = g.0 })
    below m (Some d) hm = bind-within (insert_beside-within c (m ∷ p.row ∷ []) slot m d few (hm, (h.row, tt)) g.0) λ r hr.
        then-within (unlock-within c.shape m hm) (then-within (unlock-within c.shape p.row h.row) (give-within c.shape IsSmall r hr))

root_place : (c : Setting) (v : ℕ) → 1 ≤ c.shape.rows256
    → IsPlace c.shape (record { row = root_row c v; above = []; slot = root_base c.shape })
root_place c v r = record { row = root_in c r; above = tt; slot = in-base (root_in c r) }

insert-within : (c : Setting) → 1 ≤ c.shape.rows256 → Within c.shape IsSmall (coupled.insert c)
unfolding coupled.insert coupled.insert_from
insert-within c r = bind-within (lock_row c (root_base c.shape) Full (root_in c r)) λ v _.
    recursive-within c.shape IsSmall (IsPlace c.shape) (λ go p. find c p.row >>= λ found. coupled.insert_at c go p found)
    (λ go k p h. bind-within (find-within c p.row h.row) λ found g. insert_at-within c go (few_in c r) k p found h g)
    (record { row = root_row c v; above = []; slot = root_base c.shape }) (root_place c v r)

-- Optimistic lock coupling

wait_row : (c : Setting) (base : ℕ) (kind : Kind) → IsIn c.shape base kind → Within c.shape Any (wait base)
wait_row c base kind h = wait-within c.shape base (in-base h)

overwrite_optimistic-within : (c : Setting) (n : Row) (slot : ℕ) (word : Option ℕ) → IsRow c.shape n → Inside c.shape slot
    → Within c.shape Any (optimistic.overwrite c n slot word)
overwrite_optimistic-within c n slot None hn h = give-within c.shape Any tt tt
overwrite_optimistic-within c n slot (Some word) hn h =
    bind-within (take_row-within c [] n tt hn) λ held hh. then-within (store-within c.shape slot word h) (unlock-within c.shape held hh)

step_down_optimistic-within : (c : Setting) (n : Row) (base : ℕ) (kind : Kind) → IsRow c.shape n → IsIn c.shape base kind
    → Within c.shape (λ m. IsRow c.shape m) (optimistic.step_down c n base kind)
unfolding optimistic.step_down
step_down_optimistic-within c n base kind hn h =
    bind-within (wait_row c base kind h) λ v _. then-within (check_of-within c n hn) (info-within c base kind v h)

seek_at_optimistic-within : (c : Setting) (go : Row → Part Reply) → ((m : Row) → IsRow c.shape m → Within c.shape IsSmall (go m))
    → (n : Row) (found : Found)
    → IsRow c.shape n → IsGoodFound c.shape n.kind found
    → Within c.shape IsSmall (optimistic.seek_at c go n found)
unfolding optimistic.seek_at
seek_at_optimistic-within c go k n (Lacks keys count) h g = give-within c.shape IsSmall _ (omega arith)
seek_at_optimistic-within c go k n (Has slot Empty) h g = give-within c.shape IsSmall _ (omega arith)
seek_at_optimistic-within c go k n (Has slot (Leaf key value)) h g = if-within (key == key_of c.call)
    (λ _. then-within (overwrite_optimistic-within c n slot (overwriting c.call value) h g.0) (give-within c.shape IsSmall _ (omega arith)))
    (λ _. give-within c.shape IsSmall _ (omega arith))
seek_at_optimistic-within c go k n (Has slot (ChildRow base kind)) h g =
    bind-within (step_down_optimistic-within c n base kind h g.1) λ m hm. below m (path_differs_at c m) hm
  where
    below : (m : Row) (o : Option ℕ) → IsRow c.shape m → Within c.shape IsSmall (optimistic.seek_below c go m o)
    below m None hm = k m hm
    below m (Some d) hm = then-within (check_of-within c m hm) (give-within c.shape IsSmall _ (omega arith))

seek_optimistic-within : (c : Setting) → 1 ≤ c.shape.rows256 → Within c.shape IsSmall (optimistic.seek c)
unfolding optimistic.seek optimistic.seek_from
seek_optimistic-within c r = bind-within (wait_row c (root_base c.shape) Full (root_in c r)) λ v _.
    recursive-within c.shape IsSmall (IsRow c.shape) (λ go n. find c n >>= λ found. check_of c n >> optimistic.seek_at c go n found)
    (λ go k n h. bind-within (find-within c n h) λ found g. then-within (check_of-within c n h)
    (seek_at_optimistic-within c go k n found h g)) (root_row c v)
    (root_in c r)

insert_leaf-within : (c : Setting) (n : Row) (slot : ℕ) (child : Child) → 5 ≤ table_words c.shape → IsRow c.shape n → Inside c.shape slot
    → Within c.shape IsSmall (optimistic.insert_leaf c n slot child)
unfolding optimistic.insert_leaf
insert_leaf-within c n slot child few h hl = bind-within (take_row-within c [] n tt h) λ held hh.
    bind-within (insert_in-within c (held ∷ []) slot child few (hh, tt) hl) λ r hr. then-within (unlock-within c.shape held hh)
    (give-within c.shape IsSmall r hr)

-- rows that are taken keep their place and kind
take_row-same : (c : Setting) (held : List Row) (n : Row) → Each (IsRow c.shape) held → IsRow c.shape n
    → Within c.shape (λ h. IsRow c.shape h × (h.kind ≡ n.kind)) (take_row c held n)
unfolding take_row
take_row-same c held n hs h = if-within (takes_unchecked c.variant)
    (λ _. bind-within (lock-within c.shape n.base (in-base h)) λ v _. give-within c.shape _ (record n { kept = v }) (h, refl))
    (λ _. bind-within (first_at-within (lock_point c.shape n.base) (exchange-within c.shape n.base n.kept (locked_word n.kept)
    (in-base h))) λ was _.
    if-within (was == n.kept) (λ _. give-within c.shape _ n (h, refl))
    (λ _. then-within (unlock_all-within c.shape held hs) (again-within c.shape _)))

insert_at_optimistic-within : (c : Setting) (go : Place → Part Reply) → 5 ≤ table_words c.shape
    → ((p : Place) → IsPlace c.shape p → Within c.shape IsSmall (go p)) → (p : Place) (found : Found) → IsPlace c.shape p
    → IsGoodFound c.shape p.row.kind found
    → Within c.shape IsSmall (optimistic.insert_at c go p found)
unfolding optimistic.insert_at
insert_at_optimistic-within c go few k p (Lacks keys count) h g = if-within (is_full p.row count)
    (λ _. bind-within
    (over-within c.shape (IsRow c.shape) (Each (IsRow c.shape)) _
    (λ q held hq hs. bind-within (take_row-within c held q hs hq) λ t ht. give-within c.shape (Each (IsRow c.shape)) _
    (ht, hs)) p.above h.above [] tt) λ above ha.
    bind-within (take_row-same c above p.row ha h.row) λ held hh.
    then-within (grow-within c above p.slot held keys count few ha h.slot hh.0 (subst (λ k. IsGoodLacks k keys count) (sym hh.1) g))
    (give-within c.shape IsSmall _ (omega arith)))
    (λ f. bind-within (take_row-same c [] p.row tt h.row) λ held hh.
    then-within
    (put-within c held keys count hh.0 (subst (λ k. IsGoodLacks k keys count) (sym hh.1) g)
    (subst (λ k. (count == capacity k) ≡ false) (sym hh.1) f))
    (then-within (unlock-within c.shape held hh.0) (give-within c.shape IsSmall _ (omega arith))))
insert_at_optimistic-within c go few k p (Has slot Empty) h g = insert_leaf-within c p.row slot Empty few h.row g.0
insert_at_optimistic-within c go few k p (Has slot (Leaf key value)) h g = if-within (key == key_of c.call)
    (λ _. insert_leaf-within c p.row slot (Leaf key value) few h.row g.0)
    (λ _. if-within (nat_le (keys_differ_at key (key_of c.call)) p.row.level) (λ _. again-within c.shape IsSmall)
    (λ _. insert_leaf-within c p.row slot (Leaf key value) few h.row g.0))
insert_at_optimistic-within c go few k p (Has slot (ChildRow base kind)) h g =
    bind-within (step_down_optimistic-within c p.row base kind h.row g.1) λ m hm. below m (path_differs_at c m) hm
  where
    below : (m : Row) (o : Option ℕ) → IsRow c.shape m → Within c.shape IsSmall (optimistic.insert_below c go p.row slot m o)
    below m None hm = k _ (record { row = hm; above = (h.row, tt); slot = g.0 })
    below m (Some d) hm =
        if-within (nat_le d p.row.level) (λ _. again-within c.shape IsSmall)
        (λ _. bind-within (take_row-within c [] p.row tt h.row) λ held hh.
        bind-within (insert_beside-within c (held ∷ []) slot m d few (hh, tt) g.0) λ r hr. then-within (unlock-within c.shape held hh)
        (give-within c.shape IsSmall r hr))

insert_optimistic-within : (c : Setting) → 1 ≤ c.shape.rows256 → Within c.shape IsSmall (optimistic.insert c)
unfolding optimistic.insert optimistic.insert_from
insert_optimistic-within c r = bind-within (wait_row c (root_base c.shape) Full (root_in c r)) λ v _.
    recursive-within c.shape IsSmall (IsPlace c.shape)
    (λ go p. find c p.row >>= λ found. check_of c p.row >> optimistic.insert_at c go p found)
    (λ go k p h. bind-within (find-within c p.row h.row) λ found g. then-within (check_of-within c p.row h.row)
    (insert_at_optimistic-within c go (few_in c r) k p found h g))
    (record { row = root_row c v; above = []; slot = root_base c.shape }) (root_place c v r)

-- Scans

filter-each : {A : Type 0} (P : A → Type 0) (p : A → Bool) (xs : List A) → Each P xs → Each P (filter p xs)
filter-each P p [] h = tt
filter-each P p (x ∷ xs) h = go (p x) (filter-each P p xs h.1)
  where
    go : (b : Bool) → Each P (filter p xs) → Each P (if b then x ∷ filter p xs else filter p xs)
    go true k = (h.0, k)
    go false k = k

pub each-append : {A : Type 0} (P : A → Type 0) (xs : List A) (y : A) → Each P xs → P y → Each P (xs ++ y ∷ [])
each-append P [] y h k = (k, tt)
each-append P (x ∷ xs) y h k = (h.0, each-append P xs y h.1 k)

pub record IsWalk (s : Shape) (w : Walked) : Type 0 where
  pub rows : Each (IsRow s) w.rows
  pub few : length w.pairs ≤ pair_limit

with_row-each : (s : Shape) (n : Row) (w : Walked) → IsWalk s w → IsRow s n → IsWalk s (with_row n w)
with_row-each s n w h k = go (has_row n.base w.rows)
  where
    go : (b : Bool) → IsWalk s (if b then w else record { rows = w.rows ++ n ∷ []; pairs = w.pairs })
    go true = h
    go false = record { rows = each-append (IsRow s) w.rows n h.rows k; few = h.few }

with_leaf-rows : (s : Shape) (lo hi key value : ℕ) (w : Walked) → IsWalk s w → IsWalk s (with_leaf lo hi key value w)
with_leaf-rows s lo hi key value w h = go (nat_le lo key && nat_le key hi && nat_lt (length w.pairs) pair_limit) refl
  where
    last : (a b c : Bool) → (a && b && c) ≡ true → c ≡ true
    last true true c e = e
    last true false c e = absurd (false≢true e)
    last false b c e = absurd (false≢true e)

    go : (b : Bool) → (nat_le lo key && nat_le key hi && nat_lt (length w.pairs) pair_limit) ≡ b
        → IsWalk s (if b then record { rows = w.rows; pairs = w.pairs ++ (key, value) ∷ [] } else w)
    go true e =
        let room : length w.pairs < pair_limit =
        ltb-true (length w.pairs) pair_limit (last (nat_le lo key) (nat_le key hi) (nat_lt (length w.pairs) pair_limit) e) in
        record { rows = h.rows; few = omega (arith, length-append w.pairs ((key, value) ∷ []), room) }
    go false e = h

enter-within : (c : Setting) (base : ℕ) (kind : Kind) → IsIn c.shape base kind → Within c.shape Any (enter c base)
enter-within c base kind h = if-within (locks c.variant) (λ _. lock_row c base kind h) (λ _. wait_row c base kind h)

module _ (c : Setting) (lo hi : ℕ) (walk : Row → Walked → Part Walked)
    (k : (m : Row) (w : Walked) → IsRow c.shape m → IsWalk c.shape w → Within c.shape (IsWalk c.shape) (walk m w)) where
  walk_child-within : (child : Child) (w : Walked) → IsGood c.shape child → IsWalk c.shape w
      → Within c.shape (IsWalk c.shape) (walk_child c lo hi walk child w)
  unfolding walk_child
  walk_child-within Empty w g h = give-within c.shape (IsWalk c.shape) w h
  walk_child-within (Leaf key value) w g h = give-within c.shape (IsWalk c.shape) _ (with_leaf-rows c.shape lo hi key value w h)
  walk_child-within (ChildRow base kind) w g h =
      bind-within (enter-within c base kind g) λ v _. bind-within (load-within c.shape (info_at base) (in-info g)) λ info _.
      k (row_of base kind info v) (with_row (row_of base kind info v) w) g (with_row-each c.shape (row_of base kind info v) w h g)

  walk_slot-within : (slot : ℕ) (w : Walked) → Inside c.shape slot → IsWalk c.shape w
      → Within c.shape (IsWalk c.shape) (walk_slot c lo hi walk slot w)
  unfolding walk_slot
  walk_slot-within slot w l h = bind-within (load_child-within c slot l) λ child g. walk_child-within child w g h

  walk_place-within : (n : Row) (o : Option ℕ) (w : Walked) → IsRow c.shape n → ((i : ℕ) → o ≡ Some i → i < capacity n.kind)
      → IsWalk c.shape w
      → Within c.shape (IsWalk c.shape) (walk_place c lo hi walk n o w)
  unfolding walk_place
  walk_place-within n None w hn l h = give-within c.shape (IsWalk c.shape) w h
  walk_place-within n (Some i) w hn l h = walk_slot-within _ w (in-child hn i (l i refl)) h

  walk_keys-within : (n : Row) (keys xs : List ℕ) (w : Walked) → IsRow c.shape n → length keys ≤ capacity n.kind → IsWalk c.shape w
      → Within c.shape (IsWalk c.shape) (walk_keys c lo hi walk n keys xs w)
  unfolding walk_keys
  walk_keys-within n keys xs w hn l h = over-within c.shape Any (IsWalk c.shape) _
      (λ x v _ hv. walk_place-within n (place_of x keys) v hn (λ i e. omega (arith, (place-within x keys i e).0, l)) hv)
      xs (anything xs) w h
    where
      anything : (xs : List ℕ) → Each Any xs
      anything [] = tt
      anything (x ∷ xs) = (tt, anything xs)

  walk_entry-within : (n : Row) (base e : ℕ) (w : Walked) → n.base ≡ base → IsIn c.shape base FortyEight → e ≤ 48 → IsWalk c.shape w
      → Within c.shape (IsWalk c.shape) (walk_entry c lo hi walk n e w)
  unfolding walk_entry
  walk_entry-within n base e w eb hn l h = if-within (e == 0) (λ _. give-within c.shape (IsWalk c.shape) w h)
      (λ f. walk_slot-within _ w (subst (λ b. Inside c.shape (child_at FortyEight b (e - 1))) (sym eb)
      (in-child hn (e - 1) (less e l f))) h)
    where
      less : (n : ℕ) → n ≤ 48 → (n == 0) ≡ false → n - 1 < 48
      less n l e = grind arith

  walk_index-within : (n : Row) (base j : ℕ) (xs : List ℕ) (w : Walked) → n.base ≡ base → IsIn c.shape base FortyEight → j < 32
      → IsWalk c.shape w
      → Within c.shape (IsWalk c.shape) (walk_index c lo hi walk n j xs w)
  unfolding walk_index
  walk_index-within n base j [] w eb hn l h = give-within c.shape (IsWalk c.shape) w h
  walk_index-within n base j (x ∷ xs) w eb hn l h =
      bind-within (load-within c.shape (index_at n.base (8 * j))
      (subst (λ b. Inside c.shape (index_at b (8 * j))) (sym eb) (index-in hn j l))) λ es _.
      over-within c.shape Any (IsWalk c.shape) _
      (λ y v _ hv. walk_entry-within n base (slice_index (entries_of es) (y % 8)) v eb hn (entries-most es (y % 8)) hv) (x ∷ xs)
      (anything (x ∷ xs)) w h
    where
      anything : (xs : List ℕ) → Each Any xs
      anything [] = tt
      anything (x ∷ xs) = (tt, anything xs)

  walk_in-within : (base : ℕ) (kind : Kind) (level : ℕ) (path : List ℕ) (kept : ℕ) (xs : List ℕ) (w : Walked) → IsIn c.shape base kind
      → Each (λ x. x < 256) xs
      → IsWalk c.shape w
      → Within c.shape (IsWalk c.shape) (walk_in c lo hi walk kind (row base kind level path kept) xs w)
  unfolding walk_in row
  walk_in-within base Four level path kept xs w hn b h =
      bind-within (load-within c.shape (keys_at base) (omega (arith, hn.begins, hn.fits))) λ keys _.
      walk_keys-within (row base Four level path kept) (keys4_of keys) xs w hn (keys4-few keys) h
  walk_in-within base Sixteen level path kept xs w hn b h =
      bind-within (load-within c.shape (count_at Sixteen base) (omega (arith, hn.begins, hn.fits))) λ count _.
      bind-within (load-within c.shape (keys_at base) (omega (arith, hn.begins, hn.fits))) λ first _. bind-within
      (load-within c.shape (more_keys_at base) (omega (arith, hn.begins, hn.fits))) λ second _.
      walk_keys-within (row base Sixteen level path kept) (keys16_of count first second) xs w hn (keys16-few count first second) h
  walk_in-within base FortyEight level path kept xs w hn b h = over-within c.shape (λ j. j < 32) (IsWalk c.shape)
      (λ j. walk_index c lo hi walk (row base FortyEight level path kept) j (filter (λ x. x / 8 == j) xs))
      (λ j v lj hv. walk_index-within (row base FortyEight level path kept) base j (filter (λ x. x / 8 == j) xs) v refl hn lj
      hv) (numbers 0 32)
      (numbers-each 0 32) w h
  walk_in-within base Full level path kept xs w hn b h = over-within c.shape (λ x. x < 256) (IsWalk c.shape) _
      (λ x v lx hv. walk_slot-within (child_at Full base x) v (in-child hn x lx) hv) xs b w h

  walk_bytes-within : (n : Row) (xs : List ℕ) (w : Walked) → IsRow c.shape n → Each (λ x. x < 256) xs → IsWalk c.shape w
      → Within c.shape (IsWalk c.shape) (walk_bytes c lo hi walk n xs w)
  unfolding walk_bytes row
  walk_bytes-within n [] w hn b h = give-within c.shape (IsWalk c.shape) w h
  walk_bytes-within n (x ∷ xs) w hn b h = walk_in-within n.base n.kind n.level n.path n.kept (x ∷ xs) w hn b h

pub record IsAt (s : Shape) (at : At) : Type 0 where
  pub row : IsRow s at.row
  pub walked : IsWalk s at.walked

bytes : List ℕ
bytes = numbers 0 256

bytes-each : Each (λ x. x < 256) bytes
unfolding bytes
bytes-each = numbers-each 0 256

walk_from-within : (c : Setting) (lo hi : ℕ) (at : At) → IsAt c.shape at → Within c.shape (IsWalk c.shape) (walk_from c lo hi at)
unfolding walk_from bytes
walk_from-within c lo hi at h = recursive-within c.shape (IsWalk c.shape) (IsAt c.shape)
    (λ walk at. walk_bytes c lo hi (λ m w. walk (record { row = m; walked = w })) at.row (bytes_of lo hi at.row) at.walked)
    (λ walk k a ha. walk_bytes-within c lo hi (λ m w. walk (record { row = m; walked = w }))
    (λ m w hm hw. k _ (record { row = hm; walked = hw })) a.row
    (bytes_of lo hi a.row) a.walked ha.row
    (filter-each (λ x. x < 256) (can_lie lo hi a.row) bytes bytes-each) ha.walked) at h

pub scan-within : (c : Setting) (lo hi : ℕ) → 1 ≤ c.shape.rows256 → Within c.shape (λ pairs. length pairs ≤ pair_limit) (scan c lo hi)
unfolding scan
scan-within c lo hi r = bind-within (enter-within c (root_base c.shape) Full (root_in c r)) λ v _.
    bind-within (walk_from-within c lo hi _ (record {
      row = root_in c r;
      walked = record {
        rows = (root_in c r, tt);
        few = omega
            arith;
      };
    })) λ w hw.
    then-within
    (if-within (locks c.variant) (λ _. unlock_all-within c.shape w.rows hw.rows)
    (λ _. each-within c.shape (IsRow c.shape) (check_of c) (check_of-within c) w.rows hw.rows))
    (give-within c.shape (λ pairs. length pairs ≤ pair_limit) w.pairs hw.few)

-- Calls

procedure-within : (c : Setting) (call : Call) → 1 ≤ c.shape.rows256 → Within c.shape IsSmall (procedure c call)
unfolding procedure
procedure-within c (Get k) r = if-within (locks c.variant) (λ _. seek-within c r) (λ _. seek_optimistic-within c r)
procedure-within c (Remove k) r = if-within (locks c.variant) (λ _. seek-within c r) (λ _. seek_optimistic-within c r)
procedure-within c (Replace k old new) r = if-within (locks c.variant) (λ _. seek-within c r) (λ _. seek_optimistic-within c r)
procedure-within c (Insert k v) r = if-within (locks c.variant) (λ _. insert-within c r) (λ _. insert_optimistic-within c r)
procedure-within c (Scan lo hi) r = bind-within (scan-within c lo hi r) λ pairs few. give-within c.shape IsSmall _ few

from_start-stays : (s : Shape) (m : Part Reply) → Within s IsSmall m → Stays s (from_start m)
from_start-stays s m h = (repeat-within s IsSmall (λ self again after. m (self again after) after)
    (λ self k. record { rest = λ again after sa sb. h.rest (self again after) after (k.rest again after sa sb) sb })).rest
    (λ got. Answers reply.None) (λ r got. Answers r) (ended reply.None (omega arith)) (λ r small. ended r small)
  where
    ended : (r : Reply) → IsSmall r → Stays s (λ got. Answers r)
    ended r small = record { at = λ got a p e. absurd (answers-asks e); says = λ got q e. subst IsSmall (answers-same e) small }

-- Every access of every call is in the table, whatever words were got.
pub act-stays : (shape : Shape) (variant : Variant) (call : Call) → 1 ≤ shape.rows256 → StaysInTable shape (act shape variant call)
unfolding act
act-stays shape variant call r =
    let c : Setting = record { shape = shape; variant = variant; call = call } in
    λ got a p e. parts (word_of a) (table_words shape)
    ((from_start-stays shape (procedure c call) (procedure-within c call r)).at got a p e)
  where
    parts : (word words : ℕ) → 0 < min word (words - word) → (0 < word) × (word < words)
    parts word words h = (omega (arith, h), omega (arith, h))

-- Every reply is within the limit of pairs.
pub act-small : (shape : Shape) (variant : Variant) (call : Call) → 1 ≤ shape.rows256 → AnswersFewPairs (act shape variant call)
unfolding act
act-small shape variant call r =
    let c : Setting = record { shape = shape; variant = variant; call = call } in
    (from_start-stays shape (procedure c call) (procedure-within c call r)).says
