-- Each procedure keeps and delays, and so each recursive one is its own body.
use Rattle.art_rows.proofs.Common.{◌≡◌, ℕ, suc, ◌-◌, ◌*◌, ◌/◌, ◌%◌, List, [], ◌∷◌, ◌++◌, refl, if◌then◌else◌, ◌==◌, nat_lt, nat_le, Option, Some}
use Rattle.art_rows.proofs.Common.{None, filter, Call, Get, Insert, Remove, Scan, Replace, Reply, Shape, Kind, Four, Sixteen, FortyEight, Full}
use Rattle.art_rows.proofs.Common.{rows_of, index_at, child_at, Child, Empty, Leaf, is_locked, is_obsolete, locked_word, place_of, entries_of}
use Rattle.art_rows.proofs.Common.{child_of, Variant, procedure, act, Answers, from_start, Rest, Part, ◌>>=◌, ◌>>◌, give, start_again, answer, load}
use Rattle.art_rows.proofs.Common.{store, exchange, numbers, numbers_down, Setting, Row, Place, is_insert, locks, key_of, leaves_out_check}
use Rattle.art_rows.proofs.Common.{takes_unchecked, releases_early, lock_point, lock_again, lock, unlock, unlock_obsolete, unlock_all, wait, check}
use Rattle.art_rows.proofs.Common.{check_of, take_row, Found, Has, Lacks, load_child, find_child, find_among, find_indexed, find_in, find, is_full}
use Rattle.art_rows.proofs.Common.{claim, row_of, path_differs_at, overwriting, Under, pair, pair_in, copy_child, make_room, put_in, put, store_index}
use Rattle.art_rows.proofs.Common.{spread_entry, spread_index, fill, grow, insert_in, insert_beside, keys_differ_at, Walked, enter, walk_child}
use Rattle.art_rows.proofs.Common.{walk_slot, walk_place, walk_keys, walk_entry, walk_index, walk_in, walk_bytes, At, walk_from, bytes_of, scan}
use Rattle.std.specs.Prelude.{slice_index}
use Rattle.art_rows.specs.declared.table.Child.TheVariants.{Row as ChildRow}
use Rattle.art_rows.proofs.RecursionLemmas.{Keeps, Delays, Delays-keeps, Delays-more, recursive-body, recursive-keeps, more_guarded, recursive-delays}
use Rattle.art_rows.proofs.RecursionLemmas.{give-keeps, again-keeps, bind-keeps, bind-delays, then-keeps, if-keeps, if-delays, load-delays}
use Rattle.art_rows.proofs.RecursionLemmas.{load_at-delays, exchange-delays, add-delays, store-delays, store_at-delays, first_at-delays, each-keeps}
use Rattle.art_rows.proofs.RecursionLemmas.{over-keeps, repeat-delays, repeat-body}
use Rattle.events.specs.declared.event.Reply.TheVariants as reply
use Rattle.art_rows.specs.Coupled as coupled
use Rattle.art_rows.specs.Optimistic as optimistic

pub answer-keeps : {A : Type 0} (n : ℕ) (r : Reply) → Keeps {A = A} n (answer r) (answer r)
answer-keeps n r = record { rest = λ again again' after after' sa sb. record { at = λ got h. refl } }

load-keeps : (n word : ℕ) → Keeps n (load word) (load word)
load-keeps n word = Delays-keeps (load-delays n word)

store-keeps : (n word value : ℕ) → Keeps n (store word value) (store word value)
store-keeps n word value = Delays-keeps (store-delays n word value)

-- Rows

-- what LOCK does once
unfoldable pub lock_turn : ℕ → Part ℕ → Part ℕ
lock_turn base self = do
  v ← load base
  if is_locked v then self else do
    was ← exchange base v (locked_word v)
    if was == v then give v else self

lock_turn-delays : (base n : ℕ) (m m' : Part ℕ) → Keeps n m m' → Delays n (lock_turn base m) (lock_turn base m')
unfolding lock_turn
lock_turn-delays base n m m' k =
    bind-delays (load-delays n base) λ v. if-keeps (is_locked v) k
    (bind-keeps (Delays-keeps (exchange-delays n base v (locked_word v))) λ was. if-keeps (was == v) (give-keeps n v) k)

pub lock_again-delays : (n base : ℕ) → Delays n (lock_again base) (lock_again base)
unfolding lock_again lock_turn
lock_again-delays n base = repeat-delays (lock_turn base) (lock_turn-delays base) n

-- The law of LOCK after its first access.
pub lock_again-body : (base : ℕ) (again : Rest) (after : ℕ → Rest) (got : List ℕ)
    → lock_again base again after got ≡ lock_turn base (lock_again base) again after got
unfolding lock_again lock_turn
lock_again-body base = repeat-body (lock_turn base) (lock_turn-delays base)

pub lock-delays : (n : ℕ) (s : Shape) (base : ℕ) → Delays n (lock s base) (lock s base)
unfolding lock
lock-delays n s base = first_at-delays (lock_point s base) n (lock_again-delays n base)

-- what WAIT does once
unfoldable pub wait_turn : ℕ → Part ℕ → Part ℕ
wait_turn base self = do
  v ← load base
  if is_locked v then self else (if is_obsolete v then start_again else give v)

wait_turn-delays : (base n : ℕ) (m m' : Part ℕ) → Keeps n m m' → Delays n (wait_turn base m) (wait_turn base m')
unfolding wait_turn
wait_turn-delays base n m m' k =
    bind-delays (load-delays n base) λ v. if-keeps (is_locked v) k (if-keeps (is_obsolete v) (again-keeps n) (give-keeps n v))

pub wait-delays : (n base : ℕ) → Delays n (wait base) (wait base)
unfolding wait wait_turn
wait-delays n base = repeat-delays (wait_turn base) (wait_turn-delays base) n

-- The law of WAIT.
pub wait-body : (base : ℕ) (again : Rest) (after : ℕ → Rest) (got : List ℕ)
    → wait base again after got ≡ wait_turn base (wait base) again after got
unfolding wait wait_turn
wait-body base = repeat-body (wait_turn base) (wait_turn-delays base)

pub unlock-keeps : (n : ℕ) (r : Row) → Keeps n (unlock r) (unlock r)
unfolding unlock
unlock-keeps n r = Delays-keeps (store_at-delays _ n _ _)

pub unlock_obsolete-keeps : (n : ℕ) (r : Row) → Keeps n (unlock_obsolete r) (unlock_obsolete r)
unfolding unlock_obsolete
unlock_obsolete-keeps n r = Delays-keeps (store_at-delays _ n _ _)

pub unlock_all-keeps : (n : ℕ) (rs : List Row) → Keeps n (unlock_all rs) (unlock_all rs)
unfolding unlock_all
unlock_all-keeps n rs = each-keeps n unlock (unlock-keeps n) rs

pub check-keeps : (n : ℕ) (r : Row) → Keeps n (check r) (check r)
unfolding check
check-keeps n r = Delays-keeps (bind-delays (load_at-delays _ n _) λ v. if-keeps (v == r.kept) (give-keeps n tt) (again-keeps n))

pub check_of-keeps : (n : ℕ) (c : Setting) (r : Row) → Keeps n (check_of c r) (check_of c r)
unfolding check_of
check_of-keeps n c r = if-keeps (leaves_out_check c.variant c.call) (give-keeps n tt) (check-keeps n r)

pub take_row-keeps : (n : ℕ) (c : Setting) (held : List Row) (r : Row) → Keeps n (take_row c held r) (take_row c held r)
unfolding take_row
take_row-keeps n c held r = if-keeps (takes_unchecked c.variant)
    (bind-keeps (Delays-keeps (lock-delays n c.shape r.base)) λ v. give-keeps n _)
    (bind-keeps (Delays-keeps (first_at-delays _ n (exchange-delays n _ _ _))) λ was. if-keeps (was == r.kept) (give-keeps n r)
    (then-keeps (unlock_all-keeps n held) (again-keeps n)))

pub load_child-keeps : (n : ℕ) (c : Setting) (slot : ℕ) → Keeps n (load_child c slot) (load_child c slot)
unfolding load_child
load_child-keeps n c slot = bind-keeps (load-keeps n slot) λ w. give-keeps n _

pub find_child-keeps : (n : ℕ) (c : Setting) (slot : ℕ) → Keeps n (find_child c slot) (find_child c slot)
unfolding find_child
find_child-keeps n c slot = Delays-keeps (bind-delays (load_at-delays _ n slot) λ w. give-keeps n _)

pub find_among-keeps : (n : ℕ) (c : Setting) (r : Row) (keys : List ℕ) (o : Option ℕ)
    → Keeps n (find_among c r keys o) (find_among c r keys o)
unfolding find_among
find_among-keeps n c r keys None = give-keeps n _
find_among-keeps n c r keys (Some i) = find_child-keeps n c _

pub find_indexed-keeps : (n : ℕ) (c : Setting) (r : Row) (es : List ℕ) (e : ℕ) → Keeps n (find_indexed c r es e) (find_indexed c r es e)
unfolding find_indexed
find_indexed-keeps n c r es e = if-keeps (e == 0)
    (if-keeps (is_insert c.call) (bind-keeps (load-keeps n _) λ w. give-keeps n _) (give-keeps n _))
    (find_child-keeps n c _)

pub find_in-delays : (n : ℕ) (k : Kind) (c : Setting) (r : Row) (x : ℕ) → Delays n (find_in k c r x) (find_in k c r x)
unfolding find_in
find_in-delays n Four c r x = bind-delays (load-delays n _) λ w. find_among-keeps n c r _ _
find_in-delays n Sixteen c r x = bind-delays (load-delays n _) λ a. bind-keeps (load-keeps n _) λ b. bind-keeps (load-keeps n _) λ d.
    find_among-keeps n c r _ _
find_in-delays n FortyEight c r x = bind-delays (load-delays n _) λ w. find_indexed-keeps n c r _ _
find_in-delays n Full c r x = bind-delays (load-delays n _) λ w. give-keeps n _

pub find-delays : (n : ℕ) (c : Setting) (r : Row) → Delays n (find c r) (find c r)
unfolding find
find-delays n c r = find_in-delays n r.kind c r _

pub claim-keeps : (n : ℕ) (c : Setting) (held : List Row) (k : Kind) → Keeps n (claim c held k) (claim c held k)
unfolding claim
claim-keeps n c held k = bind-keeps (Delays-keeps (add-delays n _)) λ a. if-keeps (nat_lt a (rows_of c.shape k)) (give-keeps n _)
    (then-keeps (unlock_all-keeps n held) (answer-keeps n _))

-- Updates

pub pair-keeps : (n : ℕ) (c : Setting) (held : List Row) (d : ℕ) (a b : Under) → Keeps n (pair c held d a b) (pair c held d a b)
unfolding pair
pair-keeps n c held d a b = bind-keeps (claim-keeps n c held Four) λ base. then-keeps (store-keeps n _ _) (then-keeps (store-keeps n _ _)
    (then-keeps (store-keeps n _ _) (then-keeps (store-keeps n _ _) (give-keeps n _))))

pub pair_in-keeps : (n : ℕ) (c : Setting) (held : List Row) (slot d : ℕ) (a : Under)
    → Keeps n (pair_in c held slot d a) (pair_in c held slot d a)
unfolding pair_in
pair_in-keeps n c held slot d a = bind-keeps (pair-keeps n c held d a _) λ w. store-keeps n _ _

pub copy_child-keeps : (n : ℕ) (c : Setting) (from to : ℕ) → Keeps n (copy_child c from to) (copy_child c from to)
unfolding copy_child
copy_child-keeps n c from to = bind-keeps (load_child-keeps n c from) λ child. store-keeps n _ _

pub make_room-keeps : (n : ℕ) (c : Setting) (r : Row) (i count : ℕ) → Keeps n (make_room c r i count) (make_room c r i count)
unfolding make_room
make_room-keeps n c r i count = each-keeps n _ (λ j. copy_child-keeps n c _ _) (numbers_down i (count - i))

pub put_in-keeps : (n : ℕ) (k : Kind) (c : Setting) (r : Row) (x : ℕ) (keys : List ℕ) (count : ℕ)
    → Keeps n (put_in k c r x keys count) (put_in k c r x keys count)
unfolding put_in
put_in-keeps n Four c r x keys count = then-keeps (make_room-keeps n c r _ _) (then-keeps (store-keeps n _ _) (store-keeps n _ _))
put_in-keeps n Sixteen c r x keys count =
    then-keeps (make_room-keeps n c r _ _)
    (then-keeps (store-keeps n _ _) (then-keeps (store-keeps n _ _) (then-keeps (store-keeps n _ _) (store-keeps n _ _))))
put_in-keeps n FortyEight c r x keys count = then-keeps (store-keeps n _ _) (then-keeps (store-keeps n _ _) (store-keeps n _ _))
put_in-keeps n Full c r x keys count = give-keeps n tt

pub put-keeps : (n : ℕ) (c : Setting) (r : Row) (keys : List ℕ) (count : ℕ) → Keeps n (put c r keys count) (put c r keys count)
unfolding put
put-keeps n c r keys count = put_in-keeps n r.kind c r _ keys count

pub store_index-keeps : (n base : ℕ) (keys : List ℕ) (j : ℕ) → Keeps n (store_index base keys j) (store_index base keys j)
unfolding store_index
store_index-keeps n base keys j = store-keeps n _ _

pub spread_entry-keeps : (n : ℕ) (c : Setting) (r : Row) (base j : ℕ) (es : List ℕ) (i : ℕ)
    → Keeps n (spread_entry c r base j es i) (spread_entry c r base j es i)
unfolding spread_entry
spread_entry-keeps n c r base j es i = if-keeps (slice_index es i == 0) (give-keeps n tt) (copy_child-keeps n c _ _)

pub spread_index-keeps : (n : ℕ) (c : Setting) (r : Row) (base j : ℕ) → Keeps n (spread_index c r base j) (spread_index c r base j)
unfolding spread_index
spread_index-keeps n c r base j = bind-keeps (load-keeps n (index_at r.base (8 * j))) λ w.
    each-keeps n (spread_entry c r base j (entries_of w)) (spread_entry-keeps n c r base j (entries_of w)) (numbers 0 8)

pub fill-keeps : (n : ℕ) (k : Kind) (c : Setting) (r : Row) (base x : ℕ) (keys : List ℕ) (count : ℕ)
    → Keeps n (fill k c r base x keys count) (fill k c r base x keys count)
unfolding fill
fill-keeps n Four c r base x keys count =
    then-keeps (each-keeps n _ (λ i. copy_child-keeps n c _ _) (numbers 0 count))
    (then-keeps (store-keeps n _ _) (then-keeps (store-keeps n _ _) (then-keeps (store-keeps n _ _) (store-keeps n _ _))))
fill-keeps n Sixteen c r base x keys count =
    then-keeps (each-keeps n _ (λ i. copy_child-keeps n c _ _) (numbers 0 count))
    (then-keeps (store-keeps n _ _)
    (then-keeps (each-keeps n (store_index base (keys ++ x ∷ [])) (store_index-keeps n base (keys ++ x ∷ [])) (numbers 0 32))
    (store-keeps n _ _)))
fill-keeps n FortyEight c r base x keys count =
    then-keeps (each-keeps n (spread_index c r base) (spread_index-keeps n c r base) (numbers 0 32)) (store-keeps n _ _)
fill-keeps n Full c r base x keys count = give-keeps n tt

pub grow-keeps : (n : ℕ) (c : Setting) (above : List Row) (slot : ℕ) (r : Row) (keys : List ℕ) (count : ℕ)
    → Keeps n (grow c above slot r keys count) (grow c above slot r keys count)
unfolding grow
grow-keeps n c above slot r keys count = bind-keeps (claim-keeps n c _ _) λ base. then-keeps (store-keeps n _ _)
    (then-keeps (fill-keeps n r.kind c r base _ keys count)
    (then-keeps (store-keeps n _ _) (then-keeps (unlock_obsolete-keeps n r) (unlock_all-keeps n above))))

pub insert_in-keeps : (n : ℕ) (c : Setting) (held : List Row) (slot : ℕ) (child : Child)
    → Keeps n (insert_in c held slot child) (insert_in c held slot child)
unfolding insert_in
insert_in-keeps n c held slot Empty = then-keeps (store-keeps n _ _) (give-keeps n _)
insert_in-keeps n c held slot (Leaf key value) = if-keeps (key == key_of c.call) (then-keeps (store-keeps n _ _) (give-keeps n _))
    (then-keeps (pair_in-keeps n c held slot _ _) (give-keeps n _))
insert_in-keeps n c held slot (ChildRow base kind) = give-keeps n _

pub insert_beside-keeps : (n : ℕ) (c : Setting) (held : List Row) (slot : ℕ) (m : Row) (d : ℕ)
    → Keeps n (insert_beside c held slot m d) (insert_beside c held slot m d)
unfolding insert_beside
insert_beside-keeps n c held slot m d = then-keeps (pair_in-keeps n c held slot d _) (give-keeps n _)

-- Lock coupling

overwrite-keeps : (n slot : ℕ) (word : Option ℕ) → Keeps n (coupled.overwrite slot word) (coupled.overwrite slot word)
overwrite-keeps n slot None = give-keeps n tt
overwrite-keeps n slot (Some word) = store-keeps n _ _

lock-keeps : (n : ℕ) (s : Shape) (base : ℕ) → Keeps n (lock s base) (lock s base)
lock-keeps n s base = Delays-keeps (lock-delays n s base)

step_down-keeps : (n : ℕ) (c : Setting) (r : Row) (base : ℕ) (kind : Kind)
    → Keeps n (coupled.step_down c r base kind) (coupled.step_down c r base kind)
unfolding coupled.step_down
step_down-keeps n c r base kind = if-keeps (releases_early c.variant)
    (then-keeps (unlock-keeps n r) (bind-keeps (lock-keeps n c.shape base) λ v. bind-keeps (load-keeps n _) λ info. give-keeps n _))
    (bind-keeps (lock-keeps n c.shape base) λ v. then-keeps (unlock-keeps n r) (bind-keeps (load-keeps n _) λ info. give-keeps n _))

seek_below-keeps : (n : ℕ) (c : Setting) (go go' : Row → Part Reply) → ((r : Row) → Keeps n (go r) (go' r)) → (m : Row) (o : Option ℕ)
    → Keeps n (coupled.seek_below c go m o) (coupled.seek_below c go' m o)
seek_below-keeps n c go go' k m None = k m
seek_below-keeps n c go go' k m (Some d) = then-keeps (unlock-keeps n m) (give-keeps n _)

seek_at-keeps : (n : ℕ) (c : Setting) (go go' : Row → Part Reply) → ((r : Row) → Keeps n (go r) (go' r)) → (r : Row) (found : Found)
    → Keeps n (coupled.seek_at c go r found) (coupled.seek_at c go' r found)
unfolding coupled.seek_at
seek_at-keeps n c go go' k r (Lacks keys count) = then-keeps (unlock-keeps n r) (give-keeps n _)
seek_at-keeps n c go go' k r (Has slot Empty) = then-keeps (unlock-keeps n r) (give-keeps n _)
seek_at-keeps n c go go' k r (Has slot (Leaf key value)) = if-keeps (key == key_of c.call)
    (then-keeps (overwrite-keeps n slot (overwriting c.call value)) (then-keeps (unlock-keeps n r) (give-keeps n _)))
    (then-keeps (unlock-keeps n r) (give-keeps n _))
seek_at-keeps n c go go' k r (Has slot (ChildRow base kind)) =
    bind-keeps (step_down-keeps n c r base kind) λ m. seek_below-keeps n c go go' k m (path_differs_at c m)

seek_turn : Setting → (Row → Part Reply) → Row → Part Reply
seek_turn c go r = find c r >>= coupled.seek_at c go r

seek_turn-delays : (c : Setting) (n : ℕ) (go go' : Row → Part Reply) → ((r : Row) → Keeps n (go r) (go' r)) → (r : Row)
    → Delays n (seek_turn c go r) (seek_turn c go' r)
unfolding seek_turn
seek_turn-delays c n go go' k r = bind-delays (find-delays n c r) λ found. seek_at-keeps n c go go' k r found

-- The law of a get or a remove from a held row on.
pub seek_from-body : (c : Setting) (r : Row) (again : Rest) (after : Reply → Rest) (got : List ℕ)
    → coupled.seek_from c r again after got ≡ (find c r >>= coupled.seek_at c (coupled.seek_from c) r) again after got
unfolding coupled.seek_from seek_turn
seek_from-body c = recursive-body (seek_turn c) (more_guarded (seek_turn c) (seek_turn-delays c))

seek_from-delays : (n : ℕ) (c : Setting) (r : Row) → Delays n (coupled.seek_from c r) (coupled.seek_from c r)
unfolding coupled.seek_from seek_turn
seek_from-delays n c r = recursive-delays (seek_turn c) (seek_turn-delays c) n r

pub seek-delays : (n : ℕ) (c : Setting) → Delays n (coupled.seek c) (coupled.seek c)
unfolding coupled.seek
seek-delays n c = bind-delays (lock-delays n _ _) λ v. Delays-keeps (seek_from-delays n c _)

insert_below-keeps : (n : ℕ) (c : Setting) (go go' : Place → Part Reply) → ((p : Place) → Keeps n (go p) (go' p))
    → (r : Row) (slot : ℕ) (m : Row) (o : Option ℕ)
    → Keeps n (coupled.insert_below c go r slot m o) (coupled.insert_below c go' r slot m o)
insert_below-keeps n c go go' k r slot m None = k _
insert_below-keeps n c go go' k r slot m (Some d) =
    bind-keeps (insert_beside-keeps n c _ slot m d) λ reply. then-keeps (unlock-keeps n m) (then-keeps (unlock-keeps n r) (give-keeps n _))

insert_at-keeps : (n : ℕ) (c : Setting) (go go' : Place → Part Reply) → ((p : Place) → Keeps n (go p) (go' p)) → (p : Place) (found : Found)
    → Keeps n (coupled.insert_at c go p found) (coupled.insert_at c go' p found)
unfolding coupled.insert_at
insert_at-keeps n c go go' k p (Lacks keys count) = if-keeps (is_full p.row count)
    (then-keeps (grow-keeps n c p.above p.slot p.row keys count) (give-keeps n _))
    (then-keeps (unlock_all-keeps n p.above) (then-keeps (put-keeps n c p.row keys count) (then-keeps (unlock-keeps n p.row)
    (give-keeps n _))))
insert_at-keeps n c go go' k p (Has slot Empty) =
    then-keeps (unlock_all-keeps n p.above) (bind-keeps (insert_in-keeps n c _ slot Empty) λ r. then-keeps
    (unlock-keeps n p.row) (give-keeps n _))
insert_at-keeps n c go go' k p (Has slot (Leaf key value)) =
    then-keeps (unlock_all-keeps n p.above) (bind-keeps (insert_in-keeps n c _ slot (Leaf key value)) λ r. then-keeps
    (unlock-keeps n p.row) (give-keeps n _))
insert_at-keeps n c go go' k p (Has slot (ChildRow base kind)) =
    then-keeps (unlock_all-keeps n p.above) (bind-keeps (lock-keeps n c.shape base) λ v. bind-keeps (load-keeps n _) λ info.
    insert_below-keeps n c go go' k p.row slot (row_of base kind info v) (path_differs_at c (row_of base kind info v)))

insert_turn : Setting → (Place → Part Reply) → Place → Part Reply
insert_turn c go p = find c p.row >>= coupled.insert_at c go p

insert_turn-delays : (c : Setting) (n : ℕ) (go go' : Place → Part Reply) → ((p : Place) → Keeps n (go p) (go' p)) → (p : Place)
    → Delays n (insert_turn c go p) (insert_turn c go' p)
unfolding insert_turn
insert_turn-delays c n go go' k p = bind-delays (find-delays n c p.row) λ found. insert_at-keeps n c go go' k p found

-- The law of an insert from a held row on.
pub insert_from-body : (c : Setting) (p : Place) (again : Rest) (after : Reply → Rest) (got : List ℕ)
    → coupled.insert_from c p again after got ≡ (find c p.row >>= coupled.insert_at c (coupled.insert_from c) p) again after got
unfolding coupled.insert_from insert_turn
insert_from-body c = recursive-body (insert_turn c) (more_guarded (insert_turn c) (insert_turn-delays c))

insert_from-delays : (n : ℕ) (c : Setting) (p : Place) → Delays n (coupled.insert_from c p) (coupled.insert_from c p)
unfolding coupled.insert_from insert_turn
insert_from-delays n c p = recursive-delays (insert_turn c) (insert_turn-delays c) n p

pub insert-delays : (n : ℕ) (c : Setting) → Delays n (coupled.insert c) (coupled.insert c)
unfolding coupled.insert
insert-delays n c = bind-delays (lock-delays n _ _) λ v. Delays-keeps (insert_from-delays n c _)

-- Optimistic lock coupling

wait-keeps : (n base : ℕ) → Keeps n (wait base) (wait base)
wait-keeps n base = Delays-keeps (wait-delays n base)

overwrite_optimistic-keeps : (n : ℕ) (c : Setting) (r : Row) (slot : ℕ) (word : Option ℕ)
    → Keeps n (optimistic.overwrite c r slot word) (optimistic.overwrite c r slot word)
overwrite_optimistic-keeps n c r slot None = give-keeps n tt
overwrite_optimistic-keeps n c r slot (Some word) =
    bind-keeps (take_row-keeps n c [] r) λ held. then-keeps (store-keeps n _ _) (unlock-keeps n held)

seek_below_optimistic-keeps : (n : ℕ) (c : Setting) (go go' : Row → Part Reply) → ((r : Row) → Keeps n (go r) (go' r))
    → (m : Row) (o : Option ℕ)
    → Keeps n (optimistic.seek_below c go m o) (optimistic.seek_below c go' m o)
seek_below_optimistic-keeps n c go go' k m None = k m
seek_below_optimistic-keeps n c go go' k m (Some d) = then-keeps (check_of-keeps n c m) (give-keeps n _)

step_down_optimistic-keeps : (n : ℕ) (c : Setting) (r : Row) (base : ℕ) (kind : Kind)
    → Keeps n (optimistic.step_down c r base kind) (optimistic.step_down c r base kind)
unfolding optimistic.step_down
step_down_optimistic-keeps n c r base kind =
    bind-keeps (wait-keeps n base) λ v. then-keeps (check_of-keeps n c r) (bind-keeps (load-keeps n _) λ info. give-keeps n _)

seek_at_optimistic-keeps : (n : ℕ) (c : Setting) (go go' : Row → Part Reply) → ((r : Row) → Keeps n (go r) (go' r))
    → (r : Row) (found : Found)
    → Keeps n (optimistic.seek_at c go r found) (optimistic.seek_at c go' r found)
unfolding optimistic.seek_at
seek_at_optimistic-keeps n c go go' k r (Lacks keys count) = give-keeps n _
seek_at_optimistic-keeps n c go go' k r (Has slot Empty) = give-keeps n _
seek_at_optimistic-keeps n c go go' k r (Has slot (Leaf key value)) = if-keeps (key == key_of c.call)
    (then-keeps (overwrite_optimistic-keeps n c r slot (overwriting c.call value)) (give-keeps n _)) (give-keeps n _)
seek_at_optimistic-keeps n c go go' k r (Has slot (ChildRow base kind)) =
    bind-keeps (step_down_optimistic-keeps n c r base kind) λ m. seek_below_optimistic-keeps n c go go' k m (path_differs_at c m)

seek_turn_optimistic : Setting → (Row → Part Reply) → Row → Part Reply
seek_turn_optimistic c go r = do
  found ← find c r
  check_of c r
  optimistic.seek_at c go r found

seek_turn_optimistic-delays : (c : Setting) (n : ℕ) (go go' : Row → Part Reply) → ((r : Row) → Keeps n (go r) (go' r)) → (r : Row)
    → Delays n (seek_turn_optimistic c go r) (seek_turn_optimistic c go' r)
unfolding seek_turn_optimistic
seek_turn_optimistic-delays c n go go' k r =
    bind-delays (find-delays n c r) λ found. then-keeps (check_of-keeps n c r) (seek_at_optimistic-keeps n c go go' k r found)

-- The law of a get or a remove from a row on.
pub seek_from_optimistic-body : (c : Setting) (r : Row) (again : Rest) (after : Reply → Rest) (got : List ℕ)
    → optimistic.seek_from c r again after got
    ≡ (find c r >>= λ found. check_of c r >> optimistic.seek_at c (optimistic.seek_from c) r found) again after got
unfolding optimistic.seek_from seek_turn_optimistic
seek_from_optimistic-body c = recursive-body (seek_turn_optimistic c) (more_guarded (seek_turn_optimistic c)
    (seek_turn_optimistic-delays c))

seek_optimistic-delays : (n : ℕ) (c : Setting) → Delays n (optimistic.seek c) (optimistic.seek c)
unfolding optimistic.seek optimistic.seek_from seek_turn_optimistic
seek_optimistic-delays n c = bind-delays (wait-delays n _) λ v. Delays-keeps (recursive-delays (seek_turn_optimistic c)
    (seek_turn_optimistic-delays c) n _)

insert_below_optimistic-keeps : (n : ℕ) (c : Setting) (go go' : Place → Part Reply) → ((p : Place) → Keeps n (go p) (go' p))
    → (r : Row) (slot : ℕ) (m : Row) (o : Option ℕ)
    → Keeps n (optimistic.insert_below c go r slot m o) (optimistic.insert_below c go' r slot m o)
insert_below_optimistic-keeps n c go go' k r slot m None = k _
insert_below_optimistic-keeps n c go go' k r slot m (Some d) = if-keeps (nat_le d r.level) (again-keeps n)
    (bind-keeps (take_row-keeps n c [] r) λ held. bind-keeps (insert_beside-keeps n c _ slot m d) λ reply. then-keeps
    (unlock-keeps n held) (give-keeps n _))

insert_leaf-keeps : (n : ℕ) (c : Setting) (r : Row) (slot : ℕ) (child : Child)
    → Keeps n (optimistic.insert_leaf c r slot child) (optimistic.insert_leaf c r slot child)
unfolding optimistic.insert_leaf
insert_leaf-keeps n c r slot child =
    bind-keeps (take_row-keeps n c [] r) λ held. bind-keeps (insert_in-keeps n c _ slot child) λ reply. then-keeps
    (unlock-keeps n held) (give-keeps n _)

insert_at_optimistic-keeps : (n : ℕ) (c : Setting) (go go' : Place → Part Reply) → ((p : Place) → Keeps n (go p) (go' p))
    → (p : Place) (found : Found)
    → Keeps n (optimistic.insert_at c go p found) (optimistic.insert_at c go' p found)
unfolding optimistic.insert_at
insert_at_optimistic-keeps n c go go' k p (Lacks keys count) = if-keeps (is_full p.row count)
    (bind-keeps (over-keeps n _ _ (λ q held. bind-keeps (take_row-keeps n c held q) λ h. give-keeps n _) p.above []) λ above.
    bind-keeps (take_row-keeps n c above p.row) λ held. then-keeps (grow-keeps n c above p.slot held keys count) (give-keeps n _))
    (bind-keeps (take_row-keeps n c [] p.row) λ held. then-keeps (put-keeps n c held keys count)
    (then-keeps (unlock-keeps n held) (give-keeps n _)))
insert_at_optimistic-keeps n c go go' k p (Has slot Empty) = insert_leaf-keeps n c p.row slot Empty
insert_at_optimistic-keeps n c go go' k p (Has slot (Leaf key value)) = if-keeps (key == key_of c.call)
    (insert_leaf-keeps n c p.row slot _)
    (if-keeps (nat_le (keys_differ_at key (key_of c.call)) p.row.level) (again-keeps n) (insert_leaf-keeps n c p.row slot _))
insert_at_optimistic-keeps n c go go' k p (Has slot (ChildRow base kind)) =
    bind-keeps (step_down_optimistic-keeps n c p.row base kind) λ m. insert_below_optimistic-keeps n c go go' k p.row slot m
    (path_differs_at c m)

insert_turn_optimistic : Setting → (Place → Part Reply) → Place → Part Reply
insert_turn_optimistic c go p = do
  found ← find c p.row
  check_of c p.row
  optimistic.insert_at c go p found

insert_turn_optimistic-delays : (c : Setting) (n : ℕ) (go go' : Place → Part Reply) → ((p : Place) → Keeps n (go p) (go' p)) → (p : Place)
    → Delays n (insert_turn_optimistic c go p) (insert_turn_optimistic c go' p)
unfolding insert_turn_optimistic
insert_turn_optimistic-delays c n go go' k p =
    bind-delays (find-delays n c p.row) λ found. then-keeps (check_of-keeps n c p.row) (insert_at_optimistic-keeps n c go go' k p found)

-- The law of an insert from a row on.
pub insert_from_optimistic-body : (c : Setting) (p : Place) (again : Rest) (after : Reply → Rest) (got : List ℕ)
    → optimistic.insert_from c p again after got
    ≡ (find c p.row >>= λ found. check_of c p.row >> optimistic.insert_at c (optimistic.insert_from c) p found) again after got
unfolding optimistic.insert_from insert_turn_optimistic
insert_from_optimistic-body c = recursive-body (insert_turn_optimistic c) (more_guarded (insert_turn_optimistic c)
    (insert_turn_optimistic-delays c))

insert_optimistic-delays : (n : ℕ) (c : Setting) → Delays n (optimistic.insert c) (optimistic.insert c)
unfolding optimistic.insert optimistic.insert_from insert_turn_optimistic
insert_optimistic-delays n c =
    bind-delays (wait-delays n _) λ v. Delays-keeps (recursive-delays (insert_turn_optimistic c) (insert_turn_optimistic-delays c) n _)

-- Scans

enter-delays : (n : ℕ) (c : Setting) (base : ℕ) → Delays n (enter c base) (enter c base)
enter-delays n c base = if-delays (locks c.variant) (lock-delays n c.shape base) (wait-delays n base)

module _ (n : ℕ) (c : Setting) (lo hi : ℕ) (walk walk' : Row → Walked → Part Walked)
    (k : (r : Row) (w : Walked) → Keeps n (walk r w) (walk' r w)) where
  walk_child-keeps : (child : Child) (w : Walked) → Keeps n (walk_child c lo hi walk child w) (walk_child c lo hi walk' child w)
  unfolding walk_child
  walk_child-keeps Empty w = give-keeps n w
  walk_child-keeps (Leaf key value) w = give-keeps n _
  walk_child-keeps (ChildRow base kind) w = bind-keeps (Delays-keeps (enter-delays n c base)) λ v. bind-keeps (load-keeps n _) λ info. k _ _

  walk_slot-delays : (slot : ℕ) (w : Walked) → Delays n (walk_slot c lo hi walk slot w) (walk_slot c lo hi walk' slot w)
  unfolding walk_slot load_child
  walk_slot-delays slot w = bind-delays (load-delays n slot) λ word. walk_child-keeps (child_of c.shape word) w

  walk_place-keeps : (r : Row) (o : Option ℕ) (w : Walked) → Keeps n (walk_place c lo hi walk r o w) (walk_place c lo hi walk' r o w)
  unfolding walk_place
  walk_place-keeps r None w = give-keeps n w
  walk_place-keeps r (Some i) w = Delays-keeps (walk_slot-delays _ w)

  walk_keys-keeps : (r : Row) (keys xs : List ℕ) (w : Walked)
      → Keeps n (walk_keys c lo hi walk r keys xs w) (walk_keys c lo hi walk' r keys xs w)
  unfolding walk_keys
  walk_keys-keeps r keys xs w = over-keeps n _ _ (λ x. walk_place-keeps r (place_of x keys)) xs w

  walk_entry-keeps : (r : Row) (e : ℕ) (w : Walked) → Keeps n (walk_entry c lo hi walk r e w) (walk_entry c lo hi walk' r e w)
  unfolding walk_entry
  walk_entry-keeps r e w = if-keeps (e == 0) (give-keeps n w) (Delays-keeps (walk_slot-delays _ w))

  walk_index-keeps : (r : Row) (j : ℕ) (xs : List ℕ) (w : Walked)
      → Keeps (suc n) (walk_index c lo hi walk r j xs w) (walk_index c lo hi walk' r j xs w)
  unfolding walk_index
  walk_index-keeps r j [] w = give-keeps (suc n) w
  walk_index-keeps r j (x ∷ xs) w = Delays-more (bind-delays (load-delays n _) λ es.
      over-keeps n _ _ (λ y. walk_entry-keeps r (slice_index (entries_of es) (y % 8))) (x ∷ xs) w)

  walk_in-keeps : (kind : Kind) (r : Row) (xs : List ℕ) (w : Walked)
      → Keeps (suc n) (walk_in c lo hi walk kind r xs w) (walk_in c lo hi walk' kind r xs w)
  unfolding walk_in
  walk_in-keeps Four r xs w = Delays-more (bind-delays (load-delays n _) λ keys. walk_keys-keeps r _ xs w)
  walk_in-keeps Sixteen r xs w =
      Delays-more (bind-delays (load-delays n _) λ count. bind-keeps (load-keeps n _) λ a. bind-keeps (load-keeps n _) λ b.
      walk_keys-keeps r _ xs w)
  walk_in-keeps FortyEight r xs w =
      over-keeps (suc n) (λ j. walk_index c lo hi walk r j (filter (λ x. x / 8 == j) xs))
      (λ j. walk_index c lo hi walk' r j (filter (λ x. x / 8 == j) xs))
      (λ j. walk_index-keeps r j (filter (λ x. x / 8 == j) xs)) (numbers 0 32) w
  walk_in-keeps Full r xs w = over-keeps (suc n) _ _ (λ x s. Delays-more (walk_slot-delays (child_at Full r.base x) s)) xs w

  walk_bytes-keeps : (r : Row) (xs : List ℕ) (w : Walked) → Keeps (suc n) (walk_bytes c lo hi walk r xs w) (walk_bytes c lo hi walk' r xs w)
  unfolding walk_bytes
  walk_bytes-keeps r [] w = give-keeps (suc n) w
  walk_bytes-keeps r (x ∷ xs) w = walk_in-keeps r.kind r (x ∷ xs) w

walk_turn : Setting → ℕ → ℕ → (At → Part Walked) → At → Part Walked
walk_turn c lo hi walk at = walk_bytes c lo hi (λ m w. walk (record { row = m; walked = w })) at.row (bytes_of lo hi at.row) at.walked

walk_turn-keeps : (c : Setting) (lo hi n : ℕ) (f g : At → Part Walked) → ((a : At) → Keeps n (f a) (g a)) → (a : At)
    → Keeps (suc n) (walk_turn c lo hi f a) (walk_turn c lo hi g a)
unfolding walk_turn
walk_turn-keeps c lo hi n f g k a = walk_bytes-keeps n c lo hi _ _ (λ r w. k _) a.row (bytes_of lo hi a.row) a.walked

-- The law of a walk from a row on.
pub walk_from-body : (c : Setting) (lo hi : ℕ) (at : At) (again : Rest) (after : Walked → Rest) (got : List ℕ)
    → walk_from c lo hi at again after got
    ≡ walk_bytes c lo hi (λ m w. walk_from c lo hi (record { row = m; walked = w })) at.row (bytes_of lo hi at.row)
    at.walked again after got
unfolding walk_from walk_turn
walk_from-body c lo hi = recursive-body (walk_turn c lo hi) (walk_turn-keeps c lo hi)

walk_from-keeps : (n : ℕ) (c : Setting) (lo hi : ℕ) (at : At) → Keeps n (walk_from c lo hi at) (walk_from c lo hi at)
unfolding walk_from walk_turn
walk_from-keeps n c lo hi at = recursive-keeps (walk_turn c lo hi) (walk_turn-keeps c lo hi) n at

scan-delays : (n : ℕ) (c : Setting) (lo hi : ℕ) → Delays n (scan c lo hi) (scan c lo hi)
unfolding scan
scan-delays n c lo hi = bind-delays (enter-delays n c _) λ v. bind-keeps (walk_from-keeps n c lo hi _) λ w.
    then-keeps (if-keeps (locks c.variant) (unlock_all-keeps n w.rows) (each-keeps n (check_of c) (check_of-keeps n c) w.rows))
    (give-keeps n w.pairs)

-- Calls

procedure-delays : (n : ℕ) (c : Setting) (call : Call) → Delays n (procedure c call) (procedure c call)
unfolding procedure
procedure-delays n c (Get k) = if-delays (locks c.variant) (seek-delays n c) (seek_optimistic-delays n c)
procedure-delays n c (Remove k) = if-delays (locks c.variant) (seek-delays n c) (seek_optimistic-delays n c)
procedure-delays n c (Replace k old new) = if-delays (locks c.variant) (seek-delays n c) (seek_optimistic-delays n c)
procedure-delays n c (Insert k v) = if-delays (locks c.variant) (insert-delays n c) (insert_optimistic-delays n c)
procedure-delays n c (Scan lo hi) = bind-delays (scan-delays n c lo hi) λ pairs. give-keeps n _

start_turn : Part Reply → Part Reply → Part Reply
start_turn m self = λ again after. m (self again after) after

start_turn-delays : (m : Part Reply) → ((n : ℕ) → Delays n m m) → (n : ℕ) (self self' : Part Reply) → Keeps n self self'
    → Delays n (start_turn m self) (start_turn m self')
unfolding start_turn
start_turn-delays m d n self self' k = record {
  rest = λ again again' after after' sa sb.
      (d n).rest (self again after) (self' again' after') after after' (k.rest again again' after after' sa sb) sb;
}

from_start-body : (m : Part Reply) → ((n : ℕ) → Delays n m m) → (got : List ℕ)
    → from_start m got ≡ m (from_start m) (λ r got. Answers r) got
unfolding start_turn
from_start-body m d got = repeat-body (start_turn m) (start_turn-delays m d) (λ got. Answers reply.None) (λ r got. Answers r) got

-- The law of a call: it is its procedure. If the procedure starts again, the whole call runs again.
pub act-body : (shape : Shape) (variant : Variant) (call : Call) (got : List ℕ)
    → act shape variant call got
    ≡ procedure (record { shape = shape; variant = variant; call = call }) call (act shape variant call) (λ r got. Answers r) got
unfolding act
act-body shape variant call got =
    let c : Setting = record { shape = shape; variant = variant; call = call } in
    from_start-body (procedure c call) (λ n. procedure-delays n c call) got
