-- Finding, locking and claiming rows.
use Rattle.std.specs.Prelude.{ℕ, ◌-◌, ◌%◌, Bool, true, false, ◌==◌, nat_lt, if◌then◌else◌, List, [], length, slice_index, Option, Some}
use Rattle.std.specs.Prelude.{None}
use Rattle.events.specs.declared.event.Call.{Call}
use Rattle.events.specs.declared.event.Call.TheVariants.{Get, Insert, Remove, Scan, Replace}
use Rattle.events.specs.declared.event.Reply.TheVariants as reply
use Rattle.art_rows.specs.declared.table.Shape.{Shape}
use Rattle.art_rows.specs.declared.table.Kind.{Kind}
use Rattle.art_rows.specs.declared.table.Kind.TheVariants.{Four, Sixteen, FortyEight, Full}
use Rattle.art_rows.specs.Table.{capacity, rows_of, claims_of, base_of, root_base, keys_at, more_keys_at, index_at, count_at, child_at}
use Rattle.art_rows.specs.declared.table.Child.{Child}
use Rattle.art_rows.specs.Words.{is_obsolete, is_locked, locked_word, released_word, obsolete_word, key_bytes, first_difference, info_of}
use Rattle.art_rows.specs.Words.{keys4_of, keys16_of}
use Rattle.art_rows.specs.Words.{count_of, place_of, entries_of, child_of}
use Rattle.art_rows.specs.declared.variant.Variant.{Variant}
use Rattle.art_rows.specs.declared.variant.Variant.TheVariants.{Coupled, ReadUnchecked, ScanUnvalidated, LockUnchecked, EarlyRelease}
use Rattle.art_rows.specs.declared.access.Point.{Point}
use Rattle.art_rows.specs.declared.access.Point.TheVariants as point
use Rattle.art_rows.specs.Steps.{Part, ◌>>=◌, ◌>>◌, give, start_again, answer, load, load_at, store_at, exchange, add, first_at, repeat}
use Rattle.art_rows.specs.Steps.{each}

-- what stays the same through a call; a scan has no key
pub record Setting : Type 0 where
  pub shape : Shape
  pub variant : Variant
  pub call : Call

-- a row that a call is at: where it is, what its info says, and its version as WAIT kept it or LOCK found it
pub record Row : Type 0 where
  pub base : ℕ
  pub kind : Kind
  pub level : ℕ
  pub path : List ℕ
  pub kept : ℕ

-- tests on a call: what is not named falls to the last clause, as a call that comes later does

abbrev pub is_get : Call → Bool
is_get (Get k) = true
is_get call = false

abbrev pub is_insert : Call → Bool
is_insert (Insert k v) = true
is_insert call = false

abbrev pub is_scan : Call → Bool
is_scan (Scan lo hi) = true
is_scan call = false

abbrev pub key_of : Call → ℕ
key_of (Get k) = k
key_of (Insert k v) = k
key_of (Remove k) = k
key_of (Scan lo hi) = lo
key_of (Replace k old new) = k

-- the variants that lock each row that they read
abbrev pub locks : Variant → Bool
locks Coupled = true
locks EarlyRelease = true
locks variant = false

-- the variants without a check

abbrev pub releases_early : Variant → Bool
releases_early EarlyRelease = true
releases_early variant = false

abbrev pub leaves_out_check : Variant → Call → Bool
leaves_out_check ReadUnchecked call = is_get call
leaves_out_check ScanUnvalidated call = is_scan call
leaves_out_check variant call = false

abbrev pub takes_unchecked : Variant → Bool
takes_unchecked LockUnchecked = true
takes_unchecked variant = false

-- the point of a lock
abbrev pub lock_point : Shape → ℕ → Point
lock_point s base = if base == root_base s then point.LockRoot else point.LockRow

-- LOCK: load the version while it is locked, then exchange; where that fails, load again.
unfoldable pub lock_again : ℕ → Part ℕ
lock_again base = repeat (λ self. do
  v ← load base
  if is_locked v then self else do
    was ← exchange base v (locked_word v)
    if was == v then give v else self)

unfoldable pub lock : Shape → ℕ → Part ℕ
lock s base = first_at (lock_point s base) (lock_again base)

-- UNLOCK, and release as obsolete
unfoldable pub unlock : Row → Part (Unit {0})
unlock n = store_at point.Unlock n.base (released_word n.kept)

unfoldable pub unlock_obsolete : Row → Part (Unit {0})
unlock_obsolete n = store_at point.Unlock n.base (obsolete_word n.kept)

unfoldable pub unlock_all : List Row → Part (Unit {0})
unlock_all rows = each rows unlock

-- WAIT: load the version while it is locked; an obsolete row starts the call again.
unfoldable pub wait : ℕ → Part ℕ
wait base = repeat (λ self. do
  v ← load base
  if is_locked v then self else
      (if is_obsolete v then start_again else give v))

-- CHECK
unfoldable pub check : Row → Part (Unit {0})
check n = do
  v ← load_at point.Check n.base
  if v == n.kept then give tt else start_again

-- CHECK, but where the variant leaves it out for this call
unfoldable pub check_of : Setting → Row → Part (Unit {0})
check_of c n = if leaves_out_check c.variant c.call then give tt else check n

-- TAKE: exchange from the kept version; where that fails, the held rows are unlocked and the call starts again.
unfoldable pub take_row : Setting → List Row → Row → Part Row
take_row c held n =
    if takes_unchecked c.variant
    then (do
      v ← lock c.shape n.base
      give (record n { kept = v }))
    else (do
      was ← first_at (lock_point c.shape n.base) (exchange n.base n.kept (locked_word n.kept))
      if was == n.kept then give n else do
        unlock_all held
        start_again)

-- What FIND says of a byte: the slot where it is with the child there, or it is absent. Then the key bytes of the
-- row, or in kind 48 the entries of the byte's index word, and the count.
pub data Found : Type 0 where
  Has : (slot : ℕ) → (child : Child) → Found
  Lacks : (keys : List ℕ) → (count : ℕ) → Found

-- the child word of a slot
unfoldable pub load_child : Setting → ℕ → Part Child
load_child c slot = do
  w ← load slot
  give (child_of c.shape w)

unfoldable pub find_child : Setting → ℕ → Part Found
find_child c slot = do
  w ← load_at point.Child slot
  give (Has slot (child_of c.shape w))

unfoldable pub find_among : Setting → Row → List ℕ → Option ℕ → Part Found
find_among c n keys None = give (Lacks keys (length keys))
find_among c n keys (Some i) = find_child c (child_at n.kind n.base i)

unfoldable pub find_indexed : Setting → Row → List ℕ → ℕ → Part Found
find_indexed c n entries e =
    if e == 0
    then (if is_insert c.call
    then (do
      count ← load (count_at FortyEight n.base)
      give (Lacks entries (count_of 48 count)))
    else give (Lacks entries 0))
    else find_child c (child_at FortyEight n.base (e - 1))

-- FIND, by the row's kind
unfoldable pub find_in : Kind → Setting → Row → ℕ → Part Found
find_in Four c n x = do
  keys ← load (keys_at n.base)
  find_among c n (keys4_of keys) (place_of x (keys4_of keys))
find_in Sixteen c n x = do
  count ← load (count_at Sixteen n.base)
  first ← load (keys_at n.base)
  second ← load (more_keys_at n.base)
  let keys = keys16_of count first second
  find_among c n keys (place_of x keys)
find_in FortyEight c n x = do
  w ← load (index_at n.base x)
  let entries = entries_of w
  find_indexed c n entries (slice_index entries (x % 8))
find_in Full c n x = do
  w ← load (child_at Full n.base x)
  give (Has (child_at Full n.base x) (child_of c.shape w))

-- the byte of the call's key that selects a child of the row
abbrev pub byte_at : Setting → ℕ → ℕ
byte_at c level = slice_index (key_bytes (key_of c.call)) level

unfoldable pub find : Setting → Row → Part Found
find c n = find_in n.kind c n (byte_at c n.level)

abbrev pub is_full : Row → ℕ → Bool
is_full n count = count == capacity n.kind

-- CLAIM: the base of a fresh row; where there is none, what is held is unlocked and the call is refused.
unfoldable pub claim : Setting → List Row → Kind → Part ℕ
claim c held kind = do
  number ← add (claims_of kind)
  if nat_lt number (rows_of c.shape kind) then give (base_of c.shape kind number) else do
    unlock_all held
    answer reply.Refused

-- the root, whose info is never loaded
abbrev pub root_row : Setting → ℕ → Row
root_row c v = record { base = root_base c.shape; kind = Full; level = 0; path = []; kept = v }

-- a row by its base and kind, its info word and its version
abbrev pub row_of : ℕ → Kind → ℕ → ℕ → Row
row_of base kind info v =
    record { base = base; kind = kind; level = (info_of kind info).level; path = (info_of kind info).path; kept = v }

-- the first byte where the row's path differs from the key
abbrev pub path_differs_at : Setting → Row → Option ℕ
path_differs_at c n = first_difference n.path (key_bytes (key_of c.call))

-- how far a call is on its way down: the row, the rows above it that the call may still need (the
-- parent, or none for the root), and the slot above that has the row; the root is in no slot, so
-- its place has its base instead
pub record Place : Type 0 where
  pub row : Row
  pub above : List Row
  pub slot : ℕ
