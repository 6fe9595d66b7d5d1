-- An insert under lock coupling, run alone on a table at rest, goes its key's way and does what it does on the map, or is refused.
use Rattle.art_schedules.proofs.Common.{◌≡◌, ◌⊎◌, inl, inr, ℕ, zero, suc, ◌+◌, ◌*◌, ◌<◌, ◌≤◌, List, [], ◌∷◌, length}
use Rattle.art_rows.specs.Rows.{Row, Has, Lacks}
use Rattle.art_schedules.specs.alone.Alone.{Ends}
use Rattle.art_schedules.proofs.Common.{Bool, true, false, refl, sym, ap, ◌∙◌, subst, arith, eqb-true, eqb-false, none-some, Insert}
use Rattle.art_schedules.proofs.Common.{Reply, Contents, value_at, Shape, Kind, Full, Child, Empty, ChildRow, Leaf, root_base, info_at, capacity}
use Rattle.art_schedules.proofs.Common.{table_words, is_locked, is_obsolete, locked_word, released_word, key_bytes, child_of, info_of}
use Rattle.art_schedules.proofs.Common.{first_difference, two-words, key_byte-small, Variant, Part, ◌>>=◌, ◌>>◌, give, load, Setting, Place}
use Rattle.art_schedules.proofs.Common.{byte_at, row_of, root_row, path_differs_at, lock, unlock, unlock_all, find, pair_in, grow}
use Rattle.art_schedules.proofs.Common.{insert_in, insert_beside, Reached, Means, root, below, child_in, child_on, slot_of, level_in, path_in}
use Rattle.art_schedules.proofs.Common.{IsAtRest, LeadsTo, Comes, unlocked_rows, keys_in_row, count_in_row, found_of_slot}
use Rattle.std.proofs.Common.{Option, ◌==◌, slice_index, Some, None, if◌then◌else◌}
use Rattle.events.specs.declared.event.Reply.TheVariants as reply
use Rattle.art_rows.specs.Updates.{put}
use Rattle.art_rows.specs.Coupled.{insert_below, insert_at, insert_from, insert}
use Rattle.art_rows.proofs.GuardLemmas.{insert_from-body}
use Rattle.art_schedules.proofs.alone.AloneLemmas.{give-comes, bind-comes, ends-bind, then-comes, ends-then, load-comes}
use Rattle.art_schedules.proofs.alone.RowRunLemmas.{unlock-comes, unlock_all-comes, lock-comes, with_lock}
use Rattle.art_schedules.proofs.alone.FindingLemmas.{find-comes}
use Rattle.art_schedules.proofs.alone.LikeLemmas.{Nothing, sits, like-start, like-free, like-live}
use Rattle.art_schedules.proofs.alone.VersionLemmas.{locked-live, released-live, released-free, released-small, locked-small}
use Rattle.art_schedules.proofs.alone.SlotLemmas.{found-same}
use Rattle.art_schedules.proofs.alone.WayLemmas.{level-most, leads-root, leads-below, below-other}
use Rattle.art_schedules.proofs.alone.PlaceLemmas.{sits-kind_at, sits-inside}
use Rattle.art_schedules.proofs.inserts.NearLemmas.{Near, Version, near-like, near-version, near-live, near-row, Among, IsHeld}
use Rattle.art_schedules.proofs.inserts.OutcomeLemmas.{Outcome}
use Rattle.art_schedules.proofs.inserts.PutOutcomeLemmas.{put-outcome}
use Rattle.art_schedules.proofs.inserts.GrowOutcomeLemmas.{Grows, grows}
use Rattle.art_schedules.proofs.inserts.PairOutcomeLemmas.{Hangs, hangs-pair}
use Rattle.art_schedules.proofs.inserts.SmallLemmas.{path_byte-small, le-differs_lt}
use Rattle.art_schedules.proofs.inserts.ShortLemmas.{Short, short-comes, short-more, give-short, bind-short, then-short, load-short, unlock-short}
use Rattle.art_schedules.proofs.inserts.ShortLemmas.{unlock_all-short, find-short, pair_in-short, put-short, grow-short, lock-few}
use Rattle.art_schedules.proofs.inserts.InsertEndLemmas.{Given, Inserts, ended, within, after-part, same-part, ends-in, first-differs}
use Rattle.art_schedules.proofs.inserts.LevelLemmas.{count-most}

module _ (g : Given) (s : Shape) (variant : Variant) (n : ℕ) (words : List ℕ) (rest : IsAtRest s n words) (few : n < 4611686018427387904)
    (bounded : table_words s < 2305843009213693952) (m : Contents)
    (means : Means s words m) (key value : ℕ) (key_small : key < 4294967296) (value_small : value < 1073741824) where
  abbrev c : Setting
  c = record { shape = s; variant = variant; call = Insert key value }

  abbrev Does : ℕ → Part Reply → List ℕ → Type 0
  Does k part now = Inserts g s variant n words rest few bounded m means key value key_small value_small k part now

  -- the words are those at rest except for versions, and these rows are held
  abbrev Holding : List Row → List ℕ → Type 0
  Holding rows now = Near s n words rest Nothing (Among s n words rest rows) Nothing now

  near-free : {held : ℕ → Type 0} {now : List ℕ} {b : ℕ} {k : Kind} → Near s n words rest Nothing held Nothing now
      → Reached s words b k → (held b → ⊥)
      → is_locked (slice_index now b) ≡ false
  near-free {held} {now} {b} {k} near reached no_one = go (near.word b)
    where
      go : (slice_index now b ≡ slice_index words b) ⊎ (Version s n words rest now held Nothing b ⊎ Nothing b)
          → is_locked (slice_index now b) ≡ false
      go (inl e) = ap is_locked e ∙ rest.unlocked b k (sits-kind_at s b k (sits s n words rest reached))
      go (inr (inl v)) = v.free no_one
      go (inr (inr o)) = absurd o

  -- the key's way leads to this row, which is held
  record IsAt (r : Row) : Type 0 where
    level : r.level ≡ level_in words r.base r.kind
    path : r.path ≡ path_in words r.base r.kind
    leads : LeadsTo s words key r.base r.kind (byte_at c r.level)
    held : IsHeld s n words rest r

  -- the row above has the row in its slot
  record Has-below (a r : Row) (slot : ℕ) : Type 0 where
    at-above : IsAt a
    slot-above : slot_of words a.base a.kind (byte_at c a.level) ≡ Some slot
    hangs : child_on s words a.base a.kind (byte_at c a.level) ≡ ChildRow r.base r.kind

  -- the rows above that are held: none above the root, or the one above
  abbrev IsAbove : List Row → Row → ℕ → Type 0
  IsAbove [] r slot = r.kind ≡ Full
  IsAbove (a ∷ []) r slot = Has-below a r slot
  IsAbove (a ∷ (b ∷ rows)) r slot = ⊥

  abbrev keys-of : Row → List ℕ
  keys-of r = keys_in_row words r.base r.kind (byte_at c r.level)

  abbrev count-of : Row → ℕ
  count-of r = count_in_row (Insert key value) words r.base r.kind (byte_at c r.level)

  byte : (r : Row) → byte_at c r.level < 256
  byte r = key_byte-small key r.level

  -- ---- the rows above are unlocked

  above-near : (rows : List Row) (r : Row) (slot : ℕ) → IsAbove rows r slot → (now : List ℕ) → Holding (r ∷ rows) now
      → Holding (r ∷ []) (unlocked_rows rows now)
  above-near [] r slot h now near = near
  above-near (a ∷ []) r slot h now near =
      near-version s n words rest {held2 = Among s n words rest (r ∷ [])} {dead2 = Nothing} (released_word a.kept) near
      h.at-above.leads.reached
      (released-small a.kept)
      (λ d. released-live a.kept h.at-above.held.live) (λ d. released-free a.kept h.at-above.held.free) keep (λ w d ne. d)
    where
      keep : (w : ℕ) → (w ≡ r.base) ⊎ ((w ≡ a.base) ⊎ ⊥) → (w ≡ a.base → ⊥) → (w ≡ r.base) ⊎ ⊥
      keep w (inl e) ne = inl e
      keep w (inr (inl e)) ne = absurd (ne e)
      keep w (inr (inr h)) ne = absurd h
  above-near (a ∷ (b ∷ rows)) r slot h now near = absurd h

  -- ---- a slot with no row in it

  -- there is one row above at most
  above-one : (rows : List Row) (r : Row) (slot : ℕ) → IsAbove rows r slot → length rows ≤ 1
  above-one [] r slot h = omega arith
  above-one (a ∷ []) r slot h = omega arith
  above-one (a ∷ (b ∷ rows)) r slot h = absurd h

  unlock-few : (rows : List Row) (r : Row) (slot : ℕ) → IsAbove rows r slot → (now : List ℕ) → (unlock_all-comes rows now).steps ≤ 1
  unlock-few rows r slot h now =
      let le = short-comes (unlock_all-short rows) (unlock_all-comes rows now) in
      let one = above-one rows r slot h in
      omega (arith, le, one)

  leaf : (rows : List Row) (r : Row) (above : ℕ) → IsAbove rows r above → (a : IsAt r) (now : List ℕ) → Holding (r ∷ rows) now
      → (slot : ℕ) (child : Child)
      → slot_of words r.base r.kind (byte_at c r.level) ≡ Some slot → child_on s words r.base r.kind (byte_at c r.level) ≡ child
      → ((b : ℕ) (k : Kind) → child ≡ ChildRow b k → ⊥)
      → Does 9 (unlock_all rows >> (insert_in c (r ∷ []) slot child >>= λ q. unlock r >> give q)) now
  leaf rows r above h a now near slot child at on no_row =
      after-part g s variant n words rest few bounded m means key value key_small value_small
      {f = λ _. insert_in c (r ∷ []) slot child >>= λ q. unlock r >> give q}
      (unlock_all-comes rows now) (unlock-few rows r above h now)
      (ends-in g s variant n words rest few bounded m means key value key_small value_small r (unlocked_rows rows now) a.held
      (above-near rows r above h now near)
      (byte_at c r.level) a.leads (byte r) slot at child on no_row)

  -- ---- a row that lacks the byte

  absent-at : (r : Row) → IsAt r → slot_of words r.base r.kind (byte_at c r.level) ≡ None → value_at m key ≡ None
  absent-at r a none = (g.ways s words m key r.base r.kind (byte_at c r.level) rest.tree means a.leads).0
      (ap (λ o. child_in s words o) none)

  put-row : (rows : List Row) (r : Row) (above : ℕ) → IsAbove rows r above → (a : IsAt r) (now : List ℕ) → Holding (r ∷ rows) now
      → slot_of words r.base r.kind (byte_at c r.level) ≡ None → count-of r < capacity r.kind
      → Does 42 (unlock_all rows >> (put c r (keys-of r) (count-of r) >> (unlock r >> give reply.None))) now
  unfolding put
  put-row rows r above h a now near none room =
      let (last, comes, outcome) = put-outcome g.puts g.put_written g.read s variant n words rest m means key value key_small value_small r
      (unlocked_rows rows now) a.held
      (above-near rows r above h now near) (byte_at c r.level) a.leads (byte r) none room (absent-at r a none) in
      after-part g s variant n words rest few bounded m means key value key_small value_small {f = λ _. put c r (keys-of r) (count-of r) >>
      (unlock r >> give reply.None)}
      (unlock_all-comes rows now) (unlock-few rows r above h now)
      (ended g s variant n words rest few bounded m means key value key_small value_small 41
      (then-short (put-short c r (keys-of r) (count-of r) (omega (arith, room))) (then-short (unlock-short r) (give-short reply.None)))
      reply.None (unlocked_rows (r ∷ []) last)
      (inl (then-comes {n = unlock r >> give reply.None} comes
      (then-comes {n = give reply.None} (unlock-comes r last) (give-comes reply.None _)))) outcome)

  grow-row : (p r : Row) (slot : ℕ) (a : IsAt r) → Has-below p r slot → (now : List ℕ) → Holding (r ∷ p ∷ []) now
      → slot_of words r.base r.kind (byte_at c r.level) ≡ None → count-of r ≡ capacity r.kind
      → Does 600 (grow c (p ∷ []) slot r (keys-of r) (count-of r) >> give reply.None) now
  grow-row p r slot a h now near none all = go done.comes
    where
      done : Grows g.trees g.grown g.row_written g.read g.versions g.sized s variant n words rest few bounded m means key value
          key_small value_small
          (grow c (p ∷ []) slot r (keys-of r) (count-of r)) now
      done = grows g.trees g.grown g.row_written g.read g.versions g.sized s variant n words rest few bounded m means key value key_small
          value_small r p now
          a.held h.at-above.held near (byte_at c p.level) slot h.at-above.leads (byte p)
          h.slot-above h.hangs a.leads (byte r) a.level a.path none all (absent-at r a none)

      short_part : Short 600 (grow c (p ∷ []) slot r (keys-of r) (count-of r) >> give reply.None)
      short_part = then-short (grow-short c p slot r (keys-of r) (count-of r) (omega (arith, all))) (give-short reply.None)

      go : (Comes (grow c (p ∷ []) slot r (keys-of r) (count-of r)) now tt done.after
          × Outcome s n words rest m means key value reply.None done.after)
          ⊎ (Ends (grow c (p ∷ []) slot r (keys-of r) (count-of r)) now reply.Refused done.after
          × Outcome s n words rest m means key value reply.Refused done.after)
          → Does 600 (grow c (p ∷ []) slot r (keys-of r) (count-of r) >> give reply.None) now
      go (inl (k, o)) =
          ended g s variant n words rest few bounded m means key value key_small value_small 600 short_part reply.None done.after
          (inl (then-comes {n = give reply.None} k (give-comes reply.None _))) o
      go (inr (k, o)) =
          ended g s variant n words rest few bounded m means key value key_small value_small 600 short_part reply.Refused done.after
          (inr (ends-then {n = give reply.None} k)) o

  -- ---- the row below

  -- a row is within 2^61 words
  row-bound : (b : ℕ) (k : Kind) → Reached s words b k → b < 2305843009213693952
  row-bound b k q = omega (arith, bounded, (sits-inside s b 0 k (sits s n words rest q) (omega (arith, two-words k))).1)

  beside : (r q : Row) (a : IsAt r) → IsHeld s n words rest q → (now : List ℕ) → Holding (q ∷ r ∷ []) now → (slot b : ℕ) (k : Kind) (d : ℕ)
      → slot_of words r.base r.kind (byte_at c r.level) ≡ Some slot → child_on s words r.base r.kind (byte_at c r.level) ≡ ChildRow b k
      → q.path ≡ path_in words b k → q.base ≡ b → q.kind ≡ k → first_difference (path_in words b k) (key_bytes key) ≡ Some d
      → Does 10 ((pair_in c (q ∷ r ∷ []) slot d (record { byte = slice_index (path_in words b k) d; child = ChildRow b k })
      >> give reply.None)
      >>= λ x. unlock q >> (unlock r >> give x)) now
  beside r q a q_held now near slot b k d at on path base kind differ = go h.comes
    where
      h : Hangs g.trees g.pairs g.pair_written g.read g.sized s variant n words rest few bounded m means key value key_small value_small
          (pair_in c (q ∷ r ∷ []) slot d (record { byte = slice_index (path_in words b k) d; child = ChildRow b k })) (q ∷ r ∷ []) now
      h = hangs-pair g.trees g.pairs g.pair_written g.read g.sized s variant n words rest few bounded m means key value key_small
          value_small (q ∷ r ∷ [])
          now (q_held, (a.held, tt)) near
          r.base r.kind (byte_at c r.level) slot d (slice_index (path_in words b k) d) (ChildRow b k) a.leads (byte r) at on (differ, refl)
          (sits-kind_at s b k (sits s n words rest (below a.leads.reached (byte_at c r.level) (byte r) on)))
          (row-bound b k (below a.leads.reached (byte_at c r.level) (byte r) on)) (path_byte-small words b k d)
          (first-differs (path_in words b k) (key_bytes key) d differ)
          ((g.ways s words m key r.base r.kind (byte_at c r.level) rest.tree means a.leads).2 b d k on differ)

      short_part : Short 10 ((pair_in c (q ∷ r ∷ []) slot d (record { byte = slice_index (path_in words b k) d; child = ChildRow b k })
          >> give reply.None)
          >>= λ x. unlock q >> (unlock r >> give x))
      short_part =
          short-more 10
          (bind-short (then-short (pair_in-short c (q ∷ r ∷ []) slot d (record {
            byte = slice_index (path_in words b k) d;
            child = ChildRow b k;
          }))
          (give-short reply.None)) (λ x. then-short (unlock-short q) (then-short (unlock-short r) (give-short x)))) (omega arith)

      go : (Comes (pair_in c (q ∷ r ∷ []) slot d (record { byte = slice_index (path_in words b k) d; child = ChildRow b k })) now tt h.after
          × Outcome s n words rest m means key value reply.None (unlocked_rows (q ∷ r ∷ []) h.after))
          ⊎ (Ends (pair_in c (q ∷ r ∷ []) slot d (record { byte = slice_index (path_in words b k) d; child = ChildRow b k })) now
          reply.Refused h.after
          × Outcome s n words rest m means key value reply.Refused h.after)
          → Does 10 ((pair_in c (q ∷ r ∷ []) slot d (record { byte = slice_index (path_in words b k) d; child = ChildRow b k })
          >> give reply.None)
          >>= λ x. unlock q >> (unlock r >> give x)) now
      go (inl (e, o)) =
          ended g s variant n words rest few bounded m means key value key_small value_small 10 short_part reply.None
          (unlocked_rows (q ∷ r ∷ []) h.after)
          (inl (bind-comes {f = λ x. unlock q >> (unlock r >> give x)} (then-comes {n = give reply.None} e (give-comes reply.None h.after))
          (then-comes {n = unlock r >> give reply.None} (unlock-comes q h.after) (then-comes {n = give reply.None} (unlock-comes r _)
          (give-comes reply.None _))))) o
      go (inr (e, o)) =
          ended g s variant n words rest few bounded m means key value key_small value_small 10 short_part reply.Refused h.after
          (inr (ends-bind {f = λ x. unlock q >> (unlock r >> give x)} (ends-then {n = give reply.None} e))) o

  abbrev DoesFrom : ℕ → Type 0
  DoesFrom fuel = (p : Place) (now : List ℕ) → IsAt p.row → IsAbove p.above p.row p.slot → Holding (p.row ∷ p.above) now
      → 4 ≤ fuel + p.row.level
      → Does (700 + 10 * fuel) (insert_from c p) now

  row : (fuel : ℕ) → DoesFrom fuel → (rows : List Row) (r : Row) (above : ℕ) → IsAbove rows r above → (a : IsAt r) (now : List ℕ)
      → Holding (r ∷ rows) now
      → 4 ≤ suc fuel + r.level → (slot b : ℕ) (k : Kind)
      → slot_of words r.base r.kind (byte_at c r.level) ≡ Some slot
      → child_on s words r.base r.kind (byte_at c r.level) ≡ ChildRow b k
      → Does (704 + 10 * fuel) (unlock_all rows >> (lock s b >>= λ v. load (info_at b) >>= λ info. insert_below c (insert_from c) r slot
      (row_of b k info v)
      (path_differs_at c (row_of b k info v)))) now
  unfolding insert_beside
  row fuel more rows r above h a now near enough slot b k at on =
      within g s variant n words rest few bounded m means key value key_small value_small (704 + 10 * fuel)
      (after-part g s variant n words rest few bounded m means key value key_small value_small
      {f = λ _. lock s b >>= λ v. load (info_at b) >>= λ info.
      insert_below c (insert_from c) r slot (row_of b k info v) (path_differs_at c (row_of b k info v))} (unlock_all-comes rows now)
      (unlock-few rows r above h now)
      (after-part g s variant n words rest few bounded m means key value key_small value_small {f = λ v. load (info_at b) >>= λ info.
      insert_below c (insert_from c) r slot (row_of b k info v) (path_differs_at c (row_of b k info v))}
      (lock-comes s b (unlocked_rows rows now) b_free)
      (lock-few s b (unlocked_rows rows now) b_free)
      (after-part g s variant n words rest few bounded m means key value key_small value_small {f = λ info.
      insert_below c (insert_from c) r slot (row_of b k info (slice_index (unlocked_rows rows now) b))
      (path_differs_at c (row_of b k info (slice_index (unlocked_rows rows now) b)))} info-comes
      (short-comes (load-short (info_at b)) info-comes) (go (path_differs_at c found) refl)))) (omega arith)
    where
      reached : Reached s words b k
      reached = below a.leads.reached (byte_at c r.level) (byte r) on

      other : b ≡ r.base → ⊥
      other = below-other s n words rest a.leads.reached (byte r) on

      one : Holding (r ∷ []) (unlocked_rows rows now)
      one = above-near rows r above h now near

      not-held : (b ≡ r.base) ⊎ ⊥ → ⊥
      not-held (inl e) = other e
      not-held (inr e) = e

      b_free : is_locked (slice_index (unlocked_rows rows now) b) ≡ false
      b_free = near-free one reached not-held

      b_live : is_obsolete (slice_index (unlocked_rows rows now) b) ≡ false
      b_live = near-live s n words rest one reached (λ d. d) (λ o. o)

      found : Row
      found = row_of b k (slice_index words (info_at b)) (slice_index (unlocked_rows rows now) b)

      two : Holding (found ∷ r ∷ []) (with_lock (unlocked_rows rows now) b)
      two = near-version s n words rest {held2 = Among s n words rest (found ∷ r ∷ [])} {dead2 = Nothing}
          (locked_word (slice_index (unlocked_rows rows now) b)) one reached (locked-small (slice_index (unlocked_rows rows now) b))
          (λ d. locked-live (slice_index (unlocked_rows rows now) b) b_live) (λ no_one. absurd (no_one (inl refl)))
          (λ w d ne. inr d) (λ w d ne. d)

      found_held : IsHeld s n words rest found
      found_held = record { kind = k; reached = reached; free = b_free; live = b_live }

      info-comes : Comes (load (info_at b)) (with_lock (unlocked_rows rows now) b) (slice_index words (info_at b))
          (with_lock (unlocked_rows rows now) b)
      info-comes = subst (λ w. Comes (load (info_at b)) (with_lock (unlocked_rows rows now) b) w (with_lock (unlocked_rows rows now) b))
          (near-row s n words rest two reached 1 (omega arith) (two-words k))
          (load-comes (info_at b) (with_lock (unlocked_rows rows now) b))

      lower : level_in words r.base r.kind < level_in words b k
      lower = (rest.tree.row r.base b (byte_at c r.level) r.kind k a.leads.reached (byte r) on).0

      by : (o : Option ℕ) → path_differs_at c found ≡ o
          → Does (700 + 10 * fuel) (insert_below c (insert_from c) r slot found o) (with_lock (unlocked_rows rows now) b)
      by None e = more (record { row = found; above = r ∷ []; slot = slot }) (with_lock (unlocked_rows rows now) b)
          (record { level = refl; path = refl; leads = leads-below s n words rest a.leads (byte r) on e; held = found_held })
          (record { at-above = a; slot-above = at; hangs = on }) two (omega (arith, enough, lower, a.level))
      by (Some d) e = within g s variant n words rest few bounded m means key value key_small value_small (700 + 10 * fuel)
          (beside r found a found_held (with_lock (unlocked_rows rows now) b) two slot b k d at on refl refl refl e) (omega arith)

      go : (o : Option ℕ) → path_differs_at c found ≡ o
          → Does (700 + 10 * fuel) (insert_below c (insert_from c) r slot found (path_differs_at c found))
          (with_lock (unlocked_rows rows now) b)
      go o e = subst (λ o. Does (700 + 10 * fuel) (insert_below c (insert_from c) r slot found o) (with_lock (unlocked_rows rows now)
          b)) (sym e) (by o e)

  -- ---- the whole way

  child : (fuel : ℕ) → DoesFrom fuel → (p : Place) (now : List ℕ) (a : IsAt p.row) → IsAbove p.above p.row p.slot
      → Holding (p.row ∷ p.above) now
      → 4 ≤ suc fuel + p.row.level → (slot : ℕ)
      → slot_of words p.row.base p.row.kind (byte_at c p.row.level) ≡ Some slot → (child : Child)
      → child_on s words p.row.base p.row.kind (byte_at c p.row.level) ≡ child
      → Does (704 + 10 * fuel) (insert_at c (insert_from c) p (Has slot child)) now
  unfolding insert_at
  child fuel more p now a h near enough slot e Empty at =
      within g s variant n words rest few bounded m means key value key_small value_small (704 + 10 * fuel)
      (leaf p.above p.row p.slot h a now near slot Empty e at (λ b k is. empty_row is)) (omega arith)
    where
      empty_row : {b : ℕ} {k : Kind} → Empty ≡ ChildRow b k → ⊥
      empty_row h = cc
  child fuel more p now a h near enough slot e (ChildRow b k) at = row fuel more p.above p.row p.slot h a now near enough slot b k e at
  child fuel more p now a h near enough slot e (Leaf k old) at =
      within g s variant n words rest few bounded m means key value key_small value_small (704 + 10 * fuel)
      (leaf p.above p.row p.slot h a now near slot (Leaf k old) e at (λ b q is. leaf_row is)) (omega arith)
    where
      leaf_row : {b : ℕ} {q : Kind} → Leaf k old ≡ ChildRow b q → ⊥
      leaf_row h = cc

  lack : (p : Place) (now : List ℕ) (a : IsAt p.row) → IsAbove p.above p.row p.slot → Holding (p.row ∷ p.above) now
      → slot_of words p.row.base p.row.kind (byte_at c p.row.level) ≡ None
      → Does 600 (insert_at c (insert_from c) p (Lacks (keys-of p.row) (count-of p.row))) now
  unfolding insert_at
  lack p now a above near none = go (count-of p.row == capacity p.row.kind) refl
    where
      full : (rows : List Row) → IsAbove rows p.row p.slot → Holding (p.row ∷ rows) now → count-of p.row ≡ capacity p.row.kind
          → Does 600 (grow c rows p.slot p.row (keys-of p.row) (count-of p.row) >> give reply.None) now
      full [] kind near all = absurd (full_has p.row.kind kind none)
        where
          full_has : (k : Kind) → k ≡ Full → slot_of words p.row.base k (byte_at c p.row.level) ≡ None → ⊥
          full_has k is h = none-some _ (sym (subst (λ k. slot_of words p.row.base k (byte_at c p.row.level) ≡ None) is h))
      full (q ∷ []) h near all = grow-row q p.row p.slot a h now near none all
      full (q ∷ (q2 ∷ rows)) h near all = absurd h

      go : (t : Bool) → (count-of p.row == capacity p.row.kind) ≡ t → Does 600 (if t
          then (grow c p.above p.slot p.row (keys-of p.row) (count-of p.row) >> give reply.None)
          else (unlock_all p.above >> (put c p.row (keys-of p.row) (count-of p.row) >> (unlock p.row >> give reply.None)))) now
      go true e = full p.above above near (eqb-true (count-of p.row) (capacity p.row.kind) e)
      go false e = within g s variant n words rest few bounded m means key value key_small value_small 600 (put-row p.above p.row p.slot
          above a now near none
          (le-differs_lt (count-of p.row) (capacity p.row.kind)
          (count-most (Insert key value) words p.row.base p.row.kind (byte_at c p.row.level))
          (eqb-false (count-of p.row) (capacity p.row.kind) e))) (omega arith)

  step : (fuel : ℕ) → DoesFrom fuel → DoesFrom (suc fuel)
  step fuel more p now a above near enough = found (slot_of words p.row.base p.row.kind (byte_at c p.row.level)) refl
    where
      finds : Comes (find c p.row) now
          (found_of_slot s words (keys-of p.row) (count-of p.row) (slot_of words p.row.base p.row.kind (byte_at c p.row.level))) now
      finds = subst (λ f. Comes (find c p.row) now f now)
          (found-same words now p.row.base c p.row.kind (byte_at c p.row.level) (byte p.row) (near-row s n words rest near a.leads.reached))
          (find-comes c p.row now)

      after : (o : Option ℕ) → slot_of words p.row.base p.row.kind (byte_at c p.row.level) ≡ o
          → Does (704 + 10 * fuel) (insert_at c (insert_from c) p (found_of_slot s words (keys-of p.row) (count-of p.row) o)) now
          → Does (700 + 10 * suc fuel) (insert_from c p) now
      after o e i =
          within g s variant n words rest few bounded m means key value key_small value_small (700 + 10 * suc fuel)
          (same-part g s variant n words rest few bounded m means key value key_small value_small (insert_from-body c p)
          (after-part g s variant n words rest few bounded m means key value key_small value_small {f = insert_at c (insert_from c) p}
          finds (short-comes (find-short c p.row) finds)
          (subst (λ o. Does (704 + 10 * fuel) (insert_at c (insert_from c) p (found_of_slot s words (keys-of p.row) (count-of p.row) o))
          now) (sym e) i)))
          (omega arith)

      found : (o : Option ℕ) → slot_of words p.row.base p.row.kind (byte_at c p.row.level) ≡ o
          → Does (700 + 10 * suc fuel) (insert_from c p) now
      found None e = after None e (within g s variant n words rest few bounded m means key value key_small value_small (704 + 10 * fuel)
          (lack p now a above near e) (omega arith))
      found (Some slot) e = after (Some slot) e
          (child fuel more p now a above near enough slot e (child_of s (slice_index words slot)) (ap (λ o. child_in s words o) e))

  does-from : (fuel : ℕ) → DoesFrom fuel
  does-from zero p now a above near enough = absurd (omega (arith, enough, a.level, level-most words p.row.base p.row.kind))
  does-from (suc fuel) p now a above near enough = step fuel (does-from fuel) p now a above near enough

  -- The whole call does what it does on the map, or is refused.
  pub inserts-coupled : Inserts g s variant n words rest few bounded m means key value key_small value_small 1000 (insert c) words
  unfolding insert
  inserts-coupled =
      within g s variant n words rest few bounded m means key value key_small value_small 1000
      (after-part g s variant n words rest few bounded m means key value key_small value_small
      {f = λ v. insert_from c (record { row = root_row c v; above = []; slot = root_base s })} (lock-comes s (root_base s) words free)
      (lock-few s (root_base s) words free)
      (does-from 4 (record { row = root_row c v; above = []; slot = root_base s }) (with_lock words (root_base s))
      (record {
        level = sym (leads-root s n words rest key).0;
        path = sym (ap (λ w. (info_of Full w).path) rest.tree.root);
        leads = (leads-root s n words rest key).1;
        held = record { kind = Full; reached = root; free = free; live = live };
      }) refl
      (near-version s n words rest {held2 = Among s n words rest (root_row c v ∷ [])} {dead2 = Nothing} {kind = Full} (locked_word v)
      (near-like s n words rest (like-start s n words rest Nothing)) root (locked-small v) (λ d. locked-live v live)
      (λ no_one. absurd (no_one (inl refl)))
      (λ w d ne. absurd d) (λ w d ne. d)) (omega arith))) (omega arith)
    where
      v : ℕ
      v = slice_index words (root_base s)

      free : is_locked (slice_index words (root_base s)) ≡ false
      free = like-free s n words rest {kind = Full} (like-start s n words rest Nothing) root (λ h. h)

      live : is_obsolete (slice_index words (root_base s)) ≡ false
      live = like-live s n words rest {kind = Full} (like-start s n words rest Nothing) root
