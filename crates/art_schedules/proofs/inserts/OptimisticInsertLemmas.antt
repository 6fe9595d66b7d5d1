-- An insert under optimistic lock coupling, run alone on a table at rest, goes its key's way and does what it does on the map, or is
-- refused.
use Rattle.art_schedules.proofs.Common.{◌≡◌, ◌⊎◌, inl, inr, ℕ, zero, suc, ◌+◌, ◌*◌, ◌<◌, ◌≤◌, List, [], ◌∷◌, ◌++◌, take, length}
use Rattle.art_rows.specs.Rows.{Row, Has, Lacks}
use Rattle.art_schedules.specs.alone.Alone.{Ends}
use Rattle.art_schedules.proofs.Common.{Bool, true, false, refl, sym, ap, ◌∙◌, subst, arith, eqb-true, unwrap_or}
use Rattle.art_schedules.proofs.Common.{eqb-false, lt-leb, get_or-set_other, none-some, Insert, Reply, Contents, Shape, Kind, Full, Child, Empty}
use Rattle.art_schedules.proofs.Common.{ChildRow, Leaf, root_base, info_at, capacity, table_words, is_locked, is_obsolete, locked_word, key_bytes}
use Rattle.art_schedules.proofs.Common.{child_of, info_of, first_difference, two-words, key_byte-small, Variant, Part, ◌>>=◌, ◌>>◌, give}
use Rattle.art_schedules.proofs.Common.{start_again, load, Setting, Place, byte_at, row_of, root_row, path_differs_at, check_of, take_row}
use Rattle.art_schedules.proofs.Common.{unlock, keys_differ_at, grow, insert_in, insert_beside, step_down, Reached, Means, root, below}
use Rattle.art_schedules.proofs.Common.{child_in, child_on, slot_of, level_in, path_in, IsAtRest, LeadsTo, Comes, unlocked_rows, keys_in_row}
use Rattle.art_schedules.proofs.Common.{count_in_row, found_of_slot}
use Rattle.std.proofs.Common.{slice_set, Option, ◌==◌, slice_index, Some, None, if◌then◌else◌}
use Rattle.events.specs.declared.event.Reply.TheVariants as reply
use Rattle.art_rows.specs.Updates.{put}
use Rattle.art_rows.specs.Optimistic.{below_level, insert_below, take_above, insert_leaf, insert_at, insert_from, insert}
use Rattle.art_rows.proofs.GuardLemmas.{insert_from_optimistic-body}
use Rattle.art_schedules.proofs.alone.AloneLemmas.{give-comes, bind-comes, then-comes, ends-then, load-comes, over-comes, over_none-comes}
use Rattle.art_schedules.proofs.alone.RowRunLemmas.{unlock-comes, wait-comes, check_of-comes, take_row-comes}
use Rattle.art_schedules.proofs.alone.FindingLemmas.{find-comes}
use Rattle.art_schedules.proofs.alone.LikeLemmas.{Like, Nothing, sits, like-start, like-free, like-live}
use Rattle.art_schedules.proofs.alone.VersionLemmas.{locked-live, locked-small}
use Rattle.art_schedules.proofs.alone.WayLemmas.{level-most, leads-root, leads-below, below-other}
use Rattle.art_schedules.proofs.alone.PlaceLemmas.{sits-kind_at, sits-inside}
use Rattle.art_schedules.proofs.inserts.NearLemmas.{Near, near-like, near-version, Among, IsHeld}
use Rattle.art_schedules.proofs.inserts.OutcomeLemmas.{Outcome}
use Rattle.art_schedules.proofs.inserts.PutOutcomeLemmas.{put-outcome}
use Rattle.art_schedules.proofs.inserts.GrowOutcomeLemmas.{Grows, grows}
use Rattle.art_schedules.proofs.inserts.SmallLemmas.{path_byte-small, le-differs_lt}
use Rattle.art_schedules.proofs.inserts.ShortLemmas.{Short, short-comes, give-short, then-short, unlock-short, check_of-short, find-short}
use Rattle.art_schedules.proofs.inserts.ShortLemmas.{put-short, grow-short, bind-few, as-few, wait-few, take_row-few}
use Rattle.art_schedules.proofs.inserts.InsertEndLemmas.{Given, Inserts, ended, within, after-part, same-part, pair-in, ends-in, first-differs}
use Rattle.art_schedules.proofs.inserts.LevelLemmas.{differ-behind, count-most}
use Rattle.art_schedules.proofs.trees.Bytes.{one_more}

module _ (g : Given) (s : Shape) (variant : Variant) (n : ℕ) (words : List ℕ) (rest : IsAtRest s n words) (few : n < 4611686018427387904)
    (bounded : table_words s < 2305843009213693952) (m : Contents)
    (means : Means s words m) (key value : ℕ) (key_small : key < 4294967296) (value_small : value < 1073741824) where
  abbrev c : Setting
  c = record { shape = s; variant = variant; call = Insert key value }

  abbrev Does : ℕ → Part Reply → List ℕ → Type 0
  Does k part now = Inserts g s variant n words rest few bounded m means key value key_small value_small k part now

  nothing : Like s words words words Nothing
  nothing = like-start s n words rest Nothing

  free-at : {base : ℕ} {kind : Kind} → Reached s words base kind → is_locked (slice_index words base) ≡ false
  free-at reached = like-free s n words rest nothing reached (λ h. h)

  live-at : {base : ℕ} {kind : Kind} → Reached s words base kind → is_obsolete (slice_index words base) ≡ false
  live-at reached = like-live s n words rest nothing reached

  -- the call has kept this row's version, and the key's way leads to it
  record IsAt (r : Row) : Type 0 where
    level : r.level ≡ level_in words r.base r.kind
    path : r.path ≡ path_in words r.base r.kind
    leads : LeadsTo s words key r.base r.kind (byte_at c r.level)
    kept : slice_index words r.base ≡ r.kept

  -- the row above has the row in its slot
  record Has-below (a r : Row) (slot : ℕ) : Type 0 where
    at-above : IsAt a
    slot-above : slot_of words a.base a.kind (byte_at c a.level) ≡ Some slot
    hangs : child_on s words a.base a.kind (byte_at c a.level) ≡ ChildRow r.base r.kind

  -- the rows above that the call may still need: none above the root, or the one above
  abbrev IsAbove : List Row → Row → ℕ → Type 0
  IsAbove [] r slot = r.kind ≡ Full
  IsAbove (a ∷ []) r slot = Has-below a r slot
  IsAbove (a ∷ (b ∷ rows)) r slot = ⊥

  is-held : (r : Row) → IsAt r → IsHeld s n words rest r
  is-held r a = record {
    kind = r.kind;
    reached = a.leads.reached;
    free = ap is_locked (sym a.kept) ∙ free-at a.leads.reached;
    live = ap is_obsolete (sym a.kept) ∙ live-at a.leads.reached;
  }

  -- ---- rows that are taken

  abbrev taken : Row → List ℕ → List ℕ
  taken r now = slice_set now r.base (locked_word r.kept)

  take-near : (rows : List Row) (r : Row) (a : IsAt r) (now : List ℕ) → Near s n words rest Nothing (Among s n words rest rows) Nothing now
      → Near s n words rest Nothing (Among s n words rest (r ∷ rows)) Nothing (taken r now)
  take-near rows r a now near =
      near-version s n words rest {held2 = Among s n words rest (r ∷ rows)} {dead2 = Nothing} (locked_word r.kept) near a.leads.reached
      (locked-small r.kept)
      (λ h. locked-live r.kept (is-held r a).live) (λ no_one. absurd (no_one (inl refl))) (λ w h ne. inr h) (λ w d ne. d)

  none-near : Near s n words rest Nothing (Among s n words rest []) Nothing words
  none-near = near-like s n words rest nothing

  one-near : (r : Row) (a : IsAt r) → Near s n words rest Nothing (Among s n words rest (r ∷ [])) Nothing (taken r words)
  one-near r a = take-near [] r a words none-near

  take-comes : (held : List Row) (r : Row) → IsAt r → Comes (take_row c held r) words r (taken r words)
  take-comes held r a = take_row-comes c held r words a.kept (is-held r a).free

  take-few : (held : List Row) (r : Row) (a : IsAt r) → length held ≤ 1 → (take-comes held r a).steps ≤ 3
  take-few held r a one =
      let le = take_row-few c held r words a.kept (is-held r a).free (take-comes held r a) in
      omega (arith, le, one)

  abbrev keys-of : Row → List ℕ
  keys-of r = keys_in_row words r.base r.kind (byte_at c r.level)

  abbrev count-of : Row → ℕ
  count-of r = count_in_row (Insert key value) words r.base r.kind (byte_at c r.level)

  byte : (r : Row) → byte_at c r.level < 256
  byte r = key_byte-small key r.level

  -- ---- a slot with no row in it

  leaf : (r : Row) (a : IsAt r) (slot : ℕ) (child : Child) → slot_of words r.base r.kind (byte_at c r.level) ≡ Some slot
      → child_on s words r.base r.kind (byte_at c r.level) ≡ child → ((b : ℕ) (k : Kind) → child ≡ ChildRow b k → ⊥)
      → Does 11 (insert_leaf c r slot child) words
  unfolding insert_leaf
  leaf r a slot child at on no_row =
      after-part g s variant n words rest few bounded m means key value key_small value_small {f = λ held. insert_in c
      (held ∷ []) slot child >>= λ q. unlock held >> give q}
      (take-comes [] r a) (take-few [] r a (omega arith))
      (ends-in g s variant n words rest few bounded m means key value key_small value_small r (taken r words) (is-held r a) (one-near r a)
      (byte_at c r.level) a.leads
      (byte r) slot at child on no_row)

  -- ---- a row that lacks the byte

  put-row : (r : Row) (a : IsAt r) → slot_of words r.base r.kind (byte_at c r.level) ≡ None
      → count_in_row (Insert key value) words r.base r.kind (byte_at c r.level) < capacity r.kind
      → Does 44 (take_row c [] r >>= λ held. put c held (keys_in_row words r.base r.kind (byte_at c r.level))
      (count_in_row (Insert key value) words r.base r.kind (byte_at c r.level)) >> (unlock held >> give reply.None)) words
  unfolding put
  put-row r a none room =
      let (last, comes, outcome) = put-outcome g.puts g.put_written g.read s variant n words rest m means key value key_small
      value_small r (taken r words)
      (is-held r a)
      (one-near r a) (byte_at c r.level) a.leads (byte r) none room
      ((g.ways s words m key r.base r.kind (byte_at c r.level) rest.tree means a.leads).0 (ap (λ o. child_in s words o) none)) in
      after-part g s variant n words rest few bounded m means key value key_small value_small (take-comes [] r a)
      (take-few [] r a (omega arith))
      (ended g s variant n words rest few bounded m means key value key_small value_small 41
      (then-short (put-short c r (keys-of r) (count-of r) (omega (arith, room))) (then-short (unlock-short r) (give-short reply.None)))
      reply.None (unlocked_rows (r ∷ []) last)
      (inl (then-comes {n = unlock r >> give reply.None} comes
      (then-comes {n = give reply.None} (unlock-comes r last) (give-comes reply.None _)))) outcome)

  abbrev grow-part : Row → Row → ℕ → List ℕ → ℕ → Part Reply
  grow-part p r slot keys count = take_above c (p ∷ []) >>= λ above. take_row c above r >>= λ held. grow c above slot held keys count
      >> give reply.None

  grow-row : (p r : Row) (slot : ℕ) (a : IsAt r) → Has-below p r slot → slot_of words r.base r.kind (byte_at c r.level) ≡ None
      → count_in_row (Insert key value) words r.base r.kind (byte_at c r.level) ≡ capacity r.kind
      → Does 606 (grow-part p r slot (keys-of r) (count-of r)) words
  grow-row p r slot a h none all =
      after-part g s variant n words rest few bounded m means key value key_small value_small {f = λ above. take_row c above r >>= λ held.
      grow c above slot held (keys-of r) (count-of r) >> give reply.None} above-comes above-few
      (after-part g s variant n words rest few bounded m means key value key_small value_small
      {f = λ held. grow c (p ∷ []) slot held (keys-of r)
      (count-of r) >> give reply.None}
      row-comes row-few
      (go done.comes))
    where
      other : r.base ≡ p.base → ⊥
      other = below-other s n words rest h.at-above.leads.reached (byte p) h.hangs

      above-comes : Comes (take_above c (p ∷ [])) words (p ∷ []) (taken p words)
      above-comes = over-comes p [] (λ q held. take_row c held q >>= λ k. give (k ∷ held))
          (bind-comes {f = λ k. give (k ∷ [])} (take-comes [] p h.at-above) (give-comes (p ∷ []) (taken p words)))
          (over_none-comes (λ q held. take_row c held q >>= λ k. give (k ∷ held)) (p ∷ []) (taken p words))

      above-few : above-comes.steps ≤ 3
      above-few =
          let gives = give-comes (p ∷ []) (taken p words) in
          let none = short-comes (give-short (p ∷ [])) gives in
          let takes = bind-comes {f = λ k. give (k ∷ [])} (take-comes [] p h.at-above) gives in
          as-few above-comes (bind-comes {f = λ q. give q} takes gives) (bind-few (λ q. give q) takes gives
          (bind-few (λ k. give (k ∷ [])) (take-comes [] p h.at-above) gives (take-few [] p h.at-above (omega arith)) none) none)

      row-kept : slice_index (taken p words) r.base ≡ r.kept
      row-kept = get_or-set_other words p.base r.base (locked_word p.kept) 0 other ∙ a.kept

      row-comes : Comes (take_row c (p ∷ []) r) (taken p words) r (taken r (taken p words))
      row-comes = take_row-comes c (p ∷ []) r (taken p words) row-kept (is-held r a).free

      row-few : row-comes.steps ≤ 3
      row-few = let le = take_row-few c (p ∷ []) r (taken p words) row-kept (is-held r a).free row-comes in omega (arith, le)

      done : Grows g.trees g.grown g.row_written g.read g.versions g.sized s variant n words rest few bounded m means key value
          key_small value_small
          (grow c (p ∷ []) slot r (keys-of r) (count-of r)) (taken r (taken p words))
      done = grows g.trees g.grown g.row_written g.read g.versions g.sized s variant n words rest few bounded m means key value
          key_small value_small r p
          (taken r (taken p words))
          (is-held r a) (is-held p h.at-above) (take-near (p ∷ []) r a (taken p words) (one-near p h.at-above))
          (byte_at c p.level) slot h.at-above.leads (byte p)
          h.slot-above h.hangs a.leads (byte r) a.level a.path none all
          ((g.ways s words m key r.base r.kind (byte_at c r.level) rest.tree means a.leads).0 (ap (λ o. child_in s words o) none))

      short_part : Short 600 (grow c (p ∷ []) slot r (keys-of r) (count-of r) >> give reply.None)
      short_part = then-short (grow-short c p slot r (keys-of r) (count-of r) (omega (arith, all))) (give-short reply.None)

      go : (Comes (grow c (p ∷ []) slot r (keys-of r) (count-of r)) (taken r (taken p words)) tt done.after
          × Outcome s n words rest m means key value reply.None done.after)
          ⊎ (Ends (grow c (p ∷ []) slot r (keys-of r) (count-of r)) (taken r (taken p words)) reply.Refused done.after
          × Outcome s n words rest m means key value reply.Refused done.after)
          → Does 600 (grow c (p ∷ []) slot r (keys-of r) (count-of r) >> give reply.None) (taken r (taken p words))
      go (inl (k, o)) =
          ended g s variant n words rest few bounded m means key value key_small value_small 600 short_part reply.None done.after
          (inl (then-comes {n = give reply.None} k (give-comes reply.None _))) o
      go (inr (k, o)) =
          ended g s variant n words rest few bounded m means key value key_small value_small 600 short_part reply.Refused done.after
          (inr (ends-then {n = give reply.None} k)) o

  -- ---- levels

  -- the key begins as the keys below the row's byte
  alike : (r : Row) → IsAt r → take (level_in words r.base r.kind + 1) (key_bytes key) ≡ path_in words r.base
      r.kind ++ byte_at c r.level ∷ []
  alike r a =
      one_more (level_in words r.base r.kind) (key_bytes key) (omega (arith, level-most words r.base r.kind))
      ∙ (ap (λ p. p ++ slice_index (key_bytes key) (level_in words r.base r.kind) ∷ []) a.leads.path
      ∙ ap (λ x. path_in words r.base r.kind ++ x ∷ []) (sym a.leads.byte))

  -- a part that is done below the row's level
  below-part : (r : Row) (a : IsAt r) (d : ℕ) {k : ℕ} (part : Part Reply) (now : List ℕ)
      → level_in words r.base r.kind + 1 ≤ d → Does k part now
      → Does k (below_level r d part) now
  below-part r a d part now more i =
      same-part g s variant n words rest few bounded m means key value key_small value_small
      (λ again after got. ap (λ (b : Bool). (if b then start_again else part) again after got)
      (lt-leb d r.level (omega (arith, more, a.level)))) i

  -- ---- the row below

  down-comes : (r : Row) (q : ℕ) (k : Kind) → slice_index words r.base ≡ r.kept → Reached s words q k
      → Comes (step_down c r q k) words (row_of q k (slice_index words (info_at q)) (slice_index words q)) words
  unfolding step_down
  down-comes r q k kept reached =
      bind-comes {f = λ v. check_of c r >> (load (info_at q) >>= λ info. give (row_of q k info v))}
      (wait-comes q words (free-at reached) (live-at reached))
      (then-comes {n = load (info_at q) >>= λ info. give (row_of q k info (slice_index words q))} (check_of-comes c r words kept)
      (bind-comes {f = λ info. give (row_of q k info (slice_index words q))} (load-comes (info_at q) words)
      (give-comes (row_of q k (slice_index words (info_at q)) (slice_index words q)) words)))

  down-few : (r : Row) (q : ℕ) (k : Kind) (kept : slice_index words r.base ≡ r.kept) (reached : Reached s words q k)
      → (down-comes r q k kept reached).steps ≤ 3
  unfolding down-comes step_down bind-comes then-comes load-comes give-comes
  down-few r q k kept reached =
      let waits = wait-few q words (free-at reached) (live-at reached) in
      let checks = short-comes (check_of-short c r) (check_of-comes c r words kept) in
      omega (arith, waits, checks)

  -- a row is within 2^61 words
  row-bound : (b : ℕ) (k : Kind) → Reached s words b k → b < 2305843009213693952
  row-bound b k q = omega (arith, bounded, (sits-inside s b 0 k (sits s n words rest q) (omega (arith, two-words k))).1)

  beside : (r : Row) (a : IsAt r) (slot b : ℕ) (k : Kind) (info v d : ℕ) → slot_of words r.base r.kind (byte_at c r.level) ≡ Some slot
      → child_on s words r.base r.kind (byte_at c r.level) ≡ ChildRow b k → info ≡ slice_index words (info_at b)
      → first_difference (path_in words b k) (key_bytes key) ≡ Some d
      → Does 11 (take_row c [] r >>= λ held. insert_beside c (held ∷ []) slot (row_of b k (slice_index words
      (info_at b)) v) d >>= λ q. unlock held >> give q) words
  unfolding insert_beside
  beside r a slot b k info v d at on is differ =
      after-part g s variant n words rest few bounded m means key value key_small value_small {f = λ held.
      insert_beside c (held ∷ []) slot (row_of b k (slice_index words (info_at b)) v) d >>= λ q. unlock held >> give q} (take-comes [] r a)
      (take-few [] r a (omega arith))
      (pair-in g s variant n words rest few bounded m means key value key_small value_small r (taken r words) (is-held r a) (one-near r a)
      (byte_at c r.level) a.leads
      (byte r) slot at d (slice_index (path_in words b k) d) (ChildRow b k) on (differ, refl)
      (sits-kind_at s b k (sits s n words rest (below a.leads.reached (byte_at c r.level) (byte r) on)))
      (row-bound b k (below a.leads.reached (byte_at c r.level) (byte r) on)) (path_byte-small words b k d)
      (first-differs (path_in words b k) (key_bytes key) d differ)
      ((g.ways s words m key r.base r.kind (byte_at c r.level) rest.tree means a.leads).2 b d k on differ))

  abbrev DoesFrom : ℕ → Type 0
  DoesFrom fuel = (p : Place) → IsAt p.row → IsAbove p.above p.row p.slot → 4 ≤ fuel + p.row.level
      → Does (700 + 10 * fuel) (insert_from c p) words

  row : (fuel : ℕ) → DoesFrom fuel → (r : Row) (a : IsAt r) → 4 ≤ suc fuel + r.level → (slot b : ℕ) (k : Kind)
      → slot_of words r.base r.kind (byte_at c r.level) ≡ Some slot
      → child_on s words r.base r.kind (byte_at c r.level) ≡ ChildRow b k
      → Does (704 + 10 * fuel) (step_down c r b k >>= λ q. insert_below c (insert_from c) r slot q (path_differs_at c q)) words
  row fuel more r a enough slot b k at on =
      within g s variant n words rest few bounded m means key value key_small value_small (704 + 10 * fuel)
      (after-part g s variant n words rest few bounded m means key value key_small value_small
      {f = λ q. insert_below c (insert_from c) r slot q (path_differs_at c q)}
      (down-comes r b k a.kept reached) (down-few r b k a.kept reached) (go (path_differs_at c found) refl)) (omega arith)
    where
      reached : Reached s words b k
      reached = below a.leads.reached (byte_at c r.level) (byte r) on

      found : Row
      found = row_of b k (slice_index words (info_at b)) (slice_index words b)

      lower : (level_in words r.base r.kind < level_in words b k) × (take (level_in words r.base r.kind + 1) (path_in words b k)
          ≡ path_in words r.base r.kind ++ byte_at c r.level ∷ [])
      lower = rest.tree.row r.base b (byte_at c r.level) r.kind k a.leads.reached (byte r) on

      by : (o : Option ℕ) → path_differs_at c found ≡ o → Does (700 + 10 * fuel) (insert_below c (insert_from c) r slot found o) words
      by None e = more (record { row = found; above = r ∷ []; slot = slot })
          (record { level = refl; path = refl; leads = leads-below s n words rest a.leads (byte r) on e; kept = refl })
          (record { at-above = a; slot-above = at; hangs = on }) (omega (arith, enough, lower.0, a.level))
      by (Some d) e = within g s variant n words rest few bounded m means key value key_small value_small (700 + 10 * fuel)
          (below-part r a d _ words
          (differ-behind (level_in words r.base r.kind + 1) (path_in words b k) (key_bytes key) d (lower.1 ∙ sym (alike r a))
          (omega (arith, lower.0, (rest.tree.info b k reached).0)) e)
          (beside r a slot b k (slice_index words (info_at b)) (slice_index words b) d at on refl e)) (omega arith)

      go : (o : Option ℕ) → path_differs_at c found ≡ o
          → Does (700 + 10 * fuel) (insert_below c (insert_from c) r slot found (path_differs_at c found)) words
      go o e = subst (λ o. Does (700 + 10 * fuel) (insert_below c (insert_from c) r slot found o) words) (sym e) (by o e)

  -- ---- the whole way

  child : (fuel : ℕ) → DoesFrom fuel → (p : Place) (a : IsAt p.row) → 4 ≤ suc fuel + p.row.level → (slot : ℕ)
      → slot_of words p.row.base p.row.kind (byte_at c p.row.level) ≡ Some slot → (child : Child)
      → child_on s words p.row.base p.row.kind (byte_at c p.row.level) ≡ child
      → Does (704 + 10 * fuel) (insert_at c (insert_from c) p (Has slot child)) words
  unfolding insert_at
  child fuel more p a enough slot e Empty at =
      within g s variant n words rest few bounded m means key value key_small value_small (704 + 10 * fuel)
      (leaf p.row a slot Empty e at (λ b k is. empty_row is)) (omega arith)
    where
      empty_row : {b : ℕ} {k : Kind} → Empty ≡ ChildRow b k → ⊥
      empty_row h = cc
  child fuel more p a enough slot e (ChildRow b k) at = row fuel more p.row a enough slot b k e at
  child fuel more p a enough slot e (Leaf k old) at =
      within g s variant n words rest few bounded m means key value key_small value_small (704 + 10 * fuel)
      (go (k == key) refl) (omega arith)
    where
      leaf_row : {b : ℕ} {q : Kind} → Leaf k old ≡ ChildRow b q → ⊥
      leaf_row h = cc

      go : (t : Bool) → (k == key) ≡ t → Does 11 (if t then insert_leaf c p.row slot (Leaf k old)
          else below_level p.row (keys_differ_at k key) (insert_leaf c p.row slot (Leaf k old))) words
      go true same = leaf p.row a slot (Leaf k old) e at (λ b q is. leaf_row is)
      go false other =
          let (k_small, old_small) = g.leaves s words p.row.base p.row.kind (byte_at c p.row.level) k old rest.small at in
          let (i, is) = g.part k key k_small key_small (eqb-false k key other) in
          let differ : first_difference (key_bytes k) (key_bytes key) ≡ Some (keys_differ_at k key) = is
          ∙ ap Some (sym (ap (λ o. unwrap_or o 0) is)) in
          below-part p.row a (keys_differ_at k key) (insert_leaf c p.row slot (Leaf k old)) words
          (differ-behind (level_in words p.row.base p.row.kind + 1) (key_bytes k) (key_bytes key) (keys_differ_at k key)
          (rest.tree.leaf p.row.base (byte_at c p.row.level) k old p.row.kind a.leads.reached (byte p.row) at ∙ sym (alike p.row a))
          (omega (arith, level-most words p.row.base p.row.kind)) differ)
          (leaf p.row a slot (Leaf k old) e at (λ b q is. leaf_row is))

  lack : (p : Place) (a : IsAt p.row) → IsAbove p.above p.row p.slot → slot_of words p.row.base p.row.kind (byte_at c p.row.level) ≡ None
      → Does 606 (insert_at c (insert_from c) p (Lacks (keys-of p.row) (count-of p.row))) words
  unfolding insert_at
  lack p a above none = go (count-of p.row == capacity p.row.kind) refl
    where
      full : (rows : List Row) → IsAbove rows p.row p.slot → count-of p.row ≡ capacity p.row.kind
          → Does 606 (take_above c rows >>= λ above. take_row c above p.row >>= λ held. grow c above p.slot held (keys-of p.row)
          (count-of p.row) >> give reply.None) words
      full [] kind all = absurd (full_has p.row.kind kind none)
        where
          full_has : (k : Kind) → k ≡ Full → slot_of words p.row.base k (byte_at c p.row.level) ≡ None → ⊥
          full_has k is h = none-some _ (sym (subst (λ k. slot_of words p.row.base k (byte_at c p.row.level) ≡ None) is h))
      full (q ∷ []) h all = grow-row q p.row p.slot a h none all
      full (q ∷ (q2 ∷ rows)) h all = absurd h

      go : (t : Bool) → (count-of p.row == capacity p.row.kind) ≡ t → Does 606 (if t
          then (take_above c p.above >>= λ above. take_row c above p.row >>= λ held. grow c above p.slot held (keys-of p.row)
          (count-of p.row) >> give reply.None)
          else (take_row c [] p.row >>= λ held. put c held (keys-of p.row) (count-of p.row) >> (unlock held >> give reply.None))) words
      go true e = full p.above above (eqb-true (count-of p.row) (capacity p.row.kind) e)
      go false e = within g s variant n words rest few bounded m means key value key_small value_small 606 (put-row p.row a none
          (le-differs_lt (count-of p.row) (capacity p.row.kind)
          (count-most (Insert key value) words p.row.base p.row.kind (byte_at c p.row.level))
          (eqb-false (count-of p.row) (capacity p.row.kind) e))) (omega arith)

  step : (fuel : ℕ) → DoesFrom fuel → DoesFrom (suc fuel)
  step fuel more p a above enough = found (slot_of words p.row.base p.row.kind (byte_at c p.row.level)) refl
    where
      after : (o : Option ℕ) → slot_of words p.row.base p.row.kind (byte_at c p.row.level) ≡ o
          → Does (704 + 10 * fuel) (insert_at c (insert_from c) p (found_of_slot s words (keys-of p.row) (count-of p.row) o)) words
          → Does (700 + 10 * suc fuel) (insert_from c p) words
      after o e i =
          within g s variant n words rest few bounded m means key value key_small value_small (700 + 10 * suc fuel)
          (same-part g s variant n words rest few bounded m means key value key_small value_small (insert_from_optimistic-body c p)
          (after-part g s variant n words rest few bounded m means key value key_small value_small
          {f = λ found. check_of c p.row >> insert_at c (insert_from c) p found} (find-comes c p.row words)
          (short-comes (find-short c p.row) (find-comes c p.row words))
          (after-part g s variant n words rest few bounded m means key value key_small value_small {f = λ _.
          insert_at c (insert_from c) p
          (found_of_slot s words (keys-of p.row) (count-of p.row) (slot_of words p.row.base p.row.kind (byte_at c p.row.level)))}
          (check_of-comes c p.row words a.kept) (short-comes (check_of-short c p.row) (check_of-comes c p.row words a.kept))
          (subst (λ o. Does (704 + 10 * fuel) (insert_at c (insert_from c) p (found_of_slot s words (keys-of p.row) (count-of p.row) o))
          words) (sym e) i))))
          (omega arith)

      found : (o : Option ℕ) → slot_of words p.row.base p.row.kind (byte_at c p.row.level) ≡ o
          → Does (700 + 10 * suc fuel) (insert_from c p) words
      found None e = after None e (within g s variant n words rest few bounded m means key value key_small value_small (704 + 10 * fuel)
          (lack p a above e) (omega arith))
      found (Some slot) e = after (Some slot) e
          (child fuel more p a enough slot e (child_of s (slice_index words slot)) (ap (λ o. child_in s words o) e))

  does-from : (fuel : ℕ) → DoesFrom fuel
  does-from zero p a above enough = absurd (omega (arith, enough, a.level, level-most words p.row.base p.row.kind))
  does-from (suc fuel) p a above enough = step fuel (does-from fuel) p a above enough

  -- The whole call does what it does on the map, or is refused.
  pub inserts-optimistic : Inserts g s variant n words rest few bounded m means key value key_small value_small 1000 (insert c) words
  unfolding insert
  inserts-optimistic =
      within g s variant n words rest few bounded m means key value key_small value_small 1000
      (after-part g s variant n words rest few bounded m means key value key_small value_small
      {f = λ v. insert_from c (record { row = root_row c v; above = []; slot = root_base s })}
      (wait-comes (root_base s) words (free-at {kind = Full} root) (live-at {kind = Full} root))
      (wait-few (root_base s) words (free-at {kind = Full} root) (live-at {kind = Full} root))
      (does-from 4 (record { row = root_row c (slice_index words (root_base s)); above = []; slot = root_base s })
      (record {
        level = sym (leads-root s n words rest key).0;
        path = sym (ap (λ w. (info_of Full w).path) rest.tree.root);
        leads = (leads-root s n words rest key).1;
        kept = refl;
      }) refl (omega arith))) (omega arith)
