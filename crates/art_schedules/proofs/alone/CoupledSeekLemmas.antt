-- A get, a remove or a replace under lock coupling, run alone on a table at rest, goes its key's way.
use Rattle.art_schedules.proofs.Common.{◌≡◌, ◌⊎◌, inl, inr, ℕ, zero, suc, ◌+◌, ◌<◌, ◌≤◌, List, Bool, true, false}
use Rattle.art_schedules.proofs.Common.{refl, sym, ap, subst, arith, eqb-true, eqb-false, Kind, Full, Child, Empty, ChildRow, Leaf}
use Rattle.art_schedules.proofs.Common.{root_base, info_at, is_locked, is_obsolete, locked_word, released_word, key_bytes, child_of, two-words}
use Rattle.art_schedules.proofs.Common.{key_byte-small, Part, ◌>>=◌, ◌>>◌, give, load, Setting, key_of, byte_at, row_of, root_row}
use Rattle.art_schedules.proofs.Common.{path_differs_at, lock, unlock, find, overwriting, Reached, root, below, child_in, child_on}
use Rattle.art_schedules.proofs.Common.{slot_of, level_in, IsAtRest, LeadsTo, Comes, keys_in_row, count_in_row, found_of_slot}
use Rattle.std.proofs.Common.{slice_set, Option, ◌==◌, slice_index, Some, None, if◌then◌else◌}
use Rattle.events.specs.declared.event.Reply.TheVariants as reply
use Rattle.art_rows.specs.Rows.{releases_early, Row, Has, Lacks}
use Rattle.art_rows.specs.Coupled.{overwrite, seek_below, step_down, seek_at, seek_from, seek}
use Rattle.art_rows.proofs.GuardLemmas.{seek_from-body}
use Rattle.art_schedules.proofs.alone.AloneLemmas.{give-comes, bind-comes, then-comes, if_true-comes, if_false-comes, same-comes, load-comes}
use Rattle.art_schedules.proofs.alone.AloneLemmas.{store-comes}
use Rattle.art_schedules.proofs.alone.RowRunLemmas.{with_lock, lock-comes, unlock-comes}
use Rattle.art_schedules.proofs.alone.FindingLemmas.{find-comes}
use Rattle.art_schedules.proofs.alone.SlotLemmas.{slot-is, found-same}
use Rattle.art_schedules.proofs.alone.VersionLemmas.{locked-live, released-live, released-free, locked-small, released-small}
use Rattle.art_schedules.proofs.alone.LikeLemmas.{Like, Nothing, like-start, like-version, like-slot, like-row, like-free, like-live}
use Rattle.art_schedules.proofs.alone.WayLemmas.{level-most, leads-root, leads-below, below-other, Writes, EndsAt, WritesWords, Seeks}

module _ (c : Setting) (n : ℕ) (words : List ℕ) (rest : IsAtRest c.shape n words) (small : WritesWords c.call) where
  abbrev key : ℕ
  key = key_of c.call

  -- the call holds this row, and nothing else, and the key's way leads to it
  record IsAt (r : Row) (now : List ℕ) : Type 0 where
    level : r.level ≡ level_in words r.base r.kind
    leads : LeadsTo c.shape words key r.base r.kind (byte_at c r.level)
    like : Like c.shape words words now (λ w. w ≡ r.base)
    free : is_locked r.kept ≡ false
    live : is_obsolete r.kept ≡ false

  abbrev SeeksFrom : ℕ → Type 0
  SeeksFrom fuel = (r : Row) (now : List ℕ) → IsAt r now → 4 ≤ fuel + r.level → Seeks c.shape words c.call (seek_from c r) now

  -- ---- unlocking the row that is held

  abbrev released : Row → List ℕ → List ℕ
  released r now = slice_set now r.base (released_word r.kept)

  release : {target now : List ℕ} {kind : Kind} (r : Row) → is_locked r.kept ≡ false → is_obsolete r.kept ≡ false
      → Reached c.shape words r.base kind
      → Like c.shape words target now (λ w. w ≡ r.base) → Like c.shape words target (released r now) Nothing
  release r free live reached like =
      like-version c.shape n words rest {held2 = Nothing} (released_word r.kept) like reached (released-small r.kept)
      (released-live r.kept live)
      (λ no_one. released-free r.kept free) (λ w h ne. ne h)

  -- the row is unlocked, and the key is not there
  none : (r : Row) (now : List ℕ) (a : IsAt r now) → (child : Child) → child_on c.shape words r.base r.kind (byte_at c r.level) ≡ child
      → (Like c.shape words words (released r now) Nothing
      → EndsAt c.shape words c.call reply.None (released r now) r.base r.kind (byte_at c r.level) child)
      → Seeks c.shape words c.call (unlock r >> give reply.None) now
  none r now a child at ended = record {
    reply = reply.None;
    later = released r now;
    comes = then-comes {n = give reply.None} (unlock-comes r now) (give-comes reply.None (released r now));
    arrives = record {
      base = r.base;
      kind = r.kind;
      x = byte_at c r.level;
      leads = a.leads;
      byte = key_byte-small key r.level;
      child = child;
      at = at;
      ended = ended (release r a.free a.live a.leads.reached a.like);
    };
  }

  -- ---- the leaf

  overwritten : Option ℕ → ℕ → List ℕ → List ℕ
  overwritten None slot now = now
  overwritten (Some word) slot now = slice_set now slot word

  overwrite-comes : (slot : ℕ) (o : Option ℕ) (now : List ℕ) → Comes (overwrite slot o) now tt (overwritten o slot now)
  unfolding overwritten
  overwrite-comes slot None now = give-comes tt now
  overwrite-comes slot (Some word) now = store-comes slot word now

  writes : (r : Row) (now : List ℕ) (a : IsAt r now) (slot : ℕ)
      → slot_of words r.base r.kind (byte_at c r.level) ≡ Some slot → (o : Option ℕ)
      → ((word : ℕ) → o ≡ Some word → word < 18446744073709551616)
      → Writes c.shape words (released r (overwritten o slot now)) r.base r.kind (byte_at c r.level) o
  unfolding overwritten
  writes r now a slot e None little = release r a.free a.live a.leads.reached a.like
  writes r now a slot e (Some word) little = (
    slot,
    e,
    release r a.free a.live a.leads.reached (like-slot c.shape n words rest word a.like a.leads.reached
        (slot-is words r.base r.kind (byte_at c r.level) slot (key_byte-small key r.level) e) (little word refl)),
  )

  leaf : (r : Row) (now : List ℕ) (a : IsAt r now) (slot k value : ℕ) → slot_of words r.base r.kind (byte_at c r.level) ≡ Some slot
      → child_on c.shape words r.base r.kind (byte_at c r.level) ≡ Leaf k value
      → Seeks c.shape words c.call (seek_at c (seek_from c) r (Has slot (Leaf k value))) now
  unfolding seek_at
  leaf r now a slot k value e at = go (k == key) refl
    where
      go : (b : Bool) → (k == key) ≡ b
          → Seeks c.shape words c.call (if b then (overwrite slot (overwriting c.call value) >> (unlock r >> give (reply.Some value)))
          else (unlock r >> give reply.None)) now
      go false other = none r now a (Leaf k value) at (λ like. inr (eqb-false k key other, refl, like))
      go true same =
          let now2 = overwritten (overwriting c.call value) slot now in
          record {
            reply = reply.Some value;
            later = released r now2;
            comes = then-comes {n = unlock r >> give (reply.Some value)} (overwrite-comes slot (overwriting c.call value) now)
                (then-comes {n = give (reply.Some value)} (unlock-comes r now2) (give-comes (reply.Some value) (released r now2)));
            arrives = record {
              base = r.base;
              kind = r.kind;
              x = byte_at c r.level;
              leads = a.leads;
              byte = key_byte-small key r.level;
              child = Leaf k value;
              at = at;
              ended = inl (eqb-true k key same, refl, writes r now a slot e (overwriting c.call value) (small value));
            };
          }

  -- ---- the row below

  -- the row below is held in the place of this one
  record StepsDown (r : Row) (now : List ℕ) (m : ℕ) (k : Kind) : Type 0 where
    version : ℕ
    later : List ℕ
    comes : Comes (step_down c r m k) now (row_of m k (slice_index words (info_at m)) version) later
    like : Like c.shape words words later (λ w. w ≡ m)
    free : is_locked version ≡ false
    live : is_obsolete version ≡ false

  -- the row below is locked
  lock-like : {now : List ℕ} {held held2 : ℕ → Type 0} {m : ℕ} {k : Kind} → Like c.shape words words now held → Reached c.shape words m k
      → ((w : ℕ) → held w → held2 w) → held2 m → Like c.shape words words (with_lock now m) held2
  lock-like {now} {held} {held2} {m} {k} like reached more holds =
      like-version c.shape n words rest {held2 = held2} (locked_word (slice_index now m)) like reached (locked-small (slice_index now m))
      (locked-live (slice_index now m) (like-live c.shape n words rest like reached)) (λ no_one. absurd (no_one holds)) (λ w h ne. more w h)

  info-comes : {now : List ℕ} {held : ℕ → Type 0} {m : ℕ} {k : Kind} (v : ℕ) → Like c.shape words words now held → Reached c.shape words m k
      → Comes (load (info_at m) >>= λ info. give (row_of m k info v)) now (row_of m k (slice_index words (info_at m)) v) now
  info-comes {now} {held} {m} {k} v like reached =
      subst (λ (w : ℕ). Comes (load (info_at m) >>= λ info. give (row_of m k info v)) now (row_of m k w v) now)
      (like-row c.shape n words rest like reached 1 (omega arith) (two-words k))
      (bind-comes {f = λ info. give (row_of m k info v)} (load-comes (info_at m) now)
      (give-comes (row_of m k (slice_index now (info_at m)) v) now))

  down : (r : Row) (now : List ℕ) (a : IsAt r now) (m : ℕ) (k : Kind)
      → child_on c.shape words r.base r.kind (byte_at c r.level) ≡ ChildRow m k
      → Reached c.shape words m k → StepsDown r now m k
  unfolding step_down
  down r now a m k at reached = go (releases_early c.variant) refl
    where
      other : m ≡ r.base → ⊥
      other = below-other c.shape n words rest a.leads.reached (key_byte-small key r.level) at

      early : Part Row
      early = unlock r >> (lock c.shape m >>= λ v. load (info_at m) >>= λ info. give (row_of m k info v))

      coupled : Part Row
      coupled = lock c.shape m >>= λ v. unlock r >> (load (info_at m) >>= λ info. give (row_of m k info v))

      go : (b : Bool) → releases_early c.variant ≡ b → StepsDown r now m k
      go true e =
          let free_now = release r a.free a.live a.leads.reached a.like in
          let v = slice_index (released r now) m in
          let held = lock-like {held2 = λ w. w ≡ m} free_now reached (λ w h. absurd h) refl in
          record {
            version = v;
            later = with_lock (released r now) m;
            comes = if_true-comes coupled e (then-comes {n = lock c.shape m >>= λ v. load (info_at m) >>= λ info. give (row_of m k info v)}
                (unlock-comes r now)
                (bind-comes {f = λ v. load (info_at m) >>= λ info. give (row_of m k info v)}
                (lock-comes c.shape m (released r now) (like-free c.shape n words rest free_now reached (λ h. h)))
                (info-comes v held reached)));
            like = held;
            free = like-free c.shape n words rest free_now reached (λ h. h);
            live = like-live c.shape n words rest free_now reached;
          }
      go false e =
          let v = slice_index now m in
          let both = lock-like {held2 = λ w. (w ≡ r.base) ⊎ (w ≡ m)} a.like reached (λ w h. inl h) (inr refl) in
          let one : Like c.shape words words (released r (with_lock now m)) (λ w. w ≡ m) =
          like-version c.shape n words rest {held2 = λ w. w ≡ m} (released_word r.kept) both a.leads.reached (released-small r.kept)
          (released-live r.kept a.live) (λ no_one. released-free r.kept a.free) (λ w h ne. keep w h ne) in
          record {
            version = v;
            later = released r (with_lock now m);
            comes = if_false-comes early e (bind-comes {f = λ v. unlock r >> (load (info_at m) >>= λ info. give (row_of m k info v))}
                (lock-comes c.shape m now (like-free c.shape n words rest a.like reached other))
                (then-comes {n = load (info_at m) >>= λ info. give (row_of m k info v)} (unlock-comes r (with_lock now m))
                (info-comes v one reached)));
            like = one;
            free = like-free c.shape n words rest a.like reached other;
            live = like-live c.shape n words rest a.like reached;
          }
        where
          keep : (w : ℕ) → (w ≡ r.base) ⊎ (w ≡ m) → (w ≡ r.base → ⊥) → w ≡ m
          keep w (inl h) ne = absurd (ne h)
          keep w (inr h) ne = h

  row : (fuel : ℕ) → SeeksFrom fuel → (r : Row) (now : List ℕ) (a : IsAt r now) → 4 ≤ suc fuel + r.level → (slot m : ℕ) (k : Kind)
      → child_on c.shape words r.base r.kind (byte_at c r.level) ≡ ChildRow m k
      → Seeks c.shape words c.call (seek_at c (seek_from c) r (Has slot (ChildRow m k))) now
  unfolding seek_at
  row fuel more r now a enough slot m k at = go (path_differs_at c found) refl
    where
      byte : byte_at c r.level < 256
      byte = key_byte-small key r.level

      reached : Reached c.shape words m k
      reached = below a.leads.reached (byte_at c r.level) byte at

      d : StepsDown r now m k
      d = down r now a m k at reached

      found : Row
      found = row_of m k (slice_index words (info_at m)) d.version

      deeper : r.level < found.level
      deeper = omega (arith, (rest.tree.row r.base m (byte_at c r.level) r.kind k a.leads.reached byte at).0, a.level)

      after : (o : Option ℕ) → path_differs_at c found ≡ o → Seeks c.shape words c.call (seek_below c (seek_from c) found o) d.later
          → Seeks c.shape words c.call (step_down c r m k >>= λ q. seek_below c (seek_from c) q (path_differs_at c q)) now
      after o e s = record {
        reply = s.reply;
        later = s.later;
        comes = bind-comes {f = λ q. seek_below c (seek_from c) q (path_differs_at c q)} d.comes
            (subst (λ o. Comes (seek_below c (seek_from c) found o) d.later s.reply s.later) (sym e) s.comes);
        arrives = s.arrives;
      }

      go : (o : Option ℕ) → path_differs_at c found ≡ o
          → Seeks c.shape words c.call (step_down c r m k >>= λ q. seek_below c (seek_from c) q (path_differs_at c q)) now
      go None e = after None e (more found d.later
          (record {
            level = refl;
            leads = leads-below c.shape n words rest a.leads byte at e;
            like = d.like;
            free = d.free;
            live = d.live;
          }) (omega (arith, enough, deeper)))
      go (Some i) e = after (Some i) e (record {
        reply = reply.None;
        later = released found d.later;
        comes = then-comes {n = give reply.None} (unlock-comes found d.later) (give-comes reply.None (released found d.later));
        arrives = record {
          base = r.base;
          kind = r.kind;
          x = byte_at c r.level;
          leads = a.leads;
          byte = byte;
          child = ChildRow m k;
          at = at;
          ended = (i, e, refl, release found d.free d.live reached d.like);
        };
      })

  -- ---- the whole way

  child : (fuel : ℕ) → SeeksFrom fuel → (r : Row) (now : List ℕ) (a : IsAt r now) → 4 ≤ suc fuel + r.level → (slot : ℕ)
      → slot_of words r.base r.kind (byte_at c r.level) ≡ Some slot → (child : Child)
      → child_on c.shape words r.base r.kind (byte_at c r.level) ≡ child
      → Seeks c.shape words c.call (seek_at c (seek_from c) r (Has slot child)) now
  unfolding seek_at
  child fuel more r now a enough slot e Empty at = none r now a Empty at (λ like. (refl, like))
  child fuel more r now a enough slot e (Leaf k value) at = leaf r now a slot k value e at
  child fuel more r now a enough slot e (ChildRow m k) at = row fuel more r now a enough slot m k at

  lack : (r : Row) (now keys : List ℕ) (count : ℕ) → Seeks c.shape words c.call (unlock r >> give reply.None) now
      → Seeks c.shape words c.call (seek_at c (seek_from c) r (Lacks keys count)) now
  unfolding seek_at
  lack r now keys count s = s

  step : (fuel : ℕ) → SeeksFrom fuel → SeeksFrom (suc fuel)
  step fuel more r now a enough = found (slot_of words r.base r.kind x) refl
    where
      x : ℕ
      x = byte_at c r.level

      keys : List ℕ
      keys = keys_in_row words r.base r.kind x

      count : ℕ
      count = count_in_row c.call words r.base r.kind x

      finds : Comes (find c r) now (found_of_slot c.shape words keys count (slot_of words r.base r.kind x)) now
      finds = subst (λ f. Comes (find c r) now f now)
          (found-same words now r.base c r.kind x (key_byte-small key r.level) (like-row c.shape n words rest a.like a.leads.reached))
          (find-comes c r now)

      lacks : slot_of words r.base r.kind x ≡ None → Seeks c.shape words c.call (unlock r >> give reply.None) now
      lacks e = none r now a Empty (ap (λ o. child_in c.shape words o) e) (λ like. (refl, like))

      after : (o : Option ℕ) → slot_of words r.base r.kind x ≡ o
          → Seeks c.shape words c.call (seek_at c (seek_from c) r (found_of_slot c.shape words keys count o)) now
          → Seeks c.shape words c.call (seek_from c r) now
      after o e s = record {
        reply = s.reply;
        later = s.later;
        comes = same-comes (seek_from-body c r) (bind-comes {f = seek_at c (seek_from c) r} finds
            (subst (λ o. Comes (seek_at c (seek_from c) r (found_of_slot c.shape words keys count o)) now s.reply s.later) (sym e)
            s.comes));
        arrives = s.arrives;
      }

      found : (o : Option ℕ) → slot_of words r.base r.kind x ≡ o → Seeks c.shape words c.call (seek_from c r) now
      found None e = after None e (lack r now keys count (lacks e))
      found (Some slot) e = after (Some slot) e
          (child fuel more r now a enough slot e (child_of c.shape (slice_index words slot)) (ap (λ o. child_in c.shape words o) e))

  -- from a held row on
  seeks-from : (fuel : ℕ) → SeeksFrom fuel
  seeks-from zero r now a enough = absurd (omega (arith, enough, a.level, level-most words r.base r.kind))
  seeks-from (suc fuel) r now a enough = step fuel (seeks-from fuel) r now a enough

  -- The whole call goes its key's way.
  pub seeks-coupled : Seeks c.shape words c.call (seek c) words
  unfolding seek
  seeks-coupled = record {
    reply = s.reply;
    later = s.later;
    comes = bind-comes {f = λ v. seek_from c (root_row c v)} (lock-comes c.shape (root_base c.shape) words unlocked) s.comes;
    arrives = s.arrives;
  }
    where
      v : ℕ
      v = slice_index words (root_base c.shape)

      nothing : Like c.shape words words words Nothing
      nothing = like-start c.shape n words rest Nothing

      unlocked : is_locked (slice_index words (root_base c.shape)) ≡ false
      unlocked = like-free c.shape n words rest {kind = Full} nothing root (λ h. h)

      leads : (level_in words (root_base c.shape) Full ≡ 0)
          × LeadsTo c.shape words key (root_base c.shape) Full (slice_index (key_bytes key) 0)
      leads = leads-root c.shape n words rest key

      s : Seeks c.shape words c.call (seek_from c (root_row c v)) (with_lock words (root_base c.shape))
      s = seeks-from 4 (root_row c v) (with_lock words (root_base c.shape)) (record {
        level = sym leads.0;
        leads = leads.1;
        like = lock-like {held2 = λ w. w ≡ root_base c.shape} nothing root (λ w h. absurd h) refl;
        free = unlocked;
        live = like-live c.shape n words rest {kind = Full} nothing root;
      }) (omega arith)
