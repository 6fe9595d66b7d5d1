-- A get, a remove or a replace under optimistic lock coupling, run alone on a table at rest, goes its key's way.
use Rattle.art_schedules.proofs.Common.{◌≡◌, inl, inr, ℕ, zero, suc, ◌+◌, ◌<◌, ◌≤◌, List, [], Bool, true, false}
use Rattle.art_rows.specs.Rows.{Row, Has, Lacks}
use Rattle.art_schedules.proofs.Common.{refl, sym, ap, ◌∙◌, subst, arith, eqb-true, eqb-false, Kind, Full, Child, Empty, ChildRow}
use Rattle.art_schedules.proofs.Common.{Leaf, root_base, info_at, is_locked, is_obsolete, locked_word, released_word, key_bytes, child_of}
use Rattle.art_schedules.proofs.Common.{key_byte-small, ◌>>=◌, ◌>>◌, give, load, store, Setting, key_of, byte_at, row_of, root_row}
use Rattle.art_schedules.proofs.Common.{path_differs_at, check_of, unlock, overwriting, step_down, Reached, root, below, child_in}
use Rattle.art_schedules.proofs.Common.{child_on, slot_of, level_in, IsAtRest, LeadsTo, Comes, keys_in_row, count_in_row, found_of_slot}
use Rattle.std.proofs.Common.{slice_set, Option, ◌==◌, slice_index, Some, None, if◌then◌else◌}
use Rattle.events.specs.declared.event.Reply.TheVariants as reply
use Rattle.art_rows.specs.Optimistic.{overwrite, seek_below, seek_at, seek_from, seek}
use Rattle.art_rows.proofs.GuardLemmas.{seek_from_optimistic-body}
use Rattle.art_schedules.proofs.alone.AloneLemmas.{give-comes, bind-comes, then-comes, same-comes, load-comes, store-comes}
use Rattle.art_schedules.proofs.alone.RowRunLemmas.{unlock-comes, wait-comes, check_of-comes, take_row-comes}
use Rattle.art_schedules.proofs.alone.FindingLemmas.{find-comes}
use Rattle.art_schedules.proofs.alone.SlotLemmas.{slot-is}
use Rattle.art_schedules.proofs.alone.VersionLemmas.{locked-live, released-live, released-free, locked-small, released-small}
use Rattle.art_schedules.proofs.alone.LikeLemmas.{Like, Nothing, like-start, like-version, like-slot, like-free, like-live}
use Rattle.art_schedules.proofs.alone.WayLemmas.{level-most, leads-root, leads-below, Writes, EndsAt, WritesWords, Seeks}

module _ (c : Setting) (n : ℕ) (words : List ℕ) (rest : IsAtRest c.shape n words) (small : WritesWords c.call) where
  abbrev key : ℕ
  key = key_of c.call

  nothing : Like c.shape words words words Nothing
  nothing = like-start c.shape n words rest Nothing

  free-at : {base : ℕ} {kind : Kind} → Reached c.shape words base kind → is_locked (slice_index words base) ≡ false
  free-at reached = like-free c.shape n words rest nothing reached (λ h. h)

  live-at : {base : ℕ} {kind : Kind} → Reached c.shape words base kind → is_obsolete (slice_index words base) ≡ false
  live-at reached = like-live c.shape n words rest nothing reached

  -- the call has kept this row's version, and the key's way leads to it
  record IsAt (r : Row) : Type 0 where
    level : r.level ≡ level_in words r.base r.kind
    leads : LeadsTo c.shape words key r.base r.kind (byte_at c r.level)
    kept : slice_index words r.base ≡ r.kept

  abbrev SeeksFrom : ℕ → Type 0
  SeeksFrom fuel = (r : Row) → IsAt r → 4 ≤ fuel + r.level → Seeks c.shape words c.call (seek_from c r) words

  -- the key is not there
  none : (r : Row) (a : IsAt r) → (child : Child) → child_on c.shape words r.base r.kind (byte_at c r.level) ≡ child
      → EndsAt c.shape words c.call reply.None words r.base r.kind (byte_at c r.level) child
      → Seeks c.shape words c.call (give reply.None) words
  none r a child at ended = record {
    reply = reply.None;
    later = words;
    comes = give-comes reply.None words;
    arrives = record {
      base = r.base;
      kind = r.kind;
      x = byte_at c r.level;
      leads = a.leads;
      byte = key_byte-small key r.level;
      child = child;
      at = at;
      ended = ended;
    };
  }

  -- ---- the leaf

  record Overwrites (r : Row) (slot : ℕ) (o : Option ℕ) : Type 0 where
    later : List ℕ
    comes : Comes (overwrite c r slot o) words tt later
    writes : Writes c.shape words later r.base r.kind (byte_at c r.level) o

  overwrites : (r : Row) (a : IsAt r) (slot : ℕ) → slot_of words r.base r.kind (byte_at c r.level) ≡ Some slot → (o : Option ℕ)
      → ((word : ℕ) → o ≡ Some word → word < 18446744073709551616) → Overwrites r slot o
  overwrites r a slot e None little = record { later = words; comes = give-comes tt words; writes = nothing }
  overwrites r a slot e (Some word) little = record {
    later = slice_set (slice_set locked slot word) r.base (released_word r.kept);
    comes = bind-comes {f = λ held. store slot word >> unlock held} (take_row-comes c [] r words a.kept free)
        (then-comes {n = unlock r} (store-comes slot word locked) (unlock-comes r (slice_set locked slot word)));
    writes = (
      slot,
      e,
      like-version c.shape n words rest {held2 = Nothing} (released_word r.kept) written a.leads.reached (released-small r.kept)
          (released-live r.kept live) (λ no_one. released-free r.kept free) (λ w h ne. ne h),
    );
  }
    where
      free : is_locked r.kept ≡ false
      free = ap is_locked (sym a.kept) ∙ free-at a.leads.reached

      live : is_obsolete r.kept ≡ false
      live = ap is_obsolete (sym a.kept) ∙ live-at a.leads.reached

      locked : List ℕ
      locked = slice_set words r.base (locked_word r.kept)

      held : Like c.shape words words locked (λ w. w ≡ r.base)
      held = like-version c.shape n words rest {held2 = λ w. w ≡ r.base} (locked_word r.kept) nothing a.leads.reached (locked-small r.kept)
          (locked-live r.kept live) (λ no_one. absurd (no_one refl)) (λ w h ne. absurd h)

      written : Like c.shape words (slice_set words slot word) (slice_set locked slot word) (λ w. w ≡ r.base)
      written = like-slot c.shape n words rest word held a.leads.reached
          (slot-is words r.base r.kind (byte_at c r.level) slot (key_byte-small key r.level) e) (little word refl)

  leaf : (r : Row) (a : IsAt r) (slot k value : ℕ) → slot_of words r.base r.kind (byte_at c r.level) ≡ Some slot
      → child_on c.shape words r.base r.kind (byte_at c r.level) ≡ Leaf k value
      → Seeks c.shape words c.call (seek_at c (seek_from c) r (Has slot (Leaf k value))) words
  unfolding seek_at
  leaf r a slot k value e at = go (k == key) refl
    where
      go : (b : Bool) → (k == key) ≡ b
          → Seeks c.shape words c.call (if b then (overwrite c r slot (overwriting c.call value) >> give
          (reply.Some value)) else give reply.None) words
      go false other = none r a (Leaf k value) at (inr (eqb-false k key other, refl, nothing))
      go true same =
          let o = overwrites r a slot e (overwriting c.call value) (small value) in
          record {
            reply = reply.Some value;
            later = o.later;
            comes = then-comes {n = give (reply.Some value)} o.comes (give-comes (reply.Some value) o.later);
            arrives = record {
              base = r.base;
              kind = r.kind;
              x = byte_at c r.level;
              leads = a.leads;
              byte = key_byte-small key r.level;
              child = Leaf k value;
              at = at;
              ended = inl (eqb-true k key same, refl, o.writes);
            };
          }

  -- ---- the row below

  down-comes : (r : Row) (m : ℕ) (k : Kind) → slice_index words r.base ≡ r.kept → Reached c.shape words m k
      → Comes (step_down c r m k) words (row_of m k (slice_index words (info_at m)) (slice_index words m)) words
  unfolding step_down
  down-comes r m k kept reached =
      bind-comes {f = λ v. check_of c r >> (load (info_at m) >>= λ info. give (row_of m k info v))}
      (wait-comes m words (free-at reached) (live-at reached))
      (then-comes {n = load (info_at m) >>= λ info. give (row_of m k info (slice_index words m))} (check_of-comes c r words kept)
      (bind-comes {f = λ info. give (row_of m k info (slice_index words m))} (load-comes (info_at m) words)
      (give-comes (row_of m k (slice_index words (info_at m)) (slice_index words m)) words)))

  row : (fuel : ℕ) → SeeksFrom fuel → (r : Row) (a : IsAt r) → 4 ≤ suc fuel + r.level → (slot m : ℕ) (k : Kind)
      → child_on c.shape words r.base r.kind (byte_at c r.level) ≡ ChildRow m k
      → Seeks c.shape words c.call (seek_at c (seek_from c) r (Has slot (ChildRow m k))) words
  unfolding seek_at
  row fuel more r a enough slot m k at = go (path_differs_at c found) refl
    where
      byte : byte_at c r.level < 256
      byte = key_byte-small key r.level

      reached : Reached c.shape words m k
      reached = below a.leads.reached (byte_at c r.level) byte at

      found : Row
      found = row_of m k (slice_index words (info_at m)) (slice_index words m)

      deeper : r.level < found.level
      deeper = omega (arith, (rest.tree.row r.base m (byte_at c r.level) r.kind k a.leads.reached byte at).0, a.level)

      after : (o : Option ℕ) → path_differs_at c found ≡ o → Seeks c.shape words c.call (seek_below c (seek_from c) found o) words
          → Seeks c.shape words c.call (step_down c r m k >>= λ q. seek_below c (seek_from c) q (path_differs_at c q)) words
      after o e s = record {
        reply = s.reply;
        later = s.later;
        comes = bind-comes {f = λ q. seek_below c (seek_from c) q (path_differs_at c q)} (down-comes r m k a.kept reached)
            (subst (λ o. Comes (seek_below c (seek_from c) found o) words s.reply s.later) (sym e) s.comes);
        arrives = s.arrives;
      }

      go : (o : Option ℕ) → path_differs_at c found ≡ o
          → Seeks c.shape words c.call (step_down c r m k >>= λ q. seek_below c (seek_from c) q (path_differs_at c q)) words
      go None e = after None e (more found (record {
        level = refl;
        leads = leads-below c.shape n words rest a.leads byte
            at e;
        kept = refl;
      })
          (omega (arith, enough, deeper)))
      go (Some i) e = after (Some i) e (record {
        reply = reply.None;
        later = words;
        comes = then-comes {n = give reply.None} (check_of-comes c found words refl) (give-comes reply.None words);
        arrives = record {
          base = r.base;
          kind = r.kind;
          x = byte_at c r.level;
          leads = a.leads;
          byte = byte;
          child = ChildRow m k;
          at = at;
          ended = (i, e, refl, nothing);
        };
      })

  -- ---- the whole way

  child : (fuel : ℕ) → SeeksFrom fuel → (r : Row) (a : IsAt r) → 4 ≤ suc fuel + r.level → (slot : ℕ)
      → slot_of words r.base r.kind (byte_at c r.level) ≡ Some slot → (child : Child)
      → child_on c.shape words r.base r.kind (byte_at c r.level) ≡ child
      → Seeks c.shape words c.call (seek_at c (seek_from c) r (Has slot child)) words
  unfolding seek_at
  child fuel more r a enough slot e Empty at = none r a Empty at (refl, nothing)
  child fuel more r a enough slot e (Leaf k value) at = leaf r a slot k value e at
  child fuel more r a enough slot e (ChildRow m k) at = row fuel more r a enough slot m k at

  lack : (r : Row) (keys : List ℕ) (count : ℕ) → Seeks c.shape words c.call (give reply.None) words
      → Seeks c.shape words c.call (seek_at c (seek_from c) r (Lacks keys count)) words
  unfolding seek_at
  lack r keys count s = s

  step : (fuel : ℕ) → SeeksFrom fuel → SeeksFrom (suc fuel)
  step fuel more r a enough = found (slot_of words r.base r.kind x) refl
    where
      x : ℕ
      x = byte_at c r.level

      keys : List ℕ
      keys = keys_in_row words r.base r.kind x

      count : ℕ
      count = count_in_row c.call words r.base r.kind x

      after : (o : Option ℕ) → slot_of words r.base r.kind x ≡ o
          → Seeks c.shape words c.call (seek_at c (seek_from c) r (found_of_slot c.shape words keys count o)) words
          → Seeks c.shape words c.call (seek_from c r) words
      after o e s = record {
        reply = s.reply;
        later = s.later;
        comes = same-comes (seek_from_optimistic-body c r)
            (bind-comes {f = λ found. check_of c r >> seek_at c (seek_from c) r found} (find-comes c r words)
            (then-comes {n = seek_at c (seek_from c) r (found_of_slot c.shape words keys count (slot_of words r.base r.kind x))}
            (check_of-comes c r words a.kept)
            (subst (λ o. Comes (seek_at c (seek_from c) r (found_of_slot c.shape words keys count o)) words s.reply s.later) (sym e)
            s.comes)));
        arrives = s.arrives;
      }

      found : (o : Option ℕ) → slot_of words r.base r.kind x ≡ o → Seeks c.shape words c.call (seek_from c r) words
      found None e = after None e (lack r keys count (none r a Empty (ap (λ o. child_in c.shape words o) e) (refl, nothing)))
      found (Some slot) e = after (Some slot) e
          (child fuel more r a enough slot e (child_of c.shape (slice_index words slot)) (ap (λ o. child_in c.shape words o) e))

  -- from a row on
  seeks-from : (fuel : ℕ) → SeeksFrom fuel
  seeks-from zero r a enough = absurd (omega (arith, enough, a.level, level-most words r.base r.kind))
  seeks-from (suc fuel) r a enough = step fuel (seeks-from fuel) r a enough

  -- The whole call goes its key's way.
  pub seeks-optimistic : Seeks c.shape words c.call (seek c) words
  unfolding seek
  seeks-optimistic = record {
    reply = s.reply;
    later = s.later;
    comes = bind-comes {f = λ v. seek_from c (root_row c v)}
        (wait-comes (root_base c.shape) words (free-at {kind = Full} root) (live-at {kind = Full} root)) s.comes;
    arrives = s.arrives;
  }
    where
      v : ℕ
      v = slice_index words (root_base c.shape)

      leads : (level_in words (root_base c.shape) Full ≡ 0)
          × LeadsTo c.shape words key (root_base c.shape) Full (slice_index (key_bytes key) 0)
      leads = leads-root c.shape n words rest key

      s : Seeks c.shape words c.call (seek_from c (root_row c v)) words
      s = seeks-from 4 (root_row c v) (record { level = sym leads.0; leads = leads.1; kept = refl }) (omega arith)
