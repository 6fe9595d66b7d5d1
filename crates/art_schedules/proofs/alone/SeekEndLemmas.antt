-- What a get, a remove or a replace did at the end of its key's way is what it does on the map.
use Rattle.art_schedules.proofs.Common.{◌≡◌, inl, inr, ℕ, ◌<◌, List, ◌++◌, Bool, true, false, refl, sym, ap, ◌∙◌}
use Rattle.art_schedules.proofs.Common.{subst, Call, Get, Insert, Remove, Scan, Replace, Reply, Contents, value_at, above, put, is_just}
use Rattle.art_schedules.proofs.Common.{reply_to, after, Shape, Kind, Child, Empty, ChildRow, Leaf, child_of, leaf_word, key_of}
use Rattle.art_schedules.proofs.Common.{overwriting, Reached, child_on, slot_of, Means, IsAtRest, LeadsTo, ChangesAt, HasRows, SameTreesAreOne}
use Rattle.art_schedules.proofs.Common.{WaysLeadToValues, LeavesArePut, LeavesAreRemoved, is_seek}
use Rattle.std.proofs.Common.{slice_set, ◌==◌, Some, None, if◌then◌else◌}
use Rattle.events.specs.declared.event.Reply.TheVariants as reply
use Rattle.map_object.specs.MapObject.{below, value_reply}
use Rattle.art_schedules.proofs.alone.SlotLemmas.{slot-is}
use Rattle.art_schedules.proofs.alone.LikeLemmas.{Like, Nothing, like-row, slot-changes}
use Rattle.art_schedules.proofs.alone.RestLemmas.{like-settles, slot-settles, at-rest}
use Rattle.art_schedules.proofs.alone.WayLemmas.{Writes, EndsAt, Arrives}
use Rattle.art_schedules.proofs.alone.SeekLemmas.{absent-after, seek-reply, leaf-read, Bounds}

module _ (same : SameTreesAreOne) (ways : WaysLeadToValues) (puts : LeavesArePut) (removes : LeavesAreRemoved) (s : Shape)
    (n : ℕ) (words : List ℕ)
    (m : Contents) (rest : IsAtRest s n words) (means : Means s words m) where
  -- the reply is the map's, and the words are at rest and mean the map after the call
  pub record Does (call : Call) (r : Reply) (later : List ℕ) : Type 0 where
    pub says : r ≡ reply_to m call
    pub rests : IsAtRest s n later
    pub meant : Means s later (after m call)

  -- nothing was written
  kept : (call : Call) (r : Reply) (later : List ℕ) → r ≡ reply_to m call → after m call ≡ m → Like s words words later Nothing
      → Does call r later
  kept call r later says stays like = record {
    says = says;
    rests = at-rest s n words rest later like.long like.small (like-settles s n words rest later like) m rows;
    meant = subst (λ pairs. Means s later pairs) (sym stays) rows.means;
  }
    where
      rows : HasRows s words later m
      rows = same s words later m rest.tree means (λ b k reached. like-row s n words rest like reached)

  -- the key was not there
  absent : (call : Call) (r : Reply) (later : List ℕ) → is_seek call ≡ true → value_at m (key_of call) ≡ None → r ≡ reply.None
      → Like s words words later Nothing → Does call r later
  absent call r later seek none is like =
      kept call r later (is ∙ (ap value_reply (sym none) ∙ sym (seek-reply m call seek))) (absent-after m call seek means.rising none) like

  module _ (r : Reply) (later : List ℕ) (base : ℕ) (kind : Kind) (x : ℕ) (byte : x < 256) where
    -- a word was written over the slot
    pub wrote : (call : Call) (slot word : ℕ) (pairs : Contents) → r ≡ reply_to m call → Reached s words base kind
        → slot_of words base kind x ≡ Some slot
        → Like s words (slice_set words slot word) later Nothing → HasRows s words later pairs → after m call ≡ pairs → Does call r later
    wrote call slot word pairs says reached at like rows goes_on = record {
      says = says;
      rests = at-rest s n words rest later like.long like.small
          (slot-settles s n words rest later base slot word kind like reached (slot-is words base kind x slot byte at)) pairs rows;
      meant = subst (λ pairs. Means s later pairs) (sym goes_on) rows.means;
    }

    pub changes : (slot word : ℕ) (child : Child) → Reached s words base kind → slot_of words base kind x ≡ Some slot
        → Like s words (slice_set words slot word) later Nothing → child_of s word ≡ child → ChangesAt s words later base kind x child
    changes slot word child reached at like read =
        slot-changes s n words rest later base slot word x kind like reached byte at (rest.tree.form base kind reached) child read

    present : (value : ℕ) → r ≡ reply.Some value → (call : Call) → Bounds call → LeadsTo s words (key_of call) base kind x
        → child_on s words base kind x ≡ Leaf (key_of call) value
        → value_at m (key_of call) ≡ Some value → Writes s words later base kind x (overwriting call value) → Does call r later
    present value is (Get key) b leads at has like = kept (Get key) r later (is ∙ ap value_reply (sym has)) refl like
    present value is (Remove key) b leads at has (slot, slot_at, like) =
        wrote (Remove key) slot 0 (below key m ++ above key m) (is ∙ ap value_reply (sym has)) leads.reached slot_at like
        (removes s words later m key base kind x rest.tree means leads (inr (value, at))
        (changes slot 0 Empty leads.reached slot_at like refl)) refl
    present value is (Replace key expected new) b leads at has writes = go (value == expected) refl writes
      where
        says : r ≡ reply_to m (Replace key expected new)
        says = is ∙ ap value_reply (sym has)

        goes_on : (t : Bool) → (value == expected) ≡ t → after m (Replace key expected new) ≡ (if t then put key new m else m)
        goes_on t e = ap (λ o. if is_just o expected then put key new m else m) has ∙ ap (λ t. if t then put key new m else m) e

        go : (t : Bool) → (value == expected) ≡ t → Writes s words later base kind x (if t then Some (leaf_word key new) else None)
            → Does (Replace key expected new) r later
        go false e like = kept (Replace key expected new) r later says (goes_on false e) like
        go true e (slot, slot_at, like) =
            wrote (Replace key expected new) slot (leaf_word key new) (put key new m) says leads.reached slot_at like
            (puts s words later m key new base kind x rest.tree means leads (inr (value, at))
            (changes slot (leaf_word key new) (Leaf key new) leads.reached slot_at like (leaf-read s key new b.0 b.1))) (goes_on true e)
    present value is (Insert key v) b leads at has writes = absurd b
    present value is (Scan low high) b leads at has writes = absurd b

  -- A call that arrived did what it does on the map.
  pub arrived : (call : Call) (r : Reply) (later : List ℕ) → Bounds call → is_seek call ≡ true → Arrives s words call r later
      → Does call r later
  arrived call r later b seek a = go a.child a.at a.ended
    where
      go : (child : Child) → child_on s words a.base a.kind a.x ≡ child → EndsAt s words call r later a.base a.kind a.x child
          → Does call r later
      go Empty at (is, like) = absent call r later seek ((ways s words m (key_of call) a.base a.kind a.x rest.tree means
          a.leads).0 at) is like
      go (Leaf k value) at (inl (own, is, writes)) =
          present r later a.base a.kind a.x a.byte value is call b a.leads (at ∙ ap (λ i. Leaf i value) own)
          (((ways s words m (key_of call) a.base a.kind a.x rest.tree means a.leads).1 k value at).0 own) writes
      go (Leaf k value) at (inr (other, is, like)) = absent call r later seek
          (((ways s words m (key_of call) a.base a.kind a.x rest.tree means a.leads).1 k value at).1 other) is like
      go (ChildRow row k) at (d, parts, is, like) = absent call r later seek
          ((ways s words m (key_of call) a.base a.kind a.x rest.tree means a.leads).2 row d k at parts) is like
