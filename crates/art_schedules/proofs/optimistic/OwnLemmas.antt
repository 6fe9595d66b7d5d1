-- A step of a call that knows its way.
use Rattle.art_schedules.proofs.Common.{◌≡◌, ◌≢◌, ◌⊎◌, inl, inr, ℕ, ◌+◌, ◌-◌, ◌%◌, ◌<◌, ◌≤◌, List, [], ◌∷◌, ◌++◌, length, Bool, true, false}
use Rattle.art_schedules.proofs.alone.DifferLemmas.{keys-differ}
use Rattle.art_schedules.proofs.alone.SeekLemmas.{absent-after, seek-reply}
use Rattle.art_schedules.proofs.alone.WayLemmas.{leads-root}
use Rattle.art_schedules.proofs.inserts.InsertEndLemmas.{first-differs}
use Rattle.art_schedules.proofs.inserts.SmallLemmas.{path_byte-small}
use Rattle.art_schedules.proofs.Common.{refl, sym, ap, ◌∙◌, subst, arith, eqb-true, option_map, nat_le, eqb-false, none-some, Call, Reply}
use Rattle.art_schedules.proofs.Common.{Contents, value_at, Does, Shape, Kind, Four, Sixteen, FortyEight, Full, Empty, ChildRow, Leaf, capacity}
use Rattle.art_schedules.proofs.Common.{row_words, root_base, info_at, keys_at, more_keys_at, index_at, count_at, child_at, is_locked}
use Rattle.art_schedules.proofs.Common.{is_obsolete, key_bytes, first_difference, info_of, keys4_of, keys16_of, place_of, entries_of, child_of}
use Rattle.art_schedules.proofs.Common.{child_word, count_of, seven-words, key_byte-small, Optimistic, is_tree_call, Setting, key_of, is_insert}
use Rattle.art_schedules.proofs.Common.{is_scan, path_differs_at, new_leaf, overwriting, keys_differ_at, not_full, HeldRow, Keys, Finding, Has}
use Rattle.art_schedules.proofs.Common.{Lacks, Position, Down, Work, Target, Root, Below, Taken, Stage, Wait, Between, Info, Find, FindKeys}
use Rattle.art_schedules.proofs.Common.{FindMore, FindCount, Slot, Check, CheckLast, Take, Unlock, Over, row_at, held, root_place, byte_in}
use Rattle.art_schedules.proofs.Common.{keys_among, count_in, setting, after_with, seek_unlocked, insert_unlocked, overwrite_unlocked}
use Rattle.art_schedules.proofs.Common.{grow_unlocked, found_at, among_at, find_at, below_at, hold_alone, no_value, pair_work, beside_work}
use Rattle.art_schedules.proofs.Common.{leaf_work, keys_one, release_at, taken_at, take_alone, Reached, Means, HasForm, level_in, path_in}
use Rattle.art_schedules.proofs.Common.{IsAtRest, LeadsTo, WaysLeadToValues, LeavesAreSmall, is_seek}
use Rattle.art_schedules.proofs.Common.{Each, IsKept, IsUnder, FitsPlace, rows_kept, FitsStage}
use Rattle.art_schedules.proofs.Common.{BeginsWork, IsAfterVersion, LacksByte, RowsOf, all_of, held_at_stage, is_busy}
use Rattle.art_schedules.proofs.versions.KeyLemmas.{slot-behind}
use Rattle.art_schedules.proofs.versions.WordFacts.{count-most}
use Rattle.art_schedules.proofs.Common.{IsCurrent, IsBelow, HangsBelow, KnowsPlace, KnowsStage, IsReachedHere, AllStand, hold_taken, IsPast}
use Rattle.art_schedules.proofs.Common.{KnowsWay, IsHeldReached, Agrees, Gets, Goes, GoesOn, WaysBegin, IsOnWay, slot_in, HasChild, KnowsKeys}
use Rattle.art_schedules.proofs.Common.{KnowsFinding, HangsOnWay}
use Rattle.std.proofs.Common.{◌==◌, slice_index, Option, Some, None, if◌then◌else◌}
use Rattle.events.specs.declared.event.Reply.TheVariants as reply
use Rattle.map_object.specs.MapObject.{value_reply}
use Rattle.art_control_states.specs.declared.stage.Work.TheVariants as work
use Rattle.art_control_states.specs.Automaton.{words_at}
use Rattle.art_schedules.proofs.changes.SayingLemmas.{ways-are-paths}
use Rattle.art_schedules.specs.optimistic.Knows.{KnowsAt}
use Rattle.art_schedules.specs.optimistic.Goes.{Works, Finds}
use Rattle.art_schedules.specs.optimistic.Laws.{WaysGoOn, FindingsStay}
use Rattle.art_schedules.proofs.calm.VersionLemmas.{unmarked-free}
use Rattle.art_schedules.proofs.work.CallLemmas.{insert-of, seek-of, key-small, kept-after, full-slot}
use Rattle.art_schedules.proofs.effects.ValueLemmas.{no-slot, empty-slot, own-leaf, other-leaf, other-row, hangs-on, reached-below}
use Rattle.art_schedules.proofs.effects.ValueLemmas.{byte-in-small, overwritten}

-- ---- words, bytes and calls

row-child : {base : ℕ} {kind : Kind} → ChildRow base kind ≢ Empty
row-child e = cc

leaf-child : {k v : ℕ} → Leaf k v ≢ Empty
leaf-child e = cc

module _ (shape : Shape) (call : Call) (tree : is_tree_call call ≡ true) (key-call : is_scan call ≡ false) (n : ℕ)
    (calm words : List ℕ) (m : Contents)
    (rest : IsAtRest shape n calm) (means : Means shape calm m) (agrees : Agrees shape words calm) (ways : WaysLeadToValues)
    (leaves : LeavesAreSmall) where
  abbrev c : Setting
  c = setting shape Optimistic call

  abbrev Own : HeldRow → Type 0
  Own h = IsHeldReached shape calm words h

  abbrev Kept : HeldRow → Type 0
  Kept h = IsKept false (RowsOf shape) h

  abbrev Past : HeldRow → Type 0
  Past h = IsPast words h

  abbrev To : Stage → Type 0
  To stage = Goes c calm words m stage

  -- what is known, where it is known whether the call is an insert
  knows : (i : Bool) → is_insert call ≡ i → (o : Option Reply) (stage : Stage) → KnowsAt o i c calm words stage
      → Each Past (rows_kept false i stage)
      → Each Own (held_at_stage false i stage) → KnowsWay c calm words o stage
  knows i e o stage k past rows = record {
    way = subst (λ j. KnowsAt o j c calm words stage) (sym e) k;
    kept = subst (λ j. Each Past (rows_kept false j stage)) (sym e) past;
    rows = subst (λ j. Each Own (held_at_stage false j stage)) (sym e) rows;
  }

  -- it starts again
  again : To (Wait Root)
  again = GoesOn (record { way = go (is_insert call); kept = tt; rows = tt })
    where
      go : (i : Bool) → KnowsAt None i c calm words (Wait Root)
      go i = tt

  -- ---- a row whose version is the kept one

  stand-word : (h : HeldRow) → Kept h → IsCurrent words h → (word : ℕ) → h.base ≤ word → word < h.base + row_words h.kind
      → slice_index words word ≡ slice_index calm word
  stand-word h kept st word low high =
      sym (agrees.free h.base h.kind kept.1 (ap is_busy st ∙ unmarked-free h.kept kept.0) word low high)

  behind-word : (h : HeldRow) → Kept h → IsCurrent words h → (word : ℕ) → IsAfterVersion h.base h.kind word
      → slice_index words word ≡ slice_index calm word
  behind-word h kept st word behind = stand-word h kept st word (omega (arith, behind.0)) behind.1

  own-of : (h : HeldRow) → Kept h → IsCurrent words h → Reached shape calm h.base h.kind → Own h
  own-of h kept st reached = ((λ j low high. stand-word h kept st (h.base + j) (omega arith) (omega (arith, high))), reached)

  -- the info of a row of the tree is calm's
  info-is : (base : ℕ) (kind : Kind) → Reached shape calm base kind → slice_index calm (info_at base) ≡ slice_index words (info_at base)
  info-is base kind reached = agrees.info base kind reached

  path-is : (base : ℕ) (kind : Kind) → Reached shape calm base kind → path_in calm base kind ≡ path_in words base kind
  path-is base kind reached = ap (λ v. (info_of kind v).path) (info-is base kind reached)

  level-is : (base : ℕ) (kind : Kind) → Reached shape calm base kind → level_in calm base kind ≡ level_in words base kind
  level-is base kind reached = ap (λ v. (info_of kind v).level) (info-is base kind reached)

  -- ---- a get, a remove or a replace after its check

  module _ (e : is_insert call ≡ false) where
    seeks-key : is_seek call ≡ true
    seeks-key = seek-of call e key-call

    finds-none : value_at m (key_of call) ≡ None → Does m call reply.None m
    finds-none none =
        (inr (sym (seek-reply m call seeks-key ∙ ap value_reply none)), sym (absent-after m call seeks-key means.rising none))

    ends : value_at m (key_of call) ≡ None → To (Over no_value)
    ends none = Finds reply.None (finds-none none) (knows false e (Some reply.None) _ refl tt tt)

    overwrites : (h : HeldRow) (slot k v : ℕ) (o : Option ℕ) → overwriting call v ≡ o → IsOnWay c calm h → Past h
        → HasChild c calm h slot (Leaf k v)
        → k ≡ key_of call → To (overwrite_unlocked c h slot v o)
    overwrites h slot k v None f on past at is =
        let has = own-leaf c rest means ways h slot k v on at is in
        Finds (reply.Some v) (inr (sym (seek-reply m call seeks-key ∙ ap value_reply has)), sym (kept-after m call v seeks-key f has))
        (knows false e (Some (reply.Some v)) _ refl tt tt)
    overwrites h slot k v (Some word) f on past at is = GoesOn (knows false e None _ (
      (λ st. on.leads.reached),
      tt,
      (λ st. overwritten c tree h slot (Leaf k v) word (Some v) on at (is, refl, inr f)),
    ) (past, tt) tt)

    seeks : (h : HeldRow) (f : Finding) → IsOnWay c calm h → Past h → KnowsFinding false c calm h f → To (seek_unlocked c h f)
    seeks h (Lacks keys) on past none = ends (no-slot c rest means ways h on none)
    seeks h (Has slot Empty) on past at = ends (empty-slot c rest means ways h slot on at)
    seeks h (Has slot (Leaf k v)) on past at = go (k == key_of call) refl
      where
        go : (b : Bool) → (k == key_of call) ≡ b → To (if b then overwrite_unlocked c h slot v (overwriting call v) else Over no_value)
        go true same = overwrites h slot k v (overwriting call v) refl on past at (eqb-true k (key_of call) same)
        go false apart = ends (other-leaf c rest means ways h slot k v on at (eqb-false k (key_of call) apart))
    seeks h (Has slot (ChildRow base kind)) on past at = GoesOn (knows false e None _ (λ st. (on, at)) (past, tt) tt)

  -- ---- an insert after its check

  module _ (e : is_insert call ≡ true) where
    -- one row is taken
    takes : (h : HeldRow) (w : Work) → Past h → BeginsWork c calm (hold_alone h) w → To (take_alone c h w)
    takes h w past begins = GoesOn (knows true e None _ ((λ st. begins.leads.reached), tt, (λ st. begins)) (past, tt) tt)

    grows : (h : HeldRow) (above : Option HeldRow) (slot : ℕ) (keys : Keys) → IsOnWay c calm h → Each Past (h ∷ all_of above)
        → HangsBelow c calm words h slot above → IsUnder above h slot → LacksByte c h keys calm → count_in h.kind keys ≡ capacity h.kind
        → To (grow_unlocked c h above slot keys)
    grows h None slot keys on past up under lacks full = absurd (full-slot calm h.base h.kind (byte_in c h) under lacks.absent)
    grows h (Some a) slot keys on past up under lacks full = GoesOn (knows true e None _ (
      (λ st. (up st).0.leads.reached),
      ((λ st. on.leads.reached), tt),
      (λ st. let hang = up st.0 in record {
        call = tree;
        words = (insert-of call tree e, lacks, full, hang.1.has);
        byte = byte_in c a;
        leads = hang.0.leads;
        finds = (refl, hang.1.at, on.leads, on.info);
      }),
    ) (past.1.0, (past.0, tt)) tt)

    inserts : (p : Position) (f : Finding) → IsOnWay c calm p.row → HangsBelow c calm words p.row p.slot p.above
        → Each Past (p.row ∷ all_of p.above)
        → FitsPlace p → KnowsFinding true c calm p.row f → To (insert_unlocked c p f)
    inserts p (Lacks keys) on up past under at = go (count_in p.row.kind keys == capacity p.row.kind) refl
      where
        go : (b : Bool) → (count_in p.row.kind keys == capacity p.row.kind) ≡ b
            → To (if b then grow_unlocked c p.row p.above p.slot keys else take_alone c p.row (work.Put keys))
        go true full = grows p.row p.above p.slot keys on past up under at (eqb-true _ _ full)
        go false room = takes p.row (work.Put keys) past.0 (record {
          call = tree;
          words = (insert-of call tree e, at, not_full _ _ room (count-most p.row.kind keys));
          byte = byte_in c p.row;
          leads = on.leads;
          finds = (refl, on.info);
        })
    inserts p (Has slot Empty) on up past under at = takes p.row (leaf_work c slot None) past.0
        (overwritten c tree p.row slot Empty (child_word (new_leaf call)) None on at (e, refl, refl))
    inserts p (Has slot (Leaf k v)) on up past under at = go (k == key_of call) refl
      where
        parts : k ≢ key_of call → first_difference (key_bytes k) (key_bytes (key_of call)) ≡ Some (keys_differ_at k (key_of call))
        parts apart =
            keys-differ k (key_of call)
            (leaves shape calm p.row.base p.row.kind (byte_in c p.row) k v rest.small (hangs-on c p.row slot (Leaf k v) at)).0
            (key-small call tree key-call) apart

        pairs : (b : Bool) → (k == key_of call) ≡ false → To (if b then Wait Root else take_alone c p.row (pair_work c slot k v))
        pairs true other = again
        pairs false other =
            let apart = eqb-false k (key_of call) other in
            let d = keys_differ_at k (key_of call) in
            takes p.row (pair_work c slot k v) past.0 (record {
              call = tree;
              words = (
                insert-of call tree e,
                at.has,
                leaf-child,
                key_byte-small k d,
                first-differs (key_bytes k)
                    (key_bytes (key_of call)) d (parts apart),
              );
              byte = byte_in c p.row;
              leads = on.leads;
              finds = (at.at, (parts apart, refl));
            })

        go : (b : Bool) → (k == key_of call) ≡ b → To (if b then take_alone c p.row (leaf_work c slot (Some v))
            else if nat_le (keys_differ_at k (key_of call)) (row_at p.row).level then Wait Root else take_alone c p.row
            (pair_work c slot k v))
        go true same = takes p.row (leaf_work c slot (Some v)) past.0
            (overwritten c tree p.row slot (Leaf k v) (child_word (new_leaf call)) (Some v) on at
            (eqb-true k (key_of call) same, refl, inl (e, refl)))
        go false other = pairs (nat_le (keys_differ_at k (key_of call)) (row_at p.row).level) other
    inserts p (Has slot (ChildRow base kind)) on up past under at = GoesOn (knows true e None _ (λ st. (on, at)) (past.0, tt) tt)

  found : (i : Bool) → is_insert call ≡ i → (p : Position) (f : Finding) → IsOnWay c calm p.row
      → HangsBelow c calm words p.row p.slot p.above
      → Each Past (p.row ∷ all_of p.above) → FitsPlace p → KnowsFinding i c calm p.row f → To (found_at false i false c p f)
  found false e p f on up past under at = seeks e p.row f on past.0 at
  found true e p f on up past under at = inserts e p f on up past under at

  -- ---- FIND

  lacks : (i : Bool) (h : HeldRow) (keys : Keys) → LacksByte c h keys calm → KnowsKeys i c calm h keys
  lacks true h keys l = l
  lacks false h keys l = l.absent

  -- what is known at a row, with the versions that were kept
  record AtRow (p : Position) : Type 0 where
    knows_place : KnowsPlace c calm words p
    row_kept : Kept p.row
    are_past : Each Past (p.row ∷ all_of p.above)

  form-of : (p : Position) → AtRow p → IsCurrent words p.row → HasForm calm p.row.base p.row.kind
  form-of p k st = rest.tree.form p.row.base p.row.kind (k.knows_place.0 st).leads.reached

  -- the finding is right, if the row's version is the kept one
  sees : (i : Bool) → is_insert call ≡ i → (p : Position) (f : Finding) → AtRow p
      → (IsCurrent words p.row → KnowsFinding i c calm p.row f) → To (Check p f)
  sees i e p f k at = GoesOn (knows i e None _ (k.knows_place, at) k.are_past tt)

  -- the slot of a byte is that of its place among the keys
  among : (i : Bool) → is_insert call ≡ i → (p : Position) (keys : Keys) → AtRow p
      → (IsCurrent words p.row → slot_in c calm p.row ≡ option_map (child_at p.row.kind p.row.base) (place_of (byte_in c p.row)
      (keys_among p.row.kind keys)))
      → (IsCurrent words p.row → slot_in c calm p.row ≡ None → LacksByte c p.row keys calm) → To (words_at false i false c p keys)
  among i e p keys k is lack = go (place_of (byte_in c p.row) (keys_among p.row.kind keys)) is
    where
      go : (o : Option ℕ) → (IsCurrent words p.row → slot_in c calm p.row ≡ option_map (child_at p.row.kind p.row.base) o)
          → To (among_at false i false c p keys o)
      go None none = sees i e p (Lacks keys) k (λ st. lacks i p.row keys (lack st (none st)))
      go (Some place) some = GoesOn (knows i e None _ (k.knows_place, some) k.are_past tt)

  abbrev place : ℕ → Kind → ℕ → ℕ → Option HeldRow → ℕ → Position
  place base kind info was above slot = record { row = held base kind info was; above = above; slot = slot }

  -- what was read of a row whose version is the kept one is calm's
  calm-word : (h : HeldRow) → Kept h → (word w : ℕ) → IsAfterVersion h.base h.kind word → w ≡ slice_index words word → IsCurrent words h
      → w ≡ slice_index calm word
  calm-word h kept word w behind got st = got ∙ behind-word h kept st word behind

  four : (i : Bool) → is_insert call ≡ i → (base info was : ℕ) (above : Option HeldRow) (slot w : ℕ)
      → AtRow (place base Four info was above slot)
      → (IsCurrent words (held base Four info was) → w ≡ slice_index calm (keys_at base))
      → To (words_at false i false c (place base Four info was above slot) (keys_one w))
  four i e base info was above slot w k is =
      let p = place base Four info was above slot in
      let x = byte_in c (held base Four info was) in
      among i e p (keys_one w) k
      (λ st. ap (λ v. option_map (child_at Four base) (place_of x (keys4_of v))) (sym (is st)))
      (λ st none. record {
        form = form-of p k st;
        absent = none;
        keys = ap keys4_of (is st);
        count = ap
            (λ v. length (keys4_of v)) (is st);
      })

  sixteen : (i : Bool) → is_insert call ≡ i → (base info was : ℕ) (above : Option HeldRow) (slot count first second : ℕ)
      → AtRow (place base Sixteen info was above slot)
      → (IsCurrent words (held base Sixteen info was) → (count ≡ slice_index calm (count_at Sixteen base))
      × (first ≡ slice_index calm (keys_at base)))
      → (IsCurrent words (held base Sixteen info was) → second ≡ slice_index calm (more_keys_at base))
      → To (words_at false i false c (place base Sixteen info was above slot) (record { first = first; second = second; count = count }))
  sixteen i e base info was above slot count first second k seen last =
      among i e p (record { first = first; second = second; count = count }) k
      (λ st. ap (λ ks. option_map (child_at Sixteen base) (place_of x ks)) (sym (same st)))
      (λ st none. record { form = form-of p k st; absent = none; keys = same st; count = ap (λ ks. length ks) (same st) })
    where
      p : Position
      p = place base Sixteen info was above slot

      x : ℕ
      x = byte_in c (held base Sixteen info was)

      same : IsCurrent words (held base Sixteen info was) → keys16_of count first second
          ≡ keys16_of (slice_index calm (count_at Sixteen base)) (slice_index calm (keys_at base)) (slice_index calm (more_keys_at base))
      same st = ap (λ v. keys16_of v first second) (seen st).0
          ∙ (ap (λ v. keys16_of (slice_index calm (count_at Sixteen base)) v second) (seen st).1
          ∙ ap (λ v. keys16_of (slice_index calm (count_at Sixteen base)) (slice_index calm (keys_at base)) v) (last st))

  indexed : (i : Bool) → is_insert call ≡ i → (base info was : ℕ) (above : Option HeldRow) (slot w : ℕ)
      → AtRow (place base FortyEight info was above slot)
      → (IsCurrent words (held base FortyEight info was) → w ≡ slice_index calm (index_at base (byte_in c (held base FortyEight info was))))
      → To (find_at false i false FortyEight c (place base FortyEight info was above slot) w)
  indexed i e base info was above slot w k is =
      subst (λ j. To (if entry == 0 then (if j then FindCount p w else Check p (Lacks (keys_one w))) else Slot p
      (child_at FortyEight base (entry - 1))))
      (sym e) (go (entry == 0) refl)
    where
      p : Position
      p = place base FortyEight info was above slot

      x : ℕ
      x = byte_in c (held base FortyEight info was)

      entry : ℕ
      entry = slice_index (entries_of w) (x % 8)

      slot-is : (b : Bool) → (entry == 0) ≡ b → IsCurrent words (held base FortyEight info was)
          → slot_in c calm (held base FortyEight info was) ≡ (if b then None else Some (child_at FortyEight base (entry - 1)))
      slot-is b f st =
          ap (λ v. if slice_index (entries_of v) (x % 8) == 0 then None else Some
          (child_at FortyEight base (slice_index (entries_of v) (x % 8) - 1)))
          (sym (is st)) ∙ ap (λ b. if b then None else Some (child_at FortyEight base (entry - 1))) f

      none-at : (i : Bool) → is_insert call ≡ i → (entry == 0) ≡ true → To (if i then FindCount p w else Check p (Lacks (keys_one w)))
      none-at true e f = GoesOn (knows true e None _ (k.knows_place, refl, λ st. (is st, slot-is true f st)) k.are_past tt)
      none-at false e f = sees false e p (Lacks (keys_one w)) k (λ st. slot-is true f st)

      go : (b : Bool) → (entry == 0) ≡ b
          → To (if b then (if i then FindCount p w else Check p (Lacks (keys_one w))) else Slot p (child_at FortyEight base (entry - 1)))
      go true f = none-at i e f
      go false f = GoesOn (knows i e None _ (k.knows_place, λ st. slot-is false f st) k.are_past tt)

  -- FIND's first word
  finds : (i : Bool) → is_insert call ≡ i → (base : ℕ) (kind : Kind) (info was : ℕ) (above : Option HeldRow) (slot w : ℕ)
      → AtRow (place base kind info was above slot) → Gets c words (Find (place base kind info was above slot)) w
      → To (find_at false i false kind c (place base kind info was above slot) w)
  finds i e base Four info was above slot w k got = four i e base info was above slot w k
      (calm-word (held base Four info was) k.row_kept (keys_at base) w (omega arith, omega arith) (got _ _ refl))
  finds i e base Sixteen info was above slot w k got = GoesOn (knows i e None _ (
    k.knows_place,
    refl,
    calm-word (held base Sixteen info was) k.row_kept (count_at Sixteen base) w (omega arith, omega arith)
        (got _ _ refl),
  ) k.are_past tt)
  finds i e base FortyEight info was above slot w k got =
      let small = byte-in-small c (held base FortyEight info was) in
      indexed i e base info was above slot w k
      (calm-word (held base FortyEight info was) k.row_kept (index_at base (byte_in c (held base FortyEight info was))) w
      (omega (arith, small), omega (arith, small)) (got _ _ refl))
  finds i e base Full info was above slot w k got =
      let small = byte-in-small c (held base Full info was) in
      let at = child_at Full base (byte_in c (held base Full info was)) in
      sees i e (place base Full info was above slot) (Has at (child_of shape w)) k (λ st. record {
        at = refl;
        has = ap (child_of shape)
            (sym (calm-word (held base Full info was) k.row_kept at w (omega (arith, small), omega (arith, small)) (got _ _ refl) st));
      })

  -- the count of a row of kind 48, which an insert asks for
  counted : (i : Bool) → is_insert call ≡ i → (base : ℕ) (kind : Kind) (info was : ℕ) (above : Option HeldRow) (slot index w : ℕ)
      → kind ≡ FortyEight
      → AtRow (place base kind info was above slot)
      → (IsCurrent words (held base kind info was) → (index ≡ slice_index calm (index_at base (byte_in c (held base kind info was))))
      × (slot_in c calm (held base kind info was) ≡ None))
      → Gets c words (FindCount (place base kind info was above slot) index) w
      → To (Check (place base kind info was above slot) (Lacks (record { first = index; second = 0; count = w })))
  counted i e base Four info was above slot index w kinds k seen got = absurd (differ kinds)
    where
      differ : Four ≡ FortyEight → ⊥
      differ e = cc
  counted i e base Sixteen info was above slot index w kinds k seen got = absurd (differ kinds)
    where
      differ : Sixteen ≡ FortyEight → ⊥
      differ e = cc
  counted i e base Full info was above slot index w kinds k seen got = absurd (differ kinds)
    where
      differ : Full ≡ FortyEight → ⊥
      differ e = cc
  counted i e base FortyEight info was above slot index w kinds k seen got =
      sees i e (place base FortyEight info was above slot) (Lacks (record { first = index; second = 0; count = w })) k
      (λ st. knows-keys i e st)
    where
      knows-keys : (i : Bool) → is_insert call ≡ i → IsCurrent words (held base FortyEight info was)
          → KnowsKeys i c calm (held base FortyEight info was) (record { first = index; second = 0; count = w })
      knows-keys false e st = (seen st).1
      knows-keys true e st = record {
        form = form-of (place base FortyEight info was above slot) k st;
        absent = (seen st).1;
        keys = ap entries_of (seen st).0;
        count = ap (count_of 48) (calm-word (held base FortyEight info was) k.row_kept (count_at FortyEight base) w
            (omega arith, omega arith)
            (got _ _ refl) st)
            ∙ ap (λ j. if j then count_of 48 (slice_index calm (count_at FortyEight base)) else 0) (sym e);
      }

  more : (i : Bool) → is_insert call ≡ i → (base : ℕ) (kind : Kind) (info was : ℕ) (above : Option HeldRow)
      (slot count first w : ℕ) → kind ≡ Sixteen
      → AtRow (place base kind info was above slot)
      → (IsCurrent words (held base kind info was) → (count ≡ slice_index calm (count_at Sixteen base))
      × (first ≡ slice_index calm (keys_at base)))
      → (IsCurrent words (held base kind info was) → w ≡ slice_index calm (more_keys_at base))
      → To (words_at false i false c (place base kind info was above slot) (record { first = first; second = w; count = count }))
  more i e base Four info was above slot count first w kinds k seen last = absurd (differ kinds)
    where
      differ : Four ≡ Sixteen → ⊥
      differ e = cc
  more i e base FortyEight info was above slot count first w kinds k seen last = absurd (differ kinds)
    where
      differ : FortyEight ≡ Sixteen → ⊥
      differ e = cc
  more i e base Full info was above slot count first w kinds k seen last = absurd (differ kinds)
    where
      differ : Full ≡ Sixteen → ⊥
      differ e = cc
  more i e base Sixteen info was above slot count first w kinds k seen last = sixteen i e base info was above slot count first w k seen last

  -- ---- WAIT, CHECK, and from a row to the one below

  waits : (i : Bool) → is_insert call ≡ i → (t : Target) (w : ℕ) → (To (Wait t)) → (next : Stage) → To next
      → To (if is_locked w then Wait t else if is_obsolete w then Wait Root else next)
  waits i e t w same next to = go (is_locked w) (is_obsolete w)
    where
      go : (b o : Bool) → To (if b then Wait t else if o then Wait Root else next)
      go true o = same
      go false true = again
      go false false = to

  -- the row above is checked, and its version is the kept one
  passes : (i : Bool) → is_insert call ≡ i → (d : Down) (kept : ℕ) → IsBelow c calm words d → IsCurrent words d.above
      → Each Past (held d.base d.kind 0 kept ∷ d.above ∷ []) → To (Info d kept)
  passes true e d kept k st past = GoesOn
      (knows true e None _ (k, (λ same. reached-below c d.above d.slot d.base d.kind (k st)), tt) past tt)
  passes false e d kept k st past = go (first_difference (path_in words d.base d.kind) (key_bytes (key_of call))) refl
    where
      reached : Reached shape calm d.base d.kind
      reached = reached-below c d.above d.slot d.base d.kind (k st)

      go : (o : Option ℕ) → first_difference (path_in words d.base d.kind) (key_bytes (key_of call)) ≡ o → To (Info d kept)
      go None f = GoesOn (knows false e None _ (k, (λ same. reached), f) past tt)
      go (Some x) f = Finds reply.None
          (finds-none e (other-row c rest means ways d.above d.slot d.base x d.kind (k st).0 (k st).1
          (ap (λ xs. first_difference xs (key_bytes (key_of call))) (path-is d.base d.kind reached) ∙ f)))
          (knows false e (Some reply.None) _ (refl, (x, f)) past tt)

  abbrev row-below : Down → ℕ → HeldRow
  row-below d kept = held d.base d.kind (slice_index words (info_at d.base)) kept

  -- the row below has a path that differs nowhere from the key
  leads-on : (d : Down) (kept : ℕ) → Reached shape calm d.base d.kind
      → first_difference (path_in words d.base d.kind) (key_bytes (key_of call)) ≡ None
      → IsOnWay c calm (row-below d kept)
  leads-on d kept reached none = record {
    leads = subst (λ l. LeadsTo shape calm (key_of call) d.base d.kind (slice_index (key_bytes (key_of call)) l))
        (level-is d.base d.kind reached)
        (ways-are-paths shape calm (key_of call) d.base d.kind rest.tree reached
        (ap (λ xs. first_difference xs (key_bytes (key_of call))) (path-is d.base d.kind reached) ∙ none));
    info = info-is d.base d.kind reached;
  }

  goes-down : (i : Bool) → is_insert call ≡ i → (d : Down) (kept : ℕ) → IsBelow c calm words d
      → (slice_index words d.base ≡ kept → Reached shape calm d.base d.kind)
      → first_difference (path_in words d.base d.kind) (key_bytes (key_of call)) ≡ None
      → Each Past (held d.base d.kind 0 kept ∷ d.above ∷ [])
      → To (Find (record { row = row-below d kept; above = Some d.above; slot = d.slot }))
  goes-down i e d kept k reached none past =
      GoesOn (knows i e None _ ((λ st. leads-on d kept (reached st) none), (λ st. k st)) past tt)

  -- a pair is to be hung in the row above
  hangs-pair : is_insert call ≡ true → (d : Down) (kept x : ℕ) → IsBelow c calm words d
      → first_difference (path_in words d.base d.kind) (key_bytes (key_of call)) ≡ Some x → Past d.above
      → To (take_alone c d.above (beside_work d.slot (row-below d kept) x))
  hangs-pair e d kept x k differs past = GoesOn (knows true e None _ (
    (λ st. (k st).0.leads.reached),
    tt,
    (λ st. begins (k st)),
  ) (past, tt) tt)
    where
      begins : HangsOnWay c calm d.above d.slot (ChildRow d.base d.kind)
          → BeginsWork c calm (hold_alone d.above) (beside_work d.slot (row-below d kept) x)
      begins hang =
          let reached = reached-below c d.above d.slot d.base d.kind hang in
          let same = path-is d.base d.kind reached in
          record {
            call = tree;
            words = (
              insert-of call tree e,
              hang.1.has,
              row-child,
              path_byte-small words d.base d.kind x,
              first-differs (path_in words d.base d.kind) (key_bytes (key_of call)) x differs,
            );
            byte = byte_in c d.above;
            leads = hang.0.leads;
            finds = (
              hang.1.at,
              (
                ap (λ xs. first_difference xs (key_bytes (key_of call))) same ∙ differs,
                ap
                    (λ xs. slice_index xs x) (sym same),
              ),
            );
          }

  arrives : (i : Bool) → is_insert call ≡ i → (d : Down) (kept : ℕ) → KnowsStage i c calm words (Info d kept)
      → Each Past (held d.base d.kind 0 kept ∷ d.above ∷ [])
      → To (below_at false i c d (row-below d kept) (path_differs_at c (row_at (row-below d kept))))
  arrives false e d kept k past = go (path_differs_at c (row_at (row-below d kept))) refl
    where
      go : (o : Option ℕ) → path_differs_at c (row_at (row-below d kept)) ≡ o → To (below_at false false c d (row-below d kept) o)
      go None f = goes-down false e d kept k.0 k.1 f past
      go (Some x) f = absurd (none-some x (sym k.2 ∙ f))
  arrives true e d kept k past = go (path_differs_at c (row_at (row-below d kept))) refl
    where
      pairs : (x : ℕ) (b : Bool) → path_differs_at c (row_at (row-below d kept)) ≡ Some x
          → To (if b then Wait Root else take_alone c d.above (beside_work d.slot (row-below d kept) x))
      pairs x true f = again
      pairs x false f = hangs-pair e d kept x k.0 f past.1.0

      go : (o : Option ℕ) → path_differs_at c (row_at (row-below d kept)) ≡ o → To (below_at false true c d (row-below d kept) o)
      go None f = goes-down true e d kept k.0 k.1 f past
      go (Some x) f = pairs x (nat_le x (row_at d.above).level) f

  -- a row is taken
  taking : (i : Bool) → is_insert call ≡ i → (row : HeldRow) (above below : Option HeldRow) (w : Work) → IsReachedHere c calm words row
      → Each (IsReachedHere c calm words) (all_of below) → (AllStand words row below → BeginsWork c calm (hold_taken row above below) w)
      → Kept row → IsCurrent words row → Each Past (row ∷ all_of below) → Each Own (all_of above) → To (taken_at c above below w row)
  taking i e row above None w here under k kept st past own =
      Works (record { row = row; above = above }) w refl (k st) (own-of row kept st (here st), own)
  taking i e row above (Some b) w here under k kept st past own =
      GoesOn (knows i e None _ (under.0, tt, (λ stb. k (st, stb))) (past.1.0, (past.0, tt)) (own-of row kept st (here st), tt))

  fails : (i : Bool) → is_insert call ≡ i → (above : Option HeldRow) → Each Past (all_of above) → Each Own (all_of above)
      → To (release_at false above None)
  fails i e None past own = again
  fails i e (Some a) past own = GoesOn (knows i e None _ refl past own)

  past-front : (row : HeldRow) (above under : Option HeldRow) → Each Past (row ∷ (all_of above ++ all_of under))
      → Each Past (row ∷ all_of under) × Each Past (all_of above)
  past-front row None under past = (past, tt)
  past-front row (Some a) under past = ((past.0, past.1.1), (past.1.0, tt))

  -- ---- each stage

  at-row : (p : Position) → KnowsPlace c calm words p → Kept p.row → Each Past (p.row ∷ all_of p.above) → AtRow p
  at-row p k kept past = record { knows_place = k; row_kept = kept; are_past = past }

  next : (i : Bool) → is_insert call ≡ i → (stage : Stage) (w : ℕ) → KnowsStage i c calm words stage → Each Kept (rows_kept false i stage)
      → FitsStage false i c stage
      → Each Past (rows_kept false i stage) → Each Own (held_at_stage false i stage) → Gets c words stage w
      → To (after_with false i false c stage w)
  next i e (Wait Root) w k kept fits past own got =
      let is : w ≡ slice_index words (root_base shape) = got _ _ refl in
      waits i e Root w again (Find (root_place c w)) (GoesOn (knows i e None _
      ((λ st. record { leads = (leads-root shape n calm rest (key_of call)).1; info = rest.tree.root }), tt) (omega (arith, is), tt) tt))
  next i e (Wait (Below d)) w k kept fits past own got =
      let is : w ≡ slice_index words d.base = got _ _ refl in
      waits i e (Below d) w (GoesOn (knows i e None _ k past tt)) (Between d w) (GoesOn (knows i e None _ k (omega (arith, is), past) tt))
  next i e (Wait (Taken t)) w k kept fits past own got = absurd k
  next i e (Between d was) w k kept fits past own got = go (w == d.above.kept) refl
    where
      go : (b : Bool) → (w == d.above.kept) ≡ b → To (if b then Info d was else Wait Root)
      go true same = passes i e d was k (sym (got _ _ refl) ∙ eqb-true w d.above.kept same) past
      go false same = again
  next i e (Info d was) w k kept fits past own got =
      subst (λ v. To (below_at false i c d (held d.base d.kind v was) (path_differs_at c (row_at (held d.base d.kind v was)))))
      (sym (got _ _ refl))
      (arrives i e d was k past)
  next i e (Find p) w k kept fits past own got =
      finds i e p.row.base p.row.kind p.row.info p.row.kept p.above p.slot w (at-row p k kept.0 past) got
  next i e (FindKeys p count) w k kept fits past own got = GoesOn (knows i e None _ (
    k.0,
    k.1,
    λ st. (k.2 st, calm-word p.row kept.0 (keys_at p.row.base) w (omega arith, omega (arith, seven-words p.row.kind)) (got _ _ refl) st),
  ) past tt)
  next i e (FindMore p count first) w k kept fits past own got =
      more i e p.row.base p.row.kind p.row.info p.row.kept p.above p.slot count first w k.1 (at-row p k.0 kept.0 past) k.2
      (calm-word p.row kept.0 (more_keys_at p.row.base) w (omega arith, omega (arith, seven-words p.row.kind)) (got _ _ refl))
  next i e (FindCount p index) w k kept fits past own got =
      counted i e p.row.base p.row.kind p.row.info p.row.kept p.above p.slot index w k.1 (at-row p k.0 kept.0 past) k.2 got
  next i e (Slot p slot) w k kept fits past own got =
      sees i e p (Has slot (child_of shape w)) (at-row p k.0 kept.0 past) (λ st. record {
        at = k.1 st;
        has = ap (child_of shape) (sym (calm-word p.row kept.0 slot w (slot-behind p.row.base p.row.kind slot fits.1) (got _ _ refl) st));
      })
  next i e (Check p f) w k kept fits past own got = go (w == p.row.kept) refl
    where
      go : (b : Bool) → (w == p.row.kept) ≡ b → To (if b then found_at false i false c p f else Wait Root)
      go true same =
          let st : IsCurrent words p.row = sym (got _ _ refl) ∙ eqb-true w p.row.kept same in
          found i e p f (k.0.0 st) k.0.1 past fits.0 (k.1 st)
      go false same = again
  next i e (Take t) w k kept fits past own got = go (w == t.row.kept) refl
    where
      go : (b : Bool) → (w == t.row.kept) ≡ b → To (if b then taken_at c t.held t.below t.work t.row else release_at false t.held None)
      go true same = taking i e t.row t.held t.below t.work k.0 k.1 k.2 kept.0 (sym (got _ _ refl) ∙ eqb-true w t.row.kept same)
          (past-front t.row t.held t.below past).0 own
      go false same = fails i e t.held (past-front t.row t.held t.below past).1 own
  next i e (Unlock h None) w k kept fits past own got = subst (λ a. To (release_at false a None)) (sym k) again
  next i e (Unlock h (Some outcome)) w k kept fits past own got = absurd k
  next i e stage w k kept fits past own got = absurd k

pub ways-go-on : WaysLeadToValues → LeavesAreSmall → WaysGoOn
ways-go-on ways leaves shape call n calm words m stage w tree key-call rest means agrees rows k got =
    next shape call tree key-call n calm words m rest means agrees ways leaves (is_insert call) refl stage w k.way rows.kept
    rows.fits k.kept k.rows got

-- ---- a call that has found what it will answer

module _ (shape : Shape) (call : Call) (calm words : List ℕ) (r : Reply) where
  abbrev here : Setting
  here = setting shape Optimistic call

  abbrev Knows : Option Reply → Bool → Stage → Type 0
  Knows o i stage = KnowsAt o i (setting shape Optimistic call) calm words stage × Each (IsPast words) (rows_kept false i stage)
      × Each (IsHeldReached shape calm words) (held_at_stage false i stage)

  answers : (i : Bool) (stage : Stage) (w : ℕ) → Knows (Some r) i stage → Gets (setting shape Optimistic call) words stage w
      → Knows (Some r) i (after_with false i false here stage w) ⊎ Knows None i (after_with false i false here stage w)
  answers true (Info d was) w (k, past, own) got = absurd k.1
  answers false (Info d was) w (k, past, own) got = subst (λ v. Both (below_at false false here d (held d.base d.kind v was)
      (path_differs_at here (row_at (held d.base d.kind v was)))))
      (sym (got _ _ refl)) (go (path_differs_at here (row_at under)) k.1.1)
    where
      Both : Stage → Type 0
      Both stage = Knows (Some r) false stage ⊎ Knows None false stage

      under : HeldRow
      under = held d.base d.kind (slice_index words (info_at d.base)) was

      go : (o : Option ℕ) → o ≡ Some k.1.0 → Both (below_at false false here d under o)
      go None f = absurd (none-some k.1.0 f)
      go (Some x) f = inl (k.0, (past.0, tt), tt)
  answers i (CheckLast h) w (k, past, own) got = go (w == h.kept)
    where
      go : (b : Bool) → Knows (Some r) i (if b then Over no_value else Wait Root) ⊎ Knows None i (if b then Over no_value else Wait Root)
      go true = inl (k, tt, tt)
      go false = inr (tt, tt, tt)
  answers i (Over o) w (k, past, own) got = inl (k, tt, tt)
  answers i stage w (k, past, own) got = absurd k

pub findings-stay : FindingsStay
findings-stay shape call calm words stage w r k got =
    elim (answers shape call calm words r (is_insert call) stage w (k.way, k.kept, k.rows) got) [
      | inl x ↦ inl (record { way = x.0; kept = x.1; rows = x.2 })
      | inr x ↦ inr (record { way = x.0; kept = x.1; rows = x.2 })
    ]

pub ways-begin : WaysBegin
ways-begin shape call calm words = record { way = go (is_insert call); kept = tt; rows = tt }
  where
    go : (i : Bool) → KnowsAt None i (setting shape Optimistic call) calm words (Wait Root)
    go i = tt
