-- A step of a call that knows its way.
use Rattle.art_schedules.proofs.Common.{◌≡◌, ◌≢◌, inl, inr, ℕ, ◌+◌, ◌-◌, ◌%◌, List, ◌∷◌, length, Bool, true, false, refl, sym, ap, ◌∙◌, subst}
use Rattle.art_schedules.proofs.alone.DifferLemmas.{keys-differ}
use Rattle.art_schedules.proofs.alone.SeekLemmas.{absent-after, seek-reply}
use Rattle.art_schedules.proofs.inserts.InsertEndLemmas.{first-differs}
use Rattle.art_schedules.proofs.inserts.SmallLemmas.{path_byte-small}
use Rattle.art_schedules.proofs.Common.{arith, eqb-true, option_map, eqb-false, none-some, Call, Reply, Contents, value_at, Does, Shape, Kind}
use Rattle.art_schedules.proofs.Common.{Four, Sixteen, FortyEight, Full, Empty, ChildRow, Leaf, capacity, root_base, info_at, keys_at}
use Rattle.art_schedules.proofs.Common.{more_keys_at, index_at, count_at, child_at, is_locked, key_bytes, first_difference, keys4_of, keys16_of}
use Rattle.art_schedules.proofs.Common.{place_of, entries_of, child_of, child_word, count_of, seven-words, key_byte-small, Coupled, is_tree_call}
use Rattle.art_schedules.proofs.Common.{Setting, key_of, is_insert, is_scan, path_differs_at, new_leaf, overwriting, keys_differ_at, not_full}
use Rattle.art_schedules.proofs.Common.{HeldRow, Keys, Finding, Has, Lacks, Position, Down, Target, Root, Below, Taken, Stage, Lock, Exchange}
use Rattle.art_schedules.proofs.Common.{Between, Info, Find, FindKeys, FindMore, FindCount, Slot, LetGo, Write, ClaimPair, ClaimGrow, Unlock}
use Rattle.art_schedules.proofs.Common.{Over, row_at, held, root_place, byte_in, keys_among, count_in, setting, after_with, seek_coupled}
use Rattle.art_schedules.proofs.Common.{insert_coupled, place_coupled, let_go_at, found_at, among_at, find_at, below_at, entered_at, hold_alone}
use Rattle.art_schedules.proofs.Common.{no_value, pair_work, overwrite_at, keys_one, release_at, root, Means, HasForm, level_in, path_in}
use Rattle.art_schedules.proofs.Common.{IsAtRest, LeadsTo, WaysLeadToValues, LeavesAreSmall, is_seek}
use Rattle.art_schedules.proofs.Common.{Each, IsUnder, FitsPlace, FitsStage, all_of, held_at_place}
use Rattle.art_schedules.proofs.Common.{IsAfterVersion, KnowsTarget, LacksByte, held_at_stage, rows_of_target}
use Rattle.art_schedules.proofs.versions.KeyLemmas.{slot-behind}
use Rattle.art_schedules.proofs.versions.WordFacts.{count-most}
use Rattle.art_schedules.proofs.Common.{KnowsInfo, KnowsAt, KnowsReply, IsHeldLive, slot_in, KnowsKeys, KnowsFinding, IsOnWay, HasChild}
use Rattle.art_schedules.proofs.Common.{HangsOnWay}
use Rattle.std.proofs.Common.{◌==◌, slice_index, Option, Some, None, if◌then◌else◌}
use Rattle.events.specs.declared.event.Reply.TheVariants as reply
use Rattle.map_object.specs.MapObject.{value_reply}
use Rattle.art_control_states.specs.declared.stage.Work.TheVariants as work
use Rattle.art_control_states.specs.Automaton.{words_at}
use Rattle.art_schedules.proofs.alone.WayLemmas.{leads-below, leads-root}
use Rattle.art_schedules.proofs.trees.Bytes.{never_differs}
use Rattle.art_schedules.specs.versions.Holding.{HasRoom}
use Rattle.art_schedules.proofs.versions.WordFacts.{full-not-less}
use Rattle.art_schedules.specs.coupled.Knows.{IsBelow, HangsBelow, KnowsPlace, KnowsStage, KnowsWay}
use Rattle.art_schedules.specs.coupled.Goes.{Gets, Goes, GoesOn, Works, Finds}
use Rattle.art_schedules.specs.coupled.Laws.{WaysGoOn, FindingsStay}
use Rattle.art_schedules.proofs.work.CallLemmas.{insert-of, seek-of, key-small, kept-after, full-slot}
use Rattle.art_schedules.proofs.effects.ValueLemmas.{no-slot, empty-slot, own-leaf, other-leaf, other-row, hangs-on, reached-below}
use Rattle.art_schedules.proofs.effects.ValueLemmas.{byte-in-small, overwritten}

-- ---- words, bytes and calls

-- a word of a row that the call holds, after its version, is the calm one
pub own-word : (calm words : List ℕ) (n : HeldRow) → IsHeldLive calm words n → (word : ℕ) → IsAfterVersion n.base n.kind word
    → slice_index words word ≡ slice_index calm word
own-word calm words n own word behind =
    let is : n.base + (word - n.base) ≡ word = omega (arith, behind.0) in
    sym (ap (slice_index words) is) ∙ (own.same (word - n.base) (omega (arith, behind.0)) (omega (arith, behind.0, behind.1)) ∙ ap
    (slice_index calm) is)

module _ (shape : Shape) (call : Call) (tree : is_tree_call call ≡ true) (key-call : is_scan call ≡ false) (n : ℕ)
    (calm words : List ℕ) (m : Contents)
    (rest : IsAtRest shape n calm) (means : Means shape calm m) (ways : WaysLeadToValues) (leaves : LeavesAreSmall) where
  abbrev c : Setting
  c = setting shape Coupled call

  abbrev Own : HeldRow → Type 0
  Own h = IsHeldLive calm words h

  abbrev To : Stage → Type 0
  To stage = Goes c calm words m stage

  -- what is known, where it is known whether the call is an insert
  knows : (i : Bool) → is_insert call ≡ i → (o : Option Reply) (stage : Stage) → KnowsAt o i c calm stage
      → Each Own (held_at_stage true i stage)
      → KnowsWay c calm words o stage
  knows i e o stage k rows = record {
    way = subst (λ j. KnowsAt o j c calm stage) (sym e) k;
    rows = subst (λ j. Each Own (held_at_stage true j stage)) (sym e) rows;
  }

  leads-on : (h : HeldRow) (slot base : ℕ) (kind : Kind) → HangsOnWay c calm h slot (ChildRow base kind)
      → first_difference (path_in calm base kind) (key_bytes (key_of call)) ≡ None
      → LeadsTo shape calm (key_of call) base kind (slice_index (key_bytes (key_of call)) (level_in calm base kind))
  leads-on h slot base kind (on, at) none = leads-below shape n calm rest on.leads (byte-in-small c h)
      (hangs-on c h slot (ChildRow base kind) at) none

  -- ---- a get, a remove or a replace after FIND

  module _ (e : is_insert call ≡ false) where
    seeks-key : is_seek call ≡ true
    seeks-key = seek-of call e key-call

    finds-none : value_at m (key_of call) ≡ None → Does m call reply.None m
    finds-none none =
        (inr (sym (seek-reply m call seeks-key ∙ ap value_reply none)), sym (absent-after m call seeks-key means.rising none))

    unlocks : (h : HeldRow) → IsOnWay c calm h → Own h → value_at m (key_of call) ≡ None → To (Unlock (hold_alone h) (Some no_value))
    unlocks h on own none = Finds reply.None (finds-none none) (knows false e (Some reply.None) _ (refl, refl, on.leads.reached) (own, tt))

    overwrites : (h : HeldRow) (slot k v : ℕ) (o : Option ℕ) → overwriting call v ≡ o → IsOnWay c calm h → Own h
        → HasChild c calm h slot (Leaf k v)
        → k ≡ key_of call → To (overwrite_at h slot v o)
    overwrites h slot k v None f on own at is =
        let has = own-leaf c rest means ways h slot k v on at is in
        Finds (reply.Some v) (inr (sym (seek-reply m call seeks-key ∙ ap value_reply has)), sym (kept-after m call v seeks-key f has))
        (knows false e (Some (reply.Some v)) _ (refl, refl, on.leads.reached) (own, tt))
    overwrites h slot k v (Some word) f on own at is = Works (hold_alone h) (work.Write slot word (Some v)) refl
        (overwritten c tree h slot (Leaf k v) word (Some v) on at (is, refl, inr f)) (own, tt)

    seeks : (h : HeldRow) (f : Finding) → IsOnWay c calm h → Own h → KnowsFinding false c calm h f → To (seek_coupled false c h f)
    seeks h (Lacks keys) on own none = unlocks h on own (no-slot c rest means ways h on none)
    seeks h (Has slot Empty) on own at = unlocks h on own (empty-slot c rest means ways h slot on at)
    seeks h (Has slot (Leaf k v)) on own at = go (k == key_of call) refl
      where
        go : (b : Bool) → (k == key_of call) ≡ b
            → To (if b then overwrite_at h slot v (overwriting call v) else Unlock (hold_alone h) (Some no_value))
        go true same = overwrites h slot k v (overwriting call v) refl on own at (eqb-true k (key_of call) same)
        go false apart = unlocks h on own (other-leaf c rest means ways h slot k v on at (eqb-false k (key_of call) apart))
    seeks h (Has slot (ChildRow base kind)) on own at = GoesOn (knows false e None _ (on, at) (own, tt))

  -- ---- an insert after FIND

  module _ (e : is_insert call ≡ true) where
    alone : (h : HeldRow) (f : Finding) → IsOnWay c calm h → Own h → KnowsFinding true c calm h f → HasRoom h f → To (insert_coupled c h f)
    alone h (Lacks keys) on own lacks room = Works (hold_alone h) (work.Put keys) refl
        (record {
          call = tree;
          words = (insert-of call tree e, lacks, room);
          byte = byte_in c h;
          leads = on.leads;
          finds = (refl, on.info);
        }) (own, tt)
    alone h (Has slot Empty) on own at room = Works (hold_alone h) (work.Write slot (child_word (new_leaf call)) None) refl
        (overwritten c tree h slot Empty (child_word (new_leaf call)) None on at (e, refl, refl)) (own, tt)
    alone h (Has slot (Leaf k v)) on own at room = go (k == key_of call) refl
      where
        parts : k ≢ key_of call → first_difference (key_bytes k) (key_bytes (key_of call)) ≡ Some (keys_differ_at k (key_of call))
        parts apart =
            keys-differ k (key_of call) (leaves shape calm h.base h.kind (byte_in c h) k v rest.small (hangs-on c h slot (Leaf k v) at)).0
            (key-small call tree key-call) apart

        empty : Leaf k v ≢ Empty
        empty f = cc

        go : (b : Bool) → (k == key_of call) ≡ b
            → To (if b then Write (hold_alone h) slot (child_word (new_leaf call)) (Some v) else ClaimPair (hold_alone h)
            (record {
              slot = slot;
              level = keys_differ_at k (key_of call);
              byte = slice_index (key_bytes k) (keys_differ_at k (key_of call));
              child = Leaf k v;
            }))
        go true same =
            let is = eqb-true k (key_of call) same in
            Works (hold_alone h) (work.Write slot (child_word (new_leaf call)) (Some v)) refl
            (overwritten c tree h slot (Leaf k v) (child_word (new_leaf call)) (Some v) on at (is, refl, inl (e, refl)))
            (own, tt)
        go false same =
            let apart = eqb-false k (key_of call) same in
            let d = keys_differ_at k (key_of call) in
            Works (hold_alone h) (pair_work c slot k v) refl
            (record {
              call = tree;
              words = (
                insert-of call tree e,
                at.has,
                empty,
                key_byte-small k d,
                first-differs (key_bytes k) (key_bytes (key_of call)) d
                    (parts apart),
              );
              byte = byte_in c h;
              leads = on.leads;
              finds = (at.at, (parts apart, refl));
            })
            (own, tt)
    alone h (Has slot (ChildRow base kind)) on own at room = GoesOn (knows true e None _ (on, at) (own, tt))

    lets-go : (h : HeldRow) (above : Option HeldRow) (slot : ℕ) (f : Finding) → HangsBelow c calm h slot above → IsOnWay c calm h
        → Each Own (h ∷ all_of above)
        → KnowsFinding true c calm h f
        → HasRoom h f → To (let_go_at c h above slot f)
    lets-go h None slot f up on own at room = alone h f on own.0 at room
    lets-go h (Some a) slot f up on own at room = GoesOn (knows true e None _ (on, at, up.0.leads.reached) own)

    grows : (h : HeldRow) (above : Option HeldRow) (slot : ℕ) (keys : Keys) → IsOnWay c calm h → Each Own (h ∷ all_of above)
        → HangsBelow c calm h slot above → IsUnder above h slot → LacksByte c h keys calm → count_in h.kind keys ≡ capacity h.kind
        → To (ClaimGrow (record { row = h; above = above }) slot keys)
    grows h None slot keys on own up under lacks full = absurd (full-slot calm h.base h.kind (byte_in c h) under lacks.absent)
    grows h (Some a) slot keys on own up under lacks full = Works (record { row = h; above = Some a }) (work.Grow slot keys) refl
        (record {
          call = tree;
          words = (insert-of call tree e, lacks, full, up.1.has);
          byte = byte_in c a;
          leads = up.0.leads;
          finds = (refl, up.1.at, on.leads, on.info);
        }) own

    inserts : (p : Position) (f : Finding) → KnowsPlace true c calm p → Each Own (p.row ∷ all_of p.above) → FitsPlace p
        → KnowsFinding true c calm p.row f
        → To (place_coupled c p f)
    inserts p (Has slot child) (on, up) own under at = lets-go p.row p.above p.slot (Has slot child) up on own at tt
    inserts p (Lacks keys) (on, up) own under at = go (count_in p.row.kind keys == capacity p.row.kind) refl
      where
        go : (b : Bool) → (count_in p.row.kind keys == capacity p.row.kind) ≡ b
            → To (if b then ClaimGrow (record { row = p.row; above = p.above }) p.slot keys else let_go_at c p.row p.above
            p.slot (Lacks keys))
        go true full = grows p.row p.above p.slot keys on own up under at (eqb-true _ _ full)
        go false room = lets-go p.row p.above p.slot (Lacks keys) up on own at (not_full _ _ room (count-most p.row.kind keys))

  -- ---- FIND

  found : (i : Bool) → is_insert call ≡ i → (p : Position) (f : Finding) → KnowsPlace i c calm p
      → Each Own (held_at_place true i p) → FitsPlace p
      → KnowsFinding i c calm p.row f → To (found_at true i false c p f)
  found false e p f on own under at = seeks e p.row f on own.0 at
  found true e p f on own under at = inserts e p f on own under at

  lacks : (i : Bool) (h : HeldRow) (keys : Keys) → LacksByte c h keys calm → KnowsKeys i c calm h keys
  lacks true h keys l = l
  lacks false h keys l = l.absent

  -- the slot of a byte is that of its place among the keys
  among : (i : Bool) → is_insert call ≡ i → (p : Position) (keys : Keys) → KnowsPlace i c calm p
      → Each Own (held_at_place true i p) → FitsPlace p
      → slot_in c calm p.row ≡ option_map (child_at p.row.kind p.row.base) (place_of (byte_in c p.row) (keys_among p.row.kind keys))
      → (slot_in c calm p.row ≡ None → LacksByte c p.row keys calm) → To (words_at true i false c p keys)
  among i e p keys on own under is lack = go (place_of (byte_in c p.row) (keys_among p.row.kind keys)) is
    where
      go : (o : Option ℕ) → slot_in c calm p.row ≡ option_map (child_at p.row.kind p.row.base) o → To (among_at true i false c p keys o)
      go None none = found i e p (Lacks keys) on own under (lacks i p.row keys (lack none))
      go (Some place) some = GoesOn (knows i e None _ (on, some) own)

  abbrev place : ℕ → Kind → ℕ → ℕ → Option HeldRow → ℕ → Position
  place base kind info was above slot = record { row = held base kind info was; above = above; slot = slot }

  on-way : (i : Bool) (p : Position) → KnowsPlace i c calm p → IsOnWay c calm p.row
  on-way true p k = k.0
  on-way false p k = k

  form-of : (i : Bool) (p : Position) → KnowsPlace i c calm p → HasForm calm p.row.base p.row.kind
  form-of i p k = rest.tree.form p.row.base p.row.kind (on-way i p k).leads.reached

  four : (i : Bool) → is_insert call ≡ i → (base info was : ℕ) (above : Option HeldRow) (slot w : ℕ)
      → KnowsPlace i c calm (place base Four info was above slot)
      → Each Own (held_at_place true i (place base Four info was above slot)) → FitsPlace (place base Four info was above slot)
      → w ≡ slice_index calm (keys_at base) → To (words_at true i false c (place base Four info was above slot) (keys_one w))
  four i e base info was above slot w on own under is =
      let p = place base Four info was above slot in
      let x = byte_in c (held base Four info was) in
      among i e p (keys_one w) on own under
      (ap (λ v. option_map (child_at Four base) (place_of x (keys4_of v))) (sym is))
      (λ none. record { form = form-of i p on; absent = none; keys = ap keys4_of is; count = ap (λ v. length (keys4_of v)) is })

  sixteen : (i : Bool) → is_insert call ≡ i → (base info was : ℕ) (above : Option HeldRow) (slot count first second : ℕ)
      → KnowsPlace i c calm (place base Sixteen info was above slot)
      → Each Own (held_at_place true i (place base Sixteen info was above slot)) → FitsPlace (place base Sixteen info was above slot)
      → count ≡ slice_index calm (count_at Sixteen base) → first ≡ slice_index calm (keys_at base)
      → second ≡ slice_index calm (more_keys_at base)
      → To (words_at true i false c (place base Sixteen info was above slot) (record { first = first; second = second; count = count }))
  sixteen i e base info was above slot count first second on own under a b d =
      let p = place base Sixteen info was above slot in
      let x = byte_in c (held base Sixteen info was) in
      let same : keys16_of count first second ≡ keys16_of (slice_index calm (count_at Sixteen base))
      (slice_index calm (keys_at base)) (slice_index calm
      (more_keys_at base)) =
      ap (λ v. keys16_of v first second) a ∙ (ap (λ v. keys16_of (slice_index calm (count_at Sixteen base)) v second) b
      ∙ ap (λ v. keys16_of (slice_index calm (count_at Sixteen base)) (slice_index calm (keys_at base)) v) d) in
      among i e p (record { first = first; second = second; count = count }) on own under
      (ap (λ ks. option_map (child_at Sixteen base) (place_of x ks)) (sym same))
      (λ none. record { form = form-of i p on; absent = none; keys = same; count = ap (λ ks. length ks) same })

  indexed : (i : Bool) → is_insert call ≡ i → (base info was : ℕ) (above : Option HeldRow) (slot w : ℕ)
      → KnowsPlace i c calm (place base FortyEight info was above slot)
      → Each Own (held_at_place true i (place base FortyEight info was above slot)) → FitsPlace (place base FortyEight info was above slot)
      → w ≡ slice_index calm (index_at base (byte_in c (held base FortyEight info was)))
      → To (find_at true i false FortyEight c (place base FortyEight info was above slot) w)
  indexed i e base info was above slot w on own under is =
      subst (λ j. To (if entry == 0 then (if j then FindCount p w else found_at true i false c p (Lacks (keys_one w))) else Slot p
      (child_at FortyEight base
      (entry - 1))))
      (sym e) (go (entry == 0) refl)
    where
      p : Position
      p = place base FortyEight info was above slot

      x : ℕ
      x = byte_in c (held base FortyEight info was)

      entry : ℕ
      entry = slice_index (entries_of w) (x % 8)

      slot-is : (b : Bool) → (entry == 0) ≡ b → slot_in c calm (held base FortyEight info was) ≡ (if b then None else Some
          (child_at FortyEight base (entry -
          1)))
      slot-is b f =
          ap (λ v. if slice_index (entries_of v) (x % 8) == 0 then None else Some
          (child_at FortyEight base (slice_index (entries_of v) (x % 8) - 1))) (sym is)
          ∙ ap (λ b. if b then None else Some (child_at FortyEight base (entry - 1))) f

      none-at : (i : Bool) → is_insert call ≡ i → KnowsPlace i c calm p → Each Own (held_at_place true i p)
          → slot_in c calm (held base FortyEight info was) ≡ None
          → To (if i then FindCount p w else found_at true i false c p (Lacks (keys_one w)))
      none-at true e on own none = GoesOn (knows true e None _ (on, refl, is, none) own)
      none-at false e on own none = found false e p (Lacks (keys_one w)) on own under none

      go : (b : Bool) → (entry == 0) ≡ b
          → To (if b then (if i then FindCount p w else found_at true i false c p (Lacks (keys_one w))) else Slot p
          (child_at FortyEight base (entry - 1)))
      go true f = none-at i e on own (slot-is true f)
      go false f = GoesOn (knows i e None _ (on, slot-is false f) own)

  -- FIND's first word
  finds : (i : Bool) → is_insert call ≡ i → (base : ℕ) (kind : Kind) (info was : ℕ) (above : Option HeldRow) (slot w : ℕ)
      → KnowsPlace i c calm (place base kind info was above slot) → Each Own (held_at_place true i (place base kind info was above slot))
      → FitsPlace (place base kind info was above slot) → Gets c calm words (Find (place base kind info was above slot)) w
      → To (find_at true i false kind c (place base kind info was above slot) w)
  finds i e base kind info was above slot w on own under got = go kind on own under got
    where
      first : (i : Bool) (p : Position) → Each Own (held_at_place true i p) → Own p.row
      first true p own = own.0
      first false p own = own.0

      go : (kind : Kind) → KnowsPlace i c calm (place base kind info was above slot)
          → Each Own (held_at_place true i (place base kind info was above slot))
          → FitsPlace (place base kind info was above slot) → Gets c calm words (Find (place base kind info was above slot)) w
          → To (find_at true i false kind c (place base kind info was above slot) w)
      go Four on own under got = four i e base info was above slot w on own under
          (got.loads (keys_at base) None refl
          ∙ own-word calm words (held base Four info was) (first i (place base Four info was above slot) own) (keys_at base)
          (omega arith, omega arith))
      go Sixteen on own under got = GoesOn (knows i e None _ (
        on,
        refl,
        got.loads (count_at Sixteen base) None refl
            ∙ own-word calm words (held base Sixteen info was) (first i (place base Sixteen info was above slot) own)
            (count_at Sixteen base) (
              omega arith,
              omega arith,
            ),
      ) own)
      go FortyEight on own under got =
          let small = byte-in-small c (held base FortyEight info was) in
          indexed i e base info was above slot w on own under
          (got.loads (index_at base (byte_in c (held base FortyEight info was))) None refl
          ∙ own-word calm words (held base FortyEight info was) (first i (place base FortyEight info was above slot) own)
          (index_at base (byte_in c (held base FortyEight info was))) (omega (arith, small), omega (arith, small)))
      go Full on own under got =
          let small = byte-in-small c (held base Full info was) in
          let at = child_at Full base (byte_in c (held base Full info was)) in
          found i e (place base Full info was above slot) (Has at (child_of shape w)) on own under (record {
            at = refl;
            has = ap (child_of shape) (sym (got.loads at None refl
                ∙ own-word calm words (held base Full info was) (first i (place base Full info was above slot) own) at (
                  omega (arith, small),
                  omega (
                    arith,
                    small,
                  ),
                )));
          })

  first-own : (i : Bool) (p : Position) → Each Own (held_at_place true i p) → Own p.row
  first-own true p own = own.0
  first-own false p own = own.0

  child-read : (i : Bool) → is_insert call ≡ i → (p : Position) (slot w : ℕ) → KnowsPlace i c calm p → slot_in c calm p.row ≡ Some slot
      → Each Own (held_at_place true i p) → FitsStage true i c (Slot p slot) → Gets c calm words (Slot p slot) w
      → To (found_at true i false c p (Has slot (child_of shape w)))
  child-read i e p slot w on at own fits got = found i e p (Has slot (child_of shape w)) on own fits.0 (record {
    at = at;
    has = ap (child_of shape) (sym (got.loads slot _ refl ∙ own-word calm words p.row (first-own i p own) slot
        (slot-behind p.row.base p.row.kind slot
        fits.1)));
  })

  -- the count of a row of kind 48, which an insert asks for
  counted : (i : Bool) → is_insert call ≡ i → (base : ℕ) (kind : Kind) (info was : ℕ) (above : Option HeldRow) (slot index w : ℕ)
      → kind ≡ FortyEight
      → KnowsPlace i c calm (place base kind info was above slot)
      → index ≡ slice_index calm (index_at base (byte_in c (held base kind info was)))
      → slot_in c calm (held base kind info was) ≡ None → Each Own (held_at_place true i (place base kind info was above slot))
      → FitsPlace (place base kind info was above slot) → Gets c calm words (FindCount (place base kind info was above slot) index) w
      → To (found_at true i false c (place base kind info was above slot) (Lacks (record { first = index; second = 0; count = w })))
  counted i e base Four info was above slot index w kinds on is none own under got = absurd (differ kinds)
    where
      differ : Four ≡ FortyEight → ⊥
      differ e = cc
  counted i e base Sixteen info was above slot index w kinds on is none own under got = absurd (differ kinds)
    where
      differ : Sixteen ≡ FortyEight → ⊥
      differ e = cc
  counted i e base Full info was above slot index w kinds on is none own under got = absurd (differ kinds)
    where
      differ : Full ≡ FortyEight → ⊥
      differ e = cc
  counted i e base FortyEight info was above slot index w kinds on is none own under got =
      let p = place base FortyEight info was above slot in
      let read = got.loads (count_at FortyEight base) None refl
      ∙ own-word calm words (held base FortyEight info was) (first-own i p own) (count_at FortyEight base) (omega arith, omega arith) in
      found i e p (Lacks (record { first = index; second = 0; count = w })) on own under (knows-keys i e p on read)
    where
      knows-keys : (i : Bool) → is_insert call ≡ i → (p : Position) → KnowsPlace i c calm (place base FortyEight info was above slot)
          → w ≡ slice_index calm (count_at FortyEight base)
          → KnowsKeys i c calm (held base FortyEight info was) (record { first = index; second = 0; count = w })
      knows-keys false e p on read = none
      knows-keys true e p on read = record {
        form = form-of true (place base FortyEight info was above slot) on;
        absent = none;
        keys = ap entries_of is;
        count = ap (count_of 48) read ∙ ap (λ j. if j then count_of 48 (slice_index calm (count_at FortyEight base)) else 0) (sym e);
      }

  -- ---- LOCK, and from a row to the one below

  entered : (i : Bool) → is_insert call ≡ i → (t : Target) (v w : ℕ) → KnowsTarget c calm t → Each Own (rows_of_target t)
      → Gets c calm words (Exchange t v) w
      → w ≡ v → To (entered_at true i false c t v)
  entered i e Root v w k own got is = GoesOn (knows i e None _ (way i) (mine i))
    where
      way : (i : Bool) → KnowsPlace i c calm (root_place c v)
      way true = (record { leads = (leads-root shape n calm rest (key_of call)).1; info = rest.tree.root }, tt)
      way false = record { leads = (leads-root shape n calm rest (key_of call)).1; info = rest.tree.root }

      own-root : Own (held (root_base shape) Full 3 v)
      own-root =
          let x = got.takes (root_base shape) v None refl is Full root in
          record { same = x.0; live = x.1 }

      mine : (i : Bool) → Each Own (held_at_place true i (root_place c v))
      mine true = (own-root, tt)
      mine false = (own-root, tt)
  entered i e (Below d) v w k own got is = go i e
    where
      own-row : (info : ℕ) → Own (held d.base d.kind info v)
      own-row info =
          let x = got.takes d.base v None refl is d.kind (reached-below c d.above d.slot d.base d.kind k) in
          record { same = x.0; live = x.1 }

      go : (i : Bool) → is_insert call ≡ i → To (entered_at true i false c (Below d) v)
      go true e = GoesOn (knows true e None _ k (own-row 0, own))
      go false e = GoesOn (knows false e None _ k (own-row 0, own))
  entered i e (Taken t) v w k own got is = absurd k

  -- the row above is released
  passes : is_insert call ≡ false → (d : Down) (kept : ℕ) → IsBelow c calm d → Own (held d.base d.kind 0 kept) → To (Info d kept)
  passes e d kept k own = go (first_difference (path_in calm d.base d.kind) (key_bytes (key_of call))) refl
    where
      go : (o : Option ℕ) → first_difference (path_in calm d.base d.kind) (key_bytes (key_of call)) ≡ o → To (Info d kept)
      go None f = GoesOn (knows false e None _ (leads-on d.above d.slot d.base d.kind k f) (own, tt))
      go (Some x) f = Finds reply.None (finds-none e (other-row c rest means ways d.above d.slot d.base x d.kind k.0 k.1 f))
          (knows false e (Some reply.None) _ (refl, (reached-below c d.above d.slot d.base d.kind k, (x, f))) (own, tt))

  abbrev calm-info : Down → ℕ
  calm-info d = slice_index calm (info_at d.base)

  abbrev row-below : Down → ℕ → HeldRow
  row-below d kept = held d.base d.kind (calm-info d) kept

  arrives : (i : Bool) → is_insert call ≡ i → (d : Down) (kept : ℕ) → KnowsInfo i c calm d → Each Own (held_at_stage true i (Info d kept))
      → To (below_at true i c d (row-below d kept) (path_differs_at c (row_at (row-below d kept))))
  arrives false e d kept k own = go (path_differs_at c (row_at (row-below d kept))) refl
    where
      go : (o : Option ℕ) → path_differs_at c (row_at (row-below d kept)) ≡ o → To (below_at true false c d (row-below d kept) o)
      go None f = GoesOn (knows false e None _ (record { leads = k; info = refl }) (record { same = own.0.same; live = own.0.live }, tt))
      go (Some x) f = absurd (none-some x (sym (never_differs (level_in calm d.base d.kind) (key_bytes (key_of call)))
          ∙ (ap (λ xs. first_difference xs (key_bytes (key_of call))) k.path ∙ f)))
  arrives true e d kept k own = go (path_differs_at c (row_at (row-below d kept))) refl
    where
      mine : Own (row-below d kept)
      mine = record { same = own.0.same; live = own.0.live }

      row : ChildRow d.base d.kind ≢ Empty
      row f = cc

      go : (o : Option ℕ) → path_differs_at c (row_at (row-below d kept)) ≡ o → To (below_at true true c d (row-below d kept) o)
      go None f = GoesOn (knows true e None _ (record { leads = leads-on d.above d.slot d.base d.kind k f; info = refl }, k) (mine, own.1))
      go (Some x) f = Works (record { row = row-below d kept; above = Some d.above }) (work.Pair (record {
        slot = d.slot;
        level = x;
        byte = slice_index (path_in calm d.base d.kind) x;
        child = ChildRow d.base d.kind;
      })) refl
          (record {
            call = tree;
            words = (
              insert-of call tree e,
              k.1.has,
              row,
              path_byte-small calm d.base d.kind x,
              first-differs (path_in calm d.base d.kind) (key_bytes (key_of call)) x f,
            );
            byte = byte_in c d.above;
            leads = k.0.leads;
            finds = (k.1.at, (f, refl));
          })
          (mine, own.1)

  -- once an insert has let the row above go
  still : is_insert call ≡ true → (p : Position) (f : Finding) → p.above ≡ None → IsOnWay c calm p.row → Own p.row
      → KnowsFinding true c calm p.row f
      → HasRoom p.row f → To (place_coupled c p f)
  still e p (Has slot child) none on own at room =
      subst (λ o. To (let_go_at c p.row o p.slot (Has slot child))) (sym none) (alone e p.row (Has slot child) on own at room)
  still e p (Lacks keys) none on own at room = go (count_in p.row.kind keys == capacity p.row.kind) refl
    where
      go : (b : Bool) → (count_in p.row.kind keys == capacity p.row.kind) ≡ b
          → To (if b then ClaimGrow (record { row = p.row; above = p.above }) p.slot keys else let_go_at c p.row p.above
          p.slot (Lacks keys))
      go true full = absurd (full-not-less _ _ full room)
      go false less = subst (λ o. To (let_go_at c p.row o p.slot (Lacks keys))) (sym none) (alone e p.row (Lacks keys) on own at room)

  below-own : (d : Down) (kept : ℕ) (i : Bool) → Each Own (held_at_stage true i (Info d kept)) → Own (held d.base d.kind 0 kept)
  below-own d kept true own = own.0
  below-own d kept false own = own.0

  more : (i : Bool) → is_insert call ≡ i → (base : ℕ) (kind : Kind) (info was : ℕ) (above : Option HeldRow)
      (slot count first w : ℕ) → kind ≡ Sixteen
      → KnowsPlace i c calm (place base kind info was above slot) → count ≡ slice_index calm (count_at Sixteen base)
      → first ≡ slice_index calm (keys_at base)
      → w ≡ slice_index calm (more_keys_at base) → Each Own (held_at_place true i (place base kind info was above slot))
      → FitsPlace (place base kind info was above slot)
      → To (words_at true i false c (place base kind info was above slot) (record { first = first; second = w; count = count }))
  more i e base Four info was above slot count first w kinds on a b d own under = absurd (differ kinds)
    where
      differ : Four ≡ Sixteen → ⊥
      differ e = cc
  more i e base FortyEight info was above slot count first w kinds on a b d own under = absurd (differ kinds)
    where
      differ : FortyEight ≡ Sixteen → ⊥
      differ e = cc
  more i e base Full info was above slot count first w kinds on a b d own under = absurd (differ kinds)
    where
      differ : Full ≡ Sixteen → ⊥
      differ e = cc
  more i e base Sixteen info was above slot count first w kinds on a b d own under =
      sixteen i e base info was above slot count first w on own under a b d

  -- ---- each stage

  next : (i : Bool) → is_insert call ≡ i → (stage : Stage) (w : ℕ) → KnowsStage i c calm stage → Each Own (held_at_stage true i stage)
      → FitsStage true i c stage
      → Gets c calm words stage w → To (after_with true i false c stage w)
  next i e (Lock t first) w k own fits got = go (is_locked w)
    where
      go : (b : Bool) → To (if b then Lock t false else Exchange t w)
      go true = GoesOn (knows i e None _ k own)
      go false = GoesOn (knows i e None _ k own)
  next i e (Exchange t v) w k own fits got = go (w == v) refl
    where
      go : (b : Bool) → (w == v) ≡ b → To (if b then entered_at true i false c t v else Lock t false)
      go true same = entered i e t v w k own got (eqb-true w v same)
      go false same = GoesOn (knows i e None _ k own)
  next true e (Between d kept) w k own fits got = absurd fits
  next false e (Between d kept) w k own fits got = passes e d kept k own.0
  next i e (Info d kept) w k own fits got =
      subst (λ v. To (below_at true i c d (held d.base d.kind v kept) (path_differs_at c (row_at (held d.base d.kind v kept)))))
      (sym (got.loads (info_at d.base) None refl
      ∙ own-word calm words (held d.base d.kind 0 kept) (below-own d kept i own) (info_at d.base)
      (omega arith, omega (arith, seven-words d.kind))))
      (arrives i e d kept k own)
  next i e (Find p) w k own fits got = finds i e p.row.base p.row.kind p.row.info p.row.kept p.above p.slot w k own fits got
  next i e (FindKeys p count) w k own fits got = GoesOn (knows i e None _ (
    k.0,
    k.1,
    k.2,
    got.loads (keys_at p.row.base) None refl
        ∙ own-word calm words p.row (first-own i p own) (keys_at p.row.base) (omega arith, omega (arith, seven-words p.row.kind)),
  ) own)
  next i e (FindMore p count first) w k own fits got =
      more i e p.row.base p.row.kind p.row.info p.row.kept p.above p.slot count first w k.1 k.0 k.2 k.3
      (got.loads (more_keys_at p.row.base) None refl
      ∙ own-word calm words p.row (first-own i p own) (more_keys_at p.row.base)
      (omega arith, omega (arith, seven-words p.row.kind))) own fits
  next i e (FindCount p index) w k own fits got =
      counted i e p.row.base p.row.kind p.row.info p.row.kept p.above p.slot index w k.1 k.0 k.2 k.3 own fits got
  next i e (Slot p slot) w k own fits got = child-read i e p slot w k.0 k.1 own fits got
  next true e (LetGo above p f) w k own fits got = still e p f fits.0 k.0 own.0 k.1 fits.2
  next false e (LetGo above p f) w k own fits got = absurd fits
  next i e stage w k own fits got = absurd k

pub ways-go-on : WaysLeadToValues → LeavesAreSmall → WaysGoOn
ways-go-on ways leaves shape call n calm words m stage w tree key-call rest means fits k got =
    next shape call tree key-call n calm words m rest means ways leaves (is_insert call) refl stage w k.way k.rows fits got

-- ---- a call that has found what it will answer

module _ (shape : Shape) (call : Call) (calm words : List ℕ) (r : Reply) where
  abbrev here : Setting
  here = setting shape Coupled call

  abbrev Knows : Bool → Stage → Type 0
  Knows i stage = KnowsReply r i (setting shape Coupled call) calm stage × Each (IsHeldLive calm words) (held_at_stage true i stage)

  answers : (i : Bool) (stage : Stage) (w : ℕ) → Knows i stage → Gets (setting shape Coupled call) calm words stage w
      → Knows i (after_with true i false here stage w)
  answers true (Info d kept) w (k, own) got = absurd k.1
  answers false (Info d kept) w (k, own) got = subst (λ v. Knows false (below_at true false here d (held d.base d.kind v kept)
      (path_differs_at here (row_at (held d.base d.kind v kept)))))
      (sym (got.loads (info_at d.base) None refl
      ∙ own-word calm words (held d.base d.kind 0 kept) own.0 (info_at d.base) (omega arith, omega (arith, seven-words d.kind))))
      (go (path_differs_at here (row_at (row-below))) k.1.1.1)
    where
      row-below : HeldRow
      row-below = held d.base d.kind (slice_index calm (info_at d.base)) kept

      go : (o : Option ℕ) → o ≡ Some k.1.1.0 → Knows false (below_at true false here d row-below o)
      go None f = absurd (none-some k.1.1.0 f)
      go (Some x) f = ((refl, k.0, k.1.0), (record { same = own.0.same; live = own.0.live }, tt))
  answers i (Unlock h None) w (k, own) got = absurd k.1
  answers i (Unlock h (Some o)) w (k, own) got = subst (λ a. Knows i (release_at true a (Some o))) (sym k.0) (k.1, tt)
  answers i (Over o) w (k, own) got = (k, tt)
  answers i stage w (k, own) got = absurd k

pub findings-stay : FindingsStay
findings-stay shape call n calm words stage w r rest k got =
    let x = answers shape call calm words r (is_insert call) stage w (k.way, k.rows) got in
    record { way = x.0; rows = x.1 }
