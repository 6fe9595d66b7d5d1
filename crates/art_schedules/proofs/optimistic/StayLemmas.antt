-- What a call knows on its way stays so, whatever other calls do.
use Rattle.art_schedules.proofs.Common.{◌≡◌, ℕ, ◌+◌, List, [], ◌∷◌, ◌++◌, Bool, true, false, sym, ap, ◌∙◌, arith, inl, Option, Some, None}
use Rattle.art_schedules.proofs.Common.{false≢true, Contents, Call, Reply, Shape, Kind, Child, ChildRow, kind_at, key_bytes, first_difference}
use Rattle.art_schedules.proofs.Common.{info_of, is_obsolete, seven-words, Optimistic, Setting, key_of, is_insert, HeldRow, Position}
use Rattle.art_schedules.proofs.Common.{Down, Work, Root, Below, Taken, Stage, Wait, Between, Info, Find, FindKeys, FindMore, FindCount, Slot}
use Rattle.art_schedules.proofs.Common.{Check, CheckLast, Take, Unlock, Over, held, setting, State, path_in, SameRow, Each, IsKept, rows_kept}
use Rattle.art_schedules.proofs.Common.{ComesInBy, IsGoneBy, IsSettled, IsSteady, IsStill, all_of, held_at_stage, is_busy, pairs_by}
use Rattle.art_schedules.proofs.versions.MoveLemmas.{settled-row}
use Rattle.art_schedules.proofs.Common.{Effect, Follows, BeginsWork, IsCurrent, IsBelow, HangsBelow, KnowsPlace, KnowsStage, IsReachedHere}
use Rattle.art_schedules.proofs.Common.{AllStand, hold_taken, IsPast, IsHeldReached, Agrees, HangsOnWay}
use Rattle.std.proofs.Common.{slice_index}
use Rattle.art_schedules.proofs.calm.VersionLemmas.{free-parts, unmarked-free}
use Rattle.art_schedules.specs.optimistic.Knows.{KnowsReply, KnowsAt, PathFollows, PathDiffers, IsReachedBelow}
use Rattle.art_schedules.specs.optimistic.Laws.{InfosStay, WaysAreKept}
use Rattle.art_schedules.proofs.effects.WayLemmas.{on-way, slot-still, hangs-still, finding-still, index-still, begins-still}

-- ---- a step, with the states before and after it

module _ (shape : Shape) (call : Call) (n : ℕ) (calm after : List ℕ) (pairs : Contents) (effect : Option Effect) (s t : State)
    (follows : Follows shape n calm after pairs (IsGoneBy effect) (ComesInBy effect)) (agree : Agrees shape s.words calm)
    (agree-then : Agrees shape t.words after)
    (steady : IsSteady Optimistic shape s t) (infos : InfosStay shape s t)
    (leaving : (base : ℕ) → IsGoneBy effect base → is_obsolete (slice_index t.words base) ≡ true) where
  abbrev c : Setting
  c = setting shape Optimistic call

  abbrev S : HeldRow → Type 0
  S h = SameRow calm after h.base h.kind × (IsGoneBy effect h.base → ⊥)

  abbrev Kept : HeldRow → Type 0
  Kept h = IsKept false (IsSettled Optimistic shape s) h

  abbrev Past : HeldRow → Type 0
  Past h = IsPast s.words h

  -- a row whose version is the kept one after the step had it before, and stays
  back : (h : HeldRow) → Kept h → Past h → IsCurrent t.words h → IsCurrent s.words h × S h
  back h kept past st = (stood, (row, stays))
    where
      stood : IsCurrent s.words h
      stood = omega (arith, past, st, steady.rises h.base h.kind kept.1)

      here : kind_at shape h.base ≡ Some h.kind
      here = settled-row Optimistic shape s h.base h.kind kept.1

      free : is_busy h.kept ≡ false
      free = unmarked-free h.kept kept.0

      row : SameRow calm after h.base h.kind
      row j low high =
          agree-then.free h.base h.kind here (ap is_busy st ∙ free) (h.base + j) (omega arith) (omega (arith, high))
          ∙ (steady.stands h.base h.kind kept.1 (st ∙ sym stood)
          (ap Rattle.art_rows.specs.Words.is_locked stood ∙ (free-parts h.kept free).0)
          (h.base + j) (omega arith) (omega (arith, high))
          ∙ sym (agree.free h.base h.kind here (ap is_busy stood ∙ free) (h.base + j) (omega arith) (omega (arith, high))))

      stays : IsGoneBy effect h.base → ⊥
      stays g = false≢true (sym (ap is_obsolete st ∙ (free-parts h.kept free).1) ∙ leaving h.base g)

  hangs : (h : HeldRow) (slot : ℕ) (child : Child) → S h → HangsOnWay c calm h slot child → HangsOnWay c after h slot child
  hangs h slot child = hangs-still c follows h slot child

  below-kept : (d : Down) → Kept d.above → Past d.above → IsBelow c calm s.words d → IsBelow c after t.words d
  below-kept d kept past k st =
      let x = back d.above kept past st in
      hangs d.above d.slot (ChildRow d.base d.kind) x.1 (k x.0)

  above-kept : (h : HeldRow) (slot : ℕ) (above : Option HeldRow) → Each Kept (all_of above) → Each Past (all_of above)
      → HangsBelow c calm s.words h slot above
      → HangsBelow c after t.words h slot above
  above-kept h slot None kept past k = tt
  above-kept h slot (Some a) kept past k = λ st.
      let x = back a kept.0 past.0 st in
      hangs a slot (ChildRow h.base h.kind) x.1 (k x.0)

  place-kept : (p : Position) → Each Kept (p.row ∷ all_of p.above) → Each Past (p.row ∷ all_of p.above) → KnowsPlace c calm s.words p
      → KnowsPlace c after t.words p
  place-kept p kept past (led, up) = (
    (λ st. let x = back p.row kept.0 past.0 st in on-way c follows p.row x.1
        (led x.0)),
    above-kept p.row p.slot p.above kept.1 past.1 up,
  )

  -- what was known of a row is still known, if its version is the kept one
  says : (h : HeldRow) → Kept h → Past h → (P Q : Type 0) → (S h → P → Q) → (IsCurrent s.words h → P) → IsCurrent t.words h → Q
  says h kept past P Q f p st =
      let x = back h kept past st in
      f x.1 (p x.0)

  path-kept : (base : ℕ) (kind : Kind) → IsSettled Optimistic shape s base kind → path_in t.words base kind ≡ path_in s.words base kind
  path-kept base kind settled = ap (λ v. (info_of kind v).path) (infos base kind settled)

  follows-kept : (i : Bool) (d : Down) → IsSettled Optimistic shape s d.base d.kind → PathFollows i c s.words d → PathFollows i c t.words d
  follows-kept true d settled k = tt
  follows-kept false d settled k = ap (λ xs. first_difference xs (key_bytes (key_of call))) (path-kept d.base d.kind settled) ∙ k

  differs-kept : (i : Bool) (d : Down) → IsSettled Optimistic shape s d.base d.kind → PathDiffers i c s.words d → PathDiffers i c t.words d
  differs-kept true d settled k = absurd k
  differs-kept false d settled (x, k) = (x, ap (λ xs. first_difference xs (key_bytes (key_of call))) (path-kept d.base d.kind settled) ∙ k)

  reached-kept : (d : Down) (was : ℕ) → Kept (held d.base d.kind 0 was) → Past (held d.base d.kind 0 was)
      → IsReachedBelow c calm s.words d was
      → IsReachedBelow c after t.words d was
  reached-kept d was kept past k st =
      let x = back (held d.base d.kind 0 was) kept past st in
      (follows.rows d.base d.kind).1 (inl (k x.0, x.1.1))

  taking-kept : (row : HeldRow) (above under : Option HeldRow) (w : Work) → Each Kept (row ∷ (all_of above ++ all_of under))
      → Each Past (row ∷ (all_of above ++ all_of under)) → Each S (all_of above)
      → (AllStand s.words row under → BeginsWork c calm (hold_taken row above under) w)
      → AllStand t.words row under → BeginsWork c after (hold_taken row above under) w
  taking-kept row above None w kept past still k st =
      let x = back row kept.0 past.0 st in
      begins-still c follows (record { row = row; above = above }) w (x.1, still) (k x.0)
  taking-kept row None (Some b) w kept past still k st =
      let x = back row kept.0 past.0 st.0 in
      let y = back b kept.1.0 past.1.0 st.1 in
      begins-still c follows (record { row = b; above = Some row }) w (y.1, (x.1, tt)) (k (x.0, y.0))
  taking-kept row (Some a) (Some b) w kept past still k st =
      let x = back row kept.0 past.0 st.0 in
      let y = back b kept.1.1.0 past.1.1.0 st.1 in
      begins-still c follows (record { row = b; above = Some row }) w (y.1, (x.1, tt)) (k (x.0, y.0))

  here-kept : (h : HeldRow) → Kept h → Past h → IsReachedHere c calm s.words h → IsReachedHere c after t.words h
  here-kept h kept past k = λ st.
      let x = back h kept past st in
      (follows.rows h.base h.kind).1 (inl (k x.0, x.1.1))

  under-kept : (row : HeldRow) (above under : Option HeldRow) → Each Kept (row ∷ (all_of above ++ all_of under))
      → Each Past (row ∷ (all_of above ++ all_of under))
      → Each (IsReachedHere c calm s.words) (all_of under) → Each (IsReachedHere c after t.words) (all_of under)
  under-kept row above None kept past k = tt
  under-kept row None (Some b) kept past k = (here-kept b kept.1.0 past.1.0 k.0, tt)
  under-kept row (Some a) (Some b) kept past k = (here-kept b kept.1.1.0 past.1.1.0 k.0, tt)

  stage-kept : (i : Bool) (stage : Stage) → Each Kept (rows_kept false i stage) → Each Past (rows_kept false i stage)
      → Each S (held_at_stage false i stage)
      → KnowsStage i c calm s.words stage → KnowsStage i c after t.words stage
  stage-kept i (Wait Root) kept past still k = tt
  stage-kept i (Wait (Below d)) kept past still k = below-kept d kept.0 past.0 k
  stage-kept i (Wait (Taken x)) kept past still k = absurd k
  stage-kept i (Between d was) kept past still k = below-kept d kept.1.0 past.1.0 k
  stage-kept i (Info d was) kept past still k =
      (below-kept d kept.1.0 past.1.0 k.0, reached-kept d was kept.0 past.0 k.1, follows-kept i d kept.0.1 k.2)
  stage-kept i (Find p) kept past still k = place-kept p kept past k
  stage-kept i (FindKeys p count) kept past still k = (
    place-kept p kept past k.0,
    k.1,
    says p.row kept.0 past.0 _ _ (λ x a. a ∙ sym (x.0 4 (omega arith) (omega (arith, seven-words p.row.kind)))) k.2,
  )
  stage-kept i (FindMore p count first) kept past still k = (
    place-kept p kept past k.0,
    k.1,
    says p.row kept.0 past.0 _ _ (λ x a. (
      a.0 ∙ sym (x.0 4 (omega arith) (omega (arith, seven-words p.row.kind))),
      a.1 ∙ sym (x.0 2 (omega arith) (omega (arith, seven-words p.row.kind))),
    )) k.2,
  )
  stage-kept i (FindCount p index) kept past still k = (
    place-kept p kept past k.0,
    k.1,
    says p.row kept.0 past.0 _ _ (λ x a. (
      a.0 ∙ sym (index-still c follows p.row x k.1),
      slot-still c follows p.row x ∙ a.1,
    )) k.2,
  )
  stage-kept i (Slot p slot) kept past still k = (
    place-kept p kept past k.0,
    says p.row kept.0 past.0 _ _ (λ x a. slot-still c follows p.row x ∙ a) k.1,
  )
  stage-kept i (Check p f) kept past still k = (
    place-kept p kept past k.0,
    says p.row kept.0 past.0 _ _ (λ x a. finding-still c follows i p.row f x a) k.1,
  )
  stage-kept i (Take x) kept past still k = (
    here-kept x.row kept.0 past.0 k.0,
    under-kept x.row x.held x.below kept past k.1,
    taking-kept x.row x.held x.below x.work
        kept past still k.2,
  )
  stage-kept i (Unlock h outcome) kept past still k = k
  stage-kept i stage kept past still k = absurd k

  reply-kept : (r : Reply) (i : Bool) (stage : Stage) → Each Kept (rows_kept false i stage) → KnowsReply r i c s.words stage
      → KnowsReply r i c t.words stage
  reply-kept r i (Info d was) kept k = (k.0, differs-kept i d kept.0.1 k.1)
  reply-kept r i (CheckLast h) kept k = k
  reply-kept r i (Over outcome) kept k = k
  reply-kept r i stage kept k = absurd k

  at-kept : (o : Option Reply) (i : Bool) (stage : Stage) → Each Kept (rows_kept false i stage) → Each Past (rows_kept false i stage)
      → Each S (held_at_stage false i stage) → KnowsAt o i c calm s.words stage → KnowsAt o i c after t.words stage
  at-kept None i stage kept past still k = stage-kept i stage kept past still k
  at-kept (Some r) i stage kept past still k = reply-kept r i stage kept k

  past-kept : (hs : List HeldRow) → Each Kept hs → Each Past hs → Each (IsPast t.words) hs
  past-kept [] kept past = tt
  past-kept (h ∷ hs) kept past = (omega (arith, past.0, steady.rises h.base h.kind kept.0.1), past-kept hs kept.1 past.1)

  rows-still : (hs : List HeldRow) → Each (IsStill calm s.words after t.words effect) hs → Each S hs
  rows-still [] still = tt
  rows-still (h ∷ hs) still = ((still.0.row, still.0.stays), rows-still hs still.1)

  own-kept : (hs : List HeldRow) → Each (IsStill calm s.words after t.words effect) hs → Each (IsHeldReached shape calm s.words) hs
      → Each (IsHeldReached shape after t.words) hs
  own-kept [] still own = tt
  own-kept (h ∷ hs) still own = (
    (
      (λ j low high. still.0.same j low high ∙ (own.0.0 j low high ∙ sym (still.0.row j low high))),
      (follows.rows h.base h.kind).1 (inl (own.0.1, still.0.stays)),
    ),
    own-kept hs still.1 own.1,
  )

pub ways-are-kept : WaysAreKept
ways-are-kept shape call calm after pairs effect s t found stage goes agree agree-then steady infos rows still k = record {
  way = at-kept shape call goes.claims calm after (pairs_by effect pairs) effect s t goes.follows agree agree-then steady infos goes.gone
      found (is_insert call) stage rows.kept k.kept
      (rows-still shape call goes.claims calm after (pairs_by effect pairs) effect s t goes.follows agree agree-then steady infos goes.gone
      _ still) k.way;
  kept = past-kept shape call goes.claims calm after (pairs_by effect pairs) effect s t goes.follows agree agree-then steady infos
      goes.gone _ rows.kept k.kept;
  rows = own-kept shape call goes.claims calm after (pairs_by effect pairs) effect s t goes.follows agree agree-then steady infos goes.gone
      _ still k.rows;
}
