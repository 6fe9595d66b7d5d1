-- What a call knows on its way stays so, whatever other calls do.
use Rattle.art_schedules.proofs.Common.{ℕ, List, [], ◌∷◌, Bool, true, false, sym, ap, ◌∙◌, subst, arith, inl, Option, Some, None, Contents}
use Rattle.art_schedules.proofs.Common.{Reply, Kind, ChildRow, key_bytes, first_difference, seven-words, Coupled, Setting, key_of, is_insert}
use Rattle.art_schedules.proofs.Common.{HeldRow, Position, Down, Target, Root, Below, Taken, Stage, Lock, Exchange, Between, Info, Find, FindKeys}
use Rattle.art_schedules.proofs.Common.{FindMore, FindCount, Slot, LetGo, Unlock, Over, setting, SameRow, LeadsTo, Each, held_at_place}
use Rattle.art_schedules.proofs.Common.{rows_of_target, all_of, held_at_stage, IsGoneBy, IsStill, Follows, KnowsTarget, KnowsInfo, KnowsReply}
use Rattle.art_schedules.proofs.Common.{KnowsAt, IsHeldLive}
use Rattle.std.proofs.Common.{slice_index}
use Rattle.art_schedules.specs.coupled.Knows.{HangsBelow, KnowsPlace, IsPassed, KnowsStage}
use Rattle.art_schedules.specs.coupled.Stays.{WaysAreKept}
use Rattle.art_schedules.proofs.effects.WayLemmas.{on-way, slot-still, hangs-still, finding-still, index-still}

module _ (c : Setting) (n : ℕ) (calm after : List ℕ) (pairs : Contents) (gone : ℕ → Type 0) (fresh : ℕ → Kind → Type 0)
    (follows : Follows c.shape n calm after pairs gone fresh) where
  abbrev Still : HeldRow → Type 0
  Still h = SameRow calm after h.base h.kind × (gone h.base → ⊥)

  above-still : (h : HeldRow) (slot : ℕ) (above : Option HeldRow) → Each Still (all_of above) → HangsBelow c calm h slot above
      → HangsBelow c after h slot above
  above-still h slot None still k = tt
  above-still h slot (Some a) still k = hangs-still c follows a slot (ChildRow h.base h.kind) still.0 k

  place-still : (i : Bool) (p : Position) → Each Still (held_at_place true i p) → KnowsPlace i c calm p → KnowsPlace i c after p
  place-still true p still (on, up) = (on-way c follows p.row still.0 on, above-still p.row p.slot p.above still.1 up)
  place-still false p still on = on-way c follows p.row still.0 on

  row-still : (i : Bool) (p : Position) → Each Still (held_at_place true i p) → Still p.row
  row-still true p still = still.0
  row-still false p still = still.0

  target-still : (t : Target) → Each Still (rows_of_target t) → KnowsTarget c calm t → KnowsTarget c after t
  target-still Root still k = tt
  target-still (Below d) still k = hangs-still c follows d.above d.slot (ChildRow d.base d.kind) still.0 k
  target-still (Taken t) still k = absurd k

  info-still : (i : Bool) (d : Down) (kept : ℕ) → Each Still (held_at_stage true i (Info d kept)) → KnowsInfo i c calm d
      → KnowsInfo i c after d
  info-still true d kept still k = hangs-still c follows d.above d.slot (ChildRow d.base d.kind) still.1.0 k
  info-still false d kept still k =
      subst (λ l. LeadsTo c.shape after (key_of c.call) d.base d.kind (slice_index (key_bytes (key_of c.call)) l))
      (sym (follows.level d.base d.kind k.reached))
      (follows.ways (key_of c.call) d.base d.kind _ k still.0.1)

  passed-still : (i : Bool) (d : Down) (kept : ℕ) → Each Still (held_at_stage true i (Info d kept)) → IsPassed i c calm d
      → IsPassed i c after d
  passed-still true d kept still k = absurd k
  passed-still false d kept still (reached, (x, differs)) = (
    (follows.rows d.base d.kind).1 (inl (reached, still.0.1)),
    (x, ap (λ xs. first_difference xs (key_bytes (key_of c.call))) (follows.path d.base d.kind reached) ∙ differs),
  )

  stage-still : (i : Bool) (stage : Stage) → Each Still (held_at_stage true i stage) → KnowsStage i c calm stage
      → KnowsStage i c after stage
  stage-still i (Lock t first) still k = target-still t still k
  stage-still i (Exchange t v) still k = target-still t still k
  stage-still i (Between d kept) still k = hangs-still c follows d.above d.slot (ChildRow d.base d.kind) still.1.0 k
  stage-still i (Info d kept) still k = info-still i d kept still k
  stage-still i (Find p) still k = place-still i p still k
  stage-still i (FindKeys p count) still (k, is, a) =
      let row = (row-still i p still).0 in
      (place-still i p still k, is, a ∙ sym (row 4 (omega arith) (omega (arith, seven-words p.row.kind))))
  stage-still i (FindMore p count first) still (k, is, a, b) =
      let row = (row-still i p still).0 in (
        place-still i p still k,
        is,
        a ∙ sym (row 4 (omega arith) (omega (arith, seven-words p.row.kind))),
        b ∙ sym (row 2 (omega arith) (omega (arith, seven-words p.row.kind))),
      )
  stage-still i (FindCount p index) still (k, is, a, none) =
      let row = row-still i p still in
      (place-still i p still k, is, a ∙ sym (index-still c follows p.row row is), slot-still c follows p.row row ∙ none)
  stage-still i (Slot p slot) still (k, at) = (place-still i p still k, slot-still c follows p.row (row-still i p still) ∙ at)
  stage-still i (LetGo above p f) still (on, k, r) = (
    on-way c follows p.row still.0 on,
    finding-still c follows i p.row f still.0 k,
    (follows.rows above.base above.kind).1
        (inl (r, still.1.0.1)),
  )
  stage-still i stage still k = absurd k

  reply-still : (r : Reply) (i : Bool) (stage : Stage) → Each Still (held_at_stage true i stage) → KnowsReply r i c calm stage
      → KnowsReply r i c after stage
  reply-still r i (Info d kept) still (is, k) = (is, passed-still i d kept still k)
  reply-still r i (Unlock h outcome) still (none, is, reached) =
      (none, is, (follows.rows h.row.base h.row.kind).1 (inl (reached, still.0.1)))
  reply-still r i (Over outcome) still k = k
  reply-still r i stage still k = absurd k

  pub at-still : (o : Option Reply) (i : Bool) (stage : Stage) → Each Still (held_at_stage true i stage) → KnowsAt o i c calm stage
      → KnowsAt o i c after stage
  at-still None i stage still k = stage-still i stage still k
  at-still (Some r) i stage still k = reply-still r i stage still k

-- a row that is the call's own stays so
pub own-still : (calm words after later : List ℕ) (h : HeldRow) → SameRow calm after h.base h.kind → SameRow words later h.base h.kind
    → IsHeldLive calm words h
    → IsHeldLive after later h
own-still calm words after later h row same own = record {
  same = λ j low high. same j low high ∙ (own.same j low high ∙ sym (row j low high));
  live = own.live;
}

pub ways-are-kept : WaysAreKept
ways-are-kept shape call n calm words after later pairs effect found stage follows still k = record {
  way = at-still (setting shape Coupled call) n calm after pairs _ _ follows found (is_insert call) stage
      (rows (held_at_stage true (is_insert call) stage) still)
      k.way;
  rows = own (held_at_stage true (is_insert call) stage) still k.rows;
}
  where
    rows : (hs : List HeldRow) → Each (IsStill calm words after later effect) hs
        → Each (λ h. SameRow calm after h.base h.kind × (IsGoneBy effect h.base → ⊥)) hs
    rows [] still = tt
    rows (h ∷ hs) still = ((still.0.row, still.0.stays), rows hs still.1)

    own : (hs : List HeldRow) → Each (IsStill calm words after later effect) hs → Each (IsHeldLive calm words) hs
        → Each (IsHeldLive after later) hs
    own [] still k = tt
    own (h ∷ hs) still k = (own-still calm words after later h still.0.row still.0.same k.0, own hs still.1 k.1)
