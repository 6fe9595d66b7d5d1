-- A call at work, or at its end, while another process steps.
use Rattle.art_schedules.proofs.Common.{◌≡◌, ◌≢◌, ◌⊎◌, inl, inr, ℕ, ◌+◌, ◌<◌, ◌≤◌, List, [], ◌∷◌, ◌++◌, true, false, refl, sym, ap, ◌∙◌, subst}
use Rattle.art_schedules.proofs.trees.Changes.{way_byte}
use Rattle.art_schedules.proofs.words.TableLemmas.{row_begins, rows_apart}
use Rattle.art_schedules.proofs.Common.{arith, Option, Some, None, cases_lt, cases_eq, same_Some, Call, Reply, Contents, Shape, Kind, Four, Row}
use Rattle.art_schedules.proofs.Common.{row_words, kind_at, child_of, row_word, is_obsolete, some-words, Variant}
use Rattle.art_schedules.proofs.Common.{Setting, HeldRow, Hold, Growing, Work, Outcome, Value, Stage, setting, work_at, hold_alone, OnKey, Process}
use Rattle.art_schedules.proofs.Common.{Plan, State, Reached, below, slot_of, child_on, IsAtRest, SameRow, IsClaimed, ChildrenAreRead}
use Rattle.art_schedules.proofs.Common.{lock_of, locks_of, rows_of_hold, Named, Each, IsNamed, Knows, child_rows, holds, fills, IsAmong}
use Rattle.art_schedules.proofs.Common.{IsAtStage, IsAfterVersion, IsOpen, IsSettled, filled_by, held_by, stage_of}
use Rattle.art_schedules.proofs.versions.MoveLemmas.{settled-row, true-false}
use Rattle.art_schedules.proofs.Common.{CalmChange, CalmFilled, CalmReleased, CalmStays, RowChange, RowWritten, RowsStay, calm_of}
use Rattle.art_schedules.proofs.versions.WithLemmas.{with-here}
use Rattle.art_schedules.proofs.Common.{RowFilled, RowTaken, RowReleased, Effect, Keeps, Fills, PutsLeaf, RemovesLeaf, HangsPair, HangsGrown}
use Rattle.art_schedules.proofs.Common.{base_of_effect, kind_of_effect, IsGone, IsGoneBy, ComesInBy, IsUnreached, IsClaiming, claims_row}
use Rattle.art_schedules.proofs.Common.{FillsAt, HasNew, IsGoing, fresh_of, IsPending, IsReleasing, Last, Lower, Gone, IsHanging, AtWork}
use Rattle.art_schedules.proofs.Common.{Claiming, Going, Hanging, AtEnd, Answering, Leaving, HasFilledFresh, Makes, HoldsReached, IsOther}
use Rattle.art_schedules.proofs.Common.{IsMarkedBy, IsMarked, OthersKeepWork, OthersKeepMarked, OthersKeepEnds, IsInTree, IsSame}
use Rattle.std.proofs.Common.{slice_index}
use Rattle.art_control_states.specs.declared.stage.Work.TheVariants as work
use Rattle.art_schedules.specs.versions.Steady as steady
use Rattle.art_schedules.proofs.calm.CalmLemmas.{claimed-row}
use Rattle.art_schedules.proofs.calm.VersionLemmas.{locked-same, obsolete-busy}
use Rattle.art_schedules.proofs.changes.RowLemmas.{steady-row}
use Rattle.art_schedules.proofs.work.WorkLemmas.{holds-work}
use Rattle.art_schedules.specs.effects.Outcomes.{IsEffectBy}
use Rattle.art_schedules.proofs.effects.AroundLemmas.{Around, around, other-open, others-row, others-stay, others-calm}
use Rattle.art_schedules.proofs.effects.KeptLemmas.{begins-kept, inside-kept, unreached-kept, pending-kept, NewStays, GoneStays}
use Rattle.art_schedules.proofs.effects.StageLemmas.{place-work, grow-fills}
use Rattle.art_schedules.proofs.calm.ReachedLemmas.{slot-of-row}

-- what holds of each row that is held, by another property
pub each-with : (P Q : HeldRow → Type 0) (rows : List HeldRow) → ((row : HeldRow) → IsAmong (lock_of row) (locks_of rows) → P row → Q row)
    → Each P rows → Each Q rows
each-with P Q [] f e = tt
each-with P Q (row ∷ rows) f e = (f row (inl refl) e.0, each-with P Q rows (λ x among. f x (inr among)) e.1)

pub each-of : (Q : HeldRow → Type 0) (rows : List HeldRow) → ((row : HeldRow) → IsAmong (lock_of row) (locks_of rows) → Q row) → Each Q rows
each-of Q [] f = tt
each-of Q (row ∷ rows) f = (f row (inl refl), each-of Q rows (λ x among. f x (inr among)))

-- all rows are held before the claim
pub holds-claiming : (c : Setting) (h : Hold) (work : Work) → claims_row work ≡ true
    → holds c (OnKey (work_at c h work)) ≡ locks_of (rows_of_hold h)
holds-claiming c h (work.Write slot word old) e = absurd (true-false e refl)
holds-claiming c h (work.Pair p) e = refl
holds-claiming c h (work.Put keys) e = absurd (true-false e refl)
holds-claiming c h (work.Grow slot keys) e = refl

module _ (read : ChildrenAreRead) (plan : Plan) (p : ℕ) (s t : State) (calm after : List ℕ) (x : Around plan p s t calm after) (k : ℕ)
    (rest : IsAtRest plan.shape k calm) (m : Contents) (effect : Option Effect)
    (made : Makes plan.variant plan.shape s p calm after m effect)
    (all-reached : HoldsReached plan.variant plan.shape s p calm) (r : ℕ) (ne : r ≢ p) (call : Call) (w : Process)
    (o : IsOpen s r call w) where
  abbrev variant : Variant
  variant = plan.variant

  abbrev shape : Shape
  shape = plan.shape

  abbrev c : Setting
  c = setting shape variant call

  abbrev HoldsRow : HeldRow → Type 0
  HoldsRow row = IsAmong (lock_of row) (held_by variant shape call w)

  real-row : (row : HeldRow) → HoldsRow row → SameRow s.words t.words row.base row.kind
  real-row row among = steady-row s.words t.words row.base row.kind (others-stay plan p s t calm after x r ne call w o (lock_of row) among)

  calm-row : (row : HeldRow) → HoldsRow row → SameRow calm after row.base row.kind
  calm-row row among = steady-row calm after row.base row.kind (others-calm plan p s t calm after x r ne call w o (lock_of row) among)

  held-row : (row : HeldRow) → HoldsRow row → kind_at shape row.base ≡ Some row.kind
  held-row row among = others-row plan p s t calm after x r ne call w o (lock_of row) among

  not-gone : (row : HeldRow) → HoldsRow row → is_obsolete row.kept ≡ false → IsGoneBy effect row.base → ⊥
  not-gone row among live gone =
      true-false (made.goes.gone row.base gone)
      (ap is_obsolete (x.before.locked r call w o (lock_of row) among) ∙ (locked-same row.kept ∙ live))

  inside : (row : HeldRow) → HoldsRow row → IsInTree c.shape calm row → IsInTree c.shape after row
  inside row among here =
      inside-kept c made.goes.claims calm after _ (IsGoneBy effect) (ComesInBy effect) made.goes.follows row here
      (not-gone row among here.live)

  same-on : (row : HeldRow) → HoldsRow row → IsSame calm s.words row → IsSame after t.words row
  same-on row among same j low high = real-row row among j low high ∙ (same j low high ∙ sym (calm-row row among j low high))

  -- a row that leaves by the step hangs in no row that this call holds
  gone-once : (row : HeldRow) → HoldsRow row → (base : ℕ) (kind : Kind) (y b : ℕ) (l : Kind) → base ≡ row.base
      → Reached shape calm base kind → y < 256
      → child_on shape calm base kind y ≡ Row b l → IsGoneBy effect b → ⊥
  gone-once row among base kind y b l is reached small hangs = go effect made.by
    where
      of-row : (e : ℕ) → e ≡ b → (i : Kind) → Reached shape calm e i → i ≡ l
      of-row e same i r =
          same_Some i l (sym (settled-row variant shape s e i (x.calm_before.reached e i r)) ∙ (ap (kind_at shape) same
          ∙ settled-row variant shape s b l (x.calm_before.reached b l (below reached y small hangs))))

      go : (e : Option Effect) → IsEffectBy variant shape s p calm after e → IsGoneBy e b → ⊥
      go None by gone = gone
      go (Some (Keeps b2 k2)) by gone = gone
      go (Some (Fills b2 k2)) by gone = gone
      go (Some (PutsLeaf b2 k2 x2 key value)) by gone = gone
      go (Some (RemovesLeaf b2 k2 x2 key)) by gone = gone
      go (Some (HangsPair b2 k2 x2 key value fresh d a)) by gone = gone
      go (Some (HangsGrown b2 k2 x2 key value full full_kind y2 fresh larger)) by gone =
          let kinds = of-row full (sym gone) full_kind by.has.leads.reached in
          let its : child_on shape calm b2 k2 x2 ≡ Row b l =
          by.has.hangs ∙ (ap (λ z. Row z full_kind) (sym gone) ∙ ap (Row b) kinds) in
          let one = rest.tree.once base b2 y x2 b kind k2 l reached by.has.above.reached small
          (way_byte shape calm key b2 k2 x2 by.has.above) hangs its in
          let taken = by.held in
          ne (x.before.apart r taken.0.holder call taken.0.call w taken.0.process o taken.0.is_open (lock_of row) taken.0.row
          among taken.0.among
          (sym is ∙ (one.0 ∙ sym taken.0.is)) ∙ taken.1)

  -- ---- a fresh row

  abbrev IsOwned : ℕ → Kind → Type 0
  IsOwned b l = (filled_by variant shape call w ≡ (b, l) ∷ []) ⊎ IsSettled variant shape s b l

  fresh-calm : (b : ℕ) (l : Kind) → kind_at shape b ≡ Some l → IsUnreached shape calm b → IsOwned b l → steady.SameWords calm after b l
  fresh-calm b l row none owned word low high = go x.changes.change
    where
      late : 5 ≤ word
      late = omega (arith, row_begins shape b l row, low)

      not-filled : (other : Call) (q : Process) → IsOpen s p other q → (b2 : ℕ) (l2 : Kind)
          → filled_by variant shape other q ≡ (b2, l2) ∷ [] → b ≢ b2
      not-filled other q oq b2 l2 f same = elim owned [
        | inl mine ↦ ne (x.before.fills_apart r p call other w q o oq b b2 l l2 mine f same)
        | inr settled ↦ settled.unfilled p other q oq b2 l2 f same
      ]

      go : CalmChange variant shape s p t calm after → slice_index after word ≡ slice_index calm word
      go (CalmStays same) = same word late
      go (CalmFilled other value asks b2 l2 f behind is others) =
          let its = claimed-row shape s.words b2 l2 (x.before.filled p asks.call asks.process asks.is_open b2 l2 f) in
          others word late (λ e.
          not-filled asks.call asks.process asks.is_open b2 l2 f
          (rows_apart shape b b2 l l2 word row its low high (omega (arith, e, behind.0)) (omega (arith, e, behind.1))).0)
      go (CalmReleased h asks rows with then kept live itself others) =
          let its = settled-row variant shape s h.base h.kind kept.1 in
          let reached = all-reached asks.call asks.process asks.is_open h (with-here h rows _ with) in
          elim (cases_lt word h.base) [
            | inl less ↦ others word late (inl less)
            | inr more ↦ elim (cases_lt word (h.base + row_words h.kind)) [
              | inl within ↦ absurd (none h.kind (subst (λ z. Reached shape calm z h.kind)
                  (sym (rows_apart shape b h.base l h.kind word row its low high more within).0) reached))
              | inr past ↦ others word late (inr past)
            ]
          ]

  -- a row that calm's tree does not reach is not made obsolete
  live-then : (b : ℕ) (l : Kind) → kind_at shape b ≡ Some l → IsUnreached shape calm b → is_obsolete (slice_index s.words b) ≡ false
      → is_obsolete (slice_index t.words b) ≡ false
  live-then b l row none live = go x.changes.rows
    where
      as-before : slice_index t.words b ≡ slice_index s.words b → is_obsolete (slice_index t.words b) ≡ false
      as-before e = ap is_obsolete e ∙ live

      no-version : (d : ℕ) (i : Kind) (word : ℕ) → kind_at shape d ≡ Some i → IsAfterVersion d i word → b ≢ word
      no-version d i word its within e =
          let one = (rows_apart shape b d l i word row its (omega (arith, e)) (omega (arith, e, some-words l))
          (omega (arith, within.0)) within.1).0 in
          omega (arith, one, e, within.0)

      go : RowChange variant shape s p t → is_obsolete (slice_index t.words b) ≡ false
      go (RowsStay same) = as-before (same b (row_begins shape b l row))
      go (RowWritten word value asks h among kept within is others) =
          as-before (others b (no-version h.base h.kind word (settled-row variant shape s h.base h.kind kept.1) within))
      go (RowFilled word value asks d i f its within is others) = as-before (others b (no-version d i word its within))
      go (RowTaken h asks rows with then kept was is others) = elim (cases_eq b h.base) [
        | inl e ↦ ap (λ z. is_obsolete (slice_index t.words z)) e
            ∙ (ap is_obsolete is ∙ (locked-same h.kept ∙ (ap is_obsolete (sym was) ∙ (ap (λ z. is_obsolete (slice_index s.words z))
            (sym e) ∙ live))))
        | inr differs ↦ as-before (others b differs)
      ]
      go (RowReleased h value asks rows with then kept version is others) =
          let reached = all-reached asks.call asks.process asks.is_open h (with-here h rows _ with) in
          as-before (others b (λ e. none h.kind (subst (λ z. Reached shape calm z h.kind) (sym e) reached)))

  claims-rise : (b : ℕ) (l : Kind) → IsClaimed shape s.words b l → IsClaimed shape t.words b l
  claims-rise b l claimed =
      record {
        number = claimed.number;
        claimed = omega (arith, claimed.claimed, x.steady.claims l);
        within =
            claimed.within;
        is = claimed.is;
      }

  new-stays : (b : ℕ) (l : Kind) → HasFilledFresh c s.words calm b l → IsOwned b l → (ComesInBy effect b l → ⊥)
      → HasFilledFresh c t.words after b l × SameRow calm after b l
  new-stays b l ready owned other =
      let row = claimed-row shape s.words b l ready.claimed in
      let same = fresh-calm b l row ready.unreached owned in
      let begins : ℕ = b in (
        record {
          claimed = claims-rise b l ready.claimed;
          unreached = unreached-kept shape made.goes.claims calm after _ (IsGoneBy effect) (ComesInBy effect) made.goes.follows b
              ready.unreached (came b l ready other);
          live = ap is_obsolete (same b (omega arith) (omega (arith, some-words l))) ∙ ready.live;
          live_now = live-then b l row ready.unreached ready.live_now;
        },
        steady-row calm after b l same,
      )
    where
      -- a row that comes is of the kind that it was claimed as
      came : (b : ℕ) (l : Kind) → HasFilledFresh c s.words calm b l → (ComesInBy effect b l → ⊥) → (i : Kind) → ComesInBy effect b i → ⊥
      came b l ready other i fresh = other (subst (ComesInBy effect b) (kinds i fresh) fresh)
        where
          kinds : (i : Kind) → ComesInBy effect b i → i ≡ l
          kinds i fresh =
              same_Some i l (sym (settled-row variant shape t b i
              (x.calm_after_step.reached b i ((made.goes.follows.rows b i).1 (inr fresh)))) ∙ claimed-row shape s.words b l ready.claimed)

  -- ---- before the claim, and before the first release

  module _ (stage : Stage) (at : stage_of variant shape call w ≡ OnKey stage) where
    holds-row : (h : Hold) → holds c (OnKey stage) ≡ locks_of (rows_of_hold h) → (row : HeldRow)
        → IsAmong (lock_of row) (locks_of (rows_of_hold h))
        → HoldsRow row
    holds-row h is row among = subst (IsAmong (lock_of row)) (sym is ∙ ap (holds c) (sym at)) among

    rows-on : (h : Hold) → holds c (OnKey stage) ≡ locks_of (rows_of_hold h) → Each (IsInTree c.shape calm) (rows_of_hold h)
        → Each (IsInTree c.shape after) (rows_of_hold h)
    rows-on h is rows =
        each-with (IsInTree c.shape calm) (IsInTree c.shape after) (rows_of_hold h)
        (λ row among here. inside row (holds-row h is row among) here) rows

    calms : (h : Hold) → holds c (OnKey stage) ≡ locks_of (rows_of_hold h) → Each (IsSame calm after) (rows_of_hold h)
    calms h is = each-of (IsSame calm after) (rows_of_hold h) (λ row among. calm-row row (holds-row h is row among))

    stays : (h : Hold) → holds c (OnKey stage) ≡ locks_of (rows_of_hold h) → Each (IsInTree c.shape calm) (rows_of_hold h)
        → Each (λ row. IsGoneBy effect row.base → ⊥) (rows_of_hold h)
    stays h is rows = each-with (IsInTree c.shape calm) (λ row. IsGoneBy effect row.base → ⊥) (rows_of_hold h)
        (λ row among here. not-gone row (holds-row h is row among) here.live) rows

    claiming-on : IsClaiming c s.words calm stage → IsClaiming c t.words after stage
    claiming-on g =
        let is : holds c (OnKey stage) ≡ locks_of (rows_of_hold g.hold) =
        ap (λ z. holds c (OnKey z)) g.at ∙ holds-claiming c g.hold g.work g.claims in
        record {
          hold = g.hold;
          work = g.work;
          at = g.at;
          claims = g.claims;
          begins = begins-kept c made.goes.claims calm after _ (IsGoneBy effect) (ComesInBy effect) made.goes.follows g.hold g.work
              (calms g.hold is)
              (stays g.hold is g.rows) g.begins;
          rows = rows-on g.hold is g.rows;
          same = each-with (IsSame calm s.words) (IsSame after t.words) (rows_of_hold g.hold)
              (λ row among same. same-on row (holds-row g.hold is row among) same) g.same;
        }

    knows : Knows (IsSettled variant shape s) c (OnKey stage)
    knows = subst (Knows (IsSettled variant shape s) c) at (x.before.knows r call w o)

    fills-row : (b : ℕ) (l : Kind) → fills (OnKey stage) ≡ (b, l) ∷ [] → filled_by variant shape call w ≡ (b, l) ∷ []
    fills-row b l is = ap fills at ∙ is

    owned-at : (h : Hold) (work : Work) (b : ℕ) (l : Kind) → kind_at shape b ≡ Some l → FillsAt h work b l stage → IsOwned b l
    owned-at h (work.Write slot word old) b l row none = absurd none
    owned-at h (work.Pair pair) b l row (is, inl word) =
        inl (fills-row b l (ap (λ z. fills (OnKey z)) word.1 ∙ ap (λ z. (b, z) ∷ []) (sym is)))
    owned-at h (work.Pair pair) b l row (is, inr write) =
        let known = (subst (λ z. Knows (IsSettled variant shape s) c (OnKey z)) write knows).known in
        let child : child_of shape (row_word b) ≡ Row b l = read shape (Row b l) row in
        inr (subst (λ z. Each (IsNamed (IsSettled variant shape s)) (child_rows z)) child known).0
    owned-at h (work.Put keys) b l row none = absurd none
    owned-at h (work.Grow slot keys) b l row (is, growing) =
        let g : Growing = record { hold = h; slot = slot; keys = keys; base = b } in
        elim (grow-fills stage g growing) [
          | inl filled ↦ inl (fills-row b l (filled ∙ ap (λ z. (b, z) ∷ []) (sym is)))
          | inr hang ↦ inr (subst (IsSettled variant shape s b) (sym is)
              (subst (λ z. Knows (IsSettled variant shape s) c (OnKey z)) hang knows).known.0)
        ]

    new-on : (words : List ℕ) (h : Hold) (work : Work) (fresh : Option Named) → IsOther effect fresh
        → HasNew c s.words calm words h work stage fresh
        → HasNew c t.words after words h work stage fresh
    new-on words h work None other none = none
    new-on words h work (Some row) other new =
        let b = row.0 in
        let l = row.1 in
        let its = claimed-row shape s.words b l new.claimed in
        let ready : HasFilledFresh c s.words calm b l = record
        { claimed = new.claimed; unreached = new.unreached; live = new.live; live_now = new.live_now } in
        let kept = new-stays b l ready (owned-at h work b l its new.at) other in
        record {
          at = new.at;
          claimed = kept.0.claimed;
          unreached = kept.0.unreached;
          live = kept.0.live;
          live_now = kept.0.live_now;
          same = λ j low high. kept.1 j low high ∙ new.same j low high;
        }

    going-on : (fresh : Option Named) → IsOther effect fresh → IsGoing c s.words calm fresh stage → IsGoing c t.words after fresh stage
    going-on fresh other g =
        let is : holds c (OnKey stage) ≡ locks_of (rows_of_hold g.hold) = holds-work c (place-work stage g.hold g.place).1 in
        record {
          hold = g.hold;
          work = g.work;
          begins = begins-kept c made.goes.claims calm after _ (IsGoneBy effect) (ComesInBy effect) made.goes.follows g.hold g.work
              (calms g.hold is)
              (stays g.hold is g.rows) g.begins;
          rows = rows-on g.hold is g.rows;
          place = g.place;
          knows = g.knows;
          first = g.first;
          words = g.words;
          first_long = g.first_long;
          long = g.long;
          solo = g.solo;
          was = each-with (IsSame g.first calm) (IsSame g.first after) (rows_of_hold g.hold)
              (λ row among same j low high. calm-row row (holds-row g.hold is row among) j low high ∙ same j low high) g.was;
          same = each-with (IsSame g.words s.words) (IsSame g.words t.words) (rows_of_hold g.hold)
              (λ row among same j low high. real-row row (holds-row g.hold is row among) j low high ∙ same j low high) g.same;
          new = new-on g.words g.hold g.work fresh other g.new;
        }

    -- ---- before the release of the row that changes

    settled-slot : (base : ℕ) (kind : Kind) (y slot b : ℕ) (l : Kind) → kind_at shape base ≡ Some kind → y < 256
        → slot_of calm base kind y ≡ Some slot
        → slice_index s.words slot ≡ row_word b → kind_at shape b ≡ Some l → IsSettled variant shape s b l
    settled-slot base kind y slot b l row small has word its =
        let good = x.before.children slot base kind row (slot-of-row calm base kind y slot small has) in
        let child : child_of shape (slice_index s.words slot) ≡ Row b l = ap (child_of shape) word ∙ read shape (Row b l) its in
        (subst (λ z. Each (IsNamed (IsSettled variant shape s)) (child_rows z)) child good).0

    pending-new : (e : Effect) (old : Option ℕ) → kind_at shape (base_of_effect e) ≡ Some (kind_of_effect e)
        → IsPending c s.words calm e old
        → IsOther effect (fresh_of e)
        → NewStays c made.goes.claims calm after _ (IsGoneBy effect) (ComesInBy effect) made.goes.follows (fresh_of e) t.words
    pending-new (Keeps base kind) old row pending other = tt
    pending-new (Fills base kind) old row pending other = tt
    pending-new (PutsLeaf base kind y key value) old row pending other = tt
    pending-new (RemovesLeaf base kind y key) old row pending other = tt
    pending-new (HangsPair base kind y key value b d a) old row (leads, none, parts, slot, ready, pair) other =
        let its = claimed-row shape s.words b Four ready.claimed in
        new-stays b Four ready
        (inr (settled-slot base kind y slot.0 b Four row (way_byte shape calm key base kind y leads) slot.1.at slot.1.here its)) other
    pending-new (HangsGrown base kind y key value full full_kind z b larger) old row
        (above, none, hangs, leads, empty, slot, ready, copy) other =
        let its = claimed-row shape s.words b larger ready.claimed in
        new-stays b larger ready
        (inr (settled-slot base kind y slot.0 b larger row (way_byte shape calm key base kind y above) slot.1.at slot.1.here its)) other

    -- a row that leaves by the effect hangs in the row that changes
    pending-gone : (row : HeldRow) → HoldsRow row → (e : Effect) (old : Option ℕ) → base_of_effect e ≡ row.base
        → IsPending c s.words calm e old → (b : ℕ)
        → IsGone e b → (l : Kind) × (kind_at shape b ≡ Some l) × (IsGoneBy effect b → ⊥)
    pending-gone row among (Keeps base kind) old is pending b gone = absurd gone
    pending-gone row among (Fills base kind) old is pending b gone = absurd gone
    pending-gone row among (PutsLeaf base kind y key value) old is pending b gone = absurd gone
    pending-gone row among (RemovesLeaf base kind y key) old is pending b gone = absurd gone
    pending-gone row among (HangsPair base kind y key value fresh d a) old is pending b gone = absurd gone
    pending-gone row among (HangsGrown base kind y key value full full_kind z fresh larger) old is
        (above, none, hangs, leads, empty, slot, ready, copy) b gone = (
          full_kind,
          ap (kind_at shape) gone ∙ settled-row variant shape s full full_kind (x.calm_before.reached full full_kind leads.reached),
          subst (λ z. IsGoneBy effect z → ⊥) (sym gone)
              (gone-once row among base kind y full full_kind is above.reached (way_byte shape calm key base kind y above) hangs),
        )

    releasing-holds : (row : HeldRow) (e : Effect) (out : Outcome) → IsReleasing c s.words calm row e out stage → HoldsRow row
    releasing-holds row e out (Last is gone) = holds-row (hold_alone row) (ap (λ z. holds c (OnKey z)) is) row (inl refl)
    releasing-holds row e out (Lower lower is here same none) =
        holds-row (record { row = lower; above = Some row }) (ap (λ z. holds c (OnKey z)) is) row (inr (inl refl))
    releasing-holds row e out (Gone lower is value here leaves gone) =
        holds-row (record { row = lower; above = Some row }) (ap (λ z. holds c (OnKey z)) is) row (inr (inl refl))

    -- the call does the same work after the step, with the same mark
    abbrev KeepsMarked : (fresh : Option Named) → AtWork c s.words calm fresh stage → Type 0
    KeepsMarked fresh work = (later : AtWork c t.words after fresh stage) × ((left : Option ℕ) → IsMarked left work → IsMarked left later)

    hanging-on : (fresh : Option Named) → IsOther effect fresh → (g : IsHanging c s.words calm fresh stage) → KeepsMarked fresh (Hanging g)
    hanging-on fresh other g = (
      Hanging (record {
        row = g.row;
        effect = g.effect;
        old = g.old;
        base = g.base;
        kind = g.kind;
        inside = inside g.row among g.inside;
        pending = pending-kept c made.goes.claims calm after _ (IsGoneBy effect) (ComesInBy effect) made.goes.follows s.words t.words
            g.effect g.old g.pending
            (on-row calm after (calm-row g.row among)) (on-row s.words t.words (real-row g.row among))
            (λ gone. not-gone g.row among g.inside.live (subst (IsGoneBy effect) g.base gone))
            (pending-new g.effect g.old its g.pending (subst (IsOther effect) g.fresh_row other)) (goes g.at);
        does = g.does;
        fresh_row = g.fresh_row;
        at = (releasing g.at).0;
      }),
      λ left marked. (releasing g.at).1 left marked,
    )
      where
        among : HoldsRow g.row
        among = releasing-holds g.row g.effect (Value g.old) g.at

        its : kind_at shape (base_of_effect g.effect) ≡ Some (kind_of_effect g.effect)
        its = ap (kind_at shape) g.base ∙ (held-row g.row among ∙ ap Some (sym g.kind))

        on-row : (words later : List ℕ) → SameRow words later g.row.base g.row.kind
            → SameRow words later (base_of_effect g.effect) (kind_of_effect g.effect)
        on-row words later same =
            subst (λ b. SameRow words later b (kind_of_effect g.effect)) (sym g.base)
            (subst (λ l. SameRow words later g.row.base l) (sym g.kind) same)

        lower-row : (lower : HeldRow) → IsAmong (lock_of lower) (locks_of (rows_of_hold (record { row = lower; above = Some g.row })))
        lower-row lower = inl refl

        holds-lower : (lower : HeldRow) → holds c (OnKey stage) ≡ locks_of
            (rows_of_hold (record { row = lower; above = Some g.row })) → HoldsRow lower
        holds-lower lower is = holds-row (record { row = lower; above = Some g.row }) is lower (lower-row lower)

        goes : IsReleasing c s.words calm g.row g.effect (Value g.old) stage
            → GoneStays c made.goes.claims calm after _ (IsGoneBy effect) (ComesInBy effect) made.goes.follows g.effect
        goes (Last is obsolete) b l reached gone =
            let which = pending-gone g.row among g.effect g.old g.base g.pending b gone in
            let row = settled-row variant shape s b l (x.calm_before.reached b l reached) in
            let then = x.changes.obsolete b l row (obsolete b gone) in
            (steady-row calm after b l (x.changes.busy b l row (obsolete-busy (slice_index t.words b) then)), which.2)
        goes (Lower lower is here same none) b l reached gone = absurd (none b gone)
        goes (Gone lower is value here leaves only) b l reached gone =
            let which = pending-gone g.row among g.effect g.old g.base g.pending b gone in
            let held = holds-lower lower (ap (λ z. holds c (OnKey z)) is) in
            let same = only b gone in
            let row = settled-row variant shape s b l (x.calm_before.reached b l reached) in
            let kinds : lower.kind ≡ l = same_Some lower.kind l (sym (held-row lower held) ∙ (ap (kind_at shape) (sym same) ∙ row)) in
            (subst (λ z. SameRow calm after z l) (sym same) (subst (SameRow calm after lower.base) kinds (calm-row lower held)), which.2)

        releasing : (at : IsReleasing c s.words calm g.row g.effect (Value g.old) stage)
            → (later : IsReleasing c t.words after g.row g.effect (Value g.old) stage)
            × ((left : Option ℕ) → IsMarkedBy left at → IsMarkedBy left later)
        releasing (Last is obsolete) = (
          Last is (λ b gone.
              let which = pending-gone g.row among g.effect g.old g.base g.pending b gone in
              x.changes.obsolete b which.0 which.1 (obsolete b gone)),
          λ left marked. marked,
        )
        releasing (Lower lower is here same none) =
            let held = holds-lower lower (ap (λ z. holds c (OnKey z)) is) in
            (Lower lower is (inside lower held here) (same-on lower held same) none, λ left marked. marked)
        releasing (Gone lower is value here leaves only) =
            let held = holds-lower lower (ap (λ z. holds c (OnKey z)) is) in
            (Gone lower is value (inside lower held here) leaves only, λ left marked. marked)

    pub work-stays : (fresh : Option Named) → IsOther effect fresh → (work : AtWork c s.words calm fresh stage) → KeepsMarked fresh work
    work-stays fresh other (Claiming none g) = (Claiming none (claiming-on g), λ left marked. marked)
    work-stays fresh other (Going g) = (Going (going-on fresh other g), λ left marked. marked)
    work-stays fresh other (Hanging g) = hanging-on fresh other g

    pub end-stays : (reply : Reply) → AtEnd c s.words calm reply stage → AtEnd c t.words after reply stage
    end-stays reply (Answering out is over) = Answering out is over
    end-stays reply (Leaving out h is unlock rows same) =
        let held : holds c (OnKey stage) ≡ locks_of (rows_of_hold h) = ap (λ z. holds c (OnKey z)) unlock in
        Leaving out h is unlock (rows-on h held rows)
        (each-with (IsSame calm s.words) (IsSame after t.words) (rows_of_hold h)
        (λ row among same. same-on row (holds-row h held row among) same) same)

    pub stays-at : IsAtStage variant shape t r call (OnKey stage)
    stays-at = record { process = w; is_open = other-open plan p s t x.move r ne call w o; at = at }

-- ---- in a run

pub others-keep-work : ChildrenAreRead → OthersKeepWork
others-keep-work read plan start words schedule p s t n m effect last rest made reached r ne call stage fresh is other work =
    let x = around plan start words schedule p s t last in (
      stays-at read plan p s t (calm_of plan words schedule) (calm_of plan words (schedule ++ p ∷ [])) x n rest m effect made reached r
          ne call is.process
          is.is_open stage is.at,
      (work-stays read plan p s t (calm_of plan words schedule) (calm_of plan words (schedule ++ p ∷ [])) x n rest m effect made reached r
          ne call is.process
          is.is_open stage is.at fresh other work).0,
    )

pub others-keep-marked : ChildrenAreRead → OthersKeepMarked
others-keep-marked read plan start words schedule p s t n m effect last rest made reached r ne call stage fresh left is other work marked =
    let kept = work-stays read plan p s t (calm_of plan words schedule) (calm_of plan words (schedule ++ p ∷ []))
    (around plan start words schedule p s t last) n rest m effect made reached r ne call is.process is.is_open stage is.at
    fresh other work in
    (kept.0, kept.1 left marked)

pub others-keep-ends : ChildrenAreRead → OthersKeepEnds
others-keep-ends read plan start words schedule p s t n m effect last rest made reached r ne call stage reply is end =
    let x = around plan start words schedule p s t last in (
      stays-at read plan p s t (calm_of plan words schedule) (calm_of plan words (schedule ++ p ∷ [])) x n rest m effect made reached r
          ne call is.process
          is.is_open stage is.at,
      end-stays read plan p s t (calm_of plan words schedule) (calm_of plan words (schedule ++ p ∷ [])) x n rest m effect made reached r
          ne call is.process
          is.is_open stage is.at reply end,
    )
