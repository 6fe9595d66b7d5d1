-- A call at work while it claims its row.
use Rattle.art_schedules.proofs.Common.{◌≡◌, inl, inr, ℕ, ◌+◌, ◌%◌, ◌^◌, ◌<◌, ◌≤◌, List, [], ◌∷◌, true, refl, sym, ap, ◌∙◌, subst, arith, nat_lt}
use Rattle.art_schedules.proofs.words.TableLemmas.{row_begins, kind_at-base_of, base_of-once}
use Rattle.art_schedules.proofs.writes.StoreLemmas.{stored-at}
use Rattle.art_schedules.proofs.Common.{Some, None, if◌then◌else◌, cases_lt, lt-ltb, le-ltb, Call, Contents, Shape, Kind, Four, rows_of}
use Rattle.art_schedules.proofs.Common.{claims_of, base_of, is_obsolete, some-words, claims-few}
use Rattle.art_schedules.proofs.Common.{Variant, Add, Asks, Setting, next_kind, store-add, HeldRow, Hold, Refused, Work, Stage, StorePair, GrowInfo}
use Rattle.art_schedules.proofs.Common.{Unlock, setting, turn_at, stage_after, work_at, OnKey, call_turn, call_after, Process, Plan, State}
use Rattle.art_schedules.proofs.Common.{Means, IsAtRest, IsClaimed, IsUnused, ChildrenAreRead, rows_of_hold, Each, Knows, IsOpen}
use Rattle.art_schedules.proofs.Common.{ComesInBy, EffectsFollow, IsAtStage, IsGoneBy, stage_of}
use Rattle.art_schedules.proofs.versions.ChangeLemmas.{index-other}
use Rattle.art_schedules.proofs.versions.MoveLemmas.{settled-row, true-false}
use Rattle.art_schedules.proofs.Common.{KeptTreesFollow, IsUnreached, Solo, here, further, claims, RowsOf, BeginsWork, IsClaiming, claims_row}
use Rattle.art_schedules.proofs.Common.{hold_at, FillsAt, AtWork, Going, Leaving, Makes, IsRefused, obsolete_by, WorkerStep, IsInTree, IsSame}
use Rattle.std.proofs.Common.{slice_index}
use Rattle.art_control_states.specs.declared.stage.PairWord.TheVariants as pair_word
use Rattle.art_control_states.specs.declared.stage.Work.TheVariants as work
use Rattle.art_schedules.proofs.calm.UseLemmas.{without-store}
use Rattle.art_schedules.proofs.work.OwnLemmas.{rows-known}
use Rattle.art_schedules.specs.effects.Outcomes.{Works}
use Rattle.art_schedules.proofs.effects.AroundLemmas.{Around, OwnAccess, own-access}
use Rattle.art_schedules.proofs.effects.KeptLemmas.{begins-kept, inside-kept, unreached-kept}
use Rattle.art_schedules.proofs.effects.MarkLemmas.{obsolete-or}
use Rattle.art_schedules.proofs.effects.OtherLemmas.{each-with, each-of}
use Rattle.art_schedules.proofs.effects.ReleaseLemmas.{kept-by-words}

module _ (read : ChildrenAreRead) (trees : KeptTreesFollow) (effects : EffectsFollow) (plan : Plan) (p : ℕ) (s t : State)
    (calm after : List ℕ) (x : Around plan p s t calm after) (k : ℕ) (rest : IsAtRest plan.shape k calm) (m : Contents)
    (means : Means plan.shape calm m)
    (call : Call) (q : Process) (o : IsOpen s p call q) (stage : Stage) (at : stage_of plan.variant plan.shape call q ≡ OnKey stage) where
  abbrev variant : Variant
  variant = plan.variant

  abbrev shape : Shape
  shape = plan.shape

  abbrev c : Setting
  c = setting shape variant call

  abbrev Kept : Type 0
  Kept = Makes variant shape s p calm after m None

  -- ---- where no word of a row of calm changes

  module _ (stays : (word : ℕ) → 5 ≤ word → slice_index after word ≡ slice_index calm word) where
    pub made : Kept
    made = kept-by-words read trees effects plan p s t calm after x k rest m means stays

    pub late : (row : HeldRow) → IsInTree c.shape calm row → 5 ≤ row.base
    late row inside = row_begins shape row.base row.kind (settled-row variant shape s row.base row.kind
        (x.calm_before.reached row.base row.kind inside.reached))

    pub calm-row : (row : HeldRow) → IsInTree c.shape calm row → IsSame calm after row
    calm-row row inside j low high = stays (row.base + j) (omega (arith, late row inside))

    pub rows-then : (h : Hold) → Each (IsInTree c.shape calm) (rows_of_hold h) → Each (IsInTree c.shape after) (rows_of_hold h)
    rows-then h rows = each-with (IsInTree c.shape calm) (IsInTree c.shape after) (rows_of_hold h)
        (λ row among inside. inside-kept c made.goes.claims calm after _ (IsGoneBy None) (ComesInBy None) made.goes.follows row inside
        (λ none. none)) rows

    pub calms : (h : Hold) → Each (IsInTree c.shape calm) (rows_of_hold h) → Each (IsSame calm after) (rows_of_hold h)
    calms h rows = each-with (IsInTree c.shape calm) (IsSame calm after) (rows_of_hold h) (λ row among inside. calm-row row inside) rows

    pub begins-then : (h : Hold) (work : Work) → Each (IsInTree c.shape calm) (rows_of_hold h) → BeginsWork c calm h work
        → BeginsWork c after h work
    begins-then h work rows begins = begins-kept c made.goes.claims calm after _ (IsGoneBy None) (ComesInBy None) made.goes.follows h work
        (calms h rows)
        (each-of (λ row. IsGoneBy None row.base → ⊥) (rows_of_hold h) (λ row among none. none)) begins

  -- ---- the claim

  module _ (h : Hold) (work : Work) (is : stage ≡ work_at c h work) (kind : Kind)
      (turn : turn_at c (work_at c h work) ≡ Asks (Add (claims_of kind)) None)
      (begin : ℕ → Stage)
      (next : (number : ℕ) → stage_after c (work_at c h work) number ≡ (if nat_lt number (rows_of shape kind) then begin number else Unlock
      h (Some Refused)))
      (place : (number : ℕ) → hold_at (begin number) ≡ Some h)
      (fills : (number : ℕ) → FillsAt h work (base_of shape kind number) kind (begin number))
      (begins : BeginsWork c calm h work) (rows : Each (IsInTree c.shape calm) (rows_of_hold h))
      (same : Each (IsSame calm s.words) (rows_of_hold h)) where
    abbrev number : ℕ
    number = slice_index s.words (claims_of kind)

    asks : call_turn c (stage_of variant shape call q) ≡ Asks (Add (claims_of kind)) None
    asks = ap (call_turn c) at ∙ (ap (turn_at c) is ∙ turn)

    own : OwnAccess plan p s t call q (Add (claims_of kind))
    own = own-access plan p s t x.move call q o (Add (claims_of kind)) None asks

    stays : (word : ℕ) → 5 ≤ word → slice_index after word ≡ slice_index calm word
    stays = without-store variant shape x.count s x.before p t calm after x.changes call q o (λ word value mark e. store-add (sym e ∙ asks))

    real-word : (word : ℕ) → 5 ≤ word → slice_index t.words word ≡ slice_index s.words word
    real-word word low = ap (λ ws. slice_index ws word) own.words
        ∙ index-other s.words (claims_of kind) ((number + 1) % 2 ^ 64) word (λ e. omega (arith, e, low, claims-few kind))

    real-count : slice_index t.words (claims_of kind) ≡ number + 1
    real-count = ap (λ ws. slice_index ws (claims_of kind)) own.words
        ∙ (stored-at s.words (claims_of kind) ((number + 1) % 2 ^ 64) (omega (arith, x.before.long, claims-few kind))
        ∙ small (x.before.claims kind) x.few)
      where
        small : number ≤ x.count + 1 → x.count < 2 ^ 62 → (number + 1) % 2 ^ 64 ≡ number + 1
        small a b = omega (arith, a, b)

    sames : Each (IsSame after t.words) (rows_of_hold h)
    sames = each-with (λ row. IsInTree c.shape calm row × IsSame calm s.words row) (IsSame after t.words) (rows_of_hold h)
        (λ row among both j low high. real-word (row.base + j) (omega (arith, late stays row both.0))
        ∙ (both.1 j low high ∙ sym (calm-row stays row both.0 j low high))) (pair-up (rows_of_hold h) rows same)
      where
        pair-up : (hs : List HeldRow) → Each (IsInTree c.shape calm) hs → Each (IsSame calm s.words) hs
            → Each (λ row. IsInTree c.shape calm row × IsSame calm s.words row) hs
        pair-up [] a b = tt
        pair-up (row ∷ hs) a b = ((a.0, b.0), pair-up hs a.1 b.1)

    then-at : (stage2 : Stage) → stage_after c (work_at c h work) number ≡ stage2 → IsAtStage variant shape t p call (OnKey stage2)
    then-at stage2 e = record {
      process = own.process;
      is_open = own.is_open;
      at = own.at ∙ (ap (λ z. call_after c z number) at ∙ (ap (λ z. OnKey (stage_after c z number)) is ∙ ap OnKey e));
    }

    -- the row of the number was not claimed
    calm-number : slice_index calm (claims_of kind) ≡ number
    calm-number = x.calm_before.low (claims_of kind) (claims-few kind)

    unused : IsUnused shape calm kind number
    unused = x.calm_before.fresh kind number (omega (arith, calm-number))

    not-claimed : number < rows_of shape kind → (l : Kind) → IsClaimed shape s.words (base_of shape kind number) l → ⊥
    not-claimed within l claimed =
        let one = base_of-once shape kind l number claimed.number within claimed.within claimed.is in
        omega (arith, one.1, subst (λ z. claimed.number < slice_index s.words (claims_of z)) (sym one.0) claimed.claimed)

    unreached : number < rows_of shape kind → IsUnreached shape calm (base_of shape kind number)
    unreached within l r =
        let its = rest.claimed (base_of shape kind number) l r in
        let one = base_of-once shape kind l number its.number within its.within its.is in
        omega (arith, one.1, subst (λ z. its.number < slice_index calm (claims_of z)) (sym one.0) its.claimed, calm-number)

    -- a claim makes no row obsolete
    none-obsolete : obsolete_by stage ≡ None
    none-obsolete = elim (obsolete-or stage) [
      | inl none ↦ none
      | inr at ↦ absurd (store-add (sym (ap (turn_at c) at.1) ∙ (ap (turn_at c) is ∙ turn)))
    ]

    pub claim-step : WorkerStep plan s p t calm after m call stage None None
    claim-step = elim (cases_lt number (rows_of shape kind)) [
      | inl within ↦
          let stage2 : Stage = begin number in
          let base : ℕ = base_of shape kind number in
          let goes : stage_after c (work_at c h work) number ≡ stage2 =
          next number ∙ ap (λ b. if b then begin number else Unlock h (Some Refused)) (lt-ltb number (rows_of shape kind) within) in
          let row = kind_at-base_of shape kind number within in
          let begins_late = row_begins shape base kind row in
          let later : AtWork c t.words after (Some (base, kind)) stage2 = Going (record {
            hold = h;
            work = work;
            begins = begins-then stays h work rows begins;
            rows = rows-then stays h rows;
            place = place number;
            knows = subst (λ z. Knows (RowsOf shape) c (OnKey z)) is (subst (Knows (RowsOf shape) c) at
                (rows-known variant shape x.count s p call q x.before o));
            first = calm;
            words = calm;
            first_long = x.calm_before.long;
            long = x.calm_before.long;
            solo = subst (λ z. Solo c (OnKey (work_at c h work)) calm (OnKey z) calm) goes
                (further here (claims kind number None turn unused));
            was = calms stays h rows;
            same = each-with (λ row. IsSame calm after row × IsSame after t.words row) (IsSame calm t.words) (rows_of_hold h)
                (λ row among both j low high. both.1 j low high ∙ both.0 j low high) (pair-up (rows_of_hold h) (calms stays h rows) sames);
            new = record {
              at = fills number;
              claimed = record { number = number; claimed = omega (arith, real-count); within = within; is = refl };
              unreached = unreached-kept shape (made stays).goes.claims calm after _ (IsGoneBy None) (ComesInBy None)
                  (made stays).goes.follows base (unreached within)
                  (λ i none. none);
              live = ap is_obsolete (stays base begins_late ∙ unused within base (omega arith) (omega (arith, some-words kind)));
              live_now = ap is_obsolete (real-word base begins_late
                  ∙ x.zero kind number (omega arith) within base (omega arith) (omega (arith, some-words kind)));
              same = λ j low high. stays (base + j) (omega (arith, begins_late));
            };
          }) in (
            Works stage2 (Some (base, kind)) (then-at stage2 goes) later (inr ((base, kind), refl, not-claimed within)) (made stays),
            (refl, none-obsolete),
          )
      | inr past ↦
          let goes : stage_after c (work_at c h work) number ≡ Unlock h (Some Refused) =
          next number ∙ ap (λ b. if b then begin number else Unlock h (Some Refused)) (le-ltb number (rows_of shape kind) past) in (
            IsRefused (Unlock h (Some Refused)) (then-at (Unlock h (Some Refused)) goes)
                (Leaving Refused h refl refl (rows-then stays h rows) sames) (made stays),
            (refl, none-obsolete),
          )
    ]
      where
        pair-up : (hs : List HeldRow) → Each (IsSame calm after) hs → Each (IsSame after t.words) hs
            → Each (λ row. IsSame calm after row × IsSame after t.words row) hs
        pair-up [] a b = tt
        pair-up (row ∷ hs) a b = ((a.0, b.0), pair-up hs a.1 b.1)

  pub claiming-step : IsClaiming c s.words calm stage → WorkerStep plan s p t calm after m call stage None None
  claiming-step g = go g.work g.at g.claims g.begins
    where
      go : (work : Work) → stage ≡ work_at c g.hold work → claims_row work ≡ true → BeginsWork c calm g.hold work
          → WorkerStep plan s p t calm after m call stage None None
      go (work.Write slot word old) is e begins = absurd (true-false e refl)
      go (work.Pair pair) is e begins = claim-step g.hold (work.Pair pair) is Four refl
          (λ number. StorePair g.hold pair (base_of shape Four number) pair_word.Info) (λ number. refl) (λ number. refl)
          (λ number. (refl, inl (pair_word.Info, refl))) begins g.rows g.same
      go (work.Put keys) is e begins = absurd (true-false e refl)
      go (work.Grow slot keys) is e begins = claim-step g.hold (work.Grow slot keys) is (next_kind g.hold.row.kind) refl
          (λ number. GrowInfo (record {
            hold = g.hold;
            slot = slot;
            keys = keys;
            base = base_of shape (next_kind g.hold.row.kind) number;
          })) (λ number. refl)
          (λ number. refl) (λ number. (refl, refl)) begins g.rows g.same
