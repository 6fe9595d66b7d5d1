-- One step of a call that has hung its change, or is at its end.
use Rattle.art_schedules.proofs.Common.{◌≡◌, ◌≢◌, ◌⊎◌, inl, inr, ℕ, ◌+◌, ◌<◌, ◌≤◌, List, true, false, refl, sym, ap, ◌∙◌, subst, arith, Option}
use Rattle.art_schedules.proofs.words.TableLemmas.{rows_apart, row_begins}
use Rattle.art_schedules.proofs.Common.{Some, None, cases_lt, same_Some, none-some, Call, Reply, Contents, Shape, Kind, Four, row_words, kind_at}
use Rattle.art_schedules.proofs.Common.{is_obsolete, released_word, obsolete_word, some-words, Variant, Store, Point}
use Rattle.art_schedules.proofs.Common.{Asks, Setting, locks, answers-asks, HeldRow, Hold, Outcome, Value, Stage, Unlock, Over, setting, reply_for}
use Rattle.art_schedules.proofs.Common.{turn_at, stage_after, release_at, hold_alone, OnKey, call_turn, call_after, Process, Plan, State}
use Rattle.art_schedules.proofs.Common.{Reached, Means, IsAtRest, SameRow, ChildrenAreRead, lock_of, locks_of, rows_of_hold, Named, Each, holds}
use Rattle.art_schedules.proofs.Common.{AreDistinct, Effect, Fills, IsAmong, IsAtStage, IsOpen, Keeps, PutsLeaf, held_by, stage_of}
use Rattle.art_schedules.proofs.versions.MoveLemmas.{settled-row}
use Rattle.art_schedules.proofs.Common.{RemovesLeaf, HangsPair, HangsGrown, base_of_effect, kind_of_effect, IsGone, ComesIn, IsGoneBy, ComesInBy}
use Rattle.art_schedules.proofs.Common.{EffectsFollow, KeptTreesFollow, WaysSayValues, IsUnreached, fresh_of, IsPending, IsReleasing, Last}
use Rattle.art_schedules.proofs.Common.{Lower, Gone, IsHanging, Hanging, AtEnd, Answering, Leaving, HasFilledFresh, obsolete_by, IsMarkedBy}
use Rattle.art_schedules.proofs.Common.{WorkerStep, Makes, TakesEffect, EndStep, Leaves, AnswersNow, IsInTree, IsSame}
use Rattle.std.proofs.Common.{slice_index}
use Rattle.map_object.proofs.TellLemmas.{value_answers}
use Rattle.art_rows.specs.declared.access.Point.TheVariants as point
use Rattle.art_schedules.proofs.calm.CalmLemmas.{claimed-row}
use Rattle.art_schedules.proofs.calm.UseLemmas.{without-store}
use Rattle.art_schedules.specs.effects.Outcomes.{Works}
use Rattle.art_schedules.proofs.effects.AroundLemmas.{Around}
use Rattle.art_schedules.proofs.effects.KeptLemmas.{inside-kept, unreached-kept, pending-kept, NewStays, GoneStays}
use Rattle.art_schedules.proofs.effects.ReleaseLemmas.{kept-by-words, its-row, own, elsewhere, outside-same, kept-unchanged, takes-effect}
use Rattle.art_schedules.proofs.effects.ReleaseLemmas.{is-obsolete, obsolete-same, kept-obsolete}
use Rattle.art_schedules.proofs.effects.ReplyLemmas.{does-so}

module _ (read : ChildrenAreRead) (trees : KeptTreesFollow) (effects : EffectsFollow) (says : WaysSayValues) (plan : Plan)
    (p : ℕ) (s t : State)
    (calm after : List ℕ) (x : Around plan p s t calm after) (k : ℕ) (rest : IsAtRest plan.shape k calm) (m : Contents)
    (means : Means plan.shape calm m)
    (call : Call) (q : Process) (o : IsOpen s p call q) (stage : Stage) (at : stage_of plan.variant plan.shape call q ≡ OnKey stage) where
  abbrev variant : Variant
  variant = plan.variant

  abbrev shape : Shape
  shape = plan.shape

  abbrev c : Setting
  c = setting shape variant call

  abbrev HoldsRow : HeldRow → Type 0
  HoldsRow row = IsAmong (lock_of row) (held_by variant shape call q)

  abbrev Kept : Type 0
  Kept = Makes variant shape s p calm after m None

  holds-row : (h : Hold) → holds c (OnKey stage) ≡ locks_of (rows_of_hold h) → (row : HeldRow)
      → IsAmong (lock_of row) (locks_of (rows_of_hold h)) → HoldsRow row
  holds-row h is row among = subst (IsAmong (lock_of row)) (sym is ∙ ap (holds c) (sym at)) among

  inside : Kept → (row : HeldRow) → IsInTree c.shape calm row → IsInTree c.shape after row
  inside made row here = inside-kept c made.goes.claims calm after _ (IsGoneBy None) (ComesInBy None) made.goes.follows row here
      (λ none. none)

  -- ---- one row is released, while the upper one is held

  module _ (lower upper : HeldRow) (is : holds c (OnKey stage) ≡ locks_of (rows_of_hold (record { row = lower; above = Some upper })))
      (live : is_obsolete lower.kept ≡ false) (value : ℕ) (mark : Option Point)
      (turn : turn_at c stage ≡ Asks (Store lower.base value) mark) where
    abbrev both : Hold
    both = record { row = lower; above = Some upper }

    lower-held : HoldsRow lower
    lower-held = holds-row both is lower (inl refl)

    upper-held : HoldsRow upper
    upper-held = holds-row both is upper (inr (inl refl))

    lower-row : kind_at shape lower.base ≡ Some lower.kind
    lower-row = its-row read trees effects plan p s t calm after x k rest m means call q o stage at lower lower-held live

    distinct : lower.base ≢ upper.base
    distinct = (subst AreDistinct (ap (holds c) at ∙ is) (x.before.distinct p call q o)).0 (lock_of upper) (inl refl)

    -- a row that is another one
    module _ (b : ℕ) (l : Kind) (row : kind_at shape b ≡ Some l) (ne : lower.base ≢ b) where
      outside : (word : ℕ) → b ≤ word → word < b + row_words l → (word < lower.base) ⊎ (lower.base + row_words lower.kind ≤ word)
      outside word low high = elim (cases_lt word lower.base) [
        | inl less ↦ inl less
        | inr more ↦ elim (cases_lt word (lower.base + row_words lower.kind)) [
          | inl within ↦ absurd (ne (rows_apart shape lower.base b lower.kind l word lower-row row more within low high).0)
          | inr past ↦ inr past
        ]
      ]

      calm-other : (word : ℕ) → b ≤ word → word < b + row_words l → slice_index after word ≡ slice_index calm word
      calm-other word low high =
          outside-same read trees effects plan p s t calm after x k rest m means call q o stage at lower lower-held live
          value mark turn word
          (omega (arith, row_begins shape b l row, low)) (outside word low high)

      calm-other-row : SameRow calm after b l
      calm-other-row j low high = calm-other (b + j) (omega arith) (omega (arith, high))

      real-other-row : SameRow s.words t.words b l
      real-other-row j low high =
          elsewhere read trees effects plan p s t calm after x k rest m means call q o stage at lower lower-held live
          value mark turn (b + j)
          (λ e. ne (rows_apart shape lower.base b lower.kind l lower.base lower-row row (omega arith)
          (omega (arith, some-words lower.kind)) (omega (arith, e))
          (omega (arith, e, high))).0)

  -- where the call is after the release
  released-at : (row : HeldRow) (among : HoldsRow row) (live : is_obsolete row.kept ≡ false) (value : ℕ) (mark : Option Point)
      → turn_at c stage ≡ Asks (Store row.base value) mark → (next : Stage) → stage_after c stage 0 ≡ next
      → IsAtStage variant shape t p call (OnKey next)
  released-at row among live value mark turn next is =
      let own = own read trees effects plan p s t calm after x k rest m means call q o stage at row among live value mark turn in record {
        process = own.process;
        is_open = own.is_open;
        at = own.at ∙ (ap (λ z. call_after c z 0) at ∙ ap OnKey is);
      }

  -- ---- at the end

  pub end-step : (reply : Reply) → AtEnd c s.words calm reply stage → EndStep variant shape s p t calm after m call reply stage
  end-step reply (Answering out is over) = AnswersNow out is over
      (kept-by-words read trees effects plan p s t calm after x k rest m means
      (without-store variant shape x.count s x.before p t calm after x.changes call q o
      (λ word value mark asks. answers-asks (sym (ap (call_turn c) at ∙ ap (turn_at c) over) ∙ asks))))
  end-step reply (Leaving out h is unlock rows same) = go h.above refl rows same
    where
      among : HoldsRow h.row
      among = holds-row h (ap (λ z. holds c (OnKey z)) unlock) h.row (inl refl)

      turn : turn_at c stage ≡ Asks (Store h.row.base (released_word h.row.kept)) (Some point.Unlock)
      turn = ap (turn_at c) unlock

      made : IsInTree c.shape calm h.row → IsSame calm s.words h.row → Kept
      made here own-same = kept-unchanged read trees effects plan p s t calm after x k rest m means call q o stage at h.row among here.live
          (Some point.Unlock) turn
          own-same

      then : IsInTree c.shape calm h.row → (above : Option HeldRow) → h.above ≡ above
          → IsAtStage variant shape t p call (OnKey (release_at (locks variant) above (Some out)))
      then here above e = released-at h.row among here.live (released_word h.row.kept) (Some point.Unlock) turn
          (release_at (locks variant) above (Some out))
          (ap (λ z. stage_after c z 0) unlock ∙ ap (λ z. release_at (locks variant) z (Some out)) e)

      go : (above : Option HeldRow) → h.above ≡ above → Each (IsInTree c.shape calm) (rows_of_hold h)
          → Each (IsSame calm s.words) (rows_of_hold h)
          → EndStep variant shape s p t calm after m call reply stage
      go None e rows same = Leaves (Over out) (then rows.0 None e) (Answering out is refl) (made rows.0 same.0)
      go (Some a) e rows same =
          let both : Hold = record { row = h.row; above = Some a } in
          let whole : h ≡ both = ap (λ z. record { row = h.row; above = z }) e in
          let held : holds c (OnKey stage) ≡ locks_of (rows_of_hold both) =
          ap (λ z. holds c (OnKey z)) unlock ∙ ap (λ z. locks_of (rows_of_hold z)) whole in
          let ins : Each (IsInTree c.shape calm) (rows_of_hold both) = subst (λ z. Each (IsInTree c.shape calm) (rows_of_hold z)) whole
          rows in
          let sames : Each (IsSame calm s.words) (rows_of_hold both) =
          subst (λ z. Each (IsSame calm s.words) (rows_of_hold z)) whole same in
          let ne = distinct h.row a held ins.0.live (released_word h.row.kept) (Some point.Unlock) turn in
          let row = its-row read trees effects plan p s t calm after x k rest m means call q o stage at a
          (upper-held h.row a held ins.0.live (released_word h.row.kept) (Some point.Unlock) turn) ins.1.0.live in
          let calms = calm-other-row h.row a held ins.0.live (released_word h.row.kept) (Some point.Unlock) turn a.base a.kind row ne in
          let reals = real-other-row h.row a held ins.0.live (released_word h.row.kept) (Some point.Unlock) turn a.base a.kind row ne in
          Leaves (Unlock (hold_alone a) (Some out)) (then rows.0 (Some a) e)
          (Leaving out (hold_alone a) is refl (inside (made rows.0 same.0) a ins.1.0, tt)
          (λ j low high. reals j low high ∙ (sames.1.0 j low high ∙ sym (calms j low high)), tt))
          (made rows.0 same.0)

  -- ---- before the release of the row that changes

  -- the fresh row, whose words in calm stay
  new-own : Kept → (e : Effect) (old : Option ℕ) → IsPending c s.words calm e old
      → ((b : ℕ) (l : Kind) → kind_at shape b ≡ Some l → IsUnreached shape calm b → (word : ℕ) → b ≤ word → word < b + row_words l
      → slice_index after word ≡ slice_index calm word)
      → ((b : ℕ) (l : Kind) → IsUnreached shape calm b → slice_index t.words b ≡ slice_index s.words b) → (made : Kept)
      → NewStays c made.goes.claims calm after _ (IsGoneBy None) (ComesInBy None) made.goes.follows (fresh_of e) t.words
  new-own made0 e old pending same version made = go e pending
    where
      one : (b : ℕ) (l : Kind) → HasFilledFresh c s.words calm b l → HasFilledFresh c t.words after b l × SameRow calm after b l
      one b l ready =
          let row = claimed-row shape s.words b l ready.claimed in (
            record {
              claimed = record {
                number = ready.claimed.number;
                claimed = omega (arith, ready.claimed.claimed, x.steady.claims l);
                within = ready.claimed.within;
                is = ready.claimed.is;
              };
              unreached =
                  unreached-kept shape made.goes.claims calm after _ (IsGoneBy None) (ComesInBy None) made.goes.follows b ready.unreached
                  (λ i none. none);
              live = ap is_obsolete (same b l row ready.unreached b (omega arith) (omega (arith, some-words l))) ∙ ready.live;
              live_now = ap is_obsolete (version b l ready.unreached) ∙ ready.live_now;
            },
            λ j low high. same b l row ready.unreached (b + j) (omega arith) (omega (arith, high)),
          )

      go : (e : Effect) → IsPending c s.words calm e old
          → NewStays c made.goes.claims calm after _ (IsGoneBy None) (ComesInBy None) made.goes.follows (fresh_of e) t.words
      go (Keeps base kind) pending = tt
      go (Fills base kind) pending = tt
      go (PutsLeaf base kind y key value) pending = tt
      go (RemovesLeaf base kind y key) pending = tt
      go (HangsPair base kind y key value fresh d a) (leads, none, parts, slot, ready, pair) = one fresh Four ready
      go (HangsGrown base kind y key value full full_kind z fresh larger) (above, none, hangs, leads, empty, slot, ready, copy) =
          one fresh larger ready

  -- the row that comes is not obsolete, if none that is ready is
  fresh-live : (e : Effect) (old : Option ℕ) → IsPending c s.words calm e old
      → ((b : ℕ) (l : Kind) → HasFilledFresh c s.words calm b l → is_obsolete (slice_index t.words b) ≡ false)
      → (b : ℕ) (l : Kind) → ComesIn e b l → is_obsolete (slice_index t.words b) ≡ false
  fresh-live (Keeps base kind) old pending live b l none = absurd none
  fresh-live (Fills base kind) old pending live b l none = absurd none
  fresh-live (PutsLeaf base kind y key value) old pending live b l none = absurd none
  fresh-live (RemovesLeaf base kind y key) old pending live b l none = absurd none
  fresh-live (HangsPair base kind y key value fresh d a) old (leads, none, parts, slot, ready, pair) live b l is =
      ap (λ z. is_obsolete (slice_index t.words z)) is.0 ∙ live fresh Four ready
  fresh-live (HangsGrown base kind y key value full full_kind z fresh larger) old
      (above, none, hangs, leads, empty, slot, ready, copy) live b l is =
      ap (λ w. is_obsolete (slice_index t.words w)) is.0 ∙ live fresh larger ready

  module _ (fresh : Option Named) (g : IsHanging c s.words calm fresh stage) (left : Option ℕ) where
    abbrev Step : Type 0
    Step = WorkerStep plan s p t calm after m call stage fresh left

    on-row : (words later : List ℕ) → SameRow words later g.row.base g.row.kind
        → SameRow words later (base_of_effect g.effect) (kind_of_effect g.effect)
    on-row words later same =
        subst (λ b. SameRow words later b (kind_of_effect g.effect)) (sym g.base)
        (subst (λ l. SameRow words later g.row.base l) (sym g.kind) same)

    -- the lower row is released
    lower-released : (lower : HeldRow) → holds c (OnKey stage) ≡ locks_of (rows_of_hold (record { row = lower; above = Some g.row }))
        → IsInTree c.shape calm lower → (value : ℕ) (mark : Option Point) → turn_at c stage ≡ Asks (Store lower.base value) mark
        → (made : Kept)
        → stage_after c stage 0 ≡ Unlock (hold_alone g.row) (Some (Value g.old))
        → GoneStays c made.goes.claims calm after _ (IsGoneBy None) (ComesInBy None) made.goes.follows g.effect
        → ((b : ℕ) → IsGone g.effect b → is_obsolete (slice_index t.words b) ≡ true)
        → left ≡ None → ((b : ℕ) → obsolete_by stage ≡ Some b → IsGone g.effect b) → Step
    lower-released lower is here value mark turn made next goes gone none marks =
        let held = lower-held lower g.row is here.live value mark turn in
        let ne = distinct lower g.row is here.live value mark turn in
        let row = its-row read trees effects plan p s t calm after x k rest m means call q o stage at g.row
        (upper-held lower g.row is here.live value mark turn) g.inside.live in
        let calms = calm-other-row lower g.row is here.live value mark turn g.row.base g.row.kind row ne in
        let reals = real-other-row lower g.row is here.live value mark turn g.row.base g.row.kind row ne in
        let fresh-words =
        λ (b : ℕ) (l : Kind) (its : kind_at shape b ≡ Some l) (none : IsUnreached shape calm b) (word : ℕ) (low : b ≤ word)
        (high : word < b + row_words l). calm-other lower g.row is here.live value mark turn b l its
        (λ e. none lower.kind (subst (λ z. Reached shape calm z lower.kind) e here.reached)) word low high in
        let fresh-versions = λ (b : ℕ) (l : Kind) (none : IsUnreached shape calm b).
        elsewhere read trees effects plan p s t calm after x k rest m means call q o stage at lower held here.live value mark turn b
        (λ e. none lower.kind (subst (λ z. Reached shape calm z lower.kind) (sym e) here.reached)) in (
          Works (Unlock (hold_alone g.row) (Some (Value g.old))) fresh
              (released-at lower held here.live value mark turn (Unlock (hold_alone g.row) (Some (Value g.old))) next)
              (Hanging (record {
                row = g.row;
                effect = g.effect;
                old = g.old;
                base = g.base;
                kind = g.kind;
                inside = inside made g.row g.inside;
                pending = pending-kept c made.goes.claims calm after _ (IsGoneBy None) (ComesInBy None) made.goes.follows s.words t.words
                    g.effect g.old g.pending
                    (on-row calm after calms) (on-row s.words t.words reals) (λ none. none)
                    (new-own made g.effect g.old g.pending fresh-words fresh-versions made) goes;
                does = g.does;
                fresh_row = g.fresh_row;
                at = Last refl gone;
              }))
              (inl refl) made,
          (none, marks),
        )

    pub hanging-step : IsMarkedBy left g.at → Step
    hanging-step marked = go g.at marked
      where
        -- a row that is only released is not made obsolete
        unlocks : (h : Hold) (out : Option Outcome) → stage ≡ Unlock h out → obsolete_by stage ≡ None
        unlocks h out is = ap obsolete_by is

        go : (at : IsReleasing c s.words calm g.row g.effect (Value g.old) stage) → IsMarkedBy left at → Step
        go (Last is gone) marks =
            let among = holds-row (hold_alone g.row) (ap (λ z. holds c (OnKey z)) is) g.row (inl refl) in
            let turn : turn_at c stage ≡ Asks (Store g.row.base (released_word g.row.kept)) (Some point.Unlock) = ap (turn_at c) is in
            let made = takes-effect read trees effects plan p s t calm after x k rest m means call q o stage at g.row among g.inside.live
            (Some point.Unlock) turn
            g.effect g.old g.base g.kind g.pending gone in
            let so = does-so says c k s.words calm m rest means g.effect g.old g.pending call g.does in (
              TakesEffect (Over (Value g.old)) g.effect (reply_for (Value g.old))
                  (released-at g.row among g.inside.live (released_word g.row.kept) (Some point.Unlock) turn (Over (Value g.old))
                  (ap (λ z. stage_after c z 0) is))
                  (Answering (Value g.old) refl refl) made g.fresh_row so.0 so.1 (value_answers g.old)
                  (fresh-live g.effect g.old g.pending (λ b l ready.
                  ap is_obsolete (elsewhere read trees effects plan p s t calm after x k rest m means call q o stage at g.row
                  among g.inside.live
                  (released_word g.row.kept) (Some point.Unlock) turn b
                  (λ e. ready.unreached g.row.kind (subst (λ z. Reached shape calm z g.row.kind) (sym e) g.inside.reached)))
                  ∙ ready.live_now)),
              (marks, unlocks (hold_alone g.row) (Some (Value g.old)) is),
            )
        go (Lower lower is here same none) marks =
            let held : holds c (OnKey stage) ≡ locks_of (rows_of_hold (record { row = lower; above = Some g.row })) =
            ap (λ z. holds c (OnKey z)) is in
            let turn : turn_at c stage ≡ Asks (Store lower.base (released_word lower.kept)) (Some point.Unlock) = ap (turn_at c) is in
            let made = kept-unchanged read trees effects plan p s t calm after x k rest m means call q o stage at lower
            (lower-held lower g.row held here.live (released_word lower.kept) (Some point.Unlock) turn) here.live
            (Some point.Unlock) turn same in
            lower-released lower held here (released_word lower.kept) (Some point.Unlock) turn made (ap (λ z. stage_after c z 0) is)
            (λ b l reached gone. absurd (none b gone)) (λ b gone. absurd (none b gone)) marks
            (λ b some. absurd (none-some b (sym (unlocks (record { row = lower; above = Some g.row }) (Some (Value g.old)) is) ∙ some)))
        go (Gone lower is value here leaves only) marks =
            let held : holds c (OnKey stage) ≡ locks_of (rows_of_hold (record { row = lower; above = Some g.row })) =
            ap (λ z. holds c (OnKey z)) is in
            let turn : turn_at c stage ≡ Asks (Store lower.base (obsolete_word lower.kept)) (Some point.Unlock) = ap (turn_at c) is in
            let among = lower-held lower g.row held here.live (obsolete_word lower.kept) (Some point.Unlock) turn in
            let made = kept-obsolete read trees effects plan p s t calm after x k rest m means call q o stage at lower among here.live
            (Some point.Unlock) turn in
            let stays = obsolete-same read trees effects plan p s t calm after x k rest m means call q o stage at lower among here.live
            (Some point.Unlock) turn in
            lower-released lower held here (obsolete_word lower.kept) (Some point.Unlock) turn made
            (ap (λ z. stage_after c z 0) is ∙ ap (λ z. Unlock (hold_alone g.row) (Some z)) (sym value))
            (λ b l reached gone. (
              λ j low high. stays (b + j)
                  (omega (arith, row_begins shape b l (settled-row variant shape s b l (x.calm_before.reached b l reached)))),
              λ none. none,
            ))
            (λ b gone. ap (λ z. is_obsolete (slice_index t.words z)) (only b gone)
            ∙ is-obsolete read trees effects plan p s t calm after x k rest m means call q o stage at lower among here.live
            (Some point.Unlock) turn) marks
            (λ b some. subst (IsGone g.effect) (same_Some lower.base b (sym (ap obsolete_by is) ∙ some)) leaves)
