-- Rows that are held stay in the calm tree, and were not obsolete when they were taken.
use Rattle.art_schedules.proofs.Common.{◌≡◌, ℕ, List, [], ◌∷◌, ◌++◌, inl, inr, ap, sym, subst, ◌∙◌, true, false, slice_index, Option, Some}
use Rattle.art_schedules.proofs.Common.{cases_eq, false≢true, same_Some, Call, Contents, Kind, kind_at, is_obsolete, Coupled, HeldRow, setting}
use Rattle.art_schedules.proofs.Common.{IsAmong, IsHeld, IsOpen, IsSettled, Plan, Process, Reached, State, held_by, stage_of}
use Rattle.art_schedules.proofs.versions.KnownLemmas.{held-is-kept}
use Rattle.art_schedules.proofs.Common.{ComesInBy, Effect, Follows, IsCoupledStep, IsGoneBy, TakesLive, calm_of, pairs_by}
use Rattle.art_schedules.proofs.versions.MoveLemmas.{settled-row}
use Rattle.art_schedules.proofs.Common.{TakesReached, GoodRowsStay, OthersLeaveGood, IsInTree}
use Rattle.art_schedules.specs.coupled.Good.{GoodOf}
use Rattle.art_schedules.proofs.coupled.MadeLemmas.{Facts, facts, others-open}
use Rattle.art_schedules.proofs.coupled.RowLemmas.{held-live}
use Rattle.art_schedules.proofs.coupled.MoveLemmas.{reached-kind}
use Rattle.art_schedules.proofs.coupled.LeaveLemmas.{HeldFrom, HeldBefore, TakenNow, held-from}

module _ (plan : Plan) (start : Contents) (words schedule : List ℕ) (p : ℕ) (s t : State) (claims : ℕ) (m : Contents)
    (h : IsCoupledStep plan start words schedule p s t claims m) where
  abbrev calm : List ℕ
  calm = calm_of plan words schedule

  abbrev after : List ℕ
  after = calm_of plan words (schedule ++ p ∷ [])

  f : Facts plan.shape s t p words calm after
  f = facts plan start words schedule p s t claims m h

  -- a row that is held after the step stays in the calm tree
  module _ (n : ℕ) (pairs : Contents) (effect : Option Effect)
      (follows : Follows plan.shape n calm after pairs (IsGoneBy effect) (ComesInBy effect))
      (dead : (b : ℕ) → IsGoneBy effect b → is_obsolete (slice_index t.words b) ≡ true) where
    still-good : (r : ℕ) (call : Call) (q : Process) → IsOpen t r call q → (x : HeldRow) → IsAmong x (held_by Coupled plan.shape call q)
        → IsInTree plan.shape calm x → IsInTree plan.shape after x
    still-good r call q o x a good = record {
      reached = (follows.rows x.base x.kind).1 (inl (good.reached, stays));
      live = good.live;
    }
      where
        stays : IsGoneBy effect x.base → ⊥
        stays gone = false≢true (sym (held-live plan.shape s t p words calm after f r call q o x a good.live) ∙ dead x.base gone)

  module _ (good : GoodOf plan.shape s p calm) (live : TakesLive plan.shape s p) (takes : TakesReached plan.shape s p calm)
      (call : Call) (q : Process)
      (o : IsOpen t p call q) (x : HeldRow) (a : IsAmong x (held_by Coupled plan.shape call q)) where
    row : kind_at plan.shape x.base ≡ Some x.kind
    row = settled-row Coupled plan.shape t x.base x.kind (held-is-kept (IsSettled Coupled plan.shape t) (setting plan.shape Coupled call)
        (stage_of Coupled plan.shape call q) (f.behind.knows p call q o) x a).1

    -- with the base and the version of a good row it is one
    as-good : (y : HeldRow) (kind : Kind) → Reached plan.shape calm y.base kind → is_obsolete y.kept ≡ false
        → y.base ≡ x.base → y.kept ≡ x.kept
        → IsInTree plan.shape calm x
    as-good y kind reached alive base kept =
        let its : kind ≡ x.kind = same_Some kind x.kind
        (sym (reached-kind plan.shape s t p words calm after f claims h.rests y.base kind reached)
        ∙ (ap (kind_at plan.shape) base ∙ row)) in
        record {
          reached = subst (λ b. Reached plan.shape calm b x.kind) base (subst (Reached plan.shape calm y.base) its reached);
          live = ap is_obsolete (sym kept) ∙ alive;
        }

    -- it was held by the same process
    same-holder : (w : IsHeld Coupled plan.shape s x.base) → w.holder ≡ p
    same-holder w = elim (cases_eq w.holder p) [
      | inl e ↦ e
      | inr d ↦
          f.behind.apart w.holder p w.call call w.process q (others-open plan p w.holder s t w.call w.process h.run.made d w.is_open) o
          w.row x w.among a w.is
    ]

    was-good : IsInTree plan.shape calm x
    was-good = go (held-from plan.shape h.run.before.within.shape.root s t p words calm after f p call q o x a)
      where
        go : HeldFrom plan.shape s p x → IsInTree plan.shape calm x
        go (HeldBefore w kept) =
            let g = good w.call w.process (subst (λ r. IsOpen s r w.call w.process) (same-holder w) w.is_open) w.row w.among in
            as-good w.row w.row.kind g.reached g.live w.is kept
        go (TakenNow y asks was base kept) = let (kind, reached) = takes y asks was in as-good y kind reached (live y asks was) base kept

pub good-rows-stay : GoodRowsStay
good-rows-stay plan start words schedule p s t claims m pairs effect h goes good live takes call q o x a =
    still-good plan start words schedule p s t claims m h goes.claims (pairs_by effect pairs) effect goes.follows goes.gone p call q o x a
    (was-good plan start words schedule p s t claims m h good live takes call q o x a)

pub others-leave-good : OthersLeaveGood
others-leave-good plan start words schedule p s t claims m pairs effect h goes r call q apart o good x a =
    still-good plan start words schedule p s t claims m h goes.claims (pairs_by effect pairs) effect goes.follows goes.gone r call q
    (others-open plan p r s t call q h.run.made apart o) x a (good x a)
