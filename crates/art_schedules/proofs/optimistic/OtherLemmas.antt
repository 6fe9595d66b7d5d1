-- A step of another process.
use Rattle.art_schedules.proofs.Common.{◌≡◌, ◌≢◌, inl, inr, ℕ, ◌+◌, ◌%◌, ◌≤◌, List, [], ◌∷◌, ◌++◌, true, false, refl, sym, ap, ◌∙◌, subst, arith}
use Rattle.art_schedules.proofs.Common.{ne_eqb, Option, Some, cases_eq, false≢true, Call, Shape, is_obsolete, Optimistic, is_insert, HeldRow, Stage}
use Rattle.art_schedules.proofs.Common.{setting, OnKey, Process, State, SameRow, Each, IsKept, Knows, holds, lock_of, held_at_stage, IsAmong}
use Rattle.art_schedules.proofs.Common.{IsHeld, IsOpen, IsSettled, IsSound, WritesOwn, held_by, stage_of}
use Rattle.art_schedules.proofs.versions.KnownLemmas.{held-is-kept}
use Rattle.art_schedules.proofs.versions.MoveLemmas.{settled-row}
use Rattle.art_schedules.proofs.versions.RunLemmas.{written-at}
use Rattle.art_schedules.proofs.Common.{calm_of, CalmStep, IsGoneBy, IsStill, Effect, OtherStepsKeepWays}
use Rattle.std.proofs.Common.{slice_index}
use Rattle.art_schedules.specs.versions.Writers.{MayWrite}
use Rattle.art_schedules.proofs.calm.InductionLemmas.{step-of-run}
use Rattle.art_schedules.proofs.calm.RunLemmas.{step-at}
use Rattle.art_schedules.proofs.changes.RowLemmas.{steady-row}
use Rattle.art_schedules.proofs.optimistic.InfoLemmas.{infos-stay, calm-agrees}
use Rattle.art_schedules.proofs.optimistic.StayLemmas.{ways-are-kept}
use Rattle.art_schedules.proofs.effects.OtherLemmas.{each-of}

taken-live : (v : ℕ) → v % 4 ≡ 0 → is_obsolete (v + 2) ≡ false
taken-live v e = ne_eqb ((v + 2) % 2) 1 (λ f. omega (arith, e, f))

module _ (shape : Shape) (n k : ℕ) (s t : State) (before : IsSound Optimistic shape n s) (behind : IsSound Optimistic shape k t) (mover : ℕ)
    (writes : WritesOwn Optimistic shape s mover t) (calm after : List ℕ) (made : CalmStep Optimistic shape s mover t calm after)
    (effect : Option Effect)
    (leaving : (base : ℕ) → IsGoneBy effect base → is_obsolete (slice_index t.words base) ≡ true)
    (p : ℕ) (call : Call) (q : Process) (other : p ≢ mover) (was : IsOpen s p call q) (is : IsOpen t p call q) where
  -- a row that the process holds
  still : (h : HeldRow) → IsAmong h (held_by Optimistic shape call q) → IsStill calm s.words after t.words effect h
  still h among = record { row = steady-row calm after h.base h.kind (made.held h.base h.kind row held-then); same = same; stays = stays }
    where
      kept : IsKept false (IsSettled Optimistic shape s) h
      kept = held-is-kept (IsSettled Optimistic shape s) (setting shape Optimistic call) (stage_of Optimistic shape call q)
          (before.knows p call q was) h among

      row : Rattle.art_rows.specs.Table.kind_at shape h.base ≡ Some h.kind
      row = settled-row Optimistic shape s h.base h.kind kept.1

      held-then : IsHeld Optimistic shape t h.base
      held-then = record { holder = p; call = call; process = q; is_open = is; row = h; among = among; is = refl }

      none : (j : ℕ) → 1 ≤ j → MayWrite Optimistic shape s mover t h.base (h.base + j) → ⊥
      none j low (inl (x, e)) = other (before.apart p x.holder call x.call q x.process was x.is_open h x.row among x.among (sym x.is) ∙ e)
      none j low (inr (inl (e, x))) = omega (arith, e, low)
      none j low (inr (inr x)) = kept.1.unfilled mover x.call x.process x.is_open h.base x.kind x.fills refl

      same : SameRow s.words t.words h.base h.kind
      same j low high = elim (cases_eq (slice_index t.words (h.base + j)) (slice_index s.words (h.base + j))) [
        | inl e ↦ e
        | inr d ↦ absurd (none j low (writes h.base h.kind row (h.base + j) (omega arith) (omega (arith, high)) d))
      ]

      stays : IsGoneBy effect h.base → ⊥
      stays g = false≢true (sym (ap is_obsolete (behind.locked p call q is h among) ∙ taken-live h.kept kept.0) ∙ leaving h.base g)

  -- all that it holds
  all-still : (stage : Stage) → stage_of Optimistic shape call q ≡ OnKey stage
      → Each (IsStill calm s.words after t.words effect) (held_at_stage false (is_insert call) stage)
  all-still stage e = each-of (IsStill calm s.words after t.words effect) (held_at_stage false (is_insert call) stage)
      (λ h among. let x = still (lock_of h) (subst (λ at. IsAmong (lock_of h) (holds (setting shape Optimistic call) at)) (sym e) among) in
      record { row = x.row; same = x.same; stays = x.stays })

pub other-steps-keep-ways : OtherStepsKeepWays
other-steps-keep-ways plan start words schedule p s t h v pairs effect goes r call stage found other at is knows =
    let made = step-of-run Optimistic (inr refl) plan start words schedule p s t h.before v h.made in
    let change = subst (λ x. CalmStep x plan.shape s p t (calm_of plan words schedule) (calm_of plan words (schedule ++ p ∷ []))) v
    (step-at plan start words schedule p s t h.behind (inr v) h.before.gives) in
    let rows = subst (λ x. Knows (IsSettled Optimistic plan.shape s) (setting plan.shape Optimistic call) x) at.at
    (made.before.knows r call at.process at.is_open) in
    ways-are-kept plan.shape call (calm_of plan words schedule) (calm_of plan words (schedule ++ p ∷ [])) pairs effect s t found stage goes
    (calm-agrees plan start words schedule s h.before v) (calm-agrees plan start words (schedule ++ p ∷ []) t h.behind v) made.steady
    (infos-stay plan start words schedule p s t h v) rows
    (all-still plan.shape made.count (made.count + 1) s t made.before made.behind p
    (written-at Optimistic (inr refl) plan start words schedule p s t h.behind v h.before.gives) (calm_of plan words schedule)
    (calm_of plan words
    (schedule ++ p ∷ [])) change effect goes.gone r call at.process other at.is_open is stage at.at) knows
