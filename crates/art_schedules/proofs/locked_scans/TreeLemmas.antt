-- A scan that knows the calm tree, in a run.
use Rattle.art_schedules.proofs.Common.{◌≡◌, inl, ℕ, List, [], ◌∷◌, ◌++◌, refl, sym, ap, ◌∙◌, subst, true, false, arith, slice_get, Option}
use Rattle.art_schedules.proofs.alone.WayLemmas.{leads-root}
use Rattle.art_schedules.proofs.Common.{false_from_ne_true, same_Some, Scan, Shape, Kind, Four, Sixteen, FortyEight, Full, root_base}
use Rattle.art_schedules.proofs.Common.{is_obsolete, locked_word, Coupled, Swap, Point, Asks, Setting, asks-answers, load-exchange}
use Rattle.art_schedules.proofs.Common.{store-exchange, exchange-word, HeldRow, Entry, ScanStep, FirstKeys, SecondKeys, Index, LoadChild, Release}
use Rattle.art_schedules.proofs.Common.{setting, Walk, ScanAt, at, scan_turn, entry_base, keys_turn, OnScan, call_turn, State, root, below}
use Rattle.art_schedules.proofs.Common.{IsAtRest, holds, lock_of, IsAmong, stage_of, held_by, IsAtStage, calm_of, IsLeaving}
use Rattle.art_schedules.proofs.Common.{ObsoleteLeave, KnowsStep, KnowsTree, ScansTakeLive, IsOver}
use Rattle.std.proofs.Common.{slice_index}
use Rattle.art_control_states.specs.declared.stage.Entry.TheVariants.{Root, Below}
use Rattle.art_control_states.specs.declared.stage.ScanStep.TheVariants.{Lock, Exchange, Wait, Info, Keys, Over}
use Rattle.art_schedules.proofs.coupled.MadeLemmas.{Facts, facts}
use Rattle.art_schedules.proofs.coupled.RowLemmas.{its-turn}
use Rattle.art_schedules.proofs.work.LockedLemmas.{among-lock}
use Rattle.art_schedules.proofs.work.CallLemmas.{key-scan}

pub keys-swap : (kind : Kind) (n : HeldRow) (word v w : ℕ) (l : Option Point) → keys_turn kind n ≡ Asks (Swap word v w) l → ⊥
keys-swap Four n word v w l e = load-exchange e
keys-swap Sixteen n word v w l e = load-exchange e
keys-swap FortyEight n word v w l e = load-exchange e
keys-swap Full n word v w l e = load-exchange e

module _ (shape : Shape) (s t : State) (p : ℕ) (first calm after : List ℕ) (f : Facts shape s t p first calm after) (claims : ℕ)
    (rest : IsAtRest shape claims calm) (leaving : ℕ → Option ℕ) (leave : ObsoleteLeave shape s calm leaving) (low high : ℕ) where
  abbrev its : Setting
  its = setting shape Coupled (Scan low high)

  module _ (x : ScanAt) (here : IsAtStage Coupled shape s p (Scan low high) (OnScan low high x)) where
    -- a scan does not release a row forever
    not-there : (base : ℕ) (kind : Kind) → (l : IsLeaving shape s calm leaving base kind) → l.process ≡ p → ⊥
    not-there base kind l same =
        let process : l.at.process ≡ here.process =
        same_Some l.at.process here.process (sym l.at.is_open.own ∙ (ap (slice_get s.processes) same ∙ here.is_open.own)) in
        let call : l.call ≡ Scan low high =
        same_Some l.call (Scan low high) (sym l.at.is_open.is_open ∙ (ap (λ w. w.call) process ∙ here.is_open.is_open)) in
        key-scan (sym l.at.at ∙ (ap (λ w. stage_of Coupled shape l.call w) process
        ∙ (ap (λ y. stage_of Coupled shape y here.process) call ∙ here.at)))

    its-row : (base : ℕ) (kind : Kind) (l : IsLeaving shape s calm leaving base kind)
        → IsAmong (lock_of l.hold.row) (held_by Coupled shape l.call l.at.process)
    its-row base kind l = subst (λ y. IsAmong (lock_of l.hold.row) (holds (setting shape Coupled l.call) y)) (sym l.at.at) (inl refl)

  dead-root : is_obsolete (slice_index s.words (root_base shape)) ≡ true → ⊥
  dead-root dead =
      let l = leave (root_base shape) Full root dead in
      let level = (leads-root shape claims calm rest 0).0 in
      let less = (rest.tree.row l.hold.row.base (root_base shape) l.byte l.hold.row.kind Full l.reached l.is_byte l.hangs).0 in
      absurd (omega (arith, level, less))

  module _ (w : Walk) where
    dead-entry : (v : ℕ) (entry : Entry) (here : IsAtStage Coupled shape s p (Scan low high) (OnScan low high (at (Exchange entry v) w)))
        → KnowsStep shape calm w.rows (Exchange entry v)
        → is_obsolete (slice_index s.words (entry_base its entry)) ≡ true → ⊥
    dead-entry v Root here k dead = dead-root dead
    dead-entry v (Below base kind) here k dead =
        let l = leave base kind (below k.reached k.byte k.is_byte k.hangs) dead in
        let same = (rest.tree.once l.hold.row.base k.row.base l.byte k.byte base l.hold.row.kind k.row.kind kind
        l.reached k.reached l.is_byte k.is_byte l.hangs k.hangs).0 in
        not-there (at (Exchange (Below base kind) v) w) here base kind l
        (f.sound.apart l.process p l.call (Scan low high) l.at.process here.process l.at.is_open here.is_open (lock_of l.hold.row)
        (lock_of k.walked.0)
        (its-row (at (Exchange (Below base kind) v) w) here base kind l)
        (subst (λ y. IsAmong (lock_of k.walked.0) (holds its y)) (sym here.at) (among-lock k.walked.0 w.rows k.walked.1))
        (same ∙ sym k.walked.2))

    live-step : (step : ScanStep) → IsAtStage Coupled shape s p (Scan low high) (OnScan low high (at step w))
        → ((IsOver step → ⊥) → KnowsTree shape calm (at step w)) → (h : HeldRow)
        (l : Option Point)
        → scan_turn its (at step w) ≡ Asks (Swap h.base h.kept (locked_word h.kept)) l → slice_index s.words h.base ≡ h.kept
        → is_obsolete h.kept ≡ true → ⊥
    live-step (Lock entry true) here k h l e is dead = load-exchange e
    live-step (Lock entry false) here k h l e is dead = load-exchange e
    live-step (Exchange entry u) here k h l e is dead =
        dead-entry u entry here (k (λ walked. walked)).step
        (ap (λ b. is_obsolete (slice_index s.words b)) (exchange-word e) ∙ (ap is_obsolete is ∙ dead))
    live-step (Wait entry) here k h l e is dead = load-exchange e
    live-step (Info base kind kept) here k h l e is dead = load-exchange e
    live-step (Keys n) here k h l e is dead = keys-swap n.kind n h.base h.kept (locked_word h.kept) l e
    live-step (FirstKeys n count) here k h l e is dead = load-exchange e
    live-step (SecondKeys n count one) here k h l e is dead = load-exchange e
    live-step (Index n j i) here k h l e is dead = load-exchange e
    live-step (LoadChild g slot) here k h l e is dead = load-exchange e
    live-step (Release n) here k h l e is dead = store-exchange e
    live-step Over here k h l e is dead = asks-answers (sym e)

pub scans-take-live : ScansTakeLive
scans-take-live plan start words schedule p s t claims m leaving low high x step leave here k h asks is =
    let f = facts plan start words schedule p s t claims m step in
    let calm = calm_of plan words schedule in
    let after = calm_of plan words (schedule ++ p ∷ []) in
    let c = setting plan.shape Coupled (Scan low high) in
    false_from_ne_true (is_obsolete h.kept) (λ dead.
    live-step plan.shape s t p words calm after f claims step.rests leaving leave low high x.walk x.step here k h asks.mark
    (ap (call_turn c) (sym here.at) ∙ its-turn plan.shape s t p words calm after f (Scan low high) here.process here.is_open
    (Swap h.base h.kept (locked_word h.kept)) asks) is dead)
