-- Steps without a store.
use Rattle.art_schedules.proofs.Common.{◌≡◌, ℕ, ◌≤◌, List, [], ◌∷◌, ◌++◌, refl, sym, ◌∙◌, arith, false, true, Kind, Four, Sixteen, FortyEight}
use Rattle.art_schedules.proofs.Common.{Full, claims_of, released_word, claims-few, Optimistic, Store, Asks, load-store, exchange-store}
use Rattle.art_schedules.proofs.Common.{answers-asks, HeldRow, ScanStep, FirstKeys, SecondKeys, Index, LoadChild, Release, setting, Walk, at}
use Rattle.art_schedules.proofs.Common.{scan_turn, keys_turn, calm_of, IsCalm, CalmChange, CalmStays, CalmFilled, CalmReleased}
use Rattle.art_schedules.proofs.Common.{QuietStepsKeepTrees, ScansStoreNothing}
use Rattle.std.proofs.Common.{slice_index}
use Rattle.art_control_states.specs.declared.stage.ScanStep.TheVariants.{Lock, Exchange, Wait, Info, Keys, Over}
use Rattle.art_schedules.proofs.calm.InductionLemmas.{step-of-run}
use Rattle.art_schedules.proofs.calm.RunLemmas.{step-at, calm-at}
use Rattle.art_schedules.proofs.changes.FollowLemmas.{low-words-keep}

pub scans-store-nothing : ScansStoreNothing
scans-store-nothing shape call low high scan word value mark e = go scan.step scan.walk e
  where
    keys : (kind : Kind) (n : HeldRow) → keys_turn kind n ≡ Asks (Store word value) mark → ⊥
    keys Four n e = load-store e
    keys Sixteen n e = load-store e
    keys FortyEight n e = load-store e
    keys Full n e = load-store e

    go : (step : ScanStep) (w : Walk) → scan_turn (setting shape Optimistic call) (at step w) ≡ Asks (Store word value) mark → ⊥
    go (Lock entry true) w e = load-store e
    go (Lock entry false) w e = load-store e
    go (Exchange entry v) w e = exchange-store e
    go (Wait entry) w e = load-store e
    go (Info base kind kept) w e = load-store e
    go (Keys n) w e = keys n.kind n e
    go (FirstKeys n count) w e = load-store e
    go (SecondKeys n count first) w e = load-store e
    go (Index n j m) w e = load-store e
    go (LoadChild f slot) w e = load-store e
    go (Release n) w e = load-store e
    go Over w e = answers-asks e

pub quiet-steps-keep-trees : QuietStepsKeepTrees
quiet-steps-keep-trees plan start words schedule p s t h quiet n rest =
    low-words-keep plan.shape n calm after rest (there.long ∙ sym here.long) there.small
    (λ kind. omega (
      arith,
      here.low (claims_of kind) (claims-few kind),
      there.low (claims_of kind) (claims-few kind),
      made.steady.claims kind,
    ))
    (stays change.change)
  where
    calm : List ℕ
    calm = calm_of plan words schedule

    after : List ℕ
    after = calm_of plan words (schedule ++ p ∷ [])

    here : IsCalm plan.variant plan.shape words s calm
    here = calm-at plan start words schedule s h.before h.full

    there : IsCalm plan.variant plan.shape words t after
    there = calm-at plan start words (schedule ++ p ∷ []) t h.behind h.full

    made : Rattle.art_schedules.proofs.calm.InductionLemmas.IsStep plan.variant plan s p t
    made = step-of-run plan.variant h.full plan start words schedule p s t h.before refl h.made

    change : Rattle.art_schedules.specs.calm.Changes.CalmStep plan.variant plan.shape s p t calm after
    change = step-at plan start words schedule p s t h.behind h.full h.before.gives

    stays : CalmChange plan.variant plan.shape s p t calm after → (word : ℕ) → 5 ≤ word → slice_index after word ≡ slice_index calm word
    stays (CalmStays same) = same
    stays (CalmFilled word value asks base kind filled behind is others) =
        absurd (quiet asks.call asks.process asks.is_open word value asks.mark asks.turn)
    stays (CalmReleased h asks rest among held-then kept live row others) =
        absurd (quiet asks.call asks.process asks.is_open h.base (released_word h.kept) asks.mark asks.turn)
