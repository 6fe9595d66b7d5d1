-- A row that a scan takes is a row of the calm tree.
use Rattle.art_schedules.proofs.Common.{◌≡◌, ℕ, List, [], ◌∷◌, ◌++◌, sym, ap, ◌∙◌, subst, true, false, Option, Scan, Shape, Kind, Full}
use Rattle.art_schedules.proofs.Common.{locked_word, Coupled, Swap, Point, Asks, Setting, asks-answers, load-exchange, store-exchange}
use Rattle.art_schedules.proofs.Common.{exchange-word, HeldRow, Entry, ScanStep, FirstKeys, SecondKeys, Index, LoadChild, Release, setting, Walk}
use Rattle.art_schedules.proofs.Common.{at, scan_turn, entry_base, call_turn, Reached, root, below, calm_of, KnowsEntry, KnowsTree}
use Rattle.art_schedules.proofs.Common.{ScansTakeReached, IsOver}
use Rattle.art_control_states.specs.declared.stage.Entry.TheVariants.{Root, Below}
use Rattle.art_control_states.specs.declared.stage.ScanStep.TheVariants.{Lock, Exchange, Wait, Info, Keys, Over}
use Rattle.art_schedules.proofs.coupled.MadeLemmas.{facts}
use Rattle.art_schedules.proofs.coupled.RowLemmas.{its-turn}
use Rattle.art_schedules.proofs.locked_scans.TreeLemmas.{keys-swap}

module _ (shape : Shape) (calm : List ℕ) (low high : ℕ) where
  abbrev c : Setting
  c = setting shape Coupled (Scan low high)

  entry-reached : (rows : List HeldRow) (entry : Entry) → KnowsEntry shape calm rows entry → (kind : Kind)
      × Reached shape calm (entry_base c entry) kind
  entry-reached rows Root k = (Full, root)
  entry-reached rows (Below base kind) k = (kind, below k.reached k.byte k.is_byte k.hangs)

  -- the row that it takes
  taken-reached : (step : ScanStep) (w : Walk) → ((IsOver step → ⊥) → KnowsTree shape calm (at step w)) → (base v to : ℕ) (l : Option Point)
      → scan_turn c (at step w) ≡ Asks (Swap base v to) l → (kind : Kind) × Reached shape calm base kind
  taken-reached (Lock entry true) w k base v to l e = absurd (load-exchange e)
  taken-reached (Lock entry false) w k base v to l e = absurd (load-exchange e)
  taken-reached (Exchange entry u) w k base v to l e =
      let x = entry-reached w.rows entry (k (λ n. n)).step in
      (x.0, subst (λ b. Reached shape calm b x.0) (exchange-word e) x.1)
  taken-reached (Wait entry) w k base v to l e = absurd (load-exchange e)
  taken-reached (Info b kind kept) w k base v to l e = absurd (load-exchange e)
  taken-reached (Keys n) w k base v to l e = absurd (keys-swap n.kind n base v to l e)
  taken-reached (FirstKeys n count) w k base v to l e = absurd (load-exchange e)
  taken-reached (SecondKeys n count first) w k base v to l e = absurd (load-exchange e)
  taken-reached (Index n j i) w k base v to l e = absurd (load-exchange e)
  taken-reached (LoadChild g slot) w k base v to l e = absurd (load-exchange e)
  taken-reached (Release n) w k base v to l e = absurd (store-exchange e)
  taken-reached Over w k base v to l e = absurd (asks-answers (sym e))

pub scans-take-reached : ScansTakeReached
scans-take-reached plan start words schedule p s t claims m low high x step here k h asks is =
    let f = facts plan start words schedule p s t claims m step in
    taken-reached plan.shape (calm_of plan words schedule) low high x.step x.walk k h.base h.kept (locked_word h.kept) asks.mark
    (ap (call_turn (setting plan.shape Coupled (Scan low high))) (sym here.at)
    ∙ its-turn plan.shape s t p words (calm_of plan words schedule) (calm_of plan words (schedule ++ p ∷ [])) f (Scan low high)
    here.process here.is_open
    (Swap h.base h.kept (locked_word h.kept)) asks)
