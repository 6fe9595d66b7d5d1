-- What a scan knows of the calm tree stays so, whatever other calls do.
use Rattle.art_schedules.proofs.Common.{◌≡◌, ℕ, ◌+◌, ◌*◌, ◌<◌, List, [], ◌∷◌, refl, sym, ap, ◌∙◌, subst, inl, arith, slice_index, Option}
use Rattle.art_schedules.proofs.alone.LikeLemmas.{sits}
use Rattle.art_schedules.proofs.alone.PlaceLemmas.{sits-kind_at}
use Rattle.art_schedules.proofs.alone.SlotLemmas.{row-keys, slot-same}
use Rattle.art_schedules.proofs.inserts.OutcomeLemmas.{child-same}
use Rattle.art_schedules.proofs.Common.{Contents, Shape, Kind, Four, Sixteen, FortyEight, Full, index_at, HeldRow, KeyWords, Frame, Entry, ScanStep}
use Rattle.art_schedules.proofs.Common.{FirstKeys, SecondKeys, Index, LoadChild, Release, Reached, IsAtRest, SameRow}
use Rattle.art_schedules.proofs.Common.{Each, IsAmong, Effect, IsGoneBy, ComesInBy, Follows, IsWalked}
use Rattle.art_schedules.proofs.Common.{ReadsWalked, KnowsWords, KnowsFrame, KnowsEntry, KnowsStep, StaysAt}
use Rattle.art_control_states.specs.declared.stage.Entry.TheVariants.{Root, Below}
use Rattle.art_control_states.specs.declared.stage.ScanStep.TheVariants.{Lock, Exchange, Wait, Info, Keys, Over}
use Rattle.art_schedules.specs.coupled.Scanning.{ScansKeepTrees}

module _ (shape : Shape) (claims n : ℕ) (calm after : List ℕ) (pairs : Contents) (effect : Option Effect)
    (rest : IsAtRest shape claims calm)
    (follows : Follows shape n calm after pairs (IsGoneBy effect) (ComesInBy effect)) (rows : List HeldRow)
    (still : (h : HeldRow) → IsAmong h rows → StaysAt shape calm after effect h.base) where
  -- a row of the calm tree that stays
  reached-still : (base : ℕ) (kind : Kind) → Reached shape calm base kind → StaysAt shape calm after effect base
      → SameRow calm after base kind × Reached shape after base kind
  reached-still base kind r stays =
      let x = stays kind (sits-kind_at shape base kind (sits shape claims calm rest r)) in
      (x.0, (follows.rows base kind).1 (inl (r, x.1)))

  walked-still : (r : HeldRow) → IsWalked r rows → Reached shape calm r.base r.kind → SameRow calm after r.base r.kind
      × Reached shape after r.base r.kind
  walked-still r (row, among, same) reached =
      reached-still r.base r.kind reached (subst (StaysAt shape calm after effect) same (still row among))

  words-still : (kind : Kind) (base : ℕ) (keys : KeyWords) (index : ℕ) → SameRow calm after base kind → index < 32
      → KnowsWords kind calm base keys index
      → KnowsWords kind after base keys index
  words-still Four base keys index row small k = k ∙ sym (row 2 (omega arith) (omega arith))
  words-still Sixteen base keys index row small k = (
    k.0 ∙ sym (row 4 (omega arith) (omega arith)),
    k.1 ∙ sym (row 2 (omega arith) (omega arith)),
    k.2 ∙ sym (row 3 (omega arith) (omega arith)),
  )
  words-still FortyEight base keys index row small k =
      let is : index_at base (8 * index) ≡ base + (2 + index) = omega arith in
      k ∙ (ap (slice_index calm) is ∙ (sym (row (2 + index) (omega arith) (omega (arith, small))) ∙ ap (slice_index after) (sym is)))
  words-still Full base keys index row small k = tt

  frame-still : (f : Frame) → IsWalked f.row rows → KnowsFrame shape calm f → KnowsFrame shape after f
  frame-still f walked k =
      let x = walked-still f.row walked k.reached in
      record { reached = x.1; words = words-still f.row.kind f.row.base f.keys f.index x.0 k.few k.words; fits = k.fits; few = k.few }

  way-still : (way : List Frame) → Each (λ f. IsWalked f.row rows) way → Each (KnowsFrame shape calm) way
      → Each (KnowsFrame shape after) way
  way-still [] walked k = tt
  way-still (f ∷ way) walked k = (frame-still f walked.0 k.0, way-still way walked.1 k.1)

  entry-still : (entry : Entry) → KnowsEntry shape calm rows entry → KnowsEntry shape after rows entry
  entry-still Root k = tt
  entry-still (Below base kind) k =
      let x = walked-still k.row k.walked k.reached in
      record {
        row = k.row;
        walked = k.walked;
        reached = x.1;
        byte = k.byte;
        is_byte = k.is_byte;
        hangs = child-same shape calm after k.row.base k.row.kind k.byte k.is_byte x.0 ∙ k.hangs;
      }

  step-still : (step : ScanStep) → ReadsWalked step rows
      → ((base : ℕ) (kind : Kind) (kept : ℕ) → step ≡ Info base kind kept → StaysAt shape calm after effect base)
      → KnowsStep shape calm rows step → KnowsStep shape after rows step
  step-still (Lock entry first) reads info k = entry-still entry k
  step-still (Exchange entry v) reads info k = entry-still entry k
  step-still (Wait entry) reads info k = absurd k
  step-still (Info base kind kept) reads info k = (reached-still base kind k (info base kind kept refl)).1
  step-still (Keys r) reads info k = (walked-still r reads k).1
  step-still (FirstKeys r count) reads info (k, is, a) =
      let x = walked-still r reads k in
      let row = subst (λ kind. SameRow calm after r.base kind) is x.0 in
      (x.1, is, a ∙ sym (row 4 (omega arith) (omega arith)))
  step-still (SecondKeys r count first) reads info (k, is, a, b) =
      let x = walked-still r reads k in
      let row = subst (λ kind. SameRow calm after r.base kind) is x.0 in
      (x.1, is, a ∙ sym (row 4 (omega arith) (omega arith)), b ∙ sym (row 2 (omega arith) (omega arith)))
  step-still (Index r j m) reads info (k, is, small) = ((walked-still r reads k).1, is, small)
  step-still (LoadChild f slot) reads info (k, (x, small, is)) =
      let row = walked-still f.row reads k.reached in (
        frame-still f reads k,
        (
          x,
          small,
          slot-same calm after f.row.base f.row.kind x small (row-keys calm after f.row.base
              f.row.kind row.0) ∙ is,
        ),
      )
  step-still (Release r) reads info k = tt
  step-still Over reads info k = tt

pub scans-keep-trees : ScansKeepTrees
scans-keep-trees shape low high claims n calm after pairs effect x rest follows reads still info k = record {
  step = step-still shape claims n calm after pairs effect rest follows x.walk.rows still x.step reads.0 info k.step;
  way = way-still shape claims n calm after pairs effect rest follows x.walk.rows still x.walk.way reads.1 k.way;
}
