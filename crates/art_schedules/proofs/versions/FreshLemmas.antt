-- A row that no claim has reached is written by nobody.
use Rattle.art_schedules.proofs.Common.{◌≡◌, ◌≢◌, ℕ, ◌+◌, ◌^◌, ◌<◌, ◌≤◌, List, [], ◌∷◌, length, refl, ap, sym, subst, ◌∙◌, arith, inl, inr}
use Rattle.art_schedules.proofs.words.TableLemmas.{kind_at-base_of, base_of-once, row_begins, rows_apart}
use Rattle.art_schedules.proofs.Common.{slice_index, slice_set, Option, Some, None, cases_eq, same_Some, Contents, Shape, Kind, Four, Sixteen}
use Rattle.art_schedules.proofs.Common.{FortyEight, Full, opening, rows_of, claims_of, base_of, root_base, kind_at}
use Rattle.art_schedules.proofs.Common.{IsClaimed, Variant, setting, Plan, State, opened, opened_on, step, run_on}
use Rattle.art_schedules.proofs.Common.{StartsOn, start_plan, IsRun, nowhere, run-steps, IsHeld, IsSettled, IsSound, stage_of, IsSteady, MayWrite}
use Rattle.art_schedules.proofs.Common.{WritesOwn, IsFull}
use Rattle.art_schedules.specs.trees.Trees.{AreZeroPastClaims}
use Rattle.art_schedules.proofs.versions.KnownLemmas.{held-is-kept}
use Rattle.art_schedules.proofs.versions.ChangeLemmas.{index-other}
use Rattle.art_schedules.proofs.versions.MoveLemmas.{differ-from}
use Rattle.art_schedules.proofs.versions.StepLemmas.{one-step}
use Rattle.art_schedules.proofs.versions.RunLemmas.{start-sound, idle-idle, opening-sound, zeros, one, root-row}

-- a row that was claimed is not one whose number no claim has reached
unreached : (shape : Shape) (words : List ℕ) (base number : ℕ) (l kind : Kind) → IsClaimed shape words base l
    → base ≡ base_of shape kind number
    → number < rows_of shape kind → slice_index words (claims_of kind) ≤ number → ⊥
unreached shape words base number l kind x e within past =
    let same = base_of-once shape l kind x.number number x.within within (sym x.is ∙ e) in
    omega (arith, x.claimed, same.1, ap (λ k. slice_index words (claims_of k)) same.0, past)

module _ (variant : Variant) (shape : Shape) (n : ℕ) (s : State) (h : IsSound variant shape n s) where
  -- a row that is held was claimed
  held-claimed : (base : ℕ) (x : IsHeld variant shape s base) → IsClaimed shape s.words base x.row.kind
  held-claimed base x = subst (λ b. IsClaimed shape s.words b x.row.kind) x.is
      (held-is-kept (IsSettled variant shape s) (setting shape variant x.call) (stage_of variant shape x.call x.process)
      (h.knows x.holder x.call x.process x.is_open) x.row x.among).1.claimed

fresh-step : (variant : Variant) (shape : Shape) (n m : ℕ) (s later : State) (p : ℕ) → IsSound variant shape n s
    → IsSound variant shape m later
    → IsSteady variant shape s later → WritesOwn variant shape s p later → AreZeroPastClaims shape s.words
    → AreZeroPastClaims shape later.words
fresh-step variant shape n m s later p h k steady own fresh kind number past within word low high =
    elim (cases_eq (slice_index later.words word) (slice_index s.words word)) [
      | inl same ↦ same ∙ fresh kind number before within word low high
      | inr changed ↦ absurd (nobody (own (base_of shape kind number) kind (kind_at-base_of shape kind number within) word
          low high changed))
    ]
  where
    before : slice_index s.words (claims_of kind) ≤ number
    before = omega (arith, steady.claims kind, past)

    nobody : MayWrite variant shape s p later (base_of shape kind number) word → ⊥
    nobody (inl held) = unreached shape s.words (base_of shape kind number) number held.0.row.kind kind
        (held-claimed variant shape n s h (base_of shape kind number) held.0) refl within before
    nobody (inr (inl taken)) = unreached shape later.words (base_of shape kind number) number taken.1.0.row.kind kind
        (held-claimed variant shape m later k (base_of shape kind number) taken.1.0) refl within past
    nobody (inr (inr filled)) = unreached shape s.words (base_of shape kind number) number filled.kind kind
        (h.filled p filled.call filled.process filled.is_open (base_of shape kind number) filled.kind filled.fills) refl within before

fresh-run : (variant : Variant) → IsFull variant → (plan : Plan) → plan.variant ≡ variant → 1 ≤ plan.shape.rows256
    → (schedule : List ℕ) (n : ℕ)
    (first s : State) → n + length schedule < 2 ^ 62 → IsSound variant plan.shape n first → AreZeroPastClaims plan.shape first.words
    → run_on plan (Some first) schedule ≡ Some s → AreZeroPastClaims plan.shape s.words
fresh-run variant full plan v root [] n first s few h k e = subst (λ x. AreZeroPastClaims plan.shape x.words) (same_Some first s e) k
fresh-run variant full plan v root (p ∷ schedule) n first s few h k e =
    go (step plan first p) refl e (λ next. fresh-run variant full plan v root schedule (n + 1) next s)
  where
    go : (o : Option State) → step plan first p ≡ o → run_on plan o schedule ≡ Some s
        → ((next : State) → n + 1 + length schedule < 2 ^ 62 → IsSound variant plan.shape (n + 1) next
        → AreZeroPastClaims plan.shape next.words
        → run_on plan (Some next) schedule ≡ Some s → AreZeroPastClaims plan.shape s.words) → AreZeroPastClaims plan.shape s.words
    go None f l later = absurd (nowhere plan schedule s l)
    go (Some next) f l later =
        let made = one-step variant full plan v root n (omega (arith, few)) first h p next f in
        later next (omega (arith, few)) made.0 (fresh-step variant plan.shape n (n + 1) first next p h made.0 made.1 made.2 k) l

-- at the opening only the root was claimed
opening-fresh : (variant : Variant) (shape : Shape) (some : 1 ≤ shape.rows256) (s : State) → s.words ≡ opening shape
    → AreZeroPastClaims shape s.words
opening-fresh variant shape some s is kind number past within word low high =
    ap (λ w. slice_index w word) is ∙ zeros variant shape some word
    (differ-from word 4 (omega (arith, row_begins shape (base_of shape kind number) kind row, low))) not-root
  where
    row : kind_at shape (base_of shape kind number) ≡ Some kind
    row = kind_at-base_of shape kind number within

    not-root : word ≢ root_base shape + 1
    not-root same =
        let apart = rows_apart shape (base_of shape kind number) (root_base shape) kind Full word row (root-row variant shape some) low high
        (omega (arith, same)) (omega (arith, same)) in
        let its = base_of-once shape kind Full number 0 within some apart.0 in
        let claims = ap (λ k. slice_index s.words (claims_of k)) its.0 in
        let first = ap (λ w. slice_index w 4) is ∙ one variant shape some in
        omega (arith, claims, first, past, its.1)

-- with the clock set back
reset-fresh : (shape : Shape) (s t : State) → t.words ≡ slice_set s.words 0 0 → AreZeroPastClaims shape s.words
    → AreZeroPastClaims shape t.words
reset-fresh shape s t is h kind number past within word low high =
    at word (omega (arith, row_begins shape (base_of shape kind number) kind (kind_at-base_of shape kind number within), low))
    ∙ h kind number (omega (arith, at (claims_of kind) (claims-some kind), past)) within word low high
  where
    claims-some : (kind : Kind) → 0 < claims_of kind
    claims-some Four = omega arith
    claims-some Sixteen = omega arith
    claims-some FortyEight = omega arith
    claims-some Full = omega arith

    at : (x : ℕ) → 0 < x → slice_index t.words x ≡ slice_index s.words x
    at x some = ap (λ w. slice_index w x) is ∙ index-other s.words 0 0 x (differ-from x 0 some)

start-fresh : (variant : Variant) → IsFull variant → (plan : Plan) (start : Contents) (words : List ℕ) → plan.variant ≡ variant
    → 1 ≤ plan.shape.rows256
    → StartsOn plan.shape plan.variant start words → AreZeroPastClaims plan.shape (opened_on plan words).words
start-fresh variant full plan start words v root h =
    let first = start_plan plan.shape plan.variant start in
    let steps = run-steps first h.inserted.schedule (opened first) h.state h.inserted.gives in
    let few : 0 + length h.inserted.schedule < 2 ^ 62 = omega (arith, steps, h.inserted.few_steps) in
    reset-fresh plan.shape h.state (opened_on plan words) h.leaves
    (fresh-run variant full first v root h.inserted.schedule 0 (opened first) h.state few
    (opening-sound variant plan.shape root (opened first) refl (idle-idle first (opening plan.shape)))
    (opening-fresh variant plan.shape root (opened first) refl) h.inserted.gives)

pub fresh-at : (variant : Variant) → IsFull variant → (plan : Plan) (start : Contents) (words schedule : List ℕ) (s : State)
    → IsRun plan start words schedule s → plan.variant ≡ variant → AreZeroPastClaims plan.shape s.words
fresh-at variant full plan start words schedule s run v =
    let first = start-sound variant full plan start words v run.within.shape.root run.starts in
    let steps = run-steps plan schedule (opened_on plan words) s run.gives in
    let few : first.steps + length schedule < 2 ^ 62 = omega (arith, first.few, steps, run.few_steps) in
    fresh-run variant full plan v run.within.shape.root schedule first.steps (opened_on plan words) s few first.sound
    (start-fresh variant full plan start words v run.within.shape.root run.starts) run.gives
