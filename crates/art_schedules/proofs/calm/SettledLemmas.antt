-- In every state of a full tree a busy row is settled.
use Rattle.art_schedules.proofs.Common.{◌≡◌, ◌≢◌, ℕ, ◌+◌, ◌^◌, ◌<◌, ◌≤◌, List, [], ◌∷◌, length, refl, ap, sym, subst, ◌∙◌, arith, slice_index}
use Rattle.art_schedules.proofs.words.TableLemmas.{row_begins, rows_apart}
use Rattle.art_schedules.proofs.Common.{slice_set, Option, Some, None, same_Some, Contents, Shape, Full, opening, claims_of, root_base}
use Rattle.art_schedules.proofs.Common.{some-words, Variant, Plan, State, opened, opened_on, step, run_on, start_plan}
use Rattle.art_schedules.proofs.Common.{IsFull, IsRun, IsSound, nowhere, run-steps}
use Rattle.art_schedules.proofs.versions.ChangeLemmas.{index-other}
use Rattle.art_schedules.proofs.versions.MoveLemmas.{true-false}
use Rattle.art_schedules.proofs.versions.RunLemmas.{AllIdle, start-sound}
use Rattle.art_schedules.proofs.versions.StepLemmas.{one-step}
use Rattle.art_schedules.proofs.Common.{is_busy}
use Rattle.art_schedules.proofs.versions.RunLemmas.{idle-idle}
use Rattle.art_rows.proofs.KindLemmas.{claims-some}
use Rattle.art_core.specs.Starts.{StartsOn}
use Rattle.art_schedules.proofs.versions.MoveLemmas.{differ-from}
use Rattle.art_schedules.proofs.versions.RunLemmas.{opening-sound, root-row, zeros}
use Rattle.art_schedules.proofs.calm.ChangeLemmas.{row-change}
use Rattle.art_schedules.proofs.calm.VersionLemmas.{BusySettled, busy-settled-step}

settled-run : (variant : Variant) → IsFull variant → (plan : Plan) → plan.variant ≡ variant → 1 ≤ plan.shape.rows256
    → (schedule : List ℕ) (n : ℕ)
    (first s : State) → n + length schedule < 2 ^ 62 → IsSound variant plan.shape n first → BusySettled variant plan.shape first
    → run_on plan (Some first) schedule ≡ Some s → BusySettled variant plan.shape s
settled-run variant full plan v root [] n first s few h k e = subst (BusySettled variant plan.shape) (same_Some first s e) k
settled-run variant full plan v root (p ∷ schedule) n first s few h k e =
    go (step plan first p) refl e (λ next. settled-run variant full plan v root schedule (n + 1) next s)
  where
    go : (o : Option State) → step plan first p ≡ o → run_on plan o schedule ≡ Some s
        → ((next : State) → n + 1 + length schedule < 2 ^ 62 → IsSound variant plan.shape (n + 1) next → BusySettled variant plan.shape next
        → run_on plan (Some next) schedule ≡ Some s → BusySettled variant plan.shape s) → BusySettled variant plan.shape s
    go None f l later = absurd (nowhere plan schedule s l)
    go (Some next) f l later =
        let made = one-step variant full plan v root n (omega (arith, few)) first h p next f in
        later next (omega (arith, few)) made.0
        (busy-settled-step variant plan.shape n first next p h made.1
        (row-change variant full plan v root n (omega (arith, few)) first h p next f) k) l

-- at the opening no row is busy
opening-settled : (variant : Variant) (shape : Shape) (some : 1 ≤ shape.rows256) (s : State) → s.words ≡ opening shape
    → BusySettled variant shape s
opening-settled variant shape some s is base kind row busy = absurd (true-false busy (ap is_busy zero-version))
  where
    behind : base ≢ root_base shape + 1
    behind same =
        let apart = rows_apart shape base (root_base shape) kind Full (root_base shape + 1) row (root-row variant shape some)
        (omega (arith, same))
        (omega (arith, same, some-words kind)) (omega arith) (omega arith) in
        omega (arith, same, apart.0)

    zero-version : slice_index s.words base ≡ 0
    zero-version = ap (λ w. slice_index w base) is
        ∙ zeros variant shape some base (differ-from base 4 (omega (arith, row_begins shape base kind row))) behind

-- with the clock set back, and no process in a call
reset-settled : (variant : Variant) (shape : Shape) (s t : State) → t.words ≡ slice_set s.words 0 0 → AllIdle t
    → BusySettled variant shape s
    → BusySettled variant shape t
reset-settled variant shape s t is none h base kind row busy =
    let x = h base kind row (ap is_busy (sym (at base (omega (arith, row_begins shape base kind row)))) ∙ busy) in
    record {
      claimed = record {
        number = x.claimed.number;
        claimed = omega (arith, x.claimed.claimed, at (claims_of kind) (claims-some kind));
        within = x.claimed.within;
        is = x.claimed.is;
      };
      unfilled = λ p call q o. absurd (none p call q o);
    }
  where
    at : (x : ℕ) → 0 < x → slice_index t.words x ≡ slice_index s.words x
    at x some = ap (λ w. slice_index w x) is ∙ index-other s.words 0 0 x (differ-from x 0 some)

pub start-settled : (variant : Variant) → IsFull variant → (plan : Plan) (start : Contents) (words : List ℕ) → plan.variant ≡ variant
    → 1 ≤ plan.shape.rows256
    → StartsOn plan.shape plan.variant start words → BusySettled variant plan.shape (opened_on plan words)
start-settled variant full plan start words v root h =
    let first = start_plan plan.shape plan.variant start in
    let steps = run-steps first h.inserted.schedule (opened first) h.state h.inserted.gives in
    let few : 0 + length h.inserted.schedule < 2 ^ 62 = omega (arith, steps, h.inserted.few_steps) in
    reset-settled variant plan.shape h.state (opened_on plan words) h.leaves (idle-idle plan words)
    (settled-run variant full first v root h.inserted.schedule 0 (opened first) h.state few
    (opening-sound variant plan.shape root (opened first) refl (idle-idle first (opening plan.shape)))
    (opening-settled variant plan.shape root (opened first) refl) h.inserted.gives)

pub settled-at : (variant : Variant) → IsFull variant → (plan : Plan) (start : Contents) (words schedule : List ℕ) (s : State)
    → IsRun plan start words schedule s → plan.variant ≡ variant → BusySettled variant plan.shape s
settled-at variant full plan start words schedule s run v =
    let first = start-sound variant full plan start words v run.within.shape.root run.starts in
    let steps = run-steps plan schedule (opened_on plan words) s run.gives in
    let few : first.steps + length schedule < 2 ^ 62 = omega (arith, first.few, steps, run.few_steps) in
    settled-run variant full plan v run.within.shape.root schedule first.steps (opened_on plan words) s few first.sound
    (start-settled variant full plan start words v run.within.shape.root run.starts) run.gives
