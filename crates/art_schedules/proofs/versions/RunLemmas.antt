-- Every run of a full tree keeps rows and versions sound, and is steady.
use Rattle.art_schedules.proofs.Common.{WritesOwn, ◌≡◌, ◌≢◌, ℕ, ◌+◌, ◌^◌, ◌<◌, ◌≤◌, true, List, [], ◌∷◌, ◌++◌, length, refl, ap, sym, subst, ◌∙◌}
use Rattle.art_schedules.proofs.words.TableLemmas.{kind_at-base_of, row_begins, rows_apart}
use Rattle.art_schedules.proofs.writes.StoreLemmas.{stored-at}
use Rattle.art_schedules.proofs.Common.{arith, slice_get, slice_index, slice_set, Option, Some, None, length-set, length-append, same_Some}
use Rattle.art_schedules.proofs.Common.{none-some, Call, Contents, Shape, Kind, Four, Sixteen, FortyEight, Full, opening, row_words, claims_of}
use Rattle.art_schedules.proofs.Common.{root_base, kind_at, is_locked, child_of, some-words}
use Rattle.art_schedules.proofs.Common.{Variant, Process, Plan, State, move_from, opened, opened_on, step, run_on, StartsOn, start_plan, IsRun}
use Rattle.art_schedules.proofs.Common.{nowhere, all-idle, run-steps, IsSlot, Each, IsNamed, child_rows, IsOpen, IsSettled, IsSound, IsFull}
use Rattle.art_schedules.proofs.Common.{IsSteady}
use Rattle.std.specs.Prelude.{replicate}
use Rattle.std.proofs.lemmas.List.{length-replicate}
use Rattle.art_core.proofs.RunLemmas.{run-on-append}
use Rattle.std.proofs.lemmas.Option.{slice_get_within}
use Rattle.art_rows.specs.Table.{table_words}
use Rattle.art_schedules.proofs.trees.Opening.{only-zeros}
use Rattle.art_core.proofs.HistoryLemmas.{opening-length, run-lengths}
use Rattle.art_schedules.proofs.versions.KeyLemmas.{slot-behind}
use Rattle.art_schedules.proofs.versions.ChangeLemmas.{index-other, good-more}
use Rattle.art_schedules.proofs.versions.MoveLemmas.{true-false, differ, differ-from}
use Rattle.art_schedules.proofs.versions.StepLemmas.{one-step}

pub steady-refl : (variant : Variant) (shape : Shape) (s : State) → IsSteady variant shape s s
steady-refl variant shape s = record {
  claims = λ kind. omega arith;
  settled = λ b k x. x;
  rises = λ b k x. omega arith;
  stands =
      λ b k x e free w low high. refl;
}

pub steady-trans : (variant : Variant) (shape : Shape) (a b c : State) → IsSteady variant shape a b → IsSteady variant shape b c
    → IsSteady variant shape a c
steady-trans variant shape a b c h k = record {
  claims = λ kind. omega (arith, h.claims kind, k.claims kind);
  settled = λ base kind x. k.settled base kind (h.settled base kind x);
  rises = λ base kind x. omega (arith, h.rises base kind x, k.rises base kind (h.settled base kind x));
  stands = λ base kind x e free w low high.
      let between : slice_index b.words base ≡ slice_index a.words base =
      omega (arith, h.rises base kind x, k.rises base kind (h.settled base kind x), e) in
      k.stands base kind (h.settled base kind x) (e ∙ sym between) (ap is_locked between ∙ free) w low high
      ∙ h.stands base kind x between free w low high;
}

pub run-sound : (variant : Variant) → IsFull variant → (plan : Plan) → plan.variant ≡ variant → 1 ≤ plan.shape.rows256
    → (schedule : List ℕ) (n : ℕ) (first s : State)
    → n + length schedule < 2 ^ 62 → IsSound variant plan.shape n first → run_on plan (Some first) schedule ≡ Some s
    → IsSound variant plan.shape (n + length schedule) s × IsSteady variant plan.shape first s
run-sound variant full plan v root [] n first s few h e = (
  subst (λ k. IsSound variant plan.shape k s) (omega arith) (subst (IsSound variant plan.shape n) (same_Some first s e) h),
  subst (IsSteady variant plan.shape first) (same_Some first s e) (steady-refl variant plan.shape first),
)
run-sound variant full plan v root (p ∷ schedule) n first s few h e =
    go (step plan first p) refl e (λ next. run-sound variant full plan v root schedule (n + 1) next s)
  where
    go : (o : Option State) → step plan first p ≡ o → run_on plan o schedule ≡ Some s
        → ((next : State) → n + 1 + length schedule < 2 ^ 62 → IsSound variant plan.shape (n + 1) next
        → run_on plan (Some next) schedule ≡ Some s
        → IsSound variant plan.shape (n + 1 + length schedule) s × IsSteady variant plan.shape next s)
        → IsSound variant plan.shape (n + length (p ∷ schedule)) s × IsSteady variant plan.shape first s
    go None f l later = absurd (nowhere plan schedule s l)
    go (Some next) f l later =
        let one = one-step variant full plan v root n (omega (arith, few)) first h p next f in
        let rest = later next (omega (arith, few)) one.0 l in (
          subst (λ k. IsSound variant plan.shape k s) (omega arith) rest.0,
          steady-trans variant plan.shape first next s one.1 rest.1,
        )

-- The opening state.

long-enough : (n : ℕ) → 4 < n → 4 < length {A = ℕ} (replicate n 0)
long-enough n h = subst (λ m. 4 < m) (sym (length-replicate {A = ℕ} n 0)) h

slot-far : (base : ℕ) (kind : Kind) (word : ℕ) → IsSlot base kind word → base + 2 ≤ word
slot-far base Four word h = omega (arith, h.2)
slot-far base Sixteen word h = omega (arith, h.2)
slot-far base FortyEight word h = omega (arith, h.2)
slot-far base Full word h = omega (arith, h.2)

-- no process is in a call
abbrev pub AllIdle : State → Type 0
AllIdle s = (p : ℕ) (call : Call) (q : Process) → IsOpen s p call q → ⊥

pub idle-idle : (plan : Plan) (words : List ℕ) → AllIdle (opened_on plan words)
idle-idle plan words p call q o = none-some call (sym (ap (λ x. x.call) (all-idle (length plan.scripts) p q o.own)) ∙ o.is_open)

module _ (variant : Variant) (shape : Shape) (some : 1 ≤ shape.rows256) where
  abbrev words : List ℕ
  words = opening shape

  abbrev pub root : ℕ
  root = root_base shape

  pub root-row : kind_at shape root ≡ Some Full
  root-row = kind_at-base_of shape Full 0 some

  root-low : 5 ≤ root
  root-low = row_begins shape root Full root-row

  pub zeros : (x : ℕ) → x ≢ 4 → x ≢ root + 1 → slice_index words x ≡ 0
  zeros x four info =
      index-other (slice_set (replicate (table_words shape) 0) 4 1) (root + 1) 3 x info
      ∙ (index-other (replicate (table_words shape) 0) 4 1 x four ∙ only-zeros (table_words shape) x)

  pub one : slice_index words 4 ≡ 1
  one = index-other (slice_set (replicate (table_words shape) 0) 4 1) (root + 1) 3 4 (differ 4 (root + 1) (omega (arith, root-low)))
      ∙ stored-at (replicate (table_words shape) 0) 4 1 (long-enough (table_words shape) (omega arith))

  opening-claims : (kind : Kind) → slice_index words (claims_of kind) ≤ 1
  opening-claims Full = omega (arith, one)
  opening-claims Four = omega (arith, zeros 1 (λ e. omega (arith, e)) (λ e. omega (arith, e, root-low)))
  opening-claims Sixteen = omega (arith, zeros 2 (λ e. omega (arith, e)) (λ e. omega (arith, e, root-low)))
  opening-claims FortyEight = omega (arith, zeros 3 (λ e. omega (arith, e)) (λ e. omega (arith, e, root-low)))

  behind-root : (base : ℕ) (kind : Kind) → kind_at shape base ≡ Some kind → base ≢ root + 1
  behind-root base kind e same =
      let apart = rows_apart shape base root kind Full (root + 1) e root-row (omega (arith, same)) (omega (arith, same, some-words kind))
      (omega arith) (omega arith) in
      omega (arith, same, apart.0)

  slot-zero : (base : ℕ) (kind : Kind) → kind_at shape base ≡ Some kind → (x : ℕ) → IsSlot base kind x → slice_index words x ≡ 0
  slot-zero base kind e x slot =
      let behind = slot-behind base kind x slot in
      zeros x (differ-from x 4 (omega (arith, behind.0, row_begins shape base kind e))) (no-info behind)
    where
      no-info : (base < x) × (x < base + row_words kind) → x ≢ root + 1
      no-info behind same =
          let apart = rows_apart shape base root kind Full (root + 1) e root-row (omega (arith, behind.0, same))
          (omega (arith, behind.1, same)) (omega arith)
          (omega arith) in
          omega (arith, same, apart.0, slot-far base kind x slot)

  pub opening-sound : (s : State) → s.words ≡ words → AllIdle s → IsSound variant shape 0 s
  opening-sound s is none = record {
    long = ap (λ w. length w) is ∙ opening-length shape;
    versions = λ base kind e. omega (
      arith,
      at base,
      zeros base (differ-from base 4 (omega (arith, row_begins shape base kind e)))
          (behind-root base kind e),
    );
    claims = λ kind. omega (arith, at (claims_of kind), opening-claims kind);
    root = record {
      claimed = record { number = 0; claimed = omega (arith, at 4, one); within = omega (arith, some); is = refl };
      unfilled = λ p call q o. absurd (none p call q o);
    };
    children = λ x base kind e slot. subst (λ v. Each (IsNamed (IsSettled variant shape s)) (child_rows (child_of shape v)))
        (sym (at x ∙ slot-zero base kind e x slot)) tt;
    knows = λ p call q o. absurd (none p call q o);
    held = λ base kind e locked. absurd (differs (at base ∙ zeros base (differ-from base 4 (omega (arith, row_begins shape base kind e)))
        (behind-root base kind e)) locked);
    locked = λ p call q o. absurd (none p call q o);
    distinct = λ p call q o. absurd (none p call q o);
    apart = λ p r call other q w o. absurd (none p call q o);
    filled = λ p call q o. absurd (none p call q o);
    fills_apart = λ p r call other q w o. absurd (none p call q o);
  }
    where
      differs : {v : ℕ} → v ≡ 0 → is_locked v ≡ true → ⊥
      differs e f = true-false f (ap is_locked e)

      at : (x : ℕ) → slice_index s.words x ≡ slice_index words x
      at x = ap (λ w. slice_index w x) is

-- With the clock set back, and no process in a call before or after, all stays sound.
pub reset-sound : (variant : Variant) (shape : Shape) (n : ℕ) (s t : State) → IsSound variant shape n s → AllIdle s
    → t.words ≡ slice_set s.words 0 0 → AllIdle t → IsSound variant shape n t
reset-sound variant shape n s t h before is none = record {
  long = ap (λ w. length w) is ∙ (length-set s.words 0 0 ∙ h.long);
  versions = λ base kind e. omega (arith, at base (omega (arith, row_begins shape base kind e)), h.versions base kind e);
  claims = λ kind. omega (arith, at (claims_of kind) (claims-some kind), h.claims kind);
  root = settled (root_base shape) Full h.root;
  children = λ x base kind e slot. subst (λ v. Each (IsNamed (IsSettled variant shape t)) (child_rows (child_of shape v)))
      (sym (at x (omega (arith, (slot-behind base kind x slot).0))))
      (good-more (IsSettled variant shape s) (IsSettled variant shape t) shape settled x (slice_index s.words x) (h.children x)
      base kind e slot);
  knows = λ p call q o. absurd (none p call q o);
  locked = λ p call q o. absurd (none p call q o);
  held = λ base kind e locked.
      let x = h.held base kind e (ap is_locked (sym (at base (omega (arith, row_begins shape base kind e)))) ∙ locked) in
      absurd (before x.holder x.call x.process x.is_open);
  distinct = λ p call q o. absurd (none p call q o);
  apart = λ p r call other q w o. absurd (none p call q o);
  filled = λ p call q o. absurd (none p call q o);
  fills_apart = λ p r call other q w o. absurd (none p call q o);
}
  where
    claims-some : (kind : Kind) → 0 < claims_of kind
    claims-some Four = omega arith
    claims-some Sixteen = omega arith
    claims-some FortyEight = omega arith
    claims-some Full = omega arith

    at : (x : ℕ) → 0 < x → slice_index t.words x ≡ slice_index s.words x
    at x some = ap (λ w. slice_index w x) is ∙ index-other s.words 0 0 x (differ-from x 0 some)

    settled : (b : ℕ) (k : Kind) → IsSettled variant shape s b k → IsSettled variant shape t b k
    settled b k x = record {
      claimed = record {
        number = x.claimed.number;
        claimed = omega (arith, x.claimed.claimed, at (claims_of k) (claims-some k));
        within =
            x.claimed.within;
        is = x.claimed.is;
      };
      unfilled = λ p call q o. absurd (none p call q o);
    }

-- On words with starting pairs: an earlier run has left them sound.

pub record StartsSound (variant : Variant) (plan : Plan) (words : List ℕ) : Type 0 where
  pub steps : ℕ
  pub few : steps < 2 ^ 61
  pub sound : IsSound variant plan.shape steps (opened_on plan words)

no-call : (plan : Plan) (q : Process) (o : Option Call) → move_from plan 0 q o ≡ None → o ≡ None
no-call plan q None e = refl
no-call plan q (Some call) e = absurd (none-some _ (sym e))

start-idle : (plan : Plan) (start : Contents) (words : List ℕ) (h : StartsOn plan.shape plan.variant start words) → AllIdle h.state
start-idle plan start words h p call q o =
    let first = start_plan plan.shape plan.variant start in
    let alone : length h.state.processes ≡ 1 = (run-lengths first h.inserted.schedule (opened first) h.state h.inserted.gives).1 in
    let its : p ≡ 0 = omega (arith, alone, slice_get_within h.state.processes p q o.own) in
    let same : q ≡ h.process = same_Some q h.process (sym (subst (λ i. slice_get h.state.processes i ≡ Some q) its o.own)
    ∙ h.inserted.is_process) in
    none-some call (sym (ap (λ x. x.call) same ∙ no-call first h.process h.process.call h.all) ∙ o.is_open)

pub start-sound : (variant : Variant) → IsFull variant → (plan : Plan) (start : Contents) (words : List ℕ) → plan.variant ≡ variant
    → 1 ≤ plan.shape.rows256
    → StartsOn plan.shape plan.variant start words → StartsSound variant plan words
start-sound variant full plan start words v root h =
    let first = start_plan plan.shape plan.variant start in
    let steps = run-steps first h.inserted.schedule (opened first) h.state h.inserted.gives in
    let few : length h.inserted.schedule < 2 ^ 61 = omega (arith, steps, h.inserted.few_steps) in
    let sound = (run-sound variant full first v root h.inserted.schedule 0 (opened first) h.state (omega (arith, few))
    (opening-sound variant plan.shape root (opened first) refl (idle-idle first (opening plan.shape))) h.inserted.gives).0 in
    record {
      steps = 0 + length h.inserted.schedule;
      few = omega (arith, few);
      sound = reset-sound variant plan.shape (0 + length h.inserted.schedule) h.state (opened_on plan words) sound
          (start-idle plan start words h) h.leaves (idle-idle plan words);
    }

-- A state that a schedule gives, with the steps that were made up to it.
pub sound-at : (variant : Variant) → IsFull variant → (plan : Plan) (start : Contents) (words schedule : List ℕ) (s : State)
    → IsRun plan start words schedule s → plan.variant ≡ variant
    → (n : ℕ) × (n < 2 ^ 62) × IsSound variant plan.shape n s
sound-at variant full plan start words schedule s run v =
    let first = start-sound variant full plan start words v run.within.shape.root run.starts in
    let steps = run-steps plan schedule (opened_on plan words) s run.gives in
    let few : first.steps + length schedule < 2 ^ 62 = omega (arith, first.few, steps, run.few_steps) in (
      first.steps + length schedule,
      few,
      (run-sound variant full plan v run.within.shape.root schedule first.steps (opened_on plan words) s few first.sound run.gives).0,
    )

-- A run in two parts.

pub later-part : (plan : Plan) (first s t : State) (earlier later : List ℕ) → run_on plan (Some first) earlier ≡ Some s
    → run_on plan (Some first) (earlier ++ later) ≡ Some t → run_on plan (Some s) later ≡ Some t
later-part plan first s t earlier later e k = ap (λ o. run_on plan o later) (sym e)
    ∙ (sym (run-on-append plan (Some first) earlier later) ∙ k)

-- The last step of a run.

last-step : (plan : Plan) (s t : State) (p : ℕ) → run_on plan (Some s) (p ∷ []) ≡ Some t → step plan s p ≡ Some t
last-step plan s t p e = go (step plan s p) e
  where
    go : (o : Option State) → run_on plan o [] ≡ Some t → o ≡ Some t
    go None f = absurd (nowhere plan [] t f)
    go (Some next) f = f

pub written-at : (variant : Variant) → IsFull variant → (plan : Plan) (start : Contents) (words schedule : List ℕ) (p : ℕ) (s t : State)
    → IsRun plan start words (schedule ++ p ∷ []) t → plan.variant ≡ variant → run_on plan (Some (opened_on plan words)) schedule ≡ Some s
    → WritesOwn variant plan.shape s p t
written-at variant full plan start words schedule p s t run v e =
    let first = start-sound variant full plan start words v run.within.shape.root run.starts in
    let steps = run-steps plan (schedule ++ p ∷ []) (opened_on plan words) t run.gives in
    let long = length-append schedule (p ∷ []) in
    let few : first.steps + length schedule < 2 ^ 62 = omega (arith, first.few, steps, run.few_steps, long) in
    let here = (run-sound variant full plan v run.within.shape.root schedule first.steps (opened_on plan words) s few first.sound e).0 in
    let on = later-part plan (opened_on plan words) s t schedule (p ∷ []) e run.gives in
    (one-step variant full plan v run.within.shape.root (first.steps + length schedule) few s here p t (last-step plan s t p on)).2
