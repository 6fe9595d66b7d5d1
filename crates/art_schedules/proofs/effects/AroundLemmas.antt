-- What is known around a step of a run: before and after it, and of the rows of other processes.
use Rattle.art_schedules.proofs.Common.{◌≡◌, ◌≢◌, ℕ, ◌+◌, ◌^◌, ◌<◌, ◌≤◌, List, [], ◌∷◌, ◌++◌, refl, ap, sym, ◌∙◌, inl, inr, slice_get}
use Rattle.art_schedules.proofs.serial.OrderlyLemmas.{set-here}
use Rattle.art_schedules.proofs.Common.{slice_index, Option, Some, cases_eq, same_Some, Contents, Call, Shape, kind_at, Variant, Access, Point}
use Rattle.art_schedules.proofs.Common.{Turn, Asks, locks, word_of, HeldRow, setting, call_turn, call_after, call_begun, Process, told, got_by}
use Rattle.art_schedules.proofs.Common.{words_after, Plan, State, Move, after_move, moved, move_of, move_from, is-moved}
use Rattle.art_schedules.proofs.Common.{AreZeroPastClaims, IsKept, IsAmong, IsOpen, IsSettled, IsSound, stage_of, held_by, IsSteady, SameWords}
use Rattle.art_schedules.proofs.Common.{IsFull, WritesOwn}
use Rattle.art_schedules.proofs.versions.ChangeLemmas.{set-other}
use Rattle.art_schedules.proofs.versions.FreshLemmas.{fresh-at}
use Rattle.art_schedules.proofs.versions.KnownLemmas.{held-is-kept}
use Rattle.art_schedules.proofs.versions.MoveLemmas.{settled-row}
use Rattle.art_schedules.proofs.versions.RunLemmas.{written-at}
use Rattle.art_schedules.proofs.versions.StepLemmas.{after-more, next-turn}
use Rattle.art_schedules.proofs.Common.{calm_of, IsCalm, CalmStep}
use Rattle.std.specs.Prelude.{◌⊎◌}
use Rattle.art_core.specs.Core.{Makes}
use Rattle.art_core.proofs.HistoryLemmas.{IsMoved}
use Rattle.art_schedules.specs.versions.Writers.{IsHeldBy, IsTakenBy, IsFilledBy}
use Rattle.art_schedules.specs.calm.Changes.{IsRunStep}
use Rattle.art_schedules.proofs.calm.InductionLemmas.{step-of-run}
use Rattle.art_schedules.proofs.calm.RunLemmas.{calm-at, step-at}

pub record Around (plan : Plan) (p : ℕ) (s t : State) (calm after : List ℕ) : Type 0 where
  pub full : IsFull plan.variant
  pub root : 1 ≤ plan.shape.rows256
  pub first : List ℕ
  pub count : ℕ
  pub few : count < 2 ^ 62
  pub before : IsSound plan.variant plan.shape count s
  pub behind : IsSound plan.variant plan.shape (count + 1) t
  pub steady : IsSteady plan.variant plan.shape s t
  pub calm_before : IsCalm plan.variant plan.shape first s calm
  pub calm_after_step : IsCalm plan.variant plan.shape first t after
  pub changes : CalmStep plan.variant plan.shape s p t calm after
  pub written : WritesOwn plan.variant plan.shape s p t
  pub zero : AreZeroPastClaims plan.shape s.words
  pub move : IsMoved plan s p t

pub around : (plan : Plan) (start : Contents) (words schedule : List ℕ) (p : ℕ) (s t : State) → IsRunStep plan start words schedule p s t
    → Around plan p s t (calm_of plan words schedule) (calm_of plan words (schedule ++ p ∷ []))
around plan start words schedule p s t l =
    let made = step-of-run plan.variant l.full plan start words schedule p s t l.before refl l.made in
    record {
      full = l.full;
      root = l.behind.within.shape.root;
      first = words;
      count = made.count;
      few = made.few;
      before = made.before;
      behind = made.behind;
      steady = made.steady;
      calm_before = calm-at plan start words schedule s l.before l.full;
      calm_after_step = calm-at plan start words (schedule ++ p ∷ []) t l.behind l.full;
      changes = step-at plan start words schedule p s t l.behind l.full l.before.gives;
      written = written-at plan.variant l.full plan start words schedule p s t l.behind refl l.before.gives;
      zero = fresh-at plan.variant l.full plan start words schedule s l.before refl;
      move = is-moved plan s p t l.made;
    }

-- the process that steps makes the access that it asks for
pub record OwnAccess (plan : Plan) (p : ℕ) (s t : State) (call : Call) (q : Process) (a : Access) : Type 0 where
  pub process : Process
  pub is_open : IsOpen t p call process
  pub at : stage_of plan.variant plan.shape call process
      ≡ call_after (setting plan.shape plan.variant call) (stage_of plan.variant plan.shape call q) (got_by a s.words)
  pub words : t.words ≡ words_after a s.words

pub own-access : (plan : Plan) (p : ℕ) (s t : State) → IsMoved plan s p t → (call : Call) (q : Process) → IsOpen s p call q → (a : Access)
    (mark : Option Point) → call_turn (setting plan.shape plan.variant call) (stage_of plan.variant plan.shape call q) ≡ Asks a mark
    → OwnAccess plan p s t call q a
own-access plan p s t m call q o a mark turn = record {
  process = after_move p (Makes a) (slice_index s.words (word_of a)) q;
  is_open = record {
    own = ap (λ (u : State). slice_get u.processes p) is
        ∙ set-here s.processes p q (after_move p (Makes a) (slice_index s.words (word_of a)) q) o.own;
    is_open = o.is_open;
  };
  at = after-more (setting plan.shape plan.variant call) (call_begun (setting plan.shape plan.variant call)) q.got
      (told a (slice_index s.words (word_of a)));
  words = ap (λ (u : State). u.words) is;
}
  where
    same : m.process ≡ q
    same = same_Some m.process q (sym m.here ∙ o.own)

    moves : move_from plan p q q.call ≡ Some m.move
    moves = ap (λ (w : Process). move_from plan p w w.call) (sym same) ∙ m.is_next

    asked : ◌≡◌ {A = Option Move} (Some (Makes a)) (Some m.move)
    asked = ap (λ (t : Turn). Some (move_of t)) (sym (next-turn plan.variant plan.shape call q ∙ turn))
        ∙ (ap (move_from plan p q) (sym o.is_open) ∙ moves)

    is : t ≡ moved s p q (Makes a)
    is = m.is ∙ (ap (λ w. moved s p w m.move) same ∙ ap (moved s p q) (sym (same_Some (Makes a) m.move asked)))

-- a process that does not step is in the same call at the same stage
pub other-open : (plan : Plan) (p : ℕ) (s t : State) → IsMoved plan s p t → (r : ℕ) → r ≢ p → (call : Call) (w : Process)
    → IsOpen s r call w
    → IsOpen t r call w
other-open plan p s t m r ne call w o = record {
  own = ap (λ (u : State). slice_get u.processes r) m.is
      ∙ (set-other s.processes p (after_move p m.move _ m.process) r ne ∙ o.own);
  is_open = o.is_open;
}

module _ (plan : Plan) (p : ℕ) (s t : State) (calm after : List ℕ) (x : Around plan p s t calm after) (r : ℕ) (ne : r ≢ p)
    (call : Call) (w : Process)
    (o : IsOpen s r call w) (h : HeldRow) (among : IsAmong h (held_by plan.variant plan.shape call w)) where
  abbrev variant : Variant
  variant = plan.variant

  abbrev shape : Shape
  shape = plan.shape

  then-open : IsOpen t r call w
  then-open = other-open plan p s t x.move r ne call w o

  kept : IsKept (locks variant) (IsSettled variant shape s) h
  kept = held-is-kept (IsSettled variant shape s) (setting shape variant call) (stage_of variant shape call w)
      (x.before.knows r call w o) h among

  pub others-row : kind_at shape h.base ≡ Some h.kind
  others-row = settled-row variant shape s h.base h.kind kept.1

  -- the words of a row that another process holds stay
  pub others-stay : SameWords s.words t.words h.base h.kind
  others-stay word low high = elim (cases_eq (slice_index t.words word) (slice_index s.words word)) [
    | inl e ↦ e
    | inr d ↦ absurd (go (x.written h.base h.kind others-row word low high d))
  ]
    where
      go : IsHeldBy variant shape s p h.base ⊎ ((word ≡ h.base) × IsTakenBy variant shape s p t h.base)
          ⊎ IsFilledBy variant shape s p h.base → ⊥
      go (inl (y, is)) = ne
          (x.before.apart r y.holder call y.call w y.process o y.is_open h y.row among y.among (sym y.is) ∙ is)
      go (inr (inl (e, taken))) = ne
          (x.behind.apart r taken.0.holder call taken.0.call w taken.0.process then-open taken.0.is_open h taken.0.row among
          taken.0.among (sym taken.0.is)
          ∙ taken.1)
      go (inr (inr f)) = kept.1.unfilled p f.call f.process f.is_open h.base f.kind f.fills refl

  -- calm's words of a row that another process holds stay
  pub others-calm : SameWords calm after h.base h.kind
  others-calm = x.changes.held h.base h.kind others-row
      (record { holder = r; call = call; process = w; is_open = then-open; row = h; among = among; is = refl })
