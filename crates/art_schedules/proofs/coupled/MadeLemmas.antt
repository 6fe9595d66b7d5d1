-- What a step of a run of the coupled tree is: what is known before and after it, and what becomes
-- of the processes.
use Rattle.art_schedules.proofs.Common.{◌≡◌, ◌≢◌, ℕ, ◌+◌, ◌^◌, ◌<◌, List, [], ◌∷◌, ◌++◌, refl, ap, sym, subst, ◌∙◌, inl, slice_get, slice_index}
use Rattle.art_schedules.proofs.serial.OrderlyLemmas.{set-here}
use Rattle.art_schedules.proofs.Common.{slice_set, Option, Some, same_Some, Call, Contents, Shape, Coupled, Access, Point, Asks, act, word_of}
use Rattle.art_schedules.proofs.Common.{setting, call_turn, call_after, call_begun, Process, changed, told, Plan, State, after_move, moved}
use Rattle.art_schedules.proofs.Common.{IsOpen, IsSound, IsSteady, is-moved, move_from, move_of, next_move, stage_of, step}
use Rattle.art_schedules.proofs.versions.ChangeLemmas.{set-other}
use Rattle.art_schedules.proofs.Common.{CalmStep, IsCalm, IsCoupledStep, calm_of}
use Rattle.art_schedules.proofs.versions.StepLemmas.{after-more, next-turn}
use Rattle.art_core.specs.Core.{Makes}
use Rattle.art_schedules.proofs.calm.InductionLemmas.{step-of-run}
use Rattle.art_schedules.proofs.calm.RunLemmas.{calm-at, step-at}

-- what is known of the two states and of calm
pub record Facts (shape : Shape) (s t : State) (p : ℕ) (first calm after : List ℕ) : Type 0 where
  pub count : ℕ
  pub few : count < 2 ^ 62
  pub sound : IsSound Coupled shape count s
  pub behind : IsSound Coupled shape (count + 1) t
  pub steady : IsSteady Coupled shape s t
  pub before : IsCalm Coupled shape first s calm
  pub then : IsCalm Coupled shape first t after
  pub goes : CalmStep Coupled shape s p t calm after

pub facts : (plan : Plan) (start : Contents) (words schedule : List ℕ) (p : ℕ) (s t : State) (claims : ℕ) (m : Contents)
    → IsCoupledStep plan start words schedule p s t claims m
    → Facts plan.shape s t p words (calm_of plan words schedule) (calm_of plan words (schedule ++ p ∷ []))
facts plan start words schedule p s t claims m h =
    let x = step-of-run Coupled (inl refl) plan start words schedule p s t h.run.before h.coupled h.run.made in
    record {
      count = x.count;
      few = x.few;
      sound = x.before;
      behind = x.behind;
      steady = x.steady;
      before = subst (λ v. IsCalm v plan.shape words s (calm_of plan words schedule)) h.coupled
          (calm-at plan start words schedule s h.run.before (inl h.coupled));
      then = subst (λ v. IsCalm v plan.shape words t (calm_of plan words (schedule ++ p ∷ []))) h.coupled
          (calm-at plan start words (schedule ++ p ∷ []) t h.run.behind (inl h.coupled));
      goes = subst (λ v. CalmStep v plan.shape s p t (calm_of plan words schedule) (calm_of plan words (schedule ++ p ∷ []))) h.coupled
          (step-at plan start words schedule p s t h.run.behind (inl h.coupled) h.run.before.gives);
    }

-- the access that an open call made
pub record IsMade (shape : Shape) (s t : State) (p : ℕ) (call : Call) (q : Process) (a : Access) : Type 0 where
  pub process : Process
  pub is_open : IsOpen t p call process
  pub at : stage_of Coupled shape call process ≡ call_after (setting shape Coupled call) (stage_of Coupled shape call q)
      (told a (slice_index s.words (word_of
      a)))
  pub words : t.words ≡ slice_set s.words (word_of a) (changed a (slice_index s.words (word_of a)))

pub made : (plan : Plan) (p : ℕ) (s t : State) (call : Call) (q : Process) (a : Access) (mark : Option Point) → plan.variant ≡ Coupled
    → step plan s p ≡ Some t
    → IsOpen s p call q → call_turn (setting plan.shape Coupled call) (stage_of Coupled plan.shape call q) ≡ Asks a mark
    → IsMade plan.shape s t p call q a
made plan p s t call q a mark coupled e o turn =
    subst (λ u. IsMade plan.shape s u p call q a) (sym is) (record {
      process = after_move p (Makes a) (slice_index s.words (word_of a)) q;
      is_open = record { own = set-here s.processes p q _ o.own; is_open = o.is_open };
      at = after-more (setting plan.shape Coupled call) (call_begun (setting plan.shape Coupled call)) q.got
          (told a (slice_index s.words (word_of a)));
      words = refl;
    })
  where
    move : next_move plan p q ≡ Some (Makes a)
    move =
        ap (move_from plan p q) o.is_open ∙ (ap (λ v. Some (move_of (act plan.shape v call q.got))) coupled
        ∙ ap (λ x. Some (move_of x)) (next-turn Coupled plan.shape call q ∙ turn))

    is : t ≡ moved s p q (Makes a)
    is =
        let m = is-moved plan s p t e in
        let process : m.process ≡ q = same_Some m.process q (sym m.here ∙ o.own) in
        m.is ∙ (ap (λ w. moved s p w m.move) process
        ∙ ap (moved s p q) (same_Some m.move (Makes a) (sym m.is_next ∙ (ap (next_move plan p) process ∙ move))))

-- another call is open still, where it was
pub others-open : (plan : Plan) (p r : ℕ) (s t : State) (call : Call) (q : Process) → step plan s p ≡ Some t → r ≢ p → IsOpen s r call q
    → IsOpen t r call q
others-open plan p r s t call q e apart o =
    let m = is-moved plan s p t e in
    record {
      own = ap (λ u. slice_get u.processes r) m.is ∙ (set-other s.processes p _ r apart ∙ o.own);
      is_open = o.is_open;
    }
