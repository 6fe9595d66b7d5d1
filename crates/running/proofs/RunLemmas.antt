-- What turns of an open call make of a process that is alone in its view.
use Rattle.running.proofs.Common.{◌≡◌, ℕ, zero, suc, ◌+◌, Bool, false, IsTrue, List, [], ◌∷◌, ◌++◌, length, map, refl, ap, subst, ◌∙◌, arith, Option}
use Rattle.running.proofs.Common.{None, is_some, append-nil, length-append, map-append, filter_map-append, Call, Event, Answer, is_invocation}
use Rattle.running.proofs.Common.{ends_waiting, Stamped, Process, Makes, Responds, begun, move_of, after_move, Setup, View, view, open_move}
use Rattle.running.proofs.Common.{moved_first, moved_if, is_open, Ran, alone}
use Rattle.std.specs.Prelude.{Some}
use Rattle.art_rows.specs.Steps.{Turn, Asks, Answers}
use Rattle.art_rows.specs.Act.{act}
use Rattle.art_core.specs.Accesses.{told}
use Rattle.art_core.specs.Core.{invoked}

-- The last event of a list says whether the list ends with an invocation.

ends-last : (waiting : Bool) (es : List Event) (e : Event) → ends_waiting waiting (es ++ e ∷ []) ≡ is_invocation e
ends-last waiting [] e = refl
ends-last waiting (f ∷ es) e = ends-last (is_invocation f) es e

pub ends-logged : (log : List Stamped) (e : Stamped) → ends_waiting false (map (λ x. x.1) (log ++ e ∷ [])) ≡ is_invocation e.1
ends-logged log e =
    ap (ends_waiting false) (map-append (λ (x : Stamped). x.1) log (e ∷ [])) ∙ ends-last false (map (λ (x : Stamped). x.1) log) e.1

-- What this many turns keep, and how many steps they are.
pub record HasRun (n : ℕ) (old new : Process) : Type 0 where
  pub calls : begun new ≡ begun old
  pub steps : new.steps ≡ old.steps + n

-- What this many turns keep, if the call is still open after them, and how many words it got by
-- them.
pub record HasGone (n : ℕ) (old new : Process) : Type 0 where
  pub log : new.log ≡ old.log
  pub got : length new.got ≡ length old.got + n

module _ (setup : Setup) (number : ℕ) where
  open-called : (got : List ℕ) (call : Option Call) → IsTrue (is_some (open_move setup got call)) → IsTrue (is_some call)
  open-called got None h = h
  open-called got (Some call) h = refl

  -- One turn.

  record HasTurned (old : Process) (v : View) : Type 0 where
    new : Process
    is : v ≡ alone setup number new
    run : HasRun 1 old new
    gone : IsTrue (is_some new.call) → HasGone 1 old new

  by-turn : (q : Process) (found : ℕ) (t : Turn) → HasTurned q (view setup (moved_first (move_of t) found ((number, q) ∷ [])))
  by-turn q found (Asks a p) = record {
    new = after_move number (Makes a) found q;
    is = refl;
    run = record { calls = refl; steps = refl };
    gone = λ open_. record { log = refl; got = length-append q.got (told a found ∷ []) };
  }
  by-turn q found (Answers reply) = record {
    new = after_move number (Responds reply) found q;
    is = refl;
    run = record {
      calls = filter_map-append (λ (e : Stamped). invoked e.1) q.log ((found, Answer number reply) ∷ []) ∙ append-nil (begun q);
      steps = refl;
    };
    gone = λ still. cc;
  }

  turned : (q : Process) (found : ℕ) (call : Option Call) → IsTrue (is_some (open_move setup q.got call))
      → HasTurned q (view setup (moved_if (open_move setup q.got call) found ((number, q) ∷ [])))
  turned q found None h = cc
  turned q found (Some call) h = by-turn q found (act setup.shape setup.variant call q.got)

  -- Turns one after another.

  pub record HasTurns (n : ℕ) (old : Process) (v : View) : Type 0 where
    pub new : Process
    pub is : v ≡ alone setup number new
    pub run : HasRun n old new

  pub ran : (n : ℕ) (q : Process) (w : View) → Ran n (alone setup number q) w → HasTurns n q w
  ran zero q w h = record { new = q; is = h; run = record { calls = refl; steps = omega arith } }
  ran (suc n) q w h =
      let one = turned q h.1.0 q.call h.0 in
      let more = ran n one.new w (subst (λ v. Ran n v w) one.is h.1.1) in
      record {
        new = more.new;
        is = more.is;
        run = record {
          calls = more.run.calls ∙ one.run.calls;
          steps = let a = more.run.steps in let b = one.run.steps in omega arith;
        };
      }

  was-open : (n : ℕ) (v w : View) → Ran n v w → IsTrue (is_open w) → IsTrue (is_open v)
  was-open zero v w h still = subst (λ z. IsTrue (is_open z)) h still
  was-open (suc n) v w h still = h.0

  pub record HasOpenTurns (n : ℕ) (old : Process) (v : View) : Type 0 where
    pub new : Process
    pub is : v ≡ alone setup number new
    pub run : HasRun n old new
    pub gone : HasGone n old new

  pub ran-open : (n : ℕ) (q : Process) (w : View) → Ran n (alone setup number q) w → IsTrue (is_open w) → HasOpenTurns n q w
  ran-open zero q w h still = record {
    new = q;
    is = h;
    run = record { calls = refl; steps = omega arith };
    gone = record
        { log = refl; got = omega arith };
  }
  ran-open (suc n) q w h still =
      let one = turned q h.1.0 q.call h.0 in
      let rest = subst (λ v. Ran n v w) one.is h.1.1 in
      let more = ran-open n one.new w rest still in
      let gone = one.gone (open-called one.new.got one.new.call (was-open n (alone setup number one.new) w rest still)) in
      record {
        new = more.new;
        is = more.is;
        run = record {
          calls = more.run.calls ∙ one.run.calls;
          steps = let a = more.run.steps in let b = one.run.steps in omega arith;
        };
        gone = record {
          log = more.gone.log ∙ gone.log;
          got = let a = more.gone.got in let b = gone.got in omega arith;
        };
      }
