-- One process between its calls, and within one.
use Rattle.running.proofs.Common.{◌≡◌, ℕ, ◌+◌, ◌*◌, ◌<◌, ◌≤◌, inr, true, false, IsTrue, List, [], ◌∷◌, ◌++◌, length, map, take, refl, sym, ap, subst}
use Rattle.running.proofs.Common.{◌∙◌, arith, None, slice_index_or, take_more, length-append, filter_map-append, Call, Reply, Invoke, Answer}
use Rattle.running.proofs.Common.{ends_waiting, Stamped, Process, Invokes, begun, idle, after_move, Setup, View, Numbered, invoking, is_open, Ran}
use Rattle.running.proofs.Common.{HasReplied, HasInvoked, alone, DoesCall, DoesCalls, is_pending, HasAnsweredAll, ShowsDone}
use Rattle.std.specs.Prelude.{Some}
use Rattle.art_core.specs.Core.{invoked}
use Rattle.running.proofs.RunLemmas.{ends-logged, ran, ran-open}

-- one call more is one limit more
mul-more : (a n : ℕ) → a * (n + 1) ≡ a * n + a
mul-more a n = omega arith

abbrev process_in : Process → List Numbered → Process
process_in d [] = d
process_in d (x ∷ xs) = x.1

-- the calls up to one at a place
pub take-next : (script : List Call) (i : ℕ) (call : Call) → i < length script → call ≡ slice_index_or script i call
    → take (i + 1) script ≡ take i script ++ call ∷ []
take-next script i call within is = take_more script i call within ∙ ap (λ y. take i script ++ y ∷ []) (sym is)

module _ (setup : Setup) (number limit : ℕ) where
  -- calls that are done, and then one more
  DoesCalls-push : (calls : List Call) (call : Call) (first before last : Process) → DoesCalls setup number limit calls first before
      → DoesCall setup number limit call before last → DoesCalls setup number limit (calls ++ call ∷ []) first last
  DoesCalls-push [] call first before last h next = (last, subst (λ q. DoesCall setup number limit call q last) h next, refl)
  DoesCalls-push (c ∷ calls) call first before last h next = (h.0, h.1, DoesCalls-push calls call h.0 before last h.2 next)

  -- The process is alone, has begun and finished these calls, and made no more steps than it may.
  pub record IsBetween (calls : List Call) (v : View) : Type 0 where
    pub process : Process
    pub shown : v ≡ alone setup number process
    pub none : process.call ≡ None
    pub answered : HasAnsweredAll calls process
    pub each : DoesCalls setup number limit calls idle process
    pub steps : process.steps ≤ (limit + 1) * length calls

  -- The process is alone, and has begun one call more, of which it made no access.
  pub record IsWithin (calls : List Call) (call : Call) (v : View) : Type 0 where
    pub process : Process
    pub shown : v ≡ alone setup number process
    pub called : process.call ≡ Some call
    pub got : process.got ≡ []
    pub begins_with : begun process ≡ calls ++ call ∷ []
    pub pending : is_pending process ≡ true
    pub before : Process
    pub none : before.call ≡ None
    pub each : DoesCalls setup number limit calls idle before
    pub invoked : HasInvoked call (alone setup number before) (alone setup number process)
    pub steps : process.steps ≤ (limit + 1) * length calls + 1

  module _ (calls : List Call) (v : View) (h : IsBetween calls v) where
    pub begins : (call : Call) (w : View) → HasInvoked call v w → IsWithin calls call w
    begins call w made =
        let shown : w ≡ alone setup number (after_move number (Invokes call) made.stamp h.process) =
        made.is ∙ ap (λ z. invoking call z made.stamp) h.shown in record {
          process = after_move number (Invokes call) made.stamp h.process;
          shown = shown;
          before = h.process;
          none = h.none;
          each = h.each;
          invoked = subst (λ z. HasInvoked call z (alone setup number (after_move number (Invokes call) made.stamp h.process))) h.shown
              (subst (λ z. HasInvoked call v z) shown made);
          called = refl;
          got = refl;
          begins_with =
              filter_map-append (λ (e : Stamped). invoked e.1) h.process.log ((made.stamp, Invoke number call) ∷ [])
              ∙ ap (λ l. l ++ call ∷ []) h.answered.calls;
          pending = ends-logged h.process.log (made.stamp, Invoke number call);
          steps = let s = h.steps in omega arith;
        }

  module _ (calls : List Call) (call : Call) (v : View) (h : IsWithin calls call v) where
    long : length (calls ++ call ∷ []) ≡ length calls + 1
    long = length-append calls (call ∷ [])

    more : (limit + 1) * length (calls ++ call ∷ []) ≡ (limit + 1) * length calls + (limit + 1)
    more = ap (λ n. (limit + 1) * n) long ∙ mul-more (limit + 1) (length calls)

    -- the call is done
    done-in : (n : ℕ) (w : View) (new : Process) → n ≤ limit → Ran n v w → w ≡ alone setup number new
        → DoesCalls setup number limit (calls ++ call ∷ []) idle new
    done-in n w new few made is =
        DoesCalls-push calls call idle h.before new h.each (record {
          none = h.none;
          invoking = h.process;
          invoked = h.invoked;
          made = n;
          few = few;
          ran = subst (λ z. Ran n (alone setup number h.process) z) is (subst (λ z. Ran n z w) h.shown made);
        })

    pub answers : (n : ℕ) (w : View) (reply : Reply) → n ≤ limit → Ran n v w → HasReplied reply w → IsBetween (calls ++ call ∷ []) w
    answers n w reply few made replied =
        let after = ran setup number n h.process w (subst (λ z. Ran n z w) h.shown made) in
        let same : replied.process ≡ after.new = sym (ap (process_in idle) replied.is) ∙ ap (λ z. process_in idle z.processes) after.is in
        record {
          process = after.new;
          shown = after.is;
          none = sym (ap (λ q. q.call) same) ∙ replied.idle;
          answered = record {
            calls = after.run.calls ∙ h.begins_with;
            completed = sym (ap is_pending same) ∙ (ap (λ l. ends_waiting false (map (λ e. e.1) l)) replied.log
                ∙ ends-logged replied.earlier (replied.stamp, Answer replied.number reply));
          };
          each = done-in n w after.new few made after.is;
          steps = let m = more in let s = h.steps in let r = after.run.steps in omega arith;
        }

    pub stops : (w : View) (script rest : List Call) → Ran limit v w → IsTrue (is_open w) → (calls ++ call ∷ []) ++ rest ≡ script
        → ShowsDone setup number limit script w
    stops w script rest made still all =
        let after = ran-open setup number limit h.process w (subst (λ z. Ran limit z w) h.shown made) still in
        record {
          process = after.new;
          is = ap (λ z. z.processes) after.is;
          done = record {
            ended = inr (record {
              rest = rest;
              calls = ap (λ l. l ++ rest) (after.run.calls ∙ h.begins_with) ∙ all;
              pending = ap (λ l. ends_waiting false (map (λ e. e.1) l)) after.gone.log ∙ h.pending;
            });
            limited = record {
              each = subst (λ l. DoesCalls setup number limit l idle after.new) (sym (after.run.calls ∙ h.begins_with))
                  (done-in limit w after.new (omega arith) made after.is);
              steps = subst (λ l. after.new.steps ≤ (limit + 1) * length l) (sym (after.run.calls ∙ h.begins_with))
                  (let m = more in let s = h.steps in let r = after.run.steps in omega arith);
              pending = λ called. let g = after.gone.got in let none = ap length h.got in omega arith;
            };
          };
        }
