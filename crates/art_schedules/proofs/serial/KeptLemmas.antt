-- What stamps and calls that run alone keep, serial schedules keep.
use Rattle.art_schedules.proofs.Common.{◌≡◌, ℕ, suc, ◌+◌, ◌<◌, ◌≤◌, List, [], ◌∷◌, ◌++◌, length, arith, refl, sym, ap, subst, ◌∙◌}
use Rattle.std.proofs.Common.{IsTrue}
use Rattle.art_schedules.proofs.Common.{slice_set, Option, All, IsSomeAnd, AllZip, length-append, All-at, Call, Reply, call_limit, operations}
use Rattle.art_schedules.proofs.Common.{Contents, after_reply, IsLegalReply, IsLegal, after_calls, Shape, clock, Variant, act, is_tree_call, Plan}
use Rattle.art_schedules.proofs.Common.{State, history_of, IsSerial, RunsAlone, ticked, SerialRun, none, more, IsDone, IsRunOn, calls_in}
use Rattle.std.specs.Prelude.{Some, None}
use Rattle.events.proofs.Lists.{All-front, All-back}
use Rattle.events.specs.declared.operation.Operation.{Operation}
use Rattle.events.specs.declared.operation.Response.{Response}
use Rattle.orders.specs.Orders.{IsLegalCall, after_call}
use Rattle.art_schedules.proofs.alone.AloneLemmas.{runs-once}
use Rattle.art_schedules.proofs.serial.SerialScheduleLemmas.{serial-runs-alone}

-- What may be said of how many calls were made so far, of the words, and of the pairs that the map has.
abbrev pub Said : Type 1
Said = ℕ → List ℕ → Contents → Type 0

-- From these words the call may run alone to a legal reply, and it is said of what that leaves.
pub record MayRunAlone (shape : Shape) (variant : Variant) (claim : Said) (n : ℕ) (words : List ℕ) (m : Contents)
    (call : Call) : Type 0 where
  pub last : List ℕ
  pub reply : Reply
  pub runs : RunsAlone (act shape variant call) words last reply
  pub legal : IsLegalReply m call reply
  pub keeps : claim (n + 1) last (after_reply m call reply)

-- Where it is said it stays so: at a stamp, where the clock is set back, and at each call of a tree that runs alone.
pub record IsKept (shape : Shape) (variant : Variant) (claim : Said) : Type 0 where
  pub stamps : (n : ℕ) (words : List ℕ) (m : Contents) → claim n words m → claim n (ticked words) m
  pub resets : (n : ℕ) (words : List ℕ) (m : Contents) → claim n words m → claim n (slice_set words clock 0) m
  pub calls : (n : ℕ) (words : List ℕ) (m : Contents) (call : Call) → IsTrue (is_tree_call call) → n < call_limit → claim n words m
      → MayRunAlone shape variant claim n words m call

-- Lists of calls with their replies.

-- the pairs after them
abbrev pub after_done : Contents → List (Call × Reply) → Contents
after_done m [] = m
after_done m (c ∷ done) = after_done (after_reply m c.0 c.1) done

-- each is legal after those before it
abbrev pub AreLegal : Contents → List (Call × Reply) → Type 0
AreLegal m [] = Unit {0}
AreLegal m (c ∷ done) = IsLegalReply m c.0 c.1 × AreLegal (after_reply m c.0 c.1) done

after-push : (m : Contents) (done : List (Call × Reply)) (c : Call × Reply)
    → after_done m (done ++ c ∷ []) ≡ after_reply (after_done m done) c.0 c.1
after-push m [] c = refl
after-push m (d ∷ done) c = after-push (after_reply m d.0 d.1) done c

legal-push : (m : Contents) (done : List (Call × Reply)) (c : Call × Reply) → AreLegal m done → IsLegalReply (after_done m done) c.0 c.1
    → AreLegal m (done ++ c ∷ [])
legal-push m [] c h k = (k, tt)
legal-push m (d ∷ done) c h k = (h.0, legal-push (after_reply m d.0 d.1) done c h.1 k)

-- the calls of a history that were completed so

after-same : (m : Contents) (a : Operation) (c : Call × Reply) → IsDone a c → after_call m a.call a.response ≡ after_reply m c.0 c.1
after-same m a c h = go a.response h.1
  where
    go : (o : Option Response) → IsSomeAnd o (λ response. response.reply ≡ c.1) → after_call m a.call o ≡ after_reply m c.0 c.1
    go None k = absurd k
    go (Some response) k = ap (λ call. after_reply m call response.reply) h.0 ∙ ap (after_reply m c.0) k

legal-same : (m : Contents) (a : Operation) (c : Call × Reply) → IsDone a c → IsLegalReply m c.0 c.1 → IsLegalCall m a.call a.response
legal-same m a c h legal = go a.response h.1
  where
    go : (o : Option Response) → IsSomeAnd o (λ response. response.reply ≡ c.1) → IsLegalCall m a.call o
    go None k = absurd k
    go (Some response) k = subst (λ call. IsLegalReply m call response.reply) (sym h.0) (subst (IsLegalReply m c.0) (sym k) legal)

all-after : (m : Contents) (calls : List Operation) (done : List (Call × Reply)) → AllZip IsDone calls done
    → after_calls m calls ≡ after_done m done
all-after m [] [] h = refl
all-after m [] (c ∷ done) h = absurd h
all-after m (a ∷ calls) [] h = absurd h
all-after m (a ∷ calls) (c ∷ done) h = ap (λ n. after_calls n calls) (after-same m a c h.0)
    ∙ all-after (after_reply m c.0 c.1) calls done h.1

all-legal : (m : Contents) (calls : List Operation) (done : List (Call × Reply)) → AllZip IsDone calls done
    → AreLegal m done → IsLegal m calls
all-legal m [] [] h legal = tt
all-legal m [] (c ∷ done) h legal = absurd h
all-legal m (a ∷ calls) [] h legal = absurd h
all-legal m (a ∷ calls) (c ∷ done) h legal = (
  legal-same m a c h.0 legal.0,
  subst (λ n. IsLegal n calls) (sym (after-same m a c h.0)) (all-legal (after_reply m c.0 c.1) calls done h.1 legal.1),
)

as-long : (calls : List Operation) (done : List (Call × Reply)) → AllZip IsDone calls done → length calls ≡ length done
as-long [] [] h = refl
as-long [] (c ∷ done) h = absurd h
as-long (a ∷ calls) [] h = absurd h
as-long (a ∷ calls) (c ∷ done) h = ap suc (as-long calls done h.1)

-- Each call of a serial run in turn.

module _ (shape : Shape) (variant : Variant) (claim : Said) (kept : IsKept shape variant claim) (made : ℕ) (first : List ℕ)
    (start : Contents)
    (said : claim made first start) where
  -- what holds of calls that have run alone
  pub record Kept (done : List (Call × Reply)) (words : List ℕ) : Type 0 where
    pub legal : AreLegal start done
    pub is_said : claim (made + length done) words (after_done start done)

  pub run-keeps : (done : List (Call × Reply)) (words : List ℕ) → SerialRun shape variant first done words
      → All (λ call. IsTrue (is_tree_call call.0)) done → made + length done ≤ call_limit → Kept done words
  run-keeps done words none calls few = record { legal = tt; is_said = subst (λ n. claim n first start) (omega arith) said }
  run-keeps done words (more {done = before} {words = earlier} {last = last} call reply run alone) calls few =
      let longer = length-append before ((call, reply) ∷ []) in
      let ih = run-keeps before earlier run (All-front (λ call. IsTrue (is_tree_call call.0)) before ((call, reply) ∷ [])
      calls) (omega arith) in
      let m = after_done start before in
      let tree = All-at (λ call. IsTrue (is_tree_call call.0)) ((call, reply) ∷ []) 0 (call, reply)
      (All-back (λ call. IsTrue (is_tree_call call.0)) before ((call, reply) ∷ []) calls) refl in
      let may = kept.calls (made + length before) (ticked earlier) m call tree (omega arith)
      (kept.stamps (made + length before) earlier m ih.is_said) in
      let same = runs-once may.runs alone in
      let legal : IsLegalReply m call reply = subst (IsLegalReply m call) same.1 may.legal in
      let keeps : claim (made + length before + 1) last (after_reply m call reply) =
      subst (λ r. claim (made + length before + 1) last (after_reply m call r)) same.1
      (subst (λ l. claim (made + length before + 1) l (after_reply m call may.reply)) same.0 may.keeps) in
      record {
        legal = legal-push start before (call, reply) ih.legal legal;
        is_said = subst (λ n. claim n (ticked last) (after_done start (before ++ (call, reply) ∷ []))) (omega (arith, longer))
            (subst (claim (made + length before + 1) (ticked last)) (sym (after-push start before (call, reply)))
            (kept.stamps (made + length before + 1) last (after_reply m call reply) keeps));
      }

-- The history of a serial schedule is legal, and what is said stays so.
pub serial-keeps : (plan : Plan) (first schedule : List ℕ) (s : State) (claim : Said) (made : ℕ) (start : Contents)
    → IsRunOn plan first schedule s
    → IsSerial (history_of s) → made + calls_in plan ≤ call_limit → IsKept plan.shape plan.variant claim → claim made first start
    → IsLegal start (operations (history_of s))
    × claim (made + length (operations (history_of s))) s.words (after_calls start (operations (history_of s)))
serial-keeps plan first schedule s claim made start run serial room kept said =
    let alone = serial-runs-alone plan first schedule s run serial in
    let done = alone.0 in
    let h = alone.1 in
    let k = run-keeps plan.shape plan.variant claim kept made first start said done s.words h.run h.calls
    (let few = h.few in omega arith) in (
      all-legal start (operations (history_of s)) done h.operations k.legal,
      subst (λ n. claim (made + n) s.words (after_calls start (operations (history_of s))))
          (sym (as-long (operations (history_of s)) done h.operations))
          (subst (claim (made + length done) s.words) (sym (all-after start (operations (history_of s)) done h.operations)) k.is_said),
    )
