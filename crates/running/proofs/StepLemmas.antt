-- A step of a process as a thread runs it is a step of the process that it fits.
use Rattle.running.proofs.Common.{◌≡◌, ℕ, zero, suc, ◌+◌, IsTrue, List, [], ◌∷◌, ◌++◌, length, refl, sym, ap, subst, ◌∙◌, arith, Option, Some, None}
use Rattle.running.proofs.Common.{MatchOption, append-nil, length-append, filter_map-append, Call, Reply, Invoke, Answer, Stamped, Access, Turn, Rest}
use Rattle.running.proofs.Common.{Asks, Answers, access_of, reply_of, act, Fits, Idle, Going, Answered, rest_of, FitsDoing, after_access, Process}
use Rattle.running.proofs.Common.{Move, Invokes, Makes, Responds, begun, invoked, move_of, after_move, Setup, View, Numbered, view, open_move}
use Rattle.running.proofs.Common.{next_in, next_of, moved_first, moved_if, advanced, invoking, IsAnswered, Runner, FitsProcess, others_of, IsFirst}
use Rattle.running.proofs.Common.{IsBeside, is_open, Ran, HasReplied}
use Rattle.art.specs.declared.task.Task.{Task}
use Rattle.art.proofs.DoingLemmas.{next-asks, fits-after}
use Rattle.art_core.specs.Accesses.{told}

-- What a call does next.

next-move : (v : View) (n : ℕ) (q : Process) (others : List Numbered) (c : Call) (t : Turn)
    → v.processes ≡ (n, q) ∷ others → q.call ≡ Some c
    → act v.setup.shape v.setup.variant c q.got ≡ t → next_of v ≡ Some (move_of t)
next-move v n q others c t is called does =
    ap (next_in v.setup) is ∙ (ap (open_move v.setup q.got) called ∙ ap (λ z. Some (move_of z)) does)

advanced-is : (v : View) (m : Move) (n : ℕ) (q : Process) (others : List Numbered) → v.processes ≡ (n, q) ∷ others
    → next_of v ≡ Some m → (found : ℕ)
    → advanced v found ≡ view v.setup ((n, after_move n m found q) ∷ others)
advanced-is v m n q others is next found =
    ap (λ o. view v.setup (moved_if o found v.processes)) next ∙ ap (λ xs. view v.setup (moved_first m found xs)) is

-- the first process is now this one, and nothing else differs
module _ (v w : View) (number : ℕ) (old new : Runner) (first : IsFirst v number old) (q : Process)
    (is : w ≡ view v.setup ((number, q) ∷ others_of v)) where
  pub first-now : FitsProcess v.setup (number, q) (number, new) → IsFirst w number new
  first-now fits = subst (λ z. IsFirst z number new) (sym is) (record { process = q; is = refl; fits = fits })

-- The open call of the first process goes on, with room for what its next access gets.
module _ (v : View) (number : ℕ) (r : Runner) (task : Task) (first : IsFirst v number r) (going : r.doing ≡ Going task) where
  abbrev q : Process
  q = first.process

  abbrev setup : Setup
  setup = v.setup

  under_way : FitsDoing setup.shape setup.variant (Going task) q.call q.got
  under_way = subst (λ d. FitsDoing setup.shape setup.variant d q.call q.got) going first.fits.doing

  module _ (rest : Rest) (same : (more : List ℕ) → rest more ≡ rest_of task more) (a : Access) (asks : access_of (rest []) ≡ Some a) where
    abbrev c : Call
    c = under_way.0

    fits : Fits setup.shape setup.variant c q.got rest
    fits = λ more. same more ∙ under_way.2 more

    pub next-access : next_of v ≡ Some (Makes a)
    next-access =
        let found = next-asks setup.shape setup.variant c q.got rest fits a asks in
        next-move v number q (others_of v) c (Asks a found.0) first.is under_way.1 found.1

    module _ (w : View) (n : ℕ) (made : w ≡ advanced v n) where
      moved-view : w ≡ view setup ((number, after_move number (Makes a) n q) ∷ others_of v)
      moved-view = made ∙ advanced-is v (Makes a) number q (others_of v) first.is next-access n

      pub access-first : (later : Task) (o : Option Reply) (new : Runner) → told a n ≡ n → reply_of (rest (n ∷ [])) ≡ o
          → (o ≡ None → (more : List ℕ) → rest_of later more ≡ rest (n ∷ more)) → new.doing ≡ after_access later o
          → new.left ≡ r.left → new.log.items ≡ r.log.items → IsFirst w number new
      access-first later o new tells reply goes is left log =
          first-now v w number r new first (after_move number (Makes a) n q) moved-view (record {
            number = refl;
            doing = subst (λ d. FitsDoing setup.shape setup.variant d q.call (q.got ++ told a n ∷ [])) (sym is)
                (subst (λ call. FitsDoing setup.shape setup.variant (after_access later o) call (q.got ++ told a n ∷ [])) (sym under_way.1)
                (fits-after setup.shape setup.variant c q.got rest fits (told a n) n later o (sym tells) reply goes));
            left = ap (λ k. length (begun q) + k) left ∙ first.fits.left;
            log = first.fits.log ∙ sym log;
          })

-- The response.
module _ (v : View) (number : ℕ) (r : Runner) (reply : Reply) (first : IsFirst v number r) (answered : r.doing ≡ Answered reply) where
  abbrev p : Process
  p = first.process

  known : FitsDoing v.setup.shape v.setup.variant (Answered reply) p.call p.got
  known = subst (λ d. FitsDoing v.setup.shape v.setup.variant d p.call p.got) answered first.fits.doing

  next-response : next_of v ≡ Some (Responds reply)
  next-response = next-move v number p (others_of v) known.0 (Answers reply) first.is known.1 known.2

  pub is-answered : IsAnswered v
  is-answered = (reply, next-response)

  module _ (w : View) (n : ℕ) (made : w ≡ advanced v n) where
    answered-view : w ≡ view v.setup ((number, after_move number (Responds reply) n p) ∷ others_of v)
    answered-view = made ∙ advanced-is v (Responds reply) number p (others_of v) first.is next-response n

    pub response-replied : HasReplied reply w
    response-replied = record {
      number = number;
      process = after_move number (Responds reply) n p;
      others = others_of v;
      is = ap (λ z. z.processes) answered-view;
      idle = refl;
      earlier = p.log;
      stamp = n;
      log = refl;
    }

    pub response-first : (new : Runner) → new.left ≡ r.left → new.log.items ≡ r.log.items ++ (n, Answer number reply) ∷ []
        → new.doing ≡ Idle
        → IsFirst w number new
    response-first new left log idle = first-now v w number r new first (after_move number (Responds reply) n p) answered-view (record {
      number = refl;
      doing = subst (λ d. FitsDoing v.setup.shape v.setup.variant d None []) (sym idle) refl;
      left =
          ap (λ k. k + new.left)
          (ap (λ l. length l) (filter_map-append (λ (e : Stamped). invoked e.1) p.log ((n, Answer number reply) ∷ [])
          ∙ append-nil (begun p)))
          ∙ (ap (λ k. length (begun p) + k) left ∙ first.fits.left);
      log = ap (λ l. l ++ (n, Answer number reply) ∷ []) first.fits.log ∙ sym log;
    })

-- The invocation.
module _ (v : View) (number : ℕ) (r : Runner) (first : IsFirst v number r) (call : Call) (w : View) (n : ℕ)
    (made : w ≡ invoking call v n) where
  abbrev o : Process
  o = first.process

  invoked-view : w ≡ view v.setup ((number, after_move number (Invokes call) n o) ∷ others_of v)
  invoked-view = made ∙ ap (λ xs. view v.setup (moved_first (Invokes call) n xs)) first.is

  pub invoke-first : (new : Runner) (task : Task) → new.left + 1 ≡ r.left → new.log.items ≡ r.log.items ++ (n, Invoke number call) ∷ []
      → new.doing ≡ Going task → ((rest : List ℕ) → rest_of task rest ≡ act v.setup.shape v.setup.variant call rest) → IsFirst w number new
  invoke-first new task left log is goes = first-now v w number r new first (after_move number (Invokes call) n o) invoked-view (record {
    number = refl;
    doing = subst (λ d. FitsDoing v.setup.shape v.setup.variant d (Some call) []) (sym is) (call, refl, goes);
    left =
        let more = ap (λ l. length l) (filter_map-append (λ (e : Stamped). invoked e.1) o.log ((n, Invoke number call) ∷ [])) in
        let long = length-append (begun o) (call ∷ []) in
        let old = first.fits.left in
        omega arith;
    log = ap (λ l. l ++ (n, Invoke number call) ∷ []) first.fits.log ∙ sym log;
  })

-- Steps one after another.

pub ran-more : (n found : ℕ) (v w : View) → Ran n v w → IsTrue (is_open w) → Ran (suc n) v (advanced w found)
ran-more zero found v w r at = (subst (λ z. IsTrue (is_open z)) r at, (found, ap (λ z. advanced z found) r))
ran-more (suc n) found v w r at = (r.0, (r.1.0, ran-more n found (advanced v r.1.0) w r.1.1 at))

pub ran-step : (n m found : ℕ) (v w u : View) → m ≡ suc n → u ≡ advanced w found → Ran n v w → IsTrue (is_open w) → Ran m v u
ran-step n m found v w u e is r at = subst (λ (z : ℕ × View). Ran z.0 v z.1) (λ i. (sym e i, sym is i)) (ran-more n found v w r at)

pub beside-same : (v w : View) → w ≡ v → IsBeside v w
beside-same v w e = record { setup = ap (λ z. z.setup) e; others = ap others_of e }

pub beside-after : (u v w : View) → IsBeside u v → IsBeside v w → IsBeside u w
beside-after u v w a b = record { setup = b.setup ∙ a.setup; others = b.others ∙ a.others }

-- what a step replied
pub told-some : (w : View) (o : Option Reply) (reply : Reply) → o ≡ Some reply → MatchOption o (IsTrue (is_open w)) (λ r. HasReplied r w)
    → HasReplied reply w
told-some w o reply is told = subst (λ z. MatchOption z (IsTrue (is_open w)) (λ r. HasReplied r w)) is told

pub told-none : (w : View) (o : Option Reply) → o ≡ None → MatchOption o (IsTrue (is_open w)) (λ r. HasReplied r w) → IsTrue (is_open w)
told-none w o is told = subst (λ z. MatchOption z (IsTrue (is_open w)) (λ r. HasReplied r w)) is told
