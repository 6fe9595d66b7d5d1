-- Starting words: each insert is answered.
use Rattle.art_core.proofs.Common.{◌≡◌, ℕ, ◌+◌, ◌≤◌, cond, arith, refl, sym, subst, ap, ◌∙◌, List, [], ◌∷◌, ◌++◌, length, inl, inr, Option, Some}
use Rattle.art_core.proofs.Common.{None, is_some, slice_get, slice_index, filter_map, length-append, filter_map-append, same_Some, none-some}
use Rattle.art_core.proofs.Common.{slice_get_within, Call, Invoke, Answer, Stamped, Turn, Asks, Answers, act, Process, Plan, State, Move}
use Rattle.art_core.proofs.Common.{Invokes, step, next_in, next_call, next_move, move_from, move_of, invocation, word_of_move, after_move, begun}
use Rattle.art_core.proofs.Common.{invoked, answered}
use Rattle.art_core.specs.Core.{finished}
use Rattle.art_core.proofs.HistoryLemmas.{is-moved, changed-at}

module _ (plan : Plan) where
  -- all calls that a process has begun are finished but the open one, and they are no more than its
  -- script has
  pub record IsCounted (p : ℕ) (q : Process) : Type 0 where
    pub counts : length (begun q) ≡ length (finished q) + cond (is_some q.call) 1 0
    pub within : (script : List Call) → slice_get plan.scripts p ≡ Some script → length (begun q) ≤ length script

  begun-with : (q : Process) (e : Stamped)
      → length (filter_map (λ x. invoked x.1) (q.log ++ e ∷ [])) ≡ length (begun q) + length (filter_map (λ x. invoked x.1) (e ∷ []))
  begun-with q e = ap (λ l. length l) (filter_map-append (λ x. invoked x.1) q.log (e ∷ []))
      ∙ length-append (begun q) (filter_map (λ x. invoked x.1) (e ∷ []))

  finished-with : (q : Process) (e : Stamped)
      → length (filter_map (λ x. answered x.1) (q.log ++ e ∷ [])) ≡ length (finished q) + length (filter_map (λ x. answered x.1) (e ∷ []))
  finished-with q e = ap (λ l. length l) (filter_map-append (λ x. answered x.1) q.log (e ∷ []))
      ∙ length-append (finished q) (filter_map (λ x. answered x.1) (e ∷ []))

  module _ (p n : ℕ) (q : Process) (h : IsCounted p q) where
    begins : (call : Call) → q.call ≡ None → next_call plan p q ≡ Some call → IsCounted p (after_move p (Invokes call) n q)
    begins call is next = record {
      counts = begun-with q (n, Invoke p call)
          ∙ (ap (λ k. k + 1) (h.counts ∙ ap (λ o. length (finished q) + cond (is_some o) 1 0) is)
          ∙ omega (arith, finished-with q (n, Invoke p call)));
      within = λ script at.
          let here = slice_get_within script (length (begun q)) call (sym (ap (λ o. next_in o (length (begun q))) at) ∙ next) in
          omega (arith, here, begun-with q (n, Invoke p call));
    }

    ends : (call : Call) (m : Move) → q.call ≡ Some call → (t : Turn) → move_of t ≡ m → IsCounted p (after_move p m n q)
    ends call m is (Asks a point) e = subst (λ m. IsCounted p (after_move p m n q)) e (record { counts = h.counts; within = h.within })
    ends call m is (Answers reply) e = subst (λ m. IsCounted p (after_move p m n q)) e (record {
      counts = begun-with q (n, Answer p reply)
          ∙ (ap (λ k. k + 0) (h.counts ∙ ap (λ o. length (finished q) + cond (is_some o) 1 0) is)
          ∙ omega (arith, finished-with q (n, Answer p reply)));
      within = λ script at. let old = h.within script at in omega (arith, old, begun-with q (n, Answer p reply));
    })

    counted-move : (m : Move) → next_move plan p q ≡ Some m → IsCounted p (after_move p m n q)
    counted-move m next = go q.call refl next
      where
        call-of : (is : q.call ≡ None) (o : Option Call) → next_call plan p q ≡ o → invocation o ≡ Some m → IsCounted p (after_move p m n q)
        call-of is None e k = absurd (none-some m k)
        call-of is (Some call) e k = subst (λ m. IsCounted p (after_move p m n q)) (same_Some (Invokes call) m k) (begins call is e)

        go : (o : Option Call) → q.call ≡ o → move_from plan p q o ≡ Some m → IsCounted p (after_move p m n q)
        go None is k = call-of is (next_call plan p q) refl k
        go (Some call) is k = ends call m is (act plan.shape plan.variant call q.got)
            (same_Some (move_of (act plan.shape plan.variant call q.got)) m k)

  abbrev pub are_counted : State → Type 0
  are_counted s = (i : ℕ) (q : Process) → slice_get s.processes i ≡ Some q → IsCounted i q

  pub counted-step : (s : State) (p : ℕ) (next : State) → step plan s p ≡ Some next → are_counted s → are_counted next
  counted-step s p next e h i q at =
      let m = is-moved plan s p next e in
      let n = slice_index s.words (word_of_move m.move) in
      elim (changed-at s.processes p (after_move p m.move n m.process) i q (sym (ap (λ t. slice_get t.processes i) m.is) ∙ at)) [
        | inl t ↦ subst (λ j. IsCounted j q) (sym t.0)
            (subst (λ q. IsCounted p q) (sym t.1) (counted-move p n m.process (h p m.process m.here) m.move m.is_next))
        | inr t ↦ h i q t.1
      ]
