-- How schedules go on.
use Rattle.art_core.proofs.Common.{◌≡◌, ℕ, zero, suc, List, [], ◌∷◌, ◌++◌, length, map, subst, sym, refl, ap, ◌∙◌, slice_get, slice_index}
use Rattle.art_core.proofs.Common.{slice_set, filter_map, replicate, length-set, filter_map-append, Invoke, Answer, Stamped, Shape, opening}
use Rattle.art_core.proofs.Common.{Variant, AllZip, slice_get_within, none-some, same_Some, zip_left, Call, act, Process, Plan, State, Move}
use Rattle.art_core.proofs.Common.{Invokes, Makes, Responds, invoked, moved, word_of_move, after_move, idle, opened, begun, next_in, next_call}
use Rattle.art_core.proofs.Common.{invocation, move_of, move_from, next_move, moved_by, step_of, step, run_on, Gives}
use Rattle.std.proofs.Common.{Option, Some, None}
use Rattle.std.proofs.lemmas.List.{append-nil, length-map}
use Rattle.events.proofs.Lists.{slice_get-append_left, slice_get-middle}
use Rattle.art_core.specs.Laws.{Begins, begun_plan, MayMove}

pub run-on-append : (plan : Plan) (s : Option State) (earlier later : List ℕ)
    → run_on plan s (earlier ++ later) ≡ run_on plan (run_on plan s earlier) later
run-on-append plan None [] [] = refl
run-on-append plan None [] (p ∷ later) = refl
run-on-append plan None (p ∷ earlier) [] = refl
run-on-append plan None (p ∷ earlier) (q ∷ later) = refl
run-on-append plan (Some s) [] later = refl
run-on-append plan (Some s) (p ∷ earlier) later = run-on-append plan (step plan s p) earlier later

-- Longer scripts.

begins-get : (script longer : List Call) (i : ℕ) (call : Call) → Begins script longer → slice_get script i ≡ Some call
    → slice_get longer i ≡ Some call
begins-get script longer i call b h =
    ap (λ l. slice_get l i) b.1 ∙ (slice_get-append_left script b.0 i (slice_get_within script i call h) ∙ h)

module _ (plan longer : Plan) (shape : longer.shape ≡ plan.shape) (variant : longer.variant ≡ plan.variant)
    (zip : AllZip Begins plan.scripts longer.scripts) where
  next-call-longer : (p : ℕ) (q : Process) (call : Call) → next_call plan p q ≡ Some call → next_call longer p q ≡ Some call
  next-call-longer p q call h = go (slice_get plan.scripts p) refl h
    where
      go : (o : Option (List Call)) → slice_get plan.scripts p ≡ o → next_in o (length (begun q)) ≡ Some call
          → next_call longer p q ≡ Some call
      go None e k = absurd (none-some _ k)
      go (Some script) e k =
          let z = zip_left Begins plan.scripts longer.scripts p script zip e in
          ap (λ o. next_in o (length (begun q))) z.1 ∙ begins-get script z.0 (length (begun q)) call z.2 k

  next-move-longer : (p : ℕ) (q : Process) (asked : Option Call) (m : Move) → move_from plan p q asked ≡ Some m
      → move_from longer p q asked ≡ Some m
  next-move-longer p q (Some call) m h =
      ap (λ shape. Some (move_of (act shape longer.variant call q.got))) shape
      ∙ (ap (λ variant. Some (move_of (act plan.shape variant call q.got))) variant ∙ h)
  next-move-longer p q None m h = go (next_call plan p q) refl h
    where
      go : (o : Option Call) → next_call plan p q ≡ o → invocation o ≡ Some m → invocation (next_call longer p q) ≡ Some m
      go None e k = absurd (none-some _ k)
      go (Some call) e k = ap invocation (next-call-longer p q call e) ∙ k

  step-longer : (s : State) (p : ℕ) (s' : State) → step plan s p ≡ Some s' → step longer s p ≡ Some s'
  unfolding step
  step-longer s p s' h = go (slice_get s.processes p) h
    where
      moves : (q : Process) (o : Option Move) → next_move plan p q ≡ o → moved_by s p q o ≡ Some s'
          → moved_by s p q (next_move longer p q) ≡ Some s'
      moves q None e k = absurd (none-some _ k)
      moves q (Some m) e k = ap (moved_by s p q) (next-move-longer p q q.call m e) ∙ k

      go : (o : Option Process) → step_of plan s p o ≡ Some s' → step_of longer s p o ≡ Some s'
      go None k = absurd (none-some _ k)
      go (Some q) k = moves q (next_move plan p q) refl k

  none-stays : (schedule : List ℕ) (s : State) → run_on plan None schedule ≡ Some s → ⊥
  none-stays [] s h = none-some _ h
  none-stays (p ∷ schedule) s h = none-some _ h

  goes-on : (schedule : List ℕ) (s : State) → ((first : State) → run_on plan (Some first) schedule ≡ Some s → run_on longer (Some first)
      schedule ≡ Some s)
      → (first : State) (p : ℕ) (o : Option State) → step plan first p ≡ o → run_on plan o schedule ≡ Some s
      → run_on longer (step longer first p) schedule ≡ Some s
  goes-on schedule s later first p None e k = absurd (none-stays schedule s k)
  goes-on schedule s later first p (Some next) e k = ap (λ o. run_on longer o schedule) (step-longer first p next e) ∙ later next k

  pub run-longer : (first : State) (schedule : List ℕ) (s : State) → Gives plan first schedule s → Gives longer first schedule s
  run-longer first [] s h = h
  run-longer first (p ∷ schedule) s h = goes-on schedule s (λ next k. run-longer next schedule s k) first p (step plan first p) refl h

-- A move is reached with its own call as script.

begins-refl : (xs : List Call) → Begins xs xs
begins-refl xs = ([], sym (append-nil xs))

begins-all : (xss : List (List Call)) → AllZip Begins xss xss
begins-all [] = tt
begins-all (xs ∷ xss) = (begins-refl xs, begins-all xss)

begins-set : (processes : List Process) (p : ℕ) (q q' : Process) → slice_get processes p ≡ Some q → Begins (begun q) (begun q')
    → AllZip Begins (map begun processes) (map begun (slice_set processes p q'))
begins-set [] p q q' e b = absurd (none-some _ e)
begins-set (r ∷ rs) zero q q' e b = (subst (λ r. Begins (begun r) (begun q')) (sym (same_Some _ _ e)) b, begins-all (map begun rs))
begins-set (r ∷ rs) (suc p) q q' e b = (begins-refl (begun r), begins-set rs p q q' e b)

get-set : (processes : List Process) (p : ℕ) (q q' : Process) → slice_get processes p ≡ Some q
    → slice_get (map begun (slice_set processes p q')) p ≡ Some (begun q')
get-set [] p q q' e = absurd (none-some _ e)
get-set (r ∷ rs) zero q q' e = refl
get-set (r ∷ rs) (suc p) q q' e = get-set rs p q q' e

pub begun-more : (q : Process) (e : Stamped) → filter_map (λ x. invoked x.1) (q.log ++ e ∷ []) ≡ begun q ++ filter_map
    (λ x. invoked x.1) (e ∷ [])
begun-more q e = filter_map-append (λ x. invoked x.1) q.log (e ∷ [])

grows : (p n : ℕ) (m : Move) (q : Process) → Begins (begun q) (begun (after_move p m n q))
grows p n (Invokes call) q = (call ∷ [], begun-more q (n, Invoke p call))
grows p n (Makes a) q = begins-refl (begun q)
grows p n (Responds reply) q = ([], begun-more q (n, Answer p reply))

module _ (shape : Shape) (variant : Variant) (s : State) (p : ℕ) (q : Process) (m : Move) (here : slice_get s.processes p ≡ Some q) where
  abbrev pub n : ℕ
  n = slice_index s.words (word_of_move m)

  abbrev pub longer_plan : Plan
  longer_plan = begun_plan shape variant (slice_set s.processes p (after_move p m n q))

  its-call : (call : Call) → m ≡ Invokes call → next_call longer_plan p q ≡ Some call
  its-call call e = ap (λ o. next_in o (length (begun q))) (get-set s.processes p q (after_move p m n q) here)
      ∙ (ap (λ m. slice_get (begun (after_move p m n q)) (length (begun q))) e
      ∙ (ap (λ l. slice_get l (length (begun q))) (begun-more q (n, Invoke p call)) ∙ slice_get-middle (begun q) call []))

  its-move : (o : Option Call) → MayMove shape variant q o m → move_from longer_plan p q o ≡ Some m
  its-move None may = ap invocation (its-call may.0 may.1) ∙ ap Some (sym may.1)
  its-move (Some call) may = ap Some (sym may)

  its-step : MayMove shape variant q q.call m → step longer_plan s p ≡ Some (moved s p q m)
  unfolding step
  its-step may = ap (step_of longer_plan s p) here ∙ ap (moved_by s p q) (its-move q.call may)

  its-opening : opened (begun_plan shape variant s.processes) ≡ opened longer_plan
  its-opening = ap (λ k. record { words = opening shape; processes = replicate k idle })
      (length-map s.processes begun
      ∙ (sym (length-set s.processes p (after_move p m n q)) ∙ sym (length-map (slice_set s.processes p (after_move p m n q)) begun)))

  pub move-reached : (schedule : List ℕ) → Gives (begun_plan shape variant s.processes)
      (opened (begun_plan shape variant s.processes)) schedule s
      → MayMove shape variant q q.call m
      → Gives longer_plan (opened longer_plan) (schedule ++ p ∷ []) (moved s p q m)
  move-reached schedule gives may =
      let longer =
      run-longer (begun_plan shape variant s.processes) longer_plan refl refl
      (begins-set s.processes p q (after_move p m n q) here (grows p n m q))
      (opened (begun_plan shape variant s.processes)) schedule s gives in
      let first = subst (λ f. Gives longer_plan f schedule s) its-opening longer in
      run-on-append longer_plan (Some (opened longer_plan)) schedule (p ∷ [])
      ∙ (ap (λ o. run_on longer_plan o (p ∷ [])) first ∙ ap (λ o. run_on longer_plan o []) (its-step may))
