-- The views' side of a step: each process stays in one view, which shows it as it is.
use Rattle.running.proofs.Common.{◌≡◌, ℕ, zero, suc, ◌+◌, ◌-◌, ◌<◌, ◌≤◌, ◌≢◌, inl, inr, ⊎_elim, List, [], ◌∷◌, ◌++◌, length, set, sym, refl, ap}
use Rattle.running.proofs.Common.{subst, ◌∙◌, arith, sum_by, Option, Some, slice_get, slice_set, slice_get_within, none-some, sum_by_push, at_set}
use Rattle.running.proofs.Common.{at_snoc, Call, Process, Setup, Noted, Numbered, view, noted, IsIn, times, times_in, Rises, IsGiven, AreReached}
use Rattle.running.proofs.Common.{kept_part, given_part, both_parts, no_part}
use mathlib.Core.Option.{some}
use lib.ListN.{get_elem?}
use Rattle.running.proofs.NumberedLemmas.{times-hit, has-times, has-take, has-drop, times-cut, rises-take, rises-drop, times-merge, has-merge}
use Rattle.running.proofs.NumberedLemmas.{rises-merge}
use Rattle.running.proofs.CountLemmas.{sum-set, sum-one, sum-two}

get-set : {A : Type 0} (xs : List A) (p : ℕ) (x y : A) → slice_get xs p ≡ Some y → slice_get (slice_set xs p x) p ≡ Some x
get-set [] p x y h = absurd (none-some y h)
get-set (z ∷ zs) zero x y h = refl
get-set (z ∷ zs) (suc p) x y h = get-set zs p x y h

get-set-other : {A : Type 0} (xs : List A) (p i : ℕ) (x : A) → i ≢ p → slice_get (slice_set xs p x) i ≡ slice_get xs i
get-set-other [] p i x n = refl
get-set-other (z ∷ zs) zero zero x n = absurd (n refl)
get-set-other (z ∷ zs) zero (suc i) x n = refl
get-set-other (z ∷ zs) (suc p) zero x n = refl
get-set-other (z ∷ zs) (suc p) (suc i) x n = get-set-other zs p i x (λ e. n (ap suc e))

module _ (setup : Setup) (words : List ℕ) (views : List Noted) (r : AreReached setup words views) (id : ℕ) (v : Noted)
    (at : get_elem? views id ≡ some v) where
  -- each process of a view is one of the core's, with a known number
  pub shown-below : (p : ℕ) (q : Process) → IsIn (p, q) v.view.processes → p < setup.processes
  shown-below p q h = let within = slice_get_within r.processes p q (r.shows id v at p q h).1 in let many = r.given.many in omega arith

  -- the processes of the core are the same under another note
  pub reached-noted : (asked : Option Call) → AreReached setup words (set views id (noted v.view asked))
  reached-noted asked =
      let w : Noted = noted v.view asked in
      let old : (j : ℕ) (u : Noted) → get_elem? (set views id w) j ≡ some u → (k : ℕ) × (o : Noted) × (get_elem? views k ≡ some o)
      × (o.view ≡ u.view) =
      λ j u e. ⊎_elim (λ t. (id, v, at, ap (λ z. z.view) t.1)) (λ t. (j, u, t.1, refl)) (at_set views id j w u e) in
      record {
        processes = r.processes;
        given = r.given;
        shows = λ j u e p q h. let o = old j u e in
            subst (λ z. (z.setup ≡ setup) × (slice_get r.processes p ≡ Some q)) o.3
            (r.shows o.0 o.1 o.2 p q (subst (λ z. IsIn (p, q) z.processes) (sym o.3) h));
        once = λ p lt. let t = sum-set (times_in p) views id v w at in let one = r.once p lt in omega arith;
        rising = λ j u e. let o = old j u e in subst (λ z. Rises z.processes) o.3 (r.rising o.0 o.1 o.2);
      }

  -- a place cut in two
  pub reached-split : AreReached setup words (set views id (kept_part v) ++ given_part v ∷ [])
  reached-split =
      let i = length v.view.processes - 1 in
      let l = v.view.processes in
      let kept = kept_part v in
      let given = given_part v in
      record {
        processes = r.processes;
        given = r.given;
        shows = λ j u e p q h. ⊎_elim
            (λ a. ⊎_elim
            (λ t. let s = r.shows id v at p q (has-take i l (p, q) (subst (λ z. IsIn (p, q) z.view.processes) (sym t.1) h)) in
            (ap (λ z. z.view.setup) (sym t.1) ∙ s.0, s.1))
            (λ t. r.shows j u t.1 p q h) (at_set views id j kept u a))
            (λ a. let s = r.shows id v at p q (has-drop i l (p, q) (subst (λ z. IsIn (p, q) z.view.processes) (sym a) h)) in
            (ap (λ z. z.view.setup) (sym a) ∙ s.0, s.1))
            (at_snoc (set views id kept) given u j e);
        once = λ p lt.
            let t = sum-set (times_in p) views id v kept at in
            let t' = sum_by_push (times_in p) (set views id kept) given in
            let c = times-cut i l p in
            let one = r.once p lt in
            omega arith;
        rising = λ j u e. ⊎_elim
            (λ a. ⊎_elim (λ t. subst (λ z. Rises z.view.processes) t.1 (rises-take i l (r.rising id v at)))
            (λ t. r.rising j u t.1) (at_set views id j kept u a))
            (λ a. subst (λ z. Rises z.view.processes) a (rises-drop i l (r.rising id v at)))
            (at_snoc (set views id kept) given u j e);
      }

  -- a place that takes another in
  pub reached-join : (other : ℕ) (u : Noted) → v.view.setup ≡ setup → other ≢ id → get_elem? (set views id (both_parts v u)) other ≡ some u
      → AreReached setup words (set (set views id (both_parts v u)) other no_part)
  reached-join other u same apart there =
      let both = both_parts v u in
      let l = v.view.processes in
      let m = u.view.processes in
      let theirs : get_elem? views other ≡ some u = ⊎_elim (λ t. absurd (apart t.0)) (λ t. t.1) (at_set views id other both u there) in
      record {
        processes = r.processes;
        given = r.given;
        shows = λ j y e p q h. ⊎_elim
            (λ t. let none : IsIn (p, q) [] = subst (λ z. IsIn (p, q) z.view.processes) (sym t.1) h in absurd none)
            (λ t. ⊎_elim
            (λ t'. (
              ap (λ z. z.view.setup) (sym t'.1) ∙ same,
              ⊎_elim (λ a. (r.shows id v at p q a).1) (λ b. (r.shows other u theirs p q b).1)
                  (has-merge (p, q) l m (subst (λ z. IsIn (p, q) z.view.processes) (sym t'.1) h)),
            ))
            (λ t'. r.shows j y t'.1 p q h) (at_set views id j both y t.1))
            (at_set (set views id both) other j no_part y e);
        once = λ p lt.
            let t = sum-set (times_in p) views id v both at in
            let t' = sum-set (times_in p) (set views id both) other u no_part there in
            let c = times-merge p l m in
            let one = r.once p lt in
            omega arith;
        rising = λ j y e. ⊎_elim
            (λ t. subst (λ z. Rises z.view.processes) t.1 tt)
            (λ t. ⊎_elim
            (λ t'. subst (λ z. Rises z.view.processes) t'.1 (rises-merge l m (r.rising id v at) (once-in-both theirs)))
            (λ t'. r.rising j y t'.1) (at_set views id j both y t.1))
            (at_set (set views id both) other j no_part y e);
      }
    where
      once-in-both : get_elem? views other ≡ some u → (p : ℕ) (q : Process) → IsIn (p, q) u.view.processes
          → times p v.view.processes + times p u.view.processes ≤ 1
      once-in-both theirs p q h =
          let s = (r.shows other u theirs p q h).1 in
          let below = slice_get_within r.processes p q s in
          let many = r.given.many in
          let one = r.once p (omega arith) in
          let two = sum-two (times_in p) views id other v u (λ e. apart (sym e)) at theirs in
          omega arith

-- a step of the first process of a view
module _ (setup : Setup) (words new_words : List ℕ) (views : List Noted) (r : AreReached setup words views) (id : ℕ)
    (asked later : Option Call)
    (p : ℕ) (q q' : Process) (rest : List Numbered) (at : get_elem? views id ≡ some (noted (view setup ((p, q) ∷ rest)) asked)) where
  abbrev old : Noted
  old = noted (view setup ((p, q) ∷ rest)) asked

  abbrev new : Noted
  new = noted (view setup ((p, q') ∷ rest)) later

  pub first-there : slice_get r.processes p ≡ Some q
  first-there = (r.shows id old at p q (inl refl)).1

  alone : sum_by (times_in p) views ≡ 1
  alone = r.once p (shown-below setup words views r id old at p q (inl refl))

  twice : (i : ℕ) (x : Process) → IsIn (i, x) rest → i ≡ p → ⊥
  twice i x t is =
      let all = sum-one (times_in p) views id old at in
      let one = times-hit p (p, q) rest refl in
      let a = alone in
      let more : 1 ≤ times p rest = subst (λ z. 1 ≤ times z rest) is (has-times i x rest t) in
      omega arith

  elsewhere : (j : ℕ) (u : Noted) (i : ℕ) (x : Process) → IsIn (i, x) u.view.processes → j ≢ id → get_elem? views j ≡ some u → i ≡ p → ⊥
  elsewhere j u i x h ne there is =
      let both = sum-two (times_in p) views id j old u (λ y. ne (sym y)) at there in
      let one = times-hit p (p, q) rest refl in
      let a = alone in
      let more : 1 ≤ times p u.view.processes = subst (λ z. 1 ≤ times z u.view.processes) is (has-times i x u.view.processes h) in
      omega arith

  shows-new : (i : ℕ) (x : Process) → IsIn (i, x) ((p, q') ∷ rest) → slice_get (slice_set r.processes p q') i ≡ Some x
  shows-new i x h = ⊎_elim
      (λ y. ap (λ z. slice_get (slice_set r.processes p q') z) (ap (λ (z : Numbered). z.0) y)
      ∙ (get-set r.processes p q' q first-there ∙ ap Some (sym (ap (λ (z : Numbered). z.1) y))))
      (λ t. get-set-other r.processes p i q' (twice i x t) ∙ (r.shows id old at i x (inr t)).1)
      h

  pub reached-step : IsGiven setup new_words (slice_set r.processes p q') → AreReached setup new_words (set views id new)
  reached-step given = record {
    processes = slice_set r.processes p q';
    given = given;
    shows = λ j u e i x h. ⊎_elim
        (λ t. (ap (λ z. z.view.setup) (sym t.1), shows-new i x (subst (λ z. IsIn (i, x) z.view.processes) (sym t.1) h)))
        (λ t. let s = r.shows j u t.1 i x h in (s.0, get-set-other r.processes p i q' (elsewhere j u i x h t.0 t.1) ∙ s.1))
        (at_set views id j new u e);
    once = λ i lt. let t = sum-set (times_in i) views id old new at in let one = r.once i lt in omega arith;
    rising = λ j u e. ⊎_elim (λ t. subst (λ z. Rises z.view.processes) t.1 (r.rising id old at)) (λ t. r.rising j u t.1)
        (at_set views id j new u e);
  }
