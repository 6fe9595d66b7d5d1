-- The state of a front after a call is pushed or taken back.
use Rattle.follow_fronts.proofs.Common.{◌≡◌, ℕ, ◌<◌, ◌≤◌, Bool, true, false, List, Some, [], ◌∷◌, ◌++◌, length, take, set, get_or, sym, ap, ◌∙◌, subst}
use Rattle.follow_fronts.proofs.Common.{⊎_elim, arith, ◌⊎◌, slice_get, map-append, take-append-le, take_all, length-map, slice_get_within, Operation}
use Rattle.follow_fronts.proofs.Common.{Contents, after_call, after_calls-push, IsFront, IsNext, IsNext-from_front, IsFront-next, IsFront-front, place-push}
use Rattle.follow_fronts.proofs.Common.{slice_get-append_left, slice_get-middle, pairs_after, places, IsUndone, IsStateBut, Level}
use Rattle.search.specs.Undo.{undone}
use Rattle.search_choices.specs.Standing.{AreMarked}
use Rattle.search_choices.proofs.MarkLemmas.{marked-push, marked-pop}

pub places-push : (levels : List Level) (level : Level) → places (levels ++ level ∷ []) ≡ places levels ++ level.place ∷ []
places-push levels level = map-append (λ (l : Level). l.place) levels (level ∷ [])

length-places : (levels : List Level) → length (places levels) ≡ length levels
length-places levels = length-map levels (λ (l : Level). l.place)

-- a front whose parts are equal to these is in the same state
pub stands-same : (start : Contents) (calls : List Operation) (levels l : List Level) (pairs m : Contents) (taken t : List Bool) (low : ℕ)
    → l ≡ levels → m ≡ pairs → t ≡ taken → IsStateBut start calls levels pairs taken low → IsStateBut start calls l m t low
stands-same start calls levels l pairs m taken t low l_is m_is t_is s =
    subst (λ x. IsStateBut start calls x m t low) (sym l_is)
    (subst (λ x. IsStateBut start calls levels x t low) (sym m_is)
    (subst (λ x. IsStateBut start calls levels pairs x low) (sym t_is) s))

-- a front is in the same state from equal pairs, and above an equal place
pub stands-as : (calls : List Operation) (start s : Contents) (levels l : List Level) (pairs m : Contents) (taken t : List Bool) (low k : ℕ)
    → s ≡ start → l ≡ levels → m ≡ pairs → t ≡ taken → k ≡ low → IsStateBut start calls levels pairs taken low → IsStateBut s calls l m t k
stands-as calls start s levels l pairs m taken t low k s_is l_is m_is t_is k_is h =
    subst (λ x. IsStateBut x calls l m t k) (sym s_is)
    (subst (λ x. IsStateBut start calls l m t x) (sym k_is)
    (stands-same start calls levels l pairs m taken t low l_is m_is t_is h))

module _ (start : Contents) (calls : List Operation) where
  -- ---- one call more

  module _ (levels : List Level) (pairs : Contents) (taken : List Bool) (low : ℕ) (s : IsStateBut start calls levels pairs taken low)
      (level : Level) (next : IsNext start calls (places levels) level.place) (after_pairs : Contents)
      (after_is : after_pairs ≡ after_call pairs next.call.call next.call.response) (undo_is : undone after_pairs level.undo ≡ pairs)
      (low_after : ℕ) (low_within : low_after ≤ length (set taken level.place true))
      (low_below : (k : ℕ) → k < low_after → (k < low) ⊎ (get_or (set taken level.place true) k false ≡ true)) where
    path_is : places (levels ++ level ∷ []) ≡ places levels ++ level.place ∷ []
    path_is = places-push levels level

    pairs_is : after_pairs ≡ pairs_after start calls (places levels ++ level.place ∷ [])
    pairs_is = after_is ∙ ap (λ m. after_call m next.call.call next.call.response) s.holds
        ∙ sym (after_calls-push start calls (places levels) level.place next.call next.here)

    within_path : (i : ℕ) → i ≤ length (places levels) → take i (places levels ++ level.place ∷ []) ≡ take i (places levels)
    within_path i le = take-append-le i (places levels) (level.place ∷ []) le

    undoes_pushed : (i : ℕ) (l : Level) → slice_get (levels ++ level ∷ []) i ≡ Some l
        → IsUndone start calls (take i (places levels ++ level.place ∷ [])) l
    undoes_pushed i l is = ⊎_elim
        (λ old.
        let le : i ≤ length (places levels) = omega (arith, slice_get_within levels i l old, length-places levels) in
        subst (λ p. IsUndone start calls p l) (sym (within_path i le)) (s.undoes i l old))
        (λ pushed.
        let whole : take i (places levels ++ level.place ∷ []) ≡ places levels =
        within_path i (omega (arith, pushed.0, length-places levels))
        ∙ take_all i (places levels) (omega (arith, pushed.0, length-places levels)) in
        subst (λ p. IsUndone start calls p l) (sym whole)
        (subst (IsUndone start calls (places levels)) (sym pushed.1)
        (ap (λ m. undone m level.undo) (sym pairs_is) ∙ undo_is ∙ s.holds)))
        (place-push levels level i l is)

    pub stands-push : IsStateBut start calls (levels ++ level ∷ []) after_pairs (set taken level.place true) low_after
    stands-push = record {
      is_front = subst (IsFront start calls) (sym path_is) (IsFront-next start calls (places levels) level.place s.is_front next);
      holds = pairs_is ∙ ap (pairs_after start calls) (sym path_is);
      undoes = λ i l is. subst (λ p. IsUndone start calls (take i p) l) (sym path_is) (undoes_pushed i l is);
      marked = subst (λ p. AreMarked (length calls) p (set taken level.place true) low_after) (sym path_is)
          (marked-push (length calls) (places levels) taken low level.place low_after s.marked
          (slice_get_within calls level.place next.call next.here)
          low_within low_below);
    }

  -- ---- one call fewer

  module _ (levels : List Level) (level : Level) (pairs : Contents) (taken : List Bool) (low : ℕ)
      (s : IsStateBut start calls (levels ++ level ∷ []) pairs taken low) where
    whole_is : places (levels ++ level ∷ []) ≡ places levels ++ level.place ∷ []
    whole_is = places-push levels level

    whole : IsFront start calls (places levels ++ level.place ∷ [])
    whole = subst (IsFront start calls) whole_is s.is_front

    last : IsNext start calls (places levels) level.place
    last = IsNext-from_front start calls (places levels) level.place [] whole

    pub below-popped : level.place < length calls
    below-popped = slice_get_within calls level.place last.call last.here

    cut : (i : ℕ) → i ≤ length (places levels) → take i (places (levels ++ level ∷ [])) ≡ take i (places levels)
    cut i le = ap (take i) whole_is ∙ take-append-le i (places levels) (level.place ∷ []) le

    undone_last : IsUndone start calls (places levels) level
    undone_last =
        let le : length levels ≤ length (places levels) = omega (arith, length-places levels) in
        let ge : length (places levels) ≤ length levels = omega (arith, length-places levels) in
        subst (λ p. IsUndone start calls p level) (cut (length levels) le ∙ take_all (length levels) (places levels) ge)
        (s.undoes (length levels) level (slice_get-middle levels level []))

    pub stands-pop : (restored : Contents) (low_after : ℕ) → restored ≡ undone pairs level.undo → low_after ≤ low → low_after ≤ level.place
        → IsStateBut start calls levels restored (set taken level.place false) low_after
    stands-pop restored low_after restored_is le not_above = record {
      is_front = IsFront-front start calls (places levels) (level.place ∷ []) whole;
      holds = restored_is ∙ ap (λ m. undone m level.undo) (s.holds ∙ ap (pairs_after start calls) whole_is) ∙ undone_last;
      undoes = λ i l is.
          let within = slice_get_within levels i l is in
          subst (λ p. IsUndone start calls p l) (cut i (omega (arith, within, length-places levels)))
          (s.undoes i l (slice_get-append_left levels (level ∷ []) i within ∙ is));
      marked = marked-pop (length calls) (places levels) taken low level.place low_after
          (subst (λ p. AreMarked (length calls) p taken low) whole_is s.marked) below-popped last.new le not_above;
    }
