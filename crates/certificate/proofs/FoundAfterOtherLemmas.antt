-- A replace answered `other`, then a get answered `found`: the recording is linearizable, the history is not over the lossy map.
use Rattle.certificate.proofs.Common.{◌≡◌, ℕ, zero, suc, ◌+◌, ◌<◌, Bool, true, false, cond, List, [], ◌∷◌, inr, refl, sym, subst, ⊎_elim, ◌==◌, arith}
use Rattle.certificate.proofs.Common.{◌≢◌, All, AllPairs, Contains, slice_get, range_with_len, cases_Bool, false≢true, All-nil, All-cons}
use Rattle.certificate.proofs.Common.{All-contains, AllPairs-cons, length-range_with_len, get_or-range_with_len, Get, Replace, Operation, operations}
use Rattle.certificate.proofs.Common.{precedes, after, IsLegalReply, calls_at, IsOrder, IsCompletedAt, AllPairs-nil, Contains-first, Contains-later}
use Rattle.certificate.proofs.Common.{Contains-range, AreRelatedAs, AllPairs-from_filter_map, IsStrictlyIncreasing-range, left, IsLossyLegal}
use Rattle.certificate.proofs.Common.{IsLossyOrder, PutsWithin, CallBelow, ResponseBelow, IsHistory, IsCompletedAt-below, rising_unique}
use Rattle.certificate.specs.FoundAfterOther.{found_after_other, recorded_found_after_other, FoundAfterOtherIsMissed}
use Rattle.certificate.proofs.CacheTurnLemmas.{have_recordings}
use Rattle.events.specs.declared.event.Reply.TheVariants as replies

abbrev calls : List Operation
calls = operations found_after_other.events

abbrev recorded : List Operation
recorded = operations recorded_found_after_other.events

three : (P : ℕ → Type 0) → P 0 → P 1 → P 2 → (n : ℕ) → n < 3 → P n
three P zeroth first second zero h = zeroth
three P zeroth first second (suc zero) h = first
three P zeroth first second (suc (suc zero)) h = second
three P zeroth first second (suc (suc (suc n))) h = absurd (omega arith)

each : {X : Type 0} (P : X → Type 0) (x y z : X) → P x → P y → P z → All P (x ∷ y ∷ z ∷ [])
each P x y z first second third = All-cons P x (y ∷ z ∷ []) first (All-cons P y (z ∷ []) second (All-cons P z [] third (All-nil P)))

is_history : IsHistory found_after_other
is_history = record {
  start = record { rising = AllPairs-nil (λ (a : ℕ × ℕ) (b : ℕ × ℕ). a.0 < b.0); few = omega arith };
  events = record {
    shaped = refl;
    small = refl;
    calls = omega arith;
    well_formed = λ p. ⊎_elim (λ yes. rw yes refl) (λ no. rw no refl) (cases_Bool (0 == p));
  };
}

is_recording : IsHistory recorded_found_after_other
is_recording = record {
  start = record { rising = AllPairs-nil (λ (a : ℕ × ℕ) (b : ℕ × ℕ). a.0 < b.0); few = omega arith };
  events = record {
    shaped = refl;
    small = refl;
    calls = omega arith;
    well_formed = λ p. ⊎_elim (λ yes. rw yes refl) (λ no. rw no refl) (cases_Bool (0 == p));
  };
}

-- the recorded calls have an order
is_order : IsOrder [] recorded (0 ∷ 1 ∷ 2 ∷ [])
is_order = record {
  legal_order = record {
    known = each (λ n. n < 3) 0 1 2 (omega arith) (omega arith) (omega arith);
    distinct = pairs (λ m n. m ≢ n) 0 1 2 (λ e. absurd (omega arith)) (λ e. absurd (omega arith)) (λ e. absurd (omega arith));
    precedence = pairs (λ (a b : Operation). precedes b a ≡ false) _ _ _ refl refl refl;
    legal = (inr tt, (inr tt, (inr refl, tt)));
  };
  complete = λ n h. three (λ n. Contains (0 ∷ 1 ∷ 2 ∷ []) n) (Contains-first 0 (1 ∷ 2 ∷ []))
      (Contains-later 0 (1 ∷ 2 ∷ []) 1 (Contains-first 1 (2 ∷ [])))
      (Contains-later 0 (1 ∷ 2 ∷ []) 2 (Contains-later 1 (2 ∷ []) 2 (Contains-first 2 []))) n (IsCompletedAt-below recorded n h);
}
  where
    pairs : {X : Type 0} (R : X → X → Type 0) (x y z : X) → R x y → R x z → R y z → AllPairs R (x ∷ y ∷ z ∷ [])
    pairs R x y z first second third =
        AllPairs-cons R x (y ∷ z ∷ []) (All-cons (R x) y (z ∷ []) first (All-cons (R x) z [] second (All-nil (R x))))
        (AllPairs-cons R y (z ∷ []) (All-cons (R y) z [] third (All-nil (R y))) (AllPairs-cons R z [] (All-nil (R z)) (AllPairs-nil R)))

-- the numbers of an order of the calls rise, since each call is answered before the next one begins
abbrev Follows : ℕ → ℕ → Type 0
Follows = AreRelatedAs (λ (a b : Operation). precedes b a ≡ false) (slice_get calls)

rises : (x y : ℕ) → x < 3 → y < 3 → x ≢ y → Follows x y → x < y
rises zero zero x_in y_in differ follows = absurd (differ refl)
rises zero (suc y) x_in y_in differ follows = omega arith
rises (suc zero) zero x_in y_in differ follows = absurd (false≢true (sym (follows _ _ refl refl)))
rises (suc zero) (suc zero) x_in y_in differ follows = absurd (differ refl)
rises (suc zero) (suc (suc y)) x_in y_in differ follows = omega arith
rises (suc (suc zero)) zero x_in y_in differ follows = absurd (false≢true (sym (follows _ _ refl refl)))
rises (suc (suc zero)) (suc zero) x_in y_in differ follows = absurd (false≢true (sym (follows _ _ refl refl)))
rises (suc (suc zero)) (suc (suc zero)) x_in y_in differ follows = absurd (differ refl)
rises (suc (suc zero)) (suc (suc (suc y))) x_in y_in differ follows = absurd (omega arith)
rises (suc (suc (suc x))) y x_in y_in differ follows = absurd (omega arith)

completed : (n : ℕ) → n < 3 → IsCompletedAt calls n
completed = three (λ n. IsCompletedAt calls n) refl refl refl

one_order : (order : List ℕ) → IsLossyOrder [] calls order → order ≡ range_with_len 0 3
one_order order h =
    rising_unique order (range_with_len 0 3) (λ k inside. pairs k (k + 1) 0 (omega arith) inside) (IsStrictlyIncreasing-range 3)
    (λ n. (λ among. Contains-range 3 n (All-contains (λ n. n < 3) order n h.known among), λ among. h.complete n (completed n (below n among))))
  where
    pairs : AllPairs (λ x y. x < y) order
    pairs i j d before inside =
        let follows = AllPairs-from_filter_map (λ (a b : Operation). precedes b a ≡ false) (slice_get calls) order h.precedence in
        rises _ _ (h.known i d (omega arith)) (h.known j d inside) (h.distinct i j d before inside) (follows i j d before inside)

    below : (n : ℕ) → Contains (range_with_len 0 3) n → n < 3
    below n (i, inside, at) =
        let count = length-range_with_len 0 3 in
        let less : i < 3 = omega arith in
        let number = get_or-range_with_len 0 3 i n less in
        omega arith

-- in this order no lossy map has these answers
at_second : (b : Bool) → IsLegalReply (cond b ((0, 1) ∷ []) []) (Replace 0 1 2) replies.Other
    → (third : ℕ → Bool) × IsLegalReply (left third (after (cond b ((0, 1) ∷ []) []) (Replace 0 1 2))) (Get 0) replies.Found → ⊥
at_second true other found = ⊎_elim (λ refused. cc) (λ tells. false≢true tells) other
at_second false other found = ⊎_elim (λ refused. cc) (λ tells. false≢true tells) found.1

not_lossy : IsLossyLegal [] calls → ⊥
not_lossy (first, put, (second, other, (third, found, rest))) = at_second (second 0) other (third, found)

one_key : AllPairs (λ (a b : ℕ). a ≢ b) (0 ∷ [])
one_key =
    AllPairs-cons (λ (a b : ℕ). a ≢ b) 0 [] (All-nil (λ (n : ℕ). 0 ≢ n)) (AllPairs-nil (λ (a b : ℕ). a ≢ b))

pub missed : FoundAfterOtherIsMissed
missed = record {
  history = is_history;
  recording = is_recording;
  is_record = (have_recordings 3 (0 ∷ []) found_after_other is_history one_key).1;
  keys = record {
    at_start = All-nil (λ (pair : ℕ × ℕ). Contains (0 ∷ []) pair.0);
    of_calls = each (λ (a : Operation). PutsWithin (0 ∷ []) a.call) _ _ _ (Contains-first 0 []) (Contains-first 0 []) tt;
  };
  values = record {
    at_start = All-nil (λ (pair : ℕ × ℕ). pair.1 < 3);
    of_calls = each (λ (a : Operation). CallBelow 3 a.call × ResponseBelow 3 a.response) _ _ _ (omega arith, tt)
        ((omega arith, omega arith), tt) (tt, tt);
  };
  accepted = (0 ∷ 1 ∷ 2 ∷ [], is_order);
  refuted = λ h. not_lossy (subst (λ (order : List ℕ). IsLossyLegal [] (calls_at calls order)) (one_order h.0 h.1) h.1.legal);
}
