-- Pairs are given by what differs from those at the start, and by nothing else.
use Rattle.memo.proofs.Common.{◌≡◌, ◌<◌, ◌≤◌, ◌+◌, ◌-◌, ℕ, Bool, true, false, cond, [], ◌∷◌, Option, Some, None, refl, sym, ap, ◌∙◌, subst, inl, inr}
use Rattle.memo.proofs.Common.{drop, get_or, length, ⊎_elim, arith, ◌==◌, ◌⊎◌, is_some, filter, if◌then◌else◌, All, both_ways, eqb-true, eq-eqb}
use Rattle.memo.proofs.Common.{cases_eq, cases_Bool, drop_more, AllPairs-filter, All-head, All-tail, Contents, IsRising, value_at, put, AllPairs-nil}
use Rattle.memo.proofs.Common.{with_value, value_put, value_gone, value_from, differs, IsDifference, put_all, pairs_from, AreAbove-first}
use Rattle.memo.proofs.Common.{IsRising-rest, value_at_above, first_value, later_value, same_pairs}
use Rattle.std.specs.Prelude.{is_none}
use Rattle.memo.proofs.ValueLemmas.{or_else, kept_there, value_at-kept, value_at-own, value_at-other, with_value-rises}

-- ---- the pairs that a difference gives

-- pairs put have their values, and other keys have those that they had
value_at-put_all : (pairs m : Contents) (key : ℕ) → value_at (put_all pairs m) key ≡ or_else (value_at pairs key) (value_at m key)
value_at-put_all [] m key = refl
value_at-put_all ((k, v) ∷ pairs) m key =
    ⊎_elim (λ same. here (eqb-true k key same)) (there (value_at-put_all pairs m key)) (cases_Bool (k == key))
  where
    here : k ≡ key → value_at (put k v (put_all pairs m)) key ≡ or_else (value_at ((k, v) ∷ pairs) key) (value_at m key)
    here same = rw (eq-eqb k key same) (subst (λ at. value_at (put k v (put_all pairs m)) at ≡ Some v) same
        (value_at-own k (put_all pairs m) (Some v)))

    there : value_at (put_all pairs m) key ≡ or_else (value_at pairs key) (value_at m key) → (k == key) ≡ false
        → value_at (put k v (put_all pairs m)) key ≡ or_else (value_at ((k, v) ∷ pairs) key) (value_at m key)
    there rest e = rw e (value_at-other k (put_all pairs m) key (λ same. both_ways (k == key) e (eq-eqb k key same)) (Some v) ∙ rest)

put_all-rises : (pairs m : Contents) → IsRising m → IsRising (put_all pairs m)
put_all-rises [] m rising = rising
put_all-rises ((k, v) ∷ pairs) m rising = with_value-rises k (put_all pairs m) (put_all-rises pairs m rising) (Some v)

-- a value from the one put and what is left of the one at the start
value_left : (first put gone : Option ℕ) → or_else put (cond (is_none gone) first None) ≡ value_from first put gone
value_left first None None = refl
value_left first None (Some value) = refl
value_left first (Some value) None = refl
value_left first (Some value) (Some other) = refl

pub value_at-from : (start put gone : Contents) (key : ℕ)
    → value_at (pairs_from start put gone) key ≡ value_from (value_at start key) (value_at put key) (value_at gone key)
unfolding pairs_from
value_at-from start put gone key =
    value_at-put_all put (filter (λ pair. is_none (value_at gone pair.0)) start) key
    ∙ ap (or_else (value_at put key)) (value_at-kept (λ k. is_none (value_at gone k)) start key)
    ∙ value_left (value_at start key) (value_at put key) (value_at gone key)

pub pairs_from-rises : (start put gone : Contents) → IsRising start → IsRising (pairs_from start put gone)
unfolding pairs_from
pairs_from-rises start put gone rising =
    put_all-rises put (filter (λ pair. is_none (value_at gone pair.0)) start)
    (AllPairs-filter (λ (a : ℕ × ℕ) (b : ℕ × ℕ). a.0 < b.0) (λ (pair : ℕ × ℕ). is_none (value_at gone pair.0)) start rising)

-- ---- a difference determines the pairs

-- what is put and what is gone determine a value
value_back : (first value : Option ℕ) → value_from first (value_put first value) (value_gone first value) ≡ value
value_back None None = refl
value_back (Some first) None = refl
value_back None (Some value) = refl
value_back (Some first) (Some value) = ⊎_elim (λ same. rw same (ap Some (eqb-true first value same))) (λ other. rw other refl)
    (cases_Bool (first == value))

-- pairs are those that their difference gives
pub pairs_from-is : (start pairs put gone : Contents) → IsRising start → IsRising pairs → IsDifference start pairs put gone
    → pairs_from start put gone ≡ pairs
pairs_from-is start pairs put gone start_rises rises is =
    same_pairs (pairs_from start put gone) pairs (pairs_from-rises start put gone start_rises) rises (λ key.
    value_at-from start put gone key
    ∙ ap (λ v. value_from (value_at start key) v (value_at gone key)) (is.put key)
    ∙ ap (value_from (value_at start key) (value_put (value_at start key) (value_at pairs key))) (is.gone key)
    ∙ value_back (value_at start key) (value_at pairs key))

-- the same pairs have the same difference
module _ (start pairs put gone other_put other_gone : Contents) (is : IsDifference start pairs put gone)
    (other : IsDifference start pairs other_put other_gone) where
  pub same_put : put ≡ other_put
  same_put = same_pairs put other_put is.put_rises other.put_rises (λ key. is.put key ∙ sym (other.put key))

  pub same_gone : gone ≡ other_gone
  same_gone = same_pairs gone other_gone is.gone_rises other.gone_rises (λ key. is.gone key ∙ sym (other.gone key))

-- ---- how a difference comes about

-- a value that is the one at the start is neither put nor gone
put_none : (value : Option ℕ) → None ≡ value_put value value
put_none None = refl
put_none (Some value) = rw (eq-eqb value value refl) refl

gone_none : (value : Option ℕ) → None ≡ value_gone value value
gone_none None = refl
gone_none (Some value) = refl

-- the pairs at the start do not differ
pub IsDifference-start : (start : Contents) → IsDifference start start [] []
IsDifference-start start = record {
  put_rises = AllPairs-nil (λ (a : ℕ × ℕ) (b : ℕ × ℕ). a.0 < b.0);
  gone_rises = AllPairs-nil (λ (a : ℕ × ℕ) (b : ℕ × ℕ). a.0 < b.0);
  put = λ key. put_none (value_at start key);
  gone = λ key. gone_none (value_at start key);
}

-- pairs that agree with others but at one key differ as these do, but at that key
module _ (start old new put gone : Contents) (key : ℕ) (is : IsDifference start old put gone)
    (same : (k : ℕ) → (key ≡ k → ⊥) → value_at new k ≡ value_at old k) where
  abbrev here_put : Option ℕ
  here_put = value_put (value_at start key) (value_at new key)

  abbrev here_gone : Option ℕ
  here_gone = value_gone (value_at start key) (value_at new key)

  pub IsDifference-with : IsDifference start new (with_value key here_put put) (with_value key here_gone gone)
  IsDifference-with = record {
    put_rises = with_value-rises key put is.put_rises here_put;
    gone_rises = with_value-rises key gone is.gone_rises here_gone;
    put = λ k. ⊎_elim
        (λ e. subst (λ at. value_at (with_value key here_put put) at ≡ value_put (value_at start at) (value_at new at)) e
        (value_at-own key put here_put))
        (λ other. value_at-other key put k other here_put ∙ is.put k ∙ ap (value_put (value_at start k)) (sym (same k other)))
        (cases_eq key k);
    gone = λ k. ⊎_elim
        (λ e. subst (λ at. value_at (with_value key here_gone gone) at ≡ value_gone (value_at start at) (value_at new at)) e
        (value_at-own key gone here_gone))
        (λ other. value_at-other key gone k other here_gone ∙ is.gone k ∙ ap (value_gone (value_at start k)) (sym (same k other)))
        (cases_eq key k);
  }

-- ---- the difference of two lists of pairs

module _ (k v : ℕ) (rest : Contents) (none : value_at rest k ≡ None) where
  by_test : (b : Bool) → value_at (cond (is_some (if b then None else Some v)) ((k, v) ∷ rest) rest) k ≡ (if b then None else Some v)
  by_test true = none
  by_test false = first_value k v rest

  -- a pair that is kept where it differs, before others
  differs_here : (first : Option ℕ) → value_at (cond (is_some (value_put first (Some v))) ((k, v) ∷ rest) rest) k ≡ value_put first (Some v)
  differs_here None = first_value k v rest
  differs_here (Some value) = by_test (value == v)

-- the pairs that are not so at the start are those that are put
value_at-differs : (start m : Contents) → IsRising m → (key : ℕ)
    → value_at (filter (differs start) m) key ≡ value_put (value_at start key) (value_at m key)
value_at-differs start [] rises key = refl
value_at-differs start ((k, v) ∷ m) rises key =
    ⊎_elim (λ same. here (value_at-differs start m (IsRising-rest (k, v) m rises) k) same)
    (λ other. there (value_at-differs start m (IsRising-rest (k, v) m rises) key) other) (cases_eq k key)
  where
    kept : Contents
    kept = filter (differs start) m

    absent : value_at m k ≡ None
    absent = value_at_above k m (AreAbove-first (k, v) m rises)

    here : value_at kept k ≡ value_put (value_at start k) (value_at m k) → k ≡ key
        → value_at (filter (differs start) ((k, v) ∷ m)) key ≡ value_put (value_at start key) (value_at ((k, v) ∷ m) key)
    here rest same =
        subst (λ at. value_at (filter (differs start) ((k, v) ∷ m)) at ≡ value_put (value_at start at) (value_at ((k, v) ∷ m) at)) same
        (differs_here k v kept (rest ∙ ap (value_put (value_at start k)) absent) (value_at start k)
        ∙ ap (value_put (value_at start k)) (sym (first_value k v m)))

    there : value_at kept key ≡ value_put (value_at start key) (value_at m key) → (k ≡ key → ⊥)
        → value_at (filter (differs start) ((k, v) ∷ m)) key ≡ value_put (value_at start key) (value_at ((k, v) ∷ m) key)
    there rest other =
        kept_there (differs start (k, v)) k v kept key other ∙ rest
        ∙ ap (value_put (value_at start key)) (sym (later_value k v m key other))

gone_made : (first value : Option ℕ) → cond (is_none value) first None ≡ value_gone first value
gone_made first None = refl
gone_made first (Some value) = refl

-- the pairs that are not so at the start, and those there whose keys have no value, are the difference
pub IsDifference-made : (start pairs : Contents) → IsRising start → IsRising pairs
    → IsDifference start pairs (filter (differs start) pairs) (filter (λ pair. is_none (value_at pairs pair.0)) start)
IsDifference-made start pairs start_rises rises = record {
  put_rises = AllPairs-filter (λ (a : ℕ × ℕ) (b : ℕ × ℕ). a.0 < b.0) (differs start) pairs rises;
  gone_rises = AllPairs-filter (λ (a : ℕ × ℕ) (b : ℕ × ℕ). a.0 < b.0) (λ (pair : ℕ × ℕ). is_none (value_at pairs pair.0)) start start_rises;
  put = λ key. value_at-differs start pairs rises key;
  gone = λ key. value_at-kept (λ k. is_none (value_at pairs k)) start key ∙ gone_made (value_at start key) (value_at pairs key);
}

-- ---- pairs that are given from different starts

-- values that are the same at the keys of pairs are the same at a key, or the pairs have none there
agree_at : (pairs : Contents) (a b : ℕ → Option ℕ) (key : ℕ) → All (λ (pair : ℕ × ℕ). a pair.0 ≡ b pair.0) pairs
    → (a key ≡ b key) ⊎ (value_at pairs key ≡ None)
agree_at [] a b key each = inr refl
agree_at ((k, v) ∷ pairs) a b key each =
    ⊎_elim (λ same. inl (subst (λ at. a at ≡ b at) same (All-head (λ (pair : ℕ × ℕ). a pair.0 ≡ b pair.0) (k, v) pairs each)))
    (λ other. ⊎_elim (λ here. inl here) (λ none. inr (later_value k v pairs key other ∙ none))
    (agree_at pairs a b key (All-tail (λ (pair : ℕ × ℕ). a pair.0 ≡ b pair.0) (k, v) pairs each))) (cases_eq k key)

-- if neither the start nor what is put has a value, there is none
from_none : (first put left : Option ℕ) → first ≡ None → put ≡ None → value_from first put left ≡ None
from_none first put None no_first no_put = rw (no_first, no_put) refl
from_none first put (Some value) no_first no_put = rw (no_first, no_put) refl

-- pairs are the same where their values are at the keys of both starts and of what is put
module _ (start put gone other_start other_put other_gone : Contents) where
  abbrev mine : Contents
  mine = pairs_from start put gone

  abbrev yours : Contents
  yours = pairs_from other_start other_put other_gone

  abbrev Agree : Contents → Type 0
  Agree pairs = All (λ (pair : ℕ × ℕ). value_at mine pair.0 ≡ value_at yours pair.0) pairs

  pub same_from_values : IsRising start → IsRising other_start → Agree start → Agree put → Agree other_start → Agree other_put → mine ≡ yours
  same_from_values rises other_rises at_start at_put at_other_start at_other_put =
      same_pairs mine yours (pairs_from-rises start put gone rises) (pairs_from-rises other_start other_put other_gone other_rises) (λ key.
      let at = λ (pairs : Contents) (each : Agree pairs). agree_at pairs (value_at mine) (value_at yours) key each in
      ⊎_elim (λ h. h) (λ no_start. ⊎_elim (λ h. h) (λ no_put. ⊎_elim (λ h. h) (λ no_other_start. ⊎_elim (λ h. h) (λ no_other_put.
      value_at-from start put gone key
      ∙ from_none (value_at start key) (value_at put key) (value_at gone key) no_start no_put
      ∙ sym (value_at-from other_start other_put other_gone key
      ∙ from_none (value_at other_start key) (value_at other_put key) (value_at other_gone key) no_other_start no_other_put))
      (at other_put at_other_put)) (at other_start at_other_start)) (at put at_put)) (at start at_start))

-- ---- pairs put one by one, from the last

put_all-first : (pair : ℕ × ℕ) (pairs m : Contents) → put_all (pair ∷ pairs) m ≡ with_value pair.0 (Some pair.1) (put_all pairs m)
put_all-first (key, value) pairs m = refl

module _ (pairs m old new : Contents) (at : ℕ) (d pair : ℕ × ℕ) (some : 0 < at) (within : at ≤ length pairs)
    (here : pair ≡ get_or pairs (at - 1) d) (old_is : old ≡ put_all (drop at pairs) m) (new_is : new ≡ with_value pair.0 (Some pair.1) old) where
  from_here : drop (at - 1) pairs ≡ pair ∷ drop at pairs
  from_here =
      let next : at - 1 + 1 ≡ at = omega (arith, some) in
      drop_more pairs (at - 1) d (omega (arith, some, within))
      ∙ ap (λ (p : ℕ × ℕ). p ∷ drop (at - 1 + 1) pairs) (sym here)
      ∙ ap (λ (n : ℕ). pair ∷ drop n pairs) next

  pub put_next : new ≡ put_all (drop (at - 1) pairs) m
  put_next =
      new_is ∙ ap (with_value pair.0 (Some pair.1)) old_is ∙ sym (put_all-first pair (drop at pairs) m)
      ∙ ap (λ (ps : Contents). put_all ps m) (sym from_here)
