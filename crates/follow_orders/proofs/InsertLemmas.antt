-- A call comes to calls by rising invocation.
use Rattle.follow_orders.proofs.Common.{◌≡◌, ℕ, ◌+◌, ◌<◌, ◌≤◌, true, false, List, length, get_or, take, drop, refl, sym, subst, arith, nat_lt, ⊎_elim}
use Rattle.follow_orders.proofs.Common.{Result, ◌≢◌, ◌⊎◌, ◌^◌, All, AllPairs, IfOk, AllWithin, insert, ltb-true, ltb-false, take-append-drop}
use Rattle.follow_orders.proofs.Common.{get_or-take, get_or-drop, length-drop, length-take, All-contains, All-front, All-back, All-from_contains}
use Rattle.follow_orders.proofs.Common.{Contains-map, Operation, precedes, NonePrecedesItself, Contents, HasCome, places, AreCalls, IsAnswer}
use Rattle.follow_orders.proofs.Common.{IsAnswerWith, Level}
use Rattle.std.specs.List.Sorted.{IsNonDecreasingBy}
use Rattle.std.proofs.lemmas.Result.{IfOk-weaker}
use Rattle.call_effects.proofs.AroundLemmas.{All-around, AllPairs-around}
use Rattle.follow_orders.specs.declared.kept.Mended.{Mended}
use Rattle.follow_orders.proofs.MoveLemmas.{length_more}

-- calls by rising invocation are so weakly
pub rising_weakly : (calls : List Operation) → AllPairs (λ x y. x.inv < y.inv) calls → IsNonDecreasingBy (λ x. x.inv) calls
rising_weakly calls rise i j d within there =
    ⊎_elim (λ (less : i < j). let h = rise i j d less there in omega arith)
    (λ (same : i ≡ j). subst (λ (k : ℕ). (get_or calls i d).inv ≤ (get_or calls k d).inv) same (omega arith))
    (le_cases i j within)
  where
    le_cases : (i j : ℕ) → i ≤ j → (i < j) ⊎ (i ≡ j)
    le_cases i j h = grind arith

-- the calls before the place, and those from it on
pub less : (inv : ℕ) (calls : List Operation) (i : ℕ) → AllWithin (λ x. nat_lt x.inv inv ≡ true) calls 0 i
    → All (λ a. a.inv < inv) (take i calls)
less inv calls i h k d within =
    let short : k < i = omega (arith, length-take i calls) in
    subst (λ a. a.inv < inv) (sym (get_or-take i calls k d short))
    (ltb-true (get_or calls k d).inv inv (h k d (omega arith) short))

pub greater : (inv : ℕ) (calls : List Operation) (i : ℕ) → AllWithin (λ x. nat_lt x.inv inv ≡ false) calls i (length calls)
    → All (λ a. a.inv ≢ inv) calls → All (λ a. inv < a.inv) (drop i calls)
greater inv calls i h other k d within =
    let there : i + k < length calls = omega (arith, length-drop i calls) in
    let le = ltb-false (get_or calls (i + k) d).inv inv (h (i + k) d (omega arith) there) in
    let apart = other (i + k) d there in
    subst (λ a. inv < a.inv) (sym (get_or-drop i calls k d)) (above (get_or calls (i + k) d).inv le apart)
  where
    above : (n : ℕ) → inv ≤ n → n ≢ inv → inv < n
    above n le apart = grind arith

pub came : (op : Operation) (calls : List Operation) (place : ℕ) → All (λ a. a.inv < op.inv) (take place calls)
    → All (λ a. op.inv < a.inv) (drop place calls) → HasCome op calls (insert calls place op)
came op calls place less greater = record {
  front = take place calls;
  back = drop place calls;
  before = sym (take-append-drop place calls);
  less = less;
  greater = greater;
  after = refl;
}

-- the calls stay what an order can be sought of
pub are_calls_with : (op : Operation) (calls : List Operation) (place : ℕ) → place ≤ length calls → length calls + 2 < 2 ^ 32
    → HasCome op calls (insert calls place op)
    → precedes op op ≡ false → AreCalls calls → AreCalls (insert calls place op)
are_calls_with op calls place within room h own k = record {
  few = omega (arith, room, length_more calls op place within);
  rising = subst (AllPairs (λ (a : Operation) (b : Operation). a.inv < b.inv)) (sym h.after)
      (AllPairs-around (λ (a : Operation) (b : Operation). a.inv < b.inv) h.front op h.back
      (subst (AllPairs (λ (a : Operation) (b : Operation). a.inv < b.inv)) h.before k.rising) h.less h.greater);
  apart =
      let both = subst NonePrecedesItself h.before k.apart in
      subst NonePrecedesItself (sym h.after)
      (All-around (λ (a : Operation). precedes a a ≡ false) h.front op h.back
      (All-front (λ (a : Operation). precedes a a ≡ false) h.front h.back both) own
      (All-back (λ (a : Operation). precedes a a ≡ false) h.front h.back both));
}

-- the places of a front's calls may be one greater
pub few_places : (levels : List Level) (size : ℕ) → size + 2 < 2 ^ 32 → All (λ n. n < size) (places levels)
    → All (λ level. level.place + 1 < 2 ^ 32) levels
few_places levels size room known = All-from_contains (λ (level : Level). level.place + 1 < 2 ^ 32) levels
    (λ level inside.
    let lt = All-contains (λ n. n < size) (places levels) level.place known (Contains-map (λ (l : Level). l.place) levels level inside) in
    omega (arith, lt, room))

-- an answer for the calls with the one that came
pub with_call : (op : Operation) (start : Contents) (calls more : List Operation) (budget : ℕ) (kept : Mended) → HasCome op calls more
    → IsAnswer start more budget kept → IsAnswerWith op start calls budget kept
with_call op start calls more budget kept came h = record { more = more; came = came; answer = h }

pub ok_with_call : {E : Type 0} (op : Operation) (start : Contents) (calls more : List Operation) (budget : ℕ) (r : Result Mended E)
    → HasCome op calls more → IfOk r (IsAnswer start more budget) → IfOk r (IsAnswerWith op start calls budget)
ok_with_call op start calls more budget r came h =
    IfOk-weaker r (IsAnswer start more budget) (IsAnswerWith op start calls budget) (λ kept. with_call op start calls more budget kept came) h
