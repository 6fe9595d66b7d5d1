-- What a place shows is sorted by number, whatever is done with the place.
use Rattle.running.proofs.Common.{ℕ, zero, suc, ◌+◌, ◌≤◌, ◌≡◌, Bool, true, false, List, [], ◌∷◌, map, refl, arith, nat_lt, if◌then◌else◌, All}
use Rattle.running.proofs.Common.{AllPairs, Option, Some, None, range_with_len, ltb-true, ltb-false, All-nil, All-cons, All-head, All-tail}
use Rattle.running.proofs.Common.{All-weaker, AllPairs-nil, AllPairs-head, AllPairs-tail, Call, Move, Invokes, idle, after_move, Setup, View}
use Rattle.running.proofs.Common.{Numbered, NumbersRise, all_idle, next_of, moved_first, moved_if, advanced, invoking, placed, merge, merged}
use Rattle.std.proofs.lemmas.List.Kept.{AllPairs-cons}

abbrev NotAbove : Numbered → Numbered → Type 0
NotAbove x y = x.0 ≤ y.0

-- All processes, before the first step.

idle-above : (b a n : ℕ) → b ≤ a → All (λ (x : Numbered). b ≤ x.0) (map (λ p. (p, idle)) (range_with_len a n))
idle-above b a zero le = All-nil (λ (x : Numbered). b ≤ x.0)
idle-above b a (suc n) le =
    All-cons (λ (x : Numbered). b ≤ x.0) (a, idle) (map (λ p. (p, idle)) (range_with_len (a + 1) n)) le
    (idle-above b (a + 1) n (omega arith))

idle-rises : (a n : ℕ) → AllPairs NotAbove (map (λ p. (p, idle)) (range_with_len a n))
idle-rises a zero = AllPairs-nil NotAbove
idle-rises a (suc n) = AllPairs-cons NotAbove (a, idle) (map (λ p. (p, idle)) (range_with_len (a + 1) n))
    (idle-above a (a + 1) n (omega arith)) (idle-rises (a + 1) n)

pub all-idle-rises : (setup : Setup) → NumbersRise (all_idle setup)
all-idle-rises setup = idle-rises 0 setup.processes

-- A step of the first process.

moved-rises : (m : Move) (n : ℕ) (l : List Numbered) → AllPairs NotAbove l → AllPairs NotAbove (moved_first m n l)
moved-rises m n [] h = h
moved-rises m n (x ∷ xs) h =
    AllPairs-cons NotAbove (x.0, after_move x.0 m n x.1) xs (AllPairs-head NotAbove x xs h) (AllPairs-tail NotAbove x xs h)

pub advanced-rises : (v : View) (n : ℕ) → NumbersRise v → NumbersRise (advanced v n)
advanced-rises v n h = go (next_of v)
  where
    go : (o : Option Move) → AllPairs NotAbove (moved_if o n v.processes)
    go None = h
    go (Some m) = moved-rises m n v.processes h

pub invoking-rises : (call : Call) (v : View) (n : ℕ) → NumbersRise v → NumbersRise (invoking call v n)
invoking-rises call v n h = moved-rises (Invokes call) n v.processes h

-- Two places made one.

all-placed : (P : Numbered → Type 0) (x : Numbered) (l : List Numbered) → P x → All P l → All P (placed x l)
all-placed P x [] one all = All-cons P x [] one all
all-placed P x (y ∷ ys) one all = go (nat_lt x.0 y.0) (all-placed P x ys one (All-tail P y ys all))
  where
    go : (b : Bool) → All P (placed x ys) → All P (if b then x ∷ y ∷ ys else y ∷ placed x ys)
    go true later = All-cons P x (y ∷ ys) one all
    go false later = All-cons P y (placed x ys) (All-head P y ys all) later

placed-rises : (x : Numbered) (l : List Numbered) → AllPairs NotAbove l → AllPairs NotAbove (placed x l)
placed-rises x [] h = AllPairs-cons NotAbove x [] (All-nil (NotAbove x)) h
placed-rises x (y ∷ ys) h = go (nat_lt x.0 y.0) refl (placed-rises x ys (AllPairs-tail NotAbove y ys h))
  where
    later : All (NotAbove y) ys
    later = AllPairs-head NotAbove y ys h

    go : (b : Bool) → nat_lt x.0 y.0 ≡ b → AllPairs NotAbove (placed x ys) → AllPairs NotAbove (if b then x ∷ y ∷ ys else y ∷ placed x ys)
    go true e r =
        let lt = ltb-true x.0 y.0 e in
        let here : x.0 ≤ y.0 = omega arith in
        AllPairs-cons NotAbove x (y ∷ ys) (All-cons (NotAbove x) y ys here (All-weaker (NotAbove y) (NotAbove x)
        (λ z le. omega arith) ys later)) h
    go false e r = AllPairs-cons NotAbove y (placed x ys) (all-placed (NotAbove y) x ys (ltb-false x.0 y.0 e) later) r

merge-rises : (l m : List Numbered) → AllPairs NotAbove l → AllPairs NotAbove (merge l m)
merge-rises l [] h = h
merge-rises l (x ∷ xs) h = placed-rises x (merge l xs) (merge-rises l xs h)

pub merged-rises : (v w : View) → NumbersRise v → NumbersRise (merged v w)
merged-rises v w h = merge-rises v.processes w.processes h
