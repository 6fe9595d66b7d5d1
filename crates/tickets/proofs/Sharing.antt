-- What each step does to holdings that are shared out.
use Rattle.std.proofs.Common.{◌≡◌, ℕ, ◌+◌, ◌^◌, ◌<◌, ◌≤◌, ◌≢◌, ◌==◌, cond, List, [], ◌∷◌, ◌++◌, length, set, refl, sym, ap, ◌∙◌}
use Rattle.std.proofs.Common.{length-append, arith}
use Rattle.std.specs.Prelude.{sum_by, All}
use Rattle.std.proofs.lemmas.List.Sums.{sum_by_push, sum_by-append, count_by-le-length}
use Rattle.std.proofs.lemmas.List.Elements.{All-set, All-weaker, All-push}
use Rattle.std.proofs.lemmas.Bool.Decides.{nat_tests}
use mathlib.Core.Option.{some}
use lib.ListN.{get_elem?}
use Rattle.atomic_table.proofs.Lists.{set_else}
use Rattle.tickets.specs.declared.rule.Holding.{Holding}
use Rattle.tickets.specs.Numbers.{times_in, EachOnce}
use Rattle.tickets.specs.Holdings.{drawn_count, left_count, times_drawn, IsSharedOut, after_draw, noted, kept_part, given_part, both_parts}
use Rattle.tickets.specs.Holdings.{no_part}
use Rattle.tickets.proofs.Sums.{All-read, sum_by-replaced, read-le-sum_by, sum_by-plus, sum_by-sole}

-- how often a number is in a list with one number more
pub times_in-push : (numbers : List ℕ) (n x : ℕ) → times_in (numbers ++ n ∷ []) x ≡ times_in numbers x + cond (n == x) 1 0
times_in-push numbers n x = sum_by_push (λ y. cond (y == x) 1 0) numbers n

-- how often a number is in two lists
pub times_in-append : (a b : List ℕ) (x : ℕ) → times_in (a ++ b) x ≡ times_in a x + times_in b x
times_in-append a b x = sum_by-append (λ y. cond (y == x) 1 0) a b

-- a number below the next word was drawn before, or is the one drawn now
drawn_once : (word x n : ℕ) → x < word + 1 → (x < word → n ≡ 1) → (word ≤ x → n ≡ 0) → n + cond (word == x) 1 0 ≡ 1
drawn_once word x n lt before after = grind (arith, nat_tests)

-- a number from the next word on is not the one drawn now
not_drawn : (word x n : ℕ) → word + 1 ≤ x → (word ≤ x → n ≡ 0) → n + cond (word == x) 1 0 ≡ 0
not_drawn word x n le after = grind (arith, nat_tests)

module _ (quota word : ℕ) (all : List Holding) (shared : IsSharedOut quota word all) where
  -- holdings with the same sums, and no floor above the word, are shared out as well
  pub IsSharedOut-same : (new : List Holding) → sum_by drawn_count new ≡ sum_by drawn_count all
      → sum_by left_count new ≡ sum_by left_count all
      → ((x : ℕ) → sum_by (times_drawn x) new ≡ sum_by (times_drawn x) all) → All (λ h. h.floor ≤ word) new → IsSharedOut quota word new
  IsSharedOut-same new drawn left times floors = record {
    small = shared.small;
    drawn = drawn ∙ shared.drawn;
    left = ap (λ n. word + n) left ∙ shared.left;
    below = λ x lt. times x ∙ shared.below x lt;
    others = λ x le. times x ∙ shared.others x le;
    floors = floors;
  }

  module _ (i : ℕ) (h : Holding) (at : get_elem? all i ≡ some h) where
    -- no floor is above the word
    pub floor-le : h.floor ≤ word
    floor-le = All-read (λ k. k.floor ≤ word) all i h shared.floors at

    -- what one hand has is within the bound
    pub share-small : drawn_count h + left_count h ≤ 2 ^ 61
    share-small =
        let a = read-le-sum_by drawn_count all i h at in
        let b = read-le-sum_by left_count all i h at in
        let c = shared.drawn in
        let d = shared.left in
        let e = shared.small in
        omega arith

    -- a draw of the word, which goes up by one
    pub IsSharedOut-draw : 0 < h.left → IsSharedOut quota (word + 1) (set all i (after_draw h word))
    IsSharedOut-draw some_left =
        let new = after_draw h word in
        let times : (x : ℕ) → sum_by (times_drawn x) (set all i new) ≡ sum_by (times_drawn x) all + cond (word == x) 1 0 =
        λ x. let a = sum_by-replaced (times_drawn x) all i h new at in let b = times_in-push h.drawn word x in omega arith in
        record {
          small = shared.small;
          drawn = let a = sum_by-replaced drawn_count all i h new at in let b = length-append h.drawn (word ∷ []) in let c =
              shared.drawn in omega arith;
          left = let a = sum_by-replaced left_count all i h new at in let b = shared.left in omega arith;
          below = λ x lt. times x ∙ drawn_once word x _ lt (shared.below x) (shared.others x);
          others = λ x le. times x ∙ not_drawn word x _ le (shared.others x);
          floors =
              All-set (λ k. k.floor ≤ word + 1) all i new (omega arith)
              (All-weaker (λ k. k.floor ≤ word) (λ k. k.floor ≤ word + 1) (λ k le. omega arith) all shared.floors);
        }

    -- a note changes nothing that is shared
    pub IsSharedOut-note : (part : ℕ) → IsSharedOut quota word (set all i (noted h part))
    IsSharedOut-note part =
        let new = noted h part in
        let same : (f : Holding → ℕ) → f new ≡ f h → sum_by f (set all i new) ≡ sum_by f all = λ f e. let a =
        sum_by-replaced f all i h new at in omega arith in
        IsSharedOut-same _ (same drawn_count refl) (same left_count refl) (λ x. same (times_drawn x) refl)
        (All-set (λ k. k.floor ≤ word) all i new floor-le shared.floors)

    -- a hand cut in two
    pub IsSharedOut-split : h.set_aside ≤ h.left → IsSharedOut quota word (set all i (kept_part h) ++ given_part h ∷ [])
    IsSharedOut-split enough =
        let kept = kept_part h in
        let given = given_part h in
        let same : (f : Holding → ℕ) → f kept + f given ≡ f h → sum_by f (set all i kept ++ given ∷ []) ≡ sum_by f all =
        λ f e. let a = sum_by-replaced f all i h kept at in let b = sum_by_push f (set all i kept) given in omega arith in
        IsSharedOut-same _ (same drawn_count (omega arith)) (same left_count (omega arith)) (λ x. same (times_drawn x) (omega arith))
        (All-push (λ k. k.floor ≤ word) (set all i kept) given (All-set (λ k. k.floor ≤ word) all i kept floor-le shared.floors) floor-le)

    -- two hands made one
    pub IsSharedOut-join : (j : ℕ) (k : Holding) → j ≢ i → get_elem? (set all i (both_parts h k)) j ≡ some k
        → IsSharedOut quota word (set (set all i (both_parts h k)) j no_part)
    IsSharedOut-join j k ne there =
        let both = both_parts h k in
        let joined = set all i both in
        let same : (f : Holding → ℕ) → f both ≡ f h + f k → f no_part ≡ 0 → sum_by f (set joined j no_part) ≡ sum_by f all =
        λ f e none. let a = sum_by-replaced f all i h both at in let b = sum_by-replaced f joined j k no_part there in omega arith in
        let low = floor-le in
        let low' : k.floor ≤ word = All-read (λ g. g.floor ≤ word) all j k shared.floors (sym (set_else all i j both ne) ∙ there) in
        let floors : All (λ g. g.floor ≤ word) joined = All-set (λ g. g.floor ≤ word) all i both (omega arith) shared.floors in
        IsSharedOut-same _ (same drawn_count (length-append h.drawn k.drawn) refl) (same left_count refl refl)
        (λ x. same (times_drawn x) (times_in-append h.drawn k.drawn x) refl)
        (All-set (λ g. g.floor ≤ word) joined j no_part (omega arith) floors)

    -- who has the whole quota drew each number once
    pub EachOnce-sole : drawn_count h + left_count h ≡ quota → EachOnce (length h.drawn) h.drawn
    EachOnce-sole whole =
        let share : Holding → ℕ = λ k. drawn_count k + left_count k in
        let sums : sum_by share all ≡ share h =
        sum_by-plus drawn_count left_count all ∙ (ap (λ n. n + sum_by left_count all) shared.drawn ∙ (shared.left ∙ sym whole)) in
        let sole : (f : Holding → ℕ) → ((k : Holding) → f k ≤ drawn_count k) → sum_by f all ≡ f h =
        λ f le. sum_by-sole share f (λ k none. let a = le k in omega arith) all i h at sums in
        let is_word : word ≡ length h.drawn = sym shared.drawn ∙ sole drawn_count (λ k. omega arith) in
        let times : (x : ℕ) → times_in h.drawn x ≡ sum_by (times_drawn x) all =
        λ x. sym (sole (times_drawn x) (λ k. count_by-le-length (λ y. y == x) k.drawn)) in
        record {
          below = λ x lt. times x ∙ shared.below x (omega arith);
          others = λ x le. times x ∙ shared.others x (omega arith);
          many = refl;
        }
