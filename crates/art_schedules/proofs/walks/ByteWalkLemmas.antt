-- A scan that runs alone walks the children of a row, byte by byte.
use Rattle.art_schedules.proofs.Common.{◌≡◌, ℕ, ◌<◌, ◌≤◌, List, [], ◌∷◌, ◌++◌, length, sym, ap, ◌∙◌, subst, arith, Bool, Contains}
use Rattle.art_rows.specs.Rows.{Row}
use Rattle.art_schedules.proofs.Common.{flat_map, append-nil, length-append, flat_map-cons, All-nil, All-append, All-weaker, All-contains}
use Rattle.art_schedules.proofs.Common.{AllPairs-head, AllPairs-tail, Contains-first, Contains-later, Contents, Part, over, Setting, Walked}
use Rattle.art_schedules.proofs.Common.{IsAtRest}
use Rattle.std.proofs.Common.{All, AllPairs, slice_index}
use Rattle.std.proofs.lemmas.List.{append_assoc}
use Rattle.art_schedules.proofs.alone.AloneLemmas.{over_none-comes, over-comes}
use Rattle.art_schedules.proofs.walks.EnterLemmas.{Walking}
use Rattle.art_schedules.proofs.walks.VisitLemmas.{Walks}

-- paths with one byte more are equal only if these bytes are
pub other-byte : (path : List ℕ) (x y : ℕ) → path ++ x ∷ [] ≡ path ++ y ∷ [] → x ≡ y
other-byte [] x y e = ap (λ l. slice_index l 0) e
other-byte (a ∷ path) x y e = other-byte path x y (ap (λ l. tail l) e)
  where
    tail : List ℕ → List ℕ
    tail [] = []
    tail (z ∷ zs) = zs

-- Parts for numbers, each of which reads only rows that are below its number and below no other.
module _ (c : Setting) (n : ℕ) (words : List ℕ) (rest : IsAtRest c.shape n words) (low high : ℕ) (IsBelow : ℕ → Row → Type 0)
    (apart : (x y : ℕ) → x < y → (q : Row) → IsBelow x q → IsBelow y q → ⊥) where
  -- no row that was read is below the number
  abbrev pub FreeBelow : ℕ → List Row → Type 0
  FreeBelow x rows = All (λ q. IsBelow x q → ⊥) rows

  -- the part for each number walks what is under it
  abbrev pub WalksEach : Bool → (ℕ → Walked → Part Walked) → (ℕ → Contents) → List ℕ → Type 0
  WalksEach locking f under xs = (x : ℕ) (w : Walked) (now : List ℕ) → Contains xs x → Walking c n words rest locking now w.rows
      → FreeBelow x w.rows → length (w.pairs ++ under x) ≤ 4096 → Walks c n words rest low high locking (f x w) now w (under x) (IsBelow x)

  -- the parts walk one after another
  pub walks-over : (locking : Bool) (f : ℕ → Walked → Part Walked) (under : ℕ → Contents) (xs : List ℕ) (w : Walked) (now : List ℕ)
      → WalksEach locking f under xs → AllPairs (λ a b. a < b) xs → Walking c n words rest locking now w.rows
      → ((x : ℕ) → Contains xs x → FreeBelow x w.rows) → length (w.pairs ++ flat_map under xs) ≤ 4096
      → Walks c n words rest low high locking (over xs f w) now w (flat_map under xs) (λ q. (y : ℕ) × IsBelow y q)
  walks-over locking f under [] w now walks rising walking free few = record {
    walked = w;
    later = now;
    comes = over_none-comes f w now;
    walking = walking;
    pairs_are = sym (append-nil w.pairs);
    more = [];
    rows_are = sym (append-nil w.rows);
    below = All-nil (λ q. (y : ℕ) × IsBelow y q);
  }
  walks-over locking f under (x ∷ xs) w now walks rising walking free few =
      let all : flat_map under (x ∷ xs) ≡ under x ++ flat_map under xs = flat_map-cons under x xs in
      let size : length (w.pairs ++ (under x ++ flat_map under xs)) ≤ 4096 = subst (λ p. length (w.pairs ++ p) ≤ 4096) all few in
      let here = walks x w now (Contains-first x xs) walking (free x (Contains-first x xs))
      (omega (
        arith,
        size,
        length-append w.pairs (under x ++ flat_map under xs),
        length-append (under x) (flat_map under xs),
        length-append
            w.pairs (under x),
      )) in
      let frees : (y : ℕ) → Contains xs y → FreeBelow y here.walked.rows =
      λ y h. subst (FreeBelow y) (sym here.rows_are)
      (All-append (λ q. IsBelow y q → ⊥) w.rows here.more (free y (Contains-later x xs y h))
      (All-weaker (IsBelow x) (λ q. IsBelow y q → ⊥)
      (λ q one two. apart x y (All-contains (λ z. x < z) xs y (AllPairs-head (λ a b. a < b) x xs rising) h) q one two)
      here.more here.below)) in
      let later_few : length (here.walked.pairs ++ flat_map under xs) ≤ 4096 =
      subst (λ p. length (p ++ flat_map under xs) ≤ 4096) (sym here.pairs_are)
      (subst (λ p. length p ≤ 4096) (sym (append_assoc w.pairs (under x) (flat_map under xs))) size) in
      let next = walks-over locking f under xs here.walked here.later (λ y v at h. walks y v at (Contains-later x xs y h))
      (AllPairs-tail (λ a b. a < b) x xs rising) here.walking frees later_few in
      record {
        walked = next.walked;
        later = next.later;
        comes = over-comes x xs f here.comes next.comes;
        walking = next.walking;
        pairs_are = next.pairs_are ∙ (ap (λ p. p ++ flat_map under xs) here.pairs_are ∙ (append_assoc w.pairs (under x) (flat_map under xs)
            ∙ ap (λ p. w.pairs ++ p) (sym all)));
        more = here.more ++ next.more;
        rows_are = next.rows_are ∙ (ap (λ rows. rows ++ next.more) here.rows_are ∙ append_assoc w.rows here.more next.more);
        below = All-append (λ q. (y : ℕ) × IsBelow y q) here.more next.more
            (All-weaker (IsBelow x) (λ q. (y : ℕ) × IsBelow y q) (λ q h. (x, h)) here.more here.below) next.below;
      }
