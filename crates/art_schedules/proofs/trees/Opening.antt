-- The table as it is opened.
use Rattle.art_schedules.proofs.Common.{◌≡◌, ℕ, zero, suc, ◌+◌, ◌-◌, ◌/◌, ◌%◌, ◌^◌, ◌<◌, ◌≤◌, Bool, true, false, List, [], length}
use Rattle.std.specs.Prelude.{◌≢◌}
use Rattle.art_schedules.proofs.Common.{refl, sym, ap, ap₂, subst, subst₂, ◌∙◌, arith, nat_tests, get_or-set_same}
use Rattle.art_schedules.proofs.Common.{get_or-set_other, length-set, All-set, none-some, AllPairs-nil, Contains-nil, Shape, Kind, Four, Sixteen}
use Rattle.art_schedules.proofs.Common.{FortyEight, Full, Empty, Leaf, opening, table_words, root_base, info_at, claims_of, first_base, row_words}
use Rattle.art_schedules.proofs.Common.{rows_of, kind_at, is_base_of, child_of, is_locked, is_obsolete, Reached, root, below, Means, child_on}
use Rattle.art_schedules.proofs.Common.{HasForm, IsTree, IsAtRest, TablesOpenAtRest, IsClaimed, AreZeroPastClaims}
use Rattle.std.proofs.Common.{◌&&◌, nat_le, nat_lt, replicate, slice_set, ◌==◌, Some, None, slice_index, if◌then◌else◌}
use Rattle.std.proofs.lemmas.Bool.{and_parts}
use Rattle.std.proofs.lemmas.List.{length-replicate}
use Rattle.std.proofs.lemmas.List.Elements.{All-replicate}
use Rattle.art_rows.specs.declared.table.Child.TheVariants.{Row}
use Rattle.art_schedules.proofs.trees.Infos.{IsInfo}
use Rattle.art_schedules.proofs.trees.Ways.{empty-leaf, empty-row}

pub only-zeros : (n i : ℕ) → slice_index (replicate n 0) i ≡ 0
only-zeros zero i = refl
only-zeros (suc n) zero = refl
only-zeros (suc n) (suc i) = only-zeros n i

-- a row's base is none of the first words
module _ (s : Shape) (base : ℕ) where
  -- what a base of the kind is
  base_parts : (kind : Kind) → is_base_of s kind base ≡ true
      → (first_base s kind ≤ base) × ((base - first_base s kind) % row_words kind ≡ 0)
      × ((base - first_base s kind) / row_words kind < rows_of s kind)
  base_parts kind h =
      let outer = and_parts (nat_le (first_base s kind) base && ((base - first_base s kind) % row_words kind == 0))
      (nat_lt ((base - first_base s kind) / row_words kind) (rows_of s kind)) h in
      let inner = and_parts (nat_le (first_base s kind) base) ((base - first_base s kind) % row_words kind == 0) outer.0 in
      (grind (arith, nat_tests, inner.0), grind (arith, nat_tests, inner.1), grind (arith, nat_tests, outer.1))

  is_apart : (kind : Kind) → is_base_of s kind base ≡ true → (base ≢ 4) × (base ≢ info_at (root_base s))
  is_apart Four h = let (low, even, few) = base_parts Four h in (λ is. omega (arith, is, low), λ is. omega (arith, is, low, even, few))
  is_apart Sixteen h = let (low, even, few) = base_parts Sixteen h in (
    λ is. omega (arith, is, low),
    λ is. omega
        (arith, is, low, even, few),
  )
  is_apart FortyEight h = let (low, even, few) =
      base_parts FortyEight h in (λ is. omega (arith, is, low), λ is. omega (arith, is, low, even, few))
  is_apart Full h = let (low, even, few) = base_parts Full h in (λ is. omega (arith, is, low), λ is. omega (arith, is, low, even, few))

  base_apart : (kind : Kind) → kind_at s base ≡ Some kind → (base ≢ 4) × (base ≢ info_at (root_base s))
  base_apart kind h =
      first (is_base_of s Four base) (is_base_of s Sixteen base) (is_base_of s FortyEight base) (is_base_of s Full base)
      refl refl refl refl h
    where
      first : (a b c d : Bool) → is_base_of s Four base ≡ a → is_base_of s Sixteen base ≡ b → is_base_of s FortyEight base ≡ c
          → is_base_of s Full base ≡ d
          → (if a then Some Four else if b then Some Sixteen else if c then Some FortyEight else if d then Some Full else None) ≡ Some kind
          → (base ≢ 4) × (base ≢ info_at (root_base s))
      first true b c d p q r t h = is_apart Four p
      first false true c d p q r t h = is_apart Sixteen q
      first false false true d p q r t h = is_apart FortyEight r
      first false false false true p q r t h = is_apart Full t
      first false false false false p q r t h = absurd (none-some kind h)

module _ (s : Shape) (has_root : 1 ≤ s.rows256) where
  abbrev words : List ℕ
  words = opening s

  abbrev blank : List ℕ
  blank = replicate (table_words s) 0

  abbrev claimed : List ℕ
  claimed = slice_set blank 4 1

  word_zero : (i : ℕ) → i ≢ 4 → i ≢ info_at (root_base s) → slice_index words i ≡ 0
  word_zero i not_claims not_info =
      get_or-set_other claimed (info_at (root_base s)) i 3 0 not_info
      ∙ (get_or-set_other blank 4 i 1 0 not_claims ∙ only-zeros (table_words s) i)

  long_blank : length blank ≡ table_words s
  long_blank = length-replicate {A = ℕ} (table_words s) 0

  long_words : length claimed ≡ table_words s
  long_words = length-set blank 4 1 ∙ long_blank

  word_info : slice_index words (info_at (root_base s)) ≡ 3
  word_info = get_or-set_same claimed (info_at (root_base s)) 3 0 (omega (arith, long_words, has_root))

  word_claims : slice_index words 4 ≡ 1
  word_claims =
      get_or-set_other claimed (info_at (root_base s)) 4 3 0 (λ is. omega (arith, is))
      ∙ get_or-set_same blank 4 1 0 (omega (arith, long_blank, has_root))

  -- nothing hangs on the root, so nothing else is reached
  root_empty : (x : ℕ) → child_on s words (root_base s) Full x ≡ Empty
  root_empty x = ap (λ w. child_of s w) (word_zero (root_base s + 2 + x) (λ is. omega (arith, is)) (λ is. omega (arith, is)))

  empty : (b : ℕ) (k : Kind) (x : ℕ) → (b ≡ root_base s) × (k ≡ Full) → child_on s words b k x ≡ Empty
  empty b k x at = ap₂ (λ b k. child_on s words b k x) at.0 at.1 ∙ root_empty x

  only_root : (b : ℕ) (k : Kind) → Reached s words b k → (b ≡ root_base s) × (k ≡ Full)
  only_root b k root = (refl, refl)
  only_root b k (below {base = c} {kind = j} r x small on) = absurd (empty-row b k (sym (empty c j x (only_root c j r)) ∙ on))

  no_row : (b : ℕ) (k : Kind) (x c : ℕ) (j : Kind) → Reached s words b k → child_on s words b k x ≡ Row c j → ⊥
  no_row b k x c j r on = empty-row c j (sym (empty b k x (only_root b k r)) ∙ on)

  no_leaf : (b : ℕ) (k : Kind) (x key value : ℕ) → Reached s words b k → child_on s words b k x ≡ Leaf key value → ⊥
  no_leaf b k x key value r on = empty-leaf key value (sym (empty b k x (only_root b k r)) ∙ on)

  at_root : (P : ℕ → Kind → Type 0) → P (root_base s) Full → (b : ℕ) (k : Kind) → Reached s words b k → P b k
  at_root P h b k r =
      let at = only_root b k r in
      subst₂ P (sym at.0) (sym at.1) h

  tree : IsTree s words
  tree = record {
    root = word_info;
    form = at_root (λ b k. HasForm words b k) tt;
    info = at_root (λ b k. IsInfo k (slice_index words (info_at b))) (subst (λ w. IsInfo Full w) (sym word_info) (refl, refl));
    row = λ b m x k j r small on. absurd (no_row b k x m j r on);
    leaf = λ b x key value k r small on. absurd (no_leaf b k x key value r on);
    once = λ a b x y m ka kb k ra rb small other here there. absurd (no_row a ka x m k ra here);
  }

  claims_few : (kind : Kind) → slice_index words (claims_of kind) ≤ 1
  claims_few Four = omega (arith, word_zero 1 (λ is. omega (arith, is)) (λ is. omega (arith, is)))
  claims_few Sixteen = omega (arith, word_zero 2 (λ is. omega (arith, is)) (λ is. omega (arith, is)))
  claims_few FortyEight = omega (arith, word_zero 3 (λ is. omega (arith, is)) (λ is. omega (arith, is)))
  claims_few Full = omega (arith, word_claims)

  fresh : AreZeroPastClaims s words
  fresh Four number claims few word low high = word_zero word (λ is. omega (arith, is, low)) (λ is. omega (arith, is, few, high))
  fresh Sixteen number claims few word low high = word_zero word (λ is. omega (arith, is, low)) (λ is. omega (arith, is, few, high))
  fresh FortyEight number claims few word low high = word_zero word (λ is. omega (arith, is, low)) (λ is. omega (arith, is, few, high))
  fresh Full number claims few word low high = word_zero word (λ is. omega (arith, is, low))
      (λ is. omega (arith, is, word_claims, claims, low))

  at_rest : IsAtRest s 1 words
  at_rest = record {
    long = length-set claimed (info_at (root_base s)) 3 ∙ long_words;
    small = All-set (λ w. w < 2 ^ 64) claimed (info_at (root_base s)) 3 (omega arith)
        (All-set (λ w. w < 2 ^ 64) blank 4 1 (omega arith) (All-replicate (λ w. w < 2 ^ 64) (table_words s) 0 (omega arith)));
    unlocked = λ b k h.
        let apart = base_apart s b k h in
        ap (λ w. is_locked w) (word_zero b apart.0 apart.1);
    tree = tree;
    live = at_root (λ b k. is_obsolete (slice_index words b) ≡ false)
        (ap (λ w. is_obsolete w) (word_zero (root_base s) (λ is. omega (arith, is)) (λ is. omega (arith, is))));
    claims = claims_few;
    claimed = at_root (λ b k. IsClaimed s words b k)
        (record { number = 0; claimed = omega (arith, word_claims); within = has_root; is = refl });
    fresh = fresh;
  }

  means_none : Means s words []
  means_none = record {
    rising = AllPairs-nil (λ (a : ℕ × ℕ) (b : ℕ × ℕ). a.0 < b.0);
    all = λ key value. (
      λ is. absurd (Contains-nil (key, value) is),
      λ h. absurd (no_leaf h.base h.kind h.byte key value h.reached h.leaf),
    );
  }

pub tables-open : TablesOpenAtRest
tables-open s has_root = (at_rest s has_root, means_none s has_root)
