-- The parts that meet a range are taken out (`met_all`, `met_kept`), and the keys that stay at rest (`met_cover`, `met_rest`).
use Rattle.follow_parts.proofs.Common.{◌≡◌, ℕ, ◌≤◌, Bool, true, false, not, ◌&&◌, ◌||◌, List, [], ◌∷◌, ◌++◌, map, inl, inr, refl, sym, ap, ◌∙◌, subst}
use Rattle.follow_parts.proofs.Common.{⊎_elim, append_assoc, get_or, ◌⊎◌, nat_le, All, AllPairs, Contains, list_any, false≢true, and_parts, leb-true}
use Rattle.follow_parts.proofs.Common.{All-nil, All-cons, All-contains, list_any_none, AllPairs-cons, All-from_contains, AllPairs-nil, AllPairs-head}
use Rattle.follow_parts.proofs.Common.{AllPairs-tail, Any-first, Any-later, Contains-first, Contains-later, Contains-nil, Contains-cases, Operation}
use Rattle.follow_parts.proofs.Common.{Contents, KeptPart, AreKept, any_to, parts_move, covered, from_to, kept_part, IsIn, outside, Part, Range, is_at_rest}
use Rattle.follow_parts.proofs.Common.{AreParted, AreMet}

-- ---- parts in two lists

pub parted_left : (old left out : List Part) → AreParted old left out → (part : Part) → Contains left part → Contains old part
parted_left [] left out parted part there = absurd (Contains-nil part (subst (λ (l : List Part). Contains l part) parted.0 there))
parted_left (p ∷ ps) left out parted part there = ⊎_elim
    (λ (more, is, rest). ⊎_elim
    (λ (same : p ≡ part). subst (λ (q : Part). Contains (p ∷ ps) q) same (Contains-first p ps))
    (λ later. Contains-later p ps part (parted_left ps more out rest part later))
    (Contains-cases p more part (subst (λ (l : List Part). Contains l part) is there)))
    (λ (more, is, rest). Contains-later p ps part (parted_left ps left more rest part there))
    parted

pub parted_out : (old left out : List Part) → AreParted old left out → (part : Part) → Contains out part → Contains old part
parted_out [] left out parted part there = absurd (Contains-nil part (subst (λ (l : List Part). Contains l part) parted.1 there))
parted_out (p ∷ ps) left out parted part there = ⊎_elim
    (λ (more, is, rest). Contains-later p ps part (parted_out ps more out rest part there))
    (λ (more, is, rest). ⊎_elim
    (λ (same : p ≡ part). subst (λ (q : Part). Contains (p ∷ ps) q) same (Contains-first p ps))
    (λ later. Contains-later p ps part (parted_out ps left more rest part later))
    (Contains-cases p more part (subst (λ (l : List Part). Contains l part) is there)))
    parted

pub parted_each : (old left out : List Part) → AreParted old left out → (part : Part) → Contains old part
    → Contains left part ⊎ Contains out part
parted_each [] left out parted part there = absurd (Contains-nil part there)
parted_each (p ∷ ps) left out parted part there = ⊎_elim
    (λ (more, is, rest). ⊎_elim
    (λ (same : p ≡ part). inl (subst (λ (l : List Part). Contains l part) (sym is)
    (subst (λ (q : Part). Contains (p ∷ more) q) same (Contains-first p more))))
    (λ later. ⊎_elim
    (λ own. inl (subst (λ (l : List Part). Contains l part) (sym is) (Contains-later p more part own)))
    (λ other. inr other)
    (parted_each ps more out rest part later))
    (Contains-cases p ps part there))
    (λ (more, is, rest). ⊎_elim
    (λ (same : p ≡ part). inr (subst (λ (l : List Part). Contains l part) (sym is)
    (subst (λ (q : Part). Contains (p ∷ more) q) same (Contains-first p more))))
    (λ later. ⊎_elim
    (λ own. inl own)
    (λ other. inr (subst (λ (l : List Part). Contains l part) (sym is) (Contains-later p more part other)))
    (parted_each ps left more rest part later))
    (Contains-cases p ps part there))
    parted

pub all_left : (P : Part → Type 0) (old left out : List Part) → AreParted old left out → All P old → All P left
all_left P old left out parted all =
    All-from_contains P left (λ part there. All-contains P old part all (parted_left old left out parted part there))

pub all_out : (P : Part → Type 0) (old left out : List Part) → AreParted old left out → All P old → All P out
all_out P old left out parted all =
    All-from_contains P out (λ part there. All-contains P old part all (parted_out old left out parted part there))

module _ (R : Part → Part → Type 0) where
  pub pairs_left : (old left out : List Part) → AreParted old left out → AllPairs R old → AllPairs R left
  pairs_left [] left out parted pairs = subst (λ (l : List Part). AllPairs R l) (sym parted.0) (AllPairs-nil R)
  pairs_left (p ∷ ps) left out parted pairs = ⊎_elim
      (λ (more, is, rest). subst (λ (l : List Part). AllPairs R l) (sym is)
      (AllPairs-cons R p more (all_left (R p) ps more out rest (AllPairs-head R p ps pairs))
      (pairs_left ps more out rest (AllPairs-tail R p ps pairs))))
      (λ (more, is, rest). pairs_left ps left more rest (AllPairs-tail R p ps pairs))
      parted

  pub pairs_out : (old left out : List Part) → AreParted old left out → AllPairs R old → AllPairs R out
  pairs_out [] left out parted pairs = subst (λ (l : List Part). AllPairs R l) (sym parted.1) (AllPairs-nil R)
  pairs_out (p ∷ ps) left out parted pairs = ⊎_elim
      (λ (more, is, rest). pairs_out ps more out rest (AllPairs-tail R p ps pairs))
      (λ (more, is, rest). subst (λ (l : List Part). AllPairs R l) (sym is)
      (AllPairs-cons R p more (all_out (R p) ps left more rest (AllPairs-head R p ps pairs))
      (pairs_out ps left more rest (AllPairs-tail R p ps pairs))))
      parted

  -- each that is left with each that was taken out
  pub pairs_across : ((a b : Part) → R a b → R b a) → (old left out : List Part) → AreParted old left out → AllPairs R old
      → All (λ a. All (R a) out) left
  pairs_across turn [] left out parted pairs =
      subst (λ (l : List Part). All (λ (a : Part). All (R a) out) l) (sym parted.0) (All-nil (λ (a : Part). All (R a) out))
  pairs_across turn (p ∷ ps) left out parted pairs = ⊎_elim
      (λ (more, is, rest). subst (λ (l : List Part). All (λ (a : Part). All (R a) out) l) (sym is)
      (All-cons (λ (a : Part). All (R a) out) p more (all_out (R p) ps more out rest (AllPairs-head R p ps pairs))
      (pairs_across turn ps more out rest (AllPairs-tail R p ps pairs))))
      (λ (more, is, rest). subst (λ (l : List Part). All (λ (a : Part). All (R a) l) left) (sym is)
      (λ k d within. All-cons (R (get_or left k d)) p more
      (turn p (get_or left k d) (all_left (R p) ps left more rest (AllPairs-head R p ps pairs) k d within))
      (pairs_across turn ps left more rest (AllPairs-tail R p ps pairs) k d within)))
      parted

-- none was taken out
pub none_out : (old left out : List Part) → AreParted old left out → out ≡ [] → left ≡ old
none_out [] left out parted none = parted.0
none_out (p ∷ ps) left out parted none = ⊎_elim
    (λ (more, is, rest). is ∙ ap (λ (l : List Part). p ∷ l) (none_out ps more out rest none))
    (λ (more, is, rest). absurd (Contains-nil p (subst (λ (l : List Part). Contains l p) (sym is ∙ none) (Contains-first p more))))
    parted

-- ---- parts that are kept

module _ (start : Contents) (place : ℕ) (calls : List Operation) where
  pub parted_kept : (front : List KeptPart) (old left out : List Part) → AreParted old left out
      → AreKept start place calls (front ++ map kept_part old)
      → AreKept start place calls (front ++ (map kept_part out ++ map kept_part left))
  parted_kept front [] left out parted are =
      subst (λ (l : List Part). AreKept start place calls (front ++ (map kept_part out ++ map kept_part l))) (sym parted.0)
      (subst (λ (l : List Part). AreKept start place calls (front ++ (map kept_part l ++ []))) (sym parted.1) are)
  parted_kept front (p ∷ ps) left out parted are = ⊎_elim
      (λ (more, is, rest). subst (λ (l : List Part). AreKept start place calls (front ++ (map kept_part out ++ map kept_part l))) (sym is)
      (subst (λ (l : List KeptPart). AreKept start place calls l) (append_assoc front (map kept_part out) (kept_part p ∷ map kept_part more))
      ((parts_move start place calls (kept_part p) (front ++ map kept_part out) (map kept_part more)).1
      (subst (λ (l : List KeptPart). AreKept start place calls (kept_part p ∷ l))
      (sym (append_assoc front (map kept_part out) (map kept_part more)))
      (parted_kept (kept_part p ∷ front) ps more out rest first)))))
      (λ (more, is, rest). subst (λ (l : List Part). AreKept start place calls (front ++ (map kept_part l ++ map kept_part left))) (sym is)
      ((parts_move start place calls (kept_part p) front (map kept_part more ++ map kept_part left)).1
      (parted_kept (kept_part p ∷ front) ps left more rest first)))
      parted
    where
      first : AreKept start place calls (kept_part p ∷ front ++ map kept_part ps)
      first = (parts_move start place calls (kept_part p) front (map kept_part ps)).0 are

-- ---- keys at rest

abbrev has_key : ℕ → Part → Bool
has_key key part = covered part.ranges.items key

rest_by_test : (p : Part) (ps : List Part) (key : ℕ) → (is_at_rest ps key ≡ true) ⊎ IsIn ps key → (b : Bool) → has_key key p ≡ b
    → (is_at_rest (p ∷ ps) key ≡ true) ⊎ IsIn (p ∷ ps) key
rest_by_test p ps key later true is = inr (Any-first (λ (q : Part). covered q.ranges.items key ≡ true) p ps is)
rest_by_test p ps key later false is = ⊎_elim
    (λ rest. inl (ap (λ (b : Bool). not (b || list_any (has_key key) ps)) is ∙ rest))
    (λ there. inr (Any-later (λ (q : Part). covered q.ranges.items key ≡ true) p ps there))
    later

rest_or_in : (parts : List Part) (key : ℕ) → (is_at_rest parts key ≡ true) ⊎ IsIn parts key
rest_or_in [] key = inl refl
rest_or_in (p ∷ ps) key = rest_by_test p ps key (rest_or_in ps key) (has_key key p) refl

pub at_rest_from : (parts : List Part) (key : ℕ) → All (λ part. covered part.ranges.items key ≡ false) parts → is_at_rest parts key ≡ true
at_rest_from parts key none = ap not (list_any_none (has_key key) parts none)

in_left_or_out : (old left out : List Part) → AreParted old left out → (key : ℕ) → IsIn old key → IsIn left key ⊎ IsIn out key
in_left_or_out old left out parted key there =
    let (part, part_in, here) = any_to (λ (p : Part). covered p.ranges.items key ≡ true) old there in ⊎_elim
    (λ own. inl (own.0, part, own.1, own.2, here))
    (λ other. inr (other.0, part, other.1, other.2, here))
    (parted_each old left out parted part part_in)

or_true : (b : Bool) → (b || true) ≡ true
or_true true = refl
or_true false = refl

any_true : (key : ℕ) (ps : List Part) (part : Part) → Contains ps part → has_key key part ≡ true → list_any (has_key key) ps ≡ true
any_true key [] part part_in here = absurd (Contains-nil part part_in)
any_true key (p ∷ ps) part part_in here = ⊎_elim
    (λ (same : p ≡ part). ap (λ (b : Bool). b || list_any (has_key key) ps) (ap (has_key key) same ∙ here))
    (λ later. ap (λ (b : Bool). has_key key p || b) (any_true key ps part later here) ∙ or_true (has_key key p))
    (Contains-cases p ps part part_in)

not_at_rest : (parts : List Part) (key : ℕ) → IsIn parts key → is_at_rest parts key ≡ false
not_at_rest parts key there =
    let (part, part_in, here) = any_to (λ (p : Part). covered p.ranges.items key ≡ true) parts there in
    ap not (any_true key parts part part_in here)

-- each key of the range is at rest, or of a part that was taken out
pub met_cover : (low high : ℕ) (old left met : List Part) → AreMet low high old left met → (key : ℕ) → from_to low high key ≡ true
    → (is_at_rest old key ≡ true) ⊎ IsIn met key
met_cover low high old left met is key here = ⊎_elim
    (λ rest. inl rest)
    (λ there. ⊎_elim
    (λ own.
    let (part, part_in, has) = any_to (λ (p : Part). covered p.ranges.items key ≡ true) left own in
    let both = and_parts (nat_le low key) (nat_le key high) here in
    absurd (false≢true
    (sym (All-contains (λ (p : Part). (k : ℕ) → low ≤ k → k ≤ high → covered p.ranges.items k ≡ false) left part is.others part_in key
    (leb-true low key both.0) (leb-true key high both.1)) ∙ has)))
    (λ other. inr other)
    (in_left_or_out old left met is.parted key there))
    (rest_or_in old key)

-- no part has a key of the range, if none was taken out
pub none_met : (low high : ℕ) (old left met : List Part) → AreMet low high old left met → met ≡ [] → (key : ℕ) → from_to low high key ≡ true
    → is_at_rest left key ≡ true
none_met low high old left met is none key here =
    let both = and_parts (nat_le low key) (nat_le key high) here in
    at_rest_from left key (λ k d within. is.others k d within key (leb-true low key both.0) (leb-true key high both.1))

-- the keys at rest that are in none of these ranges, after the parts were taken out that have some of them
pub met_rest : (low high : ℕ) (old left met : List Part) → AreMet low high old left met → (ranges : List Range)
    → ((key : ℕ) → IsIn met key → covered ranges key ≡ true) → (key : ℕ)
    → outside (is_at_rest left) (covered ranges) key ≡ outside (is_at_rest old) (covered ranges) key
met_rest low high old left met is ranges of_parts key = by_test (covered ranges key) refl
  where
    none_either : (a b : Bool) → (a && false) ≡ (b && false)
    none_either true true = refl
    none_either true false = refl
    none_either false true = refl
    none_either false false = refl

    same_rest : covered ranges key ≡ false → is_at_rest left key ≡ is_at_rest old key
    same_rest out = ⊎_elim
        (λ rest. ⊎_elim
        (λ own. own ∙ sym rest)
        (λ there.
        let (part, part_in, has) = any_to (λ (p : Part). covered p.ranges.items key ≡ true) left there in
        let again = parted_left old left met is.parted part part_in in
        absurd (false≢true (sym (not_at_rest old key (again.0, part, again.1, again.2, has)) ∙ rest)))
        (rest_or_in left key))
        (λ there. ⊎_elim
        (λ own. not_at_rest left key own ∙ sym (not_at_rest old key there))
        (λ other. absurd (false≢true (sym out ∙ of_parts key other)))
        (in_left_or_out old left met is.parted key there))
        (rest_or_in old key)

    by_test : (b : Bool) → covered ranges key ≡ b
        → (is_at_rest left key && not (covered ranges key)) ≡ (is_at_rest old key && not (covered ranges key))
    by_test true has =
        ap (λ (c : Bool). is_at_rest left key && not c) has
        ∙ (none_either (is_at_rest left key) (is_at_rest old key) ∙ ap (λ (c : Bool). is_at_rest old key && not c) (sym has))
    by_test false out = ap (λ (c : Bool). c && not (covered ranges key)) (same_rest out)

pub met_same : (low high low_then high_then : ℕ) (old old_then left met : List Part) → low ≡ low_then → high ≡ high_then → old ≡ old_then
    → AreMet low high old left met → AreMet low_then high_then old_then left met
met_same low high low_then high_then old old_then left met e f g is =
    subst (λ (n : ℕ). AreMet n high_then old_then left met) e
    (subst (λ (n : ℕ). AreMet low n old_then left met) f
    (subst (λ (l : List Part). AreMet low high l left met) g is))
