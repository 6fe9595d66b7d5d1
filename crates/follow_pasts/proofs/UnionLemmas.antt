-- Parts that meet a range and the keys at rest become one (`united_become`).
use Rattle.follow_pasts.proofs.Common.{◌≡◌, ℕ, ◌<◌, ◌==◌, Bool, true, false, cond, not, ◌||◌, List, [], ◌∷◌, ◌++◌, map, Option, None, Some, inl, inr}
use Rattle.follow_pasts.proofs.Common.{refl, sym, ap, ◌∙◌, subst, ⊎_elim, ◌⊎◌, All, Any, Contains, AllZip, false≢true, and_parts, and_from, or_cases}
use Rattle.follow_pasts.proofs.Common.{or_left, or_right, eqb-true, map-append, All-nil, All-cons, All-head, All-tail, All-contains}
use Rattle.follow_pasts.proofs.Common.{Contains-append_left, Contains-append_right, Contains-append_cases, AllPairs-filter, Contains-map}
use Rattle.follow_pasts.proofs.Common.{Contains-from_map, All-from_contains, AllPairs-nil, Any-first, Any-later, Contains-first, Contains-later}
use Rattle.follow_pasts.proofs.Common.{Contains-nil, Contains-cases, Operation, Contents, IsRising, value_at, same_pairs, Keys, HasKeysIn, pairs_at}
use Rattle.follow_pasts.proofs.Common.{FoundAt, KeptPast, KeptPart, IsKeptAs, AreKept, at_rest, IsWithinKeys, found_at, kept_of, Past, covered, from_to}
use Rattle.follow_pasts.proofs.Common.{or_else, kept_part, ArePairsOf, IsTakenFrom, AreOne, AreAllPairs, IsTogetherWith, IsIn, resting, outside, Become}
use Rattle.follow_pasts.proofs.Common.{Part, Range, United}
use Rattle.std.proofs.Common.{◌&&◌}
use Rattle.follow_laws.specs.Apart.{AreApart}
use Rattle.follow_laws.specs.Parts.{Part as ChosenPart}
use Rattle.follow_laws.specs.Unions.{both_keys, IsTogether, ArePairs, FallsApart}
use Rattle.follow_laws.proofs.KeptPartLemmas.{IsKeptFirst, first_of, others_apart}
use Rattle.follow_laws.proofs.PastLemmas.{zip_back, kept_pasts_are_within}
use Rattle.follow_laws.proofs.KeptStepLemmas.{any_to, parts_move}
use Rattle.follow_laws.proofs.KeptUniteLemmas.{kept_parts_unite, kept_parts_fall_apart}

-- ---- tests

true_or_false : (b : Bool) → (b ≡ true) ⊎ (b ≡ false)
true_or_false true = inl refl
true_or_false false = inr refl

same_tests : (a b : Bool) → (a ≡ true → b ≡ true) → (b ≡ true → a ≡ true) → a ≡ b
same_tests true b forth back = sym (forth refl)
same_tests false true forth back = back refl
same_tests false false forth back = refl

split_test : (a b : Bool) → ((a && not b) || (a && b)) ≡ a
split_test true true = refl
split_test true false = refl
split_test false b = refl

split_apart : (a b : Bool) → (a && not b) ≡ true → (a && b) ≡ false
split_apart true true is = absurd (false≢true is)
split_apart true false is = refl
split_apart false b is = refl

split_left : (a b : Bool) (v : Option ℕ) → (a ≡ false → v ≡ None) → cond b None v ≡ cond (a && not b) v None
split_left true true v none = refl
split_left true false v none = refl
split_left false true v none = refl
split_left false false v none = none refl

split_taken : (a b : Bool) (v : Option ℕ) → (a ≡ false → v ≡ None) → cond b v None ≡ cond (a && b) v None
split_taken true b v none = refl
split_taken false true v none = none refl
split_taken false false v none = refl

outside_same : (a b c : Bool) → (a ≡ true → b ≡ c) → (a && not b) ≡ (a && not c)
outside_same true b c same = ap not (same refl)
outside_same false b c same = refl

-- ---- parts that are kept

pub same_keys : (start : Contents) (place : ℕ) (calls : List Operation) (keys others : Keys) (pasts : List KeptPast) (rest : List KeptPart)
    → ((key : ℕ) → others key ≡ keys key) → AreKept start place calls (record { keys = keys; pasts = pasts } ∷ rest)
    → AreKept start place calls (record { keys = others; pasts = pasts } ∷ rest)
same_keys start place calls keys others pasts rest same are =
    subst (λ (ks : Keys). AreKept start place calls (record { keys = ks; pasts = pasts } ∷ rest)) equal are
  where
    equal : keys ≡ others
    equal = λ i key. sym (same key) i

-- the first part has no key of another
pub kept_apart : (start : Contents) (place : ℕ) (calls : List Operation) (kept : KeptPart) (rest : List KeptPart)
    → AreKept start place calls (kept ∷ rest) → All (λ other. AreApart kept.keys other.keys) rest
kept_apart start place calls kept rest are =
    by_others rest first.others first.are_others (others_apart start place calls kept rest first)
  where
    first : IsKeptFirst start place calls kept rest
    first = first_of start place calls kept rest are

    by_others : (parts : List KeptPart) (others : List ChosenPart) → AllZip (IsKeptAs calls) parts others
        → All (λ part. AreApart kept.keys part.keys) others → All (λ other. AreApart kept.keys other.keys) parts
    by_others [] others zip apart = All-nil (λ (other : KeptPart). AreApart kept.keys other.keys)
    by_others (part ∷ parts) [] zip apart = absurd zip
    by_others (part ∷ parts) (other ∷ others) zip apart =
        All-cons (λ (other : KeptPart). AreApart kept.keys other.keys) part parts
        (subst (λ (keys : Keys). AreApart kept.keys keys) zip.0.keys
        (All-head (λ (one : ChosenPart). AreApart kept.keys one.keys) other others apart))
        (by_others parts others zip.1 (All-tail (λ (one : ChosenPart). AreApart kept.keys one.keys) other others apart))

-- ---- all pairs of pasts

or_none : (v : Option ℕ) → or_else v None ≡ v
or_none None = refl
or_none (Some v) = refl

module _ (keys others : Keys) (apart : AreApart keys others) where
  together_of : (past other one : Past) → IsWithinKeys keys (kept_of past) → IsWithinKeys others (kept_of other) → AreOne past other one
      → IsTogether keys (kept_of past) (kept_of other) (kept_of one)
  together_of past other one first second is = record {
    together = record {
      rises = is.rises;
      values = λ key. is.pairs key ∙ by_key key (true_or_false (keys key));
      rising = is.rising;
      from = λ o o_in. (is.left o).0 o_in;
      first = λ o o_in. (is.left o).1 (inl o_in);
      second = λ o o_in. (is.left o).1 (inr o_in);
    };
    found = λ f. (
      λ f_in. Contains-append_cases (map found_at past.found.items) (map found_at other.found.items) f
          (subst (λ (l : List FoundAt). Contains l f) same f_in),
      λ which. subst (λ (l : List FoundAt). Contains l f) (sym same) (⊎_elim
          (λ here. Contains-append_left (map found_at past.found.items) (map found_at other.found.items) f here)
          (λ there. Contains-append_right (map found_at past.found.items) (map found_at other.found.items) f there) which),
    );
  }
    where
      same : map found_at one.found.items ≡ map found_at past.found.items ++ map found_at other.found.items
      same = ap (map found_at) is.found ∙ map-append found_at past.found.items other.found.items

      by_key : (key : ℕ) → (keys key ≡ true) ⊎ (keys key ≡ false)
          → or_else (value_at other.map key) (value_at past.map key) ≡ cond (keys key) (value_at past.map key) (value_at other.map key)
      by_key key (inl here) = rw here (ap (λ (v : Option ℕ). or_else v (value_at past.map key)) (second.nothing key (apart key here)))
      by_key key (inr out) =
          rw out (ap (λ (v : Option ℕ). or_else (value_at other.map key) v) (first.nothing key out) ∙ or_none (value_at other.map key))

  row_of : (past : Past) (own front : List Past) → IsWithinKeys keys (kept_of past) → All (IsWithinKeys others) (map kept_of own)
      → AllZip (AreOne past) own front → AllZip (λ b c. IsTogether keys (kept_of past) b c) (map kept_of own) (map kept_of front)
  row_of past [] [] first second row = tt
  row_of past [] (one ∷ front) first second row = absurd row
  row_of past (other ∷ own) [] first second row = absurd row
  row_of past (other ∷ own) (one ∷ front) first second row = (
    together_of past other one first (All-head (IsWithinKeys others) (kept_of other) (map kept_of own) second) row.0,
    row_of past own front first (All-tail (IsWithinKeys others) (kept_of other) (map kept_of own) second) row.1,
  )

  pairs_of : (pasts own all : List Past) → All (IsWithinKeys keys) (map kept_of pasts) → All (IsWithinKeys others) (map kept_of own)
      → AreAllPairs pasts own all → ArePairs keys (map kept_of pasts) (map kept_of own) (map kept_of all)
  pairs_of [] own all first second pairs = ap (map kept_of) pairs
  pairs_of (past ∷ pasts) own all first second (front, back, same, row, more) = (
    map kept_of front,
    map kept_of back,
    ap (map kept_of) same ∙ map-append kept_of front back,
    row_of past own front (All-head (IsWithinKeys keys) (kept_of past) (map kept_of pasts) first) second row,
    pairs_of pasts own back (All-tail (IsWithinKeys keys) (kept_of past) (map kept_of pasts) first) second more,
  )

-- each is made of one of both
pub pair_of : (pasts own all : List Past) → AreAllPairs pasts own all → (one : Past) → Contains all one
    → (a : Past) × (b : Past) × Contains pasts a × Contains own b × AreOne a b one
pair_of [] own all pairs one one_in = absurd (Contains-nil one (subst (λ (l : List Past). Contains l one) pairs one_in))
pair_of (past ∷ pasts) own all (front, back, same, row, more) one one_in = ⊎_elim
    (λ here. let (b, b_in, is) = zip_back (AreOne past) own front row one here in (past, b, Contains-first past pasts, b_in, is))
    (λ there.
    let (a, b, a_in, b_in, is) = pair_of pasts own back more one there in (a, b, Contains-later past pasts a a_in, b_in, is))
    (Contains-append_cases front back one (subst (λ (l : List Past). Contains l one) same one_in))

-- ---- parts that come one after another

-- parts were united with a part, one after another
abbrev pub UniteAll : United → List Part → United → Type 0
UniteAll united [] last = last ≡ united
UniteAll united (part ∷ parts) last = (next : United) × IsTogetherWith united part next × UniteAll next parts last

abbrev pub with_parts : Keys → List Part → Keys
with_parts keys [] = keys
with_parts keys (part ∷ parts) = with_parts (both_keys keys (covered part.ranges.items)) parts

with_from : (keys : Keys) (parts : List Part) (key : ℕ) → with_parts keys parts key ≡ true → (keys key ≡ true) ⊎ IsIn parts key
with_from keys [] key is = inl is
with_from keys (part ∷ parts) key is = ⊎_elim
    (λ both. ⊎_elim (λ own. inl own)
    (λ here. inr (Any-first (λ (p : Part). covered p.ranges.items key ≡ true) part parts here))
    (or_cases (keys key) (covered part.ranges.items key) both))
    (λ later. inr (Any-later (λ (p : Part). covered p.ranges.items key ≡ true) part parts later))
    (with_from (both_keys keys (covered part.ranges.items)) parts key is)

with_keys : (keys : Keys) (parts : List Part) (key : ℕ) → keys key ≡ true → with_parts keys parts key ≡ true
with_keys keys [] key is = is
with_keys keys (part ∷ parts) key is =
    with_keys (both_keys keys (covered part.ranges.items)) parts key (or_left (keys key) (covered part.ranges.items key) is)

with_part : (keys : Keys) (parts : List Part) (key : ℕ) (one : Part) → Contains parts one → covered one.ranges.items key ≡ true
    → with_parts keys parts key ≡ true
with_part keys [] key one one_in is = absurd (Contains-nil one one_in)
with_part keys (part ∷ parts) key one one_in is = ⊎_elim
    (λ here. with_keys (both_keys keys (covered part.ranges.items)) parts key (or_right (keys key) (covered part.ranges.items key)
    (subst (λ (p : Part). covered p.ranges.items key ≡ true) (sym here) is)))
    (λ later. with_part (both_keys keys (covered part.ranges.items)) parts key one later is)
    (Contains-cases part parts one one_in)

with_in : (keys : Keys) (parts : List Part) (key : ℕ) → IsIn parts key → with_parts keys parts key ≡ true
with_in keys parts key there =
    let (one, one_in, is) = any_to (λ (p : Part). covered p.ranges.items key ≡ true) parts there in with_part keys parts key one one_in is

covered_all : (keys : Keys) (united : United) (parts : List Part) (last : United)
    → ((key : ℕ) → covered united.ranges.items key ≡ keys key) → UniteAll united parts last → (key : ℕ)
    → covered last.ranges.items key ≡ with_parts keys parts key
covered_all keys united [] last same all key = ap (λ (u : United). covered u.ranges.items key) all ∙ same key
covered_all keys united (part ∷ parts) last same (next, is, more) key =
    covered_all (both_keys keys (covered part.ranges.items)) next parts last
    (λ other. is.keys other ∙ ap (λ (b : Bool). b || covered part.ranges.items other) (same other)) more key

united_leads : (start : Contents) (place : ℕ) (calls : List Operation) (tail : List KeptPart) (keys : Keys) (united : United)
    (parts : List Part) (last : United) → UniteAll united parts last
    → AreKept start place calls (record { keys = keys; pasts = map kept_of united.pasts.items } ∷ map kept_part parts ++ tail)
    → AreKept start place calls (record { keys = with_parts keys parts; pasts = map kept_of last.pasts.items } ∷ tail)
united_leads start place calls tail keys united [] last all are =
    subst (λ (u : United). AreKept start place calls (record { keys = keys; pasts = map kept_of u.pasts.items } ∷ tail)) (sym all) are
united_leads start place calls tail keys united (part ∷ parts) last (next, is, more) are =
    united_leads start place calls tail (both_keys keys others) next parts last more
    (kept_parts_unite start place calls (record { keys = keys; pasts = map kept_of united.pasts.items }) (kept_part part)
    (map kept_of next.pasts.items) (map kept_part parts ++ tail) pairs are)
  where
    others : Keys
    others = covered part.ranges.items

    whole : KeptPart
    whole = record { keys = keys; pasts = map kept_of united.pasts.items }

    apart : AreApart keys others
    apart = All-head (λ (other : KeptPart). AreApart keys other.keys) (kept_part part) (map kept_part parts ++ tail)
        (kept_apart start place calls whole (kept_part part ∷ map kept_part parts ++ tail) are)

    first : All (IsWithinKeys keys) (map kept_of united.pasts.items)
    first = kept_pasts_are_within start place calls whole (kept_part part ∷ map kept_part parts ++ tail) are

    second : All (IsWithinKeys others) (map kept_of is.own)
    second = subst (All (IsWithinKeys others)) (sym is.own_is)
        (kept_pasts_are_within start place calls (kept_part part) (whole ∷ map kept_part parts ++ tail)
        ((parts_move start place calls (kept_part part) (whole ∷ []) (map kept_part parts ++ tail)).0 are))

    pairs : ArePairs keys (map kept_of united.pasts.items) (kept_part part).pasts (map kept_of next.pasts.items)
    pairs = subst (λ (l : List KeptPast). ArePairs keys (map kept_of united.pasts.items) l (map kept_of next.pasts.items)) is.own_is
        (pairs_of keys others apart united.pasts.items is.own next.pasts.items first second is.pairs)

-- ---- the keys at rest of a range

abbrev no_value : Option ℕ
no_value = None

pub none_either : (b : Bool) → no_value ≡ cond b no_value no_value
none_either true = refl
none_either false = refl

pub values_at_some : (keys : Keys) (pairs : Contents) (key : ℕ) → value_at (pairs_at keys pairs) key ≡ cond (keys key) (value_at pairs key) None
values_at_some keys [] key = none_either (keys key)
values_at_some keys ((k, v) ∷ m) key = by_test (keys k) (k == key) refl refl (values_at_some keys m key)
  where
    there : (b : Bool) → keys k ≡ b → (k == key) ≡ true → keys key ≡ b
    there b is named = subst (λ (n : ℕ). keys n ≡ b) (eqb-true k key named) is

    both_none : (b : Bool) (x y : Option ℕ) → b ≡ false → cond b x None ≡ cond b y None
    both_none true x y is = absurd (false≢true (sym is))
    both_none false x y is = refl

    by_test : (b t : Bool) → keys k ≡ b → (k == key) ≡ t → value_at (pairs_at keys m) key ≡ cond (keys key) (value_at m key) None
        → value_at (cond b ((k, v) ∷ pairs_at keys m) (pairs_at keys m)) key ≡ cond (keys key) (cond (k == key) (Some v) (value_at m key)) None
    by_test true true is named rest = rw named (rw (there true is named) refl)
    by_test true false is named rest = rw named rest
    by_test false true is named rest =
        rest ∙ both_none (keys key) (value_at m key) (cond (k == key) (Some v) (value_at m key)) (there false is named)
    by_test false false is named rest = rw named rest

pub pairs_rise : (keys : Keys) (pairs : Contents) → IsRising pairs → IsRising (pairs_at keys pairs)
pairs_rise keys pairs rising =
    AllPairs-filter (λ (a : ℕ × ℕ) (b : ℕ × ℕ). a.0 < b.0) (λ (pair : ℕ × ℕ). keys pair.0) pairs rising

module _ (low high : ℕ) (old new pairs : Contents) (taken : ArePairsOf low high old new pairs) (keys : Keys)
    (is : IsWithinKeys keys (at_rest old)) where
  abbrev left_keys : Keys
  left_keys = outside keys (from_to low high)

  abbrev own_keys : Keys
  own_keys key = keys key && from_to low high key

  left_same : new ≡ pairs_at left_keys old
  left_same = same_pairs new (pairs_at left_keys old) taken.left (pairs_rise left_keys old is.rising) (λ key.
      taken.values key ∙ split_left (keys key) (from_to low high key) (value_at old key) (is.nothing key)
      ∙ sym (values_at_some left_keys old key))

  own_same : pairs ≡ pairs_at own_keys old
  own_same = taken.taken ∙ same_pairs (pairs_at (from_to low high) old) (pairs_at own_keys old)
      (pairs_rise (from_to low high) old is.rising) (pairs_rise own_keys old is.rising) (λ key.
      values_at_some (from_to low high) old key ∙ split_taken (keys key) (from_to low high key) (value_at old key) (is.nothing key)
      ∙ sym (values_at_some own_keys old key))

  rest_falls_apart : FallsApart left_keys own_keys (at_rest old) (at_rest new) (at_rest pairs)
  rest_falls_apart = record {
    pairs = left_same;
    other_pairs = own_same;
    rising = AllPairs-nil (λ (o : Operation) (p : Operation). o.inv < p.inv);
    other_rising = AllPairs-nil (λ (o : Operation) (p : Operation). o.inv < p.inv);
    each = All-nil (λ (o : Operation). HasKeysIn left_keys o ⊎ HasKeysIn own_keys o);
    left = λ o. (λ o_in. absurd (Contains-nil o o_in), λ both. absurd (Contains-nil o both.0));
    other_left = λ o. (λ o_in. absurd (Contains-nil o o_in), λ both. absurd (Contains-nil o both.0));
    found = λ f. (λ f_in. absurd (Contains-nil f f_in), λ both. absurd (Contains-nil f both.0));
    other_found = λ f. (λ f_in. absurd (Contains-nil f f_in), λ both. absurd (Contains-nil f both.0));
  }

rest_is_two : (low high : ℕ) (old new pairs : Contents) → ArePairsOf low high old new pairs → (start : Contents) (place : ℕ)
    (calls : List Operation) (keys : Keys) (rest : List KeptPart) → AreKept start place calls (resting keys old ∷ rest)
    → AreKept start place calls (resting (outside keys (from_to low high)) new
    ∷ resting (λ key. keys key && from_to low high key) pairs ∷ rest)
rest_is_two low high old new pairs taken start place calls keys rest are =
    kept_parts_fall_apart start place calls left own (at_rest new) (at_rest old ∷ []) (at_rest pairs ∷ []) rest
    (λ key here. split_apart (keys key) (from_to low high key) here)
    (λ none. Contains-nil (at_rest old) (subst (λ (l : List KeptPast). Contains l (at_rest old)) none (Contains-first (at_rest old) [])))
    (rest_falls_apart low high old new pairs taken keys within, tt)
    (same_keys start place calls keys (both_keys left own) (at_rest old ∷ []) rest
    (λ key. split_test (keys key) (from_to low high key)) are)
  where
    left : Keys
    left key = keys key && not (from_to low high key)

    own : Keys
    own key = keys key && from_to low high key

    within : IsWithinKeys keys (at_rest old)
    within = All-head (IsWithinKeys keys) (at_rest old) []
        (kept_pasts_are_within start place calls (resting keys old) rest are)

-- ---- all of it

module _ (low high : ℕ) (old new : Contents) (met : List Part) (first last : United) (taken : IsTakenFrom low high old new first)
    (all : UniteAll first met last) (ranges : List Range) (same : (key : ℕ) → covered ranges key ≡ covered last.ranges.items key) where
  keys_are : (key : ℕ) → covered ranges key ≡ with_parts (from_to low high) met key
  keys_are key = same key ∙ covered_all (from_to low high) first met last taken.keys all key

  module _ (start : Contents) (place : ℕ) (calls : List Operation) (keys : Keys) (more : List KeptPart)
      (cover : (key : ℕ) → from_to low high key ≡ true → (keys key ≡ true) ⊎ IsIn met key)
      (are : AreKept start place calls (resting keys old ∷ map kept_part met ++ more)) where
    abbrev own : Keys
    own key = keys key && from_to low high key

    abbrev left : KeptPart
    left = resting (outside keys (from_to low high)) new

    behind : AreKept start place calls (record { keys = own; pasts = map kept_of first.pasts.items } ∷ map kept_part met ++ left ∷ more)
    behind = subst (λ (l : List KeptPast). AreKept start place calls (record { keys = own; pasts = l } ∷ map kept_part met ++ left ∷ more))
        (sym taken.pasts)
        ((parts_move start place calls left (resting own taken.pairs ∷ map kept_part met) more).1
        (rest_is_two low high old new taken.pairs taken.taken start place calls keys (map kept_part met ++ more) are))

    as_one : AreKept start place calls (record { keys = with_parts own met; pasts = map kept_of last.pasts.items } ∷ left ∷ more)
    as_one = united_leads start place calls (left ∷ more) own first met last all behind

    all_keys : (key : ℕ) → covered ranges key ≡ with_parts own met key
    all_keys key = keys_are key ∙ same_tests (with_parts (from_to low high) met key) (with_parts own met key)
        (λ is. ⊎_elim
        (λ here. ⊎_elim (λ at. with_keys own met key (and_from (keys key) (from_to low high key) at here)) (λ there. with_in own met key there)
        (cover key here))
        (λ there. with_in own met key there)
        (with_from (from_to low high) met key is))
        (λ is. ⊎_elim
        (λ here. with_keys (from_to low high) met key (and_parts (keys key) (from_to low high key) here).1)
        (λ there. with_in (from_to low high) met key there)
        (with_from own met key is))

    -- a key at rest is of none of the parts
    of_range : (key : ℕ) → keys key ≡ true → covered ranges key ≡ from_to low high key
    of_range key at = keys_are key ∙ same_tests (with_parts (from_to low high) met key) (from_to low high key)
        (λ is. ⊎_elim (λ here. here)
        (λ there.
        let (part, part_in, here) = any_to (λ (p : Part). covered p.ranges.items key ≡ true) met there in
        let apart : AreApart keys (covered part.ranges.items) =
        All-contains (λ (other : KeptPart). AreApart keys other.keys) (map kept_part met ++ more) (kept_part part)
        (kept_apart start place calls (resting keys old) (map kept_part met ++ more) are)
        (Contains-append_left (map kept_part met) more (kept_part part) (Contains-map kept_part met part part_in)) in
        absurd (false≢true (sym (apart key at) ∙ here)))
        (with_from (from_to low high) met key is))
        (λ here. with_keys (from_to low high) met key here)

    leads_to : AreKept start place calls
        (resting (outside keys (covered ranges)) new ∷ record { keys = covered ranges; pasts = map kept_of last.pasts.items } ∷ more)
    leads_to = same_keys start place calls (outside keys (from_to low high)) (outside keys (covered ranges)) (at_rest new ∷ [])
        (record { keys = covered ranges; pasts = map kept_of last.pasts.items } ∷ more)
        (λ key. outside_same (keys key) (covered ranges key) (from_to low high key) (of_range key))
        ((parts_move start place calls left (record { keys = covered ranges; pasts = map kept_of last.pasts.items } ∷ []) more).0
        (same_keys start place calls (with_parts own met) (covered ranges) (map kept_of last.pasts.items) (left ∷ more) all_keys as_one))

-- a call is left of one of these parts
abbrev pub IsOfParts : List Part → Operation → Type 0
IsOfParts parts o = Any (λ part. Any (λ other. Contains other.left o) (kept_part part).pasts) parts

pub any_here : {X : Type 0} (P : X → Type 0) (xs : List X) (x : X) → Contains xs x → P x → Any P xs
any_here P xs x x_in is = (x_in.0, x, x_in.1, x_in.2, is)

pub own_all : (united : United) (parts : List Part) (last : United) → UniteAll united parts last → (past : Past) (o : Operation)
    → Contains last.pasts.items past → Contains past.calls.items o
    → ((u : Past) × Contains united.pasts.items u × Contains u.calls.items o) ⊎ IsOfParts parts o
own_all united [] last all past o past_in o_in =
    inl (past, subst (λ (u : United). Contains u.pasts.items past) all past_in, o_in)
own_all united (part ∷ parts) last (next, is, more) past o past_in o_in = ⊎_elim
    (λ old.
    let (one, one_in, in_one) = old in
    let (a, b, a_in, b_in, both) = pair_of united.pasts.items is.own next.pasts.items is.pairs one one_in in
    ⊎_elim (λ here. inl (a, a_in, here))
    (λ there. inr (Any-first (λ (p : Part). Any (λ other. Contains other.left o) (kept_part p).pasts) part parts
    (any_here (λ (other : KeptPast). Contains other.left o) (kept_part part).pasts (kept_of b)
    (subst (λ (l : List KeptPast). Contains l (kept_of b)) is.own_is (Contains-map kept_of is.own b b_in)) there)))
    ((both.left o).0 in_one))
    (λ later. inr (Any-later (λ (p : Part). Any (λ other. Contains other.left o) (kept_part p).pasts) part parts later))
    (own_all next parts last more past o past_in o_in)

-- nothing is left of the calls of keys at rest
none_at_rest : (pasts : List Past) (pairs : Contents) → map kept_of pasts ≡ at_rest pairs ∷ [] → (past : Past) (o : Operation)
    → Contains pasts past → Contains past.calls.items o → ⊥
none_at_rest pasts pairs is past o past_in o_in =
    ⊎_elim (λ same. Contains-nil o (subst (λ (k : KeptPast). Contains k.left o) (sym same) o_in))
    (λ none. Contains-nil (kept_of past) none)
    (Contains-cases (at_rest pairs) [] (kept_of past)
    (subst (λ (l : List KeptPast). Contains l (kept_of past)) is (Contains-map kept_of pasts past past_in)))

pub united_become : (low high : ℕ) (old new : Contents) (met : List Part) (first last : United) → IsTakenFrom low high old new first
    → UniteAll first met last → (ranges : List Range) → ((key : ℕ) → covered ranges key ≡ covered last.ranges.items key)
    → Become low high old new met ranges (map kept_of last.pasts.items)
united_become low high old new met first last taken all ranges same = record {
  rises = taken.taken.left;
  spans = λ key here. are key ∙ with_keys (from_to low high) met key here;
  within = λ key here. with_from (from_to low high) met key (sym (are key) ∙ here);
  of_parts = λ key there. are key ∙ with_in (from_to low high) met key there;
  leads = λ start place calls keys more cover kept. leads_to low high old new met first last taken all ranges same start place calls keys
      more cover kept;
  own = All-from_contains (λ (past : KeptPast). All (IsOfParts met) past.left) (map kept_of last.pasts.items) (λ past past_in.
      let (one, one_in, is) = Contains-from_map kept_of last.pasts.items past past_in in
      All-from_contains (IsOfParts met) past.left (λ o o_in. ⊎_elim
      (λ old.
      let (u, u_in, o_there) = old in absurd (none_at_rest first.pasts.items taken.pairs taken.pasts u o u_in o_there))
      (λ there. there)
      (own_all first met last all one o one_in (subst (λ (k : KeptPast). Contains k.left o) (sym is) o_in))));
}
  where
    are : (key : ℕ) → covered ranges key ≡ with_parts (from_to low high) met key
    are = keys_are low high old new met first last taken all ranges same
