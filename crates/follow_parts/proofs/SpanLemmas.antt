-- A read that is left in a part that has all its keys (`read_in_span`), or in one that parts became (`read_in_parts`).
use Rattle.follow_parts.proofs.Common.{◌≡◌, ℕ, ◌<◌, ◌≤◌, Bool, true, false, not, ◌&&◌, List, [], ◌∷◌, map, length, get_or, inr, refl, sym, ap, ◌∙◌, subst}
use Rattle.follow_parts.proofs.Common.{⊎_elim, arith, ◌≢◌, nat_le, All, AllPairs, Any, Contains, Result, Ok, Err, IfOk, OnOk, and_parts, leb-true}
use Rattle.follow_parts.proofs.Common.{get_or_default, All-head, All-weaker, All-map, All-contains, Contains-map, All-from_contains, Any-first}
use Rattle.follow_parts.proofs.Common.{Contains-cases, Contains-nil, Operation, low_key, high_key, Contents, IsRising, Keys, AreApart, KeptPast, KeptPart}
use Rattle.follow_parts.proofs.Common.{AreKept, at_rest, any_to, AreShaped, kept_of, Past, covered, kept_part, IsPastShaped, IsPartShaped, Become, IsIn}
use Rattle.follow_parts.proofs.Common.{resting, outside, Part, Range, IsShapedPast, IsOfParts, any_here, kept_apart, same_keys, MayComeTo, HasGoneIn}
use Rattle.follow_parts.proofs.Common.{IsReadIn, Read}

abbrev HasKey : ℕ → Part → Type 0
HasKey key part = covered part.ranges.items key ≡ true

apart_outside : (a b : Bool) → (a ≡ true → b ≡ false) → (a && not b) ≡ a
apart_outside true b none = ap not (none refl)
apart_outside false b none = refl

-- ---- one part that has all keys of the range

module _ (low high : ℕ) (rest : Contents) (part : Part) (span : (key : ℕ) → low ≤ key → key ≤ high → covered part.ranges.items key ≡ true) where
  in_one : (key : ℕ) → IsIn (part ∷ []) key → covered part.ranges.items key ≡ true
  in_one key there =
      let (one, one_in, is) = any_to (HasKey key) (part ∷ []) there in
      ⊎_elim (λ same. subst (HasKey key) (sym same) is) (λ none. absurd (Contains-nil one none)) (Contains-cases part [] one one_in)

  still_apart : (start : Contents) (place : ℕ) (calls : List Operation) (keys : Keys) (more : List KeptPart)
      → AreKept start place calls (resting keys rest ∷ kept_part part ∷ more)
      → AreKept start place calls (resting (outside keys (covered part.ranges.items)) rest ∷ kept_part part ∷ more)
  still_apart start place calls keys more are =
      let apart : AreApart keys (covered part.ranges.items) =
      All-head (λ (other : KeptPart). AreApart keys other.keys) (kept_part part) more
      (kept_apart start place calls (resting keys rest) (kept_part part ∷ more) are) in
      same_keys start place calls keys (outside keys (covered part.ranges.items)) (at_rest rest ∷ []) (kept_part part ∷ more)
      (λ key. apart_outside (keys key) (covered part.ranges.items key) (apart key)) are

  own_calls : All (λ past. All (IsOfParts (part ∷ [])) past.left) (kept_part part).pasts
  own_calls = All-from_contains (λ (past : KeptPast). All (IsOfParts (part ∷ [])) past.left) (kept_part part).pasts (λ past past_in.
      All-from_contains (IsOfParts (part ∷ [])) past.left (λ o o_in.
      Any-first (λ (p : Part). Any (λ (other : KeptPast). Contains other.left o) (kept_part p).pasts) part []
      (any_here (λ (other : KeptPast). Contains other.left o) (kept_part part).pasts past past_in o_in)))

  pub spans_become : IsRising rest → Become low high rest rest (part ∷ []) part.ranges.items (kept_part part).pasts
  spans_become rising = record {
    rises = rising;
    spans = λ key here.
        let both = and_parts (nat_le low key) (nat_le key high) here in span key (leb-true low key both.0) (leb-true key high both.1);
    within = λ key here. inr (Any-first (HasKey key) part [] here);
    of_parts = in_one;
    leads = λ start place calls keys more cover are. still_apart start place calls keys more are;
    own = own_calls;
  }

pub read_in_span : (budget : ℕ) (o : Operation) (rest : Contents) (part : Part) (read : Read) → IsRising rest → IsPartShaped part
    → ((key : ℕ) → low_key o.call ≤ key → key ≤ high_key o.call → covered part.ranges.items key ≡ true) → read.ranges ≡ part.ranges
    → HasGoneIn budget o (kept_part part).pasts read → IsReadIn budget o rest rest (part ∷ []) read
read_in_span budget o rest part read rising shaped span same gone = record {
  pasts = (kept_part part).pasts;
  some = λ none. cc;
  become = subst (λ rs. Become (low_key o.call) (high_key o.call) rest rest (part ∷ []) rs.items (kept_part part).pasts) (sym same)
      (spans_become (low_key o.call) (high_key o.call) rest part span rising);
  rising = All-weaker IsPastShaped (λ past. AllPairs (λ a b. a.inv < b.inv) past.left) (λ past is. is.rising) (kept_part part).pasts
      shaped.pasts;
  nexts = gone.nexts;
  with_read = gone.with_read;
  gone = gone.gone;
}

-- ---- a part that parts became

pub united_differ : (o : Operation) (met : List Part) (pasts : List Past) → All (MayComeTo o) met
    → All (λ past. All (IsOfParts met) past.left) (map kept_of pasts)
    → All (λ past. All (λ p. p.inv ≢ o.inv) past.calls.items) pasts
united_differ o met pasts comes own =
    All-from_contains (λ (past : Past). All (λ (p : Operation). p.inv ≢ o.inv) past.calls.items) pasts (λ past past_in.
    All-from_contains (λ (p : Operation). p.inv ≢ o.inv) past.calls.items (λ p p_in.
    let of_parts : IsOfParts met p = All-contains (IsOfParts met) past.calls.items p
    (All-contains (λ (k : KeptPast). All (IsOfParts met) k.left) (map kept_of pasts) (kept_of past) own (Contains-map kept_of pasts past past_in))
    p_in in
    let (part, part_in, there) = any_to (λ (q : Part). Any (λ (k : KeptPast). Contains k.left p) (kept_part q).pasts) met of_parts in
    let (k, k_in, in_k) = any_to (λ (j : KeptPast). Contains j.left p) (kept_part part).pasts there in
    All-contains (λ (q : Operation). q.inv ≢ o.inv) k.left p
    (All-contains (λ (j : KeptPast). All (λ (q : Operation). q.inv ≢ o.inv) j.left) (kept_part part).pasts k
    (All-contains (MayComeTo o) met part comes part_in).other k_in) in_k))

some_mapped : (pasts : List Past) → 0 < length pasts → map kept_of pasts ≢ []
some_mapped [] some none = omega (arith, some)
some_mapped (past ∷ pasts) some none = cc

pub read_in_parts : (budget : ℕ) (o : Operation) (low high : ℕ) (old new : Contents) (met : List Part) (ranges : List Range)
    (pasts : List Past) (read : Read) → low ≡ low_key o.call → high ≡ high_key o.call → 0 < length pasts
    → Become low high old new met ranges (map kept_of pasts) → AreShaped pasts → read.ranges.items ≡ ranges
    → HasGoneIn budget o (map kept_of pasts) read → IsReadIn budget o old new met read
read_in_parts budget o low high old new met ranges pasts read is_low is_high some become shaped same gone = record {
  pasts = map kept_of pasts;
  some = some_mapped pasts some;
  become = subst (λ (rs : List Range). Become (low_key o.call) (high_key o.call) old new met rs (map kept_of pasts)) (sym same)
      (subst (λ (h : ℕ). Become (low_key o.call) h old new met ranges (map kept_of pasts)) is_high
      (subst (λ (l : ℕ). Become l high old new met ranges (map kept_of pasts)) is_low become));
  rising = All-map (λ (past : KeptPast). AllPairs (λ a b. a.inv < b.inv) past.left) kept_of pasts
      (All-weaker IsShapedPast (λ past. AllPairs (λ a b. a.inv < b.inv) past.calls.items) (λ past is. is.0) pasts shaped);
  nexts = gone.nexts;
  with_read = gone.with_read;
  gone = gone.gone;
}

-- ---- of what a call returned

pub both_ok : {E : Type 0} (result : Result Read E) (P Q R : Read → Type 0) → ((read : Read) → P read → Q read → R read) → IfOk result P
    → IfOk result Q → OnOk result (IfOk result R)
both_ok (Ok read) P Q R from p q = from read p q
both_ok (Err e) P Q R from p q = tt

pub one_part : (met : List Part) (part : Part) → length met ≡ 1 → part ≡ get_or met 0 part → met ≡ part ∷ []
one_part [] part long at = absurd (omega (arith, long))
one_part (first ∷ []) part long at = ap (λ (p : Part). p ∷ []) (sym at)
one_part (first ∷ second ∷ more) part long at = absurd (omega (arith, long))

-- what `span` said of the one part
pub span_of : (met : List Part) (first part : Part) (ranges : List Range) (low high l h : ℕ) → l ≡ low → h ≡ high → 0 < length met
    → first ≡ get_or met 0 first → part ≡ get_or met 0 part → ranges ≡ first.ranges.items
    → ((key : ℕ) → l ≤ key → key ≤ h → covered ranges key ≡ true) → (key : ℕ) → low ≤ key → key ≤ high
    → covered part.ranges.items key ≡ true
span_of met first part ranges low high l h is_low is_high some at own is span key above below =
    subst (λ (rs : List Range). covered rs key ≡ true)
    (is ∙ ap (λ (p : Part). p.ranges.items) (at ∙ (get_or_default met 0 first part some ∙ sym own)))
    (span key (subst (λ (n : ℕ). n ≤ key) (sym is_low) above) (subst (λ (n : ℕ). key ≤ n) (sym is_high) below))
