-- Two parts become one (`kept_parts_unite`), and one is split in two (`kept_parts_fall_apart`).
use Rattle.follow_laws.proofs.Common.{◌≡◌, ℕ, true, List, [], ◌∷◌, map, None, inl, inr, refl, sym, subst, ⊎_elim, ◌≢◌, All, Contains, AllZip, or_left}
use Rattle.follow_laws.proofs.Common.{or_right, or_cases, All-nil, All-cons, All-head, All-tail, All-append, All-contains, All-from_contains}
use Rattle.follow_laws.proofs.Common.{Operation, low_key, may_change, value_at, keyed, Keys, AreApart, Part, Represent, KeptPast, IsOfCalls, IsOwn}
use Rattle.follow_laws.proofs.Common.{IsKeptAs, AreKept, KeptPartsUnite, KeptPartsFallApart, both_keys, IsTogether, ArePairs, FallsApart}
use Rattle.follow_laws.proofs.UnionLemmas.{pasts_unite, pasts_fall_apart}
use Rattle.follow_laws.proofs.KeptPartLemmas.{keys_in, IsKeptFirst, first_of, from_first, others_apart}
use Rattle.follow_laws.proofs.KeptAnswerLemmas.{own_fewer}

-- ---- two parts become one

-- what is known of each past of two parts is known of both together
module _ (keys : Keys) (P Q S : KeptPast → Type 0) (join : (a b c : KeptPast) → IsTogether keys a b c → P a → Q b → S c) where
  row_known : (a : KeptPast) (others all : List KeptPast) → AllZip (λ b c. IsTogether keys a b c) others all → P a → All Q others → All S all
  row_known a [] [] zip first second = All-nil S
  row_known a [] (c ∷ all) zip first second = absurd zip
  row_known a (b ∷ others) [] zip first second = absurd zip
  row_known a (b ∷ others) (c ∷ all) zip first second =
      All-cons S c all (join a b c zip.0 first (All-head Q b others second)) (row_known a others all zip.1 first (All-tail Q b others second))

  pairs_known : (kept others all : List KeptPast) → ArePairs keys kept others all → All P kept → All Q others → All S all
  pairs_known [] others all pairs first second = subst (All S) (sym pairs) (All-nil S)
  pairs_known (a ∷ kept) others all (front, back, same, row, pairs) first second =
      subst (All S) (sym same)
      (All-append S front back (row_known a others front row (All-head P a kept first) second)
      (pairs_known kept others back pairs (All-tail P a kept first) second))

of_calls_together : (keys : Keys) (calls : List Operation) (a b c : KeptPast) → IsTogether keys a b c → IsOfCalls calls a → IsOfCalls calls b
    → IsOfCalls calls c
of_calls_together keys calls a b c together first second = record {
  left = All-from_contains (Contains calls) c.left (λ o o_in. ⊎_elim
      (λ here. All-contains (Contains calls) a.left o first.left here)
      (λ there. All-contains (Contains calls) b.left o second.left there)
      (together.together.from o o_in));
  changes = All-from_contains (λ o. o.response ≡ None → may_change o.call ≡ true) c.left (λ o o_in. ⊎_elim
      (λ here. All-contains (λ p. p.response ≡ None → may_change p.call ≡ true) a.left o first.changes here)
      (λ there. All-contains (λ p. p.response ≡ None → may_change p.call ≡ true) b.left o second.changes there)
      (together.together.from o o_in));
  found = λ f f_in. ⊎_elim (λ here. first.found f here) (λ there. second.found f there) ((together.found f).0 f_in);
}

-- a pending call is kept by the past of the two that has its key
own_together : (keys others : Keys) (calls : List Operation) (a b c : KeptPast) → IsTogether keys a b c → IsOwn keys calls a
    → IsOwn others calls b → IsOwn (both_keys keys others) calls c
own_together keys others calls a b c together first second = record {
  of_calls = of_calls_together keys calls a b c together first.of_calls second.of_calls;
  whole = λ o o_in pending changes is. ⊎_elim
      (λ here. ⊎_elim
      (λ left. inl (together.together.first o left))
      (λ some. let (f, f_in, named, at) = some in inr (f, (together.found f).1 (inl f_in), named, at))
      (first.whole o o_in pending changes here))
      (λ there. ⊎_elim
      (λ left. inl (together.together.second o left))
      (λ some. let (f, f_in, named, at) = some in inr (f, (together.found f).1 (inr f_in), named, at))
      (second.whole o o_in pending changes there))
      (or_cases (keys (low_key o.call)) (others (low_key o.call)) is);
}

pub kept_parts_unite : KeptPartsUnite
kept_parts_unite start place calls part other all rest pairs are = by_others first.others first.are_others first.stand apart
  where
    first : IsKeptFirst start place calls part (other ∷ rest)
    first = first_of start place calls part (other ∷ rest) are

    apart : All (λ one. AreApart part.keys one.keys) first.others
    apart = others_apart start place calls part (other ∷ rest) first

    by_others : (others : List Part) → AllZip (IsKeptAs calls) (other ∷ rest) others
        → Represent (value_at start) place (map keyed calls) (record { keys = part.keys; pasts = first.pasts } ∷ others)
        → All (λ one. AreApart part.keys one.keys) others
        → AreKept start place calls (record { keys = both_keys part.keys other.keys; pasts = all } ∷ rest)
    by_others [] zip stand apart = absurd zip
    by_others (second ∷ others) zip stand apart =
        let (both, both_are, both_stand) =
        pasts_unite (value_at start) place (map keyed calls) part.keys other.keys part.pasts other.pasts all first.pasts second.pasts others
        first.are_calls.grown
        (subst (λ (keys : Keys). AreApart part.keys keys) zip.0.keys (All-head (λ one. AreApart part.keys one.keys) second others apart))
        pairs first.are_pasts zip.0.pasts
        (subst (λ (keys : Keys). Represent (value_at start) place (map keyed calls)
        (record { keys = part.keys; pasts = first.pasts } ∷ record { keys = keys; pasts = second.pasts } ∷ others)) zip.0.keys stand) in
        from_first start place calls (record { keys = both_keys part.keys other.keys; pasts = all }) rest (record {
          are_calls = first.are_calls;
          pasts = both;
          others = others;
          are_pasts = both_are;
          own = pairs_known part.keys (IsOwn part.keys calls) (IsOwn other.keys calls) (IsOwn (both_keys part.keys other.keys) calls)
              (own_together part.keys other.keys calls) part.pasts other.pasts
              all pairs first.own zip.0.own;
          are_others = zip.1;
          stand = both_stand;
        })

-- ---- one falls apart

zip_known : {X Y : Type 0} (R : X → Y → Type 0) (P : X → Type 0) (Q : Y → Type 0) → ((x : X) (y : Y) → R x y → P x → Q y)
    → (xs : List X) (ys : List Y) → AllZip R xs ys → All P xs → All Q ys
zip_known R P Q step [] [] zip known = All-nil Q
zip_known R P Q step [] (y ∷ ys) zip known = absurd zip
zip_known R P Q step (x ∷ xs) [] zip known = absurd zip
zip_known R P Q step (x ∷ xs) (y ∷ ys) zip known =
    All-cons Q y ys (step x y zip.0 (All-head P x xs known)) (zip_known R P Q step xs ys zip.1 (All-tail P x xs known))

-- what is known of a past of the part is known of the one of the first keys
some_known : {X Y : Type 0} (R : X → Y → Type 0) (P : X → Type 0) (Q : Type 0) → ((x : X) (y : Y) → R x y → P x → Q)
    → (xs : List X) (ys : List Y) → xs ≢ [] → AllZip R xs ys → All P xs → Q
some_known R P Q step [] ys some zip known = absurd (some refl)
some_known R P Q step (x ∷ xs) [] some zip known = absurd zip
some_known R P Q step (x ∷ xs) (y ∷ ys) some zip known = step x y zip.0 (All-head P x xs known)

own_first : (keys others : Keys) (calls : List Operation) (a c b : KeptPast) → FallsApart keys others c a b
    → IsOwn (both_keys keys others) calls c → IsOwn keys calls a
own_first keys others calls a c b falls own = record {
  of_calls = own_fewer calls c a (λ o o_in. ((falls.left o).0 o_in).0) (λ f f_in. ((falls.found f).0 f_in).0) own.of_calls;
  whole = λ o o_in pending changes here. ⊎_elim
      (λ left. inl ((falls.left o).1 (left, keys_in keys o changes here)))
      (λ some. let (f, f_in, named, at) = some in
      inr (f, (falls.found f).1 (f_in, subst (λ (key : ℕ). keys key ≡ true) (sym at) here), named, at))
      (own.whole o o_in pending changes (or_left (keys (low_key o.call)) (others (low_key o.call)) here));
}

own_second : (keys others : Keys) (calls : List Operation) (a c b : KeptPast) → FallsApart keys others c a b
    → IsOwn (both_keys keys others) calls c → IsOwn others calls b
own_second keys others calls a c b falls own = record {
  of_calls = own_fewer calls c b (λ o o_in. ((falls.other_left o).0 o_in).0) (λ f f_in. ((falls.other_found f).0 f_in).0) own.of_calls;
  whole = λ o o_in pending changes here. ⊎_elim
      (λ left. inl ((falls.other_left o).1 (left, keys_in others o changes here)))
      (λ some. let (f, f_in, named, at) = some in
      inr (f, (falls.other_found f).1 (f_in, subst (λ (key : ℕ). others key ≡ true) (sym at) here), named, at))
      (own.whole o o_in pending changes (or_right (keys (low_key o.call)) (others (low_key o.call)) here));
}

pub kept_parts_fall_apart : KeptPartsFallApart
kept_parts_fall_apart start place calls keys others a all other_kept rest apart some falls are =
    let first = first_of start place calls (record { keys = both_keys keys others; pasts = all }) rest are in
    let (past, other_pasts, past_is, others_are, stand) =
    pasts_fall_apart (value_at start) place (map keyed calls) keys others a all other_kept first.pasts first.others first.are_calls.grown apart some
    falls first.are_pasts first.stand in
    from_first start place calls (record { keys = keys; pasts = a ∷ [] }) (record { keys = others; pasts = other_kept } ∷ rest) (record {
      are_calls = first.are_calls;
      pasts = past ∷ [];
      others = record { keys = others; pasts = other_pasts } ∷ first.others;
      are_pasts = (past_is, tt);
      own = All-cons (IsOwn keys calls) a []
          (some_known (λ c b. FallsApart keys others c a b) (IsOwn (both_keys keys others) calls) (IsOwn keys calls a) (own_first keys others calls a) all other_kept some
          falls first.own)
          (All-nil (IsOwn keys calls));
      are_others = (
        record {
          keys = refl;
          pasts = others_are;
          own = zip_known (λ c b. FallsApart keys others c a b) (IsOwn (both_keys keys others) calls) (IsOwn others calls) (own_second keys others calls a) all other_kept
              falls first.own;
        },
        first.are_others,
      );
      stand = stand;
    })
