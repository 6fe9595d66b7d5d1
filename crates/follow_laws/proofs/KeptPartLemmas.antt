-- Kept parts: `first_of`, `from_first`: the first part; `pasts_go`: pasts that are kept in another
-- way after an event; `parts_go`: parts whose pasts are kept as before.
use Rattle.follow_laws.proofs.Common.{◌≡◌, ℕ, suc, true, List, [], ◌∷◌, map, None, refl, subst, arith, All, Contains, AllZip, false_from_ne_true}
use Rattle.follow_laws.proofs.Common.{All-nil, All-cons, All-head, All-tail, AllPairs-head, Contains-nil, Operation, low_key, may_change, Contents}
use Rattle.follow_laws.proofs.Common.{value_at, concerns_key, keyed, Choice, Keys, AreApart, Part, Represent, HasKeysIn, HasNoKeyIn, KeptPast, IsPast}
use Rattle.follow_laws.proofs.Common.{ArePasts, KeptPart, AreCallsBefore, IsOfCalls, IsOwn, IsKeptAs, AreKept, at_rest}
use Rattle.follow_laws.proofs.EventLemmas.{not_both}
use Rattle.follow_laws.proofs.StepLemmas.{parts_stay}
use Rattle.follow_laws.proofs.KeptCallLemmas.{AreCallsAfter, own_key_of}

-- ---- keys

-- if the least key of a call that may change the map is in a set, so are all its keys
pub keys_in : (keys : Keys) (o : Operation) → may_change o.call ≡ true → keys (low_key o.call) ≡ true → HasKeysIn keys o
keys_in keys o changes here key concerned = subst (λ (k : ℕ). keys k ≡ true) (own_key_of o.call key changes concerned) here

-- a call that has all its keys in one part has none in another
pub no_key_in : (keys others : Keys) (o : Operation) → HasKeysIn keys o → AreApart keys others → HasNoKeyIn others o
no_key_in keys others o inside apart key there =
    false_from_ne_true (concerns_key o.call key) (λ concerned. not_both (others key) there (apart key (inside key concerned)))

-- ---- a part at rest

pub own_at_rest : (calls : List Operation) (pairs : Contents) → IsOfCalls calls (at_rest pairs)
own_at_rest calls pairs = record {
  left = All-nil (Contains calls);
  changes = All-nil (λ o. o.response ≡ None → may_change o.call ≡ true);
  found = λ f f_in. absurd (Contains-nil f f_in);
}

-- ---- the first part

-- the first part is kept
pub record IsKeptFirst (start : Contents) (place : ℕ) (calls : List Operation) (kept : KeptPart) (rest : List KeptPart) : Type 0 where
  pub are_calls : AreCallsBefore place calls
  pub pasts : List Choice
  pub others : List Part
  pub are_pasts : ArePasts kept.keys (map keyed calls) kept.pasts pasts
  pub own : All (IsOwn kept.keys calls) kept.pasts
  pub are_others : AllZip (IsKeptAs calls) rest others
  pub stand : Represent (value_at start) place (map keyed calls) (record { keys = kept.keys; pasts = pasts } ∷ others)

pub first_of : (start : Contents) (place : ℕ) (calls : List Operation) (kept : KeptPart) (rest : List KeptPart)
    → AreKept start place calls (kept ∷ rest) → IsKeptFirst start place calls kept rest
first_of start place calls kept rest are = by_parts are.parts are.are_parts are.stand
  where
    by_parts : (parts : List Part) → AllZip (IsKeptAs calls) (kept ∷ rest) parts → Represent (value_at start) place (map keyed calls) parts
        → IsKeptFirst start place calls kept rest
    by_parts [] none stand = absurd none
    by_parts (part ∷ others) each stand = record {
      are_calls = are.are_calls;
      pasts = part.pasts;
      others = others;
      are_pasts = each.0.pasts;
      own = each.0.own;
      are_others = each.1;
      stand = subst (λ (keys : Keys). Represent (value_at start) place (map keyed calls) (record { keys = keys; pasts = part.pasts } ∷ others))
          each.0.keys stand;
    }

pub from_first : (start : Contents) (place : ℕ) (calls : List Operation) (kept : KeptPart) (rest : List KeptPart)
    → IsKeptFirst start place calls kept rest → AreKept start place calls (kept ∷ rest)
from_first start place calls kept rest first = record {
  are_calls = first.are_calls;
  parts = record { keys = kept.keys; pasts = first.pasts } ∷ first.others;
  are_parts = (record { keys = refl; pasts = first.are_pasts; own = first.own }, first.are_others);
  stand = first.stand;
}

-- the other parts have none of its keys
pub others_apart : (start : Contents) (place : ℕ) (calls : List Operation) (kept : KeptPart) (rest : List KeptPart)
    → (first : IsKeptFirst start place calls kept rest) → All (λ part. AreApart kept.keys part.keys) first.others
others_apart start place calls kept rest first =
    AllPairs-head (λ part other. AreApart part.keys other.keys) (record { keys = kept.keys; pasts = first.pasts }) first.others
    first.stand.shared.apart

-- ---- an event

-- parts come after it
pub stand_after : (start : Contents) (place : ℕ) (calls more : List Operation) (parts : List Part) → AreCallsAfter place calls more
    → Represent (value_at start) place (map keyed calls) parts → Represent (value_at start) (suc place) (map keyed more) parts
stand_after start place calls more parts after stand =
    parts_stay (value_at start) place (suc place) (map keyed calls) (map keyed more) parts (omega arith) after.grown stand

-- what is known of a past and of how it is kept
pub record IsKeptPast (keys : Keys) (calls : List Operation) (kept : KeptPast) (past : Choice) : Type 0 where
  pub is : IsPast keys (map keyed calls) kept past
  pub own : IsOwn keys calls kept

-- pasts are kept in another way after it
abbrev pub AreKeptPasts : Keys → List Operation → List KeptPast → List Choice → Type 0
AreKeptPasts keys calls kept pasts = ArePasts keys (map keyed calls) kept pasts × All (IsOwn keys calls) kept

pub pasts_go : (keys : Keys) (calls more : List Operation) (R : KeptPast → KeptPast → Type 0)
    → ((kept next : KeptPast) (past : Choice) → R kept next → IsKeptPast keys calls kept past → IsKeptPast keys more next past)
    → (kept nexts : List KeptPast) (pasts : List Choice) → AllZip R kept nexts → AreKeptPasts keys calls kept pasts
    → AreKeptPasts keys more nexts pasts
pasts_go keys calls more R step [] [] [] each are = (tt, All-nil (IsOwn keys more))
pasts_go keys calls more R step [] [] (past ∷ pasts) each are = absurd are.0
pasts_go keys calls more R step [] (next ∷ nexts) pasts each are = absurd each
pasts_go keys calls more R step (past ∷ kept) [] pasts each are = absurd each
pasts_go keys calls more R step (past ∷ kept) (next ∷ nexts) [] each are = absurd are.0
pasts_go keys calls more R step (kept ∷ further) (next ∷ nexts) (past ∷ pasts) each are =
    let now = step kept next past each.0 (record { is = are.0.0; own = All-head (IsOwn keys calls) kept further are.1 }) in
    let rest = pasts_go keys calls more R step further nexts pasts each.1 (are.0.1, All-tail (IsOwn keys calls) kept further are.1) in
    ((now.is, rest.0), All-cons (IsOwn keys more) next nexts now.own rest.1)

-- each item of a list goes with another
pub zip_map : {A B : Type 0} (R : A → B → Type 0) (f : A → B) (xs : List A) → ((x : A) → R x (f x)) → AllZip R xs (map f xs)
zip_map R f [] each = tt
zip_map R f (x ∷ xs) each = (each x, zip_map R f xs each)

zip_self : {A : Type 0} (xs : List A) → AllZip (λ x y. x ≡ y) xs xs
zip_self [] = tt
zip_self (x ∷ xs) = (refl, zip_self xs)

-- parts of keys of some kind, all of whose pasts are kept as before
pub parts_go : (calls more : List Operation) (Q : Keys → Type 0)
    → ((keys : Keys) (kept : KeptPast) (past : Choice) → Q keys → IsKeptPast keys calls kept past → IsKeptPast keys more kept past)
    → (kept : List KeptPart) (parts : List Part) → All (λ part. Q part.keys) parts → AllZip (IsKeptAs calls) kept parts
    → AllZip (IsKeptAs more) kept parts
parts_go calls more Q step [] [] kind are = tt
parts_go calls more Q step [] (part ∷ parts) kind are = absurd are
parts_go calls more Q step (one ∷ kept) [] kind are = absurd are
parts_go calls more Q step (one ∷ kept) (part ∷ parts) kind are =
    let here : Q one.keys = subst Q are.0.keys (All-head (λ (p : Part). Q p.keys) part parts kind) in
    let pasts = pasts_go one.keys calls more (λ x y. x ≡ y)
    (λ past next choice same is. subst (λ (z : KeptPast). IsKeptPast one.keys more z choice) same (step one.keys past choice here is))
    one.pasts one.pasts part.pasts (zip_self one.pasts) (are.0.pasts, are.0.own) in (
      record { keys = are.0.keys; pasts = pasts.0; own = pasts.1 },
      parts_go calls more Q step kept parts (All-tail (λ (p : Part). Q p.keys) part parts kind) are.1,
    )
