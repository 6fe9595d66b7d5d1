-- Who put the values that a key has in pasts.
use Rattle.follow_violations.proofs.Common.{kept_of, Past, KeptPast, is_put_before, last_put, origin_in, put_in, IsNotedOnce, Origin, Put, value_at}
use Rattle.follow_violations.proofs.Common.{◌≡◌, ℕ, ◌+◌, ◌-◌, ◌<◌, ◌≤◌, Bool, true, false, cond, ◌==◌, not, List, [], ◌∷◌, ◌++◌, length, get_or, take}
use Rattle.follow_violations.proofs.Common.{◌&&◌, filter, map, Option, Some, None, refl, sym, ap, ◌∙◌, subst, ⊎_elim, arith, cases_Bool, map_push}
use Rattle.follow_violations.proofs.Common.{take_all, take_more, Contains-append_left, Contains-push, Contains-push_cases, Contains-get_or, list_any}
use Rattle.follow_violations.proofs.Common.{◌↔◌, if◌then◌else◌, AllPairs, Contains, ◌≢◌}
use Rattle.std.proofs.lemmas.List.Quantifiers.{all_pairs_push}

-- the last put of some and one more
pub last_push : (past : KeptPast) (key value : ℕ) (last : Option ℕ) (front : List Put) (p : Put)
    → last_put past key value last (front ++ p ∷ [])
    ≡ (if is_put_before past key value p then Some p.event else last_put past key value last front)
last_push past key value last [] p = refl
last_push past key value last (q ∷ front) p =
    last_push past key value (if is_put_before past key value q then Some q.event else last) front p

last_more : (past : KeptPast) (key value : ℕ) (puts : List Put) (at : ℕ) (d : Put) → 0 < at → at ≤ length puts
    → last_put past key value None (take at puts) ≡ (if is_put_before past key value (get_or puts (at - 1) d)
    then Some (get_or puts (at - 1) d).event else last_put past key value None (take (at - 1) puts))
last_more past key value puts at d some within =
    let here : at - 1 < length puts = omega arith in
    let next : at - 1 + 1 ≡ at = omega arith in
    ap (λ (n : ℕ). last_put past key value None (take n puts)) (sym next)
    ∙ (ap (last_put past key value None) (take_more puts (at - 1) d here)
    ∙ last_push past key value None (take (at - 1) puts) (get_or puts (at - 1) d))

pub last_found : (past : KeptPast) (key value : ℕ) (puts : List Put) (at : ℕ) (d : Put) → 0 < at → at ≤ length puts
    → is_put_before past key value (get_or puts (at - 1) d) ≡ true
    → last_put past key value None (take at puts) ≡ Some (get_or puts (at - 1) d).event
last_found past key value puts at d some within is =
    last_more past key value puts at d some within
    ∙ ap (λ (t : Bool). cond t (Some (get_or puts (at - 1) d).event) (last_put past key value None (take (at - 1) puts))) is

pub last_passed : (past : KeptPast) (key value : ℕ) (puts : List Put) (at : ℕ) (d : Put) → 0 < at → at ≤ length puts
    → is_put_before past key value (get_or puts (at - 1) d) ≡ false
    → last_put past key value None (take at puts) ≡ last_put past key value None (take (at - 1) puts)
last_passed past key value puts at d some within is =
    last_more past key value puts at d some within
    ∙ ap (λ (t : Bool). cond t (Some (get_or puts (at - 1) d).event) (last_put past key value None (take (at - 1) puts))) is

-- only puts of the key count
last_own : (past : KeptPast) (key value : ℕ) (last : Option ℕ) (puts : List Put)
    → last_put past key value last (filter (λ p. p.key == key) puts) ≡ last_put past key value last puts
last_own past key value last [] = refl
last_own past key value last (p ∷ puts) = ⊎_elim
    (λ own. ap (λ (t : Bool). last_put past key value last (cond t (p ∷ filter (λ q. q.key == key) puts) (filter (λ q. q.key == key) puts))) own
    ∙ last_own past key value (if is_put_before past key value p then Some p.event else last) puts)
    (λ other. ap (λ (t : Bool). last_put past key value last (cond t (p ∷ filter (λ q. q.key == key) puts) (filter (λ q. q.key == key) puts))) other
    ∙ (last_own past key value last puts ∙ ap (λ (t : Bool). last_put past key value
    (cond (t && (p.value == value && not (list_any (λ o. o.inv == p.event) past.left))) (Some p.event) last) puts) (sym other)))
    (cases_Bool (p.key == key))

put_own : (past : KeptPast) (key : ℕ) (value : Option ℕ) (puts : List Put)
    → put_in (filter (λ p. p.key == key) puts) past key value ≡ put_in puts past key value
put_own past key None puts = refl
put_own past key (Some value) puts = last_own past key value None puts

pub origin_own : (puts : List Put) (key : ℕ) (past : KeptPast) → origin_in (filter (λ p. p.key == key) puts) key past ≡ origin_in puts key past
origin_own puts key past =
    ap (λ (who : Option ℕ). record { value = value_at past.pairs key; put = who }) (put_own past key (value_at past.pairs key) puts)

-- ---- each value once

-- what a function gives of some items, each once
pub record AreEachOnce {X : Type 0} (f : X → Origin) (xs : List X) (from : List Origin) : Type 0 where
  pub distinct : AllPairs (λ a b. a ≢ b) from
  pub same : (origin : Origin) → Contains from origin ↔ Contains (map f xs) origin

once_new : {X : Type 0} (f : X → Origin) (front : List X) (x : X) (from : List Origin) → AreEachOnce f front from
    → (Contains from (f x) → ⊥) → AreEachOnce f (front ++ x ∷ []) (from ++ f x ∷ [])
once_new f front x from so_far new = record {
  distinct = all_pairs_push (λ a b. a ≢ b) from (f x) so_far.distinct
      (λ k d k_within same. new (subst (Contains from) same (Contains-get_or from k d k_within)));
  same = λ origin. rw (map_push f front x) (
    λ origin_in. ⊎_elim (λ old. Contains-append_left (map f front) (f x ∷ []) origin ((so_far.same origin).0 old))
        (λ is. subst (Contains (map f front ++ f x ∷ [])) is (Contains-push (map f front) (f x)))
        (Contains-push_cases from (f x) origin origin_in),
    λ origin_in. ⊎_elim (λ old. Contains-append_left from (f x ∷ []) origin ((so_far.same origin).1 old))
        (λ is. subst (Contains (from ++ f x ∷ [])) is (Contains-push from (f x)))
        (Contains-push_cases (map f front) (f x) origin origin_in),
  );
}

once_old : {X : Type 0} (f : X → Origin) (front : List X) (x : X) (from : List Origin) → AreEachOnce f front from
    → Contains from (f x) → AreEachOnce f (front ++ x ∷ []) from
once_old f front x from so_far old = record {
  distinct = so_far.distinct;
  same = λ origin. rw (map_push f front x) (
    λ origin_in. Contains-append_left (map f front) (f x ∷ []) origin ((so_far.same origin).0 origin_in),
    λ origin_in. ⊎_elim (λ earlier. (so_far.same origin).1 earlier) (λ is. subst (Contains from) is old)
        (Contains-push_cases (map f front) (f x) origin origin_in),
  );
}

pub once_more : {X : Type 0} (f : X → Origin) (xs : List X) (i : ℕ) (x : X) (from new : List Origin) → i < length xs → x ≡ get_or xs i x
    → AreEachOnce f (take i xs) from
    → IsNotedOnce (f x) from new → AreEachOnce f (take (i + 1) xs) new
once_more {X} f xs i x from new within here so_far noted =
    let is : take i xs ++ x ∷ [] ≡ take (i + 1) xs = ap (λ (z : X). take i xs ++ z ∷ []) here ∙ sym (take_more xs i x within) in
    subst (λ (some : List X). AreEachOnce f some new) is (⊎_elim
    (λ there. subst (AreEachOnce f (take i xs ++ x ∷ [])) (sym there.1) (once_old f (take i xs) x from so_far there.0))
    (λ other. subst (AreEachOnce f (take i xs ++ x ∷ [])) (sym other.1) (once_new f (take i xs) x from so_far other.0)) noted)

pub once_all : {X : Type 0} (f : X → Origin) (xs : List X) (i : ℕ) (from : List Origin) → length xs ≤ i → AreEachOnce f (take i xs) from
    → AreEachOnce f xs from
once_all {X} f xs i from past so_far = subst (λ (some : List X). AreEachOnce f some from) (take_all i xs past) so_far

-- what the puts of a key give of pasts
abbrev pub own_origin : List Put → ℕ → Past → Origin
own_origin puts key past = origin_in (filter (λ p. p.key == key) puts) key (kept_of past)

pub all_origins : (puts : List Put) (key : ℕ) (pasts : List Past) → map (own_origin puts key) pasts ≡ map (origin_in puts key) (map kept_of pasts)
all_origins puts key [] = refl
all_origins puts key (past ∷ pasts) =
    ap (λ (o : Origin). o ∷ map (own_origin puts key) pasts) (origin_own puts key (kept_of past))
    ∙ ap (λ (os : List Origin). origin_in puts key (kept_of past) ∷ os) (all_origins puts key pasts)
