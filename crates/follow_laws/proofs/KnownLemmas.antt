-- For a call of a history it is known whether something is left of it at some keys: there is a key
-- above all that it concerns.
use Rattle.follow_laws.proofs.Common.{◌≡◌, ℕ, zero, suc, ◌+◌, ◌<◌, Bool, true, false, not, nat_le, ◌&&◌, inl, inr, subst, ⊎_elim, arith, sym, ◌⊎◌}
use Rattle.follow_laws.proofs.Common.{and_parts, and_from, false_from_ne_true, eqb-true, leb-true, Contains-from_map, Call, Get, Insert, Remove, Scan}
use Rattle.follow_laws.proofs.Common.{Replace, KeyedCall, concerns_key, keyed, Choice, Keys, CallsAreKnown, IsLeftAt, NoneIsLeftAt}
use Rattle.follow_laws.proofs.DeadLemmas.{bool_cases}
use Rattle.std.specs.Prelude.{◌≤◌}

up_to : (key n : ℕ) → key < suc n → (key ≡ n) ⊎ (key < n)
up_to key n less = grind (arith, less)

-- a test of numbers up to one holds of some, or of none
search_below : (f : ℕ → Bool) (n : ℕ) → ((key : ℕ) × (f key ≡ true)) ⊎ ((key : ℕ) → key < n → f key ≡ false)
search_below f zero = inr (λ key less. absurd (omega (arith, less)))
search_below f (suc n) = by_last (bool_cases (f n)) (search_below f n)
  where
    by_last : (f n ≡ true) ⊎ (f n ≡ false) → ((key : ℕ) × (f key ≡ true)) ⊎ ((key : ℕ) → key < n → f key ≡ false)
        → ((key : ℕ) × (f key ≡ true)) ⊎ ((key : ℕ) → key < suc n → f key ≡ false)
    by_last (inl is) rest = inl (n, is)
    by_last (inr out) (inl some) = inl some
    by_last (inr out) (inr none) = inr (λ key less.
        ⊎_elim (λ same. subst (λ (k : ℕ). f k ≡ false) (sym same) out) (λ before. none key before) (up_to key n less))

-- it is known whether something is left of a call that concerns no key from some on
known_below : (keys : Keys) (past : Choice) (a : KeyedCall) (n : ℕ) → ((key : ℕ) → a.concerns key ≡ true → key < n)
    → IsLeftAt keys past a ⊎ NoneIsLeftAt keys past a
known_below keys past a n below =
    ⊎_elim
    (λ some. let (is, left) = and_parts (keys some.0) (not (past.taken a.inv some.0) && a.concerns some.0) some.1 in inl (some.0, is, left))
    (λ none. inr (λ key is. false_from_ne_true (not (past.taken a.inv key) && a.concerns key) (λ left.
    let concerned : a.concerns key ≡ true = (and_parts (not (past.taken a.inv key)) (a.concerns key) left).1 in
    let never : (keys key && (not (past.taken a.inv key) && a.concerns key)) ≡ false = none key (below key concerned) in
    let there : (keys key && (not (past.taken a.inv key) && a.concerns key)) ≡ true =
    and_from (keys key) (not (past.taken a.inv key) && a.concerns key) is left in cc)))
    (search_below (λ key. keys key && (not (past.taken a.inv key) && a.concerns key)) n)

-- the last key that a call concerns
last_key : Call → ℕ
last_key (Get own) = own
last_key (Insert own value) = own
last_key (Remove own) = own
last_key (Scan low high) = high
last_key (Replace own expected value) = own

concerns_below : (call : Call) (key : ℕ) → concerns_key call key ≡ true → key < last_key call + 1
unfolding last_key
concerns_below (Get own) key is = let same : own ≡ key = eqb-true own key is in omega (arith, same)
concerns_below (Insert own value) key is = let same : own ≡ key = eqb-true own key is in omega (arith, same)
concerns_below (Remove own) key is = let same : own ≡ key = eqb-true own key is in omega (arith, same)
concerns_below (Scan low high) key is =
    let less : key ≤ high = leb-true key high (and_parts (nat_le low key) (nat_le key high) is).1 in omega (arith, less)
concerns_below (Replace own expected value) key is = let same : own ≡ key = eqb-true own key is in omega (arith, same)

pub calls_are_known : CallsAreKnown
calls_are_known keys place past calls a a_in begun accepted =
    let (o, o_in, o_is) = Contains-from_map keyed calls a a_in in
    subst (λ (z : KeyedCall). IsLeftAt keys past z ⊎ NoneIsLeftAt keys past z) o_is
    (known_below keys past (keyed o) (last_key o.call + 1) (λ key is. concerns_below o.call key is))
