-- What is stored of the numbers so far says what is wrong with the next one.
use Rattle.certificate.proofs.Common.{◌≡◌, ℕ, ◌+◌, ◌<◌, Bool, true, false, List, Some, [], ◌∷◌, ◌++◌, length, get_or, set, take, sym, ap, ◌∙◌, arith}
use Rattle.certificate.proofs.Common.{get_or-set_other, get_or-set_same, inl, inr, max, map, ◌==◌, is_some, slice_get, Contains, false≢true, or_right}
use Rattle.certificate.proofs.Common.{take_more, map-append, length-set, slice_get_within, get_or_from_slice_get, Operation, greatest, has_number}
use Rattle.certificate.proofs.Common.{is_before, Contents, IsCompletedAt, IsLegalCall, after_call, calls_at, PrecedesSome, IsNewAt}
use Rattle.certificate.proofs.Common.{after_calls-append, calls_at-push, greatest-push, has_number-Contains, has_number-from_Contains}
use Rattle.certificate.proofs.Common.{has_number-push, IsPrefixOf}
use Rattle.std.proofs.Common.{◌≢◌}
use Rattle.std.proofs.Math.Bool.{or-false}
use Rattle.std.proofs.lemmas.Bool.Decides.{eqb_tells}
use Rattle.certificate.proofs.PushLemmas.{IsLegalOrder-push, before_latest, before_latest-from}
use Rattle.certificate.specs.declared.prefix.Prefix.{Prefix}

-- the first elements of a list, one element further
pub take-next : {X : Type 0} (xs : List X) (i : ℕ) (x : X) → slice_get xs i ≡ Some x → take (i + 1) xs ≡ take i xs ++ x ∷ []
take-next xs i x here = take_more xs i x (slice_get_within xs i x here)
    ∙ ap (λ y. take i xs ++ y ∷ []) (get_or_from_slice_get xs i x x here)

-- a number that is marked as taken is among the numbers
pub Contains-taken : (start : Contents) (calls : List Operation) (numbers : List ℕ) (prefix : Prefix) (n : ℕ)
    → IsPrefixOf start calls numbers prefix
    → n < length calls → get_or prefix.taken.items n false ≡ true → Contains numbers n
Contains-taken start calls numbers prefix n h known taken = has_number-Contains numbers n (sym (h.taken n known) ∙ taken)

-- a number that is not marked does not
pub not_Contains-taken : (start : Contents) (calls : List Operation) (numbers : List ℕ) (prefix : Prefix) (n : ℕ)
    → IsPrefixOf start calls numbers prefix
    → n < length calls → get_or prefix.taken.items n false ≡ false → Contains numbers n → ⊥
not_Contains-taken start calls numbers prefix n h known free in_it =
    false≢true (sym free ∙ (h.taken n known ∙ has_number-from_Contains numbers n in_it))

-- a call whose response comes before the latest invocation precedes one of the calls
pub PrecedesSome-latest : (start : Contents) (calls : List Operation) (numbers : List ℕ) (prefix : Prefix) (a : Operation)
    → IsPrefixOf start calls numbers prefix → is_before a.response prefix.latest ≡ true → PrecedesSome calls numbers a
PrecedesSome-latest start calls numbers prefix a h before = before_latest-from a (calls_at calls numbers) (rw (← h.latest) before)

-- any other call precedes none of them
pub not_PrecedesSome-latest : (start : Contents) (calls : List Operation) (numbers : List ℕ) (prefix : Prefix) (a : Operation)
    → IsPrefixOf start calls numbers prefix → is_before a.response prefix.latest ≡ false → PrecedesSome calls numbers a → ⊥
not_PrecedesSome-latest start calls numbers prefix a h not_before precedes =
    false≢true (sym not_before ∙ (ap (is_before a.response) h.latest ∙ before_latest a (calls_at calls numbers) precedes))

-- a number that is not marked names a new call
pub IsNewAt-taken : (start : Contents) (calls : List Operation) (order : List ℕ) (prefix : Prefix) (place n : ℕ) (a : Operation)
    → IsPrefixOf start calls (take place order) prefix → slice_get order place ≡ Some n → slice_get calls n ≡ Some a
    → get_or prefix.taken.items n false ≡ false → IsNewAt start calls order place a
IsNewAt-taken start calls order prefix place n a h here is free = record {
  number = n;
  next = record { sound = h.sound; here = here };
  call = is;
  new = not_Contains-taken start calls (take place order) prefix n h (slice_get_within calls n a is) free;
}

-- a call with a response is completed
pub IsCompletedAt-response : (calls : List Operation) (n : ℕ) (a : Operation) → slice_get calls n ≡ Some a → is_some a.response ≡ true
    → IsCompletedAt calls n
IsCompletedAt-response calls n a here completed = rw here completed

-- a call without a response is not completed
pub response-IsCompletedAt : (calls : List Operation) (n : ℕ) (a : Operation) → slice_get calls n ≡ Some a → IsCompletedAt calls n
    → is_some a.response ≡ true
response-IsCompletedAt calls n a here completed = rw here at completed

-- which numbers are marked, when one more is
taken-push : (numbers : List ℕ) (taken : List Bool) (m n : ℕ) → m < length taken → get_or taken n false ≡ has_number numbers n
    → get_or (set taken m true) n false ≡ has_number (numbers ++ m ∷ []) n
taken-push numbers taken m n within was = elim (eqb_tells m n) [
  | inl h ↦ rw (has_number-push numbers m n, or_right (has_number numbers n) (m == n) h.0)
      (rw (sym h.1) (get_or-set_same taken m true false within))
  | inr h ↦ let other : n ≢ m = λ same. h.1 (sym same) in
      rw (has_number-push numbers m n, h.0, or-false) (get_or-set_other taken m n true false other ∙ was)
]

-- what is kept of the numbers and of a next one that shows no fault
pub IsPrefixOf-push : (start : Contents) (calls : List Operation) (numbers : List ℕ) (prefix after : Prefix) (n : ℕ) (a : Operation)
    → IsPrefixOf start calls numbers prefix → slice_get calls n ≡ Some a → (Contains numbers n → ⊥) → (PrecedesSome calls numbers a → ⊥)
    → IsLegalCall prefix.map a.call a.response
    → after.map ≡ after_call prefix.map a.call a.response → after.taken.items ≡ set prefix.taken.items n true
    → after.latest ≡ max prefix.latest a.inv
    → IsPrefixOf start calls (numbers ++ n ∷ []) after
IsPrefixOf-push start calls numbers prefix after n a h here new free legal pairs taken latest =
    let pushed = calls_at-push calls numbers n a here in
    record {
      sound = IsLegalOrder-push start calls numbers n a h.sound here new free (rw (← h.pairs) legal);
      pairs = rw (pairs, h.pairs, pushed) (sym (after_calls-append start (calls_at calls numbers) (a ∷ [])));
      size = rw taken (length-set prefix.taken.items n true ∙ h.size);
      taken = λ m known. rw taken (taken-push numbers prefix.taken.items n m (omega (arith, h.size, slice_get_within calls n a here))
          (h.taken m known));
      latest =
          rw (latest, h.latest, pushed)
          (sym (ap greatest (map-append (λ b. b.inv) (calls_at calls numbers) (a ∷ []))
          ∙ greatest-push (map (λ b. b.inv) (calls_at calls numbers)) a.inv));
    }
