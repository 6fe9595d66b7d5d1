-- Which calls may precede a call.
use Rattle.follow_fronts.proofs.Common.{◌≡◌, ℕ, ◌<◌, ◌≤◌, true, false, List, None, Some, Option, refl, sym, ap, subst, ◌∙◌, ⊎_elim, arith, nat_lt, slice_get}
use Rattle.follow_fronts.proofs.Common.{is_some, AllPairs, IsSomeAnd, IsTrue, both_ways, cases_order, same_Some, Operation, is_before, is_completed}
use Rattle.follow_fronts.proofs.Common.{precedes, NonePrecedesItself, IsCompletedAt, PrecedesAt, AllPairs-at, All-at}
use Rattle.std.proofs.lemmas.Bool.Decides.{nat_tests}
use Rattle.events.specs.declared.operation.Response.{Response}

-- a response before a place is before each later place
still_before : (response : Option Response) (i j : ℕ) → i < j → is_before response i ≡ true → is_before response j ≡ true
still_before None i j lt h = h
still_before (Some response) i j lt h = later response.res i j lt h
  where
    later : (k i j : ℕ) → i < j → nat_lt k i ≡ true → nat_lt k j ≡ true
    later k i j lt h = grind (arith, nat_tests)

-- no call that was invoked later precedes a call
pub none_later : (calls : List Operation) (m n : ℕ) → AllPairs (λ a b. a.inv < b.inv) calls → NonePrecedesItself calls → n ≤ m
    → PrecedesAt calls m n
    → ⊥
none_later calls m n rising apart le (a, b, a_here, b_here, e) =
    let own : precedes a a ≡ false = All-at (λ (x : Operation). precedes x x ≡ false) calls m a apart a_here in
    ⊎_elim
    (λ same.
    let b_is : a ≡ b = same_Some a b (sym a_here ∙ ap (slice_get calls) same ∙ b_here) in
    both_ways (precedes a a) own (ap (λ (x : Operation). precedes a x) b_is ∙ e))
    (λ apart_from. ⊎_elim
    (λ lower. absurd (omega arith))
    (λ higher.
    let up = AllPairs-at (λ (x : Operation) (y : Operation). x.inv < y.inv) calls n m b a rising higher b_here a_here in
    both_ways (precedes a a) own (still_before a.response b.inv a.inv up e))
    apart_from)
    (cases_order m n)

-- a call that precedes another one is completed
ends : (response : Option Response) (i : ℕ) → is_before response i ≡ true → is_some response ≡ true
ends None i h = absurd (both_ways false refl h)
ends (Some response) i h = refl

pub completed_before : (calls : List Operation) (m n : ℕ) → PrecedesAt calls m n → IsCompletedAt calls m
completed_before calls m n (a, b, a_here, b_here, e) =
    subst (λ o. IsSomeAnd o (λ (x : Operation). IsTrue (is_completed x))) (sym a_here) (ends a.response b.inv e)
