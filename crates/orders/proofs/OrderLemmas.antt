-- Laws of legal lists of calls and of orders.
use Rattle.orders.proofs.Common.{◌≡◌, ℕ, ◌+◌, ◌<◌, List, Some, [], ◌∷◌, ◌++◌, length, get_or, take, refl, ap, ◌∙◌, slice_get, IsTrue, cons_option}
use Rattle.orders.proofs.Common.{take_more, filter_map-append, Operation, is_completed, Contents, after_call, after_calls, IsLegal, calls_at}
use Rattle.orders.proofs.Common.{IsCompletedAt, IsSomeAnd-within}

-- the pairs after two lists of calls are the pairs after the second, from those after the first
pub after_calls-append : (m : Contents) (xs ys : List Operation) → after_calls m (xs ++ ys) ≡ after_calls (after_calls m xs) ys
after_calls-append m [] ys = refl
after_calls-append m (a ∷ xs) ys = after_calls-append (after_call m a.call a.response) xs ys

-- a legal list goes on with a list that is legal after it
pub IsLegal-append : (m : Contents) (xs ys : List Operation) → IsLegal m xs → IsLegal (after_calls m xs) ys → IsLegal m (xs ++ ys)
IsLegal-append m [] ys h k = k
IsLegal-append m (a ∷ xs) ys h k = (h.0, IsLegal-append (after_call m a.call a.response) xs ys h.1 k)

-- the front of a legal list is legal
pub IsLegal-front : (m : Contents) (xs ys : List Operation) → IsLegal m (xs ++ ys) → IsLegal m xs
IsLegal-front m [] ys h = tt
IsLegal-front m (a ∷ xs) ys h = (h.0, IsLegal-front (after_call m a.call a.response) xs ys h.1)

-- the back of a legal list is legal after its front
pub IsLegal-back : (m : Contents) (xs ys : List Operation) → IsLegal m (xs ++ ys) → IsLegal (after_calls m xs) ys
IsLegal-back m [] ys h = h
IsLegal-back m (a ∷ xs) ys h = IsLegal-back (after_call m a.call a.response) xs ys h.1

-- the calls of two lists of numbers, one after the other
pub calls_at-append : (calls : List Operation) (xs ys : List ℕ) → calls_at calls (xs ++ ys) ≡ calls_at calls xs ++ calls_at calls ys
calls_at-append calls xs ys = filter_map-append (slice_get calls) xs ys

-- one more number gives one more call
pub calls_at-push : (calls : List Operation) (numbers : List ℕ) (n : ℕ) (a : Operation) → slice_get calls n ≡ Some a
    → calls_at calls (numbers ++ n ∷ []) ≡ calls_at calls numbers ++ a ∷ []
calls_at-push calls numbers n a h = calls_at-append calls numbers (n ∷ []) ∙ ap (λ o. calls_at calls numbers ++ cons_option o []) h

-- the calls of the first numbers, one number further
pub calls_at-more : (calls : List Operation) (numbers : List ℕ) (i d : ℕ) (a : Operation) → i < length numbers
    → slice_get calls (get_or numbers i d) ≡ Some a
    → calls_at calls (take (i + 1) numbers) ≡ calls_at calls (take i numbers) ++ a ∷ []
calls_at-more calls numbers i d a within h = ap (calls_at calls) (take_more numbers i d within)
    ∙ calls_at-push calls (take i numbers) (get_or numbers i d) a h

-- the pairs after one more call
pub after_calls-push : (start : Contents) (calls : List Operation) (front : List ℕ) (n : ℕ) (a : Operation) → slice_get calls n ≡ Some a
    → after_calls start (calls_at calls (front ++ n ∷ [])) ≡ after_call (after_calls start (calls_at calls front)) a.call a.response
after_calls-push start calls front n a here =
    ap (after_calls start) (calls_at-push calls front n a here) ∙ after_calls-append start (calls_at calls front) (a ∷ [])

-- a completed call has a number below the count of calls
pub IsCompletedAt-below : (calls : List Operation) (n : ℕ) → IsCompletedAt calls n → n < length calls
IsCompletedAt-below calls n h = IsSomeAnd-within calls n (λ a. IsTrue (is_completed a)) h
