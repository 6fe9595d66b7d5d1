-- The least order by fronts, and by numbers.
use Rattle.search.proofs.Common.{◌≡◌, ℕ, ◌<◌, List, [], ◌∷◌, length, refl, sym, ap, ◌∙◌, ⊎_elim, ◌↔◌, slice_index, All, IsStrictlyIncreasing}
use Rattle.search.proofs.Common.{cases_order, All-head, All-tail, AllPairs-from_increasing, Operation, NonePrecedesItself, Contents, SegmentView}
use Rattle.search.proofs.Common.{numbers_at, is_at_or_before, IsLeastOrder, IsFront-from_order, IsOrder-from_front, IsLeastWholeFront}
use Rattle.search.proofs.LeastOrderLemmas.{is_at_or_before-same, is_at_or_before-lower, is_at_or_before-higher}

pub least_order_by_fronts : (start : Contents) (calls : List Operation) (order : List ℕ) → NonePrecedesItself calls
    → IsLeastOrder start calls order ↔ IsLeastWholeFront start calls order
least_order_by_fronts start calls order apart = (
  λ h. record {
    is_front = IsFront-from_order start calls order apart h.is_order;
    complete = h.is_order.complete;
    least = λ other is_front complete. h.least other (IsOrder-from_front start calls other is_front complete);
  },
  λ h. record {
    is_order = IsOrder-from_front start calls order h.is_front h.complete;
    least = λ other is_order. h.least other (IsFront-from_order start calls other apart is_order) is_order.complete;
  },
)

pub places_compare_as_numbers : (segment : SegmentView) (xs ys : List ℕ) → IsStrictlyIncreasing segment.numbers
    → All (λ n. n < length segment.numbers) xs
    → All (λ n. n < length segment.numbers) ys → is_at_or_before (numbers_at segment xs) (numbers_at segment ys) ≡ is_at_or_before xs ys
places_compare_as_numbers segment [] ys rising below_x below_y = refl
places_compare_as_numbers segment (x ∷ xs) [] rising below_x below_y = refl
places_compare_as_numbers segment (x ∷ xs) (y ∷ ys) rising below_x below_y =
    let x_below = All-head (λ n. n < length segment.numbers) x xs below_x in
    let y_below = All-head (λ n. n < length segment.numbers) y ys below_y in
    let rest =
    places_compare_as_numbers segment xs ys rising (All-tail (λ n. n < length segment.numbers) x xs below_x)
    (All-tail (λ n. n < length segment.numbers) y ys below_y) in
    let up = AllPairs-from_increasing segment.numbers rising in
    let number = slice_index segment.numbers in
    ⊎_elim
    (λ same. ap (λ k. is_at_or_before (number k ∷ numbers_at segment xs) (number y ∷ numbers_at segment ys)) same
    ∙ is_at_or_before-same (number y) (numbers_at segment xs) (numbers_at segment ys) ∙ rest ∙ sym (is_at_or_before-same y xs ys)
    ∙ ap (λ k. is_at_or_before (k ∷ xs) (y ∷ ys)) (sym same))
    (λ apart. ⊎_elim
    (λ lower. is_at_or_before-lower (number x) (numbers_at segment xs) (number y) (numbers_at segment ys) (up x y 0 lower y_below)
    ∙ sym (is_at_or_before-lower x xs y ys lower))
    (λ higher. is_at_or_before-higher (number x) (numbers_at segment xs) (number y) (numbers_at segment ys) (up y x 0 higher x_below)
    ∙ sym (is_at_or_before-higher x xs y ys higher))
    apart)
    (cases_order x y)
