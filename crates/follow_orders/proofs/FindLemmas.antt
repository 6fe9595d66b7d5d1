-- Orders that were found are kept.
use Rattle.follow_orders.proofs.Common.{◌≡◌, List, refl, sym, subst, Operation, Contents, IsOrder, StoredOrderView, places, IsWhole, view_of, Keeps}
use Rattle.follow_orders.proofs.Common.{Front}

-- what holds of a map and a list of calls holds of the same ones
pub over : (P : Contents → List Operation → Type 0) (m start : Contents) (list calls : List Operation) → m ≡ start → list ≡ calls → P m list
    → P start calls
over P m start list calls m_is list_is h = subst (P start) list_is (subst (λ x. P x list) m_is h)

pub keeps : (start : Contents) (calls : List Operation) (front : Front) (view : StoredOrderView) → view ≡ view_of calls front
    → front.start ≡ start
    → IsWhole calls front → Keeps start calls view
keeps start calls front view is start_is whole = subst (Keeps start calls) (sym is) (record {
  same_start = start_is;
  same_calls = refl;
  is_order = subst (λ s. IsOrder s calls (places front.levels.items)) start_is whole;
})
