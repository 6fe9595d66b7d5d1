-- A report with an order has no float, so its text is the compact one.
use Rattle.explain_locate.proofs.Common.{◌≡◌, ℕ, List, false, refl, items_of, has_float, items_have_float, number_data, ordered_data, Location, Yes, No}
use Rattle.explain_locate.proofs.Common.{Lost, Undecided}
use Rattle.history_text.proofs.WrittenLemmas.{items_have_float-map}

module _ (order : List ℕ) where
  pub has_float-ordered : (location : Location) → has_float (ordered_data location order) ≡ false
  has_float-ordered Yes = rw (items_have_float-map number_data (λ n. refl) order) refl
  has_float-ordered (No event number) = rw (items_have_float-map number_data (λ n. refl) order) refl
  has_float-ordered (Lost loss) = rw (items_have_float-map number_data (λ n. refl) order) refl
  has_float-ordered (Undecided event number) = refl
