-- The calls of events, as the keys see them.
use Rattle.follow_laws.proofs.Common.{◌≡◌, ℕ, ◌<◌, Bool, true, false, List, [], ◌∷◌, map, length, Option, Some, None, refl, sym, ap, ◌∙◌, subst, ◌≢◌}
use Rattle.follow_laws.proofs.Common.{All, AllPairs, Contains, slice_get, ⊤, All-nil, All-cons, All-contains, AreRelatedAs, AllPairs-filter_map}
use Rattle.follow_laws.proofs.Common.{AllPairs-from_filter_map, AllPairs-map, AllPairs-from_map, AllPairs-weaker, Contains-map, Contains-from_map}
use Rattle.follow_laws.proofs.Common.{Contains-filter_map, Contains-from_filter_map, All-from_contains, Contains-first, Contains-later, Contains-at}
use Rattle.follow_laws.proofs.Common.{place_of-Contains, Call, Get, Insert, Remove, Scan, Replace, Operation, Response, operations, inv_rises}
use Rattle.follow_laws.proofs.Common.{same_number, Contents, IsRising, value_at, calls_at, IsOrder, IsLinearizable, KeyedCall, keyed, place_of}
use Rattle.follow_laws.proofs.Common.{ends_before, precedes, is_completed, IsKeyedOrder, HasForm, HaveForms, OrdersAreKeyedOrders, is_before}
use Rattle.std.proofs.Common.{is_some}
use Rattle.events.proofs.NumberLemmas.{slice_get-below, some_at, IsSomeAnd-within}
use Rattle.follow_laws.proofs.EffectLemmas.{legal_fits, fits_legal}
use Rattle.events.specs.Precedence as events

-- precedence is the same
same_before : (response : Option Response) (place : ℕ) → ends_before (place_of response) place ≡ is_before response place
same_before None place = refl
same_before (Some response) place = refl

pub same_precedes : (a b : Operation) → precedes (keyed a) (keyed b) ≡ events.precedes a b
same_precedes a b = same_before a.response b.inv

same_completed : (response : Option Response) → is_some (place_of response) ≡ is_some response
same_completed None = refl
same_completed (Some response) = refl

pending_form : (call : Call) (response : Option Response) → is_some response ≡ false → HasForm call response
pending_form (Get key) response pending = tt
pending_form (Insert key value) response pending = tt
pending_form (Remove key) response pending = tt
pending_form (Scan low high) None pending = tt
pending_form (Scan low high) (Some response) pending = cc
pending_form (Replace key expected value) response pending = tt

module _ (start : Contents) (calls : List Operation) (rising : IsRising start) (rise : AllPairs (λ a b. a.inv < b.inv) calls) where
  taken_at : (order : List ℕ) (a : Operation) → Contains (calls_at calls order) a → (n : ℕ) × Contains order n × (slice_get calls n ≡ Some a)
  taken_at order a a_in = Contains-from_filter_map (slice_get calls) order a a_in

  -- from an order to one that the keys see
  pub keyed_order : (order : List ℕ) → IsOrder start calls order
      → HaveForms calls × IsKeyedOrder (value_at start) (map keyed calls) (map keyed (calls_at calls order))
  keyed_order order is =
      let both = legal_fits (calls_at calls order) start rising is.legal_order.legal in (
        All-from_contains (λ a. HasForm a.call a.response) calls (λ a a_in. form_of a a_in both.0),
        record {
          known = λ y y_in.
              let (a, a_in, a_is) = Contains-from_map keyed (calls_at calls order) y y_in in
              let (n, n_in, here) = taken_at order a a_in in
              subst (λ (z : KeyedCall). Contains (map keyed calls) z) a_is (Contains-map keyed calls a (Contains-at calls n a here));
          distinct = AllPairs-map (λ x y. x.inv ≢ y.inv) keyed (calls_at calls order)
              (AllPairs-filter_map (λ a b. a.inv ≢ b.inv) (slice_get calls) order
              (AllPairs-weaker (λ m n. m ≢ n) (AreRelatedAs (λ a b. a.inv ≢ b.inv) (slice_get calls)) order
              (λ m n m_in n_in apart a b m_is n_is same. apart (same_number calls m n a b rise m_is n_is same)) is.legal_order.distinct));
          precedence = AllPairs-map (λ x y. precedes y x ≡ false) keyed (calls_at calls order)
              (AllPairs-weaker (λ a b. events.precedes b a ≡ false) (λ a b. precedes (keyed b) (keyed a) ≡ false) (calls_at calls order)
              (λ a b a_in b_in not. same_precedes b a ∙ not) is.legal_order.precedence);
          complete = λ y y_in completed.
              let (a, a_in, a_is) = Contains-from_map keyed calls y y_in in
              let ended : is_some a.response ≡ true =
              sym (same_completed a.response) ∙ subst (λ (z : KeyedCall). is_completed z ≡ true) (sym a_is) completed in
              subst (λ (z : KeyedCall). Contains (map keyed (calls_at calls order)) z) a_is
              (Contains-map keyed (calls_at calls order) a (in_order a a_in ended));
          fit = both.1;
        },
      )
    where
      in_order : (a : Operation) → Contains calls a → is_some a.response ≡ true → Contains (calls_at calls order) a
      in_order a a_in ended =
          let (n, here) = place_of-Contains calls a a_in in
          Contains-filter_map (slice_get calls) order n a (is.complete n (rw here ended)) here

      form_of : (a : Operation) → Contains calls a → HaveForms (calls_at calls order) → HasForm a.call a.response
      form_of a a_in forms = by_end (is_some a.response) refl
        where
          by_end : (b : Bool) → is_some a.response ≡ b → HasForm a.call a.response
          by_end true ended = All-contains (λ b. HasForm b.call b.response) (calls_at calls order) a forms (in_order a a_in ended)
          by_end false pending = pending_form a.call a.response pending

  -- the numbers of the calls of an order that the keys see
  numbers_of : (order : List KeyedCall) → ((x : KeyedCall) → Contains order x → Contains (map keyed calls) x)
      → (numbers : List ℕ) × (map keyed (calls_at calls numbers) ≡ order) × All (λ n. n < length calls) numbers
  numbers_of [] known = ([], refl, All-nil (λ n. n < length calls))
  numbers_of (x ∷ order) known =
      let (a, a_in, a_is) = Contains-from_map keyed calls x (known x (Contains-first x order)) in
      let (n, here) = place_of-Contains calls a a_in in
      let (numbers, is, within) = numbers_of order (λ y y_in. known y (Contains-later x order y y_in)) in (
        n ∷ numbers,
        rw here (ap (λ (z : KeyedCall). z ∷ map keyed (calls_at calls numbers)) a_is ∙ ap (λ (zs : List KeyedCall). x ∷ zs) is),
        All-cons (λ m. m < length calls) n numbers (IsSomeAnd-within calls n (λ b. ⊤) (rw here tt)) within,
      )

  pub plain_order : HaveForms calls → (order : List KeyedCall) → IsKeyedOrder (value_at start) (map keyed calls) order → IsLinearizable start calls
  plain_order forms order is =
      let (numbers, numbers_are, within) = numbers_of order is.known in
      let mapped : IsKeyedOrder (value_at start) (map keyed calls) (map keyed (calls_at calls numbers)) =
      subst (λ (xs : List KeyedCall). IsKeyedOrder (value_at start) (map keyed calls) xs) (sym numbers_are) is in (
        numbers,
        record {
          legal_order = record {
            known = within;
            distinct = AllPairs-weaker (AreRelatedAs (λ a b. a.inv ≢ b.inv) (slice_get calls)) (λ m n. m ≢ n) numbers
                (λ m n m_in n_in apart same.
                let (a, here) = slice_get-below calls m (All-contains (λ k. k < length calls) numbers m within m_in) in
                apart a a here (subst (λ (k : ℕ). slice_get calls k ≡ Some a) same here) refl)
                (AllPairs-from_filter_map (λ a b. a.inv ≢ b.inv) (slice_get calls) numbers
                (AllPairs-from_map (λ x y. x.inv ≢ y.inv) keyed (calls_at calls numbers) mapped.distinct));
            precedence = AllPairs-weaker (λ a b. precedes (keyed b) (keyed a) ≡ false) (λ a b. events.precedes b a ≡ false) (calls_at calls numbers)
                (λ a b a_in b_in not. sym (same_precedes b a) ∙ not)
                (AllPairs-from_map (λ x y. precedes y x ≡ false) keyed (calls_at calls numbers) mapped.precedence);
            legal = fits_legal (calls_at calls numbers) start rising
                (All-from_contains (λ a. HasForm a.call a.response) (calls_at calls numbers) (λ a a_in.
                let (n, n_in, here) = taken_at numbers a a_in in
                All-contains (λ b. HasForm b.call b.response) calls a forms (Contains-at calls n a here)))
                mapped.fit;
          };
          complete = λ n ended.
              let (a, here, completed) = some_at (slice_get calls n) (λ b. events.is_completed b ≡ true) ended in
              let in_keyed : Contains (map keyed (calls_at calls numbers)) (keyed a) =
              mapped.complete (keyed a) (Contains-map keyed calls a (Contains-at calls n a here)) (same_completed a.response ∙ completed) in
              let (b, b_in, b_is) = Contains-from_map keyed (calls_at calls numbers) (keyed a) in_keyed in
              let (m, m_in, there) = taken_at numbers b b_in in
              let same : m ≡ n = same_number calls m n b a rise there here (ap (λ (z : KeyedCall). z.inv) b_is) in
              subst (λ (k : ℕ). Contains numbers k) same m_in;
        },
      )

pub keyed_orders : OrdersAreKeyedOrders
keyed_orders start events rising = (
  λ order. let both = keyed_order start (operations events) rising (inv_rises events) order.0 order.1 in
      (both.0, (map keyed (calls_at (operations events) order.0), both.1)),
  λ both. plain_order start (operations events) rising (inv_rises events) both.0 both.1.0 both.1.1,
)
