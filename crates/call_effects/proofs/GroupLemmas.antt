-- Calls within a range of keys have the same orders from the pairs of the range.
use Rattle.call_effects.proofs.Common.{ℕ, List, ◌↔◌, slice_get, All, Operation, Contents, within, calls_at, IsOrder, IsInside, All-from_contains}
use Rattle.call_effects.proofs.Common.{All-at, Contains-from_filter_map}
use Rattle.orders.specs.SegmentView.{NamesKeysWithin}
use Rattle.call_effects.proofs.CellLemmas.{legal_within}

-- ---- the pairs of a range

all_inside : (low high : ℕ) (calls : List Operation) (order : List ℕ) → All (λ a. NamesKeysWithin low high a.call) calls
    → All (λ a. IsInside low high a.call) (calls_at calls order)
all_inside low high calls order names = All-from_contains (λ a. IsInside low high a.call) (calls_at calls order) (λ a is.
    let (n, n_is, at) = Contains-from_filter_map (slice_get calls) order a is in
    let keys = All-at (λ a. NamesKeysWithin low high a.call) calls n a names at in
    record { low_inside = keys.low_within; high_inside = keys.high_within })

pub ranges_suffice : (low high : ℕ) (m : Contents) (calls : List Operation) (order : List ℕ)
    → All (λ a. NamesKeysWithin low high a.call) calls
    → IsOrder m calls order ↔ IsOrder (within low high m) calls order
ranges_suffice low high m calls order names =
    let legal = legal_within low high (calls_at calls order) m (all_inside low high calls order names) in (
      λ h. record {
        legal_order = record {
          known = h.legal_order.known;
          distinct = h.legal_order.distinct;
          precedence = h.legal_order.precedence;
          legal = legal.0 h.legal_order.legal;
        };
        complete = h.complete;
      },
      λ h. record {
        legal_order = record {
          known = h.legal_order.known;
          distinct = h.legal_order.distinct;
          precedence = h.legal_order.precedence;
          legal = legal.1 h.legal_order.legal;
        };
        complete = h.complete;
      },
    )
