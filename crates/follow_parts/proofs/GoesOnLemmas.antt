-- Each part of a state goes on.
use Rattle.follow_parts.proofs.Common.{◌≡◌, ℕ, ◌<◌, false, [], map, ◌≢◌, All, All-cons, All-map, All-nil, All-weaker, Operation, precedes, AllPairs-nil}
use Rattle.follow_parts.proofs.Common.{Any-first, Contents, IsLinearizable, KeptPast, at_rest, PartGoesOn, kept_of, kept_part, past_of, Part, IsPartBefore}
use Rattle.follow_parts.proofs.Common.{IsShaped, PartsView, kept_parts, kept_rest}

abbrev HasOrder : KeptPast → Type 0
HasOrder past = IsLinearizable past.pairs past.left

none_ordered : (m : Contents) → IsLinearizable m []
none_ordered m = (
  [],
  record {
    legal_order = record {
      known = All-nil (λ (n : ℕ). n < 0);
      distinct = AllPairs-nil (λ (m n : ℕ). m ≢ n);
      precedence = AllPairs-nil (λ (a b : Operation). precedes b a ≡ false);
      legal = tt;
    };
    complete = λ n completed. absurd completed;
  },
)

rest_goes_on : (s : PartsView) → PartGoesOn (kept_rest s.rest s.parts)
rest_goes_on s = Any-first HasOrder (at_rest s.rest) [] (none_ordered s.rest)

part_goes_on : (s : PartsView) (part : Part) → IsPartBefore s.now s.reads part → PartGoesOn (kept_part part)
part_goes_on s part h =
    Any-first HasOrder (past_of part.first part.found.items) (map kept_of part.others.items) (part.first.order, h.first.order)

pub parts_go_on : (s : PartsView) → IsShaped s → All PartGoesOn (kept_parts s)
parts_go_on s h =
    All-cons PartGoesOn (kept_rest s.rest s.parts) (map kept_part s.parts) (rest_goes_on s)
    (All-map PartGoesOn kept_part s.parts (All-weaker (IsPartBefore s.now s.reads) (λ part. PartGoesOn (kept_part part)) (λ part. part_goes_on s part) s.parts h.parts))
