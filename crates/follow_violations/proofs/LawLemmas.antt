-- What goes wrong on its own has no order: the only past of a part has only calls of the events, and is sorted.
use Rattle.follow_violations.proofs.Common.{All-from_contains, Operation, kept_of, Past, first_of, Keys, IsOwn, keyed, ArePasts, IsOwnPartOf}
use Rattle.follow_violations.proofs.Common.{OwnPartsHaveNoOrder, Put, pasts_of, covered, ◌≡◌, List, [], ◌∷◌, map, Some, subst, All-contains, All-head}
use Rattle.follow_violations.proofs.Common.{none-some, same_Some, All, Contains}
use Rattle.events.proofs.TimeLemmas.{NonePrecedesItself-operations}
use Rattle.events.specs.Operations.{operations}
use Rattle.events.specs.Precedence.{precedes}
use Rattle.events.specs.declared.event.Event.{Event}
use Rattle.follow_pasts.specs.Pasts.{IsDead}
use Rattle.std.specs.Prelude.{false}
use Rattle.follow_laws.specs.Choices.{Choice}
use Rattle.follow_violations.specs.OwnParts.{KeyCore, part_of, puts_but}

-- one past that is kept, and dead
one_part : (events : List Event) (keys : Keys) (puts : List Put) (past : Past) (choices : List Choice)
    → ArePasts keys (map keyed (operations events)) (kept_of past ∷ []) choices → All (IsOwn keys (operations events)) (kept_of past ∷ [])
    → All IsDead (kept_of past ∷ [])
    → IsOwnPartOf events (record { start = past.map; calls = past.calls.items; puts = puts })
one_part events keys puts past [] are own dead = absurd are
one_part events keys puts past (choice ∷ choices) are own dead =
    let left : All (Contains (operations events)) past.calls.items = (All-head (IsOwn keys (operations events)) (kept_of past) [] own).of_calls.left in record {
      none = All-head IsDead (kept_of past) [] dead;
      sorted = are.0.alike.rises;
      rising = are.0.alike.rising;
      apart = All-from_contains (λ (o : Operation). precedes o o ≡ false) past.calls.items (λ o o_in.
          All-contains (λ (a : Operation). precedes a a ≡ false) (operations events) o (NonePrecedesItself-operations events)
          (All-contains (Contains (operations events)) past.calls.items o left o_in));
      are = left;
    }

of_pasts : (events : List Event) (keys : Keys) (puts : List Put) (pasts : List Past) (choices : List Choice) (part : KeyCore)
    → ArePasts keys (map keyed (operations events)) (map kept_of pasts) choices → All (IsOwn keys (operations events)) (map kept_of pasts)
    → All IsDead (map kept_of pasts) → part_of puts pasts ≡ Some part → IsOwnPartOf events part
of_pasts events keys puts [] choices part are own dead is = absurd (none-some part is)
of_pasts events keys puts (past ∷ []) choices part are own dead is =
    subst (IsOwnPartOf events) (same_Some _ part is) (one_part events keys (puts_but past.calls.items puts) past choices are own dead)
of_pasts events keys puts (past ∷ other ∷ pasts) choices part are own dead is = absurd (none-some part is)

pub own_parts_have_no_order : OwnPartsHaveNoOrder
own_parts_have_no_order start place events loss part kept dead is =
    let first = first_of start place (operations events) (record { keys = covered loss.part.ranges.items; pasts = pasts_of loss.part }) kept.others
    kept.are_kept in
    of_pasts events (covered loss.part.ranges.items) loss.puts.items loss.part.pasts.items first.pasts part first.are_pasts first.own dead is
