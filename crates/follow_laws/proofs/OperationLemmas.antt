-- What is left at some keys, as calls of a map that has only these keys.
use Rattle.follow_laws.proofs.Common.{◌≡◌, ℕ, ◌<◌, Bool, true, List, map, inl, inr, sym, ap, ◌∙◌, subst, ⊎_elim, arith, ◌≢◌, ◌⊎◌, ◌↔◌, AllPairs}
use Rattle.follow_laws.proofs.Common.{Contains, filter, AllPairs-map, AllPairs-weaker, Contains-map, Contains-from_map, Contains-filter}
use Rattle.follow_laws.proofs.Common.{Contains-from_filter, Operation, Contents, value_at, calls_at, KeyedCall, IsNoEffect, keyed, AreKeyedCalls}
use Rattle.follow_laws.proofs.Common.{HasKeyedOrder, Choice, Keys, has_call, IsAlikeAt, AreAlike, OperationsDecide, AreLeftCalls, left_at}
use Rattle.follow_laws.proofs.AfterLemmas.{named_in, from_named}
use Rattle.follow_laws.proofs.BridgeLemmas.{keyed_order, plain_order}
use Rattle.follow_laws.proofs.OrderLemmas.{same_call}
use Rattle.follow_laws.proofs.AlikeLemmas.{alike_decide}
use Rattle.follow_laws.proofs.SomeLemmas.{keyed_left, keyed_some, some_decide}

-- whether one of the operations is of this name
abbrev is_shown : List Operation → KeyedCall → Bool
is_shown left x = has_call (map keyed left) x.inv

-- what is left of the calls that have operations
abbrev shown : Keys → Choice → List KeyedCall → List Operation → List KeyedCall
shown keys past calls left = filter (is_shown left) (map (left_at keys past) calls)

module _ (keys : Keys) (past : Choice) (calls : List KeyedCall) (pairs : Contents) (left : List Operation) (apart : AreKeyedCalls calls)
    (rising : AllPairs (λ a b. a.inv < b.inv) calls) (are : AreLeftCalls keys past calls pairs left) where
  named_left : (a : KeyedCall) (o : Operation) → Contains left o → IsAlikeAt keys (left_at keys past a) (keyed o)
      → is_shown left (left_at keys past a) ≡ true
  named_left a o o_in alike =
      subst (λ (n : ℕ). has_call (map keyed left) n ≡ true) alike.inv (named_in (map keyed left) (keyed o) (Contains-map keyed left o o_in))

  operation_of : (a : KeyedCall) → Contains calls a → is_shown left (left_at keys past a) ≡ true
      → (o : Operation) × Contains left o × IsAlikeAt keys (left_at keys past a) (keyed o)
  operation_of a a_in named =
      let (x, x_in, x_is) = from_named (map keyed left) a.inv named in
      let (o, o_in, o_is) = Contains-from_map keyed left x x_in in
      let (c, c_in, alike) = are.back o o_in in
      let same : c ≡ a = same_call calls c a apart.distinct c_in a_in (sym alike.inv ∙ ap (λ (z : KeyedCall). z.inv) o_is ∙ x_is) in
      (o, o_in, subst (λ (z : KeyedCall). IsAlikeAt keys (left_at keys past z) (keyed o)) same alike)

  none_or_shown : (x : KeyedCall) → Contains (map (left_at keys past) calls) x
      → ((key : ℕ) → IsNoEffect (x.effect key)) ⊎ (is_shown left x ≡ true)
  none_or_shown x x_in =
      let (a, a_in, a_is) = Contains-from_map (left_at keys past) calls x x_in in
      ⊎_elim
      (λ none. inl (subst (λ (z : KeyedCall). (key : ℕ) → IsNoEffect (z.effect key)) a_is none))
      (λ some. inr (subst (λ (z : KeyedCall). is_shown left z ≡ true) a_is (named_left a some.0 some.1 some.2)))
      (are.there a a_in)

  alike : AreAlike keys past.holds (value_at pairs) (shown keys past calls left) (map keyed left)
  alike = record {
    same = are.same;
    nothing = are.nothing;
    there = λ x x_in.
        let (whole, named) = Contains-from_filter (is_shown left) (map (left_at keys past) calls) x x_in in
        let (a, a_in, a_is) = Contains-from_map (left_at keys past) calls x whole in
        let (o, o_in, is) = operation_of a a_in (subst (λ (z : KeyedCall). is_shown left z ≡ true) (sym a_is) named) in
        (keyed o, Contains-map keyed left o o_in, subst (λ (z : KeyedCall). IsAlikeAt keys z (keyed o)) a_is is);
    back = λ y y_in.
        let (o, o_in, o_is) = Contains-from_map keyed left y y_in in
        let (a, a_in, is) = are.back o o_in in (
          left_at keys past a,
          Contains-filter (is_shown left) (map (left_at keys past) calls) (left_at keys past a)
              (Contains-map (left_at keys past) calls a a_in) (named_left a o o_in is),
          subst (λ (z : KeyedCall). IsAlikeAt keys (left_at keys past a) z) o_is is,
        );
    one = (keyed_some (is_shown left) (map (left_at keys past) calls) (keyed_left keys past calls apart)).distinct;
    other_one = AllPairs-map (λ a b. a.inv ≢ b.inv) keyed left
        (AllPairs-weaker (λ a b. a.inv < b.inv) (λ a b. a.inv ≢ b.inv) left (λ a b a_in b_in less same. absurd (omega arith)) are.rising);
  }

  decide : HasKeyedOrder past.holds (map (left_at keys past) calls) ↔ HasKeyedOrder past.holds (shown keys past calls left)
  decide = some_decide past.holds (is_shown left) (map (left_at keys past) calls) (keyed_left keys past calls apart)
      (AllPairs-map (λ a b. a.inv < b.inv) (left_at keys past) calls rising) none_or_shown

  same : HasKeyedOrder past.holds (shown keys past calls left) ↔ HasKeyedOrder (value_at pairs) (map keyed left)
  same = alike_decide keys past.holds (value_at pairs) (shown keys past calls left) (map keyed left) alike

pub operations_decide : OperationsDecide
operations_decide keys past calls pairs left apart rising are = (
  λ order.
      let there = (same keys past calls pairs left apart rising are).0 ((decide keys past calls pairs left apart rising are).0 order) in
      plain_order pairs left are.rises are.rising are.forms there.0 there.1,
  λ order. (decide keys past calls pairs left apart rising are).1 ((same keys past calls pairs left apart rising are).1
      (map keyed (calls_at left order.0), (keyed_order pairs left are.rises are.rising order.0 order.1).1)),
)
