-- What is left of calls where some go.
use Rattle.explain_shrink.proofs.Common.{◌≡◌, ℕ, ◌<◌, ◌≤◌, Bool, true, false, List, length, map, Option, Some, None, refl, sym, ap, ◌∙◌, subst, inl, inr}
use Rattle.explain_shrink.proofs.Common.{⊎_elim, arith, ◌≢◌, ◌⊎◌, not, is_some, if◌then◌else◌, All, AllPairs, Contains, list_any, false≢true, or_parts}
use Rattle.explain_shrink.proofs.Common.{and_parts, and_from, not_from_false, length-map, All-contains, Operation, low_key, may_change, is_completed}
use Rattle.explain_shrink.proofs.Common.{belongs, precedes, NonePrecedesItself, has_number, All-from_contains, length-distinct, Contains-filter}
use Rattle.explain_shrink.proofs.Common.{Contains-from_filter, InvocationsRise, same_call, put_of, is_sure, tells_put, tells_put_at, says_put, is_between}
use Rattle.explain_shrink.proofs.Common.{opened, gone_of, puts_of, is_overwritten, may_depend_on, is_touched, is_held, if_belongs, left_of, rest_of, are_held}
use Rattle.explain_shrink.proofs.Common.{IsCallOf, IsOverwritten, IsLeftOut, IsRelaxed}
use Rattle.std.specs.Prelude.{◌&&◌}
use Rattle.std.proofs.lemmas.Option.{none-some, same_Some}
use Rattle.events.proofs.NumberLemmas.{has_number-Contains}
use Rattle.events.proofs.FilterLemmas.{AreRelatedAs, AllPairs-filter_map, AllPairs-weaker, AllPairs-map, Contains-filter_map}
use Rattle.events.proofs.FilterLemmas.{Contains-from_filter_map, Contains-from_map}
use Rattle.explain_shrink.proofs.AnyLemmas.{none_of, any_of, found_any}
use Rattle.explain_shrink.proofs.AgreeLemmas.{put_none, put_changes}
use Rattle.explain_shrink.proofs.RelaxedLemmas.{same_place, fewer_precede}

-- ---- one call

belongs_same : (a b : Operation) → if_belongs a ≡ Some b → b ≡ a
belongs_same a b is = by_test (belongs a) is
  where
    by_test : (t : Bool) → (if t then Some a else None) ≡ Some b → b ≡ a
    by_test true is = sym (same_Some a b is)
    by_test false is = absurd (none-some b is)

belongs_not : (a : Operation) → if_belongs a ≡ None → belongs a ≡ false
belongs_not a is = by_test (belongs a) refl is
  where
    by_test : (t : Bool) → belongs a ≡ t → (if t then Some a else None) ≡ None → belongs a ≡ false
    by_test true e is = absurd (none-some a (sym is))
    by_test false e is = e

module _ (places : List ℕ) (puts gone : List Operation) (a : Operation) where
  -- what is left of a call is the call, as it is or without its answer
  left_some : (b : Operation) → left_of places puts gone a ≡ Some b → IsCallOf a b
  left_some b is = by_place (has_number places a.inv) is
    where
      by_touch : (t : Bool) → if_belongs (if t then opened a else a) ≡ Some b → IsCallOf a b
      by_touch true is = inr (belongs_same (opened a) b is)
      by_touch false is = inl (belongs_same a b is)

      by_place : (t : Bool) → (if t then if_belongs (if is_touched puts gone a then opened a else a) else None) ≡ Some b → IsCallOf a b
      by_place true is = by_touch (is_touched puts gone a) is
      by_place false is = absurd (none-some b is)

  -- a call loses its answer if it reports what a call that is left out put, and only then
  left_touched : (b : Operation) → left_of places puts gone a ≡ Some b
      → ((is_touched puts gone a ≡ true) × (b ≡ opened a)) ⊎ ((is_touched puts gone a ≡ false) × (b ≡ a))
  left_touched b is = by_place (has_number places a.inv) is
    where
      by_touch : (t : Bool) → is_touched puts gone a ≡ t → if_belongs (if t then opened a else a) ≡ Some b
          → ((is_touched puts gone a ≡ true) × (b ≡ opened a)) ⊎ ((is_touched puts gone a ≡ false) × (b ≡ a))
      by_touch true e is = inl (e, belongs_same (opened a) b is)
      by_touch false e is = inr (e, belongs_same a b is)

      by_place : (t : Bool) → (if t then if_belongs (if is_touched puts gone a then opened a else a) else None) ≡ Some b
          → ((is_touched puts gone a ≡ true) × (b ≡ opened a)) ⊎ ((is_touched puts gone a ≡ false) × (b ≡ a))
      by_place true is = by_touch (is_touched puts gone a) refl is
      by_place false is = absurd (none-some b is)

  -- if something is left of it, it stays
  left_stays : (b : Operation) → left_of places puts gone a ≡ Some b → has_number places a.inv ≡ true
  left_stays b is = by_place (has_number places a.inv) refl is
    where
      by_place : (t : Bool) → has_number places a.inv ≡ t
          → (if t then if_belongs (if is_touched puts gone a then opened a else a) else None) ≡ Some b → has_number places a.inv ≡ true
      by_place true e is = e
      by_place false e is = absurd (none-some b is)

  -- if nothing is left of it, it goes, or changes nothing
  left_none : left_of places puts gone a ≡ None → (has_number places a.inv ≡ false) ⊎ (may_change a.call ≡ false)
  left_none is = by_place (has_number places a.inv) refl is
    where
      by_touch : (t : Bool) → if_belongs (if t then opened a else a) ≡ None → may_change a.call ≡ false
      by_touch true is = (or_parts (is_completed (opened a)) (may_change a.call) (belongs_not (opened a) is)).1
      by_touch false is = (or_parts (is_completed a) (may_change a.call) (belongs_not a is)).1

      by_place : (t : Bool) → has_number places a.inv ≡ t
          → (if t then if_belongs (if is_touched puts gone a then opened a else a) else None) ≡ None
          → (has_number places a.inv ≡ false) ⊎ (may_change a.call ≡ false)
      by_place true e is = inr (by_touch (is_touched puts gone a) is)
      by_place false e is = inl e

-- ---- all calls

module _ (places : List ℕ) (calls : List Operation) where
  abbrev puts : List Operation
  puts = puts_of places calls

  abbrev gone : List Operation
  gone = gone_of places calls

  rest_from : (b : Operation) → Contains (rest_of places calls) b
      → (a : Operation) × Contains calls a × (left_of places puts gone a ≡ Some b) × IsCallOf a b
  rest_from b is =
      let found = Contains-from_filter_map (left_of places puts gone) calls b is in
      (found.0, found.1, found.2, left_some places puts gone found.0 b found.2)

  pub rest_rises : InvocationsRise calls → InvocationsRise (rest_of places calls)
  rest_rises rise =
      let f = left_of places puts gone in
      let R = λ (a b : Operation). a.inv < b.inv in
      AllPairs-filter_map R f calls (AllPairs-weaker R (AreRelatedAs R f) calls
      (λ a b a_is b_is less c d first second.
      let c_place : c.inv ≡ a.inv = same_place a c (left_some places puts gone a c first) in
      let d_place : d.inv ≡ b.inv = same_place b d (left_some places puts gone b d second) in
      omega (arith, less, c_place, d_place)) rise)

  pub rest_apart : NonePrecedesItself calls → NonePrecedesItself (rest_of places calls)
  rest_apart none = All-from_contains (λ b. precedes b b ≡ false) (rest_of places calls) (λ b is.
      let found = rest_from b is in
      fewer_precede found.0 found.0 b b found.3 found.3 (All-contains (λ a. precedes a a ≡ false) calls found.0 none found.1))

  -- the calls that stay are no more than the places
  pub rest_few : InvocationsRise calls → length (rest_of places calls) ≤ length places
  rest_few rise =
      let rest = rest_of places calls in
      let place = λ (b : Operation). b.inv in
      let distinct : AllPairs (λ m n. m ≢ n) (map place rest) =
      AllPairs-map (λ m n. m ≢ n) place rest (AllPairs-weaker (λ (a b : Operation). a.inv < b.inv) (λ (a b : Operation). a.inv ≢ b.inv) rest
      (λ a b a_is b_is less same. omega (arith, less, same)) (rest_rises rise)) in
      let known : All (Contains places) (map place rest) = All-from_contains (Contains places) (map place rest) (λ n n_is.
      let b = Contains-from_map place rest n n_is in
      let a = rest_from b.0 b.1 in
      subst (Contains places) (sym (same_place a.0 b.0 a.3) ∙ b.2)
      (has_number-Contains places a.0.inv (left_stays places puts gone a.0 b.0 a.2))) in
      let few = length-distinct (map place rest) places distinct known in
      let same = length-map rest place in
      omega (arith, few, same)

  module _ (rise : InvocationsRise calls) (free : are_held places calls ≡ false) where
    -- what is left of a call
    left_is : (b left : Operation) → Contains calls b → Contains (rest_of places calls) left → IsCallOf b left
        → left_of places puts gone b ≡ Some left
    left_is b left b_is left_in is =
        let found = rest_from left left_in in
        let one : found.0 ≡ b =
        same_call calls found.0 b rise found.1 b_is (sym (same_place found.0 left found.3) ∙ same_place b left is) in
        subst (λ (o : Operation). left_of places puts gone o ≡ Some left) one found.2

    absent : (a : Operation) → Contains calls a → left_of places puts gone a ≡ None → (b : Operation) → Contains (rest_of places calls) b
        → b.inv ≢ a.inv
    absent a is none b b_is same =
        let found = rest_from b b_is in
        let one : found.0 ≡ a = same_call calls found.0 a rise found.1 is (sym (same_place found.0 b found.3) ∙ same) in
        none-some b (sym none ∙ subst (λ (o : Operation). left_of places puts gone o ≡ Some b) one found.2)

    -- what a call that says that it put something is left as
    put_stays : (c : Operation) → Contains calls c → has_number places c.inv ≡ true → says_put c ≡ true
        → (b : Operation) × Contains (rest_of places calls) b × IsCallOf c b
    put_stays c is stays says = by_option (left_of places puts gone c) refl
      where
        by_option : (o : Option Operation) → left_of places puts gone c ≡ o
            → (b : Operation) × Contains (rest_of places calls) b × IsCallOf c b
        by_option (Some b) e = (b, Contains-filter_map (left_of places puts gone) calls c b is e, left_some places puts gone c b e)
        by_option None e = absurd (⊎_elim
            (λ goes. false≢true (sym goes ∙ stays))
            (λ still. false≢true (sym still ∙ put_changes c.call c.response
            (and_parts (is_some (put_of c.call c.response)) (is_sure c.call c.response) says).0))
            (left_none places puts gone c e))

    -- If what is left of a call reports what a call that is left out put, it precedes that one, or
    -- the put is overwritten before.
    untold : (a : Operation) → Contains calls a → has_number places a.inv ≡ false → (b left : Operation) → Contains calls b
        → Contains (rest_of places calls) left → IsCallOf b left → tells_put left a ≡ true
        → (precedes b a ≡ true) ⊎ IsOverwritten calls (rest_of places calls) a b
    untold a a_is goes b left b_is left_in is told =
        by_time (precedes b a) refl (is_overwritten puts a b) refl
      where
        a_gone : Contains gone a
        a_gone = Contains-filter (λ (o : Operation). not (has_number places o.inv)) calls a a_is
            (not_from_false (has_number places a.inv) goes)

        -- a call that reports the put of another may report it
        may : precedes b a ≡ false → is_overwritten puts a b ≡ false → (o : Operation) → tells_put o a ≡ true → may_depend_on puts a b o ≡ true
        may before over o depends_on_value = and_from (not (precedes b a)) (tells_put o a && not (is_overwritten puts a b))
            (not_from_false (precedes b a) before)
            (and_from (tells_put o a) (not (is_overwritten puts a b)) depends_on_value (not_from_false (is_overwritten puts a b) over))

        -- otherwise the call would be held, and so not left
        never : precedes b a ≡ false → is_overwritten puts a b ≡ false → ⊥
        never before over = ⊎_elim
            (λ touched.
            let waits = any_of (λ (o : Operation). may_depend_on puts o b (opened b)) gone a a_gone
            (may before over (opened b) (subst (λ (o : Operation). tells_put o a ≡ true) touched.1 told)) in
            let held = none_of (λ (o : Operation). has_number places o.inv && is_held puts gone o) calls b free b_is in
            false≢true (sym held ∙ and_from (has_number places b.inv) (is_held puts gone b)
            (left_stays places puts gone b left (left_is b left b_is left_in is))
            (and_from (is_touched puts gone b) (list_any (λ (o : Operation). may_depend_on puts o b (opened b)) gone) touched.0 waits)))
            (λ whole.
            let still = none_of (λ (o : Operation). may_depend_on puts o b b) gone a whole.0 a_gone in
            false≢true (sym still ∙ may before over b (subst (λ (o : Operation). tells_put o a ≡ true) whole.1 told)))
            (left_touched places puts gone b left (left_is b left b_is left_in is))

        overwritten : is_overwritten puts a b ≡ true → IsOverwritten calls (rest_of places calls) a b
        overwritten e =
            let found = found_any (λ (c : Operation). is_between a c b) puts e in
            let put = Contains-from_filter (λ (c : Operation). has_number places c.inv && says_put c) calls found.0 found.1 in
            let parts = and_parts (has_number places found.0.inv) (says_put found.0) put.1 in
            record {
              by = found.0;
              known = put.0;
              stays = put_stays found.0 put.0 parts.0 parts.1;
              puts = parts.1;
              between = found.2;
            }

        by_time : (t : Bool) → precedes b a ≡ t → (u : Bool) → is_overwritten puts a b ≡ u
            → (precedes b a ≡ true) ⊎ IsOverwritten calls (rest_of places calls) a b
        by_time true before u over = inl before
        by_time false before true over = inr (overwritten over)
        by_time false before false over = absurd (never before over)

    pub rest_relaxed : IsRelaxed calls (rest_of places calls)
    rest_relaxed = record {
      from = λ b is. let found = rest_from b is in (found.0, found.1, found.3);
      each = λ a is. by_option a is (left_of places puts gone a) refl;
    }
      where
        left_out : (a : Operation) → Contains calls a → left_of places puts gone a ≡ None → (b left : Operation) → Contains calls b
            → Contains (rest_of places calls) left → IsCallOf b left → tells_put left a ≡ true
            → (precedes b a ≡ true) ⊎ IsOverwritten calls (rest_of places calls) a b
        left_out a is none b left b_is left_in call_of told = ⊎_elim
            (λ goes. untold a is goes b left b_is left_in call_of told)
            (λ still. absurd (false≢true (sym (ap (tells_put_at left (low_key a.call)) (put_none a.call a.response still)) ∙ told)))
            (left_none places puts gone a none)

        by_option : (a : Operation) → Contains calls a → (o : Option Operation) → left_of places puts gone a ≡ o
            → ((b : Operation) × Contains (rest_of places calls) b × IsCallOf a b) ⊎ IsLeftOut calls (rest_of places calls) a
        by_option a is None e = inr (record { absent = absent a is e; untold = left_out a is e })
        by_option a is (Some b) e = inl (
          b,
          Contains-filter_map (left_of places puts gone) calls a b is e,
          left_some places puts gone a b e,
        )
