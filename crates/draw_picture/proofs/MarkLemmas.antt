-- The marks of an order: they rise with it, and each is inside of its bar.
use Rattle.draw_picture.proofs.Common.{◌≡◌, ℕ, ◌+◌, ◌<◌, ◌≤◌, false, List, [], ◌∷◌, ◌++◌, Option, Some, None, length, sym, ap, ◌∙◌, ⊎_elim, subst, arith}
use Rattle.draw_picture.proofs.Common.{◌≢◌, IfSome, IsSomeAnd, option_map, AllPairs, Contains, slice_get, slice_index, ltb-false, length-append}
use Rattle.draw_picture.proofs.Common.{length-map, slice_get-map, slice_get_within, get_or_from_slice_get, AllPairs-from_at, Contains-at, place-push}
use Rattle.draw_picture.proofs.Common.{AllPairs-map, Event, Invoke, Operation, Response, operations, point_in, point_in-invocation, point_in-is}
use Rattle.draw_picture.proofs.Common.{not_before_point, point_in-rises, Bar, Mark, AreSpansOf, IsMarkable, IsInside, IsMarkAt, AreMarksOf}
use Rattle.events.specs.declared.event.Call.{Call}
use Rattle.events.specs.Precedence.{is_before}
use Rattle.events.proofs.TimeLemmas.{NonePrecedesItself-operations}
use Rattle.draw_picture.specs.Columns.{order_points, event_column, mark_column}
use Rattle.draw_picture.proofs.EventLemmas.{IsAnswerAt}
use Rattle.draw_picture.proofs.BarLemmas.{call-in, inv-within}
use Rattle.draw_picture.proofs.ColumnLemmas.{count-below, count-above}

-- the points of an order rise
points-rise : (calls : List Operation) (order : List ℕ) → AllPairs (λ m n. m ≢ n) order → AllPairs (λ p q. p ≤ q) (order_points calls order)
points-rise calls order distinct = AllPairs-map (λ p q. p ≤ q) (point_in calls order) order (point_in-rises calls order distinct)

-- the point of the call at a place
pub point-at : (calls : List Operation) (order : List ℕ) (place n : ℕ) → slice_get order place ≡ Some n
    → slice_index (order_points calls order) place ≡ point_in calls order n
point-at calls order place n here =
    get_or_from_slice_get (order_points calls order) place (point_in calls order n) 0
    (slice_get-map (point_in calls order) order place ∙ ap (option_map (point_in calls order)) here)

-- a response that does not come before an invocation comes after it
behind : (events : List Event) (process inv : ℕ) (call : Call) (response : Option Response)
    → slice_get events inv ≡ Some (Invoke process call)
    → IfSome response (IsAnswerAt events) → is_before response inv ≡ false → IfSome response (λ r. inv < r.res)
behind events process inv call None invoked answered after = tt
behind events process inv call (Some r) invoked answered after =
    let differ : inv ≡ r.res → ⊥ = λ same. let e = sym invoked ∙ (ap (slice_get events) same ∙ answered.event) in cc in
    omega (arith, ltb-false r.res inv after, differ)

-- the point of a call is before its response
pub point-before : (events : List Event) (order : List ℕ) (n : ℕ) (a : Operation) → IsMarkable (operations events) order → Contains order n
    → slice_get (operations events) n ≡ Some a → IfSome a.response (λ r. point_in (operations events) order n < r.res)
point-before events order n a markable is here =
    let calls = operations events in
    let p = point_in-is calls order n a is here in
    let b = call-in events p.number p.call p.here in
    let after = not_before_point calls order n a (NonePrecedesItself-operations events) markable.precedence is here p in
    rw p.point (behind events b.process p.call.inv p.call.call a.response b.invoked (call-in events n a here).answered after)

-- the point of a call is at an event
pub point-within : (events : List Event) (order : List ℕ) (place n : ℕ) (a : Operation) → slice_get order place ≡ Some n
    → slice_get (operations events) n ≡ Some a → slice_index (order_points (operations events) order) place < length events
point-within events order place n a order_here here =
    let calls = operations events in
    let p = point_in-is calls order n a (Contains-at order place n order_here) here in
    rw (point-at calls order place n order_here, p.point) (inv-within events p.number p.call p.here)

-- what holds of the column of a response holds of the end of its bar
to_end : (response : Option Response) (points : List ℕ) (column : ℕ) → IfSome response (λ r. column < event_column points r.res)
    → IfSome (option_map (λ r. event_column points r.res) response) (λ to. column < to)
to_end None points column h = tt
to_end (Some r) points column h = h

ends : (response : Option Response) (points : List ℕ) (place : ℕ) → AllPairs (λ p q. p ≤ q) points → place < length points
    → IfSome response (λ r. slice_index points place < r.res) → IfSome response (λ r. mark_column points place < event_column points r.res)
ends None points place up within h = tt
ends (Some r) points place up within h = let before = count-above points place r.res up within h in omega arith

-- the mark of a call is inside of its bar
pub mark-inside : (events : List Event) (order : List ℕ) (bars : List Bar) (place n : ℕ) (a : Operation) (bar : Bar) (mark : Mark)
    → IsMarkable (operations events) order → AreSpansOf (operations events) (order_points (operations events) order) bars
    → slice_get order place ≡ Some n → slice_get (operations events) n ≡ Some a → slice_get bars n ≡ Some bar
    → mark.lane ≡ bar.lane → mark.column ≡ mark_column (order_points (operations events) order) place → IsInside mark bar
mark-inside events order bars place n a bar mark markable spans order_here here bar_here lane column =
    let calls = operations events in
    let points = order_points calls order in
    let up = points-rise calls order markable.distinct in
    let is = Contains-at order place n order_here in
    let many : length points ≡ length order = length-map order (point_in calls order) in
    let inside = slice_get_within order place n order_here in
    let within : place < length points = omega arith in
    let point = point-at calls order place n order_here in
    let span = spans.each n a bar here bar_here in
    let invoked : a.inv ≤ slice_index points place = rw point (point_in-invocation calls order n a is here) in
    let count = count-below points place a.inv up within invoked in
    let answered = subst (λ p. IfSome a.response (λ r. p < r.res)) (sym point) (point-before events order n a markable is here) in
    record {
      lane = lane;
      after = rw (column, span.from) (omega arith);
      before = rw (column, span.to) (to_end a.response points (mark_column points place) (ends a.response points place up within answered));
    }

pub mark-in-bar : (events : List Event) (order : List ℕ) (bars : List Bar) (place n : ℕ) (a : Operation) (bar : Bar) (mark : Mark)
    → IsMarkable (operations events) order → AreSpansOf (operations events) (order_points (operations events) order) bars
    → slice_get order place ≡ Some n → slice_get (operations events) n ≡ Some a → slice_get bars n ≡ Some bar
    → mark.lane ≡ bar.lane → mark.column ≡ mark_column (order_points (operations events) order) place
    → IsSomeAnd (slice_get bars n) (IsInside mark)
mark-in-bar events order bars place n a bar mark markable spans order_here here bar_here lane column =
    subst (λ (o : Option Bar). IsSomeAnd o (IsInside mark)) (sym bar_here)
    (mark-inside events order bars place n a bar mark markable spans order_here here bar_here lane column)

-- the marks of the first calls of an order
pub record AreMarksBelow (calls : List Operation) (order : List ℕ) (bars : List Bar) (size : ℕ) (marks : List Mark) : Type 0 where
  pub many : length marks ≡ size
  pub each : (place : ℕ) (mark : Mark) → slice_get marks place ≡ Some mark → IsMarkAt calls order bars place mark

-- one mark more
pub mark-more : (calls : List Operation) (order : List ℕ) (bars : List Bar) (size : ℕ) (marks : List Mark) (mark : Mark)
    → AreMarksBelow calls order bars size marks → IsMarkAt calls order bars size mark
    → AreMarksBelow calls order bars (size + 1) (marks ++ mark ∷ [])
mark-more calls order bars size marks mark so_far is =
    let many = length-append marks (mark ∷ []) in
    record {
      many = omega (arith, many, so_far.many);
      each = λ place other here. ⊎_elim (λ old. so_far.each place other old)
          (λ new. let same : size ≡ place = sym so_far.many ∙ new.0 in rw (new.1, ← same) is)
          (place-push marks mark place other here);
    }

-- marks rise with the order
pub marks-rise : (calls : List Operation) (order : List ℕ) (bars : List Bar) (marks : List Mark) → AllPairs (λ m n. m ≢ n) order
    → AreMarksBelow calls order bars (length order) marks → AreMarksOf calls order bars marks
marks-rise calls order bars marks distinct all =
    let points = order_points calls order in
    let up = points-rise calls order distinct in
    record {
      one_each = all.many;
      each = all.each;
      rising = AllPairs-from_at (λ a b. a.column < b.column) marks (λ i j a b before a_here b_here.
          let many : length points ≡ length order = length-map order (point_in calls order) in
          let inside = slice_get_within marks j b b_here in
          let within : j < length points = omega (arith, all.many) in
          let le : slice_index points i ≤ slice_index points j = up i j 0 before within in
          rw ((all.each i a a_here).column, (all.each j b b_here).column) (omega arith));
    }
