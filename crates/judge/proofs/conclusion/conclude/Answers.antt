-- The lowest segment whose answer is sought is the one named; where there is none, all segments have their orders.
use Rattle.judge.proofs.Common.{ℕ, List, ◌∷◌, ◌++◌, sym, subst, ◌∙◌, ◌≢◌, All, slice_get, AllZip, same_Some, slice_get_within, Operation, operations}
use Rattle.judge.proofs.Common.{Contents, IsLinearizable, SegmentView, HasNoOrder, AreSegments, Found, NoOrder, Spent, IsExactAnswer, IsFirstAt}
use Rattle.judge.proofs.Common.{orders_in, IsOrderedOrSpent, IsExactNo, IsExactUndecided}
use Rattle.std.specs.Prelude.{◌≡◌, Some}
use Rattle.judge.proofs.AnswerLemmas.{refuted_at, spent_at, unrefuted, all_ordered}
use Rattle.judge.proofs.VerdictLemmas.{found_orders, shows_yes, shows_no, shows_undecided, All-here, All-above}
use Rattle.judge.proofs.conclusion.conclude.Goals as goal

module _ (start : Contents) (budget : ℕ) (calls : List Operation) (segments : List SegmentView) (answers : List Found)
    (are_segments : AreSegments start calls segments) (h : AllZip (IsExactAnswer budget) segments answers) where
  exact_no : (place : ℕ) (segment : SegmentView) → IsFirstAt NoOrder answers place → slice_get segments place ≡ Some segment
      → IsExactNo start budget calls segment
  exact_no place segment found there =
      let named = refuted_at budget segments answers place h found in
      let same : named.segment ≡ segment = same_Some named.segment segment (sym named.here ∙ there) in
      record {
        below = named.below;
        above = named.above;
        are_segments = subst (λ s. AreSegments start calls (named.below ++ s ∷ named.above)) same
            (subst (AreSegments start calls) named.parts are_segments);
        refuted = subst (λ s. IsExactAnswer budget s NoOrder) same named.answered;
        lowest = named.lowest;
      }

  refutes_all : (place : ℕ) (segment : SegmentView) → All (λ s. HasNoOrder s → IsLinearizable start calls → ⊥) segments
      → IsFirstAt NoOrder answers place → slice_get segments place ≡ Some segment → IsLinearizable start calls → ⊥
  refutes_all place segment refutes found there =
      let named = refuted_at budget segments answers place h found in
      let same : named.segment ≡ segment = same_Some named.segment segment (sym named.here ∙ there) in
      subst (λ s. HasNoOrder s → IsLinearizable start calls → ⊥) same
      (All-here (λ s. HasNoOrder s → IsLinearizable start calls → ⊥) named.below named.segment named.above
      (subst (All (λ s. HasNoOrder s → IsLinearizable start calls → ⊥)) named.parts refutes))
      (exact_no place segment found there).refuted.0

  exact_undecided : (place : ℕ) (segment : SegmentView) → All (λ answer. answer ≢ NoOrder) answers → IsFirstAt Spent answers place
      → slice_get segments place ≡ Some segment → IsExactUndecided start budget calls segment
  exact_undecided place segment none found there =
      let named = spent_at budget segments answers place h none found in
      let same : named.segment ≡ segment = same_Some named.segment segment (sym named.here ∙ there) in
      record {
        below = named.below;
        above = named.above;
        are_segments = subst (λ s. AreSegments start calls (named.below ++ s ∷ named.above)) same
            (subst (AreSegments start calls) named.parts are_segments);
        spent = subst (λ s. IsExactAnswer budget s Spent) same named.answered.0;
        lowest = named.lowest;
        unrefuted = All-above (IsOrderedOrSpent budget) named.below named.segment named.above
            (subst (All (IsOrderedOrSpent budget)) named.parts (unrefuted budget segments answers h none));
      }

pub segment_at-requires : goal.segment_at-requires
segment_at-requires c =
    let found = rw c.deref.ensures.value at c.in-Some.ensures.found in
    let named = refuted_at c.args.budget c.args.segments.items c.args.answers.items c.in-Some.place c.requires.exact found in
    slice_get_within c.args.segments.items c.in-Some.place named.segment named.here

pub returns-in-Some-clause-exact : goal.returns-in-Some-clause-exact
returns-in-Some-clause-exact c =
    exact_no c.args.history.now.start c.args.budget (operations c.args.history.now.events) c.args.segments.items c.args.answers.items
    c.requires.segments c.requires.exact c.in-Some.place c.segment_at.result (rw c.deref.ensures.value at c.in-Some.ensures.found)
    c.segment_at.ensures

pub returns-in-Some-clause-shown : goal.returns-in-Some-clause-shown
returns-in-Some-clause-shown c =
    shows_no c.args.budget c.args.history.now.start (operations c.args.history.now.events) c.segment_at.result
    (returns-in-Some-clause-exact c)
    (refutes_all c.args.history.now.start c.args.budget (operations c.args.history.now.events) c.args.segments.items c.args.answers.items
    c.requires.segments c.requires.exact c.in-Some.place c.segment_at.result c.requires.refutes
    (rw c.deref.ensures.value at c.in-Some.ensures.found) c.segment_at.ensures)

pub segment_at-requires-in-Some-first_spent : goal.segment_at-requires-in-Some-first_spent
segment_at-requires-in-Some-first_spent c =
    let none = rw c.deref.ensures.value at c.in_default.ensures.none in
    let found = rw c.deref-2.ensures.value at c.in-Some-first_spent.ensures.found in
    let named = spent_at c.args.budget c.args.segments.items c.args.answers.items c.in-Some-first_spent.place c.requires.exact none found in
    slice_get_within c.args.segments.items c.in-Some-first_spent.place named.segment named.here

pub returns-in-Some-first_spent-clause-exact : goal.returns-in-Some-first_spent-clause-exact
returns-in-Some-first_spent-clause-exact c =
    exact_undecided c.args.history.now.start c.args.budget (operations c.args.history.now.events) c.args.segments.items
    c.args.answers.items c.requires.segments c.requires.exact c.in-Some-first_spent.place c.segment_at-in-Some-first_spent.result
    (rw c.deref.ensures.value at c.in_default.ensures.none) (rw c.deref-2.ensures.value at c.in-Some-first_spent.ensures.found)
    c.segment_at-in-Some-first_spent.ensures

pub returns-in-Some-first_spent-clause-shown : goal.returns-in-Some-first_spent-clause-shown
returns-in-Some-first_spent-clause-shown c =
    shows_undecided c.args.budget c.args.history.now.start (operations c.args.history.now.events)
    c.segment_at-in-Some-first_spent.result (returns-in-Some-first_spent-clause-exact c)

pub merge_answers-requires : goal.merge_answers-requires
merge_answers-requires c = (
  c.args.segments.items,
  c.requires.segments,
  found_orders c.args.budget c.args.segments.items (orders_in c.args.answers.items)
      (all_ordered c.args.budget c.args.segments.items c.args.answers.items c.requires.exact
      (rw c.deref.ensures.value at c.in_default.ensures.none) (rw c.deref-2.ensures.value at c.in_default-first_spent.ensures.none)),
)

pub returns-clause-exact : goal.returns-clause-exact
returns-clause-exact c = record {
  segments = c.args.segments.items;
  orders = orders_in c.args.answers.items;
  are_segments = c.requires.segments;
  ordered = all_ordered c.args.budget c.args.segments.items c.args.answers.items c.requires.exact
      (rw c.deref.ensures.value at c.in_default.ensures.none) (rw c.deref-2.ensures.value at c.in_default-first_spent.ensures.none);
  merged = c.in_ok-merge_answers.ensures.merged;
}

pub returns-clause-shown : goal.returns-clause-shown
returns-clause-shown c =
    shows_yes c.args.budget c.args.history.now.start (operations c.args.history.now.events) c.in_ok-merge_answers.field-0.items
    (returns-clause-exact c) c.in_ok-merge_answers.ensures.order
