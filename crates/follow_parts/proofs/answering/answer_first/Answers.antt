use Rattle.follow_parts.proofs.Common.{◌≡◌, ◌<◌, ◌∙◌, ◌==◌, true, false, not, List, length, map, refl, sym, ap, inl, inr, subst, ⊎_elim, rules, arith, ◌≢◌}
use Rattle.follow_parts.proofs.Common.{is_some, slice_get, filter, All, Contains, remove, All-contains, slice_get_within, slice_get_read, same_Some, some_at}
use Rattle.follow_parts.proofs.Common.{Operation, is_refused, found_at, Found, left_with_answer, left_no_more, is_the_call, has_found, found_as_answered}
use Rattle.follow_parts.proofs.Common.{found_otherwise, remove_parts, changes_answered, not_refused, refused_or_not, left_same, left_removed, left_kept}
use Rattle.follow_parts.proofs.Common.{left_answered}
use Rattle.std.specs.Prelude.{Some}
use Rattle.std.proofs.lemmas.Fn.{filter_same}
use Rattle.follow_parts.proofs.FirstLemmas.{answered_parts, the_call_waits, may_be_answered}
use Rattle.follow_orders.specs.Views as views
use Rattle.follow_parts.proofs.answering.answer_first.Goals as goal

pub returns-in_default-found_of-clause-first : goal.returns-in_default-found_of-clause-first
returns-in_default-found_of-clause-first c = λ o response answer changes known.
    let first = c.args.first in
    let old = c.args.found.now.items in
    let operation = c.args.operation.now in
    let none : All (λ a. a.inv ≢ operation.inv) first.calls =
    subst (λ (l : List Operation). All (λ a. a.inv ≢ operation.inv) l) c.calls.ensures.calls c.in_default.ensures in
    let f = has_found first.start first.calls old o operation response none answer known in
    absurd (All-contains (λ (g : Found). g.inv ≡ operation.inv → g.key ≢ c.low_key.result) c.deref.result.now f.0 c.in_default-found_of.ensures
    (subst (λ (l : List Found). Contains l f.0) (sym c.deref.ensures.value) f.1) f.2 (f.3 ∙ sym c.low_key.ensures))

pub returns-then-not-agrees-clause-first : goal.returns-then-not-agrees-clause-first
returns-then-not-agrees-clause-first c = λ o response answer changes known.
    let first = c.args.first in
    let old = c.args.found.now.items in
    let operation = c.args.operation.now in
    let own = c.in-Some-found_of.own in
    found_otherwise first.start first.calls old o operation response own
    (subst (λ (l : List Found). Contains l own) c.deref.ensures.value c.in-Some-found_of.ensures.0) c.in-Some-found_of.ensures.1
    (c.in-Some-found_of.ensures.2 ∙ c.low_key.ensures)
    (⊎_elim (λ (yes : is_refused operation.response ≡ true). inl yes)
    (λ (no : is_refused operation.response ≡ false).
    inr (sym (c.agrees.ensures.fits no (changes_answered o operation response answer changes)) ∙ c.if-not-agrees.true))
    (refused_or_not (is_refused operation.response)))
    answer

pub returns-in_default-clause-first : goal.returns-in_default-clause-first
returns-in_default-clause-first c = λ o response answer changes known.
    let first = c.args.first in
    let old = c.args.found.now.items in
    let operation = c.args.operation.now in
    let own = c.in-Some-found_of.own in
    let no : is_refused operation.response ≡ false =
    not_refused (is_refused operation.response) c.agrees.result c.agrees.ensures.refused c.if-not-agrees.false in
    let left : c.retain.new.self.items ≡ filter (λ (g : Found). not (g.inv == operation.inv)) old =
    filter_same _ (λ (g : Found). not (g.inv == operation.inv)) _ (λ x b f' k. search rules) _ _ c.retain.ensures.filtered in (
      record { pairs = first.start; left = first.calls; found = map found_at c.retain.new.self.items },
      found_as_answered first.start first.calls old c.retain.new.self.items o operation response own
          (subst (λ (l : List Found). Contains l own) c.deref.ensures.value c.in-Some-found_of.ensures.0) c.in-Some-found_of.ensures.1
          (c.in-Some-found_of.ensures.2 ∙ c.low_key.ensures) no
          (sym (c.agrees.ensures.fits no (changes_answered o operation response answer changes)) ∙ c.if-not-agrees.false) left answer,
      record { same_start = refl; same_calls = refl; is_order = c.calls.ensures.kept.order },
      refl,
    )

pub without-requires : goal.without-requires
without-requires c =
    let here = some_at (slice_get c.calls.result.now c.in-Some.place) (λ (a : Operation). a.inv ≡ c.args.operation.now.inv) c.in-Some.ensures in
    slice_get_within c.args.first.calls c.in-Some.place here.0
    (subst (λ (l : List Operation). slice_get l c.in-Some.place ≡ Some here.0) c.calls.ensures.calls here.1)

pub returns-then-was_refused-clause-first : goal.returns-then-was_refused-clause-first
returns-then-was_refused-clause-first c = λ o response answer changes known.
    let first = c.args.first in
    let calls = first.calls in
    let old = c.args.found.now.items in
    let operation = c.args.operation.now in
    let place = c.in-Some.place in
    let here = some_at (slice_get c.calls.result.now place) (λ (a : Operation). a.inv ≡ operation.inv) c.in-Some.ensures in
    let at : slice_get calls place ≡ Some here.0 = subst (λ (l : List Operation). slice_get l place ≡ Some here.0) c.calls.ensures.calls here.1 in (
      record { pairs = first.start; left = remove calls place; found = map found_at old },
      left_no_more first.start calls (remove calls place) old place here.0 o operation response c.calls.ensures.kept.rising at here.2
          (sym c.was_refused.ensures ∙ c.if-was_refused.true) (remove_parts calls place) answer known,
      c.in_ok-without.ensures,
      refl,
    )

pub offset_bounds-calls-place : goal.offset_bounds-calls-place
offset_bounds-calls-place c =
    let here = some_at (slice_get c.calls.result.now c.in-Some.place) (λ (a : Operation). a.inv ≡ c.args.operation.now.inv) c.in-Some.ensures in
    let within : c.in-Some.place < length c.calls-2.result.now = slice_get_within c.calls-2.result.now c.in-Some.place here.0
    (subst (λ (l : List Operation). slice_get l c.in-Some.place ≡ Some here.0) (c.calls.ensures.calls ∙ sym c.calls-2.ensures.calls) here.1) in
    omega arith

pub bounds-calls-place : goal.bounds-calls-place
bounds-calls-place c =
    let here = some_at (slice_get c.calls.result.now c.in-Some.place) (λ (a : Operation). a.inv ≡ c.args.operation.now.inv) c.in-Some.ensures in
    slice_get_within c.calls-2.result.now c.in-Some.place here.0
    (subst (λ (l : List Operation). slice_get l c.in-Some.place ≡ Some here.0) (c.calls.ensures.calls ∙ sym c.calls-2.ensures.calls) here.1)

pub returns-then-is_some-clause-first : goal.returns-then-is_some-clause-first
returns-then-is_some-clause-first c = λ o response answer changes known.
    let first = c.args.first in
    let calls = first.calls in
    let operation = c.args.operation.now in
    let place = c.in-Some.place in
    let here = some_at (slice_get c.calls.result.now place) (λ (a : Operation). a.inv ≡ operation.inv) c.in-Some.ensures in
    let at : slice_get calls place ≡ Some here.0 = subst (λ (l : List Operation). slice_get l place ≡ Some here.0) c.calls.ensures.calls here.1 in
    let x = c.index-calls-place.result in
    let read : slice_get c.calls-2.result.now place ≡ Some x = slice_get_read c.calls-2.result.now (length c.calls-2.result.now) place x refl
    (slice_get_within c.calls-2.result.now place here.0
    (subst (λ (l : List Operation). slice_get l place ≡ Some here.0) (sym c.calls-2.ensures.calls) at)) c.index-calls-place.is in
    let there : slice_get calls place ≡ Some x = subst (λ (l : List Operation). slice_get l place ≡ Some x) c.calls-2.ensures.calls read in
    let inv : x.inv ≡ operation.inv = ap (λ (a : Operation). a.inv) (same_Some x here.0 (sym there ∙ at)) ∙ here.2 in
    let waits : is_some x.response ≡ false =
    the_call_waits first.start calls c.args.found.now.items place x o operation response c.calls.ensures.kept.rising there inv answer known in
    cc (c.is_some.ensures, c.if-is_some.true)

pub answer-requires : goal.answer-requires
answer-requires c =
    let first = c.args.first in
    let calls = first.calls in
    let operation = c.args.operation.now in
    let place = c.in-Some.place in
    let r = c.in_ok-response.response in
    let here = some_at (slice_get c.calls.result.now place) (λ (a : Operation). a.inv ≡ operation.inv) c.in-Some.ensures in
    let at : slice_get calls place ≡ Some here.0 = subst (λ (l : List Operation). slice_get l place ≡ Some here.0) c.calls.ensures.calls here.1 in
    let x = c.index-calls-place.result in
    let read : slice_get c.calls-2.result.now place ≡ Some x = slice_get_read c.calls-2.result.now (length c.calls-2.result.now) place x refl
    (slice_get_within c.calls-2.result.now place here.0
    (subst (λ (l : List Operation). slice_get l place ≡ Some here.0) (sym c.calls-2.ensures.calls) at)) c.index-calls-place.is in
    let there : slice_get calls place ≡ Some x = subst (λ (l : List Operation). slice_get l place ≡ Some x) c.calls-2.ensures.calls read in
    may_be_answered calls place x r there
    (ap (λ (a : Operation). is_some a.response) c.index-calls-place.is ∙ (sym c.is_some.ensures ∙ c.if-is_some.false))
    (c.requires.before r (c.in-Some-response.is ∙ ap Some (sym c.in_ok-response.ensures)))

pub returns-clause-first : goal.returns-clause-first
returns-clause-first c = λ o response answer changes known.
    let first = c.args.first in
    let calls = first.calls in
    let old = c.args.found.now.items in
    let operation = c.args.operation.now in
    let place = c.in-Some.place in
    let r = c.in_ok-response.response in
    let here = some_at (slice_get c.calls.result.now place) (λ (a : Operation). a.inv ≡ operation.inv) c.in-Some.ensures in
    let at : slice_get calls place ≡ Some here.0 = subst (λ (l : List Operation). slice_get l place ≡ Some here.0) c.calls.ensures.calls here.1 in
    let the : here.0 ≡ o = is_the_call first.start calls old place here.0 o c.calls.ensures.kept.rising at
    (here.2 ∙ ap (λ (a : Operation). a.inv) answer.is) known in
    let same : r ≡ response = same_Some r response
    (ap Some c.in_ok-response.ensures ∙ (sym c.in-Some-response.is ∙ ap (λ (a : Operation). a.response) answer.is)) in (
      record { pairs = first.start; left = views.answered calls place r; found = map found_at old },
      left_with_answer first.start calls (views.answered calls place r) old place here.0 o operation response c.calls.ensures.kept.rising at here.2
          (sym c.was_refused.ensures ∙ c.if-was_refused.false) (answered_parts calls place here.0 o operation r response at the same answer) answer known,
      c.in_ok-kept.ensures,
      refl,
    )

pub returns-in_default-clause-left : goal.returns-in_default-clause-left
returns-in_default-clause-left c = left_same c.args.operation.now c.args.first.calls c.calls.ensures.kept.rising

pub returns-then-was_refused-clause-left : goal.returns-then-was_refused-clause-left
returns-then-was_refused-clause-left c =
    let calls = c.args.first.calls in
    let operation = c.args.operation.now in
    let place = c.in-Some.place in
    let here = some_at (slice_get c.calls.result.now place) (λ (a : Operation). a.inv ≡ operation.inv) c.in-Some.ensures in
    let at : slice_get calls place ≡ Some here.0 = subst (λ (l : List Operation). slice_get l place ≡ Some here.0) c.calls.ensures.calls here.1 in
    left_kept operation calls (remove calls place) c.args.first.start c.args.budget c.in_ok-without.field-0
    (left_removed operation calls place here.0 at c.calls.ensures.kept.rising) c.in_ok-without.ensures

pub returns-clause-left : goal.returns-clause-left
returns-clause-left c =
    let calls = c.args.first.calls in
    let operation = c.args.operation.now in
    let place = c.in-Some.place in
    let r = c.in_ok-response.response in
    let here = some_at (slice_get c.calls.result.now place) (λ (a : Operation). a.inv ≡ operation.inv) c.in-Some.ensures in
    let at : slice_get calls place ≡ Some here.0 = subst (λ (l : List Operation). slice_get l place ≡ Some here.0) c.calls.ensures.calls here.1 in
    left_kept operation calls (views.answered calls place r) c.args.first.start c.args.budget c.in_ok-kept.kept
    (left_answered operation calls place here.0 r at (c.in-Some-response.is ∙ ap Some (sym c.in_ok-response.ensures)) c.calls.ensures.kept.rising)
    c.in_ok-kept.ensures
