use Rattle.follow_pasts.proofs.Common.{◌≡◌, ◌∙◌, ◌==◌, true, false, not, List, refl, sym, ap, inl, inr, subst, ⊎_elim, rules, ◌≢◌, slice_get, slice_set}
use Rattle.follow_pasts.proofs.Common.{filter, All, Contains, remove, All-contains, slice_get_within, some_at, Operation, is_refused, Found}
use Rattle.follow_pasts.proofs.Common.{AreLeftAfter}
use Rattle.std.specs.Prelude.{Some}
use Rattle.std.proofs.lemmas.Fn.{filter_same}
use Rattle.follow_pasts.proofs.AnswerLemmas.{left_with_answer, left_no_more, has_found, found_as_answered, found_otherwise, same_after, set_parts}
use Rattle.follow_pasts.proofs.AnswerLemmas.{remove_parts, changes_answered, not_refused, refused_or_not}
use Rattle.follow_pasts.proofs.LeftLemmas.{left_of_one, left_removed, left_same, left_set}
use Rattle.follow_pasts.proofs.pasts.answer_past.Goals.{in-Some+then-was_refused, in-Some+else-was_refused+in_ok-calls-in-Some}
use Rattle.follow_pasts.proofs.pasts.answer_past.Goals.{in-None+in-Some-found_of+else-not-agrees}
use Rattle.follow_pasts.proofs.pasts.answer_past.Goals as goal

pub returns-in_default-clause-after : goal.returns-in_default-clause-after
returns-in_default-clause-after c = λ o response answer changes known.
    let past = c.args.past in
    let operation = c.args.operation.now in
    let calls : c.deref.result.now ≡ past.calls.items = c.deref.ensures.value ∙ rw c.into_parts-map.ensures refl in
    let found : c.deref-in-None.result.now ≡ past.found.items = c.deref-in-None.ensures.value ∙ rw c.into_parts-map.ensures refl in
    let none : All (λ a. a.inv ≢ operation.inv) past.calls.items =
    subst (λ (l : List Operation). All (λ a. a.inv ≢ operation.inv) l) calls c.in-None.ensures in
    let f = has_found past.map past.calls.items past.found.items o operation response none answer known in
    absurd (All-contains (λ (g : Found). g.inv ≡ operation.inv → g.key ≢ c.low_key.result) c.deref-in-None.result.now f.0 c.in_default.ensures
    (subst (λ (l : List Found). Contains l f.0) (sym found) f.1) f.2 (f.3 ∙ sym c.low_key.ensures))

pub returns-then-not-agrees-clause-after : goal.returns-then-not-agrees-clause-after
returns-then-not-agrees-clause-after c = λ o response answer changes known.
    let past = c.args.past in
    let operation = c.args.operation.now in
    let own = c.in-Some-found_of.own in
    let found : c.deref-in-None.result.now ≡ past.found.items = c.deref-in-None.ensures.value ∙ rw c.into_parts-map.ensures refl in
    found_otherwise past.map past.calls.items past.found.items o operation response own
    (subst (λ (l : List Found). Contains l own) found c.in-Some-found_of.ensures.0) c.in-Some-found_of.ensures.1
    (c.in-Some-found_of.ensures.2 ∙ c.low_key.ensures)
    (⊎_elim (λ (yes : is_refused operation.response ≡ true). inl yes)
    (λ (no : is_refused operation.response ≡ false).
    inr (sym (c.agrees.ensures.fits no (changes_answered o operation response answer changes)) ∙ c.if-not-agrees.true))
    (refused_or_not (is_refused operation.response)))
    answer

pub returns-clause-after : goal.returns-clause-after
returns-clause-after c = λ o response answer changes known.
    let past = c.args.past in
    let operation = c.args.operation.now in
    let old = c.into_parts-map.result.1.items in
    let pairs : c.into_parts-map.result.0 ≡ past.map = rw c.into_parts-map.ensures refl in
    let same : old ≡ past.calls.items = rw c.into_parts-map.ensures refl in
    let calls : c.deref.result.now ≡ past.calls.items = c.deref.ensures.value ∙ same in
    let found : c.into_parts-map.result.2.items ≡ past.found.items = rw c.into_parts-map.ensures refl in
    elim c.match-place_of.branch [
      | in-Some+then-was_refused w ↦
          let place = w.in-Some.place in
          let here = some_at (slice_get c.deref.result.now place) (λ (a : Operation). a.inv ≡ operation.inv) w.in-Some.ensures in
          let at : slice_get past.calls.items place ≡ Some here.0 = subst (λ (l : List Operation). slice_get l place ≡ Some here.0) calls here.1 in
          same_after o response _ past.map _ _ _ past.found.items _ pairs (ap (λ v. v.items) w.calls-is ∙ w.remove-refused.ensures.items)
          (ap (λ v. v.items) w.found-is ∙ found)
          (left_no_more past.map past.calls.items _ past.found.items place here.0 o operation response c.requires at here.2
          (sym w.was_refused.ensures ∙ w.if-was_refused.true)
          (ap (λ (l : List Operation). remove l place) same ∙ remove_parts past.calls.items place) answer known)
      | in-Some+else-was_refused+in_ok-calls-in-Some w ↦
          let place = w.in-Some.place in
          let here = some_at (slice_get c.deref.result.now place) (λ (a : Operation). a.inv ≡ operation.inv) w.in-Some.ensures in
          let at : slice_get past.calls.items place ≡ Some here.0 = subst (λ (l : List Operation). slice_get l place ≡ Some here.0) calls here.1 in
          same_after o response _ past.map _ _ _ past.found.items _ pairs (ap (λ v. v.items) w.calls-is) (ap (λ v. v.items) w.found-is ∙ found)
          (left_with_answer past.map past.calls.items _ past.found.items place here.0 o operation response c.requires at here.2
          (sym w.was_refused.ensures ∙ w.if-was_refused.false)
          (ap (λ (l : List Operation). slice_set l place w.in_ok-calls-in-Some.field-0) same
          ∙ (ap (λ (x : Operation). slice_set past.calls.items place x) w.in_ok-calls-in-Some.ensures
          ∙ set_parts past.calls.items place operation (slice_get_within past.calls.items place here.0 at))) answer known)
      | in-None+in-Some-found_of+else-not-agrees w ↦
          let own = w.in-Some-found_of.own in
          let no : is_refused operation.response ≡ false =
          not_refused (is_refused operation.response) w.agrees.result w.agrees.ensures.refused w.if-not-agrees.false in
          let there : w.deref-in-None.result.now ≡ past.found.items = w.deref-in-None.ensures.value ∙ found in
          let kept : w.retain.new.self.items ≡ filter (λ (g : Found). not (g.inv == operation.inv)) c.into_parts-map.result.2.items =
          filter_same _ (λ (g : Found). not (g.inv == operation.inv)) _ (λ x b f' k. search rules) _ _ w.retain.ensures.filtered in
          same_after o response _ past.map _ past.calls.items _ _ _ pairs (ap (λ v. v.items) w.calls-is ∙ same) (ap (λ v. v.items) w.found-is)
          (found_as_answered past.map past.calls.items past.found.items w.retain.new.self.items o operation response own
          (subst (λ (l : List Found). Contains l own) there w.in-Some-found_of.ensures.0) w.in-Some-found_of.ensures.1
          (w.in-Some-found_of.ensures.2 ∙ w.low_key.ensures) no
          (sym (w.agrees.ensures.fits no (changes_answered o operation response answer changes)) ∙ w.if-not-agrees.false)
          (kept ∙ ap (filter (λ (g : Found). not (g.inv == operation.inv))) found) answer)
    ]

pub returns-clause-left : goal.returns-clause-left
returns-clause-left c =
    let past = c.args.past in
    let operation = c.args.operation.now in
    let same : c.into_parts-map.result.1.items ≡ past.calls.items = rw c.into_parts-map.ensures refl in
    let calls : c.deref.result.now ≡ past.calls.items = c.deref.ensures.value ∙ same in
    let left : AreLeftAfter operation past.calls.items c.match-place_of.calls.items = elim c.match-place_of.branch [
      | in-Some+then-was_refused w ↦
          let place = w.in-Some.place in
          let here = some_at (slice_get c.deref.result.now place) (λ (a : Operation). a.inv ≡ operation.inv) w.in-Some.ensures in
          let at : slice_get past.calls.items place ≡ Some here.0 = subst (λ (l : List Operation). slice_get l place ≡ Some here.0) calls here.1 in
          subst (AreLeftAfter operation past.calls.items)
          (sym (ap (λ v. v.items) w.calls-is ∙ (w.remove-refused.ensures.items ∙ ap (λ (l : List Operation). remove l place) same)))
          (left_removed operation past.calls.items place here.0 at c.requires)
      | in-Some+else-was_refused+in_ok-calls-in-Some w ↦
          let place = w.in-Some.place in
          let here = some_at (slice_get c.deref.result.now place) (λ (a : Operation). a.inv ≡ operation.inv) w.in-Some.ensures in
          let at : slice_get past.calls.items place ≡ Some here.0 = subst (λ (l : List Operation). slice_get l place ≡ Some here.0) calls here.1 in
          left_set operation past.calls.items c.match-place_of.calls.items place here.0 at here.2 c.requires
          (ap (λ v. v.items) w.calls-is
          ∙ (ap (λ (l : List Operation). slice_set l place w.in_ok-calls-in-Some.field-0) same
          ∙ (ap (λ (x : Operation). slice_set past.calls.items place x) w.in_ok-calls-in-Some.ensures
          ∙ set_parts past.calls.items place operation (slice_get_within past.calls.items place here.0 at))))
      | in-None+in-Some-found_of+else-not-agrees w ↦
          subst (AreLeftAfter operation past.calls.items) (sym (ap (λ v. v.items) w.calls-is ∙ same))
          (left_same operation past.calls.items c.requires)
    ] in
    left_of_one operation past.calls.items _ left
