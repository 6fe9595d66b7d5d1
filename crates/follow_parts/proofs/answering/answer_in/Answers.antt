use Rattle.follow_parts.proofs.Common.{map, subst, All-head, All-tail, IsKnownIn, kept_of, lefts_of, past_of, IsFirst, IsLeftFirst, IsPastBefore}
use Rattle.follow_parts.specs.declared.answering.First.{First}
use Rattle.follow_parts.proofs.ChangedLemmas.{others_shaped, others_stay_shaped, left_of_first, left_of_others, gone_with_first, gone_with_others}
use Rattle.follow_parts.proofs.answering.answer_in.Goals as goal

pub answer_pasts-requires : goal.answer_pasts-requires
answer_pasts-requires c =
    others_shaped c.args.operation.now (past_of c.args.first c.args.found.items) c.args.others.items c.requires.reported c.requires.before

pub answer_first-requires-clause-before : goal.answer_first-requires-clause-before
answer_first-requires-clause-before c = λ response is.
    (All-head (IsPastBefore response.res) (past_of c.args.first c.args.found.items) (map kept_of c.args.others.items)
    (c.requires.before response is)).before

pub first_alive-requires : goal.first_alive-requires
first_alive-requires c =
    others_stay_shaped c.args.operation.now (past_of c.args.first c.args.found.items) c.args.others.items c.in_ok-others.others.items
    c.requires.reported c.requires.before c.in_ok-others.ensures.left

pub any_alive-requires : goal.any_alive-requires
any_alive-requires c =
    others_stay_shaped c.args.operation.now (past_of c.args.first c.args.found.items) c.args.others.items c.in_ok-others.others.items
    c.requires.reported c.requires.before c.in_ok-others.ensures.left

pub returns-in_ok-first_alive-in-Known-clause-left : goal.returns-in_ok-first_alive-in-Known-clause-left
returns-in_ok-first_alive-in-Known-clause-left c =
    left_of_first c.args.operation.now (past_of c.args.first c.args.found.items) (map kept_of c.args.others.items) c.in-Known.kept
    c.in_ok-others.others.items (lefts_of c.in_ok-first_alive-in-Known.field-0)
    (subst (λ (f : First). IsLeftFirst c.args.operation.now c.args.first.calls f) c.in-Known.is c.in_ok-kept.ensures.left)
    c.in_ok-others.ensures.left c.in_ok-first_alive-in-Known.ensures.left

pub returns-in_ok-first_alive-in-Known-clause-gone : goal.returns-in_ok-first_alive-in-Known-clause-gone
returns-in_ok-first_alive-in-Known-clause-gone c = λ o response answer changes known.
    let first = past_of c.args.first c.args.found.items in
    let pasts = map kept_of c.args.others.items in
    let found = c.answer_first.new.found.items in
    gone_with_first c.args.budget o response first pasts c.in-Known.kept found c.in_ok-others.others.items
    c.in_ok-first_alive-in-Known.field-0
    (subst (λ (f : First). IsFirst c.args.budget o response first found f) c.in-Known.is
    (c.in_ok-kept.ensures.first o response answer changes (All-head (IsKnownIn o) first pasts known)))
    (c.in_ok-others.ensures.after o response answer changes (All-tail (IsKnownIn o) first pasts known))
    c.in_ok-first_alive-in-Known.ensures.gone

pub returns-in_ok-any_alive-in-Against-clause-left : goal.returns-in_ok-any_alive-in-Against-clause-left
returns-in_ok-any_alive-in-Against-clause-left c =
    left_of_others c.args.operation.now (past_of c.args.first c.args.found.items) (map kept_of c.args.others.items)
    c.in_ok-others.others.items (lefts_of c.in_ok-any_alive-in-Against.field-0) c.in_ok-others.ensures.left
    c.in_ok-any_alive-in-Against.ensures.left

pub returns-in_ok-any_alive-in-Against-clause-gone : goal.returns-in_ok-any_alive-in-Against-clause-gone
returns-in_ok-any_alive-in-Against-clause-gone c = λ o response answer changes known.
    let first = past_of c.args.first c.args.found.items in
    let pasts = map kept_of c.args.others.items in
    let found = c.answer_first.new.found.items in
    gone_with_others c.args.budget o response first pasts c.in_ok-others.others.items c.in_ok-any_alive-in-Against.field-0
    (subst (λ (f : First). IsFirst c.args.budget o response first found f) c.in-Against.is
    (c.in_ok-kept.ensures.first o response answer changes (All-head (IsKnownIn o) first pasts known)))
    (c.in_ok-others.ensures.after o response answer changes (All-tail (IsKnownIn o) first pasts known))
    c.in_ok-any_alive-in-Against.ensures.gone

pub returns-in-Unknown-clause-gone : goal.returns-in-Unknown-clause-gone
returns-in-Unknown-clause-gone c = λ o response answer changes known.
    let first = past_of c.args.first c.args.found.items in
    let pasts = map kept_of c.args.others.items in
    subst (λ (f : First). IsFirst c.args.budget o response first c.answer_first.new.found.items f) c.in-Unknown.is
    (c.in_ok-kept.ensures.first o response answer changes (All-head (IsKnownIn o) first pasts known))
