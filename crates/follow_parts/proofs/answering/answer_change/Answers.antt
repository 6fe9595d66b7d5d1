use Rattle.follow_parts.proofs.Common.{◌≡◌, ◌∙◌, ◌+◌, ℕ, suc, true, false, List, ◌∷◌, ◌++◌, map, Option, refl, sym, subst, arith}
use Rattle.follow_parts.proofs.Common.{All, IfOk, IfSome, IsSomeAnd, All-weaker, Operation, low_key, may_change, KeptPast, AreAfterAnswer}
use Rattle.follow_parts.proofs.Common.{AreKept, IsKnownIn, IsPut, kept_of, lefts_of, covered, kept_part, past_of, Part, GoneOn, Range, OpenRead, HaveGoneOnWith}
use Rattle.follow_parts.proofs.Common.{IsLeftOfOne, AreEnded, MayBeLeft, kept_with, AreReadsOf, IsPastBefore, IsShaped, PartsView}
use Rattle.follow_parts.proofs.StateAnswerLemmas.{answered_there, changes_too, ended_there, key_of, known_there, may_be_left, none_waits_at_rest}
use Rattle.follow_parts.proofs.StateAnswerLemmas.{part_is_shaped, reads_stay_answered, response_is, told_at, view_is, without}
use Rattle.follow_parts.proofs.StateAnswerLemmas.{without_is_shaped}
use Rattle.follow_parts.proofs.answering.answer_change.Goals as goal

pub returns-in_default-clause-answered : goal.returns-in_default-clause-answered
returns-in_default-clause-answered c = λ start front back o response answer state.
    let s = c.args.state in
    let key : c.low_key.result ≡ low_key o.call = c.low_key.ensures ∙ key_of o c.args.operation response answer in
    let none : All (λ (part : Part). covered part.ranges.items (low_key o.call) ≡ false) s.parts =
    subst (λ (k : ℕ). All (λ (part : Part). covered part.ranges.items k ≡ false) s.parts) key
    (subst (λ (ps : List Part). All (λ (part : Part). covered part.ranges.items c.low_key.result ≡ false) ps) c.apart-rest.ensures.parts
    c.in_default.ensures.1) in
    none_waits_at_rest s start front back o answer.pending (changes_too o c.args.operation response answer c.requires.changes) none state.kept

pub answer_in-requires-clause-before : goal.answer_in-requires-clause-before
answer_in-requires-clause-before c = λ response is.
    let s = c.args.state in
    let part = c.in-Some.part in
    let others = c.take_with.new.self in
    let put : IsPut part others s.parts = subst (λ (ps : List Part). IsPut part others ps) c.apart-rest.ensures.parts c.in-Some.ensures.0 in
    let pasts : past_of c.apart-ranges.result.1 c.apart-ranges.result.2.items ∷ map kept_of c.apart-ranges.result.3.items ≡ (kept_part part).pasts =
    rw c.apart-ranges.ensures refl in
    subst (λ (ps : List KeptPast). All (IsPastBefore response.res) ps) (sym pasts)
    (subst (λ (n : ℕ). All (IsPastBefore n) (kept_part part).pasts)
    (sym (told_at c.args.operation s.now response c.requires.reported is))
    (part_is_shaped s others part put c.apart-rest.ensures.shaped).pasts)

pub returns-in_default-2-clause-answered : goal.returns-in_default-2-clause-answered
returns-in_default-2-clause-answered c = λ start front back o response answer state.
    let s = c.args.state in
    let part = c.in-Some.part in
    let others = c.take_with.new.self in
    let put : IsPut part others s.parts = subst (λ (ps : List Part). IsPut part others ps) c.apart-rest.ensures.parts c.in-Some.ensures.0 in
    let key : c.low_key.result ≡ low_key o.call = c.low_key.ensures ∙ key_of o c.args.operation response answer in
    let has_key : covered part.ranges.items (low_key o.call) ≡ true =
    subst (λ (k : ℕ). covered part.ranges.items k ≡ true) key c.in-Some.ensures.1 in
    let given = past_of c.apart-ranges.result.1 c.apart-ranges.result.2.items ∷ map kept_of c.apart-ranges.result.3.items in
    let pasts : given ≡ (kept_part part).pasts = rw c.apart-ranges.ensures refl in
    let changes : may_change o.call ≡ true = changes_too o c.args.operation response answer c.requires.changes in
    let known : All (IsKnownIn o) (kept_part part).pasts =
    known_there s others part put start front back o response answer.pending changes has_key state.kept in
    subst (λ (g : Option GoneOn). IsSomeAnd g (HaveGoneOnWith c.args.budget o response given)) c.in_default-2.is
    (c.in_ok-gone.ensures.gone o response answer changes (subst (λ (ps : List KeptPast). All (IsKnownIn o) ps) (sym pasts) known))

pub invariant_of-state : goal.invariant_of-state
invariant_of-state c =
    let s = c.args.state in
    let part = c.in-Some.part in
    let others = c.take_with.new.self in
    let put : IsPut part others s.parts = subst (λ (ps : List Part). IsPut part others ps) c.apart-rest.ensures.parts c.in-Some.ensures.0 in
    subst (λ (v : PartsView). IsShaped v)
    (view_is s c.apart-rest.result.0 others c.apart-rest.result.2 c.apart-rest.result.3 c.apart-rest.ensures.rest c.apart-rest.ensures.reads
    c.apart-rest.ensures.now)
    (without_is_shaped s others part put c.apart-rest.ensures.shaped)

pub go_on-requires : goal.go_on-requires
go_on-requires c =
    let s = c.args.state in
    let part = c.in-Some.part in
    let others = c.take_with.new.self in
    let put : IsPut part others s.parts = subst (λ (ps : List Part). IsPut part others ps) c.apart-rest.ensures.parts c.in-Some.ensures.0 in
    let operation = c.args.operation in
    let given = past_of c.apart-ranges.result.1 c.apart-ranges.result.2.items ∷ map kept_of c.apart-ranges.result.3.items in
    let pasts : given ≡ (kept_part part).pasts = rw c.apart-ranges.ensures refl in
    let gone = c.in-Some-2.gone in
    let left : All (IsLeftOfOne operation given) (lefts_of gone) =
    subst (λ (g : Option GoneOn). IfSome g (λ (x : GoneOn). All (IsLeftOfOne operation given) (lefts_of x))) c.in-Some-2.is
    c.in_ok-gone.ensures.left in
    let reported = c.requires.reported in
    subst (λ (v : PartsView). All (MayBeLeft v) (lefts_of gone))
    (view_is s c.apart-rest.result.0 others c.apart-rest.result.2 c.apart-rest.result.3 c.apart-rest.ensures.rest c.apart-rest.ensures.reads
    c.apart-rest.ensures.now)
    (All-weaker (IsLeftOfOne operation given) (MayBeLeft (without s others))
    (λ l h. may_be_left s others part put operation reported.response reported.is reported.res c.apart-rest.ensures.shaped l
    (subst (λ (ps : List KeptPast). IsLeftOfOne operation ps l) pasts h)) (lefts_of gone) left)

pub returns-clause-answered : goal.returns-clause-answered
returns-clause-answered c = λ start front back o response answer state.
    let s = c.args.state in
    let part = c.in-Some.part in
    let others = c.take_with.new.self in
    let put : IsPut part others s.parts = subst (λ (ps : List Part). IsPut part others ps) c.apart-rest.ensures.parts c.in-Some.ensures.0 in
    let operation = c.args.operation in
    let key : c.low_key.result ≡ low_key o.call = c.low_key.ensures ∙ key_of o operation response answer in
    let has_key : covered part.ranges.items (low_key o.call) ≡ true =
    subst (λ (k : ℕ). covered part.ranges.items k ≡ true) key c.in-Some.ensures.1 in
    let given = past_of c.apart-ranges.result.1 c.apart-ranges.result.2.items ∷ map kept_of c.apart-ranges.result.3.items in
    let pasts : given ≡ (kept_part part).pasts = rw c.apart-ranges.ensures refl in
    let ranges : c.apart-ranges.result.0.items ≡ part.ranges.items = rw c.apart-ranges.ensures refl in
    let changes : may_change o.call ≡ true = changes_too o operation response answer c.requires.changes in
    let known : All (IsKnownIn o) (kept_part part).pasts =
    known_there s others part put start front back o response answer.pending changes has_key state.kept in
    let gone : HaveGoneOnWith c.args.budget o response given c.in-Some-2.gone =
    subst (λ (g : Option GoneOn). IsSomeAnd g (HaveGoneOnWith c.args.budget o response given)) c.in-Some-2.is
    (c.in_ok-gone.ensures.gone o response answer changes (subst (λ (ps : List KeptPast). All (IsKnownIn o) ps) (sym pasts) known)) in
    let with_part : HaveGoneOnWith c.args.budget o response (kept_part part).pasts c.in-Some-2.gone =
    subst (λ (ps : List KeptPast). HaveGoneOnWith c.args.budget o response ps c.in-Some-2.gone) pasts gone in
    let res : response.res ≡ s.now = told_at operation s.now response c.requires.reported (response_is o operation response answer) in
    let calls = front ++ operation ∷ back in
    let now : c.apart-rest.result.3 + 1 ≡ suc s.now = omega (arith, c.apart-rest.ensures.now) in
    let reads : AreReadsOf calls c.apart-rest.result.2 =
    subst (λ (rs : List OpenRead). AreReadsOf calls rs) (sym c.apart-rest.ensures.reads)
    (subst (λ (x : Operation). AreReadsOf (front ++ x ∷ back) s.reads) (sym answer.is)
    (reads_stay_answered front back o response s.reads changes state.reads)) in
    let there : AreKept start (suc s.now) calls (kept_with (without s others) (covered part.ranges.items) with_part.nexts) =
    subst (λ (x : Operation). AreKept start (suc s.now) (front ++ x ∷ back) (kept_with (without s others) (covered part.ranges.items) with_part.nexts))
    (sym answer.is)
    (answered_there s others part put start front back o response answer.pending changes has_key state.kept res with_part.nexts
    with_part.after) in
    let view : PartsView = record {
      rest = c.apart-rest.result.0;
      parts = others;
      reads = c.apart-rest.result.2;
      now = c.apart-rest.result.3 + 1;
    } in
    let kept : AreKept start view.now calls (kept_with view (covered c.apart-ranges.result.0.items) with_part.nexts) =
    subst (λ (rs : List Range). AreKept start view.now calls (kept_with view (covered rs) with_part.nexts)) (sym ranges)
    (subst (λ (v : PartsView). AreKept start v.now calls (kept_with v (covered part.ranges.items) with_part.nexts))
    (view_is s c.apart-rest.result.0 others c.apart-rest.result.2 c.apart-rest.result.3 c.apart-rest.ensures.rest c.apart-rest.ensures.reads
    c.apart-rest.ensures.now)
    there) in
    c.go_on.ensures.answered start c.args.budget s calls with_part.nexts now with_part.gone reads kept

pub returns-clause-ended : goal.returns-clause-ended
returns-clause-ended c = λ start front back o response answer state.
    let s = c.args.state in
    let part = c.in-Some.part in
    let others = c.take_with.new.self in
    let put : IsPut part others s.parts = subst (λ (ps : List Part). IsPut part others ps) c.apart-rest.ensures.parts c.in-Some.ensures.0 in
    let operation = c.args.operation in
    let key : c.low_key.result ≡ low_key o.call = c.low_key.ensures ∙ key_of o operation response answer in
    let has_key : covered part.ranges.items (low_key o.call) ≡ true =
    subst (λ (k : ℕ). covered part.ranges.items k ≡ true) key c.in-Some.ensures.1 in
    let given = past_of c.apart-ranges.result.1 c.apart-ranges.result.2.items ∷ map kept_of c.apart-ranges.result.3.items in
    let pasts : given ≡ (kept_part part).pasts = rw c.apart-ranges.ensures refl in
    let ranges : c.apart-ranges.result.0.items ≡ part.ranges.items = rw c.apart-ranges.ensures refl in
    let changes : may_change o.call ≡ true = changes_too o operation response answer c.requires.changes in
    let known : All (IsKnownIn o) (kept_part part).pasts =
    known_there s others part put start front back o response answer.pending changes has_key state.kept in
    let gone : HaveGoneOnWith c.args.budget o response given c.in-Some-2.gone =
    subst (λ (g : Option GoneOn). IsSomeAnd g (HaveGoneOnWith c.args.budget o response given)) c.in-Some-2.is
    (c.in_ok-gone.ensures.gone o response answer changes (subst (λ (ps : List KeptPast). All (IsKnownIn o) ps) (sym pasts) known)) in
    ended_there s others part put start front back o response answer.pending changes has_key state.kept gone.nexts
    (subst (λ (ps : List KeptPast). AreAfterAnswer o response ps gone.nexts) pasts gone.after) c.go_on.result
    (subst (λ (rs : List Range). IfOk c.go_on.result (AreEnded rs gone.nexts)) ranges
    (c.go_on.ensures.ended c.args.budget gone.nexts gone.gone))
