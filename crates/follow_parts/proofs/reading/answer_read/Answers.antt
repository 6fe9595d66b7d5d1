use Rattle.follow_parts.proofs.Common.{◌≡◌, ℕ, suc, ◌<◌, ◌+◌, ◌++◌, ◌∷◌, List, true, refl, sym, ◌∙◌, subst, arith, ◌≢◌, All, IfOk, AreKept, OpenRead}
use Rattle.follow_parts.proofs.Common.{HasOwnPlace, HasEndedBy, IsStateOf, IsShaped, HasEnded, PartsView, kept_parts}
use Rattle.follow_parts.proofs.BegunLemmas.{same_view}
use Rattle.follow_parts.proofs.EndedLemmas.{ended_began, ended_is_later, ended_is_own, ended_is_shaped, never_unknown, nothing_is_kept, reads_ended}
use Rattle.follow_parts.proofs.EndedLemmas.{same_result}
use Rattle.follow_parts.proofs.reading.answer_read.Goals as goal

pub returns-then-not-end-clause-answered : goal.returns-then-not-end-clause-answered
returns-then-not-end-clause-answered c start front back o response answer state =
    let s = c.args.state in
    let done = c.args.operation in
    let read : OpenRead = record { inv = done.inv; low = c.low_key-low.result; high = c.high_key-high.result } in
    never_unknown s start front back o done response read answer c.requires.reads (cc (c.low_key-low.ensures, c.high_key-high.ensures))
    (subst (λ (l : List OpenRead). All (λ (other : OpenRead). other ≢ read) l) c.apart-rest.ensures.reads c.if-not-end.ensures.1) state

pub invariant_of-state : goal.invariant_of-state
invariant_of-state c =
    let s = c.args.state in
    let reads = c.end.new.self in
    let ended : HasEnded c.args.operation.inv s.reads reads true =
    subst (λ (l : List OpenRead). HasEnded c.args.operation.inv l reads true) c.apart-rest.ensures.reads c.if-not-end.ensures in
    let now : suc s.now ≡ c.apart-rest.result.3 + 1 = omega (arith, c.apart-rest.ensures.now) in
    subst (λ (v : PartsView). IsShaped v)
    (same_view s.rest c.apart-rest.result.0 s.parts c.apart-rest.result.1 reads reads (suc s.now) (c.apart-rest.result.3 + 1)
    (sym c.apart-rest.ensures.rest) (sym c.apart-rest.ensures.parts) refl now)
    (ended_is_later s c.apart-rest.ensures.shaped c.args.operation.inv reads ended)

pub returns-then-reports_nothing-clause-answered : goal.returns-then-reports_nothing-clause-answered
returns-then-reports_nothing-clause-answered c start front back o response answer state =
    let s = c.args.state in
    let done = c.args.operation in
    let reads = c.end.new.self in
    let calls = front ++ done ∷ back in
    let ended : HasEnded done.inv s.reads reads true =
    subst (λ (l : List OpenRead). HasEnded done.inv l reads true) c.apart-rest.ensures.reads c.if-not-end.ensures in
    let now : suc s.now ≡ c.apart-rest.result.3 + 1 = omega (arith, c.apart-rest.ensures.now) in
    let next : IsStateOf start calls (record { rest = s.rest; parts = s.parts; reads = reads; now = suc s.now }) = record {
      kept = nothing_is_kept s start front back o done response answer c.requires.reads c.requires.reported c.requires.form
          (c.if-reports_nothing.ensures.nothing refl) state.kept;
      reads = reads_ended done.inv s.reads reads ended c.apart-rest.ensures.shaped.distinct front back o done response answer refl
          state.kept.are_calls.rising state.reads;
    } in
    let settled = c.in_ok-next.ensures in (
      settled.state start calls (subst (λ (v : PartsView). IsStateOf start calls v)
          (same_view s.rest c.apart-rest.result.0 s.parts c.apart-rest.result.1 reads reads (suc s.now) (c.apart-rest.result.3 + 1)
          (sym c.apart-rest.ensures.rest) (sym c.apart-rest.ensures.parts) refl now) next),
      settled.now ∙ sym now,
    )

pub invariant_of-state-2 : goal.invariant_of-state-2
invariant_of-state-2 c =
    let s = c.args.state in
    let reads = c.end.new.self in
    let ended : HasEnded c.args.operation.inv s.reads reads true =
    subst (λ (l : List OpenRead). HasEnded c.args.operation.inv l reads true) c.apart-rest.ensures.reads c.if-not-end.ensures in
    subst (λ (v : PartsView). IsShaped v)
    (same_view s.rest c.apart-rest.result.0 s.parts c.apart-rest.result.1 reads reads s.now c.apart-rest.result.3
    (sym c.apart-rest.ensures.rest) (sym c.apart-rest.ensures.parts) refl (sym c.apart-rest.ensures.now))
    (ended_is_shaped s c.apart-rest.ensures.shaped c.args.operation.inv reads ended)

pub answer_report-requires-clause-begun : goal.answer_report-requires-clause-begun
answer_report-requires-clause-begun c =
    let s = c.args.state in
    let reads = c.end.new.self in
    let ended : HasEnded c.args.operation.inv s.reads reads true =
    subst (λ (l : List OpenRead). HasEnded c.args.operation.inv l reads true) c.apart-rest.ensures.reads c.if-not-end.ensures in
    subst (λ (n : ℕ). c.args.operation.inv < n) (sym c.apart-rest.ensures.now)
    (ended_began s c.apart-rest.ensures.shaped c.args.operation.inv reads ended)

pub answer_report-requires-clause-own : goal.answer_report-requires-clause-own
answer_report-requires-clause-own c =
    let s = c.args.state in
    let reads = c.end.new.self in
    let ended : HasEnded c.args.operation.inv s.reads reads true =
    subst (λ (l : List OpenRead). HasEnded c.args.operation.inv l reads true) c.apart-rest.ensures.reads c.if-not-end.ensures in
    subst (λ (v : PartsView). HasOwnPlace v c.args.operation)
    (same_view s.rest c.apart-rest.result.0 s.parts c.apart-rest.result.1 reads reads s.now c.apart-rest.result.3
    (sym c.apart-rest.ensures.rest) (sym c.apart-rest.ensures.parts) refl (sym c.apart-rest.ensures.now))
    (ended_is_own s c.apart-rest.ensures.shaped c.args.operation.inv reads ended c.args.operation refl)

pub returns-clause-answered : goal.returns-clause-answered
returns-clause-answered c start front back o response answer state =
    let s = c.args.state in
    let done = c.args.operation in
    let reads = c.end.new.self in
    let calls = front ++ done ∷ back in
    let ended : HasEnded done.inv s.reads reads true =
    subst (λ (l : List OpenRead). HasEnded done.inv l reads true) c.apart-rest.ensures.reads c.if-not-end.ensures in
    let view : PartsView = record {
      rest = c.apart-rest.result.0;
      parts = c.apart-rest.result.1;
      reads = reads;
      now = c.apart-rest.result.3;
    } in
    same_result start c.args.budget calls view s c.answer_report.result c.apart-rest.ensures.now
    (c.answer_report.ensures.answered start front back o response answer
    (subst (λ (v : PartsView). AreKept start v.now (front ++ o ∷ back) (kept_parts v))
    (same_view s.rest c.apart-rest.result.0 s.parts c.apart-rest.result.1 reads reads s.now c.apart-rest.result.3
    (sym c.apart-rest.ensures.rest) (sym c.apart-rest.ensures.parts) refl (sym c.apart-rest.ensures.now)) state.kept)
    (reads_ended done.inv s.reads reads ended c.apart-rest.ensures.shaped.distinct front back o done response answer refl
    state.kept.are_calls.rising state.reads))

pub returns-clause-ended : goal.returns-clause-ended
returns-clause-ended c start front back o response answer state =
    let s = c.args.state in
    let reads = c.end.new.self in
    subst (λ (n : ℕ). IfOk c.answer_report.result (HasEndedBy start n (front ++ o ∷ back) o response)) c.apart-rest.ensures.now
    (c.answer_report.ensures.ended start front back o response answer
    (subst (λ (v : PartsView). AreKept start v.now (front ++ o ∷ back) (kept_parts v))
    (same_view s.rest c.apart-rest.result.0 s.parts c.apart-rest.result.1 reads reads s.now c.apart-rest.result.3
    (sym c.apart-rest.ensures.rest) (sym c.apart-rest.ensures.parts) refl (sym c.apart-rest.ensures.now)) state.kept))
