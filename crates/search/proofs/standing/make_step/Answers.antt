use Rattle.search.proofs.Common.{◌≡◌, ℕ, ◌<◌, ◌≤◌, List, Some, length, refl, sym, ◌∙◌, subst, arith, slice_get, slice_get_read, same_Some}
use Rattle.search.proofs.Common.{slice_get_within, Operation, IsEarliestAnswer, places}
use Rattle.search.proofs.EarliestLemmas.{IsOrder-from_none, IsOrder-not_yet, preceded_from_earliest}
use Rattle.search.proofs.WalkLemmas.{cursor-past}
use Rattle.search.proofs.standing.make_step.Goals.{else-next-calls-via-then-next-calls+else-calls-next, else-next-calls-via-else-next-calls}
use Rattle.search.proofs.standing.make_step.Goals as goal

-- a call at a place was invoked late where the one that was read there was
late : (calls : List Operation) (n answered : ℕ) (a b : Operation) → slice_get calls n ≡ Some a → slice_get calls n ≡ Some b
    → answered < b.inv
    → answered < a.inv
late calls n answered a b here there h = subst (λ (x : Operation). answered < x.inv) (same_Some b a (sym there ∙ here)) h

pub returns-in_default : goal.returns-in_default
returns-in_default g c =
    let w = c.args.standing.now in (
      refl,
      IsOrder-from_none g.start c.args.calls.now (places w.levels.items) c.requires.1.1.1.cursor.is_front
          (rw c.in_default.is at c.earliest_answer.ensures),
    )

pub try_call-requires : goal.try_call-requires
try_call-requires g c =
    let calls = c.args.calls.now in
    let w = c.args.standing.now in
    let path = places w.levels.items in
    let earliest : IsEarliestAnswer calls path (Some c.in-Some.answered) = rw c.in-Some.is at c.earliest_answer.ensures in
    let a = c.index-calls-next.result in
    let here : slice_get calls w.next ≡ Some a =
    slice_get_read calls (length calls) w.next a refl c.if-next-calls.true c.index-calls-next.is in (
      c.requires.0,
      (
        c.requires.1.0,
        (
          c.requires.1.1.1,
          record {
            known = c.if-next-calls.true;
            preceded =
                preceded_from_earliest g.start calls path c.in-Some.answered earliest w.next a here
                (subst (λ (x : Operation). x.inv ≤ c.in-Some.answered) (sym c.index-calls-next.is) c.if-calls-next.true);
            not_order = IsOrder-not_yet g.start calls path c.in-Some.answered earliest;
          },
        ),
      ),
    )

pub go_back-requires : goal.go_back-requires
go_back-requires g c =
    let calls = c.args.calls.now in
    let w = c.args.standing.now in
    let path = places w.levels.items in
    let earliest : IsEarliestAnswer calls path (Some c.in-Some.answered) = rw c.in-Some.is at c.earliest_answer.ensures in
    let not_order = IsOrder-not_yet g.start calls path c.in-Some.answered earliest in
    let stands = c.requires.1.1.1 in
    let past =
    cursor-past g.start calls c.requires.1.0 path w.next w.memo c.in-Some.answered stands.cursor stands.within c.requires.1.1.0 earliest
    (λ a here. elim c.else-next-calls.branch [
      | else-next-calls-via-then-next-calls+else-calls-next v ↦ late calls w.next c.in-Some.answered a v.index-calls-next.result here
          (slice_get_read calls (length calls) w.next v.index-calls-next.result refl v.if-next-calls.true v.index-calls-next.is)
          (subst (λ (x : Operation). c.in-Some.answered < x.inv) (sym v.index-calls-next.is) v.if-calls-next.false)
      | else-next-calls-via-else-next-calls v ↦ absurd (omega (arith, v.if-next-calls.false, slice_get_within calls w.next a here))
    ]) not_order in
    (c.requires.1.0, (stands, (past, not_order)))
