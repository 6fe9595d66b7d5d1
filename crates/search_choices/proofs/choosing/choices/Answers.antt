use Rattle.search_choices.proofs.Common.{◌≡◌, ℕ, ◌<◌, List, length, subst, arith, Contains, slice_get_within, All-from_contains, IsOrder-from_none, places}
use Rattle.search_choices.proofs.Common.{Operation, Contents, IsReduced, AreChoices}
use Rattle.std.specs.Prelude.{IsPermutation}
use Rattle.std.proofs.lemmas.List.Sorted.{IsPermutation-sym, Contains-permutation, length_permutation}
use Rattle.search_choices.specs.Twins.{AreFirstTwins}
use Rattle.search_choices.proofs.TwinLemmas.{choices_twins}
use Rattle.search_choices.proofs.StandingLemmas.{choices_again, choices_reduced}
use Rattle.search_choices.proofs.choosing.choices.Goals as goal

pub returns-in_default : goal.returns-in_default
returns-in_default g c =
    let path = places c.args.standing.now.levels.items in
    IsOrder-from_none g.start c.args.calls.now path c.requires.1.1.1.1.is_front (rw c.in_default.is at c.earliest_answer.ensures)

pub next_calls-requires : goal.next_calls-requires
next_calls-requires g c = (
  c.requires.0,
  (c.requires.1.0, (c.requires.1.1.0, (c.requires.1.1.1.0, (c.requires.1.1.1.1, rw c.in-Some.is at c.earliest_answer.ensures)))),
)

pub narrowed-requires : goal.narrowed-requires
narrowed-requires g c = (
  c.requires.0,
  (
    c.requires.1.0,
    (
      c.requires.1.1.0,
      (
        c.requires.1.1.1.0,
        (
          c.requires.1.1.1.1,
          (rw c.in-Some.is at c.earliest_answer.ensures, (c.in_ok-next.ensures.choices, c.in_ok-next.ensures.few)),
        ),
      ),
    ),
  ),
)

-- the calls that are tried but for those with a twin among them
firsts_choices : (start : Contents) (calls : List Operation) (path few sorted next firsts : List ℕ) → IsPermutation few sorted → next ≡ sorted
    → AreFirstTwins calls next firsts → AreChoices start calls path few → AreChoices start calls path firsts
firsts_choices start calls path few sorted next firsts moved is twins choices =
    choices_twins calls start path sorted firsts (subst (λ xs. AreFirstTwins calls xs firsts) is twins)
    (choices_again start calls path few sorted (λ n h. Contains-permutation few sorted n moved h)
    (λ n h. Contains-permutation sorted few n (IsPermutation-sym few sorted moved) h) choices)

pub hopeful-requires : goal.hopeful-requires
hopeful-requires g c =
    let calls = c.args.calls.now in
    let path = places c.args.standing.now.levels.items in
    let choices = firsts_choices g.start calls path c.in_ok-few.few.items c.by_answer.result.items c.deref-2.result.now c.in_ok-firsts.firsts.items
    c.by_answer.ensures c.deref-2.ensures.value c.in_ok-firsts.ensures c.in_ok-few.ensures.choices in
    let known = All-from_contains (λ n. n < length calls) c.deref-3.result.now (λ n h.
    let next = choices.next n (subst (λ xs. Contains xs n) c.deref-3.ensures.value h) in
    slice_get_within calls n next.call next.here) in (
      c.requires.1.1.0,
      (c.requires.1.1.1.0, (c.requires.1.1.1.1, (c.end_of_look-end.ensures.from, (c.end_of_look-end.ensures.within, known)))),
    )

pub returns : goal.returns
returns g c =
    let calls = c.args.calls.now in
    let path = places c.args.standing.now.levels.items in
    let few = c.in_ok-few.few.items in
    let sorted = c.by_answer.result.items in
    let firsts = c.in_ok-firsts.firsts.items in
    let rest = c.in_ok-rest.rest.items in
    let tried = c.reversed.result.items in
    let moved = c.reversed.ensures in
    let choices = firsts_choices g.start calls path few sorted c.deref-2.result.now firsts c.by_answer.ensures c.deref-2.ensures.value
    c.in_ok-firsts.ensures c.in_ok-few.ensures.choices in
    let twins : AreFirstTwins calls sorted firsts =
    subst (λ xs. AreFirstTwins calls xs firsts) c.deref-2.ensures.value c.in_ok-firsts.ensures in
    let reduced : IsReduced g.start calls path firsts rest =
    subst (λ xs. IsReduced g.start calls path xs rest) c.deref-3.ensures.value c.in_ok-rest.ensures in (
      choices_again g.start calls path rest tried
          (λ n h. Contains-permutation rest tried n moved h)
          (λ n h. Contains-permutation tried rest n (IsPermutation-sym rest tried moved) h)
          (choices_reduced g.start calls path firsts rest reduced choices),
      omega (
        arith,
        length_permutation rest tried moved,
        reduced.few,
        twins.few,
        length_permutation few sorted c.by_answer.ensures,
        c.in_ok-few.ensures.few,
      ),
    )
