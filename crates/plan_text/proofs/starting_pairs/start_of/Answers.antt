-- A value spells one list of pairs only.
use Rattle.plan_text.proofs.Common.{◌∙◌, subst, sym, true≢false, IsRising}
use Rattle.plan_text.proofs.PartLemmas.{calls_insertable, pairs_insertable, same_pairs}
use Rattle.plan_text.proofs.starting_pairs.start_of.Goals as goal

pub returns-then-not-keys_rise-clause-none : goal.returns-then-not-keys_rise-clause-none
returns-then-not-keys_rise-clause-none c = λ pairs h rising _.
    let here = rw c.in-Some.is at c.in_ok-pairs.ensures.spelled in
    let same = same_pairs _ c.in-Some.pairs.items pairs here h in
    let so = c.keys_rise.ensures.1 (subst IsRising (same ∙ sym c.deref.ensures.value) rising) in
    true≢false (sym so ∙ c.if-not-keys_rise.true)

pub returns-then-not-are_insertable-clause-none : goal.returns-then-not-are_insertable-clause-none
returns-then-not-are_insertable-clause-none c = λ pairs h _ calls.
    let here = rw c.in-Some.is at c.in_ok-pairs.ensures.spelled in
    let same = same_pairs _ c.in-Some.pairs.items pairs here h in
    let so = pairs_insertable c.deref-2.result.now (rw (c.deref-2.ensures.value, sym same) calls) in
    true≢false (sym so ∙ (sym c.are_insertable.ensures ∙ c.if-not-are_insertable.true))

pub returns-clause-calls : goal.returns-clause-calls
returns-clause-calls c =
    let so = sym c.are_insertable.ensures ∙ c.if-not-are_insertable.false in
    calls_insertable c.in-Some.pairs.items (rw (← c.deref-2.ensures.value) so)
