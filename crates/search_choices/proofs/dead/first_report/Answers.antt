use Rattle.search_choices.proofs.Common.{◌≡◌, ◌<◌, ℕ, Some, length, refl, sym, ◌∙◌, subst, arith, slice_get, IfSome, both_ways, slice_get_read}
use Rattle.search_choices.proofs.Common.{IsReported, places}
use Rattle.search_choices.proofs.DeadLemmas.{earlier_has}
use Rattle.search_choices.proofs.dead.first_report.Goals.{then-place-other+then-not-is_taken+then-reports, else-place-other}
use Rattle.search_choices.proofs.dead.first_report.Goals as goal

pub loop-place-preserved : goal.loop-place-preserved
loop-place-preserved g c =
    let calls = c.args.calls.now in
    let path = places c.args.standing.now.levels.items in
    let i = c.loop-place.place in
    let a = c.index-calls-place.result in
    let within : i < length calls = omega (arith, c.loop-place-test.true, c.requires.1) in
    let here : slice_get calls i ≡ Some a = slice_get_read calls (length calls) i a refl within c.index-calls-place.is in
    let is_reported = λ (place : ℕ). IsReported calls path c.args.other c.args.key c.args.value place in
    elim c.if-place-other.branch [
      | then-place-other+then-not-is_taken+then-reports w ↦ subst (λ o. IfSome o is_reported)
          (sym (w.earliest-is ∙ w.earlier_answer-earliest.ensures))
          (earlier_has is_reported c.loop-place.earliest a.response c.loop-place.invariant (λ r answered. record {
            n = i;
            call = a;
            response = r;
            here = here;
            new = λ h. both_ways w.is_taken.result w.if-not-is_taken.true (w.is_taken.ensures.1 h);
            differs = w.if-place-other.true;
            answered = answered;
            at = refl;
            reports = w.reports.ensures w.if-reports.true r answered;
          }))
      | else-place-other w ↦ subst (λ o. IfSome o is_reported) (sym w.earliest-is) c.loop-place.invariant
    ]
