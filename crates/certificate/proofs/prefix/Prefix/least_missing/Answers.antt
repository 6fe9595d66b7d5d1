use Rattle.certificate.proofs.Common.{◌≡◌, false, true, Some, get_or, sym, refl, ◌∙◌, arith, rules, below_more, slice_get, false≢true, common_steps}
use Rattle.certificate.proofs.Common.{slice_get_read, IsCompletedAt, IsCompletedAt-below}
use Rattle.certificate.proofs.PrefixLemmas.{Contains-taken, not_Contains-taken, IsCompletedAt-response, response-IsCompletedAt}
use Rattle.certificate.proofs.prefix.Prefix.least_missing.Goals.{else-is_some-via-then-is_some+else-not-index, else-is_some-via-else-is_some}
use Rattle.certificate.proofs.prefix.Prefix.least_missing.Goals as goal

pub returns-then-not-index-clause-missing : goal.returns-then-not-index-clause-missing
returns-then-not-index-clause-missing c = λ start order h.
    let is : slice_get c.args.calls.now c.loop-number.number ≡ Some c.index-calls-number.result =
    slice_get_read _ _ c.loop-number.number _ refl (omega arith) c.index-calls-number.is in
    let free : get_or c.args.self.now.taken.items c.loop-number.number false ≡ false = grind (arith, common_steps) in
    record {
      sound = h.sound;
      completed = IsCompletedAt-response c.args.calls.now c.loop-number.number c.index-calls-number.result is (search rules);
      missing = not_Contains-taken start _ order _ c.loop-number.number h (omega arith) free;
      least = λ m before completed. Contains-taken start _ order _ m h (omega arith) (c.loop-number.invariant m before completed);
    }

pub loop-number-preserved : goal.loop-number-preserved
loop-number-preserved c =
    let is : slice_get c.args.calls.now c.loop-number.number ≡ Some c.index-calls-number.result =
    slice_get_read _ _ c.loop-number.number _ refl (omega arith) c.index-calls-number.is in
    below_more (λ n. IsCompletedAt c.args.calls.now n → get_or c.args.self.now.taken.items n false ≡ true) _ c.loop-number.invariant
    (elim c.else-is_some.branch [
      | else-is_some-via-then-is_some+else-not-index w ↦ λ completed. grind (arith, common_steps)
      | else-is_some-via-else-is_some w ↦ λ completed. absurd
          (false≢true
          (sym w.if-is_some.false
          ∙ (c.is_some.ensures ∙ response-IsCompletedAt c.args.calls.now c.loop-number.number c.index-calls-number.result is completed)))
    ])

pub returns-clause-none : goal.returns-clause-none
returns-clause-none c = λ start order h. record {
  legal_order = h.sound;
  complete = λ n completed.
      let known = IsCompletedAt-below c.args.calls.now n completed in
      Contains-taken start _ order _ n h known (c.loop-number.invariant n (omega arith) completed);
}
