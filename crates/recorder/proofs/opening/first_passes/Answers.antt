use Rattle.recorder.proofs.Common.{◌≡◌, ◌+◌, ◌*◌, ◌≤◌, ◌<◌, ◌++◌, ◌∷◌, [], map, ap, ◌∙◌, arith, rules, range_with_len, map-append, All-push}
use Rattle.recorder.proofs.Common.{mul-le-mul_right, counter, counter_of, process_number, calls_of, log_of, source_of}
use Rattle.recorder.proofs.OpenLemmas.{range-push}
use Rattle.recorder.proofs.opening.first_passes.Goals as goal

pub loop-process-preserved : goal.loop-process-preserved
loop-process-preserved c =
    let kept = c.loop-process.invariant in
    let items = c.in_ok-push.ensures.items in
    let made = c.first_pass.ensures in
    record {
      rest_own = search rules;
      rest_left =
          let next : c.loop-process.process + 1 ≤ c.args.processes = omega arith in
          let few = mul-le-mul_right (2 * c.args.calls_each) next in
          omega (arith, few, c.split-hand.ensures.kept.left_is, kept.rest_left);
      numbers =
          ap (map process_number) items
          ∙ (map-append process_number c.loop-process.passes.items (c.first_pass.result ∷ [])
          ∙ (ap (λ l. l ++ process_number c.first_pass.result ∷ []) kept.numbers
          ∙ (ap (λ n. range_with_len 0 c.loop-process.process ++ n ∷ []) made.process ∙ range-push c.loop-process.process)));
      own =
          let its : source_of c.first_pass.result ≡ counter c.args.tickets.now =
          ap counter_of made.hand ∙ (c.split-hand.ensures.own.1 ∙ kept.rest_own) in
          rw items (All-push (λ p. source_of p ≡ counter c.args.tickets.now) _ _ kept.own its);
      calls = rw items (All-push (λ p. calls_of p ≡ c.args.calls_each) _ _ kept.calls made.calls);
      below = rw items (All-push (λ p. process_number p < c.args.processes) _ _ kept.below (rw made.process (omega arith)));
      nothing = rw items (All-push (λ p. log_of p ≡ []) _ _ kept.nothing made.log);
    }
