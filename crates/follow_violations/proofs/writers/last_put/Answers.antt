use Rattle.follow_violations.proofs.Common.{kept_of, ◌∙◌, arith, sym}
use Rattle.follow_violations.proofs.WriterLemmas.{last_found, last_passed}
use Rattle.follow_violations.proofs.writers.last_put.Goals as goal

pub returns-then-is_put_before : goal.returns-then-is_put_before
returns-then-is_put_before c =
    sym (c.loop-at.invariant.none
    ∙ last_found (kept_of c.args.past.now) c.args.key c.args.value c.args.puts.now c.loop-at.at _ c.loop-at-test.true c.loop-at.invariant.within
    (sym c.is_put_before.ensures ∙ c.if-is_put_before.true))

pub loop-at-preserved : goal.loop-at-preserved
loop-at-preserved c = record {
  within = omega arith;
  none = c.loop-at.invariant.none
      ∙ last_passed (kept_of c.args.past.now) c.args.key c.args.value c.args.puts.now c.loop-at.at _ c.loop-at-test.true c.loop-at.invariant.within
      (sym c.is_put_before.ensures ∙ c.if-is_put_before.false);
}
