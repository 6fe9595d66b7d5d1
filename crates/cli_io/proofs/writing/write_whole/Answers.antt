use Rattle.std.proofs.Common.{arith, rules, length-take, length-drop, ℕ}
use Rattle.std.proofs.lemmas.List.{take_rest}
use Rattle.cli_io.proofs.ProgressLemmas.{Appends-more}
use Rattle.cli_io.proofs.writing.write_whole.Goals as goal

pub loop-done-preserved : goal.loop-done-preserved
loop-done-preserved g c = record {
  within = omega (arith, c.in_ok-done.ensures.within, length-take {A = ℕ}, length-drop {A = ℕ});
  written = Appends-more _ _ _ _ _ _ c.loop-done.invariant.written
      (rw (take_rest c.args.bytes.now c.loop-done.done) at c.in_ok-done.ensures.appended);
  counted = search rules;
}
