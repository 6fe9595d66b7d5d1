use Rattle.std.proofs.Common.{◌∙◌, ◌-◌, ◌+◌, arith, sym}
use Rattle.workload.proofs.DrawnLemmas.{calls_drawn-more, calls_drawn-none}
use Rattle.workload.proofs.drawn.script.Goals as goal

pub loop-preserved : goal.loop-preserved
loop-preserved c =
    let n = c.args.calls - (c.loop.counter + 1) in
    rw (c.in_ok-push.ensures.items, c.tree_call.ensures) (calls_drawn-more c.args.mix.now c.loop.script.items c.draw_call.result
    c.loop.generator c.draw_call.new.generator n (c.args.calls - c.loop.counter) c.draw_call.ensures.drawn (omega arith) ∙ c.loop.invariant)

pub returns : goal.returns
returns c =
    sym (calls_drawn-none c.args.mix.now c.loop.script.items c.loop.generator (c.args.calls - c.loop.counter) (omega arith))
    ∙ c.loop.invariant
