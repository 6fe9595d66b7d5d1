use Rattle.running.proofs.Common.{length, ap, arith, greatest_more, take_all}
use Rattle.std.proofs.Common.{slice_index_or}
use Rattle.running.proofs.RoomLemmas.{longest-found, longest-bound}
use Rattle.running.proofs.room.most_calls.Goals.{then-len-most, else-len-most}
use Rattle.running.proofs.room.most_calls.Goals as goal

pub loop-script-preserved : goal.loop-script-preserved
loop-script-preserved c =
    let more =
    greatest_more (λ script. length script.items) c.args.scripts.now c.loop-script.script-index c.script-item.result
    c.loop-script-test.true in
    let here = ap (λ script. length script.items) c.script-item.is in
    let its = c.script-item.result.ok.0 in
    elim c.if-len-most.branch [
      | then-len-most w ↦ omega (
        arith,
        more,
        here,
        its,
        c.loop-script.invariant,
        c.len.ensures,
        w.if-len-most.true,
        w.len-most.ensures,
        w.most-is,
      )
      | else-len-most w ↦ omega (arith, more, here, its, c.loop-script.invariant, c.len.ensures, w.if-len-most.false, w.most-is)
    ]

pub returns-clause-longest : goal.returns-clause-longest
returns-clause-longest c =
    let scripts = c.args.scripts.now in
    longest-found (λ script. script.items) scripts c.loop-script.script-index c.loop-script.most
    (take_all c.loop-script.script-index scripts c.loop-script-test.false) c.loop-script.invariant

pub returns-clause-bound : goal.returns-clause-bound
returns-clause-bound c = λ k d within.
    let scripts = c.args.scripts.now in
    let most = longest-found (λ script. script.items) scripts c.loop-script.script-index c.loop-script.most
    (take_all c.loop-script.script-index scripts c.loop-script-test.false) c.loop-script.invariant in
    let its = (slice_index_or scripts k d).ok.0 in
    omega (arith, most, its, longest-bound (λ script. script.items) scripts k d within)
