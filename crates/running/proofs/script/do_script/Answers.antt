use Rattle.running.proofs.Common.{◌≡◌, true, length, sym, ap, ◌∙◌, arith, subst, length-take, take_all, is_tree_call, events_by}
use Rattle.running.proofs.ScriptLemmas.{tree-call-range, count-invoked, own-calls}
use Rattle.running.proofs.script.do_script.Goals as goal

pub do_call-requires-clause-range : goal.do_call-requires-clause-range
do_call-requires-clause-range g c =
    let here = c.requires.calls c.loop-call.call-index c.call-item.result c.loop-call-test.true in
    tree-call-range c.call.result (subst (λ call. is_tree_call call ≡ true) (sym (c.call.ensures ∙ c.call-item.is)) here)

pub do_call-requires-clause-room : goal.do_call-requires-clause-room
do_call-requires-clause-room g c =
    let kept = c.loop-call.invariant in
    omega (
      arith,
      count-invoked (events_by c.loop-call.pass),
      ap (λ calls. length calls) kept.done,
      length-take c.loop-call.call-index c.args.script.now,
      c.loop-call-test.true,
      kept.calls,
      c.requires.room,
    )

pub returns-clause-recorded : goal.returns-clause-recorded
returns-clause-recorded g c =
    let kept = c.loop-call.invariant in
    record {
      own = kept.events;
      finished = record {
        calls = own-calls c.loop-call.pass kept.events
            ∙ (kept.done ∙ take_all c.loop-call.call-index c.args.script.now c.loop-call-test.false);
        completed = kept.idle;
      };
      answered = kept.answered;
    }
