use Rattle.replays.proofs.Common.{[], ◌∷◌, ◌++◌, get_or, subst, ap, ◌∙◌, take_more, take_all, Name}
use Rattle.replays.proofs.items.items_of.Goals as goal

pub loop-process-preserved : goal.loop-process-preserved
loop-process-preserved c =
    let turns = c.args.turns.now in
    let at = c.loop-process.process-index in
    let before = c.loop-process.invariant in
    rw (take_more turns at 0 c.loop-process-test.true) (record {
      named = c.in_ok-push_turn.ensures.named ∙ ap (λ l. l ++ get_or turns at 0 ∷ []) before.named;
      standing = c.in_ok-push_turn.ensures.standing;
      held = c.in_ok-push_turn.ensures.held;
    })

pub returns : goal.returns
returns c =
    subst (Name c.loop-process.items.items) (take_all c.loop-process.process-index c.args.turns.now c.loop-process-test.false)
    c.loop-process.invariant
