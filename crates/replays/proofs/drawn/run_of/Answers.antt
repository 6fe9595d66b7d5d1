use Rattle.replays.proofs.Common.{map, subst, arith, length-map, IsOpened}
use Rattle.replays.proofs.PlanLemmas.{is-plan, has-turns}
use Rattle.replays.proofs.drawn.run_of.Goals as goal

pub open-requires : goal.open-requires
open-requires c = rw (c.in_ok-copies.ensures) (is-plan c.args.shape c.args.variant _ c.requires.shape c.requires.scripts)

pub drawn_turns-requires : goal.drawn_turns-requires
drawn_turns-requires c =
    has-turns c.args.shape c.args.variant (map (λ script. script.items) c.args.scripts.now) c.args.limit c.in-Ok.machine _
    (subst (λ scripts. IsOpened c.args.shape c.args.variant scripts c.args.limit c.in-Ok.machine) c.in_ok-copies.ensures
    c.in-Ok.ensures.opened)
    (omega (arith, length-map c.args.scripts.now (λ script. script.items), c.in_ok-choice.ensures))
