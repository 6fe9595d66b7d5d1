use Rattle.follow_orders.proofs.Common.{◌≡◌, ◌++◌, ◌+◌, ◌<◌, ◌∙◌, ℕ, None, List, length, map, take, drop, get_or, set, ap, arith, get_or_default}
use Rattle.follow_orders.proofs.Common.{map_over_more, moved, Level}
use Rattle.follow_orders.proofs.RoomLemmas.{moved_from}
use Rattle.follow_orders.proofs.moving.move_up.Goals as goal

-- a call more has moved
moved_more : (p : ℕ) (xs ys : List Level) (i n : ℕ) (none : Level) → i < length xs → i < length ys
    → ys ≡ map (moved p) (take i xs) ++ drop i xs → n ≡ (moved p (get_or ys i none)).place
    → set ys i (record { place = n; undo = (get_or ys i none).undo }) ≡ map (moved p) (take (i + 1) xs) ++ drop (i + 1) xs
moved_more p xs ys i n none lt there so_far is =
    ap (λ k. set ys i (record { place = k; undo = (get_or ys i none).undo })) is
    ∙ map_over_more (moved p) xs ys i (get_or ys i none) lt so_far (get_or_default ys i none (get_or ys i none) there)

pub loop-at-init : goal.loop-at-init
loop-at-init c = moved_from c.args.place c.args.from c.args.levels.now c.requires.before

pub loop-at-preserved : goal.loop-at-preserved
loop-at-preserved c =
    moved_more c.args.place c.args.levels.now c.loop-at.levels c.loop-at.at c.place_after.result
    (record { place = 0; undo = None }) (omega arith) (omega arith) c.loop-at.invariant c.place_after.ensures
