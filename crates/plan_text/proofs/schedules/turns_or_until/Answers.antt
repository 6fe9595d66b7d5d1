-- After `turns` comes a number of turns, and after `until` the name of a point.
use Rattle.plan_text.proofs.ItemLemmas.{same_three, word_of_three, no_turns, no_point}
use Rattle.plan_text.proofs.schedules.turns_or_until.Goals as goal

pub returns-in_err-turns_of-in-turns-clause-none : goal.returns-in_err-turns_of-in-turns-clause-none
returns-in_err-turns_of-in-turns-clause-none c =
    rw c.from_residual.ensures (λ item. no_turns _ _ _ item c.in-turns.is c.in_err-turns_of-in-turns.ensures.none)

pub returns-in_err-point_of-in-until-clause-none : goal.returns-in_err-point_of-in-until-clause-none
returns-in_err-point_of-in-until-clause-none c =
    rw c.from_residual-in_err-point_of-in-until.ensures
    (λ item h _. no_point _ _ _ item c.in-until.is c.in_err-point_of-in-until.ensures.none h)

pub returns-in_ok-turns_of-in-turns-clause-spelled : goal.returns-in_ok-turns_of-in-turns-clause-spelled
returns-in_ok-turns_of-in-turns-clause-spelled c =
    same_three _ _ _ _ _ c.in-turns.is c.in_ok-turns_of-in-turns.ensures.spelled

pub returns-in_ok-point_of-in-until-clause-spelled : goal.returns-in_ok-point_of-in-until-clause-spelled
returns-in_ok-point_of-in-until-clause-spelled c =
    same_three _ _ _ _ _ c.in-until.is c.in_ok-point_of-in-until.ensures.spelled

pub returns-in_default-clause-none : goal.returns-in_default-clause-none
returns-in_default-clause-none c = λ item h _. word_of_three _ _ _ item c.in_default.not-turns c.in_default.not-until h
