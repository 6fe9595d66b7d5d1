-- The values of the members are the parts of the replay.
use Rattle.plan_text.proofs.Common.{sym, ◌∙◌, Some, None, view}
use Rattle.plan_text.proofs.PartLemmas.{same_pairs}
use Rattle.plan_text.proofs.ReplayTextLemmas.{parts_of, spelled_as, none_as, no_document}
use Rattle.plan_text.proofs.read_replays.replay_of.Goals as goal

pub returns-in-Some-clause-some : goal.returns-in-Some-clause-some
returns-in-Some-clause-some c = spelled_as _
    (parts_of (view c.in-Some.limit.now) (view c.in-Some.rows.now) (view c.in-Some.schedule.now) (view c.in-Some.scripts.now) None
    (view c.in-Some.variant.now))
    c.new-start.result.items c.replay_with.result c.in-Some.ensures.some c.new-start.ensures.items c.replay_with.ensures.some

pub returns-in-Some-clause-none : goal.returns-in-Some-clause-none
returns-in-Some-clause-none c =
    none_as _
    (parts_of (view c.in-Some.limit.now) (view c.in-Some.rows.now) (view c.in-Some.schedule.now) (view c.in-Some.scripts.now) None
    (view c.in-Some.variant.now))
    c.new-start.result.items c.replay_with.result c.in-Some.ensures.some (λ x start. start ∙ sym c.new-start.ensures.items)
    c.replay_with.ensures.none

pub returns-in_default-members_with_start-clause-none : goal.returns-in_default-members_with_start-clause-none
returns-in_default-members_with_start-clause-none c = no_document _ c.in_default.ensures.none c.in_default-members_with_start.ensures.none

pub returns-clause-some : goal.returns-clause-some
returns-clause-some c =
    let pairs = rw c.in-Some-2.is at c.in_ok-start.ensures.spelled in
    spelled_as _
    (parts_of (view c.in-Some-members_with_start.limit.now) (view c.in-Some-members_with_start.rows.now)
    (view c.in-Some-members_with_start.schedule.now) (view c.in-Some-members_with_start.scripts.now)
    (Some (view c.in-Some-members_with_start.start.now)) (view c.in-Some-members_with_start.variant.now))
    c.in-Some-2.start.items c.replay_with-2.result c.in-Some-members_with_start.ensures.some pairs c.replay_with-2.ensures.some

pub returns-clause-none : goal.returns-clause-none
returns-clause-none c =
    let pairs = rw c.in-Some-2.is at c.in_ok-start.ensures.spelled in
    none_as _
    (parts_of (view c.in-Some-members_with_start.limit.now) (view c.in-Some-members_with_start.rows.now)
    (view c.in-Some-members_with_start.schedule.now) (view c.in-Some-members_with_start.scripts.now)
    (Some (view c.in-Some-members_with_start.start.now)) (view c.in-Some-members_with_start.variant.now))
    c.in-Some-2.start.items c.replay_with-2.result c.in-Some-members_with_start.ensures.some
    (λ x start. same_pairs _ c.in-Some-2.start.items x.start pairs start)
    c.replay_with-2.ensures.none
