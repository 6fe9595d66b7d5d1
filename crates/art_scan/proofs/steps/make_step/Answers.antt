use Rattle.art_scan.proofs.Common.{ap, sym, ◌∙◌, setting_of, at, step_after, child_after, resume_at, with_frame, frame_of, walk_of}
use Rattle.art_scan.proofs.WayLemmas.{behind_child, behind_leaf}
use Rattle.art_scan.proofs.steps.make_step.Goals as goal

pub returns-in-Lock-clause-step : goal.returns-in-Lock-clause-step
returns-in-Lock-clause-step c =
    c.lock_read.ensures.step (walk_of c.args.lists.now)
    ∙ ap (λ s. step_after (setting_of c.args.setting.now) c.args.low c.args.high s (walk_of c.args.lists.now) c.args.got)
    (sym c.in-Lock.is)

pub returns-in-Exchange-clause-step : goal.returns-in-Exchange-clause-step
returns-in-Exchange-clause-step c =
    c.take_exchange.ensures.step
    ∙ ap (λ s. step_after (setting_of c.args.setting.now) c.args.low c.args.high s (walk_of c.args.lists.now) c.args.got)
    (sym c.in-Exchange.is)

pub returns-in-Wait-clause-step : goal.returns-in-Wait-clause-step
returns-in-Wait-clause-step c =
    c.take_wait.ensures.step
    ∙ ap (λ s. step_after (setting_of c.args.setting.now) c.args.low c.args.high s (walk_of c.args.lists.now) c.args.got)
    (sym c.in-Wait.is)

pub returns-in-Info-clause-step : goal.returns-in-Info-clause-step
returns-in-Info-clause-step c =
    c.info_read.ensures.step
    ∙ ap (λ s. step_after (setting_of c.args.setting.now) c.args.low c.args.high s (walk_of c.args.lists.now) c.args.got)
    (sym c.in-Info.is)

pub returns-in-Keys-clause-step : goal.returns-in-Keys-clause-step
returns-in-Keys-clause-step c =
    c.keys_read.ensures.step
    ∙ ap (λ s. step_after (setting_of c.args.setting.now) c.args.low c.args.high s (walk_of c.args.lists.now) c.args.got)
    (sym c.in-Keys.is)

pub returns-in-FirstKeys-clause-step : goal.returns-in-FirstKeys-clause-step
returns-in-FirstKeys-clause-step c =
    c.first_read.ensures.step (walk_of c.args.lists.now)
    ∙ ap (λ s. step_after (setting_of c.args.setting.now) c.args.low c.args.high s (walk_of c.args.lists.now) c.args.got)
    (sym c.in-FirstKeys.is)

pub returns-in-SecondKeys-clause-step : goal.returns-in-SecondKeys-clause-step
returns-in-SecondKeys-clause-step c =
    c.words_read.ensures.step
    ∙ ap (λ s. step_after (setting_of c.args.setting.now) c.args.low c.args.high s (walk_of c.args.lists.now) c.args.got)
    (sym c.in-SecondKeys.is)

pub returns-in-Index-clause-step : goal.returns-in-Index-clause-step
returns-in-Index-clause-step c =
    c.words_read-in-Index.ensures.step
    ∙ (ap (λ keys. resume_at (setting_of c.args.setting.now) c.args.low c.args.high
    (with_frame (walk_of c.args.lists.now) (frame_of c.in-Index.row keys c.in-Index.index c.in-Index.words))) c.keys_one.ensures
    ∙ ap (λ s. step_after (setting_of c.args.setting.now) c.args.low c.args.high s (walk_of c.args.lists.now) c.args.got)
    (sym c.in-Index.is))

pub returns-in-Release-clause-step : goal.returns-in-Release-clause-step
returns-in-Release-clause-step c =
    c.leave_row.ensures.step
    ∙ ap (λ s. step_after (setting_of c.args.setting.now) c.args.low c.args.high s (walk_of c.args.lists.now) c.args.got)
    (sym c.in-Release.is)

pub returns-then-not-move_on-clause-step : goal.returns-then-not-move_on-clause-step
returns-then-not-move_on-clause-step c =
    behind_child (setting_of c.args.setting.now) c.args.low c.args.high c.in-Child.frame c.in-Child.slot c.args.got c.child.result
    (walk_of c.args.lists.now) c.args.step.now (at c.leave.new.step (walk_of c.leave.new.lists)) c.in-Child.is (sym c.child.ensures.child)
    (ap (child_after (setting_of c.args.setting.now) c.args.low c.args.high (with_frame (walk_of c.args.lists.now) c.in-Child.frame))
    c.in-Leaf.is
    ∙ behind_leaf (setting_of c.args.setting.now) c.args.low c.args.high c.in-Child.frame c.in-Leaf.key c.in-Leaf.value
    (walk_of c.args.lists.now) (walk_of c.count.new.self) (at c.leave.new.step (walk_of c.leave.new.lists)) c.count.ensures
    (c.move_on.ensures.none c.if-not-move_on.true (walk_of c.count.new.self)
    (resume_at (setting_of c.args.setting.now) c.args.low c.args.high (walk_of c.count.new.self)) ∙ sym c.leave.ensures.step))
