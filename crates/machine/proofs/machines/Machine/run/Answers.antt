use Rattle.machine.proofs.Common.{take, sym, subst, ◌∙◌, take_more, take_all, slice_get-get_or, turns_left, HasMadeAll}
use Rattle.machine.proofs.RunningLemmas.{all-more, all-stopped}
use Rattle.machine.proofs.ReadMomentLemmas.{scans-have-moments, gets-have-moments}
use Rattle.machine.proofs.machines.Machine.run.Goals as goal

pub returns-in-Err-clause-stopped : goal.returns-in-Err-clause-stopped
returns-in-Err-clause-stopped c = λ plan s shows.
    let h = c.loop-place.invariant.0 plan s shows in
    all-stopped plan c.args.schedule.now c.loop-place.place _ s (turns_left c.args.self.now) c.in-Err.fault
    c.loop-place.self c.make.new.self h
    (slice_get-get_or c.args.schedule.now c.loop-place.place _ c.loop-place-test.true)
    (c.in-Err.ensures.stopped plan h.state h.shows)

pub loop-place-preserved : goal.loop-place-preserved
loop-place-preserved c = (
  λ plan s shows.
      let h = c.loop-place.invariant.0 plan s shows in
      let more = all-more plan (take c.loop-place.place c.args.schedule.now) _ s (turns_left c.args.self.now)
      c.loop-place.self c.make.new.self h
      (c.in_default.ensures.made plan h.state h.shows) in
      subst (λ items. HasMadeAll plan items s (turns_left c.args.self.now) c.make.new.self)
      (sym (take_more c.args.schedule.now c.loop-place.place _ c.loop-place-test.true)) more,
  c.make.ensures.same_start ∙ c.loop-place.invariant.1,
)

pub returns-clause-made : goal.returns-clause-made
returns-clause-made c = λ plan s shows.
    subst (λ items. HasMadeAll plan items s (turns_left c.args.self.now) c.loop-place.self)
    (take_all c.loop-place.place c.args.schedule.now c.loop-place-test.false) (c.loop-place.invariant.0 plan s shows)

pub returns-in-Err-clause-same_start : goal.returns-in-Err-clause-same_start
returns-in-Err-clause-same_start c = c.make.ensures.same_start ∙ c.loop-place.invariant.1

pub returns-clause-same_start : goal.returns-clause-same_start
returns-clause-same_start c = c.loop-place.invariant.1

pub returns-in-Err-clause-moments : goal.returns-in-Err-clause-moments
returns-in-Err-clause-moments c = scans-have-moments c.answered_scans_have_moments.ensures c.make.new.self

pub returns-clause-moments : goal.returns-clause-moments
returns-clause-moments c = scans-have-moments c.answered_scans_have_moments.ensures c.loop-place.self

pub returns-in-Err-clause-gets : goal.returns-in-Err-clause-gets
returns-in-Err-clause-gets c = gets-have-moments c.answered_gets_have_moments.ensures c.make.new.self

pub returns-clause-gets : goal.returns-clause-gets
returns-clause-gets c = gets-have-moments c.answered_gets_have_moments.ensures c.loop-place.self
