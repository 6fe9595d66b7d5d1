use Rattle.std.proofs.lemmas.Bool.{both_ways}
use Rattle.follow_cuts.proofs.position.have_same_found.Goals as goal

pub returns-then-has_all : goal.returns-then-has_all
returns-then-has_all c = (
  λ is f. (λ h. c.has_all.ensures.0 c.if-has_all.true f h, λ h. c.has_all-then-has_all.ensures.0 is f h),
  λ both. c.has_all-then-has_all.ensures.1 (λ f h. (both f).1 h),
)

pub returns-else-has_all : goal.returns-else-has_all
returns-else-has_all c = (
  λ is. absurd (both_ways c.has_all.result c.if-has_all.false is),
  λ both. absurd (both_ways c.has_all.result c.if-has_all.false (c.has_all.ensures.1 (λ f h. (both f).0 h))),
)
