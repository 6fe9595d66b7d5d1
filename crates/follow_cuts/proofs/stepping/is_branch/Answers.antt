use Rattle.follow_cuts.proofs.Common.{length, refl, both_ways, slice_get_read}
use Rattle.follow_cuts.proofs.EndLemmas.{branch_at, branch_key_at}
use Rattle.follow_cuts.proofs.stepping.is_branch.Goals as goal

pub returns-then-has_branch_key : goal.returns-then-has_branch_key
returns-then-has_branch_key c =
    let calls = c.args.calls.now in
    let a = c.index-calls-place.result in (
      λ is. branch_at c.args.branching.now calls c.args.position.now c.args.place a
          (slice_get_read calls (length calls) c.args.place a refl c.requires.known c.index-calls-place.is)
          (c.has_branch_key.ensures.0 c.if-has_branch_key.true) (c.may_come.ensures.0 is),
      λ is. c.may_come.ensures.1 is.may,
    )

pub returns-else-has_branch_key : goal.returns-else-has_branch_key
returns-else-has_branch_key c =
    let calls = c.args.calls.now in
    let a = c.index-calls-place.result in (
      λ is. absurd (both_ways c.has_branch_key.result c.if-has_branch_key.false is),
      λ is. c.has_branch_key.ensures.1 (branch_key_at c.args.branching.now calls c.args.position.now c.args.place a
          (slice_get_read calls (length calls) c.args.place a refl c.requires.known c.index-calls-place.is) is),
    )
