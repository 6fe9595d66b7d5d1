use Rattle.cli_follow.proofs.Common.{◌≡◌, ℕ, ◌+◌, [], ◌∷◌, ◌++◌, length, inr, ap, ◌∙◌, subst, arith, prepend_known, length-append}
use Rattle.cli_follow.proofs.Common.{IsFollowOutcome, most_lines}
use Rattle.cli_follow.proofs.ReadingLemmas.{many_at}
use Rattle.cli_follow.proofs.reading.follow_lines.Goals as goal

pub returns : goal.returns
returns g c =
    let at = c.loop-before.invariant in
    let read = at.1.0 in
    let count : length read ≡ most_lines = omega arith in
    let number : length read + 1 ≡ 18446744073709551615 = omega arith in
    inr (
      at.0,
      many_at c.args.budget (g.S.Source.remaining c.args.source.now) read c.loop-before.followed 18446744073709551615
          (prepend_known c.loop-before.buffer.bytes (g.S.Source.remaining c.loop-before.source)) c.refused_many.result at.1.2 count number
          at.1.3 c.refused_many.ensures,
    )

pub loop-before-preserved : goal.loop-before-preserved
loop-before-preserved g c =
    let at = c.loop-before.invariant in
    let read = at.1.0 in
    let went = c.in-Ok.ensures.went (g.S.Source.remaining c.args.source.now) read at.1.1 at.1.2 at.1.3 in (
      c.in-Ok.ensures.sound ∙ at.0,
      (read ++ went.0 ∷ [], length-append read (went.0 ∷ []) ∙ ap (λ (n : ℕ). n + 1) at.1.1, went.1, went.2),
    )

pub returns-in-Err : goal.returns-in-Err
returns-in-Err g c =
    let at = c.loop-before.invariant in
    let known = g.S.Source.remaining c.args.source.now in
    subst (λ (n : ℕ). IsFollowOutcome c.args.budget (record {
      old = record { bytes = known; failures = n };
      new = record
          { bytes = g.S.Source.remaining c.follow_next.new.source; failures = g.S.Source.failures c.follow_next.new.source };
    }) c.in-Err.outcome) at.0 (c.in-Err.ensures.stopped known at.1.0 at.1.1 at.1.2 at.1.3)
