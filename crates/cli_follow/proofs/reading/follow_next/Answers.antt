use Rattle.cli_follow.proofs.Common.{ℕ, ◌+◌, [], ◌∷◌, ◌++◌, Err, inr, ap, prepend_known, TakesLine}
use Rattle.cli_follow.proofs.ReadingLemmas.{HasRead-more, BeginsWith-read, AreLinesOf-end, took, ended, long_at, went_on, came_out}
use Rattle.cli_follow.proofs.reading.follow_next.Goals as goal

pub returns-then-found-clause-went : goal.returns-then-found-clause-went
returns-then-found-clause-went g c = λ known read count followed has.
    let line = c.line.result.now in
    let old = prepend_known c.args.buffer.now.bytes (g.S.Source.remaining c.args.source.now) in
    let new = prepend_known c.next_line.new.buffer.bytes (g.S.Source.remaining c.next_line.new.source) in
    let this : TakesLine old line new = took old new line c.in-Ok.found c.next_line.new.buffer.line c.if-found.true c.line.ensures
    c.in-Ok.ensures.line in
    went_on known read line new c.take_line.result (HasRead-more c.lines_one_by_one.ensures known read old new line has this)
    (c.take_line.ensures.taken read count followed)

pub returns-then-found-clause-stopped : goal.returns-then-found-clause-stopped
returns-then-found-clause-stopped g c = λ known read count followed has.
    let line = c.line.result.now in
    let old = prepend_known c.args.buffer.now.bytes (g.S.Source.remaining c.args.source.now) in
    let new = prepend_known c.next_line.new.buffer.bytes (g.S.Source.remaining c.next_line.new.source) in
    let this : TakesLine old line new = took old new line c.in-Ok.found c.next_line.new.buffer.line c.if-found.true c.line.ensures
    c.in-Ok.ensures.line in
    let begins = BeginsWith-read known (read ++ line ∷ []) new (HasRead-more c.lines_one_by_one.ensures known read old new line has this) in
    came_out c.args.budget known (g.S.Source.failures c.args.source.now) (g.S.Source.failures c.next_line.new.source)
    (g.S.Source.remaining c.next_line.new.source) c.take_line.result c.in-Ok.ensures.counted
    (c.take_line.ensures.stopped known read count followed begins)

pub returns-in-Ok-clause-stopped : goal.returns-in-Ok-clause-stopped
returns-in-Ok-clause-stopped g c = λ known read count followed has.
    let old = prepend_known c.args.buffer.now.bytes (g.S.Source.remaining c.args.source.now) in
    let new = prepend_known c.next_line.new.buffer.bytes (g.S.Source.remaining c.next_line.new.source) in
    inr (
      c.in-Ok.ensures.counted,
      c.finish.ensures known read c.args.budget followed (AreLinesOf-end known read old new c.next_line.new.buffer.line has
          (ended old new c.in-Ok.found c.next_line.new.buffer.line c.if-found.false c.in-Ok.ensures.line)),
    )

pub returns-in-Err-TooLong-clause-stopped : goal.returns-in-Err-TooLong-clause-stopped
returns-in-Err-TooLong-clause-stopped g c = λ known read count followed has.
    let old = prepend_known c.args.buffer.now.bytes (g.S.Source.remaining c.args.source.now) in
    inr (
      c.in-Err-TooLong.ensures.unread (ap Err c.in-Err-TooLong.field-0-is),
      long_at c.args.budget known read c.args.followed (c.args.before + 1) old c.refused_line.result followed
          (ap (λ (n : ℕ). n + 1) count) has
          (c.in-Err-TooLong.ensures.too_long (ap Err c.in-Err-TooLong.field-0-is)) c.refused_line.ensures,
    )
