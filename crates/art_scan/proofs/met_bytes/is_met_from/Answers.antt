use Rattle.art_scan.proofs.Common.{sym, ◌∙◌, le-ltb, can_lie, row_at}
use Rattle.art_scan.proofs.ByteLemmas.{met_none, met_next}
use Rattle.art_scan.proofs.met_bytes.is_met_from.Goals as goal

pub returns-then-ahead-left : goal.returns-then-ahead-left
returns-then-ahead-left c =
    c.can_lie.ensures ∙ met_next (can_lie c.args.low c.args.high (row_at c.args.row)) c.args.byte c.args.left c.bytes_ahead-ahead.result
    c.if-ahead-left.true (c.bytes_ahead-ahead.ensures.passed c.args.high)
    (c.bytes_ahead-ahead.ensures.next c.if-ahead-left.true c.args.high)

pub returns-else-ahead-left : goal.returns-else-ahead-left
returns-else-ahead-left c =
    le-ltb c.bytes_ahead-ahead.result c.args.left c.if-ahead-left.false
    ∙ sym (met_none (can_lie c.args.low c.args.high (row_at c.args.row)) c.args.byte c.args.left c.bytes_ahead-ahead.result
    c.if-ahead-left.false (c.bytes_ahead-ahead.ensures.passed c.args.high))
