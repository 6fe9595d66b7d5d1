use Rattle.std.proofs.Common.{sym, arith, length-take-le}
use Rattle.cli_outcome.proofs.found.push_shown.Goals as goal

pub slice_bounds-front-end : goal.slice_bounds-front-end
slice_bounds-front-end c = sym (length-take-le 80 c.args.text.now (omega (arith, c.if-text-le-MAX_SHOWN.false)))
