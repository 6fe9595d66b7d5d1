-- The tree of a schedule is not the map under a lock, so it has a variant.
use Rattle.std.proofs.Common.{sym, ◌∙◌}
use Rattle.bench.proofs.OutcomeLemmas.{has-variant}
use Rattle.bench.proofs.command.schedule.Goals as goal

pub unreachable-requires : goal.unreachable-requires
unreachable-requires g c = has-variant c.args.asked.tree c.requires.limits.2 (sym c.variant_of.ensures ∙ c.in_default.is)
