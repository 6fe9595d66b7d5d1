use Rattle.certificate.proofs.Common.{take, IsPrefixOf}
use Rattle.certificate.proofs.checker.take_numbers.Given as goal

abbrev pub invariant-loop-place : goal.invariant-loop-place
invariant-loop-place l = IsPrefixOf l.history.start l.calls (take l.place l.order) l.prefix
