use Rattle.explain_locate.proofs.Common.{ℕ, ◌<◌, IsAnswerOf}
use Rattle.explain_locate.proofs.bisecting.number_of.Given as goal

-- the event is the answer of none of the calls so far
abbrev pub invariant-loop-number : goal.invariant-loop-number
invariant-loop-number l = (n : ℕ) → n < l.number → IsAnswerOf l.history.events n l.event → ⊥
