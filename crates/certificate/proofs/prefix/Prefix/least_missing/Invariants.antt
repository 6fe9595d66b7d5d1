use Rattle.certificate.proofs.Common.{◌≡◌, ℕ, ◌<◌, true, false, get_or, IsCompletedAt}
use Rattle.certificate.proofs.prefix.Prefix.least_missing.Given as goal

abbrev pub invariant-loop-number : goal.invariant-loop-number
invariant-loop-number l = (n : ℕ) → n < l.number → IsCompletedAt l.calls n → get_or l.self.taken.items n false ≡ true
