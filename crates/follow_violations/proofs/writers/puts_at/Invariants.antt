use Rattle.std.proofs.Common.{◌≡◌, ◌++◌, ◌==◌, drop, filter}
use Rattle.follow_violations.proofs.writers.puts_at.Given as goal

-- those so far, with those to come
abbrev pub invariant-loop-put : goal.invariant-loop-put
invariant-loop-put l =
    l.own.items ++ filter (λ p. p.key == l.key) (drop l.put-index l.puts) ≡ filter (λ p. p.key == l.key) l.puts
