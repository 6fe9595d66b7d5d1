use Rattle.follow_violations.proofs.Common.{◌≡◌, ◌++◌, ◌==◌, drop, filter, not, list_any}
use Rattle.follow_violations.proofs.own_parts.puts_but.Given as goal

-- those so far, with those to come
abbrev pub invariant-loop-put : goal.invariant-loop-put
invariant-loop-put l =
    l.others.items ++ filter (λ p. not (list_any (λ o. o.inv == p.event) l.calls)) (drop l.put-index l.puts)
    ≡ filter (λ p. not (list_any (λ o. o.inv == p.event) l.calls)) l.puts
