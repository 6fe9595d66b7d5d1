use Rattle.explain_shrink.proofs.Common.{◌≡◌, ◌&&◌, drop, list_any, has_number, is_held}
use Rattle.explain_shrink.proofs.rests.are_held.Given as goal

-- the calls so far hold none
abbrev pub invariant-loop-call : goal.invariant-loop-call
invariant-loop-call l =
    list_any (λ b. has_number l.places b.inv && is_held l.puts l.gone b) (drop l.call-index l.calls)
    ≡ list_any (λ b. has_number l.places b.inv && is_held l.puts l.gone b) l.calls
