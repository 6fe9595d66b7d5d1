use Rattle.follow_pasts.proofs.Common.{◌≡◌, [], length, All}
use Rattle.follow_pasts.proofs.open_reads.OpenReads.new.Given as goal

-- so many lists, which are empty
abbrev pub invariant-loop : goal.invariant-loop
invariant-loop l = (length l.lists.items ≡ l.counter) × All (λ list. list.items ≡ []) l.lists.items
