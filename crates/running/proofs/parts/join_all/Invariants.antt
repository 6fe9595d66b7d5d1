use Rattle.running.proofs.Common.{◌≡◌, IfOk, into_iter_items, shows, IsGroupOf, gathered, joined}
use Rattle.std.proofs.Common.{All}
use Rattle.running.proofs.parts.join_all.Given as goal

abbrev pub invariant-loop-group : goal.invariant-loop-group
invariant-loop-group l = record {
  can_next : (goal.iterator-loop-group).can_next l.group-iterator;
  is_finite : (goal.iterator-loop-group).is_finite l.group-iterator;
  own : IsGroupOf l.arena l.all;
  others_own : All (λ d. IfOk d (IsGroupOf l.arena)) (into_iter_items l.group-iterator);
  rest : gathered (shows l.all).processes (into_iter_items l.group-iterator) ≡ joined l.fn.done.items;
}
