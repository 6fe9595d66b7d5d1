use Rattle.follow_cuts.proofs.Common.{◌≡◌, ◌++◌, map, length, into_iter_items, into_iter_len, kept_in}
use Rattle.follow_cuts.proofs.WalkLemmas.{IsLevelAt}
use Rattle.follow_cuts.proofs.levels.next_level.Given as goal

-- the result is right for the positions so far
abbrev pub invariant-loop-position : goal.invariant-loop-position
invariant-loop-position l = record {
  level : IsLevelAt l.pasts l.moment (map (kept_in l.pasts) (l.fn.level.items ++ l.fn.ended.items)) (into_iter_items l.position-iterator)
      l.next.items l.ended.items;
  all : length (into_iter_items l.position-iterator) ≡ into_iter_len l.position-iterator;
}
