use Rattle.running.proofs.Common.{◌≡◌, ◌+◌, ◌≤◌, vec_len, vec_capacity, merge}
use Rattle.running.proofs.gathering.gather.Given as goal

abbrev pub invariant-loop-taken : goal.invariant-loop-taken
invariant-loop-taken l = record {
  items : merge l.runners.items l.others.items ≡ merge l.initial.runners.items l.initial.others.items;
  room : vec_len l.runners + vec_len l.others ≤ vec_capacity l.runners;
  left : vec_len l.others + l._taken ≡ vec_len l.initial.others;
  long : vec_len l.initial.runners ≤ vec_len l.runners;
  capacity : vec_capacity l.initial.runners ≤ vec_capacity l.runners;
}
