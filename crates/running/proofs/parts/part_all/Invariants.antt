use Rattle.running.proofs.Common.{◌≡◌, ◌+◌, ◌-◌, All, view, shows, opened_for, IsGroupOf, IsReady}
use Rattle.std.specs.Prelude.{vec_len}
use Rattle.running.proofs.PartLemmas.{first_idle}
use Rattle.running.proofs.parts.part_all.Given as goal

abbrev pub invariant-loop-given : goal.invariant-loop-given
invariant-loop-given l = record {
  many : vec_len l.groups + 1 ≡ l._given;
  ready : All (IsReady l.arena) l.groups.items;
  own : IsGroupOf l.arena l.rest;
  left : shows l.rest ≡ view (opened_for l.arena) (first_idle (l.processes - vec_len l.groups));
}
