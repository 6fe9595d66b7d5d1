use Rattle.running.proofs.Common.{take, shows, opened_for, IsGroupOf, least_process}
use Rattle.running.proofs.ArenaScriptLemmas.{IsBetween}
use Rattle.running.proofs.arena_script.do_script.Given as goal

abbrev pub invariant-loop-call : goal.invariant-loop-call
invariant-loop-call l = record {
  own : IsGroupOf l.arena l.group;
  between : IsBetween (opened_for l.arena) (least_process (shows l.initial.group)) l.limit (take l.call-index l.script) (shows l.group);
}
