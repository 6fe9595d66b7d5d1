use Rattle.running.proofs.Common.{◌≡◌, false, take, process_number, calls_of, events_by, is_waiting, IsPassOf, AreOwn, AnswersFit}
use Rattle.running.specs.Drives.{invoked}
use Rattle.running.proofs.script.do_script.Given as goal

abbrev pub invariant-loop-call : goal.invariant-loop-call
invariant-loop-call g l = record {
  own : IsPassOf l.recorder l.pass;
  process : process_number l.pass ≡ process_number l.initial.pass;
  calls : calls_of l.pass ≡ calls_of l.initial.pass;
  events : AreOwn l.pass;
  done : invoked (events_by l.pass) ≡ take l.call-index l.script;
  idle : is_waiting l.pass ≡ false;
  answered : AnswersFit (g.S.Subject.may_answer l.subject) (events_by l.pass);
}
