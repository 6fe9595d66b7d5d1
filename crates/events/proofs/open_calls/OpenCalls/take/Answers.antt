use Rattle.events.proofs.Common.{◌≡◌, None, fault_after}
use Rattle.events.proofs.HistoryLemmas.{AreHistoryEvents-push}
use Rattle.events.proofs.OpenCallLemmas.{fault_after-open}
use Rattle.events.proofs.open_calls.OpenCalls.take.Goals as goal

-- what is kept of the events before shows the fault
pub returns-in-Some : goal.returns-in-Some
returns-in-Some c = record {
  history = λ before turns place h. tt;
  after = λ before turns. tt;
  fault = λ before turns place.
      let shown = fault_after-open before c.args.self.now c.args.event.now turns in cc shown;
}

pub returns : goal.returns
returns c = record {
  history = λ before turns place h.
      let sound = fault_after-open before c.args.self.now c.args.event.now turns in
      let none : fault_after before c.args.event.now ≡ None = cc in
      AreHistoryEvents-push before c.args.event.now h none;
  after = c.note.ensures;
  fault = λ before turns place. tt;
}
