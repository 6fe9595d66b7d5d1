use Rattle.follow_monitor.proofs.Common.{MonitorView, known_call, Kept, ap, ◌∙◌}
use Rattle.follow_monitor.proofs.monitor.Monitor.known.Goals as goal

pub returns : goal.returns
returns c =
    c.open_call.ensures
    ∙ (ap (λ (k : Kept). known_call k.open_calls.entries c.args.process) c.deref.ensures
    ∙ ap (λ (v : MonitorView). known_call v.open_calls c.args.process) c.self.view_is)
