use Rattle.follow_monitor.proofs.OpenPutLemmas.{push_none, push_put}
use Rattle.follow_monitor.proofs.all_puts.note_put.Goals as goal

pub returns-in_ok-push : goal.returns-in_ok-push
returns-in_ok-push c entries process h = rw c.in_ok-push.ensures.items (push_put entries process c.args.known.now _ c.in-Some.put c.in-Some.ensures h)

pub returns-in_default : goal.returns-in_default
returns-in_default c entries process h = push_none entries process c.args.known.now _ c.in_default.ensures h
