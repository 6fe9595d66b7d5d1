use Rattle.search.proofs.UndoLemmas.{change_undone}
use Rattle.search.proofs.undo.do_call.Goals as goal
use Rattle.search.proofs.undo.do_call.Goals.{in-Insert, in-Insert-2, in-Insert-3}

pub returns-clause-undo : goal.returns-clause-undo
returns-clause-undo c = elim c.match-call.branch [
  | in-Insert w ↦ rw (c.in_ok-_reply.ensures.after, c.restoring_call-undo.ensures, c.value.ensures.value, w.key-is)
      (change_undone c.args.map.now c.args.call.now w.in-Insert.key c.value.ensures.rising w.in-Insert.is)
  | in-Insert-2 w ↦ rw (c.in_ok-_reply.ensures.after, c.restoring_call-undo.ensures, c.value.ensures.value, w.key-is)
      (change_undone c.args.map.now c.args.call.now w.in-Insert.key c.value.ensures.rising w.in-Insert.is)
  | in-Insert-3 w ↦ rw (c.in_ok-_reply.ensures.after, c.restoring_call-undo.ensures, c.value.ensures.value, w.key-is)
      (change_undone c.args.map.now c.args.call.now w.in-Insert.key c.value.ensures.rising w.in-Insert.is)
]
