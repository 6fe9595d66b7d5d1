use Rattle.machine.proofs.Common.{◌≡◌, true, subst, All-from_contains, ◌≢◌, Contains, finished, start_plan}
use Rattle.events.specs.declared.event.Reply.TheVariants as replies
use Rattle.machine.proofs.starting.starting_words.Goals as goal

pub returns-then-has_refused-clause-refused : goal.returns-then-has_refused-clause-refused
returns-then-has_refused-clause-refused c =
    let h = c.in_ok-machine.ensures.inserted in
    record {
      state = h.state;
      process = h.process;
      inserted = h.inserted;
      refused =
          (c.has_refused.ensures (start_plan c.args.shape c.args.variant c.args.start.now) h.state h.process h.shows
          h.inserted.is_process).0
          c.if-has_refused.true;
    }

pub returns-clause-words : goal.returns-clause-words
returns-clause-words c =
    let h = c.in_ok-machine.ensures.inserted in
    let plan = start_plan c.args.shape c.args.variant c.args.start.now in
    record {
      state = h.state;
      process = h.process;
      inserted = h.inserted;
      all = h.all;
      accepted = All-from_contains (λ reply. reply ≢ replies.Refused) (finished h.process) (λ reply within same.
          let t : c.has_refused.result ≡ true = (c.has_refused.ensures plan h.state h.process h.shows h.inserted.is_process).1
          (subst (λ r. Contains (finished h.process) r) same within) in
          let f = c.if-has_refused.false in
          cc);
      leaves = c.into_words.ensures plan h.state h.shows;
    }
