use Rattle.search_choices.proofs.Common.{subst, AllMissOne, places}
use Rattle.search_choices.proofs.FirstKeyLemmas.{answered-push}
use Rattle.search_choices.proofs.first_keys.first_keys.Goals as goal

pub returns-in_default-tied_scan : goal.returns-in_default-tied_scan
returns-in_default-tied_scan g c =
    let path = places c.args.standing.now.levels.items in
    record {
      first = c.loop-more.invariant;
      scans = subst (AllMissOne c.args.standing.now.map c.args.calls.now path c.args.answered) c.deref.ensures.value
          c.in_default-tied_scan.ensures.none;
    }

pub loop-more-preserved : goal.loop-more-preserved
loop-more-preserved g c =
    answered-push c.args.standing.now.map c.args.calls.now (places c.args.standing.now.levels.items) c.args.answered c.loop-more.keys.items
    c.push.new.self.items c.in-Some-missed_key.key c.in_ok-push.ensures.items c.loop-more.invariant
