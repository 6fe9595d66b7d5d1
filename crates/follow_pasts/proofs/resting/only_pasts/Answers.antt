use Rattle.follow_pasts.proofs.Common.{List, [], ◌∷◌, ◌++◌, sym, ap, ◌∙◌, subst, pairs_at, Past, covered, AreOnly, IsOnly}
use Rattle.std.proofs.lemmas.Slice.Zip.{all_zipped_more}
use Rattle.follow_pasts.proofs.resting.only_pasts.Goals as goal

pub loop-past-preserved : goal.loop-past-preserved
loop-past-preserved c =
    let busy = covered c.args.busy.now in
    let past = c.in-Some.past in
    let parts = c.into_parts-map.ensures in
    subst (λ (l : List Past). AreOnly busy (c.loop-past.yielded ++ past ∷ []) l) (sym c.in_ok-push.ensures.items)
    (all_zipped_more (IsOnly busy) c.loop-past.yielded c.loop-past.left.items past _ c.loop-past.invariant (record {
      pairs = c.in_ok-map.ensures ∙ ap (λ r. pairs_at busy r.0) parts;
      calls = ap (λ r. r.1.items) parts;
      found = ap (λ r. r.2.items) parts;
    }))
