use Rattle.follow_pasts.proofs.Common.{List, [], ◌∷◌, ◌++◌, ap, ◌∙◌, Past, Range}
use Rattle.follow_pasts.proofs.TogetherLemmas.{taken_from}
use Rattle.follow_pasts.proofs.uniting.part_at_rest.Goals as goal

pub returns : goal.returns
returns c =
    let range : Range = record { low = c.args.low; high = c.args.high } in
    let past : Past = record { map = c.in_ok-map.map; calls = c.new.result; found = c.new-2.result } in
    taken_from c.args.low c.args.high c.args.rest.now c.take_range.new.rest _ past c.in_ok-map.ensures c.new.ensures.items c.new-2.ensures.items
    (c.in_ok-push.ensures.items ∙ ap (λ (l : List Range). l ++ range ∷ []) c.new-ranges.ensures.items)
    (c.in_ok-push-2.ensures.items ∙ ap (λ (l : List Past). l ++ past ∷ []) c.new-pasts.ensures.items)
