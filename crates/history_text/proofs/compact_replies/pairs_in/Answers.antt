use Rattle.history_text.proofs.Common.{ℕ, List, ◌++◌, map, subst, sym, ap, pair_data, ArePlain}
use Rattle.history_text.proofs.CompactLemmas.{values_before, values_go_on, values_close, values_plain, left_shorter}
use Rattle.history_text.proofs.compact_replies.pairs_in.Goals as goal

pub each-init : goal.each-init
each-init c = record {
  so_far = sym (ap (λ (ps : List (ℕ × ℕ)). values_before (map pair_data ps) ++ c.args.text.now) c.requires);
  plain = subst (λ (ps : List (ℕ × ℕ)). ArePlain (map pair_data ps)) (sym c.requires) tt;
}

pub returns-in-Some-clause-text : goal.returns-in-Some-clause-text
returns-in-Some-clause-text c =
    rw c.in_ok-keep.ensures
    (values_close pair_data c.each.pairs.items c.in_ok-pair.pair c.args.text.now _ _ c.in-Some.rest.now c.each.invariant.so_far
    c.in_ok-pair.ensures c.in-Some.ensures)

pub returns-in-Some-clause-plain : goal.returns-in-Some-clause-plain
returns-in-Some-clause-plain c =
    rw c.in_ok-keep.ensures
    (values_plain pair_data c.each.pairs.items c.in_ok-pair.pair c.each.invariant.plain c.in_ok-pair.ensures.plain)

pub each-preserved : goal.each-preserved
each-preserved c =
    rw c.in_ok-keep.ensures (record {
      so_far =
          values_go_on pair_data c.each.pairs.items c.in_ok-pair.pair c.args.text.now _ _ c.in_ok-more.more.now c.each.invariant.so_far
          c.in_ok-pair.ensures c.in_ok-more.ensures;
      plain = values_plain pair_data c.each.pairs.items c.in_ok-pair.pair c.each.invariant.plain c.in_ok-pair.ensures.plain;
    })

pub each-smaller : goal.each-smaller
each-smaller c = left_shorter (pair_data c.in_ok-pair.pair) _ _ c.in_ok-more.more.now c.in_ok-pair.ensures c.in_ok-more.ensures
