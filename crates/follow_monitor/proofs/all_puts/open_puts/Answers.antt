use Rattle.follow_monitor.proofs.Common.{ArePutsOfEntries, ◌≡◌, ◌∷◌, [], map, rules, subst, sym, map-append, deref_pair}
use Rattle.std.proofs.lemmas.Cmp.{nat_cmp_total}
use Rattle.std.proofs.lemmas.Map.Iter.{iter_end}
use Rattle.std.proofs.lemmas.Map.Lookups.{exact_unsigned}
use Rattle.std.proofs.lemmas.Map.Views.{btree_map_get_iff}
use Rattle.follow_monitor.proofs.OpenPutLemmas.{ok_both, open_of_entries}
use Rattle.follow_monitor.proofs.all_puts.open_puts.Goals as goal

pub loop-known-preserved : goal.loop-known-preserved
loop-known-preserved c =
    subst (λ l. ArePutsOfEntries l c.note_put.new.puts.items)
    (sym (map-append deref_pair c.loop-known.yielded ((c.in-Some.field-0-0, c.in-Some.known) ∷ [])))
    (c.in_ok-note_put.ensures _ _ c.loop-known.invariant)

pub returns : goal.returns
returns c =
    let all : map deref_pair c.loop-known.yielded ≡ c.args.open_calls.now.entries = search (rules, iter_end) in
    let seen = subst (λ l. ArePutsOfEntries l c.loop-known.puts.items) all c.loop-known.invariant in
    let (_, _, _, _, _, ordered, _) = c.into_iter-known-iterator.ensures.into_iter_gives in
    ok_both c.by_event.result _ _ _
    (λ sorted moved rises. open_of_entries c.args.open_calls.now.entries c.loop-known.puts.items sorted.items
    (btree_map_get_iff nat_cmp_total exact_unsigned c.args.open_calls.now ordered) ordered seen moved rises)
    c.by_event.ensures.moved c.by_event.ensures.rising
