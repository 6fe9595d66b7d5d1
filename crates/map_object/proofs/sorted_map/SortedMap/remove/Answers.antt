use Rattle.std.proofs.Common.{◌<◌, length, sym, ◌∙◌, arith}
use Rattle.map_object.proofs.PlaceLemmas.{value_found, taken_out, none_taken_out, rising_taken_out}
use Rattle.map_object.proofs.sorted_map.SortedMap.remove.Goals as goal

pub remove-requires : goal.remove-requires
remove-requires c =
    let within : c.in-Ok.at < length c.self.inside.pairs.items = rw c.self.view_is c.in-Ok.ensures.found.in_range in
    omega (arith, c.self.inside.pairs.ok.0)

-- the pair of the key is taken out
pub returns-in-Ok : goal.returns-in-Ok
returns-in-Ok c = record {
  old = value_found _ _ _ c.remove.result c.in-Ok.ensures.found (rw c.self.view_is at c.remove.ensures.value);
  after = c.remove.ensures.by_index.2 ∙ rw c.self.view_is (taken_out _ _ _ c.in-Ok.ensures.found);
}

pub invariant_of-self : goal.invariant_of-self
invariant_of-self c =
    rw c.remove.ensures.by_index.2 (rising_taken_out c.self.inside.pairs.items c.args.key c.in-Ok.at c.self.invariant (rw c.self.view_is c.in-Ok.ensures.found))

-- no pair has the key
pub returns-in-Err : goal.returns-in-Err
returns-in-Err c = record { old = sym c.in-Err.ensures.absent.value; after = none_taken_out _ _ _ c.in-Err.ensures.absent }
