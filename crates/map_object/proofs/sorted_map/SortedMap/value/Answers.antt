use Rattle.std.proofs.Common.{◌<◌, length, sym, arith}
use Rattle.map_object.proofs.PlaceLemmas.{value_found}
use Rattle.map_object.proofs.sorted_map.SortedMap.value.Goals as goal

pub index-requires : goal.index-requires
index-requires c =
    let within : c.in-Ok.at < length c.self.inside.pairs.items = rw c.self.view_is c.in-Ok.ensures.found.in_range in
    omega (arith, c.self.inside.pairs.ok.0)

pub returns-in-Ok : goal.returns-in-Ok
returns-in-Ok c = record {
  value = value_found _ _ _ c.index.result.now c.in-Ok.ensures.found (rw c.self.view_is at c.index.ensures);
  rising = rw (← c.self.view_is) c.self.invariant;
}

pub returns-in-Err : goal.returns-in-Err
returns-in-Err c = record { value = sym c.in-Err.ensures.absent.value; rising = rw (← c.self.view_is) c.self.invariant }
