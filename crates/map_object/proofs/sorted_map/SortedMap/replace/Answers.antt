use Rattle.std.proofs.Common.{◌<◌, length, refl, sym, arith}
use Rattle.map_object.proofs.PlaceLemmas.{value_found, replaced, not_replaced, rising_written}
use Rattle.map_object.proofs.sorted_map.SortedMap.replace.Goals as goal

pub index-requires : goal.index-requires
index-requires c =
    let within : c.in-Ok.at < length c.self.inside.pairs.items = rw c.self.view_is c.in-Ok.ensures.found.in_range in
    omega (arith, c.self.inside.pairs.ok.0)

pub index_mut-requires : goal.index_mut-requires
index_mut-requires c =
    let within : c.in-Ok.at < length c.self.inside.pairs.items = rw c.self.view_is c.in-Ok.ensures.found.in_range in
    omega (arith, c.self.inside.pairs.ok.0)

pub invariant_of-self : goal.invariant_of-self
invariant_of-self c = rising_written _ _ _ _ c.self.invariant (rw c.self.view_is c.in-Ok.ensures.found)

-- the value there is the one expected
pub returns-then-found-expected : goal.returns-then-found-expected
returns-then-found-expected c =
    let is = rw c.self.view_is at c.index.ensures in
    record {
      old = value_found _ _ _ c.index.result.now c.in-Ok.ensures.found is;
      after = rw c.self.view_is
          (replaced _ _ _ _ c.args.expected c.index.result.now c.in-Ok.ensures.found is c.if-found-expected.true);
    }

-- it is another
pub returns-else-found-expected : goal.returns-else-found-expected
returns-else-found-expected c =
    let is = rw c.self.view_is at c.index.ensures in
    record {
      old = value_found _ _ _ c.index.result.now c.in-Ok.ensures.found is;
      after = not_replaced _ _ _ c.args.replacement c.args.expected c.index.result.now c.in-Ok.ensures.found is
          c.if-found-expected.false;
    }

-- no pair has the key
pub returns-in-Err : goal.returns-in-Err
returns-in-Err c = record { old = sym c.in-Err.ensures.absent.value; after = rw c.in-Err.ensures.absent.value refl }
