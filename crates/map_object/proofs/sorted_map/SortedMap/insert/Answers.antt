use Rattle.std.proofs.Common.{◌<◌, ◌≤◌, length, sym, ◌∙◌, arith}
use Rattle.map_object.proofs.PlaceLemmas.{value_found, written, put_in, rising_written, rising_put}
use Rattle.map_object.proofs.sorted_map.SortedMap.insert.Goals as goal

pub index-requires : goal.index-requires
index-requires c =
    let within : c.in-Ok.at < length c.self.inside.pairs.items = rw c.self.view_is c.in-Ok.ensures.found.in_range in
    omega (arith, c.self.inside.pairs.ok.0)

pub index_mut-requires : goal.index_mut-requires
index_mut-requires c =
    let within : c.in-Ok.at < length c.self.inside.pairs.items = rw c.self.view_is c.in-Ok.ensures.found.in_range in
    omega (arith, c.self.inside.pairs.ok.0)

-- the pair of the key is written over
pub returns-in-Ok : goal.returns-in-Ok
returns-in-Ok c = record {
  old = value_found _ _ _ c.index.result.now c.in-Ok.ensures.found (rw c.self.view_is at c.index.ensures);
  after = rw c.self.view_is (written _ _ _ _ c.in-Ok.ensures.found);
  unchanged = tt;
  wanting = tt;
}

pub invariant_of-self : goal.invariant_of-self
invariant_of-self c = rising_written _ _ _ _ c.self.invariant (rw c.self.view_is c.in-Ok.ensures.found)

-- a pair is put into the gap
pub insert-requires : goal.insert-requires
insert-requires c =
    let within : c.in-Err.at ≤ length c.self.inside.pairs.items = rw c.self.view_is c.in-Err.ensures.absent.in_range in
    omega (arith, c.self.inside.pairs.ok.0)

pub invariant_of-self-in-Err : goal.invariant_of-self-in-Err
invariant_of-self-in-Err c = rw c.in_ok-insert-in-Err.ensures.items (rising_put _ _ _ _ c.self.invariant
    (rw c.self.view_is c.in-Err.ensures.absent))

pub returns-in_ok-insert-in-Err : goal.returns-in_ok-insert-in-Err
returns-in_ok-insert-in-Err c = record {
  old = sym c.in-Err.ensures.absent.value;
  after = c.in_ok-insert-in-Err.ensures.items ∙ rw c.self.view_is (put_in _ _ _ _ c.in-Err.ensures.absent);
  unchanged = tt;
  wanting = tt;
}
