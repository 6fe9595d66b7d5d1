use Rattle.std.proofs.Common.{◌<◌, ℕ, Some, sym, subst, arith}
use Rattle.follow_pasts.specs.Lists.{list_count}
use Rattle.follow_parts.proofs.TableLemmas.{second_listed, second_taken, taken_from, taken_listed}
use Rattle.follow_parts.proofs.table.PartTable.take_with.Goals as goal

pub invariant_of-self : goal.invariant_of-self
invariant_of-self c =
    taken_listed c.self.inside.lists.items c.self.invariant 0 c.index_mut.result.now c.take_key.new.parts
    (subst (λ (n : ℕ). 0 < n) (sym c.self.invariant.count) (let e : 0 < list_count = omega arith in e)) c.index_mut.ensures.value c.args.key
    (Some c.in-Some.part) c.in-Some.ensures

pub returns-in-Some : goal.returns-in-Some
returns-in-Some c =
    rw (← c.self.view_is)
    (taken_from c.self.inside.lists.items c.self.invariant 0 c.index_mut.result.now c.take_key.new.parts
    (subst (λ (n : ℕ). 0 < n) (sym c.self.invariant.count) (let e : 0 < list_count = omega arith in e)) c.index_mut.ensures.value c.args.key
    c.in-Some.part c.in-Some.ensures)

pub invariant_of-self-2 : goal.invariant_of-self-2
invariant_of-self-2 c =
    second_listed c.args.key c.self.inside.lists.items c.self.invariant c.index_mut.result.now c.take_key.new.parts
    (subst (λ (n : ℕ). 0 < n) (sym c.self.invariant.count) (let e : 0 < list_count = omega arith in e)) c.index_mut.ensures.value
    c.in_default.ensures c.list_of_key.result c.list_of_key.ensures.place
    (subst (λ (n : ℕ). c.list_of_key.result < n) (sym c.self.invariant.count) c.list_of_key.ensures.there) c.index_mut-2.result.now
    c.take_key-2.new.parts c.index_mut-2.ensures.value c.take_key-2.result c.take_key-2.ensures

pub returns : goal.returns
returns c =
    rw (← c.self.view_is)
    (second_taken c.args.key c.self.inside.lists.items c.self.invariant c.index_mut.result.now c.take_key.new.parts
    (subst (λ (n : ℕ). 0 < n) (sym c.self.invariant.count) (let e : 0 < list_count = omega arith in e)) c.index_mut.ensures.value
    c.in_default.ensures c.list_of_key.result c.list_of_key.ensures.place
    (subst (λ (n : ℕ). c.list_of_key.result < n) (sym c.self.invariant.count) c.list_of_key.ensures.there) c.index_mut-2.result.now
    c.take_key-2.new.parts c.index_mut-2.ensures.value c.take_key-2.result c.take_key-2.ensures)
