use Rattle.follow_parts.proofs.Common.{◌≡◌, List, true, subst, IsSomeAnd, slice_get, covered, Part}
use Rattle.follow_parts.proofs.TableLemmas.{taken_at}
use Rattle.follow_parts.proofs.table.take_key.Goals as goal

pub returns-in-Some : goal.returns-in-Some
returns-in-Some c =
    taken_at c.args.key c.in-Some.place c.args.parts.now.items c.remove.new.self.items c.remove.result
    (subst (λ (ps : List Part). IsSomeAnd (slice_get ps c.in-Some.place) (λ p. covered p.ranges.items c.args.key ≡ true)) c.deref.ensures.value
    c.in-Some.ensures) c.remove.ensures.value c.remove.ensures.by_index.2
