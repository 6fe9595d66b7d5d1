use Rattle.memo.proofs.Common.{◌≡◌, ◌∙◌, [], List, sym, subst, ◌↔◌, IsTrue, Contains, All, Configuration, IsKept}
use Rattle.std.proofs.Common.{◌⊎◌}
use Rattle.memo.proofs.KeptLemmas.{all_kept, new_told, each_shared, told_shared}
use Rattle.memo.proofs.memo.Memo.visit.Goals.{in-Ok-insert, in-Err-insert}
use Rattle.memo.proofs.memo.Memo.visit.Goals as goal

module _ (c : goal.Joined-self-base) where
  shares : (c.self.inside.visited.keys ≡ []) ⊎ (c.self.inside.base ≡ c.config.inside.base)
  shares = c.may_share.ensures.0 c.if-may_share.true

  each : All (IsKept c.config.inside.base) c.self.inside.visited.keys
  each = each_shared c.self.inside.base c.config.inside.base c.self.inside.visited.keys shares c.self.invariant

pub invariant_of-self : goal.invariant_of-self
invariant_of-self c =
    all_kept c.config.inside.base c.self.inside.visited.keys c.config.inside.form c.insert.new.visited.keys c.insert.result
    c.insert.ensures.visited c.insert.ensures.unchanged (each c) c.config.invariant

pub returns-in-Ok-clause-new : goal.returns-in-Ok-clause-new
returns-in-Ok-clause-new c =
    subst (λ (v : List Configuration). IsTrue c.in-Ok.new ↔ (Contains v c.args.config → ⊥))
    (sym (told_shared c.self.inside.base c.config.inside.base c.self.inside.visited.keys (shares c)) ∙ c.self.view_is)
    (new_told c.config.inside.base c.self.inside.visited.keys c.config.inside.form c.insert.new.visited.keys c.args.config c.config.view_is
    c.in-Ok.new (each c) c.config.invariant c.in-Ok.ensures.new)

pub invariant_of-self-2 : goal.invariant_of-self-2
invariant_of-self-2 c =
    all_kept c.self.inside.base c.self.inside.visited.keys c.in-Ok-over.form c.insert-2.new.visited.keys c.insert-2.result
    c.insert-2.ensures.visited c.insert-2.ensures.unchanged c.self.invariant c.in-Ok-over.ensures.kept

pub returns-clause-new : goal.returns-clause-new
returns-clause-new c = elim c.match-insert-2.branch [
  | in-Ok-insert w ↦ rw (w.result-is, ← c.self.view_is)
      (new_told c.self.inside.base c.self.inside.visited.keys c.in-Ok-over.form c.insert-2.new.visited.keys c.args.config
      (c.in-Ok-over.ensures.is ∙ c.config.view_is) w.in-Ok-insert.new c.self.invariant c.in-Ok-over.ensures.kept w.in-Ok-insert.ensures.new)
  | in-Err-insert w ↦ rw w.result-is tt
]
