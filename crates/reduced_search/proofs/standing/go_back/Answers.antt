use Rattle.std.proofs.Common.{◌≡◌, ◌-◌, ◌<◌, List, [], ◌∷◌, ◌++◌, take, ℕ, refl, ap, ◌∙◌, subst, inl, arith}
use Rattle.std.specs.Prelude.{vec_len}
use Rattle.std.proofs.lemmas.List.{append-nil}
use Rattle.search_choices.specs.declared.branch.Branch.{Branch}
use Rattle.search_choices.specs.Standing.{places, IsStateBut, IsDead, to_try}
use Rattle.search_choices.proofs.StandingLemmas.{dead_end, none_at_end, below-popped, stands-pop, choices-pop, to_try-push}
use Rattle.reduced_search.proofs.standing.go_back.Goals as goal

less : (levels old : List Branch) (level : Branch) (tried : List ℕ) → old ≡ levels ++ level ∷ [] → tried ≡ []
    → to_try levels level.rest.items < to_try old tried
less levels old level tried is none = omega (arith, ap (λ ls. to_try ls tried) is, to_try-push levels level tried)

pub returns-in_default : goal.returns-in_default
returns-in_default g c =
    let calls = c.args.calls.now in
    let w = c.args.standing.now in
    let e = c.in_default.ensures in
    let zero_len : vec_len w.levels - 1 ≡ 0 = omega (arith, e.cases.0) in
    let none : w.levels.items ≡ [] = e.items ∙ append-nil c.pop.new.self.items ∙ e.rest ∙ ap (λ k. take k w.levels.items) zero_len in
    none_at_end g.start calls
    (subst (λ (ls : List Branch). IsDead g.start calls (places ls)) none (dead_end g.start calls (places w.levels.items) c.requires.1.1.0))

pub index_mut-requires : goal.index_mut-requires
index_mut-requires g c =
    let calls = c.args.calls.now in
    let w = c.args.standing.now in
    let is = c.in-Some.ensures.items in
    let s = subst (λ (ls : List Branch). IsStateBut g.start calls ls w.at w.map w.memo w.taken.items w.low) is c.requires.1.0 in
    let dead = subst (λ (ls : List Branch). IsDead g.start calls (places ls)) is
    (dead_end g.start calls (places w.levels.items) c.requires.1.1.0) in
    let below = below-popped g.start calls c.requires.0 c.pop.new.self.items c.in-Some.level w.at w.map w.memo w.taken.items w.low s dead in
    omega (arith, below, c.requires.1.0.marked.all)

pub returns-then-place-standing : goal.returns-then-place-standing
returns-then-place-standing g c =
    let calls = c.args.calls.now in
    let w = c.args.standing.now in
    let levels = c.pop.new.self.items in
    let level = c.in-Some.level in
    let is = c.in-Some.ensures.items in
    let s = subst (λ (ls : List Branch). IsStateBut g.start calls ls w.at w.map w.memo w.taken.items w.low) is c.requires.1.0 in
    let dead = subst (λ (ls : List Branch). IsDead g.start calls (places ls)) is
    (dead_end g.start calls (places w.levels.items) c.requires.1.1.0) in
    record {
      stands = (
        stands-pop g.start calls c.requires.0 levels level w.at w.map w.memo w.taken.items w.low s dead c.undo_call.new.map level.place
            c.in_ok-undo_call.ensures (omega (arith, c.if-place-standing.true)) (omega arith),
        choices-pop g.start calls c.requires.0 levels level w.at w.map w.memo w.taken.items w.low s dead,
      );
      progress = inl (refl, less levels w.levels.items level w.rest.items is c.requires.1.1.1);
    }

pub returns-else-place-standing : goal.returns-else-place-standing
returns-else-place-standing g c =
    let calls = c.args.calls.now in
    let w = c.args.standing.now in
    let levels = c.pop.new.self.items in
    let level = c.in-Some.level in
    let is = c.in-Some.ensures.items in
    let s = subst (λ (ls : List Branch). IsStateBut g.start calls ls w.at w.map w.memo w.taken.items w.low) is c.requires.1.0 in
    let dead = subst (λ (ls : List Branch). IsDead g.start calls (places ls)) is
    (dead_end g.start calls (places w.levels.items) c.requires.1.1.0) in
    record {
      stands = (
        stands-pop g.start calls c.requires.0 levels level w.at w.map w.memo w.taken.items w.low s dead c.undo_call.new.map w.low
            c.in_ok-undo_call.ensures (omega arith) (omega (arith, c.if-place-standing.false)),
        choices-pop g.start calls c.requires.0 levels level w.at w.map w.memo w.taken.items w.low s dead,
      );
      progress = inl (refl, less levels w.levels.items level w.rest.items is c.requires.1.1.1);
    }
