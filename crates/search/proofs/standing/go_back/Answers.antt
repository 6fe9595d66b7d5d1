use Rattle.search.proofs.Common.{◌≡◌, ◌-◌, ◌<◌, List, [], ◌∷◌, ◌++◌, length, take, refl, sym, ap, ◌∙◌, subst, inl, arith, slice_index, vec_len}
use Rattle.search.proofs.Common.{append-nil, length-set, IsOrder, Level, StandsAtCursor, put_back, places, untried, IsStateBut}
use Rattle.search.proofs.WalkLemmas.{IsExhausted-from_past, below-popped, IsStateBut-back, untried-back, IsStateBut-same}
use Rattle.search.proofs.standing.go_back.Goals as goal

pub returns-in_default : goal.returns-in_default
returns-in_default g c =
    let calls = c.args.calls.now in
    let w = c.args.standing.now in
    let e = c.in_default.ensures in
    let zero_len : vec_len w.levels - 1 ≡ 0 = omega (arith, e.cases.0) in
    let none : w.levels.items ≡ [] = e.items ∙ append-nil c.pop.new.self.items ∙ e.rest ∙ ap (λ k. take k w.levels.items) zero_len in
    IsExhausted-from_past g.start calls c.requires.0 w.memo
    (subst (λ (ls : List Level). StandsAtCursor g.start calls (places ls) (length calls) w.memo) none c.requires.1.1.0)
    (subst (λ (ls : List Level). IsOrder g.start calls (places ls) → ⊥) none c.requires.1.1.1)

pub put_back-requires : goal.put_back-requires
put_back-requires g c =
    let calls = c.args.calls.now in
    let w = c.args.standing.now in
    let is = c.in-Some.ensures.items in
    let s = subst (λ (ls : List Level). IsStateBut g.start calls ls w.next w.at w.map w.memo w.calls w.answers) is c.requires.1.0 in
    let past = subst (λ (ls : List Level). StandsAtCursor g.start calls (places ls) (length calls) w.memo) is c.requires.1.1.0 in
    let not_order = subst (λ (ls : List Level). IsOrder g.start calls (places ls) → ⊥) is c.requires.1.1.1 in
    let below = below-popped g.start calls c.requires.0 c.pop.new.self.items c.in-Some.level w.next w.at w.map w.memo w.calls w.answers
    s past not_order in
    omega (arith, below, c.requires.1.0.links.number_size)

pub put_back-requires-2 : goal.put_back-requires-2
put_back-requires-2 g c =
    let calls = c.args.calls.now in
    let w = c.args.standing.now in
    let is = c.in-Some.ensures.items in
    let s = subst (λ (ls : List Level). IsStateBut g.start calls ls w.next w.at w.map w.memo w.calls w.answers) is c.requires.1.0 in
    let past = subst (λ (ls : List Level). StandsAtCursor g.start calls (places ls) (length calls) w.memo) is c.requires.1.1.0 in
    let not_order = subst (λ (ls : List Level). IsOrder g.start calls (places ls) → ⊥) is c.requires.1.1.1 in
    let below = below-popped g.start calls c.requires.0 c.pop.new.self.items c.in-Some.level w.next w.at w.map w.memo w.calls w.answers
    s past not_order in
    omega (arith, below, c.requires.1.0.links.answer_size)

pub after-standing-requires : goal.after-standing-requires
after-standing-requires g c =
    let calls = c.args.calls.now in
    let w = c.args.standing.now in
    let is = c.in-Some.ensures.items in
    let place = c.in-Some.level.place in
    let s = subst (λ (ls : List Level). IsStateBut g.start calls ls w.next w.at w.map w.memo w.calls w.answers) is c.requires.1.0 in
    let past = subst (λ (ls : List Level). StandsAtCursor g.start calls (places ls) (length calls) w.memo) is c.requires.1.1.0 in
    let not_order = subst (λ (ls : List Level). IsOrder g.start calls (places ls) → ⊥) is c.requires.1.1.1 in
    let below = below-popped g.start calls c.requires.0 c.pop.new.self.items c.in-Some.level w.next w.at w.map w.memo w.calls w.answers
    s past not_order in
    rw c.put_back.ensures (rw (length-set w.calls.after (slice_index w.calls.before place) place)
    (omega (arith, below, c.requires.1.0.links.number_size)))

pub returns : goal.returns
returns g c =
    let calls = c.args.calls.now in
    let w = c.args.standing.now in
    let level = c.in-Some.level in
    let levels = c.pop.new.self.items in
    let is = c.in-Some.ensures.items in
    let s = subst (λ (ls : List Level). IsStateBut g.start calls ls w.next w.at w.map w.memo w.calls w.answers) is c.requires.1.0 in
    let past = subst (λ (ls : List Level). StandsAtCursor g.start calls (places ls) (length calls) w.memo) is c.requires.1.1.0 in
    let not_order = subst (λ (ls : List Level). IsOrder g.start calls (places ls) → ⊥) is c.requires.1.1.1 in
    let stands =
    IsStateBut-back g.start calls c.requires.0 levels level w.next w.at w.map w.memo w.calls w.answers s past not_order c.undo_call.new.map
    c.in_ok-undo_call.ensures in
    let less = untried-back g.start calls c.requires.0 levels level w.next w.at w.map w.memo w.calls w.answers s past not_order in
    let next = slice_index (put_back w.calls level.place).after level.place in
    let next_is : c.after-standing.result ≡ next = c.after-standing.ensures.after
    ∙ ap (λ l. slice_index l.after level.place) c.put_back.ensures in
    record {
      stands =
          IsStateBut-same g.start calls levels levels next c.after-standing.result level.at level.at c.undo_call.new.map
          c.undo_call.new.map w.memo w.memo
          (put_back w.calls level.place) c.put_back.new.self
          (put_back w.answers level.place) c.put_back-2.new.self refl next_is refl refl refl c.put_back.ensures c.put_back-2.ensures stands;
      progress =
          inl (
            refl,
            subst (λ (ls : List Level). untried (length calls) levels c.after-standing.result < untried (length calls) ls w.next) (sym is)
                (subst (λ n. untried (length calls) levels n < untried (length calls) (levels ++ level ∷ []) w.next) (sym next_is) less),
          );
    }
