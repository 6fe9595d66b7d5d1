use Rattle.std.proofs.Common.{Result, Ok, Err, ◌≡◌, ◌-◌, ◌+◌, ◌≤◌, List, ℕ, [], ◌∷◌, ◌++◌, length, take, refl, ap, ◌∙◌, subst, arith}
use Rattle.std.specs.Prelude.{vec_len, IfOk}
use Rattle.std.proofs.lemmas.List.{append-nil, length-append}
use Rattle.search_choices.specs.Standing.{places, AreChoices, Closes, to_try, IsStep, IsLooked}
use Rattle.search_choices.specs.declared.branch.CallSearch.{CallSearch}
use Rattle.search_choices.proofs.StandingLemmas.{last_of, step_from, step_on, step_back}
use Rattle.reduced_search.proofs.standing.make_step.Goals as goal

-- nothing was left
none_left : (old new : List ℕ) (n : ℕ) → old ≡ new ++ [] → new ≡ take n old → n ≡ 0 → new ≡ []
none_left old new n is rest zero = rest ∙ ap (λ k. take k old) zero

pub go_back-requires : goal.go_back-requires
go_back-requires g c =
    let w = c.args.standing.now in
    let e = c.in_default.ensures in
    let s = c.requires.1.1.1.1 in
    let none = none_left w.rest.items c.pop.new.self.items (vec_len w.rest - 1) e.items e.rest (omega (arith, e.cases.0)) in
    let old_none : w.rest.items ≡ [] = e.items ∙ append-nil c.pop.new.self.items ∙ none in
    (c.requires.1.0, (s.0, (subst (Closes g.start c.args.calls.now (places w.levels.items)) old_none s.1.closes, none)))

-- a result that is weaker said
weaker : {A E : Type 0} (P Q : A → Type 0) (r : Result A E) → ((x : A) → P x → Q x) → IfOk r P → IfOk r Q
weaker P Q (Ok x) f h = f x h
weaker P Q (Err e) f h = h

pub returns-in_default : goal.returns-in_default
returns-in_default g c =
    let w = c.args.standing.now in
    let calls = c.args.calls.now in
    let e = c.in_default.ensures in
    let none = none_left w.rest.items c.pop.new.self.items (vec_len w.rest - 1) e.items e.rest (omega (arith, e.cases.0)) in
    let old_none : w.rest.items ≡ [] = e.items ∙ append-nil c.pop.new.self.items ∙ none in
    let middle : CallSearch = record {
      levels = w.levels;
      rest = c.pop.new.self;
      at = w.at;
      map = w.map;
      memo = w.memo;
      taken =
          w.taken;
      low = w.low;
    } in
    let same : to_try w.levels.items c.pop.new.self.items ≤ to_try w.levels.items w.rest.items =
    omega (arith, ap (to_try w.levels.items) none, ap (to_try w.levels.items) old_none) in
    weaker (IsStep g.start calls middle c.go_back.new.standing) (IsStep g.start calls w c.go_back.new.standing) c.go_back.result
    (λ progress h. step_from g.start calls w middle c.go_back.new.standing progress refl same h) c.go_back.ensures

pub take-requires : goal.take-requires
take-requires g c =
    let w = c.args.standing.now in
    let s = c.requires.1.1.1.1 in
    let choices = subst (AreChoices g.start c.args.calls.now (places w.levels.items)) c.in-Some.ensures.items s.1 in
    (c.requires.1.0, (s.0, last_of g.start c.args.calls.now (places w.levels.items) c.pop.new.self.items c.in-Some.place choices))

pub look_on-requires : goal.look_on-requires
look_on-requires g c =
    let taken = rw c.if-new.true at c.in_ok-new.ensures in
    (c.requires.0, (c.requires.1.0, (c.requires.1.1.0, (c.requires.1.1.1.0, taken.0))))

pub returns-then-new : goal.returns-then-new
returns-then-new g c =
    let w = c.args.standing.now in
    let calls = c.args.calls.now in
    let taken = rw c.if-new.true at c.in_ok-new.ensures in
    let popped : length w.rest.items ≡ length c.pop.new.self.items + 1 =
    ap length c.in-Some.ensures.items ∙ length-append c.pop.new.self.items (c.in-Some.place ∷ []) in
    weaker (IsLooked g.start calls c.take.new.standing c.look_on.new.standing)
    (IsStep g.start calls w c.look_on.new.standing) c.look_on.result
    (λ progress h. step_on g.start calls w c.take.new.standing c.look_on.new.standing c.pop.new.self.items progress taken.1 taken.2 popped
    h) c.look_on.ensures

pub returns : goal.returns
returns g c =
    let w = c.args.standing.now in
    let calls = c.args.calls.now in
    let taken = rw c.if-new.false at c.in_ok-new.ensures in
    let s = c.requires.1.1.1.1 in
    let middle : CallSearch = record {
      levels = w.levels;
      rest = c.pop.new.self;
      at = w.at;
      map = w.map;
      memo = w.memo;
      taken =
          w.taken;
      low = w.low;
    } in
    let choices = subst (AreChoices g.start calls (places w.levels.items)) c.in-Some.ensures.items s.1 in
    let of = last_of g.start calls (places w.levels.items) c.pop.new.self.items c.in-Some.place choices in
    step_back g.start calls w middle c.take.new.standing c.in-Some.place s.0 c.in-Some.ensures.items refl refl of taken.0 taken.1
    taken.2 taken.3 taken.4
