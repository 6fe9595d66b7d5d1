use Rattle.search.proofs.Common.{◌≡◌, Option, None, Some, Result, Ok, Err, ap, refl, sym, ◌∙◌, IfOk}
use Rattle.std.specs.Result.{result_map_both, result_transpose}
use Rattle.search.specs.declared.walk.Turn.TheVariants.{Done}
use Rattle.search.specs.Turn.{IsTurn}
use Rattle.search.proofs.walk.Walk.turn.Goals as goal

-- what was found where a result and an option are exchanged
transposed : {A E : Type 0} (r : Result (Option A) E) (found : A) → result_transpose r ≡ Some (Ok found) → r ≡ Ok (Some found)
transposed (Ok (Some a)) found is = cc
transposed (Ok None) found is = cc
transposed (Err e) found is = cc

-- what holds of each value that a result may have holds of it after a function
mapped : {A B E : Type 0} (f : A → B) (P : B → Type 0) (r : Result A E) → ((a : A) → r ≡ Ok a → P (f a))
    → IfOk (result_map_both f (λ e. e) r) P
mapped f P (Ok a) h = h a refl
mapped f P (Err e) h = tt

pub returns-in-Some : goal.returns-in-Some
returns-in-Some c = rw c.end_with.ensures
    (mapped (λ found. Done found) (IsTurn c.args.self) c.in-Some.found
    (λ found is.
    let made = transposed c.make_turn.result found (sym c.transpose.ensures ∙ c.in-Some.is ∙ ap (λ r. Some r) is) in
    let over = rw made at c.make_turn.ensures in
    rw (← c.self.view_is) (over.0, over.1)))
