-- What is left of calls if more is taken.
use Rattle.follow_laws.proofs.Common.{◌≡◌, ℕ, Bool, true, false, not, ◌&&◌, ◌||◌, cond, List, [], ◌∷◌, ◌++◌, map, Option, inl, inr, refl, sym, ap}
use Rattle.follow_laws.proofs.Common.{◌∙◌, subst, ⊎_elim, ◌≢◌, ◌⊎◌, Contains, Contains-map, Contains-from_map, AllPairs-map, Contains-first}
use Rattle.follow_laws.proofs.Common.{Contains-later, KeyedCall, Effect, no_effect, IsNoEffect, precedes, is_completed, FitInTurn, IsKeyedOrder}
use Rattle.follow_laws.proofs.Common.{Choice, rest_of, IsQuiet}
use Rattle.follow_laws.proofs.DeadLemmas.{bool_cases}
use Rattle.follow_laws.proofs.EffectRestLemmas.{none_or}
use mathlib.Core.Path.{fun_ext}

-- what is left of a call if more is taken
abbrev pub masked_by : (ℕ → ℕ → Bool) → KeyedCall → KeyedCall
masked_by m x = record {
  inv = x.inv;
  res = x.res;
  refused = x.refused;
  concerns = λ key. not (m x.inv key) && x.concerns key;
  effect = λ key. cond (m x.inv key) no_effect (x.effect key);
}

concerns_again : (h t n c : Bool) → n ≡ (t || h) → (not h && (not t && c)) ≡ (not n && c)
concerns_again true true n c is = rw is refl
concerns_again true false n c is = rw is refl
concerns_again false true n c is = rw is refl
concerns_again false false n c is = rw is refl

effect_again : (h t n : Bool) (e : Effect) → n ≡ (t || h) → cond h no_effect (cond t no_effect e) ≡ cond n no_effect e
effect_again true true n e is = rw is refl
effect_again true false n e is = rw is refl
effect_again false true n e is = rw is refl
effect_again false false n e is = rw is refl

pub rest_masked : (w next : Choice) (m : ℕ → ℕ → Bool) (d : KeyedCall)
    → ((inv key : ℕ) → next.taken inv key ≡ (w.taken inv key || m inv key)) → masked_by m (rest_of w d) ≡ rest_of next d
rest_masked w next m d taken =
    ap (λ (c : ℕ → Bool). made c (λ (key : ℕ). cond (m d.inv key) no_effect (cond (w.taken d.inv key) no_effect (d.effect key))))
    (fun_ext (λ (key : ℕ). concerns_again (m d.inv key) (w.taken d.inv key) (next.taken d.inv key) (d.concerns key) (taken d.inv key)))
    ∙ ap (λ (e : ℕ → Effect). made (λ (key : ℕ). not (next.taken d.inv key) && d.concerns key) e)
    (fun_ext (λ (key : ℕ). effect_again (m d.inv key) (w.taken d.inv key) (next.taken d.inv key) (d.effect key) (taken d.inv key)))
  where
    made : (ℕ → Bool) → (ℕ → Effect) → KeyedCall
    made c e = record { inv = d.inv; res = d.res; refused = d.refused; concerns = c; effect = e }

-- if nothing more is taken, a call is what it was
pub masked_same : (m : ℕ → ℕ → Bool) (x : KeyedCall) → ((key : ℕ) → m x.inv key ≡ false) → masked_by m x ≡ x
masked_same m x out =
    ap (λ (c : ℕ → Bool). made c (λ (key : ℕ). cond (m x.inv key) no_effect (x.effect key))) (fun_ext (λ (key : ℕ). rw (out key) refl))
    ∙ ap (λ (e : ℕ → Effect). made x.concerns e) (fun_ext (λ (key : ℕ). rw (out key) refl))
  where
    made : (ℕ → Bool) → (ℕ → Effect) → KeyedCall
    made c e = record { inv = x.inv; res = x.res; refused = x.refused; concerns = c; effect = e }

-- an order if more is taken, as far as it fits
pub order_masked : (w next : Choice) (m : ℕ → ℕ → Bool) (more order : List KeyedCall)
    → ((inv key : ℕ) → next.taken inv key ≡ (w.taken inv key || m inv key)) → IsKeyedOrder w.holds (map (rest_of w) more) order
    → ((key : ℕ) → FitInTurn key (next.holds key) (map (masked_by m) order))
    → IsKeyedOrder next.holds (map (rest_of next) more) (map (masked_by m) order)
order_masked w next m more order taken is fit = record {
  known = λ y y_in.
      let (x, x_in, x_is) = Contains-from_map (masked_by m) order y y_in in
      let (d, d_in, d_is) = Contains-from_map (rest_of w) more x (is.known x x_in) in
      let y_is : rest_of next d ≡ y = sym (rest_masked w next m d taken) ∙ ap (λ (z : KeyedCall). masked_by m z) d_is ∙ x_is in
      subst (λ (z : KeyedCall). Contains (map (rest_of next) more) z) y_is (Contains-map (rest_of next) more d d_in);
  distinct = AllPairs-map (λ x y. x.inv ≢ y.inv) (masked_by m) order is.distinct;
  precedence = AllPairs-map (λ x y. precedes y x ≡ false) (masked_by m) order is.precedence;
  complete = λ y y_in completed.
      let (d, d_in, d_is) = Contains-from_map (rest_of next) more y y_in in
      let ended : is_completed (rest_of w d) ≡ true = subst (λ (z : KeyedCall). is_completed z ≡ true) (sym d_is) completed in
      let in_order : Contains order (rest_of w d) = is.complete (rest_of w d) (Contains-map (rest_of w) more d d_in) ended in
      subst (λ (z : KeyedCall). Contains (map (masked_by m) order) z) (rest_masked w next m d taken ∙ d_is)
      (Contains-map (masked_by m) order (rest_of w d) in_order);
  fit = fit;
}

-- calls fit as they did, one after another, if those that have more taken are quiet at a key
pub quiet_masked : (m : ℕ → ℕ → Bool) (key : ℕ) (xs : List KeyedCall) (value : Option ℕ)
    → ((x : KeyedCall) → Contains xs x → (m x.inv key ≡ false) ⊎ IsQuiet x key) → FitInTurn key value xs
    → FitInTurn key value (map (masked_by m) xs)
quiet_masked m key [] value quiet fit = tt
quiet_masked m key (x ∷ xs) value quiet fit =
    by_name (bool_cases (m x.inv key))
    (quiet_masked m key xs ((x.effect key).leaves value) (λ y y_in. quiet y (Contains-later x xs y y_in)) fit.1)
  where
    by_name : (m x.inv key ≡ true) ⊎ (m x.inv key ≡ false) → FitInTurn key ((x.effect key).leaves value) (map (masked_by m) xs)
        → FitInTurn key value (map (masked_by m) (x ∷ xs))
    by_name (inr out) rest = rw out (fit.0, rest)
    by_name (inl named) rest =
        ⊎_elim
        (λ out. let never : m x.inv key ≡ false = out in cc)
        (λ still. rw named (refl, subst (λ (v : Option ℕ). FitInTurn key v (map (masked_by m) xs)) (still value fit.0) rest))
        (quiet x (Contains-first x xs))

-- the first that has an effect at a key is taken: the others go on from what it leaves
pub first_masked : (m : ℕ → ℕ → Bool) (key : ℕ) (front : List KeyedCall) (x : KeyedCall) (back : List KeyedCall) (value : Option ℕ)
    → ((y : KeyedCall) → Contains front y → IsNoEffect (y.effect key)) → IsNoEffect ((masked_by m x).effect key)
    → ((y : KeyedCall) → Contains back y → m y.inv key ≡ false) → FitInTurn key value (front ++ x ∷ back)
    → ((x.effect key).fits value ≡ true) × FitInTurn key ((x.effect key).leaves value) (map (masked_by m) (front ++ x ∷ back))
first_masked m key [] x back value none taken out fit = (
  fit.0,
  (
    taken.fits ((x.effect key).leaves value),
    subst (λ (v : Option ℕ). FitInTurn key v (map (masked_by m) back)) (sym (taken.leaves ((x.effect key).leaves value)))
        (quiet_masked m key back ((x.effect key).leaves value) (λ y y_in. inl (out y y_in)) fit.1),
  ),
)
first_masked m key (y ∷ front) x back value none taken out fit =
    let here : IsNoEffect (y.effect key) = none y (Contains-first y front) in
    let hidden : IsNoEffect (cond (m y.inv key) no_effect (y.effect key)) = none_or (m y.inv key) (y.effect key) here in
    let (fits, rest) = first_masked m key front x back value (λ z z_in. none z (Contains-later y front z z_in)) taken out
    (subst (λ (v : Option ℕ). FitInTurn key v (front ++ x ∷ back)) (here.leaves value) fit.1) in (
      fits,
      (
        hidden.fits ((x.effect key).leaves value),
        subst (λ (v : Option ℕ). FitInTurn key v (map (masked_by m) (front ++ x ∷ back))) (sym (hidden.leaves ((x.effect key).leaves value))) rest,
      ),
    )
