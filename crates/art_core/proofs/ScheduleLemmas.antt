-- What is computed of a schedule is what its items name.
use Rattle.art_core.proofs.Common.{◌≡◌, ℕ, zero, suc, ◌+◌, Bool, true, false, List, [], ◌∷◌, refl, sym, ap, subst, ◌∙◌, arith, eq-eqb, none-some}
use Rattle.art_core.proofs.Common.{slice_get, Point, Item, Process, Plan, State, step, process_of_item, WantsTurn, AreMade, IsMadeWhole}
use Rattle.std.proofs.Common.{not, ◌||◌, Option, Some, None, eqb-true}
use Rattle.std.proofs.lemmas.Bool.{not-false, not-true, or_parts, true≢false}
use Rattle.std.specs.Prelude.{if◌then◌else◌}
use Rattle.art_rows.specs.declared.access.Point.TheVariants as point
use Rattle.art_core.specs.declared.item.Item.TheVariants.{Turns, End, Until}
use Rattle.art_core.specs.NamedTurns.{next_point, finished_count}
use Rattle.art_core.specs.Schedules.{Refusal, Run, turn_with, turn, if_refused, unless_refused, turns_made, turns_until, point_number, is_at}
use Rattle.art_core.specs.Schedules.{has_finished, made, items_made, begun_run}
use Rattle.art_core.specs.Laws.{HasComputed, SchedulesCompute}
use Rattle.art_core.proofs.NamedTurnLemmas.{made-none, made-more}

-- a turn that was not refused
record IsTurn (plan : Plan) (r : Run) (p : ℕ) (after : Run) : Type 0 where
  steps : step plan r.state p ≡ Some after.state
  costs : after.left + 1 ≡ r.left

turn-with-ok : (r : Run) (left : ℕ) (o : Option Process) (next : Option State) → (turn_with r left o next).refused ≡ None
    → (next ≡ Some (turn_with r left o next).state) × ((turn_with r left o next).left + 1 ≡ left)
turn-with-ok r left None next h = absurd (none-some _ (sym h))
turn-with-ok r left (Some q) None h = absurd (none-some _ (sym h))
turn-with-ok r zero (Some q) (Some s) h = absurd (none-some _ (sym h))
turn-with-ok r (suc left) (Some q) (Some s) h = (refl, omega arith)

turn-ok : (plan : Plan) (r : Run) (p : ℕ) → (turn plan r p).refused ≡ None → IsTurn plan r p (turn plan r p)
turn-ok plan r p h =
    let t = turn-with-ok r r.left (slice_get r.state.processes p) (step plan r.state p) h in
    record { steps = t.0; costs = t.1 }

unless-ok : (r : Run) (f : Run → Run) → (unless_refused r f).refused ≡ None → (r.refused ≡ None) × (unless_refused r f ≡ f r)
unless-ok r f h = go r.refused refl h
  where
    go : (o : Option Refusal) → r.refused ≡ o → (if_refused o r f).refused ≡ None → (r.refused ≡ None) × (if_refused r.refused r f ≡ f r)
    go None e k = (e, ap (λ o. if_refused o r f) e)
    go (Some x) e k = absurd (none-some _ (sym k ∙ e))

-- One item.

record IsComputed (plan : Plan) (item : Item) (first : State) (left : ℕ) (r : Run) : Type 0 where
  made : ℕ
  turns : IsMadeWhole plan item first made r.state
  costs : r.left + made ≡ left

module _ (plan : Plan) (p count : ℕ) (first : State) where
  counted : (n k : ℕ) (r : Run) → AreMade plan (Turns p count) first k r.state → k + n ≡ count → (turns_made plan p n r).refused ≡ None
      → IsComputed plan (Turns p count) first (r.left + k) (turns_made plan p n r)
  counted zero k r h all ok = record {
    made = k;
    turns = record { turns = h; over = λ less. absurd (omega arith) };
    costs = refl;
  }
  counted (suc n) k r h all ok =
      let u = unless-ok (turn plan r p) (turns_made plan p n) ok in
      let t = turn-ok plan r p u.0 in
      let more = made-more plan (Turns p count) first k r.state (turn plan r p).state h (omega arith) t.steps in
      let rest = counted n (k + 1) (turn plan r p) more (omega arith) (sym (ap (λ r. r.refused) u.1) ∙ ok) in
      let costs = t.costs in
      subst (λ q. IsComputed plan (Turns p count) first (r.left + k) q) (sym u.1)
      (record { made = rest.made; turns = rest.turns; costs = rest.costs ∙ omega arith })

module _ (plan : Plan) (item : Item) (first : State) (stop : State → Bool)
    (goes : (s : State) (n : ℕ) → stop s ≡ false → WantsTurn plan item first n s)
    (ends : (s : State) (n : ℕ) → stop s ≡ true → WantsTurn plan item first n s → ⊥) where
  abbrev own : ℕ
  own = process_of_item item

  until : (left k : ℕ) (r : Run) → r.left ≡ left → AreMade plan item first k r.state → (turns_until plan own stop left r).refused ≡ None
      → IsComputed plan item first (r.left + k) (turns_until plan own stop left r)
  until zero k r none h ok = go (stop r.state) refl ok
    where
      go : (b : Bool) → stop r.state ≡ b → (if b then r else turn plan r own).refused ≡ None
          → IsComputed plan item first (r.left + k) (if b then r else turn plan r own)
      go true e g = record { made = k; turns = record { turns = h; over = ends r.state k e }; costs = refl }
      go false e g = let costs = (turn-ok plan r own g).costs in absurd (omega arith)
  until (suc left) k r some h ok = go (stop r.state) refl (until left (k + 1) (turn plan r own)) ok
    where
      go : (b : Bool) → stop r.state ≡ b
          → ((turn plan r own).left ≡ left → AreMade plan item first (k + 1) (turn plan r own).state
          → (turns_until plan own stop left (turn plan r own)).refused ≡ None
          → IsComputed plan item first ((turn plan r own).left + (k + 1)) (turns_until plan own stop left (turn plan r own)))
          → (if b then r else unless_refused (turn plan r own) (turns_until plan own stop left)).refused ≡ None
          → IsComputed plan item first (r.left + k) (if b then r else unless_refused (turn plan r own) (turns_until plan own stop left))
      go true e later g = record { made = k; turns = record { turns = h; over = ends r.state k e }; costs = refl }
      go false e later g =
          let u = unless-ok (turn plan r own) (turns_until plan own stop left) g in
          let t = turn-ok plan r own u.0 in
          let costs = t.costs in
          let more = made-more plan item first k r.state (turn plan r own).state h (goes r.state k e) t.steps in
          let rest = later (omega arith) more (sym (ap (λ r. r.refused) u.1) ∙ g) in
          subst (λ q. IsComputed plan item first (r.left + k) q) (sym u.1)
          (record { made = rest.made; turns = rest.turns; costs = rest.costs ∙ omega arith })

or-true : (a b : Bool) → (a || b) ≡ true → a ≡ false → b ≡ true
or-true true b h k = cc
or-true false b h k = h

point-at : ℕ → Point
point-at zero = point.Child
point-at (suc zero) = point.Check
point-at (suc (suc zero)) = point.LockRoot
point-at (suc (suc (suc zero))) = point.LockRow
point-at (suc (suc (suc (suc zero)))) = point.Unlock
point-at (suc (suc (suc (suc (suc n))))) = point.Answer

unfolded : (a : Point) → point-at (point_number a) ≡ a
unfolding point-at
unfolded point.Child = refl
unfolded point.Check = refl
unfolded point.LockRoot = refl
unfolded point.LockRow = refl
unfolded point.Unlock = refl
unfolded point.Answer = refl

at-yes : (q : Point) (o : Option Point) → is_at q o ≡ true → o ≡ Some q
at-yes q None h = cc
at-yes q (Some a) h = ap Some (sym (unfolded a) ∙ (ap point-at (sym (eqb-true (point_number q) (point_number a) h)) ∙ unfolded q))

at-no : (q : Point) (o : Option Point) → is_at q o ≡ false → o ≡ Some q → ⊥
at-no q o h e = true≢false (sym (ap (is_at q) e ∙ eq-eqb (point_number q) (point_number q) refl) ∙ h)

one-item : (plan : Plan) (item : Item) (r : Run) → (made plan item r).refused ≡ None
    → IsComputed plan item r.state r.left (made plan item r)
one-item plan (Turns p count) r ok =
    let c = counted plan p count r.state count 0 r (made-none plan (Turns p count) r.state) (omega arith) ok in
    record { made = c.made; turns = c.turns; costs = c.costs ∙ omega arith }
one-item plan (End p) r ok =
    let f = finished_count (slice_get r.state.processes p) in
    let c = until plan (End p) r.state (has_finished p f)
    (λ s n h. eqb-true (finished_count (slice_get s.processes p)) f (not-false _ h))
    (λ s n h k. true≢false (sym (eq-eqb (finished_count (slice_get s.processes p)) f k) ∙ not-true _ h))
    r.left 0 r refl (made-none plan (End p) r.state) ok in
    record { made = c.made; turns = c.turns; costs = c.costs ∙ omega arith }
one-item plan (Until p q) r ok =
    let f = finished_count (slice_get r.state.processes p) in
    let c = until plan (Until p q) r.state (λ s. has_finished p f s || is_at q (next_point plan (slice_get s.processes p)))
    (λ s n h.
    let b = or_parts (has_finished p f s) (is_at q (next_point plan (slice_get s.processes p))) h in
    (eqb-true (finished_count (slice_get s.processes p)) f (not-false _ b.0), at-no q (next_point plan (slice_get s.processes p)) b.1))
    (λ s n h k.
    k.1 (at-yes q (next_point plan (slice_get s.processes p))
    (or-true (has_finished p f s) (is_at q (next_point plan (slice_get s.processes p))) h
    (ap not (eq-eqb (finished_count (slice_get s.processes p)) f k.0)))))
    r.left 0 r refl (made-none plan (Until p q) r.state) ok in
    record { made = c.made; turns = c.turns; costs = c.costs ∙ omega arith }

all-items : (plan : Plan) (items : List Item) (r : Run) → (items_made plan items r).refused ≡ None
    → HasComputed plan items r.state r.left (items_made plan items r)
all-items plan [] r ok = record { made = 0; turns = (refl, refl); costs = omega arith }
all-items plan (item ∷ items) r ok =
    let u = unless-ok (made plan item r) (items_made plan items) ok in
    let here = one-item plan item r u.0 in
    let later = all-items plan items (made plan item r) (sym (ap (λ r. r.refused) u.1) ∙ ok) in
    subst (λ q. HasComputed plan (item ∷ items) r.state r.left q) (sym u.1)
    (record {
      made = here.made + later.made;
      turns = (here.made, later.made, (made plan item r).state, here.turns, later.turns, refl);
      costs = let a = here.costs in let b = later.costs in omega arith;
    })

pub computes : SchedulesCompute
computes plan items first left ok = all-items plan items (begun_run first left) ok
