-- A turn of a machine is a step of the state that it shows.
use Rattle.machine.proofs.Common.{◌≡◌, ℕ, zero, suc, ◌+◌, ◌<◌, List, [], ◌∷◌, ◌++◌, arith, length, refl, ap, sym, subst, ◌∙◌, Option, Some, None}
use Rattle.machine.proofs.Common.{is_some, slice_get, slice_index, slice_set, IsSome, IsSomeAnd, length-set, slice_get_within, none-some, same_Some}
use Rattle.machine.proofs.Common.{∥∥₁_elim, ∥∥₁_map, props, slice_get-below, Call, Contents, Shape, Variant, Process, Plan, State, begun, opened_on}
use Rattle.machine.proofs.Common.{next_in, next_move, invocation, move_from, step, step_of, moved_by, moved, after_move, word_of_move, one-step}
use Rattle.machine.proofs.Common.{Runner, Idle, Going, Answered, FitsDoing, IsFor, FitsProcess, ShowsState, Moves, AreFor, HasMove, IsUnderWay}
use Rattle.machine.proofs.Common.{HasNothingToDo}
use Rattle.art_rows.specs.Table.{IsWithinLimits}
use Rattle.art_core.specs.Runs.{run_on}
use Rattle.art_core.proofs.RunLemmas.{run-on-append}
use Rattle.art.specs.declared.doing.Doing.{Doing}

-- what holds at each place of a list still holds where one item is changed for one of which it holds
pub item-set : {A : Type 0} (R : ℕ → A → Type 0) (xs : List A) (p : ℕ) (x : A) → R p x → ((i : ℕ) (a : A) → slice_get xs i ≡ Some a → R i a)
    → (i : ℕ) (a : A) → slice_get (slice_set xs p x) i ≡ Some a → R i a
item-set R [] p x h old i a e = absurd (none-some _ e)
item-set R (u ∷ xs) zero x h old zero a e = subst (R zero) (same_Some _ _ e) h
item-set R (u ∷ xs) zero x h old (suc i) a e = old (suc i) a e
item-set R (u ∷ xs) (suc p) x h old zero a e = old zero a e
item-set R (u ∷ xs) (suc p) x h old (suc i) a e = item-set (λ j. R (suc j)) xs p x h (λ j. old (suc j)) i a e

-- what holds of two lists place by place still holds if one item is changed for one of which it
-- holds
pub items-set : {A B : Type 0} (R : ℕ → A → B → Type 0) (xs : List A) (ys : List B) (p : ℕ) (x : A) (y : B) → R p x y
    → ((i : ℕ) (a : A) (b : B) → slice_get xs i ≡ Some a → slice_get ys i ≡ Some b → R i a b)
    → (i : ℕ) (a : A) (b : B) → slice_get (slice_set xs p x) i ≡ Some a → slice_get (slice_set ys p y) i ≡ Some b → R i a b
items-set R [] ys p x y h old i a b e f = absurd (none-some _ e)
items-set R (u ∷ xs) [] p x y h old i a b e f = absurd (none-some _ f)
items-set R (u ∷ xs) (v ∷ ys) zero x y h old zero a b e f =
    subst (λ a. R zero a b) (same_Some _ _ e) (subst (λ b. R zero x b) (same_Some _ _ f) h)
items-set R (u ∷ xs) (v ∷ ys) zero x y h old (suc i) a b e f = old (suc i) a b e f
items-set R (u ∷ xs) (v ∷ ys) (suc p) x y h old zero a b e f = old zero a b e f
items-set R (u ∷ xs) (v ∷ ys) (suc p) x y h old (suc i) a b e f = items-set (λ j. R (suc j)) xs ys p x y h (λ j. old (suc j)) i a b e f

IsFor-prop : (shape : Shape) (doing : Doing) → IsProp (IsFor shape doing)
IsFor-prop shape Idle = Prim.hlevel props
IsFor-prop shape (Going o) = Prim.hlevel props
IsFor-prop shape (Answered r) = Prim.hlevel props

pub is-for : (shape : Shape) (runners : List Runner) (p : ℕ) (r : Runner) → ∥ AreFor shape runners ∥₁ → slice_get runners p ≡ Some r
    → IsFor shape r.doing
is-for shape runners p r are e = ∥∥₁_elim are (IsFor-prop shape r.doing) (λ (f : AreFor shape runners). f p r e)

pub are-for : (shape : Shape) (runners : List Runner) (p : ℕ) (r : Runner) → ∥ AreFor shape runners ∥₁ → IsFor shape r.doing
    → ∥ AreFor shape (slice_set runners p r) ∥₁
are-for shape runners p r are h = ∥∥₁_map are (λ (f : AreFor shape runners). item-set (λ i a. IsFor shape a.doing) runners p r h f)

-- the state after the step, and that it is shown
pub record Stepped (plan : Plan) (its_shape : Shape) (its_variant : Variant) (s : State) (p : ℕ) (new : List ℕ)
    (runners : List Runner) : Type 0 where
  pub next : State
  pub is : step plan s p ≡ Some next
  pub shows : ShowsState plan its_shape its_variant new runners next

pub some-and : {A : Type 0} (P : A → Type 0) (o : Option A) (x : A) → o ≡ Some x → P x → IsSomeAnd o P
some-and P o x e h = subst (λ o. IsSomeAnd o P) (sym e) h

module _ (shape : Shape) (variant : Variant) (old : List ℕ) (runners : List Runner) (p : ℕ) (r : Runner)
    (here : slice_get runners p ≡ Some r) where
  -- the process that fits the runner
  pub process-at : (plan : Plan) (s : State) → ShowsState plan shape variant old runners s
      → (q : Process) × (slice_get s.processes p ≡ Some q) × FitsProcess plan p r q
  process-at plan s shows =
      let x = slice_get-below s.processes p (subst (λ n. p < n) (sym shows.many) (slice_get_within runners p r here)) in
      (x.0, x.1, shows.fits p r x.0 here x.1)

  pub steps : (plan : Plan) (s : State) (new : List ℕ) (r2 : Runner) → ShowsState plan shape variant old runners s
      → ((q : Process) → FitsProcess plan p r q → Moves plan p q old new r2) → Stepped plan shape variant s p new (slice_set runners p r2)
  unfolding step
  steps plan s new r2 shows moves =
      let x = process-at plan s shows in
      let m = subst (λ w. Moves plan p x.0 w new r2) (sym shows.words) (moves x.0 x.2) in
      record {
        next = moved s p x.0 m.move;
        is = ap (step_of plan s p) x.1 ∙ ap (moved_by s p x.0) m.is_next;
        shows = record {
          shape = shows.shape;
          variant = shows.variant;
          words = sym m.words;
          many = length-set s.processes p _ ∙ (shows.many ∙ sym (length-set runners p r2));
          fits = items-set (λ i a b. FitsProcess plan i a b) runners s.processes p r2
              (after_move p m.move (slice_index s.words (word_of_move m.move)) x.0) m.fits shows.fits;
        };
      }

  -- after a refused step nothing is otherwise
  pub refits : (plan : Plan) (s : State) (new : List ℕ) (r2 : Runner) → ShowsState plan shape variant old runners s
      → ((q : Process) → FitsProcess plan p r q → (new ≡ old) × FitsProcess plan p r2 q)
      → ShowsState plan shape variant new (slice_set runners p r2) s
  refits plan s new r2 shows kept =
      let x = process-at plan s shows in
      record {
        shape = shows.shape;
        variant = shows.variant;
        words = shows.words ∙ sym (kept x.0 x.2).0;
        many = shows.many ∙ sym (length-set runners p r2);
        fits = λ i a q e f. item-set (λ i a. (q : Process) → slice_get s.processes i ≡ Some q → FitsProcess plan i a q) runners p r2
            (λ q f. (kept q (shows.fits p r q here f)).1) (λ i a e q f. shows.fits i a q e f) i a e q f;
      }

  -- a machine is under way after a step, and after a refused one
  pub under-way-steps : (start : Contents) (left fewer : ℕ) (new : List ℕ) (r2 : Runner) → fewer + 1 ≡ left
      → ((plan : Plan) (q : Process) → plan.shape ≡ shape → plan.variant ≡ variant → FitsProcess plan p r q → Moves plan p q old new r2)
      → ∥ IsUnderWay shape variant start left old runners ∥₁ → ∥ IsUnderWay shape variant start fewer new (slice_set runners p r2) ∥₁
  under-way-steps start left fewer new r2 one moves = λ is. ∥∥₁_map is (λ (u : IsUnderWay shape variant start left old runners).
      let st = steps u.plan u.state new r2 u.shows (λ q f. moves u.plan q u.shows.shape u.shows.variant f) in
      record {
        plan = u.plan;
        first = u.first;
        schedule = u.schedule ++ p ∷ [];
        state = st.next;
        within = u.within;
        start_within = u.start_within;
        starts = u.starts;
        gives = run-on-append u.plan (Some (opened_on u.plan u.first)) u.schedule (p ∷ [])
            ∙ (ap (λ o. run_on u.plan o (p ∷ [])) u.gives ∙ ap (λ o. run_on u.plan o []) st.is);
        few = let more = one-step u.plan u.state p st.next st.is in let was = u.few in omega (arith, more, was, one);
        shows = st.shows;
      })

  pub under-way-kept : (start : Contents) (left : ℕ) (new : List ℕ) (r2 : Runner)
      → ((plan : Plan) (q : Process) → plan.shape ≡ shape → plan.variant ≡ variant → FitsProcess plan p r q → (new ≡ old)
      × FitsProcess plan p r2 q)
      → ∥ IsUnderWay shape variant start left old runners ∥₁ → ∥ IsUnderWay shape variant start left new (slice_set runners p r2) ∥₁
  under-way-kept start left new r2 kept = λ is. ∥∥₁_map is (λ (u : IsUnderWay shape variant start left old runners).
      record {
        plan = u.plan;
        first = u.first;
        schedule = u.schedule;
        state = u.state;
        within = u.within;
        start_within = u.start_within;
        starts = u.starts;
        gives = u.gives;
        few = u.few;
        shows = refits u.plan u.state new r2 u.shows (λ q f. kept u.plan q u.shows.shape u.shows.variant f);
      })

  -- the table is within the limits
  pub within-limits : (start : Contents) (left : ℕ) → ∥ IsUnderWay shape variant start left old runners ∥₁ → IsWithinLimits shape
  within-limits start left is = ∥∥₁_elim is (Prim.hlevel props) (λ (u : IsUnderWay shape variant start left old runners).
      subst IsWithinLimits u.shows.shape u.within.shape)

  -- whether the process has a next move
  pub no-move : (plan : Plan) (s : State) → ShowsState plan shape variant old runners s → HasNothingToDo r
      → IsSomeAnd (slice_get s.processes p) (λ q. next_move plan p q ≡ None)
  no-move plan s shows h =
      let x = process-at plan s shows in
      let none : x.0.call ≡ None = subst (λ doing. FitsDoing plan.shape plan.variant doing x.0.call x.0.got) h.idle x.2.doing in
      some-and (λ q. next_move plan p q ≡ None) (slice_get s.processes p) x.0 x.1
      (ap (move_from plan p x.0) none ∙ ap invocation
      (ap (λ o. next_in o (length (begun x.0))) x.2.script ∙ (ap (slice_get r.script.items) x.2.begun ∙ h.over)))

  pub has-move : (plan : Plan) (s : State) → ShowsState plan shape variant old runners s → (HasNothingToDo r → ⊥) → HasMove plan s p
  has-move plan s shows h =
      let x = process-at plan s shows in
      some-and (λ q. IsSome (next_move plan p q)) (slice_get s.processes p) x.0 x.1 (moves x.0 x.2 r.doing refl x.2.doing)
    where
      begins : (plan : Plan) (q : Process) → FitsProcess plan p r q → (o : Option Call)
          → slice_get r.script.items r.begun ≡ o → r.doing ≡ Idle
          → q.call ≡ None → IsSome (move_from plan p q None)
      begins plan q f None e idle none = absurd (h (record { idle = idle; over = e }))
      begins plan q f (Some call) e idle none =
          ap (λ o. is_some (invocation o)) (ap (λ o. next_in o (length (begun q))) f.script ∙ (ap (slice_get r.script.items) f.begun ∙ e))

      goes : (plan : Plan) (q : Process) (c : Call) → q.call ≡ Some c → IsSome (move_from plan p q q.call)
      goes plan q c e = ap (λ o. is_some (move_from plan p q o)) e

      moves : (q : Process) → FitsProcess plan p r q → (doing : Doing) → r.doing ≡ doing
          → FitsDoing plan.shape plan.variant doing q.call q.got
          → IsSome (move_from plan p q q.call)
      moves q f Idle e d = subst (λ o. IsSome (move_from plan p q o)) (sym d) (begins plan q f (slice_get r.script.items r.begun) refl e d)
      moves q f (Going o) e d = goes plan q d.0 d.1
      moves q f (Answered reply) e d = goes plan q d.0 d.1

pub positive : (n : ℕ) → (n ≡ 0 → ⊥) → 0 < n
positive zero h = absurd (h refl)
positive (suc n) h = omega arith
