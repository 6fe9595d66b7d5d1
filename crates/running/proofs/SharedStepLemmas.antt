-- What the table asks of each step: that it keeps the rule.
use Rattle.running.proofs.Common.{◌≡◌, ℕ, ◌+◌, ◌%◌, ◌^◌, ◌<◌, ◌≤◌, inl, inr, Bool, true, false, eqb, List, [], ◌∷◌, length, get_or, set, refl, sym}
use Rattle.running.proofs.Common.{ap, subst, ◌∙◌, arith, IsTrue, Option, Some, None, All, not, is_some, if◌then◌else◌, slice_index, slice_set}
use Rattle.running.proofs.Common.{length-set, set-get_or, All-cons, All-nil, same_Some, none-some, All-at, Step, step, keeps, stepped, Allows, Splits}
use Rattle.running.proofs.Common.{Joins, exchanged, Call, Reply, Stamped, table_words, Access, Store, word_of, Turn, Asks, Answers, act, is_tree_call}
use Rattle.running.proofs.Common.{Process, Move, Invokes, Makes, Responds, word_of_move, new_word, after_move, move_of, MayMove, Setup, View, Noted}
use Rattle.running.proofs.Common.{IsSetup, Numbered, view, open_move, next_in, next_of, moved_first, moved_if, advanced, is_idle, calls_left}
use Rattle.running.proofs.Common.{AllStamps, noted, IsIn, IsGiven, AreReached, Kept, Seated, Notes, MakesNextMove, Draws, with_asked, InvokesAsked}
use Rattle.running.proofs.Common.{kept_part, given_part, both_parts, no_part}
use mathlib.Core.Option.{some, some-injective}
use lib.ListN.{get_elem?}
use prog.Atomic.{either}
use Rattle.art_rows.proofs.AccessLemmas.{act-stays}
use Rattle.running.proofs.GivenLemmas.{MayBegin, given-move, given-clocked}
use Rattle.running.proofs.ReachedLemmas.{reached-noted, reached-split, reached-join, reached-step, first-there}

pub all-has : (P : Numbered → Type 0) (l : List Numbered) → ((x : Numbered) → IsIn x l → P x) → All P l
all-has P [] each = All-nil P
all-has P (x ∷ xs) each = All-cons P x xs (each x (inl refl)) (all-has P xs (λ y h. each y (inr h)))

-- The first process of a view, where it has a move to make.
pub record HasFirst (v : View) (m : Move) : Type 0 where
  pub p : ℕ
  pub q : Process
  pub others : List Numbered
  pub is : v.processes ≡ (p, q) ∷ others
  pub may : MayMove v.setup.shape v.setup.variant q q.call m
  pub fits : MayBegin v.setup q m

-- the next move is one of the process's open call
module _ (setup : Setup) (m : Move) where
  open-first : (processes : List Numbered) → ((call : Call) → m ≡ Invokes call → ⊥) → next_in setup processes ≡ Some m
      → HasFirst (view setup processes) m
  open-first [] open-call next = absurd (none-some m next)
  open-first ((p, q) ∷ others) open-call next = record {
    p = p;
    q = q;
    others = others;
    is = refl;
    may = go q.call refl next;
    fits = begins m open-call;
  }
    where
      go : (o : Option Call) → q.call ≡ o → open_move setup q.got o ≡ Some m → MayMove setup.shape setup.variant q q.call m
      go None e k = absurd (none-some m k)
      go (Some call) e k = subst (λ o. MayMove setup.shape setup.variant q o m) (sym e)
          (sym (same_Some (move_of (act setup.shape setup.variant call q.got)) m k))

      begins : (m : Move) → ((call : Call) → m ≡ Invokes call → ⊥) → MayBegin setup q m
      begins (Invokes call) open-call = absurd (open-call call refl)
      begins (Makes a) open-call = tt
      begins (Responds reply) open-call = tt

makes-first : (v : View) (a : Access) → next_of v ≡ Some (Makes a) → HasFirst v (Makes a)
makes-first v a next = open-first v.setup (Makes a) v.processes (λ call e. cc) next

responds-first : (v : View) (reply : Reply) → next_of v ≡ Some (Responds reply) → HasFirst v (Responds reply)
responds-first v reply next = open-first v.setup (Responds reply) v.processes (λ call e. cc) next

-- the next move invokes the process's next call
idle-first : (setup : Setup) (call : Call) (processes : List Numbered) → IsTrue (is_tree_call call)
    → IsTrue (is_idle (view setup processes))
    → 0 < calls_left (view setup processes) → HasFirst (view setup processes) (Invokes call)
idle-first setup call [] tree idle left = absurd (omega arith)
idle-first setup call ((p, q) ∷ others) tree idle left = record {
  p = p;
  q = q;
  others = others;
  is = refl;
  may = go q.call refl idle;
  fits = (omega arith, tree);
}
  where
    go : (o : Option Call) → q.call ≡ o → IsTrue (not (is_some o)) → MayMove setup.shape setup.variant q q.call (Invokes call)
    go None e k = subst (λ o. MayMove setup.shape setup.variant q o (Invokes call)) (sym e) (call, refl)
    go (Some other) e k = absurd (no k)
      where
        no : IsTrue false → ⊥
        no x = cc

-- an access is in the table
abbrev pub IsInside : Setup → Move → Type 0
IsInside setup (Makes a) = (0 < word_of a) × (word_of a < table_words setup.shape)
IsInside setup m = Unit {0}

inside-in : (setup : Setup) (m : Move) → 1 ≤ setup.shape.rows256 → (processes : List Numbered) → next_in setup processes ≡ Some m
    → IsInside setup m
inside-in setup m root [] next = absurd (none-some m next)
inside-in setup m root ((p, q) ∷ others) next = go q.call next
  where
    turns : (call : Call) (t : Turn) → act setup.shape setup.variant call q.got ≡ t → ◌≡◌ {A = Option Move} (Some (move_of t)) (Some m)
        → IsInside setup m
    turns call (Asks a point) e k = subst (IsInside setup) (same_Some (Makes a) m k) (act-stays setup.shape setup.variant call
        root q.got a point e)
    turns call (Answers reply) e k = subst (IsInside setup) (same_Some (Responds reply) m k) tt

    go : (o : Option Call) → open_move setup q.got o ≡ Some m → IsInside setup m
    go None k = absurd (none-some m k)
    go (Some call) k = turns call (act setup.shape setup.variant call q.got) refl k

pub access-inside : (setup : Setup) → IsSetup setup → (v : View) → v.setup ≡ setup → (a : Access) → next_of v ≡ Some (Makes a)
    → {n : ℕ} → n ≡ table_words setup.shape → word_of a < n
access-inside setup limits v same a next words =
    let root : 1 ≤ v.setup.shape.rows256 = subst (λ z. 1 ≤ z.shape.rows256) (sym same) limits.shape.root in
    let here : word_of a < table_words setup.shape =
    subst (λ z. word_of a < table_words z.shape) same (inside-in v.setup (Makes a) root v.processes next).1 in
    subst (λ k. word_of a < k) (sym words) here

pub either-if : (b : Bool) (x y : ℕ) → either b x y ≡ (if b then x else y)
either-if true x y = refl
either-if false x y = refl

pub advanced-by : (v : View) (m : Move) (first : HasFirst v m) → next_of v ≡ Some m → (n : ℕ)
    → advanced v n ≡ view v.setup ((first.p, after_move first.p m n first.q) ∷ first.others)
advanced-by v m first next n =
    ap (λ o. view v.setup (moved_if o n v.processes)) next ∙ ap (λ l. view v.setup (moved_if (Some m) n l)) first.is

-- the call that stores learns nothing of the word
pub store-blind : (v : View) (word value : ℕ) → next_of v ≡ Some (Makes (Store word value)) → (n m : ℕ) → advanced v n ≡ advanced v m
store-blind v word value next n m =
    let first = makes-first v (Store word value) next in
    advanced-by v (Makes (Store word value)) first next n ∙ sym (advanced-by v (Makes (Store word value)) first next m)

module _ (setup : Setup) (limits : IsSetup setup) (slots id : ℕ) (me : Seated) (same : me.0.view.setup ≡ setup) where
  stamps-below : (words : List ℕ) (views : List Noted) → AreReached setup words views → get_elem? views id ≡ some me.0
      → AllStamps (λ stamp. stamp < slice_index words 0) me.0.view
  stamps-below words views r at =
      all-has (λ x. All (λ (e : Stamped). e.0 < slice_index words 0) x.1.log) me.0.view.processes
      (λ x h. All-at (λ q. All (λ (e : Stamped). e.0 < slice_index words 0) q.log) r.processes x.0 x.1
      (given-clocked setup limits words r.processes r.given).stamps (r.shows id me.0 at x.0 x.1 h).1)

  module _ (m : Move) (first : HasFirst me.0.view m) (later : Option Call) (f : ℕ → ℕ) (alike : (n : ℕ) → f n ≡ new_word m n) where
    abbrev pub new : ℕ → Noted
    new n = noted (view setup ((first.p, after_move first.p m n first.q) ∷ first.others)) later

    old-is : me.0 ≡ noted (view setup ((first.p, first.q) ∷ first.others)) me.0.asked
    old-is = ap (λ s. noted (view s me.0.view.processes) me.0.asked) same ∙ ap (λ l. noted (view setup l) me.0.asked) first.is

    -- any step of the first process
    pub steps : (Tells : ℕ → Seated → Type 0)
        → ((n : ℕ) → (word_of_move m ≡ 0 → AllStamps (λ stamp. stamp < n) me.0.view) → Tells n (new n, me.1))
        → Allows (Kept setup) slots id me (word_of_move m) f Tells
    steps Tells tells s r _ at _ =
        let i = word_of_move m in
        let n = get_or s.words i 0 in
        let q' = after_move first.p m n first.q in
        let here = at ∙ ap some old-is in
        let procs = r.1.processes in
        let may = subst (λ z. MayMove z.shape z.variant first.q first.q.call m) same first.may in
        let fits = subst (λ z. MayBegin z first.q m) same first.fits in
        let there = first-there setup s.words (set s.words i (f n)) s.views r.1 id me.0.asked later first.p first.q q' first.others here in
        let given : IsGiven setup (set s.words i (f n)) (slice_set procs first.p q') =
        subst (λ x. IsGiven setup (set s.words i x) (slice_set procs first.p q')) (sym (alike n))
        (given-move setup s.words procs first.p first.q m r.1.given there may fits) in (
          new n,
          keeps,
          tt,
          (
            length-set s.words i (f n) ∙ r.0,
            reached-step setup s.words (set s.words i (f n)) s.views r.1 id me.0.asked later first.p first.q q' first.others here given,
          ),
          tells n (λ clock. subst (λ k. AllStamps (λ stamp. stamp < get_or s.words k 0) me.0.view) (sym clock)
              (stamps-below s.words s.views r.1 at)),
        )

  -- an access that finds n, and returns it
  pub access-allowed : (a : Access) (next : next_of me.0.view ≡ Some (Makes a)) (f : ℕ → ℕ) → ((n : ℕ) → f n ≡ new_word (Makes a) n)
      → (st : Step Call)
      → Allows (Kept setup) slots id me (word_of a) f (MakesNextMove st me)
  access-allowed a next f alike st =
      let first = makes-first me.0.view a next in
      steps (Makes a) first me.0.asked f alike (MakesNextMove st me)
      (λ n stamps. (
        refl,
        ap (λ z. view z ((first.p, after_move first.p (Makes a) n first.q) ∷ first.others)) (sym same)
            ∙ sym (advanced-by me.0.view (Makes a) first next n),
      ))

  -- a store, which does not read the word
  pub store-allowed : (word value : ℕ) (next : next_of me.0.view ≡ Some (Makes (Store word value))) (st : Step Call)
      → Allows (Kept setup) slots id me word (λ _. value) (λ _. MakesNextMove st me value)
  store-allowed word value next st =
      let first = makes-first me.0.view (Store word value) next in
      steps (Makes (Store word value)) first me.0.asked (λ _. value) (λ n. refl) (λ _. MakesNextMove st me value)
      (λ n stamps. (
        refl,
        ap (λ z. view z ((first.p, after_move first.p (Makes (Store word value)) n first.q) ∷ first.others)) (sym same)
            ∙ sym (advanced-by me.0.view (Makes (Store word value)) first next value),
      ))

  -- the stamp of a response
  pub response-allowed : (reply : Reply) (next : next_of me.0.view ≡ Some (Responds reply)) (st : Step Call)
      → Allows (Kept setup) slots id me 0 (λ n. (n + 1) % 2 ^ 64) (Draws st me)
  response-allowed reply next st =
      let first = responds-first me.0.view reply next in
      steps (Responds reply) first me.0.asked (λ n. (n + 1) % 2 ^ 64) (λ n. refl) (Draws st me)
      (λ n stamps. (
        (
          refl,
          ap (λ z. view z ((first.p, after_move first.p (Responds reply) n first.q) ∷ first.others)) (sym same)
              ∙ sym (advanced-by me.0.view (Responds reply) first next n),
        ),
        stamps refl,
      ))

  -- the stamp of the invocation that was noted
  pub invocation-allowed : (call : Call) → me.0.asked ≡ Some call → IsTrue (is_tree_call call) → IsTrue (is_idle me.0.view)
      → 0 < calls_left me.0.view
      → (st : Step Call) → Allows (Kept setup) slots id me 0 (λ n. (n + 1) % 2 ^ 64) (InvokesAsked st me)
  invocation-allowed call asked tree idle left st =
      let first = idle-first me.0.view.setup call me.0.view.processes tree idle left in
      steps (Invokes call) first me.0.asked (λ n. (n + 1) % 2 ^ 64) (λ n. refl) (InvokesAsked st me)
      (λ n stamps. (
        refl,
        ap (λ z. view z ((first.p, after_move first.p (Invokes call) n first.q) ∷ first.others)) (sym same)
            ∙ (ap (λ l. view me.0.view.setup (moved_first (Invokes call) n l)) (sym first.is)
            ∙ ap (λ o. with_asked o me.0.view n) (sym asked)),
        stamps refl,
      ))

  -- an exchange of the clock for itself, by which a call is noted
  pub note-allowed : (call : Call) → Allows (Kept setup) slots id me 0 (λ n. either (eqb n 0) 0 n) (Notes (step slots 0 0 0 (some call)) me)
  note-allowed call s r _ at _ =
      let n : ℕ = get_or s.words 0 0 in
      let w = noted me.0.view (Some call) in
      let still : set s.words 0 n ≡ s.words = set-get_or s.words 0 0 in
      let kept : Kept setup (stepped s 0 n id me.1 w keeps) =
      subst (λ l. (length l ≡ table_words setup.shape) × AreReached setup l (set s.views id w)) (sym still)
      (r.0, reached-noted setup s.words s.views r.1 id me.0 at (Some call)) in (
        w,
        keeps,
        tt,
        exchanged n 0 0 (λ z. Kept setup (stepped s 0 z id me.1 w keeps))
            (λ e. subst (λ z. Kept setup (stepped s 0 z id me.1 w keeps)) e kept) (λ _. kept),
        (refl, λ c e. ap (λ z. noted me.0.view (Some z)) (some-injective call c e)),
      )

  -- a split and a join
  pub split-allowed : Splits (Kept setup) id me.0 (kept_part me.0) (given_part me.0)
  split-allowed s r at = (r.0, reached-split setup s.words s.views r.1 id me.0 at)

  pub join-allowed : (other : ℕ) (u : Noted) → Joins (Kept setup) id me.0 other u (both_parts me.0 u) no_part
  join-allowed other u s r at apart there = (r.0, reached-join setup s.words s.views r.1 id me.0 at other u same apart there)
