-- The words of every run are below 2^64.
use Rattle.art_schedules.proofs.Common.{◌≡◌, ℕ, ◌^◌, ◌<◌, Bool, true, false, List, [], ◌∷◌, refl, ap, sym, subst, ◌∙◌, inl, inr, arith, ◌==◌}
use Rattle.art_schedules.proofs.trees.Descents.{small_at}
use Rattle.art_schedules.proofs.Common.{IsTrue, slice_get, slice_index, slice_set, All, Option, Some, None, if◌then◌else◌, same_Some, none-some}
use Rattle.art_schedules.proofs.Common.{All-nil, All-cons, All-set, Call, Get, Insert, Remove, Scan, Replace, Contents, Shape, Kind, Four}
use Rattle.art_schedules.proofs.Common.{Sixteen, FortyEight, Full, opening, table_words, info_at, root_base, rows_of, base_of, child_word}
use Rattle.art_schedules.proofs.Common.{leaf_word, row_word, Access, Load, Store, Add, Point, Turn, Asks, Answers, is_tree_call, overwriting}
use Rattle.art_schedules.proofs.Common.{new_leaf, act, word_of, call_turn, call_begun, setting, Process, told, changed, Plan, State, Move}
use Rattle.art_schedules.proofs.Common.{Invokes, Responds, next_call, invocation, after_move, word_of_move, new_word, moved, move_of, move_from}
use Rattle.art_schedules.proofs.Common.{opened, opened_on, step, run_on, start_plan, inserts, IsRun, nowhere, is-moved, changed-at}
use Rattle.art_schedules.proofs.Common.{IsOpen, stage_of}
use Rattle.art_schedules.proofs.versions.RunLemmas.{idle-idle}
use Rattle.art_schedules.proofs.versions.StepLemmas.{after-more, next-turn}
use Rattle.std.specs.Prelude.{replicate}
use Rattle.std.proofs.lemmas.List.Elements.{All-replicate}
use Rattle.art_rows.specs.Table.{IsWithinLimits}
use Rattle.art_rows.specs.declared.access.Access.TheVariants.{Exchange}
use Rattle.art_core.specs.Core.{Makes}
use Rattle.art_schedules.specs.writes.Writes.{AreSmall}
use Rattle.art_schedules.proofs.calm.SmallStageLemmas.{SmallAt, SmallTurn, IsFine, call-after-small, call-turn-small, begun-small}
use Rattle.art_schedules.proofs.calls.ScriptLemmas.{AreTreeCalls, next-tree}

-- Calls that a tree can do.

small-leaf : (key value : ℕ) → key < 2 ^ 32 → value < 2 ^ 30 → leaf_word key value < 2 ^ 64
small-leaf key value h k = omega (arith, h, k)

fine-leaf : (call : Call) → is_tree_call call ≡ true → child_word (new_leaf call) < 2 ^ 64
fine-leaf (Insert key value) tree = small-leaf key value (grind (arith, tree)) (grind (arith, tree))
fine-leaf (Get key) tree = omega arith
fine-leaf (Remove key) tree = omega arith
fine-leaf (Scan low high) tree = omega arith
fine-leaf (Replace key old new) tree = omega arith

fine-over : (call : Call) → is_tree_call call ≡ true → (value word : ℕ) → overwriting call value ≡ Some word → word < 2 ^ 64
fine-over (Insert key new) tree value word e = absurd (none-some word e)
fine-over (Get key) tree value word e = absurd (none-some word e)
fine-over (Scan low high) tree value word e = absurd (none-some word e)
fine-over (Remove key) tree value word e = omega (arith, same_Some 0 word e)
fine-over (Replace key old new) tree value word e = go (value == old) e
  where
    go : (b : Bool) → (if b then Some (leaf_word key new) else None) ≡ Some word → word < 2 ^ 64
    go true f = omega (arith, same_Some (leaf_word key new) word f, small-leaf key new (grind (arith, tree)) (grind (arith, tree)))
    go false f = absurd (none-some word f)

fine-rows : (shape : Shape) → IsWithinLimits shape → (kind : Kind) (number : ℕ) → number < rows_of shape kind
    → row_word (base_of shape kind number) < 2 ^ 64
fine-rows shape limits Four number h = omega (arith, limits.rows4, h)
fine-rows shape limits Sixteen number h = omega (arith, limits.rows4, limits.rows16, h)
fine-rows shape limits FortyEight number h = omega (arith, limits.rows4, limits.rows16, limits.rows48, h)
fine-rows shape limits Full number h = omega (arith, limits.rows4, limits.rows16, limits.rows48, limits.rows256, h)

-- What every state keeps.
record IsSmall (plan : Plan) (s : State) : Type 0 where
  words : AreSmall s.words
  calls : (p : ℕ) (call : Call) (q : Process) → IsOpen s p call q → is_tree_call call ≡ true
  stages : (p : ℕ) (call : Call) (q : Process) → IsOpen s p call q → SmallAt (stage_of plan.variant plan.shape call q)

module _ (plan : Plan) (limits : IsWithinLimits plan.shape) (calls : AreTreeCalls plan.scripts) where
  fine : (call : Call) → is_tree_call call ≡ true → IsFine (setting plan.shape plan.variant call)
  fine call tree = record { leaf = fine-leaf call tree; over = fine-over call tree; rows = fine-rows plan.shape limits }

  module _ (s : State) (h : IsSmall plan s) (p : ℕ) (q : Process) (here : slice_get s.processes p ≡ Some q) where
    abbrev Small : Move → Type 0
    Small m = IsSmall plan (moved s p q m)

    -- the process writes a word of 64 bits, and what its call carries stays below 2^64
    goes-on : (m : Move) → new_word m (slice_index s.words (word_of_move m)) < 2 ^ 64
        → ((call : Call) → (after_move p m (slice_index s.words (word_of_move m)) q).call ≡ Some call
        → (is_tree_call call ≡ true) × SmallAt (stage_of plan.variant plan.shape call
        (after_move p m (slice_index s.words (word_of_move m)) q)))
        → Small m
    goes-on m few own = record {
      words = All-set (λ w. w < 2 ^ 64) s.words (word_of_move m) (new_word m (slice_index s.words (word_of_move m))) few h.words;
      calls = λ r call w o. elim (changed-at s.processes p (after_move p m (slice_index s.words (word_of_move m)) q) r w o.own) [
        | inl t ↦ (own call (ap (λ v. v.call) (sym t.1) ∙ o.is_open)).0
        | inr t ↦ h.calls r call w (record { own = t.1; is_open = o.is_open })
      ];
      stages = λ r call w o. elim (changed-at s.processes p (after_move p m (slice_index s.words (word_of_move m)) q) r w o.own) [
        | inl t ↦ subst (λ v. SmallAt (stage_of plan.variant plan.shape call v)) (sym t.1)
            (own call (ap (λ v. v.call) (sym t.1) ∙ o.is_open)).1
        | inr t ↦ h.stages r call w (record { own = t.1; is_open = o.is_open })
      ];
    }

    changed-small : (a : Access) (mark : Option Point) (n : ℕ) → n < 2 ^ 64 → SmallTurn (Asks a mark) → changed a n < 2 ^ 64
    changed-small (Load word) mark n few s = few
    changed-small (Store word value) mark n few s = s
    changed-small (Exchange word from to) mark n few s = go (n == from)
      where
        go : (b : Bool) → (if b then to else n) < 2 ^ 64
        go true = s
        go false = few
    changed-small (Add word) mark n few s = omega arith

    told-small : (a : Access) (n : ℕ) → n < 2 ^ 64 → told a n < 2 ^ 64
    told-small (Load word) n few = few
    told-small (Store word value) n few = omega arith
    told-small (Exchange word from to) n few = few
    told-small (Add word) n few = few

    one-move : (o : Option Call) (m : Move) → q.call ≡ o → move_from plan p q o ≡ Some m → Small m
    one-move None m e k = begins (next_call plan p q) refl k
      where
        begins : (o : Option Call) → next_call plan p q ≡ o → invocation o ≡ Some m → Small m
        begins None f g = absurd (none-some m g)
        begins (Some call) f g = subst Small (same_Some (Invokes call) m g) (goes-on (Invokes call) (omega arith) (λ other i.
            let same = same_Some call other i in
            subst (λ x. (is_tree_call x ≡ true)
            × SmallAt (stage_of plan.variant plan.shape x (after_move p (Invokes call) (slice_index s.words 0) q))) same (
              next-tree plan calls p q call f,
              begun-small (setting plan.shape plan.variant call)
                  (fine call (next-tree plan calls p q call f)) call,
            )))
    one-move (Some call) m e k = goes (act plan.shape plan.variant call q.got) (sym turn) k
      where
        opens : IsOpen s p call q
        opens = record { own = here; is_open = e }

        turn : act plan.shape plan.variant call q.got ≡ call_turn (setting plan.shape plan.variant call)
            (stage_of plan.variant plan.shape call q)
        turn = next-turn plan.variant plan.shape call q

        tree : is_tree_call call ≡ true
        tree = h.calls p call q opens

        small-turn : SmallTurn (call_turn (setting plan.shape plan.variant call) (stage_of plan.variant plan.shape call q))
        small-turn = call-turn-small (setting plan.shape plan.variant call) (fine call tree) (stage_of plan.variant plan.shape call q)
            (h.stages p call q opens)

        accesses : (a : Access) (mark : Option Point) → SmallTurn (Asks a mark) → Small (Makes a)
        accesses a mark small = goes-on (Makes a) (changed-small a mark (slice_index s.words (word_of a))
            (small_at s.words (word_of a) h.words) small)
            (λ other i.
            let same = same_Some call other (sym e ∙ i) in
            subst
            (λ x. (is_tree_call x ≡ true) × SmallAt (stage_of plan.variant plan.shape x
            (after_move p (Makes a) (slice_index s.words (word_of a)) q)))
            same (
              tree,
              subst SmallAt (sym (after-more (setting plan.shape plan.variant call)
                  (call_begun (setting plan.shape plan.variant call)) q.got
                  (told a (slice_index s.words (word_of a)))))
                  (call-after-small (setting plan.shape plan.variant call) (fine call tree) (stage_of plan.variant plan.shape call q)
                  (told a (slice_index s.words (word_of a)))
                  (told-small a (slice_index s.words (word_of a)) (small_at s.words (word_of a) h.words))
                  (h.stages p call q opens)),
            ))

        goes : (t : Turn) → call_turn (setting plan.shape plan.variant call) (stage_of plan.variant plan.shape call q) ≡ t
            → ◌≡◌ {A = Option Move} (Some (move_of t)) (Some m) → Small m
        goes (Asks a mark) f l = subst Small (same_Some (Makes a) m l) (accesses a mark (subst SmallTurn f small-turn))
        goes (Answers reply) f l =
            subst Small (same_Some (Responds reply) m l) (goes-on (Responds reply) (omega arith) (λ other i. absurd (none-some other i)))

  one-step : (s : State) (p : ℕ) (later : State) → IsSmall plan s → step plan s p ≡ Some later → IsSmall plan later
  one-step s p later h e =
      let m = is-moved plan s p later e in
      subst (IsSmall plan) (sym m.is) (one-move s h p m.process m.here m.process.call m.move refl m.is_next)

  small-run : (schedule : List ℕ) (first s : State) → IsSmall plan first → run_on plan (Some first) schedule ≡ Some s → IsSmall plan s
  small-run [] first s h e = subst (IsSmall plan) (same_Some first s e) h
  small-run (p ∷ schedule) first s h e = go (step plan first p) refl e (λ next. small-run schedule next s)
    where
      go : (o : Option State) → step plan first p ≡ o → run_on plan o schedule ≡ Some s
          → ((next : State) → IsSmall plan next → run_on plan (Some next) schedule ≡ Some s → IsSmall plan s) → IsSmall plan s
      go None f l later = absurd (nowhere plan schedule s l)
      go (Some next) f l later = later next (one-step first p next h f) l

-- before the first step
first-small : (plan : Plan) (words : List ℕ) → AreSmall words → IsSmall plan (opened_on plan words)
first-small plan words all = record {
  words = all;
  calls = λ p call q o. absurd (idle-idle plan words p call q o);
  stages = λ p call q o. absurd (idle-idle plan words p call q o);
}

opening-small : (shape : Shape) → AreSmall (opening shape)
opening-small shape =
    All-set (λ w. w < 2 ^ 64) (slice_set (replicate (table_words shape) 0) 4 1) (info_at (root_base shape)) 3 (omega arith)
    (All-set (λ w. w < 2 ^ 64) (replicate (table_words shape) 0) 4 1 (omega arith)
    (All-replicate (λ w. w < 2 ^ 64) (table_words shape) 0 (omega arith)))

-- Words are small in every run, of any variant.
pub small-words : (plan : Plan) (start : Contents) (words schedule : List ℕ) (s : State) → IsRun plan start words schedule s
    → All (λ w. w < 2 ^ 64) s.words
small-words plan start words schedule s run =
    (small-run plan run.within.shape run.within.calls schedule (opened_on plan words) s (first-small plan words begun) run.gives).words
  where
    first : Plan
    first = start_plan plan.shape plan.variant start

    tree : AreTreeCalls first.scripts
    tree = All-cons (λ script. All (λ call. IsTrue (is_tree_call call)) script) (inserts start) [] run.start_within.calls
        (All-nil (λ script. All (λ call. IsTrue (is_tree_call call)) script))

    inserted : IsSmall first run.starts.state
    inserted = small-run first run.within.shape tree run.starts.inserted.schedule (opened first) run.starts.state
        (first-small first (opening plan.shape) (opening-small plan.shape)) run.starts.inserted.gives

    begun : AreSmall words
    begun = subst AreSmall (sym run.starts.leaves) (All-set (λ w. w < 2 ^ 64) run.starts.state.words 0 0 (omega arith) inserted.words)
