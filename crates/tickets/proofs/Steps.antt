-- What the table asks of each step: that it keeps the rule.
use Rattle.std.proofs.Common.{◌≡◌, ℕ, ◌+◌, ◌%◌, ◌^◌, ◌<◌, ◌≤◌, ◌==◌, List, [], ◌∷◌, length, get_or, set, refl, sym, subst, arith}
use mathlib.Core.Option.{none}
use prog.Atomic.{either}
use Rattle.atomic_table.specs.Table.{step, keeps, Allows, Splits, Joins, Final, Seen}
use Rattle.atomic_table.proofs.Lists.{exchanged, set_again}
use Rattle.tickets.specs.declared.rule.Holding.{Holding}
use Rattle.tickets.specs.Numbers.{EachOnce}
use Rattle.tickets.specs.Holdings.{drawn_count, left_count, IsSharedOut, KeepsCount, Place, after_draw, Draws, noted, SetsAside}
use Rattle.tickets.specs.Holdings.{StaysWithin, kept_part}
use Rattle.tickets.specs.Holdings.{given_part, both_parts, no_part}
use Rattle.tickets.proofs.Sharing.{floor-le, share-small, IsSharedOut-draw, IsSharedOut-note, IsSharedOut-split, IsSharedOut-join}
use Rattle.tickets.proofs.Sharing.{EachOnce-sole}

module _ (quota : ℕ) where
  -- the one word is what was written to it
  written : (new n : ℕ) (words : List ℕ) (all : List Holding) → length words ≡ 1 → new ≡ n → IsSharedOut quota n all
      → (length (set words 0 new) ≡ 1)
      × IsSharedOut quota (get_or (set words 0 new) 0 0) all
  written new n [] all one same shared = absurd (omega arith)
  written new n (w ∷ words) all one same shared = (one, subst (λ k. IsSharedOut quota k all) (sym same) shared)

  module _ (slots id : ℕ) (me : Place) where
    -- a draw
    pub draw-allowed : 0 < me.0.left → Allows (KeepsCount quota) slots id me 0 (λ n. (n + 1) % 2 ^ 64) (Draws (step slots 0 1 0 none) me)
    draw-allowed some_left s holds len at fits =
        let n = get_or s.words 0 0 in
        let small = holds.1.small in
        let left = holds.1.left in
        let next : (n + 1) % 2 ^ 64 ≡ n + 1 = omega arith in (
          after_draw me.0 n,
          keeps,
          tt,
          written _ _ s.words _ holds.0 next (IsSharedOut-draw quota n s.views holds.1 id me.0 at some_left),
          (refl, floor-le quota n s.views holds.1 id me.0 at),
        )

    -- a note of a part
    pub note-allowed : (part : ℕ) → Allows (KeepsCount quota) slots id me 0 (λ n. either (n == part) part n)
        (SetsAside (step slots 0 part part none) me)
    note-allowed part s holds len at fits =
        let n = get_or s.words 0 0 in
        let same : either (n == part) part n ≡ n = exchanged n part part (λ m. m ≡ n) (λ e. sym e) (λ ne. refl) in (
          noted me.0 part,
          keeps,
          tt,
          written _ _ s.words _ holds.0 same (IsSharedOut-note quota n s.views holds.1 id me.0 at part),
          refl,
        )

    -- a look at the bound
    pub look-allowed : Allows (KeepsCount quota) slots id me 0 (λ n. n) (StaysWithin (step slots 0 0 0 none) me)
    look-allowed s holds len at fits =
        let n = get_or s.words 0 0 in (
          me.0,
          keeps,
          tt,
          written n n s.words _ holds.0 refl (subst (IsSharedOut quota n) (sym (set_again s.views id me.0 at)) holds.1),
          (refl, share-small quota n s.views holds.1 id me.0 at),
        )

  module _ (id : ℕ) (h : Holding) where
    -- a split
    pub split-allowed : h.set_aside ≤ h.left → Splits (KeepsCount quota) id h (kept_part h) (given_part h)
    split-allowed enough s holds at = (holds.0, IsSharedOut-split quota _ s.views holds.1 id h at enough)

    -- a join
    pub join-allowed : (other : ℕ) (k : Holding) → Joins (KeepsCount quota) id h other k (both_parts h k) no_part
    join-allowed other k s holds at apart there = (holds.0, IsSharedOut-join quota _ s.views holds.1 id h at other k apart there)

    -- the end, where one hand has the whole quota
    pub EachOnce-end : (words : List ℕ) (slots : List (Unit {0})) → Final (Seen (KeepsCount quota) id h) words slots
        → drawn_count h + left_count h ≡ quota
        → EachOnce (length h.drawn) h.drawn
    EachOnce-end words slots end whole = EachOnce-sole quota _ end.0.views end.1.0.1 id h end.1.1 whole
