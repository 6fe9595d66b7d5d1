-- Calm and the first state, and what a step makes of it.
use Rattle.art_schedules.proofs.Common.{◌≡◌, ◌≢◌, ℕ, ◌+◌, ◌%◌, ◌^◌, ◌<◌, ◌≤◌, true, false, List, [], ◌∷◌, length, refl, ap, sym, subst, ◌∙◌, inl}
use Rattle.art_schedules.proofs.trees.Descents.{small_at}
use Rattle.art_schedules.proofs.words.TableLemmas.{kind_at-base_of, row_begins, rows_apart}
use Rattle.art_schedules.proofs.Common.{inr, arith, ne_eqb, slice_index, All, Some, cases_eq, cases_lt, cases_Bool, get_or_past, Call, Shape}
use Rattle.art_schedules.proofs.Common.{Kind, row_words, table_words, claims_of, base_of, kind_at, is_locked, is_obsolete, released_word}
use Rattle.art_schedules.proofs.Common.{some-words, claims-few}
use Rattle.art_schedules.proofs.Common.{IsOutside, IsClaimed, AreZeroPastClaims, Variant, Optimistic}
use Rattle.art_schedules.proofs.Common.{Store, locks, HeldRow, setting, Process, State, OfRows, IsKept, IsGoodAt, IsAmong, IsWith, IsOpen, stage_of}
use Rattle.art_schedules.proofs.Common.{IsSettled, IsSound, IsSteady, SameWords, filled_by, held_by}
use Rattle.art_schedules.proofs.versions.KnownLemmas.{held-is-kept}
use Rattle.art_schedules.proofs.versions.MoveLemmas.{settled-row, true-false}
use Rattle.art_schedules.proofs.Common.{AsksFor, HoldsThen, IsCalm, RowChange, RowWritten, RowsStay, calm_after, is_busy}
use Rattle.art_schedules.proofs.versions.RunLemmas.{AllIdle}
use Rattle.art_schedules.proofs.versions.WordFacts.{version-free}
use Rattle.art_schedules.proofs.Common.{RowFilled, RowTaken, RowReleased, CalmChange, CalmStays, CalmFilled, CalmReleased, CalmStep}
use Rattle.std.specs.Prelude.{◌⊎◌}
use Rattle.std.proofs.lemmas.List.Elements.{All-from_get_or}
use Rattle.art_schedules.proofs.words.VersionLemmas.{even-free, taken-locked, obsolete_obsolete, obsolete_released}
use Rattle.art_core.specs.Meaning.{AllUnlocked}
use Rattle.art_schedules.specs.versions.Holding.{IsVersion}
use Rattle.art_schedules.proofs.versions.ChangeLemmas.{good-more}
use Rattle.art_schedules.proofs.calm.AfterLemmas.{after-long, after-past, after-low, after-free, after-busy, after-either, IsOfRow, row-of-word}
use Rattle.art_schedules.proofs.calm.ReachedLemmas.{reached-good}
use Rattle.art_schedules.proofs.calm.VersionLemmas.{locked-busy, obsolete-busy, free-parts, free-busy, not-behind, held-locked, held-version}
use Rattle.art_schedules.proofs.calm.VersionLemmas.{VersionChange, Stays, IsTaken, IsReleased, version-change, released-free, obsolete-free}
use Rattle.art_schedules.proofs.calm.VersionLemmas.{obsolete-stays, BusySettled}

-- a version that is kept in the optimistic tree is not obsolete
pub kept-live : (variant : Variant) (P : OfRows) (x : HeldRow) → IsKept (locks variant) P x → (variant ≡ Optimistic)
    ⊎ (is_obsolete x.kept ≡ false)
    → is_obsolete x.kept ≡ false
kept-live variant P x k (inl e) = go (subst (λ v. IsVersion (locks v) x.kept) e k.0)
  where
    go : x.kept % 4 ≡ 0 → is_obsolete x.kept ≡ false
    go f = ne_eqb (x.kept % 2) 1 (λ g. omega (arith, f, g))
kept-live variant P x k (inr e) = e

pub claimed-row : (shape : Shape) (words : List ℕ) (base : ℕ) (kind : Kind) → IsClaimed shape words base kind
    → kind_at shape base ≡ Some kind
claimed-row shape words base kind x = ap (kind_at shape) x.is ∙ kind_at-base_of shape kind x.number x.within

zero-free : (v : ℕ) → v ≡ 0 → is_busy v ≡ false
zero-free v e = ap is_busy e

module _ (variant : Variant) (shape : Shape) (n m : ℕ) (s later : State) (h : IsSound variant shape n s) (k : IsSound variant shape m later)
    (steady : IsSteady variant shape s later) (p : ℕ) (change : RowChange variant shape s p later)
    (settled-then : BusySettled variant shape later)
    (first calm : List ℕ) (c : IsCalm variant shape first s calm) where
  abbrev after : List ℕ
  after = calm_after shape calm later.words

  wide : table_words shape ≤ length later.words
  wide = omega (arith, k.long)

  busy-row : (base : ℕ) (kind : Kind) → kind_at shape base ≡ Some kind → is_busy (slice_index later.words base) ≡ true
      → SameWords calm after base kind
  busy-row base kind row busy = after-busy shape calm later.words wide base kind row busy

  free-row : (base : ℕ) (kind : Kind) → kind_at shape base ≡ Some kind → is_busy (slice_index later.words base) ≡ false
      → SameWords later.words after base kind
  free-row base kind row free = after-free shape calm later.words base kind row free

  unlocked : AllUnlocked shape after
  unlocked base kind row = elim (cases_Bool (is_busy (slice_index later.words base))) [
    | inl busy ↦ ap is_locked (busy-row base kind row busy base (omega arith) (omega (arith, some-words kind))) ∙ c.unlocked base kind row
    | inr free ↦ ap is_locked (free-row base kind row free base (omega arith) (omega (arith, some-words kind)))
        ∙ (free-parts (slice_index later.words base) free).0
  ]

  live : (base : ℕ) (kind : Kind) → kind_at shape base ≡ Some kind → is_obsolete (slice_index first base) ≡ false
      → is_obsolete (slice_index after base) ≡ false
  live base kind row alive = elim (cases_Bool (is_busy (slice_index later.words base))) [
    | inl busy ↦ ap is_obsolete (busy-row base kind row busy base (omega arith) (omega (arith, some-words kind)))
        ∙ c.live base kind row alive
    | inr free ↦ ap is_obsolete (free-row base kind row free base (omega arith) (omega (arith, some-words kind)))
        ∙ (free-parts (slice_index later.words base) free).1
  ]

  held : (r : ℕ) (call : Call) (w : Process) → IsOpen later r call w → (x : HeldRow) → IsAmong x (held_by variant shape call w)
      → (variant ≡ Optimistic) ⊎ (is_obsolete x.kept ≡ false) → slice_index after x.base ≡ x.kept
  held r call w o x a known =
      busy-row x.base x.kind row (locked-busy (slice_index later.words x.base) locked) x.base (omega arith)
      (omega (arith, some-words x.kind))
      ∙ go (version-change variant shape n s h p later x.base x.kind row change)
    where
      kept : IsKept (locks variant) (IsSettled variant shape later) x
      kept = held-is-kept (IsSettled variant shape later) (setting shape variant call) (stage_of variant shape call w)
          (k.knows r call w o) x a

      row : kind_at shape x.base ≡ Some x.kind
      row = settled-row variant shape later x.base x.kind kept.1

      is : slice_index later.words x.base ≡ x.kept + 2
      is = k.locked r call w o x a

      locked : is_locked (slice_index later.words x.base) ≡ true
      locked = ap is_locked is ∙ taken-locked x.kept (version-free (locks variant) x.kept kept.0)

      go : VersionChange variant shape s later x.base x.kind → slice_index calm x.base ≡ x.kept
      go (Stays e) =
          let y = h.held x.base x.kind row (ap is_locked (sym e) ∙ locked) in
          let same : y.row.kept ≡ x.kept = omega (arith, held-version variant shape n s h x.base y, e, is) in
          ap (slice_index calm) (sym y.is)
          ∙ (c.held y.holder y.call y.process y.is_open y.row y.among
          (inr (ap is_obsolete same ∙ kept-live variant (IsSettled variant shape later) x kept known)) ∙ same)
      go (IsTaken v free was now settled) =
          let same : v ≡ x.kept = omega (arith, now, is) in
          c.free x.base x.kind row (free-busy (slice_index s.words x.base) (ap is_locked was ∙ even-free v free)
          (ap is_obsolete (was ∙ same) ∙ kept-live variant (IsSettled variant shape later) x kept known)) x.base (omega arith)
          (omega (arith, some-words x.kind))
          ∙ (was ∙ same)
      go (IsReleased v free was (inl now) settled) = absurd (true-false locked (ap is_locked now ∙ released-free v free))
      go (IsReleased v free was (inr now) settled) = absurd (true-false locked (ap is_locked now ∙ obsolete-free v free))

  children : (word : ℕ) → IsGoodAt (IsSettled variant shape later) shape word (slice_index after word)
  children word = elim (after-either shape calm later.words word) [
    | inl e ↦ subst (IsGoodAt (IsSettled variant shape later) shape word) (sym e)
        (good-more (IsSettled variant shape s) (IsSettled variant shape later) shape steady.settled word (slice_index calm word)
        (c.children word))
    | inr e ↦ subst (IsGoodAt (IsSettled variant shape later) shape word) (sym e) (k.children word)
  ]

  filled : (r : ℕ) (call : Call) (w : Process) → IsOpen later r call w → (base : ℕ) (kind : Kind)
      → filled_by variant shape call w ≡ (base, kind) ∷ []
      → SameWords later.words after base kind
  filled r call w o base kind f = elim (cases_Bool (is_busy (slice_index later.words base))) [
    | inl busy ↦ absurd ((settled-then base kind row busy).unfilled r call w o base kind f refl)
    | inr free ↦ free-row base kind row free
  ]
    where
      row : kind_at shape base ≡ Some kind
      row = claimed-row shape later.words base kind (k.filled r call w o base kind f)

  module _ (fresh : AreZeroPastClaims shape later.words) (small : All (λ w. w < 2 ^ 64) later.words) where
    small-then : All (λ w. w < 2 ^ 64) after
    small-then = All-from_get_or (λ w. w < 2 ^ 64) after 0 (λ word within. elim (after-either shape calm later.words word) [
      | inl e ↦ subst (λ w. w < 2 ^ 64) (sym e) (small_at calm word c.small)
      | inr e ↦ subst (λ w. w < 2 ^ 64) (sym e) (small_at later.words word small)
    ])

    fresh-then : AreZeroPastClaims shape after
    fresh-then kind number past within word low high =
        let claims = after-low shape calm later.words (claims_of kind) (claims-few kind) in
        let before : slice_index later.words (claims_of kind) ≤ number = omega (arith, claims, past) in
        let row = kind_at-base_of shape kind number within in
        let none = fresh kind number before within (base_of shape kind number) (omega arith) (omega (arith, some-words kind)) in
        free-row (base_of shape kind number) kind row (zero-free (slice_index later.words (base_of shape kind number)) none) word low high
        ∙ fresh kind number before within word low high

    -- calm goes on
    pub calm-kept : IsCalm variant shape first later after
    calm-kept = record {
      long = after-long shape calm later.words ∙ k.long;
      small = small-then;
      low = λ word low. after-low shape calm later.words word low;
      free = λ base kind row free. free-row base kind row free;
      filled = filled;
      unlocked = unlocked;
      live = live;
      held = held;
      settled = settled-then;
      fresh = fresh-then;
      children = children;
      reached = reached-good (IsSettled variant shape later) shape (settled-row variant shape later) after k.root children;
    }

  -- How it changes.

  unchanged : (base : ℕ) (kind : Kind) → kind_at shape base ≡ Some kind → slice_index later.words base ≡ slice_index s.words base
      → (word : ℕ) → base ≤ word
      → word < base + row_words kind → slice_index later.words word ≡ slice_index s.words word
      → slice_index after word ≡ slice_index calm word
  unchanged base kind row version word low high same = elim (cases_Bool (is_busy (slice_index later.words base))) [
    | inl busy ↦ busy-row base kind row busy word low high
    | inr free ↦ free-row base kind row free word low high
        ∙ (same ∙ sym (c.free base kind row (ap is_busy (sym version) ∙ free) word low high))
  ]

  by-row : (word : ℕ) → 5 ≤ word → ((r : IsOfRow shape word) → slice_index after word ≡ slice_index calm word)
      → slice_index after word ≡ slice_index calm word
  by-row word high f = elim (cases_lt word (table_words shape)) [
    | inl less ↦ f (row-of-word shape word high less)
    | inr more ↦ after-past shape calm later.words word (omega (arith, k.long, more))
        ∙ (get_or_past later.words word 0 (omega (arith, k.long, more)) ∙ sym (get_or_past calm word 0 (omega (arith, c.long, more))))
  ]

  -- one row has another version
  module _ (x : HeldRow) (kept : IsKept (locks variant) (IsSettled variant shape s) x)
      (others : (other : ℕ) → other ≢ x.base → slice_index later.words other ≡ slice_index s.words other) where
    its-row : kind_at shape x.base ≡ Some x.kind
    its-row = settled-row variant shape s x.base x.kind kept.1

    elsewhere : (word : ℕ) (r : IsOfRow shape word) → r.base ≢ x.base → slice_index after word ≡ slice_index calm word
    elsewhere word r d = unchanged r.base r.kind r.row (others r.base d) word r.low r.high (others word away)
      where
        away : word ≢ x.base
        away e = d (rows_apart shape r.base x.base r.kind x.kind word r.row its-row r.low r.high (omega (arith, e))
            (omega (arith, e, some-words x.kind))).0

    all-stay : is_busy (slice_index later.words x.base) ≡ true → (word : ℕ) → 5 ≤ word → slice_index after word ≡ slice_index calm word
    all-stay busy word high = by-row word high (λ r. elim (cases_eq r.base x.base) [
      | inl e ↦ busy-row r.base r.kind r.row (ap (λ b. is_busy (slice_index later.words b)) e ∙ busy) word r.low r.high
      | inr d ↦ elsewhere word r d
    ])

    rest-stay : (word : ℕ) → 5 ≤ word → IsOutside x.base x.kind word → slice_index after word ≡ slice_index calm word
    rest-stay word high outside = by-row word high (λ r. elim (cases_eq r.base x.base) [
      | inl e ↦ absurd (inside r e outside)
      | inr d ↦ elsewhere word r d
    ])
      where
        inside : (r : IsOfRow shape word) → r.base ≡ x.base → IsOutside x.base x.kind word → ⊥
        inside r e out =
            let same = rows_apart shape r.base x.base r.kind x.kind x.base r.row its-row (omega (arith, e))
            (omega (arith, e, some-words r.kind)) (omega arith)
            (omega (arith, some-words x.kind)) in
            let words = ap row_words same.1 in
            elim out [
              | inl less ↦ omega (arith, e, less, r.low)
              | inr more ↦ omega (arith, e, more, r.high, words)
            ]

  -- one word after a version is another
  module _ (b : ℕ) (kb : Kind) (its : kind_at shape b ≡ Some kb) (word : ℕ) (behind : (b < word) × (word < b + row_words kb))
      (others : (other : ℕ) → other ≢ word → slice_index later.words other ≡ slice_index s.words other) where
    same-version : (base : ℕ) (kind : Kind) → kind_at shape base ≡ Some kind → slice_index later.words base ≡ slice_index s.words base
    same-version base kind row = others base (not-behind shape base b word kind kb row its behind)

    other-stays : (other : ℕ) → 5 ≤ other → other ≢ word → slice_index after other ≡ slice_index calm other
    other-stays other high d = by-row other high (λ r. unchanged r.base r.kind r.row (same-version r.base r.kind r.row) other r.low
        r.high (others other d))

  calm-change : BusySettled variant shape s → RowChange variant shape s p later → CalmChange variant shape s p later calm after
  calm-change settled (RowsStay same) = CalmStays (λ word high. by-row word high (λ r.
      unchanged r.base r.kind r.row (same r.base (row_begins shape r.base r.kind r.row)) word r.low r.high (same word high)))
  calm-change settled (RowWritten word value asks x among kept behind is others) = CalmStays (λ other high. elim (cases_eq other word) [
    | inl e ↦ ap (slice_index after) e
        ∙ (busy-row x.base x.kind row busy word (omega (arith, behind.0)) behind.1 ∙ ap (slice_index calm) (sym e))
    | inr d ↦ other-stays x.base x.kind row word behind others other high d
  ])
    where
      row : kind_at shape x.base ≡ Some x.kind
      row = settled-row variant shape s x.base x.kind kept.1

      busy : is_busy (slice_index later.words x.base) ≡ true
      busy = locked-busy (slice_index later.words x.base)
          (ap is_locked (same-version x.base x.kind row word behind others x.base x.kind row)
          ∙ held-locked variant shape n s h x.base
          (record { holder = p; call = asks.call; process = asks.process; is_open = asks.is_open; row = x; among = among; is = refl }))
  calm-change settled (RowFilled word value asks b kb filled row behind is others) =
      CalmFilled word value asks b kb filled behind (free-row b kb row free word (omega (arith, behind.0)) behind.1 ∙ is)
      (other-stays b kb row word behind others)
    where
      free : is_busy (slice_index later.words b) ≡ false
      free = elim (cases_Bool (is_busy (slice_index later.words b))) [
        | inl busy ↦ absurd ((settled b kb row (ap is_busy (sym (same-version b kb row word behind others b kb row)) ∙ busy)).unfilled
            p asks.call asks.process asks.is_open b kb filled refl)
        | inr none ↦ none
      ]
  calm-change settled (RowTaken x asks rows with then kept was is others) = CalmStays (all-stay x kept others
      (locked-busy (slice_index later.words x.base) (ap is_locked is ∙ taken-locked x.kept (version-free (locks variant) x.kept kept.0))))
  calm-change settled (RowReleased x value asks rest with then kept written is others) = elim written [
    | inl w ↦ subst (λ v. (a : AsksFor variant shape s p (Store x.base v)) → IsWith x rest (held_by variant shape a.call a.process)
        → HoldsThen variant shape later p a.call rest → CalmChange variant shape s p later calm after) (sym w)
        (released (is ∙ w)) asks with then
    | inr w ↦ CalmStays (all-stay x kept others (obsolete-busy (slice_index later.words x.base)
        (ap is_obsolete (is ∙ w) ∙ obsolete_obsolete x.kept)))
  ]
    where
      released : slice_index later.words x.base ≡ released_word x.kept
          → (a : AsksFor variant shape s p (Store x.base (released_word x.kept)))
          → IsWith x rest (held_by variant shape a.call a.process) → HoldsThen variant shape later p a.call rest
          → CalmChange variant shape s p later calm after
      released now a b d = elim (cases_Bool (is_obsolete x.kept)) [
        | inl gone ↦ CalmStays (all-stay x kept others
            (obsolete-busy (slice_index later.words x.base) (ap is_obsolete now ∙ (obsolete_released x.kept ∙ gone))))
        | inr alive ↦ CalmReleased x a rest b d kept alive
            (free-row x.base x.kind (its-row x kept others) (free-busy (slice_index later.words x.base)
            (ap is_locked now ∙ released-free x.kept (version-free (locks variant) x.kept kept.0))
            (ap is_obsolete now ∙ (obsolete_released x.kept ∙ alive))))
            (rest-stay x kept others)
      ]

  pub calm-step : BusySettled variant shape s → CalmStep variant shape s p later calm after
  calm-step settled = record {
    rows = change;
    change = calm-change settled change;
    busy = busy-row;
    held = λ base kind row x. busy-row base kind row
        (locked-busy (slice_index later.words base) (held-locked variant shape m later k base x));
    obsolete = λ base kind row gone. obsolete-stays variant shape s later base kind
        (version-change variant shape n s h p later base kind row change) gone;
  }

-- Before the first step calm is the words.
pub calm-first : (variant : Variant) (shape : Shape) (n : ℕ) (s : State) → IsSound variant shape n s → AllIdle s
    → BusySettled variant shape s
    → AreZeroPastClaims shape s.words → All (λ w. w < 2 ^ 64) s.words → IsCalm variant shape s.words s s.words
calm-first variant shape n s h none settled fresh small = record {
  long = h.long;
  small = small;
  low = λ word low. refl;
  free = λ base kind row free word low high. refl;
  filled = λ p call q o. absurd (none p call q o);
  unlocked = λ base kind row. free-of base kind row;
  live = λ base kind row alive. alive;
  held = λ p call q o. absurd (none p call q o);
  settled = settled;
  fresh = fresh;
  children = h.children;
  reached = reached-good (IsSettled variant shape s) shape (settled-row variant shape s) s.words h.root h.children;
}
  where
    free-of : (base : ℕ) (kind : Kind) → kind_at shape base ≡ Some kind → is_locked (slice_index s.words base) ≡ false
    free-of base kind row = elim (cases_Bool (is_locked (slice_index s.words base))) [
      | inl locked ↦ let x = h.held base kind row locked in absurd (none x.holder x.call x.process x.is_open)
      | inr free ↦ free
    ]
