-- The stages of work between its claim and its first release: what comes next, and what is touched there.
use Rattle.art_schedules.proofs.Common.{◌≡◌, ℕ, zero, suc, ◌+◌, ◌<◌, ◌≤◌, List, [], ◌∷◌, length, refl, ap, sym, subst, ◌∙◌, Bool, true, false}
use Rattle.art_schedules.proofs.words.TableLemmas.{row_begins, rows_apart}
use Rattle.art_schedules.proofs.words.WordLemmas.{child_of-stored}
use Rattle.art_schedules.proofs.Common.{inl, inr, arith, ◌==◌, slice_index, Option, Some, None, if◌then◌else◌, none-some, cases_lt, true≢false}
use Rattle.art_schedules.proofs.Common.{Shape, Kind, Four, Sixteen, FortyEight, Full, Child, Empty, ChildRow, Leaf, kind_at, entries_of}
use Rattle.art_schedules.proofs.Common.{child_of, two-words, Load, Store, Point, Asks, Setting, locks, HeldRow, Keys, Hold, Pair, PairWord, Growing}
use Rattle.art_schedules.proofs.Common.{Spread, Outcome, Value, Stage, Write, StorePair, PutLoad, PutStore, PutLeaf, PutKeys, PutMore, PutCount}
use Rattle.art_schedules.proofs.Common.{GrowInfo, GrowLoad, GrowStore, SpreadIndex, SpreadLoad, SpreadStore, GrowLeaf, GrowKeys, GrowCount, Hang}
use Rattle.art_schedules.proofs.Common.{Obsolete, Unlock, no_value, turn_at, stage_after, moves_at, pair_after, put_keys_after, copies_at}
use Rattle.art_schedules.proofs.Common.{spreads_at, entries_at, fill_at, leaf_after, keys_at_after, OnKey, IsStored}
use Rattle.art_schedules.proofs.Common.{locks_of, rows_of_hold, Each, IsNamed, KnowsKey, child_rows, holds, IsGoodAt, IsWith}
use Rattle.art_schedules.proofs.Common.{AccessDoes, Answered, Claims, Ends, IsAfterVersion, IsFull, Reads, Releases, Takes, Writes}
use Rattle.art_schedules.proofs.versions.KnownLemmas.{knows-more}
use Rattle.art_schedules.proofs.Common.{IsHeldWord, RowsOf, is_claim, is_work}
use Rattle.art_schedules.proofs.versions.KnownLemmas.{held-is-kept}
use Rattle.std.specs.Prelude.{◌≢◌, ◌⊎◌}
use Rattle.art_control_states.specs.declared.stage.PairWord.TheVariants as pair_word
use Rattle.art_schedules.specs.versions.Holding.{HasPlace}
use Rattle.art_schedules.specs.versions.Effects.{With, Fills}
use Rattle.art_schedules.proofs.work.OwnLemmas.{IsAllowed, allowed, is_over, rows-do}

-- ---- plain words

-- a word after the claims at which no row begins
pub record IsPlain (s : Shape) (word : ℕ) : Type 0 where
  pub behind : 5 ≤ word
  pub bare : (base : ℕ) (kind : Kind) → kind_at s base ≡ Some kind → word ≢ base

pub behind-plain : (s : Shape) (b : ℕ) (k : Kind) (word : ℕ) → kind_at s b ≡ Some k → IsAfterVersion b k word → IsPlain s word
behind-plain s b k word row at = record {
  behind = omega (arith, row_begins s b k row, at.0);
  bare = λ base kind e is.
      let same = rows_apart s base b kind k word e row (omega (arith, is)) (omega (arith, is, two-words kind)) (omega (arith, at.0)) at.1 in
      omega (arith, same.0, is, at.0);
}

pub plain-or : (s : Shape) (word : ℕ) → IsPlain s word ⊎ (word < 5) ⊎ ((kind : Kind) × (kind_at s word ≡ Some kind))
plain-or s word = elim (cases_lt word 5) [
  | inl l ↦ inr (inl l)
  | inr l ↦ go (kind_at s word) refl l
]
  where
    go : (o : Option Kind) → kind_at s word ≡ o → 5 ≤ word → IsPlain s word ⊎ (word < 5) ⊎ ((kind : Kind) × (kind_at s word ≡ Some kind))
    go None e l = inl (record { behind = l; bare = λ base kind f is. none-some kind (sym e ∙ (ap (kind_at s) is ∙ f)) })
    go (Some kind) e l = inr (inr (kind, e))

pub not-plain : (s : Shape) (word : ℕ) → (word < 5) ⊎ ((kind : Kind) × (kind_at s word ≡ Some kind)) → IsPlain s word → ⊥
not-plain s word (inl l) p = omega (arith, l, p.behind)
not-plain s word (inr row) p = p.bare word row.0 row.1 refl

-- ---- stages

-- The call is at work on these rows, and has not released one yet: in a row that stays, or in one that grows.
pub data AtWork (h : Hold) : Bool → Stage → Type 0 where
  writes : (slot word : ℕ) → (reply : Option ℕ) → AtWork h false (Write h slot word reply)
  pairs : (p : Pair) → (base : ℕ) → (word : PairWord) → AtWork h false (StorePair h p base word)
  put_loads : (keys : Keys) → (left : ℕ) → AtWork h false (PutLoad h keys left)
  put_stores : (keys : Keys) → (left word : ℕ) → AtWork h false (PutStore h keys left word)
  put_leaf : (keys : Keys) → AtWork h false (PutLeaf h keys)
  put_keys : (keys : Keys) → AtWork h false (PutKeys h keys)
  put_more : (keys : Keys) → AtWork h false (PutMore h keys)
  put_count : (keys : Keys) → AtWork h false (PutCount h keys)
  grow_info : (g : Growing) → g.hold ≡ h → AtWork h true (GrowInfo g)
  grow_loads : (g : Growing) → (place left : ℕ) → g.hold ≡ h → AtWork h true (GrowLoad g place left)
  grow_stores : (g : Growing) → (place left word : ℕ) → g.hold ≡ h → AtWork h true (GrowStore g place left word)
  spread_index : (g : Growing) → (j left : ℕ) → g.hold ≡ h → AtWork h true (SpreadIndex g j left)
  spread_loads : (s : Spread) → (entry left : ℕ) → s.growing.hold ≡ h → AtWork h true (SpreadLoad s entry left)
  spread_stores : (s : Spread) → (entry left word : ℕ) → s.growing.hold ≡ h → AtWork h true (SpreadStore s entry left word)
  grow_leaf : (g : Growing) → g.hold ≡ h → AtWork h true (GrowLeaf g)
  grow_keys : (g : Growing) → (j left : ℕ) → g.hold ≡ h → AtWork h true (GrowKeys g j left)
  grow_count : (g : Growing) → g.hold ≡ h → AtWork h true (GrowCount g)
  hangs : (g : Growing) → g.hold ≡ h → AtWork h true (Hang g)

-- the first release
abbrev pub IsEnd : Hold → Bool → Stage → Type 0
IsEnd h false stage = (o : Outcome) × (stage ≡ Unlock h (Some o))
IsEnd h true stage = stage ≡ Obsolete h

abbrev pub Next : Hold → Bool → Stage → Type 0
Next h b stage = AtWork h b stage ⊎ IsEnd h b stage

-- the stages that release a row
abbrev pub is_release : Stage → Bool
is_release (Unlock h outcome) = true
is_release (Obsolete h) = true
is_release stage = false

pub at-work : {h : Hold} {b : Bool} {stage : Stage} → AtWork h b stage → (is_work stage ≡ true) × (is_claim stage ≡ false)
    × (is_over stage ≡ false) ×
    (is_release stage ≡ false)
at-work (writes slot word reply) = (refl, refl, refl, refl)
at-work (pairs p base word) = (refl, refl, refl, refl)
at-work (put_loads keys left) = (refl, refl, refl, refl)
at-work (put_stores keys left word) = (refl, refl, refl, refl)
at-work (put_leaf keys) = (refl, refl, refl, refl)
at-work (put_keys keys) = (refl, refl, refl, refl)
at-work (put_more keys) = (refl, refl, refl, refl)
at-work (put_count keys) = (refl, refl, refl, refl)
at-work (grow_info g e) = (refl, refl, refl, refl)
at-work (grow_loads g place left e) = (refl, refl, refl, refl)
at-work (grow_stores g place left word e) = (refl, refl, refl, refl)
at-work (spread_index g j left e) = (refl, refl, refl, refl)
at-work (spread_loads s entry left e) = (refl, refl, refl, refl)
at-work (spread_stores s entry left word e) = (refl, refl, refl, refl)
at-work (grow_leaf g e) = (refl, refl, refl, refl)
at-work (grow_keys g j left e) = (refl, refl, refl, refl)
at-work (grow_count g e) = (refl, refl, refl, refl)
at-work (hangs g e) = (refl, refl, refl, refl)

-- all rows are held still
pub holds-work : (c : Setting) {h : Hold} {b : Bool} {stage : Stage} → AtWork h b stage → holds c (OnKey stage) ≡ locks_of (rows_of_hold h)
holds-work c (writes slot word reply) = refl
holds-work c (pairs p base word) = refl
holds-work c (put_loads keys left) = refl
holds-work c (put_stores keys left word) = refl
holds-work c (put_leaf keys) = refl
holds-work c (put_keys keys) = refl
holds-work c (put_more keys) = refl
holds-work c (put_count keys) = refl
holds-work c (grow_info g e) = ap (λ h. locks_of (rows_of_hold h)) e
holds-work c (grow_loads g place left e) = ap (λ h. locks_of (rows_of_hold h)) e
holds-work c (grow_stores g place left word e) = ap (λ h. locks_of (rows_of_hold h)) e
holds-work c (spread_index g j left e) = ap (λ h. locks_of (rows_of_hold h)) e
holds-work c (spread_loads s entry left e) = ap (λ h. locks_of (rows_of_hold h)) e
holds-work c (spread_stores s entry left word e) = ap (λ h. locks_of (rows_of_hold h)) e
holds-work c (grow_leaf g e) = ap (λ h. locks_of (rows_of_hold h)) e
holds-work c (grow_keys g j left e) = ap (λ h. locks_of (rows_of_hold h)) e
holds-work c (grow_count g e) = ap (λ h. locks_of (rows_of_hold h)) e
holds-work c (hangs g e) = ap (λ h. locks_of (rows_of_hold h)) e

pub holds-next : (c : Setting) (h : Hold) (b : Bool) (stage : Stage) → Next h b stage → holds c (OnKey stage) ≡ locks_of (rows_of_hold h)
holds-next c h b stage (inl w) = holds-work c w
holds-next c h false stage (inr e) = ap (λ x. holds c (OnKey x)) e.1
holds-next c h true stage (inr e) = ap (λ x. holds c (OnKey x)) e

-- ---- what comes next

module _ (h : Hold) where
  pub moves-next : (keys : Keys) (n : ℕ) → AtWork h false (moves_at h keys n)
  moves-next keys zero = put_leaf keys
  moves-next keys (suc n) = put_loads keys n

  pair-next : (p : Pair) (base : ℕ) (word : PairWord) → AtWork h false (pair_after h p base word)
  pair-next p base pair_word.Info = pairs p base pair_word.Keys
  pair-next p base pair_word.Keys = pairs p base pair_word.Lesser
  pair-next p base pair_word.Lesser = pairs p base pair_word.Greater
  pair-next p base pair_word.Greater = writes p.slot _ None

  keys-next : (l : Bool) (kind : Kind) (keys : Keys) → HasPlace kind keys → Next h false (put_keys_after l kind h keys)
  keys-next l Four keys place = inr (no_value, refl)
  keys-next l Sixteen keys place = inl (put_more keys)
  keys-next l FortyEight keys place = inl (put_count keys)
  keys-next l Full keys place = absurd place

  module _ (g : Growing) (is : g.hold ≡ h) where
    copies-next : (i n : ℕ) → AtWork h true (copies_at g i n)
    copies-next i zero = grow_leaf g is
    copies-next i (suc n) = grow_loads g i n is

    spreads-next : (j n : ℕ) → AtWork h true (spreads_at g j n)
    spreads-next j zero = grow_leaf g is
    spreads-next j (suc n) = spread_index g j n is

    fill-next : (kind : Kind) → AtWork h true (fill_at kind g)
    fill-next Four = copies-next 0 _
    fill-next Sixteen = copies-next 0 _
    fill-next FortyEight = spread_index g 0 31 is
    fill-next Full = hangs g is

    leaf-next : (kind : Kind) → AtWork h true (leaf_after kind g)
    leaf-next Four = grow_keys g 0 1 is
    leaf-next Sixteen = grow_keys g 0 31 is
    leaf-next FortyEight = hangs g is
    leaf-next Full = hangs g is

    index-next : (j n : ℕ) → AtWork h true (keys_at_after g j n)
    index-next j zero = grow_count g is
    index-next j (suc n) = grow_keys g (j + 1) n is

  entries-next : (s : Spread) → s.growing.hold ≡ h → (i n : ℕ) → AtWork h true (entries_at s i n)
  entries-next s is i zero = spreads-next s.growing is (s.place + 1) s.left
  entries-next s is i (suc n) = go (slice_index (entries_of s.word) i == 0) (entries-next s is (i + 1) n)
    where
      go : (b : Bool) → AtWork h true (entries_at s (i + 1) n) → AtWork h true (if b then entries_at s (i + 1) n else SpreadLoad s i n)
      go true later = later
      go false later = spread_loads s i n is

  pub next-work : (c : Setting) {b : Bool} {stage : Stage} → AtWork h b stage → KnowsKey (RowsOf c.shape) c stage → (w : ℕ)
      → Next h b (stage_after c stage w)
  next-work c (writes slot word reply) k w = inr (Value reply, refl)
  next-work c (pairs p base word) k w = inl (pair-next p base word)
  next-work c (put_loads keys left) k w = inl (put_stores keys left _)
  next-work c (put_stores keys left word) k w = inl (moves-next keys left)
  next-work c (put_leaf keys) k w = inl (put_keys keys)
  next-work c (put_keys keys) k w = keys-next (locks c.variant) h.row.kind keys k.fits
  next-work c (put_more keys) k w = inl (put_count keys)
  next-work c (put_count keys) k w = inr (no_value, refl)
  next-work c (grow_info g e) k w = inl (fill-next g e g.hold.row.kind)
  next-work c (grow_loads g place left e) k w = inl (grow_stores g place left _ e)
  next-work c (grow_stores g place left word e) k w = inl (copies-next g e (place + 1) left)
  next-work c (spread_index g j left e) k w = inl (entries-next (record { growing = g; place = j; left = left; word = w }) e 0 8)
  next-work c (spread_loads s entry left e) k w = inl (spread_stores s entry left _ e)
  next-work c (spread_stores s entry left word e) k w = inl (entries-next s e (entry + 1) left)
  next-work c (grow_leaf g e) k w = inl (leaf-next g e g.hold.row.kind)
  next-work c (grow_keys g j left e) k w = inl (index-next g e j left)
  next-work c (grow_count g e) k w = inl (hangs g e)
  next-work c (hangs g e) k w = inr (ap Obsolete e)

-- ---- what is touched

stored-rows : (s : Shape) (child : Child) → IsStored s child → Each (IsNamed (RowsOf s)) (child_rows child)
stored-rows s Empty h = tt
stored-rows s (ChildRow base kind) h = (h, tt)
stored-rows s (Leaf key value) h = tt

-- every value names rows of the table
pub all-good : (s : Shape) (word value : ℕ) → IsGoodAt (RowsOf s) s word value
all-good s word value base kind e slot = stored-rows s (child_of s value) (child_of-stored s value)

pub with-length : (x : HeldRow) (rest all : List HeldRow) → IsWith x rest all → length all ≡ length rest + 1
with-length x rest [] w = absurd w
with-length x rest (y ∷ all) (inl e) = omega (arith, ap length e.1)
with-length x rest (y ∷ all) (inr w) = omega (arith, ap length w.1, with-length x w.0 all w.2)

-- The access of a stage of work: a load or a store of a plain word.
pub data Acts (c : Setting) (stage : Stage) : Type 0 where
  Loading : (word : ℕ) → (mark : Option Point) → turn_at c stage ≡ Asks (Load word) mark → IsPlain c.shape word
      → ((value : ℕ) → KnowsKey (RowsOf c.shape) c (stage_after c stage value)) → Acts c stage
  Storing : (word value : ℕ) → (mark : Option Point) → turn_at c stage ≡ Asks (Store word value) mark → IsPlain c.shape word
      → KnowsKey (RowsOf c.shape) c (stage_after c stage 0) → Acts c stage

module _ (c : Setting) (full : IsFull c.variant) (some : 1 ≤ c.shape.rows256) where
  abbrev s : Shape
  s = c.shape

  with-rows : (b : ℕ) (k : Kind) → kind_at s b ≡ Some k → (base : ℕ) (kind : Kind) → With (RowsOf s) b k base kind → RowsOf s base kind
  with-rows b k row base kind (inl e) = e
  with-rows b k row base kind (inr e) = ap (kind_at s) e.0 ∙ (row ∙ ap Some (sym e.1))

  acts-by : {h : Hold} {b : Bool} {stage : Stage} → AtWork h b stage → KnowsKey (RowsOf s) c stage → IsAllowed c stage (turn_at c stage)
      → AccessDoes (RowsOf s) c (OnKey stage) → Acts c stage
  acts-by {stage = stage} w k a (Reads word mark asks after) =
      let held : IsHeldWord c (OnKey stage) word = subst (IsAllowed c stage) asks a in
      let row = (held-is-kept (RowsOf s) c (OnKey stage) k held.row held.among).1 in
      Loading word mark asks (behind-plain s held.row.base held.row.kind word row held.behind)
      (λ value. (after value (all-good s word value)).0)
  acts-by {stage = stage} w k a (Writes x word value mark asks among kept behind good after) =
      Storing word value mark asks (behind-plain s x.base x.kind word kept.1 behind) after.0
  acts-by {stage = stage} w k a (Fills base kind word value mark asks filled behind row good after) =
      Storing word value mark asks (behind-plain s base kind word row behind) after.0
  acts-by {stage = stage} w k a (Ends base kind word value mark asks filled behind row good after) =
      Storing word value mark asks (behind-plain s base kind word row behind)
      (knows-more (With (RowsOf s) base kind) (RowsOf s) c (with-rows base kind row) (OnKey (stage_after c stage 0)) after.0)
  acts-by {h = h} {b = b} {stage = stage} w k a (Releases x rest value mark asks with none is kept after) =
      let now = holds-next c h b (stage_after c stage 0) (next-work h c w k 0) in
      absurd (omega (arith, with-length x rest (holds c (OnKey stage)) with, ap length (holds-work c w), ap length now, ap length after.1))
  acts-by {stage = stage} w k a (Takes x all mark asks with none kept after other) = absurd (subst (IsAllowed c stage) asks a)
  acts-by {stage = stage} w k a (Claims kind mark asks none after other) =
      absurd (true≢false (sym (subst (IsAllowed c stage) asks a) ∙ (at-work w).1))
  acts-by {stage = stage} w k a (Answered reply asks none) = absurd (true≢false (sym (subst (IsAllowed c stage) asks a) ∙ (at-work w).2))

  pub acts : {h : Hold} {b : Bool} {stage : Stage} → AtWork h b stage → KnowsKey (RowsOf s) c stage → Acts c stage
  acts {stage = stage} w k =
      acts-by w k (allowed (RowsOf s) c stage (at-work w).0 k) (rows-do c.variant full s c.call some (OnKey stage) k)
