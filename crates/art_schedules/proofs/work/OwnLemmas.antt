-- A call at work touches only words of the rows that it holds or fills.
use Rattle.art_schedules.proofs.Common.{◌≡◌, ℕ, ◌+◌, ◌-◌, ◌*◌, ◌≤◌, refl, sym, subst, Bool, true, false, inl, arith, ◌==◌, if◌then◌else◌}
use Rattle.art_schedules.proofs.words.TableLemmas.{kind_at-base_of}
use Rattle.art_schedules.proofs.Common.{slice_index, false≢true, Call, Shape, Kind, Four, Sixteen, FortyEight, Full, root_base, keys_at}
use Rattle.art_schedules.proofs.Common.{more_keys_at, index_at, child_at, entries_of, keys16_word, more_keys16_word, Load, Store, Swap, Add}
use Rattle.art_schedules.proofs.Common.{Variant, Turn, Asks, Answers, Setting, Keys, Hold, Pair, PairWord, Growing, Stage, Lock, Exchange, Wait}
use Rattle.art_schedules.proofs.Common.{Leave, Between, Info, Find, FindKeys, FindMore, FindCount, Slot, Check, CheckLast, LetGo, Take, Write}
use Rattle.art_schedules.proofs.Common.{ClaimPair, StorePair, PutLoad, PutStore, PutLeaf, PutKeys, PutMore, PutCount, ClaimGrow, GrowInfo}
use Rattle.art_schedules.proofs.Common.{GrowLoad, GrowStore, SpreadIndex, SpreadLoad, SpreadStore, GrowLeaf, GrowKeys, GrowCount, Hang, Obsolete}
use Rattle.art_schedules.proofs.Common.{Unlock, Over, setting, place_in, keys_after, turn_at, pair_turn, put_keys_turn, grow_keys_turn}
use Rattle.art_schedules.proofs.Common.{grow_leaf_turn, grow_count_turn, store_of, CallAt, OnKey, Process, State, IsOpen}
use Rattle.art_schedules.proofs.Common.{IsSettled, IsSound, Knows, KnowsKey, OfRows, RowsOf, lock_of, stage_of}
use Rattle.art_schedules.proofs.versions.KnownLemmas.{knows-more}
use Rattle.art_schedules.proofs.versions.MoveLemmas.{settled-row}
use Rattle.art_schedules.proofs.Common.{AccessDoes, IsAfterVersion, IsFull, IsHeldWord, is_claim, is_work}
use Rattle.art_schedules.proofs.versions.KeyLemmas.{slot-behind}
use Rattle.art_schedules.proofs.versions.StepLemmas.{does}
use Rattle.art_control_states.specs.declared.stage.PairWord.TheVariants as pair_word
use Rattle.art_schedules.proofs.versions.WordFacts.{entry-fits}

-- the stage that is over
abbrev pub is_over : Stage → Bool
is_over (Over outcome) = true
is_over stage = false

-- what a turn of the stage is allowed
abbrev pub IsAllowed : Setting → Stage → Turn → Type 0
IsAllowed c stage (Asks (Load word) mark) = IsHeldWord c (OnKey stage) word
IsAllowed c stage (Asks (Store word value) mark) = (is_claim stage ≡ false) × (is_over stage ≡ false)
IsAllowed c stage (Asks (Swap word from to) mark) = ⊥
IsAllowed c stage (Asks (Add word) mark) = is_claim stage ≡ true
IsAllowed c stage (Answers reply) = is_over stage ≡ true

abbrev IsStoring : Stage → Type 0
IsStoring stage = (is_claim stage ≡ false) × (is_over stage ≡ false)

module _ (P : OfRows) (c : Setting) where
  pair-allowed : (h : Hold) (p : Pair) (base : ℕ) (word : PairWord) → IsAllowed c (StorePair h p base word) (pair_turn c p base word)
  pair-allowed h p base pair_word.Info = (refl, refl)
  pair-allowed h p base pair_word.Keys = (refl, refl)
  pair-allowed h p base pair_word.Lesser = (refl, refl)
  pair-allowed h p base pair_word.Greater = (refl, refl)

  keys-allowed : (kind : Kind) (stage : Stage) → IsStoring stage → (h : Hold) (keys : Keys)
      → IsAllowed c stage (put_keys_turn kind c h keys)
  keys-allowed Four stage ok h keys = ok
  keys-allowed Sixteen stage ok h keys = ok
  keys-allowed FortyEight stage ok h keys = ok
  keys-allowed Full stage ok h keys = ok

  leaf-allowed : (kind : Kind) (stage : Stage) → IsStoring stage → (g : Growing) → IsAllowed c stage (grow_leaf_turn kind c g)
  leaf-allowed Four stage ok g = ok
  leaf-allowed Sixteen stage ok g = ok
  leaf-allowed FortyEight stage ok g = ok
  leaf-allowed Full stage ok g = ok

  count-allowed : (kind : Kind) (stage : Stage) → IsStoring stage → (g : Growing) → IsAllowed c stage (grow_count_turn kind g)
  count-allowed Four stage ok g = ok
  count-allowed Sixteen stage ok g = ok
  count-allowed FortyEight stage ok g = ok
  count-allowed Full stage ok g = ok

  index-allowed : (kind : Kind) (stage : Stage) → IsStoring stage → (g : Growing) (j : ℕ) → IsAllowed c stage (grow_keys_turn kind c g j)
  index-allowed Four stage ok g j = go (j == 0)
    where
      go : (b : Bool) → IsAllowed c stage (if b then store_of (keys_at g.base) (keys16_word (keys_after c g.hold g.keys))
          else store_of (more_keys_at g.base) (more_keys16_word (keys_after c g.hold g.keys)))
      go true = ok
      go false = ok
  index-allowed Sixteen stage ok g j = ok
  index-allowed FortyEight stage ok g j = ok
  index-allowed Full stage ok g j = ok

  pub allowed : (stage : Stage) → is_work stage ≡ true → KnowsKey P c stage → IsAllowed c stage (turn_at c stage)
  allowed (Lock t first) w k = absurd (false≢true w)
  allowed (Exchange t v) w k = absurd (false≢true w)
  allowed (Wait t) w k = absurd (false≢true w)
  allowed (Leave d) w k = absurd (false≢true w)
  allowed (Between d kept) w k = absurd (false≢true w)
  allowed (Info d kept) w k = absurd (false≢true w)
  allowed (Find p) w k = absurd (false≢true w)
  allowed (FindKeys p count) w k = absurd (false≢true w)
  allowed (FindMore p count first) w k = absurd (false≢true w)
  allowed (FindCount p index) w k = absurd (false≢true w)
  allowed (Slot p slot) w k = absurd (false≢true w)
  allowed (Check p f) w k = absurd (false≢true w)
  allowed (CheckLast n) w k = absurd (false≢true w)
  allowed (LetGo above p f) w k = absurd (false≢true w)
  allowed (Take t) w k = absurd (false≢true w)
  allowed (Write h slot word reply) w k = (refl, refl)
  allowed (ClaimPair h p) w k = refl
  allowed (StorePair h p base word) w k = pair-allowed h p base word
  allowed (PutLoad h keys left) w k = record {
    row = lock_of h.row;
    among = inl refl;
    behind = slot-behind h.row.base h.row.kind (child_at h.row.kind h.row.base (place_in c h keys + left)) (
      place_in c h keys + left,
      omega
          (arith, k.fits.1),
      refl,
    );
  }
  allowed (PutStore h keys left word) w k = (refl, refl)
  allowed (PutLeaf h keys) w k = (refl, refl)
  allowed (PutKeys h keys) w k = keys-allowed h.row.kind (PutKeys h keys) (refl, refl) h keys
  allowed (PutMore h keys) w k = (refl, refl)
  allowed (PutCount h keys) w k = (refl, refl)
  allowed (ClaimGrow h slot keys) w k = refl
  allowed (GrowInfo g) w k = (refl, refl)
  allowed (GrowLoad g i left) w k = record {
    row = lock_of g.hold.row;
    among = inl refl;
    behind = slot-behind g.hold.row.base g.hold.row.kind (child_at g.hold.row.kind g.hold.row.base i) (i, omega (arith, k.fits.2), refl);
  }
  allowed (GrowStore g i left word) w k = (refl, refl)
  allowed (SpreadIndex g j left) w k = record {
    row = lock_of g.hold.row;
    among = inl refl;
    behind = subst (λ kind. IsAfterVersion g.hold.row.base kind (index_at g.hold.row.base (8 * j))) (sym k.fits.1)
        (omega (arith, k.fits.2), omega (arith, k.fits.2));
  }
  allowed (SpreadLoad s i left) w k =
      let word = child_at FortyEight s.growing.hold.row.base (slice_index (entries_of s.word) i - 1) in
      record {
        row = lock_of s.growing.hold.row;
        among = inl refl;
        behind = subst (λ kind. IsAfterVersion s.growing.hold.row.base kind word) (sym k.fits.1)
            (slot-behind s.growing.hold.row.base FortyEight word (slice_index (entries_of s.word) i - 1, entry-fits s.word i, refl));
      }
  allowed (SpreadStore s i left word) w k = (refl, refl)
  allowed (GrowLeaf g) w k = leaf-allowed g.hold.row.kind (GrowLeaf g) (refl, refl) g
  allowed (GrowKeys g j left) w k = index-allowed g.hold.row.kind (GrowKeys g j left) (refl, refl) g j
  allowed (GrowCount g) w k = count-allowed g.hold.row.kind (GrowCount g) (refl, refl) g
  allowed (Hang g) w k = (refl, refl)
  allowed (Obsolete h) w k = (refl, refl)
  allowed (Unlock h outcome) w k = (refl, refl)
  allowed (Over outcome) w k = refl

-- the root is a row
pub root-row : (shape : Shape) → 1 ≤ shape.rows256 → RowsOf shape (root_base shape) Full
root-row shape some = kind_at-base_of shape Full 0 some

-- what a call does that knows rows of the table alone
pub rows-do : (variant : Variant) → IsFull variant → (shape : Shape) (call : Call) → 1 ≤ shape.rows256 → (at : CallAt)
    → Knows (RowsOf shape) (setting shape variant call) at → AccessDoes (RowsOf shape) (setting shape variant call) at
rows-do variant full shape call some at k = does variant full shape call (RowsOf shape) (λ b k e. e) (root-row shape some) at k

pub rows-known : (variant : Variant) (shape : Shape) (n : ℕ) (s : State) (p : ℕ) (call : Call) (q : Process) → IsSound variant shape n s
    → IsOpen s p call q
    → Knows (RowsOf shape) (setting shape variant call) (stage_of variant shape call q)
rows-known variant shape n s p call q h o =
    knows-more (IsSettled variant shape s) (RowsOf shape) (setting shape variant call) (λ b k x. settled-row variant shape s b k x)
    (stage_of variant shape call q)
    (h.knows p call q o)
