-- What each access of a call on a key does, where both full trees do the same.
use Rattle.art_schedules.proofs.Common.{◌≡◌, ℕ, zero, suc, ◌+◌, ◌-◌, ◌*◌, ◌<◌, ◌≤◌, List, [], ◌∷◌, ◌++◌, refl, ap, sym, subst, ◌∙◌, Bool, true}
use Rattle.art_schedules.proofs.words.TableLemmas.{kind_at-base_of, rows_apart}
use Rattle.art_schedules.proofs.Common.{Call, Four, Kind, None, Option, Some, arith, false, if◌then◌else◌, inl, inr, slice_index, ◌==◌}
use Rattle.std.specs.Prelude.{◌⊎◌}
use Rattle.art_schedules.proofs.Common.{Sixteen, FortyEight, Full, Shape, Child, ChildRow, capacity, kind_at, child_at, root_base, rows_of}
use Rattle.art_schedules.proofs.Common.{base_of, info_at, keys_at, more_keys_at, index_at, count_at, entries_of, child_of, row_word}
use Rattle.art_schedules.proofs.Common.{new_place-most, key_byte-small, keys4-few, keys16-few, Setting, key_of}
use Rattle.art_schedules.proofs.Common.{is_insert, locks, releases_early, new_leaf, HeldRow, Hold, Stage, Wait, Leave, Between, Info, Find, FindKeys}
use Rattle.art_schedules.proofs.Common.{FindMore, FindCount, Slot, Check, CheckLast, LetGo, Take, Write, ClaimPair, StorePair, PutLoad, PutStore}
use Rattle.art_schedules.proofs.Common.{PutLeaf, PutKeys, PutMore, PutCount, ClaimGrow, GrowInfo, GrowLoad, GrowStore, SpreadIndex, SpreadLoad}
use Rattle.art_schedules.proofs.Common.{SpreadStore, GrowLeaf, GrowKeys, GrowCount, Hang, Obsolete, Unlock, Over, row_at, held, count_in, keys_in}
use Rattle.art_schedules.proofs.Common.{byte_in, place_in, leaf_place, setting, checked_at, Turn, OnKey, OfRows, Named, Each, IsSlot, child_rows}
use Rattle.art_schedules.proofs.Common.{IsKept, IsNamed, KnowsKey, FitsPlace, HasSlot, IsFound, kept_at_place, rows_found, IsAmong, With}
use Rattle.art_schedules.proofs.Common.{AccessDoes, Answered, Claims, Down, Ends, Finding, IsAfterVersion, Reads, Releases, Writes}
use Rattle.art_schedules.specs.versions.Effects.{Fills, Has}
use Rattle.art_schedules.proofs.Common.{Position, Target, Variant, all_of, held_at_place, lock_of, locks_of, rows_of_hold, behind}
use Rattle.std.proofs.lemmas.Bool.{lt-ltb, le-ltb}
use Rattle.std.specs.Prelude.{nat_lt}
use Rattle.art_rows.specs.Words.{keys16_word, more_keys16_word}
use Rattle.art_rows.specs.Updates.{lesser, greater, Under, next_kind}
use Rattle.art_control_states.specs.declared.stage.Keys.{Keys}
use Rattle.art_control_states.specs.declared.stage.Finding.TheVariants.{Has as Seen}
use Rattle.art_control_states.specs.declared.stage.Pair.{Pair}
use Rattle.art_control_states.specs.declared.stage.PairWord.{PairWord}
use Rattle.art_control_states.specs.declared.stage.Growing.{Growing}
use Rattle.art_control_states.specs.declared.stage.Spread.{Spread}
use Rattle.art_control_states.specs.declared.stage.Outcome.TheVariants.{Refused}
use Rattle.art_control_states.specs.declared.stage.Stage.TheVariants.{Lock, Exchange}
use Rattle.art_control_states.specs.Stages.{keys_after, old_child, new_child}
use Rattle.art_control_states.specs.Automaton.{copies_at, spreads_at, entries_at, keys_at_after, store_of}
use Rattle.art_schedules.specs.versions.Holding.{row_grown, HangsIn, IsCopied, FitsGrowing}
use Rattle.art_schedules.proofs.versions.WordFacts.{entry-fits, child-good, new-leaf-rows}
use Rattle.art_schedules.proofs.versions.AfterLemmas.{among, finds, released, moves, IsAt}
use Rattle.art_control_states.specs.declared.stage.Taking.{Taking}
use Rattle.art_control_states.specs.declared.stage.PairWord.TheVariants as pair_word

pub each-weaker : {A : Type 0} (P Q : A → Type 0) → ((x : A) → P x → Q x) → (xs : List A) → Each P xs → Each Q xs
each-weaker P Q w [] h = tt
each-weaker P Q w (x ∷ xs) h = (w x h.0, each-weaker P Q w xs h.1)

pub each-split : {A : Type 0} (P : A → Type 0) (xs ys : List A) → Each P (xs ++ ys) → Each P xs × Each P ys
each-split P [] ys h = (tt, h)
each-split P (x ∷ xs) ys h = let rest = each-split P xs ys h.1 in ((h.0, rest.0), rest.1)

pub slot-behind : (base : ℕ) (kind : Kind) (word : ℕ) → IsSlot base kind word → IsAfterVersion base kind word
slot-behind base Four word h = (omega (arith, h.1, h.2), omega (arith, h.1, h.2))
slot-behind base Sixteen word h = (omega (arith, h.1, h.2), omega (arith, h.1, h.2))
slot-behind base FortyEight word h = (omega (arith, h.1, h.2), omega (arith, h.1, h.2))
slot-behind base Full word h = (omega (arith, h.1, h.2), omega (arith, h.1, h.2))

-- the row that a call is at is kept, and one that has a slot of its hold is held
place-row : (l i : Bool) (P : OfRows) (p : Position) → Each (IsKept l P) (kept_at_place l i p) → IsKept l P p.row
place-row true true P p k = k.0
place-row true false P p k = k.0
place-row false i P p k = k.0

record Holder (l : Bool) (P : OfRows) (h : Hold) (slot : ℕ) : Type 0 where
  row : HeldRow
  among : IsAmong row (locks_of (rows_of_hold h))
  kept : IsKept l P row
  has : IsSlot row.base row.kind slot

slot-holder : (l : Bool) (P : OfRows) (row : HeldRow) (above : Option HeldRow) (slot : ℕ) → HasSlot l (record { row = row; above = above }) slot
    → Each (IsKept l P) (row ∷ all_of above) → Holder l P (record { row = row; above = above }) slot
slot-holder false P row above slot fits kept = record { row = lock_of row; among = inl refl; kept = kept.0; has = fits }
slot-holder true P row above slot (inl fits) kept = record { row = lock_of row; among = inl refl; kept = kept.0; has = fits }
slot-holder true P row (Some a) slot (inr fits) kept = record { row = lock_of a; among = inr (inl refl); kept = kept.1.0; has = fits }
slot-holder true P row None slot (inr fits) kept = absurd fits

module _ (l : Bool) (s : Shape) (P : OfRows) where
  kept-with : (b : ℕ) (k : Kind) (xs : List HeldRow) → Each (IsKept l P) xs → Each (IsKept l (With P b k)) xs
  kept-with b k xs h = each-weaker (IsKept l P) (IsKept l (With P b k)) (λ x y. (y.0, inl y.1)) xs h

  -- a word of a row that is none of its slots is no slot
  bare : (b : ℕ) (k : Kind) (word : ℕ) → kind_at s b ≡ Some k → IsAfterVersion b k word → (IsSlot b k word → ⊥)
      → (base : ℕ) (kind : Kind) → kind_at s base ≡ Some kind → IsSlot base kind word → ⊥
  bare b k word row behind none base kind e slot =
      let other = slot-behind base kind word slot in
      let same = rows_apart s base b kind k word e row (omega (arith, other.0)) other.1 (omega (arith, behind.0)) behind.1 in
      none (subst (λ x. IsSlot b x word) same.1 (subst (λ x. IsSlot x kind word) same.0 slot))

module _ (variant : Variant) (s : Shape) (call : Call) (P : OfRows) (is_row : (b : ℕ) (k : Kind) → P b k → kind_at s b ≡ Some k)
    (root : P (root_base s) Full) where
  abbrev c : Setting
  c = setting s variant call

  abbrev Doing : Stage → Type 0
  Doing stage = AccessDoes P c (OnKey stage)

  abbrev l : Bool
  l = locks variant

  abbrev i : Bool
  i = is_insert call

  abbrev e : Bool
  e = releases_early variant

  -- PUT

  put-keys-does : (base : ℕ) (kind : Kind) (info was : ℕ) (above : Option HeldRow) (keys : Keys)
      → KnowsKey P c (PutKeys (record { row = held base kind info was; above = above }) keys)
      → Doing (PutKeys (record { row = held base kind info was; above = above }) keys)
  put-keys-does base Four info was above keys k =
      let row = is_row base Four k.kept.0.1 in
      let behind : IsAfterVersion base Four (keys_at base) = (omega arith, omega arith) in
      Writes (held base Four 0 was) _ _ _ refl (inl refl) k.kept.0 behind
      (λ ob ok oe os. absurd (bare l s P base Four (keys_at base) row behind (λ h. omega (arith, h.2)) ob ok oe os))
      (record { kept = k.kept; known = tt; fits = tt; filled = tt }, refl, refl)
  put-keys-does base Sixteen info was above keys k =
      let row = is_row base Sixteen k.kept.0.1 in
      let behind : IsAfterVersion base Sixteen (keys_at base) = (omega arith, omega arith) in
      Writes (held base Sixteen 0 was) _ _ _ refl (inl refl) k.kept.0 behind
      (λ ob ok oe os. absurd (bare l s P base Sixteen (keys_at base) row behind (λ h. omega (arith, h.2)) ob ok oe os))
      (record { kept = k.kept; known = tt; fits = refl; filled = tt }, refl, refl)
  put-keys-does base FortyEight info was above keys k =
      let row = is_row base FortyEight k.kept.0.1 in
      let small = key_byte-small (key_of call) (row_at (held base FortyEight info was)).level in
      let word = index_at base (byte_in c (held base FortyEight info was)) in
      let behind : IsAfterVersion base FortyEight word = (omega (arith, small), omega (arith, small)) in
      Writes (held base FortyEight 0 was) _ _ _ refl (inl refl) k.kept.0 behind
      (λ ob ok oe os. absurd (bare l s P base FortyEight word row behind (λ h. omega (arith, h.2, small)) ob ok oe os))
      (record { kept = k.kept; known = tt; fits = inr refl; filled = tt }, refl, refl)
  put-keys-does base Full info was above keys k = absurd k.fits

  put-more-does : (base : ℕ) (kind : Kind) (info was : ℕ) (above : Option HeldRow) (keys : Keys) → kind ≡ Sixteen
      → KnowsKey P c (PutMore (record { row = held base kind info was; above = above }) keys)
      → Doing (PutMore (record { row = held base kind info was; above = above }) keys)
  put-more-does base Sixteen info was above keys e k =
      let row = is_row base Sixteen k.kept.0.1 in
      let behind : IsAfterVersion base Sixteen (more_keys_at base) = (omega arith, omega arith) in
      Writes (held base Sixteen 0 was) _ _ _ refl (inl refl) k.kept.0 behind
      (λ ob ok oe os. absurd (bare l s P base Sixteen (more_keys_at base) row behind (λ h. omega (arith, h.2)) ob ok oe os))
      (record { kept = k.kept; known = tt; fits = inl refl; filled = tt }, refl, refl)
  put-more-does base Four info was above keys e k = absurd (differ e)
    where
      differ : Four ≡ Sixteen → ⊥
      differ e = cc
  put-more-does base FortyEight info was above keys e k = absurd (differ e)
    where
      differ : FortyEight ≡ Sixteen → ⊥
      differ e = cc
  put-more-does base Full info was above keys e k = absurd (differ e)
    where
      differ : Full ≡ Sixteen → ⊥
      differ e = cc

  put-count-does : (base : ℕ) (kind : Kind) (info was : ℕ) (above : Option HeldRow) (keys : Keys) → (kind ≡ Sixteen) ⊎ (kind ≡ FortyEight)
      → KnowsKey P c (PutCount (record { row = held base kind info was; above = above }) keys)
      → Doing (PutCount (record { row = held base kind info was; above = above }) keys)
  put-count-does base Sixteen info was above keys e k =
      let row = is_row base Sixteen k.kept.0.1 in
      let behind : IsAfterVersion base Sixteen (count_at Sixteen base) = (omega arith, omega arith) in
      Writes (held base Sixteen 0 was) _ _ _ refl (inl refl) k.kept.0 behind
      (λ ob ok oe os. absurd (bare l s P base Sixteen (count_at Sixteen base) row behind (λ h. omega (arith, h.2)) ob ok oe os))
      (record { kept = k.kept; known = tt; fits = tt; filled = tt }, refl, refl)
  put-count-does base FortyEight info was above keys e k =
      let row = is_row base FortyEight k.kept.0.1 in
      let behind : IsAfterVersion base FortyEight (count_at FortyEight base) = (omega arith, omega arith) in
      Writes (held base FortyEight 0 was) _ _ _ refl (inl refl) k.kept.0 behind
      (λ ob ok oe os. absurd (bare l s P base FortyEight (count_at FortyEight base) row behind (λ h. omega (arith, h.2)) ob ok oe os))
      (record { kept = k.kept; known = tt; fits = tt; filled = tt }, refl, refl)
  put-count-does base Four info was above keys e k = absurd (neither e)
    where
      neither : (Four ≡ Sixteen) ⊎ (Four ≡ FortyEight) → ⊥
      neither (inl e) = cc
      neither (inr e) = cc
  put-count-does base Full info was above keys e k = absurd (neither e)
    where
      neither : (Full ≡ Sixteen) ⊎ (Full ≡ FortyEight) → ⊥
      neither (inl e) = cc
      neither (inr e) = cc

  with-row : (base : ℕ) (kind : Kind) → kind_at s base ≡ Some kind → (b : ℕ) (k : Kind) → With P base kind b k → kind_at s b ≡ Some k
  with-row base kind row b k (inl x) = is_row b k x
  with-row base kind row b k (inr x) = ap (kind_at s) x.0 ∙ (row ∙ ap Some (sym x.1))

  -- PAIR

  lesser-rows : (Q : Child → Type 0) (a b : Under) → Q a.child → Q b.child → Q (lesser a b).child × Q (greater a b).child
  lesser-rows Q a b ha hb = go (nat_lt a.byte b.byte)
    where
      go : (x : Bool) → Q (if x then a else b).child × Q (if x then b else a).child
      go true = (ha, hb)
      go false = (hb, ha)

  pair-does : (h : Hold) (p : Pair) (base : ℕ) (word : PairWord) → KnowsKey P c (StorePair h p base word) → Doing (StorePair h p base word)
  pair-does h p base pair_word.Info k =
      let row = k.filled.0 in
      let behind : IsAfterVersion base Four (info_at base) = (omega arith, omega arith) in
      Fills base Four _ _ _ refl refl behind row
      (λ ob ok oe os. absurd (bare l s P base Four (info_at base) row behind (λ x. omega (arith, x.2)) ob ok oe os))
      (record { kept = k.kept; known = k.known; fits = k.fits; filled = k.filled }, refl, refl)
  pair-does h p base pair_word.Keys k =
      let row = k.filled.0 in
      let behind : IsAfterVersion base Four (keys_at base) = (omega arith, omega arith) in
      Fills base Four _ _ _ refl refl behind row
      (λ ob ok oe os. absurd (bare l s P base Four (keys_at base) row behind (λ x. omega (arith, x.2)) ob ok oe os))
      (record { kept = k.kept; known = k.known; fits = k.fits; filled = k.filled }, refl, refl)
  pair-does h p base pair_word.Lesser k =
      let row = k.filled.0 in
      let behind : IsAfterVersion base Four (child_at Four base 0) = (omega arith, omega arith) in
      let rows = lesser-rows (λ x. Each (IsNamed P) (child_rows x)) (old_child p) (new_child c p) k.known (new-leaf-rows s P call) in
      Fills base Four _ _ _ refl refl behind row (λ b k e slot. child-good s P is_row _ rows.0)
      (record { kept = k.kept; known = k.known; fits = k.fits; filled = k.filled }, refl, refl)
  pair-does h p base pair_word.Greater k =
      let row = k.filled.0 in
      let behind : IsAfterVersion base Four (child_at Four base 1) = (omega arith, omega arith) in
      let rows = lesser-rows (λ x. Each (IsNamed P) (child_rows x)) (old_child p) (new_child c p) k.known (new-leaf-rows s P call) in
      let after : KnowsKey (With P base Four) c (Write h p.slot (row_word base) None) = record {
        kept = kept-with l s P base Four (rows_of_hold h) k.kept;
        known = child-good s (With P base Four) (with-row base Four row) (ChildRow base Four) (inr (refl, refl), tt);
        fits = k.fits;
        filled = tt;
      } in
      Ends base Four _ _ _ refl refl behind row (λ b k e slot. child-good s P is_row _ rows.1) (after, refl, refl)

  -- GROW

  abbrev growing : ℕ → Kind → ℕ → ℕ → Option HeldRow → ℕ → Keys → ℕ → Growing
  growing old kind info was above slot keys base =
      record { hold = record { row = held old kind info was; above = above }; slot = slot; keys = keys; base = base }

  -- where the row that grows is copied further
  abbrev Grows : Growing → Stage → Type 0
  Grows g stage = Has P c (OnKey stage) (locks_of (rows_of_hold g.hold)) (row_grown g)

  abbrev IsRow : Growing → Type 0
  IsRow g = kind_at s g.base ≡ Some (next_kind g.hold.row.kind)

  copies : (g : Growing) (place n : ℕ) → Each (IsKept l P) (rows_of_hold g.hold) → FitsGrowing g → IsCopied g.hold.row.kind
      → place + n ≤ capacity g.hold.row.kind → IsRow g → Grows g (copies_at g place n)
  copies g place zero kept fits copied less row = (record { kept = kept; known = tt; fits = fits; filled = (row, tt) }, refl, refl)
  copies g place (suc n) kept fits copied less row =
      (record { kept = kept; known = tt; fits = (fits, copied, omega (arith, less)); filled = (row, tt) }, refl, refl)

  spreads : (g : Growing) (place n : ℕ) → Each (IsKept l P) (rows_of_hold g.hold) → FitsGrowing g
      → g.hold.row.kind ≡ FortyEight → place + n ≤ 32
      → IsRow g → Grows g (spreads_at g place n)
  spreads g place zero kept fits is less row = (record { kept = kept; known = tt; fits = fits; filled = (row, tt) }, refl, refl)
  spreads g place (suc n) kept fits is less row =
      (record { kept = kept; known = tt; fits = (fits, is, omega (arith, less)); filled = (row, tt) }, refl, refl)

  entries : (x : Spread) (entry n : ℕ) → Each (IsKept l P) (rows_of_hold x.growing.hold) → FitsGrowing x.growing
      → x.growing.hold.row.kind ≡ FortyEight
      → x.place + x.left < 32 → entry + n ≤ 8 → IsRow x.growing → Grows x.growing (entries_at x entry n)
  entries x entry zero kept fits is less few row = spreads x.growing (x.place + 1) x.left kept fits is (omega (arith, less)) row
  entries x entry (suc n) kept fits is less few row =
      go (slice_index (entries_of x.word) entry == 0) (entries x (entry + 1) n kept fits is less (omega (arith, few)) row)
    where
      go : (b : Bool) → Grows x.growing (entries_at x (entry + 1) n)
          → Grows x.growing (if b then entries_at x (entry + 1) n else SpreadLoad x entry n)
      go true rest = rest
      go false rest = (record { kept = kept; known = tt; fits = (fits, is, less, omega (arith, few)); filled = (row, tt) }, refl, refl)

  -- the new row has all its words
  hangs : (g : Growing) → Each (IsKept l P) (rows_of_hold g.hold) → FitsGrowing g
      → Has (With P g.base (next_kind g.hold.row.kind)) c (OnKey (Hang g)) (locks_of (rows_of_hold g.hold)) []
  hangs g kept fits = (
    record {
      kept = kept-with l s P g.base (next_kind g.hold.row.kind) (rows_of_hold g.hold) kept;
      known =
          (inr (refl, refl), tt);
      fits = fits;
      filled = tt;
    },
    refl,
    refl,
  )

  info-does : (old : ℕ) (kind : Kind) (info was : ℕ) (above : Option HeldRow) (slot : ℕ) (keys : Keys) (base : ℕ)
      → KnowsKey P c (GrowInfo (growing old kind info was above slot keys base))
      → Doing (GrowInfo (growing old kind info was above slot keys base))
  info-does old Four info was above slot keys base k =
      let row = k.filled.0 in
      let behind : IsAfterVersion base Sixteen (info_at base) = (omega arith, omega arith) in
      Fills base Sixteen _ _ _ refl refl behind row
      (λ ob ok oe os. absurd (bare l s P base Sixteen (info_at base) row behind (λ x. omega (arith, x.2)) ob ok oe os))
      (copies (growing old Four info was above slot keys base) 0 (count_in Four keys) k.kept k.fits tt
      (omega (arith, keys4-few keys.first)) row)
  info-does old Sixteen info was above slot keys base k =
      let row = k.filled.0 in
      let behind : IsAfterVersion base FortyEight (info_at base) = (omega arith, omega arith) in
      Fills base FortyEight _ _ _ refl refl behind row
      (λ ob ok oe os. absurd (bare l s P base FortyEight (info_at base) row behind (λ x. omega (arith, x.2)) ob ok oe os))
      (copies (growing old Sixteen info was above slot keys base) 0 (count_in Sixteen keys) k.kept k.fits tt
      (omega (arith, keys16-few keys.count keys.first keys.second)) row)
  info-does old FortyEight info was above slot keys base k =
      let row = k.filled.0 in
      let behind : IsAfterVersion base Full (info_at base) = (omega arith, omega arith) in
      Fills base Full _ _ _ refl refl behind row
      (λ ob ok oe os. absurd (bare l s P base Full (info_at base) row behind (λ x. omega (arith, x.2)) ob ok oe os))
      (record { kept = k.kept; known = tt; fits = (k.fits, refl, omega arith); filled = (row, tt) }, refl, refl)
  info-does old Full info was above slot keys base k =
      let row = k.filled.0 in
      let behind : IsAfterVersion base Full (info_at base) = (omega arith, omega arith) in
      Ends base Full _ _ _ refl refl behind row
      (λ ob ok oe os. absurd (bare l s P base Full (info_at base) row behind (λ x. omega (arith, x.2)) ob ok oe os))
      (hangs (growing old Full info was above slot keys base) k.kept k.fits)

  grow-store-does : (old : ℕ) (kind : Kind) (info was : ℕ) (above : Option HeldRow) (slot : ℕ) (keys : Keys) (base place left word : ℕ)
      → KnowsKey P c (GrowStore (growing old kind info was above slot keys base) place left word)
      → Doing (GrowStore (growing old kind info was above slot keys base) place left word)
  grow-store-does old Four info was above slot keys base place left word k =
      let g = growing old Four info was above slot keys base in
      let row = k.filled.0 in
      let at : IsSlot base Sixteen (child_at Sixteen base (if nat_lt place (place_in c g.hold g.keys) then place else place + 1)) =
      (_, moved (nat_lt place (place_in c g.hold g.keys)) k.fits.2, refl) in
      Fills base Sixteen _ _ _ refl refl (slot-behind base Sixteen _ at) row (λ ob ok oe os. k.known)
      (copies g (place + 1) left k.kept k.fits.0 tt (omega (arith, k.fits.2)) row)
    where
      moved : (b : Bool) → place + left < 4 → (if b then place else place + 1) < 16
      moved true h = omega (arith, h)
      moved false h = omega (arith, h)
  grow-store-does old Sixteen info was above slot keys base place left word k =
      let g = growing old Sixteen info was above slot keys base in
      let row = k.filled.0 in
      let at : IsSlot base FortyEight (child_at FortyEight base place) = (place, omega (arith, k.fits.2), refl) in
      Fills base FortyEight _ _ _ refl refl (slot-behind base FortyEight _ at) row (λ ob ok oe os. k.known)
      (copies g (place + 1) left k.kept k.fits.0 tt (omega (arith, k.fits.2)) row)
  grow-store-does old FortyEight info was above slot keys base place left word k = absurd k.fits.1
  grow-store-does old Full info was above slot keys base place left word k = absurd k.fits.1

  spread-load-does : (old : ℕ) (kind : Kind) (info was : ℕ) (above : Option HeldRow) (slot : ℕ) (keys : Keys)
      (base place left index entry after : ℕ)
      → kind ≡ FortyEight
      → KnowsKey P c (SpreadLoad (record {
        growing = growing old kind info was above slot keys base;
        place = place;
        left = left;
        word =
            index;
      }) entry after)
      → Doing (SpreadLoad (record {
        growing = growing old kind info was above slot keys base;
        place = place;
        left = left;
        word =
            index;
      }) entry after)
  spread-load-does old FortyEight info was above slot keys base place left index entry after e k =
      let at : IsSlot old FortyEight (child_at FortyEight old (slice_index (entries_of index) entry - 1)) =
      (slice_index (entries_of index) entry - 1, entry-fits index entry, refl) in
      Reads _ _ refl (λ value good. (
        record {
          kept = k.kept;
          known = child-good s P is_row (child_of s value) (good old FortyEight (is_row old FortyEight k.kept.0.1) at);
          fits = k.fits;
          filled = k.filled;
        },
        refl,
        refl,
      ))
  spread-load-does old Four info was above slot keys base place left index entry after e k = absurd (differ e)
    where
      differ : Four ≡ FortyEight → ⊥
      differ e = cc
  spread-load-does old Sixteen info was above slot keys base place left index entry after e k = absurd (differ e)
    where
      differ : Sixteen ≡ FortyEight → ⊥
      differ e = cc
  spread-load-does old Full info was above slot keys base place left index entry after e k = absurd (differ e)
    where
      differ : Full ≡ FortyEight → ⊥
      differ e = cc

  spread-store-does : (old : ℕ) (kind : Kind) (info was : ℕ) (above : Option HeldRow) (slot : ℕ) (keys : Keys)
      (base place left index entry after word : ℕ)
      → kind ≡ FortyEight
      → KnowsKey P c (SpreadStore (record {
        growing = growing old kind info was above slot keys base;
        place = place;
        left = left;
        word =
            index;
      }) entry after word)
      → Doing (SpreadStore (record {
        growing = growing old kind info was above slot keys base;
        place = place;
        left = left;
        word = index;
      }) entry after word)
  spread-store-does old FortyEight info was above slot keys base place left index entry after word e k =
      let x : Spread = record {
        growing = growing old FortyEight info was above slot keys base;
        place = place;
        left =
            left;
        word = index;
      } in
      let row = k.filled.0 in
      let at : IsSlot base Full (child_at Full base (8 * place + entry)) = (8 * place + entry, omega (arith, k.fits.2, k.fits.3), refl) in
      Fills base Full _ _ _ refl refl (slot-behind base Full _ at) row (λ ob ok oe os. k.known)
      (entries x (entry + 1) after k.kept k.fits.0 refl k.fits.2 (omega (arith, k.fits.3)) row)
  spread-store-does old Four info was above slot keys base place left index entry after word e k = absurd (differ e)
    where
      differ : Four ≡ FortyEight → ⊥
      differ e = cc
  spread-store-does old Sixteen info was above slot keys base place left index entry after word e k = absurd (differ e)
    where
      differ : Sixteen ≡ FortyEight → ⊥
      differ e = cc
  spread-store-does old Full info was above slot keys base place left index entry after word e k = absurd (differ e)
    where
      differ : Full ≡ FortyEight → ⊥
      differ e = cc

  grow-leaf-does : (old : ℕ) (kind : Kind) (info was : ℕ) (above : Option HeldRow) (slot : ℕ) (keys : Keys) (base : ℕ)
      → KnowsKey P c (GrowLeaf (growing old kind info was above slot keys base))
      → Doing (GrowLeaf (growing old kind info was above slot keys base))
  grow-leaf-does old Four info was above slot keys base k =
      let g = growing old Four info was above slot keys base in
      let row = k.filled.0 in
      let at : IsSlot base Sixteen (child_at Sixteen base (place_in c g.hold g.keys)) =
      (place_in c g.hold g.keys, omega (arith, new_place-most (byte_in c g.hold.row) (keys_in Four keys), keys4-few keys.first), refl) in
      Fills base Sixteen _ _ _ refl refl (slot-behind base Sixteen _ at) row
      (λ ob ok oe os. child-good s P is_row (new_leaf call) (new-leaf-rows s P call))
      (record { kept = k.kept; known = tt; fits = (k.fits, tt, omega arith); filled = k.filled }, refl, refl)
  grow-leaf-does old Sixteen info was above slot keys base k =
      let row = k.filled.0 in
      let at : IsSlot base FortyEight (child_at FortyEight base 16) = (16, omega arith, refl) in
      Fills base FortyEight _ _ _ refl refl (slot-behind base FortyEight _ at) row
      (λ ob ok oe os. child-good s P is_row (new_leaf call) (new-leaf-rows s P call))
      (record { kept = k.kept; known = tt; fits = (k.fits, tt, omega arith); filled = k.filled }, refl, refl)
  grow-leaf-does old FortyEight info was above slot keys base k =
      let g = growing old FortyEight info was above slot keys base in
      let row = k.filled.0 in
      let at : IsSlot base Full (child_at Full base (byte_in c g.hold.row)) =
      (byte_in c g.hold.row, key_byte-small (key_of call) (row_at g.hold.row).level, refl) in
      Ends base Full _ _ _ refl refl (slot-behind base Full _ at) row
      (λ ob ok oe os. child-good s P is_row (new_leaf call) (new-leaf-rows s P call))
      (hangs g k.kept k.fits)
  grow-leaf-does old Full info was above slot keys base k =
      let g = growing old Full info was above slot keys base in
      let row = k.filled.0 in
      let at : IsSlot base Full (child_at Full base (byte_in c g.hold.row)) =
      (byte_in c g.hold.row, key_byte-small (key_of call) (row_at g.hold.row).level, refl) in
      Ends base Full _ _ _ refl refl (slot-behind base Full _ at) row
      (λ ob ok oe os. child-good s P is_row (new_leaf call) (new-leaf-rows s P call))
      (hangs g k.kept k.fits)

  keys-after : (g : Growing) (place left : ℕ) → Each (IsKept l P) (rows_of_hold g.hold) → FitsGrowing g → IsCopied g.hold.row.kind
      → place + left < 32
      → IsRow g → Grows g (keys_at_after g place left)
  keys-after g place zero kept fits copied less row =
      (record { kept = kept; known = tt; fits = (fits, copied); filled = (row, tt) }, refl, refl)
  keys-after g place (suc n) kept fits copied less row =
      (record { kept = kept; known = tt; fits = (fits, copied, omega (arith, less)); filled = (row, tt) }, refl, refl)

  grow-keys-does : (old : ℕ) (kind : Kind) (info was : ℕ) (above : Option HeldRow) (slot : ℕ) (keys : Keys) (base place left : ℕ)
      → KnowsKey P c (GrowKeys (growing old kind info was above slot keys base) place left)
      → Doing (GrowKeys (growing old kind info was above slot keys base) place left)
  grow-keys-does old Four info was above slot keys base place left k = go (place == 0) refl
    where
      g : Growing
      g = growing old Four info was above slot keys base

      after : Grows g (keys_at_after g place left)
      after = keys-after g place left k.kept k.fits.0 tt k.fits.2 k.filled.0

      choose : Bool → Turn
      choose b = if b then store_of (keys_at base) (keys16_word (keys_after c g.hold keys))
          else store_of (more_keys_at base) (more_keys16_word (keys_after c g.hold keys))

      first : IsAfterVersion base Sixteen (keys_at base)
      first = (omega arith, omega arith)

      second : IsAfterVersion base Sixteen (more_keys_at base)
      second = (omega arith, omega arith)

      go : (b : Bool) → (place == 0) ≡ b → Doing (GrowKeys (growing old Four info was above slot keys base) place left)
      go true e = Fills base Sixteen (keys_at base) _ _ (ap choose e) refl first k.filled.0
          (λ ob ok oe os. absurd (bare l s P base Sixteen (keys_at base) k.filled.0 first (λ x. omega (arith, x.2)) ob ok oe os)) after
      go false e = Fills base Sixteen (more_keys_at base) _ _ (ap choose e) refl second k.filled.0
          (λ ob ok oe os. absurd (bare l s P base Sixteen (more_keys_at base) k.filled.0 second (λ x. omega (arith, x.2))
          ob ok oe os)) after
  grow-keys-does old Sixteen info was above slot keys base place left k =
      let g = growing old Sixteen info was above slot keys base in
      let row = k.filled.0 in
      let behind : IsAfterVersion base FortyEight (index_at base (8 * place)) = (omega (arith, k.fits.2), omega (arith, k.fits.2)) in
      Fills base FortyEight _ _ _ refl refl behind row
      (λ ob ok oe os. absurd (bare l s P base FortyEight (index_at base (8 * place)) row behind
      (λ x. omega (arith, x.2, k.fits.2)) ob ok oe os))
      (keys-after g place left k.kept k.fits.0 tt k.fits.2 row)
  grow-keys-does old FortyEight info was above slot keys base place left k = absurd k.fits.1
  grow-keys-does old Full info was above slot keys base place left k = absurd k.fits.1

  grow-count-does : (old : ℕ) (kind : Kind) (info was : ℕ) (above : Option HeldRow) (slot : ℕ) (keys : Keys) (base : ℕ)
      → KnowsKey P c (GrowCount (growing old kind info was above slot keys base))
      → Doing (GrowCount (growing old kind info was above slot keys base))
  grow-count-does old Four info was above slot keys base k =
      let row = k.filled.0 in
      let behind : IsAfterVersion base Sixteen (count_at Sixteen base) = (omega arith, omega arith) in
      Ends base Sixteen _ _ _ refl refl behind row
      (λ ob ok oe os. absurd (bare l s P base Sixteen (count_at Sixteen base) row behind (λ x. omega (arith, x.2)) ob ok oe os))
      (hangs (growing old Four info was above slot keys base) k.kept k.fits.0)
  grow-count-does old Sixteen info was above slot keys base k =
      let row = k.filled.0 in
      let behind : IsAfterVersion base FortyEight (count_at FortyEight base) = (omega arith, omega arith) in
      Ends base FortyEight _ _ _ refl refl behind row
      (λ ob ok oe os. absurd (bare l s P base FortyEight (count_at FortyEight base) row behind (λ x. omega (arith, x.2)) ob ok oe os))
      (hangs (growing old Sixteen info was above slot keys base) k.kept k.fits.0)
  grow-count-does old FortyEight info was above slot keys base k = absurd k.fits.1
  grow-count-does old Full info was above slot keys base k = absurd k.fits.1

  hang-does : (g : Growing) (above : Option HeldRow) → g.hold.above ≡ above → Each (IsKept l P) (all_of above) → HangsIn above g.slot
      → KnowsKey P c (Hang g) → Doing (Hang g)
  hang-does g None e kept fits k = absurd fits
  hang-does g (Some a) e kept fits k =
      Writes (lock_of a) _ _ _ refl (inr (subst (λ o. IsAmong (lock_of a) (locks_of (all_of o))) (sym e) (inl refl))) kept.0
      (slot-behind a.base a.kind g.slot fits)
      (λ ob ok oe os. child-good s P is_row (ChildRow g.base (next_kind g.hold.row.kind)) k.known)
      (record { kept = k.kept; known = tt; fits = tt; filled = tt }, refl, refl)

  -- each stage

  claim-after : (kind : Kind) (value : ℕ) (to other : Stage) (rows : List HeldRow) (filled : List Named)
      → (value < rows_of s kind → Has P c (OnKey to) rows filled) → value < rows_of s kind
      → Has P c (OnKey (if nat_lt value (rows_of s kind) then to else other)) rows filled
  claim-after kind value to other rows filled h l =
      subst (λ b. Has P c (OnKey (if b then to else other)) rows filled) (sym (lt-ltb value (rows_of s kind) l)) (h l)

  claim-fails : (kind : Kind) (value : ℕ) (to other : Stage) (rows : List HeldRow) → Has P c (OnKey other) rows [] → rows_of s kind ≤ value
      → Has P c (OnKey (if nat_lt value (rows_of s kind) then to else other)) rows []
  claim-fails kind value to other rows h l =
      subst (λ b. Has P c (OnKey (if b then to else other)) rows []) (sym (le-ltb value (rows_of s kind) l)) h

  -- The stages that are not the same in both trees.
  pub record Own : Type 0 where
    pub lock : (t : Target) (first : Bool) → KnowsKey P c (Lock t first) → Doing (Lock t first)
    pub exchange : (t : Target) (v : ℕ) → KnowsKey P c (Exchange t v) → Doing (Exchange t v)
    pub wait : (t : Target) → KnowsKey P c (Wait t) → Doing (Wait t)
    pub between : (d : Down) (kept : ℕ) → KnowsKey P c (Between d kept) → Doing (Between d kept)
    pub info : (d : Down) (kept : ℕ) → KnowsKey P c (Info d kept) → Doing (Info d kept)
    pub check : (p : Position) (f : Finding) → KnowsKey P c (Check p f) → Doing (Check p f)
    pub check_last : (n : HeldRow) → KnowsKey P c (CheckLast n) → Doing (CheckLast n)
    pub let_go : (above : HeldRow) (p : Position) (f : Finding) → KnowsKey P c (LetGo above p f) → Doing (LetGo above p f)
    pub take : (t : Taking) → KnowsKey P c (Take t) → Doing (Take t)
    -- with what FIND has seen of a row
    pub checked : (p : Position) (f : Finding) → Each (IsKept l P) (kept_at_place l i p) → FitsPlace p → IsFound p.row f
        → Each (IsNamed P) (rows_found f) → IsAt variant s call P is_row root (held_at_place l i p) (checked_at l i e c p f)

  module _ (own : Own) where
    find-does : (base : ℕ) (kind : Kind) (info was : ℕ) (above : Option HeldRow) (slot : ℕ)
        → KnowsKey P c (Find (record { row = held base kind info was; above = above; slot = slot }))
        → Doing (Find (record { row = held base kind info was; above = above; slot = slot }))
    find-does base Four info was above slot k =
        Reads _ _ refl (λ value good. finds variant s call P is_row root own.checked base Four info was above slot value k.kept k.fits
        (λ at e. absurd (differ e)))
      where
        differ : Four ≡ Full → ⊥
        differ e = cc
    find-does base Sixteen info was above slot k =
        Reads _ _ refl (λ value good. finds variant s call P is_row root own.checked base Sixteen info was above slot value k.kept k.fits
        (λ at e. absurd (differ e)))
      where
        differ : Sixteen ≡ Full → ⊥
        differ e = cc
    find-does base FortyEight info was above slot k =
        Reads _ _ refl (λ value good. finds variant s call P is_row root own.checked base FortyEight info was above slot value k.kept
        k.fits (λ at e. absurd (differ e)))
      where
        differ : FortyEight ≡ Full → ⊥
        differ e = cc
    find-does base Full info was above slot k =
        Reads _ _ refl (λ value good. finds variant s call P is_row root own.checked base Full info was above slot value k.kept k.fits
        (λ at e. good base Full (is_row base Full (place-row l i P (record {
          row = held base Full info was;
          above = above;
          slot = slot;
        }) k.kept).1) at))

    pub key-does : (stage : Stage) → KnowsKey P c stage → Doing stage
    key-does (Leave d) k = absurd k.fits
    key-does (Lock t first) k = own.lock t first k
    key-does (Exchange t v) k = own.exchange t v k
    key-does (Wait t) k = own.wait t k
    key-does (Between d kept) k = own.between d kept k
    key-does (Info d kept) k = own.info d kept k
    key-does (Check p f) k = own.check p f k
    key-does (CheckLast n) k = own.check_last n k
    key-does (LetGo above p f) k = own.let_go above p f k
    key-does (Take t) k = own.take t k
    key-does (Find p) k = find-does p.row.base p.row.kind p.row.info p.row.kept p.above p.slot k
    key-does (FindKeys p count) k = Reads _ _ refl (λ value good. (
      record {
        kept = k.kept;
        known = tt;
        fits = k.fits;
        filled =
            tt;
      },
      refl,
      refl,
    ))
    key-does (FindMore p count first) k = Reads _ _ refl (λ value good. among variant s call P is_row root own.checked p _ k.kept k.fits)
    key-does (FindCount p index) k = Reads _ _ refl (λ value good. own.checked p _ k.kept k.fits tt tt)
    key-does (Slot p slot) k = Reads _ _ refl (λ value good.
        own.checked p (Seen slot (child_of s value)) k.kept k.fits.0 k.fits.1
        (good p.row.base p.row.kind (is_row p.row.base p.row.kind (place-row l i P p k.kept).1) k.fits.1))
    key-does (Write h slot word reply) k =
        let x = slot-holder l P h.row h.above slot k.fits k.kept in
        Writes x.row _ _ _ refl x.among x.kept (slot-behind x.row.base x.row.kind slot x.has) (λ ob ok oe os. k.known)
        (record { kept = k.kept; known = tt; fits = tt; filled = tt }, refl, refl)
    key-does (ClaimPair h p) k = Claims Four _ refl refl
        (λ value l. claim-after Four value _ (Unlock h (Some Refused)) (locks_of (rows_of_hold h)) ((base_of s Four value, Four) ∷ [])
        (λ l. (record { kept = k.kept; known = k.known; fits = k.fits; filled = (kind_at-base_of s Four value l, tt) }, refl, refl)) l)
        (λ value l. claim-fails Four value (StorePair h p (base_of s Four value) pair_word.Info) (Unlock h (Some Refused))
        (locks_of (rows_of_hold h))
        (record { kept = k.kept; known = tt; fits = tt; filled = tt }, refl, refl) l)
    key-does (StorePair h p base word) k = pair-does h p base word k
    key-does (PutLoad h keys left) k = Reads _ _ refl (λ value good. (
      record {
        kept = k.kept;
        known = child-good s P is_row (child_of s value) (good h.row.base h.row.kind (is_row h.row.base h.row.kind k.kept.0.1)
            (place_in c h keys + left, omega (arith, k.fits.1), refl));
        fits = k.fits;
        filled = tt;
      },
      refl,
      refl,
    ))
    key-does (PutStore h keys left word) k =
        let at : IsSlot h.row.base h.row.kind (child_at h.row.kind h.row.base (place_in c h keys + left + 1)) =
        (place_in c h keys + left + 1, k.fits.1, refl) in
        Writes (lock_of h.row) _ _ _ refl (inl refl) k.kept.0 (slot-behind h.row.base h.row.kind _ at) (λ ob ok oe os. k.known)
        (moves variant s call P is_row root h keys left k.kept k.fits.0 (omega (arith, k.fits.1)))
    key-does (PutLeaf h keys) k =
        let at : IsSlot h.row.base h.row.kind (child_at h.row.kind h.row.base (leaf_place h.row.kind c h keys)) =
        (leaf_place h.row.kind c h keys, k.fits.1, refl) in
        Writes (lock_of h.row) _ _ _ refl (inl refl) k.kept.0 (slot-behind h.row.base h.row.kind _ at)
        (λ ob ok oe os. child-good s P is_row (new_leaf call) (new-leaf-rows s P call))
        (record { kept = k.kept; known = tt; fits = k.fits.0; filled = tt }, refl, refl)
    key-does (PutKeys h keys) k = put-keys-does h.row.base h.row.kind h.row.info h.row.kept h.above keys k
    key-does (PutMore h keys) k = put-more-does h.row.base h.row.kind h.row.info h.row.kept h.above keys k.fits k
    key-does (PutCount h keys) k = put-count-does h.row.base h.row.kind h.row.info h.row.kept h.above keys k.fits k
    key-does (ClaimGrow h slot keys) k = Claims (next_kind h.row.kind) _ refl refl
        (λ value l. claim-after (next_kind h.row.kind) value _ (Unlock h (Some Refused)) (locks_of (rows_of_hold h))
        ((base_of s (next_kind h.row.kind) value, next_kind h.row.kind) ∷ [])
        (λ l. (
          record {
            kept = k.kept;
            known = tt;
            fits = k.fits;
            filled = (kind_at-base_of s (next_kind h.row.kind) value l, tt);
          },
          refl,
          refl,
        )) l)
        (λ value l. claim-fails (next_kind h.row.kind) value _ (Unlock h (Some Refused)) (locks_of (rows_of_hold h))
        (record { kept = k.kept; known = tt; fits = tt; filled = tt }, refl, refl) l)
    key-does (GrowInfo g) k = info-does g.hold.row.base g.hold.row.kind g.hold.row.info g.hold.row.kept g.hold.above g.slot g.keys g.base k
    key-does (GrowLoad g place left) k = Reads _ _ refl (λ value good. (
      record {
        kept = k.kept;
        known = child-good s P is_row (child_of s value)
            (good g.hold.row.base g.hold.row.kind (is_row g.hold.row.base g.hold.row.kind k.kept.0.1)
            (place, omega (arith, k.fits.2), refl));
        fits = k.fits;
        filled = k.filled;
      },
      refl,
      refl,
    ))
    key-does (GrowStore g place left word) k =
        grow-store-does g.hold.row.base g.hold.row.kind g.hold.row.info g.hold.row.kept g.hold.above g.slot g.keys g.base place left word k
    key-does (SpreadIndex g place left) k = Reads _ _ refl (λ value good.
        entries (record { growing = g; place = place; left = left; word = value }) 0 8 k.kept k.fits.0 k.fits.1 k.fits.2
        (omega arith) k.filled.0)
    key-does (SpreadLoad x entry after) k =
        let g = x.growing in
        spread-load-does g.hold.row.base g.hold.row.kind g.hold.row.info g.hold.row.kept g.hold.above g.slot g.keys g.base x.place x.left
        x.word entry after
        k.fits.1 k
    key-does (SpreadStore x entry after word) k =
        let g = x.growing in
        spread-store-does g.hold.row.base g.hold.row.kind g.hold.row.info g.hold.row.kept g.hold.above g.slot g.keys g.base x.place x.left
        x.word entry after
        word k.fits.1 k
    key-does (GrowLeaf g) k = grow-leaf-does g.hold.row.base g.hold.row.kind g.hold.row.info g.hold.row.kept g.hold.above
        g.slot g.keys g.base k
    key-does (GrowKeys g place left) k =
        grow-keys-does g.hold.row.base g.hold.row.kind g.hold.row.info g.hold.row.kept g.hold.above g.slot g.keys g.base place left k
    key-does (GrowCount g) k = grow-count-does g.hold.row.base g.hold.row.kind g.hold.row.info g.hold.row.kept g.hold.above
        g.slot g.keys g.base k
    key-does (Hang g) k = hang-does g g.hold.above refl k.kept.1 k.fits k
    key-does (Obsolete h) k = Releases (lock_of h.row) (locks_of (all_of h.above)) _ _ refl (inl (refl, refl)) refl (inr refl) k.kept.0
        (released variant s call P is_row root h.above _ k.kept.1)
    key-does (Unlock h outcome) k = Releases (lock_of h.row) (locks_of (all_of h.above)) _ _ refl (inl (refl, refl)) refl (inl refl)
        k.kept.0 (released variant s call P is_row root h.above _ k.kept.1)
    key-does (Over outcome) k = Answered _ refl refl
