-- A scan that runs alone walks a row, by its kind.
use Rattle.art_schedules.proofs.Common.{◌≡◌, ℕ, suc, ◌+◌, ◌-◌, ◌*◌, ◌/◌, ◌%◌, ◌<◌, ◌≤◌, List, [], ◌∷◌, ◌++◌, length, refl, sym}
use Rattle.std.specs.Prelude.{option_map}
use Rattle.art_rows.specs.Rows.{Row}
use Rattle.art_schedules.proofs.Common.{ap, ◌∙◌, subst, arith, Bool, true, false, eqb-true, Contains, flat_map}
use Rattle.art_schedules.proofs.Common.{All-weaker, All-contains, AllPairs-filter, All-from_contains, Contains-from_filter, Contents}
use Rattle.art_schedules.proofs.Common.{within, Kind, Four, Sixteen, FortyEight, Full, first_child, row_words, child_at, keys_at, more_keys_at}
use Rattle.art_schedules.proofs.Common.{count_at, index_at, child_of, keys4_of, keys16_of, place_of, entries_of, Part, ◌>>=◌, give, load, over}
use Rattle.art_schedules.proofs.Common.{numbers, Setting, locks, load_child, Walked, walk_child, walk_in, Reached, child_in, child_on, slot_of}
use Rattle.art_schedules.proofs.Common.{entry_slot, pairs_in, pairs_below, level_in, path_in, IsAtRest, Comes}
use Rattle.std.proofs.Common.{AllPairs, Option, ◌==◌, slice_index, if◌then◌else◌, Some, None}
use Rattle.art_rows.specs.Scan.{walk_slot, walk_place, walk_keys, walk_entry, walk_index}
use Rattle.art_schedules.proofs.alone.AloneLemmas.{give-comes, bind-comes, load-comes}
use Rattle.art_schedules.proofs.alone.SlotLemmas.{slot-is}
use Rattle.art_schedules.proofs.alone.LikeLemmas.{Like, like-row}
use Rattle.art_schedules.proofs.walks.EnterLemmas.{Walking}
use Rattle.art_schedules.proofs.walks.VisitLemmas.{GoesBy, FreeOf, Walks, WalksRows, under, walks-nothing, walks-child}
use Rattle.art_schedules.proofs.walks.ByteWalkLemmas.{other-byte, walks-over}
use Rattle.art_schedules.proofs.walks.GroupLemmas.{group, grouped}
use Rattle.art_schedules.proofs.walks.NumberLemmas.{Contains-from_numbers, numbers-rise}

-- children come after the version
behind-version : (kind : Kind) (place : ℕ) → first_child kind ≤ place → 1 ≤ place
behind-version Four place le = omega (arith, le)
behind-version Sixteen place le = omega (arith, le)
behind-version FortyEight place le = omega (arith, le)
behind-version Full place le = omega (arith, le)

module _ (c : Setting) (n : ℕ) (words : List ℕ) (rest : IsAtRest c.shape n words) (low high : ℕ) (locking : Bool)
    (e : locks c.variant ≡ locking)
    (walk : Row → Walked → Part Walked) (depth : ℕ) (walks : WalksRows c n words rest low high locking depth walk) (r : Row)
    (reached : Reached c.shape words r.base r.kind) (level : r.level ≡ level_in words r.base r.kind)
    (path : r.path ≡ path_in words r.base r.kind)
    (deep : 4 ≤ suc depth + r.level) where
  -- the pairs of the range under a byte
  abbrev pairs_at : ℕ → Contents
  pairs_at x = within low high (under c n words rest low high depth r.base r.kind x)

  -- the part walks what is under byte x
  abbrev WalksByte : Part Walked → List ℕ → Walked → ℕ → Type 0
  WalksByte part now w x =
      Walks c n words rest low high locking part now w (pairs_at x) (λ q. GoesBy c n words rest low high r.path x q.base q.kind)

  slot-word : (now : List ℕ) (x slot : ℕ) → x < 256 → slot_of words r.base r.kind x ≡ Some slot → {held : ℕ → Type 0}
      → Like c.shape words words now held
      → slice_index now slot ≡ slice_index words slot
  slot-word now x slot small at like =
      let its = slot-is words r.base r.kind x slot small at in
      ap (slice_index now) its.is ∙ (like-row c.shape n words rest like reached its.place (behind-version r.kind its.place its.low)
      its.high ∙ ap (slice_index words) (sym its.is))

  pub walks-slot : (now : List ℕ) (w : Walked) (x slot : ℕ) → x < 256 → slot_of words r.base r.kind x ≡ Some slot
      → Walking c n words rest locking now w.rows → FreeOf c n words rest low high r.path x w.rows → length (w.pairs ++ pairs_at x) ≤ 4096
      → WalksByte (walk_slot c low high walk slot w) now w x
  unfolding walk_slot load_child
  walks-slot now w x slot small at walking free few =
      let child = child_of c.shape (slice_index words slot) in
      let is : child_on c.shape words r.base r.kind x ≡ child = ap (child_in c.shape words) at in
      let inner = walks-child c n words rest low high locking walk depth now w r x child e walks reached level path deep
      small is walking free
      (subst (λ p. length (w.pairs ++ within low high (pairs_in (pairs_below depth c.shape words) p)) ≤ 4096) is few) in
      let said : child_of c.shape (slice_index now slot) ≡ child = ap (child_of c.shape) (slot-word now x slot small at walking.like) in
      record {
        walked = inner.walked;
        later = inner.later;
        comes = bind-comes {f = λ p. walk_child c low high walk p w}
            (bind-comes {f = λ v. give (child_of c.shape v)} (load-comes slot now)
            (give-comes (child_of c.shape (slice_index now slot)) now))
            (subst (λ p. Comes (walk_child c low high walk p w) now inner.walked inner.later) (sym said) inner.comes);
        walking = inner.walking;
        pairs_are = inner.pairs_are ∙ ap (λ p. w.pairs ++ within low high (pairs_in (pairs_below depth c.shape words) p)) (sym is);
        more = inner.more;
        rows_are = inner.rows_are;
        below = inner.below;
      }

  -- a byte that the row lacks is passed over
  walks-none : (now : List ℕ) (w : Walked) (x : ℕ) → slot_of words r.base r.kind x ≡ None → Walking c n words rest locking now w.rows
      → WalksByte (give w) now w x
  walks-none now w x at walking =
      let none = walks-nothing c n words rest low high locking now w (λ q. GoesBy c n words rest low high r.path x q.base q.kind) walking in
      record {
        walked = none.walked;
        later = none.later;
        comes = none.comes;
        walking = none.walking;
        pairs_are = none.pairs_are
            ∙ ap (λ p. w.pairs ++ within low high (pairs_in (pairs_below depth c.shape words) p)) (sym (ap (child_in c.shape words) at));
        more = none.more;
        rows_are = none.rows_are;
        below = none.below;
      }

  walks-place : (keys : List ℕ) (x : ℕ) (w : Walked) (now : List ℕ) → x < 256
      → option_map (child_at r.kind r.base) (place_of x keys) ≡ slot_of words r.base r.kind x → Walking c n words rest locking now w.rows
      → FreeOf c n words rest low high r.path x w.rows → length (w.pairs ++ pairs_at x) ≤ 4096
      → WalksByte (walk_place c low high walk r (place_of x keys) w) now w x
  unfolding walk_place
  walks-place keys x w now small is walking free few = go (place_of x keys) is
    where
      go : (o : Option ℕ) → option_map (child_at r.kind r.base) o ≡ slot_of words r.base r.kind x
          → WalksByte (walk_place c low high walk r o w) now w x
      go None is = walks-none now w x (sym is) walking
      go (Some i) is = walks-slot now w x (child_at r.kind r.base i) small (sym is) walking free few

  walks-entry : (entry x : ℕ) (w : Walked) (now : List ℕ) → x < 256 → entry_slot r.base entry ≡ slot_of words r.base r.kind x
      → Walking c n words rest locking now w.rows → FreeOf c n words rest low high r.path x w.rows → length (w.pairs ++ pairs_at x) ≤ 4096
      → WalksByte (walk_entry c low high walk r entry w) now w x
  unfolding walk_entry
  walks-entry entry x w now small is walking free few = go (entry == 0) is
    where
      go : (b : Bool) → (if b then None else Some (child_at FortyEight r.base (entry - 1))) ≡ slot_of words r.base r.kind x
          → WalksByte (if b then give w else walk_slot c low high walk (child_at FortyEight r.base (entry - 1)) w) now w x
      go true is = walks-none now w x (sym is) walking
      go false is = walks-slot now w x (child_at FortyEight r.base (entry - 1)) small (sym is) walking free few

  -- ---- by kind

  apart : (x y : ℕ) → x < y → (q : Row) → GoesBy c n words rest low high r.path x q.base q.kind
      → GoesBy c n words rest low high r.path y q.base q.kind → ⊥
  apart x y less q one two = absurd (omega (arith, less, other-byte r.path x y (sym one ∙ two)))

  -- the part walks what is under these bytes
  abbrev pub WalksAll : Part Walked → List ℕ → Walked → List ℕ → Type 0
  WalksAll part now w xs = Walks c n words rest low high locking part now w (flat_map pairs_at xs)
      (λ q. (y : ℕ) × GoesBy c n words rest low high r.path y q.base q.kind)

  -- key bytes are read once, and then each byte is looked up among them
  walks-keys : (keys : List ℕ) (xs : List ℕ) (w : Walked) (now : List ℕ) → ((x : ℕ) → Contains xs x → x < 256)
      → ((x : ℕ) → option_map (child_at r.kind r.base) (place_of x keys) ≡ slot_of words r.base r.kind x) → AllPairs (λ a b. a < b) xs
      → Walking c n words rest locking now w.rows → ((x : ℕ) → FreeOf c n words rest low high r.path x w.rows)
      → length (w.pairs ++ flat_map pairs_at xs) ≤ 4096 → WalksAll (walk_keys c low high walk r keys xs w) now w xs
  unfolding walk_keys
  walks-keys keys xs w now small is rising walking free few =
      walks-over c n words rest low high (λ x q. GoesBy c n words rest low high r.path x q.base q.kind) apart locking
      (λ x. walk_place c low high walk r (place_of x keys)) pairs_at xs w now
      (λ x v at h walking free few. walks-place keys x v at (small x h) (is x) walking free few) rising walking (λ x h. free x) few

  -- what was walked, said otherwise
  walks-as : {part : Part Walked} {now : List ℕ} {w : Walked} {pairs pairs2 : Contents} {IsBelow IsBelow2 : Row → Type 0} → pairs ≡ pairs2
      → ((q : Row) → IsBelow q → IsBelow2 q) → Walks c n words rest low high locking part now w pairs IsBelow
      → Walks c n words rest low high locking part now w pairs2 IsBelow2
  walks-as {part} {now} {w} {pairs} {pairs2} {IsBelow} {IsBelow2} is more walked = record {
    walked = walked.walked;
    later = walked.later;
    comes = walked.comes;
    walking = walked.walking;
    pairs_are = walked.pairs_are ∙ ap (λ p. w.pairs ++ p) is;
    more = walked.more;
    rows_are = walked.rows_are;
    below = All-weaker IsBelow IsBelow2 more walked.more walked.below;
  }

  -- a word of the row is as it was at rest
  row-word : (now : List ℕ) {held : ℕ → Type 0} (k : Kind) (j : ℕ) → r.kind ≡ k → 1 ≤ j → j < row_words k
      → Like c.shape words words now held
      → slice_index now (r.base + j) ≡ slice_index words (r.base + j)
  row-word now k j is low high like = like-row c.shape n words rest like reached j low (subst (λ q. j < row_words q) (sym is) high)

  pub walks-four : r.kind ≡ Four → (xs : List ℕ) (w : Walked) (now : List ℕ) → ((x : ℕ) → Contains xs x → x < 256)
      → AllPairs (λ a b. a < b) xs
      → Walking c n words rest locking now w.rows → ((x : ℕ) → FreeOf c n words rest low high r.path x w.rows)
      → length (w.pairs ++ flat_map pairs_at xs) ≤ 4096 → WalksAll (walk_in c low high walk Four r xs w) now w xs
  unfolding walk_in
  walks-four is xs w now small rising walking free few =
      let word = slice_index words (keys_at r.base) in
      let inner = walks-keys (keys4_of word) xs w now small
      (λ x. subst (λ k. option_map (child_at k r.base) (place_of x (keys4_of word)) ≡ slot_of words r.base k x) (sym is) refl) rising
      walking free few in
      record {
        walked = inner.walked;
        later = inner.later;
        comes = bind-comes {f = λ v. walk_keys c low high walk r (keys4_of v) xs w} (load-comes (keys_at r.base) now)
            (subst (λ (v : ℕ). Comes (walk_keys c low high walk r (keys4_of v) xs w) now inner.walked inner.later)
            (sym (row-word now Four 2 is (omega arith) (omega arith) walking.like)) inner.comes);
        walking = inner.walking;
        pairs_are = inner.pairs_are;
        more = inner.more;
        rows_are = inner.rows_are;
        below = inner.below;
      }

  pub walks-sixteen : r.kind ≡ Sixteen → (xs : List ℕ) (w : Walked) (now : List ℕ) → ((x : ℕ) → Contains xs x → x < 256)
      → AllPairs (λ a b. a < b) xs
      → Walking c n words rest locking now w.rows → ((x : ℕ) → FreeOf c n words rest low high r.path x w.rows)
      → length (w.pairs ++ flat_map pairs_at xs) ≤ 4096 → WalksAll (walk_in c low high walk Sixteen r xs w) now w xs
  unfolding walk_in
  walks-sixteen is xs w now small rising walking free few =
      let keys = keys16_of (slice_index words (count_at Sixteen r.base)) (slice_index words (keys_at r.base))
      (slice_index words (more_keys_at r.base)) in
      let inner = walks-keys keys xs w now small
      (λ x. subst (λ k. option_map (child_at k r.base) (place_of x keys) ≡ slot_of words r.base k x) (sym is) refl) rising
      walking free few in
      let count = row-word now Sixteen 4 is (omega arith) (omega arith) walking.like in
      let first = row-word now Sixteen 2 is (omega arith) (omega arith) walking.like in
      let second = row-word now Sixteen 3 is (omega arith) (omega arith) walking.like in
      let said : keys16_of (slice_index now (count_at Sixteen r.base)) (slice_index now (keys_at r.base))
      (slice_index now (more_keys_at r.base)) ≡ keys =
      rw (count, first, second) refl in
      record {
        walked = inner.walked;
        later = inner.later;
        comes = bind-comes {f = λ k. load (keys_at r.base) >>= λ f. load (more_keys_at r.base) >>= λ s. walk_keys c low high walk r
            (keys16_of k f s) xs w}
            (load-comes (count_at Sixteen r.base) now)
            (bind-comes {f = λ f. load (more_keys_at r.base) >>= λ s. walk_keys c low high walk r
            (keys16_of (slice_index now (count_at Sixteen r.base)) f s) xs w}
            (load-comes (keys_at r.base) now)
            (bind-comes {f = λ s. walk_keys c low high walk r (keys16_of (slice_index now (count_at Sixteen r.base))
            (slice_index now (keys_at r.base)) s) xs w}
            (load-comes (more_keys_at r.base) now)
            (subst (λ (keys : List ℕ). Comes (walk_keys c low high walk r keys xs w) now inner.walked inner.later)
            (sym said) inner.comes)));
        walking = inner.walking;
        pairs_are = inner.pairs_are;
        more = inner.more;
        rows_are = inner.rows_are;
        below = inner.below;
      }

  pub walks-full : r.kind ≡ Full → (xs : List ℕ) (w : Walked) (now : List ℕ) → ((x : ℕ) → Contains xs x → x < 256)
      → AllPairs (λ a b. a < b) xs
      → Walking c n words rest locking now w.rows → ((x : ℕ) → FreeOf c n words rest low high r.path x w.rows)
      → length (w.pairs ++ flat_map pairs_at xs) ≤ 4096 → WalksAll (walk_in c low high walk Full r xs w) now w xs
  unfolding walk_in
  walks-full is xs w now small rising walking free few =
      walks-over c n words rest low high (λ x q. GoesBy c n words rest low high r.path x q.base q.kind) apart locking
      (λ x. walk_slot c low high walk (child_at Full r.base x)) pairs_at xs w now
      (λ x v at h walking free few. walks-slot at v x (child_at Full r.base x) (small x h)
      (subst (λ k. slot_of words r.base k x ≡ Some (child_at Full r.base x)) (sym is) refl) walking free few) rising walking
      (λ x h. free x) few

  -- ---- kind 48: the index words one after another

  -- the row goes by a byte of index word j
  abbrev InGroup : ℕ → Row → Type 0
  InGroup j q = (y : ℕ) × (y / 8 ≡ j) × GoesBy c n words rest low high r.path y q.base q.kind

  apart-groups : (i j : ℕ) → i < j → (q : Row) → InGroup i q → InGroup j q → ⊥
  apart-groups i j less q one two =
      let same = other-byte r.path one.0 two.0 (sym one.2 ∙ two.2) in
      absurd (omega (arith, less, same, one.1, two.1))

  abbrev WalksGroup : ℕ → Part Walked → List ℕ → Walked → List ℕ → Type 0
  WalksGroup j part now w xs = Walks c n words rest low high locking part now w (flat_map pairs_at xs) (InGroup j)

  -- bytes of index word j are walked by its entries
  walks-entries : r.kind ≡ FortyEight → (j : ℕ) (xs : List ℕ) (w : Walked) (now : List ℕ)
      → ((x : ℕ) → Contains xs x → (x < 256) × (x / 8 ≡ j))
      → AllPairs (λ a b. a < b) xs → Walking c n words rest locking now w.rows
      → ((x : ℕ) → x / 8 ≡ j → FreeOf c n words rest low high r.path x w.rows) → length (w.pairs ++ flat_map pairs_at xs) ≤ 4096
      → WalksGroup j (over xs (λ y. walk_entry c low high walk r (slice_index (entries_of (slice_index words (index_at r.base (8 * j))))
      (y % 8))) w) now w xs
  walks-entries is j xs w now small rising walking free few =
      walks-as refl (λ q h. (h.0, h.1.0, h.1.1))
      (walks-over c n words rest low high InByte (λ x y less q one two. apart x y less q one.1 two.1) locking
      (λ y. walk_entry c low high walk r (slice_index (entries_of (slice_index words (index_at r.base (8 * j)))) (y % 8))) pairs_at xs w now
      (λ x v at h walking free few. walks-as refl (λ q goes. ((small x h).1, goes))
      (walks-entry (slice_index (entries_of (slice_index words (index_at r.base (8 * j)))) (x % 8)) x v at ((small x h).0)
      (slot x ((small x h).1)) walking (All-weaker (λ q. InByte x q → ⊥) (λ q. GoesBy c n words rest low high r.path x q.base q.kind → ⊥)
      (λ q none goes. none ((small x h).1, goes)) v.rows free) few)) rising walking
      (λ x h. All-weaker (λ q. GoesBy c n words rest low high r.path x q.base q.kind → ⊥) (λ q. InByte x q → ⊥)
      (λ q none goes. none goes.1) w.rows
      (free x ((small x h).1))) few)
    where
      InByte : ℕ → Row → Type 0
      InByte x q = (x / 8 ≡ j) × GoesBy c n words rest low high r.path x q.base q.kind

      slot : (x : ℕ) → x / 8 ≡ j
          → entry_slot r.base (slice_index (entries_of (slice_index words (index_at r.base (8 * j)))) (x % 8)) ≡ slot_of
          words r.base r.kind x
      slot x its =
          let word : index_at r.base (8 * j) ≡ index_at r.base x = omega (arith, its) in
          subst (λ k. entry_slot r.base (slice_index (entries_of (slice_index words (index_at r.base (8 * j)))) (x % 8)) ≡ slot_of words
          r.base k x) (sym is)
          (ap (λ i. entry_slot r.base (slice_index (entries_of (slice_index words i)) (x % 8))) word)

  walks-index : r.kind ≡ FortyEight → (j : ℕ) (xs : List ℕ) (w : Walked) (now : List ℕ) → j < 32
      → ((x : ℕ) → Contains xs x → (x < 256) × (x / 8 ≡ j))
      → AllPairs (λ a b. a < b) xs → Walking c n words rest locking now w.rows
      → ((x : ℕ) → x / 8 ≡ j → FreeOf c n words rest low high r.path x w.rows) → length (w.pairs ++ flat_map pairs_at xs) ≤ 4096
      → WalksGroup j (walk_index c low high walk r j xs w) now w xs
  unfolding walk_index
  walks-index is j [] w now in_word small rising walking free few =
      walks-nothing c n words rest low high locking now w (InGroup j) walking
  walks-index is j (x ∷ xs) w now in_word small rising walking free few =
      let inner = walks-entries is j (x ∷ xs) w now small rising walking free few in
      let place : index_at r.base (8 * j) ≡ r.base + (2 + j) = omega (arith, in_word) in
      let said : slice_index now (index_at r.base (8 * j)) ≡ slice_index words (index_at r.base (8 * j)) =
      ap (slice_index now) place ∙ (row-word now FortyEight (2 + j) is (omega arith) (omega (arith, in_word)) walking.like
      ∙ ap (slice_index words) (sym place)) in
      record {
        walked = inner.walked;
        later = inner.later;
        comes = bind-comes {f = λ v. over (x ∷ xs) (λ y. walk_entry c low high walk r (slice_index (entries_of v) (y % 8))) w}
            (load-comes (index_at r.base (8 * j)) now)
            (subst (λ (v : ℕ). Comes (over (x ∷ xs) (λ y. walk_entry c low high walk r (slice_index (entries_of v) (y % 8))) w) now
            inner.walked inner.later)
            (sym said) inner.comes);
        walking = inner.walking;
        pairs_are = inner.pairs_are;
        more = inner.more;
        rows_are = inner.rows_are;
        below = inner.below;
      }

  pub walks-forty_eight : r.kind ≡ FortyEight → (xs : List ℕ) (w : Walked) (now : List ℕ) → ((x : ℕ) → Contains xs x → x < 256)
      → AllPairs (λ a b. a < b) xs
      → Walking c n words rest locking now w.rows → ((x : ℕ) → FreeOf c n words rest low high r.path x w.rows)
      → length (w.pairs ++ flat_map pairs_at xs) ≤ 4096 → WalksAll (walk_in c low high walk FortyEight r xs w) now w xs
  unfolding walk_in
  walks-forty_eight is xs w now small rising walking free few =
      let all = grouped pairs_at xs rising small in
      walks-as all (λ q h. (h.1.0, h.1.2))
      (walks-over c n words rest low high InGroup apart-groups locking (λ j. walk_index c low high walk r j (group xs j))
      (λ j. flat_map pairs_at (group xs j))
      (numbers 0 32) w now
      (λ j v at h walking free few. walks-index is j (group xs j) v at ((Contains-from_numbers 0 32 j h).1)
      (λ x k. (let its = Contains-from_filter (λ z. z / 8 == j) xs x k in (small x its.0, eqb-true (x / 8) j its.1)))
      (AllPairs-filter (λ a b. a < b) (λ z. z / 8 == j) xs rising) walking
      (λ x its. All-weaker (λ q. InGroup j q → ⊥) (λ q. GoesBy c n words rest low high r.path x q.base q.kind → ⊥)
      (λ q none goes. none (x, its, goes)) v.rows free)
      few) (numbers-rise 0 32) walking
      (λ j h. All-from_contains (λ q. InGroup j q → ⊥) w.rows
      (λ q k goes. All-contains (λ q. GoesBy c n words rest low high r.path goes.0 q.base q.kind → ⊥) w.rows q
      (free goes.0) k goes.2)) (subst (λ p. length (w.pairs ++ p) ≤ 4096) (sym all) few))
