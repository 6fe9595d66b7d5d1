-- A scan that runs alone enters a row, and lets all its rows go.
use Rattle.art_schedules.proofs.Common.{◌≡◌, ℕ, ◌⊎◌, inl, inr, List, [], ◌∷◌, ◌++◌, refl, sym, ap, ◌∙◌, subst, Bool, true, false}
use Rattle.art_rows.specs.Rows.{Row}
use Rattle.art_schedules.proofs.Common.{eqb-true, eq-eqb, false≢true, All-head, All-tail, All-push, All-weaker, Kind, is_locked}
use Rattle.art_schedules.proofs.Common.{is_obsolete, locked_word, released_word, Setting, locks, lock, wait, unlock_all, check_of, each}
use Rattle.art_schedules.proofs.Common.{has_row, enter, Reached, IsAtRest, Comes, unlocked_rows}
use Rattle.std.proofs.Common.{slice_set, All, ◌==◌, slice_index, if◌then◌else◌}
use Rattle.art_schedules.proofs.alone.AloneLemmas.{if_true-comes, if_false-comes, each_none-comes, each-comes}
use Rattle.art_schedules.proofs.alone.RowRunLemmas.{with_lock, lock-comes, wait-comes, unlock_all-comes, check_of-comes}
use Rattle.art_schedules.proofs.alone.VersionLemmas.{locked-live, released-live, released-free, locked-small, released-small}
use Rattle.art_schedules.proofs.alone.LikeLemmas.{Like, IsVersion, Nothing, like-version, like-free, like-live}

module _ (c : Setting) (n : ℕ) (words : List ℕ) (rest : IsAtRest c.shape n words) where
  -- if rows are locked, those that were read are held
  abbrev pub HeldIn : Bool → List Row → ℕ → Type 0
  HeldIn true rows base = has_row base rows ≡ true
  HeldIn false rows base = ⊥

  -- a row that was read, with the version that was kept
  pub record Stands (locking : Bool) (now : List ℕ) (r : Row) : Type 0 where
    pub reached : Reached c.shape words r.base r.kind
    pub free : is_locked r.kept ≡ false
    pub live : is_obsolete r.kept ≡ false
    pub same : locking ≡ false → slice_index now r.base ≡ r.kept

  -- the rows that were read have their words, and nothing else has changed
  pub record Walking (locking : Bool) (now : List ℕ) (rows : List Row) : Type 0 where
    pub like : Like c.shape words words now (HeldIn locking rows)
    pub stand : All (Stands locking now) rows

  has_row-front : (base : ℕ) (rows : List Row) (r : Row) → has_row base rows ≡ true → has_row base (rows ++ r ∷ []) ≡ true
  has_row-front base [] r h = absurd (false≢true h)
  has_row-front base (q ∷ rows) r h = go (q.base == base) h (has_row-front base rows r)
    where
      go : (b : Bool) → (if b then true else has_row base rows) ≡ true → (has_row base rows ≡ true → has_row base (rows ++ r ∷ []) ≡ true)
          → (if b then true else has_row base (rows ++ r ∷ [])) ≡ true
      go true h later = refl
      go false h later = later h

  has_row-last : (rows : List Row) (r : Row) → has_row r.base (rows ++ r ∷ []) ≡ true
  has_row-last [] r = rw (eq-eqb r.base r.base refl) refl
  has_row-last (q ∷ rows) r = go (q.base == r.base) (has_row-last rows r)
    where
      go : (b : Bool) → has_row r.base (rows ++ r ∷ []) ≡ true → (if b then true else has_row r.base (rows ++ r ∷ [])) ≡ true
      go true h = refl
      go false h = h

  -- a row is entered
  pub record Enters (locking : Bool) (now : List ℕ) (rows : List Row) (base : ℕ) (kind : Kind) : Type 0 where
    pub version : ℕ
    pub later : List ℕ
    pub comes : Comes (enter c base) now version later
    pub walking : (r : Row) → r.base ≡ base → r.kind ≡ kind → r.kept ≡ version → Walking locking later (rows ++ r ∷ [])

  -- the row that is entered has its words
  stands-new : (locking : Bool) (now : List ℕ) (base : ℕ) (kind : Kind) (v : ℕ) (r : Row) → r.base ≡ base → r.kind ≡ kind → r.kept ≡ v
      → Reached c.shape words base kind → is_locked v ≡ false → is_obsolete v ≡ false → (locking ≡ false → slice_index now base ≡ v)
      → Stands locking now r
  stands-new locking now base kind v r rb rk rv reached free live same = record {
    reached = subst (λ k. Reached c.shape words r.base k) (sym rk) (subst (λ b. Reached c.shape words b kind) (sym rb) reached);
    free = ap is_locked rv ∙ free;
    live = ap is_obsolete rv ∙ live;
    same = λ h. ap (slice_index now) rb ∙ (same h ∙ sym rv);
  }

  stands-locked : (now later : List ℕ) (r : Row) → Stands true now r → Stands true later r
  stands-locked now later r h = record { reached = h.reached; free = h.free; live = h.live; same = λ none. absurd (false≢true (sym none)) }

  pub enters : (locking : Bool) (now : List ℕ) (rows : List Row) (base : ℕ) (kind : Kind) → locks c.variant ≡ locking
      → Walking locking now rows
      → Reached c.shape words base kind → has_row base rows ≡ false → Enters locking now rows base kind
  enters true now rows base kind e w reached new =
      let v = slice_index now base in
      let free : is_locked v ≡ false = like-free c.shape n words rest w.like reached (λ h. false≢true (sym new ∙ h)) in
      let live : is_obsolete v ≡ false = like-live c.shape n words rest w.like reached in
      record {
        version = v;
        later = with_lock now base;
        comes = if_true-comes (wait base) e (lock-comes c.shape base now free);
        walking = λ r rb rk rv. record {
          like = like-version c.shape n words rest {held2 = HeldIn true (rows ++ r ∷ [])} (locked_word v) w.like reached (locked-small v)
              (locked-live v live)
              (λ no_one. absurd (no_one (subst (λ b. has_row b (rows ++ r ∷ []) ≡ true) rb (has_row-last rows r))))
              (λ b h ne. has_row-front b rows r h);
          stand = All-push (Stands true (with_lock now base)) rows r
              (All-weaker (Stands true now) (Stands true (with_lock now base))
              (λ q h. stands-locked now (with_lock now base) q h) rows w.stand)
              (stands-new true (with_lock now base) base kind v r rb rk rv reached free live (λ none. absurd (false≢true (sym none))));
        };
      }
  enters false now rows base kind e w reached new =
      let v = slice_index now base in
      let free : is_locked v ≡ false = like-free c.shape n words rest w.like reached (λ h. h) in
      let live : is_obsolete v ≡ false = like-live c.shape n words rest w.like reached in
      record {
        version = v;
        later = now;
        comes = if_false-comes (lock c.shape base) e (wait-comes base now free live);
        walking = λ r rb rk rv. record {
          like = w.like;
          stand = All-push (Stands false now) rows r w.stand (stands-new false now base kind v r rb rk rv reached free live (λ none. refl));
        };
      }

  -- ---- at the end

  -- all rows are released
  pub record LetsGo (now : List ℕ) (rows : List Row) : Type 0 where
    pub later : List ℕ
    pub comes : Comes (if locks c.variant then unlock_all rows else each rows (check_of c)) now tt later
    pub like : Like c.shape words words later Nothing

  -- what is held may be more
  like-held : {now : List ℕ} {held held2 : ℕ → Type 0} → ((b : ℕ) → held b → held2 b) → Like c.shape words words now held
      → Like c.shape words words now held2
  like-held {now} {held} {held2} more like = record { long = like.long; small = like.small; word = λ b. go b (like.word b) }
    where
      go : (b : ℕ) → (slice_index now b ≡ slice_index words b) ⊎ IsVersion c.shape words now held b
          → (slice_index now b ≡ slice_index words b) ⊎ IsVersion c.shape words now held2 b
      go b (inl is) = inl is
      go b (inr v) = inr (record { kind = v.kind; reached = v.reached; live = v.live; free = λ no_one. v.free (λ h. no_one (more b h)) })

  -- the words after the locks of all rows were released
  unlocked-like : (rows : List Row) (now : List ℕ) → Walking true now rows → Like c.shape words words (unlocked_rows rows now) Nothing
  unlocked-like [] now w = like-held (λ b h. false≢true h) w.like
  unlocked-like (r ∷ rows) now w =
      let own = All-head (Stands true now) r rows w.stand in
      let next = slice_set now r.base (released_word r.kept) in
      unlocked-like rows next (record {
        like = like-version c.shape n words rest {held2 = HeldIn true rows} (released_word r.kept) w.like own.reached
            (released-small r.kept)
            (released-live r.kept own.live) (λ no_one. released-free r.kept own.free) (λ b h ne. rest-held b (r.base == b) refl h ne);
        stand = All-weaker (Stands true now) (Stands true next) (λ q h. stands-locked now next q h) rows
            (All-tail (Stands true now) r rows w.stand);
      })
    where
      rest-held : (b : ℕ) (t : Bool) → (r.base == b) ≡ t → (if t then true else has_row b rows) ≡ true → (b ≡ r.base → ⊥)
          → has_row b rows ≡ true
      rest-held b true e h ne = absurd (ne (sym (eqb-true r.base b e)))
      rest-held b false e h ne = h

  checked-comes : (rows : List Row) (now : List ℕ) → All (Stands false now) rows → Comes (each rows (check_of c)) now tt now
  checked-comes [] now stand = each_none-comes (check_of c) now
  checked-comes (r ∷ rows) now stand =
      each-comes r rows (check_of c) (check_of-comes c r now ((All-head (Stands false now) r rows stand).same refl))
      (checked-comes rows now (All-tail (Stands false now) r rows stand))

  pub lets-go : (locking : Bool) (now : List ℕ) (rows : List Row) → locks c.variant ≡ locking → Walking locking now rows → LetsGo now rows
  lets-go true now rows e w = record {
    later = unlocked_rows rows now;
    comes = if_true-comes (each rows (check_of c)) e (unlock_all-comes rows now);
    like = unlocked-like rows now w;
  }
  lets-go false now rows e w = record {
    later = now;
    comes = if_false-comes (unlock_all rows) e (checked-comes rows now w.stand);
    like = like-held (λ b h. h) w.like;
  }
