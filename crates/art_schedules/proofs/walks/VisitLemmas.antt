-- A scan that runs alone walks the child of a byte.
use Rattle.art_schedules.proofs.Common.{◌≡◌, ℕ, suc, ◌+◌, ◌<◌, ◌≤◌, List, [], ◌∷◌, ◌++◌, length, take, refl, sym, ap, ◌∙◌, subst}
use Rattle.art_rows.specs.Rows.{Row}
use Rattle.art_schedules.proofs.Common.{arith, Bool, true, false, eqb-true, take-take, ◌&&◌, nat_le, nat_lt, same_Some, false≢true}
use Rattle.art_schedules.proofs.Common.{nat_tests, append-nil, length-append, length-take, take-append-le, All-nil, All-head, All-tail, All-push}
use Rattle.art_schedules.proofs.Common.{All-cons, All-weaker, Contents, within, Kind, Child, Empty, ChildRow, Leaf, info_at, kind_at, two-words}
use Rattle.art_schedules.proofs.Common.{Part, ◌>>=◌, give, load, Setting, row_of, locks, Walked, has_row, with_row, enter, walk_child, Reached}
use Rattle.art_schedules.proofs.Common.{below, child_on, pairs_in, pairs_below, level_in, path_in, IsAtRest, Comes}
use Rattle.std.proofs.Common.{All, ◌==◌, slice_index, if◌then◌else◌}
use Rattle.std.proofs.lemmas.List.{append_assoc}
use Rattle.events.specs.Limits.{pair_limit}
use Rattle.art_rows.specs.Scan.{with_leaf}
use Rattle.art_schedules.proofs.alone.AloneLemmas.{give-comes, bind-comes, load-comes}
use Rattle.art_schedules.proofs.alone.PlaceLemmas.{sits-kind_at}
use Rattle.art_schedules.proofs.alone.LikeLemmas.{like-row, sits}
use Rattle.art_schedules.proofs.walks.EnterLemmas.{Walking, Stands, enters}

module _ (c : Setting) (n : ℕ) (words : List ℕ) (rest : IsAtRest c.shape n words) (low high : ℕ) where
  -- the row's path begins with these bytes and then x
  abbrev pub GoesBy : List ℕ → ℕ → ℕ → Kind → Type 0
  GoesBy path x base kind = take (suc (length path)) (path_in words base kind) ≡ path ++ x ∷ []

  -- no row that was read goes by these bytes and then x
  abbrev pub FreeOf : List ℕ → ℕ → List Row → Type 0
  FreeOf path x rows = All (λ q. GoesBy path x q.base q.kind → ⊥) rows

  -- the part walks: it lists these pairs more, and reads these rows more
  pub record Walks (locking : Bool) (part : Part Walked) (now : List ℕ) (w : Walked) (pairs : Contents)
      (IsBelow : Row → Type 0) : Type 0 where
    pub walked : Walked
    pub later : List ℕ
    pub comes : Comes part now walked later
    pub walking : Walking c n words rest locking later walked.rows
    pub pairs_are : walked.pairs ≡ w.pairs ++ pairs
    pub more : List Row
    pub rows_are : walked.rows ≡ w.rows ++ more
    pub below : All IsBelow more

  -- what a walk does of each row that is reached and of which no row below was read
  abbrev pub WalksRows : Bool → ℕ → (Row → Walked → Part Walked) → Type 0
  WalksRows locking depth walk = (r : Row) (w : Walked) (now : List ℕ) → Reached c.shape words r.base r.kind
      → r.level ≡ level_in words r.base r.kind
      → r.path ≡ path_in words r.base r.kind → 4 ≤ depth + r.level → Walking c n words rest locking now w.rows
      → ((y : ℕ) → FreeOf r.path y w.rows)
      → length (w.pairs ++ within low high (pairs_below depth c.shape words r.base r.kind)) ≤ 4096
      → Walks locking (walk r w) now w (within low high (pairs_below depth c.shape words r.base r.kind))
      (λ q. (y : ℕ) × GoesBy r.path y q.base q.kind)

  -- a row by which no row was read was not read
  not-read : (locking : Bool) (now : List ℕ) (rows : List Row) (path : List ℕ) (x m : ℕ) (k : Kind)
      → All (Stands c n words rest locking now) rows
      → FreeOf path x rows → Reached c.shape words m k → GoesBy path x m k → has_row m rows ≡ false
  not-read locking now [] path x m k stand free reached goes = refl
  not-read locking now (q ∷ rows) path x m k stand free reached goes =
      go (q.base == m) refl
      (not-read locking now rows path x m k (All-tail (Stands c n words rest locking now) q rows stand)
      (All-tail (λ q. GoesBy path x q.base q.kind → ⊥) q rows free) reached goes)
    where
      own : Stands c n words rest locking now q
      own = All-head (Stands c n words rest locking now) q rows stand

      same-kind : q.base ≡ m → q.kind ≡ k
      same-kind is =
          same_Some q.kind k
          (sym (sits-kind_at c.shape q.base q.kind (sits c.shape n words rest own.reached))
          ∙ (ap (kind_at c.shape) is ∙ sits-kind_at c.shape m k (sits c.shape n words rest reached)))

      go : (b : Bool) → (q.base == m) ≡ b → has_row m rows ≡ false → (if b then true else has_row m rows) ≡ false
      go true e later =
          let is = eqb-true q.base m e in
          absurd (All-head (λ q. GoesBy path x q.base q.kind → ⊥) q rows free
          (subst (λ b. GoesBy path x b q.kind) (sym is) (subst (λ z. GoesBy path x m z) (sym (same-kind is)) goes)))
      go false e later = later

  -- ---- the child of a byte

  pub walks-nothing : (locking : Bool) (now : List ℕ) (w : Walked) (IsBelow : Row → Type 0) → Walking c n words rest locking now w.rows
      → Walks locking (give w) now w [] IsBelow
  walks-nothing locking now w IsBelow walking = record {
    walked = w;
    later = now;
    comes = give-comes w now;
    walking = walking;
    pairs_are = sym (append-nil w.pairs);
    more = [];
    rows_are = sym (append-nil w.rows);
    below = All-nil IsBelow;
  }

  walks-leaf : (locking : Bool) (now : List ℕ) (w : Walked) (IsBelow : Row → Type 0) (key value : ℕ)
      → Walking c n words rest locking now w.rows
      → length (w.pairs ++ within low high ((key, value) ∷ [])) ≤ 4096
      → Walks locking (give (with_leaf low high key value w)) now w (within low high ((key, value) ∷ [])) IsBelow
  walks-leaf locking now w IsBelow key value walking few = go (nat_le low key) (nat_le key high) few
    where
      room : length (w.pairs ++ (key, value) ∷ []) ≤ 4096 → nat_lt (length w.pairs) 4096 ≡ true
      room few = let less : length w.pairs < 4096 =
          omega (arith, few, length-append w.pairs ((key, value) ∷ [])) in grind (arith, nat_tests, less)

      counted : (t : Bool) → t ≡ true
          → Walks locking (give (if t then record { rows = w.rows; pairs = w.pairs ++ (key, value) ∷ [] } else w)) now w
          ((key, value) ∷ []) IsBelow
      counted false e = absurd (false≢true e)
      counted true e = record {
        walked = record { rows = w.rows; pairs = w.pairs ++ (key, value) ∷ [] };
        later = now;
        comes = give-comes (record { rows = w.rows; pairs = w.pairs ++ (key, value) ∷ [] }) now;
        walking = walking;
        pairs_are = refl;
        more = [];
        rows_are = sym (append-nil w.rows);
        below = All-nil IsBelow;
      }

      go : (a b : Bool) → length (w.pairs ++ (if a && b then (key, value) ∷ [] else [])) ≤ 4096
          → Walks locking (give (if a && b && nat_lt (length w.pairs) pair_limit then record
          { rows = w.rows; pairs = w.pairs ++ (key, value) ∷ [] } else w)) now w
          (if a && b then (key, value) ∷ [] else []) IsBelow
      go true true few = counted (nat_lt (length w.pairs) pair_limit) (room few)
      go true false few = walks-nothing locking now w IsBelow walking
      go false true few = walks-nothing locking now w IsBelow walking
      go false false few = walks-nothing locking now w IsBelow walking

  -- what goes by a longer path goes by the beginning of it
  goes-further : (path further : List ℕ) (x y base : ℕ) (kind : Kind) → suc (length path) ≤ length further
      → take (suc (length path)) further ≡ path ++ x ∷ [] → GoesBy further y base kind → GoesBy path x base kind
  goes-further path further x y base kind le begun goes =
      sym (take-take (suc (length path)) (suc (length further)) (path_in words base kind) (omega (arith, le)))
      ∙ (ap (take (suc (length path))) goes ∙ (take-append-le (suc (length path)) further (y ∷ []) le ∙ begun))

  -- no row that is as long as a path goes by it and a byte more
  pub goes-longer : (path : List ℕ) (y base : ℕ) (kind : Kind) → path ≡ path_in words base kind → GoesBy path y base kind → ⊥
  goes-longer path y base kind is goes =
      let long : length (take (suc (length path)) path) ≡ length path + 1 =
      ap (λ p. length (take (suc (length path)) p)) is ∙ (ap (λ p. length p) goes ∙ length-append path (y ∷ [])) in
      absurd (omega (arith, long, length-take (suc (length path)) path))

  -- a row below, entered by byte x of the row
  walks-row : (locking : Bool) (walk : Row → Walked → Part Walked) (depth : ℕ) (now : List ℕ) (w : Walked) (r : Row) (x m : ℕ) (k : Kind)
      → locks c.variant ≡ locking → WalksRows locking depth walk → Reached c.shape words r.base r.kind
      → r.level ≡ level_in words r.base r.kind
      → r.path ≡ path_in words r.base r.kind → 4 ≤ suc depth + r.level → x < 256 → child_on c.shape words r.base r.kind x ≡ ChildRow m k
      → Walking c n words rest locking now w.rows → FreeOf r.path x w.rows
      → length (w.pairs ++ within low high (pairs_below depth c.shape words m k)) ≤ 4096
      → Walks locking (enter c m >>= λ v. load (info_at m) >>= λ info. walk (row_of m k info v) (with_row (row_of m k info v) w)) now w
      (within low high (pairs_below depth c.shape words m k)) (λ q. GoesBy r.path x q.base q.kind)
  walks-row locking walk depth now w r x m k e walks reached level path deep small at walking free few =
      let deeper = rest.tree.row r.base m x r.kind k reached small at in
      let its : Reached c.shape words m k = below reached x small at in
      let long : length r.path ≡ level_in words r.base r.kind = ap (λ p. length p) path ∙ (rest.tree.info r.base r.kind reached).0 in
      let their : length (path_in words m k) ≡ level_in words m k = (rest.tree.info m k its).0 in
      let one : level_in words r.base r.kind + 1 ≡ suc (length r.path) = omega (arith, long) in
      let begun : take (suc (length r.path)) (path_in words m k) ≡ r.path ++ x ∷ [] =
      subst (λ i. take i (path_in words m k) ≡ r.path ++ x ∷ []) one (deeper.1 ∙ ap (λ p. p ++ x ∷ []) (sym path)) in
      let new = not-read locking now w.rows r.path x m k walking.stand free its begun in
      let entered = enters c n words rest locking now w.rows m k e walking its new in
      let info = slice_index words (info_at m) in
      let row : Row = row_of m k info entered.version in
      let w2 : Walked = record { rows = w.rows ++ row ∷ []; pairs = w.pairs } in
      let walking2 = entered.walking row refl refl refl in
      let le : suc (length r.path) ≤ length (path_in words m k) = omega (arith, their, deeper.0, long) in
      let frees : (y : ℕ) → FreeOf (path_in words m k) y (w.rows ++ row ∷ []) =
      λ y. All-push (λ q. GoesBy (path_in words m k) y q.base q.kind → ⊥) w.rows row
      (All-weaker (λ q. GoesBy r.path x q.base q.kind → ⊥) (λ q. GoesBy (path_in words m k) y q.base q.kind → ⊥)
      (λ q h goes. h (goes-further r.path (path_in words m k) x y q.base q.kind le begun goes)) w.rows free)
      (goes-longer (path_in words m k) y m k refl) in
      let next = walks row w2 entered.later its refl refl (omega (arith, deep, level, deeper.0)) walking2 frees few in
      let inner : Comes (walk row (with_row row w)) entered.later next.walked next.later =
      subst (λ (b : Bool). Comes (walk row (if b then w else w2)) entered.later next.walked next.later) (sym new) next.comes in
      let said : slice_index entered.later (info_at m) ≡ info =
      like-row c.shape n words rest walking2.like its 1 (omega arith) (two-words k) in
      record {
        walked = next.walked;
        later = next.later;
        comes = bind-comes {f = λ v. load (info_at m) >>= λ i. walk (row_of m k i v) (with_row (row_of m k i v) w)} entered.comes
            (bind-comes {f = λ i. walk (row_of m k i entered.version) (with_row (row_of m k i entered.version) w)}
            (load-comes (info_at m) entered.later)
            (subst (λ (i : ℕ). Comes (walk (row_of m k i entered.version) (with_row (row_of m k i entered.version) w)) entered.later
            next.walked next.later)
            (sym said) inner));
        walking = next.walking;
        pairs_are = next.pairs_are;
        more = row ∷ next.more;
        rows_are = next.rows_are ∙ append_assoc w.rows (row ∷ []) next.more;
        below = All-cons (λ q. GoesBy r.path x q.base q.kind) row next.more begun
            (All-weaker (λ q. (y : ℕ) × GoesBy (path_in words m k) y q.base q.kind) (λ q. GoesBy r.path x q.base q.kind)
            (λ q h. goes-further r.path (path_in words m k) x h.0 q.base q.kind le begun h.1) next.more next.below);
      }

  -- what is under a byte of a row
  abbrev pub under : ℕ → ℕ → Kind → ℕ → Contents
  under depth base kind x = pairs_in (pairs_below depth c.shape words) (child_on c.shape words base kind x)

  -- the child of a byte of a row is walked
  pub walks-child : (locking : Bool) (walk : Row → Walked → Part Walked) (depth : ℕ) (now : List ℕ) (w : Walked) (r : Row)
      (x : ℕ) (child : Child)
      → locks c.variant ≡ locking → WalksRows locking depth walk → Reached c.shape words r.base r.kind
      → r.level ≡ level_in words r.base r.kind
      → r.path ≡ path_in words r.base r.kind → 4 ≤ suc depth + r.level → x < 256 → child_on c.shape words r.base r.kind x ≡ child
      → Walking c n words rest locking now w.rows → FreeOf r.path x w.rows
      → length (w.pairs ++ within low high (pairs_in (pairs_below depth c.shape words) child)) ≤ 4096
      → Walks locking (walk_child c low high walk child w) now w (within low high (pairs_in (pairs_below depth c.shape words) child))
      (λ q. GoesBy r.path x q.base q.kind)
  unfolding walk_child
  walks-child locking walk depth now w r x Empty e walks reached level path deep small at walking free few =
      walks-nothing locking now w (λ q. GoesBy r.path x q.base q.kind) walking
  walks-child locking walk depth now w r x (Leaf key value) e walks reached level path deep small at walking free few =
      walks-leaf locking now w (λ q. GoesBy r.path x q.base q.kind) key value walking few
  walks-child locking walk depth now w r x (ChildRow m k) e walks reached level path deep small at walking free few =
      walks-row locking walk depth now w r x m k e walks reached level path deep small at walking free few
