-- The way of a key down a tree at rest, and what a get, a remove or a replace does at its end.
use Rattle.art_schedules.proofs.Common.{◌≡◌, ◌⊎◌, ℕ, suc, ◌+◌, ◌/◌, ◌%◌, ◌<◌, ◌≤◌, List, [], ◌∷◌, length, take, Bool}
use Rattle.art_rows.specs.Words.{Info}
use Rattle.art_schedules.proofs.Common.{true, false, refl, sym, ap, ◌∙◌, arith, eqb-true, none-some, Call, Reply, Shape, Kind, Full}
use Rattle.art_schedules.proofs.Common.{Child, Empty, ChildRow, Leaf, root_base, info_at, key_bytes, first_difference, info_of, kind_code}
use Rattle.art_schedules.proofs.Common.{low_bytes, two-words, key_of, overwriting, Reached, root, below, child_on, slot_of, level_in, path_in}
use Rattle.art_schedules.proofs.Common.{IsAtRest, LeadsTo, Part, Comes}
use Rattle.std.proofs.Common.{◌≢◌, slice_set, Option, option_map, ◌==◌, slice_index, Some, None, if◌then◌else◌}
use Rattle.events.specs.declared.event.Reply.TheVariants as reply
use Rattle.art_schedules.proofs.alone.PlaceLemmas.{sits-part}
use Rattle.art_schedules.proofs.alone.LikeLemmas.{Like, Nothing, sits}

-- ---- levels and bytes

pub level-most : (words : List ℕ) (base : ℕ) (kind : Kind) → level_in words base kind ≤ 3
level-most words base kind = go kind (slice_index words (info_at base))
  where
    info_by : Bool → ℕ → List ℕ → Info
    info_by b level path = if b then record { level = level; path = path } else record { level = 0; path = [] }

    by_test : (w : ℕ) (b : Bool) → (info_by b ((w / 4) % 4) (low_bytes ((w / 4) % 4) (w / 256))).level ≤ 3
    by_test w true = omega arith
    by_test w false = omega arith

    go : (k : Kind) (w : ℕ) → (info_of k w).level ≤ 3
    go k w = by_test w (w % 4 == kind_code k)

-- a path that differs nowhere from a longer key is its beginning
pub same-beginning : (xs ys : List ℕ) → first_difference xs ys ≡ None → length xs ≤ length ys → take (length xs) ys ≡ xs
same-beginning [] ys e h = refl
same-beginning (x ∷ xs) [] e h = absurd (omega (arith, h))
same-beginning (x ∷ xs) (y ∷ ys) e h = go (x == y) refl (λ none. same-beginning xs ys none (omega (arith, h))) e
  where
    later : (o : Option ℕ) → option_map (λ d. d + 1) o ≡ None → o ≡ None
    later None e = refl
    later (Some d) e = absurd (none-some (d + 1) (sym e))

    go : (b : Bool) → (x == y) ≡ b → (first_difference xs ys ≡ None → take (length xs) ys ≡ xs)
        → (if b then option_map (λ d. d + 1) (first_difference xs ys) else Some 0) ≡ None
        → take (suc (length xs)) (y ∷ ys) ≡ x ∷ xs
    go true is rest e =
        ap (λ z. z ∷ take (length xs) ys) (sym (eqb-true x y is)) ∙ ap (λ zs. x ∷ zs) (rest (later (first_difference xs ys) e))
    go false is rest e = absurd (none-some 0 (sym e))

module _ (s : Shape) (n : ℕ) (words : List ℕ) (rest : IsAtRest s n words) where
  -- the way of each key begins at the root
  pub leads-root : (key : ℕ) → (level_in words (root_base s) Full ≡ 0)
      × LeadsTo s words key (root_base s) Full (slice_index (key_bytes key) 0)
  leads-root key =
      let level : level_in words (root_base s) Full ≡ 0 = ap (λ w. (info_of Full w).level) rest.tree.root in
      let path : path_in words (root_base s) Full ≡ [] = ap (λ w. (info_of Full w).path) rest.tree.root in (
        level,
        record {
          reached = root;
          path = ap (λ i. take i (key_bytes key)) level ∙ sym path;
          byte = ap (λ i. slice_index (key_bytes key) i) (sym level);
        },
      )

  -- the way of a key goes on to a row whose path differs nowhere from the key
  pub leads-below : {key base x m : ℕ} {kind k : Kind} → LeadsTo s words key base kind x → x < 256
      → child_on s words base kind x ≡ ChildRow m k
      → first_difference (path_in words m k) (key_bytes key) ≡ None
      → LeadsTo s words key m k (slice_index (key_bytes key) (level_in words m k))
  leads-below {key} {base} {x} {m} {kind} {k} leads byte e none =
      let reached : Reached s words m k = below leads.reached x byte e in
      let long : length (path_in words m k) ≡ level_in words m k = (rest.tree.info m k reached).0 in
      record {
        reached = reached;
        path = ap (λ i. take i (key_bytes key)) (sym long)
            ∙ same-beginning (path_in words m k) (key_bytes key) none (omega (arith, long, level-most words m k));
        byte = refl;
      }

  -- the row below is another one
  pub below-other : {base x m : ℕ} {kind k : Kind} → Reached s words base kind → x < 256
      → child_on s words base kind x ≡ ChildRow m k → m ≡ base → ⊥
  below-other {base} {x} {m} {kind} {k} reached byte e is =
      let kinds : k ≡ kind = (sits-part s m base 0 0 k kind (sits s n words rest (below reached x byte e)) (sits s n words rest reached)
      (omega (arith, two-words k)) (omega (arith, two-words kind)) (ap (λ i. i + 0) is)).0 in
      let same : level_in words m k ≡ level_in words base kind = ap (λ q. level_in words m q) kinds ∙ ap (λ b. level_in words b kind) is in
      omega (arith, (rest.tree.row base m x kind k reached byte e).0, same)

-- ---- what is done at the end of the way

-- what is written over the slot of the byte, or nothing
abbrev pub Writes : Shape → List ℕ → List ℕ → ℕ → Kind → ℕ → Option ℕ → Type 0
Writes s words later base kind x None = Like s words words later Nothing
Writes s words later base kind x (Some word) = (slot : ℕ) × (slot_of words base kind x ≡ Some slot)
    × Like s words (slice_set words slot word) later Nothing

-- what a call does with what hangs on the byte
abbrev pub EndsAt : Shape → List ℕ → Call → Reply → List ℕ → ℕ → Kind → ℕ → Child → Type 0
EndsAt s words call r later base kind x Empty = (r ≡ reply.None) × Like s words words later Nothing
EndsAt s words call r later base kind x (Leaf key value) =
    ((key ≡ key_of call) × (r ≡ reply.Some value) × Writes s words later base kind x (overwriting call value))
    ⊎ ((key ≢ key_of call) × (r ≡ reply.None) × Like s words words later Nothing)
EndsAt s words call r later base kind x (ChildRow m k) =
    (d : ℕ) × (first_difference (path_in words m k) (key_bytes (key_of call)) ≡ Some d) × (r ≡ reply.None)
    × Like s words words later Nothing

-- The call's way ends at a byte of a row, where it has this reply and leaves these words.
pub record Arrives (s : Shape) (words : List ℕ) (call : Call) (r : Reply) (later : List ℕ) : Type 0 where
  pub base : ℕ
  pub kind : Kind
  pub x : ℕ
  pub leads : LeadsTo s words (key_of call) base kind x
  pub byte : x < 256
  pub child : Child
  pub at : child_on s words base kind x ≡ child
  pub ended : EndsAt s words call r later base kind x child

-- each word that the call may write is a word of 64 bits
abbrev pub WritesWords : Call → Type 0
WritesWords call = (value word : ℕ) → overwriting call value ≡ Some word → word < 18446744073709551616

-- A part that ends a call's way runs alone to a reply.
pub record Seeks (s : Shape) (words : List ℕ) (call : Call) (part : Part Reply) (now : List ℕ) : Type 0 where
  pub reply : Reply
  pub later : List ℕ
  pub comes : Comes part now reply later
  pub arrives : Arrives s words call reply later
