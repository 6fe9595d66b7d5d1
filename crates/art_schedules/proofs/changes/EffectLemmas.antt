-- What comes of each effect of a change of one row.
use Rattle.art_schedules.proofs.Common.{◌≡◌, ◌⊎◌, inl, inr, ℕ, ◌<◌, ◌++◌, List, false, refl, sym, ◌∙◌, subst, arith, ⊎_elim, ◌↔◌, None, cases_eq}
use Rattle.art_schedules.proofs.alone.LikeLemmas.{sits}
use Rattle.art_schedules.proofs.alone.PlaceLemmas.{kind_at-sits}
use Rattle.art_schedules.proofs.alone.SlotLemmas.{row-keys, form-same}
use Rattle.art_schedules.proofs.inserts.OutcomeLemmas.{child-same}
use Rattle.art_schedules.proofs.inserts.SmallLemmas.{path_byte-small}
use Rattle.art_schedules.proofs.trees.Changes.{way_byte}
use Rattle.art_schedules.proofs.Common.{Contents, put, Shape, Kind, Four, Child, Empty, Row, Leaf, info_at, key_bytes, is_obsolete, two-words}
use Rattle.art_schedules.proofs.Common.{key_byte-small, Reached, Means, child_on, IsAtRest, SameRow, HasRows, Parts, SameTreesAreOne, IsClaimed}
use Rattle.art_schedules.proofs.Common.{OneRow, Keeps, Fills}
use Rattle.art_schedules.proofs.Common.{PutsLeaf, RemovesLeaf, HangsPair, HangsGrown, Effect, HasEffect, IsGone, HasFewClaims, Follows}
use Rattle.art_schedules.proofs.Common.{KeepsTree, EffectsFollow, IsGoneBy, ComesInBy}
use Rattle.std.proofs.Common.{slice_index, subst₂}
use Rattle.map_object.specs.MapObject.{below, above}
use Rattle.art_core.specs.Forms.{IsTree}
use Rattle.art_schedules.specs.trees.Trees.{SameTree, IsPair, HasRowMore, IsGrown, HasRowInPlace, LeavesArePut, LeavesAreRemoved, PairsAreHung}
use Rattle.art_schedules.specs.trees.Trees.{GrownRowsAreHung}
use Rattle.art_schedules.specs.changes.Rows.{IsFilled}
use Rattle.art_schedules.specs.changes.Effects.{IsPutOn, IsRemovedFrom, IsPairHung, IsGrownHung}
use Rattle.art_schedules.proofs.changes.FollowLemmas.{follows-by, kept-trees-follow}
use Rattle.art_schedules.proofs.changes.RowLemmas.{claimed-sits, same-kind, other-row, reached-sits, unlocked, live, still-claimed, fresh, infos}
use Rattle.art_schedules.proofs.changes.RowLemmas.{changes}

-- the byte at which a child's keys part from the key is a byte
pub parted-small : (words : List ℕ) (key d a : ℕ) (child : Child) → Parts words key d a child → a < 256
parted-small words key d a Empty h = absurd h
parted-small words key d a (Leaf k v) h = subst (λ z. z < 256) (sym h.1) (key_byte-small k d)
parted-small words key d a (Row b kind) h = subst (λ z. z < 256) (sym h.1) (path_byte-small words b kind d)

module _ (s : Shape) (n claims : ℕ) (calm later : List ℕ) (m : Contents) (rest : IsAtRest s n calm) (means : Means s calm m)
    (few : HasFewClaims claims later)
    (base : ℕ) (kind : Kind) (one : OneRow s calm later base kind) where
  -- ---- nothing of the tree has changed

  keeps : IsClaimed s later base kind → SameTree s calm later → KeepsTree s calm later
  keeps own same = record {
    long = one.long;
    small = one.small;
    claims = one.claims;
    same = same;
    unlocked = unlocked s n calm later rest base kind one;
    live = λ b k r. live s n calm later rest base kind one b k (reached-sits s n calm later rest base kind one b k r) (rest.live b k r);
    fresh = fresh s n calm later rest base kind one own;
  }

  kept : SameRow calm later base kind → SameTree s calm later
  kept same b k r = ⊎_elim
      (λ here.
      let kinds = same-kind s b base k kind (sits s n calm rest r) (kind_at-sits s base kind one.row) here in
      subst₂ (λ b k. SameRow calm later b k) (sym here) (sym kinds) same)
      (λ apart. other-row s n calm later rest base kind one b k (sits s n calm rest r) apart) (cases_eq b base)

  unreached : ((k : Kind) → Reached s calm base k → ⊥) → SameTree s calm later
  unreached none b k r = ⊎_elim
      (λ here. absurd (none k (subst (λ b. Reached s calm b k) here r)))
      (λ apart. other-row s n calm later rest base kind one b k (sits s n calm rest r) apart) (cases_eq b base)

  -- ---- the table is at rest where the words are a tree of rows that were reached, and of fresh ones

  module _ (pairs : Contents) (gone : ℕ → Type 0) (added : ℕ → Kind → Type 0) (reached : Reached s calm base kind)
      (info : slice_index later (info_at base) ≡ slice_index calm (info_at base)) (tree : IsTree s later) (after : Means s later pairs)
      (rows : (b : ℕ) (k : Kind) → Reached s later b k ↔ ((Reached s calm b k × (gone b → ⊥)) ⊎ added b k))
      (filled : (b : ℕ) (k : Kind) → added b k → IsFilled s calm later b k) where
    live-row : (b : ℕ) (k : Kind) → (Reached s calm b k × (gone b → ⊥)) ⊎ added b k → is_obsolete (slice_index later b) ≡ false
    live-row b k (inl (r, not)) = live s n calm later rest base kind one b k (sits s n calm rest r) (rest.live b k r)
    live-row b k (inr new) =
        let f = filled b k new in
        live s n calm later rest base kind one b k (claimed-sits s later b k f.claimed) f.live

    claimed-row : (b : ℕ) (k : Kind) → (Reached s calm b k × (gone b → ⊥)) ⊎ added b k → IsClaimed s later b k
    claimed-row b k (inl (r, not)) = still-claimed s n calm later rest base kind one b k r
    claimed-row b k (inr new) = (filled b k new).claimed

    rests : IsAtRest s claims later
    rests = record {
      long = one.long ∙ rest.long;
      small = one.small;
      unlocked = unlocked s n calm later rest base kind one;
      tree = tree;
      live = λ b k r. live-row b k ((rows b k).0 r);
      claims = few;
      claimed = λ b k r. claimed-row b k ((rows b k).0 r);
      fresh = fresh s n calm later rest base kind one (still-claimed s n calm later rest base kind one base kind reached);
    }

    follows : Follows s claims calm later pairs gone added
    follows = follows-by s claims calm later pairs gone added rests after rows (infos s n calm later rest base kind one info)

  -- ---- one leaf

  leaf-follows : (pairs : Contents) → Reached s calm base kind → slice_index later (info_at base) ≡ slice_index calm (info_at base)
      → HasRows s calm later pairs → Follows s claims calm later pairs (IsGoneBy None) (ComesInBy None)
  leaf-follows pairs reached info hung = follows pairs (IsGoneBy None) (ComesInBy None) reached info hung.tree hung.means
      (λ b k. (λ r. inl ((hung.rows b k).0 r, λ h. h), λ e. back b k e)) (λ b k none. absurd none)
    where
      back : (b : ℕ) (k : Kind) → (Reached s calm b k × (IsGoneBy None b → ⊥)) ⊎ ComesInBy None b k → Reached s later b k
      back b k (inl (r, not)) = (hung.rows b k).1 r
      back b k (inr none) = absurd none

  put-follows : LeavesArePut → (x key value : ℕ) → IsPutOn s calm later base kind x key value
      → Follows s claims calm later (put key value m) (IsGoneBy None) (ComesInBy None)
  put-follows puts x key value is = leaf-follows (put key value m) is.leads.reached is.row.info
      (puts s calm later m key value base kind x rest.tree means is.leads is.free
      (changes s n calm later rest base kind one x (Leaf key value) is.row))

  removed-follows : LeavesAreRemoved → (x key : ℕ) → IsRemovedFrom s calm later base kind x key
      → Follows s claims calm later (below key m ++ above key m) (IsGoneBy None) (ComesInBy None)
  removed-follows removes x key is = leaf-follows (below key m ++ above key m) is.leads.reached is.row.info
      (removes s calm later m key base kind x rest.tree means is.leads is.free (changes s n calm later rest base kind one x Empty is.row))

  -- ---- a fresh row

  -- a row that was filled and is not reached is not the row that changes, so its words are the same
  fresh-same : (row : ℕ) (larger : Kind) → Reached s calm base kind → ((k : Kind) → Reached s calm row k → ⊥)
      → IsFilled s calm later row larger
      → SameRow calm later row larger
  fresh-same row larger reached new filled =
      other-row s n calm later rest base kind one row larger (claimed-sits s later row larger filled.claimed)
      (λ same. new kind (subst (λ b. Reached s calm b kind) (sym same) reached))

  filled-row : (row : ℕ) (larger : Kind) → IsFilled s calm later row larger → (b : ℕ) (k : Kind) → (b ≡ row) × (k ≡ larger)
      → IsFilled s calm later b k
  filled-row row larger filled b k (is, kinds) = subst₂ (λ b k. IsFilled s calm later b k) (sym is) (sym kinds) filled

  module _ (hangs : PairsAreHung) (x key value row d a : ℕ) (is : IsPairHung s calm later base kind x key value row d a) where
    abbrev b : ℕ
    b = slice_index (key_bytes key) d

    pair-same : SameRow calm later row Four
    pair-same = fresh-same row Four is.leads.reached is.pair.new is.filled

    later-pair : IsPair s calm later key value row d a b (child_on s calm base kind x)
    later-pair = record {
      new = is.pair.new;
      form = form-same calm later row Four (row-keys calm later row Four pair-same) is.pair.form;
      info = pair-same 1 (omega arith) (omega arith) ∙ is.pair.info;
      byte = refl;
      old = child-same s calm later row Four a (parted-small calm key d a (child_on s calm base kind x) is.parts) pair-same ∙ is.pair.old;
      leaf = child-same s calm later row Four b (key_byte-small key d) pair-same ∙ is.pair.leaf;
      rest = λ y small na nb. child-same s calm later row Four y small pair-same ∙ is.pair.rest y small na nb;
    }

    pair-hung : IsTree s later × HasRowMore s calm later row Four × Means s later (put key value m)
    pair-hung = hangs s calm later m key value base kind x row d a b rest.tree means is.leads is.parts later-pair
        (changes s n calm later rest base kind one x (Row row Four) is.row)

    pair-rows : (c : ℕ) (k : Kind) → Reached s later c k ↔ ((Reached s calm c k × (IsGoneBy None c → ⊥)) ⊎ ((c ≡ row) × (k ≡ Four)))
    pair-rows c k = (λ r. to ((pair-hung.1 c k).0 r), λ e. (pair-hung.1 c k).1 (from e))
      where
        to : Reached s calm c k ⊎ ((c ≡ row) × (k ≡ Four)) → (Reached s calm c k × (IsGoneBy None c → ⊥)) ⊎ ((c ≡ row) × (k ≡ Four))
        to (inl r) = inl (r, λ h. h)
        to (inr new) = inr new

        from : (Reached s calm c k × (IsGoneBy None c → ⊥)) ⊎ ((c ≡ row) × (k ≡ Four)) → Reached s calm c k ⊎ ((c ≡ row) × (k ≡ Four))
        from (inl (r, not)) = inl r
        from (inr new) = inr new

    pair-follows : Follows s claims calm later (put key value m) (IsGoneBy None) (λ c k. (c ≡ row) × (k ≡ Four))
    pair-follows = follows (put key value m) (IsGoneBy None) (λ c k. (c ≡ row) × (k ≡ Four)) is.leads.reached is.row.info pair-hung.0
        pair-hung.2 pair-rows
        (filled-row row Four is.filled)

  module _ (hangs : GrownRowsAreHung) (x key value full : ℕ) (full_kind : Kind) (y row : ℕ) (larger : Kind)
      (is : IsGrownHung s calm later base kind x key value full full_kind y row larger) where
    grown-same : SameRow calm later row larger
    grown-same = fresh-same row larger is.above.reached is.grown.new is.filled

    later-grown : IsGrown s calm later key value full full_kind row larger y
    later-grown = record {
      new = is.grown.new;
      form = form-same calm later row larger (row-keys calm later row larger grown-same) is.grown.form;
      info = grown-same 1 (omega arith) (two-words larger) ∙ is.grown.info;
      absent = is.grown.absent;
      leaf = child-same s calm later row larger y (way_byte s calm key full full_kind y is.leads) grown-same ∙ is.grown.leaf;
      rest = λ z small ne. child-same s calm later row larger z small grown-same ∙ is.grown.rest z small ne;
    }

    grown-hung : IsTree s later × HasRowInPlace s calm later full row larger × Means s later (put key value m)
    grown-hung =
        let change = changes s n calm later rest base kind one x (Row row larger) is.row in
        hangs s calm later m key value base kind x full full_kind y row larger rest.tree means is.above is.hangs is.leads
        later-grown (record {
          others = λ b k r ne but. change.others b k r ne;
          info = change.info;
          form = change.form;
          other_bytes = change.other_bytes;
          here = change.here;
        })

    grown-follows : Follows s claims calm later (put key value m) (λ b. b ≡ full) (λ b k. (b ≡ row) × (k ≡ larger))
    grown-follows = follows (put key value m) (λ b. b ≡ full) (λ b k. (b ≡ row) × (k ≡ larger)) is.above.reached is.row.info
        grown-hung.0 grown-hung.2
        (λ b k. grown-hung.1 b k) (filled-row row larger is.filled)

module _ (trees : SameTreesAreOne) (puts : LeavesArePut) (removes : LeavesAreRemoved) (pairs : PairsAreHung)
    (grown : GrownRowsAreHung) where
  pub effects-follow : EffectsFollow
  effects-follow s n claims calm later m (Keeps base kind) rest means one few (own, same) =
      kept-trees-follow trees s n claims calm later m rest means
      (keeps s n claims calm later m rest means few base kind one own (kept s n claims calm later m rest means few base kind one same)) few
  effects-follow s n claims calm later m (Fills base kind) rest means one few (own, none) =
      kept-trees-follow trees s n claims calm later m rest means
      (keeps s n claims calm later m rest means few base kind one own
      (unreached s n claims calm later m rest means few base kind one none)) few
  effects-follow s n claims calm later m (PutsLeaf base kind x key value) rest means one few is =
      put-follows s n claims calm later m rest means few base kind one puts x key value is
  effects-follow s n claims calm later m (RemovesLeaf base kind x key) rest means one few is =
      removed-follows s n claims calm later m rest means few base kind one removes x key is
  effects-follow s n claims calm later m (HangsPair base kind x key value row d a) rest means one few is =
      pair-follows s n claims calm later m rest means few base kind one pairs x key value row d a is
  effects-follow s n claims calm later m (HangsGrown base kind x key value full full_kind y row larger) rest means one few is =
      grown-follows s n claims calm later m rest means few base kind one grown x key value full full_kind y row larger is

-- a row that leaves by an effect was one of the tree
pub gone-reached : (shape : Shape) (calm later : List ℕ) (e : Effect) → HasEffect shape calm later e → (b : ℕ) → IsGone e b → (k : Kind)
    × Reached shape calm b k
gone-reached shape calm later (Keeps base kind) h b g = absurd g
gone-reached shape calm later (Fills base kind) h b g = absurd g
gone-reached shape calm later (PutsLeaf base kind x key value) h b g = absurd g
gone-reached shape calm later (RemovesLeaf base kind x key) h b g = absurd g
gone-reached shape calm later (HangsPair base kind x key value fresh d a) h b g = absurd g
gone-reached shape calm later (HangsGrown base kind x key value full full_kind y fresh larger) h b g =
    (full_kind, subst (λ i. Reached shape calm i full_kind) (sym g) h.leads.reached)
