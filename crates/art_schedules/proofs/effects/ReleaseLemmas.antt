-- What a step makes of calm's tree: nothing, or the effect of the row that it releases.
use Rattle.art_schedules.proofs.Common.{◌≡◌, ◌≢◌, ◌⊎◌, inl, inr, ℕ, ◌+◌, ◌/◌, ◌%◌, ◌<◌, ◌≤◌, List, length, true, false, refl, sym, ap, ◌∙◌}
use Rattle.art_schedules.proofs.alone.SlotLemmas.{slot-is, IsChildWord}
use Rattle.art_schedules.proofs.trees.Changes.{way_byte}
use Rattle.art_schedules.proofs.words.TableLemmas.{row_ends}
use Rattle.art_schedules.proofs.words.VersionLemmas.{obsolete_obsolete, obsolete_released}
use Rattle.art_schedules.proofs.writes.StoreLemmas.{stored-at}
use Rattle.art_schedules.proofs.Common.{subst, arith, Option, Some, None, cases_lt, Call, Contents, Shape, Kind, Four, Leaf, row_words}
use Rattle.art_schedules.proofs.Common.{claims_of, kind_at, is_obsolete, released_word, obsolete_word, row_word, leaf_word, some-words}
use Rattle.art_schedules.proofs.Common.{claims-few, first-some, Variant, Store, Point, Asks, Setting, locks, HeldRow, Stage, setting}
use Rattle.art_schedules.proofs.Common.{turn_at, OnKey, call_turn, Process, Plan, State, Means, IsAtRest, SameRow, IsClaimed, ChildrenAreRead}
use Rattle.art_schedules.proofs.Common.{lock_of, IsKept}
use Rattle.art_schedules.proofs.Common.{IsAmong, IsAfterVersion, IsOpen, IsSettled, held_by, stage_of}
use Rattle.art_schedules.proofs.versions.ChangeLemmas.{index-other}
use Rattle.art_schedules.proofs.versions.KnownLemmas.{held-is-kept}
use Rattle.art_schedules.proofs.versions.MoveLemmas.{settled-row}
use Rattle.art_schedules.proofs.Common.{Effect, Fills, HangsPair, HasNewChild, Keeps, OneRow, PutsLeaf, RemovesLeaf, is_busy}
use Rattle.art_schedules.proofs.versions.WordFacts.{version-free}
use Rattle.art_schedules.proofs.Common.{HangsGrown, base_of_effect, kind_of_effect, IsGone, HasEffect, HasFewClaims, EffectsFollow}
use Rattle.art_schedules.proofs.Common.{KeptTreesFollow, IsUnreached, HasWordAt, IsOld, IsPending, Makes, IsSame}
use Rattle.std.proofs.Common.{slice_index}
use Rattle.art_schedules.specs.trees.Trees.{IsFree}
use Rattle.art_schedules.specs.versions.Steady as steady
use Rattle.art_schedules.proofs.calm.UseLemmas.{with-released}
use Rattle.art_schedules.proofs.calm.VersionLemmas.{free-busy, free-parts, released-free, obsolete-busy}
use Rattle.art_schedules.specs.changes.Rows.{SameOutside}
use Rattle.art_schedules.proofs.changes.FollowLemmas.{low-words-keep}
use Rattle.art_schedules.proofs.changes.RowLemmas.{rows-are-by-words, steady-row}
use Rattle.art_schedules.proofs.changes.WorkedLemmas.{stored-leaves-are-put, stored-zeros-remove, written-pairs-are-hung, written-rows-are-hung}
use Rattle.art_schedules.proofs.changes.WrittenLemmas.{children-are-of-rows}
use Rattle.art_schedules.specs.effects.AtWork.{HasStoredLeaf}
use Rattle.art_schedules.proofs.effects.AroundLemmas.{Around, OwnAccess, own-access}

-- the slot in words that say the same of its row
slot-later : (calm real later : List ℕ) (base : ℕ) (kind : Kind) (y slot word : ℕ) → y < 256 → SameRow real later base kind
    → HasWordAt calm real base kind y slot word → HasWordAt calm later base kind y slot word
slot-later calm real later base kind y slot word small same has =
    let place : IsChildWord base kind slot = slot-is calm base kind y slot small has.at in
    record {
      at = has.at;
      others = λ j low high ne. same j low high ∙ has.others j low high ne;
      here = ap (slice_index later) place.is
          ∙ (same place.place (omega (arith, first-some kind, place.low)) place.high ∙ (ap (slice_index real) (sym place.is) ∙ has.here));
    }

old-free : (c : Setting) (calm : List ℕ) (key base : ℕ) (kind : Kind) (y : ℕ) (old : Option ℕ) → IsOld c calm key base kind y old
    → IsFree c.shape calm key base kind y
old-free c calm key base kind y None is = inl is
old-free c calm key base kind y (Some value) is = inr (value, is)

-- what is pending is the effect, once calm has the row's words
pub pending-effect : ChildrenAreRead → (c : Setting) (n : ℕ) (real calm after : List ℕ) (e : Effect) (old : Option ℕ)
    → IsAtRest c.shape n calm
    → OneRow c.shape calm after (base_of_effect e) (kind_of_effect e) → SameRow real after (base_of_effect e) (kind_of_effect e)
    → ((b : ℕ) (k : Kind) → IsClaimed c.shape real b k → IsClaimed c.shape after b k) → IsPending c real calm e old
    → HasEffect c.shape calm after e
pending-effect read c n real calm after (Keeps base kind) old rest one same claims none = absurd none
pending-effect read c n real calm after (Fills base kind) old rest one same claims none = absurd none
pending-effect read c n real calm after (PutsLeaf base kind y key value) old rest one same claims (leads, was, row) = go row
  where
    small : y < 256
    small = way_byte c.shape calm key base kind y leads

    go : (HasNewChild c.shape calm real base kind y (Leaf key value)) ⊎ HasStoredLeaf calm real base kind y key value
        → HasEffect c.shape calm after (PutsLeaf base kind y key value)
    go (inl put) = record {
      leads = leads;
      free = old-free c calm key base kind y old was;
      row = children-are-of-rows c.shape calm real calm after base kind y (Leaf key value) put (λ j low high. refl) same small;
    }
    go (inr stored) = stored-leaves-are-put read c.shape n calm after base kind y stored.slot key value rest one leads
        (old-free c calm key base kind y old was) stored.small.0 stored.small.1
        (slot-later calm real after base kind y stored.slot (leaf_word key value) small same stored.has)
pending-effect read c n real calm after (RemovesLeaf base kind y key) old rest one same claims (leads, was, slot) =
    stored-zeros-remove read c.shape n calm after base kind y slot.0 key rest one leads (old-free c calm key base kind y old was)
    (slot-later calm real after base kind y slot.0 0 (way_byte c.shape calm key base kind y leads) same slot.1)
pending-effect read c n real calm after (HangsPair base kind y key value fresh d a) old rest one same claims
    (leads, none, parts, slot, ready, pair) =
    written-pairs-are-hung read c.shape n calm after calm base kind y slot.0 key value fresh d a rest one leads parts
    (slot-later calm real after base kind y slot.0 (row_word fresh) (way_byte c.shape calm key base kind y leads) same slot.1) pair
    (λ j low high. refl)
    ready.unreached (record { claimed = claims fresh Four ready.claimed; live = ready.live })
pending-effect read c n real calm after (HangsGrown base kind y key value full full_kind z fresh larger) old rest one same claims
    (above, none, hangs, leads, empty, slot, ready, copy) =
    written-rows-are-hung read c.shape n calm after calm calm base kind y slot.0 key value full full_kind z fresh larger rest one
    above hangs leads empty
    (slot-later calm real after base kind y slot.0 (row_word fresh) (way_byte c.shape calm key base kind y above) same slot.1) copy
    (λ j low high. refl)
    (λ j low high. refl) ready.unreached (record { claimed = claims fresh larger ready.claimed; live = ready.live })

module _ (read : ChildrenAreRead) (trees : KeptTreesFollow) (effects : EffectsFollow) (plan : Plan) (p : ℕ) (s t : State)
    (calm after : List ℕ)
    (x : Around plan p s t calm after) (k : ℕ) (rest : IsAtRest plan.shape k calm) (m : Contents) (means : Means plan.shape calm m) where
  abbrev variant : Variant
  variant = plan.variant

  abbrev shape : Shape
  shape = plan.shape

  few-claims : HasFewClaims (x.count + 2) after
  few-claims kind = omega (arith, x.calm_after_step.low (claims_of kind) (claims-few kind), x.behind.claims kind)

  claims-rise : (kind : Kind) → slice_index calm (claims_of kind) ≤ slice_index after (claims_of kind)
  claims-rise kind = omega (
    arith,
    x.calm_after_step.low (claims_of kind) (claims-few kind),
    x.calm_before.low (claims_of kind) (claims-few kind),
    x.steady.claims kind,
  )

  -- a row that was claimed is claimed in calm after the step
  pub claimed-then : (b : ℕ) (l : Kind) → IsClaimed shape s.words b l → IsClaimed shape after b l
  claimed-then b l claimed = record {
    number = claimed.number;
    claimed = omega (arith, claimed.claimed, x.steady.claims l, x.calm_after_step.low (claims_of l) (claims-few l));
    within = claimed.within;
    is = claimed.is;
  }

  as-long : length after ≡ length calm
  as-long = x.calm_after_step.long ∙ sym x.calm_before.long

  -- no word of a row has changed
  pub kept-by-words : ((word : ℕ) → 5 ≤ word → slice_index after word ≡ slice_index calm word) → Makes variant shape s p calm after m None
  kept-by-words same = record {
    goes = record {
      claims = x.count + 2;
      follows = trees shape k (x.count + 2) calm after m rest means
          (low-words-keep shape k calm after rest as-long x.calm_after_step.small claims-rise same) few-claims;
      gone = λ b none. absurd none;
    };
    by = tt;
  }

  one-row : (base : ℕ) (kind : Kind) → kind_at shape base ≡ Some kind → SameOutside calm after base kind
      → is_obsolete (slice_index after base) ≡ false
      → OneRow shape calm after base kind
  one-row base kind row same live =
      rows-are-by-words shape calm after base kind row as-long x.calm_after_step.small claims-rise same
      (x.calm_after_step.unlocked base kind row) live

  -- a row that calm's tree does not reach has changed after its version
  pub kept-filled : (base : ℕ) (kind : Kind) → IsClaimed shape s.words base kind → kind_at shape base ≡ Some kind
      → IsUnreached shape calm base
      → is_obsolete (slice_index calm base) ≡ false → (word : ℕ) → IsAfterVersion base kind word
      → ((other : ℕ) → 5 ≤ other → other ≢ word → slice_index after other ≡ slice_index calm other) → 5 ≤ base
      → Makes variant shape s p calm after m None
  kept-filled base kind claimed row none live word behind others late =
      let same = others base late (λ e. omega (arith, e, behind.0)) in
      let one = one-row base kind row (λ w low out. others w low (λ e. elim out [
        | inl less ↦ omega (arith, e, less, behind.0)
        | inr more ↦ omega (arith, e, more, behind.1)
      ])) (ap is_obsolete same ∙ live) in
      record {
        goes = record {
          claims = x.count + 2;
          follows = effects shape k (x.count + 2) calm after m (Fills base kind) rest means one few-claims
              (claimed-then base kind claimed, none);
          gone = λ b none. absurd none;
        };
        by = tt;
      }

  -- ---- a row that the process releases

  module _ (call : Call) (q : Process) (o : IsOpen s p call q) (stage : Stage)
      (at : stage_of variant shape call q ≡ OnKey stage) (row : HeldRow)
      (among : IsAmong (lock_of row) (held_by variant shape call q)) (live : is_obsolete row.kept ≡ false) where
    abbrev c : Setting
    c = setting shape variant call

    kept : IsKept (locks variant) (IsSettled variant shape s) (lock_of row)
    kept = held-is-kept (IsSettled variant shape s) c (stage_of variant shape call q) (x.before.knows p call q o) (lock_of row) among

    pub its-row : kind_at shape row.base ≡ Some row.kind
    its-row = settled-row variant shape s row.base row.kind kept.1

    free-version : (row.kept / 2) % 2 ≡ 0
    free-version = version-free (locks variant) row.kept kept.0

    in-table : row.base < length s.words
    in-table = omega (arith, x.before.long, row_ends shape row.base row.kind its-row, some-words row.kind)

    module _ (value : ℕ) (mark : Option Point) (turn : turn_at c stage ≡ Asks (Store row.base value) mark) where
      asks : call_turn c (stage_of variant shape call q) ≡ Asks (Store row.base value) mark
      asks = ap (call_turn c) at ∙ turn

      pub own : OwnAccess plan p s t call q (Store row.base value)
      own = own-access plan p s t x.move call q o (Store row.base value) mark asks

      at-base : slice_index t.words row.base ≡ value
      at-base = ap (λ ws. slice_index ws row.base) own.words ∙ stored-at s.words row.base value in-table

      pub elsewhere : (word : ℕ) → word ≢ row.base → slice_index t.words word ≡ slice_index s.words word
      elsewhere word ne = ap (λ ws. slice_index ws word) own.words ∙ index-other s.words row.base value word ne

      behind-same : SameRow s.words t.words row.base row.kind
      behind-same j low high = elsewhere (row.base + j) (λ e. omega (arith, e, low))

      pub outside-same : SameOutside calm after row.base row.kind
      outside-same word low out = with-released variant shape x.count s x.before p t calm after x.changes call q o row.base value mark asks
          (lock_of row) among
          refl word low out

    -- unchanged, or with a change
    module _ (mark : Option Point) (turn : turn_at c stage ≡ Asks (Store row.base (released_word row.kept)) mark) where
      abbrev value : ℕ
      value = released_word row.kept

      free : is_busy (slice_index t.words row.base) ≡ false
      free = ap is_busy (at-base value mark turn)
          ∙ free-busy value (released-free row.kept free-version) (obsolete_released row.kept ∙ live)

      after-row : steady.SameWords t.words after row.base row.kind
      after-row = x.calm_after_step.free row.base row.kind its-row free

      pub real-after : SameRow s.words after row.base row.kind
      real-after j low high = steady-row t.words after row.base row.kind after-row j low high ∙ behind-same value mark turn j low high

      one : OneRow shape calm after row.base row.kind
      one = one-row row.base row.kind its-row (outside-same value mark turn)
          (ap is_obsolete (after-row row.base (omega arith) (omega (arith, some-words row.kind)))
          ∙ (free-parts (slice_index t.words row.base) free).1)

      pub kept-unchanged : IsSame calm s.words row → Makes variant shape s p calm after m None
      kept-unchanged same = record {
        goes = record {
          claims = x.count + 2;
          follows = effects shape k (x.count + 2) calm after m (Keeps row.base row.kind) rest means one few-claims
              (claimed-then row.base row.kind kept.1.claimed, λ j low high. real-after j low high ∙ same j low high);
          gone = λ b none. absurd none;
        };
        by = tt;
      }

      pub takes-effect : (e : Effect) (old : Option ℕ) → base_of_effect e ≡ row.base → kind_of_effect e ≡ row.kind
          → IsPending c s.words calm e old
          → ((b : ℕ) → IsGone e b → is_obsolete (slice_index s.words b) ≡ true) → Makes variant shape s p calm after m (Some e)
      takes-effect e old base kind pending gone =
          let its : OneRow shape calm after (base_of_effect e) (kind_of_effect e) =
          subst (λ b. OneRow shape calm after b (kind_of_effect e)) (sym base) (subst (OneRow shape calm after row.base) (sym kind) one) in
          let same : SameRow s.words after (base_of_effect e) (kind_of_effect e) =
          subst (λ b. SameRow s.words after b (kind_of_effect e)) (sym base)
          (subst (SameRow s.words after row.base) (sym kind) real-after) in
          let has = pending-effect read c k s.words calm after e old rest its same claimed-then pending in
          record {
            goes = record {
              claims = x.count + 2;
              follows = effects shape k (x.count + 2) calm after m e rest means its few-claims has;
              gone = gone;
            };
            by = record {
              has = has;
              held = (record { holder = p; call = call; process = q; is_open = o; row = lock_of row; among = among; is = sym base }, refl);
            };
          }

    -- the row is released as obsolete
    module _ (mark : Option Point) (turn : turn_at c stage ≡ Asks (Store row.base (obsolete_word row.kept)) mark) where
      pub is-obsolete : is_obsolete (slice_index t.words row.base) ≡ true
      is-obsolete = ap is_obsolete (at-base (obsolete_word row.kept) mark turn) ∙ obsolete_obsolete row.kept

      pub obsolete-same : (word : ℕ) → 5 ≤ word → slice_index after word ≡ slice_index calm word
      obsolete-same word low = elim (cases_lt word row.base) [
        | inl less ↦ outside-same (obsolete_word row.kept) mark turn word low (inl less)
        | inr more ↦ elim (cases_lt word (row.base + row_words row.kind)) [
          | inl within ↦ x.changes.busy row.base row.kind its-row
              (obsolete-busy (slice_index t.words row.base) is-obsolete) word more within
          | inr past ↦ outside-same (obsolete_word row.kept) mark turn word low (inr past)
        ]
      ]

      pub kept-obsolete : Makes variant shape s p calm after m None
      kept-obsolete = kept-by-words obsolete-same
