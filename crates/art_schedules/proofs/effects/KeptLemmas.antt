-- What calm says of held rows, and of the ways to them, is kept by each step that leaves these rows as they are.
use Rattle.art_schedules.proofs.Common.{◌≡◌, inl, inr, ℕ, ◌<◌, List, ◌∷◌, refl, sym, ap, ◌∙◌, subst, arith, Option, Some, None, Contents, Shape}
use Rattle.art_schedules.proofs.inserts.OutcomeLemmas.{child-same}
use Rattle.art_schedules.proofs.trees.Changes.{way_byte}
use Rattle.art_schedules.proofs.Common.{Kind, Four, Child, Empty, Row, Leaf, info_at, key_bytes, first_difference, child_of, info_word, row_word}
use Rattle.art_schedules.proofs.Common.{leaf_word, two-words, first-some, key_byte-small, Setting, key_of, HeldRow, Keys, Hold, Work, row_at}
use Rattle.art_schedules.proofs.Common.{byte_in, Reached, below, slot_of, child_in, child_on, level_in, path_in, SameRow, LeadsTo, Parts}
use Rattle.art_schedules.proofs.Common.{all_of, rows_of_hold, Each}
use Rattle.art_schedules.proofs.Common.{Named, Effect, Keeps, Fills, PutsLeaf, RemovesLeaf, HangsPair, HangsGrown, base_of_effect}
use Rattle.art_schedules.proofs.Common.{kind_of_effect, IsGone, Follows, LacksByte, FitsWords, upper_of, upper_row, IsOverwritten, BeginsWork}
use Rattle.art_schedules.proofs.Common.{IsOld, fresh_of, IsPending, HasFilledFresh, HasWordAt, IsInTree, IsSame}
use Rattle.std.proofs.Common.{slice_index}
use Rattle.art_control_states.specs.declared.stage.Work.TheVariants as work
use Rattle.art_schedules.proofs.alone.SlotLemmas.{keys-same, count-same, slot-is, row-keys, slot-same, form-same, IsChildWord}
use Rattle.art_schedules.proofs.changes.EffectLemmas.{parted-small}
use Rattle.art_schedules.proofs.changes.WrittenLemmas.{children-are-of-rows}
use Rattle.art_schedules.specs.effects.Begins.{FindsSlot}

-- what holds of each row holds of the upper one
pub upper-each : (P : HeldRow → Type 0) (h : Hold) → Each P (rows_of_hold h) → P (upper_row h)
upper-each P h e = go h.row h.above e
  where
    go : (row : HeldRow) (above : Option HeldRow) → Each P (row ∷ all_of above) → P (upper_of row above)
    go row None e = e.0
    go row (Some a) e = e.1.0

-- the word of a slot
pub slot-word : (words later : List ℕ) (base : ℕ) (kind : Kind) (x slot : ℕ) → x < 256 → SameRow words later base kind
    → slot_of words base kind x ≡ Some slot
    → slice_index later slot ≡ slice_index words slot
slot-word words later base kind x slot byte same at =
    let place : IsChildWord base kind slot = slot-is words base kind x slot byte at in
    ap (slice_index later) place.is
    ∙ (same place.place (omega (arith, first-some kind, place.low)) place.high ∙ ap (slice_index words) (sym place.is))

pub lacks-kept : (c : Setting) (n : HeldRow) (seen : Keys) (words later : List ℕ) → IsSame words later n → LacksByte c n seen words
    → LacksByte c n seen later
lacks-kept c n seen words later same lacks =
    let byte = key_byte-small (key_of c.call) (row_at n).level in
    let keys = row-keys words later n.base n.kind same in
    record {
      form = form-same words later n.base n.kind keys lacks.form;
      absent = slot-same words later n.base n.kind (byte_in c n) byte keys ∙ lacks.absent;
      keys = lacks.keys ∙ sym (keys-same words later n.base n.kind (byte_in c n) byte keys);
      count = lacks.count ∙ sym (count-same words later n.base c.call n.kind (byte_in c n) byte keys);
    }

pub info-kept : (words later : List ℕ) (base : ℕ) (kind : Kind) → SameRow words later base kind
    → slice_index later (info_at base) ≡ slice_index words (info_at base)
info-kept words later base kind same = same 1 (omega arith) (two-words kind)

-- The work fits other words of the same rows.
pub fits-kept : (c : Setting) (h : Hold) (work : Work) (words later : List ℕ) (x : ℕ) → x < 256 → Each (IsSame words later) (rows_of_hold h)
    → FindsSlot c words h work x → FitsWords c h work words → FitsWords c h work later
fits-kept c h (work.Write slot word old) words later x byte same finds fits = tt
fits-kept c h (work.Pair p) words later x byte same finds fits =
    let upper = upper_row h in (
      fits.0,
      ap (child_of c.shape) (slot-word words later upper.base upper.kind x p.slot byte (upper-each (IsSame words later) h same)
          finds.0) ∙ fits.1,
      fits.2,
      fits.3,
      fits.4,
    )
fits-kept c h (work.Put keys) words later x byte same finds fits = (fits.0, lacks-kept c h.row keys words later same.0 fits.1, fits.2)
fits-kept c h (work.Grow slot keys) words later x byte same finds fits =
    let upper = upper_row h in (
      fits.0,
      lacks-kept c h.row keys words later same.0 fits.1,
      fits.2,
      ap (child_of c.shape) (slot-word words later upper.base upper.kind x slot byte (upper-each (IsSame words later) h same)
          finds.1) ∙ fits.3,
    )

module _ (s : Shape) (n : ℕ) (calm after : List ℕ) (pairs : Contents) (gone : ℕ → Type 0) (fresh : ℕ → Kind → Type 0)
    (f : Follows s n calm after pairs gone fresh) where
  pub reached-kept : (b : ℕ) (k : Kind) → Reached s calm b k → (gone b → ⊥) → Reached s after b k
  reached-kept b k r stays = (f.rows b k).1 (inl (r, stays))

  pub unreached-kept : (b : ℕ) → ((k : Kind) → Reached s calm b k → ⊥) → ((k : Kind) → fresh b k → ⊥) → (k : Kind) → Reached s after b k → ⊥
  unreached-kept b none other k r = elim ((f.rows b k).0 r) [
    | inl here ↦ none k here.0
    | inr came ↦ other k came
  ]

  -- a child that hangs on a way parts from the key as before
  pub parts-kept : (key d a base : ℕ) (kind : Kind) (x : ℕ) (child : Child) → LeadsTo s calm key base kind x
      → child_on s calm base kind x ≡ child
      → Parts calm key d a child → Parts after key d a child
  parts-kept key d a base kind x Empty leads is parts = parts
  parts-kept key d a base kind x (Leaf k value) leads is parts = parts
  parts-kept key d a base kind x (Row b k) leads is parts =
      let path = f.path b k (below leads.reached x (way_byte s calm key base kind x leads) is) in
      (ap (λ p. first_difference p (key_bytes key)) path ∙ parts.0, parts.1 ∙ ap (λ p. slice_index p d) (sym path))

-- Where work begins.
module _ (c : Setting) (n : ℕ) (calm after : List ℕ) (pairs : Contents) (gone : ℕ → Type 0) (fresh : ℕ → Kind → Type 0)
    (f : Follows c.shape n calm after pairs gone fresh) where
  pub inside-kept : (row : HeldRow) → IsInTree c.shape calm row → (gone row.base → ⊥) → IsInTree c.shape after row
  inside-kept row inside stays =
      record { reached = reached-kept c.shape n calm after pairs gone fresh f row.base row.kind inside.reached stays; live = inside.live }

  finds-kept : (h : Hold) (work : Work) (x : ℕ) → LeadsTo c.shape calm (key_of c.call) (upper_row h).base (upper_row h).kind x
      → Each (IsSame calm after) (rows_of_hold h) → Each (λ row. gone row.base → ⊥) (rows_of_hold h) → FitsWords c h work calm
      → FindsSlot c calm h work x
      → FindsSlot c after h work x
  finds-kept h (work.Write slot word old) x leads same stay fits (alone, slot_is, over) =
      let byte = way_byte c.shape calm (key_of c.call) (upper_row h).base (upper_row h).kind x leads in (
        alone,
        slot-same calm after h.row.base h.row.kind x byte (row-keys calm after h.row.base h.row.kind same.0) ∙ slot_is,
        subst (IsOverwritten c word old) (sym (child-same c.shape calm after h.row.base h.row.kind x byte same.0)) over,
      )
  finds-kept h (work.Pair p) x leads same stay fits (slot_is, parts) =
      let upper = upper_row h in
      let byte = way_byte c.shape calm (key_of c.call) upper.base upper.kind x leads in
      let child : child_on c.shape calm upper.base upper.kind x ≡ p.child =
      ap (λ o. child_in c.shape calm o) slot_is ∙ fits.1 in (
        slot-same calm after upper.base upper.kind x byte
            (row-keys calm after upper.base upper.kind (upper-each (IsSame calm after) h same)) ∙ slot_is,
        parts-kept c.shape n calm after pairs gone fresh f (key_of c.call) p.level p.byte upper.base upper.kind x p.child leads child parts,
      )
  finds-kept h (work.Put keys) x leads same stay fits (alone, info) = (alone, info-kept calm after h.row.base h.row.kind same.0 ∙ info)
  finds-kept h (work.Grow slot keys) x leads same stay fits (above, slot_is, own, info) =
      let upper = upper_row h in
      let byte = way_byte c.shape calm (key_of c.call) upper.base upper.kind x leads in (
        above,
        slot-same calm after upper.base upper.kind x byte
            (row-keys calm after upper.base upper.kind (upper-each (IsSame calm after) h same)) ∙ slot_is,
        f.ways (key_of c.call) h.row.base h.row.kind (byte_in c h.row) own stay.0,
        info-kept calm after h.row.base h.row.kind same.0 ∙ info,
      )

  pub begins-kept : (h : Hold) (work : Work) → Each (IsSame calm after) (rows_of_hold h) → Each (λ row. gone row.base → ⊥) (rows_of_hold h)
      → BeginsWork c calm h work → BeginsWork c after h work
  begins-kept h work same stay b =
      let upper = upper_row h in
      let byte = way_byte c.shape calm (key_of c.call) upper.base upper.kind b.byte b.leads in
      record {
        call = b.call;
        words = fits-kept c h work calm after b.byte byte same b.finds b.words;
        byte = b.byte;
        leads = f.ways (key_of c.call) upper.base upper.kind b.byte b.leads (upper-each (λ row. gone row.base → ⊥) h stay);
        finds = finds-kept h work b.byte b.leads same stay b.words b.finds;
      }

  -- ---- what is pending

  old-kept : (key base : ℕ) (kind : Kind) (x : ℕ) (old : Option ℕ) → x < 256 → SameRow calm after base kind
      → IsOld c calm key base kind x old
      → IsOld c after key base kind x old
  old-kept key base kind x None byte same is = child-same c.shape calm after base kind x byte same ∙ is
  old-kept key base kind x (Some value) byte same is = child-same c.shape calm after base kind x byte same ∙ is

  slot-kept : (real later : List ℕ) (base : ℕ) (kind : Kind) (x slot word : ℕ) → x < 256 → SameRow calm after base kind
      → SameRow real later base kind
      → HasWordAt calm real base kind x slot word → HasWordAt after later base kind x slot word
  slot-kept real later base kind x slot word byte same own has =
      let at = slot-same calm after base kind x byte (row-keys calm after base kind same) ∙ has.at in
      let place : IsChildWord base kind slot = slot-is calm base kind x slot byte has.at in
      record {
        at = at;
        others = λ j low high ne. own j low high ∙ (has.others j low high ne ∙ sym (same j low high));
        here = ap (slice_index later) place.is
            ∙ (own place.place (omega (arith, first-some kind, place.low)) place.high ∙ (ap (slice_index real) (sym place.is) ∙ has.here));
      }

  -- a row that the effect takes away
  abbrev pub GoneStays : Effect → Type 0
  GoneStays e = (b : ℕ) (k : Kind) → Reached c.shape calm b k → IsGone e b → SameRow calm after b k × (gone b → ⊥)

  -- the row that it brings
  abbrev pub NewStays : Option Named → List ℕ → Type 0
  NewStays None later = Unit {0}
  NewStays (Some row) later = HasFilledFresh c later after row.0 row.1 × SameRow calm after row.0 row.1

  pub pending-kept : (real later : List ℕ) (e : Effect) (old : Option ℕ) → IsPending c real calm e old
      → SameRow calm after (base_of_effect e) (kind_of_effect e) → SameRow real later (base_of_effect e) (kind_of_effect e)
      → (gone (base_of_effect e) → ⊥)
      → NewStays (fresh_of e) later → GoneStays e → IsPending c later after e old
  pending-kept real later (Keeps base kind) old none same own stays new goes = none
  pending-kept real later (Fills base kind) old none same own stays new goes = none
  pending-kept real later (PutsLeaf base kind x key value) old (leads, was, row) same own stays new goes =
      let byte = way_byte c.shape calm key base kind x leads in (
        f.ways key base kind x leads stays,
        old-kept key base kind x old byte same was,
        elim row [
          | inl put ↦ inl (children-are-of-rows c.shape calm real after later base kind x (Leaf key value) put same own byte)
          | inr stored ↦ inr (record {
            small = stored.small;
            slot = stored.slot;
            has = slot-kept real later base kind x stored.slot (leaf_word key value) byte same own stored.has;
          })
        ],
      )
  pending-kept real later (RemovesLeaf base kind x key) old (leads, was, slot) same own stays new goes =
      let byte = way_byte c.shape calm key base kind x leads in (
        f.ways key base kind x leads stays,
        old-kept key base kind x old byte same was,
        (slot.0, slot-kept real later base kind x slot.0 0 byte same own slot.1),
      )
  pending-kept real later (HangsPair base kind x key value row d a) old (leads, none, parts, slot, ready, pair) same own stays new goes =
      let byte = way_byte c.shape calm key base kind x leads in
      let child = child-same c.shape calm after base kind x byte same in
      let keys = row-keys calm after row Four new.1 in
      let on : (y : ℕ) → y < 256 → child_on c.shape after row Four y ≡ child_on c.shape calm row Four y =
      λ y small. child-same c.shape calm after row Four y small new.1 in (
        f.ways key base kind x leads stays,
        none,
        subst (Parts after key d a) (sym child)
            (parts-kept c.shape n calm after pairs gone fresh f key d a base kind x (child_on c.shape calm base kind x) leads refl parts),
        (slot.0, slot-kept real later base kind x slot.0 (row_word row) byte same own slot.1),
        new.0,
        record {
          form = form-same calm after row Four keys pair.form;
          info = info-kept calm after row Four new.1 ∙ pair.info;
          first = on a (parted-small calm key d a (child_on c.shape calm base kind x) parts) ∙ (pair.first ∙ sym child);
          second = on (slice_index (key_bytes key) d) (key_byte-small key d) ∙ pair.second;
          others = λ y small na nb. on y small ∙ pair.others y small na nb;
        },
      )
  pending-kept real later (HangsGrown base kind x key value full full_kind y row larger) old
      (above, none, hangs, leads, empty, slot, ready, copy) same own stays
      new goes =
      let byte = way_byte c.shape calm key base kind x above in
      let small_y = way_byte c.shape calm key full full_kind y leads in
      let kept = goes full full_kind leads.reached refl in
      let on : (z : ℕ) → z < 256 → child_on c.shape after row larger z ≡ child_on c.shape calm row larger z =
      λ z small. child-same c.shape calm after row larger z small new.1 in (
        f.ways key base kind x above stays,
        none,
        child-same c.shape calm after base kind x byte same ∙ hangs,
        f.ways key full full_kind y leads kept.1,
        child-same c.shape calm after full full_kind y small_y kept.0 ∙ empty,
        (slot.0, slot-kept real later base kind x slot.0 (row_word row) byte same own slot.1),
        new.0,
        record {
          form = form-same calm after row larger (row-keys calm after row larger new.1) copy.form;
          info = info-kept calm after row larger new.1
              ∙ (copy.info
              ∙ (ap (λ l. info_word larger l (path_in calm full full_kind)) (sym (f.level full full_kind leads.reached))
              ∙ ap (info_word larger (level_in after full full_kind)) (sym (f.path full full_kind leads.reached))));
          others = λ z small ne. on z small ∙ (copy.others z small ne ∙ sym (child-same c.shape calm after full full_kind z small kept.0));
          put = on y small_y ∙ copy.put;
        },
      )
