-- What a call knows of the rows on its way stays so where calm's tree goes on, for a row whose calm words stay and that does not leave the
-- tree.
use Rattle.art_schedules.proofs.Common.{◌≡◌, ℕ, ◌+◌, ◌-◌, ◌<◌, ◌≤◌, List, Bool, true, false, sym, ap, ◌∙◌, subst, arith, Contents, Kind}
use Rattle.art_schedules.proofs.alone.SlotLemmas.{row-keys, slot-same}
use Rattle.art_schedules.proofs.Common.{FortyEight, Child, row_words, index_at, child_of, Setting, key_of, HeldRow, Finding, Has, Lacks, Hold, Work}
use Rattle.art_schedules.proofs.Common.{Each, Follows, HasChild, IsOnWay, SameRow, byte_in, rows_of_hold, slot_in}
use Rattle.art_schedules.proofs.versions.KnownLemmas.{each-map}
use Rattle.art_schedules.proofs.Common.{KnowsFinding, HangsOnWay, BeginsWork}
use Rattle.std.proofs.Common.{slice_index}
use Rattle.art_schedules.proofs.effects.ValueLemmas.{byte-in-small}
use Rattle.art_schedules.proofs.effects.KeptLemmas.{slot-word, lacks-kept, begins-kept}

-- the word of a row at another place
pub placed-word : (calm after : List ℕ) (base : ℕ) (kind : Kind) (word j : ℕ) → SameRow calm after base kind → word ≡ base + j → 1 ≤ j
    → j < row_words kind → slice_index after word ≡ slice_index calm word
placed-word calm after base kind word j same is low high = ap (slice_index after) is ∙ (same j low high ∙ ap (slice_index calm) (sym is))

module _ (c : Setting) {n : ℕ} {calm after : List ℕ} {pairs : Contents} {gone : ℕ → Type 0} {fresh : ℕ → Kind → Type 0}
    (follows : Follows c.shape n calm after pairs gone fresh) where
  -- the calm row stays
  abbrev Still : HeldRow → Type 0
  Still h = SameRow calm after h.base h.kind × (gone h.base → ⊥)

  pub on-way : (h : HeldRow) → Still h → IsOnWay c calm h → IsOnWay c after h
  on-way h still on = record {
    leads = follows.ways (key_of c.call) h.base h.kind (byte_in c h) on.leads still.1;
    info = follows.info h.base h.kind on.leads.reached ∙ on.info;
  }

  pub slot-still : (h : HeldRow) → Still h → slot_in c after h ≡ slot_in c calm h
  slot-still h still = slot-same calm after h.base h.kind (byte_in c h) (byte-in-small c h) (row-keys calm after h.base h.kind still.0)

  child-still : (h : HeldRow) (slot : ℕ) (child : Child) → Still h → HasChild c calm h slot child → HasChild c after h slot child
  child-still h slot child still at = record {
    at = slot-still h still ∙ at.at;
    has = ap (child_of c.shape) (slot-word calm after h.base h.kind (byte_in c h) slot (byte-in-small c h) still.0 at.at) ∙ at.has;
  }

  pub hangs-still : (h : HeldRow) (slot : ℕ) (child : Child) → Still h → HangsOnWay c calm h slot child → HangsOnWay c after h slot child
  hangs-still h slot child still (on, at) = (on-way h still on, child-still h slot child still at)

  pub finding-still : (i : Bool) (h : HeldRow) (f : Finding) → Still h → KnowsFinding i c calm h f → KnowsFinding i c after h f
  finding-still i h (Has slot child) still at = child-still h slot child still at
  finding-still true h (Lacks keys) still l = lacks-kept c h keys calm after still.0 l
  finding-still false h (Lacks keys) still none = slot-still h still ∙ none

  pub index-still : (h : HeldRow) → Still h → h.kind ≡ FortyEight
      → slice_index after (index_at h.base (byte_in c h)) ≡ slice_index calm (index_at h.base (byte_in c h))
  index-still h still is =
      let small = byte-in-small c h in
      placed-word calm after h.base FortyEight (index_at h.base (byte_in c h)) (index_at h.base (byte_in c h) - h.base)
      (subst (λ k. SameRow calm after h.base k) is still.0) (omega arith) (omega arith) (omega (arith, small))

  -- work that begins
  pub begins-still : (h : Hold) (work : Work) → Each Still (rows_of_hold h) → BeginsWork c calm h work → BeginsWork c after h work
  begins-still h work still =
      begins-kept c n calm after pairs gone fresh follows h work (each-map (λ (x : HeldRow) y. y.0) (rows_of_hold h) still)
      (each-map (λ (x : HeldRow) y. y.1) (rows_of_hold h) still)
