-- No call of the optimistic tree stores the info word of a row that is settled: the info words of calm are those of the table.
use Rattle.art_schedules.proofs.Common.{◌≡◌, ◌≢◌, ◌⊎◌, inl, inr, ℕ, ◌+◌, ◌*◌, ◌<◌, ◌≤◌, List, [], ◌∷◌, Bool, true, false, refl, sym, ap, ◌∙◌}
use Rattle.art_schedules.proofs.words.TableLemmas.{rows_apart, row_begins}
use Rattle.art_schedules.proofs.Common.{subst, arith, nat_lt, Option, Some, None, cases_eq, Call, Shape, Kind, Four, Sixteen, FortyEight, Full}
use Rattle.art_schedules.proofs.Common.{capacity, row_words, kind_at, info_at, keys_at, more_keys_at, index_at, count_at, child_at, seven-words}
use Rattle.art_schedules.proofs.Common.{key_byte-small, Optimistic, Store, Point, Asks, Setting, next_kind, store-word}
use Rattle.art_schedules.proofs.Common.{load-store, exchange-store, add-store, answers-asks, HeldRow, Keys, Hold, Growing, Pair, PairWord, Stage}
use Rattle.art_schedules.proofs.Common.{Lock, Exchange, Wait, Leave, Between, Info, Find, FindKeys, FindMore, FindCount, Slot, Check, CheckLast}
use Rattle.art_schedules.proofs.Common.{LetGo, Take, Write, ClaimPair, StorePair, PutLoad, PutStore, PutLeaf, PutKeys, PutMore, PutCount}
use Rattle.art_schedules.proofs.Common.{ClaimGrow, GrowInfo, GrowLoad, GrowStore, SpreadIndex, SpreadLoad, SpreadStore, GrowLeaf, GrowKeys}
use Rattle.art_schedules.proofs.Common.{GrowCount, Hang, Obsolete, Unlock, Over, row_at, byte_in, keys_in, place_in, setting, turn_at, find_turn}
use Rattle.art_schedules.proofs.Common.{pair_turn, put_keys_turn, grow_keys_turn, grow_leaf_turn, grow_count_turn, CallAt, OnKey, OnScan}
use Rattle.art_schedules.proofs.Common.{call_turn, Process, State, Reached, OfRows, Named, Each, IsSlot, IsKept, HangsIn, KnowsKey, Knows, holds}
use Rattle.art_schedules.proofs.Common.{IsAmong, IsOpen, IsSettled, IsSound, all_of, fills, row_filled, stage_of}
use Rattle.art_schedules.proofs.versions.KeyLemmas.{slot-behind}
use Rattle.art_schedules.proofs.versions.MoveLemmas.{settled-row}
use Rattle.art_schedules.proofs.Common.{is_busy, IsCalm, calm_of, RowChange, RowsStay, RowWritten, RowFilled, RowTaken, RowReleased, CalmStep}
use Rattle.std.proofs.Common.{◌==◌, slice_index, if◌then◌else◌}
use Rattle.art_rows.proofs.WriterLemmas.{new_place-most}
use Rattle.art_rows.proofs.ByteLemmas.{keys4-few}
use Rattle.art_control_states.specs.declared.stage.PairWord.TheVariants as pair_word
use Rattle.art_control_states.specs.Stages.{leaf_place, new_child_at}
use Rattle.art_schedules.specs.versions.Holding.{IsCopied}
use Rattle.art_schedules.proofs.calm.VersionLemmas.{version-change, VersionChange, Stays, IsTaken, IsReleased}
use Rattle.art_schedules.proofs.calm.InductionLemmas.{step-of-run}
use Rattle.art_schedules.proofs.calm.RunLemmas.{along-calm, calm-at}
use Rattle.art_schedules.specs.optimistic.Laws.{InfosStayInRuns, CalmAgrees}

-- the word is one of a row, and not its info
record IsAway (shape : Shape) (word : ℕ) : Type 0 where
  base : ℕ
  kind : Kind
  row : kind_at shape base ≡ Some kind
  from : base ≤ word
  within : word < base + row_words kind
  other : word ≢ info_at base

module _ (shape : Shape) (call : Call) (P : OfRows) (is-row : (b : ℕ) (k : Kind) → P b k → kind_at shape b ≡ Some k) where
  abbrev c : Setting
  c = setting shape Optimistic call

  away : (base : ℕ) (kind : Kind) (word : ℕ) → kind_at shape base ≡ Some kind → base ≤ word → word < base + row_words kind
      → word ≢ info_at base
      → IsAway shape word
  away base kind word row from within other = record { base = base; kind = kind; row = row; from = from; within = within; other = other }

  away-slot : (base : ℕ) (kind : Kind) (word : ℕ) → kind_at shape base ≡ Some kind → IsSlot base kind word → IsAway shape word
  away-slot base kind word row slot =
      let behind = slot-behind base kind word slot in
      away base kind word row (omega (arith, behind.0)) behind.1 (apart kind slot)
    where
      apart : (kind : Kind) → IsSlot base kind word → word ≢ info_at base
      apart Four h e = omega (arith, h.2, e)
      apart Sixteen h e = omega (arith, h.2, e)
      apart FortyEight h e = omega (arith, h.2, e)
      apart Full h e = omega (arith, h.2, e)

  away-base : (h : HeldRow) → IsKept false P h → IsAway shape h.base
  away-base h kept = away h.base h.kind h.base (is-row h.base h.kind kept.1) (omega arith) (omega (arith, seven-words h.kind))
      (λ e. omega (arith, e))

  -- the word is no info, or it is that of the row that is filled
  abbrev Aims : List Named → ℕ → Type 0
  Aims filled word = IsAway shape word ⊎ ((b : ℕ) × (k : Kind) × (filled ≡ (b, k) ∷ []) × (word ≡ info_at b))

  to : (x word : ℕ) → x ≡ word → IsAway shape x → IsAway shape word
  to x word e a = subst (IsAway shape) e a

  find-none : (kind : Kind) (n : HeldRow) (word value : ℕ) (mark : Option Point) → find_turn kind c n ≡ Asks (Store word value) mark → ⊥
  find-none Four n word value mark e = load-store e
  find-none Sixteen n word value mark e = load-store e
  find-none FortyEight n word value mark e = load-store e
  find-none Full n word value mark e = load-store e

  pair : (p : Pair) (base : ℕ) (which : PairWord) (word value : ℕ) (mark : Option Point) → kind_at shape base ≡ Some Four
      → pair_turn c p base which ≡ Asks (Store word value) mark → Aims ((base, Four) ∷ []) word
  pair p base pair_word.Info word value mark row e = inr (base, Four, refl, sym (store-word e))
  pair p base pair_word.Keys word value mark row e =
      inl (to (keys_at base) word (store-word e) (away base Four _ row (omega arith) (omega arith)
      (λ f. omega (arith, f))))
  pair p base pair_word.Lesser word value mark row e =
      inl (to (child_at Four base 0) word (store-word e) (away base Four _ row (omega arith)
      (omega arith) (λ f. omega (arith, f))))
  pair p base pair_word.Greater word value mark row e =
      inl (to (child_at Four base 1) word (store-word e) (away base Four _ row (omega arith)
      (omega arith) (λ f. omega (arith, f))))

  put-keys : (kind : Kind) (h : Hold) (keys : Keys) (word value : ℕ) (mark : Option Point) → kind_at shape h.row.base ≡ Some kind
      → put_keys_turn kind c h keys ≡ Asks (Store word value) mark → IsAway shape word
  put-keys Four h keys word value mark row e =
      to (keys_at h.row.base) word (store-word e) (away h.row.base Four _ row (omega arith) (omega arith)
      (λ f. omega (arith, f)))
  put-keys Sixteen h keys word value mark row e =
      to (keys_at h.row.base) word (store-word e) (away h.row.base Sixteen _ row (omega arith) (omega arith)
      (λ f. omega (arith, f)))
  put-keys FortyEight h keys word value mark row e =
      let small = key_byte-small (Rattle.art_rows.specs.Rows.key_of call) (row_at h.row).level in
      to (index_at h.row.base (byte_in c h.row)) word (store-word e)
      (away h.row.base FortyEight _ row (omega arith) (omega (arith, small)) (λ f. omega
      (arith, f)))
  put-keys Full h keys word value mark row e =
      to h.row.base word (store-word e) (away h.row.base Full _ row (omega arith) (omega arith) (λ f. omega
      (arith, f)))

  grown : (kind : Kind) (g : Growing) (place left word value : ℕ) (mark : Option Point)
      → kind_at shape g.base ≡ Some (next_kind kind) → IsCopied kind
      → place + left < capacity kind → Asks (Store (new_child_at kind c g place) value) None ≡ Asks (Store word value) mark
      → IsAway shape word
  grown Four g place left word value mark row copied less e =
      to (new_child_at Four c g place) word (store-word e)
      (away-slot g.base Sixteen _ row (_, moved (nat_lt place (place_in c g.hold g.keys)) less, refl))
    where
      moved : (b : Bool) → place + left < 4 → (if b then place else place + 1) < 16
      moved true h = omega (arith, h)
      moved false h = omega (arith, h)
  grown Sixteen g place left word value mark row copied less e =
      to (child_at FortyEight g.base place) word (store-word e) (away-slot g.base FortyEight _ row (place, omega (arith, less), refl))
  grown FortyEight g place left word value mark row copied less e = absurd copied
  grown Full g place left word value mark row copied less e = absurd copied

  grown-leaf : (kind : Kind) (g : Growing) (word value : ℕ) (mark : Option Point) → g.hold.row.kind ≡ kind
      → kind_at shape g.base ≡ Some (next_kind kind)
      → grow_leaf_turn kind c g ≡ Asks (Store word value) mark → IsAway shape word
  grown-leaf Four g word value mark is row e =
      let few = keys4-few g.keys.first in
      let most = new_place-most (byte_in c g.hold.row) (keys_in Four g.keys) in
      let place : place_in c g.hold g.keys ≡ Rattle.art_rows.specs.Words.new_place (byte_in c g.hold.row) (keys_in Four g.keys) =
      ap (λ k. Rattle.art_rows.specs.Words.new_place (byte_in c g.hold.row) (keys_in k g.keys)) is in
      to (child_at Sixteen g.base (place_in c g.hold g.keys)) word (store-word e)
      (away-slot g.base Sixteen _ row (place_in c g.hold g.keys, omega (arith, few, most, place), refl))
  grown-leaf Sixteen g word value mark is row e =
      to (child_at FortyEight g.base 16) word (store-word e) (away-slot g.base FortyEight _ row (16, omega arith, refl))
  grown-leaf FortyEight g word value mark is row e =
      to (child_at Full g.base (byte_in c g.hold.row)) word (store-word e)
      (away-slot g.base Full _ row (
        byte_in c g.hold.row,
        key_byte-small (Rattle.art_rows.specs.Rows.key_of call)
            (row_at g.hold.row).level,
        refl,
      ))
  grown-leaf Full g word value mark is row e =
      to (child_at Full g.base (byte_in c g.hold.row)) word (store-word e)
      (away-slot g.base Full _ row (
        byte_in c g.hold.row,
        key_byte-small (Rattle.art_rows.specs.Rows.key_of call)
            (row_at g.hold.row).level,
        refl,
      ))

  grown-keys : (kind : Kind) (g : Growing) (place left word value : ℕ) (mark : Option Point)
      → kind_at shape g.base ≡ Some (next_kind kind) → IsCopied kind
      → place + left < 32 → grow_keys_turn kind c g place ≡ Asks (Store word value) mark → IsAway shape word
  grown-keys Four g place left word value mark row copied less e = go (place == 0) e
    where
      go : (b : Bool) → (if b then Asks (Store (keys_at g.base) (Rattle.art_rows.specs.Words.keys16_word
          (Rattle.art_control_states.specs.Stages.keys_after c g.hold g.keys))) None
          else Asks (Store (more_keys_at g.base) (Rattle.art_rows.specs.Words.more_keys16_word
          (Rattle.art_control_states.specs.Stages.keys_after c g.hold g.keys))) None)
          ≡ Asks (Store word value) mark → IsAway shape word
      go true e = to (keys_at g.base) word (store-word e) (away g.base Sixteen _ row (omega arith) (omega arith) (λ f. omega (arith, f)))
      go false e = to (more_keys_at g.base) word (store-word e) (away g.base Sixteen _ row (omega arith) (omega arith)
          (λ f. omega (arith, f)))
  grown-keys Sixteen g place left word value mark row copied less e =
      to (index_at g.base (8 * place)) word (store-word e)
      (away g.base FortyEight _ row (omega arith) (omega (arith, less)) (λ f. omega (arith, f)))
  grown-keys FortyEight g place left word value mark row copied less e = absurd copied
  grown-keys Full g place left word value mark row copied less e = absurd copied

  grown-count : (kind : Kind) (g : Growing) (word value : ℕ) (mark : Option Point)
      → kind_at shape g.base ≡ Some (next_kind kind) → IsCopied kind
      → grow_count_turn kind g ≡ Asks (Store word value) mark → IsAway shape word
  grown-count Four g word value mark row copied e =
      to (count_at Sixteen g.base) word (store-word e) (away g.base Sixteen _ row (omega arith) (omega arith) (λ f. omega (arith, f)))
  grown-count Sixteen g word value mark row copied e =
      to (count_at FortyEight g.base) word (store-word e) (away g.base FortyEight _ row (omega arith) (omega arith) (λ f. omega (arith, f)))
  grown-count FortyEight g word value mark row copied e = absurd copied
  grown-count Full g word value mark row copied e = absurd copied

  hung : (above : Option HeldRow) (slot : ℕ) → HangsIn above slot → Each (IsKept false P) (all_of above) → IsAway shape slot
  hung None slot fits kept = absurd fits
  hung (Some a) slot fits kept = away-slot a.base a.kind slot (is-row a.base a.kind kept.0.1) fits

  -- the row of this kind
  counts : (h : HeldRow) (kind : Kind) → h.kind ≡ kind → kind_at shape h.base ≡ Some h.kind → (word value : ℕ) (mark : Option Point) (v : ℕ)
      → (info_at h.base < count_at kind h.base) → (count_at kind h.base < h.base + row_words kind)
      → Asks (Store (count_at h.kind h.base) v) None ≡ Asks (Store word value) mark → IsAway shape word
  counts h kind is row word value mark v low high e =
      to (count_at h.kind h.base) word (store-word e)
      (subst (λ x. IsAway shape x) (ap (λ k. count_at k h.base) (sym is))
      (away h.base kind (count_at kind h.base) (row ∙ ap Some is) (omega (arith, low)) high (λ f. omega (arith, f, low))))

  aims : (stage : Stage) → KnowsKey P c stage → (word value : ℕ) (mark : Option Point) → turn_at c stage ≡ Asks (Store word value) mark
      → Aims (row_filled stage) word
  aims (Lock t first) k word value mark e = absurd k.fits.0
  aims (Exchange t v) k word value mark e = absurd (exchange-store e)
  aims (Wait t) k word value mark e = absurd (load-store e)
  aims (Leave d) k word value mark e = absurd k.fits
  aims (Between d kept) k word value mark e = absurd (load-store e)
  aims (Info d kept) k word value mark e = absurd (load-store e)
  aims (Find p) k word value mark e = absurd (find-none p.row.kind p.row word value mark e)
  aims (FindKeys p count) k word value mark e = absurd (load-store e)
  aims (FindMore p count first) k word value mark e = absurd (load-store e)
  aims (FindCount p index) k word value mark e = absurd (load-store e)
  aims (Slot p slot) k word value mark e = absurd (load-store e)
  aims (Check p f) k word value mark e = absurd (load-store e)
  aims (CheckLast n) k word value mark e = absurd (load-store e)
  aims (LetGo above p f) k word value mark e = absurd k.fits
  aims (Take t) k word value mark e = absurd (exchange-store e)
  aims (Write h slot v reply) k word value mark e =
      inl (to slot word (store-word e) (away-slot h.row.base h.row.kind slot (is-row h.row.base h.row.kind k.kept.0.1) k.fits))
  aims (ClaimPair h p) k word value mark e = absurd (add-store e)
  aims (StorePair h p base which) k word value mark e = pair p base which word value mark k.filled.0 e
  aims (PutLoad h keys left) k word value mark e = absurd (load-store e)
  aims (PutStore h keys left v) k word value mark e = inl (to _ word (store-word e)
      (away-slot h.row.base h.row.kind _ (is-row h.row.base h.row.kind k.kept.0.1) (place_in c h keys + left + 1, k.fits.1, refl)))
  aims (PutLeaf h keys) k word value mark e = inl (to _ word (store-word e)
      (away-slot h.row.base h.row.kind _ (is-row h.row.base h.row.kind k.kept.0.1) (leaf_place h.row.kind c h keys, k.fits.1, refl)))
  aims (PutKeys h keys) k word value mark e = inl (put-keys h.row.kind h keys word value mark (is-row h.row.base h.row.kind k.kept.0.1) e)
  aims (PutMore h keys) k word value mark e = inl (to (more_keys_at h.row.base) word (store-word e)
      (away h.row.base Sixteen _ (is-row h.row.base h.row.kind k.kept.0.1 ∙ ap Some k.fits) (omega arith) (omega arith)
      (λ f. omega (arith, f))))
  aims (PutCount h keys) k word value mark e = inl (elim k.fits [
    | inl is ↦ counts h.row Sixteen is (is-row h.row.base h.row.kind k.kept.0.1) word value mark _ (omega arith) (omega arith) e
    | inr is ↦ counts h.row FortyEight is (is-row h.row.base h.row.kind k.kept.0.1) word value mark _ (omega arith) (omega arith) e
  ])
  aims (ClaimGrow h slot keys) k word value mark e = absurd (add-store e)
  aims (GrowInfo g) k word value mark e = inr (g.base, next_kind g.hold.row.kind, refl, sym (store-word e))
  aims (GrowLoad g place left) k word value mark e = absurd (load-store e)
  aims (GrowStore g place left v) k word value mark e =
      inl (grown g.hold.row.kind g place left word v mark k.filled.0 k.fits.1 k.fits.2 (restored e))
    where
      restored : Asks (Store (new_child_at g.hold.row.kind c g place) v) None ≡ Asks (Store word value) mark
          → Asks (Store (new_child_at g.hold.row.kind c g place) v) None ≡ Asks (Store word v) mark
      restored e = cc
  aims (SpreadIndex g place left) k word value mark e = absurd (load-store e)
  aims (SpreadLoad s entry left) k word value mark e = absurd (load-store e)
  aims (SpreadStore s entry left v) k word value mark e = inl (to _ word (store-word e)
      (away-slot s.growing.base Full _ (k.filled.0 ∙ ap (λ x. Some (next_kind x)) k.fits.1)
      (8 * s.place + entry, omega (arith, k.fits.2, k.fits.3), refl)))
  aims (GrowLeaf g) k word value mark e = inl (grown-leaf g.hold.row.kind g word value mark refl k.filled.0 e)
  aims (GrowKeys g place left) k word value mark e =
      inl (grown-keys g.hold.row.kind g place left word value mark k.filled.0 k.fits.1 k.fits.2 e)
  aims (GrowCount g) k word value mark e = inl (grown-count g.hold.row.kind g word value mark k.filled.0 k.fits.1 e)
  aims (Hang g) k word value mark e = inl (to g.slot word (store-word e) (hung g.hold.above g.slot k.fits k.kept.1))
  aims (Obsolete h) k word value mark e = inl (to h.row.base word (store-word e) (away-base h.row k.kept.0))
  aims (Unlock h outcome) k word value mark e = inl (to h.row.base word (store-word e) (away-base h.row k.kept.0))
  aims (Over outcome) k word value mark e = absurd (answers-asks e)

  -- where a call that holds a row stores
  at-aims : (at : CallAt) → Knows P c at → (h : HeldRow) → IsAmong h (holds c at) → (word value : ℕ) (mark : Option Point)
      → call_turn c at ≡ Asks (Store word value) mark → Aims (fills at) word
  at-aims (OnKey stage) k h among word value mark e = aims stage k word value mark e
  at-aims (OnScan low high scan) k h among word value mark e = absurd among

-- ---- a step

module _ (shape : Shape) (n : ℕ) (s : State) (sound : IsSound Optimistic shape n s) (p : ℕ) (t : State) where
  info-row : (base : ℕ) (kind : Kind) (b : ℕ) (k : Kind) (word : ℕ) → kind_at shape base ≡ Some kind → kind_at shape b ≡ Some k → b ≤ word
      → word < b + row_words k → info_at base ≡ word → b ≡ base
  info-row base kind b k word row other from within is =
      (rows_apart shape b base k kind word other row from within (omega (arith, is)) (omega (arith, is, seven-words kind))).0

  -- the row is not the one that a process fills
  unfilled : (base : ℕ) (kind : Kind) → IsSettled Optimistic shape s base kind → (p : ℕ) (call : Call) (q : Process) → IsOpen s p call q
      → (b : ℕ) (k : Kind)
      → fills (stage_of Optimistic shape call q) ≡ (b, k) ∷ [] → b ≡ base → ⊥
  unfilled base kind settled p call q o b k e same = settled.unfilled p call q o b k e (sym same)

  pub info-stays : RowChange Optimistic shape s p t → (base : ℕ) (kind : Kind) → IsSettled Optimistic shape s base kind
      → slice_index t.words (info_at base) ≡ slice_index s.words (info_at base)
  info-stays (RowsStay same) base kind settled =
      same (info_at base) (omega (arith, row_begins shape base kind (settled-row Optimistic shape s base kind settled)))
  info-stays (RowWritten word value asks h among kept behind is others) base kind settled = elim (cases_eq (info_at base) word) [
    | inl e ↦ absurd (elim (at-aims shape asks.call (IsSettled Optimistic shape s) (settled-row Optimistic shape s)
        (stage_of Optimistic shape asks.call asks.process)
        (sound.knows p asks.call asks.process asks.is_open) h among word value asks.mark asks.turn) [
          | inl a ↦ a.other (sym e
              ∙ ap info_at (sym (info-row base kind a.base a.kind word (settled-row Optimistic shape s base kind settled) a.row
              a.from a.within e)))
          | inr f ↦ unfilled base kind settled p asks.call asks.process asks.is_open f.0 f.1 f.2 (omega (arith, e, f.3))
        ])
    | inr d ↦ others (info_at base) d
  ]
  info-stays (RowFilled word value asks b k filled row behind is others) base kind settled = elim (cases_eq (info_at base) word) [
    | inl e ↦ absurd (unfilled base kind settled p asks.call asks.process asks.is_open b k filled
        (info-row base kind b k word (settled-row Optimistic shape s base kind settled) row (omega (arith, behind.0)) behind.1 e))
    | inr d ↦ others (info_at base) d
  ]
  info-stays (RowTaken h asks rows with held-then kept was is others) base kind settled = others (info_at base) (λ e.
      let same = info-row base kind h.base h.kind h.base (settled-row Optimistic shape s base kind settled)
      (settled-row Optimistic shape s h.base h.kind kept.1)
      (omega arith) (omega (arith, seven-words h.kind)) e in
      omega (arith, e, same))
  info-stays (RowReleased h value asks rest with held-then kept written is others) base kind settled = others (info_at base) (λ e.
      let same = info-row base kind h.base h.kind h.base (settled-row Optimistic shape s base kind settled)
      (settled-row Optimistic shape s h.base h.kind kept.1)
      (omega arith) (omega (arith, seven-words h.kind)) e in
      omega (arith, e, same))

  -- calm's info words are the present ones, of settled rows
  abbrev pub InfosAgree : State → List ℕ → Type 0
  InfosAgree u calm = (base : ℕ) (kind : Kind) → IsSettled Optimistic shape u base kind
      → slice_index calm (info_at base) ≡ slice_index u.words (info_at base)

  pub infos-agree : (first calm after : List ℕ) → IsCalm Optimistic shape first s calm → IsCalm Optimistic shape first t after
      → CalmStep Optimistic shape s p t calm after → InfosAgree s calm → InfosAgree t after
  infos-agree first calm after before behind made here base kind settled = go (is_busy (slice_index t.words base)) refl
    where
      row : kind_at shape base ≡ Some kind
      row = settled-row Optimistic shape t base kind settled

      was : is_busy (slice_index t.words base) ≡ true → VersionChange Optimistic shape s t base kind
          → IsSettled Optimistic shape s base kind
      was busy (Stays e) = before.settled base kind row (ap is_busy (sym e) ∙ busy)
      was busy (IsTaken v free is later x) = x
      was busy (IsReleased v free is later x) = x

      go : (b : Bool) → is_busy (slice_index t.words base) ≡ b → slice_index after (info_at base) ≡ slice_index t.words (info_at base)
      go false e = behind.free base kind row e (info_at base) (omega arith) (omega (arith, seven-words kind))
      go true e =
          let x = was e (version-change Optimistic shape n s sound p t base kind row made.rows) in
          made.busy base kind row e (info_at base) (omega arith) (omega (arith, seven-words kind))
          ∙ (here base kind x ∙ sym (info-stays made.rows base kind x))

-- ---- runs

pub infos-stay : InfosStayInRuns
infos-stay plan start words schedule p s t h v =
    let made = step-of-run Optimistic (inr refl) plan start words schedule p s t h.before v h.made in
    info-stays plan.shape made.count s made.before p t made.rows

pub calm-agrees : CalmAgrees
calm-agrees plan start words schedule s run v =
    record { free = calm.free; info = λ base kind reached. infos base kind (settled base kind reached) }
  where
    calm : IsCalm plan.variant plan.shape words s (calm_of plan words schedule)
    calm = calm-at plan start words schedule s run (inr v)

    settled : (base : ℕ) (kind : Kind) → Reached plan.shape (calm_of plan words schedule) base kind
        → IsSettled Optimistic plan.shape s base kind
    settled base kind reached = subst (λ x. IsSettled x plan.shape s base kind) v (calm.reached base kind reached)

    Holds : List ℕ → State → List ℕ → Type 0
    Holds earlier u known = (base : ℕ) (kind : Kind) → IsSettled Optimistic plan.shape u base kind
        → slice_index known (info_at base) ≡ slice_index u.words (info_at base)

    infos : Holds schedule s (calm_of plan words schedule)
    infos = along-calm plan start words (inr v) Holds (λ base kind x. refl)
        (λ earlier p a b known after before behind e here there made.
        let step = step-of-run Optimistic (inr refl) plan start words earlier p a b before v e in
        infos-agree plan.shape step.count a step.before p b words known after (subst (λ x. IsCalm x plan.shape words a known) v here)
        (subst (λ x. IsCalm x plan.shape words b after) v there) (subst (λ x. CalmStep x plan.shape a p b known after) v made))
        schedule s run
