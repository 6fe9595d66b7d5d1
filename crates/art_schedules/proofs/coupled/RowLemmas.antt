-- What a step leaves of the words of rows, and of the calm tree, where a call on its way makes it.
use Rattle.art_schedules.proofs.Common.{◌≡◌, ◌≢◌, ◌⊎◌, inl, inr, ℕ, ◌+◌, ◌/◌, ◌%◌, ◌^◌, ◌<◌, ◌≤◌, List, [], ◌∷◌, refl, ap, sym, subst, ◌∙◌, true}
use Rattle.art_schedules.proofs.alone.LikeLemmas.{sits}
use Rattle.art_schedules.proofs.alone.PlaceLemmas.{sits-kind_at}
use Rattle.art_schedules.proofs.words.TableLemmas.{rows_apart, row_begins}
use Rattle.art_schedules.proofs.words.VersionLemmas.{obsolete_released}
use Rattle.art_schedules.proofs.Common.{false, arith, slice_index, Option, Some, cases_eq, cases_lt, same_Some, Call, Shape, Kind, kind_at}
use Rattle.art_schedules.proofs.Common.{row_words, claims_of, is_obsolete, released_word, some-words, claims-few}
use Rattle.art_schedules.proofs.Common.{Coupled, Access, Store, Point, Turn, Asks, HeldRow, call_turn, setting, Process, State, Reached, IsAtRest}
use Rattle.art_schedules.proofs.Common.{SameRow, IsOutside, IsAmong, IsAfterVersion, IsOpen, IsSettled}
use Rattle.art_schedules.proofs.Common.{AsksFor, RowChange, filled_by, held_by, is_busy, stage_of}
use Rattle.art_schedules.proofs.versions.KnownLemmas.{held-is-kept}
use Rattle.art_schedules.proofs.versions.MoveLemmas.{settled-row}
use Rattle.art_schedules.proofs.versions.WordFacts.{version-free}
use Rattle.art_schedules.proofs.Common.{RowsStay, RowWritten, RowFilled, RowTaken, RowReleased, KeepsTree, IsHeldLive}
use Rattle.std.proofs.Common.{All}
use Rattle.art_schedules.proofs.calm.VersionLemmas.{not-behind, free-busy, released-free, locked-same}
use Rattle.art_schedules.proofs.calm.UseLemmas.{without-store, with-released}
use Rattle.art_schedules.proofs.changes.FollowLemmas.{low-words-keep}
use Rattle.art_schedules.proofs.changes.RowLemmas.{steady-row}
use Rattle.art_schedules.proofs.coupled.MadeLemmas.{Facts}

row-word : (base j : ℕ) (kind : Kind) → 1 ≤ j → j < row_words kind → IsAfterVersion base kind (base + j)
row-word base j kind low high = (omega (arith, low), omega (arith, high))

module _ (shape : Shape) (s t : State) (p : ℕ) (first calm after : List ℕ) (f : Facts shape s t p first calm after) where
  -- a row that a call holds is settled
  pub kept-row : (r : ℕ) (call : Call) (q : Process) → IsOpen s r call q → (x : HeldRow) → IsAmong x (held_by Coupled shape call q)
      → IsSettled Coupled shape s x.base x.kind
  kept-row r call q o x a =
      (held-is-kept (IsSettled Coupled shape s) (setting shape Coupled call) (stage_of Coupled shape call q)
      (f.sound.knows r call q o) x a).1

  -- After its version a row keeps its words, where the step writes to no such word of it.
  pub rows-same : (base : ℕ) (kind : Kind) → kind_at shape base ≡ Some kind
      → ((word value : ℕ) (asks : AsksFor Coupled shape s p (Store word value)) (x : HeldRow)
      → IsAmong x (held_by Coupled shape asks.call asks.process)
      → IsAfterVersion x.base x.kind word → x.base ≡ base → ⊥)
      → ((word value : ℕ) (asks : AsksFor Coupled shape s p (Store word value)) (b : ℕ) (k : Kind)
      → filled_by Coupled shape asks.call asks.process ≡ (b, k) ∷ [] → b ≡ base → ⊥)
      → SameRow s.words t.words base kind
  rows-same base kind row written filled j low high = go f.goes.rows
    where
      behind : IsAfterVersion base kind (base + j)
      behind = row-word base j kind low high

      go : RowChange Coupled shape s p t → slice_index t.words (base + j) ≡ slice_index s.words (base + j)
      go (RowsStay same) = same (base + j) (omega (arith, row_begins shape base kind row))
      go (RowWritten word value asks x among kept its is others) = elim (cases_eq (base + j) word) [
        | inl e ↦ absurd (written word value asks x among its (rows_apart shape x.base base x.kind kind word
            (settled-row Coupled shape s x.base x.kind kept.1) row (omega (arith, its.0)) its.1 (omega (arith, e))
            (omega (arith, e, high))).0)
        | inr d ↦ others (base + j) d
      ]
      go (RowFilled word value asks b k fills its behind is others) = elim (cases_eq (base + j) word) [
        | inl e ↦ absurd (filled word value asks b k fills (rows_apart shape b base k kind word its row
            (omega (arith, behind.0)) behind.1 (omega (arith, e)) (omega (arith, e, high))).0)
        | inr d ↦ others (base + j) d
      ]
      go (RowTaken x asks rows with then kept was is others) = others (base + j)
          (λ e. not-behind shape x.base base (base + j) x.kind kind (settled-row Coupled shape s x.base x.kind kept.1) row behind (sym e))
      go (RowReleased x value asks rest with then kept written is others) = others (base + j)
          (λ e. not-behind shape x.base base (base + j) x.kind kind (settled-row Coupled shape s x.base x.kind kept.1) row behind (sym e))

  -- ---- a step of another process leaves the rows of this one

  pub others-same : (r : ℕ) (call : Call) (q : Process) → r ≢ p → IsOpen s r call q → (x : HeldRow) → IsAmong x (held_by Coupled shape call q)
      → SameRow s.words t.words x.base x.kind
  others-same r call q apart o x a = rows-same x.base x.kind (settled-row Coupled shape s x.base x.kind (kept-row r call q o x a))
      (λ word value asks y among behind same.
      apart (sym (f.sound.apart p r asks.call call asks.process q asks.is_open o y x among a same)))
      (λ word value asks b k fills same. (kept-row r call q o x a).unfilled p asks.call asks.process asks.is_open b k fills (sym same))

  -- calm has the words of a row that is held after the step as before it
  pub held-calm : (r : ℕ) (call : Call) (q : Process) → IsOpen t r call q → (x : HeldRow) → IsAmong x (held_by Coupled shape call q)
      → SameRow calm after x.base x.kind
  held-calm r call q o x a =
      let settled = (held-is-kept (IsSettled Coupled shape t) (setting shape Coupled call) (stage_of Coupled shape call q)
      (f.behind.knows r call q o) x a).1 in
      steady-row calm after x.base x.kind (f.goes.held x.base x.kind (settled-row Coupled shape t x.base x.kind settled)
      (record { holder = r; call = call; process = q; is_open = o; row = x; among = a; is = refl }))

  -- a row that is held from a version that was not obsolete is not obsolete
  pub held-live : (r : ℕ) (call : Call) (q : Process) → IsOpen t r call q → (x : HeldRow) → IsAmong x (held_by Coupled shape call q)
      → is_obsolete x.kept ≡ false → is_obsolete (slice_index t.words x.base) ≡ false
  held-live r call q o x a live = ap is_obsolete (f.behind.locked r call q o x a) ∙ (locked-same x.kept ∙ live)

  -- ---- a step of a call on its way

  module _ (call : Call) (q : Process) (o : IsOpen s p call q) where
    abbrev turn : Turn
    turn = call_turn (setting shape Coupled call) (stage_of Coupled shape call q)

    its-process : (a : Access) (asks : AsksFor Coupled shape s p a) → asks.process ≡ q
    its-process a asks = same_Some asks.process q (sym asks.is_open.own ∙ o.own)

    its-call : (a : Access) (asks : AsksFor Coupled shape s p a) → asks.call ≡ call
    its-call a asks = same_Some asks.call call (sym asks.is_open.is_open ∙ (ap (λ w. w.call) (its-process a asks) ∙ o.is_open))

    pub its-turn : (a : Access) (asks : AsksFor Coupled shape s p a) → turn ≡ Asks a asks.mark
    its-turn a asks =
        subst (λ x. call_turn (setting shape Coupled x) (stage_of Coupled shape x q) ≡ Asks a asks.mark) (its-call a asks)
        (subst (λ w. call_turn (setting shape Coupled asks.call) (stage_of Coupled shape asks.call w) ≡ Asks a asks.mark)
        (its-process a asks) asks.turn)

    its-filling : (a : Access) (asks : AsksFor Coupled shape s p a) (base : ℕ) (kind : Kind)
        → filled_by Coupled shape asks.call asks.process ≡ (base, kind) ∷ []
        → filled_by Coupled shape call q ≡ (base, kind) ∷ []
    its-filling a asks base kind e =
        subst (λ x. filled_by Coupled shape x q ≡ (base, kind) ∷ []) (its-call a asks)
        (subst (λ w. filled_by Coupled shape asks.call w ≡ (base, kind) ∷ []) (its-process a asks) e)

    its-held : (a : Access) (asks : AsksFor Coupled shape s p a) (x : HeldRow) → IsAmong x (held_by Coupled shape asks.call asks.process)
        → IsAmong x (held_by Coupled shape call q)
    its-held a asks x e =
        subst (λ c. IsAmong x (held_by Coupled shape c q)) (its-call a asks)
        (subst (λ w. IsAmong x (held_by Coupled shape asks.call w)) (its-process a asks) e)

    -- where it stores at most the version of a row that it holds, and fills none
    pub own-same : ((b : ℕ) (k : Kind) → filled_by Coupled shape call q ≡ (b, k) ∷ [] → ⊥)
        → ((word value : ℕ) (mark : Option Point) → turn ≡ Asks (Store word value) mark
        → (y : HeldRow) × IsAmong y (held_by Coupled shape call q) × (word ≡ y.base))
        → (base : ℕ) (kind : Kind) → kind_at shape base ≡ Some kind → SameRow s.words t.words base kind
    own-same none stores base kind row = rows-same base kind row
        (λ word value asks x among behind same.
        let y = stores word value asks.mark (its-turn (Store word value) asks) in
        let a = its-held (Store word value) asks x among in
        not-behind shape y.0.base x.base word y.0.kind x.kind (settled-row Coupled shape s y.0.base y.0.kind (kept-row p call q o y.0 y.1))
        (settled-row Coupled shape s x.base x.kind (kept-row p call q o x a)) behind (sym y.2))
        (λ word value asks b k fills same. none b k (its-filling (Store word value) asks b k fills))

    -- calm's tree stays, where it stores nothing
    claims-rise : (kind : Kind) → slice_index calm (claims_of kind) ≤ slice_index after (claims_of kind)
    claims-rise kind =
        let rise = f.steady.claims kind in
        omega (arith, rise, f.before.low (claims_of kind) (claims-few kind), f.then.low (claims_of kind) (claims-few kind))

    pub keeps-without : (n : ℕ) → IsAtRest shape n calm → All (λ w. w < 2 ^ 64) after
        → ((word value : ℕ) (mark : Option Point) → turn ≡ Asks (Store word value) mark → ⊥) → KeepsTree shape calm after
    keeps-without n rest small none = low-words-keep shape n calm after rest (f.then.long ∙ sym f.before.long) small claims-rise
        (without-store Coupled shape f.count s f.sound p t calm after f.goes call q o none)

    -- calm's tree stays if the call releases a row that it holds and has not written to
    pub keeps-released : (n : ℕ) → IsAtRest shape n calm → All (λ w. w < 2 ^ 64) after → (x : HeldRow)
        → IsAmong x (held_by Coupled shape call q)
        → IsHeldLive calm s.words x → SameRow s.words t.words x.base x.kind → slice_index t.words x.base ≡ released_word x.kept
        → (mark : Option Point)
        → turn ≡ Asks (Store x.base (released_word x.kept)) mark → KeepsTree shape calm after
    keeps-released n rest small x a own same is mark e = record {
      long = f.then.long ∙ sym f.before.long;
      small = small;
      claims = claims-rise;
      same = λ base kind r. rows base kind (reached-row base kind r);
      unlocked = f.then.unlocked;
      live = λ base kind r. lives base kind r (cases_eq base x.base);
      fresh = f.then.fresh;
    }
      where
        row : kind_at shape x.base ≡ Some x.kind
        row = settled-row Coupled shape s x.base x.kind (kept-row p call q o x a)

        reached-row : (base : ℕ) (kind : Kind) → Reached shape calm base kind → kind_at shape base ≡ Some kind
        reached-row base kind r = sits-kind_at shape base kind (sits shape n calm rest r)

        free-kept : (x.kept / 2) % 2 ≡ 0
        free-kept = version-free true x.kept (held-is-kept (IsSettled Coupled shape s) (setting shape Coupled call)
            (stage_of Coupled shape call q)
            (f.sound.knows p call q o) x a).0

        free : is_busy (slice_index t.words x.base) ≡ false
        free = ap is_busy is ∙ free-busy (released_word x.kept) (released-free x.kept free-kept) (obsolete_released x.kept ∙ own.live)

        -- calm has the row's words, which it had before
        here : SameRow calm after x.base x.kind
        here j low high =
            steady-row t.words after x.base x.kind (f.then.free x.base x.kind row free) j low high ∙ (same j low high ∙ own.same j low high)

        apart-from : (base : ℕ) (kind : Kind) → kind_at shape base ≡ Some kind → base ≢ x.base → (j : ℕ) → j < row_words kind
            → IsOutside x.base x.kind (base + j)
        apart-from base kind its d j high = elim (cases_lt (base + j) x.base) [
          | inl l ↦ inl l
          | inr g ↦ elim (cases_lt (base + j) (x.base + row_words x.kind)) [
            | inl l ↦ absurd (d (rows_apart shape base x.base kind x.kind (base + j) its row (omega arith) (omega (arith, high)) g l).0)
            | inr g ↦ inr g
          ]
        ]

        outside : (base : ℕ) (kind : Kind) → kind_at shape base ≡ Some kind → base ≢ x.base → (j : ℕ) → j < row_words kind
            → slice_index after (base + j) ≡ slice_index calm (base + j)
        outside base kind its d j high =
            with-released Coupled shape f.count s f.sound p t calm after f.goes call q o x.base (released_word x.kept) mark e
            x a refl (base + j)
            (omega (arith, row_begins shape base kind its)) (apart-from base kind its d j high)

        rows : (base : ℕ) (kind : Kind) → kind_at shape base ≡ Some kind → SameRow calm after base kind
        rows base kind its = elim (cases_eq base x.base) [
          | inl e ↦
              let kinds : x.kind ≡ kind = same_Some x.kind kind (sym row ∙ (ap (kind_at shape) (sym e) ∙ its)) in
              subst (λ b. SameRow calm after b kind) (sym e) (subst (λ k. SameRow calm after x.base k) kinds here)
          | inr d ↦ λ j low high. outside base kind its d j high
        ]

        lives : (base : ℕ) (kind : Kind) → Reached shape calm base kind → (base ≡ x.base) ⊎ (base ≢ x.base)
            → is_obsolete (slice_index after base) ≡ false
        lives base kind r (inl e) =
            ap (λ b. is_obsolete (slice_index after b)) e
            ∙ (ap is_obsolete (f.then.free x.base x.kind row free x.base (omega arith) (omega (arith, some-words x.kind)) ∙ is)
            ∙ (obsolete_released x.kept ∙
            own.live))
        lives base kind r (inr d) =
            let its = reached-row base kind r in
            let none : base + 0 ≡ base = omega arith in
            ap (λ b. is_obsolete (slice_index after b)) (sym none)
            ∙ (ap is_obsolete (outside base kind its d 0 (some-words kind))
            ∙ (ap (λ b. is_obsolete (slice_index calm b)) none ∙ rest.live base kind r))
