-- What becomes of calm in a step, by what the open call does in it.
use Rattle.art_schedules.proofs.Common.{◌≡◌, ◌≢◌, ℕ, ◌≤◌, List, [], ◌∷◌, ap, sym, subst, ◌∙◌, arith, slice_index, Option, Some, same_Some, Call}
use Rattle.art_schedules.proofs.words.TableLemmas.{rows_apart}
use Rattle.art_schedules.proofs.Common.{Shape, Kind, kind_at, released_word, IsOutside, Variant, Access, Store, Point, Turn, Asks}
use Rattle.art_schedules.proofs.Common.{locks, asks-same, HeldRow, call_turn, setting, Process, State, IsKept, IsAmong, IsAfterVersion, IsOpen}
use Rattle.art_schedules.proofs.Common.{AsksFor, CalmChange, IsSettled, IsSound, filled_by, held_by, stage_of}
use Rattle.art_schedules.proofs.versions.KnownLemmas.{held-is-kept}
use Rattle.art_schedules.proofs.versions.MoveLemmas.{settled-row}
use Rattle.art_schedules.proofs.Common.{CalmStays, CalmFilled, CalmReleased, CalmStep}
use Rattle.art_schedules.proofs.calm.VersionLemmas.{not-behind}
use Rattle.art_schedules.proofs.calm.CalmLemmas.{claimed-row}

same-word : {word other value v : ℕ} → Store word value ≡ Store other v → word ≡ other
same-word e = cc

module _ (variant : Variant) (shape : Shape) (n : ℕ) (s : State) (h : IsSound variant shape n s) (p : ℕ) (later : State)
    (calm after : List ℕ)
    (step : CalmStep variant shape s p later calm after) (call : Call) (q : Process) (o : IsOpen s p call q) where
  abbrev turn : Turn
  turn = call_turn (setting shape variant call) (stage_of variant shape call q)

  its-process : (a : Access) (asks : AsksFor variant shape s p a) → asks.process ≡ q
  its-process a asks = same_Some asks.process q (sym asks.is_open.own ∙ o.own)

  its-call : (a : Access) (asks : AsksFor variant shape s p a) → asks.call ≡ call
  its-call a asks = same_Some asks.call call (sym asks.is_open.is_open ∙ (ap (λ w. w.call) (its-process a asks) ∙ o.is_open))

  its-turn : (a : Access) (asks : AsksFor variant shape s p a) → turn ≡ Asks a asks.mark
  its-turn a asks =
      subst (λ x. call_turn (setting shape variant x) (stage_of variant shape x q) ≡ Asks a asks.mark) (its-call a asks)
      (subst (λ w. call_turn (setting shape variant asks.call) (stage_of variant shape asks.call w) ≡ Asks a asks.mark)
      (its-process a asks) asks.turn)

  its-filling : (a : Access) (asks : AsksFor variant shape s p a) (base : ℕ) (kind : Kind)
      → filled_by variant shape asks.call asks.process ≡ (base, kind) ∷ []
      → filled_by variant shape call q ≡ (base, kind) ∷ []
  its-filling a asks base kind e =
      subst (λ x. filled_by variant shape x q ≡ (base, kind) ∷ []) (its-call a asks)
      (subst (λ w. filled_by variant shape asks.call w ≡ (base, kind) ∷ []) (its-process a asks) e)

  abbrev pub Stays : Type 0
  Stays = (word : ℕ) → 5 ≤ word → slice_index after word ≡ slice_index calm word

  -- the call stores nothing
  pub without-store : ((word value : ℕ) (mark : Option Point) → turn ≡ Asks (Store word value) mark → ⊥) → Stays
  without-store none = go step.change
    where
      go : CalmChange variant shape s p later calm after → Stays
      go (CalmStays same) = same
      go (CalmFilled word value asks base kind filled behind is others) =
          absurd (none word value asks.mark (its-turn (Store word value) asks))
      go (CalmReleased x asks rest with then kept alive row others) =
          absurd (none x.base (released_word x.kept) asks.mark (its-turn (Store x.base (released_word x.kept)) asks))

  module _ (word value : ℕ) (mark : Option Point) (stores : turn ≡ Asks (Store word value) mark) where
    its-word : (other v : ℕ) (asks : AsksFor variant shape s p (Store other v)) → word ≡ other
    its-word other v asks = same-word (asks-same (sym stores ∙ its-turn (Store other v) asks))

    -- the call stores after the version of a row that it holds
    pub with-written : (x : HeldRow) → IsAmong x (held_by variant shape call q) → IsAfterVersion x.base x.kind word → Stays
    with-written x among behind = go step.change
      where
        kept : IsKept (locks variant) (IsSettled variant shape s) x
        kept = held-is-kept (IsSettled variant shape s) (setting shape variant call) (stage_of variant shape call q)
            (h.knows p call q o) x among

        row : kind_at shape x.base ≡ Some x.kind
        row = settled-row variant shape s x.base x.kind kept.1

        go : CalmChange variant shape s p later calm after → Stays
        go (CalmStays same) = same
        go (CalmFilled other v asks base kind filled within is others) =
            let its = its-filling (Store other v) asks base kind filled in
            let same = its-word other v asks in
            let one = rows_apart shape x.base base x.kind kind word row
            (claimed-row shape s.words base kind (h.filled p call q o base kind its))
            (omega (arith, behind.0)) behind.1 (omega (arith, same, within.0)) (omega (arith, same, within.1)) in
            absurd (kept.1.unfilled p call q o base kind its one.0)
        go (CalmReleased y asks rest with then held alive its others) =
            absurd (not-behind shape y.base x.base word y.kind x.kind (settled-row variant shape s y.base y.kind held.1) row behind
            (sym (its-word y.base (released_word y.kept) asks)))

    -- the call stores after the version of the row that it fills
    pub with-filled : (base : ℕ) (kind : Kind) → filled_by variant shape call q ≡ (base, kind) ∷ [] → IsAfterVersion base kind word
        → (other : ℕ) → 5 ≤ other → other ≢ word → slice_index after other ≡ slice_index calm other
    with-filled base kind filled behind other high differs = go step.change
      where
        row : kind_at shape base ≡ Some kind
        row = claimed-row shape s.words base kind (h.filled p call q o base kind filled)

        go : CalmChange variant shape s p later calm after → slice_index after other ≡ slice_index calm other
        go (CalmStays same) = same other high
        go (CalmFilled w v asks b k its within is others) = others other high (λ e. differs (e ∙ sym (its-word w v asks)))
        go (CalmReleased y asks rest with then held alive its others) =
            absurd (not-behind shape y.base base word y.kind kind (settled-row variant shape s y.base y.kind held.1) row behind
            (sym (its-word y.base (released_word y.kept) asks)))

    -- the call stores the version of a row that it holds
    pub with-released : (x : HeldRow) → IsAmong x (held_by variant shape call q) → word ≡ x.base
        → (other : ℕ) → 5 ≤ other → IsOutside x.base x.kind other → slice_index after other ≡ slice_index calm other
    with-released x among version other high outside = go step.change
      where
        kept : IsKept (locks variant) (IsSettled variant shape s) x
        kept = held-is-kept (IsSettled variant shape s) (setting shape variant call) (stage_of variant shape call q)
            (h.knows p call q o) x among

        row : kind_at shape x.base ≡ Some x.kind
        row = settled-row variant shape s x.base x.kind kept.1

        go : CalmChange variant shape s p later calm after → slice_index after other ≡ slice_index calm other
        go (CalmStays same) = same other high
        go (CalmFilled w v asks b k its within is others) =
            absurd (not-behind shape x.base b w x.kind k row (claimed-row shape s.words b k
            (h.filled p call q o b k (its-filling (Store w v) asks b k its))) within (sym version ∙ its-word w v asks))
        go (CalmReleased y asks rest with then held alive its others) =
            let same : x.base ≡ y.base = sym version ∙ its-word y.base (released_word y.kept) asks in
            let kinds = same_Some x.kind y.kind (sym row ∙ (ap (kind_at shape) same ∙ settled-row variant shape s y.base y.kind held.1)) in
            others other high (subst (λ b. IsOutside b y.kind other) same (subst (λ k. IsOutside x.base k other) kinds outside))
