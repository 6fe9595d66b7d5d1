-- What has to be shown of a step, so that rows and versions stay sound.
use Rattle.art_schedules.proofs.Common.{row_words, MayWrite, WritesOwn, ◌≡◌, ◌≢◌, ℕ, zero, suc, ◌+◌, ◌*◌, ◌<◌, ◌≤◌, true, List, [], ◌∷◌, length}
use Rattle.art_schedules.proofs.serial.OrderlyLemmas.{set-here}
use Rattle.art_schedules.proofs.writes.StoreLemmas.{stored-at}
use Rattle.art_schedules.proofs.Common.{Some, ap, arith, inl, inr, length-set, refl, slice_get, slice_index, slice_set, subst, sym, ◌∙◌}
use Rattle.std.specs.Prelude.{◌⊎◌}
use Rattle.art_schedules.proofs.Common.{cases_eq, same_Some, Call, Shape, Kind, Full, claims_of, root_base, kind_at, is_locked, child_of, HeldRow}
use Rattle.art_schedules.proofs.Common.{setting, Variant, Process, State, changed-at, IsClaimed, OfRows, IsNamed, child_rows}
use Rattle.art_schedules.proofs.Common.{Knows, IsGoodAt, IsAmong, IsOpen, stage_of, held_by, filled_by, IsSettled, IsHeld, AreDistinct, IsSound}
use Rattle.std.proofs.Common.{get_or-set_other}
use Rattle.art_schedules.proofs.versions.KeyLemmas.{each-weaker}
use Rattle.art_schedules.proofs.versions.KnownLemmas.{knows-more}

pub good-more : (P Q : OfRows) (shape : Shape) → ((b : ℕ) (k : Kind) → P b k → Q b k) → (word value : ℕ) → IsGoodAt P shape word value
    → IsGoodAt Q shape word value
good-more P Q shape more word value h base kind e slot =
    each-weaker (IsNamed P) (IsNamed Q) (λ m x. more m.0 m.1 x) (child_rows (child_of shape value)) (h base kind e slot)

pub index-other : (words : List ℕ) (word value x : ℕ) → x ≢ word → slice_index (slice_set words word value) x ≡ slice_index words x
index-other words word value x h = get_or-set_other words word x value 0 h

pub set-other : {A : Type 0} (xs : List A) (i : ℕ) (new : A) (j : ℕ) → j ≢ i → slice_get (slice_set xs i new) j ≡ slice_get xs j
set-other [] i new j h = refl
set-other (x ∷ xs) zero new zero h = absurd (h refl)
set-other (x ∷ xs) zero new (suc j) h = refl
set-other (x ∷ xs) (suc i) new zero h = refl
set-other (x ∷ xs) (suc i) new (suc j) h = set-other xs i new j (λ e. h (ap suc e))

-- one word changes, and this process may write it
pub written : (variant : Variant) (shape : Shape) (s : State) (p word value : ℕ) (processes : List Process)
    → ((base : ℕ) (kind : Kind) → kind_at shape base ≡ Some kind → base ≤ word → word < base + row_words kind
    → MayWrite variant shape s p (record { words = slice_set s.words word value; processes = processes }) base word)
    → WritesOwn variant shape s p (record { words = slice_set s.words word value; processes = processes })
written variant shape s p word value processes may base kind e x low high changed = elim (cases_eq x word) [
  | inl same ↦ subst (MayWrite variant shape s p (record { words = slice_set s.words word value; processes = processes }) base) (sym same)
      (may base kind e (omega (arith, low, same)) (omega (arith, high, same)))
  | inr other ↦ absurd (changed (index-other s.words word value x other))
]

module _ (variant : Variant) (shape : Shape) (n : ℕ) (s : State) (h : IsSound variant shape n s) (p : ℕ) (q : Process)
    (here : slice_get s.processes p ≡ Some q)
    (word value : ℕ) (q' : Process) where
  abbrev pub next : State
  next = record { words = slice_set s.words word value; processes = slice_set s.processes p q' }

  abbrev pub now : ℕ → ℕ
  now x = slice_index (slice_set s.words word value) x

  -- an open call after the step is the process's own, or that of another process
  pub whose : (r : ℕ) (call : Call) (w : Process) → IsOpen next r call w → ((r ≡ p) × (w ≡ q')) ⊎ ((r ≢ p) × IsOpen s r call w)
  whose r call w o = elim (changed-at s.processes p q' r w o.own) [
    | inl t ↦ inl t
    | inr t ↦ inr (t.0, record { own = t.1; is_open = o.is_open })
  ]

  pub own-call : (r : ℕ) (call : Call) (w : Process) → IsOpen next r call w → w ≡ q' → q'.call ≡ Some call
  own-call r call w o e = ap (λ x. x.call) (sym e) ∙ o.is_open

  -- a row that was held is held still, where its process holds it still
  pub held-still : (base : ℕ) → IsHeld variant shape s base
      → ((call : Call) → q.call ≡ Some call → (x : HeldRow) → IsAmong x (held_by variant shape call q) → x.base ≡ base
      → (q'.call ≡ Some call) × IsAmong x (held_by variant shape call q')) → IsHeld variant shape next base
  held-still base x stays = elim (cases_eq x.holder p) [
    | inl same ↦
        let its : x.process ≡ q = same_Some x.process q (sym x.is_open.own ∙ (ap (slice_get s.processes) same ∙ here)) in
        let more = stays x.call (ap (λ w. w.call) (sym its) ∙ x.is_open.is_open) x.row
        (subst (λ w. IsAmong x.row (held_by variant shape x.call w)) its x.among) x.is in
        record {
          holder = p;
          call = x.call;
          process = q';
          is_open = record { own = set-here s.processes p q q' here; is_open = more.0 };
          row = x.row;
          among = more.1;
          is = x.is;
        }
    | inr other ↦ record {
      holder = x.holder;
      call = x.call;
      process = x.process;
      is_open = record { own = set-other s.processes p q' x.holder other ∙ x.is_open.own; is_open = x.is_open.is_open };
      row = x.row;
      among = x.among;
      is = x.is;
    }
  ]

  -- what is known of claims, and of rows that are filled
  pub record Claims : Type 0 where
    pub rise : (kind : Kind) → slice_index s.words (claims_of kind) ≤ now (claims_of kind)
    pub few : (kind : Kind) → now (claims_of kind) ≤ n + 1 + 1
    pub filled : (call : Call) → q'.call ≡ Some call → (b : ℕ) (k : Kind) → filled_by variant shape call q' ≡ (b, k) ∷ []
        → IsClaimed shape (slice_set s.words word value) b k
    pub fresh : (call : Call) → q'.call ≡ Some call → (b : ℕ) (k : Kind) → filled_by variant shape call q' ≡ (b, k) ∷ []
        → (l : Kind) → IsSettled variant shape s b l → ⊥
    pub apart : (call : Call) → q'.call ≡ Some call → (r : ℕ) (other : Call) (w : Process) → r ≢ p → IsOpen s r other w
        → (b d : ℕ) (k l : Kind)
        → filled_by variant shape call q' ≡ (b, k) ∷ [] → filled_by variant shape other w ≡ (d, l) ∷ [] → b ≢ d

  module _ (c : Claims) where
    claimed-more : (b : ℕ) (k : Kind) → IsClaimed shape s.words b k → IsClaimed shape (slice_set s.words word value) b k
    claimed-more b k x = record { number = x.number; claimed = omega (arith, x.claimed, c.rise k); within = x.within; is = x.is }

    pub settled-more : (b : ℕ) (k : Kind) → IsSettled variant shape s b k → IsSettled variant shape next b k
    settled-more b k x = record {
      claimed = claimed-more b k x.claimed;
      unfilled = λ r call w o d l e same. elim (whose r call w o) [
        | inl t ↦ c.fresh call (own-call r call w o t.1) d l (subst (λ v. filled_by variant shape call v ≡ (d, l) ∷ []) t.1 e) k
            (subst (λ v. IsSettled variant shape s v k) same x)
        | inr t ↦ x.unfilled r call w t.1 d l e same
      ];
    }

    -- what is known of versions, of what is stored, and of the rows that are held
    pub record Rows : Type 0 where
      pub within : word < length s.words
      pub versions : (base : ℕ) (kind : Kind) → kind_at shape base ≡ Some kind → now base ≤ 3 * (n + 1)
      pub good : IsGoodAt (IsSettled variant shape next) shape word value
      pub others : (r : ℕ) (call : Call) (w : Process) → r ≢ p → IsOpen s r call w → (x : HeldRow) → IsAmong x (held_by variant shape call w)
          → now x.base ≡ slice_index s.words x.base
      pub knows : (call : Call) → q'.call ≡ Some call
          → Knows (IsSettled variant shape next) (setting shape variant call) (stage_of variant shape call q')
      pub locked : (call : Call) → q'.call ≡ Some call → (x : HeldRow) → IsAmong x (held_by variant shape call q') → now x.base ≡ x.kept + 2
      pub held : (base : ℕ) (kind : Kind) → kind_at shape base ≡ Some kind → is_locked (now base) ≡ true → IsHeld variant shape next base
      pub distinct : (call : Call) → q'.call ≡ Some call → AreDistinct (held_by variant shape call q')
      pub apart : (call : Call) → q'.call ≡ Some call → (r : ℕ) (other : Call) (w : Process) → r ≢ p → IsOpen s r other w → (x y : HeldRow)
          → IsAmong x (held_by variant shape call q') → IsAmong y (held_by variant shape other w) → x.base ≢ y.base

    module _ (k : Rows) where
      good-now : (x : ℕ) → IsGoodAt (IsSettled variant shape next) shape x (now x)
      good-now x = elim (cases_eq x word) [
        | inl same ↦ subst (λ y. IsGoodAt (IsSettled variant shape next) shape y (now y)) (sym same)
            (subst (IsGoodAt (IsSettled variant shape next) shape word) (sym (stored-at s.words word value k.within)) k.good)
        | inr other ↦ subst (IsGoodAt (IsSettled variant shape next) shape x) (sym (index-other s.words word value x other))
            (good-more (IsSettled variant shape s) (IsSettled variant shape next) shape settled-more x
            (slice_index s.words x) (h.children x))
      ]

      knows-now : (r : ℕ) (call : Call) (w : Process) → IsOpen next r call w
          → Knows (IsSettled variant shape next) (setting shape variant call) (stage_of variant shape call w)
      knows-now r call w o = elim (whose r call w o) [
        | inl t ↦ subst (λ v. Knows (IsSettled variant shape next) (setting shape variant call) (stage_of variant shape call v)) (sym t.1)
            (k.knows call (own-call r call w o t.1))
        | inr t ↦ knows-more (IsSettled variant shape s) (IsSettled variant shape next) (setting shape variant call) settled-more
            (stage_of variant shape call w) (h.knows r call w t.1)
      ]

      locked-now : (r : ℕ) (call : Call) (w : Process) → IsOpen next r call w → (x : HeldRow) → IsAmong x (held_by variant shape call w)
          → now x.base ≡ x.kept + 2
      locked-now r call w o x a = elim (whose r call w o) [
        | inl t ↦ k.locked call (own-call r call w o t.1) x (subst (λ v. IsAmong x (held_by variant shape call v)) t.1 a)
        | inr t ↦ k.others r call w t.0 t.1 x a ∙ h.locked r call w t.1 x a
      ]

      distinct-now : (r : ℕ) (call : Call) (w : Process) → IsOpen next r call w → AreDistinct (held_by variant shape call w)
      distinct-now r call w o = elim (whose r call w o) [
        | inl t ↦ subst (λ v. AreDistinct (held_by variant shape call v)) (sym t.1) (k.distinct call (own-call r call w o t.1))
        | inr t ↦ h.distinct r call w t.1
      ]

      apart-now : (r t : ℕ) (call other : Call) (w v : Process) → IsOpen next r call w → IsOpen next t other v → (x y : HeldRow)
          → IsAmong x (held_by variant shape call w) → IsAmong y (held_by variant shape other v) → x.base ≡ y.base → r ≡ t
      apart-now r t call other w v o l x y a b e = elim (whose r call w o) [
        | inl m ↦ elim (whose t other v l) [
          | inl z ↦ m.0 ∙ sym z.0
          | inr z ↦ absurd (k.apart call (own-call r call w o m.1) t other v z.0 z.1 x y
              (subst (λ u. IsAmong x (held_by variant shape call u)) m.1 a) b e)
        ]
        | inr m ↦ elim (whose t other v l) [
          | inl z ↦ absurd (k.apart other (own-call t other v l z.1) r call w m.0 m.1 y x
              (subst (λ u. IsAmong y (held_by variant shape other u)) z.1 b) a
              (sym e))
          | inr z ↦ h.apart r t call other w v m.1 z.1 x y a b e
        ]
      ]

      filled-now : (r : ℕ) (call : Call) (w : Process) → IsOpen next r call w → (b : ℕ) (l : Kind)
          → filled_by variant shape call w ≡ (b, l) ∷ []
          → IsClaimed shape (slice_set s.words word value) b l
      filled-now r call w o b l e = elim (whose r call w o) [
        | inl t ↦ c.filled call (own-call r call w o t.1) b l (subst (λ v. filled_by variant shape call v ≡ (b, l) ∷ []) t.1 e)
        | inr t ↦ claimed-more b l (h.filled r call w t.1 b l e)
      ]

      fills-apart-now : (r t : ℕ) (call other : Call) (w v : Process) → IsOpen next r call w → IsOpen next t other v
          → (b d : ℕ) (k l : Kind)
          → filled_by variant shape call w ≡ (b, k) ∷ [] → filled_by variant shape other v ≡ (d, l) ∷ [] → b ≡ d → r ≡ t
      fills-apart-now r t call other w v o l b d kb kd x y e = elim (whose r call w o) [
        | inl m ↦ elim (whose t other v l) [
          | inl z ↦ m.0 ∙ sym z.0
          | inr z ↦ absurd (c.apart call (own-call r call w o m.1) t other v z.0 z.1 b d kb kd
              (subst (λ u. filled_by variant shape call u ≡ (b, kb) ∷ []) m.1 x) y e)
        ]
        | inr m ↦ elim (whose t other v l) [
          | inl z ↦ absurd (c.apart other (own-call t other v l z.1) r call w m.0 m.1 d b kd kb
              (subst (λ u. filled_by variant shape other u ≡ (d, kd) ∷ []) z.1 y) x (sym e))
          | inr z ↦ h.fills_apart r t call other w v m.1 z.1 b d kb kd x y e
        ]
      ]

      pub sound-now : IsSound variant shape (n + 1) next
      sound-now = record {
        long = length-set s.words word value ∙ h.long;
        versions = k.versions;
        claims = c.few;
        root = settled-more (root_base shape) Full h.root;
        children = good-now;
        knows = knows-now;
        locked = locked-now;
        held = k.held;
        distinct = distinct-now;
        apart = apart-now;
        filled = filled-now;
        fills_apart = fills-apart-now;
      }
