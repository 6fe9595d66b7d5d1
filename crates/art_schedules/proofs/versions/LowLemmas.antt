-- Claims and stamps keep rows and versions sound: they change no word of a row.
use Rattle.art_schedules.proofs.Common.{MayWrite, WritesOwn, row_words, ◌≡◌, ◌≢◌, ℕ, ◌+◌, ◌*◌, ◌^◌, ◌<◌, ◌≤◌, List, [], ◌∷◌, length, ap, sym}
use Rattle.art_schedules.proofs.words.TableLemmas.{row_begins, base_of-once}
use Rattle.art_schedules.proofs.writes.StoreLemmas.{stored-at}
use Rattle.art_schedules.proofs.Common.{Call, Some, arith, cases_eq, inl, inr, same_Some, slice_get, slice_index, slice_set, subst, ◌∙◌}
use Rattle.std.specs.Prelude.{◌⊎◌}
use Rattle.art_schedules.proofs.Common.{Shape, Kind, Full, rows_of, claims_of, base_of, root_base, kind_at, is_locked, claims-few}
use Rattle.art_schedules.proofs.Common.{HeldRow, setting, Variant, locks, Process, State, OfRows, Named, IsKept, Knows, IsGoodAt}
use Rattle.art_schedules.proofs.Common.{AreDistinct, IsAmong, IsOpen, IsSettled, IsSound, IsSteady, filled_by, held_by, stage_of}
use Rattle.art_schedules.specs.versions.Effects.{Has}
use Rattle.art_schedules.proofs.Common.{IsClaimed}
use Rattle.art_schedules.proofs.versions.ChangeLemmas.{written, index-other, held-still, Claims, settled-more, sound-now}
use Rattle.art_schedules.proofs.versions.KeyLemmas.{slot-behind}
use Rattle.art_schedules.proofs.versions.KnownLemmas.{knows-more, held-is-kept}
use Rattle.art_schedules.proofs.versions.MoveLemmas.{settled-row, no-items, differ-from}
use Rattle.art_schedules.proofs.versions.MoveLemmas as m

pub first-item : {x y : Named} → ◌≡◌ {A = List Named} (x ∷ []) (y ∷ []) → x ≡ y
first-item e = cc

same-item : {b d : ℕ} {k l : Kind} → ◌≡◌ {A = List Named} ((b, k) ∷ []) ((d, l) ∷ []) → (b ≡ d) × (k ≡ l)
same-item e = let same = first-item e in (ap (λ x. x.0) same, ap (λ x. x.1) same)

module _ (variant : Variant) (shape : Shape) (n : ℕ) (s : State) (h : IsSound variant shape n s) (few : n < 2 ^ 62) (p : ℕ) (q : Process)
    (here : slice_get s.processes p ≡ Some q) where
  held-row : (r : ℕ) (other : Call) (w : Process) → IsOpen s r other w → (x : HeldRow) → IsAmong x (held_by variant shape other w)
      → IsKept (locks variant) (IsSettled variant shape s) x
  held-row r other w o x a = held-is-kept (IsSettled variant shape s) (setting shape variant other) (stage_of variant shape other w)
      (h.knows r other w o) x a

  module _ (word value : ℕ) (low : word < 5) (q' : Process) where
    abbrev later : State
    later = record { words = slice_set s.words word value; processes = slice_set s.processes p q' }

    abbrev now : ℕ → ℕ
    now x = slice_index (slice_set s.words word value) x

    within : word < length s.words
    within = omega (arith, low, h.long)

    above : (x : ℕ) → 5 ≤ x → now x ≡ slice_index s.words x
    above x l = index-other s.words word value x (differ-from x word (omega (arith, low, l)))

    row-above : (base : ℕ) (kind : Kind) → kind_at shape base ≡ Some kind → now base ≡ slice_index s.words base
    row-above base kind e = above base (row_begins shape base kind e)

    versions : (base : ℕ) (kind : Kind) → kind_at shape base ≡ Some kind → now base ≤ 3 * (n + 1)
    versions base kind e = omega (arith, row-above base kind e, h.versions base kind e)

    no-slot : (Q : OfRows) → IsGoodAt Q shape word value
    no-slot Q base kind e slot = absurd (omega (arith, low, (slot-behind base kind word slot).0, row_begins shape base kind e))

    steady : ((kind : Kind) → slice_index s.words (claims_of kind) ≤ now (claims_of kind))
        → ((base : ℕ) (kind : Kind) → IsSettled variant shape s base kind → IsSettled variant shape later base kind)
        → IsSteady variant shape s later
    steady rise more = record {
      claims = rise;
      settled = more;
      rises = λ base kind x. omega (arith, row-above base kind (settled-row variant shape s base kind x));
      stands = λ base kind x e free w l less. above w
          (omega (arith, l, row_begins shape base kind (settled-row variant shape s base kind x)));
    }

    no-row : (base : ℕ) (kind : Kind) → kind_at shape base ≡ Some kind → base ≤ word → word < base + row_words kind
        → MayWrite variant shape s p later base word
    no-row base kind e from below = absurd (omega (arith, low, from, row_begins shape base kind e))

    abbrev ClaimsNow : Type 0
    ClaimsNow = Claims variant shape n s h p q here word value q'

    -- the process holds nothing then, and fills nothing
    pub keeps-idle : ((kind : Kind) → now (claims_of kind) ≡ slice_index s.words (claims_of kind))
        → ((call : Call) → q'.call ≡ Some call → (held_by variant shape call q' ≡ []) × (filled_by variant shape call q' ≡ []))
        → ((call : Call) → q.call ≡ Some call → held_by variant shape call q ≡ [])
        → ((Q : OfRows) → Q (root_base shape) Full → (call : Call) → q'.call ≡ Some call
        → Knows Q (setting shape variant call) (stage_of variant shape call q'))
        → IsSound variant shape (n + 1) later × IsSteady variant shape s later × WritesOwn variant shape s p later
    keeps-idle claims none before knows = (
      sound-now variant shape n s h p q here word value q' cl (record {
        within = within;
        versions = versions;
        good = no-slot (IsSettled variant shape later);
        others = λ r other w away o x a. row-above x.base x.kind
            (settled-row variant shape s x.base x.kind (held-row r other w o x a).1);
        knows = λ call e. knows (IsSettled variant shape later) (more (root_base shape) Full h.root) call e;
        locked = λ call e x a. absurd (subst (IsAmong x) (none call e).0 a);
        held = λ base kind e locked. held-still variant shape n s h p q here word value q' base
            (h.held base kind e (ap is_locked (sym (row-above base kind e)) ∙ locked))
            (λ call f x a is. absurd (subst (IsAmong x) (before call f) a));
        distinct = λ call e. subst AreDistinct (sym (none call e).0) tt;
        apart = λ call e r other w away o x y a b. absurd (subst (IsAmong x) (none call e).0 a);
      }),
      steady (λ kind. omega (arith, claims kind)) more,
      written variant shape s p word value (slice_set s.processes p q') no-row,
    )
      where
        cl : ClaimsNow
        cl = record {
          rise = λ kind. omega (arith, claims kind);
          few = λ kind. omega (arith, claims kind, h.claims kind);
          filled = λ call e b k f. absurd (no-items (sym (none call e).1 ∙ f));
          fresh = λ call e b k f. absurd (no-items (sym (none call e).1 ∙ f));
          apart = λ call e r other w away o b d k l f g. absurd (no-items (sym (none call e).1 ∙ f));
        }

        more : (b : ℕ) (k : Kind) → IsSettled variant shape s b k → IsSettled variant shape later b k
        more b k x = settled-more variant shape n s h p q here word value q' cl b k x

  -- a claim by an open call
  module _ (call : Call) (is-open : q.call ≡ Some call) (kind : Kind) (value : ℕ)
      (one : value ≡ slice_index s.words (claims_of kind) + 1) (q' : Process)
      (its : q'.call ≡ Some call) where
    abbrev claimed : ℕ
    claimed = slice_index s.words (claims_of kind)

    abbrev after : State
    after = record { words = slice_set s.words (claims_of kind) value; processes = slice_set s.processes p q' }

    abbrev then-at : ℕ → ℕ
    then-at x = slice_index (slice_set s.words (claims_of kind) value) x

    claim-rises : (other : Kind) → ((claims_of other ≡ claims_of kind) × (then-at (claims_of other) ≡ claimed + 1)) ⊎
        (then-at (claims_of other) ≡ slice_index s.words (claims_of other))
    claim-rises other = elim (cases_eq (claims_of other) (claims_of kind)) [
      | inl e ↦ inl (e, ap then-at e ∙ (stored-at s.words (claims_of kind) value (omega (arith, claims-few kind, h.long)) ∙ one))
      | inr e ↦ inr (index-other s.words (claims_of kind) value (claims_of other) e)
    ]

    own : (Q : Call → Type 0) → Q call → (other : Call) → q'.call ≡ Some other → Q other
    own Q x other e = subst Q (same_Some call other (sym its ∙ e)) x

    -- the number was not claimed before
    unclaimed : claimed < rows_of shape kind → (b : ℕ) (l : Kind) → b ≡ base_of shape kind claimed → IsClaimed shape s.words b l → ⊥
    unclaimed less b l e x =
        let same = base_of-once shape l kind x.number claimed x.within less (sym x.is ∙ e) in
        omega (arith, x.claimed, same.1, ap (λ k. slice_index s.words (claims_of k)) same.0)

    pub keeps-claim : (filled : List Named) → (filled ≡ [])
        ⊎ ((claimed < rows_of shape kind) × (filled ≡ (base_of shape kind claimed, kind) ∷ []))
        → Has (IsSettled variant shape s) (setting shape variant call) (stage_of variant shape call q')
        (held_by variant shape call q) filled
        → IsSound variant shape (n + 1) after × IsSteady variant shape s after × WritesOwn variant shape s p after
    keeps-claim filled as-said has = (
      m.rows-stay variant shape n s h few p q here call is-open (claims_of kind) value q' its cl filled (
        knows-more (IsSettled variant shape s) (IsSettled variant shape after) (setting shape variant call) more
            (stage_of variant shape call q') has.0,
        has.1,
        has.2,
      )
          (within (claims_of kind) value (claims-few kind) q') (versions (claims_of kind) value (claims-few kind) q')
          (no-slot (claims_of kind) value (claims-few kind) q' (IsSettled variant shape after))
          (row-above (claims_of kind) value (claims-few kind) q'),
      steady (claims_of kind) value (claims-few kind) q' cl.rise more,
      written variant shape s p (claims_of kind) value (slice_set s.processes p q') (no-row (claims_of kind) value (claims-few kind) q'),
    )
      where
        its-row : (b : ℕ) (k : Kind) → filled_by variant shape call q' ≡ (b, k) ∷ []
            → (claimed < rows_of shape kind) × (b ≡ base_of shape kind claimed) × (k ≡ kind)
        its-row b k f = elim as-said [
          | inl e ↦ absurd (no-items (sym e ∙ (sym has.2 ∙ f)))
          | inr e ↦ let same = same-item (sym f ∙ (has.2 ∙ e.1)) in (e.0, same.0, same.1)
        ]

        is-claimed : (b : ℕ) (k : Kind) → (claimed < rows_of shape kind) × (b ≡ base_of shape kind claimed) × (k ≡ kind)
            → IsClaimed shape (slice_set s.words (claims_of kind) value) b k
        is-claimed b k x = subst (λ l. IsClaimed shape (slice_set s.words (claims_of kind) value) b l) (sym x.2) (record {
          number = claimed;
          claimed = omega (arith, stored-at s.words (claims_of kind) value (within (claims_of kind) value (claims-few kind) q'), one);
          within = x.0;
          is = x.1;
        })

        cl : Claims variant shape n s h p q here (claims_of kind) value q'
        cl = record {
          rise = λ other. elim (claim-rises other) [
            | inl e ↦ omega (arith, e.1, ap (slice_index s.words) e.0)
            | inr e ↦ omega (arith, e)
          ];
          few = λ other. elim (claim-rises other) [
            | inl e ↦ omega (arith, e.1, h.claims kind)
            | inr e ↦ omega (arith, e, h.claims other)
          ];
          filled = λ other e. own (λ x. (b : ℕ) (k : Kind) → filled_by variant shape x q' ≡ (b, k) ∷ []
              → IsClaimed shape (slice_set s.words (claims_of kind) value) b k) (λ b k f. is-claimed b k (its-row b k f)) other e;
          fresh = λ other e. own (λ x. (b : ℕ) (k : Kind) → filled_by variant shape x q' ≡ (b, k) ∷ [] → (l : Kind) → IsSettled
              variant shape s b l → ⊥)
              (λ b k f l y. let r = its-row b k f in unclaimed r.0 b l r.1 y.claimed) other e;
          apart = λ other e. own (λ x. (r : ℕ) (o : Call) (w : Process) → r ≢ p → IsOpen s r o w → (b d : ℕ) (k l : Kind)
              → filled_by variant shape x q' ≡ (b, k) ∷ [] → filled_by variant shape o w ≡ (d, l) ∷ [] → b ≢ d)
              (λ r o w away ow b d k l f g same. let x =
              its-row b k f in unclaimed x.0 d l (sym same ∙ x.1) (h.filled r o w ow d l g)) other e;
        }

        more : (b : ℕ) (k : Kind) → IsSettled variant shape s b k → IsSettled variant shape after b k
        more b k x = settled-more variant shape n s h p q here (claims_of kind) value q' cl b k x
