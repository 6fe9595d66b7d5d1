-- Each access of an open call keeps rows and versions sound.
use Rattle.art_schedules.proofs.Common.{◌≡◌, ◌≢◌, ℕ, ◌+◌, ◌*◌, ◌^◌, ◌<◌, ◌≤◌, List, [], ◌∷◌, length, refl, ap, sym, subst, ◌∙◌, inl, inr, arith}
use Rattle.art_schedules.proofs.words.TableLemmas.{kind_at-base_of, rows_apart}
use Rattle.art_schedules.proofs.writes.StoreLemmas.{stored-at}
use Rattle.art_schedules.proofs.Common.{Call, Kind, Shape, Some, cases_eq, false, same_Some, slice_get, slice_index, slice_set, true}
use Rattle.std.specs.Prelude.{◌⊎◌}
use Rattle.art_schedules.proofs.Common.{claims_of, kind_at, is_locked, some-words, claims-few, IsClaimed}
use Rattle.art_schedules.proofs.Common.{Setting, locks, HeldRow, CallAt, setting, Variant, Process, State, Named, IsKept, Knows, holds, fills}
use Rattle.art_schedules.proofs.Common.{AreDistinct, IsAmong, IsAfterVersion, IsGoodAt, IsOpen, IsSettled, filled_by, held_by, stage_of}
use Rattle.art_schedules.specs.versions.Effects.{Has}
use Rattle.art_schedules.proofs.Common.{IsSound, behind}
use Rattle.art_schedules.proofs.versions.KnownLemmas.{held-is-kept}
use Rattle.art_schedules.proofs.versions.ChangeLemmas.{index-other, next, now, held-still, Claims, settled-more, sound-now}

pub settled-row : (variant : Variant) (shape : Shape) (s : State) (b : ℕ) (k : Kind) → IsSettled variant shape s b k
    → kind_at shape b ≡ Some k
settled-row variant shape s b k x = ap (kind_at shape) x.claimed.is ∙ kind_at-base_of shape k x.claimed.number x.claimed.within

pub differ : (a b : ℕ) → a < b → a ≢ b
differ a b h e = omega (arith, h, e)

pub differ-from : (a b : ℕ) → b < a → a ≢ b
differ-from a b h e = omega (arith, h, e)

pub no-items : {b : ℕ} {k : Kind} → ◌≡◌ {A = List Named} [] ((b, k) ∷ []) → ⊥
no-items e = cc

pub true-false : {b : _} → b ≡ true → b ≡ false → ⊥
true-false e f = cc

module _ (variant : Variant) (shape : Shape) (n : ℕ) (s : State) (h : IsSound variant shape n s) (few : n < 2 ^ 62) (p : ℕ) (q : Process)
    (here : slice_get s.processes p ≡ Some q)
    (call : Call) (is-open : q.call ≡ Some call) where
  abbrev c : Setting
  c = setting shape variant call

  abbrev pub place : CallAt
  place = stage_of variant shape call q

  pub opens : IsOpen s p call q
  opens = record { own = here; is_open = is-open }

  -- a row that some process holds
  pub held-row : (r : ℕ) (other : Call) (w : Process) → IsOpen s r other w → (x : HeldRow) → IsAmong x (held_by variant shape other w)
      → IsKept (locks variant) (IsSettled variant shape s) x
  held-row r other w o x a = held-is-kept (IsSettled variant shape s) (setting shape variant other) (stage_of variant shape other w)
      (h.knows r other w o) x a

  pub kind-of : (x : HeldRow) → IsKept (locks variant) (IsSettled variant shape s) x → kind_at shape x.base ≡ Some x.kind
  kind-of x k = settled-row variant shape s x.base x.kind k.1

  module _ (word value : ℕ) (q' : Process) (its : q'.call ≡ Some call) where
    abbrev pub later : State
    later = next variant shape n s h p q here word value q'

    abbrev pub at-now : ℕ → ℕ
    at-now x = now variant shape n s h p q here word value q' x

    abbrev ClaimsNow : Type 0
    ClaimsNow = Claims variant shape n s h p q here word value q'

    pub for-own : (Q : Call → Type 0) → Q call → (other : Call) → q'.call ≡ Some other → Q other
    for-own Q x other e = subst Q (same_Some call other (sym its ∙ e)) x

    pub stays : (x : ℕ) → (x ≡ word → value ≡ slice_index s.words word) → word < length s.words → at-now x ≡ slice_index s.words x
    stays x same within = elim (cases_eq x word) [
      | inl e ↦ ap at-now e ∙ (stored-at s.words word value within ∙ (same e ∙ ap (slice_index s.words) (sym e)))
      | inr e ↦ index-other s.words word value x e
    ]

    -- where the claims stay, and it fills the row that it filled, or none
    pub claims-stay : (filled : List Named) → filled_by variant shape call q' ≡ filled → (filled ≡ fills place) ⊎ (filled ≡ [])
        → ((kind : Kind) → at-now (claims_of kind) ≡ slice_index s.words (claims_of kind)) → ClaimsNow
    claims-stay filled is same claims = record {
      rise = λ kind. omega (arith, claims kind);
      few = λ kind. omega (arith, claims kind, h.claims kind);
      filled = λ other e. for-own (λ x. (b : ℕ) (k : Kind) → filled_by variant shape x q' ≡ (b, k) ∷ [] → IsClaimed shape
          (slice_set s.words word value) b k)
          (λ b k f. more b k (h.filled p call q opens b k (old b k f))) other e;
      fresh = λ other e. for-own (λ x. (b : ℕ) (k : Kind) → filled_by variant shape x q' ≡ (b, k) ∷ [] → (l : Kind) → IsSettled
          variant shape s b l → ⊥)
          (λ b k f l y. y.unfilled p call q opens b k (old b k f) refl) other e;
      apart = λ other e. for-own (λ x. (r : ℕ) (o : Call) (w : Process) → r ≢ p → IsOpen s r o w → (b d : ℕ) (k l : Kind)
          → filled_by variant shape x q' ≡ (b, k) ∷ [] → filled_by variant shape o w ≡ (d, l) ∷ [] → b ≢ d)
          (λ r o w away ow b d k l f g same. away (sym (h.fills_apart p r call o q w opens ow b d k l (old b k f) g same))) other e;
    }
      where
        old : (b : ℕ) (k : Kind) → filled_by variant shape call q' ≡ (b, k) ∷ [] → fills place ≡ (b, k) ∷ []
        old b k f = elim same [
          | inl e ↦ sym e ∙ (sym is ∙ f)
          | inr e ↦ absurd (no-items (sym e ∙ (sym is ∙ f)))
        ]

        more : (b : ℕ) (k : Kind) → IsClaimed shape s.words b k → IsClaimed shape (slice_set s.words word value) b k
        more b k x = record { number = x.number; claimed = omega (arith, x.claimed, claims k); within = x.within; is = x.is }

    module _ (cl : ClaimsNow) where
      abbrev pub settles : (b : ℕ) (k : Kind) → IsSettled variant shape s b k → IsSettled variant shape later b k
      settles b k x = settled-more variant shape n s h p q here word value q' cl b k x

      -- where it holds the rows that it held, and their versions stay
      pub rows-stay : (filled : List Named) → Has (IsSettled variant shape later) c (stage_of variant shape call q') (holds c place) filled
          → word < length s.words
          → ((base : ℕ) (kind : Kind) → kind_at shape base ≡ Some kind → at-now base ≤ 3 * (n + 1))
          → IsGoodAt (IsSettled variant shape later) shape word value
          → ((base : ℕ) (kind : Kind) → kind_at shape base ≡ Some kind → at-now base ≡ slice_index s.words base)
          → IsSound variant shape (n + 1) later
      rows-stay filled has within versions good same = sound-now variant shape n s h p q here word value q' cl (record {
        within = within;
        versions = versions;
        good = good;
        others = λ r other w away o x a. calm x (held-row r other w o x a);
        knows = λ other e. for-own (λ v. Knows (IsSettled variant shape later) (setting shape variant v) (stage_of variant shape v
            q')) has.0 other e;
        locked = λ other e. for-own (λ v. (x : HeldRow) → IsAmong x (held_by variant shape v q') → at-now x.base ≡ x.kept + 2)
            (λ x a. let b = subst (IsAmong x) has.1 a in calm x (held-row p call q opens x b) ∙ h.locked p call q opens x b) other e;
        held = λ base kind e free. held-still variant shape n s h p q here word value q' base
            (h.held base kind e (ap is_locked (sym (same base kind e)) ∙ free))
            (λ other f x a is. for-call other f x a);
        distinct = λ other e. for-own (λ v. AreDistinct (held_by variant shape v q'))
            (subst AreDistinct (sym has.1) (h.distinct p call q opens)) other e;
        apart = λ other e. for-own (λ v. (r : ℕ) (o : Call) (w : Process) → r ≢ p → IsOpen s r o w → (x y : HeldRow)
            → IsAmong x (held_by variant shape v q') → IsAmong y (held_by variant shape o w) → x.base ≢ y.base)
            (λ r o w away ow x y a b same. away (sym (h.apart p r call o q w opens ow x y (subst (IsAmong x) has.1 a) b same))) other e;
      })
        where
          calm : (x : HeldRow) → IsKept (locks variant) (IsSettled variant shape s) x → at-now x.base ≡ slice_index s.words x.base
          calm x k = same x.base x.kind (kind-of x k)

          for-call : (other : Call) → q.call ≡ Some other → (x : HeldRow) → IsAmong x (held_by variant shape other q)
              → (q'.call ≡ Some other) × IsAmong x (held_by variant shape other q')
          for-call other f x a =
              let is = same_Some call other (sym is-open ∙ f) in (
                its ∙ ap Some is,
                subst (λ v. IsAmong x (held_by variant shape v q')) is
                    (subst (IsAmong x) (sym has.1) (subst (λ v. IsAmong x (held_by variant shape v q)) (sym is) a)),
              )

    -- a word that is after a version is no version
    pub no-version : (b : ℕ) (k : Kind) → kind_at shape b ≡ Some k → IsAfterVersion b k word → (base : ℕ) (kind : Kind)
        → kind_at shape base ≡ Some kind
        → base ≢ word
    no-version b k row behind base kind e same =
        let one = rows_apart shape base b kind k word e row (omega (arith, same)) (omega (arith, same, some-words kind))
        (omega (arith, behind.0)) behind.1 in
        omega (arith, same, one.0, behind.0)

    pub no-claim : 5 ≤ word → (kind : Kind) → claims_of kind ≢ word
    no-claim low kind e = omega (arith, low, e, claims-few kind)
