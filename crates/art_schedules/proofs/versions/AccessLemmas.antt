-- Each access of an open call keeps rows and versions sound, and is steady.
use Rattle.art_schedules.proofs.Common.{MayWrite, WritesOwn, ◌≡◌, ◌≢◌, ℕ, ◌+◌, ◌*◌, ◌^◌, ◌<◌, ◌≤◌, List, [], length, refl, ap, sym, subst, ◌∙◌}
use Rattle.art_schedules.proofs.serial.OrderlyLemmas.{set-here}
use Rattle.art_schedules.proofs.writes.StoreLemmas.{stored-at}
use Rattle.art_schedules.proofs.Common.{Bool, Some, arith, cases_eq, false, inl, inr, same_Some, slice_get, slice_index, slice_set, true}
use Rattle.std.specs.Prelude.{◌⊎◌}
use Rattle.art_schedules.proofs.Common.{Call, Shape, Kind, row_words, claims_of, kind_at, is_locked, locked_word, some-words, claims-few}
use Rattle.art_schedules.proofs.Common.{Variant, Setting, locks, HeldRow, setting, CallAt, Process}
use Rattle.art_schedules.proofs.Common.{State, OfRows, Named, IsSlot, IsKept, Knows, holds, fills, IsGoodAt, IsAmong, IsWith, IsAfterVersion}
use Rattle.art_schedules.proofs.Common.{AreDistinct, IsHeld, IsOpen, IsSettled, IsSound, IsSteady, SameWords, held_by, stage_of}
use Rattle.art_schedules.specs.versions.Effects.{Has}
use Rattle.art_schedules.specs.versions.Writers.{IsHeldBy, IsTakenBy}
use Rattle.art_rows.specs.Words.{released_word, obsolete_word}
use Rattle.art_schedules.proofs.words.TableLemmas.{row_ends, row_begins, rows_apart}
use Rattle.art_schedules.proofs.words.VersionLemmas.{even-free, taken-locked}
use Rattle.art_schedules.proofs.versions.KeyLemmas.{slot-behind}
use Rattle.art_schedules.proofs.versions.KnownLemmas.{knows-more}
use Rattle.art_schedules.proofs.versions.WordFacts.{version-free}
use Rattle.art_schedules.proofs.versions.WithLemmas.{with-here, with-more, with-split, distinct-with, distinct-without}
use Rattle.art_schedules.proofs.versions.ChangeLemmas.{written, good-more, index-other, held-still, sound-now}
use Rattle.art_schedules.proofs.versions.MoveLemmas.{settled-row, true-false, differ}
use Rattle.art_schedules.proofs.versions.MoveLemmas as m

module _ (variant : Variant) (shape : Shape) (n : ℕ) (s : State) (h : IsSound variant shape n s) (few : n < 2 ^ 62) (p : ℕ) (q : Process)
    (here : slice_get s.processes p ≡ Some q)
    (call : Call) (is-open : q.call ≡ Some call) where
  abbrev c : Setting
  c = setting shape variant call

  abbrev place : CallAt
  place = stage_of variant shape call q

  abbrev P : OfRows
  P = IsSettled variant shape s

  abbrev l : Bool
  l = locks variant

  opens : IsOpen s p call q
  opens = record { own = here; is_open = is-open }

  lift : (Q : OfRows) (x : CallAt) (hs : List HeldRow) (fs : List Named) → ((b : ℕ) (k : Kind) → P b k → Q b k)
      → Has P c x hs fs → Has Q c x hs fs
  lift Q x hs fs more has = (knows-more P Q c more x has.0, has.1, has.2)

  module _ (word value : ℕ) (q' : Process) (its : q'.call ≡ Some call) (within : word < length s.words) where
    abbrev later : State
    later = record { words = slice_set s.words word value; processes = slice_set s.processes p q' }

    abbrev now : ℕ → ℕ
    now x = slice_index (slice_set s.words word value) x

    abbrev pub Kept : Type 0
    Kept = IsSound variant shape (n + 1) later × IsSteady variant shape s later × WritesOwn variant shape s p later

    abbrev here-now : CallAt
    here-now = stage_of variant shape call q'

    -- no word changes
    pub keeps-words : value ≡ slice_index s.words word → Has P c here-now (holds c place) (fills place) → Kept
    keeps-words same has =
        let all : (x : ℕ) → now x ≡ slice_index s.words x =
        λ x. m.stays variant shape n s h few p q here call is-open word value q' its x (λ e. same) within in
        let cl = m.claims-stay variant shape n s h few p q here call is-open word value q' its (fills place) has.2 (inl refl)
        (λ kind. all (claims_of kind)) in
        let more : (b : ℕ) (k : Kind) → P b k → IsSettled variant shape later b k =
        λ b k x. m.settles variant shape n s h few p q here call is-open word value q' its cl b k x in (
          m.rows-stay variant shape n s h few p q here call is-open word value q' its cl (fills place)
              (lift (IsSettled variant shape later) here-now (holds c place) (fills place) more has) within
              (λ base kind e. omega (arith, all base, h.versions base kind e))
              (subst (IsGoodAt (IsSettled variant shape later) shape word) (sym same)
              (good-more P (IsSettled variant shape later) shape more word (slice_index s.words word) (h.children word)))
              (λ base kind e. all base),
          record {
            claims = λ kind. omega (arith, all (claims_of kind));
            settled = more;
            rises = λ base kind x. omega (arith, all base);
            stands = λ base kind x e free y low high. all y;
          },
          λ base kind e y low high changed. absurd (changed (all y)),
        )

    -- a word after a version changes, in a row that is locked or being filled
    module _ (b : ℕ) (k : Kind) (row : kind_at shape b ≡ Some k) (behind : IsAfterVersion b k word)
        (private : (l : Kind) → P b l → is_locked (slice_index s.words b) ≡ false → ⊥) (may : MayWrite variant shape s p later b word) where
      bases : (base : ℕ) (kind : Kind) → kind_at shape base ≡ Some kind → now base ≡ slice_index s.words base
      bases base kind e = index-other s.words word value base
          (m.no-version variant shape n s h few p q here call is-open word value q' its b k row behind base kind e)

      claims : (kind : Kind) → now (claims_of kind) ≡ slice_index s.words (claims_of kind)
      claims kind = index-other s.words word value (claims_of kind)
          (m.no-claim variant shape n s h few p q here call is-open word value q' its
          (omega (arith, row_begins shape b k row, behind.0)) kind)

      stands : (base : ℕ) (kind : Kind) → P base kind → is_locked (slice_index s.words base) ≡ false
          → SameWords s.words (slice_set s.words word value) base kind
      stands base kind x free y low high = elim (cases_eq y word) [
        | inl e ↦
            let one = rows_apart shape base b kind k word (settled-row variant shape s base kind x) row (omega (arith, low, e))
            (omega (arith, high, e))
            (omega (arith, behind.0)) behind.1 in
            absurd (private kind (subst (λ z. P z kind) one.0 x) (subst (λ z. is_locked (slice_index s.words z) ≡ false) one.0 free))
        | inr e ↦ index-other s.words word value y e
      ]

      steady : ((base : ℕ) (kind : Kind) → P base kind → IsSettled variant shape later base kind) → IsSteady variant shape s later
      steady more = record {
        claims = λ kind. omega (arith, claims kind);
        settled = more;
        rises = λ base kind x. omega (arith, bases base kind (settled-row variant shape s base kind x));
        stands = λ base kind x e free. stands base kind x free;
      }

      pub keeps-versions : IsGoodAt P shape word value → (filled : List Named) → (filled ≡ fills place) ⊎ (filled ≡ [])
          → (Q : OfRows) → (((base : ℕ) (kind : Kind) → P base kind → IsSettled variant shape later base kind) → (base : ℕ)
          (kind : Kind) → Q base kind
          → IsSettled variant shape later base kind) → Has Q c here-now (holds c place) filled → Kept
      keeps-versions good filled same Q settles has =
          let cl = m.claims-stay variant shape n s h few p q here call is-open word value q' its filled has.2 same claims in
          let more : (b : ℕ) (k : Kind) → P b k → IsSettled variant shape later b k =
          λ b k x. m.settles variant shape n s h few p q here call is-open word value q' its cl b k x in (
            m.rows-stay variant shape n s h few p q here call is-open word value q' its cl filled
                (knows-more Q (IsSettled variant shape later) c (settles more) here-now has.0, has.1, has.2) within
                (λ base kind e. omega (arith, bases base kind e, h.versions base kind e))
                (good-more P (IsSettled variant shape later) shape more word value good)
                bases,
            steady more,
            written variant shape s p word value (slice_set s.processes p q') own,
          )
        where
          own : (base : ℕ) (kind : Kind) → kind_at shape base ≡ Some kind → base ≤ word → word < base + row_words kind
              → MayWrite variant shape s p later base word
          own base kind e low high =
              let one = rows_apart shape base b kind k word e row low high (omega (arith, behind.0)) behind.1 in
              subst (λ a. MayWrite variant shape s p later a word) (sym one.0) may

  -- a row that it holds is locked
  pub is-locked : (x : HeldRow) → IsAmong x (holds c place) → IsKept l P x → is_locked (slice_index s.words x.base) ≡ true
  is-locked x a k = ap is_locked (h.locked p call q opens x a) ∙ taken-locked x.kept (version-free l x.kept k.0)

  -- versions are small
  version-small : (x : HeldRow) → IsKept l P x → slice_index s.words x.base ≤ 3 * n
  version-small x k = h.versions x.base x.kind (settled-row variant shape s x.base x.kind k.1)

  -- a row's version rises
  module _ (x : HeldRow) (k : IsKept l P x) (value : ℕ) (q' : Process) (its : q'.call ≡ Some call)
      (more-than : slice_index s.words x.base < value)
      (at-most : value ≤ slice_index s.words x.base + 3) where
    abbrev after : State
    after = record { words = slice_set s.words x.base value; processes = slice_set s.processes p q' }

    abbrev then-at : ℕ → ℕ
    then-at y = slice_index (slice_set s.words x.base value) y

    row : kind_at shape x.base ≡ Some x.kind
    row = settled-row variant shape s x.base x.kind k.1

    inside : x.base < length s.words
    inside = omega (arith, row_ends shape x.base x.kind row, some-words x.kind, h.long)

    version : then-at x.base ≡ value
    version = stored-at s.words x.base value inside

    elsewhere : (y : ℕ) → y ≢ x.base → then-at y ≡ slice_index s.words y
    elsewhere y e = index-other s.words x.base value y e

    claims-same : (kind : Kind) → then-at (claims_of kind) ≡ slice_index s.words (claims_of kind)
    claims-same kind = elsewhere (claims_of kind) (differ (claims_of kind) x.base (omega (
      arith,
      row_begins shape x.base x.kind row,
      claims-few kind,
    )))

    versions-few : (base : ℕ) (kind : Kind) → kind_at shape base ≡ Some kind → then-at base ≤ 3 * (n + 1)
    versions-few base kind e = elim (cases_eq base x.base) [
      | inl same ↦ omega (arith, ap then-at same, version, at-most, version-small x k)
      | inr other ↦ omega (arith, elsewhere base other, h.versions base kind e)
    ]

    not-slot : (Q : OfRows) → IsGoodAt Q shape x.base value
    not-slot Q base kind e slot = absurd (go kind e slot)
      where
        go : (kind : Kind) → kind_at shape base ≡ Some kind → IsSlot base kind x.base → ⊥
        go kind e slot =
            let behind = slot-behind base kind x.base slot in
            let one = rows_apart shape base x.base kind x.kind x.base e row (omega (arith, behind.0)) behind.1 (omega arith)
            (omega (arith, some-words x.kind)) in
            omega (arith, one.0, behind.0)

    rising : ((base : ℕ) (kind : Kind) → P base kind → IsSettled variant shape after base kind) → IsSteady variant shape s after
    rising more = record {
      claims = λ kind. omega (arith, claims-same kind);
      settled = more;
      rises = λ base kind y. elim (cases_eq base x.base) [
        | inl same ↦ omega (arith, ap then-at same, version, more-than, ap (slice_index s.words) same)
        | inr other ↦ omega (arith, elsewhere base other)
      ];
      stands = λ base kind y e free w low high. elim (cases_eq base x.base) [
        | inl same ↦ absurd (omega (arith, e, ap then-at same, version, more-than, ap (slice_index s.words) same))
        | inr other ↦ elsewhere w (apart base kind y other w low high)
      ];
    }
      where
        apart : (base : ℕ) (kind : Kind) → P base kind → base ≢ x.base → (w : ℕ) → base ≤ w → w < base + row_words kind → w ≢ x.base
        apart base kind y other w low high e =
            let one = rows_apart shape base x.base kind x.kind x.base (settled-row variant shape s base kind y) row (omega (arith, low, e))
            (omega (arith, high, e))
            (omega arith) (omega (arith, some-words x.kind)) in
            other one.0

    -- the call holds these rows then, and their versions are as they were kept
    pub keeps-rising : (rows : List HeldRow) → fills place ≡ [] → Has P c (stage_of variant shape call q') rows []
        → ((y : HeldRow) → IsAmong y rows → then-at y.base ≡ y.kept + 2)
        → ((y : HeldRow) → IsAmong y (holds c place) → y.base ≢ x.base → IsAmong y rows) → (is_locked value ≡ true → IsAmong x rows)
        → AreDistinct rows
        → MayWrite variant shape s p after x.base x.base
        → ((r : ℕ) (other : Call) (w : Process) → r ≢ p → IsOpen s r other w → (y z : HeldRow) → IsAmong y rows
        → IsAmong z (held_by variant shape other w)
        → y.base ≢ z.base)
        → ((r : ℕ) (other : Call) (w : Process) → r ≢ p → IsOpen s r other w → (z : HeldRow) → IsAmong z (held_by variant shape other w)
        → z.base ≢ x.base)
        → IsSound variant shape (n + 1) after × IsSteady variant shape s after × WritesOwn variant shape s p after
    keeps-rising rows none has locked stay held distinct may apart others =
        let cl = m.claims-stay variant shape n s h few p q here call is-open x.base value q' its [] has.2 (inr refl) claims-same in
        let more : (b : ℕ) (l : Kind) → P b l → IsSettled variant shape after b l =
        λ b l y. m.settles variant shape n s h few p q here call is-open x.base value q' its cl b l y in (
          sound-now variant shape n s h p q here x.base value q' cl (record {
            within = inside;
            versions = versions-few;
            good = not-slot (IsSettled variant shape after);
            others = λ r other w away o z a. elsewhere z.base (others r other w away o z a);
            knows = λ other e. own (λ v. Knows (IsSettled variant shape after) (setting shape variant v) (stage_of variant shape v q'))
                (knows-more P (IsSettled variant shape after) c more (stage_of variant shape call q') has.0) other e;
            locked = λ other e. own (λ v. (y : HeldRow) → IsAmong y (held_by variant shape v q') → then-at y.base ≡ y.kept + 2)
                (λ y a. locked y (subst (IsAmong y) has.1 a)) other e;
            held = held-now;
            distinct = λ other e. own (λ v. AreDistinct (held_by variant shape v q')) (subst AreDistinct (sym has.1) distinct) other e;
            apart = λ other e. own (λ v. (r : ℕ) (o : Call) (w : Process) → r ≢ p → IsOpen s r o w → (y z : HeldRow)
                → IsAmong y (held_by variant shape v q') → IsAmong z (held_by variant shape o w) → y.base ≢ z.base)
                (λ r o w away ow y z a b. apart r o w away ow y z (subst (IsAmong y) has.1 a) b) other e;
          }),
          rising more,
          written variant shape s p x.base value (slice_set s.processes p q') own-row,
        )
      where
        own : (Q : Call → Type 0) → Q call → (other : Call) → q'.call ≡ Some other → Q other
        own Q y other e = m.for-own variant shape n s h few p q here call is-open x.base value q' its Q y other e

        own-row : (base : ℕ) (kind : Kind) → kind_at shape base ≡ Some kind → base ≤ x.base → x.base < base + row_words kind
            → MayWrite variant shape s p after base x.base
        own-row base kind e low high =
            let one = rows_apart shape base x.base kind x.kind x.base e row low high (omega arith) (omega (arith, some-words x.kind)) in
            subst (λ a. MayWrite variant shape s p after a x.base) (sym one.0) may

        for-call : (other : Call) → q.call ≡ Some other → (y : HeldRow) → IsAmong y (held_by variant shape other q) → y.base ≢ x.base
            → (q'.call ≡ Some other) × IsAmong y (held_by variant shape other q')
        for-call other f y a away =
            let is = same_Some call other (sym is-open ∙ f) in (
              its ∙ ap Some is,
              subst (λ v. IsAmong y (held_by variant shape v q')) is
                  (subst (IsAmong y) (sym has.1) (stay y (subst (λ v. IsAmong y (held_by variant shape v q)) (sym is) a) away)),
            )

        held-now : (base : ℕ) (kind : Kind) → kind_at shape base ≡ Some kind → is_locked (then-at base) ≡ true
            → IsHeld variant shape after base
        held-now base kind e free = elim (cases_eq base x.base) [
          | inl same ↦ record {
            holder = p;
            call = call;
            process = q';
            is_open = record { own = set-here s.processes p q q' here; is_open = its };
            row = x;
            among = subst (IsAmong x) (sym has.1) (held (ap is_locked (sym (ap then-at same ∙ version)) ∙ free));
            is = sym same;
          }
          | inr other ↦ held-still variant shape n s h p q here x.base value q' base
              (h.held base kind e (ap is_locked (sym (elsewhere base other)) ∙ free))
              (λ o f y a is. for-call o f y a (λ g. other (sym is ∙ g)))
        ]

  -- the row is taken
  locked-apart : (x y : HeldRow) → IsKept l P x → slice_index s.words x.base ≡ x.kept → IsKept l P y
      → slice_index s.words y.base ≡ y.kept + 2 → y.base ≢ x.base
  locked-apart x y kx ex ky ey same =
      omega (arith, ap (slice_index s.words) same, ex, ey, version-free l x.kept kx.0, version-free l y.kept ky.0)

  pub takes : (x : HeldRow) (all : List HeldRow) → IsKept l P x → slice_index s.words x.base ≡ x.kept → IsWith x (holds c place) all
      → fills place ≡ []
      → (q' : Process) (its : q'.call ≡ Some call)
      → (((y : HeldRow) → IsAmong y (holds c place) → y.base ≢ x.base) → Has P c (stage_of variant shape call q') all [])
      → IsSound variant shape (n + 1) (record {
        words = slice_set s.words x.base (locked_word x.kept);
        processes = slice_set
            s.processes p q';
      })
      × IsSteady variant shape s (record { words = slice_set s.words x.base (locked_word x.kept); processes = slice_set s.processes p q' })
      × WritesOwn variant shape s p (record {
        words = slice_set s.words x.base (locked_word x.kept);
        processes = slice_set
            s.processes p q';
      })
  takes x all k is with none q' its has =
      keeps-rising x k (locked_word x.kept) q' its (omega (arith, is, value)) (omega (arith, is, value)) all none
      (has (λ y a. held-apart p call q opens y a))
      (λ y a. locked y (with-split x (holds c place) all y with a)) (λ y a other. with-more x (holds c place) all y with a)
      (λ e. with-here x (holds c place) all with) (distinct-with x (holds c place) all with (h.distinct p call q opens) new)
      (inr (inl (refl, by-it)))
      (λ r other w away o y z a. apart r other w away o y z (with-split x (holds c place) all y with a)) others
    where
      value : locked_word x.kept ≡ x.kept + 2
      value = omega (arith, is, version-small x k, few)

      held-apart : (r : ℕ) (other : Call) (w : Process) → IsOpen s r other w → (y : HeldRow)
          → IsAmong y (held_by variant shape other w) → y.base ≢ x.base
      held-apart r other w o y a =
          locked-apart x y k is (m.held-row variant shape n s h few p q here call is-open r other w o y a) (h.locked r other w o y a)

      by-it : IsTakenBy variant shape s p (record {
        words = slice_set s.words x.base (locked_word x.kept);
        processes = slice_set
            s.processes p q';
      }) x.base
      by-it = (
        record {
          holder = p;
          call = call;
          process = q';
          is_open = record { own = set-here s.processes p q q' here; is_open = its };
          row = x;
          among = subst (IsAmong x) (sym (has (λ y a. held-apart p call q opens y a)).1) (with-here x (holds c place) all with);
          is = refl;
        },
        refl,
        is,
      )

      locked : (y : HeldRow) → (y ≡ x) ⊎ IsAmong y (holds c place)
          → slice_index (slice_set s.words x.base (locked_word x.kept)) y.base ≡ y.kept + 2
      locked y (inl e) = subst (λ z. slice_index (slice_set s.words x.base (locked_word x.kept)) z.base ≡ z.kept + 2) (sym e)
          (version x k (locked_word x.kept) q' its (omega (arith, is, value)) (omega (arith, is, value)) ∙ value)
      locked y (inr a) = index-other s.words x.base (locked_word x.kept) y.base (held-apart p call q opens y a)
          ∙ h.locked p call q opens y a

      new : (y : HeldRow) → IsAmong y (holds c place) → x.base ≢ y.base
      new y a e = held-apart p call q opens y a (sym e)

      apart : (r : ℕ) (other : Call) (w : Process) → r ≢ p → IsOpen s r other w → (y z : HeldRow) → (y ≡ x) ⊎ IsAmong y (holds c place)
          → IsAmong z (held_by variant shape other w) → y.base ≢ z.base
      apart r other w away o y z (inl e) b same = held-apart r other w o z b (sym same ∙ ap (λ v. v.base) e)
      apart r other w away o y z (inr a) b same = away (sym (h.apart p r call other q w opens o y z a b same))

      others : (r : ℕ) (other : Call) (w : Process) → r ≢ p → IsOpen s r other w → (z : HeldRow)
          → IsAmong z (held_by variant shape other w) → z.base ≢ x.base
      others r other w away o z a = held-apart r other w o z a

  -- a row is released
  pub releases : (x : HeldRow) (rest : List HeldRow) (value : ℕ) → IsKept l P x → IsWith x rest (holds c place) → fills place ≡ []
      → (value ≡ released_word x.kept) ⊎ (value ≡ obsolete_word x.kept) → (q' : Process) (its : q'.call ≡ Some call)
      → Has P c (stage_of variant shape call q') rest []
      → IsSound variant shape (n + 1) (record { words = slice_set s.words x.base value; processes = slice_set s.processes p q' })
      × IsSteady variant shape s (record { words = slice_set s.words x.base value; processes = slice_set s.processes p q' })
      × WritesOwn variant shape s p (record { words = slice_set s.words x.base value; processes = slice_set s.processes p q' })
  releases x rest value k with none written q' its has =
      keeps-rising x k value q' its more-than at-most rest none has locked stay (λ e. absurd (true-false e free)) distinct.0
      (inl by-it) apart others
    where
      among-x : IsAmong x (holds c place)
      among-x = with-here x rest (holds c place) with

      by-it : IsHeldBy variant shape s p x.base
      by-it = (record { holder = p; call = call; process = q; is_open = opens; row = x; among = among-x; is = refl }, refl)

      later-among : (y : HeldRow) → IsAmong y rest → IsAmong y (holds c place)
      later-among y a = with-more x rest (holds c place) y with a

      is : slice_index s.words x.base ≡ x.kept + 2
      is = h.locked p call q opens x among-x

      distinct : AreDistinct rest × ((y : HeldRow) → IsAmong y rest → x.base ≢ y.base)
      distinct = distinct-without x rest (holds c place) with (h.distinct p call q opens)

      more-than : slice_index s.words x.base < value
      more-than = elim written [
        | inl e ↦ omega (arith, is, e, version-small x k, few)
        | inr e ↦ omega (arith, is, e, version-small x k, few, version-free l x.kept k.0)
      ]

      at-most : value ≤ slice_index s.words x.base + 3
      at-most = elim written [
        | inl e ↦ omega (arith, is, e, version-small x k, few)
        | inr e ↦ omega (arith, is, e, version-small x k, few, version-free l x.kept k.0)
      ]

      locked : (y : HeldRow) → IsAmong y rest → slice_index (slice_set s.words x.base value) y.base ≡ y.kept + 2
      locked y a = index-other s.words x.base value y.base (λ e. distinct.1 y a (sym e)) ∙ h.locked p call q opens y (later-among y a)

      stay : (y : HeldRow) → IsAmong y (holds c place) → y.base ≢ x.base → IsAmong y rest
      stay y a away = elim (with-split x rest (holds c place) y with a) [
        | inl e ↦ absurd (away (ap (λ v. v.base) e))
        | inr b ↦ b
      ]

      free : is_locked value ≡ false
      free = elim written [
        | inl e ↦ even-free value (omega (arith, is, e, version-small x k, few, version-free l x.kept k.0))
        | inr e ↦ even-free value (omega (arith, is, e, version-small x k, few, version-free l x.kept k.0))
      ]

      apart : (r : ℕ) (other : Call) (w : Process) → r ≢ p → IsOpen s r other w → (y z : HeldRow) → IsAmong y rest
          → IsAmong z (held_by variant shape other w) → y.base ≢ z.base
      apart r other w away o y z a b same = away (sym (h.apart p r call other q w opens o y z (later-among y a) b same))

      others : (r : ℕ) (other : Call) (w : Process) → r ≢ p → IsOpen s r other w → (z : HeldRow)
          → IsAmong z (held_by variant shape other w) → z.base ≢ x.base
      others r other w away o z a same = away (h.apart r p other call w q o opens z x a among-x same)
