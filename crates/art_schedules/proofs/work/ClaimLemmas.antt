-- Work that begins with a claim.
use Rattle.art_schedules.proofs.Common.{◌≡◌, ℕ, ◌+◌, ◌%◌, ◌^◌, ◌<◌, ◌≤◌, List, ◌∷◌, length, refl, ap, sym, subst, ◌∙◌, Bool, true, false, inl}
use Rattle.art_schedules.proofs.words.TableLemmas.{row_ends}
use Rattle.art_schedules.proofs.writes.StoreLemmas.{stored-at, stored-other, stored-long}
use Rattle.art_schedules.proofs.Common.{inr, arith, nat_lt, slice_index, slice_set, Option, Some, None, if◌then◌else◌, cases_lt, true≢false}
use Rattle.art_schedules.proofs.Common.{lt-ltb, le-ltb, Reply, Shape, Kind, Child, Empty, row_words, rows_of, table_words, claims_of, base_of}
use Rattle.art_schedules.proofs.Common.{kind_at, child_of, claims-few, Add, Point, Asks, Setting, is_scan, load-add, store-add, HeldRow, Hold}
use Rattle.art_schedules.proofs.Common.{Refused, Stage, Unlock, rest_in, turn_at, stage_after, CallAt, OnKey, call_turn, call_after, RunsAlone}
use Rattle.art_schedules.proofs.Common.{IsOutside, IsUnused, all_of, Each, IsKept, IsSlot}
use Rattle.art_schedules.proofs.Common.{HangsIn, IsFull, IsRelease, KnowsKey, RowsOf, Solo, Step, claims, loads, stores}
use Rattle.art_schedules.proofs.versions.KeyLemmas.{slot-behind}
use Rattle.std.specs.Prelude.{◌≢◌, ◌⊎◌}
use Rattle.art_rows.proofs.KindLemmas.{claims-once}
use Rattle.art_rows.proofs.TurnLemmas.{add-word}
use Rattle.art_schedules.specs.versions.Holding.{HasSlot}
use Rattle.art_schedules.specs.work.Works.{IsRefusal}
use Rattle.art_schedules.proofs.work.SoloLemmas.{runs-behind, solos-keep}
use Rattle.art_schedules.proofs.work.WorkLemmas.{IsPlain, behind-plain, is_release, Next, IsEnd}
use Rattle.art_schedules.proofs.work.GoingLemmas.{IsBehind, Going, IsAlong, going-first, along-on, at-end, behind-on}
use Rattle.art_schedules.proofs.work.EndLemmas.{releases, behind-no, at-release}
use Rattle.art_schedules.proofs.work.CallLemmas.{key-same}

pub step-claim : (c : Setting) {at next : CallAt} {words later : List ℕ} (kind : Kind) (mark : Option Point)
    → call_turn c at ≡ Asks (Add (claims_of kind)) mark
    → Step c at words next later → (number : ℕ) × (next ≡ call_after c at number) × (later ≡ words) × IsUnused c.shape words kind number
step-claim c kind mark asks (loads w m h) = absurd (load-add (sym h ∙ asks))
step-claim c kind mark asks (stores w v m h) = absurd (store-add (sym h ∙ asks))
step-claim c {words = words} kind mark asks (claims k n m h u) =
    (n, refl, refl, subst (λ k. IsUnused c.shape words k n) (claims-once k kind (add-word (sym h ∙ asks))) u)

-- the words with a number in the claims word of a kind, and with one claim more
abbrev pub with_number : List ℕ → Kind → ℕ → List ℕ
with_number words kind number = slice_set words (claims_of kind) number

abbrev pub with_more : List ℕ → Kind → ℕ → List ℕ
with_more words kind number = slice_set (with_number words kind number) (claims_of kind) ((number + 1) % 2 ^ 64)

module _ (s : Shape) (words : List ℕ) (kind : Kind) (number : ℕ) where
  pub number-other : (word : ℕ) → 5 ≤ word → slice_index (with_number words kind number) word ≡ slice_index words word
  number-other word l = stored-other words (claims_of kind) word number (λ e. omega (arith, e, l, claims-few kind))

  pub more-other : (word : ℕ) → 5 ≤ word → slice_index (with_more words kind number) word ≡ slice_index words word
  more-other word l =
      stored-other (with_number words kind number) (claims_of kind) word ((number + 1) % 2 ^ 64) (λ e. omega (arith, e, l, claims-few kind))
      ∙ number-other word l

  pub more-long : length (with_more words kind number) ≡ length words
  more-long = stored-long (with_number words kind number) (claims_of kind) ((number + 1) % 2 ^ 64)
      ∙ stored-long words (claims_of kind) number

-- The claim got the number of a row that only had zeros.
pub record IsClaim (s : Shape) (words : List ℕ) (kind : Kind) (number : ℕ) : Type 0 where
  pub room : number < rows_of s kind
  pub unused : IsUnused s words kind number

-- a word that a fresh row of zeros lacks
pub outside-fresh : (s : Shape) (words : List ℕ) (kind : Kind) (number slot : ℕ) (child : Child) → IsClaim s words kind number
    → child_of s (slice_index words slot) ≡ child → child ≢ Empty → IsOutside (base_of s kind number) kind slot
outside-fresh s words kind number slot child claim is some = elim (cases_lt slot (base_of s kind number)) [
  | inl l ↦ inl l
  | inr l ↦ elim (cases_lt slot (base_of s kind number + row_words kind)) [
    | inl m ↦ absurd (some (sym is ∙ ap (child_of s) (claim.unused claim.room slot l m)))
    | inr m ↦ inr m
  ]
]

-- a slot of a held row
pub slot-row : (s : Shape) (l : Bool) (row : HeldRow) (above : Option HeldRow) (slot : ℕ) → HasSlot l (record { row = row; above = above }) slot
    → Each (IsKept l (RowsOf s)) (row ∷ all_of above) → (base : ℕ) × (kind : Kind) × (kind_at s base ≡ Some kind) × IsSlot base kind slot
slot-row s false row above slot fits kept = (row.base, row.kind, kept.0.1, fits)
slot-row s true row above slot (inl fits) kept = (row.base, row.kind, kept.0.1, fits)
slot-row s true row (Some a) slot (inr fits) kept = (a.base, a.kind, kept.1.0.1, fits)
slot-row s true row None slot (inr fits) kept = absurd fits

pub hangs-row : (s : Shape) (l : Bool) (above : Option HeldRow) (slot : ℕ) → HangsIn above slot
    → Each (IsKept l (RowsOf s)) (all_of above) → (base : ℕ) × (kind : Kind) × (kind_at s base ≡ Some kind) × IsSlot base kind slot
hangs-row s l None slot fits kept = absurd fits
hangs-row s l (Some a) slot fits kept = (a.base, a.kind, kept.0.1, fits)

pub slot-plain : (s : Shape) (words : List ℕ) (slot base : ℕ) (kind : Kind) → table_words s ≤ length words → kind_at s base ≡ Some kind
    → IsSlot base kind slot
    → IsPlain s slot × (slot < length words)
slot-plain s words slot base kind long row at =
    let behind = slot-behind base kind slot at in
    (behind-plain s base kind slot row behind, omega (arith, behind.1, row_ends s base kind row, long))

module _ (c : Setting) (full : IsFull c.variant) (some : 1 ≤ c.shape.rows256) (key : is_scan c.call ≡ false) (h : Hold) (kind : Kind)
    (b : Bool) (claim : Stage)
    (a1 : ℕ → Stage) (w0 : List ℕ) (asks : turn_at c claim ≡ Asks (Add (claims_of kind)) None)
    (after : (number : ℕ) → stage_after c claim number ≡ (if nat_lt number (rows_of c.shape kind) then a1 number else Unlock
    h (Some Refused)))
    (begins : (number : ℕ) → number < rows_of c.shape kind → Next h b (a1 number) × KnowsKey (RowsOf c.shape) c (a1 number))
    (busy : is_release claim ≡ false) where
  abbrev more : ℕ → List ℕ
  more number = with_more w0 kind number

  -- the number found no row
  abbrev NoneLeft : List ℕ → Type 0
  NoneLeft words = (number : ℕ) × IsUnused c.shape w0 kind number × (rows_of c.shape kind ≤ number) × (words ≡ w0)

  -- before the claim; after one that found a row; and after one that found none
  abbrev IsAt : CallAt → List ℕ → Type 0
  IsAt at words = ((at ≡ OnKey claim) × (words ≡ w0))
      ⊎ ((number : ℕ) × IsClaim c.shape w0 kind number × IsAlong c full some key h b (a1 number) w0 (more number) at words)
      ⊎ ((stage : Stage) × (at ≡ OnKey stage) × (((stage ≡ Unlock h (Some Refused)) × NoneLeft words) ⊎ IsBehind h stage))

  claimed : (number : ℕ) → IsUnused c.shape w0 kind number → (next : CallAt) (later : List ℕ)
      → next ≡ OnKey (stage_after c claim number) → later ≡ w0
      → IsAt next later
  claimed number unused next later e f = elim (cases_lt number (rows_of c.shape kind)) [
    | inl l ↦
        let stage : next ≡ OnKey (a1 number) =
        e ∙ ap OnKey (after number ∙ ap (λ x. if x then a1 number else Unlock h (Some Refused)) (lt-ltb number (rows_of c.shape kind) l)) in
        let begin = begins number l in
        inr (inl (
          number,
          record { room = l; unused = unused },
          (
            a1 number,
            stage,
            inl (subst (Going c full some key h b (a1 number) w0 (more number) (a1 number)) (sym f)
                (going-first c full some key h b (a1 number) w0 (more number) begin.0 begin.1 (more-long c.shape w0 kind number)
                (λ word plain. more-other c.shape w0 kind number word plain.behind))),
          ),
        ))
    | inr l ↦
        let stage : next ≡ OnKey (Unlock h (Some Refused)) =
        e ∙ ap OnKey (after number ∙ ap (λ x. if x then a1 number else Unlock h (Some Refused))
        (le-ltb number (rows_of c.shape kind) l)) in
        inr (inr (Unlock h (Some Refused), stage, inl (refl, (number, unused, l, f))))
  ]

  keeps : (at next : CallAt) (words later : List ℕ) → IsAt at words → Step c at words next later → IsAt next later
  keeps at next words later (inl i) step =
      let own : Step c (OnKey claim) words next later = subst (λ a. Step c a words next later) i.0 step in
      let did = step-claim c kind None asks own in
      claimed did.0 (subst (λ ws. IsUnused c.shape ws kind did.0) i.1 did.3) next later did.1 (did.2 ∙ i.1)
  keeps at next words later (inr (inl i)) step =
      inr (inl (i.0, i.1, along-on c full some key h b (a1 i.0) w0 (more i.0) at next words later i.2 step))
  keeps at next words later (inr (inr i)) step = inr (inr (go i.2))
    where
      own : Step c (OnKey i.0) words next later
      own = subst (λ a. Step c a words next later) i.1 step

      past : (x : Stage) × (next ≡ OnKey x) × IsBehind h x
          → (x : Stage) × (next ≡ OnKey x) × (((x ≡ Unlock h (Some Refused)) × NoneLeft later) ⊎ IsBehind h x)
      past x = (x.0, x.1, inr x.2)

      go : ((i.0 ≡ Unlock h (Some Refused)) × NoneLeft words) ⊎ IsBehind h i.0
          → (x : Stage) × (next ≡ OnKey x) × (((x ≡ Unlock h (Some Refused)) × NoneLeft later) ⊎ IsBehind h x)
      go (inl e) = past (at-end c full some key h false (a1 0) w0 w0 false i.0 (Refused, e.0) own)
      go (inr x) = past (behind-on c full some key h false (a1 0) w0 w0 i.0 x own)

  -- at the first release: the claim got this number
  abbrev pub EndsBy : ℕ → Stage → List ℕ → Type 0
  EndsBy number at words = IsRefusal c h kind number w0 at words
      ⊎ (IsClaim c.shape w0 kind number × Going c full some key h b (a1 number) w0 (more number) at words × IsEnd h b at)

  pub claim-end : (at : Stage) (words : List ℕ) → Solo c (OnKey claim) w0 (OnKey at) words → IsRelease h at
      → (number : ℕ) × IsUnused c.shape w0 kind number × EndsBy number at words
  claim-end at words solo r = go (solos-keep c IsAt keeps solo (inl (refl, refl)))
    where
      refused : (stage : Stage) → at ≡ stage → ((stage ≡ Unlock h (Some Refused)) × NoneLeft words) ⊎ IsBehind h stage
          → (number : ℕ) × IsUnused c.shape w0 kind number × EndsBy number at words
      refused stage e (inl x) = (x.1.0, x.1.1, inl (record { full = x.1.2; is = e ∙ x.0; same = x.1.3 }))
      refused stage e (inr x) = absurd (behind-no h at r (subst (IsBehind h) (sym e) x))

      go : IsAt (OnKey at) words → (number : ℕ) × IsUnused c.shape w0 kind number × EndsBy number at words
      go (inl e) = absurd (true≢false (sym (releases h at r) ∙ (ap is_release (key-same e.0) ∙ busy)))
      go (inr (inl i)) = let end = at-release c full some key h b (a1 i.0) w0 (more i.0) at words i.2 r in (
        i.0,
        i.1.unused,
        inr
            (i.1, end.0, end.1),
      )
      go (inr (inr i)) = refused i.0 (key-same i.1) i.2

  -- the run from the claim, on words that have the number there, is one from the stage after it
  pub claim-runs : (number : ℕ) → number < rows_of c.shape kind → 5 ≤ length w0 → (last : List ℕ) (reply : Reply)
      → RunsAlone (rest_in c claim) (with_number w0 kind number) last reply → RunsAlone (rest_in c (a1 number)) (more number) last reply
  claim-runs number room long last reply run =
      let told : slice_index (with_number w0 kind number) (claims_of kind) ≡ number = stored-at w0 (claims_of kind) number (omega
      (arith, long, claims-few kind)) in
      subst (λ x. RunsAlone (rest_in c x) (more number) last reply)
      (after number ∙ ap (λ x. if x then a1 number else Unlock h (Some Refused)) (lt-ltb number (rows_of c.shape kind) room))
      (runs-behind c (OnKey claim) key (Add (claims_of kind)) None asks (with_number w0 kind number) number (more number) last reply told
      (ap (λ n. slice_set (with_number w0 kind number) (claims_of kind) ((n + 1) % 2 ^ 64)) told) run)
