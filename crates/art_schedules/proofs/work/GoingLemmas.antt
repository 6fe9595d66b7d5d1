-- Work that goes on alone from a stage after its claim: where it is, what its words are, and that
-- it runs alone.
use Rattle.art_schedules.proofs.Common.{◌≡◌, ℕ, ◌≤◌, List, [], ◌∷◌, length, refl, ap, sym, subst, ◌∙◌, Bool, true, false, inl, inr, arith}
use Rattle.art_schedules.proofs.alone.AloneLemmas.{load-same}
use Rattle.art_schedules.proofs.writes.StoreLemmas.{stored-at, stored-other, stored-long}
use Rattle.art_schedules.proofs.Common.{slice_index, slice_set, Option, Some, None, get_or_past, cases_eq, cases_lt, Reply, Shape, kind_at}
use Rattle.art_schedules.proofs.Common.{released_word, Load, Store, Point, Asks, Answers, Setting, is_scan, locks, asks-answers, load-word}
use Rattle.art_schedules.proofs.Common.{stores-same, load-store, load-add, store-add, HeldRow, Hold, Outcome, Stage, Obsolete, Unlock, Over}
use Rattle.art_schedules.proofs.Common.{reply_for, rest_in, turn_at, stage_after, hold_alone, release_at, no_value, CallAt, OnKey, call_turn}
use Rattle.art_schedules.proofs.Common.{call_after, RunsAlone, unlocked_rows, KnowsKey, IsFull}
use Rattle.art_schedules.proofs.Common.{Step, loads, stores, claims, Solo, RowsOf}
use Rattle.std.specs.Prelude.{◌⊎◌}
use Rattle.art_rows.specs.Rows.{Row}
use Rattle.art_schedules.proofs.work.SoloLemmas.{runs-before, solos-keep}
use Rattle.art_schedules.proofs.work.WorkLemmas.{IsPlain, AtWork, IsEnd, Next, next-work, Acts, Loading, Storing, acts}

-- ---- a step, by what the stage asks

module _ (c : Setting) {at : CallAt} {words : List ℕ} where
  pub step-load : {next : CallAt} {later : List ℕ} (word : ℕ) (mark : Option Point) → call_turn c at ≡ Asks (Load word) mark
      → Step c at words next later
      → (next ≡ call_after c at (slice_index words word)) × (later ≡ words)
  step-load word mark asks (loads w m h) = (ap (λ w. call_after c at (slice_index words w)) (load-word (sym h ∙ asks)), refl)
  step-load word mark asks (stores w v m h) = absurd (load-store (sym (sym h ∙ asks)))
  step-load word mark asks (claims k n m h u) = absurd (load-add (sym (sym h ∙ asks)))

  pub step-store : {next : CallAt} {later : List ℕ} (word value : ℕ) (mark : Option Point) → call_turn c at ≡ Asks (Store word value) mark
      → Step c at words next later
      → (next ≡ call_after c at 0) × (later ≡ slice_set words word value)
  step-store word value mark asks (loads w m h) = absurd (load-store (sym h ∙ asks))
  step-store word value mark asks (stores w v m h) =
      let same = stores-same (sym h ∙ asks) in (refl, ap (λ w. slice_set words w v) same.0 ∙ ap (slice_set words word) same.1)
  step-store word value mark asks (claims k n m h u) = absurd (store-add (sym (sym h ∙ asks)))

  pub step-none : {next : CallAt} {later : List ℕ} (r : Reply) → call_turn c at ≡ Answers r → Step c at words next later → ⊥
  step-none r asks (loads w m h) = asks-answers (sym h ∙ asks)
  step-none r asks (stores w v m h) = asks-answers (sym h ∙ asks)
  step-none r asks (claims k n m h u) = asks-answers (sym h ∙ asks)

-- ---- words

-- a store into words that are alike at a word
pub alike-set : (words now : List ℕ) (i word value : ℕ) → length now ≡ length words → slice_index now i ≡ slice_index words i
    → slice_index (slice_set now word value) i ≡ slice_index (slice_set words word value) i
alike-set words now i word value long same = elim (cases_eq i word) [
  | inl e ↦ elim (cases_lt word (length words)) [
    | inl l ↦ ap (slice_index (slice_set now word value)) e ∙ stored-at now word value (omega (arith, l, long))
        ∙ sym (ap (slice_index (slice_set words word value)) e ∙ stored-at words word value l)
    | inr l ↦ get_or_past (slice_set now word value) i 0 (omega (arith, e, l, long, stored-long now word value))
        ∙ sym (get_or_past (slice_set words word value) i 0 (omega (arith, e, l, stored-long words word value)))
  ]
  | inr e ↦ stored-other now word i value e ∙ (same ∙ sym (stored-other words word i value e))
]

-- rows of the table
abbrev pub AreRows : Shape → List Row → Type 0
AreRows s [] = Unit {0}
AreRows s (n ∷ rows) = (kind_at s n.base ≡ Some n.kind) × AreRows s rows

-- a plain word stays while rows are unlocked
pub unlocked-plain : (s : Shape) (rows : List Row) (words : List ℕ) (word : ℕ) → AreRows s rows → IsPlain s word
    → slice_index (unlocked_rows rows words) word ≡ slice_index words word
unlocked-plain s [] words word are plain = refl
unlocked-plain s (n ∷ rows) words word are plain =
    unlocked-plain s rows (slice_set words n.base (released_word n.kept)) word are.1 plain
    ∙ stored-other words n.base word (released_word n.kept) (plain.bare n.base n.kind are.0)

-- ---- where the work is

-- after the first release
abbrev pub IsBehind : Hold → Stage → Type 0
IsBehind h stage = ((a : HeldRow) × (o : Outcome) × (h.above ≡ Some a) × (stage ≡ Unlock (hold_alone a) (Some o)))
    ⊎ ((o : Outcome) × (stage ≡ Over o))

module _ (c : Setting) (full : IsFull c.variant) (some : 1 ≤ c.shape.rows256) (key : is_scan c.call ≡ false) (h : Hold) where
  -- From a stage after the claim with the first words, and alone with others that are like them,
  -- the work is at this stage with these words.
  pub record Going (b : Bool) (a1 : Stage) (w0 other : List ℕ) (stage : Stage) (words : List ℕ) : Type 0 where
    pub place : Next h b stage
    pub knows : KnowsKey (RowsOf c.shape) c stage
    pub long : length words ≡ length w0
    pub rest : (word : ℕ) → (IsPlain c.shape word → ⊥) → slice_index words word ≡ slice_index w0 word
    pub now : List ℕ
    pub as_long : length now ≡ length words
    pub alike : (word : ℕ) → IsPlain c.shape word → slice_index now word ≡ slice_index words word
    pub runs : (last : List ℕ) (reply : Reply) → RunsAlone (rest_in c stage) now last reply → RunsAlone (rest_in c a1) other last reply

  -- the work is at such a stage, or has released a row
  abbrev pub IsAlong : Bool → Stage → List ℕ → List ℕ → CallAt → List ℕ → Type 0
  IsAlong b a1 w0 other at words =
      (stage : Stage) × (at ≡ OnKey stage) × (Going b a1 w0 other stage words ⊎ IsBehind h stage)

  module _ (b : Bool) (a1 : Stage) (w0 other : List ℕ) where
    released : (above : Option HeldRow) (o : Outcome) → h.above ≡ above → IsBehind h (release_at (locks c.variant) above (Some o))
    released None o e = inr (o, refl)
    released (Some a) o e = inl (a, o, e, refl)

    pub at-end : (b : Bool) (stage : Stage) {words later : List ℕ} {next : CallAt} → IsEnd h b stage → Step c (OnKey stage) words next later
        → (after : Stage) × (next ≡ OnKey after) × IsBehind h after
    at-end false stage {words = words} {later = later} {next = next} e step =
        let own : Step c (OnKey (Unlock h (Some e.0))) words next later = subst (λ x. Step c (OnKey x) words next later) e.1 step in
        (_, (step-store c _ _ _ refl own).0, released h.above e.0 refl)
    at-end true stage {words = words} {later = later} {next = next} e step =
        let own : Step c (OnKey (Obsolete h)) words next later = subst (λ x. Step c (OnKey x) words next later) e step in
        (_, (step-store c _ _ _ refl own).0, released h.above no_value refl)

    pub behind-on : (stage : Stage) {words later : List ℕ} {next : CallAt} → IsBehind h stage → Step c (OnKey stage) words next later
        → (after : Stage) × (next ≡ OnKey after) × IsBehind h after
    behind-on stage {words = words} {later = later} {next = next} (inl e) step =
        let own : Step c (OnKey (Unlock (hold_alone e.0) (Some e.1))) words next later =
        subst (λ x. Step c (OnKey x) words next later) e.3 step in
        (Over e.1, (step-store c _ _ _ refl own).0, inr (e.1, refl))
    behind-on stage {words = words} {later = later} {next = next} (inr e) step =
        absurd (step-none c (reply_for e.0) refl (subst (λ x. Step c (OnKey x) words next later) e.1 step))

    pub load-on : (stage : Stage) (words : List ℕ) (g : Going b a1 w0 other stage words) → AtWork h b stage
        → (word : ℕ) (mark : Option Point)
        → turn_at c stage ≡ Asks (Load word) mark → IsPlain c.shape word
        → KnowsKey (RowsOf c.shape) c (stage_after c stage (slice_index words word))
        → (after : Going b a1 w0 other (stage_after c stage (slice_index words word)) words) × (after.now ≡ g.now)
    load-on stage words g work word mark asks plain knows = (
      record {
        place = next-work h c work g.knows (slice_index words word);
        knows = knows;
        long = g.long;
        rest = g.rest;
        now = g.now;
        as_long = g.as_long;
        alike = g.alike;
        runs = λ last reply r. g.runs last reply
            (runs-before c (OnKey stage) key (Load word) mark asks g.now (slice_index words word) g.now last reply
            (g.alike word plain) (load-same word g.now) r);
      },
      refl,
    )

    pub store-on : (stage : Stage) (words : List ℕ) (g : Going b a1 w0 other stage words) → AtWork h b stage
        → (word value : ℕ) (mark : Option Point)
        → turn_at c stage ≡ Asks (Store word value) mark → IsPlain c.shape word → KnowsKey (RowsOf c.shape) c (stage_after c stage 0)
        → (after : Going b a1 w0 other (stage_after c stage 0) (slice_set words word value)) × (after.now ≡ slice_set g.now word value)
    store-on stage words g work word value mark asks plain knows = (
      record {
        place = next-work h c work g.knows 0;
        knows = knows;
        long = stored-long words word value ∙ g.long;
        rest = λ i bare. stored-other words word i value (λ e. bare (subst (IsPlain c.shape) (sym e) plain)) ∙ g.rest i bare;
        now = slice_set g.now word value;
        as_long = stored-long g.now word value ∙ (g.as_long ∙ sym (stored-long words word value));
        alike = λ i is. alike-set words g.now i word value g.as_long (g.alike i is);
        runs = λ last reply r. g.runs last reply
            (runs-before c (OnKey stage) key (Store word value) mark asks g.now 0 (slice_set g.now word value) last reply
            refl refl r);
      },
      refl,
    )

    going-on : (stage : Stage) {words later : List ℕ} {next : CallAt} → Going b a1 w0 other stage words → AtWork h b stage → Acts c stage
        → Step c (OnKey stage) words next later → IsAlong b a1 w0 other next later
    going-on stage {words = words} {later = later} {next = next} g work (Loading word mark asks plain knows) step =
        let did = step-load c word mark asks step in
        let value = slice_index words word in
        let after = load-on stage words g work word mark asks plain (knows value) in
        (stage_after c stage value, did.0, inl (subst (λ ws. Going b a1 w0 other (stage_after c stage value) ws) (sym did.1) after.0))
    going-on stage {words = words} {later = later} {next = next} g work (Storing word value mark asks plain knows) step =
        let did = step-store c word value mark asks step in
        let after = store-on stage words g work word value mark asks plain knows in
        (stage_after c stage 0, did.0, inl (subst (λ ws. Going b a1 w0 other (stage_after c stage 0) ws) (sym did.1) after.0))

    pub along-on : (at next : CallAt) (words later : List ℕ) → IsAlong b a1 w0 other at words → Step c at words next later
        → IsAlong b a1 w0 other next later
    along-on at next words later i step = go i.2
      where
        own : Step c (OnKey i.0) words next later
        own = subst (λ a. Step c a words next later) i.1 step

        past : (after : Stage) × (next ≡ OnKey after) × IsBehind h after → IsAlong b a1 w0 other next later
        past x = (x.0, x.1, inr x.2)

        at-place : (g : Going b a1 w0 other i.0 words) → Next h b i.0 → IsAlong b a1 w0 other next later
        at-place g (inl work) = going-on i.0 g work (acts c full some work g.knows) own
        at-place g (inr e) = past (at-end b i.0 e own)

        go : Going b a1 w0 other i.0 words ⊎ IsBehind h i.0 → IsAlong b a1 w0 other next later
        go (inl g) = at-place g g.place
        go (inr x) = past (behind-on i.0 x own)

    -- at its beginning
    abbrev pub going-first : Next h b a1 → KnowsKey (RowsOf c.shape) c a1 → length other ≡ length w0
        → ((word : ℕ) → IsPlain c.shape word → slice_index other word ≡ slice_index w0 word) → Going b a1 w0 other a1 w0
    going-first place knows long alike = record {
      place = place;
      knows = knows;
      long = refl;
      rest = λ word bare. refl;
      now = other;
      as_long = long;
      alike = alike;
      runs = λ last reply r. r;
    }

    pub solo-along : {at0 at : CallAt} {start words : List ℕ} → Solo c at0 start at words → IsAlong b a1 w0 other at0 start
        → IsAlong b a1 w0 other at words
    solo-along solo i = solos-keep c (IsAlong b a1 w0 other) along-on solo i
