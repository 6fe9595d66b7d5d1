-- A pending read has ended: the reads that are left (`reads_ended`), the shape without it (`ended_is_shaped`, `ended_is_own`), and the state if
-- it reports nothing (`nothing_is_kept`). Also a part that an answer ends (`has_ended`).
use Rattle.follow_parts.proofs.Common.{◌≡◌, ℕ, suc, ◌<◌, true, false, List, ◌∷◌, ◌++◌, Option, None, Some, refl, sym, ap, ◌∙◌, subst, ⊎_elim, arith, get_or}
use Rattle.follow_parts.proofs.Common.{◌≢◌, All, AllPairs, Contains, Result, Ok, Err, IfOk, All-append, All-contains, All-head, All-tail, All-weaker}
use Rattle.follow_parts.proofs.Common.{Contains-append_left, Contains-append_right, Contains-append_cases, All-from_contains, AllPairs-append}
use Rattle.follow_parts.proofs.Common.{AllPairs-front, AllPairs-back, AllPairs-across, AllPairs-head, AllPairs-tail, Contains-first, Contains-later}
use Rattle.follow_parts.proofs.Common.{Contains-around, Operation, Response, low_key, high_key, may_change, Contents, HasForm, IsNoEffect, effect_at}
use Rattle.follow_parts.proofs.Common.{HasKeysIn, answered, KeptPast, KeptPart, AreKept, HasPasts, reads_without_report_are_taken, IsAnswerOf, covered, Part}
use Rattle.follow_parts.proofs.Common.{Range, OpenRead, AreEnded, HasOwnPlace, AreReadsOf, AreWithAnswer, HasEndedBy, IsAnswered, IsEndedBy, IsKeptBeside}
use Rattle.follow_parts.proofs.Common.{IsStateOf, pasts_of, IsPartBefore, IsShaped, HasEnded, IsReportedAt, ReportsNothing, PartsView, kept_parts, Answered}
use Rattle.follow_parts.proofs.Common.{EndedPart}
use Rattle.std.proofs.lemmas.Result.{IfOk-weaker}
use Rattle.follow_parts.specs.declared.state.Answered.TheVariants.{Going, Lost, Spent, Unknown}
use Rattle.follow_parts.proofs.BegunLemmas.{part_later}
use Rattle.follow_parts.proofs.ReportLemmas.{told_at}

-- ---- reads without one of them

abbrev AreOther : OpenRead → OpenRead → Type 0
AreOther read other = read.inv ≢ other.inv

module _ (inv : ℕ) (old new : List OpenRead) (ended : HasEnded inv old new true) (distinct : AllPairs AreOther old) where
  -- what is true of the list by its parts
  pub split : (front : List OpenRead) × (read : OpenRead) × (back : List OpenRead) × (old ≡ front ++ read ∷ back) × (read.inv ≡ inv)
      × (new ≡ front ++ back)
  split = ended

  there : AllPairs AreOther (split.0 ++ split.1 ∷ split.2)
  there = subst (λ (l : List OpenRead). AllPairs AreOther l) split.3 distinct

  pub left_in : (read : OpenRead) → Contains new read → Contains old read
  left_in read read_in = subst (λ (l : List OpenRead). Contains l read) (sym split.3) (⊎_elim
      (λ first. Contains-append_left split.0 (split.1 ∷ split.2) read first)
      (λ second. Contains-append_right split.0 (split.1 ∷ split.2) read (Contains-later split.1 split.2 read second))
      (Contains-append_cases split.0 split.2 read (subst (λ (l : List OpenRead). Contains l read) split.5 read_in)))

  pub is_left : (read : OpenRead) → Contains old read → read.inv ≢ inv → Contains new read
  is_left read read_in other = subst (λ (l : List OpenRead). Contains l read) (sym split.5) (⊎_elim
      (λ (same : split.1 ≡ read). absurd (other (ap (λ (r : OpenRead). r.inv) (sym same) ∙ split.4)))
      (λ around. around)
      (Contains-around split.0 split.1 split.2 read (subst (λ (l : List OpenRead). Contains l read) split.3 read_in)))

  pub others : All (λ (read : OpenRead). read.inv ≢ inv) new
  others = subst (λ (l : List OpenRead). All (λ (read : OpenRead). read.inv ≢ inv) l) (sym split.5)
      (All-append (λ (read : OpenRead). read.inv ≢ inv) split.0 split.2
      (λ k d within same. All-head (AreOther (get_or split.0 k d)) split.1 split.2
      (AllPairs-across AreOther split.0 (split.1 ∷ split.2) there k d within) (same ∙ sym split.4))
      (λ k d within same. AllPairs-head AreOther split.1 split.2 (AllPairs-back AreOther split.0 (split.1 ∷ split.2) there) k d within
      (split.4 ∙ sym same)))

  pub are_distinct : AllPairs AreOther new
  are_distinct = subst (λ (l : List OpenRead). AllPairs AreOther l) (sym split.5)
      (AllPairs-append AreOther split.0 split.2 (AllPairs-front AreOther split.0 (split.1 ∷ split.2) there)
      (AllPairs-tail AreOther split.1 split.2 (AllPairs-back AreOther split.0 (split.1 ∷ split.2) there))
      (λ k d within. All-tail (AreOther (get_or split.0 k d)) split.1 split.2
      (AllPairs-across AreOther split.0 (split.1 ∷ split.2) there k d within)))

  pub the_read : Contains old split.1
  the_read = subst (λ (l : List OpenRead). Contains l split.1) (sym split.3)
      (Contains-append_right split.0 (split.1 ∷ split.2) split.1 (Contains-first split.1 split.2))

  -- ---- the pending reads of the calls

  none_is_no : (response : Response) (r : Option Response) → r ≡ Some response → r ≡ None → ⊥
  none_is_no response r some none = let no : None ≡ Some response = sym none ∙ some in cc

  others_differ : (front back : List Operation) (o p : Operation) → AllPairs (λ (a b : Operation). a.inv < b.inv) (front ++ o ∷ back)
      → Contains (front ++ back) p → p.inv ≢ o.inv
  others_differ front back o p rising p_in same = ⊎_elim
      (λ first.
      let less : p.inv < o.inv = All-contains (λ (a : Operation). a.inv < o.inv) front p
      (λ k d within. All-head (λ (b : Operation). (get_or front k d).inv < b.inv) o back
      (AllPairs-across (λ (a b : Operation). a.inv < b.inv) front (o ∷ back) rising k d within)) first in
      omega (arith, less, same))
      (λ second.
      let more : o.inv < p.inv = All-contains (λ (b : Operation). o.inv < b.inv) back p
      (AllPairs-head (λ (a b : Operation). a.inv < b.inv) o back (AllPairs-back (λ (a b : Operation). a.inv < b.inv) front (o ∷ back) rising)) second in
      omega (arith, more, same))
      (Contains-append_cases front back p p_in)

  around_in : (front back : List Operation) (o p : Operation) → Contains (front ++ back) p → Contains (front ++ o ∷ back) p
  around_in front back o p p_in = ⊎_elim
      (λ first. Contains-append_left front (o ∷ back) p first)
      (λ second. Contains-append_right front (o ∷ back) p (Contains-later o back p second))
      (Contains-append_cases front back p p_in)

  pub reads_ended : (front back : List Operation) (o operation : Operation) (response : Response) → IsAnswerOf o response operation
      → operation.inv ≡ inv → AllPairs (λ (a b : Operation). a.inv < b.inv) (front ++ o ∷ back) → AreReadsOf (front ++ o ∷ back) old
      → AreReadsOf (front ++ operation ∷ back) new
  reads_ended front back o operation response answer named rising are i low high = (
    (λ read_in.
        let (p, p_in, at, pending, keeps, from, to) = (are i low high).0 (left_in (record { inv = i; low = low; high = high }) read_in) in
        let other : i ≢ inv = All-contains (λ (read : OpenRead). read.inv ≢ inv) new (record { inv = i; low = low; high = high }) others read_in in
        ⊎_elim
        (λ (same : o ≡ p). absurd (other (sym at ∙ (ap (λ (x : Operation). x.inv) (sym same) ∙ own))))
        (λ around. (p, around_in front back operation p around, at, pending, keeps, from, to))
        (Contains-around front o back p p_in)),
    (λ (p, p_in, at, pending, keeps, from, to). ⊎_elim
        (λ (same : operation ≡ p). absurd (none_is_no response p.response
        (ap (λ (x : Operation). x.response) (sym same ∙ answer.is)) pending))
        (λ around.
        is_left (record { inv = i; low = low; high = high })
        ((are i low high).1 (p, around_in front back o p around, at, pending, keeps, from, to))
        (λ same. others_differ front back o p rising around (at ∙ (same ∙ sym own))))
        (Contains-around front operation back p p_in)),
  )
    where
      own : o.inv ≡ inv
      own = ap (λ (x : Operation). x.inv) (sym answer.is) ∙ named

-- ---- the shape without it

module _ (s : PartsView) (shaped : IsShaped s) (inv : ℕ) (reads : List OpenRead) (ended : HasEnded inv s.reads reads true) where
  part_before : (part : Part) → IsPartBefore s.now s.reads part → IsPartBefore s.now reads part
  part_before part before = record {
    first = before.first;
    pasts = before.pasts;
    beside = λ k d within read read_in. before.beside k d within read (left_in inv s.reads reads ended shaped.distinct read read_in);
  }

  pub ended_is_shaped : IsShaped (record { rest = s.rest; parts = s.parts; reads = reads; now = s.now })
  ended_is_shaped = record {
    rest = shaped.rest;
    parts = All-weaker (IsPartBefore s.now s.reads) (IsPartBefore s.now reads) part_before s.parts shaped.parts;
    apart = shaped.apart;
    reads = All-from_contains (λ (read : OpenRead). read.inv < s.now) reads (λ read read_in.
        All-contains (λ (r : OpenRead). r.inv < s.now) s.reads read shaped.reads (left_in inv s.reads reads ended shaped.distinct read read_in));
    distinct = are_distinct inv s.reads reads ended shaped.distinct;
  }

  pub ended_is_later : IsShaped (record { rest = s.rest; parts = s.parts; reads = reads; now = suc s.now })
  ended_is_later = record {
    rest = shaped.rest;
    parts = All-weaker (IsPartBefore s.now reads) (IsPartBefore (suc s.now) reads) (part_later s.now reads) s.parts ended_is_shaped.parts;
    apart = shaped.apart;
    reads = All-weaker (λ (read : OpenRead). read.inv < s.now) (λ (read : OpenRead). read.inv < suc s.now) (λ read less. omega (arith, less))
        reads ended_is_shaped.reads;
    distinct = ended_is_shaped.distinct;
  }

  read_of_it : (read : OpenRead) × Contains s.reads read × (read.inv ≡ inv)
  unfolding split
  read_of_it = (ended.1, the_read inv s.reads reads ended shaped.distinct, ended.4)

  pub ended_began : inv < s.now
  ended_began =
      let (read, read_in, at) = read_of_it in
      let less : read.inv < s.now = All-contains (λ (r : OpenRead). r.inv < s.now) s.reads read shaped.reads read_in in omega (arith, less, at)

  pub ended_is_own : (o : Operation) → o.inv ≡ inv
      → HasOwnPlace (record { rest = s.rest; parts = s.parts; reads = reads; now = s.now }) o
  ended_is_own o named =
      let (read, read_in, at) = read_of_it in record {
        reads = All-weaker (λ (r : OpenRead). r.inv ≢ inv) (λ (r : OpenRead). r.inv ≢ o.inv) (λ r other same. other (same ∙ named)) reads
            (others inv s.reads reads ended shaped.distinct);
        parts = λ k d within i e there m f here same.
            (shaped.parts k d within).beside i e there read read_in m f here (same ∙ (named ∙ sym at));
      }

-- ---- a read that reports nothing

nothing_so : (s : PartsView) (start : Contents) (front back : List Operation) (o : Operation) (response : Response) → o.response ≡ None
    → may_change o.call ≡ false → IsReportedAt s.now (answered response o) → HasForm o.call (Some response)
    → ((key : ℕ) → IsNoEffect (effect_at o.call (Some response) key)) → AreKept start s.now (front ++ o ∷ back) (kept_parts s)
    → AreKept start (suc s.now) (front ++ answered response o ∷ back) (kept_parts s)
nothing_so s start front back o response pending keeps reported form nothing kept =
    reads_without_report_are_taken start s.now front back (kept_parts s) o response pending keeps
    (told_at s.now (answered response o) response reported refl) form nothing kept

pub nothing_is_kept : (s : PartsView) (start : Contents) (front back : List Operation) (o operation : Operation) (response : Response)
    → IsAnswerOf o response operation → may_change operation.call ≡ false → IsReportedAt s.now operation
    → HasForm operation.call operation.response → ReportsNothing operation → AreKept start s.now (front ++ o ∷ back) (kept_parts s)
    → AreKept start (suc s.now) (front ++ operation ∷ back) (kept_parts s)
nothing_is_kept s start front back o operation response answer keeps reported form nothing kept =
    subst (λ (x : Operation). AreKept start (suc s.now) (front ++ x ∷ back) (kept_parts s)) (sym answer.is)
    (nothing_so s start front back o response answer.pending (subst (λ (x : Operation). may_change x.call ≡ false) answer.is keeps)
    (subst (λ (x : Operation). IsReportedAt s.now x) answer.is reported)
    (subst (λ (x : Operation). HasForm x.call x.response) answer.is form)
    (subst (λ (x : Operation). ReportsNothing x) answer.is nothing) kept)

-- no read of a pending call is missing
pub never_unknown : (s : PartsView) (start : Contents) (front back : List Operation) (o operation : Operation) (response : Response)
    (read : OpenRead) → IsAnswerOf o response operation → may_change operation.call ≡ false
    → read ≡ record { inv = operation.inv; low = low_key operation.call; high = high_key operation.call }
    → All (λ (other : OpenRead). other ≢ read) s.reads → IsStateOf start (front ++ o ∷ back) s → ⊥
never_unknown s start front back o operation response read answer keeps is none state =
    All-contains (λ (other : OpenRead). other ≢ read) s.reads its none
    ((state.reads o.inv (low_key o.call) (high_key o.call)).1 (
      o,
      Contains-append_right front (o ∷ back) o (Contains-first o back),
      refl,
      answer.pending,
      subst (λ (x : Operation). may_change x.call ≡ false) answer.is keeps,
      refl,
      refl,
    ))
    (sym (is ∙ ap (λ (x : Operation). record { inv = x.inv; low = low_key x.call; high = high_key x.call }) answer.is))
  where
    its : OpenRead
    its = record { inv = o.inv; low = low_key o.call; high = high_key o.call }

-- ---- an answer says the same of a state at the same place

same_answered : (start : Contents) (budget : ℕ) (calls : List Operation) (old then : PartsView) (answer : Answered) → old.now ≡ then.now
    → IsAnswered start budget old calls answer → IsAnswered start budget then calls answer
same_answered start budget calls old then (Going next) same is = (is.0, is.1 ∙ ap (λ (n : ℕ). suc n) same)
same_answered start budget calls old then (Lost ended) same is =
    (subst (λ (n : ℕ). IsKeptBeside start (suc n) calls ended) same is.0, is.1)
same_answered start budget calls old then (Spent ended) same is =
    (subst (λ (n : ℕ). IsKeptBeside start (suc n) calls ended) same is.0, is.1)
same_answered start budget calls old then Unknown same is = is

pub same_result : {E : Type 0} (start : Contents) (budget : ℕ) (calls : List Operation) (old then : PartsView) (result : Result Answered E)
    → old.now ≡ then.now → IfOk result (IsAnswered start budget old calls) → IfOk result (IsAnswered start budget then calls)
same_result start budget calls old then (Ok answer) same is = same_answered start budget calls old then answer same is
same_result start budget calls old then (Err e) same is = is

-- ---- a part that an answer ends

module _ (start : Contents) (now : ℕ) (calls : List Operation) (o : Operation) (response : Response) (ranges : List Range)
    (pasts nexts : List KeptPast) (others : List KeptPart) (keys : HasKeysIn (covered ranges) o) (kept : AreKept start now calls (record { keys = covered ranges; pasts = pasts } ∷ others))
    (some : All HasPasts (record { keys = covered ranges; pasts = pasts } ∷ others)) (with_answer : AreWithAnswer o response pasts nexts) where
  ended_so : (ended : EndedPart) → (ended.ranges.items ≡ ranges) × (pasts_of ended ≡ nexts) → IsEndedBy start now calls o response ended
  ended_so ended is = record {
    keys = subst (λ (l : List Range). HasKeysIn (covered l) o) (sym is.0) keys;
    pasts = pasts;
    others = others;
    are_kept = subst (λ (l : List Range). AreKept start now calls (record { keys = covered l; pasts = pasts } ∷ others)) (sym is.0) kept;
    some = subst (λ (l : List Range). All HasPasts (record { keys = covered l; pasts = pasts } ∷ others)) (sym is.0) some;
    with_answer = subst (λ (l : List KeptPast). AreWithAnswer o response pasts l) (sym is.1) with_answer;
  }

  answer_so : (answer : Answered) → AreEnded ranges nexts answer → HasEndedBy start now calls o response answer
  answer_so (Going next) is = tt
  answer_so (Lost ended) is = ended_so ended is
  answer_so (Spent ended) is = ended_so ended is
  answer_so Unknown is = tt

  pub has_ended : {E : Type 0} (result : Result Answered E) → IfOk result (AreEnded ranges nexts)
      → IfOk result (HasEndedBy start now calls o response)
  has_ended result is = IfOk-weaker result (AreEnded ranges nexts) (HasEndedBy start now calls o response) answer_so is
