-- After an answer a part goes on (`going_may_be_put`, `going_is_state`), or it and the others represent the calls (`kept_beside`).
use Rattle.follow_parts.proofs.Common.{◌≡◌, ℕ, Bool, true, false, not, ◌&&◌, ◌||◌, List, [], ◌∷◌, ◌++◌, map, refl, sym, subst, get_or}
use Rattle.follow_parts.proofs.Common.{◌≢◌, All, list_any, All-nil, All-cons, All-head, All-tail, All-contains, All-map, All-weaker}
use Rattle.follow_parts.proofs.Common.{All-back, All-from_contains, Operation, Contents, Keys}
use Rattle.follow_parts.proofs.Common.{IsKeptOrder, KeptPast, KeptPart, AreKept, at_rest, HasPasts, dead_pasts_are_lost, parts_move, kept_of, Past, AreAlive}
use Rattle.follow_parts.proofs.Common.{AreGoneOn, IsDead, lefts, lefts_of, covered, AreBesideEachOther, MayBePut, outside, resting, kept_part, past_of, with_parts, Part, GoneOn}
use Rattle.follow_parts.proofs.Common.{OpenRead, same_keys, MayBeLeft, kept_with, AreReadsOf, IsKeptBeside, IsStateOf, pasts_of, IsBesideReads}
use Rattle.follow_parts.proofs.Common.{IsPastBefore, PartsView, is_at_rest, kept_rest, EndedPart}
use Rattle.follow_pasts.specs.declared.pasts.GoneOn.TheVariants.{Alive, Dead, Doubtful}

-- ---- calls that are left

-- what is true of the calls that are left of pasts
pub lefts_from : (P : List Operation → Type 0) (pasts : List Past) → All (λ (past : KeptPast). P past.left) (map kept_of pasts) → All P (lefts pasts)
lefts_from P [] all = All-nil P
lefts_from P (past ∷ pasts) all = All-cons P past.calls.items (lefts pasts)
    (All-head (λ (p : KeptPast). P p.left) (kept_of past) (map kept_of pasts) all)
    (lefts_from P pasts (All-tail (λ (p : KeptPast). P p.left) (kept_of past) (map kept_of pasts) all))

pub lefts_to : (P : List Operation → Type 0) (pasts : List Past) → All P (lefts pasts) → All (λ (past : KeptPast). P past.left) (map kept_of pasts)
lefts_to P [] all = All-nil (λ (past : KeptPast). P past.left)
lefts_to P (past ∷ pasts) all = All-cons (λ (p : KeptPast). P p.left) (kept_of past) (map kept_of pasts)
    (All-head P past.calls.items (lefts pasts) all)
    (lefts_to P pasts (All-tail P past.calls.items (lefts pasts) all))

-- of pasts, and therefore of those that go on
pub lefts_gone : (P : List Operation → Type 0) (budget : ℕ) (pasts : List KeptPast) (gone : GoneOn) → AreGoneOn budget pasts gone
    → All (λ (past : KeptPast). P past.left) pasts → All P (lefts_of gone)
lefts_gone P budget pasts (Alive first found others) alive all =
    let there : All (λ (past : KeptPast). P past.left) (past_of first found.items ∷ map kept_of others.items) =
    All-back (λ (past : KeptPast). P past.left) alive.front (past_of first found.items ∷ map kept_of others.items)
    (subst (λ (l : List KeptPast). All (λ (past : KeptPast). P past.left) l) alive.parts all) in
    All-cons P first.calls (lefts others.items)
    (All-head (λ (past : KeptPast). P past.left) (past_of first found.items) (map kept_of others.items) there)
    (lefts_from P others.items (All-tail (λ (past : KeptPast). P past.left) (past_of first found.items) (map kept_of others.items) there))
lefts_gone P budget pasts (Dead again) gone all = All-nil P
lefts_gone P budget pasts (Doubtful again) gone all = All-nil P

-- ---- the shape

module _ (s : PartsView) (part : Part) (left : All (MayBeLeft s) (part.first.calls ∷ lefts part.others.items)) where
  each_left : All (λ (past : KeptPast). MayBeLeft s past.left) (kept_part part).pasts
  each_left = All-cons (λ (past : KeptPast). MayBeLeft s past.left) (past_of part.first part.found.items) (map kept_of part.others.items)
      (All-head (MayBeLeft s) part.first.calls (lefts part.others.items) left)
      (lefts_to (MayBeLeft s) part.others.items (All-tail (MayBeLeft s) part.first.calls (lefts part.others.items) left))

  past_before : (past : KeptPast) → MayBeLeft s past.left → IsPastBefore s.now past
  past_before past may = record {
    rising = may.rising;
    apart = λ k d within. (may.each k d within).apart;
    before = λ k d within. (may.each k d within).before;
  }

  beside_reads : (past : KeptPast) → MayBeLeft s past.left → IsBesideReads s.reads past
  beside_reads past may read read_in k d within same =
      All-contains (λ (r : OpenRead). r.inv ≢ (get_or past.left k d).inv) s.reads read (may.each k d within).own.reads read_in (sym same)

  beside_part : All (AreBesideEachOther part) s.parts
  beside_part k d within j f here i e there m h last n g at same =
      ((each_left j f here).each m h last).own.parts k d within i e there n g at (sym same)

  pub going_may_be_put : IsKeptOrder part.first → MayBePut part s
  going_may_be_put first = record {
    before = record {
      first = first;
      pasts = All-weaker (λ (past : KeptPast). MayBeLeft s past.left) (IsPastBefore s.now) past_before (kept_part part).pasts each_left;
      beside = All-weaker (λ (past : KeptPast). MayBeLeft s past.left) (IsBesideReads s.reads) beside_reads (kept_part part).pasts each_left;
    };
    beside = beside_part;
  }

-- ---- what is kept

dead_are_lost : (start : Contents) (place : ℕ) (calls : List Operation) (keys : Keys) (more : List KeptPart) (front back : List KeptPast)
    → All IsDead front → AreKept start place calls (record { keys = keys; pasts = front ++ back } ∷ more)
    → AreKept start place calls (record { keys = keys; pasts = back } ∷ more)
dead_are_lost start place calls keys more [] back dead are = are
dead_are_lost start place calls keys more (past ∷ front) back dead are =
    dead_are_lost start place calls keys more front back (All-tail IsDead past front dead)
    (dead_pasts_are_lost start place calls keys past [] (front ++ back) more (All-head IsDead past front dead) are)

alive_are_kept : (start : Contents) (place : ℕ) (calls : List Operation) (keys : Keys) (more : List KeptPart) (pasts left : List KeptPast)
    → AreAlive pasts left → AreKept start place calls (record { keys = keys; pasts = pasts } ∷ more)
    → AreKept start place calls (record { keys = keys; pasts = left } ∷ more)
alive_are_kept start place calls keys more pasts left alive are =
    dead_are_lost start place calls keys more alive.front left alive.dead
    (subst (λ (l : List KeptPast). AreKept start place calls (record { keys = keys; pasts = l } ∷ more)) alive.parts are)

not_or : (a b : Bool) → not (a || b) ≡ (not b && not a)
not_or true true = refl
not_or true false = refl
not_or false true = refl
not_or false false = refl

part_is_kept : (start : Contents) (place : ℕ) (calls : List Operation) (s : PartsView) (part : Part)
    → AreKept start place calls (kept_with s (covered part.ranges.items) (kept_part part).pasts)
    → AreKept start place calls (kept_rest s.rest (part ∷ s.parts) ∷ map kept_part (part ∷ s.parts))
part_is_kept start place calls s part are =
    same_keys start place calls (outside (is_at_rest s.parts) (covered part.ranges.items)) (is_at_rest (part ∷ s.parts)) (at_rest s.rest ∷ [])
    (map kept_part (part ∷ s.parts))
    (λ key. not_or (covered part.ranges.items key) (list_any (λ (p : Part). covered p.ranges.items key) s.parts))
    ((parts_move start place calls (kept_part part) (others ∷ []) (map kept_part s.parts)).1 are)
  where
    others : KeptPart
    others = resting (outside (is_at_rest s.parts) (covered part.ranges.items)) s.rest

pub going_is_state : (s : PartsView) (part : Part) (start : Contents) (calls : List Operation) (pasts : List KeptPast)
    → AreAlive pasts (kept_part part).pasts → AreReadsOf calls s.reads
    → AreKept start s.now calls (kept_with s (covered part.ranges.items) pasts)
    → IsStateOf start calls (with_parts (part ∷ []) s)
going_is_state s part start calls pasts alive reads are = record {
  kept = part_is_kept start s.now calls s part
      (alive_are_kept start s.now calls (covered part.ranges.items)
      (resting (outside (is_at_rest s.parts) (covered part.ranges.items)) s.rest ∷ map kept_part s.parts) pasts (kept_part part).pasts alive are);
  reads = reads;
}

-- the others have pasts
pub all_have_pasts : (parts : List Part) → All HasPasts (map kept_part parts)
all_have_pasts parts =
    All-map HasPasts kept_part parts (All-from_contains (λ part. HasPasts (kept_part part)) parts (λ part part_in none. cc))

pub others_have_pasts : (s : PartsView) (keys : Keys)
    → All HasPasts (resting (outside (is_at_rest s.parts) keys) s.rest ∷ map kept_part s.parts)
others_have_pasts s keys =
    All-cons HasPasts (resting (outside (is_at_rest s.parts) keys) s.rest) (map kept_part s.parts) (λ none. cc) (all_have_pasts s.parts)

-- a part that does not go on, and the others
pub kept_beside : (s : PartsView) (start : Contents) (place : ℕ) (calls : List Operation) (pasts : List KeptPast) (ended : EndedPart)
    → s.now ≡ place → pasts_of ended ≡ pasts → AreKept start s.now calls (kept_with s (covered ended.ranges.items) pasts)
    → IsKeptBeside start place calls ended
kept_beside s start place calls pasts ended at same are = record {
  others = resting (outside (is_at_rest s.parts) (covered ended.ranges.items)) s.rest ∷ map kept_part s.parts;
  are_kept = subst (λ (n : ℕ). AreKept start n calls (kept_with s (covered ended.ranges.items) (pasts_of ended))) at
      (subst (λ (l : List KeptPast). AreKept start s.now calls (kept_with s (covered ended.ranges.items) l)) (sym same) are);
  some = others_have_pasts s (covered ended.ranges.items);
}
