-- A part at a moment (`then_of`), its keys parted into those at rest and the busy ones (`parted_none`, `parted_some`), and both together
-- (`moves_on`).
use Rattle.follow_parts.proofs.Common.{◌≡◌, ℕ, ◌<◌, true, not, List, [], ◌∷◌, ◌++◌, map, length, get_or, Option, None, Some, sym, ap, ◌∙◌, subst, arith, ◌≢◌}
use Rattle.follow_parts.proofs.Common.{slice_get, All, AllPairs, Any, Contains, Result, Ok, Err, IfOk, IfSome, All-contains, All-weaker}
use Rattle.follow_parts.proofs.Common.{Contains-append_right, Contains-map, Contains-from_map, All-at, All-from_contains, Operation, NonePrecedesItself}
use Rattle.follow_parts.proofs.Common.{Contents, Keys, pairs_at, IsKeptOrder, KeptPast, KeptPart, AreKept, zip_back, any_to, parts_move, pasts_move_on}
use Rattle.follow_parts.proofs.Common.{AreCut, AreShaped, kept_of, Past, covered, kept_part, IsPastShaped, AreBusy, AreOnly, AreResting, IsOnly, resting}
use Rattle.follow_parts.proofs.Common.{outside, AreBegunAfter, Part, Range, OpenRead, IsCallBefore, IsPastBefore, IsBesideReads, IsPartBefore, AreThen}
use Rattle.follow_parts.proofs.Common.{AreThoseAlive, IsPartFrom, IsParted, MovesOn, AreOfLeft, kept_moved, Moved}
use Rattle.follow_laws.specs.Leads.{IsMadeOf}
use Rattle.follow_parts.proofs.MovedLemmas.{alive_in, alive_stand, all_rest, busy_own, from_shape, front_goes, reads_began, shape_of, two_parts}

-- an item of a list, as some item
pub any_from : {X : Type 0} (P : X → Type 0) (xs : List X) (x : X) → Contains xs x → P x → Any P xs
any_from P xs x x_in is = (x_in.0, x, x_in.1, x_in.2, is)

-- ---- pasts at a moment

pub pasts_shaped : (part : Part) (pasts : List Past) → map kept_of pasts ≡ (kept_part part).pasts → All IsPastShaped (kept_part part).pasts
    → AreShaped pasts
pasts_shaped part pasts same shaped = from_shape pasts (subst (λ (ps : List KeptPast). All IsPastShaped ps) (sym same) shaped)

module _ (moment most : ℕ) (part : Part) (pasts made alive : List Past) (same : map kept_of pasts ≡ (kept_part part).pasts)
    (cut : AreCut moment most pasts made) (are_alive : AreThoseAlive (map kept_of made) (map kept_of alive)) where
  made_shape : All IsPastShaped (map kept_of made)
  made_shape = shape_of made cut.shaped

  made_in : (past : KeptPast) → Contains (map kept_of alive) past → Contains (map kept_of made) past
  made_in past past_in = alive_in (map kept_of made) (map kept_of alive) are_alive past past_in

  pub then_of : AreThen moment part alive
  then_of = record {
    shaped = from_shape alive (All-from_contains IsPastShaped (map kept_of alive) (λ past past_in.
        All-contains IsPastShaped (map kept_of made) past made_shape (made_in past past_in)));
    own = All-from_contains (λ (past : KeptPast). All (λ (o : Operation). Any (λ (other : KeptPast). Contains other.left o) (kept_part part).pasts) past.left)
        (map kept_of alive) (λ past past_in.
        let (old, old_in, is) = any_to (λ (p : KeptPast). IsMadeOf p past) (map kept_of pasts)
        (All-contains (λ (next : KeptPast). Any (λ (p : KeptPast). IsMadeOf p next) (map kept_of pasts)) (map kept_of made) past cut.made_of
        (made_in past past_in)) in
        All-from_contains (λ (o : Operation). Any (λ (other : KeptPast). Contains other.left o) (kept_part part).pasts) past.left (λ o o_in.
        any_from (λ (other : KeptPast). Contains other.left o) (kept_part part).pasts old
        (subst (λ (ps : List KeptPast). Contains ps old) same old_in) (is.left o o_in)));
    leads = λ start now calls more began are.
        alive_stand start now calls (covered part.ranges.items) more [] (map kept_of made) (map kept_of alive) are_alive
        (pasts_move_on start now moment calls (covered part.ranges.items) (map kept_of pasts) (map kept_of made) more began cut.leads cut.made_of
        (subst (λ (ps : List KeptPast). AreKept start now calls (record { keys = covered part.ranges.items; pasts = ps } ∷ more)) (sym same) are));
  }

-- ---- keys at rest and busy ones

pub parted_none : (pasts : List Past) (one : Past) (busy : List Range) (moved : Moved) → 0 < length pasts → one ≡ get_or pasts 0 one
    → AreShaped pasts → AreBusy pasts (covered busy) → busy ≡ [] → AreResting (covered busy) one.map moved.pairs.items → moved.left ≡ None
    → IsParted pasts moved
parted_none [] one busy moved some is shaped are_busy empty rest none = absurd (omega arith)
parted_none (first ∷ others) one busy moved some is shaped are_busy empty rest none = record {
  first = subst (λ (o : Option Part). IfSome o (λ (left : Part). IsKeptOrder left.first)) (sym none) tt;
  own = subst (λ (o : Option Part). IfSome o (λ (left : Part). All (λ (past : KeptPast). Any (λ (other : KeptPast). past.left ≡ other.left)
      (map kept_of (first ∷ others))) (kept_part left).pasts)) (sym none) tt;
  leads = λ start now calls keys more are.
      let pairs : moved.pairs.items ≡ pairs_at (λ key. not (covered busy key)) first.map =
      rest ∙ ap (λ (p : Past). pairs_at (λ key. not (covered busy key)) p.map) is in
      let kept : AreKept start now calls (resting keys moved.pairs.items ∷ more) =
      subst (λ (m : Contents). AreKept start now calls (resting keys m ∷ more)) (sym pairs)
      (all_rest start now calls keys (covered busy) more first others shaped are_busy.all are
      (λ key. ap (λ (rs : List Range). covered rs key) empty)) in
      subst (λ (o : Option Part). AreKept start now calls (kept_moved keys moved.pairs.items o ++ more)
      × IfSome o (λ (left : Part). (key : ℕ) → covered left.ranges.items key ≡ true → keys key ≡ true)) (sym none) (kept, tt);
}

pub parted_some : (pasts only : List Past) (one : Past) (busy : List Range) (part : Part) (moved : Moved) → 0 < length pasts
    → one ≡ get_or pasts 0 one → AreShaped pasts → AreBusy pasts (covered busy) → AreResting (covered busy) one.map moved.pairs.items
    → AreOnly (covered busy) pasts only → IsPartFrom busy only part → moved.left ≡ Some part → IsParted pasts moved
parted_some [] only one busy part moved some is shaped are_busy rest zip from left = absurd (omega arith)
parted_some (first ∷ others) only one busy part moved some is shaped are_busy rest zip from left = record {
  first = subst (λ (o : Option Part). IfSome o (λ (l : Part). IsKeptOrder l.first)) (sym left) from.first;
  own = subst (λ (o : Option Part). IfSome o (λ (l : Part). All (λ (past : KeptPast). Any (λ (other : KeptPast). past.left ≡ other.left)
      (map kept_of (first ∷ others))) (kept_part l).pasts)) (sym left) own;
  leads = λ start now calls keys more are.
      subst (λ (o : Option Part). AreKept start now calls (kept_moved keys moved.pairs.items o ++ more)
      × IfSome o (λ (l : Part). (key : ℕ) → covered l.ranges.items key ≡ true → keys key ≡ true)) (sym left)
      (leads start now calls keys more are);
}
  where
    own : All (λ (past : KeptPast). Any (λ (other : KeptPast). past.left ≡ other.left) (map kept_of (first ∷ others))) (kept_part part).pasts
    own = All-from_contains (λ (past : KeptPast). Any (λ (other : KeptPast). past.left ≡ other.left) (map kept_of (first ∷ others)))
        (kept_part part).pasts (λ past past_in.
        let (p, p_in, same) = Contains-from_map kept_of only past (subst (λ (ps : List KeptPast). Contains ps past) (sym from.alive.parts)
        (Contains-append_right from.alive.front (kept_part part).pasts past past_in)) in
        let (q, q_in, is_only) = zip_back (IsOnly (covered busy)) (first ∷ others) only zip p p_in in
        any_from (λ (other : KeptPast). past.left ≡ other.left) (map kept_of (first ∷ others)) (kept_of q)
        (Contains-map kept_of (first ∷ others) q q_in) (ap (λ (k : KeptPast). k.left) (sym same) ∙ is_only.calls))

    leads : (start : Contents) (now : ℕ) (calls : List Operation) (keys : Keys) (more : List KeptPart)
        → AreKept start now calls (record { keys = keys; pasts = map kept_of (first ∷ others) } ∷ more)
        → AreKept start now calls (resting (outside keys (covered part.ranges.items)) moved.pairs.items ∷ kept_part part ∷ more)
        × ((key : ℕ) → covered part.ranges.items key ≡ true → keys key ≡ true)
    leads start now calls keys more are = (
      subst (λ (rs : List Range). AreKept start now calls (resting (outside keys (covered rs)) moved.pairs.items
          ∷ record { keys = covered rs; pasts = (kept_part part).pasts } ∷ more)) (sym from.ranges) back,
      λ key here. own_key key (subst (λ (rs : List Range). covered rs key ≡ true) from.ranges here),
    )
      where
        own_key : (key : ℕ) → covered busy key ≡ true → keys key ≡ true
        own_key = busy_own start now calls keys (covered busy) more first others shaped are_busy.all are are_busy.only

        pairs : moved.pairs.items ≡ pairs_at (λ key. not (covered busy key)) first.map
        pairs = rest ∙ ap (λ (p : Past). pairs_at (λ key. not (covered busy key)) p.map) is

        two : AreKept start now calls (resting (outside keys (covered busy)) moved.pairs.items
            ∷ record { keys = covered busy; pasts = map kept_of only } ∷ more)
        two = subst (λ (m : Contents). AreKept start now calls (resting (outside keys (covered busy)) m
            ∷ record { keys = covered busy; pasts = map kept_of only } ∷ more)) (sym pairs)
            (two_parts start now calls keys (covered busy) more first others shaped are_busy.all are only own_key zip)

        ahead : AreKept start now calls (record { keys = covered busy; pasts = (kept_part part).pasts }
            ∷ resting (outside keys (covered busy)) moved.pairs.items ∷ more)
        ahead = front_goes start now calls (covered busy) (resting (outside keys (covered busy)) moved.pairs.items ∷ more) from.alive.front
            (kept_part part).pasts from.alive.dead
            (subst (λ (ps : List KeptPast). AreKept start now calls (record { keys = covered busy; pasts = ps }
            ∷ resting (outside keys (covered busy)) moved.pairs.items ∷ more)) from.alive.parts
            ((parts_move start now calls (record { keys = covered busy; pasts = map kept_of only })
            (resting (outside keys (covered busy)) moved.pairs.items ∷ []) more).0 two))

        back : AreKept start now calls (resting (outside keys (covered busy)) moved.pairs.items
            ∷ record { keys = covered busy; pasts = (kept_part part).pasts } ∷ more)
        back = (parts_move start now calls (record { keys = covered busy; pasts = (kept_part part).pasts })
            (resting (outside keys (covered busy)) moved.pairs.items ∷ []) more).1 ahead

-- their shape stays
abbrev IsShapedPast : Past → Type 0
IsShapedPast past = AllPairs (λ (a b : Operation). a.inv < b.inv) past.calls.items × NonePrecedesItself past.calls.items

pub only_shaped : (busy : Keys) (pasts only : List Past) → AreOnly busy pasts only → AreShaped pasts → AreShaped only
only_shaped busy pasts only zip shaped = All-from_contains IsShapedPast only (λ p p_in.
    let (q, q_in, is) = zip_back (IsOnly busy) pasts only zip p p_in in
    let shape : IsShapedPast q = All-contains IsShapedPast pasts q shaped q_in in (
      subst (λ (os : List Operation). AllPairs (λ (a b : Operation). a.inv < b.inv) os) (sym is.calls) shape.0,
      subst NonePrecedesItself (sym is.calls) shape.1,
    ))

-- the calls of the first of some pasts rise
pub first_rises : (pasts : List Past) (first : Past) → slice_get pasts 0 ≡ Some first → AreShaped pasts
    → AllPairs (λ a b. a.inv < b.inv) first.calls.items
first_rises pasts first at shaped = (All-at IsShapedPast pasts 0 first shaped at).0

-- ---- both

module _ (now : ℕ) (reads : List OpenRead) (part : Part) (before : IsPartBefore now reads part) (moment : ℕ) (pasts : List Past)
    (are_then : AreThen moment part pasts) where
  -- a call that is left at the moment was left before
  was_left : (past : KeptPast) → Any (λ (other : KeptPast). past.left ≡ other.left) (map kept_of pasts) → (o : Operation)
      → Contains past.left o → (old : KeptPast) × Contains (kept_part part).pasts old × Contains old.left o
  was_left past some o o_in =
      let (other, other_in, same) = any_to (λ (p : KeptPast). past.left ≡ p.left) (map kept_of pasts) some in
      any_to (λ (old : KeptPast). Contains old.left o) (kept_part part).pasts
      (All-contains (λ (a : Operation). Any (λ (old : KeptPast). Contains old.left a) (kept_part part).pasts) other.left o
      (All-contains (λ (p : KeptPast). All (λ (a : Operation). Any (λ (old : KeptPast). Contains old.left a) (kept_part part).pasts) p.left)
      (map kept_of pasts) other are_then.own other_in)
      (subst (λ (os : List Operation). Contains os o) same o_in))

  past_before : (past : KeptPast) → Any (λ (other : KeptPast). past.left ≡ other.left) (map kept_of pasts) → IsPastBefore now past
  past_before past some =
      let (other, other_in, same) = any_to (λ (p : KeptPast). past.left ≡ p.left) (map kept_of pasts) some in
      let shape = All-contains IsPastShaped (map kept_of pasts) other (shape_of pasts are_then.shaped) other_in in record {
        rising = subst (λ (os : List Operation). AllPairs (λ (a b : Operation). a.inv < b.inv) os) (sym same) shape.rising;
        apart = subst NonePrecedesItself (sym same) shape.apart;
        before = All-from_contains (IsCallBefore now) past.left (λ o o_in.
            let (old, old_in, there) = was_left past some o o_in in
            All-contains (IsCallBefore now) old.left o
            (All-contains (IsPastBefore now) (kept_part part).pasts old before.pasts old_in).before there);
      }

  past_beside : (past : KeptPast) → Any (λ (other : KeptPast). past.left ≡ other.left) (map kept_of pasts) → IsBesideReads reads past
  past_beside past some read read_in = All-from_contains (λ (o : Operation). o.inv ≢ read.inv) past.left (λ o o_in.
      let (old, old_in, there) = was_left past some o o_in in
      All-contains (λ (p : Operation). p.inv ≢ read.inv) old.left o
      (All-contains (IsBesideReads reads) (kept_part part).pasts old before.beside old_in read read_in) there)

  abbrev some_same : KeptPast → Type 0
  some_same past = Any (λ (other : KeptPast). past.left ≡ other.left) (map kept_of pasts)

  left_shaped : (left : Part) → IsKeptOrder left.first
      → All (λ (past : KeptPast). Any (λ (other : KeptPast). past.left ≡ other.left) (map kept_of pasts)) (kept_part left).pasts
      → IsPartBefore now reads left × AreOfLeft part (kept_part left).pasts
  left_shaped left first own = (
    record {
      first = first;
      pasts = All-weaker some_same (IsPastBefore now) past_before (kept_part left).pasts own;
      beside = All-weaker some_same (IsBesideReads reads) past_beside (kept_part left).pasts own;
    },
    All-weaker some_same (λ (past : KeptPast). All (λ (o : Operation). Any (λ (old : KeptPast). Contains old.left o) (kept_part part).pasts) past.left)
        (λ past some. All-from_contains (λ (o : Operation). Any (λ (old : KeptPast). Contains old.left o) (kept_part part).pasts) past.left (λ o o_in.
        let (old, old_in, there) = was_left past some o o_in in
        any_from (λ (p : KeptPast). Contains p.left o) (kept_part part).pasts old old_in there))
        (kept_part left).pasts own,
  )

  shaped_if : (o : Option Part) → IfSome o (λ left. IsKeptOrder left.first)
      → IfSome o (λ left. All (λ past. Any (λ other. past.left ≡ other.left) (map kept_of pasts)) (kept_part left).pasts)
      → IfSome o (λ left. IsPartBefore now reads left × AreOfLeft part (kept_part left).pasts)
  shaped_if None first own = tt
  shaped_if (Some left) first own = left_shaped left first own

  pub moves_on : AreBegunAfter part.ranges.items reads moment → (moved : Moved) → IsParted pasts moved → MovesOn now reads part moved
  moves_on after moved parted = record {
    shaped = shaped_if moved.left parted.first parted.own;
    leads = λ start calls more are_reads are.
        parted.leads start now calls (covered part.ranges.items) more
        (are_then.leads start now calls more (reads_began part.ranges.items reads moment calls after are_reads) are);
  }

  pub moves_if : {E : Type 0} (r : Result (Option Moved) E) → AreBegunAfter part.ranges.items reads moment
      → IfOk r (λ moved. IfSome moved (IsParted pasts)) → IfOk r (λ moved. IfSome moved (MovesOn now reads part))
  moves_if (Err e) after parted = tt
  moves_if (Ok None) after parted = tt
  moves_if (Ok (Some moved)) after parted = moves_on after moved parted
