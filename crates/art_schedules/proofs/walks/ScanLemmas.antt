-- A scan, alone on a table at rest, answers the map's pairs of its range.
use Rattle.art_schedules.proofs.Common.{◌≡◌, ℕ, suc, ◌≤◌, List, [], ◌∷◌, length, refl, sym, ap, subst, arith, Bool, true, false}
use Rattle.art_schedules.proofs.Common.{cond, All-nil, All-push, Scan, Contents, within, Full, root_base, info_at, info_of, ◌>>=◌}
use Rattle.art_schedules.proofs.Common.{◌>>◌, give, each, Setting, locks, root_row, unlock_all, check_of, Walked, with_row, walk_from, procedure}
use Rattle.art_schedules.proofs.Common.{act, root, pairs_below, level_in, path_in, IsAtRest, SameTreesAreOne, MapsAreOne, TreesAreWalked, HasRows}
use Rattle.art_schedules.proofs.Common.{RunsAlone, Comes, ScansAreTheMaps}
use Rattle.std.proofs.Common.{filter, slice_index, if◌then◌else◌}
use Rattle.events.specs.declared.event.Reply.TheVariants as reply
use Rattle.art_rows.specs.Scan.{scan}
use Rattle.art_core.specs.Meaning.{pairs_of}
use Rattle.art_schedules.proofs.alone.AloneLemmas.{give-comes, bind-comes, then-comes, act-comes}
use Rattle.art_schedules.proofs.alone.LikeLemmas.{Like, Nothing, like-start, like-row}
use Rattle.art_schedules.proofs.alone.RestLemmas.{like-settles, at-rest}
use Rattle.art_schedules.proofs.walks.RangeLemmas.{in_range}
use Rattle.art_schedules.proofs.walks.EnterLemmas.{HeldIn, Stands, enters, lets-go}
use Rattle.art_schedules.proofs.walks.VisitLemmas.{GoesBy, goes-longer}
use Rattle.art_schedules.proofs.walks.TreeWalkLemmas.{walks-rows}

module _ (c : Setting) (n : ℕ) (words : List ℕ) (rest : IsAtRest c.shape n words) (low high : ℕ) where
  -- the scan comes to these pairs, and leaves words that differ by versions alone
  pub record Scans (pairs : Contents) : Type 0 where
    pub later : List ℕ
    pub comes : Comes (scan c low high) words pairs later
    pub like : Like c.shape words words later Nothing

  scans : (locking : Bool) → locks c.variant ≡ locking
      → length (within low high (pairs_below 4 c.shape words (root_base c.shape) Full)) ≤ 4096
      → Scans (within low high (pairs_below 4 c.shape words (root_base c.shape) Full))
  unfolding scan
  scans locking e few =
      let base = root_base c.shape in
      let entered = enters c n words rest locking words [] base Full e
      (record {
        like = like-start c.shape n words rest (HeldIn c n words rest locking []);
        stand =
            All-nil (Stands c n words rest locking words);
      }) root refl in
      let row = root_row c entered.version in
      let none : Walked = record { rows = []; pairs = [] } in
      let walked : Walked = record { rows = row ∷ []; pairs = [] } in
      let said : info_of Full (slice_index words (info_at base)) ≡ info_of Full 3 = ap (info_of Full) rest.tree.root in
      let path : [] ≡ path_in words base Full = sym (ap (λ i. i.path) said) in
      let level : 0 ≡ level_in words base Full = sym (ap (λ i. i.level) said) in
      let walk = walks-rows c n words rest low high locking e 4 row walked entered.later root level path (omega arith)
      (entered.walking row refl refl refl)
      (λ y. All-push (λ q. GoesBy c n words rest low high [] y q.base q.kind → ⊥) [] row
      (All-nil (λ q. GoesBy c n words rest low high [] y q.base q.kind → ⊥))
      (goes-longer c n words rest low high [] y base Full path)) few in
      let let_go = lets-go c n words rest locking walk.later walk.walked.rows e walk.walking in
      record {
        later = let_go.later;
        comes = bind-comes {f = λ v. walk_from c low high (record { row = root_row c v; walked = with_row (root_row c v) none }) >>= λ w.
            (if locks c.variant then unlock_all w.rows else each w.rows (check_of c)) >> give w.pairs} entered.comes
            (bind-comes {f = λ w. (if locks c.variant then unlock_all w.rows else each w.rows (check_of c)) >> give w.pairs} walk.comes
            (then-comes {n = give walk.walked.pairs} let_go.comes
            (subst (λ (p : Contents). Comes (give walk.walked.pairs) let_go.later p let_go.later) walk.pairs_are
            (give-comes walk.walked.pairs let_go.later))));
        like = let_go.like;
      }

-- a filter keeps no more than there is
filter-shorter : {X : Type 0} (p : X → Bool) (xs : List X) → length (filter p xs) ≤ length xs
filter-shorter p [] = omega arith
filter-shorter p (x ∷ xs) = go (p x) (filter-shorter p xs)
  where
    go : (b : Bool) → length (filter p xs) ≤ length xs → length (cond b (x ∷ filter p xs) (filter p xs)) ≤ suc (length xs)
    go true le = omega (arith, le)
    go false le = omega (arith, le)

pub scans-are-the-maps : SameTreesAreOne → MapsAreOne → TreesAreWalked → ScansAreTheMaps
unfolding procedure
scans-are-the-maps same one walked s variant n words m low high few rest means =
    let c : Setting = record { shape = s; variant = variant; call = Scan low high } in
    let all : m ≡ pairs_below 4 s words (root_base s) Full = one s words m (pairs_of s words) means (walked s words rest.tree rest.small) in
    let scanned = scans c n words rest low high (locks variant) refl
    (omega (
      arith,
      few,
      ap (λ (p : Contents). length p) all,
      filter-shorter (λ pair. in_range low high pair.0)
          (pairs_below 4 s words (root_base s) Full),
    )) in
    let rows : HasRows s words scanned.later m =
    same s words scanned.later m rest.tree means (λ b k reached. like-row s n words rest scanned.like reached) in
    record {
      later = scanned.later;
      runs = subst (λ (p : Contents). RunsAlone (act s variant (Scan low high)) words scanned.later
          (reply.Pairs (within low high p))) (sym all)
          (act-comes s variant (Scan low high) (bind-comes {f = λ p. give (reply.Pairs p)} scanned.comes
          (give-comes (reply.Pairs (within low high (pairs_below 4 s words (root_base s) Full))) scanned.later)));
      rest = at-rest s n words rest scanned.later scanned.like.long scanned.like.small
          (like-settles s n words rest scanned.later scanned.like) m rows;
      means = rows.means;
    }
