-- A scan that runs alone walks a tree at rest.
use Rattle.art_schedules.proofs.Common.{◌≡◌, ℕ, zero, suc, ◌+◌, ◌<◌, ◌≤◌, List, [], ◌∷◌, ◌++◌, length, refl, sym, ap, ◌∙◌, subst, arith, Bool}
use Rattle.art_rows.specs.Rows.{Row}
use Rattle.art_schedules.proofs.Common.{Contains, flat_map, AllPairs-filter, Contains-from_filter, Contents, within, Kind, Four, Sixteen}
use Rattle.art_schedules.proofs.Common.{FortyEight, Full, Part, numbers, Setting, locks, Walked, can_lie, walk_in, walk_from, Reached}
use Rattle.art_schedules.proofs.Common.{pairs_below, level_in, path_in, IsAtRest}
use Rattle.std.proofs.Common.{AllPairs}
use Rattle.art_rows.specs.Scan.{bytes_of, walk_bytes}
use Rattle.art_rows.proofs.GuardLemmas.{walk_from-body}
use Rattle.art_schedules.proofs.alone.AloneLemmas.{same-comes}
use Rattle.art_schedules.proofs.alone.WayLemmas.{level-most}
use Rattle.art_schedules.proofs.walks.NumberLemmas.{Contains-from_numbers, numbers-rise}
use Rattle.art_schedules.proofs.walks.BelowLemmas.{under-begins, under-small, below-begins, below-small}
use Rattle.art_schedules.proofs.walks.KeyLemmas.{BeginsWith}
use Rattle.art_schedules.proofs.walks.RangeLemmas.{within-flat}
use Rattle.art_schedules.proofs.walks.EnterLemmas.{Walking}
use Rattle.art_schedules.proofs.walks.VisitLemmas.{GoesBy, FreeOf, Walks, WalksRows, under, walks-nothing}
use Rattle.art_schedules.proofs.walks.RowWalkLemmas.{walks-four, walks-sixteen, walks-forty_eight, walks-full}

module _ (c : Setting) (n : ℕ) (words : List ℕ) (rest : IsAtRest c.shape n words) (low high : ℕ) (locking : Bool)
    (e : locks c.variant ≡ locking) where
  -- the walk from a row on
  abbrev pub walk_on : Row → Walked → Part Walked
  walk_on m w = walk_from c low high (record { row = m; walked = w })

  bytes-small : (r : Row) (x : ℕ) → Contains (bytes_of low high r) x → x < 256
  bytes-small r x h = (Contains-from_numbers 0 256 x (Contains-from_filter (can_lie low high r) (numbers 0 256) x h).0).1

  bytes-rise : (r : Row) → AllPairs (λ a b. a < b) (bytes_of low high r)
  bytes-rise r = AllPairs-filter (λ a b. a < b) (can_lie low high r) (numbers 0 256) (numbers-rise 0 256)

  module _ (depth : ℕ) (walks : WalksRows c n words rest low high locking depth walk_on) (r : Row)
      (reached : Reached c.shape words r.base r.kind) (level : r.level ≡ level_in words r.base r.kind)
      (path : r.path ≡ path_in words r.base r.kind)
      (deep : 4 ≤ suc depth + r.level) where
    abbrev pairs_at : ℕ → Contents
    pairs_at x = within low high (under c n words rest low high depth r.base r.kind x)

    abbrev WalksThem : Part Walked → List ℕ → Walked → List ℕ → Type 0
    WalksThem part now w xs = Walks c n words rest low high locking part now w (flat_map pairs_at xs)
        (λ q. (y : ℕ) × GoesBy c n words rest low high r.path y q.base q.kind)

    walks-in : (kind : Kind) → r.kind ≡ kind → (xs : List ℕ) (w : Walked) (now : List ℕ) → ((x : ℕ) → Contains xs x → x < 256)
        → AllPairs (λ a b. a < b) xs
        → Walking c n words rest locking now w.rows → ((x : ℕ) → FreeOf c n words rest low high r.path x w.rows)
        → length (w.pairs ++ flat_map pairs_at xs) ≤ 4096 → WalksThem (walk_in c low high walk_on kind r xs w) now w xs
    walks-in Four is = walks-four c n words rest low high locking e walk_on depth walks r reached level path deep is
    walks-in Sixteen is = walks-sixteen c n words rest low high locking e walk_on depth walks r reached level path deep is
    walks-in FortyEight is = walks-forty_eight c n words rest low high locking e walk_on depth walks r reached level path deep is
    walks-in Full is = walks-full c n words rest low high locking e walk_on depth walks r reached level path deep is

    walks-bytes : (xs : List ℕ) (w : Walked) (now : List ℕ) → ((x : ℕ) → Contains xs x → x < 256) → AllPairs (λ a b. a < b) xs
        → Walking c n words rest locking now w.rows → ((x : ℕ) → FreeOf c n words rest low high r.path x w.rows)
        → length (w.pairs ++ flat_map pairs_at xs) ≤ 4096 → WalksThem (walk_bytes c low high walk_on r xs w) now w xs
    unfolding walk_bytes
    walks-bytes [] w now small rising walking free few =
        walks-nothing c n words rest low high locking now w (λ q. (y : ℕ) × GoesBy c n words rest low high r.path y q.base q.kind) walking
    walks-bytes (x ∷ xs) w now small rising walking free few = walks-in r.kind refl (x ∷ xs) w now small rising walking free few

    -- the row's pairs of the range are those under its bytes
    listed : within low high (pairs_below (suc depth) c.shape words r.base r.kind) ≡ flat_map pairs_at (bytes_of low high r)
    listed =
        within-flat low high r (under c n words rest low high depth r.base r.kind) (numbers 0 256)
        (λ x pair h k. (
          under-small c.shape words rest.tree rest.small (pairs_below depth c.shape words) r.base r.kind x pair
              (below-small c.shape words rest.tree rest.small depth) k,
          subst (λ p. BeginsWith p x pair.0) (sym path)
              (under-begins c.shape words rest.tree (pairs_below depth c.shape words) r.base r.kind x pair
              (below-begins c.shape words rest.tree depth) reached
              ((Contains-from_numbers 0 256 x h).1) k),
        )) (level ∙ sym (ap (λ p. length p) path ∙ (rest.tree.info r.base r.kind reached).0))

  pub walks-rows : (depth : ℕ) → WalksRows c n words rest low high locking depth walk_on
  walks-rows zero r w now reached level path deep walking free few = absurd (omega (arith, deep, level, level-most words r.base r.kind))
  walks-rows (suc depth) r w now reached level path deep walking free few =
      let is = listed depth (walks-rows depth) r reached level path deep in
      let inner = walks-bytes depth (walks-rows depth) r reached level path deep (bytes_of low high r) w now (bytes-small r)
      (bytes-rise r) walking free
      (subst (λ p. length (w.pairs ++ p) ≤ 4096) is few) in
      record {
        walked = inner.walked;
        later = inner.later;
        comes = same-comes (walk_from-body c low high (record { row = r; walked = w })) inner.comes;
        walking = inner.walking;
        pairs_are = inner.pairs_are ∙ ap (λ p. w.pairs ++ p) (sym is);
        more = inner.more;
        rows_are = inner.rows_are;
        below = inner.below;
      }
