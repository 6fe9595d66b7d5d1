-- What a call on a key of a full tree knows at its beginning and its end, after FIND, and as it
-- works on the rows that it holds.
use Rattle.art_schedules.proofs.Common.{◌≡◌, ℕ, zero, suc, ◌+◌, ◌-◌, ◌<◌, List, [], ◌∷◌, refl, sym, subst, Bool, true, false, arith, inl, ◌==◌}
use Rattle.art_schedules.proofs.Common.{Option, Some, None, if◌then◌else◌, Call, Kind, Four, Sixteen, FortyEight, Full, Shape, capacity, kind_at}
use Rattle.art_schedules.proofs.Common.{child_at, root_base, place_of, child_of, new_place-most, key_byte-small, Setting, key_of, is_insert}
use Rattle.art_schedules.proofs.Common.{locks, releases_early, HeldRow, Finding, Lacks, Position, Hold, Work, Stage, FindCount, Slot, Over, row_at}
use Rattle.art_schedules.proofs.Common.{held, count_in, keys_in, keys_among, byte_in, place_in, leaf_place, setting, start_at, work_at}
use Rattle.art_schedules.proofs.Common.{checked_at, among_at, find_at, release_at, keys_one, OfRows, Each, IsSlot, child_rows, row_filled}
use Rattle.art_schedules.proofs.Common.{IsUnder, IsFound, FitsWork, IsKept, IsNamed, KnowsKey, rows_of_work, rows_found, FitsPlace, HasSlot}
use Rattle.art_schedules.proofs.Common.{kept_at_place, KnowsRows, Variant, all_of, held_at_place, locks_of, rows_of_hold, held_at_stage}
use Rattle.art_control_states.specs.declared.stage.Keys.{Keys}
use Rattle.art_control_states.specs.declared.stage.Finding.TheVariants.{Has}
use Rattle.art_control_states.specs.Automaton.{moves_at, put_at, words_at}
use Rattle.art_schedules.specs.versions.Holding.{HasPlace}
use Rattle.art_schedules.proofs.versions.WordFacts.{place-fits, entry-fits}
use Rattle.art_control_states.specs.declared.stage.Work.TheVariants as work

own-slot : (l : Bool) (h : Hold) (slot : ℕ) → IsSlot h.row.base h.row.kind slot → HasSlot l h slot
own-slot true h slot e = inl e
own-slot false h slot e = e

module _ (variant : Variant) (s : Shape) (call : Call) (P : OfRows) (is_row : (b : ℕ) (k : Kind) → P b k → kind_at s b ≡ Some k)
    (root : P (root_base s) Full) where
  abbrev c : Setting
  c = setting s variant call

  abbrev l : Bool
  l = locks variant

  abbrev i : Bool
  i = is_insert call

  abbrev e : Bool
  e = releases_early variant

  -- at a stage that holds these rows and fills none
  abbrev pub IsAt : List HeldRow → Stage → Type 0
  IsAt rows stage = KnowsKey P c stage × (locks_of (held_at_stage l i stage) ≡ locks_of rows) × (row_filled stage ≡ [])

  pub at-start : IsAt [] (start_at l)
  at-start = go l
    where
      go : (b : Bool) → KnowsRows P b i c (start_at b) × (locks_of (held_at_stage b i (start_at b)) ≡ []) × (row_filled (start_at b) ≡ [])
      go true = (record { kept = tt; known = tt; fits = (tt, tt); filled = tt }, refl, refl)
      go false = (record { kept = tt; known = tt; fits = (tt, tt); filled = tt }, refl, refl)

  pub at-end : (o : _) → IsAt [] (Over o)
  at-end o = (record { kept = tt; known = tt; fits = tt; filled = tt }, refl, refl)

  -- work on rows that are held

  leaf-fits : (base : ℕ) (kind : Kind) (info kept : ℕ) (above : Option HeldRow) (keys : Keys) → HasPlace kind keys
      → leaf_place kind c (record { row = held base kind info kept; above = above }) keys < capacity kind
  leaf-fits base Four info kept above keys h =
      let x = byte_in c (held base Four info kept) in
      omega (arith, new_place-most x (keys_in Four keys), h)
  leaf-fits base Sixteen info kept above keys h =
      let x = byte_in c (held base Sixteen info kept) in
      omega (arith, new_place-most x (keys_in Sixteen keys), h)
  leaf-fits base FortyEight info kept above keys h = h
  leaf-fits base Full info kept above keys h = absurd h

  pub moves : (h : Hold) (keys : Keys) (n : ℕ) → Each (IsKept l P) (rows_of_hold h) → HasPlace h.row.kind keys
      → place_in c h keys + n < capacity h.row.kind → IsAt (rows_of_hold h) (moves_at h keys n)
  moves h keys zero kept place less = (
    record {
      kept = kept;
      known = tt;
      fits = (place, leaf-fits h.row.base h.row.kind h.row.info h.row.kept h.above keys place);
      filled = tt;
    },
    refl,
    refl,
  )
  moves h keys (suc n) kept place less = (record { kept = kept; known = tt; fits = (place, omega (arith, less)); filled = tt }, refl, refl)

  puts : (base : ℕ) (kind : Kind) (info was : ℕ) (above : Option HeldRow) (keys : Keys)
      → Each (IsKept l P) (held base kind info was ∷ all_of above)
      → count_in kind keys < capacity kind
      → IsAt (held base kind info was ∷ all_of above) (put_at kind c (record { row = held base kind info was; above = above }) keys)
  puts base Four info was above keys kept less =
      let h : Hold = record { row = held base Four info was; above = above } in
      moves h keys (count_in Four keys - place_in c h keys) kept less
      (omega (arith, new_place-most (byte_in c (held base Four info was)) (keys_in Four keys), less))
  puts base Sixteen info was above keys kept less =
      let h : Hold = record { row = held base Sixteen info was; above = above } in
      moves h keys (count_in Sixteen keys - place_in c h keys) kept less
      (omega (arith, new_place-most (byte_in c (held base Sixteen info was)) (keys_in Sixteen keys), less))
  puts base FortyEight info was above keys kept less = (record { kept = kept; known = tt; fits = (less, less); filled = tt }, refl, refl)
  puts base Full info was above keys kept less = (record { kept = kept; known = tt; fits = tt; filled = tt }, refl, refl)

  pub works : (h : Hold) (work : Work) → Each (IsKept l P) (rows_of_hold h) → Each (IsNamed P) (rows_of_work s work)
      → FitsWork h.row h.above work
      → IsAt (rows_of_hold h) (work_at c h work)
  works h (work.Write slot word reply) kept known fits =
      (record { kept = kept; known = known; fits = own-slot l h slot fits; filled = tt }, refl, refl)
  works h (work.Pair p) kept known fits = (record { kept = kept; known = known; fits = own-slot l h p.slot fits; filled = tt }, refl, refl)
  works h (work.Put keys) kept known fits = puts h.row.base h.row.kind h.row.info h.row.kept h.above keys kept fits
  works h (work.Grow slot keys) kept known fits = (record { kept = kept; known = tt; fits = fits; filled = tt }, refl, refl)

  pub released : (above : Option HeldRow) (o : _) → Each (IsKept l P) (all_of above) → IsAt (all_of above) (release_at l above o)
  released None None kept = at-start
  released None (Some o) kept = at-end o
  released (Some n) o kept = (record { kept = kept; known = tt; fits = tt; filled = tt }, refl, refl)

  -- FIND: what comes after it depends on the tree
  module _ (checked : (p : Position) (f : Finding) → Each (IsKept l P) (kept_at_place l i p) → FitsPlace p → IsFound p.row f
      → Each (IsNamed P) (rows_found f) → IsAt (held_at_place l i p) (checked_at l i e c p f)) where
    pub among : (p : Position) (keys : Keys) → Each (IsKept l P) (kept_at_place l i p) → FitsPlace p
        → IsAt (held_at_place l i p) (words_at l i e c p keys)
    among p keys kept under = go (place_of (byte_in c p.row) (keys_among p.row.kind keys)) refl
      where
        go : (o : Option ℕ) → place_of (byte_in c p.row) (keys_among p.row.kind keys) ≡ o
            → IsAt (held_at_place l i p) (among_at l i e c p keys o)
        go None e = checked p (Lacks keys) kept under tt tt
        go (Some place) e = (
          record {
            kept = kept;
            known = tt;
            fits = (under, (place, place-fits p.row.kind keys (byte_in c p.row) place e, refl));
            filled = tt;
          },
          refl,
          refl,
        )

    indexed : (j : Bool) (p : Position) (index entry : ℕ) → p.row.kind ≡ FortyEight → entry - 1 < 48
        → Each (IsKept l P) (kept_at_place l i p) → FitsPlace p
        → IsAt (held_at_place l i p) (if entry == 0 then (if j then FindCount p index else checked_at l i e c p
        (Lacks (keys_one index))) else Slot p
        (child_at FortyEight p.row.base (entry - 1)))
    indexed j p index entry is less kept under = go (entry == 0) j
      where
        slot : IsSlot p.row.base p.row.kind (child_at FortyEight p.row.base (entry - 1))
        slot = subst (λ k. IsSlot p.row.base k (child_at FortyEight p.row.base (entry - 1))) (sym is) (entry - 1, less, refl)

        go : (b j : Bool) → IsAt (held_at_place l i p) (if b then (if j then FindCount p index else checked_at l i e c p
            (Lacks (keys_one index))) else Slot p
            (child_at FortyEight p.row.base (entry - 1)))
        go true true = (record { kept = kept; known = tt; fits = under; filled = tt }, refl, refl)
        go true false = checked p (Lacks (keys_one index)) kept under tt tt
        go false j = (record { kept = kept; known = tt; fits = (under, slot); filled = tt }, refl, refl)

    abbrev place : ℕ → Kind → ℕ → ℕ → Option HeldRow → ℕ → Position
    place base kind info was above slot = record { row = held base kind info was; above = above; slot = slot }

    -- the first word of FIND; a child that was loaded is one of P
    pub finds : (base : ℕ) (kind : Kind) (info was : ℕ) (above : Option HeldRow) (slot w : ℕ)
        → Each (IsKept l P) (kept_at_place l i (place base kind info was above slot)) → IsUnder above (held base kind info was) slot
        → (IsSlot base Full (child_at Full base (byte_in c (held base kind info was))) → kind ≡ Full
        → Each (IsNamed P) (child_rows (child_of s w)))
        → IsAt (held_at_place l i (place base kind info was above slot)) (find_at l i e kind c (place base kind info was above slot) w)
    finds base Four info was above slot w kept under good = among (place base Four info was above slot) (keys_one w) kept under
    finds base Sixteen info was above slot w kept under good = (record { kept = kept; known = tt; fits = under; filled = tt }, refl, refl)
    finds base FortyEight info was above slot w kept under good =
        indexed (is_insert call) (place base FortyEight info was above slot) w _ refl (entry-fits w _) kept under
    finds base Full info was above slot w kept under good =
        let at : IsSlot base Full (child_at Full base (byte_in c (held base Full info was))) =
        (byte_in c (held base Full info was), key_byte-small (key_of call) (row_at (held base Full info was)).level, refl) in
        checked (place base Full info was above slot) (Has (child_at Full base (byte_in c (held base Full info was))) (child_of s w)) kept
        under at (good at refl)
