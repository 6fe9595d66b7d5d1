-- What a call on a key of the optimistic tree knows after FIND, WAIT and TAKE, and what it does
-- there.
use Rattle.art_schedules.proofs.Common.{false≢true, Reads, Takes, held, ◌≡◌, ℕ, ◌%◌, List, [], ◌∷◌, refl, sym, subst, Bool, true, false, inl}
use Rattle.art_schedules.proofs.Common.{eq-eqb, ne_eqb, ◌==◌, if◌then◌else◌, None, Option, Some, slice_index, Leads, AccessDoes, Empty, ChildRow}
use Rattle.art_schedules.proofs.Common.{Leaf, Between, Check, CheckLast, Take, Info, Over, Wait, Call, Down, Each, FitsPlace, FitsWork, IsFound}
use Rattle.art_schedules.proofs.Common.{IsKept, IsNamed, IsSlot, IsUnder, KnowsKey, OfRows, rows_found, rows_of_work, Finding, FortyEight, Four}
use Rattle.art_schedules.proofs.Common.{Full, Sixteen, HeldRow, Kind, Lacks, OnKey, Optimistic, Position, Setting, is_insert, key_of}
use Rattle.art_schedules.proofs.Common.{path_differs_at, Shape, Stage, Taken, Root, Target, Work, below_at, checked_at, entered_at, found_at}
use Rattle.art_schedules.proofs.Common.{no_value, release_at, seek_unlocked, start_at, all_of, lock_of, locks_of, capacity, kind_at, root_base}
use Rattle.art_schedules.proofs.Common.{child_word, is_locked, is_obsolete, key_bytes, count_in, row_at, setting, keys_differ_at, new_leaf}
use Rattle.art_schedules.proofs.Common.{overwriting, not_full}
use Rattle.art_control_states.specs.declared.stage.Keys.{Keys}
use Rattle.art_schedules.proofs.versions.WordFacts.{count-most, free-version, child-good, new-leaf-rows, overwriting-good}
use Rattle.std.specs.Prelude.{nat_le}
use Rattle.art_schedules.specs.versions.Holding.{FitsTaking}
use Rattle.art_schedules.proofs.versions.AfterLemmas.{IsAt, at-end, at-start, released, works}
use Rattle.art_control_states.specs.declared.stage.Finding.TheVariants.{Has}
use Rattle.art_schedules.proofs.versions.KeyLemmas.{Own, each-split}
use Rattle.art_control_states.specs.declared.stage.Target.TheVariants.{Below}
use Rattle.art_control_states.specs.Automaton.{after_with, grow_unlocked, insert_unlocked, overwrite_unlocked, take_alone, taken_at}
use Rattle.art_control_states.specs.declared.stage.Work.TheVariants as work

module _ (s : Shape) (call : Call) (P : OfRows) (is_row : (b : ℕ) (k : Kind) → P b k → kind_at s b ≡ Some k)
    (root : P (root_base s) Full) where
  abbrev c : Setting
  c = setting s Optimistic call

  abbrev i : Bool
  i = is_insert call

  abbrev Here : List HeldRow → Stage → Type 0
  Here rows stage = IsAt Optimistic s call P is_row root rows stage

  abbrev Doing : Stage → Type 0
  Doing stage = AccessDoes P c (OnKey stage)

  starts : Here [] (Wait Root)
  starts = at-start Optimistic s call P is_row root

  ends : (o : _) → Here [] (Over o)
  ends o = at-end Optimistic s call P is_row root o

  -- what is done with what FIND saw

  takes-alone : (n : HeldRow) (work : Work) → IsKept false P n → Each (IsNamed P) (rows_of_work s work) → FitsWork n None work
      → Here [] (take_alone c n work)
  takes-alone n work kept known fits = (record { kept = (kept, tt); known = known; fits = (tt, fits); filled = tt }, refl, refl)

  overwrites : (n : HeldRow) (slot value : ℕ) (o : Option ℕ) → overwriting call value ≡ o → IsKept false P n → IsSlot n.base n.kind slot
      → Here [] (overwrite_unlocked c n slot value o)
  overwrites n slot value None e kept fits = ends _
  overwrites n slot value (Some word) e kept fits =
      takes-alone n (work.Write slot word (Some value)) kept (overwriting-good s P call value word e) fits

  seeks : (n : HeldRow) (f : Finding) → IsKept false P n → IsFound n f → Each (IsNamed P) (rows_found f) → Here [] (seek_unlocked c n f)
  seeks n (Lacks keys) kept fits known = ends _
  seeks n (Has slot Empty) kept fits known = ends _
  seeks n (Has slot (Leaf key value)) kept fits known = go (key == key_of call)
    where
      go : (b : Bool) → Here [] (if b then overwrite_unlocked c n slot value (overwriting call value) else Over no_value)
      go true = overwrites n slot value (overwriting call value) refl kept fits
      go false = ends _
  seeks n (Has slot (ChildRow base kind)) kept fits known =
      (record { kept = (kept, tt); known = known; fits = (tt, fits); filled = tt }, refl, refl)

  grows : (base : ℕ) (kind : Kind) (info was : ℕ) (above : Option HeldRow) (slot : ℕ) (keys : Keys)
      → Each (IsKept false P) (held base kind info was ∷ all_of above)
      → IsUnder above (held base kind info was) slot → (count_in kind keys == capacity kind) ≡ true
      → Here [] (grow_unlocked c (held base kind info was) above slot keys)
  grows base Four info was None slot keys kept under full = absurd (differ under)
    where
      differ : Four ≡ Full → ⊥
      differ e = cc
  grows base Sixteen info was None slot keys kept under full = absurd (differ under)
    where
      differ : Sixteen ≡ Full → ⊥
      differ e = cc
  grows base FortyEight info was None slot keys kept under full = absurd (differ under)
    where
      differ : FortyEight ≡ Full → ⊥
      differ e = cc
  grows base Full info was None slot keys kept under full = absurd (false≢true full)
  grows base kind info was (Some a) slot keys kept under full =
      (record { kept = (kept.1.0, (kept.0, tt)); known = tt; fits = (tt, under); filled = tt }, refl, refl)

  inserts : (p : Position) (f : Finding) → Each (IsKept false P) (p.row ∷ all_of p.above) → FitsPlace p → IsFound p.row f
      → Each (IsNamed P) (rows_found f)
      → Here [] (insert_unlocked c p f)
  inserts p (Lacks keys) kept under fits known = go (count_in p.row.kind keys == capacity p.row.kind) refl
    where
      go : (b : Bool) → (count_in p.row.kind keys == capacity p.row.kind) ≡ b
          → Here [] (if b then grow_unlocked c p.row p.above p.slot keys else take_alone c p.row (work.Put keys))
      go true e = grows p.row.base p.row.kind p.row.info p.row.kept p.above p.slot keys kept under e
      go false e = takes-alone p.row (work.Put keys) kept.0 tt (not_full _ _ e (count-most p.row.kind keys))
  inserts p (Has slot Empty) kept under fits known =
      takes-alone p.row (work.Write slot (child_word (new_leaf call)) None) kept.0
      (child-good s P is_row (new_leaf call) (new-leaf-rows s P call)) fits
  inserts p (Has slot (Leaf key value)) kept under fits known =
      go (key == key_of call) (nat_le (keys_differ_at key (key_of call)) (row_at p.row).level)
    where
      go : (b d : Bool) → Here [] (if b then take_alone c p.row (work.Write slot (child_word (new_leaf call)) (Some value))
          else if d then Wait Root else take_alone c p.row (work.Pair (record {
            slot = slot;
            level = keys_differ_at key (key_of call);
            byte = slice_index (key_bytes key) (keys_differ_at key (key_of call));
            child = Leaf key value;
          })))
      go true d = takes-alone p.row (work.Write slot (child_word (new_leaf call)) (Some value)) kept.0
          (child-good s P is_row (new_leaf call) (new-leaf-rows s P call)) fits
      go false true = starts
      go false false = takes-alone p.row _ kept.0 tt fits
  inserts p (Has slot (ChildRow base kind)) kept under fits known =
      (record { kept = (kept.0, tt); known = known; fits = (tt, fits); filled = tt }, refl, refl)

  found : (i : Bool) (p : Position) (f : Finding) → Each (IsKept false P) (p.row ∷ all_of p.above) → FitsPlace p → IsFound p.row f
      → Each (IsNamed P) (rows_found f)
      → Here [] (found_at false i false c p f)
  found false p f kept under fits known = seeks p.row f kept.0 fits known
  found true p f kept under fits known = inserts p f kept under fits known

  checked : (p : Position) (f : Finding) → Each (IsKept false P) (p.row ∷ all_of p.above) → FitsPlace p → IsFound p.row f
      → Each (IsNamed P) (rows_found f)
      → Here [] (checked_at false i false c p f)
  checked p f kept under fits known = (record { kept = kept; known = known; fits = (under, fits); filled = tt }, refl, refl)

  -- WAIT

  entered : (i : Bool) (t : Target) (v : ℕ) → v % 4 ≡ 0 → KnowsKey P c (Wait t) → Here [] (entered_at false i false c t v)
  entered i Root v free k = (record { kept = ((free, root), tt); known = tt; fits = refl; filled = tt }, refl, refl)
  entered i (Below d) v free k = (
    record {
      kept = ((free, k.known.0), (k.kept.0, tt));
      known = tt;
      fits = k.fits.1;
      filled = tt;
    },
    refl,
    refl,
  )
  entered i (Taken t) v free k = absurd k.fits.1

  waited : (i : Bool) (t : Target) (w : ℕ) → KnowsKey P c (Wait t) → Here [] (after_with false i false c (Wait t) w)
  waited i t w k = go (is_locked w) (is_obsolete w) refl refl
    where
      go : (b d : Bool) → is_locked w ≡ b → is_obsolete w ≡ d
          → Here [] (if b then Wait t else if d then start_at false else entered_at false i false c t w)
      go true d e f = (k, refl, refl)
      go false true e f = starts
      go false false e f = entered i t w (free-version w e f) k

  below : (i : Bool) (d : Down) (m : HeldRow) (o : Option ℕ) → IsKept false P m → IsKept false P d.above
      → IsSlot d.above.base d.above.kind d.slot
      → Here [] (below_at false i c d m o)
  below i d m None km ka fits = (record { kept = (km, (ka, tt)); known = tt; fits = fits; filled = tt }, refl, refl)
  below false d m (Some x) km ka fits = (record { kept = (km, tt); known = tt; fits = tt; filled = tt }, refl, refl)
  below true d m (Some x) km ka fits = go (nat_le x (row_at d.above).level)
    where
      go : (b : Bool) → Here [] (if b then Wait Root else take_alone c d.above (work.Pair (record {
        slot = d.slot;
        level = x;
        byte = slice_index (row_at m).path x;
        child = ChildRow m.base m.kind;
      })))
      go true = starts
      go false = takes-alone d.above _ ka (km.1, tt) fits

  -- TAKE

  taken : (n : HeldRow) (above below : Option HeldRow) (work : Work) → Each (IsKept false P) (n ∷ all_of above)
      → Each (IsKept false P) (all_of below)
      → Each (IsNamed P) (rows_of_work s work) → FitsTaking n above below work → Here (n ∷ all_of above) (taken_at c above below work n)
  taken n above None work kept others known fits =
      works Optimistic s call P is_row root (record { row = n; above = above }) work kept known fits
  taken n None (Some m) work kept others known fits =
      (record { kept = (others.0, (kept.0, tt)); known = known; fits = (tt, fits); filled = tt }, refl, refl)
  taken n (Some a) (Some m) work kept others known fits = absurd fits

  take-does : (n : HeldRow) (above below : Option HeldRow) (work : _)
      → KnowsKey P c (Take (record { row = n; held = above; below = below; work = work }))
      → Doing (Take (record { row = n; held = above; below = below; work = work }))
  take-does n above below work k =
      let parts = each-split (IsKept false P) (all_of above) (all_of below) k.kept.1 in
      Takes (lock_of n) (lock_of n ∷ locks_of (all_of above)) _ refl (inl (refl, refl)) refl k.kept.0
      (λ apart. subst (λ b. Leads P c (OnKey (if b then taken_at c above below work n else release_at false above None))
      (lock_of n ∷ locks_of (all_of above)) [])
      (sym (eq-eqb n.kept n.kept refl)) (taken n above below work (k.kept.0, parts.0) parts.1 k.known k.fits.1))
      (λ value other. subst (λ b. Leads P c (OnKey (if b then taken_at c above below work n else release_at false above None))
      (locks_of (all_of above)) [])
      (sym (ne_eqb value n.kept other)) (released Optimistic s call P is_row root above None parts.0))

  between-does : (d : Down) (kept : ℕ) → KnowsKey P c (Between d kept) → Doing (Between d kept)
  between-does d kept k = Reads _ _ refl (λ value good. go (value == d.above.kept))
    where
      go : (b : Bool) → Leads P c (OnKey (if b then Info d kept else Wait Root)) [] []
      go true = (record { kept = k.kept; known = tt; fits = k.fits; filled = tt }, refl, refl)
      go false = starts

  check-does : (p : Position) (f : Finding) → KnowsKey P c (Check p f) → Doing (Check p f)
  check-does p f k = Reads _ _ refl (λ value good. go (value == p.row.kept))
    where
      go : (b : Bool) → Leads P c (OnKey (if b then found_at false i false c p f else start_at false)) [] []
      go true = found i p f k.kept k.fits.0 k.fits.1 k.known
      go false = starts

  last-does : (n : HeldRow) → KnowsKey P c (CheckLast n) → Doing (CheckLast n)
  last-does n k = Reads _ _ refl (λ value good. go (value == n.kept))
    where
      go : (b : Bool) → Leads P c (OnKey (if b then Over no_value else start_at false)) [] []
      go true = ends no_value
      go false = starts

  pub optimistic-own : Own Optimistic s call P is_row root
  optimistic-own = record {
    lock = λ t first k. absurd k.fits.0;
    exchange = λ t v k. absurd k.fits.0;
    wait = λ t k. Reads _ _ refl (λ value good. waited i t value k);
    between = between-does;
    info = λ d kept k. Reads _ _ refl (λ value good.
        below i d (held d.base d.kind value kept) (path_differs_at c (row_at (held d.base d.kind value kept))) k.kept.0 k.kept.1.0 k.fits);
    check = check-does;
    check_last = last-does;
    let_go = λ above p f k. absurd k.fits;
    take = λ t k. take-does t.row t.held t.below t.work k;
    checked = checked;
  }
