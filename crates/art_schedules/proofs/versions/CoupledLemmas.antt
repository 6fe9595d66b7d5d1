-- What a call on a key of the coupled tree knows after FIND and LOCK, and what it does there.
use Rattle.art_schedules.proofs.Common.{false≢true, ◌∙◌, Reads, Releases, Takes, held, ◌≡◌, ℕ, List, [], ◌∷◌, refl, sym, subst, Bool, true, false}
use Rattle.art_schedules.proofs.Common.{inl, inr, ap, eq-eqb, ne_eqb, ◌==◌, if◌then◌else◌, None, Option, Some, slice_index, Leads, AccessDoes}
use Rattle.art_schedules.proofs.Common.{Empty, ChildRow, Leaf, Asks, Root, Taken, Between, ClaimGrow, ClaimPair, Info, LetGo, Unlock, Write, Call}
use Rattle.art_schedules.proofs.Common.{Coupled, Down, Each, FitsPlace, IsFound, IsKept, IsNamed, IsSlot, IsUnder, IsVersion, KnowsKey, OfRows}
use Rattle.art_schedules.proofs.Common.{kept_at_place, kept_below, row_filled, rows_found, KnowsRows, Finding, FortyEight, Four, Full, Sixteen}
use Rattle.art_schedules.proofs.Common.{Lacks, HeldRow, Kind, OnKey, Outcome, Position, Setting, is_insert, key_of, path_differs_at, Shape, Stage}
use Rattle.art_schedules.proofs.Common.{Target, all_of, held_at_place, held_below, lock_of, locks_of, held_at_stage, below_at, entered_at}
use Rattle.art_schedules.proofs.Common.{found_at, no_value, work_at, capacity, kind_at, root_base, child_word, is_locked, key_bytes, locked_word}
use Rattle.art_schedules.proofs.Common.{count_in, row_at, setting, keys_differ_at, new_leaf, overwriting, not_full}
use Rattle.art_control_states.specs.Stages.{target_base}
use Rattle.art_control_states.specs.declared.stage.Keys.{Keys}
use Rattle.art_schedules.proofs.versions.WordFacts.{full-not-less, count-most, child-good, new-leaf-rows, overwriting-good}
use Rattle.art_rows.specs.declared.access.Access.TheVariants.{Exchange as Swap}
use Rattle.art_control_states.specs.declared.stage.Target.TheVariants.{Below}
use Rattle.art_control_states.specs.declared.stage.Stage.TheVariants.{Exchange, Lock}
use Rattle.art_schedules.specs.versions.Holding.{FitsDown, FitsTarget, HasRoom, rows_of_wait}
use Rattle.art_control_states.specs.declared.stage.Finding.TheVariants.{Has}
use Rattle.art_schedules.proofs.versions.KeyLemmas.{Own}
use Rattle.art_schedules.specs.versions.Locking.{rows_of_target}
use Rattle.art_control_states.specs.Automaton.{down_from, hold_alone, insert_coupled, let_go_at, overwrite_at, place_coupled, seek_coupled}
use Rattle.art_schedules.proofs.versions.AfterLemmas.{works}
use Rattle.art_control_states.specs.declared.stage.Work.TheVariants as work

module _ (s : Shape) (call : Call) (P : OfRows) (is_row : (b : ℕ) (k : Kind) → P b k → kind_at s b ≡ Some k)
    (root : P (root_base s) Full) where
  abbrev c : Setting
  c = setting s Coupled call

  -- where the call is an insert, and where it is none
  abbrev At : Bool → List HeldRow → Stage → Type 0
  At i rows stage = KnowsRows P true i c stage × (locks_of (held_at_stage true i stage) ≡ locks_of rows) × (row_filled stage ≡ [])

  abbrev Doing : Stage → Type 0
  Doing stage = AccessDoes P c (OnKey stage)

  abbrev Keeps : HeldRow → Type 0
  Keeps h = IsKept true P h

  -- a get or remove after FIND

  unlocks : (i : Bool) (n : HeldRow) (o : Option Outcome) → Keeps n → At i (n ∷ []) (Unlock (hold_alone n) o)
  unlocks i n o kept = (record { kept = (kept, tt); known = tt; fits = tt; filled = tt }, refl, refl)

  goes-down : (i : Bool) (n : HeldRow) (slot base : ℕ) (kind : Kind) → Keeps n → IsSlot n.base n.kind slot → P base kind
      → At i (n ∷ []) (Lock (Below (down_from n slot base kind)) true)
  goes-down i n slot base kind kept fits known =
      (record { kept = (kept, tt); known = (known, tt); fits = (tt, fits); filled = tt }, refl, refl)

  overwrites : (n : HeldRow) (slot value : ℕ) (o : Option ℕ) → overwriting call value ≡ o → Keeps n → IsSlot n.base n.kind slot
      → At false (n ∷ []) (overwrite_at n slot value o)
  overwrites n slot value None e kept fits = unlocks false n _ kept
  overwrites n slot value (Some word) e kept fits =
      (record { kept = (kept, tt); known = overwriting-good s P call value word e; fits = inl fits; filled = tt }, refl, refl)

  seeks : (n : HeldRow) (f : Finding) → Keeps n → IsFound n f → Each (IsNamed P) (rows_found f) → At false (n ∷ []) (seek_coupled false c n f)
  seeks n (Lacks keys) kept fits known = unlocks false n _ kept
  seeks n (Has slot Empty) kept fits known = unlocks false n _ kept
  seeks n (Has slot (Leaf key value)) kept fits known = go (key == key_of call)
    where
      go : (b : Bool) → At false (n ∷ []) (if b then overwrite_at n slot value (overwriting call value) else Unlock
          (hold_alone n) (Some no_value))
      go true = overwrites n slot value (overwriting call value) refl kept fits
      go false = unlocks false n _ kept
  seeks n (Has slot (ChildRow base kind)) kept fits known = goes-down false n slot base kind kept fits known.0

  -- an insert after FIND, where it holds this row alone, which has room,

  writes : (n : HeldRow) (slot : ℕ) (o : Option ℕ) → Keeps n → IsSlot n.base n.kind slot
      → At true (n ∷ []) (Write (hold_alone n) slot (child_word (new_leaf call)) o)
  writes n slot o kept fits = (
    record { kept = (kept, tt); known = child-good s P is_row (new_leaf call) (new-leaf-rows s P call); fits = inl fits; filled = tt },
    refl,
    refl,
  )

  alone : is_insert call ≡ true → (n : HeldRow) (f : Finding) → Keeps n → IsFound n f → HasRoom n f → Each (IsNamed P) (rows_found f)
      → At true (n ∷ []) (insert_coupled c n f)
  alone ins n (Lacks keys) kept fits room known =
      subst (λ i. At i (n ∷ []) (work_at c (hold_alone n) (work.Put keys))) ins
      (works Coupled s call P is_row root (hold_alone n) (work.Put keys) (kept, tt) tt room)
  alone ins n (Has slot Empty) kept fits room known = writes n slot None kept fits
  alone ins n (Has slot (Leaf key value)) kept fits room known = go (key == key_of call)
    where
      go : (b : Bool) → At true (n ∷ []) (if b then Write (hold_alone n) slot (child_word (new_leaf call)) (Some value) else ClaimPair
          (hold_alone n) (record {
            slot = slot;
            level = keys_differ_at key (key_of call);
            byte = slice_index (key_bytes key) (keys_differ_at key (key_of call));
            child = Leaf key value;
          }))
      go true = writes n slot (Some value) kept fits
      go false = (record { kept = (kept, tt); known = tt; fits = inl fits; filled = tt }, refl, refl)
  alone ins n (Has slot (ChildRow base kind)) kept fits room known = goes-down true n slot base kind kept fits known.0

  -- an insert after FIND that may hold the row above too

  lets-go : is_insert call ≡ true → (n : HeldRow) (above : Option HeldRow) (slot : ℕ) (f : Finding) → Each Keeps (n ∷ all_of above)
      → IsFound n f → HasRoom n f
      → Each (IsNamed P) (rows_found f) → At true (n ∷ all_of above) (let_go_at c n above slot f)
  lets-go ins n None slot f kept fits room known = alone ins n f kept.0 fits room known
  lets-go ins n (Some a) slot f kept fits room known =
      (record { kept = kept; known = known; fits = (refl, fits, room); filled = tt }, refl, refl)

  grows : (base : ℕ) (kind : Kind) (info was : ℕ) (above : Option HeldRow) (slot : ℕ) (keys : Keys)
      → Each Keeps (held base kind info was ∷ all_of above)
      → IsUnder above (held base kind info was) slot → (count_in kind keys == capacity kind) ≡ true
      → At true (held base kind info was ∷ all_of above) (ClaimGrow (record { row = held base kind info was; above = above }) slot keys)
  grows base Four info was None slot keys kept under full = absurd (differ under)
    where
      differ : Four ≡ Full → ⊥
      differ e = cc
  grows base Sixteen info was None slot keys kept under full = absurd (differ under)
    where
      differ : Sixteen ≡ Full → ⊥
      differ e = cc
  grows base FortyEight info was None slot keys kept under full = absurd (differ under)
    where
      differ : FortyEight ≡ Full → ⊥
      differ e = cc
  grows base Full info was None slot keys kept under full = absurd (false≢true full)
  grows base kind info was (Some a) slot keys kept under full = (record { kept = kept; known = tt; fits = under; filled = tt }, refl, refl)

  inserts : is_insert call ≡ true → (p : Position) (f : Finding) → Each Keeps (p.row ∷ all_of p.above) → FitsPlace p → IsFound p.row f
      → Each (IsNamed P) (rows_found f)
      → At true (p.row ∷ all_of p.above) (place_coupled c p f)
  inserts ins p (Has slot child) kept under fits known = lets-go ins p.row p.above p.slot (Has slot child) kept fits tt known
  inserts ins p (Lacks keys) kept under fits known = go (count_in p.row.kind keys == capacity p.row.kind) refl
    where
      go : (b : Bool) → (count_in p.row.kind keys == capacity p.row.kind) ≡ b → At true (p.row ∷ all_of p.above)
          (if b then ClaimGrow (record { row = p.row; above = p.above }) p.slot keys else let_go_at c p.row p.above p.slot (Lacks keys))
      go true e = grows p.row.base p.row.kind p.row.info p.row.kept p.above p.slot keys kept under e
      go false e = lets-go ins p.row p.above p.slot (Lacks keys) kept tt (not_full _ _ e (count-most p.row.kind keys)) tt

  found : (i : Bool) → is_insert call ≡ i → (p : Position) (f : Finding) → Each Keeps (kept_at_place true i p) → FitsPlace p
      → IsFound p.row f → Each (IsNamed P) (rows_found f)
      → At i (held_at_place true i p) (found_at true i false c p f)
  found false e p f kept under fits known = seeks p.row f kept.0 fits known
  found true e p f kept under fits known = inserts e p f kept under fits known

  -- once the row above is unlocked
  still-room : is_insert call ≡ true → (p : Position) (f : Finding) → p.above ≡ None → Keeps p.row → IsFound p.row f → HasRoom p.row f
      → Each (IsNamed P) (rows_found f)
      → At true (p.row ∷ []) (place_coupled c p f)
  still-room ins p (Has slot child) none kept fits room known =
      subst (λ o. At true (p.row ∷ []) (let_go_at c p.row o p.slot (Has slot child))) (sym none)
      (alone ins p.row (Has slot child) kept fits room known)
  still-room ins p (Lacks keys) none kept fits room known = go (count_in p.row.kind keys == capacity p.row.kind) refl
    where
      go : (b : Bool) → (count_in p.row.kind keys == capacity p.row.kind) ≡ b → At true (p.row ∷ [])
          (if b then ClaimGrow (record { row = p.row; above = p.above }) p.slot keys else let_go_at c p.row p.above p.slot (Lacks keys))
      go true e = absurd (full-not-less _ _ e room)
      go false e = subst (λ o. At true (p.row ∷ []) (let_go_at c p.row o p.slot (Lacks keys))) (sym none) (alone ins p.row (Lacks keys)
          kept fits room known)

  -- LOCK

  entered : (i : Bool) (t : Target) (v : ℕ) → IsVersion true v → Each Keeps (rows_of_target t)
      → Each (IsNamed P) (rows_of_wait t) → FitsTarget t
      → (n : HeldRow) × (n.base ≡ target_base c t) × (n.kept ≡ v) × (lock_of n ≡ n) × Keeps n
      × KnowsRows P true i c (entered_at true i false c t v)
      × (locks_of (held_at_stage true i (entered_at true i false c t v)) ≡ n ∷ locks_of (rows_of_target t))
      × (row_filled (entered_at true i false c t v) ≡ [])
  entered true Root v free kept known fits = (
    held (root_base s) Full 0 v,
    refl,
    refl,
    refl,
    (free, root),
    record { kept = ((free, root), tt); known = tt; fits = refl; filled = tt },
    refl,
    refl,
  )
  entered false Root v free kept known fits = (
    held (root_base s) Full 0 v,
    refl,
    refl,
    refl,
    (free, root),
    record { kept = ((free, root), tt); known = tt; fits = refl; filled = tt },
    refl,
    refl,
  )
  entered true (Below d) v free kept known fits = (
    held d.base d.kind 0 v,
    refl,
    refl,
    refl,
    (free, known.0),
    record { kept = ((free, known.0), kept); known = tt; fits = fits; filled = tt },
    refl,
    refl,
  )
  entered false (Below d) v free kept known fits = (
    held d.base d.kind 0 v,
    refl,
    refl,
    refl,
    (free, known.0),
    record { kept = ((free, known.0), kept); known = tt; fits = fits; filled = tt },
    refl,
    refl,
  )
  entered i (Taken t) v free kept known fits = absurd fits

  abbrev i : Bool
  i = is_insert call

  lock-does : (t : Target) (first : Bool) → KnowsKey P c (Lock t first) → Doing (Lock t first)
  lock-does t first k = go first
    where
      after : (w : ℕ) (b : Bool) → is_locked w ≡ b → At i (rows_of_target t) (if b then Lock t false else Exchange t w)
      after w true e = (record { kept = k.kept; known = k.known; fits = k.fits; filled = tt }, refl, refl)
      after w false e = (record { kept = k.kept; known = k.known; fits = (k.fits.0, k.fits.1, e); filled = tt }, refl, refl)

      go : (first : Bool) → Doing (Lock t first)
      go true = Reads _ _ refl (λ value good. after value (is_locked value) refl)
      go false = Reads _ _ refl (λ value good. after value (is_locked value) refl)

  exchange-does : (t : Target) (v : ℕ) → KnowsKey P c (Exchange t v) → Doing (Exchange t v)
  exchange-does t v k =
      let x = entered i t v k.fits.2 k.kept k.known k.fits.1 in
      Takes x.0 (x.0 ∷ locks_of (rows_of_target t)) _ (turn x.0 x.1 x.2) (inl (refl, refl)) refl x.4
      (λ apart. subst (λ w. Leads P c (OnKey (if w == v then entered_at true i false c t v else Lock t false))
      (x.0 ∷ locks_of (rows_of_target t)) [])
      (sym x.2) (subst (λ b. Leads P c (OnKey (if b then entered_at true i false c t v else Lock t false))
      (x.0 ∷ locks_of (rows_of_target t)) [])
      (sym (eq-eqb v v refl)) (x.5, x.6, x.7)))
      (λ value other. subst (λ b. Leads P c (OnKey (if b then entered_at true i false c t v else Lock t false))
      (locks_of (rows_of_target t)) [])
      (sym (ne_eqb value v (λ same. other (same ∙ sym x.2)))) again)
    where
      again : At i (rows_of_target t) (Lock t false)
      again = (record { kept = k.kept; known = k.known; fits = (k.fits.0, k.fits.1); filled = tt }, refl, refl)

      turn : (n : HeldRow) → n.base ≡ target_base c t → n.kept ≡ v
          → Asks (Swap (target_base c t) v (locked_word v)) None ≡ Asks (Swap n.base n.kept (locked_word n.kept)) None
      turn n base kept = ap (λ b. Asks (Swap b v (locked_word v)) None) (sym base)
          ∙ ap (λ w. Asks (Swap n.base w (locked_word w)) None) (sym kept)

  between-does : (i : Bool) → is_insert call ≡ i → (d : Down) (kept : ℕ) → KnowsRows P true i c (Between d kept) → Doing (Between d kept)
  between-does true e d kept k = absurd k.fits
  between-does false e d kept k = Releases (lock_of d.above) (held d.base d.kind 0 kept ∷ []) _ _ refl
      (inr ([], refl, inl (refl, refl))) refl (inl refl) k.kept.1.0 (
        subst (λ i. KnowsRows P true i c (Info d kept)) (sym e) (record { kept = (k.kept.0, tt); known = tt; fits = k.fits; filled = tt }),
        subst (λ i. locks_of (held_below true i d kept) ≡ held d.base d.kind 0 kept ∷ []) (sym e) refl,
        refl,
      )

  below : (i : Bool) (d : Down) (info kept : ℕ) (o : Option ℕ) → Each Keeps (kept_below true i d kept) → FitsDown d
      → At i (held_below true i d kept) (below_at true i c d (held d.base d.kind info kept) o)
  below true d info kept None k fits = (record { kept = k; known = tt; fits = fits; filled = tt }, refl, refl)
  below false d info kept None k fits = (record { kept = k; known = tt; fits = fits; filled = tt }, refl, refl)
  below true d info kept (Some x) k fits = (record { kept = k; known = (k.0.1, tt); fits = inr fits; filled = tt }, refl, refl)
  below false d info kept (Some x) k fits = (record { kept = k; known = tt; fits = tt; filled = tt }, refl, refl)

  let-go-does : (i : Bool) → is_insert call ≡ i → (above : HeldRow) (p : Position) (f : Finding) → KnowsRows P true i c (LetGo above p f)
      → Doing (LetGo above p f)
  let-go-does false e above p f k = absurd k.fits
  let-go-does true e above p f k = Releases (lock_of above) (lock_of p.row ∷ []) _ _ refl
      (inr ([], refl, inl (refl, refl))) refl (inl refl) k.kept.1.0
      (subst (λ i. At i (p.row ∷ []) (found_at true i false c p f)) (sym e) (still-room e p f k.fits.0 k.kept.0 k.fits.1 k.fits.2 k.known))

  pub coupled-own : Own Coupled s call P is_row root
  coupled-own = record {
    lock = lock-does;
    exchange = exchange-does;
    wait = λ t k. absurd k.fits.0;
    between = between-does i refl;
    info = λ d kept k. Reads _ _ refl (λ value good.
        below i d value kept (path_differs_at c (row_at (held d.base d.kind value kept))) k.kept k.fits);
    check = λ p f k. absurd k.fits;
    check_last = λ n k. absurd k.fits;
    let_go = let-go-does i refl;
    take = λ t k. absurd k.fits.0;
    checked = found i refl;
  }
