-- The stages of work, by their rows.
use Rattle.art_schedules.proofs.Common.{◌≡◌, ℕ, zero, suc, ◌+◌, Bool, true, false, [], refl, ap, subst, ◌∙◌, inl, inr, ◌==◌, if◌then◌else◌}
use Rattle.art_schedules.proofs.Common.{slice_index, Option, Some, None, false≢true, Kind, Four, Sixteen, FortyEight, Full, entries_of, Setting}
use Rattle.art_schedules.proofs.Common.{locks, HeldRow, Keys, Spread, count_in, stage_after, moves_at, put_keys_after, release_at, no_value}
use Rattle.art_schedules.proofs.Common.{copies_at, spreads_at, fill_at, leaf_after, keys_at_after, entries_at, same_Some, none-some, Hold}
use Rattle.art_schedules.proofs.Common.{Growing, Stage, Lock, Exchange, Wait, Leave, Between, Info, Find, FindKeys, FindMore, FindCount, Slot}
use Rattle.art_schedules.proofs.Common.{Check, CheckLast, LetGo, Take, Write, ClaimPair, StorePair, PutLoad, PutStore, PutLeaf, PutKeys, PutMore}
use Rattle.art_schedules.proofs.Common.{PutCount, ClaimGrow, GrowInfo, GrowLoad, GrowStore, SpreadIndex, SpreadLoad, SpreadStore, GrowLeaf}
use Rattle.art_schedules.proofs.Common.{GrowKeys, GrowCount, Hang, Obsolete, Unlock, Over, OnKey, fills, hold_at, growing_at, writes_at}
use Rattle.std.specs.Prelude.{◌⊎◌}
use Rattle.art_schedules.specs.versions.Holding.{row_grown}
use Rattle.art_schedules.proofs.work.WorkLemmas.{AtWork, writes, pairs, put_loads, put_stores, put_leaf, put_keys, put_more, put_count}
use Rattle.art_schedules.proofs.work.WorkLemmas.{grow_info, grow_loads, grow_stores, spread_index, spread_loads, spread_stores, grow_leaf}
use Rattle.art_schedules.proofs.work.WorkLemmas.{grow_keys, grow_count, hangs}

-- a stage after the claim and before the first release
pub place-work : (stage : Stage) (hold : Hold) → hold_at stage ≡ Some hold → (b : Bool) × AtWork hold b stage
place-work (Lock t first) hold e = absurd (none-some hold e)
place-work (Exchange t v) hold e = absurd (none-some hold e)
place-work (Wait t) hold e = absurd (none-some hold e)
place-work (Leave d) hold e = absurd (none-some hold e)
place-work (Between d kept) hold e = absurd (none-some hold e)
place-work (Info d kept) hold e = absurd (none-some hold e)
place-work (Find p) hold e = absurd (none-some hold e)
place-work (FindKeys p count) hold e = absurd (none-some hold e)
place-work (FindMore p count first) hold e = absurd (none-some hold e)
place-work (FindCount p index) hold e = absurd (none-some hold e)
place-work (Slot p slot) hold e = absurd (none-some hold e)
place-work (Check p f) hold e = absurd (none-some hold e)
place-work (CheckLast n) hold e = absurd (none-some hold e)
place-work (LetGo above p f) hold e = absurd (none-some hold e)
place-work (Take t) hold e = absurd (none-some hold e)
place-work (Write h slot word reply) hold e = subst (λ x. (b : Bool)
    × AtWork x b (Write h slot word reply)) (same_Some h hold e) (false, writes slot word reply)
place-work (ClaimPair h p) hold e = absurd (none-some hold e)
place-work (StorePair h p base word) hold e = subst (λ x. (b : Bool) × AtWork x b (StorePair h p base word)) (same_Some h hold e)
    (false, pairs p base word)
place-work (PutLoad h keys left) hold e = subst (λ x. (b : Bool) × AtWork x b (PutLoad h keys left)) (same_Some h hold e)
    (false, put_loads keys left)
place-work (PutStore h keys left word) hold e = subst (λ x. (b : Bool)
    × AtWork x b (PutStore h keys left word)) (same_Some h hold e) (false, put_stores keys left word)
place-work (PutLeaf h keys) hold e = subst (λ x. (b : Bool) × AtWork x b (PutLeaf h keys)) (same_Some h hold e) (false, put_leaf keys)
place-work (PutKeys h keys) hold e = subst (λ x. (b : Bool) × AtWork x b (PutKeys h keys)) (same_Some h hold e) (false, put_keys keys)
place-work (PutMore h keys) hold e = subst (λ x. (b : Bool) × AtWork x b (PutMore h keys)) (same_Some h hold e) (false, put_more keys)
place-work (PutCount h keys) hold e = subst (λ x. (b : Bool) × AtWork x b (PutCount h keys)) (same_Some h hold e) (false, put_count keys)
place-work (ClaimGrow h slot keys) hold e = absurd (none-some hold e)
place-work (GrowInfo g) hold e = (true, grow_info g (same_Some g.hold hold e))
place-work (GrowLoad g place left) hold e = (true, grow_loads g place left (same_Some g.hold hold e))
place-work (GrowStore g place left word) hold e = (true, grow_stores g place left word (same_Some g.hold hold e))
place-work (SpreadIndex g j left) hold e = (true, spread_index g j left (same_Some g.hold hold e))
place-work (SpreadLoad s entry left) hold e = (true, spread_loads s entry left (same_Some s.growing.hold hold e))
place-work (SpreadStore s entry left word) hold e = (true, spread_stores s entry left word (same_Some s.growing.hold hold e))
place-work (GrowLeaf g) hold e = (true, grow_leaf g (same_Some g.hold hold e))
place-work (GrowKeys g j left) hold e = (true, grow_keys g j left (same_Some g.hold hold e))
place-work (GrowCount g) hold e = (true, grow_count g (same_Some g.hold hold e))
place-work (Hang g) hold e = (true, hangs g (same_Some g.hold hold e))
place-work (Obsolete h) hold e = absurd (none-some hold e)
place-work (Unlock h outcome) hold e = absurd (none-some hold e)
place-work (Over outcome) hold e = absurd (none-some hold e)

-- a call at work is at a stage after the claim and before the first release
pub work-place : {hold : Hold} {b : Bool} {stage : Stage} → AtWork hold b stage → hold_at stage ≡ Some hold
work-place (writes slot word reply) = refl
work-place (pairs p base word) = refl
work-place (put_loads keys left) = refl
work-place (put_stores keys left word) = refl
work-place (put_leaf keys) = refl
work-place (put_keys keys) = refl
work-place (put_more keys) = refl
work-place (put_count keys) = refl
work-place (grow_info g e) = ap Some e
work-place (grow_loads g place left e) = ap Some e
work-place (grow_stores g place left word e) = ap Some e
work-place (spread_index g j left e) = ap Some e
work-place (spread_loads s entry left e) = ap Some e
work-place (spread_stores s entry left word e) = ap Some e
work-place (grow_leaf g e) = ap Some e
work-place (grow_keys g j left e) = ap Some e
work-place (grow_count g e) = ap Some e
work-place (hangs g e) = ap Some e

-- if a row grows, the fresh row is being filled, or is to be hung
pub grow-fills : (stage : Stage) (grown : Growing) → growing_at stage ≡ Some grown → (fills (OnKey stage) ≡ row_grown grown)
    ⊎ (stage ≡ Hang grown)
grow-fills (Lock t first) grown e = absurd (none-some grown e)
grow-fills (Exchange t v) grown e = absurd (none-some grown e)
grow-fills (Wait t) grown e = absurd (none-some grown e)
grow-fills (Leave d) grown e = absurd (none-some grown e)
grow-fills (Between d kept) grown e = absurd (none-some grown e)
grow-fills (Info d kept) grown e = absurd (none-some grown e)
grow-fills (Find p) grown e = absurd (none-some grown e)
grow-fills (FindKeys p count) grown e = absurd (none-some grown e)
grow-fills (FindMore p count first) grown e = absurd (none-some grown e)
grow-fills (FindCount p index) grown e = absurd (none-some grown e)
grow-fills (Slot p slot) grown e = absurd (none-some grown e)
grow-fills (Check p f) grown e = absurd (none-some grown e)
grow-fills (CheckLast n) grown e = absurd (none-some grown e)
grow-fills (LetGo above p f) grown e = absurd (none-some grown e)
grow-fills (Take t) grown e = absurd (none-some grown e)
grow-fills (Write h slot word reply) grown e = absurd (none-some grown e)
grow-fills (ClaimPair h p) grown e = absurd (none-some grown e)
grow-fills (StorePair h p base word) grown e = absurd (none-some grown e)
grow-fills (PutLoad h keys left) grown e = absurd (none-some grown e)
grow-fills (PutStore h keys left word) grown e = absurd (none-some grown e)
grow-fills (PutLeaf h keys) grown e = absurd (none-some grown e)
grow-fills (PutKeys h keys) grown e = absurd (none-some grown e)
grow-fills (PutMore h keys) grown e = absurd (none-some grown e)
grow-fills (PutCount h keys) grown e = absurd (none-some grown e)
grow-fills (ClaimGrow h slot keys) grown e = absurd (none-some grown e)
grow-fills (GrowInfo g) grown e = inl (ap row_grown (same_Some g grown e))
grow-fills (GrowLoad g place left) grown e = inl (ap row_grown (same_Some g grown e))
grow-fills (GrowStore g place left word) grown e = inl (ap row_grown (same_Some g grown e))
grow-fills (SpreadIndex g j left) grown e = inl (ap row_grown (same_Some g grown e))
grow-fills (SpreadLoad s entry left) grown e = inl (ap row_grown (same_Some s.growing grown e))
grow-fills (SpreadStore s entry left word) grown e = inl (ap row_grown (same_Some s.growing grown e))
grow-fills (GrowLeaf g) grown e = inl (ap row_grown (same_Some g grown e))
grow-fills (GrowKeys g j left) grown e = inl (ap row_grown (same_Some g grown e))
grow-fills (GrowCount g) grown e = inl (ap row_grown (same_Some g grown e))
grow-fills (Hang g) grown e = inr (ap Hang (same_Some g grown e))
grow-fills (Obsolete h) grown e = absurd (none-some grown e)
grow-fills (Unlock h outcome) grown e = absurd (none-some grown e)
grow-fills (Over outcome) grown e = absurd (none-some grown e)

pub grow-hold : (stage : Stage) (grown : Growing) → growing_at stage ≡ Some grown → hold_at stage ≡ Some grown.hold
grow-hold (Lock t first) grown e = absurd (none-some grown e)
grow-hold (Exchange t v) grown e = absurd (none-some grown e)
grow-hold (Wait t) grown e = absurd (none-some grown e)
grow-hold (Leave d) grown e = absurd (none-some grown e)
grow-hold (Between d kept) grown e = absurd (none-some grown e)
grow-hold (Info d kept) grown e = absurd (none-some grown e)
grow-hold (Find p) grown e = absurd (none-some grown e)
grow-hold (FindKeys p count) grown e = absurd (none-some grown e)
grow-hold (FindMore p count first) grown e = absurd (none-some grown e)
grow-hold (FindCount p index) grown e = absurd (none-some grown e)
grow-hold (Slot p slot) grown e = absurd (none-some grown e)
grow-hold (Check p f) grown e = absurd (none-some grown e)
grow-hold (CheckLast n) grown e = absurd (none-some grown e)
grow-hold (LetGo above p f) grown e = absurd (none-some grown e)
grow-hold (Take t) grown e = absurd (none-some grown e)
grow-hold (Write h slot word reply) grown e = absurd (none-some grown e)
grow-hold (ClaimPair h p) grown e = absurd (none-some grown e)
grow-hold (StorePair h p base word) grown e = absurd (none-some grown e)
grow-hold (PutLoad h keys left) grown e = absurd (none-some grown e)
grow-hold (PutStore h keys left word) grown e = absurd (none-some grown e)
grow-hold (PutLeaf h keys) grown e = absurd (none-some grown e)
grow-hold (PutKeys h keys) grown e = absurd (none-some grown e)
grow-hold (PutMore h keys) grown e = absurd (none-some grown e)
grow-hold (PutCount h keys) grown e = absurd (none-some grown e)
grow-hold (ClaimGrow h slot keys) grown e = absurd (none-some grown e)
grow-hold (GrowInfo g) grown e = ap (λ (x : Growing). Some x.hold) (same_Some g grown e)
grow-hold (GrowLoad g place left) grown e = ap (λ (x : Growing). Some x.hold) (same_Some g grown e)
grow-hold (GrowStore g place left word) grown e = ap (λ (x : Growing). Some x.hold) (same_Some g grown e)
grow-hold (SpreadIndex g j left) grown e = ap (λ (x : Growing). Some x.hold) (same_Some g grown e)
grow-hold (SpreadLoad s entry left) grown e = ap (λ (x : Growing). Some x.hold) (same_Some s.growing grown e)
grow-hold (SpreadStore s entry left word) grown e = ap (λ (x : Growing). Some x.hold) (same_Some s.growing grown e)
grow-hold (GrowLeaf g) grown e = ap (λ (x : Growing). Some x.hold) (same_Some g grown e)
grow-hold (GrowKeys g j left) grown e = ap (λ (x : Growing). Some x.hold) (same_Some g grown e)
grow-hold (GrowCount g) grown e = ap (λ (x : Growing). Some x.hold) (same_Some g grown e)
grow-hold (Hang g) grown e = ap (λ (x : Growing). Some x.hold) (same_Some g grown e)
grow-hold (Obsolete h) grown e = absurd (none-some grown e)
grow-hold (Unlock h outcome) grown e = absurd (none-some grown e)
grow-hold (Over outcome) grown e = absurd (none-some grown e)

-- a stage that writes in a held row fills none
pub writes-fill : (stage : Stage) → writes_at stage ≡ true → fills (OnKey stage) ≡ []
writes-fill (Lock t first) e = absurd (false≢true e)
writes-fill (Exchange t v) e = absurd (false≢true e)
writes-fill (Wait t) e = absurd (false≢true e)
writes-fill (Leave d) e = absurd (false≢true e)
writes-fill (Between d kept) e = absurd (false≢true e)
writes-fill (Info d kept) e = absurd (false≢true e)
writes-fill (Find p) e = absurd (false≢true e)
writes-fill (FindKeys p count) e = absurd (false≢true e)
writes-fill (FindMore p count first) e = absurd (false≢true e)
writes-fill (FindCount p index) e = absurd (false≢true e)
writes-fill (Slot p slot) e = absurd (false≢true e)
writes-fill (Check p f) e = absurd (false≢true e)
writes-fill (CheckLast n) e = absurd (false≢true e)
writes-fill (LetGo above p f) e = absurd (false≢true e)
writes-fill (Take t) e = absurd (false≢true e)
writes-fill (Write h slot word reply) e = refl
writes-fill (ClaimPair h p) e = absurd (false≢true e)
writes-fill (StorePair h p base word) e = absurd (false≢true e)
writes-fill (PutLoad h keys left) e = refl
writes-fill (PutStore h keys left word) e = refl
writes-fill (PutLeaf h keys) e = refl
writes-fill (PutKeys h keys) e = refl
writes-fill (PutMore h keys) e = refl
writes-fill (PutCount h keys) e = refl
writes-fill (ClaimGrow h slot keys) e = absurd (false≢true e)
writes-fill (GrowInfo g) e = absurd (false≢true e)
writes-fill (GrowLoad g place left) e = absurd (false≢true e)
writes-fill (GrowStore g place left word) e = absurd (false≢true e)
writes-fill (SpreadIndex g j left) e = absurd (false≢true e)
writes-fill (SpreadLoad s entry left) e = absurd (false≢true e)
writes-fill (SpreadStore s entry left word) e = absurd (false≢true e)
writes-fill (GrowLeaf g) e = absurd (false≢true e)
writes-fill (GrowKeys g j left) e = absurd (false≢true e)
writes-fill (GrowCount g) e = absurd (false≢true e)
writes-fill (Hang g) e = absurd (false≢true e)
writes-fill (Obsolete h) e = absurd (false≢true e)
writes-fill (Unlock h outcome) e = absurd (false≢true e)
writes-fill (Over outcome) e = absurd (false≢true e)

moves-write : (h : Hold) (keys : Keys) (n : ℕ) → writes_at (moves_at h keys n) ≡ true
moves-write h keys zero = refl
moves-write h keys (suc n) = refl

keys-write : (l : Bool) (kind : Kind) (h : Hold) (keys : Keys) → (writes_at (put_keys_after l kind h keys) ≡ true)
    ⊎ (hold_at (put_keys_after l kind h keys) ≡ None)
keys-write l Four h keys = inr refl
keys-write l Sixteen h keys = inl refl
keys-write l FortyEight h keys = inl refl
keys-write l Full h keys = inr (go h.above)
  where
    go : (above : Option HeldRow) → hold_at (release_at l above (Some no_value)) ≡ None
    go None = refl
    go (Some a) = refl

-- the stage after it does so too, or releases a row
pub writes-next : (c : Setting) (stage : Stage) (w : ℕ) → writes_at stage ≡ true → (writes_at (stage_after c stage w) ≡ true)
    ⊎ (hold_at (stage_after c stage w) ≡ None)
writes-next c (Lock t first) w e = absurd (false≢true e)
writes-next c (Exchange t v) w e = absurd (false≢true e)
writes-next c (Wait t) w e = absurd (false≢true e)
writes-next c (Leave d) w e = absurd (false≢true e)
writes-next c (Between d kept) w e = absurd (false≢true e)
writes-next c (Info d kept) w e = absurd (false≢true e)
writes-next c (Find p) w e = absurd (false≢true e)
writes-next c (FindKeys p count) w e = absurd (false≢true e)
writes-next c (FindMore p count first) w e = absurd (false≢true e)
writes-next c (FindCount p index) w e = absurd (false≢true e)
writes-next c (Slot p slot) w e = absurd (false≢true e)
writes-next c (Check p f) w e = absurd (false≢true e)
writes-next c (CheckLast n) w e = absurd (false≢true e)
writes-next c (LetGo above p f) w e = absurd (false≢true e)
writes-next c (Take t) w e = absurd (false≢true e)
writes-next c (Write h slot word reply) w e = inr refl
writes-next c (ClaimPair h p) w e = absurd (false≢true e)
writes-next c (StorePair h p base word) w e = absurd (false≢true e)
writes-next c (PutLoad h keys left) w e = inl refl
writes-next c (PutStore h keys left word) w e = inl (moves-write h keys left)
writes-next c (PutLeaf h keys) w e = inl refl
writes-next c (PutKeys h keys) w e = keys-write (locks c.variant) h.row.kind h keys
writes-next c (PutMore h keys) w e = inl refl
writes-next c (PutCount h keys) w e = inr refl
writes-next c (ClaimGrow h slot keys) w e = absurd (false≢true e)
writes-next c (GrowInfo g) w e = absurd (false≢true e)
writes-next c (GrowLoad g place left) w e = absurd (false≢true e)
writes-next c (GrowStore g place left word) w e = absurd (false≢true e)
writes-next c (SpreadIndex g j left) w e = absurd (false≢true e)
writes-next c (SpreadLoad s entry left) w e = absurd (false≢true e)
writes-next c (SpreadStore s entry left word) w e = absurd (false≢true e)
writes-next c (GrowLeaf g) w e = absurd (false≢true e)
writes-next c (GrowKeys g j left) w e = absurd (false≢true e)
writes-next c (GrowCount g) w e = absurd (false≢true e)
writes-next c (Hang g) w e = absurd (false≢true e)
writes-next c (Obsolete h) w e = absurd (false≢true e)
writes-next c (Unlock h outcome) w e = absurd (false≢true e)
writes-next c (Over outcome) w e = absurd (false≢true e)

copies-grow : (g : Growing) (i n : ℕ) → growing_at (copies_at g i n) ≡ Some g
copies-grow g i zero = refl
copies-grow g i (suc n) = refl

spreads-grow : (g : Growing) (j n : ℕ) → growing_at (spreads_at g j n) ≡ Some g
spreads-grow g j zero = refl
spreads-grow g j (suc n) = refl

fill-grows : (g : Growing) (kind : Kind) → growing_at (fill_at kind g) ≡ Some g
fill-grows g Four = copies-grow g 0 (count_in Four g.keys)
fill-grows g Sixteen = copies-grow g 0 (count_in Sixteen g.keys)
fill-grows g FortyEight = refl
fill-grows g Full = refl

leaf-grows : (g : Growing) (kind : Kind) → growing_at (leaf_after kind g) ≡ Some g
leaf-grows g Four = refl
leaf-grows g Sixteen = refl
leaf-grows g FortyEight = refl
leaf-grows g Full = refl

keys-grow : (g : Growing) (j n : ℕ) → growing_at (keys_at_after g j n) ≡ Some g
keys-grow g j zero = refl
keys-grow g j (suc n) = refl

entries-grow : (s : Spread) (i n : ℕ) → growing_at (entries_at s i n) ≡ Some s.growing
entries-grow s i zero = spreads-grow s.growing (s.place + 1) s.left
entries-grow s i (suc n) = go (slice_index (entries_of s.word) i == 0) (entries-grow s (i + 1) n)
  where
    go : (b : Bool) → growing_at (entries_at s (i + 1) n) ≡ Some s.growing
        → growing_at (if b then entries_at s (i + 1) n else SpreadLoad s i n) ≡ Some s.growing
    go true later = later
    go false later = refl

-- at the next stage the same row grows, or it was hung
pub grow-next : (c : Setting) (stage : Stage) (w : ℕ) (grown : Growing) → growing_at stage ≡ Some grown
    → (growing_at (stage_after c stage w) ≡ Some grown) ⊎ ((g : Growing) × (stage ≡ Hang g))
grow-next c (Lock t first) w grown e = absurd (none-some grown e)
grow-next c (Exchange t v) w grown e = absurd (none-some grown e)
grow-next c (Wait t) w grown e = absurd (none-some grown e)
grow-next c (Leave d) w grown e = absurd (none-some grown e)
grow-next c (Between d kept) w grown e = absurd (none-some grown e)
grow-next c (Info d kept) w grown e = absurd (none-some grown e)
grow-next c (Find p) w grown e = absurd (none-some grown e)
grow-next c (FindKeys p count) w grown e = absurd (none-some grown e)
grow-next c (FindMore p count first) w grown e = absurd (none-some grown e)
grow-next c (FindCount p index) w grown e = absurd (none-some grown e)
grow-next c (Slot p slot) w grown e = absurd (none-some grown e)
grow-next c (Check p f) w grown e = absurd (none-some grown e)
grow-next c (CheckLast n) w grown e = absurd (none-some grown e)
grow-next c (LetGo above p f) w grown e = absurd (none-some grown e)
grow-next c (Take t) w grown e = absurd (none-some grown e)
grow-next c (Write h slot word reply) w grown e = absurd (none-some grown e)
grow-next c (ClaimPair h p) w grown e = absurd (none-some grown e)
grow-next c (StorePair h p base word) w grown e = absurd (none-some grown e)
grow-next c (PutLoad h keys left) w grown e = absurd (none-some grown e)
grow-next c (PutStore h keys left word) w grown e = absurd (none-some grown e)
grow-next c (PutLeaf h keys) w grown e = absurd (none-some grown e)
grow-next c (PutKeys h keys) w grown e = absurd (none-some grown e)
grow-next c (PutMore h keys) w grown e = absurd (none-some grown e)
grow-next c (PutCount h keys) w grown e = absurd (none-some grown e)
grow-next c (ClaimGrow h slot keys) w grown e = absurd (none-some grown e)
grow-next c (GrowInfo g) w grown e = inl (fill-grows g g.hold.row.kind ∙ e)
grow-next c (GrowLoad g place left) w grown e = inl e
grow-next c (GrowStore g place left word) w grown e = inl (copies-grow g (place + 1) left ∙ e)
grow-next c (SpreadIndex g j left) w grown e = inl (entries-grow (record { growing = g; place = j; left = left; word = w }) 0 8 ∙ e)
grow-next c (SpreadLoad s entry left) w grown e = inl e
grow-next c (SpreadStore s entry left word) w grown e = inl (entries-grow s (entry + 1) left ∙ e)
grow-next c (GrowLeaf g) w grown e = inl (leaf-grows g g.hold.row.kind ∙ e)
grow-next c (GrowKeys g j left) w grown e = inl (keys-grow g j left ∙ e)
grow-next c (GrowCount g) w grown e = inl e
grow-next c (Hang g) w grown e = inr (g, refl)
grow-next c (Obsolete h) w grown e = absurd (none-some grown e)
grow-next c (Unlock h outcome) w grown e = absurd (none-some grown e)
grow-next c (Over outcome) w grown e = absurd (none-some grown e)
