-- A call at work touches only words of the rows that it holds or fills.
use Rattle.art_schedules.proofs.Common.{◌≡◌, ◌+◌, ◌≤◌, length, refl, ap, sym, subst, ◌∙◌, Bool, true, false, inl, inr, arith, false≢true, Call}
use Rattle.art_schedules.proofs.Common.{Shape, Variant, Setting, Hold, Stage, Lock, Exchange, Wait, Leave, Between, Info, Find, FindKeys}
use Rattle.art_schedules.proofs.Common.{FindMore, FindCount, Slot, Check, CheckLast, LetGo, Take, Write, ClaimPair, StorePair, PutLoad, PutStore}
use Rattle.art_schedules.proofs.Common.{PutLeaf, PutKeys, PutMore, PutCount, ClaimGrow, GrowInfo, GrowLoad, GrowStore, SpreadIndex, SpreadLoad}
use Rattle.art_schedules.proofs.Common.{SpreadStore, GrowLeaf, GrowKeys, GrowCount, Hang, Obsolete, Unlock, Over, setting, turn_at, stage_after}
use Rattle.art_schedules.proofs.Common.{OnKey, Knows, KnowsKey, holds, Reads, Writes, Ends, Releases, Takes, Claims, Answered, AccessDoes}
use Rattle.art_schedules.proofs.Common.{ClaimsRow, IsFull, LoadsHeld, ReleasesHeld, Replies, StoresOwn, TouchesOwn, is_claim}
use Rattle.art_schedules.proofs.versions.WithLemmas.{with-here}
use Rattle.art_schedules.proofs.Common.{may_release, is_work, RowsOf}
use Rattle.art_schedules.specs.versions.Effects.{Fills}
use Rattle.art_schedules.proofs.work.OwnLemmas.{IsAllowed, allowed, is_over, rows-do}
use Rattle.art_schedules.proofs.work.WorkLemmas.{AtWork, writes, pairs, put_loads, put_stores, put_leaf, put_keys, put_more, put_count}
use Rattle.art_schedules.proofs.work.WorkLemmas.{grow_info, grow_loads, grow_stores, spread_index, spread_loads, spread_stores, grow_leaf}
use Rattle.art_schedules.proofs.work.WorkLemmas.{grow_keys, grow_count, hangs, is_release, next-work, holds-work, holds-next, with-length}

work-of : (stage : Stage) → is_work stage ≡ true → is_claim stage ≡ false → is_over stage ≡ false → is_release stage ≡ false
    → (h : Hold) × (b : Bool) × AtWork h b stage
work-of (Lock t first) w n o r = absurd (false≢true w)
work-of (Exchange t v) w n o r = absurd (false≢true w)
work-of (Wait t) w n o r = absurd (false≢true w)
work-of (Leave d) w n o r = absurd (false≢true w)
work-of (Between d kept) w n o r = absurd (false≢true w)
work-of (Info d kept) w n o r = absurd (false≢true w)
work-of (Find p) w n o r = absurd (false≢true w)
work-of (FindKeys p count) w n o r = absurd (false≢true w)
work-of (FindMore p count first) w n o r = absurd (false≢true w)
work-of (FindCount p index) w n o r = absurd (false≢true w)
work-of (Slot p slot) w n o r = absurd (false≢true w)
work-of (Check p f) w n o r = absurd (false≢true w)
work-of (CheckLast m) w n o r = absurd (false≢true w)
work-of (LetGo above p f) w n o r = absurd (false≢true w)
work-of (Take t) w n o r = absurd (false≢true w)
work-of (Write h slot word reply) w n o r = (h, false, writes slot word reply)
work-of (ClaimPair h p) w n o r = absurd (false≢true (sym n))
work-of (StorePair h p base word) w n o r = (h, false, pairs p base word)
work-of (PutLoad h keys left) w n o r = (h, false, put_loads keys left)
work-of (PutStore h keys left word) w n o r = (h, false, put_stores keys left word)
work-of (PutLeaf h keys) w n o r = (h, false, put_leaf keys)
work-of (PutKeys h keys) w n o r = (h, false, put_keys keys)
work-of (PutMore h keys) w n o r = (h, false, put_more keys)
work-of (PutCount h keys) w n o r = (h, false, put_count keys)
work-of (ClaimGrow h slot keys) w n o r = absurd (false≢true (sym n))
work-of (GrowInfo g) w n o r = (g.hold, true, grow_info g refl)
work-of (GrowLoad g place left) w n o r = (g.hold, true, grow_loads g place left refl)
work-of (GrowStore g place left word) w n o r = (g.hold, true, grow_stores g place left word refl)
work-of (SpreadIndex g j left) w n o r = (g.hold, true, spread_index g j left refl)
work-of (SpreadLoad s entry left) w n o r = (s.growing.hold, true, spread_loads s entry left refl)
work-of (SpreadStore s entry left word) w n o r = (s.growing.hold, true, spread_stores s entry left word refl)
work-of (GrowLeaf g) w n o r = (g.hold, true, grow_leaf g refl)
work-of (GrowKeys g j left) w n o r = (g.hold, true, grow_keys g j left refl)
work-of (GrowCount g) w n o r = (g.hold, true, grow_count g refl)
work-of (Hang g) w n o r = (g.hold, true, hangs g refl)
work-of (Obsolete h) w n o r = absurd (false≢true (sym r))
work-of (Unlock h outcome) w n o r = absurd (false≢true (sym r))
work-of (Over outcome) w n o r = absurd (false≢true (sym o))

-- a stage of work that releases a row is one of the two that do
releases-at : (stage : Stage) → is_release stage ≡ true → may_release (OnKey stage) ≡ true
releases-at (Obsolete h) e = refl
releases-at (Unlock h outcome) e = refl
releases-at (Lock t first) e = absurd (false≢true e)
releases-at (Exchange t v) e = absurd (false≢true e)
releases-at (Wait t) e = absurd (false≢true e)
releases-at (Leave d) e = absurd (false≢true e)
releases-at (Between d kept) e = absurd (false≢true e)
releases-at (Info d kept) e = absurd (false≢true e)
releases-at (Find p) e = absurd (false≢true e)
releases-at (FindKeys p count) e = absurd (false≢true e)
releases-at (FindMore p count first) e = absurd (false≢true e)
releases-at (FindCount p index) e = absurd (false≢true e)
releases-at (Slot p slot) e = absurd (false≢true e)
releases-at (Check p f) e = absurd (false≢true e)
releases-at (CheckLast n) e = absurd (false≢true e)
releases-at (LetGo above p f) e = absurd (false≢true e)
releases-at (Take t) e = absurd (false≢true e)
releases-at (Write h slot word reply) e = absurd (false≢true e)
releases-at (ClaimPair h p) e = absurd (false≢true e)
releases-at (StorePair h p base word) e = absurd (false≢true e)
releases-at (PutLoad h keys left) e = absurd (false≢true e)
releases-at (PutStore h keys left word) e = absurd (false≢true e)
releases-at (PutLeaf h keys) e = absurd (false≢true e)
releases-at (PutKeys h keys) e = absurd (false≢true e)
releases-at (PutMore h keys) e = absurd (false≢true e)
releases-at (PutCount h keys) e = absurd (false≢true e)
releases-at (ClaimGrow h slot keys) e = absurd (false≢true e)
releases-at (GrowInfo g) e = absurd (false≢true e)
releases-at (GrowLoad g place left) e = absurd (false≢true e)
releases-at (GrowStore g place left word) e = absurd (false≢true e)
releases-at (SpreadIndex g j left) e = absurd (false≢true e)
releases-at (SpreadLoad s entry left) e = absurd (false≢true e)
releases-at (SpreadStore s entry left word) e = absurd (false≢true e)
releases-at (GrowLeaf g) e = absurd (false≢true e)
releases-at (GrowKeys g j left) e = absurd (false≢true e)
releases-at (GrowCount g) e = absurd (false≢true e)
releases-at (Hang g) e = absurd (false≢true e)
releases-at (Over outcome) e = absurd (false≢true e)

released : (c : Setting) (stage : Stage) → is_work stage ≡ true → KnowsKey (RowsOf c.shape) c stage → (is_claim stage ≡ false)
    × (is_over stage ≡ false)
    → length (holds c (OnKey stage)) ≡ length (holds c (OnKey (stage_after c stage 0))) + 1 → (b : Bool) → is_release stage ≡ b
    → may_release (OnKey stage) ≡ true
released c stage w k a less true e = releases-at stage e
released c stage w k a less false e =
    let at = work-of stage w a.0 a.1 e in
    let next = next-work at.0 c at.2 k 0 in
    absurd (omega (arith, less, ap length (holds-work c at.2), ap length (holds-next c at.0 at.1 (stage_after c stage 0) next)))

-- what is allowed, by what the call does
own-by : (c : Setting) (stage : Stage) → is_work stage ≡ true → KnowsKey (RowsOf c.shape) c stage → IsAllowed c stage (turn_at c stage)
    → AccessDoes (RowsOf c.shape) c (OnKey stage) → TouchesOwn c (OnKey stage)
own-by c stage w k a (Reads word mark asks after) = LoadsHeld word mark asks (subst (IsAllowed c stage) asks a)
own-by c stage w k a (Writes h word value mark asks among kept behind good after) =
    StoresOwn word value mark asks (inl (record { row = h; among = among; behind = behind }))
own-by c stage w k a (Fills b kind word value mark asks filled behind row good after) =
    StoresOwn word value mark asks (inr (record { base = b; kind = kind; filled = filled; behind = behind }))
own-by c stage w k a (Ends b kind word value mark asks filled behind row good after) =
    StoresOwn word value mark asks (inr (record { base = b; kind = kind; filled = filled; behind = behind }))
own-by c stage w k a (Releases h rest value mark asks with none is kept after) =
    ReleasesHeld h value mark asks (with-here h rest _ with)
    (released c stage w k (subst (IsAllowed c stage) asks a) (with-length h rest _ with ∙ ap (λ xs. length xs + 1) (sym after.1))
    (is_release stage) refl)
own-by c stage w k a (Takes h all mark asks with none kept after other) = absurd (subst (IsAllowed c stage) asks a)
own-by c stage w k a (Claims kind mark asks none after other) = ClaimsRow kind mark asks (subst (IsAllowed c stage) asks a)
own-by c stage w k a (Answered reply asks none) = Replies reply asks

pub work-own : (variant : Variant) → IsFull variant → (shape : Shape) (call : Call) → 1 ≤ shape.rows256 → (stage : Stage)
    → is_work stage ≡ true
    → Knows (RowsOf shape) (setting shape variant call) (OnKey stage) → TouchesOwn (setting shape variant call) (OnKey stage)
work-own variant full shape call some stage w k =
    let c = setting shape variant call in
    own-by c stage w k (allowed (RowsOf shape) c stage w k) (rows-do variant full shape call some (OnKey stage) k)
