-- A step of a call on its way, in a run.
use Rattle.art_schedules.proofs.Common.{◌≡◌, inl, inr, ℕ, zero, suc, ◌+◌, ◌-◌, ◌^◌, ◌<◌, List, [], ◌∷◌, ◌++◌, refl, ap, sym, subst, ◌∙◌, Bool}
use Rattle.art_schedules.proofs.alone.LikeLemmas.{sits}
use Rattle.art_schedules.proofs.alone.PlaceLemmas.{sits-kind_at, kind_at-sits, sits-inside}
use Rattle.art_schedules.proofs.alone.WayLemmas.{leads-root}
use Rattle.art_schedules.proofs.writes.StoreLemmas.{stored-at}
use Rattle.art_schedules.proofs.Common.{true, false, arith, slice_get, slice_index, slice_set, Option, Some, None, false≢true, same_Some, Call}
use Rattle.art_schedules.proofs.Common.{Get, Insert, Remove, Scan, Replace, Reply, Contents, Shape, Kind, Four, Sixteen, FortyEight, Full}
use Rattle.art_schedules.proofs.Common.{table_words, kind_at, root_base, claims_of, is_locked, is_obsolete, locked_word, released_word}
use Rattle.art_schedules.proofs.Common.{some-words, claims-few, key_byte-small, Coupled, Access, Load, Store, Swap, Point, Asks, Answers}
use Rattle.art_schedules.proofs.Common.{word_of, Setting, key_of, is_insert, is_scan, locks, asks-same, load-exchange, store-exchange}
use Rattle.art_schedules.proofs.Common.{load-store, exchange-store, exchange-word, exchanges-same, store-word, answers-asks, HeldRow, Keys, Hold}
use Rattle.art_schedules.proofs.Common.{Down, Work, Target, Root, Below, Taken, Stage, Lock, Exchange, Between, Info, Find, FindKeys, FindMore}
use Rattle.art_schedules.proofs.Common.{FindCount, Slot, LetGo, Unlock, Over, row_at, byte_in, setting, count_in, place_in, turn_at, find_turn}
use Rattle.art_schedules.proofs.Common.{between_turn, stage_after, work_at, put_at, moves_at, OnKey, call_turn, call_after, begun_as, Process}
use Rattle.art_schedules.proofs.Common.{changed, told, Plan, State, Reached, root, below, child_in, level_in, IsAtRest, SameRow}
use Rattle.art_schedules.proofs.Common.{WaysLeadToValues, LeavesAreSmall}
use Rattle.art_schedules.proofs.Common.{Each, Knows, KnowsKey, holds, fills, row_filled, FitsStage, lock_of, rows_of_hold, held_at_stage}
use Rattle.art_schedules.proofs.Common.{IsAmong, IsAtStage, IsOpen, IsSettled, filled_by, held_by, stage_of}
use Rattle.art_schedules.proofs.versions.KnownLemmas.{among-each, held-is-kept}
use Rattle.art_schedules.proofs.Common.{ComesInBy, Effect, IsGoneBy, IsStill, calm_of, pairs_by}
use Rattle.art_schedules.proofs.versions.KnownLemmas.{each-among, each-map}
use Rattle.art_schedules.proofs.versions.MoveLemmas.{no-items, settled-row}
use Rattle.art_schedules.proofs.Common.{HasFewClaims, Follows, KeepsTree, KeptTreesFollow, KnowsTarget, KnowsReply, KnowsAt, IsHeldLive}
use Rattle.art_schedules.proofs.Common.{CallsBegin, CallsGoOn, CallsStay, FoundIsAnswered, OthersLeaveWays, IsLeaving, ObsoleteLeave}
use Rattle.art_schedules.proofs.Common.{IsCoupledStep, WaysTakeReached, SeekersAreNotAnswered, ChildRow}
use Rattle.std.proofs.Common.{All}
use Rattle.std.specs.Prelude.{length}
use Rattle.art_control_states.specs.declared.stage.Work.TheVariants as work
use Rattle.art_control_states.specs.Stages.{target_base}
use Rattle.art_schedules.proofs.calm.VersionLemmas.{free-busy}
use Rattle.art_schedules.proofs.changes.RowLemmas.{steady-row}
use Rattle.art_schedules.specs.coupled.Knows.{IsBelow, KnowsStage, KnowsWay}
use Rattle.art_schedules.specs.coupled.Goes.{Gets, Goes, GoesOn, Works, Finds}
use Rattle.art_schedules.proofs.coupled.OwnLemmas.{ways-go-on, findings-stay}
use Rattle.art_schedules.proofs.coupled.StayLemmas.{own-still, ways-are-kept}
use Rattle.art_schedules.proofs.coupled.MadeLemmas.{Facts, facts, IsMade, made, others-open}
use Rattle.art_schedules.proofs.coupled.RowLemmas.{kept-row, others-same, held-calm, held-live, its-turn, own-same, keeps-without}
use Rattle.art_schedules.proofs.coupled.RowLemmas.{keeps-released}
use Rattle.art_schedules.proofs.work.LockedLemmas.{among-lock}
use Rattle.art_schedules.proofs.effects.KeptLemmas.{begins-kept}
use Rattle.art_schedules.proofs.effects.ValueLemmas.{byte-in-small}

-- ---- accesses and stages

-- a row is within the table
pub row-inside : (shape : Shape) (base : ℕ) (kind : Kind) → kind_at shape base ≡ Some kind → base < table_words shape
row-inside shape base kind row =
    let x = (sits-inside shape base 0 kind (kind_at-sits shape base kind row) (omega (arith, some-words kind))).1 in
    omega (arith, x)

exchange-unlock : {t : Target} {v : ℕ} {h : Hold} {o : _} → OnKey (Unlock h o) ≡ OnKey (Exchange t v) → ⊥
exchange-unlock e = cc

-- at its first stage work holds its rows
moves-hold : (i : Bool) (h : Hold) (keys : Keys) (n : ℕ) → held_at_stage true i (moves_at h keys n) ≡ rows_of_hold h
moves-hold i h keys zero = refl
moves-hold i h keys (suc n) = refl

puts-hold : (i : Bool) (kind : Kind) (c : Setting) (h : Hold) (keys : Keys) → held_at_stage true i (put_at kind c h keys) ≡ rows_of_hold h
puts-hold i Four c h keys = moves-hold i h keys (count_in Four keys - place_in c h keys)
puts-hold i Sixteen c h keys = moves-hold i h keys (count_in Sixteen keys - place_in c h keys)
puts-hold i FortyEight c h keys = refl
puts-hold i Full c h keys = refl

pub works-hold : (i : Bool) (c : Setting) (h : Hold) (work : Work) → held_at_stage true i (work_at c h work) ≡ rows_of_hold h
works-hold i c h (work.Write slot word value) = refl
works-hold i c h (work.Pair p) = refl
works-hold i c h (work.Put keys) = puts-hold i h.row.kind c h keys
works-hold i c h (work.Grow slot keys) = refl

find-loads : (kind : Kind) (c : Setting) (n : HeldRow) → (word : ℕ) × (find_turn kind c n ≡ Asks (Load word) None)
find-loads Four c n = (_, refl)
find-loads Sixteen c n = (_, refl)
find-loads FortyEight c n = (_, refl)
find-loads Full c n = (_, refl)

-- What a call on its way does next: it loads, or exchanges the version of its target, or releases a row that it holds.
data DoesAt (c : Setting) (i : Bool) (stage : Stage) : Type 0 where
  DoesLoad : (word : ℕ) → (mark : Option Point) → turn_at c stage ≡ Asks (Load word) mark → DoesAt c i stage
  DoesSwap : (t : Target) → (v : ℕ) → stage ≡ Exchange t v → DoesAt c i stage
  DoesRelease : (h : HeldRow) → (mark : Option Point) → IsAmong h (held_at_stage true i stage)
      → turn_at c stage ≡ Asks (Store h.base (released_word h.kept)) mark
      → DoesAt c i stage
  DoesAnswer : (r : Reply) → turn_at c stage ≡ Answers r → DoesAt c i stage

stage-does : (c : Setting) (coupled : locks c.variant ≡ true) (i : Bool) (calm : List ℕ) (stage : Stage) → KnowsStage i c calm stage
    → DoesAt c i stage
stage-does c l i calm (Lock t true) k = DoesLoad _ _ refl
stage-does c l i calm (Lock t false) k = DoesLoad _ _ refl
stage-does c l i calm (Exchange t v) k = DoesSwap t v refl
stage-does c l i calm (Between d kept) k = DoesRelease d.above _ (inr (inl refl)) (ap (λ b. between_turn b d) l)
stage-does c l i calm (Info d kept) k = DoesLoad _ _ refl
stage-does c l i calm (Find p) k = let x = find-loads p.row.kind c p.row in DoesLoad x.0 _ x.1
stage-does c l i calm (FindKeys p count) k = DoesLoad _ _ refl
stage-does c l i calm (FindMore p count first) k = DoesLoad _ _ refl
stage-does c l i calm (FindCount p index) k = DoesLoad _ _ refl
stage-does c l i calm (Slot p slot) k = DoesLoad _ _ refl
stage-does c l i calm (LetGo above p f) k = DoesRelease above _ (inr (inl refl)) refl
stage-does c l i calm stage k = absurd k

reply-does : (r : Reply) (c : Setting) (i : Bool) (calm : List ℕ) (stage : Stage) → KnowsReply r i c calm stage → DoesAt c i stage
reply-does r c i calm (Info d kept) k = DoesLoad _ _ refl
reply-does r c i calm (Unlock h outcome) k = DoesRelease h.row _ (inl refl) refl
reply-does r c i calm (Over outcome) k = DoesAnswer _ refl
reply-does r c i calm stage k = absurd k

knows-does : (o : Option Reply) (c : Setting) → locks c.variant ≡ true → (i : Bool) (calm : List ℕ) (stage : Stage)
    → KnowsAt o i c calm stage → DoesAt c i stage
knows-does None c l i calm stage k = stage-does c l i calm stage k
knows-does (Some r) c l i calm stage k = reply-does r c i calm stage k

-- a call on its way fills no row
fills-none : (o : Option Reply) (c : Setting) (i : Bool) (calm : List ℕ) (stage : Stage) → KnowsAt o i c calm stage → row_filled stage ≡ []
fills-none None c i calm (Lock t first) k = refl
fills-none None c i calm (Exchange t v) k = refl
fills-none None c i calm (Between d kept) k = refl
fills-none None c i calm (Info d kept) k = refl
fills-none None c i calm (Find p) k = refl
fills-none None c i calm (FindKeys p count) k = refl
fills-none None c i calm (FindMore p count first) k = refl
fills-none None c i calm (FindCount p index) k = refl
fills-none None c i calm (Slot p slot) k = refl
fills-none None c i calm (LetGo above p f) k = refl
fills-none None c i calm stage k = absurd k
fills-none (Some r) c i calm (Info d kept) k = refl
fills-none (Some r) c i calm (Unlock h outcome) k = refl
fills-none (Some r) c i calm (Over outcome) k = refl
fills-none (Some r) c i calm stage k = absurd k

-- ---- the row that a call on its way takes

reached-by : (c : Setting) (table : List ℕ) (d : Down) → IsBelow c table d → Reached c.shape table d.base d.kind
reached-by c table d k = below k.0.leads.reached (byte_in c d.above) (byte-in-small c d.above)
    (ap (child_in c.shape table) k.1.at ∙ k.1.has)

-- the target of a call on its way is a row of the calm tree
target-reached : (c : Setting) (calm : List ℕ) (t : Target) → KnowsTarget c calm t → (kind : Kind)
    × Reached c.shape calm (target_base c t) kind
target-reached c calm Root k = (Full, root)
target-reached c calm (Below d) k = (d.kind, reached-by c calm d k)
target-reached c calm (Taken t) k = absurd k

target-of : (o : Option Reply) (i : Bool) (c : Setting) (calm : List ℕ) (t : Target) (v : ℕ) → KnowsAt o i c calm (Exchange t v)
    → KnowsTarget c calm t
target-of None i c calm t v k = k
target-of (Some r) i c calm t v k = absurd k

-- each row whose version it exchanges is a row of the calm tree
row-swapped : (o : Option Reply) (c : Setting) → locks c.variant ≡ true → (i : Bool) (calm : List ℕ) (stage : Stage)
    → KnowsAt o i c calm stage
    → (word v w : ℕ) (mark : Option Point) → turn_at c stage ≡ Asks (Swap word v w) mark → (kind : Kind) × Reached c.shape calm word kind
row-swapped o c l i calm stage k word v w mark e = go (knows-does o c l i calm stage k)
  where
    go : DoesAt c i stage → (kind : Kind) × Reached c.shape calm word kind
    go (DoesLoad other m x) = absurd (load-exchange (sym x ∙ e))
    go (DoesRelease h m among x) = absurd (store-exchange (sym x ∙ e))
    go (DoesAnswer reply x) = absurd (answers-asks (sym x ∙ e))
    go (DoesSwap t u x) =
        let (kind, reached) = target-reached c calm t (target-of o i c calm t u (subst (KnowsAt o i c calm) x k)) in
        (kind, subst (λ b. Reached c.shape calm b kind) (exchange-word (ap (turn_at c) (sym x) ∙ e)) reached)

-- ---- what a call on its way takes is not obsolete

module _ (shape : Shape) (s t : State) (p : ℕ) (first calm after : List ℕ) (f : Facts shape s t p first calm after) (claims : ℕ)
    (rest : IsAtRest shape claims calm) where
  pub reached-kind : (base : ℕ) (kind : Kind) → Reached shape calm base kind → kind_at shape base ≡ Some kind
  reached-kind base kind r = sits-kind_at shape base kind (sits shape claims calm rest r)

  one-kind : (base : ℕ) (kind k : Kind) → Reached shape calm base kind → Reached shape calm base k → kind ≡ k
  one-kind base kind k r x = same_Some kind k (sym (reached-kind base kind r) ∙ reached-kind base k x)

  -- a row of the calm tree that is neither locked nor obsolete has its words in calm
  free-row : (base : ℕ) (kind : Kind) → Reached shape calm base kind → is_locked (slice_index s.words base) ≡ false
      → is_obsolete (slice_index s.words base) ≡ false → SameRow calm s.words base kind
  free-row base kind r unlocked live j low high =
      sym (steady-row s.words calm base kind (f.before.free base kind (reached-kind base kind r) (free-busy _ unlocked live)) j low high)

  module _ (leaving : ℕ → Option ℕ) (leave : ObsoleteLeave shape s calm leaving) (call : Call) (q : Process) (o : IsOpen s p call q) where
    abbrev c : Setting
    c = setting shape Coupled call

    -- the process releases no row while it locks one
    not-there : (t : Target) (v : ℕ) → stage_of Coupled shape call q ≡ OnKey (Exchange t v) → (base : ℕ) (kind : Kind)
        → (l : IsLeaving shape s calm leaving base kind) → l.process ≡ p → ⊥
    not-there t v at base kind l same =
        let process : l.at.process ≡ q = same_Some l.at.process q (sym l.at.is_open.own ∙ (ap (slice_get s.processes) same ∙ o.own)) in
        let its : l.call ≡ call = same_Some l.call call (sym l.at.is_open.is_open ∙ (ap (λ w. w.call) process ∙ o.is_open)) in
        exchange-unlock (sym l.at.at ∙ (ap (λ w. stage_of Coupled shape l.call w) process
        ∙ (ap (λ x. stage_of Coupled shape x q) its ∙ at)))

    its-row : (base : ℕ) (kind : Kind) (l : IsLeaving shape s calm leaving base kind)
        → IsAmong (lock_of l.hold.row) (held_by Coupled shape l.call l.at.process)
    its-row base kind l = subst (λ x. IsAmong (lock_of l.hold.row) (holds (setting shape Coupled l.call) x)) (sym l.at.at) (inl refl)

    takes-live : (t : Target) (v : ℕ) → stage_of Coupled shape call q ≡ OnKey (Exchange t v) → KnowsTarget c calm t → (kind : Kind)
        → Reached shape calm (target_base c t) kind → is_obsolete (slice_index s.words (target_base c t)) ≡ true → ⊥
    takes-live Root v at k kind r dead =
        let l = leave (root_base shape) kind r dead in
        let kinds : kind ≡ Full = one-kind (root_base shape) kind Full r root in
        let level = ap (λ k. level_in calm (root_base shape) k) kinds ∙ (leads-root shape claims calm rest 0).0 in
        let less = (rest.tree.row l.hold.row.base (root_base shape) l.byte l.hold.row.kind kind l.reached l.is_byte l.hangs).0 in
        absurd (omega (arith, level, less))
    takes-live (Below d) v at k kind r dead =
        let l = leave d.base kind r dead in
        let small = key_byte-small (key_of call) (row_at d.above).level in
        let hangs = ap (child_in shape calm) k.1.at ∙ k.1.has in
        let kinds : kind ≡ d.kind = one-kind d.base kind d.kind r (below k.0.leads.reached (byte_in c d.above) small hangs) in
        let same = (rest.tree.once l.hold.row.base d.above.base l.byte (byte_in c d.above) d.base l.hold.row.kind d.above.kind d.kind
        l.reached k.0.leads.reached l.is_byte small (l.hangs ∙ ap (ChildRow d.base) kinds) hangs).0 in
        not-there (Below d) v at d.base kind l
        (f.sound.apart l.process p l.call call l.at.process q l.at.is_open o (lock_of l.hold.row) (lock_of d.above)
        (its-row d.base kind l) (subst (λ x. IsAmong (lock_of d.above) (holds c x)) (sym at) (inl refl)) same)
    takes-live (Taken t) v at k kind r dead = absurd k

    live-of : (w : ℕ) → (is_obsolete w ≡ true → ⊥) → is_obsolete w ≡ false
    live-of w not = go (is_obsolete w) refl
      where
        go : (b : Bool) → is_obsolete w ≡ b → is_obsolete w ≡ false
        go true e = absurd (not e)
        go false e = e

    takes-row : (t : Target) (v : ℕ) → stage_of Coupled shape call q ≡ OnKey (Exchange t v) → KnowsTarget c calm t → is_locked v ≡ false
        → slice_index s.words (target_base c t) ≡ v → (kind : Kind) → Reached shape calm (target_base c t) kind
        → SameRow calm s.words (target_base c t) kind × (is_obsolete v ≡ false)
    takes-row t v at k unlocked is kind r =
        let live = live-of (slice_index s.words (target_base c t)) (takes-live t v at k kind r) in
        (free-row (target_base c t) kind r (ap is_locked is ∙ unlocked) live, ap is_obsolete (sym is) ∙ live)

    -- ---- what the access gets

    knows-key : (stage : Stage) → stage_of Coupled shape call q ≡ OnKey stage → KnowsKey (IsSettled Coupled shape s) c stage
    knows-key stage at = subst (Knows (IsSettled Coupled shape s) c) at (f.sound.knows p call q o)

    pub live-taken : (found : Option Reply) (stage : Stage) → stage_of Coupled shape call q ≡ OnKey stage
        → KnowsAt found (is_insert call) c calm stage
        → (word v : ℕ) (m : Option Point) → turn_at c stage ≡ Asks (Swap word v (locked_word v)) m → slice_index s.words word ≡ v
        → is_obsolete v ≡ false
    live-taken found stage at k word v m e is = go (knows-does found c refl (is_insert call) calm stage k)
      where
        go : DoesAt c (is_insert call) stage → is_obsolete v ≡ false
        go (DoesLoad other l x) = absurd (load-exchange (sym x ∙ e))
        go (DoesRelease h l among x) = absurd (store-exchange (sym x ∙ e))
        go (DoesAnswer reply x) = absurd (answers-asks (sym x ∙ e))
        go (DoesSwap t u x) =
            let its = ap (turn_at c) (sym x) ∙ e in
            let version : u ≡ v = (exchanges-same its).1 in
            let target = target-of found (is_insert call) c calm t u (subst (KnowsAt found (is_insert call) c calm) x k) in
            let row = target-reached c calm t target in
            ap is_obsolete (sym version)
            ∙ (takes-row t u (at ∙ ap OnKey x) target (subst (FitsStage true (is_insert call) c) x (knows-key stage at).fits).2
            (ap (slice_index s.words) (exchange-word its) ∙ (is ∙ sym version)) row.0 row.1).1

    gets-at : (found : Option Reply) (stage : Stage) (a : Access) (mark : Option Point) → stage_of Coupled shape call q ≡ OnKey stage
        → KnowsAt found (is_insert call) c calm stage → turn_at c stage ≡ Asks a mark
        → Gets c calm s.words stage (told a (slice_index s.words (word_of a)))
    gets-at found stage a mark at k turn = record {
      loads = λ word m e. ap (λ x. told x (slice_index s.words (word_of x))) (asks-same (sym turn ∙ e));
      takes = λ word v m e is kind r. takes word v m e
          (sym (ap (λ x. told x (slice_index s.words (word_of x))) (asks-same (sym turn ∙ e))) ∙ is) kind r;
    }
      where
        takes : (word v : ℕ) (m : Option Point) → turn_at c stage ≡ Asks (Swap word v (locked_word v)) m
            → slice_index s.words word ≡ v → (kind : Kind)
            → Reached shape calm word kind → SameRow calm s.words word kind × (is_obsolete v ≡ false)
        takes word v m e is kind r = go (knows-does found c refl (is_insert call) calm stage k)
          where
            go : DoesAt c (is_insert call) stage → SameRow calm s.words word kind × (is_obsolete v ≡ false)
            go (DoesLoad other l x) = absurd (load-exchange (sym x ∙ e))
            go (DoesRelease h l among x) = absurd (store-exchange (sym x ∙ e))
            go (DoesAnswer reply x) = absurd (answers-asks (sym x ∙ e))
            go (DoesSwap t u x) =
                let its = ap (turn_at c) (sym x) ∙ e in
                let word-is : target_base c t ≡ word = exchange-word its in
                let version : u ≡ v = (exchanges-same its).1 in
                let unlocked = (subst (FitsStage true (is_insert call) c) x (knows-key stage at).fits).2 in
                let target = target-of found (is_insert call) c calm t u (subst (KnowsAt found (is_insert call) c calm) x k) in
                let row = takes-row t u (at ∙ ap OnKey x) target unlocked
                (ap (slice_index s.words) word-is ∙ (is ∙ sym version)) kind (subst (λ w. Reached shape calm w kind) (sym word-is) r) in
                (subst (λ w. SameRow calm s.words w kind) word-is row.0, ap is_obsolete (sym version) ∙ row.1)

    -- ---- the calm tree, and the rows of the call

    none-filled : (found : Option Reply) (stage : Stage) → stage_of Coupled shape call q ≡ OnKey stage
        → KnowsAt found (is_insert call) c calm stage
        → (b : ℕ) (k : Kind)
        → filled_by Coupled shape call q ≡ (b, k) ∷ [] → ⊥
    none-filled found stage at k b kind e = no-items (sym (fills-none found c (is_insert call) calm stage k) ∙ (ap fills (sym at) ∙ e))

    its-held : (stage : Stage) → stage_of Coupled shape call q ≡ OnKey stage → (h : HeldRow)
        → IsAmong h (held_at_stage true (is_insert call) stage)
        → IsAmong (lock_of h) (held_by Coupled shape call q)
    its-held stage at h a = subst (λ x. IsAmong (lock_of h) (holds c x)) (sym at)
        (among-lock h (held_at_stage true (is_insert call) stage) a)

    -- the words of rows after their versions stay
    words-stay : (found : Option Reply) (stage : Stage) → stage_of Coupled shape call q ≡ OnKey stage
        → KnowsAt found (is_insert call) c calm stage → (base : ℕ)
        (kind : Kind) → kind_at shape base ≡ Some kind → SameRow s.words t.words base kind
    words-stay found stage at k = own-same shape s t p first calm after f call q o (none-filled found stage at k) stores
      where
        stores : (word value : ℕ) (mark : Option Point) → call_turn c (stage_of Coupled shape call q) ≡ Asks (Store word value) mark
            → (y : HeldRow) × IsAmong y (held_by Coupled shape call q) × (word ≡ y.base)
        stores word value mark e = go (knows-does found c refl (is_insert call) calm stage k)
          where
            here : turn_at c stage ≡ Asks (Store word value) mark
            here = ap (call_turn c) (sym at) ∙ e

            go : DoesAt c (is_insert call) stage → (y : HeldRow) × IsAmong y (held_by Coupled shape call q) × (word ≡ y.base)
            go (DoesLoad other l x) = absurd (load-store (sym x ∙ here))
            go (DoesSwap t u x) = absurd (exchange-store (ap (turn_at c) (sym x) ∙ here))
            go (DoesAnswer reply x) = absurd (answers-asks (sym x ∙ here))
            go (DoesRelease h l among x) = (lock_of h, its-held stage at h among, store-word (sym here ∙ x))

    tree-stays : (found : Option Reply) (stage : Stage) (a : Access) (mark : Option Point) → stage_of Coupled shape call q ≡ OnKey stage
        → KnowsWay c calm s.words found stage → turn_at c stage ≡ Asks a mark → All (λ w. w < 2 ^ 64) after
        → t.words ≡ slice_set s.words (word_of a) (changed a (slice_index s.words (word_of a))) → KeepsTree shape calm after
    tree-stays found stage a mark at k turn small words = go (knows-does found c refl (is_insert call) calm stage k.way)
      where
        here : call_turn c (stage_of Coupled shape call q) ≡ turn_at c stage
        here = ap (call_turn c) at

        without : ((word value : ℕ) (m : Option Point) → turn_at c stage ≡ Asks (Store word value) m → ⊥) → KeepsTree shape calm after
        without none = keeps-without shape s t p first calm after f call q o claims rest small (λ word value m e. none word
            value m (sym here ∙ e))

        go : DoesAt c (is_insert call) stage → KeepsTree shape calm after
        go (DoesLoad other l x) = without (λ word value m e. load-store (sym x ∙ e))
        go (DoesSwap t u x) = without (λ word value m e. exchange-store (ap (turn_at c) (sym x) ∙ e))
        go (DoesAnswer reply x) = without (λ word value m e. answers-asks (sym x ∙ e))
        go (DoesRelease h l among x) =
            let own = among-each (IsHeldLive calm s.words) h (held_at_stage true (is_insert call) stage) among k.rows in
            let held-here = its-held stage at h among in
            let settled = kept-row shape s t p first calm after f p call q o (lock_of h) held-here in
            let row = settled-row Coupled shape s h.base h.kind settled in
            let access : a ≡ Store h.base (released_word h.kept) = asks-same (sym turn ∙ x) in
            let inside : h.base < length s.words = omega (arith, row-inside shape h.base h.kind row, f.sound.long) in
            keeps-released shape s t p first calm after f call q o claims rest small (lock_of h) held-here
            (record { same = own.same; live = own.live })
            (words-stay found stage at k.way h.base h.kind row)
            (ap (λ ws. slice_index ws h.base) words
            ∙ (ap (λ b. slice_index (slice_set s.words (word_of b) (changed b (slice_index s.words (word_of b)))) h.base) access
            ∙ stored-at s.words h.base (released_word h.kept) inside))
            l (here ∙ x)

-- ---- after the step

-- a call that has not found its reply asks for an access
stage-asks : (c : Setting) → locks c.variant ≡ true → (i : Bool) (calm : List ℕ) (stage : Stage) → KnowsStage i c calm stage
    → (a : Access) × (mark : Option Point) × (turn_at c stage ≡ Asks a mark)
stage-asks c l i calm (Lock t true) k = (_, _, refl)
stage-asks c l i calm (Lock t false) k = (_, _, refl)
stage-asks c l i calm (Exchange t v) k = (_, _, refl)
stage-asks c l i calm (Between d kept) k = (_, _, ap (λ b. between_turn b d) l)
stage-asks c l i calm (Info d kept) k = (_, _, refl)
stage-asks c l i calm (Find p) k = let x = find-loads p.row.kind c p.row in (_, _, x.1)
stage-asks c l i calm (FindKeys p count) k = (_, _, refl)
stage-asks c l i calm (FindMore p count first) k = (_, _, refl)
stage-asks c l i calm (FindCount p index) k = (_, _, refl)
stage-asks c l i calm (Slot p slot) k = (_, _, refl)
stage-asks c l i calm (LetGo above p f) k = (_, _, refl)
stage-asks c l i calm stage k = absurd k

-- few claims of each kind were made
few-claims : (shape : Shape) (s t : State) (p : ℕ) (first calm after : List ℕ) (f : Facts shape s t p first calm after)
    → HasFewClaims (f.count + 2) after
few-claims shape s t p first calm after f kind =
    let few = f.behind.claims kind in
    omega (arith, few, f.then.low (claims_of kind) (claims-few kind))

module _ (plan : Plan) (start : Contents) (words schedule : List ℕ) (p : ℕ) (s t : State) (claims : ℕ) (m : Contents)
    (h : IsCoupledStep plan start words schedule p s t claims m) where
  abbrev calm : List ℕ
  calm = calm_of plan words schedule

  abbrev after : List ℕ
  after = calm_of plan words (schedule ++ p ∷ [])

  f : Facts plan.shape s t p words calm after
  f = facts plan start words schedule p s t claims m h

  -- the rows that the call holds after the step are still
  rows-still : (call : Call) (r : ℕ) (effect : Option Effect) (next : Stage) (x : IsAtStage Coupled plan.shape t r call (OnKey next))
      → ((h : HeldRow) → IsAmong (lock_of h) (held_by Coupled plan.shape call x.process) → SameRow s.words t.words h.base h.kind
      × (IsGoneBy effect h.base → ⊥))
      → Each (IsStill calm s.words after t.words effect) (held_at_stage true (is_insert call) next)
  rows-still call r effect next x same = each-among _ (held_at_stage true (is_insert call) next) (λ h a.
      let among = subst (λ y. IsAmong (lock_of h) (holds (setting plan.shape Coupled call) y)) (sym x.at)
      (among-lock h (held_at_stage true (is_insert call) next) a) in
      let y = same h among in
      record { row = held-calm plan.shape s t p words calm after f r call x.process x.is_open (lock_of h) among; same = y.0; stays = y.1 })

  module _ (leaving : ℕ → Option ℕ) (leave : ObsoleteLeave plan.shape s calm leaving) (call : Call) (stage : Stage)
      (at : IsAtStage Coupled plan.shape s p call (OnKey stage))
      (found : Option Reply) (k : KnowsWay (setting plan.shape Coupled call) calm s.words found stage)
      (a : Access) (mark : Option Point) (turn : turn_at (setting plan.shape Coupled call) stage ≡ Asks a mark) where
    abbrev its : Setting
    its = setting plan.shape Coupled call

    abbrev got : ℕ
    got = told a (slice_index s.words (word_of a))

    access-made : IsMade plan.shape s t p call at.process a
    access-made = made plan p s t call at.process a mark h.coupled h.run.made at.is_open (ap (call_turn its) at.at ∙ turn)

    next-at : IsAtStage Coupled plan.shape t p call (OnKey (stage_after its stage got))
    next-at = record {
      process = access-made.process;
      is_open = access-made.is_open;
      at = access-made.at ∙ ap
          (λ x. call_after its x got) at.at;
    }

    keeps-tree : KeepsTree plan.shape calm after
    keeps-tree = tree-stays plan.shape s t p words calm after f claims h.rests leaving leave call at.process at.is_open found stage a mark
        at.at k turn f.then.small
        access-made.words

    own-gets : Gets its calm s.words stage got
    own-gets = gets-at plan.shape s t p words calm after f claims h.rests leaving leave call at.process at.is_open found stage a
        mark at.at k.way turn

    own-still-rows : Each (IsStill calm s.words after t.words None) (held_at_stage true (is_insert call) (stage_after its stage got))
    own-still-rows = rows-still call p None (stage_after its stage got) next-at (λ x among.
        let settled = (held-is-kept (IsSettled Coupled plan.shape t) its (stage_of Coupled plan.shape call next-at.process)
        (f.behind.knows p call next-at.process next-at.is_open) (lock_of x) among).1 in (
          words-stay plan.shape s t p words calm after f claims h.rests leaving leave call at.process at.is_open found stage at.at
              k.way x.base x.kind
              (settled-row Coupled plan.shape t x.base x.kind settled),
          λ y. y,
        ))

    module _ (trees : KeptTreesFollow) where
      own-follows : Follows plan.shape (f.count + 2) calm after m (IsGoneBy None) (ComesInBy None)
      own-follows = trees plan.shape claims (f.count + 2) calm after m h.rests h.means keeps-tree (few-claims plan.shape s t p
          words calm after f)

      knows-then : (o : Option Reply) → KnowsWay its calm s.words o (stage_after its stage got)
          → KnowsWay its after t.words o (stage_after its stage got)
      knows-then o x = ways-are-kept plan.shape call (f.count + 2) calm s.words after t.words m None o (stage_after its stage got)
          own-follows own-still-rows x

      own-of : (hs : List HeldRow) → Each (IsStill calm s.words after t.words None) hs → Each (IsHeldLive calm s.words) hs
          → Each (IsHeldLive after t.words) hs
      own-of [] x o = tt
      own-of (y ∷ hs) x o = (own-still calm s.words after t.words y x.0.row x.0.same o.0, own-of hs x.1 o.1)

      goes-then : Goes its calm s.words m (stage_after its stage got) → Goes its after t.words m (stage_after its stage got)
      goes-then (GoesOn x) = GoesOn (knows-then None x)
      goes-then (Finds r does x) = Finds r does (knows-then (Some r) x)
      goes-then (Works hold work e b own) =
          let still = subst (Each (IsStill calm s.words after t.words None))
          (ap (held_at_stage true (is_insert call)) e ∙ works-hold (is_insert call) its hold
          work)
          own-still-rows in
          Works hold work e (begins-kept its (f.count + 2) calm after m (IsGoneBy None) (ComesInBy None) own-follows hold work
          (each-map (λ (x : HeldRow) y. y.row) (rows_of_hold hold) still) (each-map (λ (x : HeldRow) y. y.stays) (rows_of_hold hold) still) b)
          (own-of (rows_of_hold hold) still own)

pub calls-go-on : KeptTreesFollow → WaysLeadToValues → LeavesAreSmall → CallsGoOn
calls-go-on trees ways leaves plan start words schedule p s t claims m leaving call stage h leave tree key-call at k =
    let c = setting plan.shape Coupled call in
    let x = stage-asks c refl (is_insert call) (calm_of plan words schedule) stage k.way in
    let fits = (knows-key plan.shape s t p words _ _ (f plan start words schedule p s t claims m h) claims h.rests leaving leave call
    at.process at.is_open
    stage at.at).fits in
    record {
      next = stage_after c stage _;
      at = next-at plan start words schedule p s t claims m h leaving leave call stage at None k x.0 x.1 x.2;
      keeps = keeps-tree plan start words schedule p s t claims m h leaving leave call stage at None k x.0 x.1 x.2;
      goes = goes-then plan start words schedule p s t claims m h leaving leave call stage at None k x.0 x.1 x.2 trees
          (ways-go-on ways leaves plan.shape call claims (calm_of plan words schedule) s.words m stage _ tree key-call
          h.rests h.means fits k
          (own-gets plan start words schedule p s t claims m h leaving leave call stage at None k x.0 x.1 x.2));
    }

pub calls-stay : KeptTreesFollow → CallsStay
calls-stay trees plan start words schedule p s t claims m leaving call stage reply a mark h leave at k turn =
    let c = setting plan.shape Coupled call in
    record {
      next = stage_after c stage _;
      at = next-at plan start words schedule p s t claims m h leaving leave call stage at (Some reply) k a mark turn;
      keeps = keeps-tree plan start words schedule p s t claims m h leaving leave call stage at (Some reply) k a mark turn;
      knows = knows-then plan start words schedule p s t claims m h leaving leave call stage at (Some reply) k a mark turn
          trees (Some reply)
          (findings-stay plan.shape call claims (calm_of plan words schedule) s.words stage _ reply h.rests k
          (own-gets plan start words schedule p s t claims m h leaving leave call stage at (Some reply) k a mark turn));
    }

pub others-leave-ways : OthersLeaveWays
others-leave-ways plan start words schedule p s t claims m r call stage found pairs effect h apart at k goes =
    (next, ways-are-kept plan.shape call goes.claims _ s.words _ t.words (pairs_by effect pairs) effect found stage goes.follows still k)
  where
    known : Facts plan.shape s t p words (calm_of plan words schedule) (calm_of plan words (schedule ++ p ∷ []))
    known = f plan start words schedule p s t claims m h

    next : IsAtStage Coupled plan.shape t r call (OnKey stage)
    next = record { process = at.process; is_open = others-open plan p r s t call at.process h.run.made apart at.is_open; at = at.at }

    live : (x : HeldRow) → IsAmong x (held_at_stage true (is_insert call) stage) → is_obsolete x.kept ≡ false
    live x a = (among-each _ x (held_at_stage true (is_insert call) stage) a k.rows).live

    still : Each (IsStill (calm_of plan words schedule) s.words (calm_of plan words (schedule ++ p ∷ [])) t.words effect)
        (held_at_stage true (is_insert call)
        stage)
    still = each-among _ (held_at_stage true (is_insert call) stage) (λ x a.
        let among = subst (λ y. IsAmong (lock_of x) (holds (setting plan.shape Coupled call) y)) (sym at.at)
        (among-lock x (held_at_stage true (is_insert call) stage) a) in
        record {
          row = held-calm plan.shape s t p words _ _ known r call at.process next.is_open (lock_of x) among;
          same = others-same plan.shape s t p words _ _ known r call at.process apart at.is_open (lock_of x) among;
          stays = λ gone. false≢true
              (sym (held-live plan.shape s t p words _ _ known r call at.process next.is_open (lock_of x) among (live x a))
              ∙ goes.gone x.base gone);
        })

pub found-is-answered : FoundIsAnswered
found-is-answered shape call table words stage reply answer k turn = go stage k.way turn
  where
    its : {r other : Reply} → Answers r ≡ Answers other → other ≡ r
    its e = cc

    asks : {a : Access} {mark : Option Point} {r : Reply} → Asks a mark ≡ Answers r → ⊥
    asks e = cc

    go : (stage : Stage) → KnowsReply reply (is_insert call) (setting shape Coupled call) table stage
        → turn_at (setting shape Coupled call) stage ≡ Answers answer
        → answer ≡ reply
    go (Info d kept) k e = absurd (asks e)
    go (Unlock h outcome) k e = absurd (asks e)
    go (Over outcome) k e = its e ∙ sym k
    go stage k e = absurd k

pub seekers-are-not-answered : SeekersAreNotAnswered
seekers-are-not-answered shape call table words stage reply k turn =
    let (a, mark, asks) = stage-asks (setting shape Coupled call) refl (is_insert call) table stage k.way in
    answers-asks (sym turn ∙ asks)

-- ---- the rows that a call on its way takes and holds are reached

pub ways-take-reached : WaysTakeReached
ways-take-reached plan start words schedule p s t claims m call stage found h at k x asks is =
    row-swapped found (setting plan.shape Coupled call) refl (is_insert call) (calm_of plan words schedule) stage k.way x.base x.kept
    (locked_word x.kept)
    asks.mark
    (ap (call_turn (setting plan.shape Coupled call)) (sym at.at)
    ∙ its-turn plan.shape s t p words _ _ (f plan start words schedule p s t claims m h) call at.process at.is_open
    (Swap x.base x.kept (locked_word x.kept)) asks)

pub calls-begin : CallsBegin
calls-begin shape call table words e = (begun call refl e, record { way = tt; rows = tt })
  where
    begun : (other : Call) → call ≡ other → is_scan other ≡ false → begun_as other (setting shape Coupled call) ≡ OnKey (Lock Root true)
    begun (Get key) is e = refl
    begun (Insert key value) is e = refl
    begun (Remove key) is e = refl
    begun (Replace key old new) is e = refl
    begun (Scan low high) is e = absurd (false≢true (sym e))
