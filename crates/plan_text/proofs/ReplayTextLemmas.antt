-- A text spells one replay only, and has one fault.
use Rattle.plans.specs.declared.fault.MachineFault.TheVariants as faults
use Rattle.plan_text.proofs.Common.{◌≡◌, ℕ, List, map, get_or, Option, Some, None, is_some, Result, IfOk, IfNone, IfSome, Ok, Err, refl, sym, ap, ◌∙◌}
use Rattle.plan_text.proofs.Common.{subst, arith, Data, string, Call, Contents, number_data, list_data, IsJson, list_data_injective, same_value}
use Rattle.plan_text.proofs.Common.{map_injective, Shape, Point, Child, Check, LockRoot, LockRow, Unlock, Answer, Variant, Coupled, Optimistic}
use Rattle.plan_text.proofs.Common.{ReadUnchecked, ScanUnvalidated, LockUnchecked, EarlyRelease, Item, Turns, End, Until, ReplayView, shown}
use Rattle.plan_text.proofs.Common.{variant_name, point_name, item_data, rows_data, Parts, document, SpellsStart, ArePartsOf, SpellsReplayAs}
use Rattle.plan_text.proofs.Common.{SpellsReplay}
use Rattle.plans.specs.declared.fault.MachineFault.{MachineFault}
use Rattle.plan_text.proofs.AmongLemmas.{none-follows}
use Rattle.plan_text.proofs.JsonLemmas.{long_or_short, long_or_json, none_or_json}
use Rattle.plan_text.proofs.PlanTextLemmas.{scripts_data_injective}
use Rattle.plan_text.specs.declared.replay.Replay.{Replay}
use Rattle.plan_text.specs.ReplayTextFaults.{SpellsNoReplay, IsReplayTextFault}
use Rattle.plan_text.specs.ReplayTextLaws.{SpellsOneReplay, HasOneReplayFault, FaultySpellsNoReplay}
use Rattle.plan_text.proofs.PartLemmas.{same_pairs}

-- ---- the parts of a document

abbrev pub parts_of : Data → Data → Data → Data → Option Data → Data → Parts
parts_of l w s c a v = record { limit = l; rows = w; schedule = s; scripts = c; start = a; variant = v }

same_parts : (l w s c : Data) (a : Option Data) (v l2 w2 s2 c2 : Data) (b : Option Data) (v2 : Data)
    → document (parts_of l w s c a v) ≡ document (parts_of l2 w2 s2 c2 b v2) → parts_of l w s c a v ≡ parts_of l2 w2 s2 c2 b v2
same_parts l w s c None v l2 w2 s2 c2 None v2 h = cc
same_parts l w s c None v l2 w2 s2 c2 (Some e2) v2 h = cc
same_parts l w s c (Some e) v l2 w2 s2 c2 None v2 h = cc
same_parts l w s c (Some e) v l2 w2 s2 c2 (Some e2) v2 h = cc

-- a document has these parts only
pub document_injective : (p q : Parts) → document p ≡ document q → p ≡ q
document_injective p q h = same_parts p.limit p.rows p.schedule p.scripts p.start p.variant q.limit q.rows q.schedule q.scripts
    q.start q.variant h

-- a value that is no document of either version spells no replay
pub no_document : (d : Data)
    → ((l w s c v : Data) → d ≡ document (parts_of l w s c None v) → ⊥)
    → ((l w s c e v : Data) → d ≡ document (parts_of l w s c (Some e) v) → ⊥)
    → SpellsNoReplay d
no_document d alone with_start r spells = by_start spells.parts.limit spells.parts.rows spells.parts.schedule spells.parts.scripts
    spells.parts.start
    spells.parts.variant spells.value
  where
    by_start : (l w s c : Data) (a : Option Data) (v : Data) → d ≡ document (parts_of l w s c a v) → ⊥
    by_start l w s c None v h = alone l w s c v h
    by_start l w s c (Some e) v h = with_start l w s c e v h

-- what the parts of a value spell, the value spells
pub spelled_as : {E : Type 0} (d : Data) (p : Parts) (pairs : Contents) (r : Result (Option Replay) E) → d ≡ document p
    → SpellsStart p.start pairs
    → IfOk r (λ found. IfSome found (λ x. (s : Option Data) → is_some s ≡ is_some p.start → SpellsStart s pairs
    → ArePartsOf (parts_of p.limit p.rows p.schedule p.scripts s p.variant) (shown x)))
    → IfOk r (λ found. IfSome found (λ x. SpellsReplayAs d (shown x)))
spelled_as d p pairs (Ok None) h start some = tt
spelled_as d p pairs (Ok (Some x)) h start some = record { parts = p; value = h; spelled = some p.start refl start }
spelled_as d p pairs (Err e) h start some = tt

-- if its parts spell no replay, the value spells none
pub none_as : {E : Type 0} (d : Data) (p : Parts) (pairs : Contents) (r : Result (Option Replay) E) → d ≡ document p
    → ((x : ReplayView) → SpellsStart p.start x.start → x.start ≡ pairs)
    → IfOk r (λ found. IfNone found ((s : Option Data) (x : ReplayView) → is_some s ≡ is_some p.start → x.start ≡ pairs
    → ArePartsOf (parts_of p.limit p.rows p.schedule p.scripts s p.variant) x → ⊥))
    → IfOk r (λ found. IfNone found (SpellsNoReplay d))
none_as d p pairs r h starts none = none-follows r (λ no x spells.
    let here : ArePartsOf p x = subst (λ (q : Parts). ArePartsOf q x) (document_injective spells.parts p
    (sym spells.value ∙ h)) spells.spelled in
    no p.start x refl (starts x here.start) here) none

-- ---- one replay

-- a name is that of one variant only
variant_injective : (a b : Variant) → variant_name a ≡ variant_name b → a ≡ b
variant_injective Coupled Coupled h = refl
variant_injective Coupled Optimistic h = let letter : 99 ≡ 111 = ap (λ (name : List ℕ). get_or name 0 0) h in absurd (omega (arith, letter))
variant_injective Coupled ReadUnchecked h = let letter : 99 ≡ 114 =
    ap (λ (name : List ℕ). get_or name 0 0) h in absurd (omega (arith, letter))
variant_injective Coupled ScanUnvalidated h = let letter : 99 ≡ 115 =
    ap (λ (name : List ℕ). get_or name 0 0) h in absurd (omega (arith, letter))
variant_injective Coupled LockUnchecked h = let letter : 99 ≡ 108 =
    ap (λ (name : List ℕ). get_or name 0 0) h in absurd (omega (arith, letter))
variant_injective Coupled EarlyRelease h = let letter : 99 ≡ 101 =
    ap (λ (name : List ℕ). get_or name 0 0) h in absurd (omega (arith, letter))
variant_injective Optimistic Coupled h = let letter : 111 ≡ 99 = ap (λ (name : List ℕ). get_or name 0 0) h in absurd (omega (arith, letter))
variant_injective Optimistic Optimistic h = refl
variant_injective Optimistic ReadUnchecked h = let letter : 111 ≡ 114 =
    ap (λ (name : List ℕ). get_or name 0 0) h in absurd (omega (arith, letter))
variant_injective Optimistic ScanUnvalidated h = let letter : 111 ≡ 115 =
    ap (λ (name : List ℕ). get_or name 0 0) h in absurd (omega (arith, letter))
variant_injective Optimistic LockUnchecked h = let letter : 111 ≡ 108 =
    ap (λ (name : List ℕ). get_or name 0 0) h in absurd (omega (arith, letter))
variant_injective Optimistic EarlyRelease h = let letter : 111 ≡ 101 =
    ap (λ (name : List ℕ). get_or name 0 0) h in absurd (omega (arith, letter))
variant_injective ReadUnchecked Coupled h = let letter : 114 ≡ 99 =
    ap (λ (name : List ℕ). get_or name 0 0) h in absurd (omega (arith, letter))
variant_injective ReadUnchecked Optimistic h = let letter : 114 ≡ 111 =
    ap (λ (name : List ℕ). get_or name 0 0) h in absurd (omega (arith, letter))
variant_injective ReadUnchecked ReadUnchecked h = refl
variant_injective ReadUnchecked ScanUnvalidated h = let letter : 114 ≡ 115 =
    ap (λ (name : List ℕ). get_or name 0 0) h in absurd (omega (arith, letter))
variant_injective ReadUnchecked LockUnchecked h = let letter : 114 ≡ 108 =
    ap (λ (name : List ℕ). get_or name 0 0) h in absurd (omega (arith, letter))
variant_injective ReadUnchecked EarlyRelease h = let letter : 114 ≡ 101 =
    ap (λ (name : List ℕ). get_or name 0 0) h in absurd (omega (arith, letter))
variant_injective ScanUnvalidated Coupled h = let letter : 115 ≡ 99 =
    ap (λ (name : List ℕ). get_or name 0 0) h in absurd (omega (arith, letter))
variant_injective ScanUnvalidated Optimistic h = let letter : 115 ≡ 111 =
    ap (λ (name : List ℕ). get_or name 0 0) h in absurd (omega (arith, letter))
variant_injective ScanUnvalidated ReadUnchecked h = let letter : 115 ≡ 114 =
    ap (λ (name : List ℕ). get_or name 0 0) h in absurd (omega (arith, letter))
variant_injective ScanUnvalidated ScanUnvalidated h = refl
variant_injective ScanUnvalidated LockUnchecked h = let letter : 115 ≡ 108 =
    ap (λ (name : List ℕ). get_or name 0 0) h in absurd (omega (arith, letter))
variant_injective ScanUnvalidated EarlyRelease h = let letter : 115 ≡ 101 =
    ap (λ (name : List ℕ). get_or name 0 0) h in absurd (omega (arith, letter))
variant_injective LockUnchecked Coupled h = let letter : 108 ≡ 99 =
    ap (λ (name : List ℕ). get_or name 0 0) h in absurd (omega (arith, letter))
variant_injective LockUnchecked Optimistic h = let letter : 108 ≡ 111 =
    ap (λ (name : List ℕ). get_or name 0 0) h in absurd (omega (arith, letter))
variant_injective LockUnchecked ReadUnchecked h = let letter : 108 ≡ 114 =
    ap (λ (name : List ℕ). get_or name 0 0) h in absurd (omega (arith, letter))
variant_injective LockUnchecked ScanUnvalidated h = let letter : 108 ≡ 115 =
    ap (λ (name : List ℕ). get_or name 0 0) h in absurd (omega (arith, letter))
variant_injective LockUnchecked LockUnchecked h = refl
variant_injective LockUnchecked EarlyRelease h = let letter : 108 ≡ 101 =
    ap (λ (name : List ℕ). get_or name 0 0) h in absurd (omega (arith, letter))
variant_injective EarlyRelease Coupled h = let letter : 101 ≡ 99 =
    ap (λ (name : List ℕ). get_or name 0 0) h in absurd (omega (arith, letter))
variant_injective EarlyRelease Optimistic h = let letter : 101 ≡ 111 =
    ap (λ (name : List ℕ). get_or name 0 0) h in absurd (omega (arith, letter))
variant_injective EarlyRelease ReadUnchecked h = let letter : 101 ≡ 114 =
    ap (λ (name : List ℕ). get_or name 0 0) h in absurd (omega (arith, letter))
variant_injective EarlyRelease ScanUnvalidated h = let letter : 101 ≡ 115 =
    ap (λ (name : List ℕ). get_or name 0 0) h in absurd (omega (arith, letter))
variant_injective EarlyRelease LockUnchecked h = let letter : 101 ≡ 108 =
    ap (λ (name : List ℕ). get_or name 0 0) h in absurd (omega (arith, letter))
variant_injective EarlyRelease EarlyRelease h = refl

-- a name is that of one point only
point_injective : (a b : Point) → point_name a ≡ point_name b → a ≡ b
point_injective Child Child h = refl
point_injective Child Check h = let letter : 105 ≡ 101 = ap (λ (name : List ℕ). get_or name 2 0) h in absurd (omega (arith, letter))
point_injective Child LockRoot h = let letter : 99 ≡ 108 = ap (λ (name : List ℕ). get_or name 0 0) h in absurd (omega (arith, letter))
point_injective Child LockRow h = let letter : 99 ≡ 108 = ap (λ (name : List ℕ). get_or name 0 0) h in absurd (omega (arith, letter))
point_injective Child Unlock h = let letter : 99 ≡ 117 = ap (λ (name : List ℕ). get_or name 0 0) h in absurd (omega (arith, letter))
point_injective Child Answer h = let letter : 99 ≡ 97 = ap (λ (name : List ℕ). get_or name 0 0) h in absurd (omega (arith, letter))
point_injective Check Child h = let letter : 101 ≡ 105 = ap (λ (name : List ℕ). get_or name 2 0) h in absurd (omega (arith, letter))
point_injective Check Check h = refl
point_injective Check LockRoot h = let letter : 99 ≡ 108 = ap (λ (name : List ℕ). get_or name 0 0) h in absurd (omega (arith, letter))
point_injective Check LockRow h = let letter : 99 ≡ 108 = ap (λ (name : List ℕ). get_or name 0 0) h in absurd (omega (arith, letter))
point_injective Check Unlock h = let letter : 99 ≡ 117 = ap (λ (name : List ℕ). get_or name 0 0) h in absurd (omega (arith, letter))
point_injective Check Answer h = let letter : 99 ≡ 97 = ap (λ (name : List ℕ). get_or name 0 0) h in absurd (omega (arith, letter))
point_injective LockRoot Child h = let letter : 108 ≡ 99 = ap (λ (name : List ℕ). get_or name 0 0) h in absurd (omega (arith, letter))
point_injective LockRoot Check h = let letter : 108 ≡ 99 = ap (λ (name : List ℕ). get_or name 0 0) h in absurd (omega (arith, letter))
point_injective LockRoot LockRoot h = refl
point_injective LockRoot LockRow h = let letter : 111 ≡ 119 = ap (λ (name : List ℕ). get_or name 7 0) h in absurd (omega (arith, letter))
point_injective LockRoot Unlock h = let letter : 108 ≡ 117 = ap (λ (name : List ℕ). get_or name 0 0) h in absurd (omega (arith, letter))
point_injective LockRoot Answer h = let letter : 108 ≡ 97 = ap (λ (name : List ℕ). get_or name 0 0) h in absurd (omega (arith, letter))
point_injective LockRow Child h = let letter : 108 ≡ 99 = ap (λ (name : List ℕ). get_or name 0 0) h in absurd (omega (arith, letter))
point_injective LockRow Check h = let letter : 108 ≡ 99 = ap (λ (name : List ℕ). get_or name 0 0) h in absurd (omega (arith, letter))
point_injective LockRow LockRoot h = let letter : 119 ≡ 111 = ap (λ (name : List ℕ). get_or name 7 0) h in absurd (omega (arith, letter))
point_injective LockRow LockRow h = refl
point_injective LockRow Unlock h = let letter : 108 ≡ 117 = ap (λ (name : List ℕ). get_or name 0 0) h in absurd (omega (arith, letter))
point_injective LockRow Answer h = let letter : 108 ≡ 97 = ap (λ (name : List ℕ). get_or name 0 0) h in absurd (omega (arith, letter))
point_injective Unlock Child h = let letter : 117 ≡ 99 = ap (λ (name : List ℕ). get_or name 0 0) h in absurd (omega (arith, letter))
point_injective Unlock Check h = let letter : 117 ≡ 99 = ap (λ (name : List ℕ). get_or name 0 0) h in absurd (omega (arith, letter))
point_injective Unlock LockRoot h = let letter : 117 ≡ 108 = ap (λ (name : List ℕ). get_or name 0 0) h in absurd (omega (arith, letter))
point_injective Unlock LockRow h = let letter : 117 ≡ 108 = ap (λ (name : List ℕ). get_or name 0 0) h in absurd (omega (arith, letter))
point_injective Unlock Unlock h = refl
point_injective Unlock Answer h = let letter : 117 ≡ 97 = ap (λ (name : List ℕ). get_or name 0 0) h in absurd (omega (arith, letter))
point_injective Answer Child h = let letter : 97 ≡ 99 = ap (λ (name : List ℕ). get_or name 0 0) h in absurd (omega (arith, letter))
point_injective Answer Check h = let letter : 97 ≡ 99 = ap (λ (name : List ℕ). get_or name 0 0) h in absurd (omega (arith, letter))
point_injective Answer LockRoot h = let letter : 97 ≡ 108 = ap (λ (name : List ℕ). get_or name 0 0) h in absurd (omega (arith, letter))
point_injective Answer LockRow h = let letter : 97 ≡ 108 = ap (λ (name : List ℕ). get_or name 0 0) h in absurd (omega (arith, letter))
point_injective Answer Unlock h = let letter : 97 ≡ 117 = ap (λ (name : List ℕ). get_or name 0 0) h in absurd (omega (arith, letter))
point_injective Answer Answer h = refl

abbrev shape_with : ℕ → ℕ → ℕ → ℕ → Shape
shape_with a b c d = record { rows4 = a; rows16 = b; rows48 = c; rows256 = d }

same_shape : (a b : Shape) → a.rows4 ≡ b.rows4 → a.rows16 ≡ b.rows16 → a.rows48 ≡ b.rows48 → a.rows256 ≡ b.rows256
    → shape_with a.rows4 a.rows16 a.rows48 a.rows256 ≡ shape_with b.rows4 b.rows16 b.rows48 b.rows256
same_shape a b four sixteen forty_eight full = rw (four, sixteen, forty_eight, full) refl

-- numbers of rows are those of one shape only
shape_injective : (a b : Shape) → rows_data a ≡ rows_data b → a ≡ b
shape_injective a b h =
    let four : a.rows4 ≡ b.rows4 = cc in
    let sixteen : a.rows16 ≡ b.rows16 = cc in
    let forty_eight : a.rows48 ≡ b.rows48 = cc in
    let full : a.rows256 ≡ b.rows256 = cc in
    same_shape a b four sixteen forty_eight full

-- a value spells one item only
item_injective : (a b : Item) → item_data a ≡ item_data b → a ≡ b
item_injective (Turns p n) (Turns q m) h = cc
item_injective (Turns p n) (End q) h = cc
item_injective (Turns p n) (Until q y) h = cc
item_injective (End p) (Turns q m) h = cc
item_injective (End p) (End q) h = cc
item_injective (End p) (Until q y) h = cc
item_injective (Until p x) (Turns q m) h = cc
item_injective (Until p x) (End q) h = cc
item_injective (Until p x) (Until q y) h =
    let names : point_name x ≡ point_name y = cc in
    let same : x ≡ y = point_injective x y names in
    cc

schedule_injective : (a b : List Item) → list_data (map item_data a) ≡ list_data (map item_data b) → a ≡ b
schedule_injective a b h = map_injective item_data item_injective a b (list_data_injective (map item_data a) (map item_data b) h)

start_injective : (s : Option Data) (a b : Contents) → SpellsStart s a → SpellsStart s b → a ≡ b
start_injective None a b h k = h ∙ sym k
start_injective (Some d) a b h k = same_pairs d b a k h

limit_injective : (d : Data) (a b : ℕ) → d ≡ number_data a → d ≡ number_data b → a ≡ b
limit_injective d a b h k = cc

name_injective : (d : Data) (a b : Variant) → d ≡ string (variant_name a) → d ≡ string (variant_name b) → a ≡ b
name_injective d a b h k = let names : variant_name a ≡ variant_name b = cc in variant_injective a b names

abbrev view_of : ℕ → Shape → Variant → Contents → List (List Call) → List Item → ReplayView
view_of limit shape variant start scripts schedule =
    record { limit = limit; shape = shape; variant = variant; start = start; scripts = scripts; schedule = schedule }

same_view : (a b : ReplayView) → a.limit ≡ b.limit → a.shape ≡ b.shape → a.variant ≡ b.variant → a.start ≡ b.start → a.scripts ≡ b.scripts
    → a.schedule ≡ b.schedule → view_of a.limit a.shape a.variant a.start a.scripts a.schedule ≡ view_of b.limit b.shape b.variant b.start
    b.scripts b.schedule
same_view a b limit shape variant start scripts schedule = rw (limit, shape, variant, start, scripts, schedule) refl

-- parts are those of one replay only
same_replay : (p : Parts) (a b : ReplayView) → ArePartsOf p a → ArePartsOf p b → a ≡ b
same_replay p a b h k = same_view a b
    (limit_injective p.limit a.limit b.limit h.limit k.limit)
    (shape_injective a.shape b.shape (sym h.rows ∙ k.rows))
    (name_injective p.variant a.variant b.variant h.variant k.variant)
    (start_injective p.start a.start b.start h.start k.start)
    (scripts_data_injective a.scripts b.scripts (sym h.scripts.value ∙ k.scripts.value))
    (schedule_injective a.schedule b.schedule (sym h.schedule ∙ k.schedule))

-- a text spells one replay only
pub one_replay : SpellsOneReplay
one_replay text a b first second =
    let values = same_value text first.value second.value first.json second.json in
    let same = document_injective second.spelled.parts first.spelled.parts
    (sym second.spelled.value ∙ (sym values ∙ first.spelled.value)) in
    same_replay first.spelled.parts a b first.spelled.spelled (subst (λ (q : Parts). ArePartsOf q b) same second.spelled.spelled)

-- ---- one fault

-- a value that spells no replay is not that of a text that spells one
no_form : (text : List ℕ) (d : Data) (r : ReplayView) → IsJson text d → SpellsNoReplay d → SpellsReplay text r → ⊥
no_form text d r json none spells =
    none r (subst (λ (e : Data). SpellsReplayAs e r) (same_value text spells.value d spells.json json) spells.spelled)

-- a text that spells a replay has no fault but `Memory`
pub memory_alone : (text : List ℕ) (r : ReplayView) (fault : MachineFault) → SpellsReplay text r → IsReplayTextFault text fault
    → fault ≡ faults.Memory
memory_alone text r faults.NoProcess spells h = absurd h
memory_alone text r faults.NothingToDo spells h = absurd h
memory_alone text r faults.TurnLimit spells h = absurd h
memory_alone text r faults.StartRefused spells h = absurd h
memory_alone text r faults.Memory spells h = refl
memory_alone text r faults.TooLong spells h = absurd (long_or_json text spells.value h spells.json)
memory_alone text r faults.NotJson spells h = absurd (none_or_json text spells.value h spells.json)
memory_alone text r faults.Shape spells h = absurd (no_form text h.0 r h.1 h.2 spells)

-- a text with a fault spells no replay
pub no_replay : FaultySpellsNoReplay
no_replay text f r h other spells = other (memory_alone text r f spells h)

-- a text has one fault only, apart from `Memory`
pub one_fault : HasOneReplayFault
one_fault text faults.NoProcess g h k f_other g_other = absurd h
one_fault text faults.NothingToDo g h k f_other g_other = absurd h
one_fault text faults.TurnLimit g h k f_other g_other = absurd h
one_fault text faults.StartRefused g h k f_other g_other = absurd h
one_fault text faults.Memory g h k f_other g_other = absurd (f_other refl)
one_fault text f faults.NoProcess h k f_other g_other = absurd k
one_fault text f faults.NothingToDo h k f_other g_other = absurd k
one_fault text f faults.TurnLimit h k f_other g_other = absurd k
one_fault text f faults.StartRefused h k f_other g_other = absurd k
one_fault text f faults.Memory h k f_other g_other = absurd (g_other refl)
one_fault text faults.TooLong faults.TooLong h k f_other g_other = refl
one_fault text faults.TooLong faults.NotJson h k f_other g_other = absurd (long_or_short text h k)
one_fault text faults.TooLong faults.Shape h k f_other g_other = absurd (long_or_json text k.0 h k.1)
one_fault text faults.NotJson faults.TooLong h k f_other g_other = absurd (long_or_short text k h)
one_fault text faults.NotJson faults.NotJson h k f_other g_other = refl
one_fault text faults.NotJson faults.Shape h k f_other g_other = absurd (none_or_json text k.0 h k.1)
one_fault text faults.Shape faults.TooLong h k f_other g_other = absurd (long_or_json text h.0 k h.1)
one_fault text faults.Shape faults.NotJson h k f_other g_other = absurd (none_or_json text h.0 k h.1)
one_fault text faults.Shape faults.Shape h k f_other g_other = refl
