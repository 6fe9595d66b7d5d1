-- Stages that refuse, and where a call comes to them.
use Rattle.art_control_states.proofs.Common.{◌≡◌, ℕ, zero, suc, ◌+◌, ◌≤◌, refl, sym, ◌∙◌, Bool, true, false, arith, inl, inr, ◌⊎◌, false≢true, ◌==◌}
use Rattle.art_control_states.proofs.Common.{nat_lt, nat_le, if◌then◌else◌, Option, Some, None, slice_index, Reply, Kind, Four, Sixteen, FortyEight}
use Rattle.art_control_states.proofs.Common.{Full, Empty, ChildRow, Leaf, rows_of, claims_of, base_of, is_locked, is_obsolete, entries_of, Add, Asks}
use Rattle.art_control_states.proofs.Common.{reply_of, Setting, locks, takes_unchecked, leaves_out_check, is_insert, is_full, key_of, next_kind}
use Rattle.art_control_states.proofs.Common.{overwriting, keys_differ_at, HeldRow, Keys, Finding, Position, Hold, Pair, Down, Work, Taking, Target, Growing}
use Rattle.art_control_states.proofs.Common.{Spread, PairWord, Outcome, Stage, Root, Below, Taken, Refused, Lock, Exchange, Wait, Leave, Between, Info}
use Rattle.art_control_states.proofs.Common.{Find, FindKeys, FindMore, FindCount, Slot, Check, CheckLast, LetGo, Take, Write, ClaimPair, StorePair}
use Rattle.art_control_states.proofs.Common.{PutLoad, PutStore, PutLeaf, PutKeys, PutMore, PutCount, ClaimGrow, GrowInfo, GrowLoad, GrowStore}
use Rattle.art_control_states.proofs.Common.{SpreadIndex, SpreadLoad, SpreadStore, GrowLeaf, GrowKeys, GrowCount, Hang, Obsolete, Unlock, Over, row_at}
use Rattle.art_control_states.proofs.Common.{count_in, between_turn, find_turn, pair_turn, put_keys_turn, grow_keys_turn, grow_leaf_turn}
use Rattle.art_control_states.proofs.Common.{grow_count_turn, turn_at, start_at, release_at, moves_at, put_at, work_at, take_at, taken_at, overwrite_at}
use Rattle.art_control_states.proofs.Common.{seek_coupled, insert_coupled, let_go_at, place_coupled, overwrite_unlocked, seek_unlocked, grow_unlocked}
use Rattle.art_control_states.proofs.Common.{insert_unlocked, found_at, checked_at, among_at, indexed_at, find_at, arrived_at, entered_at, below_at}
use Rattle.art_control_states.proofs.Common.{pair_after, put_keys_after, copies_at, spreads_at, entries_at, fill_at, leaf_after, keys_at_after}
use Rattle.art_control_states.proofs.Common.{after_with, keys_one}
use Rattle.events.specs.declared.event.Reply.TheVariants as reply
use Rattle.art_rows.specs.Steps.{Turn}
use Rattle.art_control_states.specs.declared.stage.Finding.TheVariants.{Has, Lacks}
use Rattle.art_control_states.specs.declared.stage.Work.TheVariants as work
use Rattle.art_control_states.specs.declared.stage.PairWord.TheVariants as pair_word
use Rattle.art_control_states.specs.declared.stage.Outcome.TheVariants.{Value}
use Rattle.art_control_states.specs.Automaton.{store_of}

abbrev pub refuses : Stage → Bool
refuses (Unlock h (Some Refused)) = true
refuses (Over Refused) = true
refuses stage = false

none_some : ◌≡◌ {A = Option Reply} None (Some reply.Refused) → ⊥
none_some h = cc

-- no reply comes before the last stage

find_asks : (c : Setting) (kind : Kind) (n : HeldRow) → reply_of (find_turn kind c n) ≡ None
find_asks c Four n = refl
find_asks c Sixteen n = refl
find_asks c FortyEight n = refl
find_asks c Full n = refl

between_asks : (l : Bool) (d : Down) → reply_of (between_turn l d) ≡ None
between_asks true d = refl
between_asks false d = refl

pair_asks : (c : Setting) (p : Pair) (base : ℕ) (word : PairWord) → reply_of (pair_turn c p base word) ≡ None
pair_asks c p base pair_word.Info = refl
pair_asks c p base pair_word.Keys = refl
pair_asks c p base pair_word.Lesser = refl
pair_asks c p base pair_word.Greater = refl

put_keys_asks : (kind : Kind) (c : Setting) (h : Hold) (keys : Keys) → reply_of (put_keys_turn kind c h keys) ≡ None
put_keys_asks Four c h keys = refl
put_keys_asks Sixteen c h keys = refl
put_keys_asks FortyEight c h keys = refl
put_keys_asks Full c h keys = refl

store_asks : (b : Bool) (v w x y : ℕ) → reply_of (if b then store_of v w else store_of x y) ≡ None
store_asks true v w x y = refl
store_asks false v w x y = refl

grow_keys_asks : (kind : Kind) (c : Setting) (g : Growing) (j : ℕ) → reply_of (grow_keys_turn kind c g j) ≡ None
grow_keys_asks Four c g j = store_asks (j == 0) _ _ _ _
grow_keys_asks Sixteen c g j = refl
grow_keys_asks FortyEight c g j = refl
grow_keys_asks Full c g j = refl

grow_leaf_asks : (kind : Kind) (c : Setting) (g : Growing) → reply_of (grow_leaf_turn kind c g) ≡ None
grow_leaf_asks Four c g = refl
grow_leaf_asks Sixteen c g = refl
grow_leaf_asks FortyEight c g = refl
grow_leaf_asks Full c g = refl

grow_count_asks : (kind : Kind) (g : Growing) → reply_of (grow_count_turn kind g) ≡ None
grow_count_asks Four g = refl
grow_count_asks Sixteen g = refl
grow_count_asks FortyEight g = refl
grow_count_asks Full g = refl

pub answers_refused : (c : Setting) (stage : Stage) → reply_of (turn_at c stage) ≡ Some reply.Refused → refuses stage ≡ true
answers_refused c (Lock t true) h = absurd (none_some h)
answers_refused c (Lock t false) h = absurd (none_some h)
answers_refused c (Exchange t v) h = absurd (none_some h)
answers_refused c (Wait t) h = absurd (none_some h)
answers_refused c (Leave d) h = absurd (none_some h)
answers_refused c (Between d kept) h = absurd (none_some (sym (between_asks (locks c.variant) d) ∙ h))
answers_refused c (Info d kept) h = absurd (none_some h)
answers_refused c (Find p) h = absurd (none_some (sym (find_asks c p.row.kind p.row) ∙ h))
answers_refused c (FindKeys p count) h = absurd (none_some h)
answers_refused c (FindMore p count first) h = absurd (none_some h)
answers_refused c (FindCount p index) h = absurd (none_some h)
answers_refused c (Slot p slot) h = absurd (none_some h)
answers_refused c (Check p f) h = absurd (none_some h)
answers_refused c (CheckLast n) h = absurd (none_some h)
answers_refused c (LetGo above p f) h = absurd (none_some h)
answers_refused c (Take t) h = absurd (none_some h)
answers_refused c (Write w slot word value) h = absurd (none_some h)
answers_refused c (ClaimPair w p) h = absurd (none_some h)
answers_refused c (StorePair w p base word) h = absurd (none_some (sym (pair_asks c p base word) ∙ h))
answers_refused c (PutLoad w keys left) h = absurd (none_some h)
answers_refused c (PutStore w keys left word) h = absurd (none_some h)
answers_refused c (PutLeaf w keys) h = absurd (none_some h)
answers_refused c (PutKeys w keys) h = absurd (none_some (sym (put_keys_asks w.row.kind c w keys) ∙ h))
answers_refused c (PutMore w keys) h = absurd (none_some h)
answers_refused c (PutCount w keys) h = absurd (none_some h)
answers_refused c (ClaimGrow w slot keys) h = absurd (none_some h)
answers_refused c (GrowInfo g) h = absurd (none_some h)
answers_refused c (GrowLoad g place left) h = absurd (none_some h)
answers_refused c (GrowStore g place left word) h = absurd (none_some h)
answers_refused c (SpreadIndex g j left) h = absurd (none_some h)
answers_refused c (SpreadLoad s x left) h = absurd (none_some h)
answers_refused c (SpreadStore s x left word) h = absurd (none_some h)
answers_refused c (GrowLeaf g) h = absurd (none_some (sym (grow_leaf_asks g.hold.row.kind c g) ∙ h))
answers_refused c (GrowKeys g j left) h = absurd (none_some (sym (grow_keys_asks g.hold.row.kind c g j) ∙ h))
answers_refused c (GrowCount g) h = absurd (none_some (sym (grow_count_asks g.hold.row.kind g) ∙ h))
answers_refused c (Hang g) h = absurd (none_some h)
answers_refused c (Obsolete w) h = absurd (none_some h)
answers_refused c (Unlock w outcome) h = absurd (none_some h)
answers_refused c (Over (Value None)) h = absurd (differ h)
  where
    differ : ◌≡◌ {A = Option Reply} (Some reply.None) (Some reply.Refused) → ⊥
    differ k = cc
answers_refused c (Over (Value (Some v))) h = absurd (differ h)
  where
    differ : ◌≡◌ {A = Option Reply} (Some (reply.Some v)) (Some reply.Refused) → ⊥
    differ k = cc
answers_refused c (Over Refused) h = refl

-- what a call comes to otherwise

either : (b : Bool) (x y : Stage) → refuses x ≡ false → refuses y ≡ false → refuses (if b then x else y) ≡ false
either true x y e f = e
either false x y e f = f

start_no : (l : Bool) → refuses (start_at l) ≡ false
start_no true = refl
start_no false = refl

release_no : (l : Bool) (above : Option HeldRow) (v : Option ℕ) → refuses (release_at l above (Some (Value v))) ≡ false
release_no l None v = refl
release_no l (Some n) v = refl

release_none : (l : Bool) (above : Option HeldRow) → refuses (release_at l above None) ≡ false
release_none l None = start_no l
release_none l (Some n) = refl

take_no : (c : Setting) (t : Taking) → refuses (take_at c t) ≡ false
take_no c t = either (takes_unchecked c.variant) (Lock (Taken t) true) (Take t) refl refl

moves_no : (h : Hold) (keys : Keys) (n : ℕ) → refuses (moves_at h keys n) ≡ false
moves_no h keys zero = refl
moves_no h keys (suc n) = refl

put_no : (kind : Kind) (c : Setting) (h : Hold) (keys : Keys) → refuses (put_at kind c h keys) ≡ false
put_no Four c h keys = moves_no h keys _
put_no Sixteen c h keys = moves_no h keys _
put_no FortyEight c h keys = refl
put_no Full c h keys = refl

work_no : (c : Setting) (h : Hold) (w : Work) → refuses (work_at c h w) ≡ false
work_no c h (work.Write slot word value) = refl
work_no c h (work.Pair p) = refl
work_no c h (work.Put keys) = put_no h.row.kind c h keys
work_no c h (work.Grow slot keys) = refl

taken_no : (c : Setting) (above below : Option HeldRow) (w : Work) (n : HeldRow) → refuses (taken_at c above below w n) ≡ false
taken_no c above None w n = work_no c _ w
taken_no c above (Some below) w n = take_no c _

overwrite_no : (n : HeldRow) (slot value : ℕ) (o : Option ℕ) → refuses (overwrite_at n slot value o) ≡ false
overwrite_no n slot value None = refl
overwrite_no n slot value (Some word) = refl

seek_coupled_no : (e : Bool) (c : Setting) (n : HeldRow) (f : Finding) → refuses (seek_coupled e c n f) ≡ false
seek_coupled_no e c n (Lacks keys) = refl
seek_coupled_no e c n (Has slot Empty) = refl
seek_coupled_no e c n (Has slot (Leaf key value)) =
    either (key == key_of c.call) _ _ (overwrite_no n slot value (overwriting c.call value)) refl
seek_coupled_no e c n (Has slot (ChildRow base kind)) = either e _ _ refl refl

insert_coupled_no : (c : Setting) (n : HeldRow) (f : Finding) → refuses (insert_coupled c n f) ≡ false
insert_coupled_no c n (Lacks keys) = work_no c _ (work.Put keys)
insert_coupled_no c n (Has slot Empty) = refl
insert_coupled_no c n (Has slot (Leaf key value)) = either (key == key_of c.call) _ _ refl refl
insert_coupled_no c n (Has slot (ChildRow base kind)) = refl

let_go_no : (c : Setting) (n : HeldRow) (above : Option HeldRow) (slot : ℕ) (f : Finding) → refuses (let_go_at c n above slot f) ≡ false
let_go_no c n None slot f = insert_coupled_no c n f
let_go_no c n (Some above) slot f = refl

place_coupled_no : (c : Setting) (p : Position) (f : Finding) → refuses (place_coupled c p f) ≡ false
place_coupled_no c p (Has slot child) = let_go_no c p.row p.above p.slot (Has slot child)
place_coupled_no c p (Lacks keys) = either (is_full (row_at p.row) (count_in p.row.kind keys)) _ _ refl (let_go_no c p.row p.above
    p.slot (Lacks keys))

overwrite_unlocked_no : (c : Setting) (n : HeldRow) (slot value : ℕ) (o : Option ℕ) → refuses (overwrite_unlocked c n slot value o) ≡ false
overwrite_unlocked_no c n slot value None = refl
overwrite_unlocked_no c n slot value (Some word) = take_no c _

seek_unlocked_no : (c : Setting) (n : HeldRow) (f : Finding) → refuses (seek_unlocked c n f) ≡ false
seek_unlocked_no c n (Lacks keys) = refl
seek_unlocked_no c n (Has slot Empty) = refl
seek_unlocked_no c n (Has slot (Leaf key value)) =
    either (key == key_of c.call) _ _ (overwrite_unlocked_no c n slot value (overwriting c.call value)) refl
seek_unlocked_no c n (Has slot (ChildRow base kind)) = refl

grow_unlocked_no : (c : Setting) (n : HeldRow) (above : Option HeldRow) (slot : ℕ) (keys : Keys)
    → refuses (grow_unlocked c n above slot keys) ≡ false
grow_unlocked_no c n None slot keys = take_no c _
grow_unlocked_no c n (Some above) slot keys = take_no c _

insert_unlocked_no : (c : Setting) (p : Position) (f : Finding) → refuses (insert_unlocked c p f) ≡ false
insert_unlocked_no c p (Lacks keys) =
    either (is_full (row_at p.row) (count_in p.row.kind keys)) _ _ (grow_unlocked_no c p.row p.above p.slot keys) (take_no c _)
insert_unlocked_no c p (Has slot Empty) = take_no c _
insert_unlocked_no c p (Has slot (Leaf key value)) =
    either (key == key_of c.call) _ _ (take_no c _)
    (either (nat_le (keys_differ_at key (key_of c.call)) (row_at p.row).level) _ _ refl (take_no c _))
insert_unlocked_no c p (Has slot (ChildRow base kind)) = refl

found_no : (l i e : Bool) (c : Setting) (p : Position) (f : Finding) → refuses (found_at l i e c p f) ≡ false
found_no true false e c p f = seek_coupled_no e c p.row f
found_no true true e c p f = place_coupled_no c p f
found_no false false e c p f = seek_unlocked_no c p.row f
found_no false true e c p f = insert_unlocked_no c p f

checked_no : (l i e : Bool) (c : Setting) (p : Position) (f : Finding) → refuses (checked_at l i e c p f) ≡ false
checked_no true i e c p f = found_no true i e c p f
checked_no false i e c p f = either (leaves_out_check c.variant c.call) _ _ (found_no false i e c p f) refl

among_no : (l i e : Bool) (c : Setting) (p : Position) (keys : Keys) (o : Option ℕ) → refuses (among_at l i e c p keys o) ≡ false
among_no l i e c p keys None = checked_no l i e c p (Lacks keys)
among_no l i e c p keys (Some place) = refl

indexed_no : (l i e : Bool) (c : Setting) (p : Position) (index entry : ℕ) → refuses (indexed_at l i e c p index entry) ≡ false
indexed_no l i e c p index entry = either (entry == 0) _ _ (either (is_insert c.call) _ _ refl
    (checked_no l i e c p (Lacks (keys_one index)))) refl

find_no : (l i e : Bool) (kind : Kind) (c : Setting) (p : Position) (w : ℕ) → refuses (find_at l i e kind c p w) ≡ false
find_no l i e Four c p w = among_no l i e c p _ _
find_no l i e Sixteen c p w = refl
find_no l i e FortyEight c p w = indexed_no l i e c p w _
find_no l i e Full c p w = checked_no l i e c p _

arrived_no : (l i e : Bool) (c : Setting) (d : Down) (v : ℕ) → refuses (arrived_at l i e c d v) ≡ false
arrived_no true true e c d v = refl
arrived_no true false true c d v = refl
arrived_no true false false c d v = refl
arrived_no false i e c d v = either (leaves_out_check c.variant c.call) _ _ refl refl

entered_no : (l i e : Bool) (c : Setting) (t : Target) (v : ℕ) → refuses (entered_at l i e c t v) ≡ false
entered_no l i e c Root v = refl
entered_no l i e c (Below d) v = arrived_no l i e c d v
entered_no l i e c (Taken t) v = taken_no c t.held t.below t.work _

below_no : (l i : Bool) (c : Setting) (d : Down) (m : HeldRow) (o : Option ℕ) → refuses (below_at l i c d m o) ≡ false
below_no l i c d m None = refl
below_no true false c d m (Some x) = refl
below_no true true c d m (Some x) = refl
below_no false false c d m (Some x) = either (leaves_out_check c.variant c.call) _ _ refl refl
below_no false true c d m (Some x) = either (nat_le x (row_at d.above).level) _ _ refl (take_no c _)

pair_no : (h : Hold) (p : Pair) (base : ℕ) (word : PairWord) → refuses (pair_after h p base word) ≡ false
pair_no h p base pair_word.Info = refl
pair_no h p base pair_word.Keys = refl
pair_no h p base pair_word.Lesser = refl
pair_no h p base pair_word.Greater = refl

put_keys_no : (l : Bool) (kind : Kind) (h : Hold) (keys : Keys) → refuses (put_keys_after l kind h keys) ≡ false
put_keys_no l Four h keys = refl
put_keys_no l Sixteen h keys = refl
put_keys_no l FortyEight h keys = refl
put_keys_no l Full h keys = release_no l h.above None

copies_no : (g : Growing) (i n : ℕ) → refuses (copies_at g i n) ≡ false
copies_no g i zero = refl
copies_no g i (suc n) = refl

spreads_no : (g : Growing) (j n : ℕ) → refuses (spreads_at g j n) ≡ false
spreads_no g j zero = refl
spreads_no g j (suc n) = refl

entries_no : (s : Spread) (i n : ℕ) → refuses (entries_at s i n) ≡ false
entries_no s i zero = spreads_no s.growing (s.place + 1) s.left
entries_no s i (suc n) = either (slice_index (entries_of s.word) i == 0) _ _ (entries_no s (i + 1) n) refl

fill_no : (kind : Kind) (g : Growing) → refuses (fill_at kind g) ≡ false
fill_no Four g = copies_no g 0 _
fill_no Sixteen g = copies_no g 0 _
fill_no FortyEight g = refl
fill_no Full g = refl

leaf_no : (kind : Kind) (g : Growing) → refuses (leaf_after kind g) ≡ false
leaf_no Four g = refl
leaf_no Sixteen g = refl
leaf_no FortyEight g = refl
leaf_no Full g = refl

keys_no : (g : Growing) (j n : ℕ) → refuses (keys_at_after g j n) ≡ false
keys_no g j zero = refl
keys_no g j (suc n) = refl

-- A call comes to a stage that refuses from another one, or from a claim at or past the capacity.

abbrev pub Came : Setting → Stage → ℕ → Type 0
Came c stage w = (refuses stage ≡ true) ⊎ ((kind : Kind) × (turn_at c stage ≡ Asks (Add (claims_of kind)) None)
    × (rows_of c.shape kind ≤ w))

-- the stages from which it may
abbrev may_refuse : Stage → Bool
may_refuse (ClaimPair h p) = true
may_refuse (ClaimGrow h slot keys) = true
may_refuse (Unlock h outcome) = true
may_refuse (Over outcome) = true
may_refuse stage = false

module _ (c : Setting) (w : ℕ) where
  from_claim : (stage claimed : Stage) (h : Hold) (kind : Kind) (b : Bool) → nat_lt w (rows_of c.shape kind) ≡ b
      → turn_at c stage ≡ Asks (Add (claims_of kind)) None → refuses claimed ≡ false
      → refuses (if b then claimed else Unlock h (Some Refused)) ≡ true → Came c stage w
  from_claim stage claimed h kind true less asks other refused = absurd (false≢true (sym other ∙ refused))
  from_claim stage claimed h kind false less asks other refused = inr (kind, asks, grind (arith, less))

  from_unlock : (l : Bool) (h : Hold) (o : Option Outcome) → refuses (release_at l h.above o) ≡ true → Came c (Unlock h o) w
  from_unlock l h None r = absurd (false≢true (sym (release_none l h.above) ∙ r))
  from_unlock l h (Some (Value v)) r = absurd (false≢true (sym (release_no l h.above v) ∙ r))
  from_unlock l h (Some Refused) r = inl refl

  after_no : (l i e : Bool) (stage : Stage) → may_refuse stage ≡ false → refuses (after_with l i e c stage w) ≡ false
  after_no l i e (Lock t first) may = either (is_locked w) _ _ refl refl
  after_no l i e (Exchange t v) may = either (w == v) _ _ (entered_no l i e c t v) refl
  after_no l i e (Wait t) may = either (is_locked w) _ _ refl (either (is_obsolete w) _ _ (start_no l) (entered_no l i e c t w))
  after_no l i e (Leave d) may = refl
  after_no true i e (Between d kept) may = refl
  after_no false i e (Between d kept) may = either (w == d.above.kept) _ _ refl refl
  after_no l i e (Info d kept) may = below_no l i c d _ _
  after_no l i e (Find p) may = find_no l i e p.row.kind c p w
  after_no l i e (FindKeys p count) may = refl
  after_no l i e (FindMore p count first) may = among_no l i e c p _ _
  after_no l i e (FindCount p index) may = checked_no l i e c p _
  after_no l i e (Slot p slot) may = checked_no l i e c p _
  after_no l i e (Check p f) may = either (w == p.row.kept) _ _ (found_no l i e c p f) (start_no l)
  after_no l i e (CheckLast n) may = either (w == n.kept) _ _ refl (start_no l)
  after_no l i e (LetGo above p f) may = found_no l i e c p f
  after_no l i e (Take t) may = either (w == t.row.kept) _ _ (taken_no c t.held t.below t.work t.row) (release_none l t.held)
  after_no l i e (Write k slot word value) may = refl
  after_no l i e (ClaimPair k p) may = absurd (false≢true (sym may))
  after_no l i e (StorePair k p base word) may = pair_no k p base word
  after_no l i e (PutLoad k keys left) may = refl
  after_no l i e (PutStore k keys left word) may = moves_no k keys left
  after_no l i e (PutLeaf k keys) may = refl
  after_no l i e (PutKeys k keys) may = put_keys_no l k.row.kind k keys
  after_no l i e (PutMore k keys) may = refl
  after_no l i e (PutCount k keys) may = refl
  after_no l i e (ClaimGrow k slot keys) may = absurd (false≢true (sym may))
  after_no l i e (GrowInfo g) may = fill_no g.hold.row.kind g
  after_no l i e (GrowLoad g place left) may = refl
  after_no l i e (GrowStore g place left word) may = copies_no g (place + 1) left
  after_no l i e (SpreadIndex g j left) may = entries_no (record { growing = g; place = j; left = left; word = w }) 0 8
  after_no l i e (SpreadLoad s entry left) may = refl
  after_no l i e (SpreadStore s entry left word) may = entries_no s (entry + 1) left
  after_no l i e (GrowLeaf g) may = leaf_no g.hold.row.kind g
  after_no l i e (GrowKeys g j left) may = keys_no g j left
  after_no l i e (GrowCount g) may = refl
  after_no l i e (Hang g) may = refl
  after_no l i e (Obsolete k) may = release_no l k.above None
  after_no l i e (Unlock k outcome) may = absurd (false≢true (sym may))
  after_no l i e (Over outcome) may = absurd (false≢true (sym may))

  not_there : (l i e : Bool) (stage : Stage) → may_refuse stage ≡ false → refuses (after_with l i e c stage w) ≡ true → Came c stage w
  not_there l i e stage s h = absurd (false≢true (sym (after_no l i e stage s) ∙ h))

  pub came : (l i e : Bool) (stage : Stage) → refuses (after_with l i e c stage w) ≡ true → Came c stage w
  came l i e (Lock t first) h = not_there l i e (Lock t first) refl h
  came l i e (Exchange t v) h = not_there l i e (Exchange t v) refl h
  came l i e (Wait t) h = not_there l i e (Wait t) refl h
  came l i e (Leave d) h = not_there l i e (Leave d) refl h
  came l i e (Between d kept) h = not_there l i e (Between d kept) refl h
  came l i e (Info d kept) h = not_there l i e (Info d kept) refl h
  came l i e (Find p) h = not_there l i e (Find p) refl h
  came l i e (FindKeys p count) h = not_there l i e (FindKeys p count) refl h
  came l i e (FindMore p count first) h = not_there l i e (FindMore p count first) refl h
  came l i e (FindCount p index) h = not_there l i e (FindCount p index) refl h
  came l i e (Slot p slot) h = not_there l i e (Slot p slot) refl h
  came l i e (Check p f) h = not_there l i e (Check p f) refl h
  came l i e (CheckLast n) h = not_there l i e (CheckLast n) refl h
  came l i e (LetGo above p f) h = not_there l i e (LetGo above p f) refl h
  came l i e (Take t) h = not_there l i e (Take t) refl h
  came l i e (Write k slot word value) h = not_there l i e (Write k slot word value) refl h
  came l i e (ClaimPair k p) h =
      from_claim (ClaimPair k p) (StorePair k p (base_of c.shape Four w) pair_word.Info) k Four
      (nat_lt w (rows_of c.shape Four)) refl refl refl h
  came l i e (StorePair k p base word) h = not_there l i e (StorePair k p base word) refl h
  came l i e (PutLoad k keys left) h = not_there l i e (PutLoad k keys left) refl h
  came l i e (PutStore k keys left word) h = not_there l i e (PutStore k keys left word) refl h
  came l i e (PutLeaf k keys) h = not_there l i e (PutLeaf k keys) refl h
  came l i e (PutKeys k keys) h = not_there l i e (PutKeys k keys) refl h
  came l i e (PutMore k keys) h = not_there l i e (PutMore k keys) refl h
  came l i e (PutCount k keys) h = not_there l i e (PutCount k keys) refl h
  came l i e (ClaimGrow k slot keys) h =
      from_claim (ClaimGrow k slot keys) (GrowInfo (record {
        hold = k;
        slot = slot;
        keys = keys;
        base = base_of c.shape
            (next_kind k.row.kind) w;
      })) k
      (next_kind k.row.kind) (nat_lt w (rows_of c.shape (next_kind k.row.kind))) refl refl refl h
  came l i e (GrowInfo g) h = not_there l i e (GrowInfo g) refl h
  came l i e (GrowLoad g place left) h = not_there l i e (GrowLoad g place left) refl h
  came l i e (GrowStore g place left word) h = not_there l i e (GrowStore g place left word) refl h
  came l i e (SpreadIndex g j left) h = not_there l i e (SpreadIndex g j left) refl h
  came l i e (SpreadLoad s entry left) h = not_there l i e (SpreadLoad s entry left) refl h
  came l i e (SpreadStore s entry left word) h = not_there l i e (SpreadStore s entry left word) refl h
  came l i e (GrowLeaf g) h = not_there l i e (GrowLeaf g) refl h
  came l i e (GrowKeys g j left) h = not_there l i e (GrowKeys g j left) refl h
  came l i e (GrowCount g) h = not_there l i e (GrowCount g) refl h
  came l i e (Hang g) h = not_there l i e (Hang g) refl h
  came l i e (Obsolete k) h = not_there l i e (Obsolete k) refl h
  came l i e (Unlock k outcome) h = from_unlock l k outcome h
  came l i e (Over outcome) h = inl h

abbrev pub is_add : Turn → Bool
is_add (Asks (Add word) p) = true
is_add t = false

-- a stage that refuses makes no claim
pub no_claim : (c : Setting) (stage : Stage) → refuses stage ≡ true → is_add (turn_at c stage) ≡ false
no_claim c (Lock t first) e = absurd (false≢true e)
no_claim c (Exchange t v) e = absurd (false≢true e)
no_claim c (Wait t) e = absurd (false≢true e)
no_claim c (Leave d) e = absurd (false≢true e)
no_claim c (Info d kept) e = absurd (false≢true e)
no_claim c (Find p) e = absurd (false≢true e)
no_claim c (FindKeys p count) e = absurd (false≢true e)
no_claim c (FindMore p count first) e = absurd (false≢true e)
no_claim c (FindCount p index) e = absurd (false≢true e)
no_claim c (Slot p slot) e = absurd (false≢true e)
no_claim c (Check p f) e = absurd (false≢true e)
no_claim c (CheckLast n) e = absurd (false≢true e)
no_claim c (LetGo above p f) e = absurd (false≢true e)
no_claim c (Take t) e = absurd (false≢true e)
no_claim c (Write k slot word value) e = absurd (false≢true e)
no_claim c (ClaimPair k p) e = absurd (false≢true e)
no_claim c (StorePair k p base word) e = absurd (false≢true e)
no_claim c (PutLoad k keys left) e = absurd (false≢true e)
no_claim c (PutStore k keys left word) e = absurd (false≢true e)
no_claim c (PutLeaf k keys) e = absurd (false≢true e)
no_claim c (PutKeys k keys) e = absurd (false≢true e)
no_claim c (PutMore k keys) e = absurd (false≢true e)
no_claim c (PutCount k keys) e = absurd (false≢true e)
no_claim c (ClaimGrow k slot keys) e = absurd (false≢true e)
no_claim c (GrowInfo g) e = absurd (false≢true e)
no_claim c (GrowLoad g place left) e = absurd (false≢true e)
no_claim c (GrowStore g place left word) e = absurd (false≢true e)
no_claim c (SpreadIndex g j left) e = absurd (false≢true e)
no_claim c (SpreadLoad s entry left) e = absurd (false≢true e)
no_claim c (SpreadStore s entry left word) e = absurd (false≢true e)
no_claim c (GrowLeaf g) e = absurd (false≢true e)
no_claim c (GrowKeys g j left) e = absurd (false≢true e)
no_claim c (GrowCount g) e = absurd (false≢true e)
no_claim c (Hang g) e = absurd (false≢true e)
no_claim c (Obsolete k) e = absurd (false≢true e)
no_claim c (Between d kept) e = absurd (false≢true e)
no_claim c (Unlock h None) e = absurd (false≢true e)
no_claim c (Unlock h (Some (Value v))) e = absurd (false≢true e)
no_claim c (Unlock h (Some Refused)) e = refl
no_claim c (Over (Value v)) e = absurd (false≢true e)
no_claim c (Over Refused) e = refl
