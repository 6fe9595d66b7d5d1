-- Where a call that locks what it reads has come to, it reads rows that it holds.
use Rattle.art_schedules.proofs.Common.{◌≡◌, ℕ, zero, suc, ◌+◌, ◌-◌, refl, Bool, true, false, ◌==◌, nat_lt, if◌then◌else◌, slice_index, Option}
use Rattle.art_schedules.proofs.Common.{Some, None, Call, Shape, Kind, Four, Sixteen, FortyEight, Full, Empty, ChildRow, Leaf, rows_of, base_of}
use Rattle.art_schedules.proofs.Common.{child_at, is_locked, is_obsolete, entries_of, child_of, child_word, Coupled, Setting, is_insert, is_full}
use Rattle.art_schedules.proofs.Common.{key_of, overwriting, new_leaf, next_kind, HeldRow, Keys, Finding, Position, Hold, Work, Target, Root, Below}
use Rattle.art_schedules.proofs.Common.{Taken, PairWord, Pair, Growing, Spread, Outcome, Down, Stage, Lock, Exchange, Wait, Leave, Between, Info}
use Rattle.art_schedules.proofs.Common.{Find, FindKeys, FindMore, FindCount, Slot, Check, CheckLast, LetGo, Take, Write, ClaimPair, StorePair}
use Rattle.art_schedules.proofs.Common.{PutLoad, PutStore, PutLeaf, PutKeys, PutMore, PutCount, ClaimGrow, GrowInfo, GrowLoad, GrowStore}
use Rattle.art_schedules.proofs.Common.{SpreadIndex, SpreadLoad, SpreadStore, GrowLeaf, GrowKeys, GrowCount, Hang, Obsolete, Unlock, Over}
use Rattle.art_schedules.proofs.Common.{setting, held, row_at, count_in, byte_in, start_at, hold_alone, end_at, release_at, no_value, moves_at}
use Rattle.art_schedules.proofs.Common.{put_at, work_at, taken_at, pair_work, overwrite_at, seek_coupled, insert_coupled, let_go_at}
use Rattle.art_schedules.proofs.Common.{place_coupled, found_at, checked_at, among_at, keys_one, indexed_at, find_at, arrived_at, entered_at}
use Rattle.art_schedules.proofs.Common.{below_at, pair_after, put_keys_after, copies_at, spreads_at, entries_at, fill_at, leaf_after}
use Rattle.art_schedules.proofs.Common.{keys_at_after, after_with, OnKey, ReadsHeld}
use Rattle.art_control_states.specs.declared.stage.Finding.TheVariants as seen
use Rattle.art_control_states.specs.declared.stage.Work.TheVariants as work
use Rattle.art_control_states.specs.declared.stage.PairWord.TheVariants as pair_word

-- ---- calls on a key

abbrev Good : Stage → Type 0
Good stage = ReadsHeld (OnKey stage)

pick : (b : Bool) (x y : Stage) → Good x → Good y → Good (if b then x else y)
pick true x y g h = g
pick false x y g h = h

module _ (shape : Shape) (call : Call) where
  abbrev c : Setting
  c = setting shape Coupled call

  moves-good : (h : Hold) (keys : Keys) (n : ℕ) → Good (moves_at h keys n)
  moves-good h keys zero = tt
  moves-good h keys (suc n) = tt

  put-good : (kind : Kind) (h : Hold) (keys : Keys) → Good (put_at kind c h keys)
  put-good Four h keys = moves-good h keys _
  put-good Sixteen h keys = moves-good h keys _
  put-good FortyEight h keys = tt
  put-good Full h keys = tt

  work-good : (h : Hold) (k : Work) → Good (work_at c h k)
  work-good h (work.Write slot word reply) = tt
  work-good h (work.Pair p) = tt
  work-good h (work.Put keys) = put-good h.row.kind h keys
  work-good h (work.Grow slot keys) = tt

  taken-good : (above below : Option HeldRow) (k : Work) (n : HeldRow) → Good (taken_at c above below k n)
  taken-good above None k n = work-good (record { row = n; above = above }) k
  taken-good above (Some below) k n = tt

  overwrite-good : (n : HeldRow) (slot value : ℕ) (o : Option ℕ) → Good (overwrite_at n slot value o)
  overwrite-good n slot value None = tt
  overwrite-good n slot value (Some word) = tt

  seek-good : (n : HeldRow) (f : Finding) → Good (seek_coupled false c n f)
  seek-good n (seen.Lacks keys) = tt
  seek-good n (seen.Has slot Empty) = tt
  seek-good n (seen.Has slot (Leaf key value)) =
      pick (key == key_of call) (overwrite_at n slot value (overwriting call value)) (Unlock (hold_alone n) (Some no_value))
      (overwrite-good n slot value (overwriting call value)) tt
  seek-good n (seen.Has slot (ChildRow base kind)) = tt

  insert-good : (n : HeldRow) (f : Finding) → Good (insert_coupled c n f)
  insert-good n (seen.Lacks keys) = put-good n.kind (hold_alone n) keys
  insert-good n (seen.Has slot Empty) = tt
  insert-good n (seen.Has slot (Leaf key value)) =
      pick (key == key_of call) (Write (hold_alone n) slot (child_word (new_leaf call)) (Some value)) (work_at c (hold_alone n)
      (pair_work c slot key value)) tt tt
  insert-good n (seen.Has slot (ChildRow base kind)) = tt

  let_go-good : (n : HeldRow) (above : Option HeldRow) (slot : ℕ) (f : Finding) → Good (let_go_at c n above slot f)
  let_go-good n None slot f = insert-good n f
  let_go-good n (Some above) slot f = tt

  place-good : (p : Position) (f : Finding) → Good (place_coupled c p f)
  place-good p (seen.Has slot child) = let_go-good p.row p.above p.slot (seen.Has slot child)
  place-good p (seen.Lacks keys) =
      pick (is_full (row_at p.row) (count_in p.row.kind keys)) (ClaimGrow (record { row = p.row; above = p.above }) p.slot keys)
      (let_go_at c p.row p.above p.slot (seen.Lacks keys)) tt (let_go-good p.row p.above p.slot (seen.Lacks keys))

  found-good : (i : Bool) (p : Position) (f : Finding) → Good (found_at true i false c p f)
  found-good true p f = place-good p f
  found-good false p f = seek-good p.row f

  among-good : (i : Bool) (p : Position) (keys : Keys) (o : Option ℕ) → Good (among_at true i false c p keys o)
  among-good i p keys None = found-good i p (seen.Lacks keys)
  among-good i p keys (Some place) = tt

  indexed-good : (i : Bool) (p : Position) (index entry : ℕ) → p.row.kind ≡ FortyEight → Good (indexed_at true i false c p index entry)
  indexed-good i p index entry is =
      pick (entry == 0) (if is_insert call then FindCount p index else checked_at true i false c p (seen.Lacks (keys_one index)))
      (Slot p (child_at FortyEight p.row.base (entry - 1)))
      (pick (is_insert call) (FindCount p index) (checked_at true i false c p (seen.Lacks (keys_one index))) is (found-good i p (seen.Lacks
      (keys_one index)))) tt

  find-good : (i : Bool) (kind : Kind) (p : Position) (w : ℕ) → p.row.kind ≡ kind → Good (find_at true i false kind c p w)
  find-good i Four p w is = among-good i p (keys_one w) _
  find-good i Sixteen p w is = tt
  find-good i FortyEight p w is = indexed-good i p w _ is
  find-good i Full p w is = found-good i p (seen.Has (child_at Full p.row.base (byte_in c p.row)) (child_of shape w))

  arrived-good : (i : Bool) (d : Down) (v : ℕ) → Good (arrived_at true i false c d v)
  arrived-good true d v = tt
  arrived-good false d v = tt

  entered-good : (i : Bool) (t : Target) (v : ℕ) → Good (entered_at true i false c t v)
  entered-good i Root v = tt
  entered-good i (Below d) v = arrived-good i d v
  entered-good i (Taken t) v = taken-good t.held t.below t.work (held t.row.base t.row.kind t.row.info v)

  below-good : (i : Bool) (d : Down) (m : HeldRow) (o : Option ℕ) → Good (below_at true i c d m o)
  below-good i d m None = tt
  below-good true d m (Some x) = tt
  below-good false d m (Some x) = tt

  pair-good : (h : Hold) (p : Pair) (base : ℕ) (word : PairWord) → Good (pair_after h p base word)
  pair-good h p base pair_word.Info = tt
  pair-good h p base pair_word.Keys = tt
  pair-good h p base pair_word.Lesser = tt
  pair-good h p base pair_word.Greater = tt

  end-good : (o : Option Outcome) → Good (end_at true o)
  end-good None = tt
  end-good (Some o) = tt

  release-good : (above : Option HeldRow) (o : Option Outcome) → Good (release_at true above o)
  release-good None o = end-good o
  release-good (Some n) o = tt

  keys-good : (kind : Kind) (h : Hold) (keys : Keys) → Good (put_keys_after true kind h keys)
  keys-good Four h keys = tt
  keys-good Sixteen h keys = tt
  keys-good FortyEight h keys = tt
  keys-good Full h keys = release-good h.above _

  copies-good : (g : Growing) (i n : ℕ) → Good (copies_at g i n)
  copies-good g i zero = tt
  copies-good g i (suc n) = tt

  spreads-good : (g : Growing) (j n : ℕ) → Good (spreads_at g j n)
  spreads-good g j zero = tt
  spreads-good g j (suc n) = tt

  entries-good : (s : Spread) (i n : ℕ) → Good (entries_at s i n)
  entries-good s i zero = spreads-good s.growing (s.place + 1) s.left
  entries-good s i (suc n) = pick (slice_index (entries_of s.word) i == 0) (entries_at s (i + 1) n) (SpreadLoad s i n)
      (entries-good s (i + 1) n) tt

  fill-good : (kind : Kind) (g : Growing) → Good (fill_at kind g)
  fill-good Four g = copies-good g 0 _
  fill-good Sixteen g = copies-good g 0 _
  fill-good FortyEight g = tt
  fill-good Full g = tt

  leaf-good : (kind : Kind) (g : Growing) → Good (leaf_after kind g)
  leaf-good Four g = tt
  leaf-good Sixteen g = tt
  leaf-good FortyEight g = tt
  leaf-good Full g = tt

  index-good : (g : Growing) (j n : ℕ) → Good (keys_at_after g j n)
  index-good g j zero = tt
  index-good g j (suc n) = tt

  pub key-reads : (i : Bool) (stage : Stage) (w : ℕ) → Good (after_with true i false c stage w)
  key-reads i (Lock t first) w = pick (is_locked w) (Lock t false) (Exchange t w) tt tt
  key-reads i (Exchange t v) w = pick (w == v) (entered_at true i false c t v) (Lock t false) (entered-good i t v) tt
  key-reads i (Wait t) w =
      pick (is_locked w) (Wait t) (if is_obsolete w then start_at true else entered_at true i false c t w) tt
      (pick (is_obsolete w) (start_at true) (entered_at true i false c t w) tt (entered-good i t w))
  key-reads i (Leave d) w = tt
  key-reads i (Between d kept) w = tt
  key-reads i (Info d kept) w = below-good i d (held d.base d.kind w kept) _
  key-reads i (Find p) w = find-good i p.row.kind p w refl
  key-reads i (FindKeys p count) w = tt
  key-reads i (FindMore p count first) w = among-good i p (record { first = first; second = w; count = count }) _
  key-reads i (FindCount p index) w = found-good i p _
  key-reads i (Slot p slot) w = found-good i p _
  key-reads i (Check p f) w = pick (w == p.row.kept) (found_at true i false c p f) (start_at true) (found-good i p f) tt
  key-reads i (CheckLast n) w = pick (w == n.kept) (Over no_value) (start_at true) tt tt
  key-reads i (LetGo above p f) w = found-good i p f
  key-reads i (Take t) w =
      pick (w == t.row.kept) (taken_at c t.held t.below t.work t.row) (release_at true t.held None) (taken-good t.held t.below t.work t.row)
      (release-good t.held None)
  key-reads i (Write h slot word reply) w = tt
  key-reads i (ClaimPair h p) w = pick (nat_lt w (rows_of shape Four)) (StorePair h p (base_of shape Four w) pair_word.Info)
      (Unlock h _) tt tt
  key-reads i (StorePair h p base word) w = pair-good h p base word
  key-reads i (PutLoad h keys left) w = tt
  key-reads i (PutStore h keys left word) w = moves-good h keys left
  key-reads i (PutLeaf h keys) w = tt
  key-reads i (PutKeys h keys) w = keys-good h.row.kind h keys
  key-reads i (PutMore h keys) w = tt
  key-reads i (PutCount h keys) w = tt
  key-reads i (ClaimGrow h slot keys) w = pick (nat_lt w (rows_of shape (next_kind h.row.kind))) (GrowInfo _) (Unlock h _) tt tt
  key-reads i (GrowInfo g) w = fill-good g.hold.row.kind g
  key-reads i (GrowLoad g place left) w = tt
  key-reads i (GrowStore g place left word) w = copies-good g (place + 1) left
  key-reads i (SpreadIndex g j left) w = entries-good (record { growing = g; place = j; left = left; word = w }) 0 8
  key-reads i (SpreadLoad s entry left) w = tt
  key-reads i (SpreadStore s entry left word) w = entries-good s (entry + 1) left
  key-reads i (GrowLeaf g) w = leaf-good g.hold.row.kind g
  key-reads i (GrowKeys g j left) w = index-good g j left
  key-reads i (GrowCount g) w = tt
  key-reads i (Hang g) w = tt
  key-reads i (Obsolete h) w = release-good h.above _
  key-reads i (Unlock h outcome) w = release-good h.above outcome
  key-reads i (Over outcome) w = tt
