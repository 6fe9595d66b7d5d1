-- What each stage does next.
use Rattle.art_control_states.proofs.Common.{◌≡◌, ℕ, [], refl, Bool, true, false, ◌==◌, if◌then◌else◌, Option, Kind, Four, Sixteen, FortyEight, Full}
use Rattle.art_control_states.proofs.Common.{HeldRow, Keys, Down, Hold, Pair, PairWord, Growing, Stage, Lock, Exchange, Wait, Leave, Between, Info, Find}
use Rattle.art_control_states.proofs.Common.{FindKeys, FindMore, FindCount, Slot, Check, CheckLast, LetGo, Take, Write, ClaimPair, StorePair, PutLoad}
use Rattle.art_control_states.proofs.Common.{PutStore, PutLeaf, PutKeys, PutMore, PutCount, ClaimGrow, GrowInfo, GrowLoad, GrowStore, SpreadIndex}
use Rattle.art_control_states.proofs.Common.{SpreadLoad, SpreadStore, GrowLeaf, GrowKeys, GrowCount, Hang, Obsolete, Unlock, Over, Rest, store, Part}
use Rattle.art_control_states.proofs.Common.{Setting, locks, is_insert, releases_early, lock_again, lock, wait, unlock, unlock_obsolete, unlock_all}
use Rattle.art_control_states.proofs.Common.{check, find_child, find_in, find, load_child, claim, pair, pair_in, copy_child, store_index, spread_index}
use Rattle.art_control_states.proofs.Common.{grow, act, held, part_of, ends, rest_in, between_turn, find_turn, pair_turn, put_keys_turn, grow_keys_turn}
use Rattle.art_control_states.proofs.Common.{grow_leaf_turn, grow_count_turn, turn_at}
use Rattle.art_control_states.specs.declared.stage.PairWord.TheVariants as pair_word

between_next : (l i e : Bool) (c : Setting) (d : Down) (kept : ℕ) (again : Rest)
    → part_of l i e c (Between d kept) again ends [] ≡ between_turn l d
unfolding part_of unlock check
between_next true i e c d kept again = refl
between_next false i e c d kept again = refl

find_next : (c : Setting) (base : ℕ) (kind : Kind) (info kept : ℕ) (above : Option HeldRow) (slot : ℕ)
    → rest_in c (Find (record { row = held base kind info kept; above = above; slot = slot })) [] ≡ find_turn kind c
    (held base kind info kept)
unfolding rest_in part_of find find_in
find_next c base Four info kept above slot = refl
find_next c base Sixteen info kept above slot = refl
find_next c base FortyEight info kept above slot = refl
find_next c base Full info kept above slot = refl

pair_next : (c : Setting) (h : Hold) (p : Pair) (base : ℕ) (word : PairWord)
    → rest_in c (StorePair h p base word) [] ≡ pair_turn c p base word
unfolding rest_in part_of
pair_next c h p base pair_word.Info = refl
pair_next c h p base pair_word.Keys = refl
pair_next c h p base pair_word.Lesser = refl
pair_next c h p base pair_word.Greater = refl

put_keys_next : (c : Setting) (base : ℕ) (kind : Kind) (info kept : ℕ) (above : Option HeldRow) (keys : Keys)
    → rest_in c (PutKeys (record { row = held base kind info kept; above = above }) keys) [] ≡ put_keys_turn kind c
    (record { row = held base kind info kept; above = above }) keys
unfolding rest_in part_of unlock_all unlock
put_keys_next c base Four info kept above keys = refl
put_keys_next c base Sixteen info kept above keys = refl
put_keys_next c base FortyEight info kept above keys = refl
put_keys_next c base Full info kept above keys = refl

abbrev pub growing_of : ℕ → Kind → ℕ → ℕ → Option HeldRow → ℕ → Keys → ℕ → Growing
growing_of old kind info kept above slot keys base =
    record { hold = record { row = held old kind info kept; above = above }; slot = slot; keys = keys; base = base }

grow_keys_next : (c : Setting) (old : ℕ) (kind : Kind) (info kept : ℕ) (above : Option HeldRow) (slot : ℕ) (keys : Keys) (base j left : ℕ)
    → rest_in c (GrowKeys (growing_of old kind info kept above slot keys base) j left) [] ≡ grow_keys_turn kind c
    (growing_of old kind info kept above slot keys base) j
unfolding rest_in part_of store_index
grow_keys_next c old Four info kept above slot keys base j left = go (j == 0) (store _ _) (store _ _) _
  where
    go : (b : Bool) (m n : Part (Unit {0})) (end : Unit {0} → Rest)
        → (if b then m else n) (act c.shape c.variant c.call) end [] ≡
        (if b then m (act c.shape c.variant c.call) end [] else n (act c.shape c.variant c.call) end [])
    go true m n end = refl
    go false m n end = refl
grow_keys_next c old Sixteen info kept above slot keys base j left = refl
grow_keys_next c old FortyEight info kept above slot keys base j left = refl
grow_keys_next c old Full info kept above slot keys base j left = refl

grow_leaf_next : (c : Setting) (old : ℕ) (kind : Kind) (info kept : ℕ) (above : Option HeldRow) (slot : ℕ) (keys : Keys) (base : ℕ)
    → rest_in c (GrowLeaf (growing_of old kind info kept above slot keys base)) [] ≡ grow_leaf_turn kind c
    (growing_of old kind info kept above slot keys base)
unfolding rest_in part_of
grow_leaf_next c old Four info kept above slot keys base = refl
grow_leaf_next c old Sixteen info kept above slot keys base = refl
grow_leaf_next c old FortyEight info kept above slot keys base = refl
grow_leaf_next c old Full info kept above slot keys base = refl

grow_count_next : (c : Setting) (old : ℕ) (kind : Kind) (info kept : ℕ) (above : Option HeldRow) (slot : ℕ) (keys : Keys) (base : ℕ)
    → rest_in c (GrowCount (growing_of old kind info kept above slot keys base)) [] ≡ grow_count_turn kind
    (growing_of old kind info kept above slot keys base)
unfolding rest_in part_of
grow_count_next c old Four info kept above slot keys base = refl
grow_count_next c old Sixteen info kept above slot keys base = refl
grow_count_next c old FortyEight info kept above slot keys base = refl
grow_count_next c old Full info kept above slot keys base = refl

pub next : (c : Setting) (stage : Stage) → rest_in c stage [] ≡ turn_at c stage
unfolding rest_in part_of lock lock_again wait unlock unlock_obsolete unlock_all check find_child load_child claim pair pair_in
    copy_child spread_index grow
next c (Lock t true) = refl
next c (Lock t false) = refl
next c (Exchange t v) = refl
next c (Wait t) = refl
next c (Leave d) = refl
next c (Between d kept) = between_next (locks c.variant) (is_insert c.call) (releases_early c.variant) c d kept
    (act c.shape c.variant c.call)
next c (Info d kept) = refl
next c (Find p) = find_next c p.row.base p.row.kind p.row.info p.row.kept p.above p.slot
next c (FindKeys p count) = refl
next c (FindMore p count first) = refl
next c (FindCount p index) = refl
next c (Slot p slot) = refl
next c (Check p f) = refl
next c (CheckLast n) = refl
next c (LetGo above p f) = refl
next c (Take t) = refl
next c (Write h slot word value) = refl
next c (ClaimPair h p) = refl
next c (StorePair h p base word) = pair_next c h p base word
next c (PutLoad h keys left) = refl
next c (PutStore h keys left word) = refl
next c (PutLeaf h keys) = refl
next c (PutKeys h keys) = put_keys_next c h.row.base h.row.kind h.row.info h.row.kept h.above keys
next c (PutMore h keys) = refl
next c (PutCount h keys) = refl
next c (ClaimGrow h slot keys) = refl
next c (GrowInfo g) = refl
next c (GrowLoad g i left) = refl
next c (GrowStore g i left word) = refl
next c (SpreadIndex g j left) = refl
next c (SpreadLoad s i left) = refl
next c (SpreadStore s i left word) = refl
next c (GrowLeaf g) = grow_leaf_next c g.hold.row.base g.hold.row.kind g.hold.row.info g.hold.row.kept g.hold.above g.slot g.keys g.base
next c (GrowKeys g j left) = grow_keys_next c g.hold.row.base g.hold.row.kind g.hold.row.info g.hold.row.kept g.hold.above g.slot
    g.keys g.base j left
next c (GrowCount g) = grow_count_next c g.hold.row.base g.hold.row.kind g.hold.row.info g.hold.row.kept g.hold.above g.slot g.keys g.base
next c (Hang g) = refl
next c (Obsolete h) = refl
next c (Unlock h outcome) = refl
next c (Over outcome) = refl
