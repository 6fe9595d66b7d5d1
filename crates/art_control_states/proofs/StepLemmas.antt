-- One step of every stage: what is left after a word is what is left at the next stage.
use Rattle.art_control_states.proofs.Common.{◌≡◌, ℕ, zero, suc, ◌+◌, ◌-◌, ◌*◌, List, ◌∷◌, refl, ap, sym, ◌∙◌, Bool, true, false, false≢true}
use Rattle.art_control_states.proofs.Common.{if◌then◌else◌, ◌==◌, nat_lt, slice_index, Option, Some, None, Call, Get, Insert, Remove, Scan, Replace}
use Rattle.art_control_states.proofs.Common.{Reply, Kind, Four, Sixteen, FortyEight, Full, rows_of, base_of, child_at, is_locked, is_obsolete}
use Rattle.art_control_states.proofs.Common.{locked_word, entries_of, child_of, HeldRow, Keys, Down, Hold, Pair, Taking, Target, PairWord, Growing, Spread}
use Rattle.art_control_states.proofs.Common.{Refused, Stage, Lock, Exchange, Wait, Leave, Between, Info, Find, FindKeys, FindMore, FindCount, Slot}
use Rattle.art_control_states.proofs.Common.{Check, CheckLast, LetGo, Take, Write, ClaimPair, StorePair, PutLoad, PutStore, PutLeaf, PutKeys, PutMore}
use Rattle.art_control_states.proofs.Common.{PutCount, ClaimGrow, GrowInfo, GrowLoad, GrowStore, SpreadIndex, SpreadLoad, SpreadStore, GrowLeaf}
use Rattle.art_control_states.proofs.Common.{GrowKeys, GrowCount, Hang, Obsolete, Unlock, Over, Rest, Part, ◌>>=◌, ◌>>◌, give, start_again, store, swap}
use Rattle.art_control_states.proofs.Common.{Setting, locks, is_insert, is_scan, releases_early, lock_again, lock, wait, unlock, unlock_obsolete}
use Rattle.art_control_states.proofs.Common.{unlock_all, check, find_child, load_child, claim, row_of, pair, pair_in, copy_child, store_index}
use Rattle.art_control_states.proofs.Common.{spread_index, grow, next_kind, procedure, act, lock_turn, lock_again-body, wait_turn, wait-body, act-body}
use Rattle.art_control_states.proofs.Common.{row_at, rows_at, held, place_at, found_of, found_then, inform, taken, entered, part_of, ends, rest_in}
use Rattle.art_control_states.proofs.Common.{start_at, release_at, no_value, taken_at, found_at, entered_at, pair_after, put_keys_after, copies_at}
use Rattle.art_control_states.proofs.Common.{spreads_at, entries_at, fill_at, leaf_after, keys_at_after, after_with, stage_after}
use Rattle.events.specs.declared.event.Reply.TheVariants as reply
use Rattle.art_rows.specs.Table.{keys_at, more_keys_at}
use Rattle.art_rows.specs.Words.{keys16_word, more_keys16_word}
use Rattle.art_control_states.specs.declared.stage.Finding.TheVariants as seen
use Rattle.art_control_states.specs.declared.stage.PairWord.TheVariants as pair_word
use Rattle.art_rows.specs.Steps.{answer}
use Rattle.art_rows.specs.Updates.{spread_entry, fill}
use Rattle.art_rows.specs.Coupled as coupled
use Rattle.art_rows.specs.Optimistic as optimistic
use Rattle.art_control_states.specs.Stages.{keys_after, rows_held, target_base, pair_from, grow_copies, grow_spreads, spread_rest, grow_keys}
use Rattle.art_control_states.proofs.TurnLemmas.{growing_of}
use Rattle.art_control_states.proofs.WayLemmas.{left, Begins, release_step, unlock_step, moves_step, taken_step, found_step, checked_step, placed_step}
use Rattle.art_control_states.proofs.WayLemmas.{find_step, entered_step, below_step}

-- Locks and waits

lock_step : (l i e : Bool) (c : Setting) (again : Rest) (t : Target) (w : ℕ) (rest : List ℕ)
    → left l i e c again (if is_locked w then Lock t false else Exchange t w) rest ≡ lock_again (target_base c t) again
    (λ v. entered l i e c t v again ends)
    (w ∷ rest)
unfolding part_of lock_turn
lock_step l i e c again t w rest = go (is_locked w)
    ∙ sym (lock_again-body (target_base c t) again (λ v. entered l i e c t v again ends) (w ∷ rest))
  where
    go : (b : Bool) → left l i e c again (if b then Lock t false else Exchange t w) rest
        ≡ (if b then lock_again (target_base c t) else
        (swap (target_base c t) w (locked_word w) >>= λ was. if was == w then give w else lock_again (target_base c t))) again
        (λ v. entered l i e c t v again ends) rest
    go true = refl
    go false = refl

exchange_step : (l i e : Bool) (c : Setting) (again : Rest) (t : Target) (v w : ℕ) (rest : List ℕ)
    → left l i e c again (if w == v then entered_at l i e c t v else Lock t false) rest ≡ left l i e c again (Exchange t v) (w ∷ rest)
unfolding part_of
exchange_step l i e c again t v w rest = go (w == v)
  where
    go : (b : Bool) → left l i e c again (if b then entered_at l i e c t v else Lock t false) rest
        ≡ ((if b then give v else lock_again (target_base c t)) >>= entered l i e c t) again ends rest
    go true = entered_step l i e c again t v rest
    go false = refl

wait_step : (l i e : Bool) (c : Setting) (again : Rest) (begins : Begins l i e c again) (t : Target) (w : ℕ) (rest : List ℕ)
    → left l i e c again (if is_locked w then Wait t else if is_obsolete w then start_at l else entered_at l i e c t w) rest ≡ left l i
    e c again (Wait t)
    (w ∷ rest)
unfolding part_of wait_turn
wait_step l i e c again begins t w rest =
    go (is_locked w) (is_obsolete w) ∙ sym (wait-body (target_base c t) again (λ v. entered l i e c t v again ends) (w ∷ rest))
  where
    go : (b d : Bool) → left l i e c again (if b then Wait t else if d then start_at l else entered_at l i e c t w) rest
        ≡ (if b then wait (target_base c t) else (if d then start_again else give w)) again (λ v. entered l i e c t v again ends) rest
    go true d = refl
    go false true = begins rest
    go false false = entered_step l i e c again t w rest

taken_by : (l i e : Bool) (c : Setting) (again : Rest) (begins : Begins l i e c again) (t : Taking) (w : ℕ) (rest : List ℕ)
    → left l i e c again (if w == t.row.kept then taken_at c t.held t.below t.work t.row else release_at l t.held None) rest ≡ left l i
    e c again (Take t)
    (w ∷ rest)
unfolding part_of unlock_all
taken_by l i e c again begins t w rest = go (w == t.row.kept)
  where
    go : (b : Bool) → left l i e c again (if b then taken_at c t.held t.below t.work t.row else release_at l t.held None) rest
        ≡ ((if b then give (row_at t.row) else (unlock_all (rows_at t.held) >> start_again)) >>= taken c t.held t.below t.work
        t.row.kind) again ends rest
    go true = taken_step l i e c again t.held t.below t.work t.row rest
    go false = release_step l i e c again begins t.held None rest

-- a check
checks : (l i e : Bool) (c : Setting) (again : Rest) (begins : Begins l i e c again) (n : HeldRow) (next : Stage) (part : Part Reply)
    (w : ℕ) (rest : List ℕ)
    → left l i e c again next rest ≡ part again ends rest
    → left l i e c again (if w == n.kept then next else start_at l) rest ≡ (check (row_at n) >> part) again ends (w ∷ rest)
unfolding check
checks l i e c again begins n next part w rest on = go (w == n.kept)
  where
    go : (b : Bool) → left l i e c again (if b then next else start_at l) rest ≡ ((if b then give {A = Unit {0}} tt else start_again) >>
        part) again ends rest
    go true = on
    go false = begins rest

between_step : (l i e : Bool) (c : Setting) (again : Rest) (begins : Begins l i e c again) (d : Down) (kept w : ℕ) (rest : List ℕ)
    → left l i e c again (after_with l i e c (Between d kept) w) rest ≡ left l i e c again (Between d kept) (w ∷ rest)
unfolding part_of unlock
between_step true i e c again begins d kept w rest = refl
between_step false i e c again begins d kept w rest =
    checks false i e c again begins d.above (Info d kept) (inform false i c d kept) w rest refl

-- PAIR, PUT and GROW

claim_pair_step : (l i e : Bool) (c : Setting) (again : Rest) (h : Hold) (p : Pair) (w : ℕ) (rest : List ℕ)
    → left l i e c again (after_with l i e c (ClaimPair h p) w) rest ≡ left l i e c again (ClaimPair h p) (w ∷ rest)
unfolding part_of pair_in pair claim
claim_pair_step l i e c again h p w rest = go (nat_lt w (rows_of c.shape Four))
  where
    go : (b : Bool) → left l i e c again (if b then StorePair h p (base_of c.shape Four w) pair_word.Info else Unlock h (Some Refused)) rest
        ≡ ((if b then give (base_of c.shape Four w) else (unlock_all (rows_held h) >> answer reply.Refused)) >>= λ base. pair_from c
        (rows_held h) p base pair_word.Info) again ends rest
    go true = refl
    go false = refl

pair_step : (l i e : Bool) (c : Setting) (again : Rest) (h : Hold) (p : Pair) (base : ℕ) (word : PairWord) (w : ℕ) (rest : List ℕ)
    → left l i e c again (pair_after h p base word) rest ≡ left l i e c again (StorePair h p base word) (w ∷ rest)
unfolding part_of
pair_step l i e c again h p base pair_word.Info w rest = refl
pair_step l i e c again h p base pair_word.Keys w rest = refl
pair_step l i e c again h p base pair_word.Lesser w rest = refl
pair_step l i e c again h p base pair_word.Greater w rest = refl

put_keys_step : (l i e : Bool) (c : Setting) (again : Rest) (begins : Begins l i e c again) (base : ℕ) (kind : Kind) (info kept : ℕ)
    (above : Option HeldRow)
    (keys : Keys) (w : ℕ) (rest : List ℕ)
    → left l i e c again (put_keys_after l kind (record { row = held base kind info kept; above = above }) keys) rest
    ≡ left l i e c again (PutKeys (record { row = held base kind info kept; above = above }) keys) (w ∷ rest)
unfolding part_of unlock_all unlock
put_keys_step l i e c again begins base Four info kept above keys w rest = refl
put_keys_step l i e c again begins base Sixteen info kept above keys w rest = refl
put_keys_step l i e c again begins base FortyEight info kept above keys w rest = refl
put_keys_step l i e c again begins base Full info kept above keys w rest = release_step l i e c again begins above (Some no_value) rest

claim_grow_step : (l i e : Bool) (c : Setting) (again : Rest) (old : ℕ) (kind : Kind) (info kept : ℕ) (above : Option HeldRow) (slot : ℕ)
    (keys : Keys) (w : ℕ)
    (b : Bool) (rest : List ℕ)
    → left l i e c again (if b
    then GrowInfo
    (record {
      hold = record { row = held old kind info kept; above = above };
      slot = slot;
      keys = keys;
      base =
          base_of c.shape (next_kind kind) w;
    })
    else Unlock (record { row = held old kind info kept; above = above }) (Some Refused)) rest
    ≡ ((if b then give (base_of c.shape (next_kind kind) w) else (unlock_all (row_of old kind info kept ∷ rows_at above) >>
    answer reply.Refused))
    >>= λ base. part_of l i e c
    (GrowInfo (record {
      hold = record { row = held old kind info kept; above = above };
      slot = slot;
      keys = keys;
      base = base;
    }))) again ends rest
unfolding part_of
claim_grow_step l i e c again old kind info kept above slot keys w true rest = refl
claim_grow_step l i e c again old kind info kept above slot keys w false rest = refl

grow_step : (l i e : Bool) (c : Setting) (again : Rest) (old : ℕ) (kind : Kind) (info kept : ℕ) (above : Option HeldRow) (slot : ℕ)
    (keys : Keys) (w : ℕ)
    (rest : List ℕ)
    → left l i e c again (after_with l i e c (ClaimGrow (record { row = held old kind info kept; above = above }) slot keys) w) rest
    ≡ left l i e c again (ClaimGrow (record { row = held old kind info kept; above = above }) slot keys) (w ∷ rest)
unfolding part_of grow claim fill
grow_step l i e c again old Four info kept above slot keys w rest =
    claim_grow_step l i e c again old Four info kept above slot keys w _ rest
grow_step l i e c again old Sixteen info kept above slot keys w rest =
    claim_grow_step l i e c again old Sixteen info kept above slot keys w _ rest
grow_step l i e c again old FortyEight info kept above slot keys w rest =
    claim_grow_step l i e c again old FortyEight info kept above slot keys w _ rest
grow_step l i e c again old Full info kept above slot keys w rest =
    claim_grow_step l i e c again old Full info kept above slot keys w _ rest

copies_step : (l i e : Bool) (c : Setting) (again : Rest) (g : Growing) (place n : ℕ) (rest : List ℕ)
    → left l i e c again (copies_at g place n) rest ≡ grow_copies c g place n again ends rest
unfolding part_of
copies_step l i e c again g place zero rest = refl
copies_step l i e c again g place (suc n) rest = refl

spreads_step : (l i e : Bool) (c : Setting) (again : Rest) (g : Growing) (j n : ℕ) (rest : List ℕ)
    → left l i e c again (spreads_at g j n) rest ≡ grow_spreads c g j n again ends rest
unfolding part_of
spreads_step l i e c again g j zero rest = refl
spreads_step l i e c again g j (suc n) rest = refl

-- an entry that is 0 takes no access
entries_step : (l i e : Bool) (c : Setting) (again : Rest) (s : Spread) (x n : ℕ) (rest : List ℕ)
    → left l i e c again (entries_at s x n) rest ≡ spread_rest c s x n again ends rest
unfolding part_of spread_entry
entries_step l i e c again s x zero rest = spreads_step l i e c again s.growing (s.place + 1) s.left rest
entries_step l i e c again s x (suc n) rest = go (slice_index (entries_of s.word) x == 0) (entries_step l i e c again s (x + 1) n rest)
  where
    go : (b : Bool) → left l i e c again (entries_at s (x + 1) n) rest ≡ spread_rest c s (x + 1) n again ends rest
        → left l i e c again (if b then entries_at s (x + 1) n else SpreadLoad s x n) rest
        ≡ ((if b then give {A = Unit {0}} tt else copy_child c
        (child_at FortyEight s.growing.hold.row.base (slice_index (entries_of s.word) x - 1))
        (child_at Full s.growing.base (8 * s.place + x)))
        >> spread_rest c s (x + 1) n) again ends rest
    go true on = on
    go false on = refl

spread_index_step : (l i e : Bool) (c : Setting) (again : Rest) (g : Growing) (j n w : ℕ) (rest : List ℕ)
    → left l i e c again (after_with l i e c (SpreadIndex g j n) w) rest ≡ left l i e c again (SpreadIndex g j n) (w ∷ rest)
unfolding part_of spread_index
spread_index_step l i e c again g j n w rest = entries_step l i e c again (record { growing = g; place = j; left = n; word = w }) 0 8 rest

fill_step : (l i e : Bool) (c : Setting) (again : Rest) (old : ℕ) (kind : Kind) (info kept : ℕ) (above : Option HeldRow) (slot : ℕ)
    (keys : Keys) (base w : ℕ)
    (rest : List ℕ)
    → left l i e c again (fill_at kind (growing_of old kind info kept above slot keys base)) rest ≡ left l i e c again
    (GrowInfo (growing_of old kind info kept above slot keys base)) (w ∷ rest)
unfolding part_of
fill_step l i e c again old Four info kept above slot keys base w rest =
    copies_step l i e c again (growing_of old Four info kept above slot keys base) 0 _ rest
fill_step l i e c again old Sixteen info kept above slot keys base w rest =
    copies_step l i e c again (growing_of old Sixteen info kept above slot keys base) 0 _ rest
fill_step l i e c again old FortyEight info kept above slot keys base w rest = refl
fill_step l i e c again old Full info kept above slot keys base w rest = refl

leaf_step : (l i e : Bool) (c : Setting) (again : Rest) (old : ℕ) (kind : Kind) (info kept : ℕ) (above : Option HeldRow) (slot : ℕ)
    (keys : Keys) (base w : ℕ)
    (rest : List ℕ)
    → left l i e c again (leaf_after kind (growing_of old kind info kept above slot keys base)) rest ≡ left l i e c again
    (GrowLeaf (growing_of old kind info kept above slot keys base)) (w ∷ rest)
unfolding part_of
leaf_step l i e c again old Four info kept above slot keys base w rest = refl
leaf_step l i e c again old Sixteen info kept above slot keys base w rest = refl
leaf_step l i e c again old FortyEight info kept above slot keys base w rest = refl
leaf_step l i e c again old Full info kept above slot keys base w rest = refl

count_step : (l i e : Bool) (c : Setting) (again : Rest) (old : ℕ) (kind : Kind) (info kept : ℕ) (above : Option HeldRow) (slot : ℕ)
    (keys : Keys) (base w : ℕ)
    (rest : List ℕ)
    → left l i e c again (Hang (growing_of old kind info kept above slot keys base)) rest ≡ left l i e c again
    (GrowCount (growing_of old kind info kept above slot keys base)) (w ∷ rest)
unfolding part_of
count_step l i e c again old Four info kept above slot keys base w rest = refl
count_step l i e c again old Sixteen info kept above slot keys base w rest = refl
count_step l i e c again old FortyEight info kept above slot keys base w rest = refl
count_step l i e c again old Full info kept above slot keys base w rest = refl

keys_step : (l i e : Bool) (c : Setting) (again : Rest) (old : ℕ) (kind : Kind) (info kept : ℕ) (above : Option HeldRow) (slot : ℕ)
    (keys : Keys) (base j n w : ℕ)
    (rest : List ℕ)
    → left l i e c again (keys_at_after (growing_of old kind info kept above slot keys base) j n) rest
    ≡ left l i e c again (GrowKeys (growing_of old kind info kept above slot keys base) j n) (w ∷ rest)
unfolding part_of store_index
keys_step l i e c again old Four info kept above slot keys base j n w rest = go (j == 0) n
  where
    g : Growing
    g = growing_of old Four info kept above slot keys base

    go : (b : Bool) (n : ℕ) → left l i e c again (keys_at_after g j n) rest
        ≡ ((if b then store (keys_at base) (keys16_word (keys_after c g.hold keys)) else store (more_keys_at base)
        (more_keys16_word (keys_after c g.hold keys))) >> grow_keys Four c g (j + 1) n) again ends (w ∷ rest)
    go true zero = refl
    go true (suc n) = refl
    go false zero = refl
    go false (suc n) = refl
keys_step l i e c again old Sixteen info kept above slot keys base j zero w rest = refl
keys_step l i e c again old Sixteen info kept above slot keys base j (suc n) w rest = refl
keys_step l i e c again old FortyEight info kept above slot keys base j zero w rest = refl
keys_step l i e c again old FortyEight info kept above slot keys base j (suc n) w rest = refl
keys_step l i e c again old Full info kept above slot keys base j zero w rest = refl
keys_step l i e c again old Full info kept above slot keys base j (suc n) w rest = refl

-- One step of every stage.
step : (l i e : Bool) (c : Setting) (again : Rest) (begins : Begins l i e c again) (stage : Stage) (w : ℕ) (rest : List ℕ)
    → releases_early c.variant ≡ e
    → left l i e c again (after_with l i e c stage w) rest ≡ left l i e c again stage (w ∷ rest)
unfolding part_of lock unlock unlock_all unlock_obsolete copy_child load_child find_child
step l i e c again begins (Lock t true) w rest early = lock_step l i e c again t w rest
step l i e c again begins (Lock t false) w rest early = lock_step l i e c again t w rest
step l i e c again begins (Exchange t v) w rest early = exchange_step l i e c again t v w rest
step l i e c again begins (Wait t) w rest early = wait_step l i e c again begins t w rest
step l i e c again begins (Leave d) w rest early = refl
step l i e c again begins (Between d kept) w rest early = between_step l i e c again begins d kept w rest
step l i e c again begins (Info d kept) w rest early = below_step l i e c again begins d (held d.base d.kind w kept) _ rest
step l i e c again begins (Find p) w rest early =
    find_step l i e c again begins p.row.base p.row.kind p.row.info p.row.kept p.above p.slot w rest early
step l i e c again begins (FindKeys p count) w rest early = refl
step l i e c again begins (FindMore p count first) w rest early =
    placed_step l i e c again begins p (record { first = first; second = w; count = count }) _ rest early
step l i e c again begins (FindCount p index) w rest early =
    checked_step l i e c again begins p (seen.Lacks (record { first = index; second = 0; count = w })) rest early
step l i e c again begins (Slot p slot) w rest early = checked_step l i e c again begins p (seen.Has slot (child_of c.shape w)) rest early
step l i e c again begins (Check p f) w rest early =
    checks l i e c again begins p.row (found_at l i e c p f) (found_then l i c (place_at p) (found_of p.row.kind f)) w rest
    (found_step l i e c again begins p f rest early)
step l i e c again begins (CheckLast n) w rest early = checks l i e c again begins n (Over no_value) (give reply.None) w rest refl
step l i e c again begins (LetGo above p f) w rest early = found_step l i e c again begins p f rest early
step l i e c again begins (Take t) w rest early = taken_by l i e c again begins t w rest
step l i e c again begins (Write h slot word value) w rest early = refl
step l i e c again begins (ClaimPair h p) w rest early = claim_pair_step l i e c again h p w rest
step l i e c again begins (StorePair h p base word) w rest early = pair_step l i e c again h p base word w rest
step l i e c again begins (PutLoad h keys n) w rest early = refl
step l i e c again begins (PutStore h keys n word) w rest early = moves_step l i e c again h keys n rest
step l i e c again begins (PutLeaf h keys) w rest early = refl
step l i e c again begins (PutKeys h keys) w rest early =
    put_keys_step l i e c again begins h.row.base h.row.kind h.row.info h.row.kept h.above keys w rest
step l i e c again begins (PutMore h keys) w rest early = refl
step l i e c again begins (PutCount h keys) w rest early = refl
step l i e c again begins (ClaimGrow h slot keys) w rest early =
    grow_step l i e c again h.row.base h.row.kind h.row.info h.row.kept h.above slot keys w rest
step l i e c again begins (GrowInfo g) w rest early =
    fill_step l i e c again g.hold.row.base g.hold.row.kind g.hold.row.info g.hold.row.kept g.hold.above g.slot g.keys g.base w rest
step l i e c again begins (GrowLoad g place n) w rest early = refl
step l i e c again begins (GrowStore g place n word) w rest early = copies_step l i e c again g (place + 1) n rest
step l i e c again begins (SpreadIndex g j n) w rest early = spread_index_step l i e c again g j n w rest
step l i e c again begins (SpreadLoad s x n) w rest early = refl
step l i e c again begins (SpreadStore s x n word) w rest early = entries_step l i e c again s (x + 1) n rest
step l i e c again begins (GrowLeaf g) w rest early =
    leaf_step l i e c again g.hold.row.base g.hold.row.kind g.hold.row.info g.hold.row.kept g.hold.above g.slot g.keys g.base w rest
step l i e c again begins (GrowKeys g j n) w rest early =
    keys_step l i e c again g.hold.row.base g.hold.row.kind g.hold.row.info g.hold.row.kept g.hold.above g.slot g.keys g.base j n w rest
step l i e c again begins (GrowCount g) w rest early =
    count_step l i e c again g.hold.row.base g.hold.row.kind g.hold.row.info g.hold.row.kept g.hold.above g.slot g.keys g.base w rest
step l i e c again begins (Hang g) w rest early = refl
step l i e c again begins (Obsolete h) w rest early = release_step l i e c again begins h.above (Some no_value) rest
step l i e c again begins (Unlock h outcome) w rest early = unlock_step l i e c again begins h outcome w rest
step l i e c again begins (Over outcome) w rest early = refl

-- The call begins.
procedure_step : (l e : Bool) (c : Setting) (again : Rest) (call : Call) (rest : List ℕ) → locks c.variant ≡ l → is_scan call ≡ false
    → left l (is_insert call) e c again (start_at l) rest ≡ procedure c call again ends rest
unfolding part_of procedure coupled.seek coupled.insert optimistic.seek optimistic.insert
procedure_step true e c again (Get k) rest locked s =
    ap (λ b. (if b then coupled.seek c else optimistic.seek c) again ends rest) (sym locked)
procedure_step true e c again (Remove k) rest locked s =
    ap (λ b. (if b then coupled.seek c else optimistic.seek c) again ends rest) (sym locked)
procedure_step true e c again (Replace k old new) rest locked s =
    ap (λ b. (if b then coupled.seek c else optimistic.seek c) again ends rest) (sym locked)
procedure_step true e c again (Insert k v) rest locked s =
    ap (λ b. (if b then coupled.insert c else optimistic.insert c) again ends rest) (sym locked)
procedure_step false e c again (Get k) rest locked s =
    ap (λ b. (if b then coupled.seek c else optimistic.seek c) again ends rest) (sym locked)
procedure_step false e c again (Remove k) rest locked s =
    ap (λ b. (if b then coupled.seek c else optimistic.seek c) again ends rest) (sym locked)
procedure_step false e c again (Replace k old new) rest locked s =
    ap (λ b. (if b then coupled.seek c else optimistic.seek c) again ends rest) (sym locked)
procedure_step false e c again (Insert k v) rest locked s =
    ap (λ b. (if b then coupled.insert c else optimistic.insert c) again ends rest) (sym locked)
procedure_step l e c again (Scan lo hi) rest locked s = absurd (false≢true (sym s))

-- A call on a key that has made no access is at its first stage.
pub begins : (c : Setting) (rest : List ℕ) → is_scan c.call ≡ false
    → rest_in c (start_at (locks c.variant)) rest ≡ act c.shape c.variant c.call rest
unfolding rest_in
begins c rest s =
    procedure_step (locks c.variant) (releases_early c.variant) c (act c.shape c.variant c.call) c.call rest refl s
    ∙ sym (act-body c.shape c.variant c.call rest)

-- What is left after a word is what is left at the next stage.
pub goes_on : (c : Setting) (stage : Stage) (w : ℕ) (rest : List ℕ) → is_scan c.call ≡ false
    → rest_in c (stage_after c stage w) rest ≡ rest_in c stage (w ∷ rest)
unfolding rest_in
goes_on c stage w rest s =
    step (locks c.variant) (is_insert c.call) (releases_early c.variant) c (act c.shape c.variant c.call)
    (λ rest. begins c rest s) stage w rest refl
