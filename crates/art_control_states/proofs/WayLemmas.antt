-- One step on the way to a row and its work: what is left after a word is what is left at the next
-- stage.
use Rattle.art_control_states.proofs.Common.{◌≡◌, ℕ, zero, suc, ◌-◌, List, [], ◌∷◌, refl, ap, sym, ◌∙◌, Bool, true, false, false≢true, if◌then◌else◌}
use Rattle.art_control_states.proofs.Common.{◌==◌, nat_le, slice_index, Option, Some, None, Reply, Kind, Four, Sixteen, FortyEight, Full, Empty}
use Rattle.art_control_states.proofs.Common.{ChildRow, Leaf, child_at, locked_word, entries_of, child_of, HeldRow, Keys, Finding, Position, Down, Hold}
use Rattle.art_control_states.proofs.Common.{Work, Taking, Target, Root, Below, Taken, Outcome, Stage, Lock, Wait, Between, Info, Find, FindKeys}
use Rattle.art_control_states.proofs.Common.{FindCount, Slot, Check, CheckLast, Take, Write, ClaimGrow, Unlock, Over, Rest, Part, ◌>>=◌, ◌>>◌, give}
use Rattle.art_control_states.proofs.Common.{start_again, load, swap, each, Setting, is_insert, is_full, releases_early, leaves_out_check}
use Rattle.art_control_states.proofs.Common.{takes_unchecked, key_of, lock, unlock, unlock_all, check, check_of, find_child, find_in, find, row_of}
use Rattle.art_control_states.proofs.Common.{overwriting, pair_in, grow, keys_differ_at, row_at, rows_at, held, place_at, count_in, found_of, found_then}
use Rattle.art_control_states.proofs.Common.{inform, taken, entered, part_of, ends, start_at, release_at, no_value, moves_at, put_at, work_at, take_at}
use Rattle.art_control_states.proofs.Common.{taken_at, overwrite_at, seek_coupled, insert_coupled, let_go_at, place_coupled, overwrite_unlocked}
use Rattle.art_control_states.proofs.Common.{seek_unlocked, grow_unlocked, insert_unlocked, found_at, checked_at, among_at, keys_one, indexed_at}
use Rattle.art_control_states.proofs.Common.{find_at, arrived_at, entered_at, below_at}
use Rattle.events.specs.declared.event.Reply.TheVariants as reply
use Rattle.art_rows.specs.Table.{info_at, count_at}
use Rattle.art_rows.specs.Words.{keys4_of, keys16_of, count_of, child_word, key_bytes}
use Rattle.art_control_states.specs.declared.stage.Finding.TheVariants as seen
use Rattle.art_control_states.specs.declared.stage.Work.TheVariants as work
use Rattle.art_rows.specs.Steps.{first_at}
use Rattle.art_rows.specs.Rows.{Lacks, lock_point, take_row, find_among, find_indexed, path_differs_at}
use Rattle.art_rows.specs.Updates.{new_leaf, make_room, put_in, put, store_child, insert_in, insert_beside}
use Rattle.art_rows.specs.Coupled as coupled
use Rattle.art_rows.specs.Optimistic as optimistic
use Rattle.art_rows.proofs.GuardLemmas.{seek_from-body, insert_from-body, seek_from_optimistic-body, insert_from_optimistic-body}
use Rattle.art_control_states.specs.Stages.{root_place, keys_in, descend, checked_then, placed_then, below_then, arrived, work_in, put_moves, end_with}
use Rattle.art_control_states.specs.Automaton.{hold_alone, end_at, leaf_work, pair_work, beside_work, has_room, take_alone}

-- what is left at a stage, where the call starts again so
abbrev pub left : Bool → Bool → Bool → Setting → Rest → Stage → Rest
left l i e c again stage = part_of l i e c stage again ends

-- a call that starts again is at its first stage
abbrev pub Begins : Bool → Bool → Bool → Setting → Rest → Type 0
Begins l i e c again = (rest : List ℕ) → left l i e c again (start_at l) rest ≡ again rest

-- Releases

end_step : (l i e : Bool) (c : Setting) (again : Rest) (begins : Begins l i e c again) (outcome : Option Outcome) (rest : List ℕ)
    → left l i e c again (end_at l outcome) rest ≡ end_with outcome again ends rest
unfolding part_of
end_step l i e c again begins None rest = begins rest
end_step l i e c again begins (Some outcome) rest = refl

pub release_step : (l i e : Bool) (c : Setting) (again : Rest) (begins : Begins l i e c again) (above : Option HeldRow)
    (outcome : Option Outcome) (rest : List ℕ)
    → left l i e c again (release_at l above outcome) rest ≡ (unlock_all (rows_at above) >> end_with outcome) again ends rest
unfolding part_of unlock_all
release_step l i e c again begins None outcome rest = end_step l i e c again begins outcome rest
release_step l i e c again begins (Some n) outcome rest = refl

pub unlock_step : (l i e : Bool) (c : Setting) (again : Rest) (begins : Begins l i e c again) (h : Hold) (outcome : Option Outcome)
    (w : ℕ) (rest : List ℕ)
    → left l i e c again (release_at l h.above outcome) rest ≡ left l i e c again (Unlock h outcome) (w ∷ rest)
unfolding part_of unlock_all unlock
unlock_step l i e c again begins h outcome w rest = release_step l i e c again begins h.above outcome rest

-- Work begins

pub moves_step : (l i e : Bool) (c : Setting) (again : Rest) (h : Hold) (keys : Keys) (n : ℕ) (rest : List ℕ)
    → left l i e c again (moves_at h keys n) rest ≡ put_moves c h keys n again ends rest
unfolding part_of
moves_step l i e c again h keys zero rest = refl
moves_step l i e c again h keys (suc n) rest = refl

put_step : (l i e : Bool) (c : Setting) (again : Rest) (base : ℕ) (kind : Kind) (info kept : ℕ) (above : Option HeldRow)
    (keys : Keys) (rest : List ℕ)
    → left l i e c again (put_at kind c (record { row = held base kind info kept; above = above }) keys) rest
    ≡ work_in c kind (row_of base kind info kept) (rows_at above) (work.Put keys) again ends rest
unfolding part_of put put_in make_room
put_step l i e c again base Four info kept above keys rest =
    moves_step l i e c again (record { row = held base Four info kept; above = above }) keys _ rest
put_step l i e c again base Sixteen info kept above keys rest =
    moves_step l i e c again (record { row = held base Sixteen info kept; above = above }) keys _ rest
put_step l i e c again base FortyEight info kept above keys rest = refl
put_step l i e c again base Full info kept above keys rest = refl

work_step : (l i e : Bool) (c : Setting) (again : Rest) (h : Hold) (k : Work) (rest : List ℕ)
    → left l i e c again (work_at c h k) rest ≡ work_in c h.row.kind (row_at h.row) (rows_at h.above) k again ends rest
unfolding part_of
work_step l i e c again h (work.Write slot word value) rest = refl
work_step l i e c again h (work.Pair p) rest = refl
work_step l i e c again h (work.Put keys) rest = put_step l i e c again h.row.base h.row.kind h.row.info h.row.kept h.above keys rest
work_step l i e c again h (work.Grow slot keys) rest = refl

take_step : (l i e : Bool) (c : Setting) (again : Rest) (t : Taking) (rest : List ℕ)
    → left l i e c again (take_at c t) rest ≡ (take_row c (rows_at t.held) (row_at t.row) >>= taken c t.held t.below t.work
    t.row.kind) again ends rest
unfolding part_of take_row
take_step l i e c again t rest = go (takes_unchecked c.variant)
  where
    go : (b : Bool) → left l i e c again (if b then Lock (Taken t) true else Take t) rest
        ≡ ((if b then (lock c.shape t.row.base >>= λ v. give (record (row_at t.row) { kept = v }))
        else (first_at (lock_point c.shape t.row.base) (swap t.row.base t.row.kept (locked_word t.row.kept)) >>= λ was. if was ==
        t.row.kept then give
        (row_at t.row) else (unlock_all (rows_at t.held) >> start_again)))
        >>= taken c t.held t.below t.work t.row.kind) again ends rest
    go true = refl
    go false = refl

pub taken_step : (l i e : Bool) (c : Setting) (again : Rest) (above below : Option HeldRow) (k : Work) (n : HeldRow) (rest : List ℕ)
    → left l i e c again (taken_at c above below k n) rest ≡ taken c above below k n.kind (row_at n) again ends rest
taken_step l i e c again above None k n rest = work_step l i e c again (record { row = n; above = above }) k rest
taken_step l i e c again above (Some m) k n rest = take_step l i e c again (record { row = m; held = Some n; below = None; work = k }) rest

-- What FIND saw

overwrite_step : (c : Setting) (again : Rest) (n : HeldRow) (slot value : ℕ) (o : Option ℕ) (e : Bool) (rest : List ℕ)
    → left true false e c again (overwrite_at n slot value o)
    rest ≡ (coupled.overwrite slot o >> unlock (row_at n) >> give (reply.Some value)) again ends rest
unfolding part_of unlock_all
overwrite_step c again n slot value None e rest = refl
overwrite_step c again n slot value (Some word) e rest = refl

seek_coupled_step : (e : Bool) (c : Setting) (again : Rest) (n : HeldRow) (f : Finding) (rest : List ℕ) → releases_early c.variant ≡ e
    → left true false e c again (seek_coupled e c n f) rest ≡ coupled.seek_at c (coupled.seek_from c) (row_at n)
    (found_of n.kind f) again ends rest
unfolding part_of coupled.seek_at coupled.step_down unlock_all
seek_coupled_step e c again n (seen.Lacks keys) rest early = refl
seek_coupled_step e c again n (seen.Has slot Empty) rest early = refl
seek_coupled_step e c again n (seen.Has slot (Leaf key value)) rest early = go (key == key_of c.call)
  where
    go : (b : Bool) → left true false e c again (if b then overwrite_at n slot value (overwriting c.call value) else Unlock (hold_alone n)
        (Some no_value)) rest
        ≡ (if b then (coupled.overwrite slot (overwriting c.call value) >> unlock (row_at n) >> give (reply.Some value)) else
        (unlock (row_at n) >> give reply.None)) again ends rest
    go true = overwrite_step c again n slot value (overwriting c.call value) e rest
    go false = refl
seek_coupled_step true c again n (seen.Has slot (ChildRow base kind)) rest early =
    ap (λ b. ((if b
    then (unlock (row_at n) >> (lock c.shape base >>= λ v. load (info_at base) >>= λ info. give (row_of base kind info v)))
    else (lock c.shape base >>= λ v. unlock (row_at n) >> (load (info_at base) >>= λ info. give (row_of base kind info v))))
    >>= λ m. coupled.seek_below c (coupled.seek_from c) m (path_differs_at c m)) again ends rest) (sym early)
seek_coupled_step false c again n (seen.Has slot (ChildRow base kind)) rest early =
    ap (λ b. ((if b
    then (unlock (row_at n) >> (lock c.shape base >>= λ v. load (info_at base) >>= λ info. give (row_of base kind info v)))
    else (lock c.shape base >>= λ v. unlock (row_at n) >> (load (info_at base) >>= λ info. give (row_of base kind info v))))
    >>= λ m. coupled.seek_below c (coupled.seek_from c) m (path_differs_at c m)) again ends rest) (sym early)

-- an insert that locks, where the row has room
insert_coupled_step : (e : Bool) (c : Setting) (again : Rest) (n : HeldRow) (slot : ℕ) (f : Finding) (rest : List ℕ) → has_room n f ≡ true
    → left true true e c again (insert_coupled c n f) rest
    ≡ coupled.insert_at c (coupled.insert_from c) (record { row = row_at n; above = []; slot = slot }) (found_of n.kind f) again ends rest
unfolding part_of coupled.insert_at insert_in unlock_all
insert_coupled_step e c again n slot (seen.Lacks keys) rest room = go (is_full (row_at n) (count_in n.kind keys)) room
  where
    go : (b : Bool) → (if b then false else true) ≡ true → left true true e c again (insert_coupled c n (seen.Lacks keys)) rest
        ≡ (if b then (grow c [] slot (row_at n) (keys_in n.kind keys) (count_in n.kind keys) >> give reply.None)
        else (put c (row_at n) (keys_in n.kind keys) (count_in n.kind keys) >> (unlock (row_at n) >> give reply.None))) again ends rest
    go true h = absurd (false≢true h)
    go false h = work_step true true e c again (hold_alone n) (work.Put keys) rest
insert_coupled_step e c again n slot (seen.Has s Empty) rest room = refl
insert_coupled_step e c again n slot (seen.Has s (Leaf key value)) rest room = go (key == key_of c.call)
  where
    go : (b : Bool)
        → left true true e c again
        (if b then Write (hold_alone n) s (child_word (new_leaf c.call)) (Some value) else work_at c (hold_alone n)
        (pair_work c s key value)) rest
        ≡ ((if b then (store_child s (new_leaf c.call) >> give (reply.Some value))
        else (pair_in c (row_at n ∷ []) s (keys_differ_at key (key_of c.call))
        (record { byte = slice_index (key_bytes key) (keys_differ_at key (key_of c.call)); child = Leaf key value }) >> give reply.None))
        >>= λ r. unlock (row_at n) >> give r) again ends rest
    go true = refl
    go false = refl
insert_coupled_step e c again n slot (seen.Has s (ChildRow base kind)) rest room = refl

let_go_step : (e : Bool) (c : Setting) (again : Rest) (n : HeldRow) (above : Option HeldRow) (slot : ℕ) (f : Finding) (rest : List ℕ)
    → has_room n f ≡ true
    → left true true e c again (let_go_at c n above slot f) rest
    ≡ (unlock_all (rows_at above) >> coupled.insert_at c (coupled.insert_from c) (record { row = row_at n; above = []; slot = slot })
    (found_of n.kind f)) again ends rest
unfolding part_of unlock_all
let_go_step e c again n None slot f rest room = insert_coupled_step e c again n slot f rest room
let_go_step e c again n (Some above) slot f rest room = refl

-- with the row above unlocked first
unlocked_first : (c : Setting) (again : Rest) (n : HeldRow) (above : Option HeldRow) (slot : ℕ) (f : Finding) (rest : List ℕ)
    → has_room n f ≡ true
    → (unlock_all (rows_at above) >> coupled.insert_at c (coupled.insert_from c) (record { row = row_at n; above = []; slot = slot })
    (found_of n.kind f)) again ends rest
    ≡ coupled.insert_at c (coupled.insert_from c) (record { row = row_at n; above = rows_at above; slot = slot })
    (found_of n.kind f) again ends rest
unfolding coupled.insert_at unlock_all
unlocked_first c again n above slot (seen.Lacks keys) rest room = go (is_full (row_at n) (count_in n.kind keys)) room
  where
    after : Part Reply
    after = put c (row_at n) (keys_in n.kind keys) (count_in n.kind keys) >> (unlock (row_at n) >> give reply.None)

    go : (b : Bool) → (if b then false else true) ≡ true
        → (each (rows_at above) unlock >>
        (if b then (grow c [] slot (row_at n) (keys_in n.kind keys) (count_in n.kind keys) >> give reply.None) else after)) again ends rest
        ≡ (if b then (grow c (rows_at above) slot (row_at n) (keys_in n.kind keys) (count_in n.kind keys) >> give reply.None) else
        (each (rows_at above) unlock >> after)) again ends rest
    go true h = absurd (false≢true h)
    go false h = refl
unlocked_first c again n above slot (seen.Has s Empty) rest room = refl
unlocked_first c again n above slot (seen.Has s (Leaf key value)) rest room = refl
unlocked_first c again n above slot (seen.Has s (ChildRow base kind)) rest room = refl

place_lacks : (e : Bool) (c : Setting) (again : Rest) (p : Position) (keys : Keys) (rest : List ℕ) (b : Bool)
    → is_full (row_at p.row) (count_in p.row.kind keys) ≡ b
    → left true true e c again (place_coupled c p (seen.Lacks keys)) rest ≡ coupled.insert_at c (coupled.insert_from c) (place_at p)
    (found_of p.row.kind (seen.Lacks keys)) again ends rest
unfolding part_of coupled.insert_at
place_lacks e c again p keys rest true full =
    ap (λ b. left true true e c again
    (if b then ClaimGrow (record { row = p.row; above = p.above }) p.slot keys else let_go_at c p.row p.above p.slot
    (seen.Lacks keys)) rest) full
    ∙ ap (λ b. (if b then (grow c (rows_at p.above) p.slot (row_at p.row) (keys_in p.row.kind keys) (count_in p.row.kind keys)
    >> give reply.None)
    else (unlock_all (rows_at p.above) >>
    (put c (row_at p.row) (keys_in p.row.kind keys) (count_in p.row.kind keys) >> (unlock (row_at p.row) >> give reply.None)))) again
    ends rest) (sym full)
place_lacks e c again p keys rest false full =
    ap (λ b. left true true e c again
    (if b then ClaimGrow (record { row = p.row; above = p.above }) p.slot keys else let_go_at c p.row p.above p.slot
    (seen.Lacks keys)) rest) full
    ∙ let_go_step e c again p.row p.above p.slot (seen.Lacks keys) rest (ap (λ b. if b then false else true) full)
    ∙ unlocked_first c again p.row p.above p.slot (seen.Lacks keys) rest (ap (λ b. if b then false else true) full)

place_coupled_step : (e : Bool) (c : Setting) (again : Rest) (p : Position) (f : Finding) (rest : List ℕ)
    → left true true e c again (place_coupled c p f) rest ≡ coupled.insert_at c (coupled.insert_from c) (place_at p)
    (found_of p.row.kind f) again ends rest
place_coupled_step e c again p (seen.Has slot child) rest =
    let_go_step e c again p.row p.above p.slot (seen.Has slot child) rest refl
    ∙ unlocked_first c again p.row p.above p.slot (seen.Has slot child) rest refl
place_coupled_step e c again p (seen.Lacks keys) rest =
    place_lacks e c again p keys rest (is_full (row_at p.row) (count_in p.row.kind keys)) refl

-- without locks
overwrite_unlocked_step : (e : Bool) (c : Setting) (again : Rest) (n : HeldRow) (slot value : ℕ) (o : Option ℕ) (rest : List ℕ)
    → left false false e c again (overwrite_unlocked c n slot value o) rest ≡
    (optimistic.overwrite c (row_at n) slot o >> give (reply.Some value)) again ends rest
unfolding part_of unlock_all
overwrite_unlocked_step e c again n slot value None rest = refl
overwrite_unlocked_step e c again n slot value (Some word) rest =
    take_step false false e c again (record { row = n; held = None; below = None; work = work.Write slot word (Some value) }) rest

seek_unlocked_step : (e : Bool) (c : Setting) (again : Rest) (n : HeldRow) (f : Finding) (rest : List ℕ)
    → left false false e c again (seek_unlocked c n f) rest ≡ optimistic.seek_at c (optimistic.seek_from c) (row_at n)
    (found_of n.kind f) again ends rest
unfolding part_of optimistic.seek_at optimistic.step_down
seek_unlocked_step e c again n (seen.Lacks keys) rest = refl
seek_unlocked_step e c again n (seen.Has slot Empty) rest = refl
seek_unlocked_step e c again n (seen.Has slot (Leaf key value)) rest = go (key == key_of c.call)
  where
    go : (b : Bool) → left false false e c again (if b then overwrite_unlocked c n slot value
        (overwriting c.call value) else Over no_value) rest
        ≡ (if b then (optimistic.overwrite c (row_at n) slot (overwriting c.call value) >> give (reply.Some value)) else give
        reply.None) again ends rest
    go true = overwrite_unlocked_step e c again n slot value (overwriting c.call value) rest
    go false = refl
seek_unlocked_step e c again n (seen.Has slot (ChildRow base kind)) rest = refl

grow_unlocked_step : (e : Bool) (c : Setting) (again : Rest) (n : HeldRow) (above : Option HeldRow) (slot : ℕ) (keys : Keys) (rest : List ℕ)
    → left false true e c again (grow_unlocked c n above slot keys) rest
    ≡ (optimistic.take_above c (rows_at above) >>= λ held. take_row c held (row_at n) >>= λ m. grow c held slot m (keys_in n.kind keys)
    (count_in n.kind keys) >> give reply.None) again ends rest
grow_unlocked_step e c again n None slot keys rest =
    take_step false true e c again (record { row = n; held = None; below = None; work = work.Grow slot keys }) rest
grow_unlocked_step e c again n (Some above) slot keys rest =
    take_step false true e c again (record { row = above; held = None; below = Some n; work = work.Grow slot keys }) rest

take_alone_step : (e : Bool) (c : Setting) (again : Rest) (n : HeldRow) (k : Work) (rest : List ℕ)
    → left false true e c again (take_alone c n k) rest ≡ (take_row c [] (row_at n) >>= λ m. work_in c n.kind m [] k) again ends rest
take_alone_step e c again n k rest = take_step false true e c again (record { row = n; held = None; below = None; work = k }) rest

insert_unlocked_step : (e : Bool) (c : Setting) (again : Rest) (begins : Begins false true e c again) (p : Position)
    (f : Finding) (rest : List ℕ)
    → left false true e c again (insert_unlocked c p f) rest ≡ optimistic.insert_at c (optimistic.insert_from c) (place_at p)
    (found_of p.row.kind f) again ends rest
unfolding part_of optimistic.insert_at optimistic.insert_leaf optimistic.step_down insert_in unlock_all
insert_unlocked_step e c again begins p (seen.Lacks keys) rest = go (is_full (row_at p.row) (count_in p.row.kind keys))
  where
    go : (b : Bool) → left false true e c again (if b then grow_unlocked c p.row p.above p.slot keys else take_alone c p.row
        (work.Put keys)) rest
        ≡ (if b then
        (optimistic.take_above c (rows_at p.above) >>= λ held. take_row c held (row_at p.row) >>= λ m. grow c held p.slot m
        (keys_in p.row.kind keys)
        (count_in p.row.kind keys) >> give reply.None)
        else (take_row c [] (row_at p.row) >>= λ m. put c m (keys_in p.row.kind keys) (count_in p.row.kind keys) >>
        (unlock m >> give reply.None))) again ends rest
    go true = grow_unlocked_step e c again p.row p.above p.slot keys rest
    go false = take_alone_step e c again p.row (work.Put keys) rest
insert_unlocked_step e c again begins p (seen.Has slot Empty) rest = take_alone_step e c again p.row (leaf_work c slot None) rest
insert_unlocked_step e c again begins p (seen.Has slot (Leaf key value)) rest =
    go (key == key_of c.call) (nat_le (keys_differ_at key (key_of c.call)) (row_at p.row).level)
  where
    leaf : Bool → Part Reply
    leaf b = take_row c [] (row_at p.row) >>= λ m. (if b then (store_child slot (new_leaf c.call) >> give (reply.Some value))
        else (pair_in c (m ∷ []) slot (keys_differ_at key (key_of c.call))
        (record { byte = slice_index (key_bytes key) (keys_differ_at key (key_of c.call)); child = Leaf key value }) >> give reply.None))
        >>= λ r. unlock m >> give r

    go : (b d : Bool)
        → left false true e c again
        (if b then take_alone c p.row (leaf_work c slot (Some value)) else if d then Wait Root else take_alone c p.row
        (pair_work c slot key value)) rest
        ≡ (if b then leaf b else (if d then start_again else leaf b)) again ends rest
    go true d = take_alone_step e c again p.row (leaf_work c slot (Some value)) rest
    go false true = begins rest
    go false false = take_alone_step e c again p.row (pair_work c slot key value) rest
insert_unlocked_step e c again begins p (seen.Has slot (ChildRow base kind)) rest = refl

pub found_step : (l i e : Bool) (c : Setting) (again : Rest) (begins : Begins l i e c again) (p : Position) (f : Finding) (rest : List ℕ)
    → releases_early c.variant ≡ e
    → left l i e c again (found_at l i e c p f) rest ≡ found_then l i c (place_at p) (found_of p.row.kind f) again ends rest
found_step true false e c again begins p f rest early = seek_coupled_step e c again p.row f rest early
found_step true true e c again begins p f rest early = place_coupled_step e c again p f rest
found_step false false e c again begins p f rest early = seek_unlocked_step e c again p.row f rest
found_step false true e c again begins p f rest early = insert_unlocked_step e c again begins p f rest

pub checked_step : (l i e : Bool) (c : Setting) (again : Rest) (begins : Begins l i e c again) (p : Position) (f : Finding) (rest : List ℕ)
    → releases_early c.variant ≡ e
    → left l i e c again (checked_at l i e c p f) rest ≡ checked_then l i c (place_at p) (found_of p.row.kind f) again ends rest
unfolding part_of check_of
checked_step true i e c again begins p f rest early = found_step true i e c again begins p f rest early
checked_step false i e c again begins p f rest early = go (leaves_out_check c.variant c.call)
  where
    go : (b : Bool) → left false i e c again (if b then found_at false i e c p f else Check p f) rest
        ≡ ((if b then give tt else check (row_at p.row)) >> found_then false i c (place_at p) (found_of p.row.kind f)) again ends rest
    go true = found_step false i e c again begins p f rest early
    go false = refl

-- FIND

pub placed_step : (l i e : Bool) (c : Setting) (again : Rest) (begins : Begins l i e c again) (p : Position) (keys : Keys)
    (o : Option ℕ) (rest : List ℕ)
    → releases_early c.variant ≡ e
    → left l i e c again (among_at l i e c p keys o) rest ≡ placed_then l i c p keys o again ends rest
unfolding part_of
placed_step l i e c again begins p keys None rest early = checked_step l i e c again begins p (seen.Lacks keys) rest early
placed_step l i e c again begins p keys (Some x) rest early = refl

four_step : (l i : Bool) (c : Setting) (again : Rest) (base info kept : ℕ) (above : Option HeldRow) (slot w : ℕ) (o : Option ℕ) (rest : List ℕ)
    → placed_then l i c (record { row = held base Four info kept; above = above; slot = slot }) (keys_one w) o again ends rest
    ≡ (find_among c (row_of base Four info kept) (keys4_of w) o >>= checked_then l i c
    (place_at (record { row = held base Four info kept; above = above; slot = slot }))) again ends rest
unfolding find_among
four_step l i c again base info kept above slot w None rest = refl
four_step l i c again base info kept above slot w (Some x) rest = refl

sixteen_step : (l i : Bool) (c : Setting) (again : Rest) (base info kept : ℕ) (above : Option HeldRow) (slot count first second : ℕ)
    (o : Option ℕ) (rest : List ℕ)
    → placed_then l i c (record { row = held base Sixteen info kept; above = above; slot = slot })
    (record { first = first; second = second; count = count }) o again ends rest
    ≡ (find_among c (row_of base Sixteen info kept) (keys16_of count first second) o >>= checked_then l i c
    (place_at (record { row = held base Sixteen info kept; above = above; slot = slot }))) again ends rest
unfolding find_among
sixteen_step l i c again base info kept above slot count first second None rest = refl
sixteen_step l i c again base info kept above slot count first second (Some x) rest = refl

sixteen_finds : (l i : Bool) (c : Setting) (again : Rest) (base info kept : ℕ) (above : Option HeldRow) (slot w : ℕ) (rest : List ℕ)
    → left l i false c again (FindKeys (record { row = held base Sixteen info kept; above = above; slot = slot }) w) rest
    ≡ left l i false c again (Find (record { row = held base Sixteen info kept; above = above; slot = slot })) (w ∷ rest)
unfolding part_of find find_in
sixteen_finds l i c again base info kept above slot w [] = refl
sixteen_finds l i c again base info kept above slot w (x ∷ []) = refl
sixteen_finds l i c again base info kept above slot w (x ∷ y ∷ rest) = sixteen_step l i c again base info kept above slot w x y _ rest

indexed_step : (l i e : Bool) (c : Setting) (again : Rest) (begins : Begins l i e c again) (base info kept : ℕ) (above : Option HeldRow)
    (slot w entry : ℕ)
    (rest : List ℕ) → releases_early c.variant ≡ e
    → left l i e c again (indexed_at l i e c (record { row = held base FortyEight info kept; above = above; slot = slot }) w entry) rest
    ≡ (find_indexed c (row_of base FortyEight info kept) (entries_of w) entry >>= checked_then l i c
    (place_at (record { row = held base FortyEight info kept; above = above; slot = slot }))) again ends rest
unfolding part_of find_indexed
indexed_step l i e c again begins base info kept above slot w entry rest early = go (entry == 0) (is_insert c.call)
  where
    p : Position
    p = record { row = held base FortyEight info kept; above = above; slot = slot }

    go : (b d : Bool)
        → left l i e c again
        (if b then (if d then FindCount p w else checked_at l i e c p (seen.Lacks (keys_one w))) else Slot p
        (child_at FortyEight base (entry - 1))) rest
        ≡ ((if b then
        (if d then (load (count_at FortyEight base) >>= λ count. give (Lacks (entries_of w) (count_of 48 count))) else give
        (Lacks (entries_of w) 0))
        else find_child c (child_at FortyEight base (entry - 1))) >>= checked_then l i c (place_at p)) again ends rest
    go true true = refl
    go true false = checked_step l i e c again begins p (seen.Lacks (keys_one w)) rest early
    go false d = refl

pub find_step : (l i e : Bool) (c : Setting) (again : Rest) (begins : Begins l i e c again) (base : ℕ) (kind : Kind) (info kept : ℕ)
    (above : Option HeldRow)
    (slot w : ℕ) (rest : List ℕ) → releases_early c.variant ≡ e
    → left l i e c again (find_at l i e kind c (record { row = held base kind info kept; above = above; slot = slot }) w) rest
    ≡ left l i e c again (Find (record { row = held base kind info kept; above = above; slot = slot })) (w ∷ rest)
unfolding part_of find find_in
find_step l i e c again begins base Four info kept above slot w rest early =
    placed_step l i e c again begins (record { row = held base Four info kept; above = above; slot = slot }) (keys_one w) _ rest early
    ∙ four_step l i c again base info kept above slot w _ rest
find_step l i e c again begins base Sixteen info kept above slot w rest early = sixteen_finds l i c again base info kept above slot w rest
find_step l i e c again begins base FortyEight info kept above slot w rest early =
    indexed_step l i e c again begins base info kept above slot w _ rest early
find_step l i e c again begins base Full info kept above slot w rest early =
    checked_step l i e c again begins (record { row = held base Full info kept; above = above; slot = slot })
    (seen.Has _ (child_of c.shape w)) rest early

-- the law of the descents
descend-body : (l i : Bool) (c : Setting) (again : Rest) (p : Position) (rest : List ℕ)
    → descend l i c (place_at p) again ends rest ≡ (find c (row_at p.row) >>= checked_then l i c (place_at p)) again ends rest
descend-body true false c again p rest = seek_from-body c (row_at p.row) again ends rest
descend-body true true c again p rest = insert_from-body c (place_at p) again ends rest
descend-body false false c again p rest = seek_from_optimistic-body c (row_at p.row) again ends rest
descend-body false true c again p rest = insert_from_optimistic-body c (place_at p) again ends rest

-- The way down

arrived_step : (l i e : Bool) (c : Setting) (again : Rest) (d : Down) (v : ℕ) (rest : List ℕ)
    → left l i e c again (arrived_at l i e c d v) rest ≡ arrived l i e c d v again ends rest
unfolding part_of check_of
arrived_step true true e c again d v rest = refl
arrived_step true false true c again d v rest = refl
arrived_step true false false c again d v rest = refl
arrived_step false i e c again d v rest = go (leaves_out_check c.variant c.call)
  where
    go : (b : Bool)
        → left false i e c again (if b then Info d v else Between d v) rest ≡
        ((if b then give tt else check (row_at d.above)) >> inform false i c d v) again ends rest
    go true = refl
    go false = refl

pub entered_step : (l i e : Bool) (c : Setting) (again : Rest) (t : Target) (v : ℕ) (rest : List ℕ)
    → left l i e c again (entered_at l i e c t v) rest ≡ entered l i e c t v again ends rest
unfolding part_of
entered_step l i e c again Root v rest = sym (descend-body l i c again (root_place c v) rest)
entered_step l i e c again (Below d) v rest = arrived_step l i e c again d v rest
entered_step l i e c again (Taken t) v rest = taken_step l i e c again t.held t.below t.work (held t.row.base t.row.kind t.row.info v) rest

pub below_step : (l i e : Bool) (c : Setting) (again : Rest) (begins : Begins l i e c again) (d : Down) (m : HeldRow)
    (o : Option ℕ) (rest : List ℕ)
    → left l i e c again (below_at l i c d m o) rest ≡ below_then l i c (row_at d.above) d.slot (row_at m) o again ends rest
unfolding part_of check_of unlock_all insert_beside
below_step true false e c again begins d m None rest =
    sym (descend-body true false c again (record { row = m; above = Some d.above; slot = d.slot }) rest)
below_step true true e c again begins d m None rest =
    sym (descend-body true true c again (record { row = m; above = Some d.above; slot = d.slot }) rest)
below_step false false e c again begins d m None rest =
    sym (descend-body false false c again (record { row = m; above = Some d.above; slot = d.slot }) rest)
below_step false true e c again begins d m None rest =
    sym (descend-body false true c again (record { row = m; above = Some d.above; slot = d.slot }) rest)
below_step true false e c again begins d m (Some x) rest = refl
below_step true true e c again begins d m (Some x) rest = refl
below_step false false e c again begins d m (Some x) rest = go (leaves_out_check c.variant c.call)
  where
    go : (b : Bool)
        → left false false e c again (if b then Over no_value else CheckLast m) rest ≡
        ((if b then give tt else check (row_at m)) >> give reply.None) again ends rest
    go true = refl
    go false = refl
below_step false true e c again begins d m (Some x) rest = go (nat_le x (row_at d.above).level)
  where
    go : (b : Bool) → left false true e c again (if b then Wait Root else take_alone c d.above (beside_work d.slot m x)) rest
        ≡ (if b then start_again else
        (take_row c [] (row_at d.above) >>= λ held. insert_beside c (held ∷ []) d.slot (row_at m) x >>= λ r. unlock held >> give
        r)) again ends rest
    go true = begins rest
    go false = take_alone_step e c again d.above (beside_work d.slot m x) rest
