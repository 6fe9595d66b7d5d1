-- The way of a scan, from its lowest row on.
use Rattle.art_scan.proofs.Common.{◌≡◌, ℕ, List, [], ◌∷◌, refl, ap, sym, ◌∙◌, true, false, Bool, ⊎_elim, false≢true, None, if◌then◌else◌, ◌⊎◌, Kind}
use Rattle.art_scan.proofs.Common.{Four, Sixteen, FortyEight, Full, reply_of, HeldRow, Frame, Lock, Exchange, Wait, Info, Keys, FirstKeys, SecondKeys}
use Rattle.art_scan.proofs.Common.{Index, Child, Release, Over, child_of, Walk, ScanAt, at, on_way, with_frame, frame_of, frame_at, way_at, scan_turn}
use Rattle.art_scan.proofs.Common.{resume_at, row_begins, words_at, visit_list, child_after, step_after, is_over, has_any, with_pair}
use Rattle.std.proofs.lemmas.Option.{none-some}
use Rattle.art_rows.specs.Rows.{Setting}
use Rattle.art_control_states.specs.declared.stage.ScanStep.{ScanStep}
use Rattle.art_control_states.specs.Automaton.{keys_one}
use Rattle.art_rows.specs.declared.table.Child.{Child as ChildOf}
use Rattle.art_rows.specs.declared.table.Child.TheVariants.{Leaf}

-- a way is gone on whatever way the walk has
pub way_same : (c : Setting) (low high : ℕ) (w : Walk) (other fs : List Frame)
    → way_at c low high w fs ≡ way_at c low high (on_way w other) fs
way_same c low high w other [] = refl
way_same c low high w other (f ∷ fs) = ap (frame_at f.row.kind low high (on_way w fs) f) (way_same c low high w other fs)

pub resume_frame : (c : Setting) (low high : ℕ) (w : Walk) (f : Frame)
    → resume_at c low high (with_frame w f) ≡ frame_at f.row.kind low high w f (resume_at c low high w)
resume_frame c low high w f = ap (frame_at f.row.kind low high w f) (sym (way_same c low high w (f ∷ w.way) w.way))

-- a child of a frame was read

pub behind_child : (c : Setting) (low high : ℕ) (f : Frame) (slot got : ℕ) (child : ChildOf) (w : Walk) (step : ScanStep) (x : ScanAt)
    → step ≡ Child f slot → child_of c.shape got ≡ child → child_after c low high (with_frame w f) child ≡ x
    → x ≡ step_after c low high step w got
behind_child c low high f slot got child w step x is read e =
    sym e ∙ (ap (child_after c low high (with_frame w f)) (sym read) ∙ ap (λ s. step_after c low high s w got) (sym is))

pub behind_leaf : (c : Setting) (low high : ℕ) (f : Frame) (key value : ℕ) (w v : Walk) (x : ScanAt) → v ≡ with_pair low high key value w
    → frame_at f.row.kind low high v f (resume_at c low high v) ≡ x → child_after c low high (with_frame w f) (Leaf key value) ≡ x
behind_leaf c low high f key value w v x counted e =
    ap (λ u. resume_at c low high (with_frame u f)) (sym counted) ∙ (resume_frame c low high v f ∙ e)

pub begins_full : (c : Setting) (low high : ℕ) (n : HeldRow) (w : Walk) → n.kind ≡ Full
    → resume_at c low high (with_frame w (frame_of n (keys_one 0) 0 0)) ≡ row_begins n.kind c low high n w
begins_full c low high n w e =
    resume_frame c low high w (frame_of n (keys_one 0) 0 0)
    ∙ (ap (λ k. frame_at k low high w (frame_of n (keys_one 0) 0 0) (resume_at c low high w)) e
    ∙ sym (ap (λ k. row_begins k c low high n w) e))

begins_as : (c : Setting) (low high : ℕ) (n : HeldRow) (w : Walk) (k : Kind) → at (Keys n) w ≡ row_begins k c low high n w → n.kind ≡ k
    → at (Keys n) w ≡ row_begins n.kind c low high n w
begins_as c low high n w k here is = here ∙ sym (ap (λ j. row_begins j c low high n w) is)

pub begins_keys : (c : Setting) (low high : ℕ) (n : HeldRow) (w : Walk) → (n.kind ≡ Four) ⊎ (n.kind ≡ Sixteen)
    → at (Keys n) w ≡ row_begins n.kind c low high n w
begins_keys c low high n w e = ⊎_elim (begins_as c low high n w Four refl) (begins_as c low high n w Sixteen refl) e

pub begins_words : (c : Setting) (low high : ℕ) (n : HeldRow) (w : Walk) (found : Bool) (here x : ScanAt) → n.kind ≡ FortyEight
    → words_at low high n w 0 32 (resume_at c low high w) ≡ (if found then here else resume_at c low high w)
    → x ≡ (if found then here else resume_at c low high w) → x ≡ row_begins n.kind c low high n w
begins_words c low high n w found here x e next is = is ∙ (sym next ∙ sym (ap (λ k. row_begins k c low high n w) e))

pub visit_some : (c : Setting) (low high : ℕ) (n : HeldRow) (w : Walk) (xs : List ℕ) → has_any xs ≡ true
    → row_begins n.kind c low high n w ≡ visit_list c low high n w xs
visit_some c low high n w [] h = absurd (false≢true h)
visit_some c low high n w (x ∷ xs) h = refl

pub visit_none : (c : Setting) (low high : ℕ) (n : HeldRow) (w : Walk) (xs : List ℕ) → has_any xs ≡ false
    → resume_at c low high w ≡ visit_list c low high n w xs
visit_none c low high n w [] h = refl
visit_none c low high n w (x ∷ xs) h = absurd (false≢true (sym h))

-- if no reply is known, the scan is not over
pub asks_on : (c : Setting) (step : ScanStep) (w : Walk) → reply_of (scan_turn c (at step w)) ≡ None → is_over step ≡ false
asks_on c (Lock entry first) w e = refl
asks_on c (Exchange entry v) w e = refl
asks_on c (Wait entry) w e = refl
asks_on c (Info base kind kept) w e = refl
asks_on c (Keys n) w e = refl
asks_on c (FirstKeys n count) w e = refl
asks_on c (SecondKeys n count first) w e = refl
asks_on c (Index n j m) w e = refl
asks_on c (Child f slot) w e = refl
asks_on c (Release n) w e = refl
asks_on c Over w e = absurd (none-some _ (sym e))
