-- What is left where a slot was overwritten, and where a byte was put into a row.
use Rattle.art_schedules.proofs.Common.{◌≡◌, ℕ, zero, suc, ◌+◌, ◌<◌, ◌≤◌, List, length, refl, ap, sym, subst, ◌∙◌, Bool, false, inl, inr, arith}
use Rattle.art_schedules.proofs.alone.RowRunLemmas.{unlock_all-comes}
use Rattle.art_schedules.proofs.words.TableLemmas.{row_ends}
use Rattle.art_schedules.proofs.writes.PairLemmas.{byte_at-small}
use Rattle.art_schedules.proofs.writes.StoreLemmas.{stored-other, stored-long}
use Rattle.art_schedules.proofs.Common.{slice_set, Option, Some, cases_lt, Shape, Kind, Four, Sixteen, FortyEight, Full, row_words, table_words}
use Rattle.art_schedules.proofs.Common.{kind_at, Rest, ◌>>◌, give, Setting, is_scan, unlock_all, new_leaf, act, stores-same, load-store, HeldRow}
use Rattle.art_schedules.proofs.Common.{Keys, Hold, Stage, Write, Unlock, row_at, rows_at, rows_held, held, byte_in, keys_in, count_in}
use Rattle.art_schedules.proofs.Common.{value_reply, finish, part_of, rest_in, no_value, moves_at, put_at, OnKey, RunsAlone, Comes}
use Rattle.art_schedules.proofs.Common.{unlocked_rows, HasPut}
use Rattle.art_schedules.proofs.Common.{IsAmong, IsFull, KnowsKey, RowsOf, Solo, keys_in_row, lock_of}
use Rattle.art_schedules.proofs.versions.KnownLemmas.{held-is-kept}
use Rattle.art_schedules.proofs.Common.{FitsWords, IsRelease, IsDoneBy}
use Rattle.events.specs.declared.event.Reply.TheVariants as reply
use Rattle.art_rows.specs.Steps.{store}
use Rattle.art_rows.specs.Rows.{row_of}
use Rattle.art_rows.specs.Updates.{put, put_in, make_room}
use Rattle.art_control_states.specs.declared.stage.Work.TheVariants as work
use Rattle.art_control_states.specs.Stages.{ends, work_in, put_moves}
use Rattle.art_schedules.proofs.alone.AloneLemmas.{store-comes, same-runs, give-comes, then-comes}
use Rattle.art_schedules.specs.writes.Writes.{IsBeside}
use Rattle.art_schedules.proofs.writes.PutLemmas.{leaf_put}
use Rattle.art_schedules.proofs.work.WorkLemmas.{IsPlain, behind-plain, Next, writes, put_leaf, moves-next, holds-next, Acts, Loading, Storing}
use Rattle.art_schedules.proofs.work.WorkLemmas.{acts}
use Rattle.art_schedules.proofs.work.GoingLemmas.{IsAlong, going-first, solo-along}
use Rattle.art_schedules.proofs.work.EndLemmas.{comes-run, finish-comes, none-outcome, value-outcome, words-by, at-release, unlock-end}

module _ (c : Setting) (full : IsFull c.variant) (some : 1 ≤ c.shape.rows256) (key : is_scan c.call ≡ false) (h : Hold) where
  -- ---- a slot is overwritten

  write-runs : (slot word : ℕ) (value : Option ℕ) (words : List ℕ)
      → RunsAlone (rest_in c (Write h slot word value)) words (unlocked_rows (rows_held h) (slice_set words slot word)) (value_reply value)
  unfolding rest_in part_of
  write-runs slot word value words =
      comes-run (store slot word >> (unlock_all (rows_held h) >> give (value_reply value))) (act c.shape c.variant c.call)
      (value_reply value)
      (then-comes {n = unlock_all (rows_held h) >> give (value_reply value)} (store-comes slot word words)
      (then-comes {n = give (value_reply value)} (unlock_all-comes (rows_held h) (slice_set words slot word))
      (give-comes (value_reply value) (unlocked_rows (rows_held h) (slice_set words slot word)))))

  write-plain : (slot word : ℕ) (value : Option ℕ) → KnowsKey (RowsOf c.shape) c (Write h slot word value) → IsPlain c.shape slot
  write-plain slot word value k = go (acts c full some (writes slot word value) k)
    where
      go : Acts c (Write h slot word value) → IsPlain c.shape slot
      go (Loading w mark asks plain knows) = absurd (load-store (sym asks))
      go (Storing w v mark asks plain knows) = subst (IsPlain c.shape) (sym (stores-same asks).0) plain

  pub write-done : (slot word : ℕ) (value : Option ℕ) (w0 words : List ℕ) (at : Stage)
      → KnowsKey (RowsOf c.shape) c (Write h slot word value)
      → Solo c (OnKey (Write h slot word value)) w0 (OnKey at) words → IsRelease h at
      → IsDoneBy c h (work.Write slot word value) 0 w0 at words
  write-done slot word value w0 words at k solo r =
      let first = Write h slot word value in
      let start : IsAlong c full some key h false first w0 w0 (OnKey first) w0 =
      (first, refl, inl (going-first c full some key h false first w0 w0 (inl (writes slot word value)) k refl (λ w p. refl))) in
      let there = at-release c full some key h false first w0 w0 at words (solo-along c full some key h false first w0 w0 solo start) r in
      let end = unlock-end c full some key h first w0 w0 at words (slice_set w0 slot word) (value_reply value) there.0 there.1
      (write-runs slot word value w0) in
      let plain = write-plain slot word value k in (
        end.1 ∙ ap (λ o. Unlock h (Some o)) (value-outcome end.0 value end.2),
        words-by c.shape words (slice_set w0 slot word) w0 (there.0.long ∙ sym (stored-long w0 slot word)) end.3 there.0.rest
            (λ w bare. stored-other w0 slot w word (λ e. bare (subst (IsPlain c.shape) (sym e) plain))),
      )

-- ---- a byte is put into a row

moves_step : (c : Setting) (h : Hold) (l i e : Bool) (again : Rest) (keys : Keys) (n : ℕ) (rest : List ℕ)
    → part_of l i e c (moves_at h keys n) again ends rest ≡ put_moves c h keys n again ends rest
unfolding part_of
moves_step c h l i e again keys zero rest = refl
moves_step c h l i e again keys (suc n) rest = refl

put_step : (c : Setting) (l i e : Bool) (again : Rest) (base : ℕ) (kind : Kind) (info kept : ℕ) (above : Option HeldRow)
    (keys : Keys) (rest : List ℕ)
    → part_of l i e c (put_at kind c (record { row = held base kind info kept; above = above }) keys) again ends rest
    ≡ work_in c kind (row_of base kind info kept) (rows_at above) (work.Put keys) again ends rest
unfolding part_of put put_in make_room
put_step c l i e again base Four info kept above keys rest =
    moves_step c (record { row = held base Four info kept; above = above }) l i e again keys _ rest
put_step c l i e again base Sixteen info kept above keys rest = moves_step c
    (record { row = held base Sixteen info kept; above = above }) l i e again keys _ rest
put_step c l i e again base FortyEight info kept above keys rest = refl
put_step c l i e again base Full info kept above keys rest = refl

put-rest : (c : Setting) (h : Hold) (keys : Keys) (rest : List ℕ) → rest_in c (put_at h.row.kind c h keys) rest
    ≡ work_in c h.row.kind (row_at h.row) (rows_at h.above) (work.Put keys) (act c.shape c.variant c.call) ends rest
unfolding rest_in
put-rest c h keys rest =
    put_step c _ _ _ (act c.shape c.variant c.call) h.row.base h.row.kind h.row.info h.row.kept h.above keys rest

put-first : (c : Setting) (h : Hold) (kind : Kind) (keys : Keys) → Next h false (put_at kind c h keys)
put-first c h Four keys = inl (moves-next h keys _)
put-first c h Sixteen keys = inl (moves-next h keys _)
put-first c h FortyEight keys = inl (put_leaf keys)
put-first c h Full keys = inr (no_value, refl)

-- a word of a row's keys and children is plain
pub field-plain : (s : Shape) (base : ℕ) (kind : Kind) (word : ℕ) → kind_at s base ≡ Some kind → base + 2 ≤ word
    → word < base + row_words kind → IsPlain s word
field-plain s base kind word row low high = behind-plain s base kind word row (omega (arith, low), high)

pub bare-beside : (s : Shape) (base : ℕ) (kind : Kind) (word : ℕ) → kind_at s base ≡ Some kind → (IsPlain s word → ⊥)
    → IsBeside base kind word
bare-beside s base kind word row bare = elim (cases_lt word (base + 2)) [
  | inl l ↦ inl l
  | inr l ↦ elim (cases_lt word (base + row_words kind)) [
    | inl m ↦ absurd (bare (field-plain s base kind word row l m))
    | inr m ↦ inr m
  ]
]

module _ (c : Setting) (full : IsFull c.variant) (some : 1 ≤ c.shape.rows256) (key : is_scan c.call ≡ false) (h : Hold) where
  -- the row is one of the table
  pub work-row : (b : Bool) (stage : Stage) → Next h b stage → KnowsKey (RowsOf c.shape) c stage
      → kind_at c.shape h.row.base ≡ Some h.row.kind
  work-row b stage next k =
      (held-is-kept (RowsOf c.shape) c (OnKey stage) k (lock_of h.row)
      (subst (IsAmong (lock_of h.row)) (sym (holds-next c h b stage next)) (inl refl))).1

  put-runs : (keys : Keys) (w0 : List ℕ) → table_words c.shape ≤ length w0 → kind_at c.shape h.row.base ≡ Some h.row.kind
      → FitsWords c h (work.Put keys) w0
      → (later : List ℕ) × RunsAlone (rest_in c (put_at h.row.kind c h keys)) w0 (unlocked_rows (rows_held h) later) reply.None
      × HasPut c.shape w0 later h.row.base h.row.kind (byte_in c h.row) (new_leaf c.call)
  unfolding put
  put-runs keys w0 long row fits =
      let x = byte_in c h.row in
      let seen = fits.1 in
      let did = leaf_put c (row_at h.row) w0 x fits.0.key fits.0.value fits.0.is fits.0.small
      (omega (arith, row_ends c.shape h.row.base h.row.kind row, long))
      seen.form (byte_at-small c (row_at h.row).level) seen.absent (omega (arith, seen.count, fits.2)) in
      let comes : Comes (put c (row_at h.row) (keys_in h.row.kind keys) (count_in h.row.kind keys)) w0 tt did.0 =
      subst (λ ks. Comes (put c (row_at h.row) ks (count_in h.row.kind keys)) w0 tt did.0) (sym seen.keys)
      (subst (λ k. Comes (put c (row_at h.row) (keys_in_row w0 h.row.base h.row.kind x) k) w0 tt did.0) (sym seen.count) did.1) in (
        did.0,
        same-runs (rest_in c (put_at h.row.kind c h keys)) (put-rest c h keys)
            (comes-run (put c (row_at h.row) (keys_in h.row.kind keys) (count_in h.row.kind keys) >> finish (rows_held h))
            (act c.shape c.variant c.call) reply.None
            (then-comes {n = finish (rows_held h)} comes (finish-comes (rows_held h) did.0))),
        subst (λ k. HasPut c.shape w0 did.0 h.row.base h.row.kind x (new_leaf k)) (sym fits.0.is) did.2,
      )

  pub put-done : (keys : Keys) (w0 words : List ℕ) (at : Stage) → table_words c.shape ≤ length w0
      → KnowsKey (RowsOf c.shape) c (put_at h.row.kind c h keys)
      → FitsWords c h (work.Put keys) w0 → Solo c (OnKey (put_at h.row.kind c h keys)) w0 (OnKey at) words → IsRelease h at
      → IsDoneBy c h (work.Put keys) 0 w0 at words
  put-done keys w0 words at fits k found solo r =
      let first = put_at h.row.kind c h keys in
      let begin = put-first c h h.row.kind keys in
      let row = work-row false first begin k in
      let run = put-runs keys w0 fits row found in
      let start : IsAlong c full some key h false first w0 w0 (OnKey first) w0 =
      (first, refl, inl (going-first c full some key h false first w0 w0 begin k refl (λ w p. refl))) in
      let there = at-release c full some key h false first w0 w0 at words (solo-along c full some key h false first w0 w0 solo start) r in
      let end = unlock-end c full some key h first w0 w0 at words run.0 reply.None there.0 there.1 run.1 in
      let same : words ≡ run.0 = words-by c.shape words run.0 w0 (there.0.long ∙ sym run.2.long) end.3 there.0.rest
      (λ w bare. run.2.beside w (bare-beside c.shape h.row.base h.row.kind w row bare)) in (
        end.1 ∙ ap (λ o. Unlock h (Some o)) (none-outcome end.0 end.2),
        subst (λ ws. HasPut c.shape w0 ws h.row.base h.row.kind (byte_in c h.row) (new_leaf c.call)) (sym same) run.2,
      )
