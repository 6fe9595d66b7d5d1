-- Work at its first release: what its words are there.
use Rattle.art_schedules.proofs.Common.{◌≡◌, ℕ, ◌≤◌, List, length, refl, ap, sym, subst, ◌∙◌, Bool, true, false, inl, inr, slice_index}
use Rattle.art_schedules.proofs.alone.AloneLemmas.{runs-once, give-comes, then-comes}
use Rattle.art_schedules.proofs.writes.StoreLemmas.{stored-other}
use Rattle.art_schedules.proofs.Common.{slice_set, Option, Some, None, none-some, true≢false, Reply, Shape, obsolete_word, Rest, ◌>>◌, give}
use Rattle.art_schedules.proofs.Common.{Setting, is_scan, locks, unlock_all, act, HeldRow, Hold, Outcome, Value, Refused, Stage, Obsolete, Unlock}
use Rattle.art_schedules.proofs.Common.{Over, row_at, rows_at, rows_held, value_reply, reply_for, finish, part_of, rest_in, no_value, OnKey}
use Rattle.art_schedules.proofs.Common.{RunsAlone, Comes, unlocked_rows}
use Rattle.art_schedules.proofs.Common.{all_of, rows_of_hold, Each, IsKept, KnowsKey, IsFull, RowsOf, IsRelease}
use Rattle.std.specs.Prelude.{◌⊎◌}
use Rattle.std.proofs.lemmas.List.{ext_get_or}
use Rattle.events.specs.declared.event.Reply.TheVariants as reply
use Rattle.art_rows.specs.Steps.{Part}
use Rattle.art_rows.specs.Rows.{Row, unlock_obsolete}
use Rattle.art_control_states.specs.Stages.{ends}
use Rattle.art_schedules.specs.alone.Alone as alone
use Rattle.art_schedules.proofs.alone.RowRunLemmas.{unlock_obsolete-comes, unlock_all-comes}
use Rattle.art_schedules.proofs.work.WorkLemmas.{IsPlain, plain-or, not-plain, IsEnd, Next, is_release, at-work}
use Rattle.art_schedules.proofs.work.GoingLemmas.{AreRows, unlocked-plain, IsBehind, Going, IsAlong}
use Rattle.art_schedules.proofs.work.CallLemmas.{key-same}

-- a part that comes to a reply is a call that runs alone to it
pub comes-run : (m : Part Reply) (again : Rest) {words later : List ℕ} (r : Reply) → Comes m words r later
    → RunsAlone (m again ends) words later r
comes-run m again {words = words} {later = later} r h = h.runs again ends later r (alone.ends refl)

pub finish-comes : (rows : List Row) (words : List ℕ) → Comes (finish rows) words reply.None (unlocked_rows rows words)
finish-comes rows words = then-comes {n = give reply.None} (unlock_all-comes rows words) (give-comes reply.None (unlocked_rows rows words))

unlock-runs : (c : Setting) (h : Hold) (o : Outcome) (words : List ℕ)
    → RunsAlone (rest_in c (Unlock h (Some o))) words (unlocked_rows (rows_held h) words) (reply_for o)
unfolding rest_in part_of
unlock-runs c h o words =
    comes-run (unlock_all (rows_held h) >> give (reply_for o)) (act c.shape c.variant c.call) (reply_for o)
    (then-comes {n = give (reply_for o)} (unlock_all-comes (rows_held h) words)
    (give-comes (reply_for o) (unlocked_rows (rows_held h) words)))

obsolete-runs : (c : Setting) (h : Hold) (words : List ℕ)
    → RunsAlone (rest_in c (Obsolete h)) words
    (unlocked_rows (rows_at h.above) (slice_set words h.row.base (obsolete_word h.row.kept))) reply.None
unfolding rest_in part_of
obsolete-runs c h words =
    comes-run (unlock_obsolete (row_at h.row) >> finish (rows_at h.above)) (act c.shape c.variant c.call) reply.None
    (then-comes {n = finish (rows_at h.above)} (unlock_obsolete-comes (row_at h.row) words)
    (finish-comes (rows_at h.above) (slice_set words h.row.base (obsolete_word h.row.kept))))

-- the rows that are held are rows of the table
above-rows : (s : Shape) (l : Bool) (above : Option HeldRow) → Each (IsKept l (RowsOf s)) (all_of above) → AreRows s (rows_at above)
above-rows s l None k = tt
above-rows s l (Some a) k = (k.0.1, tt)

pub held-rows : (s : Shape) (l : Bool) (h : Hold) → Each (IsKept l (RowsOf s)) (rows_of_hold h) → AreRows s (rows_held h)
held-rows s l h k = (k.0.1, above-rows s l h.above k.1)

-- outcomes are their replies
pub none-outcome : (o : Outcome) → reply_for o ≡ reply.None → o ≡ no_value
none-outcome (Value None) e = refl
none-outcome (Value (Some v)) e = absurd (differ e)
  where
    differ : reply.Some v ≡ reply.None → ⊥
    differ e = cc
none-outcome Refused e = absurd (differ e)
  where
    differ : reply.Refused ≡ reply.None → ⊥
    differ e = cc

pub value-outcome : (o : Outcome) (v : Option ℕ) → reply_for o ≡ value_reply v → o ≡ Value v
value-outcome (Value None) None e = refl
value-outcome (Value None) (Some w) e = absurd (differ e)
  where
    differ : reply.None ≡ reply.Some w → ⊥
    differ e = cc
value-outcome (Value (Some v)) None e = absurd (differ e)
  where
    differ : reply.Some v ≡ reply.None → ⊥
    differ e = cc
value-outcome (Value (Some v)) (Some w) e = ap (λ n. Value (Some n)) (same e)
  where
    same : reply.Some v ≡ reply.Some w → v ≡ w
    same e = cc
value-outcome Refused None e = absurd (differ e)
  where
    differ : reply.Refused ≡ reply.None → ⊥
    differ e = cc
value-outcome Refused (Some w) e = absurd (differ e)
  where
    differ : reply.Refused ≡ reply.Some w → ⊥
    differ e = cc

-- words by their plain words and the others
pub words-by : (s : Shape) (words target first : List ℕ) → length words ≡ length target
    → ((word : ℕ) → IsPlain s word → slice_index words word ≡ slice_index target word)
    → ((word : ℕ) → (IsPlain s word → ⊥) → slice_index words word ≡ slice_index first word)
    → ((word : ℕ) → (IsPlain s word → ⊥) → slice_index target word ≡ slice_index first word) → words ≡ target
words-by s words target first long plain rest other = ext_get_or 0 words target long (λ i l. elim (plain-or s i) [
  | inl p ↦ plain i p
  | inr n ↦ rest i (not-plain s i n) ∙ sym (other i (not-plain s i n))
])

unlock-hold : {h x : Hold} {o p : Option Outcome} → Unlock h o ≡ Unlock x p → h ≡ x
unlock-hold e = cc

unlock-obsolete : {h x : Hold} {o : Option Outcome} → Unlock h o ≡ Obsolete x → ⊥
unlock-obsolete e = cc

over-unlock : {x : Hold} {o : Outcome} {p : Option Outcome} → Over o ≡ Unlock x p → ⊥
over-unlock e = cc

over-obsolete : {x : Hold} {o : Outcome} → Over o ≡ Obsolete x → ⊥
over-obsolete e = cc

pub end-releases : (h : Hold) (b : Bool) (at : Stage) → IsEnd h b at → IsRelease h at
end-releases h false at e = inl (Some e.0, e.1)
end-releases h true at e = inr e

pub releases : (h : Hold) (at : Stage) → IsRelease h at → is_release at ≡ true
releases h at (inl e) = ap is_release e.1
releases h at (inr e) = ap is_release e

-- a row was released: this is no stage of all rows
pub behind-no : (h : Hold) (at : Stage) → IsRelease h at → IsBehind h at → ⊥
behind-no h at (inl e) (inl x) = none-some x.0 (ap (λ (x : Hold). x.above) (unlock-hold (sym x.3 ∙ e.1)) ∙ x.2)
behind-no h at (inl e) (inr x) = over-unlock (sym x.1 ∙ e.1)
behind-no h at (inr e) (inl x) = unlock-obsolete (sym x.3 ∙ e)
behind-no h at (inr e) (inr x) = over-obsolete (sym x.1 ∙ e)

module _ (c : Setting) (full : IsFull c.variant) (some : 1 ≤ c.shape.rows256) (key : is_scan c.call ≡ false) (h : Hold) where
  abbrev Goes : Bool → Stage → List ℕ → List ℕ → Stage → List ℕ → Type 0
  Goes = Going c full some key h

  at-place : (b : Bool) (at : Stage) → IsRelease h at → Next h b at → IsEnd h b at
  at-place b at r (inl work) = absurd (true≢false (sym (releases h at r) ∙ (at-work work).3))
  at-place b at r (inr e) = e

  -- the stage of the first release
  pub at-release : (b : Bool) (a1 : Stage) (w0 other : List ℕ) (at : Stage) (words : List ℕ)
      → IsAlong c full some key h b a1 w0 other (OnKey at) words
      → IsRelease h at → Goes b a1 w0 other at words × IsEnd h b at
  at-release b a1 w0 other at words i r = go (subst (λ x. Goes b a1 w0 other x words ⊎ IsBehind h x) (sym (key-same i.1)) i.2)
    where
      go : Goes b a1 w0 other at words ⊎ IsBehind h at → Goes b a1 w0 other at words × IsEnd h b at
      go (inl g) = (g, at-place b at r g.place)
      go (inr x) = absurd (behind-no h at r x)

  -- Where the rest alone, from the stage after the claim, comes to these words with the rows
  -- unlocked, the words before the release are these.
  pub unlock-end : (a1 : Stage) (w0 other : List ℕ) (at : Stage) (words target : List ℕ) (answer : Reply) → Goes false a1 w0 other at words
      → IsEnd h false at
      → RunsAlone (rest_in c a1) other (unlocked_rows (rows_held h) target) answer
      → (o : Outcome) × (at ≡ Unlock h (Some o)) × (reply_for o ≡ answer)
      × ((word : ℕ) → IsPlain c.shape word → slice_index words word ≡ slice_index target word)
  unlock-end a1 w0 other at words target answer g e run =
      let mine = g.runs (unlocked_rows (rows_held h) g.now) (reply_for e.0)
      (subst (λ x. RunsAlone (rest_in c x) g.now (unlocked_rows (rows_held h) g.now) (reply_for e.0)) (sym e.1)
      (unlock-runs c h e.0 g.now)) in
      let same = runs-once mine run in
      let knows : KnowsKey (RowsOf c.shape) c (Unlock h (Some e.0)) = subst (KnowsKey (RowsOf c.shape) c) e.1 g.knows in
      let rows = held-rows c.shape (locks c.variant) h knows.kept in (
        e.0,
        e.1,
        same.1,
        λ word plain. sym (g.alike word plain) ∙ (sym (unlocked-plain c.shape (rows_held h) g.now word rows plain)
            ∙ (ap (λ ws. slice_index ws word) same.0 ∙ unlocked-plain c.shape (rows_held h) target word rows plain)),
      )

  pub obsolete-end : (a1 : Stage) (w0 other : List ℕ) (at : Stage) (words target : List ℕ)
      → Goes true a1 w0 other at words → IsEnd h true at
      → RunsAlone (rest_in c a1) other (unlocked_rows (rows_at h.above) (slice_set target h.row.base (obsolete_word h.row.kept))) reply.None
      → (word : ℕ) → IsPlain c.shape word → slice_index words word ≡ slice_index target word
  obsolete-end a1 w0 other at words target g e run word plain =
      let version = obsolete_word h.row.kept in
      let mine = g.runs (unlocked_rows (rows_at h.above) (slice_set g.now h.row.base version)) reply.None
      (subst (λ x. RunsAlone (rest_in c x) g.now (unlocked_rows (rows_at h.above) (slice_set g.now h.row.base version)) reply.None) (sym e)
      (obsolete-runs c h g.now)) in
      let same = runs-once mine run in
      let knows : KnowsKey (RowsOf c.shape) c (Obsolete h) = subst (KnowsKey (RowsOf c.shape) c) e g.knows in
      let rows = above-rows c.shape (locks c.variant) h.above knows.kept.1 in
      let away = plain.bare h.row.base h.row.kind knows.kept.0.1 in
      sym (g.alike word plain) ∙ (sym (stored-other g.now h.row.base word version away)
      ∙ (sym (unlocked-plain c.shape (rows_at h.above) (slice_set g.now h.row.base version) word rows plain)
      ∙ (ap (λ ws. slice_index ws word) same.0
      ∙ (unlocked-plain c.shape (rows_at h.above) (slice_set target h.row.base version) word rows plain
      ∙ stored-other target h.row.base word version away))))
