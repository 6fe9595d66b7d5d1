-- What is left where a grown row was hung.
use Rattle.art_schedules.proofs.Common.{◌≡◌, ℕ, ◌+◌, ◌<◌, ◌≤◌, List, length, refl, ap, sym, subst, ◌∙◌, true, false, inl, inr, arith}
use Rattle.art_schedules.proofs.alone.AloneLemmas.{give-comes, then-comes}
use Rattle.art_schedules.proofs.words.TableLemmas.{row_begins, kind_at-base_of}
use Rattle.art_schedules.proofs.writes.PairLemmas.{byte_at-small}
use Rattle.art_schedules.proofs.writes.StoreLemmas.{stored-at, stored-other, stored-long}
use Rattle.art_schedules.proofs.Common.{slice_index, slice_set, Some, Kind, Four, Sixteen, FortyEight, Full, Empty, ChildRow, row_words, rows_of}
use Rattle.art_schedules.proofs.Common.{table_words, claims_of, base_of, info_at, kind_at, info_word, row_word, obsolete_word, two-words, ◌>>◌}
use Rattle.art_schedules.proofs.Common.{give, Setting, is_scan, locks, new_leaf, next_kind, act, Keys, Hold, Growing, Stage, ClaimGrow, GrowInfo}
use Rattle.art_schedules.proofs.Common.{row_at, rows_at, byte_in, keys_in, count_in, part_of, rest_in, OnKey, RunsAlone, Comes, unlocked_rows}
use Rattle.art_schedules.proofs.Common.{HasSameFields, IsOutside}
use Rattle.art_schedules.proofs.Common.{keys_in_row, KnowsKey, IsFull, Solo, RowsOf, FitsWords, GrownHangs}
use Rattle.art_schedules.proofs.Common.{IsRelease, IsDoneBy, IsWorkDone}
use Rattle.std.specs.Prelude.{◌≢◌}
use Rattle.events.specs.declared.event.Reply.TheVariants as reply
use Rattle.art_rows.specs.Updates.{grow}
use Rattle.art_control_states.specs.declared.stage.Work.TheVariants as work
use Rattle.art_schedules.specs.writes.Writes.{HasFresh}
use Rattle.art_schedules.proofs.writes.SameLemmas.{keys-same, count-same, slot-same, child-same, form-same}
use Rattle.art_schedules.proofs.writes.GrowWholeLemmas.{row_grown}
use Rattle.art_schedules.proofs.work.WorkLemmas.{IsPlain, behind-plain, plain-or, not-plain, Next, grow_info}
use Rattle.art_schedules.proofs.work.GoingLemmas.{Going}
use Rattle.art_schedules.proofs.work.EndLemmas.{comes-run, obsolete-end}
use Rattle.art_schedules.proofs.work.DoneLemmas.{field-plain}
use Rattle.art_schedules.proofs.work.ClaimLemmas.{with_number, with_more, number-other, outside-fresh, hangs-row, slot-plain, IsClaim, EndsBy}
use Rattle.art_schedules.proofs.work.ClaimLemmas.{claim-end, claim-runs}

empty-row : {base : ℕ} {kind : Kind} → ChildRow base kind ≡ Empty → ⊥
empty-row e = cc

module _ (c : Setting) (full : IsFull c.variant) (some : 1 ≤ c.shape.rows256) (key : is_scan c.call ≡ false) (h : Hold) (slot : ℕ)
    (keys : Keys) (w0 : List ℕ)
    (long : table_words c.shape ≤ length w0) (knows : KnowsKey (RowsOf c.shape) c (ClaimGrow h slot keys)) (found : FitsWords c h
    (work.Grow slot keys) w0) where
  abbrev next : Kind
  next = next_kind h.row.kind

  abbrev base : ℕ → ℕ
  base number = base_of c.shape next number

  abbrev growing : ℕ → Growing
  growing number = record { hold = h; slot = slot; keys = keys; base = base number }

  abbrev behind : ℕ → Stage
  behind number = GrowInfo (growing number)

  abbrev x : ℕ
  x = byte_in c h.row

  abbrev info : ℕ
  info = info_word next (row_at h.row).level (row_at h.row).path

  byte : x < 256
  byte = byte_at-small c (row_at h.row).level

  begins : (number : ℕ) → number < rows_of c.shape next → Next h true (behind number) × KnowsKey (RowsOf c.shape) c (behind number)
  begins number room = (
    inl (grow_info (growing number) refl),
    record { kept = knows.kept; known = tt; fits = knows.fits; filled = (kind_at-base_of c.shape next number room, tt) },
  )

  slot-is : IsPlain c.shape slot × (slot < length w0)
  slot-is =
      let row = hangs-row c.shape (locks c.variant) h.above slot knows.fits knows.kept.1 in
      slot-plain c.shape w0 slot row.0 row.1 long row.2 row.3

  module _ (number : ℕ) (claim : IsClaim c.shape w0 next number) where
    abbrev first : List ℕ
    first = with_number w0 next number

    told : slice_index first (claims_of next) ≡ number
    told = stored-at w0 (claims_of next) number (inside next)
      where
        inside : (kind : Kind) → claims_of kind < length w0
        inside Four = omega (arith, long)
        inside Sixteen = omega (arith, long)
        inside FortyEight = omega (arith, long)
        inside Full = omega (arith, long)

    row : kind_at c.shape (base number) ≡ Some next
    row = kind_at-base_of c.shape next number claim.room

    outside : IsOutside (base number) next slot
    outside = outside-fresh c.shape w0 next number slot (ChildRow h.row.base h.row.kind) claim found.3 empty-row

    -- the held row has the same words
    same-row : HasSameFields w0 first h.row.base h.row.kind
    same-row word low high = number-other c.shape w0 next number word
        (omega (arith, low, row_begins c.shape h.row.base h.row.kind knows.kept.0.1))

    -- what GROW leaves, where the fresh row has this number
    abbrev Grown : ℕ → Type 0
    Grown n = (later : List ℕ)
        × Comes (grow c (rows_at h.above) slot (row_at h.row) (keys_in h.row.kind keys) (count_in h.row.kind keys)) first tt
        (unlocked_rows (rows_at h.above) (slice_set (slice_set later slot (row_word (base n))) h.row.base (obsolete_word h.row.kept)))
        × HasFresh c.shape first later h.row.base h.row.kind (base n) next info x (new_leaf c.call)

    grown : Grown number
    grown =
        let seen = found.1 in
        let did = row_grown c (rows_at h.above) slot (row_at h.row) first found.0.key found.0.value found.0.is found.0.small
        (subst (λ n. n < rows_of c.shape next) (sym told) claim.room)
        (omega (arith, long, stored-long w0 (claims_of next) number)) knows.kept.0.1
        (λ word low high. zeros word (omega (arith, low, ap base told)) (omega (arith, high, ap base told)))
        (form-same w0 first h.row.base h.row.kind same-row seen.form)
        (slot-same w0 first h.row.base h.row.kind x same-row byte ∙ seen.absent)
        (count-same c.call w0 first h.row.base h.row.kind x same-row byte ∙ (sym seen.count ∙ found.2)) in
        let last = unlocked_rows (rows_at h.above)
        (slice_set (slice_set did.0 slot (row_word (base (slice_index first (claims_of next))))) h.row.base (obsolete_word h.row.kept)) in
        subst Grown told (
          did.0,
          subst (λ ks. Comes (grow c (rows_at h.above) slot (row_at h.row) ks (count_in h.row.kind keys)) first tt last)
              (keys-same w0 first h.row.base h.row.kind x same-row byte ∙ sym seen.keys)
              (subst (λ k. Comes (grow c (rows_at h.above) slot (row_at h.row) (keys_in_row first h.row.base h.row.kind x) k) first tt last)
              (count-same c.call w0 first h.row.base h.row.kind x same-row byte ∙ sym seen.count) did.1),
          subst (λ k. HasFresh c.shape first did.0 h.row.base h.row.kind (base (slice_index first (claims_of next))) next
              info x (new_leaf k))
              (sym found.0.is) did.2,
        )
      where
        zeros : (word : ℕ) → base number ≤ word → word < base number + row_words next → slice_index first word ≡ 0
        zeros word low high =
            number-other c.shape w0 next number word (omega (arith, low, row_begins c.shape (base number) next row))
            ∙ claim.unused claim.room word low high

    abbrev target : List ℕ
    target = slice_set grown.0 slot (row_word (base number))

    abbrev last : List ℕ
    last = slice_set target h.row.base (obsolete_word h.row.kept)

    grow-runs : RunsAlone (rest_in c (ClaimGrow h slot keys)) first (unlocked_rows (rows_at h.above) last) reply.None
    unfolding rest_in part_of
    grow-runs =
        comes-run (grow c (rows_at h.above) slot (row_at h.row) (keys_in h.row.kind keys) (count_in h.row.kind keys) >> give reply.None)
        (act c.shape c.variant c.call) reply.None
        (then-comes {n = give reply.None} grown.1 (give-comes reply.None (unlocked_rows (rows_at h.above) last)))

    -- a word of the fresh row
    in-fresh : (word : ℕ) → base number ≤ word → word < base number + row_words next → slice_index target word ≡ slice_index grown.0 word
    in-fresh word low high = stored-other grown.0 slot word (row_word (base number)) (away outside)
      where
        away : IsOutside (base number) next slot → word ≢ slot
        away (inl l) e = omega (arith, l, e, low)
        away (inr l) e = omega (arith, l, e, high)

    hangs : (at : Stage) (words : List ℕ) → Going c full some key h true (behind number) w0 (with_more w0 next number) at words
        → ((word : ℕ) → IsPlain c.shape word → slice_index words word ≡ slice_index target word)
        → GrownHangs c.shape w0 words h.row.base h.row.kind (base number) slot info x (new_leaf c.call)
    hangs at words g plain = record {
      long = g.long;
      outside = outside;
      same = λ word other away. elim (plain-or c.shape word) [
        | inl is ↦ plain word is ∙ (stored-other grown.0 slot word (row_word (base number)) other
            ∙ (grown.2.same word (claims-away word is.behind next) away ∙ number-other c.shape w0 next number word is.behind))
        | inr is ↦ g.rest word (not-plain c.shape word is)
      ];
      version = g.rest (base number) (λ is. is.bare (base number) next row refl);
      info = plain (info_at (base number)) (behind-plain c.shape (base number) next (info_at (base number)) row
          (omega arith, omega (arith, two-words next)))
          ∙ (in-fresh (info_at (base number)) (omega arith) (omega (arith, two-words next)) ∙ grown.2.info);
      form = form-same grown.0 words (base number) next fields grown.2.form;
      others = λ y small other.
          child-same c.shape grown.0 words (base number) next y grown.2.form fields small
          ∙ (grown.2.others y small other ∙ child-same c.shape w0 first h.row.base h.row.kind y found.1.form same-row small);
      put = child-same c.shape grown.0 words (base number) next x grown.2.form fields byte ∙ grown.2.put;
      hangs = plain slot slot-is.0 ∙ stored-at grown.0 slot (row_word (base number))
          (omega (arith, slot-is.1, grown.2.long, stored-long w0 (claims_of next) number));
    }
      where
        claims-away : (word : ℕ) → 5 ≤ word → (kind : Kind) → word ≢ claims_of kind
        claims-away word l Four e = omega (arith, l, e)
        claims-away word l Sixteen e = omega (arith, l, e)
        claims-away word l FortyEight e = omega (arith, l, e)
        claims-away word l Full e = omega (arith, l, e)

        fields : HasSameFields grown.0 words (base number) next
        fields word low high = plain word (field-plain c.shape (base number) next word row low high)
            ∙ in-fresh word (omega (arith, low)) high

  abbrev ClaimEnds : ℕ → Stage → List ℕ → Type 0
  ClaimEnds number at words = EndsBy c full some key h next true (ClaimGrow h slot keys) behind w0 refl (λ number. refl) begins
      refl number at words

  run-of : (number : ℕ) (claim : IsClaim c.shape w0 next number)
      → RunsAlone (rest_in c (behind number)) (with_more w0 next number) (unlocked_rows (rows_at h.above) (last number claim)) reply.None
  run-of number claim =
      claim-runs c full some key h next true (ClaimGrow h slot keys) behind w0 refl (λ number. refl) begins refl number claim.room
      (omega (arith, long))
      (unlocked_rows (rows_at h.above) (last number claim)) reply.None (grow-runs number claim)

  done-by : (number : ℕ) (at : Stage) (words : List ℕ) → ClaimEnds number at words → IsDoneBy c h (work.Grow slot keys) number w0 at words
  done-by number at words (inl refused) = inl refused
  done-by number at words (inr did) =
      let plain = obsolete-end c full some key h (behind number) w0 (with_more w0 next number) at words (target number did.0) did.1 did.2
      (run-of number did.0) in
      inr (did.0.room, did.2, hangs number did.0 at words did.1 plain)

  pub grow-done : (words : List ℕ) (at : Stage) → Solo c (OnKey (ClaimGrow h slot keys)) w0 (OnKey at) words → IsRelease h at
      → IsWorkDone c h (work.Grow slot keys) w0 at words
  grow-done words at solo r =
      let end = claim-end c full some key h next true (ClaimGrow h slot keys) behind w0 refl (λ number. refl) begins refl at words solo r in
      (end.0, end.1, done-by end.0 at words end.2)
