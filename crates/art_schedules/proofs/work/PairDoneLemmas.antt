-- What is left where a pair was hung.
use Rattle.art_schedules.proofs.Common.{◌≡◌, ℕ, ◌<◌, ◌≤◌, List, length, refl, ap, sym, subst, ◌∙◌, false, inl, inr, arith, slice_index, Some}
use Rattle.art_schedules.proofs.alone.AloneLemmas.{then-comes}
use Rattle.art_schedules.proofs.words.TableLemmas.{kind_at-base_of}
use Rattle.art_schedules.proofs.words.WordLemmas.{child_of-stored}
use Rattle.art_schedules.proofs.writes.StoreLemmas.{stored-at, stored-long}
use Rattle.art_schedules.proofs.Common.{Shape, Four, rows_of, table_words, claims_of, base_of, info_at, kind_at, key_bytes, ◌>>◌, Setting}
use Rattle.art_schedules.proofs.Common.{key_of, is_scan, locks, byte_at, new_leaf, act, Hold, Pair, Stage, ClaimPair, StorePair, Unlock}
use Rattle.art_schedules.proofs.Common.{rows_held, old_child, new_child, finish, part_of, rest_in, OnKey, RunsAlone, Comes, unlocked_rows}
use Rattle.art_schedules.proofs.Common.{IsStored, HasSameFields, IsOutside}
use Rattle.art_schedules.proofs.Common.{KnowsKey, IsFull, Solo, RowsOf, FitsWords, PairHangs, IsRelease, IsDoneBy, IsWorkDone}
use Rattle.std.specs.Prelude.{take}
use Rattle.events.specs.declared.event.Reply.TheVariants as reply
use Rattle.art_rows.specs.Updates.{pair_in}
use Rattle.art_control_states.specs.declared.stage.PairWord.TheVariants as pair_word
use Rattle.art_control_states.specs.declared.stage.Work.TheVariants as work
use Rattle.art_schedules.specs.writes.Writes.{HasPair}
use Rattle.art_schedules.proofs.writes.PairLemmas.{pair_is_hung, byte_at-small}
use Rattle.art_schedules.proofs.writes.SameLemmas.{child-same, form-same}
use Rattle.art_schedules.proofs.work.WorkLemmas.{IsPlain, behind-plain, plain-or, not-plain, Next, pairs}
use Rattle.art_schedules.proofs.work.GoingLemmas.{Going}
use Rattle.art_schedules.proofs.work.EndLemmas.{comes-run, finish-comes, none-outcome, unlock-end}
use Rattle.art_schedules.proofs.work.DoneLemmas.{field-plain}
use Rattle.art_schedules.proofs.work.ClaimLemmas.{with_number, with_more, number-other, outside-fresh, slot-row, slot-plain, IsClaim, EndsBy}
use Rattle.art_schedules.proofs.work.ClaimLemmas.{claim-end, claim-runs}

-- a word that no row has is no word of the row; the bounds of a table's words
five-words : (s : Shape) (words : List ℕ) → table_words s ≤ length words → 5 ≤ length words
five-words s words long = omega (arith, long)

module _ (c : Setting) (full : IsFull c.variant) (some : 1 ≤ c.shape.rows256) (key : is_scan c.call ≡ false) (h : Hold)
    (p : Pair) (w0 : List ℕ)
    (long : table_words c.shape ≤ length w0) (knows : KnowsKey (RowsOf c.shape) c (ClaimPair h p))
    (found : FitsWords c h (work.Pair p) w0) where
  abbrev base : ℕ → ℕ
  base number = base_of c.shape Four number

  abbrev behind : ℕ → Stage
  behind number = StorePair h p (base number) pair_word.Info

  begins : (number : ℕ) → number < rows_of c.shape Four → Next h false (behind number) × KnowsKey (RowsOf c.shape) c (behind number)
  begins number room = (
    inl (pairs p (base number) pair_word.Info),
    record { kept = knows.kept; known = knows.known; fits = knows.fits; filled = (kind_at-base_of c.shape Four number room, tt) },
  )

  slot-is : IsPlain c.shape p.slot × (p.slot < length w0)
  slot-is =
      let row = slot-row c.shape (locks c.variant) h.row h.above p.slot knows.fits knows.kept in
      slot-plain c.shape w0 p.slot row.0 row.1 long row.2 row.3

  module _ (number : ℕ) (claim : IsClaim c.shape w0 Four number) where
    abbrev first : List ℕ
    first = with_number w0 Four number

    told : slice_index first (claims_of Four) ≡ number
    told = stored-at w0 (claims_of Four) number (omega (arith, five-words c.shape w0 long))

    outside : IsOutside (base number) Four p.slot
    outside = outside-fresh c.shape w0 Four number p.slot p.child claim found.1 found.2

    stored : IsStored c.shape p.child
    stored = subst (IsStored c.shape) found.1 (child_of-stored c.shape (slice_index w0 p.slot))

    abbrev Hung : List ℕ → Type 0
    Hung later = HasPair c.shape first later (base number) p.slot p.level (take p.level (key_bytes (key_of c.call)))
        (old_child p) (new_child c p)

    hung : (later : List ℕ) × Comes (pair_in c (rows_held h) p.slot p.level (old_child p)) first tt later × Hung later
    hung =
        let did = pair_is_hung c (rows_held h) p.slot p.level (old_child p) first found.0.key found.0.value found.0.is found.0.small
        stored found.3 found.4
        (subst (λ n. n < rows_of c.shape Four) (sym told) claim.room)
        (omega (arith, long, stored-long w0 (claims_of Four) number)) slot-is.0.behind
        (omega (arith, slot-is.1, stored-long w0 (claims_of Four) number))
        (subst (λ n. IsOutside (base n) Four p.slot) (sym told) outside) in (
          did.0,
          did.1,
          subst (λ n. HasPair c.shape first did.0 (base n) p.slot p.level (take p.level (key_bytes (key_of c.call))) (old_child p)
              (new_child c p)) told
              (subst (λ k. HasPair c.shape first did.0 (base (slice_index first (claims_of Four))) p.slot p.level
              (take p.level (key_bytes (key_of k)))
              (old_child p) (record { byte = byte_at c p.level; child = new_leaf k })) (sym found.0.is) did.2),
        )

    pair-runs : RunsAlone (rest_in c (ClaimPair h p)) first (unlocked_rows (rows_held h) hung.0) reply.None
    unfolding rest_in part_of
    pair-runs = comes-run (pair_in c (rows_held h) p.slot p.level (old_child p) >> finish (rows_held h))
        (act c.shape c.variant c.call) reply.None
        (then-comes {n = finish (rows_held h)} hung.1 (finish-comes (rows_held h) hung.0))

    row : kind_at c.shape (base number) ≡ Some Four
    row = kind_at-base_of c.shape Four number claim.room

    hangs : (at : Stage) (words : List ℕ) → Going c full some key h false (behind number) w0 (with_more w0 Four number) at words
        → ((word : ℕ) → IsPlain c.shape word → slice_index words word ≡ slice_index hung.0 word)
        → PairHangs c.shape w0 words (base number) p.slot p.level (take p.level (key_bytes (key_of c.call))) (old_child p) (new_child c p)
    hangs at words g plain = record {
      long = g.long;
      outside = outside;
      same = λ word other away. elim (plain-or c.shape word) [
        | inl is ↦ plain word is ∙ (hung.2.same word (λ e. omega (arith, e, is.behind)) other away ∙ number-other c.shape w0 Four
            number word is.behind)
        | inr is ↦ g.rest word (not-plain c.shape word is)
      ];
      version = g.rest (base number) (λ is. is.bare (base number) Four row refl);
      info = plain (info_at (base number)) (behind-plain c.shape (base number) Four (info_at (base number)) row
          (omega arith, omega arith)) ∙ hung.2.info;
      form = form-same hung.0 words (base number) Four fields hung.2.form;
      first = child-same c.shape hung.0 words (base number) Four p.byte hung.2.form fields found.3 ∙ hung.2.first;
      second = child-same c.shape hung.0 words (base number) Four (byte_at c p.level) hung.2.form fields
          (byte_at-small c p.level) ∙ hung.2.second;
      others = λ y small a b. child-same c.shape hung.0 words (base number) Four y hung.2.form fields small ∙ hung.2.others y a b;
      hangs = plain p.slot slot-is.0 ∙ hung.2.hangs;
    }
      where
        fields : HasSameFields hung.0 words (base number) Four
        fields word low high = plain word (field-plain c.shape (base number) Four word row low high)

  abbrev ClaimEnds : ℕ → Stage → List ℕ → Type 0
  ClaimEnds number at words = EndsBy c full some key h Four false (ClaimPair h p) behind w0 refl (λ number. refl) begins
      refl number at words

  run-of : (number : ℕ) (claim : IsClaim c.shape w0 Four number)
      → RunsAlone (rest_in c (behind number)) (with_more w0 Four number) (unlocked_rows (rows_held h) (hung number claim).0) reply.None
  run-of number claim =
      claim-runs c full some key h Four false (ClaimPair h p) behind w0 refl (λ number. refl) begins refl number claim.room
      (five-words c.shape w0 long)
      (unlocked_rows (rows_held h) (hung number claim).0) reply.None (pair-runs number claim)

  done-by : (number : ℕ) (at : Stage) (words : List ℕ) → ClaimEnds number at words → IsDoneBy c h (work.Pair p) number w0 at words
  done-by number at words (inl refused) = inl refused
  done-by number at words (inr did) =
      let end = unlock-end c full some key h (behind number) w0 (with_more w0 Four number) at words (hung number did.0).0
      reply.None did.1 did.2
      (run-of number did.0) in
      inr (did.0.room, end.1 ∙ ap (λ o. Unlock h (Some o)) (none-outcome end.0 end.2), hangs number did.0 at words did.1 end.3)

  pub pair-done : (words : List ℕ) (at : Stage) → Solo c (OnKey (ClaimPair h p)) w0 (OnKey at) words → IsRelease h at
      → IsWorkDone c h (work.Pair p) w0 at words
  pair-done words at solo r =
      let end = claim-end c full some key h Four false (ClaimPair h p) behind w0 refl (λ number. refl) begins refl at words solo r in
      (end.0, end.1, done-by end.0 at words end.2)
