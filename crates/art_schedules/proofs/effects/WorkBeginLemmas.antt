-- A call whose work begins is at work; and what it holds is in calm's tree.
use Rattle.art_schedules.proofs.Common.{◌≡◌, inl, inr, ℕ, zero, suc, ◌-◌, List, [], ◌∷◌, length, true, false, refl, sym, ap, ◌∙◌, subst}
use Rattle.art_schedules.proofs.Common.{none-some, Option, Some, None, Reply, Kind, Four, Sixteen, FortyEight, Full, table_words, Setting, HeldRow}
use Rattle.art_schedules.proofs.Common.{Hold, Keys, Outcome, Value, Stage, Work, byte_in, place_in, count_in, work_at, put_at, moves_at}
use Rattle.art_schedules.proofs.Common.{hold_alone, OnKey, Reached, slot_of, locks_of, rows_of_hold, Each, Named, Knows, holds, IsAmong, here}
use Rattle.art_schedules.proofs.Common.{RowsOf, Effect, BeginsWork, claims_row, hold_at, writes_at, IsReleasing, Last, Lower, Gone, AtWork}
use Rattle.art_schedules.proofs.Common.{Claiming, Going, Hanging, AtEnd, Answering, Leaving, IsInTree, IsSame}
use Rattle.art_control_states.specs.declared.stage.Work.TheVariants as work
use Rattle.art_schedules.proofs.work.WorkLemmas.{holds-work, moves-next}
use Rattle.art_schedules.proofs.effects.OtherLemmas.{each-of, holds-claiming}
use Rattle.art_schedules.proofs.effects.StageLemmas.{place-work, work-place}

module _ (c : Setting) (real calm : List ℕ) (long : length calm ≡ table_words c.shape) (h : Hold) where
  going : (work : Work) → Knows (RowsOf c.shape) c (OnKey (work_at c h work)) → claims_row work ≡ false
      → writes_at (work_at c h work) ≡ true
      → hold_at (work_at c h work) ≡ Some h → BeginsWork c calm h work
      → Each (IsInTree c.shape calm) (rows_of_hold h) → Each (IsSame calm real) (rows_of_hold h)
      → AtWork c real calm None (work_at c h work)
  going work knows none writes place begins rows same = Going (record {
    hold = h;
    work = work;
    begins = begins;
    rows = rows;
    place = place;
    knows = knows;
    first = calm;
    words = calm;
    first_long = long;
    long = long;
    solo = here;
    was = each-of (IsSame calm calm) (rows_of_hold h) (λ row among j low high. refl);
    same = same;
    new = (none, writes);
  })

  claiming : (work : Work) → claims_row work ≡ true → BeginsWork c calm h work → Each (IsInTree c.shape calm) (rows_of_hold h)
      → Each (IsSame calm real) (rows_of_hold h) → AtWork c real calm None (work_at c h work)
  claiming work claims begins rows same =
      Claiming refl (record { hold = h; work = work; at = refl; claims = claims; begins = begins; rows = rows; same = same })

  put-place : (kind : Kind) (keys : Keys) → ((x : ℕ) → slot_of calm h.row.base kind x ≡ None → kind ≡ Full → ⊥) → (x : ℕ)
      → slot_of calm h.row.base kind x ≡ None → hold_at (put_at kind c h keys) ≡ Some h
  put-place Four keys some x none = work-place (moves-next h keys (count_in Four keys - place_in c h keys))
  put-place Sixteen keys some x none = work-place (moves-next h keys (count_in Sixteen keys - place_in c h keys))
  put-place FortyEight keys some x none = refl
  put-place Full keys some x none = absurd (none-some _ (sym none))

  not-full : (kind : Kind) (x : ℕ) → slot_of calm h.row.base kind x ≡ None → kind ≡ Full → ⊥
  not-full Full x none e = none-some _ (sym none)
  not-full Four x none e = differ e
    where
      differ : Four ≡ Full → ⊥
      differ e = cc
  not-full Sixteen x none e = differ e
    where
      differ : Sixteen ≡ Full → ⊥
      differ e = cc
  not-full FortyEight x none e = differ e
    where
      differ : FortyEight ≡ Full → ⊥
      differ e = cc

  moves-write : (keys : Keys) (n : ℕ) → writes_at (moves_at h keys n) ≡ true
  moves-write keys zero = refl
  moves-write keys (suc n) = refl

  put-writes : (kind : Kind) (keys : Keys) (x : ℕ) → slot_of calm h.row.base kind x ≡ None → writes_at (put_at kind c h keys) ≡ true
  put-writes Four keys x none = moves-write keys (count_in Four keys - place_in c h keys)
  put-writes Sixteen keys x none = moves-write keys (count_in Sixteen keys - place_in c h keys)
  put-writes FortyEight keys x none = refl
  put-writes Full keys x none = absurd (none-some _ (sym none))

  pub work-begins : (work : Work) → Knows (RowsOf c.shape) c (OnKey (work_at c h work)) → BeginsWork c calm h work
      → Each (IsInTree c.shape calm) (rows_of_hold h) → Each (IsSame calm real) (rows_of_hold h)
      → AtWork c real calm None (work_at c h work)
  work-begins (work.Write slot word old) knows begins rows same = going (work.Write slot word old) knows refl refl refl begins rows same
  work-begins (work.Pair p) knows begins rows same = claiming (work.Pair p) refl begins rows same
  work-begins (work.Put keys) knows begins rows same =
      going (work.Put keys) knows refl (put-writes h.row.kind keys (byte_in c h.row) begins.words.1.absent) (put-place h.row.kind keys
      (not-full h.row.kind) (byte_in c h.row) begins.words.1.absent) begins rows same
  work-begins (work.Grow slot keys) knows begins rows same = claiming (work.Grow slot keys) refl begins rows same

-- ---- what is held is in calm's tree

module _ (c : Setting) (real calm : List ℕ) (stage : Stage) where
  abbrev IsIn : HeldRow → Type 0
  IsIn row = Reached c.shape calm row.base row.kind

  held-in : (rows : List HeldRow) → Each (IsInTree c.shape calm) rows → (row : HeldRow) → IsAmong row (locks_of rows) → IsIn row
  held-in [] e row among = absurd among
  held-in (y ∷ rows) e row (inl is) = subst IsIn (sym is) e.0.reached
  held-in (y ∷ rows) e row (inr among) = held-in rows e.1 row among

  by-hold : (h : Hold) → holds c (OnKey stage) ≡ locks_of (rows_of_hold h) → Each (IsInTree c.shape calm) (rows_of_hold h) → (row : HeldRow)
      → IsAmong row (holds c (OnKey stage)) → IsIn row
  by-hold h is rows row among = held-in (rows_of_hold h) rows row (subst (IsAmong row) is among)

  releasing-in : (upper : HeldRow) (e : Effect) (o : Outcome) → IsInTree c.shape calm upper → IsReleasing c real calm upper e o stage
      → (row : HeldRow)
      → IsAmong row (holds c (OnKey stage)) → IsIn row
  releasing-in upper e o inside (Last is gone) = by-hold (hold_alone upper) (ap (λ z. holds c (OnKey z)) is) (inside, tt)
  releasing-in upper e o inside (Lower lower is low same none) =
      by-hold (record { row = lower; above = Some upper }) (ap (λ z. holds c (OnKey z)) is) (low, (inside, tt))
  releasing-in upper e o inside (Gone lower is value low leaves gone) =
      by-hold (record { row = lower; above = Some upper }) (ap (λ z. holds c (OnKey z)) is) (low, (inside, tt))

  pub work-in : (fresh : Option Named) → AtWork c real calm fresh stage → (row : HeldRow) → IsAmong row (holds c (OnKey stage)) → IsIn row
  work-in fresh (Claiming none g) =
      by-hold g.hold (ap (λ z. holds c (OnKey z)) g.at ∙ holds-claiming c g.hold g.work g.claims) g.rows
  work-in fresh (Going g) = by-hold g.hold (holds-work c (place-work stage g.hold g.place).1) g.rows
  work-in fresh (Hanging g) = releasing-in g.row g.effect (Value g.old) g.inside g.at

  pub end-in : (reply : Reply) → AtEnd c real calm reply stage → (row : HeldRow) → IsAmong row (holds c (OnKey stage)) → IsIn row
  end-in reply (Answering o is over) row among = absurd (subst (λ z. IsAmong row (holds c (OnKey z))) over among)
  end-in reply (Leaving o h is unlock rows same) row among = by-hold h (ap (λ z. holds c (OnKey z)) unlock) rows row among
