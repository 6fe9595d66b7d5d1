-- Small facts of stages, of ghosts, of rows that are held, and of calls that are open.
use Rattle.art_schedules.proofs.Common.{◌≡◌, ◌≢◌, ℕ, zero, suc, Bool, false, List, [], ◌∷◌, refl, sym, subst, inl, inr, Option, Some, None, Kind}
use Rattle.art_schedules.proofs.Common.{Four, Sixteen, FortyEight, Full, Setting, HeldRow, Hold, Work, work_at, moves_at, put_at, IsAmong, Named}
use Rattle.art_schedules.proofs.Common.{Each, rows_kept, locks_of, rows_of_hold, AreTwoRows}
use Rattle.art_control_states.specs.declared.stage.Work.TheVariants as work

-- if work begins, the rows of the hold are those whose versions are kept
pub work-kept : (i : Bool) (c : Setting) (h : Hold) (w : Work) → rows_kept false i (work_at c h w) ≡ rows_of_hold h
work-kept i c h (work.Write slot word reply) = refl
work-kept i c h (work.Pair p) = refl
work-kept i c h (work.Grow slot keys) = refl
work-kept i c h (work.Put keys) = puts h.row.kind
  where
    moves : (n : ℕ) → rows_kept false i (moves_at h keys n) ≡ rows_of_hold h
    moves zero = refl
    moves (suc n) = refl

    puts : (kind : Kind) → rows_kept false i (put_at kind c h keys) ≡ rows_of_hold h
    puts Four = moves _
    puts Sixteen = moves _
    puts FortyEight = refl
    puts Full = refl

-- what holds of each row of a list holds of a row that is held as one of them
pub among-locks : (P : ℕ → Kind → Type 0) (rows : List HeldRow) → Each (λ (x : HeldRow). P x.base x.kind) rows → (h : HeldRow)
    → IsAmong h (locks_of rows) → P h.base h.kind
among-locks P [] each h a = absurd a
among-locks P (x ∷ xs) each h (inl same) = subst (λ (y : HeldRow). P y.base y.kind) (sym same) each.0
among-locks P (x ∷ xs) each h (inr a) = among-locks P xs each.1 h a

pub each-both : (P Q : HeldRow → Type 0) → (xs : List HeldRow) → Each P xs → Each Q xs → Each (λ x. P x × Q x) xs
each-both P Q [] e f = tt
each-both P Q (x ∷ xs) e f = ((e.0, f.0), each-both P Q xs e.1 f.1)

-- rows are apart either way, and apart from none
pub apart-none : (o : Option Named) → AreTwoRows o None
apart-none None = tt
apart-none (Some row) = tt

pub apart-by : (o other : Option Named) → ((row with-row : Named) → o ≡ Some row → other ≡ Some with-row → row.0 ≢ with-row.0)
    → AreTwoRows o other
apart-by None other f = tt
apart-by (Some row) None f = tt
apart-by (Some row) (Some other) f = f row other refl refl
