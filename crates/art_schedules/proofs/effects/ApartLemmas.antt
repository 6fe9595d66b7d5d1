-- The fresh rows of calls at work are apart.
use Rattle.art_schedules.proofs.Common.{◌≡◌, ℕ, List, sym, subst, Option, Some, None, same_Some, none-some, Four, Setting, Stage, IsClaimed}
use Rattle.art_schedules.proofs.Common.{Named, Effect, Keeps, Fills, PutsLeaf, RemovesLeaf, HangsPair, HangsGrown, fresh_of, IsPending, AtWork}
use Rattle.art_schedules.proofs.Common.{Claiming, Going, Hanging, IsOther, AreTwoRows}

pending-claimed : (c : Setting) (real calm : List ℕ) (e : Effect) (old : Option ℕ) → IsPending c real calm e old → (row : Named)
    → fresh_of e ≡ Some row
    → IsClaimed c.shape real row.0 row.1
pending-claimed c real calm (Keeps base kind) old pending row is = absurd (none-some row is)
pending-claimed c real calm (Fills base kind) old pending row is = absurd (none-some row is)
pending-claimed c real calm (PutsLeaf base kind x key value) old pending row is = absurd (none-some row is)
pending-claimed c real calm (RemovesLeaf base kind x key) old pending row is = absurd (none-some row is)
pending-claimed c real calm (HangsPair base kind x key value fresh d a) old (leads, none, parts, slot, ready, pair) row is =
    subst (λ (z : Named). IsClaimed c.shape real z.0 z.1) (same_Some (fresh, Four) row is) ready.claimed
pending-claimed c real calm (HangsGrown base kind x key value full full_kind y fresh larger) old
    (above, none, hangs, leads, empty, slot, ready, copy) row is =
    subst (λ (z : Named). IsClaimed c.shape real z.0 z.1) (same_Some (fresh, larger) row is) ready.claimed

pub fresh-claimed : (c : Setting) (real calm : List ℕ) (stage : Stage) (row : Named) → AtWork c real calm (Some row) stage
    → IsClaimed c.shape real row.0 row.1
fresh-claimed c real calm stage row (Claiming none g) = absurd (none-some row (sym none))
fresh-claimed c real calm stage row (Going g) = g.new.claimed
fresh-claimed c real calm stage row (Hanging g) = pending-claimed c real calm g.effect g.old g.pending row (sym g.fresh_row)

pub bring-theirs : (e : Effect) (other : Option Named) → AreTwoRows (fresh_of e) other → IsOther (Some e) other
bring-theirs e None apart = tt
bring-theirs (Keeps base kind) (Some row) apart = λ none. none
bring-theirs (Fills base kind) (Some row) apart = λ none. none
bring-theirs (PutsLeaf base kind x key value) (Some row) apart = λ none. none
bring-theirs (RemovesLeaf base kind x key) (Some row) apart = λ none. none
bring-theirs (HangsPair base kind x key value fresh d a) (Some row) apart = λ is. apart (sym is.0)
bring-theirs (HangsGrown base kind x key value full full_kind y fresh larger) (Some row) apart = λ is. apart (sym is.0)
