-- Small facts of stages, of ghosts, and of calls that are open.
use Rattle.art_schedules.proofs.Common.{◌≡◌, ℕ, List, sym, subst, ◌∙◌, Option, Some, same_Some, none-some, Four, Setting, Stage, IsClaimed}
use Rattle.art_schedules.proofs.Common.{Named, Effect, Keeps, Fills, PutsLeaf, RemovesLeaf, HangsPair, HangsGrown, AtWork, Claiming, Going}
use Rattle.art_schedules.proofs.Common.{Hanging, IsPending, fresh_of, HasNew}

-- the fresh row of a call at work was claimed
pub work-claimed : (c : Setting) (real calm : List ℕ) (fresh : Option Named) (stage : Stage) → AtWork c real calm fresh stage
    → (row : Named) → fresh ≡ Some row
    → IsClaimed c.shape real row.0 row.1
work-claimed c real calm fresh stage (Claiming none x) row e = absurd (none-some row (sym none ∙ e))
work-claimed c real calm fresh stage (Going x) row e =
    let new : HasNew c real calm x.words x.hold x.work stage (Some row) =
    subst (HasNew c real calm x.words x.hold x.work stage) e x.new in new.claimed
work-claimed c real calm fresh stage (Hanging x) row e = go x.effect x.pending (sym x.fresh_row ∙ e)
  where
    go : (effect : Effect) → IsPending c real calm effect x.old → fresh_of effect ≡ Some row → IsClaimed c.shape real row.0 row.1
    go (Keeps base kind) h f = absurd (none-some row f)
    go (Fills base kind) h f = absurd (none-some row f)
    go (PutsLeaf base kind b key value) h f = absurd (none-some row f)
    go (RemovesLeaf base kind b key) h f = absurd (none-some row f)
    go (HangsPair base kind b key value fresh d a) h f =
        subst (λ (r : Named). IsClaimed c.shape real r.0 r.1) (same_Some (fresh, Four) row f) h.4.claimed
    go (HangsGrown base kind b key value full full_kind y fresh larger) h f =
        subst (λ (r : Named). IsClaimed c.shape real r.0 r.1) (same_Some (fresh, larger) row f) h.6.claimed
