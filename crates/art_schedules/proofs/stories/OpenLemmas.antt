-- Values at one number, and the stage of an open call.
use Rattle.art_schedules.proofs.Common.{if◌then◌else◌, ◌≡◌, ◌≢◌, ◌⊎◌, ℕ, ap, inl, inr, ⊎_elim, refl, ◌∙◌, Call, Shape, Variant, Process, State}
use Rattle.art_schedules.proofs.Common.{IsOpen, set_at, stage_of}
use Rattle.art_schedules.proofs.versions.KnownLemmas.{same-call}
use Rattle.std.proofs.lemmas.Bool.Decides.{eqb_tells}
use Rattle.art_schedules.proofs.versions.KnownLemmas.{same-process}

pub set-cases : {A : Type 0} (f : ℕ → A) (p : ℕ) (a : A) (r : ℕ) → ((r ≡ p) × (set_at f p a r ≡ a)) ⊎ ((r ≢ p) × (set_at f p a r ≡ f r))
set-cases f p a r = ⊎_elim (λ x. inl (x.1, ap (λ b. if b then a else f r) x.0))
    (λ x. inr (x.1, ap (λ b. if b then a else f r) x.0)) (eqb_tells r p)

pub set-here : {A : Type 0} (f : ℕ → A) (p : ℕ) (a : A) → set_at f p a p ≡ a
set-here f p a = ⊎_elim (λ x. x.1) (λ x. absurd (x.0 refl)) (set-cases f p a p)

pub set-other : {A : Type 0} (f : ℕ → A) (p : ℕ) (a : A) (r : ℕ) → r ≢ p → set_at f p a r ≡ f r
set-other f p a r apart = ⊎_elim (λ x. absurd (apart x.0)) (λ x. x.1) (set-cases f p a r)

pub same-stage : (variant : Variant) (shape : Shape) (s : State) (p : ℕ) (call other : Call) (q w : Process) → IsOpen s p call q
    → IsOpen s p other w
    → stage_of variant shape call q ≡ stage_of variant shape other w
same-stage variant shape s p call other q w o x =
    ap (λ y. stage_of variant shape y q) (same-call s p call other q w o x)
    ∙ ap (stage_of variant shape other) (same-process s p call other q w o x)
