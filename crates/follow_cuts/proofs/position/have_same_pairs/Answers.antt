use Rattle.std.proofs.Common.{◌≡◌, ℕ, ◌&&◌, eqb, Decides, ap, ap₂, sym, ◌∙◌}
use Rattle.std.proofs.lemmas.Bool.Decides.{Decides-eqb, Decides-and, Decides-like}
use Rattle.std.proofs.lemmas.Slice.Eq.{slice_eq-Decides}
use Rattle.follow_cuts.proofs.position.have_same_pairs.Goals as goal

abbrev pair_of : ℕ → ℕ → ℕ × ℕ
pair_of key value = (key, value)

-- pairs are equal where their keys and their values are
Decides-pair : (a b : ℕ × ℕ) → Decides (eqb a.0 b.0 && eqb a.1 b.1) (a ≡ b)
Decides-pair a b =
    Decides-like (eqb a.0 b.0 && eqb a.1 b.1) (λ e. ap₂ pair_of e.0 e.1) (λ e. (ap (λ (p : ℕ × ℕ). p.0) e, ap (λ (p : ℕ × ℕ). p.1) e))
    (Decides-and (eqb a.0 b.0) (eqb a.1 b.1) (Decides-eqb a.0 b.0) (Decides-eqb a.1 b.1))

pub returns : goal.returns
returns c =
    let same = slice_eq-Decides Decides-pair _ _ _ c.eq.ensures in
    let first = c.pairs.ensures.pairs in
    let second = c.pairs-2.ensures.pairs in
    (λ yes. sym first ∙ (same.0 yes ∙ second), λ e. same.1 (first ∙ (e ∙ sym second)))
