use Rattle.search.proofs.Common.{◌≡◌, ℕ, zero, suc, ◌+◌, ◌-◌, List, [], ◌++◌, take, replicate, refl, ap, ◌∙◌, arith, LinksView}
use Rattle.search.proofs.links.Links.new.Goals as goal

take_none : (n : ℕ) → take {A = ℕ} n [] ≡ []
take_none zero = refl
take_none (suc n) = refl

-- the items of a list that grew from nothing
grown : (n size len : ℕ) → len ≡ 0 → take {A = ℕ} n [] ++ replicate (n - len) size ≡ replicate n size
grown n size len none = ap (λ xs. xs ++ replicate (n - len) size) (take_none n) ∙ ap (λ k. replicate k size) (omega arith)

abbrev of_list : List ℕ → LinksView
of_list xs = record { after = xs; before = xs }

pub returns : goal.returns
returns c =
    rw (c.in_ok-before.ensures.items, c.deref.ensures.value, c.in_ok-resize.ensures.items, c.new-after.ensures.items)
    (ap of_list (grown (c.args.size + 1) c.args.size _ c.new-after.ensures.len))
