-- What a call at work makes obsolete leaves the tree, as calls on their way know of it; and the row that it brings is its fresh one.
use Rattle.art_schedules.proofs.Common.{◌≡◌, ℕ, sym, ap, ◌∙◌, Option, Some, Kind, Four, Named, Effect, Keeps, Fills, PutsLeaf, RemovesLeaf}
use Rattle.art_schedules.proofs.Common.{HangsPair, HangsGrown, ComesIn, fresh_of}

-- the row that an effect brings
pub fresh-is : (e : Effect) (fresh : Option Named) → fresh ≡ fresh_of e → (b : ℕ) (k : Kind) → ComesIn e b k → fresh ≡ Some (b, k)
fresh-is (Keeps base kind) fresh is b k none = absurd none
fresh-is (Fills base kind) fresh is b k none = absurd none
fresh-is (PutsLeaf base kind x key value) fresh is b k none = absurd none
fresh-is (RemovesLeaf base kind x key) fresh is b k none = absurd none
fresh-is (HangsPair base kind x key value row d a) fresh is b k here =
    is ∙ (ap (λ z. Some (z, Four)) (sym here.0) ∙ ap (λ z. Some (b, z)) (sym here.1))
fresh-is (HangsGrown base kind x key value full full_kind y row larger) fresh is b k here =
    is ∙ (ap (λ z. Some (z, larger)) (sym here.0) ∙ ap (λ z. Some (b, z)) (sym here.1))
