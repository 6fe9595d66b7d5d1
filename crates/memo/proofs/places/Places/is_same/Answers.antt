use Rattle.memo.proofs.Common.{◌≡◌, ◌∙◌, sym, ap₂, eqb, Decides, Decides-at, Decides-eqb, places_of}
use Rattle.std.specs.Cmp.{unsigned_Decides}
use Rattle.std.specs.Cmp.Lexicographic.{pointwise, pointwise_decides}
use Rattle.memo.proofs.WordLemmas.{same_places}
use Rattle.memo.proofs.places.Places.is_same.Goals as goal

pub returns-then-self-other : goal.returns-then-self-other
returns-then-self-other c =
    let a = c.self.inside in
    let b = c.other.inside in
    let words : Decides c.eq.result (a.words.items ≡ b.words.items) =
    Decides-at c.eq.result (pointwise eqb a.words.items b.words.items) c.eq.ensures
    (pointwise_decides unsigned_Decides a.words.items b.words.items) in (
      λ equal. sym c.self.view_is ∙ ap₂ places_of c.if-self-other.true (words.0 equal) ∙ c.other.view_is,
      λ same. words.1 (same_places a.least b.least a.words.items b.words.items c.self.invariant c.other.invariant
          (c.self.view_is ∙ same ∙ sym c.other.view_is)).1,
    )

pub returns-else-self-other : goal.returns-else-self-other
returns-else-self-other c =
    let a = c.self.inside in
    let b = c.other.inside in (
      λ equal. absurd (c.if-self-other.false ((Decides-eqb a.least b.least).0 equal)),
      λ same. absurd (c.if-self-other.false
          (same_places a.least b.least a.words.items b.words.items c.self.invariant c.other.invariant
          (c.self.view_is ∙ same ∙ sym c.other.view_is)).0),
    )
