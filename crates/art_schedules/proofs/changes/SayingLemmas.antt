-- What one row says of a key.
use Rattle.art_schedules.proofs.Common.{◌≡◌, inl, inr, take, refl, sym, ap, ◌∙◌, arith, value_at, Child, Empty, Row, Leaf, key_bytes, child_on}
use Rattle.art_schedules.proofs.Common.{path_in, WaysLeadToValues, IsSaidBy, WaysSayValues}
use Rattle.art_schedules.proofs.alone.WayLemmas.{same-beginning, level-most}
use Rattle.art_schedules.specs.changes.Laws.{WaysArePaths}

pub ways-say-values : WaysLeadToValues → WaysSayValues
ways-say-values ways s n words m key base kind x o rest means leads said = go (child_on s words base kind x) refl said
  where
    go : (child : Child) → child_on s words base kind x ≡ child → IsSaidBy words key o child → value_at m key ≡ o
    go Empty on is = (ways s words m key base kind x rest.tree means leads).0 on ∙ sym is
    go (Leaf k value) on (inl (own, is)) = ((ways s words m key base kind x rest.tree means leads).1 k value on).0 own ∙ sym is
    go (Leaf k value) on (inr (other, is)) = ((ways s words m key base kind x rest.tree means leads).1 k value on).1 other ∙ sym is
    go (Row b k) on (d, differs, is) = (ways s words m key base kind x rest.tree means leads).2 b d k on differs ∙ sym is

pub ways-are-paths : WaysArePaths
ways-are-paths s words key base kind tree reached none =
    let long = (tree.info base kind reached).0 in
    record {
      reached = reached;
      path = ap (λ i. take i (key_bytes key)) (sym long)
          ∙ same-beginning (path_in words base kind) (key_bytes key) none (omega (arith, long, level-most words base kind));
      byte = refl;
    }
