-- A list of nodes by the links between them.
use Rattle.std.specs.Prelude.{◌≡◌, ℕ, ◌+◌, ◌<◌, List, [], ◌∷◌, length, slice_index, slice_set, not, filter, All, replicate}
use Rattle.events.specs.Lists.{has_number}

-- the node after each node, and the one before it
pub record LinksView : Type 0 where
  pub after : List ℕ
  pub before : List ℕ

-- each link names a node, or the end
pub record AreWithin (links : LinksView) : Type 0 where
  pub same : length links.before ≡ length links.after
  pub after : All (λ n. n < length links.after) links.after
  pub before : All (λ n. n < length links.after) links.before

-- no node is in the list
abbrev pub no_links : ℕ → LinksView
no_links size = record { after = replicate (size + 1) size; before = replicate (size + 1) size }

-- a node was added after all others
abbrev pub linked_last : LinksView → ℕ → ℕ → LinksView
linked_last links size node =
    let last = slice_index links.before size in
    record {
      after = slice_set (slice_set links.after last node) node size;
      before =
          slice_set (slice_set links.before node last) size node;
    }

-- a node was taken out
abbrev pub unlinked : LinksView → ℕ → LinksView
unlinked links node =
    let next = slice_index links.after node in
    let last = slice_index links.before node in
    record { after = slice_set links.after last next; before = slice_set links.before next last }

-- a node was put back
abbrev pub put_back : LinksView → ℕ → LinksView
put_back links node =
    let next = slice_index links.after node in
    let last = slice_index links.before node in
    record { after = slice_set links.after last node; before = slice_set links.before next node }

-- from a node on, the links go through these nodes to the end, and back
abbrev pub IsChain : LinksView → ℕ → List ℕ → ℕ → Type 0
IsChain links from [] size = (slice_index links.after from ≡ size) × (slice_index links.before size ≡ from)
IsChain links from (n ∷ nodes) size = (slice_index links.after from ≡ n) × (slice_index links.before n ≡ from) × IsChain links n nodes size

-- the nodes that are not taken out, in their order
abbrev pub without : List ℕ → List ℕ → List ℕ
without order out = filter (λ n. not (has_number out n)) order

-- the links of an order from which nodes were taken out, the latest first; if they are put back one
-- by one, each earlier list comes back
abbrev pub AreLeft : ℕ → List ℕ → List ℕ → LinksView → Type 0
AreLeft size order [] links = IsChain links size order size
AreLeft size order (n ∷ out) links = IsChain links size (without order (n ∷ out)) size × AreLeft size order out (put_back links n)
