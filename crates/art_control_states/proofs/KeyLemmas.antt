-- Keys of the kinds of row that have them, and the entries of a row that grows from one.
use Rattle.std.proofs.Common.{◌≡◌, ℕ, ◌+◌, List, [], ◌∷◌, ◌++◌, length, refl, ap, sym, ◌∙◌, true, arith}
use Rattle.std.specs.Prelude.{if◌then◌else◌, Some, None, option_map}
use Rattle.std.proofs.lemmas.Bool.{eq-eqb, ne_eqb, false≢true}
use Rattle.art_rows.specs.Words.{place_of}
use Rattle.art_rows.specs.declared.table.Kind.{Kind}
use Rattle.art_rows.specs.declared.table.Kind.TheVariants.{Four, Sixteen, FortyEight, Full}
use Rattle.art_rows.proofs.ReaderLemmas.{joined, place_append}
use Rattle.art_rows.specs.Updates.{new_entry}
use Rattle.art_control_states.specs.Stages.{keys_among, keys_in, count_in}
use Rattle.art_control_states.specs.declared.stage.Keys.{Keys}
use Rattle.art_control_states.specs.Sound.{has_keys}

pub in_keys : (kind : Kind) (keys : Keys) → has_keys kind ≡ true → keys_among kind keys ≡ keys_in kind keys
in_keys Four keys h = refl
in_keys Sixteen keys h = refl
in_keys FortyEight keys h = absurd (false≢true h)
in_keys Full keys h = absurd (false≢true h)

pub counted : (kind : Kind) (keys : Keys) → has_keys kind ≡ true → count_in kind keys ≡ length (keys_in kind keys)
counted Four keys h = refl
counted Sixteen keys h = refl
counted FortyEight keys h = absurd (false≢true h)
counted Full keys h = absurd (false≢true h)

-- Entries of a new row.

pub entry_some : (ks : List ℕ) (x y i : ℕ) → Some i ≡ place_of y ks → i + 1 ≡ new_entry (ks ++ x ∷ []) y
entry_some ks x y i e =
    let at : place_of y (ks ++ x ∷ []) ≡ Some i = place_append y ks (x ∷ [])
    ∙ ap (λ o. joined o (place_of y (x ∷ [])) (length ks)) (sym e) in
    rw at refl

pub entry_new : (ks : List ℕ) (x y : ℕ) → None ≡ place_of y ks → x ≡ y → length ks + 1 ≡ new_entry (ks ++ x ∷ []) y
entry_new ks x y e h =
    let at : place_of y (ks ++ x ∷ []) ≡ Some (0 + length ks) = place_append y ks (x ∷ [])
    ∙ (ap (λ o. joined o (place_of y (x ∷ [])) (length ks)) (sym e)
    ∙ ap (λ b. option_map (λ i. i + length ks) (if b then Some 0 else None)) (eq-eqb x y h)) in
    rw at (omega arith)

pub entry_none : (ks : List ℕ) (x y : ℕ) → None ≡ place_of y ks → (x ≡ y → ⊥) → 0 ≡ new_entry (ks ++ x ∷ []) y
entry_none ks x y e h =
    let at : place_of y (ks ++ x ∷ []) ≡ None = place_append y ks (x ∷ []) ∙ (ap (λ o. joined o (place_of y (x ∷ [])) (length ks)) (sym e)
    ∙ ap (λ b. option_map (λ i. i + length ks) (if b then Some 0 else None)) (ne_eqb x y h)) in
    rw at refl
