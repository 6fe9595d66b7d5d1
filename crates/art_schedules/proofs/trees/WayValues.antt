-- What the map has at a key, by what hangs on the key's byte of a row that its way leads to.
use Rattle.art_schedules.proofs.Common.{◌≡◌, ℕ, ◌<◌, take, sym, ap, ap₂, subst, ◌∙◌, ⊎_elim, Kind, Leaf, key_bytes, first_difference}
use Rattle.std.proofs.Common.{Some}
use Rattle.art_schedules.proofs.Common.{key_byte-small, Hangs, level_in, path_in, LeadsTo, WaysLeadToValues}
use Rattle.art_rows.specs.declared.table.Child.TheVariants.{Row}
use Rattle.art_schedules.proofs.trees.Bytes.{begins_not}
use Rattle.art_schedules.proofs.trees.MapValues.{value_of, no_value}
use Rattle.art_schedules.proofs.trees.Ways.{found_at, empty-leaf, empty-row, row-leaf, same_base, same_kind, same_key}

pub ways-lead-to-values : WaysLeadToValues
ways-lead-to-values s words m key base kind x tree means leads =
    let absent = λ (none : (value : ℕ) → Hangs s words key value → ⊥). no_value m key
    (λ value is. none value ((means.all key value).0 is)) in
    let found = λ (value : ℕ) (h : Hangs s words key value). found_at s words tree key value base kind x leads h in (
      λ empty. absent (λ value h. ⊎_elim
          (λ leaf. empty-leaf key value (sym empty ∙ leaf)) (λ row. empty-row row.0 row.1 (sym empty ∙ row.2)) (found value h)),
      λ k value leaf. (
        λ same. value_of m key value means.rising ((means.all key value).1 (record {
          base = base;
          kind = kind;
          reached = leads.reached;
          byte = x;
          is_byte = byte_of leads;
          leaf = leaf ∙ ap (λ j. Leaf j value) same;
        })),
        λ other. absent (λ v h. ⊎_elim
            (λ here. other (same_key k value key v (sym leaf ∙ here)))
            (λ row. row-leaf row.0 row.1 k value (sym row.2 ∙ leaf)) (found v h)),
      ),
      λ b d k row parts. absent (λ value h. ⊎_elim
          (λ leaf. row-leaf b k key value (sym row ∙ leaf))
          (λ next. parted b k next.0 next.1 d (sym row ∙ next.2) next.3 parts) (found value h)),
    )
  where
    -- a row whose path begins the key is not parted from it
    parted : (b : ℕ) (k : Kind) (c : ℕ) (j : Kind) (d : ℕ) → Row b k ≡ Row c j
        → path_in words c j ≡ take (level_in words c j) (key_bytes key)
        → first_difference (path_in words b k) (key_bytes key) ≡ Some d → ⊥
    parted b k c j d rows begins =
        let path = ap₂ (λ c j. path_in words c j) (same_base b c k j rows) (same_kind b c k j rows) in
        begins_not (level_in words c j) d (path_in words b k) (key_bytes key) (path ∙ begins)

    byte_of : LeadsTo s words key base kind x → x < 256
    byte_of leads = subst (λ y. y < 256) (sym leads.byte) (key_byte-small key (level_in words base kind))
