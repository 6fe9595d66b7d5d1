-- Where entries are cut.
use Rattle.packed_map.proofs.Common.{◌≡◌, ℕ, ◌+◌, ◌-◌, ◌<◌, List, length, get_or, take, drop, Some, refl, sym, ap, ◌∙◌, subst, inl, inr, ⊎_elim}
use Rattle.packed_map.proofs.Common.{arith, take-append-drop, length-drop, length-take, get_or-drop, get_or-take, ◌↔◌, All, IsTrue, nat_lt, slice_get}
use Rattle.packed_map.proofs.Common.{cases_lt, lt-ltb, ltb-true, get_or_default, All-take, KeysRise, IsCut}
use Rattle.std.proofs.lemmas.Option.{get_or_from_slice_get, slice_get_within}

-- a key is above all entries where it is above the last
pub above_last : {V : Type 0} (key : ℕ) (last : ℕ × V) (es : List (ℕ × V)) → KeysRise es → Some last ≡ slice_get es (length es - 1)
    → IsTrue (nat_lt last.0 key) ↔ All (λ e. e.0 < key) es
above_last {V} key last es rising at =
    let n = length es - 1 in
    let within : n < length es = slice_get_within es n last (sym at) in (
      λ t k d inside.
          let less : last.0 < key = ltb-true last.0 key t in
          let is : get_or es n d ≡ last = get_or_from_slice_get es n last d (sym at) in
          ⊎_elim
          (λ before. let rise : (get_or es k d).0 < (get_or es n d).0 = rising k n d before within in
          let same = ap (λ (f : ℕ × V). f.0) is in omega (arith, rise, same, less))
          (λ behind. let here : k ≡ n = omega (arith, behind, inside) in
          let same : (get_or es k d).0 ≡ last.0 = ap (λ (i : ℕ). (get_or es i d).0) here ∙ ap (λ (f : ℕ × V). f.0) is in
          omega (arith, same, less))
          (cases_lt k n),
      λ h.
          let is : get_or es n last ≡ last = get_or_from_slice_get es n last last (sym at) in
          let less : last.0 < key = subst (λ (f : ℕ × V). f.0 < key) is (h n last within) in
          lt-ltb last.0 key less,
    )

-- nothing is cut off before a key that is above all
pub cut_end : {V : Type 0} (key : ℕ) (es : List (ℕ × V)) → All (λ e. e.0 < key) es
    → IsCut key es (take (length es) es) (drop (length es) es) key
cut_end key es above = record {
  parts = sym (take-append-drop (length es) es);
  before = All-take (λ e. e.0 < key) (length es) es above;
  behind = λ k d within. absurd (omega (arith, within, length-drop (length es) es));
  least = inl refl;
}

-- a cut at an entry
pub cut_within : {V : Type 0} (key i : ℕ) (e : ℕ × V) (es : List (ℕ × V)) → KeysRise es → i < length es → e ≡ get_or es i e
    → IsCut key es (take i es) (drop i es) e.0
cut_within {V} key i e es rising within here =
    let at : (d : ℕ × V) → (get_or es i d).0 ≡ e.0 = λ d. ap (λ (f : ℕ × V). f.0) (get_or_default es i d e within ∙ sym here) in
    record {
      parts = sym (take-append-drop i es);
      before = λ k d inside.
          let less : k < i = omega (arith, inside, length-take i es) in
          let same = ap (λ (f : ℕ × V). f.0) (get_or-take i es k d less) in
          let rise : (get_or es k d).0 < (get_or es i d).0 = rising k i d less within in
          omega (arith, same, rise, at d);
      behind = λ k d inside.
          let same = ap (λ (f : ℕ × V). f.0) (get_or-drop i es k d) in
          let fits : i + k < length es = omega (arith, inside, length-drop i es, within) in
          ⊎_elim
          (λ later. let rise : (get_or es i d).0 < (get_or es (i + k) d).0 = rising i (i + k) d (omega (arith, later)) fits in
          omega (arith, same, rise, at d))
          (λ first. let one : i + k ≡ i = omega (arith, first) in
          let here_too = ap (λ (j : ℕ). (get_or es j d).0) one in omega (arith, same, here_too, at d))
          (cases_lt 0 k);
      least = inr (i, e, within, sym here, refl);
    }
