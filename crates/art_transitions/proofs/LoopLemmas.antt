-- The loops of PUT and GROW, by whether they go on.
use Rattle.std.proofs.Common.{◌≡◌, ℕ, zero, suc, ◌+◌, ◌-◌, refl, ap, sym, ◌∙◌, arith}
use Rattle.std.specs.Prelude.{if◌then◌else◌, slice_index}
use Rattle.std.proofs.lemmas.Bool.{eq-eqb, ne_eqb}
use Rattle.art_rows.specs.Words.{entries_of}
use Rattle.art_rows.proofs.WriterLemmas.{less_one}
use Rattle.art_control_states.specs.declared.stage.Hold.{Hold}
use Rattle.art_control_states.specs.declared.stage.Keys.{Keys}
use Rattle.art_control_states.specs.declared.stage.Growing.{Growing}
use Rattle.art_control_states.specs.declared.stage.Spread.{Spread}
use Rattle.art_control_states.specs.declared.stage.Stage.TheVariants.{PutLeaf, PutLoad, GrowLeaf, GrowLoad, SpreadIndex, SpreadLoad, GrowKeys}
use Rattle.art_control_states.specs.declared.stage.Stage.TheVariants.{GrowCount}
use Rattle.art_control_states.specs.Automaton.{moves_at, copies_at, spreads_at, entries_at, keys_at_after}

pub moves_none : (h : Hold) (keys : Keys) (n : ℕ) → n ≡ 0 → moves_at h keys n ≡ PutLeaf h keys
moves_none h keys zero e = refl
moves_none h keys (suc n) e = absurd (omega (arith, e))

pub moves_some : (h : Hold) (keys : Keys) (n : ℕ) → (n ≡ 0 → ⊥) → moves_at h keys n ≡ PutLoad h keys (n - 1)
moves_some h keys zero some = absurd (some refl)
moves_some h keys (suc n) some = ap (PutLoad h keys) (sym (less_one n))

pub copies_none : (g : Growing) (i n : ℕ) → n ≡ 0 → copies_at g i n ≡ GrowLeaf g
copies_none g i zero e = refl
copies_none g i (suc n) e = absurd (omega (arith, e))

pub copies_some : (g : Growing) (i n : ℕ) → (n ≡ 0 → ⊥) → copies_at g i n ≡ GrowLoad g i (n - 1)
copies_some g i zero some = absurd (some refl)
copies_some g i (suc n) some = ap (GrowLoad g i) (sym (less_one n))

pub spreads_none : (g : Growing) (j n : ℕ) → n ≡ 0 → spreads_at g j n ≡ GrowLeaf g
spreads_none g j zero e = refl
spreads_none g j (suc n) e = absurd (omega (arith, e))

pub spreads_some : (g : Growing) (j n : ℕ) → (n ≡ 0 → ⊥) → spreads_at g j n ≡ SpreadIndex g j (n - 1)
spreads_some g j zero some = absurd (some refl)
spreads_some g j (suc n) some = ap (SpreadIndex g j) (sym (less_one n))

pub keys_none : (g : Growing) (j n : ℕ) → n ≡ 0 → keys_at_after g j n ≡ GrowCount g
keys_none g j zero e = refl
keys_none g j (suc n) e = absurd (omega (arith, e))

pub keys_some : (g : Growing) (j n : ℕ) → (n ≡ 0 → ⊥) → keys_at_after g j n ≡ GrowKeys g (j + 1) (n - 1)
keys_some g j zero some = absurd (some refl)
keys_some g j (suc n) some = ap (GrowKeys g (j + 1)) (sym (less_one n))

pub entries_none : (s : Spread) (i n : ℕ) → n ≡ 0 → entries_at s i n ≡ spreads_at s.growing (s.place + 1) s.left
entries_none s i zero e = refl
entries_none s i (suc n) e = absurd (omega (arith, e))

pub entries_skip : (s : Spread) (i n : ℕ) → (n ≡ 0 → ⊥) → slice_index (entries_of s.word) i ≡ 0
    → entries_at s i n ≡ entries_at s (i + 1) (n - 1)
entries_skip s i zero some e = absurd (some refl)
entries_skip s i (suc n) some e =
    ap (λ b. if b then entries_at s (i + 1) n else SpreadLoad s i n) (eq-eqb (slice_index (entries_of s.word) i) 0 e)
    ∙ ap (entries_at s (i + 1)) (sym (less_one n))

pub entries_some : (s : Spread) (i n : ℕ) → (n ≡ 0 → ⊥) → (slice_index (entries_of s.word) i ≡ 0 → ⊥)
    → entries_at s i n ≡ SpreadLoad s i (n - 1)
entries_some s i zero some e = absurd (some refl)
entries_some s i (suc n) some e =
    ap (λ b. if b then entries_at s (i + 1) n else SpreadLoad s i n) (ne_eqb (slice_index (entries_of s.word) i) 0 e)
    ∙ ap (SpreadLoad s i) (sym (less_one n))
