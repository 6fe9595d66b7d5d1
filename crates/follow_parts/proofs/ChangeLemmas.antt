-- A call that may change the map begins in a part: the state after it (`change_is_shaped`, `change_is_state`).
use Rattle.follow_parts.proofs.Common.{◌≡◌, ℕ, suc, ◌<◌, true, List, [], ◌∷◌, ◌++◌, map, refl, sym, subst, ⊎_elim, All, All-head, All-weaker, Call, Operation}
use Rattle.follow_parts.proofs.Common.{low_key, may_change, Contents, value_at, IsKeptOrder, AreKept, kept_of, kept_part, past_of, Part, PartsView}
use Rattle.follow_parts.proofs.Common.{kept_parts, kept_rest, begun, IsStateOf, IsCallBefore, IsPartBefore, IsPastBefore, IsPut, IsShaped, IsBegunIn}
use Rattle.follow_parts.proofs.Common.{◌∙◌, Err, IfOk, IsPartOf, IsPartWith, IsTakenOut, Ok, OnOk, Result, covered, eq-eqb, false, inr}
use Rattle.follow_parts.proofs.BeginningLemmas.{change_begins, key_is_taken, reads_stay}
use Rattle.follow_parts.proofs.BegunLemmas.{shaped_change, shaped_key}
use Rattle.follow_parts.proofs.PutLemmas.{one_of, put_kept, put_last, put_shaped, put_state}
use Rattle.follow_parts.proofs.SettledLemmas.{view_of}

module _ (s : PartsView) (rest : Contents) (others : List Part) (part : Part) (call : Call)
    (w : IsPartWith (low_key call) s.rest s.parts rest others part) (shaped : IsShaped s) where
  -- the state with the part at the end of the list
  there_is_shaped : IsShaped (view_of rest (others ++ part ∷ []) s.reads s.now)
  there_is_shaped = ⊎_elim
      (λ (same, put). subst (λ (r : Contents). IsShaped (view_of r (others ++ part ∷ []) s.reads s.now)) (sym same)
      (put_shaped s.rest part others s.parts (others ++ part ∷ []) s.reads s.now put (put_last part others) shaped))
      (λ (none, out, same, of_key, first). subst (λ (ps : List Part). IsShaped (view_of rest (ps ++ part ∷ []) s.reads s.now)) (sym same)
      (shaped_key s.now s.reads (low_key call) (value_at s.rest (low_key call)) part of_key first s.rest rest s.parts out shaped))
      w.from

  there_is_kept : (start : Contents) (calls : List Operation) → AreKept start s.now calls (kept_parts s)
      → AreKept start s.now calls (kept_rest rest (others ++ part ∷ []) ∷ map kept_part (others ++ part ∷ []))
  there_is_kept start calls kept = ⊎_elim
      (λ (same, put). subst
      (λ (r : Contents). AreKept start s.now calls (kept_rest r (others ++ part ∷ []) ∷ map kept_part (others ++ part ∷ []))) (sym same)
      (put_kept s.rest part others s.parts (others ++ part ∷ []) s.reads s.now put (put_last part others) start calls kept))
      (λ (none, out, same, of_key, first). subst
      (λ (ps : List Part). AreKept start s.now calls (kept_rest rest (ps ++ part ∷ []) ∷ map kept_part (ps ++ part ∷ []))) (sym same)
      (key_is_taken start s.now calls s.rest rest s.parts part (low_key call) none shaped.rest out of_key kept))
      w.from

  pub calls_before : All (λ a. a.inv < s.now) part.first.calls
  calls_before =
      let before = one_of part others (others ++ part ∷ []) (put_last part others) (IsPartBefore s.now s.reads) there_is_shaped.parts in
      let first = All-head (IsPastBefore s.now) (past_of part.first part.found.items) (map kept_of part.others.items) before.pasts in
      All-weaker (IsCallBefore s.now) (λ (a : Operation). a.inv < s.now) (λ a less. less.begun) part.first.calls first.before

  module _ (new : Part) (begun_in : IsBegunIn (begun call s.now) part new) (first : IsKeptOrder new.first) (parts : List Part)
      (put : IsPut new others parts) where
    pub change_is_shaped : IsShaped (view_of rest parts s.reads (suc s.now))
    change_is_shaped =
        put_shaped rest new others (others ++ new ∷ []) parts s.reads (suc s.now) (put_last new others) put
        (shaped_change s.now s.reads (begun call s.now) refl refl rest others [] part new begun_in first there_is_shaped)

    pub change_is_state : may_change call ≡ true → (start : Contents) (calls : List Operation) → IsStateOf start calls s
        → IsStateOf start (calls ++ begun call s.now ∷ []) (view_of rest parts s.reads (suc s.now))
    change_is_state changes start calls is =
        put_state rest new others (others ++ new ∷ []) parts s.reads (suc s.now) (put_last new others) put start (calls ++ begun call s.now ∷ [])
        (record {
          kept = change_begins start s.now calls rest others part new [] (begun call s.now) refl refl changes w.here begun_in
              (there_is_kept start calls is.kept);
          reads = reads_stay calls (begun call s.now) s.reads changes is.reads;
        })

pub with_same : (key key_then : ℕ) (rest rest_then : Contents) (parts parts_then : List Part) (rest_new : Contents) (others : List Part)
    (part : Part) → key ≡ key_then → rest ≡ rest_then → parts ≡ parts_then → IsPartWith key rest parts rest_new others part
    → IsPartWith key_then rest_then parts_then rest_new others part
with_same key key_then rest rest_then parts parts_then rest_new others part e f g w =
    subst (λ (k : ℕ). IsPartWith k rest_then parts_then rest_new others part) e
    (subst (λ (r : Contents). IsPartWith key r parts_then rest_new others part) f
    (subst (λ (ps : List Part). IsPartWith key rest ps rest_new others part) g w))

-- a key at rest became a part
pub with_new_part : {E : Type 0} (key : ℕ) (rest : Contents) (parts others : List Part) (result : Result (Contents × Part) E)
    → All (λ part. covered part.ranges.items key ≡ false) parts → others ≡ parts → IfOk result (λ made. IsTakenOut key rest made.0)
    → IfOk result (λ made. IsPartOf key (value_at rest key) made.1) → IfOk result (λ made. IsKeptOrder made.1.first)
    → OnOk result (IfOk result (λ taken. IsPartWith key rest parts taken.0 others taken.1))
with_new_part key rest parts others (Ok made) none same out of_key first = record {
  here = of_key.keys key ∙ eq-eqb key key refl;
  from = inr (none, out, same, of_key, first);
}
with_new_part key rest parts others (Err e) none same out of_key first = tt
