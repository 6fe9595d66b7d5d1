-- The reply that goes with an effect is the map's.
use Rattle.art_schedules.proofs.Common.{◌≡◌, inl, inr, ℕ, List, true, refl, sym, ap, ◌∙◌, subst, if◌then◌else◌, Option, Some, None, eq-eqb, Call}
use Rattle.art_schedules.proofs.inserts.InsertEndLemmas.{first-differs}
use Rattle.art_schedules.proofs.Common.{Get, Insert, Remove, Scan, Replace, Contents, value_at, put, is_just, reply_to, Kind, Child, Empty, Row}
use Rattle.art_schedules.proofs.Common.{Leaf, key_bytes, first_difference, Setting, value_reply, Means, child_on, IsAtRest, Parts}
use Rattle.art_schedules.proofs.Common.{Effect, Keeps, Fills, PutsLeaf, RemovesLeaf, HangsPair, HangsGrown, WaysSayValues, IsSaidBy, IsOld}
use Rattle.art_schedules.proofs.Common.{IsPending, IsEffectOf}
use Rattle.map_object.specs.MapObject as map
use Rattle.map_object.specs.MapObject.{after_reply, IsLegalReply}
use Rattle.map_object.proofs.TellLemmas.{tells_all}
use Rattle.art_schedules.specs.changes.Effects.{pairs_after}
use Rattle.art_schedules.specs.effects.AtWork.{key_of_effect}

same-differ : (xs : List ℕ) (d : ℕ) → first_difference xs xs ≡ Some d → ⊥
same-differ xs d e = first-differs xs xs d e refl

old-said : (c : Setting) (calm : List ℕ) (key base : ℕ) (kind : Kind) (y : ℕ) (old : Option ℕ) → IsOld c calm key base kind y old
    → IsSaidBy calm key old (child_on c.shape calm base kind y)
old-said c calm key base kind y None is = subst (IsSaidBy calm key None) (sym is) refl
old-said c calm key base kind y (Some value) is = subst (IsSaidBy calm key (Some value)) (sym is) (inl (refl, refl))

parted-said : (calm : List ℕ) (key d a : ℕ) (child : Child) → Parts calm key d a child → IsSaidBy calm key None child
parted-said calm key d a Empty parts = refl
parted-said calm key d a (Leaf k value) parts =
    inr (λ e. same-differ (key_bytes key) d (ap (λ z. first_difference (key_bytes z) (key_bytes key)) (sym e) ∙ parts.0), refl)
parted-said calm key d a (Row b kind) parts = (d, parts.0, refl)

module _ (says : WaysSayValues) (c : Setting) (n : ℕ) (real calm : List ℕ) (m : Contents) (rest : IsAtRest c.shape n calm)
    (means : Means c.shape calm m) where
  -- what the map has at the key of an effect
  value-before : (e : Effect) (old : Option ℕ) → IsPending c real calm e old → value_at m (key_of_effect e) ≡ old
  value-before (Keeps base kind) old none = absurd none
  value-before (Fills base kind) old none = absurd none
  value-before (PutsLeaf base kind y key value) old (leads, was, row) =
      says c.shape n calm m key base kind y old rest means leads (old-said c calm key base kind y old was)
  value-before (RemovesLeaf base kind y key) old (leads, was, slot) =
      says c.shape n calm m key base kind y old rest means leads (old-said c calm key base kind y old was)
  value-before (HangsPair base kind y key value fresh d a) old (leads, none, parts, slot, ready, pair) =
      says c.shape n calm m key base kind y None rest means leads
      (parted-said calm key d a (child_on c.shape calm base kind y) parts) ∙ sym none
  value-before (HangsGrown base kind y key value full full_kind z fresh larger) old (above, none, hangs, leads, empty, slot, ready, copy) =
      says c.shape n calm m key full full_kind z None rest means leads (subst (IsSaidBy calm key None) (sym empty) refl) ∙ sym none

  replied : (key : ℕ) (old : Option ℕ) → value_at m key ≡ old → map.value_reply (value_at m key) ≡ value_reply old
  replied key None e = ap map.value_reply e
  replied key (Some value) e = ap map.value_reply e

  answered : (call : Call) (old : Option ℕ) → after_reply m call (value_reply old) ≡ map.after m call
  answered call None = refl
  answered call (Some value) = refl

  tells : (call : Call) (old : Option ℕ) → value_reply old ≡ reply_to m call → IsLegalReply m call (value_reply old)
  tells call old is = inr (tells_all m call (value_reply old) is)

  -- the effect makes the map after the call, and its reply is the map's
  pub does-so : (e : Effect) (old : Option ℕ) → IsPending c real calm e old → (call : Call) → IsEffectOf call old e
      → (pairs_after e m ≡ after_reply m call (value_reply old)) × IsLegalReply m call (value_reply old)
  does-so e old pending (Insert key value) (same, pairs) =
      let was = ap (value_at m) same ∙ value-before e old pending in
      (pairs m ∙ sym (answered (Insert key value) old), tells (Insert key value) old (sym (replied key old was)))
  does-so e old pending (Remove key) (same, pairs) =
      let was = ap (value_at m) same ∙ value-before e old pending in
      (pairs m ∙ sym (answered (Remove key) old), tells (Remove key) old (sym (replied key old was)))
  does-so e old pending (Replace key expected value) (same, found, pairs) =
      let was = ap (value_at m) same ∙ value-before e old pending in
      let just : is_just (value_at m key) expected ≡ true = ap (λ z. is_just z expected) (was ∙ found) ∙ eq-eqb expected expected refl in (
        pairs m ∙ (sym (ap (λ b. if b then put key value m else m) just) ∙ sym (answered (Replace key expected value) old)),
        tells (Replace key expected value) old (sym (replied key old was)),
      )
  does-so e old pending (Get key) none = absurd none
  does-so e old pending (Scan low high) none = absurd none
