-- Two pasts that are alike: each goes on exactly if the other does.
use Rattle.follow_laws.proofs.Common.{◌≡◌, ℕ, Bool, true, false, cond, List, ◌∷◌, Option, inl, inr, refl, sym, ap, ◌∙◌, subst, ⊎_elim, ◌⊎◌, Contains}
use Rattle.follow_laws.proofs.Common.{GoesOn, not-true, All-head, All-contains, All-from_contains, Contains-first, Contains-later, Contains-cases}
use Rattle.follow_laws.proofs.Common.{Operation, Contents, value_at, KeyedCall, is_completed, keyed, Choice, Agrees, SomeGoesOn, Keys, other_keys}
use Rattle.follow_laws.proofs.Common.{IsAlikeAt, Part, IsAt, IsOneOf, choices_of, ShareKeys, AgreesAt, left_at, KeptPast, IsOpenRead, IsPast}
use Rattle.follow_laws.proofs.Common.{AreKeptAlike, AlikePastsStand, AlikePastsGo, HaveGrown}
use Rattle.follow_laws.proofs.DeadLemmas.{bool_cases}
use Rattle.follow_laws.proofs.EventLemmas.{not_both}
use Rattle.follow_laws.proofs.OrderLemmas.{same_call}
use Rattle.follow_laws.proofs.PartLemmas.{keys_shared, with_past, with_other, TakesNoMore, part_steps}
use Rattle.follow_laws.proofs.DropLemmas.{pasts_in_any_order}

alike_back : (kept other : KeptPast) → AreKeptAlike kept other → AreKeptAlike other kept
alike_back kept other alike = record {
  pairs = sym alike.pairs;
  left = λ inv. ((alike.left inv).1, (alike.left inv).0);
  found = λ f. ((alike.found f).1, (alike.found f).0);
}

-- what one of two such pasts has taken at the keys, the other has
also_taken : (keys : Keys) (calls : List KeyedCall) (kept other : KeptPast) (past twin : Choice) → AreKeptAlike kept other
    → IsPast keys calls kept past → IsPast keys calls other twin → (inv key : ℕ) → keys key ≡ true → past.taken inv key ≡ true
    → twin.taken inv key ≡ true
also_taken keys calls kept other past twin alike is twin_is inv key here taken =
    let (a, a_in, a_is, concerned) = is.known inv key here taken in
    let a_taken : past.taken a.inv key ≡ true = subst (λ (n : ℕ). past.taken n key ≡ true) (sym a_is) taken in
    let accepted : a.refused ≡ false = (All-contains (AgreesAt keys past) calls a is.agrees a_in).accepted key here a_taken in
    subst (λ (n : ℕ). twin.taken n key ≡ true) a_is
    (⊎_elim
    (λ so. so)
    (λ free. by_left a a_in a_taken (twin_is.whole a a_in accepted (key, here, rw free concerned)))
    (bool_cases (twin.taken a.inv key)))
  where
    by_left : (a : KeyedCall) → Contains calls a → past.taken a.inv key ≡ true
        → ((o : Operation) × Contains other.left o × IsAlikeAt keys (left_at keys twin a) (keyed o)) ⊎ IsOpenRead a
        → twin.taken a.inv key ≡ true
    by_left a a_in a_taken (inl (o, o_in, o_is)) =
        let (p, p_in, same) = (alike.left o.inv).1 (o, o_in, refl) in
        absurd (not_both (past.taken a.inv key) a_taken
        (subst (λ (n : ℕ). past.taken n key ≡ false) (same ∙ o_is.inv) (is.untaken p key p_in here)))
    by_left a a_in a_taken (inr (pending, read)) =
        let (f, f_in, f_inv, f_key) = is.found.whole a key a_in pending here a_taken in
        let there = twin_is.found.right f ((alike.found f).0 f_in) in
        subst (λ (k : ℕ). twin.taken a.inv k ≡ true) f_key (subst (λ (n : ℕ). twin.taken n f.key ≡ true) f_inv there.1)

same_bits : (b c : Bool) → (b ≡ true → c ≡ true) → (c ≡ true → b ≡ true) → c ≡ b
same_bits true c forth back = forth refl
same_bits false true forth back = sym (back refl)
same_bits false false forth back = refl

-- a choice that found at some keys what another did
abbrev with_found : Keys → Choice → Choice → Choice
with_found keys twin w = record {
  taken = w.taken;
  found = λ inv key. cond (keys key) (twin.found inv key) (w.found inv key);
  holds = w.holds;
}

with_found_elsewhere : (keys : Keys) (twin w : Choice) → IsAt (other_keys keys) w (with_found keys twin w)
with_found_elsewhere keys twin w = record {
  taken = λ inv key out. refl;
  found = λ inv key out taken. rw (not-true (keys key) out) refl;
  holds = λ key out. refl;
}

module _ (keys : Keys) (calls : List KeyedCall) (kept other : KeptPast) (past twin : Choice) (alike : AreKeptAlike kept other)
    (is : IsPast keys calls kept past) (twin_is : IsPast keys calls other twin) where
  same_taken : (inv key : ℕ) → keys key ≡ true → twin.taken inv key ≡ past.taken inv key
  same_taken inv key here =
      same_bits (past.taken inv key) (twin.taken inv key) (also_taken keys calls kept other past twin alike is twin_is inv key here)
      (also_taken keys calls other kept twin past (alike_back kept other alike) twin_is is inv key here)

  same_holds : (key : ℕ) → keys key ≡ true → past.holds key ≡ twin.holds key
  same_holds key here =
      sym (is.alike.same key here) ∙ ap (λ (pairs : Contents). value_at pairs key) (sym alike.pairs) ∙ twin_is.alike.same key here

  -- calls that are pending found the same
  same_found : (a : KeyedCall) (key : ℕ) → Contains calls a → is_completed a ≡ false → keys key ≡ true → past.taken a.inv key ≡ true
      → past.found a.inv key ≡ twin.found a.inv key
  same_found a key a_in pending here taken =
      let (f, f_in, f_inv, f_key) = is.found.whole a key a_in pending here taken in
      let first = is.found.right f f_in in
      let second = twin_is.found.right f ((alike.found f).0 f_in) in
      subst (λ (k : ℕ). past.found a.inv k ≡ twin.found a.inv k) f_key
      (subst (λ (n : ℕ). past.found n f.key ≡ twin.found n f.key) f_inv (first.2 ∙ sym second.2))

  is_twin : (w : Choice) → IsAt keys past w → IsAt keys twin (with_found keys twin w)
  is_twin w same = record {
    taken = λ inv key here. same.taken inv key here ∙ sym (same_taken inv key here);
    found = λ inv key here taken. rw here refl;
    holds = λ key here. same.holds key here ∙ same_holds key here;
  }

  -- all calls agree with it, with further events too
  still_agrees : (place : ℕ) (few more : List KeyedCall) (w : Choice)
      → ((a : KeyedCall) (key : ℕ) → Contains calls a → w.taken a.inv key ≡ true → Contains few a) → HaveGrown place few more → IsAt keys past w
      → (b : KeyedCall) → Contains more b → Agrees w b → Agrees (with_found keys twin w) b
  still_agrees place few more w among grown same b b_in agrees = record {
    accepted = agrees.accepted;
    fits = λ key taken. by_key key taken (bool_cases (keys key));
  }
    where
      fits_here : (key : ℕ) → w.taken b.inv key ≡ true → keys key ≡ true → (b.effect key).fits (twin.found b.inv key) ≡ true
      fits_here key taken here =
          let past_taken : past.taken b.inv key ≡ true = sym (same.taken b.inv key here) ∙ taken in
          let (a, a_in, a_is, concerned) = is.known b.inv key here past_taken in
          let w_taken : w.taken a.inv key ≡ true = subst (λ (n : ℕ). w.taken n key ≡ true) (sym a_is) taken in
          let (c, c_in, later) = grown.stay a (among a key a_in w_taken) in
          let one : c ≡ b = same_call more c b grown.apart.distinct c_in b_in (later.inv ∙ a_is) in
          let a_taken : past.taken a.inv key ≡ true = subst (λ (n : ℕ). past.taken n key ≡ true) (sym a_is) past_taken in
          ⊎_elim
          (λ old. subst (λ (z : KeyedCall). (z.effect key).fits (twin.found z.inv key) ≡ true) (sym old ∙ one)
          ((All-contains (AgreesAt keys twin) calls a twin_is.agrees a_in).fits key here (same_taken a.inv key here ∙ a_taken)))
          (λ answered. subst (λ (v : Option ℕ). (b.effect key).fits v ≡ true)
          (same.found b.inv key here past_taken
          ∙ subst (λ (n : ℕ). past.found n key ≡ twin.found n key) a_is (same_found a key a_in answered.pending here a_taken))
          (agrees.fits key taken))
          later.response

      by_key : (key : ℕ) → w.taken b.inv key ≡ true → (keys key ≡ true) ⊎ (keys key ≡ false)
          → (b.effect key).fits (cond (keys key) (twin.found b.inv key) (w.found b.inv key)) ≡ true
      by_key key taken (inl here) = rw here (fits_here key taken here)
      by_key key taken (inr out) = rw out (agrees.fits key taken)

  twin_goes_on : (place : ℕ) (others : List Choice) (rest : List Part) (w : Choice) (few more : List KeyedCall)
      → ShareKeys (record { keys = keys; pasts = past ∷ others } ∷ rest) → choices_of (record { keys = keys; pasts = past ∷ others } ∷ rest) w
      → ((a : KeyedCall) (key : ℕ) → Contains calls a → w.taken a.inv key ≡ true → Contains few a) → HaveGrown place few more → GoesOn w more
      → SomeGoesOn (λ v. choices_of (record { keys = keys; pasts = twin ∷ others } ∷ rest) v × TakesNoMore w v) more
  twin_goes_on place others rest w few more shared w_is among grown goes_on =
      let (p, p_in, at_p) = All-head (λ part. IsOneOf part.keys part.pasts w) (record { keys = keys; pasts = past ∷ others }) rest w_is in
      ⊎_elim
      (λ first.
      let same : IsAt keys past w = subst (λ (q : Choice). IsAt keys q w) (sym first) at_p in (
        with_found keys twin w,
        (
          with_past keys (past ∷ others) (twin ∷ others) rest twin w (with_found keys twin w) shared (Contains-first twin others) w_is
              (is_twin w same) (with_found_elsewhere keys twin w),
          λ inv key taken. taken,
        ),
        (
          All-from_contains (Agrees (with_found keys twin w)) more (λ b b_in.
              still_agrees place few more w among grown same b b_in (All-contains (Agrees w) more b goes_on.0 b_in)),
          goes_on.1,
        ),
      ))
      (λ later. (
        w,
        (with_other keys (past ∷ others) (twin ∷ others) rest w p w_is (Contains-later twin others p later) at_p, λ inv key taken. taken),
        goes_on,
      ))
      (Contains-cases past others p p_in)

pub alike_pasts_stand : AlikePastsStand
alike_pasts_stand held place calls keys kept other past twin others rest alike is twin_is stand =
    part_steps held place calls keys (past ∷ others) (twin ∷ others) rest
    (λ w more w_is grown goes_on.
    let (v, both, goes) = twin_goes_on keys calls kept other past twin alike is twin_is place others rest w calls more stand.shared w_is
    (λ a key a_in taken. a_in) grown goes_on in (v, both.0, goes))
    (λ w few more w_is alone are grown goes_on.
    twin_goes_on keys calls other kept twin past (alike_back kept other alike) twin_is is place others rest w few more
    (keys_shared keys (past ∷ others) (twin ∷ others) rest stand.shared) w_is are.taken grown goes_on)
    stand

pub alike_pasts_go : AlikePastsGo
alike_pasts_go held place calls keys kept other past twin others rest alike is twin_is stand =
    pasts_in_any_order held place calls keys (twin ∷ twin ∷ others) (twin ∷ others) rest
    (λ p p_in. ⊎_elim
    (λ same. subst (Contains (twin ∷ others)) same (Contains-first twin others))
    (λ later. later)
    (Contains-cases twin (twin ∷ others) p p_in))
    (λ p p_in. Contains-later twin (twin ∷ others) p p_in)
    (alike_pasts_stand held place calls keys kept other past twin (twin ∷ others) rest alike is twin_is stand)
