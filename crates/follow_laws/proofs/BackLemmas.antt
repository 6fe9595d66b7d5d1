-- Orders in which a call comes first at some keys: it is put before all that is left there.
use Rattle.follow_laws.proofs.Common.{◌≡◌, ℕ, ◌<◌, ◌≤◌, Bool, true, false, not, ◌&&◌, ◌||◌, ◌==◌, cond, List, Option, Some, None, inl, inr, refl, sym}
use Rattle.follow_laws.proofs.Common.{ap, ◌∙◌, subst, ⊎_elim, arith, ◌≢◌, ◌⊎◌, All, Contains, ltb-true, and_parts, and_from, or_left, or_right}
use Rattle.follow_laws.proofs.Common.{not_from_false, false_from_ne_true, eqb-true, eq-eqb, All-contains, KeyedCall, no_effect, IsNoEffect, IsFormed}
use Rattle.follow_laws.proofs.Common.{ends_before, IsLater, HaveGrown, Choice, rest_of, Agrees, Keys, IsWithin, IsOutside, other_keys, IsAt}
use Rattle.follow_laws.proofs.Common.{IsAfterCall, MayComeNext}
use Rattle.follow_laws.proofs.CutLemmas.{outside_none, within_none}
use Rattle.follow_laws.proofs.DeadLemmas.{bool_cases}
use Rattle.follow_laws.proofs.EffectRestLemmas.{none_or, refused_none}
use Rattle.follow_laws.proofs.WalkLemmas.{within_later, outside_later}
use Rattle.follow_laws.proofs.FirstLemmas.{none_outside, accepted_now}
use Rattle.follow_laws.proofs.MaskLemmas.{masked_by, rest_masked, masked_same}
use Rattle.follow_laws.proofs.NextLemmas.{taken_by, or_none, IsTaken, rest_leaves, taken_none}

-- All that is known of two choices and of a call, now and later. One choice is `next` at some keys. The other is `past` there, and like the
-- first elsewhere. The call leads from the past to the next.
pub record AtBack (keys : Keys) (place limit : ℕ) (calls more : List KeyedCall) (past next w v : Choice) (a d : KeyedCall) : Type 0 where
  pub same : IsAt keys next v
  pub here : IsAt keys past w
  pub there : IsAt (other_keys keys) v w
  pub after : IsAfterCall keys past a next
  pub may : MayComeNext keys past calls a
  pub less : a.inv < place
  pub begun : a.inv < limit
  pub within : IsWithin keys (rest_of w a)
  pub parted : (b : KeyedCall) → Contains calls b → b.inv < limit → b.refused ≡ false → IsWithin keys (rest_of w b) ⊎ IsOutside keys (rest_of w b)
  pub grown : HaveGrown place calls more
  pub in_more : Contains more d
  pub later : IsLater place a d
  pub agrees : All (Agrees v) more

-- a call that has no effect at the keys, and one that has effects only there, and did not end before a place
abbrev pub IsApartFrom : Keys → KeyedCall → Type 0
IsApartFrom keys x = (key : ℕ) → keys key ≡ true → IsNoEffect (x.effect key)

abbrev pub IsOpenWithin : Keys → ℕ → KeyedCall → Type 0
IsOpenWithin keys inv x = ((key : ℕ) → keys key ≡ false → IsNoEffect (x.effect key)) × (ends_before x.res inv ≡ false)

module _ (keys : Keys) (place limit : ℕ) (calls more : List KeyedCall) (past next w v : Choice) (a d : KeyedCall)
    (at : AtBack keys place limit calls more past next w v a d) where
  formed : (e : KeyedCall) → Contains more e → IsFormed e
  formed e e_in = All-contains IsFormed more e at.grown.formed e_in

  -- the first takes what the second takes, and the call
  taken_back : (inv key : ℕ) → v.taken inv key ≡ (w.taken inv key || taken_by keys a inv key)
  taken_back inv key = by_key (bool_cases (keys key))
    where
      by_key : (keys key ≡ true) ⊎ (keys key ≡ false) → v.taken inv key ≡ (w.taken inv key || (keys key && ((inv == a.inv) && a.concerns key)))
      by_key (inl is) =
          rw is (at.same.taken inv key is ∙ at.after.taken inv key is
          ∙ ap (λ (t : Bool). t || ((inv == a.inv) && a.concerns key)) (sym (at.here.taken inv key is)))
      by_key (inr is) =
          rw is (sym (at.there.taken inv key (not_from_false (keys key) is)) ∙ or_none (w.taken inv key))

  pub rest_back : (e : KeyedCall) → masked_by (taken_by keys a) (rest_of w e) ≡ rest_of v e
  rest_back e = rest_masked w v (taken_by keys a) e taken_back

  taken_there : (key : ℕ) → keys key ≡ true → a.concerns key ≡ true → v.taken d.inv key ≡ true
  taken_there key is there =
      taken_back d.inv key ∙ or_right (w.taken d.inv key) (taken_by keys a d.inv key)
      (and_from (keys key) ((d.inv == a.inv) && a.concerns key) is
      (and_from (d.inv == a.inv) (a.concerns key) (eq-eqb d.inv a.inv at.later.inv) there))

  agreed : (e : KeyedCall) → Contains more e → Agrees v e
  agreed e e_in = All-contains (Agrees v) more e at.agrees e_in

  accepted : d.refused ≡ false
  accepted =
      let (key, is, left) = at.may.is_left in
      let (untaken, there) = and_parts (not (past.taken a.inv key)) (a.concerns key) left in
      (agreed d at.in_more).accepted key (taken_there key is there)

  is_taken : IsTaken keys place calls more past next w a d
  is_taken = record {
    same = at.here;
    after = at.after;
    grown = at.grown;
    in_more = at.in_more;
    later = at.later;
    accepted = accepted;
  }

  -- the call fits at the keys, and has no effect elsewhere
  pub none_elsewhere : (key : ℕ) → keys key ≡ false → IsNoEffect ((rest_of w d).effect key)
  none_elsewhere key out = within_none keys w d (formed d at.in_more) (within_later keys place w a d at.later at.within) key out

  pub fits_here : (key : ℕ) → keys key ≡ true → ((rest_of w d).effect key).fits (w.holds key) ≡ true
  fits_here key is = by_taken (bool_cases (w.taken d.inv key)) (bool_cases (a.concerns key))
    where
      found : w.taken d.inv key ≡ false → a.concerns key ≡ true → v.found d.inv key ≡ w.holds key
      found untaken there =
          let next_taken : next.taken d.inv key ≡ true = sym (at.same.taken d.inv key is) ∙ taken_there key is there in
          let past_untaken : past.taken a.inv key ≡ false =
          sym (at.here.taken a.inv key is) ∙ subst (λ (n : ℕ). w.taken n key ≡ false) at.later.inv untaken in
          at.same.found d.inv key is next_taken ∙ ap (λ (n : ℕ). next.found n key) at.later.inv
          ∙ at.after.found key is past_untaken there ∙ sym (at.here.holds key is)

      by_taken : (w.taken d.inv key ≡ true) ⊎ (w.taken d.inv key ≡ false) → (a.concerns key ≡ true) ⊎ (a.concerns key ≡ false)
          → (cond (w.taken d.inv key) no_effect (d.effect key)).fits (w.holds key) ≡ true
      by_taken (inl taken) some = rw taken refl
      by_taken (inr untaken) (inl there) =
          rw untaken (subst (λ (o : Option ℕ). (d.effect key).fits o ≡ true) (found untaken there)
          ((agreed d at.in_more).fits key (taken_there key is there)))
      by_taken (inr untaken) (inr out) =
          rw untaken (((formed d at.in_more).elsewhere key (at.later.concerns key ∙ out)).fits (w.holds key))

  pub holds_here : (key : ℕ) → keys key ≡ true → v.holds key ≡ ((rest_of w d).effect key).leaves (w.holds key)
  holds_here key is = at.same.holds key is ∙ rest_leaves keys place calls more past next w a d is_taken key is (fits_here key is)

  -- nothing is left of the call by the first choice
  pub none_back : (key : ℕ) → IsNoEffect ((rest_of v d).effect key)
  none_back key = subst (λ (z : KeyedCall). IsNoEffect (z.effect key)) (rest_back d) (by_key (bool_cases (keys key)))
    where
      by_key : (keys key ≡ true) ⊎ (keys key ≡ false) → IsNoEffect ((masked_by (taken_by keys a) (rest_of w d)).effect key)
      by_key (inl is) = taken_none keys place calls more past next w a d is_taken key is
      by_key (inr out) = none_or (taken_by keys a d.inv key) ((rest_of w d).effect key) (none_elsewhere key out)

  other_name : (inv : ℕ) → inv ≢ a.inv → (inv == a.inv) ≡ false
  other_name inv other = false_from_ne_true (inv == a.inv) (λ is. other (eqb-true inv a.inv is))

  -- both choices leave the same of another call
  pub rest_other : (e : KeyedCall) → e.inv ≢ a.inv → rest_of w e ≡ rest_of v e
  rest_other e other = sym (masked_same (taken_by keys a) (rest_of w e) (λ key. none key)) ∙ rest_back e
    where
      none : (key : ℕ) → (keys key && ((e.inv == a.inv) && a.concerns key)) ≡ false
      none key = by_key (bool_cases (keys key))
        where
          by_key : (keys key ≡ true) ⊎ (keys key ≡ false) → (keys key && ((e.inv == a.inv) && a.concerns key)) ≡ false
          by_key (inl is) = rw (is, other_name e.inv other) refl
          by_key (inr is) = rw is refl

  -- the second choice agrees with all calls
  pub agrees_back : (e : KeyedCall) → Contains more e → Agrees w e
  agrees_back e e_in = record {
    accepted = λ key taken. (agreed e e_in).accepted key (still key taken);
    fits = λ key taken. subst (λ (o : Option ℕ). (e.effect key).fits o ≡ true) (found key taken (bool_cases (keys key)))
        ((agreed e e_in).fits key (still key taken));
  }
    where
      still : (key : ℕ) → w.taken e.inv key ≡ true → v.taken e.inv key ≡ true
      still key taken = taken_back e.inv key ∙ or_left (w.taken e.inv key) (taken_by keys a e.inv key) taken

      found : (key : ℕ) → w.taken e.inv key ≡ true → (keys key ≡ true) ⊎ (keys key ≡ false) → v.found e.inv key ≡ w.found e.inv key
      found key taken (inl is) =
          let past_taken : past.taken e.inv key ≡ true = sym (at.here.taken e.inv key is) ∙ taken in
          at.same.found e.inv key is (sym (at.same.taken e.inv key is) ∙ still key taken)
          ∙ at.after.found_before e.inv key is past_taken ∙ sym (at.here.found e.inv key is past_taken)
      found key taken (inr is) = sym (at.there.found e.inv key (not_from_false (keys key) is) (still key taken))

  -- what began before the call has no effect at the keys, or has effects only there, and does not precede the call
  pub early_cases : (e : KeyedCall) → Contains more e → e.inv < a.inv → IsApartFrom keys (rest_of w e) ⊎ IsOpenWithin keys a.inv (rest_of w e)
  early_cases e e_in begun = by_come (at.grown.come e e_in)
    where
      apart : IsOutside keys (rest_of w e) → IsApartFrom keys (rest_of w e)
      apart outside key is = outside_none keys w e (formed e e_in) outside key is

      ended : (c : KeyedCall) → Contains calls c → IsLater place c e → ends_before e.res a.inv ≡ true → IsApartFrom keys (rest_of w e)
      ended c c_in later is =
          let one : e ≡ c = ⊎_elim (λ same. same) (λ answered. absurd (never answered.later)) later.response in
          ⊎_elim
          (λ refused. λ key key_in. refused_none w e (formed e e_in) (subst (λ (z : KeyedCall). z.refused ≡ true) (sym one) refused) key)
          (λ none. apart (subst (λ (z : KeyedCall). IsOutside keys (rest_of w z)) (sym one) (none_outside keys past w c at.here none)))
          (at.may.first c c_in (subst (λ (z : KeyedCall). ends_before z.res a.inv ≡ true) one is))
        where
          never : ((res : ℕ) → e.res ≡ Some res → place ≤ res) → ⊥
          never after = by_res e.res refl is
            where
              by_res : (res : Option ℕ) → e.res ≡ res → ends_before res a.inv ≡ true → ⊥
              by_res None r_is before = cc
              by_res (Some r) r_is before =
                  let sooner : r < a.inv = ltb-true r a.inv before in
                  let behind : place ≤ r = after r r_is in
                  let less : a.inv < place = at.less in
                  omega (arith, sooner, behind, less)

      by_parts : (c : KeyedCall) → IsLater place c e → ends_before e.res a.inv ≡ false → IsWithin keys (rest_of w c) ⊎ IsOutside keys (rest_of w c)
          → IsApartFrom keys (rest_of w e) ⊎ IsOpenWithin keys a.inv (rest_of w e)
      by_parts c later open_there (inl within) =
          inr (λ key out. within_none keys w e (formed e e_in) (within_later keys place w c e later within) key out, open_there)
      by_parts c later open_there (inr outside) = inl (apart (outside_later keys place w c e later outside))

      by_old : (c : KeyedCall) → Contains calls c → IsLater place c e → (ends_before e.res a.inv ≡ true) ⊎ (ends_before e.res a.inv ≡ false)
          → (e.refused ≡ true) ⊎ (e.refused ≡ false) → IsApartFrom keys (rest_of w e) ⊎ IsOpenWithin keys a.inv (rest_of w e)
      by_old c c_in later (inl is) some = inl (ended c c_in later is)
      by_old c c_in later (inr is) (inl refused) = inl (λ key key_in. refused_none w e (formed e e_in) refused key)
      by_old c c_in later (inr is) (inr e_accepted) =
          let c_begun : c.inv < a.inv = subst (λ (n : ℕ). n < a.inv) later.inv begun in
          let begun_a : a.inv < limit = at.begun in
          by_parts c later is (at.parted c c_in (omega (arith, c_begun, begun_a)) (accepted_now place c e later e_accepted))

      by_come : ((c : KeyedCall) × Contains calls c × IsLater place c e) ⊎ (place ≤ e.inv)
          → IsApartFrom keys (rest_of w e) ⊎ IsOpenWithin keys a.inv (rest_of w e)
      by_come (inl old) = by_old old.0 old.1 old.2 (bool_cases (ends_before e.res a.inv)) (bool_cases e.refused)
      by_come (inr new) = let less : a.inv < place = at.less in absurd (omega (arith, begun, new, less))
