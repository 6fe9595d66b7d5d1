-- Lists of things that have keys: one of the lists becomes another (`things_put`, `things_out`, `listed_then`).
use Rattle.std.proofs.Common.{◌≡◌, ℕ, suc, ◌<◌, List, [], ◌∷◌, ◌++◌, length, get_or, take, drop, sym, ap, ◌∙◌, subst, arith, add-one, ⊎_elim}
use Rattle.std.proofs.Math.ListN.{length-set, set}
use Rattle.std.proofs.lemmas.List.{append_assoc, get_or-set_other, get_or-set_same, set_split}
use Rattle.std.proofs.lemmas.Bool.{cases_eq}
use Rattle.std.proofs.lemmas.List.Concat.{flat_map-append}
use Rattle.std.specs.Prelude.{Vec, All, Contains}
use Rattle.std.specs.Global.{Global}
use Rattle.events.proofs.Places.{parts_at}
use Rattle.std.proofs.Common.{refl}
use Rattle.follow_pasts.proofs.Common.{All-head, All-tail, All-nil, Contains-append_cases, Contains-nil}
use Rattle.follow_pasts.specs.Lists.{AreListed, IsPut, list_count, things_of}

module _ {A : Type 0} (front : List (Vec A Global)) (old new : Vec A Global) (back : List (Vec A Global)) where
  pub things_around : (list : Vec A Global) → things_of (front ++ list ∷ back) ≡ things_of front ++ (list.items ++ things_of back)
  things_around list = flat_map-append (λ (l : Vec A Global). l.items) front (list ∷ back)

  -- a list has one thing more at its end
  pub things_put : (one : A) → new.items ≡ old.items ++ one ∷ [] → IsPut one (things_of (front ++ old ∷ back)) (things_of (front ++ new ∷ back))
  things_put one is = record {
    front = things_of front ++ old.items;
    back = things_of back;
    before = things_around old ∙ sym (append_assoc (things_of front) old.items (things_of back));
    after = things_around new
        ∙ (ap (λ (l : List A). things_of front ++ (l ++ things_of back)) is
        ∙ (ap (λ (l : List A). things_of front ++ l) (append_assoc old.items (one ∷ []) (things_of back))
        ∙ sym (append_assoc (things_of front) old.items (one ∷ things_of back))));
  }

  -- a thing was taken out of a list
  module _ (before after : List A) (one : A) where
    pub things_before : old.items ≡ before ++ one ∷ after
        → things_of (front ++ old ∷ back) ≡ (things_of front ++ before) ++ one ∷ (after ++ things_of back)
    things_before is = things_around old
        ∙ (ap (λ (l : List A). things_of front ++ (l ++ things_of back)) is
        ∙ (ap (λ (l : List A). things_of front ++ l) (append_assoc before (one ∷ after) (things_of back))
        ∙ sym (append_assoc (things_of front) before (one ∷ (after ++ things_of back)))))

    pub things_out : new.items ≡ before ++ after
        → things_of (front ++ new ∷ back) ≡ (things_of front ++ before) ++ (after ++ things_of back)
    things_out is = things_around new
        ∙ (ap (λ (l : List A). things_of front ++ (l ++ things_of back)) is
        ∙ (ap (λ (l : List A). things_of front ++ l) (append_assoc before after (things_of back))
        ∙ sym (append_assoc (things_of front) before (after ++ things_of back))))

module _ {A : Type 0} (place_of : A → ℕ) (lists : List (Vec A Global)) (listed : AreListed place_of lists) (place : ℕ) (old new : Vec A Global)
    (within : place < length lists) (here : old ≡ get_or lists place old) where
  pub was_around : lists ≡ take place lists ++ old ∷ drop (suc place) lists
  was_around = subst (λ (n : ℕ). lists ≡ take place lists ++ old ∷ drop n lists) (add-one place) (parts_at lists place old within here)

  pub then_around : set lists place new ≡ take place lists ++ new ∷ drop (suc place) lists
  then_around = set_split lists place new within

  pub of_old : All (λ (one : A). place_of one ≡ place) old.items
  of_old = subst (λ (l : Vec A Global). All (λ (one : A). place_of one ≡ place) l.items) (sym here) (listed.own place within old)

  abbrev AreOf : ℕ → Vec A Global → Type 0
  AreOf k list = All (λ (one : A). place_of one ≡ k) list.items

  pub listed_then : All (λ (one : A). place_of one ≡ place) new.items → AreListed place_of (set lists place new)
  listed_then all = record {
    count = length-set lists place new ∙ listed.count;
    own = λ k less d. ⊎_elim
        (λ (same : k ≡ place). subst (λ (n : ℕ). AreOf n (get_or (set lists place new) n d)) (sym same)
        (subst (λ (l : Vec A Global). AreOf place l) (sym (get_or-set_same lists place new d within)) all))
        (λ other. subst (λ (l : Vec A Global). AreOf k l) (sym (get_or-set_other lists place k new d other))
        (listed.own k (subst (λ (n : ℕ). k < n) (length-set lists place new) less) d))
        (cases_eq k place);
  }

-- ---- empty lists

module _ {A : Type 0} where
  pub empty_things : (lists : List (Vec A Global)) → All (λ list. list.items ≡ []) lists → things_of lists ≡ []
  empty_things [] all = refl
  empty_things (list ∷ lists) all = ap (λ (l : List A). l ++ things_of lists) (All-head (λ (l : Vec A Global). l.items ≡ []) list lists all)
      ∙ empty_things lists (All-tail (λ (l : Vec A Global). l.items ≡ []) list lists all)

  pub empty_listed : (place_of : A → ℕ) (lists : List (Vec A Global)) → length lists ≡ list_count → All (λ list. list.items ≡ []) lists
      → AreListed place_of lists
  empty_listed place_of lists count all = record {
    count = count;
    own = λ k less d. subst (λ (l : List A). All (λ (one : A). place_of one ≡ k) l) (sym (all k d less)) (All-nil (λ (one : A). place_of one ≡ k));
  }

  -- a thing of the lists is in one of them
  pub in_a_list : (lists : List (Vec A Global)) (one : A) → Contains (things_of lists) one
      → (k : ℕ) × (k < length lists) × ((d : Vec A Global) → Contains (get_or lists k d).items one)
  in_a_list [] one there = absurd (Contains-nil one there)
  in_a_list (list ∷ lists) one there = ⊎_elim
      (λ here. (0, omega arith, λ d. here))
      (λ later. let (k, less, at) = in_a_list lists one later in (suc k, omega (arith, less), λ d. at d))
      (Contains-append_cases list.items (things_of lists) one there)

  -- a list has one thing more at its end
  pub put_at : (lists : List (Vec A Global)) (place : ℕ) (old new : Vec A Global) (one : A) → place < length lists
      → old ≡ get_or lists place old → new.items ≡ old.items ++ one ∷ [] → IsPut one (things_of lists) (things_of (set lists place new))
  put_at lists place old new one within here is =
      subst (λ (l : List (Vec A Global)). IsPut one (things_of lists) (things_of l)) (sym (set_split lists place new within))
      (subst (λ (l : List (Vec A Global)). IsPut one (things_of l) (things_of (take place lists ++ new ∷ drop (suc place) lists)))
      (sym (subst (λ (n : ℕ). lists ≡ take place lists ++ old ∷ drop n lists) (add-one place) (parts_at lists place old within here)))
      (things_put (take place lists) old new (drop (suc place) lists) one is))
