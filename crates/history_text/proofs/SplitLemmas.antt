-- Where a list of values that spell items one by one is split twice.
use Rattle.history_text.proofs.Common.{◌≡◌, List, [], ◌∷◌, ◌++◌, length, inl, inr, subst, refl, sym, ap, ◌⊎◌, Data, AreSpelled}

-- the list goes on with an item that this value spells, and more
pub record GoesOnWith {A : Type 0} (IsSpelled : Data → A → Type 0) (items before : List A) (d : Data) : Type 0 where
  pub item : A
  pub more : List A
  pub parts : items ≡ before ++ item ∷ more
  pub spelled : IsSpelled d item

-- two splits of a list of values: at one place, or one further on than the other
abbrev pub SplitsAlike : {A : Type 0} → (Data → A → Type 0) → List A → List A → Data → Data → Type 0
SplitsAlike IsSpelled before ahead next after = ((before ≡ ahead) × (next ≡ after))
    ⊎ (GoesOnWith IsSpelled before ahead after ⊎ GoesOnWith IsSpelled ahead before next)

module _ {A : Type 0} (IsSpelled : Data → A → Type 0) where
  -- there are as many values as items
  pub same_length : (ds : List Data) (xs : List A) → AreSpelled IsSpelled ds xs → length ds ≡ length xs
  same_length [] [] h = refl
  same_length [] (x ∷ xs) h = absurd h
  same_length (d ∷ ds) [] h = absurd h
  same_length (d ∷ ds) (x ∷ xs) h = let rest = same_length ds xs h.1 in cc

  -- one value more, and its item
  pub spelled_more : (ds : List Data) (xs : List A) (d : Data) (x : A) → AreSpelled IsSpelled ds xs → IsSpelled d x
      → AreSpelled IsSpelled (ds ++ d ∷ []) (xs ++ x ∷ [])
  spelled_more [] [] d x h last = (last, tt)
  spelled_more [] (y ∷ xs) d x h last = absurd h
  spelled_more (e ∷ ds) [] d x h last = absurd h
  spelled_more (e ∷ ds) (y ∷ xs) d x h last = (h.0, spelled_more ds xs d x h.1 last)

  -- the values go on so with one item more at their front
  goes_on : (x : A) (items before : List A) (d : Data) → GoesOnWith IsSpelled items before d → GoesOnWith IsSpelled (x ∷ items) (x ∷ before) d
  goes_on x items before d h = record { item = h.item; more = h.more; parts = ap (λ (xs : List A). x ∷ xs) h.parts; spelled = h.spelled }

  -- two splits are also two with one item more at the front
  splits_on : (x : A) (before ahead : List A) (next after : Data) → SplitsAlike IsSpelled before ahead next after
      → SplitsAlike IsSpelled (x ∷ before) (x ∷ ahead) next after
  splits_on x before ahead next after (inl h) = inl (ap (λ (xs : List A). x ∷ xs) h.0, h.1)
  splits_on x before ahead next after (inr (inl h)) = inr (inl (goes_on x before ahead after h))
  splits_on x before ahead next after (inr (inr h)) = inr (inr (goes_on x ahead before next h))

module _ {A : Type 0} (IsSpelled : Data → A → Type 0) (one : (d : Data) (x y : A) → IsSpelled d x → IsSpelled d y → x ≡ y) where
  -- values spell one list of items only, where a value spells one item only
  pub one_list : (ds : List Data) (xs ys : List A) → AreSpelled IsSpelled ds xs → AreSpelled IsSpelled ds ys → xs ≡ ys
  one_list [] [] [] a b = refl
  one_list [] [] (y ∷ ys) a b = absurd b
  one_list [] (x ∷ xs) ys a b = absurd a
  one_list (d ∷ ds) [] ys a b = absurd a
  one_list (d ∷ ds) (x ∷ xs) [] a b = absurd b
  one_list (d ∷ ds) (x ∷ xs) (y ∷ ys) a b =
      let head : x ≡ y = one d x y a.0 b.0 in
      let tail : xs ≡ ys = one_list ds xs ys a.1 b.1 in
      cc

  -- values that spell items as a whole spell one at each place
  pub item_at : (first : List Data) (before items : List A) (next : Data) (rest : List Data) → AreSpelled IsSpelled first before
      → AreSpelled IsSpelled (first ++ next ∷ rest) items → GoesOnWith IsSpelled items before next
  item_at [] [] [] next rest a b = absurd b
  item_at [] [] (x ∷ items) next rest a b = record { item = x; more = items; parts = refl; spelled = b.0 }
  item_at [] (y ∷ before) items next rest a b = absurd a
  item_at (d ∷ first) [] items next rest a b = absurd a
  item_at (d ∷ first) (y ∷ before) [] next rest a b = absurd b
  item_at (d ∷ first) (y ∷ before) (x ∷ items) next rest a b =
      let same : y ≡ x = one d y x a.0 b.0 in
      subst (λ (z : A). GoesOnWith IsSpelled (x ∷ items) (z ∷ before) next) (sym same)
      (goes_on IsSpelled x items before next (item_at first before items next rest a.1 b.1))

  -- two splits of one list are alike
  pub two_splits : (first : List Data) (before : List A) (other : List Data) (ahead : List A) (next after : Data) (rest more : List Data)
      → AreSpelled IsSpelled first before → AreSpelled IsSpelled other ahead → first ++ next ∷ rest ≡ other ++ after ∷ more
      → SplitsAlike IsSpelled before ahead next after
  two_splits [] [] [] [] next after rest more a b h = inl (refl, (cc))
  two_splits [] [] [] (x ∷ ahead) next after rest more a b h = absurd b
  two_splits [] [] (e ∷ other) [] next after rest more a b h = absurd b
  two_splits [] [] (e ∷ other) (x ∷ ahead) next after rest more a b h =
      let same : next ≡ e = cc in
      inr (inr (record { item = x; more = ahead; parts = refl; spelled = subst (λ (d : Data). IsSpelled d x) (sym same) b.0 }))
  two_splits [] (y ∷ before) other ahead next after rest more a b h = absurd a
  two_splits (d ∷ first) [] other ahead next after rest more a b h = absurd a
  two_splits (d ∷ first) (y ∷ before) [] [] next after rest more a b h =
      let same : after ≡ d = cc in
      inr (inl (record { item = y; more = before; parts = refl; spelled = subst (λ (e : Data). IsSpelled e y) (sym same) a.0 }))
  two_splits (d ∷ first) (y ∷ before) [] (x ∷ ahead) next after rest more a b h = absurd b
  two_splits (d ∷ first) (y ∷ before) (e ∷ other) [] next after rest more a b h = absurd b
  two_splits (d ∷ first) (y ∷ before) (e ∷ other) (x ∷ ahead) next after rest more a b h =
      let values : d ≡ e = cc in
      let same : y ≡ x = one e y x (subst (λ (v : Data). IsSpelled v y) values a.0) b.0 in
      subst (λ (z : A). SplitsAlike IsSpelled (z ∷ before) (x ∷ ahead) next after) (sym same)
      (splits_on IsSpelled x before ahead next after (two_splits first before other ahead next after rest more a.1 b.1 (cc)))
