-- Beginnings of the bytes of a key.
use Rattle.art_schedules.proofs.Common.{◌≡◌, ℕ, zero, suc, ◌+◌, ◌<◌, ◌≤◌, Bool, true, false, List, [], ◌∷◌, ◌++◌, length, take}
use Rattle.art_schedules.proofs.Common.{refl, sym, ap, ap₂, ◌∙◌, subst, arith, eq-eqb, ⊎_elim, cases_lt, none-some}
use Rattle.art_schedules.proofs.Common.{same_Some, first_difference}
use Rattle.std.proofs.Common.{Option, option_map, ◌==◌, slice_index, Some, None, if◌then◌else◌}
use Rattle.std.specs.Prelude.{◌⊎◌, ◌≢◌}
use Rattle.std.proofs.lemmas.Bool.Decides.{eqb_tells}

tails : (x y : ℕ) (xs ys : List ℕ) → x ∷ xs ≡ y ∷ ys → xs ≡ ys
tails x y xs ys h = cc

heads : (x y : ℕ) (xs ys : List ℕ) → x ∷ xs ≡ y ∷ ys → x ≡ y
heads x y xs ys h = cc

last_of : (bytes path : List ℕ) (x : ℕ) → length path < length bytes → take (suc (length path)) bytes ≡ path ++ x ∷ []
    → (path ≡ take (length path) bytes) × (x ≡ slice_index bytes (length path))
last_of [] path x low h = absurd (omega arith)
last_of (b ∷ bytes) [] x low h = (refl, sym (heads b x [] [] h))
last_of (b ∷ bytes) (p ∷ path) x low h =
    let first = heads b p (take (suc (length path)) bytes) (path ++ x ∷ []) h in
    let (rest, last) = last_of bytes path x (omega arith) (tails b p (take (suc (length path)) bytes) (path ++ x ∷ []) h) in
    (ap (λ z. z ∷ path) (sym first) ∙ ap (λ zs. b ∷ zs) rest, last)

-- a path and a byte that begin a list of bytes
pub path_and_byte : (bytes path : List ℕ) (level x : ℕ) → length path ≡ level → level < length bytes
    → take (level + 1) bytes ≡ path ++ x ∷ []
    → (path ≡ take level bytes) × (x ≡ slice_index bytes level)
path_and_byte bytes path level x long low h =
    subst (λ n. (path ≡ take n bytes) × (x ≡ slice_index bytes n)) long
    (last_of bytes path x (omega (arith, long, low)) (ap (λ n. take n bytes) more ∙ h))
  where
    more : suc (length path) ≡ level + 1
    more = omega (arith, long)

pub next_of : (level : ℕ) (bytes : List ℕ) → level < length bytes
    → take (suc level) bytes ≡ take level bytes ++ slice_index bytes level ∷ []
next_of level [] low = absurd (omega arith)
next_of zero (b ∷ bytes) low = refl
next_of (suc level) (b ∷ bytes) low = ap (λ zs. b ∷ zs) (next_of level bytes (omega arith))

-- the beginning that is one byte longer
pub one_more : (level : ℕ) (bytes : List ℕ) → level < length bytes
    → take (level + 1) bytes ≡ take level bytes ++ slice_index bytes level ∷ []
one_more level bytes low = ap (λ n. take n bytes) more ∙ next_of level bytes low
  where
    more : level + 1 ≡ suc level
    more = omega arith

-- a beginning of a longer one
pub take_less : (n m : ℕ) (bytes : List ℕ) → n ≤ m → take n (take m bytes) ≡ take n bytes
take_less zero m bytes h = refl
take_less (suc n) zero bytes h = absurd (omega arith)
take_less (suc n) (suc m) [] h = refl
take_less (suc n) (suc m) (b ∷ bytes) h = ap (λ zs. b ∷ zs) (take_less n m bytes (omega arith))

-- the same byte of a longer beginning
pub byte_less : (n m : ℕ) (bytes : List ℕ) → n < m → slice_index (take m bytes) n ≡ slice_index bytes n
byte_less n zero bytes h = absurd (omega arith)
byte_less n (suc m) [] h = refl
byte_less zero (suc m) (b ∷ bytes) h = refl
byte_less (suc n) (suc m) (b ∷ bytes) h = byte_less n m bytes (omega arith)

-- a beginning differs nowhere
pub never_differs : (n : ℕ) (bytes : List ℕ) → first_difference (take n bytes) bytes ≡ None
never_differs zero bytes = refl
never_differs (suc n) [] = refl
never_differs (suc n) (b ∷ bytes) =
    ap (λ t. if t then option_map (λ d. d + 1) (first_difference (take n bytes) bytes) else Some 0) (eq-eqb b b refl)
    ∙ ap (λ o. option_map (λ d. d + 1) o) (never_differs n bytes)

-- a list that differs from the bytes is no beginning of them
pub begins_not : (n d : ℕ) (xs bytes : List ℕ) → xs ≡ take n bytes → first_difference xs bytes ≡ Some d → ⊥
begins_not n d xs bytes begins h =
    none-some d (sym (never_differs n bytes) ∙ (ap (λ zs. first_difference zs bytes) (sym begins) ∙ h))

-- the lists are the same before the place, and differ there
pub record PartsAt (xs ys : List ℕ) (d : ℕ) : Type 0 where
  pub first : d < length xs
  pub second : d < length ys
  pub before : take d xs ≡ take d ys
  pub apart : slice_index xs d ≢ slice_index ys d

pub parts_at : (xs ys : List ℕ) (d : ℕ) → first_difference xs ys ≡ Some d → PartsAt xs ys d
parts_at [] ys d h = absurd (none-some d h)
parts_at (x ∷ xs) [] d h = absurd (none-some d h)
parts_at (x ∷ xs) (y ∷ ys) d h = go (x == y) refl (λ k is. parts_at xs ys k is) h
  where
    later : (o : Option ℕ) → ((k : ℕ) → o ≡ Some k → PartsAt xs ys k) → x ≡ y → option_map (λ k. k + 1) o ≡ Some d
        → PartsAt (x ∷ xs) (y ∷ ys) d
    later None rest same e = absurd (none-some d e)
    later (Some k) rest same e = subst (λ n. PartsAt (x ∷ xs) (y ∷ ys) n) at (record {
      first = omega (arith, (rest k refl).first);
      second = omega (arith, (rest k refl).second);
      before = ap (λ z. z ∷ take k xs) same ∙ ap (λ zs. y ∷ zs) (rest k refl).before;
      apart = (rest k refl).apart;
    })
      where
        at : suc k ≡ d
        at = omega (arith, same_Some (k + 1) d e)

    go : (b : Bool) → (x == y) ≡ b → ((k : ℕ) → first_difference xs ys ≡ Some k → PartsAt xs ys k)
        → (if b then option_map (λ k. k + 1) (first_difference xs ys) else Some 0) ≡ Some d → PartsAt (x ∷ xs) (y ∷ ys) d
    go true is rest e = later (first_difference xs ys) rest (equal (eqb_tells x y)) e
      where
        equal : ((x == y) ≡ true) × (x ≡ y) ⊎ ((x == y) ≡ false) × (x ≢ y) → x ≡ y
        equal t = grind (arith, is)
    go false is rest e = subst (λ n. PartsAt (x ∷ xs) (y ∷ ys) n) (same_Some 0 d e) (record {
      first = omega arith;
      second = omega arith;
      before = refl;
      apart = λ same. grind (arith, is, eq-eqb x y same);
    })

-- lists that begin alike part after that
pub deeper : (xs ys : List ℕ) (level d : ℕ) → PartsAt xs ys d → take (level + 1) xs ≡ take (level + 1) ys → level < d
deeper xs ys level d parts alike = ⊎_elim
    (λ low. absurd (parts.apart (sym (byte_less d (level + 1) xs low) ∙ (ap (λ zs. slice_index zs d) alike ∙ byte_less d
    (level + 1) ys low))))
    (λ high. omega (arith, high)) (cases_lt d (level + 1))

-- the byte at which they part, after what they have alike
pub parted_byte : (xs ys : List ℕ) (d a : ℕ) → PartsAt xs ys d → a ≡ slice_index xs d → take (d + 1) xs ≡ take d ys ++ a ∷ []
parted_byte xs ys d a parts byte = one_more d xs parts.first ∙ ap₂ (λ zs z. zs ++ z ∷ []) parts.before (sym byte)
