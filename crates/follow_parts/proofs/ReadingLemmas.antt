-- Parts that a range meets are taken out of a list (`meeting_out`, `meeting_past`).
use Rattle.follow_parts.proofs.Common.{◌≡◌, ℕ, suc, ◌<◌, ◌≤◌, ◌+◌, false, List, [], ◌∷◌, ◌++◌, length, get_or, take, drop, inl, inr, refl, sym, ap}
use Rattle.follow_parts.proofs.Common.{◌∙◌, subst, append_assoc, add-one, length-append, arith, All, take_more, take_at, drop_more}
use Rattle.follow_parts.proofs.Common.{drop_at, length-take-le, All-push, covered, Part, AreParted}

parted_out : (done left out : List Part) (part : Part) → AreParted done left out → AreParted (done ++ part ∷ []) left (out ++ part ∷ [])
parted_out [] left out part is = inr ([], ap (λ (l : List Part). l ++ part ∷ []) is.1, (is.0, refl))
parted_out (first ∷ done) left out part (inl (more, same, is)) = inl (more, same, parted_out done more out part is)
parted_out (first ∷ done) left out part (inr (more, same, is)) =
    inr (more ++ part ∷ [], ap (λ (l : List Part). l ++ part ∷ []) same, parted_out done left more part is)

parted_left : (done left out : List Part) (part : Part) → AreParted done left out → AreParted (done ++ part ∷ []) (left ++ part ∷ []) out
parted_left [] left out part is = inl ([], ap (λ (l : List Part). l ++ part ∷ []) is.0, (refl, is.1))
parted_left (first ∷ done) left out part (inl (more, same, is)) =
    inl (more ++ part ∷ [], ap (λ (l : List Part). l ++ part ∷ []) same, parted_left done more out part is)
parted_left (first ∷ done) left out part (inr (more, same, is)) = inr (more, same, parted_left done left more part is)

abbrev pub HasNone : ℕ → ℕ → Part → Type 0
HasNone low high part = (key : ℕ) → low ≤ key → key ≤ high → covered part.ranges.items key ≡ false

-- of the parts that were looked at, those that the range meets were taken out, and the others are before the place
pub record AreMeeting (low high : ℕ) (olds parts met : List Part) (place : ℕ) : Type 0 where
  pub done : List Part
  pub all : olds ≡ done ++ drop place parts
  pub within : place ≤ length parts
  pub parted : AreParted done (take place parts) met
  pub others : All (HasNone low high) (take place parts)

pub meeting_out : (low high : ℕ) (olds parts met news more : List Part) (place : ℕ) (part : Part) → AreMeeting low high olds parts met place
    → place < length parts → part ≡ get_or parts place part → news ≡ take place parts ++ drop (suc place) parts
    → more ≡ met ++ part ∷ [] → AreMeeting low high olds news more place
meeting_out low high olds parts met news more place part so within at out pushed = record {
  done = so.done ++ part ∷ [];
  all = so.all
      ∙ (ap (λ (l : List Part). so.done ++ l) (drop_more parts place part within
      ∙ (ap (λ (p : Part). p ∷ drop (place + 1) parts) (sym at) ∙ ap (λ (n : ℕ). part ∷ drop n parts) (add-one place)
      ∙ ap (λ (l : List Part). part ∷ l) (sym dropped)))
      ∙ sym (append_assoc so.done (part ∷ []) (drop place news)));
  within = subst (λ (l : List Part). place ≤ length l) (sym out) (long (take place parts) (drop (suc place) parts) place
      (length-take-le place parts so.within));
  parted = subst (λ (l : List Part). AreParted (so.done ++ part ∷ []) l more) (sym taken)
      (subst (AreParted (so.done ++ part ∷ []) (take place parts)) (sym pushed) (parted_out so.done (take place parts) met part so.parted));
  others = subst (All (HasNone low high)) (sym taken) so.others;
}
  where
    taken : take place news ≡ take place parts
    taken = ap (take place) out ∙ take_at (take place parts) (drop (suc place) parts) place (length-take-le place parts so.within)

    dropped : drop place news ≡ drop (suc place) parts
    dropped = ap (drop place) out ∙ drop_at (take place parts) (drop (suc place) parts) place (length-take-le place parts so.within)

    long : (xs ys : List Part) (n : ℕ) → length xs ≡ n → n ≤ length (xs ++ ys)
    long xs ys n is = omega (arith, is, length-append xs ys)

pub meeting_past : (low high : ℕ) (olds parts met : List Part) (place : ℕ) (part : Part) → AreMeeting low high olds parts met place
    → place < length parts → part ≡ get_or parts place part → HasNone low high part → AreMeeting low high olds parts met (place + 1)
meeting_past low high olds parts met place part so within at none = record {
  done = so.done ++ part ∷ [];
  all = so.all
      ∙ (ap (λ (l : List Part). so.done ++ l) (drop_more parts place part within ∙ ap (λ (p : Part). p ∷ drop (place + 1) parts) (sym at))
      ∙ sym (append_assoc so.done (part ∷ []) (drop (place + 1) parts)));
  within = omega arith;
  parted = subst (λ (l : List Part). AreParted (so.done ++ part ∷ []) l met) (sym taken)
      (parted_left so.done (take place parts) met part so.parted);
  others = subst (All (HasNone low high)) (sym taken) (All-push (HasNone low high) (take place parts) part so.others none);
}
  where
    taken : take (place + 1) parts ≡ take place parts ++ part ∷ []
    taken = take_more parts place part within ∙ ap (λ (p : Part). take place parts ++ p ∷ []) (sym at)
