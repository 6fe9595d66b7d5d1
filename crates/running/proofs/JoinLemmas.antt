-- What is known of the processes of groups that are joined.
use Rattle.running.proofs.Common.{◌≡◌, ℕ, ◌+◌, true, false, List, [], ◌∷◌, length, Ok, Err, sym, ap, subst, ◌∙◌, arith, Result, All, IfOk}
use Rattle.std.proofs.Common.{Some}
use Rattle.running.proofs.Common.{nat_lt, if◌then◌else◌, All-head, All-tail, All-cons, All-nil, same_Some, none-some, Call, Memory, Numbered, placed}
use Rattle.running.proofs.Common.{merge, Arena, shows, opened_for, HasDoneOwn, IsGroupAfter, gathered, joined}
use Rattle.running.specs.declared.group.Pass.{Pass}
use Rattle.running.proofs.GatherLemmas.{merge-length}

module _ (P : Numbered → Type 0) where
  all-placed : (x : Numbered) (xs : List Numbered) → P x → All P xs → All P (placed x xs)
  all-placed x [] h hs = All-cons P x [] h hs
  all-placed x (y ∷ ys) h hs = elim (nat_lt x.0 y.0) as (λ b. All P (if b then x ∷ y ∷ ys else y ∷ placed x ys)) [
    | true ↦ All-cons P x (y ∷ ys) h hs
    | false ↦ All-cons P y (placed x ys) (All-head P y ys hs) (all-placed x ys h (All-tail P y ys hs))
  ]

  all-merge : (xs ys : List Numbered) → All P xs → All P ys → All P (merge xs ys)
  all-merge xs [] h k = h
  all-merge xs (y ∷ ys) h k = all-placed y (merge xs ys) (All-head P y ys k) (all-merge xs ys h (All-tail P y ys k))

module _ (WasPassed : ℕ → Type 0) (a : Arena) (limit : ℕ) (scripts : List (List Call)) where
  abbrev After : Result Pass Memory → Type 0
  After d = IfOk d (IsGroupAfter WasPassed a limit scripts)

  abbrev Own : Numbered → Type 0
  Own = HasDoneOwn WasPassed (opened_for a) limit scripts

  own-group : (p : Pass) → IsGroupAfter WasPassed a limit scripts p → All Own (shows p).processes
  own-group p h = subst (All Own) (sym h.is) (All-cons Own h.process [] h.done (All-nil Own))

  -- each of them did its script, and there are as many as groups
  pub record AreDone (n : ℕ) (all : List Numbered) : Type 0 where
    pub done : All Own all
    pub many : length all ≡ n

  gathered-done : (done : List (Result Pass Memory)) (xs all : List Numbered) → All After done → All Own xs → gathered xs done ≡ Some all
      → AreDone (length xs + length done) all
  gathered-done [] xs all h own is =
      let same = same_Some xs all is in
      record { done = subst (All Own) same own; many = sym (ap (λ l. length l) same) ∙ omega arith }
  gathered-done (Ok p ∷ done) xs all h own is =
      let here = All-head After (Ok p) done h in
      let long = merge-length xs (shows p).processes in
      let one = ap (λ l. length l) here.is in
      let rest =
      gathered-done done (merge xs (shows p).processes) all (All-tail After (Ok p) done h)
      (all-merge Own xs (shows p).processes own (own-group p here)) is in
      record { done = rest.done; many = let m = rest.many in omega arith }
  gathered-done (Err e ∷ done) xs all h own is = absurd (none-some all is)

  pub joined-done : (done : List (Result Pass Memory)) (all : List Numbered) → All After done → joined done ≡ Some all
      → AreDone (length done) all
  joined-done [] all h is = absurd (none-some all is)
  joined-done (Ok p ∷ done) all h is =
      let here = All-head After (Ok p) done h in
      let one = ap (λ l. length l) here.is in
      let rest = gathered-done done (shows p).processes all (All-tail After (Ok p) done h) (own-group p here) is in
      record { done = rest.done; many = let m = rest.many in omega arith }
  joined-done (Err e ∷ done) all h is = absurd (none-some all is)
