-- A log grows by an event that is stamped higher than all others: so does the history.
use Rattle.events.proofs.Common.{◌≡◌, ℕ, zero, suc, ◌<◌, ◌≤◌, true, false, List, [], ◌∷◌, ◌++◌, map, arith, refl, sym, ap, ◌∙◌, append_assoc, subst}
use Rattle.events.proofs.Common.{nat_le, if◌then◌else◌, slice_get, slice_set, flat_map, le-leb, lt-leb, none-some, same_Some, Stamped, placed}
use Rattle.events.proofs.Common.{by_stamp, history_of_logs}
use Rattle.std.specs.Prelude.{Some}

-- each event is stamped lower
abbrev pub AreBelow : ℕ → List Stamped → Type 0
AreBelow k [] = Unit {0}
AreBelow k (e ∷ es) = (e.0 < k) × AreBelow k es

pub AreBelow-append : (k : ℕ) (es fs : List Stamped) → AreBelow k es → AreBelow k fs → AreBelow k (es ++ fs)
AreBelow-append k [] fs h g = g
AreBelow-append k (e ∷ es) fs h g = (h.0, AreBelow-append k es fs h.1 g)

pub AreBelow-front : (k : ℕ) (es fs : List Stamped) → AreBelow k (es ++ fs) → AreBelow k es
AreBelow-front k [] fs h = tt
AreBelow-front k (e ∷ es) fs h = (h.0, AreBelow-front k es fs h.1)

pub AreBelow-back : (k : ℕ) (es fs : List Stamped) → AreBelow k (es ++ fs) → AreBelow k fs
AreBelow-back k [] fs h = h
AreBelow-back k (e ∷ es) fs h = AreBelow-back k es fs h.1

AreBelow-more : (k m : ℕ) (es : List Stamped) → k ≤ m → AreBelow k es → AreBelow m es
AreBelow-more k m [] le h = tt
AreBelow-more k m (e ∷ es) le h = (let below = h.0 in omega arith, AreBelow-more k m es le h.1)

AreBelow-placed : (k : ℕ) (e : Stamped) (es : List Stamped) → e.0 < k → AreBelow k es → AreBelow k (placed e es)
AreBelow-placed k e [] h g = (h, tt)
AreBelow-placed k e (f ∷ fs) h g = elim (nat_le e.0 f.0) as (λ b. AreBelow k (if b then e ∷ f ∷ fs else f ∷ placed e fs)) [
  | true ↦ (h, g)
  | false ↦ (g.0, AreBelow-placed k e fs h g.1)
]

AreBelow-by_stamp : (k : ℕ) (es : List Stamped) → AreBelow k es → AreBelow k (by_stamp es)
AreBelow-by_stamp k [] h = tt
AreBelow-by_stamp k (e ∷ es) h = AreBelow-placed k e (by_stamp es) h.0 (AreBelow-by_stamp k es h.1)

placed-behind : (e : Stamped) (es : List Stamped) → AreBelow e.0 es → placed e es ≡ es ++ e ∷ []
placed-behind e [] h = refl
placed-behind e (f ∷ fs) h = let above : nat_le e.0 f.0 ≡ false = lt-leb e.0 f.0 h.0 in rw above (ap (λ l. f ∷ l) (placed-behind e fs h.1))

placed-before : (x e : Stamped) (es : List Stamped) → x.0 < e.0 → placed x (es ++ e ∷ []) ≡ placed x es ++ e ∷ []
placed-before x e [] h = let below : nat_le x.0 e.0 ≡ true = le-leb x.0 e.0 (omega arith) in rw below refl
placed-before x e (f ∷ fs) h = elim (nat_le x.0 f.0)
    as (λ b. (if b then x ∷ f ∷ (fs ++ e ∷ []) else f ∷ placed x (fs ++ e ∷ [])) ≡ (if b then x ∷ f ∷ fs else f ∷ placed x fs) ++ e ∷ []) [
      | true ↦ refl
      | false ↦ ap (λ l. f ∷ l) (placed-before x e fs h)
    ]

by_stamp-push : (front back : List Stamped) (e : Stamped) → AreBelow e.0 front → AreBelow e.0 back
    → by_stamp (front ++ e ∷ back) ≡ by_stamp (front ++ back) ++ e ∷ []
by_stamp-push [] back e h g = placed-behind e (by_stamp back) (AreBelow-by_stamp e.0 back g)
by_stamp-push (x ∷ xs) back e h g = ap (placed x) (by_stamp-push xs back e h.1 g) ∙ placed-before x e (by_stamp (xs ++ back)) h.0

-- all events of the logs, with one more in one of them
record Parts (logs : List (List Stamped)) (p : ℕ) (log : List Stamped) (e : Stamped) : Type 0 where
  front : List Stamped
  back : List Stamped
  old : flat_map (λ log. log) logs ≡ front ++ back
  new : flat_map (λ log. log) (slice_set logs p (log ++ e ∷ [])) ≡ front ++ e ∷ back

parts-at : (logs : List (List Stamped)) (p : ℕ) (log : List Stamped) (e : Stamped) → slice_get logs p ≡ Some log → Parts logs p log e
parts-at [] p log e h = absurd (none-some _ h)
parts-at (l ∷ ls) zero log e h = subst (λ log. Parts (l ∷ ls) zero log e) (same_Some _ _ h) (record {
  front = l;
  back = flat_map (λ log. log) ls;
  old = refl;
  new = append_assoc l (e ∷ []) (flat_map (λ log. log) ls);
})
parts-at (l ∷ ls) (suc p) log e h =
    let r = parts-at ls p log e h in
    record {
      front = l ++ r.front;
      back = r.back;
      old = ap (λ es. l ++ es) r.old ∙ sym (append_assoc l r.front r.back);
      new = ap (λ es. l ++ es) r.new ∙ sym (append_assoc l r.front (e ∷ r.back));
    }

module _ (logs : List (List Stamped)) (p : ℕ) (log : List Stamped) (e : Stamped) (here : slice_get logs p ≡ Some log)
    (below : AreBelow e.0 (flat_map (λ log. log) logs)) where
  -- the history has one event more, at its end
  pub history-push : history_of_logs (slice_set logs p (log ++ e ∷ [])) ≡ history_of_logs logs ++ e.1 ∷ []
  history-push =
      let r = parts-at logs p log e here in
      let b = subst (AreBelow e.0) r.old below in
      ap (λ es. map (λ e. e.1) (by_stamp es)) r.new
      ∙ (ap (map (λ e. e.1)) (by_stamp-push r.front r.back e (AreBelow-front e.0 r.front r.back b) (AreBelow-back e.0 r.front r.back b))
      ∙ (map-push (by_stamp (r.front ++ r.back)) ∙ sym (ap (λ es. map (λ e. e.1) (by_stamp es) ++ e.1 ∷ []) r.old)))
    where
      map-push : (es : List Stamped) → map (λ e. e.1) (es ++ e ∷ []) ≡ map (λ e. e.1) es ++ e.1 ∷ []
      map-push [] = refl
      map-push (f ∷ fs) = ap (λ l. f.1 ∷ l) (map-push fs)

  -- all are stamped below any greater number
  pub below-push : (k : ℕ) → e.0 < k → AreBelow k (flat_map (λ log. log) (slice_set logs p (log ++ e ∷ [])))
  below-push k h =
      let r = parts-at logs p log e here in
      let b = AreBelow-more e.0 k (r.front ++ r.back) (omega arith) (subst (AreBelow e.0) r.old below) in
      subst (AreBelow k) (sym r.new)
      (AreBelow-append k r.front (e ∷ r.back) (AreBelow-front k r.front r.back b) (h, AreBelow-back k r.front r.back b))
