-- The first call of an order that has something left at some keys.
use Rattle.follow_laws.proofs.Common.{◌≡◌, ℕ, ◌<◌, ◌≤◌, Bool, true, false, not, ◌&&◌, cond, List, [], ◌∷◌, ◌++◌, map, Option, Some, None, inl, inr}
use Rattle.follow_laws.proofs.Common.{refl, sym, ap, subst, ⊎_elim, arith, ◌⊎◌, Contains, is_some, ltb-true, ltb-false, All-contains}
use Rattle.follow_laws.proofs.Common.{Contains-append_cases, Contains-map, Contains-from_map, AllPairs-head, AllPairs-tail, AllPairs-back}
use Rattle.follow_laws.proofs.Common.{Contains-nil, Contains-first, Contains-later, Contains-cases, KeyedCall, no_effect, IsNoEffect, IsFormed}
use Rattle.follow_laws.proofs.Common.{ends_before, precedes, is_completed, KeepPrecedence, IsKeyedOrder, IsLater, HaveGrown, Choice, rest_of, Keys}
use Rattle.follow_laws.proofs.Common.{IsOutside, IsAt, IsLeftAt, NoneIsLeftAt, AreKnownAt, MayComeNext}
use Rattle.follow_laws.proofs.CutLemmas.{outside_none}
use Rattle.follow_laws.proofs.DeadLemmas.{bool_cases, response_of}
use Rattle.follow_laws.proofs.EffectRestLemmas.{refused_none, later_stands}
use Rattle.follow_laws.proofs.OrderLemmas.{same_call, ends_at}

-- the first of one kind, if each up to some call is of that kind or of another
pub find_first : (P Q : KeyedCall → Type 0) (xs : List KeyedCall) (e : KeyedCall) → Contains xs e → KeepPrecedence xs → precedes e e ≡ false
    → (Q e → ⊥) → ((x : KeyedCall) → Contains xs x → precedes e x ≡ false → P x ⊎ Q x)
    → (front : List KeyedCall) × (x : KeyedCall) × (back : List KeyedCall) × (xs ≡ front ++ x ∷ back) × P x
    × ((y : KeyedCall) → Contains front y → Q y)
find_first P Q [] e e_in keep alone never each = absurd (Contains-nil e e_in)
find_first P Q (x ∷ xs) e e_in keep alone never each =
    ⊎_elim
    (λ is. ([], x, xs, refl, is, λ y y_in. absurd (Contains-nil y y_in)))
    (λ out. ⊎_elim
    (λ same. absurd (never (subst Q same out)))
    (λ later.
    let (front, z, back, parts, is, outs) = find_first P Q xs e later (AllPairs-tail (λ y z. precedes z y ≡ false) x xs keep) alone never
    (λ y y_in. each y (Contains-later x xs y y_in)) in (
      x ∷ front,
      z,
      back,
      ap (λ (ys : List KeyedCall). x ∷ ys) parts,
      is,
      λ y y_in. ⊎_elim (λ first. subst Q first out) (λ further. outs y further) (Contains-cases x front y y_in),
    ))
    (Contains-cases x xs e e_in))
    (each x (Contains-first x xs) (before (Contains-cases x xs e e_in)))
  where
    before : (x ≡ e) ⊎ Contains xs e → precedes e x ≡ false
    before (inl same) = subst (λ (z : KeyedCall). precedes e z ≡ false) (sym same) alone
    before (inr later) = All-contains (λ y. precedes y x ≡ false) xs e (AllPairs-head (λ y z. precedes z y ≡ false) x xs keep) later

-- if nothing of a call is left at some keys, a choice that is the same there leaves nothing
pub none_outside : (keys : Keys) (past w : Choice) (d : KeyedCall) → IsAt keys past w → NoneIsLeftAt keys past d → IsOutside keys (rest_of w d)
none_outside keys past w d same none key is =
    subst (λ (t : Bool). (not t && d.concerns key) ≡ false) (sym (same.taken d.inv key is)) (none key is)

-- what is left of a call now is left of it later
pub left_later : (keys : Keys) (place : ℕ) (past : Choice) (a d : KeyedCall) → IsLater place a d → NoneIsLeftAt keys past a → NoneIsLeftAt keys past d
left_later keys place past a d later none key is =
    subst (λ (name : ℕ). (not (past.taken name key) && d.concerns key) ≡ false) (sym later.inv)
    (subst (λ (c : Bool). (not (past.taken a.inv key) && c) ≡ false) (sym (later.concerns key)) (none key is))

-- a call that another does not precede began before any place before which that other ended
pub begun_before : (res : Option ℕ) (inv limit : ℕ) → ends_before res limit ≡ true → ends_before res inv ≡ false → inv < limit
begun_before None inv limit ended open_there = cc
begun_before (Some res) inv limit ended open_there =
    let before : res < limit = ltb-true res limit ended in let after : inv ≤ res = ltb-false res inv open_there in omega arith

pub ends_completed : (res : Option ℕ) (at : ℕ) → ends_before res at ≡ true → is_some res ≡ true
ends_completed None at never = cc
ends_completed (Some r) at before = refl

pub accepted_now : (place : ℕ) (a d : KeyedCall) → IsLater place a d → d.refused ≡ false → a.refused ≡ false
accepted_now place a d later accepted =
    ⊎_elim (λ same. subst (λ (c : KeyedCall). c.refused ≡ false) same accepted) (λ answered. answered.accepted) later.response

-- a call that is completed is the same later
pub completed_stays : (place : ℕ) (calls more : List KeyedCall) (b : KeyedCall) → HaveGrown place calls more → Contains calls b
    → is_completed b ≡ true → Contains more b
completed_stays place calls more b grown b_in completed =
    let (d, d_in, later) = grown.stay b b_in in
    let same : d ≡ b = ⊎_elim (λ is. is) (λ answered. let never : is_completed b ≡ false = answered.pending in cc) later.response in
    subst (λ (c : KeyedCall). Contains more c) same d_in

pub ended_stays : (place : ℕ) (calls more : List KeyedCall) (b : KeyedCall) (at : ℕ) → HaveGrown place calls more → Contains calls b
    → ends_before b.res at ≡ true → Contains more b
ended_stays place calls more b at grown b_in ended = completed_stays place calls more b grown b_in (ends_completed b.res at ended)

-- All that is known of an order, of a choice that is `past` at some keys, and of a call that is left there and ended.
pub record AtEnded (keys : Keys) (place limit : ℕ) (calls more order : List KeyedCall) (past w : Choice) (ended : KeyedCall) : Type 0 where
  pub ended_in : Contains calls ended
  pub ended_before : ends_before ended.res limit ≡ true
  pub accepted : ended.refused ≡ false
  pub is_left : IsLeftAt keys past ended
  pub known : AreKnownAt keys limit past calls
  pub same : IsAt keys past w
  pub grown : HaveGrown place calls more
  pub is : IsKeyedOrder w.holds (map (rest_of w) more) order

-- a call of the order is left at the keys; or it was refused, or nothing of it is left there
abbrev pub IsLeft : Keys → ℕ → List KeyedCall → List KeyedCall → Choice → Choice → KeyedCall → Type 0
IsLeft keys place calls more past w x =
    (a : KeyedCall) × (d : KeyedCall) × Contains calls a × Contains more d × IsLater place a d × (x ≡ rest_of w d) × (d.refused ≡ false)
    × IsLeftAt keys past a

abbrev pub IsNotLeft : Keys → List KeyedCall → Choice → Choice → KeyedCall → Type 0
IsNotLeft keys more past w x = (d : KeyedCall) × Contains more d × (x ≡ rest_of w d) × ((d.refused ≡ true) ⊎ NoneIsLeftAt keys past d)

module _ (keys : Keys) (place limit : ℕ) (calls more order : List KeyedCall) (past w : Choice) (ended : KeyedCall)
    (at : AtEnded keys place limit calls more order past w ended) where
  left_cases : (x : KeyedCall) → Contains order x → precedes (rest_of w ended) x ≡ false
      → IsLeft keys place calls more past w x ⊎ IsNotLeft keys more past w x
  left_cases x x_in open_there =
      let (d, d_in, d_is) = Contains-from_map (rest_of w) more x (at.is.known x x_in) in
      let d_begun : d.inv < limit = begun_before ended.res d.inv limit at.ended_before
      (subst (λ (z : KeyedCall). ends_before ended.res z.inv ≡ false) (sym d_is) open_there) in
      by_refusal d d_in (sym d_is) d_begun (not_new d (subst (λ (z : KeyedCall). ends_before ended.res z.inv ≡ false) (sym d_is) open_there))
      (bool_cases d.refused) (at.grown.come d d_in)
    where
      not_new : (d : KeyedCall) → ends_before ended.res d.inv ≡ false → d.inv < place
      not_new d open_at =
          let (res, is) = response_of ended (ends_completed ended.res limit at.ended_before) in
          begun_before ended.res d.inv place (ends_at ended.res res place is (at.grown.ended ended res at.ended_in is)) open_at

      by_refusal : (d : KeyedCall) → Contains more d → x ≡ rest_of w d → d.inv < limit → d.inv < place → (d.refused ≡ true) ⊎ (d.refused ≡ false)
          → ((a : KeyedCall) × Contains calls a × IsLater place a d) ⊎ (place ≤ d.inv)
          → IsLeft keys place calls more past w x ⊎ IsNotLeft keys more past w x
      by_refusal d d_in d_is begun old_one (inl refused) come = inr (d, d_in, d_is, inl refused)
      by_refusal d d_in d_is begun old_one (inr accepted) (inr new) = absurd (omega (arith, old_one, new))
      by_refusal d d_in d_is begun old_one (inr accepted) (inl old) =
          ⊎_elim
          (λ left. inl (old.0, d, old.1, d_in, old.2, d_is, accepted, left))
          (λ none. inr (d, d_in, d_is, inr (left_later keys place past old.0 d old.2 none)))
          (at.known old.0 old.1 (subst (λ (n : ℕ). n < limit) old.2.inv begun) (accepted_now place old.0 d old.2 accepted))

  pub not_left_none : (x : KeyedCall) → IsNotLeft keys more past w x → (key : ℕ) → keys key ≡ true → IsNoEffect (x.effect key)
  not_left_none x (d, d_in, d_is, why) key is =
      subst (λ (z : KeyedCall). IsNoEffect (z.effect key)) (sym d_is)
      (⊎_elim (λ refused. refused_none w d (All-contains IsFormed more d at.grown.formed d_in) refused key)
      (λ none. outside_none keys w d (All-contains IsFormed more d at.grown.formed d_in) (none_outside keys past w d at.same none) key is)
      why)

  -- the call of this name in the order
  not_left_call : (b : KeyedCall) → Contains more b → IsNotLeft keys more past w (rest_of w b) → (b.refused ≡ true) ⊎ NoneIsLeftAt keys past b
  not_left_call b b_in (d, d_in, d_is, why) =
      let one : d ≡ b = same_call more d b at.grown.apart.distinct d_in b_in (ap (λ (z : KeyedCall). z.inv) (sym d_is)) in
      subst (λ (z : KeyedCall). (z.refused ≡ true) ⊎ NoneIsLeftAt keys past z) one why

  not_ended : IsNotLeft keys more past w (rest_of w ended) → ⊥
  not_ended not_left =
      ⊎_elim
      (λ refused. let never : ended.refused ≡ false = at.accepted in cc)
      (λ none. let never : (not (past.taken ended.inv at.is_left.0) && ended.concerns at.is_left.0) ≡ false = none at.is_left.0 at.is_left.1 in
      let left : (not (past.taken ended.inv at.is_left.0) && ended.concerns at.is_left.0) ≡ true = at.is_left.2 in cc)
      (not_left_call ended (ended_stays place calls more ended limit at.grown at.ended_in at.ended_before) not_left)

  pub first_left : (front : List KeyedCall) × (x : KeyedCall) × (back : List KeyedCall) × (order ≡ front ++ x ∷ back)
      × IsLeft keys place calls more past w x × ((y : KeyedCall) → Contains front y → IsNotLeft keys more past w y)
  first_left =
      let in_more : Contains more ended = ended_stays place calls more ended limit at.grown at.ended_in at.ended_before in
      find_first (IsLeft keys place calls more past w) (IsNotLeft keys more past w) order (rest_of w ended)
      (at.is.complete (rest_of w ended) (Contains-map (rest_of w) more ended in_more) (ends_completed ended.res limit at.ended_before))
      at.is.precedence (All-contains (λ c. precedes c c ≡ false) more ended at.grown.apart.last in_more) not_ended left_cases

  module _ (front back : List KeyedCall) (a d : KeyedCall) (parts : order ≡ front ++ rest_of w d ∷ back) (a_in : Contains calls a)
      (d_in : Contains more d) (later : IsLater place a d) (accepted : d.refused ≡ false) (is_left : IsLeftAt keys past a)
      (passed : (y : KeyedCall) → Contains front y → IsNotLeft keys more past w y) where
    -- what precedes it comes before it
    precedes_first : (b : KeyedCall) → Contains calls b → precedes b a ≡ true → (b.refused ≡ true) ⊎ NoneIsLeftAt keys past b
    precedes_first b b_in before =
        let in_more : Contains more b = ended_stays place calls more b a.inv at.grown b_in before in
        let in_order : Contains (front ++ rest_of w d ∷ back) (rest_of w b) = subst (λ (xs : List KeyedCall). Contains xs (rest_of w b)) parts
        (at.is.complete (rest_of w b) (Contains-map (rest_of w) more b in_more) (ends_completed b.res a.inv before)) in
        let before_d : precedes b d ≡ true = subst (λ (n : ℕ). ends_before b.res n ≡ true) (sym later.inv) before in
        ⊎_elim
        (λ first. not_left_call b in_more (passed (rest_of w b) first))
        (λ second. ⊎_elim
        (λ same. let one : d ≡ b = same_call more d b at.grown.apart.distinct d_in in_more (ap (λ (z : KeyedCall). z.inv) same) in
        let itself : precedes d d ≡ true = subst (λ (z : KeyedCall). precedes z d ≡ true) (sym one) before_d in
        let never : precedes d d ≡ false = All-contains (λ c. precedes c c ≡ false) more d at.grown.apart.last d_in in cc)
        (λ later. let never : precedes b d ≡ false = All-contains (λ y. precedes y (rest_of w d) ≡ false) back (rest_of w b)
        (AllPairs-head (λ y z. precedes z y ≡ false) (rest_of w d) back
        (AllPairs-back (λ y z. precedes z y ≡ false) front (rest_of w d ∷ back)
        (subst (λ (xs : List KeyedCall). KeepPrecedence xs) parts at.is.precedence))) later in cc)
        (Contains-cases (rest_of w d) back (rest_of w b) second))
        (Contains-append_cases front (rest_of w d ∷ back) (rest_of w b) in_order)

    pub may_come : ((key : ℕ) → keys key ≡ true → ((rest_of w d).effect key).fits (w.holds key) ≡ true) → MayComeNext keys past calls a
    may_come fits = record {
      is_left = is_left;
      accepted = accepted_now place a d later accepted;
      fits = λ key is.
          let stands = later_stands place w a d later accepted in
          subst (λ (t : Bool). (cond t no_effect (a.effect key)).fits (past.holds key) ≡ true) (at.same.taken a.inv key is)
          (subst (λ (v : Option ℕ). (cond (w.taken a.inv key) no_effect (a.effect key)).fits v ≡ true) (at.same.holds key is)
          (stands.fits key (w.holds key) (fits key is)));
      first = precedes_first;
    }
