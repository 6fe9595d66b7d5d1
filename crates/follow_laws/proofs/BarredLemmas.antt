-- A part takes a step at some of its keys, though calls that are left there have other keys of the part: they are barred there.
use Rattle.follow_laws.proofs.Common.{◌≡◌, ℕ, ◌+◌, ◌<◌, true, false, not, ◌&&◌, List, ◌∷◌, ◌++◌, Some, sym, ap, ◌∙◌, subst, ⊎_elim, arith, ◌⊎◌}
use Rattle.follow_laws.proofs.Common.{Contains, and_parts, and_from, not-true, not_from_false, All-head, All-contains, Contains-append_left}
use Rattle.follow_laws.proofs.Common.{Contains-append_right, Contains-append_cases, Contains-first, Contains-later, Contains-cases, KeyedCall}
use Rattle.follow_laws.proofs.Common.{IsFormed, ends_before, precedes, IsLater, HaveGrown, Choice, rest_of, GoesOn, Keys, IsWithin, Part, IsAt}
use Rattle.follow_laws.proofs.Common.{IsOneOf, ShareKeys, choices_of, left_at, IsLeftAt, NoneIsLeftAt, MayComeNext, IsAfterCall, AreKnownAt}
use Rattle.follow_laws.proofs.Common.{AreOwnOrBarred, UnbarredCallsComeNext}
use Rattle.follow_laws.proofs.CutLemmas.{outside_none}
use Rattle.follow_laws.proofs.DeadLemmas.{bool_cases}
use Rattle.follow_laws.proofs.EffectRestLemmas.{later_stands}
use Rattle.follow_laws.proofs.OrderLemmas.{ends_at, ends_sooner}
use Rattle.follow_laws.proofs.CallLemmas.{first_fits, first_goes_on, begun_first, goes_before}
use Rattle.follow_laws.proofs.FewerLemmas.{AreAmong, but_for, after_fewer, steps_forth, at_few}
use Rattle.follow_laws.proofs.FirstLemmas.{AtEnded, first_left, left_later, may_come}
use Rattle.follow_laws.proofs.PartLemmas.{at_fewer, instead, keys_shared, with_other, part_steps}

-- what is left of a call only at some of the keys is not left at the others
none_but : (keys some : Keys) (past : Choice) (a : KeyedCall) → IsWithin some (left_at keys past a) → NoneIsLeftAt (but_for some keys) past a
none_but keys some past a within key is =
    let (there, out) = and_parts (keys key) (not (some key)) is in
    let none : (keys key && (rest_of past a).concerns key) ≡ false = within key (not-true (some key) out) in
    rw there at none

-- All that is known of a part at some of whose keys calls are barred, and of the first that ended.
record AtFirst (keys some : Keys) (place answered : ℕ) (calls : List KeyedCall) (past : Choice) (nexts : List Choice) (ended : KeyedCall)
    : Type 0 where
  inside : AreAmong some keys
  ended_in : Contains calls ended
  ended_at : ended.res ≡ Some answered
  accepted : ended.refused ≡ false
  is_left : IsLeftAt some past ended
  first : (b : KeyedCall) → Contains calls b → ends_before b.res answered ≡ true → (b.refused ≡ true) ⊎ NoneIsLeftAt keys past b
  known : AreKnownAt some (answered + 1) past calls
  own : AreOwnOrBarred keys some (answered + 1) past calls
  come : (a : KeyedCall) → Contains calls a → IsLeftAt some past a → MayComeNext keys past calls a
      → (next : Choice) × Contains nexts next × IsAfterCall keys past a next

module _ (keys some : Keys) (place answered : ℕ) (calls : List KeyedCall) (past : Choice) (nexts : List Choice) (ended : KeyedCall)
    (at : AtFirst keys some place answered calls past nexts ended) where
  ended_before : ends_before ended.res (answered + 1) ≡ true
  ended_before = ends_at ended.res answered (answered + 1) at.ended_at (omega arith)

  -- what precedes a call that began before that answer is not left
  none_before : (a b : KeyedCall) → a.inv < answered + 1 → Contains calls b → precedes b a ≡ true → (b.refused ≡ true) ⊎ NoneIsLeftAt keys past b
  none_before a b begun b_in before = at.first b b_in (ends_sooner b.res a.inv answered (omega (arith, begun)) before)

  -- a call that may come next at some of the keys, and is not barred there, is left only there
  own_call : (a : KeyedCall) → Contains calls a → a.inv < answered + 1 → MayComeNext some past calls a → IsWithin some (left_at keys past a)
  own_call a a_in begun may =
      ⊎_elim
      (λ within. within)
      (λ barred.
      let (key, is, never) = barred in
      let fits : ((rest_of past a).effect key).fits (past.holds key) ≡ true = may.fits key is in cc)
      (at.own a a_in begun may.accepted may.is_left)

  -- the call may come next at all keys
  module _ (w : Choice) (a d : KeyedCall) (same : IsAt keys past w) (a_in : Contains calls a) (formed : IsFormed d) (later : IsLater place a d)
      (d_accepted : d.refused ≡ false) (begun : a.inv < answered + 1) (may : MayComeNext some past calls a) where
    fits_all : (key : ℕ) → keys key ≡ true → ((rest_of past a).effect key).fits (past.holds key) ≡ true
    fits_all key is = ⊎_elim
        (λ here. may.fits key here)
        (λ out.
        let none = outside_none (but_for some keys) past d formed
        (left_later (but_for some keys) place past a d later (none_but keys some past a (own_call a a_in begun may))) key (and_from (keys key) (not (some key)) is
        (not_from_false (some key) out)) in
        (later_stands place past a d later d_accepted).fits key (past.holds key) (none.fits (past.holds key)))
        (bool_cases (some key))

    may_all : MayComeNext keys past calls a
    may_all = record {
      is_left = (may.is_left.0, at.inside may.is_left.0 may.is_left.1, may.is_left.2);
      accepted = may.accepted;
      fits = fits_all;
      first = λ b b_in before. none_before a b begun b_in before;
    }

  -- the first call of an order that is left at some of the keys leads to one of the next choices
  comes : (more : List KeyedCall) (w : Choice) (pasts others : List Choice) (rest : List Part) → HaveGrown place calls more
      → ShareKeys (record { keys = keys; pasts = pasts } ∷ rest) → choices_of (record { keys = keys; pasts = pasts } ∷ rest) w → IsAt keys past w
      → GoesOn w more
      → (u : Choice) × choices_of (record { keys = keys; pasts = nexts ++ others } ∷ rest) u × GoesOn u more
  comes more w pasts others rest grown shared w_is same goes_on =
      let (front, x, back, parts, left, passed) = first_left some place (answered + 1) calls more goes_on.1.0 past w ended at_ended in
      let (a, d, a_in, d_in, later, x_is, accepted, is_left) = left in
      let whole : goes_on.1.0 ≡ front ++ rest_of w d ∷ back = parts ∙ ap (λ (z : KeyedCall). front ++ z ∷ back) x_is in
      let fits : (key : ℕ) → some key ≡ true → ((rest_of w d).effect key).fits (w.holds key) ≡ true =
      first_fits some place (answered + 1) calls more past w ended goes_on at_ended front back a d whole d_in later accepted passed in
      let may : MayComeNext some past calls a =
      may_come some place (answered + 1) calls more goes_on.1.0 past w ended at_ended front back a d whole a_in d_in later accepted is_left passed
      fits in
      let begun : a.inv < answered + 1 =
      begun_first some (answered + 1) calls past ended a at.ended_in ended_before at.accepted at.is_left may in
      let formed : IsFormed d = All-contains IsFormed more d grown.formed d_in in
      let (next, next_in, after) = at.come a a_in is_left (may_all w a d same a_in formed later accepted begun may) in (
        instead some next w,
        steps_forth keys some place past next a d (record {
          inside = at.inside;
          none = none_but keys some past a (own_call a a_in begun may);
          after = after;
          formed = formed;
          later = later;
          accepted = accepted;
        }) pasts (nexts ++ others) rest w shared w_is same (Contains-append_left nexts others next next_in),
        first_goes_on some place (answered + 1) calls more past w ended goes_on at_ended front back a d whole d_in later accepted passed next
            (after_fewer keys some past a next at.inside after),
      )
    where
      at_ended : AtEnded some place (answered + 1) calls more goes_on.1.0 past w ended
      at_ended = record {
        ended_in = at.ended_in;
        ended_before = ended_before;
        accepted = at.accepted;
        is_left = at.is_left;
        known = at.known;
        same = at_fewer keys some past w at.inside same;
        grown = grown;
        is = goes_on.1.1;
      }

pub unbarred_calls_come_next : UnbarredCallsComeNext
unbarred_calls_come_next
    held place answered calls keys some past others nexts rest ended inside ended_in ended_at accepted is_left first known parted own come reached
    stand =
    part_steps held place calls keys (past ∷ others) (nexts ++ others) rest
    (λ w more w_is grown goes_on.
    let (p, p_in, at_p) = All-head (λ part. IsOneOf part.keys part.pasts w) (record { keys = keys; pasts = past ∷ others }) rest w_is in
    ⊎_elim
    (λ same. comes keys some place answered calls past nexts ended at more w (past ∷ others) others rest grown stand.shared w_is
    (subst (λ (q : Choice). IsAt keys q w) (sym same) at_p) goes_on)
    (λ other. (w, with_other keys (past ∷ others) (nexts ++ others) rest w p w_is (Contains-append_right nexts others p other) at_p, goes_on))
    (Contains-cases past others p p_in))
    (λ v few more v_is alone are grown goes_on.
    let (p, p_in, at_p) = All-head (λ part. IsOneOf part.keys part.pasts v) (record { keys = keys; pasts = nexts ++ others }) rest v_is in
    ⊎_elim
    (λ next.
    let (a, a_in, may, after) = reached p next in
    let (d, at_next) = at_few keys keys place (answered + 1) calls few more past p v rest a (λ key is. is) parted after may
    (begun_first keys (answered + 1) calls past ended a ended_in (ended_before keys some place answered calls past nexts ended at) accepted
    (is_left.0, inside is_left.0 is_left.1, is_left.2) may) a_in at_p are grown in
    goes_before keys keys place (answered + 1) few more past p rest a d at_next (nexts ++ others) (past ∷ others) v shared v_is at_p
    (Contains-first past others) goes_on)
    (λ other. (
      v,
      (with_other keys (nexts ++ others) (past ∷ others) rest v p v_is (Contains-later past others p other) at_p, λ inv key taken. taken),
      goes_on,
    ))
    (Contains-append_cases nexts others p p_in))
    stand
  where
    shared : ShareKeys (record { keys = keys; pasts = nexts ++ others } ∷ rest)
    shared = keys_shared keys (past ∷ others) (nexts ++ others) rest stand.shared

    at : AtFirst keys some place answered calls past nexts ended
    at = record {
      inside = inside;
      ended_in = ended_in;
      ended_at = ended_at;
      accepted = accepted;
      is_left = is_left;
      first = first;
      known = known;
      own = own;
      come = come;
    }
