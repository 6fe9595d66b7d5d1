-- Pending reads that end.
use Rattle.std.proofs.Common.{◌≡◌, ℕ, suc, ◌<◌, true, List, ◌∷◌, ◌++◌, get_or, take, drop, sym, ap, ◌∙◌, add-one}
use Rattle.std.proofs.Common.{Bool, false, length, Option, ◌≤◌}
use Rattle.std.proofs.Math.ListN.{set}
use Rattle.std.specs.Global.{Global}
use Rattle.std.specs.List.{HoldsAt}
use Rattle.std.specs.Prelude.{Vec, All, Contains, MatchOption, ◌⊎◌}
use Rattle.follow_pasts.proofs.Common.{subst, All-append, All-back, All-contains, All-from_contains, All-front, All-tail}
use Rattle.follow_pasts.proofs.ListLemmas.{in_a_list, listed_then, of_old, then_around, things_around, things_before, things_out, was_around}
use Rattle.follow_pasts.specs.Lists.{AreListed, list_place, things_of}
use Rattle.follow_pasts.specs.Moments.{AreBegunAfter, HaveNoRead, IsEnded}
use Rattle.follow_pasts.specs.declared.ranges.Range.{Range}
use Rattle.follow_pasts.proofs.Common.{◌≢◌, get_or_default}
use Rattle.events.proofs.Places.{parts_at}
use Rattle.follow_pasts.specs.declared.moments.OpenRead.{OpenRead}
use Rattle.follow_pasts.specs.Moments.{HasEnded}

-- no read so far is the one, and the reads are as they were
pub record AreOthers (inv : ℕ) (olds reads : List OpenRead) (place : ℕ) : Type 0 where
  pub same : reads ≡ olds
  pub others : (k : ℕ) (d : OpenRead) → k < place → (get_or reads k d).inv ≢ inv

pub read_ended : (inv : ℕ) (olds reads news : List OpenRead) (place : ℕ) (read found : OpenRead) → AreOthers inv olds reads place
    → place < length reads → read ≡ get_or reads place read → found ≡ get_or reads place found → found.inv ≡ inv
    → news ≡ take place reads ++ drop (suc place) reads → HasEnded inv olds news true
read_ended inv olds reads news place read found so within at here is out = (
  take place reads,
  read,
  drop (suc place) reads,
  sym so.same ∙ (parts_at reads place read within at ∙ ap (λ (n : ℕ). take place reads ++ read ∷ drop n reads) (add-one place)),
  ap (λ (r : OpenRead). r.inv) (at ∙ (get_or_default reads place read found within ∙ sym here)) ∙ is,
  out,
)

-- ---- the lists after it

-- what holds of all reads still does
pub ended_all : (P : OpenRead → Type 0) (inv : ℕ) (old new : List OpenRead) (there : Bool) → HasEnded inv old new there → All P old → All P new
ended_all P inv old new true (front, read, back, was, is, then) all =
    let around = subst (λ (l : List OpenRead). All P l) was all in
    subst (λ (l : List OpenRead). All P l) (sym then)
    (All-append P front back (All-front P front (read ∷ back) around) (All-tail P read back (All-back P front (read ∷ back) around)))
ended_all P inv old new false (same, none) all = subst (λ (l : List OpenRead). All P l) (sym same) all

abbrev pub place_of_read : OpenRead → ℕ
place_of_read read = list_place read.low read.high

module _ (lists : List (Vec OpenRead Global)) (listed : AreListed place_of_read lists) (place : ℕ) (old new : Vec OpenRead Global)
    (within : place < length lists) (here : old ≡ get_or lists place old) (read : OpenRead) (own : place ≡ place_of_read read) where
  abbrev front : List (Vec OpenRead Global)
  front = take place lists

  abbrev back : List (Vec OpenRead Global)
  back = drop (suc place) lists

  was : lists ≡ front ++ old ∷ back
  was = was_around place_of_read lists listed place old new within here

  then : set lists place new ≡ front ++ new ∷ back
  then = then_around place_of_read lists listed place old new within here

  pub ended_listed : (there : Bool) → HasEnded read.inv old.items new.items there → AreListed place_of_read (set lists place new)
  ended_listed there ended = listed_then place_of_read lists listed place old new within here
      (ended_all (λ (one : OpenRead). place_of_read one ≡ place) read.inv old.items new.items there ended
      (of_old place_of_read lists listed place old new within here))

  not_there : All (λ (other : OpenRead). other.inv ≢ read.inv) old.items → (other : OpenRead) → Contains (things_of lists) other → other ≢ read
  not_there none other other_in same =
      let (k, less, at) = in_a_list lists other other_in in
      let of_k : place_of_read other ≡ k = All-contains (λ (one : OpenRead). place_of_read one ≡ k) (get_or lists k old).items other
      (listed.own k less old) (at old) in
      let k_is : k ≡ place = sym of_k ∙ (ap place_of_read same ∙ sym own) in
      let in_old : Contains old.items other = subst (λ (l : Vec OpenRead Global). Contains l.items other)
      (ap (λ (n : ℕ). get_or lists n old) k_is ∙ sym here) (at old) in
      All-contains (λ (one : OpenRead). one.inv ≢ read.inv) old.items other none in_old (ap (λ (r : OpenRead). r.inv) same)

  pub ended_at : (there : Bool) → HasEnded read.inv old.items new.items there → IsEnded read (things_of lists) (things_of (set lists place new)) there
  ended_at true (before, ended, after, had, is, has) = (
    things_of front ++ before,
    ended,
    after ++ things_of back,
    ap (λ (l : List (Vec OpenRead Global)). things_of l) was ∙ things_before front old new back before after ended had,
    is,
    ap (λ (l : List (Vec OpenRead Global)). things_of l) then ∙ things_out front old new back before after ended has,
  )
  ended_at false (same, none) = (
    ap (λ (l : List (Vec OpenRead Global)). things_of l) then
        ∙ (things_around front old new back new
        ∙ (ap (λ (l : List OpenRead). things_of front ++ (l ++ things_of back)) same
        ∙ (sym (things_around front old new back old) ∙ ap (λ (l : List (Vec OpenRead Global)). things_of l) (sym was)))),
    All-from_contains (λ (other : OpenRead). other ≢ read) (things_of lists) (not_there none),
  )

-- ---- the first pending read of some keys, list by list

-- lists that were looked at: the first one, and those from one place to before another
abbrev pub IsSeen : ℕ → ℕ → ℕ → Type 0
IsSeen from end k = (k ≡ 0) ⊎ ((from ≤ k) × (k < end))

abbrev pub IsFirstSeen : List Range → List (Vec OpenRead Global) → ℕ → ℕ → Option ℕ → Type 0
IsFirstSeen ranges lists from end first =
    MatchOption first ((k : ℕ) → IsSeen from end k → HoldsAt (λ list. HaveNoRead ranges list.items) lists k)
    (λ moment. (k : ℕ) → IsSeen from end k → HoldsAt (λ list. AreBegunAfter ranges list.items moment) lists k)
