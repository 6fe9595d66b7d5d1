-- Pasts without some that are dead, as far as they were tried.
use Rattle.follow_parts.proofs.Common.{◌≡◌, ◌<◌, List, [], ◌∷◌, ◌++◌, map, inl, inr, append_assoc, append-nil, refl, sym, ap, ◌∙◌, subst, AllPairs, All-head}
use Rattle.follow_parts.proofs.Common.{All-tail, Operation, NonePrecedesItself, KeptPast, AreShaped, kept_of, Past, IsDead, AreThoseAlive}
use mathlib.Core.List.{map-append}

abbrev IsPastShaped : Past → Type 0
IsPastShaped past = AllPairs (λ (a b : Operation). a.inv < b.inv) past.calls.items × NonePrecedesItself past.calls.items

-- those that are alive so far, with those of the rest
pub record AreAliveSoFar (made alive rest : List Past) : Type 0 where
  pub shaped : AreShaped rest
  pub with_more : (more : List KeptPast) → AreThoseAlive (map kept_of rest) more → AreThoseAlive (map kept_of made) (map kept_of alive ++ more)

pub alive_begins : (made : List Past) → AreShaped made → AreAliveSoFar made [] made
alive_begins made shaped = record { shaped = shaped; with_more = λ more h. h }

pub next_shaped : (made alive rest : List Past) (past : Past) → AreAliveSoFar made alive (past ∷ rest) → IsPastShaped past
next_shaped made alive rest past so_far = All-head IsPastShaped past rest so_far.shaped

pub alive_dies : (made alive rest : List Past) (past : Past) → IsDead (kept_of past) → AreAliveSoFar made alive (past ∷ rest)
    → AreAliveSoFar made alive rest
alive_dies made alive rest past dead so_far = record {
  shaped = All-tail IsPastShaped past rest so_far.shaped;
  with_more = λ more h. so_far.with_more more (inr (dead, h));
}

pub alive_stays : (made alive alive_new rest : List Past) (past next : Past) → kept_of next ≡ kept_of past → alive_new ≡ alive ++ next ∷ []
    → AreAliveSoFar made alive (past ∷ rest) → AreAliveSoFar made alive_new rest
alive_stays made alive alive_new rest past next same pushed so_far = record {
  shaped = All-tail IsPastShaped past rest so_far.shaped;
  with_more = λ more h.
      let is : map kept_of alive_new ++ more ≡ map kept_of alive ++ kept_of past ∷ more =
      ap (λ (ps : List Past). map kept_of ps ++ more) pushed
      ∙ (ap (λ (ks : List KeptPast). ks ++ more) (map-append kept_of alive (next ∷ []))
      ∙ (append_assoc (map kept_of alive) (kept_of next ∷ []) more
      ∙ ap (λ (k : KeptPast). map kept_of alive ++ k ∷ more) same)) in
      subst (λ (ks : List KeptPast). AreThoseAlive (map kept_of made) ks) (sym is)
      (so_far.with_more (kept_of past ∷ more) (inl (more, refl, h)));
}

pub alive_ends : (made alive : List Past) → AreAliveSoFar made alive [] → AreThoseAlive (map kept_of made) (map kept_of alive)
alive_ends made alive so_far =
    subst (λ (ks : List KeptPast). AreThoseAlive (map kept_of made) ks) (append-nil (map kept_of alive)) (so_far.with_more [] refl)
