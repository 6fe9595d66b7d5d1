use Rattle.follow_parts.proofs.Common.{◌≡◌, ◌<◌, List, Some, map, refl, sym, ap, ◌∙◌, subst, AllPairs, slice_get, Operation, kept_of, Past, AreGoneOn}
use Rattle.follow_parts.proofs.Common.{GoneOn}
use Rattle.follow_parts.proofs.ThenLemmas.{first_rises}
use Rattle.follow_parts.proofs.settling.part_from.Goals as goal

pub guess_of-requires : goal.guess_of-requires
guess_of-requires c =
    let at : slice_get c.args.pasts.items 0 ≡ Some c.in-Some.first.now =
    ap (λ (ps : List Past). slice_get ps 0) (sym c.deref.ensures.value) ∙ sym c.in-Some.ensures.value in
    subst (λ (os : List Operation). AllPairs (λ (a b : Operation). a.inv < b.inv) os) (sym c.deref-2.ensures.value)
    (first_rises c.args.pasts.items c.in-Some.first.now at c.requires)

pub returns-in-Alive : goal.returns-in-Alive
returns-in-Alive c = record {
  ranges = refl;
  first = c.calls-tried.ensures.kept;
  alive = subst (λ (gone : GoneOn). AreGoneOn 2000 (map kept_of c.args.pasts.items) gone) c.in-Alive.is c.in_ok-first.ensures.gone;
}
