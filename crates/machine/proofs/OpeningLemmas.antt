-- What a machine begins with.
use Rattle.machine.proofs.Common.{◌≡◌, ℕ, suc, ◌+◌, ◌<◌, ◌^◌, List, [], ◌∷◌, ◌++◌, length, map, sum, arith, refl, ap, sym, subst, ◌∙◌, append_assoc}
use Rattle.machine.proofs.Common.{Some, None, slice_get, replicate, Call, Shape, Variant, Process, idle, all-idle, Runner, FitsDoing, IsFor}
use Rattle.machine.proofs.Common.{FitsProcess, AreFor, plan_of}
use Rattle.std.specs.List.{AllZip}
use Rattle.std.proofs.lemmas.List.Sums.{sum-map}
use Rattle.std.proofs.lemmas.List.Folds.{sum_by-replicate}
use Rattle.events.proofs.ZipLemmas.{zip_right}
use Rattle.machine.specs.Opening.{IsFresh}

-- some of the runners are there, for the first of the scripts
pub record AreHalfOpened (all rest : List (List Call)) (runners : List Runner) : Type 0 where
  pub done : List (List Call)
  pub parts : all ≡ done ++ rest
  pub fresh : AllZip IsFresh done runners

zip-push : (xs : List (List Call)) (ys : List Runner) (x : List Call) (y : Runner) → AllZip IsFresh xs ys → IsFresh x y
    → AllZip IsFresh (xs ++ x ∷ []) (ys ++ y ∷ [])
zip-push [] [] x y h k = (k, tt)
zip-push [] (z ∷ ys) x y h k = absurd h
zip-push (w ∷ xs) [] x y h k = absurd h
zip-push (w ∷ xs) (z ∷ ys) x y h k = (h.0, zip-push xs ys x y h.1 k)

pub half-more : (all rest more : List (List Call)) (script : List Call) (runners : List Runner) (r : Runner)
    → AreHalfOpened all rest runners
    → rest ≡ script ∷ more → IsFresh script r
    → AreHalfOpened all more (runners ++ r ∷ [])
half-more all rest more script runners r h e k = record {
  done = h.done ++ script ∷ [];
  parts = h.parts ∙ (ap (λ l. h.done ++ l) e ∙ sym (append_assoc h.done (script ∷ []) more));
  fresh = zip-push h.done runners script r h.fresh k;
}

pub zip-length : (xs : List (List Call)) (ys : List Runner) → AllZip IsFresh xs ys → length xs ≡ length ys
zip-length [] [] h = refl
zip-length [] (y ∷ ys) h = absurd h
zip-length (x ∷ xs) [] h = absurd h
zip-length (x ∷ xs) (y ∷ ys) h = ap suc (zip-length xs ys h.1)

pub fits-idle : (shape : Shape) (variant : Variant) (scripts : List (List Call)) (runners : List Runner) → AllZip IsFresh scripts runners
    → (i : ℕ) (r : Runner) (q : Process) → slice_get runners i ≡ Some r → slice_get (replicate (length scripts) idle) i ≡ Some q
    → FitsProcess (plan_of shape variant scripts) i r q
fits-idle shape variant scripts runners fresh i r q at is =
    let z = zip_right IsFresh scripts runners i r fresh at in
    subst (λ q. FitsProcess (plan_of shape variant scripts) i r q) (sym (all-idle (length scripts) i q is)) (record {
      doing = subst (λ d. FitsDoing shape variant d None []) (sym z.2.doing) refl;
      begun = sym z.2.begun;
      finished = sym z.2.finished;
      log = sym z.2.log;
      script = z.1 ∙ ap Some (sym z.2.script);
    })

pub tasks-idle : (shape : Shape) (scripts : List (List Call)) (runners : List Runner) → AllZip IsFresh scripts runners
    → AreFor shape runners
tasks-idle shape scripts runners fresh i r at =
    let z = zip_right IsFresh scripts runners i r fresh at in
    subst (λ d. IsFor shape d) (sym z.2.doing) tt

pub few-left : (n limit : ℕ) → limit < 2 ^ 32 → sum (map (λ q. q.steps) (replicate n idle)) + limit < 2 ^ 61
few-left n limit h = omega (arith, sum-map (λ q. q.steps) (replicate n idle), sum_by-replicate (λ q. q.steps) n idle)
