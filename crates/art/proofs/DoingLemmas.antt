-- What a process does after an access fits what its call got.
use Rattle.std.proofs.Common.{◌≡◌, ℕ, List, [], ◌∷◌, ◌++◌, refl, sym, ap, ◌∙◌, append_assoc}
use Rattle.std.specs.Prelude.{Option, Some, None}
use Rattle.std.proofs.lemmas.List.{append-nil}
use Rattle.events.specs.declared.event.Call.{Call}
use Rattle.events.specs.declared.event.Reply.{Reply}
use Rattle.art_rows.specs.declared.table.Shape.{Shape}
use Rattle.art_rows.specs.declared.variant.Variant.{Variant}
use Rattle.art_rows.specs.declared.access.Access.{Access}
use Rattle.art_rows.specs.declared.access.Point.{Point}
use Rattle.art_rows.specs.Steps.{Rest, Asks, access_of, reply_of}
use Rattle.art_rows.specs.Act.{act}
use Rattle.art_rows.specs.Fits.{Fits}
use Rattle.art_rows.proofs.TurnLemmas.{asks-of, answers-of}
use Rattle.art.specs.declared.task.Task.{Task}
use Rattle.art.specs.Tasks.{rest_of}
use Rattle.art.specs.Doings.{FitsDoing, after_access}

-- a call that got these words has this rest
module _ (shape : Shape) (variant : Variant) (call : Call) (got : List ℕ) (rest : Rest) (fits : Fits shape variant call got rest) where
  -- the access that it makes next
  pub next-asks : (a : Access) → access_of (rest []) ≡ Some a → (p : Option Point) × (act shape variant call got ≡ Asks a p)
  next-asks a asks =
      let found = asks-of (rest []) a asks in
      (found.0, ap (act shape variant call) (sym (append-nil got)) ∙ (sym (fits []) ∙ found.1))

  -- the access got one word more, and the task took it
  pub fits-after : (n word : ℕ) (task : Task) (o : Option Reply) → word ≡ n → reply_of (rest (word ∷ [])) ≡ o
      → (o ≡ None → (more : List ℕ) → rest_of task more ≡ rest (word ∷ more))
      → FitsDoing shape variant (after_access task o) (Some call) (got ++ n ∷ [])
  fits-after n word task None same reply goes = (
    call,
    refl,
    λ more. goes refl more
        ∙ (fits (word ∷ more)
        ∙ (ap (λ x. act shape variant call (got ++ x ∷ more)) same ∙ ap (act shape variant call) (sym (append_assoc got (n ∷ []) more)))),
  )
  fits-after n word task (Some r) same reply goes = (
    call,
    refl,
    ap (λ x. act shape variant call (got ++ x ∷ [])) (sym same) ∙ (sym (fits (word ∷ [])) ∙ answers-of (rest (word ∷ [])) r reply),
  )
