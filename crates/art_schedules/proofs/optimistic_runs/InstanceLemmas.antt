-- Every run of the optimistic tree is linearizable, from the laws of the parts.
use Rattle.art_schedules.proofs.Common.{◌≡◌, ℕ, List, [], ◌∷◌, ◌++◌, length, refl, sym, subst, None, none-some, Call, Get, Insert, Remove, Scan}
use Rattle.art_schedules.proofs.Common.{Replace, Reply, Contents, Shape, Variant, Optimistic, Access, Wait, Root, Process, Plan, State}
use Rattle.art_schedules.proofs.Common.{OptimisticIsLinearizable, calm_of, StartsAreAtRest, StoriesGiveOrders, Status, Before, Trace, IsTraceStep}
use Rattle.art_schedules.proofs.Common.{AllFit, AreLed, IsLedOn, OwnStep, BeginsCall, MakesAccess, AnswersCall, HasItsReply, set_at, the_plan}
use Rattle.art_schedules.proofs.Common.{Makes, Ghosts, IsWorld, IsFit, Seeks, Walks, OptimisticFits, TreeGoesOn}
use Rattle.art_schedules.proofs.stories.ClaimLemmas.{optimistic-from-ghosts}
use Rattle.art_schedules.specs.optimistic_runs.OptimisticFits.{OptimisticAreLed}
use Rattle.art_schedules.proofs.optimistic_runs.PartLaws.{LawsOfParts}
use Rattle.art_schedules.proofs.optimistic_runs.LedLemmas as led
use Rattle.art_schedules.proofs.optimistic_runs.OwnLemmas.{own-step}
use Rattle.art_schedules.proofs.optimistic_runs.AnswerLemmas.{answered}
use Rattle.art_schedules.proofs.calls.ScriptLemmas.{next-tree}
use Rattle.art_schedules.proofs.stories.OpenLemmas.{set-here}

module _ (laws : LawsOfParts) (shape : Shape) (scripts : List (List Call)) (start : Contents) (words : List ℕ) where
  abbrev plan : Plan
  plan = the_plan Optimistic shape scripts

  abbrev World : Ghosts → List ℕ → State → List ℕ → Type 0
  World g schedule s calm = IsWorld shape g s

  module _ (schedule : List ℕ) (tale : Trace) (p : ℕ) (s t : State) (g : Ghosts) where
    abbrev here : List ℕ
    here = calm_of plan words schedule

    abbrev there : List ℕ
    there = calm_of plan words (schedule ++ p ∷ [])

    at-calm : (P : List ℕ → List ℕ → Type 0) → P here there → (x y : List ℕ) → x ≡ here → y ≡ there → P x y
    at-calm P h x y e f = subst (λ b. P x b) (sym f) (subst (λ a. P a there) (sym e) h)

    abbrev OwnClause : List ℕ → List ℕ → Type 0
    OwnClause x y =
        (told : IsTraceStep plan start words schedule tale p s t x y) → IsWorld shape g s → AllFit (OptimisticFits shape g) schedule s x
        → (call : Call) (q later : Process) (a : Access) (status : Status) → MakesAccess plan s p t call q later a
        → OptimisticFits shape g schedule s x p call q status
        → OwnStep plan words schedule tale p t x y call q status
        (λ effect now. IsLedOn Ghosts World (OptimisticFits shape) g schedule p s t x y
        (λ next. OptimisticFits shape next (schedule ++ p ∷ []) t y p call later now))

    pub owns : OwnClause here there
    owns told world all call q later a status made f =
        own-step laws shape scripts start words schedule tale p s t g told world all call q later a status made f.tree f

    abbrev BeginClause : List ℕ → List ℕ → Type 0
    BeginClause x y =
        (told : IsTraceStep plan start words schedule tale p s t x y) → IsWorld shape g s → AllFit (OptimisticFits shape g) schedule s x
        → (call : Call) (q later : Process) → BeginsCall plan s p t call q later
        → TreeGoesOn shape t.words x y (tale.pairs (length schedule)) None
        → IsLedOn Ghosts World (OptimisticFits shape) g schedule p s t x y
        (λ next. OptimisticFits shape next (schedule ++ p ∷ []) t y p call later Before)

    pub begins : BeginClause here there
    begins told world all call q later b goes =
        led.led laws shape scripts start words schedule tale p s t g told world all None makes tt None (led.NoFresh refl)
        (λ ghost. OptimisticFits shape ghost (schedule ++ p ∷ []) t there p call later Before)
        (record { tree = next-tree plan told.step.before.within.calls p q call b.next; fit = fit call b })
      where
        makes : Makes Optimistic shape s p here there (tale.pairs (length schedule)) None
        makes = led.goes-makes laws shape scripts start words schedule tale p s t g told world all goes

        none : set_at g p None p ≡ None
        none = set-here g p None

        fit : (call : Call) → BeginsCall plan s p t call q later → IsFit shape (set_at g p None) t there p call later Before
        fit (Get key) b = Seeks (Wait Root) refl none b.stage (laws.ways_begin shape (Get key) there t.words) refl
        fit (Insert key value) b = Seeks (Wait Root) refl none b.stage (laws.ways_begin shape (Insert key value) there t.words) refl
        fit (Remove key) b = Seeks (Wait Root) refl none b.stage (laws.ways_begin shape (Remove key) there t.words) refl
        fit (Replace key old new) b = Seeks (Wait Root) refl none b.stage (laws.ways_begin shape (Replace key old new) there t.words) refl
        fit (Scan low high) b = Walks low high _ none refl b.stage refl

    abbrev AnswerClause : List ℕ → List ℕ → Type 0
    AnswerClause x y =
        (told : IsTraceStep plan start words schedule tale p s t x y) → IsWorld shape g s → AllFit (OptimisticFits shape g) schedule s x
        → (call : Call) (q : Process) (status : Status) (reply : Reply) → AnswersCall plan s p t call q reply
        → OptimisticFits shape g schedule s x p call q status → TreeGoesOn shape t.words x y (tale.pairs (length schedule)) None
        → IsLedOn Ghosts World (OptimisticFits shape) g schedule p s t x y
        (λ next. HasItsReply plan words schedule tale p call q status reply)

    pub answers : AnswerClause here there
    answers told world all call q status reply x f goes =
        led.led laws shape scripts start words schedule tale p s t g told world all None
        (led.goes-makes laws shape scripts start words schedule tale p s t g told world all goes) tt None (led.NoFresh refl)
        (λ ghost. HasItsReply plan words schedule tale p call q status reply)
        (answered laws shape scripts start words schedule tale p s t g told world all call q status reply x f.tree f)

  -- Each step preserves what fits each call.
  pub calls-are-led : OptimisticAreLed shape scripts start words
  calls-are-led = record {
    first = λ run rest means. (
      λ p. None,
      record {
        claimed = λ p row e. absurd (none-some row e);
        apart = λ p r ne. tt;
      },
    );
    begins = λ schedule tale p s t calm after g told.
        at-calm schedule tale p s t g (BeginClause schedule tale p s t g) (begins schedule tale p s t g) calm after told.calm_is
        told.after_is told;
    own = λ schedule tale p s t calm after g told.
        at-calm schedule tale p s t g (OwnClause schedule tale p s t g) (owns schedule tale p s t g) calm after told.calm_is
        told.after_is told;
    answers = λ schedule tale p s t calm after g told.
        at-calm schedule tale p s t g (AnswerClause schedule tale p s t g) (answers schedule tale p s t g) calm after told.calm_is
        told.after_is told;
  }

-- Every run of the optimistic tree is linearizable.
pub optimistic-is-linearizable : LawsOfParts → StartsAreAtRest → StoriesGiveOrders → OptimisticIsLinearizable
optimistic-is-linearizable laws starts orders =
    optimistic-from-ghosts starts laws.kept_trees_follow orders Ghosts (λ plan start words g schedule s calm. IsWorld plan.shape g s)
    (λ plan start words. OptimisticFits plan.shape)
    (λ plan start words schedule s run is.
    subst (λ (v : Variant). AreLed (record { shape = plan.shape; variant = v; scripts = plan.scripts }) start words Ghosts
    (λ g schedule s calm. IsWorld plan.shape g s) (OptimisticFits plan.shape)) (sym is)
    (calls-are-led laws plan.shape plan.scripts start words))
