-- `without_follower` puts a null pointer and false together.
use Rattle.potzendai.proofs.Common.{◌≡◌, [], ◌∷◌, refl, false, lit<, Option, None, proved, leaves, LineFollower}
use mir.Val.{Val, vnull, vbool}
use base.Logic.{SProp, emp}
use base.Fml.{ftrue}
use types.Kit.{‵, raw, ◌⊛◌, ◌$◌, ◌∵◌, !, qed, by, keep, split, use0}
use types.Run.{false_lit, lit, no_more, and_then, returns, enter}
use types.ByLocal.{alloc_all, pass_all, free_all, look_at, sets}
use types.Part.{agg}
use contract.Monad.{fact, fact_i}
use contract.Running.{tables}
use denote.RawPtr.{null_ptr}
use denote.Steps.{nothing}
use denote.Triple.Entry.{alive}
use denote.Triple.Walked.{walk_of}
use Rattle.potzendai.proofs.LooseValues.{both}
use Rattle.potzendai.proofs.HandleValues.{handle_in, held_none}
use Rattle.potzendai.specs.contracts.handle.PotzendaiFollower.without_follower.{ended, clauses}
use Rattle.potzendai.specs.contracts.handle.PotzendaiFollower.without_follower.Key.{name as #self}
use Rattle.potzendai.proofs.handle.PotzendaiFollower.without_follower.Statement.{statement}
use Rattle.potzendai.proofs.handle.PotzendaiFollower.without_follower.Code as code

pub without_follower_spec : {M : Type 1} → statement M
without_follower_spec 𝓤 𝓛 𝓜 𝓡 wired =
    let H = 𝓛.H in let 𝓣 = tables 𝓤 H 𝓜 𝓡 𝓡.env in let c = clauses 𝓛 𝓜.mem 𝓡.returns in
    proved 𝓛 ended tt c 𝓜 𝓡 tt #self code.function (code.unfolded 𝓤 H 𝓜 𝓡 wired) (λ κs. tt) (λ κs. tt) (λ κs qs bounds a gh are.
    let y : (walk_of 𝓛 ended tt c).Ghost = ((κs, qs, bounds, a, tt), gh) in
    let Post : Val → SProp 𝓤 = (walk_of 𝓛 ended tt c).post y in
    let none : Option LineFollower = None in
    qed 𝓛 ((raw (alive 𝓛 ended.signature κs qs) ⊛ ‵ ftrue) ∷ raw ((c κs a).requires gh) ∷ []) ∵ split ! $ keep ! (0 ∷ []) $
    enter ! 𝓣.C 𝓣.Λ code.function [] Post $ alloc_all ! (λ l. pass_all ! refl tt $
    sets ! (agg ! (and_then ! (lit ! tt) (and_then ! (false_lit !) (no_more !)))) refl (tt, (record { fits = lit< tt }, (tt, tt))) $
    use0 𝓛 (raw (fact 𝓤 (none ≡ none))) (fact_i 𝓤 (none ≡ none) (emp 𝓤) refl) $
    held_none ! null_ptr $ handle_in ! null_ptr false none $ nothing ! $
    returns ! (look_at ! 0 refl) $ free_all ! refl $ keep ! (3 ∷ 0 ∷ 1 ∷ 2 ∷ []) $
    by ! (leaves 𝓛 ended tt c y (both vnull (vbool false)) (record { at = null_ptr; is_open = false; follows = none }) tt tt)))
