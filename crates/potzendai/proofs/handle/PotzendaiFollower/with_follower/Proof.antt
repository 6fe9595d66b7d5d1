-- `with_follower` hands what the box's parts own to the handle.
use Rattle.potzendai.proofs.Common.{◌≡◌, List, [], ◌∷◌, ◌++◌, refl, sym, subst, true, Some, Goes-blank, proved_at, leaves, boxed}
use mir.Val.{Val, vptr, vbool}
use base.Logic.{SProp, ent, emp, id⊢}
use prog.Wp.{WpFn}
use types.Kit.{‵, raw, ◌⊛◌, ◌$◌, ◌∵◌, !, qed, by, move, keep, split, fsplit, fjoin, suffices, use0, use1}
use types.Run.{true_lit, stop, fld, of_opd, no_more, and_then, returns, enter}
use types.ByLocal.{alloc_all, pass_all, free_all, look_at, get, get_in, sets}
use types.Part.{agg, sub, whole}
use contract.Monad.{fact, fact_i}
use contract.Running.{tables}
use denote.Exit.{yes}
use denote.RattleType.{RattleType, owns}
use denote.Signature.{types_at, plain}
use denote.RawPtr.{block_ptr}
use denote.Steps.{nothing}
use denote.Triple.Entry.{alive}
use denote.Triple.Walked.{Stays, stay_dropped, walk_of}
use Rattle.std.specs.contracts.impls.GlobalAllocator.TheImpl.{ghosts}
use Rattle.potzendai.proofs.LooseValues.{both, Loose, loose_good, loose_out}
use Rattle.potzendai.proofs.HandleValues.{handle_in, held_in}
use Rattle.potzendai.specs.contracts.handle.PotzendaiFollower.with_follower.{ended, clauses}
use Rattle.potzendai.specs.contracts.handle.PotzendaiFollower.with_follower.Key.{name as #self}
use Rattle.potzendai.proofs.handle.PotzendaiFollower.with_follower.Statement.{statement}
use Rattle.std.specs.contracts.alloc.Global as heap
use Rattle.std.proofs.alloc.Global.TheLaws as heap_laws
use Rattle.cli_follow.specs.contracts.line_follower.LineFollower as follower
use Rattle.potzendai.specs.contracts.handle.PotzendaiFollower as handle
use Rattle.potzendai.proofs.handle.PotzendaiFollower.with_follower.Code as code

pub with_follower_spec : {M : Type 1} → statement M
with_follower_spec 𝓤 𝓛 𝓜 𝓡 wired =
    let H = 𝓛.H in let 𝓣 = tables 𝓤 H 𝓜 𝓡 𝓡.env in let R : RattleType = follower.the_row in let Z : RattleType = heap.the_row in
    let LZ = heap_laws.the_row_laws in let Lr : RattleType = Loose R Z LZ ghosts in let fn = code.function in
    let c = clauses 𝓛 𝓜.mem 𝓡.returns in
    let hs : Stays ended.signature.params ended.kept = (stay_dropped (plain (λ _. Lr)) yes, tt) in
    proved_at 𝓛 ended hs c 𝓜 𝓡 (Goes-blank 𝓛 0 (plain (λ _. Lr)) yes (λ κs x f. tt), tt) #self fn (code.unfolded 𝓤 H 𝓜 𝓡 wired)
    (λ z are.
    let κs = z.0.0 in let Post : Val → SProp 𝓤 = (walk_of 𝓛 ended hs c).post z in
    let Run : List Val → SProp 𝓤 = λ ws. WpFn 𝓤 H 𝓣.C 𝓣.Λ fn ws Post in let d = z.0.3.0 in let x = d.value in
    qed 𝓛 ((raw (alive 𝓛 ended.signature κs z.0.1) ⊛ ‵ (owns (types_at ended.signature.params κs) z.0.3 z.0.4))
    ∷ raw ((c κs z.0.3).requires z.1) ∷ []) ∵ split ! $ move ! (1 ∷ []) $ fsplit ! $
    loose_out R Z LZ ghosts ! d z.0.4.0 (λ b o h e ws fits.
    let w : Val = both (vptr b o) h in let typed = loose_good R Z LZ ghosts b o h fits in
    let made : handle.the_row.Denot = record { at = block_ptr b o; is_open = true; follows = Some x } in
    -- [the box; the allocator; no more parameters; the tokens; the requires]
    keep ! (0 ∷ 3 ∷ []) $
    suffices ! (Run (w ∷ [])) (subst (λ (us : List Val). ent 𝓤 (Run (w ∷ [])) (Run us)) (sym (λ i. ws i ++ [])) (id⊢ 𝓤 (Run (w ∷ [])))) $
    enter ! 𝓣.C 𝓣.Λ fn (w ∷ []) Post $ alloc_all ! (λ l. pass_all ! refl (typed, tt) $
    sets ! (of_opd ! (get_in ! (fld ! refl (stop !)) (sub ! 0 refl (whole !)))) refl (tt, tt) $
    sets ! (of_opd ! (get ! refl)) refl (tt, tt) $
    sets ! (agg ! (and_then ! (get ! refl) (and_then ! (true_lit !) (no_more !)))) refl (tt, (tt, (tt, tt))) $
    use1 𝓛 (‵ (boxed (block_ptr b o) x)) (id⊢ 𝓤 _) $ held_in ! b o x $ handle_in ! (block_ptr b o) true (Some x) $
    move ! (1 ∷ 0 ∷ []) $ use0 𝓛 (raw (fact 𝓤 (made.follows ≡ Some x))) (fact_i 𝓤 (made.follows ≡ Some x) (emp 𝓤) refl) $ nothing ! $
    nothing ! $ fjoin ! $
    -- [no parameter is left; the ensures; the tokens; the handle]
    returns ! (look_at ! 0 refl) $ free_all ! refl $ keep ! (2 ∷ 0 ∷ 3 ∷ 1 ∷ []) $
    by ! (leaves 𝓛 ended hs c z (both (vptr b o) (vbool true)) made (tt, tt) (tt, tt)))))
