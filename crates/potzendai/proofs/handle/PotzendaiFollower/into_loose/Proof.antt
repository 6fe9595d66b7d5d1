-- `into_loose` reads whether there is a follower, and has the box's parts back from the handle.
use Rattle.potzendai.proofs.Common.{◌≡◌, Bool, true, false, List, [], ◌∷◌, ◌++◌, refl, sym, ap, ◌∙◌, subst, lit<, Option, Some, None, option_map}
use Rattle.potzendai.proofs.Common.{Goes-blank, after, Good, one, proved_at, leaves, and_tt, box_owns}
use mir.Val.{Val, vptr, vbool, vcons, vnil}
use base.Logic.{SProp, ent, emp, id⊢}
use prog.Wp.{WpFn}
use types.Kit.{‵, raw, ◌⊛◌, at_ret, ◌$◌, ◌∵◌, !, qed, by, move, keep, split, fsplit3, fjoin, suffices, use0, use1, rewrite}
use types.Run.{stop, fld, lit, of_opd, no_more, and_then, first, branches, exec, returns, enter}
use types.ByLocal.{alloc_all, pass_all, free_all, look_at, get, get_in, sets, sets_last, env}
use types.Part.{agg, sub, whole}
use types.Match.{live}
use contract.Monad.{fact, fact_i}
use contract.Running.{tables}
use denote.Exit.{yes}
use denote.RattleType.{RattleType, owns}
use denote.Signature.{types_at, type_at, plain}
use denote.RawPtr.{Ptr, block_ptr, ptr_val}
use denote.Steps.{nothing}
use denote.Param.{layout}
use denote.Triple.Entry.{alive}
use denote.Triple.Walked.{Stays, stay_dropped, walk_of, Goes-dropped}
use Rattle.std.proofs.option.Made.{Some-of, none_of}
use Rattle.std.specs.contracts.impls.GlobalAllocator.TheImpl.{ghosts}
use Rattle.potzendai.proofs.LooseValues.{both, Loose, loose_good, loose_in}
use Rattle.potzendai.proofs.HandleValues.{handle_out, handle_good, either_held, Ptr-Good}
use Rattle.potzendai.specs.contracts.handle.PotzendaiFollower.into_loose.{ended, clauses}
use Rattle.potzendai.specs.contracts.handle.PotzendaiFollower.into_loose.Key.{name as #self}
use Rattle.potzendai.proofs.handle.PotzendaiFollower.into_loose.Statement.{statement}
use Rattle.std.specs.contracts.alloc.Global as heap
use Rattle.std.proofs.alloc.Global.TheLaws as heap_laws
use Rattle.cli_follow.specs.contracts.line_follower.LineFollower as follower
use Rattle.potzendai.specs.contracts.handle.PotzendaiFollower as handle
use Rattle.potzendai.proofs.handle.PotzendaiFollower.into_loose.Code as code

pub into_loose_spec : {M : Type 1} → statement M
into_loose_spec 𝓤 𝓛 𝓜 𝓡 wired =
    let H = 𝓛.H in let 𝓣 = tables 𝓤 H 𝓜 𝓡 𝓡.env in let R : RattleType = follower.the_row in let Z : RattleType = heap.the_row in
    let LZ = heap_laws.the_row_laws in let Lr : RattleType = Loose R Z LZ ghosts in let fn = code.function in
    let c = clauses 𝓛 𝓜.mem 𝓡.returns in
    let hs : Stays ended.signature.params ended.kept =
    (stay_dropped (plain (λ _. handle.the_row)) yes, (stay_dropped (plain (λ _. Z)) yes, tt)) in
    proved_at 𝓛 ended hs c 𝓜 𝓡
    (Goes-blank 𝓛 0 (plain (λ _. handle.the_row)) yes (λ κs x f. tt), (Goes-dropped 𝓛 0 (plain (λ _. Z)) yes (λ κs x f. refl), tt))
    #self fn (code.unfolded 𝓤 H 𝓜 𝓡 wired) (λ z are.
    let κs = z.0.0 in let Post : Val → SProp 𝓤 = (walk_of 𝓛 ended hs c).post z in
    let Out : RattleType = type_at ended.signature.result κs in
    let Run : List Val → SProp 𝓤 = λ ws. WpFn 𝓤 H 𝓣.C 𝓣.Λ fn ws Post in let d = z.0.3.0 in let a = z.0.3.1.0 in
    let h = one (layout Z) z.0.4.1.0 ((LZ.lawful 𝓛).typed a z.0.4.1.0 are.1.0) in
    qed 𝓛 ((raw (alive 𝓛 ended.signature κs z.0.1) ⊛ ‵ (owns (types_at ended.signature.params κs) z.0.3 z.0.4))
    ∷ raw ((c κs z.0.3).requires z.1) ∷ []) ∵ split ! $ move ! (1 ∷ []) $ fsplit3 ! $
    rewrite ! 1 (λ (us : List Val). ‵ (Z.own_val a us)) h.1 refl $ keep ! (0 ∷ 1 ∷ 3 ∷ []) $
    handle_out ! d z.0.4.0 (λ ws. either_held ! d.is_open d.at d.follows
    -- [the allocator; the tokens]
    (λ shut none. let w : Val = both (ptr_val d.at) (vbool false) in
    let Same : z.0.4.0 ≡ w ∷ [] = ws ∙ ap (λ (t : Bool). both (ptr_val d.at) (vbool t) ∷ []) shut in
    suffices ! (Run (w ∷ h.0 ∷ [])) (subst (λ (us : List Val). ent 𝓤 (Run (w ∷ h.0 ∷ [])) (Run us)) (sym (λ i. Same i ++ (h.1 i ++ [])))
    (id⊢ 𝓤 (Run (w ∷ h.0 ∷ [])))) $
    enter ! 𝓣.C 𝓣.Λ fn (w ∷ h.0 ∷ []) Post $ alloc_all ! (λ l. pass_all ! refl (handle_good d.at false, (h.2, tt)) $
    let Ev = env fn.locals l in
    sets ! (of_opd ! (get_in ! (fld ! refl (stop !)) (sub ! 0 refl (whole !)))) refl (Ptr-Good d.at) $
    sets ! (of_opd ! (get_in ! (fld ! refl (stop !)) (sub ! 1 refl (whole !)))) refl (tt, tt) $
    sets ! (of_opd ! (get ! refl)) refl (tt, tt) $ first ! $ branches ! (get ! refl) (λ wrong. absurd wrong) (λ _.
    sets_last ! (agg ! (and_then ! (lit ! tt) (no_more !))) refl (tt, (record { fits = lit< tt }, tt)) $
    exec ! 𝓣.C 𝓣.Λ Ev (after 4 fn.body) (at_ret Ev Post) $ sets ! (of_opd ! (get ! refl)) refl (tt, (record { fits = lit< tt }, tt)) $
    use0 𝓛 (‵ (Out.own_val None (live 0 vnil ∷ []))) (none_of 𝓛 Lr) $ let given : Option Lr.Denot = None in
    let said : option_map (λ (l : Lr.Denot). l.value) given ≡ d.follows = sym none in
    use0 𝓛 (raw (fact 𝓤 (option_map (λ (l : Lr.Denot). l.value) given ≡ d.follows))) (fact_i 𝓤 _ (emp 𝓤) said) $
    nothing ! $ nothing ! $ fjoin ! $ nothing ! $ fjoin ! $
    -- [no parameter is left; the ensures; the result; the allocator; the tokens]
    returns ! (look_at ! 0 refl) $ free_all ! refl $ keep ! (4 ∷ 0 ∷ 2 ∷ 1 ∷ []) $
    by ! (leaves 𝓛 ended hs c z (live 0 vnil) given (tt, (tt, tt)) (tt, (tt, tt))))))
    (λ b o x opened at is. let w : Val = both (vptr b o) (vbool true) in
    let Same : z.0.4.0 ≡ w ∷ [] = ws ∙ ap (λ (p : Ptr). both (ptr_val p) (vbool d.is_open) ∷ []) at
    ∙ ap (λ (t : Bool). both (vptr b o) (vbool t) ∷ []) opened in
    let made : Val = both (vptr b o) h.0 in let typed = loose_good R Z LZ ghosts b o h.0 h.2 in let v₁ : Val = live 1 (vcons made vnil) in
    let held : Lr.Denot = record { at = block_ptr b o; alloc = a; value = x } in
    let good : Good (layout Out) v₁ = (and_tt _ typed.0, (record { fits = lit< tt }, (typed.1, tt))) in
    suffices ! (Run (w ∷ h.0 ∷ [])) (subst (λ (us : List Val). ent 𝓤 (Run (w ∷ h.0 ∷ [])) (Run us)) (sym (λ i. Same i ++ (h.1 i ++ [])))
    (id⊢ 𝓤 (Run (w ∷ h.0 ∷ [])))) $
    enter ! 𝓣.C 𝓣.Λ fn (w ∷ h.0 ∷ []) Post $ alloc_all ! (λ l. pass_all ! refl (handle_good (block_ptr b o) true, (h.2, tt)) $
    let Ev = env fn.locals l in
    sets ! (of_opd ! (get_in ! (fld ! refl (stop !)) (sub ! 0 refl (whole !)))) refl (tt, tt) $
    sets ! (of_opd ! (get_in ! (fld ! refl (stop !)) (sub ! 1 refl (whole !)))) refl (tt, tt) $
    sets ! (of_opd ! (get ! refl)) refl (tt, tt) $ first ! $ branches ! (get ! refl) (λ _.
    sets ! (of_opd ! (get ! refl)) refl (tt, tt) $
    sets ! (agg ! (and_then ! (get ! refl) (and_then ! (get ! refl) (no_more !)))) refl typed $
    sets_last ! (agg ! (and_then ! (lit ! tt) (and_then ! (get ! refl) (no_more !)))) refl good $
    exec ! 𝓣.C 𝓣.Λ Ev (after 4 fn.body) (at_ret Ev Post) $ sets ! (of_opd ! (get ! refl)) refl good $
    use1 𝓛 (‵ (box_owns (ghosts.dealloc_token a) R (block_ptr b o) x)) (id⊢ 𝓤 _) $ loose_in R Z LZ ghosts ! b o h.0 a x $
    use1 𝓛 (‵ (Out.own_val (Some held) (v₁ ∷ []))) (Some-of 𝓛 Lr held made) $ let given : Option Lr.Denot = Some held in
    let said : option_map (λ (l : Lr.Denot). l.value) given ≡ d.follows = sym is in
    use0 𝓛 (raw (fact 𝓤 (option_map (λ (l : Lr.Denot). l.value) given ≡ d.follows))) (fact_i 𝓤 _ (emp 𝓤) said) $
    nothing ! $ nothing ! $ fjoin ! $ nothing ! $ fjoin ! $
    -- [no parameter is left; the ensures; the result; the tokens]
    returns ! (look_at ! 0 refl) $ free_all ! refl $ keep ! (3 ∷ 0 ∷ 2 ∷ 1 ∷ []) $
    by ! (leaves 𝓛 ended hs c z v₁ given (tt, (tt, tt)) (tt, (tt, tt)))) (λ wrong. absurd wrong)))))
