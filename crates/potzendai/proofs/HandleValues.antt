-- The machine values of what C holds. Assumes `Logic`.
use Rattle.potzendai.proofs.Common.{lit<, ◌≡◌, ℕ, Bool, true, false, List, [], ◌∷◌, ◌++◌, refl, subst, Option, None, Some, Good, LineFollower, heap}
use Rattle.potzendai.proofs.Common.{boxed, held}
use seplogic.Ra.Ura.{Ura}
use mir.Raw.{raw as bare}
use mir.Syntax.{ty_ptr}
use mir.Val.{Val, vbool, vstruct, of_list}
use base.Logic.{never, fst∗}
use base.Fml.{ftrue, fsep, fex}
use types.Logic.{Logic, sem}
use types.Kit.{Item, Goal, Seq, Step, step, ‵, ◌$◌, drop, fsplit, fjoin, fpick, fpack, feq_i, feq_l}
use denote.RattleType.{Valss}
use denote.Builtin.{RawPtr, bool}
use denote.Memory.{lone}
use denote.RawPtr.{Ptr, block_ptr, null_ptr, ptr_val, in_a_block}
use denote.Steps.{nothing}
use denote.Param.{layout}
use denote.Struct.Struct.{within}
use denote.Struct.Owning.{shape}
use Rattle.std.specs.contracts.impls.GlobalAllocator.TheImpl.{ghosts}
use Rattle.cli_follow.specs.contracts.line_follower.LineFollower.{the_row}
use Rattle.potzendai.proofs.LooseValues.{both}
use Rattle.potzendai.specs.contracts.handle.PotzendaiFollower as handle

module _ {M : Type 1} {𝓤 : Ura M} {𝓛 : Logic 𝓤} {K : Type 0} {Γ : List (Item 𝓤)} {G : Goal 𝓤 𝓛.H} where
  -- the handle is made
  pub handle_in : K → (p : Ptr) (o : Bool) (x : Option LineFollower)
      → Step K 𝓛 (‵ (handle.the_row.own_val (record { at = p; is_open = o; follows = x }) (both (ptr_val p) (vbool o) ∷ [])) ∷ Γ) G
      (‵ (held o p x) ∷ Γ) G
  handle_in t p o x = step (λ s. let v : Val = both (ptr_val p) (vbool o) in
      nothing t $ feq_i t (List Val) (vbool o ∷ []) (vbool o ∷ []) refl $ fjoin t
      $ feq_i t (List Val) (ptr_val p ∷ []) (ptr_val p ∷ []) refl $ fjoin t $ feq_i t (List Val) (v ∷ []) (v ∷ []) refl $ fjoin t
      $ fpack t (Valss (RawPtr ∷ bool ∷ [])) (within (shape handle.the_type) (p, (o, tt)) (v ∷ []))
      (ptr_val p ∷ [], (vbool o ∷ [], tt)) $ fjoin t $ s)

  -- and taken apart
  pub handle_out : K → (d : handle.the_row.Denot) (vs : List Val)
      → (vs ≡ both (ptr_val d.at) (vbool d.is_open) ∷ [] → Seq K 𝓛 (‵ (held d.is_open d.at d.follows) ∷ Γ) G)
      → Seq K 𝓛 (‵ (handle.the_row.own_val d vs) ∷ Γ) G
  handle_out t d vs k =
      fsplit t $ fpick t (λ vss. fsplit t $ feq_l t (λ ev. fsplit t $ feq_l t (λ ep. fsplit t $ feq_l t (λ eb. drop t $
      k (subst (λ (bs : List Val). vs ≡ vstruct (of_list (ptr_val d.at ∷ (bs ++ []))) ∷ []) eb
      (subst (λ (ps : List Val). vs ≡ vstruct (of_list (ps ++ (vss.1.0 ++ []))) ∷ []) ep ev))))))

  -- there is a follower, or none
  pub held_in : K → (b o : ℕ) (x : LineFollower)
      → Step K 𝓛 (‵ (held true (block_ptr b o) (Some x)) ∷ Γ) G (‵ (boxed (block_ptr b o) x) ∷ Γ) G
  held_in t b o x = step (λ s. nothing t $ fpack t (Some x ≡ Some x) (λ _. ftrue) refl $ fjoin t
      $ fpack t LineFollower (λ y. fsep (fex (Some x ≡ Some y) (λ _. ftrue)) (boxed (block_ptr b o) y)) x $ s)

  pub held_none : K → (p : Ptr) → Step K 𝓛 (‵ (held false p None) ∷ Γ) G Γ G
  held_none t p = step (λ s. let none : Option LineFollower = None in nothing t $ fpack t (none ≡ none) (λ _. ftrue) refl $ s)

  -- what is held is one of the two
  pub either_held : K → (is_open : Bool) (p : Ptr) (x : Option LineFollower)
      → (is_open ≡ false → x ≡ None → Seq K 𝓛 Γ G)
      → ((b o : ℕ) (y : LineFollower) → is_open ≡ true → p ≡ block_ptr b o → x ≡ Some y → Seq K 𝓛 (‵ (boxed (block_ptr b o) y) ∷ Γ) G)
      → Seq K 𝓛 (‵ (held is_open p x) ∷ Γ) G
  either_held t true p x none some = fpick t (λ y. fsplit t $ fpick t (λ is. drop t $
      in_a_block t p (λ q. boxed q y) (fst∗ 𝓤 (never 𝓤) (sem 𝓛 (ghosts.dealloc_token heap (bare (lone the_row.mir)) null_ptr))) (λ b o e.
      some b o y refl e is)))
  either_held t false p x none some = fpick t (λ is. drop t $ none refl is)

-- the machine values fit the struct
pub handle_good : (p : Ptr) (o : Bool) → Good (layout handle.the_row) (both (ptr_val p) (vbool o))
handle_good (block_ptr b n) o = (tt, (tt, (tt, tt)))
handle_good null_ptr o = (tt, (record { fits = lit< tt }, (tt, tt)))

-- and those of a pointer its type
pub Ptr-Good : (p : Ptr) → Good ty_ptr (ptr_val p)
Ptr-Good (block_ptr b n) = (tt, tt)
Ptr-Good null_ptr = (tt, (record { fits = lit< tt }))
