-- What a `Part` owns is taken apart and made. Assumes `Logic`.
use mathlib.Core.Path.{◌≡◌, refl, sym, ap, ◌∙◌}
use mathlib.Core.Bool.{Bool, true}
use mathlib.Core.List.{List, [], ◌∷◌, ◌++◌}
use Prim.Native.Nat.{ℕ, ◌*◌, ◌<◌, ◌^◌}
use lib.ListN.{length, replicate}
use seplogic.Ra.Ura.{Ura}
use mir.Syntax.{w64}
use mir.Val.{Val, vint, vptr, vstruct, of_list}
use base.Logic.{id⊢, never}
use base.Fml.{Fml, fsep, flt}
use types.Logic.{Logic}
use types.Kit.{Goal, Step, step, Seq, Item, ‵, ◌$◌, drop, rewrite, fsplit, fjoin, fpick, fpack, feq_l, feq_i, flt_l, flt_i}
use denote.RattleType.{RattleType, Valss}
use denote.RawPtr.{Ptr, block_ptr, in_block, in_a_block}
use denote.Steps.{nothing}
use denote.Struct.Struct.{Struct, within}
use denote.Struct.Owning.{Owning, shape}
use Rattle.core.specs.Mem.Slots.Ownership.{slots}
use Rattle.core.proofs.mem.Param.{El, R, el_x}
use Rattle.core.proofs.slots.Places.{sz}
use Rattle.core.proofs.slots.Opens.{words_val, row_val}
use Rattle.list_parts.specs.declared.part.Part.{Part}
use Rattle.list_parts.specs.contracts.part.Part as C

abbrev pub flags : {X : Type 0} → List X → List Bool
flags xs = replicate (length xs) true

module _ (E : El) where
  abbrev pub owning : Owning
  owning = C.the_type (R E)

  abbrev pub Pr : RattleType
  Pr = C.the_row (R E)

  abbrev pub part_d : Type 0
  part_d = Part (el_x E)

  -- the two data fields, as a plain struct
  abbrev pub Words : RattleType
  Words = Struct (shape owning)

  abbrev pub places : part_d → ℕ → ℕ → Fml
  places d b o = slots (R E) (block_ptr b o) d.items (flags d.items)

module _ (E : El) {M : Type 1} {𝓤 : Ura M} {𝓛 : Logic 𝓤} {K : Type 0} {Γ : List (Item 𝓤)} {G : Goal 𝓤 𝓛.H} where
  pub part_had : K → (d : part_d E) (vs : List Val)
      → ((b o : ℕ) → d.start ≡ block_ptr b o → vs ≡ row_val b o d.len ∷ [] → d.len < 2 ^ 64 → d.len * sz E < 2 ^ 63 → Seq K 𝓛 (‵ (places E d b o) ∷ Γ) G)
      → Seq K 𝓛 (‵ ((Pr E).own_val d vs) ∷ Γ) G
  part_had t d vs k =
      fsplit t $ fpick t (λ vss. fsplit t $ feq_l t (λ all. fsplit t $ feq_l t (λ e₀. fsplit t $ fsplit t $ feq_l t (λ e₁. flt_l t (λ fn. drop t $ fsplit t $ flt_l t (λ fit.
      in_a_block t d.start (λ p. in_block p (slots (R E) p d.items (flags d.items))) (id⊢ 𝓤 (never 𝓤)) (λ b o e.
      k b o e (all ∙ ((λ i. vstruct (of_list (e₀ i ++ (e₁ i ++ []))) ∷ []) ∙ ap (λ (p : Ptr). words_val p d.len ∷ []) e)) fn fit)))))))

  pub part_made : K → (d : part_d E) (b o : ℕ) → d.start ≡ block_ptr b o → d.len < 2 ^ 64 → d.len * sz E < 2 ^ 63
      → Step K 𝓛 (‵ ((Pr E).own_val d (row_val b o d.len ∷ [])) ∷ Γ) G (‵ (places E d b o) ∷ Γ) G
  part_made t d b o at fn fit = step (λ s.
      flt_i t (d.len * sz E) (2 ^ 63) fit $ fjoin t $
      nothing t $ flt_i t d.len (2 ^ 64) fn $ feq_i t (List Val) (vint w64 d.len ∷ []) (vint w64 d.len ∷ []) refl $ fjoin t $ fjoin t $
      feq_i t (List Val) (vptr b o ∷ []) (vptr b o ∷ []) refl $ fjoin t $ feq_i t (List Val) (row_val b o d.len ∷ []) (row_val b o d.len ∷ []) refl $ fjoin t $
      fpack t (Valss (shape (owning E)).fields) (within (shape (owning E)) (block_ptr b o, (d.len, tt)) (row_val b o d.len ∷ [])) (vptr b o ∷ [], (vint w64 d.len ∷ [], tt)) $ fjoin t $
      rewrite t 0 (λ (p : Ptr). ‵ (fsep ((Words E).own_val (p, (d.len, tt)) (row_val b o d.len ∷ [])) (fsep (flt (d.len * sz E) (2 ^ 63)) (in_block p (slots (R E) p d.items (flags d.items)))))) (sym at) refl $ s)
