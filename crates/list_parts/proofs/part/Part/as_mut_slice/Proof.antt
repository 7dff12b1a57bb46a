-- `as_mut_slice` lends the values, and the part follows them. Assumes `Logic`.
use Rattle.atomic_table.proofs.Names.{◌≡◌, ℕ, ◌*◌, ◌^◌, ◌<◌, List, [], ◌∷◌, length, sym, refl, ◌∙◌, subst, named, a_type, Val, inst_fn, SProp, ent, sep, via, id⊢, Lft, Share, Fml, fsep, ftrue, flft, ‵, raw, ◌⊛◌, some, later, at_ret, ◌$◌, ◌∵◌, !, qed, done, move, keep, split, split3, join, group, fsplit, fsplit3, fjoin, fpack, pick, use1, rewrite, await, stop, fld, load, of_opd, no_more, and_then, first, blocks, exec, returns, enter, alloc_all, pass_all, free_all, look_at, look_in, get, through, sets, sets_last, env, agg, sub, whole, tables, no, RattleType, owns, types_at, plain, block_ptr, nothing, param, layouts, Stays, stay_dropped, walk_of, Goes-spent_ref, ends_at, fact, mut_vals, mut_Tells, opens, cell_at, mem, Logic, sem, full_share, ◌⊑◌}
use seplogic.Ra.Ura.{Ura}
use types.SemTy.{cells}
use denote.Array.{Array}
use denote.Builtin.{RefMutOf}
use denote.Follow.{follows}
use denote.FollowSlice.{Elements, lends_Elements}
use denote.Index.{whole_in, whole_out}
use denote.Memory.{part_of}
use denote.Ref.{MutBor}
use denote.Slice.{MutSlice, slice_val}
use denote.Triple.Walked.{says}
use Rattle.atomic_table.proofs.Walks.{proved}
use Rattle.core.proofs.mem.Param.{El, R, el_x}
use Rattle.core.proofs.slots.Bodies.{after}
use Rattle.core.proofs.slots.Opens.{row_val}
use Rattle.core.proofs.slots.Places.{sz, of_row, to_row}
use lib.ListN.{length-replicate, get_or-replicate}
use mathlib.Core.Bool.{true, false}
use Rattle.list_parts.specs.Lent.{part_with}
use Rattle.list_parts.proofs.Holding.{Pr, part_d, places, part_had, part_made}
use Rattle.list_parts.specs.contracts.part.Part.as_mut_slice.{ended, clauses}
use Rattle.list_parts.specs.contracts.part.Part.as_mut_slice.Key.{name as #self}
use Rattle.list_parts.proofs.part.Part.as_mut_slice.Statement.{statement}
use Rattle.list_parts.proofs.part.Part.as_mut_slice.Code as code

module _ (E : El) {M : Type 1} {𝓤 : Ura M} (𝓛 : Logic 𝓤) (rb ro b o : ℕ) (h : part_d E) where
  -- the two words
  abbrev Rest : Fml
  Rest = cell_at full_share (Pr E).mir (row_val b o h.len ∷ []) rb ro

  out : ent 𝓤 (sem 𝓛 (places E h b o)) (sem 𝓛 (cells (mem (R E)) h.items b o))
  out = let n : ℕ = length h.items in via 𝓤 _ (to_row E 𝓛 b h.items _ o (length-replicate n true) (λ k lt. get_or-replicate n k true false (subst (λ (j : ℕ). k < j) (length-replicate n true) lt))) (whole_in 𝓛 (R E) h.items b o)

  back : h.start ≡ block_ptr b o → h.len < 2 ^ 64 → h.len * sz E < 2 ^ 63 → (ws : List (el_x E)) → length ws ≡ length h.items
      → ent 𝓤 (sep 𝓤 (sem 𝓛 (cells (mem (R E)) ws b o)) (sem 𝓛 Rest)) (sem 𝓛 ((mem (Pr E)).own_at (part_with h ws) rb ro))
  unfolding part_of
  back at_b fl fit ws e =
      let l : h.len ≡ length ws = h.counted ∙ sym e in
      qed 𝓛 (‵ (cells (mem (R E)) ws b o) ∷ ‵ Rest ∷ []) ∵ rewrite ! 1 (λ (k : ℕ). ‵ (cell_at full_share (Pr E).mir (row_val b o k ∷ []) rb ro)) l refl $
      use1 𝓛 (‵ (places E (part_with h ws) b o)) (via 𝓤 _ (whole_out 𝓛 (R E) ws b o) (of_row E 𝓛 b ws o)) $
      part_made E ! (part_with h ws) b o at_b (subst (λ (k : ℕ). k < 2 ^ 64) l fl) (subst (λ (k : ℕ). k * sz E < 2 ^ 63) l fit) $ move ! (1 ∷ 0 ∷ []) $ fjoin ! $
      fpack ! (List Val) (λ us. fsep (cell_at full_share (Pr E).mir us rb ro) ((Pr E).own_val (part_with h ws) us)) (row_val b o (length ws) ∷ []) $ done !

pub as_mut_slice_spec : {M : Type 1} → statement M
as_mut_slice_spec 𝓤 𝓛 𝓜 𝓡 wired T L =
    let H = 𝓛.H in let 𝓣 = tables 𝓤 H 𝓜 𝓡 𝓡.env in let E : El = record { row = T; laws = L } in let Q : RattleType = param 0 T in let En = ended T in
    let inst = layouts (a_type ∷ []) (T, tt) in let fn = inst_fn inst code.function in let c = clauses T 𝓛 𝓜.mem 𝓡.returns in
    let hs : Stays En.signature.params En.kept = (stay_dropped (RefMutOf (0 ∷ []) tt (plain (λ _. Pr E)) (λ _. tt)) no, tt) in
    proved 𝓛 En hs c 𝓜 𝓡 (Goes-spent_ref 𝓛 2 (0 ∷ []) tt (plain (λ _. Pr E)), tt) (#self inst) fn (code.unfolded 𝓤 H 𝓜 𝓡 wired (T, tt))
    (λ κs. (mut_vals, tt)) (λ κs. (mut_Tells (named 0) κs.0 (Pr E), tt)) (λ κs qs bounds a gh are.
    let κ : Lft = κs.0 in let κ₁ : Lft = κs.1.0 in let q : Share = qs.0 in let q₁ : Share = qs.1.0 in
    let rb : ℕ = a.0.ref_ptr.0 in let ro : ℕ = a.0.ref_ptr.1 in let γ : ℕ = a.0.ghost_name in let h : part_d E = a.0.now in let n : ℕ = h.len in let xs : List T.Denot = h.items in let vs : List Val = mut_vals a.0 in
    let z : (walk_of 𝓛 En hs c).Ghost = ((κs, qs, bounds, a, (vs, tt)), gh) in let Post : Val → SProp 𝓤 = (walk_of 𝓛 En hs c).post z in
    qed 𝓛 (((‵ (flft κ q) ⊛ ‵ (flft κ₁ q₁) ⊛ ‵ ftrue) ⊛ ‵ (owns (types_at En.signature.params κs) a z.0.4)) ∷ (raw (fact 𝓤 (κ₁ ⊑ T.lives)) ⊛ ‵ ftrue) ∷ []) ∵
    split ! $ split ! $ move ! (2 ∷ []) $ fsplit ! $ fsplit3 ! $ keep ! (1 ∷ 2 ∷ 4 ∷ 5 ∷ []) $
    enter ! 𝓣.C 𝓣.Λ fn vs Post $ alloc_all ! (λ l. pass_all ! refl ((tt, tt), tt) $ let Ev = env fn.locals l in
    opens ! tt (Pr E) {h = h} rb ro (λ us. move ! (1 ∷ []) $ part_had E ! h us (λ b o at_b e fl fit.
    rewrite ! 1 (λ (ws : List Val). ‵ (cell_at full_share (Pr E).mir ws rb ro)) e refl $
    -- [the places; the words; the open borrow; obs; auth; the other token]
    first ! $ blocks ! $ sets ! (of_opd ! (load ! (through ! refl (fld ! refl (stop !))) (look_in ! 1 (sub ! 0 refl (whole !))))) refl (tt, tt) $
    sets ! (of_opd ! (load ! (through ! refl (fld ! refl (stop !))) (look_in ! 1 (sub ! 1 refl (whole !))))) refl (tt, record { fits = fl }) $
    sets_last ! (agg ! (and_then ! (get ! refl) (and_then ! (get ! refl) (no_more !)))) refl (tt, (tt, (record { fits = fl }, tt))) $
    exec ! 𝓣.C 𝓣.Λ Ev (after 1 fn.body) (at_ret Ev Post) $ sets ! (of_opd ! (get ! refl)) refl (tt, (tt, (record { fits = fl }, tt))) $
    use1 𝓛 (‵ (cells (mem (R E)) xs b o)) (out E 𝓛 rb ro b o h) $ move ! (2 ∷ 3 ∷ 4 ∷ 0 ∷ 1 ∷ []) $ group ! 5 $
    let roomy : length xs < 2 ^ 64 = subst (λ (k : ℕ). k < 2 ^ 64) h.counted fl in let fitting : length xs * sz E < 2 ^ 63 = subst (λ (k : ℕ). k * sz E < 2 ^ 63) h.counted fit in
    let way = back E 𝓛 rb ro b o h at_b fl fit in let left : Fml = Rest E 𝓛 rb ro b o h in
    use1 𝓛 (later (some (λ (δ : ℕ). raw (Elements 𝓛 (Pr E) (R E) (part_with h) (named 0) κ q rb ro b o γ xs (roomy, fitting) (sem 𝓛 left) way δ))))
    (lends_Elements 𝓛 (Pr E) (R E) (part_with h) (named 0) κ q rb ro b o γ xs (roomy, fitting) (sem 𝓛 left) way ((Pr E).coded.code h) ((Pr E).coded.code h)) $ await ! tt $ pick ! (λ δ.
    let lent : MutBor (List T.Denot) = record { ref_ptr = (b, o); ghost_name = δ; now = xs } in let Slice : ℕ → Fml = λ k. (MutSlice (named 0) κ (R E)).own_val lent (slice_val (b, o) k ∷ []) in
    use1 𝓛 (‵ (Slice (length xs)) ⊛ ‵ (flft κ q) ⊛ ‵ (follows (Pr E) (Array (R E) 0) γ δ (part_with h))) (id⊢ 𝓤 _) $ split3 ! $ rewrite ! 0 (λ (k : ℕ). ‵ (Slice k)) (sym h.counted) refl $
    returns ! (look_at ! 0 refl) $ free_all ! refl $ types.Kit.suffices ! _ (ends_at 𝓛 En hs c z (slice_val (b, o) n) lent (tt, tt) (tt, tt)) $
    nothing ! $ nothing ! $ fjoin ! $ join ! $ move ! (1 ∷ 3 ∷ []) $ join ! $ join ! $ types.Kit.frame ! $ says ! refl $ keep ! (0 ∷ []) $ done !)))))
