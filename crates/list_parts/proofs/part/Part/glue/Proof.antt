-- The second part's places lie right behind the first's.
use Rattle.atomic_table.proofs.Names.{◌≡◌, ℕ, ◌+◌, ◌*◌, ◌^◌, ◌<◌, List, [], ◌∷◌, ◌++◌, length, sym, refl, ap, ◌∙◌, subst, arith, a_type, Val, inst_fn, SProp, ent, emp, id⊢, Lft, Share, ftrue, flft, ‵, raw, ◌⊛◌, ◌$◌, ◌∵◌, !, qed, by, move, keep, split, join, fsplit, fjoin, use0, use2, rewrite, stop, fld, of_opd, no_more, and_then, bin, returns, enter, alloc_all, pass_all, free_all, look_at, get, get_in, sets, agg, sub, whole, tables, no, RattleType, owns, types_at, plain, Ptr, block_ptr, nothing, param, layouts, Stays, stay_dropped, walk_of, Goes-dropped, fact, fact_i, heard, WpFn, ◌⊑◌}
use lib.ListN as lists
use Rattle.atomic_table.proofs.Walks.{proved_at, leaves}
use Rattle.core.specs.Mem.Slots.Ownership.{slots}
use denote.RawPtr.{◌+ₚ◌}
use Rattle.core.proofs.slots.Opens.{row_val}
use Rattle.core.proofs.slots.Places.{sz}
use Rattle.core.proofs.mem.Param.{El}
use Rattle.list_parts.specs.Parts.{part_items, part_start, Follows, Fits}
use Rattle.list_parts.proofs.Holding.{Pr, part_d, flags, part_had, part_made}
use Rattle.list_parts.proofs.Cutting.{full, glued}
use Rattle.list_parts.specs.contracts.part.Part.glue.{ended, clauses}
use Rattle.list_parts.specs.contracts.part.Part.glue.Key.{name as #self}
use Rattle.list_parts.proofs.part.Part.glue.Statement.{statement}
use Rattle.list_parts.proofs.part.Part.glue.Code as code

pub glue_spec : {M : Type 1} → statement M
glue_spec 𝓤 𝓛 𝓜 𝓡 wired T L =
    let H = 𝓛.H in let 𝓣 = tables 𝓤 H 𝓜 𝓡 𝓡.env in let R : RattleType = param 0 T in let E : El = record { row = T; laws = L } in let En = ended T in
    let inst = layouts (a_type ∷ []) (T, tt) in let fn = inst_fn inst code.function in let c = clauses T 𝓛 𝓜.mem 𝓡.returns in let s : ℕ = sz E in
    let hs : Stays En.signature.params En.kept = (stay_dropped (plain (λ _. Pr E)) no, (stay_dropped (plain (λ _. Pr E)) no, tt)) in let goes = Goes-dropped 𝓛 1 (plain (λ _. Pr E)) no (λ κs x f. refl) in
    proved_at 𝓛 En hs c 𝓜 𝓡 (goes, (goes, tt)) (#self inst) fn (code.unfolded 𝓤 H 𝓜 𝓡 wired (T, tt)) (λ z are.
    let κ : Lft = z.0.0.0 in let q : Share = z.0.1.0 in let d : part_d E = z.0.3.0 in let d' : part_d E = z.0.3.1.0 in let vss = z.0.4 in
    let xs : List T.Denot = d.items in let ys : List T.Denot = d'.items in let k : ℕ = d.len in let k' : ℕ = d'.len in
    let Post : Val → SProp 𝓤 = (walk_of 𝓛 En hs c).post z in let Run : List Val → SProp 𝓤 = λ ws. WpFn 𝓤 H 𝓣.C 𝓣.Λ fn ws Post in
    let Behind : Type 0 = Follows s d d' in let Size : Type 0 = Fits s (length xs + length ys) in
    qed 𝓛 (((‵ (flft κ q) ⊛ ‵ ftrue) ⊛ ‵ (owns (types_at En.signature.params z.0.0) z.0.3 vss)) ∷ raw (fact 𝓤 (κ ⊑ T.lives)) ∷ raw (fact 𝓤 Behind) ∷ raw (fact 𝓤 Size) ∷ []) ∵
    move ! (1 ∷ 2 ∷ 3 ∷ []) $ heard ! (κ ⊑ T.lives) (λ le. heard ! Behind (λ behind. heard ! Size (λ size. split ! $ split ! $ move ! (2 ∷ []) $ fsplit ! $ move ! (1 ∷ []) $ fsplit ! $
    part_had E ! d' vss.1.0 (λ b' o' at' e' fk' fit'. move ! (2 ∷ []) $ part_had E ! d vss.0 (λ b o at e fk fit. keep ! (0 ∷ 1 ∷ 3 ∷ []) $
    let all : ℕ = k + k' in let same : length xs + length ys ≡ all = (λ i. sym d.counted i + sym d'.counted i) in let fa : all < 2 ^ 64 = subst (λ (j : ℕ). j < 2 ^ 64) same size.count in
    let us : List Val = row_val b o k ∷ row_val b' o' k' ∷ [] in
    let new : part_d E = record { start = block_ptr b o; len = all; items = xs ++ ys; counted = sym same ∙ sym (lists.length-append xs ys) } in
    types.Kit.suffices ! (Run us) (subst (λ (ws : List Val). ent 𝓤 (Run us) (Run ws)) (sym (λ i. e i ++ (e' i ++ []))) (id⊢ 𝓤 (Run us))) $
    enter ! 𝓣.C 𝓣.Λ fn us Post $ alloc_all ! (λ l. pass_all ! refl ((tt, (tt, (record { fits = fk }, tt))), ((tt, (tt, (record { fits = fk' }, tt))), tt)) $
    sets ! (of_opd ! (get_in ! (fld ! refl (stop !)) (sub ! 0 refl (whole !)))) refl (tt, tt) $ sets ! (of_opd ! (get_in ! (fld ! refl (stop !)) (sub ! 1 refl (whole !)))) refl (tt, record { fits = fk }) $
    sets ! (of_opd ! (get_in ! (fld ! refl (stop !)) (sub ! 1 refl (whole !)))) refl (tt, record { fits = fk' }) $ sets ! (bin ! (get ! refl) (get ! refl) (record { fits = fa })) refl (tt, record { fits = fa }) $
    sets ! (agg ! (and_then ! (get ! refl) (and_then ! (get ! refl) (no_more !)))) refl (tt, (tt, (record { fits = fa }, tt))) $
    rewrite ! 1 (λ (p : Ptr). ‵ (slots R p ys (flags ys))) (sym at' ∙ behind.start ∙ ap (λ (p : Ptr). p +ₚ length xs * s) at ∙ ap (block_ptr b) (let swap : o + length xs * s ≡ length xs * s + o = omega arith in swap)) refl $
    use2 𝓛 (‵ (full E 𝓛 b o o (xs ++ ys))) (glued E 𝓛 b o xs ys) $ part_made E ! new b o refl fa (subst (λ (j : ℕ). j * s < 2 ^ 63) same size.bytes) $
    nothing ! $ move ! (2 ∷ 0 ∷ []) $ join ! $
    let Place : Type 0 = part_start new ≡ part_start d in let Items : Type 0 = part_items new ≡ xs ++ ys in
    use0 𝓛 (raw (fact 𝓤 Items)) (fact_i 𝓤 Items (emp 𝓤) refl) $ use0 𝓛 (raw (fact 𝓤 Place)) (fact_i 𝓤 Place (emp 𝓤) (sym at)) $ join ! $
    nothing ! $ nothing ! $ fjoin ! $ nothing ! $ fjoin ! $
    returns ! (look_at ! 0 refl) $ free_all ! refl $ keep ! (2 ∷ 0 ∷ 3 ∷ 1 ∷ []) $ by ! (leaves 𝓛 En hs c z (row_val b o all) new (tt, (tt, tt)) (tt, (tt, tt))))))))))
