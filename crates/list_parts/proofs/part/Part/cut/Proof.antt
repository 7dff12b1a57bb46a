-- The pointer goes on by the first part's size, and each half takes its places.
use Rattle.atomic_table.proofs.Names.{◌≡◌, ℕ, ◌+◌, ◌-◌, ◌*◌, ◌^◌, ◌<◌, ◌≤◌, List, [], ◌∷◌, ◌++◌, length, sym, refl, ap, ◌∙◌, subst, arith, w64, a_type, Val, vint, vstruct, vcons, inst_fn, SProp, ent, emp, id⊢, Lft, Share, ftrue, flft, ‵, raw, ◌⊛◌, at_ret, ◌$◌, ◌∵◌, !, qed, by, move, keep, drop, split, join, fsplit, fjoin, fjoin3, fpack, feq_i, feq_l, flt_l, use0, use1, suffices, stop, fld, of_opd, no_more, and_then, first, blocks, exec, bin, size_word, returns, enter, alloc_all, pass_all, free_all, look_at, get, get_in, sets, sets_last, is, env, agg, sub, whole, tables, no, yes, RattleType, Valss, owns, types_at, plain, block_ptr, nothing, param, layouts, Stays, stay_dropped, walk_of, Goes-dropped, fact, fact_i, heard, usize, WpFn, ◌⊑◌}
use mir.Val.{vnil}
use denote.Struct.Struct.{within}
use denote.Struct.Declared as Declared
use denote.Struct.Tuple.{tuple_type}
use lib.ListN as lists
use lib.Seq.{length-take-le}
use Rattle.atomic_table.proofs.Walks.{proved_at, leaves}
use Rattle.core.proofs.slots.Bodies.{after}
use Rattle.core.proofs.slots.Leases.{uncapped}
use Rattle.core.proofs.slots.Opens.{row_val}
use Rattle.core.proofs.slots.Places.{sz}
use Rattle.core.proofs.ptr.Rows.{times_below}
use Rattle.core.proofs.mem.Param.{El}
use Rattle.list_parts.specs.Parts.{part_items, part_start, Follows, Fits}
use Rattle.list_parts.proofs.Holding.{Pr, part_d, part_had, part_made}
use Rattle.list_parts.proofs.Cutting.{full, cut_at}
use Rattle.list_parts.specs.contracts.part.Part.cut.{ended, clauses}
use Rattle.list_parts.specs.contracts.part.Part.cut.Key.{name as #self}
use Rattle.list_parts.proofs.part.Part.cut.Statement.{statement}
use Rattle.list_parts.proofs.part.Part.cut.Code as code

pub cut_spec : {M : Type 1} → statement M
cut_spec 𝓤 𝓛 𝓜 𝓡 wired T L =
    let H = 𝓛.H in let 𝓣 = tables 𝓤 H 𝓜 𝓡 𝓡.env in let R : RattleType = param 0 T in let E : El = record { row = T; laws = L } in let En = ended T in
    let inst = layouts (a_type ∷ []) (T, tt) in let fn = inst_fn inst code.function in let c = clauses T 𝓛 𝓜.mem 𝓡.returns in let s : ℕ = sz E in
    let hs : Stays En.signature.params En.kept = (stay_dropped (plain (λ _. Pr E)) no, (stay_dropped (plain (λ _. usize)) yes, tt)) in
    proved_at 𝓛 En hs c 𝓜 𝓡 (Goes-dropped 𝓛 1 (plain (λ _. Pr E)) no (λ κs x f. refl), (Goes-dropped 𝓛 1 (plain (λ _. usize)) yes (λ κs x f. refl), tt)) (#self inst) fn (code.unfolded 𝓤 H 𝓜 𝓡 wired (T, tt)) (λ z are.
    let κ : Lft = z.0.0.0 in let q : Share = z.0.1.0 in let d : part_d E = z.0.3.0 in let n : ℕ = z.0.3.1.0 in let vss = z.0.4 in let xs : List T.Denot = d.items in let k : ℕ = d.len in
    let Post : Val → SProp 𝓤 = (walk_of 𝓛 En hs c).post z in let Run : List Val → SProp 𝓤 = λ ws. WpFn 𝓤 H 𝓣.C 𝓣.Λ fn ws Post in
    qed 𝓛 (((‵ (flft κ q) ⊛ ‵ ftrue) ⊛ ‵ (owns (types_at En.signature.params z.0.0) z.0.3 vss)) ∷ raw (fact 𝓤 (κ ⊑ T.lives)) ∷ raw (fact 𝓤 (n ≤ length xs)) ∷ []) ∵
    move ! (1 ∷ 2 ∷ []) $ heard ! (κ ⊑ T.lives) (λ le. heard ! (n ≤ length xs) (λ low. split ! $ split ! $ move ! (2 ∷ []) $ fsplit ! $ move ! (1 ∷ []) $ fsplit ! $ fsplit ! $ feq_l ! (λ e₁. flt_l ! (λ fa. drop ! $
    part_had E ! d vss.0 (λ b o at e fk fit. keep ! (0 ∷ 1 ∷ []) $
    let within_len : n ≤ k = (let counted : k ≡ length xs = d.counted in omega arith) in let rest : ℕ = k - n in let fr : rest < 2 ^ 64 = omega arith in
    let fits_n : n * s < 2 ^ 63 = times_below n k s (2 ^ 63) within_len fit in let fits_rest : rest * s < 2 ^ 63 = times_below rest k s (2 ^ 63) (omega arith) fit in let fm : n * s < 2 ^ 64 = omega arith in
    let us : List Val = row_val b o k ∷ vint w64 n ∷ [] in let middle : ℕ = n * s + o in
    let one : part_d E = record { start = block_ptr b o; len = n; items = lists.take n xs; counted = sym (length-take-le n xs low) } in
    let other : part_d E = record { start = block_ptr b middle; len = rest; items = lists.drop n xs; counted = ap (λ (j : ℕ). j - n) d.counted ∙ sym (lists.length-drop n xs) } in
    let pair : Val = vstruct (vcons (row_val b o n) (vcons (row_val b middle rest) vnil)) in
    types.Kit.suffices ! (Run us) (subst (λ (ws : List Val). ent 𝓤 (Run us) (Run ws)) (sym (λ i. e i ++ (e₁ i ++ []))) (id⊢ 𝓤 (Run us))) $
    enter ! 𝓣.C 𝓣.Λ fn us Post $ alloc_all ! (λ l. pass_all ! refl ((tt, (tt, (record { fits = fk }, tt))), ((tt, record { fits = fa }), tt)) $ let Ev = env fn.locals l in
    sets ! (of_opd ! (get_in ! (fld ! refl (stop !)) (sub ! 0 refl (whole !)))) refl (tt, tt) $ sets ! (of_opd ! (get_in ! (fld ! refl (stop !)) (sub ! 1 refl (whole !)))) refl (tt, record { fits = fk }) $
    first ! $ blocks ! $ sets ! (is ! (bin ! (get ! refl) (size_word !) (record { fits = subst (λ (j : ℕ). j < 2 ^ 64) (sym (uncapped n s fm)) fm })) (ap (vint w64) (uncapped n s fm))) refl (tt, record { fits = fm }) $
    sets_last ! (bin ! (get ! refl) (get ! refl) tt) refl (tt, tt) $ exec ! 𝓣.C 𝓣.Λ Ev (after 3 fn.body) (at_ret Ev Post) $ sets ! (of_opd ! (get ! refl)) refl (tt, tt) $
    sets ! (agg ! (and_then ! (get ! refl) (and_then ! (get ! refl) (no_more !)))) refl (tt, (tt, (record { fits = fa }, tt))) $
    sets ! (bin ! (get ! refl) (get ! refl) within_len) refl (tt, record { fits = fr }) $
    sets ! (agg ! (and_then ! (get ! refl) (and_then ! (get ! refl) (no_more !)))) refl (tt, (tt, (record { fits = fr }, tt))) $
    sets ! (agg ! (and_then ! (get ! refl) (and_then ! (get ! refl) (no_more !)))) refl (tt, ((tt, (record { fits = fa }, tt)), ((tt, (record { fits = fr }, tt)), tt))) $
    use1 𝓛 (‵ (full E 𝓛 b o o (lists.take n xs)) ⊛ ‵ (full E 𝓛 b o middle (lists.drop n xs))) (cut_at E 𝓛 b o xs n low) $ split ! $
    part_made E ! one b o refl fa fits_n $ move ! (1 ∷ []) $ part_made E ! other b middle refl fr fits_rest $
    nothing ! $ move ! (2 ∷ 1 ∷ 0 ∷ []) $ fjoin3 ! $ feq_i ! (List Val) (pair ∷ []) (pair ∷ []) refl $ fjoin ! $
    fpack ! (Valss (Pr E ∷ Pr E ∷ [])) (within (Declared.shape (tuple_type (Pr E ∷ Pr E ∷ []))) (one, (other, tt)) (pair ∷ [])) (row_val b o n ∷ [], (row_val b middle rest ∷ [], tt)) $
    nothing ! $ move ! (2 ∷ 0 ∷ []) $ join ! $
    let Place : Type 0 = (part_start one ≡ part_start d) × Follows s one other in let Items : Type 0 = (part_items one ≡ lists.take n xs) × (part_items other ≡ lists.drop n xs) in let Size : Type 0 = Fits s (length xs) in
    use0 𝓛 (raw (fact 𝓤 Size)) (fact_i 𝓤 Size (emp 𝓤) (subst (λ (j : ℕ). Fits s j) d.counted (record { count = fk; bytes = fit }))) $
    use0 𝓛 (raw (fact 𝓤 Items)) (fact_i 𝓤 Items (emp 𝓤) (refl, refl)) $ join ! $
    use0 𝓛 (raw (fact 𝓤 Place)) (fact_i 𝓤 Place (emp 𝓤) (sym at, record { start = ap (block_ptr b) (let swap : n * s + o ≡ o + n * s = omega arith in swap) ∙ ap (λ (j : ℕ). block_ptr b (o + j * s)) (sym (length-take-le n xs low)) })) $ join ! $
    nothing ! $ nothing ! $ fjoin ! $ nothing ! $ fjoin ! $
    returns ! (look_at ! 0 refl) $ free_all ! refl $ keep ! (2 ∷ 0 ∷ 3 ∷ 1 ∷ []) $ by ! (leaves 𝓛 En hs c z pair (one, other) (tt, (tt, tt)) (tt, (tt, tt))))))))))
