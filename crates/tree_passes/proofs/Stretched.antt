-- The stretches of a walk, one behind the other, are the walk.
use Rattle.std.proofs.Common.{◌≡◌, ℕ, zero, suc, ◌+◌, ◌-◌, ◌<◌, ◌≤◌, Bool, true, false, List, [], ◌∷◌, ◌++◌, length, map, get_or, refl, sym, ap, ◌∙◌, subst, arith, append_assoc}
use Rattle.std.specs.Prelude.{if◌then◌else◌, nat_eq, flat_map}
use Rattle.std.specs.List.{range_with_len}
use Rattle.std.proofs.lemmas.Bool.Decides.{nat_tests}
use Rattle.std.proofs.lemmas.List.{append-nil, length-map}
use Rattle.source_meaning.specs.Grammar.{Prog, Tree, left_parse, number_of}
use Rattle.list_cuts.specs.Cuts.{number_at, start_of}
use Rattle.row_walk.specs.Walk.{Made, made_by, start}
use Rattle.row_pieces.specs.Pieces.{Standing, acts, closes_all, last_behind, no_row, stood}
use Rattle.row_pieces.specs.Reduced.{reduced}
use Rattle.row_pieces.specs.Sound.{AreSingle, AreSound, IsSound, rows_of, weights}
use Rattle.row_pieces.specs.Steps.{IsCutOff}
use Rattle.row_pieces.specs.Stretches.{kids_in, level_behind, pieces_in, reads_in}
use Rattle.row_pieces.specs.declared.piece.Piece.{Piece}
use Rattle.row_pieces.specs.declared.piece.Piece.TheVariants.{Cut}
use Rattle.row_pieces.specs.declared.tally.Tally.{Tally}
use Rattle.row_pieces.specs.Laws.Walks.{acts_more, all_made, closes_more}
use Rattle.row_pieces.specs.Laws.Together.{kids_join, parse_level, parse_whole, reads_join, stretches_join}
use Rattle.row_pieces.specs.Laws.Weighed.{acts_sound, acts_weigh, counts, lasts, stretch_plain, weights_more}
use Rattle.row_pieces.specs.Laws.Stepping.{kids_few, levels_few, reads_few}
use Rattle.row_pieces.specs.Laws.Reducing.{reduced_acts}
use Rattle.row_pieces.specs.Laws.Untouched.{apart_rows}
use Rattle.tree_passes.specs.Stretches.{IsCut, AreTallies, IsHanded, acts_of_stretch, pieces_of_stretch, rows_of_stretch, standing_at, standing_before, tally_of}
use Rattle.tree_passes.proofs.LaidRows.{single_more}
use Rattle.tree_passes.proofs.Ranges.{flat_next, value_at}

abbrev pub rows_before : (numbers ends : List ℕ) → ℕ → List Made
rows_before numbers ends c = flat_map (rows_of_stretch numbers ends) (range_with_len 0 c)

pub rows_next : (numbers ends : List ℕ) (c : ℕ) → rows_before numbers ends (suc c) ≡ rows_before numbers ends c ++ rows_of_stretch numbers ends c
rows_next numbers ends c = flat_next (rows_of_stretch numbers ends) c

module _ (numbers ends : List ℕ) (cut : IsCut numbers ends) where
  -- ---- places
  pub start_within : (c : ℕ) → c ≤ length ends → start_of ends c ≤ length numbers
  start_within zero h = omega arith
  start_within (suc c) h = cut.cuts.within c (omega arith)

  pub level_few : (k : ℕ) → k ≤ length numbers → level_behind numbers k 0 1 ≤ 2147483648
  level_few k h = let a = levels_few numbers k 0 1 in let f = cut.few in omega arith

  pub read_few : (k : ℕ) → k ≤ length numbers → reads_in numbers k 0 ≤ 2147483648
  read_few k h = let a = reads_few numbers k 0 in let f = cut.few in omega arith

  pub kids_next : (c : ℕ) → c < length ends → kids_in numbers (number_at ends c) 0 ≡ kids_in numbers (start_of ends c) 0 + kids_in numbers (number_at ends c - start_of ends c) (start_of ends c)
  kids_next c h =
      let from = start_of ends c in
      let to = number_at ends c in
      let o = cut.cuts.order c h in
      ap (λ (n : ℕ). kids_in numbers n 0) (let e : to ≡ from + (to - from) = omega arith in e)
      ∙ kids_join numbers from (to - from) 0
      ∙ ap (λ (n : ℕ). kids_in numbers from 0 + kids_in numbers (to - from) n) (let e : 0 + from ≡ from = omega arith in e)

  pub reads_next : (c : ℕ) → c < length ends → reads_in numbers (number_at ends c) 0 ≡ reads_in numbers (start_of ends c) 0 + reads_in numbers (number_at ends c - start_of ends c) (start_of ends c)
  reads_next c h =
      let from = start_of ends c in
      let to = number_at ends c in
      let o = cut.cuts.order c h in
      ap (λ (n : ℕ). reads_in numbers n 0) (let e : to ≡ from + (to - from) = omega arith in e)
      ∙ reads_join numbers from (to - from) 0
      ∙ ap (λ (n : ℕ). reads_in numbers from 0 + reads_in numbers (to - from) n) (let e : 0 + from ≡ from = omega arith in e)

  pub kids_end_few : (c : ℕ) → c < length ends → kids_in numbers (number_at ends c) 0 ≤ 1610612739
  kids_end_few c h = let a = kids_few numbers (number_at ends c) 0 in let f = cut.few in let w = cut.cuts.within c h in omega arith

  pub reads_end_few : (c : ℕ) → c < length ends → reads_in numbers (number_at ends c) 0 ≤ 1610612739
  reads_end_few c h = let a = reads_few numbers (number_at ends c) 0 in let f = cut.few in let w = cut.cuts.within c h in omega arith

  pub kids_step : (tallies : List Tally) → AreTallies numbers ends tallies → length tallies ≤ length ends → (c : ℕ) → c < length tallies → (kids : ℕ) → kids ≡ kids_in numbers (start_of ends c) 0 → (d : Tally) → kids + (get_or tallies c d).kids ≡ kids_in numbers (number_at ends c) 0
  kids_step tallies is few c h kids e d = (λ i. e i + (value_at (tally_of numbers ends) d (length tallies) tallies c is h i).kids) ∙ sym (kids_next c (omega arith))

  pub reads_step : (tallies : List Tally) → AreTallies numbers ends tallies → length tallies ≤ length ends → (c : ℕ) → c < length tallies → (read : ℕ) → read ≡ reads_in numbers (start_of ends c) 0 → (d : Tally) → read + (get_or tallies c d).reads ≡ reads_in numbers (number_at ends c) 0
  reads_step tallies is few c h read e d = (λ i. e i + (value_at (tally_of numbers ends) d (length tallies) tallies c is h i).reads) ∙ sym (reads_next c (omega arith))

  pub level_there : (k : ℕ) → k ≤ length numbers → level_behind numbers k 0 1 ≡ suc (kids_in numbers k 0) - k
  level_there k h =
      let r = cut.parse.0 in
      let many = ap length cut.parse.1 in
      let n = length-map (left_parse r) number_of in
      subst (λ (ns : List ℕ). level_behind ns k 0 1 ≡ suc (kids_in ns k 0) - k) cut.parse.1 (parse_level r k (omega arith))

  -- ---- where the walk stands
  abbrev so_far : ℕ → List Piece
  so_far k = pieces_in numbers k 0 1 0

  pub stand_sound : (k : ℕ) → IsSound (standing_at numbers k)
  stand_sound k = acts_sound (so_far k) (stood start.rows) (stretch_plain numbers k 0 1 0).0.0 (omega arith)

  pub stand_few : (k : ℕ) → rows_of (standing_at numbers k) ≤ k
  stand_few k = let a = acts_weigh (so_far k) (stood start.rows) in let b = (stretch_plain numbers k 0 1 0).1 in omega arith

  far_next : (c : ℕ) → c < length ends → so_far (number_at ends c) ≡ so_far (start_of ends c) ++ pieces_of_stretch numbers ends c
  far_next c h =
      let from = start_of ends c in
      let to = number_at ends c in
      let o = cut.cuts.order c h in
      ap so_far (let e : to ≡ from + (to - from) = omega arith in e)
      ∙ stretches_join numbers from (to - from) 0 1 0
      ∙ (λ i. so_far from ++ pieces_in numbers (to - from) ((let e : 0 + from ≡ from = omega arith in e) i) (level_behind numbers from 0 1) ((let e : 0 + reads_in numbers from 0 ≡ reads_in numbers from 0 = omega arith in e) i))

  stand_next : (c : ℕ) → c < length ends → standing_at numbers (number_at ends c) ≡ acts (pieces_of_stretch numbers ends c) (standing_before numbers ends c)
  stand_next c h = ap (λ xs. acts xs (stood start.rows)) (far_next c h) ∙ acts_more (so_far (start_of ends c)) (pieces_of_stretch numbers ends c) (stood start.rows)

  pub sound_of : (c : ℕ) → AreSound (pieces_of_stretch numbers ends c)
  sound_of c = (stretch_plain numbers (number_at ends c - start_of ends c) (start_of ends c) (level_behind numbers (start_of ends c) 0 1) (reads_in numbers (start_of ends c) 0)).0.0

  pub single_of : (c : ℕ) → AreSingle (pieces_of_stretch numbers ends c)
  single_of c = (stretch_plain numbers (number_at ends c - start_of ends c) (start_of ends c) (level_behind numbers (start_of ends c) 0 1) (reads_in numbers (start_of ends c) 0)).0.1

  pub few_of : (c : ℕ) → weights (pieces_of_stretch numbers ends c) ≤ number_at ends c - start_of ends c
  few_of c = (stretch_plain numbers (number_at ends c - start_of ends c) (start_of ends c) (level_behind numbers (start_of ends c) 0 1) (reads_in numbers (start_of ends c) 0)).1

  pub reduced_next : (c : ℕ) → c < length ends → (pieces : List Piece) → pieces ≡ reduced (pieces_of_stretch numbers ends c) → acts pieces (standing_before numbers ends c) ≡ standing_before numbers ends (suc c)
  reduced_next c h pieces e =
      ap (λ xs. acts xs (standing_before numbers ends c)) e
      ∙ reduced_acts (pieces_of_stretch numbers ends c) (standing_before numbers ends c) (sound_of c) (stand_sound (start_of ends c))
      ∙ sym (stand_next c h)

  -- ---- the last cut
  pub no_cut : (c : ℕ) → suc c < length ends → acts_of_stretch numbers ends c ≡ pieces_of_stretch numbers ends c
  no_cut c h = by (nat_eq (suc c) (length ends)) refl
    where
      by : (b : Bool) → nat_eq (suc c) (length ends) ≡ b → pieces_of_stretch numbers ends c ++ (if b then Cut 0 false ∷ [] else []) ≡ pieces_of_stretch numbers ends c
      by true e = absurd (let g : suc c ≡ length ends = grind (arith, nat_tests) in omega arith)
      by false e = append-nil (pieces_of_stretch numbers ends c)

  pub end_cut : (c : ℕ) → suc c ≡ length ends → acts_of_stretch numbers ends c ≡ pieces_of_stretch numbers ends c ++ Cut 0 false ∷ []
  end_cut c h = by (nat_eq (suc c) (length ends)) refl
    where
      by : (b : Bool) → nat_eq (suc c) (length ends) ≡ b → pieces_of_stretch numbers ends c ++ (if b then Cut 0 false ∷ [] else []) ≡ pieces_of_stretch numbers ends c ++ Cut 0 false ∷ []
      by true e = refl
      by false e = absurd (let g : suc c ≡ length ends → ⊥ = grind (arith, nat_tests) in g h)

  -- ---- what is handed to a stretch
  pub handed_upper : (c : ℕ) → suc c < length ends → (pieces : List Piece) → pieces ≡ reduced (pieces_of_stretch numbers ends c) → (upper : Standing) → IsCutOff pieces upper (standing_before numbers ends c) → IsHanded numbers ends c upper
  handed_upper c h pieces e upper off =
      let xs = pieces_of_stretch numbers ends c in
      let whole = standing_before numbers ends c in
      let is : IsCutOff (reduced xs) upper whole = subst (λ (ys : List Piece). IsCutOff ys upper whole) e off in
      let a = apart_rows xs upper whole (sound_of c) (stand_sound (start_of ends c)) is in
      let f = stand_few (start_of ends c) in
      let g = a.2 in
      record {
        rows = ap (λ ys. closes_all ys upper) (no_cut c h) ∙ a.0 ∙ ap (λ ys. closes_all ys whole) (sym (no_cut c h));
        count = sym (ap (λ (s : Standing). s.count) is.is);
        last = sym (ap (λ (s : Standing). s.last) is.is);
        sound = a.1;
        few = omega arith;
      }

  pub handed_whole : (c : ℕ) → IsHanded numbers ends c (standing_before numbers ends c)
  handed_whole c = record { rows = refl; count = refl; last = refl; sound = stand_sound (start_of ends c); few = stand_few (start_of ends c) }

  -- ---- a stretch that is walked over from what it is handed
  pub walked_few : (c : ℕ) (s t : Standing) → c < length ends → IsHanded numbers ends c s → t ≡ acts (pieces_of_stretch numbers ends c) s → rows_of t ≤ 4294967295
  walked_few c s t i h e =
      let a = ap rows_of e in
      let b = acts_weigh (pieces_of_stretch numbers ends c) s in
      let f = few_of c in
      let g = h.few in
      let w = cut.cuts.within c i in
      let o = cut.cuts.order c i in
      let n = cut.few in
      omega arith

  pub walked_inside : (c : ℕ) (s : Standing) (made : List Made) → suc c < length ends → IsHanded numbers ends c s → made ≡ closes_all (pieces_of_stretch numbers ends c) s → made ≡ rows_of_stretch numbers ends c
  walked_inside c s made i h e = e ∙ ap (λ xs. closes_all xs s) (sym (no_cut c i)) ∙ h.rows

  pub walked_last : (c : ℕ) (s t : Standing) (made all : List Made) → suc c ≡ length ends → IsHanded numbers ends c s → t ≡ acts (pieces_of_stretch numbers ends c) s → made ≡ closes_all (pieces_of_stretch numbers ends c) s → all ≡ made ++ closes_all (Cut 0 false ∷ []) t → all ≡ rows_of_stretch numbers ends c
  walked_last c s t made all i h e m a =
      a
      ∙ (λ j. m j ++ closes_all (Cut 0 false ∷ []) (e j))
      ∙ sym (closes_more (pieces_of_stretch numbers ends c) (Cut 0 false ∷ []) s)
      ∙ ap (λ xs. closes_all xs s) (sym (end_cut c i))
      ∙ h.rows

  pub rows_few : (c : ℕ) → c < length ends → (standing_before numbers ends c).count + length (rows_of_stretch numbers ends c) ≤ 4294967295
  rows_few c i = by (nat_eq (suc c) (length ends))
    where
      total : (ys : List Piece) → AreSingle ys → weights ys ≡ 0 → (standing_before numbers ends c).count + length (closes_all (pieces_of_stretch numbers ends c ++ ys) (standing_before numbers ends c)) ≤ 4294967295
      total ys h z =
          let s = standing_before numbers ends c in
          let all = pieces_of_stretch numbers ends c ++ ys in
          let n = counts all s (single_more (pieces_of_stretch numbers ends c) ys (single_of c) h) in
          let a = acts_weigh all s in
          let m = weights_more (pieces_of_stretch numbers ends c) ys in
          let f = few_of c in
          let g = stand_few (start_of ends c) in
          let w = cut.cuts.within c i in
          let o = cut.cuts.order c i in
          let l = cut.few in
          omega arith

      by : (b : Bool) → (standing_before numbers ends c).count + length (closes_all (pieces_of_stretch numbers ends c ++ (if b then Cut 0 false ∷ [] else [])) (standing_before numbers ends c)) ≤ 4294967295
      by true = total (Cut 0 false ∷ []) (tt, tt) refl
      by false = total [] tt refl

  -- ---- the rows of stretches, one behind the other
  rows_so_far : (c : ℕ) → c < length ends → rows_before numbers ends c ≡ closes_all (so_far (start_of ends c)) (stood start.rows)
  rows_so_far zero h = refl
  rows_so_far (suc c) h =
      rows_next numbers ends c
      ∙ (λ i. rows_so_far c (omega arith) i ++ closes_all (no_cut c h i) (standing_before numbers ends c))
      ∙ sym (closes_more (so_far (start_of ends c)) (pieces_of_stretch numbers ends c) (stood start.rows))
      ∙ ap (λ xs. closes_all xs (stood start.rows)) (sym (far_next c (omega arith)))

  pub count_before : (c : ℕ) → c < length ends → (standing_before numbers ends c).count ≡ 0 + length (rows_before numbers ends c)
  count_before c h =
      counts (so_far (start_of ends c)) (stood start.rows) (stretch_plain numbers (start_of ends c) 0 1 0).0.1
      ∙ ap (λ (l : List Made). 0 + length l) (sym (rows_so_far c h))

  pub last_before : (c : ℕ) → c < length ends → (standing_before numbers ends c).last ≡ last_behind no_row (rows_before numbers ends c)
  last_before c h =
      lasts (so_far (start_of ends c)) (stood start.rows) (stretch_plain numbers (start_of ends c) 0 1 0).0.1
      ∙ ap (last_behind no_row) (sym (rows_so_far c h))

  pub rows_whole : (r : Tree Prog) → map number_of (left_parse r) ≡ numbers → rows_before numbers ends (length ends) ≡ made_by (left_parse r)
  rows_whole r e = by (length ends) refl ∙ whole
    where
      many : length (left_parse r) ≡ length numbers
      many = sym (length-map (left_parse r) number_of) ∙ ap length e

      whole : closes_all (so_far (length numbers) ++ Cut 0 false ∷ []) (stood start.rows) ≡ made_by (left_parse r)
      whole =
          (λ i. closes_all (pieces_in (sym e i) (sym many i) 0 1 0 ++ Cut 0 false ∷ []) (stood start.rows))
          ∙ ap (λ xs. closes_all (xs ++ Cut 0 false ∷ []) (stood start.rows)) (parse_whole (left_parse r) 1 0)
          ∙ sym (all_made (left_parse r))

      by : (n : ℕ) → n ≡ length ends → rows_before numbers ends n ≡ closes_all (so_far (length numbers) ++ Cut 0 false ∷ []) (stood start.rows)
      by zero h =
          let z : 0 ≡ length numbers = ap (start_of ends) h ∙ cut.cuts.all in
          ap (λ (n : ℕ). closes_all (so_far n ++ Cut 0 false ∷ []) (stood start.rows)) z
      by (suc c) h =
          let from = start_of ends c in
          let xs = pieces_of_stretch numbers ends c in
          let to : number_at ends c ≡ length numbers = ap (start_of ends) h ∙ cut.cuts.all in
          rows_next numbers ends c
          ∙ (λ i. rows_so_far c (omega arith) i ++ closes_all (end_cut c h i) (standing_before numbers ends c))
          ∙ sym (closes_more (so_far from) (xs ++ Cut 0 false ∷ []) (stood start.rows))
          ∙ ap (λ ys. closes_all ys (stood start.rows))
          (sym (append_assoc (so_far from) xs (Cut 0 false ∷ []))
          ∙ ap (λ ys. ys ++ Cut 0 false ∷ []) (sym (far_next c (omega arith)) ∙ ap so_far to))
