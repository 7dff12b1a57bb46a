-- How many productions a piece has: its derivation goes by what is predicted, and by what derives nothing in front of that.
use Rattle.std.proofs.Common.{◌≡◌, ℕ, suc, ◌+◌, ◌-◌, ◌^◌, ◌≤◌, inl, List, [], ◌∷◌, ◌++◌, length, get_or, take, min, Bool, true, false, not, ◌&&◌, ◌||◌, cond, eqb-true, Option, Some, None, slice_get, refl, sym, ap, ◌∙◌, subst, append_assoc, append-nil, length-append, arith}
use Rattle.std.specs.List.{prefix_len}
use Rattle.std.proofs.lemmas.Option.{same_Some}
use Rattle.grammar_file.specs.declared.symbols.Symbol.{Symbol}
use Rattle.grammar_file.specs.declared.symbols.Symbol.TheVariants.{Terminal, Nonterminal}
use Rattle.grammar_file.specs.Grammar.{Grammar, Production, production}
use Rattle.grammar_file.specs.Drive.{Reads, Rule}
use Rattle.grammar_file.specs.Marks.{AreMarksOf}
use Rattle.grammar_file.specs.Laws.Words.{same_head, same_tail, same_terminal, same_nonterminal, terminal-nonterminal}
use Rattle.grammar_file.specs.Laws.Drives.{reads_derives, reads_first, reads_above, reads_below, drives_of_first}
use Rattle.ll1_sets.specs.Predict.{IsNullable, IsFirst, IsPredicted, IsLl1, ArePredictions}
use Rattle.ll1_sets.specs.Marking.{starts, vanishes, all_vanish, begins}
use Rattle.ll1_sets.specs.Laws.FormTests.{both, and, begins_exactly}
use Rattle.ll1_sets.specs.Laws.Ll1.{reads_same}
use Rattle.llp_tables.specs.Lookback.{IsLookback, IsPiece}
use Rattle.llp_tables.specs.Lengths.{saturated, IsEmptyLength, counted, AreEmptyLengths, IsSum, IsPredictedRight, HasNoPredictedRight, IsPieceOf, IsPieceLength}
use Rattle.llp_tables.proofs.Reading.{readable}
use Rattle.llp_tables.proofs.EmptyLengths.{saturated_sum}

-- ---- what begins with b

module _ (g : Grammar) (b : ℕ) where
  -- a terminal that does is b
  first_terminal : (c : ℕ) → IsFirst g (Terminal c ∷ []) b → c ≡ b
  first_terminal c h = let r = reads_first g b h.0 (Terminal c ∷ []) h.1 h.2 in go r.ps1 r.left r.reads
    where
      go : (ps : List ℕ) (v : List Symbol) → Reads g b ps (Terminal c ∷ []) v → c ≡ b
      go [] v r = same_terminal (same_head r)
      go (p ∷ ps) v r = absurd (terminal-nonterminal (same_head r.3))

  -- the predicted production of a nonterminal whose derived forms may begin with b
  pub record IsRead (predictions : List (Option ℕ)) (a : ℕ) : Type 0 where
    pub number : ℕ
    pub right : List Symbol
    pub rule : Rule g number a right
    pub number_is : get_or predictions a None ≡ Some number
    pub begins : IsFirst g right b

  read_by : IsLl1 g → (predictions : List (Option ℕ)) → ArePredictions g b predictions → (a : ℕ) → IsFirst g (Nonterminal a ∷ []) b → IsRead predictions a
  read_by ll predictions are a h = let r = reads_first g b h.0 (Nonterminal a ∷ []) h.1 h.2 in go r.ps1 r.left r.reads
    where
      go : (ps : List ℕ) (v : List Symbol) → Reads g b ps (Nonterminal a ∷ []) v → IsRead predictions a
      go [] v r = absurd (terminal-nonterminal (sym (same_head r)))
      go (q ∷ qs) v r =
          let rule = subst (λ n. Rule g q n r.1) (sym (same_nonterminal (same_head r.3))) r.4 in
          let reads = subst (λ u. Reads g b qs u v) (ap (λ u. r.1 ++ u) (sym (same_tail r.3)) ∙ append-nil r.1) r.5 in
          let begins : IsFirst g r.1 b = (qs, v, reads_derives g b qs r.1 v reads) in
          let predicted : IsPredicted g a q b = (record { left = a; right = r.1 }, rule, refl, inl begins) in
          let p = are.complete a q predicted in
          record { number = q; right = r.1; rule = rule; number_is = p.1 ∙ ap Some (ll a p.0 q b (are.sound a p.0 p.1) predicted); begins = begins }

-- ---- where b begins

-- what stands in front of a place derives nothing, and what the symbol there derives begins with b
pub record IsFront (g : Grammar) (b : ℕ) (nulls : List Bool) (form : List Symbol) (place : ℕ) : Type 0 where
  pub symbol : Symbol
  pub below : List Symbol
  pub parts : form ≡ take place form ++ symbol ∷ below
  pub at : slice_get form place ≡ Some symbol
  pub above : all_vanish nulls (take place form) ≡ true
  pub begins : IsFirst g (symbol ∷ []) b

module _ (g : Grammar) (b : ℕ) (nulls first : List Bool) (null : AreMarksOf g (λ a. IsNullable g (Nonterminal a ∷ [])) nulls) (are : AreMarksOf g (λ a. IsFirst g (Nonterminal a ∷ []) b) first) where
  abbrev pub passes : Symbol → Bool
  passes symbol = not (starts first b symbol)

  starts_first : (s : Symbol) → starts first b s ≡ true → IsFirst g (s ∷ []) b
  starts_first (Terminal c) h = ([], [], ap (λ n. Some (Terminal n ∷ [])) (eqb-true c b h))
  starts_first (Nonterminal a) h = are.sound a h

  front_by : (form : List Symbol) → begins nulls first b form ≡ true → IsFront g b nulls form (prefix_len passes form)
  front_by [] h = absurd (cc)
  front_by (s ∷ form) h = go (λ k. front_by form k) (starts first b s) refl h
    where
      go : (begins nulls first b form ≡ true → IsFront g b nulls form (prefix_len passes form)) → (t : Bool) → starts first b s ≡ t → (t || (vanishes nulls s && begins nulls first b form)) ≡ true
          → IsFront g b nulls (s ∷ form) (cond (not t) (1 + prefix_len passes form) 0)
      go more true e k = record { symbol = s; below = form; parts = refl; at = refl; above = refl; begins = starts_first s e }
      go more false e k =
          let n = both (vanishes nulls s) (begins nulls first b form) k in
          let f = more n.1 in
          subst (IsFront g b nulls (s ∷ form)) (let one : suc (prefix_len passes form) ≡ 1 + prefix_len passes form = omega arith in one)
          (record {
            symbol = f.symbol;
            below = f.below;
            parts = ap (λ u. s ∷ u) f.parts;
            at = f.at;
            above = and (vanishes nulls s) (all_vanish nulls (take (prefix_len passes form) form)) n.0 f.above;
            begins = f.begins;
          })

  pub front : (form : List Symbol) → IsFirst g form b → IsFront g b nulls form (prefix_len passes form)
  front form h = front_by form (begins_exactly g nulls null b first are form h)

-- ---- the productions so far

-- some productions lead from what is closed to a form that begins with b, and that is what is counted
pub record IsCountedTo (g : Grammar) (b : ℕ) (closes form : List Symbol) (sum : ℕ) : Type 0 where
  pub begins : IsFirst g form b
  pub done : List ℕ
  pub counted : sum ≡ saturated (length done)
  pub onwards : (more : List ℕ) (v : List Symbol) → Reads g b more form v → (u : List Symbol) × Reads g b (done ++ more) closes u

module _ (g : Grammar) (b : ℕ) (closes : List Symbol) where
  pub counted_start : (a : ℕ) → IsLookback g a b closes → IsCountedTo g b closes closes 0
  counted_start a h =
      let r = readable g b a closes h in
      record { begins = (r.productions, r.left, reads_derives g b r.productions closes r.left r.reads); done = []; counted = refl; onwards = λ more v k. (v, k) }

  -- all productions by which what is closed reads b are as many as those of a piece
  piece_by : IsLl1 g → (a : ℕ) → IsLookback g a b closes → (qs : List ℕ) (u : List Symbol) → Reads g b qs closes u → (opens : List Symbol) (ps : List ℕ) → IsPiece g b closes opens ps → qs ≡ ps
  piece_by ll a h qs u reads opens ps piece =
      let r = readable g b a closes h in
      let d = drives_of_first g (b ∷ []) ps closes opens piece in
      let all : ps ≡ d.0 = d.3 ∙ (ap (λ x. d.0 ++ x) d.5.0 ∙ append-nil d.0) in
      (reads_same g ll b qs d.0 (closes ++ r.below) (u ++ r.below) (d.2 ++ r.below) (r.before, r.word, r.reached)
      (reads_above g b qs closes u r.below reads) (reads_above g b d.0 closes d.2 r.below d.4)).0 ∙ sym all

  -- where the count is at its end, it stays there
  pub counted_full : IsLl1 g → (a : ℕ) → IsLookback g a b closes → (form : List Symbol) (sum : ℕ) → 2 ^ 64 - 1 ≤ sum → IsCountedTo g b closes form sum → IsPieceLength g b closes sum
  counted_full ll a h form sum full k opens ps piece =
      let r = reads_first g b k.begins.0 form k.begins.1 k.begins.2 in
      let o = k.onwards r.ps1 r.left r.reads in
      let same = piece_by ll a h (k.done ++ r.ps1) o.0 o.1 opens ps piece in
      let len : length ps ≡ length k.done + length r.ps1 = ap length (sym same) ∙ length-append k.done r.ps1 in
      let is : sum ≡ min (length k.done) (2 ^ 64 - 1) = k.counted in
      omega arith

  module _ (form : List Symbol) (sum : ℕ) (k : IsCountedTo g b closes form sum) (place : ℕ) (nulls : List Bool) (f : IsFront g b nulls form place)
      (skipped : ℕ) (s : IsEmptyLength g (take place form) skipped) where
    -- the form reads b by what derives nothing, and then as its front does
    by_front : (more : List ℕ) (v : List Symbol) → Reads g b more (f.symbol ∷ []) v → (u : List Symbol) × Reads g b (k.done ++ (s.0 ++ more)) closes u
    by_front more v h =
        k.onwards (s.0 ++ more) (v ++ f.below)
        (subst (λ u. Reads g b (s.0 ++ more) u (v ++ f.below)) (sym f.parts)
        (reads_below g b s.0 more (take place form) (f.symbol ∷ f.below) (v ++ f.below) s.1 (reads_above g b more (f.symbol ∷ []) v f.below h)))

    sum_is : min (sum + skipped) (2 ^ 64 - 1) ≡ saturated (length (k.done ++ s.0))
    sum_is = saturated_sum (length k.done) (length s.0) sum skipped k.counted s.2 ∙ ap saturated (sym (length-append k.done s.0))

    module _ (first : List Bool) (predictions : List (Option ℕ)) (h : IsPieceOf g first predictions b closes) where
      -- a nonterminal in front: its predicted production comes next
      pub counted_next : (right : List Symbol) → IsPredictedRight g predictions form place right → IsCountedTo g b closes right (min (min (sum + skipped) (2 ^ 64 - 1) + 1) (2 ^ 64 - 1))
      counted_next right p =
          let symbol_is : f.symbol ≡ Nonterminal p.nonterminal = same_Some f.symbol (Nonterminal p.nonterminal) (sym f.at ∙ p.symbol_is) in
          let r = read_by g b h.ll1 predictions h.predictions_are p.nonterminal (subst (λ t. IsFirst g (t ∷ []) b) symbol_is f.begins) in
          let number_is : r.number ≡ p.number = same_Some r.number p.number (sym r.number_is ∙ p.number_is) in
          let rule_is = same_Some (record { left = p.nonterminal; right = r.right }) p.rule (sym r.rule ∙ (ap (production g) number_is ∙ p.rule_is)) in
          let right_is : right ≡ r.right = p.right_is ∙ ap (λ (t : Production). t.right) (sym rule_is) in
          record {
            begins = subst (λ u. IsFirst g u b) (sym right_is) r.begins;
            done = (k.done ++ s.0) ++ r.number ∷ [];
            counted = saturated_sum (length (k.done ++ s.0)) 1 (min (sum + skipped) (2 ^ 64 - 1)) 1 sum_is refl ∙ ap saturated (sym (length-append (k.done ++ s.0) (r.number ∷ [])));
            onwards = λ more v reads.
                let t = by_front (r.number ∷ more) v (p.nonterminal, r.right, [], ap (λ t. t ∷ []) symbol_is, r.rule, subst (λ u. Reads g b more u v) (right_is ∙ sym (append-nil r.right)) reads) in
                (t.0, subst (λ qs. Reads g b qs closes t.0) (sym (append_assoc k.done s.0 (r.number ∷ more)) ∙ sym (append_assoc (k.done ++ s.0) (r.number ∷ []) more)) t.1);
          }

      -- b itself in front: the piece ends
      pub counted_end : HasNoPredictedRight g predictions form place → IsPieceLength g b closes (min (sum + skipped) (2 ^ 64 - 1))
      counted_end none opens ps piece = go f.symbol refl
        where
          go : (t : Symbol) → f.symbol ≡ t → min (sum + skipped) (2 ^ 64 - 1) ≡ saturated (length ps)
          go (Terminal c) is =
              let c_is = first_terminal g b c (subst (λ t. IsFirst g (t ∷ []) b) is f.begins) in
              let t = by_front [] [] (ap (λ u. u ∷ []) is ∙ ap (λ n. Terminal n ∷ []) c_is) in
              let same = piece_by h.ll1 h.member.0 h.member.1 (k.done ++ (s.0 ++ [])) t.0 t.1 opens ps piece in
              sum_is ∙ ap (λ qs. saturated (length qs)) (ap (λ qs. k.done ++ qs) (sym (append-nil s.0)) ∙ same)
          go (Nonterminal a) is =
              let r = read_by g b h.ll1 predictions h.predictions_are a (subst (λ t. IsFirst g (t ∷ []) b) is f.begins) in
              absurd (none r.right
              (record { nonterminal = a; number = r.number; rule = record { left = a; right = r.right }; symbol_is = f.at ∙ ap Some is; number_is = r.number_is; rule_is = r.rule; right_is = refl }))

-- ---- one turn of the count

module _ (g : Grammar) (b : ℕ) (closes : List Symbol) (first : List Bool) (predictions : List (Option ℕ))
    (lengths : List (Option ℕ)) (are : AreEmptyLengths g lengths) (h : IsPieceOf g first predictions b closes) where
  module _ (form : List Symbol) (sum : ℕ) (k : IsCountedTo g b closes form sum) (place : ℕ) (place_is : place ≡ prefix_len (passes g b (counted lengths) first are.which h.first_is) form) where
    front_here : IsFront g b (counted lengths) form place
    front_here = subst (IsFront g b (counted lengths) form) (sym place_is) (front g b (counted lengths) first are.which h.first_is form k.begins)

    module _ (skipped count : ℕ) (skip : all_vanish (counted lengths) (take place form) ≡ true → IsSum lengths (take place form) skipped) (count_is : count ≡ min (sum + skipped) (2 ^ 64 - 1)) where
      skipped_is : IsEmptyLength g (take place form) skipped
      skipped_is = (skip front_here.above).count g are.counts

      pub turn : (right : List Symbol) (next : ℕ) → IsPredictedRight g predictions form place right → next ≡ min (count + 1) (2 ^ 64 - 1) → IsCountedTo g b closes right next
      turn right next p next_is =
          subst (IsCountedTo g b closes right) (sym (next_is ∙ ap (λ n. min (n + 1) (2 ^ 64 - 1)) count_is))
          (counted_next g b closes form sum k place (counted lengths) front_here skipped skipped_is first predictions h right p)

      pub last_turn : HasNoPredictedRight g predictions form place → IsPieceLength g b closes count
      last_turn none =
          subst (IsPieceLength g b closes) (sym count_is) (counted_end g b closes form sum k place (counted lengths) front_here skipped skipped_is first predictions h none)
