-- One thing is told of a grammar file, and of a word.
use Rattle.std.proofs.Common.{◌≡◌, ◌∙◌, ◌<◌, ◌+◌, ◌++◌, ℕ, List, Bool, true, false, Option, Some, None, Result, Ok, Err, drop, refl, sym, ap, subst, arith}
use Rattle.std.proofs.lemmas.List.{take-append-drop}
use Rattle.grammar_file.specs.Grammar.{Grammar, IsWellFormed}
use Rattle.grammar_file.specs.Derivation.{IsSentence}
use Rattle.grammar_file.specs.Spelling.{IsReduced, SpelledBy, Spells, read}
use Rattle.grammar_file.specs.SyntaxPlace.{IsSyntaxPlace, ended}
use Rattle.grammar_file.specs.FaultLines.{line_of_fault as line_of_grammar_fault}
use Rattle.grammar_file.specs.declared.file.GrammarFault.{GrammarFault}
use Rattle.ll1_sets.specs.Predict.{IsLl1}
use Rattle.llp_tables.specs.Lookback.{IsLlp}
use Rattle.llp_tables.specs.Tables.{AreTables, Entry, IsTableFault}
use Rattle.llp_tables.specs.Pairs.{CountsPairs}
use Rattle.llp_tables.specs.FaultLines.{line_of_fault}
use Rattle.llp_tables.specs.declared.fault.TableFault.{TableFault}
use Rattle.llp_wide.specs.Wide.{IsWideLlp}
use Rattle.llp_wide.specs.WideEntries.{AreWideTables, CountsTriples}
use Rattle.llp_wide.specs.WideFaults.{IsWideFault, line_of_wide_fault}
use Rattle.llp_wide.specs.declared.fault.WideFault.{WideFault}
use Rattle.table_text.specs.Answers.{IsConflict, behind_one, behind_two, HasTables, with_one, with_two, CountsEntries, of_pairs, of_triples, IsGrammarAnswer, conflicting, sized, parsed, no_sentence, IsTableAnswer, no_grammar, of_grammar}
use Rattle.table_text.specs.Entries.{ListsEntries, pair_lines, pairs, triple_lines, triples, unlisted}
use Rattle.table_text.specs.Lines.{sizes, parse_line}
use Rattle.table_text.specs.declared.answer.TableAnswer.{TableAnswer}
use Rattle.table_text.specs.declared.answer.TableAnswer.TheVariants.{Tabled, NoGrammar, Conflict, Syntax}

-- ---- a word

-- no sentence has a syntax place
never_both : (g : Grammar) (w : List ℕ) (i : ℕ) → IsSentence g w → IsSyntaxPlace g w i → ⊥
never_both g w i s p = p.ends_there (w, drop (i + 1) (ended g w), s, sym (take-append-drop (i + 1) (ended g w)))

one_place : (g : Grammar) (w : List ℕ) (i j : ℕ) → IsSyntaxPlace g w i → IsSyntaxPlace g w j → i ≡ j
one_place g w i j p q =
    let not_before : ¬ (i < j) = λ h. p.ends_there (q.goes_on_before i h) in
    let not_behind : ¬ (j < i) = λ h. q.ends_there (p.goes_on_before j h) in
    omega arith

-- ---- a grammar

-- what the laws of both kinds of tables say of it
pub record OneAnswer (g : Grammar) : Type 0 where
  pub fault : (f h : TableFault) → IsTableFault g f → IsTableFault g h → f ≡ h
  pub no_tables : (f : TableFault) → IsTableFault g f → IsLl1 g → IsLlp g → ⊥
  pub count : (m n : ℕ) → CountsPairs g m → CountsPairs g n → m ≡ n
  pub wide_fault : (f h : WideFault) → IsWideFault g f → IsWideFault g h → f ≡ h
  pub no_wide_tables : (f : WideFault) → IsWideFault g f → IsLl1 g → IsWideLlp g → ⊥
  pub wide_count : (m n : ℕ) → CountsTriples g m → CountsTriples g n → m ≡ n
  pub table : (entry other : ℕ → ℕ → Option Entry) → AreTables g entry → AreTables g other → (a b : ℕ) → entry a b ≡ other a b
  pub wide_table : (entry other : ℕ → ℕ → ℕ → Option Entry) → AreWideTables g entry → AreWideTables g other → (z a b : ℕ) → entry z a b ≡ other z a b

module _ (g : Grammar) (one : OneAnswer g) where
  not_two : {A : Type 0} → g.lookback ≡ 1 → g.lookback ≡ 2 → A
  not_two e f = absurd (let both : ◌≡◌ {A = ℕ} 1 2 = sym e ∙ f in omega arith)

  one_conflict : (l m : List ℕ) → IsConflict g l → IsConflict g m → l ≡ m
  one_conflict _ _ (behind_one f e is) (behind_one h o other) = ap (line_of_fault g) (one.fault f h is other)
  one_conflict _ _ (behind_one f e is) (behind_two h o other) = not_two e o
  one_conflict _ _ (behind_two f e is) (behind_one h o other) = not_two o e
  one_conflict _ _ (behind_two f e is) (behind_two h o other) = ap (line_of_wide_fault g) (one.wide_fault f h is other)

  never_tables : (l : List ℕ) → IsConflict g l → HasTables g → ⊥
  never_tables _ (behind_one f e is) (with_one o ll1 llp) = one.no_tables f is ll1 llp
  never_tables _ (behind_one f e is) (with_two o ll1 llp) = not_two e o
  never_tables _ (behind_two f e is) (with_one o ll1 llp) = not_two o e
  never_tables _ (behind_two f e is) (with_two o ll1 llp) = one.no_wide_tables f is ll1 llp

  one_count : (m n : ℕ) → CountsEntries g m → CountsEntries g n → m ≡ n
  one_count m n (of_pairs e count) (of_pairs o other) = one.count m n count other
  one_count m n (of_pairs e count) (of_triples o other) = not_two e o
  one_count m n (of_triples e count) (of_pairs o other) = not_two o e
  one_count m n (of_triples e count) (of_triples o other) = one.wide_count m n count other

  one_list : (entries : Bool) (l m : List ℕ) → ListsEntries g entries l → ListsEntries g entries m → l ≡ m
  one_list false _ _ unlisted unlisted = refl
  one_list true _ _ (pairs entry e t) (pairs other o u) = λ i. pair_lines g (λ a b. one.table entry other t u a b i)
  one_list true _ _ (pairs entry e t) (triples other o u) = not_two e o
  one_list true _ _ (triples entry e t) (pairs other o u) = not_two o e
  one_list true _ _ (triples entry e t) (triples other o u) = λ i. triple_lines g (λ z a b. one.wide_table entry other t u z a b i)

  of_no_word : (entries : Bool) (a b : TableAnswer) → IsGrammarAnswer g entries None a → IsGrammarAnswer g entries None b → a ≡ b
  of_no_word entries _ _ (conflicting {line = l} k) (conflicting {line = m} o) = ap Conflict (one_conflict l m k o)
  of_no_word entries _ _ (conflicting {line = l} k) (sized t n h) = absurd (never_tables l k t)
  of_no_word entries _ _ (sized t n h) (conflicting {line = l} k) = absurd (never_tables l k t)
  of_no_word entries _ _ (sized {count = m} {lines = l} t k h) (sized {count = n} {lines = r} o j e) =
      (λ i. Tabled (sizes g (one_count m n k j i) ++ one_list entries l r h e i))

  of_word : (entries : Bool) (text : List ℕ) (a b : TableAnswer) → IsGrammarAnswer g entries (Some text) a → IsGrammarAnswer g entries (Some text) b → a ≡ b
  of_word entries text _ _ (conflicting {line = l} k) (conflicting {line = m} o) = ap Conflict (one_conflict l m k o)
  of_word entries text _ _ (conflicting {line = l} k) (parsed t n h p) = absurd (never_tables l k t)
  of_word entries text _ _ (conflicting {line = l} k) (no_sentence t p) = absurd (never_tables l k t)
  of_word entries text _ _ (parsed t n h p) (conflicting {line = l} k) = absurd (never_tables l k t)
  of_word entries text _ _ (parsed {ps = ps} {lines = l} {count = m} t k h p) (parsed {ps = qs} {lines = r} {count = n} o j e q) =
      (λ i. Tabled (sizes g (one_count m n k j i) ++ one_list entries l r h e i ++ parse_line (q.1 ps p.0 i)))
  of_word entries text _ _ (parsed {ps = ps} t n h p) (no_sentence {at = at} o q) = absurd (never_both g _ at (ps, p.0) q)
  of_word entries text _ _ (no_sentence t p) (conflicting {line = l} k) = absurd (never_tables l k t)
  of_word entries text _ _ (no_sentence {at = at} t p) (parsed {ps = ps} o n h q) = absurd (never_both g _ at (ps, q.0) p)
  of_word entries text _ _ (no_sentence {at = i} t p) (no_sentence {at = j} o q) = ap Syntax (one_place g _ i j p q)

  one_answer : (entries : Bool) (word : Option (List ℕ)) (a b : TableAnswer) → IsGrammarAnswer g entries word a → IsGrammarAnswer g entries word b → a ≡ b
  one_answer entries None a b k m = of_no_word entries a b k m
  one_answer entries (Some text) a b k m = of_word entries text a b k m

-- ---- a file

-- what a file spells is well-formed and reduced
spelled : (bytes : List ℕ) (g : Grammar) → ((h : Grammar) → read bytes ≡ Ok h → IsWellFormed h) → Spells bytes (Ok g) → IsWellFormed g × IsReduced g
spelled bytes g formed is = go (read bytes) refl is
  where
    go : (r : Result Grammar GrammarFault) → read bytes ≡ r → SpelledBy r (Ok g) → IsWellFormed g × IsReduced g
    go (Ok h) e s = (formed g (e ∙ ap Ok s.0), subst IsReduced s.0 s.1)
    go (Err f) e s = let both : Ok g ≡ Err f = s in cc

grammar_of : Grammar → Result Grammar GrammarFault → Grammar
grammar_of d (Ok g) = g
grammar_of d (Err f) = d

fault_of : GrammarFault → Result Grammar GrammarFault → GrammarFault
fault_of d (Ok g) = d
fault_of d (Err f) = f

module _ (bytes : List ℕ) (one : (a b : Result Grammar GrammarFault) → Spells bytes a → Spells bytes b → a ≡ b)
    (formed : (g : Grammar) → read bytes ≡ Ok g → IsWellFormed g) (answer : (g : Grammar) → IsWellFormed g → IsReduced g → OneAnswer g) where
  same_grammar : (g h : Grammar) → Spells bytes (Ok g) → Spells bytes (Ok h) → h ≡ g
  unfolding grammar_of
  same_grammar g h is other = ap (grammar_of g) (one (Ok h) (Ok g) other is)

  same_fault : (f h : GrammarFault) → Spells bytes (Err f) → Spells bytes (Err h) → f ≡ h
  unfolding fault_of
  same_fault f h is other = ap (fault_of f) (one (Err f) (Err h) is other)

  not_both : {A : Type 0} (g : Grammar) (f : GrammarFault) → Spells bytes (Ok g) → Spells bytes (Err f) → A
  not_both g f is other = let both : Ok g ≡ Err f = one (Ok g) (Err f) is other in cc

  pub one_file_answer : (entries : Bool) (word : Option (List ℕ)) (a b : TableAnswer) → IsTableAnswer bytes entries word a → IsTableAnswer bytes entries word b → a ≡ b
  one_file_answer entries word _ _ (no_grammar f is) (no_grammar h other) = ap (λ f. NoGrammar (line_of_grammar_fault f)) (same_fault f h is other)
  one_file_answer entries word _ b (no_grammar f is) (of_grammar g other t) = not_both g f other is
  one_file_answer entries word a _ (of_grammar g is t) (no_grammar f other) = not_both g f is other
  one_file_answer entries word a b (of_grammar g is t) (of_grammar h other s) =
      let sound = spelled bytes g formed is in
      one_answer g (answer g sound.0 sound.1) entries word a b t (subst (λ k. IsGrammarAnswer k entries word b) (same_grammar g h is other) s)
