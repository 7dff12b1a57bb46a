-- What is written of entries, one after the other.
use Rattle.std.proofs.Common.{◌≡◌, ◌∙◌, ℕ, ◌+◌, List, [], ◌++◌, true, Option, Some, None, flat_map, map, refl, sym, ap, subst, arith, append_assoc}
use Rattle.std.specs.List.{range_with_len}
use Rattle.std.proofs.lemmas.List.{flat_map_more}
use Rattle.std.proofs.lemmas.List.Folds.{flat_map-map}
use Rattle.std.proofs.lemmas.List.FromFn.{map-range_with_len_more}
use Rattle.grammar_file.specs.declared.symbols.Symbol.{Symbol}
use Rattle.grammar_file.specs.Grammar.{Grammar}
use Rattle.ll1_sets.specs.Predict.{IsLl1}
use Rattle.llp_tables.specs.Lookback.{IsLookback, IsPiece}
use Rattle.llp_tables.specs.LookbackTable.{HasLookback, LookbackTable}
use Rattle.llp_tables.specs.Tables.{Entry}
use Rattle.llp_wide.specs.Wide.{IsWideLookback}
use Rattle.llp_wide.specs.WideLookbacks.{WideLookbackTable, wide_lookback_of}
use Rattle.glue_summary.specs.declared.behind.Behind.{Behind}
use Rattle.glue_summary.specs.Pieces.{Pieces}
use Rattle.table_text.specs.ByLookback.{AreSetsOf}
use Rattle.table_text.specs.Entries.{ListsEntries, pairs, triples}
use Rattle.table_text.specs.Listed.{HasEntryBehind, all_lines, layer_lines, two_before}
use Rattle.table_text.specs.Members.{members_of}
use Rattle.table_text.specs.declared.lookback.Sets.{Sets}
use Rattle.table_text.specs.declared.lookback.Sets.TheVariants as sets
use Rattle.table_text.proofs.OnePiece.{one_pair, one_triple}
use Rattle.table_text.proofs.Outlining.{wide_none, wide_some}

-- ---- the entry where b comes next behind two others

module _ (g : Grammar) (ll1 : IsLl1 g) (k : Behind) (b : ℕ) where
  pub no_entry : (s : Sets) → AreSetsOf g s → members_of s k.before_last k.last b ≡ None → (e : Option Entry) → HasEntryBehind g s k b e → e ≡ None
  no_entry (sets.One t) are none None h = refl
  no_entry (sets.One t) are none (Some e) h = absurd (subst (HasLookback g k.last b) none (are.1.lookbacks k.last b) e.closes h.member)
  no_entry (sets.Two t) are none None h = refl
  no_entry (sets.Two t) are none (Some e) h =
      absurd (wide_none g k.before_last k.last b (wide_lookback_of t k.before_last k.last b) (are.1.lookbacks k.before_last k.last b) none e.closes h.member)

  pub made_entry : (s : Sets) → AreSetsOf g s → (made : Entry) → members_of s k.before_last k.last b ≡ Some made.closes → IsLookback g k.last b made.closes
      → IsPiece g b made.closes made.opens made.productions → (e : Option Entry) → HasEntryBehind g s k b e → e ≡ Some made
  made_entry (sets.One t) are made is member piece e h =
      let m : HasLookback g k.last b (Some made.closes) = subst (HasLookback g k.last b) is (are.1.lookbacks k.last b) in
      one_pair g b ll1 k.last e (Some made) h (record { member = m.0; only = m.1; piece = piece })
  made_entry (sets.Two t) are made is member piece e h =
      let m : IsWideLookback g k.before_last k.last b made.closes × ((beta : List Symbol) → IsWideLookback g k.before_last k.last b beta → beta ≡ made.closes) =
      wide_some g k.before_last k.last b (wide_lookback_of t k.before_last k.last b) made.closes (are.1.lookbacks k.before_last k.last b) is in
      one_triple g b ll1 k.before_last k.last (λ beta n. subst (IsLookback g k.last b) (sym (m.1 beta n)) member) e (Some made) h (record { member = m.0; only = m.1; piece = piece })

-- ---- texts that grow

-- four parts, one after the other
pub four_onto : (a b c d start t1 t2 t3 t4 : List ℕ) → t1 ≡ start ++ a → t2 ≡ t1 ++ b → t3 ≡ t2 ++ c → t4 ≡ t3 ++ d → t4 ≡ start ++ (a ++ b ++ c ++ d)
four_onto a b c d start t1 t2 t3 t4 e f h k =
    k ∙ ap (λ (t : List ℕ). t ++ d) (h ∙ ap (λ (t : List ℕ). t ++ c) (f ∙ ap (λ (t : List ℕ). t ++ b) e))
    ∙ ap (λ (t : List ℕ). t ++ c ++ d) (append_assoc start a b) ∙ ap (λ (t : List ℕ). t ++ d) (append_assoc start (a ++ b) c) ∙ append_assoc start (a ++ b ++ c) d

piece_more : (f : ℕ → List ℕ) (n : ℕ) → flat_map f (range_with_len 0 n) ++ f n ≡ flat_map f (range_with_len 0 (n + 1))
piece_more f n =
    let same : (m : ℕ) → flat_map (λ xs. xs) (map f (range_with_len 0 m)) ≡ flat_map f (range_with_len 0 m) = λ m. flat_map-map (λ xs. xs) f (range_with_len 0 m) in
    ap (λ xs. xs ++ f n) (sym (same n))
    ∙ (flat_map_more (λ xs. xs) [] (map f (range_with_len 0 n)) (f n)
    ∙ (ap (flat_map (λ xs. xs)) (sym (map-range_with_len_more f 0 n n (omega arith))) ∙ same (n + 1)))

-- what stands for the next number comes behind what stands for those before it
pub next_onto : (f : ℕ → List ℕ) (n : ℕ) (start before after : List ℕ) → before ≡ start ++ flat_map f (range_with_len 0 n) → after ≡ before ++ f n → after ≡ start ++ flat_map f (range_with_len 0 (n + 1))
next_onto f n start before after e h = h ∙ (ap (λ (t : List ℕ). t ++ f n) e ∙ (append_assoc start (flat_map f (range_with_len 0 n)) (f n) ∙ ap (λ (t : List ℕ). start ++ t) (piece_more f n)))

pub all_onto : (f : ℕ → List ℕ) (n m : ℕ) (start text : List ℕ) → n ≡ m → text ≡ start ++ flat_map f (range_with_len 0 n) → text ≡ start ++ flat_map f (range_with_len 0 m)
all_onto f n m start text e h = h ∙ ap (λ (k : ℕ). start ++ flat_map f (range_with_len 0 k)) e

-- ---- all entries

module _ (g : Grammar) (entry : Pieces) where
  pub pairs_listed : (s : Sets) (t : LookbackTable) → s ≡ sets.One t → AreSetsOf g s → ((z a b : ℕ) → HasEntryBehind g s (two_before z a) b (entry z a b)) → ListsEntries g true (layer_lines g s 0 (entry 0))
  pairs_listed (sets.One u) t e are each = pairs (entry 0) are.0 (record { ll1 = are.1.ll1; llp = are.1.llp; entries = each 0 })
  pairs_listed (sets.Two u) t e are each = absurd (cc)

  pub triples_listed : (s : Sets) (t : WideLookbackTable) → s ≡ sets.Two t → AreSetsOf g s → ((z a b : ℕ) → HasEntryBehind g s (two_before z a) b (entry z a b)) → ListsEntries g true (all_lines g s entry)
  triples_listed (sets.One u) t e are each = absurd (cc)
  triples_listed (sets.Two u) t e are each = triples entry are.0 (record { ll1 = are.1.ll1; llp = are.1.llp; entries = each })
