-- One piece for each stack, and the table of them; and no fault where there is one.
use Rattle.std.proofs.Common.{◌≡◌, ℕ, zero, suc, ◌<◌, ◌≤◌, ◌⊎◌, inl, inr, List, [], ◌∷◌, ◌++◌, length, map, get_or, Bool, true, false, ◌&&◌, nat_lt, if◌then◌else◌, Option, Some, None, slice_get, refl, sym, ap, ◌∙◌, subst, arith, length-append}
use Rattle.std.specs.List.{AllByRecursion}
use Rattle.std.proofs.lemmas.Bool.{cases_lt}
use Rattle.std.proofs.lemmas.List.{length-map}
use Rattle.std.proofs.lemmas.Option.{same_Some}
use Rattle.std.proofs.Math.ListN.{get_or-map}
use Rattle.grammar_file.specs.declared.symbols.Symbol.{Symbol}
use Rattle.grammar_file.specs.Grammar.{Grammar, IsWellFormed}
use Rattle.grammar_file.specs.Spelling.{IsReduced}
use Rattle.ll1_sets.specs.Predict.{IsLl1, IsNotLeftRecursive}
use Rattle.ll1_sets.specs.Laws.LeftRecursion.{not_left_recursive}
use Rattle.llp_tables.specs.Cells.{IsBefore}
use Rattle.llp_tables.specs.Lookback.{IsLlp, IsPiece}
use Rattle.llp_tables.specs.Pieces.{AddsPiece}
use Rattle.llp_tables.specs.Tables.{Entry}
use Rattle.llp_tables.specs.Laws.StackOrder.{before_not_itself}
use Rattle.llp_wide.specs.StackPieces.{IsMadeFor, AreMadeFor}
use Rattle.llp_wide.specs.Wide.{IsWideLookback, IsWideLlp, IsWideEntry, HasWideEntry}
use Rattle.llp_wide.specs.WideEntries.{triple_place, AreWideTablesOf}
use Rattle.llp_wide.specs.WideFaults.{IsWideFault}
use Rattle.llp_wide.specs.WideLookbacks.{ClosedStack, HasWideLookback, WideLookbackTable, item_at, IsNumberOf, AreWideLookbacksOf}
use Rattle.llp_wide.specs.declared.fault.WideFault.{WideFault}
use Rattle.llp_wide.specs.declared.fault.WideFault.TheVariants.{LeftRecursive, Ll1, Wide, NoMemory}
use Rattle.llp_wide.proofs.TripleLists.{get_left, get_end}
use Rattle.llp_wide.proofs.WideRules.{wide_llp}

-- a piece that is made alone
pub piece_alone : (g : Grammar) (b : ℕ) (closes opens : List Symbol) (before after : List ℕ) → before ≡ [] → AddsPiece g b closes opens before after → IsPiece g b closes opens after
piece_alone g b closes opens before after none h = subst (IsPiece g b closes opens) (sym (h.added ∙ ap (λ ps. ps ++ h.productions) none)) h.piece

-- ---- one more piece

pub made_more : (g : Grammar) (stacks : List ClosedStack) (es : List Entry) (c : ClosedStack) (e : Entry) → AreMadeFor g stacks es → slice_get stacks (length es) ≡ Some c → IsMadeFor g c e → AreMadeFor g stacks (es ++ e ∷ [])
made_more g stacks es c e h at made n d l is = go (cases_lt n (length es))
  where
    go : (n < length es) ⊎ (length es ≤ n) → (x : Entry) × (slice_get (es ++ e ∷ []) n ≡ Some x) × IsMadeFor g d x
    go (inl k) = let m = h n d k is in (m.0, get_left es (e ∷ []) n k ∙ m.1, m.2)
    go (inr k) =
        let len = length-append es (e ∷ []) in
        let here : n ≡ length es = omega arith in
        (e, get_end es e n here, subst (λ (y : ClosedStack). IsMadeFor g y e) (same_Some c d (sym at ∙ ap (slice_get stacks) (sym here) ∙ is)) made)

-- ---- the table

get_in : {A : Type 0} (xs : List A) (n : ℕ) → n < length xs → (x : A) × (slice_get xs n ≡ Some x)
get_in {A} [] n l = absurd (omega arith)
get_in {A} (x ∷ xs) zero l = (x, refl)
get_in {A} (x ∷ xs) (suc n) l = get_in xs n (omega arith)

number_at : (count : ℕ) (numbers : List (Option ℕ)) (n : ℕ) → AllByRecursion (IsNumberOf count) numbers → IsNumberOf count (get_or numbers n None)
number_at count [] n h = tt
number_at count (k ∷ numbers) zero h = h.0
number_at count (k ∷ numbers) (suc n) h = number_at count numbers n h.1

module _ (g : Grammar) (stacks : List ClosedStack) (es : List Entry) (made : AreMadeFor g stacks es) (len : length es ≡ length stacks) where
  entry_of_number : (z a b : ℕ) (k : Option ℕ) → IsNumberOf (length stacks) k → HasWideLookback g z a b (item_at stacks k) → HasWideEntry g z a b (item_at es k)
  entry_of_number z a b None is h = h
  entry_of_number z a b (Some n) is h =
      let c = get_in stacks n is in
      let has : HasWideLookback g z a b (Some c.0) = subst (HasWideLookback g z a b) c.1 h in
      let m = made n c.0 (subst (λ (l : ℕ). n < l) (sym len) is) c.1 in
      subst (HasWideEntry g z a b) (sym m.1) (entry c.0 m.0 m.2 has)
    where
      entry : (c : ClosedStack) (e : Entry) → IsMadeFor g c e → HasWideLookback g z a b (Some c) → IsWideEntry g z a b e
      entry c e m has = record {
        member = subst (IsWideLookback g z a b) (sym m.closes_are) has.1;
        only = λ beta k. has.2 beta k ∙ sym m.closes_are;
        piece = subst (λ (n : ℕ). IsPiece g n e.closes e.opens e.productions) has.0 m.piece;
      }

pub table_of_lookbacks : (g : Grammar) (t : WideLookbackTable) (es : List Entry) → AreWideLookbacksOf g t → AreMadeFor g t.stacks es → length es ≡ length t.stacks
    → AreWideTablesOf g (record { width = t.width; entries = map (item_at es) t.numbers })
table_of_lookbacks g t es h made len = record {
  width_is = h.width_is;
  size_is = length-map t.numbers (item_at es) ∙ h.size_is;
  tables = record { ll1 = h.ll1; llp = h.llp; entries = λ z a b. entries z a b (nat_lt z t.width && (nat_lt a t.width && nat_lt b t.width)) (h.lookbacks z a b) };
}
  where
    place : (z a b : ℕ) → ℕ
    place z a b = triple_place t.width z a b

    entries : (z a b : ℕ) (x : Bool) → HasWideLookback g z a b (if x then get_or (map (item_at t.stacks) t.numbers) (place z a b) None else None)
        → HasWideEntry g z a b (if x then get_or (map (item_at es) t.numbers) (place z a b) None else None)
    entries z a b true k =
        subst (HasWideEntry g z a b) (sym (get_or-map (item_at es) t.numbers (place z a b) None))
        (entry_of_number g t.stacks es made len z a b (get_or t.numbers (place z a b) None) (number_at (length t.stacks) t.numbers (place z a b) h.numbers_are)
        (subst (HasWideLookback g z a b) (get_or-map (item_at t.stacks) t.numbers (place z a b) None) k))
    entries z a b false k = k

-- ---- no fault where there are tables

no_wide_fault : (g : Grammar) → IsLl1 g → IsWideLlp g → IsNotLeftRecursive g → (fault : WideFault) → IsWideFault g fault → ⊥
no_wide_fault g ll1 llp plain (LeftRecursive a) h = plain a h.0
no_wide_fault g ll1 llp plain (Ll1 a b p1 p2) h = let same : p1 ≡ p2 = ll1 a p1 p2 b h.1.first h.1.second in let l : p1 < p2 = h.1.in_order in absurd (omega arith)
no_wide_fault g ll1 llp plain (Wide z a b x y) h = before_not_itself y (subst (λ (t : List Symbol). IsBefore t y) (llp z a b x y h.2.first_member h.2.second_member) h.2.in_order)
no_wide_fault g ll1 llp plain NoMemory h = h

-- nor where one terminal of look-back is enough
pub no_fault_of_served : (g : Grammar) → IsWellFormed g → IsReduced g → IsLl1 g → IsLlp g → (fault : WideFault) → IsWideFault g fault → ⊥
no_fault_of_served g well reduced ll1 llp = no_wide_fault g ll1 (wide_llp g llp) (not_left_recursive g ll1 well reduced)
