-- Classes of cells in a list.
use Rattle.std.proofs.Common.{◌≡◌, ◌≢◌, ℕ, zero, suc, ◌+◌, ◌*◌, ◌<◌, ◌⊎◌, inl, inr, ⊎_elim, List, [], ◌∷◌, length, set, length-set, Bool, true, false, eqb, eqb-true, eq-eqb, Some, slice_get, refl, sym, ap, ◌∙◌, subst, arith}
use Rattle.std.proofs.lemmas.Bool.{true≢false}
use Rattle.std.proofs.lemmas.Option.{same_Some, slice_get_within}
use Rattle.grammar_file.specs.declared.symbols.Symbol.{Symbol}
use Rattle.grammar_file.specs.declared.symbols.Symbol.TheVariants.{Terminal, Nonterminal}
use Rattle.grammar_file.specs.Grammar.{Grammar, IsSymbol, IsWellFormed}
use Rattle.llp_tables.specs.CellSlots.{slots_of, cell_at, cell_of, HasCell, room_at, room_of}
use Rattle.llp_tables.specs.Lookbacks.{cells_in, cells_at}
use Rattle.llp_tables.specs.Slots.{Empty, add, room}
use Rattle.llp_tables.specs.declared.cells.Cell.{Cell}
use Rattle.llp_tables.specs.declared.cells.Members.{Members}
use Rattle.llp_tables.specs.Laws.CellLists.{symbol_cases}
use Rattle.llp_wide.specs.Claims.{Claim}
use Rattle.llp_wide.specs.Classes.{HasWideCell, IsOpen, AreClasses, room_for, room_in, HasOpened, HasAdded}
use Rattle.llp_wide.specs.WideBehind.{any_before, IsEntered, BehindAny, WideBehind, here, through, of_start, of_begin}
use Rattle.llp_wide.proofs.WideBounds.{place_symbol, behind_below}

get_set_same : (xs : List Members) (i : ℕ) (x : Members) → i < length xs → slice_get (set xs i x) i ≡ Some x
get_set_same [] i x l = absurd (omega arith)
get_set_same (y ∷ xs) zero x l = refl
get_set_same (y ∷ xs) (suc i) x l = get_set_same xs i x (omega arith)

get_set_other : (xs : List Members) (i : ℕ) (x : Members) (k : ℕ) → k ≢ i → slice_get (set xs i x) k ≡ slice_get xs k
get_set_other [] i x k h = refl
get_set_other (y ∷ xs) zero x zero h = absurd (h refl)
get_set_other (y ∷ xs) zero x (suc k) h = refl
get_set_other (y ∷ xs) (suc i) x zero h = refl
get_set_other (y ∷ xs) (suc i) x (suc k) h = get_set_other xs i x k (λ e. h (ap suc e))

-- the room of a class that is open
room_there : (full a : ℕ) (ts ns : List Cell) → (a < length ts) ⊎ (a < length ns) → room_for full ts ns ≡ room_at ts + room_at ns
room_there full a [] [] (inl h) = absurd (omega arith)
room_there full a [] [] (inr h) = absurd (omega arith)
room_there full a [] (c ∷ ns) h = refl
room_there full a (c ∷ ts) ns h = refl

room_open : (full : ℕ) (m : Members) (s : Symbol) → HasCell m s → room_for full m.terminals.items m.nonterminals.items ≡ room_of m
room_open full m (Terminal a) h = room_there full a m.terminals.items m.nonterminals.items (inl h)
room_open full m (Nonterminal a) h = room_there full a m.terminals.items m.nonterminals.items (inr h)

abbrev room_when : ℕ → ℕ → Members → ℕ
room_when t n m = room_for (2 * t + 2 * n) m.terminals.items m.nonterminals.items

room_in-set : (t n : ℕ) (xs : List Members) (i : ℕ) (x y : Members) → slice_get xs i ≡ Some y → room_in t n (set xs i x) + room_when t n y ≡ room_in t n xs + room_when t n x
room_in-set t n [] i x y h = absurd (cc)
room_in-set t n (z ∷ xs) zero x y h = let e : z ≡ y = same_Some z y h in let r : room_when t n z ≡ room_when t n y = ap (room_when t n) e in omega arith
room_in-set t n (z ∷ xs) (suc i) x y h = let r = room_in-set t n xs i x y h in omega arith

same_number : (k i : ℕ) → (k ≡ i) ⊎ (k ≢ i)
same_number k i = go (eqb k i) refl
  where
    go : (b : Bool) → eqb k i ≡ b → (k ≡ i) ⊎ (k ≢ i)
    go true e = inl (eqb-true k i e)
    go false e = inr (λ same. true≢false (sym (eq-eqb k i same) ∙ e))

-- a string that comes into a cell of one class
pub has_added : (old : List Members) (claim : Claim) (was now : Members) → slice_get old claim.before ≡ Some was → length now.terminals.items ≡ length was.terminals.items → length now.nonterminals.items ≡ length was.nonterminals.items
    → cell_of now claim.symbol ≡ add claim.stack (cell_of was claim.symbol) → ((s : Symbol) → s ≢ claim.symbol → cell_of now s ≡ cell_of was s) → room_of now + room (cell_of was claim.symbol) ≡ room_of was + room (cell_of now claim.symbol) → HasCell was claim.symbol → HasAdded old (set old claim.before now) claim
has_added old claim was now is terminals nonterminals at there left has =
    record {
      size = length-set old claim.before now;
      cells = λ t n h. record { count = length-set old claim.before now ∙ h.count; cells = λ z m m_is. sizes t n h z m m_is (same_number z claim.before) };
      at = at_new ∙ (at ∙ ap (add claim.stack) (sym at_old));
      there = λ z s. others z s (same_number z claim.before) (symbol_cases s claim.symbol);
      room_is = λ t n.
          let r = room_in-set t n old claim.before now was is in let p : room (cells_at old claim.before claim.symbol) ≡ room (cell_of was claim.symbol) = ap room at_old in
          let q : room (cells_at (set old claim.before now) claim.before claim.symbol) ≡ room (cell_of now claim.symbol) = ap room at_new in
          let x : room_when t n was ≡ room_of was = room_open (2 * t + 2 * n) was claim.symbol has in let y : room_when t n now ≡ room_of now = room_open (2 * t + 2 * n) now claim.symbol has_now in omega arith;
    }
  where
    within : claim.before < length old
    within = slice_get_within old claim.before was is

    at_old : cells_at old claim.before claim.symbol ≡ cell_of was claim.symbol
    at_old = ap (λ o. cells_in o claim.symbol) is

    at_new : cells_at (set old claim.before now) claim.before claim.symbol ≡ cell_of now claim.symbol
    at_new = ap (λ o. cells_in o claim.symbol) (get_set_same old claim.before now within)

    has_now : HasCell now claim.symbol
    has_now = go claim.symbol has
      where
        go : (s : Symbol) → HasCell was s → HasCell now s
        go (Terminal a) h = subst (λ (k : ℕ). a < k) (sym terminals) h
        go (Nonterminal a) h = subst (λ (k : ℕ). a < k) (sym nonterminals) h

    sizes : (t n : ℕ) → AreClasses t n old → (z : ℕ) (m : Members) → slice_get (set old claim.before now) z ≡ Some m → (z ≡ claim.before) ⊎ (z ≢ claim.before) → IsOpen t n m ⊎ IsOpen 0 0 m
    sizes t n h z m m_is (inr ne) = h.cells z m (sym (get_set_other old claim.before now z ne) ∙ m_is)
    sizes t n h z m m_is (inl e) =
        let same : now ≡ m = same_Some now m (sym (get_set_same old claim.before now within) ∙ (ap (slice_get (set old claim.before now)) (sym e) ∙ m_is)) in
        subst (λ (y : Members). IsOpen t n y ⊎ IsOpen 0 0 y) same
        (⊎_elim (λ (w : IsOpen t n was). inl (terminals ∙ w.0, nonterminals ∙ w.1)) (λ (w : IsOpen 0 0 was). inr (terminals ∙ w.0, nonterminals ∙ w.1)) (h.cells claim.before was is))

    others : (z : ℕ) (s : Symbol) → (z ≡ claim.before) ⊎ (z ≢ claim.before) → (s ≡ claim.symbol) ⊎ (s ≢ claim.symbol) → ((z ≡ claim.before) × (s ≡ claim.symbol)) ⊎ (cells_at (set old claim.before now) z s ≡ cells_at old z s)
    others z s (inr ne) k = inr (ap (λ o. cells_in o s) (get_set_other old claim.before now z ne))
    others z s (inl e) (inl k) = inl (e, k)
    others z s (inl e) (inr k) =
        inr (ap (λ n. cells_at (set old claim.before now) n s) e ∙ (ap (λ o. cells_in o s) (get_set_same old claim.before now within) ∙ (there s k ∙ (sym (ap (λ o. cells_in o s) is) ∙ ap (λ n. cells_at old n s) (sym e)))))

-- ---- a class that is opened

no_cell : (xs : List Cell) (k : ℕ) → length xs ≡ 0 → cell_at xs k ≡ Empty
no_cell [] k h = refl
no_cell (c ∷ xs) k h = absurd (omega arith)

closed_empty : (m : Members) (s : Symbol) → IsOpen 0 0 m → cell_of m s ≡ Empty
closed_empty m (Terminal a) h = no_cell m.terminals.items a h.0
closed_empty m (Nonterminal a) h = no_cell m.nonterminals.items a h.1

closed_room : (full : ℕ) (ts ns : List Cell) → length ts ≡ 0 → length ns ≡ 0 → room_for full ts ns ≡ full
closed_room full [] [] h k = refl
closed_room full [] (c ∷ ns) h k = absurd (omega arith)
closed_room full (c ∷ ts) ns h k = absurd (omega arith)

fresh_cells : (xs : List Cell) → ((k : ℕ) → cell_at xs k ≡ Empty) → room_at xs ≡ 2 * length xs
fresh_cells [] h = refl
fresh_cells (c ∷ xs) h = let e : room (slots_of c) ≡ 2 = ap room (h 0) in let r = fresh_cells xs (λ k. h (suc k)) in omega arith

fresh_room : (full : ℕ) (ts ns : List Cell) → ((k : ℕ) → cell_at ts k ≡ Empty) → ((k : ℕ) → cell_at ns k ≡ Empty) → full ≡ 2 * length ts + 2 * length ns → room_for full ts ns ≡ full
fresh_room full [] [] h k e = refl
fresh_room full [] (c ∷ ns) h k e = let r = fresh_cells (c ∷ ns) k in omega arith
fresh_room full (c ∷ ts) ns h k e = let q = fresh_cells (c ∷ ts) h in let r = fresh_cells ns k in omega arith

module _ (t n : ℕ) (old : List Members) (z : ℕ) (was : Members) (is : slice_get old z ≡ Some was) where
  pub open_already : (IsOpen 0 0 was → ⊥) → HasOpened t n old old z
  open_already never =
      record {
        classes = λ h. h;
        open_now = λ h m m_is. ⊎_elim (λ (o : IsOpen t n m). o) (λ (o : IsOpen 0 0 m). absurd (never (subst (IsOpen 0 0) (same_Some m was (sym m_is ∙ is)) o))) (h.cells z m m_is);
        same = λ y s. refl;
        room_is = refl;
      }

  module _ (now : Members) (closed : IsOpen 0 0 was) (opens : IsOpen t n now) (empty : (s : Symbol) → cell_of now s ≡ Empty) where
    there : slice_get (set old z now) z ≡ Some now
    there = get_set_same old z now (slice_get_within old z was is)

    at_new : (m : Members) → slice_get (set old z now) z ≡ Some m → IsOpen t n m
    at_new m m_is = subst (IsOpen t n) (same_Some now m (sym there ∙ m_is)) opens

    sizes : AreClasses t n old → (y : ℕ) (m : Members) → slice_get (set old z now) y ≡ Some m → (y ≡ z) ⊎ (y ≢ z) → IsOpen t n m ⊎ IsOpen 0 0 m
    sizes h y m m_is (inr ne) = h.cells y m (sym (get_set_other old z now y ne) ∙ m_is)
    sizes h y m m_is (inl e) = inl (at_new m (subst (λ (k : ℕ). slice_get (set old z now) k ≡ Some m) e m_is))

    cells : (y : ℕ) (s : Symbol) → (y ≡ z) ⊎ (y ≢ z) → cells_at (set old z now) y s ≡ cells_at old y s
    cells y s (inr ne) = ap (λ o. cells_in o s) (get_set_other old z now y ne)
    cells y s (inl e) =
        ap (λ (k : ℕ). cells_at (set old z now) k s) e ∙ (ap (λ o. cells_in o s) there ∙ (empty s ∙ (sym (closed_empty was s closed) ∙ (sym (ap (λ o. cells_in o s) is) ∙ ap (λ (k : ℕ). cells_at old k s) (sym e)))))

    pub opened : HasOpened t n old (set old z now) z
    opened =
        record {
          classes = λ h. record { count = length-set old z now ∙ h.count; cells = λ y m m_is. sizes h y m m_is (same_number y z) };
          open_now = λ h m m_is. at_new m m_is;
          same = λ y s. cells y s (same_number y z);
          room_is =
              let r = room_in-set t n old z now was is in
              let p : room_when t n was ≡ 2 * t + 2 * n = closed_room (2 * t + 2 * n) was.terminals.items was.nonterminals.items closed.0 closed.1 in
              let q : room_when t n now ≡ 2 * t + 2 * n = fresh_room (2 * t + 2 * n) now.terminals.items now.nonterminals.items (λ k. empty (Terminal k)) (λ k. empty (Nonterminal k)) (λ i. 2 * sym opens.0 i + 2 * sym opens.1 i) in
              omega arith;
        }

-- ---- what has a member has a cell

pub any_below : (g : Grammar) → IsWellFormed g → (z : ℕ) (s : Symbol) (b : ℕ) (w : List Symbol) → BehindAny g z s b w → z < length g.terminals + 3
any_below g well z s b w (inl h) = let l = behind_below g well z s b w h in omega arith
any_below g well z s b w (inr h) = let l : z ≡ length g.terminals + 2 = h.0 in omega arith

module _ (g : Grammar) (well : IsWellFormed g) (classes : List Members) (z : ℕ) (are : AreClasses (length g.terminals + 3) (length g.nonterminals) classes)
    (opens : (m : Members) → slice_get classes z ≡ Some m → IsOpen (length g.terminals + 3) (length g.nonterminals) m) where
  a_cell : (s : Symbol) → z < length g.terminals + 3 → ((m : Members) → slice_get classes z ≡ Some m → HasCell m s) → HasWideCell classes z s
  a_cell s l f = go classes z (let n = are.count in omega arith) f
    where
      go : (xs : List Members) (z : ℕ) → z < length xs → ((m : Members) → slice_get xs z ≡ Some m → HasCell m s) → HasWideCell xs z s
      go [] z l f = absurd (omega arith)
      go (x ∷ xs) zero l f = (x, refl, f x refl)
      go (x ∷ xs) (suc z) l f = go xs z (omega arith) f

  symbol_cell : (s : Symbol) → IsSymbol g s → (m : Members) → slice_get classes z ≡ Some m → HasCell m s
  symbol_cell (Terminal a) h m is = let n = (opens m is).0 in let l = h.1 in omega arith
  symbol_cell (Nonterminal a) h m is = subst (λ (n : ℕ). a < n) (sym (opens m is).1) h

  behind_symbol : (y : ℕ) (s : Symbol) (b : ℕ) (w : List Symbol) → WideBehind g y s b w → (m : Members) → slice_get classes z ≡ Some m → HasCell m s
  behind_symbol _ _ _ _ (here z0 owner y s after beta rest b place parts begins) = symbol_cell s (place_symbol g well z0 owner y s after place)
  behind_symbol _ _ _ _ (through z0 owner y s after beta b place vanish inner) = symbol_cell s (place_symbol g well z0 owner y s after place)
  behind_symbol _ _ _ _ of_start = symbol_cell (Nonterminal 0) well.has_start
  behind_symbol _ _ _ _ (of_begin beta rest b parts begins) = λ m is. let n = (opens m is).0 in omega arith

  pub behind_has_cell : (s : Symbol) (b : ℕ) (w : List Symbol) → BehindAny g z s b w → HasWideCell classes z s
  behind_has_cell s b w h = a_cell s (any_below g well z s b w h) (⊎_elim (λ (k : WideBehind g z s b w). behind_symbol z s b w k) of_any h)
    where
      of_any : (z ≡ any_before g) × (a : ℕ) × (s ≡ Nonterminal a) × (y : ℕ) × IsEntered g y a × WideBehind g y (Nonterminal a) b w → (m : Members) → slice_get classes z ≡ Some m → HasCell m s
      of_any k = subst (λ (t : Symbol). (m : Members) → slice_get classes z ≡ Some m → HasCell m t) (sym k.2) (behind_symbol k.3 (Nonterminal k.1) b w k.5)

pub wide_room_less : (t n : ℕ) (old new : List Members) (claim : Claim) → HasAdded old new claim → room (cells_at old claim.before claim.symbol) ≡ suc (room (add claim.stack (cells_at old claim.before claim.symbol))) → room_in t n new < room_in t n old
wide_room_less t n old new claim h left = let e : room (cells_at new claim.before claim.symbol) ≡ room (add claim.stack (cells_at old claim.before claim.symbol)) = ap room h.at in let s = h.room_is t n in omega arith
