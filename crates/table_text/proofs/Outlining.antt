-- The outlines of pieces tell a word's stacks, and the productions that are written for its tokens are its left parse.
use Rattle.std.proofs.Common.{◌≡◌, ◌∙◌, ℕ, zero, suc, ◌+◌, ◌-◌, ◌<◌, List, [], ◌∷◌, ◌++◌, length, take, Option, Some, None, slice_get, option_map, option_and_then, flat_map, refl, sym, ap, ap₂, subst, arith, append_assoc, length-append}
use Rattle.std.proofs.lemmas.Option.{none-some, same_Some}
use Rattle.grammar_file.specs.declared.symbols.Symbol.{Symbol}
use Rattle.grammar_file.specs.declared.symbols.Symbol.TheVariants.{Terminal, Nonterminal}
use Rattle.grammar_file.specs.Grammar.{Grammar, IsWellFormed, end_mark}
use Rattle.grammar_file.specs.Drive.{Reads, first_stack}
use Rattle.grammar_file.specs.SyntaxPlace.{ended}
use Rattle.grammar_file.specs.Laws.Drives.{reads_below, reads_first, ReadsFirst}
use Rattle.grammar_file.specs.Laws.Words.{same_tail, terminal-nonterminal, same_head}
use Rattle.ll1_sets.specs.Laws.LeftRecursion.{reached_word}
use Rattle.ll1_sets.specs.Laws.Ll1.{IsReached}
use Rattle.ll1_sets.specs.Predict.{IsFirst, IsLl1}
use Rattle.llp_tables.specs.Lookback.{IsLookback, IsPiece}
use Rattle.llp_tables.specs.LookbackTable.{HasLookback, lookback_of}
use Rattle.llp_tables.specs.Laws.LookbackBounds.{lookback_in_range}
use Rattle.llp_tables.specs.Tables.{Entry, HasEntry}
use Rattle.llp_wide.specs.Wide.{HasWideEntry, IsWideLookback}
use Rattle.llp_wide.specs.WideLookbacks.{ClosedStack, HasWideLookback, wide_lookback_of}
use Rattle.glue_summary.specs.declared.behind.Behind.{Behind}
use Rattle.glue_summary.specs.declared.fault.ParseFault.TheVariants.{Syntax}
use Rattle.glue_summary.specs.Glue.{productions_of, stack_after, stack_along}
use Rattle.glue_summary.specs.Pieces.{Pieces, ArePieces, IsClosedBehind, at_begin, behind_next, piece_behind}
use Rattle.glue_summary.specs.Stretch.{AreMet, IsGlued, IsGlueFault, ended_by, entries_of, start_of}
use Rattle.table_text.specs.Ahead.{IsAhead, opens_at, opens_behind}
use Rattle.table_text.specs.ByLookback.{AreSetsOf}
use Rattle.table_text.specs.Listed.{HasEntryBehind, two_before}
use Rattle.table_text.specs.Members.{Members, AreMembers, members_of, member_behind}
use Rattle.table_text.specs.Outlines.{AreOutlines, outline_by, outline_end, outlines_of}
use Rattle.table_text.specs.Readings.{AreWritten, IsWritten}
use Rattle.table_text.specs.declared.ahead.Ahead.{Ahead}
use Rattle.table_text.specs.declared.lookback.Sets.{Sets}
use Rattle.table_text.specs.declared.lookback.Sets.TheVariants as sets
use Rattle.table_text.specs.declared.outlines.Outlines.{Outlines}
use Rattle.table_text.proofs.OnePiece.{piece_of_reading, same_piece}

-- ---- the members, by either look-back

pub sets_ll1 : (g : Grammar) (s : Sets) → AreSetsOf g s → IsLl1 g
sets_ll1 g (sets.One t) h = h.1.ll1
sets_ll1 g (sets.Two t) h = h.1.ll1

pub wide_some : (g : Grammar) (z a b : ℕ) (w : Option ClosedStack) (xs : List Symbol) → HasWideLookback g z a b w → option_map (λ (c : ClosedStack). c.closes) w ≡ Some xs
    → IsWideLookback g z a b xs × ((beta : List Symbol) → IsWideLookback g z a b beta → beta ≡ xs)
wide_some g z a b None xs h e = absurd (none-some xs e)
wide_some g z a b (Some c) xs h e = let same : c.closes ≡ xs = same_Some c.closes xs e in (subst (IsWideLookback g z a b) same h.1, λ beta k. h.2 beta k ∙ same)

pub wide_none : (g : Grammar) (z a b : ℕ) (w : Option ClosedStack) → HasWideLookback g z a b w → option_map (λ (c : ClosedStack). c.closes) w ≡ None → (beta : List Symbol) → ¬ IsWideLookback g z a b beta
wide_none g z a b None h e = h
wide_none g z a b (Some c) h e = absurd (none-some c.closes (sym e))

module _ (g : Grammar) (within : (z a b : ℕ) (beta : List Symbol) → IsWideLookback g z a b beta → IsLookback g a b beta)
    (closed : (k : Behind) (b : ℕ) (beta : List Symbol) → IsClosedBehind g k b beta → IsWideLookback g k.before_last k.last b beta) where
  pub sets_have_members : (s : Sets) → AreSetsOf g s → AreMembers g (members_of s)
  sets_have_members (sets.One t) h =
      record {
        ll1 = h.1.ll1;
        some = λ z a b closes e. (subst (HasLookback g a b) e (h.1.lookbacks a b)).0;
        only = λ k b closes e beta m. (subst (HasLookback g k.last b) e (h.1.lookbacks k.last b)).1 beta (within k.before_last k.last b beta (closed k b beta m));
        none = λ k b e beta m. subst (HasLookback g k.last b) e (h.1.lookbacks k.last b) beta (within k.before_last k.last b beta (closed k b beta m));
      }
  sets_have_members (sets.Two t) h =
      record {
        ll1 = h.1.ll1;
        some = λ z a b closes e. within z a b closes (wide_some g z a b (wide_lookback_of t z a b) closes (h.1.lookbacks z a b) e).0;
        only = λ k b closes e beta m. (wide_some g k.before_last k.last b (wide_lookback_of t k.before_last k.last b) closes (h.1.lookbacks k.before_last k.last b) e).1 beta (closed k b beta m);
        none = λ k b e beta m. wide_none g k.before_last k.last b (wide_lookback_of t k.before_last k.last b) (h.1.lookbacks k.before_last k.last b) e beta (closed k b beta m);
      }

last_item : {A : Type 0} (xs : List A) (x : A) → slice_get (xs ++ x ∷ []) (length (xs ++ x ∷ []) - 1) ≡ Some x
last_item {A} xs x =
    let len : length (xs ++ x ∷ []) ≡ length xs + 1 = length-append xs (x ∷ []) in
    let at : length (xs ++ x ∷ []) - 1 ≡ length xs = omega arith in
    ap (slice_get (xs ++ x ∷ [])) at ∙ there xs
  where
    there : (ys : List A) → slice_get (ys ++ x ∷ []) (length ys) ≡ Some x
    there [] = refl
    there (y ∷ ys) = there ys

item_in : {A : Type 0} (xs : List A) (n : ℕ) → n < length xs → (x : A) × (slice_get xs n ≡ Some x)
item_in {A} [] n l = absurd (let k : n < 0 = l in omega arith)
item_in {A} (x ∷ xs) zero l = (x, refl)
item_in {A} (x ∷ xs) (suc n) l = item_in xs n (let k : suc n < suc (length xs) = l in omega arith)

module _ (g : Grammar) (well : IsWellFormed g) (o : Outlines) (are : AreOutlines g o) where
  abbrev Member : Members
  Member = members_of o.sets

  abbrev Opens : ℕ → List Symbol → List Symbol
  Opens b = opens_at o.aheads.items b

  -- what the last symbol leaves
  left_is : (b : ℕ) (ahead : Ahead) → IsAhead g b ahead → (last : Symbol) → IsFirst g (last ∷ []) b → (ps : List ℕ) (below left : List Symbol) → IsReached g (last ∷ below) → Reads g b ps (last ∷ []) left
      → left ≡ opens_behind (Some ahead) (Some last)
  left_is b ahead h (Terminal c) f [] below left reached reads = sym (same_tail reads)
  left_is b ahead h (Terminal c) f (p ∷ ps) below left reached reads = absurd (terminal-nonterminal (same_head reads.3))
  left_is b ahead h (Nonterminal a) f ps below left reached reads = h.opens a f ps below left reached reads

  -- something is known where b comes next
  pub ahead_there : (a b : ℕ) (closes : List Symbol) → IsLookback g a b closes → b < length o.aheads.items
  ahead_there a b closes h = subst (λ (n : ℕ). b < n) (sym are.aheads.count) (lookback_in_range g well a b closes h).1

  -- a member leads to b and what its last symbol leaves
  outline_piece : (a b : ℕ) (closes : List Symbol) → IsLookback g a b closes → (ps : List ℕ) × IsPiece g b closes (Opens b closes) ps
  outline_piece a b closes h =
      let within : b < length o.aheads.items = ahead_there a b closes h in
      let begins = h.2 in
      let above : List Symbol = begins.0 in
      let last : Symbol = begins.1 in
      let r : ReadsFirst g b begins.4.0 (last ∷ []) begins.4.1 = reads_first g b begins.4.0 (last ∷ []) begins.4.1 begins.4.2 in
      let stands : IsReached g (closes ++ h.0) = (h.1.0, h.1.1 ++ a ∷ [], h.1.2.reaches) in
      let whole_stands : IsReached g (above ++ (last ∷ h.0)) = subst (IsReached g) (ap (λ (w : List Symbol). w ++ h.0) begins.2 ∙ append_assoc above (last ∷ []) h.0) stands in
      let reached : IsReached g (last ∷ h.0) = reached_word g above (last ∷ h.0) (begins.3.0, [], begins.3.1) whole_stands in
      let ahead = item_in o.aheads.items b within in
      let left : r.left ≡ opens_behind (Some ahead.0) (Some last) = left_is b ahead.0 (are.aheads.each b ahead.0 ahead.1) last (begins.4.0, begins.4.1, begins.4.2) r.ps1 h.0 r.left reached r.reads in
      let same : opens_behind (Some ahead.0) (Some last) ≡ Opens b closes = ap₂ opens_behind (sym ahead.1) (sym (ap (λ (w : List Symbol). slice_get w (length w - 1)) begins.2 ∙ last_item above last)) in
      let reads : Reads g b (begins.3.0 ++ r.ps1) closes r.left = subst (λ (w : List Symbol). Reads g b (begins.3.0 ++ r.ps1) w r.left) (sym begins.2) (reads_below g b begins.3.0 r.ps1 above (last ∷ []) r.left begins.3.1 r.reads) in
      (begins.3.0 ++ r.ps1, piece_of_reading g b closes (Opens b closes) (begins.3.0 ++ r.ps1) (subst (λ (w : List Symbol). Reads g b (begins.3.0 ++ r.ps1) closes w) (left ∙ same) reads))

  -- ---- the pieces of which these are the outlines

  abbrev Made : ℕ → Option (List Symbol) → Type 0
  Made b m = (closes : List Symbol) → m ≡ Some closes → (ps : List ℕ) × IsPiece g b closes (Opens b closes) ps

  piece_by : (b : ℕ) (m : Option (List Symbol)) → Made b m → Option Entry
  piece_by b None make = None
  piece_by b (Some closes) make = Some (record { closes = closes; opens = Opens b closes; productions = (make closes refl).0 })

  piece_is : (b : ℕ) (m : Option (List Symbol)) (make : Made b m) (e : Entry) → piece_by b m make ≡ Some e → (closes : List Symbol) × (m ≡ Some closes) × (e.closes ≡ closes) × IsPiece g b e.closes e.opens e.productions
  unfolding piece_by
  piece_is b None make e h = absurd (none-some e h)
  piece_is b (Some closes) make e h =
      let same = same_Some (record { closes = closes; opens = Opens b closes; productions = (make closes refl).0 }) e h in
      (closes, refl, sym (ap (λ (x : Entry). x.closes) same), subst (λ (x : Entry). IsPiece g b x.closes x.opens x.productions) same (make closes refl).1)

  piece_none : (b : ℕ) (m : Option (List Symbol)) (make : Made b m) → piece_by b m make ≡ None → m ≡ None
  unfolding piece_by
  piece_none b None make h = refl
  piece_none b (Some closes) make h = absurd (none-some _ (sym h))

  same_after : (b : ℕ) (m : Option (List Symbol)) (make : Made b m) (stack : List Symbol) → stack_after (piece_by b m make) stack ≡ stack_after (outline_by (Opens b) m) stack
  unfolding piece_by
  same_after b None make stack = refl
  same_after b (Some closes) make stack = refl

  made : (z a b : ℕ) → Made b (Member z a b)
  made z a b closes e = outline_piece a b closes (are.members.some z a b closes e)

  pub whole_pieces : Pieces
  whole_pieces z a b = piece_by b (Member z a b) (made z a b)

  pub are_whole : ArePieces g whole_pieces
  unfolding whole_pieces
  are_whole =
      record {
        ll1 = are.members.ll1;
        closes = λ k b e h beta m. let p = piece_is b (member_behind Member k b) (made k.before_last k.last b) e h in are.members.only k b p.0 p.1 beta m ∙ sym p.2;
        opens = λ k b e h. (piece_is b (member_behind Member k b) (made k.before_last k.last b) e h).3;
        none = λ k b h beta m. are.members.none k b (piece_none b (member_behind Member k b) (made k.before_last k.last b) h) beta m;
      }

  -- ---- they are the entries of the grammar's tables

  pair_made : (a b : ℕ) (m : Option (List Symbol)) (make : Made b m) → HasLookback g a b m → HasEntry g a b (piece_by b m make)
  unfolding piece_by
  pair_made a b None make h = h
  pair_made a b (Some closes) make h = record { member = h.0; only = h.1; piece = (make closes refl).1 }

  triple_made : (z a b : ℕ) (w : Option ClosedStack) (make : Made b (option_map (λ (c : ClosedStack). c.closes) w)) → HasWideLookback g z a b w → HasWideEntry g z a b (piece_by b (option_map (λ (c : ClosedStack). c.closes) w) make)
  unfolding piece_by
  triple_made z a b None make h = h
  triple_made z a b (Some c) make h = record { member = h.1; only = h.2; piece = (make c.closes refl).1 }

  entry_made : (s : Sets) → AreSetsOf g s → (z a b : ℕ) (make : Made b (members_of s z a b)) → HasEntryBehind g s (two_before z a) b (piece_by b (members_of s z a b) make)
  entry_made (sets.One t) h z a b make = pair_made a b (lookback_of t a b) make (h.1.lookbacks a b)
  entry_made (sets.Two t) h z a b make = triple_made z a b (wide_lookback_of t z a b) make (h.1.lookbacks z a b)

  pub whole_entries : (z a b : ℕ) → HasEntryBehind g o.sets (two_before z a) b (whole_pieces z a b)
  unfolding whole_pieces
  whole_entries z a b = entry_made o.sets are.sets z a b (made z a b)

  -- ---- their stacks are those of the outlines

  abbrev Whole : Behind → List ℕ → List (Option Entry)
  Whole k tokens = entries_of whole_pieces k tokens

  abbrev Outline : Behind → List ℕ → List (Option Entry)
  Outline k tokens = entries_of (outlines_of o) k tokens

  one_after : (k : Behind) (b : ℕ) (stack : List Symbol) → stack_after (piece_behind whole_pieces k b) stack ≡ stack_after (piece_behind (outlines_of o) k b) stack
  unfolding whole_pieces
  one_after k b stack = same_after b (member_behind Member k b) (made k.before_last k.last b) stack

  same_along : (tokens : List ℕ) (k : Behind) (stack : List Symbol) → stack_along (Whole k tokens) stack ≡ stack_along (Outline k tokens) stack
  same_along [] k stack = refl
  same_along (b ∷ tokens) k stack =
      ap (option_and_then (stack_along (Whole (behind_next k b) tokens))) (one_after k b stack) ∙ go (stack_after (piece_behind (outlines_of o) k b) stack) (same_along tokens (behind_next k b))
    where
      go : (v : Option (List Symbol)) → ((w : List Symbol) → stack_along (Whole (behind_next k b) tokens) w ≡ stack_along (Outline (behind_next k b) tokens) w)
          → option_and_then (stack_along (Whole (behind_next k b) tokens)) v ≡ option_and_then (stack_along (Outline (behind_next k b) tokens)) v
      go None same = refl
      go (Some w) same = same w

  same_take : (i : ℕ) (tokens : List ℕ) (k : Behind) (stack : List Symbol) → stack_along (take i (Whole k tokens)) stack ≡ stack_along (take i (Outline k tokens)) stack
  same_take zero tokens k stack = refl
  same_take (suc i) [] k stack = refl
  same_take (suc i) (b ∷ tokens) k stack =
      ap (option_and_then (stack_along (take i (Whole (behind_next k b) tokens)))) (one_after k b stack) ∙ go (stack_after (piece_behind (outlines_of o) k b) stack) (same_take i tokens (behind_next k b))
    where
      go : (v : Option (List Symbol)) → ((w : List Symbol) → stack_along (take i (Whole (behind_next k b) tokens)) w ≡ stack_along (take i (Outline (behind_next k b) tokens)) w)
          → option_and_then (stack_along (take i (Whole (behind_next k b) tokens))) v ≡ option_and_then (stack_along (take i (Outline (behind_next k b) tokens))) v
      go None same = refl
      go (Some w) same = same w

  pub same_fault : (word : List ℕ) (i : ℕ) → IsGlueFault (outlines_of o) (outline_end o) (ended_by (outline_end o) word) (Syntax i) → IsGlueFault whole_pieces (end_mark g) (ended g word) (Syntax i)
  same_fault word i h =
      let f = subst (λ (end : ℕ). IsGlueFault (outlines_of o) end (ended_by end word) (Syntax i)) are.end_is h in
      record {
        before = (f.before.0, same_take i (ended g word) at_begin (first_stack g) ∙ f.before.1);
        fails = same_take (i + 1) (ended g word) at_begin (first_stack g) ∙ f.fails;
      }

  -- ---- what is written are their productions

  one_written : (b : ℕ) (m : Option (List Symbol)) (make : Made b m) (qs : List ℕ) → ((closes : List Symbol) → m ≡ Some closes → (a : ℕ) × IsLookback g a b closes) → IsWritten g b m qs → qs ≡ productions_of (piece_by b m make)
  unfolding piece_by
  one_written b None make qs member h = h
  one_written b (Some closes) make qs member h = let k = member closes refl in (same_piece g b are.members.ll1 k.0 closes h.0 (Opens b closes) qs (make closes refl).0 k.1 h.1 (make closes refl).1).0

  all_written : (tokens : List ℕ) (k : Behind) (ps : List ℕ) → AreWritten g Member k tokens ps → ps ≡ flat_map productions_of (Whole k tokens)
  unfolding whole_pieces
  all_written [] k ps h = h
  all_written (b ∷ tokens) k ps h =
      h.2 ∙ ap₂ (λ (x y : List ℕ). x ++ y)
      (one_written b (member_behind Member k b) (made k.before_last k.last b) h.0 (λ closes e. (k.last, are.members.some k.before_last k.last b closes e)) h.3)
      (all_written tokens (behind_next k b) h.1 h.4)

  pub glued : (word ps : List ℕ) → AreMet (entries_of (outlines_of o) at_begin (ended_by (outline_end o) word)) (start_of (outline_end o)) → AreWritten g Member at_begin (ended_by (outline_end o) word) ps
      → IsGlued whole_pieces (end_mark g) (ended g word) ps
  glued word ps met written =
      let m = subst (λ (end : ℕ). AreMet (entries_of (outlines_of o) at_begin (ended_by end word)) (start_of end)) are.end_is met in
      let w = subst (λ (end : ℕ). AreWritten g Member at_begin (ended_by end word) ps) are.end_is written in
      record {
        met = (m.0, same_along (ended g word) at_begin (first_stack g) ∙ m.1);
        productions = all_written (ended g word) at_begin ps w;
      }
