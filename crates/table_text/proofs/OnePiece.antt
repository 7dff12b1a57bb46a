-- What is closed has one piece, so a grammar has one table of entries.
use Rattle.std.proofs.Common.{◌≡◌, ◌∙◌, ℕ, List, [], ◌∷◌, ◌++◌, Option, Some, None, refl, sym, ap, subst, append-nil}
use Rattle.std.proofs.lemmas.List.{append_cancel_right}
use Rattle.grammar_file.specs.declared.symbols.Symbol.{Symbol}
use Rattle.grammar_file.specs.Grammar.{Grammar}
use Rattle.grammar_file.specs.Drive.{Reads}
use Rattle.grammar_file.specs.Laws.Drives.{drives_of_first, first_of_drives, reads_above}
use Rattle.ll1_sets.specs.Laws.Ll1.{IsReached, reads_same}
use Rattle.ll1_sets.specs.Predict.{IsLl1}
use Rattle.llp_tables.specs.Lookback.{IsLookback, IsPiece}
use Rattle.llp_tables.specs.Pieces.{AddsPiece}
use Rattle.llp_tables.specs.Tables.{Entry, HasEntry}
use Rattle.llp_wide.specs.Wide.{HasWideEntry, IsWideLookback}

module _ (g : Grammar) (b : ℕ) where
  pub piece_of_reading : (closes opens : List Symbol) (ps : List ℕ) → Reads g b ps closes opens → IsPiece g b closes opens ps
  piece_of_reading closes opens ps h = first_of_drives g (b ∷ []) ps closes opens (ps, [], opens, sym (append-nil ps), h, (refl, refl))

  pub reading_of_piece : (closes opens : List Symbol) (ps : List ℕ) → IsPiece g b closes opens ps → Reads g b ps closes opens
  reading_of_piece closes opens ps h =
      let d = drives_of_first g (b ∷ []) ps closes opens h in
      let e : d.0 ≡ ps = sym (d.3 ∙ (ap (λ (x : List ℕ). d.0 ++ x) d.5.0 ∙ append-nil d.0)) in
      subst (λ (x : List ℕ). Reads g b x closes opens) e (subst (Reads g b d.0 closes) d.5.1 d.4)

  -- two pieces that close one member are the same
  pub same_piece : IsLl1 g → (a : ℕ) (closes u v : List Symbol) (qs rs : List ℕ) → IsLookback g a b closes → IsPiece g b closes u qs → IsPiece g b closes v rs → (qs ≡ rs) × (u ≡ v)
  same_piece ll1 a closes u v qs rs h one other =
      let stands : IsReached g (closes ++ h.0) = (h.1.0, h.1.1 ++ a ∷ [], h.1.2.reaches) in
      let same : (qs ≡ rs) × (u ++ h.0 ≡ v ++ h.0) =
      reads_same g ll1 b qs rs (closes ++ h.0) (u ++ h.0) (v ++ h.0) stands (reads_above g b qs closes u h.0 (reading_of_piece closes u qs one)) (reads_above g b rs closes v h.0 (reading_of_piece closes v rs other)) in
      (same.0, append_cancel_right u v h.0 same.1)

  same_entry : IsLl1 g → (a : ℕ) (e f : Entry) → IsLookback g a b e.closes → f.closes ≡ e.closes → IsPiece g b e.closes e.opens e.productions → IsPiece g b f.closes f.opens f.productions → e ≡ f
  same_entry ll1 a e f h closes one other =
      let piece : IsPiece g b e.closes f.opens f.productions = subst (λ (xs : List Symbol). IsPiece g b xs f.opens f.productions) closes other in
      let same : (e.productions ≡ f.productions) × (e.opens ≡ f.opens) = same_piece ll1 a e.closes e.opens f.opens e.productions f.productions h one piece in
      λ i. record { closes = sym closes i; opens = same.1 i; productions = same.0 i }

  pub one_pair : IsLl1 g → (a : ℕ) (e f : Option Entry) → HasEntry g a b e → HasEntry g a b f → e ≡ f
  one_pair ll1 a None None h k = refl
  one_pair ll1 a None (Some f) h k = absurd (h f.closes k.member)
  one_pair ll1 a (Some e) None h k = absurd (k e.closes h.member)
  one_pair ll1 a (Some e) (Some f) h k = ap Some (same_entry ll1 a e f h.member (h.only f.closes k.member) h.piece k.piece)

  -- what is closed behind two terminals is closed behind the second one
  pub one_triple : IsLl1 g → (z a : ℕ) → ((beta : List Symbol) → IsWideLookback g z a b beta → IsLookback g a b beta) → (e f : Option Entry) → HasWideEntry g z a b e → HasWideEntry g z a b f → e ≡ f
  one_triple ll1 z a within None None h k = refl
  one_triple ll1 z a within None (Some f) h k = absurd (h f.closes k.member)
  one_triple ll1 z a within (Some e) None h k = absurd (k e.closes h.member)
  one_triple ll1 z a within (Some e) (Some f) h k = ap Some (same_entry ll1 a e f (within e.closes h.member) (h.only f.closes k.member) h.piece k.piece)

  -- productions that are added to none are those of the piece
  pub piece_alone : (closes opens : List Symbol) (before after : List ℕ) → before ≡ [] → AddsPiece g b closes opens before after → IsPiece g b closes opens after
  piece_alone closes opens before after none h = subst (IsPiece g b closes opens) (sym (h.added ∙ ap (λ (ps : List ℕ). ps ++ h.productions) none)) h.piece
