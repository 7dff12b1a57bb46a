-- A full row is cut in two, and two neighbours are glued. Assumes `Logic`.
use mathlib.Core.Path.{◌≡◌, refl, sym, ap, ◌∙◌}
use mathlib.Core.Bool.{Bool, true}
use mathlib.Core.List.{List, [], ◌∷◌, ◌++◌}
use Prim.Native.Nat.{ℕ, ◌+◌, ◌*◌, ◌≤◌}
use lib.ListN.{length, take, drop, replicate, length-append, length-replicate, replicate-append-replicate, take-append-drop}
use lib.Seq.{length-take-le}
use seplogic.Ra.Ura.{Ura}
use base.Logic.{ent, sep}
use base.Fml.{Fml}
use types.Logic.{Logic, sem}
use types.Kit.{‵, ◌⊛◌, ◌$◌, ◌∵◌, !, qed, by, use2, rewrite, done}
use denote.RawPtr.{block_ptr}
use Rattle.core.specs.Mem.Slots.Ownership.{slots}
use Rattle.core.proofs.mem.Param.{El, R, el_x}
use Rattle.core.proofs.slots.Places.{sz, row_cut, row_glue}
use Rattle.list_parts.proofs.Holding.{flags}

pub flags-append : {X : Type 0} (xs ys : List X) → flags xs ++ flags ys ≡ flags (xs ++ ys)
flags-append xs ys = replicate-append-replicate (length xs) (length ys) true ∙ ap (λ (k : ℕ). replicate k true) (sym (length-append xs ys))

module _ (E : El) {M : Type 1} {𝓤 : Ura M} (𝓛 : Logic 𝓤) (b o : ℕ) where
  abbrev pub full : ℕ → List (el_x E) → Fml
  full at xs = slots (R E) (block_ptr b at) xs (flags xs)

  pub glued : (xs ys : List (el_x E)) → ent 𝓤 (sep 𝓤 (sem 𝓛 (full o xs)) (sem 𝓛 (full (length xs * sz E + o) ys))) (sem 𝓛 (full o (xs ++ ys)))
  glued xs ys = qed 𝓛 (‵ (full o xs) ∷ ‵ (full (length xs * sz E + o) ys) ∷ []) ∵
      use2 𝓛 (‵ (slots (R E) (block_ptr b o) (xs ++ ys) (flags xs ++ flags ys))) (row_glue E 𝓛 b xs ys (flags xs) (flags ys) o (length xs * sz E + o) (length-replicate (length xs) true) refl) $
      rewrite ! 0 (λ (fs : List Bool). ‵ (slots (R E) (block_ptr b o) (xs ++ ys) fs)) (flags-append xs ys) refl $ done !

  parted : (xs ys : List (el_x E)) → ent 𝓤 (sem 𝓛 (full o (xs ++ ys))) (sep 𝓤 (sem 𝓛 (full o xs)) (sem 𝓛 (full (length xs * sz E + o) ys)))
  parted xs ys = qed 𝓛 (‵ (full o (xs ++ ys)) ∷ []) ∵
      rewrite ! 0 (λ (fs : List Bool). ‵ (slots (R E) (block_ptr b o) (xs ++ ys) fs)) (sym (flags-append xs ys)) refl $
      by ! (row_cut E 𝓛 b xs ys (flags xs) (flags ys) o (length xs * sz E + o) (length-replicate (length xs) true) refl)

  pub cut_at : (xs : List (el_x E)) (n : ℕ) → n ≤ length xs → ent 𝓤 (sem 𝓛 (full o xs)) (sep 𝓤 (sem 𝓛 (full o (take n xs))) (sem 𝓛 (full (n * sz E + o) (drop n xs))))
  cut_at xs n le = let front : length (take n xs) ≡ n = length-take-le n xs le in qed 𝓛 (‵ (full o xs) ∷ []) ∵
      rewrite ! 0 (λ (ys : List (el_x E)). ‵ (full o ys)) (sym (take-append-drop n xs)) refl $
      types.Kit.use1 𝓛 (‵ (full o (take n xs)) ⊛ ‵ (full (length (take n xs) * sz E + o) (drop n xs))) (parted (take n xs) (drop n xs)) $ types.Kit.split ! $
      rewrite ! 1 (λ (k : ℕ). ‵ (full (k * sz E + o) (drop n xs))) front refl $ done !
