-- Prefixes of the numbers of bytes.
use Rattle.std.proofs.Common.{◌≡◌, ℕ, suc, zero, ◌<◌, List, [], ◌∷◌, ◌++◌, length, take, map, fold, Some, slice_get, refl, sym, ap, ◌∙◌, arith}
use Rattle.std.proofs.Math.Logic.{∥∥₁_elim}
use Rattle.std.specs.Prelude.{slice_index}
use Rattle.std.specs.Coded.{le_prop, Coded-set, coded_option, coded_list, coded_ℕ}
use Rattle.std.proofs.lemmas.List.{append_assoc, append-nil, take-map}
use Rattle.std.proofs.lemmas.List.Elements.{All-append, All-take}
use Rattle.std.proofs.lemmas.Bool.{lt-ltb}
use Rattle.word_monoid.specs.Monoid.{IsItem}
use Rattle.word_monoid.specs.Folds.{prefix_of, prefixes}
use Rattle.word_monoid.specs.Laws.Folds.{get_below, all_first, all_rest, length-prefixes, prefixes_at}
use Rattle.state_monoid.specs.Automaton.{IsWord, run}
use Rattle.state_monoid.specs.Image.{compose, image, IsReached, IsNumbering}
use Rattle.state_monoid.specs.Numbering.{Numbering, function_of, number_of, byte_number, composition}
use Rattle.state_monoid.specs.Places.{get_value, some_inj}
use Rattle.state_monoid.specs.Words.{image_append, image_at}
use Rattle.state_monoid.specs.Lawful.{member_at}

pub one_byte : (b : ℕ) → b < 256 → IsWord (b ∷ [])
one_byte b h zero e k = h
one_byte b h (suc i) e k = absurd (omega arith)

word_take : (word : List ℕ) → IsWord word → (i : ℕ) → IsWord (take i word)
word_take word w i = All-take (λ b. b < 256) i word w

module _ (m : Numbering) (all : IsNumbering m.automaton m.functions) where
  own_function : (f : List ℕ) → IsReached m.automaton f → function_of m (number_of m f) ≡ f
  own_function f r = get_value m.functions (number_of m f) f [] (member_at m all f r)

  -- one byte more
  joined : (done : List ℕ) (b : ℕ) → IsWord done → b < 256 → (composition m).join (number_of m (image m.automaton done)) (byte_number m b) ≡ number_of m (image m.automaton (done ++ b ∷ []))
  joined done b w h = ap (number_of m)
      ((λ i. compose (own_function (image m.automaton done) (done, w, refl) i) (own_function (image m.automaton (b ∷ [])) (b ∷ [], one_byte b h, refl) i))
      ∙ sym (image_append m.automaton m.is_automaton done (b ∷ []) w))

  -- the fold goes on from the number of a word that has been read
  folded : (word done : List ℕ) → IsWord done → IsWord word → fold (composition m).join (number_of m (image m.automaton done)) (map (byte_number m) word)
      ≡ number_of m (image m.automaton (done ++ word))
  folded [] done w v = ap (λ (l : List ℕ). number_of m (image m.automaton l)) (sym (append-nil done))
  folded (b ∷ word) done w v =
      let byte : b < 256 = all_first (λ b. b < 256) b word v in
      ap (λ (a : ℕ). fold (composition m).join a (map (byte_number m) word)) (joined done b w byte)
      ∙ (folded word (done ++ b ∷ []) (All-append (λ b. b < 256) done (b ∷ []) w (one_byte b byte)) (all_rest (λ b. b < 256) b word v)
      ∙ ap (λ (l : List ℕ). number_of m (image m.automaton l)) (append_assoc done (b ∷ []) word))

  prefix_number : (word : List ℕ) → IsWord word → (i : ℕ) → prefix_of (composition m) (map (byte_number m) word) i ≡ number_of m (image m.automaton (take i word))
  prefix_number word w i =
      ap (fold (composition m).join (composition m).unit) (take-map (byte_number m) i word)
      ∙ folded (take i word) [] (λ k d h. absurd (omega arith)) (word_take word w i)

  numbered_prefix : (word : List ℕ) → IsWord word → (i : ℕ) → slice_get m.functions (prefix_of (composition m) (map (byte_number m) word) i) ≡ Some (image m.automaton (take i word))
  numbered_prefix word w i = ap (slice_get m.functions) (prefix_number word w i) ∙ member_at m all (image m.automaton (take i word)) (take i word, word_take word w i, refl)

same_prop : (fs : List (List ℕ)) (c : ℕ) (f : List ℕ) → IsProp (slice_get fs c ≡ Some f)
same_prop fs c f = Coded-set (coded_option (coded_list coded_ℕ)) (slice_get fs c) (Some f)

-- the number at a place of the prefixes is the prefix there
prefix_at : (m : Numbering) (word : List ℕ) (i c : ℕ) → slice_get (prefixes (composition m) (map (byte_number m) word)) i ≡ Some c → prefix_of (composition m) (map (byte_number m) word) i ≡ c
prefix_at m word i c at =
    let below = get_below (prefixes (composition m) (map (byte_number m) word)) i c at in
    let len = length-prefixes (composition m) (map (byte_number m) word) in
    let is = prefixes_at (composition m) (map (byte_number m) word) i (omega arith) in
    some_inj (prefix_of (composition m) (map (byte_number m) word) i) c (sym is ∙ at)

pub prefix_function : (m : Numbering) (word : List ℕ) → IsWord word → (i c : ℕ) → slice_get (prefixes (composition m) (map (byte_number m) word)) i ≡ Some c
    → slice_get m.functions c ≡ Some (image m.automaton (take i word))
prefix_function m word w i c at =
    ap (slice_get m.functions) (sym (prefix_at m word i c at))
    ∙ ∥∥₁_elim m.numbers_all (same_prop m.functions (prefix_of (composition m) (map (byte_number m) word) i) (image m.automaton (take i word))) (λ all. numbered_prefix m all word w i)

pub prefix_state : (m : Numbering) (word : List ℕ) → IsWord word → (i c s : ℕ) → slice_get (prefixes (composition m) (map (byte_number m) word)) i ≡ Some c → s < m.automaton.states
    → slice_index (function_of m c) s ≡ run m.automaton s (take i word)
prefix_state m word w i c s at h =
    ap (λ (f : List ℕ). slice_index f s) (get_value m.functions c (image m.automaton (take i word)) [] (prefix_function m word w i c at)) ∙ image_at m.automaton (take i word) s 0 h

byte_below : (m : Numbering) → IsNumbering m.automaton m.functions → (b : ℕ) → b < 256 → byte_number m b < length m.functions
byte_below m all b h = get_below m.functions (byte_number m b) (image m.automaton (b ∷ [])) (member_at m all (image m.automaton (b ∷ [])) (b ∷ [], one_byte b h, refl))

pub byte_item : (m : Numbering) (b : ℕ) → b < 256 → IsItem (composition m) (byte_number m b)
byte_item m b h = lt-ltb (byte_number m b) (length m.functions) (∥∥₁_elim m.numbers_all le_prop (λ all. byte_below m all b h))
