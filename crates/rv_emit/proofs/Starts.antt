-- Where each part of a program's words begins is what its rows' places say.
use Rattle.std.proofs.Common.{◌≡◌, inl, inr, ℕ, zero, suc, ◌+◌, ◌-◌, ◌*◌, ◌<◌, ◌≤◌, min, List, [], ◌∷◌, ◌++◌, length, map, get_or, Option, refl, sym, ap, ◌∙◌, arith, length-append, suc-mul, append_assoc, append-nil}
use Rattle.std.specs.Prelude.{flat_map}
use Rattle.std.specs.List.{range_with_len}
use Rattle.std.proofs.lemmas.Bool.{cases_lt}
use Rattle.std.proofs.lemmas.List.{length-map, get_or_past}
use Rattle.std.proofs.lemmas.List.FromFn.{length-map-range_with_len, get_or-map-range_with_len}
use Rattle.chunk_seats.specs.Chunks.{chunk_of}
use Rattle.scan_lookback.specs.Laws.Lists.{flat_map_more}
use Rattle.par_passes.specs.Laws.Marking.{range_chunk}
use Rattle.scatter_rows.specs.Starts.{AreStarts}
use Rattle.rv_isa.specs.Encoding.{word}
use Rattle.rv_isa.specs.declared.instructions.Instr.TheVariants.{Addi, Ecall}
use Rattle.source_meaning.specs.Ast.{Program}
use Rattle.source_meaning.specs.Frames.{Frame}
use Rattle.source_meaning.specs.Rows.{post}
use Rattle.rv_code.specs.Code.{Layout, jump, jump_width}
use Rattle.rv_code.specs.Laws.Widths.{jump_wide}
use Rattle.code_rules.specs.RowPieces.{next_words, size_by, start_size}
use Rattle.code_rules.specs.RowTables.{head_by}
use Rattle.code_rules.specs.Laws.Sized.{next_sized, piece_sized}
use Rattle.rv_select.specs.Columns.{ProgramColumns, known_in, start_in}
use Rattle.rv_select.specs.Knowns.{known_of, start_of}
use Rattle.rv_select.specs.Layout.{place_in, rows, words_many, AreLaid}
use Rattle.rv_select.specs.Referred.{spots_in}
use Rattle.rv_select.specs.declared.referred.Places.{Places}
use Rattle.rv_emit.specs.OfColumns.{head_of, piece_of, row_words, part_of, words_before, words_from, AreAccepted}
use Rattle.rv_emit.proofs.Bounds.{sum_first}
use Rattle.rv_emit.proofs.Sized.{fits, many, next}

-- how many words a head has, whatever place it jumps to
head_sized : (layout : Layout) (to : ℕ) (first : Option (Frame × ℕ)) → length (head_by layout to first) ≡ jump_width layout + 2 + start_size first
head_sized layout to first =
    omega (arith, length-append (jump layout 1 0 to) (Addi 17 0 93 ∷ Ecall ∷ next_words first), jump_wide layout 1 0 to, next_sized first)

-- one chunk more, of a list of that length
next_end : (at size long : ℕ) → min at long + min size (long - at) ≡ min (at + size) long
next_end at size long = omega arith

module _ (c : ProgramColumns) (layout : Layout) (s : Places) (main : ℕ) (p : Program) (good : AreAccepted c main p) where
  abbrev At : ℕ → ℕ
  At k = place_in layout c k

  abbrev long : ℕ
  long = length c.kinds

  head_long : length (map word (head_of c layout s main)) ≡ At 0
  head_long =
      let none = sum_first layout c in
      length-map (head_of c layout s main) word ∙ head_sized layout _ (start_of (start_in c 0)) ∙ omega arith

  -- this many rows, from one on
  rows_long : (n from : ℕ) → from + n ≤ long → At from + length (flat_map (piece_of c layout s main) (range_with_len from n)) ≡ At (from + n)
  rows_long zero from le =
      let z : from ≡ from + 0 = omega arith in
      let end : At from ≡ At (from + 0) = ap At z in
      omega arith
  rows_long (suc n) from le =
      let same = many c main p good in
      let sized : length (piece_of c layout s main from) ≡ size_by layout (known_of (known_in c from)) = piece_sized layout (known_of (known_in c from)) (spots_in layout c s.at.now s.children.now from) in
      let behind : At (from + 1) ≡ At from + size_by layout (known_of (known_in c from)) = next c main p good layout from (omega arith) in
      let rest : At (from + 1) + length (flat_map (piece_of c layout s main) (range_with_len (from + 1) n)) ≡ At (from + 1 + n) = rows_long n (from + 1) (omega arith) in
      let both = length-append (piece_of c layout s main from) (flat_map (piece_of c layout s main) (range_with_len (from + 1) n)) in
      let z : from + 1 + n ≡ from + suc n = omega arith in
      let end : At (from + 1 + n) ≡ At (from + suc n) = ap At z in
      ap (λ m. At from + m) both ∙ omega arith

  part_long : (size n from : ℕ) → from ≡ min (n * size) long → At from + length (part_of c layout s main size (suc n)) ≡ At (min (suc n * size) long)
  part_long size n from is =
      let chunk : chunk_of size (rows c) n ≡ range_with_len from (min size (long - n * size)) = range_chunk size long n from is in
      let words : length (part_of c layout s main size (suc n)) ≡ length (flat_map (piece_of c layout s main) (range_with_len from (min size (long - n * size)))) =
      ap (λ (ks : List ℕ). length (row_words c layout s main ks)) chunk
      ∙ length-map (flat_map (piece_of c layout s main) (range_with_len from (min size (long - n * size)))) word in
      let end : from + min size (long - n * size) ≡ min (suc n * size) long =
      ap (λ m. m + min size (long - n * size)) is ∙ next_end (n * size) size long ∙ ap (λ m. min m long) (sym (suc-mul n size)) in
      ap (λ m. At from + m) words ∙ rows_long (min size (long - n * size)) from (omega arith) ∙ ap At end

  parts_long : (size n : ℕ) → words_before c layout s main size (suc n) ≡ At (min (n * size) long)
  parts_long size zero =
      let z : 0 ≡ min (0 * size) long = omega arith in
      let first : At 0 ≡ At (min (0 * size) long) = ap At z in
      let head = head_long in
      let all : length (map word (head_of c layout s main)) + 0 ≡ At (min (0 * size) long) = omega arith in
      length-append (map word (head_of c layout s main)) [] ∙ all
  parts_long size (suc n) =
      let z : suc (suc n) ≡ suc n + 1 = omega arith in
      let y : 0 + suc n ≡ suc n = omega arith in
      ap (λ m. words_before c layout s main size m) z
      ∙ ap (λ (l : List ℕ). length l) (flat_map_more (part_of c layout s main size) 0 (suc n))
      ∙ ap (λ m. length (flat_map (part_of c layout s main size) (range_with_len 0 (suc n)) ++ part_of c layout s main size m)) y
      ∙ length-append (flat_map (part_of c layout s main size) (range_with_len 0 (suc n))) (part_of c layout s main size (suc n))
      ∙ ap (λ m. m + length (part_of c layout s main size (suc n))) (parts_long size n)
      ∙ part_long size n (min (n * size) long) refl

  module _ (laid : AreLaid layout c s.at.now s.children.now) where
    -- the place of row k's first word; behind the last row, how many words there are
    place_read : (words k : ℕ) → words ≡ words_many layout c → k ≤ long → get_or s.at.now k words ≡ At k
    place_read words k all le = elim (cases_lt k long) [ inl lt ↦ inside lt | inr past ↦ behind past ]
      where
        same : length c.kinds ≡ length (post p)
        same = many c main p good

        inside : k < long → get_or s.at.now k words ≡ At k
        inside lt =
            let m = same in
            ap (λ (l : List ℕ). get_or l k words) laid.at_are
            ∙ get_or-map-range_with_len (λ m. min (At m) 4294967295) 0 long k k words lt (omega arith)
            ∙ fits c main p good layout k (omega arith)

        behind : long ≤ k → get_or s.at.now k words ≡ At k
        behind past =
            let l : length s.at.now ≡ long = ap (λ (l : List ℕ). length l) laid.at_are ∙ length-map-range_with_len (λ m. min (At m) 4294967295) 0 long in
            let z : long ≡ k = omega arith in
            get_or_past s.at.now k words (omega arith) ∙ all ∙ ap At z

    pub before_is : (size words n row : ℕ) → words ≡ words_many layout c → row ≡ min (n * size) long → get_or s.at.now row words ≡ words_before c layout s main size (suc n)
    before_is size words n row all is = place_read words row all (omega arith) ∙ ap At is ∙ sym (parts_long size n)

-- the lists of this many numbers, and of this many behind them
pub parts_more : (part : ℕ → List ℕ) (a n : ℕ) → flat_map part (range_with_len 0 (a + n)) ≡ flat_map part (range_with_len 0 a) ++ flat_map (λ k. part (a + k)) (range_with_len 0 n)
parts_more part a zero =
    let z : a + 0 ≡ a = omega arith in
    ap (λ m. flat_map part (range_with_len 0 m)) z ∙ sym (append-nil (flat_map part (range_with_len 0 a)))
parts_more part a (suc n) =
    let z : a + suc n ≡ a + n + 1 = omega arith in
    let y : 0 + (a + n) ≡ a + n = omega arith in
    let x : suc n ≡ n + 1 = omega arith in
    let w : 0 + n ≡ n = omega arith in
    ap (λ m. flat_map part (range_with_len 0 m)) z
    ∙ flat_map_more part 0 (a + n)
    ∙ ap (λ m. flat_map part (range_with_len 0 (a + n)) ++ part m) y
    ∙ ap (λ (l : List ℕ). l ++ part (a + n)) (parts_more part a n)
    ∙ append_assoc (flat_map part (range_with_len 0 a)) (flat_map (λ k. part (a + k)) (range_with_len 0 n)) (part (a + n))
    ∙ ap (λ (l : List ℕ). flat_map part (range_with_len 0 a) ++ l) (sym (ap (λ m. flat_map (λ k. part (a + k)) (range_with_len 0 m)) x ∙ flat_map_more (λ k. part (a + k)) 0 n ∙ ap (λ m. flat_map (λ k. part (a + k)) (range_with_len 0 n) ++ part (a + m)) w))

module _ (c : ProgramColumns) (layout : Layout) (s : Places) (main size first count : ℕ) (starts : List ℕ) (are : starts ≡ map (words_from c layout s main size first) (range_with_len 0 (count + 1))) where
  starts_long : length starts ≡ count + 1
  starts_long = ap (λ (l : List ℕ). length l) are ∙ length-map-range_with_len (words_from c layout s main size first) 0 (count + 1)

  pub starts_many : length starts - 1 ≡ count
  starts_many = let e = starts_long in omega arith

  from_is : (n : ℕ) → words_from c layout s main size first n ≡ length (flat_map (λ k. part_of c layout s main size (first + k)) (range_with_len 0 n))
  from_is n =
      let more = ap (λ (l : List ℕ). length l) (parts_more (part_of c layout s main size) first n)
      ∙ length-append (flat_map (part_of c layout s main size) (range_with_len 0 first)) (flat_map (λ k. part_of c layout s main size (first + k)) (range_with_len 0 n)) in
      omega arith

  pub parts_start : AreStarts (λ k. part_of c layout s main size (first + k)) starts
  parts_start =
      let e = starts_long in (
        omega arith,
        λ n lt. ap (λ (l : List ℕ). get_or l n 0) are ∙ get_or-map-range_with_len (words_from c layout s main size first) 0 (count + 1) n n 0 (omega arith) (omega arith) ∙ from_is n,
      )
