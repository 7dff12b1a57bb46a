-- A listing is assembled to the words that it lists.
use Rattle.std.proofs.Common.{◌≡◌, ℕ, zero, suc, ◌+◌, ◌-◌, ◌*◌, ◌%◌, ◌^◌, ◌<◌, ◌≤◌, List, [], ◌∷◌, ◌++◌, length, get_or, take, drop, Bool, true, false, cond, eqb, ltb, not, ◌&&◌, Some, Ok, refl, sym, ap, ◌∙◌, arith, append-nil, append_assoc, length-append, lit<}
use Rattle.std.proofs.lemmas.Bool.Decides.{nat_tests}
use Rattle.std.specs.Prelude.{decimal, nat_lt, nat_le, option_and_then, ◌==◌}
use Rattle.std.specs.List.{list_all, prefix_len, position_or_len, before_first, slice_split, All}
use Rattle.std.specs.Str.Lines.{lines, lines_of_parts, strip_carriage_return}
use Rattle.std.proofs.lemmas.Fmt.{length-decimal-le}
use Rattle.std.proofs.lemmas.List.Splits.{slice_split_at}
use Rattle.std.proofs.lemmas.List.Sums.{AllPass-from_list_all}
use Rattle.std.proofs.lemmas.List.Elements.{All-tail}
use Rattle.rv_isa.specs.Encoding.{decoded}
use Rattle.rv_text.specs.declared.operands.Operand.{Operand}
use Rattle.rv_text.specs.declared.operands.Operand.TheVariants.{Register, Number, Address, Word}
use Rattle.rv_text.specs.declared.lines.Line.TheVariants.{Blank, Spells}
use Rattle.rv_text.specs.Written.{number_text, register_text, operand_text, further_text, operands_text, text, written_or_raw, line_of, listed}
use Rattle.rv_text.specs.Reading.{is_blank, unindented, parted, operands, word_in, spelled, line_at, line_read}
use Rattle.rv_text.specs.Assembled.{words_from, with_line, counted, assembled}
use Rattle.rv_text.proofs.Runs.{all_append, all_weaker, run_is, behind_run}
use Rattle.rv_text.proofs.Cuts.{some_part, parts_more}
use Rattle.rv_text.proofs.Rows.{is_plain, is_name, IsGood, AreGood, room, Spelt, word_spelt}
use Rattle.rv_text.proofs.ReadAgain.{address_text, operand_plain, operand_some, plain_unindented, plain_no_blank, blank_first, operands_again}

pub record IsName (name : List ℕ) : Type 0 where
  pub plain : list_all is_plain name ≡ true
  pub some : 0 < length name
  pub short : length name ≤ 6

name_from : (name : List ℕ) → is_name name ≡ true → IsName name
name_from name h = go (list_all is_plain name) (nat_lt 0 (length name)) (nat_le (length name) 6) refl refl refl h
  where
    go : (a b c : Bool) → list_all is_plain name ≡ a → nat_lt 0 (length name) ≡ b → nat_le (length name) 6 ≡ c → (a && (b && c)) ≡ true → IsName name
    go true true true p q r h = record { plain = p; some = grind (arith, nat_tests); short = grind (arith, nat_tests) }
    go true true false p q r h = absurd (cc)
    go true false c p q r h = absurd (cc)
    go false b c p q r h = absurd (cc)

-- the bytes of a line: no `#` and no end of line
abbrev is_shown : ℕ → Bool
is_shown b = nat_le 32 b && not (b == 35)

plain_shown : (b : ℕ) → is_plain b ≡ true → is_shown b ≡ true
plain_shown b h = grind (arith, nat_tests)

shown : (s : List ℕ) → list_all is_plain s ≡ true → list_all is_shown s ≡ true
shown s h = all_weaker is_plain is_shown plain_shown s h

further_shown : (os : List Operand) → AreGood os → list_all is_shown (further_text os) ≡ true
further_shown [] good = refl
further_shown (o ∷ os) good = all_append is_shown (operand_text o) (further_text os) (shown (operand_text o) (operand_plain o good.0)) (further_shown os good.1)

operands_shown : (os : List Operand) → AreGood os → list_all is_shown (operands_text os) ≡ true
operands_shown [] good = refl
operands_shown (o ∷ os) good = all_append is_shown (operand_text o) (further_text os) (shown (operand_text o) (operand_plain o good.0)) (further_shown os good.1)

text_shown : (name : List ℕ) (os : List Operand) → IsName name → AreGood os → list_all is_shown (text (name, os)) ≡ true
text_shown name os n good = all_append is_shown name (operands_text os) (shown name n.plain) (operands_shown os good)

-- lengths

register_short : (n : ℕ) → n < 32 → length (register_text n) ≤ 3
register_short n h = let e : length (decimal n) ≤ 2 = length-decimal-le 2 n (lit< tt) (omega arith) (omega arith) in omega arith

number_short : (x : ℕ) → x < 2 ^ 32 → (x + 2 ^ 20) % 2 ^ 32 < 2 ^ 21 → length (number_text x) ≤ 8
number_short x p q = go (nat_lt x (2 ^ 31)) refl
  where
    go : (b : Bool) → nat_lt x (2 ^ 31) ≡ b → length (cond b (decimal x) (0x2D ∷ decimal (2 ^ 32 - x))) ≤ 8
    go true e = let small : x < 2147483648 = grind (arith, nat_tests) in let l : length (decimal x) ≤ 7 = length-decimal-le 7 x (lit< tt) (omega arith) (omega arith) in omega arith
    go false e = let large : 2147483648 ≤ x = grind (arith, nat_tests) in let l : length (decimal (2 ^ 32 - x)) ≤ 7 = length-decimal-le 7 (2 ^ 32 - x) (lit< tt) (omega arith) (omega arith) in omega arith

operand_short : (o : Operand) (os : List Operand) → IsGood o → 2 + length (operand_text o) + room os ≤ room (o ∷ os)
operand_short (Register n) os h = let e : length (register_text n) ≤ 3 = register_short n h in omega arith
operand_short (Number x) os h = let e : length (number_text x) ≤ 8 = number_short x h.0 h.1 in omega arith
operand_short (Address x n) os h =
    let e : length (number_text x) ≤ 8 = number_short x h.0.0 h.0.1 in
    let f : length (register_text n) ≤ 3 = register_short n h.1 in
    let g : length (operand_text (Address x n)) ≡ length (number_text x) + length (0x28 ∷ (register_text n ++ 0x29 ∷ [])) = ap length (address_text x n) ∙ length-append (number_text x) (0x28 ∷ (register_text n ++ 0x29 ∷ [])) in
    let k : length (register_text n ++ 0x29 ∷ []) ≡ length (register_text n) + 1 = length-append (register_text n) (0x29 ∷ []) in
    omega arith
operand_short (Word w) os h = omega arith

further_short : (os : List Operand) → AreGood os → length (further_text os) ≤ room os
further_short [] good = omega arith
further_short (o ∷ os) good = let e : length (operand_text o ++ further_text os) ≡ length (operand_text o) + length (further_text os) = length-append (operand_text o) (further_text os) in
    let f : length (further_text os) ≤ room os = further_short os good.1 in let g : 2 + length (operand_text o) + room os ≤ room (o ∷ os) = operand_short o os good.0 in omega arith

operands_short : (os : List Operand) → AreGood os → length (operands_text os) ≤ room os
operands_short [] good = omega arith
operands_short (o ∷ os) good = let e : length (operand_text o ++ further_text os) ≡ length (operand_text o) + length (further_text os) = length-append (operand_text o) (further_text os) in
    let f : length (further_text os) ≤ room os = further_short os good.1 in let g : 2 + length (operand_text o) + room os ≤ room (o ∷ os) = operand_short o os good.0 in omega arith

-- a line that was written is read again

no_blanks : (b : ℕ) → is_plain b ≡ true → not (is_blank b) ≡ true
no_blanks b h = ap not (plain_no_blank b h)

no_comment : (b : ℕ) → is_shown b ≡ true → not (b == 35) ≡ true
no_comment b h = grind (arith, nat_tests)

uncommented : (s : List ℕ) → list_all is_shown s ≡ true → before_first (λ b. b == 0x23) s ≡ s
uncommented s h = let all : list_all (λ b. not (b == 0x23)) s ≡ true = all_weaker is_shown (λ b. not (b == 0x23)) no_comment s h in
    ap (before_first (λ b. b == 0x23)) (sym (append-nil s)) ∙ run_is (λ b. not (b == 0x23)) s [] all refl

ends_name : (os : List Operand) → prefix_len (λ b. not (is_blank b)) (operands_text os) ≡ 0
ends_name [] = refl
ends_name (o ∷ os) = refl

operands_read : (os : List Operand) → AreGood os → operands (unindented (operands_text os)) ≡ Some os
operands_read [] good = refl
operands_read (o ∷ os) good = ap operands (blank_first (operand_text o ++ further_text os) ∙ plain_unindented (operand_text o) (further_text os) (operand_plain o good.0) (operand_some o good.0))
    ∙ (some_operands (operand_text o) (further_text os) (operand_some o good.0) ∙ operands_again o os good.0 good.1)
  where
    some_operands : (s t : List ℕ) → 0 < length s → operands (s ++ t) ≡ parted (s ++ t)
    some_operands [] t h = absurd (omega arith)
    some_operands (b ∷ s) t h = refl

line_read_at : (name t : List ℕ) → 0 < length name → line_at (name ++ t) ≡ spelled (option_and_then (word_in (before_first is_blank (name ++ t))) (operands (unindented (drop (position_or_len is_blank (name ++ t)) (name ++ t)))))
line_read_at [] t h = absurd (omega arith)
line_read_at (b ∷ s) t h = refl

line_again : (name : List ℕ) (os : List Operand) (w : ℕ) → IsName name → AreGood os → word_in name os ≡ Some w → line_read (text (name, os)) ≡ Spells w
line_again name os w n good h =
    let t : List ℕ = operands_text os in
    let blankless : list_all (λ b. not (is_blank b)) name ≡ true = all_weaker is_plain (λ b. not (is_blank b)) no_blanks name n.plain in
    let front : before_first is_blank (name ++ t) ≡ name = run_is (λ b. not (is_blank b)) name t blankless (ends_name os) in
    let rest : drop (position_or_len is_blank (name ++ t)) (name ++ t) ≡ t = behind_run (λ b. not (is_blank b)) name t blankless (ends_name os) in
    ap (λ s. line_at (unindented s)) (uncommented (name ++ t) (text_shown name os n good))
    ∙ (ap line_at (plain_unindented name t n.plain n.some)
    ∙ (line_read_at name t n.some
    ∙ ((λ i. spelled (option_and_then (word_in (front i)) (operands (unindented (rest i)))))
    ∙ (ap (λ o. spelled (option_and_then (word_in name) o)) (operands_read os good) ∙ ap spelled h))))

-- the line of a word
record Line (w : ℕ) : Type 0 where
  is_shown_all : list_all is_shown (line_of w) ≡ true
  is_short : length (line_of w) ≤ 26
  is_read : line_read (line_of w) ≡ Spells w

line_facts : (w : ℕ) → w < 2 ^ 32 → Line w
line_facts w h =
    let s : Spelt (written_or_raw (decoded w) w) w = word_spelt w h in
    let name : List ℕ = (written_or_raw (decoded w) w).0 in
    let os : List Operand = (written_or_raw (decoded w) w).1 in
    let n : IsName name = name_from name s.name_is in
    let e : length (name ++ operands_text os) ≡ length name + length (operands_text os) = length-append name (operands_text os) in
    let f : length (operands_text os) ≤ room os = operands_short os s.good in
    record {
      is_shown_all = text_shown name os n s.good;
      is_short = omega (arith, n.short, s.short);
      is_read = line_again name os w n s.good s.word_is;
    }

-- the lines of a listing

no_feed : (b : ℕ) → is_shown b ≡ true → (b == 10) ≡ false
no_feed b h = grind (arith, nat_tests)

no_return : (b : ℕ) → is_shown b ≡ true → (b == 13) ≡ false
no_return b h = grind (arith, nat_tests)

all_shown : (s : List ℕ) → list_all is_shown s ≡ true → All (λ b. (b == 10) ≡ false) s
all_shown s h k d inside = no_feed (get_or s k d) (AllPass-from_list_all is_shown s h k d inside)

unreturned : (s : List ℕ) → list_all is_shown s ≡ true → strip_carriage_return s ≡ s
unreturned [] h = refl
unreturned (b ∷ s) h = let last : (get_or (b ∷ s) (length (b ∷ s) - 1) 0 == 13) ≡ false = no_return (get_or (b ∷ s) (length (b ∷ s) - 1) 0) (AllPass-from_list_all is_shown (b ∷ s) h (length (b ∷ s) - 1) 0 (omega arith)) in
    ap (λ t. cond t (take (length (b ∷ s) - 1) (b ∷ s)) (b ∷ s)) last

-- a line of bytes that are no line feed, and what stands behind it
line_split : (s t : List ℕ) → All (λ b. (b == 10) ≡ false) s → lines (s ++ 10 ∷ t) ≡ strip_carriage_return s ∷ lines t
line_split s t all = ap lines_of_parts (slice_split_at (λ b. b == 10) s 10 t all refl) ∙ parts_more s (slice_split (λ b. b == 10) t) (some_part (λ b. b == 10) t)

line_first : (s t : List ℕ) → list_all is_shown s ≡ true → lines (s ++ 10 ∷ t) ≡ s ∷ lines t
line_first s t h = line_split s t (all_shown s h) ∙ ap (λ l. l ∷ lines t) (unreturned s h)

abbrev Words : List ℕ → Type 0
Words ws = All (λ w. w < 2 ^ 32) ws

head : (w : ℕ) (ws : List ℕ) → Words (w ∷ ws) → w < 2 ^ 32
head w ws h = h 0 0 (omega arith)

tail : (w : ℕ) (ws : List ℕ) → Words (w ∷ ws) → Words ws
tail w ws h = All-tail (λ w. w < 2 ^ 32) w ws h

one_line : (w : ℕ) (ws : List ℕ) → listed (w ∷ ws) ≡ line_of w ++ 10 ∷ listed ws
one_line w ws = append_assoc (line_of w) (10 ∷ []) (listed ws)

words_again : (n : ℕ) (ws : List ℕ) → Words ws → words_from n (lines (listed ws)) ≡ Ok ws
words_again n [] h = refl
words_again n (w ∷ ws) h =
    let l : Line w = line_facts w (head w ws h) in
    ap (λ t. words_from n (lines t)) (one_line w ws)
    ∙ (ap (words_from n) (line_first (line_of w) (listed ws) l.is_shown_all)
    ∙ (λ i. with_line n (l.is_read i) (words_again (n + 1) ws (tail w ws h) i)))

listing_short : (ws : List ℕ) → Words ws → length (listed ws) ≤ 27 * length ws
listing_short [] h = omega arith
listing_short (w ∷ ws) h =
    let l : Line w = line_facts w (head w ws h) in
    let e : length (line_of w ++ 10 ∷ listed ws) ≡ length (line_of w) + length (10 ∷ listed ws) = length-append (line_of w) (10 ∷ listed ws) in
    let f : length (listed (w ∷ ws)) ≡ length (line_of w ++ 10 ∷ listed ws) = ap length (one_line w ws) in
    let g : length (listed ws) ≤ 27 * length ws = listing_short ws (tail w ws h) in
    omega (arith, l.is_short)

many : (ws : List ℕ) → 0 < length ws → length ws ≤ 4194304 → counted (Ok ws) ≡ Ok ws
many ws some few = let p : eqb (length ws) 0 ≡ false = grind (arith, nat_tests) in let q : ltb 4194304 (length ws) ≡ false = grind (arith, nat_tests) in rw (p, q) refl

pub listing_again : (ws : List ℕ) → Words ws → 0 < length ws → length ws ≤ 4194304 → assembled (listed ws) ≡ Ok ws
listing_again ws h some few =
    let short : length (listed ws) ≤ 27 * length ws = listing_short ws h in
    let fits : ltb 134217728 (length (listed ws)) ≡ false = grind (arith, nat_tests) in
    rw fits (ap counted (words_again 1 ws h) ∙ many ws some few)

-- a comment before them

all_more : (b : ℕ) (s : List ℕ) → (b == 10) ≡ false → All (λ b. (b == 10) ≡ false) s → All (λ b. (b == 10) ≡ false) (b ∷ s)
all_more b s p h zero d inside = p
all_more b s p h (suc k) d inside = h k d (omega arith)

comment_read : (c : List ℕ) → line_read (strip_carriage_return (0x23 ∷ c)) ≡ Blank
comment_read [] = refl
comment_read (b ∷ c) = go (get_or (0x23 ∷ b ∷ c) (length (0x23 ∷ b ∷ c) - 1) 0 == 13)
  where
    go : (t : Bool) → line_read (cond t (take (length (0x23 ∷ b ∷ c) - 1) (0x23 ∷ b ∷ c)) (0x23 ∷ b ∷ c)) ≡ Blank
    go true = ap (λ n. line_read (take n (0x23 ∷ b ∷ c))) (let e : length (0x23 ∷ b ∷ c) - 1 ≡ suc (length c) = omega arith in e)
    go false = refl

headed_words : (c ws : List ℕ) → All (λ b. (b == 10) ≡ false) c → Words ws → words_from 1 (lines ((0x23 ∷ c) ++ 10 ∷ listed ws)) ≡ Ok ws
headed_words c ws all h =
    ap (words_from 1) (line_split (0x23 ∷ c) (listed ws) (all_more 0x23 c refl all))
    ∙ (λ i. with_line 1 (comment_read c i) (words_again 2 ws h i))

pub headed_again : (c ws : List ℕ) → All (λ b. (b == 10) ≡ false) c → length c ≤ 1000 → Words ws → 0 < length ws → length ws ≤ 4194304 → assembled (0x23 ∷ c ++ 10 ∷ listed ws) ≡ Ok ws
headed_again c ws all brief h some few =
    let short : length (listed ws) ≤ 27 * length ws = listing_short ws h in
    let long : length ((0x23 ∷ c) ++ 10 ∷ listed ws) ≡ length (0x23 ∷ c) + length (10 ∷ listed ws) = length-append (0x23 ∷ c) (10 ∷ listed ws) in
    let fits : ltb 134217728 (length ((0x23 ∷ c) ++ 10 ∷ listed ws)) ≡ false = grind (arith, nat_tests) in
    rw fits (ap counted (headed_words c ws all h) ∙ many ws some few)
