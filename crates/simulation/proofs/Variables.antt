-- The theorem at worked programs with near and with far frames.
use Rattle.std.proofs.Common.{◌≡◌, ℕ, zero, suc, ◌+◌, ◌-◌, ◌*◌, ◌<◌, ◌≤◌, max, [], ◌∷◌, ◌++◌, length, Some, Bool, true, false, refl, ap, ◌∙◌, arith, length-append}
use Rattle.std.specs.Prelude.{if◌then◌else◌, map, codes}
use Rattle.std.proofs.lemmas.Bool.{le-ltb}
use Rattle.rv_isa.specs.declared.instructions.Instr.TheVariants.{Lui, Lw, Sw, Addi, Jalr, Add, Sub}
use Rattle.rv_isa.specs.Encoding.{word}
use Rattle.elf_file.specs.Image.{elf}
use Rattle.rv32_emul.specs.Machine.{Exits}
use Rattle.source_meaning.specs.Ast.{num, var, Program}
use Rattle.source_meaning.specs.Scope.{Scope, behind, inner, body_scope, variables_in_all}
use Rattle.source_meaning.specs.Frames.{Frame, frame, frame_bytes, frame_for, stmts_slots}
use Rattle.source_meaning.specs.Meaning.{Table, World, Ended, Stopped, Deep, gives, run, run_all, ended, ends_as, call_in, meaning, new_table}
use Rattle.rv_code.specs.Code.{negative, upper, slot_register, frame_word, saved_offset, variable_offset, Layout, Short, Long, near_frame, most_words, wide, instrs, lower, is_far, load_word, store_word, expr_code, var_end, return_end, stmt_code, stmts_code, is_far_frame, take_frame, give_frame, save_slots, store_params, load_slots, function_start, function_leave, function_end, function_code, stub, place_of, linked, label_of, instructions_in}
use Rattle.rv_code.specs.Laws.Widths.{wide_append, wide_instrs, linked_long}
use Rattle.simulation.specs.Sound.{AreSoundStmts, IsCompiled}
use Rattle.simulation.specs.Behaves.{ComesTo}
use Rattle.simulation.specs.Worked.{declares, main_with, with_variables}
use Rattle.simulation.proofs.Behaving.{image_behaves}

-- ---- what it means

runs : (w : World) (n : ℕ) (sc : Scope) (t : Table) → (u : Table) × (run_all w sc t (declares n) ≡ gives (Some 7) u)
runs w zero sc t = (t, refl)
runs w (suc n) sc t = runs w n (behind sc (var 7 (codes "x") Rattle.source_meaning.specs.declared.kinds.ValueType.TheVariants.Int (num 8 0))) (Rattle.std.specs.Prelude.slice_set t sc.next 0)

sound : (p : Program) (n : ℕ) → AreSoundStmts p (declares n)
sound p zero = (omega arith, tt)
sound p (suc n) = (omega arith, sound p n)

locals : (n : ℕ) → variables_in_all (declares n) ≡ n
locals zero = refl
locals (suc n) = omega (arith, locals n)

slots : (n : ℕ) → stmts_slots (declares n) ≡ 1
slots zero = refl
slots (suc n) = ap (max 1) (slots n)

bytes : (n : ℕ) → (frame (main_with n)).bytes ≡ frame_bytes (2 + n)
bytes n = (λ i. (frame_for (slots n i) (0 + locals n i)).bytes) ∙ ap frame_bytes (let e : 1 + 1 + (0 + n) + 0 ≡ 2 + n = omega arith in e)

means : (n : ℕ) → n ≤ 16378 → meaning (with_variables n) 1048576 1 ≡ record { outcome = Ended 7; printed = [] }
means n le =
    let f = main_with n in
    let w : World = record { program = with_variables n; turns = 1; calls = call_in (with_variables n) 1 0 (1048576 - (frame f).bytes) } in
    ap (λ b. elim b [ true ↦ ends_as (Stopped Deep) | false ↦ ended (run w (body_scope f) (new_table f []) f.body) ]) (le-ltb 1048576 (frame f).bytes (omega (arith, bytes n)))
    ∙ ap ended (runs w n (inner (body_scope f)) (new_table f [])).1

-- ---- how many words it has

load_few : (rd o : ℕ) → length (load_word rd o) ≤ 3
load_few rd o = go (is_far o)
  where
    go : (b : Bool) → length (if b then Lui 6 (upper o) ∷ Add 6 6 2 ∷ Lw rd 6 (lower o) ∷ [] else Lw rd 2 o ∷ []) ≤ 3
    go true = omega arith
    go false = omega arith

store_few : (r o : ℕ) → length (store_word r o) ≤ 3
store_few r o = go (is_far o)
  where
    go : (b : Bool) → length (if b then Lui 6 (upper o) ∷ Add 6 6 2 ∷ Sw 6 r (lower o) ∷ [] else Sw 2 r o ∷ []) ≤ 3
    go true = omega arith
    go false = omega arith

take_few : (fr : Frame) → length (take_frame fr) ≤ 3
take_few fr = go (is_far_frame fr)
  where
    go : (b : Bool) → length (if b then Lui 5 (upper fr.bytes) ∷ Addi 5 5 (lower fr.bytes) ∷ Sub 2 2 5 ∷ [] else Addi 2 2 (negative fr.bytes) ∷ []) ≤ 3
    go true = omega arith
    go false = omega arith

give_few : (fr : Frame) → length (give_frame fr) ≤ 3
give_few fr = go (is_far_frame fr)
  where
    go : (b : Bool) → length (if b then Lui 5 (upper fr.bytes) ∷ Addi 5 5 (lower fr.bytes) ∷ Add 2 2 5 ∷ [] else Addi 2 2 fr.bytes ∷ []) ≤ 3
    go true = omega arith
    go false = omega arith

return_few : (L : Layout) → wide L return_end ≤ 3
return_few Short = omega arith
return_few Long = omega arith

body_few : (L : Layout) (fr : Frame) (n : ℕ) (sc : Scope) → wide L (stmts_code L fr sc (declares n)) ≤ 4 + 4 * n
body_few L fr zero sc =
    let value = expr_code L fr sc 0 (num 9 7) in
    omega (arith, wide_append L (value ++ return_end) [], wide_append L value return_end, return_few L)
body_few L fr (suc n) sc =
    let value = expr_code L fr sc 0 (num 8 0) in
    let s = var 7 (codes "x") Rattle.source_meaning.specs.declared.kinds.ValueType.TheVariants.Int (num 8 0) in
    let store = store_word 9 (variable_offset fr sc.next) in
    omega (arith, wide_append L (value ++ var_end fr sc.next) (stmts_code L fr (behind sc s) (declares n)), wide_append L value (var_end fr sc.next), wide_instrs L store, store_few 9 (variable_offset fr sc.next), body_few L fr n (behind sc s))

saves_few : (fr : Frame) (i n : ℕ) → length (save_slots fr i n) ≤ 3 * n
saves_few fr i zero = omega arith
saves_few fr i (suc n) = omega (arith, length-append (store_word (slot_register i) (saved_offset fr i)) (save_slots fr (i + 1) n), store_few (slot_register i) (saved_offset fr i), saves_few fr (i + 1) n)

loads_few : (fr : Frame) (i n : ℕ) → length (load_slots fr i n) ≤ 3 * n
loads_few fr i zero = omega arith
loads_few fr i (suc n) = omega (arith, length-append (load_word (slot_register i) (saved_offset fr i)) (load_slots fr (i + 1) n), load_few (slot_register i) (saved_offset fr i), loads_few fr (i + 1) n)

start_few : (fr : Frame) → fr.registers ≤ 1 → length (function_start fr 0) ≤ 10
start_few fr few =
    let first = store_word 1 (frame_word fr 0) in
    let saves = save_slots fr 0 fr.registers in
    let stores = store_params fr 0 0 in
    omega (arith, length-append (take_frame fr) (Sw 2 0 0 ∷ (first ++ (saves ++ stores))), length-append first (saves ++ stores), length-append saves stores, take_few fr, store_few 1 (frame_word fr 0), saves_few fr 0 fr.registers)

leave_few : (fr : Frame) → fr.registers ≤ 1 → length (function_leave fr) ≤ 10
leave_few fr few =
    let loads = load_slots fr 0 fr.registers in
    let last = give_frame fr ++ Jalr 0 1 0 ∷ [] in
    omega (arith, length-append (load_word 1 (frame_word fr 0)) (loads ++ last), length-append loads last, length-append (give_frame fr) (Jalr 0 1 0 ∷ []), load_few 1 (frame_word fr 0), loads_few fr 0 fr.registers, give_few fr)

stub_few : (L : Layout) → wide L stub ≤ 4
stub_few Short = omega arith
stub_few Long = omega arith

registers_few : (n : ℕ) → (frame (main_with n)).registers ≤ 1
registers_few n = omega (arith, slots n)

words_few : (L : Layout) (n : ℕ) → length (instructions_in L (with_variables n)) ≤ 29 + 4 * n
words_few L n =
    let f = main_with n in
    let fr = frame f in
    let places = place_of L (with_variables n) in
    let start = instrs (function_start fr 0) in
    let body = stmt_code L fr (body_scope f) f.body in
    let mine = linked L places (label_of L (wide L stub) f) (wide L stub) (function_code L f) in
    omega (
      arith,
      length-append (linked L places 0 0 stub) (mine ++ []),
      length-append mine [],
      linked_long L places 0 0 stub,
      linked_long L places (label_of L (wide L stub) f) (wide L stub) (function_code L f),
      stub_few L,
      wide_append L start (body ++ function_end fr),
      wide_append L body (function_end fr),
      wide_instrs L (function_start fr 0),
      wide_instrs L (function_leave fr),
      start_few fr (registers_few n),
      leave_few fr (registers_few n),
      body_few L fr n (inner (body_scope f)),
    )

room : (L : Layout) (n : ℕ) → n ≤ 16378 → 29 + 4 * n ≤ most_words L
room Short n le = omega arith
room Long n le = omega arith

compiled : (L : Layout) (n : ℕ) → n ≤ 16378 → IsCompiled L (with_variables n)
compiled L n le = record {
  functions = (record { sound = sound (with_variables n) n; few = omega arith; short = omega (arith, bytes n) }, tt);
  short = omega (arith, words_few L n, room L n le);
  main = main_with n;
  is_main = refl;
  no_params = refl;
}

pub variables_exit : (L : Layout) (n : ℕ) → n ≤ 16378 → (m : ℕ) × ComesTo (elf (map word (instructions_in L (with_variables n)))) m (Exits 7) []
variables_exit L n le = (image_behaves L (with_variables n) (compiled L n le)).ends 1 7 [] (means n le)

pub variables_far : (n : ℕ) → 507 ≤ n → near_frame < (frame (main_with n)).bytes
variables_far n le = omega (arith, bytes n)
