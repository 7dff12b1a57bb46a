-- How many words loads and stores of frame words have, and what is made of them.
use Rattle.std.proofs.Common.{◌≡◌, ℕ, zero, suc, ◌+◌, Bool, true, false, cond, List, [], ◌∷◌, ◌++◌, length, refl, arith, length-append}
use Rattle.rv_isa.specs.declared.instructions.Instr.{Instr}
use Rattle.rv_isa.specs.declared.instructions.Instr.TheVariants.{Addi, Sw, Jalr}
use Rattle.source_meaning.specs.Frames.{Frame}
use Rattle.rv_code.specs.Code.{is_spilled, slot_register, frame_word, saved_offset, variable_offset, spill_offset, is_far, load_word, store_word, fetch, keep, pass_arg, take_result, is_far_frame, take_frame, give_frame, save_slots, store_params, load_slots, function_start, function_leave}
use Rattle.code_rules.specs.RowPieces.{pass_from, access_size, spill_size, move_size, pass_size, frame_size, saved_size, params_size, leave_size}

either_long : (b : Bool) (xs ys : List Instr) (m n : ℕ) → length xs ≡ m → length ys ≡ n → length (cond b xs ys) ≡ cond b m n
either_long true xs ys m n e f = e
either_long false xs ys m n e f = f

pub load_long : (rd o : ℕ) → length (load_word rd o) ≡ access_size o
load_long rd o = either_long (is_far o) _ _ 3 1 refl refl

pub store_long : (r o : ℕ) → length (store_word r o) ≡ access_size o
store_long r o = either_long (is_far o) _ _ 3 1 refl refl

pub take_frame_long : (fr : Frame) → length (take_frame fr) ≡ frame_size fr
take_frame_long fr = either_long (is_far_frame fr) _ _ 3 1 refl refl

pub give_frame_long : (fr : Frame) → length (give_frame fr) ≡ frame_size fr
give_frame_long fr = either_long (is_far_frame fr) _ _ 3 1 refl refl

module _ (fr : Frame) where
  pub fetch_long : (d t : ℕ) → length (fetch fr d t) ≡ spill_size fr d
  fetch_long d t = either_long (is_spilled d) (load_word t (spill_offset fr d)) [] (access_size (spill_offset fr d)) 0 (load_long t (spill_offset fr d)) refl

  pub keep_long : (d : ℕ) → length (keep fr d) ≡ spill_size fr d
  keep_long d = either_long (is_spilled d) (store_word 5 (spill_offset fr d)) [] (access_size (spill_offset fr d)) 0 (store_long 5 (spill_offset fr d)) refl

  pub take_long : (d : ℕ) → length (take_result fr d) ≡ move_size fr d
  take_long d = either_long (is_spilled d) (store_word 10 (spill_offset fr d)) (Addi (slot_register d) 10 0 ∷ []) (access_size (spill_offset fr d)) 1 (store_long 10 (spill_offset fr d)) refl

  pass_long : (d i : ℕ) → length (pass_arg fr d i) ≡ move_size fr (d + i)
  pass_long d i =
      let o = spill_offset fr (d + i) in
      either_long (is_spilled (d + i)) (load_word (10 + i) o) (Addi (10 + i) (slot_register (d + i)) 0 ∷ []) (access_size o) 1 (load_long (10 + i) o) refl

  pub length_pass : (d i n : ℕ) → length (pass_from fr d i n) ≡ pass_size fr d i n
  length_pass d i zero = refl
  length_pass d i (suc n) = omega (arith, length-append (pass_arg fr d i) (pass_from fr d (i + 1) n), pass_long d i, length_pass d (i + 1) n)

  saves_long : (i n : ℕ) → length (save_slots fr i n) ≡ saved_size fr i n
  saves_long i zero = refl
  saves_long i (suc n) =
      let first = store_word (slot_register i) (saved_offset fr i) in
      omega (arith, length-append first (save_slots fr (i + 1) n), store_long (slot_register i) (saved_offset fr i), saves_long (i + 1) n)

  params_long : (i n : ℕ) → length (store_params fr i n) ≡ params_size fr i n
  params_long i zero = refl
  params_long i (suc n) =
      let first = store_word (10 + i) (variable_offset fr i) in
      omega (arith, length-append first (store_params fr (i + 1) n), store_long (10 + i) (variable_offset fr i), params_long (i + 1) n)

  loads_long : (i n : ℕ) → length (load_slots fr i n) ≡ saved_size fr i n
  loads_long i zero = refl
  loads_long i (suc n) =
      let first = load_word (slot_register i) (saved_offset fr i) in
      omega (arith, length-append first (load_slots fr (i + 1) n), load_long (slot_register i) (saved_offset fr i), loads_long (i + 1) n)

  pub start_long : (n : ℕ) → length (function_start fr n) ≡ frame_size fr + 1 + access_size (frame_word fr 0) + saved_size fr 0 fr.registers + params_size fr 0 n
  start_long n =
      let saves = save_slots fr 0 fr.registers in
      let params = store_params fr 0 n in
      let ra = store_word 1 (frame_word fr 0) in
      omega (arith, length-append (take_frame fr) (Sw 2 0 0 ∷ (ra ++ (saves ++ params))), length-append ra (saves ++ params), length-append saves params, take_frame_long fr, store_long 1 (frame_word fr 0), saves_long 0 fr.registers, params_long 0 n)

  pub leave_long : length (function_leave fr) ≡ leave_size fr
  leave_long =
      let loads = load_slots fr 0 fr.registers in
      let gives = give_frame fr ++ Jalr 0 1 0 ∷ [] in
      let ra = load_word 1 (frame_word fr 0) in
      omega (arith, length-append ra (loads ++ gives), length-append loads gives, length-append (give_frame fr) (Jalr 0 1 0 ∷ []), give_frame_long fr, load_long 1 (frame_word fr 0), loads_long 0 fr.registers)
