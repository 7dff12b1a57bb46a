-- The number of an option is read from its text.
use Rattle.std.proofs.Common.{◌≡◌, ◌∙◌, ℕ, ◌≤◌, refl, sym, ap, arith, List, Option, Some, None, Result, Ok, Err, unwrap_or, OkIff, codes, length, slice_index}
use Rattle.std.specs.Prelude.{option_map}
use Rattle.std.specs.Option.{IsSome}
use Rattle.std.specs.Result.{IsOk}
use Rattle.std.specs.Str.Parse.{ParsesUnsigned, digits_value, without_leading_plus}
use Rattle.clap.specs.Values.{IsUnsignedIn}
use Rattle.clap.specs.Walk.{Text, Row}
use Rattle.command_line.specs.Ranges.{HasNumber, HasPlan, HasText, HasNumbers, of_build, of_run, of_show, of_batch, of_emu, of_dump, of_asm, of_table, of_drill, of_explain}

pub shown : {X Y : Type 0} (f : X → Y) (o : Option X) (y : Y) → option_map f o ≡ Some y → (x : X) × (o ≡ Some x) × (f x ≡ y)
shown f None y h = cc
shown f (Some x) y h = (x, refl, ap (λ o. unwrap_or o (f x)) h)

pub is_some_of : {X : Type 0} (o : Option X) (x : X) → o ≡ Some x → IsSome o
is_some_of o x e = rw e refl

pub read_whole : {T E : Type 0} (r : Result T E) (P : Type 0) (v : T) → OkIff r P v → P → r ≡ Ok v
read_whole (Ok x) P v h p = ap Ok h.1
read_whole (Err e) P v h p = absurd (h p)

pub number_read : {E : Type 0} (text : List ℕ) (r : Result ℕ E) → ParsesUnsigned 32 10 text r → IsUnsignedIn 0 4294967295 text
    → r ≡ Ok (digits_value 10 (without_leading_plus text))
number_read text r h range =
    let small : digits_value 10 (without_leading_plus text) ≤ 4294967295 = range.3 in
    read_whole r _ _ h (range.0, omega arith)

pub is_ok_of : {T E : Type 0} (r : Result T E) (x : T) → r ≡ Ok x → IsOk r
is_ok_of r x e = rw e refl

ok_value : {T E : Type 0} → T → Result T E → T
ok_value d (Ok x) = x
ok_value d (Err e) = d

pub ok_same : {T E : Type 0} (r : Result T E) (x y : T) → r ≡ Ok x → r ≡ Ok y → x ≡ y
unfolding ok_value
ok_same r x y e f = ap (ok_value x) (sym e ∙ f)

five_is_not_three : ◌≡◌ {A = ℕ} 5 3 → ⊥
five_is_not_three e = absurd (omega arith)

e_is_not_r : ◌≡◌ {A = ℕ} 101 114 → ⊥
e_is_not_r e = absurd (omega arith)

four_is_not_three : ◌≡◌ {A = ℕ} 4 3 → ⊥
four_is_not_three e = absurd (omega arith)

a_is_not_r : ◌≡◌ {A = ℕ} 97 114 → ⊥
a_is_not_r e = absurd (omega arith)

seven_is_not_three : ◌≡◌ {A = ℕ} 7 3 → ⊥
seven_is_not_three e = absurd (omega arith)

pub run_plan : (rows : List Row) (name : Text) → HasNumbers rows name → name ≡ codes "run" → HasPlan rows
run_plan rows name (of_build plan) e = absurd (five_is_not_three (ap length e))
run_plan rows name (of_run plan steps) e = plan
run_plan rows name (of_show plan) e = absurd (four_is_not_three (ap length e))
run_plan rows name (of_batch plan) e = absurd (five_is_not_three (ap length e))
run_plan rows name (of_emu steps) e = absurd (e_is_not_r (ap (λ (t : Text). slice_index t 0) e))
run_plan rows name of_dump e = absurd (four_is_not_three (ap length e))
run_plan rows name of_asm e = absurd (a_is_not_r (ap (λ (t : Text). slice_index t 0) e))
run_plan rows name of_table e = absurd (five_is_not_three (ap length e))
run_plan rows name (of_drill text plan) e = absurd (five_is_not_three (ap length e))
run_plan rows name (of_explain code) e = absurd (seven_is_not_three (ap length e))

three_is_not_five : ◌≡◌ {A = ℕ} 3 5 → ⊥
three_is_not_five e = absurd (omega arith)

four_is_not_five : ◌≡◌ {A = ℕ} 4 5 → ⊥
four_is_not_five e = absurd (omega arith)

u_is_not_a : ◌≡◌ {A = ℕ} 117 97 → ⊥
u_is_not_a e = absurd (omega arith)

d_is_not_b : ◌≡◌ {A = ℕ} 100 98 → ⊥
d_is_not_b e = absurd (omega arith)

t_is_not_b : ◌≡◌ {A = ℕ} 116 98 → ⊥
t_is_not_b e = absurd (omega arith)

seven_is_not_five : ◌≡◌ {A = ℕ} 7 5 → ⊥
seven_is_not_five e = absurd (omega arith)

pub batch_plan : (rows : List Row) (name : Text) → HasNumbers rows name → name ≡ codes "batch" → HasPlan rows
batch_plan rows name (of_build plan) e = absurd (u_is_not_a (ap (λ (t : Text). slice_index t 1) e))
batch_plan rows name (of_run plan steps) e = absurd (three_is_not_five (ap length e))
batch_plan rows name (of_show plan) e = absurd (four_is_not_five (ap length e))
batch_plan rows name (of_batch plan) e = plan
batch_plan rows name (of_emu steps) e = absurd (three_is_not_five (ap length e))
batch_plan rows name of_dump e = absurd (four_is_not_five (ap length e))
batch_plan rows name of_asm e = absurd (three_is_not_five (ap length e))
batch_plan rows name of_table e = absurd (t_is_not_b (ap (λ (t : Text). slice_index t 0) e))
batch_plan rows name (of_drill text plan) e = absurd (d_is_not_b (ap (λ (t : Text). slice_index t 0) e))
batch_plan rows name (of_explain code) e = absurd (seven_is_not_five (ap length e))

b_is_not_d : ◌≡◌ {A = ℕ} 98 100 → ⊥
b_is_not_d e = absurd (omega arith)

t_is_not_d : ◌≡◌ {A = ℕ} 116 100 → ⊥
t_is_not_d e = absurd (omega arith)

pub drill_numbers : (rows : List Row) (name : Text) → HasNumbers rows name → name ≡ codes "drill" → HasText rows × HasPlan rows
drill_numbers rows name (of_build plan) e = absurd (b_is_not_d (ap (λ (t : Text). slice_index t 0) e))
drill_numbers rows name (of_run plan steps) e = absurd (three_is_not_five (ap length e))
drill_numbers rows name (of_show plan) e = absurd (four_is_not_five (ap length e))
drill_numbers rows name (of_batch plan) e = absurd (b_is_not_d (ap (λ (t : Text). slice_index t 0) e))
drill_numbers rows name (of_emu steps) e = absurd (three_is_not_five (ap length e))
drill_numbers rows name of_dump e = absurd (four_is_not_five (ap length e))
drill_numbers rows name of_asm e = absurd (three_is_not_five (ap length e))
drill_numbers rows name of_table e = absurd (t_is_not_d (ap (λ (t : Text). slice_index t 0) e))
drill_numbers rows name (of_drill text plan) e = (text, plan)
drill_numbers rows name (of_explain code) e = absurd (seven_is_not_five (ap length e))

three_is_not_four : ◌≡◌ {A = ℕ} 3 4 → ⊥
three_is_not_four e = absurd (omega arith)

five_is_not_four : ◌≡◌ {A = ℕ} 5 4 → ⊥
five_is_not_four e = absurd (omega arith)

seven_is_not_four : ◌≡◌ {A = ℕ} 7 4 → ⊥
seven_is_not_four e = absurd (omega arith)

d_is_not_s : ◌≡◌ {A = ℕ} 100 115 → ⊥
d_is_not_s e = absurd (omega arith)

pub show_plan : (rows : List Row) (name : Text) → HasNumbers rows name → name ≡ codes "show" → HasPlan rows
show_plan rows name (of_build plan) e = absurd (five_is_not_four (ap length e))
show_plan rows name (of_run plan steps) e = absurd (three_is_not_four (ap length e))
show_plan rows name (of_show plan) e = plan
show_plan rows name (of_batch plan) e = absurd (five_is_not_four (ap length e))
show_plan rows name (of_emu steps) e = absurd (three_is_not_four (ap length e))
show_plan rows name of_dump e = absurd (d_is_not_s (ap (λ (t : Text). slice_index t 0) e))
show_plan rows name of_asm e = absurd (three_is_not_four (ap length e))
show_plan rows name of_table e = absurd (five_is_not_four (ap length e))
show_plan rows name (of_drill text plan) e = absurd (five_is_not_four (ap length e))
show_plan rows name (of_explain code) e = absurd (seven_is_not_four (ap length e))

three_is_not_seven : ◌≡◌ {A = ℕ} 3 7 → ⊥
three_is_not_seven e = absurd (omega arith)

four_is_not_seven : ◌≡◌ {A = ℕ} 4 7 → ⊥
four_is_not_seven e = absurd (omega arith)

five_is_not_seven : ◌≡◌ {A = ℕ} 5 7 → ⊥
five_is_not_seven e = absurd (omega arith)

pub explain_code : (rows : List Row) (name : Text) → HasNumbers rows name → name ≡ codes "explain" → HasNumber (codes "code") 0 4294967295 rows
explain_code rows name (of_build plan) e = absurd (five_is_not_seven (ap length e))
explain_code rows name (of_run plan steps) e = absurd (three_is_not_seven (ap length e))
explain_code rows name (of_show plan) e = absurd (four_is_not_seven (ap length e))
explain_code rows name (of_batch plan) e = absurd (five_is_not_seven (ap length e))
explain_code rows name (of_emu steps) e = absurd (three_is_not_seven (ap length e))
explain_code rows name of_dump e = absurd (four_is_not_seven (ap length e))
explain_code rows name of_asm e = absurd (three_is_not_seven (ap length e))
explain_code rows name of_table e = absurd (five_is_not_seven (ap length e))
explain_code rows name (of_drill text plan) e = absurd (five_is_not_seven (ap length e))
explain_code rows name (of_explain code) e =
    let within = code.in_range.3 in
    record { text = code.text; is_first = code.is_first; in_range = (code.in_range.0, code.in_range.1, omega arith, omega arith) }
