-- Jumps over words and back over them.
use Rattle.std.proofs.Common.{◌≡◌, ℕ, ◌+◌, ◌-◌, ◌*◌, ◌≤◌, inl, inr, [], ◌∷◌, sym, ap, ◌∙◌, arith}
use Rattle.std.specs.Prelude.{if◌then◌else◌}
use Rattle.std.proofs.lemmas.Bool.{le-ltb, lt-ltb, cases_lt}
use Rattle.rv_isa.specs.declared.instructions.Instr.TheVariants.{Jal, Auipc, Jalr}
use Rattle.rv_code.specs.Code.{negative, offset, Layout, Short, Long, jump_width, scratch_of, far_upper, far_lower, jump}
use Rattle.code_rules.specs.RowPieces.{over_words, back_words}

-- a jump depends on the distance alone
over_offset : (at n : ℕ) → offset at (at + n) ≡ offset 0 n
over_offset at n =
    ap (λ b. if b then negative (4 * (at - (at + n))) else 4 * (at + n - at)) (le-ltb (at + n) at (omega arith))
    ∙ ap (λ m. 4 * m) (let e : at + n - at ≡ n - 0 = omega arith in e)
    ∙ sym (ap (λ b. if b then negative (4 * (0 - n)) else 4 * (n - 0)) (le-ltb n 0 (omega arith)))

back_offset : (at n : ℕ) → n ≤ at → offset at (at - n) ≡ offset n 0
back_offset at n le = elim (cases_lt 0 n) [
  | inl pos ↦
      ap (λ b. if b then negative (4 * (at - (at - n))) else 4 * (at - n - at)) (lt-ltb (at - n) at (omega arith))
      ∙ ap (λ m. negative (4 * m)) (let e : at - (at - n) ≡ n - 0 = omega arith in e)
      ∙ sym (ap (λ b. if b then negative (4 * (n - 0)) else 4 * (0 - n)) (lt-ltb 0 n pos))
  | inr none ↦
      ap (λ b. if b then negative (4 * (at - (at - n))) else 4 * (at - n - at)) (le-ltb (at - n) at (omega arith))
      ∙ ap (λ m. 4 * m) (let e : at - n - at ≡ 0 - n = omega arith in e)
      ∙ sym (ap (λ b. if b then negative (4 * (n - 0)) else 4 * (0 - n)) (le-ltb 0 n none))
]

jump_same : (layout : Layout) (rd from to from' to' : ℕ) → offset from to ≡ offset from' to' → jump layout rd from to ≡ jump layout rd from' to'
jump_same Short rd from to from' to' e = λ i. Jal rd (e i) ∷ []
jump_same Long rd from to from' to' e = λ i. Auipc (scratch_of rd) (far_upper (e i)) ∷ Jalr rd (scratch_of rd) (far_lower (e i)) ∷ []

pub over_is : (layout : Layout) (at n : ℕ) → jump layout 0 at (at + jump_width layout + n) ≡ over_words layout n
over_is layout at n =
    let z : at + jump_width layout + n ≡ at + (jump_width layout + n) = omega arith in
    ap (jump layout 0 at) z ∙ jump_same layout 0 at (at + (jump_width layout + n)) 0 (jump_width layout + n) (over_offset at (jump_width layout + n))

pub back_is : (layout : Layout) (at n : ℕ) → n ≤ at → jump layout 0 at (at - n) ≡ back_words layout n
back_is layout at n le = jump_same layout 0 at (at - n) n 0 (back_offset at n le)
