use Rattle.std.proofs.Common.{◌≡◌, ℕ, List, Some, sym, subst}
use Rattle.std.specs.Prelude.{slice_get}
use Rattle.list_cuts.specs.Cuts.{number_at, start_of}
use Rattle.name_pass.specs.Stretches.{AreDeclared}
use Rattle.name_pass.specs.declared.declared.Declared.{Declared}
use Rattle.name_pass.proofs.declared.declarations.Goals as goal

pub counts_before-requires-clause-each : goal.counts_before-requires-clause-each
counts_before-requires-clause-each g c =
    let input = c.args.input.now in
    let ends = c.args.ends.now in
    subst (λ (parts : List Declared). (k : ℕ) (x : Declared) → slice_get parts k ≡ Some x → AreDeclared input.text input.tokens.now input.rows.now (start_of ends k) (number_at ends k) x.keys.items x.tally)
    (sym c.as_slice.ensures.value) c.in_ok-parts.ensures.each
