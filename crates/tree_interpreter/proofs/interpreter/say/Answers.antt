use Rattle.std.proofs.Common.{[], ◌∷◌, ◌++◌, ap, ◌∙◌, to_z, of_z}
use Rattle.std.specs.Int.{w32}
use Rattle.tree_interpreter.proofs.Printing.{one_said}
use Rattle.tree_interpreter.proofs.interpreter.say.Goals as goal

pub returns : goal.returns
returns c =
    one_said c.args.output.now.items c.args.word c.push.new.self.items c.ranges.word.fits
    (c.in_ok-push.ensures.items ∙ ap (λ z. c.args.output.now.items ++ to_z w32 (of_z w32 z) ∷ []) c.cast_signed.ensures)
