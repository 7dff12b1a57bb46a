use Rattle.std.proofs.Common.{◌<◌, ◌∙◌, false, length, sym, subst}
use Rattle.rv_code.specs.Code.{words}
use Rattle.pareas_core.proofs.Answering.{image_is_short}
use Rattle.pareas_core.proofs.batch.answer_to.Goals as goal

pub new-requires : goal.new-requires
new-requires g c =
    let k = c.in-Ok.ensures.image in
    record {
      short = subst (λ l. length l < 4294967296) (sym (c.deref.ensures.value ∙ k.is_image))
          (image_is_short (words k.program) (c.accepted_code_fits.ensures false c.args.source.now k.program k.accepted).1);
    }
