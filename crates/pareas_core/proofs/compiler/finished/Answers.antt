use Rattle.std.proofs.Common.{◌≡◌, ◌∙◌, sym, ap, subst}
use Rattle.elf_file.specs.Image.{elf}
use Rattle.verdict.specs.Verdict.{image}
use Rattle.rv_code.specs.Code.{layout_of}
use Rattle.simulation.specs.Behaves.{Behaves}
use Rattle.pareas_core.proofs.compiler.finished.Goals as goal

pub returns-clause-image : goal.returns-clause-image
returns-clause-image g c =
    let v = c.in_ok-words.ensures.ok in
    let file : c.in_ok-write.field-0.items ≡ image v.0 = c.in_ok-write.ensures ∙ ap elf (c.deref.ensures.value ∙ v.2) in
    record {
      program = v.0;
      accepted = v.1;
      is_image = file;
      behaves = subst (Behaves (layout_of v.0) v.0) (sym file) (c.source_behaves.ensures c.args.fold c.args.source.now v.0 v.1);
    }
