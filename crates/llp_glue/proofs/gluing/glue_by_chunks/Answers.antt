-- The productions of all chunks are those of all pairs.
use Rattle.std.proofs.Common.{◌∙◌}
use Rattle.llp_glue.proofs.gluing.glue_by_chunks.Goals as goal

pub returns-clause-ok : goal.returns-clause-ok
returns-clause-ok g c = record {
  met = c.in_ok-join_word.ensures.ok;
  productions = c.in_ok-all_productions.ensures ∙ c.chunks_make_the_whole.ensures _ c.args.size c.args.tokens.now c.requires.size.0;
}
