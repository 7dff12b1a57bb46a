use Rattle.std.proofs.Common.{◌≡◌, All, true, map, sym, ap, ◌∙◌, subst}
use Rattle.par_passes.specs.Laws.Calling.{if_ok}
use Rattle.word_monoid.specs.Folds.{prefixes}
use Rattle.depth_rules.specs.Segments.{segments}
use Rattle.rv_regs.proofs.Blocked.{blocks_accepted, starts_are}
use Rattle.rv_regs.proofs.stretches.before_blocks.Goals as goal

pub scan_lifted-requires-clause-accepted : goal.scan_lifted-requires-clause-accepted
scan_lifted-requires-clause-accepted g c κs within =
    subst (All (λ x. segments.accepts x ≡ true)) (sym c.as_slice.ensures.value) (blocks_accepted c.args.kinds.now c.args.depths.now c.in_ok-blocks.blocks.items c.in_ok-blocks.ensures.many c.in_ok-blocks.ensures.each)

pub returns : goal.returns
returns g c = if_ok c.scan_lifted.result c.scan_lifted.ensures (λ v is.
    starts_are c.args.kinds.now c.args.depths.now c.in_ok-blocks.blocks.items c.in_ok-blocks.ensures.many c.in_ok-blocks.ensures.each v.items (is ∙ ap (λ xs. prefixes segments (map (λ x. x) xs)) c.as_slice.ensures.value))
