use Rattle.std.proofs.Common.{◌+◌, ℕ, List, [], length, subst}
use Rattle.llp_tables.specs.Lookbacks.{cells_at}
use Rattle.llp_tables.specs.declared.cells.Members.{Members}
use Rattle.llp_wide.specs.Claims.{Claim, AreClaimsCovered}
use Rattle.llp_wide.specs.Classes.{AreClasses}
use Rattle.llp_wide.proofs.WideSettling.{wide_settling_start, wide_settled, all_claims_covered, left_in_queue}
use Rattle.llp_wide.proofs.search.least_wide_members.Goals as goal

pub loop-claim-init : goal.loop-claim-init
loop-claim-init c =
    let g = c.args.ground.now in
    let r = c.requires in
    let claims : List Claim = c.in_ok-waiting.waiting.items in
    record {
      classes = subst (λ (t : ℕ). AreClasses t (length g.grammar.now.nonterminals) c.in_ok-classes.classes.items) (λ i. length (c.terminals.ensures.names i) + 3) (c.in_ok-classes.ensures.classes (length g.grammar.now.nonterminals));
      filling = (
        [],
        claims,
        wide_settling_start g.grammar.now g.nullable.now g.first.now g.b g.groups.now r.well_formed r.nullable r.first r.places (cells_at c.in_ok-classes.classes.items) claims c.in_ok-classes.ensures.empty c.in_ok-waiting.ensures,
        left_in_queue (cells_at c.in_ok-classes.classes.items) claims c.of-queue.result c.of-queue.ensures,
      );
    }

pub returns : goal.returns
returns c =
    let g = c.args.ground.now in
    let r = c.requires in
    let cell = cells_at c.loop-claim.classes.items in
    let s = c.loop-claim.invariant.filling in
    let none : AreClaimsCovered c.loop-claim.queue cell = subst (λ (ms : List Members). AreClaimsCovered c.loop-claim.queue (cells_at ms)) c.as_slice.ensures.value c.in_default.ensures in
    wide_settled g.grammar.now g.nullable.now g.first.now g.b g.groups.now r.well_formed r.nullable r.first r.places s.0 cell s.1 s.2 (all_claims_covered cell s.1 c.loop-claim.queue s.3 none)
