use Rattle.std.proofs.Common.{◌≡◌, ◌++◌, ◌∷◌, [], true, sym, ap, ◌∙◌}
use Rattle.ll1_sets.specs.Marking.{all_vanish}
use Rattle.llp_wide.specs.Claims.{Claim}
use Rattle.llp_wide.specs.Places.{Spot}
use Rattle.llp_wide.proofs.ClaimLists.{not_owner, pass_added}
use Rattle.llp_wide.proofs.claims.add_pass.Goals as goal

pub returns-then-not-is_owner : goal.returns-then-not-is_owner
returns-then-not-is_owner c =
    not_owner c.args.nullable.now c.args.owner.now c.args.place.now c.args.waiting.now.items
    (λ s b. c.is_owner.ensures.other c.if-not-is_owner.true (ap (λ (x : Claim). x.symbol) c.owner.view_is ∙ s) (ap (λ (x : Claim). x.before) c.owner.view_is ∙ b))

pub returns : goal.returns
returns c =
    let owner : Claim = c.args.owner.now in
    let spot : Spot = c.args.place.now in
    let after_is : c.place.inside.after.items ≡ spot.after = ap (λ (s : Spot). s.after) c.place.view_is in
    let own = c.is_owner.ensures.yes c.if-not-is_owner.false in
    let vanish : all_vanish c.args.nullable.now spot.after ≡ true = ap (all_vanish c.args.nullable.now) (sym (c.as_slice.ensures.value ∙ after_is)) ∙ (sym c.all_vanish.ensures ∙ c.if-not-all_vanish.false) in
    let stack_is : c.in_ok-stack.stack.items ≡ spot.after ++ owner.stack =
    c.in_ok-stack.ensures ∙ (λ i. (c.as_slice-2.ensures.value ∙ after_is) i ++ (c.as_slice-3.ensures.value ∙ ap (λ (x : Claim). x.stack) c.owner.view_is) i) in
    pass_added c.args.nullable.now owner spot c.in_ok-stack.stack.items c.args.waiting.now.items c.push.new.self.items (sym (ap (λ (x : Claim). x.symbol) c.owner.view_is) ∙ own.0) (sym (ap (λ (x : Claim). x.before) c.owner.view_is) ∙ own.1) vanish stack_is
    (c.in_ok-push.ensures.items ∙ ap (λ (s : Spot). c.args.waiting.now.items ++ (record { before = s.before; symbol = s.symbol; stack = c.in_ok-stack.stack.items }) ∷ []) c.place.view_is)
