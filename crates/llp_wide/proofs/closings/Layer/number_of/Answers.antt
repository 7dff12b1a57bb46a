use Rattle.std.proofs.Common.{◌≡◌, ◌≤◌, List, Some, length, slice_get, refl, subst, sym, ap, ◌∙◌}
use Rattle.llp_wide.specs.Triples.{HasNumber}
use Rattle.llp_wide.specs.WideLookbacks.{ClosedStack}
use Rattle.llp_wide.proofs.TripleLists.{number_found, number_new}
use Rattle.llp_wide.proofs.closings.Layer.number_of.Goals as goal

pub returns-in-Some : goal.returns-in-Some
returns-in-Some c = λ g member h.
    let l = c.args.self.now in
    number_found g l.b l.start c.args.closes.now c.args.stacks.now.items c.in-Some.n h
    (subst (λ (cs : List ClosedStack). (l.start ≤ c.in-Some.n) × (x : ClosedStack) × (slice_get cs c.in-Some.n ≡ Some x) × (x.closes ≡ c.args.closes.now)) c.as_slice.ensures.value c.in-Some.ensures.found)

pub returns : goal.returns
returns c = λ g member h.
    let l = c.args.self.now in
    let stacks = c.args.stacks.now.items in
    subst (λ (cs : List ClosedStack). HasNumber g l.b l.start c.args.closes.now stacks cs c.len-n.result) (sym c.in_ok-push.ensures.items)
    (number_new g l.b l.start member.0 c.args.closes.now stacks (record { ahead = l.b; closes = c.in_ok-closes.closes.items }) c.len-n.result member.1 h
    (c.len-n.ensures ∙ (sym c.as_slice.ensures.len ∙ ap length c.as_slice.ensures.value)) refl c.in_ok-closes.ensures.items)
