use Rattle.std.proofs.Common.{◌≡◌, ℕ, ◌+◌, ◌-◌, ◌^◌, ◌<◌, ◌≤◌, ◌∙◌, List, [], ◌∷◌, ◌++◌, length, ℤ, ap, sym, subst, arith, length-append}
use Rattle.near_smaller.specs.Levels.{HalvedTo, AreRising, lists_of, level_at}
use Rattle.near_smaller.proofs.Rising.{fewer, same_lowest, rising_more, lists_more}
use Rattle.near_smaller.proofs.levels.all_levels.Goals as goal

pub loop-level-preserved : goal.loop-level-preserved
loop-level-preserved g c =
    let levels = lists_of c.loop-level.levels.items in
    let level = c.loop-level.level in
    let upper = c.in_ok-upper.upper.items in
    let now = c.loop-level.invariant in
    let is : lists_of c.push.new.self.items ≡ levels ++ level.items ∷ [] = lists_more c.loop-level.levels.items c.push.new.self.items level c.in_ok-push.ensures.items in
    let halved : HalvedTo level.items upper = subst (λ (l : List ℤ). HalvedTo l upper) c.deref.ensures.value c.in_ok-upper.ensures in
    let some : 1 < length level.items = (let ok = level.ok in let n = c.len.ensures in let t = c.loop-level-test.true in omega arith) in
    let less = fewer (length levels) (length level.items) now.few some now.size in
    let more : length levels + 1 ≡ length (lists_of c.push.new.self.items) = sym (ap length is ∙ length-append levels (level.items ∷ [])) in
    record {
      rising = subst (λ (ls : List (List ℤ)). AreRising (ls ++ upper ∷ [])) (sym is) (rising_more levels level.items upper now.rising halved less.0);
      lowest = ap (λ (ls : List (List ℤ)). level_at (ls ++ upper ∷ []) 0) is ∙ (same_lowest levels level.items upper ∙ now.lowest);
      few = (let f = less.0 in omega arith);
      size = subst (λ (k : ℕ). length upper ≤ 2 ^ (60 - k)) more (let s = halved.size in let f = less.1 in omega arith);
    }
