use Rattle.std.proofs.Common.{◌≡◌, ◌∙◌, ◌++◌, ◌<◌, List, ℕ, [], ◌∷◌, Vec, Global, Some, slice_get, length, map, ap, sym, subst, arith}
use Rattle.std.specs.Prelude.{slice_index_or}
use Rattle.std.proofs.lemmas.List.{length-map, map-append}
use Rattle.state_monoid.specs.declared.explore.Origin.{Origin}
use Rattle.state_monoid.specs.Explored.{AreRows, IsRow}
use Rattle.state_monoid.specs.Words.{image_none}
use Rattle.state_monoid.specs.Places.{length_pushed, no_item}
use Rattle.state_monoid.proofs.Searching.{explored_first, rows_more, stays_below}
use Rattle.state_monoid.proofs.explore.explore.Goals as goal

pub loop-alloc-init : goal.loop-alloc-init
loop-alloc-init c =
    let start : Origin = record { before = 0; letter = 0 } in
    record {
      explored = explored_first c.args.letters.now.dfa c.args.letters.now.functions.keys c.new-functions.result.keys c.new-origins.result.items c.identity-identity.result start
          c.number.new.functions.keys c.number.new.origins.items c.in_ok-number.field-0 c.new-functions.ensures.empty c.new-origins.ensures.items
          (c.identity-identity.ensures.value ∙ sym (image_none c.args.letters.now.dfa)) c.in_ok-number.ensures.ok;
      rows = λ n row at. absurd (no_item n row (subst (λ (l : List (Vec ℕ Global)). slice_get (map (λ v. v.items) l) n ≡ Some row) c.new-rows.ensures.items at));
      few = let none : length c.new-rows.result.items ≡ 0 = ap (λ (l : List (Vec ℕ Global)). length l) c.new-rows.ensures.items in omega arith;
    }

pub loop-alloc-preserved : goal.loop-alloc-preserved
loop-alloc-preserved c =
    let letters : List (List ℕ) = c.args.letters.now.functions.keys in
    let fs : List (List ℕ) = c.loop-alloc.functions.keys in
    let new : List (List ℕ) = c.row.new.functions.keys in
    let rows : List (List ℕ) = map (λ row. row.items) c.loop-alloc.rows.items in
    let so = c.loop-alloc.invariant in
    let next = c.in_ok-next.ensures in
    let pushed : c.push.new.self.items ≡ c.loop-alloc.rows.items ++ c.in_ok-next.next ∷ [] = c.in_ok-push.ensures.items in
    let len : length rows ≡ length c.loop-alloc.rows.items = length-map c.loop-alloc.rows.items _ in
    let before : c.len-in-loop-alloc-2.result ≡ length rows = omega (arith, c.loop-alloc.rows.ok, len, c.len-in-loop-alloc-2.ensures) in
    let inside : length rows < length fs = omega (arith, c.loop-alloc.rows.ok, len, c.len.ensures, c.len-in-loop-alloc.ensures.len) in
    let last : IsRow letters new (slice_index_or fs (length rows) []) c.in_ok-next.next.items (length letters) =
    subst (λ (n : ℕ). IsRow letters new (slice_index_or fs n []) c.in_ok-next.next.items (length letters)) before next.row in
    let more : AreRows letters new (rows ++ c.in_ok-next.next.items ∷ []) = rows_more letters fs new next.stays rows c.in_ok-next.next.items inside so.rows last in
    let all : map (λ row. row.items) c.push.new.self.items ≡ rows ++ c.in_ok-next.next.items ∷ [] =
    ap (λ (l : List (Vec ℕ Global)). map (λ row. row.items) l) pushed ∙ map-append (λ (row : Vec ℕ Global). row.items) c.loop-alloc.rows.items (c.in_ok-next.next ∷ []) in
    record {
      explored = next.explored;
      rows = subst (λ (l : List (List ℕ)). AreRows letters new l) (sym all) more;
      few = let count = stays_below letters fs new next.stays (length rows) inside in let one = ap (λ (l : List (Vec ℕ Global)). length l) pushed ∙ length_pushed c.loop-alloc.rows.items c.in_ok-next.next in omega arith;
    }
