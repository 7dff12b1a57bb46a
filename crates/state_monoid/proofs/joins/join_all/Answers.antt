use Rattle.std.proofs.Common.{◌≡◌, ◌∙◌, ◌++◌, ◌+◌, ◌*◌, ◌<◌, ◌≤◌, List, ℕ, [], Vec, Global, Some, slice_get, length, take, drop, map, All, refl, ap, sym, subst, arith}
use Rattle.std.specs.Prelude.{slice_index, slice_index_or}
use Rattle.std.specs.List.{range_with_len}
use Rattle.std.proofs.lemmas.List.{length-map}
use Rattle.state_monoid.specs.declared.explore.Origin.{Origin}
use Rattle.state_monoid.specs.Explored.{AreColumns, AreJoined}
use Rattle.state_monoid.specs.Places.{item_at}
use Rattle.state_monoid.proofs.Searching.{both}
use Rattle.state_monoid.proofs.Joining.{Joins, join_step, joined_first, rows_length}
use Rattle.state_monoid.proofs.joins.join_all.Goals as goal

abbrev items_of : Vec ℕ Global → List ℕ
items_of v = v.items

pub columns-requires : goal.columns-requires
columns-requires c k d h =
    let letters : List (List ℕ) = c.args.letters.now.functions.keys in
    let fs : List (List ℕ) = c.args.explored.now.functions.keys in
    let all : All (λ row. length row.items ≡ length letters) c.deref.result.now =
    subst (λ (l : List (Vec ℕ Global)). All (λ row. length row.items ≡ length letters) l) (sym c.deref.ensures.value) (rows_length items_of letters fs c.args.explored.now.rows.items c.requires.rows) in
    all k d h ∙ sym c.len.ensures.len

pub loop-code-init : goal.loop-code-init
loop-code-init c =
    let fs : List (List ℕ) = c.args.explored.now.functions.keys in
    let count : c.len-count.result ≡ length fs = c.len-count.ensures.len in
    let is : c.reserve_exact.new.self.items ≡ range_with_len 0 (length fs) = c.in_ok-reserve_exact.ensures.items ∙ (c.in_ok-joins.ensures ∙ ap (range_with_len 0) count) in
    subst (λ (l : List ℕ). AreJoined fs 1 l) (sym is) (joined_first c.args.letters.now.dfa c.requires.letters.valid c.args.letters.now.functions.keys fs c.args.explored.now.origins.items c.requires.explored)

pub join_next-requires : goal.join_next-requires
join_next-requires c =
    let letters : List (List ℕ) = c.args.letters.now.functions.keys in
    let fs : List (List ℕ) = c.args.explored.now.functions.keys in
    let os : List Origin = c.args.explored.now.origins.items in
    let rows : List (List ℕ) = map items_of c.args.explored.now.rows.items in
    let columns : List (List ℕ) = map items_of c.in_ok-columns.columns.items in
    let count : c.len-count.result ≡ length fs = c.len-count.ensures.len in
    let cs : AreColumns rows (length letters) columns = both (λ r n. AreColumns (map items_of r) n columns) c.deref.ensures.value c.len.ensures.len c.in_ok-columns.ensures in
    let o : Origin = c.index.result.now in
    let len = c.requires.explored.one_for_each in
    let at : slice_get os c.loop-code.code ≡ Some o = item_at os os c.loop-code.code o c.index.ensures refl (omega (arith, len, count)) in
    let step : Joins letters fs columns c.loop-code.code o c.loop-code.joins.items = join_step c.args.letters.now.dfa c.requires.letters.valid letters fs os rows columns c.loop-code.code o c.loop-code.joins.items
    c.requires.explored c.requires.rows (length-map c.args.explored.now.rows.items items_of ∙ c.requires.all) cs c.loop-code.invariant (omega arith) at in
    record {
      letter = let same = ap (λ (l : List (Vec ℕ Global)). length l) c.deref-in-loop-code.ensures.value in let mapped = length-map c.in_ok-columns.columns.items items_of in let h = step.letter in omega arith;
      codes = subst (λ (l : List (Vec ℕ Global)). All (λ code. code < length (slice_index_or (map items_of l) o.letter [])) c.loop-code.joins.items) (sym c.deref-in-loop-code.ensures.value) step.codes;
      within = subst (λ (n : ℕ). o.before * n + n ≤ length c.loop-code.joins.items) (sym count) step.within;
    }

pub loop-code-preserved : goal.loop-code-preserved
loop-code-preserved c =
    let letters : List (List ℕ) = c.args.letters.now.functions.keys in
    let fs : List (List ℕ) = c.args.explored.now.functions.keys in
    let os : List Origin = c.args.explored.now.origins.items in
    let rows : List (List ℕ) = map items_of c.args.explored.now.rows.items in
    let columns : List (List ℕ) = map items_of c.in_ok-columns.columns.items in
    let count : c.len-count.result ≡ length fs = c.len-count.ensures.len in
    let cs : AreColumns rows (length letters) columns = both (λ r n. AreColumns (map items_of r) n columns) c.deref.ensures.value c.len.ensures.len c.in_ok-columns.ensures in
    let o : Origin = c.index.result.now in
    let len = c.requires.explored.one_for_each in
    let at : slice_get os c.loop-code.code ≡ Some o = item_at os os c.loop-code.code o c.index.ensures refl (omega (arith, len, count)) in
    let step : Joins letters fs columns c.loop-code.code o c.loop-code.joins.items = join_step c.args.letters.now.dfa c.requires.letters.valid letters fs os rows columns c.loop-code.code o c.loop-code.joins.items
    c.requires.explored c.requires.rows (length-map c.args.explored.now.rows.items items_of ∙ c.requires.all) cs c.loop-code.invariant (omega arith) at in
    let is : c.join_next.new.joins.items ≡ c.loop-code.joins.items ++ map (slice_index (slice_index_or columns o.letter [])) (take (length fs) (drop (o.before * length fs) c.loop-code.joins.items)) =
    both (λ r n. c.join_next.new.joins.items ≡ c.loop-code.joins.items ++ map (slice_index (slice_index_or (map items_of r) o.letter [])) (take n (drop (o.before * n) c.loop-code.joins.items))) c.deref-in-loop-code.ensures.value count c.in_ok-join_next.ensures in
    subst (λ (l : List ℕ). AreJoined fs (c.loop-code.code + 1) l) (sym is) step.more
