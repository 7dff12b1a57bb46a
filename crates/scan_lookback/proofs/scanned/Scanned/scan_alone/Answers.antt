use Rattle.std.proofs.Common.{◌≡◌, ◌<◌, ◌*◌, ◌∙◌, length, ap, subst, sym, arith}
use Rattle.word_monoid.specs.Monoid.{IsItem}
use Rattle.chunk_seats.specs.Chunks.{chunk_count}
use Rattle.chunk_seats.specs.Laws.Counted.{chunk_inside}
use Rattle.scan_lookback.specs.Laws.Cutting.{gives_chunk, all_chunk, lifts_part}
use Rattle.scan_lookback.proofs.OneWorker.{before_none, joined_none, before_next, join_next, before_all}
use Rattle.scan_lookback.proofs.scanned.Scanned.scan_alone.Given as given
use Rattle.scan_lookback.proofs.scanned.Scanned.scan_alone.Goals as goal

pub loop-c-init : goal.loop-c-init
loop-c-init g c =
    let s = c.args.self.now in
    let m = s.monoid.now in
    record {
      listed = c.in_ok-out.ensures.items ∙ before_none (g.M.WordMonoid.ops m) s.size g.N.Chunks.items;
      joined = c.unit-sum.ensures ∙ joined_none (g.M.WordMonoid.ops m) s.size g.N.Chunks.items;
      item = subst (IsItem (g.M.WordMonoid.ops m)) (sym c.unit-sum.ensures) (g.met.M.WordMonoid.lawful m).unit_is_item;
    }

pub run_onto-requires-clause-callable : goal.run_onto-requires-clause-callable
run_onto-requires-clause-callable g c = let s = c.args.self.now in all_chunk (given.F-pre g s.lift.now) s.items.now _ s.size c.loop-c.c c.chunk_slice.ensures c.requires.scan.callable

pub run_onto-requires-clause-items : goal.run_onto-requires-clause-items
run_onto-requires-clause-items g c = gives_chunk _ _ _ _ _ _ c.requires.scan.scans c.loop-c.c _ c.chunk_slice.ensures

pub loop-c-preserved : goal.loop-c-preserved
loop-c-preserved g c =
    let s = c.args.self.now in
    let m = s.monoid.now in
    let scans = c.requires.scan.scans in
    let inside : c.loop-c.c * s.size < length s.items.now = chunk_inside (length s.items.now) s.size c.loop-c.c c.requires.scan.sized.0 (omega arith) in
    let lifts = lifts_part _ _ _ _ _ _ scans c.loop-c.c _ c.chunk_slice.ensures in
    let all : c.loop-c.c * s.size < length g.N.Chunks.items = subst (λ n. c.loop-c.c * s.size < n) (sym scans.lifts.as_many) inside in
    record {
      listed = before_next (g.M.WordMonoid.ops m) s.size g.N.Chunks.items c.loop-c.c c.loop-c.sum _ _ all c.loop-c.invariant.listed c.loop-c.invariant.joined (c.in_ok-sum.ensures.listed _ lifts);
      joined = join_next (g.M.WordMonoid.ops m) s.size g.N.Chunks.items c.loop-c.c c.loop-c.sum c.in_ok-sum.sum c.loop-c.invariant.joined (c.in_ok-sum.ensures.joined _ lifts);
      item = c.in_ok-sum.ensures.item;
    }

pub returns : goal.returns
returns g c =
    let s = c.args.self.now in
    let end : c.loop-c.c ≡ c.args.count = omega arith in
    before_all (g.M.WordMonoid.ops s.monoid.now) s.size g.N.Chunks.items c.loop-c.c c.loop-c.sum _ _ c.requires.scan.sized.0
    (end ∙ c.requires.count ∙ ap (chunk_count s.size) (sym c.requires.scan.scans.lifts.as_many)) c.loop-c.invariant.listed c.loop-c.invariant.joined c.in_ok-push.ensures.items
