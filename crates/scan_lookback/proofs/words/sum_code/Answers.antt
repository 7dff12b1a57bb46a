use Rattle.std.proofs.Common.{ℕ, ◌<◌, sym, ◌∙◌, subst}
use Rattle.scan_lookback.specs.Laws.Coded.{sum_item, sum_coded}
use Rattle.scan_lookback.proofs.words.sum_code.Goals as goal

pub word-requires : goal.word-requires
word-requires g c = let m = c.args.monoid.now in sum_item (g.M.WordMonoid.ops m) (g.met.M.WordMonoid.lawful m) g.N.Chunks.sums g.N.Codes.sum_codes g.N.Codes.prefix_codes c.requires.names c.args.c c.args.sum c.requires.sum

pub returns : goal.returns
returns g c =
    let m = c.args.monoid.now in
    let coded = sum_coded (g.M.WordMonoid.ops m) (g.met.M.WordMonoid.lawful m) g.N.Chunks.sums g.N.Codes.sum_codes g.N.Codes.prefix_codes c.requires.names c.args.c c.args.sum c.requires.sum in
    record { small = subst (λ (n : ℕ). n < 4611686018427387904) (sym c.word.ensures) coded.0; code = c.word.ensures ∙ coded.1 }
