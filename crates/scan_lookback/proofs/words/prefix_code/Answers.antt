use Rattle.std.proofs.Common.{ℕ, ◌<◌, sym, ◌∙◌, subst}
use Rattle.scan_lookback.specs.Laws.Coded.{prefix_coded}
use Rattle.scan_lookback.proofs.words.prefix_code.Goals as goal

pub word-requires : goal.word-requires
word-requires g c = let m = c.args.monoid.now in (prefix_coded (g.M.WordMonoid.ops m) (g.met.M.WordMonoid.lawful m) g.N.Chunks.sums g.N.Codes.sum_codes g.N.Codes.prefix_codes c.requires.names c.args.c c.args.prefix c.requires.chunk c.requires.prefix).0

pub returns : goal.returns
returns g c =
    let m = c.args.monoid.now in
    let coded = prefix_coded (g.M.WordMonoid.ops m) (g.met.M.WordMonoid.lawful m) g.N.Chunks.sums g.N.Codes.sum_codes g.N.Codes.prefix_codes c.requires.names c.args.c c.args.prefix c.requires.chunk c.requires.prefix in
    record { small = subst (λ (n : ℕ). n < 4611686018427387904) (sym c.word.ensures) coded.1; code = c.word.ensures ∙ coded.2 }
