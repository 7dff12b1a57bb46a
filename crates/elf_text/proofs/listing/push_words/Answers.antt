use Rattle.std.proofs.Common.{◌≡◌, ◌/◌, ◌++◌, length, sym, ap, ◌∙◌, arith, append-nil}
use Rattle.rv_text.specs.Written.{listed}
use Rattle.elf_text.proofs.Pushed.{first_words, line_onto}
use Rattle.elf_text.proofs.listing.push_words.Goals as goal

pub loop-k-init : goal.loop-k-init
loop-k-init c = c.in_ok-reserve.ensures.items ∙ sym (append-nil c.args.out.now.items)

pub loop-k-preserved : goal.loop-k-preserved
loop-k-preserved c =
    line_onto c.args.bytes.now c.loop-k.k c.args.out.now.items c.loop-k.out.items _ c.word_at.result c.word_at.ensures c.loop-k.invariant c.in_ok-push_line.ensures

pub returns : goal.returns
returns c =
    let all : c.loop-k.k ≡ length c.args.bytes.now / 4 = omega (arith, c.loop-k-test.false, c.loop-k.auto.k-end) in
    c.loop-k.invariant ∙ ap (λ k. c.args.out.now.items ++ listed (first_words c.args.bytes.now k)) all
