use Rattle.std.proofs.Common.{ap, arith}
use Rattle.par_lexer.proofs.Leading.{state_more}
use Rattle.par_lexer.proofs.stretch.state_behind.Goals as goal

pub next-behind-requires : goal.next-behind-requires
next-behind-requires c = let states = ap (λ d. d.states) c.requires.automaton in omega (arith, states, c.loop-byte.invariant.1)

pub loop-byte-preserved : goal.loop-byte-preserved
loop-byte-preserved c =
    let states = ap (λ d. d.states) c.requires.automaton in (
      state_more c.args.dfa.now c.requires.automaton c.args.bytes.now c.args.state c.loop-byte.byte-index c.loop-byte.behind c.next-behind.result (omega arith) c.loop-byte.invariant.0 c.next-behind.ensures.value,
      omega (arith, states, c.next-behind.ensures.within),
    )
