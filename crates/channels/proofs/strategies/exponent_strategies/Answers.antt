-- `channels::strategies::exponent_strategies` meets its contract: a `then` for each call. Assumes nothing.
use Rattle.syntax.proofs.Sequence.{refused, then, stops, finished}
use Rattle.syntax.proofs.Under.{took_if}
use Rattle.channels.specs.Strategies.{exponent_strategies}
use Rattle.channels.proofs.strategies.exponent_strategies.Goals as goal

pub returns-in_err-cplexpstr-clause-reads : goal.returns-in_err-cplexpstr-clause-reads
unfolding exponent_strategies
returns-in_err-cplexpstr-clause-reads c = refused c.from_residual.ensures.1 (stops _ (took_if _ _ _ _ c.one.ensures c.in_err-cplexpstr.ensures.reads))

pub returns-in_err-chexpstr-clause-reads : goal.returns-in_err-chexpstr-clause-reads
unfolding exponent_strategies
returns-in_err-chexpstr-clause-reads c =
    refused c.from_residual-in_err-chexpstr.ensures.1
    (then _ (took_if _ _ _ _ c.one.ensures c.in_ok-cplexpstr.ensures.reads)
    (stops _ c.in_err-chexpstr.ensures.reads))

pub returns-in_err-lfeexpstr-clause-reads : goal.returns-in_err-lfeexpstr-clause-reads
unfolding exponent_strategies
returns-in_err-lfeexpstr-clause-reads c =
    refused c.from_residual-in_err-lfeexpstr.ensures.1
    (then _ (took_if _ _ _ _ c.one.ensures c.in_ok-cplexpstr.ensures.reads)
    (then _ c.in_ok-chexpstr.ensures.reads
    (stops _ (took_if _ _ _ _ c.one-2.ensures c.in_err-lfeexpstr.ensures.reads))))

pub returns-clause-reads : goal.returns-clause-reads
unfolding exponent_strategies
returns-clause-reads c =
    then _ (took_if _ _ _ _ c.one.ensures c.in_ok-cplexpstr.ensures.reads)
    (then _ c.in_ok-chexpstr.ensures.reads
    (then _ (took_if _ _ _ _ c.one-2.ensures c.in_ok-lfeexpstr.ensures.reads)
    finished))
