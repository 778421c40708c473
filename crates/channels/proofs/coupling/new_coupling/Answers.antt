-- `channels::coupling::new_coupling` meets its contract: a `then` for each call. Assumes nothing.
use Rattle.syntax.proofs.Sequence.{refused, then, stops, took, judged, finished}
use Rattle.syntax.proofs.Under.{took_if}
use Rattle.channels.specs.Coupling.{new_coupling}
use Rattle.channels.proofs.coupling.new_coupling.Goals as goal

pub returns-in_err-chincpl-clause-reads : goal.returns-in_err-chincpl-clause-reads
unfolding new_coupling
returns-in_err-chincpl-clause-reads c =
    refused c.from_residual.ensures.1
    (stops _ c.in_err-chincpl.ensures)

pub returns-in_err-phsflginu-clause-reads : goal.returns-in_err-phsflginu-clause-reads
unfolding new_coupling
returns-in_err-phsflginu-clause-reads c =
    refused c.from_residual-in_err-phsflginu.ensures.1
    (then _ c.in_ok-chincpl.ensures
    (stops _ (took_if _ _ _ _ c.one.ensures c.in_err-phsflginu.ensures)))

pub returns-in_err-cplbegf-clause-reads : goal.returns-in_err-cplbegf-clause-reads
unfolding new_coupling
returns-in_err-cplbegf-clause-reads c =
    refused c.from_residual-in_err-cplbegf.ensures.1
    (then _ c.in_ok-chincpl.ensures
    (then _ (took_if _ _ _ _ c.one.ensures c.in_ok-phsflginu.ensures)
    (stops _ (took c.one-2.ensures c.in_err-cplbegf.ensures.reads))))

pub returns-in_err-cplendf-clause-reads : goal.returns-in_err-cplendf-clause-reads
unfolding new_coupling
returns-in_err-cplendf-clause-reads c =
    refused c.from_residual-in_err-cplendf.ensures.1
    (then _ c.in_ok-chincpl.ensures
    (then _ (took_if _ _ _ _ c.one.ensures c.in_ok-phsflginu.ensures)
    (then _ (took c.one-2.ensures c.in_ok-cplbegf.ensures.reads)
    (stops _ (took c.one-3.ensures c.in_err-cplendf.ensures.reads)))))

pub returns-in_err-refuse_if-clause-reads : goal.returns-in_err-refuse_if-clause-reads
unfolding new_coupling
returns-in_err-refuse_if-clause-reads c =
    refused c.from_residual-in_err-refuse_if.ensures.1
    (then _ c.in_ok-chincpl.ensures
    (then _ (took_if _ _ _ _ c.one.ensures c.in_ok-phsflginu.ensures)
    (then _ (took c.one-2.ensures c.in_ok-cplbegf.ensures.reads)
    (then _ (took c.one-3.ensures c.in_ok-cplendf.ensures.reads)
    (stops _ (judged _ _ c.in_err-refuse_if.ensures))))))

pub returns-in_err-ncplbnd-clause-reads : goal.returns-in_err-ncplbnd-clause-reads
unfolding new_coupling
returns-in_err-ncplbnd-clause-reads c =
    refused c.from_residual-in_err-ncplbnd.ensures.1
    (then _ c.in_ok-chincpl.ensures
    (then _ (took_if _ _ _ _ c.one.ensures c.in_ok-phsflginu.ensures)
    (then _ (took c.one-2.ensures c.in_ok-cplbegf.ensures.reads)
    (then _ (took c.one-3.ensures c.in_ok-cplendf.ensures.reads)
    (then _ (judged _ _ c.in_ok-refuse_if.ensures)
    (stops _ (rw c.sub_bands.ensures.value at c.in_err-ncplbnd.ensures.reads)))))))

pub returns-in_err-refuse_if-2-clause-reads : goal.returns-in_err-refuse_if-2-clause-reads
unfolding new_coupling
returns-in_err-refuse_if-2-clause-reads c =
    refused c.from_residual-in_err-refuse_if-2.ensures.1
    (then _ c.in_ok-chincpl.ensures
    (then _ (took_if _ _ _ _ c.one.ensures c.in_ok-phsflginu.ensures)
    (then _ (took c.one-2.ensures c.in_ok-cplbegf.ensures.reads)
    (then _ (took c.one-3.ensures c.in_ok-cplendf.ensures.reads)
    (then _ (judged _ _ c.in_ok-refuse_if.ensures)
    (then _ (rw c.sub_bands.ensures.value at c.in_ok-ncplbnd.ensures.reads)
    (stops _ (judged _ _ (rw c.how_many.ensures at c.in_err-refuse_if-2.ensures)))))))))

pub returns-clause-reads : goal.returns-clause-reads
unfolding new_coupling
returns-clause-reads c =
    then _ c.in_ok-chincpl.ensures
    (then _ (took_if _ _ _ _ c.one.ensures c.in_ok-phsflginu.ensures)
    (then _ (took c.one-2.ensures c.in_ok-cplbegf.ensures.reads)
    (then _ (took c.one-3.ensures c.in_ok-cplendf.ensures.reads)
    (then _ (judged _ _ c.in_ok-refuse_if.ensures)
    (then _ (rw c.sub_bands.ensures.value at c.in_ok-ncplbnd.ensures.reads)
    (then _ (judged _ _ (rw c.how_many.ensures at c.in_ok-refuse_if-2.ensures))
    finished))))))
