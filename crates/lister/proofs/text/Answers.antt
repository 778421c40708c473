-- What is written of the answer is written of the call.
use Rattle.ac3.specs.Promise.{call}
use Rattle.lister.proofs.Written.{all_written}
use Rattle.lister.proofs.text.Goals as goal

pub returns-clause-written : goal.returns-clause-written
returns-clause-written c =
    let a = c.args in
    all_written (call a.capture.now a.place a.rows.now) a.out.now c.parse-answer.ensures.rows_after c.if-out-answer.false c.put_text.ensures.value c.put_text.ensures.valid
