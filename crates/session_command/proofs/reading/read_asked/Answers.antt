use Rattle.std.proofs.Common.{refl}
use Rattle.session_command.specs.Found.{refused}
use Rattle.session_command.proofs.ScriptSize.{script_fits}
use Rattle.session_command.proofs.reading.read_asked.Goals as goal

pub returns-in-Ok-clause-asked : goal.returns-in-Ok-clause-asked
returns-in-Ok-clause-asked g c = record {
  bytes = c.in_ok-text.text;
  read = c.in_ok-text.ensures.read;
  is = rw (← c.as_slice.ensures) c.in-Ok.ensures.read;
}

pub returns-in-Err-BadLine-clause-unasked : goal.returns-in-Err-BadLine-clause-unasked
returns-in-Err-BadLine-clause-unasked g c = refused c.in-Err-BadLine.line c.in-Err-BadLine.why (record {
  bytes = c.in_ok-text.text;
  read = c.in_ok-text.ensures.read;
  is = rw (← c.as_slice.ensures, ← c.in-Err-BadLine.field-0-is) (c.in-Err-BadLine.ensures.refused (λ q. cc));
}) refl

pub returns-in-Ok-clause-end : goal.returns-in-Ok-clause-end
returns-in-Ok-clause-end g c = c.in_ok-text.ensures.end (script_fits c.args.notes c.in_ok-text.text c.in-Ok.script (rw (← c.as_slice.ensures) c.in-Ok.ensures.read))
