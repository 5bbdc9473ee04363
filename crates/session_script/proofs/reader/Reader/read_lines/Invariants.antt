use Rattle.std.proofs.Common.{◌≡◌, ◌-◌, ◌≤◌, length}
use Rattle.session_script.specs.declared.limits.TheConstants.{LINE_LIMIT}
use Rattle.session_script.specs.Words.{lines_of}
use Rattle.session_script.specs.Scripts.{lines_from}
use Rattle.session_script.proofs.reader.Reader.read_lines.Given as goal

-- the bytes that are left, read on from what is known, give what all bytes give
abbrev pub invariant-loop-rest : goal.invariant-loop-rest
invariant-loop-rest l = record {
  few : l.number ≤ LINE_LIMIT;
  within : length l.rest ≤ length l.bytes;
  same : lines_from l.self l.number (length l.bytes - length l.rest) (lines_of l.rest) ≡ lines_from l.fn.self 0 0 (lines_of l.bytes);
}

abbrev pub decreases-loop-rest : goal.decreases-loop-rest
decreases-loop-rest l = length l.rest
