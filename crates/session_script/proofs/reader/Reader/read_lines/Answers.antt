use Rattle.std.proofs.Common.{◌<◌, length, sym, ap, ◌∙◌, arith}
use Rattle.std.specs.Prelude.{Err}
use Rattle.std.proofs.lemmas.Grind.{common_steps}
use Rattle.session_script.proofs.LinesNext.{next_lines, bad_line, rest_within}
use Rattle.session_script.proofs.reader.Reader.read_lines.Goals as goal

pub returns-in-Err-clause-refused : goal.returns-in-Err-clause-refused
returns-in-Err-clause-refused c =
    let some : 0 < length c.loop-rest.rest.now = grind (arith, common_steps) in
    let bad = bad_line c.loop-rest.self c.loop-rest.number (length c.args.bytes.now) c.loop-rest.rest.now c.cut.result.0.now c.cut.result.1.now _ c.in-Err.refusal some c.loop-rest.invariant.within c.cut.ensures.before c.cut.ensures.after c.loop-rest.invariant.same c.in-Err.ensures.refused in
    λ other. bad (λ e. other (c.error_of.ensures ∙ e)) ∙ ap Err (sym c.error_of.ensures)

pub loop-rest-preserved : goal.loop-rest-preserved
loop-rest-preserved c =
    let some : 0 < length c.loop-rest.rest.now = grind (arith, common_steps) in
    record {
      few = c.in_default.ensures.few;
      within = rest_within c.loop-rest.rest.now c.cut.result.1.now c.args.bytes.now c.cut.ensures.after c.loop-rest.invariant.within;
      same = next_lines c.loop-rest.self c.read_numbered.new.self c.loop-rest.number (length c.args.bytes.now) c.loop-rest.rest.now c.cut.result.0.now c.cut.result.1.now _ some c.loop-rest.invariant.within c.cut.ensures.before c.cut.ensures.after c.loop-rest.invariant.same c.in_default.ensures.read;
    }
