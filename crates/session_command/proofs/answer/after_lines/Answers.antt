use Rattle.std.proofs.Common.{◌∙◌, ap, sym, take, flat_map}
use Rattle.session_command.specs.Ends.{stop_in, stops_answer}
use Rattle.session_command.proofs.Lists.{read_more}
use Rattle.session_command.proofs.Stops.{stops_more}
use Rattle.session_command.proofs.answer.after_lines.Goals as goal

pub loop-end-preserved : goal.loop-end-preserved
loop-end-preserved c =
    let ends = c.args.ends.now in
    stops_more stop_in c.args.before c.loop-end.answer c.after_line-answer.result (take c.loop-end.end-index ends) c.end-item.result c.loop-end.invariant c.after_line-answer.ensures
    ∙ ap (λ l. stops_answer c.args.before (flat_map stop_in l)) (sym (read_more ends c.loop-end.end-index c.end-item.result c.loop-end-test.true c.end-item.is))
