use Rattle.std.proofs.Common.{◌∙◌, [], ◌∷◌, ap, sym, map, take, flat_map}
use Rattle.std.proofs.lemmas.List.{map-append}
use Rattle.session_command.specs.Ends.{stop_in, stops_answer}
use Rattle.session_command.proofs.Lists.{read_more}
use Rattle.session_command.proofs.Stops.{stops_more}
use Rattle.session_command.proofs.answer.after_clients.Goals as goal

pub loop-ends-preserved : goal.loop-ends-preserved
loop-ends-preserved c =
    let clients = c.args.clients.now in
    let k = c.loop-ends.ends-index in
    let its = c.ends-item.result in
    let stops = flat_map stop_in in
    stops_more stops c.args.before c.loop-ends.answer c.after_lines-answer.result (map (λ x. x.items) (take k clients)) its.items c.loop-ends.invariant (c.after_lines-answer.ensures ∙ ap (λ l. stops_answer c.loop-ends.answer (stops l)) c.as_slice.ensures.value)
    ∙ ap (λ l. stops_answer c.args.before (flat_map stops l)) (sym (map-append (λ x. x.items) (take k clients) (its ∷ [])) ∙ ap (map (λ x. x.items)) (sym (read_more clients k its c.loop-ends-test.true c.ends-item.is)))
