use Rattle.std.proofs.Common.{map, arith}
use Rattle.session_model.specs.State.{plain_history}
use Rattle.session_units.specs.Units.{meaning_of}
use Rattle.gen_command.proofs.Runs.{if_ok, one_planned, was_run}
use Rattle.gen_command.proofs.session.run_generated.Goals as goal

pub run_script-requires-after_bounds : goal.run_script-requires-after_bounds
run_script-requires-after_bounds g c κs within =
    let one = one_planned meaning_of c.args.n c.in_ok-plan.plan c.in_ok-plan.ensures.asked in
    (omega arith, (c.requires.limit, (omega (arith, one), c.in_ok-plan.ensures.can)))

pub returns : goal.returns
returns g c = if_ok c.run_script.result
    (λ s is. was_run g.row.JMAX c.args.n _ s.end.set_up (map (λ x. x.items) s.end.clients.items) (plain_history meaning_of s.session.journal) c.in_ok-plan.ensures.asked is)
    c.run_script.ensures.run
