use Rattle.std.proofs.Common.{◌≡◌, true, Some, None}
use Rattle.std.proofs.lemmas.Bool.{both_ways}
use Rattle.session_model.specs.Answer.{is_stage, last_reply}
use Rattle.session_model.specs.State.{plain_history}
use Rattle.session_model.specs.declared.entry.Reply.TheVariants.{InError}
use Rattle.session_model.specs.declared.rows.UnitPhase.TheVariants as stage
use Rattle.session_past.specs.Causes.{is_call_of}
use Rattle.session_plain.specs.Meant.{meant}
use Rattle.session_past.specs.declared.causes.Call.TheVariants as call
use Rattle.session_past.proofs.CauseLemmas.{lost_cause}
use Rattle.session_past.proofs.causes.external_failed.Goals as goal

pub returns : goal.returns
returns g c = let means = g.U.UnitKind.meaning in
    lost_cause (plain_history means c.args.past.now) (meant means c.args.s.now) c.args.ends.now c.args.u.0 c.args.i c.ended_lost.result
    (last_reply (is_call_of call.Link c.args.u.0) (plain_history means c.args.past.now) ≡ Some (InError c.args.i))
    (is_stage stage.Finishing c.args.x.now.phase ≡ true) (c.args.x.now.bound ≡ None) c.requires.leads c.requires.ends
    (λ x. both_ways c.linked_in_error.result c.if-linked_in_error.false (c.linked_in_error.ensures.1 x)) c.ended_lost.ensures
