use Rattle.std.proofs.Common.{◌≡◌, ◌<◌, length, slice_get, take, ap, sym, ◌∙◌, rules, Some}
use Rattle.std.proofs.lemmas.Option.{slice_get-get_or}
use Rattle.session_model.specs.Answer.{last_reply}
use Rattle.session_model.specs.State.{plain_history}
use Rattle.session_past.specs.Causes.{is_call_of}
use Rattle.session_past.proofs.CauseLemmas.{last_more}
use Rattle.session_past.proofs.causes.was_last.Goals as goal

pub loop-e-preserved : goal.loop-e-preserved
loop-e-preserved g c = let means = g.U.UnitKind.meaning in
    let below : c.loop-e.e-index < length c.args.past.now = search rules in
    let there : slice_get c.args.past.now c.loop-e.e-index ≡ Some c.e-item.result = slice_get-get_or c.args.past.now c.loop-e.e-index c.e-item.result below ∙ ap Some (sym c.e-item.is) in
    rw (last_more means (is_call_of c.args.call c.args.u.0) c.args.past.now c.loop-e.e-index c.e-item.result there)
    (c.still_last-was.ensures (last_reply (is_call_of c.args.call c.args.u.0) (plain_history means (take c.loop-e.e-index c.args.past.now))) c.loop-e.invariant)
