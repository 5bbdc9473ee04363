use Rattle.std.proofs.Common.{◌∙◌}
use Rattle.dep_groups.proofs.Tables.{place_read, place_past}
use Rattle.dep_groups.proofs.places.slot_at.Goals as goal

pub returns-in-Some : goal.returns-in-Some
returns-in-Some c =
    let h = c.in-Some.ensures.lookup in
    place_read c.args.places.now c.args.k c.in-Some.found.now h.3.0 h.1

pub returns-in-None : goal.returns-in-None
returns-in-None c = c.none.ensures ∙ place_past c.args.places.now c.args.k c.in-None.ensures.lookup.3
