use Rattle.dep_groups.proofs.Tables.{flag_read, flag_past}
use Rattle.dep_groups.proofs.places.is_set.Goals as goal

pub returns-in-Some : goal.returns-in-Some
returns-in-Some c =
    let h = c.in-Some.ensures.lookup in
    flag_read c.args.flags.now c.args.k c.in-Some.flag.now h.3.0 h.1

pub returns-in-None : goal.returns-in-None
returns-in-None c = flag_past c.args.flags.now c.args.k c.in-None.ensures.lookup.3
