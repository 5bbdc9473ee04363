use Rattle.std.proofs.Common.{length, refl}
use Rattle.std.proofs.lemmas.Option.{slice_get_read}
use Rattle.dep_groups.proofs.Cuts.{cut_at, cut_none, members_read, deps_read, members_past, deps_past}
use Rattle.dep_groups.proofs.nodes.span_of.Goals as goal

pub returns-in-Some : goal.returns-in-Some
returns-in-Some c =
    let ends = c.args.ends.now in
    let h = c.in-Some.ensures.lookup in
    let end = c.in-Some.end.now in
    let is = slice_get_read ends (length ends) c.args.group end refl h.3.0 h.1 in
    rw c.start_of.ensures (record {
      cut = λ m d rise. cut_at ends m d c.args.group end rise is;
      members = λ ms ds. members_read ms ds ends c.args.group end is;
      deps = λ ms ds. deps_read ms ds ends c.args.group end is;
    })

pub returns-in-None : goal.returns-in-None
returns-in-None c =
    let ends = c.args.ends.now in
    let past = c.in-None.ensures.lookup.3 in
    record {
      cut = λ m d rise. cut_none m d;
      members = λ ms ds. members_past ms ds ends c.args.group past;
      deps = λ ms ds. deps_past ms ds ends c.args.group past;
    }
