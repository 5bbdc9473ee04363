-- What is written back reads as what was there.
use Rattle.std.proofs.Common.{Some, ap, sym, ◌∙◌}
use Rattle.std.specs.Ordering.{nat_cmp}
use Rattle.std.specs.BTreeMap.{is_at}
use Rattle.std.proofs.lemmas.Map.Steps.{set_value_same}
use Rattle.code_memory.proofs.sharing.share_at.Goals as goal

pub returns-in-Some : goal.returns-in-Some
returns-in-Some c =
    let written = c.make_shared.new.self in
    (c.get_mut.follows.holds written).0
    ∙ set_value_same (is_at (nat_cmp c.args.base)) c.args.placed.now.entries written (sym c.in-Some.ensures.value ∙ ap Some (sym c.make_shared.ensures))
