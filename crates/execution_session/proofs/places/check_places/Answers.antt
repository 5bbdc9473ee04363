use Rattle.std.proofs.Common.{◌≡◌, length, ap, sym, subst, ◌∙◌, rules, arith}
use Rattle.session_model.specs.Plain.{kept}
use Rattle.session_parts.specs.Parts.{AreParts}
use Rattle.orc_ids.specs.declared.lookup.Stop.TheVariants as stop
use Rattle.session_steps.proofs.Declared.{lacks, fits}
use Rattle.execution_session.proofs.places.check_places.Goals as goal

pub kept-requires : goal.kept-requires
kept-requires g c κs within = (within.0, (within.1, subst (AreParts g.U.UnitKind.meaning c.args.live.now.parts) (sym c.requires.1.1.1.0) c.requires.1.1.1.1.0.parts))

pub returns-then-entries-kept-clause-full : goal.returns-then-entries-kept-clause-full
returns-then-entries-kept-clause-full g c =
    let same : length c.as_slice-entries.result.now ≡ length c.args.live.now.journal.items = search rules in
    (ap stop.JournalFull same, lacks g.U.UnitKind.meaning g.row.JMAX c.args.live.now.journal.items c.args.places c.kept.result (c.kept.ensures ∙ ap kept c.requires.1.1.1.0) (omega (arith, same, c.if-entries-kept.true)))

pub returns-clause-places : goal.returns-clause-places
returns-clause-places g c =
    let same : length c.as_slice-entries.result.now ≡ length c.args.live.now.journal.items = search rules in
    fits g.U.UnitKind.meaning g.row.JMAX c.args.live.now.journal.items c.args.places c.kept.result (c.kept.ensures ∙ ap kept c.requires.1.1.1.0) (omega (arith, same, c.if-entries-kept.false))
