-- The generator is the last in the line of each of its names.
use Rattle.std.proofs.Common.{rules, ◌≡◌, ◌<◌, false, length, ap, sym, refl, subst}
use Rattle.orc_ids.specs.declared.lookup.Scope.TheVariants.{All, Exported}
use Rattle.orc_ids.specs.declared.limits.TheConstants.{GENERATOR_LIMIT}
use Rattle.generators.proofs.InLine.{few_joined, attached_kept}
use Rattle.generators.proofs.generators.Generators.attach.Goals as goal

pub join_names-requires-clause-few : goal.join_names-requires-clause-few
join_names-requires-clause-few g c = few_joined g.U.UnitKind.meaning All c.self.inside.rows.items c.self.inside.all c.self.invariant.in_all c.self.invariant.few c.args.d.0

pub join_names-requires-2-clause-few : goal.join_names-requires-2-clause-few
join_names-requires-2-clause-few g c = few_joined g.U.UnitKind.meaning Exported c.self.inside.rows.items c.self.inside.exported c.self.invariant.in_exported c.self.invariant.few c.args.d.0

pub invariant_of-self : goal.invariant_of-self
invariant_of-self g c =
    let inside = c.self.inside in
    let means = g.U.UnitKind.meaning in
    let few : length inside.rows.items < GENERATOR_LIMIT = subst (λ n. n < GENERATOR_LIMIT) (ap (λ s. length s.rows) (sym c.self.view_is)) c.requires.few in
    let number : c.len-g.result ≡ length inside.rows.items = search (rules, c.len-g.ensures, inside.rows.ok) in
    attached_kept means inside.rows.items c.push_reserved.new.self.items (record { unit = c.args.unit; dylib = c.args.d; spent = false }) inside.all inside.exported c.join_names.new.lines c.join_names-2.new.lines c.len-g.result
    few c.self.invariant c.push_reserved.ensures.items number refl c.join_names.ensures c.join_names-2.ensures
