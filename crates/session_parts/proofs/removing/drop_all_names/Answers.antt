use Rattle.std.proofs.Common.{◌<◌, ap, refl, subst, sym, ◌∙◌, length}
use Rattle.std.specs.Prelude.{All}
use Rattle.std.proofs.lemmas.List.Elements.{All-rest}
use Rattle.orc_ids.specs.declared.ids.UnitId.{UnitId}
use Rattle.jit_dylib.specs.Shelf.{table_of}
use Rattle.session_parts.proofs.Names.{Leaving, one_leaves, all_left, only_twice}
use Rattle.session_parts.proofs.Retiring.{head_there}
use Rattle.session_parts.proofs.removing.drop_all_names.Goals as goal

pub loop-u-init : goal.loop-u-init
loop-u-init c =
    let its = c.into_iter-u-iterator.ensures.into_iter_gives ∙ c.iter-u-items.ensures.rest in
    record {
      rows = subst (λ rest. Leaving c.args.graph.now.rows c.args.gone.now (table_of c.args.dylibs.now c.args.d.0) rest (table_of c.args.dylibs.now c.args.d.0)) (sym its) (λ new left. left);
      there = subst (λ rest. All (λ (u : UnitId). u.0 < c.args.graph.now.units) rest) (sym its) c.requires.units;
      rest = record { dylibs = refl; others = λ e n. refl };
    }

pub drop_names-requires : goal.drop_names-requires
drop_names-requires c = record { dylib = subst (λ n. c.args.d.0 < n) (sym (ap length c.loop-u.invariant.rest.dylibs)) c.requires.dylib; unit = head_there c.args.graph.now.units c.loop-u.u-iterator c.in-Some.u.now c.next.new.self c.in-Some.ensures.steps c.loop-u.invariant.there }

pub loop-u-preserved : goal.loop-u-preserved
loop-u-preserved c =
    let d = c.args.d.0 in
    record {
      rows = one_leaves c.args.graph.now.rows c.args.gone.now (table_of c.args.dylibs.now d) c.loop-u.u-iterator c.in-Some.u.now c.next.new.self (table_of c.loop-u.dylibs d) (table_of c.drop_names.new.dylibs d) c.in-Some.ensures.steps c.drop_names.ensures.rows c.loop-u.invariant.rows;
      there = All-rest (λ (v : UnitId). v.0 < c.args.graph.now.units) c.in-Some.u.now c.next.new.self c.loop-u.u-iterator c.in-Some.ensures.steps c.loop-u.invariant.there;
      rest = only_twice d c.args.dylibs.now c.loop-u.dylibs c.drop_names.new.dylibs c.loop-u.invariant.rest c.drop_names.ensures.rest;
    }

pub returns-clause-rows : goal.returns-clause-rows
returns-clause-rows c = all_left c.args.graph.now.rows c.args.gone.now (table_of c.args.dylibs.now c.args.d.0) c.loop-u.u-iterator (table_of c.loop-u.dylibs c.args.d.0) c.in-None.ensures.steps.0 c.loop-u.invariant.rows
