use Rattle.std.proofs.Common.{◌≡◌, All, None, List, ◌∷◌, [], ◌++◌, length, map, true, false, Ok, Err, append-nil, arith, ap, subst, sym, ◌∙◌}
use Rattle.std.proofs.lemmas.List.{length_push}
use Rattle.std.specs.Vec.Iter.{into_iter_items}
use Rattle.turn_lock.specs.Handles.{view}
use Rattle.linked_program.specs.SetUps.{IsAt, define_of}
use Rattle.linked_program.proofs.SetUpAll.{Halted, Made, at_seam, defined_more, defines, given_more, none_left, refused_at, stopped_at}
use Rattle.linked_program.proofs.setting_up.define_all.Goals as goal

pub define-requires : goal.define-requires
define-requires g c =
    let means = g.U.UnitKind.meaning in
    let done = c.loop-unit.yielded in
    let x = c.in-Some.unit in
    let rest : List g.row.U.Denot = into_iter_items c.next.new.self in
    let whole : c.args.units.items ≡ done ++ x ∷ rest = sym c.into_iter-unit-iterator.ensures.into_iter_gives.0 ∙ (sym c.loop-unit.invariant.rest ∙ ap (λ l. done ++ l) c.in-Some.ensures.steps.0) in
    let evs = c.requires.at.0 in (
      omega arith,
      (
        c.loop-unit.invariant.ready,
        (
          (evs ++ defines means g.row.JMAX done, c.loop-unit.invariant.defined evs c.requires.at.1),
          at_seam (λ u. (means u).source ≡ None) done x rest (subst (All (λ u. (means u).source ≡ None)) whole c.requires.sources),
        ),
      ),
    )

pub loop-unit-preserved : goal.loop-unit-preserved
loop-unit-preserved g c =
    let means = g.U.UnitKind.meaning in
    let done = c.loop-unit.yielded in
    let x = c.in-Some.unit in
    let v = view c.loop-unit.pass in
    let w = view c.define.new.pass in
    let made : Made means g.row.JMAX v w x (Ok true) = subst (Made means g.row.JMAX v w x) (c.in-Ok-true.is ∙ ap Ok c.in-Ok-true.field-0-test) c.define.ensures.made in
    let steps = c.in-Some.ensures.steps in
    record {
      ready = c.define.ensures.ready;
      seats = c.define.ensures.seats ∙ c.loop-unit.invariant.seats;
      defined = λ evs at. defined_more means g.row.JMAX evs done x w (made (evs ++ defines means g.row.JMAX done) (c.loop-unit.invariant.defined evs at));
      rest = given_more done x (into_iter_items c.next.new.self) (into_iter_items c.loop-unit.unit-iterator) (into_iter_items c.into_iter-unit-iterator.result) steps.0 c.loop-unit.invariant.rest;
      left = let short = ap length steps.0 in omega (arith, c.loop-unit.invariant.left, steps.1, short);
      count = omega (arith, c.loop-unit.invariant.count, length_push done x);
    }

pub returns-in-Ok-false-clause-defined : goal.returns-in-Ok-false-clause-defined
returns-in-Ok-false-clause-defined g c =
    let means = g.U.UnitKind.meaning in
    let done = c.loop-unit.yielded in
    let x = c.in-Some.unit in
    let v = view c.loop-unit.pass in
    let w = view c.define.new.pass in
    let rest : List g.row.U.Denot = into_iter_items c.next.new.self in
    let whole : c.args.units.items ≡ done ++ x ∷ rest = sym c.into_iter-unit-iterator.ensures.into_iter_gives.0 ∙ (sym c.loop-unit.invariant.rest ∙ ap (λ l. done ++ l) c.in-Some.ensures.steps.0) in
    let made : Made means g.row.JMAX v w x (Ok false) = subst (Made means g.row.JMAX v w x) (c.in-Ok-false.is ∙ ap Ok c.in-Ok-false.field-0-test) c.define.ensures.made in
    λ evs at. refused_at means g.row.JMAX evs c.args.units.items done rest x c.loop-unit.at w whole c.loop-unit.invariant.count (made (evs ++ defines means g.row.JMAX done) (c.loop-unit.invariant.defined evs at))

pub returns-in-Err-clause-defined : goal.returns-in-Err-clause-defined
returns-in-Err-clause-defined g c =
    let means = g.U.UnitKind.meaning in
    let done = c.loop-unit.yielded in
    let x = c.in-Some.unit in
    let v = view c.loop-unit.pass in
    let w = view c.define.new.pass in
    let rest : List g.row.U.Denot = into_iter_items c.next.new.self in
    let whole : c.args.units.items ≡ done ++ x ∷ rest = sym c.into_iter-unit-iterator.ensures.into_iter_gives.0 ∙ (sym c.loop-unit.invariant.rest ∙ ap (λ l. done ++ l) c.in-Some.ensures.steps.0) in
    let halted : Halted means g.row.JMAX v w (Err c.in-Err.stop) = subst (Halted means g.row.JMAX v w) c.in-Err.is c.define.ensures.stopped in
    λ evs at. stopped_at means g.row.JMAX evs c.args.units.items done rest x c.in-Err.stop w whole (halted (evs ++ defines means g.row.JMAX done) (c.loop-unit.invariant.defined evs at))

pub returns-clause-defined : goal.returns-clause-defined
returns-clause-defined g c =
    let means = g.U.UnitKind.meaning in
    let done = c.loop-unit.yielded in
    let empty : into_iter_items c.loop-unit.unit-iterator ≡ [] = none_left (into_iter_items c.loop-unit.unit-iterator) (sym c.loop-unit.invariant.left ∙ c.in-None.ensures.steps.0) in
    let all : done ≡ c.args.units.items = sym (append-nil done) ∙ (ap (λ l. done ++ l) (sym empty) ∙ (c.loop-unit.invariant.rest ∙ c.into_iter-unit-iterator.ensures.into_iter_gives.0)) in
    λ evs at. subst (λ us. IsAt means g.row.JMAX (evs ++ map define_of (map means us)) (view c.loop-unit.pass)) all (c.loop-unit.invariant.defined evs at)
