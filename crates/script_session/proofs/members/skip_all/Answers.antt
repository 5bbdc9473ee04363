use Rattle.std.proofs.Common.{rules, ◌≡◌, ◌++◌, ◌∷◌, [], length, append-nil, arith, ap, refl, subst, sym, ◌∙◌}
use Rattle.std.proofs.lemmas.List.{length-append}
use Rattle.std.specs.Vec.Iter.{into_iter_items}
use Rattle.script_session.specs.Members.{AllSkipped, CanBegin}
use Rattle.script_session.proofs.Loops.{given_more, none_left}
use Rattle.script_session.proofs.ManyLines.{next_of_all}
use Rattle.script_session.proofs.NewMembers.{none_skipped, skipped_more}
use Rattle.script_session.proofs.members.skip_all.Goals as goal

pub loop-member-init : goal.loop-member-init
loop-member-init g c = record {
  skipped = subst (AllSkipped g.U.UnitKind.meaning g.N.Notify.heard g.N.Notify.number []) (sym c.requires.room.0) (none_skipped g.U.UnitKind.meaning g.N.Notify.heard g.N.Notify.number);
  rest = refl;
  left = search rules;
  capacity = refl;
}

pub skip_lines-requires : goal.skip_lines-requires
skip_lines-requires g c =
    let done = c.loop-member.yielded in
    let x = c.in-Some.member in
    let whole : c.args.members.items ≡ done ++ x ∷ into_iter_items c.next.new.self = sym c.into_iter-member-iterator.ensures.into_iter_gives.0 ∙ (sym c.loop-member.invariant.rest ∙ ap (λ l. done ++ l) c.in-Some.ensures.steps.0) in
    next_of_all (CanBegin g.U.UnitKind.meaning g.N.Notify.heard g.N.Notify.number) c.args.members.items done (into_iter_items c.next.new.self) x whole c.requires.can

pub push_reserved-requires : goal.push_reserved-requires
push_reserved-requires g c =
    let i = c.loop-member.invariant in
    omega (arith, i.skipped.count, i.capacity, c.requires.room.1, ap length i.rest, length-append c.loop-member.yielded (into_iter_items c.loop-member.member-iterator), ap length c.in-Some.ensures.steps.0, ap length c.into_iter-member-iterator.ensures.into_iter_gives.0)

pub loop-member-preserved : goal.loop-member-preserved
loop-member-preserved g c =
    let i = c.loop-member.invariant in
    let done = c.loop-member.yielded in
    let x = c.in-Some.member in
    let steps = c.in-Some.ensures.steps in
    record {
      skipped = subst (AllSkipped g.U.UnitKind.meaning g.N.Notify.heard g.N.Notify.number (done ++ x ∷ [])) (sym c.push_reserved.ensures.items) (skipped_more g.U.UnitKind.meaning g.N.Notify.heard g.N.Notify.number done c.loop-member.skipped.items x c.skip_lines.result i.skipped c.skip_lines.ensures);
      rest = given_more done x (into_iter_items c.next.new.self) (into_iter_items c.loop-member.member-iterator) (into_iter_items c.into_iter-member-iterator.result) steps.0 i.rest;
      left = let short = ap length steps.0 in omega (arith, i.left, steps.1, short);
      capacity = search rules;
    }

pub returns : goal.returns
returns g c =
    let i = c.loop-member.invariant in
    let done = c.loop-member.yielded in
    let empty : into_iter_items c.loop-member.member-iterator ≡ [] = none_left (into_iter_items c.loop-member.member-iterator) (sym i.left ∙ c.in-None.ensures.steps.0) in
    let all : done ≡ c.args.members.items = sym (append-nil done) ∙ (ap (λ l. done ++ l) (sym empty) ∙ (i.rest ∙ c.into_iter-member-iterator.ensures.into_iter_gives.0)) in
    subst (λ l. AllSkipped g.U.UnitKind.meaning g.N.Notify.heard g.N.Notify.number l c.loop-member.skipped.items) all i.skipped
