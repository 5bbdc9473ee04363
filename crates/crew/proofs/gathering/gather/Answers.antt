use Rattle.std.proofs.Common.{rules, arith, ◌≡◌, [], ◌∷◌, ◌++◌, All, length, map, append-nil, sym, ap, subst, ◌∙◌}
use Rattle.std.proofs.lemmas.List.{length_push, map-append}
use Rattle.std.proofs.lemmas.List.Elements.{All-append, All-cons, All-nil}
use Rattle.std.specs.Vec.Iter.{into_iter_items}
use Rattle.turn_lock.specs.Handles.{view}
use Rattle.turn_lock.specs.declared.seat.Seat.{Seat}
use Rattle.crew.specs.Crew.{IsKept}
use Rattle.crew.specs.declared.seating.Member.{Member}
use Rattle.crew.proofs.NewMembers.{given_more, none_left}
use Rattle.crew.proofs.gathering.gather.Goals as goal

pub loop-member-preserved : goal.loop-member-preserved
loop-member-preserved g c =
    let i = c.loop-member.invariant in
    let m = c.in-Some.member in
    let steps = c.in-Some.ensures.steps in
    let duty : Member (Seat g.row.T.Denot g.row.T-Entry.Denot) g.row.D.Denot → g.row.D.Denot = λ x. x.duty in
    record {
      ready = c.take_in.ensures.ready;
      duties = c.push_reserved.ensures.items ∙ (ap (λ l. l ++ c.take_in.result ∷ []) i.duties ∙ (ap (λ d. map duty c.loop-member.yielded ++ d ∷ []) c.take_in.ensures.duty ∙ sym (map-append duty c.loop-member.yielded (m ∷ []))));
      rest = given_more c.loop-member.yielded m (into_iter_items c.next.new.self) (into_iter_items c.loop-member.member-iterator) (into_iter_items c.into_iter-member-iterator.result) steps.0 i.rest;
      left = let short = ap length steps.0 in omega (arith, i.left, steps.1, short);
      few = omega (arith, i.few, ap length c.push_reserved.ensures.items ∙ length_push c.loop-member.duties.items c.take_in.result, length_push c.loop-member.yielded m);
      capacity = search rules;
      kept = λ log said.
          let k = c.take_in.ensures.kept log said in
          let before = i.kept log k.0 in
          let P : Member (Seat g.row.T.Denot g.row.T-Entry.Denot) g.row.D.Denot → Type 0 = λ x. IsKept g.T.Counted.seat_of log (view x.seat) in
          (before.0, All-append P c.loop-member.yielded (m ∷ []) before.1 (All-cons P m [] k.1 (All-nil P)));
    }

pub returns-clause-kept : goal.returns-clause-kept
returns-clause-kept g c log said =
    let done = c.loop-member.yielded in
    let empty : into_iter_items c.loop-member.member-iterator ≡ [] = none_left (into_iter_items c.loop-member.member-iterator) (sym c.loop-member.invariant.left ∙ c.in-None.ensures.steps.0) in
    let all : done ≡ c.args.members.items = sym (append-nil done) ∙ (ap (λ l. done ++ l) (sym empty) ∙ (c.loop-member.invariant.rest ∙ c.into_iter-member-iterator.ensures.into_iter_gives.0)) in
    let k = c.loop-member.invariant.kept log said in
    (k.0, subst (All (λ x. IsKept g.T.Counted.seat_of log (view x.seat))) all k.1)
