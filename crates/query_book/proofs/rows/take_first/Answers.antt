use Rattle.std.proofs.Common.{◌≡◌, ◌<◌, ◌∙◌, Some, None, ap, sym, subst, refl, length, set, suc, add-one, arith}
use Rattle.std.specs.Prelude.{slice_get}
use Rattle.std.proofs.lemmas.Option.{slice_get_read}
use Rattle.query_book.specs.Rows.{first_armed, without_first}
use Rattle.query_book.specs.States.{NoneBefore}
use Rattle.query_book.proofs.Endings.{none_taken, first_here, all_none, none_more, set_same}
use Rattle.query_book.proofs.rows.take_first.Goals as goal

pub returns-in-Some-clause-first : goal.returns-in-Some-clause-first
returns-in-Some-clause-first g c =
    let less : c.loop-at.at < length c.loop-at.armed.items = omega (arith, c.loop-at-test.true, c.loop-at.armed.ok.0, c.len-at-end.ensures, ap length c.loop-at.invariant.same, c.args.armed.now.ok.0) in
    let here : slice_get c.loop-at.armed.items c.loop-at.at ≡ Some (Some c.in-Some.first) = slice_get_read c.loop-at.armed.items (length c.loop-at.armed.items) c.loop-at.at c.index_mut.result.now refl less c.index_mut.ensures.value ∙ ap (λ o. Some o) (sym c.take.ensures.value ∙ c.in-Some.is) in
    (first_here c.loop-at.at c.loop-at.armed.items c.in-Some.first c.loop-at.invariant.none here).0 ∙ ap first_armed c.loop-at.invariant.same

pub returns-in-Some-clause-rest : goal.returns-in-Some-clause-rest
returns-in-Some-clause-rest g c =
    let less : c.loop-at.at < length c.loop-at.armed.items = omega (arith, c.loop-at-test.true, c.loop-at.armed.ok.0, c.len-at-end.ensures, ap length c.loop-at.invariant.same, c.args.armed.now.ok.0) in
    let here : slice_get c.loop-at.armed.items c.loop-at.at ≡ Some (Some c.in-Some.first) = slice_get_read c.loop-at.armed.items (length c.loop-at.armed.items) c.loop-at.at c.index_mut.result.now refl less c.index_mut.ensures.value ∙ ap (λ o. Some o) (sym c.take.ensures.value ∙ c.in-Some.is) in
    ap (λ o. set c.loop-at.armed.items c.loop-at.at o) c.take.ensures.after ∙ (first_here c.loop-at.at c.loop-at.armed.items c.in-Some.first c.loop-at.invariant.none here).1 ∙ ap without_first c.loop-at.invariant.same

pub loop-at-preserved : goal.loop-at-preserved
loop-at-preserved g c =
    let less : c.loop-at.at < length c.loop-at.armed.items = omega (arith, c.loop-at-test.true, c.loop-at.armed.ok.0, c.len-at-end.ensures, ap length c.loop-at.invariant.same, c.args.armed.now.ok.0) in
    let here : slice_get c.loop-at.armed.items c.loop-at.at ≡ Some None = slice_get_read c.loop-at.armed.items (length c.loop-at.armed.items) c.loop-at.at c.index_mut.result.now refl less c.index_mut.ensures.value ∙ ap (λ o. Some o) (sym c.take.ensures.value ∙ c.in-None.is) in
    let still = ap (λ o. set c.loop-at.armed.items c.loop-at.at o) c.take.ensures.after ∙ set_same c.loop-at.armed.items c.loop-at.at None here in
    record {
      few = omega (arith, less, ap length still);
      same = still ∙ c.loop-at.invariant.same;
      here = refl;
      none = subst (λ n. NoneBefore n (set c.loop-at.armed.items c.loop-at.at c.take.new.self)) (sym (add-one c.loop-at.at)) (subst (λ l. NoneBefore (suc c.loop-at.at) l) (sym still) (none_more c.loop-at.at c.loop-at.armed.items c.loop-at.invariant.none here));
    }

pub returns-clause-first : goal.returns-clause-first
returns-clause-first g c = (all_none c.loop-at.at c.loop-at.armed.items (omega (arith, c.loop-at-test.false, c.loop-at.armed.ok.0, c.len-at-end.ensures, ap length c.loop-at.invariant.same, c.args.armed.now.ok.0)) c.loop-at.invariant.none).0 ∙ ap first_armed c.loop-at.invariant.same

pub returns-clause-rest : goal.returns-clause-rest
returns-clause-rest g c = (all_none c.loop-at.at c.loop-at.armed.items (omega (arith, c.loop-at-test.false, c.loop-at.armed.ok.0, c.len-at-end.ensures, ap length c.loop-at.invariant.same, c.args.armed.now.ok.0)) c.loop-at.invariant.none).1 ∙ ap without_first c.loop-at.invariant.same

pub returns-in-Some-clause-below : goal.returns-in-Some-clause-below
returns-in-Some-clause-below g c =
    subst (λ n. NoneBefore n (set c.loop-at.armed.items c.loop-at.at c.take.new.self)) (sym (add-one c.loop-at.at))
    (subst (λ o. NoneBefore (suc c.loop-at.at) (set c.loop-at.armed.items c.loop-at.at o)) (sym c.take.ensures.after) (none_taken c.loop-at.at c.loop-at.armed.items c.loop-at.invariant.none))
