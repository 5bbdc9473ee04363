use Rattle.std.proofs.Common.{◌≡◌, ◌≢◌, Some, None, ◌<◌, ◌≤◌, ◌∙◌, length, get_or, refl, ap, sym, subst}
use Rattle.std.specs.Prelude.{slice_get, IfOk, OnErr}
use Rattle.std.proofs.lemmas.Option.{slice_get_read}
use Rattle.query_book.specs.declared.ends.Collected.{Collected}
use Rattle.query_book.specs.Ends.{collected_of}
use Rattle.query_book.specs.States.{end_of}
use Rattle.query_book.proofs.Filling.{mapped_past, err_so}
use Rattle.list_laws.proofs.Lists.{mapped_some}
use Rattle.query_book.proofs.rows.Rows.collect.Goals as goal

pub returns-in-None-clause-collected : goal.returns-in-None-clause-collected
returns-in-None-clause-collected g c =
    let past : length c.self.inside.states.items ≤ c.args.q.0 = subst (λ l. length l ≤ c.args.q.0) c.deref.ensures.value c.in-None.ensures.lookup.3 in
    ap collected_of (sym (mapped_past end_of c.self.inside.states.items c.args.q.0 past) ∙ ap (λ a. slice_get a.ends c.args.q.0) c.self.view_is)

pub returns-in-None-clause-ended : goal.returns-in-None-clause-ended
returns-in-None-clause-ended g c = tt

pub returns-in-Some-clause-collected : goal.returns-in-Some-clause-collected
returns-in-Some-clause-collected g c =
    let less : c.args.q.0 < length c.self.inside.states.items = subst (λ l. c.args.q.0 < length l) c.deref.ensures.value c.in-Some.ensures.lookup.3.0 in
    let value : c.in-Some.state.now ≡ get_or c.self.inside.states.items c.args.q.0 c.in-Some.state.now = subst (λ l. c.in-Some.state.now ≡ get_or l c.args.q.0 c.in-Some.state.now) c.deref.ensures.value c.in-Some.ensures.lookup.1 in
    subst (λ o. IfOk c.copy_state.result (λ (x : Collected). x ≡ collected_of o))
    (sym (mapped_some end_of c.self.inside.states.items c.args.q.0 c.in-Some.state.now (slice_get_read c.self.inside.states.items (length c.self.inside.states.items) c.args.q.0 c.in-Some.state.now refl less value))
    ∙ ap (λ a. slice_get a.ends c.args.q.0) c.self.view_is)
    c.copy_state.ensures.collected

pub returns-in-Some-clause-ended : goal.returns-in-Some-clause-ended
returns-in-Some-clause-ended g c =
    let less : c.args.q.0 < length c.self.inside.states.items = subst (λ l. c.args.q.0 < length l) c.deref.ensures.value c.in-Some.ensures.lookup.3.0 in
    let value : c.in-Some.state.now ≡ get_or c.self.inside.states.items c.args.q.0 c.in-Some.state.now = subst (λ l. c.in-Some.state.now ≡ get_or l c.args.q.0 c.in-Some.state.now) c.deref.ensures.value c.in-Some.ensures.lookup.1 in
    subst (λ o. OnErr c.copy_state.result (o ≢ Some None))
    (sym (mapped_some end_of c.self.inside.states.items c.args.q.0 c.in-Some.state.now (slice_get_read c.self.inside.states.items (length c.self.inside.states.items) c.args.q.0 c.in-Some.state.now refl less value))
    ∙ ap (λ a. slice_get a.ends c.args.q.0) c.self.view_is)
    (err_so c.copy_state.result (λ (apart : end_of c.in-Some.state.now ≢ None) (same : Some (end_of c.in-Some.state.now) ≡ Some None). apart (let e : end_of c.in-Some.state.now ≡ None = cc in e)) c.copy_state.ensures.ended)
