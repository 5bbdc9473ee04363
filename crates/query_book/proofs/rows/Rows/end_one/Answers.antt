use Rattle.std.proofs.Common.{◌≡◌, ◌<◌, Some, None, ap, ◌∙◌, sym, refl, length, map, ◌++◌, arith}
use Rattle.std.specs.Prelude.{slice_get}
use Rattle.std.proofs.lemmas.Option.{slice_get_read, slice_get_within}
use Rattle.query_book.specs.Rows.{ended_one, fired_one}
use Rattle.query_book.specs.States.{end_of}
use Rattle.query_book.specs.Stands.{ending}
use Rattle.query_book.proofs.Endings.{open_state, can_end, sound_ended, due_fits, ended_same, fired_same}
use Rattle.query_book.proofs.rows.Rows.end_one.Goals as goal

pub end_state-end-requires : goal.end_state-end-requires
end_state-end-requires g c =
    let is : slice_get (map end_of c.self.inside.states.items) c.args.query ≡ Some None = ap (λ a. slice_get a.ends c.args.query) c.self.view_is ∙ c.requires in
    let o = open_state c.self.inside.states.items c.args.query is in
    let less : c.args.query < length c.self.inside.states.items = slice_get_within c.self.inside.states.items c.args.query o.0 o.1 in
    let here : slice_get c.self.inside.states.items c.args.query ≡ Some c.index_mut.result.now = slice_get_read c.self.inside.states.items (length c.self.inside.states.items) c.args.query c.index_mut.result.now refl less c.index_mut.ensures.value in
    let q : slice_get c.self.inside.queries.items c.args.query ≡ Some c.index-q.result.now = slice_get_read c.self.inside.queries.items (length c.self.inside.queries.items) c.args.query c.index-q.result.now refl (omega (arith, less, c.self.invariant.states_of)) c.index-q.ensures in
    can_end c.self.inside.queries.items c.self.inside.states.items c.args.query c.index-q.result.now c.index_mut.result.now c.self.invariant.rooms q here
    (let e : Some o.0 ≡ Some c.index_mut.result.now = sym o.1 ∙ here in let f : o.0 ≡ c.index_mut.result.now = cc in ap end_of (sym f) ∙ o.2)

pub add_due-requires : goal.add_due-requires
add_due-requires g c =
    let is : slice_get (map end_of c.self.inside.states.items) c.args.query ≡ Some None = ap (λ a. slice_get a.ends c.args.query) c.self.view_is ∙ c.requires in
    due_fits c.self.inside.queries.items c.self.inside.states.items c.self.inside.armed.items _ _ _ c.args.query (record { at = 0; end = ending (g.T.Standing.stand c.args.standing.now) c.index-q.result.now }) c.self.invariant is

pub index_mut-requires-2 : goal.index_mut-requires-2
index_mut-requires-2 g c =
    let is : slice_get (map end_of c.self.inside.states.items) c.args.query ≡ Some None = ap (λ a. slice_get a.ends c.args.query) c.self.view_is ∙ c.requires in
    let o = open_state c.self.inside.states.items c.args.query is in
    let less : c.args.query < length c.self.inside.states.items = slice_get_within c.self.inside.states.items c.args.query o.0 o.1 in
    omega (arith, less, c.self.invariant.states_of, c.self.invariant.armed_of, c.self.inside.armed.ok.0)

pub invariant_of-self : goal.invariant_of-self
invariant_of-self g c =
    let is : slice_get (map end_of c.self.inside.states.items) c.args.query ≡ Some None = ap (λ a. slice_get a.ends c.args.query) c.self.view_is ∙ c.requires in
    sound_ended c.self.inside.queries.items c.self.inside.states.items c.self.inside.armed.items _ _ _ _ _ c.args.query c.end_state-end.new.state c.fire.new.armed _ c.self.invariant is c.end_state-end.ensures.state c.fire.ensures.armed c.add_due.ensures.len c.add_due.ensures.room

pub returns-clause-rows : goal.returns-clause-rows
returns-clause-rows g c =
    let is : slice_get (map end_of c.self.inside.states.items) c.args.query ≡ Some None = ap (λ a. slice_get a.ends c.args.query) c.self.view_is ∙ c.requires in
    let o = open_state c.self.inside.states.items c.args.query is in
    let less : c.args.query < length c.self.inside.states.items = slice_get_within c.self.inside.states.items c.args.query o.0 o.1 in
    let q : slice_get c.self.inside.queries.items c.args.query ≡ Some c.index-q.result.now = slice_get_read c.self.inside.queries.items (length c.self.inside.queries.items) c.args.query c.index-q.result.now refl (omega (arith, less, c.self.invariant.states_of)) c.index-q.ensures in
    ended_same c.args.at (g.T.Standing.stand c.args.standing.now) c.args.query (record { queries = c.self.inside.queries.items; ends = map end_of c.self.inside.states.items; armed = c.self.inside.armed.items; due = c.self.inside.due.items })
    c.index-q.result.now c.self.inside.states.items c.end_state-end.new.state c.fire.new.armed c.add_due.new.due.items q refl c.end_state-end.ensures.state c.fire.ensures.armed c.add_due.ensures.due
    ∙ ap (λ a. ended_one c.args.at (g.T.Standing.stand c.args.standing.now) c.args.query a) c.self.view_is

pub returns-clause-fires : goal.returns-clause-fires
returns-clause-fires g c =
    let is : slice_get (map end_of c.self.inside.states.items) c.args.query ≡ Some None = ap (λ a. slice_get a.ends c.args.query) c.self.view_is ∙ c.requires in
    let o = open_state c.self.inside.states.items c.args.query is in
    let less : c.args.query < length c.self.inside.states.items = slice_get_within c.self.inside.states.items c.args.query o.0 o.1 in
    let q : slice_get c.self.inside.queries.items c.args.query ≡ Some c.index-q.result.now = slice_get_read c.self.inside.queries.items (length c.self.inside.queries.items) c.args.query c.index-q.result.now refl (omega (arith, less, c.self.invariant.states_of)) c.index-q.ensures in
    let a : slice_get c.self.inside.armed.items c.args.query ≡ Some c.index_mut-2.result.now = slice_get_read c.self.inside.armed.items (length c.self.inside.armed.items) c.args.query c.index_mut-2.result.now refl (omega (arith, less, c.self.invariant.states_of, c.self.invariant.armed_of)) c.index_mut-2.ensures.value in
    fired_same c.args.at (g.T.Standing.stand c.args.standing.now) c.args.query (record { queries = c.self.inside.queries.items; ends = map end_of c.self.inside.states.items; armed = c.self.inside.armed.items; due = c.self.inside.due.items })
    c.index-q.result.now c.index_mut-2.result.now c.args.fires.now c.fire.new.fires _ q a (ap (λ e. record { query = record { 0 = c.args.query }; end = e }) c.end_state-end.ensures.told) c.fire.ensures.fires
    ∙ ap (λ a. c.args.fires.now ++ fired_one c.args.at (g.T.Standing.stand c.args.standing.now) c.args.query a) c.self.view_is

pub index-q-requires : goal.index-q-requires
index-q-requires g c =
    let is : slice_get (map end_of c.self.inside.states.items) c.args.query ≡ Some None = ap (λ a. slice_get a.ends c.args.query) c.self.view_is ∙ c.requires in
    let o = open_state c.self.inside.states.items c.args.query is in
    let less : c.args.query < length c.self.inside.states.items = slice_get_within c.self.inside.states.items c.args.query o.0 o.1 in
    omega (arith, less, c.self.invariant.states_of, c.self.inside.queries.ok.0)

pub index_mut-requires : goal.index_mut-requires
index_mut-requires g c =
    let is : slice_get (map end_of c.self.inside.states.items) c.args.query ≡ Some None = ap (λ a. slice_get a.ends c.args.query) c.self.view_is ∙ c.requires in
    let o = open_state c.self.inside.states.items c.args.query is in
    let less : c.args.query < length c.self.inside.states.items = slice_get_within c.self.inside.states.items c.args.query o.0 o.1 in
    omega (arith, less, c.self.inside.states.ok.0)
