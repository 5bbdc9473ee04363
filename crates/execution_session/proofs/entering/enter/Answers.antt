use Rattle.std.proofs.Common.{◌≡◌, ◌<◌, ◌∷◌, ◌++◌, [], length, ap, sym, subst, ◌∙◌, rules}
use Rattle.std.specs.Vec.{vec_len, vec_capacity}
use Rattle.session_model.specs.Query.{stand_at}
use Rattle.session_model.specs.State.{state, plain_entry, plain_history}
use Rattle.session_model.specs.Change.{settled}
use Rattle.query_book.specs.Ledger.{IsTold, IsSeen}
use Rattle.session_parts.specs.Dues.{WaitsOpen, WaitsOwn}
use Rattle.session_parts.specs.Ends.{noted}
use Rattle.session_parts.specs.Parts.{AreParts}
use Rattle.session_steps.specs.Rest.{IsAtRest}
use Rattle.session_steps.specs.Fires.{AreFires}
use Rattle.session_steps.proofs.Declared.{plain_length, plain_push, rows_after, entering, rested, told_by, place_left, fires_are}
use Rattle.execution_session.proofs.entering.enter.Goals as goal

pub push_reserved-requires : goal.push_reserved-requires
push_reserved-requires g c =
    let len : vec_len c.args.journal.now ≡ length c.args.journal.now.items = search rules in
    subst (λ n. n < vec_capacity c.args.journal.now) (sym len) (place_left g.U.UnitKind.meaning g.row.JMAX c.args.journal.now.items _ c.args.entry c.args.parts.now c.requires.1.1.1.1)

pub settle-requires : goal.settle-requires
settle-requires g c κs within =
    let can = c.requires.1.1.1.1 in
    let same = sym c.requires.1.1.1.0 in
    let step = entering g.U.UnitKind.meaning g.row.JMAX c.args.journal.now.items _ c.args.entry c.args.parts.now can in (
      within.0,
      (
        within.1,
        (
          subst (AreParts g.U.UnitKind.meaning c.args.parts.now) same can.goes.parts,
          (
            can.goes.queries ∙ ap (λ m. m.queries) same,
            (
              step.counted ∙ ap (λ m. length m.queries) same,
              (
                subst (λ m. IsTold (stand_at m.rows) c.args.parts.now.graph.changed c.args.parts.now.book) same step.told,
                (
                  subst (λ m. WaitsOpen m c.args.parts.now.book.ends) same step.waits,
                  (
                    subst (λ m. WaitsOwn m.queries m.units) same step.own,
                    step.due,
                  ),
                ),
              ),
            ),
          ),
        ),
      ),
    )

pub returns-clause-rest : goal.returns-clause-rest
returns-clause-rest g c =
    let can = c.requires.1.1.1.1 in
    let same = c.requires.1.1.1.0 in
    let h = c.args.journal.now.items in
    let e = c.args.entry in
    let told = c.settle.ensures in
    subst (λ es. IsAtRest g.U.UnitKind.meaning g.row.JMAX c.settle.new.self es (vec_capacity c.push_reserved.new.self)) (sym c.push_reserved.ensures.items)
    (rested g.U.UnitKind.meaning g.row.JMAX h (vec_capacity c.args.journal.now) (vec_capacity c.push_reserved.new.self) e c.args.parts.now c.settle.new.self c.entry_count-at.result can c.push_reserved.ensures.capacity (search rules) (record {
      parts = subst (λ m. AreParts g.U.UnitKind.meaning c.settle.new.self (settled m)) same told.parts;
      ends = told.ends ∙ ap (λ m. noted (record m { entries = c.entry_count-at.result }) m.queries c.args.parts.now.book.ends) same;
      queries = told.queries ∙ ap (λ m. m.queries) same;
      due = told.handed_out;
      seen = subst (λ m. IsSeen (stand_at m.rows) c.settle.new.self.book) same told.seen;
      told = told.told;
    }))

pub returns-clause-fires : goal.returns-clause-fires
returns-clause-fires g c =
    let can = c.requires.1.1.1.1 in
    let same = c.requires.1.1.1.0 in
    let h = c.args.journal.now.items in
    let e = c.args.entry in
    let told = c.settle.ensures in
    let count : c.entry_count-at.result ≡ length (h ++ e ∷ []) = search rules in
    let rest = subst (λ es. IsAtRest g.U.UnitKind.meaning g.row.JMAX c.settle.new.self es (vec_capacity c.push_reserved.new.self)) c.push_reserved.ensures.items (returns-clause-rest g c) in
    subst (λ es. AreFires (plain_history g.U.UnitKind.meaning es) c.args.parts.now.book.armed c.settle.new.self.book.armed c.settle.result) (sym c.push_reserved.ensures.items)
    (subst (λ past. AreFires past c.args.parts.now.book.armed c.settle.new.self.book.armed c.settle.result) (sym (plain_push g.U.UnitKind.meaning h e))
    (fires_are (plain_history g.U.UnitKind.meaning h) (plain_entry g.U.UnitKind.meaning e) g.m.rows c.args.parts.now.book c.settle.new.self.book c.entry_count-at.result c.settle.result
    (told_by g.U.UnitKind.meaning g.row.JMAX h (vec_capacity c.args.journal.now) _ e c.args.parts.now c.settle.new.self c.entry_count-at.result can count (told.ends ∙ ap (λ m. noted (record m { entries = c.entry_count-at.result }) m.queries c.args.parts.now.book.ends) same) rest)
    (count ∙ (sym (plain_length g.U.UnitKind.meaning (h ++ e ∷ [])) ∙ ap length (plain_push g.U.UnitKind.meaning h e)))
    (ap (λ m. m.rows) same ∙ (sym (rows_after g.U.UnitKind.meaning h e) ∙ ap (λ past. (state past).rows) (plain_push g.U.UnitKind.meaning h e)))
    told.fires told.armed))
