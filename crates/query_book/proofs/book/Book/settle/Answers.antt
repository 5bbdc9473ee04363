use Rattle.std.proofs.Common.{◌≡◌, ◌∙◌, ◌≤◌, ◌++◌, ap, sym, refl, subst, arith}
use Rattle.std.specs.List.Sorted.{IsNonDecreasing}
use Rattle.query_book.specs.Counts.{count}
use Rattle.query_book.specs.Rows.{ended_all, fired_all}
use Rattle.query_book.specs.Ledger.{IsTold, settled, fires_of}
use Rattle.query_book.specs.declared.board.Board.{Board}
use Rattle.query_book.proofs.Hearing.{both_same}
use Rattle.query_book.proofs.Rising.{rising}
use Rattle.query_book.proofs.Settling.{IsSettling}
use Rattle.query_book.proofs.Finishing.{IsFinished, listed_is_open, finished_kept, finished_seen, settling_is}
use Rattle.query_book.proofs.book.Book.settle.Goals as goal

pub end_all-requires-clause-once : goal.end_all-requires-clause-once
end_all-requires-clause-once g c = λ k. subst (λ l. count k l ≤ 1) (sym c.met.ensures) (c.sort.ensures.once k)

pub end_all-requires-clause-unended : goal.end_all-requires-clause-unended
end_all-requires-clause-unended g c = λ k pos.
    let t : IsSettling (g.T.Standing.stand c.args.standing.now) c.args.changed.now c.self.inside.rows c.self.inside.board c.tell_all.new.self = record { kept = c.self.invariant; heard = c.tell_all.ensures c.self.inside.rows.queries c.self.invariant.watches; told = subst (λ l. IsTold (g.T.Standing.stand c.args.standing.now) c.args.changed.now l) (sym c.self.view_is) c.requires } in
    listed_is_open (g.T.Standing.stand c.args.standing.now) c.args.changed.now c.self.inside.rows c.self.inside.board c.tell_all.new.self k t
    (let e : count k c.met.result.now ≡ count k c.tell_all.new.self.marks.met = ap (λ l. count k l) c.met.ensures ∙ c.sort.ensures.met k in omega (arith, e, pos))

pub invariant_of-self : goal.invariant_of-self
invariant_of-self g c =
    let new : Board = record { resolved = c.tell_all.new.self.resolved; ready = c.tell_all.new.self.ready; all = c.tell_all.new.self.all; marks = c.clear.new.self } in
    let t : IsSettling (g.T.Standing.stand c.args.standing.now) c.args.changed.now c.self.inside.rows c.self.inside.board c.tell_all.new.self = record { kept = c.self.invariant; heard = c.tell_all.ensures c.self.inside.rows.queries c.self.invariant.watches; told = subst (λ l. IsTold (g.T.Standing.stand c.args.standing.now) c.args.changed.now l) (sym c.self.view_is) c.requires } in
    let f : IsFinished c.args.at (g.T.Standing.stand c.args.standing.now) c.args.changed.now c.self.inside.rows c.end_all.new.self c.self.inside.board c.tell_all.new.self new c.met.result.now = record {
      settling_of = t;
      counts = λ k. ap (λ l. count k l) c.met.ensures ∙ c.sort.ensures.met k;
      once = λ k. subst (λ l. count k l ≤ 1) (sym c.met.ensures) (c.sort.ensures.once k);
      rows = c.end_all.ensures.rows;
      waits = both_same c.tell_all.new.self new refl refl;
      all = refl;
      marks = c.clear.ensures.marks ∙ c.sort.ensures.marks;
      none = c.clear.ensures.met;
    } in
    finished_kept c.args.at (g.T.Standing.stand c.args.standing.now) c.args.changed.now c.self.inside.rows c.end_all.new.self c.self.inside.board c.tell_all.new.self new c.met.result.now f

pub returns-clause-settled : goal.returns-clause-settled
returns-clause-settled g c =
    let new : Board = record { resolved = c.tell_all.new.self.resolved; ready = c.tell_all.new.self.ready; all = c.tell_all.new.self.all; marks = c.clear.new.self } in
    let t : IsSettling (g.T.Standing.stand c.args.standing.now) c.args.changed.now c.self.inside.rows c.self.inside.board c.tell_all.new.self = record { kept = c.self.invariant; heard = c.tell_all.ensures c.self.inside.rows.queries c.self.invariant.watches; told = subst (λ l. IsTold (g.T.Standing.stand c.args.standing.now) c.args.changed.now l) (sym c.self.view_is) c.requires } in
    let f : IsFinished c.args.at (g.T.Standing.stand c.args.standing.now) c.args.changed.now c.self.inside.rows c.end_all.new.self c.self.inside.board c.tell_all.new.self new c.met.result.now = record {
      settling_of = t;
      counts = λ k. ap (λ l. count k l) c.met.ensures ∙ c.sort.ensures.met k;
      once = λ k. subst (λ l. count k l ≤ 1) (sym c.met.ensures) (c.sort.ensures.once k);
      rows = c.end_all.ensures.rows;
      waits = both_same c.tell_all.new.self new refl refl;
      all = refl;
      marks = c.clear.ensures.marks ∙ c.sort.ensures.marks;
      none = c.clear.ensures.met;
    } in
    c.end_all.ensures.rows
    ∙ ap (λ ks. ended_all c.args.at (g.T.Standing.stand c.args.standing.now) ks c.self.inside.rows) (settling_is c.args.at (g.T.Standing.stand c.args.standing.now) c.args.changed.now c.self.inside.rows c.end_all.new.self c.self.inside.board c.tell_all.new.self new c.met.result.now f (rising c.met.result.now (subst IsNonDecreasing (sym c.met.ensures) c.sort.ensures.sorted)))
    ∙ ap (λ l. settled c.args.at (g.T.Standing.stand c.args.standing.now) l) c.self.view_is

pub returns-clause-seen : goal.returns-clause-seen
returns-clause-seen g c =
    let new : Board = record { resolved = c.tell_all.new.self.resolved; ready = c.tell_all.new.self.ready; all = c.tell_all.new.self.all; marks = c.clear.new.self } in
    let t : IsSettling (g.T.Standing.stand c.args.standing.now) c.args.changed.now c.self.inside.rows c.self.inside.board c.tell_all.new.self = record { kept = c.self.invariant; heard = c.tell_all.ensures c.self.inside.rows.queries c.self.invariant.watches; told = subst (λ l. IsTold (g.T.Standing.stand c.args.standing.now) c.args.changed.now l) (sym c.self.view_is) c.requires } in
    let f : IsFinished c.args.at (g.T.Standing.stand c.args.standing.now) c.args.changed.now c.self.inside.rows c.end_all.new.self c.self.inside.board c.tell_all.new.self new c.met.result.now = record {
      settling_of = t;
      counts = λ k. ap (λ l. count k l) c.met.ensures ∙ c.sort.ensures.met k;
      once = λ k. subst (λ l. count k l ≤ 1) (sym c.met.ensures) (c.sort.ensures.once k);
      rows = c.end_all.ensures.rows;
      waits = both_same c.tell_all.new.self new refl refl;
      all = refl;
      marks = c.clear.ensures.marks ∙ c.sort.ensures.marks;
      none = c.clear.ensures.met;
    } in
    finished_seen c.args.at (g.T.Standing.stand c.args.standing.now) c.args.changed.now c.self.inside.rows c.end_all.new.self c.self.inside.board c.tell_all.new.self new c.met.result.now f

pub returns-clause-fires : goal.returns-clause-fires
returns-clause-fires g c =
    let new : Board = record { resolved = c.tell_all.new.self.resolved; ready = c.tell_all.new.self.ready; all = c.tell_all.new.self.all; marks = c.clear.new.self } in
    let t : IsSettling (g.T.Standing.stand c.args.standing.now) c.args.changed.now c.self.inside.rows c.self.inside.board c.tell_all.new.self = record { kept = c.self.invariant; heard = c.tell_all.ensures c.self.inside.rows.queries c.self.invariant.watches; told = subst (λ l. IsTold (g.T.Standing.stand c.args.standing.now) c.args.changed.now l) (sym c.self.view_is) c.requires } in
    let f : IsFinished c.args.at (g.T.Standing.stand c.args.standing.now) c.args.changed.now c.self.inside.rows c.end_all.new.self c.self.inside.board c.tell_all.new.self new c.met.result.now = record {
      settling_of = t;
      counts = λ k. ap (λ l. count k l) c.met.ensures ∙ c.sort.ensures.met k;
      once = λ k. subst (λ l. count k l ≤ 1) (sym c.met.ensures) (c.sort.ensures.once k);
      rows = c.end_all.ensures.rows;
      waits = both_same c.tell_all.new.self new refl refl;
      all = refl;
      marks = c.clear.ensures.marks ∙ c.sort.ensures.marks;
      none = c.clear.ensures.met;
    } in
    c.end_all.ensures.fires ∙ ap (λ l. l ++ fired_all c.args.at (g.T.Standing.stand c.args.standing.now) c.met.result.now c.self.inside.rows) c.new-fires.ensures
    ∙ ap (λ ks. fired_all c.args.at (g.T.Standing.stand c.args.standing.now) ks c.self.inside.rows) (settling_is c.args.at (g.T.Standing.stand c.args.standing.now) c.args.changed.now c.self.inside.rows c.end_all.new.self c.self.inside.board c.tell_all.new.self new c.met.result.now f (rising c.met.result.now (subst IsNonDecreasing (sym c.met.ensures) c.sort.ensures.sorted)))
    ∙ ap (λ l. fires_of c.args.at (g.T.Standing.stand c.args.standing.now) l) c.self.view_is
