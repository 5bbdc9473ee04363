use Rattle.std.proofs.Common.{◌≡◌, ◌+◌, ◌∷◌, [], ◌∙◌, length, ap, sym, subst, arith, length-append}
use Rattle.session_model.specs.declared.rows.Query.{Query}
use Rattle.query_book.specs.Board.{HasRoom, IsWatched}
use Rattle.query_book.specs.Ledger.{lodged, IsCurrent}
use Rattle.query_book.specs.Kept.{ledger, IsKept}
use Rattle.query_book.proofs.Lodging.{same_kept, lodging_kept, lodging_seen, lodged_current, same_seen, if_err, the_new}
use Rattle.query_book.proofs.book.Book.lodge.Goals as goal

pub returns-in_err-room-clause-err : goal.returns-in_err-room-clause-err
returns-in_err-room-clause-err g c = if_err c.from_residual.result (same_seen c.self.inside.rows c.self.inside.board c.room.new.self c.room.ensures.same ∙ c.self.view_is)

pub returns-in_err-add-clause-err : goal.returns-in_err-add-clause-err
returns-in_err-add-clause-err g c = if_err c.from_residual-in_err-add.result (ap (λ x. ledger x c.room.new.self) c.in_err-add.ensures.err ∙ same_seen c.self.inside.rows c.self.inside.board c.room.new.self c.room.ensures.same ∙ c.self.view_is)

pub watch-requires-clause-room : goal.watch-requires-clause-room
watch-requires-clause-room g c =
    let e : c.query.result.now ≡ c.args.q = the_new c.self.inside.rows c.add.new.self c.args.q c.query.result.now c.args.then.now c.len-query.result c.in_ok-add.ensures.ok c.len-query.ensures c.query.ensures in
    subst (λ (x : Query). HasRoom x.matched c.room.new.self) (sym e) (subst (λ m. HasRoom m c.room.new.self) c.as_slice.ensures c.in_ok-room.ensures.room)

pub invariant_of-self-2 : goal.invariant_of-self-2
invariant_of-self-2 g c =
    let e : c.query.result.now ≡ c.args.q = the_new c.self.inside.rows c.add.new.self c.args.q c.query.result.now c.args.then.now c.len-query.result c.in_ok-add.ensures.ok c.len-query.ensures c.query.ensures in
    lodging_kept (g.T.Standing.stand c.args.standing.now) c.len-query.result c.args.q c.args.then.now c.self.inside.rows c.add.new.self c.self.inside.board c.room.new.self c.watch.new.self
    (record { kept = c.self.invariant; number = c.len-query.ensures; rows = c.in_ok-add.ensures.ok; same = c.room.ensures.same; room = subst (λ m. HasRoom m c.room.new.self) c.as_slice.ensures c.in_ok-room.ensures.room; watched = subst (λ (x : Query). IsWatched (g.T.Standing.stand c.args.standing.now) c.len-query.result x c.room.new.self c.watch.new.self) e c.watch.ensures })

pub returns-clause-ok : goal.returns-clause-ok
returns-clause-ok g c =
    let e : c.query.result.now ≡ c.args.q = the_new c.self.inside.rows c.add.new.self c.args.q c.query.result.now c.args.then.now c.len-query.result c.in_ok-add.ensures.ok c.len-query.ensures c.query.ensures in
    lodging_seen (g.T.Standing.stand c.args.standing.now) c.len-query.result c.args.q c.args.then.now c.self.inside.rows c.add.new.self c.self.inside.board c.room.new.self c.watch.new.self
    (record { kept = c.self.invariant; number = c.len-query.ensures; rows = c.in_ok-add.ensures.ok; same = c.room.ensures.same; room = subst (λ m. HasRoom m c.room.new.self) c.as_slice.ensures c.in_ok-room.ensures.room; watched = subst (λ (x : Query). IsWatched (g.T.Standing.stand c.args.standing.now) c.len-query.result x c.room.new.self c.watch.new.self) e c.watch.ensures })
    ∙ ap (λ l. lodged (g.T.Standing.stand c.args.standing.now) c.args.q c.args.then.now l) c.self.view_is

pub returns-clause-current : goal.returns-clause-current
returns-clause-current g c = λ is.
    let e : c.query.result.now ≡ c.args.q = the_new c.self.inside.rows c.add.new.self c.args.q c.query.result.now c.args.then.now c.len-query.result c.in_ok-add.ensures.ok c.len-query.ensures c.query.ensures in
    subst (λ l. IsCurrent (g.T.Standing.stand c.args.standing.now) l) (sym (lodging_seen (g.T.Standing.stand c.args.standing.now) c.len-query.result c.args.q c.args.then.now c.self.inside.rows c.add.new.self c.self.inside.board c.room.new.self c.watch.new.self
    (record { kept = c.self.invariant; number = c.len-query.ensures; rows = c.in_ok-add.ensures.ok; same = c.room.ensures.same; room = subst (λ m. HasRoom m c.room.new.self) c.as_slice.ensures c.in_ok-room.ensures.room; watched = subst (λ (x : Query). IsWatched (g.T.Standing.stand c.args.standing.now) c.len-query.result x c.room.new.self c.watch.new.self) e c.watch.ensures })))
    (lodged_current (g.T.Standing.stand c.args.standing.now) c.args.q c.args.then.now c.self.inside.rows c.self.inside.board c.self.invariant (subst (λ l. IsCurrent (g.T.Standing.stand c.args.standing.now) l) (sym c.self.view_is) is))

pub invariant_of-self : goal.invariant_of-self
invariant_of-self g c = same_kept c.self.inside.rows c.self.inside.board c.room.new.self c.self.invariant c.room.ensures.same

pub invariant_of-self-in_err-add : goal.invariant_of-self-in_err-add
invariant_of-self-in_err-add g c = subst (λ a. IsKept a c.room.new.self) (sym c.in_err-add.ensures.err) (same_kept c.self.inside.rows c.self.inside.board c.room.new.self c.self.invariant c.room.ensures.same)

pub returns-in_err-add-clause-kept : goal.returns-in_err-add-clause-kept
returns-in_err-add-clause-kept g c = if_err c.from_residual-in_err-add.result c.in_err-add.ensures.kept

pub query-requires : goal.query-requires
query-requires g c =
    let more : length c.add.new.self.queries ≡ length c.self.inside.rows.queries + 1 = ap (λ a. length a.queries) c.in_ok-add.ensures.ok ∙ length-append c.self.inside.rows.queries (c.args.q ∷ []) in
    omega (arith, c.len-query.ensures, more)

pub watch-requires-clause-number : goal.watch-requires-clause-number
watch-requires-clause-number g c = c.len-query.ensures ∙ sym (ap length c.room.ensures.same.marks ∙ c.self.invariant.watches.size)

pub returns-clause-taken : goal.returns-clause-taken
returns-clause-taken g c = c.in_ok-add.ensures.taken

pub returns-clause-err : goal.returns-clause-err
returns-clause-err g c = tt

pub returns-clause-kept : goal.returns-clause-kept
returns-clause-kept g c = tt
