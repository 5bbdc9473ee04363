use Rattle.std.proofs.Common.{◌+◌, ◌∷◌, ◌∙◌, refl, drop, get_or, ap, sym, add-one}
use Rattle.query_book.proofs.Parts.{drop_first}
use Rattle.query_book.proofs.Endings.{ending_first, ending_more}
use Rattle.query_book.proofs.rows.Rows.end_all.Goals as goal

pub loop-query-preserved : goal.loop-query-preserved
loop-query-preserved g c =
    ending_more c.args.at (g.T.Standing.stand c.args.standing.now) c.args.met.now (drop c.loop-query.query-index c.args.met.now) (drop (c.loop-query.query-index + 1) c.args.met.now) (get_or c.args.met.now c.loop-query.query-index 0) c.args.self.now c.loop-query.self c.end_one.new.self c.args.fires.now c.loop-query.fires c.end_one.new.fires c.loop-query.invariant
    (drop_first c.args.met.now c.loop-query.query-index 0 c.loop-query-test.true ∙ ap (λ n. get_or c.args.met.now c.loop-query.query-index 0 ∷ drop n c.args.met.now) (sym (add-one c.loop-query.query-index)))
    c.end_one.ensures.rows c.end_one.ensures.fires

pub loop-query-init : goal.loop-query-init
loop-query-init g c = record { rows = refl; told = refl; once = c.requires.once; unended = c.requires.unended }

pub end_one-requires : goal.end_one-requires
end_one-requires g c =
    ending_first c.args.at (g.T.Standing.stand c.args.standing.now) c.args.met.now (drop c.loop-query.query-index c.args.met.now) (drop (c.loop-query.query-index + 1) c.args.met.now) (get_or c.args.met.now c.loop-query.query-index 0) c.args.self.now c.loop-query.self c.args.fires.now c.loop-query.fires c.loop-query.invariant
    (drop_first c.args.met.now c.loop-query.query-index 0 c.loop-query-test.true ∙ ap (λ n. get_or c.args.met.now c.loop-query.query-index 0 ∷ drop n c.args.met.now) (sym (add-one c.loop-query.query-index)))
