use Rattle.std.proofs.Common.{◌+◌, ◌∷◌, None, get_or, ◌∙◌, drop, ap, sym, add-one}
use Rattle.query_book.proofs.Parts.{drop_first}
use Rattle.query_book.proofs.Listing.{listing_start, listing_there, listing_room, listing_more}
use Rattle.query_book.proofs.board.list_all.Goals as goal

pub loop-found-init : goal.loop-found-init
loop-found-init c = listing_start c.args.query c.args.matched.now c.args.lists.now.lists c.args.lists.now.spare c.requires.there c.requires.room

pub list_one-requires-clause-there : goal.list_one-requires-clause-there
list_one-requires-clause-there c = listing_there c.args.query c.args.matched.now (drop c.loop-found.found-index c.args.matched.now) (drop (c.loop-found.found-index + 1) c.args.matched.now) (get_or c.args.matched.now c.loop-found.found-index None) c.args.lists.now.lists c.loop-found.lists.lists c.loop-found.lists.spare c.loop-found.invariant (drop_first c.args.matched.now c.loop-found.found-index None c.loop-found-test.true ∙ ap (λ n. get_or c.args.matched.now c.loop-found.found-index None ∷ drop n c.args.matched.now) (sym (add-one c.loop-found.found-index)))

pub list_one-requires-clause-room : goal.list_one-requires-clause-room
list_one-requires-clause-room c = listing_room c.args.query c.args.matched.now (drop c.loop-found.found-index c.args.matched.now) (drop (c.loop-found.found-index + 1) c.args.matched.now) (get_or c.args.matched.now c.loop-found.found-index None) c.args.lists.now.lists c.loop-found.lists.lists c.loop-found.lists.spare c.loop-found.invariant (drop_first c.args.matched.now c.loop-found.found-index None c.loop-found-test.true ∙ ap (λ n. get_or c.args.matched.now c.loop-found.found-index None ∷ drop n c.args.matched.now) (sym (add-one c.loop-found.found-index)))

pub loop-found-preserved : goal.loop-found-preserved
loop-found-preserved c = listing_more c.args.query c.args.matched.now (drop c.loop-found.found-index c.args.matched.now) (drop (c.loop-found.found-index + 1) c.args.matched.now) (get_or c.args.matched.now c.loop-found.found-index None) c.args.lists.now.lists c.loop-found.lists.lists c.list_one.new.lists.lists c.loop-found.lists.spare c.list_one.new.lists.spare c.loop-found.invariant (drop_first c.args.matched.now c.loop-found.found-index None c.loop-found-test.true ∙ ap (λ n. get_or c.args.matched.now c.loop-found.found-index None ∷ drop n c.args.matched.now) (sym (add-one c.loop-found.found-index))) c.list_one.ensures.listed c.list_one.ensures.spare
