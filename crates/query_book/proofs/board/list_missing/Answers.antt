use Rattle.std.proofs.Common.{◌≡◌, ◌+◌, ◌∷◌, ◌∙◌, Option, None, get_or, length, map, drop, suc, ap, sym, add-one, arith}
use Rattle.std.specs.Prelude.{is_some}
use Rattle.std.specs.List.{filter_map}
use Rattle.std.proofs.lemmas.List.{length-map}
use Rattle.orc_ids.specs.declared.ids.InstId.{InstId}
use Rattle.query_book.specs.Marks.{one_if}
use Rattle.query_book.specs.Stands.{missing_of}
use Rattle.query_book.proofs.Parts.{drop_first}
use Rattle.query_book.proofs.Listing.{listing_start, listing_there, listing_room, listing_more, has_missing, length_missing, byte_of, one_most}
use Rattle.query_book.proofs.board.list_missing.Goals as goal

pub loop-found-init : goal.loop-found-init
loop-found-init g c = record {
  listing = listing_start c.args.query (map (missing_of (g.T.Standing.stand c.args.standing.now) c.args.level) c.args.matched.now) c.args.lists.now.lists c.args.lists.now.spare
      (has_missing (g.T.Standing.stand c.args.standing.now) c.args.level c.args.lists.now.lists c.args.matched.now c.requires.there)
      (omega (arith, c.requires.room, length-map c.args.matched.now (missing_of (g.T.Standing.stand c.args.standing.now) c.args.level)));
  left = omega arith;
  few = omega arith;
}

pub list_one-requires-clause-there : goal.list_one-requires-clause-there
list_one-requires-clause-there g c =
    listing_there c.args.query (map (missing_of (g.T.Standing.stand c.args.standing.now) c.args.level) c.args.matched.now) (map (missing_of (g.T.Standing.stand c.args.standing.now) c.args.level) (drop c.loop-found.found-index c.args.matched.now)) (map (missing_of (g.T.Standing.stand c.args.standing.now) c.args.level) (drop (c.loop-found.found-index + 1) c.args.matched.now)) c.missing_of-missing.result c.args.lists.now.lists c.loop-found.lists.lists c.loop-found.lists.spare c.loop-found.invariant.listing
    (ap (λ os. map (missing_of (g.T.Standing.stand c.args.standing.now) c.args.level) os) (drop_first c.args.matched.now c.loop-found.found-index None c.loop-found-test.true) ∙ ap (λ o. o ∷ map (missing_of (g.T.Standing.stand c.args.standing.now) c.args.level) (drop (suc c.loop-found.found-index) c.args.matched.now)) (sym c.missing_of-missing.ensures) ∙ ap (λ n. c.missing_of-missing.result ∷ map (missing_of (g.T.Standing.stand c.args.standing.now) c.args.level) (drop n c.args.matched.now)) (sym (add-one c.loop-found.found-index)))

pub list_one-requires-clause-room : goal.list_one-requires-clause-room
list_one-requires-clause-room g c =
    listing_room c.args.query (map (missing_of (g.T.Standing.stand c.args.standing.now) c.args.level) c.args.matched.now) (map (missing_of (g.T.Standing.stand c.args.standing.now) c.args.level) (drop c.loop-found.found-index c.args.matched.now)) (map (missing_of (g.T.Standing.stand c.args.standing.now) c.args.level) (drop (c.loop-found.found-index + 1) c.args.matched.now)) c.missing_of-missing.result c.args.lists.now.lists c.loop-found.lists.lists c.loop-found.lists.spare c.loop-found.invariant.listing
    (ap (λ os. map (missing_of (g.T.Standing.stand c.args.standing.now) c.args.level) os) (drop_first c.args.matched.now c.loop-found.found-index None c.loop-found-test.true) ∙ ap (λ o. o ∷ map (missing_of (g.T.Standing.stand c.args.standing.now) c.args.level) (drop (suc c.loop-found.found-index) c.args.matched.now)) (sym c.missing_of-missing.ensures) ∙ ap (λ n. c.missing_of-missing.result ∷ map (missing_of (g.T.Standing.stand c.args.standing.now) c.args.level) (drop n c.args.matched.now)) (sym (add-one c.loop-found.found-index)))

pub loop-found-preserved : goal.loop-found-preserved
loop-found-preserved g c = record {
  listing = listing_more c.args.query (map (missing_of (g.T.Standing.stand c.args.standing.now) c.args.level) c.args.matched.now) (map (missing_of (g.T.Standing.stand c.args.standing.now) c.args.level) (drop c.loop-found.found-index c.args.matched.now)) (map (missing_of (g.T.Standing.stand c.args.standing.now) c.args.level) (drop (c.loop-found.found-index + 1) c.args.matched.now)) c.missing_of-missing.result c.args.lists.now.lists c.loop-found.lists.lists c.list_one.new.lists.lists c.loop-found.lists.spare c.list_one.new.lists.spare c.loop-found.invariant.listing
      (ap (λ os. map (missing_of (g.T.Standing.stand c.args.standing.now) c.args.level) os) (drop_first c.args.matched.now c.loop-found.found-index None c.loop-found-test.true) ∙ ap (λ o. o ∷ map (missing_of (g.T.Standing.stand c.args.standing.now) c.args.level) (drop (suc c.loop-found.found-index) c.args.matched.now)) (sym c.missing_of-missing.ensures) ∙ ap (λ n. c.missing_of-missing.result ∷ map (missing_of (g.T.Standing.stand c.args.standing.now) c.args.level) (drop n c.args.matched.now)) (sym (add-one c.loop-found.found-index)))
      c.list_one.ensures.listed c.list_one.ensures.spare;
  left =
      let f : Option InstId → Option InstId = missing_of (g.T.Standing.stand c.args.standing.now) c.args.level in
      let a : length (filter_map f (drop c.loop-found.found-index c.args.matched.now)) ≡ one_if (is_some (f (get_or c.args.matched.now c.loop-found.found-index None))) + length (filter_map f (drop (c.loop-found.found-index + 1) c.args.matched.now)) =
      ap (λ os. length (filter_map f os)) (drop_first c.args.matched.now c.loop-found.found-index None c.loop-found-test.true ∙ ap (λ n. get_or c.args.matched.now c.loop-found.found-index None ∷ drop n c.args.matched.now) (sym (add-one c.loop-found.found-index)))
      ∙ length_missing (g.T.Standing.stand c.args.standing.now) c.args.level (get_or c.args.matched.now c.loop-found.found-index None) (drop (c.loop-found.found-index + 1) c.args.matched.now) in
      let b : one_if c.is_some.result ≡ one_if (is_some (f (get_or c.args.matched.now c.loop-found.found-index None))) = ap one_if (c.is_some.ensures ∙ ap is_some c.missing_of-missing.ensures) in
      let d = byte_of c.is_some.result in
      omega (arith, a, b, d, c.loop-found.invariant.left);
  few = let d = byte_of c.is_some.result in let e = one_most c.is_some.result in omega (arith, d, e, c.loop-found.invariant.few);
}
