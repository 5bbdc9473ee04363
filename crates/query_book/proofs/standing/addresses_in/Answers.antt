use Rattle.std.proofs.Common.{◌≡◌, ◌∷◌, ◌++◌, [], None, ◌∙◌, length, map, take, ap, sym, add-one, arith}
use Rattle.query_book.specs.Stands.{with_address}
use Rattle.query_book.proofs.Filling.{mapped_length, mapped_more}
use Rattle.std.proofs.lemmas.List.{take_all}
use Rattle.query_book.proofs.standing.addresses_in.Goals as goal

pub loop-found-init : goal.loop-found-init
loop-found-init g c = record { so_far = c.clear.ensures.items; room = omega (arith, c.clear.ensures.capacity, c.requires) }

pub push_reserved-requires : goal.push_reserved-requires
push_reserved-requires g c =
    let n : length (map (with_address (g.T.Standing.stand c.args.standing.now)) (take c.loop-found.found-index c.args.matched.now)) ≡ c.loop-found.found-index =
    mapped_length (with_address (g.T.Standing.stand c.args.standing.now)) c.args.matched.now c.loop-found.found-index c.loop-found.auto.found-index-end in
    let m : length c.loop-found.room.items ≡ c.loop-found.found-index = ap length c.loop-found.invariant.so_far ∙ n in
    omega (arith, m, c.loop-found.room.ok.0, c.loop-found-test.true, c.loop-found.invariant.room)

pub loop-found-preserved : goal.loop-found-preserved
loop-found-preserved g c = record {
  so_far = c.push_reserved.ensures.items ∙ ap (λ l. l ++ c.with_address.result ∷ []) c.loop-found.invariant.so_far
      ∙ ap (λ x. map (with_address (g.T.Standing.stand c.args.standing.now)) (take c.loop-found.found-index c.args.matched.now) ++ x ∷ []) c.with_address.ensures
      ∙ sym (mapped_more (with_address (g.T.Standing.stand c.args.standing.now)) c.args.matched.now c.loop-found.found-index None c.loop-found-test.true)
      ∙ ap (λ n. map (with_address (g.T.Standing.stand c.args.standing.now)) (take n c.args.matched.now)) (sym (add-one c.loop-found.found-index));
  room = omega (arith, c.push_reserved.ensures.capacity, c.loop-found.invariant.room);
}

pub returns : goal.returns
returns g c = c.from_vec.ensures ∙ c.loop-found.invariant.so_far ∙ ap (λ l. map (with_address (g.T.Standing.stand c.args.standing.now)) l) (take_all c.loop-found.found-index c.args.matched.now c.loop-found-test.false)
