-- The place is written, or comes after as many that name none.
use Rattle.std.proofs.Common.{◌∙◌, ◌-◌, ◌≤◌, ◌++◌, ◌∷◌, [], Some, None, ℕ, Option, length, ap, sym, arith, cond, length-append}
use Rattle.std.specs.Prelude.{replicate, vec_len}
use Rattle.std.proofs.lemmas.List.{length-replicate}
use Rattle.exec_run.proofs.Filled.{resized}
use Rattle.exec_run.proofs.Places.{place_set, place_pushed}
use Rattle.exec_run.proofs.ranges.set_place.Goals as goal

pub returns-then-k-len-clause-noted : goal.returns-then-k-len-clause-noted
returns-then-k-len-clause-noted c = sym (place_set c.args.places.now.items c.args.k c.args.place (omega (arith, c.if-k-len.true, c.len.ensures, c.args.places.now.ok.0)))

pub returns-clause-noted : goal.returns-clause-noted
returns-clause-noted c =
    let old = c.args.places.now.items in
    let k = c.args.k in
    let n = k - length old in
    let less : length old ≤ k = omega (arith, c.if-k-len.false, c.len.ensures, c.args.places.now.ok.0) in
    let longer = resized {X = Option ℕ} None old c.resize.new.self.items _ k n (vec_len c.args.places.now) (c.resize.ensures.succeeds (omega (arith, c.requires))) less c.args.places.now.ok.0 (omega arith) c.resize.ensures.items in
    let last : Option ℕ = Some c.args.place in
    c.push.ensures.items
    ∙ ap (λ b. cond b (c.resize.new.self.items ++ last ∷ []) c.resize.new.self.items) (c.push.ensures.succeeds (omega (arith, c.requires, c.resize.new.self.ok.0, ap length longer, length-append old (replicate {A = Option ℕ} n None), length-replicate {A = Option ℕ} n None, c.resize.ensures.capacity)))
    ∙ ap (λ ps. ps ++ last ∷ []) longer
    ∙ sym (place_pushed old k n c.args.place (omega arith))
