use Rattle.std.proofs.Common.{◌<◌, ap, ◌∙◌, sym, refl, true, length, arith}
use Rattle.std.specs.Prelude.{◌||◌, ◌==◌}
use Rattle.std.proofs.lemmas.Option.{slice_get_read}
use Rattle.query_book.specs.Counts.{count}
use Rattle.query_book.specs.Marks.{found_at, left_at, one_if}
use Rattle.query_book.proofs.Marking.{met_fits, marked_more, lefts_kept, founds_marked, met_marked, found_already, found_read}
use Rattle.query_book.proofs.marks.Marks.mark.Goals as goal

pub push_reserved-requires : goal.push_reserved-requires
push_reserved-requires c =
    let less : c.args.query < length c.self.inside.marks.items = omega (arith, c.requires, ap (λ r. length r.marks) c.self.view_is) in
    let h : length c.self.inside.met.items < _ = met_fits c.self.inside.marks.items c.self.inside.met.items _ c.args.query c.self.invariant less
    (found_read c.self.inside.marks.items c.args.query c.index.result.now (slice_get_read c.self.inside.marks.items (length c.self.inside.marks.items) c.args.query c.index.result.now refl less c.index.ensures) ∙ c.if-not-index.true) in
    omega (arith, h, c.self.inside.met.ok.0)

pub invariant_of-self : goal.invariant_of-self
invariant_of-self c =
    let less : c.args.query < length c.self.inside.marks.items = omega (arith, c.requires, ap (λ r. length r.marks) c.self.view_is) in
    rw c.push_reserved.ensures.capacity (marked_more c.self.inside.marks.items c.self.inside.met.items c.push_reserved.new.self.items _ c.args.query (record { left = c.index_mut.result.now.left; found = true }) c.self.invariant less refl
    (found_read c.self.inside.marks.items c.args.query c.index.result.now (slice_get_read c.self.inside.marks.items (length c.self.inside.marks.items) c.args.query c.index.result.now refl less c.index.ensures) ∙ c.if-not-index.true)
    c.push_reserved.ensures.items)

pub returns-then-not-index-clause-lefts : goal.returns-then-not-index-clause-lefts
returns-then-not-index-clause-lefts c = λ k.
    let less : c.args.query < length c.self.inside.marks.items = omega (arith, c.requires, ap (λ r. length r.marks) c.self.view_is) in
    lefts_kept c.self.inside.marks.items c.args.query k (record { left = c.index_mut.result.now.left; found = true }) c.index_mut.result.now less
    (slice_get_read c.self.inside.marks.items (length c.self.inside.marks.items) c.args.query c.index_mut.result.now refl less c.index_mut.ensures.value) refl
    ∙ ap (λ r. left_at r.marks k) c.self.view_is

pub returns-then-not-index-clause-founds : goal.returns-then-not-index-clause-founds
returns-then-not-index-clause-founds c = λ k.
    let less : c.args.query < length c.self.inside.marks.items = omega (arith, c.requires, ap (λ r. length r.marks) c.self.view_is) in
    founds_marked c.self.inside.marks.items c.args.query k (record { left = c.index_mut.result.now.left; found = true }) less refl
    ∙ ap (λ r. found_at r.marks k || c.args.query == k) c.self.view_is

pub returns-then-not-index-clause-met : goal.returns-then-not-index-clause-met
returns-then-not-index-clause-met c = λ k.
    let less : c.args.query < length c.self.inside.marks.items = omega (arith, c.requires, ap (λ r. length r.marks) c.self.view_is) in
    let m = met_marked c.self.inside.marks.items c.self.inside.met.items c.push_reserved.new.self.items c.args.query k (record { left = c.index_mut.result.now.left; found = true }) less refl
    (found_read c.self.inside.marks.items c.args.query c.index.result.now (slice_get_read c.self.inside.marks.items (length c.self.inside.marks.items) c.args.query c.index.result.now refl less c.index.ensures) ∙ c.if-not-index.true)
    c.push_reserved.ensures.items in
    omega (arith, m, ap (λ r. one_if (found_at r.marks k)) c.self.view_is, ap (λ r. count k r.met) c.self.view_is)

pub returns-else-not-index-clause-founds : goal.returns-else-not-index-clause-founds
returns-else-not-index-clause-founds c = λ k.
    let less : c.args.query < length c.self.inside.marks.items = omega (arith, c.requires, ap (λ r. length r.marks) c.self.view_is) in
    found_already c.args.self.now.marks c.args.query k (ap (λ r. found_at r.marks c.args.query) (sym c.self.view_is)
    ∙ found_read c.self.inside.marks.items c.args.query c.index.result.now (slice_get_read c.self.inside.marks.items (length c.self.inside.marks.items) c.args.query c.index.result.now refl less c.index.ensures) ∙ c.if-not-index.false)
