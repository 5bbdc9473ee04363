use Rattle.std.proofs.Common.{◌≡◌, ◌<◌, ◌-◌, ◌∙◌, length, set, refl, ap, sym, subst, arith, length-set}
use Rattle.std.specs.Prelude.{◌==◌}
use Rattle.std.proofs.lemmas.Option.{slice_get_read}
use Rattle.query_book.specs.declared.marks.Mark.{Mark}
use Rattle.query_book.specs.Marks.{left_at, found_at, one_if}
use Rattle.query_book.proofs.Marking.{left_within, left_read}
use Rattle.query_book.proofs.Lessening.{left_less, founds_kept, marked_less}
use Rattle.query_book.proofs.marks.Marks.take_one.Goals as goal

pub index_mut-requires : goal.index_mut-requires
index_mut-requires c =
    let less : c.args.at < length c.self.inside.marks.items = left_within c.self.inside.marks.items c.args.at (subst (λ ms. 0 < left_at ms c.args.at) (sym (ap (λ r. r.marks) c.self.view_is)) c.requires) in
    omega (arith, less, c.self.inside.marks.ok.0)

pub overflow_sub-index_mut : goal.overflow_sub-index_mut
overflow_sub-index_mut c =
    let pos : 0 < left_at c.self.inside.marks.items c.args.at = subst (λ ms. 0 < left_at ms c.args.at) (sym (ap (λ r. r.marks) c.self.view_is)) c.requires in
    let less : c.args.at < length c.self.inside.marks.items = left_within c.self.inside.marks.items c.args.at pos in
    let is : left_at c.self.inside.marks.items c.args.at ≡ c.index_mut.result.now.left = left_read c.self.inside.marks.items c.args.at c.index_mut.result.now (slice_get_read c.self.inside.marks.items (length c.self.inside.marks.items) c.args.at c.index_mut.result.now refl less c.index_mut.ensures.value) in
    omega (arith, pos, is)

pub index-requires : goal.index-requires
index-requires c =
    let less : c.args.at < length c.self.inside.marks.items = left_within c.self.inside.marks.items c.args.at (subst (λ ms. 0 < left_at ms c.args.at) (sym (ap (λ r. r.marks) c.self.view_is)) c.requires) in
    omega (arith, less, c.self.inside.marks.ok.0)

pub invariant_of-self : goal.invariant_of-self
invariant_of-self c =
    let less : c.args.at < length c.self.inside.marks.items = left_within c.self.inside.marks.items c.args.at (subst (λ ms. 0 < left_at ms c.args.at) (sym (ap (λ r. r.marks) c.self.view_is)) c.requires) in
    let new : Mark = record { left = c.index_mut.result.now.left - 1; found = c.index_mut.result.now.found } in
    marked_less c.self.inside.marks.items c.self.inside.met.items _ c.args.at new c.index_mut.result.now c.self.invariant less
    (slice_get_read c.self.inside.marks.items (length c.self.inside.marks.items) c.args.at c.index_mut.result.now refl less c.index_mut.ensures.value) refl

pub returns-clause-left : goal.returns-clause-left
returns-clause-left c =
    let less : c.args.at < length c.self.inside.marks.items = left_within c.self.inside.marks.items c.args.at (subst (λ ms. 0 < left_at ms c.args.at) (sym (ap (λ r. r.marks) c.self.view_is)) c.requires) in
    let new : Mark = record { left = c.index_mut.result.now.left - 1; found = c.index_mut.result.now.found } in
    let n : length (set c.self.inside.marks.items c.args.at new) ≡ length c.self.inside.marks.items = length-set c.self.inside.marks.items c.args.at new in
    sym (left_read (set c.self.inside.marks.items c.args.at new) c.args.at c.index.result.now
    (slice_get_read (set c.self.inside.marks.items c.args.at new) (length c.self.inside.marks.items) c.args.at c.index.result.now (sym n) less c.index.ensures))

pub returns-clause-size : goal.returns-clause-size
returns-clause-size c = length-set c.self.inside.marks.items c.args.at _ ∙ ap (λ r. length r.marks) c.self.view_is

pub returns-clause-lefts : goal.returns-clause-lefts
returns-clause-lefts c = λ k.
    let less : c.args.at < length c.self.inside.marks.items = left_within c.self.inside.marks.items c.args.at (subst (λ ms. 0 < left_at ms c.args.at) (sym (ap (λ r. r.marks) c.self.view_is)) c.requires) in
    let new : Mark = record { left = c.index_mut.result.now.left - 1; found = c.index_mut.result.now.found } in
    left_less c.self.inside.marks.items c.args.at k new c.index_mut.result.now less
    (slice_get_read c.self.inside.marks.items (length c.self.inside.marks.items) c.args.at c.index_mut.result.now refl less c.index_mut.ensures.value) refl
    ∙ ap (λ r. left_at r.marks k - one_if (c.args.at == k)) c.self.view_is

pub returns-clause-founds : goal.returns-clause-founds
returns-clause-founds c = λ k.
    let less : c.args.at < length c.self.inside.marks.items = left_within c.self.inside.marks.items c.args.at (subst (λ ms. 0 < left_at ms c.args.at) (sym (ap (λ r. r.marks) c.self.view_is)) c.requires) in
    let new : Mark = record { left = c.index_mut.result.now.left - 1; found = c.index_mut.result.now.found } in
    founds_kept c.self.inside.marks.items c.args.at k new c.index_mut.result.now less
    (slice_get_read c.self.inside.marks.items (length c.self.inside.marks.items) c.args.at c.index_mut.result.now refl less c.index_mut.ensures.value) refl
    ∙ ap (λ r. found_at r.marks k) c.self.view_is

pub returns-clause-met : goal.returns-clause-met
returns-clause-met c = ap (λ r. r.met) c.self.view_is
