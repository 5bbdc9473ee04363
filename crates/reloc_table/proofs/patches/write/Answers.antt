use Rattle.std.proofs.Common.{◌≡◌, ℕ, ◌*◌, ◌^◌, ◌<◌, to_z, of_z, w64, ap, subst, ◌∙◌}
use Rattle.std.specs.Prelude.{slice_index, ℤ}
use Rattle.std.proofs.lemmas.Int.{to_z-of_z}
use Rattle.link_model.specs.Kinds.{new_number}
use Rattle.reloc_table.proofs.Law.{edited-written, reads_back-after, others-after, width_of}
use Rattle.reloc_table.proofs.patches.write.Goals as goal

pub number-old-requires-clause-width : goal.number-old-requires-clause-width
number-old-requires-clause-width c = width_of c.args.rule.form c.args.rule.width c.requires.width

pub set_number-requires-clause-width : goal.set_number-requires-clause-width
set_number-requires-clause-width c = width_of c.args.rule.form c.args.rule.width c.requires.width

pub returns-clause-exact : goal.returns-clause-exact
returns-clause-exact c =
    let same : to_z w64 (of_z w64 c.args.v) ≡ c.args.v = to_z-of_z w64 c.args.v c.ranges.v in
    c.set_number.ensures
    ∙ edited-written c.args.rule c.args.at c.new_number.result c.args.v (slice_index c.args.bytes.now)
    (c.new_number.ensures
    ∙ ap (λ (v : ℤ). new_number c.args.rule.form (8 * c.args.rule.width) c.number-old.result v) same
    ∙ ap (λ (n : ℕ). new_number c.args.rule.form (8 * c.args.rule.width) n c.args.v) c.number-old.ensures.exact)

below : (width n m : ℕ) → n < 2 ^ (8 * width) → n ≡ m → m < 2 ^ (8 * width)
below width n m h e = subst (λ (x : ℕ). x < 2 ^ (8 * width)) e h

pub returns-clause-reads_back : goal.returns-clause-reads_back
returns-clause-reads_back c =
    reads_back-after c.args.rule c.args.at c.args.v (slice_index c.args.bytes.now) (slice_index c.set_number.new.bytes) c.requires.width c.requires.reach c.requires.inside
    (below c.args.rule.width _ _ c.number-old.ensures.bound c.number-old.ensures.exact) (returns-clause-exact c)

pub returns-clause-others : goal.returns-clause-others
returns-clause-others c =
    others-after c.args.rule c.args.at c.args.v (slice_index c.args.bytes.now) (slice_index c.set_number.new.bytes) c.requires.width
    (below c.args.rule.width _ _ c.number-old.ensures.bound c.number-old.ensures.exact) (returns-clause-exact c)
