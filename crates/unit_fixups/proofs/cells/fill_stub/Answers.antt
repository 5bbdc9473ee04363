use Rattle.std.proofs.Common.{ℤ, w64, arith, rules, ap, ◌∙◌, sym}
use Rattle.std.proofs.lemmas.Bool.{false≢true}
use Rattle.std.proofs.lemmas.Int.{to_z-of_z}
use Rattle.link_model.specs.Kinds.{rule_of, in_span}
use Rattle.link_model.specs.Image.{KIND_CALL}
use Rattle.unit_fixups.proofs.Filled.{call_known, call_width, within_reach, stub_written}
use Rattle.unit_fixups.proofs.cells.fill_stub.Goals as goal

pub patch_at-requires-clause-known : goal.patch_at-requires-clause-known
patch_at-requires-clause-known c = call_known

pub patch_at-requires-clause-room : goal.patch_at-requires-clause-room
patch_at-requires-clause-room c = omega (arith, call_width, c.requires.inside)

pub unreachable-requires : goal.unreachable-requires
unreachable-requires c =
    false≢true
    (sym c.in-Err.ensures.refused.0
    ∙ ap (λ (v : ℤ). in_span (rule_of KIND_CALL).span v) (to_z-of_z w64 c.distance.result (search rules) ∙ c.distance.ensures)
    ∙ within_reach c.args.cell c.args.at c.requires.near_cell c.requires.near)

pub returns : goal.returns
returns c = stub_written c.args.at _ _ _ _ (to_z-of_z w64 c.distance.result (search rules) ∙ c.distance.ensures) c.in-Ok.ensures.done.1
