use Rattle.std.proofs.Common.{ℕ, [], map, get_or, ap, ◌∙◌}
use Rattle.std.specs.Prelude.{unwrap_or}
use Rattle.orc_ids.specs.declared.ids.NameId.{NameId}
use Rattle.session_script.specs.Texts.{all_mentioned}
use Rattle.session_script.specs.Forms.{symbol_part, address_part, definition_in}
use Rattle.session_script.proofs.Steps.{one_more, next_table, number_in_whole}
use Rattle.session_script.proofs.lists.all_defined.Goals as goal

pub loop-definition-preserved : goal.loop-definition-preserved
loop-definition-preserved c =
    let complete = all_mentioned (map symbol_part (map (λ w. w.now) c.args.definitions.now)) c.args.names.now in
    let numbered : ℕ → NameId × ℕ = λ n. (record { 0 = n }, unwrap_or (address_part ((get_or c.args.definitions.now c.loop-definition.definition-index (record { ref_ptr = (0, 0); now = [] })).now)) 0) in
    let number = number_in_whole symbol_part c.args.definitions.now c.loop-definition.definition-index _ c.loop-definition.names c.defined.new.names complete c.loop-definition-test.true c.in_ok-defined.ensures.known c.loop-definition.invariant.table in
    record {
      table = next_table symbol_part c.args.definitions.now c.loop-definition.definition-index _ c.loop-definition.names c.defined.new.names complete c.loop-definition-test.true c.in_ok-defined.ensures.known c.loop-definition.invariant.table;
      so_far = one_more (definition_in complete) c.args.definitions.now c.loop-definition.definition-index _ c.loop-definition.all.items c.in_ok-defined.defined _ _ c.loop-definition-test.true c.in_ok-push.ensures.items (c.in_ok-defined.ensures.defined ∙ ap numbered number) c.loop-definition.invariant.so_far;
    }
