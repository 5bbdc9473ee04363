use Rattle.std.proofs.Common.{◌≡◌, ◌++◌, drop, map}
use Rattle.session_script.specs.Texts.{all_mentioned}
use Rattle.session_script.specs.Forms.{symbol_part, definition_in}
use Rattle.session_script.proofs.lists.all_defined.Given as goal

-- the definitions that are left complete the table, and by it the symbols so far have their numbers
abbrev pub invariant-loop-definition : goal.invariant-loop-definition
invariant-loop-definition l =
    let complete = all_mentioned (map symbol_part (map (λ w. w.now) l.definitions)) l.fn.names in record {
      table : all_mentioned (map symbol_part (map (λ w. w.now) (drop l.definition-index l.definitions))) l.names ≡ complete;
      so_far : l.all.items ++ map (definition_in complete) (map (λ w. w.now) (drop l.definition-index l.definitions)) ≡ map (definition_in complete) (map (λ w. w.now) l.definitions);
    }
