use Rattle.std.proofs.Common.{◌≡◌, ◌++◌, drop, map}
use Rattle.session_script.specs.Texts.{all_mentioned}
use Rattle.session_script.specs.Words.{unmarked}
use Rattle.session_script.specs.Forms.{wanted_in}
use Rattle.session_script.proofs.lists.all_wanted.Given as goal

-- the words that are left complete the table, and by it the names so far have their numbers
abbrev pub invariant-loop-word : goal.invariant-loop-word
invariant-loop-word l =
    let complete = all_mentioned (map unmarked (map (λ w. w.now) l.words)) l.fn.names in record {
      table : all_mentioned (map unmarked (map (λ w. w.now) (drop l.word-index l.words))) l.names ≡ complete;
      so_far : l.all.items ++ map (wanted_in complete) (map (λ w. w.now) (drop l.word-index l.words)) ≡ map (wanted_in complete) (map (λ w. w.now) l.words);
    }
