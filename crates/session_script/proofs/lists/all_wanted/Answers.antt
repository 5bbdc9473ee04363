use Rattle.std.proofs.Common.{ℕ, [], map, get_or, ap, ◌∙◌}
use Rattle.orc_ids.specs.declared.lookup.Wanted.{Wanted}
use Rattle.session_script.specs.Texts.{all_mentioned}
use Rattle.session_script.specs.Words.{unmarked, is_marked}
use Rattle.session_script.specs.Forms.{wanted_in}
use Rattle.session_script.proofs.Steps.{one_more, next_table, number_in_whole}
use Rattle.session_script.proofs.lists.all_wanted.Goals as goal

pub loop-word-preserved : goal.loop-word-preserved
loop-word-preserved c =
    let complete = all_mentioned (map unmarked (map (λ w. w.now) c.args.words.now)) c.args.names.now in
    let numbered : ℕ → Wanted = λ n. record { name = record { 0 = n }; weak = is_marked ((get_or c.args.words.now c.loop-word.word-index (record { ref_ptr = (0, 0); now = [] })).now) } in
    let number = number_in_whole unmarked c.args.words.now c.loop-word.word-index _ c.loop-word.names c.wanted.new.names complete c.loop-word-test.true c.in_ok-wanted.ensures.known c.loop-word.invariant.table in
    record {
      table = next_table unmarked c.args.words.now c.loop-word.word-index _ c.loop-word.names c.wanted.new.names complete c.loop-word-test.true c.in_ok-wanted.ensures.known c.loop-word.invariant.table;
      so_far = one_more (wanted_in complete) c.args.words.now c.loop-word.word-index _ c.loop-word.all.items c.in_ok-wanted.wanted _ _ c.loop-word-test.true c.in_ok-push.ensures.items (c.in_ok-wanted.ensures.wanted ∙ ap numbered number) c.loop-word.invariant.so_far;
    }
