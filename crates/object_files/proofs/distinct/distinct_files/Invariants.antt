use Rattle.std.proofs.Common.{◌≡◌, ◌++◌, drop, map, length}
use Rattle.object_files.specs.Files.{distinct, distinct_after}
use Rattle.object_files.proofs.Mentions.{HaveFiles}
use Rattle.object_files.proofs.distinct.distinct_files.Given as goal

abbrev pub invariant-loop-word : goal.invariant-loop-word
invariant-loop-word l =
    let seen = map (λ w. w.now) l.seen.keys in
    record {
      files : seen ++ distinct_after seen (map (λ w. w.now) (drop l.word-index l.words)) ≡ distinct (map (λ w. w.now) l.words);
      count : length l.numbers.items ≡ l.word-index;
      numbers : HaveFiles seen (map (λ w. w.now) l.words) l.numbers.items;
    }
