use Rattle.std.proofs.Common.{◌≡◌, ℕ, ◌+◌, [], ◌∷◌, map, length, get_or, refl, sym, ap, ◌∙◌, arith}
use Rattle.std.proofs.lemmas.List.{length-append, length-map}
use Rattle.object_files.proofs.Mentions.{with_text, next_mention, next_number, all_numbered, none_numbered, all_mentioned}
use Rattle.object_files.proofs.distinct.distinct_files.Goals as goal

pub loop-word-init : goal.loop-word-init
loop-word-init c = record {
  files = rw c.with_hasher-seen.ensures.empty refl;
  count = rw c.new-numbers.ensures.items refl;
  numbers = none_numbered _ _ c.new-numbers.result.items c.new-numbers.ensures.items;
}

pub loop-word-preserved : goal.loop-word-preserved
loop-word-preserved c =
    let ws = c.args.words.now in
    let i : ℕ = c.loop-word.word-index in
    let w = get_or ws i (record { ref_ptr = (0, 0); now = [] }) in
    let before = c.loop-word.invariant in
    record {
      files = next_mention (λ w. w.now) ws i (record { ref_ptr = (0, 0); now = [] }) (map (λ w. w.now) c.loop-word.seen.keys) (map (λ w. w.now) c.insert_full.new.self.keys) (omega arith)
          (with_text (λ w. w.now) c.loop-word.seen.keys c.insert_full.new.self.keys w c.in_ok-place.ensures.keys)
          ∙ before.files;
      count = rw c.in_ok-push.ensures.items (length-append c.loop-word.numbers.items (c.in_ok-number_of.field-0 ∷ []) ∙ ap (λ n. n + 1) before.count);
      numbers = rw c.in_ok-push.ensures.items
          (next_number (λ w. w.now) ws c.loop-word.seen.keys c.insert_full.new.self.keys i c.in_ok-number_of.field-0 (record { ref_ptr = (0, 0); now = [] }) c.loop-word.numbers.items (omega arith) before.count
          c.in_ok-place.ensures.keys (c.in_ok-number_of.ensures ∙ c.in_ok-place.ensures.index) before.numbers);
    }

pub returns-clause-files : goal.returns-clause-files
returns-clause-files c =
    ap (λ keys. map (λ w. w.now) keys) (c.in_ok-to_vec.ensures.items_if_clones_equal (λ x y h. h) ∙ c.as_slice.ensures.keys)
    ∙ all_mentioned (λ w. w.now) c.args.words.now c.loop-word.word-index (map (λ w. w.now) c.loop-word.seen.keys) (omega arith) c.loop-word.invariant.files

pub returns-clause-numbered : goal.returns-clause-numbered
returns-clause-numbered c =
    rw (c.in_ok-to_vec.ensures.items_if_clones_equal (λ x y h. h) ∙ c.as_slice.ensures.keys)
    (all_numbered (map (λ w. w.now) c.loop-word.seen.keys) (map (λ w. w.now) c.args.words.now) c.loop-word.numbers.items c.loop-word.invariant.numbers
    (let same : c.loop-word.word-index ≡ length c.args.words.now = omega arith in c.loop-word.invariant.count ∙ (same ∙ sym (length-map c.args.words.now (λ w. w.now)))))
