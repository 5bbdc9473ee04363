-- The first zero byte from a place on, as it is found by blocks.
use Rattle.std.proofs.Common.{◌≡◌, ℕ, ◌+◌, ◌-◌, ◌*◌, ◌/◌, ◌%◌, ◌<◌, ◌≤◌, ◌≢◌, Bool, cond, List, [], length, get_or, take, drop, get_or-take, get_or-drop, length-take, length-drop, Option, Some, None, is_some, MatchOption, unwrap_or, Bor, subst, true≢false, sym, ap, ◌∙◌, inl, inr, arith}
use Rattle.std.specs.List.{position, position_or_len}
use Rattle.std.specs.Option.{option_copied}
use Rattle.std.specs.Slice.{IsItemAt}
use Rattle.std.proofs.lemmas.Bool.{cases_lt, lt-ltb, le-ltb}
use Rattle.elf_read.specs.Index.{IsEnd, HasNoEnd, AreEnds}
use Rattle.elf_read.proofs.Texts.{is_zero, before_zero, at_zero}

-- ---- the ends, as the loop over the bytes goes on

pub ends-none : (bytes : List ℕ) → AreEnds bytes 0 []
ends-none bytes = record { ended = λ k lt. absurd (omega arith); after = λ k le lt. absurd (omega arith) }

-- a byte that is none, or lies before what was found
pub ends-same : (bytes : List ℕ) (i : ℕ) (ends : List ℕ) → AreEnds bytes i ends → (64 * length ends ≤ i → get_or bytes i 0 ≢ 0) → AreEnds bytes (i + 1) ends
ends-same bytes i ends so_far none = record {
  ended = so_far.ended;
  after = λ k le lt. elim (cases_lt k i) [
    | inl less ↦ so_far.after k le less
    | inr more ↦ (let here : k ≡ i = omega arith in λ is_0. none (omega arith) (sym (ap (λ (j : ℕ). get_or bytes j 0) here) ∙ is_0))
  ];
}

-- a zero byte past them ends all blocks up to its own
pub ends-more : (bytes : List ℕ) (i : ℕ) (ends new : List ℕ) → AreEnds bytes i ends → i < length bytes → get_or bytes i 0 ≡ 0 → length ends ≤ i / 64 → length new ≡ i / 64 + 1 → ((k : ℕ) → k < length ends → get_or new k 0 ≡ get_or ends k 0) → ((k : ℕ) → length ends ≤ k → k < i / 64 + 1 → get_or new k 0 ≡ i) → AreEnds bytes (i + 1) new
ends-more bytes i ends new so_far inside zero past len old fresh = record {
  ended = λ k lt. elim (cases_lt k (length ends)) [
    | inl less ↦ rw (old k less) (so_far.ended k less)
    | inr le ↦ rw (fresh k le (omega arith)) (record { past = omega arith; inside = inside; zero = zero; none = λ j from to. so_far.after j (omega arith) to })
  ];
  after = λ k le lt. absurd (omega arith);
}

-- ---- the end from a place on

-- in the bytes that follow it
pub end-near : (bytes : List ℕ) (at m n : ℕ) → Some n ≡ position is_zero (take m (drop at bytes)) → IsEnd bytes at (at + n)
end-near bytes at m n is_n =
    let near : List ℕ = take m (drop at bytes) in
    elim (cases_lt (position_or_len is_zero near) (length near)) [
      | inl lt ↦ (
          let first : n ≡ position_or_len is_zero near = ap (λ (o : Option ℕ). unwrap_or o 0) (is_n ∙ ap (λ (b : Bool). cond b (Some (position_or_len is_zero near)) None) (lt-ltb (position_or_len is_zero near) (length near) lt)) in
          let len = length-take m (drop at bytes) in
          let rest = length-drop at bytes in
          record {
            past = omega arith;
            inside = omega arith;
            zero = sym (get_or-take m (drop at bytes) n 0 (omega arith) ∙ get_or-drop at bytes n 0) ∙ ap (λ (k : ℕ). get_or near k 0) first ∙ at_zero near lt;
            none = λ k from to is_0.
                (let place : at + (k - at) ≡ k = omega arith in
                before_zero near (k - at) (omega arith) (get_or-take m (drop at bytes) (k - at) 0 (omega arith) ∙ get_or-drop at bytes (k - at) 0 ∙ ap (λ (j : ℕ). get_or bytes j 0) place ∙ is_0));
          })
      | inr le ↦ absurd (true≢false (ap (λ (o : Option ℕ). is_some o) (is_n ∙ ap (λ (b : Bool). cond b (Some (position_or_len is_zero near)) None) (le-ltb (position_or_len is_zero near) (length near) le))))
    ]

-- or in none of them
pub no_end-near : (bytes : List ℕ) (at m : ℕ) → None ≡ position is_zero (take m (drop at bytes)) → (k : ℕ) → at ≤ k → k < at + m → k < length bytes → get_or bytes k 0 ≢ 0
no_end-near bytes at m is_none k from to inside is_0 =
    let near : List ℕ = take m (drop at bytes) in
    let len = length-take m (drop at bytes) in
    let rest = length-drop at bytes in
    elim (cases_lt (position_or_len is_zero near) (length near)) [
      | inl lt ↦ true≢false (ap (λ (o : Option ℕ). is_some o) (sym (is_none ∙ ap (λ (b : Bool). cond b (Some (position_or_len is_zero near)) None) (lt-ltb (position_or_len is_zero near) (length near) lt))))
      | inr le ↦
          (let place : at + (k - at) ≡ k = omega arith in
          before_zero near (k - at) (omega arith) (get_or-take m (drop at bytes) (k - at) 0 (omega arith) ∙ get_or-drop at bytes (k - at) 0 ∙ ap (λ (j : ℕ). get_or bytes j 0) place ∙ is_0))
    ]

-- then it is that of the next block
pub end-far : (bytes ends : List ℕ) (at : ℕ) → AreEnds bytes (length bytes) ends → ((k : ℕ) → at ≤ k → k < at + (64 - at % 64) → k < length bytes → get_or bytes k 0 ≢ 0) → at / 64 + 1 < length ends → IsEnd bytes at (get_or ends (at / 64 + 1) 0)
end-far bytes ends at is_ends none lt =
    let far = is_ends.ended (at / 64 + 1) lt in
    let past = far.past in
    let inside = far.inside in
    record {
      past = omega arith;
      inside = far.inside;
      zero = far.zero;
      none = λ k from to. elim (cases_lt k (at + (64 - at % 64))) [
        | inl near ↦ none k from near (omega arith)
        | inr next ↦ far.none k (omega arith) to
      ];
    }

-- or there is none
pub no_end-far : (bytes ends : List ℕ) (at : ℕ) → AreEnds bytes (length bytes) ends → ((k : ℕ) → at ≤ k → k < at + (64 - at % 64) → k < length bytes → get_or bytes k 0 ≢ 0) → length ends ≤ at / 64 + 1 → HasNoEnd bytes at
no_end-far bytes ends at is_ends none le k from inside =
    elim (cases_lt k (at + (64 - at % 64))) [
      | inl near ↦ none k from near inside
      | inr next ↦ is_ends.after k (omega arith) inside
    ]

-- so it is what stands in the table, or there is none
pub end-next : (bytes ends : List ℕ) (at : ℕ) (found : Option (Bor ℕ)) → AreEnds bytes (length bytes) ends → ((k : ℕ) → at ≤ k → k < at + (64 - at % 64) → k < length bytes → get_or bytes k 0 ≢ 0) → IsItemAt ends (at / 64 + 1) found → MatchOption (option_copied found) (HasNoEnd bytes at) (λ end. IsEnd bytes at end)
end-next bytes ends at None is_ends none item = no_end-far bytes ends at is_ends none item.3
end-next bytes ends at (Some x) is_ends none item =
    subst (λ (end : ℕ). IsEnd bytes at end) (sym (item.4 (omega arith) 0)) (end-far bytes ends at is_ends none item.3.0)
