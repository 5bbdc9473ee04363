-- Texts that a zero byte ends.
use Rattle.std.proofs.Common.{◌≡◌, ℕ, ◌+◌, ◌-◌, ◌<◌, ◌≤◌, ◌≢◌, Bool, cond, ◌==◌, nat_lt, List, [], length, get_or, take, drop, take-take, get_or-take, get_or-drop, length-take, length-drop, Option, Some, None, is_some, option_map, unwrap_or, true≢false, sym, ap, ◌∙◌, inl, inr, arith}
use Rattle.std.specs.List.{position_or_len}
use Rattle.std.proofs.lemmas.Bool.{cases_lt, lt-ltb, le-ltb, ne_eqb, eq-eqb, eqb-true}
use Rattle.std.proofs.lemmas.List.Sums.{position_or_len_is, fails_before_first, passes_at_first}
use Rattle.elf_read.specs.Index.{IsEnd, HasNoEnd}
use Rattle.elf_read.specs.Sections.{text_in}

abbrev pub is_zero : ℕ → Bool
is_zero b = b == 0

-- what is found at the first place that passes
found : {A : Type 0} (f : ℕ → A) (n len : ℕ) → n < len → option_map f (cond (nat_lt n len) (Some n) None) ≡ Some (f n)
found f n len lt = ap (λ (b : Bool). option_map f (cond b (Some n) None)) (lt-ltb n len lt)

nowhere : {A : Type 0} (f : ℕ → A) (n len : ℕ) → len ≤ n → option_map f (cond (nat_lt n len) (Some n) None) ≡ None
nowhere f n len le = ap (λ (b : Bool). option_map f (cond b (Some n) None)) (le-ltb n len le)

-- a text ends at the first zero byte
pub text_in-first : (xs : List ℕ) (n : ℕ) → n < length xs → ((k : ℕ) → k < n → get_or xs k 0 ≢ 0) → get_or xs n 0 ≡ 0 → text_in xs ≡ Some (take n xs)
unfolding text_in
text_in-first xs n lt none here =
    let first : position_or_len is_zero xs ≡ n = position_or_len_is is_zero xs n 0 (omega arith) (λ k l. ne_eqb (get_or xs k 0) 0 (none k l)) (λ l. eq-eqb (get_or xs n 0) 0 here) in
    ap (λ (k : ℕ). option_map (λ m. take m xs) (cond (nat_lt k (length xs)) (Some k) None)) first ∙ found (λ m. take m xs) n (length xs) lt

pub text_in-none : (xs : List ℕ) → ((k : ℕ) → k < length xs → get_or xs k 0 ≢ 0) → text_in xs ≡ None
unfolding text_in
text_in-none xs none =
    let first : position_or_len is_zero xs ≡ length xs = position_or_len_is is_zero xs (length xs) 0 (omega arith) (λ k l. ne_eqb (get_or xs k 0) 0 (none k l)) (λ l. absurd (omega arith)) in
    nowhere (λ m. take m xs) (position_or_len is_zero xs) (length xs) (omega (arith, first))

-- a byte before the first zero byte, and that one
pub before_zero : (xs : List ℕ) (k : ℕ) → k < position_or_len is_zero xs → get_or xs k 0 ≢ 0
before_zero xs k lt is_0 = true≢false (sym (eq-eqb (get_or xs k 0) 0 is_0) ∙ fails_before_first is_zero xs k 0 lt)

pub at_zero : (xs : List ℕ) → position_or_len is_zero xs < length xs → get_or xs (position_or_len is_zero xs) 0 ≡ 0
at_zero xs lt = eqb-true (get_or xs (position_or_len is_zero xs) 0) 0 (passes_at_first is_zero xs 0 lt)

-- what a text is: it ends before the end of the bytes, and is all before that
pub text_in-is : (xs t : List ℕ) → text_in xs ≡ Some t → (position_or_len is_zero xs < length xs) × (t ≡ take (position_or_len is_zero xs) xs)
unfolding text_in
text_in-is xs t is_t =
    let n : ℕ = position_or_len is_zero xs in
    elim (cases_lt n (length xs)) [
      | inl lt ↦ (lt, ap (λ (o : Option (List ℕ)). unwrap_or o []) (sym is_t ∙ found (λ m. take m xs) n (length xs) lt))
      | inr le ↦ absurd (true≢false (ap (λ (o : Option (List ℕ)). is_some o) (sym is_t ∙ nowhere (λ m. take m xs) n (length xs) le)))
    ]

pub text_in-none-is : (xs : List ℕ) → text_in xs ≡ None → (k : ℕ) → k < length xs → get_or xs k 0 ≢ 0
unfolding text_in
text_in-none-is xs is_none k lt =
    let n : ℕ = position_or_len is_zero xs in
    elim (cases_lt n (length xs)) [
      | inl less ↦ absurd (true≢false (ap (λ (o : Option (List ℕ)). is_some o) (sym (found (λ m. take m xs) n (length xs) less) ∙ is_none)))
      | inr le ↦ before_zero xs k (omega arith)
    ]

-- ---- from a place on

pub text-ends : (bytes : List ℕ) (at end : ℕ) → IsEnd bytes at end → text_in (drop at bytes) ≡ Some (take (end - at) (drop at bytes))
text-ends bytes at end e =
    let past = e.past in
    let inside = e.inside in
    let place : at + (end - at) ≡ end = omega arith in
    text_in-first (drop at bytes) (end - at) (omega (arith, length-drop at bytes))
    (λ k lt is_0. e.none (at + k) (omega arith) (omega arith) (sym (get_or-drop at bytes k 0) ∙ is_0))
    (get_or-drop at bytes (end - at) 0 ∙ ap (λ (k : ℕ). get_or bytes k 0) place ∙ e.zero)

pub text-none : (bytes : List ℕ) (at : ℕ) → HasNoEnd bytes at → text_in (drop at bytes) ≡ None
text-none bytes at none = text_in-none (drop at bytes) (λ k lt is_0. none (at + k) (omega arith) (omega (arith, length-drop at bytes)) (sym (get_or-drop at bytes k 0) ∙ is_0))

-- ---- a text that is cut

pub cut-none : (m : ℕ) (xs : List ℕ) → text_in xs ≡ None → text_in (take m xs) ≡ None
cut-none m xs is_none = text_in-none (take m xs) (λ k lt is_0. (let len = length-take m xs in text_in-none-is xs is_none k (omega arith) (sym (get_or-take m xs k 0 (omega arith)) ∙ is_0)))

-- a text that ends in the first bytes is the same there
pub cut-short : (m : ℕ) (xs t : List ℕ) → text_in xs ≡ Some t → length t < m → text_in (take m xs) ≡ Some t
cut-short m xs t is_t short =
    let is_text = text_in-is xs t is_t in
    let inside = is_text.0 in
    let n : ℕ = position_or_len is_zero xs in
    let len : length t ≡ n = ap length is_text.1 ∙ length-take n xs ∙ omega arith in
    text_in-first (take m xs) n (omega (arith, length-take m xs))
    (λ k lt is_0. before_zero xs k lt (sym (get_or-take m xs k 0 (omega arith)) ∙ is_0))
    (get_or-take m xs n 0 (omega arith) ∙ at_zero xs inside)
    ∙ ap (λ (ys : List ℕ). Some ys) (take-take n m xs (omega arith) ∙ sym is_text.1)

pub cut-long : (m : ℕ) (xs t : List ℕ) → text_in xs ≡ Some t → m ≤ length t → text_in (take m xs) ≡ None
cut-long m xs t is_t long =
    let is_text = text_in-is xs t is_t in
    let inside = is_text.0 in
    let n : ℕ = position_or_len is_zero xs in
    let len : length t ≡ n = ap length is_text.1 ∙ length-take n xs ∙ omega arith in
    text_in-none (take m xs) (λ k lt is_0. before_zero xs k (omega (arith, length-take m xs)) (sym (get_or-take m xs k 0 (omega (arith, length-take m xs))) ∙ is_0))

-- a text is a range of the bytes, also one of the first of them
pub text-range : (xs t : List ℕ) → text_in xs ≡ Some t → (length t < length xs) × (take (length t) xs ≡ t)
text-range xs t is_t =
    let is_text = text_in-is xs t is_t in
    let inside = is_text.0 in
    let n : ℕ = position_or_len is_zero xs in
    let len : length t ≡ n = ap length is_text.1 ∙ length-take n xs ∙ omega arith in
    (omega arith, ap (λ (k : ℕ). take k xs) len ∙ sym is_text.1)

pub cut-range : (m : ℕ) (xs t : List ℕ) → text_in (take m xs) ≡ Some t → (length t < length xs) × (take (length t) xs ≡ t)
cut-range m xs t is_t =
    let range = text-range (take m xs) t is_t in
    let shorter = range.0 in
    let len = length-take m xs in
    (omega arith, sym (take-take (length t) m xs (omega arith)) ∙ range.1)

-- a range that starts at a place lies in the bytes
pub lies-inside : (bytes : List ℕ) (at len : ℕ) → len < length (drop at bytes) → at + len ≤ length bytes
lies-inside bytes at len lt = omega (arith, lt, length-drop at bytes)
