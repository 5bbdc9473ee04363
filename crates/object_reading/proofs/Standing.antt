-- Bytes that stand at a place of others.
use Rattle.std.proofs.Common.{◌≡◌, ℕ, ◌+◌, ◌<◌, ◌≤◌, List, [], ◌++◌, length, get_or, take, drop, refl, sym, ap, ◌∙◌, append_assoc, length-append, arith}
use Rattle.std.proofs.lemmas.List.{append-nil, get_or_append_left, get_or-append-add, take_at, drop_at}
use Rattle.object_reading.specs.Places.{Stands}

pub stands_moved : {bytes part : List ℕ} {at : ℕ} (place : ℕ) → Stands bytes at part → at ≡ place → Stands bytes place part
stands_moved place s e = record { front = s.front; back = s.back; whole = s.whole; place = s.place ∙ e }

-- ---- parts of what stands there

pub stands_left : {bytes : List ℕ} {at : ℕ} (xs ys : List ℕ) → Stands bytes at (xs ++ ys) → Stands bytes at xs
stands_left xs ys s = record {
  front = s.front;
  back = ys ++ s.back;
  whole = s.whole ∙ ap (λ l. s.front ++ l) (append_assoc xs ys s.back);
  place = s.place;
}

pub stands_right : {bytes : List ℕ} {at : ℕ} (xs ys : List ℕ) → Stands bytes at (xs ++ ys) → Stands bytes (at + length xs) ys
stands_right xs ys s = record {
  front = s.front ++ xs;
  back = s.back;
  whole = s.whole ∙ ap (λ l. s.front ++ l) (append_assoc xs ys s.back) ∙ sym (append_assoc s.front xs (ys ++ s.back));
  place = length-append s.front xs ∙ ap (λ n. n + length xs) s.place;
}

pub stands_within : {bytes xs ys : List ℕ} {at k : ℕ} → Stands bytes at xs → Stands xs k ys → Stands bytes (at + k) ys
stands_within {bytes} {xs} {ys} s t = record {
  front = s.front ++ t.front;
  back = t.back ++ s.back;
  whole =
      s.whole
      ∙ ap (λ l. s.front ++ (l ++ s.back)) t.whole
      ∙ ap (λ l. s.front ++ l) (append_assoc t.front (ys ++ t.back) s.back ∙ ap (λ l. t.front ++ l) (append_assoc ys t.back s.back))
      ∙ sym (append_assoc s.front t.front (ys ++ (t.back ++ s.back)));
  place = length-append s.front t.front ∙ (λ i. s.place i + t.place i);
}

pub stands_whole : (xs : List ℕ) → Stands xs 0 xs
stands_whole xs = record { front = []; back = []; whole = sym (append-nil xs); place = refl }

pub stands_first : (xs ys : List ℕ) → Stands (xs ++ ys) 0 xs
stands_first xs ys = record { front = []; back = ys; whole = refl; place = refl }

pub stands_last : (xs ys : List ℕ) → Stands (xs ++ ys) (length xs) ys
stands_last xs ys = record { front = xs; back = []; whole = ap (λ l. xs ++ l) (sym (append-nil ys)); place = refl }

-- ---- what is found there

module _ {bytes part : List ℕ} {at : ℕ} (s : Stands bytes at part) where
  pub stands_in : at + length part ≤ length bytes
  stands_in =
      let len = ap length s.whole ∙ length-append s.front (part ++ s.back) ∙ ap (λ n. length s.front + n) (length-append part s.back) in
      omega (arith, len, s.place)

  pub stands_dropped : drop at bytes ≡ part ++ s.back
  stands_dropped = ap (drop at) s.whole ∙ drop_at s.front (part ++ s.back) at s.place

  pub stands_taken : take (length part) (drop at bytes) ≡ part
  stands_taken = ap (take (length part)) stands_dropped ∙ take_at part s.back (length part) refl

  pub stands_byte : (k : ℕ) → k < length part → get_or bytes (at + k) 0 ≡ get_or part k 0
  stands_byte k lt =
      (λ i. get_or (s.whole i) (sym s.place i + k) 0)
      ∙ get_or-append-add s.front (part ++ s.back) k 0
      ∙ get_or_append_left part s.back 0 k lt
