-- Queries that are taken out of the list of an instance, one by one.
use Rattle.std.proofs.Common.{◌≡◌, ◌≢◌, inl, inr, ⊎_elim, ℕ, Bool, true, false, ◌+◌, ◌-◌, ◌<◌, ◌≤◌, List, [], ◌∷◌, length, set, zero, suc, refl, ap, sym, ◌∙◌, subst, arith}
use Rattle.std.specs.Prelude.{◌==◌, ◌||◌, ◌&&◌}
use Rattle.std.proofs.lemmas.Bool.Decides.{eqb_tells}
use Rattle.std.proofs.lemmas.Bool.{and_parts, or_parts, or_cases, or_left}
use Rattle.query_book.specs.Counts.{count, total, list_at}
use Rattle.query_book.specs.Marks.{Marking, left_at, found_at, one_if}
use Rattle.query_book.specs.Board.{Arriving, Losing}
use Rattle.query_book.proofs.Parts.{list_other, total_set, count_same}

pub arriving_start : (at : ℕ) (ls : List (List ℕ)) (m : Marking) → Arriving at ls ls m m
arriving_start at ls m = record {
  size = refl;
  others = λ i apart. refl;
  fewer = λ k. omega arith;
  totals = λ k. refl;
  lefts = λ k. refl;
  kept = λ k f. f;
  found = λ k f. inl f;
  waits = λ k w. w;
  met = λ k. refl;
}

pub losing_start : (at : ℕ) (ls : List (List ℕ)) (m : Marking) → Losing at ls ls m m
losing_start at ls m = record {
  size = refl;
  others = λ i apart. refl;
  fewer = λ k. omega arith;
  lefts = λ k. refl;
  kept = λ k f. f;
  found = λ k f. inl f;
  taken = λ k less. absurd (omega (arith, less));
  met = λ k. refl;
}

-- a list with a query is one of the lists
pub has_list : (ls : List (List ℕ)) (at k : ℕ) (rest : List ℕ) → list_at ls at ≡ k ∷ rest → at < length ls
has_list [] at k rest is = absurd cc
has_list (l ∷ ls) zero k rest is = omega arith
has_list (l ∷ ls) (suc at) k rest is = let h : at < length ls = has_list ls at k rest is in omega (arith, h)

pub is_zero : (n : ℕ) → (n == 0) ≡ true → n ≡ 0
is_zero n e = ⊎_elim (λ (f : ((n == 0) ≡ true) × (n ≡ 0)). f.1) (λ (f : ((n == 0) ≡ false) × (n ≢ 0)). let g : false ≡ true = sym f.0 ∙ e in absurd cc) (eqb_tells n 0)

pub not_zero : (n : ℕ) → (n == 0) ≡ false → 0 < n
not_zero n e = ⊎_elim (λ (f : ((n == 0) ≡ true) × (n ≡ 0)). let g : true ≡ false = sym f.0 ∙ e in absurd cc) (λ (f : ((n == 0) ≡ false) × (n ≢ 0)). positive n f.1) (eqb_tells n 0)
  where
    positive : (n : ℕ) → n ≢ 0 → 0 < n
    positive zero apart = absurd (apart refl)
    positive (suc n) apart = omega arith

count_head : (j k : ℕ) (rest : List ℕ) → count j (k ∷ rest) ≡ one_if (k == j) + count j rest
count_head j k rest = refl

-- what one match less does to a query
pub record OneLess (query : ℕ) (before after : Marking) : Type 0 where
  pub some : 0 < left_at before.marks query
  pub size : length after.marks ≡ length before.marks
  pub lefts : (k : ℕ) → left_at after.marks k ≡ left_at before.marks k - one_if (query == k)
  pub founds : (k : ℕ) → found_at after.marks k ≡ (found_at before.marks k || (query == k && left_at after.marks k == 0))
  pub met : (k : ℕ) → count k after.met + one_if (found_at before.marks k) ≡ count k before.met + one_if (found_at after.marks k)

-- what is known of a query once more
one_left : (query k : ℕ) (before after : Marking) → OneLess query before after → left_at after.marks k + one_if (query == k) ≡ left_at before.marks k
one_left query k before after o =
    ⊎_elim (λ (e : ((query == k) ≡ true) × (query ≡ k)).
    let some : 0 < left_at before.marks k = subst (λ j. 0 < left_at before.marks j) e.1 o.some in
    let l : left_at after.marks k ≡ left_at before.marks k - 1 = o.lefts k ∙ ap (λ b. left_at before.marks k - one_if b) e.0 in
    ap (λ b. left_at after.marks k + one_if b) e.0 ∙ (omega (arith, some, l)))
    (λ (e : ((query == k) ≡ false) × (query ≢ k)).
    let l : left_at after.marks k ≡ left_at before.marks k - 0 = o.lefts k ∙ ap (λ b. left_at before.marks k - one_if b) e.0 in
    ap (λ b. left_at after.marks k + one_if b) e.0 ∙ (omega (arith, l)))
    (eqb_tells query k)

pub arriving_more : (at query : ℕ) (old cur new : List (List ℕ)) (before mid after : Marking) → Arriving at old cur before mid → list_at cur at ≡ query ∷ list_at new at → new ≡ set cur at (list_at new at) → OneLess query mid after → Arriving at old new before after
arriving_more at query old cur new before mid after a first rest o = record {
  size = o.size ∙ a.size;
  others = λ i apart. ap (λ ls. list_at ls i) rest ∙ list_other cur at i (list_at new at) apart ∙ a.others i apart;
  fewer = λ k. let f : count k (list_at cur at) ≤ count k (list_at old at) = a.fewer k in let h : count k (list_at cur at) ≡ one_if (query == k) + count k (list_at new at) = ap (λ l. count k l) first in omega (arith, f, h);
  totals = λ k.
      let t : total k new + count k (list_at cur at) ≡ total k cur + count k (list_at new at) = ap (λ ls. total k ls + count k (list_at cur at)) rest ∙ total_set k cur at (list_at new at) (has_list cur at query (list_at new at) first) in
      omega (arith, t, a.totals k);
  lefts = λ k.
      let h : count k (list_at cur at) ≡ one_if (query == k) + count k (list_at new at) = ap (λ l. count k l) first in
      omega (arith, h, one_left query k mid after o, a.lefts k);
  kept = λ k f. o.founds k ∙ or_left (found_at mid.marks k) _ (a.kept k f);
  found = λ k f. ⊎_elim (λ (e : found_at mid.marks k ≡ true).
      ⊎_elim (λ (g : found_at before.marks k ≡ true). inl g) (λ (g : left_at mid.marks k ≡ 0). inr (omega (arith, g, one_left query k mid after o))) (a.found k e))
      (λ (e : (query == k && left_at after.marks k == 0) ≡ true). inr (is_zero (left_at after.marks k) (and_parts (query == k) (left_at after.marks k == 0) e).1))
      (or_cases (found_at mid.marks k) _ (sym (o.founds k) ∙ f));
  waits = λ k w f. still k (or_parts (found_at mid.marks k) _ (sym (o.founds k) ∙ f)) (a.waits k w);
  met = λ k. omega (arith, a.met k, o.met k);
}
  where
    still : (k : ℕ) → (found_at mid.marks k ≡ false) × ((query == k && left_at after.marks k == 0) ≡ false) → (found_at mid.marks k ≡ false → 0 < left_at mid.marks k) → 0 < left_at after.marks k
    still k n w =
        let some : 0 < left_at mid.marks k = w n.0 in
        ⊎_elim (λ (e : ((query == k) ≡ true) × (query ≡ k)). not_zero (left_at after.marks k) (sym (ap (λ b. b && left_at after.marks k == 0) e.0) ∙ n.1))
        (λ (e : ((query == k) ≡ false) × (query ≢ k)).
        let l : left_at after.marks k + 0 ≡ left_at mid.marks k = sym (ap (λ b. left_at after.marks k + one_if b) e.0) ∙ one_left query k mid after o in
        omega (arith, l, some))
        (eqb_tells query k)

pub arriving_some : (at query : ℕ) (old cur : List (List ℕ)) (rest : List ℕ) (before mid : Marking) → Arriving at old cur before mid → list_at cur at ≡ query ∷ rest → count query (list_at old at) ≤ left_at before.marks query → 0 < left_at mid.marks query
arriving_some at query old cur rest before mid a first enough =
    let h : count query (list_at cur at) ≡ suc (count query rest) = ap (λ l. count query l) first ∙ count_same query rest in
    omega (arith, h, enough, a.lefts query)

-- what the mark of a query does
pub record OneFound (query : ℕ) (before after : Marking) : Type 0 where
  pub size : length after.marks ≡ length before.marks
  pub lefts : (k : ℕ) → left_at after.marks k ≡ left_at before.marks k
  pub founds : (k : ℕ) → found_at after.marks k ≡ (found_at before.marks k || query == k)
  pub met : (k : ℕ) → count k after.met + one_if (found_at before.marks k) ≡ count k before.met + one_if (found_at after.marks k)

pub losing_more : (at query : ℕ) (old cur new : List (List ℕ)) (before mid after : Marking) → Losing at old cur before mid → list_at cur at ≡ query ∷ list_at new at → new ≡ set cur at (list_at new at) → OneFound query mid after → Losing at old new before after
losing_more at query old cur new before mid after a first rest o = record {
  size = o.size ∙ a.size;
  others = λ i apart. ap (λ ls. list_at ls i) rest ∙ list_other cur at i (list_at new at) apart ∙ a.others i apart;
  fewer = λ k. let f : count k (list_at cur at) ≤ count k (list_at old at) = a.fewer k in let h : count k (list_at cur at) ≡ one_if (query == k) + count k (list_at new at) = ap (λ l. count k l) first in omega (arith, f, h);
  lefts = λ k. o.lefts k ∙ a.lefts k;
  kept = λ k f. o.founds k ∙ or_left (found_at mid.marks k) _ (a.kept k f);
  found = λ k f. ⊎_elim (λ (e : found_at mid.marks k ≡ true). a.found k e)
      (λ (e : (query == k) ≡ true). inr (let h : count k (list_at cur at) ≡ one_if (query == k) + count k (list_at new at) = ap (λ l. count k l) first in let g : one_if (query == k) ≡ 1 = ap one_if e in omega (arith, h, g, a.fewer k)))
      (or_cases (found_at mid.marks k) _ (sym (o.founds k) ∙ f));
  taken = λ k less.
      let h : count k (list_at cur at) ≡ one_if (query == k) + count k (list_at new at) = ap (λ l. count k l) first in
      ⊎_elim (λ (e : ((query == k) ≡ true) × (query ≡ k)). o.founds k ∙ ap (λ b. found_at mid.marks k || b) e.0 ∙ or_yes (found_at mid.marks k))
      (λ (e : ((query == k) ≡ false) × (query ≢ k)). o.founds k ∙ or_left (found_at mid.marks k) _ (a.taken k (let g : one_if (query == k) ≡ 0 = ap one_if e.0 in omega (arith, h, g, less))))
      (eqb_tells query k);
  met = λ k. omega (arith, a.met k, o.met k);
}
  where
    or_yes : (b : Bool) → (b || true) ≡ true
    or_yes true = refl
    or_yes false = refl

pub losing_there : (at query n : ℕ) (old cur : List (List ℕ)) (rest : List ℕ) (before mid : Marking) → Losing at old cur before mid → list_at cur at ≡ query ∷ rest → ((k : ℕ) → 0 < count k (list_at old at) → k < length before.marks) → query < length mid.marks
losing_there at query n old cur rest before mid a first all =
    let h : count query (list_at cur at) ≡ suc (count query rest) = ap (λ l. count query l) first ∙ count_same query rest in
    let less : query < length before.marks = all query (omega (arith, h, a.fewer query)) in
    omega (arith, less, a.size)
