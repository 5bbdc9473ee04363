-- Marks that spread one step at a time are those of walks.
use Rattle.std.proofs.Common.{◌≡◌, ℕ, zero, suc, ◌+◌, Bool, true, false, not, ◌&&◌, ◌||◌, List, [], ◌∷◌, map, length, refl, ap, subst, sym, ◌∙◌, add-one, add-zero, zero-add, arith}
use Rattle.std.specs.Prelude.{slice_get, Some, None, Option, unwrap_or, option_map, if◌then◌else◌}
use Rattle.std.specs.List.{list_any}
use Rattle.std.specs.Option.{option_map_or}
use Rattle.std.proofs.lemmas.Option.{slice_get-map}
use Rattle.std.proofs.lemmas.List.{length-map}
use Rattle.session_model.proofs.Changes.{numbered_length}
use Rattle.orc_ids.specs.declared.ids.InstId.{InstId}
use Rattle.graph_walks.specs.Walks.{within}
use Rattle.graph_walks.proofs.Paths.{within_zero}
use Rattle.session_model.specs.Plain.{is_emitted, emitted_at, phase_deps}
use Rattle.session_model.specs.Reach.{deps_at, is_ready, reaches_some}
use Rattle.session_model.specs.declared.rows.InstRow.{InstRow}
use Rattle.session_model.specs.declared.rows.Phase.{Phase}
use Rattle.session_model.specs.Lists.{numbered}
use Rattle.session_model.specs.Change.{hit_row, hits_failed}
use Rattle.session_model.specs.declared.rows.Phase.TheVariants as phase
use Rattle.session_plain.specs.Marks.{mark_at, numbers, edges_at, dep_list, next_marks, AreWithin, AreTests, MarksUnready}
use Rattle.session_plain.specs.Rows.{marked_row}
use Rattle.session_plain.proofs.ListLemmas.{numbered_same}

or_false : (b : Bool) → b ≡ (b || false)
or_false true = refl
or_false false = refl

-- the mark of one more step
mark_next : (marks : List Bool) (other d : Bool) (edges : List (List InstId)) (firsts : List Bool) (i : ℕ) → length firsts ≡ length edges → mark_at (next_marks marks other edges firsts) d i ≡ (mark_at firsts d i || list_any (mark_at marks other) (edges_at edges i))
mark_next marks other d [] [] i h = or_false d
mark_next marks other d [] (b ∷ bs) i h = absurd (omega arith)
mark_next marks other d (to ∷ edges) [] i h = absurd (omega arith)
mark_next marks other d (to ∷ edges) (b ∷ bs) zero h = refl
mark_next marks other d (to ∷ edges) (b ∷ bs) (suc i) h = mark_next marks other d edges bs i (omega arith)

length_next : (marks : List Bool) (other : Bool) (edges : List (List InstId)) (firsts : List Bool) → length firsts ≡ length edges → length (next_marks marks other edges firsts) ≡ length edges
length_next marks other [] [] h = refl
length_next marks other [] (b ∷ bs) h = absurd (omega arith)
length_next marks other (to ∷ edges) [] h = absurd (omega arith)
length_next marks other (to ∷ edges) (b ∷ bs) h = let more = length_next marks other edges bs (omega arith) in omega (arith, more)

any_same : (f g : ℕ → Bool) (xs : List ℕ) → ((x : ℕ) → f x ≡ g x) → list_any f xs ≡ list_any g xs
any_same f g [] h = refl
any_same f g (x ∷ xs) h = ap (λ b. b || list_any f xs) (h x) ∙ ap (λ b. g x || b) (any_same f g xs h)

within_suc : (k : ℕ) (next : ℕ → List ℕ) (test : ℕ → Bool) (i : ℕ) → within (suc k) next test i ≡ (test i || list_any (within k next test) (next i))
unfolding within
within_suc k next test i = refl

-- walks over functions that agree
within_same : (k : ℕ) (next other : ℕ → List ℕ) (test : ℕ → Bool) → ((i : ℕ) → next i ≡ other i) → (i : ℕ) → within k next test i ≡ within k other test i
within_same zero next other test h i = within_zero next test i ∙ sym (within_zero other test i)
within_same (suc k) next other test h i =
    within_suc k next test i
    ∙ (ap (λ b. test i || b) (any_same (within k next test) (within k other test) (next i) (within_same k next other test h) ∙ ap (list_any (within k other test)) (h i))
    ∙ sym (within_suc k other test i))

pub within_along : (k n : ℕ) (next other : ℕ → List ℕ) (test : ℕ → Bool) (marks : List Bool) (o : Bool) → ((i : ℕ) → next i ≡ other i) → AreWithin k n next test marks o → AreWithin k n other test marks o
within_along k n next other test marks o h w = record { inside = w.inside; each = λ i. w.each i ∙ within_same k next other test h i }

pub tests_within : (n : ℕ) (next : ℕ → List ℕ) (test : ℕ → Bool) (firsts marks : List Bool) (other : Bool) → marks ≡ firsts → AreTests n test firsts other → AreWithin 0 n next test marks other
tests_within n next test firsts marks other is h = record {
  inside = ap length is ∙ h.inside;
  each = λ i. ap (λ bs. mark_at bs other i) is ∙ h.each i ∙ sym (within_zero next test i);
}

pub within_all : (k n m : ℕ) (next : ℕ → List ℕ) (test : ℕ → Bool) (marks : List Bool) (other : Bool) → k ≡ n → AreWithin k m next test marks other → AreWithin n m next test marks other
within_all k n m next test marks other e w = record { inside = w.inside; each = λ i. w.each i ∙ ap (λ j. within j next test i) e }

pub next_within : (k : ℕ) (edges : List (List InstId)) (test : ℕ → Bool) (firsts marks new : List Bool) (other : Bool) → new ≡ next_marks marks other edges firsts → AreTests (length edges) test firsts other →
    AreWithin k (length edges) (edges_at edges) test marks other → AreWithin (k + 1) (length edges) (edges_at edges) test new other
next_within k edges test firsts marks new other is h w = record {
  inside = ap length is ∙ length_next marks other edges firsts h.inside;
  each = λ i.
      ap (λ bs. mark_at bs other i) is
      ∙ mark_next marks other other edges firsts i h.inside
      ∙ ap (λ b. b || list_any (mark_at marks other) (edges_at edges i)) (h.each i)
      ∙ ap (λ b. test i || b) (any_same (mark_at marks other) (within k (edges_at edges) test) (edges_at edges i) w.each)
      ∙ sym (ap (λ n. within n (edges_at edges) test i) (add-one k) ∙ within_suc k (edges_at edges) test i);
}

-- The walks over lists that were written down are those over the rows

deps_are : (p : Phase) → numbers (dep_list p) ≡ phase_deps p
deps_are (phase.Emitted address deps) = refl
deps_are phase.Unsearched = refl
deps_are phase.Claimed = refl
deps_are (phase.Resolved address) = refl
deps_are phase.Failed = refl

deps_follow : (o : Option InstRow) → option_map_or numbers (option_map (λ (r : InstRow). dep_list r.phase) o) [] ≡ option_map_or (λ (r : InstRow). phase_deps r.phase) o []
deps_follow None = refl
deps_follow (Some r) = deps_are r.phase

edges_are : (rows : List InstRow) (edges : List (List InstId)) → edges ≡ map (λ (r : InstRow). dep_list r.phase) rows → (i : ℕ) → edges_at edges i ≡ deps_at rows i
edges_are rows edges is i =
    ap (λ es. edges_at es i) is ∙ (ap (λ o. option_map_or numbers o []) (slice_get-map (λ (r : InstRow). dep_list r.phase) rows i) ∙ deps_follow (slice_get rows i))

pub within_rows : (rows : List InstRow) (edges : List (List InstId)) (test : ℕ → Bool) (firsts marks : List Bool) (other : Bool) → edges ≡ map (λ (r : InstRow). dep_list r.phase) rows →
    ((t : ℕ → Bool) → AreTests (length edges) t firsts other → AreWithin (length edges) (length edges) (edges_at edges) t marks other) →
    AreTests (length rows) test firsts other → AreWithin (length rows) (length rows) (deps_at rows) test marks other
within_rows rows edges test firsts marks other is spread t =
    within_along (length rows) (length rows) (edges_at edges) (deps_at rows) test marks other (edges_are rows edges is)
    (subst (λ n. AreWithin n n (edges_at edges) test marks other) long (spread test (subst (λ n. AreTests n test firsts other) (sym long) t)))
  where
    long : length edges ≡ length rows
    long = ap length is ∙ length-map rows (λ (r : InstRow). dep_list r.phase)

-- the marks of what isn't emitted
unemitted_at : (found : Option InstRow) → unwrap_or (option_map (λ (r : InstRow). not (is_emitted r.phase)) found) true ≡ not (option_map_or (λ (r : InstRow). is_emitted r.phase) found false)
unemitted_at None = refl
unemitted_at (Some r) = refl

pub unemitted_tests : (rows : List InstRow) (marks : List Bool) → marks ≡ map (λ (r : InstRow). not (is_emitted r.phase)) rows → AreTests (length rows) (λ j. not (emitted_at rows j)) marks true
unemitted_tests rows marks is = record {
  inside = ap length is ∙ length-map rows (λ (r : InstRow). not (is_emitted r.phase));
  each = λ i. ap (λ bs. mark_at bs true i) is ∙ ap (λ o. unwrap_or o true) (slice_get-map (λ (r : InstRow). not (is_emitted r.phase)) rows i) ∙ unemitted_at (slice_get rows i);
}

not_not : (b : Bool) → b ≡ not (not b)
not_not true = refl
not_not false = refl

-- the marks of what isn't ready
pub unready_marks : (rows : List InstRow) (firsts marks : List Bool) → AreTests (length rows) (λ j. not (emitted_at rows j)) firsts true → ((test : ℕ → Bool) → AreTests (length rows) test firsts true → AreWithin (length rows) (length rows) (deps_at rows) test marks true) → MarksUnready rows marks
unready_marks rows firsts marks t spread =
    let w = spread (λ j. not (emitted_at rows j)) t in
    record { inside = w.inside; each = λ i. w.each i ∙ not_not (reaches_some rows (λ j. not (emitted_at rows j)) i) }

and_same : (a b c d : Bool) → a ≡ c → b ≡ d → (a && b) ≡ (c && d)
and_same a b c d e h = ap (λ x. x && b) e ∙ ap (λ x. c && x) h

-- what both marks take along is hit
pub hit_rows : (rows : List InstRow) (test : ℕ → Bool) (un roots re : List Bool) → MarksUnready rows un → AreTests (length rows) test roots false → ((t : ℕ → Bool) → AreTests (length rows) t roots false → AreWithin (length rows) (length rows) (deps_at rows) t re false) → numbered (marked_row un re) 0 rows ≡ hits_failed test rows
hit_rows rows test un roots re u r spread =
    let w = spread test r in
    numbered_same (marked_row un re) (hit_row test rows) 0 rows
    (λ i x. ap (λ b. let y : InstRow = record x { phase = if b then phase.Failed else x.phase } in y) (and_same (mark_at un true i) (mark_at re false i) (not (is_ready rows i)) (reaches_some rows test i) (u.each i) (w.each i)))

test_at : {X : Type 0} (test : X → Bool) (found : Option X) → unwrap_or (option_map test found) false ≡ option_map_or test found false
test_at test None = refl
test_at test (Some r) = refl

-- the marks of the rows that pass a test
pub row_tests : (rows : List InstRow) (test : InstRow → Bool) (marks : List Bool) → marks ≡ map test rows → AreTests (length rows) (λ i. option_map_or test (slice_get rows i) false) marks false
row_tests rows test marks is = record {
  inside = ap length is ∙ length-map rows test;
  each = λ i. ap (λ bs. mark_at bs false i) is ∙ ap (λ o. unwrap_or o false) (slice_get-map test rows i) ∙ test_at test (slice_get rows i);
}

numbered_at : {X Y : Type 0} (f : ℕ → X → Y) (n : ℕ) (xs : List X) (i : ℕ) → slice_get (numbered f n xs) i ≡ option_map (f (n + i)) (slice_get xs i)
numbered_at f n [] i = refl
numbered_at f n (x ∷ xs) zero = ap (λ k. Some (f k x)) (sym (add-zero n))
numbered_at f n (x ∷ xs) (suc i) =
    let e : (n + 1) + i ≡ n + suc i = omega arith in
    numbered_at f (n + 1) xs i ∙ ap (λ k. option_map (f k) (slice_get xs i)) e

unready_at : (test : InstRow → Bool) (found : Option InstRow) (b c : Bool) → b ≡ c → unwrap_or (option_map (λ r. test r && b) found) false ≡ (option_map_or test found false && c)
unready_at test None b c e = refl
unready_at test (Some r) b c e = ap (λ x. test r && x) e

-- the marks of the rows that pass a test and aren't ready
pub unready_tests : (rows : List InstRow) (test : InstRow → Bool) (un marks : List Bool) → MarksUnready rows un → marks ≡ numbered (λ i r. test r && mark_at un true i) 0 rows → AreTests (length rows) (λ i. option_map_or test (slice_get rows i) false && not (is_ready rows i)) marks false
unready_tests rows test un marks u is = record {
  inside = ap length is ∙ numbered_length (λ i r. test r && mark_at un true i) 0 rows;
  each = λ i.
      ap (λ bs. mark_at bs false i) is
      ∙ ap (λ o. unwrap_or o false) (numbered_at (λ k r. test r && mark_at un true k) 0 rows i)
      ∙ ap (λ k. unwrap_or (option_map (λ r. test r && mark_at un true k) (slice_get rows i)) false) (zero-add i)
      ∙ unready_at test (slice_get rows i) (mark_at un true i) (not (is_ready rows i)) (u.each i);
}
