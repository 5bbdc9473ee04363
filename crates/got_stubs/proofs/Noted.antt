-- The marks after one more edge, and the lists that they give.
use Rattle.std.proofs.Common.{◌≡◌, ◌≢◌, ℕ, ◌+◌, ◌<◌, Bool, true, false, ◌&&◌, ◌||◌, ◌==◌, List, [], length, get_or, set, take, replicate, refl, sym, ap, subst, ◌∙◌, inl, inr, get_or-set_same, get_or-set_other, arith}
use Rattle.std.specs.List.{list_any}
use Rattle.std.proofs.lemmas.Bool.{cases_eq, eq-eqb, ne_eqb, and_left, or_right}
use Rattle.std.proofs.lemmas.List.{get_or-replicate, length-replicate, length-set}
use Rattle.std.proofs.lemmas.List.Folds.{list_any_more}
use Rattle.link_model.specs.Graph.{is_referred, numbers_where}
use Rattle.link_model.specs.Layout.{needs_cell, needs_stub, some_edge}
use Rattle.link_model.specs.declared.graph.Edge.{Edge}
use Rattle.got_stubs.specs.declared.marks.Mark.{Mark}
use Rattle.got_stubs.specs.declared.parts.Part.{Part}
use Rattle.got_stubs.specs.Marks.{no_mark, marked, mark_of, AreMarks, has_part, part_at}
use Rattle.got_stubs.proofs.Flags.{numbers_where-same}

pub none_marked : (n : ℕ) → AreMarks [] (replicate n no_mark)
none_marked n s lt = get_or-replicate n s no_mark no_mark (omega (arith, length-replicate n no_mark))

or_false : (b c : Bool) → c ≡ false → (b || c) ≡ b
or_false true c e = refl
or_false false c e = e

same_marks : (a b c a' b' c' : Bool) → a ≡ a' → b ≡ b' → c ≡ c' → ◌≡◌ {A = Mark} (record { referred = a; cell = b; called = c }) (record { referred = a'; cell = b'; called = c' })
same_marks a b c a' b' c' p q r = cc

-- the test of one more edge
any_step : (p : Edge → Bool) (edges : List Edge) (k : ℕ) (e : Edge) → k < length edges → e ≡ get_or edges k e → list_any p (take (k + 1) edges) ≡ (list_any p (take k edges) || p e)
any_step p edges k e lt is = list_any_more p edges k e lt ∙ ap (λ (x : Edge). list_any p (take k edges) || p x) (sym is)

-- the mark of a symbol after one more edge
here : (edges : List Edge) (k : ℕ) (e : Edge) → k < length edges → e ≡ get_or edges k e → marked (mark_of (take k edges) e.target) e ≡ mark_of (take (k + 1) edges) e.target
here edges k e lt is =
    let s = e.target in
    let test : (e.target == s) ≡ true = eq-eqb e.target s refl in
    let any = is_referred (take k edges) s in
    let cell = some_edge needs_cell (take k edges) s in
    let called = some_edge needs_stub (take k edges) s in
    same_marks true (cell || needs_cell e) (called || needs_stub e) (is_referred (take (k + 1) edges) s) (some_edge needs_cell (take (k + 1) edges) s) (some_edge needs_stub (take (k + 1) edges) s)
    (sym (any_step (λ (x : Edge). x.target == s) edges k e lt is ∙ or_right any (e.target == s) test))
    (sym (any_step (λ (x : Edge). x.target == s && needs_cell x) edges k e lt is ∙ ap (λ (t : Bool). cell || t && needs_cell e) test))
    (sym (any_step (λ (x : Edge). x.target == s && needs_stub x) edges k e lt is ∙ ap (λ (t : Bool). called || t && needs_stub e) test))

other : (edges : List Edge) (k s : ℕ) (e : Edge) → k < length edges → e ≡ get_or edges k e → e.target ≢ s → mark_of (take k edges) s ≡ mark_of (take (k + 1) edges) s
other edges k s e lt is target =
    let test : (e.target == s) ≡ false = ne_eqb e.target s target in
    let any = is_referred (take k edges) s in
    let cell = some_edge needs_cell (take k edges) s in
    let called = some_edge needs_stub (take k edges) s in
    same_marks any cell called (is_referred (take (k + 1) edges) s) (some_edge needs_cell (take (k + 1) edges) s) (some_edge needs_stub (take (k + 1) edges) s)
    (sym (any_step (λ (x : Edge). x.target == s) edges k e lt is ∙ or_false any (e.target == s) test))
    (sym (any_step (λ (x : Edge). x.target == s && needs_cell x) edges k e lt is ∙ or_false cell (e.target == s && needs_cell e) (and_left (e.target == s) (needs_cell e) test)))
    (sym (any_step (λ (x : Edge). x.target == s && needs_stub x) edges k e lt is ∙ or_false called (e.target == s && needs_stub e) (and_left (e.target == s) (needs_stub e) test)))

pub one_more_marked : (edges all : List Edge) (marks new : List Mark) (k : ℕ) (e : Edge) → all ≡ edges → k < length all → e ≡ get_or all k e → e.target < length marks → new ≡ set marks e.target (marked (get_or marks e.target no_mark) e) → AreMarks (take k edges) marks → AreMarks (take (k + 1) edges) new
one_more_marked edges all marks new k e same lt is within now are =
    let t = e.target in
    let mark : Mark = marked (get_or marks t no_mark) e in
    let lt' : k < length edges = subst (λ (xs : List Edge). k < length xs) same lt in
    let is' : e ≡ get_or edges k e = subst (λ (xs : List Edge). e ≡ get_or xs k e) same is in
    subst (AreMarks (take (k + 1) edges)) (sym now)
    (λ s inside.
    let within' : s < length marks = omega (arith, length-set marks t mark) in
    elim (cases_eq s t) [
      | inl same ↦
          ap (λ (i : ℕ). get_or (set marks t mark) i no_mark) same
          ∙ get_or-set_same marks t mark no_mark within
          ∙ ap (λ (m : Mark). marked m e) (are t within)
          ∙ here edges k e lt' is'
          ∙ ap (mark_of (take (k + 1) edges)) (sym same)
      | inr differs ↦ get_or-set_other marks t s mark no_mark differs ∙ are s within' ∙ other edges k s e lt' is' (λ q. differs (sym q))
    ])

-- the list of a part, by the marks and by the edges
abbrev pub part_test : Part → List Edge → ℕ → Bool → Bool
part_test part edges s own = has_part part own (mark_of edges s)

pub part_symbols : (part : Part) (edges : List Edge) (marks : List Mark) (own : List Bool) → length own ≡ length marks → AreMarks edges marks → numbers_where (part_at part marks) 0 own ≡ numbers_where (part_test part edges) 0 own
part_symbols part edges marks own same are = numbers_where-same (part_at part marks) (part_test part edges) 0 own (λ s b lt. ap (has_part part b) (are s (omega arith)))

pub part_is : (part : Part) (edges : List Edge) (marks marks' : List Mark) (own own' : List Bool) (out : List ℕ) → out ≡ numbers_where (part_at part marks') 0 own' → marks' ≡ marks → own' ≡ own → length own ≡ length marks → AreMarks edges marks → out ≡ numbers_where (part_test part edges) 0 own
part_is part edges marks marks' own own' out e m o same are =
    e ∙ ap (λ (xs : List Mark). numbers_where (part_at part xs) 0 own') m ∙ ap (λ (bs : List Bool). numbers_where (part_at part marks) 0 bs) o ∙ part_symbols part edges marks own same are
