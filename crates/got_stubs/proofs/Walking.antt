-- One symbol more of a walk over the symbols that have a part.
use Rattle.std.proofs.Common.{◌≡◌, ℕ, ◌+◌, ◌*◌, ◌<◌, Bool, true, false, cond, List, ◌∷◌, length, get_or, drop, max, refl, sym, ap, ◌∙◌, arith}
use Rattle.std.proofs.lemmas.List.{at_drop_more, get_or_default}
use Rattle.link_model.proofs.Symbols.{length_own}
use Rattle.link_model.specs.Graph.{is_defined, is_offered, first_flag, other_flags, own_symbols, numbers_where}
use Rattle.link_model.specs.Layout.{aligned, cell_symbols, stub_symbols, layout_of, CELL_SIZE, STUB_SIZE}
use Rattle.link_model.specs.declared.graph.GSym.{GSym}
use Rattle.link_model.specs.declared.graph.LinkGraph.{LinkGraph}
use Rattle.got_stubs.specs.declared.marks.Mark.{Mark}
use Rattle.got_stubs.specs.declared.parts.Part.{Part}
use Rattle.got_stubs.specs.declared.plan.Plan.{Plan}
use Rattle.got_stubs.specs.Marks.{no_mark, owner_of, next_offer, has_part, part_at, symbols_with}
use Rattle.got_stubs.specs.Plan.{IsPlan}
use Rattle.got_stubs.proofs.Flags.{other_flags-drop}
use Rattle.got_stubs.proofs.Noted.{part_test, part_symbols}

pub owner_first : (b : Bool) (s : GSym) (ss : List GSym) (live : List Bool) (n : ℕ) → cond b (first_flag (drop n live) ∷ own_symbols ss (other_flags (drop n live))) (is_defined s.place ∷ own_symbols ss (drop n live)) ≡ cond b (first_flag (drop n live)) (is_defined s.place) ∷ own_symbols ss (drop (cond b (n + 1) n) live)
owner_first true s ss live n = ap (λ (fs : List Bool). first_flag (drop n live) ∷ own_symbols ss fs) (other_flags-drop live n)
owner_first false s ss live n = refl

pub step : (test : ℕ → Bool → Bool) (ss : List GSym) (live : List Bool) (k n : ℕ) (d : GSym) → k < length ss → numbers_where test k (own_symbols (drop k ss) (drop n live)) ≡ cond (test k (owner_of (get_or ss k d) (drop n live))) (k ∷ numbers_where test (k + 1) (own_symbols (drop (k + 1) ss) (drop (next_offer (get_or ss k d) n) live))) (numbers_where test (k + 1) (own_symbols (drop (k + 1) ss) (drop (next_offer (get_or ss k d) n) live)))
step test ss live k n d lt =
    at_drop_more (λ (xs : List GSym). numbers_where test k (own_symbols xs (drop n live))) ss k d lt
    ∙ ap (numbers_where test k) (owner_first (is_offered (get_or ss k d)) (get_or ss k d) (drop (k + 1) ss) live n)

took_is : (part : Part) (marks : List Mark) (k : ℕ) (m : Mark) (own owner took : Bool) → k < length marks → own ≡ owner → took ≡ has_part part own (get_or marks k m) → part_at part marks k owner ≡ took
took_is part marks k m own owner took lt is e =
    sym (e ∙ ap (has_part part own) (get_or_default marks k m no_mark lt) ∙ ap (λ (b : Bool). part_at part marks k b) is)

-- what is left of the walk
abbrev left_of : Part → List Mark → List GSym → List Bool → ℕ → ℕ → List ℕ
left_of part marks ss live k n = numbers_where (part_at part marks) k (own_symbols (drop k ss) (drop n live))

walked : (part : Part) (marks : List Mark) (ss : List GSym) (live : List Bool) (k n n' : ℕ) (d : GSym) (m : Mark) (own took : Bool) → k < length ss → length marks ≡ length ss → own ≡ owner_of (get_or ss k d) (drop n live) → took ≡ has_part part own (get_or marks k m) → n' ≡ next_offer (get_or ss k d) n → left_of part marks ss live k n ≡ cond took (k ∷ left_of part marks ss live (k + 1) n') (left_of part marks ss live (k + 1) n')
walked part marks ss live k n n' d m own took lt whole is e next =
    let test = took_is part marks k m own (owner_of (get_or ss k d) (drop n live)) took (omega arith) is e in
    step (part_at part marks) ss live k n d lt
    ∙ ap (λ (b : Bool). cond b (k ∷ left_of part marks ss live (k + 1) (next_offer (get_or ss k d) n)) (left_of part marks ss live (k + 1) (next_offer (get_or ss k d) n))) test
    ∙ ap (λ (i : ℕ). cond took (k ∷ left_of part marks ss live (k + 1) i) (left_of part marks ss live (k + 1) i)) (sym next)

pub count_took : (part : Part) (marks : List Mark) (ss : List GSym) (live : List Bool) (k n n' count : ℕ) (d : GSym) (m : Mark) (own took : Bool) (total : ℕ) → k < length ss → length marks ≡ length ss → own ≡ owner_of (get_or ss k d) (drop n live) → took ≡ has_part part own (get_or marks k m) → n' ≡ next_offer (get_or ss k d) n → took ≡ true → count + length (left_of part marks ss live k n) ≡ total → count + 1 + length (left_of part marks ss live (k + 1) n') ≡ total
count_took part marks ss live k n n' count d m own took total lt whole is e next has before =
    let rest : List ℕ = left_of part marks ss live (k + 1) n' in
    let all : left_of part marks ss live k n ≡ k ∷ rest = walked part marks ss live k n n' d m own took lt whole is e next ∙ ap (λ (b : Bool). cond b (k ∷ rest) rest) has in
    let more = ap (λ (xs : List ℕ). length xs) all in
    omega (arith, more, before)

pub count_passed : (part : Part) (marks : List Mark) (ss : List GSym) (live : List Bool) (k n n' count : ℕ) (d : GSym) (m : Mark) (own took : Bool) (total : ℕ) → k < length ss → length marks ≡ length ss → own ≡ owner_of (get_or ss k d) (drop n live) → took ≡ has_part part own (get_or marks k m) → n' ≡ next_offer (get_or ss k d) n → took ≡ false → count + length (left_of part marks ss live k n) ≡ total → count + length (left_of part marks ss live (k + 1) n') ≡ total
count_passed part marks ss live k n n' count d m own took total lt whole is e next lacks before =
    let rest : List ℕ = left_of part marks ss live (k + 1) n' in
    let all : left_of part marks ss live k n ≡ rest = walked part marks ss live k n n' d m own took lt whole is e next ∙ ap (λ (b : Bool). cond b (k ∷ rest) rest) lacks in
    let more = ap (λ (xs : List ℕ). length xs) all in
    omega (arith, more, before)

-- ---- by a plan

pub planned : (part : Part) (g : LinkGraph) (plan : Plan) (live : List Bool) (marks : List Mark) (ss : List GSym) → IsPlan g plan → marks ≡ plan.marks.items → ss ≡ g.symbols → symbols_with part marks ss live ≡ numbers_where (part_test part g.edges) 0 (own_symbols g.symbols live)
planned part g plan live marks ss is m s =
    ap (λ (xs : List Mark). symbols_with part xs ss live) m
    ∙ ap (λ (xs : List GSym). symbols_with part plan.marks.items xs live) s
    ∙ part_symbols part g.edges plan.marks.items (own_symbols g.symbols live) (length_own g.symbols live ∙ sym is.whole) is.marks

pub shape_is : (g : LinkGraph) (plan : Plan) (live : List Bool) (need cells stubs : ℕ) → IsPlan g plan → need ≡ max 16 (aligned (aligned (aligned plan.end 8 + CELL_SIZE * cells) 16 + STUB_SIZE * stubs) 16) → cells ≡ length (cell_symbols g live) → stubs ≡ length (stub_symbols g live) → record { need = need; align = plan.align } ≡ (layout_of g live).shape
shape_is g plan live need cells stubs is e c s =
    rw (e, is.end, is.align, c, s) refl
