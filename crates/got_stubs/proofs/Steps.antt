-- What the loops leave after one more element, and the whole layout.
use Rattle.std.proofs.Common.{◌≡◌, ℕ, zero, suc, ◌+◌, ◌*◌, ◌<◌, ◌≤◌, max, Bool, true, false, List, [], ◌∷◌, ◌++◌, length, get_or, take, drop, replicate, refl, sym, ap, subst, ◌∙◌, arith}
use Rattle.std.specs.List.{All}
use Rattle.std.proofs.lemmas.List.{append_assoc, length-append, at_drop_more, drop_all}
use Rattle.link_model.proofs.Symbols.{length_own}
use Rattle.link_model.specs.Graph.{is_defined, is_offered, first_flag, other_flags, own_symbols, external_symbols}
use Rattle.link_model.specs.Layout.{aligned, block_offsets, blocks_end, in_turn, layout_of, cell_symbols, stub_symbols, unit_align, CELL_SIZE, STUB_SIZE}
use Rattle.link_model.specs.Sound.{Sound}
use Rattle.link_model.specs.declared.graph.Block.{Block}
use Rattle.link_model.specs.declared.graph.Edge.{Edge}
use Rattle.link_model.specs.declared.graph.GSym.{GSym}
use Rattle.link_model.specs.declared.graph.LinkGraph.{LinkGraph}
use Rattle.got_stubs.specs.declared.marks.Mark.{Mark}
use Rattle.got_stubs.specs.Marks.{no_mark, AreMarks}
use Rattle.got_stubs.proofs.Flags.{other_flags-drop}
use Rattle.got_stubs.proofs.Noted.{none_marked}

-- one more at the end of what was made, one less at the start of what is left
pushed : {X : Type 0} (made new rest left all : List X) (x : X) → new ≡ made ++ x ∷ [] → left ≡ x ∷ rest → made ++ left ≡ all → new ++ rest ≡ all
pushed made new rest left all x e is before = ap (λ ys. ys ++ rest) e ∙ append_assoc made (x ∷ []) rest ∙ ap (λ ys. made ++ ys) (sym is) ∙ before

-- ---- blocks

next_block : {Y : Type 0} (F : List Block → Y) (bs all : List Block) (k : ℕ) (b : Block) → bs ≡ all → k < length bs → b ≡ get_or bs k b → F (drop k all) ≡ F (b ∷ drop (k + 1) all)
next_block F bs all k b same lt is =
    subst (λ (xs : List Block). F (drop k xs) ≡ F (b ∷ drop (k + 1) xs)) same (at_drop_more F bs k b lt ∙ ap (λ (x : Block). F (x ∷ drop (k + 1) bs)) (sym is))

pub offsets_step : (bs all : List Block) (k end at : ℕ) (b : Block) (os new : List ℕ) → bs ≡ all → k < length bs → b ≡ get_or bs k b → at ≡ aligned end b.align → new ≡ os ++ at ∷ [] → os ++ block_offsets end (drop k all) ≡ block_offsets 0 all → new ++ block_offsets (at + b.size) (drop (k + 1) all) ≡ block_offsets 0 all
offsets_step bs all k end at b os new same lt is e now before =
    pushed os new (block_offsets (at + b.size) (drop (k + 1) all)) (block_offsets end (drop k all)) (block_offsets 0 all) at now
    (next_block (block_offsets end) bs all k b same lt is ∙ ap (λ (x : ℕ). x ∷ block_offsets (x + b.size) (drop (k + 1) all)) (sym e))
    before

pub end_step : (bs all : List Block) (k end at : ℕ) (b : Block) → bs ≡ all → k < length bs → b ≡ get_or bs k b → at ≡ aligned end b.align → blocks_end end (drop k all) ≡ blocks_end 0 all → blocks_end (at + b.size) (drop (k + 1) all) ≡ blocks_end 0 all
end_step bs all k end at b same lt is e before =
    ap (λ (x : ℕ). blocks_end (x + b.size) (drop (k + 1) all)) e ∙ sym (next_block (blocks_end end) bs all k b same lt is) ∙ before

-- ---- symbols

next_symbol : (ss : List GSym) (live : List Bool) (k n : ℕ) (d : GSym) → k < length ss → own_symbols (drop k ss) (drop n live) ≡ own_symbols (get_or ss k d ∷ drop (k + 1) ss) (drop n live)
next_symbol ss live k n d lt = at_drop_more (λ (xs : List GSym). own_symbols xs (drop n live)) ss k d lt

pub offered_step : (ss : List GSym) (live : List Bool) (k n : ℕ) (d : GSym) (made new : List Bool) (flag : Bool) → k < length ss → is_offered (get_or ss k d) ≡ true → flag ≡ first_flag (drop n live) → new ≡ made ++ flag ∷ [] → made ++ own_symbols (drop k ss) (drop n live) ≡ own_symbols ss live → new ++ own_symbols (drop (k + 1) ss) (drop (n + 1) live) ≡ own_symbols ss live
offered_step ss live k n d made new flag lt offered is now before =
    pushed made new (own_symbols (drop (k + 1) ss) (drop (n + 1) live)) (own_symbols (drop k ss) (drop n live)) (own_symbols ss live) flag now
    (next_symbol ss live k n d lt ∙ rw offered (ap (λ (b : Bool). b ∷ own_symbols (drop (k + 1) ss) (other_flags (drop n live))) (sym is) ∙ ap (λ (fs : List Bool). flag ∷ own_symbols (drop (k + 1) ss) fs) (other_flags-drop live n)))
    before

pub other_step : (ss : List GSym) (live : List Bool) (k n : ℕ) (d : GSym) (made new : List Bool) (flag : Bool) → k < length ss → is_offered (get_or ss k d) ≡ false → flag ≡ is_defined (get_or ss k d).place → new ≡ made ++ flag ∷ [] → made ++ own_symbols (drop k ss) (drop n live) ≡ own_symbols ss live → new ++ own_symbols (drop (k + 1) ss) (drop n live) ≡ own_symbols ss live
other_step ss live k n d made new flag lt offered is now before =
    pushed made new (own_symbols (drop (k + 1) ss) (drop n live)) (own_symbols (drop k ss) (drop n live)) (own_symbols ss live) flag now
    (next_symbol ss live k n d lt ∙ rw offered (ap (λ (b : Bool). b ∷ own_symbols (drop (k + 1) ss) (drop n live)) (sym is)))
    before

pub no_more : {X : Type 0} (some rest all : List X) (n : ℕ) → some ++ rest ≡ all → length all ≤ n → length some ≤ n
no_more some rest all n e le = omega (arith, ap length e, length-append some rest, le)

pub owners_whole : (ss : List GSym) (live rest made : List Bool) (k : ℕ) → made ++ own_symbols (drop k ss) rest ≡ own_symbols ss live → length ss ≤ k → length made ≡ length ss
owners_whole ss live rest made k e end =
    let none : own_symbols (drop k ss) rest ≡ [] = ap (λ (xs : List GSym). own_symbols xs rest) (drop_all k ss end) in
    let all : length (made ++ own_symbols (drop k ss) rest) ≡ length ss = ap length e ∙ length_own ss live in
    let more = ap (λ (xs : List Bool). length xs) none in
    omega (arith, length-append made (own_symbols (drop k ss) rest), all, more)

-- ---- marks

take_none : (n : ℕ) → ◌≡◌ {A = List Mark} (take n []) []
take_none zero = refl
take_none (suc n) = refl

pub fresh_marks : (marks made old : List Mark) (n r : ℕ) → marks ≡ made → made ≡ take n old ++ replicate r no_mark → old ≡ [] → AreMarks [] marks
fresh_marks marks made old n r same is empty =
    let all : marks ≡ replicate r no_mark = same ∙ is ∙ ap (λ (xs : List Mark). take n xs ++ replicate r no_mark) empty ∙ ap (λ (xs : List Mark). xs ++ replicate r no_mark) (take_none n) in
    subst (AreMarks []) (sym all) (none_marked r)

pub targets_there : (g : LinkGraph) (es : List Edge) (n : ℕ) → Sound g → es ≡ g.edges → n ≡ length g.symbols → All (λ (e : Edge). e.target < n) es
targets_there g es n sound same count =
    subst (λ (xs : List Edge). All (λ (e : Edge). e.target < n) xs) (sym same) (λ k d lt. let target = (sound.edges k d lt).target in omega (arith, target, count))

-- ---- the layout

pub layout_is : (g : LinkGraph) (live lives : List Bool) (end need align : ℕ) (blocks externals cs ts : List ℕ) (cells stubs : List (ℕ × ℕ)) → blocks ≡ block_offsets 0 g.blocks → end ≡ blocks_end 0 g.blocks → cs ≡ cell_symbols g live → ts ≡ stub_symbols g live → cells ≡ in_turn (aligned end 8) CELL_SIZE cs → stubs ≡ in_turn (aligned (aligned end 8 + CELL_SIZE * length cs) 16) STUB_SIZE ts → need ≡ max 16 (aligned (aligned (aligned end 8 + CELL_SIZE * length cs) 16 + STUB_SIZE * length ts) 16) → align ≡ unit_align g → externals ≡ external_symbols g live → lives ≡ live → record { blocks = blocks; cells = cells; stubs = stubs; shape = record { need = need; align = align }; externals = externals; live = lives } ≡ layout_of g live
layout_is g live lives end need align blocks externals cs ts cells stubs p1 p2 p3 p4 p5 p6 p7 p8 p9 p10 =
    rw (p1, p5, p6, p7, p8, p9, p10, p2, p3, p4) refl
