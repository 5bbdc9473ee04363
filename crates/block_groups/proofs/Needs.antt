-- What a search backwards finds: the blocks that need a symbol.
use Rattle.std.proofs.Common.{◌≡◌, ℕ, ◌+◌, ◌<◌, cond, Bool, true, false, List, [], ◌∷◌, ◌++◌, length, take, get_or, Option, Some, None, refl, sym, ap, subst, ◌∙◌, inl, inr}
use Rattle.std.specs.Prelude.{Contains, zip}
use Rattle.std.specs.List.{filter_map}
use Rattle.std.proofs.lemmas.Bool.{false≢true}
use Rattle.std.proofs.lemmas.List.{append-nil}
use Rattle.std.proofs.lemmas.List.Elements.{filter_map-append}
use Rattle.link_model.proofs.Symbols.{no_edges}
use Rattle.list_laws.proofs.Bools.{bool_same}
use Rattle.graph_walks.specs.Walks.{IsPath, Reaches, IsBounded}
use Rattle.graph_walks.proofs.Paths.{reaches_self, reaches_next, reach_is_transitive, walks_suffice}
use Rattle.orc_ids.specs.declared.ids.InstId.{InstId}
use Rattle.block_groups.specs.Groups.{leads_to, next_blocks, refers_to, needs, needed}
use Rattle.link_model.specs.Sound.{Sound}
use Rattle.link_model.specs.declared.graph.LinkGraph.{LinkGraph}
use Rattle.block_groups.specs.Backwards.{is_seen, IsMore, IsSpread, IsClear, AreHandedOut}
use Rattle.block_groups.specs.Keys.{AreKeyed, target_of}
use Rattle.block_groups.specs.Lists.{row}
use Rattle.block_groups.specs.Members.{AreDeps}
use Rattle.block_groups.specs.declared.backwards.Search.{Search}
use Rattle.block_groups.proofs.Keyed.{to_next, from_next, to_refers, from_refers}
use Rattle.block_groups.proofs.Rows.{zip_more}

abbrev Leading : LinkGraph → List Bool → List (List ℕ) → Type 0
Leading g live lists = AreKeyed (leads_to g live) g.edges (length g.blocks) lists

led_to : (g : LinkGraph) (live : List Bool) (lists : List (List ℕ)) (a b : ℕ) → Leading g live lists → Contains (row lists b) a → Contains (next_blocks g live a) b
led_to g live lists a b is c = to_next (leads_to g live) a b g.edges (is.only b a c)

led_from : (g : LinkGraph) (live : List Bool) (lists : List (List ℕ)) (a b : ℕ) → Leading g live lists → Contains (next_blocks g live a) b → Contains (row lists b) a
led_from g live lists a b is c = is.all b a (from_next (leads_to g live) a b g.edges c)

-- a way over the lists is one over the edges, backwards
turned : (g : LinkGraph) (live : List Bool) (lists : List (List ℕ)) (a b : ℕ) (path : List ℕ) → Leading g live lists → IsPath (row lists) a path b → Reaches (next_blocks g live) b a
turned g live lists a b [] is e = subst (λ (x : ℕ). Reaches (next_blocks g live) x a) e (reaches_self (next_blocks g live) a)
turned g live lists a b (k ∷ ks) is e =
    reach_is_transitive (next_blocks g live) b k a (turned g live lists k b ks is e.1)
    (reaches_next (next_blocks g live) k a a (led_to g live lists k a is e.0) (reaches_self (next_blocks g live) a))

pub bounded : (g : LinkGraph) (live : List Bool) → Sound g → IsBounded (length g.blocks) (next_blocks g live)
bounded g live sound = λ b h. ap (filter_map (leads_to g live)) (no_edges g.edges (length g.blocks) b (λ k d lt. (sound.edges k d lt).block) h)

-- a block that leads to one that was found was found
back : (g : LinkGraph) (live : List Bool) (lists : List (List ℕ)) (s new : Search) (a b : ℕ) (path : List ℕ) → Leading g live lists → IsSpread lists s new → IsPath (next_blocks g live) a path b → is_seen new b ≡ true → is_seen new a ≡ true
back g live lists s new a b [] is spread e h = ap (is_seen new) e ∙ h
back g live lists s new a b (k ∷ ks) is spread e h =
    spread.closed k a (back g live lists s new k b ks is spread e.1 h) (led_from g live lists a k is e.0)

pub needing_is : (g : LinkGraph) (live : List Bool) (leading referring : List (List ℕ)) (old s new : Search) (blocks : List ℕ) (symbol b : ℕ) → Sound g → Leading g live leading → AreKeyed target_of g.edges (length g.symbols) referring → blocks ≡ row referring symbol → IsClear old → IsMore old blocks s → IsSpread leading s new → is_seen new b ≡ needs g live symbol b
needing_is g live leading referring old s new blocks symbol b sound is refer at clear more spread =
    let walks = walks_suffice (length g.blocks) (next_blocks g live) (refers_to g symbol) b (bounded g live sound) in
    bool_same (is_seen new b) (needs g live symbol b)
    (λ h.
    let cause = spread.caused b h in
    let by : Contains blocks cause.by = elim (more.only cause.by cause.before) [
      | inl was ↦ absurd (false≢true (sym (clear.none cause.by) ∙ was))
      | inr c ↦ c
    ] in
    walks.1 (cause.by, turned g live leading cause.by b cause.reaches.path is cause.reaches.leads, to_refers cause.by symbol g.edges (refer.only symbol cause.by (subst (λ (xs : List ℕ). Contains xs cause.by) at by))))
    (λ h.
    let way = walks.0 h in
    let here : is_seen s way.0 ≡ true = more.here way.0 (subst (λ (xs : List ℕ). Contains xs way.0) (sym at) (refer.all symbol way.0 (from_refers way.0 symbol g.edges way.2))) in
    back g live leading s new b way.0 way.1.path is spread way.1.leads (spread.stays way.0 here))

-- ---- one external more

abbrev chosen : LinkGraph → List Bool → ℕ → ℕ × Option InstId → Option InstId
chosen g live b p = cond (needs g live p.0 b) p.1 None

needed_more : (g : LinkGraph) (live : List Bool) (externals : List ℕ) (bound : List (Option InstId)) (k b : ℕ) (d : ℕ) (e : Option InstId) → k < length externals → k < length bound → needed g live (take (k + 1) externals) (take (k + 1) bound) b ≡ needed g live (take k externals) (take k bound) b ++ filter_map (chosen g live b) ((get_or externals k d, get_or bound k e) ∷ [])
needed_more g live externals bound k b d e p q =
    ap (filter_map (chosen g live b)) (zip_more externals bound k d e p q)
    ∙ filter_map-append (chosen g live b) (zip (take k externals) (take k bound)) ((get_or externals k d, get_or bound k e) ∷ [])

one_chosen : (t : Bool) (i : InstId) (xs : List InstId) → cond t (xs ++ i ∷ []) xs ≡ xs ++ filter_map (λ (o : Option InstId). o) (cond t (Some i) None ∷ [])
one_chosen true i xs = refl
one_chosen false i xs = sym (append-nil xs)

none_chosen : (t : Bool) (xs : List InstId) → xs ≡ xs ++ filter_map (λ (o : Option InstId). o) (cond t None None ∷ [])
none_chosen true xs = sym (append-nil xs)
none_chosen false xs = sym (append-nil xs)

pub deps_next : (g : LinkGraph) (live : List Bool) (externals : List ℕ) (bound : List (Option InstId)) (k x : ℕ) (i : InstId) (s : Search) (old new : List (List InstId)) → k < length externals → k < length bound → x ≡ get_or externals k 0 → get_or bound k None ≡ Some i → ((b : ℕ) → is_seen s b ≡ needs g live x b) → AreHandedOut s i old new → AreDeps g live (take k externals) (take k bound) old → AreDeps g live (take (k + 1) externals) (take (k + 1) bound) new
deps_next g live externals bound k x i s old new p q is has needing handed deps = record {
  whole = handed.whole ∙ deps.whole;
  rows = λ b lt.
      let before = needed g live (take k externals) (take k bound) b in
      handed.rows b
      ∙ ap (λ (t : Bool). cond t (row old b ++ i ∷ []) (row old b)) (needing b)
      ∙ ap (λ (xs : List InstId). cond (needs g live x b) (xs ++ i ∷ []) xs) (deps.rows b lt)
      ∙ one_chosen (needs g live x b) i before
      ∙ ap (λ (y : ℕ). before ++ filter_map (λ (o : Option InstId). o) (cond (needs g live y b) (Some i) None ∷ [])) is
      ∙ ap (λ (o : Option InstId). before ++ filter_map (λ (z : Option InstId). z) (cond (needs g live (get_or externals k 0) b) o None ∷ [])) (sym has)
      ∙ sym (needed_more g live externals bound k b 0 None p q);
}

pub deps_past : (g : LinkGraph) (live : List Bool) (externals : List ℕ) (bound : List (Option InstId)) (k : ℕ) (old : List (List InstId)) → k < length externals → k < length bound → get_or bound k None ≡ None → AreDeps g live (take k externals) (take k bound) old → AreDeps g live (take (k + 1) externals) (take (k + 1) bound) old
deps_past g live externals bound k old p q none deps = record {
  whole = deps.whole;
  rows = λ b lt.
      let before = needed g live (take k externals) (take k bound) b in
      deps.rows b lt
      ∙ none_chosen (needs g live (get_or externals k 0) b) before
      ∙ ap (λ (o : Option InstId). before ++ filter_map (λ (z : Option InstId). z) (cond (needs g live (get_or externals k 0) b) o None ∷ [])) (sym none)
      ∙ sym (needed_more g live externals bound k b 0 None p q);
}
