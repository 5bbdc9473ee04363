-- The graphs of the objects.
use Rattle.std.proofs.Common.{◌≡◌, ℕ, ◌+◌, ◌<◌, ◌≤◌, ◌^◌, ◌⊎◌, inl, inr, Bool, true, false, List, [], ◌∷◌, length, Option, Some, refl, sym, ap, ◌∙◌, subst, arith}
use Rattle.std.specs.Prelude.{◌≢◌, ◌==◌, IfOk, IsSome, IsTrue, Result, Ok, Err, if◌then◌else◌}
use Rattle.std.specs.List.{All, AllPairs}
use Rattle.std.proofs.lemmas.Bool.{both_ways, cases_eq, eq-eqb, ne_eqb}
use Rattle.std.proofs.lemmas.List.Elements.{All-cons, All-nil}
use Rattle.std.proofs.lemmas.List.Kept.{AllPairs-cons}
use Rattle.orc_ids.specs.declared.ids.NameId.{NameId}
use Rattle.elf_write.specs.Bytes.{number_bytes}
use Rattle.link_graph.specs.Checks.{graph_of_object}
use Rattle.link_graph.specs.Object.{name_number}
use Rattle.link_model.specs.Graph.{is_offered}
use Rattle.link_model.specs.Kinds.{row_of, rule_of}
use Rattle.link_model.specs.Sound.{EdgeFits, IsAlignment, IsSized, OffersDiffer, PlaceFits, Sound}
use Rattle.link_model.specs.declared.graph.Block.{Block}
use Rattle.link_model.specs.declared.graph.GPlace.TheVariants.{External, In}
use Rattle.link_model.specs.declared.graph.GSym.{GSym}
use Rattle.link_model.specs.declared.graph.LinkGraph.{LinkGraph}
use Rattle.generated_objects.specs.Graphs.{call_edge, code_block, function_number, graph_calling, linked_graph, lone_graph, named, nameless}
use Rattle.generated_objects.specs.Objects.{function_name, generated_object, linked_object, lone_object, object_calling, session_names}
use Rattle.generated_objects.specs.Rings.{next}
use Rattle.generated_objects.proofs.Canonicals.{code_length}
use Rattle.generated_objects.proofs.NamesApart.{function_stands}

-- ---- what the graph of an object is

lone_is : (names : List (List ℕ)) (k : ℕ) → graph_of_object names (lone_object k) ≡ Ok (lone_graph (name_number names (function_name k)) k)
unfolding row_of number_bytes
lone_is names k = refl

linked_is : (names : List (List ℕ)) (callee k : ℕ) → graph_of_object names (linked_object callee k) ≡ Ok (linked_graph (name_number names (function_name k)) (name_number names (function_name callee)) k)
unfolding row_of number_bytes
linked_is names callee k = refl

calling_is : (n callee k : ℕ) → callee < n → k < n → n < 2 ^ 31 → graph_of_object (session_names n) (object_calling callee k) ≡ Ok (graph_calling callee k)
calling_is n callee k there below few = split (cases_eq callee k)
  where
    own : name_number (session_names n) (function_name k) ≡ Some (function_number k)
    own = function_stands n k below few

    other : name_number (session_names n) (function_name callee) ≡ Some (function_number callee)
    other = function_stands n callee there few

    Is : Bool → Type 0
    Is b = graph_of_object (session_names n) (if b then lone_object k else linked_object callee k) ≡ Ok (if b then lone_graph (Some (function_number k)) k else linked_graph (Some (function_number k)) (Some (function_number callee)) k)

    split : (callee ≡ k) ⊎ (callee ≡ k → ⊥) → graph_of_object (session_names n) (object_calling callee k) ≡ Ok (graph_calling callee k)
    split (inl same) = subst Is (sym (eq-eqb callee k same)) (lone_is (session_names n) k ∙ ap (λ o. Ok (lone_graph o k)) own)
    split (inr apart) = subst Is (sym (ne_eqb callee k apart))
        (linked_is (session_names n) callee k ∙ (ap (λ o. Ok (linked_graph o (name_number (session_names n) (function_name callee)) k)) own ∙ ap (λ o. Ok (linked_graph (Some (function_number k)) o k)) other))

pub graph_exact : (n k : ℕ) (g : LinkGraph) → next n k < n → k < n → n < 2 ^ 31 → g ≡ graph_calling (next n k) k → graph_of_object (session_names n) (generated_object n k) ≡ Ok g
graph_exact n k g there below few is = calling_is n (next n k) k there below few ∙ ap Ok (sym is)

-- ---- its parts

one : {X : Type 0} (P : X → Type 0) (x : X) → P x → All P (x ∷ [])
one P x p = All-cons P x [] p (All-nil P)

abbrev graph_with : List GSym → ℕ → ℕ → LinkGraph
graph_with symbols called k = record { blocks = code_block k ∷ []; symbols = symbols; edges = call_edge called ∷ [] }

edge_fits : (symbols : List GSym) (called k : ℕ) → called < length symbols → EdgeFits (graph_with symbols called k) (call_edge called)
unfolding row_of
edge_fits symbols called k there = record { block = omega arith; inside = inside; known = refl; target = there }
  where
    width : (rule_of 19).width ≡ 8
    width = refl

    inside : 8 + (rule_of 19).width ≤ 24
    inside = omega (arith, width)

four : IsAlignment 4
four = (2, omega arith, refl)

-- the symbols lie in the block, or nowhere
abbrev Placed : List GSym → ℕ → ℕ → GSym → Type 0
Placed symbols called k s = PlaceFits (graph_with symbols called k) s.place

sound_of : (symbols : List GSym) (called k : ℕ) → called < length symbols → All (Placed symbols called k) symbols → Sound (graph_with symbols called k)
sound_of symbols called k there placed = let len = code_length k in record {
  bytes = one (λ (b : Block). length b.bytes ≤ b.size) (code_block k) (omega (arith, len));
  aligns = one (λ (b : Block). 0 < b.align) (code_block k) (omega arith);
  symbols = placed;
  edges = one (EdgeFits (graph_with symbols called k)) (call_edge called) (edge_fits symbols called k there);
}

sized_of : (symbols : List GSym) (called k : ℕ) → length symbols ≤ 3 → IsSized (graph_with symbols called k)
sized_of symbols called k few = record {
  blocks = omega arith;
  symbols = omega (arith, few);
  edges = omega arith;
  bytes = omega arith;
  aligns = one (λ (b : Block). IsAlignment b.align) (code_block k) four;
}

in_block : (symbols : List GSym) (called k : ℕ) (own : Option NameId) → Placed symbols called k (named own (In 0 0))
in_block symbols called k own = ((omega arith), (omega arith))

abbrev lone_symbols : Option NameId → List GSym
lone_symbols own = nameless ∷ named own (In 0 0) ∷ []

abbrev linked_symbols : Option NameId → Option NameId → List GSym
linked_symbols own other = nameless ∷ named own (In 0 0) ∷ named other (External false) ∷ []

lone_sound : (own : Option NameId) (k : ℕ) → Sound (lone_graph own k)
lone_sound own k =
    let P = Placed (lone_symbols own) 1 k in
    sound_of (lone_symbols own) 1 k (omega arith) (All-cons P nameless (named own (In 0 0) ∷ []) tt (one P (named own (In 0 0)) (in_block (lone_symbols own) 1 k own)))

linked_sound : (own other : Option NameId) (k : ℕ) → Sound (linked_graph own other k)
linked_sound own other k =
    let P = Placed (linked_symbols own other) 2 k in
    sound_of (linked_symbols own other) 2 k (omega arith)
    (All-cons P nameless (named own (In 0 0) ∷ named other (External false) ∷ []) tt
    (All-cons P (named own (In 0 0)) (named other (External false) ∷ []) (in_block (linked_symbols own other) 2 k own) (one P (named other (External false)) tt)))

-- one symbol is offered alone
abbrev IsNamed : GSym → Type 0
IsNamed s = IsTrue (is_offered s) → IsSome s.name

abbrev Differ : GSym → GSym → Type 0
Differ s t = IsTrue (is_offered s) → IsTrue (is_offered t) → s.name ≢ t.name

no_pairs : AllPairs Differ []
no_pairs i j d less there = absurd (omega (arith, there))

lone_offers : (own : NameId) (k : ℕ) → OffersDiffer (lone_graph (Some own) k)
lone_offers own k = record {
  named = All-cons IsNamed nameless (named (Some own) (In 0 0) ∷ []) (λ p. absurd (both_ways false refl p)) (one IsNamed (named (Some own) (In 0 0)) (λ p. refl));
  differ = AllPairs-cons Differ nameless (named (Some own) (In 0 0) ∷ []) (one (Differ nameless) (named (Some own) (In 0 0)) (λ p. absurd (both_ways false refl p)))
      (AllPairs-cons Differ (named (Some own) (In 0 0)) [] (All-nil (Differ (named (Some own) (In 0 0)))) no_pairs);
}

linked_offers : (own : NameId) (other : Option NameId) (k : ℕ) → OffersDiffer (linked_graph (Some own) other k)
linked_offers own other k =
    let a = named (Some own) (In 0 0) in
    let b = named other (External false) in
    record {
      named = All-cons IsNamed nameless (a ∷ b ∷ []) (λ p. absurd (both_ways false refl p)) (All-cons IsNamed a (b ∷ []) (λ p. refl) (one IsNamed b (λ p. absurd (both_ways false refl p))));
      differ = AllPairs-cons Differ nameless (a ∷ b ∷ []) (All-cons (Differ nameless) a (b ∷ []) (λ p. absurd (both_ways false refl p)) (one (Differ nameless) b (λ p. absurd (both_ways false refl p))))
          (AllPairs-cons Differ a (b ∷ []) (one (Differ a) b (λ p q. absurd (both_ways false refl q))) (AllPairs-cons Differ b [] (All-nil (Differ b)) no_pairs));
    }

-- ---- both kinds

by_kind : (P : LinkGraph → Type 0) (callee k : ℕ) → P (lone_graph (Some (function_number k)) k) → P (linked_graph (Some (function_number k)) (Some (function_number callee)) k) → (g : LinkGraph) → g ≡ graph_calling callee k → P g
by_kind P callee k lone linked g is = subst P (sym is) (split (callee == k))
  where
    split : (b : Bool) → P (if b then lone_graph (Some (function_number k)) k else linked_graph (Some (function_number k)) (Some (function_number callee)) k)
    split true = lone
    split false = linked

pub graph_sound : (callee k : ℕ) (g : LinkGraph) → g ≡ graph_calling callee k → Sound g
graph_sound callee k = by_kind Sound callee k (lone_sound (Some (function_number k)) k) (linked_sound (Some (function_number k)) (Some (function_number callee)) k)

pub graph_sized : (callee k : ℕ) (g : LinkGraph) → g ≡ graph_calling callee k → IsSized g
graph_sized callee k = by_kind IsSized callee k (sized_of (lone_symbols (Some (function_number k))) 1 k (omega arith)) (sized_of (linked_symbols (Some (function_number k)) (Some (function_number callee))) 2 k (omega arith))

pub graph_offers : (callee k : ℕ) (g : LinkGraph) → g ≡ graph_calling callee k → OffersDiffer g
graph_offers callee k = by_kind OffersDiffer callee k (lone_offers (function_number k) k) (linked_offers (function_number k) (Some (function_number callee)) k)

-- ---- answers

pub if_ok : {T E : Type 0} (P Q : T → Type 0) → ((x : T) → P x → Q x) → (r : Result T E) → IfOk r P → IfOk r Q
if_ok P Q f (Ok x) p = f x p
if_ok P Q f (Err e) p = tt
