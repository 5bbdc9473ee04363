-- The symbols of a graph, whose names are interned as the symbols are made: a number that was given
-- stays that of its text.
use Rattle.std.proofs.Common.{◌≡◌, false, true, Bool, ℕ, zero, suc, ◌+◌, ◌<◌, cond, List, [], ◌∷◌, ◌++◌, length, get_or, drop, drop-cons, append_assoc, map, Option, None, option_map, refl, sym, ap, ◌∙◌, inl, inr, arith, add-one}
use Rattle.std.specs.Prelude.{Contains, IsTrue}
use Rattle.std.specs.List.{position_from}
use Rattle.std.specs.Str.{bytes_eq}
use Rattle.std.specs.Cmp.Lexicographic.{nat_list_eq_equiv}
use Rattle.std.proofs.lemmas.Bool.{both_ways, cases_Bool}
use Rattle.std.proofs.lemmas.Option.{none-some, same_Some}
use Rattle.elf_read.specs.declared.object.Symbol.{Symbol}
use Rattle.link_model.specs.declared.graph.GSym.{GSym}
use Rattle.orc_ids.specs.declared.ids.NameId.{NameId}
use Rattle.orc_names.specs.Numbers.{KeepsNumbers}
use Rattle.link_graph.specs.Object.{is_common, is_global, name_number, own_number, graph_symbol, graph_symbols}
use Rattle.link_graph.specs.Padding.{trimmed_symbol}
use Rattle.link_graph.specs.declared.cuts.Cut.{Cut}
use Rattle.link_graph.proofs.NameNumbers.{keeps_all}

-- ---- the number of a name

-- a text that isn't the first one is among the others
among_rest : (text x : List ℕ) (names : List (List ℕ)) → bytes_eq text x ≡ false → Contains (x ∷ names) text → Contains names text
among_rest text x names differs (zero, lt, is) = absurd (both_ways (bytes_eq text x) differs (rw (← is) (nat_list_eq_equiv.refl x)))
among_rest text x names differs (suc k, lt, is) = (k, omega arith, is)

-- the first place of a text that the earlier table has
place_kept : (old new : List (List ℕ)) (text : List ℕ) (i : ℕ) → KeepsNumbers old new → Contains old text → position_from (bytes_eq text) i old ≡ position_from (bytes_eq text) i new
place_kept [] new text i keeps c = absurd (omega (arith, c.1))
place_kept (x ∷ old) [] text i keeps c = absurd (none-some x (keeps 0 x refl))
place_kept (x ∷ old) (y ∷ new) text i keeps c =
    let same : y ≡ x = same_Some y x (keeps 0 x refl) in
    elim (cases_Bool (bytes_eq text x)) [
      | inl t ↦ rw (same, t) refl
      | inr f ↦ rw (same, f) (place_kept old new text (i + 1) (λ number text there. keeps (suc number) text there) (among_rest text x old f c))
    ]

pub name_kept : (old new : List (List ℕ)) (text : List ℕ) → KeepsNumbers old new → Contains old text → name_number old text ≡ name_number new text
name_kept old new text keeps c = ap (λ (k : Option ℕ). option_map (λ k. record { 0 = k }) k) (place_kept old new text 0 keeps c)

-- a name that is numbered at all
pub either_kept : (global : Bool) (a b : Option NameId) → (global ≡ true → a ≡ b) → cond global a None ≡ cond global b None
either_kept true a b h = h refl
either_kept false a b h = refl

pub own_kept : (old new : List (List ℕ)) (s : Symbol) → KeepsNumbers old new → (IsTrue (is_global s) → Contains old s.name) → own_number old s ≡ own_number new s
own_kept old new s keeps named = either_kept (is_global s) (name_number old s.name) (name_number new s.name) (λ global. name_kept old new s.name keeps (named global))

-- ---- the first symbols

-- under any later table, what is made is what the graph has before the others
abbrev pub AreMadeUpTo : List (List ℕ) → List (List Cut) → ℕ → ℕ → List Symbol → ℕ → List GSym → Type 0
AreMadeUpTo names cuts first common symbols n made =
    (later : List (List ℕ)) → KeepsNumbers names later →
    made ++ graph_symbols later common (map (trimmed_symbol cuts) (drop n symbols)) ≡ graph_symbols later first (map (trimmed_symbol cuts) symbols)

-- the symbol that has this number under each table where the number is that of its name
abbrev pub IsSymbolOf : Option NameId → List (List Cut) → ℕ → Symbol → GSym → Type 0
IsSymbolOf number cuts common s g = (names : List (List ℕ)) → number ≡ own_number names s → g ≡ graph_symbol names common (trimmed_symbol cuts s)

pub one_more_made : (old new : List (List ℕ)) (cuts : List (List Cut)) (first common next : ℕ) (symbols : List Symbol) (n : ℕ) (s : Symbol) (made : List GSym) (number : Option NameId) (g : GSym) →
    KeepsNumbers old new → n < length symbols → s ≡ get_or symbols n s → number ≡ own_number new s → (IsTrue (is_global s) → Contains new s.name) → IsSymbolOf number cuts common s g →
    cond (is_common s.place) (common + 1) common ≡ next → AreMadeUpTo old cuts first common symbols n made → AreMadeUpTo new cuts first next symbols (n + 1) (made ++ g ∷ [])
one_more_made old new cuts first common next symbols n s made number g older within is given named symbol next_is before later keeps =
    let t = trimmed_symbol cuts in
    let rest : List Symbol = map t (drop (n + 1) symbols) in
    let there : drop n symbols ≡ s ∷ drop (n + 1) symbols = drop-cons symbols n s within ∙ rw (← is, add-one) refl in
    append_assoc made (g ∷ []) (graph_symbols later next rest)
    ∙ ap (λ (x : GSym). made ++ x ∷ graph_symbols later next rest) (symbol later (given ∙ own_kept new later s keeps named))
    ∙ ap (λ (k : ℕ). made ++ graph_symbol later common (t s) ∷ graph_symbols later k rest) (sym next_is)
    ∙ ap (λ (ss : List Symbol). made ++ graph_symbols later common (map t ss)) (sym there)
    ∙ before later (keeps_all old new later older keeps)
