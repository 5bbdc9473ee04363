-- What is shown of the parts is matched as the session is.
use Rattle.std.proofs.Common.{◌≡◌, ℕ, ◌+◌, ◌<◌, ◌≤◌, ◌∙◌, ◌⊎◌, inl, inr, suc, Bool, true, false, ◌&&◌, ◌==◌, not, ap, ap₂, refl, sym, subst, List, [], ◌∷◌, length, map, slice_get, nat_lt, nat_eq, Option, Some, None, option_map}
use Rattle.std.specs.Bool.{if◌then◌else◌}
use Rattle.std.specs.Map.{lookup}
use Rattle.std.specs.Option.{option_map_or}
use Rattle.std.proofs.lemmas.Bool.{cases_Bool, eqb-true, ltb-true, ltb-false, lt-ltb}
use Rattle.std.proofs.lemmas.Option.{none-some, same_Some, slice_get_past, slice_get-map}
use Rattle.orc_ids.specs.declared.ids.DylibId.{DylibId}
use Rattle.orc_ids.specs.declared.ids.GenId.{GenId}
use Rattle.orc_ids.specs.declared.lookup.OrderItem.{OrderItem}
use Rattle.orc_ids.specs.declared.lookup.Scope.{Scope}
use Rattle.generators.specs.Laws.{without_tracker, AreRowsOf}
use Rattle.generators.specs.Rows.{gen_row, first_offer}
use Rattle.generators.specs.declared.generator.Generator.{Generator}
use Rattle.generators.proofs.Session.{offered_same}
use Rattle.jit_dylib.specs.Rows.{Rows, row_at}
use Rattle.jit_dylib.specs.Shelf.{Shelf, table_of}
use Rattle.session_model.specs.Answer.{no_dylib, order_dylibs}
use Rattle.session_model.specs.Lists.{or_else, only_if}
use Rattle.session_model.specs.Match.{sees, first_row, row_of, offered_by, match_in}
use Rattle.session_model.specs.Meaning.{Meaning}
use Rattle.session_model.specs.Plain.{Plain, GenRow, has_dylib, failed_at, is_failed}
use Rattle.session_model.specs.declared.entry.Reply.TheVariants as reply
use Rattle.session_model.specs.declared.rows.Dylib.{Dylib}
use Rattle.session_model.specs.declared.rows.InstRow.{InstRow}
use Rattle.session_model.specs.declared.rows.Match.{Match}
use Rattle.session_model.specs.declared.rows.Match.TheVariants.{Instance, Offered}
use Rattle.session_model.specs.declared.rows.Row.{Row}
use Rattle.session_parts.specs.Parts.{AreParts, HaveDylibs}
use Rattle.session_parts.specs.Tied.{AreDylibs, generator_tracker}
use Rattle.session_parts.specs.declared.parts.Parts.{Parts}
use Rattle.session_replies.specs.Shown.{Sight, sight_of, seen_row, shown}
use Rattle.session_replies.proofs.Comparing.{MatchSame, FailSame, first_same}

-- Rows

absorbed : (a b : Bool) → (b ≡ true → a ≡ true) → (a && b) ≡ b
absorbed true b h = refl
absorbed false true h = h refl
absorbed false false h = refl

excluded : (a b : Bool) → (b ≡ true → a ≡ false) → (a && b) ≡ false
excluded false b h = refl
excluded true true h = h refl
excluded true false h = refl

-- the present rows of a name in a dylib
abbrev is_here : ℕ → ℕ → InstRow → Bool
is_here d name r = r.present && r.dylib.0 == d && r.name.0 == name

seen_here : (n d name : ℕ) → nat_lt d n ≡ true → (r : InstRow) → is_here d name (seen_row n r) ≡ is_here d name r
seen_here n d name b r = by_present r.present
  where
    within : (r.dylib.0 == d) ≡ true → nat_lt r.dylib.0 n ≡ true
    within e = subst (λ k. nat_lt k n ≡ true) (sym (eqb-true r.dylib.0 d e)) b

    by_present : (p : Bool) → (((p && nat_lt r.dylib.0 n) && (r.dylib.0 == d)) && (r.name.0 == name)) ≡ ((p && (r.dylib.0 == d)) && (r.name.0 == name))
    by_present true = ap (λ t. t && (r.name.0 == name)) (absorbed (nat_lt r.dylib.0 n) (r.dylib.0 == d) within)
    by_present false = refl

unseen_here : (n d name : ℕ) → nat_lt d n ≡ false → (r : InstRow) → is_here d name (seen_row n r) ≡ false
unseen_here n d name b r = by_present r.present
  where
    beyond : (r.dylib.0 == d) ≡ true → nat_lt r.dylib.0 n ≡ false
    beyond e = subst (λ k. nat_lt k n ≡ false) (sym (eqb-true r.dylib.0 d e)) b

    by_present : (p : Bool) → (((p && nat_lt r.dylib.0 n) && (r.dylib.0 == d)) && (r.name.0 == name)) ≡ false
    by_present true = ap (λ t. t && (r.name.0 == name)) (excluded (nat_lt r.dylib.0 n) (r.dylib.0 == d) beyond)
    by_present false = refl

abbrev found_here : ℕ → InstRow → Option Row
found_here k r = Some (record { inst = record { 0 = k }; flags = r.flags })

seen_from : (n d name : ℕ) → nat_lt d n ≡ true → (k : ℕ) (rows : List InstRow) → first_row (is_here d name) k (map (seen_row n) rows) ≡ first_row (is_here d name) k rows
seen_from n d name b k [] = refl
seen_from n d name b k (r ∷ rs) = ap₂ (λ t o. if t then found_here k r else o) (seen_here n d name b r) (seen_from n d name b (k + 1) rs)

unseen_from : (n d name : ℕ) → nat_lt d n ≡ false → (k : ℕ) (rows : List InstRow) → first_row (is_here d name) k (map (seen_row n) rows) ≡ None
unseen_from n d name b k [] = refl
unseen_from n d name b k (r ∷ rs) = ap₂ (λ t o. if t then found_here k r else o) (unseen_here n d name b r) (unseen_from n d name b (k + 1) rs)

-- in a dylib that is there each row is seen
seen_rows : (n : ℕ) (rows : List InstRow) (d name : ℕ) → nat_lt d n ≡ true → row_of (map (seen_row n) rows) d name ≡ row_of rows d name
seen_rows n rows d name b = seen_from n d name b 0 rows

pub table_shows : (shelf : Shelf) (rows : List InstRow) (d name : ℕ) → AreDylibs shelf shelf.dylibs rows → row_at (table_of shelf d) name ≡ row_of (map (seen_row (length shelf.dylibs)) rows) d name
table_shows shelf rows d name are = split (cases_Bool (nat_lt d (length shelf.dylibs)))
  where
    split : (nat_lt d (length shelf.dylibs) ≡ true) ⊎ (nat_lt d (length shelf.dylibs) ≡ false) → row_at (table_of shelf d) name ≡ row_of (map (seen_row (length shelf.dylibs)) rows) d name
    split (inl b) = are.tables d (ltb-true d (length shelf.dylibs) b) name ∙ sym (seen_rows (length shelf.dylibs) rows d name b)
    split (inr b) = ap (λ o. lookup (nat_eq name) (option_map_or (λ (t : Rows). t) o [])) (slice_get_past shelf.tables d (subst (λ n. n ≤ d) (sym are.count) (ltb-false d (length shelf.dylibs) b)))
        ∙ sym (unseen_from (length shelf.dylibs) d name b 0 rows)

-- where each row is of a dylib that is there all are seen
all_seen : (n : ℕ) (rows : List InstRow) → ((i : ℕ) (r : InstRow) → slice_get rows i ≡ Some r → r.dylib.0 < n) → map (seen_row n) rows ≡ rows
all_seen n [] h = refl
all_seen n (r ∷ rs) h = ap₂ (λ b ys. record r { present = b } ∷ ys) (kept r.present) (all_seen n rs (λ i. h (suc i)))
  where
    kept : (p : Bool) → (p && nat_lt r.dylib.0 n) ≡ p
    kept true = lt-ltb r.dylib.0 n (h 0 r refl)
    kept false = refl

failed_shown : (n : ℕ) (rows : List InstRow) (i : ℕ) → failed_at (map (seen_row n) rows) i ≡ failed_at rows i
failed_shown n rows i = ap (λ o. option_map_or (λ (r : InstRow). is_failed r.phase) o false) (slice_get-map (seen_row n) rows i) ∙ one (slice_get rows i)
  where
    one : (o : Option InstRow) → option_map_or (λ (r : InstRow). is_failed r.phase) (option_map (seen_row n) o) false ≡ option_map_or (λ (r : InstRow). is_failed r.phase) o false
    one None = refl
    one (Some r) = refl

-- Generators

are_own_rows : {U : Type 0} (means : U → Meaning) (rows : List (Generator U)) → AreRowsOf means rows (map (gen_row means 0) rows)
are_own_rows means [] = refl
are_own_rows means (x ∷ xs) = ap (λ ys. gen_row means 0 x ∷ ys) (are_own_rows means xs)

pub offers_shown : {U : Type 0} (means : U → Meaning) (rows : List (Generator U)) (d name : ℕ) (scope : Scope) → first_offer means rows d name scope ≡ offered_by (map (gen_row means 0) rows) d name scope
offers_shown means rows d name scope = sym (offered_same means rows (map (gen_row means 0) rows) d name scope (are_own_rows means rows))

-- each generator is the session's but for its tracker
rows_from : {U : Type 0} (means : U → Meaning) (rows : List (Generator U)) (generators : List GenRow) (tracker : ℕ → ℕ) → ((g : ℕ) → slice_get generators g ≡ option_map (gen_row means (tracker g)) (slice_get rows g)) → AreRowsOf means rows generators
rows_from means [] [] tracker h = refl
rows_from means [] (g ∷ gs) tracker h = absurd (none-some g (sym (h 0)))
rows_from means (x ∷ xs) [] tracker h = absurd (none-some (gen_row means (tracker 0) x) (h 0))
rows_from means (x ∷ xs) (g ∷ gs) tracker h = ap₂ (λ y ys. y ∷ ys) (ap without_tracker (same_Some g (gen_row means (tracker 0) x) (h 0))) (rows_from means xs gs (λ k. tracker (suc k)) (λ k. h (suc k)))

-- A sight of a session's parts

pub record IsSightOf {U : Type 0} (means : U → Meaning) (s : Sight U) (m : Plain) : Type 0 where
  pub dylibs : s.shelf.dylibs ≡ m.dylibs
  pub rows : s.rows ≡ m.rows
  pub generators : AreRowsOf means s.generators m.generators

pub sight_is : {U N : Type 0} (means : U → Meaning) (p : Parts U N) (m : Plain) → AreParts means p m → IsSightOf means (sight_of p) m
sight_is means p m a = record {
  dylibs = a.kept.dylibs.dylibs_are;
  rows = a.kept.rows;
  generators = rows_from means p.generators.rows m.generators (generator_tracker m.generators) a.kept.generators.rows;
}

known_shown : {U : Type 0} (means : U → Meaning) (s : Sight U) (m : Plain) → IsSightOf means s m → (d : ℕ) → has_dylib (shown means s) d ≡ has_dylib m d
known_shown means s m is d = ap (λ (ds : List Dylib). nat_lt d (length ds)) is.dylibs

pub no_dylib_shown : {U : Type 0} (means : U → Meaning) (s : Sight U) (m : Plain) → IsSightOf means s m → (ds : List DylibId) → no_dylib (shown means s) ds ≡ no_dylib m ds
no_dylib_shown means s m is [] = refl
no_dylib_shown means s m is (d ∷ ds) = ap₂ (λ b o. or_else (only_if (not b) (reply.NoDylib d)) o) (known_shown means s m is d.0) (no_dylib_shown means s m is ds)

pub fail_shown : {U : Type 0} (means : U → Meaning) (s : Sight U) (m : Plain) → IsSightOf means s m → FailSame (shown means s) m
fail_shown means s m is i = failed_shown (length s.shelf.dylibs) s.rows i ∙ ap (λ rows. failed_at rows i) is.rows

offered_shown : {U : Type 0} (means : U → Meaning) (s : Sight U) (m : Plain) → IsSightOf means s m → (d name : ℕ) (scope : Scope) → offered_by (shown means s).generators d name scope ≡ offered_by m.generators d name scope
offered_shown means s m is d name scope = sym (offers_shown means s.generators d name scope) ∙ sym (offered_same means s.generators m.generators d name scope is.generators)

-- what a row and a generator come to in one dylib of an order
abbrev in_item : OrderItem → Option Row → Option GenId → Option Match
in_item item row generator = or_else (option_map_or (λ (r : Row). only_if (sees item.scope r.flags) (Instance r.inst)) row None) (option_map Offered generator)

item_shown : {U : Type 0} (means : U → Meaning) (s : Sight U) (m : Plain) → IsSightOf means s m → (name : ℕ) (item : OrderItem) → row_of (shown means s).rows item.dylib.0 name ≡ row_of m.rows item.dylib.0 name → match_in (shown means s) name item ≡ match_in m name item
item_shown means s m is name item rows = ap₂ (in_item item) rows (offered_shown means s m is item.dylib.0 name item.scope)

known_row : {U : Type 0} (means : U → Meaning) (s : Sight U) (m : Plain) → IsSightOf means s m → (d name : ℕ) → has_dylib m d ≡ true → row_of (shown means s).rows d name ≡ row_of m.rows d name
known_row means s m is d name b = seen_rows (length s.shelf.dylibs) s.rows d name (known_shown means s m is d ∙ b) ∙ ap (λ rows. row_of rows d name) is.rows

home_row : {U : Type 0} (means : U → Meaning) (s : Sight U) (m : Plain) → IsSightOf means s m → HaveDylibs m → (d name : ℕ) → row_of (shown means s).rows d name ≡ row_of m.rows d name
home_row means s m is homes d name =
    ap (λ rows. row_of rows d name) (ap₂ (λ (n : ℕ) (rows : List InstRow). map (seen_row n) rows) (ap length is.dylibs) is.rows ∙ all_seen (length m.dylibs) m.rows homes)

-- in an order of dylibs that are there
pub order_shown : {U : Type 0} (means : U → Meaning) (s : Sight U) (m : Plain) → IsSightOf means s m → (order : List OrderItem) → no_dylib m (order_dylibs order) ≡ None → MatchSame (shown means s) m order
order_shown means s m is [] known name = refl
order_shown means s m is (item ∷ items) known name = let p = both (has_dylib m item.dylib.0) known in
    ap₂ or_else (item_shown means s m is name item (known_row means s m is item.dylib.0 name p.0)) (order_shown means s m is items p.1 name)
  where
    both : (b : Bool) → or_else (only_if (not b) (reply.NoDylib item.dylib)) (no_dylib m (order_dylibs items)) ≡ None → (b ≡ true) × (no_dylib m (order_dylibs items) ≡ None)
    both true e = (refl, e)
    both false e = absurd (none-some (reply.NoDylib item.dylib) (sym e))

-- in any order, where each row is of a dylib that is there
pub home_shown : {U : Type 0} (means : U → Meaning) (s : Sight U) (m : Plain) → IsSightOf means s m → HaveDylibs m → (order : List OrderItem) → MatchSame (shown means s) m order
home_shown means s m is homes order name = first_same (match_in (shown means s) name) (match_in m name) (λ item. item_shown means s m is name item (home_row means s m is homes item.dylib.0 name)) order
