-- The names of a unit, one after the other.
use Rattle.std.proofs.Common.{◌≡◌, ◌<◌, ℕ, zero, suc, ◌+◌, ◌-◌, Bool, true, false, ◌&&◌, ◌||◌, ◌==◌, List, [], ◌∷◌, ◌++◌, Some, slice_get, length, take, refl, sym, ap, ◌∙◌, arith}
use Rattle.std.specs.Bool.{if◌then◌else◌}
use Rattle.std.proofs.lemmas.Bool.{eqb-true, ne_eqb, and_parts}
use Rattle.std.proofs.lemmas.List.{take_more}
use Rattle.std.proofs.lemmas.List.Folds.{list_any-append}
use Rattle.std.proofs.lemmas.Option.{get_or_from_slice_get, slice_get_within}
use Rattle.orc_ids.specs.declared.flags.SymFlags.{SymFlags}
use Rattle.orc_ids.specs.declared.ids.NameId.{NameId}
use Rattle.orc_ids.specs.declared.lookup.Scope.{Scope}
use Rattle.orc_ids.specs.declared.lookup.Scope.TheVariants.{All}
use Rattle.session_model.specs.Match.{sees}
use Rattle.generators.specs.Kept.{offered_in}
use Rattle.generators.specs.declared.lines.Lines.{Lines}
use Rattle.generators.specs.Lines.{Queue, HasRoom}

-- no name is offered twice
abbrev pub NamesDiffer : List (NameId × SymFlags) → Type 0
NamesDiffer offers = (j k : ℕ) (a b : NameId × SymFlags) → slice_get offers j ≡ Some a → slice_get offers k ≡ Some b → a.0 ≡ b.0 → j ≡ k

-- the name at a place isn't among those before it
pub none_before : (offers : List (NameId × SymFlags)) (k : ℕ) (o : NameId × SymFlags) (scope : Scope) (n : ℕ) → NamesDiffer offers → slice_get offers k ≡ Some o → o.0.0 ≡ n → offered_in (take k offers) scope n ≡ false
none_before [] zero o scope n differ at is = refl
none_before [] (suc k) o scope n differ at is = refl
none_before (x ∷ xs) zero o scope n differ at is = refl
none_before (x ∷ xs) (suc k) o scope n differ at is =
    ap (λ b. (b && sees scope x.1) || offered_in (take k xs) scope n) (ne_eqb x.0.0 n (λ same. omega (arith, differ 0 (suc k) x o refl at (ap (λ (m : ℕ). record { 0 = m }) (same ∙ sym is)))))
    ∙ none_before xs k o scope n (λ i j a b at_i at_j e. omega (arith, differ (suc i) (suc j) a b at_i at_j e)) at is

pub or_false : (b : Bool) → (b || false) ≡ b
or_false true = refl
or_false false = refl

-- one name more
pub offered_more : (offers : List (NameId × SymFlags)) (k : ℕ) (o : NameId × SymFlags) (scope : Scope) (n : ℕ) → slice_get offers k ≡ Some o → offered_in (take (k + 1) offers) scope n ≡ (offered_in (take k offers) scope n || (o.0.0 == n && sees scope o.1))
offered_more offers k o scope n at =
    ap (λ os. offered_in os scope n) (take_more offers k o (slice_get_within offers k o at) ∙ ap (λ x. take k offers ++ x ∷ []) (get_or_from_slice_get offers k o o at))
    ∙ (list_any-append (λ (p : NameId × SymFlags). p.0.0 == n && sees scope p.1) (take k offers) (o ∷ [])
    ∙ ap (λ b. offered_in (take k offers) scope n || b) (or_false (o.0.0 == n && sees scope o.1)))

-- where two things don't come together, one after the other is either
pub one_after_other : (f : Queue → Queue) (here before now : Bool) (old mid new : Queue) → mid ≡ (if here && before then f old else old) → new ≡ (if here && now then f mid else mid) → (now ≡ true → before ≡ false) →
    new ≡ (if here && (before || now) then f old else old)
one_after_other f false before now old mid new was is apart = is ∙ was
one_after_other f true true true old mid new was is apart = absurd (grind (arith, apart refl))
one_after_other f true true false old mid new was is apart = is ∙ was
one_after_other f true false true old mid new was is apart = is ∙ ap f was
one_after_other f true false false old mid new was is apart = is ∙ was

pub names_more : (f : Queue → Queue) (offers : List (NameId × SymFlags)) (k : ℕ) (o : NameId × SymFlags) (scope : Scope) (here : Bool) (n : ℕ) (old mid new : Queue) → NamesDiffer offers → slice_get offers k ≡ Some o →
    mid ≡ (if here && offered_in (take k offers) scope n then f old else old) → new ≡ (if here && (o.0.0 == n && sees scope o.1) then f mid else mid) →
    new ≡ (if here && offered_in (take (k + 1) offers) scope n then f old else old)
names_more f offers k o scope here n old mid new differ at was is =
    one_after_other f here (offered_in (take k offers) scope n) (o.0.0 == n && sees scope o.1) old mid new was is
    (λ now. none_before offers k o scope n differ at (eqb-true o.0.0 n (and_parts (o.0.0 == n) (sees scope o.1) now).0))
    ∙ sym (ap (λ b. if here && b then f old else old) (offered_more offers k o scope n at))

pub and_true : (b : Bool) → (b && true) ≡ b
and_true true = refl
and_true false = refl

pub and_false : (b : Bool) → (b && false) ≡ false
and_false true = refl
and_false false = refl

-- what one name takes is there
pub room_left : (offers : List (NameId × SymFlags)) (k : ℕ) (l : Lines) → k < length offers → HasRoom (length offers - k) l → HasRoom (length offers - (k + 1) + 1) l
room_left offers k l less room = record { lines = omega (arith, less, room.lines); turns = omega (arith, less, room.turns) }

-- what the scope sees is among all
pub seen_is_offered : (offers : List (NameId × SymFlags)) (scope : Scope) (name : ℕ) → offered_in offers All name ≡ false → offered_in offers scope name ≡ false
seen_is_offered [] scope name none = refl
seen_is_offered (o ∷ os) scope name none = split (o.0.0 == name) (sees scope o.1) (seen_is_offered os scope name) none
  where
    split : (a b : Bool) → (offered_in os All name ≡ false → offered_in os scope name ≡ false) → ((a && true) || offered_in os All name) ≡ false → ((a && b) || offered_in os scope name) ≡ false
    split true b rest none = absurd (grind (arith, none))
    split false b rest none = rest none
