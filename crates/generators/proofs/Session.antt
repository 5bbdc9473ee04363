-- The generator that offers a name in a session.
use Rattle.std.proofs.Common.{◌≡◌, ℕ, ◌+◌, Bool, ◌&&◌, ◌==◌, not, List, [], ◌∷◌, Some, map, refl, sym, ap, ◌∙◌}
use Rattle.std.specs.Bool.{if◌then◌else◌}
use Rattle.std.specs.List.{position_from}
use Rattle.std.specs.Prelude.{option_map}
use Rattle.session_model.specs.Match.{offers_name}
use Rattle.session_model.specs.Meaning.{Meaning}
use Rattle.session_model.specs.Plain.{GenRow}
use Rattle.generators.specs.Laws.{without_tracker, OffersAsTheSession}
use Rattle.generators.specs.Rows.{gen_row}

position_map : {X Y : Type 0} (f : X → Y) (test : Y → Bool) (k : ℕ) (xs : List X) → position_from test k (map f xs) ≡ position_from (λ x. test (f x)) k xs
position_map f test k [] = refl
position_map f test k (x ∷ xs) = ap (λ o. if test (f x) then Some k else o) (position_map f test (k + 1) xs)

pub offered_same : {U : Type 0} (means : U → Meaning) → OffersAsTheSession means
offered_same means rows generators d name scope are =
    let test : GenRow → Bool = λ g. not g.spent && g.dylib == d && offers_name g.meaning name scope in
    ap (option_map (λ (g : ℕ). record { 0 = g })) (sym (position_map without_tracker test 0 generators) ∙ (ap (position_from test 0) are ∙ position_map (gen_row means 0) test 0 rows))
