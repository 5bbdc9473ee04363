-- The first instance is all that changes.
use Rattle.std.proofs.Common.{◌≡◌, ◌≢◌, ◌⊎◌, inl, ⊎_elim, ℕ, zero, suc, Bool, true, false, Some, List, [], ◌∷◌, refl, sym, subst, arith}
use Rattle.std.specs.Prelude.{◌==◌, ◌&&◌, not}
use Rattle.std.proofs.lemmas.Bool.Decides.{eqb_tells}
use Rattle.orc_ids.specs.declared.ids.InstId.{InstId}
use Rattle.orc_ids.specs.declared.lookup.Level.{Level}
use Rattle.orc_ids.specs.declared.lookup.Level.TheVariants.{Resolved, Ready}
use Rattle.session_model.specs.Query.{Stand}
use Rattle.query_book.specs.Stands.{at_level, is_lost, is_among}
use Rattle.query_book.specs.Ledger.{Ledger, IsCurrent, IsChange, IsTold}
use Rattle.query_book.proofs.Current.{change_told}
use Rattle.readiness_tests.specs.First.{stand_of}

-- the first instance alone
abbrev pub first : List InstId
first = record { 0 = 0 } ∷ []

past_first : (i : ℕ) → (suc i == 0) ≡ false
past_first i = ⊎_elim (λ (e : ((suc i == 0) ≡ true) × (suc i ≡ 0)). absurd (omega (arith, e.1))) (λ (e : ((suc i == 0) ≡ false) × (suc i ≢ 0)). e.0) (eqb_tells (suc i) 0)

apart_same : (failed ready here : Bool) → here ≡ false → ◌≡◌ {A = Stand} (record { failed = failed && here; present = true; address = Some 64; ready = ready && not failed && here }) (record { failed = false; present = true; address = Some 64; ready = false })
apart_same failed ready true apart = absurd cc
apart_same true true false apart = refl
apart_same true false false apart = refl
apart_same false true false apart = refl
apart_same false false false apart = refl

others : (failed ready : Bool) (i : ℕ) → is_among i first ≡ false → stand_of failed ready i ≡ stand_of false false i
others failed ready zero apart = let e : true ≡ false = apart in absurd cc
others failed ready (suc i) apart = apart_same failed ready (suc i == 0) (past_first i)

stays : (failed ready : Bool) (level : Level) (i : ℕ) → at_level (stand_of false false) level i ≡ true → (at_level (stand_of failed ready) level i ≡ true) ⊎ (is_lost (stand_of failed ready) i ≡ true)
stays failed ready Resolved i at = inl refl
stays failed ready Ready i at = absurd cc

first_changed : {N : Type 0} (failed ready : Bool) (l : Ledger N) → IsChange first (stand_of false false) (stand_of failed ready) l
first_changed failed ready l = record { others = λ i w. others failed ready i; stays = λ level i w. stays failed ready level i; lost = λ i w g. absurd cc }

pub first_told : {N : Type 0} (failed ready : Bool) (changed : List InstId) (l : Ledger N) → IsCurrent (stand_of false false) l → changed ≡ first → IsTold (stand_of failed ready) changed l
first_told failed ready changed l is e = subst (λ c. IsTold (stand_of failed ready) c l) (sym e) (change_told first (stand_of false false) (stand_of failed ready) l is (first_changed failed ready l))
