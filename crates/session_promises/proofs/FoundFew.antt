-- What a lookup found are instances of the session.
use Rattle.std.proofs.Common.{◌≡◌, ℕ, ◌<◌, ◌≤◌, Bool, true, false, List, [], ◌∷◌, length, take, slice_get, All, Option, Some, None, is_some, refl, subst, sym, arith}
use Rattle.std.specs.Prelude.{IfSome}
use Rattle.std.specs.Option.{option_map_or}
use Rattle.std.proofs.lemmas.Bool.{and_parts, both_ways}
use Rattle.std.proofs.lemmas.List.Elements.{All-cons, All-nil, All-weaker}
use Rattle.std.proofs.lemmas.Option.{slice_get_within}
use Rattle.orc_ids.specs.declared.ids.InstId.{InstId}
use Rattle.orc_ids.specs.declared.limits.TheConstants.{INSTANCE_LIMIT}
use Rattle.orc_ids.specs.declared.lookup.Level.{Level}
use Rattle.orc_ids.specs.declared.lookup.Level.TheVariants.{Resolved, Ready}
use Rattle.session_model.specs.History.{IsLegal}
use Rattle.session_model.specs.Meaning.{Meaning}
use Rattle.session_model.specs.Plain.{is_emitted, phase_address}
use Rattle.session_model.specs.Query.{addresses, all_at, at_level}
use Rattle.session_model.specs.State.{state}
use Rattle.session_model.specs.declared.entry.Entry.{Entry}
use Rattle.session_model.specs.declared.rows.InstRow.{InstRow}
use Rattle.session_laws.proofs.Declared.{front_legal, reaches_self, ready_from_test}
use Rattle.session_promises.specs.Laws.{FoundAreFew}
use Rattle.session_promises.proofs.Few.{rows_are_few}

-- a test that only rows pass is passed by none beyond the last
within : (rows : List InstRow) (i : ℕ) (test : InstRow → Bool) → option_map_or test (slice_get rows i) false ≡ true → i < length rows
within rows i test e = split (slice_get rows i) refl e
  where
    split : (o : Option InstRow) → slice_get rows i ≡ o → option_map_or test o false ≡ true → i < length rows
    split None is e = absurd (both_ways false refl e)
    split (Some r) is e = slice_get_within rows i r is

addressed : (rows : List InstRow) (i : ℕ) → is_some (option_map_or (λ r. phase_address r.phase) (slice_get rows i) None) ≡ true → i < length rows
addressed rows i e = split (slice_get rows i) refl e
  where
    split : (o : Option InstRow) → slice_get rows i ≡ o → is_some (option_map_or (λ r. phase_address r.phase) o None) ≡ true → i < length rows
    split None is e = absurd (both_ways false refl e)
    split (Some r) is e = slice_get_within rows i r is

-- an instance at a level is there
there : (rows : List InstRow) (level : Level) (i : ℕ) → at_level rows level i ≡ true → i < length rows
there rows Resolved i e = addressed rows i e
there rows Ready i e = within rows i (λ r. is_emitted r.phase) ((ready_from_test rows i e).each i (reaches_self rows i))

each_few : (rows : List InstRow) (level : Level) (found : List (Option InstId)) → all_at rows level found ≡ true → All (λ o. IfSome o (λ p. p.0.0 < length rows)) (addresses rows found)
each_few rows level [] all = All-nil (λ o. IfSome o (λ p. p.0.0 < length rows))
each_few rows level (None ∷ found) all = All-cons (λ o. IfSome o (λ p. p.0.0 < length rows)) None (addresses rows found) tt (each_few rows level found all)
each_few rows level (Some i ∷ found) all = let parts = and_parts (at_level rows level i.0) (all_at rows level found) all in
    All-cons (λ o. IfSome o (λ p. p.0.0 < length rows)) _ (addresses rows found) (there rows level i.0 parts.0) (each_few rows level found parts.1)

pub found_are_few : FoundAreFew
found_are_few jmax h legal l q at matches f =
    let rows = (state (take at h)).rows in
    let few = rows_are_few jmax (take at h) (front_legal jmax h at legal) in
    let within = each_few rows l.level f.found f.first.here in
    let less : (o : Option (InstId × ℕ)) → IfSome o (λ p. p.0.0 < length rows) → IfSome o (λ p. p.0.0 < INSTANCE_LIMIT) = below (length rows) few in
    subst (All (λ o. IfSome o (λ p. p.0.0 < INSTANCE_LIMIT))) (sym f.are) (All-weaker (λ o. IfSome o (λ p. p.0.0 < length rows)) (λ o. IfSome o (λ p. p.0.0 < INSTANCE_LIMIT)) less (addresses rows f.found) within)
  where
    below : (n : ℕ) → n ≤ INSTANCE_LIMIT → (o : Option (InstId × ℕ)) → IfSome o (λ p. p.0.0 < n) → IfSome o (λ p. p.0.0 < INSTANCE_LIMIT)
    below n few None is = tt
    below n few (Some p) is = omega (arith, few, is)
