-- How an instance stands, where its row stays or changes.
use Rattle.std.proofs.Common.{◌≡◌, ℕ, zero, suc, ◌+◌, ◌<◌, ◌≤◌, Bool, true, false, ◌&&◌, ◌||◌, ◌==◌, not, List, [], ◌∷◌, ◌++◌, map, length, Option, Some, None, option_map, slice_get, refl, ap, ap₂, sym, ◌∙◌, arith}
use Rattle.std.specs.Prelude.{if◌then◌else◌, IsSome, nat_lt, nat_le}
use Rattle.std.specs.Option.{option_map_or}
use Rattle.std.proofs.lemmas.Bool.{both_ways, or_parts, or_left, or_right, and_parts, lt-ltb, eqb-true, false_from_ne_true}
use Rattle.std.proofs.lemmas.Bool.Decides.{nat_tests}
use Rattle.session_model.proofs.Phases.{emitted_unfailed}
use Rattle.orc_ids.specs.declared.flags.SymFlags.{SymFlags}
use Rattle.orc_ids.specs.declared.ids.InstId.{InstId}
use Rattle.orc_ids.specs.declared.ids.NameId.{NameId}
use Rattle.session_model.specs.Change.{claimed_row}
use Rattle.session_model.specs.Plain.{is_owned, is_unsearched, is_failed, is_emitted, phase_address, address_at, failed_at, emitted_at}
use Rattle.session_model.specs.Query.{Stand, stand_at}
use Rattle.session_model.specs.Reach.{is_ready}
use Rattle.session_model.specs.declared.rows.InstRow.{InstRow}
use Rattle.session_model.specs.declared.rows.Phase.{Phase}
use Rattle.session_model.specs.declared.rows.Phase.TheVariants as phase
use Rattle.dep_groups.specs.Frontier as frontier
use Rattle.instances.specs.Rows.{addressed_row}
use Rattle.instances.specs.Spans.{IsSpan}
use Rattle.instances.specs.Table.{AreChanged, is_among, replaced_row, fresh_rows}
use Rattle.instances.proofs.Kept.{map_changed}
use Rattle.instances.specs.Graph.{Graph, Tells}
use Rattle.instances.specs.Tied.{entry_of, row_entry, IsTied}

-- two rows of which queries see the same
pub record IsAlike (a b : InstRow) : Type 0 where
  pub failed : is_failed b.phase ≡ is_failed a.phase
  pub present : b.present ≡ a.present
  pub address : phase_address b.phase ≡ phase_address a.phase

pub alike_same : (a b : InstRow) → b ≡ a → IsAlike a b
alike_same a b e = record { failed = ap (λ (r : InstRow). is_failed r.phase) e; present = ap (λ (r : InstRow). r.present) e; address = ap (λ (r : InstRow). phase_address r.phase) e }

stand_of : Option InstRow → Bool → Stand
stand_of o ready = record { failed = option_map_or (λ r. is_failed r.phase) o false; present = option_map_or (λ r. r.present) o false; address = option_map_or (λ r. phase_address r.phase) o None; ready = ready }

stand_is : (rows : List InstRow) (i : ℕ) → stand_at rows i ≡ stand_of (slice_get rows i) (is_ready rows i)
unfolding stand_of
stand_is rows i = refl

stand_alike : (o : Option InstRow) (f : InstRow → InstRow) (ready : Bool) → ((r : InstRow) → o ≡ Some r → IsAlike r (f r)) → stand_of (option_map f o) ready ≡ stand_of o ready
unfolding stand_of
stand_alike None f ready h = refl
stand_alike (Some r) f ready h = let a = h r refl in
    ap (λ b. record { failed = b; present = (f r).present; address = phase_address (f r).phase; ready = ready }) a.failed
    ∙ ap (λ b. record { failed = is_failed r.phase; present = b; address = phase_address (f r).phase; ready = ready }) a.present
    ∙ ap (λ b. record { failed = is_failed r.phase; present = r.present; address = b; ready = ready }) a.address

pub stand_kept : (f : ℕ → InstRow → InstRow) (old new : List InstRow) (i : ℕ) → AreChanged f old new → ((r : InstRow) → slice_get old i ≡ Some r → IsAlike r (f i r)) → is_ready new i ≡ is_ready old i → stand_at new i ≡ stand_at old i
stand_kept f old new i step alike ready =
    stand_is new i ∙ ap₂ stand_of (step i) ready ∙ stand_alike (slice_get old i) (f i) (is_ready old i) alike ∙ sym (stand_is old i)

pub stand_same : (old new : List InstRow) (i : ℕ) → slice_get new i ≡ slice_get old i → is_ready new i ≡ is_ready old i → stand_at new i ≡ stand_at old i
stand_same old new i same ready = stand_is new i ∙ ap₂ stand_of same ready ∙ sym (stand_is old i)

-- a change of rows, of which all are told that stand otherwise then
pub tells_changed : {old new : Graph} (f : ℕ → InstRow → InstRow) → AreChanged f old.rows new.rows →
    ((i : ℕ) (r : InstRow) → slice_get old.rows i ≡ Some r → is_among new.changed i ≡ false → IsAlike r (f i r)) →
    ((i : ℕ) → i < length old.rows → is_among new.changed i ≡ false → is_ready new.rows i ≡ is_ready old.rows i) →
    ((i : ℕ) → is_among old.changed i ≡ true → is_among new.changed i ≡ true) → Tells old new
tells_changed {old = old} {new = new} f step alike ready kept = record {
  stands = λ i b n. stand_kept f old.rows new.rows i step (λ r e. alike i r e n) (ready i b n);
  kept = kept;
}

pub mapped : (f : InstRow → InstRow) (rows new : List InstRow) → new ≡ map f rows → AreChanged (λ _ r. f r) rows new
mapped f rows new e i = ap (λ xs. slice_get xs i) e ∙ map_changed f rows i

-- A claim

claimed_alike : (b : Bool) (r : InstRow) → IsAlike r (record r { phase = if b && is_unsearched r.phase then phase.Claimed else r.phase })
claimed_alike b r = by_phase b r.phase refl
  where
    by_phase : (b : Bool) (p : Phase) → r.phase ≡ p → IsAlike r (record r { phase = if b && is_unsearched r.phase then phase.Claimed else r.phase })
    by_phase true phase.Unsearched e = record { failed = simp e; present = refl; address = simp e }
    by_phase true phase.Claimed e = record { failed = simp e; present = refl; address = simp e }
    by_phase true (phase.Resolved a) e = record { failed = simp e; present = refl; address = simp e }
    by_phase true (phase.Emitted a d) e = record { failed = simp e; present = refl; address = simp e }
    by_phase true phase.Failed e = record { failed = simp e; present = refl; address = simp e }
    by_phase false p e = record { failed = refl; present = refl; address = refl }

pub claim_alike : (u : ℕ) (r : InstRow) → IsAlike r (claimed_row u r)
claim_alike u r = claimed_alike (is_owned u r) r

claimed_entry : (b : Bool) (p : Phase) → entry_of (if b && is_unsearched p then phase.Claimed else p) ≡ entry_of p
claimed_entry true phase.Unsearched = refl
claimed_entry true phase.Claimed = refl
claimed_entry true (phase.Resolved a) = refl
claimed_entry true (phase.Emitted a d) = refl
claimed_entry true phase.Failed = refl
claimed_entry false p = refl

pub claim_entry : (u : ℕ) (r : InstRow) → entry_of (claimed_row u r).phase ≡ entry_of r.phase
claim_entry u r = claimed_entry (is_owned u r) r.phase

-- A replacement

pub replace_alike : (gone : List InstId) (i : ℕ) (r : InstRow) → is_among gone i ≡ false → IsAlike r (replaced_row gone i r)
replace_alike gone i r n = record { failed = refl; present = ap (λ b. r.present && not b) n ∙ and_true r.present; address = refl }
  where
    and_true : (b : Bool) → (b && true) ≡ b
    and_true true = refl
    and_true false = refl

-- An address, of what isn't emitted yet

pub unemitted_entry : (p : Phase) → is_emitted p ≡ false → entry_of p ≡ frontier.Absent
unemitted_entry phase.Unsearched e = refl
unemitted_entry phase.Claimed e = refl
unemitted_entry (phase.Resolved a) e = refl
unemitted_entry (phase.Emitted a d) e = absurd (both_ways true e refl)
unemitted_entry phase.Failed e = refl

pub resolve_entry : (u : ℕ) (address : ℕ → ℕ) (r : InstRow) → (is_owned u r ≡ true → is_emitted r.phase ≡ false) → entry_of (addressed_row u address r).phase ≡ entry_of r.phase
resolve_entry u address r h = by_test (is_owned u r) h
  where
    by_test : (b : Bool) → (b ≡ true → is_emitted r.phase ≡ false) → entry_of (if b then phase.Resolved (address r.offer) else r.phase) ≡ entry_of r.phase
    by_test true h = sym (unemitted_entry r.phase (h refl))
    by_test false h = refl

pub resolve_alike : (u : ℕ) (address : ℕ → ℕ) (r : InstRow) → is_owned u r ≡ false → IsAlike r (addressed_row u address r)
resolve_alike u address r n = alike_same r (addressed_row u address r) (ap (λ b. record r { phase = if b then phase.Resolved (address r.offer) else r.phase }) n)

-- An emitted instance has an address, and hasn't failed

pub emitted_address : (p : Phase) → is_emitted p ≡ true → IsSome (phase_address p)
emitted_address phase.Unsearched e = absurd (both_ways false refl e)
emitted_address phase.Claimed e = absurd (both_ways false refl e)
emitted_address (phase.Resolved a) e = absurd (both_ways false refl e)
emitted_address (phase.Emitted a d) e = refl
emitted_address phase.Failed e = absurd (both_ways false refl e)

pub emitted_stands : (rows : List InstRow) (i : ℕ) → emitted_at rows i ≡ true → IsSome (address_at rows i) × (failed_at rows i ≡ false)
emitted_stands rows i e = by_row (slice_get rows i) e
  where
    by_row : (o : Option InstRow) → option_map_or (λ r. is_emitted r.phase) o false ≡ true → IsSome (option_map_or (λ r. phase_address r.phase) o None) × (option_map_or (λ r. is_failed r.phase) o false ≡ false)
    by_row None e = absurd (both_ways false refl e)
    by_row (Some r) e = (emitted_address r.phase e, emitted_unfailed r.phase e)

-- What isn't among those that changed

-- it wasn't among those that were to be added, where there was room for it
pub unlisted : (new old more : Bool) (i n : ℕ) → new ≡ (old || (more && nat_lt i n)) → i < n → new ≡ false → more ≡ false
unlisted new old more i n e h none = and_room more (or_parts old (more && nat_lt i n) (sym e ∙ none)).1
  where
    and_room : (b : Bool) → (b && nat_lt i n) ≡ false → b ≡ false
    and_room true e = absurd (both_ways (nat_lt i n) e (lt-ltb i n h))
    and_room false e = refl

pub still_listed : (new old more : Bool) → new ≡ (old || more) → old ≡ true → new ≡ true
still_listed new old more e is = e ∙ or_left old more is

pub was_unlisted : (new old more : Bool) → new ≡ (old || more) → new ≡ false → old ≡ false
was_unlisted new old more e none = (or_parts old more (sym e ∙ none)).0

-- it isn't of the unit whose span was added
pub unspanned : (rows : List InstRow) (u first count i n : ℕ) (r : InstRow) (new old : Bool) → IsSpan rows u first count → slice_get rows i ≡ Some r → new ≡ (old || (nat_le first i && nat_lt i (first + count) && nat_lt i n)) → i < n → new ≡ false → is_owned u r ≡ false
unspanned rows u first count i n r new old s t e h none = false_from_ne_true (is_owned u r) (λ o.
    let p = s.only i r t (eqb-true r.unit.0 u (and_parts r.present (r.unit.0 == u) o).1) in
    let low : first ≤ i = p.0 in
    let high : i < first + count = p.1 in
    let is : (nat_le first i && nat_lt i (first + count) && nat_lt i n) ≡ true = grind (arith, nat_tests) in
    both_ways new none (e ∙ or_right old (nat_le first i && nat_lt i (first + count) && nat_lt i n) is))

-- Definitions

-- what isn't asked for yet isn't emitted
fresh_absent : (d u k : ℕ) (offers : List (NameId × SymFlags)) (live : List Bool) (i : ℕ) → row_entry (fresh_rows d u k offers live) i ≡ frontier.Absent
fresh_absent d u k [] live i = refl
fresh_absent d u k (offer ∷ offers) [] i = refl
fresh_absent d u k (offer ∷ offers) (true ∷ live) zero = refl
fresh_absent d u k (offer ∷ offers) (true ∷ live) (suc i) = fresh_absent d u (k + 1) offers live i
fresh_absent d u k (offer ∷ offers) (false ∷ live) i = fresh_absent d u (k + 1) offers live i

absent_more : (rows fresh : List InstRow) → ((i : ℕ) → row_entry fresh i ≡ frontier.Absent) → (i : ℕ) → row_entry (rows ++ fresh) i ≡ row_entry rows i
absent_more [] fresh h i = h i
absent_more (r ∷ rs) fresh h zero = refl
absent_more (r ∷ rs) fresh h (suc i) = absent_more rs fresh h i

pub tied_more : (rows : List InstRow) (entries : List frontier.Entry) (d u : ℕ) (offers : List (NameId × SymFlags)) (live : List Bool) → IsTied rows entries → IsTied (rows ++ fresh_rows d u 0 offers live) entries
tied_more rows entries d u offers live t = record {
  each = λ i. t.each i ∙ sym (absent_more rows (fresh_rows d u 0 offers live) (fresh_absent d u 0 offers live) i);
}
