-- What a failure hits, by the frontier and by the rows.
use Rattle.std.proofs.Common.{◌≡◌, ℕ, ◌+◌, Bool, true, false, ◌&&◌, not, List, [], ◌∷◌, ◌⊎◌, inl, inr, Option, Some, None, option_map, slice_get, refl, ap, ap₂, sym, ◌∙◌}
use Rattle.std.specs.Prelude.{if◌then◌else◌}
use Rattle.std.specs.Option.{option_map_or}
use Rattle.std.proofs.lemmas.Bool.{both_ways, cases_Bool, false_from_ne_true}
use Rattle.list_laws.proofs.Bools.{bool_same}
use Rattle.list_laws.proofs.Lists.{list_same}
use Rattle.orc_ids.specs.declared.ids.InstId.{InstId}
use Rattle.session_model.specs.Change.{hit_row, hits_failed}
use Rattle.session_model.specs.Lists.{numbered}
use Rattle.session_model.specs.Plain.{is_owned, is_owned_at, is_emitted, emitted_at}
use Rattle.session_model.specs.Reach.{IsHit, is_hit, is_ready, deps_at}
use Rattle.session_model.specs.declared.rows.InstRow.{InstRow}
use Rattle.session_model.specs.declared.rows.Phase.TheVariants as phase
use Rattle.session_laws.specs.Walks.{ReadyIsTested, HitIsTested}
use Rattle.dep_groups.specs.Frontier as frontier
use Rattle.instances.specs.Table.{is_among, failed_row, AreChanged}
use Rattle.instances.proofs.Kept.{numbered_changed}
use Rattle.instances.specs.Graph.{NoneEmitted}
use Rattle.instances.specs.Tied.{entry_of, IsTied}
use Rattle.instances.proofs.Members.{among_contains, contains_among}
use Rattle.instances.proofs.Readiness.{tested, ready_same, ready_carried, ready_self, ready_emitted, ready_rows, ready_entries, next_tied, path_same}
use Rattle.instances.proofs.Standings.{IsAlike, alike_same}

-- The same hits

hit_rows : (rows : List InstRow) (entries : List frontier.Entry) (roots : List InstId) → IsTied rows entries → (i : ℕ) → frontier.IsHit entries roots i → IsHit rows (is_among roots) i
hit_rows rows entries roots t i h = record {
  unready = λ r. h.unready (ready_entries rows entries t i r);
  root = h.root.0;
  chosen = contains_among roots h.root h.chosen;
  reaches = record { path = h.reaches.path; leads = path_same (frontier.next_of entries) (deps_at rows) (next_tied rows entries t) i h.reaches.path h.root.0 h.reaches.leads };
}

hit_entries : (rows : List InstRow) (entries : List frontier.Entry) (roots : List InstId) → IsTied rows entries → (i : ℕ) → IsHit rows (is_among roots) i → frontier.IsHit entries roots i
hit_entries rows entries roots t i h = record {
  unready = λ r. h.unready (ready_rows rows entries t i r);
  root = record { 0 = h.root };
  chosen = among_contains roots h.root h.chosen;
  reaches = record { path = h.reaches.path; leads = path_same (deps_at rows) (frontier.next_of entries) (λ k. sym (next_tied rows entries t k)) i h.reaches.path h.root h.reaches.leads };
}

-- exactly the hits by the rows' definition are listed
pub hits_are : HitIsTested → (rows : List InstRow) (entries : List frontier.Entry) (roots hits : List InstId) → IsTied rows entries → frontier.AreHits entries roots hits → (i : ℕ) → is_among hits i ≡ is_hit rows (is_among roots) i
hits_are law rows entries roots hits t h i = bool_same (is_among hits i) (is_hit rows (is_among roots) i)
    (λ e. (law rows (is_among roots) i).1 (hit_rows rows entries roots t i (h.only (record { 0 = i }) (among_contains hits i e))))
    (λ e. contains_among hits (record { 0 = i }) (h.all i (hit_entries rows entries roots t i ((law rows (is_among roots) i).0 e))))

-- the same roots hit the same
pub hit_same : HitIsTested → (rows : List InstRow) (f g : ℕ → Bool) → ((i : ℕ) → f i ≡ g i) → (i : ℕ) → is_hit rows f i ≡ is_hit rows g i
hit_same law rows f g h i = bool_same (is_hit rows f i) (is_hit rows g i)
    (λ e. (law rows g i).1 (turned f g h ((law rows f i).0 e)))
    (λ e. (law rows f i).1 (turned g f (λ j. sym (h j)) ((law rows g i).0 e)))
  where
    turned : (p q : ℕ → Bool) → ((j : ℕ) → p j ≡ q j) → IsHit rows p i → IsHit rows q i
    turned p q s x = record { unready = x.unready; root = x.root; chosen = sym (s x.root) ∙ x.chosen; reaches = x.reaches }

numbered_same : {X Y : Type 0} (f g : ℕ → X → Y) → ((i : ℕ) (x : X) → f i x ≡ g i x) → (k : ℕ) (xs : List X) → numbered f k xs ≡ numbered g k xs
numbered_same f g h k [] = refl
numbered_same f g h k (x ∷ xs) = ap₂ (λ y ys. y ∷ ys) (h k x) (numbered_same f g h (k + 1) xs)

pub failed_same : HitIsTested → (rows : List InstRow) (f g : ℕ → Bool) → ((i : ℕ) → f i ≡ g i) → hits_failed f rows ≡ hits_failed g rows
failed_same law rows f g h = numbered_same (hit_row f rows) (hit_row g rows) (λ i r. ap (λ b. record r { phase = if b then phase.Failed else r.phase }) (hit_same law rows f g h i)) 0 rows

-- The rows after it

pub hits_fail : (rows new : List InstRow) (roots : ℕ → Bool) (hits : List InstId) → ((i : ℕ) → is_among hits i ≡ is_hit rows roots i) → AreChanged (failed_row hits) rows new → new ≡ hits_failed roots rows
hits_fail rows new roots hits h step = list_same new (hits_failed roots rows) (λ i. step i ∙ by_row i (slice_get rows i) ∙ sym (numbered_changed (hit_row roots rows) rows i))
  where
    by_row : (i : ℕ) (o : Option InstRow) → option_map (failed_row hits i) o ≡ option_map (hit_row roots rows i) o
    by_row i None = refl
    by_row i (Some r) = ap (λ b. Some (record r { phase = if b then phase.Failed else r.phase })) (h i)

-- an instance is hit, or its entry stays
pub failed_ties : (rows new : List InstRow) (entries after : List frontier.Entry) (roots hits : List InstId) → IsTied rows entries → frontier.AreHits entries roots hits → frontier.AreFailed entries after roots → AreChanged (failed_row hits) rows new → IsTied new after
failed_ties rows new entries after roots hits t h f step = record {
  each = λ i. by_test i (cases_Bool (is_among hits i)) ∙ ap (λ o. option_map_or (λ (r : InstRow). entry_of r.phase) o frontier.Absent) (sym (step i));
}
  where
    fails : (i : ℕ) (o : Option InstRow) → is_among hits i ≡ true → frontier.Absent ≡ option_map_or (λ r. entry_of r.phase) (option_map (failed_row hits i) o) frontier.Absent
    fails i None e = refl
    fails i (Some r) e = sym (ap (λ b. entry_of (if b then phase.Failed else r.phase)) e)

    keeps : (i : ℕ) (o : Option InstRow) → is_among hits i ≡ false → option_map_or (λ r. entry_of r.phase) o frontier.Absent ≡ option_map_or (λ r. entry_of r.phase) (option_map (failed_row hits i) o) frontier.Absent
    keeps i None e = refl
    keeps i (Some r) e = sym (ap (λ b. entry_of (if b then phase.Failed else r.phase)) e)

    others : (i : ℕ) → is_among hits i ≡ false → (frontier.entry_at after i ≡ frontier.entry_at entries i) ⊎ frontier.IsHit entries roots i → frontier.entry_at after i ≡ frontier.entry_at entries i
    others i e (inl same) = same
    others i e (inr x) = absurd (both_ways (is_among hits i) e (contains_among hits (record { 0 = i }) (h.all i x)))

    by_test : (i : ℕ) → (is_among hits i ≡ true) ⊎ (is_among hits i ≡ false) → frontier.entry_at after i ≡ option_map_or (λ r. entry_of r.phase) (option_map (failed_row hits i) (slice_get rows i)) frontier.Absent
    by_test i (inl e) = f.hit i (h.only (record { 0 = i }) (among_contains hits i e)) ∙ fails i (slice_get rows i) e
    by_test i (inr e) = others i e (f.others i) ∙ t.each i ∙ keeps i (slice_get rows i) e

pub fail_alike : (hits : List InstId) (i : ℕ) (r : InstRow) → is_among hits i ≡ false → IsAlike r (failed_row hits i r)
fail_alike hits i r n = alike_same r (failed_row hits i r) (ap (λ b. record r { phase = if b then phase.Failed else r.phase }) n)

-- What is ready

unhit : (entries after : List frontier.Entry) (roots : List InstId) → frontier.AreFailed entries after roots → (a : ℕ) → frontier.IsReady entries a → frontier.entry_at after a ≡ frontier.entry_at entries a
unhit entries after roots f a h = from_cases (f.others a)
  where
    from_cases : (frontier.entry_at after a ≡ frontier.entry_at entries a) ⊎ frontier.IsHit entries roots a → frontier.entry_at after a ≡ frontier.entry_at entries a
    from_cases (inl same) = same
    from_cases (inr x) = absurd (x.unready h)

unhit_after : (entries after : List frontier.Entry) (roots : List InstId) → frontier.AreFailed entries after roots → (a : ℕ) → frontier.IsReady after a → frontier.entry_at entries a ≡ frontier.entry_at after a
unhit_after entries after roots f a h = from_cases (f.others a)
  where
    from_cases : (frontier.entry_at after a ≡ frontier.entry_at entries a) ⊎ frontier.IsHit entries roots a → frontier.entry_at entries a ≡ frontier.entry_at after a
    from_cases (inl same) = sym same
    from_cases (inr x) = absurd (both_ways (frontier.is_emitted_at after a) (ap frontier.is_emitted (f.hit a x)) (ready_self after a h))

-- a failure leaves what is ready
pub failed_ready : ReadyIsTested → (rows new : List InstRow) (entries after : List frontier.Entry) (roots : List InstId) → IsTied rows entries → IsTied new after → frontier.AreFailed entries after roots → (i : ℕ) → is_ready new i ≡ is_ready rows i
failed_ready law rows new entries after roots t s f i = ready_same law rows new entries after t s i
    (ready_carried entries after (unhit entries after roots f) i)
    (λ h. (tested law rows entries t i).1 (ready_carried after entries (unhit_after entries after roots f) i h))

-- Where it begins

-- an instance of a unit of which none is emitted isn't ready
pub owned_unready : ReadyIsTested → (u : ℕ) (rows : List InstRow) (i : ℕ) → NoneEmitted u rows → is_owned_at u rows i ≡ true → is_ready rows i ≡ false
owned_unready law u rows i none o = false_from_ne_true (is_ready rows i) (λ e. both_ways (emitted_at rows i) (by_row (slice_get rows i) refl o) (ready_emitted law rows i e))
  where
    by_row : (q : Option InstRow) → slice_get rows i ≡ q → option_map_or (is_owned u) q false ≡ true → option_map_or (λ r. is_emitted r.phase) q false ≡ false
    by_row None t o = refl
    by_row (Some r) t o = none i r t o

pub owned_roots : ReadyIsTested → (u : ℕ) (rows : List InstRow) (i : ℕ) → NoneEmitted u rows → (is_owned_at u rows i && not (is_ready rows i)) ≡ is_owned_at u rows i
owned_roots law u rows i none = by_test (cases_Bool (is_owned_at u rows i))
  where
    by_test : (is_owned_at u rows i ≡ true) ⊎ (is_owned_at u rows i ≡ false) → (is_owned_at u rows i && not (is_ready rows i)) ≡ is_owned_at u rows i
    by_test (inl o) = ap₂ (λ a b. a && not b) o (owned_unready law u rows i none o) ∙ sym o
    by_test (inr n) = ap (λ a. a && not (is_ready rows i)) n ∙ sym n

-- a row that isn't hit
pub hit_step : (rows new : List InstRow) (roots : ℕ → Bool) → new ≡ hits_failed roots rows → AreChanged (hit_row roots rows) rows new
hit_step rows new roots e i = ap (λ xs. slice_get xs i) e ∙ numbered_changed (hit_row roots rows) rows i

pub hit_alike : (rows : List InstRow) (roots : ℕ → Bool) (i : ℕ) (r : InstRow) → is_hit rows roots i ≡ false → IsAlike r (hit_row roots rows i r)
hit_alike rows roots i r n = alike_same r (hit_row roots rows i r) (ap (λ b. record r { phase = if b then phase.Failed else r.phase }) n)
