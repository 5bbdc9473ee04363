-- From a book that is current, and a change of how the instances stand, to what has to be told.
use Rattle.std.proofs.Common.{◌≡◌, ◌⊎◌, inl, inr, ⊎_elim, ℕ, Bool, true, false, Option, Some, None, List, [], ◌∷◌, ◌++◌, refl, ap, sym, ◌∙◌, cond, subst}
use Rattle.std.specs.Prelude.{◌==◌, ◌||◌, ◌&&◌, not, is_some, slice_get}
use Rattle.std.specs.List.{filter_map}
use Rattle.std.proofs.lemmas.Bool.{and_parts, or_right, or_parts, or_cases}
use Rattle.orc_ids.specs.declared.ids.InstId.{InstId}
use Rattle.orc_ids.specs.declared.lookup.Level.{Level}
use Rattle.orc_ids.specs.declared.lookup.Level.TheVariants.{Resolved, Ready}
use Rattle.session_model.specs.Query.{Stand}
use Rattle.session_model.specs.declared.rows.Query.{Query}
use Rattle.query_book.specs.Stands.{at_level, is_lost, all_at, first_lost, is_met, is_matched, is_among, missing, missing_of}
use Rattle.query_book.specs.Ledger.{Ledger, nobody, without_due, without_first_of, IsSeen, IsAwaited, IsCurrent, IsChange, IsTold, IsToldOf}
use Rattle.query_book.proofs.Settling.{among_step, is_same, met_from, at_of, lost_some, lost_of}

level_same : (s t : ℕ → Stand) (level : Level) (i : ℕ) → t i ≡ s i → at_level t level i ≡ at_level s level i
level_same s t Resolved i e = ap (λ (x : Stand). is_some x.address) e
level_same s t Ready i e = ap (λ (x : Stand). x.ready) e

lost_same : (s t : ℕ → Stand) (i : ℕ) → t i ≡ s i → is_lost t i ≡ is_lost s i
lost_same s t i e = ap (λ (x : Stand). x.failed || not x.present) e

-- what is missing is matched, and not at the level
among_missing : (s : ℕ → Stand) (level : Level) (i : ℕ) (matched : List (Option InstId)) → is_among i (filter_map (missing_of s level) matched) ≡ (is_matched i matched && not (at_level s level i))
among_missing s level i [] = refl
among_missing s level i (None ∷ matched) = among_missing s level i matched
among_missing s level i (Some j ∷ matched) =
    among_step i j (filter_map (missing_of s level) matched) (is_matched i matched) (not (at_level s level i)) (not (at_level s level j.0)) (j.0 == i) refl
    (λ e. ap (λ n. not (at_level s level n)) (is_same j.0 i e)) (among_missing s level i matched)

-- what has changed of the matches of one query
record IsChangeOf (changed : List InstId) (s t : ℕ → Stand) (q : Query) : Type 0 where
  others : (i : ℕ) → is_matched i q.matched ≡ true → is_among i changed ≡ false → t i ≡ s i
  stays : (i : ℕ) → is_matched i q.matched ≡ true → at_level s q.level i ≡ true → (at_level t q.level i ≡ true) ⊎ (is_lost t i ≡ true)
  lost : (i : ℕ) → is_matched i q.matched ≡ true → is_lost s i ≡ true → is_lost t i ≡ true

change_of : {N : Type 0} (changed : List InstId) (s t : ℕ → Stand) (l : Ledger N) (k : ℕ) (q : Query) → IsChange changed s t l → slice_get l.queries k ≡ Some q → slice_get l.ends k ≡ Some None → IsChangeOf changed s t q
change_of {N} changed s t l k q c here unended = record { others = λ i m. c.others i (awaited i m); stays = λ i m. c.stays q.level i (awaited i m); lost = λ i m. c.lost i (awaited i m) }
  where
    awaited : (i : ℕ) → is_matched i q.matched ≡ true → IsAwaited l i
    awaited i m = record { number = k; query = q; there = here; unended = unended; matches = m }

-- a query that is met stays so
met_stays : (changed : List InstId) (s t : ℕ → Stand) (q : Query) → IsChangeOf changed s t q → is_met s q ≡ true → is_met t q ≡ true
met_stays changed s t q c met =
    ⊎_elim (λ (e : all_at s q.level q.matched ≡ true). met_from t q.level q.matched (λ i m. c.stays i m (at_of s q.level q.matched i e m)))
    (λ (e : is_some (first_lost s q.matched) ≡ true).
    let l = lost_of s q.matched e in
    or_right (all_at t q.level q.matched) (is_some (first_lost t q.matched)) (lost_some t q.matched l.inst l.is_match (c.lost l.inst l.is_match l.is_gone)))
    (or_cases (all_at s q.level q.matched) (is_some (first_lost s q.matched)) met)

-- what wasn't so before is among what changed
among_changed : (changed : List InstId) (i : ℕ) (v : Bool) → is_among i changed ≡ v → (is_among i changed ≡ false → ⊥) → is_among i changed ≡ true
among_changed changed i true e never = e
among_changed changed i false e never = absurd (never e)

at_both : (a : Bool) → (true && not a) ≡ false → a ≡ true
at_both true e = refl
at_both false e = sym e

told_of : (changed : List InstId) (s t : ℕ → Stand) (q : Query) → IsChangeOf changed s t q → is_met s q ≡ false → IsToldOf t changed (missing s q) q
told_of changed s t q c unmet = record {
  came = λ i missed at. among_changed changed i (is_among i changed) refl (λ e.
      let both = and_parts (is_matched i q.matched) (not (at_level s q.level i)) (sym (among_missing s q.level i q.matched) ∙ missed) in
      let before : at_level s q.level i ≡ true = sym (level_same s t q.level i (c.others i both.0 e)) ∙ at in
      let no : false ≡ true = sym (ap not before) ∙ both.1 in absurd cc);
  lost = λ i m l. among_changed changed i (is_among i changed) refl (λ e.
      let before : is_lost s i ≡ true = sym (lost_same s t i (c.others i m e)) ∙ l in
      let met : is_met s q ≡ true = or_right (all_at s q.level q.matched) (is_some (first_lost s q.matched)) (lost_some s q.matched i m before) in
      let no : false ≡ true = sym unmet ∙ met in absurd cc);
  stays = λ i m e. c.stays i m (at_both (at_level s q.level i) (ap (λ b. b && not (at_level s q.level i)) (sym m) ∙ sym (among_missing s q.level i q.matched) ∙ e));
}

pub change_told : {N : Type 0} (changed : List InstId) (old new : ℕ → Stand) (l : Ledger N) → IsCurrent old l → IsChange changed old new l → IsTold new changed l
change_told changed old new l is c = record {
  decided = λ k q here unended yes. met_stays changed old new q (change_of changed old new l k q c here unended) (let e : Some (is_met old q) ≡ Some true = sym (is.decided k q here unended) ∙ yes in let f : is_met old q ≡ true = cc in f);
  waits = λ k q waits here unended unmet waiting.
      let e : Some (is_met old q) ≡ Some false = sym (is.decided k q here unended) ∙ unmet in
      let f : is_met old q ≡ false = cc in
      let g : Some (missing old q) ≡ Some waits = ap (λ b. Some (cond b [] (missing old q))) (sym f) ∙ sym (is.waits k q here unended) ∙ waiting in
      let h : missing old q ≡ waits = cc in
      subst (λ w. IsToldOf new changed w q) h (told_of changed old new q (change_of changed old new l k q c here unended) f);
}

pub same_change : {N : Type 0} (s : ℕ → Stand) (l : Ledger N) → IsChange [] s s l
same_change s l = record { others = λ i w apart. refl; stays = λ level i w at. inl at; lost = λ i w g. g }

pub current_told : {N : Type 0} (s : ℕ → Stand) (l : Ledger N) → IsCurrent s l → IsTold s [] l
current_told s l is = change_told [] s s l is (same_change s l)

pub seen_current : {N : Type 0} (s : ℕ → Stand) (l : Ledger N) → IsSeen s l → IsCurrent s l
seen_current s l seen = record {
  decided = λ k q here unended. seen.undecided k q here unended ∙ ap (λ b. Some b) (sym (seen.unmet k q here unended));
  waits = λ k q here unended. seen.waiting k q here unended ∙ ap (λ b. Some (cond b [] (missing s q))) (sym (seen.unmet k q here unended));
}

pub nobody_current : {N : Type 0} (s : ℕ → Stand) → IsCurrent {N = N} s nobody
nobody_current {N} s = record { decided = λ k q here unended. absurd cc; waits = λ k q here unended. absurd cc }

pub due_current : {N : Type 0} (s : ℕ → Stand) (l : Ledger N) → IsCurrent s l → IsCurrent s (without_due l)
due_current s l is = record { decided = is.decided; waits = is.waits }

pub first_current : {N : Type 0} (s : ℕ → Stand) (l : Ledger N) → IsCurrent s l → IsCurrent s (without_first_of l)
first_current s l is = record { decided = is.decided; waits = is.waits }

among_neither : (i : ℕ) (first rest : List InstId) → is_among i (first ++ rest) ≡ false → (is_among i first ≡ false) × (is_among i rest ≡ false)
among_neither i [] rest e = (refl, e)
among_neither i (j ∷ first) rest e =
    let n = or_parts (j.0 == i) (is_among i (first ++ rest)) e in
    let r = among_neither i first rest n.1 in
    (ap (λ b. b || is_among i first) n.0 ∙ r.0, r.1)

pub changes_one : {N : Type 0} (first rest : List InstId) (old mid new : ℕ → Stand) (l : Ledger N) → IsChange first old mid l → IsChange rest mid new l → IsChange (first ++ rest) old new l
changes_one first rest old mid new l a b = record {
  others = λ i w apart. let n = among_neither i first rest apart in b.others i w n.1 ∙ a.others i w n.0;
  stays = λ level i w at. ⊎_elim (λ (e : at_level mid level i ≡ true). b.stays level i w e) (λ (e : is_lost mid i ≡ true). inr (b.lost i w e)) (a.stays level i w at);
  lost = λ i w g. b.lost i w (a.lost i w g);
}
