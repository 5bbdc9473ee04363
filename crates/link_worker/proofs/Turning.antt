-- What a turn shows of the history that it found, and of the one that it left.
use Rattle.std.proofs.Common.{◌≡◌, ℕ, List, [], ◌∷◌, ◌++◌, refl, sym, ap, subst, ◌∙◌}
use Rattle.std.proofs.lemmas.List.{map-append}
use Rattle.session_model.specs.Meaning.{Meaning}
use Rattle.session_model.specs.History.{IsLegal, HasPlaces}
use Rattle.session_model.specs.State.{plain_entry, plain_history}
use Rattle.session_model.specs.declared.entry.Entry.{Entry}
use Rattle.session_laws.specs.Holding.{AllOthers}
use Rattle.turn_lock.specs.declared.view.View.{View}
use Rattle.turn_lock.specs.Lists.{entries_of}
use Rattle.turn_lock.specs.Passes.{Turned}
use Rattle.turn_lock.proofs.Entries.{none_since}
use Rattle.shared_session.specs.Carried.{joined, legal_joined, places_joined, all_others}
use Rattle.shared_session.specs.Home.{IsLawful, IsPosted, seat_of}
use Rattle.shared_session.specs.Did.{Did, Nothing, Single}
use Rattle.shared_session.proofs.Doing.{turn_is_a_call, turn_is_no_call}

-- the history that a seat found when it took the turn: what it had seen, and entries of others since
pub record Found {U : Type 0} (means : U → Meaning) (jmax : ℕ) (v : View (Entry U)) (old : List (Entry U)) : Type 0 where
  pub more : List (Entry U)
  pub grown : plain_history means old ≡ plain_history means v.seen ++ plain_history means more
  pub others : AllOthers v.number (plain_history means more)
  pub legal : IsLegal jmax (plain_history means v.seen ++ plain_history means more)
  pub places : HasPlaces jmax (plain_history means v.seen ++ plain_history means more)

module _ {U : Type 0} (means : U → Meaning) (jmax : ℕ) (v w : View (Entry U)) where
  -- a turn of the seat that made this of the history
  abbrev pub TurnOf : (List (Entry U) → List (Entry U) → Type 0) → Type 0
  TurnOf does = Turned seat_of (IsLawful means jmax) (IsPosted means) v w does

  pub found : (does : List (Entry U) → List (Entry U) → Type 0) (t : TurnOf does) → Found means jmax v t.old
  found does t =
      let s = t.passed.shows in
      let rest = s.later.0 in
      let lawful : IsLawful means jmax (v.seen ++ rest) = subst (IsLawful means jmax) s.later.1 s.legal in
      record {
        more = rest;
        grown = ap (plain_history means) s.later.1 ∙ joined means jmax v.seen rest;
        others = all_others means v.number rest (none_since seat_of v.number v.mine v.seen rest s.own (ap (entries_of seat_of v.number) (sym s.later.1) ∙ s.accounts.mine));
        legal = legal_joined means jmax v.seen rest lawful;
        places = places_joined means jmax v.seen rest lawful;
      }

  pub seen_is : (does : List (Entry U) → List (Entry U) → Type 0) (t : TurnOf does) → w.seen ≡ t.new
  seen_is does t = ap (λ (x : View (Entry U)). x.seen) t.passed.view

  pub number_is : (does : List (Entry U) → List (Entry U) → Type 0) (t : TurnOf does) → w.number ≡ v.number
  number_is does t = ap (λ (x : View (Entry U)). x.number) t.passed.view

  pub lawful_is : (does : List (Entry U) → List (Entry U) → Type 0) (t : TurnOf does) → IsLawful means jmax w.seen
  lawful_is does t = subst (IsLawful means jmax) (sym (seen_is does t)) t.passed.legal

  -- a turn that made one entry
  pub one_call : (does : List (Entry U) → List (Entry U) → Type 0) (t : TurnOf does) (e : Entry U) → seat_of e ≡ v.number → t.new ≡ t.old ++ e ∷ [] → Did means v w (Single (plain_history means t.old) (plain_entry means e))
  one_call does t e its grown = turn_is_a_call means jmax v w t.old e its (record { old = t.old; new = t.new; passed = t.passed; did = (refl, grown) })

  -- one that made none
  pub no_call : (does : List (Entry U) → List (Entry U) → Type 0) (t : TurnOf does) → t.new ≡ t.old → Did means v w Nothing
  no_call does t same = turn_is_no_call means jmax v w (record { old = t.old; new = t.new; passed = t.passed; did = same })

  -- the history with the entry is legal
  pub legal_after : (does : List (Entry U) → List (Entry U) → Type 0) (t : TurnOf does) (e : Entry U) → t.new ≡ t.old ++ e ∷ [] → IsLegal jmax (plain_history means t.old ++ plain_entry means e ∷ [])
  legal_after does t e grown = subst (IsLegal jmax) (map-append (plain_entry means) t.old (e ∷ [])) (subst (λ l. IsLegal jmax (plain_history means l)) grown t.passed.legal.legal)

  -- what the seat has seen of it
  pub seen_plain : (does : List (Entry U) → List (Entry U) → Type 0) (t : TurnOf does) (e : Entry U) → t.new ≡ t.old ++ e ∷ [] → plain_history means w.seen ≡ plain_history means t.old ++ plain_entry means e ∷ []
  seen_plain does t e grown = ap (plain_history means) (seen_is does t ∙ grown) ∙ map-append (plain_entry means) t.old (e ∷ [])
