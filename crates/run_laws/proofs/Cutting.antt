-- What the client of a run that was stopped has called is a beginning of a lookup.
use Rattle.std.proofs.Common.{◌≡◌, ℕ, Bool, true, false, MatchBool, List, [], ◌∷◌, ◌++◌, refl, sym, ap, subst, ◌∙◌, append_assoc, append-nil}
use Rattle.orc_ids.specs.declared.ids.NameId.{NameId}
use Rattle.session_model.specs.Calls.{IsStopped, Looks}
use Rattle.session_model.specs.Meaning.{Meaning}
use Rattle.session_model.specs.declared.entry.Entry.{Entry}
use Rattle.session_model.specs.Stopped.{IsCutShort}
use Rattle.session_model.proofs.Lasts.{split_end}
use Rattle.run_laws.proofs.Seats.{same_front}
use Rattle.run_laws.specs.Runs.{IsCopy, LooksAndCopies, has_found, lookup_of}

module _ (h : List (Entry Meaning)) (entry : NameId) (cs : List (ℕ × Entry Meaning)) where
  abbrev Begins : Type 0
  Begins = IsStopped (Looks h (lookup_of entry)) cs

  -- the call behind them was the copy, or one of the lookup
  copied_last : (rest before copied : List (ℕ × Entry Meaning)) → cs ++ rest ≡ before ++ copied → Looks h (lookup_of entry) before → IsCopy copied → (rest ≡ [] → ⊥) → Begins
  copied_last [] before copied are looks copy more = absurd (more refl)
  copied_last (r ∷ rs) before [] are looks copy more = absurd copy
  copied_last (r ∷ rs) before (c ∷ d ∷ ds) are looks copy more = absurd copy
  copied_last (r ∷ rs) before (c ∷ []) are looks copy more =
      let s = split_end r rs in
      record {
        rest = s.0;
        would = subst (Looks h (lookup_of entry)) (sym (same_front (cs ++ s.0) before s.1 c (append_assoc cs s.0 (s.1 ∷ []) ∙ (ap (λ l. cs ++ l) (sym s.2) ∙ are)))) looks;
      }

  pub cut_client : IsCutShort (LooksAndCopies h entry) cs → Begins
  cut_client s = by (has_found s.would.last.1.reply) s.would.copies
    where
      looked : List (ℕ × Entry Meaning)
      looked = s.would.before ++ s.would.last ∷ []

      by : (b : Bool) → MatchBool b (IsCopy s.would.copied) (s.would.copied ≡ []) → Begins
      by true copy = copied_last s.rest looked s.would.copied s.would.are s.would.looks copy s.more
      by false none = record { rest = s.rest; would = subst (Looks h (lookup_of entry)) (sym (s.would.are ∙ (ap (λ l. looked ++ l) none ∙ append-nil looked))) s.would.looks }
