-- Two runs that go on from one past make the same calls: a set-up, a lookup, and a copy of the memory where it found the entry.
use Rattle.std.proofs.Common.{◌≡◌, ℕ, zero, suc, Bool, true, false, MatchBool, List, [], ◌∷◌, ◌++◌, inl, inr, refl, sym, ◌∙◌, subst}
use Rattle.std.specs.Bool.{⊤}
use Rattle.orc_ids.specs.declared.ids.NameId.{NameId}
use Rattle.session_model.specs.Calls.{Looks}
use Rattle.session_model.specs.Meaning.{Meaning}
use Rattle.session_model.specs.declared.entry.Entry.{Entry}
use Rattle.session_model.specs.declared.entry.Event.{Event}
use Rattle.session_model.specs.declared.entry.Event.TheVariants as event
use Rattle.session_model.specs.declared.entry.Reply.{Reply}
use Rattle.session_model.specs.declared.entry.Reply.TheVariants as reply
use Rattle.session_laws.specs.Entries.{entries}
use Rattle.memory_laws.specs.Objects.{is_done}
use Rattle.run_laws.specs.Runs.{has_found, lookup_of}
use Rattle.one_log.proofs.Fronts.{Same, left, same_behind, same_far, same_inside}
use Rattle.one_log.proofs.Lookups.{Stands, goes_behind, goes_front, looks}
use Rattle.one_log.proofs.Phases.{Goes, step, step_on}

-- A set-up, as far as m entries: its events, each of which is done; behind one that isn't comes nothing.
abbrev pub Sets : (ℕ → List (Entry Meaning) → List (Entry Meaning) → Type 0) → ℕ → List (Entry Meaning) → List (Event Meaning) → List (Entry Meaning) → Type 0
Sets P m past [] es = P m past es
Sets P m past (v ∷ vs) [] = ⊥
Sets P zero past (v ∷ vs) (e ∷ es) = ⊤
Sets P (suc m) past (v ∷ vs) (e ∷ es) = (e.event ≡ v) × MatchBool (is_done e.reply) (Sets P m (past ++ e ∷ []) vs es) (es ≡ [])

-- the last entry found the names
abbrev pub ends_found : List (Entry Meaning) → Bool
ends_found [] = false
ends_found (e ∷ []) = has_found e.reply
ends_found (e ∷ f ∷ es) = ends_found (f ∷ es)

abbrev pub IsCopy : List (Entry Meaning) → Type 0
IsCopy (c ∷ []) = c.event ≡ event.Image
IsCopy es = ⊥

-- the calls of a client, as far as m entries: a lookup of the entry, and a copy where it found it
pub record Client (h : List (Entry Meaning)) (entry : NameId) (m : ℕ) (past es : List (Entry Meaning)) : Type 0 where
  pub calls : List (ℕ × Entry Meaning)
  pub copied : List (Entry Meaning)
  pub are : es ≡ entries calls ++ copied
  pub looks : Looks h (lookup_of entry) calls
  pub stands : Stands h m past calls
  pub copies : MatchBool (ends_found (entries calls)) (IsCopy copied) (copied ≡ [])

module _ (jmax : ℕ) (who : List (Entry Meaning) → ℕ) where
  sets_on : (P Q : ℕ → List (Entry Meaning) → List (Entry Meaning) → Type 0) → ((m : ℕ) (past f g : List (Entry Meaning)) → Goes jmax who m past f → Goes jmax who m past g → P m past f → Q m past g → Same m f g) →
      (vs : List (Event Meaning)) (b : Bool) (m : ℕ) (past f g : List (Entry Meaning)) → Goes jmax who m past f → Goes jmax who m past g → (Sets P m past vs f → Sets Q m past vs g → Same m f g) →
      MatchBool b (Sets P m past vs f) (f ≡ []) → MatchBool b (Sets Q m past vs g) (g ≡ []) → Same m f g
  sets_on P Q agree vs true m past f g a b onwards p q = onwards p q
  sets_on P Q agree vs false m past f g a b onwards p q = inl (p ∙ sym q)

  pub sets : (P Q : ℕ → List (Entry Meaning) → List (Entry Meaning) → Type 0) → ((m : ℕ) (past f g : List (Entry Meaning)) → Goes jmax who m past f → Goes jmax who m past g → P m past f → Q m past g → Same m f g) →
      (vs : List (Event Meaning)) (m : ℕ) (past f g : List (Entry Meaning)) → Goes jmax who m past f → Goes jmax who m past g → Sets P m past vs f → Sets Q m past vs g → Same m f g
  sets P Q agree [] m past f g a b p q = agree m past f g a b p q
  sets P Q agree (v ∷ vs) m past [] g a b p q = absurd p
  sets P Q agree (v ∷ vs) m past (e ∷ f) [] a b p q = absurd q
  sets P Q agree (v ∷ vs) zero past (e ∷ f) (d ∷ g) a b p q = same_far e d f g
  sets P Q agree (v ∷ vs) (suc m) past (e ∷ f) (d ∷ g) a b p q = step_on jmax who m past e d f g (λ x y. p.0 ∙ sym q.0) a b
      (λ is r x y. sets_on P Q agree vs (is_done e.reply) m (past ++ e ∷ []) f g x y (sets P Q agree vs m (past ++ e ∷ []) f g x y) p.1
      (subst (λ (z : Entry Meaning). MatchBool (is_done z.reply) (Sets Q m (past ++ z ∷ []) vs g) (g ≡ [])) (sym is) q.1))

  copies : (b : Bool) (m : ℕ) (past f g : List (Entry Meaning)) → Goes jmax who m past f → Goes jmax who m past g → MatchBool b (IsCopy f) (f ≡ []) → MatchBool b (IsCopy g) (g ≡ []) → Same m f g
  copies false m past f g a b p q = inl (p ∙ sym q)
  copies true m past (c ∷ []) (d ∷ []) a b p q = step jmax who m past c d [] [] (λ x y. p ∙ sym q) a b (λ k is r x y. inl refl)
  copies true m past (c ∷ []) [] a b p q = absurd q
  copies true m past (c ∷ []) (d ∷ e ∷ g) a b p q = absurd q
  copies true m past [] g a b p q = absurd p
  copies true m past (c ∷ e ∷ f) g a b p q = absurd p

  pub clients : (h g : List (Entry Meaning)) (entry : NameId) (m : ℕ) (past es fs : List (Entry Meaning)) → Goes jmax who m past es → Goes jmax who m past fs → Client h entry m past es → Client g entry m past fs → Same m es fs
  clients h g entry m past es fs a b p q = subst (λ l. Same m l fs) (sym p.are) (subst (Same m (one ++ p.copied)) (sym q.are)
      (by_looks (looks jmax who h g (lookup_of entry) m past p.calls q.calls (record { goes = goes_front jmax who m past one p.copied left_goes; stands = p.stands }) (record { goes = goes_front jmax who m past two q.copied right_goes; stands = q.stands }) p.looks q.looks)))
    where
      one : List (Entry Meaning)
      one = entries p.calls

      two : List (Entry Meaning)
      two = entries q.calls

      left_goes : Goes jmax who m past (one ++ p.copied)
      left_goes = subst (Goes jmax who m past) p.are a

      right_goes : Goes jmax who m past (two ++ q.copied)
      right_goes = subst (Goes jmax who m past) q.are b

      by_looks : Same m one two → Same m (one ++ p.copied) (two ++ q.copied)
      by_looks (inr s) = same_inside m one two p.copied q.copied s
      by_looks (inl e) = subst (λ l. Same m (one ++ p.copied) (l ++ q.copied)) e (same_behind m one p.copied q.copied
          (copies (ends_found one) (left m one) (past ++ one) p.copied q.copied (goes_behind jmax who m past one p.copied left_goes)
          (subst (λ l. Goes jmax who (left m l) (past ++ l) q.copied) (sym e) (goes_behind jmax who m past two q.copied right_goes))
          p.copies (subst (λ l. MatchBool (ends_found l) (IsCopy q.copied) (q.copied ≡ [])) (sym e) q.copies)))
