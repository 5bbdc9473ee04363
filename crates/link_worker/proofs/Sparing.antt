-- Calls none of which gives a unit up since another was stopped.
use Rattle.std.proofs.Common.{◌≡◌, ℕ, false, List, [], ◌∷◌, ◌++◌}
use Rattle.std.proofs.lemmas.List.Elements.{All-append, All-cons, All-nil}
use Rattle.session_model.specs.Meaning.{Meaning}
use Rattle.session_model.specs.declared.entry.Entry.{Entry}
use Rattle.link_worker.specs.Jobs.{SpareAll, is_cut_fail}

pub spare_none : SpareAll []
spare_none = All-nil (λ (c : ℕ × Entry Meaning). is_cut_fail c.1.event ≡ false)

pub spare_one : (n : ℕ) (e : Entry Meaning) → is_cut_fail e.event ≡ false → SpareAll ((n, e) ∷ [])
spare_one n e other = All-cons (λ (c : ℕ × Entry Meaning). is_cut_fail c.1.event ≡ false) (n, e) [] other spare_none

pub spare_both : (cs ds : List (ℕ × Entry Meaning)) → SpareAll cs → SpareAll ds → SpareAll (cs ++ ds)
spare_both cs ds a b = All-append (λ (c : ℕ × Entry Meaning). is_cut_fail c.1.event ≡ false) cs ds a b
