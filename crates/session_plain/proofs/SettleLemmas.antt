-- Settling, one query at a time.
use Rattle.std.proofs.Common.{◌≡◌, ℕ, ◌+◌, ◌<◌, Bool, true, false, List, [], ◌∷◌, drop, length, get_or, refl, ap, sym, ◌∙◌, arith}
use Rattle.std.specs.Prelude.{slice_get, Option, Some, None, ◌&&◌, option_and_then, if◌then◌else◌}
use Rattle.std.specs.Option.{option_map_or}
use Rattle.std.proofs.lemmas.Option.{slice_get-get_or}
use Rattle.list_laws.proofs.Lists.{drop_some}
use Rattle.session_model.specs.Plain.{Plain}
use Rattle.session_model.specs.Query.{is_met}
use Rattle.session_model.specs.Change.{settled_one, settled_from, waits_for, finish_listed}
use Rattle.session_model.specs.declared.rows.Query.{Query}
use Rattle.session_plain.specs.Settling.{met_link, settle_link}

one_more : (qs : List Query) (k : ℕ) (q : Query) (m now : Plain) → slice_get qs k ≡ Some q → now ≡ settled_one k q m → settled_from (k + 1) (drop (k + 1) qs) now ≡ settled_from k (drop k qs) m
one_more qs k q m now there is =
    ap (λ n. settled_from (k + 1) (drop (k + 1) qs) n) is ∙ sym (ap (λ xs. settled_from k xs m) (drop_some qs k q there))

link_met : (b : Bool) (o : Option ℕ) (k : ℕ) (m : Plain) → settle_link k (if b then o else None) m ≡ option_map_or (λ u. if b && waits_for m u k then finish_listed u m else m) o m
link_met true None k m = refl
link_met true (Some u) k m = refl
link_met false None k m = refl
link_met false (Some u) k m = refl

pub settle_more : (qs : List Query) (k : ℕ) (m now : Plain) (linked : Option ℕ) → k < length qs → linked ≡ option_and_then (met_link m.rows) (slice_get qs k) → now ≡ settle_link k linked m → settled_from (k + 1) (drop (k + 1) qs) now ≡ settled_from k (drop k qs) m
settle_more [] k m now linked h is to = absurd (omega arith)
settle_more (q ∷ qs) k m now linked h is to =
    let found : Query = get_or (q ∷ qs) k q in
    let there : slice_get (q ∷ qs) k ≡ Some found = slice_get-get_or (q ∷ qs) k q h in
    one_more (q ∷ qs) k found m now there
    (to ∙ ap (λ p. settle_link k p m) (is ∙ ap (λ p. option_and_then (met_link m.rows) p) there) ∙ link_met (is_met m.rows found) found.unit k m)
