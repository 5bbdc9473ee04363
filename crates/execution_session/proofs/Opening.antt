-- A session before its first entry.
use Rattle.std.proofs.Common.{◌≡◌, ℕ, ◌≤◌, [], refl, ap, sym, subst}
use Rattle.std.proofs.lemmas.Option.{none-some}
use Rattle.orc_ids.specs.declared.limits.TheConstants.{ENTRY_LIMIT}
use Rattle.session_model.specs.Meaning.{Meaning}
use Rattle.session_model.specs.Plain.{empty}
use Rattle.session_model.specs.Query.{stand_at}
use Rattle.query_book.specs.Ledger.{Ledger, nobody, IsCurrent}
use Rattle.query_book.proofs.Current.{nobody_current}
use Rattle.session_parts.specs.declared.parts.Parts.{Parts}
use Rattle.session_parts.specs.Ends.{AreEnds}
use Rattle.session_parts.specs.Parts.{AreParts}
use Rattle.session_steps.specs.Rest.{IsAtRest}

pub opens : {U N : Type 0} (means : U → Meaning) (jmax : ℕ) (p : Parts U N) (capacity : ℕ) → jmax ≤ ENTRY_LIMIT → jmax ≤ capacity → AreParts means p empty → p.book ≡ nobody → p.graph.changed ≡ [] → IsAtRest means jmax p [] capacity
opens {U} {N} means jmax p capacity limit room parts book told = record {
  limit = limit;
  room = room;
  legal = tt;
  places = tt;
  parts = parts;
  lawful = record { units = λ u x t. absurd (none-some x t); generators = λ g x t. absurd (none-some x t) };
  queries = ap (λ (b : Ledger N). b.queries) book;
  ends = subst (λ (b : Ledger N). AreEnds [] b.ends) (sym book) (record { count = refl; each = λ k q end t. absurd (none-some q t) });
  current = subst (λ (b : Ledger N). IsCurrent (stand_at []) b) (sym book) (nobody_current (stand_at []));
  waits = λ u x k t. absurd (none-some x t);
  due = ap (λ (b : Ledger N). b.due) book;
  told = told;
}
