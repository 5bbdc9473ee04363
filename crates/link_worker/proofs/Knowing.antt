-- What is known of a history that begins with what a pass has seen, and of the numbers of the pass's calls.
use Rattle.std.proofs.Common.{◌≡◌, ℕ, ◌+◌, ◌<◌, ◌≤◌, Bool, true, false, cond, eqb, List, [], ◌∷◌, length, sym, ap, subst, ◌∙◌, arith, Option, All}
use Rattle.std.proofs.lemmas.List.{append_cancel_left, length-append, map-append}
use Rattle.std.proofs.lemmas.List.Elements.{All-cons, All-nil}
use Rattle.orc_ids.specs.declared.lookup.Outcome.{Outcome}
use Rattle.session_model.specs.Meaning.{Meaning}
use Rattle.session_model.specs.Calls.{numbered_calls}
use Rattle.session_model.specs.State.{plain_entry, plain_history}
use Rattle.session_model.specs.declared.entry.Entry.{Entry}
use Rattle.notifiers.specs.declared.notice.Notice.{Notice}
use Rattle.turn_lock.specs.declared.view.View.{View}
use Rattle.turn_lock.specs.Lists.{StartsWith}
use Rattle.shared_session.specs.Did.{Did, Promise, calls_in}
use Rattle.shared_session.proofs.Numbers.{numbered_append}
use Rattle.link_worker.specs.Does.{Does, PlacesLowest, ToldAt}

-- the numbers of calls lie after one number, and not after another
abbrev pub Between : ℕ → ℕ → List (ℕ × Entry Meaning) → Type 0
Between low high cs = All (λ c. (low < c.0) × (c.0 ≤ high)) cs

in_rest : (c : Bool) (low high n : ℕ) (e : Entry Meaning) (cs : List (ℕ × Entry Meaning)) → low < n → n ≤ high → Between low high cs → Between low high (cond c ((n, e) ∷ cs) cs)
in_rest true low high n e cs below above rest = All-cons (λ c. (low < c.0) × (c.0 ≤ high)) (n, e) cs (below, above) rest
in_rest false low high n e cs below above rest = rest

in_both : (s low high n : ℕ) (es : List (Entry Meaning)) → low < n → n + length es ≤ high + 1 → Between low high (numbered_calls s n es)
in_both s low high n [] below above = All-nil (λ c. (low < c.0) × (c.0 ≤ high))
in_both s low high n (e ∷ es) below above = in_rest (eqb e.seat.0 s) low high n e (numbered_calls s (n + 1) es) below (omega (arith, above)) (in_both s low high (n + 1) es (omega (arith, below)) (omega (arith, above)))

module _ {U : Type 0} (means : U → Meaning) (v w : View (Entry U)) (P : Promise) (did : Did means v w P) where
  -- the calls that were made are those of what the pass has seen more
  made_is : did.made ≡ numbered_calls v.number (1 + length (plain_history means v.seen)) (plain_history means did.later.0)
  made_is = append_cancel_left (calls_in means v.number v.seen) did.made (numbered_calls v.number (1 + length (plain_history means v.seen)) (plain_history means did.later.0))
      (sym did.calls ∙ (ap (λ l. calls_in means v.number l) did.later.1 ∙ (ap (numbered_calls v.number 1) (map-append (plain_entry means) v.seen did.later.0)
      ∙ numbered_append v.number 1 (plain_history means v.seen) (plain_history means did.later.0))))

  grown : length (plain_history means w.seen) ≡ length (plain_history means v.seen) + length (plain_history means did.later.0)
  grown = ap (λ l. length (plain_history means l)) did.later.1 ∙ (ap length (map-append (plain_entry means) v.seen did.later.0) ∙ length-append (plain_history means v.seen) (plain_history means did.later.0))

  made_between : Between (length (plain_history means v.seen)) (length (plain_history means w.seen)) did.made
  made_between = subst (Between (length (plain_history means v.seen)) (length (plain_history means w.seen))) (sym made_is)
      (in_both v.number (length (plain_history means v.seen)) (length (plain_history means w.seen)) (1 + length (plain_history means v.seen)) (plain_history means did.later.0) (omega arith) (omega (arith, grown)))

module _ {U N : Type 0} (means : U → Meaning) (hears : N → Option Outcome) (v w : View (Entry U)) (a b : List (Notice N)) (P : Promise) (d : Does means hears v w a b P) where
  abbrev length_of : View (Entry U) → ℕ
  length_of x = length (plain_history means x.seen)

  -- Beside its promise, what is true of every history that begins with what the pass has seen, and the numbers of its calls.
  pub does_known : (Q : List (Entry Meaning) → Type 0) → ((h : List (Entry Meaning)) → StartsWith h (plain_history means w.seen) → Q h) → Does means hears v w a b (λ h cs. P h cs × Q h × Between (length_of v) (length_of w) cs)
  does_known Q known = record {
    told = d.told;
    added = d.added;
    heard_it = d.heard_it;
    did = record {
      view = d.did.view;
      noted = d.did.noted;
      later = d.did.later;
      made = d.did.made;
      calls = d.did.calls;
      holds = λ h starts. let p = d.did.holds h starts in ((p.0, known h starts, made_between means v w (λ h cs. P h cs × ToldAt h cs d.told × PlacesLowest h cs) d.did), p.1, p.2);
    };
  }
