-- What a peek tells of a name.
use Rattle.std.proofs.Common.{◌≡◌, ◌≢◌, ℕ, List, [], length, take, refl, sym, ap, subst, ◌∙◌, All, Option, Some, None}
use Rattle.std.proofs.lemmas.List.Elements.{All-contains}
use Rattle.orc_ids.specs.declared.ids.NameId.{NameId}
use Rattle.orc_ids.specs.declared.lookup.Outcome.{Outcome}
use Rattle.session_model.specs.Meaning.{Meaning}
use Rattle.session_model.specs.Plain.{address_at}
use Rattle.session_model.specs.Reach.{IsReady}
use Rattle.session_model.specs.State.{plain_history, state}
use Rattle.session_model.specs.declared.entry.Entry.{Entry}
use Rattle.notifiers.specs.declared.notice.Notice.{Notice}
use Rattle.turn_lock.specs.declared.view.View.{View}
use Rattle.turn_lock.specs.Lists.{StartsWith}
use Rattle.shared_session.specs.ReadyWords.{IsWord}
use Rattle.shared_session.specs.Did.{Did, Nothing, Promise}
use Rattle.shared_session.proofs.Doing.{nothing_is_done, word_is_no_call}
use Rattle.shared_session.proofs.Numbers.{taken_start}
use Rattle.session_promises.proofs.FoundStanding.{address_is}
use Rattle.session_model.specs.declared.peeked.Peek.{Peek}
use Rattle.session_model.specs.declared.peeked.Peek.TheVariants as peek
use Rattle.ready_words.specs.Peeks.{IsPeek}
use Rattle.link_worker.specs.Does.{Does}
use Rattle.link_worker.specs.Works.{IsFree}
use Rattle.link_worker.proofs.Seeing.{free_reads}
use Rattle.link_worker.proofs.Telling.{does_none}
use Rattle.script_model.specs.Given.{Given, match_of}
use Rattle.script_model.specs.declared.names.GivenMatch.{GivenMatch}
use Rattle.script_model.specs.Asking.{PeekAt}
use Rattle.script_model.specs.Lines.{IsPeekOf, WasReady}
use Rattle.script_model.specs.declared.line_end.LineEnd.TheVariants.{Peeked}
use Rattle.script_session.specs.Clients.{HasDone, Makes}
use Rattle.script_session.specs.Posts.{KnowsMatch}

module _ {U : Type 0} (means : U → Meaning) (jmax : ℕ) (v w : View (Entry U)) (m : GivenMatch) (known : KnowsMatch v m) where
  -- what the client found ready itself it is told again
  told_again : (word : ℕ) → IsWord means jmax m.instance.0 word v w → WasReady m → (word ≡ m.address) × (word ≢ 0)
  told_again word is was = All-contains (λ p. p.0 ≡ m.instance.0 → (word ≡ p.1) × (word ≢ 0)) v.noted (m.instance.0, m.address) is.again (known.noted was) refl

  peeked_so : (told : Peek) → IsPeek means jmax (Some m.instance) v w told → (h : List (Entry Meaning)) → StartsWith h (plain_history means w.seen) → IsPeekOf h (Some m) told
  peeked_so peek.Unfound is h starts = absurd is
  peeked_so peek.NotYet is h starts = λ was. (told_again 0 is was).1 refl
  peeked_so (peek.Ready address) is h starts =
      let Seen : List (Entry Meaning) = plain_history means w.seen in
      let rows = (state Seen).rows in
      let posted = is.1.ready is.0 in
      let whole : take (length Seen) h ≡ Seen = taken_start h Seen starts in (
        (
          length Seen,
          (
            subst (λ g. IsReady (state g).rows m.instance.0) (sym whole) posted.ready,
            ap (λ g. address_at (state g).rows m.instance.0) whole ∙ (address_is rows m.instance.0 ∙ posted.stands),
          ),
        ),
        λ was. (told_again address is.1 was).0,
      )

  word_read : (told : Peek) → IsPeek means jmax (Some m.instance) v w told → Did means v w Nothing × (IsFree means v → IsFree means w)
  word_read peek.Unfound is = absurd is
  word_read peek.NotYet is = (word_is_no_call means jmax m.instance.0 0 v w is.read, free_reads means jmax m.instance.0 0 v w is.read)
  word_read (peek.Ready address) is = (word_is_no_call means jmax m.instance.0 address v w is.1.read, free_reads means jmax m.instance.0 address v w is.1.read)

  pub free_peeked : (told : Peek) → IsPeek means jmax (Some m.instance) v w told → IsFree means v → IsFree means w
  free_peeked told is free = (word_read told is).1 free

  -- no call, and a promise that follows from what was seen
  still : {N : Type 0} (heard : N → Option Outcome) (from : List (Notice N)) (P : Promise) → ((h : List (Entry Meaning)) → StartsWith h (plain_history means w.seen) → P h []) → Did means v w Nothing → Does means heard v w from from P
  still heard from P each did =
      let none = does_none means heard v w from Nothing (λ h. refl) did in
      record {
        told = none.told;
        added = none.added;
        heard_it = none.heard_it;
        did = record {
          view = none.did.view;
          noted = none.did.noted;
          later = none.did.later;
          made = none.did.made;
          calls = none.did.calls;
          holds = λ h starts. let k = none.did.holds h starts in (subst (P h) (sym k.0) (each h starts), k.1, k.2);
        };
      }

  pub peek_done : {N : Type 0} (heard : N → Option Outcome) (given : Given) (name : NameId) (from : List (Notice N)) (told : Peek) → match_of name given ≡ Some m → IsPeek means jmax (Some m.instance) v w told → HasDone means heard jmax given (PeekAt name) (Peeked told) v w from from
  peek_done heard given name from told here is =
      still heard from (Makes given (PeekAt name) (Peeked told)) (λ h starts. (subst (λ o. IsPeekOf h o told) (sym here) (peeked_so told is h starts), refl)) (word_read told is).0

-- a name without a match
pub peek_unfound : {U N : Type 0} (means : U → Meaning) (heard : N → Option Outcome) (jmax : ℕ) (v : View (Entry U)) (given : Given) (name : NameId) (from : List (Notice N)) → match_of name given ≡ None → HasDone means heard jmax given (PeekAt name) (Peeked peek.Unfound) v v from from
peek_unfound means heard jmax v given name from none = does_none means heard v v from (Makes given (PeekAt name) (Peeked peek.Unfound)) (λ h. (subst (λ o. IsPeekOf h o peek.Unfound) (sym none) refl, refl)) (nothing_is_done means v)
