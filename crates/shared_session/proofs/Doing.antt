-- How what a seat did is put together.
use Rattle.std.proofs.Common.{◌≡◌, ℕ, zero, suc, ◌+◌, List, [], ◌∷◌, ◌++◌, length, take, append-nil, refl, sym, ap, subst, ◌∙◌, arith}
use Rattle.std.proofs.lemmas.List.{append_assoc, length-append, map-append}
use Rattle.session_model.specs.Meaning.{Meaning}
use Rattle.session_model.specs.Calls.{numbered_calls}
use Rattle.session_model.specs.State.{plain_entry, plain_history}
use Rattle.session_model.specs.declared.entry.Entry.{Entry}
use Rattle.turn_lock.specs.declared.view.View.{View}
use Rattle.turn_lock.specs.Lists.{StartsWith, entries_of}
use Rattle.turn_lock.specs.Told.{Shows}
use Rattle.turn_lock.specs.Views.{sees, finds_post}
use Rattle.turn_lock.specs.Passes.{Passed}
use Rattle.turn_lock.proofs.Entries.{none_since}
use Rattle.shared_session.specs.Home.{IsLawful, IsPosted, seat_of}
use Rattle.shared_session.specs.Did.{Promise, Nothing, Then, Did, calls_in, TurnIsACall, TurnIsNoCall, PostIsNoCall, WordIsNoCall}
use Rattle.shared_session.proofs.Numbers.{numbered_append, numbered_none, numbered_one, plain_starts, starts_again, taken_start}

-- a seat that does nothing has made no call
pub nothing_is_done : {U : Type 0} (means : U → Meaning) (v : View (Entry U)) → Did means v v Nothing
nothing_is_done means v = record {
  view = refl;
  noted = ([], refl);
  later = ([], sym (append-nil v.seen));
  made = [];
  calls = sym (append-nil (calls_in means v.number v.seen));
  holds = λ h starts. refl;
}

-- a promise that follows from one that is kept is kept
pub less_is_done : {U : Type 0} (means : U → Meaning) (v w : View (Entry U)) (P Q : Promise) → ((h : List (Entry Meaning)) (cs : List (ℕ × Entry Meaning)) → P h cs → Q h cs) → Did means v w P → Did means v w Q
less_is_done means v w P Q follows did = record { view = did.view; noted = did.noted; later = did.later; made = did.made; calls = did.calls; holds = λ h starts. follows h did.made (did.holds h starts) }

-- a view is the other one but for what it has seen, been told, made and found, and knows of posts
abbrev SameBut : {E : Type 0} → View E → View E → Type 0
SameBut v w = w ≡ record v { seen = w.seen; told = w.told; mine = w.mine; found = w.found; noted = w.noted; zeros = w.zeros }

same_again : {E : Type 0} (u v w : View E) → SameBut u v → SameBut v w → SameBut u w
same_again u v w f g = g ∙ ap (λ (x : View _). record x { seen = w.seen; told = w.told; mine = w.mine; found = w.found; noted = w.noted; zeros = w.zeros }) f

-- what is noted of posts is kept
abbrev KeepsNotes : {E : Type 0} → View E → View E → Type 0
KeepsNotes v w = (more : List (ℕ × ℕ)) × (w.noted ≡ more ++ v.noted)

notes_again : {E : Type 0} (u v w : View E) → KeepsNotes u v → KeepsNotes v w → KeepsNotes u w
notes_again u v w f g = (g.0 ++ f.0, g.1 ∙ (ap (λ l. g.0 ++ l) f.1 ∙ sym (append_assoc g.0 f.0 u.noted)))

-- what is done in two parts is done
pub parts_are_done : {U : Type 0} (means : U → Meaning) (u v w : View (Entry U)) (P Q : Promise) → Did means u v P → Did means v w Q → Did means u w (Then P Q)
parts_are_done means u v w P Q first second =
    let number : v.number ≡ u.number = ap (λ (x : View _). x.number) first.view in
    record {
      view = same_again u v w first.view second.view;
      noted = notes_again u v w first.noted second.noted;
      later = starts_again w.seen v.seen u.seen second.later first.later;
      made = first.made ++ second.made;
      calls = subst (λ n. calls_in means n w.seen ≡ calls_in means n v.seen ++ second.made) number second.calls
          ∙ (ap (λ l. l ++ second.made) first.calls ∙ append_assoc (calls_in means u.number u.seen) first.made second.made);
      holds = λ h starts. (first.made, second.made, refl, first.holds h (starts_again h (plain_history means w.seen) (plain_history means v.seen) starts (plain_starts means w.seen v.seen second.later)), second.holds h starts);
    }

module _ {U : Type 0} (means : U → Meaning) (jmax : ℕ) (v w : View (Entry U)) where
  -- a seat's calls in a history that it finds are those that it had seen
  found_calls : (old : List (Entry U)) → Shows seat_of (IsLawful means jmax) (IsPosted means) old v → calls_in means v.number old ≡ calls_in means v.number v.seen
  found_calls old s =
      let rest = s.later.0 in
      let others = none_since seat_of v.number v.mine v.seen rest s.own (ap (entries_of seat_of v.number) (sym s.later.1) ∙ s.accounts.mine) in
      ap (λ l. calls_in means v.number l) s.later.1
      ∙ (ap (numbered_calls v.number 1) (map-append (plain_entry means) v.seen rest)
      ∙ (numbered_append v.number 1 (plain_history means v.seen) (plain_history means rest)
      ∙ (ap (λ l. calls_in means v.number v.seen ++ l) (numbered_none means v.number (1 + length (plain_history means v.seen)) rest others) ∙ append-nil (calls_in means v.number v.seen))))

  turned_view : (old new : List (Entry U)) → Passed seat_of (IsLawful means jmax) (IsPosted means) v w old new → SameBut v w
  turned_view old new p = subst (λ (x : View (Entry U)). SameBut v x) (sym p.view) refl

  turned_notes : (old new : List (Entry U)) → Passed seat_of (IsLawful means jmax) (IsPosted means) v w old new → KeepsNotes v w
  turned_notes old new p = ([], ap (λ (x : View (Entry U)). x.noted) p.view)

  turned_seen : (old new : List (Entry U)) → Passed seat_of (IsLawful means jmax) (IsPosted means) v w old new → w.seen ≡ new
  turned_seen old new p = ap (λ (x : View (Entry U)). x.seen) p.view

  turned_later : (old new : List (Entry U)) → Passed seat_of (IsLawful means jmax) (IsPosted means) v w old new → StartsWith w.seen v.seen
  turned_later old new p = starts_again w.seen old v.seen (p.more, turned_seen old new p ∙ p.grown) p.shows.later

pub turn_is_no_call : {U : Type 0} (means : U → Meaning) → TurnIsNoCall means
turn_is_no_call means jmax v w t = record {
  view = turned_view means jmax v w t.old t.new t.passed;
  noted = turned_notes means jmax v w t.old t.new t.passed;
  later = turned_later means jmax v w t.old t.new t.passed;
  made = [];
  calls = ap (λ l. calls_in means v.number l) (turned_seen means jmax v w t.old t.new t.passed ∙ t.did) ∙ (found_calls means jmax v w t.old t.passed.shows ∙ sym (append-nil (calls_in means v.number v.seen)));
  holds = λ h starts. refl;
}

pub turn_is_a_call : {U : Type 0} (means : U → Meaning) → TurnIsACall means
turn_is_a_call {U} means jmax v w old e its t =
    let seen : w.seen ≡ old ++ e ∷ [] = turned_seen means jmax v w t.old t.new t.passed ∙ t.did.1 in
    let plain : plain_history means w.seen ≡ plain_history means old ++ plain_entry means e ∷ [] = ap (plain_history means) seen ∙ map-append (plain_entry means) old (e ∷ []) in
    let count = length (plain_history means old) in
    record {
      view = turned_view means jmax v w t.old t.new t.passed;
      noted = turned_notes means jmax v w t.old t.new t.passed;
      later = turned_later means jmax v w t.old t.new t.passed;
      made = (count + 1, plain_entry means e) ∷ [];
      calls = ap (numbered_calls v.number 1) plain
          ∙ (numbered_append v.number 1 (plain_history means old) (plain_entry means e ∷ [])
          ∙ (ap (λ l. calls_in means v.number old ++ l) (numbered_one means v.number (1 + count) e its ∙ ap (λ k. (k, plain_entry means e) ∷ []) (omega arith))
          ∙ ap (λ l. l ++ (count + 1, plain_entry means e) ∷ []) (ap (λ l. calls_in means v.number l) (sym t.did.0) ∙ found_calls means jmax v w t.old t.passed.shows)));
      holds = λ h starts.
          let whole : StartsWith h (plain_history means old ++ plain_entry means e ∷ []) = subst (StartsWith h) plain starts in (
            refl,
            taken_start h (plain_history means old) (starts_again h (plain_history means old ++ plain_entry means e ∷ []) (plain_history means old) whole (plain_entry means e ∷ [], refl)),
            ap (λ k. take k h) (sym (length-append (plain_history means old) (plain_entry means e ∷ []))) ∙ taken_start h (plain_history means old ++ plain_entry means e ∷ []) whole,
          );
    }

pub post_is_no_call : {U : Type 0} (means : U → Meaning) → PostIsNoCall means
post_is_no_call means i address v = record {
  view = refl;
  noted = ((i, address) ∷ [], refl);
  later = ([], sym (append-nil v.seen));
  made = [];
  calls = sym (append-nil (calls_in means v.number v.seen));
  holds = λ h starts. refl;
}

-- a seat that sees the history again makes no call
pub looks_again : {U : Type 0} (means : U → Meaning) (jmax : ℕ) (v w : View (Entry U)) → w ≡ sees w.seen v → Shows seat_of (IsLawful means jmax) (IsPosted means) w.seen v → Did means v w Nothing
looks_again {U} means jmax v w is shows = record {
  view = subst (λ (x : View (Entry U)). SameBut v x) (sym is) refl;
  noted = ([], ap (λ (x : View (Entry U)). x.noted) is);
  later = shows.later;
  made = [];
  calls = found_calls means jmax v w w.seen shows ∙ sym (append-nil (calls_in means v.number v.seen));
  holds = λ h starts. refl;
}

-- what it found in a post is more that it knows
finding_is_no_call : {U : Type 0} (means : U → Meaning) (i word : ℕ) (v : View (Entry U)) → Did means v (finds_post i word v) Nothing
finding_is_no_call means i zero v = record {
  view = refl;
  noted = ([], refl);
  later = ([], sym (append-nil v.seen));
  made = [];
  calls = sym (append-nil (calls_in means v.number v.seen));
  holds = λ h starts. refl;
}
finding_is_no_call means i (suc word) v = post_is_no_call means i (suc word) v

-- no call, and then none again
pub nothing_twice : {U : Type 0} (means : U → Meaning) (u v w : View (Entry U)) → Did means u v Nothing → Did means v w Nothing → Did means u w Nothing
nothing_twice means u v w first second =
    less_is_done means u w (Then Nothing Nothing) Nothing (λ h cs both. both.2 ∙ (ap (λ l. l ++ both.1) both.3 ∙ both.4)) (parts_are_done means u v w Nothing Nothing first second)

pub word_is_no_call : {U : Type 0} (means : U → Meaning) → WordIsNoCall means
word_is_no_call means jmax i word v w reads =
    let found = finds_post i word v in
    nothing_twice means v found w (finding_is_no_call means i word v) (looks_again means jmax found w reads.0 reads.1)
