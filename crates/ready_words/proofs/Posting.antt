-- What a pass found at Ready may be posted.
use Rattle.std.proofs.Common.{◌≡◌, ℕ, ◌+◌, ◌<◌, List, [], ◌++◌, length, slice_get, All, append-nil, Option, Some, None, refl, sym, subst, ◌∙◌, arith}
use Rattle.std.specs.Option.{option_map_or}
use Rattle.std.proofs.lemmas.List.Elements.{All-weaker}
use Rattle.std.proofs.lemmas.Option.{none-some, slice_get_within}
use Rattle.list_laws.proofs.Each.{all_back}
use Rattle.orc_ids.specs.declared.ids.InstId.{InstId}
use Rattle.orc_ids.specs.declared.ids.QueryId.{QueryId}
use Rattle.orc_ids.specs.declared.lookup.Level.TheVariants.{Ready}
use Rattle.session_model.specs.Calls.{Lookup, Looks}
use Rattle.session_model.specs.History.{IsLegal}
use Rattle.session_model.specs.Meaning.{Bindings, Meaning}
use Rattle.session_model.specs.Plain.{address_at, phase_address}
use Rattle.session_model.specs.State.{plain_history, state}
use Rattle.session_model.specs.declared.entry.Entry.{Entry}
use Rattle.session_model.specs.declared.rows.InstRow.{InstRow}
use Rattle.turn_lock.specs.Lists.{StartsWith}
use Rattle.turn_lock.specs.declared.view.View.{View}
use Rattle.session_model.specs.Ends.{EndsAs}
use Rattle.session_model.specs.declared.look_end.LookEnd.TheVariants.{Found}
use Rattle.shared_session.specs.Carried.{lawful_before}
use Rattle.shared_session.specs.Home.{IsLawful}
use Rattle.shared_session.specs.declared.posts.TheConstants.{POSTS}
use Rattle.shared_session.proofs.Words.{ready_words_stand}
use Rattle.shared_session.specs.Did.{Did, Promise, calls_in}
use Rattle.session_promises.specs.Lookups.{AreCallsOf, IsFoundAt, StandsReady}
use Rattle.session_promises.proofs.Entries.{calls_of}
use Rattle.session_promises.proofs.Few.{rows_are_few}
use Rattle.session_promises.proofs.FoundFew.{found_are_few}
use Rattle.session_promises.proofs.FoundStanding.{address_is, found_stays_ready}
use Rattle.session_promises.proofs.Settled.{found_where_settled}
use Rattle.ready_words.specs.Found.{FoundHavePosts, FoundMayBePosted, HasPost, MayBePosted}

-- an instance with an address is there
is_there : (rows : List InstRow) (i a : ℕ) → address_at rows i ≡ Some a → i < length rows
is_there rows i a e = split (slice_get rows i) refl e
  where
    split : (o : Option InstRow) → slice_get rows i ≡ o → option_map_or (λ r. phase_address r.phase) o None ≡ Some a → i < length rows
    split None is e = absurd (none-some a e)
    split (Some r) is e = slice_get_within rows i r is

module _ {U : Type 0} (means : U → Meaning) where
  -- what a pass did are entries of what it has seen
  made_are : (v w : View (Entry U)) (P : Promise) (did : Did means v w P) → AreCallsOf (plain_history means w.seen) did.made
  made_are v w P did = all_back (λ c. (n : ℕ) × (c.0 ≡ n + 1) × (slice_get (plain_history means w.seen) n ≡ Some c.1)) (calls_in means v.number v.seen) did.made
      (subst (AreCallsOf (plain_history means w.seen)) did.calls (calls_of v.number (plain_history means w.seen)))

  -- a match that stands ready in what was seen may be posted by who has seen more
  one_may : (jmax : ℕ) (seen more : List (Entry U)) → IsLawful means jmax (seen ++ more) → (o : Option (InstId × ℕ)) → StandsReady (state (plain_history means seen)).rows o → MayBePosted means POSTS (seen ++ more) o
  one_may jmax seen more lawful None stands = tt
  one_may jmax seen more lawful (Some p) stands = λ some.
      let rows = (state (plain_history means seen)).rows in
      let s = stands some in
      let few = rows_are_few jmax (plain_history means seen) (lawful_before means jmax seen more lawful).legal in
      let there = is_there rows p.0.0 p.1 s.1 in (
        omega (arith, few, there),
        ready_words_stand means jmax seen more lawful p.0.0 p.1 (record { ready = s.0; stands = sym (address_is rows p.0.0) ∙ s.1; not_zero = some }),
      )

-- a lookup that was found settled
found_at : (jmax : ℕ) (h : List (Entry Meaning)) → IsLegal jmax h → (l : Lookup) (cs : List (ℕ × Entry Meaning)) (matches : Bindings) → AreCallsOf h cs → Looks h l cs → EndsAs (Found matches) cs → (q : QueryId) × (at : ℕ) × IsFoundAt h l q at matches
found_at jmax h legal l cs matches calls looks ends =
    let last = ends.1 in
    let f = found_where_settled jmax h legal l last.before (last.number, last.entry) (subst (AreCallsOf h) last.are calls) (subst (Looks h l) last.are looks) ends.0 matches last.reply in
    (f.0, ends.0, f.2)

module _ {U : Type 0} (means : U → Meaning) (jmax : ℕ) (v w now : View (Entry U)) (l : Lookup) (matches : Bindings) (did : Did means v w (λ h cs. Looks h l cs × EndsAs (Found matches) cs)) (later : StartsWith now.seen w.seen) (lawful : IsLawful means jmax now.seen) where
  abbrev Seen : List (Entry Meaning)
  Seen = plain_history means w.seen

  lawful_now : IsLawful means jmax (w.seen ++ later.0)
  lawful_now = subst (IsLawful means jmax) later.1 lawful

  legal_then : IsLegal jmax Seen
  legal_then = (lawful_before means jmax w.seen later.0 lawful_now).legal

  settled : (q : QueryId) × (at : ℕ) × IsFoundAt Seen l q at matches
  settled =
      let kept = did.holds Seen ([], sym (append-nil Seen)) in
      found_at jmax Seen legal_then l did.made matches (made_are means v w _ did) kept.0 kept.1

  have_posts : All HasPost matches
  have_posts = let f = settled in found_are_few jmax Seen legal_then l f.0 f.1 matches f.2

  may_be_posted : l.level ≡ Ready → All (MayBePosted means POSTS now.seen) matches
  may_be_posted at_ready = let f = settled in
      subst (λ (seen : List (Entry U)). All (MayBePosted means POSTS seen) matches) (sym later.1)
      (All-weaker (StandsReady (state Seen).rows) (MayBePosted means POSTS (w.seen ++ later.0)) (one_may means jmax w.seen later.0 lawful_now) matches
      (found_stays_ready jmax Seen legal_then l f.0 f.1 matches f.2 at_ready))

pub found_have_posts : {U : Type 0} (means : U → Meaning) → FoundHavePosts means
found_have_posts means jmax v w now l matches did later lawful = have_posts means jmax v w now l matches did later lawful

pub found_may_be_posted : {U : Type 0} (means : U → Meaning) → FoundMayBePosted means
found_may_be_posted means jmax v w now l matches at_ready did later lawful = may_be_posted means jmax v w now l matches did later lawful at_ready
