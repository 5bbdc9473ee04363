-- What a lookup found is posted and kept.
use Rattle.std.proofs.Common.{◌≡◌, ℕ, ◌<◌, List, [], ◌∷◌, ◌++◌, refl, sym, subst, ◌∙◌, All, Option, Some, None}
use Rattle.std.specs.Prelude.{IfSome, Contains}
use Rattle.std.proofs.lemmas.List.Elements.{All-cons, All-head, All-nil, All-tail}
use Rattle.orc_ids.specs.declared.ids.InstId.{InstId}
use Rattle.orc_ids.specs.declared.ids.NameId.{NameId}
use Rattle.orc_ids.specs.declared.lookup.Level.{Level}
use Rattle.orc_ids.specs.declared.lookup.Level.TheVariants as level
use Rattle.orc_ids.specs.declared.lookup.Outcome.{Outcome}
use Rattle.orc_ids.specs.declared.lookup.Wanted.{Wanted}
use Rattle.session_model.specs.Calls.{Lookup, Looks}
use Rattle.session_model.specs.Meaning.{Bindings, Meaning}
use Rattle.session_model.specs.declared.entry.Entry.{Entry}
use Rattle.notifiers.specs.declared.notice.Notice.{Notice}
use Rattle.notifiers.specs.declared.notice.Unheard.{Unheard}
use Rattle.turn_lock.specs.declared.view.View.{View}
use Rattle.turn_lock.specs.Told.{Shows}
use Rattle.turn_lock.specs.Views.{sees}
use Rattle.shared_session.specs.Home.{IsLawful, IsPosted, seat_of}
use Rattle.shared_session.specs.declared.posts.TheConstants.{POSTS}
use Rattle.session_model.specs.Ends.{EndsAs}
use Rattle.session_model.specs.declared.look_end.LookEnd.{LookEnd}
use Rattle.session_model.specs.declared.look_end.LookEnd.TheVariants as look
use Rattle.shared_session.specs.Did.{Did, Nothing}
use Rattle.shared_session.proofs.Doing.{less_is_done, looks_again, nothing_twice}
use Rattle.link_worker.specs.Looks.{HasLooked}
use Rattle.link_worker.specs.Works.{IsFree}
use Rattle.link_worker.proofs.Seeing.{free_looks}
use Rattle.ready_words.specs.Found.{HasPost, MayBePosted, posts_all}
use Rattle.ready_words.proofs.Posting.{found_have_posts, found_may_be_posted}
use Rattle.script_model.specs.Given.{Given, given_match, given_names, match_of}
use Rattle.script_model.specs.declared.names.GivenMatch.{GivenMatch}
use Rattle.script_session.specs.Posts.{KnowsGiven, KnowsMatch, MayBeKept}
use Rattle.script_session.proofs.Posting.{IsNoted, given_all, posts_free, posts_no_call, posts_noted, still_given}

-- one level isn't the other
pub apart : level.Resolved ≡ level.Ready → ⊥
apart e = cc

-- what is known of each match of a lookup
abbrev pub KnowsFound : {U : Type 0} → Level → View (Entry U) → Option (InstId × ℕ) → Type 0
KnowsFound level v o = IfSome o (λ p. KnowsMatch v (given_match level p))

module _ {U : Type 0} (means : U → Meaning) (jmax : ℕ) where
  -- what a lookup that was found did lets its matches be kept
  pub may_be_kept : (v w : View (Entry U)) (l : Lookup) (found : Bindings) → Did means v w (λ h cs. Looks h l cs × EndsAs (look.Found found) cs) → MayBeKept means jmax l.level found w.seen
  may_be_kept v w l found did = record {
    posts = λ now later lawful. found_have_posts means jmax v w (record w { seen = now }) l found did later lawful;
    ready = λ at now later lawful. found_may_be_posted means jmax v w (record w { seen = now }) l found at did later lawful;
  }

  module _ {N : Type 0} (heard : N → Option Outcome) (v w : View (Entry U)) (old new : List (Notice N)) (l : Lookup) (then' back : Option (Unheard N)) where
    pub looked_may_be_kept : (end : LookEnd) (found : Bindings) → end ≡ look.Found found → HasLooked means heard jmax v w old new l then' end back → MayBeKept means jmax l.level found w.seen
    looked_may_be_kept end found is has =
        let does = subst (λ e. HasLooked means heard jmax v w old new l then' e back) is has in
        may_be_kept v w l found (less_is_done means v w _ _ (λ h cs p. (p.0.0, p.0.1)) does.did)

    -- a lookup keeps what is noted
    pub looked_notes : (end : LookEnd) → HasLooked means heard jmax v w old new l then' end back → (more : List (ℕ × ℕ)) × (w.noted ≡ more ++ v.noted)
    looked_notes (look.Found matches) has = has.did.noted
    looked_notes (look.Failed i) has = has.did.noted
    looked_notes (look.InError i) has = has.did.noted
    looked_notes (look.Missing name) has = has.did.noted
    looked_notes (look.NoDylib d) has = has.did.noted
    looked_notes (look.JournalFull len) has = has.0.did.noted
    looked_notes look.NoMemory has = has.did.noted

  module _ (v w : View (Entry U)) (found : Bindings) (at : Level) (is : w ≡ sees w.seen v) (shows : Shows seat_of (IsLawful means jmax) (IsPosted means) w.seen v) (may : MayBeKept means jmax at found v.seen) where
    have_posts : All HasPost found
    have_posts = may.posts w.seen shows.later shows.legal

    -- at Ready all of them are posted
    pub may_post : at ≡ level.Ready → (posts : ℕ) → posts ≡ POSTS → All (MayBePosted means posts w.seen) found
    may_post ready posts all = subst (λ n. All (MayBePosted means n w.seen) found) (sym all) (may.ready ready w.seen shows.later shows.legal)

    pub quiet_seen : Did means v w Nothing
    quiet_seen = looks_again means jmax v w is shows

    pub quiet_posted : Did means v (posts_all found w) Nothing
    quiet_posted = nothing_twice means v w (posts_all found w) quiet_seen (posts_no_call means found w)

    pub free_seen : IsFree means v → IsFree means w
    free_seen free = free_looks means jmax v w is shows free

    pub free_posted : IsFree means v → IsFree means (posts_all found w)
    free_posted free = posts_free means found w (free_seen free)

    known_all : (x : View (Entry U)) (bs : Bindings) → All HasPost bs → (at ≡ level.Ready → All (IsNoted means x) bs) → All (KnowsFound at x) bs
    known_all x [] posts noted = All-nil (KnowsFound at x)
    known_all x (b ∷ bs) posts noted = All-cons (KnowsFound at x) b bs (one b (All-head HasPost b bs posts) (λ r. All-head (IsNoted means x) b bs (noted r)))
        (known_all x bs (All-tail HasPost b bs posts) (λ r. All-tail (IsNoted means x) b bs (noted r)))
      where
        one : (o : Option (InstId × ℕ)) → HasPost o → (at ≡ level.Ready → IsNoted means x o) → KnowsFound at x o
        one None post note = tt
        one (Some p) post note = record { post = post; noted = λ was. note was.0 was.1 }

    pub known_posted : All (KnowsFound at (posts_all found w)) found
    known_posted = known_all (posts_all found w) found have_posts (λ r. posts_noted means found w)

    -- at Resolved nothing has to be
    pub known_seen : (at ≡ level.Ready → ⊥) → All (KnowsFound at w) found
    known_seen other = known_all w found have_posts (λ r. absurd (other r))

  -- the table once they are kept
  pub known_kept : (at : Level) (ws : List Wanted) (found : Bindings) (table new : Given) (v w : View (Entry U)) → Did means v w Nothing → KnowsGiven table v → All (KnowsFound at w) found → ((name : NameId) → match_of name new ≡ match_of name (given_names at ws found ++ table)) → KnowsGiven new w
  known_kept at ws found table new v w did known all added name m here =
      given_all (KnowsMatch w) at ws found table all (still_given means table v w did.noted known) name m (sym (added name) ∙ here)
