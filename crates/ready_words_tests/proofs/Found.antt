-- What a lookup found may be posted.
use Rattle.std.proofs.Common.{◌≡◌, ℕ, List, All, Option, refl, subst, sym}
use Rattle.orc_ids.specs.declared.lookup.Level.TheVariants.{Ready}
use Rattle.orc_ids.specs.declared.lookup.Outcome.{Outcome}
use Rattle.session_model.specs.Calls.{Lookup}
use Rattle.session_model.specs.Meaning.{Bindings, Meaning}
use Rattle.session_model.specs.declared.entry.Entry.{Entry}
use Rattle.notifiers.specs.declared.notice.Notice.{Notice}
use Rattle.notifiers.specs.declared.notice.Unheard.{Unheard}
use Rattle.turn_lock.specs.declared.view.View.{View}
use Rattle.turn_lock.specs.Lists.{StartsWith}
use Rattle.session_model.specs.declared.look_end.LookEnd.{LookEnd}
use Rattle.session_model.specs.declared.look_end.LookEnd.TheVariants as look
use Rattle.shared_session.specs.Home.{IsLawful}
use Rattle.shared_session.specs.declared.posts.TheConstants.{POSTS}
use Rattle.shared_session.proofs.Doing.{less_is_done}
use Rattle.link_worker.specs.Looks.{HasLooked}
use Rattle.ready_words.specs.Found.{MayBePosted}
use Rattle.ready_words.proofs.Posting.{found_may_be_posted}
use Rattle.ready_words_tests.specs.Lookups.{FindsAt}

module _ {U : Type 0} (means : U → Meaning) where
  pub finds_at : {N : Type 0} (heard : N → Option Outcome) (jmax : ℕ) (v w : View (Entry U)) (old new : List (Notice N)) (l : Lookup) (then' : Option (Unheard N)) (end : LookEnd) (back : Option (Unheard N)) →
      HasLooked means heard jmax v w old new l then' end back → FindsAt means l.level v w end
  finds_at heard jmax v w old new l then' (look.Found matches) back does = (l, refl, less_is_done means v w _ _ (λ h cs p. (p.0.0, p.0.1)) does.did)
  finds_at heard jmax v w old new l then' (look.Failed i) back does = tt
  finds_at heard jmax v w old new l then' (look.InError i) back does = tt
  finds_at heard jmax v w old new l then' (look.Missing name) back does = tt
  finds_at heard jmax v w old new l then' (look.NoDylib d) back does = tt
  finds_at heard jmax v w old new l then' (look.JournalFull len) back does = tt
  finds_at heard jmax v w old new l then' look.NoMemory back does = tt

  pub may_post : (jmax posts : ℕ) (v w now : View (Entry U)) (end : LookEnd) (matches : Bindings) → posts ≡ POSTS → end ≡ look.Found matches → FindsAt means Ready v w end → StartsWith now.seen w.seen → IsLawful means jmax now.seen → All (MayBePosted means posts now.seen) matches
  may_post jmax posts v w now end matches all is finds later lawful =
      let f = subst (FindsAt means Ready v w) is finds in
      subst (λ (n : ℕ). All (MayBePosted means n now.seen) matches) (sym all) (found_may_be_posted means jmax v w now f.0 matches f.1 f.2 later lawful)
