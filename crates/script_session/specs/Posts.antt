-- What a client's seat knows of the posts of what its lookups found.
use Rattle.std.specs.Prelude.{◌≡◌, ◌<◌, ℕ, List, All, Contains, Some}
use Rattle.orc_ids.specs.declared.ids.NameId.{NameId}
use Rattle.orc_ids.specs.declared.lookup.Level.{Level}
use Rattle.orc_ids.specs.declared.lookup.Level.TheVariants.{Ready}
use Rattle.session_model.specs.Meaning.{Bindings, Meaning}
use Rattle.session_model.specs.declared.entry.Entry.{Entry}
use Rattle.turn_lock.specs.declared.view.View.{View}
use Rattle.turn_lock.specs.Lists.{StartsWith}
use Rattle.shared_session.specs.Home.{IsLawful}
use Rattle.shared_session.specs.declared.posts.TheConstants.{POSTS}
use Rattle.ready_words.specs.Found.{HasPost, MayBePosted}
use Rattle.script_model.specs.Given.{Given, match_of}
use Rattle.script_model.specs.declared.names.GivenMatch.{GivenMatch}
use Rattle.script_model.specs.Lines.{WasReady}

module _ {U : Type 0} where
  -- the match has a post; and if the client itself found it ready, the seat knows the post to be filled with its address
  pub record KnowsMatch (v : View (Entry U)) (m : GivenMatch) : Type 0 where
    pub post : m.instance.0 < POSTS
    pub noted : WasReady m → Contains v.noted (m.instance.0, m.address)

  -- so of each match that the table has
  abbrev pub KnowsGiven : Given → View (Entry U) → Type 0
  KnowsGiven table v = (name : NameId) (m : GivenMatch) → match_of name table ≡ Some m → KnowsMatch v m

module _ {U : Type 0} (means : U → Meaning) (jmax : ℕ) where
  -- What a lookup up to this level found has posts, and may be posted where it is ready, by whoever has seen the history up to its end.
  pub record MayBeKept (level : Level) (found : Bindings) (seen : List (Entry U)) : Type 0 where
    pub posts : (now : List (Entry U)) → StartsWith now seen → IsLawful means jmax now → All HasPost found
    pub ready : level ≡ Ready → (now : List (Entry U)) → StartsWith now seen → IsLawful means jmax now → All (MayBePosted means POSTS now) found
